use Rattle.std.proofs.Common.{rules}
use Rattle.script_lang.proofs.nodes.new_node.Goals as goal

pub returns : goal.returns
returns c = search rules
