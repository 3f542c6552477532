use Rattle.node_rules.proofs.Merged.{merges_lines, merges_content, merges_facts}
use Rattle.node_rules.proofs.laws.batch_merges_what_is_newer.Goals as goal

pub returns : goal.returns
returns c = record { lines = merges_lines; content = merges_content; facts = merges_facts }
