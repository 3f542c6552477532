use Rattle.run_laws.proofs.Worlds.{counts_few}
use Rattle.run_laws.proofs.laws.nodes_count_no_more_than_lines.Goals as goal

pub returns : goal.returns
returns c = counts_few
