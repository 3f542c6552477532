use Rattle.node_rules.proofs.SettlingLaws.{asleep_is_quiet, over_is_quiet}
use Rattle.node_rules.proofs.laws.quiet_partitions_have_no_lines.Goals as goal

pub returns : goal.returns
returns c = record { asleep = asleep_is_quiet; over = over_is_quiet }
