use Rattle.cluster_rules.proofs.RunLaws.{one_journal}
use Rattle.cluster_rules.proofs.world_laws.a_script_has_one_journal.Goals as goal

pub returns : goal.returns
returns c = one_journal
