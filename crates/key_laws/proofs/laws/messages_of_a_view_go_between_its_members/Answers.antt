use Rattle.key_laws.proofs.AllowedRuns.{goes_between, comes_from_other}
use Rattle.key_laws.proofs.laws.messages_of_a_view_go_between_its_members.Goals as goal

pub returns : goal.returns
returns c = record { between = goes_between; at_receiver = comes_from_other }
