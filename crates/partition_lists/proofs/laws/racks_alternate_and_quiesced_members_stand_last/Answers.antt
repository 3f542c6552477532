use Rattle.partition_lists.proofs.StandingLaws.{quiesced_last, first_of_racks_before, one_is_repeat}
use Rattle.partition_lists.proofs.laws.racks_alternate_and_quiesced_members_stand_last.Goals as goal

pub returns : goal.returns
returns c = record { quiesced = quiesced_last; racks = first_of_racks_before; repeats = one_is_repeat }
