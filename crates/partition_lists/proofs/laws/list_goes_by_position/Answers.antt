use Rattle.partition_lists.proofs.ListLaws.{list_IsListOf, list_unique}
use Rattle.partition_lists.proofs.laws.list_goes_by_position.Goals as goal

pub returns : goal.returns
returns c = record { placed = list_IsListOf; unique = list_unique }
