use Rattle.partition_lists.proofs.ListLaws.{list_permutation, list_contains, list_length, list_distinct}
use Rattle.partition_lists.proofs.laws.list_has_each_member_once.Goals as goal

pub returns : goal.returns
returns c = record { members = list_permutation; length = list_length; contains = list_contains; distinct = list_distinct }
