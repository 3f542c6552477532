use Rattle.std.proofs.Common.{length-take}
use Rattle.std.proofs.lemmas.List.{take-append-drop}
use Rattle.partition_lists.specs.Lists.{replicas, list}
use Rattle.partition_lists.proofs.ListLaws.{any_is_contained}
use Rattle.partition_lists.proofs.laws.replicas_stand_first.Goals as goal

pub returns : goal.returns
returns c = record {
  first = λ ids factor. take-append-drop factor ids;
  length = λ ids factor. length-take factor ids;
  replica = λ n members p factor. any_is_contained n (replicas (list members p) factor);
}
