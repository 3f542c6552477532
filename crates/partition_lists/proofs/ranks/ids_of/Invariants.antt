use Rattle.std.proofs.Common.{◌≡◌, map, take}
use Rattle.partition_lists.specs.RankKeys.{id_in}
use Rattle.partition_lists.proofs.ranks.ids_of.Given as goal

abbrev pub invariant-loop-key : goal.invariant-loop-key
invariant-loop-key l = l.ids ≡ map id_in (take l.key-index l.keys)
