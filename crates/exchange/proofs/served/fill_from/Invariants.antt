use Rattle.std.proofs.Common.{◌≡◌, ◌<◌, ℕ}
use Rattle.std.specs.Prelude.{slice_index_or}
use Rattle.partition_lists.specs.Lists.{list}
use Rattle.partition_state.specs.Copies.{copies_at}
use Rattle.exchange.specs.declared.served.Served.{Served}
use Rattle.exchange.specs.Rows.{ArePlaces, AreNextPlaces}
use Rattle.exchange.specs.Served.{served_by}
use Rattle.exchange.proofs.served.fill_from.Given as goal

abbrev pub invariant-loop-number : goal.invariant-loop-number
invariant-loop-number l = record {
  done : (p : ℕ) (d : Served) → p < l.number → slice_index_or l.room p d ≡ served_by (list l.lists p) (copies_at l.rows p);
  places : ArePlaces l.number l.rows l.places;
  next : AreNextPlaces l.next l.rows l.places;
}
