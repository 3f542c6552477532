use Rattle.std.proofs.Common.{◌≡◌, ◌+◌, ℕ, List, ap, arith, refl, set, subst, sym, ◌∙◌}
use Rattle.partition_state.specs.Copies.{copies_at}
use Rattle.exchange.specs.Rows.{ArePlaces, AreNextPlaces}
use Rattle.exchange.proofs.ServedLaws.{next_served, told_served}
use Rattle.exchange.proofs.served.fill_from.Goals as goal
use Rattle.exchange.proofs.served.fill_from.Goals.{in-Some, in_default}

pub loop-number-preserved : goal.loop-number-preserved
loop-number-preserved c =
    elim c.match-new.branch [
      | in-Some w ↦
          let is : w.in-Some.p ≡ c.loop-number.number = w.in-Some.ensures.1 in
          record {
            done =
                next_served c.args.lists.now c.args.rows.now c.loop-number.room c.match-new.room c.loop-number.number w.serve.result (omega arith)
                (w.room-is ∙ ap (λ (k : ℕ). set c.loop-number.room k w.serve.result) w.from.ensures)
                (told_served c.args.lists.now c.args.rows.now w.in-Some.p c.loop-number.number (copies_at c.args.rows.now w.in-Some.p) w.serve.result w.serve.ensures.served refl is)
                c.loop-number.invariant.done;
            places =
                subst (λ (k : ℕ). ArePlaces (k + 1) c.args.rows.now c.match-new.places) is
                (subst (λ (places : List ℕ). ArePlaces (w.in-Some.p + 1) c.args.rows.now places) (sym w.places-is) w.serve.ensures.places);
            next =
                subst (λ (n : ℕ). AreNextPlaces n c.args.rows.now c.match-new.places)
                (sym w.next-is)
                (subst (λ (places : List ℕ). AreNextPlaces w.serve.new.next c.args.rows.now places) (sym w.places-is) w.serve.ensures.next);
          }
      | in_default w ↦ absurd (w.in_default.ensures c.loop-number-test.true)
    ]
