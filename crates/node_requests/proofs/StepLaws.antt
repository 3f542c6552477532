-- A step, line by line.
use Rattle.std.proofs.Common.{◌≡◌, ◌+◌, ℕ, List, ◌++◌, drop, slice_get, Option, Some, sym, ap, ap₂, subst, ◌∙◌}
use Rattle.std.proofs.lemmas.List.{append_assoc, map-append}
use Rattle.conflict_order.specs.declared.want.Want.{Want}
use Rattle.cluster_types.specs.declared.cluster_key.ClusterKey.{ClusterKey}
use Rattle.journal_lines.specs.declared.line.Line.{Line}
use Rattle.wire_messages.specs.declared.message.Message.{Message}
use Rattle.wire_messages.specs.Proper.{IsProper}
use Rattle.wire_messages.specs.Spelling.{spelling}
use Rattle.node_steps.specs.Spelled.{spelled_sends}
use Rattle.request_rules.specs.declared.taken.Asker.{Asker}
use Rattle.request_rules.specs.LineNotes.{note_request, noted_requests}
use Rattle.request_rules.specs.Requests.{NodeRequests}
use Rattle.request_rules.specs.TakenUp.{note_taken, owed, owed_by_line}
use Rattle.node_requests.specs.Planned.{CanAllCount, CanCount, HaveSpellings}
use Rattle.node_requests.proofs.ListLaws.{all_behind, all_front, rest_at}

module _ (key : ClusterKey) (a : Option Asker) (w : Option Want) (ls : List Line) (i : ℕ) (l : Line) (at : slice_get ls i ≡ Some l) (r : NodeRequests) where
  counted : CanAllCount a w r (drop i ls) → CanCount a r l × CanAllCount a w (note_request a w r l) (drop (i + 1) ls)
  counted h = subst (CanAllCount a w r) (rest_at ls i l at) h

  pub count_here : CanAllCount a w r (drop i ls) → CanCount a r l
  count_here h = (counted h).0

  pub count_on : (q : NodeRequests) → q ≡ note_request a w r l → CanAllCount a w r (drop i ls) → CanAllCount a w q (drop (i + 1) ls)
  count_on q e h = subst (λ (s : NodeRequests). CanAllCount a w s (drop (i + 1) ls)) (sym e) (counted h).1

  spells : HaveSpellings (owed key a r.taken (drop i ls)) → HaveSpellings (owed_by_line key a r.taken l ++ owed key a (note_taken a r.taken l) (drop (i + 1) ls))
  spells h = subst (λ (ms : List Line). HaveSpellings (owed key a r.taken ms)) (rest_at ls i l at) h

  pub spelled_here : HaveSpellings (owed key a r.taken (drop i ls)) → HaveSpellings (owed_by_line key a r.taken l)
  spelled_here h = all_front (λ (m : ℕ × Message). IsProper m.1) (owed_by_line key a r.taken l) (owed key a (note_taken a r.taken l) (drop (i + 1) ls)) (spells h)

  pub spelled_on : (q : NodeRequests) → q ≡ note_request a w r l → HaveSpellings (owed key a r.taken (drop i ls)) → HaveSpellings (owed key a q.taken (drop (i + 1) ls))
  spelled_on q e h =
      subst (λ (s : NodeRequests). HaveSpellings (owed key a s.taken (drop (i + 1) ls))) (sym e)
      (all_behind (λ (m : ℕ × Message). IsProper m.1) (owed_by_line key a r.taken l) (owed key a (note_taken a r.taken l) (drop (i + 1) ls)) (spells h))

  pub noted_on : (q : NodeRequests) → q ≡ note_request a w r l → noted_requests a w q (drop (i + 1) ls) ≡ noted_requests a w r (drop i ls)
  noted_on q e = ap (λ (s : NodeRequests). noted_requests a w s (drop (i + 1) ls)) e ∙ sym (ap (noted_requests a w r) (rest_at ls i l at))

  pub sends_on : (q : NodeRequests) (sends told : List (ℕ × List ℕ)) → q ≡ note_request a w r l → told ≡ sends ++ spelled_sends (owed_by_line key a r.taken l) → told ++ spelled_sends (owed key a q.taken (drop (i + 1) ls)) ≡ sends ++ spelled_sends (owed key a r.taken (drop i ls))
  sends_on q sends told e h =
      ap₂ (λ (ms : List (ℕ × List ℕ)) (s : NodeRequests). ms ++ spelled_sends (owed key a s.taken (drop (i + 1) ls))) h e
      ∙ append_assoc sends (spelled_sends (owed_by_line key a r.taken l)) (spelled_sends (owed key a (note_taken a r.taken l) (drop (i + 1) ls)))
      ∙ ap (λ ms. sends ++ ms) (sym (map-append (λ (m : ℕ × Message). (m.0, spelling m.1)) (owed_by_line key a r.taken l) (owed key a (note_taken a r.taken l) (drop (i + 1) ls))))
      ∙ ap (λ ms. sends ++ spelled_sends (owed key a r.taken ms)) (sym (rest_at ls i l at))
