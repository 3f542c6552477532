-- A node enters a key once, and its stay there is one piece.
use Rattle.std.proofs.Common.{◌≡◌, ℕ, true, false, Some, refl, sym, ap, ◌∙◌}
use Rattle.cluster_types.specs.declared.cluster_key.ClusterKey.{ClusterKey}
use Rattle.cluster_types.specs.ClusterKeys.{key_lt}
use Rattle.cluster_laws.specs.Ground.{Ground, is_view_member}
use Rattle.cluster_laws.specs.Stay.{Stay, blank}
use Rattle.cluster_laws.specs.Picture.{Seen, Picture, start}
use Rattle.cluster_laws.specs.Effect.{Effect}
use Rattle.cluster_laws.specs.Changes.{act}
use Rattle.cluster_laws.proofs.At.{differ, some_same, no_some}
use Rattle.cluster_laws.proofs.Keys.{lt_irrefl, lt_past}
use Rattle.cluster_laws.proofs.Allowed.{Allowed}
use Rattle.cluster_laws.proofs.Step.{Within, exchange, Step, same, clock, enter, leave, stop, away, within, steps}

pub record Entered (G : Ground) (n : ℕ) (k : ClusterKey) (x : Seen) (s : Stay) : Type 0 where
  -- nothing stands of a key that wasn't entered
  pub fresh : s.entered ≡ false → s ≡ blank
  pub below : s.entered ≡ true → key_lt x.last k ≡ false
  pub now : x.view ≡ Some k → (s.entered ≡ true) × (x.last ≡ k)
  pub member : s.entered ≡ true → is_view_member G k n ≡ true

-- what no change in the view touches
pub record Framed (x y : Seen) (s t : Stay) : Type 0 where
  pub view : y.view ≡ x.view
  pub last : y.last ≡ x.last
  pub entered : t.entered ≡ s.entered
  pub entry : t.entry ≡ s.entry

pub framed : (G : Ground) (w v : Picture) (n : ℕ) (k : ClusterKey) (x : Seen) (s : Stay) → Within G w v n k x s → Framed (w.node n) x (w.stay n k) s
framed G w v n k _ _ (exchange ok) = record { view = refl; last = refl; entered = refl; entry = refl }
framed G w v n k _ _ _ = record { view = refl; last = refl; entered = refl; entry = refl }

entered_step : (G : Ground) (w v : Picture) (n : ℕ) (k : ClusterKey) (x : Seen) (s : Stay) → Step G w v n k x s → Entered G n k (w.node n) (w.stay n k) → Entered G n k x s
entered_step G w v n k _ _ same h = h
entered_step G w v n k _ _ (clock time) h = assumption h
entered_step G w v n k _ _ (enter ok e) h = record { fresh = λ z. differ refl z; below = λ _. lt_irrefl k; now = λ _. (refl, refl); member = λ _. ok.member }
entered_step G w v n k _ _ (leave j ok apart) h = record {
  fresh = h.fresh;
  below = λ e. lt_past k (w.node n).last j (h.below e) ok.above;
  now = λ e. absurd (apart (some_same e));
  member = h.member;
}
entered_step G w v n k _ _ stop h = record { fresh = h.fresh; below = h.below; now = λ e. no_some e; member = h.member }
entered_step G w v n k _ _ (away j view apart content stamp lost) h = assumption h
entered_step G w v n k _ _ (within x s view c) h = let f : Framed (w.node n) x (w.stay n k) s = framed G w v n k x s c in record {
  fresh = λ z. differ (h.now view).0 (sym f.entered ∙ z);
  below = λ z. ap (λ (l : ClusterKey). key_lt l k) f.last ∙ h.below (sym f.entered ∙ z);
  now = λ z. (f.entered ∙ (h.now view).0, f.last ∙ (h.now view).1);
  member = λ z. h.member (sym f.entered ∙ z);
}

abbrev pub AllEntered : Ground → Picture → Type 0
AllEntered G w = (n : ℕ) (k : ClusterKey) → Entered G n k (w.node n) (w.stay n k)

pub entered_kept : (G : Ground) (w : Picture) (e : Effect) → Allowed G w e → AllEntered G w → AllEntered G (act G e w)
entered_kept G w e ok h n k = entered_step G w (act G e w) n k _ _ (steps G w e ok n k) (h n k)

pub entered_start : (G : Ground) → AllEntered G start
entered_start G n k = record { fresh = λ _. refl; below = λ z. differ z refl; now = λ z. no_some z; member = λ z. differ z refl }
