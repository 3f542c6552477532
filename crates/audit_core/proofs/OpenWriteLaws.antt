-- What is known of a view's writes stays behind a line that is neither a write nor its end.
use Rattle.std.proofs.Common.{◌≡◌, ℕ, ◌==◌, ◌+◌, Bool, true, false, ◌&&◌, cond, List, [], ◌∷◌, ◌++◌, Some, refl, sym, ap, ap₂, ◌∙◌, arith}
use Rattle.std.specs.HashMap as hash
use Rattle.std.specs.List.{count_by}
use Rattle.cluster_types.specs.declared.cluster_key.ClusterKey.{ClusterKey}
use Rattle.journal_lines.specs.declared.line.Line.{Line}
use Rattle.journal_lines.specs.declared.line.Line.TheVariants as line
use Rattle.journal_readings.specs.Lines.{has_node, is_done_line}
use Rattle.journal_readings.specs.Settled.{is_open_write}
use Rattle.audit_laws.specs.Fits.{enters_key}
use Rattle.audit_laws.proofs.Quiet.{master-other}
use Rattle.audit_core.specs.declared.judge.Judge.{Judge}
use Rattle.audit_state.specs.declared.views.View.{View}
use Rattle.audit_state.specs.Keys.{pair_eq}
use Rattle.audit_state.specs.OpenWrites.{done_in, open_in, is_done_write, open_of}
use Rattle.audit_core.specs.Known.{kept_view}
use Rattle.audit_core.specs.Sees.{SeesWrites, is_open_in}
use Rattle.audit_core.specs.Trying.{KeepsKnown, SameButStands}
use Rattle.audit_core.proofs.StillLaws.{IsStill, any-more, count-more, count_same, opens_same}
use Rattle.audit_core.proofs.TryLaws.{was_there}

-- each view was there, with the same writes
pub record SameWrites (old new : Judge) : Type 0 where
  pub views : (k : ClusterKey) (y : View) → kept_view new k ≡ Some y → (x : View) × (kept_view old k ≡ Some x) × (y.writes ≡ x.writes)

same_done : (x y : View) (n t : ℕ) → y.writes ≡ x.writes → is_done_write y n t ≡ is_done_write x n t
same_done x y n t e = ap (λ (w : _). done_in (hash.get pair_eq w (n, t))) e

same_open : (x y : View) (n t : ℕ) → y.writes ≡ x.writes → open_of y n t ≡ open_of x n t
same_open x y n t e = ap (λ (w : _). open_in (hash.get pair_eq w (n, t))) e

pub writes_same : (old new : Judge) (j : List Line) → SameWrites old new → SeesWrites old j → SeesWrites new j
writes_same old new j same h = record {
  done = λ k y n t e. let x : (x : View) × (kept_view old k ≡ Some x) × (y.writes ≡ x.writes) = same.views k y e in
      same_done x.0 y n t x.2 ∙ h.done k x.0 n t x.1;
  open_writes = λ k y n t p e m. let x : (x : View) × (kept_view old k ≡ Some x) × (y.writes ≡ x.writes) = same.views k y e in
      ap (count_by (λ (q : ℕ). q == p)) (same_open x.0 y n t x.2) ∙ h.open_writes k x.0 n t p x.1 m;
  by_master = λ k y n t p e has. let x : (x : View) × (kept_view old k ≡ Some x) × (y.writes ≡ x.writes) = same.views k y e in
      h.by_master k x.0 n t p x.1 (ap (λ (ps : List ℕ). has_node ps p) (sym (same_open x.0 y n t x.2)) ∙ has);
}

-- only what is to be tried changed
pub writes_tried : (old new : Judge) → KeepsKnown old new → SameWrites old new
writes_tried old new keeps = record {
  views = λ k y e. let x : (x : View) × (kept_view old k ≡ Some x) × SameButStands x y = was_there (kept_view old k) (kept_view new k) y (keeps.views k) e in
      (x.0, x.1, ap (λ (v : View). v.writes) x.2.rest);
}

-- ---- one line more

-- the line is none of the view's entries, no write in it and ends none
pub record LeavesWrites (l : Line) : Type 0 where
  pub enters : (k : ClusterKey) → enters_key k l ≡ false
  pub ends : (k : ClusterKey) (n t : ℕ) → is_done_line k n t l ≡ false
  pub opens : (k : ClusterKey) (p n : ℕ) (j : List Line) → is_open_write k p n j l ≡ false

pub still_leaves : (l : Line) → IsStill l → LeavesWrites l
still_leaves l still = record { enters = still.enters; ends = still.ends; opens = still.opens }

opens_none : (k : ClusterKey) (p n t : ℕ) (j : List Line) (l : Line) → is_open_write k p n j l ≡ false → is_open_in k p n t j l ≡ false
opens_none k p n t j (line.Apply m o u d v) e = go (u == t) _ e
  where
    go : (a b : Bool) → b ≡ false → (a && b) ≡ false
    go true b f = f
    go false b f = refl
opens_none k p n t j l e = refl

pub opened_same : (k : ClusterKey) (p n t : ℕ) (j : List Line) (l : Line) → ((u : ℕ) → is_done_line k n u l ≡ false) → (x : Line) → is_open_in k p n t (j ++ l ∷ []) x ≡ is_open_in k p n t j x
opened_same k p n t j l h (line.Apply m o u d v) = ap (λ (b : Bool). (u == t) && b) (opens_same k p n j l h (line.Apply m o u d v))
opened_same k p n t j l h x = refl

opened_count : (k : ClusterKey) (p n t : ℕ) (j : List Line) (l : Line) → LeavesWrites l → count_by (is_open_in k p n t (j ++ l ∷ [])) (j ++ l ∷ []) ≡ count_by (is_open_in k p n t j) j
opened_count k p n t j l leaves =
    count-more (is_open_in k p n t (j ++ l ∷ [])) j l
    ∙ (ap₂ (λ (a : ℕ) (b : Bool). a + cond b 1 0) (count_same _ _ (opened_same k p n t j l (leaves.ends k n)) j 0) (opens_none k p n t (j ++ l ∷ []) l (leaves.opens k p n (j ++ l ∷ [])))
    ∙ none_added (count_by (is_open_in k p n t j) j))
  where
    none_added : (a : ℕ) → a + 0 ≡ a
    none_added a = omega arith

pub writes_left : (s : Judge) (j : List Line) (l : Line) → LeavesWrites l → SeesWrites s j → SeesWrites s (j ++ l ∷ [])
writes_left s j l leaves h = record {
  done = λ k x n t e. h.done k x n t e ∙ sym (any-more (is_done_line k n t) j l (leaves.ends k n t));
  open_writes = λ k x n t p e m. h.open_writes k x n t p e (sym (master-other k p j l (leaves.enters k)) ∙ m) ∙ sym (opened_count k p n t j l leaves);
  by_master = λ k x n t p e has. master-other k p j l (leaves.enters k) ∙ h.by_master k x n t p e has;
}
