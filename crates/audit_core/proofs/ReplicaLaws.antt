-- A replica holds the fold of each record of a partition, or it doesn't.
use Rattle.std.proofs.Common.{◌≡◌, ℕ, ◌==◌, ◌≤◌, Bool, true, false, ◌&&◌, ◌||◌, List, [], ◌∷◌, length, Option, Some, None, option_map, ◌⊎◌, inl, inr, refl, sym, ap, ap₂, subst, ◌∙◌, arith, length-take}
use Rattle.std.specs.Prelude.{is_some, take, fold, nat_eq, option_and_then, slice_get}
use Rattle.std.specs.HashMap as hash
use Rattle.std.specs.List.{list_all}
use Rattle.std.proofs.lemmas.Bool.{or_left}
use Rattle.conflict_order.specs.declared.policy.Policy.{Policy}
use Rattle.conflict_order.specs.declared.version.Version.{Version}
use Rattle.conflict_order.specs.Join.{join, AtMost}
use Rattle.conflict_order.proofs.JoinLaws.{join_left, join_right, join_least}
use Rattle.conflict_order.proofs.OrderLaws.{AtMost_none, AtMost_trans, AtMost_antisymm, AtMost_eq}
use Rattle.cluster_types.specs.declared.cluster_key.ClusterKey.{ClusterKey}
use Rattle.cluster_types.specs.declared.member.Member.{Member}
use Rattle.cluster_types.specs.Members.{ids_of}
use Rattle.journal_lines.specs.declared.line.Line.{Line}
use Rattle.journal_lines.specs.declared.line.Line.TheVariants as line
use Rattle.journal_readings.specs.Lines.{has_node, is_enter, lines_before}
use Rattle.journal_readings.specs.Shape.{Shape}
use Rattle.journal_readings.specs.Views.{members}
use Rattle.journal_readings.proofs.AlongLaws.{no_some, some_same}
use Rattle.journal_readings.proofs.Fronts.{and_left, and_right, same_key_is}
use Rattle.audit_laws.proofs.ShapeSteps.{members_are}
use Rattle.audit_laws.proofs.Tests.{differ, number_same, number_here}
use Rattle.audit_core.specs.declared.judge.Judge.{Judge}
use Rattle.audit_state.specs.declared.views.View.{View}
use Rattle.audit_state.specs.Histories.{value_after}
use Rattle.audit_state.specs.Places.{placed, is_at_most}
use Rattle.audit_state.specs.Stores.{history_of, changes_of}
use Rattle.audit_state.specs.Views.{entry_line}
use Rattle.audit_state.specs.Written.{written_of}
use Rattle.audit_state.proofs.HistoryLaws.{now_at}
use Rattle.audit_state.proofs.PlaceLaws.{at_most_is, at_most_so}
use Rattle.audit_core.specs.Audits.{so_far}
use Rattle.audit_core.specs.Folds.{entry_place, folded, folded_in}
use Rattle.audit_core.specs.Holders.{content_now}
use Rattle.audit_core.specs.Known.{view_at, kept_view}
use Rattle.audit_core.specs.Replicas.{HoldsFolds, PartsFolds, holds_at_most, holds_fold, written_from, TellsNoMore, TellsNoMoreSince, CoversEntry, PartsEntry}
use Rattle.audit_core.specs.Shapes.{entry_in}
use Rattle.audit_core.specs.Stored.{IsRecordOf, IsUnchanged}
use Rattle.audit_core.specs.Trying.{SeesLines}
use Rattle.audit_core.proofs.BoundLaws.{has_entered_view, view_entered, present_so}
use Rattle.audit_core.proofs.CoverageLaws.{failed, changed_or, ChangedBetween}
use Rattle.audit_core.proofs.JoinedLaws.{passed}
use Rattle.audit_core.proofs.FoldLaws.{front_lines}
use Rattle.audit_core.proofs.KeyLaws.{any_at}
use Rattle.audit_core.proofs.ShapeLaws.{before_any}

-- ---- joins over the members

above_start : (by : Policy) (f : ℕ → Option Version) (ms : List Member) (start : Option Version) → AtMost by start (fold (λ v m. join by v (f m.id)) start ms)
above_start by f [] start = AtMost_eq refl
above_start by f (m ∷ ms) start = AtMost_trans (join_left start (f m.id)) (above_start by f ms (join by start (f m.id)))

above_each : (by : Policy) (f : ℕ → Option Version) (ms : List Member) (start : Option Version) (n : ℕ) → has_node (ids_of ms) n ≡ true → AtMost by (f n) (fold (λ v m. join by v (f m.id)) start ms)
above_each by f [] start n h = differ h refl
above_each by f (m ∷ ms) start n h = go (m.id == n) refl h (above_each by f ms (join by start (f m.id)) n)
  where
    go : (b : Bool) → (m.id == n) ≡ b → (b || has_node (ids_of ms) n) ≡ true → (has_node (ids_of ms) n ≡ true → AtMost by (f n) (fold (λ v y. join by v (f y.id)) (join by start (f m.id)) ms))
        → AtMost by (f n) (fold (λ v y. join by v (f y.id)) (join by start (f m.id)) ms)
    go false e q rest = rest q
    go true e q rest = subst (λ (z : ℕ). AtMost by (f z) (fold (λ v y. join by v (f y.id)) (join by start (f m.id)) ms)) (number_same m.id n e)
        (AtMost_trans (join_right start (f m.id)) (above_start by f ms (join by start (f m.id))))

least_above : (by : Policy) (f : ℕ → Option Version) (ms : List Member) (start top : Option Version) → AtMost by start top → ((n : ℕ) → has_node (ids_of ms) n ≡ true → AtMost by (f n) top) → AtMost by (fold (λ v m. join by v (f m.id)) start ms) top
least_above by f [] start top low each = low
least_above by f (m ∷ ms) start top low each = least_above by f ms (join by start (f m.id)) top (join_least low (each m.id (or_left (m.id == m.id) (has_node (ids_of ms) m.id) (number_here m.id)))) (λ n h. each n (later (m.id == n) (has_node (ids_of ms) n) h))
  where
    later : (a b : Bool) → b ≡ true → (a || b) ≡ true
    later true b e = refl
    later false b e = e

-- ---- the tests of one record

pub at_most_told : (s : Judge) (k : ClusterKey) (n r : ℕ) (held fold : Option ℕ) (b : Bool)
    → held ≡ content_now s n r → placed s.lines.now fold ≡ folded s (kept_view s k) r
    → b ≡ is_at_most s.by (placed s.lines.now held) (placed s.lines.now fold)
    → b ≡ holds_at_most s k n r
at_most_told s k n r held fold b holds said told =
    told
    ∙ ap₂ (λ (x : Option ℕ) (y : Option Version). is_at_most s.by (placed s.lines.now x) y)
    holds said

pub fold_told : (s : Judge) (k : ClusterKey) (n r : ℕ) (held fold : Option ℕ) (a b : Bool)
    → held ≡ content_now s n r → placed s.lines.now fold ≡ folded s (kept_view s k) r
    → a ≡ is_at_most s.by (placed s.lines.now held) (placed s.lines.now fold) → a ≡ true
    → b ≡ is_at_most s.by (placed s.lines.now fold) (placed s.lines.now held)
    → b ≡ holds_fold s k n r
fold_told s k n r held fold a b holds said most is told =
    told
    ∙ (ap₂ (λ (x : Option ℕ) (y : Option Version). is_at_most s.by y (placed s.lines.now x))
    holds said
    ∙ ap (λ (c : Bool). c && is_at_most s.by (folded s (kept_view s k) r)
    (placed s.lines.now (content_now s n r)))
    (sym is ∙ at_most_told s k n r held fold a holds said most))

pub fold_not : (s : Judge) (k : ClusterKey) (n r : ℕ) (held fold : Option ℕ) (a : Bool)
    → held ≡ content_now s n r → placed s.lines.now fold ≡ folded s (kept_view s k) r
    → a ≡ is_at_most s.by (placed s.lines.now held) (placed s.lines.now fold) → a ≡ false
    → a ≡ holds_fold s k n r
fold_not s k n r held fold a holds said most is =
    is
    ∙ ap (λ (c : Bool). c && is_at_most s.by (folded s (kept_view s k) r)
    (placed s.lines.now (content_now s n r)))
    (sym is ∙ at_most_told s k n r held fold a holds said most)

-- ---- a node in a view is a member and entered it

entered_member : (j : List Line) (a : ℕ) (x : Line) (k : ClusterKey) (n : ℕ) → Shape j → slice_get j a ≡ Some x → is_enter k n x ≡ true → has_node (ids_of (members k j)) n ≡ true
entered_member j a (line.Enter m l ms) k n shape e h =
    let same : l ≡ k = same_key_is l k (and_right (m == n) _ h) in
    let here : slice_get j a ≡ Some (line.Enter m k ms) = subst (λ (z : ClusterKey). slice_get j a ≡ Some (line.Enter m z ms)) same e in
    subst (λ (z : ℕ). has_node (ids_of (members k j)) z ≡ true) (number_same m n (and_left (m == n) _ h))
    (subst (λ (others : List Member). has_node (ids_of others) m ≡ true) (members_are j shape.one_list a m k ms here) (and_left (has_node (ids_of ms) m) _ (shape.entered a (line.Enter m l ms) e)))
entered_member j a x k n shape e h = differ h refl

pub known_there : (s : Judge) (i : ℕ) (k : ClusterKey) (n : ℕ) → SeesLines s i → view_at s n ≡ Some k → (x : View) × (kept_view s k ≡ Some x)
known_there s i k n h present = go (kept_view s k) refl
  where
    go : (o : Option View) → kept_view s k ≡ o → (x : View) × (kept_view s k ≡ Some x)
    go (Some x) e = (x, e)
    go None e = differ (h.frame.known_views k ∙ view_entered n k (so_far s i) (sym (present_so s i n h) ∙ present)) (ap is_some e)

is_member : (s : Judge) (i : ℕ) (k : ClusterKey) (n : ℕ) (x : View) → SeesLines s i → view_at s n ≡ Some k → kept_view s k ≡ Some x → has_node (ids_of x.members) n ≡ true
is_member s i k n x h present there =
    let first : (a : ℕ) × (y : Line) × (slice_get (so_far s i) a ≡ Some y) × (is_enter k n y ≡ true) = any_at (is_enter k n) (so_far s i) (has_entered_view n k (so_far s i) (sym (present_so s i n h) ∙ present)) in
    ap (λ (ms : List Member). has_node (ids_of ms) n) (h.frame.views k x there).members ∙ entered_member (so_far s i) first.0 first.1 k n h.shape first.2 first.3

-- the lines before an entry are some of those so far
pub entered_within : (s : Judge) (i : ℕ) (k : ClusterKey) (m a : ℕ) (x : View) → SeesLines s i → kept_view s k ≡ Some x → entry_line x m ≡ Some a → a ≤ i
entered_within s i k m a x h there e = go (lines_before (is_enter k m) (so_far s i)) refl (sym ((h.frame.views k x there).entered m) ∙ e)
  where
    go : (o : Option (List Line)) → lines_before (is_enter k m) (so_far s i) ≡ o → option_map length o ≡ Some a → a ≤ i
    go None q r = absurd (no_some r)
    go (Some b) q r = let front : (take (length b) (so_far s i) ≡ b) × (length b ≤ length (so_far s i)) = front_lines (is_enter k m) (so_far s i) b q in
        omega (arith, front.1, some_same r, length-take i s.lines.now)

-- ---- all of the tests passed

module _ (s : Judge) (i : ℕ) (k : ClusterKey) (n p : ℕ) (x : View) (h : SeesLines s i) (present : view_at s n ≡ Some k) (there : kept_view s k ≡ Some x) where
  folded_here : (r : ℕ) → folded s (kept_view s k) r ≡ folded_in s x r
  folded_here r = ap (λ (o : Option View). folded s o r) there

  pub entry_under : (r m : ℕ) → has_node (ids_of x.members) m ≡ true → AtMost s.by (placed s.lines.now (entry_place s x r m)) (folded s (kept_view s k) r)
  entry_under r m member = subst (AtMost s.by (placed s.lines.now (entry_place s x r m))) (sym (folded_here r))
      (above_each s.by (λ m. placed s.lines.now (entry_place s x r m)) x.members (placed s.lines.now (hash.get nat_eq x.applied r)) m member)

  module _ (entries : (m : ℕ) → has_node (ids_of x.members) m ≡ true → CoversEntry s k n m p) (written : list_all (holds_fold s k n) (written_from (kept_view s k) p) ≡ true)
      (no_more : TellsNoMoreSince s k n (entry_in (kept_view s k) n) (changes_of s.stores n p) true) where
    -- a record that was applied in the view
    written_here : (r : ℕ) → has_node (written_of x p) r ≡ true → placed s.lines.now (content_now s n r) ≡ folded s (kept_view s k) r
    written_here r e =
        let both : holds_fold s k n r ≡ true = passed (holds_fold s k n) (written_of x p) r (subst (λ (o : Option View). list_all (holds_fold s k n) (written_from o p) ≡ true) there written) e in
        AtMost_antisymm (at_most_is s.by (placed s.lines.now (content_now s n r)) (folded s (kept_view s k) r) (and_left (holds_at_most s k n r) _ both))
        (at_most_is s.by (folded s (kept_view s k) r) (placed s.lines.now (content_now s n r)) (and_right (holds_at_most s k n r) _ both))

    -- of any other the fold is the join of what the members held
    fold_under : (r : ℕ) → IsRecordOf s.records r p → hash.get nat_eq x.applied r ≡ None → AtMost s.by (folded s (kept_view s k) r) (placed s.lines.now (content_now s n r))
    fold_under r part none = subst (λ (v : Option Version). AtMost s.by v (placed s.lines.now (content_now s n r))) (sym (folded_here r))
        (least_above s.by (λ m. placed s.lines.now (entry_place s x r m)) x.members (placed s.lines.now (hash.get nat_eq x.applied r)) (placed s.lines.now (content_now s n r))
        (subst (λ (o : Option ℕ). AtMost s.by (placed s.lines.now o) (placed s.lines.now (content_now s n r))) (sym none) (AtMost_none (placed s.lines.now (content_now s n r))))
        (λ m member. at_most_is s.by (placed s.lines.now (entry_place s x r m)) (placed s.lines.now (content_now s n r)) (entries m member x r there part)))

    -- and the node holds no more: it holds what it held as it entered, or the record changed since
    since : (r a : ℕ) → IsRecordOf s.records r p → entry_line x n ≡ Some a → AtMost s.by (placed s.lines.now (content_now s n r)) (folded s (kept_view s k) r)
    since r a part entered = go (changed_or (changes_of s.stores n p) r a i)
      where
        tells : TellsNoMore s k n a (changes_of s.stores n p) true
        tells = subst (λ (o : Option ℕ). TellsNoMoreSince s k n o (changes_of s.stores n p) true) (ap (λ (o : Option View). entry_in o n) there ∙ entered) no_more

        go : ChangedBetween (changes_of s.stores n p) r a i ⊎ IsUnchanged (changes_of s.stores n p) r a i → AtMost s.by (placed s.lines.now (content_now s n r)) (folded s (kept_view s k) r)
        go (inl y) = at_most_is s.by (placed s.lines.now (content_now s n r)) (folded s (kept_view s k) r) (subst (λ (z : ℕ). holds_at_most s k n z ≡ true) y.2 (tells y.0 y.1 y.3))
        go (inr same) =
            let held : content_now s n r ≡ entry_place s x r n = now_at (history_of s.stores n r) i (h.stores.contents.below n r)
            ∙ (sym (h.stores.copies.changes n p r a i part (entered_within s i k n a x h there entered) same) ∙ sym (ap (option_and_then (λ b. value_after (history_of s.stores n r) b)) entered)) in
            subst (λ (o : Option ℕ). AtMost s.by (placed s.lines.now o) (folded s (kept_view s k) r)) (sym held) (entry_under r n (is_member s i k n x h present there))

    no_above : (r : ℕ) → IsRecordOf s.records r p → AtMost s.by (placed s.lines.now (content_now s n r)) (folded s (kept_view s k) r)
    no_above r part = go (entry_line x n) refl
      where
        go : (o : Option ℕ) → entry_line x n ≡ o → AtMost s.by (placed s.lines.now (content_now s n r)) (folded s (kept_view s k) r)
        go (Some a) e = since r a part e
        go None e = differ (subst (λ (o : Option ℕ). is_some o ≡ true) e (entered_some (lines_before (is_enter k n) (so_far s i)) refl)) refl
          where
            entered_some : (o : Option (List Line)) → lines_before (is_enter k n) (so_far s i) ≡ o → is_some (entry_line x n) ≡ true
            entered_some (Some b) q = ap is_some ((h.frame.views k x there).entered n ∙ ap (option_map length) q)
            entered_some None q = differ (has_entered_view n k (so_far s i) (sym (present_so s i n h) ∙ present)) (sym (before_any (is_enter k n) (so_far s i)) ∙ ap is_some q)

    pub holds_folds : HoldsFolds s k n p
    holds_folds r part = go (has_node (written_of x p) r) refl
      where
        applied_none : has_node (written_of x p) r ≡ false → (o : Option ℕ) → hash.get nat_eq x.applied r ≡ o → o ≡ None
        applied_none e None q = refl
        applied_none e (Some a) q =
            let l : (u : ℕ) × IsRecordOf s.records r u × (has_node (written_of x u) r ≡ true) = h.stores.written.listed k x r there (ap is_some q) in
            differ (subst (λ (u : ℕ). has_node (written_of x u) r ≡ true) (some_same (sym l.1 ∙ part)) l.2) e

        go : (b : Bool) → has_node (written_of x p) r ≡ b → placed s.lines.now (content_now s n r) ≡ folded s (kept_view s k) r
        go true e = written_here r e
        go false e = AtMost_antisymm (no_above r part) (fold_under r part (let none : (o : Option ℕ) → hash.get nat_eq x.applied r ≡ o → hash.get nat_eq x.applied r ≡ None = λ o q. q ∙ applied_none e o q in none (hash.get nat_eq x.applied r) refl))

-- ---- one of them failed

-- the node holds less than a member held as it entered
pub entry_parts : (s : Judge) (k : ClusterKey) (n m p : ℕ) (u : PartsEntry s k n m p) → has_node (ids_of u.known.members) m ≡ true → PartsFolds s k n p
entry_parts s k n m p u member = record {
  number = u.number;
  part = u.part;
  parted = λ same.
      let under : AtMost s.by (placed s.lines.now (entry_place s u.known u.number m)) (folded s (kept_view s k) u.number) =
      subst (AtMost s.by (placed s.lines.now (entry_place s u.known u.number m))) (sym (ap (λ (o : Option View). folded s o u.number) u.there))
      (above_each s.by (λ q. placed s.lines.now (entry_place s u.known u.number q)) u.known.members (placed s.lines.now (hash.get nat_eq u.known.applied u.number)) m member) in
      differ (at_most_so s.by (placed s.lines.now (entry_place s u.known u.number m)) (placed s.lines.now (content_now s n u.number)) (subst (AtMost s.by (placed s.lines.now (entry_place s u.known u.number m))) (sym same) under)) u.less;
}

-- it holds another version than the fold of a record that was applied in the view
pub written_parts : (s : Judge) (i : ℕ) (k : ClusterKey) (n p : ℕ) (b : Bool) → SeesLines s i → b ≡ list_all (holds_fold s k n) (written_from (kept_view s k) p) → b ≡ false → PartsFolds s k n p
written_parts s i k n p b h told e = go (kept_view s k) refl
  where
    both : (a c : Bool) → a ≡ true → c ≡ true → (a && c) ≡ true
    both true c q r = r
    both false c q r = q

    fails : (r : ℕ) → holds_fold s k n r ≡ false → placed s.lines.now (content_now s n r) ≡ folded s (kept_view s k) r → ⊥
    fails r f same = differ (both (holds_at_most s k n r) (is_at_most s.by (folded s (kept_view s k) r) (placed s.lines.now (content_now s n r)))
        (at_most_so s.by (placed s.lines.now (content_now s n r)) (folded s (kept_view s k) r) (AtMost_eq same)) (at_most_so s.by (folded s (kept_view s k) r) (placed s.lines.now (content_now s n r)) (AtMost_eq (sym same)))) f

    go : (o : Option View) → kept_view s k ≡ o → PartsFolds s k n p
    go None q = differ (ap (λ (o : Option View). list_all (holds_fold s k n) (written_from o p)) q) (sym told ∙ e)
    go (Some x) q =
        let w : (r : ℕ) × (has_node (written_of x p) r ≡ true) × (holds_fold s k n r ≡ false) = failed (holds_fold s k n) (written_of x p) (sym (ap (λ (o : Option View). list_all (holds_fold s k n) (written_from o p)) q) ∙ (sym told ∙ e)) in
        record { number = w.0; part = h.stores.written.listed_only k x p w.0 q w.1; parted = fails w.0 w.2 }

-- it holds more than the fold of a record that changed since it entered
pub more_parts : (s : Judge) (i : ℕ) (k : ClusterKey) (n p : ℕ) (o : Option ℕ) (b : Bool) → SeesLines s i → TellsNoMoreSince s k n o (changes_of s.stores n p) b → b ≡ false → PartsFolds s k n p
more_parts s i k n p None b h told e = differ told e
more_parts s i k n p (Some a) true h told e = differ refl e
more_parts s i k n p (Some a) false h told e = record {
  number = told.0.number;
  part = h.stores.copies.changes_only n p told.0 told.1;
  parted = λ same. differ (at_most_so s.by (placed s.lines.now (content_now s n told.0.number)) (folded s (kept_view s k) told.0.number) (AtMost_eq same)) told.2;
}
