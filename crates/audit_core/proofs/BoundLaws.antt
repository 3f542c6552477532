-- Which partitions are settled with their list master in the view is told by what is known.
use Rattle.std.proofs.Common.{◌≡◌, ℕ, ◌==◌, ◌<◌, ◌≤◌, Bool, true, false, not, ◌&&◌, ◌||◌, cond, List, [], ◌∷◌, length, Option, Some, None, option_map, ◌⊎◌, inl, inr, ◌↔◌, refl, sym, ap, ap₂, subst, ◌∙◌, arith}
use Rattle.std.specs.Prelude.{is_some, fold, slice_get, slice_index, IsTrue}
use Rattle.std.specs.List.{list_any, list_all}
use Rattle.std.proofs.lemmas.Bool.{or_left}
use Rattle.cluster_types.specs.declared.cluster_key.ClusterKey.{ClusterKey}
use Rattle.cluster_types.specs.declared.member.Member.{Member}
use Rattle.cluster_types.specs.ClusterKeys as keys
use Rattle.partition_lists.specs.Lists as lists
use Rattle.partition_lists.proofs.ListLaws.{list_length}
use Rattle.journal_lines.specs.declared.line.Line.{Line}
use Rattle.journal_lines.specs.declared.line.Line.TheVariants as line
use Rattle.journal_readings.specs.Lines.{same_key, is_enter, lines_before}
use Rattle.journal_readings.specs.Contents.{holds_any}
use Rattle.journal_readings.specs.Settled.{is_settled}
use Rattle.journal_readings.specs.Stamps.{entered_empty, is_empty_at_entry, is_empty_everywhere}
use Rattle.journal_readings.specs.Views.{view, view_step, some_key, members, master}
use Rattle.journal_readings.proofs.AlongLaws.{no_some, some_same}
use Rattle.audit_laws.specs.Fits.{enters_key}
use Rattle.audit_laws.proofs.MapSteps.{entered_key}
use Rattle.audit_laws.proofs.ShapeSteps.{same_key_itself}
use Rattle.audit_laws.proofs.Tests.{differ}
use Rattle.audit_core.specs.declared.judge.Judge.{Judge}
use Rattle.audit_state.specs.declared.views.View.{View}
use Rattle.audit_state.specs.Views.{entry_line, has_exchanged}
use Rattle.audit_state.specs.Written.{stand_of}
use Rattle.audit_core.specs.Audits.{so_far}
use Rattle.audit_state.specs.declared.nodes.Node.{Node}
use Rattle.audit_core.specs.Known.{node_at, view_in, view_at, kept_view}
use Rattle.audit_core.specs.Sees.{IsBound}
use Rattle.audit_core.specs.Settling.{master_from, is_settled_in, stand_from}
use Rattle.audit_core.specs.Trying.{SeesLines, SeesSettled}
use Rattle.audit_core.specs.Wholes as known
use Rattle.audit_core.proofs.KeyLaws.{any_at, declared_entered}
use Rattle.audit_core.proofs.ShapeLaws.{all_same}
use Rattle.audit_core.proofs.ShownLaws.{some_members}
use Rattle.audit_core.proofs.VerdictLaws.{front_of_front}
use Rattle.audit_core.proofs.WholeLaws.{IsFront, before_front, length_taken}

-- ---- a node's view was entered

entering : (n m : ℕ) (l k : ClusterKey) (v : Option ClusterKey) → cond (m == n) (some_key l) v ≡ Some k → (v ≡ Some k) ⊎ (((m == n) && same_key l k) ≡ true)
entering n m l k v h = go (m == n) (same_key l keys.none) h
  where
    go : (b c : Bool) → cond b (cond c None (Some l)) v ≡ Some k → (v ≡ Some k) ⊎ ((b && same_key l k) ≡ true)
    go true true q = absurd (no_some q)
    go true false q = inr (ap (λ (z : ClusterKey). same_key z k) (some_same q) ∙ same_key_itself k)
    go false c q = inl q

stepped : (n : ℕ) (k : ClusterKey) (v : Option ClusterKey) (x : Line) → view_step n v x ≡ Some k → (v ≡ Some k) ⊎ (is_enter k n x ≡ true)
stepped n k v (line.Enter m l ms) h = entering n m l k v h
stepped n k v (line.Stop m) h = go (m == n) h
  where
    go : (b : Bool) → cond b None v ≡ Some k → (v ≡ Some k) ⊎ (false ≡ true)
    go true q = absurd (no_some q)
    go false q = inl q
stepped n k v x h = inl h

view_from : (n : ℕ) (k : ClusterKey) (v : Option ClusterKey) (j : List Line) → fold (view_step n) v j ≡ Some k → (v ≡ Some k) ⊎ (list_any (is_enter k n) j ≡ true)
view_from n k v [] h = inl h
view_from n k v (x ∷ j) h = go (view_from n k (view_step n v x) j h)
  where
    first : (v ≡ Some k) ⊎ (is_enter k n x ≡ true) → (v ≡ Some k) ⊎ ((is_enter k n x || list_any (is_enter k n) j) ≡ true)
    first (inl q) = inl q
    first (inr q) = inr (or_left (is_enter k n x) _ q)

    later : (b c : Bool) → c ≡ true → (b || c) ≡ true
    later true c q = refl
    later false c q = q

    go : (view_step n v x ≡ Some k) ⊎ (list_any (is_enter k n) j ≡ true) → (v ≡ Some k) ⊎ ((is_enter k n x || list_any (is_enter k n) j) ≡ true)
    go (inl q) = first (stepped n k v x q)
    go (inr q) = inr (later (is_enter k n x) (list_any (is_enter k n) j) q)

pub has_entered_view : (n : ℕ) (k : ClusterKey) (j : List Line) → view n j ≡ Some k → list_any (is_enter k n) j ≡ true
unfolding view
has_entered_view n k j h = go (view_from n k None j h)
  where
    go : (None ≡ Some k) ⊎ (list_any (is_enter k n) j ≡ true) → list_any (is_enter k n) j ≡ true
    go (inl q) = absurd (no_some q)
    go (inr q) = q

pub view_entered : (n : ℕ) (k : ClusterKey) (j : List Line) → view n j ≡ Some k → list_any (enters_key k) j ≡ true
view_entered n k j h = entered_key k n j (has_entered_view n k j h)

-- the view of a node is told, also of one that was never declared
pub present_so : (s : Judge) (i n : ℕ) → SeesLines s i → view_at s n ≡ view n (so_far s i)
present_so s i n h = go (node_at s n) refl
  where
    go : (o : Option Node) → node_at s n ≡ o → view_at s n ≡ view n (so_far s i)
    go (Some node) e = ap view_in e ∙ (h.frame.nodes n node e).view
    go None e = ap view_in e ∙ sym (unless (view n (so_far s i)) refl)
      where
        unless : (v : Option ClusterKey) → view n (so_far s i) ≡ v → view n (so_far s i) ≡ None
        unless None q = q
        unless (Some k) q = differ (declared_entered (so_far s i) k n h.shape (has_entered_view n k (so_far s i) q)) (sym (h.frame.header.declared n) ∙ ap is_some e)

-- ---- the list master

first_read : (ids : List ℕ) (m : ℕ) → slice_get ids 0 ≡ Some m → slice_index ids 0 ≡ m
first_read [] m e = absurd (no_some e)
first_read (n ∷ ids) m e = some_same e

pub master_so : (s : Judge) (i : ℕ) (k : ClusterKey) (p m : ℕ) → SeesLines s i → master_from (kept_view s k) p ≡ Some m → master k p (so_far s i) ≡ m
master_so s i k p m h = go (kept_view s k) refl
  where
    go : (o : Option View) → kept_view s k ≡ o → master_from o p ≡ Some m → master k p (so_far s i) ≡ m
    go None e q = absurd (no_some q)
    go (Some x) e q = first_read (lists.list (members k (so_far s i)) p) m (ap (λ (ms : List Member). slice_get (lists.list ms p) 0) (sym (h.frame.views k x e).ranks) ∙ q)

none_read : (ids : List ℕ) → 0 < length ids → slice_get ids 0 ≡ None → ⊥
none_read [] h e = absurd (omega (arith, h))
none_read (n ∷ ids) h e = no_some (sym e)

-- a view that was entered has one
pub unlisted : (s : Judge) (i : ℕ) (k : ClusterKey) (p : ℕ) → SeesLines s i → master_from (kept_view s k) p ≡ None → list_any (enters_key k) (so_far s i) ≡ true → ⊥
unlisted s i k p h none entered = go (kept_view s k) refl none
  where
    some : 0 < length (lists.list (members k (so_far s i)) p)
    some =
        let first : (a : ℕ) × (x : Line) × (slice_get (so_far s i) a ≡ Some x) × (enters_key k x ≡ true) = any_at (enters_key k) (so_far s i) entered in
        let listed : 0 < length (members k (so_far s i)) = some_members (so_far s i) first.0 first.1 k h.shape first.2 first.3 in
        omega (arith, list_length (members k (so_far s i)) p, listed)

    go : (o : Option View) → kept_view s k ≡ o → master_from o p ≡ None → ⊥
    go None e q = differ (h.frame.known_views k ∙ entered) (ap is_some e)
    go (Some x) e q = none_read (lists.list (members k (so_far s i)) p) some (ap (λ (ms : List Member). slice_get (lists.list ms p) 0) (sym (h.frame.views k x e).ranks) ∙ q)

-- where there is no list master the partition isn't bound
pub unbound : (s : Judge) (i : ℕ) (k : ClusterKey) (p : ℕ) → SeesLines s i → master_from (kept_view s k) p ≡ None → IsBound k p (so_far s i) → ⊥
unbound s i k p h none bound = unlisted s i k p h none (view_entered (master k p (so_far s i)) k (so_far s i) bound.remains)

-- ---- copies that were empty

held_then : (s : Judge) (i n p : ℕ) (b : List Line) → SeesLines s i → IsFront b (so_far s i) → known.held_any s n p (length b) ≡ holds_any n p b
held_then s i n p b h f =
    let lower : length b ≤ i = omega (arith, f.short, length_taken i s.lines.now) in
    h.stores.copies.holding n p (length b) lower ∙ ap (holds_any n p) (sym (front_of_front (length b) i s.lines.now lower) ∙ f.front)

empty_then : (s : Judge) (i n p : ℕ) (o : Option (List Line)) → SeesLines s i → ((b : List Line) → o ≡ Some b → IsFront b (so_far s i)) → known.empty_at s n p (option_map length o) ≡ entered_empty n p o
empty_then s i n p None h f = refl
empty_then s i n p (Some b) h f = ap not (held_then s i n p b h (f b refl))

pub everywhere_then : (s : Judge) (i : ℕ) (k : ClusterKey) (p : ℕ) (x : View) → SeesLines s i → kept_view s k ≡ Some x → known.empty_in s p (Some x) ≡ is_empty_everywhere k p (so_far s i)
unfolding is_empty_everywhere is_empty_at_entry
everywhere_then s i k p x h e =
    ap (list_all (λ (m : Member). known.empty_at s m.id p (entry_line x m.id))) (h.frame.views k x e).members
    ∙ all_same (λ (m : Member). known.empty_at s m.id p (entry_line x m.id)) (λ (m : Member). is_empty_at_entry k m.id p (so_far s i))
    (λ m. ap (known.empty_at s m.id p) ((h.frame.views k x e).entered m.id) ∙ empty_then s i m.id p (lines_before (is_enter k m.id) (so_far s i)) h (before_front (is_enter k m.id) (so_far s i)))
    (members k (so_far s i))

-- ---- settled partitions

settled_by : (s : Judge) (i : ℕ) (k : ClusterKey) (p : ℕ) (x : View) → SeesLines s i → SeesSettled s i → kept_view s k ≡ Some x
    → ((stand_of x p).settled || (has_exchanged x (master k p (so_far s i)) && known.empty_in s p (Some x))) ≡ is_settled k p (so_far s i)
unfolding is_settled
settled_by s i k p x h stands e =
    ap₂ (λ (a b : Bool). a || b) (stands k p x e)
    (ap₂ (λ (a b : Bool). a && b) ((h.frame.views k x e).exchanged (master k p (so_far s i))) (everywhere_then s i k p x h e))

pub settled_so : (s : Judge) (i : ℕ) (k : ClusterKey) (p m : ℕ) → SeesLines s i → SeesSettled s i → master_from (kept_view s k) p ≡ Some m → is_settled_in s m k p ≡ is_settled k p (so_far s i)
settled_so s i k p m h stands e =
    ap (λ (n : ℕ). is_settled_in s n k p) (sym (master_so s i k p m h e))
    ∙ go (kept_view s k) refl e
  where
    go : (o : Option View) → kept_view s k ≡ o → master_from o p ≡ Some m → is_settled_in s (master k p (so_far s i)) k p ≡ is_settled k p (so_far s i)
    go None q r = absurd (no_some r)
    go (Some x) q r =
        subst (λ (o : Option View). ((stand_from o p).settled || (Rattle.audit_core.specs.NextFrames.finished_in o (master k p (so_far s i)) && known.empty_in s p o)) ≡ is_settled k p (so_far s i)) (sym q)
        (settled_by s i k p x h stands q)

-- ---- both

pub bound_then : (s : Judge) (i : ℕ) (k : ClusterKey) (p m : ℕ) (b : Bool) → SeesLines s i → SeesSettled s i → master_from (kept_view s k) p ≡ Some m → view_at s m ≡ Some k → b ≡ is_settled_in s m k p → IsTrue b ↔ IsBound k p (so_far s i)
bound_then s i k p m b h stands e present told = (
  λ q. record {
    settled = sym (settled_so s i k p m h stands e) ∙ (sym told ∙ q);
    remains = ap (λ (n : ℕ). view n (so_far s i)) (master_so s i k p m h e) ∙ (sym (present_so s i m h) ∙ present);
  },
  λ bound. told ∙ (settled_so s i k p m h stands e ∙ bound.settled),
)

-- its list master isn't in the view
pub bound_else : (s : Judge) (i : ℕ) (k : ClusterKey) (p m : ℕ) → SeesLines s i → master_from (kept_view s k) p ≡ Some m → (view_at s m ≡ Some k → ⊥)
    → IsTrue false ↔ IsBound k p (so_far s i)
bound_else s i k p m h e absent = (
  λ q. differ q refl,
  λ bound. absurd (absent (present_so s i m h ∙ (ap (λ (n : ℕ). view n (so_far s i)) (sym (master_so s i k p m h e)) ∙ bound.remains))),
)
