-- What is known of empty copies and of replicas is what the lines say.
use Rattle.std.proofs.Common.{◌≡◌, ℕ, zero, suc, ◌==◌, ◌≤◌, Bool, true, false, not, ◌&&◌, cond, List, [], ◌∷◌, length, Option, Some, None, option_map, refl, sym, ap, ap₂, subst, ◌∙◌, arith}
use Rattle.std.specs.Prelude.{is_some, take}
use Rattle.std.specs.List.{list_any, list_all}
use Rattle.cluster_types.specs.declared.cluster_key.ClusterKey.{ClusterKey}
use Rattle.cluster_types.specs.declared.member.Member.{Member}
use Rattle.partition_lists.specs.Lists as lists
use Rattle.journal_lines.specs.declared.line.Line.{Line}
use Rattle.journal_readings.specs.Lines.{is_enter, lines_before}
use Rattle.journal_readings.specs.Settings.{factor_of}
use Rattle.journal_readings.specs.Contents.{holds_any}
use Rattle.journal_readings.specs.Stamps.{entered_empty, is_empty_at_entry, is_empty_everywhere, begins_whole}
use Rattle.journal_readings.specs.Views.{members, is_replica}
use Rattle.journal_readings.proofs.AlongLaws.{no_some, some_same}
use Rattle.audit_core.specs.declared.judge.Judge.{Judge}
use Rattle.audit_state.specs.declared.views.View.{View}
use Rattle.audit_core.specs.Known.{kept_view}
use Rattle.audit_state.specs.Views.{entry_line}
use Rattle.audit_core.specs.Sees.{SeesState}
use Rattle.audit_core.specs.Wholes as known
use Rattle.audit_core.proofs.ShapeLaws.{all_same, members_none}
use Rattle.audit_core.proofs.VerdictLaws.{front_of_front}

-- ---- the lines before an entry

-- they are a front
pub record IsFront (b j : List Line) : Type 0 where
  pub short : length b ≤ length j
  pub front : take (length b) j ≡ b

front_more : (x : Line) (b j : List Line) → IsFront b j → IsFront (x ∷ b) (x ∷ j)
front_more x b j h = record { short = omega (arith, h.short); front = ap (λ (ls : List Line). x ∷ ls) h.front }

pub before_front : (test : Line → Bool) (j b : List Line) → lines_before test j ≡ Some b → IsFront b j
before_front test [] b e = absurd (no_some e)
before_front test (x ∷ j) b e = go (test x) (lines_before test j) (before_front test j) e
  where
    go : (c : Bool) (o : Option (List Line)) → ((b : List Line) → o ≡ Some b → IsFront b j) → cond c (Some []) (option_map (λ before. x ∷ before) o) ≡ Some b → IsFront b (x ∷ j)
    go true o rest q = subst (λ (ls : List Line). IsFront ls (x ∷ j)) (some_same q) (record { short = omega arith; front = refl })
    go false None rest q = absurd (no_some q)
    go false (Some y) rest q = subst (λ (ls : List Line). IsFront ls (x ∷ j)) (some_same q) (front_more x y j (rest y refl))

pub length_taken : (i : ℕ) (all : List Line) → length (take i all) ≤ i
length_taken zero all = omega arith
length_taken (suc i) [] = omega arith
length_taken (suc i) (x ∷ all) = omega (arith, length_taken i all)

-- ---- empty copies

pub held_so : (s : Judge) (i : ℕ) (all : List Line) (n p : ℕ) (b : List Line) → SeesState s i all → IsFront b (take i all) → known.held_any s n p (length b) ≡ holds_any n p b
held_so s i all n p b h f =
    let lower : length b ≤ i = omega (arith, f.short, length_taken i all) in
    h.stores.copies.holding n p (length b) lower ∙ ap (holds_any n p) (sym (front_of_front (length b) i all lower) ∙ f.front)

empty_so : (s : Judge) (i : ℕ) (all : List Line) (n p : ℕ) (o : Option (List Line)) → SeesState s i all → ((b : List Line) → o ≡ Some b → IsFront b (take i all)) → known.empty_at s n p (option_map length o) ≡ entered_empty n p o
empty_so s i all n p None h f = refl
empty_so s i all n p (Some b) h f = ap not (held_so s i all n p b h (f b refl))

everywhere_by : (s : Judge) (i : ℕ) (all : List Line) (k : ClusterKey) (p : ℕ) → SeesState s i all → (o : Option View) → kept_view s k ≡ o → known.empty_in s p o ≡ is_empty_everywhere k p (take i all)
unfolding is_empty_everywhere is_empty_at_entry
everywhere_by s i all k p h None e = sym (ap (list_all (λ (m : Member). is_empty_at_entry k m.id p (take i all))) (members_none k (take i all) (sym (h.frame.known_views k) ∙ ap is_some e)))
everywhere_by s i all k p h (Some x) e =
    ap (list_all (λ (m : Member). known.empty_at s m.id p (entry_line x m.id))) (h.frame.views k x e).members
    ∙ all_same (λ (m : Member). known.empty_at s m.id p (entry_line x m.id)) (λ (m : Member). is_empty_at_entry k m.id p (take i all))
    (λ m. ap (known.empty_at s m.id p) ((h.frame.views k x e).entered m.id) ∙ empty_so s i all m.id p (lines_before (is_enter k m.id) (take i all)) h (before_front (is_enter k m.id) (take i all)))
    (members k (take i all))

pub everywhere_so : (s : Judge) (i : ℕ) (all : List Line) (k : ClusterKey) (p : ℕ) → SeesState s i all → known.empty_in s p (kept_view s k) ≡ is_empty_everywhere k p (take i all)
everywhere_so s i all k p h = everywhere_by s i all k p h (kept_view s k) refl

-- ---- replicas

no_list : (p : ℕ) → lists.list [] p ≡ []
unfolding lists.list
no_list p = refl

none_among : (i : ℕ) (n : ℕ) → list_any (λ (m : ℕ). m == n) (take i []) ≡ false
none_among zero n = refl
none_among (suc i) n = refl

replica_by : (s : Judge) (i : ℕ) (all : List Line) (k : ClusterKey) (n p : ℕ) → SeesState s i all → (o : Option View) → kept_view s k ≡ o → known.replica_in s.factor n p o ≡ is_replica (factor_of (take i all)) k p n (take i all)
replica_by s i all k n p h None e =
    sym (ap (λ (ms : List Member). lists.is_replica_of n ms p (factor_of (take i all))) (members_none k (take i all) (sym (h.frame.known_views k) ∙ ap is_some e))
    ∙ (ap (λ (ids : List ℕ). list_any (λ (m : ℕ). m == n) (take (factor_of (take i all)) ids)) (no_list p) ∙ none_among (factor_of (take i all)) n))
replica_by s i all k n p h (Some x) e =
    ap₂ (λ (factor : ℕ) (ms : List Member). lists.is_replica_of n ms p factor) h.frame.header.factor (h.frame.views k x e).ranks

pub replica_so : (s : Judge) (i : ℕ) (all : List Line) (k : ClusterKey) (n p : ℕ) → SeesState s i all → known.replica_in s.factor n p (kept_view s k) ≡ is_replica (factor_of (take i all)) k p n (take i all)
replica_so s i all k n p h = replica_by s i all k n p h (kept_view s k) refl

pub begins_so : (s : Judge) (i : ℕ) (all : List Line) (k : ClusterKey) (n p : ℕ) → SeesState s i all → known.is_whole_at_start s k n p ≡ begins_whole (factor_of (take i all)) k n p (take i all)
begins_so s i all k n p h = ap₂ (λ (a b : Bool). a && b) (everywhere_so s i all k p h) (replica_so s i all k n p h)
