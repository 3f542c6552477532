-- The shape of a journal, as one line more comes.
use Rattle.std.proofs.Common.{◌≡◌, ℕ, zero, suc, ◌==◌, Bool, true, false, ◌||◌, cond, List, [], ◌∷◌, ◌++◌, length, length-append, Contains, Option, Some, None, ◌⊎◌, inl, inr, refl, sym, ap, subst, ◌∙◌, arith, append-nil}
use Rattle.std.specs.Prelude.{take, slice_get, filter_map, IsTrue}
use Rattle.std.specs.List.{list_any, list_all}
use Rattle.std.proofs.Math.Seq.{get_or-append_seam}
use Rattle.std.proofs.lemmas.List.{get_or_append_left}
use Rattle.std.proofs.lemmas.List.Folds.{list_any-append}
use Rattle.std.proofs.lemmas.Bool.{and_from, not-true, not_from_false, or_left, or_right}
use Rattle.cluster_types.specs.declared.cluster_key.ClusterKey.{ClusterKey}
use Rattle.cluster_types.specs.declared.member.Member.{Member}
use Rattle.cluster_types.specs.Distinct.{AreDistinct}
use Rattle.cluster_types.proofs.DistinctLaws.{distinct_push}
use Rattle.partition_lists.proofs.ListLaws.{any_is_contained}
use Rattle.journal_lines.specs.declared.line.Line.{Line}
use Rattle.journal_lines.specs.declared.line.Line.TheVariants as line
use Rattle.journal_readings.specs.Lines.{same_key, has_node}
use Rattle.journal_readings.specs.Settings.{nodes, declared_in}
use Rattle.journal_readings.specs.Views.{members}
use Rattle.journal_readings.specs.Shape.{Shape, is_header, follows_header, named_nodes, names_declared, EntersFalling, enters_once, names_entered, follows_entries}
use Rattle.journal_readings.proofs.AlongLaws.{no_some, some_same}
use Rattle.journal_readings.proofs.Fronts.{same_key_is, and_left, and_right}
use Rattle.audit_laws.specs.Fits.{declares_new, enters_key, NamesMembers, FitsShape}
use Rattle.audit_laws.proofs.Tests.{differ, number_here, all-wider}
use Rattle.audit_laws.proofs.Places.{more_cases, stands, last_line, each-more, each-front, each-last}
use Rattle.audit_laws.proofs.Headers.{nodes-more, nodes_stay, IsBare, behind_header}

-- ---- declared nodes

distinct_front : (ids : List ℕ) (x : ℕ) → AreDistinct (ids ++ x ∷ []) → AreDistinct ids
distinct_front ids x h = record {
  differ = λ i j d below within same. h.differ i j d below (omega (arith, length-append ids (x ∷ []))) (get_or_append_left ids (x ∷ []) d i (omega arith) ∙ (same ∙ sym (get_or_append_left ids (x ∷ []) d j within)));
}

last_fresh : (ids : List ℕ) (x : ℕ) → AreDistinct (ids ++ x ∷ []) → ¬ (Contains ids x)
last_fresh ids x h (i, within, same) = h.differ i (length ids) x within (omega (arith, length-append ids (x ∷ []))) (get_or_append_left ids (x ∷ []) x i within ∙ (same ∙ sym (get_or-append_seam ids x [] x)))

nodes_node : (j : List Line) (n : ℕ) (rack : Option ℕ) → nodes (j ++ line.Node n rack ∷ []) ≡ nodes j ++ n ∷ []
unfolding nodes
nodes_node j n rack = nodes-more j (line.Node n rack)

nodes_other : (j : List Line) (l : Line) → filter_map declared_in (l ∷ []) ≡ [] → nodes (j ++ l ∷ []) ≡ nodes j
unfolding nodes
nodes_other j l e = nodes-more j l ∙ (ap (λ (ns : List ℕ). nodes j ++ ns) e ∙ append-nil (nodes j))

unless : (ns : List ℕ) (n : ℕ) (b : Bool) → has_node ns n ≡ b → ¬ (Contains ns n) → b ≡ false
unless ns n true i fresh = absurd (fresh ((any_is_contained n ns).0 i))
unless ns n false i fresh = refl

declared_front : (j : List Line) (l : Line) → AreDistinct (nodes (j ++ l ∷ [])) → AreDistinct (nodes j) × (declares_new j l ≡ true)
declared_front j (line.Node n rack) h =
    let d : AreDistinct (nodes j ++ n ∷ []) = subst AreDistinct (nodes_node j n rack) h in
    (distinct_front (nodes j) n d, not_from_false (has_node (nodes j) n) (unless (nodes j) n (has_node (nodes j) n) refl (last_fresh (nodes j) n d)))
declared_front j l h = (subst AreDistinct (nodes_other j l refl) h, refl)

declared_more : (j : List Line) (l : Line) → AreDistinct (nodes j) → declares_new j l ≡ true → AreDistinct (nodes (j ++ l ∷ []))
declared_more j (line.Node n rack) h e = subst AreDistinct (sym (nodes_node j n rack)) (distinct_push (nodes j) n h (λ c. differ ((any_is_contained n (nodes j)).1 c) (not-true (has_node (nodes j) n) e)))
declared_more j l h e = subst AreDistinct (sym (nodes_other j l refl)) h

-- ---- named nodes

still_named : (ns ms : List ℕ) (n : ℕ) → has_node ns n ≡ true → has_node (ns ++ ms) n ≡ true
still_named ns ms n e = list_any-append (λ m. m == n) ns ms ∙ or_left (has_node ns n) (has_node ms n) e

named-more : (j : List Line) (l x : Line) → names_declared j x ≡ true → names_declared (j ++ l ∷ []) x ≡ true
named-more j l x e = all-wider (has_node (nodes j)) (has_node (nodes (j ++ l ∷ [])))
    (λ n i. subst (λ (ns : List ℕ). has_node ns n ≡ true) (sym (nodes-more j l)) (still_named (nodes j) (nodes (l ∷ [])) n i)) (named_nodes x) e

-- a line of a header that stands in a journal names no node that isn't declared in it
declared_here : (j : List Line) (i n : ℕ) (rack : Option ℕ) → slice_get j i ≡ Some (line.Node n rack) → has_node (filter_map declared_in j) n ≡ true
declared_here [] i n rack e = absurd (no_some e)
declared_here (x ∷ j) zero n rack e = subst (λ (y : Line). has_node (filter_map declared_in (y ∷ j)) n ≡ true) (sym (some_same e)) (or_left (n == n) _ (number_here n))
declared_here (x ∷ j) (suc i) n rack e = go (declared_in x) (declared_here j i n rack e)
  where
    go : (o : Option ℕ) → has_node (filter_map declared_in j) n ≡ true → has_node (Rattle.std.specs.List.cons_option o (filter_map declared_in j)) n ≡ true
    go None q = q
    go (Some m) q = or_right (m == n) _ q

bare_named : (j : List Line) (i : ℕ) (x : Line) → slice_get j i ≡ Some x → is_header x ≡ true → names_declared j x ≡ true
unfolding nodes named_nodes
bare_named j i (line.Node n rack) e h = and_from (has_node (nodes j) n) true (declared_here j i n rack e) refl
bare_named j i (line.Script v) e h = refl
bare_named j i (line.Factor f) e h = refl
bare_named j i (line.Policy by) e h = refl
bare_named j i x e h = differ h refl

-- each line of a bare journal is one of a header
pub bare_line : (j : List Line) (i : ℕ) (x : Line) → IsBare j → slice_get j i ≡ Some x → is_header x ≡ true
bare_line [] i x h e = absurd (no_some e)
bare_line (y ∷ j) zero x h e = ap is_header (sym (some_same e)) ∙ and_left (is_header y) _ h
bare_line (y ∷ j) (suc i) x h e = bare_line j i x (and_right (is_header y) _ h) e

named_front : (j : List Line) (l : Line) → follows_header j l ≡ true → ((i : ℕ) (x : Line) → slice_get (j ++ l ∷ []) i ≡ Some x → names_declared (j ++ l ∷ []) x ≡ true)
    → (i : ℕ) (x : Line) → slice_get j i ≡ Some x → names_declared j x ≡ true
named_front j l f h i x e = go (behind_header j l f)
  where
    go : (is_header l ≡ false) ⊎ (IsBare j × (is_header l ≡ true)) → names_declared j x ≡ true
    go (inl o) = subst (λ (ns : List ℕ). list_all (has_node ns) (named_nodes x) ≡ true) (nodes_stay j l o) (h i x (stands j l i x e).0)
    go (inr o) = bare_named j i x e (bare_line j i x o.0 e)

-- ---- members

-- the entry that names the members of a view
first_entry : (k : ClusterKey) (j : List Line) → list_any (enters_key k) j ≡ true → (i : ℕ) × (n : ℕ) × (slice_get j i ≡ Some (line.Enter n k (members k j)))
first_entry k [] e = differ e refl
first_entry k (line.Enter n l ms ∷ j) e = go (same_key l k) refl (first_entry k j) e
  where
    go : (b : Bool) → same_key l k ≡ b → (list_any (enters_key k) j ≡ true → (i : ℕ) × (n : ℕ) × (slice_get j i ≡ Some (line.Enter n k (members k j)))) → (b || list_any (enters_key k) j) ≡ true
        → (i : ℕ) × (o : ℕ) × (slice_get (line.Enter n l ms ∷ j) i ≡ Some (line.Enter o k (cond b ms (members k j))))
    go true i rest q = (0, n, ap (λ (z : ClusterKey). Some (line.Enter n z ms)) (same_key_is l k i))
    go false i rest q = let h : (i : ℕ) × (n : ℕ) × (slice_get j i ≡ Some (line.Enter n k (members k j))) = rest q in (suc h.0, h.1, h.2)
first_entry k (x ∷ j) e = let h : (i : ℕ) × (n : ℕ) × (slice_get j i ≡ Some (line.Enter n k (members k j))) = first_entry k j e in (suc h.0, h.1, h.2)

pub same_key_itself : (k : ClusterKey) → same_key k k ≡ true
same_key_itself k = and_from (k.round == k.round) _ (number_here k.round) (number_here k.principal)

-- a view that has an entry is entered
entered_here : (k : ClusterKey) (j : List Line) (i n : ℕ) (ms : List Member) → slice_get j i ≡ Some (line.Enter n k ms) → list_any (enters_key k) j ≡ true
entered_here k [] i n ms e = absurd (no_some e)
entered_here k (x ∷ j) zero n ms e = or_left (enters_key k x) _ (ap (enters_key k) (some_same e) ∙ same_key_itself k)
entered_here k (x ∷ j) (suc i) n ms e = or_right (enters_key k x) _ (entered_here k j i n ms e)

-- all entries of a key that stand in the journal have one list
abbrev AgreesOnMembers : List Line → Type 0
AgreesOnMembers j = (i o n m : ℕ) (k : ClusterKey) (ms others : List Member)
    → slice_get j i ≡ Some (line.Enter n k ms) → slice_get j o ≡ Some (line.Enter m k others) → ms ≡ others

list_front : (j : List Line) (l : Line) → AgreesOnMembers (j ++ l ∷ []) → AgreesOnMembers j
list_front j l h i o n m k ms others e f = h i o n m k ms others (stands j l i (line.Enter n k ms) e).0 (stands j l o (line.Enter m k others) f).0

list_last : (j : List Line) (l : Line) → AgreesOnMembers (j ++ l ∷ []) → NamesMembers j l
list_last j (line.Enter n k ms) h = λ e.
    let a : (i : ℕ) × (n : ℕ) × (slice_get j i ≡ Some (line.Enter n k (members k j))) = first_entry k j e in
    let b : (i : ℕ) × (slice_get (j ++ line.Enter n k ms ∷ []) i ≡ Some (line.Enter n k ms)) × (take i (j ++ line.Enter n k ms ∷ []) ≡ j) = last_line j (line.Enter n k ms) in
    h b.0 a.0 n a.1 k ms (members k j) b.1 (stands j (line.Enter n k ms) a.0 (line.Enter a.1 k (members k j)) a.2).0
list_last j l h = tt

-- the members of a view are those of each entry
pub members_are : (j : List Line) → AgreesOnMembers j → (i n : ℕ) (k : ClusterKey) (ms : List Member) → slice_get j i ≡ Some (line.Enter n k ms) → ms ≡ members k j
members_are j h i n k ms e = let a : (i : ℕ) × (n : ℕ) × (slice_get j i ≡ Some (line.Enter n k (members k j))) = first_entry k j (entered_here k j i n ms e) in h i a.0 n a.1 k ms (members k j) e a.2

-- an entry of the longer journal is one of the shorter, or the last line
list_more : (j : List Line) (l : Line) → AgreesOnMembers j → NamesMembers j l → AgreesOnMembers (j ++ l ∷ [])
list_more j l h last i o n m k ms others e f = go (more_cases j l i (line.Enter n k ms) e) (more_cases j l o (line.Enter m k others) f)
  where
    names : (x : Line) → x ≡ l → NamesMembers j x
    names x q = subst (NamesMembers j) (sym q) last

    go : ((slice_get j i ≡ Some (line.Enter n k ms)) × (take i (j ++ l ∷ []) ≡ take i j)) ⊎ ((line.Enter n k ms ≡ l) × (take i (j ++ l ∷ []) ≡ j))
        → ((slice_get j o ≡ Some (line.Enter m k others)) × (take o (j ++ l ∷ []) ≡ take o j)) ⊎ ((line.Enter m k others ≡ l) × (take o (j ++ l ∷ []) ≡ j)) → ms ≡ others
    go (inl a) (inl b) = h i o n m k ms others a.0 b.0
    go (inl a) (inr b) = members_are j h i n k ms a.0 ∙ sym (names (line.Enter m k others) b.0 (entered_here k j i n ms a.0))
    go (inr a) (inl b) = names (line.Enter n k ms) a.0 (entered_here k j o m others b.0) ∙ sym (members_are j h o m k others b.0)
    go (inr a) (inr b) = ap members_named (a.0 ∙ sym b.0)
      where
        members_named : Line → List Member
        members_named (line.Enter n k ms) = ms
        members_named _ = []

-- ---- the step

pub shape_front : (j : List Line) (l : Line) → Shape (j ++ l ∷ []) → Shape j × FitsShape j l
shape_front j l s = (
  record {
    header = each-front (λ b x. IsTrue (follows_header b x)) j l s.header;
    declared_once = (declared_front j l s.declared_once).0;
    named = named_front j l (each-last (λ b x. IsTrue (follows_header b x)) j l s.header) s.named;
    one_list = list_front j l s.one_list;
    falling = each-front (λ b x. EntersFalling x) j l s.falling;
    entered = each-front (λ b x. IsTrue (enters_once b x)) j l s.entered;
    in_view = each-front (λ b x. IsTrue (names_entered b x)) j l s.in_view;
    exchanged = each-front (λ b x. IsTrue (follows_entries b x)) j l s.exchanged;
  },
  record {
    header = each-last (λ b x. IsTrue (follows_header b x)) j l s.header;
    new = (declared_front j l s.declared_once).1;
    named = let h : (i : ℕ) × (slice_get (j ++ l ∷ []) i ≡ Some l) × (take i (j ++ l ∷ []) ≡ j) = last_line j l in s.named h.0 l h.1;
    members = list_last j l s.one_list;
    falling = each-last (λ b x. EntersFalling x) j l s.falling;
    entered = each-last (λ b x. IsTrue (enters_once b x)) j l s.entered;
    in_view = each-last (λ b x. IsTrue (names_entered b x)) j l s.in_view;
    exchanged = each-last (λ b x. IsTrue (follows_entries b x)) j l s.exchanged;
  },
)

pub shape_more : (j : List Line) (l : Line) → Shape j → FitsShape j l → Shape (j ++ l ∷ [])
shape_more j l s f = record {
  header = each-more (λ b x. IsTrue (follows_header b x)) j l s.header f.header;
  declared_once = declared_more j l s.declared_once f.new;
  named = each-more (λ b x. IsTrue (names_declared (j ++ l ∷ []) x)) j l (λ i x e. named-more j l x (s.named i x e)) f.named;
  one_list = list_more j l s.one_list f.members;
  falling = each-more (λ b x. EntersFalling x) j l s.falling f.falling;
  entered = each-more (λ b x. IsTrue (enters_once b x)) j l s.entered f.entered;
  in_view = each-more (λ b x. IsTrue (names_entered b x)) j l s.in_view f.in_view;
  exchanged = each-more (λ b x. IsTrue (follows_entries b x)) j l s.exchanged f.exchanged;
}
