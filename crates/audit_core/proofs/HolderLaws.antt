-- Who holds the newest version of a record, and whether another node does.
use Rattle.std.proofs.Common.{◌≡◌, ℕ, suc, ◌==◌, ◌+◌, ◌<◌, Bool, true, false, not, ◌&&◌, ◌||◌, cond, List, [], ◌∷◌, Option, Some, None, ◌⊎◌, ◌↔◌, inl, inr, refl, sym, ap, subst, ◌∙◌, arith, is_some}
use Rattle.std.specs.Prelude.{map, filter, nat_lt, IsTrue, Contains}
use Rattle.std.specs.List.{count_by}
use Rattle.std.proofs.lemmas.Bool.{or_left, or_right, cases_Bool}
use Rattle.std.proofs.lemmas.Bool.Decides.{nat_tests}
use Rattle.std.proofs.lemmas.List.Sums.{sum_by-cons}
use Rattle.conflict_order.specs.declared.policy.Policy.{Policy}
use Rattle.conflict_order.specs.declared.version.Version.{Version}
use Rattle.conflict_order.specs.Join.{join, AtMost}
use Rattle.conflict_order.proofs.JoinLaws.{join_left, join_right, join_one_of_both, join_least}
use Rattle.conflict_order.proofs.OrderLaws.{AtMost_eq, AtMost_none, AtMost_trans, AtMost_antisymm}
use Rattle.cluster_types.specs.Distinct.{AreDistinct}
use Rattle.partition_lists.proofs.ListLaws.{any_is_contained}
use Rattle.journal_readings.specs.Lines.{has_node}
use Rattle.journal_readings.specs.Contents.{join_all}
use Rattle.journal_readings.proofs.Fronts.{of_some}
use Rattle.audit_laws.proofs.Tests.{differ, number_same, number_here}
use Rattle.audit_core.specs.Holders.{holds_top}
use Rattle.audit_state.specs.Places.{is_at_most}
use Rattle.audit_state.proofs.PlaceLaws.{at_most_is, at_most_so}

-- ---- the greatest of some versions

-- one of them is the join of all
pub top_at : (by : Policy) (f : ℕ → Option Version) (ns : List ℕ)
    → (join_all by (map f ns) ≡ None) ⊎ ((m : ℕ) × (has_node ns m ≡ true) × (f m ≡ join_all by (map f ns)))
top_at by f [] = inl refl
top_at by f (n ∷ ns) = go (join_one_of_both by (f n) rest) (top_at by f ns)
  where
    rest : Option Version
    rest = join_all by (map f ns)

    go : (join by (f n) rest ≡ f n) ⊎ (join by (f n) rest ≡ rest) → (rest ≡ None) ⊎ ((m : ℕ) × (has_node ns m ≡ true) × (f m ≡ rest))
        → (join by (f n) rest ≡ None) ⊎ ((m : ℕ) × (((n == m) || has_node ns m) ≡ true) × (f m ≡ join by (f n) rest))
    go (inl e) h = inr (n, or_left (n == n) _ (number_here n), sym e)
    go (inr e) (inl z) = inl (e ∙ z)
    go (inr e) (inr h) = inr (h.0, or_right (n == h.0) _ h.1, h.2 ∙ sym e)

pub under_all : (by : Policy) (f : ℕ → Option Version) (ns : List ℕ) (m : ℕ) → has_node ns m ≡ true → AtMost by (f m) (join_all by (map f ns))
under_all by f [] m e = differ e refl
under_all by f (n ∷ ns) m e = go (n == m) refl (under_all by f ns m) e
  where
    rest : Option Version
    rest = join_all by (map f ns)

    go : (b : Bool) → (n == m) ≡ b → (has_node ns m ≡ true → AtMost by (f m) rest) → (b || has_node ns m) ≡ true → AtMost by (f m) (join by (f n) rest)
    go true i more q = subst (λ (x : ℕ). AtMost by (f x) (join by (f n) rest)) (number_same n m i) (join_left (f n) rest)
    go false i more q = AtMost_trans (more q) (join_right (f n) rest)

pub all_under : (by : Policy) (f : ℕ → Option Version) (top : Option Version) (ns : List ℕ) → ((m : ℕ) → has_node ns m ≡ true → AtMost by (f m) top) → AtMost by (join_all by (map f ns)) top
all_under by f top [] h = AtMost_none top
all_under by f top (n ∷ ns) h = join_least (h n (or_left (n == n) _ (number_here n))) (all_under by f top ns (λ m e. h m (or_right (n == m) _ e)))

-- ---- the other nodes

abbrev pub others : ℕ → List ℕ → List ℕ
others n ns = filter (λ o. not (o == n)) ns

in_others : (n : ℕ) (ns : List ℕ) (m : ℕ) → has_node ns m ≡ true → (m == n) ≡ false → has_node (others n ns) m ≡ true
in_others n [] m e f = e
in_others n (o ∷ ns) m e f = go (o == n) (o == m) refl refl (λ q. in_others n ns m q f) e
  where
    go : (a b : Bool) → (o == n) ≡ a → (o == m) ≡ b → (has_node ns m ≡ true → has_node (others n ns) m ≡ true) → (b || has_node ns m) ≡ true
        → has_node (cond (not a) (o ∷ others n ns) (others n ns)) m ≡ true
    go true true i k more q = differ (ap (λ (x : ℕ). x == n) (sym (number_same o m k)) ∙ i) f
    go true false i k more q = more q
    go false true i k more q = or_left (o == m) _ k
    go false false i k more q = or_right (o == m) _ (more q)

apart_others : (n : ℕ) (ns : List ℕ) (m : ℕ) → has_node (others n ns) m ≡ true → (m == n) ≡ false
apart_others n [] m e = differ e refl
apart_others n (o ∷ ns) m e = go (o == n) refl (apart_others n ns m) e
  where
    here : (o == n) ≡ false → (has_node (others n ns) m ≡ true → (m == n) ≡ false) → (b : Bool) → (o == m) ≡ b → (b || has_node (others n ns) m) ≡ true → (m == n) ≡ false
    here i more true k q = ap (λ (x : ℕ). x == n) (sym (number_same o m k)) ∙ i
    here i more false k q = more q

    go : (a : Bool) → (o == n) ≡ a → (has_node (others n ns) m ≡ true → (m == n) ≡ false) → has_node (cond (not a) (o ∷ others n ns) (others n ns)) m ≡ true → (m == n) ≡ false
    go true i more q = more q
    go false i more q = here i more (o == m) refl q

others_all : (n : ℕ) (ns : List ℕ) → has_node ns n ≡ false → others n ns ≡ ns
others_all n [] e = refl
others_all n (o ∷ ns) e = go (o == n) refl e (others_all n ns)
  where
    go : (a : Bool) → (o == n) ≡ a → (a || has_node ns n) ≡ false → (has_node ns n ≡ false → others n ns ≡ ns) → cond (not a) (o ∷ others n ns) (others n ns) ≡ o ∷ ns
    go true i q more = differ refl q
    go false i q more = ap (λ (xs : List ℕ). o ∷ xs) (more q)

-- ---- counts

count_cons : (h : ℕ → Bool) (n : ℕ) (ns : List ℕ) → count_by h (n ∷ ns) ≡ cond (h n) 1 0 + count_by h ns
count_cons h n ns = sum_by-cons (λ m. cond (h m) 1 0) n ns

pub tail_distinct : (n : ℕ) (ns : List ℕ) → AreDistinct (n ∷ ns) → AreDistinct ns
tail_distinct n ns d = record { differ = λ i j x below within. d.differ (suc i) (suc j) x (omega (arith, below)) (omega (arith, within)) }

pub head_fresh : (n : ℕ) (ns : List ℕ) → AreDistinct (n ∷ ns) → has_node ns n ≡ false
head_fresh n ns d = go (has_node ns n) refl
  where
    twice : Contains ns n → ⊥
    twice (i, within, same) = d.differ 0 (suc i) n (omega arith) (omega (arith, within)) (sym same)

    go : (b : Bool) → has_node ns n ≡ b → b ≡ false
    go true e = absurd (twice ((any_is_contained n ns).0 e))
    go false e = refl

pub some_counted : (h : ℕ → Bool) (ns : List ℕ) → 0 < count_by h ns → (m : ℕ) × (has_node ns m ≡ true) × (h m ≡ true)
some_counted h [] e = absurd (omega (arith, e))
some_counted h (n ∷ ns) e = go (h n) refl (subst (λ (c : ℕ). 0 < c) (count_cons h n ns) e) (some_counted h ns)
  where
    go : (b : Bool) → h n ≡ b → 0 < cond b 1 0 + count_by h ns → (0 < count_by h ns → (m : ℕ) × (has_node ns m ≡ true) × (h m ≡ true)) → (m : ℕ) × (((n == m) || has_node ns m) ≡ true) × (h m ≡ true)
    go true i q more = (n, or_left (n == n) _ (number_here n), i)
    go false i q more = let x : (m : ℕ) × (has_node ns m ≡ true) × (h m ≡ true) = more (omega (arith, q)) in (x.0, or_right (n == x.0) _ x.1, x.2)

pub counted_some : (h : ℕ → Bool) (ns : List ℕ) (m : ℕ) → has_node ns m ≡ true → h m ≡ true → 0 < count_by h ns
counted_some h [] m e t = differ e refl
counted_some h (n ∷ ns) m e t = subst (λ (c : ℕ). 0 < c) (sym (count_cons h n ns)) (go (n == m) refl e (λ q. counted_some h ns m q t))
  where
    go : (b : Bool) → (n == m) ≡ b → (b || has_node ns m) ≡ true → (has_node ns m ≡ true → 0 < count_by h ns) → 0 < cond (h n) 1 0 + count_by h ns
    go true i q more = subst (λ (b : Bool). 0 < cond b 1 0 + count_by h ns) (sym (ap h (number_same n m i) ∙ t)) (omega arith)
    go false i q more = omega (arith, more q)

pub none_counted : (h : ℕ → Bool) (ns : List ℕ) → ((m : ℕ) → has_node ns m ≡ true → h m ≡ false) → count_by h ns ≡ 0
none_counted h [] e = refl
none_counted h (n ∷ ns) e = count_cons h n ns
    ∙ (ap (λ (b : Bool). cond b 1 0 + count_by h ns) (e n (or_left (n == n) _ (number_here n)))
    ∙ let more : count_by h ns ≡ 0 = none_counted h ns (λ m q. e m (or_right (n == m) _ q)) in omega (arith, more))

-- of distinct nodes this one counts once
pub count_others : (h : ℕ → Bool) (n : ℕ) (ns : List ℕ) → AreDistinct ns → has_node ns n ≡ true → count_by h ns ≡ cond (h n) 1 0 + count_by h (others n ns)
count_others h n [] d e = differ e refl
count_others h n (o ∷ ns) d e = count_cons h o ns ∙ go (o == n) refl e (count_others h n ns (tail_distinct o ns d))
  where
    go : (b : Bool) → (o == n) ≡ b → (b || has_node ns n) ≡ true → (has_node ns n ≡ true → count_by h ns ≡ cond (h n) 1 0 + count_by h (others n ns))
        → cond (h o) 1 0 + count_by h ns ≡ cond (h n) 1 0 + count_by h (cond (not b) (o ∷ others n ns) (others n ns))
    go true i q more = let same : o ≡ n = number_same o n i in
        ap (λ (x : ℕ). cond (h x) 1 0 + count_by h ns) same
        ∙ ap (λ (xs : List ℕ). cond (h n) 1 0 + count_by h xs) (sym (others_all n ns (subst (λ (x : ℕ). has_node ns x ≡ false) same (head_fresh o ns d))))
    go false i q more = swap (cond (h o) 1 0) (cond (h n) 1 0) (count_by h ns) (count_by h (others n ns)) _ (more q) (count_cons h o (others n ns))
      where
        swap : (a b c e f : ℕ) → c ≡ b + e → f ≡ a + e → a + c ≡ b + f
        swap a b c e f p q = omega (arith, p, q)

-- tests that agree at all other nodes count the same there
pub count_same : (h g : ℕ → Bool) (ns : List ℕ) → ((m : ℕ) → has_node ns m ≡ true → h m ≡ g m) → count_by h ns ≡ count_by g ns
count_same h g [] e = refl
count_same h g (n ∷ ns) e = count_cons h n ns
    ∙ (ap (λ (b : Bool). cond b 1 0 + count_by h ns) (e n (or_left (n == n) _ (number_here n)))
    ∙ (ap (λ (c : ℕ). cond (g n) 1 0 + c) (count_same h g ns (λ m q. e m (or_right (n == m) _ q))) ∙ sym (count_cons g n ns)))

-- one of distinct nodes begins or ceases to pass
pub count_changed : (h g : ℕ → Bool) (n : ℕ) (ns : List ℕ) → AreDistinct ns → has_node ns n ≡ true → ((m : ℕ) → (m == n) ≡ false → h m ≡ g m)
    → count_by g ns + cond (h n) 1 0 ≡ count_by h ns + cond (g n) 1 0
count_changed h g n ns d e same =
    turn (cond (h n) 1 0) (cond (g n) 1 0) _ _ _ _ (count_others h n ns d e) (count_others g n ns d e) (count_same h g (others n ns) (λ m q. same m (apart_others n ns m q)))
  where
    turn : (a b c f x y : ℕ) → c ≡ a + x → f ≡ b + y → x ≡ y → f + a ≡ c + b
    turn a b c f x y p q r = omega (arith, p, q, r)

-- ---- another node holds the newest version

holds_is : (by : Policy) (top held : Option Version) → holds_top by top held ≡ true → AtMost by top held
holds_is by top held e = at_most_is by top held (second (is_some top) _ e)
  where
    second : (a b : Bool) → (a && b) ≡ true → b ≡ true
    second true b q = q
    second false b q = differ q refl

holds_so : (by : Policy) (top held : Option Version) → is_some top ≡ true → held ≡ top → holds_top by top held ≡ true
holds_so by top held i e = both (is_some top) _ i (at_most_so by top held (AtMost_eq (sym e)))
  where
    both : (a b : Bool) → a ≡ true → b ≡ true → (a && b) ≡ true
    both true b p q = q
    both false b p q = p

none_is : (o : Option Version) → is_some o ≡ false → o ≡ None
none_is None e = refl
none_is (Some v) e = differ refl e

first_holds : (by : Policy) (top held : Option Version) → holds_top by top held ≡ true → is_some top ≡ true
first_holds by None held e = differ e refl
first_holds by (Some v) held e = refl

below_two : (c e : ℕ) → c ≡ 1 + e → 0 < e → nat_lt 1 c ≡ true
below_two c e p q = grind (arith, nat_tests)

above_one : (c e : ℕ) → c ≡ 1 + e → nat_lt 1 c ≡ true → 0 < e
above_one c e p q = grind (arith, nat_tests)

pub held_elsewhere : (by : Policy) (f : ℕ → Option Version) (top : Option Version) (n : ℕ) (ns : List ℕ) → AreDistinct ns → has_node ns n ≡ true → join_all by (map f ns) ≡ top
    → (join_all by (map f (others n ns)) ≡ top) ↔ IsTrue (not (holds_top by top (f n)) || nat_lt 1 (count_by (λ m. holds_top by top (f m)) ns))
held_elsewhere by f top n ns d e all = (there, back)
  where
    h : ℕ → Bool
    h m = holds_top by top (f m)

    rest : Option Version
    rest = join_all by (map f (others n ns))

    under : (m : ℕ) → has_node ns m ≡ true → AtMost by (f m) top
    under m q = subst (AtMost by (f m)) all (under_all by f ns m q)

    rest_under : AtMost by rest top
    rest_under = all_under by f top (others n ns) (λ m q. under m (of_some (λ o. not (o == n)) ns m q))

    reached : (m : ℕ) → has_node (others n ns) m ≡ true → AtMost by top (f m) → rest ≡ top
    reached m q a = AtMost_antisymm rest_under (AtMost_trans a (under_all by f (others n ns) m q))

    twice : h n ≡ true → count_by h ns ≡ 1 + count_by h (others n ns)
    twice q = count_others h n ns d e ∙ ap (λ (b : Bool). cond b 1 0 + count_by h (others n ns)) q

    another : rest ≡ top → h n ≡ true → 0 < count_by h (others n ns)
    another q t = pick (top_at by f (others n ns))
      where
        pick : (rest ≡ None) ⊎ ((m : ℕ) × (has_node (others n ns) m ≡ true) × (f m ≡ rest)) → 0 < count_by h (others n ns)
        pick (inl z) = differ (first_holds by top (f n) t) (ap is_some (sym q ∙ z))
        pick (inr x) = counted_some h (others n ns) x.0 x.1 (holds_so by top (f x.0) (first_holds by top (f n) t) (x.2 ∙ q))

    there : rest ≡ top → IsTrue (not (h n) || nat_lt 1 (count_by h ns))
    there q = go (h n) refl
      where
        go : (b : Bool) → h n ≡ b → (not b || nat_lt 1 (count_by h ns)) ≡ true
        go true t = below_two _ _ (twice t) (another q t)
        go false t = refl

    nothing : is_some top ≡ false → rest ≡ top
    nothing z = AtMost_antisymm rest_under (subst (λ (o : Option Version). AtMost by o rest) (sym (none_is top z)) (AtMost_none rest))

    unheld : h n ≡ false → is_some top ≡ true → rest ≡ top
    unheld t z = pick (top_at by f ns)
      where
        pick : (join_all by (map f ns) ≡ None) ⊎ ((m : ℕ) × (has_node ns m ≡ true) × (f m ≡ join_all by (map f ns))) → rest ≡ top
        pick (inl y) = differ z (ap is_some (sym all ∙ y))
        pick (inr x) = reached x.0 (in_others n ns x.0 x.1 (apart (x.0 == n) refl)) (AtMost_eq (sym (x.2 ∙ all)))
          where
            apart : (b : Bool) → (x.0 == n) ≡ b → b ≡ false
            apart false i = refl
            apart true i = differ (ap h (sym (number_same x.0 n i)) ∙ holds_so by top (f x.0) z (x.2 ∙ all)) t

    back : IsTrue (not (h n) || nat_lt 1 (count_by h ns)) → rest ≡ top
    back q = go (h n) refl q
      where
        held : h n ≡ true → nat_lt 1 (count_by h ns) ≡ true → rest ≡ top
        held t p = let x : (m : ℕ) × (has_node (others n ns) m ≡ true) × (h m ≡ true) = some_counted h (others n ns) (above_one _ _ (twice t) p) in
            reached x.0 x.1 (holds_is by top (f x.0) x.2)

        go : (b : Bool) → h n ≡ b → (not b || nat_lt 1 (count_by h ns)) ≡ true → rest ≡ top
        go true t p = held t p
        go false t p = pick (cases_Bool (is_some top))
          where
            pick : (is_some top ≡ true) ⊎ (is_some top ≡ false) → rest ≡ top
            pick (inl z) = unheld t z
            pick (inr z) = nothing z

-- ---- a version that is applied

-- nobody holds a version that is above all that was applied
pub none_yet : (by : Policy) (f : ℕ → Option Version) (top : Option Version) (v : Version) (ns : List ℕ) → ((m : ℕ) → has_node ns m ≡ true → AtMost by (f m) top) → is_at_most by (Some v) top ≡ false
    → count_by (λ m. holds_top by (Some v) (f m)) ns ≡ 0
none_yet by f top v ns under above = none_counted (λ m. holds_top by (Some v) (f m)) ns (λ m q. go m q (holds_top by (Some v) (f m)) refl)
  where
    go : (m : ℕ) → has_node ns m ≡ true → (b : Bool) → holds_top by (Some v) (f m) ≡ b → b ≡ false
    go m q false i = refl
    go m q true i = differ (at_most_so by (Some v) top (AtMost_trans (holds_is by (Some v) (f m) i) (under m q))) above
