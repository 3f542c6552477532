-- After the settling of a tick a node has nothing to learn or drop.
use Rattle.std.proofs.Common.{◌≡◌, ℕ, zero, suc, ◌+◌, ◌<◌, ◌≤◌, ◌==◌, ◌||◌, ◌&&◌, not, Bool, true, false, cond, List, [], ◌∷◌, ◌++◌, Option, Some, None, refl, sym, ap, subst, ◌∙◌, arith}
use Rattle.std.specs.Prelude.{is_some, nat_lt}
use Rattle.std.specs.List.{list_any}
use Rattle.std.specs.Cmp.{eq_by_cmp_equiv}
use Rattle.std.specs.Cmp.Lexicographic.{nat_list_cmp_total, slice_cmp}
use Rattle.std.specs.FinMap as finite
use Rattle.std.specs.FinMap.{IsAntisymmetric, nat_cmp-IsAntisymmetric, slice_cmp-IsAntisymmetric}
use Rattle.std.specs.Ordering.{eq_by_cmp, nat_cmp}
use Rattle.std.specs.declared.cmp.Ordering.{Ordering}
use Rattle.std.proofs.lemmas.Bool.Decides.{nat_tests}
use Rattle.conflict_order.specs.declared.version.Version.{Version}
use Rattle.cluster_types.specs.declared.member.Member.{Member}
use Rattle.cluster_types.specs.Rows.{bit}
use Rattle.partition_lists.specs.Lists.{list}
use Rattle.partition_lists.proofs.InOrderLaws.{equal}
use Rattle.node_rules.specs.Bits.{with_bit}
use Rattle.node_rules.specs.Copies.{Content, digests, digests_of, holds_of, is_nil, is_of}
use Rattle.node_rules.specs.Exchange.{members_of}
use Rattle.node_rules.specs.Facts.{Facts, list_at, view_key}
use Rattle.node_rules.specs.Notes.{noted}
use Rattle.node_rules.specs.Settling.{drop, hand, learn, may_hand, may_settle, settle, settling_at, settling_from}
use Rattle.node_rules.specs.Standing.{has_nothing_to_learn_or_drop, has_settled_bit, is_done, is_own_replica, is_to_drop, is_to_learn}
use Rattle.journal_lines.specs.declared.line.Line.TheVariants as line
use Rattle.node_rules.proofs.NoteLaws.{noted-append}
use Rattle.node_rules.specs.Tables.{only_if}
use Rattle.cluster_rules.proofs.KeptFacts.{num_same}
use Rattle.cluster_laws.proofs.At.{differ}
use Rattle.calm_laws.specs.Calming.{Reaches}

-- ---- rows of bits

bit_others : (row : List Bool) (p q : ℕ) → (p ≡ q → ⊥) → bit (with_bit row p) q ≡ bit row q
bit_others [] p q d = refl
bit_others (b ∷ row) zero zero d = absurd (d refl)
bit_others (b ∷ row) zero (suc q) d = refl
bit_others (b ∷ row) (suc p) zero d = refl
bit_others (b ∷ row) (suc p) (suc q) d = bit_others row p q (λ e. d (ap (λ (y : ℕ). suc y) e))

-- a row that has a place for one has it still when another was set
pub reaches_set : (row : List Bool) (p q : ℕ) → Reaches row q → Reaches (with_bit row p) q
reaches_set [] p q h = h
reaches_set (b ∷ row) zero zero h = refl
reaches_set (b ∷ row) zero (suc q) h = h
reaches_set (b ∷ row) (suc p) zero h = refl
reaches_set (b ∷ row) (suc p) (suc q) h = reaches_set row p q h

-- ---- copies

abbrev digest_cmp : List ℕ → List ℕ → Ordering
digest_cmp = slice_cmp nat_cmp

same_digest : IsAntisymmetric digest_cmp
same_digest = slice_cmp-IsAntisymmetric nat_cmp-IsAntisymmetric

-- of no digest a record is held
abbrev Unheld : Content → Type 0
Unheld c = (d : List ℕ) → finite.get c d ≡ None

unheld_nil : (c : Content) → Unheld c → is_nil (digests c) ≡ true
unheld_nil c h = go (digests c) refl
  where
    go : (ds : List (List ℕ)) → digests c ≡ ds → is_nil (digests c) ≡ true
    go [] e = ap (λ (xs : List (List ℕ)). is_nil xs) e
    go (d ∷ ds) e = differ here none
      where
        itself : eq_by_cmp digest_cmp d d ≡ true
        itself = (eq_by_cmp_equiv nat_list_cmp_total).refl d

        here : finite.contains_key c d ≡ true
        here = finite.contains_key-keys c d ∙ ap (λ (xs : List (List ℕ)). list_any (eq_by_cmp digest_cmp d) xs) e ∙ ap (λ (b : Bool). b || list_any (eq_by_cmp digest_cmp d) ds) itself

        none : finite.contains_key c d ≡ false
        none = ap (λ (o : Option Version). is_some o) (h d)

nil_unheld : (c : Content) → is_nil (digests c) ≡ true → Unheld c
nil_unheld c h d = go (finite.get c d) refl
  where
    empty : (ds : List (List ℕ)) → is_nil ds ≡ true → list_any (eq_by_cmp digest_cmp d) ds ≡ false
    empty [] e = refl
    empty (x ∷ xs) e = differ e refl

    go : (o : Option Version) → finite.get c d ≡ o → finite.get c d ≡ None
    go None e = e
    go (Some v) e = differ (sym (finite.contains_key-keys c d) ∙ ap (λ (o : Option Version). is_some o) e) (empty (digests c) h)

kept_of : (c : Content) (p : ℕ) (d : List ℕ) → finite.get (finite.retain_keys c (is_of p)) d ≡ cond (is_of p d) (finite.get c d) None
kept_of c p d = finite.get-retain_keys c (is_of p) d (λ x tied. ap (is_of p) (sym (same_digest d x tied)))

left_of : (c : Content) (p : ℕ) (d : List ℕ) → finite.get (finite.retain_keys c (λ x. not (is_of p x))) d ≡ cond (not (is_of p d)) (finite.get c d) None
left_of c p d = finite.get-retain_keys c (λ x. not (is_of p x)) d (λ x tied. ap (λ (y : List ℕ). not (is_of p y)) (sym (same_digest d x tied)))

-- nothing of a partition is held once it is dropped
dropped_holds : (c : Content) (p : ℕ) → holds_of (finite.retain_keys c (λ d. not (is_of p d))) p ≡ false
dropped_holds c p =
    ap (λ (b : Bool). not b) (unheld_nil (finite.retain_keys (finite.retain_keys c (λ d. not (is_of p d))) (is_of p))
    (λ d. kept_of (finite.retain_keys c (λ d. not (is_of p d))) p d ∙ ap (λ (o : Option Version). cond (is_of p d) o None) (left_of c p d) ∙ go (is_of p d) (finite.get c d)))
  where
    go : (b : Bool) (o : Option Version) → cond b (cond (not b) o None) None ≡ None
    go true o = refl
    go false o = refl

-- and what isn't held isn't held once another is dropped
dropped_other : (c : Content) (p q : ℕ) → holds_of c q ≡ false → holds_of (finite.retain_keys c (λ d. not (is_of p d))) q ≡ false
dropped_other c p q h =
    ap (λ (b : Bool). not b) (unheld_nil (finite.retain_keys (finite.retain_keys c (λ d. not (is_of p d))) (is_of q))
    (λ d. kept_of (finite.retain_keys c (λ d. not (is_of p d))) q d ∙ ap (λ (o : Option Version). cond (is_of q d) o None) (left_of c p d) ∙ go (is_of q d) (is_of p d) (finite.get c d) (sym (kept_of c q d) ∙ before d)))
  where
    turned : (b : Bool) → not b ≡ false → b ≡ true
    turned true e = refl
    turned false e = differ refl e

    before : Unheld (finite.retain_keys c (is_of q))
    before = nil_unheld (finite.retain_keys c (is_of q)) (turned (is_nil (digests_of c q)) h)

    go : (b a : Bool) (o : Option Version) → cond b o None ≡ None → cond b (cond (not a) o None) None ≡ None
    go true true o e = refl
    go true false o e = e
    go false a o e = refl

-- ---- what is owed at a partition

pub record Nothing (f : Facts) (p : ℕ) : Type 0 where
  pub learn : is_to_learn f (list_at f p) p ≡ false
  pub drop : is_to_drop f (list_at f p) p ≡ false

and_less : (s d r a b : Bool) → (a ≡ false → b ≡ false) → (s && (d && (not r && a))) ≡ false → (s && (d && (not r && b))) ≡ false
and_less false d r a b g e = refl
and_less true false r a b g e = refl
and_less true true true a b g e = refl
and_less true true false a b g e = g e

-- lines of one partition owe nothing at another
hand_keeps : (f : Facts) (l : List ℕ) (p q : ℕ) (b : Bool) → Nothing f q → Nothing (noted None f (only_if (line.Handed f.me (view_key f) p) b)) q
hand_keeps f l p q true h = record { learn = h.learn; drop = h.drop }
hand_keeps f l p q false h = h

settle_keeps : (f : Facts) (p q : ℕ) (b : Bool) → (p ≡ q → ⊥) → Nothing f q → Nothing (noted None f (only_if (line.Settled f.me (view_key f) p) b)) q
settle_keeps f p q true d h = record {
  learn = ap (λ (b : Bool). b && (is_own_replica f (list_at f q) && not (bit f.bits.learnt q))) (bit_others f.bits.settled p q d) ∙ h.learn;
  drop = ap (λ (b : Bool). b && (is_done f q && (not (is_own_replica f (list_at f q)) && holds_of f.store.content q))) (bit_others f.bits.settled p q d) ∙ h.drop;
}
settle_keeps f p q false d h = h

learn_keeps : (f : Facts) (p q : ℕ) (b : Bool) → (p ≡ q → ⊥) → Nothing f q → Nothing (noted None f (only_if (line.Learn f.me (view_key f) p) b)) q
learn_keeps f p q true d h = record { learn = ap (λ (b : Bool). has_settled_bit f q && (is_own_replica f (list_at f q) && not b)) (bit_others f.bits.learnt p q d) ∙ h.learn; drop = h.drop }
learn_keeps f p q false d h = h

drop_keeps : (f : Facts) (p q : ℕ) (b : Bool) → Nothing f q → Nothing (noted None f (only_if (line.Drop f.me (view_key f) p) b)) q
drop_keeps f p q true h = record {
  learn = h.learn;
  drop = and_less (has_settled_bit f q) (is_done f q) (is_own_replica f (list_at f q)) (holds_of f.store.content q) (holds_of (finite.retain_keys f.store.content (λ d. not (is_of p d))) q) (dropped_other f.store.content p q) h.drop;
}
drop_keeps f p q false h = h

-- ---- the four lines of a partition

-- the facts after each of them
abbrev pub after_hand : Facts → List ℕ → ℕ → Facts
after_hand f l p = noted None f (hand f l p)

abbrev pub after_settle : Facts → List ℕ → ℕ → Facts
after_settle f l p = noted None (after_hand f l p) (settle (after_hand f l p) l p)

abbrev pub after_learn : Facts → List ℕ → ℕ → Facts
after_learn f l p = noted None (after_settle f l p) (learn (after_settle f l p) l p)

abbrev pub after_drop : Facts → List ℕ → ℕ → Facts
after_drop f l p = noted None (after_learn f l p) (drop (after_learn f l p) l p)

pub four : (f : Facts) (l : List ℕ) (p : ℕ) → noted None f (settling_at l p f) ≡ after_drop f l p
four f l p =
    let g : Facts = after_hand f l p in
    let h : Facts = after_settle f l p in
    noted-append None f (hand f l p) (settle g l p ++ (learn h l p ++ drop (after_learn f l p) l p))
    ∙ noted-append None g (settle g l p) (learn h l p ++ drop (after_learn f l p) l p)
    ∙ noted-append None h (learn h l p) (drop (after_learn f l p) l p)

at_others : (f : Facts) (l : List ℕ) (p q : ℕ) → (p ≡ q → ⊥) → Nothing f q → Nothing (noted None f (settling_at l p f)) q
at_others f l p q d h =
    subst (λ (g : Facts). Nothing g q) (sym (four f l p))
    (drop_keeps (after_learn f l p) p q (is_to_drop (after_learn f l p) l p)
    (learn_keeps (after_settle f l p) p q (is_to_learn (after_settle f l p) l p) d
    (settle_keeps (after_hand f l p) p q (may_settle (after_hand f l p) l p) d
    (hand_keeps f l p q (may_hand f l p) h))))

-- ---- what the lines leave

-- the members of the view stay, and so do the places of the row of what was learnt
pub record Placed (n : ℕ) (members : List Member) (f : Facts) : Type 0 where
  pub members_are : members_of f.exchange.view ≡ members
  pub reaches : (p : ℕ) → p < n → Reaches f.bits.learnt p

hand_placed : (n : ℕ) (ms : List Member) (f : Facts) (p : ℕ) (b : Bool) → Placed n ms f → Placed n ms (noted None f (only_if (line.Handed f.me (view_key f) p) b))
hand_placed n ms f p true h = record { members_are = h.members_are; reaches = h.reaches }
hand_placed n ms f p false h = h

settle_placed : (n : ℕ) (ms : List Member) (f : Facts) (p : ℕ) (b : Bool) → Placed n ms f → Placed n ms (noted None f (only_if (line.Settled f.me (view_key f) p) b))
settle_placed n ms f p true h = record { members_are = h.members_are; reaches = h.reaches }
settle_placed n ms f p false h = h

learn_placed : (n : ℕ) (ms : List Member) (f : Facts) (p : ℕ) (b : Bool) → Placed n ms f → Placed n ms (noted None f (only_if (line.Learn f.me (view_key f) p) b))
learn_placed n ms f p true h = record { members_are = h.members_are; reaches = λ q lt. reaches_set f.bits.learnt p q (h.reaches q lt) }
learn_placed n ms f p false h = h

drop_placed : (n : ℕ) (ms : List Member) (f : Facts) (p : ℕ) (b : Bool) → Placed n ms f → Placed n ms (noted None f (only_if (line.Drop f.me (view_key f) p) b))
drop_placed n ms f p true h = record { members_are = h.members_are; reaches = h.reaches }
drop_placed n ms f p false h = h

before_learn : (n : ℕ) (ms : List Member) (f : Facts) (l : List ℕ) (p : ℕ) → Placed n ms f → Placed n ms (after_settle f l p)
before_learn n ms f l p h = settle_placed n ms (after_hand f l p) p (may_settle (after_hand f l p) l p) (hand_placed n ms f p (may_hand f l p) h)

all_placed : (n : ℕ) (ms : List Member) (f : Facts) (l : List ℕ) (p : ℕ) → Placed n ms f → Placed n ms (noted None f (settling_at l p f))
all_placed n ms f l p h =
    subst (λ (g : Facts). Placed n ms g) (sym (four f l p))
    (drop_placed n ms (after_learn f l p) p (is_to_drop (after_learn f l p) l p)
    (learn_placed n ms (after_settle f l p) p (is_to_learn (after_settle f l p) l p) (before_learn n ms f l p h)))

-- ---- at their own partition

never_learns : (a b c : Bool) → c ≡ true → (a && (b && not c)) ≡ false
never_learns false b c e = refl
never_learns true false c e = refl
never_learns true true c e = ap (λ (x : Bool). not x) e

never_drops : (a b r c : Bool) → c ≡ false → (a && (b && (not r && c))) ≡ false
never_drops false b r c e = refl
never_drops true false r c e = refl
never_drops true true true c e = refl
never_drops true true false c e = e

learns : (f : Facts) (l : List ℕ) (p : ℕ) → Reaches f.bits.learnt p → (b : Bool) → is_to_learn f l p ≡ b → is_to_learn (noted None f (only_if (line.Learn f.me (view_key f) p) b)) l p ≡ false
learns f l p h true e = never_learns (has_settled_bit f p) (is_own_replica f l) (bit (with_bit f.bits.learnt p) p) h
learns f l p h false e = e

drop_learns : (f : Facts) (l : List ℕ) (p : ℕ) (b : Bool) → is_to_learn f l p ≡ false → is_to_learn (noted None f (only_if (line.Drop f.me (view_key f) p) b)) l p ≡ false
drop_learns f l p true e = e
drop_learns f l p false e = e

drops : (f : Facts) (l : List ℕ) (p : ℕ) → (b : Bool) → is_to_drop f l p ≡ b → is_to_drop (noted None f (only_if (line.Drop f.me (view_key f) p) b)) l p ≡ false
drops f l p true e = never_drops (has_settled_bit f p) (is_done f p) (is_own_replica f l) (holds_of (finite.retain_keys f.store.content (λ d. not (is_of p d))) p) (dropped_holds f.store.content p)
drops f l p false e = e

at_place : (n : ℕ) (ms : List Member) (f : Facts) (p : ℕ) → p < n → Placed n ms f → Nothing (noted None f (settling_at (list_at f p) p f)) p
at_place n ms f p lt h = record {
  learn = subst (λ (l : List ℕ). is_to_learn (noted None f (settling_at (list_at f p) p f)) l p ≡ false) same (subst (λ (g : Facts). is_to_learn g (list_at f p) p ≡ false) (sym (four f (list_at f p) p)) learn_none);
  drop = subst (λ (l : List ℕ). is_to_drop (noted None f (settling_at (list_at f p) p f)) l p ≡ false) same (subst (λ (g : Facts). is_to_drop g (list_at f p) p ≡ false) (sym (four f (list_at f p) p)) drop_none);
}
  where
    same : list_at f p ≡ list_at (noted None f (settling_at (list_at f p) p f)) p
    same = ap (λ (x : List Member). list x p) (h.members_are ∙ sym (all_placed n ms f (list_at f p) p h).members_are)

    learn_none : is_to_learn (after_drop f (list_at f p) p) (list_at f p) p ≡ false
    learn_none =
        drop_learns (after_learn f (list_at f p) p) (list_at f p) p (is_to_drop (after_learn f (list_at f p) p) (list_at f p) p)
        (learns (after_settle f (list_at f p) p) (list_at f p) p ((before_learn n ms f (list_at f p) p h).reaches p lt) (is_to_learn (after_settle f (list_at f p) p) (list_at f p) p) refl)

    drop_none : is_to_drop (after_drop f (list_at f p) p) (list_at f p) p ≡ false
    drop_none = drops (after_learn f (list_at f p) p) (list_at f p) p (is_to_drop (after_learn f (list_at f p) p) (list_at f p) p) refl

-- ---- all of them

number_below : (j p : ℕ) → j < p + 1 → (p ≡ j → ⊥) → j < p
number_below j p lt d = go (nat_lt j p) refl
  where
    go : (b : Bool) → nat_lt j p ≡ b → j < p
    go true e = grind (arith, nat_tests, e)
    go false e = absurd (d (grind (arith, nat_tests, e, lt)))

settled_places : (n : ℕ) (ms : List Member) (k p : ℕ) (f : Facts) → p + k ≤ n → Placed n ms f → ((q : ℕ) → q < p → Nothing f q) → (q : ℕ) → q < p + k → Nothing (noted None f (settling_from k p f)) q
unfolding settling_from
settled_places n ms zero p f le h before q lt = before q (omega (arith, lt))
settled_places n ms (suc k) p f le h before q lt =
    let f1 : Facts = noted None f (settling_at (list_at f p) p f) in
    subst (λ (g : Facts). Nothing g q) (sym (noted-append None f (settling_at (list_at f p) p f) (settling_from k (p + 1) f1)))
    (settled_places n ms k (p + 1) f1 (omega (arith, le)) (all_placed n ms f (list_at f p) p h) upto q (omega (arith, lt)))
  where
    upto : (j : ℕ) → j < p + 1 → Nothing (noted None f (settling_at (list_at f p) p f)) j
    upto j less = go (p == j) refl
      where
        go : (b : Bool) → (p == j) ≡ b → Nothing (noted None f (settling_at (list_at f p) p f)) j
        go true e = subst (λ (y : ℕ). Nothing (noted None f (settling_at (list_at f p) p f)) y) (num_same p j e) (at_place n ms f p (omega (arith, le)) h)
        go false e =
            let other : p ≡ j → ⊥ = λ i. differ (equal p j i) e in
            at_others f (list_at f p) p j other (before j (below other))
          where
            below : (p ≡ j → ⊥) → j < p
            below d = number_below j p less d

nothing_all : (f : Facts) (k p : ℕ) → ((q : ℕ) → p ≤ q → q < p + k → Nothing f q) → has_nothing_to_learn_or_drop f k p ≡ true
unfolding has_nothing_to_learn_or_drop
nothing_all f zero p h = refl
nothing_all f (suc k) p h =
    ap (λ (b : Bool). not (b || is_to_drop f (list_at f p) p) && has_nothing_to_learn_or_drop f k (p + 1)) (h p (omega arith) (omega arith)).learn
    ∙ ap (λ (b : Bool). not b && has_nothing_to_learn_or_drop f k (p + 1)) (h p (omega arith) (omega arith)).drop
    ∙ nothing_all f k (p + 1) (λ q ge lt. h q (omega (arith, ge)) (omega (arith, lt)))

-- after the settling of so many partitions nothing is owed at any of them
pub settled_owes : (n : ℕ) (f : Facts) → ((p : ℕ) → p < n → Reaches f.bits.learnt p) → has_nothing_to_learn_or_drop (noted None f (settling_from n 0 f)) n 0 ≡ true
settled_owes n f h =
    nothing_all (noted None f (settling_from n 0 f)) n 0
    (λ q ge lt. settled_places n (members_of f.exchange.view) n 0 f (omega arith) (record { members_are = refl; reaches = h }) (λ j less. absurd (omega (arith, less))) q lt)
