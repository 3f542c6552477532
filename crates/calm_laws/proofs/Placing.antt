-- What a tick hands over and settles.
use Rattle.std.proofs.Common.{◌≡◌, ℕ, zero, suc, ◌+◌, ◌<◌, ◌≤◌, ◌==◌, ◌||◌, ◌&&◌, nat_lt, not, Bool, true, false, List, [], ◌∷◌, None, refl, sym, ap, subst, arith}
use Rattle.std.proofs.lemmas.Bool.Decides.{nat_tests}
use Rattle.cluster_types.specs.Rows.{bit}
use Rattle.journal_lines.specs.declared.line.Line.TheVariants as line
use Rattle.partition_lists.proofs.InOrderLaws.{equal}
use Rattle.node_rules.specs.Bits.{with_bit}
use Rattle.node_rules.specs.Facts.{Facts, list_at, view_key}
use Rattle.node_rules.specs.Notes.{noted}
use Rattle.node_rules.specs.Settling.{may_hand, may_settle, settling_at, settling_from}
use Rattle.node_rules.specs.Standing.{are_all_done, is_acting, is_all_empty, is_master, is_to_drop, is_to_learn}
use Rattle.node_rules.specs.Transactions.{is_busy}
use Rattle.node_rules.proofs.NoteLaws.{noted-append}
use Rattle.node_rules.specs.Tables.{only_if}
use Rattle.cluster_rules.proofs.KeptFacts.{num_same}
use Rattle.cluster_laws.proofs.At.{differ}
use Rattle.calm_laws.specs.Calming.{Reaches}
use Rattle.calm_laws.proofs.Bitwise.{Has}
use Rattle.calm_laws.proofs.Growing.{bit_stays}
use Rattle.calm_laws.proofs.Knowing.{or_grows}
use Rattle.calm_laws.proofs.Owing.{after_hand, after_learn, after_settle, four, reaches_set}

-- what each of the four lines of a partition keeps, the lines of all keep
pub record Lasts (P : List ℕ → Facts → Type 0) : Type 0 where
  pub hand : (l : List ℕ) (f : Facts) (p : ℕ) (b : Bool) → P l f → P l (noted None f (only_if (line.Handed f.me (view_key f) p) b))
  pub settle : (l : List ℕ) (f : Facts) (p : ℕ) (b : Bool) → P l f → P l (noted None f (only_if (line.Settled f.me (view_key f) p) b))
  pub learn : (l : List ℕ) (f : Facts) (p : ℕ) (b : Bool) → P l f → P l (noted None f (only_if (line.Learn f.me (view_key f) p) b))
  pub drop : (l : List ℕ) (f : Facts) (p : ℕ) (b : Bool) → P l f → P l (noted None f (only_if (line.Drop f.me (view_key f) p) b))

all_last : (P : List ℕ → Facts → Type 0) → Lasts P → (k : List ℕ) (f : Facts) (l : List ℕ) (p : ℕ) → P k f → P k (noted None f (settling_at l p f))
all_last P h k f l p x =
    subst (λ (g : Facts). P k g) (sym (four f l p))
    (h.drop k (after_learn f l p) p (is_to_drop (after_learn f l p) l p)
    (h.learn k (after_settle f l p) p (is_to_learn (after_settle f l p) l p)
    (h.settle k (after_hand f l p) p (may_settle (after_hand f l p) l p)
    (h.hand k f p (may_hand f l p) x))))

from_lasts : (P : List ℕ → Facts → Type 0) → Lasts P → (l : List ℕ) (k p : ℕ) (f : Facts) → P l f → P l (noted None f (settling_from k p f))
unfolding settling_from
from_lasts P h l zero p f x = x
from_lasts P h l (suc k) p f x =
    let g : Facts = noted None f (settling_at (list_at f p) p f) in
    subst (λ (y : Facts). P l y) (sym (noted-append None f (settling_at (list_at f p) p f) (settling_from k (p + 1) g))) (from_lasts P h l k (p + 1) g (all_last P h l f (list_at f p) p x))

pub next_above : (a b : ℕ) → a ≤ b → (a ≡ b → ⊥) → a + 1 ≤ b
next_above a b le d = go (nat_lt a b) refl
  where
    go : (c : Bool) → nat_lt a b ≡ c → a + 1 ≤ b
    go true e = grind (arith, nat_tests, e)
    go false e = absurd (d (grind (arith, nat_tests, e, le)))

-- what the lines of a partition make of the first comes about when its turn comes, and lasts
comes_about : (P Q : List ℕ → Facts → Type 0) → Lasts P → Lasts Q → (q : ℕ) (l : List ℕ) → ((f : Facts) → P l f → Q l (noted None f (settling_at (list_at f q) q f))) → (k p : ℕ) (f : Facts) → p ≤ q → q < p + k → P l f → Q l (noted None f (settling_from k p f))
unfolding settling_from
comes_about P Q h j q l makes zero p f le lt x = absurd (omega (arith, le, lt))
comes_about P Q h j q l makes (suc k) p f le lt x =
    let g : Facts = noted None f (settling_at (list_at f p) p f) in
    subst (λ (y : Facts). Q l y) (sym (noted-append None f (settling_at (list_at f p) p f) (settling_from k (p + 1) g)))
    (go (p == q) refl (λ above. comes_about P Q h j q l makes k (p + 1) g above (omega (arith, lt)) (all_last P h l f (list_at f p) p x)))
  where
    go : (b : Bool) → (p == q) ≡ b → (p + 1 ≤ q → Q l (noted None (noted None f (settling_at (list_at f p) p f)) (settling_from k (p + 1) (noted None f (settling_at (list_at f p) p f)))))
        → Q l (noted None (noted None f (settling_at (list_at f p) p f)) (settling_from k (p + 1) (noted None f (settling_at (list_at f p) p f))))
    go true e rest =
        from_lasts Q j l k (p + 1) (noted None f (settling_at (list_at f p) p f))
        (subst (λ (y : ℕ). Q l (noted None f (settling_at (list_at f y) y f))) (sym (num_same p q e)) (makes f x))
    go false e rest = rest (next_above p q le (λ i. differ (equal p q i) e))

-- ---- a bit

bit_lasts : (c : Bool) (q : ℕ) → Lasts (λ l f. Has c q f.bits)
bit_lasts c q = record { hand = λ l. hand c; settle = λ l. settle c; learn = λ l. learn c; drop = λ l. drop c }
  where
    hand : (c : Bool) (f : Facts) (p : ℕ) (b : Bool) → Has c q f.bits → Has c q (noted None f (only_if (line.Handed f.me (view_key f) p) b)).bits
    hand true f p true h = bit_stays f.bits.handed p q h
    hand false f p true h = h
    hand c f p false h = h

    settle : (c : Bool) (f : Facts) (p : ℕ) (b : Bool) → Has c q f.bits → Has c q (noted None f (only_if (line.Settled f.me (view_key f) p) b)).bits
    settle true f p true h = h
    settle false f p true h = bit_stays f.bits.settled p q h
    settle c f p false h = h

    learn : (c : Bool) (f : Facts) (p : ℕ) (b : Bool) → Has c q f.bits → Has c q (noted None f (only_if (line.Learn f.me (view_key f) p) b)).bits
    learn true f p true h = h
    learn false f p true h = h
    learn c f p false h = h

    drop : (c : Bool) (f : Facts) (p : ℕ) (b : Bool) → Has c q f.bits → Has c q (noted None f (only_if (line.Drop f.me (view_key f) p) b)).bits
    drop c f p true h = h
    drop c f p false h = h

-- ---- handing over

-- the node may hand the partition over, unless it did
pub record Hands (q : ℕ) (l : List ℕ) (f : Facts) : Type 0 where
  pub list_is : list_at f q ≡ l
  pub acting : is_acting f l q ≡ true
  pub master : is_master f l ≡ false
  pub done : are_all_done f q ≡ true
  pub free : is_busy f.transactions q ≡ false
  pub reach : Reaches f.bits.handed q
  -- what it handed over itself it knows handed over
  pub own : bit f.bits.own_handed q ≡ true → bit f.bits.handed q ≡ true

-- the bit of one row that the other has is set in both
set_both : (xs ys : List Bool) (p q : ℕ) → (bit xs q ≡ true → bit ys q ≡ true) → Reaches ys q → bit (with_bit xs p) q ≡ true → bit (with_bit ys p) q ≡ true
set_both [] ys p q h r e = bit_stays ys p q (h e)
set_both (x ∷ xs) [] p q h r e = differ r refl
set_both (x ∷ xs) (y ∷ ys) zero zero h r e = refl
set_both (x ∷ xs) (y ∷ ys) zero (suc q) h r e = h e
set_both (x ∷ xs) (y ∷ ys) (suc p) zero h r e = h e
set_both (x ∷ xs) (y ∷ ys) (suc p) (suc q) h r e = set_both xs ys p q h r e

hands_last : (q : ℕ) → Lasts (Hands q)
hands_last q = record { hand = hand; settle = settle; learn = learn; drop = drop }
  where
    hand : (l : List ℕ) (f : Facts) (p : ℕ) (b : Bool) → Hands q l f → Hands q l (noted None f (only_if (line.Handed f.me (view_key f) p) b))
    hand l f p true h = record { list_is = h.list_is; acting = h.acting; master = h.master; done = h.done; free = h.free; reach = reaches_set f.bits.handed p q h.reach; own = set_both f.bits.own_handed f.bits.handed p q h.own h.reach }
    hand l f p false h = h

    settle : (l : List ℕ) (f : Facts) (p : ℕ) (b : Bool) → Hands q l f → Hands q l (noted None f (only_if (line.Settled f.me (view_key f) p) b))
    settle l f p true h = record { list_is = h.list_is; acting = h.acting; master = h.master; done = h.done; free = h.free; reach = h.reach; own = h.own }
    settle l f p false h = h

    learn : (l : List ℕ) (f : Facts) (p : ℕ) (b : Bool) → Hands q l f → Hands q l (noted None f (only_if (line.Learn f.me (view_key f) p) b))
    learn l f p true h = record { list_is = h.list_is; acting = h.acting; master = h.master; done = h.done; free = h.free; reach = h.reach; own = h.own }
    learn l f p false h = h

    drop : (l : List ℕ) (f : Facts) (p : ℕ) (b : Bool) → Hands q l f → Hands q l (noted None f (only_if (line.Drop f.me (view_key f) p) b))
    drop l f p true h = record { list_is = h.list_is; acting = h.acting; master = h.master; done = h.done; free = h.free; reach = h.reach; own = h.own }
    drop l f p false h = h

hands_now : (q : ℕ) (l : List ℕ) (f : Facts) → Hands q l f → Has true q (after_hand f l q).bits
hands_now q l f h = go (may_hand f l q) refl
  where
    left : (a m b d y : Bool) → a ≡ true → m ≡ false → d ≡ true → y ≡ false → (a && (not m && (not b && (d && not y)))) ≡ false → b ≡ true
    left true false b true false i j k r e = turned b (ap (λ (x : Bool). x) e)
      where
        turned : (b : Bool) → (not b && true) ≡ false → b ≡ true
        turned true e = refl
        turned false e = differ refl e
    left false m b d y i j k r e = differ i refl
    left true true b d y i j k r e = differ refl j
    left true false b false y i j k r e = differ k refl
    left true false b true true i j k r e = differ refl r

    go : (b : Bool) → may_hand f l q ≡ b → Has true q (noted None f (only_if (line.Handed f.me (view_key f) q) b)).bits
    go true e = h.reach
    go false e = h.own (left (is_acting f l q) (is_master f l) (bit f.bits.own_handed q) (are_all_done f q) (is_busy f.transactions q) h.acting h.master h.done h.free e)

hands_place : (q : ℕ) (l : List ℕ) (f : Facts) → Hands q l f → Has true q (noted None f (settling_at (list_at f q) q f)).bits
hands_place q l f h =
    subst (λ (k : List ℕ). Has true q (noted None f (settling_at k q f)).bits) (sym h.list_is)
    (subst (λ (g : Facts). Has true q g.bits) (sym (four f l q))
    ((bit_lasts true q).drop l (after_learn f l q) q (is_to_drop (after_learn f l q) l q)
    ((bit_lasts true q).learn l (after_settle f l q) q (is_to_learn (after_settle f l q) l q)
    ((bit_lasts true q).settle l (after_hand f l q) q (may_settle (after_hand f l q) l q) (hands_now q l f h)))))

-- the tick of the acting master that isn't the list master hands over
pub hands_over : (n q : ℕ) (l : List ℕ) (f : Facts) → q < n → Hands q l f → Has true q (noted None f (settling_from n 0 f)).bits
hands_over n q l f lt h = comes_about (Hands q) (λ l f. Has true q f.bits) (hands_last q) (bit_lasts true q) q l (hands_place q l) n 0 f (omega arith) (omega (arith, lt)) h

-- ---- settling

-- the list master may settle the partition, unless it did
pub record Settles (q : ℕ) (l : List ℕ) (f : Facts) : Type 0 where
  pub list_is : list_at f q ≡ l
  pub master : is_master f l ≡ true
  pub some : is_all_empty f q ≡ false
  pub free : is_busy f.transactions q ≡ false
  pub may : (bit f.bits.handed q || (is_acting f l q && are_all_done f q)) ≡ true
  pub reach : Reaches f.bits.settled q

settles_last : (q : ℕ) → Lasts (Settles q)
settles_last q = record { hand = hand; settle = settle; learn = learn; drop = drop }
  where
    hand : (l : List ℕ) (f : Facts) (p : ℕ) (b : Bool) → Settles q l f → Settles q l (noted None f (only_if (line.Handed f.me (view_key f) p) b))
    hand l f p true h = record {
      list_is = h.list_is;
      master = h.master;
      some = h.some;
      free = h.free;
      may = or_grows (bit f.bits.handed q) (bit (with_bit f.bits.handed p) q) (is_acting f l q && are_all_done f q) (bit_stays f.bits.handed p q) h.may;
      reach = h.reach;
    }
    hand l f p false h = h

    settle : (l : List ℕ) (f : Facts) (p : ℕ) (b : Bool) → Settles q l f → Settles q l (noted None f (only_if (line.Settled f.me (view_key f) p) b))
    settle l f p true h = record { list_is = h.list_is; master = h.master; some = h.some; free = h.free; may = h.may; reach = reaches_set f.bits.settled p q h.reach }
    settle l f p false h = h

    learn : (l : List ℕ) (f : Facts) (p : ℕ) (b : Bool) → Settles q l f → Settles q l (noted None f (only_if (line.Learn f.me (view_key f) p) b))
    learn l f p true h = record { list_is = h.list_is; master = h.master; some = h.some; free = h.free; may = h.may; reach = h.reach }
    learn l f p false h = h

    drop : (l : List ℕ) (f : Facts) (p : ℕ) (b : Bool) → Settles q l f → Settles q l (noted None f (only_if (line.Drop f.me (view_key f) p) b))
    drop l f p true h = record { list_is = h.list_is; master = h.master; some = h.some; free = h.free; may = h.may; reach = h.reach }
    drop l f p false h = h

settles_now : (q : ℕ) (l : List ℕ) (f : Facts) → Settles q l f → Has false q (noted None f (only_if (line.Settled f.me (view_key f) q) (may_settle f l q))).bits
settles_now q l f h = go (may_settle f l q) refl
  where
    left : (m a b y o : Bool) → m ≡ true → a ≡ false → y ≡ false → o ≡ true → (m && (not a && (not b && (not y && o)))) ≡ false → b ≡ true
    left true false true false true i j k r e = refl
    left true false false false true i j k r e = differ refl e
    left false a b y o i j k r e = differ i refl
    left true true b y o i j k r e = differ refl j
    left true false b true o i j k r e = differ refl k
    left true false b false false i j k r e = differ r refl

    go : (b : Bool) → may_settle f l q ≡ b → Has false q (noted None f (only_if (line.Settled f.me (view_key f) q) b)).bits
    go true e = h.reach
    go false e = left (is_master f l) (is_all_empty f q) (bit f.bits.settled q) (is_busy f.transactions q) (bit f.bits.handed q || (is_acting f l q && are_all_done f q)) h.master h.some h.free h.may e

settles_place : (q : ℕ) (l : List ℕ) (f : Facts) → Settles q l f → Has false q (noted None f (settling_at (list_at f q) q f)).bits
settles_place q l f h =
    subst (λ (k : List ℕ). Has false q (noted None f (settling_at k q f)).bits) (sym h.list_is)
    (subst (λ (g : Facts). Has false q g.bits) (sym (four f l q))
    ((bit_lasts false q).drop l (after_learn f l q) q (is_to_drop (after_learn f l q) l q)
    ((bit_lasts false q).learn l (after_settle f l q) q (is_to_learn (after_settle f l q) l q)
    (settles_now q l (after_hand f l q) ((settles_last q).hand l f q (may_hand f l q) h)))))

-- the tick of the list master settles
pub settles_it : (n q : ℕ) (l : List ℕ) (f : Facts) → q < n → Settles q l f → Has false q (noted None f (settling_from n 0 f)).bits
settles_it n q l f lt h = comes_about (Settles q) (λ l f. Has false q f.bits) (settles_last q) (bit_lasts false q) q l (settles_place q l) n 0 f (omega arith) (omega (arith, lt)) h
