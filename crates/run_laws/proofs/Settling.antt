-- The lines of settling: each is due of the facts behind those before it, and what they leave.
use Rattle.std.proofs.Common.{◌≡◌, ℕ, zero, suc, ◌+◌, ◌<◌, ◌≤◌, Bool, true, false, cond, not, List, [], ◌∷◌, ◌++◌, take, Option, Some, None, refl, sym, ap, ◌∙◌, arith, subst, inl, inr, ⊎_elim, if◌then◌else◌}
use Rattle.std.specs.List.{list_any}
use Rattle.std.specs.FinMap as finite
use Rattle.cluster_types.specs.Partitions.{partition_count, partition_of}
use Rattle.journal_lines.specs.declared.line.Line.{Line}
use Rattle.journal_lines.specs.declared.line.Line.TheVariants as line
use Rattle.partition_lists.specs.Lists as lists
use Rattle.node_rules.specs.Batches.{Target, Targets, is_pending}
use Rattle.node_rules.specs.Copies.{is_of}
use Rattle.node_rules.specs.Exchange.{View, exchange_key, members_of}
use Rattle.node_rules.specs.Facts.{Facts, list_at, view_key}
use Rattle.node_rules.specs.Notes.{note, noted, dropped}
use Rattle.node_rules.specs.Settling.{hand, settle, learn, drop, lines_then, settling_at, settling_from, settling_due, may_hand, may_settle}
use Rattle.node_rules.specs.Standing.{is_to_learn, is_to_drop, is_done}
use Rattle.node_rules.specs.Tables.{only_if}
use Rattle.cluster_laws.proofs.At.{number_same, number_here, and_left, and_right}
use Rattle.run_laws.specs.Tied.{key_in, Among}
use Rattle.run_laws.specs.Due.{Passes, SettleOk, Along, SettledOnly}
use Rattle.run_laws.proofs.Tables.{dropped_at}
use Rattle.run_laws.proofs.Words.{or_left, or_right}

-- ---- what is left

pub only_itself : (f : Facts) → SettledOnly f f
only_itself f = record { me = refl; factor = refl; agreement = refl; exchange = refl; transactions = refl; writes = refl; batches = refl; by = refl; content = λ d e. refl }

only_both : (f g h : Facts) → SettledOnly f g → SettledOnly g h → SettledOnly f h
only_both f g h a b = record {
  me = b.me ∙ a.me;
  factor = b.factor ∙ a.factor;
  agreement = b.agreement ∙ a.agreement;
  exchange = b.exchange ∙ a.exchange;
  transactions = b.transactions ∙ a.transactions;
  writes = b.writes ∙ a.writes;
  batches = b.batches ∙ a.batches;
  by = b.by ∙ a.by;
  content = λ d e. b.content d (ap (λ (ts : Targets). is_pending ts (partition_of d)) a.batches ∙ e) ∙ a.content d e;
}

-- a drop is of a partition of which nothing is pending
drop_only : (f : Facts) (p : ℕ) → is_done f p ≡ true → SettledOnly f (dropped f p)
drop_only f p done = record {
  me = refl;
  factor = refl;
  agreement = refl;
  exchange = refl;
  transactions = refl;
  writes = refl;
  batches = refl;
  by = refl;
  content = λ d e. dropped_at f.store.content p d ∙ ap (λ (b : Bool). cond (not b) (finite.get f.store.content d) None) (apart d e);
}
  where
    apart : (d : List ℕ) → is_pending f.batches (partition_of d) ≡ true → is_of p d ≡ false
    apart d e = go (is_of p d) refl
      where
        go : (b : Bool) → is_of p d ≡ b → b ≡ false
        go false i = refl
        go true i = absurd (no_both (is_pending f.batches p) (ap (is_pending f.batches) (sym (number_same (partition_of d) p i)) ∙ e) (and_right f.exchange.exchanged (not (is_pending f.batches p)) done))
          where
            no_both : (b : Bool) → b ≡ true → not b ≡ true → ⊥
            no_both b x y = grind arith

-- ---- part by part

-- the node is in the view, and its exchange is over
pub record Inside (v : View) (f : Facts) : Type 0 where
  pub view : f.exchange.view ≡ Some v
  pub exchanged : f.exchange.exchanged ≡ true

inside_on : (v : View) (f g : Facts) → SettledOnly f g → Inside v f → Inside v g
inside_on v f g s h = record { view = ap (λ e. e.view) s.exchange ∙ h.view; exchanged = ap (λ e. e.exchanged) s.exchange ∙ h.exchanged }

record Goes (f : Facts) (ls : List Line) : Type 0 where
  along : Along SettleOk f ls
  only : SettledOnly f (noted None f ls)

goes_append : (f : Facts) (a b : List Line) → Goes f a → Goes (noted None f a) b → Goes f (a ++ b)
goes_append f [] b x y = y
goes_append f (l ∷ a) b x y =
    let rest : Along SettleOk (note None f l) (a ++ b) = along_append (note None f l) a b x.along.1 y.along in
    record { along = (x.along.0, rest); only = subst (λ (g : Facts). SettledOnly f g) (sym (noted_append (note None f l) a b)) (only_both f _ _ x.only y.only) }
  where
    along_append : (f : Facts) (a b : List Line) → Along SettleOk f a → Along SettleOk (noted None f a) b → Along SettleOk f (a ++ b)
    along_append f [] b x y = y
    along_append f (l ∷ a) b x y = (x.0, along_append (note None f l) a b x.1 y)

    noted_append : (f : Facts) (a b : List Line) → noted None f (a ++ b) ≡ noted None (noted None f a) b
    noted_append f [] b = refl
    noted_append f (l ∷ a) b = noted_append (note None f l) a b

GoesOn : View → (Facts → List Line) → Type 0
GoesOn v part = (f : Facts) → Inside v f → Goes f (part f)

then_goes : (v : View) (first second : Facts → List Line) → GoesOn v first → GoesOn v second → GoesOn v (lines_then first second)
unfolding GoesOn
then_goes v first second a b f i = goes_append f (first f) (second (noted None f (first f))) (a f i) (b (noted None f (first f)) (inside_on v f _ (a f i).only i))

passes : (v : View) (f : Facts) (l : List ℕ) (p : ℕ) (test : Facts → List ℕ → ℕ → Bool) → Inside v f → l ≡ lists.list v.members p → p < partition_count → test f l p ≡ true → Passes f f.me (view_key f) p (test f (list_at f p) p)
passes v f l p test i e lt t = record {
  me = refl;
  view = ap key_in i.view ∙ ap (λ (o : Option View). Some (exchange_key o)) (sym i.view);
  exchanged = i.exchanged;
  part = lt;
  passed = ap (λ (m : List ℕ). test f m p) (ap (λ (o : Option View). lists.list (members_of o) p) i.view ∙ sym e) ∙ t;
}

hand_goes : (v : View) (p : ℕ) → p < partition_count → GoesOn v (λ f. hand f (lists.list v.members p) p)
unfolding GoesOn
hand_goes v p lt f i = go (may_hand f (lists.list v.members p) p) refl
  where
    go : (b : Bool) → may_hand f (lists.list v.members p) p ≡ b → Goes f (only_if (line.Handed f.me (view_key f) p) b)
    go true e = record { along = (passes v f _ p may_hand i refl lt e, tt); only = record { me = refl; factor = refl; agreement = refl; exchange = refl; transactions = refl; writes = refl; batches = refl; by = refl; content = λ d e. refl } }
    go false e = record { along = tt; only = only_itself f }

settle_goes : (v : View) (p : ℕ) → p < partition_count → GoesOn v (λ f. settle f (lists.list v.members p) p)
unfolding GoesOn
settle_goes v p lt f i = go (may_settle f (lists.list v.members p) p) refl
  where
    go : (b : Bool) → may_settle f (lists.list v.members p) p ≡ b → Goes f (only_if (line.Settled f.me (view_key f) p) b)
    go true e = record { along = (passes v f _ p may_settle i refl lt e, tt); only = record { me = refl; factor = refl; agreement = refl; exchange = refl; transactions = refl; writes = refl; batches = refl; by = refl; content = λ d e. refl } }
    go false e = record { along = tt; only = only_itself f }

learn_goes : (v : View) (p : ℕ) → p < partition_count → GoesOn v (λ f. learn f (lists.list v.members p) p)
unfolding GoesOn
learn_goes v p lt f i = go (is_to_learn f (lists.list v.members p) p) refl
  where
    go : (b : Bool) → is_to_learn f (lists.list v.members p) p ≡ b → Goes f (only_if (line.Learn f.me (view_key f) p) b)
    go true e = record { along = (passes v f _ p is_to_learn i refl lt e, tt); only = record { me = refl; factor = refl; agreement = refl; exchange = refl; transactions = refl; writes = refl; batches = refl; by = refl; content = λ d e. refl } }
    go false e = record { along = tt; only = only_itself f }

drop_goes : (v : View) (p : ℕ) → p < partition_count → GoesOn v (λ f. drop f (lists.list v.members p) p)
unfolding GoesOn
drop_goes v p lt f i = go (is_to_drop f (lists.list v.members p) p) refl
  where
    go : (b : Bool) → is_to_drop f (lists.list v.members p) p ≡ b → Goes f (only_if (line.Drop f.me (view_key f) p) b)
    go true e = record { along = (passes v f _ p is_to_drop i refl lt e, tt); only = drop_only f p (and_left (is_done f p) _ (and_right _ _ e)) }
    go false e = record { along = tt; only = only_itself f }

at_goes : (v : View) (p : ℕ) → p < partition_count → GoesOn v (settling_at (lists.list v.members p) p)
at_goes v p lt = then_goes v _ _ (hand_goes v p lt) (then_goes v _ _ (settle_goes v p lt) (then_goes v _ _ (learn_goes v p lt) (drop_goes v p lt)))

from_goes : (v : View) (n p : ℕ) → p + n ≤ partition_count → GoesOn v (settling_from n p)
unfolding settling_from GoesOn
from_goes v zero p le f i = record { along = tt; only = only_itself f }
from_goes v (suc n) p le f i = subst (λ (l : List ℕ). Goes f (settling_at l p f ++ settling_from n (p + 1) (noted None f (settling_at l p f)))) (ap (λ (o : Option View). lists.list (members_of o) p) (sym i.view))
    (let a : Goes f (settling_at (lists.list v.members p) p f) = at_goes v p (omega (arith, le)) f i in
    goes_append f _ _ a (from_goes v n (p + 1) (omega (arith, le)) _ (inside_on v f _ a.only i)))

-- ---- all of it

goes : (f : Facts) (v : View) → f.exchange.view ≡ Some v → (b : Bool) → f.exchange.exchanged ≡ b → Goes f (if b then settling_from partition_count 0 f else [])
unfolding GoesOn
goes f v e true i = from_goes v partition_count 0 (omega arith) f (record { view = e; exchanged = i })
goes f v e false i = record { along = tt; only = only_itself f }

-- each line of settling is due of the facts behind those before it
pub settling_along : (f : Facts) (v : View) → f.exchange.view ≡ Some v → Along SettleOk f (settling_due partition_count f)
settling_along f v e = (goes f v e f.exchange.exchanged refl).along

pub settling_only : (f : Facts) (v : View) → f.exchange.view ≡ Some v → SettledOnly f (noted None f (settling_due partition_count f))
settling_only f v e = (goes f v e f.exchange.exchanged refl).only

-- ---- batches

pub any_among : {X : Type 0} (t : X → Bool) (xs : List X) (x : X) → Among xs x → t x ≡ true → list_any t xs ≡ true
any_among {X} t [] x a e = absurd a
any_among {X} t (y ∷ ys) x a e = ⊎_elim (λ z. or_left (t y) (list_any t ys) (ap t z ∙ e)) (λ z. or_right (t y) (list_any t ys) (any_among t ys x z e)) a

pub pending_stays : (f : Facts) (v : View) → f.exchange.view ≡ Some v → (t : Target) → Among f.batches t → (d : List ℕ) → Among t.pending d
    → finite.get (noted None f (settling_due partition_count f)).store.content d ≡ finite.get f.store.content d
pending_stays f v e t a d i = (settling_only f v e).content d (any_among (λ (u : Target). list_any (is_of (partition_of d)) u.pending) f.batches t a (any_among (is_of (partition_of d)) t.pending d i (number_here (partition_of d))))

pub taken_among : {X : Type 0} (n : ℕ) (xs : List X) (x : X) → Among (take n xs) x → Among xs x
taken_among {X} zero xs x a = absurd a
taken_among {X} (suc n) [] x a = a
taken_among {X} (suc n) (y ∷ ys) x a = ⊎_elim (λ z. inl z) (λ z. inr (taken_among n ys x z)) a
