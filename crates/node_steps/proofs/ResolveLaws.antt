-- How the last answer resolves a transaction.
use Rattle.std.proofs.Common.{◌≡◌, ◌==◌, ◌&&◌, ◌<◌, ◌^◌, ℕ, Bool, true, false, not, cond, List, [], ◌∷◌, map, Option, Some, None, is_some, All, refl, sym, ap, ap₂, subst, ◌∙◌}
use Rattle.std.specs.Prelude.{IfSome, IsSome, find, option_map, unwrap_or, if◌then◌else◌}
use Rattle.std.specs.Option.{ForSome}
use Rattle.std.proofs.lemmas.List.Elements.{All-head, All-tail}
use Rattle.conflict_order.specs.declared.policy.Policy.{Policy}
use Rattle.conflict_order.specs.declared.version.Version.{Version}
use Rattle.conflict_order.specs.Join.{join}
use Rattle.conflict_order.specs.Order.{version_cmp}
use Rattle.std.specs.Ordering.{is_gt}
use Rattle.cluster_types.specs.Distinct.{without}
use Rattle.cluster_types.specs.Partitions.{partition_of}
use Rattle.wire_messages.specs.Versions.{IsOptionVersion, IsVersion}
use Rattle.dup_resolve.specs.declared.txn.Txn.{Txn}
use Rattle.node_rules.specs.ByParts.{resolved, resolved_with}
use Rattle.node_rules.specs.Copies.{is_nil}
use Rattle.node_rules.specs.Facts.{Facts, list_at}
use Rattle.node_rules.specs.Messages as due
use Rattle.node_rules.specs.Notes.{answer_came}
use Rattle.node_rules.specs.Tables.{changed_if, contains}
use Rattle.node_rules.specs.Transactions.{Transaction, Transactions, Write, answered, answering, awaits_answer, is_last_awaited, transaction}
use Rattle.node_view.specs.declared.view_step.Outcome.{Outcome}
use Rattle.node_view.specs.declared.view_step.ViewStep.{ViewStep}
use Rattle.node_view.specs.declared.view_step.ViewStep.TheVariants as step
use Rattle.node_view.specs.Fits.{FitsOutcome, FitsStep}
use Rattle.node_view.specs.Plans as plans
use Rattle.node_view.specs.Rooms.{HasRoomForOutcome}
use Rattle.node_view.specs.Views.{IsInView, IsSame, Viewed, digest_in}
use Rattle.node_steps.specs.declared.resolving.Resolving.{Resolving}
use Rattle.node_steps.specs.Counts.{HaveNumbers}
use Rattle.node_steps.specs.Ranges.{HasRanges, IsResolvingField, HasSpelling}
use Rattle.node_steps.specs.Resolvings.{AwaitsLast, due_outcome, outcome_of, resolving_of}
use Rattle.node_steps.specs.Viewing.{IsAsKept}
use Rattle.node_steps.proofs.AckLaws.{number_is}
use Rattle.node_steps.proofs.OpeningLaws.{outcome_after, outcome_field, outcome_fits}
use Rattle.node_steps.proofs.StepRanges.{answered_ranges, outcome_ranges}
use Rattle.node_steps.proofs.ViewLaws.{transactions_are}
use Rattle.node_steps.proofs.WritingLaws.{others_seen, outcome_alike}
use Rattle.node_rules.specs.Effects.{nothing}
use Rattle.node_rules.specs.Resolving.{resolving}
use Rattle.node_rules.specs.StaleMessages.{spent}

-- ---- the answered transaction

answered_kept : (t : Transaction) (x : Txn) (number clock : ℕ) (by : Policy) (v : Option Version) → IsAsKept x t → t.number ≡ number
    → record { transaction = number; digest = x.digest; want = x.want; best = join by x.best v; clock = clock } ≡ resolving_of clock (answered by 0 v t)
answered_kept t x number clock by v kept is = rw (sym is, sym kept.digest, sym kept.want, sym kept.best) refl

pub answered_as : (ts : Transactions) (x : Txn) (number clock : ℕ) (by : Policy) (v : Option Version) → ForSome (transaction ts number) (IsAsKept x)
    → IfSome (transaction ts number) (λ t. record { transaction = number; digest = x.digest; want = x.want; best = join by x.best v; clock = clock } ≡ resolving_of clock (answered by 0 v t))
answered_as ts x number clock by v h = go (transaction ts number) (number_is ts number) h
  where
    go : (o : Option Transaction) → ((t : Transaction) → o ≡ Some t → t.number ≡ number) → ForSome o (IsAsKept x)
        → IfSome o (λ t. record { transaction = number; digest = x.digest; want = x.want; best = join by x.best v; clock = clock } ≡ resolving_of clock (answered by 0 v t))
    go None is h = tt
    go (Some t) is h = answered_kept t x number clock by v (h t refl) (is t refl)

-- it is the one that is found
pub answered_found : (ts : Transactions) (number clock : ℕ) (by : Policy) (v : Option Version) (t : Transaction) (r : Resolving) → transaction ts number ≡ Some t
    → IfSome (transaction ts number) (λ x. r ≡ resolving_of clock (answered by 0 v x)) → r ≡ resolving_of clock (answered by 0 v t)
answered_found ts number clock by v t r found h = subst (λ (o : Option Transaction). IfSome o (λ x. r ≡ resolving_of clock (answered by 0 v x))) found h

-- the open transaction of which the answer is the last
pub record IsAnswered (f : Facts) (from number : ℕ) (t : Transaction) : Type 0 where
  pub found : transaction f.transactions number ≡ Some t
  pub awaited : awaits_answer t from ≡ true
  pub last : is_last_awaited t from ≡ true

pub answered_one : (f : Facts) (from number : ℕ) → AwaitsLast f from number → (t : Transaction) × IsAnswered f from number t
answered_one f from number h = go (transaction f.transactions number) refl h.open_one h.awaited h.last
  where
    go : (o : Option Transaction) → transaction f.transactions number ≡ o → IsSome o → IfSome o (λ t. awaits_answer t from ≡ true) → IfSome o (λ t. is_last_awaited t from ≡ true)
        → (t : Transaction) × IsAnswered f from number t
    go None e some awaited last = cc
    go (Some t) e some awaited last = (t, record { found = e; awaited = awaited; last = last })

changed_found : (h : Transaction → Transaction) (number : ℕ) (t : Transaction) (xs : List Transaction) (b : Bool) → (h t).number ≡ t.number → (t.number == number) ≡ b
    → find (λ t. t.number == number) (map (λ t. changed_if h t (t.number == number)) xs) ≡ option_map h (find (λ t. t.number == number) xs)
    → find (λ t. t.number == number) (map (λ t. changed_if h t (t.number == number)) (t ∷ xs)) ≡ option_map h (find (λ t. t.number == number) (t ∷ xs))
changed_found h number t xs true same e rest =
    let there : ((h t).number == number) ≡ true = ap (λ (k : ℕ). k == number) same ∙ e in
    rw (e, there) refl
changed_found h number t xs false same e rest = rw (e, e) rest

-- it is found with the answer
pub found_answered : (f : Facts) (from number : ℕ) (v : Option Version) (t : Transaction) → IsAnswered f from number t
    → transaction (answering f.store.by f.transactions from number v) number ≡ Some (answered f.store.by from v t)
found_answered f from number v t h =
    go f.transactions.running ∙ ap (option_map change) h.found ∙ ap (λ (b : Bool). Some (changed_if (answered f.store.by from v) t b)) h.awaited
  where
    change : Transaction → Transaction
    change x = changed_if (answered f.store.by from v) x (awaits_answer x from)

    kept : (x : Transaction) (b : Bool) → (changed_if (answered f.store.by from v) x b).number ≡ x.number
    kept x true = refl
    kept x false = refl

    go : (xs : List Transaction) → find (λ x. x.number == number) (map (λ x. changed_if change x (x.number == number)) xs) ≡ option_map change (find (λ x. x.number == number) xs)
    go [] = refl
    go (x ∷ xs) = changed_found change number x xs (x.number == number) (kept x (awaits_answer x from)) refl (go xs)

-- it isn't applied, and awaits nobody then
unapplied : (o : Option Write) (b : Bool) → (not (is_some o) && b) ≡ true → o ≡ None
unapplied None b h = refl
unapplied (Some w) b h = cc

nobody : (xs : List ℕ) → is_nil xs ≡ true → xs ≡ []
nobody [] h = refl
nobody (x ∷ xs) h = cc

-- ---- what is due of it

pub answer_due : (f : Facts) (clock from number : ℕ) (v : Option Version) (t : Transaction) → IsAnswered f from number t
    → due_outcome f (resolving_of clock (answered f.store.by 0 v t)) ≡ due.answer_of f clock from v (transaction f.transactions number)
answer_due f clock from number v t h =
    outcome_alike f clock (answered f.store.by from v t)
    ∙ sym (ap (due.answer_of f clock from v) h.found
    ∙ ap (λ (b : Bool). (if b then (if is_last_awaited t from then resolving f clock (list_at f (partition_of (answered f.store.by from v t).digest)) (answered f.store.by from v t) else nothing) else spent f)) h.awaited
    ∙ ap (λ (b : Bool). (if b then resolving f clock (list_at f (partition_of (answered f.store.by from v t).digest)) (answered f.store.by from v t) else nothing)) h.last)

-- ---- the step

-- what becomes of it
abbrev pub outcome_at : Facts → Viewed → ℕ → Option Version → Transaction → Outcome
outcome_at f v clock x t = outcome_of v (resolving_of clock (answered f.store.by 0 x t)) t.want

found_spelled : (p : Transaction → Bool) (ts : List Transaction) (t : Transaction) → All HasSpelling ts → find p ts ≡ Some t → HasSpelling t
found_spelled p [] t h e = cc
found_spelled p (x ∷ xs) t h e = go (found_spelled p xs t (All-tail HasSpelling x xs h)) (p x) e
  where
    go : (find p xs ≡ Some t → HasSpelling t) → (b : Bool) → cond b (Some x) (find p xs) ≡ Some t → HasSpelling t
    go rest true i = let same : x ≡ t = cc in subst HasSpelling same (All-head HasSpelling x xs h)
    go rest false i = rest i

pub spelled_one : (f : Facts) (from number : ℕ) (t : Transaction) → IsAnswered f from number t → HasRanges f → HasSpelling t
spelled_one f from number t h ranges = found_spelled (λ x. x.number == number) f.transactions.running t ranges.transactions h.found

joined_fits : (by : Policy) (a b : Option Version) → IsOptionVersion a → IsOptionVersion b → IsOptionVersion (join by a b)
unfolding join
joined_fits by None b h i = i
joined_fits by (Some a) None h i = h
joined_fits by (Some a) (Some b) h i = go (is_gt (version_cmp by b a))
  where
    go : (c : Bool) → IsVersion (cond c b a)
    go true = i
    go false = h

pub resolving_spelled : (f : Facts) (clock from number : ℕ) (v : Option Version) (t : Transaction) → IsAnswered f from number t → HasRanges f → IsOptionVersion v → clock < 2 ^ 64
    → IsResolvingField (resolving_of clock (answered f.store.by 0 v t))
resolving_spelled f clock from number v t h ranges fit fits =
    let s = spelled_one f from number t h ranges in
    record { number = s.number; digest = s.digest; want = s.want; best = joined_fits f.store.by t.best v s.best fit; clock = fits }

pub resolved_fits : (f : Facts) (u : Viewed) (clock from number : ℕ) (v : Option Version) (t : Transaction) → IsInView f u → IsAnswered f from number t → HaveNumbers f
    → FitsStep f (step.Resolved from number v (outcome_at f u clock v t))
resolved_fits f u clock from number v t h a numbers =
    let g : Facts = plans.with_answer f from number v in
    let x : Transaction = answered f.store.by from v t in
    let found = found_answered f from number v t a in
    let fits : FitsOutcome g x (outcome_at f u clock v t) =
    outcome_fits g u clock x t.want (others_seen f u (partition_of t.digest) h) refl (unapplied t.applied (contains t.awaiting from) a.awaited) (nobody (without t.awaiting from) a.last) (numbers.applies (partition_of t.digest)) in
    record {
      open_one = ap is_some found;
      outcome_of = λ y e. let same : x ≡ y = one x y (sym found ∙ e) in subst (λ (z : Transaction). FitsOutcome g z (outcome_at f u clock v t)) same fits;
    }
  where
    one : (x y : Transaction) → Some x ≡ Some y → x ≡ y
    one x y e = cc

pub resolved_spelled : (f : Facts) (u : Viewed) (clock from number : ℕ) (v : Option Version) (t : Transaction) → IsAnswered f from number t → HaveNumbers f → IsOptionVersion v → clock < 2 ^ 64 → HasRanges f
    → HasRanges (plans.view_taken f (step.Resolved from number v (outcome_at f u clock v t)))
resolved_spelled f u clock from number v t a numbers fit fits h =
    let s = spelled_one f from number t a h in
    let g : Facts = plans.with_answer f from number v in
    subst (λ (o : Option Transaction). HasRanges (plans.with_outcome g number (plans.transaction_digest o) (outcome_at f u clock v t))) (sym a.found)
    (outcome_ranges g number t.digest (outcome_at f u clock v t) s.digest
    (outcome_field u (resolving_of clock (answered f.store.by 0 v t)) t.want fits (joined_fits f.store.by t.best v s.best fit) s.want)
    (numbers.applies (partition_of t.digest)) (answered_ranges f from number v fit h))

pub resolved_after : (f : Facts) (u : Viewed) (clock from number : ℕ) (v : Option Version) (t : Transaction) → IsInView f u → IsAnswered f from number t
    → plans.view_taken f (step.Resolved from number v (outcome_at f u clock v t)) ≡ resolved_with (answer_came f from number v true) clock from v (transaction f.transactions number)
resolved_after f u clock from number v t h a =
    let g : Facts = plans.with_answer f from number v in
    let x : Transaction = answered f.store.by from v t in
    ap (λ (o : Option Transaction). plans.with_outcome g number (plans.transaction_digest o) (outcome_at f u clock v t)) a.found
    ∙ ap (λ (k : ℕ). plans.with_outcome g k t.digest (outcome_at f u clock v t)) (sym (number_is f.transactions number t a.found))
    ∙ outcome_after g u clock x t.want (others_seen f u (partition_of t.digest) h)
    ∙ sym (ap (resolved_with g clock from v) a.found
    ∙ ap₂ (λ (b c : Bool). cond (b && c) (resolved g clock (list_at g (partition_of t.digest)) x) g) a.awaited a.last)

-- ---- the planned step

-- it is made from what was copied, from the view that was lent and from the answered transaction
pub step_made : (u w : Viewed) (clock from number : ℕ) (by : Policy) (v x : Option Version) (t : Transaction) (r : Resolving) (o : Outcome) → x ≡ v → w ≡ u
    → r ≡ resolving_of clock (answered by 0 v t) → o ≡ outcome_of w r r.want
    → ◌≡◌ {A = ViewStep} (step.Resolved from number x o) (step.Resolved from number v (outcome_of u (resolving_of clock (answered by 0 v t)) t.want))
step_made u w clock from number by v x t r o copied lent is outcome =
    ap₂ (λ (y : Option Version) (z : Outcome). step.Resolved from number y z) copied (outcome ∙ ap₂ (λ (y : Viewed) (z : Resolving). outcome_of y z z.want) lent is)

-- the room made for the digest is for the transaction's
pub room_found : (f : Facts) (u w : Viewed) (spare : List ℕ) (from number : ℕ) (t : Transaction) (digest : List ℕ) (o : Outcome) → IsInView f u → IsSame u w → IsAnswered f from number t
    → digest ≡ t.digest → HasRoomForOutcome w.room spare digest o → HasRoomForOutcome w.room spare (digest_in w number) o
room_found f u w spare from number t digest o h same a is room =
    let digest_at : Option Transaction → List ℕ = λ x. unwrap_or (option_map (λ (y : Transaction). y.digest) x) [] in
    let found : digest_in w number ≡ t.digest =
    ap (λ (ts : Transactions). digest_at (transaction ts number)) (same.alike.transactions ∙ transactions_are f u h) ∙ ap digest_at a.found in
    subst (λ (d : List ℕ). HasRoomForOutcome w.room spare d o) (is ∙ sym found) room
