-- How a request is refused, or opens a transaction.
use Rattle.std.proofs.Common.{◌≡◌, ◌+◌, ◌<◌, ◌^◌, ℕ, Bool, true, false, List, [], ◌∷◌, Option, Some, None, refl, sym, ap, subst, ◌∙◌}
use Rattle.std.specs.FinMap as finite
use Rattle.std.specs.Option.{ForSome}
use Rattle.std.specs.Prelude.{IsSome, if◌then◌else◌}
use Rattle.conflict_order.specs.declared.version.Body.TheVariants as body
use Rattle.conflict_order.specs.declared.version.Version.{Version}
use Rattle.conflict_order.specs.declared.want.Want.{Want}
use Rattle.conflict_order.specs.declared.want.Want.TheVariants as want
use Rattle.conflict_order.specs.Next.{next}
use Rattle.cluster_types.specs.Partitions.{partition_of}
use Rattle.journal_lines.specs.declared.refusal.Refusal.{Refusal}
use Rattle.wire_messages.specs.Keys.{IsKeyField}
use Rattle.wire_messages.specs.Requests.{IsWant}
use Rattle.wire_messages.specs.Versions.{IsDigest, IsOptionVersion}
use Rattle.write_path.specs.Writes.{IsWrite, body_of}
use Rattle.node_rules.specs.ByParts.{asked_or_resolved, closed_if, requested, resolved_by}
use Rattle.node_rules.specs.Copies.{is_nil}
use Rattle.node_rules.specs.Exchange as exchange
use Rattle.node_rules.specs.Exchange.{Exchange}
use Rattle.node_rules.specs.Facts.{Facts, list_at, view_key}
use Rattle.node_rules.specs.Notes.{write_applied}
use Rattle.node_rules.specs.Requests.{acting_refusal, busy_refusal, due_request, map_refusal, refusal_after, request_refusal, request_if, view_refusal}
use Rattle.node_rules.specs.Stamps.{Writes, applies_at}
use Rattle.node_rules.specs.Standing.{acts, acts_by, has_handed, has_settled, is_acting, is_master, other_replicas}
use Rattle.node_rules.specs.Steps.{after_request}
use Rattle.node_rules.specs.Transactions.{Transaction, Transactions, new_transaction, transaction_on}
use Rattle.node_rules.proofs.PartLaws.{request_is}
use Rattle.node_view.specs.Counts.{greatest_count}
use Rattle.node_view.specs.Fits.{FitsOutcome, FitsStep}
use Rattle.node_view.specs.Plans as plans
use Rattle.node_view.specs.Views.{IsInView, Viewed, viewed_key}
use Rattle.node_steps.specs.declared.resolving.Resolving.{Resolving}
use Rattle.node_steps.specs.Counts.{HaveNumbers}
use Rattle.node_steps.specs.Ranges.{HasRanges}
use Rattle.node_steps.specs.Resolvings.{asked_for, due_opening, opened_step, opening_of, others_at, outcome_if_resolved, outcome_of, resolving_of}
use Rattle.node_steps.specs.Viewing.{HasNumbers}
use Rattle.node_steps.proofs.SeenLaws.{some_for}
use Rattle.node_steps.proofs.StepRanges.{IsOutcomeField, opened_ranges, outcome_ranges}
use Rattle.node_steps.proofs.ViewLaws.{exchange_is, transactions_are}
use Rattle.node_steps.proofs.WritingLaws.{next_fits, others_seen}
use Rattle.journal_lines.specs.declared.refusal.Refusal.TheVariants as refusal

-- ---- refusals

-- a node with a map refuses by what it does on the partition
pub refused_by_acting : (f : Facts) (l digest : List ℕ) (o : Option Refusal) → None ≡ map_refusal f → o ≡ acting_refusal f l digest (acts f l (partition_of digest)) → o ≡ request_refusal f l digest
refused_by_acting f l digest o h is = is ∙ ap (refusal_after f l digest) h

-- nothing stands in the way of a request
pub record IsAccepted (f : Facts) (digest : List ℕ) : Type 0 where
  pub in_one : IsSome f.exchange.view
  pub exchanged : f.exchange.exchanged ≡ true
  pub free : transaction_on f.transactions digest ≡ None

map_first : (f : Facts) (l digest : List ℕ) (o : Option Refusal) → refusal_after f l digest o ≡ None → o ≡ None
map_first f l digest None h = refl
map_first f l digest (Some cause) h = h

view_there : (f : Facts) (b : Bool) → (if b then view_refusal f f.exchange.view else Some refusal.Down) ≡ None → IsSome f.exchange.view
view_there f false h = cc
view_there f true h = go f.exchange.view h
  where
    go : (o : Option exchange.View) → view_refusal f o ≡ None → IsSome o
    go None e = cc
    go (Some v) e = refl

record IsFree (f : Facts) (digest : List ℕ) (b : Bool) : Type 0 where
  acts : b ≡ true
  free : transaction_on f.transactions digest ≡ None

acting_free : (f : Facts) (l digest : List ℕ) (b : Bool) → acting_refusal f l digest b ≡ None → IsFree f digest b
acting_free f l digest false h = cc
acting_free f l digest true h = record { acts = refl; free = go (transaction_on f.transactions digest) h }
  where
    go : (o : Option Transaction) → busy_refusal o ≡ None → o ≡ None
    go None e = refl
    go (Some t) e = cc

only_exchanged : (exchanged acting handed master settled : Bool) → acts_by exchanged acting handed master settled ≡ true → exchanged ≡ true
only_exchanged true acting handed master settled h = refl
only_exchanged false acting handed master settled h = h

pub is_accepted : (f : Facts) (digest : List ℕ) → request_refusal f (list_at f (partition_of digest)) digest ≡ None → IsAccepted f digest
is_accepted f digest h =
    let l = list_at f (partition_of digest) in
    let none : map_refusal f ≡ None = map_first f l digest (map_refusal f) h in
    let free : IsFree f digest (acts f l (partition_of digest)) = acting_free f l digest (acts f l (partition_of digest)) (ap (refusal_after f l digest) (sym none) ∙ h) in
    record {
      in_one = view_there f f.up none;
      exchanged = only_exchanged f.exchange.exchanged (is_acting f l (partition_of digest)) (has_handed f (partition_of digest)) (is_master f l) (has_settled f (partition_of digest)) free.acts;
      free = free.free;
    }

-- ---- what a step of the view needs

pub numbers_of : (f : Facts) (v : Viewed) → IsInView f v → HaveNumbers f → HasNumbers v
numbers_of f v h numbers = record {
  transactions = subst (λ (ts : Transactions). ts.opened < greatest_count) (sym (transactions_are f v h)) numbers.transactions;
  applies = λ p. subst (λ (ws : Writes). applies_at ws p < greatest_count) (sym (ap (λ (g : Facts). g.writes) h.view)) (numbers.applies p);
}

pub key_of_view : (f : Facts) (v : Viewed) → IsInView f v → IsSome f.exchange.view → HasRanges f → IsKeyField (viewed_key v)
key_of_view f v h some ranges = subst (λ (x : Exchange). IsKeyField (exchange.exchange_key x.view)) (sym (exchange_is f v h)) (go f.exchange.view some ranges.view)
  where
    go : (o : Option exchange.View) → IsSome o → ForSome o (λ w. IsKeyField w.key) → IsKeyField (exchange.exchange_key o)
    go None some h = cc
    go (Some w) some h = h w refl

-- ---- a transaction that is resolved

-- by the view it is as by the facts
pub outcome_after : (f : Facts) (v : Viewed) (clock : ℕ) (t : Transaction) (x : Want) → others_at v (partition_of t.digest) ≡ other_replicas f (list_at f (partition_of t.digest))
    → plans.with_outcome f t.number t.digest (outcome_of v (resolving_of clock t) x) ≡ resolved_by f clock (list_at f (partition_of t.digest)) t x
outcome_after f v clock t want.Get others = refl
outcome_after f v clock t (want.Put bytes) others =
    let w : Version = next t.best clock (body.Value bytes) in
    ap (λ (ns : List ℕ). closed_if (write_applied f (view_key f) (list_at f (partition_of t.digest)) t.number t.digest w) t.number (is_nil ns)) others
outcome_after f v clock t want.Del others =
    let w : Version = next t.best clock body.Tombstone in
    ap (λ (ns : List ℕ). closed_if (write_applied f (view_key f) (list_at f (partition_of t.digest)) t.number t.digest w) t.number (is_nil ns)) others

pub outcome_fits : (f : Facts) (v : Viewed) (clock : ℕ) (t : Transaction) (x : Want) → others_at v (partition_of t.digest) ≡ other_replicas f (list_at f (partition_of t.digest))
    → t.want ≡ x → t.applied ≡ None → t.awaiting ≡ [] → applies_at f.writes (partition_of t.digest) < greatest_count → FitsOutcome f t (outcome_of v (resolving_of clock t) x)
outcome_fits f v clock t want.Get others is unapplied nobody count = tt
outcome_fits f v clock t (want.Put bytes) others is unapplied nobody count = record {
  write = subst IsWrite (sym is) tt;
  unapplied = unapplied;
  resolved = nobody;
  version = ap (λ (x : Want). next t.best clock (body_of x)) (sym is);
  kept = refl;
  to = others;
  count = count;
}
outcome_fits f v clock t want.Del others is unapplied nobody count = record {
  write = subst IsWrite (sym is) tt;
  unapplied = unapplied;
  resolved = nobody;
  version = ap (λ (x : Want). next t.best clock (body_of x)) (sym is);
  kept = refl;
  to = others;
  count = count;
}

pub outcome_field : (v : Viewed) (r : Resolving) (x : Want) → r.clock < 2 ^ 64 → IsOptionVersion r.best → IsWant x → IsOutcomeField (outcome_of v r x)
outcome_field v r want.Get clock best fit = tt
outcome_field v r (want.Put bytes) clock best fit = next_fits r.best r.clock (body.Value bytes) clock best fit
outcome_field v r want.Del clock best fit = next_fits r.best r.clock body.Tombstone clock best tt

-- ---- a transaction that opens

-- what it is, where it asks those
abbrev asking_those : Facts → List ℕ → Want → List ℕ → Transaction
asking_those f digest x ns = new_transaction (f.transactions.opened + 1) digest x (finite.get f.store.content digest) ns

pub opened_fits : (f : Facts) (v : Viewed) (clock : ℕ) (digest : List ℕ) (x : Want) → IsInView f v → HaveNumbers f → transaction_on f.transactions digest ≡ None → FitsStep f (opened_step f v clock digest x)
opened_fits f v clock digest x h numbers free = record { free = free; count = numbers.transactions; outcome_of = at (asked_for f digest) }
  where
    at : (ns : List ℕ) → ForSome (outcome_if_resolved v (opening_of f clock digest x) ns) (FitsOutcome f (asking_those f digest x ns))
    at [] = some_for (FitsOutcome f (asking_those f digest x [])) (outcome_of v (opening_of f clock digest x) x)
        (outcome_fits f v clock (asking_those f digest x []) x (others_seen f v (partition_of digest) h) refl refl refl (numbers.applies (partition_of digest)))
    at (n ∷ ns) = λ o e. cc

pub opened_spelled : (f : Facts) (v : Viewed) (clock : ℕ) (digest : List ℕ) (x : Want) → HaveNumbers f → clock < 2 ^ 64 → IsDigest digest → IsWant x → IsOptionVersion (finite.get f.store.content digest)
    → HasRanges f → HasRanges (plans.view_taken f (opened_step f v clock digest x))
opened_spelled f v clock digest x numbers fits d fit held h = at (asked_for f digest)
    (opened_ranges f digest x (finite.get f.store.content digest) (asked_for f digest) d fit held numbers.transactions h)
  where
    g : Facts
    g = plans.with_opened f digest x (finite.get f.store.content digest) (asked_for f digest)

    at : (ns : List ℕ) → HasRanges g → HasRanges (plans.with_outcome_if g (f.transactions.opened + 1) digest (outcome_if_resolved v (opening_of f clock digest x) ns))
    at [] i = outcome_ranges g (f.transactions.opened + 1) digest (outcome_of v (opening_of f clock digest x) x) d
        (outcome_field v (opening_of f clock digest x) x fits held fit) (numbers.applies (partition_of digest)) i
    at (n ∷ ns) i = i

pub opened_after : (f : Facts) (v : Viewed) (clock : ℕ) (digest : List ℕ) (x : Want) → IsInView f v → request_refusal f (list_at f (partition_of digest)) digest ≡ None
    → plans.view_taken f (opened_step f v clock digest x) ≡ after_request f clock digest x
opened_after f v clock digest x h accepted =
    at (asked_for f digest)
    ∙ sym (request_is f clock digest x ∙ ap (requested f clock (list_at f (partition_of digest)) digest x) accepted)
  where
    t : Transaction
    t = asking_those f digest x (asked_for f digest)

    g : Facts
    g = plans.with_opened f digest x (finite.get f.store.content digest) (asked_for f digest)

    at : (ns : List ℕ) → plans.with_outcome_if g (f.transactions.opened + 1) digest (outcome_if_resolved v (opening_of f clock digest x) ns)
        ≡ asked_or_resolved g clock (list_at f (partition_of digest)) t ns
    at [] = outcome_after g v clock t x (others_seen f v (partition_of digest) h)
    at (n ∷ ns) = refl

pub opening_due : (f : Facts) (clock : ℕ) (digest : List ℕ) (x : Want) → request_refusal f (list_at f (partition_of digest)) digest ≡ None → due_opening f clock digest x ≡ due_request f clock digest x
opening_due f clock digest x accepted = ap (request_if f clock (list_at f (partition_of digest)) digest x) (sym accepted)
