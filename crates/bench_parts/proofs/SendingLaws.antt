-- Targets to which a batch is sent and acknowledged.
use Rattle.std.proofs.Common.{◌≡◌, ◌==◌, ◌<◌, ℕ, Bool, true, false, cond, not, [], ◌∷◌, Option, Some, None, All, find, refl, sym, ap, subst, ◌∙◌}
use Rattle.std.specs.FinMap.{get}
use Rattle.std.specs.Option.{IfSome, IsSome}
use Rattle.std.proofs.lemmas.List.Elements.{All-filter, All-map}
use Rattle.wire_messages.specs.declared.message.Batch.{Batch}
use Rattle.node_rules.specs.Batches.{Target, Targets, acked_out, acking, is_among, sending, target}
use Rattle.node_rules.specs.Copies.{Content}
use Rattle.node_rules.specs.Tables.{changed_if}
use Rattle.emigrate.specs.Going.{AreHeld, Going}
use Rattle.emigrate.proofs.TargetLaws.{acked_node}

abbrev IsHeld : Content → Target → Type 0
IsHeld content t = All (λ d. IsSome (get content d)) t.pending

acked_held : (content : Content) (number : ℕ) (t : Target) (o : Option Batch) → IsHeld content t → IsHeld content (acked_out t number o)
acked_held content number t None h = h
acked_held content number t (Some b) h = go (b.number == number) refl
  where
    go : (c : Bool) → (b.number == number) ≡ c → IsHeld content (acked_out t number (Some b))
    go true e = rw e (All-filter (λ d. not (is_among b.records d)) (λ d. IsSome (get content d)) t.pending h)
    go false e = rw e h

acked_batches : (number : ℕ) (t : Target) (o : Option Batch) → (acked_out t number o).batches ≡ t.batches
acked_batches number t None = refl
acked_batches number t (Some b) = go (b.number == number) refl
  where
    go : (c : Bool) → (b.number == number) ≡ c → (acked_out t number (Some b)).batches ≡ t.batches
    go true e = rw e refl
    go false e = rw e refl

if_held : (content : Content) (change : Target → Target) (t : Target) (c : Bool) → (IsHeld content t → IsHeld content (change t)) → IsHeld content t → IsHeld content (changed_if change t c)
if_held content change t true keeps h = keeps h
if_held content change t false keeps h = h

-- a batch is sent and acknowledged, and what is still pending is held
pub held_acknowledged : (content : Content) (ts : Targets) (to number : ℕ) (b : Batch) → AreHeld content ts → AreHeld content (acking (sending ts to b) to number)
held_acknowledged content ts to number b h = record { held = All-map (IsHeld content) ack (sending ts to b) (λ k t within. acked _ (sent k t within)) }
  where
    put_out : Target → Target
    put_out t = record t { out = Some b; batches = b.number }

    send : Target → Target
    send t = changed_if put_out t (t.node == to)

    take : Target → Target
    take t = acked_out t number t.out

    ack : Target → Target
    ack t = changed_if take t (t.node == to)

    sent_one : (t : Target) → IsHeld content t → IsHeld content (send t)
    sent_one t i = if_held content put_out t (t.node == to) (λ j. j) i

    sent : All (IsHeld content) (sending ts to b)
    sent = All-map (IsHeld content) send ts (λ k t within. sent_one _ (h.held k t within))

    acked : (t : Target) → IsHeld content t → IsHeld content (ack t)
    acked t i = if_held content take t (t.node == to) (acked_held content number t t.out) i

sent_below : (ts : Targets) (to limit : ℕ) (b : Batch) → b.number < limit → IfSome (target (sending ts to b) to) (λ t. t.batches < limit)
sent_below [] to limit b h = tt
sent_below (t ∷ ts) to limit b h = go (t.node == to) refl (sent_below ts to limit b h)
  where
    go : (c : Bool) → (t.node == to) ≡ c → IfSome (target (sending ts to b) to) (λ u. u.batches < limit)
        → IfSome (find (λ (u : Target). u.node == to) (changed_if (λ (u : Target). record u { out = Some b; batches = b.number }) t c ∷ sending ts to b)) (λ u. u.batches < limit)
    go true e rest = rw e h
    go false e rest = rw e rest

acked_below : (ts : Targets) (to number limit : ℕ) → IfSome (target ts to) (λ t. t.batches < limit) → IfSome (target (acking ts to number) to) (λ t. t.batches < limit)
acked_below [] to number limit h = tt
acked_below (t ∷ ts) to number limit h = go (t.node == to) refl (acked_below ts to number limit)
  where
    go : (c : Bool) → (t.node == to) ≡ c → (IfSome (target ts to) (λ u. u.batches < limit) → IfSome (target (acking ts to number) to) (λ u. u.batches < limit))
        → IfSome (find (λ (u : Target). u.node == to) (changed_if (λ (u : Target). acked_out u number u.out) t c ∷ acking ts to number)) (λ u. u.batches < limit)
    go true e rest =
        let i : ((acked_out t number t.out).node == to) ≡ true = ap (λ (k : ℕ). k == to) (acked_node t number t.out) ∙ e in
        let below : t.batches < limit = subst (λ (c : Bool). IfSome (cond c (Some t) (target ts to)) (λ u. u.batches < limit)) e h in
        rw i (subst (λ (k : ℕ). k < limit) (sym (acked_batches number t t.out)) below)
    go false e rest = rw e (rest (subst (λ (c : Bool). IfSome (cond c (Some t) (target ts to)) (λ u. u.batches < limit)) e h))

-- the batch that was sent and acknowledged is the last that is counted
pub below_acknowledged : (ts : Targets) (to number limit : ℕ) (b : Batch) → b.number < limit → IfSome (target (acking (sending ts to b) to number) to) (λ t. t.batches < limit)
below_acknowledged ts to number limit b h = acked_below (sending ts to b) to number limit (sent_below ts to limit b h)

-- the same of what a node hands on
pub held_after : (content : Content) (g s a : Going) (to : ℕ) (b : Batch) → AreHeld content g.targets → s ≡ record g { targets = sending g.targets to b } → a ≡ record s { targets = acking s.targets to b.number } → AreHeld content a.targets
held_after content g s a to b h sent acked =
    subst (λ (k : Going). AreHeld content k.targets) (sym acked)
    (subst (λ (k : Going). AreHeld content (acking k.targets to b.number)) (sym sent) (held_acknowledged content g.targets to b.number b h))

pub below_after : (g s a : Going) (to limit : ℕ) (b : Batch) → b.number < limit → s ≡ record g { targets = sending g.targets to b } → a ≡ record s { targets = acking s.targets to b.number } → IfSome (target a.targets to) (λ t. t.batches < limit)
below_after g s a to limit b h sent acked =
    subst (λ (k : Going). IfSome (target k.targets to) (λ t. t.batches < limit)) (sym acked)
    (subst (λ (k : Going). IfSome (target (acking k.targets to b.number) to) (λ t. t.batches < limit)) (sym sent) (below_acknowledged g.targets to b.number limit b h))
