-- Facts of a node in a view after a row or an acknowledgement of a batch came.
use Rattle.std.proofs.Common.{◌≡◌, ◌==◌, ℕ, Bool, true, false, not, List, [], ◌∷◌, filter, All, Option, Some, None, is_some, is_none, refl, sym, ap, subst, ◌∙◌, arith}
use Rattle.std.specs.Prelude.{IfSome, IsSome}
use Rattle.std.specs.FinMap.{get}
use Rattle.std.proofs.lemmas.List.Elements.{All-cons, All-tail}
use Rattle.record_store.specs.Store as held
use Rattle.wire_messages.specs.declared.message.Batch.{Batch}
use Rattle.node_rules.specs.Batches.{Target, Targets, acked_out, acking, is_among}
use Rattle.node_rules.specs.Copies.{Content, Row}
use Rattle.node_rules.specs.Exchange.{Exchange, first_missing, members_of, with_row}
use Rattle.node_rules.specs.Facts.{Facts}
use Rattle.node_rules.specs.Map.{lacks}
use Rattle.node_rules.specs.Standing.{knows_settled}
use Rattle.node_rules.specs.Tables.{changed_if}
use Rattle.node_view.specs.declared.view.Moving.{Moving}
use Rattle.node_view.specs.Plans.{facts_with_row}
use Rattle.node_view.specs.Views.{IsMoving, IsNodeInView, IsOtherMember, Viewed}
use Rattle.node_view.proofs.MissingLaws.{full_has}
use Rattle.node_view.proofs.SightLaws.{sees}
use Rattle.node_view.proofs.StepLaws.{is_node, node_of, with_batches}
use Rattle.node_view.proofs.WatchLaws.{count_alike}

-- ---- a row

-- a view that lacks a row hasn't finished its exchange
pub no_row_missing : {B : Type 0} (v : Viewed) (o : Option B) (now : B → Moving) (n : ℕ) → is_some o ≡ true → IfSome o (λ m. IsMoving v (now m)) → IsOtherMember v n → lacks v.exchange.rows n ≡ true → ⊥
no_row_missing v None now n some h member lack = cc
no_row_missing v (Some m) now n some h member lack =
    let whole : first_missing v.exchange.rows (members_of v.exchange.view) ≡ None = ap (λ (x : Exchange). first_missing x.rows (members_of x.view)) (sym h.exchange) ∙ h.own.whole in
    let wrong : true ≡ false = sym lack ∙ full_has v.exchange.rows (members_of v.exchange.view) n whole member.member in
    cc

pub some_missing : (o : Option ℕ) → IsSome o → is_none o ≡ false
some_missing None h = cc
some_missing (Some n) h = refl

-- before the exchange is finished rows tell nothing of what is settled
pub row_node : (f : Facts) (v w : Viewed) (s : held.StoreWithRoom) (from : ℕ) (row : Row) → w ≡ record v { exchange = record v.exchange { rows = with_row v.exchange.rows from row } } → v.exchange.exchanged ≡ false
    → IsNodeInView f v s → IsNodeInView (facts_with_row f from row) w s
row_node f v w s from row is waiting h =
    let n = is_node f v s h in
    let g = facts_with_row f from row in
    let off : f.exchange.exchanged ≡ false = ap (λ (x : Exchange). x.exchanged) n.sight.exchange ∙ waiting in
    let settled : (p : ℕ) → knows_settled g p ≡ knows_settled f p = λ p. rw off refl in
    subst (λ (u : Viewed). IsNodeInView g u s) (sym is)
    (node_of g (record v { exchange = record v.exchange { rows = with_row v.exchange.rows from row } }) s (record {
      sight = record {
        me = n.sight.me;
        factor = n.sight.factor;
        exchange = ap (λ (x : Exchange). record x { rows = with_row x.rows from row }) n.sight.exchange;
        writes = n.sight.writes;
        transactions = n.sight.transactions;
        batches = n.sight.batches;
        bits = n.sight.bits;
      };
      policy = n.policy;
      pending = n.pending;
      watch = record {
        unsettled = n.watch.unsettled ∙ sym (count_alike f g settled);
        live = record { quiet = λ p within done quiet. absurd (let wrong : true ≡ false = sym done ∙ off in cc) };
      };
      content = n.content;
      stamps = n.stamps;
      by = n.by;
    }))

-- ---- an acknowledgement of a batch

abbrev IsHeld : Content → List (List ℕ) → Type 0
IsHeld content ds = All (λ d. IsSome (get content d)) ds

held_kept : (content : Content) (keep : List ℕ → Bool) (ds : List (List ℕ)) → IsHeld content ds → IsHeld content (filter keep ds)
held_kept content keep [] h = λ k d within. absurd (omega arith)
held_kept content keep (d ∷ ds) h = go (keep d) refl (held_kept content keep ds (All-tail (λ e. IsSome (get content e)) d ds h))
  where
    go : (b : Bool) → keep d ≡ b → IsHeld content (filter keep ds) → IsHeld content (filter keep (d ∷ ds))
    go true e rest = rw e (All-cons (λ e. IsSome (get content e)) d (filter keep ds) (h 0 d (omega arith)) rest)
    go false e rest = rw e rest

held_acked : (content : Content) (number : ℕ) (t : Target) (o : Option Batch) → IsHeld content t.pending → IsHeld content (acked_out t number o).pending
held_acked content number t None h = h
held_acked content number t (Some b) h = go (b.number == number) refl
  where
    go : (c : Bool) → (b.number == number) ≡ c → IsHeld content (acked_out t number (Some b)).pending
    go true e = rw e (held_kept content (λ d. not (is_among b.records d)) t.pending h)
    go false e = rw e h

held_changed : (content : Content) (number : ℕ) (t : Target) (b : Bool) → IsHeld content t.pending → IsHeld content (changed_if (λ (u : Target). acked_out u number u.out) t b).pending
held_changed content number t true h = held_acked content number t t.out h
held_changed content number t false h = h

held_acking : (content : Content) (ts : Targets) (from number : ℕ) → All (λ (t : Target). IsHeld content t.pending) ts → All (λ (t : Target). IsHeld content t.pending) (acking ts from number)
held_acking content [] from number h = h
held_acking content (t ∷ ts) from number h =
    All-cons (λ (u : Target). IsHeld content u.pending) _ (acking ts from number) (held_changed content number t (t.node == from) (h 0 t (omega arith)))
    (held_acking content ts from number (All-tail (λ (u : Target). IsHeld content u.pending) t ts h))

pub acked_node : (f : Facts) (v w : Viewed) (s : held.StoreWithRoom) (from number : ℕ) → w ≡ record v { batches = acking v.batches from number } → IsNodeInView f v s
    → IsNodeInView (record f { batches = acking f.batches from number }) w s
acked_node f v w s from number is h =
    let batches : f.batches ≡ v.batches = (sees f v h.view.viewed).batches in
    subst (λ (u : Viewed). IsNodeInView (record f { batches = acking f.batches from number }) u s) (sym is)
    (subst (λ (ts : Targets). IsNodeInView (record f { batches = acking ts from number }) (record v { batches = acking v.batches from number }) s) (sym batches)
    (with_batches f v s (acking v.batches from number) (record { held = held_acking f.store.content v.batches from number h.view.pending.held }) h))
