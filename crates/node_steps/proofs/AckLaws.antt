-- Acknowledgements, of batches and of writes.
use Rattle.std.proofs.Common.{◌≡◌, ◌==◌, ◌&&◌, ℕ, Bool, true, false, not, cond, List, [], ◌∷◌, filter, map, Option, Some, None, refl, sym, ap, ap₂, ◌∙◌}
use Rattle.std.specs.Prelude.{find, option_map, if◌then◌else◌}
use Rattle.partition_lists.proofs.InOrderLaws.{from_equal}
use Rattle.cluster_types.specs.declared.cluster_key.ClusterKey.{ClusterKey}
use Rattle.cluster_types.proofs.BoolFacts.{and_left, and_right}
use Rattle.journal_lines.specs.declared.line.Line.TheVariants as line
use Rattle.wire_messages.specs.declared.message.Message.TheVariants as message
use Rattle.dup_resolve.specs.declared.txn.Txn.{Txn}
use Rattle.node_rules.specs.Batches.{has_number, out_to, acking}
use Rattle.node_rules.specs.Effects.{lines_only, nothing}
use Rattle.node_rules.specs.Exchange as exchange
use Rattle.node_rules.specs.Exchange.{View}
use Rattle.node_rules.specs.Facts.{Facts, view_key}
use Rattle.node_rules.specs.Keys.{same_key}
use Rattle.node_rules.specs.Messages as due
use Rattle.node_rules.specs.Notes.{in_view}
use Rattle.node_rules.specs.Steps.{after_message}
use Rattle.node_rules.specs.Tables.{changed_if, only_if}
use Rattle.node_rules.specs.Transactions.{Transaction, Transactions, acknowledged, acknowledging, awaits_ack, closing_if, ends_by_ack, is_last_awaited, transaction}
use Rattle.node_rules.proofs.PartLaws.{batch_ack_is, repl_ack_is}
use Rattle.node_view.specs.Transactions.{kept_of}
use Rattle.node_steps.specs.Plans.{after_ack}
use Rattle.node_rules.specs.StaleMessages.{spent, stale}
use Rattle.node_rules.specs.TransactionMessages.{ack_of}

-- ---- batches

-- an acknowledgement of a batch in the view
pub batch_ack_told : (f : Facts) (from : ℕ) (key : ClusterKey) (number : ℕ) (b : Bool) → in_view f key ≡ true → has_number (out_to f.batches from) number ≡ b
    → due.due_batch_ack f from key number ≡ (if b then nothing else spent f)
batch_ack_told f from key number b of_view out = ap (λ (v : Bool). (if v then (if has_number (out_to f.batches from) number then nothing else spent f) else stale f)) of_view ∙ ap (λ (v : Bool). (if v then nothing else spent f)) out

pub batch_ack_after : (f : Facts) (from : ℕ) (key : ClusterKey) (number : ℕ) → in_view f key ≡ true
    → after_message f 0 from (message.BatchAck key number) ≡ record f { batches = acking f.batches from number }
batch_ack_after f from key number of_view = batch_ack_is f 0 from key number ∙ ap (λ (v : Bool). (if v then record f { batches = acking f.batches from number } else f)) of_view

-- ---- what is found

pub same_key_is : (a b : ClusterKey) → same_key a b ≡ true → a ≡ b
same_key_is a b h =
    ap₂ (λ (r p : ℕ). record { round = r; principal = p }) (from_equal a.round b.round (and_left _ _ h)) (from_equal a.principal b.principal (and_right _ _ h))

-- the key of a message of the view is the view's
pub view_key_is : (f : Facts) (key : ClusterKey) → in_view f key ≡ true → view_key f ≡ key
view_key_is f key h = go f.exchange.view h
  where
    go : (o : Option View) → exchange.is_view o key ≡ true → exchange.exchange_key o ≡ key
    go None no_way = cc
    go (Some v) is = same_key_is v.key key is

found_in : (number : ℕ) (ts : List Transaction) (t : Transaction) → find (λ x. x.number == number) ts ≡ Some t → t.number ≡ number
found_in number [] t e = cc
found_in number (x ∷ xs) t e = go (found_in number xs t) (x.number == number) refl e
  where
    go : (find (λ y. y.number == number) xs ≡ Some t → t.number ≡ number) → (b : Bool) → (x.number == number) ≡ b
        → cond b (Some x) (find (λ y. y.number == number) xs) ≡ Some t → t.number ≡ number
    go rest true h i = let same : x ≡ t = cc in ap (λ (y : Transaction). y.number) (sym same) ∙ from_equal x.number number h
    go rest false h i = rest i

pub number_is : (ts : Transactions) (number : ℕ) (t : Transaction) → transaction ts number ≡ Some t → t.number ≡ number
number_is ts number t e = found_in number ts.running t e

-- what is kept of the transaction that is found
pub record IsFound (x : Txn) (o : Option Transaction) : Type 0 where
  pub txn : Transaction
  pub found : o ≡ Some txn
  pub kept : x ≡ kept_of txn

pub found_one : (x : Txn) (o : Option Transaction) → Some x ≡ option_map kept_of o → IsFound x o
found_one x None e = cc
found_one x (Some t) e = record { txn = t; found = refl; kept = cc }

pub found_none : (o : Option Transaction) → None ≡ option_map kept_of o → o ≡ None
found_none None e = refl
found_none (Some t) e = cc

-- ---- writes

-- where the transaction is closed, its acknowledgement doesn't matter
closing_acked : (from number : ℕ) (ts : List Transaction)
    → filter (λ t. not (t.number == number)) (map (λ t. changed_if (λ x. changed_if (acknowledged from) x (awaits_ack x from)) t (t.number == number)) ts) ≡ filter (λ t. not (t.number == number)) ts
closing_acked from number [] = refl
closing_acked from number (t ∷ ts) = go (t.number == number) refl (closing_acked from number ts)
  where
    gone : (x : Transaction) (xs ys : List Transaction) → (x.number == number) ≡ true → filter (λ y. not (y.number == number)) xs ≡ ys → filter (λ y. not (y.number == number)) (x ∷ xs) ≡ ys
    gone x xs ys is h = rw is h

    there : (b : Bool) → (t.number == number) ≡ true → ((changed_if (acknowledged from) t b).number == number) ≡ true
    there true is = is
    there false is = is

    go : (b : Bool) → (t.number == number) ≡ b
        → filter (λ y. not (y.number == number)) (map (λ x. changed_if (λ y. changed_if (acknowledged from) y (awaits_ack y from)) x (x.number == number)) ts) ≡ filter (λ y. not (y.number == number)) ts
        → filter (λ y. not (y.number == number)) (changed_if (λ x. changed_if (acknowledged from) x (awaits_ack x from)) t b ∷ map (λ x. changed_if (λ y. changed_if (acknowledged from) y (awaits_ack y from)) x (x.number == number)) ts)
        ≡ filter (λ y. not (y.number == number)) (t ∷ ts)
    go true is ih = gone _ _ _ (there (awaits_ack t from) is) ih ∙ sym (gone t ts _ is refl)
    go false is ih = rw is (ap (λ (xs : List Transaction). t ∷ xs) ih)

-- an acknowledgement that is awaited
pub ack_told : (f : Facts) (from : ℕ) (key : ClusterKey) (number : ℕ) (t : Transaction) (b : Bool) → in_view f key ≡ true → transaction f.transactions number ≡ Some t
    → awaits_ack t from ≡ true → is_last_awaited t from ≡ b → due.due_repl_ack f from key number ≡ lines_only (only_if (line.Done f.me key number) b)
ack_told f from key number t b of_view found awaited last =
    ap (λ (v : Bool). (if v then ack_of f from (transaction f.transactions number) else stale f)) of_view
    ∙ ap (λ (o : Option Transaction). due.ack_of f from o) found
    ∙ ap (λ (v : Bool). (if v then lines_only (only_if (line.Done f.me (view_key f) t.number) (is_last_awaited t from)) else spent f)) awaited
    ∙ ap (λ (v : Bool). lines_only (only_if (line.Done f.me (view_key f) t.number) v)) last
    ∙ ap₂ (λ (k : ClusterKey) (n : ℕ). lines_only (only_if (line.Done f.me k n) b)) (view_key_is f key of_view) (number_is f.transactions number t found)

pub ack_after : (f : Facts) (from : ℕ) (key : ClusterKey) (number : ℕ) (t : Transaction) (b : Bool) → in_view f key ≡ true → transaction f.transactions number ≡ Some t
    → awaits_ack t from ≡ true → is_last_awaited t from ≡ b → after_message f 0 from (message.ReplAck key number) ≡ after_ack f from number b
ack_after f from key number t b of_view found awaited last =
    let acked : Transactions = acknowledging f.transactions from number in
    repl_ack_is f 0 from key number
    ∙ ap (λ (v : Bool). (if v then record f { transactions = closing_if acked number (ends_by_ack (transaction f.transactions number) from) } else f)) of_view
    ∙ ap (λ (o : Option Transaction). record f { transactions = closing_if acked number (ends_by_ack o from) }) found
    ∙ ap₂ (λ (u v : Bool). record f { transactions = closing_if acked number (u && v) }) awaited last
    ∙ go b
  where
    go : (v : Bool) → record f { transactions = closing_if (acknowledging f.transactions from number) number v } ≡ after_ack f from number v
    go true = ap (λ (ts : List Transaction). record f { transactions = record f.transactions { running = ts } }) (closing_acked from number f.transactions.running)
    go false = refl

-- one that isn't
pub ack_spent : (f : Facts) (from : ℕ) (key : ClusterKey) (number : ℕ) → in_view f key ≡ true → ends_by_ack (transaction f.transactions number) from ≡ false
    → after_message f 0 from (message.ReplAck key number) ≡ record f { transactions = acknowledging f.transactions from number }
ack_spent f from key number of_view h =
    let acked : Transactions = acknowledging f.transactions from number in
    repl_ack_is f 0 from key number
    ∙ ap (λ (v : Bool). (if v then record f { transactions = closing_if acked number (ends_by_ack (transaction f.transactions number) from) } else f)) of_view
    ∙ ap (λ (v : Bool). record f { transactions = closing_if acked number v }) h

-- nothing that is open, or nobody who is awaited
pub unknown_told : (f : Facts) (from : ℕ) (key : ClusterKey) (number : ℕ) → in_view f key ≡ true → transaction f.transactions number ≡ None → due.due_repl_ack f from key number ≡ due.spent f
unknown_told f from key number of_view none = ap (λ (v : Bool). (if v then ack_of f from (transaction f.transactions number) else stale f)) of_view ∙ ap (λ (o : Option Transaction). due.ack_of f from o) none

pub unawaited_told : (f : Facts) (from : ℕ) (key : ClusterKey) (number : ℕ) (t : Transaction) → in_view f key ≡ true → transaction f.transactions number ≡ Some t → awaits_ack t from ≡ false
    → due.due_repl_ack f from key number ≡ due.spent f
unawaited_told f from key number t of_view found awaited =
    ap (λ (v : Bool). (if v then ack_of f from (transaction f.transactions number) else stale f)) of_view ∙ ap (λ (o : Option Transaction). due.ack_of f from o) found ∙ ap (λ (v : Bool). (if v then lines_only (only_if (line.Done f.me (view_key f) t.number) (is_last_awaited t from)) else spent f)) awaited
