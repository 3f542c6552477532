-- What a change of the open transactions and of their notes makes of a view.
use Rattle.std.proofs.Common.{◌≡◌, ◌==◌, ◌&&◌, ◌+◌, ℕ, Bool, true, false, not, List, [], ◌∷◌, ◌++◌, Option, Some, None, Result, Err, ◌≢◌, ◌↔◌, find, map, min, option_map, bytes_eq, refl, sym, ap, ap₂, subst, ◌∙◌}
use Rattle.std.specs.Prelude.{IsSome}
use Rattle.std.proofs.lemmas.Slice.Eq.{bytes_eq-Decides}
use Rattle.conflict_order.specs.declared.policy.Policy.{Policy}
use Rattle.conflict_order.specs.declared.version.Version.{Version}
use Rattle.conflict_order.specs.declared.want.Want.{Want}
use Rattle.dup_resolve.specs.declared.txn.Txn.{Txn}
use Rattle.dup_resolve.specs.Open.{HasOpen, Open}
use Rattle.dup_resolve.specs.Open as table
use Rattle.dup_resolve.specs.declared.txns.BeginFault.{BeginFault}
use Rattle.dup_resolve.specs.declared.txns.BeginFault.TheVariants.{Busy, NoMemory}
use Rattle.partition_lists.proofs.InOrderLaws.{equal}
use Rattle.node_rules.specs.Tables.{Table, changed_if, contains}
use Rattle.node_rules.specs.Transactions as rules
use Rattle.node_rules.specs.Transactions.{Transaction, Transactions}
use Rattle.node_view.specs.declared.notes.TxnNote.{TxnNote}
use Rattle.node_view.specs.declared.notes.Write.{Write}
use Rattle.node_view.specs.declared.view.View.TheInside.{Inside}
use Rattle.node_view.specs.Transactions.{AreNoted, AreNotesOf, Noted, kept_of, note_of, running_with, transaction_with, transactions_of, with_note, note_with_write, without_note}
use Rattle.node_view.specs.Writes.{Written}
use Rattle.node_view.specs.Views.{FieldsAgree, ViewRoom, view_of}
use Rattle.node_view.proofs.ShownLaws.{transaction_kept}
use Rattle.node_view.proofs.TxnLaws.{IsChange, found_kept, kept_running, notes_changed, notes_closed, notes_opened, running_changed, running_closed, running_opened, written}

abbrev transactions_at : ℕ → List Transaction → Transactions
transactions_at opened running = record { opened = opened; running = running }

-- with other transactions, notes and writes the fields still agree
pub agrees : (i : Inside) (o : Open) (n : Noted) (w : Written) → FieldsAgree i → AreNoted o n → FieldsAgree (record i { txns = o; notes = n; writes = w })
agrees i o n w a noted = record {
  stage_of = a.stage_of;
  viewed = a.viewed;
  key = a.key;
  member = a.member;
  others = a.others;
  told = a.told;
  heard = a.heard;
  done = a.done;
  noted = noted;
}

-- the view shows them
pub shows : (i : Inside) (o : Open) (n : Noted) (ts : Transactions) (room : ViewRoom) → o.by ≡ i.txns.by → transactions_of o n ≡ ts → (view_of (record i { txns = o; notes = n })).room ≡ room
    → view_of (record i { txns = o; notes = n }) ≡ record (view_of i) { transactions = ts; room = room }
shows i o n ts room by is more = rw (← more) (ap₂ (λ (p : Policy) (t : Transactions). record (view_of i) { by = p; transactions = t; room = (view_of (record i { txns = o; notes = n })).room }) by is)

-- ---- by number

mapped : (t : Option Transaction) → IsSome t → IsSome (option_map kept_of t)
mapped None h = h
mapped (Some t) h = refl

pub is_open : (o : Open) (n : Noted) (number : ℕ) → AreNoted o n → IsSome (rules.transaction (transactions_of o n) number) → IsSome (table.txn_at o.running number)
is_open o n number h there = subst (λ (t : Option Txn). IsSome t) (sym (transaction_kept o n number h)) (mapped _ there)

-- one that is looked for among others, of which one is changed
changed_found : (h : Transaction → Transaction) (number : ℕ) (t : Transaction) (xs : List Transaction) (b : Bool) → (h t).number ≡ t.number → (t.number == number) ≡ b
    → find (λ t. t.number == number) (map (λ t. changed_if h t (t.number == number)) xs) ≡ option_map h (find (λ t. t.number == number) xs)
    → find (λ t. t.number == number) (map (λ t. changed_if h t (t.number == number)) (t ∷ xs)) ≡ option_map h (find (λ t. t.number == number) (t ∷ xs))
changed_found h number t xs true same e rest =
    let there : ((h t).number == number) ≡ true = ap (λ (k : ℕ). k == number) same ∙ e in
    rw (e, there) refl
changed_found h number t xs false same e rest = rw (e, e) rest

pub found_changed : (h : Transaction → Transaction) → ((t : Transaction) → (h t).number ≡ t.number) → (number : ℕ) (ts : Transactions)
    → rules.transaction (rules.changing ts number h) number ≡ option_map h (rules.transaction ts number)
found_changed h same number ts = go ts.running
  where
    go : (xs : List Transaction) → find (λ t. t.number == number) (map (λ t. changed_if h t (t.number == number)) xs) ≡ option_map h (find (λ t. t.number == number) xs)
    go [] = refl
    go (t ∷ xs) = changed_found h number t xs (t.number == number) (same t) refl (go xs)

-- ---- one is closed

pub closed_noted : (o p : Open) (n m : Noted) (number : ℕ) → p.opened ≡ o.opened → p.running ≡ table.without_txn o.running number → m.opened ≡ n.opened → m.kept ≡ without_note n.kept number
    → AreNoted o n → AreNoted p m
closed_noted o p n m number e1 e2 e3 e4 h = record {
  opened = e3 ∙ h.opened ∙ sym e1;
  notes = rw (e2, e4) (notes_closed number o.running n.kept h.notes);
}

pub closed_shown : (o p : Open) (n m : Noted) (number : ℕ) → p.opened ≡ o.opened → p.running ≡ table.without_txn o.running number → m.kept ≡ without_note n.kept number
    → AreNoted o n → transactions_of p m ≡ rules.without_transaction (transactions_of o n) number
closed_shown o p n m number e1 e2 e4 h = ap₂ transactions_at e1 (ap₂ running_with e2 e4 ∙ running_closed number o.running n.kept h.notes)

-- ---- one is changed

pub changed_noted : (f : Txn → Txn) (g : TxnNote → TxnNote) (h : Transaction → Transaction) → IsChange f g h → (o p : Open) (n m : Noted) (number : ℕ)
    → p.opened ≡ o.opened → p.running ≡ table.change_txn o.running number f → m.opened ≡ n.opened → m.kept ≡ with_note n.kept number g → AreNoted o n → AreNoted p m
changed_noted f g h is o p n m number e1 e2 e3 e4 a = record {
  opened = e3 ∙ a.opened ∙ sym e1;
  notes = rw (e2, e4) (notes_changed f g h is number o.running n.kept a.notes);
}

pub changed_shown : (f : Txn → Txn) (g : TxnNote → TxnNote) (h : Transaction → Transaction) → IsChange f g h → (o p : Open) (n m : Noted) (number : ℕ)
    → p.opened ≡ o.opened → p.running ≡ table.change_txn o.running number f → m.kept ≡ with_note n.kept number g → AreNoted o n
    → transactions_of p m ≡ rules.changing (transactions_of o n) number h
changed_shown f g h is o p n m number e1 e2 e4 a = ap₂ transactions_at e1 (ap₂ running_with e2 e4 ∙ running_changed f g h is number o.running n.kept a.notes)

-- the notes are the same
note_kept : (n : ℕ × TxnNote) (b : Bool) → n ≡ (n.0, changed_if (λ (x : TxnNote). x) n.1 b)
note_kept n true = refl
note_kept n false = refl

same_notes : (number : ℕ) (ns : Table TxnNote) → ns ≡ with_note ns number (λ n. n)
same_notes number [] = refl
same_notes number (n ∷ ns) = ap₂ (λ (x : ℕ × TxnNote) (xs : Table TxnNote). x ∷ xs) (note_kept n (n.0 == number)) (same_notes number ns)

-- ---- an acknowledgement comes

acked_change : (from : ℕ) → IsChange (table.acknowledged_if from) (λ n. n) (λ t. changed_if (rules.acknowledged from) t (rules.awaits_ack t from))
acked_change from = record {
  change = λ t n same. ap (λ (b : Bool). changed_if (rules.acknowledged from) (transaction_with t n) (b && contains t.awaiting from)) (written n.write ∙ same) ∙ one t n (table.txn_awaits_ack t from);
  number = λ t. number t (table.txn_awaits_ack t from);
  applied = λ t n same. same ∙ sym (applied t (table.txn_awaits_ack t from));
}
  where
    one : (t : Txn) (n : TxnNote) (b : Bool) → changed_if (rules.acknowledged from) (transaction_with t n) b ≡ transaction_with (changed_if (table.txn_acknowledged from) t b) n
    one t n true = refl
    one t n false = refl

    number : (t : Txn) (b : Bool) → (changed_if (table.txn_acknowledged from) t b).id ≡ t.id
    number t true = refl
    number t false = refl

    applied : (t : Txn) (b : Bool)
        → (changed_if (table.txn_acknowledged from) t b).applied ≡ t.applied
    applied t true = refl
    applied t false = refl

pub acked_noted : (o p : Open) (n : Noted) (from number : ℕ) → HasOpen (table.change_txn o.running number (table.acknowledged_if from)) o p → AreNoted o n → AreNoted p n
acked_noted o p n from number e h = changed_noted _ _ _ (acked_change from) o p n n number e.opened e.running refl (same_notes number n.kept) h

pub acked_view : (i : Inside) (p : Open) (from number : ℕ) → HasOpen (table.change_txn i.txns.running number (table.acknowledged_if from)) i.txns p → AreNoted i.txns i.notes
    → view_of (record i { txns = p }) ≡ record (view_of i) { transactions = rules.acknowledging (transactions_of i.txns i.notes) from number }
acked_view i p from number e h =
    shows i p i.notes _ _ e.policy (changed_shown _ _ _ (acked_change from) i.txns p i.notes i.notes number e.opened e.running (same_notes number i.notes.kept) h)
    (ap (λ (k : ℕ). record (view_of i).room { transactions = min k i.notes.spare }) e.spare)

-- ---- an answer comes

answer_change : (by : Policy) (from : ℕ) (v : Option Version) → IsChange (table.answered_if by from v) (λ n. n) (λ t. changed_if (rules.answered by from v) t (rules.awaits_answer t from))
answer_change by from v = record {
  change = λ t n same. ap (λ (b : Bool). changed_if (rules.answered by from v) (transaction_with t n) (not b && contains t.awaiting from)) (written n.write ∙ same) ∙ one t n (table.txn_awaits_answer t from);
  number = λ t. number t (table.txn_awaits_answer t from);
  applied = λ t n same. same ∙ sym (applied t (table.txn_awaits_answer t from));
}
  where
    one : (t : Txn) (n : TxnNote) (b : Bool) → changed_if (rules.answered by from v) (transaction_with t n) b ≡ transaction_with (changed_if (table.txn_answered by from v) t b) n
    one t n true = refl
    one t n false = refl

    number : (t : Txn) (b : Bool) → (changed_if (table.txn_answered by from v) t b).id ≡ t.id
    number t true = refl
    number t false = refl

    applied : (t : Txn) (b : Bool)
        → (changed_if (table.txn_answered by from v) t b).applied ≡ t.applied
    applied t true = refl
    applied t false = refl

pub answer_noted : (o p : Open) (n : Noted) (from number : ℕ) (v : Option Version) → HasOpen (table.change_txn o.running number (table.answered_if o.by from v)) o p → AreNoted o n → AreNoted p n
answer_noted o p n from number v e h = changed_noted _ _ _ (answer_change o.by from v) o p n n number e.opened e.running refl (same_notes number n.kept) h

pub answer_view : (i : Inside) (p : Open) (from number : ℕ) (v : Option Version) → HasOpen (table.change_txn i.txns.running number (table.answered_if i.txns.by from v)) i.txns p → AreNoted i.txns i.notes
    → view_of (record i { txns = p }) ≡ record (view_of i) { transactions = rules.answering i.txns.by (transactions_of i.txns i.notes) from number v }
answer_view i p from number v e h =
    shows i p i.notes _ _ e.policy (changed_shown _ _ _ (answer_change i.txns.by from v) i.txns p i.notes i.notes number e.opened e.running (same_notes number i.notes.kept) h)
    (ap (λ (k : ℕ). record (view_of i).room { transactions = min k i.notes.spare }) e.spare)

-- ---- a write is applied

write_change : (w : Write) (to : List ℕ) → IsChange (table.txn_with_write to) (note_with_write w) (rules.with_write w.version w.nth to)
write_change w to = record { change = λ t n same. refl; number = λ t. refl; applied = λ t n same. refl }

pub write_noted : (o p : Open) (n m : Noted) (number : ℕ) (w : Write) (to : List ℕ) → HasOpen (table.change_txn o.running number (table.txn_with_write to)) o p
    → m.opened ≡ n.opened → m.kept ≡ with_note n.kept number (note_with_write w) → AreNoted o n → AreNoted p m
write_noted o p n m number w to e opened kept h = changed_noted _ _ _ (write_change w to) o p n m number e.opened e.running opened kept h

pub write_shown : (o p : Open) (n m : Noted) (number : ℕ) (w : Write) (to : List ℕ) → HasOpen (table.change_txn o.running number (table.txn_with_write to)) o p
    → m.kept ≡ with_note n.kept number (note_with_write w) → AreNoted o n → transactions_of p m ≡ rules.changing (transactions_of o n) number (rules.with_write w.version w.nth to)
write_shown o p n m number w to e kept h = changed_shown _ _ _ (write_change w to) o p n m number e.opened e.running kept h

-- ---- one opens

-- none has a number without a note
none_step : (number : ℕ) (t : Txn) (n : ℕ × TxnNote) (xs : List Transaction) (ns : Table TxnNote) (b : Bool) → (t.id == number) ≡ b → (n.0 == number) ≡ b
    → (note_of ns number ≡ None → find (λ t. t.number == number) xs ≡ None) → note_of (n ∷ ns) number ≡ None → find (λ t. t.number == number) (transaction_with t n.1 ∷ xs) ≡ None
none_step number t n xs ns true e i rest none = absurd (let there : note_of (n ∷ ns) number ≡ Some n.1 = rw i refl in cc)
none_step number t n xs ns false e i rest none = rw e (rest (let there : note_of (n ∷ ns) number ≡ note_of ns number = rw i refl in sym there ∙ none))

none_noted : (number : ℕ) (ts : List Txn) (ns : Table TxnNote) → AreNotesOf ts ns → note_of ns number ≡ None → find (λ t. t.number == number) (running_with ts ns) ≡ None
none_noted number [] ns notes none = refl
none_noted number (t ∷ ts) [] notes none = absurd notes
none_noted number (t ∷ ts) (n ∷ ns) notes none =
    none_step number t n (running_with ts ns) ns (t.id == number) refl (ap (λ (k : ℕ). k == number) notes.0.number) (none_noted number ts ns notes.1) none

last_step : (p : Transaction → Bool) (x t : Transaction) (xs : List Transaction) (b : Bool) → p x ≡ b → (find p xs ≡ None → find p (xs ++ t ∷ []) ≡ Some t)
    → find p (x ∷ xs) ≡ None → find p (x ∷ xs ++ t ∷ []) ≡ Some t
last_step p x t xs true e rest none = absurd (let there : find p (x ∷ xs) ≡ Some x = rw e refl in cc)
last_step p x t xs false e rest none = rw e (rest (let there : find p (x ∷ xs) ≡ find p xs = rw e refl in sym there ∙ none))

found_last : (p : Transaction → Bool) (xs : List Transaction) (t : Transaction) → p t ≡ true → find p xs ≡ None → find p (xs ++ t ∷ []) ≡ Some t
found_last p [] t is none = rw is refl
found_last p (x ∷ xs) t is none = last_step p x t xs (p x) refl (found_last p xs t is) none

-- the transaction is the one of its number
pub found_opened : (o : Open) (n : Noted) (t : Transaction) → AreNoted o n → note_of n.kept t.number ≡ None → rules.transaction (rules.opening (transactions_of o n) t) t.number ≡ Some t
found_opened o n t h none = found_last (λ x. x.number == t.number) (running_with o.running n.kept) t (equal t.number t.number refl) (none_noted t.number o.running n.kept h.notes none)

-- no transaction is open on the digest
same_bytes : (a b : List ℕ) → bytes_eq a b ≡ bytes_eq b a
same_bytes a b = go (bytes_eq a b) (bytes_eq b a) refl refl
  where
    go : (x y : Bool) → bytes_eq a b ≡ x → bytes_eq b a ≡ y → x ≡ y
    go true true e i = refl
    go false false e i = refl
    go true false e i = sym ((bytes_eq-Decides b a).1 (sym ((bytes_eq-Decides a b).0 e))) ∙ i
    go false true e i = sym e ∙ (bytes_eq-Decides a b).1 (sym ((bytes_eq-Decides b a).0 i))

pub number_on_is : (o : Open) (n : Noted) (digest : List ℕ) → AreNoted o n
    → table.number_on o.running digest ≡ option_map (λ t. t.number) (rules.transaction_on (transactions_of o n) digest)
number_on_is o n digest h =
    ap (λ (ts : List Txn). table.number_on ts digest) (kept_running o.running n.kept h.notes)
    ∙ ap (option_map (λ (t : Txn). t.id)) (found_kept (λ t. bytes_eq digest t.digest) (λ t. bytes_eq t.digest digest) (λ x. same_bytes x.digest digest) (running_with o.running n.kept))
    ∙ twice (rules.transaction_on (transactions_of o n) digest)
  where
    twice : (t : Option Transaction) → option_map (λ (u : Txn). u.id) (option_map kept_of t) ≡ option_map (λ (x : Transaction). x.number) t
    twice None = refl
    twice (Some t) = refl

pub none_on : (o : Open) (n : Noted) (digest : List ℕ) → AreNoted o n → rules.transaction_on (transactions_of o n) digest ≡ None → table.number_on o.running digest ≡ None
none_on o n digest h none = number_on_is o n digest h ∙ ap (option_map (λ (t : Transaction). t.number)) none

pub opened_noted : (o p : Open) (n m : Noted) (digest : List ℕ) (w : Want) (best : Option Version) (asked : List ℕ) → p.opened ≡ o.opened + 1
    → p.running ≡ o.running ++ table.new_txn (o.opened + 1) digest w best asked ∷ [] → m.opened ≡ n.opened + 1
    → m.kept ≡ n.kept ++ (n.opened + 1, record { asked = asked; write = None }) ∷ [] → AreNoted o n → AreNoted p m
opened_noted o p n m digest w best asked e1 e2 e3 e4 h = record {
  opened = e3 ∙ ap (λ (k : ℕ). k + 1) h.opened ∙ sym e1;
  notes = rw (e2, e4) (notes_opened (table.new_txn (o.opened + 1) digest w best asked) (n.opened + 1, record { asked = asked; write = None }) o.running n.kept
      (record { number = ap (λ (k : ℕ). k + 1) h.opened; applied = refl }) h.notes);
}

pub opened_shown : (o p : Open) (n m : Noted) (digest : List ℕ) (w : Want) (best : Option Version) (asked : List ℕ) → p.opened ≡ o.opened + 1
    → p.running ≡ o.running ++ table.new_txn (o.opened + 1) digest w best asked ∷ []
    → m.kept ≡ n.kept ++ (n.opened + 1, record { asked = asked; write = None }) ∷ [] → AreNoted o n
    → transactions_of p m ≡ rules.opening (transactions_of o n) (rules.new_transaction (o.opened + 1) digest w best asked)
opened_shown o p n m digest w best asked e1 e2 e4 h =
    ap₂ transactions_at e1 (ap₂ running_with e2 e4 ∙ running_opened (table.new_txn (o.opened + 1) digest w best asked) (n.opened + 1, record { asked = asked; write = None }) o.running n.kept h.notes)

-- with room, and with none open on the digest, one opens
pub never_refused : (r : Result ℕ BeginFault) (fault : BeginFault) (on : Option ℕ) → r ≡ Err fault → on ≡ None → ((t : ℕ) → (r ≡ Err (Busy t)) ↔ (on ≡ Some t)) → r ≢ Err NoMemory → ⊥
never_refused r (Busy t) on is none busy room = let there : on ≡ Some t = (busy t).0 is in cc
never_refused r NoMemory on is none busy room = room is
