-- Open transactions with their notes: a change of both is that of the transaction.
use Rattle.std.proofs.Common.{◌≡◌, ◌==◌, ◌⊎◌, inl, inr, ◌||◌, ℕ, Bool, true, false, not, List, [], ◌∷◌, ◌++◌, Option, Some, None, find, filter, map, option_map, is_some, refl, sym, ap, ap₂, subst, ◌∙◌}
use Rattle.std.specs.List.{list_any}
use Rattle.dup_resolve.specs.declared.txn.Txn.{Txn}
use Rattle.dup_resolve.specs.Open as table
use Rattle.node_rules.specs.Tables.{Table, changed_if}
use Rattle.node_rules.specs.Transactions.{Transaction}
use Rattle.node_view.specs.declared.notes.TxnNote.{TxnNote}
use Rattle.node_view.specs.declared.notes.Write.{Write}
use Rattle.node_view.specs.Transactions.{AreNotesOf, IsNoteOf, kept_of, note_of, running_with, transaction_with, with_note, without_note, write_of}

-- a change that is that of the transaction
pub record IsChange (f : Txn → Txn) (g : TxnNote → TxnNote) (h : Transaction → Transaction) : Type 0 where
  pub change : (t : Txn) (n : TxnNote) → is_some n.write ≡ t.applied → h (transaction_with t n) ≡ transaction_with (f t) (g n)
  pub number : (t : Txn) → (f t).id ≡ t.id
  pub applied : (t : Txn) (n : TxnNote) → is_some n.write ≡ t.applied → is_some (g n).write ≡ (f t).applied

one_changed : (f : Txn → Txn) (g : TxnNote → TxnNote) (h : Transaction → Transaction) (t : Txn) (n : TxnNote) (b : Bool) → IsChange f g h → is_some n.write ≡ t.applied
    → changed_if h (transaction_with t n) b ≡ transaction_with (changed_if f t b) (changed_if g n b)
one_changed f g h t n true is same = is.change t n same
one_changed f g h t n false is same = refl

one_noted : (f : Txn → Txn) (g : TxnNote → TxnNote) (h : Transaction → Transaction) (t : Txn) (n : ℕ × TxnNote) (b : Bool) → IsChange f g h → IsNoteOf t n
    → IsNoteOf (changed_if f t b) (n.0, changed_if g n.1 b)
one_noted f g h t n true is note = record { number = note.number ∙ sym (is.number t); applied = is.applied t n.1 note.applied }
one_noted f g h t n false is note = record { number = note.number; applied = note.applied }

pub running_changed : (f : Txn → Txn) (g : TxnNote → TxnNote) (h : Transaction → Transaction) → IsChange f g h → (number : ℕ) (ts : List Txn) (ns : Table TxnNote) → AreNotesOf ts ns
    → running_with (table.change_txn ts number f) (with_note ns number g) ≡ map (λ t. changed_if h t (t.number == number)) (running_with ts ns)
running_changed f g h is number [] ns notes = refl
running_changed f g h is number (t ∷ ts) [] notes = refl
running_changed f g h is number (t ∷ ts) (n ∷ ns) notes =
    ap₂ (λ (x : Transaction) (xs : List Transaction). x ∷ xs)
    (ap (λ (k : ℕ). transaction_with (changed_if f t (t.id == number)) (changed_if g n.1 (k == number))) notes.0.number
    ∙ sym (one_changed f g h t n.1 (t.id == number) is notes.0.applied))
    (running_changed f g h is number ts ns notes.1)

pub notes_changed : (f : Txn → Txn) (g : TxnNote → TxnNote) (h : Transaction → Transaction) → IsChange f g h → (number : ℕ) (ts : List Txn) (ns : Table TxnNote) → AreNotesOf ts ns
    → AreNotesOf (table.change_txn ts number f) (with_note ns number g)
notes_changed f g h is number [] [] notes = tt
notes_changed f g h is number (t ∷ ts) [] notes = notes
notes_changed f g h is number [] (n ∷ ns) notes = notes
notes_changed f g h is number (t ∷ ts) (n ∷ ns) notes = (
  subst (λ (k : ℕ). IsNoteOf (changed_if f t (t.id == number)) (n.0, changed_if g n.1 (k == number))) (sym notes.0.number) (one_noted f g h t n (t.id == number) is notes.0),
  notes_changed f g h is number ts ns notes.1,
)

-- one that is kept or isn't
abbrev cons_if : {X : Type 0} → Bool → X → List X → List X
cons_if true x xs = x ∷ xs
cons_if false x xs = xs

closed_step : (b : Bool) (t : Txn) (n : ℕ × TxnNote) (ts us : List Txn) (ns ms : Table TxnNote) (xs ys : List Transaction) → running_with us ms ≡ ys
    → running_with (cons_if b t us) (cons_if b n ms) ≡ cons_if b (transaction_with t n.1) ys
closed_step true t n ts us ns ms xs ys e = ap (λ (zs : List Transaction). transaction_with t n.1 ∷ zs) e
closed_step false t n ts us ns ms xs ys e = e

noted_step : (b : Bool) (t : Txn) (n : ℕ × TxnNote) (us : List Txn) (ms : Table TxnNote) → IsNoteOf t n → AreNotesOf us ms → AreNotesOf (cons_if b t us) (cons_if b n ms)
noted_step true t n us ms note notes = (note, notes)
noted_step false t n us ms note notes = notes

filter_cons : {X : Type 0} (p : X → Bool) (x : X) (xs : List X) → filter p (x ∷ xs) ≡ cons_if (p x) x (filter p xs)
filter_cons p x xs = go (p x) refl
  where
    go : (b : Bool) → p x ≡ b → filter p (x ∷ xs) ≡ cons_if b x (filter p xs)
    go true e = rw e refl
    go false e = rw e refl

pub running_closed : (number : ℕ) (ts : List Txn) (ns : Table TxnNote) → AreNotesOf ts ns
    → running_with (table.without_txn ts number) (without_note ns number) ≡ filter (λ t. not (t.number == number)) (running_with ts ns)
running_closed number [] ns notes = refl
running_closed number (t ∷ ts) [] notes = absurd notes
running_closed number (t ∷ ts) (n ∷ ns) notes =
    let b = not (t.id == number) in
    let same : not (n.0 == number) ≡ b = ap (λ (k : ℕ). not (k == number)) notes.0.number in
    ap₂ running_with (filter_cons (λ (x : Txn). not (x.id == number)) t ts)
    (filter_cons (λ (x : ℕ × TxnNote). not (x.0 == number)) n ns ∙ ap (λ (c : Bool). cons_if c n (without_note ns number)) same)
    ∙ closed_step b t n ts (table.without_txn ts number) ns (without_note ns number) [] _ (running_closed number ts ns notes.1)
    ∙ sym (filter_cons (λ (x : Transaction). not (x.number == number)) (transaction_with t n.1) (running_with ts ns))

pub notes_closed : (number : ℕ) (ts : List Txn) (ns : Table TxnNote) → AreNotesOf ts ns → AreNotesOf (table.without_txn ts number) (without_note ns number)
notes_closed number [] [] notes = tt
notes_closed number [] (n ∷ ns) notes = absurd notes
notes_closed number (t ∷ ts) [] notes = absurd notes
notes_closed number (t ∷ ts) (n ∷ ns) notes =
    let same : not (n.0 == number) ≡ not (t.id == number) = ap (λ (k : ℕ). not (k == number)) notes.0.number in
    rw (filter_cons (λ (x : Txn). not (x.id == number)) t ts, filter_cons (λ (x : ℕ × TxnNote). not (x.0 == number)) n ns, same)
    (noted_step (not (t.id == number)) t n (table.without_txn ts number) (without_note ns number) notes.0 (notes_closed number ts ns notes.1))

pub running_opened : (t : Txn) (n : ℕ × TxnNote) (ts : List Txn) (ns : Table TxnNote) → AreNotesOf ts ns
    → running_with (ts ++ t ∷ []) (ns ++ n ∷ []) ≡ running_with ts ns ++ transaction_with t n.1 ∷ []
running_opened t n [] [] notes = refl
running_opened t n [] (m ∷ ns) notes = absurd notes
running_opened t n (s ∷ ts) [] notes = absurd notes
running_opened t n (s ∷ ts) (m ∷ ns) notes = ap (λ (xs : List Transaction). transaction_with s m.1 ∷ xs) (running_opened t n ts ns notes.1)

pub notes_opened : (t : Txn) (n : ℕ × TxnNote) (ts : List Txn) (ns : Table TxnNote) → IsNoteOf t n → AreNotesOf ts ns → AreNotesOf (ts ++ t ∷ []) (ns ++ n ∷ [])
notes_opened t n [] [] note notes = (note, tt)
notes_opened t n [] (m ∷ ns) note notes = absurd notes
notes_opened t n (s ∷ ts) [] note notes = absurd notes
notes_opened t n (s ∷ ts) (m ∷ ns) note notes = (notes.0, notes_opened t n ts ns note notes.1)

pub written : (w : Option Write) → is_some (option_map write_of w) ≡ is_some w
written None = refl
written (Some w) = refl

-- without its note a transaction is as it is kept
pub kept_running : (ts : List Txn) (ns : Table TxnNote) → AreNotesOf ts ns → ts ≡ map kept_of (running_with ts ns)
kept_running [] ns notes = refl
kept_running (t ∷ ts) [] notes = absurd notes
kept_running (t ∷ ts) (n ∷ ns) notes =
    ap₂ (λ (x : Txn) (xs : List Txn). x ∷ xs) (one t n.1 notes.0.applied) (kept_running ts ns notes.1)
  where
    one : (t : Txn) (n : TxnNote) → is_some n.write ≡ t.applied → t ≡ kept_of (transaction_with t n)
    one t n e = let w = written n.write in rw (w, e) refl

-- ---- by number, by digest and by partition

found_step : (p : Txn → Bool) (q : Transaction → Bool) (x : Transaction) (xs : List Transaction) (b : Bool) → q x ≡ b → p (kept_of x) ≡ b
    → find p (map kept_of xs) ≡ option_map kept_of (find q xs) → find p (map kept_of (x ∷ xs)) ≡ option_map kept_of (find q (x ∷ xs))
found_step p q x xs true e i rest = rw (e, i) refl
found_step p q x xs false e i rest = rw (e, i) rest

pub found_kept : (p : Txn → Bool) (q : Transaction → Bool) → ((x : Transaction) → q x ≡ p (kept_of x)) → (xs : List Transaction) → find p (map kept_of xs) ≡ option_map kept_of (find q xs)
found_kept p q same [] = refl
found_kept p q same (x ∷ xs) = found_step p q x xs (q x) refl (sym (same x)) (found_kept p q same xs)

pub any_kept : (p : Txn → Bool) (q : Transaction → Bool) → ((x : Transaction) → q x ≡ p (kept_of x)) → (xs : List Transaction) → list_any p (map kept_of xs) ≡ list_any q xs
any_kept p q same [] = refl
any_kept p q same (x ∷ xs) = ap₂ (λ (b c : Bool). b || c) (sym (same x)) (any_kept p q same xs)

-- what is noted of an open transaction is what it applied
abbrev IsNotedAt : ℕ → List Transaction → Table TxnNote → Type 0
IsNotedAt number xs ns =
    (find (λ t. t.number == number) xs ≡ None)
    ⊎ (option_map (λ (x : Transaction). x.applied) (find (λ t. t.number == number) xs) ≡ option_map (λ (n : TxnNote). option_map write_of n.write) (note_of ns number))

noted_step_at : (number : ℕ) (t : Txn) (n : ℕ × TxnNote) (xs : List Transaction) (ns : Table TxnNote) (b : Bool) → (t.id == number) ≡ b → (n.0 == number) ≡ b
    → IsNotedAt number xs ns → IsNotedAt number (transaction_with t n.1 ∷ xs) (n ∷ ns)
noted_step_at number t n xs ns true e i rest = rw (e, i) (inr refl)
noted_step_at number t n xs ns false e i rest = rw (e, i) rest

pub noted_at : (number : ℕ) (ts : List Txn) (ns : Table TxnNote) → AreNotesOf ts ns → IsNotedAt number (running_with ts ns) ns
noted_at number [] ns notes = inl refl
noted_at number (t ∷ ts) [] notes = absurd notes
noted_at number (t ∷ ts) (n ∷ ns) notes =
    noted_step_at number t n (running_with ts ns) ns (t.id == number) refl (ap (λ (k : ℕ). k == number) notes.0.number) (noted_at number ts ns notes.1)
