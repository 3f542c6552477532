-- One copy or one history is another.
use Rattle.std.proofs.Common.{◌≡◌, ℕ, Bool, true, false, cond, List, [], ◌∷◌, ◌++◌, Option, Some, None, refl, ap, ap₂, ◌∙◌}
use Rattle.std.specs.Prelude.{nat_eq, unwrap_or}
use Rattle.std.specs.HashMap as hash
use Rattle.audit_state.specs.declared.copies.PartitionCopy.{PartitionCopy}
use Rattle.audit_state.specs.declared.copies.RecordChange.{RecordChange}
use Rattle.audit_state.specs.declared.history.Change.{Change}
use Rattle.audit_state.specs.declared.stores.Stores.{Stores}
use Rattle.audit_state.specs.Copies.{held_since, holding_since}
use Rattle.audit_state.specs.Keys.{pair_eq}
use Rattle.audit_state.specs.Stores.{history_of, copy_at, held_in, touched_in, holding_in, changes_in, held_of, touched_of, holding_of, changes_of, PutsContent, AddsToCopy, ClearsCopy, NotesChange}
use Rattle.audit_state.proofs.Tests.{number_same, and_left, and_right}

through : {A B : Type 0} (f : A → B) (b : Bool) (x y : A) → f (cond b x y) ≡ cond b (f x) (f y)
through {A} {B} f true x y = refl
through {A} {B} f false x y = refl

one_place : (n p m q : ℕ) → pair_eq (n, p) (m, q) ≡ true → (n ≡ m) × (p ≡ q)
one_place n p m q e = (number_same n m (and_left (nat_eq n m) _ e), number_same p q (and_right (nat_eq n m) _ e))

same_at : {A : Type 0} (f : ℕ → ℕ → A) (n p m q : ℕ) → pair_eq (n, p) (m, q) ≡ true → f n p ≡ f m q
same_at {A} f n p m q e = ap₂ f (one_place n p m q e).0 (one_place n p m q e).1

-- the copy is w, and all others are as they were
abbrev pub PutsCopy : Stores → Stores → ℕ → ℕ → PartitionCopy → Type 0
PutsCopy old new n p w = (q : ℕ × ℕ) → hash.get pair_eq new.copies q ≡ cond (pair_eq (n, p) q) (Some w) (hash.get pair_eq old.copies q)

module _ (old new : Stores) (n p : ℕ) (w : PartitionCopy) (puts : PutsCopy old new n p w) where
  held_at : (m q : ℕ) → held_of new m q ≡ cond (pair_eq (n, p) (m, q)) w.held.items (held_of old m q)
  held_at m q = ap held_in (puts (m, q)) ∙ through held_in (pair_eq (n, p) (m, q)) (Some w) (copy_at old m q)

  touched_at : (m q : ℕ) → touched_of new m q ≡ cond (pair_eq (n, p) (m, q)) w.touched.items (touched_of old m q)
  touched_at m q = ap touched_in (puts (m, q)) ∙ through touched_in (pair_eq (n, p) (m, q)) (Some w) (copy_at old m q)

  holding_at : (m q : ℕ) → holding_of new m q ≡ cond (pair_eq (n, p) (m, q)) w.holding (holding_of old m q)
  holding_at m q = ap holding_in (puts (m, q)) ∙ through holding_in (pair_eq (n, p) (m, q)) (Some w) (copy_at old m q)

  changes_at : (m q : ℕ) → changes_of new m q ≡ cond (pair_eq (n, p) (m, q)) w.changes (changes_of old m q)
  changes_at m q = ap changes_in (puts (m, q)) ∙ through changes_in (pair_eq (n, p) (m, q)) (Some w) (copy_at old m q)

  pub adds : (line r : ℕ) (holds ever : Bool) → w.held.items ≡ held_since holds r (held_of old n p) → w.touched.items ≡ held_since ever r (touched_of old n p)
      → w.holding ≡ holding_since line (holding_of old n p) → w.changes ≡ changes_of old n p ++ record { line = line; number = r } ∷ [] → AddsToCopy old new line n p r holds ever
  adds line r holds ever a b c d = record {
    held = λ m q. held_at m q ∙ ap (λ (x : List ℕ). cond (pair_eq (n, p) (m, q)) x (held_of old m q)) a;
    touched = λ m q. touched_at m q ∙ ap (λ (x : List ℕ). cond (pair_eq (n, p) (m, q)) x (touched_of old m q)) b;
    holding = λ m q. holding_at m q ∙ ap (λ (x : List Change). cond (pair_eq (n, p) (m, q)) x (holding_of old m q)) c;
    changes = λ m q. changes_at m q ∙ ap (λ (x : List RecordChange). cond (pair_eq (n, p) (m, q)) x (changes_of old m q)) d;
  }

  same_place : {A : Type 0} (f : ℕ → ℕ → A) (x : A) → x ≡ f n p → (m q : ℕ) → cond (pair_eq (n, p) (m, q)) x (f m q) ≡ f m q
  same_place {A} f x e m q = go (pair_eq (n, p) (m, q)) refl
    where
      go : (b : Bool) → pair_eq (n, p) (m, q) ≡ b → cond b x (f m q) ≡ f m q
      go true i = e ∙ same_at f n p m q i
      go false i = refl

  pub clears : (line : ℕ) → w.held.items ≡ [] → w.touched.items ≡ touched_of old n p
      → w.holding ≡ holding_of old n p ++ record { line = line; value = None } ∷ [] → w.changes ≡ changes_of old n p → ClearsCopy old new line n p
  clears line a b c d = record {
    held = λ m q. held_at m q ∙ ap (λ (x : List ℕ). cond (pair_eq (n, p) (m, q)) x (held_of old m q)) a;
    touched = λ m q. touched_at m q ∙ same_place (touched_of old) w.touched.items b m q;
    holding = λ m q. holding_at m q ∙ ap (λ (x : List Change). cond (pair_eq (n, p) (m, q)) x (holding_of old m q)) c;
    changes = λ m q. changes_at m q ∙ same_place (changes_of old) w.changes d m q;
  }

  pub notes : (line r : ℕ) → w.held.items ≡ held_of old n p → w.touched.items ≡ touched_of old n p
      → w.holding ≡ holding_of old n p → w.changes ≡ changes_of old n p ++ record { line = line; number = r } ∷ [] → NotesChange old new line n p r
  notes line r a b c d = record {
    held = λ m q. held_at m q ∙ same_place (held_of old) w.held.items a m q;
    touched = λ m q. touched_at m q ∙ same_place (touched_of old) w.touched.items b m q;
    holding = λ m q. holding_at m q ∙ same_place (holding_of old) w.holding c m q;
    changes = λ m q. changes_at m q ∙ ap (λ (x : List RecordChange). cond (pair_eq (n, p) (m, q)) x (changes_of old m q)) d;
  }

-- ---- what is taken out and put back

abbrev TakesOut : {A : Type 0} → (ℕ × ℕ → Option A) → (ℕ × ℕ → Option A) → ℕ × ℕ → Type 0
TakesOut old mid key = (q : ℕ × ℕ) → mid q ≡ cond (pair_eq key q) None (old q)

abbrev PutsBack : {A : Type 0} → (ℕ × ℕ → Option A) → (ℕ × ℕ → Option A) → ℕ × ℕ → A → Type 0
PutsBack mid new key w = (q : ℕ × ℕ) → new q ≡ cond (pair_eq key q) (Some w) (mid q)

put_back : {A : Type 0} (old mid new : ℕ × ℕ → Option A) (key : ℕ × ℕ) (w : A) → TakesOut old mid key → PutsBack mid new key w → PutsBack old new key w
put_back {A} old mid new key w out back q = back q ∙ go (pair_eq key q) (out q)
  where
    go : (b : Bool) → mid q ≡ cond b None (old q) → cond b (Some w) (mid q) ≡ cond b (Some w) (old q)
    go true e = refl
    go false e = e

pub copies_back : (old mid new : Stores) (n p : ℕ) (w : PartitionCopy) → ((q : ℕ × ℕ) → hash.get pair_eq mid.copies q ≡ cond (pair_eq (n, p) q) None (hash.get pair_eq old.copies q))
    → ((q : ℕ × ℕ) → hash.get pair_eq new.copies q ≡ cond (pair_eq (n, p) q) (Some w) (hash.get pair_eq mid.copies q)) → PutsCopy old new n p w
copies_back old mid new n p w out back = put_back (hash.get pair_eq old.copies) (hash.get pair_eq mid.copies) (hash.get pair_eq new.copies) (n, p) w out back

pub histories_back : (old mid new : Stores) (n r : ℕ) (w h : List Change) (c : Change) → ((q : ℕ × ℕ) → hash.get pair_eq mid.contents q ≡ cond (pair_eq (n, r) q) None (hash.get pair_eq old.contents q))
    → ((q : ℕ × ℕ) → hash.get pair_eq new.contents q ≡ cond (pair_eq (n, r) q) (Some w) (hash.get pair_eq mid.contents q)) → h ≡ history_of old n r → w ≡ h ++ c ∷ [] → PutsContent old new n r c
histories_back old mid new n r w h c out back same e m q =
    ap (λ (o : Option (List Change)). unwrap_or o []) (put_back (hash.get pair_eq old.contents) (hash.get pair_eq mid.contents) (hash.get pair_eq new.contents) (n, r) w out back (m, q))
    ∙ (through (λ (o : Option (List Change)). unwrap_or o []) (pair_eq (n, r) (m, q)) (Some w) (hash.get pair_eq old.contents (m, q))
    ∙ ap (λ (x : List Change). cond (pair_eq (n, r) (m, q)) x (history_of old m q)) (e ∙ ap (λ (x : List Change). x ++ c ∷ []) same))
