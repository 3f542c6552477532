-- Readers that read back what is written, and only that.
use Rattle.std.proofs.Common.{◌≡◌, ℕ, ◌==◌, false, List, [], ◌∷◌, Option, Some, None, refl, sym, ap, subst, ◌∙◌}
use Rattle.std.specs.Prelude.{All}
use Rattle.std.specs.List.{AllByRecursion, join_with_byte, slice_split}
use Rattle.std.specs.Option.{option_map, option_and_then}
use Rattle.std.proofs.lemmas.Bool.{eq-eqb}
use Rattle.std.proofs.lemmas.List.Elements.{All-nil, All-cons, All-append, All-weaker}
use Rattle.std.proofs.lemmas.List.Splits.{slice_split_at, slice_split_none, join_with_byte-slice_split}
use Rattle.std.proofs.lemmas.Option.{none-some, same_Some}
use Rattle.journal_reader.specs.Fields.{Reader, parts_of, at_end, first_field, with_field, with_rest}

-- a field: what has a meaning is read back, what is read is written so, and its bytes are of a kind
pub record Reads {A : Type 0} (P : ℕ → Type 0) (Good : A → Type 0) (write : A → List ℕ) (read : List ℕ → Option A) : Type 0 where
  pub again : (x : A) → Good x → read (write x) ≡ Some x
  pub written : (text : List ℕ) (x : A) → read text ≡ Some x → (write x ≡ text) × Good x
  pub clean : (x : A) → Good x → All P (write x)

abbrev pub AreClean : (ℕ → Type 0) → List (List ℕ) → Type 0
AreClean P fields = AllByRecursion (All P) fields

-- the same of fields
pub record ReadsAll {A : Type 0} (P : ℕ → Type 0) (Good : A → Type 0) (write : A → List (List ℕ)) (read : Reader A) : Type 0 where
  pub again : (x : A) → Good x → read (write x) ≡ Some x
  pub written : (fields : List (List ℕ)) (x : A) → read fields ≡ Some x → (write x ≡ fields) × Good x
  pub clean : (x : A) → Good x → AreClean P (write x)

-- from these fields the value is read
pub record Back {A : Type 0} (P : ℕ → Type 0) (read : Reader A) (fields : List (List ℕ)) (x : A) : Type 0 where
  pub again : read fields ≡ Some x
  pub clean : AreClean P fields

-- what is read stands so to its fields
pub record Only {A : Type 0} (read : Reader A) (W : List (List ℕ) → A → Type 0) : Type 0 where
  pub only : (fields : List (List ℕ)) (x : A) → read fields ≡ Some x → W fields x

pub ended_back : {A : Type 0} (P : ℕ → Type 0) (x : A) → Back P (at_end x) [] x
unfolding at_end
ended_back P x = record { again = refl; clean = tt }

pub field_back : {A B : Type 0} {P : ℕ → Type 0} {Good : A → Type 0} {write : A → List ℕ} {read : List ℕ → Option A} (next : A → Reader B) {fields : List (List ℕ)} {y : B}
    → Reads P Good write read → (x : A) → Good x → Back P (next x) fields y → Back P (with_field read next) (write x ∷ fields) y
unfolding with_field first_field
field_back {A = A} next {fields = fields} r x g b = record {
  again = ap (λ o. option_and_then (λ (z : A × List (List ℕ)). next z.0 z.1) (option_map (λ z. (z, fields)) o)) (r.again x g) ∙ b.again;
  clean = (r.clean x g, b.clean);
}

pub rest_back : {A B : Type 0} {P : ℕ → Type 0} {Good : A → Type 0} {write : A → List (List ℕ)} {read : Reader A} (make : A → B)
    → ReadsAll P Good write read → (x : A) → Good x → Back P (with_rest read make) (write x) (make x)
unfolding with_rest
rest_back make r x g = record { again = ap (option_map make) (r.again x g); clean = r.clean x g }

ended_at : {A : Type 0} (W : List (List ℕ) → A → Type 0) (x : A) → W [] x → (fields : List (List ℕ)) (y : A) → at_end x fields ≡ Some y → W fields y
unfolding at_end
ended_at W x w [] y e = subst (W []) (same_Some x y e) w
ended_at W x w (field ∷ fields) y e = absurd (none-some y e)

pub ended_only : {A : Type 0} {W : List (List ℕ) → A → Type 0} (x : A) → W [] x → Only (at_end x) W
ended_only {W = W} x w = record { only = ended_at W x w }

taken : {A B : Type 0} (next : A → Reader B) (fields : List (List ℕ)) (o : Option A) (y : B) (W : Type 0)
    → ((x : A) → o ≡ Some x → next x fields ≡ Some y → W) → option_and_then (λ (z : A × List (List ℕ)). next z.0 z.1) (option_map (λ z. (z, fields)) o) ≡ Some y → W
taken next fields None y W k e = absurd (none-some y e)
taken next fields (Some x) y W k e = k x refl e

field_at : {A B : Type 0} {P : ℕ → Type 0} (Good : A → Type 0) (write : A → List ℕ) (read : List ℕ → Option A) (next : A → Reader B) (W : List (List ℕ) → B → Type 0)
    → Reads P Good write read → ((x : A) → Good x → Only (next x) (λ fields y. W (write x ∷ fields) y))
    → (fields : List (List ℕ)) (y : B) → with_field read next fields ≡ Some y → W fields y
unfolding with_field first_field
field_at Good write read next W r k [] y e = absurd (none-some y e)
field_at Good write read next W r k (field ∷ fields) y e =
    taken next fields (read field) y (W (field ∷ fields) y) (λ x is rest.
    let w = r.written field x is in
    subst (λ t. W (t ∷ fields) y) w.0 ((k x w.1).only fields y rest)) e

pub field_only : {A B : Type 0} {P : ℕ → Type 0} {Good : A → Type 0} {write : A → List ℕ} {read : List ℕ → Option A} {next : A → Reader B} {W : List (List ℕ) → B → Type 0}
    → Reads P Good write read → ((x : A) → Good x → Only (next x) (λ fields y. W (write x ∷ fields) y)) → Only (with_field read next) W
field_only {Good = Good} {write = write} {read = read} {next = next} {W = W} r k = record { only = field_at Good write read next W r k }

pub map_some : {A B : Type 0} (make : A → B) (o : Option A) (y : B) → option_map make o ≡ Some y → (x : A) × (o ≡ Some x) × (make x ≡ y)
map_some make None y e = absurd (none-some y e)
map_some make (Some x) y e = (x, refl, same_Some (make x) y e)

rest_at : {A B : Type 0} {P : ℕ → Type 0} (Good : A → Type 0) (write : A → List (List ℕ)) (read : Reader A) (make : A → B) (W : List (List ℕ) → B → Type 0)
    → ReadsAll P Good write read → ((x : A) → Good x → W (write x) (make x)) → (fields : List (List ℕ)) (y : B) → with_rest read make fields ≡ Some y → W fields y
unfolding with_rest
rest_at Good write read make W r k fields y e =
    let m = map_some make (read fields) y e in
    let w = r.written fields m.0 m.1 in
    subst (λ t. W t y) w.0 (subst (W (write m.0)) m.2 (k m.0 w.1))

pub rest_only : {A B : Type 0} {P : ℕ → Type 0} {Good : A → Type 0} {write : A → List (List ℕ)} {read : Reader A} (make : A → B) {W : List (List ℕ) → B → Type 0}
    → ReadsAll P Good write read → ((x : A) → Good x → W (write x) (make x)) → Only (with_rest read make) W
rest_only {Good = Good} {write = write} {read = read} make {W = W} r k = record { only = rest_at Good write read make W r k }

pub reads_all : {A : Type 0} {P : ℕ → Type 0} {Good : A → Type 0} {write : A → List (List ℕ)} {read : Reader A}
    → ((x : A) → Good x → Back P read (write x) x) → Only read (λ fields x. (write x ≡ fields) × Good x) → ReadsAll P Good write read
reads_all back only = record {
  again = λ x g. (back x g).again;
  written = only.only;
  clean = λ x g. (back x g).clean;
}

-- the same reader, its values and bytes said otherwise
pub reads_as : {A : Type 0} {P : ℕ → Type 0} {G H : A → Type 0} {write : A → List ℕ} {read : List ℕ → Option A}
    → Reads P G write read → ((x : A) → G x → H x) → ((x : A) → H x → G x) → Reads P H write read
reads_as r to from = record {
  again = λ x h. r.again x (from x h);
  written = λ text x e. let w = r.written text x e in (w.0, to x w.1);
  clean = λ x h. r.clean x (from x h);
}

pub reads_wider : {A : Type 0} {P Q : ℕ → Type 0} {G : A → Type 0} {write : A → List ℕ} {read : List ℕ → Option A}
    → ((b : ℕ) → P b → Q b) → Reads P G write read → Reads Q G write read
reads_wider {P = P} {Q = Q} {write = write} wider r = record {
  again = r.again;
  written = r.written;
  clean = λ x g. All-weaker P Q wider (write x) (r.clean x g);
}

-- ---- parts of a text

abbrev pub IsFull : List (List ℕ) → Type 0
IsFull [] = ⊥
IsFull (field ∷ fields) = Unit {0}

pub split_join : (P : ℕ → Type 0) (sep : ℕ) → ((b : ℕ) → P b → (b == sep) ≡ false) → (fields : List (List ℕ)) → IsFull fields → AreClean P fields
    → slice_split (λ b. b == sep) (join_with_byte sep fields) ≡ fields
split_join P sep other [] full clean = absurd full
split_join P sep other (field ∷ []) full clean = slice_split_none (λ b. b == sep) field (All-weaker P (λ b. (b == sep) ≡ false) other field clean.0)
split_join P sep other (field ∷ next ∷ fields) full clean =
    slice_split_at (λ b. b == sep) field sep (join_with_byte sep (next ∷ fields)) (All-weaker P (λ b. (b == sep) ≡ false) other field clean.0) (eq-eqb sep sep refl)
    ∙ ap (λ fs. field ∷ fs) (split_join P sep other (next ∷ fields) tt clean.1)

pub join_clean : (P Q : ℕ → Type 0) (sep : ℕ) → ((b : ℕ) → P b → Q b) → Q sep → (fields : List (List ℕ)) → AreClean P fields → All Q (join_with_byte sep fields)
join_clean P Q sep wider at [] clean = All-nil Q
join_clean P Q sep wider at (field ∷ []) clean = All-weaker P Q wider field clean.0
join_clean P Q sep wider at (field ∷ next ∷ fields) clean =
    All-append Q field (sep ∷ join_with_byte sep (next ∷ fields)) (All-weaker P Q wider field clean.0)
    (All-cons Q sep (join_with_byte sep (next ∷ fields)) at (join_clean P Q sep wider at (next ∷ fields) clean.1))

pub reads_parts : {A : Type 0} {P Q : ℕ → Type 0} {Good : A → Type 0} {write : A → List (List ℕ)} {read : Reader A} (sep : ℕ)
    → ((b : ℕ) → P b → (b == sep) ≡ false) → ((b : ℕ) → P b → Q b) → Q sep → ((x : A) → Good x → IsFull (write x)) → ReadsAll P Good write read
    → Reads Q Good (λ x. join_with_byte sep (write x)) (λ text. read (parts_of sep text))
reads_parts {P = P} {Q = Q} {write = write} {read = read} sep other wider at full r = record {
  again = λ x g. ap read (split_join P sep other (write x) (full x g) (r.clean x g)) ∙ r.again x g;
  written = λ text x e. let w = r.written (parts_of sep text) x e in (ap (join_with_byte sep) w.0 ∙ join_with_byte-slice_split sep text, w.1);
  clean = λ x g. join_clean P Q sep wider at (write x) (r.clean x g);
}

-- the same reader and text, said otherwise
pub reads_same : {A : Type 0} {P : ℕ → Type 0} {G : A → Type 0} {write : A → List ℕ} {read : List ℕ → Option A} (text_of : A → List ℕ) (read_of : List ℕ → Option A)
    → ((x : A) → write x ≡ text_of x) → ((text : List ℕ) → read_of text ≡ read text) → Reads P G write read → Reads P G text_of read_of
reads_same {P = P} text_of read_of same_text same_read r = record {
  again = λ x g. ap read_of (sym (same_text x)) ∙ same_read _ ∙ r.again x g;
  written = λ text x e. let w = r.written text x (sym (same_read text) ∙ e) in (sym (same_text x) ∙ w.0, w.1);
  clean = λ x g. subst (All P) (same_text x) (r.clean x g);
}
