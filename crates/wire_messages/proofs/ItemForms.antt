-- Lists are forms where their items are: behind their count each item is read by those before it. Where
-- each item follows the one before it, it follows all before it.
use Rattle.std.proofs.Common.{◌≡◌, ℕ, zero, suc, ◌<◌, List, [], ◌∷◌, ◌++◌, length, take, Option, Some, None, Result, Ok, Err, refl, sym, ap, subst, ◌∙◌, arith}
use Rattle.std.specs.List.{flat_map, AllByRecursion, AllPairs}
use Rattle.std.proofs.lemmas.List.Elements.{All-from_recursion}
use Rattle.std.proofs.lemmas.List.Kept.{AllPairs-cons}
use Rattle.wire_messages.specs.declared.fault.FieldFault.{FieldFault}
use Rattle.wire_messages.specs.declared.fault.FieldFault.TheVariants.{Short}
use Rattle.wire_messages.specs.Fields.{◌>>=◌, items_at}
use Rattle.wire_messages.proofs.Forms.{IsBytes, Small, IsForm, again_step, cut_step, small_step, took, bind_ok, ok_is, joined}
use Rattle.wire_messages.proofs.NumberForms.{no_less}

-- each item is allowed behind those before it
abbrev pub AreItems : {A C : Type 0} → (C → ℕ → A → Type 0) → (C → A → C) → C → List A → Type 0
AreItems P add c [] = Unit {0}
AreItems P add c (x ∷ xs) = P c (length xs) x × AreItems P add (add c x) xs

abbrev Item : Type 0 → Type 0 → Type 0
Item A C = C → ℕ → List ℕ → Result (A × List ℕ) FieldFault

pub items_again : {A C : Type 0} (P : C → ℕ → A → Type 0) (w : A → List ℕ) (item : Item A C) (add : C → A → C) → ((c : C) (n : ℕ) → IsForm (P c n) w (item c n))
    → (xs : List A) (c : C) (rest : List ℕ) → AreItems P add c xs → items_at item add (length xs) c (flat_map w xs ++ rest) ≡ Ok (xs, rest)
unfolding items_at
items_again P w item add form [] c rest h = refl
items_again P w item add form (x ∷ xs) c rest h =
    again_step (form c (length xs)) x h.0 (λ y. items_at item add (length xs) (add c y.0) y.1 >>= λ ys. Ok (y.0 ∷ ys.0, ys.1)) (flat_map w xs) rest _
    (ap (λ z. z >>= λ ys. Ok (x ∷ ys.0, ys.1)) (items_again P w item add form xs (add c x) rest h.1))

pub record TakesItems {A C : Type 0} (P : C → ℕ → A → Type 0) (w : A → List ℕ) (add : C → A → C) (n : ℕ) (c : C) (bytes : List ℕ) (xs : List A) (rest : List ℕ) : Type 0 where
  pub parts : bytes ≡ flat_map w xs ++ rest
  pub rest_fits : IsBytes rest
  pub count : length xs ≡ n
  pub each : AreItems P add c xs

pub items_take : {A C : Type 0} (P : C → ℕ → A → Type 0) (w : A → List ℕ) (item : Item A C) (add : C → A → C) → ((c : C) (n : ℕ) → IsForm (P c n) w (item c n))
    → (n : ℕ) (c : C) (bytes : List ℕ) (xs : List A) (rest : List ℕ) → IsBytes bytes → items_at item add n c bytes ≡ Ok (xs, rest) → TakesItems P w add n c bytes xs rest
unfolding items_at
items_take {A} {C} P w item add form zero c bytes xs rest fits e =
    subst (λ (y : List A × List ℕ). TakesItems P w add 0 c bytes y.0 y.1) (ok_is ([], bytes) (xs, rest) e)
    (record { parts = refl; rest_fits = fits; count = refl; each = tt })
items_take {A} {C} P w item add form (suc n) c bytes xs rest fits e =
    let a = took (form c n) bytes fits (λ y. items_at item add n (add c y.0) y.1 >>= λ ys. Ok (y.0 ∷ ys.0, ys.1)) (xs, rest) e in
    let b = bind_ok (items_at item add n (add c a.value) a.rest) (λ ys. Ok (a.value ∷ ys.0, ys.1)) (xs, rest) a.next in
    let more = items_take P w item add form n (add c a.value) a.rest b.0.0 b.0.1 a.takes.rest_fits b.1 in
    subst (λ (y : List A × List ℕ). TakesItems P w add (suc n) c bytes y.0 y.1) (ok_is (a.value ∷ b.0.0, b.0.1) (xs, rest) b.2)
    (record {
      parts = joined bytes (w a.value) a.rest (flat_map w b.0.0) b.0.1 a.takes.parts more.parts;
      rest_fits = more.rest_fits;
      count = ap suc more.count;
      each = (subst (λ k. P c k a.value) (sym more.count) a.takes.allowed, more.each);
    })

pub items_cut : {A C : Type 0} (P : C → ℕ → A → Type 0) (w : A → List ℕ) (item : Item A C) (add : C → A → C) → ((c : C) (n : ℕ) → IsForm (P c n) w (item c n))
    → (xs : List A) (c : C) (k : ℕ) → AreItems P add c xs → k < length (flat_map w xs) → items_at item add (length xs) c (take k (flat_map w xs)) ≡ Err Short
unfolding items_at
items_cut P w item add form [] c k h lt = no_less k lt
items_cut P w item add form (x ∷ xs) c k h lt =
    cut_step (form c (length xs)) x h.0 (λ y. items_at item add (length xs) (add c y.0) y.1 >>= λ ys. Ok (y.0 ∷ ys.0, ys.1)) (flat_map w xs)
    (λ j less. ap (λ z. z >>= λ ys. Ok (x ∷ ys.0, ys.1)) (items_cut P w item add form xs (add c x) j h.1 less))
    k lt

pub items_small : {A C : Type 0} (P : C → ℕ → A → Type 0) (w : A → List ℕ) (item : Item A C) (add : C → A → C) → ((c : C) (n : ℕ) → IsForm (P c n) w (item c n))
    → (xs : List A) (c : C) → AreItems P add c xs → Small (flat_map w xs)
items_small P w item add form [] c h = tt
items_small P w item add form (x ∷ xs) c h = small_step (form c (length xs)) x h.0 (flat_map w xs) (items_small P w item add form xs (add c x) h.1)

pub record Counted {A C : Type 0} (IsCount : ℕ → Type 0) (P : C → ℕ → A → Type 0) (add : C → A → C) (c : C) (xs : List A) : Type 0 where
  pub count : IsCount (length xs)
  pub each : AreItems P add c xs

-- items behind their count
pub counted_items_form : {A C : Type 0} (IsCount : ℕ → Type 0) (wc : ℕ → List ℕ) (rc : List ℕ → Result (ℕ × List ℕ) FieldFault) → IsForm IsCount wc rc
    → (P : C → ℕ → A → Type 0) (w : A → List ℕ) (item : Item A C) (add : C → A → C) → ((c : C) (n : ℕ) → IsForm (P c n) w (item c n)) → (c : C)
    → IsForm (Counted IsCount P add c) (λ xs. wc (length xs) ++ flat_map w xs) (λ bytes. rc bytes >>= λ count. items_at item add count.0 c count.1)
counted_items_form {A} {C} IsCount wc rc count P w item add form c = record {
  again = λ xs rest h.
      again_step count (length xs) h.count (λ n. items_at item add n.0 c n.1) (flat_map w xs) rest _
      (items_again P w item add form xs c rest h.each);
  takes = λ bytes xs rest fits e.
      let n = took count bytes fits (λ n. items_at item add n.0 c n.1) (xs, rest) e in
      let t = items_take P w item add form n.value c n.rest xs rest n.takes.rest_fits n.next in
      record {
        parts = joined bytes (wc (length xs)) n.rest (flat_map w xs) rest (n.takes.parts ∙ ap (λ k. wc k ++ n.rest) (sym t.count)) t.parts;
        rest_fits = t.rest_fits;
        allowed = record { count = subst IsCount (sym t.count) n.takes.allowed; each = t.each };
      };
  cut = λ xs k h lt.
      cut_step count (length xs) h.count (λ n. items_at item add n.0 c n.1) (flat_map w xs)
      (λ j less. items_cut P w item add form xs c j h.each less) k lt;
  small = λ xs h. small_step count (length xs) h.count (flat_map w xs) (items_small P w item add form xs c h.each);
}

-- ---- items that follow each other

abbrev pub Follows : {K : Type 0} → (K → K → Type 0) → Option K → K → Type 0
Follows Rel None k = Unit {0}
Follows Rel (Some before) k = Rel before k

-- an item that follows the one before it
pub record Next {A K : Type 0} (Rel : K → K → Type 0) (key : A → K) (Each : A → Type 0) (before : Option K) (after : ℕ) (x : A) : Type 0 where
  pub follows : Follows Rel before (key x)
  pub each : Each x

abbrev pub last_key : {A K : Type 0} → (A → K) → Option K → A → Option K
last_key key before x = Some (key x)

pub weaker : {A : Type 0} (P Q : A → Type 0) → ((x : A) → P x → Q x) → (xs : List A) → AllByRecursion P xs → AllByRecursion Q xs
weaker P Q f [] h = tt
weaker P Q f (x ∷ xs) h = (f x h.0, weaker P Q f xs h.1)

all_follow : {A K : Type 0} (Rel : K → K → Type 0) (key : A → K) (Each : A → Type 0) → ((a b c : K) → Rel a b → Rel b c → Rel a c)
    → (b : K) (xs : List A) → AreItems (Next Rel key Each) (last_key key) (Some b) xs → AllByRecursion (λ x. Rel b (key x)) xs
all_follow Rel key Each trans b [] h = tt
all_follow Rel key Each trans b (x ∷ xs) h =
    (h.0.follows, weaker (λ y. Rel (key x) (key y)) (λ y. Rel b (key y)) (λ y r. trans b (key x) (key y) h.0.follows r) xs (all_follow Rel key Each trans (key x) xs h.1))

pub each_pair : {A K : Type 0} (Rel : K → K → Type 0) (key : A → K) (Each : A → Type 0) → ((a b c : K) → Rel a b → Rel b c → Rel a c)
    → (c : Option K) (xs : List A) → AreItems (Next Rel key Each) (last_key key) c xs → AllPairs (λ x y. Rel (key x) (key y)) xs
each_pair Rel key Each trans c [] h = λ i j d lt within. no_less j within
each_pair Rel key Each trans c (x ∷ xs) h =
    AllPairs-cons (λ x y. Rel (key x) (key y)) x xs
    (All-from_recursion (λ y. Rel (key x) (key y)) xs (all_follow Rel key Each trans (key x) xs h.1))
    (each_pair Rel key Each trans (Some (key x)) xs h.1)

pub each_item : {A K : Type 0} (Rel : K → K → Type 0) (key : A → K) (Each : A → Type 0) (c : Option K) (xs : List A)
    → AreItems (Next Rel key Each) (last_key key) c xs → AllByRecursion Each xs
each_item Rel key Each c [] h = tt
each_item Rel key Each c (x ∷ xs) h = (h.0.each, each_item Rel key Each (Some (key x)) xs h.1)

abbrev FirstFollows : {A K : Type 0} → (K → K → Type 0) → (A → K) → Option K → List A → Type 0
FirstFollows Rel key c [] = Unit {0}
FirstFollows Rel key c (x ∷ xs) = Follows Rel c (key x)

pub first_of_pairs : {A K : Type 0} (Rel : K → K → Type 0) (key : A → K) (x : A) (xs : List A) → AllPairs (λ x y. Rel (key x) (key y)) (x ∷ xs) → FirstFollows Rel key (Some (key x)) xs
first_of_pairs Rel key x [] h = tt
first_of_pairs Rel key x (y ∷ ys) h = h 0 1 x (omega arith) (omega arith)

pub later_pairs : {A : Type 0} (R : A → A → Type 0) (x : A) (xs : List A) → AllPairs R (x ∷ xs) → AllPairs R xs
later_pairs R x xs h = λ i j d lt within. h (suc i) (suc j) d (omega arith) (omega arith)

pub items_from_pairs : {A K : Type 0} (Rel : K → K → Type 0) (key : A → K) (Each : A → Type 0) (c : Option K) (xs : List A)
    → FirstFollows Rel key c xs → AllPairs (λ x y. Rel (key x) (key y)) xs → AllByRecursion Each xs → AreItems (Next Rel key Each) (last_key key) c xs
items_from_pairs Rel key Each c [] first pairs each = tt
items_from_pairs Rel key Each c (x ∷ xs) first pairs each = (
  record { follows = first; each = each.0 },
  items_from_pairs Rel key Each (Some (key x)) xs (first_of_pairs Rel key x xs pairs) (later_pairs (λ x y. Rel (key x) (key y)) x xs pairs) each.1,
)

pub items_from_none : {A K : Type 0} (Rel : K → K → Type 0) (key : A → K) (Each : A → Type 0) (xs : List A)
    → AllPairs (λ x y. Rel (key x) (key y)) xs → AllByRecursion Each xs → AreItems (Next Rel key Each) (last_key key) None xs
items_from_none Rel key Each [] pairs each = tt
items_from_none Rel key Each (x ∷ xs) pairs each = items_from_pairs Rel key Each None (x ∷ xs) tt pairs each
