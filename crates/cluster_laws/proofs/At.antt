-- Functions changed at one place.
use Rattle.std.proofs.Common.{◌≡◌, ℕ, ◌==◌, Bool, true, false, cond, List, Option, Some, None, refl, sym, ap, ap₂, ◌∙◌, arith, ◌⊎◌, inl, inr, subst}
use Rattle.std.specs.Prelude.{bytes_eq}
use Rattle.std.proofs.lemmas.Bool.Decides.{nat_tests}
use Rattle.cluster_types.specs.declared.cluster_key.ClusterKey.{ClusterKey}
use Rattle.cluster_laws.specs.Changed.{changed, at_number, at_key, at_stay, at_part, at_pair}
use Rattle.cluster_laws.specs.Stay.{Stay}
use Rattle.cluster_laws.specs.Picture.{Seen}
use Rattle.std.proofs.lemmas.Slice.Eq.{bytes_eq-Decides}
pub use Rattle.cluster_types.proofs.BoolFacts.{and_left, and_right, or_cases, and_both}
use Rattle.cluster_types.specs.ClusterKeys.{same_key}

-- the test tells whether two things are the same
pub record Tells {I : Type 0} (test : I → I → Bool) : Type 0 where
  pub here : (i : I) → test i i ≡ true
  pub same : (i j : I) → test i j ≡ true → i ≡ j

pub number_same : (n m : ℕ) → (n == m) ≡ true → n ≡ m
number_same n m e = grind (arith, nat_tests)

pub number_here : (n : ℕ) → (n == n) ≡ true
number_here n = grind (arith, nat_tests)

pub numbers : Tells (λ (i j : ℕ). i == j)
numbers = record { here = number_here; same = number_same }

pub key_same : (k j : ClusterKey) → same_key k j ≡ true → k ≡ j
key_same k j e = ap₂ (λ (r p : ℕ). record { round = r; principal = p }) (number_same k.round j.round (and_left (k.round == j.round) (k.principal == j.principal) e)) (number_same k.principal j.principal (and_right (k.round == j.round) (k.principal == j.principal) e))

pub keys : Tells same_key
keys = record { here = λ k. and_both (k.round == k.round) (k.principal == k.principal) (number_here k.round) (number_here k.principal); same = key_same }

pub digests : Tells bytes_eq
digests = record { here = λ d. (bytes_eq-Decides d d).1 refl; same = λ d e h. (bytes_eq-Decides d e).0 h }

pub differ : {C : Type 0} {b : Bool} → b ≡ true → b ≡ false → C
differ {C} {b} p q = absurd (grind arith)

pub some_same : {A : Type 0} {a b : A} → Some a ≡ Some b → a ≡ b
some_same {A} {a} {b} e = grind arith

pub no_some : {A C : Type 0} {a : A} → None ≡ Some a → C
no_some {A} {C} {a} e = absurd (grind arith)

-- a fact of a changed function, by cases
pub changed_either : {I A : Type 0} {test : I → I → Bool} → Tells test → (P : A → Type 0) (f : I → A) (i : I) (new : A) (j : I) → (i ≡ j → P new) → ((i ≡ j → ⊥) → P (f j)) → P (changed test f i new j)
changed_either {I} {A} {test} t P f i new j here old = go (test i j) refl
  where
    go : (b : Bool) → test i j ≡ b → P (cond b new (f j))
    go true e = here (t.same i j e)
    go false e = old (λ z. differ (ap (test i) (sym z) ∙ t.here i) e)

pub changed_here : {I A : Type 0} {test : I → I → Bool} → Tells test → (f : I → A) (i : I) (new : A) → changed test f i new i ≡ new
changed_here {I} {A} {test} t f i new = ap (λ (b : Bool). cond b new (f i)) (t.here i)

pub changed_other : {I A : Type 0} {test : I → I → Bool} → Tells test → (f : I → A) (i : I) (new : A) (j : I) → (i ≡ j → ⊥) → changed test f i new j ≡ f j
changed_other {I} {A} {test} t f i new j apart = changed_either t (λ a. a ≡ f j) f i new j (λ e. absurd (apart e)) (λ _. refl)

-- what holds everywhere, after a change at one place
pub changed_each : {I A : Type 0} {test : I → I → Bool} → Tells test → (P : I → A → Type 0) (f : I → A) (i : I) (new : A) → P i new → ((j : I) → (i ≡ j → ⊥) → P j (f j)) → (j : I) → P j (changed test f i new j)
changed_each {I} {A} {test} t P f i new here old j = changed_either t (P j) f i new j (λ e. subst (λ (z : I). P z new) e here) (old j)

-- a stay changes
pub each_stay : (P : ℕ → ClusterKey → Stay → Type 0) (f : ℕ → ClusterKey → Stay) (n : ℕ) (k : ClusterKey) (new : Stay)
    → P n k new → ((m : ℕ) (j : ClusterKey) → P m j (f m j)) → (m : ℕ) (j : ClusterKey) → P m j (at_stay f n k new m j)
each_stay P f n k new here old m = changed_each numbers (λ (m : ℕ) (g : ClusterKey → Stay). (j : ClusterKey) → P m j (g j)) f n (at_key (f n) k new)
    (changed_each keys (P n) (f n) k new here (λ j _. old n j)) (λ m _. old m) m

-- a node and a stay of it change
pub each_place : (P : ℕ → ClusterKey → Seen → Stay → Type 0) (node : ℕ → Seen) (stay : ℕ → ClusterKey → Stay) (n : ℕ) (k : ClusterKey) (x : Seen) (s : Stay)
    → P n k x s → ((j : ClusterKey) → (k ≡ j → ⊥) → P n j x (stay n j)) → ((m : ℕ) (j : ClusterKey) → P m j (node m) (stay m j))
    → (m : ℕ) (j : ClusterKey) → P m j (at_number node n x m) (at_stay stay n k s m j)
each_place P node stay n k x s here away old m = go (n == m) refl
  where
    there : (j : ClusterKey) → P n j x (at_key (stay n) k s j)
    there = changed_each keys (λ j. P n j x) (stay n) k s here away

    go : (b : Bool) → (n == m) ≡ b → (j : ClusterKey) → P m j (cond b x (node m)) ((cond b (at_key (stay n) k s) (stay m)) j)
    go true e j = subst (λ (z : ℕ). P z j x (at_key (stay n) k s j)) (number_same n m e) (there j)
    go false e j = old m j

-- a node changes
pub each_node : (P : ℕ → ClusterKey → Seen → Stay → Type 0) (node : ℕ → Seen) (stay : ℕ → ClusterKey → Stay) (n : ℕ) (x : Seen)
    → ((j : ClusterKey) → P n j x (stay n j)) → ((m : ℕ) (j : ClusterKey) → P m j (node m) (stay m j))
    → (m : ℕ) (j : ClusterKey) → P m j (at_number node n x m) (stay m j)
each_node P node stay n x here old m j = changed_each numbers (λ (m : ℕ) (y : Seen). P m j y (stay m j)) node n x (here j) (λ m _. old m j) m

-- what stood in a table stands there still, where the new value is as good
pub number_grows : {A : Type 0} (P : A → Type 0) (f : ℕ → A) (n : ℕ) (new : A) (m : ℕ) → P (f m) → (n ≡ m → P new) → P (at_number f n new m)
number_grows P f n new m old here = changed_either numbers P f n new m here (λ _. old)

pub part_grows : (f : ClusterKey → ℕ → Bool) (k : ClusterKey) (p : ℕ) (j : ClusterKey) (q : ℕ) → f j q ≡ true → at_part f k p true j q ≡ true
part_grows f k p j q e = changed_either keys (λ (g : ℕ → Bool). g q ≡ true) f k (at_number (f k) p true) j
    (λ s. changed_either numbers (λ (b : Bool). b ≡ true) (f k) p true q (λ _. refl) (λ _. subst (λ (z : ClusterKey). f z q ≡ true) (sym s) e)) (λ _. e)

pub part_cases : (f : ClusterKey → ℕ → Bool) (k : ClusterKey) (p : ℕ) (j : ClusterKey) (q : ℕ) → at_part f k p true j q ≡ true → ((k ≡ j) × (p ≡ q)) ⊎ (f j q ≡ true)
part_cases f k p j q = changed_either keys (λ (g : ℕ → Bool). g q ≡ true → ((k ≡ j) × (p ≡ q)) ⊎ (f j q ≡ true)) f k (at_number (f k) p true) j
    (λ s. changed_either numbers (λ (b : Bool). b ≡ true → ((k ≡ j) × (p ≡ q)) ⊎ (f j q ≡ true)) (f k) p true q (λ z _. inl (s, z)) (λ _ e. inr (subst (λ (z : ClusterKey). f z q ≡ true) s e))) (λ _ e. inr e)

pub part_here : (f : ClusterKey → ℕ → Bool) (k : ClusterKey) (p : ℕ) → at_part f k p true k p ≡ true
part_here f k p = ap (λ (g : ℕ → Bool). g p) (changed_here keys f k (at_number (f k) p true)) ∙ changed_here numbers (f k) p true

-- a table of two numbers
pub pair_here : {A : Type 0} (f : ℕ → ℕ → A) (r i : ℕ) (new : A) → at_pair f r i new r i ≡ new
pair_here {A} f r i new = ap (λ (g : ℕ → A). g i) (changed_here numbers f r (at_number (f r) i new)) ∙ changed_here numbers (f r) i new

pub pair_either : {A : Type 0} (P : A → Type 0) (f : ℕ → ℕ → A) (r i : ℕ) (new : A) (q l : ℕ) → (r ≡ q → i ≡ l → P new) → P (f q l) → P (at_pair f r i new q l)
pair_either {A} P f r i new q l here old = changed_either numbers (λ (g : ℕ → A). P (g l)) f r (at_number (f r) i new) q
    (λ s. changed_either numbers P (f r) i new l (here s) (λ _. subst (λ (z : ℕ). P (f z l)) (sym s) old)) (λ _. old)

pub none_or : {A : Type 0} (o : Option A) → ((a : A) → o ≡ Some a → ⊥) → o ≡ None
none_or None h = refl
none_or (Some a) h = absurd (h a refl)

pub number_cases : (a b : ℕ) → (a ≡ b) ⊎ (a ≡ b → ⊥)
number_cases a b = grind arith

cases_by : {I : Type 0} {test : I → I → Bool} → Tells test → (i j : I) → (i ≡ j) ⊎ (i ≡ j → ⊥)
cases_by {I} {test} t i j = go (test i j) refl
  where
    go : (b : Bool) → test i j ≡ b → (i ≡ j) ⊎ (i ≡ j → ⊥)
    go true e = inl (t.same i j e)
    go false e = inr (λ z. differ (ap (test i) (sym z) ∙ t.here i) e)

pub key_cases : (k j : ClusterKey) → (k ≡ j) ⊎ (k ≡ j → ⊥)
key_cases = cases_by keys

pub digest_cases : (d e : List ℕ) → (d ≡ e) ⊎ (d ≡ e → ⊥)
digest_cases = cases_by digests

pub truth : (b : Bool) → (b ≡ true) ⊎ (b ≡ false)
truth true = inl refl
truth false = inr refl

pub stay_here : (f : ℕ → ClusterKey → Stay) (n : ℕ) (k : ClusterKey) (new : Stay) → at_stay f n k new n k ≡ new
stay_here f n k new = ap (λ (g : ClusterKey → Stay). g k) (changed_here numbers f n (at_key (f n) k new)) ∙ changed_here keys (f n) k new
