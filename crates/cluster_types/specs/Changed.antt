-- Functions with another value at one place.
use Rattle.std.specs.Prelude.{ℕ, ◌==◌, Bool, if◌then◌else◌, List, bytes_eq}
use Rattle.cluster_types.specs.declared.cluster_key.ClusterKey.{ClusterKey}
use Rattle.cluster_types.specs.ClusterKeys.{same_key}

-- the function with that value at the places that are the same as this one
abbrev pub changed : {I A : Type 0} → (I → I → Bool) → (I → A) → I → A → I → A
changed same f i new j = if same i j then new else f j

-- with another value at a number
abbrev pub at_number : {A : Type 0} → (ℕ → A) → ℕ → A → ℕ → A
at_number f n new = changed (λ i j. i == j) f n new

-- with another value at a key
abbrev pub at_key : {A : Type 0} → (ClusterKey → A) → ClusterKey → A → ClusterKey → A
at_key f k new = changed same_key f k new

-- with another value at a digest
abbrev pub at_digest : {A : Type 0} → (List ℕ → A) → List ℕ → A → List ℕ → A
at_digest f d new = changed bytes_eq f d new

-- with another value at a number and a key
abbrev pub at_stay : {A : Type 0} → (ℕ → ClusterKey → A) → ℕ → ClusterKey → A → ℕ → ClusterKey → A
at_stay f n k new = at_number f n (at_key (f n) k new)

-- with another value at a key and a number
abbrev pub at_part : {A : Type 0} → (ClusterKey → ℕ → A) → ClusterKey → ℕ → A → ClusterKey → ℕ → A
at_part f k p new = at_key f k (at_number (f k) p new)

-- with another value at two numbers
abbrev pub at_pair : {A : Type 0} → (ℕ → ℕ → A) → ℕ → ℕ → A → ℕ → ℕ → A
at_pair f m n new = at_number f m (at_number (f m) n new)

-- with another value at a key and a digest
abbrev pub at_record : {A : Type 0} → (ClusterKey → List ℕ → A) → ClusterKey → List ℕ → A
    → ClusterKey → List ℕ → A
at_record f k d new = at_key f k (at_digest (f k) d new)
