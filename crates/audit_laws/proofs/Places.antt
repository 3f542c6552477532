-- The lines of a journal, and those before them, as one line more comes.
use Rattle.std.proofs.Common.{◌≡◌, ℕ, zero, suc, List, [], ◌∷◌, ◌++◌, Some, ◌⊎◌, inl, inr, refl, sym, ap, subst}
use Rattle.std.specs.Prelude.{take, slice_get}
use Rattle.journal_lines.specs.declared.line.Line.{Line}
use Rattle.journal_readings.proofs.AlongLaws.{no_some, some_same}

-- a line that stands in the longer journal stood in the shorter one, or is the last
pub more_cases : (j : List Line) (l : Line) (i : ℕ) (x : Line) → slice_get (j ++ l ∷ []) i ≡ Some x
    → ((slice_get j i ≡ Some x) × (take i (j ++ l ∷ []) ≡ take i j)) ⊎ ((x ≡ l) × (take i (j ++ l ∷ []) ≡ j))
more_cases [] l zero x e = inr (sym (some_same e), refl)
more_cases [] l (suc i) x e = absurd (no_some e)
more_cases (y ∷ j) l zero x e = inl (e, refl)
more_cases (y ∷ j) l (suc i) x e = go (more_cases j l i x e)
  where
    go : ((slice_get j i ≡ Some x) × (take i (j ++ l ∷ []) ≡ take i j)) ⊎ ((x ≡ l) × (take i (j ++ l ∷ []) ≡ j))
        → ((slice_get j i ≡ Some x) × (y ∷ take i (j ++ l ∷ []) ≡ y ∷ take i j)) ⊎ ((x ≡ l) × (y ∷ take i (j ++ l ∷ []) ≡ y ∷ j))
    go (inl h) = inl (h.0, ap (λ (ls : List Line). y ∷ ls) h.1)
    go (inr h) = inr (h.0, ap (λ (ls : List Line). y ∷ ls) h.1)

-- a line of the shorter journal stands in the longer one, behind the same lines
pub stands : (j : List Line) (l : Line) (i : ℕ) (x : Line) → slice_get j i ≡ Some x → (slice_get (j ++ l ∷ []) i ≡ Some x) × (take i (j ++ l ∷ []) ≡ take i j)
stands [] l i x e = absurd (no_some e)
stands (y ∷ j) l zero x e = (e, refl)
stands (y ∷ j) l (suc i) x e = let h : (slice_get (j ++ l ∷ []) i ≡ Some x) × (take i (j ++ l ∷ []) ≡ take i j) = stands j l i x e in (h.0, ap (λ (ls : List Line). y ∷ ls) h.1)

-- the last line
pub last_line : (j : List Line) (l : Line) → (i : ℕ) × (slice_get (j ++ l ∷ []) i ≡ Some l) × (take i (j ++ l ∷ []) ≡ j)
last_line [] l = (0, refl, refl)
last_line (y ∷ j) l = let h : (i : ℕ) × (slice_get (j ++ l ∷ []) i ≡ Some l) × (take i (j ++ l ∷ []) ≡ j) = last_line j l in (suc h.0, h.1, ap (λ (ls : List Line). y ∷ ls) h.2)

pub none_taken : (i : ℕ) → take {A = Line} i [] ≡ []
none_taken zero = refl
none_taken (suc i) = refl

-- a front of the longer journal is one of the shorter, or all of it
pub front_cases : (j : List Line) (l : Line) (i : ℕ) → (take i (j ++ l ∷ []) ≡ take i j) ⊎ (take i (j ++ l ∷ []) ≡ j ++ l ∷ [])
front_cases [] l zero = inl refl
front_cases (y ∷ j) l zero = inl refl
front_cases [] l (suc i) = inr (ap (λ (ls : List Line). l ∷ ls) (none_taken i))
front_cases (y ∷ j) l (suc i) = go (front_cases j l i)
  where
    go : (take i (j ++ l ∷ []) ≡ take i j) ⊎ (take i (j ++ l ∷ []) ≡ j ++ l ∷ []) → (y ∷ take i (j ++ l ∷ []) ≡ y ∷ take i j) ⊎ (y ∷ take i (j ++ l ∷ []) ≡ y ∷ (j ++ l ∷ []))
    go (inl h) = inl (ap (λ (ls : List Line). y ∷ ls) h)
    go (inr h) = inr (ap (λ (ls : List Line). y ∷ ls) h)

-- a front of the shorter journal is one of the longer
pub front_of_more : (j : List Line) (l : Line) (i : ℕ) → (o : ℕ) × (take o (j ++ l ∷ []) ≡ take i j)
front_of_more [] l zero = (0, refl)
front_of_more (y ∷ j) l zero = (0, refl)
front_of_more [] l (suc i) = (0, refl)
front_of_more (y ∷ j) l (suc i) = let h : (o : ℕ) × (take o (j ++ l ∷ []) ≡ take i j) = front_of_more j l i in (suc h.0, ap (λ (ls : List Line). y ∷ ls) h.1)

-- the whole journal is a front of itself
pub whole : (j : List Line) → (i : ℕ) × (take i j ≡ j)
whole [] = (0, refl)
whole (y ∷ j) = let h : (i : ℕ) × (take i j ≡ j) = whole j in (suc h.0, ap (λ (ls : List Line). y ∷ ls) h.1)

-- ---- what holds of each line, seen with those before it

abbrev pub Each : (List Line → Line → Type 0) → List Line → Type 0
Each P j = (i : ℕ) (x : Line) → slice_get j i ≡ Some x → P (take i j) x

pub each-more : (P : List Line → Line → Type 0) (j : List Line) (l : Line) → Each P j → P j l → Each P (j ++ l ∷ [])
each-more P j l h last i x e = go (more_cases j l i x e)
  where
    go : ((slice_get j i ≡ Some x) × (take i (j ++ l ∷ []) ≡ take i j)) ⊎ ((x ≡ l) × (take i (j ++ l ∷ []) ≡ j)) → P (take i (j ++ l ∷ [])) x
    go (inl q) = subst (λ (b : List Line). P b x) (sym q.1) (h i x q.0)
    go (inr q) = subst (λ (b : List Line). P b x) (sym q.1) (subst (P j) (sym q.0) last)

pub each-front : (P : List Line → Line → Type 0) (j : List Line) (l : Line) → Each P (j ++ l ∷ []) → Each P j
each-front P j l h i x e = let q : (slice_get (j ++ l ∷ []) i ≡ Some x) × (take i (j ++ l ∷ []) ≡ take i j) = stands j l i x e in subst (λ (b : List Line). P b x) q.1 (h i x q.0)

pub each-last : (P : List Line → Line → Type 0) (j : List Line) (l : Line) → Each P (j ++ l ∷ []) → P j l
each-last P j l h = let q : (i : ℕ) × (slice_get (j ++ l ∷ []) i ≡ Some l) × (take i (j ++ l ∷ []) ≡ j) = last_line j l in subst (λ (b : List Line). P b l) q.2 (h q.0 l q.1)
