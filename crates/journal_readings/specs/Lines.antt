-- Places in a journal: which line stands there, and which lines stand before and after it.
use Rattle.std.specs.Prelude.{ℕ, ◌==◌, Bool, false, ◌&&◌, if◌then◌else◌, List, [], ◌∷◌, ◌++◌, Option, Some, None, option_map}
use Rattle.cluster_types.specs.declared.cluster_key.ClusterKey.{ClusterKey}
pub use Rattle.cluster_types.specs.ClusterKeys.{same_key}
pub use Rattle.cluster_types.specs.Distinct.{contains as has_node}
use Rattle.journal_lines.specs.declared.line.Line.{Line}
use Rattle.journal_lines.specs.declared.line.Line.TheVariants as line

-- ---- before and after a line

-- the lines before the first that passes the test; nothing where none passes
abbrev pub lines_before : (Line → Bool) → List Line → Option (List Line)
lines_before test [] = None
lines_before test (l ∷ ls) =
    if test l then Some [] else option_map (λ before. l ∷ before) (lines_before test ls)

-- the lines after the first that passes the test; no lines where none passes
abbrev pub lines_after : (Line → Bool) → List Line → List Line
lines_after test [] = []
lines_after test (l ∷ ls) = if test l then ls else lines_after test ls

-- what lines make of a value, one after another, where each is seen with all lines before it
abbrev pub fold_along : {A : Type 0} → (List Line → A → Line → A) → List Line → A → List Line → A
fold_along step before a [] = a
fold_along step before a (l ∷ ls) = fold_along step (before ++ l ∷ []) (step before a l) ls

-- ---- which line it is

-- the node enters the view of this key
abbrev pub is_enter : ClusterKey → ℕ → Line → Bool
is_enter k n (line.Enter m l members) = (m == n) && same_key l k
is_enter k n _ = false

-- the node has finished exchange in it
abbrev pub is_exchanged : ClusterKey → ℕ → Line → Bool
is_exchanged k n (line.Exchanged m l) = (m == n) && same_key l k
is_exchanged k n _ = false

-- the node settles the partition in it
abbrev pub is_settled_line : ClusterKey → ℕ → ℕ → Line → Bool
is_settled_line k n p (line.Settled m l q) = (m == n) && (same_key l k && (q == p))
is_settled_line k n p _ = false

-- each other replica has the write of this transaction of the node in it
abbrev pub is_done_line : ClusterKey → ℕ → ℕ → Line → Bool
is_done_line k n t (line.Done m l u) = (m == n) && (same_key l k && (u == t))
is_done_line k n t _ = false
