-- Which view a node is in, and who its members are.
use Rattle.std.specs.Prelude.{ℕ, ◌==◌, Bool, if◌then◌else◌, List, [], ◌∷◌, fold, Option, Some, None, slice_index}
use Rattle.cluster_types.specs.declared.cluster_key.ClusterKey.{ClusterKey}
use Rattle.cluster_types.specs.declared.member.Member.{Member}
use Rattle.cluster_types.specs.ClusterKeys as keys
pub use Rattle.cluster_types.specs.ClusterKeys.{is_view_key}
use Rattle.partition_lists.specs.Lists as lists
use Rattle.journal_lines.specs.declared.line.Line.{Line}
use Rattle.journal_lines.specs.declared.line.Line.TheVariants as line
use Rattle.journal_readings.specs.Lines.{same_key}

-- ---- a node's keys

abbrev pub promise_step : ℕ → ClusterKey → Line → ClusterKey
promise_step n promised (line.Promise m k) = if m == n then k else promised
promise_step n promised _ = promised

-- the key that the node promised last, or no key
unfoldable pub promised_key : ℕ → List Line → ClusterKey
promised_key n lines = fold (promise_step n) keys.none lines

abbrev pub last_step : ℕ → ClusterKey → Line → ClusterKey
last_step n last (line.Enter m k members) = if m == n then k else last
last_step n last _ = last

-- the key that the node entered last, or no key
unfoldable pub last_key : ℕ → List Line → ClusterKey
last_key n lines = fold (last_step n) keys.none lines

-- a key, where it is one
abbrev pub some_key : ClusterKey → Option ClusterKey
some_key k = if same_key k keys.none then None else Some k

abbrev pub view_step : ℕ → Option ClusterKey → Line → Option ClusterKey
view_step n view (line.Enter m k members) = if m == n then some_key k else view
view_step n view (line.Stop m) = if m == n then None else view
view_step n view _ = view

-- the key of the node's view: the one that it entered last, unless it was stopped since
unfoldable pub view : ℕ → List Line → Option ClusterKey
view n lines = fold (view_step n) None lines

-- whether that is the node's view
abbrev pub is_in_view : ClusterKey → ℕ → List Line → Bool
is_in_view k n lines = is_view_key (view n lines) k

-- ---- the members of a view

-- the members of the view, as its first entry names them; none where nobody has entered
abbrev pub members : ClusterKey → List Line → List Member
members k [] = []
members k (line.Enter n l ms ∷ ls) = if same_key l k then ms else members k ls
members k (_ ∷ ls) = members k ls

-- the list of a partition: its members in the order in which they are to have its records
abbrev pub succession_list : ClusterKey → ℕ → List Line → List ℕ
succession_list k p lines = lists.list (members k lines) p

-- the first of a list, 0 where it is empty
abbrev pub first_of : List ℕ → ℕ
first_of ids = slice_index ids 0

-- the list master
abbrev pub master : ClusterKey → ℕ → List Line → ℕ
master k p lines = first_of (succession_list k p lines)

-- whether the node is a replica: one of the first of the list, as many as the factor says or all
abbrev pub is_replica : ℕ → ClusterKey → ℕ → ℕ → List Line → Bool
is_replica factor k p n lines = lists.is_replica_of n (members k lines) p factor
