-- What was heard, by the nodes in descending order, and the table that it is.
use Rattle.std.specs.Prelude.{Bool, ◌&&◌, ◌≢◌, ℕ, ◌+◌, ◌<◌, ◌≤◌, nat_lt, List, [], ◌∷◌, ◌++◌, map, filter, length, All}
use Rattle.cluster_types.specs.declared.member.Member.{Member}
use Rattle.cluster_types.specs.ClusterKeys as keys
use Rattle.cluster_types.specs.declared.member.Role.{Role}
use Rattle.cluster_types.specs.Members.{plain_role}
use Rattle.node_rules.specs.Hearing.{Heard, timeout}
use Rattle.node_rules.specs.Tables.{Table, contains}
use Rattle.heartbeat.specs.declared.entries.Entry.{Entry}

-- what stands in the places beyond the last entry, so that a list of entries is one value of sixteen places
abbrev pub unused_entry : Entry
unused_entry = record {
  node = 1;
  age = 0;
  beat = record { view = keys.none; promised = keys.none; hears = []; role = plain_role };
}

-- entries as a table: in rising order, each by what is kept of it
abbrev pub table_by : {X : Type 0} → (Entry → ℕ × X) → List Entry → Table X
table_by g [] = []
table_by g (e ∷ es) = table_by g es ++ g e ∷ []

abbrev pub heard_entry : Entry → ℕ × Heard
heard_entry e = (e.node, record { age = e.age; beat = e.beat })

abbrev pub table_of : List Entry → Table Heard
table_of es = table_by heard_entry es

abbrev pub is_entry_above : ℕ → Entry → Bool
is_entry_above n e = nat_lt n e.node

abbrev pub is_entry_below : ℕ → Entry → Bool
is_entry_below n e = nat_lt e.node n

-- the entries with that one in place of its node's
abbrev pub with_one : List Entry → Entry → List Entry
with_one es new = filter (is_entry_above new.node) es ++ new ∷ filter (is_entry_below new.node) es

abbrev pub still_heard : Entry → Bool
still_heard e = nat_lt (e.age + 1) timeout

abbrev pub one_older : Entry → Entry
one_older e = record e { age = e.age + 1 }

abbrev pub aged_entries : List Entry → List Entry
aged_entries es = map one_older (filter still_heard es)

-- whether the entry's heartbeat says that its sender hears the node
abbrev pub entry_names : ℕ → Entry → Bool
entry_names me e = contains e.beat.hears me

-- whether one above the node hears it, or one below it
abbrev pub names_from_above : ℕ → Entry → Bool
names_from_above me e = is_entry_above me e && entry_names me e

abbrev pub names_from_below : ℕ → Entry → Bool
names_from_below me e = is_entry_below me e && entry_names me e

abbrev pub member_in : Entry → Member
member_in e = record { id = e.node; role = e.beat.role }

-- the nodes fall strictly
abbrev pub Falls : List Entry → Type 0
Falls [] = Unit {0}
Falls (e ∷ es) = All (λ x. x.node < e.node) es × Falls es

-- the other nodes that a node hears
pub record AreHeardBy (me : ℕ) (es : List Entry) : Type 0 where
  pub falls : Falls es
  pub limit : length es ≤ 15
  pub others : All (λ x. x.node ≢ me) es

-- what a node tells itself: that it hears itself
abbrev pub of_itself : ℕ → Role → Entry
of_itself me role = record {
  node = me;
  age = 0;
  beat = record { view = keys.none; promised = keys.none; hears = me ∷ []; role = role };
}
