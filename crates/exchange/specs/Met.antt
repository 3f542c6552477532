-- What a caller sees of an exchange.
use Rattle.std.specs.Prelude.{ℕ, ◌==◌, Bool, false, not, List, Some, filter}
use Rattle.cluster_types.specs.declared.cluster_key.ClusterKey.{ClusterKey}
use Rattle.cluster_types.specs.declared.map_view.MapEntry.{MapEntry}
use Rattle.cluster_types.specs.declared.member.Member.{Member}
use Rattle.partition_lists.specs.Lists.{list}
use Rattle.node_rules.specs.declared.member_row.MemberRow.{MemberRow}
use Rattle.node_rules.specs.Classes as classes
use Rattle.node_rules.specs.Copies.{Row}
use Rattle.node_rules.specs.Exchange.{Exchange, finished, members_of, with_row}
use Rattle.node_rules.specs.Map as map

-- a node with the number of replicas of a partition, and what it knows of its view
pub record Met : Type 0 where
  pub me : ℕ
  pub factor : ℕ
  pub exchange : Exchange

-- a node in a view of those members, with these rows of them
abbrev pub met : ℕ → ℕ → ClusterKey → List Member → List MemberRow → Bool → Met
met me factor key members rows exchanged = record {
  me = me;
  factor = factor;
  exchange =
      record {
        view = Some (record { key = key; members = members });
        rows = rows;
        exchanged = exchanged;
      };
}

-- the members of the view
abbrev pub met_members : Met → List Member
met_members x = members_of x.exchange.view

-- the list of a partition over them
abbrev pub served_list : Met → ℕ → List ℕ
served_list x p = list (met_members x) p

-- who serves the partition
abbrev pub served_entry : Met → ℕ → MapEntry
served_entry x p = map.entry_of (served_list x p) x.exchange.rows p

-- whether a node sends its copy of the partition to another
abbrev pub met_sends_to : Met → ℕ → ℕ → ℕ → Bool
met_sends_to x p from to = classes.sends_to (served_list x p) x.factor x.exchange.rows p from to

-- whom a node asks for their versions of a record of the partition
abbrev pub asked_by : Met → ℕ → ℕ → List ℕ
asked_by x p by = classes.asked_by_rows (served_list x p) x.exchange.rows p by

-- the exchange once that row of a member came
abbrev pub with_row_of : Met → ℕ → Row → Met
with_row_of x from row = record x {
  exchange = record x.exchange { rows = with_row x.exchange.rows from row };
}

-- the finished exchange, once that row came as the last one
abbrev pub finished_with : Met → ℕ → Row → Met
finished_with x from row = record (with_row_of x from row) {
  exchange = finished (with_row_of x from row).exchange;
}

-- the exchange without the row of that member
abbrev pub without_row_of : Met → ℕ → Met
without_row_of x from = record x {
  exchange =
      record x.exchange
      { rows = filter (λ r. not (r.node == from)) x.exchange.rows; exchanged = false };
}
