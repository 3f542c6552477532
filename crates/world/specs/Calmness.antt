-- When a node is at rest in a view.
use Rattle.std.specs.Prelude.{◌&&◌, Bool, List}
use Rattle.cluster_types.specs.declared.cluster_key.ClusterKey.{ClusterKey}
use Rattle.cluster_types.specs.declared.member.Member.{Member}
use Rattle.cluster_types.specs.MembersEqual.{same_members}
use Rattle.node_rules.specs.Exchange.{is_view}
use Rattle.node_rules.specs.Facts.{Facts, members_of_view}
use Rattle.node_rules.specs.Standing.{is_at_rest}

-- whether the node runs and is at rest, in the view of that key, of which these are the members
abbrev pub rests_in : ClusterKey → List Member → Facts → Bool
rests_in key set f =
    (f.up && is_at_rest f) && (is_view f.exchange.view key && same_members (members_of_view f) set)
