-- The codes of what the facts are made of. A model whose value has facts in it finds the code of the
-- whole by `hlevel facts_codes`.
use Rattle.std.specs.Coded.{Coded, codes}
use Rattle.conflict_order.specs.declared.policy.Policy.{Policy}
use Rattle.conflict_order.specs.declared.version.Version.{Version}
use Rattle.conflict_order.specs.declared.want.Want.{Want}
use Rattle.cluster_types.specs.declared.cluster_key.ClusterKey.{ClusterKey}
use Rattle.cluster_types.specs.declared.copy_state.CopyState.{CopyState}
use Rattle.cluster_types.specs.declared.member.Member.{Member}
use Rattle.cluster_types.specs.declared.member.Role.{Role}
use Rattle.wire_messages.specs.declared.message.Batch.{Batch}
use Rattle.node_rules.specs.declared.beat.Beat.{Beat}
use Rattle.node_rules.specs.declared.member_row.MemberRow.{MemberRow}
use Rattle.conflict_order.specs.contracts.policy.Policy as policy
use Rattle.conflict_order.specs.contracts.version.Version as version
use Rattle.conflict_order.specs.contracts.want.Want as want
use Rattle.cluster_types.specs.contracts.cluster_key.ClusterKey as key
use Rattle.cluster_types.specs.contracts.copy_state.CopyState as copy_state
use Rattle.cluster_types.specs.contracts.member.Member as member
use Rattle.cluster_types.specs.contracts.member.Role as role
use Rattle.wire_messages.specs.contracts.message.Batch as batch
use Rattle.node_rules.specs.contracts.beat.Beat as beat
use Rattle.node_rules.specs.contracts.member_row.MemberRow as member_row
use Rattle.node_rules.specs.Copies.{content_code, stamps_code}

-- the code of a policy
abbrev pub policy_code : Coded Policy
policy_code = policy.the_row.coded

-- the code of a version
abbrev pub version_code : Coded Version
version_code = version.the_row.coded

-- the code of a want
abbrev pub want_code : Coded Want
want_code = want.the_row.coded

-- the code of a cluster key
abbrev pub key_code : Coded ClusterKey
key_code = key.the_row.coded

-- the code of the state of a copy
abbrev pub copy_state_code : Coded CopyState
copy_state_code = copy_state.the_row.coded

-- the code of a member
abbrev pub member_code : Coded Member
member_code = member.the_row.coded

-- the code of a role
abbrev pub role_code : Coded Role
role_code = role.the_row.coded

-- the code of a batch
abbrev pub batch_code : Coded Batch
batch_code = batch.the_row.coded

-- the code of what a heartbeat tells
abbrev pub beat_code : Coded Beat
beat_code = beat.the_row.coded

-- the code of a member's row
abbrev pub member_row_code : Coded MemberRow
member_row_code = member_row.the_row.coded

-- the codes of all of them
pub ruleset facts_codes = (
  codes,
  content_code,
  stamps_code,
  policy_code,
  version_code,
  want_code,
  key_code,
  copy_state_code,
  member_code,
  role_code,
  batch_code,
  beat_code,
  member_row_code,
)
