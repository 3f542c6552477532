-- What a journal says of the run as a whole, and what the script has set by now.
use Rattle.std.specs.Prelude.{ℕ, ◌==◌, nat_lt, Bool, true, false, if◌then◌else◌, List, [], ◌∷◌, fold, filter, filter_map, map, unwrap_or, Option, Some, None}
use Rattle.conflict_order.specs.declared.policy.Policy.{Policy}
use Rattle.conflict_order.specs.declared.policy.Policy.TheVariants.{Time}
use Rattle.cluster_types.specs.declared.member.Member.{Member}
use Rattle.cluster_types.specs.declared.member.Role.{Role}
use Rattle.cluster_types.specs.Members.{plain_role}
use Rattle.partition_lists.specs.Lists.{in_order}
use Rattle.journal_lines.specs.declared.line.Line.{Line}
use Rattle.journal_lines.specs.declared.line.Line.TheVariants as line

-- ---- the header

abbrev pub policy_step : Policy → Line → Policy
policy_step by (line.Policy named) = named
policy_step by _ = by

-- how versions compare: by the policy of the last line that names one, or by time
unfoldable pub policy_of : List Line → Policy
policy_of lines = fold policy_step Time lines

abbrev pub factor_step : ℕ → Line → ℕ
factor_step factor (line.Factor named) = named
factor_step factor _ = factor

-- the replication factor: that of the last line that names one, or 1
unfoldable pub factor_of : List Line → ℕ
factor_of lines = fold factor_step 1 lines

abbrev pub declared_in : Line → Option ℕ
declared_in (line.Node n rack) = Some n
declared_in _ = None

-- the nodes that are declared, in the order of their lines
unfoldable pub nodes : List Line → List ℕ
nodes lines = filter_map declared_in lines

-- ---- what the script has set

abbrev pub clock_step : ℕ → ℕ → Line → ℕ
clock_step n time (line.Clock m t) = if m == n then t else time
clock_step n time _ = time

-- where the node's clock stands: at the time that was set last, or 0
unfoldable pub clock_of : ℕ → List Line → ℕ
clock_of n lines = fold (clock_step n) 0 lines

abbrev pub up_step : ℕ → Bool → Line → Bool
up_step n up (line.Stop m) = if m == n then false else up
up_step n up (line.Start m) = if m == n then true else up
up_step n up _ = up

-- whether the node is up: it hasn't been stopped since it was started last
unfoldable pub is_node_up : ℕ → List Line → Bool
is_node_up n lines = fold (up_step n) true lines

abbrev pub groups_step : Option (List (List ℕ)) → Line → Option (List (List ℕ))
groups_step groups (line.Groups named) = Some named
groups_step groups _ = groups

-- the groups of the network: those that were named last, or one group of all declared nodes
unfoldable pub groups_of : List Line → List (List ℕ)
groups_of lines = unwrap_or (fold groups_step None lines) (nodes lines ∷ [])

-- ---- roles

abbrev pub role_step : ℕ → Role → Line → Role
role_step n role (line.Node m rack) =
    if m == n then record role { rack = unwrap_or rack 0 } else role
role_step n role (line.Quiesce m) = if m == n then record role { quiesced = true } else role
role_step n role (line.Unquiesce m) = if m == n then record role { quiesced = false } else role
role_step n role _ = role

-- the role that the node has by now: the rack of its `node` line, or none, and quiesced where it was marked so
-- and the mark wasn't taken back since
unfoldable pub present_role : ℕ → List Line → Role
present_role n lines = fold (role_step n) plain_role lines

-- the nodes with the roles that they have by now
abbrev pub with_present_roles : List ℕ → List Line → List Member
with_present_roles ids lines = map (λ n. record { id = n; role = present_role n lines }) ids

-- the declared nodes with the roles that they have by now, in the order of their lines
abbrev pub present_members : List Line → List Member
present_members lines = with_present_roles (nodes lines) lines

-- the up nodes of a group with the roles that they have by now, in descending order
abbrev pub up_members : List ℕ → List Line → List Member
up_members group lines =
    in_order (λ m o. nat_lt o.id m.id)
    (with_present_roles (filter (λ n. is_node_up n lines) group) lines)
