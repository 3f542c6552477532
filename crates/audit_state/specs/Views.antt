-- What is known of a view.
use Rattle.std.specs.Prelude.{◌≡◌, ℕ, ◌==◌, Bool, List, [], Option, None, nat_eq, option_map, find, is_some}
use Rattle.std.specs.List.{list_any, list_all}
use Rattle.std.specs.HashMap as hash
use Rattle.cluster_types.specs.declared.cluster_key.ClusterKey.{ClusterKey}
use Rattle.cluster_types.specs.declared.member.Member.{Member}
use Rattle.audit_state.specs.declared.views.Partition.{Partition}
use Rattle.audit_state.specs.declared.views.View.{View}
use Rattle.audit_state.specs.declared.views.Write.{Write}
use Rattle.audit_state.specs.Keys.{pair_eq}

-- the place of the member's `enter` line
abbrev pub entry_line : View → ℕ → Option ℕ
entry_line v n = option_map (λ e. e.line) (find (λ e. e.node == n) v.entered.items)

-- whether the member finished exchange
abbrev pub has_exchanged : View → ℕ → Bool
has_exchanged v n = list_any (λ m. m == n) v.exchanged.items

abbrev pub has_every_entry : View → Bool
has_every_entry v = list_all (λ m. is_some (entry_line v m.id)) v.members

abbrev pub partition_at : View → ℕ → Option Partition
partition_at view p = hash.get nat_eq view.partitions p

-- what is known of the node's writes under a transaction number
abbrev pub write_at : View → ℕ → ℕ → Option Write
write_at view n t = hash.get pair_eq view.writes (n, t)

-- nothing is known of the view but its key and its members
pub record IsFreshView (k : ClusterKey) (ms : List Member) (v : View) : Type 0 where
  pub key : v.key ≡ k
  pub members : v.members ≡ ms
  pub ranks : v.ranks ≡ ms
  pub entered : v.entered.items ≡ []
  pub exchanged : v.exchanged.items ≡ []
  pub applied : (r : ℕ) → hash.get nat_eq v.applied r ≡ None
  pub written : v.written.items ≡ []
  pub settled : v.settled.items ≡ []
  pub writes : (n t : ℕ) → write_at v n t ≡ None
  pub partitions : (p : ℕ) → partition_at v p ≡ None

-- the same members entered and finished exchange
pub record SameEntries (old new : View) : Type 0 where
  pub key : new.key ≡ old.key
  pub members : new.members ≡ old.members
  pub ranks : new.ranks ≡ old.ranks
  pub entered : new.entered.items ≡ old.entered.items
  pub exchanged : new.exchanged.items ≡ old.exchanged.items
