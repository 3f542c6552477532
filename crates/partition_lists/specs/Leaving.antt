-- What becomes of a list when a member leaves.
use Rattle.std.specs.Prelude.{◌≡◌, ◌≢◌, ◌==◌, ℕ, ◌⊎◌, List, filter, not, false, IsTrue, Contains, All}
use Rattle.std.specs.Ordering.{is_lt}
use Rattle.cluster_types.specs.declared.member.Member.{Member}
use Rattle.cluster_types.specs.Members.{plain_role}
use Rattle.partition_lists.specs.Ranks.{is_repeat, standing_cmp}

-- the members other than this node
abbrev pub members_without : List Member → ℕ → List Member
members_without members gone = filter (λ m. not (m.id == gone)) members

-- the member is quiesced, has no rack, or isn't the first of its rack
abbrev pub HoldsNoRack : List Member → ℕ → Member → Type 0
HoldsNoRack members p m =
    IsTrue m.role.quiesced ⊎ ((m.role.rack ≡ 0) ⊎ IsTrue (is_repeat members p m))

-- the member isn't this one and isn't quiesced, but has the same rack
pub record SharesRack (m other : Member) : Type 0 where
  pub differs : other.id ≢ m.id
  pub active : other.role.quiesced ≡ false
  pub same_rack : other.role.rack ≡ m.role.rack

-- of those that share the member's rack, the one with the least place and id
pub record IsNextOfRack (members : List Member) (p : ℕ) (m next : Member) : Type 0 where
  pub listed : Contains members next
  pub shares : SharesRack m next
  pub least : All (λ other. SharesRack m other → is_lt (standing_cmp p other next) ≡ false) members

-- no other member shares the member's rack
pub record IsAloneInRack (members : List Member) (m : Member) : Type 0 where
  pub alone : All (λ other. ¬ (SharesRack m other)) members

-- all members have the plain role
pub record AreAllPlain (members : List Member) : Type 0 where
  pub plain : All (λ m. m.role ≡ plain_role) members
