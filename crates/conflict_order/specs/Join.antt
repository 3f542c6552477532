-- Which of two versions remains, and the laws of that choice.
use Rattle.std.specs.Prelude.{◌≡◌, ◌⊎◌, ◌↔◌, false, if◌then◌else◌, Option, Some, None}
use Rattle.std.specs.Ordering.{is_gt}
use Rattle.std.specs.Option.{option_cmp}
use Rattle.conflict_order.specs.declared.policy.Policy.{Policy}
use Rattle.conflict_order.specs.declared.version.Version.{Version}
use Rattle.conflict_order.specs.Order.{version_cmp}

-- the greater version; two that compare equal are the same
abbrev pub greater : Policy → Version → Version → Version
greater by a b = if is_gt (version_cmp by b a) then b else a

-- the greater of two, of which each may be nothing, which is below every version
unfoldable pub join : Policy → Option Version → Option Version → Option Version
join by None b = b
join by (Some a) None = Some a
join by (Some a) (Some b) = Some (greater by a b)

-- what is held after a version came to what was held
unfoldable pub kept : Policy → Option Version → Version → Version
kept by None v = v
kept by (Some held) v = greater by held v

-- the first is at most the second, where nothing is below every version
pub record AtMost (by : Policy) (a b : Option Version) : Type 0 where
  pub not_above : is_gt (option_cmp (version_cmp by) a b) ≡ false

-- `AtMost` is an order
pub record IsOrder (by : Policy) : Type 0 where
  pub reflexive : (a : Option Version) → AtMost by a a
  pub transitive : (a b c : Option Version) → AtMost by a b → AtMost by b c → AtMost by a c
  pub antisymmetric : (a b : Option Version) → AtMost by a b → AtMost by b a → a ≡ b
  pub total : (a b : Option Version) → AtMost by a b ⊎ AtMost by b a
  pub nothing : (a : Option Version) → AtMost by None a

-- the join is the least that is above both, and one of them
pub record IsJoin (by : Policy) : Type 0 where
  pub left : (a b : Option Version) → AtMost by a (join by a b)
  pub right : (a b : Option Version) → AtMost by b (join by a b)
  pub least : (a b c : Option Version) → AtMost by a c → AtMost by b c → AtMost by (join by a b) c
  pub one_of_both : (a b : Option Version) → (join by a b ≡ a) ⊎ (join by a b ≡ b)
  pub commutative : (a b : Option Version) → join by a b ≡ join by b a
  pub associative : (a b c : Option Version) → join by (join by a b) c ≡ join by a (join by b c)
  pub idempotent : (a : Option Version) → join by a a ≡ a
  pub nothing : (a : Option Version) → (join by None a ≡ a) × (join by a None ≡ a)
  pub at_most : (a b : Option Version) → AtMost by a b ↔ (join by a b ≡ b)
