-- The order of versions under a conflict policy.
use Rattle.std.specs.Prelude.{◌≡◌, Bool, true, Option, Some, None}
use Rattle.std.specs.declared.cmp.Ordering.{Ordering}
use Rattle.std.specs.declared.cmp.Ordering.TheVariants.{Less, Equal, Greater}
use Rattle.std.specs.Ordering.{nat_cmp, ordering_then, is_gt}
use Rattle.std.specs.Cmp.Lexicographic.{slice_cmp}
use Rattle.conflict_order.specs.declared.policy.Policy.{Policy}
use Rattle.conflict_order.specs.declared.policy.Policy.TheVariants.{Time, Generation}
use Rattle.conflict_order.specs.declared.version.Version.{Version}
use Rattle.conflict_order.specs.declared.version.Body.{Body}
use Rattle.conflict_order.specs.declared.version.Body.TheVariants.{Tombstone, Value}

-- a tombstone is below every value, and values go by their bytes
abbrev pub body_cmp : Body → Body → Ordering
body_cmp Tombstone Tombstone = Equal
body_cmp Tombstone (Value b) = Less
body_cmp (Value a) Tombstone = Greater
body_cmp (Value a) (Value b) = slice_cmp nat_cmp a b

-- the two numbers, the policy's own first
abbrev pub numbers_cmp : Policy → Version → Version → Ordering
numbers_cmp Time a b = ordering_then (nat_cmp a.lut b.lut) (nat_cmp a.generation b.generation)
numbers_cmp Generation a b = ordering_then (nat_cmp a.generation b.generation) (nat_cmp a.lut b.lut)

-- the numbers, and where they are equal the bodies
unfoldable pub version_cmp : Policy → Version → Version → Ordering
version_cmp by a b = ordering_then (numbers_cmp by a b) (body_cmp a.body b.body)

-- the first version is greater than the second
abbrev pub Newer : Policy → Version → Version → Type 0
Newer by a b = version_cmp by a b ≡ Greater

-- whether a version is greater than the one that is held; where none is held, it is
unfoldable pub is_newer : Policy → Version → Option Version → Bool
is_newer by v None = true
is_newer by v (Some held) = is_gt (version_cmp by v held)
