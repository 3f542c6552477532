-- The order of keys.
use Rattle.std.proofs.Common.{◌≡◌, ℕ, ◌+◌, true, false, arith, max, subst}
use Rattle.std.proofs.lemmas.Bool.Decides.{nat_tests}
use Rattle.cluster_types.specs.declared.cluster_key.ClusterKey.{ClusterKey}
use Rattle.cluster_types.specs.ClusterKeys.{IsBelow, key_lt, none}
use Rattle.node_rules.specs.Keys.{same_key}
use Rattle.key_laws.specs.Order.{KeyAtMost}

pub at_most_refl : (a : ClusterKey) → KeyAtMost a a
at_most_refl a = omega arith

pub at_most_none : (a : ClusterKey) → KeyAtMost none a
at_most_none a = omega arith

pub at_most_eq : {a b : ClusterKey} → a ≡ b → KeyAtMost a b
at_most_eq {a} {b} e = subst (KeyAtMost a) e (at_most_refl a)

pub at_most_trans : {a b c : ClusterKey} → KeyAtMost a b → KeyAtMost b c → KeyAtMost a c
at_most_trans {a} {b} {c} p q = omega arith

pub below_at_most : {a b : ClusterKey} → IsBelow a b → KeyAtMost a b
below_at_most {a} {b} p = omega arith

pub at_most_below : {a b c : ClusterKey} → KeyAtMost a b → IsBelow b c → IsBelow a c
at_most_below {a} {b} {c} p q = omega arith

pub not_below : {a b : ClusterKey} → IsBelow a b → KeyAtMost b a → ⊥
not_below {a} {b} p q = grind arith

pub lt_below : (a b : ClusterKey) → key_lt a b ≡ true → IsBelow a b
lt_below a b p = grind (arith, nat_tests)

pub below_lt : (a b : ClusterKey) → IsBelow a b → key_lt a b ≡ true
below_lt a b p = grind (arith, nat_tests)

pub lt_at_most : (a b : ClusterKey) → key_lt a b ≡ false → KeyAtMost b a
lt_at_most a b p = grind (arith, nat_tests)

pub at_most_lt : (a b : ClusterKey) → KeyAtMost b a → key_lt a b ≡ false
at_most_lt a b p = grind (arith, nat_tests)

pub same_is : (a b : ClusterKey) → same_key a b ≡ true → a ≡ b
same_is a b e = grind (arith, nat_tests)

pub same_self : (a : ClusterKey) → same_key a a ≡ true
same_self a = grind (arith, nat_tests)

pub below_next : (a : ClusterKey) (n s : ℕ) → IsBelow a (record { round = max a.round s + 1; principal = n })
below_next a n s = omega arith

pub neither_lt : (a b : ClusterKey) → key_lt a b ≡ false → key_lt b a ≡ false → a ≡ b
neither_lt a b p q = grind (arith, nat_tests)
