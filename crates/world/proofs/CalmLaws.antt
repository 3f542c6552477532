-- When a group is at rest, node by node.
use Rattle.std.proofs.Common.{◌≡◌, ◌==◌, ◌&&◌, ℕ, zero, suc, ◌+◌, Bool, true, false, List, [], ◌∷◌, length, map, filter, Option, Some, None, refl, sym, ap, ap₂, subst, ◌∙◌, arith}
use Rattle.std.specs.Prelude.{nat_lt}
use Rattle.std.specs.List.{list_all}
use Rattle.std.proofs.lemmas.Bool.Decides.{nat_tests}
use Rattle.std.proofs.lemmas.Bool.{and_parts}
use Rattle.cluster_types.specs.declared.cluster_key.ClusterKey.{ClusterKey}
use Rattle.cluster_types.specs.declared.member.Member.{Member}
use Rattle.cluster_types.specs.MembersEqual.{same_members}
use Rattle.cluster_types.specs.Partitions.{partition_count}
use Rattle.partition_lists.specs.Lists.{in_order}
use Rattle.node_rules.specs.Copies.{is_nil}
use Rattle.node_rules.specs.Exchange.{View, is_view}
use Rattle.node_rules.specs.Facts.{Facts, has_exchanged_in, members_of_view, view_key}
use Rattle.node_rules.specs.Standing.{has_nothing_to_learn_or_drop, is_at_rest, is_at_rest_of, knows_all_settled}
use Rattle.cluster_rules.specs.Calm.{as_members, is_group_at_rest, share_view, up_in}
use Rattle.cluster_rules.specs.World.{World, is_up, members_now, member_now}
use Rattle.world.specs.Calmness.{rests_in}
use Rattle.world.proofs.OrderLaws.{map_in_order}

-- tests in another order
tests : (exchanged rest viewed same : Bool) → ((exchanged && rest) && (viewed && same)) ≡ ((exchanged && (viewed && same)) && (exchanged && rest))
tests true true viewed same = both (viewed && same)
  where
    both : (b : Bool) → b ≡ (b && true)
    both true = refl
    both false = refl
tests true false viewed same = none (viewed && same)
  where
    none : (b : Bool) → false ≡ (b && false)
    none true = refl
    none false = refl
tests false rest viewed same = refl

-- of a node that runs
rests_both : (key : ClusterKey) (set : List Member) (f : Facts) → f.up ≡ true → rests_in key set f ≡ (has_exchanged_in key set f && is_at_rest_of partition_count f)
rests_both key set f up =
    ap (λ b. (b && is_at_rest f) && (is_view f.exchange.view key && same_members (members_of_view f) set)) up
    ∙ tests f.exchange.exchanged (knows_all_settled f partition_count 0 && (has_nothing_to_learn_or_drop f partition_count 0 && is_nil f.transactions.running)) (is_view f.exchange.view key) (same_members (members_of_view f) set)

mixed : (a b c d : Bool) → ((a && b) && (c && d)) ≡ ((a && c) && (b && d))
mixed true true c d = refl
mixed true false c d = none c
  where
    none : (b : Bool) → false ≡ (b && false)
    none true = refl
    none false = refl
mixed false b c d = refl

-- each passes both tests
all_both : (p q r : ℕ → Bool) (ns : List ℕ) (test : ℕ → Bool) → list_all test ns ≡ true → ((n : ℕ) → test n ≡ true → r n ≡ (p n && q n)) → list_all r ns ≡ (list_all p ns && list_all q ns)
all_both p q r [] test h same = refl
all_both p q r (n ∷ ns) test h same =
    let parts = and_parts (test n) (list_all test ns) h in
    ap₂ (λ a b. a && b) (same n parts.0) (all_both p q r ns test parts.1 same) ∙ mixed (p n) (q n) (list_all p ns) (list_all q ns)

-- those that pass a test pass it
pub all_filtered : (p : ℕ → Bool) (ns : List ℕ) → list_all p (filter p ns) ≡ true
all_filtered p [] = refl
all_filtered p (n ∷ ns) = go (p n) refl (all_filtered p ns)
  where
    go : (b : Bool) → p n ≡ b → list_all p (filter p ns) ≡ true → list_all p (Rattle.std.proofs.Common.cond b (n ∷ filter p ns) (filter p ns)) ≡ true
    go true e h = ap₂ (λ a b. a && b) e h
    go false e h = h

-- the up nodes with their roles, in falling order
pub as_members_are : (w : World) (ns : List ℕ) → members_now w (in_order (λ m n. nat_lt n m) ns) ≡ as_members w ns
as_members_are w ns = sym (map_in_order (member_now w) (λ m n. nat_lt n m) (λ a b. nat_lt b.id a.id) (λ m n. refl) ns)

-- a group of up nodes, the first of which has that key
pub group_rests : (w : World) (group : List ℕ) (n : ℕ) (ns : List ℕ) (key : ClusterKey) (set : List Member) → up_in w group ≡ n ∷ ns → view_key (w.facts n) ≡ key → set ≡ as_members w (up_in w group)
    → list_all (λ m. rests_in key set (w.facts m)) (up_in w group) ≡ is_group_at_rest partition_count w group
group_rests w group n ns key set some first are =
    let up : list_all (is_up w) (up_in w group) ≡ true = all_filtered (is_up w) group in
    all_both (λ m. has_exchanged_in key set (w.facts m)) (λ m. is_at_rest_of partition_count (w.facts m)) (λ m. rests_in key set (w.facts m)) (up_in w group) (is_up w) up (λ m. rests_both key set (w.facts m))
    ∙ ap (λ b. b && list_all (λ m. is_at_rest_of partition_count (w.facts m)) (up_in w group))
    (ap (λ (ms : List ℕ). list_all (λ m. has_exchanged_in key set (w.facts m)) ms) some
    ∙ ap₂ (λ (k : ClusterKey) (s : List Member). list_all (λ m. has_exchanged_in k s (w.facts m)) (n ∷ ns)) (sym first) (are ∙ ap (as_members w) some)
    ∙ sym (ap (share_view w) some))
