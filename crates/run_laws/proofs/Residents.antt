-- What a calm world says of each node of a group: which view it is in, and what it knows of each partition.
use Rattle.std.proofs.Common.{◌≡◌, ◌≢◌, ℕ, zero, suc, ◌+◌, ◌<◌, ◌≤◌, ◌==◌, Bool, true, false, not, ◌||◌, List, [], ◌∷◌, map, Option, Some, None, inl, inr, refl, sym, ap, ◌∙◌, subst, arith, ⊎_elim}
use Rattle.std.specs.Prelude.{Contains, nat_lt}
use Rattle.std.specs.List.{list_all}
use Rattle.std.specs.FinMap as finite
use Rattle.cluster_types.specs.declared.cluster_key.ClusterKey.{ClusterKey}
use Rattle.cluster_types.specs.declared.member.Member.{Member}
use Rattle.cluster_types.specs.Members.{ids_of}
use Rattle.cluster_types.specs.MembersEqual.{same_members_decides}
use Rattle.cluster_types.specs.Partitions.{partition_count, partition_of}
use Rattle.partition_lists.proofs.InOrderLaws.{Has, has_at, any_has, map_has, in_order_has, has_filter}
use Rattle.node_rules.specs.Copies.{Store, is_nil, digests_of, holds_of}
use Rattle.node_rules.specs.Exchange.{View, is_view}
use Rattle.node_rules.specs.Facts.{Facts, list_at, members_of_view, view_key, has_exchanged_in}
use Rattle.node_rules.specs.Standing.{knows_settled, knows_all_settled, is_to_learn, is_to_drop, has_nothing_to_learn_or_drop, is_at_rest_of}
use Rattle.node_rules.specs.Tables.{contains}
use Rattle.node_rules.specs.Transactions.{Transaction}
use Rattle.cluster_rules.specs.Calm.{up_in, as_members, share_view, is_group_at_rest, is_calm_of}
use Rattle.cluster_rules.specs.World.{World, is_up, member_now}
use Rattle.cluster_laws.proofs.At.{and_left, and_right, number_same, number_cases, key_same, differ}
use Rattle.run_laws.specs.Tied.{key_in}
use Rattle.run_laws.proofs.Entered.{none_held}

-- ---- lists

pub all_has : {A : Type 0} (test : A → Bool) (xs : List A) (x : A) → list_all test xs ≡ true → Has xs x → test x ≡ true
all_has test [] x e found = absurd found
all_has test (y ∷ xs) x e (inl here) = ap test (sym here) ∙ and_left (test y) _ e
all_has test (y ∷ xs) x e (inr later) = all_has test xs x (and_right (test y) _ e) later

pub has_of : {A : Type 0} (xs : List A) (x : A) → Contains xs x → Has xs x
has_of xs x found = subst (Has xs) found.2 (has_at xs found.0 x found.1)

pub contained : (ns : List ℕ) (n : ℕ) → contains ns n ≡ true → Has ns n
contained ns n e = let x = any_has (λ m. m == n) ns e in subst (Has ns) (number_same x.0 n x.2) x.1

-- ---- of each partition

next : (q p : ℕ) → q ≤ p → q ≢ p → q + 1 ≤ p
next q p above apart = omega (arith, above, apart)

all_settled : (f : Facts) (n q : ℕ) → knows_all_settled f n q ≡ true → (p : ℕ) → q ≤ p → p < q + n → knows_settled f p ≡ true
unfolding knows_all_settled
all_settled f zero q e p above below = absurd (omega (arith, above, below))
all_settled f (suc n) q e p above below = ⊎_elim (λ i. subst (λ (r : ℕ). knows_settled f r ≡ true) i (and_left (knows_settled f q) _ e))
    (λ i. all_settled f n (q + 1) (and_right (knows_settled f q) _ e) p (next q p above i) (omega (arith, below))) (number_cases q p)

none_left : (f : Facts) (n q : ℕ) → has_nothing_to_learn_or_drop f n q ≡ true → (p : ℕ) → q ≤ p → p < q + n → not (is_to_learn f (list_at f p) p || is_to_drop f (list_at f p) p) ≡ true
unfolding has_nothing_to_learn_or_drop
none_left f zero q e p above below = absurd (omega (arith, above, below))
none_left f (suc n) q e p above below = ⊎_elim (λ i. subst (λ (r : ℕ). not (is_to_learn f (list_at f r) r || is_to_drop f (list_at f r) r) ≡ true) i (and_left (not (is_to_learn f (list_at f q) q || is_to_drop f (list_at f q) q)) _ e))
    (λ i. none_left f n (q + 1) (and_right (not (is_to_learn f (list_at f q) q || is_to_drop f (list_at f q) q)) _ e) p (next q p above i) (omega (arith, below))) (number_cases q p)

-- a partition of which no record is held
pub none_of_part : (s : Store) (p : ℕ) (d : List ℕ) → holds_of s.content p ≡ false → partition_of d ≡ p → finite.get s.content d ≡ None
none_of_part s p d e i = none_held s p (empty (digests_of s.content p) e) d i
  where
    empty : (ds : List (List ℕ)) → not (is_nil ds) ≡ false → ds ≡ []
    empty [] h = refl
    empty (x ∷ ds) h = differ refl h

-- ---- a node at rest in a view

pub record Resident (k : ClusterKey) (set : List Member) (f : Facts) : Type 0 where
  pub exchanged : f.exchange.exchanged ≡ true
  pub view : key_in f.exchange.view ≡ Some k
  pub members : members_of_view f ≡ set
  pub settled : (p : ℕ) → p < partition_count → knows_settled f p ≡ true
  pub dropped : (p : ℕ) → p < partition_count → is_to_drop f (list_at f p) p ≡ false
  pub idle : f.transactions.running ≡ []

resident : (k : ClusterKey) (set : List Member) (f : Facts) → has_exchanged_in k set f ≡ true → is_at_rest_of partition_count f ≡ true → Resident k set f
resident k set f e r = record {
  exchanged = and_left f.exchange.exchanged _ e;
  view = in_view f.exchange.view (and_left (is_view f.exchange.view k) _ (and_right f.exchange.exchanged _ e));
  members = (same_members_decides (members_of_view f) set).0 (and_right (is_view f.exchange.view k) _ (and_right f.exchange.exchanged _ e));
  settled = λ p below. all_settled f partition_count 0 (and_left (knows_all_settled f partition_count 0) _ (and_right f.exchange.exchanged _ r)) p (omega arith) (omega (arith, below));
  dropped = λ p below. neither (is_to_learn f (list_at f p) p) _ (none_left f partition_count 0 (and_left (has_nothing_to_learn_or_drop f partition_count 0) _ (and_right (knows_all_settled f partition_count 0) _ (and_right f.exchange.exchanged _ r))) p (omega arith) (omega (arith, below)));
  idle = nothing f.transactions.running (and_right (has_nothing_to_learn_or_drop f partition_count 0) _ (and_right (knows_all_settled f partition_count 0) _ (and_right f.exchange.exchanged _ r)));
}
  where
    in_view : (o : Option View) → is_view o k ≡ true → key_in o ≡ Some k
    in_view None h = differ h refl
    in_view (Some v) h = ap Some (key_same v.key k h)

    neither : (a b : Bool) → not (a || b) ≡ true → b ≡ false
    neither a b h = grind arith

    nothing : (ys : List Transaction) → is_nil ys ≡ true → ys ≡ []
    nothing [] h = refl
    nothing (y ∷ ys) h = differ h refl

-- ---- a group

-- the up nodes of a group are at rest in a view of just them
pub record GroupRests (w : World) (group : List ℕ) : Type 0 where
  pub key : ClusterKey
  pub each : (m : ℕ) → Has (up_in w group) m → Resident key (as_members w (up_in w group)) (w.facts m)

pub group_rests : (w : World) (group : List ℕ) (n : ℕ) → Contains w.network.groups group → Contains group n → is_up w n ≡ true → is_calm_of partition_count w ≡ true → GroupRests w group
group_rests w group n among inside up calm = go (up_in w group) (has_filter (is_up w) group n (has_of group n inside) up) (and_left (share_view w (up_in w group)) _ rest) (and_right (share_view w (up_in w group)) _ rest) (λ k h. record { key = k; each = h })
  where
    rest : is_group_at_rest partition_count w group ≡ true
    rest = all_has (is_group_at_rest partition_count w) w.network.groups group (and_left (list_all (is_group_at_rest partition_count w) w.network.groups) _ calm) (has_of w.network.groups group among)

    go : (ns : List ℕ) → Has ns n → share_view w ns ≡ true → list_all (λ m. is_at_rest_of partition_count (w.facts m)) ns ≡ true
        → ((k : ClusterKey) → ((m : ℕ) → Has ns m → Resident k (as_members w ns) (w.facts m)) → GroupRests w group) → GroupRests w group
    go [] found share rests make = absurd found
    go (a ∷ ns) found share rests make = make (view_key (w.facts a)) (λ m has. resident (view_key (w.facts a)) (as_members w (a ∷ ns)) (w.facts m)
        (all_has (λ m. has_exchanged_in (view_key (w.facts a)) (as_members w (a ∷ ns)) (w.facts m)) (a ∷ ns) m share has) (all_has (λ m. is_at_rest_of partition_count (w.facts m)) (a ∷ ns) m rests has))

-- who is a member is one of the group's up nodes
pub member_up : (w : World) (ns : List ℕ) (m : ℕ) → contains (ids_of (as_members w ns)) m ≡ true → Has ns m
member_up w ns m e =
    let x = map_has (λ (y : Member). y.id) (as_members w ns) m (contained (ids_of (as_members w ns)) m e) in
    let q = map_has (member_now w) ns x.0 (in_order_has (λ a b. nat_lt b.id a.id) (map (member_now w) ns) x.0 x.1) in
    subst (Has ns) (ap (λ (y : Member). y.id) q.2 ∙ x.2) q.1
