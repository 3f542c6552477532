-- Those of a list's ids that pass a test, as those that are up do.
use Rattle.std.proofs.Common.{◌≡◌, ◌≢◌, ℕ, ◌<◌, Bool, List, [], ◌∷◌, All, length, filter, take, get_or, not, Option, Some, None, inl, refl, sym, ap, subst, ◌∙◌, arith, length-take}
use Rattle.std.specs.Prelude.{Contains, nat_lt, slice_get}
use Rattle.std.specs.Option.{option_map}
use Rattle.std.proofs.lemmas.List.{get_or_default}
use Rattle.std.proofs.lemmas.List.Elements.{All-contains, All-filter}
use Rattle.std.proofs.lemmas.List.Filters.{length-filter_both}
use Rattle.std.proofs.lemmas.List.Sorted.{length_permutation}
use Rattle.cluster_types.specs.declared.cluster_key.ClusterKey.{ClusterKey}
use Rattle.cluster_types.specs.declared.member.Member.{Member}
use Rattle.cluster_types.specs.NodeLists.{IsNodeList}
use Rattle.cluster_types.proofs.DistinctLaws.{fresh_next}
use Rattle.partition_lists.specs.Lists.{in_order}
use Rattle.partition_lists.proofs.InOrderLaws.{Has, filter_has, has_at, in_order_has, permutation_in_order}
use Rattle.node_rules.specs.Exchange.{View, exchange_key}
use Rattle.node_rules.specs.Facts.{Facts, view_key, view_members}
use Rattle.cluster_rules.specs.Opening.{declared_nodes}
use Rattle.cluster_rules.specs.World.{is_up}
use Rattle.run_laws.specs.Taken.{Taken}
use Rattle.world.specs.Steps.{RunSoFar, standing}
use Rattle.world.proofs.RunFacts.{known}

-- of those before a place there is room for one more
pub passed_room : (p : ℕ → Bool) (ids : List ℕ) (i : ℕ) → IsNodeList ids → i < length ids → length (filter p (take i ids)) < 16
passed_room p ids i h within = omega (arith, length-filter_both p (λ n. not (p n)) (λ n. refl) (take i ids), length-take i ids, h.limit, within)

-- and the id at the place isn't one of them
pub passed_new : (p : ℕ → Bool) (ids : List ℕ) (i x : ℕ) → IsNodeList ids → i < length ids → x ≡ get_or ids i x → ¬ (Contains (filter p (take i ids)) x)
passed_new p ids i x h within read found =
    All-contains (λ y. y ≢ x) (filter p (take i ids)) x
    (All-filter p (λ y. y ≢ x) (take i ids) (λ k d below same. fresh_next ids i x within read h.distinct (k, below, get_or_default (take i ids) k x d below ∙ same)))
    found
    refl

-- ---- the up nodes of a group

-- the first of a list
pub first_of_list : (xs : List ℕ) (n : ℕ) → Some n ≡ slice_get xs 0 → (ns : List ℕ) × (xs ≡ n ∷ ns)
first_of_list [] n e = cc
first_of_list (x ∷ xs) n e = let same : x ≡ n = cc in (xs, ap (λ (y : ℕ). y ∷ xs) same)

-- whoever is up is declared
pub up_known : (r : RunSoFar) (group up : List ℕ) (n : ℕ) → Taken r.header r.steps → up ≡ filter (is_up (standing r)) group → Has up n → Contains (declared_nodes r.header) n
up_known r group up n taken is h = (known r taken).up n (filter_has (is_up (standing r)) group n (subst (λ (xs : List ℕ). Has xs n) is h)).1

pub first_known : (r : RunSoFar) (group up : List ℕ) (n : ℕ) → Taken r.header r.steps → up ≡ filter (is_up (standing r)) group → Some n ≡ slice_get up 0 → Contains (declared_nodes r.header) n
first_known r group up n taken is first = up_known r group up n taken is (subst (λ (xs : List ℕ). Has xs n) (sym (first_of_list up n first).1) (inl refl))

pub falling_known : (r : RunSoFar) (group up down : List ℕ) → Taken r.header r.steps → up ≡ filter (is_up (standing r)) group → down ≡ in_order (λ m n. nat_lt n m) up → All (Contains (declared_nodes r.header)) down
falling_known r group up down taken is made =
    λ k d within. up_known r group up (get_or down k d) taken is (in_order_has (λ m n. nat_lt n m) up (get_or down k d) (subst (λ (xs : List ℕ). Has xs (get_or down k d)) made (has_at down k d within)))

pub falling_long : (ids : List ℕ) → length (in_order (λ m n. nat_lt n m) ids) ≡ length ids
falling_long ids = length_permutation ids (in_order (λ m n. nat_lt n m) ids) (permutation_in_order (λ m n. nat_lt n m) ids)

-- the key of a node's view
pub key_of_view : (f : Facts) (k : ClusterKey) (set : List Member) → Some (k, set) ≡ view_members f → view_key f ≡ k
key_of_view f k set e = go f.exchange.view e
  where
    go : (o : Option View) → Some (k, set) ≡ option_map {U = ClusterKey × List Member} (λ (v : View). (v.key, v.members)) o → exchange_key o ≡ k
    go None e = cc
    go (Some v) e = let same : (k, set) ≡ (v.key, v.members) = cc in sym (ap (λ (x : ClusterKey × List Member). x.0) same)
