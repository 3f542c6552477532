-- What a node hands on in a view, as a caller sees it.
use Rattle.std.specs.Prelude.{◌≡◌, ◌≢◌, ◌==◌, ℕ, zero, suc, ◌+◌, ◌<◌, Bool, List, [], ◌++◌, if◌then◌else◌, length, take, map, Option, Some, None, All, AllPairs, IsSome, slice_index}
use Rattle.std.specs.declared.cmp.Ordering.TheVariants.{Less}
use Rattle.std.specs.Ordering.{nat_cmp}
use Rattle.std.specs.Cmp.Lexicographic.{slice_cmp}
use Rattle.std.specs.FinMap.{get}
use Rattle.std.specs.List.{count_by, sum_by}
use Rattle.cluster_types.specs.declared.cluster_key.ClusterKey.{ClusterKey}
use Rattle.cluster_types.specs.declared.member.Member.{Member}
use Rattle.cluster_types.specs.Partitions.{partition_count}
use Rattle.cluster_types.specs.Rows.{bit}
use Rattle.wire_messages.specs.declared.message.Batch.{Batch}
use Rattle.node_rules.specs.Batches.{Target, Targets, batch_limit}
use Rattle.node_rules.specs.Copies.{Content, is_of}
use Rattle.node_rules.specs.Copies as copies

pub record Going : Type 0 where
  -- the key that the batches carry
  pub key : ClusterKey
  -- a target for each other member, in member order
  pub targets : Targets

-- what is seen of a target to which a batch is out
pub record Awaiting : Type 0 where
  -- the digests that it hasn't acknowledged, in rising order
  pub pending : List (List ℕ)
  pub batch : Batch

-- the digests rise strictly
pub record AreRising (ds : List (List ℕ)) : Type 0 where
  pub rising : AllPairs (λ a b. slice_cmp nat_cmp a b ≡ Less) ds

-- the digests of a batch
abbrev pub batch_digests : Batch → List (List ℕ)
batch_digests b = map (λ r. r.0) b.records

-- the batch's digests are the first of those that are pending
pub record IsFirst (pending : List (List ℕ)) (b : Batch) : Type 0 where
  pub some : 0 < length b.records
  pub digests : batch_digests b ≡ take (length b.records) pending

-- the batch that may go to the target next: again the one that is out, or one of the next number
-- with the least digests that are pending, of which there are some
pub record IsNext (key : ClusterKey) (t : Target) (b : Batch) : Type 0 where
  pub out : (o : Batch) → t.out ≡ Some o → b ≡ o
  pub some : t.out ≡ None → t.pending ≢ []
  pub key_of : t.out ≡ None → b.key ≡ key
  pub number : t.out ≡ None → b.number ≡ t.batches + 1
  pub digests : t.out ≡ None → batch_digests b ≡ take batch_limit t.pending

-- each digest that is pending is held
pub record AreHeld (content : Content) (targets : Targets) : Type 0 where
  pub held : All (λ t. All (λ d. IsSome (get content d)) t.pending) targets

-- how many digests of the partition are pending, at all targets together
abbrev pub pending_count : Targets → ℕ → ℕ
pending_count targets p = sum_by (λ t. count_by (is_of p) t.pending) targets

-- the row has just the partitions whose number is 0
pub record IsDoneRow (numbers : List ℕ) (row : List Bool) : Type 0 where
  pub size : length row ≡ partition_count
  pub each : (p : ℕ) → p < partition_count → bit row p ≡ (slice_index numbers p == 0)

-- the numbers say so of each partition
pub record AreCounts (targets : Targets) (numbers : List ℕ) : Type 0 where
  pub at : (p : ℕ) → p < partition_count → slice_index numbers p ≡ pending_count targets p

-- no member has two targets
pub record AreApart (targets : Targets) : Type 0 where
  pub apart : AllPairs (λ t u. t.node ≢ u.node) targets

-- the digests that are held of those of the first n partitions that pass the test, partition by partition
abbrev pub digests_below : Content → (ℕ → Bool) → ℕ → List (List ℕ)
digests_below content test zero = []
digests_below content test (suc n) =
    digests_below content test n ++ (if test n then copies.digests_of content n else [])
