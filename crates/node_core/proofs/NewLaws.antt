-- A node to which nothing has happened.
use Rattle.std.proofs.Common.{◌≡◌, ◌<◌, ◌^◌, ℕ, false, true, List, Option, None, All, inl, refl, sym, ap, subst}
use Rattle.std.specs.Prelude.{Contains, nat_lt}
use Rattle.std.specs.Cmp.Lexicographic.{slice_cmp}
use Rattle.std.specs.FinMap as finite
use Rattle.std.specs.Ordering.{nat_cmp}
use Rattle.std.specs.Option.{ForSome}
use Rattle.std.proofs.lemmas.List.{length-replicate}
use Rattle.std.proofs.lemmas.List.Elements.{All-nil}
use Rattle.std.proofs.lemmas.List.Sorted.{All-permutation}
use Rattle.conflict_order.specs.declared.policy.Policy.{Policy}
use Rattle.conflict_order.specs.declared.version.Version.{Version}
use Rattle.cluster_types.specs.declared.member.Role.{Role}
use Rattle.cluster_types.specs.Partitions.{partition_count}
use Rattle.partition_lists.specs.Lists.{in_order}
use Rattle.partition_lists.proofs.InOrderLaws.{permutation_in_order}
use Rattle.wire_messages.specs.Nodes.{IsId}
use Rattle.wire_messages.specs.Rows.{IsStateRowField}
use Rattle.wire_messages.specs.Versions.{IsDigest, IsVersion}
use Rattle.node_rules.specs.Bits.{clear_row}
use Rattle.node_rules.specs.Agreement.{no_agreement}
use Rattle.node_rules.specs.Copies.{Stamp, Store, empty_store}
use Rattle.node_rules.specs.Facts.{fresh}
use Rattle.node_rules.specs.Hearing.{deaf}
use Rattle.record_store.specs.Store as held
use Rattle.node_view.specs.declared.list_cache.ListCache.{ListCache}
use Rattle.node_view.specs.Views.{store_of}
use Rattle.node_core.specs.declared.node.Node.TheInside.{Inside}
use Rattle.node_core.specs.Nodes.{node_facts}
use Rattle.node_core.specs.Peers.{ArePeers, IsFactor}
use Rattle.node_steps.specs.Ranges.{HasRanges, HasSpelling, IsStampField, IsStoreField, IsTargetField}
use Rattle.node_rules.proofs.Empty.{no_digests}
use Rattle.node_core.proofs.NodeLaws.{IsNode}
use Rattle.node_steps.proofs.SeenLaws.{none_for, same_store}
use Rattle.node_core.proofs.PeerLaws.{peers_in_order}
use Rattle.node_steps.proofs.RangeLaws.{no_writes_counted}

nothing_held : (by : Policy) → IsStoreField (empty_store by)
nothing_held by = record {
  digests = subst (All IsDigest) (sym no_digests) (All-nil IsDigest);
  versions = λ digest. subst (λ (o : Option Version). ForSome o IsVersion) (sym (finite.get-empty (slice_cmp nat_cmp) digest)) (none_for IsVersion);
  stamps = λ p. subst (λ (o : Option Stamp). ForSome o IsStampField) (sym (finite.get-empty nat_cmp p)) (none_for IsStampField);
}

-- what it sends has a spelling
fresh_ranges : (me : ℕ) (role : Role) (peers : List ℕ) (factor : ℕ) (by : Policy) → IsId me → All IsId peers → role.rack < 2 ^ 8 → HasRanges (fresh me role peers factor by)
unfolding clear_row
fresh_ranges me role peers factor by id ids rack = record {
  me = id;
  peers = All-permutation IsId peers (in_order nat_lt peers) (permutation_in_order nat_lt peers) ids;
  rack = rack;
  promised = inl refl;
  proposed = λ p e. cc;
  view = λ v e. cc;
  rows = All-nil (λ r. IsStateRowField r.row);
  store = nothing_held by;
  writes = no_writes_counted;
  transactions = All-nil HasSpelling;
  batches = All-nil IsTargetField;
  bits = record { handed = length-replicate partition_count false; settled = length-replicate partition_count false };
}

-- ---- the node

-- a node that is made with that store
abbrev pub made : ℕ → Role → List ℕ → ℕ → Policy → held.StoreWithRoom → ListCache → Inside
made me role peers factor by store lists = record {
  me = me;
  peers = in_order nat_lt peers;
  factor = factor;
  role = role;
  by = by;
  up = true;
  hearing = record { me = me; role = role; hearing = deaf };
  agree = record { me = me; agreement = no_agreement };
  store = store;
  view = None;
  lists = lists;
  planned = None;
}

made_facts : (me : ℕ) (role : Role) (peers : List ℕ) (factor : ℕ) (by : Policy) (store : held.StoreWithRoom) (lists : ListCache) → held.IsNewStore by store
    → node_facts (made me role peers factor by store lists) ≡ fresh me role peers factor by
made_facts me role peers factor by store lists new =
    ap (λ (s : Store). record (fresh me role peers factor by) { store = s })
    (same_store (store_of store) finite.empty finite.empty by new.versions new.stamps new.policy)

-- it is a node to which nothing has happened
pub that_is_new : (me : ℕ) (role : Role) (peers : List ℕ) (factor : ℕ) (by : Policy) (store : held.StoreWithRoom) (lists : ListCache)
    → ArePeers me peers → IsFactor factor → IsId me → All IsId peers → role.rack < 2 ^ 8 → held.IsNewStore by store
    → IsNode (made me role peers factor by store lists)
that_is_new me role peers factor by store lists others replicas id ids rack new =
    let same = made_facts me role peers factor by store lists new in (
      record {
        peers = peers_in_order me peers others;
        factor = replicas;
        hearing = refl;
        heard = All-nil (λ m. Contains (in_order nat_lt peers) m);
        role = refl;
        agree = refl;
        by = new.policy;
        view = λ v e. cc;
        in_one = λ v e. cc;
        ranges = subst HasRanges (sym same) (fresh_ranges me role peers factor by id ids rack);
      },
      λ p e. cc,
      λ p e. cc,
    )
