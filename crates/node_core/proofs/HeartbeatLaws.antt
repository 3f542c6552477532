-- The heartbeats of peers, for each of which there is a place.
use Rattle.std.proofs.Common.{◌≡◌, ◌≢◌, ◌⊎◌, ◌≤◌, ◌<◌, ◌==◌, ℕ, Bool, true, false, List, [], ◌∷◌, ◌++◌, length, map, All, Contains, inl, inr, refl, sym, ap, subst, arith}
use Rattle.std.proofs.lemmas.List.{length-map, length-append}
use Rattle.std.proofs.lemmas.List.Elements.{All-append, All-cons, All-head, All-tail}
use Rattle.cluster_types.specs.Distinct.{AreDistinct, IsDescending}
use Rattle.cluster_types.specs.Members.{ids_of, plain_member}
use Rattle.cluster_types.proofs.DistinctLaws.{descending_distinct, distinct_push}
use Rattle.partition_lists.proofs.InOrderLaws.{Has, from_equal, index_of}
use Rattle.node_rules.specs.declared.member_row.MemberRow.{MemberRow}
use Rattle.node_rules.specs.Facts.{Facts}
use Rattle.node_rules.specs.Hearing.{heard_ids}
use Rattle.exchange.specs.Rows.{row_nodes}
use Rattle.exchange.proofs.RowsLaws.{has_of_contains, rows_fit}
use Rattle.node_steps.specs.Fits.{FitsBeat}
use Rattle.node_core.specs.Peers.{ArePeers}
use Rattle.node_steps.proofs.CandidateLaws.{unlike}

-- ---- distinct ids among others

abbrev row_for : ℕ → MemberRow
row_for n = record { node = n; row = [] }

nodes_back : (ns : List ℕ) → row_nodes (map row_for ns) ≡ ns
nodes_back [] = refl
nodes_back (n ∷ ns) = ap (λ (rest : List ℕ). n ∷ rest) (nodes_back ns)

ids_back : (ns : List ℕ) → ids_of (map plain_member ns) ≡ ns
ids_back [] = refl
ids_back (n ∷ ns) = ap (λ (rest : List ℕ). n ∷ rest) (ids_back ns)

listed : (ys xs : List ℕ) → All (Contains ys) xs → All (λ r. Contains (ids_of (map plain_member ys)) r.node) (map row_for xs)
listed ys [] h = λ k d within. absurd (omega (arith, within))
listed ys (x ∷ xs) h =
    All-cons (λ r. Contains (ids_of (map plain_member ys)) r.node) (row_for x) (map row_for xs)
    (subst (λ (ids : List ℕ). Contains ids x) (sym (ids_back ys)) (All-head (Contains ys) x xs h))
    (listed ys xs (All-tail (Contains ys) x xs h))

-- distinct ids that are all among others are no more than these
no_more : (xs ys : List ℕ) → AreDistinct xs → All (Contains ys) xs → length xs ≤ length ys
no_more xs ys distinct among =
    omega (arith, rows_fit (map plain_member ys) (map row_for xs) (subst AreDistinct (sym (nodes_back xs)) distinct) (listed ys xs among), length-map xs row_for, length-map ys plain_member)

has_or : (ns : List ℕ) (n : ℕ) → Has ns n ⊎ ¬ (Has ns n)
has_or [] n = inr (λ found. found)
has_or (m ∷ ns) n = go (m == n) refl (has_or ns n)
  where
    neither : (m == n) ≡ false → ¬ (Has ns n) → Has (m ∷ ns) n → ⊥
    neither is none (inl same) = absurd (unlike m n same is)
    neither is none (inr later) = none later

    go : (b : Bool) → (m == n) ≡ b → Has ns n ⊎ ¬ (Has ns n) → Has (m ∷ ns) n ⊎ ¬ (Has (m ∷ ns) n)
    go true is h = inl (inl (from_equal m n is))
    go false is (inl later) = inl (inr later)
    go false is (inr none) = inr (neither is none)

-- ---- places

room_in : (ids peers : List ℕ) (from : ℕ) → length peers ≤ 15 → AreDistinct ids → All (Contains peers) ids → Contains peers from → Contains ids from ⊎ (length ids < 15)
room_in ids peers from limit distinct among peer = go (has_or ids from)
  where
    go : Has ids from ⊎ ¬ (Has ids from) → Contains ids from ⊎ (length ids < 15)
    go (inl found) = let at = index_of ids from found in inl (at.0, at.1, at.2 from)
    go (inr none) =
        let one : All (Contains peers) (from ∷ []) = All-cons (Contains peers) from [] peer (λ k d within. absurd (omega (arith, within))) in
        inr (omega (
          arith,
          limit,
          length-append ids (from ∷ []),
          no_more (ids ++ from ∷ []) peers (distinct_push ids from distinct (λ found. none (has_of_contains ids from found))) (All-append (Contains peers) ids (from ∷ []) among one),
        ))

other_peer : (me : ℕ) (peers : List ℕ) (from : ℕ) → ArePeers me peers → Contains peers from → from ≢ me
other_peer me peers from h peer same = h.others (subst (Contains peers) same peer)

-- the heartbeat of a peer finds a place, where those that are heard are peers
pub fits_beat : (f : Facts) (from : ℕ) → ArePeers f.me f.peers → All (Contains f.peers) (heard_ids f.hearing.heard) → IsDescending (heard_ids f.hearing.heard) → Contains f.peers from → FitsBeat f from
fits_beat f from peers heard falls peer = record {
  other = other_peer f.me f.peers from peers peer;
  peer = peer;
  room = room_in (heard_ids f.hearing.heard) f.peers from peers.limit (descending_distinct (heard_ids f.hearing.heard) falls) heard peer;
}
