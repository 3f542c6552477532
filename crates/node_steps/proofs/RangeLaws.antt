-- What a node sends keeps its ranges after each step.
use Rattle.std.proofs.Common.{◌≡◌, ◌==◌, ℕ, ◌<◌, ◌^◌, Bool, true, false, not, cond, ◌&&◌, Option, Some, None, List, length, All, IsSome, inr, refl, sym, ap, subst, ◌∙◌, get_or, arith, if◌then◌else◌}
use Rattle.std.proofs.lemmas.List.{length-replicate}
use Rattle.std.proofs.lemmas.List.Elements.{All-filter, All-map, All-nil}
use Rattle.std.proofs.lemmas.List.Kept.{AllPairs-filter}
use Rattle.std.specs.Cmp.Lexicographic.{slice_cmp}
use Rattle.std.specs.Option.{ForSome}
use Rattle.std.specs.Ordering.{nat_cmp}
use Rattle.std.specs.declared.cmp.Ordering.TheVariants.{Less}
use Rattle.cluster_types.specs.ClusterKeys.{key_lt}
use Rattle.cluster_types.specs.Partitions.{partition_count}
use Rattle.cluster_types.specs.declared.cluster_key.ClusterKey.{ClusterKey}
use Rattle.cluster_types.specs.declared.member.Role.{Role}
use Rattle.conflict_order.specs.declared.version.Version.{Version}
use Rattle.node_rules.specs.Agreement as agreement
use Rattle.node_rules.specs.Agreement.{Agreement, Proposal, is_accepted_with, proposes, accepted_by, agreement_entered, promising}
use Rattle.node_rules.specs.Batches.{Target, Targets, acked_out, acking, is_among, without_batch}
use Rattle.node_rules.specs.Bits.{Bits, clear_row}
use Rattle.node_rules.specs.Copies.{Store}
use Rattle.node_rules.specs.Exchange.{Exchange, View, exchange_key}
use Rattle.node_rules.specs.Facts.{Facts, view_key}
use Rattle.node_rules.specs.Hearing.{Hearing}
use Rattle.node_rules.specs.Notes.{started, stopped, with_role}
use Rattle.node_rules.specs.Stamps.{Writes, no_writes}
use Rattle.node_rules.specs.Tables.{changed_if}
use Rattle.node_rules.specs.Transactions.{Transaction, Transactions, acknowledged, acknowledging, awaits_ack, without_transaction}
use Rattle.node_rules.specs.declared.member_row.MemberRow.{MemberRow}
use Rattle.wire_messages.specs.Keys.{IsKeyField, IsKeyOrNone}
use Rattle.wire_messages.specs.Numbers.{IsNumber}
use Rattle.wire_messages.specs.Proper.{IsBatch}
use Rattle.wire_messages.specs.Rows.{IsStateRowField}
use Rattle.wire_messages.specs.Versions.{IsOptionVersion, IsVersion}
use Rattle.wire_messages.specs.declared.message.Batch.{Batch}
use Rattle.node_steps.specs.Ranges.{AreCounted, HasRanges, HasSpelling, IsStoreField, IsTargetField}

-- the keys that a node tells of its agreement have a spelling
pub record HasKeys (a : Agreement) : Type 0 where
  pub promised : IsKeyOrNone a.promised
  pub proposed : ForSome a.proposal (λ p. IsKeyField p.key)

pub keys_of : (f : Facts) → HasRanges f → HasKeys f.agreement
keys_of f r = record { promised = r.promised; proposed = r.proposed }

-- what is heard, and how far the node has come in agreeing
pub ranges_agreed : (f : Facts) (h : Hearing) (a : Agreement) → HasRanges f → HasKeys a → HasRanges (record f { hearing = h; agreement = a })
ranges_agreed f h a r k = record {
  me = r.me;
  peers = r.peers;
  rack = r.rack;
  promised = k.promised;
  proposed = k.proposed;
  view = r.view;
  rows = r.rows;
  store = r.store;
  writes = r.writes;
  transactions = r.transactions;
  batches = r.batches;
  bits = record { handed = r.bits.handed; settled = r.bits.settled };
}

none_is : {X : Type 0} (P : X → Type 0) → ForSome None P
none_is P x e = cc

pub kept_keys : (b : Bool) (o : Option Proposal) → ForSome o (λ p. IsKeyField p.key) → ForSome (if b then o else None) (λ p. IsKeyField p.key)
kept_keys true o h = h
kept_keys false o h = none_is (λ p. IsKeyField p.key)

pub voted_keys : (a : Agreement) (key : ClusterKey) → IsKeyField key → HasKeys a → HasKeys (agreement.voting a key)
voted_keys a key k h = go (key_lt a.promised key)
  where
    go : (b : Bool) → HasKeys (if b then promising a key else a)
    go true = record { promised = inr k; proposed = kept_keys (proposes a.proposal key) a.proposal h.proposed }
    go false = h

accepted_keys : (a : Agreement) (from : ℕ) (b : Bool) → HasKeys a → HasKeys (if b then record a { proposal = accepted_by a.proposal from } else a)
accepted_keys a from true h = record { promised = h.promised; proposed = go a.proposal h.proposed }
  where
    moved : (p x y : Proposal) → y.key ≡ p.key → y ≡ x → IsKeyField p.key → IsKeyField x.key
    moved p x y keyed same k = subst IsKeyField (sym keyed ∙ ap (λ (z : Proposal). z.key) same) k

    go : (o : Option Proposal) → ForSome o (λ p. IsKeyField p.key) → ForSome (agreement.accepted_by o from) (λ p. IsKeyField p.key)
    go None k x e = cc
    go (Some p) k x e = let same : agreement.without_missing p from ≡ x = cc in moved p x (agreement.without_missing p from) refl same (k p refl)
accepted_keys a from false h = h

entered_keys : (a : Agreement) (key : ClusterKey) (b : Bool) → HasKeys a → HasKeys (if b then agreement_entered a key else a)
entered_keys a key true h = record { promised = h.promised; proposed = none_is (λ p. IsKeyField p.key) }
entered_keys a key false h = h

pub counted_keys : (a : Agreement) (from : ℕ) (key : ClusterKey) → HasKeys a → HasKeys (agreement.counting a from key)
counted_keys a from key h =
    entered_keys (agreement.accepting a from key) key (proposes a.proposal key && is_accepted_with a.proposal from)
    (accepted_keys a from (proposes a.proposal key) h)

pub refused_keys : (a : Agreement) (key promised : ClusterKey) → HasKeys a → HasKeys (agreement.refusing a key promised)
refused_keys a key promised h = go (proposes a.proposal key)
  where
    go : (b : Bool) → HasKeys (agreement.seeing (if b then record a { proposal = None } else a) promised)
    go true = record { promised = h.promised; proposed = none_is (λ p. IsKeyField p.key) }
    go false = record { promised = h.promised; proposed = h.proposed }

pub committed_keys : (me : ℕ) (a : Agreement) (key : ClusterKey) (b : Bool) → HasKeys a → HasKeys (if b then agreement_entered a key else a)
committed_keys me a key b h = entered_keys a key b h

-- ---- parts

-- the key of the view has a spelling
pub key_fits : (f : Facts) → IsSome f.exchange.view → HasRanges f → IsKeyField (view_key f)
key_fits f in_one h = go f.exchange.view in_one h.view
  where
    go : (o : Option View) → IsSome o → ForSome o (λ v. IsKeyField v.key)
        → IsKeyField (exchange_key o)
    go None some fit = cc
    go (Some v) some fit = fit v refl

-- what is of a view, and the store
pub ranges_of_parts : (f : Facts) (x : Exchange) (s : Store) (w : Writes) (ts : Transactions) (targets : Targets) (b : Bits) → HasRanges f
    → ForSome x.view (λ v. IsKeyField v.key) → All (λ r. IsStateRowField r.row) x.rows → IsStoreField s → AreCounted w → All HasSpelling ts.running → All IsTargetField targets
    → length b.handed ≡ partition_count → length b.settled ≡ partition_count
    → HasRanges (record f { exchange = x; store = s; writes = w; transactions = ts; batches = targets; bits = b })
ranges_of_parts f x s w ts targets b r view rows store writes transactions batches handed settled = record {
  me = r.me;
  peers = r.peers;
  rack = r.rack;
  promised = r.promised;
  proposed = r.proposed;
  view = view;
  rows = rows;
  store = store;
  writes = writes;
  transactions = transactions;
  batches = batches;
  bits = record { handed = handed; settled = settled };
}

pub ranges_rows : (f : Facts) (rows : List MemberRow) → HasRanges f → All (λ r. IsStateRowField r.row) rows → HasRanges (record f { exchange = record f.exchange { rows = rows } })
ranges_rows f rows r fit =
    ranges_of_parts f (record f.exchange { rows = rows }) f.store f.writes f.transactions f.batches f.bits r r.view fit r.store r.writes r.transactions r.batches r.bits.handed r.bits.settled

pub ranges_store : (f : Facts) (s : Store) → HasRanges f → IsStoreField s → HasRanges (record f { store = s })
ranges_store f s r fit = ranges_of_parts f f.exchange s f.writes f.transactions f.batches f.bits r r.view r.rows fit r.writes r.transactions r.batches r.bits.handed r.bits.settled

pub ranges_transactions : (f : Facts) (ts : Transactions) → HasRanges f → All HasSpelling ts.running → HasRanges (record f { transactions = ts })
ranges_transactions f ts r spelled = ranges_of_parts f f.exchange f.store f.writes ts f.batches f.bits r r.view r.rows r.store r.writes spelled r.batches r.bits.handed r.bits.settled

pub ranges_batches : (f : Facts) (targets : Targets) → HasRanges f → All IsTargetField targets → HasRanges (record f { batches = targets })
ranges_batches f targets r fit = ranges_of_parts f f.exchange f.store f.writes f.transactions targets f.bits r r.view r.rows r.store r.writes r.transactions fit r.bits.handed r.bits.settled

pub ranges_bits : (f : Facts) (b : Bits) → HasRanges f → length b.handed ≡ partition_count → length b.settled ≡ partition_count → HasRanges (record f { bits = b })
ranges_bits f b r handed settled = ranges_of_parts f f.exchange f.store f.writes f.transactions f.batches b r r.view r.rows r.store r.writes r.transactions r.batches handed settled

-- ---- starts and stops

-- the node has another role
pub role_ranges : (f : Facts) (role : Role) → role.rack < 2 ^ 8 → HasRanges f → HasRanges (with_role f role)
role_ranges f role rack r = record {
  me = r.me;
  peers = r.peers;
  rack = rack;
  promised = r.promised;
  proposed = r.proposed;
  view = r.view;
  rows = r.rows;
  store = r.store;
  writes = r.writes;
  transactions = r.transactions;
  batches = r.batches;
  bits = record { handed = r.bits.handed; settled = r.bits.settled };
}

-- the node runs
pub started_ranges : (f : Facts) → HasRanges f → HasRanges (started f)
started_ranges f r = record {
  me = r.me;
  peers = r.peers;
  rack = r.rack;
  promised = r.promised;
  proposed = r.proposed;
  view = r.view;
  rows = r.rows;
  store = r.store;
  writes = r.writes;
  transactions = r.transactions;
  batches = r.batches;
  bits = record { handed = r.bits.handed; settled = r.bits.settled };
}

-- no write is counted
pub no_writes_counted : AreCounted no_writes
no_writes_counted = record { applies = λ p. omega arith; numbers = λ p. All-nil IsNumber }

-- the node is stopped
pub stopped_ranges : (f : Facts) → HasRanges f → HasRanges (stopped f)
unfolding clear_row
stopped_ranges f r = record {
  me = r.me;
  peers = r.peers;
  rack = r.rack;
  promised = r.promised;
  proposed = none_is (λ p. IsKeyField p.key);
  view = none_is (λ v. IsKeyField v.key);
  rows = All-nil (λ x. IsStateRowField x.row);
  store = r.store;
  writes = no_writes_counted;
  transactions = All-nil HasSpelling;
  batches = All-nil IsTargetField;
  bits = record { handed = length-replicate partition_count false; settled = length-replicate partition_count false };
}

-- ---- transactions

acked : (t : Transaction) (from : ℕ) (b : Bool) → HasSpelling t → HasSpelling (changed_if (acknowledged from) t b)
acked t from true h = record { number = h.number; digest = h.digest; want = h.want; best = h.best; applied = h.applied }
acked t from false h = h

acked_one : (t : Transaction) (from : ℕ) (b : Bool) → HasSpelling t → HasSpelling (changed_if (λ x. changed_if (acknowledged from) x (awaits_ack x from)) t b)
acked_one t from true h = acked t from (awaits_ack t from) h
acked_one t from false h = h

pub ranges_acked : (f : Facts) (from number : ℕ) → HasRanges f → HasRanges (record f { transactions = acknowledging f.transactions from number })
ranges_acked f from number r =
    let one : Transaction → Transaction = λ (t : Transaction). changed_if (λ x. changed_if (acknowledged from) x (awaits_ack x from)) t (t.number == number) in
    ranges_transactions f (acknowledging f.transactions from number) r
    (All-map HasSpelling one f.transactions.running (λ k d within. acked_one (get_or f.transactions.running k d) from ((get_or f.transactions.running k d).number == number) (r.transactions k d within)))

pub ranges_closed : (f : Facts) (number : ℕ) → HasRanges f → HasRanges (record f { transactions = without_transaction f.transactions number })
ranges_closed f number r =
    ranges_transactions f (without_transaction f.transactions number) r (All-filter (λ t. not (t.number == number)) HasSpelling f.transactions.running r.transactions)

-- ---- versions

pub option_version : (o : Option Version) → ForSome o IsVersion → IsOptionVersion o
option_version None h = tt
option_version (Some v) h = h v refl

-- ---- batches

acked_out_fits : (t : Target) (number : ℕ) (o : Option Batch) → IsTargetField t → IsTargetField (acked_out t number o)
acked_out_fits t number None h = h
acked_out_fits t number (Some b) h = go (b.number == number)
  where
    go : (same : Bool) → IsTargetField (cond same (without_batch t b) t)
    go true = record { rising = record { rising = AllPairs-filter (λ (x y : List ℕ). slice_cmp nat_cmp x y ≡ Less) (λ d. not (is_among b.records d)) t.pending h.rising.rising }; out = none_is IsBatch }
    go false = h

acked_target : (t : Target) (number : ℕ) (b : Bool) → IsTargetField t → IsTargetField (changed_if (λ x. acked_out x number x.out) t b)
acked_target t number true h = acked_out_fits t number t.out h
acked_target t number false h = h

pub ranges_batch_acked : (f : Facts) (from number : ℕ) → HasRanges f → HasRanges (record f { batches = acking f.batches from number })
ranges_batch_acked f from number r =
    let one : Target → Target = λ (t : Target). changed_if (λ x. acked_out x number x.out) t (t.node == from) in
    ranges_batches f (acking f.batches from number) r
    (All-map IsTargetField one f.batches (λ k d within. acked_target (get_or f.batches k d) number ((get_or f.batches k d).node == from) (r.batches k d within)))
