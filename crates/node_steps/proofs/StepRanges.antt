-- What a node may send has a spelling after each step of its view too.
use Rattle.std.proofs.Common.{◌≡◌, ◌≢◌, ◌==◌, ◌<◌, ◌+◌, ℕ, Bool, true, false, if◌then◌else◌, List, [], ◌∷◌, length, get_or, Option, Some, None, All, IsSome, refl, sym, ap, subst, ◌∙◌, arith}
use Rattle.std.proofs.lemmas.List.{length-set}
use Rattle.std.proofs.lemmas.List.Elements.{All-map, All-push}
use Rattle.std.specs.Option.{ForSome}
use Rattle.std.specs.Prelude.{is_some, ◌++◌}
use Rattle.cluster_types.specs.Partitions.{partition_count, partition_of}
use Rattle.cluster_types.specs.declared.cluster_key.ClusterKey.{ClusterKey}
use Rattle.conflict_order.specs.declared.version.Version.{Version}
use Rattle.conflict_order.specs.declared.want.Want.{Want}
use Rattle.cluster_types.proofs.OrRows.{or_length}
use Rattle.emigrate.specs.Going.{AreHeld}
use Rattle.node_rules.specs.Bits as bits
use Rattle.node_rules.specs.Bits.{or_rows, progressing}
use Rattle.node_rules.specs.ByParts.{batches_due, sending_all}
use Rattle.node_rules.specs.Copies.{Row, Store, dropping, is_nil}
use Rattle.node_rules.specs.Exchange.{Exchange, finished, with_row}
use Rattle.node_rules.specs.Facts.{Facts, list_at, view_key}
use Rattle.node_rules.specs.Map.{lacks}
use Rattle.node_rules.specs.Merging.{Record, newer_records, store_merged_all}
use Rattle.node_rules.specs.Notes as notes
use Rattle.node_rules.specs.Notes.{write_applied, closed, count_in, dropped, exchanged, handed, is_for, learnt, next_nth, settled, write_counted}
use Rattle.node_rules.specs.Stamps.{Writes, applies_at, applying, count_at, hearing_write, store_counted, store_learnt, store_merged}
use Rattle.node_rules.specs.Standing.{is_master, other_replicas, others}
use Rattle.node_rules.specs.Tables.{changed_if}
use Rattle.node_rules.specs.Transactions as rules
use Rattle.node_rules.specs.Transactions.{Transaction, answered, answering, awaits_answer, with_write}
use Rattle.node_view.specs.Counts.{greatest_count}
use Rattle.node_view.specs.Plans.{changed_where, replicated, settled_at, settled_by, with_answer, with_count, with_newer, with_opened, with_outcome, facts_with_row}
use Rattle.node_view.specs.declared.here.Settling.{Settling}
use Rattle.node_view.specs.declared.view_step.Counted.{Counted}
use Rattle.node_view.specs.declared.view_step.Outcome.{Outcome}
use Rattle.node_view.specs.declared.view_step.Outcome.TheVariants as outcome
use Rattle.node_view.specs.declared.view_step.Replicated.{Replicated}
use Rattle.wire_messages.specs.Keys.{IsKeyField}
use Rattle.wire_messages.specs.Numbers.{IsNumber}
use Rattle.wire_messages.specs.Proper.{IsBatch}
use Rattle.wire_messages.specs.Requests.{IsWant}
use Rattle.wire_messages.specs.Rows.{IsRow, IsStateRowField}
use Rattle.wire_messages.specs.Versions.{IsDigest, IsOptionVersion, IsRecord, IsVersion}
use Rattle.wire_messages.specs.declared.message.Batch.{Batch}
use Rattle.node_rules.specs.ViewNotes.{stamped_from}
use Rattle.node_steps.specs.Counts.{HaveNumbers}
use Rattle.node_steps.specs.Plans.{with_sent}
use Rattle.node_steps.specs.Ranges.{AreCounted, HasRanges, HasSpelling, IsWriteField}
use Rattle.node_steps.proofs.RangeLaws.{key_fits, ranges_batches, ranges_bits, ranges_closed, ranges_of_parts, ranges_rows, ranges_store, ranges_transactions}
use Rattle.node_steps.proofs.SettledLaws.{settled_exchange}
use Rattle.node_steps.proofs.StoreRanges.{applying_counted, content_fits, count_fits, hearing_counted, joined_version, of_newer, stamped_fits, store_is_applied, store_is_counted, store_is_dropped, store_is_learnt, store_is_merged, store_is_merged_all, store_fits}
use Rattle.node_steps.proofs.TargetRanges.{due_fit, new_targets_fit, sent_targets_fit}

-- ---- rows

pub row_ranges : (f : Facts) (from : ℕ) (row : Row) → IsStateRowField row → HasRanges f → HasRanges (facts_with_row f from row)
row_ranges f from row fit h = ranges_rows f (with_row f.exchange.rows from row) h (go (lacks f.exchange.rows from))
  where
    go : (b : Bool) → All (λ r. IsStateRowField r.row) (if b then f.exchange.rows ++ record { node = from; row = row } ∷ [] else f.exchange.rows)
    go true = All-push (λ r. IsStateRowField r.row) f.exchange.rows (record { node = from; row = row }) h.rows fit
    go false = h.rows

pub last_row_ranges : (f : Facts) (from : ℕ) (row : Row) → IsStateRowField row → IsSome f.exchange.view → HasRanges f → HasRanges (exchanged (facts_with_row f from row) (view_key f))
last_row_ranges f from row fit in_one h =
    let g : Facts = facts_with_row f from row in
    let r : HasRanges g = row_ranges f from row fit h in
    let s : Store = record g.store { stamps = stamped_from g (view_key f) g.store.stamps partition_count 0 } in
    ranges_of_parts g (finished g.exchange) s g.writes g.transactions (notes.own_targets g) g.bits r r.view r.rows
    (store_fits s (content_fits g.store r.store) (stamped_fits g (view_key f) partition_count 0 g.store.stamps (key_fits f in_one h) r.writes r.store.stamps)) r.writes r.transactions
    (new_targets_fit (is_for g) g.store.content (others g)) r.bits.handed r.bits.settled

-- ---- records of other nodes

pub merged_ranges : (f : Facts) (key : ClusterKey) (b : Batch) → IsBatch b → HasRanges f
    → HasRanges (record f { store = store_merged_all f.store key (newer_records f.store.by f.store.content b.records) })
merged_ranges f key b fit h =
    let newer : List Record = newer_records f.store.by f.store.content b.records in
    ranges_store f (store_merged_all f.store key newer) h
    (store_is_merged_all f.store key newer (of_newer IsRecord f.store.by b.records f.store.content fit.records.each) h.store)

-- a write of the list master counts
counted_ranges : (f : Facts) (key : ClusterKey) (l : List ℕ) (p nth : ℕ) → IsNumber nth → HasRanges f → HasRanges (write_counted f key l p nth)
counted_ranges f key l p nth number h =
    let w : Writes = hearing_write f.writes p nth in
    let counted : AreCounted w = hearing_counted f.writes p nth number h.writes in
    let count : ℕ = count_at w (is_master f l) p in
    ranges_of_parts f f.exchange (store_counted f.store key p count) w f.transactions f.batches f.bits h h.view h.rows
    (store_is_counted f.store key p count (count_fits w (is_master f l) p counted) h.store) counted h.transactions h.batches h.bits.handed h.bits.settled

pub replicated_ranges : (f : Facts) (r : Replicated) → IsDigest r.digest → ForSome r.newer IsVersion → ForSome r.counted (λ c. IsNumber c.nth) → HasRanges f
    → HasRanges (replicated f r)
replicated_ranges f r digest newer counted h = with_newer_ranges (with_count f (partition_of r.digest) r.counted) r.newer (with_count_ranges r.counted counted) newer
  where
    with_count_ranges : (o : Option Counted) → ForSome o (λ c. IsNumber c.nth) → HasRanges (with_count f (partition_of r.digest) o)
    with_count_ranges None number = h
    with_count_ranges (Some c) number =
        counted_ranges f (view_key f) (list_at f (partition_of r.digest)) (partition_of r.digest) c.nth (number c refl) h

    with_newer_ranges : (g : Facts) (o : Option Version) → HasRanges g → ForSome o IsVersion → HasRanges (with_newer g r.digest o)
    with_newer_ranges g None fit version = fit
    with_newer_ranges g (Some v) fit version =
        ranges_store g (store_merged g.store (view_key g) r.digest v) fit (store_is_merged g.store (view_key g) r.digest v digest (version v refl) fit.store)

or_size : (a b : List Bool) → length a ≡ partition_count → length b ≡ partition_count → length (or_rows a b) ≡ partition_count
or_size a b la lb = or_length a b (la ∙ sym lb) ∙ la

pub progressed_ranges : (f : Facts) (from : ℕ) (done handed settled : List Bool) → IsRow handed → IsRow settled → HasRanges f
    → HasRanges (record f { bits = progressing f.bits from done handed settled })
progressed_ranges f from done handed settled h_handed h_settled h =
    ranges_bits f (progressing f.bits from done handed settled) h (or_size f.bits.handed handed h.bits.handed h_handed.size) (or_size f.bits.settled settled h.bits.settled h_settled.size)

-- ---- transactions

pub answered_ranges : (f : Facts) (from number : ℕ) (v : Option Version) → IsOptionVersion v → HasRanges f → HasRanges (with_answer f from number v)
answered_ranges f from number v fit h =
    let one : Transaction → Transaction = λ (t : Transaction). changed_if (λ x. changed_if (answered f.store.by from v) x (awaits_answer x from)) t (t.number == number) in
    ranges_transactions f (answering f.store.by f.transactions from number v) h
    (All-map HasSpelling one f.transactions.running (λ k d within. answered_one (get_or f.transactions.running k d) ((get_or f.transactions.running k d).number == number) (h.transactions k d within)))
  where
    answered_it : (t : Transaction) (b : Bool) → HasSpelling t → HasSpelling (changed_if (answered f.store.by from v) t b)
    answered_it t true s = record { number = s.number; digest = s.digest; want = s.want; best = joined_version f.store.by t.best v s.best fit; applied = s.applied }
    answered_it t false s = s

    answered_one : (t : Transaction) (b : Bool) → HasSpelling t → HasSpelling (changed_if (λ x. changed_if (answered f.store.by from v) x (awaits_answer x from)) t b)
    answered_one t true s = answered_it t (awaits_answer t from) s
    answered_one t false s = s

pub opened_ranges : (f : Facts) (digest : List ℕ) (w : Want) (best : Option Version) (asked : List ℕ) → IsDigest digest → IsWant w → IsOptionVersion best
    → f.transactions.opened < greatest_count → HasRanges f → HasRanges (with_opened f digest w best asked)
opened_ranges f digest w best asked d want fit count h =
    let number : ℕ = f.transactions.opened + 1 in
    let t : Transaction = rules.new_transaction number digest w best asked in
    ranges_transactions f (rules.opening f.transactions t) h
    (All-push HasSpelling f.transactions.running t h.transactions
    (record { number = record { positive = omega arith; fits = omega (arith, count) }; digest = d; want = want; best = fit; applied = λ x is. cc }))

-- the version that is written has a spelling
abbrev pub IsOutcomeField : Outcome → Type 0
IsOutcomeField outcome.Read = Unit {0}
IsOutcomeField (outcome.Write w) = IsVersion w.version

pub outcome_ranges : (f : Facts) (number : ℕ) (digest : List ℕ) (o : Outcome) → IsDigest digest → IsOutcomeField o
    → applies_at f.writes (partition_of digest) < greatest_count → HasRanges f → HasRanges (with_outcome f number digest o)
outcome_ranges f number digest outcome.Read d fit count h = ranges_closed f number h
outcome_ranges f number digest (outcome.Write w) d fit count h = go (is_nil w.to)
  where
    p : ℕ
    p = partition_of digest

    l : List ℕ
    l = list_at f p

    g : Facts
    g = write_applied f (view_key f) l number digest w.version

    one : Transaction → Transaction
    one t = changed_if (with_write w.version (next_nth f p) (other_replicas f l)) t (t.number == number)

    written : (t : Transaction) (b : Bool) → HasSpelling t → HasSpelling (changed_if (with_write w.version (next_nth f p) (other_replicas f l)) t b)
    written t true s = record {
      number = s.number;
      digest = s.digest;
      want = s.want;
      best = s.best;
      applied = λ x is. (let same : record { version = w.version; nth = next_nth f p } ≡ x = cc in subst IsWriteField same write);
    }
      where
        write : IsWriteField (record { version = w.version; nth = next_nth f p })
        write = record { version = fit; nth = record { positive = omega arith; fits = omega (arith, count) } }
    written t false s = s

    counted : AreCounted (applying f.writes p)
    counted = applying_counted f.writes p count h.writes

    wrote_it : HasRanges g
    wrote_it =
        ranges_of_parts f f.exchange g.store g.writes g.transactions f.batches f.bits h h.view h.rows
        (store_is_applied f.store (view_key f) digest w.version (count_at (applying f.writes p) (is_master f l) p) d fit (count_fits (applying f.writes p) (is_master f l) p counted) h.store) counted
        (All-map HasSpelling one f.transactions.running (λ k t within. written (get_or f.transactions.running k t) ((get_or f.transactions.running k t).number == number) (h.transactions k t within)))
        h.batches h.bits.handed h.bits.settled

    go : (b : Bool) → HasRanges (if b then closed g number else g)
    go true = ranges_closed g number wrote_it
    go false = wrote_it

-- ---- ticks

handed_ranges : (f : Facts) (p : ℕ) → HasRanges f → HasRanges (handed f p)
handed_ranges f p h = ranges_bits f (bits.handing f.bits p) h (length-set f.bits.handed p true ∙ h.bits.handed) h.bits.settled

settling_ranges : (f : Facts) (p : ℕ) → HasRanges f → HasRanges (settled f p)
settling_ranges f p h = ranges_bits f (bits.settling f.bits p) h h.bits.handed (length-set f.bits.settled p true ∙ h.bits.settled)

learnt_ranges : (f : Facts) (key : ClusterKey) (l : List ℕ) (p : ℕ) → IsKeyField key → HasRanges f → HasRanges (learnt f key l p)
learnt_ranges f key l p k h =
    let count : ℕ = count_in f l p in
    ranges_of_parts f f.exchange (store_learnt f.store key p count) f.writes f.transactions f.batches (bits.learning f.bits p) h h.view h.rows
    (store_is_learnt f.store key p count k (count_fits f.writes (is_master f l) p h.writes) h.store) h.writes h.transactions h.batches h.bits.handed h.bits.settled

dropped_ranges : (f : Facts) (p : ℕ) → HasRanges f → HasRanges (dropped f p)
dropped_ranges f p h = ranges_store f (dropping f.store p) h (store_is_dropped f.store p h.store)

ranges_where : (b : Bool) (change : Facts → Facts) (f : Facts) → ((g : Facts) → HasRanges g → HasRanges (change g)) → HasRanges f → HasRanges (changed_where b change f)
ranges_where true change f kept h = kept f h
ranges_where false change f kept h = h

settled_one : (f : Facts) (s : Settling) → IsSome f.exchange.view → HasRanges f → HasRanges (settled_at f s)
settled_one f s in_one h =
    let p : ℕ = s.partition in
    let key : ClusterKey = view_key f in
    let l : List ℕ = list_at f p in
    ranges_where s.drops (λ g. dropped g p) _ (λ g. dropped_ranges g p)
    (ranges_where s.learns (λ g. learnt g key l p) _ (λ g. learnt_ranges g key l p (key_fits f in_one h))
    (ranges_where s.settles (λ g. settled g p) _ (λ g. settling_ranges g p) (ranges_where s.hands (λ g. handed g p) f (λ g. handed_ranges g p) h)))

pub settled_ranges : (f : Facts) (ss : List Settling) → (ss ≢ [] → IsSome f.exchange.view) → HasRanges f → HasRanges (settled_by f ss)
settled_ranges f [] in_one h = h
settled_ranges f (s ∷ ss) in_one h =
    let seen : IsSome f.exchange.view = in_one (λ e. cc e) in
    settled_ranges (settled_at f s) ss (λ more. ap (λ (x : Exchange). is_some x.view) (settled_exchange f s) ∙ seen) (settled_one f s seen h)

pub sent_ranges : (f : Facts) (bs : List (ℕ × Batch)) → All (λ b. IsBatch b.1) bs → HasRanges f → HasRanges (with_sent f bs)
sent_ranges f bs fit h = ranges_batches f (sending_all f.batches bs) h (sent_targets_fit bs f.batches fit h.batches)

-- the batches that are due have a spelling, where there are numbers for them
pub due_batches_fit : (f : Facts) → IsSome f.exchange.view → AreHeld f.store.content f.batches → HaveNumbers f → HasRanges f
    → All (λ b. IsBatch b.1) (batches_due (view_key f) f.store.content f.batches)
due_batches_fit f in_one held numbers h =
    due_fit (view_key f) f.store.content f.batches (key_fits f in_one h) (content_fits f.store h.store) h.batches held.held numbers.batches
