-- What a node keeps has its ranges after lines and messages.
use Rattle.std.proofs.Common.{◌≡◌, ℕ, ◌+◌, ◌<◌, ◌≤◌, ◌^◌, ◌==◌, Bool, true, false, List, [], ◌∷◌, ◌++◌, length, Option, refl, arith, if◌then◌else◌}
use Rattle.conflict_order.specs.declared.version.Version.{Version}
use Rattle.conflict_order.specs.declared.want.Want.{Want}
use Rattle.cluster_types.specs.declared.cluster_key.ClusterKey.{ClusterKey}
use Rattle.cluster_types.specs.declared.member.Member.{Member}
use Rattle.cluster_types.specs.Partitions.{partition_count, partition_of}
use Rattle.wire_messages.specs.declared.message.Batch.{Batch}
use Rattle.wire_messages.specs.declared.message.Message.{Message}
use Rattle.wire_messages.specs.declared.message.Message.TheVariants as message
use Rattle.wire_messages.specs.Keys.{IsKeyField}
use Rattle.wire_messages.specs.Proper.{IsProper}
use Rattle.wire_messages.specs.Requests.{IsWant}
use Rattle.wire_messages.specs.Rows.{IsStateRowField}
use Rattle.wire_messages.specs.Versions.{IsDigest, IsVersion, IsOptionVersion}
use Rattle.node_rules.specs.declared.member_row.MemberRow.{MemberRow}
use Rattle.node_rules.specs.Batches.{Target}
use Rattle.node_rules.specs.Copies.{Row, is_of}
use Rattle.node_rules.specs.Facts.{Facts, list_at}
use Rattle.node_rules.specs.Map.{lacks, list_master}
use Rattle.node_rules.specs.Notes as notes
use Rattle.node_rules.specs.Notes.{reached, sent, in_view, own_row, next_nth, count_in}
use Rattle.node_rules.specs.Stamps.{Writes, applies_at, numbers_at, applying, count_at, hearing_write, spoiled}
use Rattle.node_rules.specs.Standing.{is_master, other_replicas, others}
use Rattle.run_laws.specs.Ranges.{FitsWrites, FitsBatch, FitsFacts}
use Rattle.run_laws.specs.Tied.{Each, Among}
use Rattle.run_laws.proofs.RangedBatches.{target_on, target_more, new_targets, acked_targets, sent_targets}
use Rattle.run_laws.proofs.RangedCopies.{version_held, content_joined, held_joined, content_dropped, held_dropped, count_fits, applying_fits, hearing_fits, stamps_with, stamps_without, recounted_fits, spoiled_fits, stamps_changed, stamped_fits, own_row_fits}
use Rattle.run_laws.proofs.RangedTransactions.{transactions_more, none_fit, opening_fits, closing_fits, changing_fits, with_write_fits, answering_fits, acknowledging_fits}

-- ---- more lines

more : (a lines : ℕ) → a ≤ lines → a ≤ lines + 1
more a lines le = omega (arith, le)

writes_more : (lines : ℕ) (w : Writes) → FitsWrites lines w → FitsWrites (lines + 1) w
writes_more lines w h = record { applies = λ p. more (applies_at w p) lines (h.applies p); numbers = λ p. more (length (numbers_at w p)) lines (h.numbers p) }

pub fits_more : (lines : ℕ) (f : Facts) → FitsFacts lines f → FitsFacts (lines + 1) f
fits_more lines f h = record {
  each_row = h.each_row;
  content = h.content;
  stamps = h.stamps;
  writes = writes_more lines f.writes h.writes;
  transactions = transactions_more lines f.transactions h.transactions;
  each_target = λ t a. target_more lines f.store.content t (h.each_target t a);
}

-- ---- lines of the node

no_writes_fit : (lines : ℕ) → FitsWrites lines (record { applies = []; numbers = [] })
no_writes_fit lines = record { applies = λ p. omega arith; numbers = λ p. omega arith }

pub stopped_fits : (lines : ℕ) (f : Facts) → FitsFacts lines f → FitsFacts lines (notes.stopped f)
stopped_fits lines f h = record { each_row = tt; content = h.content; stamps = h.stamps; writes = no_writes_fit lines; transactions = none_fit lines; each_target = λ t a. absurd a }

pub entered_fits : (lines : ℕ) (f : Facts) (k : ClusterKey) (ms : List Member) → FitsFacts lines f → FitsFacts lines (notes.entered f k ms (own_row f))
entered_fits lines f k ms h = record { each_row = (own_row_fits f h.stamps, tt); content = h.content; stamps = h.stamps; writes = no_writes_fit lines; transactions = none_fit lines; each_target = λ t a. absurd a }

pub exchanged_fits : (lines : ℕ) (f : Facts) (k : ClusterKey) → lines < 2 ^ 32 → IsKeyField k → FitsFacts lines f → FitsFacts lines (notes.exchanged f k)
exchanged_fits lines f k lt key h = record {
  each_row = h.each_row;
  content = h.content;
  stamps = stamped_fits f k f.store.stamps partition_count 0 key (λ l p. count_fits lines f.writes (is_master f l) p lt h.writes) h.stamps;
  writes = h.writes;
  transactions = h.transactions;
  each_target = new_targets lines f (others f);
}

pub opened_fits : (lines : ℕ) (f : Facts) (l : List ℕ) (t : ℕ) (d : List ℕ) (w : Want) → t ≡ f.transactions.opened + 1 → IsDigest d → IsWant w → FitsFacts lines f → FitsFacts (lines + 1) (notes.transaction_opened f l t d w)
opened_fits lines f l t d w e digest want h = record {
  each_row = h.each_row;
  content = h.content;
  stamps = h.stamps;
  writes = writes_more lines f.writes h.writes;
  transactions = opening_fits lines f.transactions (notes.opening_transaction f l t d w) (record {
    above = first f.transactions.opened t e;
    number = below f.transactions.opened t e h.transactions.opened;
    digest = digest;
    want = want;
    best = version_held f.store.content d h.content;
    applied = tt;
  }) h.transactions;
  each_target = λ x a. target_more lines f.store.content x (h.each_target x a);
}
  where
    first : (o t : ℕ) → t ≡ o + 1 → 0 < t
    first o t e = omega (arith, e)

    below : (o t : ℕ) → t ≡ o + 1 → o ≤ lines → t ≤ lines + 1
    below o t e le = omega (arith, e, le)

pub closed_fits : (lines : ℕ) (f : Facts) (t : ℕ) → FitsFacts lines f → FitsFacts lines (notes.closed f t)
closed_fits lines f t h = record { each_row = h.each_row; content = h.content; stamps = h.stamps; writes = h.writes; transactions = closing_fits lines f.transactions t h.transactions; each_target = h.each_target }

pub applied_fits : (lines : ℕ) (f : Facts) (k : ClusterKey) (l : List ℕ) (t : ℕ) (d : List ℕ) (v : Version) → lines + 1 < 2 ^ 32 → IsKeyField k → IsDigest d → IsVersion v → FitsFacts lines f → FitsFacts (lines + 1) (notes.write_applied f k l t d v)
applied_fits lines f k l t d v lt key digest fits h = record {
  each_row = h.each_row;
  content = content_joined f.store.by f.store.content d v digest fits h.content;
  stamps = stamps_changed f.store.stamps (partition_of d) _ (λ x r. recounted_fits k (count_at (applying f.writes (partition_of d)) (is_master f l) (partition_of d)) (spoiled k x) key
      (count_fits (lines + 1) (applying f.writes (partition_of d)) (is_master f l) (partition_of d) lt writes) (spoiled_fits k x r)) h.stamps;
  writes = writes;
  transactions = changing_fits (lines + 1) f.transactions t _ (λ x r. with_write_fits (lines + 1) v (next_nth f (partition_of d)) (other_replicas f l) x (omega arith) (next (applies_at f.writes (partition_of d)) (h.writes.applies (partition_of d))) fits r) (transactions_more lines f.transactions h.transactions);
  each_target = λ x a. target_more lines _ x (target_on lines f.store.content _ x (λ e i r. held_joined f.store.by f.store.content d v e r) (h.each_target x a));
}
  where
    writes : FitsWrites (lines + 1) (applying f.writes (partition_of d))
    writes = applying_fits lines f.writes (partition_of d) h.writes

    next : (a : ℕ) → a ≤ lines → a + 1 ≤ lines + 1
    next a le = omega (arith, le)

pub merged_fits : (lines : ℕ) (f : Facts) (k : ClusterKey) (d : List ℕ) (v : Version) → IsDigest d → IsVersion v → FitsFacts lines f → FitsFacts lines (notes.merged f k d v)
merged_fits lines f k d v digest fits h = record {
  each_row = h.each_row;
  content = content_joined f.store.by f.store.content d v digest fits h.content;
  stamps = stamps_changed f.store.stamps (partition_of d) (spoiled k) (λ x r. spoiled_fits k x r) h.stamps;
  writes = h.writes;
  transactions = h.transactions;
  each_target = λ x a. target_on lines f.store.content _ x (λ e i r. held_joined f.store.by f.store.content d v e r) (h.each_target x a);
}

pub learnt_fits : (lines : ℕ) (f : Facts) (k : ClusterKey) (l : List ℕ) (p : ℕ) → lines < 2 ^ 32 → IsKeyField k → FitsFacts lines f → FitsFacts lines (notes.learnt f k l p)
learnt_fits lines f k l p lt key h = record {
  each_row = h.each_row;
  content = h.content;
  stamps = stamps_with f.store.stamps p (k, count_in f l p) (record { key = key; count = count_fits lines f.writes (is_master f l) p lt h.writes }) h.stamps;
  writes = h.writes;
  transactions = h.transactions;
  each_target = h.each_target;
}

-- nothing of the partition is pending
pub dropped_fits : (lines : ℕ) (f : Facts) (p : ℕ) → ((t : Target) → Among f.batches t → (d : List ℕ) → Among t.pending d → is_of p d ≡ false) → FitsFacts lines f → FitsFacts lines (notes.dropped f p)
dropped_fits lines f p off h = record {
  each_row = h.each_row;
  content = content_dropped f.store.content p h.content;
  stamps = stamps_without f.store.stamps p h.stamps;
  writes = h.writes;
  transactions = h.transactions;
  each_target = λ x a. target_on lines f.store.content _ x (λ d i r. held_dropped f.store.content p d (off x a d i) r) (h.each_target x a);
}

-- ---- messages that came

each_last : (rs : List MemberRow) (r : MemberRow) → IsStateRowField r.row → Each (λ (x : MemberRow). IsStateRowField x.row) rs → Each (λ (x : MemberRow). IsStateRowField x.row) (rs ++ r ∷ [])
each_last [] r fits h = (fits, tt)
each_last (x ∷ rs) r fits h = (h.0, each_last rs r fits h.1)

row_fits : (lines : ℕ) (f : Facts) (from : ℕ) (row : Row) (b : Bool) → IsStateRowField row → FitsFacts lines f → FitsFacts lines (notes.row_came f from row b)
row_fits lines f from row false fits h = h
row_fits lines f from row true fits h = record { each_row = go (lacks f.exchange.rows from); content = h.content; stamps = h.stamps; writes = h.writes; transactions = h.transactions; each_target = h.each_target }
  where
    go : (b : Bool) → Each (λ (x : MemberRow). IsStateRowField x.row) (if b then f.exchange.rows ++ record { node = from; row = row } ∷ [] else f.exchange.rows)
    go true = each_last f.exchange.rows (record { node = from; row = row }) fits h.each_row
    go false = h.each_row

ack_fits : (lines : ℕ) (f : Facts) (from number : ℕ) (b : Bool) → FitsFacts lines f → FitsFacts lines (notes.batch_acked f from number b)
ack_fits lines f from number false h = h
ack_fits lines f from number true h = record { each_row = h.each_row; content = h.content; stamps = h.stamps; writes = h.writes; transactions = h.transactions; each_target = acked_targets lines f.store.content f.batches from number h.each_target }

progress_fits : (lines : ℕ) (f : Facts) (from : ℕ) (done handed settled : List Bool) (b : Bool) → FitsFacts lines f → FitsFacts lines (notes.progress_came f from done handed settled b)
progress_fits lines f from done handed settled false h = h
progress_fits lines f from done handed settled true h = record { each_row = h.each_row; content = h.content; stamps = h.stamps; writes = h.writes; transactions = h.transactions; each_target = h.each_target }

counted_fits : (lines : ℕ) (f : Facts) (k : ClusterKey) (l : List ℕ) (p nth : ℕ) (b : Bool) → lines + 1 < 2 ^ 32 → IsKeyField k → FitsFacts lines f → FitsFacts (lines + 1) (notes.write_counted_if f k l p nth b)
counted_fits lines f k l p nth false lt key h = fits_more lines f h
counted_fits lines f k l p nth true lt key h = record {
  each_row = h.each_row;
  content = h.content;
  stamps = stamps_changed f.store.stamps p _ (λ x r. recounted_fits k (count_at (hearing_write f.writes p nth) (is_master f l) p) x key (count_fits (lines + 1) (hearing_write f.writes p nth) (is_master f l) p lt writes) r) h.stamps;
  writes = writes;
  transactions = transactions_more lines f.transactions h.transactions;
  each_target = λ t a. target_more lines f.store.content t (h.each_target t a);
}
  where
    writes : FitsWrites (lines + 1) (hearing_write f.writes p nth)
    writes = hearing_fits lines f.writes p nth h.writes

write_fits : (lines : ℕ) (f : Facts) (from : ℕ) (k : ClusterKey) (nth p : ℕ) (b : Bool) → lines + 1 < 2 ^ 32 → IsKeyField k → FitsFacts lines f → FitsFacts (lines + 1) (notes.write_came f from k nth p b)
write_fits lines f from k nth p false lt key h = fits_more lines f h
write_fits lines f from k nth p true lt key h = counted_fits lines f k (list_at f p) p nth (from == list_master (list_at f p)) lt key h

repl_ack_fits : (lines : ℕ) (f : Facts) (from t : ℕ) (b : Bool) → FitsFacts lines f → FitsFacts lines (notes.write_acked f from t b)
repl_ack_fits lines f from t false h = h
repl_ack_fits lines f from t true h = record { each_row = h.each_row; content = h.content; stamps = h.stamps; writes = h.writes; transactions = acknowledging_fits lines f.transactions from t h.transactions; each_target = h.each_target }

answer_fits : (lines : ℕ) (f : Facts) (from t : ℕ) (v : Option Version) (b : Bool) → IsOptionVersion v → FitsFacts lines f → FitsFacts lines (notes.answer_came f from t v b)
answer_fits lines f from t v false fits h = h
answer_fits lines f from t v true fits h = record { each_row = h.each_row; content = h.content; stamps = h.stamps; writes = h.writes; transactions = answering_fits lines f.store.by f.transactions from t v fits h.transactions; each_target = h.each_target }

pub reached_fits : (lines : ℕ) (f : Facts) (from : ℕ) (m : Message) → lines + 1 < 2 ^ 32 → IsProper m → FitsFacts lines f → FitsFacts (lines + 1) (reached f from m)
reached_fits lines f from (message.State k wants row) lt p h = fits_more lines (notes.row_came f from row (in_view f k)) (row_fits lines f from row (in_view f k) p.1 h)
reached_fits lines f from (message.BatchAck k number) lt p h = fits_more lines (notes.batch_acked f from number (in_view f k)) (ack_fits lines f from number (in_view f k) h)
reached_fits lines f from (message.Progress k wants done handed settled) lt p h = fits_more lines (notes.progress_came f from done handed settled (in_view f k)) (progress_fits lines f from done handed settled (in_view f k) h)
reached_fits lines f from (message.Repl k t nth d v) lt p h = write_fits lines f from k nth (partition_of d) (in_view f k) lt p.0 h
reached_fits lines f from (message.ReplAck k t) lt p h = fits_more lines (notes.write_acked f from t (in_view f k)) (repl_ack_fits lines f from t (in_view f k) h)
reached_fits lines f from (message.Answer k t v) lt p h = fits_more lines (notes.answer_came f from t v (in_view f k)) (answer_fits lines f from t v (in_view f k) p.2 h)
reached_fits lines f from (message.Heartbeat view promised hears role) lt p h = fits_more lines f h
reached_fits lines f from (message.Accept k) lt p h = fits_more lines f h
reached_fits lines f from (message.Refuse k promised) lt p h = fits_more lines f h
reached_fits lines f from _ lt p h = fits_more lines f h

-- ---- messages that were sent

pub sent_fits : (lines : ℕ) (f : Facts) (to : ℕ) (m : Message) → ((b : Batch) → m ≡ message.Batch b → FitsBatch (lines + 1) b) → FitsFacts lines f → FitsFacts (lines + 1) (sent f to m)
sent_fits lines f to (message.Batch b) fits h = let g : FitsFacts (lines + 1) f = fits_more lines f h in record { each_row = g.each_row; content = g.content; stamps = g.stamps; writes = g.writes; transactions = g.transactions; each_target = sent_targets (lines + 1) f.store.content f.batches to b (fits b refl) g.each_target }
sent_fits lines f to (message.Propose k ms) fits h = fits_more lines f h
sent_fits lines f to _ fits h = fits_more lines f h
