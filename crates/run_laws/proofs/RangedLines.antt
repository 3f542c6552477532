-- Ranges go over every line that is due, as long as there are few.
use Rattle.std.proofs.Common.{◌≡◌, ◌⊎◌, ℕ, zero, suc, ◌+◌, ◌<◌, ◌≤◌, ◌^◌, ◌==◌, Bool, true, false, not, List, [], ◌∷◌, length, Option, Some, None, refl, sym, ap, subst, arith, inl, inr, ⊎_elim}
use Rattle.std.specs.Prelude.{slice_get, find, option_map, option_and_then, nat_le, if◌then◌else◌}
use Rattle.std.specs.List.{AllByRecursion, list_any}
use Rattle.std.proofs.lemmas.List.Elements.{recursion_from_All}
use Rattle.conflict_order.specs.declared.version.Version.{Version}
use Rattle.cluster_types.specs.declared.cluster_key.ClusterKey.{ClusterKey}
use Rattle.cluster_types.specs.Partitions.{partition_of}
use Rattle.journal_lines.specs.declared.line.Line.{Line}
use Rattle.journal_lines.specs.declared.line.Line.TheVariants as line
use Rattle.wire_messages.specs.declared.message.Batch.{Batch}
use Rattle.wire_messages.specs.declared.message.Message.{Message}
use Rattle.wire_messages.specs.declared.message.Message.TheVariants as message
use Rattle.wire_messages.specs.Decoding.{message_of}
use Rattle.wire_messages.specs.Keys.{IsKeyField}
use Rattle.wire_messages.specs.Proper.{IsProper, IsBatch}
use Rattle.wire_messages.specs.Versions.{IsDigest, IsVersion, IsRecord}
use Rattle.wire_messages.proofs.DecodingLaws.{what_is_read}
use Rattle.node_rules.specs.Batches.{Target, is_pending}
use Rattle.node_rules.specs.Copies.{is_of}
use Rattle.node_rules.specs.Facts.{Facts, list_at}
use Rattle.node_rules.specs.Notes.{reached, sent, request_want}
use Rattle.node_rules.specs.Standing.{is_to_drop, is_done, has_settled_bit}
use Rattle.node_rules.specs.Transactions.{Transaction}
use Rattle.cluster_rules.specs.Marks.{Begins, Writes, after_line, came, came_to_client, sent_by, came_to_node}
use Rattle.cluster_rules.specs.declared.event.Event.{Event}
use Rattle.journal_readings.specs.Messages.{Posting, Arrival, arrived, arrived_cut}
use Rattle.cluster_rules.specs.Network.{posting_at}
use Rattle.cluster_rules.specs.World.{World, changed_at}
use Rattle.cluster_laws.proofs.At.{some_same, no_some, and_left, and_right}
use Rattle.key_laws.specs.Sound.{Sound}
use Rattle.key_laws.proofs.Frames.{at_each}
use Rattle.node_rules.specs.Messages.{client}
use Rattle.run_laws.specs.Fronts.{Front, world_of, facts_at, front_after}
use Rattle.run_laws.specs.LineOk.{ApplyOk, BatchOk, Brings}
use Rattle.run_laws.specs.LineDue.{ApplyDue, SendDueIf, LineDue}
use Rattle.run_laws.specs.Ranges.{FitsRecord, FitsTransaction, FitsBatch, FitsOut, FitsTarget, FitsFacts, Ranged}
use Rattle.run_laws.specs.Tied.{Among, key_in}
use Rattle.run_laws.proofs.Grounded.{entered_view}
use Rattle.run_laws.proofs.RangedNodes.{fits_more, stopped_fits, entered_fits, exchanged_fits, opened_fits, closed_fits, applied_fits, merged_fits, learnt_fits, dropped_fits, reached_fits, sent_fits}
use Rattle.run_laws.proofs.RangedTransactions.{next_fits}
use Rattle.run_laws.proofs.Settling.{any_among}
use Rattle.run_laws.proofs.Standing.{ViewAt, view_at}

-- ---- what is at hand

-- the key of a node's view has a spelling
pub key_fits : (z : Front) (n : ℕ) (k : ClusterKey) → Sound z.chronicle.traced → key_in (facts_at z n).exchange.view ≡ Some k → IsKeyField k
key_fits z n k s e = let v : ViewAt (facts_at z n).exchange.view k = view_at (facts_at z n).exchange.view k e in
    subst IsKeyField v.key (s.lists v.view.key v.view.members (entered_view z n v.view s v.is).list).key

pub found_among : {X : Type 0} (test : X → Bool) (xs : List X) (y : X) → find test xs ≡ Some y → Among xs y
found_among {X} test [] y e = no_some e
found_among {X} test (x ∷ xs) y e = go (test x) e (found_among test xs y)
  where
    go : (b : Bool) → (if b then Some x else find test xs) ≡ Some y → (find test xs ≡ Some y → Among xs y) → (x ≡ y) ⊎ Among xs y
    go true i rest = inl (some_same i)
    go false i rest = inr (rest i)

each_at : {X : Type 0} (P : X → Type 0) (xs : List X) (i : ℕ) (x : X) → AllByRecursion P xs → slice_get xs i ≡ Some x → P x
each_at {X} P [] zero x h e = no_some e
each_at {X} P [] (suc i) x h e = no_some e
each_at {X} P (y ∷ xs) zero x h e = subst P (some_same e) h.0
each_at {X} P (y ∷ xs) (suc i) x h e = each_at P xs i x h.1 e

-- what a merge brings came by a message
brought_fits : (z : Front) (n : ℕ) (k : ClusterKey) (d : List ℕ) (v : Version) (from : ℕ) → Brings z n k d v from → FitsRecord d v
brought_fits z n k d v from b = ⊎_elim
    (λ x. let r : IsRecord (d, v) = each_at IsRecord x.0.records x.3.place (d, v) (recursion_from_All IsRecord x.0.records (what_is_read x.1.posting.bytes (message.Batch x.0) x.1.message).0.records.each) x.3.here in record { digest = r.digest; version = r.version })
    (λ c. let p : IsProper (message.Repl k c.number c.nth d v) = (what_is_read c.came.posting.bytes (message.Repl k c.number c.nth d v) c.came.message).0 in record { digest = p.3; version = p.4 })
    b

-- what is applied is the next version of the best one
written_fits : (z : Front) (n : ℕ) (k : ClusterKey) (t : ℕ) (d : List ℕ) (v : Version) → Ranged z → ApplyDue z n k t d v → FitsRecord d v
written_fits z n k t d v h ok =
    let a : ApplyOk z n k t d v = ok.applies in
    let y : FitsTransaction z.lines ok.applies.item = (h.nodes n).transactions.running a.item (found_among (λ (x : Transaction). x.number == t) (facts_at z n).transactions.running a.item a.resolves.running) in
    record {
      digest = subst IsDigest a.resolves.digest y.digest;
      version = subst IsVersion (sym a.next) (next_fits a.item.best ((world_of z).clocks n) v.body y.best (h.clocks n) (ok.body y.want));
    }

-- nothing is pending of a partition that is dropped
none_pending : (f : Facts) (p : ℕ) → is_to_drop f (list_at f p) p ≡ true → (t : Target) → Among f.batches t → (d : List ℕ) → Among t.pending d → is_of p d ≡ false
none_pending f p e t a d i = go (is_of p d) refl
  where
    rests : not (is_pending f.batches p) ≡ true
    rests = and_right f.exchange.exchanged _ (and_left (is_done f p) _ (and_right (has_settled_bit f p) _ e))

    go : (b : Bool) → is_of p d ≡ b → b ≡ false
    go true q = absurd (both (is_pending f.batches p) (any_among (λ (u : Target). list_any (is_of p) u.pending) f.batches t a (any_among (is_of p) t.pending d i q)) rests)
      where
        both : (b : Bool) → b ≡ true → not b ≡ true → ⊥
        both b x y = grind arith
    go false q = refl

-- a batch that is sent is out already, or has the next number
batch_fits : (z : Front) (a b : ℕ) (x : Batch) → Ranged z → IsBatch x → BatchOk z a b x → FitsBatch (z.lines + 1) x
batch_fits z a b x h fits ok = record { number = ⊎_elim (λ e. out ok.item.out item.out e) (λ w. fresh w.number) ok.batch; batch = fits }
  where
    item : FitsTarget z.lines (facts_at z a).store.content ok.item
    item = (h.nodes a).each_target ok.item (found_among (λ (t : Target). t.node == b) (facts_at z a).batches ok.item ok.there)

    more : (n : ℕ) → n ≤ z.lines → n ≤ z.lines + 1
    more n le = omega (arith, le)

    next : (n m : ℕ) → n ≤ z.lines → m ≡ n + 1 → m ≤ z.lines + 1
    next n m le e = omega (arith, le, e)

    out : (o : Option Batch) → FitsOut z.lines o → o ≡ Some x → x.number ≤ z.lines + 1
    out None f e = no_some e
    out (Some y) f e = more x.number (subst (λ (q : Batch). q.number ≤ z.lines) (some_same e) f.number)

    fresh : x.number ≡ ok.item.batches + 1 → x.number ≤ z.lines + 1
    fresh e = next ok.item.batches x.number item.batches e

-- ---- each node

abbrev AllFit : ℕ → World → Type 0
AllFit lines w = (n : ℕ) → FitsFacts lines (w.facts n)

all_more : (lines : ℕ) (w : World) → AllFit lines w → AllFit (lines + 1) w
all_more lines w h n = fits_more lines (w.facts n) (h n)

one : (lines : ℕ) (w : World) (n : ℕ) (g : Facts) → AllFit lines w → FitsFacts (lines + 1) g → (m : ℕ) → FitsFacts (lines + 1) (changed_at w.facts n g m)
one lines w n g h x = at_each (λ (m : ℕ) (f : Facts). FitsFacts (lines + 1) f) w.facts n g (all_more lines w h) x

came_fits : (lines : ℕ) (w : World) (b : ℕ) (p : Posting) → lines + 1 < 2 ^ 32 → AllFit lines w → AllFit (lines + 1) (came w (arrived b p))
came_fits lines w b p lt h = go (message_of p.bytes) refl
  where
    at_client : (m : Message) → AllFit (lines + 1) (came_to_client w m)
    at_client (message.MapTable t) = all_more lines w h
    at_client _ = all_more lines w h

    go : (o : Option Message) → message_of p.bytes ≡ o → AllFit (lines + 1) (came w (option_map (λ m. record { from = p.from; to = b; message = m }) o))
    go None e = all_more lines w h
    go (Some m) e = by_end (b == client)
      where
        by_end : (q : Bool) → AllFit (lines + 1) (if q then came_to_client w m else came_to_node w (record { from = p.from; to = b; message = m }))
        by_end true = at_client m
        by_end false = one lines w b (reached (w.facts b) p.from m) h (reached_fits lines (w.facts b) p.from m lt (what_is_read p.bytes m e).0 (h b))

arrival_fits : (lines : ℕ) (w : World) (b : ℕ) (o : Option Posting) → lines + 1 < 2 ^ 32 → AllFit lines w → AllFit (lines + 1) (came w (option_and_then (arrived b) o))
arrival_fits lines w b None lt h = all_more lines w h
arrival_fits lines w b (Some p) lt h = came_fits lines w b p lt h

cut_fits : (lines : ℕ) (w : World) (b size : ℕ) (o : Option Posting) → lines + 1 < 2 ^ 32 → AllFit lines w → AllFit (lines + 1) (came w (option_and_then (arrived_cut b size) o))
cut_fits lines w b size None lt h = all_more lines w h
cut_fits lines w b size (Some p) lt h = go (nat_le (length p.bytes) size)
  where
    go : (q : Bool) → AllFit (lines + 1) (came w (if q then arrived b p else None))
    go true = came_fits lines w b p lt h
    go false = all_more lines w h

sent_all : (lines : ℕ) (w : World) (a b : ℕ) (o : Option Message) → ((x : Batch) → o ≡ Some (message.Batch x) → FitsBatch (lines + 1) x) → AllFit lines w → AllFit (lines + 1) (sent_by w a b o)
sent_all lines w a b None fits h = all_more lines w h
sent_all lines w a b (Some m) fits h = one lines w a (sent (w.facts a) b m) h (sent_fits lines (w.facts a) b m (λ x e. fits x (ap Some e)) (h a))

fits_line : (z : Front) (l : Line) → Sound z.chronicle.traced → LineDue z l → z.lines + 1 < 2 ^ 32 → Ranged z → AllFit (z.lines + 1) (after_line (world_of z) l)
fits_line z (line.Deliver i a b) s ok lt h = arrival_fits z.lines (world_of z) b (posting_at (world_of z).network i) lt h.nodes
fits_line z (line.Repeat i a b) s ok lt h = arrival_fits z.lines (world_of z) b (posting_at (world_of z).network i) lt h.nodes
fits_line z (line.Cut i a b size) s ok lt h = cut_fits z.lines (world_of z) b size (posting_at (world_of z).network i) lt h.nodes
fits_line z (line.Sent i a b bytes) s ok lt h = sent_all z.lines (record (world_of z) { network = _ }) a b (message_of bytes) (λ x e. batch_fits z a b x h (what_is_read bytes (message.Batch x) e).0 (subst (SendDueIf z a b) e ok.1.says)) h.nodes
fits_line z (line.Tick n) s ok lt h = one z.lines (world_of z) n _ h.nodes (fits_more z.lines (facts_at z n) (h.nodes n))
fits_line z (line.Stop n) s ok lt h = one z.lines (world_of z) n _ h.nodes (stopped_fits (z.lines + 1) (facts_at z n) (fits_more z.lines (facts_at z n) (h.nodes n)))
fits_line z (line.Start n) s ok lt h = one z.lines (world_of z) n _ h.nodes (fits_more z.lines (facts_at z n) (h.nodes n))
fits_line z (line.Quiesce n) s ok lt h = one z.lines (world_of z) n _ h.nodes (fits_more z.lines (facts_at z n) (h.nodes n))
fits_line z (line.Unquiesce n) s ok lt h = one z.lines (world_of z) n _ h.nodes (fits_more z.lines (facts_at z n) (h.nodes n))
fits_line z (line.Promise n k) s ok lt h = one z.lines (world_of z) n _ h.nodes (fits_more z.lines (facts_at z n) (h.nodes n))
fits_line z (line.Enter n k ms) s ok lt h = one z.lines (world_of z) n _ h.nodes (entered_fits (z.lines + 1) (facts_at z n) k ms (fits_more z.lines (facts_at z n) (h.nodes n)))
fits_line z (line.Exchanged n k) s ok lt h = one z.lines (world_of z) n _ h.nodes (exchanged_fits (z.lines + 1) (facts_at z n) k lt (key_fits z n k s ok.1.stands.view) (fits_more z.lines (facts_at z n) (h.nodes n)))
fits_line z (line.Opened n k t d a) s ok lt h = one z.lines (world_of z) n _ h.nodes (opened_fits z.lines (facts_at z n) (list_at (facts_at z n) (partition_of d)) t d (request_want (world_of z).want a) ok.1.opens.number ok.1.digest (ok.1.wanted a) (h.nodes n))
fits_line z (line.Value n k t d v) s ok lt h = one z.lines (world_of z) n _ h.nodes (closed_fits (z.lines + 1) (facts_at z n) t (fits_more z.lines (facts_at z n) (h.nodes n)))
fits_line z (line.Apply n k t d v) s ok lt h = let r : FitsRecord d v = written_fits z n k t d v h ok.1 in one z.lines (world_of z) n _ h.nodes (applied_fits z.lines (facts_at z n) k (list_at (facts_at z n) (partition_of d)) t d v lt (key_fits z n k s ok.1.applies.resolves.stands.view) r.digest r.version (h.nodes n))
fits_line z (line.Done n k t) s ok lt h = one z.lines (world_of z) n _ h.nodes (closed_fits (z.lines + 1) (facts_at z n) t (fits_more z.lines (facts_at z n) (h.nodes n)))
fits_line z (line.Aborted n k t) s ok lt h = one z.lines (world_of z) n _ h.nodes (closed_fits (z.lines + 1) (facts_at z n) t (fits_more z.lines (facts_at z n) (h.nodes n)))
fits_line z (line.Doubt n k t) s ok lt h = one z.lines (world_of z) n _ h.nodes (closed_fits (z.lines + 1) (facts_at z n) t (fits_more z.lines (facts_at z n) (h.nodes n)))
fits_line z (line.Merge n k d v) s ok lt h = let r : FitsRecord d v = brought_fits z n k d v ok.from ok.brings in one z.lines (world_of z) n _ h.nodes (merged_fits (z.lines + 1) (facts_at z n) k d v r.digest r.version (fits_more z.lines (facts_at z n) (h.nodes n)))
fits_line z (line.Handed n k p) s ok lt h = one z.lines (world_of z) n _ h.nodes (fits_more z.lines (facts_at z n) (h.nodes n))
fits_line z (line.Settled n k p) s ok lt h = one z.lines (world_of z) n _ h.nodes (fits_more z.lines (facts_at z n) (h.nodes n))
fits_line z (line.Learn n k p) s ok lt h = one z.lines (world_of z) n _ h.nodes (learnt_fits (z.lines + 1) (facts_at z n) k (list_at (facts_at z n) p) p lt (key_fits z n k s ok.1.stands.view) (fits_more z.lines (facts_at z n) (h.nodes n)))
fits_line z (line.Drop n k p) s ok lt h = one z.lines (world_of z) n _ h.nodes (dropped_fits (z.lines + 1) (facts_at z n) p (none_pending (facts_at z n) p ok.1.passes.passed) (fits_more z.lines (facts_at z n) (h.nodes n)))
fits_line z _ s ok lt h = all_more z.lines (world_of z) h.nodes

-- ---- clocks

came_clocks : (w : World) (o : Option Arrival) → (came w o).clocks ≡ w.clocks
came_clocks w None = refl
came_clocks w (Some x) = go (x.to == client)
  where
    at_client : (m : Message) → (came_to_client w m).clocks ≡ w.clocks
    at_client (message.MapTable t) = refl
    at_client _ = refl

    go : (b : Bool) → (if b then came_to_client w x.message else came_to_node w x).clocks ≡ w.clocks
    go true = at_client x.message
    go false = refl

sent_clocks : (w : World) (a b : ℕ) (o : Option Message) → (sent_by w a b o).clocks ≡ w.clocks
sent_clocks w a b None = refl
sent_clocks w a b (Some m) = refl

abbrev IsTime : ℕ → Type 0
IsTime t = t < 2 ^ 64

clocks_line : (z : Front) (l : Line) → LineDue z l → ((n : ℕ) → (world_of z).clocks n < 2 ^ 64) → (n : ℕ) → (after_line (world_of z) l).clocks n < 2 ^ 64
clocks_line z (line.Clock m time) ok h n = at_each (λ (i t : ℕ). IsTime t) (world_of z).clocks m time h ok.1 n
clocks_line z (line.Deliver i a b) ok h n = subst (λ (c : ℕ → ℕ). IsTime (c n)) (sym (came_clocks (world_of z) (option_and_then (arrived b) (posting_at (world_of z).network i)))) (h n)
clocks_line z (line.Repeat i a b) ok h n = subst (λ (c : ℕ → ℕ). IsTime (c n)) (sym (came_clocks (world_of z) (option_and_then (arrived b) (posting_at (world_of z).network i)))) (h n)
clocks_line z (line.Cut i a b size) ok h n = subst (λ (c : ℕ → ℕ). IsTime (c n)) (sym (came_clocks (world_of z) (option_and_then (arrived_cut b size) (posting_at (world_of z).network i)))) (h n)
clocks_line z (line.Sent i a b bytes) ok h n = subst (λ (c : ℕ → ℕ). IsTime (c n)) (sym (sent_clocks (record (world_of z) { network = _ }) a b (message_of bytes))) (h n)
clocks_line z _ ok h n = h n

-- ---- all of it

pub ranged_line : (z : Front) (l : Line) → Sound z.chronicle.traced → LineDue z l → z.lines + 1 < 2 ^ 32 → Ranged z → Ranged (front_after z (Writes l))
ranged_line z l s ok lt h = record { nodes = fits_line z l s ok lt h; clocks = clocks_line z l ok h.clocks }

pub ranged_begun : (z : Front) (e : Event) → Ranged z → Ranged (front_after z (Begins e))
ranged_begun z e h = record { nodes = h.nodes; clocks = h.clocks }
