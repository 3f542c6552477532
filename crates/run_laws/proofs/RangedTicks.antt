-- What a tick sends is read as it was sent: rows, what transactions wait for, and batches.
use Rattle.std.proofs.Common.{◌≡◌, ℕ, ◌+◌, ◌<◌, ◌≤◌, ◌^◌, Bool, true, false, not, ◌&&◌, List, [], ◌∷◌, ◌++◌, map, Option, Some, None, refl, sym, ap, subst, arith, inl, inr}
use Rattle.std.specs.Prelude.{filter, filter_map, flat_map, if◌then◌else◌}
use Rattle.std.specs.List.{cons_option}
use Rattle.cluster_types.specs.declared.cluster_key.ClusterKey.{ClusterKey}
use Rattle.cluster_types.specs.declared.member.Member.{Member}
use Rattle.cluster_types.specs.Partitions.{partition_count}
use Rattle.journal_lines.specs.declared.line.Line.{Line}
use Rattle.journal_lines.specs.declared.line.Line.TheVariants as line
use Rattle.wire_messages.specs.declared.message.Batch.{Batch}
use Rattle.wire_messages.specs.declared.message.Message.{Message}
use Rattle.wire_messages.specs.declared.message.Message.TheVariants as message
use Rattle.wire_messages.specs.Keys.{IsKeyField}
use Rattle.wire_messages.specs.Nodes.{IsId}
use Rattle.wire_messages.proofs.DecodingLaws.{read_back}
use Rattle.node_rules.specs.Agreement as agreement
use Rattle.node_rules.specs.Agreement.{Proposal, next_key, has_round}
use Rattle.node_rules.specs.Batches.{Target, next_batch}
use Rattle.node_rules.specs.Effects.{Effects, to_each, lines_only, nothing, sends_only}
use Rattle.node_rules.specs.Entering.{ending, closing}
use Rattle.node_rules.specs.Exchange.{View, members_of, is_single}
use Rattle.node_rules.specs.Facts.{Facts, view_key}
use Rattle.node_rules.specs.Hearing.{heard_ids}
use Rattle.node_rules.specs.Map.{lacks}
use Rattle.node_rules.specs.Notes as notes
use Rattle.node_rules.specs.Notes.{note, noted, neighbours, after_ages, own_row}
use Rattle.node_rules.specs.Resolving.{repl}
use Rattle.node_rules.specs.Standing.{others, knows_all_settled}
use Rattle.node_rules.specs.Tick.{beat, is_candidate, propose, propose_with, proposal_effects, state, rows, sends_again, transactions, batch_to, batches, progress, progress_message, parts, parts_in_order}
use Rattle.node_rules.specs.Transactions.{Transaction, Write}
use Rattle.cluster_laws.proofs.At.{no_some, and_right}
use Rattle.key_laws.proofs.DueTick.{next_is_key}
use Rattle.run_laws.specs.Ranges.{FitsApplied, FitsTransaction, FitsFacts}
use Rattle.run_laws.specs.Spelled.{AreReadInRange}
use Rattle.run_laws.specs.Tied.{Among}
use Rattle.run_laws.proofs.RangedBatches.{next_batch_fits}
use Rattle.run_laws.proofs.RangedNodes.{entered_fits, exchanged_fits, closed_fits}
use Rattle.run_laws.proofs.RangedSends.{StoodFacts, each_read, free_read, append_read, is_number, state_proper, ask_proper}
use Rattle.run_laws.proofs.RangedTransactions.{transaction_more}
use Rattle.node_rules.specs.Tables.{only_if}

-- ---- rows

rows_read : (lines : ℕ) (g : Facts) → StoodFacts lines g → AreReadInRange (rows g).sends
rows_read lines g h = go g.exchange.view refl
  where
    nobody : g.exchange.view ≡ None → filter (lacks g.exchange.rows) (others g) ≡ []
    nobody e = ap (λ (o : Option View). filter (lacks g.exchange.rows) (agreement.others_among g.me (members_of o))) e

    go : (o : Option View) → g.exchange.view ≡ o → AreReadInRange (rows g).sends
    go None e = subst (λ (ns : List ℕ). AreReadInRange (to_each ns (state g true)))
        (sym (nobody e)) tt
    go (Some v) e = each_read (filter (lacks g.exchange.rows) (others g)) (state g true) (state_proper lines g true v h e)

-- ---- transactions

again_read : (lines : ℕ) (g : Facts) (y : Transaction) (o : Option Write) → lines + 1 < 2 ^ 32 → IsKeyField (view_key g) → FitsTransaction lines y → FitsApplied lines o → AreReadInRange (sends_again g y o)
again_read lines g y None lt key r w = each_read y.awaiting (message.Ask (view_key g) y.number y.digest) (ask_proper lines g y lt key (transaction_more lines y r))
again_read lines g y (Some x) lt key r w = each_read y.awaiting (repl g y x) (key, is_number lines y.number lt r.above (more y.number r.number), is_number lines x.nth lt w.above (more x.nth w.nth), r.digest, w.version)
  where
    more : (n : ℕ) → n ≤ lines → n ≤ lines + 1
    more n le = omega (arith, le)

all_again : (lines : ℕ) (g : Facts) (ys : List Transaction) → lines + 1 < 2 ^ 32 → IsKeyField (view_key g) → ((y : Transaction) → Among ys y → FitsTransaction lines y) → AreReadInRange (flat_map (λ t. sends_again g t t.applied) ys)
all_again lines g [] lt key h = tt
all_again lines g (y ∷ ys) lt key h = append_read (sends_again g y y.applied) _ (again_read lines g y y.applied lt key (h y (inl refl)) (h y (inl refl)).applied) (all_again lines g ys lt key (λ x a. h x (inr a)))

transactions_read : (lines : ℕ) (g : Facts) → lines + 1 < 2 ^ 32 → StoodFacts lines g → AreReadInRange (transactions g).sends
transactions_read lines g lt h = go g.exchange.view refl
  where
    go : (o : Option View) → g.exchange.view ≡ o → AreReadInRange (transactions g).sends
    go None e = subst (λ (ys : List Transaction). AreReadInRange (flat_map (λ t. sends_again g t t.applied) ys)) (sym (h.idle e)) tt
    go (Some v) e = all_again lines g g.transactions.running lt (h.key v e) h.fits.transactions.running

-- ---- batches

abbrev Sent : Facts → List Target → List (ℕ × Message)
Sent g ts = filter_map (λ t. batch_to t.node (next_batch (view_key g) g.store.content t)) ts

all_batches : (lines : ℕ) (g : Facts) (ts : List Target) → lines + 1 < 2 ^ 32 → IsKeyField (view_key g) → FitsFacts lines g → ((t : Target) → Among ts t → Among g.batches t) → AreReadInRange (Sent g ts)
all_batches lines g [] lt key h among = tt
all_batches lines g (t ∷ ts) lt key h among = go (next_batch (view_key g) g.store.content t) refl (all_batches lines g ts lt key h (λ u a. among u (inr a)))
  where
    go : (o : Option Batch) → next_batch (view_key g) g.store.content t ≡ o → AreReadInRange (Sent g ts) → AreReadInRange (cons_option (batch_to t.node o) (Sent g ts))
    go None e rest = rest
    go (Some b) e rest = ((λ q. read_back (message.Batch b) (next_batch_fits lines (view_key g) g.store.content t b lt key h.content (h.each_target t (among t (inl refl))) e)), rest)

batches_read : (lines : ℕ) (g : Facts) → lines + 1 < 2 ^ 32 → StoodFacts lines g → AreReadInRange (batches g).sends
batches_read lines g lt h = go g.exchange.view refl
  where
    go : (o : Option View) → g.exchange.view ≡ o → AreReadInRange (batches g).sends
    go None e = subst (λ (ts : List Target). AreReadInRange (Sent g ts)) (sym (h.quiet e)) tt
    go (Some v) e = all_batches lines g g.batches lt (h.key v e) h.fits (λ t a. a)

-- ---- a proposal

-- what it sends, and the facts behind its lines
record Proposes (lines : ℕ) (f : Facts) (e : Effects) : Type 0 where
  sends : AreReadInRange e.sends
  stood : StoodFacts lines (noted None f e.lines)

noted_append : (f : Facts) (a b : List Line) → noted None f (a ++ b) ≡ noted None (noted None f a) b
noted_append f [] b = refl
noted_append f (l ∷ a) b = noted_append (note None f l) a b

endings_fit : (lines : ℕ) (n : ℕ) (k : ClusterKey) (ts : List Transaction) (f : Facts) → FitsFacts lines f → FitsFacts lines (noted None f (map (λ t. ending n k t.number t.applied) ts))
endings_fit lines n k [] f h = h
endings_fit lines n k (t ∷ ts) f h = go t.applied (endings_fit lines n k ts (notes.closed f t.number) (closed_fits lines f t.number h))
  where
    go : (o : Option Write) → FitsFacts lines (noted None (notes.closed f t.number) (map (λ t. ending n k t.number t.applied) ts)) → FitsFacts lines (noted None (note None f (ending n k t.number o)) (map (λ t. ending n k t.number t.applied) ts))
    go None rest = rest
    go (Some w) rest = rest

entered_stood : (lines : ℕ) (n : ℕ) (h : Facts) (k : ClusterKey) (ms : List Member) → lines < 2 ^ 32 → IsKeyField k → FitsFacts lines h → (b : Bool) → StoodFacts lines (noted None (notes.entered h k ms (own_row h)) (only_if (line.Exchanged n k) b))
entered_stood lines n h k ms lt key fits true = record { fits = exchanged_fits lines (notes.entered h k ms (own_row h)) k lt key (entered_fits lines h k ms fits); key = λ v e. key; idle = λ e. refl; quiet = λ e. no_some (sym e) }
entered_stood lines n h k ms lt key fits false = record { fits = entered_fits lines h k ms fits; key = λ v e. key; idle = λ e. refl; quiet = λ e. refl }

propose_read : (lines : ℕ) (f : Facts) → lines < 2 ^ 32 → IsId f.me → StoodFacts lines f → Proposes lines f (propose f)
propose_read lines f lt id h = go f.agreement.proposal
  where
    stands : StoodFacts lines f
    stands = record { fits = h.fits; key = h.key; idle = h.idle; quiet = h.quiet }

    promised : Facts
    promised = note None f (line.Promise f.me (next_key f.me f.agreement))

    enters : IsKeyField (next_key f.me f.agreement) → StoodFacts lines (noted None promised (closing f ++ (line.Enter f.me (next_key f.me f.agreement) (neighbours f) ∷ only_if (line.Exchanged f.me (next_key f.me f.agreement)) (is_single (neighbours f)))))
    enters key = subst (λ (g : Facts). StoodFacts lines g) (sym (noted_append promised (closing f) (line.Enter f.me (next_key f.me f.agreement) (neighbours f) ∷ only_if (line.Exchanged f.me (next_key f.me f.agreement)) (is_single (neighbours f)))))
        (entered_stood lines f.me (noted None promised (closing f)) (next_key f.me f.agreement) (neighbours f) lt key (endings_fit lines f.me (view_key f) f.transactions.running promised h.fits) (is_single (neighbours f)))

    to : (ns : List ℕ) → has_round f.agreement ≡ true → Proposes lines f (proposal_effects f (next_key f.me f.agreement) (neighbours f) ns)
    to [] e = record { sends = tt; stood = enters (next_is_key f.me f.agreement id e) }
    to (n ∷ ns) e = record { sends = free_read (n ∷ ns) (message.Propose (next_key f.me f.agreement) (neighbours f)) refl; stood = record { fits = h.fits; key = h.key; idle = h.idle; quiet = h.quiet } }

    new : (b : Bool) → (is_candidate f && has_round f.agreement) ≡ b → Proposes lines f (if b then proposal_effects f (next_key f.me f.agreement) (neighbours f) (agreement.others_among f.me (neighbours f)) else nothing)
    new true e = to (agreement.others_among f.me (neighbours f)) (and_right (is_candidate f) _ e)
    new false e = record { sends = tt; stood = stands }

    go : (o : Option Proposal) → Proposes lines f (propose_with f o)
    go None = new (is_candidate f && has_round f.agreement) refl
    go (Some p) = record { sends = free_read p.missing (message.Propose p.key p.members) refl; stood = stands }

-- ---- a tick

progress_read : (i : Facts) (q : Bool) → AreReadInRange (if q then sends_only (to_each (others i) (progress_message partition_count i true)) else nothing).sends
progress_read i true = free_read (others i) (progress_message partition_count i true) refl
progress_read i false = tt

sends_read : (lines : ℕ) (f : Facts) (fe : Effects) (i : Facts) → lines + 1 < 2 ^ 32 → Proposes lines f fe
    → AreReadInRange ((beat f).sends ++ (fe.sends ++ ((rows (noted None f fe.lines)).sends ++ ((transactions (noted None f fe.lines)).sends ++ ((batches (noted None f fe.lines)).sends ++ ((progress partition_count i).sends ++ []))))))
sends_read lines f fe i lt p =
    append_read (beat f).sends _ (free_read f.peers (message.Heartbeat (view_key f) f.agreement.promised (heard_ids f.hearing.heard) f.role) refl)
    (append_read fe.sends _ p.sends
    (append_read (rows g).sends _ (rows_read lines g p.stood)
    (append_read (transactions g).sends _ (transactions_read lines g lt p.stood)
    (append_read (batches g).sends _ (batches_read lines g lt p.stood)
    (append_read (progress partition_count i).sends [] (progress_read i (i.exchange.exchanged && not (knows_all_settled i partition_count 0))) tt)))))
  where
    g : Facts
    g = noted None f fe.lines

pub tick_read : (lines : ℕ) (f : Facts) → lines + 1 < 2 ^ 32 → IsId f.me → StoodFacts lines f → (b : Bool) → AreReadInRange (if b then parts_in_order (parts partition_count) f else lines_only (line.Down f.me ∷ [])).sends
tick_read lines f lt id h false = tt
tick_read lines f lt id h true = sends_read lines (after_ages f) (propose (after_ages f)) _ lt (propose_read lines (after_ages f) (less lt) id (record { fits = h.fits; key = h.key; idle = h.idle; quiet = h.quiet }))
  where
    less : lines + 1 < 2 ^ 32 → lines < 2 ^ 32
    less lt = omega (arith, lt)
