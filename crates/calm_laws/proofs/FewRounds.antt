-- The rounds of keys are no more than lines: each new round is told by a line.
use Rattle.std.proofs.Common.{◌≡◌, ℕ, ◌+◌, ◌≤◌, ◌<◌, ◌^◌, max, nat_lt, Bool, true, false, List, [], ◌∷◌, ◌++◌, length, Option, Some, None, refl, sym, ap, subst, ◌∙◌, arith, length-append}
use Rattle.std.specs.FinMap as finite
use Rattle.std.specs.Prelude.{◌==◌, if◌then◌else◌}
use Rattle.std.proofs.lemmas.Bool.Decides.{nat_tests}
use Rattle.conflict_order.specs.declared.version.Version.{Version}
use Rattle.conflict_order.specs.Order.{is_newer}
use Rattle.conflict_order.specs.declared.want.Want.{Want}
use Rattle.cluster_types.specs.declared.cluster_key.ClusterKey.{ClusterKey}
use Rattle.cluster_types.specs.declared.member.Member.{Member}
use Rattle.cluster_types.specs.ClusterKeys.{key_lt}
use Rattle.cluster_types.specs.Partitions.{partition_count, partition_of}
use Rattle.wire_messages.specs.declared.message.Message.{Message}
use Rattle.wire_messages.specs.declared.message.Message.TheVariants as message
use Rattle.journal_lines.specs.declared.refusal.Refusal.{Refusal}
use Rattle.node_rules.specs.Agreement as agreement
use Rattle.node_rules.specs.Agreement.{Agreement, has_round, may_enter, others_among, proposes, proposes_anew, accepted_by, agreement_entered, next_key, promising, proposing_to}
use Rattle.node_rules.specs.ByParts.{asked_or_resolved, exchanged_if, merged_if, requested}
use Rattle.node_rules.specs.Facts.{Facts, list_at, view_key}
use Rattle.node_rules.specs.Map.{list_master}
use Rattle.node_rules.specs.Messages.{finishes}
use Rattle.node_rules.specs.Notes as notes
use Rattle.node_rules.specs.Notes.{after_ages, in_view, neighbours, opening_transaction}
use Rattle.node_rules.specs.Requests.{request_refusal}
use Rattle.node_rules.specs.Steps.{after_message, after_tick}
use Rattle.node_rules.specs.Tick.{is_candidate, parts, parts_in_order}
use Rattle.node_rules.specs.Transactions.{Transaction, transaction}
use Rattle.node_rules.proofs.Agreeing.{accept_agrees, commit_agrees, propose_agrees, refuse_agrees}
use Rattle.node_rules.proofs.PartLaws as parts
use Rattle.node_rules.proofs.TickParts.{down_is}
use Rattle.node_rules.proofs.Ticking.{tick_agrees}
use Rattle.cluster_rules.specs.declared.event.Event.{Event}
use Rattle.cluster_rules.specs.declared.event.Event.TheVariants as event
use Rattle.cluster_rules.specs.DueEvents.{due_of, sent_lines}
use Rattle.cluster_rules.specs.Opening.{Header}
use Rattle.cluster_rules.specs.Steps.{all_lines, play}
use Rattle.cluster_rules.specs.World.{World, opened}
use Rattle.key_laws.specs.Licences.{IsPromisedKey, Says}
use Rattle.key_laws.specs.Sound.{Sound}
use Rattle.key_laws.specs.Traced.{Traced, facts_of}
use Rattle.run_laws.specs.Taken.{IsProperEvent}
use Rattle.calm_laws.specs.Becoming.{Became, stayed, ticked, heard, asked, stopped, started, quiesced}
use Rattle.calm_laws.specs.Onward.{MayTake}
use Rattle.calm_laws.proofs.Becoming.{became}
use Rattle.calm_laws.proofs.Fronts.{facts_are, front_of, known, read_there, room_before, said_there}
use Rattle.calm_laws.proofs.Waits.{answer_agreement, counted, resolved_agreement}
use Rattle.calm_laws.proofs.Walks.{named_of, order_of, reaches}
use Rattle.node_rules.specs.Effects.{lines_only}
use Rattle.journal_lines.specs.declared.line.Line.TheVariants as line

-- the rounds that the node has promised and seen
pub record Low (k : ℕ) (a : Agreement) : Type 0 where
  pub promised : a.promised.round ≤ k
  pub seen : a.seen ≤ k

low_more : (k l : ℕ) (a : Agreement) → k ≤ l → Low k a → Low l a
low_more k l a le h = record { promised = omega (arith, le, h.promised); seen = omega (arith, le, h.seen) }

max_most : (a b k : ℕ) → a ≤ k → b ≤ k → max a b ≤ k
max_most a b k h i = grind (arith, nat_tests)

-- ---- messages

voting_low : (k : ℕ) (a : Agreement) (key : ClusterKey) → key.round ≤ k → Low k a → Low k (agreement.voting a key)
voting_low k a key le h = go (key_lt a.promised key)
  where
    go : (b : Bool) → Low k (if b then promising a key else a)
    go true = record { promised = le; seen = h.seen }
    go false = h

counting_low : (k : ℕ) (a : Agreement) (from : ℕ) (key : ClusterKey) → Low k a → Low k (agreement.counting a from key)
counting_low k a from key h = go (proposes a.proposal key) _
  where
    go : (b c : Bool) → Low k (if c then agreement_entered (if b then record a { proposal = accepted_by a.proposal from } else a) key else (if b then record a { proposal = accepted_by a.proposal from } else a))
    go true true = record { promised = h.promised; seen = h.seen }
    go true false = record { promised = h.promised; seen = h.seen }
    go false true = record { promised = h.promised; seen = h.seen }
    go false false = h

refusing_low : (k : ℕ) (a : Agreement) (key promised : ClusterKey) → promised.round ≤ k → Low k a → Low k (agreement.refusing a key promised)
refusing_low k a key promised le h = go (proposes a.proposal key)
  where
    go : (b : Bool) → Low k (agreement.seeing (if b then record a { proposal = None } else a) promised)
    go true = record { promised = h.promised; seen = max_most a.seen promised.round k h.seen le }
    go false = record { promised = h.promised; seen = max_most a.seen promised.round k h.seen le }

committing_low : (k me : ℕ) (a : Agreement) (key : ClusterKey) (ms : List Member) → Low k a → Low k (agreement.committing me a key ms)
committing_low k me a key ms h = go (may_enter me a key ms)
  where
    go : (b : Bool) → Low k (if b then agreement_entered a key else a)
    go true = record { promised = h.promised; seen = h.seen }
    go false = h

-- the agreement of a message that isn't one of it
view_agreement : (b : Bool) (g f : Facts) → g.agreement ≡ f.agreement → (if b then g else f).agreement ≡ f.agreement
view_agreement true g f e = e
view_agreement false g f e = refl

exchanged_agreement : (f : Facts) (k : ClusterKey) (b : Bool) → (exchanged_if f k b).agreement ≡ f.agreement
exchanged_agreement f k true = refl
exchanged_agreement f k false = refl

merged_agreement : (f : Facts) (k : ClusterKey) (d : List ℕ) (v : Version) (b : Bool) → (merged_if f k d v b).agreement ≡ f.agreement
merged_agreement f k d v true = refl
merged_agreement f k d v false = refl

counted_agreement : (f : Facts) (k : ClusterKey) (l : List ℕ) (p nth : ℕ) (b : Bool) → (notes.write_counted_if f k l p nth b).agreement ≡ f.agreement
counted_agreement f k l p nth true = refl
counted_agreement f k l p nth false = refl

by : (f g h : Facts) → g ≡ h → h.agreement ≡ f.agreement → g.agreement ≡ f.agreement
by f g h e i = ap (λ (x : Facts). x.agreement) e ∙ i

-- what a message makes of it, whose keys are of such rounds
message_low : (k : ℕ) (f : Facts) (clock from : ℕ) (t : Traced) (m : Message) → Sound t → ((n : ℕ) → (facts_of t n).agreement.promised.round ≤ k) → Says t from m → Low k f.agreement → Low k (after_message f clock from m).agreement
message_low k f clock from t (message.Heartbeat view promised hears role) s all says h = record { promised = h.promised; seen = max_most f.agreement.seen promised.round k h.seen (below promised says.2) }
  where
    below : (key : ClusterKey) → IsPromisedKey t key → key.round ≤ k
    below key n = omega (arith, n.bound.rounds, all key.principal)
message_low k f clock from t (message.Propose key ms) s all says h = subst (Low k) (sym (propose_agrees f clock from key ms)) (voting_low k f.agreement key (below (s.lists key ms says.1).known) h)
  where
    below : IsPromisedKey t key → key.round ≤ k
    below n = omega (arith, n.bound.rounds, all key.principal)
message_low k f clock from t (message.Accept key) s all says h = subst (Low k) (sym (accept_agrees f clock from key)) (counting_low k f.agreement from key h)
message_low k f clock from t (message.Refuse key promised) s all says h = subst (Low k) (sym (refuse_agrees f clock from key promised)) (refusing_low k f.agreement key promised (below says.1) h)
  where
    below : IsPromisedKey t promised → promised.round ≤ k
    below n = omega (arith, n.bound.rounds, all promised.principal)
message_low k f clock from t (message.Commit key ms) s all says h = subst (Low k) (sym (commit_agrees f clock from key ms)) (committing_low k f.me f.agreement key ms h)
message_low k f clock from t (message.State key wants row) s all says h =
    subst (Low k) (sym (by f _ _ (parts.state_is f clock from key wants row) (view_agreement (in_view f key) (exchanged_if (notes.row_came f from row true) (view_key f) (finishes f (notes.row_came f from row true))) f
    (exchanged_agreement (notes.row_came f from row true) (view_key f) (finishes f (notes.row_came f from row true)))))) h
message_low k f clock from t (message.Batch b) s all says h = subst (Low k) (sym (by f _ _ (parts.batch_is f clock from b) (view_agreement (in_view f b.key) _ f refl))) h
message_low k f clock from t (message.BatchAck key number) s all says h = subst (Low k) (sym (by f _ _ (parts.batch_ack_is f clock from key number) (view_agreement (in_view f key) _ f refl))) h
message_low k f clock from t (message.Progress key wants done handed settled) s all says h =
    subst (Low k) (sym (by f _ _ (parts.progress_is f clock from key wants done handed settled) (view_agreement (in_view f key) _ f refl))) h
message_low k f clock from t (message.Repl key number nth d v) s all says h =
    subst (Low k) (sym (by f _ _ (parts.repl_is f clock from key number nth d v) (view_agreement (in_view f key) (merged_if (counted f key nth from d) (view_key f) d v (is_newer f.store.by v (finite.get f.store.content d))) f
    (merged_agreement (counted f key nth from d) (view_key f) d v (is_newer f.store.by v (finite.get f.store.content d)) ∙ counted_agreement f key (list_at f (partition_of d)) (partition_of d) nth (from == list_master (list_at f (partition_of d))))))) h
message_low k f clock from t (message.ReplAck key number) s all says h = subst (Low k) (sym (by f _ _ (parts.repl_ack_is f clock from key number) (view_agreement (in_view f key) _ f refl))) h
message_low k f clock from t (message.Ask key number d) s all says h = subst (Low k) (sym (by f _ _ (parts.ask_is f clock from key number d) refl)) h
message_low k f clock from t (message.Answer key number v) s all says h =
    subst (Low k) (sym (by f _ _ (parts.answer_is f clock from key number v) (view_agreement (in_view f key) _ f (answer_agreement f clock from number v (transaction f.transactions number))))) h
message_low k f clock from t message.MapAsk s all says h = subst (Low k) (sym (by f _ _ (parts.map_ask_is f clock from) refl)) h
message_low k f clock from t m s all says h = record { promised = h.promised; seen = h.seen }

-- ---- ticks

next_low : (a b k : ℕ) → a ≤ k → b ≤ k → max a b + 1 ≤ k + 1
next_low a b k h i = grind (arith, nat_tests)

ticking_low : (k me : ℕ) (a : Agreement) (set : List Member) (candidate : Bool) → Low k a → Low (k + 1) (agreement.ticking me a set candidate)
ticking_low k me a set candidate h = go (proposes_anew still candidate)
  where
    still : Agreement
    still = agreement.still_proposing a set

    proposing : (key : ClusterKey) (b : agreement.Agreement) → Low (k + 1) b → Low (k + 1) (agreement.proposing b me key set)
    proposing key b l = by_test (proposes b.proposal key)
      where
        by_test : (c : Bool) → Low (k + 1) (if c then b else record b { proposal = Some (agreement.proposal_of me key set) })
        by_test true = l
        by_test false = record { promised = l.promised; seen = l.seen }

    later : a.seen ≤ k + 1
    later = omega (arith, h.seen)

    new : (ns : List ℕ) → Low (k + 1) (agreement.proposing_to me still (agreement.next_key me still) set ns)
    new [] = record { promised = next_low a.promised.round a.seen k h.promised h.seen; seen = later }
    new (n ∷ ns) = proposing (agreement.next_key me still) (agreement.promising still (agreement.next_key me still)) (record { promised = next_low a.promised.round a.seen k h.promised h.seen; seen = later })

    go : (b : Bool) → Low (k + 1) (if b then proposing_to me still (next_key me still) set (others_among me set) else still)
    go true = new (others_among me set)
    go false = record { promised = omega (arith, h.promised); seen = later }

tick_low : (k : ℕ) (f : Facts) → Low k f.agreement → Low (k + 1) (after_tick f).agreement
tick_low k f h = go f.up refl
  where
    go : (b : Bool) → f.up ≡ b → Low (k + 1) (after_tick f).agreement
    go true e = subst (Low (k + 1)) (sym (tick_agrees f e)) (ticking_low k f.me f.agreement (neighbours (after_ages f)) (is_candidate (after_ages f)) h)
    go false e = subst (λ (g : Facts). Low (k + 1) g.agreement) (sym (down_is f e)) (low_more k (k + 1) f.agreement (omega arith) h)

-- a tick writes a line
tick_writes : (w : World) (a : ℕ) → 1 ≤ length (due_of partition_count w (event.Tick a))
tick_writes w a = go (w.facts a).up
  where
    some : (f : Facts) (b : Bool) → 1 ≤ length (if b then parts_in_order (parts partition_count) f else lines_only (line.Down f.me ∷ [])).lines
    some f true = omega arith
    some f false = omega arith

    go : (b : Bool) → 1 ≤ length ((if b then parts_in_order (parts partition_count) (w.facts a) else lines_only (line.Down (w.facts a).me ∷ [])).lines ++ sent_lines a (length w.network.sent) (length w.network.flying) (if b then parts_in_order (parts partition_count) (w.facts a) else lines_only (line.Down (w.facts a).me ∷ [])).sends)
    go b = omega (arith, some (w.facts a) b, length-append (if b then parts_in_order (parts partition_count) (w.facts a) else lines_only (line.Down (w.facts a).me ∷ [])).lines (sent_lines a (length w.network.sent) (length w.network.flying) (if b then parts_in_order (parts partition_count) (w.facts a) else lines_only (line.Down (w.facts a).me ∷ [])).sends))

-- ---- all worlds

requested_agreement : (f : Facts) (clock : ℕ) (l d : List ℕ) (q : Want) (o : Option Refusal) → (requested f clock l d q o).agreement ≡ f.agreement
requested_agreement f clock l d q (Some cause) = refl
requested_agreement f clock l d q None = go t.awaiting
  where
    t : Transaction
    t = opening_transaction f l (f.transactions.opened + 1) d q

    g : Facts
    g = notes.transaction_opened f l (f.transactions.opened + 1) d q

    go : (ns : List ℕ) → (asked_or_resolved g clock l t ns).agreement ≡ f.agreement
    go [] = resolved_agreement g clock l t
    go (n ∷ ns) = refl

abbrev AllLow : ℕ → World → Type 0
AllLow k w = (m : ℕ) → Low k (w.facts m).agreement

begins : (h : Header) → AllLow 0 (opened h)
begins h m = record { promised = omega arith; seen = omega arith }

keeps : (k : ℕ) (w : World) (e : Event) → MayTake w [] → IsProperEvent e → AllLow k w → AllLow (k + length (due_of partition_count w e)) (play partition_count e w).world
keeps k w e may proper h m = go ((play partition_count e w).world.facts m) (became w (named_of may) (read_there may) (order_of may) e proper m)
  where
    l : ℕ
    l = length (due_of partition_count w e)

    more : (a : Agreement) → Low k a → Low (k + l) a
    more a low = low_more k (k + l) a (omega arith) low

    all : (n : ℕ) → (facts_of (front_of may).chronicle.traced n).agreement.promised.round ≤ k
    all n = subst (λ (f : Facts). f.agreement.promised.round ≤ k) (sym (facts_are may n)) (h n).promised

    ticks : e ≡ event.Tick m → 1 ≤ l
    ticks i = subst (λ (x : Event). 1 ≤ length (due_of partition_count w x)) (sym i) (tick_writes w m)

    go : (g : Facts) → Became w e m g → Low (k + l) g.agreement
    go g (stayed i) = subst (λ (f : Facts). Low (k + l) f.agreement) (sym i) (more _ (h m))
    go g (ticked at i) = subst (λ (f : Facts). Low (k + l) f.agreement) (sym i) (low_more (k + 1) (k + l) _ (omega (arith, ticks at)) (tick_low k (w.facts m) (h m)))
    go g (heard j p x stands read to i) =
        subst (λ (f : Facts). Low (k + l) f.agreement) (sym i)
        (more _ (message_low k (w.facts m) (w.clocks m) p.from (front_of may).chronicle.traced x (known may).lawful.sound all (said_there may j p x stands read) (h m)))
    go g (asked d q i) =
        subst (λ (a : Agreement). Low (k + l) a)
        (sym (ap (λ (f : Facts). f.agreement) (i ∙ parts.request_is (w.facts m) (w.clocks m) d q) ∙ requested_agreement (w.facts m) (w.clocks m) _ d q (request_refusal (w.facts m) (list_at (w.facts m) (partition_of d)) d))) (more _ (h m))
    go g (stopped i) = subst (λ (f : Facts). Low (k + l) f.agreement) (sym (i ∙ parts.stop_is (w.facts m))) (deaf (w.facts m).up)
      where
        deaf : (b : Bool) → Low (k + l) (if b then notes.stopped (w.facts m) else w.facts m).agreement
        deaf true = record { promised = omega (arith, (h m).promised); seen = omega arith }
        deaf false = more _ (h m)
    go g (started i) = subst (λ (f : Facts). Low (k + l) f.agreement) (sym (i ∙ parts.start_is (w.facts m))) (there (w.facts m).up)
      where
        there : (b : Bool) → Low (k + l) (if b then w.facts m else notes.started (w.facts m)).agreement
        there true = more _ (h m)
        there false = more _ (h m)
    go g (quiesced b i) = subst (λ (f : Facts). Low (k + l) f.agreement) (sym i) (more _ (h m))

room : (a b k : ℕ) → a ≤ k → b ≤ k → k + 1 < 2 ^ 32 → nat_lt (max a b + 1) (2 ^ 48) ≡ true
room a b k h i lt = grind (arith, nat_tests)

-- there is a round for a new key
pub round_left : (w : World) → MayTake w [] → (m : ℕ) → has_round (w.facts m).agreement ≡ true
round_left w may m =
    let low : Low (length (all_lines may.before)) (w.facts m).agreement = reaches AllLow begins keeps w may m in
    room _ _ (length (all_lines may.before)) low.promised low.seen (room_before may)
