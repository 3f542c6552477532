-- What a tick makes of the agreement, by the rules of agreement alone.
use Rattle.std.proofs.Common.{◌≡◌, ℕ, zero, suc, ◌+◌, Bool, true, false, ◌&&◌, List, [], ◌∷◌, ◌++◌, Option, Some, None, refl, sym, ap, subst, ◌∙◌}
use Rattle.std.specs.Prelude.{filter_map, flat_map, is_none, if◌then◌else◌}
use Rattle.std.specs.List.{cons_option}
use Rattle.cluster_types.specs.declared.cluster_key.ClusterKey.{ClusterKey}
use Rattle.cluster_types.specs.declared.member.Member.{Member}
use Rattle.cluster_types.specs.Partitions.{partition_count}
use Rattle.journal_lines.specs.declared.line.Line.{Line}
use Rattle.journal_lines.specs.declared.line.Line.TheVariants as line
use Rattle.wire_messages.specs.declared.message.Batch.{Batch}
use Rattle.wire_messages.specs.declared.message.Message.{Message}
use Rattle.wire_messages.specs.declared.message.Message.TheVariants as message
use Rattle.node_rules.specs.Agreement as agreement
use Rattle.node_rules.specs.Agreement.{Agreement, Proposal, proposes, proposal_of, next_key, others_among, proposing_to}
use Rattle.node_rules.specs.Batches.{Target, next_batch}
use Rattle.node_rules.specs.Effects.{Effects, to_each, lines_only, nothing, sends_only}
use Rattle.node_rules.specs.Facts.{Facts, view_key, list_at}
use Rattle.node_rules.specs.Hearing.{heard_ids}
use Rattle.node_rules.specs.Notes.{note, noted, sent, all_sent, neighbours, after_ages}
use Rattle.node_rules.specs.Resolving.{repl}
use Rattle.node_rules.specs.Settling.{hand, settle, learn, drop, lines_then, settling_at, settling_from}
use Rattle.node_rules.specs.Standing.{others}
use Rattle.node_rules.specs.Steps.{facts_after, after_tick}
use Rattle.node_rules.specs.Tick as tick
use Rattle.node_rules.specs.Tick.{Part, parts_in_order, is_candidate, parts, progress_message, proposal_effects}
use Rattle.node_rules.specs.Transactions.{Transaction, Write}
use Rattle.node_rules.proofs.Agreeing.{same_itself, entering_agrees}
use Rattle.node_rules.proofs.NoteLaws.{noted-append, all_sent-append}
use Rattle.node_rules.specs.Tables.{only_if}

-- ---- what leaves the agreement as it is

-- the node and its agreement are the same
record Keeps (f g : Facts) : Type 0 where
  me : g.me ≡ f.me
  agreement : g.agreement ≡ f.agreement

itself : (f : Facts) → Keeps f f
itself f = record { me = refl; agreement = refl }

and_so : (f g h : Facts) → Keeps f g → Keeps g h → Keeps f h
and_so f g h a b = record { me = b.me ∙ a.me; agreement = b.agreement ∙ a.agreement }

abbrev QuietLines : List Line → Type 0
QuietLines [] = Unit {0}
QuietLines (l ∷ ls) = ((f : Facts) → Keeps f (note None f l)) × QuietLines ls

abbrev QuietSends : List (ℕ × Message) → Type 0
QuietSends [] = Unit {0}
QuietSends (m ∷ ms) = ((f : Facts) → Keeps f (sent f m.0 m.1)) × QuietSends ms

lines_keep : (ls : List Line) → QuietLines ls → (f : Facts) → Keeps f (noted None f ls)
lines_keep [] q f = itself f
lines_keep (l ∷ ls) q f = and_so f (note None f l) (noted None (note None f l) ls) (q.0 f) (lines_keep ls q.1 (note None f l))

sends_keep : (ms : List (ℕ × Message)) → QuietSends ms → (f : Facts) → Keeps f (all_sent f ms)
sends_keep [] q f = itself f
sends_keep (m ∷ ms) q f = and_so f (sent f m.0 m.1) (all_sent (sent f m.0 m.1) ms) (q.0 f) (sends_keep ms q.1 (sent f m.0 m.1))

quiet_lines-append : (ls more : List Line) → QuietLines ls → QuietLines more → QuietLines (ls ++ more)
quiet_lines-append [] more a b = b
quiet_lines-append (l ∷ ls) more a b = (a.0, quiet_lines-append ls more a.1 b)

quiet_sends-append : (ms more : List (ℕ × Message)) → QuietSends ms → QuietSends more → QuietSends (ms ++ more)
quiet_sends-append [] more a b = b
quiet_sends-append (m ∷ ms) more a b = (a.0, quiet_sends-append ms more a.1 b)

quiet_if : (l : Line) → ((f : Facts) → Keeps f (note None f l)) → (b : Bool) → QuietLines (only_if l b)
quiet_if l q true = (q, tt)
quiet_if l q false = tt

-- ---- the parts of a tick but the proposal

-- the part's lines and messages leave the agreement as it is
record IsQuiet (e : Effects) : Type 0 where
  lines : QuietLines e.lines
  sends : QuietSends e.sends

abbrev QuietParts : List Part → Type 0
QuietParts [] = Unit {0}
QuietParts (part ∷ parts) = ((f : Facts) → IsQuiet (part f)) × QuietParts parts

in_order-quiet : (parts : List Part) → QuietParts parts → (f : Facts)
    → IsQuiet (parts_in_order parts f)
in_order-quiet [] q f = record { lines = tt; sends = tt }
in_order-quiet (part ∷ parts) q f =
    let first = q.0 f in
    let rest = in_order-quiet parts q.1 (noted None f (part f).lines) in
    record { lines = quiet_lines-append _ _ first.lines rest.lines; sends = quiet_sends-append _ _ first.sends rest.sends }

heartbeats-quiet : (ns : List ℕ) (f : Facts) → QuietSends (to_each ns (message.Heartbeat (view_key f) f.agreement.promised (heard_ids f.hearing.heard) f.role))
heartbeats-quiet [] f = tt
heartbeats-quiet (n ∷ ns) f = (itself, heartbeats-quiet ns f)

states-quiet : (ns : List ℕ) (f : Facts) → QuietSends (to_each ns (tick.state f true))
states-quiet [] f = tt
states-quiet (n ∷ ns) f = (itself, states-quiet ns f)

rows-quiet : (f : Facts) → IsQuiet (tick.rows f)
rows-quiet f = record { lines = tt; sends = states-quiet _ f }

asks-quiet : (ns : List ℕ) (key : ClusterKey) (t : ℕ) (d : List ℕ) → QuietSends (to_each ns (message.Ask key t d))
asks-quiet [] key t d = tt
asks-quiet (n ∷ ns) key t d = (itself, asks-quiet ns key t d)

repls-quiet : (ns : List ℕ) (f : Facts) (t : Transaction) (w : Write) → QuietSends (to_each ns (repl f t w))
repls-quiet [] f t w = tt
repls-quiet (n ∷ ns) f t w = (itself, repls-quiet ns f t w)

again-quiet : (f : Facts) (t : Transaction) (o : Option Write) → QuietSends (tick.sends_again f t o)
again-quiet f t None = asks-quiet t.awaiting (view_key f) t.number t.digest
again-quiet f t (Some w) = repls-quiet t.awaiting f t w

all_again-quiet : (f : Facts) (ts : List Transaction) → QuietSends (flat_map (λ t. tick.sends_again f t t.applied) ts)
all_again-quiet f [] = tt
all_again-quiet f (t ∷ ts) = quiet_sends-append _ _ (again-quiet f t t.applied) (all_again-quiet f ts)

transactions-quiet : (f : Facts) → IsQuiet (tick.transactions f)
transactions-quiet f = record { lines = tt; sends = all_again-quiet f f.transactions.running }

batches_to-quiet : (key : ClusterKey) (f : Facts) (ts : List Target) → QuietSends (filter_map (λ t. tick.batch_to t.node (next_batch key f.store.content t)) ts)
batches_to-quiet key f [] = tt
batches_to-quiet key f (t ∷ ts) = go (next_batch key f.store.content t) (batches_to-quiet key f ts)
  where
    go : (o : Option Batch) → QuietSends (filter_map (λ x. tick.batch_to x.node (next_batch key f.store.content x)) ts)
        → QuietSends (cons_option (tick.batch_to t.node o) (filter_map (λ x. tick.batch_to x.node (next_batch key f.store.content x)) ts))
    go None rest = rest
    go (Some b) rest = (λ g. record { me = refl; agreement = refl }, rest)

batches-quiet : (f : Facts) → IsQuiet (tick.batches f)
batches-quiet f = record { lines = tt; sends = batches_to-quiet (view_key f) f f.batches }

and_then-quiet : (first second : Facts → List Line) → ((f : Facts) → QuietLines (first f)) → ((f : Facts) → QuietLines (second f)) → (f : Facts) → QuietLines (lines_then first second f)
and_then-quiet first second a b f = quiet_lines-append (first f) (second (noted None f (first f))) (a f) (b (noted None f (first f)))

settling_at-quiet : (l : List ℕ) (p : ℕ) (f : Facts) → QuietLines (settling_at l p f)
settling_at-quiet l p =
    and_then-quiet (λ f. hand f l p) (lines_then (λ f. settle f l p) (lines_then (λ f. learn f l p) (λ f. drop f l p)))
    (λ f. quiet_if _ (λ g. record { me = refl; agreement = refl }) _)
    (and_then-quiet (λ f. settle f l p) (lines_then (λ f. learn f l p) (λ f. drop f l p))
    (λ f. quiet_if _ (λ g. record { me = refl; agreement = refl }) _)
    (and_then-quiet (λ f. learn f l p) (λ f. drop f l p)
    (λ f. quiet_if _ (λ g. record { me = refl; agreement = refl }) _)
    (λ f. quiet_if _ (λ g. record { me = refl; agreement = refl }) _)))

settling_from-quiet : (n p : ℕ) (f : Facts) → QuietLines (settling_from n p f)
unfolding settling_from
settling_from-quiet zero p f = tt
settling_from-quiet (suc n) p f =
    quiet_lines-append (settling_at (list_at f p) p f) (settling_from n (p + 1) (noted None f (settling_at (list_at f p) p f)))
    (settling_at-quiet (list_at f p) p f) (settling_from-quiet n (p + 1) (noted None f (settling_at (list_at f p) p f)))

settling_if-quiet : (n : ℕ) (f : Facts) (b : Bool) → QuietLines (if b then settling_from n 0 f else [])
settling_if-quiet n f true = settling_from-quiet n 0 f
settling_if-quiet n f false = tt

settlings-quiet : (n : ℕ) (f : Facts) → IsQuiet (tick.settlings n f)
settlings-quiet n f = record { lines = settling_if-quiet n f f.exchange.exchanged; sends = tt }

progresses-quiet : (ns : List ℕ) (n : ℕ) (f : Facts) → QuietSends (to_each ns (tick.progress_message n f true))
progresses-quiet [] n f = tt
progresses-quiet (m ∷ ns) n f = (itself, progresses-quiet ns n f)

progress_if-quiet : (n : ℕ) (f : Facts) (b : Bool) → IsQuiet (if b then sends_only (to_each (others f) (progress_message n f true)) else nothing)
progress_if-quiet n f true = record { lines = tt; sends = progresses-quiet (others f) n f }
progress_if-quiet n f false = record { lines = tt; sends = tt }

abbrev from_rows : ℕ → List Part
from_rows n = tick.rows ∷ tick.transactions ∷ tick.batches ∷ tick.settlings n ∷ tick.progress n ∷ []

rest-quiet : (n : ℕ) (f : Facts) → IsQuiet (parts_in_order (from_rows n) f)
rest-quiet n f = in_order-quiet (from_rows n) (rows-quiet, (transactions-quiet, (batches-quiet, (settlings-quiet n, (λ g. progress_if-quiet n g _, tt))))) f

-- ---- the proposal

abbrev asks_for : Agreement → ℕ → List Member → Bool → Agreement
asks_for a me set candidate = (if agreement.proposes_anew a candidate then proposing_to me a (next_key me a) set (others_among me set) else a)

-- to propose again what is proposed changes nothing
standing : (k : Facts) (p : Proposal) (ns : List ℕ) → k.agreement.proposal ≡ Some p → (all_sent k (to_each ns (message.Propose p.key p.members))).agreement ≡ k.agreement
standing k p [] e = refl
standing k p (n ∷ ns) e = standing (sent k n (message.Propose p.key p.members)) p ns (ap (λ (a : Agreement). a.proposal) stays ∙ e) ∙ stays
  where
    stays : (sent k n (message.Propose p.key p.members)).agreement ≡ k.agreement
    stays = ap (λ (holds : Bool). if holds then k.agreement else record k.agreement { proposal = Some (proposal_of k.me p.key p.members) }) (ap (λ (o : Option Proposal). proposes o p.key) e ∙ same_itself p.key)

-- the agreement once a view was proposed to the others has the proposal to them
newly_proposed : (a : Agreement) (me : ℕ) (key : ClusterKey) (set : List Member) → a.proposal ≡ None
    → (agreement.proposing (agreement.promising a key) me key set).proposal ≡ Some (proposal_of me key set)
newly_proposed a me key set e =
    ap (λ (o : Option Proposal). (if proposes o key then agreement.promising a key else record (agreement.promising a key) { proposal = Some (proposal_of me key set) }).proposal)
    (ap (λ (o : Option Proposal). (if proposes o key then o else None)) e)

-- a new proposal is sent to these
asked_anew : (f k : Facts) (key : ClusterKey) (set : List Member) (ns : List ℕ) → f.agreement.proposal ≡ None
    → Keeps (noted None f (tick.proposal_effects f key set ns).lines) k
    → (all_sent k (tick.proposal_effects f key set ns).sends).agreement ≡ agreement.proposing_to f.me f.agreement key set ns
asked_anew f k key set [] e h = h.agreement ∙ entering_agrees f (note None f (line.Promise f.me key)) key set
asked_anew f k key set (n ∷ ns) e h = standing (sent k n (message.Propose key set)) (proposal_of f.me key set) ns (ap (λ (a : Agreement). a.proposal) first ∙ newly_proposed f.agreement f.me key set e) ∙ first
  where
    first : (sent k n (message.Propose key set)).agreement ≡ agreement.proposing (agreement.promising f.agreement key) f.me key set
    first = ap (λ (a : Agreement). agreement.proposing a k.me key set) h.agreement ∙ ap (λ (me : ℕ). agreement.proposing (agreement.promising f.agreement key) me key set) h.me

proposed_new : (f k : Facts) (b : Bool) → f.agreement.proposal ≡ None → Keeps (noted None f (if b then proposal_effects f (next_key f.me f.agreement) (neighbours f) (agreement.others_among f.me (neighbours f)) else nothing).lines) k
    → (all_sent k (if b then proposal_effects f (next_key f.me f.agreement) (neighbours f) (agreement.others_among f.me (neighbours f)) else nothing).sends).agreement ≡ (if b then proposing_to f.me f.agreement (next_key f.me f.agreement) (neighbours f) (others_among f.me (neighbours f)) else f.agreement)
proposed_new f k true e h = asked_anew f k (agreement.next_key f.me f.agreement) (neighbours f) (agreement.others_among f.me (neighbours f)) e h
proposed_new f k false e h = h.agreement

proposed : (f k : Facts) (o : Option Proposal) → f.agreement.proposal ≡ o → Keeps (noted None f (tick.propose_with f o).lines) k
    → (all_sent k (tick.propose_with f o).sends).agreement ≡ (if is_none o && (is_candidate f && agreement.has_round f.agreement) then proposing_to f.me f.agreement (next_key f.me f.agreement) (neighbours f) (others_among f.me (neighbours f)) else f.agreement)
proposed f k (Some p) e h = standing k p p.missing (ap (λ (a : Agreement). a.proposal) h.agreement ∙ e) ∙ h.agreement
proposed f k None e h = proposed_new f k (is_candidate f && agreement.has_round f.agreement) e h

-- ---- what is proposed

sent_anew : (f : Facts) (key : ClusterKey) (set : List Member) (ns : List ℕ) → ns ≡ agreement.others_among f.me set → f.agreement.proposal ≡ None
    → (tick.proposal_effects f key set ns).sends ≡ tick.proposal_sends (agreement.proposing_to f.me f.agreement key set ns).proposal
sent_anew f key set [] same e = refl
sent_anew f key set (n ∷ ns) same e =
    ap (λ (ms : List ℕ). to_each ms (message.Propose key set)) same
    ∙ sym (ap tick.proposal_sends (newly_proposed f.agreement f.me key set e))

sent_new : (f : Facts) (b : Bool) → f.agreement.proposal ≡ None
    → (if b then proposal_effects f (next_key f.me f.agreement) (neighbours f) (agreement.others_among f.me (neighbours f)) else nothing).sends ≡ tick.proposal_sends (if b then proposing_to f.me f.agreement (next_key f.me f.agreement) (neighbours f) (others_among f.me (neighbours f)) else f.agreement).proposal
sent_new f true e = sent_anew f (agreement.next_key f.me f.agreement) (neighbours f) (agreement.others_among f.me (neighbours f)) refl e
sent_new f false e = sym (ap tick.proposal_sends e)

sent_with : (f : Facts) (o : Option Proposal) → f.agreement.proposal ≡ o
    → (tick.propose_with f o).sends ≡ tick.proposal_sends (if is_none o && (is_candidate f && agreement.has_round f.agreement) then proposing_to f.me f.agreement (next_key f.me f.agreement) (neighbours f) (others_among f.me (neighbours f)) else f.agreement).proposal
sent_with f (Some p) e = sym (ap tick.proposal_sends e)
sent_with f None e = sent_new f (is_candidate f && agreement.has_round f.agreement) e

pub proposal_goes_out : (f : Facts) → (tick.propose f).sends ≡ tick.proposal_sends (asks_for f.agreement f.me (neighbours f) (is_candidate f)).proposal
proposal_goes_out f = sent_with f f.agreement.proposal refl

-- ---- the tick

-- the lines and messages of the parts of a tick, of the facts with its first line
ticked : (n : ℕ) (f : Facts)
    → (all_sent (noted None f ((tick.propose f).lines ++ (parts_in_order (from_rows n) (noted None f (tick.propose f).lines)).lines))
    ((tick.beat f).sends ++ ((tick.propose f).sends ++ (parts_in_order (from_rows n) (noted None f (tick.propose f).lines)).sends))).agreement
    ≡ asks_for f.agreement f.me (neighbours f) (is_candidate f)
ticked n f =
    let proposal : Effects = tick.propose f in
    let with_proposal : Facts = noted None f proposal.lines in
    let rest : Effects = parts_in_order (from_rows n) with_proposal in
    let quiet : IsQuiet rest = rest-quiet n with_proposal in
    let noted_all : Facts = noted None f (proposal.lines ++ rest.lines) in
    let after_beat : Facts = all_sent noted_all (tick.beat f).sends in
    ap (λ (g : Facts). g.agreement) (all_sent-append noted_all (tick.beat f).sends (proposal.sends ++ rest.sends) ∙ all_sent-append after_beat proposal.sends rest.sends)
    ∙ (sends_keep rest.sends quiet.sends (all_sent after_beat proposal.sends)).agreement
    ∙ proposed f after_beat f.agreement.proposal refl (keeps n f)
  where
    keeps : (m : ℕ) (g : Facts) → Keeps (noted None g (tick.propose g).lines) (all_sent (noted None g ((tick.propose g).lines ++ (parts_in_order (from_rows m) (noted None g (tick.propose g).lines)).lines)) (tick.beat g).sends)
    keeps m g = and_so _ _ _ (lines m g) (sends_keep (tick.beat g).sends (heartbeats-quiet g.peers g) _)
      where
        lines : (o : ℕ) (h : Facts) → Keeps (noted None h (tick.propose h).lines) (noted None h ((tick.propose h).lines ++ (parts_in_order (from_rows o) (noted None h (tick.propose h).lines)).lines))
        lines o h = subst (λ (x : Facts). Keeps (noted None h (tick.propose h).lines) x) (sym (noted-append None h (tick.propose h).lines _)) (lines_keep _ (rest-quiet o (noted None h (tick.propose h).lines)).lines (noted None h (tick.propose h).lines))

tick_when_up : (n : ℕ) (f : Facts) → (facts_after None f (parts_in_order (tick.parts n) f)).agreement ≡ agreement.ticking f.me f.agreement (neighbours (after_ages f)) (is_candidate (after_ages f))
tick_when_up n f = ticked n (after_ages f)

pub tick_agrees : (f : Facts) → f.up ≡ true → (after_tick f).agreement ≡ agreement.ticking f.me f.agreement (neighbours (after_ages f)) (is_candidate (after_ages f))
tick_agrees f up = ap (λ (b : Bool). (facts_after None f (if b then parts_in_order (parts partition_count) f else lines_only (line.Down f.me ∷ []))).agreement) up ∙ tick_when_up partition_count f
