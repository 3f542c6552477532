-- The messages that a step makes due are read as they were sent.
use Rattle.std.proofs.Common.{◌≡◌, ℕ, ◌+◌, ◌<◌, ◌^◌, Bool, true, false, List, [], ◌∷◌, Option, Some, None, refl, sym, ap, subst}
use Rattle.std.specs.Prelude.{length, nat_lt, if◌then◌else◌}
use Rattle.conflict_order.specs.declared.policy.Policy.{Policy}
use Rattle.conflict_order.specs.declared.want.Want.{Want}
use Rattle.conflict_order.specs.declared.want.Want.TheVariants as want
use Rattle.cluster_types.specs.Partitions.{partition_count, partition_of}
use Rattle.journal_lines.specs.declared.line.Line.{Line}
use Rattle.journal_lines.specs.declared.line.Line.TheVariants as line
use Rattle.journal_lines.specs.declared.refusal.Refusal.{Refusal}
use Rattle.wire_messages.specs.declared.message.Message.{Message}
use Rattle.wire_messages.specs.Decoding.{message_of}
use Rattle.wire_messages.specs.Keys.{IsKeyField}
use Rattle.wire_messages.specs.Nodes.{IsId}
use Rattle.wire_messages.specs.Requests.{IsWant}
use Rattle.wire_messages.specs.Versions.{IsDigest}
use Rattle.wire_messages.proofs.DecodingLaws.{what_is_read}
use Rattle.node_rules.specs.Exchange.{exchange_key}
use Rattle.node_rules.specs.Facts.{Facts, list_at}
use Rattle.node_rules.specs.Requests.{due_request, request_if, request_refusal}
use Rattle.cluster_rules.specs.declared.event.Event.{Event}
use Rattle.cluster_rules.specs.declared.event.Event.TheVariants as event
use Rattle.node_rules.specs.Client.{node_for}
use Rattle.cluster_rules.specs.DueEvents.{written, due_at_named, arriving, is_blocked, delivery, due_of}
use Rattle.journal_readings.specs.Messages.{Posting}
use Rattle.cluster_rules.specs.Network.{Network, landed, flying_at}
use Rattle.cluster_rules.specs.World.{World}
use Rattle.run_laws.specs.Fronts.{Front, world_of, facts_at}
use Rattle.run_laws.specs.LineDue.{LawfulFront}
use Rattle.run_laws.specs.Ranges.{Ranged}
use Rattle.run_laws.specs.Spelled.{AreReadInRange, SendsRead, request_sends, arrived_sends, flying_sends}
use Rattle.run_laws.specs.Steps.{Ended}
use Rattle.run_laws.specs.Taken.{IsProperEvent}
use Rattle.run_laws.specs.Tied.{key_in}
use Rattle.run_laws.proofs.RangedLines.{key_fits}
use Rattle.run_laws.proofs.RangedSends.{StoodFacts, request_read, message_read}
use Rattle.run_laws.proofs.RangedTicks.{tick_read}
use Rattle.node_rules.specs.Effects.{lines_only}
use Rattle.node_rules.specs.Tick.{parts, parts_in_order}

-- ---- a step that sends writes a line

abbrev pub HasLine : List Line → Type 0
HasLine [] = ⊥
HasLine (l ∷ ls) = Unit {0}

request_line : (net : Network) (n : ℕ) (f : Facts) (clock : ℕ) (d : List ℕ) (q : Want) → HasLine (written net n (due_request f clock d q))
request_line net n f clock d q = go (request_refusal f (list_at f (partition_of d)) d)
  where
    go : (o : Option Refusal) → HasLine (written net n (request_if f clock (list_at f (partition_of d)) d q o))
    go (Some cause) = tt
    go None = tt

named_line : (w : World) (d : List ℕ) (q : Want) (o : Option ℕ) → HasLine (due_at_named w d q o)
named_line w d q None = tt
named_line w d q (Some n) = tt

tick_line : (net : Network) (n : ℕ) (f : Facts) (b : Bool) → HasLine (written net n (if b then parts_in_order (parts partition_count) f else lines_only (line.Down f.me ∷ [])))
tick_line net n f true = tt
tick_line net n f false = tt

delivery_line : (w : World) (i : ℕ) (first : Posting → Line) (rest : Posting → List Line) (o : Option Posting) → HasLine (delivery w i (λ p. first p ∷ rest p) o)
delivery_line w i first rest None = tt
delivery_line w i first rest (Some p) = go (is_blocked w p)
  where
    go : (b : Bool) → HasLine (if b then line.Blocked i ∷ [] else first p ∷ rest p)
    go true = tt
    go false = tt

-- ---- between steps

pub stood : {by : Policy} {factor : ℕ} {z : Front} → LawfulFront by factor z → Ended z → Ranged z → (n : ℕ) → StoodFacts z.lines (facts_at z n)
stood {by} {factor} {z} l h r n = record {
  fits = r.nodes n;
  key = λ v e. subst IsKeyField (sym (ap exchange_key e))
      (key_fits z n v.key l.sound (ap key_in e));
  idle = λ e. (h.rests n).idle e;
  quiet = λ e. (l.nodes n).quiet ((l.nodes n).inside e);
}

-- ---- each event

pub sends_read : (by : Policy) (factor : ℕ) (z : Front) (e : Event) → LawfulFront by factor z → Ended z → Ranged z → IsProperEvent e → (HasLine (due_of partition_count (world_of z) e) → z.lines + 1 < 2 ^ 32) → SendsRead (world_of z) e
sends_read by factor z e l h r = go e
  where
    asks : (n : ℕ) (d : List ℕ) (q : Want) → IsDigest d → IsWant q → z.lines + 1 < 2 ^ 32 → AreReadInRange (request_sends (world_of z) (Some n) d q)
    asks n d q digest fits lt = request_read z.lines (facts_at z n) ((world_of z).clocks n) d q lt (r.clocks n) digest fits (stood l h r n)

    named : (o : Option ℕ) (d : List ℕ) (q : Want) → IsDigest d → IsWant q → z.lines + 1 < 2 ^ 32 → AreReadInRange (request_sends (world_of z) o d q)
    named None d q digest fits lt = tt
    named (Some n) d q digest fits lt = asks n d q digest fits lt

    comes : (p : Posting) → z.lines + 1 < 2 ^ 32 → (o : Option Message) → message_of p.bytes ≡ o → AreReadInRange (arrived_sends (world_of z) p o)
    comes p lt None i = tt
    comes p lt (Some m) i = message_read z.lines (facts_at z p.to) ((world_of z).clocks p.to) p.from m lt (r.clocks p.to) (what_is_read p.bytes m i).0 (stood l h r p.to)

    flies : (o : Option Posting) → z.lines + 1 < 2 ^ 32
        → AreReadInRange (flying_sends (world_of z) o)
    flies None lt = tt
    flies (Some p) lt = comes p lt (message_of p.bytes) refl

    go : (e : Event) → IsProperEvent e → (HasLine (due_of partition_count (world_of z) e) → z.lines + 1 < 2 ^ 32) → SendsRead (world_of z) e
    go (event.Tick n) p few = tick_read z.lines (facts_at z n) (few (tick_line (world_of z).network n (facts_at z n) (facts_at z n).up)) (subst IsId (sym (l.sound.nodes n).me) p) (stood l h r n) (facts_at z n).up
    go (event.Put n d v) p few = asks n d (want.Put v) p.0 p.1 (few (request_line (world_of z).network n (facts_at z n) ((world_of z).clocks n) d (want.Put v)))
    go (event.Get n d) p few = asks n d want.Get p tt (few (request_line (world_of z).network n (facts_at z n) ((world_of z).clocks n) d want.Get))
    go (event.Del n d) p few = asks n d want.Del p tt (few (request_line (world_of z).network n (facts_at z n) ((world_of z).clocks n) d want.Del))
    go (event.ClientPut d v) p few = named (node_for (world_of z).tables (partition_of d)) d (want.Put v) p.0 p.1 (few (named_line (world_of z) d (want.Put v) (node_for (world_of z).tables (partition_of d))))
    go (event.ClientGet d) p few = named (node_for (world_of z).tables (partition_of d)) d want.Get p tt (few (named_line (world_of z) d want.Get (node_for (world_of z).tables (partition_of d))))
    go (event.ClientDel d) p few = named (node_for (world_of z).tables (partition_of d)) d want.Del p tt (few (named_line (world_of z) d want.Del (node_for (world_of z).tables (partition_of d))))
    go (event.Deliver i) p few = flies (flying_at (world_of z).network i) (few (delivery_line (world_of z) i (λ x. line.Deliver i x.from x.to) (λ x. arriving partition_count (world_of z) (landed (world_of z).network i) x) (flying_at (world_of z).network i)))
    go (event.Repeat i) p few = flies (flying_at (world_of z).network i) (few (delivery_line (world_of z) i (λ x. line.Repeat i x.from x.to) (λ x. arriving partition_count (world_of z) (world_of z).network x) (flying_at (world_of z).network i)))
    go (event.Cut i size) p few = flies (flying_at (world_of z).network i) (few (delivery_line (world_of z) i (λ x. line.Cut i x.from x.to size) (λ x. (if nat_lt size (length x.bytes) then line.Short x.to ∷ [] else arriving partition_count (world_of z) (landed (world_of z).network i) x)) (flying_at (world_of z).network i)))
    go _ p few = tt
