-- What is kept of requests counts for no line that is due: lines that are due are due where other requests are kept. For steps
-- of nodes that have requests of others.
use Rattle.std.proofs.Common.{◌≡◌, ℕ, ◌+◌, Bool, List, [], ◌∷◌, Option, Some, None, refl, sym, subst, inl, inr}
use Rattle.std.specs.Prelude.{option_and_then}
use Rattle.conflict_order.specs.declared.version.Version.{Version}
use Rattle.cluster_types.specs.declared.cluster_key.ClusterKey.{ClusterKey}
use Rattle.journal_lines.specs.declared.line.Line.{Line}
use Rattle.journal_lines.specs.declared.line.Line.TheVariants as line
use Rattle.journal_readings.specs.Messages.{Arrival, arrived, arrived_cut}
use Rattle.node_rules.specs.Transactions.{Transaction}
use Rattle.wire_messages.specs.declared.message.Message.{Message}
use Rattle.wire_messages.specs.declared.message.Message.TheVariants as message
use Rattle.wire_messages.specs.Decoding.{message_of}
use Rattle.request_rules.specs.Requests.{Requests}
use Rattle.cluster_rules.specs.Marks.{Mark, Begins, Writes}
use Rattle.cluster_rules.specs.Network.{posting_at}
use Rattle.key_laws.specs.Traced.{traced_after}
use Rattle.key_laws.proofs.OtherRequests as keys
use Rattle.key_laws.proofs.OtherRequests.{KeepsOther, keeping}
use Rattle.run_laws.specs.Chronicle.{rows_after}
use Rattle.run_laws.specs.Fronts.{Front, world_of, front_after, front_after_all, owed_after, owed_at, closing_after}
use Rattle.run_laws.specs.LineOk.{Came, Brings, StandsInView, Resolves, SettlingOk}
use Rattle.run_laws.specs.LineDue.{SendDueIf, LineMay, AllDue}
use Rattle.run_laws.proofs.Calmly.{Calm, send_calm}

-- ---- other requests

-- the front where these requests are kept and so many lines stand
abbrev pub front_keeping : Front → Requests → ℕ → Front
front_keeping z kept count = record {
  chronicle = record { traced = keeping z.chronicle.traced kept; rows = z.chronicle.rows };
  owed = z.owed;
  closing = z.closing;
  lines = count;
}

-- the second front differs from the first in what is kept of requests and in how many lines stand
pub record FrontKeepsOther (z y : Front) : Type 0 where
  pub kept : Requests
  pub count : ℕ
  pub same : y ≡ front_keeping z kept count

pub same_front : (z : Front) → FrontKeepsOther z z
same_front z = record { kept = (world_of z).requests; count = z.lines; same = refl }

pub other_front_on : (x y z : Front) → FrontKeepsOther x y → FrontKeepsOther y z → FrontKeepsOther x z
other_front_on x y z a b = record { kept = b.kept; count = b.count; same = subst (λ (w : Front). z ≡ front_keeping w b.kept b.count) a.same b.same }

-- nothing that a message says changes
keeping_calm : (z : Front) (kept : Requests) (count : ℕ) → Calm z (front_keeping z kept count)
keeping_calm z kept count = record {
  facts = λ m. refl;
  closing = λ m. refl;
  owed = refl;
  nodes = refl;
  longer = record { entered = λ n k e. e; lists = λ k ms e. e; rows = λ n k e. refl };
  came = λ from to m c. record { number = c.number; posting = c.posting; sent = c.sent; ends = c.ends; message = c.message };
}

pub other_calm : (z y : Front) → FrontKeepsOther z y → Calm z y
other_calm z y h = subst (λ (x : Front). Calm z x) (sym h.same) (keeping_calm z h.kept h.count)

-- ---- a mark

rows_same : (z : Front) (kept : Requests) (count : ℕ) (l : Line) → rows_after (front_keeping z kept count).chronicle (Writes l) ≡ rows_after z.chronicle (Writes l)
rows_same z kept count (line.Enter n k ms) = refl
rows_same z kept count _ = refl

came_same : (z : Front) (kept : Requests) (count : ℕ) (x : Option Arrival) → owed_at (world_of (front_keeping z kept count)) x z.owed ≡ owed_at (world_of z) x z.owed
came_same z kept count None = refl
came_same z kept count (Some x) = refl

owed_same : (z : Front) (kept : Requests) (count : ℕ) (l : Line) → owed_after (world_of (front_keeping z kept count)) l z.owed ≡ owed_after (world_of z) l z.owed
owed_same z kept count (line.Deliver i a b) = came_same z kept count (option_and_then (arrived b) (posting_at (world_of z).network i))
owed_same z kept count (line.Repeat i a b) = came_same z kept count (option_and_then (arrived b) (posting_at (world_of z).network i))
owed_same z kept count (line.Cut i a b size) = came_same z kept count (option_and_then (arrived_cut b size) (posting_at (world_of z).network i))
owed_same z kept count _ = refl

line_keeping : (z : Front) (kept : Requests) (count : ℕ) (l : Line) → FrontKeepsOther (front_after z (Writes l)) (front_after (front_keeping z kept count) (Writes l))
line_keeping z kept count l =
    let s : KeepsOther (traced_after z.chronicle.traced (Writes l)) (traced_after (keeping z.chronicle.traced kept) (Writes l)) =
    keys.after_other z.chronicle.traced (keeping z.chronicle.traced kept) (Writes l) (record { kept = kept; same = refl }) in
    record {
      kept = s.kept;
      count = count + 1;
      same = λ i. record {
        chronicle = record { traced = s.same i; rows = rows_same z kept count l i };
        owed = owed_same z kept count l i;
        closing = closing_after l z.closing;
        lines = count + 1;
      };
    }

mark_keeping : (z : Front) (kept : Requests) (count : ℕ) (m : Mark) → FrontKeepsOther (front_after z m) (front_after (front_keeping z kept count) m)
mark_keeping z kept count (Begins e) = record { kept = kept; count = count; same = refl }
mark_keeping z kept count (Writes l) = line_keeping z kept count l

pub other_after : (z y : Front) (m : Mark) → FrontKeepsOther z y → FrontKeepsOther (front_after z m) (front_after y m)
other_after z y m h = subst (λ (x : Front). FrontKeepsOther (front_after z m) (front_after x m)) (sym h.same) (mark_keeping z h.kept h.count m)

pub other_after_all : (z y : Front) (ms : List Mark) → FrontKeepsOther z y → FrontKeepsOther (front_after_all z ms) (front_after_all y ms)
other_after_all z y [] h = h
other_after_all z y (m ∷ ms) h = other_after_all (front_after z m) (front_after y m) ms (other_after z y m h)

-- ---- lines that are due

stands_keeping : (z : Front) (kept : Requests) (count n : ℕ) (k : ClusterKey) → StandsInView z n k → StandsInView (front_keeping z kept count) n k
stands_keeping z kept count n k h = record { view = h.view; stays = h.stays }

came_keeping : (z : Front) (kept : Requests) (count from to : ℕ) (m : Message) → Came z from to m → Came (front_keeping z kept count) from to m
came_keeping z kept count from to m c = record { number = c.number; posting = c.posting; sent = c.sent; ends = c.ends; message = c.message }

brings_keeping : (z : Front) (kept : Requests) (count n : ℕ) (k : ClusterKey) (d : List ℕ) (v : Version) (from : ℕ) → Brings z n k d v from → Brings (front_keeping z kept count) n k d v from
brings_keeping z kept count n k d v from (inl b) = inl (b.0, came_keeping z kept count from n (message.Batch b.0) b.1, b.2, b.3)
brings_keeping z kept count n k d v from (inr c) = inr (record { number = c.number; nth = c.nth; came = came_keeping z kept count from n (message.Repl k c.number c.nth d v) c.came; counted = c.counted })

resolves_keeping : (z : Front) (kept : Requests) (count n : ℕ) (k : ClusterKey) (t : ℕ) (d : List ℕ) (y : Transaction) → Resolves z n k t d y → Resolves (front_keeping z kept count) n k t d y
resolves_keeping z kept count n k t d y h = record { stands = stands_keeping z kept count n k h.stands; running = h.running; digest = h.digest; unapplied = h.unapplied; answered = h.answered }

settling_keeping : (z : Front) (kept : Requests) (count n : ℕ) (k : ClusterKey) (p : ℕ) (test : Bool) → SettlingOk z n k p test → SettlingOk (front_keeping z kept count) n k p test
settling_keeping z kept count n k p test h = record { stands = stands_keeping z kept count n k h.stands; passes = h.passes }

says_keeping : (z : Front) (kept : Requests) (count n r : ℕ) (o : Option Message) → SendDueIf z n r o → SendDueIf (front_keeping z kept count) n r o
says_keeping z kept count n r None h = h
says_keeping z kept count n r (Some m) h = send_calm z (front_keeping z kept count) n r m (keeping_calm z kept count) h

may_keeping : (z : Front) (kept : Requests) (count : ℕ) (l : Line) → LineMay z l → LineMay (front_keeping z kept count) l
may_keeping z kept count (line.Merge n k d v) h = record { stands = stands_keeping z kept count n k h.stands; from = h.from; brings = brings_keeping z kept count n k d v h.from h.brings; owed = h.owed; declared = h.declared }
may_keeping z kept count (line.Exchanged n k) h = (h.0, record { stands = stands_keeping z kept count n k h.1.stands; first = h.1.first; none = h.1.none })
may_keeping z kept count (line.Opened n k t d a) h = (
  h.0,
  record {
    opens = record { stands = stands_keeping z kept count n k h.1.opens.stands; number = h.1.opens.number; acts = h.1.opens.acts; free = h.1.opens.free };
    digest = h.1.digest;
    wanted = h.1.wanted;
  },
)
may_keeping z kept count (line.Value n k t d v) h = (h.0, record { item = h.1.item; resolves = resolves_keeping z kept count n k t d h.1.item h.1.resolves; best = h.1.best })
may_keeping z kept count (line.Apply n k t d v) h = (
  h.0,
  record {
    applies = record { item = h.1.applies.item; resolves = resolves_keeping z kept count n k t d h.1.applies.item h.1.applies.resolves; next = h.1.applies.next; declared = h.1.applies.declared };
    body = h.1.body;
  },
)
may_keeping z kept count (line.Done n k t) h = (h.0, record { stands = stands_keeping z kept count n k h.1.stands; item = h.1.item; write = h.1.write; running = h.1.running; applied = h.1.applied; acked = h.1.acked })
may_keeping z kept count (line.Aborted n k t) h = (h.0, record { view = h.1.view })
may_keeping z kept count (line.Doubt n k t) h = (h.0, record { view = h.1.view })
may_keeping z kept count (line.Handed n k p) h = (h.0, settling_keeping z kept count n k p _ h.1)
may_keeping z kept count (line.Settled n k p) h = (h.0, settling_keeping z kept count n k p _ h.1)
may_keeping z kept count (line.Learn n k p) h = (h.0, settling_keeping z kept count n k p _ h.1)
may_keeping z kept count (line.Drop n k p) h = (h.0, settling_keeping z kept count n k p _ h.1)
may_keeping z kept count (line.Sent i a b bytes) h = (h.0, record { number = h.1.number; says = says_keeping z kept count a b (message_of bytes) h.1.says })
may_keeping z kept count (line.Map n k p ms a) h = (h.0, record { stands = stands_keeping z kept count n k h.1.stands; exchanged = h.1.exchanged; shown = h.1.shown; acting = h.1.acting })
may_keeping z kept count (line.Calm rounds) h = (h.0, record { calm = h.1.calm; stays = h.1.stays })
may_keeping z kept count _ h = h

pub other_due : (z y : Front) (ls : List Line) → FrontKeepsOther z y → AllDue z ls → AllDue y ls
other_due z y [] s h = tt
other_due z y (l ∷ ls) s h = (subst (λ (x : Front). LineMay x l) (sym s.same) (may_keeping z s.kept s.count l h.0), other_due (front_after z (Writes l)) (front_after y (Writes l)) ls (other_after z y (Writes l) s) h.1)
