-- Where a run stands: the chronicle, with what is owed and who is about to leave its view; and the tie to the picture.
use Rattle.std.specs.Prelude.{◌≡◌, ◌+◌, ◌<◌, ℕ, Bool, true, false, List, [], ◌∷◌, Option, Some, None, option_map, option_and_then, length, if◌then◌else◌}
use Rattle.std.specs.FinMap as finite
use Rattle.conflict_order.specs.Order.{is_newer}
use Rattle.conflict_order.specs.declared.version.Version.{Version}
use Rattle.cluster_types.specs.declared.cluster_key.ClusterKey.{ClusterKey}
use Rattle.wire_messages.specs.declared.message.Message.{Message}
use Rattle.wire_messages.specs.declared.message.Message.TheVariants as message
use Rattle.wire_messages.specs.Decoding.{message_of}
use Rattle.journal_lines.specs.declared.line.Line.{Line}
use Rattle.journal_lines.specs.declared.line.Line.TheVariants as line
use Rattle.node_rules.specs.Batches.{Target, target}
use Rattle.node_rules.specs.Exchange.{View}
use Rattle.node_rules.specs.Facts.{Facts}
use Rattle.node_rules.specs.Notes.{in_view}
use Rattle.node_rules.specs.Transactions.{transaction}
use Rattle.cluster_rules.specs.Marks.{Mark, Begins, Writes}
use Rattle.journal_readings.specs.Messages.{Posting, Arrival, arrived, arrived_cut}
use Rattle.cluster_rules.specs.Network.{Network, posting_at}
use Rattle.cluster_rules.specs.World.{World, changed_at}
use Rattle.cluster_laws.specs.Ground.{Ground, is_view_member}
use Rattle.cluster_laws.specs.Picture.{Seen, Packet, Owed, Picture}
use Rattle.cluster_laws.specs.Stay.{Stay}
use Rattle.run_laws.specs.Chronicle as chronicle
use Rattle.run_laws.specs.Chronicle.{Chronicle}
use Rattle.run_laws.specs.Tied.{Seens, Stays, Views, RowsAgree, Places, Among}

pub record Front : Type 0 where
  pub chronicle : Chronicle
  -- the merge that a write just delivered has made due
  pub owed : Option Owed
  -- who has given up a transaction and is about to leave its view
  pub closing : ℕ → Bool
  -- how many lines stand
  pub lines : ℕ

abbrev pub world_of : Front → World
world_of z = z.chronicle.traced.world

abbrev pub facts_at : Front → ℕ → Facts
facts_at z n = (world_of z).facts n

-- ---- what a mark adds

abbrev pub owed_if : Facts → ℕ → ClusterKey → List ℕ → Version → Bool → Option Owed → Option Owed
owed_if f n k d v true o =
    (if is_newer f.store.by v (finite.get f.store.content d) then Some (record { node = n; key = k; digest = d; version = v }) else None)
owed_if f n k d v false o = o

-- what a message makes due at its receiver
abbrev pub owed_by : Facts → ℕ → Message → Option Owed → Option Owed
owed_by f n (message.Repl k t nth d v) o = owed_if f n k d v (in_view f k) o
owed_by f n _ o = o

abbrev pub owed_at : World → Option Arrival → Option Owed → Option Owed
owed_at w None o = o
owed_at w (Some x) o = owed_by (w.facts x.to) x.to x.message o

abbrev pub owed_after : World → Line → Option Owed → Option Owed
owed_after w (line.Deliver i a b) o =
    owed_at w (option_and_then (arrived b) (posting_at w.network i)) o
owed_after w (line.Repeat i a b) o =
    owed_at w (option_and_then (arrived b) (posting_at w.network i)) o
owed_after w (line.Cut i a b size) o =
    owed_at w (option_and_then (arrived_cut b size) (posting_at w.network i)) o
owed_after w (line.Merge n k d v) o = None
owed_after w _ o = o

abbrev pub closing_after : Line → (ℕ → Bool) → ℕ → Bool
closing_after (line.Aborted n k t) c = changed_at c n true
closing_after (line.Doubt n k t) c = changed_at c n true
closing_after (line.Enter n k ms) c = changed_at c n false
closing_after (line.Stop n) c = changed_at c n false
closing_after _ c = c

abbrev pub front_after : Front → Mark → Front
front_after z (Begins e) = record {
  chronicle = chronicle.chronicle_after z.chronicle (Begins e);
  owed = z.owed;
  closing = z.closing;
  lines = z.lines;
}
front_after z (Writes l) = record {
  chronicle = chronicle.chronicle_after z.chronicle (Writes l);
  owed = owed_after (world_of z) l z.owed;
  closing = closing_after l z.closing;
  lines = z.lines + 1;
}

-- marks one after another
abbrev pub front_after_all : Front → List Mark → Front
front_after_all z [] = z
front_after_all z (m ∷ ms) = front_after_all (front_after z m) ms

-- ---- the tie

-- a message as the picture has it
abbrev pub packet_of : Posting → Packet
packet_of p = record {
  from = p.from;
  to = p.to;
  size = length p.bytes;
  message = message_of p.bytes;
}

-- one node: what it keeps from view to view, and its stay in the view that it is in
pub record NodeTie (f : Facts) (x : Seen) (stay_of : ClusterKey → Stay) (time : ℕ) (leaves : Bool)
    : Type 0 where
  pub seen : Seens f x
  pub clock : x.clock ≡ time
  pub stay : (v : View) → f.exchange.view ≡ Some v → Stays f (stay_of v.key)
  pub closing : (v : View) → f.exchange.view ≡ Some v → (stay_of v.key).closing ≡ leaves

pub record Ties (facts : ℕ → Facts) (clocks : ℕ → ℕ) (closing : ℕ → Bool) (net : Network)
    (due : Option Owed) (node : ℕ → Seen) (stay : ℕ → ClusterKey → Stay)
    (packet : ℕ → Option Packet) (owed : Option Owed) : Type 0 where
  pub nodes : (n : ℕ) → NodeTie (facts n) (node n) (stay n) (clocks n) (closing n)
  pub packets : (i : ℕ) → packet i ≡ option_map packet_of (posting_at net i)
  pub owing : owed ≡ due

-- the picture is tied to the front
abbrev pub Tied : Front → Picture → Type 0
Tied z w =
    Ties (world_of z).facts (world_of z).clocks z.closing (world_of z).network z.owed w.node w.stay
    w.packet w.owed

-- ---- what holds of the facts at every line

pub record SaneNode (G : Ground) (n : ℕ) (f : Facts) : Type 0 where
  pub me : f.me ≡ n
  pub by : G.by ≡ f.store.by
  pub factor : G.factor ≡ f.factor
  -- the view is that of the list of its key, in which the node stands
  pub view : (v : View) → f.exchange.view ≡ Some v → Views G v.key f
  pub member : (v : View) → f.exchange.view ≡ Some v → is_view_member G v.key n ≡ true
  -- once the exchange is over, rows are those of the ground; before it is, nothing is handed on
  pub rows : (v : View) → f.exchange.view ≡ Some v → f.exchange.exchanged ≡ true
      → RowsAgree G v.key f.exchange.rows
  pub quiet : f.exchange.exchanged ≡ false → f.batches ≡ []
  pub places : Places f
  -- no transaction has a number above the last one
  pub counted : (t : ℕ) → f.transactions.opened < t → transaction f.transactions t ≡ None
  -- what is handed on is found by its receiver
  pub aims : (t : Target) → Among f.batches t → target f.batches t.node ≡ Some t

pub record Sane (G : Ground) (w : World) : Type 0 where
  pub nodes : (n : ℕ) → SaneNode G n (w.facts n)
  -- the client is in no view
  pub client : (w.facts 0).exchange.view ≡ None
