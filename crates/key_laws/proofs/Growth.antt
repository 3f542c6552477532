-- What can't become false.
use Rattle.std.proofs.Common.{ℕ, List, [], ◌∷◌, Option, Some, None}
use Rattle.cluster_types.specs.declared.cluster_key.ClusterKey.{ClusterKey}
use Rattle.cluster_types.specs.declared.copy_state.CopyState.{CopyState}
use Rattle.cluster_types.specs.declared.copy_state.CopyState.TheVariants.{Empty, Part, Whole}
use Rattle.cluster_types.specs.declared.member.Member.{Member}
use Rattle.wire_messages.specs.declared.message.Message.{Message}
use Rattle.wire_messages.specs.declared.message.Message.TheVariants as message
use Rattle.wire_messages.specs.declared.message.MapTable.{MapTable}
use Rattle.wire_messages.specs.declared.message.Batch.{Batch}
use Rattle.node_rules.specs.Agreement.{Agreement, Proposal}
use Rattle.node_rules.specs.Batches.{Targets}
use Rattle.node_rules.specs.declared.member_row.MemberRow.{MemberRow}
use Rattle.node_rules.specs.Copies.{Row}
use Rattle.node_rules.specs.Exchange.{View}
use Rattle.node_rules.specs.Facts.{Facts}
use Rattle.node_rules.specs.Hearing.{Heard}
use Rattle.node_rules.specs.Tables.{Table}
use Rattle.key_laws.specs.Traced.{Traced}
use Rattle.key_laws.specs.Licences.{IsPromisedKey, CopyOf, RowOf, Says, SaysIf, Visited}
use Rattle.key_laws.proofs.Order.{at_most_refl, at_most_trans}
use Rattle.key_laws.specs.Sound.{ProposalStands, Agrees, ViewStands, HeardAll, Hears, OutKnown, Outs, RowsKnown, NodeKeys, Listed, Shown, Grows}

pub same_grows : (t : Traced) → Grows t t
same_grows t = record { promised = λ n. at_most_refl _; lists = λ k ms e. e; sent = λ i p e. e; entered = λ n k e. e }

pub grows_on : (t u v : Traced) → Grows t u → Grows u v → Grows t v
grows_on t u v g h = record {
  promised = λ n. at_most_trans (g.promised n) (h.promised n);
  lists = λ k ms e. h.lists k ms (g.lists k ms e);
  sent = λ i p e. h.sent i p (g.sent i p e);
  entered = λ n k e. h.entered n k (g.entered n k e);
}

pub known_grows : (t u : Traced) → Grows t u → (k : ClusterKey) → IsPromisedKey t k
    → IsPromisedKey u k
known_grows t u g k h = record { bound = at_most_trans h.bound (g.promised k.principal); field = h.field }

copy_grows : (t u : Traced) → Grows t u → (c : CopyState) → CopyOf (λ k. IsPromisedKey t k) c → CopyOf (λ k. IsPromisedKey u k) c
copy_grows t u g Empty h = h
copy_grows t u g Part h = h
copy_grows t u g (Whole k writes) h = known_grows t u g k h

pub row_grows : (t u : Traced) → Grows t u → (row : Row) → RowOf (λ k. IsPromisedKey t k) row → RowOf (λ k. IsPromisedKey u k) row
row_grows t u g [] h = tt
row_grows t u g (e ∷ es) h = (copy_grows t u g e.1 h.0, row_grows t u g es h.1)

pub rows_grow : (t u : Traced) → Grows t u → (rs : List MemberRow) → RowsKnown t rs → RowsKnown u rs
rows_grow t u g [] h = tt
rows_grow t u g (r ∷ rs) h = (row_grows t u g r.row h.0, rows_grow t u g rs h.1)

pub visited_grows : (t u : Traced) → Grows t u → (n : ℕ) (k : ClusterKey) → Visited t n k → Visited u n k
visited_grows t u g n k h = record { known = known_grows t u g k h.known; entered = g.entered n k h.entered }

pub says_grows : (t u : Traced) → Grows t u → (a : ℕ) (m : Message) → Says t a m → Says u a m
says_grows t u g a (message.Heartbeat view promised hears role) h = (h.0, known_grows t u g view h.1, known_grows t u g promised h.2)
says_grows t u g a (message.Propose k ms) h = (h.0, g.lists k ms h.1)
says_grows t u g a (message.Accept k) h = known_grows t u g k h
says_grows t u g a (message.Refuse k promised) h = (known_grows t u g k h.0, known_grows t u g promised h.1)
says_grows t u g a (message.Commit k ms) h = g.lists k ms h
says_grows t u g a (message.State k wants row) h = (known_grows t u g k h.0, row_grows t u g row h.1)
says_grows t u g a (message.Batch b) h = known_grows t u g b.key h
says_grows t u g a (message.BatchAck k number) h = known_grows t u g k h
says_grows t u g a (message.Progress k wants done handed settled) h = known_grows t u g k h
says_grows t u g a (message.Repl k number nth d v) h = known_grows t u g k h
says_grows t u g a (message.ReplAck k number) h = known_grows t u g k h
says_grows t u g a (message.Ask k number d) h = known_grows t u g k h
says_grows t u g a (message.Answer k number v) h = known_grows t u g k h
says_grows t u g a message.MapAsk h = h
says_grows t u g a (message.MapTable table) h = known_grows t u g table.key h
says_grows t u g a (message.Proxy k number d want) h = known_grows t u g k h
says_grows t u g a (message.ProxyReply k number reply) h = known_grows t u g k h
says_grows t u g a (message.Call number d want) h = h
says_grows t u g a (message.Reply k number reply) h = known_grows t u g k h
says_grows t u g a (message.ScanAsk scan p d) h = h
says_grows t u g a (message.ScanPage page) h = known_grows t u g page.key h
says_grows t u g a (message.ScanNo scan refusal) h = h

pub says_if_grows : (t u : Traced) → Grows t u → (a : ℕ) (m : Option Message) → SaysIf t a m → SaysIf u a m
says_if_grows t u g a None h = tt
says_if_grows t u g a (Some m) h = says_grows t u g a m h

pub stands_grows : (t u : Traced) → Grows t u → (n : ℕ) (promised last : ClusterKey) (p : Option Proposal) → ProposalStands t n promised last p → ProposalStands u n promised last p
stands_grows t u g n promised last None h = tt
stands_grows t u g n promised last (Some p) h = record { key = h.key; above = h.above; own = h.own; list = g.lists _ _ h.list }

pub agrees_grows : (t u : Traced) → Grows t u → (n : ℕ) (a : Agreement) → Agrees t n a → Agrees u n a
agrees_grows t u g n a h = record {
  ordered = h.ordered;
  promised = known_grows t u g _ h.promised;
  last = known_grows t u g _ h.last;
  proposal = stands_grows t u g n a.promised a.last a.proposal h.proposal;
}

pub views_grow : (t u : Traced) → Grows t u → (n : ℕ) (last : ClusterKey) (v : Option View) → ViewStands t n last v → ViewStands u n last v
views_grow t u g n last None h = tt
views_grow t u g n last (Some v) h = record { key = h.key; list = g.lists _ _ h.list; entered = g.entered n v.key h.entered; among = h.among }

heard_all_grow : (t u : Traced) → Grows t u → (es : Table Heard) → HeardAll t es → HeardAll u es
heard_all_grow t u g [] h = tt
heard_all_grow t u g (e ∷ es) h =
    (record { sender = h.0.sender; view = known_grows t u g _ h.0.view; promised = known_grows t u g _ h.0.promised }, heard_all_grow t u g es h.1)

pub hears_grow : (t u : Traced) → Grows t u → (es : Table Heard) → Hears t es → Hears u es
hears_grow t u g es h = record { rises = h.rises; each = heard_all_grow t u g es h.each }

out_grows : (t u : Traced) → Grows t u → (b : Option Batch) → OutKnown t b → OutKnown u b
out_grows t u g None h = tt
out_grows t u g (Some b) h = known_grows t u g b.key h

pub outs_grow : (t u : Traced) → Grows t u → (xs : Targets) → Outs t xs → Outs u xs
outs_grow t u g [] h = tt
outs_grow t u g (x ∷ xs) h = (out_grows t u g x.out h.0, outs_grow t u g xs h.1)

pub node_grows : (t u : Traced) → Grows t u → (n : ℕ) (f : Facts) → NodeKeys t n f → NodeKeys u n f
node_grows t u g n f h = record {
  me = h.me;
  agrees = agrees_grows t u g n f.agreement h.agrees;
  view = views_grow t u g n f.agreement.last f.exchange.view h.view;
  hears = hears_grow t u g f.hearing.heard h.hears;
  outs = outs_grow t u g f.batches h.outs;
  rows = rows_grow t u g f.exchange.rows h.rows;
  stamps = record { each = λ p s e. known_grows t u g s.0 (h.stamps.each p s e) };
  finished = λ e. g.entered n _ (h.finished e);
}

pub listed_grows : (t u : Traced) → Grows t u → (k : ClusterKey) (ms : List Member) → Listed t k ms → Listed u k ms
listed_grows t u g k ms h = record { known = known_grows t u g k h.known; key = h.key; good = h.good }

pub shown_grow : (t u : Traced) → Grows t u → (xs : List MapTable) → Shown t xs → Shown u xs
shown_grow t u g [] h = tt
shown_grow t u g (x ∷ xs) h = (known_grows t u g x.key h.0, shown_grow t u g xs h.1)
