-- Each line keeps who is declared: whom nodes hear, propose views to and list, between whom messages go, and what the client has.
use Rattle.std.proofs.Common.{◌≡◌, ◌<◌, ◌^◌, ℕ, ◌==◌, ⊎_elim, Bool, true, false, List, [], ◌∷◌, ◌++◌, Option, Some, None, refl, sym, ap, subst, ◌∙◌, arith}
use Rattle.std.specs.Prelude.{slice_get, nat_le, nat_lt, length, option_map, option_and_then, if◌then◌else◌}
use Rattle.conflict_order.specs.declared.want.Want.{Want}
use Rattle.cluster_types.specs.declared.cluster_key.ClusterKey.{ClusterKey}
use Rattle.cluster_types.specs.declared.member.Member.{Member}
use Rattle.cluster_types.specs.declared.member.Role.{Role}
use Rattle.cluster_types.specs.Distinct.{without}
use Rattle.cluster_types.specs.Partitions.{partition_of}
use Rattle.partition_lists.specs.Lists.{in_order}
use Rattle.wire_messages.specs.declared.message.MapTable.{MapTable}
use Rattle.wire_messages.specs.declared.message.Message.{Message}
use Rattle.wire_messages.specs.declared.message.Message.TheVariants as message
use Rattle.wire_messages.specs.Decoding.{message_of}
use Rattle.wire_messages.specs.Proper.{IsProper}
use Rattle.wire_messages.proofs.DecodingLaws.{what_is_read}
use Rattle.journal_lines.specs.declared.line.Line.{Line}
use Rattle.journal_lines.specs.declared.line.Line.TheVariants as line
use Rattle.node_rules.specs.Agreement as agreement
use Rattle.node_rules.specs.Agreement.{Agreement, Proposal, proposes, proposal_of, accepted_by}
use Rattle.node_rules.specs.Exchange.{is_member}
use Rattle.node_rules.specs.Facts.{Facts, list_at}
use Rattle.node_rules.specs.Hearing.{Heard}
use Rattle.node_rules.specs.Keys.{same_key}
use Rattle.node_rules.specs.Map.{list_master}
use Rattle.node_rules.specs.Notes as notes
use Rattle.node_rules.specs.Notes.{note, neighbours, reached, sent, in_view}
use Rattle.node_rules.specs.Tables.{Table}
use Rattle.request_rules.specs.Requests.{Requests}
use Rattle.cluster_rules.specs.declared.event.Event.{Event}
use Rattle.cluster_rules.specs.declared.event.Event.TheVariants as event
use Rattle.cluster_rules.specs.Marks as marks
use Rattle.cluster_rules.specs.Marks.{Begins, Writes, came_to_client, came_to_node}
use Rattle.journal_readings.specs.Messages.{Posting, Arrival, arrived, arrived_cut}
use Rattle.cluster_rules.specs.Network.{posting, posting_at}
use Rattle.cluster_rules.specs.World.{World, changed_at}
use Rattle.node_rules.specs.Messages.{client}
use Rattle.key_laws.specs.Ends.{is_map_ask, IsOneOf, TableNames, TellsIf, FromNode, GoesRight, LineNames}
use Rattle.key_laws.specs.Traced.{Traced, facts_of, traced_after, with_list}
use Rattle.key_laws.proofs.Addressed.{Among, among_without}
use Rattle.key_laws.proofs.Directed.{WentTo, LineGoes}
use Rattle.key_laws.proofs.Frames.{at_each}
use Rattle.key_laws.proofs.Kept.{WasPosted, was_posted, more}
use Rattle.key_laws.proofs.NamedLines.{HeardAs, MembersAs, heard_put, heard_aged, heard_weak, neighbours_as, neighbours_are, member_is}

-- ---- a node

abbrev pub peers_of : List ℕ → ℕ → List ℕ
peers_of ns n = in_order nat_lt (without ns n)

-- whoever hasn't accepted a proposal is another of its members
pub record Missing (me : ℕ) (a : Agreement) : Type 0 where
  pub each : (p : Proposal) → a.proposal ≡ Some p
      → Among (agreement.others_among me p.members) p.missing

-- a rack that has a spelling
abbrev pub FitsRack : ℕ → Role → Type 0
FitsRack n role = role.rack < 2 ^ 8

-- another declared node
pub record Neighbour (ns : List ℕ) (me n : ℕ) (role : Role) : Type 0 where
  pub node : IsOneOf ns n
  pub other : n ≡ me → ⊥
  pub rack : FitsRack n role

-- the parts of a node's facts: its number, its peers, whether it runs, its role, whom it hears, and what it proposes
pub record NodeEnds (ns : List ℕ) (n own : ℕ) (near : List ℕ) (runs : Bool) (part : Role) (es : Table Heard) (a : Agreement) : Type 0 where
  pub me : own ≡ n
  pub peers : near ≡ peers_of ns n
  pub up : runs ≡ true → IsOneOf ns n
  pub rack : FitsRack n part
  pub heard : HeardAs (Neighbour ns n) es
  pub missing : Missing own a

abbrev pub EndsOf : List ℕ → ℕ → Facts → Type 0
EndsOf ns n f = NodeEnds ns n f.me f.peers f.up f.role f.hearing.heard f.agreement

-- ---- what a proposal misses

no_proposal : {p : Proposal} {A : Type 0} → None ≡ Some p → A
no_proposal {p} {A} e = cc

none_missing : (me : ℕ) (a : Agreement) → a.proposal ≡ None → Missing me a
none_missing me a e = record { each = λ p i. no_proposal (sym e ∙ i) }

kept_missing : (me : ℕ) (a b : Agreement) (test : Bool) → b.proposal ≡ (if test then a.proposal else None) → Missing me a → Missing me b
kept_missing me a b true e h = record { each = λ p i. h.each p (sym e ∙ i) }
kept_missing me a b false e h = none_missing me b e

same_missing : (me : ℕ) (a b : Agreement) → b.proposal ≡ a.proposal → Missing me a → Missing me b
same_missing me a b e h = record { each = λ p i. h.each p (sym e ∙ i) }

some_same : {A : Type 0} {x y : A} → Some x ≡ Some y → x ≡ y
some_same {A} {x} {y} e = grind arith

accepted_missing : (me : ℕ) (a : Agreement) (from : ℕ) (k : ClusterKey) → Missing me a → Missing me (agreement.accepting a from k)
accepted_missing me a from k h = go (proposes a.proposal k)
  where
    one : (o : Option Proposal) → a.proposal ≡ o → (p : Proposal) → agreement.accepted_by o from ≡ Some p → Among (agreement.others_among me p.members) p.missing
    one None e p i = no_proposal i
    one (Some q) e p i = subst (λ (x : Proposal). Among (agreement.others_among me x.members) x.missing) (some_same i) (among_without (agreement.others_among me q.members) q.missing from (h.each q e))

    go : (b : Bool) → Missing me (if b then record a { proposal = accepted_by a.proposal from } else a)
    go true = record { each = one a.proposal refl }
    go false = h

refused_missing : (me : ℕ) (a : Agreement) (k promised : ClusterKey) → Missing me a → Missing me (agreement.seeing (agreement.refused a k) promised)
refused_missing me a k promised h = go (proposes a.proposal k)
  where
    go : (b : Bool) → Missing me (agreement.seeing (if b then record a { proposal = None } else a) promised)
    go true = none_missing me _ refl
    go false = same_missing me a _ refl h

proposed_missing : (me : ℕ) (a : Agreement) (k : ClusterKey) (ms : List Member) → Missing me a → Missing me (agreement.proposing a me k ms)
proposed_missing me a k ms h = go (proposes a.proposal k)
  where
    go : (b : Bool) → Missing me (if b then a else record a { proposal = Some (proposal_of me k ms) })
    go true = h
    go false = record { each = λ p i. subst (λ (x : Proposal). Among (agreement.others_among me x.members) x.missing) (some_same i) (record { each = λ n e. e }) }

-- ---- lines of the node

-- all parts but one or two are the same
with_missing : {ns : List ℕ} {n own : ℕ} {near : List ℕ} {runs : Bool} {part : Role} {es : Table Heard} {a : Agreement} (b : Agreement) → NodeEnds ns n own near runs part es a → Missing own b → NodeEnds ns n own near runs part es b
with_missing {ns} {n} {own} {near} {runs} {part} {es} {a} b h m = record { me = h.me; peers = h.peers; up = h.up; rack = h.rack; heard = h.heard; missing = m }

note_ends : (ns : List ℕ) (n : ℕ) (q : Option Want) (f : Facts) (l : Line) → ((m : ℕ) → l ≡ line.Start m → IsOneOf ns n) → EndsOf ns n f → EndsOf ns n (note q f l)
note_ends ns n q f (line.Tick m) s h = record { me = h.me; peers = h.peers; up = h.up; rack = h.rack; heard = heard_aged (Neighbour ns n) f.hearing.heard h.heard; missing = kept_missing f.me f.agreement _ _ refl h.missing }
note_ends ns n q f (line.Stop m) s h = record { me = h.me; peers = h.peers; up = λ e. absurd (grind arith); rack = h.rack; heard = tt; missing = none_missing f.me _ refl }
note_ends ns n q f (line.Start m) s h = record { me = h.me; peers = h.peers; up = λ e. s m refl; rack = h.rack; heard = h.heard; missing = h.missing }
note_ends ns n q f (line.Quiesce m) s h = record { me = h.me; peers = h.peers; up = h.up; rack = h.rack; heard = h.heard; missing = h.missing }
note_ends ns n q f (line.Unquiesce m) s h = record { me = h.me; peers = h.peers; up = h.up; rack = h.rack; heard = h.heard; missing = h.missing }
note_ends ns n q f (line.Promise m key) s h = with_missing _ h (kept_missing f.me f.agreement _ _ refl h.missing)
note_ends ns n q f (line.Enter m key ms) s h = with_missing _ h (none_missing f.me _ refl)
note_ends ns n q f (line.Exchanged m key) s h = h
note_ends ns n q f (line.Opened m key t d a) s h = h
note_ends ns n q f (line.Value m key t d v) s h = h
note_ends ns n q f (line.Apply m key t d v) s h = h
note_ends ns n q f (line.Done m key t) s h = h
note_ends ns n q f (line.Aborted m key t) s h = h
note_ends ns n q f (line.Doubt m key t) s h = h
note_ends ns n q f (line.Merge m key d v) s h = h
note_ends ns n q f (line.Handed m key p) s h = h
note_ends ns n q f (line.Settled m key p) s h = h
note_ends ns n q f (line.Learn m key p) s h = h
note_ends ns n q f (line.Drop m key p) s h = h
note_ends ns n q f _ s h = h

-- ---- messages that reach the node, and that it sent

reached_ends : (ns : List ℕ) (n : ℕ) (f : Facts) (from : ℕ) (m : Message) → IsProper m → (is_map_ask m ≡ false → FromNode (IsOneOf ns) from n) → EndsOf ns n f → EndsOf ns n (reached f from m)
reached_ends ns n f from (message.Heartbeat view promised hears role) p s h = record { me = h.me; peers = h.peers; up = h.up; rack = h.rack; heard = heard_put (Neighbour ns n) from _ f.hearing.heard (record { node = (s refl).sender; other = (s refl).differ; rack = p.3 }) h.heard; missing = same_missing f.me f.agreement _ refl h.missing }
reached_ends ns n f from (message.Accept k) p s h = with_missing _ h (accepted_missing f.me f.agreement from k h.missing)
reached_ends ns n f from (message.Refuse k promised) p s h = with_missing _ h (refused_missing f.me f.agreement k promised h.missing)
reached_ends ns n f from (message.State k wants row) p s h = by_bool (in_view f k)
  where
    by_bool : (q : Bool) → EndsOf ns n (notes.row_came f from row q)
    by_bool true = h
    by_bool false = h
reached_ends ns n f from (message.BatchAck k number) p s h = by_bool (in_view f k)
  where
    by_bool : (q : Bool) → EndsOf ns n (notes.batch_acked f from number q)
    by_bool true = h
    by_bool false = h
reached_ends ns n f from (message.Progress k wants done handed settled) p s h = by_bool (in_view f k)
  where
    by_bool : (q : Bool) → EndsOf ns n (notes.progress_came f from done handed settled q)
    by_bool true = h
    by_bool false = h
reached_ends ns n f from (message.Repl k t nth d v) p s h = by_bool (in_view f k)
  where
    counted : (l : List ℕ) (p : ℕ) (q : Bool) → EndsOf ns n (notes.write_counted_if f k l p nth q)
    counted l p true = h
    counted l p false = h

    by_bool : (q : Bool) → EndsOf ns n (notes.write_came f from k nth (partition_of d) q)
    by_bool true = counted (list_at f (partition_of d)) (partition_of d) (from == list_master (list_at f (partition_of d)))
    by_bool false = h
reached_ends ns n f from (message.ReplAck k t) p s h = by_bool (in_view f k)
  where
    by_bool : (q : Bool) → EndsOf ns n (notes.write_acked f from t q)
    by_bool true = h
    by_bool false = h
reached_ends ns n f from (message.Answer k t v) p s h = by_bool (in_view f k)
  where
    by_bool : (q : Bool) → EndsOf ns n (notes.answer_came f from t v q)
    by_bool true = h
    by_bool false = h
reached_ends ns n f from _ p s h = h

sent_ends : (ns : List ℕ) (n : ℕ) (f : Facts) (to : ℕ) (m : Message) → EndsOf ns n f → EndsOf ns n (sent f to m)
sent_ends ns n f to (message.Propose k ms) h = with_missing _ h (proposed_missing f.me f.agreement k ms h.missing)
sent_ends ns n f to (message.Batch b) h = h
sent_ends ns n f to _ h = h

-- ---- the world

abbrev pub AllTables : List ℕ → List MapTable → Type 0
AllTables ns [] = Unit {0}
AllTables ns (t ∷ ts) = TableNames (IsOneOf ns) t × AllTables ns ts

pub record Peopled (ns : List ℕ) (t : Traced) : Type 0 where
  pub nodes : (n : ℕ) → EndsOf ns n (facts_of t n)
  pub lists : (k : ClusterKey) (ms : List Member) (m : ℕ) → t.lists k ≡ Some ms → is_member ms m ≡ true → IsOneOf ns m
  pub racks : (k : ClusterKey) (ms : List Member) → t.lists k ≡ Some ms → MembersAs FitsRack ms
  pub sent : (i : ℕ) (p : Posting) → slice_get t.world.network.sent i ≡ Some p → GoesRight (IsOneOf ns) p.from p.to p.bytes
  pub tables : AllTables ns t.world.tables

abbrev Nodes : List ℕ → (ℕ → Facts) → Type 0
Nodes ns facts = (n : ℕ) → EndsOf ns n (facts n)

one : (ns : List ℕ) (facts : ℕ → Facts) (n : ℕ) (g : Facts) → Nodes ns facts → EndsOf ns n g → Nodes ns (changed_at facts n g)
one ns facts n g h here = at_each (λ m f. EndsOf ns m f) facts n g h here

table_more : (ns : List ℕ) (ts : List MapTable) (t : MapTable) → AllTables ns ts → TableNames (IsOneOf ns) t → AllTables ns (ts ++ t ∷ [])
table_more ns [] t h n = (n, tt)
table_more ns (x ∷ ts) t h n = (h.0, table_more ns ts t h.1 n)

-- ---- a message arrives

-- who sends another message than the client's
pub sender_of : (ns : List ℕ) (p : Posting) (m : Message) → message_of p.bytes ≡ Some m → GoesRight (IsOneOf ns) p.from p.to p.bytes → is_map_ask m ≡ false → FromNode (IsOneOf ns) p.from p.to
sender_of ns p m r g e = ⊎_elim (λ x. x) (λ x. other x.asks) g.ends
  where
    other : message_of p.bytes ≡ Some message.MapAsk → FromNode (IsOneOf ns) p.from p.to
    other a = absurd (never (ap is_map_ask (some_same (sym r ∙ a))))
      where
        never : is_map_ask m ≡ true → ⊥
        never t = grind (arith, t, e)

abbrev Stays : List ℕ → Traced → World → Type 0
Stays ns t w = Nodes ns w.facts × AllTables ns w.tables

came_stays : (ns : List ℕ) (t : Traced) (b : ℕ) (p : Posting) → p.to ≡ b → GoesRight (IsOneOf ns) p.from p.to p.bytes → Peopled ns t → Stays ns t (marks.came t.world (arrived b p))
came_stays ns t b p to g h = go (message_of p.bytes) refl
  where
    at_client : (m : Message) → TellsIf (IsOneOf ns) (Some m) → Stays ns t (marks.came_to_client t.world m)
    at_client (message.MapTable x) n = (h.nodes, table_more ns t.world.tables x h.tables n)
    at_client _ n = (h.nodes, h.tables)

    go : (o : Option Message) → message_of p.bytes ≡ o → Stays ns t (marks.came t.world (option_map (λ m. record { from = p.from; to = b; message = m }) o))
    go None e = (h.nodes, h.tables)
    go (Some m) e = by_end (b == client)
      where
        by_end : (q : Bool) → Stays ns t (if q then came_to_client t.world m else came_to_node t.world (record { from = p.from; to = b; message = m }))
        by_end true = at_client m (subst (TellsIf (IsOneOf ns)) e g.tells)
        by_end false = (one ns t.world.facts b (reached (t.world.facts b) p.from m) h.nodes (reached_ends ns b (t.world.facts b) p.from m (what_is_read p.bytes m e).0 (λ k. subst (FromNode (IsOneOf ns) p.from) to (sender_of ns p m e g k)) (h.nodes b)), h.tables)

arrival_stays : (ns : List ℕ) (t : Traced) (b : ℕ) (o : Option Posting) → ((p : Posting) → o ≡ Some p → p.to ≡ b) → ((p : Posting) → o ≡ Some p → GoesRight (IsOneOf ns) p.from p.to p.bytes) → Peopled ns t → Stays ns t (marks.came t.world (option_and_then (arrived b) o))
arrival_stays ns t b None to g h = (h.nodes, h.tables)
arrival_stays ns t b (Some p) to g h = came_stays ns t b p (to p refl) (g p refl) h

cut_stays : (ns : List ℕ) (t : Traced) (b size : ℕ) (o : Option Posting) → ((p : Posting) → o ≡ Some p → p.to ≡ b) → ((p : Posting) → o ≡ Some p → GoesRight (IsOneOf ns) p.from p.to p.bytes) → Peopled ns t → Stays ns t (marks.came t.world (option_and_then (arrived_cut b size) o))
cut_stays ns t b size None to g h = (h.nodes, h.tables)
cut_stays ns t b size (Some p) to g h = go (nat_le (length p.bytes) size)
  where
    go : (q : Bool) → Stays ns t (marks.came t.world (if q then arrived b p else None))
    go true = came_stays ns t b p (to p refl) (g p refl) h
    go false = (h.nodes, h.tables)

came_sent : (t : Traced) (x : Option Arrival) → (marks.came t.world x).network.sent ≡ t.world.network.sent
came_sent t None = refl
came_sent t (Some x) = go (x.to == client)
  where
    at_client : (m : Message) → (marks.came_to_client t.world m).network.sent ≡ t.world.network.sent
    at_client (message.MapTable y) = refl
    at_client _ = refl

    go : (q : Bool) → (if q then came_to_client t.world x.message else came_to_node t.world x).network.sent ≡ t.world.network.sent
    go true = at_client x.message
    go false = refl

arrived_peopled : (ns : List ℕ) (t : Traced) (x : Option Arrival) (entered : ℕ → ClusterKey → Bool) → Stays ns t (marks.came t.world x) → Peopled ns t → Peopled ns (record { world = marks.came t.world x; lists = t.lists; entered = entered })
arrived_peopled ns t x entered s h = record { nodes = s.0; lists = h.lists; racks = h.racks; sent = λ i p e. h.sent i p (sym (ap (λ (xs : List Posting). slice_get xs i) (came_sent t x)) ∙ e); tables = s.1 }

-- ---- a message is sent

posted_peopled : (ns : List ℕ) (t : Traced) (i : ℕ) (p : Posting) (entered : ℕ → ClusterKey → Bool) → GoesRight (IsOneOf ns) p.from p.to p.bytes → Peopled ns t → Peopled ns (record { world = marks.posted_by t.world i p; lists = t.lists; entered = entered })
posted_peopled ns t i p entered g h = go (message_of p.bytes)
  where
    sends : (j : ℕ) (q : Posting) → slice_get (t.world.network.sent ++ p ∷ []) j ≡ Some q → GoesRight (IsOneOf ns) q.from q.to q.bytes
    sends j q e = ⊎_elim (λ z. h.sent j q z) (λ z. subst (λ (x : Posting). GoesRight (IsOneOf ns) x.from x.to x.bytes) (sym z) g) (more t.world.network.sent p q j e)

    go : (o : Option Message) → Peopled ns (record { world = marks.sent_by (record t.world { network = posting t.world.network i p }) p.from p.to o; lists = t.lists; entered = entered })
    go None = record { nodes = h.nodes; lists = h.lists; racks = h.racks; sent = sends; tables = h.tables }
    go (Some m) = record { nodes = one ns t.world.facts p.from (sent (t.world.facts p.from) p.to m) h.nodes (sent_ends ns p.from (t.world.facts p.from) p.to m (h.nodes p.from)); lists = h.lists; racks = h.racks; sent = sends; tables = h.tables }

-- ---- a line of a node

noted_peopled : (ns : List ℕ) (t : Traced) (n : ℕ) (l : Line) (entered : ℕ → ClusterKey → Bool) → ((m : ℕ) → l ≡ line.Start m → IsOneOf ns n) → Peopled ns t → Peopled ns (record { world = marks.by_node t.world n l; lists = t.lists; entered = entered })
noted_peopled ns t n l entered s h = record { nodes = one ns t.world.facts n (note t.world.want (facts_of t n) l) h.nodes (note_ends ns n t.world.want (facts_of t n) l s (h.nodes n)); lists = h.lists; racks = h.racks; sent = h.sent; tables = h.tables }

-- the requests are other ones besides
requested : (ns : List ℕ) (t : Traced) (kept : Requests) → Peopled ns t → Peopled ns (record { world = record t.world { requests = kept }; lists = t.lists; entered = t.entered })
requested ns t kept h = record { nodes = h.nodes; lists = h.lists; racks = h.racks; sent = h.sent; tables = h.tables }

abbrev is_start : Line → Bool
is_start (line.Start n) = true
is_start _ = false

no_start : (ns : List ℕ) (n : ℕ) (l : Line) → is_start l ≡ false → (m : ℕ) → l ≡ line.Start m → IsOneOf ns n
no_start ns n l e m same = absurd (never (ap is_start same))
  where
    never : is_start l ≡ true → ⊥
    never t = grind (arith, t, e)

-- a key of the node's own is promised for its neighbours
promised_lists : (ns : List ℕ) (t : Traced) (n : ℕ) (j : ClusterKey) → IsOneOf ns n → Peopled ns t → (k : ClusterKey) (ms : List Member) (m : ℕ) → (if j.principal == n then with_list t.lists j (neighbours (facts_of t n)) else t.lists) k ≡ Some ms → is_member ms m ≡ true → IsOneOf ns m
promised_lists ns t n j d h k ms m e i = go (j.principal == n) e
  where
    near : (m : ℕ) → is_member (neighbours (facts_of t n)) m ≡ true → IsOneOf ns m
    near m e = member_is (IsOneOf ns) (neighbours (facts_of t n)) m (neighbours_are (IsOneOf ns) (facts_of t n).me (facts_of t n).role (facts_of t n).hearing.heard (subst (IsOneOf ns) (sym (h.nodes n).me) d) (heard_weak (Neighbour ns n) (λ m r. IsOneOf ns m) (λ m r x. x.node) (facts_of t n).hearing.heard (h.nodes n).heard)) e

    listed : (b : Bool) → (if b then Some (neighbours (facts_of t n)) else t.lists k) ≡ Some ms → IsOneOf ns m
    listed true q = near m (ap (λ (xs : List Member). is_member xs m) (some_same q) ∙ i)
    listed false q = h.lists k ms m q i

    go : (b : Bool) → (if b then with_list t.lists j (neighbours (facts_of t n)) else t.lists) k ≡ Some ms → IsOneOf ns m
    go true q = listed (same_key j k) q
    go false q = h.lists k ms m q i

promised_racks : (ns : List ℕ) (t : Traced) (n : ℕ) (j : ClusterKey) → Peopled ns t → (k : ClusterKey) (ms : List Member) → (if j.principal == n then with_list t.lists j (neighbours (facts_of t n)) else t.lists) k ≡ Some ms → MembersAs FitsRack ms
promised_racks ns t n j h k ms e = go (j.principal == n) e
  where
    near : MembersAs FitsRack (neighbours (facts_of t n))
    near = neighbours_as FitsRack (facts_of t n).me (facts_of t n).role (facts_of t n).hearing.heard (h.nodes n).rack (heard_weak (Neighbour ns n) FitsRack (λ m r x. x.rack) (facts_of t n).hearing.heard (h.nodes n).heard)

    listed : (b : Bool) → (if b then Some (neighbours (facts_of t n)) else t.lists k) ≡ Some ms → MembersAs FitsRack ms
    listed true q = subst (MembersAs FitsRack) (some_same q) near
    listed false q = h.racks k ms q

    go : (b : Bool) → (if b then with_list t.lists j (neighbours (facts_of t n)) else t.lists) k ≡ Some ms → MembersAs FitsRack ms
    go true q = listed (same_key j k) q
    go false q = h.racks k ms q

posted_right : (ns : List ℕ) (t : Traced) (i : ℕ) → Peopled ns t → (p : Posting) → posting_at t.world.network i ≡ Some p → GoesRight (IsOneOf ns) p.from p.to p.bytes
posted_right ns t i h p e = let w : WasPosted t p = was_posted t i p e in h.sent w.place p w.stands

goes_to : (t : Traced) (i b : ℕ) → WentTo t i b → (p : Posting) → posting_at t.world.network i ≡ Some p → p.to ≡ b
goes_to t i b w p e = ap (λ (x : Posting). x.to) (some_same (sym e ∙ w.stands)) ∙ w.end

pub line_peopled : (ns : List ℕ) (t : Traced) (l : Line) → LineGoes t l → LineNames (IsOneOf ns) l → Peopled ns t → Peopled ns (traced_after t (Writes l))
line_peopled ns t (line.Deliver i a b) go d h = arrived_peopled ns t (option_and_then (arrived b) (posting_at t.world.network i)) _ (arrival_stays ns t b (posting_at t.world.network i) (goes_to t i b go) (posted_right ns t i h) h) h
line_peopled ns t (line.Repeat i a b) go d h = arrived_peopled ns t (option_and_then (arrived b) (posting_at t.world.network i)) _ (arrival_stays ns t b (posting_at t.world.network i) (goes_to t i b go) (posted_right ns t i h) h) h
line_peopled ns t (line.Cut i a b size) go d h = arrived_peopled ns t (option_and_then (arrived_cut b size) (posting_at t.world.network i)) _ (cut_stays ns t b size (posting_at t.world.network i) (goes_to t i b go) (posted_right ns t i h) h) h
line_peopled ns t (line.Sent i a b bytes) go d h = posted_peopled ns t i (record { from = a; to = b; bytes = bytes }) _ d h
line_peopled ns t (line.Tick n) go d h = noted_peopled ns t n (line.Tick n) _ (no_start ns n (line.Tick n) refl) h
line_peopled ns t (line.Stop n) go d h = requested ns _ _ (noted_peopled ns t n (line.Stop n) _ (no_start ns n (line.Stop n) refl) h)
line_peopled ns t (line.Start n) go d h = noted_peopled ns t n (line.Start n) _ (λ m e. d) h
line_peopled ns t (line.Quiesce n) go d h = noted_peopled ns t n (line.Quiesce n) _ (no_start ns n (line.Quiesce n) refl) h
line_peopled ns t (line.Unquiesce n) go d h = noted_peopled ns t n (line.Unquiesce n) _ (no_start ns n (line.Unquiesce n) refl) h
line_peopled ns t (line.Promise n k) go d h =
    let u : Peopled ns (record { world = marks.by_node t.world n (line.Promise n k); lists = t.lists; entered = t.entered }) = noted_peopled ns t n (line.Promise n k) t.entered (no_start ns n (line.Promise n k) refl) h in
    record { nodes = u.nodes; lists = promised_lists ns t n k d h; racks = promised_racks ns t n k h; sent = u.sent; tables = u.tables }
line_peopled ns t (line.Enter n k ms) go d h = requested ns _ _ (noted_peopled ns t n (line.Enter n k ms) _ (no_start ns n (line.Enter n k ms) refl) h)
line_peopled ns t (line.Exchanged n k) go d h = noted_peopled ns t n (line.Exchanged n k) _ (no_start ns n (line.Exchanged n k) refl) h
line_peopled ns t (line.Opened n k number e a) go d h = requested ns _ _ (noted_peopled ns t n (line.Opened n k number e a) _ (no_start ns n (line.Opened n k number e a) refl) h)
line_peopled ns t (line.Value n k number e v) go d h = requested ns _ _ (noted_peopled ns t n (line.Value n k number e v) _ (no_start ns n (line.Value n k number e v) refl) h)
line_peopled ns t (line.Apply n k number e v) go d h = noted_peopled ns t n (line.Apply n k number e v) _ (no_start ns n (line.Apply n k number e v) refl) h
line_peopled ns t (line.Done n k number) go d h = requested ns _ _ (noted_peopled ns t n (line.Done n k number) _ (no_start ns n (line.Done n k number) refl) h)
line_peopled ns t (line.Aborted n k number) go d h = noted_peopled ns t n (line.Aborted n k number) _ (no_start ns n (line.Aborted n k number) refl) h
line_peopled ns t (line.Doubt n k number) go d h = noted_peopled ns t n (line.Doubt n k number) _ (no_start ns n (line.Doubt n k number) refl) h
line_peopled ns t (line.Merge n k e v) go d h = noted_peopled ns t n (line.Merge n k e v) _ (no_start ns n (line.Merge n k e v) refl) h
line_peopled ns t (line.Handed n k p) go d h = noted_peopled ns t n (line.Handed n k p) _ (no_start ns n (line.Handed n k p) refl) h
line_peopled ns t (line.Settled n k p) go d h = noted_peopled ns t n (line.Settled n k p) _ (no_start ns n (line.Settled n k p) refl) h
line_peopled ns t (line.Learn n k p) go d h = noted_peopled ns t n (line.Learn n k p) _ (no_start ns n (line.Learn n k p) refl) h
line_peopled ns t (line.Drop n k p) go d h = noted_peopled ns t n (line.Drop n k p) _ (no_start ns n (line.Drop n k p) refl) h
line_peopled ns t _ go d h = record { nodes = h.nodes; lists = h.lists; racks = h.racks; sent = h.sent; tables = h.tables }

pub begun_peopled : (ns : List ℕ) (t : Traced) (e : Event) → Peopled ns t → Peopled ns (traced_after t (Begins e))
begun_peopled ns t (event.Deliver i) h = record { nodes = h.nodes; lists = h.lists; racks = h.racks; sent = h.sent; tables = h.tables }
begun_peopled ns t (event.Lose i) h = record { nodes = h.nodes; lists = h.lists; racks = h.racks; sent = h.sent; tables = h.tables }
begun_peopled ns t (event.Cut i size) h = record { nodes = h.nodes; lists = h.lists; racks = h.racks; sent = h.sent; tables = h.tables }
begun_peopled ns t _ h = record { nodes = h.nodes; lists = h.lists; racks = h.racks; sent = h.sent; tables = h.tables }
