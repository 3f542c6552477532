-- Steps that are allowed: each of their lines names declared nodes, and each message goes between two ends.
use Rattle.std.proofs.Common.{◌≡◌, ℕ, zero, suc, ◌+◌, ◌==◌, ⊎_elim, inl, inr, Bool, true, false, cond, not, ◌&&◌, ◌||◌, List, [], ◌∷◌, Option, Some, None, refl, sym, ap, subst, ◌∙◌, if◌then◌else◌, arith, lit<}
use Rattle.std.specs.Prelude.{All, filter_map, unwrap_or, ◌^◌, slice_get, slice_index, length, find, nat_lt, option_map, ◌<◌}
use Rattle.std.specs.List.{cons_option, list_all, concat}
use Rattle.std.proofs.lemmas.Bool.Decides.{nat_tests}
use Rattle.conflict_order.specs.declared.want.Want.{Want}
use Rattle.conflict_order.specs.declared.want.Want.TheVariants as want
use Rattle.cluster_types.specs.Distinct.{without}
use Rattle.cluster_types.specs.Partitions.{partition_count, partition_of}
use Rattle.partition_lists.specs.Lists.{in_order, put_in_order}
use Rattle.script_lang.specs.declared.script.HeaderLine.{HeaderLine}
use Rattle.script_lang.specs.declared.script.HeaderLine.TheVariants as header
use Rattle.script_lang.specs.Proper.{IsProperHeaderLine, IsRack}
use Rattle.wire_messages.specs.declared.message.MapTable.{MapTable}
use Rattle.wire_messages.specs.declared.message.Message.{Message}
use Rattle.wire_messages.specs.declared.message.Message.TheVariants as message
use Rattle.wire_messages.specs.Decoding.{message_of}
use Rattle.wire_messages.specs.Nodes.{IsId}
use Rattle.wire_messages.specs.Spelling.{spelling}
use Rattle.wire_messages.proofs.DecodingLaws.{read_back}
use Rattle.journal_lines.specs.declared.line.Line.{Line}
use Rattle.node_rules.specs.Agreement.{Proposal}
use Rattle.node_rules.specs.Client.{node_for, latest_at, is_latest_at}
use Rattle.node_rules.specs.Effects.{Effects, to_one}
use Rattle.node_rules.specs.Exchange.{View, is_member, members_of}
use Rattle.node_rules.specs.Facts.{Facts, members_of_view}
use Rattle.node_rules.specs.Messages.{due_message_of, client}
use Rattle.node_rules.specs.Requests.{due_request, due_stop, due_start}
use Rattle.node_rules.specs.Shows.{due_map, due_show}
use Rattle.node_rules.specs.Tables.{contains}
use Rattle.node_rules.specs.Tick.{tick_of}
use Rattle.cluster_rules.specs.declared.event.Event.{Event}
use Rattle.cluster_rules.specs.declared.event.Event.TheVariants as event
use Rattle.cluster_rules.specs.Allowed.{AreAllowed, names_known, ends_calm}
use Rattle.cluster_rules.specs.DueEvents.{due_of, due_at_named, due_at_client, due_arrival, arriving, delivery, is_blocked, losing, written, sent_lines}
use Rattle.journal_readings.specs.Lines.{has_node}
use Rattle.cluster_rules.specs.Marks.{Begins, Writes}
use Rattle.journal_readings.specs.Messages.{Posting}
use Rattle.cluster_rules.specs.Network.{Network, landed, flying_at, has_place, are_apart}
use Rattle.cluster_rules.specs.Opening.{Header, declared_nodes, rack_in}
use Rattle.cluster_rules.specs.Steps.{Step, marks_of, all_marks, all_lines}
use Rattle.cluster_rules.specs.World.{World, opened, is_up, members_now}
use Rattle.key_laws.specs.Ends.{IsOneOf, IsEnd, OtherNode, TableNames, FromNode, GoesRight, AllNodes, AllName}
use Rattle.key_laws.specs.Sound.{Sound, ViewStands, Entered, Proposed, ProposalStands}
use Rattle.key_laws.specs.Traced.{Traced, facts_of, traced_after, traced_after_all, untouched}
use Rattle.key_laws.specs.Licences.{Says, LicensedMarks}
use Rattle.key_laws.proofs.Addressed.{or_cases, differ, and_left, and_right, in_without, not_gone}
use Rattle.key_laws.proofs.AllowedRuns.{Allowed, allowed_due, declared_id, posted_in, event_go, step_goes, none_directed}
use Rattle.key_laws.proofs.Directed.{Directed, AllGo, all_go_grow, begun_goes}
use Rattle.key_laws.proofs.DueSteps.{step_ok, own_keys}
use Rattle.key_laws.proofs.Kept.{Keeps, kept_line, kept_begun, kept_all, WasPosted, after_all-append}
use Rattle.key_laws.proofs.NamedLines.{Aware, heard_weak, Commits, AllMembers, all_members, name_append, tick_name, map_name, show_name, place_name, message_name, request_name, stop_name, start_name}
use Rattle.key_laws.proofs.NamedSends.{Knows, AllRight, tick_right, message_right, request_right, stop_right, start_right}
use Rattle.key_laws.proofs.Peopled.{Neighbour, peers_of, AllTables, Peopled, sender_of, line_peopled, begun_peopled}
use Rattle.key_laws.proofs.Quiet.{writes}
use Rattle.key_laws.proofs.Runs.{of_first, of_others, AreIds, declared_ids, marks_nodes, AllBegun, world_of, start}
use Rattle.key_laws.proofs.TableReads.{others_tell}
use Rattle.journal_lines.specs.declared.line.Line.TheVariants as line

-- ---- who is declared

never_zero : (n : ℕ) → IsId n → n ≡ client → ⊥
never_zero n h e = grind (arith, h.positive, e)

pub no_client : (ns : List ℕ) (n : ℕ) → AreIds ns → IsOneOf ns n → n ≡ client → ⊥
no_client ns n ids h e = never_zero n (declared_id ns n ids h) e

put_was : (x : ℕ) (xs : List ℕ) (m : ℕ) → contains (put_in_order nat_lt x xs) m ≡ true → contains (x ∷ xs) m ≡ true
put_was x [] m e = e
put_was x (y ∷ xs) m e = go (nat_lt y x) (put_was x xs m) e
  where
    go : (b : Bool) → (contains (put_in_order nat_lt x xs) m ≡ true → contains (x ∷ xs) m ≡ true) → contains (if b then y ∷ put_in_order nat_lt x xs else (x ∷ y ∷ xs)) m ≡ true → contains (x ∷ y ∷ xs) m ≡ true
    go true rest e = ⊎_elim (λ q. right (x == m) _ (left (y == m) _ q)) (λ q. ⊎_elim (λ z. left (x == m) _ z) (λ z. right (x == m) _ (right (y == m) _ z)) (or_cases (x == m) (contains xs m) (rest q))) (or_cases (y == m) _ e)
      where
        left : (a b : Bool) → a ≡ true → (a || b) ≡ true
        left a b e = grind arith

        right : (a b : Bool) → b ≡ true → (a || b) ≡ true
        right a b e = grind arith
    go false rest e = e

ordered_was : (xs : List ℕ) (m : ℕ) → contains (in_order nat_lt xs) m ≡ true → contains xs m ≡ true
ordered_was [] m e = e
ordered_was (x ∷ xs) m e = ⊎_elim (λ q. left (x == m) _ q) (λ q. right (x == m) _ (ordered_was xs m q)) (or_cases (x == m) (contains (in_order nat_lt xs) m) (put_was x (in_order nat_lt xs) m e))
  where
    left : (a b : Bool) → a ≡ true → (a || b) ≡ true
    left a b e = grind arith

    right : (a b : Bool) → b ≡ true → (a || b) ≡ true
    right a b e = grind arith

peer_is : (ns : List ℕ) (me n : ℕ) → contains (peers_of ns me) n ≡ true → OtherNode (IsOneOf ns) me n
peer_is ns me n e = let was : contains (without ns me) n ≡ true = ordered_was (without ns me) n e in
    record { node = in_without ns me n was; differ = λ same. not_gone ns me n was (sym same) }

-- ---- what a declared node knows

members_are : (ns : List ℕ) (t : Traced) (n : ℕ) → Sound t → Peopled ns t → (m : ℕ) → is_member (members_of_view (facts_of t n)) m ≡ true → IsOneOf ns m
members_are ns t n s h m e = go (facts_of t n).exchange.view (s.nodes n).view e
  where
    go : (o : Option View) → ViewStands t n (facts_of t n).agreement.last o → is_member (members_of o) m ≡ true → IsOneOf ns m
    go None v e = differ e refl
    go (Some v) i e = h.lists v.key v.members m i.list e

in_own_view : (t : Traced) (n : ℕ) → Sound t → (v : View) → (facts_of t n).exchange.view ≡ Some v → is_member v.members n ≡ true
in_own_view t n s v e = (entered (subst (ViewStands t n (facts_of t n).agreement.last) e (s.nodes n).view)).among
  where
    entered : Entered t n (facts_of t n).agreement.last v → Entered t n (facts_of t n).agreement.last v
    entered x = x

proposed_to : (ns : List ℕ) (t : Traced) (n : ℕ) → Sound t → Peopled ns t → (p : Proposal) → (facts_of t n).agreement.proposal ≡ Some p → AllMembers (IsOneOf ns) p.members
proposed_to ns t n s h p e = all_members (IsOneOf ns) p.members (λ m i. h.lists p.key p.members m (list (subst (ProposalStands t n (facts_of t n).agreement.promised (facts_of t n).agreement.last) e (s.nodes n).agrees.proposal)) i)
  where
    list : Proposed t n (facts_of t n).agreement.promised (facts_of t n).agreement.last p → t.lists p.key ≡ Some p.members
    list x = x.list

aware_of : (ns : List ℕ) (t : Traced) (n : ℕ) → Sound t → Peopled ns t → IsOneOf ns n → Aware (IsOneOf ns) (facts_of t n)
aware_of ns t n s h d = record {
  me = subst (IsOneOf ns) (sym (h.nodes n).me) d;
  members = members_are ns t n s h;
  among = λ v e. subst (λ (m : ℕ). is_member v.members m ≡ true) (sym (h.nodes n).me) (in_own_view t n s v e);
  heard = heard_weak (Neighbour ns n) (λ m r. IsOneOf ns m) (λ m r x. x.node) (facts_of t n).hearing.heard (h.nodes n).heard;
  proposal = proposed_to ns t n s h;
}

knows_of : (ns : List ℕ) (t : Traced) (n : ℕ) → Sound t → Directed t → Peopled ns t → IsOneOf ns n → Knows (IsOneOf ns) t (facts_of t n)
knows_of ns t n s d h one = record {
  aware = aware_of ns t n s h one;
  peers = λ m e. subst (λ (x : ℕ). OtherNode (IsOneOf ns) x m) (sym (h.nodes n).me) (peer_is ns n m (subst (λ (xs : List ℕ). contains xs m ≡ true) (h.nodes n).peers e));
  missing = (h.nodes n).missing.each;
  goes = d.nodes n;
}

-- ---- lines of what an endpoint does

full_name : (P : ℕ → Type 0) (i : ℕ) (b : Bool) → AllName P (if b then [] else line.Full i ∷ [])
full_name P i true = tt
full_name P i false = (tt, tt)

-- where each message goes right
abbrev AllGoRight : (ℕ → Type 0) → ℕ → List (ℕ × Message) → Type 0
AllGoRight P from [] = Unit {0}
AllGoRight P from (m ∷ ms) = GoesRight P from m.0 (spelling m.1) × AllGoRight P from ms

sent_name : (P : ℕ → Type 0) (from sent flying : ℕ) (ms : List (ℕ × Message)) → AllGoRight P from ms → AllName P (sent_lines from sent flying ms)
sent_name P from sent flying [] h = tt
sent_name P from sent flying (m ∷ ms) h = (h.0, name_append P (if has_place flying then [] else line.Full _ ∷ []) _ (full_name P _ (has_place flying)) (sent_name P from (sent + 1) (if has_place flying then flying + 1 else flying) ms h.1))

from_node : (P : ℕ → Type 0) (me : ℕ) (ms : List (ℕ × Message)) → P me → AllRight P me ms → AllGoRight P me ms
from_node P me [] one h = tt
from_node P me (m ∷ ms) one h = (record { ends = inl (record { sender = one; receiver = h.0.receiver; differ = h.0.differ }); tells = h.0.tells }, from_node P me ms one h.1)

written_name : (P : ℕ → Type 0) (me : ℕ) (net : Network) (e : Effects) → P me → AllName P e.lines → AllRight P me e.sends → AllName P (written net me e)
written_name P me net e one lines sends = name_append P e.lines _ lines (sent_name P me _ _ e.sends (from_node P me e.sends one sends))

-- what is written of a node under its own number
of_node : (ns : List ℕ) (t : Traced) (n : ℕ) (net : Network) (e : Effects) → Peopled ns t → IsOneOf ns n → AllName (IsOneOf ns) e.lines → AllRight (IsOneOf ns) (facts_of t n).me e.sends → AllName (IsOneOf ns) (written net n e)
of_node ns t n net e h one lines sends = written_name (IsOneOf ns) n net e one lines (subst (λ (m : ℕ). AllRight (IsOneOf ns) m e.sends) (h.nodes n).me sends)

-- ---- requests

request_named : (ns : List ℕ) (t : Traced) (net : Network) (n clock : ℕ) (d : List ℕ) (q : Want) → Sound t → Directed t → Peopled ns t → IsOneOf ns n → AllName (IsOneOf ns) (written net n (due_request (facts_of t n) clock d q))
request_named ns t net n clock d q s dir h one = let k : Knows (IsOneOf ns) t (facts_of t n) = knows_of ns t n s dir h one in
    of_node ns t n net (due_request (facts_of t n) clock d q) h one (request_name (IsOneOf ns) (facts_of t n) clock d q k.aware) (request_right (IsOneOf ns) t (facts_of t n) clock d q k)

-- a table that was found is one of them
found_table : (P : MapTable → Type 0) (test : MapTable → Bool) (ts : List MapTable) → ((t : MapTable) → (i : ℕ) → slice_get ts i ≡ Some t → P t) → (x : MapTable) → find test ts ≡ Some x → P x
found_table P test [] h x e = cc
found_table P test (t ∷ ts) h x e = go (test t) (λ i. found_table P test ts (λ y j z. h y (suc j) z) x i) e
  where
    same : {a b : MapTable} → Some a ≡ Some b → a ≡ b
    same {a} {b} e = grind arith

    go : (b : Bool) → (find test ts ≡ Some x → P x) → cond b (Some t) (find test ts) ≡ Some x → P x
    go true rest e = subst P (same e) (h t 0 refl)
    go false rest e = rest e

table_at : (ns : List ℕ) (ts : List MapTable) → AllTables ns ts → (t : MapTable) (i : ℕ) → slice_get ts i ≡ Some t → TableNames (IsOneOf ns) t
table_at ns [] h t i e = absurd (grind (arith, e))
table_at ns (x ∷ ts) h t zero e = subst (TableNames (IsOneOf ns)) (same e) h.0
  where
    same : {a b : MapTable} → Some a ≡ Some b → a ≡ b
    same {a} {b} e = grind arith
table_at ns (x ∷ ts) h t (suc i) e = table_at ns ts h.1 t i e

-- whom the client asks is declared
pub asked_is : (ns : List ℕ) (ts : List MapTable) → AllTables ns ts → (p n : ℕ) → p < partition_count → node_for ts p ≡ Some n → IsOneOf ns n
asked_is ns ts h p n lt e = go (latest_at ts p) refl e
  where
    same : {a b : ℕ} → Some a ≡ Some b → a ≡ b
    same {a} {b} e = grind arith

    go : (o : Option MapTable) → latest_at ts p ≡ o → option_map (λ t. slice_index t.ids p) o ≡ Some n → IsOneOf ns n
    go None q e = cc
    go (Some x) q e = subst (IsOneOf ns) (same e) (found_table (TableNames (IsOneOf ns)) (is_latest_at ts p) ts (table_at ns ts h) x q p lt)

below_count : (d : List ℕ) → partition_of d < partition_count
below_count d = grind arith

client_named : (ns : List ℕ) (t : Traced) (w : World) (d : List ℕ) (q : Want) (o : Option ℕ) → w.facts ≡ t.world.facts → ((n : ℕ) → o ≡ Some n → IsOneOf ns n) → Sound t → Directed t → Peopled ns t → AllName (IsOneOf ns) (due_at_named w d q o)
client_named ns t w d q None same one s dir h = (tt, tt)
client_named ns t w d q (Some n) same one s dir h = (one n refl, subst (λ (fs : ℕ → Facts). AllName (IsOneOf ns) (written w.network n (due_request (fs n) (w.clocks n) d q))) (sym same) (request_named ns t w.network n (w.clocks n) d q s dir h (one n refl)))

-- ---- messages

table_taken : (ns : List ℕ) (m : Message) → AllName (IsOneOf ns) (due_at_client m)
table_taken ns (message.MapTable table) = (tt, tt)
table_taken ns _ = (inl refl, tt)

commits_of : (ns : List ℕ) (t : Traced) (a : ℕ) (m : Message) → Peopled ns t → Says t a m → Commits (IsOneOf ns) m
commits_of ns t a (message.Commit k ms) h says = all_members (IsOneOf ns) ms (λ n e. h.lists k ms n says e)
commits_of ns t a (message.Heartbeat view promised hears role) h says = tt
commits_of ns t a (message.Propose k ms) h says = tt
commits_of ns t a _ h says = tt

-- where it isn't blocked it arrives at the client, or at a node that runs
runs_there : (w : World) (p : Posting) → is_blocked w p ≡ false → (p.to == client) ≡ false → is_up w p.to ≡ true
runs_there w p e f = go (are_apart w.network p.from p.to) (p.to == client) (is_up w p.to) e f
  where
    go : (a b c : Bool) → (a || (not b && not c)) ≡ false → b ≡ false → c ≡ true
    go a b c e f = grind arith

arriving_named : (n : ℕ) (ns : List ℕ) (t : Traced) (w : World) (net : Network) (p : Posting) → AreIds ns → w.facts ≡ t.world.facts → is_blocked w p ≡ false → Sound t → Directed t → Peopled ns t → WasPosted t p → AllName (IsOneOf ns) (arriving n w net p)
arriving_named n ns t w net p ids same free s dir h posted = go (message_of p.bytes) refl
  where
    right : GoesRight (IsOneOf ns) p.from p.to p.bytes
    right = h.sent posted.place p posted.stands

    node : (m : Message) → message_of p.bytes ≡ Some m → IsOneOf ns p.to → AllName (IsOneOf ns) (written net p.to (due_message_of n (facts_of t p.to) (w.clocks p.to) p.from m))
    node m r one = let k : Knows (IsOneOf ns) t (facts_of t p.to) = knows_of ns t p.to s dir h one in
        of_node ns t p.to net (due_message_of n (facts_of t p.to) (w.clocks p.to) p.from m) h one
        (message_name (IsOneOf ns) n (facts_of t p.to) (w.clocks p.to) p.from m k.aware (commits_of ns t p.from m h (s.sent posted.place p m posted.stands r)))
        (message_right (IsOneOf ns) n t (facts_of t p.to) (w.clocks p.to) p.from m (record {
          knows = k;
          from_other = λ e. let f : FromNode (IsOneOf ns) p.from p.to = sender_of ns p m r right e in
              record { node = f.sender; differ = λ q. f.differ (sym (sym (h.nodes p.to).me ∙ q)) };
          sound = s;
          keys = own_keys t p.to s;
          client = λ e. no_client ns p.to ids one (sym (h.nodes p.to).me ∙ e);
        }))

    at_end : (m : Message) → message_of p.bytes ≡ Some m → (b : Bool) → (p.to == client) ≡ b → AllName (IsOneOf ns) (if b then due_at_client m else written net p.to (due_message_of n (w.facts p.to) (w.clocks p.to) p.from m))
    at_end m r true e = table_taken ns m
    at_end m r false e = subst (λ (fs : ℕ → Facts). AllName (IsOneOf ns) (written net p.to (due_message_of n (fs p.to) (w.clocks p.to) p.from m))) (sym same)
        (node m r ((h.nodes p.to).up (ap (λ (fs : ℕ → Facts). (fs p.to).up) (sym same) ∙ runs_there w p free e)))

    go : (o : Option Message) → message_of p.bytes ≡ o → AllName (IsOneOf ns) (due_arrival n w net p o)
    go None r = tt
    go (Some m) r = at_end m r (p.to == client) refl

-- both ends of a message
from_end : (P : ℕ → Type 0) (a b : ℕ) (bytes : List ℕ) → GoesRight P a b bytes → IsEnd P a
from_end P a b bytes g = ⊎_elim (λ x. inr x.sender) (λ x. inl x.sender) g.ends

pub to_end : (P : ℕ → Type 0) (a b : ℕ) (bytes : List ℕ) → GoesRight P a b bytes → IsEnd P b
to_end P a b bytes g = ⊎_elim (λ x. x.receiver) (λ x. inr x.receiver) g.ends

delivery_named : (ns : List ℕ) (w : World) (i : ℕ) (lines : Posting → List Line) → ((p : Posting) → flying_at w.network i ≡ Some p → is_blocked w p ≡ false → AllName (IsOneOf ns) (lines p)) → AllName (IsOneOf ns) (delivery w i lines (flying_at w.network i))
delivery_named ns w i lines h = go (flying_at w.network i) refl
  where
    unless : (p : Posting) → flying_at w.network i ≡ Some p → (b : Bool) → is_blocked w p ≡ b → AllName (IsOneOf ns) (if b then line.Blocked i ∷ [] else lines p)
    unless p e true q = (tt, tt)
    unless p e false q = h p e q

    go : (o : Option Posting) → flying_at w.network i ≡ o → AllName (IsOneOf ns) (delivery w i lines o)
    go None e = (tt, tt)
    go (Some p) e = unless p e (is_blocked w p) refl

-- ---- events

one_known : (ns : List ℕ) (n : ℕ) (b : Bool) → ((has_node ns n && true) && b) ≡ true → IsOneOf ns n
one_known ns n b e = and_left (has_node ns n) true (and_left (has_node ns n && true) b e)

all_known : (ns ms : List ℕ) → list_all (has_node ns) ms ≡ true → AllNodes (IsOneOf ns) ms
all_known ns [] e = tt
all_known ns (m ∷ ms) e = (and_left (has_node ns m) _ e, all_known ns ms (and_right (has_node ns m) _ e))

each_itself : (ns : List ℕ) (xs : List ℕ) → ((n : ℕ) → contains xs n ≡ true → contains ns n ≡ true) → AllNodes (IsOneOf ns) xs
each_itself ns [] h = tt
each_itself ns (x ∷ xs) h = (h x (grind (arith, nat_tests)), each_itself ns xs (λ n e. h n (grind (arith, e))))

now_members : (ns : List ℕ) (w : World) (xs : List ℕ) → AllNodes (IsOneOf ns) xs → AllMembers (IsOneOf ns) (members_now w xs)
now_members ns w [] h = tt
now_members ns w (x ∷ xs) h = (h.0, now_members ns w xs h.1)

-- the node that an event names
node_of : (ns : List ℕ) (t : Traced) (n : ℕ) (net : Network) (e : Effects) → Peopled ns t → IsOneOf ns n → AllName (IsOneOf ns) e.lines → AllName (IsOneOf ns) (written net n (record { lines = e.lines; sends = [] }))
node_of ns t n net e h one lines = written_name (IsOneOf ns) n net (record { lines = e.lines; sends = [] }) one lines tt

pub event_named : (n : ℕ) (ns : List ℕ) (t : Traced) (e : Event) → AreIds ns → t.world.nodes ≡ ns → names_known ns e ≡ true → Sound (traced_after t (Begins e)) → Directed (traced_after t (Begins e)) → Peopled ns (traced_after t (Begins e)) → AllName (IsOneOf ns) (due_of n t.world e)
event_named n ns t (event.Clock node time) ids all k s d h = (one_known ns node true k, tt)
event_named n ns t (event.Groups groups) ids all k s d h = (all_known ns (concat groups) (and_left (list_all (has_node ns) (concat groups)) _ k), tt)
event_named n ns t (event.Tick node) ids all k s d h =
    let u : Traced = traced_after t (Begins (event.Tick node)) in
    let one : IsOneOf ns node = one_known ns node true k in
    let kn : Knows (IsOneOf ns) u (facts_of u node) = knows_of ns u node s d h one in
    of_node ns u node t.world.network (tick_of n (facts_of u node)) h one (tick_name (IsOneOf ns) n (facts_of u node) kn.aware) (tick_right (IsOneOf ns) u n (facts_of u node) kn)
event_named n ns t (event.Stop node) ids all k s d h =
    let u : Traced = traced_after t (Begins (event.Stop node)) in
    let one : IsOneOf ns node = one_known ns node true k in
    of_node ns u node t.world.network (due_stop (facts_of u node)) h one (stop_name (IsOneOf ns) (facts_of u node) (aware_of ns u node s h one).me) (stop_right (IsOneOf ns) (facts_of u node).me (facts_of u node))
event_named n ns t (event.Start node) ids all k s d h =
    let u : Traced = traced_after t (Begins (event.Start node)) in
    let one : IsOneOf ns node = one_known ns node true k in
    of_node ns u node t.world.network (due_start (facts_of u node)) h one (start_name (IsOneOf ns) (facts_of u node) (aware_of ns u node s h one).me) (start_right (IsOneOf ns) (facts_of u node).me (facts_of u node))
event_named n ns t (event.Put node x v) ids all k s d h = request_named ns (traced_after t (Begins (event.Put node x v))) t.world.network node (t.world.clocks node) x (want.Put v) s d h (one_known ns node true k)
event_named n ns t (event.Get node x) ids all k s d h = request_named ns (traced_after t (Begins (event.Get node x))) t.world.network node (t.world.clocks node) x want.Get s d h (one_known ns node true k)
event_named n ns t (event.Del node x) ids all k s d h = request_named ns (traced_after t (Begins (event.Del node x))) t.world.network node (t.world.clocks node) x want.Del s d h (one_known ns node true k)
event_named n ns t (event.ClientPut x v) ids all k s d h = client_named ns (traced_after t (Begins (event.ClientPut x v))) t.world x (want.Put v) (node_for t.world.tables (partition_of x)) refl (λ m e. asked_is ns t.world.tables h.tables (partition_of x) m (below_count x) e) s d h
event_named n ns t (event.ClientGet x) ids all k s d h = client_named ns (traced_after t (Begins (event.ClientGet x))) t.world x want.Get (node_for t.world.tables (partition_of x)) refl (λ m e. asked_is ns t.world.tables h.tables (partition_of x) m (below_count x) e) s d h
event_named n ns t (event.ClientDel x) ids all k s d h = client_named ns (traced_after t (Begins (event.ClientDel x))) t.world x want.Del (node_for t.world.tables (partition_of x)) refl (λ m e. asked_is ns t.world.tables h.tables (partition_of x) m (below_count x) e) s d h
event_named n ns t (event.Ask node) ids all k s d h =
    sent_name (IsOneOf ns) client _ _ (to_one node message.MapAsk)
    (record { ends = inr (record { sender = refl; receiver = one_known ns node true k; asks = read_back message.MapAsk tt }); tells = others_tell (IsOneOf ns) message.MapAsk refl }, tt)
event_named n ns t (event.Deliver i) ids all k s d h =
    let u : Traced = traced_after t (Begins (event.Deliver i)) in
    delivery_named ns t.world i _ (λ p e free. let posted : WasPosted u p = posted_in t u i p refl e in let g : GoesRight (IsOneOf ns) p.from p.to p.bytes = h.sent posted.place p posted.stands in
    ((from_end (IsOneOf ns) p.from p.to p.bytes g, to_end (IsOneOf ns) p.from p.to p.bytes g), arriving_named n ns u t.world (landed t.world.network i) p ids refl free s d h posted))
event_named n ns t (event.Repeat i) ids all k s d h =
    let u : Traced = traced_after t (Begins (event.Repeat i)) in
    delivery_named ns t.world i _ (λ p e free. let posted : WasPosted u p = posted_in t u i p refl e in let g : GoesRight (IsOneOf ns) p.from p.to p.bytes = h.sent posted.place p posted.stands in
    ((from_end (IsOneOf ns) p.from p.to p.bytes g, to_end (IsOneOf ns) p.from p.to p.bytes g), arriving_named n ns u t.world t.world.network p ids refl free s d h posted))
event_named n ns t (event.Lose i) ids all k s d h = go (flying_at t.world.network i)
  where
    go : (o : Option Posting) → AllName (IsOneOf ns) (losing i o)
    go None = (tt, tt)
    go (Some p) = (tt, tt)
event_named n ns t (event.Cut i size) ids all k s d h = delivery_named ns t.world i _ (λ p e free. ((from_end (IsOneOf ns) p.from p.to p.bytes (right p e), to_end (IsOneOf ns) p.from p.to p.bytes (right p e)), go p e free (nat_lt size (length p.bytes))))
  where
    u : Traced
    u = traced_after t (Begins (event.Cut i size))

    right : (p : Posting) → flying_at t.world.network i ≡ Some p → GoesRight (IsOneOf ns) p.from p.to p.bytes
    right p e = let posted : WasPosted u p = posted_in t u i p refl e in h.sent posted.place p posted.stands

    go : (p : Posting) → flying_at t.world.network i ≡ Some p → is_blocked t.world p ≡ false → (b : Bool) → AllName (IsOneOf ns) (if b then line.Short p.to ∷ [] else arriving n t.world (landed t.world.network i) p)
    go p e free true = (to_end (IsOneOf ns) p.from p.to p.bytes (right p e), tt)
    go p e free false = arriving_named n ns u t.world (landed t.world.network i) p ids refl free s d h (posted_in t u i p refl e)
event_named n ns t (event.Map node from to) ids all k s d h =
    let u : Traced = traced_after t (Begins (event.Map node from to)) in
    let one : IsOneOf ns node = one_known ns node true k in
    of_node ns u node t.world.network (due_map (facts_of u node) from to) h one (map_name (IsOneOf ns) (facts_of u node) from to (aware_of ns u node s h one)) tt
event_named n ns t (event.Show node x) ids all k s d h =
    let u : Traced = traced_after t (Begins (event.Show node x)) in
    let one : IsOneOf ns node = one_known ns node true k in
    of_node ns u node t.world.network (due_show (facts_of u node) x) h one (show_name (IsOneOf ns) (facts_of u node) x (aware_of ns u node s h one).me) tt
event_named n ns t (event.Place p) ids all k s d h =
    (place_name (IsOneOf ns) (members_now t.world t.world.nodes) p (now_members ns t.world t.world.nodes (subst (λ (xs : List ℕ). AllNodes (IsOneOf ns) xs) (sym all) (each_itself ns ns (λ m e. e)))), tt)
event_named n ns t (event.Hash x) ids all k s d h = (tt, tt)
event_named n ns t (event.Quiesce node) ids all k s d h = (one_known ns node true k, tt)
event_named n ns t (event.Unquiesce node) ids all k s d h = (one_known ns node true k, tt)
event_named n ns t (event.Calmed rounds) ids all k s d h = (tt, tt)
event_named n ns t _ ids all k s d h = tt

-- ---- steps

lines_peopled : (ns : List ℕ) (t : Traced) (ls : List Line) → Sound t → LicensedMarks t (writes ls) → AllGo t ls → AllName (IsOneOf ns) ls → Peopled ns t → Peopled ns (traced_after_all t (writes ls))
lines_peopled ns t [] s ok go names h = h
lines_peopled ns t (l ∷ ls) s ok go names h =
    let k : Keeps t (traced_after t (Writes l)) = kept_line t l ok.0 s in
    lines_peopled ns (traced_after t (Writes l)) ls k.sound ok.1 (all_go_grow t (traced_after t (Writes l)) k.grows ls go.1) names.1 (line_peopled ns t l go.0 names.0 h)

-- where steps lead, and their lines
pub record Named (ns : List ℕ) (t : Traced) (ss : List Step) : Type 0 where
  pub peopled : Peopled ns (traced_after_all t (all_marks ss))
  pub names : AllName (IsOneOf ns) (all_lines ss)

pub steps_named : (n : ℕ) (ns : List ℕ) (t : Traced) (ss : List Step) → AreIds ns → t.world.nodes ≡ ns → Sound t → Directed t → Peopled ns t → AllBegun ss → AreAllowed n t.world ss → Named ns t ss
steps_named n ns t [] ids all s d h b a = record { peopled = h; names = tt }
steps_named n ns t (x ∷ ss) ids all s d h b a =
    let u : Traced = traced_after t (Begins x.event) in
    let next : Traced = traced_after_all t (marks_of x) in
    let ok : LicensedMarks t (marks_of x) = subst (λ ls. LicensedMarks t (Begins x.event ∷ writes ls)) (sym a.0.due) (step_ok n t x.event b.0 s) in
    let goes : Directed next = subst (λ ls. Directed (traced_after_all t (Begins x.event ∷ writes ls))) (sym a.0.due) (step_goes n t x.event b.0 s d) in
    let k : Keeps t u = kept_begun t x.event s in
    let known : names_known ns x.event ≡ true = subst (λ (ms : List ℕ). names_known ms x.event ≡ true) all (and_left (names_known t.world.nodes x.event) (ends_calm n t.world x.event) a.0.comes) in
    let names : AllName (IsOneOf ns) x.lines = subst (AllName (IsOneOf ns)) (sym a.0.due) (event_named n ns t x.event ids all known k.sound (begun_goes t x.event k.grows d) (begun_peopled ns t x.event h)) in
    let sends : AllGo u x.lines = subst (AllGo u) (sym a.0.due) (event_go n t x.event k.sound (begun_goes t x.event k.grows d)) in
    let rest : Named ns next ss = steps_named n ns next ss ids (ap (λ (w : World). w.nodes) (world_of t (marks_of x)) ∙ marks_nodes t.world (marks_of x) ∙ all) (kept_all t (marks_of x) ok s).sound goes (lines_peopled ns u x.lines k.sound ok.1 sends names (begun_peopled ns t x.event h)) b.1 (subst (λ v. AreAllowed n v ss) (sym (world_of t (marks_of x))) a.1) in
    record {
      peopled = subst (λ (v : Traced). Peopled ns v) (sym (after_all-append t (marks_of x) (all_marks ss))) rest.peopled;
      names = name_append (IsOneOf ns) x.lines (all_lines ss) names rest.names;
    }

-- ---- from the opened world

-- a rack that a header names has a spelling, and so has none
declared_rack : (n : ℕ) (h : Header) → All IsProperHeaderLine h → unwrap_or (slice_get (filter_map (rack_in n) h) 0) 0 < 2 ^ 8
declared_rack n [] p = lit< tt
declared_rack n (x ∷ h) p = go x (of_first IsProperHeaderLine x h p) (declared_rack n h (of_others IsProperHeaderLine x h p))
  where
    with_rack : (o : Option ℕ) → IsRack o → (b : Bool) → unwrap_or (slice_get (filter_map (rack_in n) h) 0) 0 < 2 ^ 8 → unwrap_or (slice_get (cons_option (if b then o else None) (filter_map (rack_in n) h)) 0) 0 < 2 ^ 8
    with_rack None q true rest = rest
    with_rack (Some rack) q true rest = q
    with_rack o q false rest = rest

    go : (x : HeaderLine) → IsProperHeaderLine x → unwrap_or (slice_get (filter_map (rack_in n) h) 0) 0 < 2 ^ 8 → unwrap_or (slice_get (cons_option (rack_in n x) (filter_map (rack_in n) h)) 0) 0 < 2 ^ 8
    go (header.Script version) q rest = rest
    go (header.Factor factor) q rest = rest
    go (header.Node m rack) q rest = with_rack rack q.1 (m == n) rest
    go (header.Policy by) q rest = rest

opened_peopled : (h : Header) → All IsProperHeaderLine h → Peopled (declared_nodes h) (untouched (opened h))
opened_peopled h proper = record {
  nodes = λ n. record { me = refl; peers = refl; up = λ e. e; rack = declared_rack n h proper; heard = tt; missing = record { each = λ p e. absurd (grind (arith, e)) } };
  lists = λ k ms m e i. absurd (grind (arith, e));
  racks = λ k ms e. absurd (grind (arith, e));
  sent = λ i p e. absurd (grind (arith, e));
  tables = tt;
}

pub allowed_named : (n : ℕ) (h : Header) (ss : List Step) → All IsProperHeaderLine h → AreAllowed n (opened h) ss → Named (declared_nodes h) (untouched (opened h)) ss
allowed_named n h ss proper allowed =
    let t : Traced = untouched (opened h) in
    let ids : AreIds (declared_nodes h) = declared_ids h proper in
    let a : Allowed n (opened h) ss = allowed_due n (opened h) ss ids allowed in
    steps_named n (declared_nodes h) t ss ids refl (start h).sound (none_directed (opened h) (λ m. record { targets = tt; waits = tt }) refl) (opened_peopled h proper) a.begun allowed

pub all_named : (n : ℕ) (h : Header) (ss : List Step) → All IsProperHeaderLine h → AreAllowed n (opened h) ss → AllName (IsOneOf (declared_nodes h)) (all_lines ss)
all_named n h ss proper allowed = (allowed_named n h ss proper allowed).names
