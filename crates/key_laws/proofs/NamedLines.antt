-- The lines that are due of a node name nodes that it knows of.
use Rattle.std.proofs.Common.{◌≡◌, ℕ, zero, suc, ◌+◌, ◌==◌, Bool, true, false, cond, List, [], ◌∷◌, ◌++◌, Option, Some, None, map, refl, sym, ap, subst, ◌∙◌, arith, ⊎_elim, inr, ◌-◌}
use Rattle.std.specs.Prelude.{find, filter, nat_lt, if◌then◌else◌, ◌&&◌}
use Rattle.std.specs.List.{range_with_len}
use Rattle.std.specs.Ordering.{nat_cmp}
use Rattle.std.specs.FinMap.{put}
use mathlib.Core.List.{reverse_aux}
use Rattle.conflict_order.specs.declared.version.Version.{Version}
use Rattle.conflict_order.specs.declared.want.Want.{Want}
use Rattle.conflict_order.specs.declared.want.Want.TheVariants as want
use Rattle.cluster_types.specs.declared.cluster_key.ClusterKey.{ClusterKey}
use Rattle.cluster_types.specs.declared.member.Member.{Member}
use Rattle.cluster_types.specs.declared.member.Role.{Role}
use Rattle.cluster_types.specs.Members.{ids_of}
use Rattle.cluster_types.specs.Partitions.{partition_of}
use Rattle.partition_lists.specs.Lists.{list}
use Rattle.journal_lines.specs.declared.line.Line.{Line}
use Rattle.journal_lines.specs.declared.refusal.Refusal.{Refusal}
use Rattle.wire_messages.specs.declared.message.Message.{Message}
use Rattle.wire_messages.specs.declared.message.Message.TheVariants as message
use Rattle.node_rules.specs.Agreement as agreement
use Rattle.node_rules.specs.Agreement.{Proposal, next_key}
use Rattle.node_rules.specs.Entering.{ending, closing, entering}
use Rattle.node_rules.specs.Exchange.{View, is_member, members_of, first_missing}
use Rattle.node_rules.specs.Facts.{Facts, view_key, members_of_view, list_at}
use Rattle.node_rules.specs.Hearing.{Heard, heard_ids, neighbours_of, aged, older, names, member_of, timeout}
use Rattle.node_rules.specs.Map.{lacks, entry_of}
use Rattle.node_rules.specs.Messages as due
use Rattle.node_rules.specs.Messages.{due_message_of}
use Rattle.node_rules.specs.Notes.{noted, neighbours, opening_transaction, reached, in_view, after_ages}
use Rattle.node_rules.specs.Requests.{due_request, due_stop, due_start, asking, request_refusal, refusal_after, acting_refusal, busy_refusal, map_refusal, view_refusal, exchange_refusal, request_if}
use Rattle.node_rules.specs.Resolving.{resolving_want, resolving}
use Rattle.node_rules.specs.Settling.{hand, settle, learn, drop, lines_then, settling_at, settling_from}
use Rattle.node_rules.specs.Shows.{with_roles, map_line, map_if, due_map, due_show}
use Rattle.node_rules.specs.Standing.{acts, knows_all_settled, others}
use Rattle.node_rules.specs.Tables.{Table, contains, table_with, only_if}
use Rattle.node_rules.specs.Tick as tick
use Rattle.node_rules.specs.Tick.{Part, parts_in_order, tick_of, parts, progress_message, proposal_effects, state}
use Rattle.node_rules.specs.Transactions.{Transaction, Write, answered, is_last_awaited, transaction_on, transaction}
use Rattle.cluster_rules.proofs.OwnLines.{noted_me}
use Rattle.key_laws.specs.Ends.{AllNodes, CauseNames, LineNames, AllName}
use Rattle.key_laws.proofs.Addressed.{differ, or_cases, or_left, or_right, member_id}
use Rattle.key_laws.proofs.Frames.{num_eq, num_same}
use Rattle.key_laws.proofs.Neighbours.{by_test, put_cases}
use Rattle.key_laws.proofs.TableReads.{Each, each_listed, member_listed, acting_in, named_in}
use Rattle.cluster_types.specs.Endpoints.{client}
use Rattle.node_rules.specs.BatchMessages.{merging, merging_all}
use Rattle.node_rules.specs.Batches.{has_number, out_to}
use Rattle.node_rules.specs.ClientMessages.{map_table}
use Rattle.node_rules.specs.Effects.{lines_and_sends, lines_only, nothing, sends_only, to_each, to_one}
use Rattle.node_rules.specs.RowMessages.{finishes}
use Rattle.node_rules.specs.StaleMessages.{spent, stale}
use Rattle.node_rules.specs.TransactionMessages.{ack_of, answer_of}
use Rattle.node_rules.specs.VoteMessages.{commit_effects}
use Rattle.std.specs.FinMap as finite
use Rattle.cluster_types.specs.ClusterKeys as keys
use Rattle.journal_lines.specs.declared.line.Line.TheVariants as line
use Rattle.journal_lines.specs.declared.refusal.Refusal.TheVariants as refusal

-- ---- lists of nodes

-- of each that is heard, with its role
abbrev pub HeardAs : (ℕ → Role → Type 0) → Table Heard → Type 0
HeardAs Q [] = Unit {0}
HeardAs Q (e ∷ es) = Q e.0 e.1.beat.role × HeardAs Q es

pub heard_put : (Q : ℕ → Role → Type 0) (k : ℕ) (v : Heard) (es : Table Heard) → Q k v.beat.role → HeardAs Q es → HeardAs Q (put nat_cmp k v es)
heard_put Q k v [] h i = (h, tt)
heard_put Q k v (e ∷ es) h i = put_cases (λ (xs : Table Heard). HeardAs Q xs) k v e es (λ _. (h, i)) (λ q. (subst (λ (n : ℕ). Q n v.beat.role) q h, i.1)) (λ _. (i.0, heard_put Q k v es h i.1))

pub heard_aged : (Q : ℕ → Role → Type 0) (es : Table Heard) → HeardAs Q es → HeardAs Q (aged es)
heard_aged Q [] h = tt
heard_aged Q (e ∷ es) h = by_test (λ (xs : Table Heard). HeardAs Q xs) (nat_lt (older e).1.age timeout) (older e ∷ aged es) (aged es) (h.0, heard_aged Q es h.1) (heard_aged Q es h.1)

pub heard_weak : (Q R : ℕ → Role → Type 0) → ((n : ℕ) (r : Role) → Q n r → R n r) → (es : Table Heard) → HeardAs Q es → HeardAs R es
heard_weak Q R w [] h = tt
heard_weak Q R w (e ∷ es) h = (w e.0 e.1.beat.role h.0, heard_weak Q R w es h.1)

abbrev RolesAs : (ℕ → Role → Type 0) → Table Role → Type 0
RolesAs Q [] = Unit {0}
RolesAs Q (e ∷ es) = Q e.0 e.1 × RolesAs Q es

roles_put : (Q : ℕ → Role → Type 0) (k : ℕ) (v : Role) (es : Table Role) → Q k v → RolesAs Q es → RolesAs Q (put nat_cmp k v es)
roles_put Q k v [] h i = (h, tt)
roles_put Q k v (e ∷ es) h i = put_cases (λ (xs : Table Role). RolesAs Q xs) k v e es (λ _. (h, i)) (λ q. (subst (λ (n : ℕ). Q n v) q h, i.1)) (λ _. (i.0, roles_put Q k v es h i.1))

roles_heard : (Q : ℕ → Role → Type 0) (n : ℕ) (es : Table Heard) → HeardAs Q es → RolesAs Q (map (λ e. (e.0, e.1.beat.role)) (filter (names n) es))
roles_heard Q n [] h = tt
roles_heard Q n (e ∷ es) h = by_test (λ (xs : Table Heard). RolesAs Q (map (λ e. (e.0, e.1.beat.role)) xs)) (names n e) (e ∷ filter (names n) es) (filter (names n) es) (h.0, roles_heard Q n es h.1) (roles_heard Q n es h.1)

-- of each member, with its role
abbrev pub MembersAs : (ℕ → Role → Type 0) → List Member → Type 0
MembersAs Q [] = Unit {0}
MembersAs Q (m ∷ ms) = Q m.id m.role × MembersAs Q ms

members_of_table : (Q : ℕ → Role → Type 0) (es : Table Role) → RolesAs Q es → MembersAs Q (map member_of es)
members_of_table Q [] h = tt
members_of_table Q (e ∷ es) h = (h.0, members_of_table Q es h.1)

members_onto : (Q : ℕ → Role → Type 0) (xs ms : List Member) → MembersAs Q xs → MembersAs Q ms → MembersAs Q (reverse_aux xs ms)
members_onto Q [] ms h i = i
members_onto Q (x ∷ xs) ms h i = members_onto Q xs (x ∷ ms) h.1 (h.0, i)

pub neighbours_as : (Q : ℕ → Role → Type 0) (me : ℕ) (role : Role) (es : Table Heard) → Q me role → HeardAs Q es → MembersAs Q (neighbours_of me role es)
neighbours_as Q me role es h i = members_onto Q (map member_of (table_with (map (λ e. (e.0, e.1.beat.role)) (filter (names me) es)) me role)) [] (members_of_table Q _ (roles_put Q me role _ h (roles_heard Q me es i))) tt

-- the ids of those that are heard
abbrev pub Ids : (ℕ → Type 0) → Table Heard → Type 0
Ids P es = HeardAs (λ n r. P n) es

ids_onto : (P : ℕ → Type 0) (es : Table Heard) (ns : List ℕ) → Ids P es → AllNodes P ns → AllNodes P (reverse_aux (map (λ e. e.0) es) ns)
ids_onto P [] ns h i = i
ids_onto P (e ∷ es) ns h i = ids_onto P es (e.0 ∷ ns) h.1 (h.0, i)

pub heard_all : (P : ℕ → Type 0) (es : Table Heard) → Ids P es → AllNodes P (heard_ids es)
heard_all P es h = ids_onto P es [] h tt

-- the ids of members
abbrev pub AllMembers : (ℕ → Type 0) → List Member → Type 0
AllMembers P ms = AllNodes P (ids_of ms)

members_all : (P : ℕ → Type 0) (ms : List Member) → MembersAs (λ n r. P n) ms → AllMembers P ms
members_all P [] h = tt
members_all P (m ∷ ms) h = (h.0, members_all P ms h.1)

pub neighbours_are : (P : ℕ → Type 0) (me : ℕ) (role : Role) (es : Table Heard) → P me → Ids P es → AllMembers P (neighbours_of me role es)
neighbours_are P me role es h i = members_all P (neighbours_of me role es) (neighbours_as (λ n r. P n) me role es h i)

pub member_is : (P : ℕ → Type 0) (ms : List Member) (n : ℕ) → AllMembers P ms → is_member ms n ≡ true → P n
member_is P [] n h e = differ e refl
member_is P (m ∷ ms) n h e = ⊎_elim (λ x. subst P (num_same m.id n x) h.0) (λ y. member_is P ms n h.1 y) (or_cases (m.id == n) (is_member ms n) e)

pub all_members : (P : ℕ → Type 0) (ms : List Member) → ((n : ℕ) → is_member ms n ≡ true → P n) → AllMembers P ms
all_members P [] h = tt
all_members P (m ∷ ms) h = (h m.id (or_left (m.id == m.id) (is_member ms m.id) (num_eq m.id m.id refl)), all_members P ms (λ n e. h n (or_right (m.id == n) (is_member ms n) e)))

pub all_each : (P : ℕ → Type 0) (ns : List ℕ) → Each P ns → AllNodes P ns
all_each P [] h = tt
all_each P (n ∷ ns) h = (h n (or_left (n == n) (contains ns n) (num_eq n n refl)), all_each P ns (λ m e. h m (or_right (n == m) (contains ns m) e)))

-- ---- what a node knows of

pub record Aware (P : ℕ → Type 0) (f : Facts) : Type 0 where
  pub me : P f.me
  pub members : (n : ℕ) → is_member (members_of_view f) n ≡ true → P n
  -- in a view the node is a member
  pub among : (v : View) → f.exchange.view ≡ Some v → is_member v.members f.me ≡ true
  pub heard : Ids P f.hearing.heard
  pub proposal : (p : Proposal) → f.agreement.proposal ≡ Some p → AllMembers P p.members

-- ---- lines

pub name_append : (P : ℕ → Type 0) (ls more : List Line) → AllName P ls → AllName P more → AllName P (ls ++ more)
name_append P [] more a b = b
name_append P (l ∷ ls) more a b = (a.0, name_append P ls more a.1 b)

one_if : (P : ℕ → Type 0) (l : Line) (b : Bool) → LineNames P l → AllName P (only_if l b)
one_if P l true h = (h, tt)
one_if P l false h = tt

-- lines, and those of the facts with them
then_name : (P : ℕ → Type 0) (f : Facts) (before : List Line) (rest : Facts → List Line) → P f.me → AllName P before → ((g : Facts) → P g.me → AllName P (rest g)) → AllName P (before ++ rest (noted None f before))
then_name P f before rest me a b = name_append P before (rest (noted None f before)) a (b (noted None f before) (subst P (sym (noted_me None f before)) me))

-- ---- entering

ending_name : (P : ℕ → Type 0) (n : ℕ) (key : ClusterKey) (number : ℕ) (o : Option Write) → P n → LineNames P (ending n key number o)
ending_name P n key number None h = h
ending_name P n key number (Some w) h = h

closing_name : (P : ℕ → Type 0) (n : ℕ) (key : ClusterKey) (ts : List Transaction) → P n → AllName P (map (λ t. ending n key t.number t.applied) ts)
closing_name P n key [] h = tt
closing_name P n key (t ∷ ts) h = (ending_name P n key t.number t.applied h, closing_name P n key ts h)

exchanging_name : (P : ℕ → Type 0) (n : ℕ) (key : ClusterKey) (b : Bool) → P n → AllName P (only_if (line.Exchanged n key) b)
exchanging_name P n key true h = (h, tt)
exchanging_name P n key false h = tt

entering_name : (P : ℕ → Type 0) (f : Facts) (key : ClusterKey) (ms : List Member) → P f.me → AllMembers P ms → AllName P (entering f key ms)
entering_name P f key ms h i = name_append P (closing f) _ (closing_name P f.me (view_key f) f.transactions.running h) ((h, i), exchanging_name P f.me key _ h)

-- ---- a tick

propose_name : (P : ℕ → Type 0) (f : Facts) → P f.me → AllMembers P (neighbours f) → AllName P (tick.propose f).lines
propose_name P f h i = go f.agreement.proposal
  where
    deep : (ns : List ℕ) → AllName P (tick.proposal_effects f (agreement.next_key f.me f.agreement) (neighbours f) ns).lines
    deep [] = (h, entering_name P f (agreement.next_key f.me f.agreement) (neighbours f) h i)
    deep (n ∷ ns) = (h, tt)

    new : (b : Bool) → AllName P (if b then proposal_effects f (next_key f.me f.agreement) (neighbours f) (agreement.others_among f.me (neighbours f)) else nothing).lines
    new true = deep (agreement.others_among f.me (neighbours f))
    new false = tt

    go : (o : Option Proposal) → AllName P (tick.propose_with f o).lines
    go (Some p) = tt
    go None = new _

settling_at_name : (P : ℕ → Type 0) (l : List ℕ) (p : ℕ) (f : Facts) → P f.me → AllName P (settling_at l p f)
settling_at_name P l p f me =
    then_name P f (hand f l p) (lines_then (λ f. settle f l p) (lines_then (λ f. learn f l p) (λ f. drop f l p))) me (one_if P _ _ me)
    (λ g a. then_name P g (settle g l p) (lines_then (λ f. learn f l p) (λ f. drop f l p)) a (one_if P _ _ a)
    (λ h b. then_name P h (learn h l p) (λ f. drop f l p) b (one_if P _ _ b) (λ k c. one_if P _ _ c)))

settling_from_name : (P : ℕ → Type 0) (n p : ℕ) (f : Facts) → P f.me → AllName P (settling_from n p f)
unfolding settling_from
settling_from_name P zero p f me = tt
settling_from_name P (suc n) p f me =
    then_name P f (settling_at (list_at f p) p f) (settling_from n (p + 1)) me (settling_at_name P (list_at f p) p f me) (λ g a. settling_from_name P n (p + 1) g a)

settling_name : (P : ℕ → Type 0) (n : ℕ) (f : Facts) (b : Bool) → P f.me → AllName P (if b then settling_from n 0 f else [])
settling_name P n f true me = settling_from_name P n 0 f me
settling_name P n f false me = tt

progress_name : (P : ℕ → Type 0) (n : ℕ) (f : Facts) (b : Bool) → AllName P (if b then sends_only (to_each (others f) (progress_message n f true)) else nothing).lines
progress_name P n f true = tt
progress_name P n f false = tt

abbrev AllOwn : (ℕ → Type 0) → List Part → Type 0
AllOwn P [] = Unit {0}
AllOwn P (part ∷ parts) = ((f : Facts) → P f.me → AllName P (part f).lines) × AllOwn P parts

in_order_name : (P : ℕ → Type 0) (parts : List Part) → AllOwn P parts → (f : Facts) → P f.me → AllName P (parts_in_order parts f).lines
in_order_name P [] h f me = tt
in_order_name P (part ∷ parts) h f me = then_name P f (part f).lines (λ g. (parts_in_order parts g).lines) me (h.0 f me) (λ g a. in_order_name P parts h.1 g a)

pub tick_name : (P : ℕ → Type 0) (n : ℕ) (f : Facts) → Aware P f → AllName P (tick_of n f).lines
tick_name P n f h = go f.up
  where
    g : Facts
    g = after_ages f

    later : List Part
    later = tick.rows ∷ tick.transactions ∷ tick.batches ∷ tick.settlings n ∷ tick.progress n ∷ []

    go : (b : Bool) → AllName P (if b then parts_in_order (parts n) f else lines_only (line.Down f.me ∷ [])).lines
    go true = (
      h.me,
      then_name P g (tick.propose g).lines (λ k. (parts_in_order later k).lines) h.me
          (propose_name P g h.me (neighbours_are P f.me f.role (aged f.hearing.heard) h.me (heard_aged (λ n r. P n) f.hearing.heard h.heard)))
          (λ k a. in_order_name P later (λ x _. tt, (λ x _. tt, (λ x _. tt, (λ x b. settling_name P n x x.exchange.exchanged b, (λ x _. progress_name P n x _, tt))))) k a),
    )
    go false = (h.me, tt)

-- ---- refusals and maps

missing_is : (P : ℕ → Type 0) (test : ℕ → Bool) (ns : List ℕ) → AllNodes P ns → (n : ℕ) → find test ns ≡ Some n → P n
missing_is P test [] h n e = cc
missing_is P test (m ∷ ns) h n e = go (test m) (λ i. missing_is P test ns h.1 n i) e
  where
    same : {a b : ℕ} → Some a ≡ Some b → a ≡ b
    same {a} {b} e = grind arith

    go : (b : Bool) → (find test ns ≡ Some n → P n) → cond b (Some m) (find test ns) ≡ Some n → P n
    go true rest e = subst P (same e) h.0
    go false rest e = rest e

abbrev pub CauseIf : (ℕ → Type 0) → Option Refusal → Type 0
CauseIf P None = Unit {0}
CauseIf P (Some cause) = CauseNames P cause

pub map_cause : (P : ℕ → Type 0) (f : Facts) → Aware P f → CauseIf P (map_refusal f)
map_cause P f h = go f.up
  where
    missing : (o : Option ℕ) → ((n : ℕ) → o ≡ Some n → P n) → CauseIf P (exchange_refusal o)
    missing None i = tt
    missing (Some n) i = i n refl

    in_view_of : (o : Option View) → f.exchange.view ≡ o → CauseIf P (view_refusal f o)
    in_view_of None e = tt
    in_view_of (Some v) e = missing (first_missing f.exchange.rows v.members) (missing_is P (lacks f.exchange.rows) (ids_of v.members)
        (all_members P v.members (λ n m. h.members n (ap (λ (o : Option View). is_member (members_of o) n) e ∙ m))))

    go : (b : Bool) → CauseIf P (if b then view_refusal f f.exchange.view else Some refusal.Down)
    go true = in_view_of f.exchange.view refl
    go false = tt

-- without a refusal the node is in a view, so that a list names it
pub in_list : (P : ℕ → Type 0) (f : Facts) (p : ℕ) → Aware P f → map_refusal f ≡ None → contains (list_at f p) f.me ≡ true
in_list P f p h e = go f.up e
  where
    in_view_of : (o : Option View) → f.exchange.view ≡ o → view_refusal f o ≡ None → contains (list_at f p) f.me ≡ true
    in_view_of None i e = cc
    in_view_of (Some v) i e = member_listed (members_of_view f) p f.me (member_id (members_of_view f) f.me ∙ ap (λ (o : Option View). is_member (members_of o) f.me) i ∙ h.among v i)

    go : (b : Bool) → (if b then view_refusal f f.exchange.view else Some refusal.Down) ≡ None → contains (list_at f p) f.me ≡ true
    go true e = in_view_of f.exchange.view refl e
    go false e = cc

pub refusal_cause : (P : ℕ → Type 0) (f : Facts) (d : List ℕ) → Aware P f → CauseIf P (request_refusal f (list_at f (partition_of d)) d)
refusal_cause P f d h = go (map_refusal f) refl (map_cause P f h)
  where
    busy : (o : Option Transaction) → CauseIf P (busy_refusal o)
    busy None = tt
    busy (Some t) = tt

    acting_of : (b : Bool) → map_refusal f ≡ None → CauseIf P (acting_refusal f (list_at f (partition_of d)) d b)
    acting_of true e = busy (transaction_on f.transactions d)
    acting_of false e = named_in P f (list_at f (partition_of d)) (partition_of d) f.me (in_list P f (partition_of d) h e) (each_listed P (members_of_view f) (partition_of d) h.members)

    go : (o : Option Refusal) → map_refusal f ≡ o → CauseIf P o → CauseIf P (refusal_after f (list_at f (partition_of d)) d o)
    go (Some cause) e c = c
    go None e c = acting_of (acts f (list_at f (partition_of d)) (partition_of d)) e

roles_all : (P : ℕ → Type 0) (ms : List Member) (l : List ℕ) → AllNodes P l → AllMembers P (with_roles ms l)
roles_all P ms [] h = tt
roles_all P ms (n ∷ l) h = (h.0, roles_all P ms l h.1)

pub place_name : (P : ℕ → Type 0) (ms : List Member) (p : ℕ) → AllMembers P ms → AllMembers P (with_roles ms (list ms p))
place_name P ms p h = roles_all P ms (list ms p) (all_each P (list ms p) (each_listed P ms p (λ n e. member_is P ms n h e)))

pub map_name : (P : ℕ → Type 0) (f : Facts) (from to : ℕ) → Aware P f → AllName P (due_map f from to).lines
map_name P f from to h = go (map_refusal f) refl (map_cause P f h)
  where
    each : map_refusal f ≡ None → (ps : List ℕ) → AllName P (map (λ p. map_line f p (entry_of (list_at f p) f.exchange.rows p)) ps)
    each e [] = tt
    each e (p ∷ ps) = ((h.me, (acting_in P f (list_at f p) p f.me (in_list P f p h e) (each_listed P (members_of_view f) p h.members), roles_all P (members_of_view f) (list_at f p) (all_each P (list_at f p) (each_listed P (members_of_view f) p h.members)))), each e ps)

    go : (o : Option Refusal) → map_refusal f ≡ o → CauseIf P o → AllName P (map_if f from to o)
    go (Some cause) e c = ((h.me, c), tt)
    go None e c = each e (range_with_len from (to + 1 - from))

pub show_name : (P : ℕ → Type 0) (f : Facts) (d : List ℕ) → P f.me → AllName P (due_show f d).lines
show_name P f d h = (h, tt)

-- ---- messages

voting_name : (P : ℕ → Type 0) (f : Facts) (from : ℕ) (key : ClusterKey) (b : Bool) → P f.me → AllName P (if b then sends_only (to_one from (message.Refuse key f.agreement.promised)) else lines_and_sends (only_if (line.Promise f.me key) (keys.key_lt f.agreement.promised key)) (to_one from (message.Accept key))).lines
voting_name P f from key true h = tt
voting_name P f from key false h = one_if P _ _ h

committing_name : (P : ℕ → Type 0) (f : Facts) (p : Proposal) (b : Bool) → P f.me → AllMembers P p.members → AllName P (if b then commit_effects f p else nothing).lines
committing_name P f p true h i = entering_name P f p.key p.members h i
committing_name P f p false h i = tt

counting_name : (P : ℕ → Type 0) (f : Facts) (from : ℕ) (key : ClusterKey) (o : Option Proposal) (b : Bool) → P f.me → ((p : Proposal) → o ≡ Some p → AllMembers P p.members) → AllName P (due.accept_effects f from key o b).lines
counting_name P f from key (Some p) true h i = committing_name P f p _ h (i p refl)
counting_name P f from key (Some p) false h i = (inr h, tt)
counting_name P f from key None b h i = (inr h, tt)

stale_name : (P : ℕ → Type 0) (f : Facts) (b : Bool) → P f.me → AllName P (if b then nothing else stale f).lines
stale_name P f true h = tt
stale_name P f false h = (inr h, tt)

spent_name : (P : ℕ → Type 0) (f : Facts) (b : Bool) → P f.me → AllName P (if b then nothing else spent f).lines
spent_name P f true h = tt
spent_name P f false h = (inr h, tt)

commit_name : (P : ℕ → Type 0) (f : Facts) (key : ClusterKey) (ms : List Member) (b : Bool) → P f.me → AllMembers P ms → AllName P (if b then lines_only (entering f key ms) else stale f).lines
commit_name P f key ms true h i = entering_name P f key ms h i
commit_name P f key ms false h i = (inr h, tt)

state_name : (P : ℕ → Type 0) (f now : Facts) (from : ℕ) (wants b : Bool) → P f.me → AllName P (if b then lines_and_sends (only_if (line.Exchanged f.me (view_key f)) (finishes f now)) (if wants then to_one from (state f false) else []) else stale f).lines
state_name P f now from wants true h = one_if P _ _ h
state_name P f now from wants false h = (inr h, tt)

merging_name : (P : ℕ → Type 0) (f : Facts) (rs : List (List ℕ × Version)) → P f.me → AllName P (due.merging_all f rs)
merging_name P f [] h = tt
merging_name P f (r ∷ rs) h = then_name P f (due.merging f r.0 r.1) (λ g. due.merging_all g rs) h (one_if P _ _ h) (λ g a. merging_name P g rs a)

progressed_name : (P : ℕ → Type 0) (n : ℕ) (f now : Facts) (from : ℕ) (wants b : Bool) → P f.me → AllName P (if b then (if wants && knows_all_settled now n 0 then sends_only (to_one from (progress_message n now false)) else nothing) else stale f).lines
progressed_name P n f now from wants true h = go _
  where
    go : (c : Bool) → AllName P (if c then sends_only (to_one from (progress_message n now false)) else nothing).lines
    go true = tt
    go false = tt
progressed_name P n f now from wants false h = (inr h, tt)

acked_name : (P : ℕ → Type 0) (f : Facts) (from number : ℕ) (b : Bool) → P f.me → AllName P (if b then ack_of f from (transaction f.transactions number) else stale f).lines
acked_name P f from number true h = go _
  where
    deep : (t : Transaction) (c : Bool) → AllName P (if c then lines_only (only_if (line.Done f.me (view_key f) t.number) (is_last_awaited t from)) else spent f).lines
    deep t true = one_if P _ _ h
    deep t false = (inr h, tt)

    go : (o : Option Transaction) → AllName P (due.ack_of f from o).lines
    go None = (inr h, tt)
    go (Some t) = deep t _
acked_name P f from number false h = (inr h, tt)

done_name : (P : ℕ → Type 0) (f : Facts) (number : ℕ) (b : Bool) → P f.me → AllName P (only_if (line.Done f.me (view_key f) number) b)
done_name P f number true h = (h, tt)
done_name P f number false h = tt

resolving_name : (P : ℕ → Type 0) (f : Facts) (clock : ℕ) (l : List ℕ) (t : Transaction) (w : Want) → P f.me → AllName P (resolving_want f clock l t w).lines
resolving_name P f clock l t want.Get h = (h, tt)
resolving_name P f clock l t (want.Put bytes) h = (h, done_name P f t.number _ h)
resolving_name P f clock l t want.Del h = (h, done_name P f t.number _ h)

answered_name : (P : ℕ → Type 0) (f : Facts) (clock from number : ℕ) (v : Option Version) (b : Bool) → P f.me → AllName P (if b then answer_of f clock from v (transaction f.transactions number) else stale f).lines
answered_name P f clock from number v true h = go _
  where
    last : (t : Transaction) (c : Bool) → AllName P (if c then resolving f clock (list_at f (partition_of t.digest)) t else nothing).lines
    last t true = resolving_name P f clock _ t t.want h
    last t false = tt

    deep : (t : Transaction) (c : Bool) → AllName P (if c then (if is_last_awaited t from then resolving f clock (list_at f (partition_of (answered f.store.by from v t).digest)) (answered f.store.by from v t) else nothing) else spent f).lines
    deep t true = last (answered f.store.by from v t) (is_last_awaited t from)
    deep t false = (inr h, tt)

    go : (o : Option Transaction) → AllName P (due.answer_of f clock from v o).lines
    go None = (inr h, tt)
    go (Some t) = deep t _
answered_name P f clock from number v false h = (inr h, tt)

-- a view that is committed is one of such nodes
abbrev pub Commits : (ℕ → Type 0) → Message → Type 0
Commits P (message.Commit key ms) = AllMembers P ms
Commits P _ = Unit {0}

pub message_name : (P : ℕ → Type 0) (n : ℕ) (f : Facts) (clock from : ℕ) (m : Message) → Aware P f → Commits P m → AllName P (due_message_of n f clock from m).lines
message_name P n f clock from (message.Heartbeat view promised hears role) h i = tt
message_name P n f clock from (message.Propose key ms) h i = voting_name P f from key _ h.me
message_name P n f clock from (message.Accept key) h i = counting_name P f from key f.agreement.proposal _ h.me h.proposal
message_name P n f clock from (message.Refuse key promised) h i = stale_name P f _ h.me
message_name P n f clock from (message.Commit key ms) h i = commit_name P f key ms _ h.me i
message_name P n f clock from (message.State key wants row) h i = state_name P f (reached f from (message.State key wants row)) from wants (in_view f key) h.me
message_name P n f clock from (message.Batch b) h i = go (in_view f b.key)
  where
    go : (c : Bool) → AllName P (if c then lines_and_sends (merging_all f b.records) (to_one from (message.BatchAck b.key b.number)) else stale f).lines
    go true = merging_name P f b.records h.me
    go false = (inr h.me, tt)
message_name P n f clock from (message.BatchAck key number) h i = go (in_view f key)
  where
    go : (c : Bool) → AllName P (if c then (if has_number (out_to f.batches from) number then nothing else spent f) else stale f).lines
    go true = spent_name P f _ h.me
    go false = (inr h.me, tt)
message_name P n f clock from (message.Progress key wants done handed settled) h i = progressed_name P n f (reached f from (message.Progress key wants done handed settled)) from wants (in_view f key) h.me
message_name P n f clock from (message.Repl key t nth d v) h i = go (in_view f key)
  where
    go : (c : Bool) → AllName P (if c then lines_and_sends (merging f d v) (to_one from (message.ReplAck key t)) else stale f).lines
    go true = one_if P _ _ h.me
    go false = (inr h.me, tt)
message_name P n f clock from (message.ReplAck key t) h i = acked_name P f from t (in_view f key) h.me
message_name P n f clock from (message.Ask key t d) h i = go (in_view f key)
  where
    go : (c : Bool) → AllName P (if c then sends_only (to_one from (message.Answer key t (finite.get f.store.content d))) else stale f).lines
    go true = tt
    go false = (inr h.me, tt)
message_name P n f clock from (message.Answer key t v) h i = answered_name P f clock from t v (in_view f key) h.me
message_name P n f clock from message.MapAsk h i = go f.exchange.exchanged
  where
    go : (c : Bool) → AllName P (if c then sends_only (to_one client (message.MapTable (map_table f))) else nothing).lines
    go true = tt
    go false = tt
message_name P n f clock from _ h i = (inr h.me, tt)

-- ---- requests, stops and starts

pub request_name : (P : ℕ → Type 0) (f : Facts) (clock : ℕ) (d : List ℕ) (w : Want) → Aware P f → AllName P (due_request f clock d w).lines
request_name P f clock d w h = go (request_refusal f (list_at f (partition_of d)) d) (refusal_cause P f d h)
  where
    new : Facts → Transaction
    new g = opening_transaction g (list_at g (partition_of d)) (g.transactions.opened + 1) d w

    asks : (l : List ℕ) (t : Transaction) (ns : List ℕ) → AllName P (asking f clock l t ns).lines
    asks l t [] = resolving_name P f clock l t t.want h.me
    asks l t (n ∷ ns) = tt

    go : (o : Option Refusal) → CauseIf P o → AllName P (request_if f clock (list_at f (partition_of d)) d w o).lines
    go (Some cause) c = ((h.me, c), tt)
    go None c = (h.me, asks (list_at f (partition_of d)) (new f) (new f).awaiting)

pub stop_name : (P : ℕ → Type 0) (f : Facts) → P f.me → AllName P (due_stop f).lines
stop_name P f h = go f.up
  where
    go : (b : Bool) → AllName P (if b then lines_only (closing f ++ line.Stop f.me ∷ []) else lines_only (line.Down f.me ∷ [])).lines
    go true = name_append P (closing f) _ (closing_name P f.me (view_key f) f.transactions.running h) (h, tt)
    go false = (h, tt)

pub start_name : (P : ℕ → Type 0) (f : Facts) → P f.me → AllName P (due_start f).lines
start_name P f h = go f.up
  where
    go : (b : Bool) → AllName P (if b then lines_only (line.Up f.me ∷ []) else lines_only (line.Start f.me ∷ [])).lines
    go true = (h, tt)
    go false = (h, tt)
