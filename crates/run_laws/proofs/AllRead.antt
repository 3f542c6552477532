-- Where at most sixteen nodes are declared, every message that is due of a node is read as it was sent.
use Rattle.std.proofs.Common.{◌≡◌, ⊎_elim, ℕ, zero, suc, ◌+◌, ◌<◌, ◌≤◌, ◌^◌, ◌==◌, Bool, true, false, not, ◌&&◌, ◌||◌, All, List, [], ◌∷◌, ◌++◌, length, Option, Some, None, refl, sym, ap, ◌∙◌, subst, arith}
use Rattle.std.specs.Prelude.{filter, filter_map, flat_map, if◌then◌else◌}
use Rattle.std.specs.List.{cons_option}
use Rattle.std.proofs.lemmas.Bool.Decides.{nat_tests}
use Rattle.conflict_order.specs.declared.policy.Policy.{Policy}
use Rattle.conflict_order.specs.declared.want.Want.{Want}
use Rattle.conflict_order.specs.declared.want.Want.TheVariants as want
use Rattle.cluster_types.specs.declared.cluster_key.ClusterKey.{ClusterKey}
use Rattle.cluster_types.specs.declared.member.Member.{Member}
use Rattle.cluster_types.specs.ClusterKeys as keys
use Rattle.cluster_types.specs.Distinct.{IsDescending}
use Rattle.cluster_types.specs.Members.{ids_of}
use Rattle.cluster_types.specs.Partitions.{partition_count, partition_of}
use Rattle.cluster_types.proofs.DistinctLaws.{descending_distinct}
use Rattle.journal_lines.specs.declared.line.Line.{Line}
use Rattle.journal_lines.specs.declared.line.Line.TheVariants as line
use Rattle.journal_lines.specs.declared.refusal.Refusal.{Refusal}
use Rattle.wire_messages.specs.declared.message.Batch.{Batch}
use Rattle.wire_messages.specs.declared.message.Message.{Message}
use Rattle.wire_messages.specs.declared.message.Message.TheVariants as message
use Rattle.wire_messages.specs.Decoding.{message_of}
use Rattle.wire_messages.specs.Keys.{IsKeyField, IsKeyOrNone}
use Rattle.wire_messages.specs.Nodes.{AreHeard, AreMembersField, IsId}
use Rattle.wire_messages.specs.Proper.{IsProper}
use Rattle.wire_messages.specs.Spelling.{spelling}
use Rattle.wire_messages.proofs.DecodingLaws.{read_back}
use Rattle.node_rules.specs.Agreement as agreement
use Rattle.node_rules.specs.Agreement.{Proposal, proposes, next_key, has_round, without_missing, enters_alone}
use Rattle.node_rules.specs.Batches.{Target, Targets, next_batch, has_number, out_to}
use Rattle.node_rules.specs.ByParts.{entered_alone}
use Rattle.node_rules.specs.Copies.{is_nil}
use Rattle.node_rules.specs.Effects.{to_each, lines_and_sends, lines_only, nothing, sends_only, to_one}
use Rattle.node_rules.specs.Exchange.{Exchange, View, is_member, exchange_key}
use Rattle.node_rules.specs.Facts.{Facts, view_key, list_at}
use Rattle.node_rules.specs.Hearing.{heard_ids}
use Rattle.node_rules.specs.Map.{lacks}
use Rattle.node_rules.specs.Messages as due
use Rattle.node_rules.specs.Messages.{due_message, map_table}
use Rattle.node_rules.specs.Notes as notes
use Rattle.node_rules.specs.Notes.{noted, note, neighbours, after_ages, reached, in_view, opening_transaction}
use Rattle.node_rules.specs.Requests.{due_request, asking, request_if, request_refusal}
use Rattle.node_rules.specs.Resolving.{resolving_want, resolving}
use Rattle.node_rules.specs.Settling.{hand, settle, learn, drop, settling_due, settling_at, settling_from}
use Rattle.node_rules.specs.Standing.{others, other_replicas, asked, knows_all_settled}
use Rattle.node_rules.specs.Tick as tick
use Rattle.node_rules.specs.Tick.{propose, is_candidate, state, progress_message, done_from, parts, parts_in_order, proposal_effects}
use Rattle.node_rules.specs.Transactions.{Transaction, Write, transaction, answered, awaits_ack, awaits_answer, is_last_awaited}
use Rattle.node_rules.proofs.NoteLaws.{noted-append}
use Rattle.node_rules.proofs.TickParts.{alone_is, among_others_is}
use Rattle.node_rules.specs.Tables.{only_if}
use Rattle.cluster_rules.specs.NodeSteps as steps
use Rattle.journal_readings.specs.Lines.{has_node}
use Rattle.cluster_rules.proofs.OwnLines.{noted_me}
use Rattle.cluster_laws.proofs.At.{differ, and_left, and_right}
use Rattle.key_laws.specs.Ends.{IsOneOf, AllNodes}
use Rattle.key_laws.specs.Sound.{GoodList}
use Rattle.key_laws.proofs.DueDirected.{Alone, alone_in, alone_now, later, nothing_later, same_others, settled_view}
use Rattle.key_laws.proofs.DueTick.{next_is_key}
use Rattle.key_laws.proofs.NamedLines.{AllMembers, MembersAs}
use Rattle.key_laws.proofs.NamedSends.{aged_proposal}
use Rattle.key_laws.proofs.Neighbours.{all_cons, all_none}
use Rattle.key_laws.proofs.Peopled.{FitsRack}
use Rattle.run_laws.specs.LineDue.{LawOf}
use Rattle.run_laws.specs.Spelled.{AreReadInRange, is_ranged}
use Rattle.run_laws.specs.Tied.{Each}
use Rattle.run_laws.proofs.Named.{once}
use Rattle.run_laws.proofs.NodeLaws.{reached_law, set_length}
use Rattle.run_laws.proofs.Pigeonhole.{Within, no_more}
use Rattle.run_laws.proofs.ViewSteps.{Viewed, view_of}
use Rattle.cluster_types.specs.Endpoints.{client}
use Rattle.node_rules.specs.BatchMessages.{merging, merging_all}
use Rattle.node_rules.specs.Entering.{entering}
use Rattle.node_rules.specs.RowMessages.{finishes}
use Rattle.node_rules.specs.StaleMessages.{spent, stale}
use Rattle.node_rules.specs.TransactionMessages.{ack_of, answer_of}
use Rattle.node_rules.specs.VoteMessages.{commit_effects}
use Rattle.std.specs.FinMap as finite

-- ---- messages of which no licence reads anything

abbrev pub FreeRead : List (ℕ × Message) → Type 0
FreeRead ss = Each (λ (s : ℕ × Message). is_ranged s.1 ≡ false → message_of (spelling s.1) ≡ Some s.1) ss

pub all_read : (ss : List (ℕ × Message)) → AreReadInRange ss → FreeRead ss → steps.AreRead ss
all_read [] a b = tt
all_read (s ∷ ss) a b = (go (is_ranged s.1) refl, all_read ss a.1 b.1)
  where
    go : (q : Bool) → is_ranged s.1 ≡ q → message_of (spelling s.1) ≡ Some s.1
    go true e = a.0 e
    go false e = b.0 e

each_free : (ns : List ℕ) (m : Message) → IsProper m → FreeRead (to_each ns m)
each_free [] m p = tt
each_free (n ∷ ns) m p = ((λ e. read_back m p), each_free ns m p)

ranged_free : (ns : List ℕ) (m : Message) → is_ranged m ≡ true → FreeRead (to_each ns m)
ranged_free [] m e = tt
ranged_free (n ∷ ns) m e = ((λ q. differ e q), ranged_free ns m e)

append_free : (a b : List (ℕ × Message)) → FreeRead a → FreeRead b → FreeRead (a ++ b)
append_free [] b x y = y
append_free (s ∷ a) b x y = (x.0, append_free a b x.1 y)

-- ---- how many nodes there are

within_of : (ns xs : List ℕ) → AllNodes (IsOneOf ns) xs → Within ns xs
within_of ns [] h = tt
within_of ns (x ∷ xs) h = (h.0, within_of ns xs h.1)

-- declared nodes in falling order are no more than sixteen
few_of : (ns xs : List ℕ) → length ns ≤ 16 → IsDescending xs → AllNodes (IsOneOf ns) xs → length xs ≤ 16
few_of ns xs few falls h = let r : length xs ≤ length ns = no_more xs ns (once xs (descending_distinct xs falls)) (within_of ns xs h) in omega (arith, r, few)

-- and of the others there are no more than fifteen
few_others : (ns xs : List ℕ) (me : ℕ) → length ns ≤ 16 → IsDescending xs → AllNodes (IsOneOf ns) xs → AllNodes (λ n. n ≡ me → ⊥) xs → IsOneOf ns me → length xs ≤ 15
few_others ns xs me few falls h apart one =
    let r : length (me ∷ xs) ≤ length ns = no_more (me ∷ xs) ns (absent xs apart, once xs (descending_distinct xs falls)) (one, within_of ns xs h) in omega (arith, r, few)
  where
    absent : (xs : List ℕ) → AllNodes (λ n. n ≡ me → ⊥) xs → has_node xs me ≡ false
    absent [] h = refl
    absent (x ∷ xs) h = go (x == me) refl (absent xs h.1)
      where
        go : (b : Bool) → (x == me) ≡ b → has_node xs me ≡ false → (b || has_node xs me) ≡ false
        go true e r = absurd (h.0 (grind (arith, nat_tests, e)))
        go false e r = r

racks_all : (ms : List Member) → MembersAs FitsRack ms → All (λ (m : Member). m.role.rack < 2 ^ 8) ms
racks_all [] h = all_none (λ (m : Member). m.role.rack < 2 ^ 8)
racks_all (m ∷ ms) h = all_cons (λ (m : Member). m.role.rack < 2 ^ 8) m ms h.0 (racks_all ms h.1)

length_ids : (ms : List Member) → length (ids_of ms) ≡ length ms
length_ids [] = refl
length_ids (m ∷ ms) = ap suc (length_ids ms)

-- so a list of declared members has a spelling
pub members_proper : (ns : List ℕ) (n : ℕ) (ms : List Member) → length ns ≤ 16 → GoodList n ms → AllMembers (IsOneOf ns) ms → MembersAs FitsRack ms → AreMembersField ms
members_proper ns n ms few good named racks = record {
  view = record { some = some ms good.led; limit = limit; descending = good.falls };
  fit = λ i d lt. record { id = good.fit i d lt; rack = racks_all ms racks i d lt };
}
  where
    some : (ms : List Member) → is_member ms n ≡ true → 0 < length ms
    some [] e = differ e refl
    some (m ∷ ms) e = omega arith

    limit : length ms ≤ 16
    limit = let r : length (ids_of ms) ≤ 16 = few_of ns (ids_of ms) few good.falls named in omega (arith, r, length_ids ms)

pub heard_proper : (ns xs : List ℕ) (me : ℕ) → length ns ≤ 16 → IsDescending xs → All IsId xs → AllNodes (IsOneOf ns) xs → AllNodes (λ n. n ≡ me → ⊥) xs → IsOneOf ns me → AreHeard xs
heard_proper ns xs me few falls fit named apart one = record { limit = few_others ns xs me few falls named apart one; descending = falls; each = fit }

-- ---- what a node keeps has a spelling

-- a proposal is of a key and of members that have one
pub record ProposalFits (p : Proposal) : Type 0 where
  pub key : IsKeyField p.key
  pub members : AreMembersField p.members

pub record Spells (f : Facts) : Type 0 where
  pub promised : IsKeyOrNone f.agreement.promised
  pub key : (v : View) → f.exchange.view ≡ Some v → IsKeyField (view_key f)
  pub proposal : (p : Proposal) → f.agreement.proposal ≡ Some p → ProposalFits p
  pub table : (v : View) → f.exchange.view ≡ Some v → IsProper (message.MapTable (map_table f))

-- and what it tells at a tick, of the facts with its line
pub record TicksSpelled (g : Facts) : Type 0 where
  pub me : IsId g.me
  pub view : IsKeyOrNone (view_key g)
  pub rack : g.role.rack < 2 ^ 8
  pub heard : AreHeard (heard_ids g.hearing.heard)
  pub neighbours : AreMembersField (neighbours g)

-- ---- rows of bits

record Wide (f : Facts) : Type 0 where
  handed : length f.bits.handed ≡ partition_count
  settled : length f.bits.settled ≡ partition_count

wide_of : {by : Policy} {factor : ℕ} {f : Facts} → LawOf by factor f → Wide f
wide_of {by} {factor} {f} h = record { handed = h.handed_places; settled = h.settled_places }

wide_if : (f : Facts) (l : Line) (b : Bool) → (Wide f → Wide (note None f l)) → Wide f → Wide (noted None f (only_if l b))
wide_if f l true n w = n w
wide_if f l false n w = w

settling_at_wide : (l : List ℕ) (p : ℕ) (f : Facts) → Wide f → Wide (noted None f (settling_at l p f))
settling_at_wide l p f w =
    let f1 : Facts = noted None f (hand f l p) in
    let f2 : Facts = noted None f1 (settle f1 l p) in
    let f3 : Facts = noted None f2 (learn f2 l p) in
    let w1 : Wide f1 = wide_if f (line.Handed f.me (view_key f) p) _ (λ x. record { handed = set_length f.bits.handed p true ∙ x.handed; settled = x.settled }) w in
    let w2 : Wide f2 = wide_if f1 (line.Settled f1.me (view_key f1) p) _ (λ x. record { handed = x.handed; settled = set_length f1.bits.settled p true ∙ x.settled }) w1 in
    let w3 : Wide f3 = wide_if f2 (line.Learn f2.me (view_key f2) p) _ (λ x. record { handed = x.handed; settled = x.settled }) w2 in
    let w4 : Wide (noted None f3 (drop f3 l p)) = wide_if f3 (line.Drop f3.me (view_key f3) p) _ (λ x. record { handed = x.handed; settled = x.settled }) w3 in
    subst Wide (sym (noted-append None f (hand f l p) (settle f1 l p ++ (learn f2 l p ++ drop f3 l p))
    ∙ noted-append None f1 (settle f1 l p) (learn f2 l p ++ drop f3 l p)
    ∙ noted-append None f2 (learn f2 l p) (drop f3 l p))) w4

settling_from_wide : (n p : ℕ) (f : Facts) → Wide f → Wide (noted None f (settling_from n p f))
unfolding settling_from
settling_from_wide zero p f w = w
settling_from_wide (suc n) p f w =
    let g : Facts = noted None f (settling_at (list_at f p) p f) in
    subst Wide (sym (noted-append None f (settling_at (list_at f p) p f) (settling_from n (p + 1) g))) (settling_from_wide n (p + 1) g (settling_at_wide (list_at f p) p f w))

settled_wide : (n : ℕ) (f : Facts) (b : Bool) → Wide f → Wide (noted None f (if b then settling_from n 0 f else []))
settled_wide n f true w = settling_from_wide n 0 f w
settled_wide n f false w = w

done_size : (f : Facts) (n p : ℕ) → length (done_from f n p) ≡ n
unfolding done_from
done_size f zero p = refl
done_size f (suc n) p = ap suc (done_size f n (p + 1))

progress_proper : (f : Facts) (wants : Bool) → IsKeyField (view_key f) → Wide f → IsProper (progress_message partition_count f wants)
progress_proper f wants key w = (key, record { size = done_size f partition_count 0 }, record { size = w.handed }, record { size = w.settled })

-- ---- a tick

again_free : (f : Facts) (x : Transaction) (o : Option Write) → FreeRead (tick.sends_again f x o)
again_free f x None = ranged_free x.awaiting _ refl
again_free f x (Some w) = ranged_free x.awaiting _ refl

all_again_free : (f : Facts) (xs : List Transaction) → FreeRead (flat_map (λ (x : Transaction). tick.sends_again f x x.applied) xs)
all_again_free f [] = tt
all_again_free f (x ∷ xs) = append_free _ _ (again_free f x x.applied) (all_again_free f xs)

batches_free : (f : Facts) (xs : Targets) → FreeRead (filter_map (λ (x : Target). tick.batch_to x.node (next_batch (view_key f) f.store.content x)) xs)
batches_free f [] = tt
batches_free f (x ∷ xs) = go (next_batch (view_key f) f.store.content x) (batches_free f xs)
  where
    go : (o : Option Batch) → FreeRead (filter_map (λ (x : Target). tick.batch_to x.node (next_batch (view_key f) f.store.content x)) xs)
        → FreeRead (cons_option (tick.batch_to x.node o) (filter_map (λ (x : Target). tick.batch_to x.node (next_batch (view_key f) f.store.content x)) xs))
    go None rest = rest
    go (Some b) rest = ((λ e. differ refl e), rest)

progress_free : (i : Facts) (b : Bool) → (b ≡ true → IsProper (progress_message partition_count i true)) → FreeRead (if b then sends_only (to_each (others i) (progress_message partition_count i true)) else nothing).sends
progress_free i true h = each_free (others i) (progress_message partition_count i true) (h refl)
progress_free i false h = tt

later_free : (g i : Facts) → ((i.exchange.exchanged && not (knows_all_settled i partition_count 0)) ≡ true → IsProper (progress_message partition_count i true)) → FreeRead (later partition_count g i)
later_free g i h =
    append_free _ _ (ranged_free (filter (lacks g.exchange.rows) (others g)) (state g true) refl)
    (append_free _ _ (all_again_free g g.transactions.running)
    (append_free _ _ (batches_free g g.batches)
    (append_free (tick.progress partition_count i).sends [] (progress_free i _ h) tt)))

propose_free : (g : Facts) → IsId g.me → AreMembersField (neighbours g) → ((p : Proposal) → g.agreement.proposal ≡ Some p → ProposalFits p) → FreeRead (propose g).sends
propose_free g id near h = go g.agreement.proposal refl
  where
    to : (ns : List ℕ) → has_round g.agreement ≡ true → FreeRead (tick.proposal_effects g (next_key g.me g.agreement) (neighbours g) ns).sends
    to [] e = tt
    to (n ∷ ns) e = each_free (n ∷ ns) (message.Propose (next_key g.me g.agreement) (neighbours g)) (next_is_key g.me g.agreement id e, near)

    new : (b : Bool) → (is_candidate g && has_round g.agreement) ≡ b → FreeRead (if b then proposal_effects g (next_key g.me g.agreement) (notes.neighbours g) (agreement.others_among g.me (notes.neighbours g)) else nothing).sends
    new true e = to (agreement.others_among g.me (neighbours g)) (and_right (is_candidate g) _ e)
    new false e = tt

    go : (o : Option Proposal) → g.agreement.proposal ≡ o → FreeRead (tick.propose_with g o).sends
    go (Some p) e = each_free p.missing (message.Propose p.key p.members) ((h p e).key, (h p e).members)
    go None e = new (is_candidate g && has_round g.agreement) refl

exchanged_in : (f : Facts) → (f.exchange.view ≡ None → f.exchange.exchanged ≡ false) → f.exchange.exchanged ≡ true → (v : View) × (f.exchange.view ≡ Some v)
exchanged_in f inside e = go f.exchange.view refl
  where
    go : (o : Option View) → f.exchange.view ≡ o → (v : View) × (f.exchange.view ≡ Some v)
    go None i = differ e (inside i)
    go (Some v) i = (v, i)

tick_parts_free : (g : Facts) → TicksSpelled g → IsKeyOrNone g.agreement.promised → ((v : View) → g.exchange.view ≡ Some v → IsKeyField (view_key g)) → ((p : Proposal) → g.agreement.proposal ≡ Some p → ProposalFits p) → (g.exchange.view ≡ None → g.exchange.exchanged ≡ false) → Wide g
    → FreeRead ((tick.beat g).sends ++ ((propose g).sends ++ later partition_count (noted None g (propose g).lines) (noted None (noted None g (propose g).lines) (settling_due partition_count (noted None g (propose g).lines)))))
tick_parts_free g t promised key h inside wide =
    append_free _ _ (each_free g.peers (message.Heartbeat (view_key g) g.agreement.promised (heard_ids g.hearing.heard) g.role) (t.view, promised, t.heard, t.rack))
    (append_free _ _ (propose_free g t.me t.neighbours h) (go (enters_alone g.me g.agreement (neighbours g) (is_candidate g)) refl))
  where
    go : (b : Bool) → enters_alone g.me g.agreement (neighbours g) (is_candidate g) ≡ b → FreeRead (later partition_count (noted None g (propose g).lines) (noted None (noted None g (propose g).lines) (settling_due partition_count (noted None g (propose g).lines))))
    go true e =
        let k : Facts = entered_alone g (agreement.next_key g.me g.agreement) (neighbours g) in
        let alone : Alone k = alone_in (record g { agreement = agreement.promising g.agreement (agreement.next_key g.me g.agreement) }) (agreement.next_key g.me g.agreement) (neighbours g) _ (alone_now g (neighbours g) e) in
        let i : Facts = noted None k (settling_due partition_count k) in
        subst (λ (x : Facts). FreeRead (later partition_count x (noted None x (settling_due partition_count x)))) (sym (alone_is g e))
        (subst (λ (ms : List (ℕ × Message)). FreeRead ms) (sym (nothing_later partition_count k i alone (same_others k i (noted_me None k (settling_due partition_count k)) (settled_view partition_count k k.exchange.exchanged)))) tt)
    go false e =
        let k : Facts = record g { agreement = (noted None g (propose g).lines).agreement } in
        let i : Facts = noted None k (settling_due partition_count k) in
        let same : i.exchange ≡ g.exchange = settled_view partition_count k k.exchange.exchanged in
        let w : Wide i = settled_wide partition_count k k.exchange.exchanged (record { handed = wide.handed; settled = wide.settled }) in
        subst (λ (x : Facts). FreeRead (later partition_count x (noted None x (settling_due partition_count x)))) (sym (among_others_is g e))
        (later_free k i (λ q. progress_proper i true (field i same (and_left i.exchange.exchanged _ q)) w))
      where
        field : (i : Facts) → i.exchange ≡ g.exchange → i.exchange.exchanged ≡ true → IsKeyField (view_key i)
        field i same q = let v : (v : View) × (g.exchange.view ≡ Some v) = exchanged_in g inside (ap (λ (x : Exchange). x.exchanged) (sym same) ∙ q) in
            subst (λ (x : Exchange). IsKeyField (exchange_key x.view)) (sym same) (key v.0 v.1)

pub tick_free : {by : Policy} {factor : ℕ} (f : Facts) → LawOf by factor f → Spells f → TicksSpelled (after_ages f) → (b : Bool) → FreeRead (if b then parts_in_order (parts partition_count) f else lines_only (line.Down f.me ∷ [])).sends
tick_free {by} {factor} f law s t true = tick_parts_free (after_ages f) t s.promised s.key (λ p e. s.proposal p (aged_proposal f p e)) law.inside (record { handed = law.handed_places; settled = law.settled_places })
tick_free {by} {factor} f law s t false = tt

-- ---- requests

resolving_free : (f : Facts) (clock : ℕ) (l : List ℕ) (x : Transaction) (w : Want) → FreeRead (resolving_want f clock l x w).sends
resolving_free f clock l x want.Get = tt
resolving_free f clock l x (want.Put bytes) = ranged_free (other_replicas f l) _ refl
resolving_free f clock l x want.Del = ranged_free (other_replicas f l) _ refl

pub request_free : (f : Facts) (clock : ℕ) (d : List ℕ) (w : Want) → FreeRead (due_request f clock d w).sends
request_free f clock d w = go (request_refusal f (list_at f (partition_of d)) d)
  where
    new : Transaction
    new = opening_transaction f (list_at f (partition_of d)) (f.transactions.opened + 1) d w

    asks : (ns : List ℕ) → FreeRead (asking f clock (list_at f (partition_of d)) new ns).sends
    asks [] = resolving_free f clock (list_at f (partition_of d)) new w
    asks (n ∷ ns) = ranged_free (n ∷ ns) _ refl

    go : (o : Option Refusal) → FreeRead (request_if f clock (list_at f (partition_of d)) d w o).sends
    go (Some cause) = tt
    go None = asks (asked f (list_at f (partition_of d)) (partition_of d))

-- ---- messages

none_above : (k p : ClusterKey) → keys.key_lt k p ≡ true → p ≡ keys.none → ⊥
none_above k p lt e = never k (ap (keys.key_lt k) (sym e) ∙ lt)
  where
    never : (k : ClusterKey) → keys.key_lt k keys.none ≡ true → ⊥
    never k lt = grind (arith, nat_tests, lt)

pub message_free : {by : Policy} {factor : ℕ} (f : Facts) (clock from : ℕ) (m : Message) → IsProper m → LawOf by factor f → Spells f → FreeRead (due_message f clock from m).sends
message_free {by} {factor} f clock from (message.Heartbeat view promised hears role) p law s = tt
message_free {by} {factor} f clock from (message.Propose k ms) p law s = go (keys.key_lt k f.agreement.promised) refl
  where
    go : (b : Bool) → keys.key_lt k f.agreement.promised ≡ b → FreeRead (if b then sends_only (to_one from (message.Refuse k f.agreement.promised)) else lines_and_sends (only_if (line.Promise f.me k) (keys.key_lt f.agreement.promised k)) (to_one from (message.Accept k))).sends
    go true e = each_free (from ∷ []) (message.Refuse k f.agreement.promised) (p.0, ⊎_elim (λ q. absurd (none_above k f.agreement.promised e q)) (λ q. q) s.promised)
    go false e = each_free (from ∷ []) (message.Accept k) p.0
message_free {by} {factor} f clock from (message.Accept k) p law s = go f.agreement.proposal refl (proposes f.agreement.proposal k)
  where
    commits : (x : Proposal) → f.agreement.proposal ≡ Some x → (b : Bool) → FreeRead (if b then commit_effects f x else nothing).sends
    commits x e true = each_free (agreement.others_among f.me x.members) (message.Commit x.key x.members) ((s.proposal x e).key, (s.proposal x e).members)
    commits x e false = tt

    go : (o : Option Proposal) → f.agreement.proposal ≡ o → (b : Bool) → FreeRead (due.accept_effects f from k o b).sends
    go (Some x) e true = commits x e (is_nil (without_missing x from).missing)
    go (Some x) e false = tt
    go None e b = tt
message_free {by} {factor} f clock from (message.Refuse k promised) p law s = go (proposes f.agreement.proposal k)
  where
    go : (b : Bool) → FreeRead (if b then nothing else stale f).sends
    go true = tt
    go false = tt
message_free {by} {factor} f clock from (message.Commit k ms) p law s = go
    (due.may_enter_view f k ms)
  where
    go : (b : Bool) → FreeRead (if b then lines_only (entering f k ms) else stale f).sends
    go true = tt
    go false = tt
message_free {by} {factor} f clock from (message.State k wants row) p law s = go (in_view f k)
  where
    answers : (b : Bool) → FreeRead (if b then to_one from (state f false) else [])
    answers true = ranged_free (from ∷ []) (state f false) refl
    answers false = tt

    go : (b : Bool) → FreeRead (if b then lines_and_sends (only_if (line.Exchanged f.me (view_key f)) (finishes f (reached f from (message.State k wants row)))) (if wants then to_one from (state f false) else []) else stale f).sends
    go true = answers wants
    go false = tt
message_free {by} {factor} f clock from (message.Batch x) p law s = go (in_view f x.key)
  where
    go : (b : Bool) → FreeRead (if b then lines_and_sends (merging_all f x.records) (to_one from (message.BatchAck x.key x.number)) else stale f).sends
    go true = each_free (from ∷ []) (message.BatchAck x.key x.number) (p.key, p.number)
    go false = tt
message_free {by} {factor} f clock from (message.BatchAck k number) p law s = go (in_view f k)
  where
    rests : (b : Bool) → FreeRead (if b then nothing else spent f).sends
    rests true = tt
    rests false = tt

    go : (b : Bool) → FreeRead (if b then (if has_number (out_to f.batches from) number then nothing else spent f) else stale f).sends
    go true = rests _
    go false = tt
message_free {by} {factor} f clock from (message.Progress k wants done handed settled) p law s = go (in_view f k) refl
  where
    now : Facts
    now = reached f from (message.Progress k wants done handed settled)

    same : (b : Bool) → view_key (notes.progress_came f from done handed settled b) ≡ view_key f
    same true = refl
    same false = refl

    answers : IsKeyField (view_key f) → (b : Bool) → FreeRead (if b then sends_only (to_one from (progress_message partition_count now false)) else nothing).sends
    answers key true = each_free (from ∷ []) (progress_message partition_count now false)
        (progress_proper now false (subst (λ (q : ClusterKey). IsKeyField q) (sym (same (in_view f k))) key) (wide_of (reached_law by factor f from (message.Progress k wants done handed settled) p law)))
    answers key false = tt

    go : (b : Bool) → in_view f k ≡ b → FreeRead (if b then (if wants && knows_all_settled now partition_count 0 then sends_only (to_one from (progress_message partition_count now false)) else nothing) else stale f).sends
    go true e = let v : Viewed f k = view_of f k e in answers (s.key v.view v.is) (wants && knows_all_settled now partition_count 0)
    go false e = tt
message_free {by} {factor} f clock from (message.Repl k t nth d v) p law s = go (in_view f k)
  where
    go : (b : Bool) → FreeRead (if b then lines_and_sends (merging f d v) (to_one from (message.ReplAck k t)) else stale f).sends
    go true = each_free (from ∷ []) (message.ReplAck k t) (p.0, p.1)
    go false = tt
message_free {by} {factor} f clock from (message.ReplAck k t) p law s = go (in_view f k)
  where
    awaits : (y : Transaction) (b : Bool) → FreeRead (if b then lines_only (only_if (line.Done f.me (view_key f) y.number) (is_last_awaited y from)) else spent f).sends
    awaits y true = tt
    awaits y false = tt

    opens : (o : Option Transaction) → FreeRead (due.ack_of f from o).sends
    opens None = tt
    opens (Some y) = awaits y (awaits_ack y from)

    go : (b : Bool) → FreeRead (if b then ack_of f from (transaction f.transactions t) else stale f).sends
    go true = opens (transaction f.transactions t)
    go false = tt
message_free {by} {factor} f clock from (message.Ask k t d) p law s = go (in_view f k)
  where
    go : (b : Bool) → FreeRead (if b then sends_only (to_one from (message.Answer k t (finite.get f.store.content d))) else stale f).sends
    go true = ranged_free (from ∷ []) _ refl
    go false = tt
message_free {by} {factor} f clock from (message.Answer k t v) p law s = go (in_view f k)
  where
    last : (y : Transaction) (b : Bool) → FreeRead (if b then resolving f clock (list_at f (partition_of y.digest)) y else nothing).sends
    last y true = resolving_free f clock (list_at f (partition_of y.digest)) y y.want
    last y false = tt

    awaited : (y : Transaction) (b : Bool) → FreeRead (if b then (if is_last_awaited y from then resolving f clock (list_at f (partition_of (answered f.store.by from v y).digest)) (answered f.store.by from v y) else nothing) else spent f).sends
    awaited y true = last (answered f.store.by from v y) (is_last_awaited y from)
    awaited y false = tt

    opens : (o : Option Transaction) → FreeRead (due.answer_of f clock from v o).sends
    opens None = tt
    opens (Some y) = awaited y (awaits_answer y from)

    go : (b : Bool) → FreeRead (if b then answer_of f clock from v (transaction f.transactions t) else stale f).sends
    go true = opens (transaction f.transactions t)
    go false = tt
message_free {by} {factor} f clock from message.MapAsk p law s = go f.exchange.exchanged refl
  where
    go : (b : Bool) → f.exchange.exchanged ≡ b → FreeRead (if b then sends_only (to_one client (message.MapTable (map_table f))) else nothing).sends
    go true e = let v : (v : View) × (f.exchange.view ≡ Some v) = exchanged_in f law.inside e in each_free (due.client ∷ []) (message.MapTable (map_table f)) (s.table v.0 v.1)
    go false e = tt
message_free {by} {factor} f clock from _ p law s = tt
