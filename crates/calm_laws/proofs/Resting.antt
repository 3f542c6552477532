-- A round in which nobody of the group proposes leaves what each of them has promised, entered and proposed.
use Rattle.std.proofs.Common.{◌≡◌, ℕ, ◌==◌, ◌||◌, ◌&&◌, not, Bool, true, false, List, [], ◌∷◌, refl, sym, ap, subst, ◌∙◌}
use Rattle.std.specs.Prelude.{flat_map}
use Rattle.std.specs.List.{list_all}
use Rattle.cluster_types.specs.declared.member.Member.{Member}
use Rattle.wire_messages.specs.declared.message.Message.{Message}
use Rattle.wire_messages.specs.declared.message.Message.TheVariants as message
use Rattle.partition_lists.proofs.InOrderLaws.{equal}
use Rattle.node_rules.specs.Notes.{after_ages}
use Rattle.node_rules.specs.Tables.{contains}
use Rattle.journal_readings.specs.Lines.{has_node}
use Rattle.cluster_rules.specs.World.{World, is_up, up_nodes}
use Rattle.cluster_rules.proofs.KeptFacts.{num_same}
use Rattle.cluster_laws.proofs.At.{differ}
use Rattle.run_laws.specs.Tied.{Among}
use Rattle.calm_laws.specs.Laws.{is_to_propose}
use Rattle.calm_laws.specs.Acts.{Input, outbox, sent_at}
use Rattle.calm_laws.specs.Flows.{Flowed, Rounded, Ticked, inbox}
use Rattle.calm_laws.specs.Group.{Group, kind, replies}
use Rattle.calm_laws.specs.Stances.{Stance, stance_of, turned}
use Rattle.calm_laws.specs.Turns.{Cleared, Ready, is_agreeing}
use Rattle.calm_laws.proofs.Beginning.{cleared_begins, others_rest, rests_tick}
use Rattle.calm_laws.proofs.Company.{FromGroup, flow_kinds, from_group, group_kept, tick_frame}
use Rattle.calm_laws.proofs.Hearing.{Framed, flow_frame, frame_on, gets_inbox}
use Rattle.calm_laws.proofs.Inputs.{SentBy, kept_along, outbox_only}
use Rattle.calm_laws.proofs.Passing.{flow_kept, free_replies}
use Rattle.calm_laws.proofs.Proposals.{all_gets}
use Rattle.calm_laws.proofs.Replies.{answers}

-- ---- what is left of agreement

-- what answers messages that aren't of agreement isn't either
pub flow_cleared : (n : ℕ) (ns gs : List ℕ) (u v : World) → Group ns gs u → Flowed n u v → Cleared gs u → Cleared gs v
flow_cleared n ns gs u v g f cleared m here from x there =
    let sent : FromGroup gs from m x (outbox n (u.clocks from) (u.facts from) (inbox u from)) = from_group n ns gs u v g f from m x here there in
    let is : List Input = inbox u from in
    let by : SentBy n (u.clocks from) (λ f. Unit {0}) is (m, x) = outbox_only n (u.clocks from) (λ f. Unit {0}) is (u.facts from) (m, x) (kept_along n (u.clocks from) (λ f. Unit {0}) is (u.facts from) (λ f i j p. tt) tt) sent.sent in
    all_gets is by.act (gets_inbox u from) by.came (λ i. Among is i → Among (sent_at n (u.clocks from) by.facts i) (m, x) → is_agreeing (kind x) ≡ false)
    (λ b y came i. free_replies y (kind x) (cleared from sent.sender b y came) (answers n (u.clocks from) by.facts b y m x i)) by.came by.sent

-- all kinds of messages
abbrev all_kinds : List ℕ
all_kinds = 1 ∷ 2 ∷ 3 ∷ 4 ∷ 5 ∷ 6 ∷ 7 ∷ 8 ∷ 9 ∷ 10 ∷ 11 ∷ 12 ∷ 13 ∷ 14 ∷ 15 ∷ 19 ∷ 20 ∷ 21 ∷ 22 ∷ 23 ∷ 24 ∷ 25 ∷ []

pub each_kind : (x : Message) → contains all_kinds (kind x) ≡ true
each_kind (message.Heartbeat view promised hears role) = refl
each_kind (message.Propose key members) = refl
each_kind (message.Accept key) = refl
each_kind (message.Refuse refused promised) = refl
each_kind (message.Commit key members) = refl
each_kind (message.State key wants row) = refl
each_kind (message.Batch b) = refl
each_kind (message.BatchAck key number) = refl
each_kind (message.Progress key wants done handed settled) = refl
each_kind (message.Repl key transaction nth digest version) = refl
each_kind (message.ReplAck key transaction) = refl
each_kind (message.Ask key transaction digest) = refl
each_kind (message.Answer key transaction version) = refl
each_kind message.MapAsk = refl
each_kind (message.MapTable t) = refl
each_kind (message.Proxy key number digest want) = refl
each_kind (message.ProxyReply key number reply) = refl
each_kind (message.Call number digest want) = refl
each_kind (message.Reply key number reply) = refl
each_kind (message.ScanAsk scan partition after) = refl
each_kind (message.ScanPage page) = refl
each_kind (message.ScanNo scan refusal) = refl

free_list : (ks : List ℕ) (j : ℕ) → list_all (λ k. not (is_agreeing k)) ks ≡ true → contains ks j ≡ true → is_agreeing j ≡ false
free_list [] j all e = differ e refl
free_list (k ∷ ks) j all e = go (k == j) refl e (is_agreeing k) refl all (λ rest there. free_list ks j rest there)
  where
    go : (b : Bool) → (k == j) ≡ b → (b || contains ks j) ≡ true → (c : Bool) → is_agreeing k ≡ c → (not c && list_all (λ k. not (is_agreeing k)) ks) ≡ true → (list_all (λ k. not (is_agreeing k)) ks ≡ true → contains ks j ≡ true → is_agreeing j ≡ false) → is_agreeing j ≡ false
    go b s f true i all rest = differ all refl
    go true s f false i all rest = ap is_agreeing (sym (num_same k j s)) ∙ i
    go false s f false i all rest = rest all f

-- after a round nothing of agreement is on its way, whatever was before it
pub round_cleared : (n : ℕ) (ns gs : List ℕ) (w v : World) → Group ns gs w → (r : Rounded n w v) → up_nodes w ≡ ns → Ticked n w r.ticks_end ns → Cleared gs v
round_cleared n ns gs w v g r same k m here from x there =
    free_list (flat_map replies (flat_map replies (flat_map replies (flat_map replies all_kinds)))) (kind x) refl
    (flow_kinds n ns gs (flat_map replies (flat_map replies (flat_map replies all_kinds))) r.third_end v (group_in r.third_end third) r.fourth
    (flow_kinds n ns gs (flat_map replies (flat_map replies all_kinds)) r.second_end r.third_end (group_in r.second_end second) r.third
    (flow_kinds n ns gs (flat_map replies all_kinds) r.first_end r.second_end (group_in r.first_end first) r.second
    (flow_kinds n ns gs all_kinds r.ticks_end r.first_end (group_in r.ticks_end ticks) r.first (λ m here from x there. each_kind x)))) m here from x there)
  where
    ticks : Framed w r.ticks_end
    ticks = tick_frame n w r.ticks_end ns k

    first : Framed w r.first_end
    first = frame_on w r.ticks_end r.first_end ticks (flow_frame n r.ticks_end r.first_end r.first)

    second : Framed w r.second_end
    second = frame_on w r.first_end r.second_end first (flow_frame n r.first_end r.second_end r.second)

    third : Framed w r.third_end
    third = frame_on w r.second_end r.third_end second (flow_frame n r.second_end r.third_end r.third)

    group_in : (u : World) → Framed w u → Group ns gs u
    group_in u f = group_kept ns gs w u f g

-- ---- what stays

-- the stances differ in nothing but in what was seen of others' promises
pub record Alike (s z : Stance) : Type 0 where
  pub promised : z.agreement.promised ≡ s.agreement.promised
  pub last : z.agreement.last ≡ s.agreement.last
  pub proposal : z.agreement.proposal ≡ s.agreement.proposal
  pub view : z.view ≡ s.view
  pub quiet : z.quiet ≡ s.quiet

pub alike_itself : (s : Stance) → Alike s s
alike_itself s = record { promised = refl; last = refl; proposal = refl; view = refl; quiet = refl }

alike_kept : (s : Stance) (me : ℕ) (z : Stance) (from : ℕ) (x : Message) → is_agreeing (kind x) ≡ false → Alike s z → Alike s (turned me z from x)
alike_kept s me z from (message.Heartbeat view promised hears role) free h = record { promised = h.promised; last = h.last; proposal = h.proposal; view = h.view; quiet = h.quiet }
alike_kept s me z from (message.Propose key ms) free h = differ refl free
alike_kept s me z from (message.Accept key) free h = differ refl free
alike_kept s me z from (message.Refuse key promised) free h = differ refl free
alike_kept s me z from (message.Commit key ms) free h = differ refl free
alike_kept s me z from x free h = h

flow_alike : (n : ℕ) (gs : List ℕ) (u v : World) → Flowed n u v → Cleared gs u → (m : ℕ) → has_node gs m ≡ true → (s : Stance) → Alike s (stance_of (u.facts m)) → Alike s (stance_of (v.facts m))
flow_alike n gs u v f cleared m here s h = flow_kept n u v m (Alike s) f (λ me z from x there. alike_kept s me z from x (cleared m here from x there)) h

-- a round in which nothing of agreement comes to the group
pub record Undisturbed (n : ℕ) (ns gs : List ℕ) (w v : World) (r : Rounded n w v) : Type 0 where
  pub ticked : Ticked n w r.ticks_end ns
  pub group : Group ns gs w
  pub group_ticks : Group ns gs r.ticks_end
  pub group_first : Group ns gs r.first_end
  pub group_second : Group ns gs r.second_end
  pub group_third : Group ns gs r.third_end
  pub ups_first : (m : ℕ) → has_node ns m ≡ true → is_up r.first_end m ≡ true
  pub ups_second : (m : ℕ) → has_node ns m ≡ true → is_up r.second_end m ≡ true
  pub ups_third : (m : ℕ) → has_node ns m ≡ true → is_up r.third_end m ≡ true
  pub ups_ticks : (m : ℕ) → has_node ns m ≡ true → is_up r.ticks_end m ≡ true
  pub ticks : Cleared gs r.ticks_end
  pub first : Cleared gs r.first_end
  pub second : Cleared gs r.second_end
  pub third : Cleared gs r.third_end
  pub asks : (m : ℕ) → has_node gs m ≡ true → is_to_propose (after_ages (w.facts m)) ≡ false

-- such is a round that begins ready and in which the greatest doesn't propose
pub undisturbed : (n : ℕ) (ns gs : List ℕ) (g : ℕ) (set : List Member) (w v : World) (r : Rounded n w v) → Ready ns gs g set w → is_to_propose (after_ages (w.facts g)) ≡ false → Undisturbed n ns gs w v r
undisturbed n ns gs g set w v r h e = record {
  ticked = k;
  group = h.group;
  group_ticks = group_in r.ticks_end ticks;
  group_first = group_in r.first_end first;
  group_second = group_in r.second_end second;
  group_third = group_in r.third_end third;
  ups_first = λ m i. first.ups m ∙ h.base.up m i;
  ups_second = λ m i. second.ups m ∙ h.base.up m i;
  ups_third = λ m i. third.ups m ∙ h.base.up m i;
  ups_ticks = λ m i. ticks.ups m ∙ h.base.up m i;
  ticks = ticks_free;
  first = first_free;
  second = second_free;
  third = third_free;
  asks = λ m here. resting m here (m == g) refl;
}
  where
    k : Ticked n w r.ticks_end ns
    k = subst (λ (xs : List ℕ). Ticked n w r.ticks_end xs) h.base.ups r.ticks

    resting : (m : ℕ) → has_node gs m ≡ true → (b : Bool) → (m == g) ≡ b → is_to_propose (after_ages (w.facts m)) ≡ false
    resting m here true i = subst (λ (y : ℕ). is_to_propose (after_ages (w.facts y)) ≡ false) (sym (num_same m g i)) e
    resting m here false i = others_rest ns gs g set w h m here (λ j. differ (equal m g j) i)

    ticks : Framed w r.ticks_end
    ticks = tick_frame n w r.ticks_end ns k

    first : Framed w r.first_end
    first = frame_on w r.ticks_end r.first_end ticks (flow_frame n r.ticks_end r.first_end r.first)

    second : Framed w r.second_end
    second = frame_on w r.first_end r.second_end first (flow_frame n r.first_end r.second_end r.second)

    third : Framed w r.third_end
    third = frame_on w r.second_end r.third_end second (flow_frame n r.second_end r.third_end r.third)

    group_in : (u : World) → Framed w u → Group ns gs u
    group_in u f = group_kept ns gs w u f h.group

    ticks_free : Cleared gs r.ticks_end
    ticks_free = cleared_begins n ns gs g set w r.ticks_end h k e

    first_free : Cleared gs r.first_end
    first_free = flow_cleared n ns gs r.ticks_end r.first_end (group_in r.ticks_end ticks) r.first ticks_free

    second_free : Cleared gs r.second_end
    second_free = flow_cleared n ns gs r.first_end r.second_end (group_in r.first_end first) r.second first_free

    third_free : Cleared gs r.third_end
    third_free = flow_cleared n ns gs r.second_end r.third_end (group_in r.second_end second) r.third second_free

-- in a round without a proposal of the greatest each stands as it does when ages have risen
pub rests : (n : ℕ) (ns gs : List ℕ) (g : ℕ) (set : List Member) (w v : World) (r : Rounded n w v) → Ready ns gs g set w → is_to_propose (after_ages (w.facts g)) ≡ false → (m : ℕ) → has_node gs m ≡ true
    → Alike (stance_of (after_ages (w.facts m))) (stance_of (v.facts m))
rests n ns gs g set w v r h e m here =
    let s : Stance = stance_of (after_ages (w.facts m)) in
    let u : Undisturbed n ns gs w v r = undisturbed n ns gs g set w v r h e in
    flow_alike n gs r.third_end v r.fourth u.third m here s
    (flow_alike n gs r.second_end r.third_end r.third u.second m here s
    (flow_alike n gs r.first_end r.second_end r.second u.first m here s
    (flow_alike n gs r.ticks_end r.first_end r.first u.ticks m here s
    (subst (λ (z : Stance). Alike s z) (sym (rests_tick n ns gs g set w r.ticks_end h u.ticked m here (u.asks m here))) (alike_itself s)))))
