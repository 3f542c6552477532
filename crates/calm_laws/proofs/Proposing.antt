-- A proposal of the group goes through in its round: all of the group are in its view at the end.
use Rattle.std.proofs.Common.{◌≡◌, ℕ, ◌==◌, Bool, true, false, List, [], ◌∷◌, Option, Some, refl, sym, ap, subst, ◌∙◌, ◌⊎◌, inl, inr, if◌then◌else◌}
use Rattle.cluster_types.specs.declared.cluster_key.ClusterKey.{ClusterKey}
use Rattle.cluster_types.specs.declared.member.Member.{Member}
use Rattle.cluster_types.specs.Members.{ids_of}
use Rattle.wire_messages.specs.declared.message.Message.{Message}
use Rattle.wire_messages.specs.declared.message.Message.TheVariants as message
use Rattle.partition_lists.proofs.InOrderLaws.{equal}
use Rattle.node_rules.specs.Agreement as agreement
use Rattle.node_rules.specs.Agreement.{Proposal, others_among, proposes, without_missing}
use Rattle.node_rules.specs.Copies.{is_nil}
use Rattle.node_rules.specs.Effects.{to_each, lines_and_sends, nothing, sends_only, to_one}
use Rattle.node_rules.specs.Exchange.{is_member}
use Rattle.node_rules.specs.Facts.{Facts}
use Rattle.node_rules.specs.Keys.{same_key}
use Rattle.node_rules.specs.Messages.{commit_effects, accept_effects}
use Rattle.node_rules.specs.Notes.{after_ages}
use Rattle.node_rules.specs.Tables.{contains, only_if}
use Rattle.journal_readings.specs.Lines.{has_node}
use Rattle.cluster_rules.specs.World.{World, is_up}
use Rattle.cluster_rules.proofs.KeptFacts.{num_same}
use Rattle.cluster_laws.proofs.At.{differ}
use Rattle.key_laws.proofs.Addressed.{not_gone}
use Rattle.key_laws.proofs.Order.{at_most_lt, same_self}
use Rattle.run_laws.specs.Tied.{Among}
use Rattle.calm_laws.specs.Laws.{is_to_propose}
use Rattle.calm_laws.specs.Acts.{Input, Ticks, Gets, acted, as_read, outbox, sent_at, served}
use Rattle.calm_laws.specs.Flows.{Flowed, Near, Rounded, Ticked, inbox}
use Rattle.calm_laws.specs.Group.{Group}
use Rattle.calm_laws.specs.Letters.{arriving_at}
use Rattle.calm_laws.specs.Stances.{Stance, stance_of}
use Rattle.calm_laws.specs.Turns.{Follows, Inside, Leads, Only, Ready, SeenAll}
use Rattle.calm_laws.proofs.Beginning.{Alone, Begins, key_next, leader_begins, leader_sends, next_readable, only_begins, others_follow, parties_begin}
use Rattle.calm_laws.proofs.Company.{group_kept, tick_frame}
use Rattle.calm_laws.proofs.Flow.{among_front, among_behind, arrives}
use Rattle.calm_laws.proofs.Hearing.{Framed, flow_frame, frame_on, gets_inbox, outbox_ticks}
use Rattle.calm_laws.proofs.Inputs.{Along, kept_along, outbox_each, served_each, served_kept}
use Rattle.calm_laws.proofs.Passing.{AllOnly, Parties, Party, Readable, flow_each, flow_kept, flow_only, flow_parties, keeps_turned, party_kept, party_promised}
use Rattle.calm_laws.proofs.Proposals.{Got, Of, Shrunk, acted_shrinks, all_gets, keeps_got, keeps_of, prop, shrunk_on, shrunk_refl, vote_gives}
use Rattle.calm_laws.proofs.Rolls.{contains_among, member_here, nothing_there, other_here, other_in}
use Rattle.calm_laws.proofs.Same.{acted_same}
use Rattle.calm_laws.proofs.Sent.{AllGets, each_among}
use Rattle.calm_laws.proofs.Ticking.{tick_proposes}
use Rattle.calm_laws.proofs.Turning.{acted_turns}
use Rattle.calm_laws.proofs.Turns.{Led, Votes, committed, follows_kept, inside_kept, leads_counted, leads_stay, led_kept, votes_kept, votes_made}
use Rattle.cluster_types.specs.ClusterKeys as keys
use Rattle.journal_lines.specs.declared.line.Line.TheVariants as line

-- ---- what is sent

accept_sent : (n c : ℕ) (k : ClusterKey) (ms : List Member) (r : Readable k ms) (f : Facts) (from : ℕ) → Party k ms (stance_of f) → Among (sent_at n c f (Gets from (message.Propose k ms))) (from, message.Accept k)
accept_sent n c k ms r f from h =
    subst (λ (b : Bool). Among (as_read (if b then sends_only (to_one from (message.Refuse k f.agreement.promised)) else lines_and_sends (only_if (line.Promise f.me k) (keys.key_lt f.agreement.promised k)) (to_one from (message.Accept k))).sends) (from, message.Accept k)) (sym (at_most_lt k f.agreement.promised (party_promised k ms (stance_of f) h)))
    (each_among (message.Accept k) r.accepts (from ∷ []) from (inl refl))

-- the commits to all others
abbrev Commits : ℕ → ClusterKey → List Member → List (ℕ × Message) → Type 0
Commits me k ms out = (x : ℕ) → contains (others_among me ms) x ≡ true → Among out (x, message.Commit k ms)

commit_sent : (n c : ℕ) (k : ClusterKey) (ms : List Member) (r : Readable k ms) (me : ℕ) (f : Facts) → f.me ≡ me → (from : ℕ) (l : ClusterKey) → l ≡ k → (h : Leads k ms (stance_of f)) → is_nil (without_missing h.stands from).missing ≡ true
    → Commits me k ms (sent_at n c f (Gets from (message.Accept l)))
commit_sent n c k ms r me f name from l e h last x there =
    subst (λ (o : Option Proposal). Among (as_read (accept_effects f from l o (proposes o l)).sends) (x, message.Commit k ms)) (sym h.is)
    (subst (λ (b : Bool). Among (as_read (accept_effects f from l (Some h.stands) b).sends) (x, message.Commit k ms)) (sym mine)
    (subst (λ (b : Bool). Among (as_read (if b then commit_effects f h.stands else nothing).sends) (x, message.Commit k ms)) (sym last)
    (subst (λ (y : ClusterKey). Among (as_read (to_each (others_among f.me h.stands.members) (message.Commit y h.stands.members))) (x, message.Commit k ms)) (sym h.key)
    (subst (λ (ys : List Member). Among (as_read (to_each (others_among f.me ys) (message.Commit k ys))) (x, message.Commit k ms)) (sym h.members)
    (subst (λ (y : ℕ). Among (as_read (to_each (others_among y ms) (message.Commit k ms))) (x, message.Commit k ms)) (sym name)
    (each_among (message.Commit k ms) r.commits (others_among me ms) x (contains_among (others_among me ms) x there)))))))
  where
    mine : proposes (Some h.stands) l ≡ true
    mine = ap (λ (y : ClusterKey). same_key y l) (h.key ∙ sym e) ∙ same_self l

-- who leads sends the commits as it enters
module _ (n c : ℕ) (k : ClusterKey) (ms : List Member) (r : Readable k ms) (me : ℕ) where
  turn_one : (f : Facts) → f.me ≡ me → (from : ℕ) (m : Message) → Only false true false k ms m → Leads k ms (stance_of f) → Leads k ms (stance_of (acted n c f (Gets from m))) ⊎ Commits me k ms (sent_at n c f (Gets from m))
  turn_one f name from (message.Accept l) o h = go (is_nil (without_missing h.stands from).missing) refl
    where
      go : (b : Bool) → is_nil (without_missing h.stands from).missing ≡ b → Leads k ms (stance_of (acted n c f (Gets from (message.Accept l)))) ⊎ Commits me k ms (sent_at n c f (Gets from (message.Accept l)))
      go false e = inl (subst (λ (s : Stance). Leads k ms s) (sym (acted_turns n c f from (message.Accept l))) (leads_counted k ms f.me (stance_of f) from l o.1 h e))
      go true e = inr (commit_sent n c k ms r me f name from l o.1 h e)
  turn_one f name from (message.Heartbeat view promised hears role) o h = inl (subst (λ (s : Stance). Leads k ms s) (sym (acted_turns n c f from (message.Heartbeat view promised hears role))) (leads_stay false k ms f.me (stance_of f) from (message.Heartbeat view promised hears role) o h))
  turn_one f name from (message.Propose l ns) o h = differ o.0 refl
  turn_one f name from (message.Refuse l promised) o h = absurd o
  turn_one f name from (message.Commit l ns) o h = differ o.0 refl
  turn_one f name from m o h = inl (subst (λ (s : Stance). Leads k ms s) (sym (acted_turns n c f from m)) h)

  turns_all : (is : List Input) → AllGets is → ((from : ℕ) (m : Message) → Among is (Gets from m) → Only false true false k ms m) → (f : Facts) → f.me ≡ me → Leads k ms (stance_of f) → Leads k ms (stance_of (served n c f is)) ⊎ Commits me k ms (outbox n c f is)
  turns_all [] gets only f name h = inl h
  turns_all (Ticks ∷ is) gets only f name h = absurd gets
  turns_all (Gets from m ∷ is) gets only f name h = go (turn_one f name from m (only from m (inl refl)) h) (turns_all is gets (λ b y t. only b y (inr t)) g ((acted_same n c f (Gets from m)).me ∙ name))
    where
      g : Facts
      g = acted n c f (Gets from m)

      later : Leads k ms (stance_of (served n c g is)) ⊎ Commits me k ms (outbox n c g is) → Leads k ms (stance_of (served n c g is)) ⊎ Commits me k ms (outbox n c f (Gets from m ∷ is))
      later (inl h) = inl h
      later (inr s) = inr (λ x there. among_behind (x, message.Commit k ms) (sent_at n c f (Gets from m)) (outbox n c g is) (s x there))

      go : Leads k ms (stance_of g) ⊎ Commits me k ms (sent_at n c f (Gets from m)) → (Leads k ms (stance_of g) → Leads k ms (stance_of (served n c g is)) ⊎ Commits me k ms (outbox n c g is))
          → Leads k ms (stance_of (served n c g is)) ⊎ Commits me k ms (outbox n c f (Gets from m ∷ is))
      go (inl h) rest = later (rest h)
      go (inr s) rest = inr (λ x there. among_front (x, message.Commit k ms) (sent_at n c f (Gets from m)) (outbox n c g is) (s x there))

-- ---- what arrives

pub flow_arrives : (n : ℕ) (ns gs : List ℕ) (u v : World) → Group ns gs v → ((m : ℕ) → has_node ns m ≡ true → is_up v m ≡ true) → Flowed n u v → (a m : ℕ) → has_node gs a ≡ true → has_node gs m ≡ true → (a ≡ m → ⊥)
    → (x : Message) → Among (outbox n (u.clocks a) (u.facts a) (inbox u a)) (m, x) → Among (inbox v m) (Gets a x)
flow_arrives n ns gs u v g ups f a m sender receiver d x h =
    let near : Near ns v a m = g.near a m sender receiver d in
    subst (λ (is : List Input). Among is (Gets a x)) (sym (f.inbox m))
    (arrives v a m x f.posted (record { up = ups m (g.up m receiver); together = near.together; node = near.node })
    (subst (λ (ls : List (ℕ × Message)). Among ls (m, x)) (sym (f.from a)) h))

pub tick_arrives : (n : ℕ) (ns gs : List ℕ) (w t : World) → Group ns gs t → ((m : ℕ) → has_node ns m ≡ true → is_up t m ≡ true) → Ticked n w t ns → (a m : ℕ) → has_node gs a ≡ true → has_node gs m ≡ true → (a ≡ m → ⊥)
    → (x : Message) → Among (sent_at n (w.clocks a) (w.facts a) Ticks) (m, x) → Among (inbox t m) (Gets a x)
tick_arrives n ns gs w t g ups k a m sender receiver d x h =
    let near : Near ns t a m = g.near a m sender receiver d in
    subst (λ (is : List Input). Among is (Gets a x)) (sym (k.inbox m))
    (among_behind (Gets a x) (inbox w m) (arriving_at t m k.posted)
    (arrives t a m x k.posted (record { up = ups m (g.up m receiver); together = near.together; node = near.node })
    (subst (λ (ls : List (ℕ × Message)). Among ls (m, x)) (sym (k.from a ∙ outbox_ticks n (w.clocks a) (w.facts a) (has_node ns a) (g.up a sender))) h)))

-- ---- a proposal in a flow

pub flow_shrunk : (n : ℕ) (u v : World) (m : ℕ) → Flowed n u v → Shrunk (prop (v.facts m)) (prop (u.facts m))
flow_shrunk n u v m f =
    subst (λ (g : Facts). Shrunk (prop g) (prop (u.facts m))) (sym (f.facts m))
    (served_kept n (u.clocks m) (λ g. Shrunk (prop g) (prop (u.facts m))) (inbox u m) (u.facts m)
    (λ g i there h. all_gets (inbox u m) i (gets_inbox u m) there (λ j. Shrunk (prop (acted n (u.clocks m) g j)) (prop (u.facts m))) (λ from x. shrunk_on (prop (acted n (u.clocks m) g (Gets from x))) (prop g) (prop (u.facts m)) (acted_shrinks n (u.clocks m) g from x) h))
    (shrunk_refl (prop (u.facts m))))

-- ---- the round

-- the worlds of a round in which the greatest proposes the group
pub record ProposalRound (n : ℕ) (ns gs : List ℕ) (g : ℕ) (set : List Member) (w v : World) (r : Rounded n w v) : Type 0 where
  pub ready : Ready ns gs g set w
  pub seen : SeenAll gs g w
  pub proposes : is_to_propose (after_ages (w.facts g)) ≡ true

module _ (n : ℕ) (ns gs : List ℕ) (g : ℕ) (set : List Member) (w v : World) (r : Rounded n w v) (h : ProposalRound n ns gs g set w v r) where
  abbrev k : ClusterKey
  k = key_next g w

  reads : Readable k set
  reads = next_readable ns gs g set w h.ready h.proposes

  ticked : Ticked n w r.ticks_end ns
  ticked = subst (λ (xs : List ℕ). Ticked n w r.ticks_end xs) h.ready.base.ups r.ticks

  framed_ticks : Framed w r.ticks_end
  framed_ticks = tick_frame n w r.ticks_end ns ticked

  framed_first : Framed w r.first_end
  framed_first = frame_on w r.ticks_end r.first_end framed_ticks (flow_frame n r.ticks_end r.first_end r.first)

  framed_second : Framed w r.second_end
  framed_second = frame_on w r.first_end r.second_end framed_first (flow_frame n r.first_end r.second_end r.second)

  group_in : (u : World) → Framed w u → Group ns gs u
  group_in u f = group_kept ns gs w u f h.ready.group

  ups_in : (u : World) → Framed w u → (m : ℕ) → has_node ns m ≡ true → is_up u m ≡ true
  ups_in u f m e = f.ups m ∙ h.ready.base.up m e

  parties_ticks : Parties k set gs r.ticks_end
  parties_ticks = parties_begin n ns gs g set w r.ticks_end h.ready h.seen ticked h.proposes

  only_ticks : AllOnly true false false k set gs r.ticks_end
  only_ticks = only_begins n ns gs g set w r.ticks_end h.ready ticked

  parties_first : Parties k set gs r.first_end
  parties_first = flow_parties n gs r.ticks_end r.first_end true false false k set r.first only_ticks parties_ticks

  only_first : AllOnly false true false k set gs r.first_end
  only_first = flow_only n ns gs r.ticks_end r.first_end true false false k set reads (group_in r.ticks_end framed_ticks) r.first only_ticks parties_ticks

  parties_second : Parties k set gs r.second_end
  parties_second = flow_parties n gs r.first_end r.second_end false true false k set r.second only_first parties_first

  only_second : AllOnly false false true k set gs r.second_end
  only_second = flow_only n ns gs r.first_end r.second_end false true false k set reads (group_in r.first_end framed_first) r.second only_first parties_first

  only_third : AllOnly false false false k set gs r.third_end
  only_third = flow_only n ns gs r.second_end r.third_end false false true k set reads (group_in r.second_end framed_second) r.third only_second parties_second

  -- ---- who follows

  -- the greatest isn't another one
  apart_from : (m : ℕ) → (m ≡ g → ⊥) → g ≡ m → ⊥
  apart_from m d e = d (sym e)

  propose_comes : (m : ℕ) → has_node gs m ≡ true → (m ≡ g → ⊥) → Among (inbox r.ticks_end m) (Gets g (message.Propose k set))
  propose_comes m here d =
      tick_arrives n ns gs w r.ticks_end (group_in r.ticks_end framed_ticks) (ups_in r.ticks_end framed_ticks) ticked g m h.ready.roll.lead here (apart_from m d) (message.Propose k set)
      (tick_proposes n (w.clocks g) (w.facts g) (h.ready.base.up g (h.ready.group.up g h.ready.roll.lead)) k set (others_among g set) (leader_sends ns gs g set w h.ready h.proposes) reads.proposes m
      (contains_among (others_among g set) m (other_in gs g set h.ready.roll g m here d)))

  follows_ticks : (m : ℕ) → has_node gs m ≡ true → (m ≡ g → ⊥) → Follows k set (stance_of (r.ticks_end.facts m))
  follows_ticks m here d = others_follow n ns gs g set w r.ticks_end h.ready h.seen ticked m here d

  votes_first : (m : ℕ) → has_node gs m ≡ true → (m ≡ g → ⊥) → Votes k set (stance_of (r.first_end.facts m))
  votes_first m here d =
      flow_each n r.ticks_end r.first_end m (Follows k set) (Votes k set) r.first
      (λ me s from x there. follows_kept true false false k set me s from x (only_ticks m here from x there))
      (λ me s from x there. votes_kept true false false k set me s from x (only_ticks m here from x there))
      g (message.Propose k set) (λ me s name f. votes_made k set me s g set refl f) (propose_comes m here d) (follows_ticks m here d)

  votes_second : (m : ℕ) → has_node gs m ≡ true → (m ≡ g → ⊥) → Votes k set (stance_of (r.second_end.facts m))
  votes_second m here d =
      flow_kept n r.first_end r.second_end m (Votes k set) r.second (λ me s from x there. votes_kept false true false k set me s from x (only_first m here from x there)) (votes_first m here d)

  -- ---- who leads

  along_first : (m : ℕ) → has_node gs m ≡ true → Along n (r.ticks_end.clocks m) (λ f. Party k set (stance_of f)) (r.ticks_end.facts m) (inbox r.ticks_end m)
  along_first m here =
      kept_along n (r.ticks_end.clocks m) (λ f. Party k set (stance_of f)) (inbox r.ticks_end m) (r.ticks_end.facts m)
      (keeps_turned n (r.ticks_end.clocks m) (Party k set) (inbox r.ticks_end m) (gets_inbox r.ticks_end m) (λ me s from x there. party_kept true false false k set me s from x (only_ticks m here from x there))) (parties_ticks m here)

  accept_comes : (m : ℕ) → has_node gs m ≡ true → (m ≡ g → ⊥) → Among (inbox r.first_end g) (Gets m (message.Accept k))
  accept_comes m here d =
      flow_arrives n ns gs r.ticks_end r.first_end (group_in r.first_end framed_first) (ups_in r.first_end framed_first) r.first m g here h.ready.roll.lead d (message.Accept k)
      (outbox_each n (r.ticks_end.clocks m) (λ f. Party k set (stance_of f)) (inbox r.ticks_end m) (r.ticks_end.facts m) (Gets g (message.Propose k set)) (g, message.Accept k) (along_first m here)
      (λ f p. accept_sent n (r.ticks_end.clocks m) k set reads f g p) (propose_comes m here d))

  module _ (begins : Begins g set k (stance_of (r.ticks_end.facts g))) where
    leads_first : Leads k set (stance_of (r.first_end.facts g))
    leads_first = flow_kept n r.ticks_end r.first_end g (Leads k set) r.first (λ me s from x there. leads_stay true k set me s from x (only_ticks g h.ready.roll.lead from x there)) begins.leads

    of_first : Of k (prop (r.first_end.facts g))
    of_first = subst (λ (o : Option Proposal). Of k o) (sym leads_first.is) leads_first.key

    got_second : (m : ℕ) → has_node gs m ≡ true → (m ≡ g → ⊥) → Got k m (prop (r.second_end.facts g))
    got_second m here d =
        let c : ℕ = r.first_end.clocks g in
        let is : List Input = inbox r.first_end g in
        subst (λ (f : Facts). Got k m (prop f)) (sym (r.second.facts g))
        (served_each n c (λ f. Of k (prop f)) (λ f. Got k m (prop f)) is (r.first_end.facts g) (Gets m (message.Accept k)) (keeps_of n c k is (gets_inbox r.first_end g)) (keeps_got n c k m is (gets_inbox r.first_end g))
        (λ f p. vote_gives n c k f m (message.Accept k) refl p) (accept_comes m here d) of_first)

    shrunk_second : Shrunk (prop (r.second_end.facts g)) (Some (agreement.proposal_of g k set))
    shrunk_second =
        subst (λ (o : Option Proposal). Shrunk (prop (r.second_end.facts g)) o) begins.is
        (shrunk_on (prop (r.second_end.facts g)) (prop (r.first_end.facts g)) (prop (r.ticks_end.facts g)) (flow_shrunk n r.first_end r.second_end g r.second) (flow_shrunk n r.ticks_end r.first_end g r.first))

    -- all have accepted
    none_lacks : (p : Proposal) → prop (r.second_end.facts g) ≡ Some p → is_nil p.missing ≡ true
    none_lacks p e = nothing_there p.missing (λ x. lacks x (contains (others_among g set) x) refl)
      where
        lacks : (x : ℕ) (b : Bool) → contains (others_among g set) x ≡ b
            → contains p.missing x ≡ false
        lacks x false s = (subst (λ (o : Option Proposal). Shrunk o (Some (agreement.proposal_of g k set))) e shrunk_second).missing x s
        lacks x true s = (subst (λ (o : Option Proposal). Got k x o) e (got_second x (other_here gs g set h.ready.roll g x s) (λ i. not_gone (ids_of set) g x s i))).1

    gone : Leads k set (stance_of (r.second_end.facts g)) → ⊥
    gone l = differ (none_lacks l.stands l.is) l.some

    inside_second : Inside k set (stance_of (r.second_end.facts g))
    inside_second = go (flow_kept n r.first_end r.second_end g (Led k set) r.second (λ me s from x there. led_kept false true false k set me s from x (only_first g h.ready.roll.lead from x there)) (inl leads_first))
      where
        go : Led k set (stance_of (r.second_end.facts g)) → Inside k set (stance_of (r.second_end.facts g))
        go (inl l) = absurd (gone l)
        go (inr i) = i

    commits_sent : Commits g k set (outbox n (r.first_end.clocks g) (r.first_end.facts g) (inbox r.first_end g))
    commits_sent = go (turns_all n (r.first_end.clocks g) k set reads g (inbox r.first_end g) (gets_inbox r.first_end g) (only_first g h.ready.roll.lead) (r.first_end.facts g) (r.first.named g) leads_first)
      where
        go : Leads k set (stance_of (served n (r.first_end.clocks g) (r.first_end.facts g) (inbox r.first_end g))) ⊎ Commits g k set (outbox n (r.first_end.clocks g) (r.first_end.facts g) (inbox r.first_end g)) → Commits g k set (outbox n (r.first_end.clocks g) (r.first_end.facts g) (inbox r.first_end g))
        go (inl l) = absurd (gone (subst (λ (f : Facts). Leads k set (stance_of f)) (sym (r.second.facts g)) l))
        go (inr s) = s

    commit_comes : (m : ℕ) → has_node gs m ≡ true → (m ≡ g → ⊥) → Among (inbox r.second_end m) (Gets g (message.Commit k set))
    commit_comes m here d =
        flow_arrives n ns gs r.first_end r.second_end (group_in r.second_end framed_second) (ups_in r.second_end framed_second) r.second g m h.ready.roll.lead here (apart_from m d) (message.Commit k set)
        (commits_sent m (other_in gs g set h.ready.roll g m here d))

    inside_third : (m : ℕ) → has_node gs m ≡ true → (m ≡ g → ⊥) → Inside k set (stance_of (r.third_end.facts m))
    inside_third m here d =
        flow_each n r.second_end r.third_end m (Votes k set) (Inside k set) r.third
        (λ me s from x there. votes_kept false false true k set me s from x (only_second m here from x there))
        (λ me s from x there. inside_kept false false true k set me s from x (only_second m here from x there))
        g (message.Commit k set)
        (λ me s name x. committed k set me s g (ap (λ (y : ℕ). is_member set y) (name ∙ r.second.named m) ∙ member_here gs g set h.ready.roll m here) x)
        (commit_comes m here d) (votes_second m here d)

    inside_end : (m : ℕ) → has_node gs m ≡ true → (m ≡ g → ⊥) → Inside k set (stance_of (v.facts m))
    inside_end m here d = flow_kept n r.third_end v m (Inside k set) r.fourth (λ me s from x there. inside_kept false false false k set me s from x (only_third m here from x there)) (inside_third m here d)

    inside_leader : Inside k set (stance_of (v.facts g))
    inside_leader =
        flow_kept n r.third_end v g (Inside k set) r.fourth (λ me s from x there. inside_kept false false false k set me s from x (only_third g h.ready.roll.lead from x there))
        (flow_kept n r.second_end r.third_end g (Inside k set) r.third (λ me s from x there. inside_kept false false true k set me s from x (only_second g h.ready.roll.lead from x there)) inside_second)

  -- alone it stays in the view that its tick entered
  inside_alone : Inside k set (stance_of (r.ticks_end.facts g)) → Inside k set (stance_of (v.facts g))
  inside_alone i =
      let here : has_node gs g ≡ true = h.ready.roll.lead in
      flow_kept n r.third_end v g (Inside k set) r.fourth (λ me s from x there. inside_kept false false false k set me s from x (only_third g here from x there))
      (flow_kept n r.second_end r.third_end g (Inside k set) r.third (λ me s from x there. inside_kept false false true k set me s from x (only_second g here from x there))
      (flow_kept n r.first_end r.second_end g (Inside k set) r.second (λ me s from x there. inside_kept false true false k set me s from x (only_first g here from x there))
      (flow_kept n r.ticks_end r.first_end g (Inside k set) r.first (λ me s from x there. inside_kept true false false k set me s from x (only_ticks g here from x there)) i)))

  -- all of the group are in the view that the greatest proposed
  pub proposal_passes : (m : ℕ) → has_node gs m ≡ true → Inside (key_next g w) set (stance_of (v.facts m))
  proposal_passes m here = go (leader_begins n ns gs g set w r.ticks_end h.ready ticked h.proposes) (m == g) refl
    where
      go : Alone g set k (stance_of (r.ticks_end.facts g)) ⊎ Begins g set k (stance_of (r.ticks_end.facts g)) → (b : Bool) → (m == g) ≡ b → Inside k set (stance_of (v.facts m))
      go (inl a) true s = subst (λ (x : ℕ). Inside k set (stance_of (v.facts x))) (sym (num_same m g s)) (inside_alone a.inside)
      go (inl a) false s = differ (other_in gs g set h.ready.roll g m here (λ i. differ (equal m g i) s)) (ap (λ (os : List ℕ). contains os m) a.alone)
      go (inr b) true s = subst (λ (x : ℕ). Inside k set (stance_of (v.facts x))) (sym (num_same m g s)) (inside_leader b)
      go (inr b) false s = inside_end b m here (λ i. differ (equal m g i) s)
