-- The ticks of a round that begins ready: nobody but the greatest proposes, and it proposes the group.
use Rattle.std.proofs.Common.{◌≡◌, ℕ, ◌+◌, ◌≤◌, ◌==◌, ◌&&◌, Bool, true, false, List, [], ◌∷◌, Option, Some, None, refl, sym, ap, subst, ◌∙◌, ◌⊎◌, inl, inr, arith, if◌then◌else◌}
use Rattle.cluster_types.specs.declared.cluster_key.ClusterKey.{ClusterKey}
use Rattle.cluster_types.specs.declared.member.Member.{Member}
use Rattle.cluster_types.specs.ClusterKeys.{IsBelow}
use Rattle.wire_messages.specs.declared.message.Message.{Message}
use Rattle.wire_messages.specs.declared.message.Message.TheVariants as message
use Rattle.partition_lists.proofs.InOrderLaws.{equal}
use Rattle.journal_readings.proofs.Fronts.{and_right}
use Rattle.node_rules.specs.Agreement as agreement
use Rattle.node_rules.specs.Agreement.{Agreement, Proposal, has_round, next_key, others_among, proposes_set, seen_round}
use Rattle.node_rules.specs.Copies.{is_nil}
use Rattle.node_rules.specs.Effects.{to_each, nothing}
use Rattle.node_rules.specs.Facts.{Facts}
use Rattle.node_rules.specs.Hearing.{is_greatest, quiet_ticks}
use Rattle.node_rules.specs.Notes.{after_ages, neighbours}
use Rattle.node_rules.specs.Tick.{propose, propose_with, proposal_effects, is_candidate, wants_view}
use Rattle.journal_readings.specs.Lines.{has_node}
use Rattle.cluster_rules.specs.World.{World}
use Rattle.cluster_rules.proofs.KeptFacts.{num_same}
use Rattle.cluster_laws.proofs.At.{differ}
use Rattle.key_laws.specs.Order.{KeyAtMost}
use Rattle.key_laws.proofs.DueTick.{next_is_key}
use Rattle.key_laws.proofs.Order.{at_most_below, below_at_most}
use Rattle.run_laws.specs.Tied.{Among}
use Rattle.calm_laws.specs.Laws.{CanBeRead, ReadsWith, is_to_propose}
use Rattle.calm_laws.specs.Acts.{Input, Ticks, Gets, as_read, served, sent_at}
use Rattle.calm_laws.specs.Flows.{Base, Ticked, inbox, ticks_if}
use Rattle.calm_laws.specs.Group.{Group, kind}
use Rattle.calm_laws.specs.Letters.{arriving_at}
use Rattle.calm_laws.specs.Stances.{Stance, stance_of, proposes_to, ticks}
use Rattle.calm_laws.specs.Turns.{Cleared, Follows, Inside, Leads, Only, Ready, SeenAll, is_agreeing}
use Rattle.calm_laws.proofs.Company.{FromGroup, from_ticks}
use Rattle.calm_laws.proofs.Flow.{among_either}
use Rattle.calm_laws.proofs.Passing.{AllOnly, Parties, Party, Readable, only_free, readable}
use Rattle.calm_laws.proofs.Rolls.{only_leader}
use Rattle.calm_laws.proofs.Sent.{among_each}
use Rattle.calm_laws.proofs.TickTurns.{tick_only, tick_turns}
use Rattle.calm_laws.proofs.Turns.{Led, inside_entered, inside_follows}

-- the key of the next proposal
abbrev pub key_next : ℕ → World → ClusterKey
key_next g w = next_key g (w.facts g).agreement

-- ---- keys

pub below_round : (a : ClusterKey) (n s : ℕ) → a.round ≤ s → IsBelow a (record { round = s + 1; principal = n })
below_round a n s le = omega (arith, le)

-- ---- who proposes

pub aged_none : (f : Facts) → f.agreement.proposal ≡ None → (after_ages f).agreement.proposal ≡ None
aged_none f e = ap (λ (o : Option Proposal). (if proposes_set o (neighbours (after_ages f)) then o else None)) e

named_greatest : (f : Facts) (m : ℕ) (set : List Member) → f.me ≡ m → neighbours (after_ages f) ≡ set → is_greatest f.me (neighbours (after_ages f)) ≡ is_greatest m set
named_greatest f m set me is = ap (λ (x : ℕ). is_greatest x (neighbours (after_ages f))) me ∙ ap (λ (ms : List Member). is_greatest m ms) is

-- nobody but the greatest
pub others_rest : (ns gs : List ℕ) (g : ℕ) (set : List Member) (w : World) → Ready ns gs g set w → (m : ℕ) → has_node gs m ≡ true → (m ≡ g → ⊥) → is_to_propose (after_ages (w.facts m)) ≡ false
others_rest ns gs g set w r m here d =
    let f : Facts = w.facts m in
    let h : Facts = after_ages f in
    ap (λ (b : Bool). (b && ((h.hearing.quiet == quiet_ticks) && wants_view h)) && has_round h.agreement) (named_greatest f m set (r.base.named m) (r.sees m here) ∙ only_leader gs g set r.roll m here d)

-- the messages of its proposal can be read
pub next_readable : (ns gs : List ℕ) (g : ℕ) (set : List Member) (w : World) → Ready ns gs g set w → is_to_propose (after_ages (w.facts g)) ≡ true → Readable (key_next g w) set
next_readable ns gs g set w r e = readable (key_next g w) set (next_is_key g (w.facts g).agreement (r.roll.each g r.roll.lead) (and_right (is_candidate (after_ages (w.facts g))) _ e)) r.roll.fit

reads_with : (ns gs : List ℕ) (g : ℕ) (set : List Member) (w : World) → Ready ns gs g set w → (m : ℕ) → has_node gs m ≡ true → ReadsWith (after_ages (w.facts m)) (after_ages (w.facts m)).agreement.proposal
reads_with ns gs g set w r m here = subst (λ (o : Option Proposal). ReadsWith h o) (sym (aged_none f (r.none m here))) (λ e. go (m == g) refl e)
  where
    f : Facts
    f = w.facts m

    h : Facts
    h = after_ages f

    is_set : next_key f.me h.agreement ≡ next_key m f.agreement
    is_set = ap (λ (x : ℕ). next_key x f.agreement) (r.base.named m)

    go : (b : Bool) → (m == g) ≡ b → is_to_propose h ≡ true → CanBeRead (message.Propose (next_key f.me h.agreement) (neighbours h))
    go false s e = differ e (others_rest ns gs g set w r m here (λ i. differ (equal m g i) s))
    go true s e =
        let leads : is_to_propose (after_ages (w.facts g)) ≡ true = subst (λ (x : ℕ). is_to_propose (after_ages (w.facts x)) ≡ true) (num_same m g s) e in
        let fine : CanBeRead (message.Propose (next_key m f.agreement) set) = subst (λ (x : ℕ). CanBeRead (message.Propose (next_key x (w.facts x).agreement) set)) (sym (num_same m g s)) (next_readable ns gs g set w r leads).proposes in
        subst (λ (k : ClusterKey). CanBeRead (message.Propose k (neighbours h))) (sym is_set) (subst (λ (ms : List Member). CanBeRead (message.Propose (next_key m f.agreement) ms)) (sym (r.sees m here)) fine)

-- ---- stances after the ticks

pub ticked_facts : (n : ℕ) (ns gs : List ℕ) (w t : World) → Group ns gs w → Ticked n w t ns → (m : ℕ) → has_node gs m ≡ true → t.facts m ≡ served n (w.clocks m) (w.facts m) (Ticks ∷ [])
ticked_facts n ns gs w t g k m here = k.facts m ∙ ap (λ (b : Bool). served n (w.clocks m) (w.facts m) (ticks_if b)) (g.up m here)

pub tick_stance : (n : ℕ) (ns gs : List ℕ) (g : ℕ) (set : List Member) (w t : World) → Ready ns gs g set w → Ticked n w t ns → (m : ℕ) → has_node gs m ≡ true
    → stance_of (t.facts m) ≡ ticks m (stance_of (after_ages (w.facts m))) set None (is_to_propose (after_ages (w.facts m)))
tick_stance n ns gs g set w t r k m here =
    let f : Facts = w.facts m in
    let h : Facts = after_ages f in
    ap (λ (x : Facts). stance_of x) (ticked_facts n ns gs w t r.group k m here)
    ∙ tick_turns n (w.clocks m) f (r.base.up m (r.group.up m here)) (reads_with ns gs g set w r m here)
    ∙ ap (λ (x : ℕ). ticks x (stance_of h) (neighbours h) h.agreement.proposal (is_to_propose h)) (r.base.named m)
    ∙ ap (λ (ms : List Member). ticks m (stance_of h) ms h.agreement.proposal (is_to_propose h)) (r.sees m here)
    ∙ ap (λ (o : Option Proposal). ticks m (stance_of h) set o (is_to_propose h)) (aged_none f (r.none m here))

-- who doesn't propose stands as before, but for its age
pub rests_tick : (n : ℕ) (ns gs : List ℕ) (g : ℕ) (set : List Member) (w t : World) → Ready ns gs g set w → Ticked n w t ns → (m : ℕ) → has_node gs m ≡ true → is_to_propose (after_ages (w.facts m)) ≡ false
    → stance_of (t.facts m) ≡ stance_of (after_ages (w.facts m))
rests_tick n ns gs g set w t r k m here e = tick_stance n ns gs g set w t r k m here ∙ ap (λ (b : Bool). ticks m (stance_of (after_ages (w.facts m))) set None b) e

pub others_follow : (n : ℕ) (ns gs : List ℕ) (g : ℕ) (set : List Member) (w t : World) → Ready ns gs g set w → SeenAll gs g w → Ticked n w t ns → (m : ℕ) → has_node gs m ≡ true → (m ≡ g → ⊥) → Follows (key_next g w) set (stance_of (t.facts m))
others_follow n ns gs g set w t r seen k m here d =
    let f : Facts = w.facts m in
    let below : IsBelow f.agreement.promised (key_next g w) = below_round f.agreement.promised g (seen_round (w.facts g).agreement) (seen m here) in
    subst (λ (s : Stance). Follows (key_next g w) set s) (sym (rests_tick n ns gs g set w t r k m here (others_rest ns gs g set w r m here d)))
    (record { promised = below_at_most below; proposal = aged_none f (r.none m here); last = inl (at_most_below (r.ordered m here) below) })

-- the greatest leads its proposal to the others
leads_with : (g : ℕ) (set : List Member) (s : Stance) (n : ℕ) (ns : List ℕ) → others_among g set ≡ n ∷ ns → s.agreement.proposal ≡ None → KeyAtMost s.agreement.last s.agreement.promised
    → Leads (next_key g s.agreement) set (proposes_to g s (next_key g s.agreement) set (n ∷ ns))
leads_with g set s n ns is none ordered = subst (λ (o : Option Proposal). Leads k set (proposed o)) (sym none) (record {
  promised = refl;
  below = at_most_below ordered below;
  stands = agreement.proposal_of g k set;
  is = refl;
  key = refl;
  members = refl;
  some = ap (λ (os : List ℕ). is_nil os) is;
})
  where
    k : ClusterKey
    k = next_key g s.agreement

    below : IsBelow s.agreement.promised k
    below = below_round s.agreement.promised g (seen_round s.agreement) (omega arith)

    proposed : Option Proposal → Stance
    proposed o = record s { agreement = agreement.proposing (record s.agreement { promised = k; proposal = (if agreement.proposes o k then o else None) }) g k set }

proposal_with : (g : ℕ) (set : List Member) (s : Stance) (n : ℕ) (ns : List ℕ) → s.agreement.proposal ≡ None
    → (proposes_to g s (next_key g s.agreement) set (n ∷ ns)).agreement.proposal ≡ Some (agreement.proposal_of g (next_key g s.agreement) set)
proposal_with g set s n ns none =
    let k : ClusterKey = next_key g s.agreement in
    ap (λ (o : Option Proposal). (agreement.proposing (record s.agreement { promised = k; proposal = (if agreement.proposes o k then o else None) }) g k set).proposal) none

-- alone it is in the view at once
pub record Alone (g : ℕ) (set : List Member) (k : ClusterKey) (s : Stance) : Type 0 where
  pub alone : others_among g set ≡ []
  pub inside : Inside k set s

-- with others it leads a proposal that all of them miss
pub record Begins (g : ℕ) (set : List Member) (k : ClusterKey) (s : Stance) : Type 0 where
  pub leads : Leads k set s
  pub is : s.agreement.proposal ≡ Some (agreement.proposal_of g k set)

pub leader_begins : (n : ℕ) (ns gs : List ℕ) (g : ℕ) (set : List Member) (w t : World) → Ready ns gs g set w → Ticked n w t ns → is_to_propose (after_ages (w.facts g)) ≡ true
    → Alone g set (key_next g w) (stance_of (t.facts g)) ⊎ Begins g set (key_next g w) (stance_of (t.facts g))
leader_begins n ns gs g set w t r k e = go (others_among g set) refl
  where
    s : Stance
    s = stance_of (after_ages (w.facts g))

    here : has_node gs g ≡ true
    here = r.roll.lead

    onward : stance_of (t.facts g) ≡ proposes_to g s (key_next g w) set (others_among g set)
    onward = tick_stance n ns gs g set w t r k g here ∙ ap (λ (b : Bool). ticks g s set None b) e

    none : s.agreement.proposal ≡ None
    none = aged_none (w.facts g) (r.none g here)

    go : (os : List ℕ) → others_among g set ≡ os → Alone g set (key_next g w) (stance_of (t.facts g)) ⊎ Begins g set (key_next g w) (stance_of (t.facts g))
    go [] is = inl (record {
      alone = is;
      inside = subst (λ (x : Stance). Inside (key_next g w) set x) (sym (onward ∙ ap (λ (os : List ℕ). proposes_to g s (key_next g w) set os) is))
          (inside_entered (key_next g w) (key_next g w) set set (record s { agreement = agreement.promising s.agreement (key_next g w) }) refl refl refl);
    })
    go (x ∷ xs) is =
        let now : stance_of (t.facts g) ≡ proposes_to g s (key_next g w) set (x ∷ xs) = onward ∙ ap (λ (os : List ℕ). proposes_to g s (key_next g w) set os) is in
        inr (record {
          leads = subst (λ (y : Stance). Leads (key_next g w) set y) (sym now) (leads_with g set s x xs is none (r.ordered g here));
          is = ap (λ (y : Stance). y.agreement.proposal) now ∙ proposal_with g set s x xs none;
        })

pub leader_leads : (n : ℕ) (ns gs : List ℕ) (g : ℕ) (set : List Member) (w t : World) → Ready ns gs g set w → Ticked n w t ns → is_to_propose (after_ages (w.facts g)) ≡ true → Led (key_next g w) set (stance_of (t.facts g))
leader_leads n ns gs g set w t r k e = go (leader_begins n ns gs g set w t r k e)
  where
    go : Alone g set (key_next g w) (stance_of (t.facts g)) ⊎ Begins g set (key_next g w) (stance_of (t.facts g)) → Led (key_next g w) set (stance_of (t.facts g))
    go (inl h) = inr h.inside
    go (inr h) = inl h.leads

-- what it sends for that
pub sends_to : (h : Facts) (k : ClusterKey) (set : List Member) (os : List ℕ) → (proposal_effects h k set os).sends ≡ to_each os (message.Propose k set)
sends_to h k set [] = refl
sends_to h k set (n ∷ ns) = refl

pub leader_sends : (ns gs : List ℕ) (g : ℕ) (set : List Member) (w : World) → Ready ns gs g set w → is_to_propose (after_ages (w.facts g)) ≡ true → (propose (after_ages (w.facts g))).sends ≡ to_each (others_among g set) (message.Propose (key_next g w) set)
leader_sends ns gs g set w r e =
    let h : Facts = after_ages (w.facts g) in
    let here : has_node gs g ≡ true = r.roll.lead in
    ap (λ (o : Option Proposal). (propose_with h o).sends) (aged_none (w.facts g) (r.none g here))
    ∙ ap (λ (b : Bool). (if b then proposal_effects h (next_key h.me h.agreement) (neighbours h) (agreement.others_among h.me (neighbours h)) else nothing).sends) e
    ∙ ap (λ (ms : List Member). (proposal_effects h (next_key h.me h.agreement) ms (others_among h.me ms)).sends) (r.sees g here)
    ∙ ap (λ (y : ℕ). (proposal_effects h (next_key y (w.facts g).agreement) set (others_among y set)).sends) (r.base.named g)
    ∙ sends_to h (key_next g w) set (others_among g set)

pub parties_begin : (n : ℕ) (ns gs : List ℕ) (g : ℕ) (set : List Member) (w t : World) → Ready ns gs g set w → SeenAll gs g w → Ticked n w t ns → is_to_propose (after_ages (w.facts g)) ≡ true → Parties (key_next g w) set gs t
parties_begin n ns gs g set w t r seen k e m here = go (m == g) refl
  where
    led : Led (key_next g w) set (stance_of (t.facts g)) → Party (key_next g w) set (stance_of (t.facts g))
    led (inl h) = inr h
    led (inr h) = inl (inside_follows (key_next g w) set (stance_of (t.facts g)) h)

    go : (b : Bool) → (m == g) ≡ b → Party (key_next g w) set (stance_of (t.facts m))
    go true s = subst (λ (x : ℕ). Party (key_next g w) set (stance_of (t.facts x))) (sym (num_same m g s)) (led (leader_leads n ns gs g set w t r k e))
    go false s = inl (others_follow n ns gs g set w t r seen k m here (λ i. differ (equal m g i) s))

-- ---- what the ticks bring

pub proposed_only : (h : Facts) (set : List Member) (os : List ℕ) (k : ClusterKey) → CanBeRead (message.Propose k set) → (to : ℕ) (x : Message) → Among (as_read (proposal_effects h k set os).sends) (to, x) → message.Propose k set ≡ x
unfolding as_read
proposed_only h set [] k r to x i = absurd i
proposed_only h set (n ∷ ns) k r to x i = among_each (message.Propose k set) r (n ∷ ns) to x i

pub nothing_asked : (h : Facts) (to : ℕ) (x : Message) → Among (as_read (if false then proposal_effects h (next_key h.me h.agreement) (neighbours h) (agreement.others_among h.me (neighbours h)) else nothing).sends) (to, x) → ⊥
unfolding as_read
nothing_asked h to x i = i

-- a node that makes no proposal asks for nothing
rests_asks : (ns gs : List ℕ) (g : ℕ) (set : List Member) (w : World) → Ready ns gs g set w → (m : ℕ) → has_node gs m ≡ true → is_to_propose (after_ages (w.facts m)) ≡ false
    → (to : ℕ) (x : Message) → Among (as_read (propose (after_ages (w.facts m))).sends) (to, x) → ⊥
rests_asks ns gs g set w r m here e to x i =
    let h : Facts = after_ages (w.facts m) in
    nothing_asked h to x
    (subst (λ (b : Bool). Among (as_read (if b then proposal_effects h (next_key h.me h.agreement) (neighbours h) (agreement.others_among h.me (neighbours h)) else nothing).sends) (to, x)) e
    (subst (λ (o : Option Proposal). Among (as_read (propose_with h o).sends) (to, x)) (aged_none (w.facts m) (r.none m here)) i))

leader_asks : (ns gs : List ℕ) (g : ℕ) (set : List Member) (w : World) → Ready ns gs g set w → is_to_propose (after_ages (w.facts g)) ≡ true
    → (to : ℕ) (x : Message) → Among (as_read (propose (after_ages (w.facts g))).sends) (to, x) → message.Propose (key_next g w) set ≡ x
leader_asks ns gs g set w r e to x i =
    let h : Facts = after_ages (w.facts g) in
    let here : has_node gs g ≡ true = r.roll.lead in
    proposed_only h set (others_among g set) (key_next g w) (next_readable ns gs g set w r e).proposes to x
    (subst (λ (y : ℕ). Among (as_read (proposal_effects h (next_key y (w.facts g).agreement) set (others_among y set)).sends) (to, x)) (r.base.named g)
    (subst (λ (ms : List Member). Among (as_read (proposal_effects h (next_key h.me h.agreement) ms (others_among h.me ms)).sends) (to, x)) (r.sees g here)
    (subst (λ (b : Bool). Among (as_read (if b then proposal_effects h (next_key h.me h.agreement) (neighbours h) (agreement.others_among h.me (neighbours h)) else nothing).sends) (to, x)) e
    (subst (λ (o : Option Proposal). Among (as_read (propose_with h o).sends) (to, x)) (aged_none (w.facts g) (r.none g here)) i))))

asks_only : (ns gs : List ℕ) (g : ℕ) (set : List Member) (w : World) → Ready ns gs g set w → (m : ℕ) → has_node gs m ≡ true
    → (to : ℕ) (x : Message) → Among (as_read (propose (after_ages (w.facts m))).sends) (to, x) → Only true false false (key_next g w) set x
asks_only ns gs g set w r m here to x i = go (is_to_propose (after_ages (w.facts m))) refl (m == g) refl
  where
    go : (b : Bool) → is_to_propose (after_ages (w.facts m)) ≡ b → (c : Bool) → (m == g) ≡ c → Only true false false (key_next g w) set x
    go false e c s = absurd (rests_asks ns gs g set w r m here e to x i)
    go true e false s = differ e (others_rest ns gs g set w r m here (λ j. differ (equal m g j) s))
    go true e true s =
        let is : message.Propose (key_next g w) set ≡ x =
        leader_asks ns gs g set w r (subst (λ (y : ℕ). is_to_propose (after_ages (w.facts y)) ≡ true) (num_same m g s) e) to x
        (subst (λ (y : ℕ). Among (as_read (propose (after_ages (w.facts y))).sends) (to, x)) (num_same m g s) i) in
        subst (λ (y : Message). Only true false false (key_next g w) set y) is (refl, refl, refl)

-- what comes after the ticks: what was in flight, and what the ticks of the group sent
pub comes_after : (n : ℕ) (ns gs : List ℕ) (w t : World) → Base ns w → Group ns gs w → Cleared gs w → Ticked n w t ns → (C : Message → Type 0) → ((x : Message) → is_agreeing (kind x) ≡ false → C x)
    → ((m : ℕ) → has_node gs m ≡ true → (to : ℕ) (x : Message) → Among (as_read (propose (after_ages (w.facts m))).sends) (to, x) → C x)
    → (m : ℕ) → has_node gs m ≡ true → (from : ℕ) (x : Message) → Among (inbox t m) (Gets from x) → C x
comes_after n ns gs w t b g cleared k C other here m is from x h = go (among_either (Gets from x) (inbox w m) (arriving_at t m k.posted) (subst (λ (xs : List Input). Among xs (Gets from x)) (k.inbox m) h))
  where
    ticks_bring : FromGroup gs from m x (sent_at n (w.clocks from) (w.facts from) Ticks) → C x
    ticks_bring s = tick_only n (w.clocks from) (w.facts from) (b.up from (g.up from s.sender)) C other (here from s.sender) m x s.sent

    go : Among (inbox w m) (Gets from x) ⊎ Among (arriving_at t m k.posted) (Gets from x) → C x
    go (inl i) = other x (cleared m is from x i)
    go (inr i) = ticks_bring (from_ticks n ns gs w t g k from m x is i)

comes_first : (n : ℕ) (ns gs : List ℕ) (g : ℕ) (set : List Member) (w t : World) → Ready ns gs g set w → Ticked n w t ns → (C : Message → Type 0) → ((x : Message) → is_agreeing (kind x) ≡ false → C x)
    → ((m : ℕ) → has_node gs m ≡ true → (to : ℕ) (x : Message) → Among (as_read (propose (after_ages (w.facts m))).sends) (to, x) → C x)
    → (m : ℕ) → has_node gs m ≡ true → (from : ℕ) (x : Message) → Among (inbox t m) (Gets from x) → C x
comes_first n ns gs g set w t r k C other here = comes_after n ns gs w t r.base r.group r.cleared k C other here

-- after the ticks only the proposal of the greatest comes
pub only_begins : (n : ℕ) (ns gs : List ℕ) (g : ℕ) (set : List Member) (w t : World) → Ready ns gs g set w → Ticked n w t ns → AllOnly true false false (key_next g w) set gs t
only_begins n ns gs g set w t r k =
    comes_first n ns gs g set w t r k (Only true false false (key_next g w) set) (only_free true false false (key_next g w) set) (asks_only ns gs g set w r)

-- and without one nothing of agreement
pub cleared_begins : (n : ℕ) (ns gs : List ℕ) (g : ℕ) (set : List Member) (w t : World) → Ready ns gs g set w → Ticked n w t ns → is_to_propose (after_ages (w.facts g)) ≡ false → Cleared gs t
cleared_begins n ns gs g set w t r k e =
    comes_first n ns gs g set w t r k (λ x. is_agreeing (kind x) ≡ false) (λ x free. free) (λ m here to x i. absurd (rests_asks ns gs g set w r m here (rests m here (m == g) refl) to x i))
  where
    rests : (m : ℕ) → has_node gs m ≡ true → (b : Bool) → (m == g) ≡ b → is_to_propose (after_ages (w.facts m)) ≡ false
    rests m here true s = subst (λ (y : ℕ). is_to_propose (after_ages (w.facts y)) ≡ false) (sym (num_same m g s)) e
    rests m here false s = others_rest ns gs g set w r m here (λ i. differ (equal m g i) s)
