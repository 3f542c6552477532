-- No proposal of just the group stands at the end of a round: all have answered it.
use Rattle.std.proofs.Common.{◌≡◌, ℕ, Bool, true, false, List, [], ◌∷◌, Option, Some, None, refl, sym, ap, subst, ◌∙◌, ◌⊎◌, inl, inr, if◌then◌else◌}
use Rattle.std.proofs.lemmas.Option.{none-some}
use Rattle.cluster_types.specs.declared.cluster_key.ClusterKey.{ClusterKey}
use Rattle.cluster_types.specs.declared.member.Member.{Member}
use Rattle.cluster_types.specs.ClusterKeys.{key_lt}
use Rattle.cluster_types.specs.Members.{ids_of}
use Rattle.cluster_types.specs.MembersEqual.{same_members_decides}
use Rattle.wire_messages.specs.declared.message.Message.{Message}
use Rattle.wire_messages.specs.declared.message.Message.TheVariants as message
use Rattle.wire_messages.specs.Keys.{IsKeyField, IsKeyOrNone}
use Rattle.journal_readings.proofs.Fronts.{and_right}
use Rattle.node_rules.specs.Agreement as agreement
use Rattle.node_rules.specs.Agreement.{Agreement, Proposal, may_enter, next_key, others_among, proposal_of, proposes, proposes_set, without_missing, accepted_by, promising}
use Rattle.node_rules.specs.Copies.{is_nil}
use Rattle.node_rules.specs.Effects.{to_each}
use Rattle.node_rules.specs.Facts.{Facts}
use Rattle.node_rules.specs.Notes.{after_ages, neighbours}
use Rattle.node_rules.specs.Tables.{contains}
use Rattle.node_rules.specs.Tick.{is_candidate, propose, propose_with, proposal_effects}
use Rattle.journal_readings.specs.Lines.{has_node}
use Rattle.cluster_rules.specs.World.{World}
use Rattle.cluster_laws.proofs.At.{differ}
use Rattle.key_laws.proofs.Addressed.{not_gone}
use Rattle.key_laws.proofs.DueTick.{next_is_key}
use Rattle.run_laws.specs.Tied.{Among}
use Rattle.calm_laws.specs.Laws.{CanBeRead, ReadsWith, is_to_propose}
use Rattle.calm_laws.specs.Acts.{Input, Gets, acted, as_read}
use Rattle.calm_laws.specs.Flows.{Flowed, Rounded, Ticked, inbox}
use Rattle.calm_laws.specs.Group.{kind}
use Rattle.calm_laws.specs.Letters.{letters_from}
use Rattle.calm_laws.specs.Stances.{Stance, counts, enters_if, proposes_to, stance_of, ticks, turned}
use Rattle.calm_laws.specs.Turns.{Joined, Lacking, is_agreeing}
use Rattle.calm_laws.proofs.Beginning.{comes_after, nothing_asked, sends_to, ticked_facts}
use Rattle.calm_laws.proofs.Hearing.{gets_inbox, outbox_ticks}
use Rattle.calm_laws.proofs.Inputs.{Along, kept_along}
use Rattle.calm_laws.proofs.Lacks.{lacks_aged, lacks_kept}
use Rattle.calm_laws.proofs.Lawful.{votes_fit}
use Rattle.calm_laws.proofs.Passing.{flow_kept, keeps_turned}
use Rattle.calm_laws.proofs.Proposals.{Got, Of, Shrunk, Votes, answered, prop, shrunk_on}
use Rattle.calm_laws.proofs.Proposing.{flow_shrunk}
use Rattle.calm_laws.proofs.Rolls.{contains_among, nothing_there, other_here}
use Rattle.calm_laws.proofs.Sent.{among_each}
use Rattle.calm_laws.proofs.Ticking.{tick_proposes}
use Rattle.calm_laws.proofs.TickTurns.{tick_turns}
use Rattle.node_rules.specs.Effects as effects

-- ---- a node after its tick

kept_some : (b : Bool) (o : Option Proposal) (p : Proposal) → (if b then o else None) ≡ Some p → (b ≡ true) × (o ≡ Some p)
kept_some true o p e = (refl, e)
kept_some false o p e = absurd (none-some p e)

-- it proposes just that list, to all whom it misses
pub record Asking (m : ℕ) (set : List Member) (f : Facts) (s : Stance) : Type 0 where
  pub stands : Proposal
  pub is : s.agreement.proposal ≡ Some stands
  pub members : stands.members ≡ set
  pub key : IsKeyField stands.key
  pub reads : CanBeRead (message.Propose stands.key stands.members)
  pub sends : (propose (after_ages f)).sends ≡ to_each stands.missing (message.Propose stands.key stands.members)
  pub lacking : Lacking m (Some stands)

-- it proposes nothing, and asks for nothing
pub record Silent (f : Facts) (s : Stance) : Type 0 where
  pub none : s.agreement.proposal ≡ None
  pub quiet : (to : ℕ) (x : Message) → Among (as_read (propose (after_ages f)).sends) (to, x) → ⊥

-- ---- keys that have a spelling

abbrev Keyed : Message → Type 0
Keyed (message.Propose key ms) = IsKeyField key
Keyed _ = Unit {0}

keyed_free : (x : Message) → is_agreeing (kind x) ≡ false → Keyed x
keyed_free (message.Propose key ms) e = differ refl e
keyed_free _ e = tt

ticks_promised : (m : ℕ) (s : Stance) (set : List Member) (o : Option Proposal) (b : Bool) → IsKeyOrNone s.agreement.promised → (b ≡ true → IsKeyOrNone (next_key m s.agreement)) → IsKeyOrNone (ticks m s set o b).agreement.promised
ticks_promised m s set (Some p) b h next = h
ticks_promised m s set None false h next = h
ticks_promised m s set None true h next = go (others_among m set)
  where
    new : (a : Agreement) (p : Proposal) (c : Bool) → a.promised ≡ next_key m s.agreement → IsKeyOrNone (if c then a else record a { proposal = Some p }).promised
    new a p true e = subst (λ (q : ClusterKey). IsKeyOrNone q) (sym e) (next refl)
    new a p false e = subst (λ (q : ClusterKey). IsKeyOrNone q) (sym e) (next refl)

    go : (os : List ℕ) → IsKeyOrNone (proposes_to m s (next_key m s.agreement) set os).agreement.promised
    go [] = next refl
    go (x ∷ xs) = new (agreement.promising s.agreement (next_key m s.agreement)) (proposal_of m (next_key m s.agreement) set) _ refl

key_accepts : (s : Stance) (from : ℕ) (o : Option Proposal) (b : Bool) → IsKeyOrNone s.agreement.promised → IsKeyOrNone (counts (record s { agreement = (if b then record s.agreement { proposal = accepted_by s.agreement.proposal from } else s.agreement) }) from o b).agreement.promised
key_accepts s from None true h = h
key_accepts s from None false h = h
key_accepts s from (Some p) false h = h
key_accepts s from (Some p) true h = go (is_nil (without_missing p from).missing)
  where
    go : (b : Bool) → IsKeyOrNone (enters_if (record s { agreement = (if true then record s.agreement { proposal = accepted_by s.agreement.proposal from } else s.agreement) }) p.key p.members b).agreement.promised
    go true = h
    go false = h

key_kept : (me : ℕ) (s : Stance) (from : ℕ) (m : Message) → Keyed m → IsKeyOrNone s.agreement.promised → IsKeyOrNone (turned me s from m).agreement.promised
key_kept me s from (message.Propose key ms) l h = go (key_lt s.agreement.promised key)
  where
    go : (b : Bool) → IsKeyOrNone (if b then promising s.agreement key else s.agreement).promised
    go true = inr l
    go false = h
key_kept me s from (message.Accept key) l h = key_accepts s from s.agreement.proposal (proposes s.agreement.proposal key) h
key_kept me s from (message.Refuse key promised) l h = go (proposes s.agreement.proposal key)
  where
    go : (b : Bool) → IsKeyOrNone (agreement.seeing (if b then record s.agreement { proposal = None } else s.agreement) promised).promised
    go true = h
    go false = h
key_kept me s from (message.Commit key ms) l h = go (may_enter me s.agreement key ms)
  where
    go : (b : Bool) → IsKeyOrNone (enters_if s key ms b).agreement.promised
    go true = h
    go false = h
key_kept me s from _ l h = h

along_map : (n c : ℕ) (P Q : Facts → Type 0) → ((f : Facts) → P f → Q f) → (is : List Input) (f : Facts) → Along n c P f is → Along n c Q f is
along_map n c P Q h [] f a = h f a
along_map n c P Q h (i ∷ is) f a = (h f a.0, along_map n c P Q h is (acted n c f i) a.1)

module _ (n : ℕ) (ns gs : List ℕ) (g : ℕ) (set : List Member) (w t : World) (j : Joined ns gs g set w) (k : Ticked n w t ns) (asks : (m : ℕ) → has_node gs m ≡ true → ReadsWith (after_ages (w.facts m)) (after_ages (w.facts m)).agreement.proposal) where
  stance_then : (m : ℕ) → has_node gs m ≡ true → stance_of (t.facts m) ≡ ticks m (stance_of (after_ages (w.facts m))) set (after_ages (w.facts m)).agreement.proposal (is_to_propose (after_ages (w.facts m)))
  stance_then m here =
      let f : Facts = w.facts m in
      let h : Facts = after_ages f in
      ap (λ (x : Facts). stance_of x) (ticked_facts n ns gs w t j.group k m here)
      ∙ tick_turns n (w.clocks m) f (j.base.up m (j.group.up m here)) (asks m here)
      ∙ ap (λ (x : ℕ). ticks x (stance_of h) (neighbours h) h.agreement.proposal (is_to_propose h)) (j.base.named m)
      ∙ ap (λ (ms : List Member). ticks m (stance_of h) ms h.agreement.proposal (is_to_propose h)) (j.sees m here)

  -- a proposal that stands is of the list
  stands_of : (m : ℕ) (here : has_node gs m ≡ true) (p : Proposal) → (after_ages (w.facts m)).agreement.proposal ≡ Some p → (p.members ≡ set) × ((w.facts m).agreement.proposal ≡ Some p)
  stands_of m here p e =
      let o : Option Proposal = (w.facts m).agreement.proposal in
      let near : List Member = neighbours (after_ages (w.facts m)) in
      let both : (proposes_set o near ≡ true) × (o ≡ Some p) = kept_some (proposes_set o near) o p e in
      ((same_members_decides p.members near).0 (sym (ap (λ (x : Option Proposal). proposes_set x near) both.1) ∙ both.0) ∙ j.sees m here, both.1)

  lacking_aged : (m : ℕ) (here : has_node gs m ≡ true) → Lacking m (after_ages (w.facts m)).agreement.proposal
  lacking_aged m here = lacks_aged m (proposes_set (w.facts m).agreement.proposal (neighbours (after_ages (w.facts m)))) (w.facts m).agreement.proposal (j.lacking m here)

  tick_new : (m : ℕ) (here : has_node gs m ≡ true) → (after_ages (w.facts m)).agreement.proposal ≡ None → is_to_propose (after_ages (w.facts m)) ≡ true → Silent (w.facts m) (stance_of (t.facts m)) ⊎ Asking m set (w.facts m) (stance_of (t.facts m))
  tick_new m here e b = go (others_among m set) refl
    where
      f : Facts
      f = w.facts m

      h : Facts
      h = after_ages f

      s : Stance
      s = stance_of h

      q : ClusterKey
      q = next_key m h.agreement

      now : stance_of (t.facts m) ≡ proposes_to m s (next_key m h.agreement) set
          (others_among m set)
      now = stance_then m here ∙ ap (λ (o : Option Proposal). ticks m s set o (is_to_propose h)) e ∙ ap (λ (c : Bool). ticks m s set None c) b

      sent : (propose h).sends ≡
          (proposal_effects h (next_key m h.agreement) set (others_among m set)).sends
      sent =
          ap (λ (o : Option Proposal). (propose_with h o).sends) e
          ∙ ap (λ (c : Bool). (if c then proposal_effects h (next_key h.me h.agreement) (neighbours h) (agreement.others_among h.me (neighbours h)) else effects.nothing).sends) b
          ∙ ap (λ (ms : List Member). (proposal_effects h (next_key h.me h.agreement) ms (others_among h.me ms)).sends) (j.sees m here)
          ∙ ap (λ (y : ℕ). (proposal_effects h (next_key y h.agreement) set (others_among y set)).sends) (j.base.named m)

      read : CanBeRead (message.Propose (next_key m h.agreement) set)
      read =
          subst (λ (y : ℕ). CanBeRead (message.Propose (next_key y h.agreement) set)) (j.base.named m)
          (subst (λ (ms : List Member). CanBeRead (message.Propose (next_key h.me h.agreement) ms)) (j.sees m here)
          ((subst (λ (o : Option Proposal). ReadsWith h o) e (asks m here)) b))

      nothing : (os : List ℕ) → os ≡ [] → (to : ℕ) (x : Message) → Among (as_read (proposal_effects h (next_key m h.agreement) set os).sends) (to, x) → ⊥
      nothing os is to x i = nothing_asked h to x (subst (λ (xs : List ℕ). Among (as_read (proposal_effects h (next_key m h.agreement) set xs).sends) (to, x)) is i)

      proposed : (o : Option Proposal) → o ≡ None → (agreement.proposing (record s.agreement { promised = next_key m h.agreement; proposal = (if proposes o (next_key m h.agreement) then o else None) }) m (next_key m h.agreement) set).proposal ≡ Some (proposal_of m (next_key m h.agreement) set)
      proposed o is = ap (λ (o : Option Proposal). (agreement.proposing (record s.agreement { promised = next_key m h.agreement; proposal = (if proposes o (next_key m h.agreement) then o else None) }) m (next_key m h.agreement) set).proposal) is

      go : (os : List ℕ) → others_among m set ≡ os → Silent f (stance_of (t.facts m)) ⊎ Asking m set f (stance_of (t.facts m))
      go [] is = inl (record {
        none = ap (λ (x : Stance). x.agreement.proposal) (now ∙ ap (λ (os : List ℕ). proposes_to m s (next_key m h.agreement) set os) is);
        quiet = λ to x i. nothing (others_among m set) is to x (subst (λ (ms : List (ℕ × Message)). Among (as_read ms) (to, x)) sent i);
      })
      go (x ∷ xs) is = inr (record {
        stands = proposal_of m (next_key m h.agreement) set;
        is = ap (λ (y : Stance). y.agreement.proposal) (now ∙ ap (λ (os : List ℕ). proposes_to m s (next_key m h.agreement) set os) is) ∙ proposed s.agreement.proposal e;
        members = refl;
        key = next_is_key m h.agreement (j.roll.each m here) (and_right (is_candidate h) _ b);
        reads = read;
        sends = sent ∙ sends_to h (next_key m h.agreement) set (others_among m set);
        lacking = (ap (λ (os : List ℕ). is_nil os) is, λ y e. e);
      })

  pub after_tick : (m : ℕ) → has_node gs m ≡ true → Silent (w.facts m) (stance_of (t.facts m)) ⊎ Asking m set (w.facts m) (stance_of (t.facts m))
  after_tick m here = go h.agreement.proposal refl (is_to_propose h) refl
    where
      h : Facts
      h = after_ages (w.facts m)

      s : Stance
      s = stance_of (after_ages (w.facts m))

      go : (o : Option Proposal) → (after_ages (w.facts m)).agreement.proposal ≡ o → (b : Bool) → is_to_propose (after_ages (w.facts m)) ≡ b → Silent (w.facts m) (stance_of (t.facts m)) ⊎ Asking m set (w.facts m) (stance_of (t.facts m))
      go None e true b = tick_new m here e b
      go None e false b = inl (record {
        none =
            ap (λ (x : Stance). x.agreement.proposal) (stance_then m here ∙ ap (λ (o : Option Proposal). ticks m (stance_of (after_ages (w.facts m))) set o (is_to_propose (after_ages (w.facts m)))) e ∙ ap (λ (c : Bool). ticks m (stance_of (after_ages (w.facts m))) set None c) b)
            ∙ e;
        quiet = λ to x i. nothing_asked (after_ages (w.facts m)) to x
            (subst (λ (c : Bool). Among (as_read (if c then proposal_effects (after_ages (w.facts m)) (next_key (after_ages (w.facts m)).me (after_ages (w.facts m)).agreement) (neighbours (after_ages (w.facts m))) (agreement.others_among (after_ages (w.facts m)).me (neighbours (after_ages (w.facts m)))) else effects.nothing).sends) (to, x)) b
            (subst (λ (o : Option Proposal). Among (as_read (propose_with (after_ages (w.facts m)) o).sends) (to, x)) e i));
      })
      go (Some p) e b i =
          let of : (p.members ≡ set) × ((w.facts m).agreement.proposal ≡ Some p) = stands_of m here p e in
          inr (record {
            stands = p;
            is = ap (λ (x : Stance). x.agreement.proposal) (stance_then m here ∙ ap (λ (o : Option Proposal). ticks m (stance_of (after_ages (w.facts m))) set o (is_to_propose (after_ages (w.facts m)))) e) ∙ e;
            members = of.0;
            key = j.fit.proposed m here p of.1;
            reads = subst (λ (o : Option Proposal). ReadsWith (after_ages (w.facts m)) o) e (asks m here);
            sends = ap (λ (o : Option Proposal). (propose_with (after_ages (w.facts m)) o).sends) e;
            lacking = subst (λ (o : Option Proposal). Lacking m o) e (lacking_aged m here);
          })

  -- ---- votes can be read

  keyed : (a : ℕ) → has_node gs a ≡ true → (to : ℕ) (x : Message) → Among (as_read (propose (after_ages (w.facts a))).sends) (to, x) → Keyed x
  keyed a here to x i = go (after_tick a here)
    where
      go : Silent (w.facts a) (stance_of (t.facts a)) ⊎ Asking a set (w.facts a) (stance_of (t.facts a)) → Keyed x
      go (inl s) = absurd (s.quiet to x i)
      go (inr s) =
          subst (λ (y : Message). Keyed y) (among_each (message.Propose s.stands.key s.stands.members) s.reads s.stands.missing to x (subst (λ (ms : List (ℕ × Message)). Among (as_read ms) (to, x)) s.sends i)) s.key

  keyed_inbox : (m : ℕ) → has_node gs m ≡ true → (from : ℕ) (x : Message) → Among (inbox t m) (Gets from x) → Keyed x
  keyed_inbox m here from x there = comes_after n ns gs w t j.base j.group j.cleared k Keyed keyed_free keyed m here from x there

  promised_fits : (m : ℕ) → has_node gs m ≡ true → IsKeyOrNone (t.facts m).agreement.promised
  promised_fits m here =
      subst (λ (s : Stance). IsKeyOrNone s.agreement.promised) (sym (stance_then m here))
      (ticks_promised m (stance_of (after_ages (w.facts m))) set (after_ages (w.facts m)).agreement.proposal (is_to_propose (after_ages (w.facts m))) (j.fit.promised m here)
      (λ b. inr (next_is_key m (after_ages (w.facts m)).agreement (j.roll.each m here) (and_right (is_candidate (after_ages (w.facts m))) _ b))))

  pub votes_fit_along : (q : ClusterKey) → IsKeyField q → (m : ℕ) → has_node gs m ≡ true → Along n (t.clocks m) (Votes q) (t.facts m) (inbox t m)
  votes_fit_along q key m here =
      along_map n (t.clocks m) (λ f. IsKeyOrNone f.agreement.promised) (Votes q) (λ f h. votes_fit q key f h) (inbox t m) (t.facts m)
      (kept_along n (t.clocks m) (λ f. IsKeyOrNone f.agreement.promised) (inbox t m) (t.facts m)
      (keeps_turned n (t.clocks m) (λ s. IsKeyOrNone s.agreement.promised) (inbox t m) (gets_inbox t m) (λ me s from x there. key_kept me s from x (keyed_inbox m here from x there))) (promised_fits m here))

-- ---- a round

pub flow_lacks : (n : ℕ) (u v : World) (m me : ℕ) → Flowed n u v → Lacking me (u.facts m).agreement.proposal → Lacking me (v.facts m).agreement.proposal
flow_lacks n u v m me f h = flow_kept n u v m (λ s. Lacking me s.agreement.proposal) f (λ you s from x there. lacks_kept me you s from x) h

round_shrunk : (n : ℕ) (w v : World) (r : Rounded n w v) (m : ℕ) → Shrunk (prop (v.facts m)) (prop (r.ticks_end.facts m))
round_shrunk n w v r m =
    shrunk_on (prop (v.facts m)) (prop (r.third_end.facts m)) (prop (r.ticks_end.facts m)) (flow_shrunk n r.third_end v m r.fourth)
    (shrunk_on (prop (r.third_end.facts m)) (prop (r.second_end.facts m)) (prop (r.ticks_end.facts m)) (flow_shrunk n r.second_end r.third_end m r.third)
    (shrunk_on (prop (r.second_end.facts m)) (prop (r.first_end.facts m)) (prop (r.ticks_end.facts m)) (flow_shrunk n r.first_end r.second_end m r.second) (flow_shrunk n r.ticks_end r.first_end m r.first)))

module _ (n : ℕ) (ns gs : List ℕ) (g : ℕ) (set : List Member) (w v : World) (j : Joined ns gs g set w) (r : Rounded n w v) (k : Ticked n w r.ticks_end ns)
    (asks : (m : ℕ) → has_node gs m ≡ true → ReadsWith (after_ages (w.facts m)) (after_ages (w.facts m)).agreement.proposal) (m : ℕ) (here : has_node gs m ≡ true) (a : Asking m set (w.facts m) (stance_of (r.ticks_end.facts m))) where
  gets : (x : ℕ) → contains (others_among m set) x ≡ true → contains a.stands.missing x ≡ true → Got a.stands.key x (prop (v.facts m))
  gets x other missed =
      let sender : has_node gs x ≡ true = other_here gs g set j.roll m x other in
      let d : x ≡ m → ⊥ = not_gone (ids_of set) m x other in
      let letter : Among (letters_from m r.ticks.posted) (x, message.Propose a.stands.key a.stands.members) =
      subst (λ (ls : List (ℕ × Message)). Among ls (x, message.Propose a.stands.key a.stands.members)) (sym (r.ticks.from m ∙ outbox_ticks n (w.clocks m) (w.facts m) _ (ap (λ (xs : List ℕ). has_node xs m) j.base.ups ∙ j.group.up m here)))
      (tick_proposes n (w.clocks m) (w.facts m) (j.base.up m (j.group.up m here)) a.stands.key a.stands.members a.stands.missing a.sends a.reads x (contains_among a.stands.missing x missed)) in
      answered n ns w v r j.base m x (j.group.near m x here sender (λ e. d (sym e))) (j.group.near x m sender here d) a.stands.key a.stands.members
      (subst (λ (o : Option Proposal). Of a.stands.key o) (sym a.is) refl) letter (votes_fit_along n ns gs g set w r.ticks_end j k asks a.stands.key a.key x sender)

  lacks : Lacking m (prop (v.facts m))
  lacks =
      flow_lacks n r.third_end v m m r.fourth (flow_lacks n r.second_end r.third_end m m r.third (flow_lacks n r.first_end r.second_end m m r.second (flow_lacks n r.ticks_end r.first_end m m r.first
      (subst (λ (o : Option Proposal). Lacking m o) (sym a.is) a.lacking))))

  shrunk : Shrunk (prop (v.facts m)) (Some a.stands)
  shrunk = subst (λ (o : Option Proposal). Shrunk (prop (v.facts m)) o) a.is (round_shrunk n w v r m)

  done : (o : Option Proposal) → prop (v.facts m) ≡ o → o ≡ None
  done None e = refl
  done (Some q) e = differ (nothing_there q.missing (λ x. missed x (contains a.stands.missing x) refl)) (subst (λ (o : Option Proposal). Lacking m o) e lacks).0
    where
      missed : (x : ℕ) (b : Bool) → contains a.stands.missing x ≡ b → contains q.missing x ≡ false
      missed x false s = (subst (λ (o : Option Proposal). Shrunk o (Some a.stands)) e shrunk).missing x s
      missed x true s =
          let other : contains (others_among m set) x ≡ true = ap (λ (ms : List Member). contains (others_among m ms) x) (sym a.members) ∙ a.lacking.1 x s in
          (subst (λ (o : Option Proposal). Got a.stands.key x o) e (gets x other s)).1

given_up : (o : Option Proposal) → Shrunk o None → o ≡ None
given_up None h = refl
given_up (Some p) h = absurd h

-- in a round after which a node sees just the group, whatever it proposes is answered by all and given up or entered
pub within : (n : ℕ) (ns gs : List ℕ) (g : ℕ) (set : List Member) (w v : World) → Joined ns gs g set w → (r : Rounded n w v)
    → ((m : ℕ) → has_node gs m ≡ true → ReadsWith (after_ages (w.facts m)) (after_ages (w.facts m)).agreement.proposal)
    → (m : ℕ) → has_node gs m ≡ true → (v.facts m).agreement.proposal ≡ None
within n ns gs g set w v j r asks m here = go (after_tick n ns gs g set w r.ticks_end j k asks m here)
  where
    k : Ticked n w r.ticks_end ns
    k = subst (λ (xs : List ℕ). Ticked n w r.ticks_end xs) j.base.ups r.ticks

    go : Silent (w.facts m) (stance_of (r.ticks_end.facts m)) ⊎ Asking m set (w.facts m) (stance_of (r.ticks_end.facts m)) → prop (v.facts m) ≡ None
    go (inl s) = given_up (prop (v.facts m)) (subst (λ (o : Option Proposal). Shrunk (prop (v.facts m)) o) s.none (round_shrunk n w v r m))
    go (inr a) = done n ns gs g set w v j r k asks m here a (prop (v.facts m)) refl
