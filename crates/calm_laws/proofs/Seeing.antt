-- After a round that begins ready the greatest has seen the round of each promise in the group.
use Rattle.std.proofs.Common.{◌≡◌, ℕ, ◌≤◌, ◌==◌, max, Bool, true, false, List, Option, Some, None, refl, sym, ap, subst, ◌∙◌, inl, inr, arith, if◌then◌else◌}
use Rattle.cluster_types.specs.declared.cluster_key.ClusterKey.{ClusterKey}
use Rattle.cluster_types.specs.declared.member.Member.{Member}
use Rattle.cluster_types.specs.ClusterKeys.{key_lt}
use Rattle.wire_messages.specs.declared.message.Message.{Message}
use Rattle.wire_messages.specs.declared.message.Message.TheVariants as message
use Rattle.partition_lists.proofs.InOrderLaws.{equal}
use Rattle.node_rules.specs.Agreement as agreement
use Rattle.node_rules.specs.Agreement.{Agreement, Proposal, may_enter, proposes, seen_round, without_missing, accepted_by, promising}
use Rattle.node_rules.specs.Copies.{is_nil}
use Rattle.node_rules.specs.Facts.{Facts}
use Rattle.node_rules.specs.Notes.{after_ages}
use Rattle.journal_readings.specs.Lines.{has_node}
use Rattle.cluster_rules.specs.World.{World}
use Rattle.cluster_rules.proofs.KeptFacts.{num_same}
use Rattle.cluster_laws.proofs.At.{differ}
use Rattle.key_laws.proofs.Order.{lt_below}
use Rattle.run_laws.specs.Tied.{Among}
use Rattle.calm_laws.specs.Laws.{is_to_propose}
use Rattle.calm_laws.specs.Acts.{Input, Gets, outbox}
use Rattle.calm_laws.specs.Flows.{Flowed, Near, Rounded, Speaks, Ticked, beat_of, inbox}
use Rattle.calm_laws.specs.Group.{kind}
use Rattle.calm_laws.specs.Letters.{arriving_at}
use Rattle.calm_laws.specs.Stances.{Stance, stance_of, enters_if, counts, turned}
use Rattle.calm_laws.specs.Turns.{Only, Ready, SeenAll, is_agreeing}
use Rattle.calm_laws.proofs.Beginning.{cleared_begins, key_next, leader_leads, only_begins, others_rest, rests_tick}
use Rattle.calm_laws.proofs.Flow.{among_behind, Came, came}
use Rattle.calm_laws.proofs.Hearing.{gets_inbox, same_message, tick_beat}
use Rattle.calm_laws.proofs.Passing.{flow_each, flow_kept}
use Rattle.calm_laws.proofs.Sent.{asks, none_among, outbox_none}
use Rattle.calm_laws.proofs.Turns.{Led}

-- ---- what was seen only rises

abbrev Seen : ℕ → Stance → Type 0
Seen x s = x ≤ seen_round s.agreement

seen_promise : (x : ℕ) (a : Agreement) (key : ClusterKey) (b : Bool) → key_lt a.promised key ≡ b → x ≤ seen_round a → x ≤ seen_round (if b then promising a key else a)
seen_promise x a key false e h = h
seen_promise x a key true e h = go (lt_below a.promised key e).rounds
  where
    go : a.promised.round ≤ key.round → x ≤ max key.round a.seen
    go le = omega (arith, le, h)

seen_accepts : (x : ℕ) (s : Stance) (from : ℕ) (key : ClusterKey) (o : Option Proposal) (b : Bool) → Seen x s → Seen x (counts (record s { agreement = (if b then record s.agreement { proposal = accepted_by s.agreement.proposal from } else s.agreement) }) from o b)
seen_accepts x s from key None true h = h
seen_accepts x s from key None false h = h
seen_accepts x s from key (Some p) false h = h
seen_accepts x s from key (Some p) true h = go (is_nil (without_missing p from).missing)
  where
    go : (b : Bool) → Seen x (enters_if (record s { agreement = (if true then record s.agreement { proposal = accepted_by s.agreement.proposal from } else s.agreement) }) p.key p.members b)
    go true = h
    go false = h

seen_kept : (x : ℕ) (me : ℕ) (s : Stance) (from : ℕ) (m : Message) → Seen x s → Seen x (turned me s from m)
seen_kept x me s from (message.Heartbeat view promised hears role) h = omega (arith, h)
seen_kept x me s from (message.Propose key ms) h = seen_promise x s.agreement key (key_lt s.agreement.promised key) refl h
seen_kept x me s from (message.Accept key) h = seen_accepts x s from key s.agreement.proposal (proposes s.agreement.proposal key) h
seen_kept x me s from (message.Refuse key promised) h = go (proposes s.agreement.proposal key)
  where
    more : (p q r : ℕ) → x ≤ max p q → x ≤ max p (max q r)
    more p q r h = omega (arith, h)

    go : (b : Bool) → x ≤ seen_round (agreement.seeing (if b then record s.agreement { proposal = None } else s.agreement) promised)
    go true = more s.agreement.promised.round s.agreement.seen promised.round h
    go false = more s.agreement.promised.round s.agreement.seen promised.round h
seen_kept x me s from (message.Commit key ms) h = go (may_enter me s.agreement key ms)
  where
    go : (b : Bool) → Seen x (enters_if s key ms b)
    go true = h
    go false = h
seen_kept x me s from _ h = h

flow_seen : (n : ℕ) (u v : World) (m x : ℕ) → Flowed n u v → Seen x (stance_of (u.facts m)) → Seen x (stance_of (v.facts m))
flow_seen n u v m x f h = flow_kept n u v m (Seen x) f (λ me s from y there. seen_kept x me s from y) h

-- ---- a promise rises by proposals alone

abbrev Bound : ℕ → Stance → Type 0
Bound x s = s.agreement.promised.round ≤ x

-- a proposal among these is of such a round
abbrev Low : ℕ → Message → Type 0
Low x (message.Propose key ms) = key.round ≤ x
Low x _ = Unit {0}

bound_accepts : (x : ℕ) (s : Stance) (from : ℕ) (o : Option Proposal) (b : Bool) → Bound x s → Bound x (counts (record s { agreement = (if b then record s.agreement { proposal = accepted_by s.agreement.proposal from } else s.agreement) }) from o b)
bound_accepts x s from None true h = h
bound_accepts x s from None false h = h
bound_accepts x s from (Some p) false h = h
bound_accepts x s from (Some p) true h = go (is_nil (without_missing p from).missing)
  where
    go : (b : Bool) → Bound x (enters_if (record s { agreement = (if true then record s.agreement { proposal = accepted_by s.agreement.proposal from } else s.agreement) }) p.key p.members b)
    go true = h
    go false = h

bound_kept : (x : ℕ) (me : ℕ) (s : Stance) (from : ℕ) (m : Message) → Low x m → Bound x s → Bound x (turned me s from m)
bound_kept x me s from (message.Heartbeat view promised hears role) l h = h
bound_kept x me s from (message.Propose key ms) l h = go (key_lt s.agreement.promised key)
  where
    go : (b : Bool) → Bound x (record s { agreement = (if b then promising s.agreement key else s.agreement) })
    go true = l
    go false = h
bound_kept x me s from (message.Accept key) l h = bound_accepts x s from s.agreement.proposal (proposes s.agreement.proposal key) h
bound_kept x me s from (message.Refuse key promised) l h = go (proposes s.agreement.proposal key)
  where
    go : (b : Bool) → (agreement.seeing (if b then record s.agreement { proposal = None } else s.agreement) promised).promised.round ≤ x
    go true = h
    go false = h
bound_kept x me s from (message.Commit key ms) l h = go (may_enter me s.agreement key ms)
  where
    go : (b : Bool) → Bound x (enters_if s key ms b)
    go true = h
    go false = h
bound_kept x me s from _ l h = h

-- what came in the flow after a flow asks nothing
pub not_asked : (n : ℕ) (u v : World) → Flowed n u v → (m a : ℕ) (x : Message) → Among (inbox v m) (Gets a x) → asks (kind x) ≡ false
not_asked n u v f m a x h =
    let c : Came v m f.posted (Gets a x) = came v m f.posted (Gets a x) (subst (λ (is : List Input). Among is (Gets a x)) (f.inbox m) h) in
    ap (λ (y : Message). asks (kind y)) (sym (same_message c.from a c.message x c.is))
    ∙ none_among asks (outbox n (u.clocks c.from) (u.facts c.from) (inbox u c.from)) m c.message (outbox_none n (u.clocks c.from) (u.facts c.from) (inbox u c.from) (gets_inbox u c.from))
    (subst (λ (ls : List (ℕ × Message)). Among ls (m, c.message)) (f.from c.from) c.letter)

low_answer : (x : ℕ) (m : Message) → asks (kind m) ≡ false → Low x m
low_answer x (message.Propose key ms) e = differ refl e
low_answer x _ e = tt

low_only : (x : ℕ) (k : ClusterKey) (ms : List Member) (m : Message) → k.round ≤ x → Only true false false k ms m → Low x m
low_only x k ms (message.Propose key ns) le o = subst (λ (y : ClusterKey). y.round ≤ x) (sym o.1) le
low_only x k ms _ le o = tt

low_free : (x : ℕ) (m : Message) → is_agreeing (kind m) ≡ false → Low x m
low_free x (message.Propose key ms) e = differ refl e
low_free x _ e = tt

flow_bound : (n : ℕ) (u v : World) (m x : ℕ) → Flowed n u v → ((a : ℕ) (y : Message) → Among (inbox u m) (Gets a y) → Low x y) → Bound x (stance_of (u.facts m)) → Bound x (stance_of (v.facts m))
flow_bound n u v m x f low h = flow_kept n u v m (Bound x) f (λ me s from y there. bound_kept x me s from y (low from y there)) h

-- ---- the round

pub seen_after : (n : ℕ) (ns gs : List ℕ) (g : ℕ) (set : List Member) (w v : World) (r : Rounded n w v) → Ready ns gs g set w → ((a : ℕ) → has_node ns a ≡ true → Speaks (w.facts a)) → SeenAll gs g v
seen_after n ns gs g set w v r h speaks m here = go (m == g) refl
  where
    k : Ticked n w r.ticks_end ns
    k = subst (λ (xs : List ℕ). Ticked n w r.ticks_end xs) h.base.ups r.ticks

    all : ℕ
    all = seen_round (v.facts g).agreement

    -- what the greatest has seen after the first flow, and after the ticks
    from_first : (x : ℕ) → Seen x (stance_of (r.first_end.facts g)) → x ≤ seen_round (v.facts g).agreement
    from_first x s = flow_seen n r.third_end v g x r.fourth (flow_seen n r.second_end r.third_end g x r.third (flow_seen n r.first_end r.second_end g x r.second s))

    from_ticks : (x : ℕ) → Seen x (stance_of (r.ticks_end.facts g)) → x ≤ seen_round (v.facts g).agreement
    from_ticks x s = from_first x (flow_seen n r.ticks_end r.first_end g x r.first s)

    -- the proposals of this round are of no greater round
    led : Led (key_next g w) set (stance_of (r.ticks_end.facts g)) → (key_next g w).round ≤ seen_round (r.ticks_end.facts g).agreement
    led (inl l) = at_least (r.ticks_end.facts g).agreement (key_next g w) l.promised
      where
        at_least : (a : Agreement) (l : ClusterKey) → a.promised ≡ l → l.round ≤ max a.promised.round a.seen
        at_least a l e = subst (λ (y : ClusterKey). y.round ≤ max a.promised.round a.seen) e (omega arith)
    led (inr l) = at_least (r.ticks_end.facts g).agreement (key_next g w) l.promised
      where
        at_least : (a : Agreement) (l : ClusterKey) → a.promised ≡ l → l.round ≤ max a.promised.round a.seen
        at_least a l e = subst (λ (y : ClusterKey). y.round ≤ max a.promised.round a.seen) e (omega arith)

    low : (b : Bool) → is_to_propose (after_ages (w.facts g)) ≡ b → (a : ℕ) (y : Message) → Among (inbox r.ticks_end m) (Gets a y) → Low (seen_round (v.facts g).agreement) y
    low true e a y there =
        low_only (seen_round (v.facts g).agreement) (key_next g w) set y (from_ticks (key_next g w).round (led (leader_leads n ns gs g set w r.ticks_end h k e)))
        (only_begins n ns gs g set w r.ticks_end h k m here a y there)
    low false e a y there = low_free (seen_round (v.facts g).agreement) y (cleared_begins n ns gs g set w r.ticks_end h k e m here a y there)

    bound : Bound (seen_round (v.facts g).agreement) (stance_of (r.ticks_end.facts m)) → Bound (seen_round (v.facts g).agreement) (stance_of (v.facts m))
    bound b =
        let x : ℕ = seen_round (v.facts g).agreement in
        flow_bound n r.third_end v m x r.fourth (λ a y there. low_answer x y (not_asked n r.second_end r.third_end r.third m a y there))
        (flow_bound n r.second_end r.third_end m x r.third (λ a y there. low_answer x y (not_asked n r.first_end r.second_end r.second m a y there))
        (flow_bound n r.first_end r.second_end m x r.second (λ a y there. low_answer x y (not_asked n r.ticks_end r.first_end r.first m a y there))
        (flow_bound n r.ticks_end r.first_end m x r.first (low (is_to_propose (after_ages (w.facts g))) refl) b)))

    -- its beat tells what it has promised
    told : (m ≡ g → ⊥) → (w.facts m).agreement.promised.round ≤ seen_round (v.facts g).agreement
    told d =
        let near : Near ns w m g = h.group.near m g here h.roll.lead d in
        let f : Facts = after_ages (w.facts m) in
        from_first (w.facts m).agreement.promised.round
        (flow_each n r.ticks_end r.first_end g (λ s. Unit {0}) (Seen (w.facts m).agreement.promised.round) r.first (λ me s from y there p. tt) (λ me s from y there. seen_kept (w.facts m).agreement.promised.round me s from y)
        m (beat_of f) (λ me s name p. omega arith)
        (subst (λ (is : List Input). Among is (Gets m (beat_of f))) (sym (k.inbox g)) (among_behind (Gets m (beat_of f)) (inbox w g) (arriving_at r.ticks_end g k.posted) (tick_beat n ns w r.ticks_end k h.base.up m g near (speaks m near.sender)))) tt)

    go : (b : Bool) → (m == g) ≡ b → (v.facts m).agreement.promised.round ≤ seen_round (v.facts g).agreement
    go true s = subst (λ (y : ℕ). (v.facts y).agreement.promised.round ≤ seen_round (v.facts g).agreement) (sym (num_same m g s)) (own (v.facts g).agreement)
      where
        own : (a : Agreement) → a.promised.round ≤ max a.promised.round a.seen
        own a = omega arith
    go false s =
        let d : m ≡ g → ⊥ = λ i. differ (equal m g i) s in
        bound (subst (λ (z : Stance). Bound (seen_round (v.facts g).agreement) z) (sym (rests_tick n ns gs g set w r.ticks_end h k m here (others_rest ns gs g set w h m here d))) (told d))
