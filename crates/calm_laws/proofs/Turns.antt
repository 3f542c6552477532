-- What the messages of one proposal make of those who follow it and of the one who leads it.
use Rattle.std.proofs.Common.{◌≡◌, ℕ, ◌&&◌, Bool, true, false, List, Option, Some, None, refl, sym, ap, subst, ◌∙◌, ◌⊎◌, inl, inr, if◌then◌else◌}
use Rattle.cluster_types.specs.declared.cluster_key.ClusterKey.{ClusterKey}
use Rattle.cluster_types.specs.declared.member.Member.{Member}
use Rattle.cluster_types.specs.ClusterKeys.{IsBelow, key_lt}
use Rattle.wire_messages.specs.declared.message.Message.{Message}
use Rattle.wire_messages.specs.declared.message.Message.TheVariants as message
use Rattle.journal_readings.proofs.Fronts.{and_left}
use Rattle.node_rules.specs.Agreement as agreement
use Rattle.node_rules.specs.Agreement.{Agreement, Proposal, proposes, without_missing, accepted_by, may_enter, promising}
use Rattle.node_rules.specs.Copies.{is_nil}
use Rattle.node_rules.specs.Exchange.{View, is_member}
use Rattle.node_rules.specs.Keys.{same_key}
use Rattle.cluster_laws.proofs.At.{differ}
use Rattle.key_laws.specs.Order.{KeyAtMost}
use Rattle.key_laws.proofs.Order.{at_most_eq, at_most_lt, below_lt, neither_lt, same_is, same_self}
use Rattle.calm_laws.specs.Stances.{Stance, enters_view, enters_if, counts, turned}
use Rattle.calm_laws.specs.Turns.{Only, Inside, Follows, Leads}

-- ---- keys

not_above_itself : (a k l : ClusterKey) → a ≡ k → l ≡ k → key_lt a l ≡ false
not_above_itself a k l e i = at_most_lt a l (at_most_eq (i ∙ sym e))

and_false : (b c : Bool) → (b && (false && c)) ≡ false
and_false true c = refl
and_false false c = refl

no_entry : (me : ℕ) (a : Agreement) (k l : ClusterKey) (ms : List Member) → a.last ≡ k → l ≡ k → may_enter me a l ms ≡ false
no_entry me a k l ms e i = ap (λ (b : Bool). same_key l a.promised && (b && is_member ms me)) (not_above_itself a.last k l e i) ∙ and_false (same_key l a.promised) (is_member ms me)

promised_key : (me : ℕ) (a : Agreement) (l : ClusterKey) (ms : List Member) → may_enter me a l ms ≡ true → l ≡ a.promised
promised_key me a l ms e = same_is l a.promised (and_left (same_key l a.promised) _ e)

same_view : (k l : ClusterKey) (ms ns : List Member) → l ≡ k → ns ≡ ms → ◌≡◌ {A = Option View} (Some (record { key = l; members = ns })) (Some (record { key = k; members = ms }))
same_view k l ms ns e i = ap (λ (x : ClusterKey). Some (record { key = x; members = ns })) e ∙ ap (λ (xs : List Member). Some (record { key = k; members = xs })) i

-- ---- an Accept, where that proposal stands

abbrev accepts : Stance → ℕ → ClusterKey → Option Proposal → Stance
accepts s from l o = counts (record s { agreement = (if proposes o l then record s.agreement { proposal = accepted_by s.agreement.proposal from } else s.agreement) }) from o (proposes o l)

-- ---- inside

pub inside_entered : (k l : ClusterKey) (ms ns : List Member) (s : Stance) → l ≡ k → ns ≡ ms → s.agreement.promised ≡ k → Inside k ms (enters_view s l ns)
inside_entered k l ms ns s e i p = record { view = same_view k l ms ns e i; last = e; promised = p; proposal = refl; quiet = refl }

pub inside_kept : (p a c : Bool) (k : ClusterKey) (ms : List Member) (me : ℕ) (s : Stance) (from : ℕ) (m : Message) → Only p a c k ms m → Inside k ms s → Inside k ms (turned me s from m)
inside_kept p a c k ms me s from (message.Heartbeat view promised hears role) o h = record { view = h.view; last = h.last; promised = h.promised; proposal = h.proposal; quiet = h.quiet }
inside_kept p a c k ms me s from (message.Propose l ns) o h =
    subst (λ (b : Bool). Inside k ms (record s { agreement = (if b then promising s.agreement l else s.agreement) })) (sym (not_above_itself s.agreement.promised k l h.promised o.1)) h
inside_kept p a c k ms me s from (message.Accept l) o h = subst (λ (x : Option Proposal). Inside k ms (accepts s from l x)) (sym h.proposal) h
inside_kept p a c k ms me s from (message.Refuse l promised) o h = absurd o
inside_kept p a c k ms me s from (message.Commit l ns) o h = subst (λ (b : Bool). Inside k ms (enters_if s l ns b)) (sym (no_entry me s.agreement k l ns h.last o.1)) h
inside_kept p a c k ms me s from _ o h = h

-- ---- who follows

pub inside_follows : (k : ClusterKey) (ms : List Member) (s : Stance) → Inside k ms s → Follows k ms s
inside_follows k ms s h = record { promised = at_most_eq h.promised; proposal = h.proposal; last = inr h }

follows_below : (p a c : Bool) (k : ClusterKey) (ms : List Member) (me : ℕ) (s : Stance) (from : ℕ) (m : Message) → Only p a c k ms m → KeyAtMost s.agreement.promised k → s.agreement.proposal ≡ None → IsBelow s.agreement.last k → Follows k ms (turned me s from m)
follows_below p a c k ms me s from (message.Heartbeat view promised hears role) o most none below = record { promised = most; proposal = none; last = inl below }
follows_below p a c k ms me s from (message.Propose l ns) o most none below = go (key_lt s.agreement.promised l)
  where
    go : (b : Bool) → Follows k ms (record s { agreement = (if b then promising s.agreement l else s.agreement) })
    go true = record { promised = at_most_eq o.1; proposal = ap (λ (x : Option Proposal). (if proposes x l then x else None)) none; last = inl below }
    go false = record { promised = most; proposal = none; last = inl below }
follows_below p a c k ms me s from (message.Accept l) o most none below =
    subst (λ (x : Option Proposal). Follows k ms (accepts s from l x)) (sym none) (record { promised = most; proposal = none; last = inl below })
follows_below p a c k ms me s from (message.Refuse l promised) o most none below = absurd o
follows_below p a c k ms me s from (message.Commit l ns) o most none below = go (may_enter me s.agreement l ns) refl
  where
    go : (b : Bool) → may_enter me s.agreement l ns ≡ b → Follows k ms (enters_if s l ns b)
    go true e = inside_follows k ms (enters_view s l ns) (inside_entered k l ms ns s o.1 o.2 (sym (promised_key me s.agreement l ns e) ∙ o.1))
    go false e = record { promised = most; proposal = none; last = inl below }
follows_below p a c k ms me s from _ o most none below = record { promised = most; proposal = none; last = inl below }

pub follows_kept : (p a c : Bool) (k : ClusterKey) (ms : List Member) (me : ℕ) (s : Stance) (from : ℕ) (m : Message) → Only p a c k ms m → Follows k ms s → Follows k ms (turned me s from m)
follows_kept p a c k ms me s from m o h = go h.last
  where
    go : IsBelow s.agreement.last k ⊎ Inside k ms s → Follows k ms (turned me s from m)
    go (inl below) = follows_below p a c k ms me s from m o h.promised h.proposal below
    go (inr i) = inside_follows k ms (turned me s from m) (inside_kept p a c k ms me s from m o i)

-- ---- who has voted

pub record Votes (k : ClusterKey) (ms : List Member) (s : Stance) : Type 0 where
  pub follows : Follows k ms s
  pub promised : s.agreement.promised ≡ k

pub votes_made : (k : ClusterKey) (ms : List Member) (me : ℕ) (s : Stance) (from : ℕ) (ns : List Member) → ns ≡ ms → Follows k ms s → Votes k ms (turned me s from (message.Propose k ns))
votes_made k ms me s from ns e h = record { follows = follows_kept true true true k ms me s from (message.Propose k ns) (refl, refl, e) h; promised = go (key_lt s.agreement.promised k) refl }
  where
    go : (b : Bool) → key_lt s.agreement.promised k ≡ b → (if b then promising s.agreement k else s.agreement).promised ≡ k
    go true e = refl
    go false e = neither_lt s.agreement.promised k e (at_most_lt k s.agreement.promised h.promised)

pub votes_kept : (p a c : Bool) (k : ClusterKey) (ms : List Member) (me : ℕ) (s : Stance) (from : ℕ) (m : Message) → Only p a c k ms m → Votes k ms s → Votes k ms (turned me s from m)
votes_kept p a c k ms me s from m o h = record { follows = follows_kept p a c k ms me s from m o h.follows; promised = go m o }
  where
    go : (m : Message) → Only p a c k ms m → (turned me s from m).agreement.promised ≡ k
    go (message.Heartbeat view promised hears role) o = h.promised
    go (message.Propose l ns) o = subst (λ (b : Bool). (if b then promising s.agreement l else s.agreement).promised ≡ k) (sym (not_above_itself s.agreement.promised k l h.promised o.1)) h.promised
    go (message.Accept l) o = subst (λ (x : Option Proposal). (accepts s from l x).agreement.promised ≡ k) (sym h.follows.proposal) h.promised
    go (message.Refuse l promised) o = absurd o
    go (message.Commit l ns) o = enter (may_enter me s.agreement l ns)
      where
        enter : (b : Bool) → (enters_if s l ns b).agreement.promised ≡ k
        enter true = h.promised
        enter false = h.promised
    go _ o = h.promised

-- a commit brings who has voted into the view
pub committed : (k : ClusterKey) (ms : List Member) (me : ℕ) (s : Stance) (from : ℕ) → is_member ms me ≡ true → Votes k ms s → Inside k ms (turned me s from (message.Commit k ms))
committed k ms me s from here h = go h.follows.last
  where
    go : IsBelow s.agreement.last k ⊎ Inside k ms s → Inside k ms (enters_if s k ms (may_enter me s.agreement k ms))
    go (inr i) = inside_kept true true true k ms me s from (message.Commit k ms) (refl, refl, refl) i
    go (inl below) =
        let may : may_enter me s.agreement k ms ≡ true =
        ap (λ (x : ClusterKey). same_key k x && (key_lt s.agreement.last k && is_member ms me)) h.promised
        ∙ ap (λ (b : Bool). b && (key_lt s.agreement.last k && is_member ms me)) (same_self k)
        ∙ ap (λ (b : Bool). b && is_member ms me) (below_lt s.agreement.last k below)
        ∙ here in
        subst (λ (b : Bool). Inside k ms (enters_if s k ms b)) (sym may) (inside_entered k k ms ms s refl refl h.promised)

-- ---- who leads

abbrev pub Led : ClusterKey → List Member → Stance → Type 0
Led k ms s = Leads k ms s ⊎ Inside k ms s

pub leads_kept : (p a c : Bool) (k : ClusterKey) (ms : List Member) (me : ℕ) (s : Stance) (from : ℕ) (m : Message) → Only p a c k ms m → Leads k ms s → Led k ms (turned me s from m)
leads_kept p a c k ms me s from (message.Heartbeat view promised hears role) o h = inl (record { promised = h.promised; below = h.below; stands = h.stands; is = h.is; key = h.key; members = h.members; some = h.some })
leads_kept p a c k ms me s from (message.Propose l ns) o h =
    subst (λ (b : Bool). Led k ms (record s { agreement = (if b then promising s.agreement l else s.agreement) })) (sym (not_above_itself s.agreement.promised k l h.promised o.1)) (inl h)
leads_kept p a c k ms me s from (message.Accept l) o h = subst (λ (x : Option Proposal). Led k ms (accepts s from l x)) (sym h.is) here
  where
    mine : proposes (Some h.stands) l ≡ true
    mine = ap (λ (x : ClusterKey). same_key x l) (h.key ∙ sym o.1) ∙ same_self l

    counted : Stance
    counted = record s { agreement = (if true then record s.agreement { proposal = accepted_by s.agreement.proposal from } else s.agreement) }

    go : (b : Bool) → is_nil (without_missing h.stands from).missing ≡ b → Led k ms (enters_if counted h.stands.key h.stands.members b)
    go true e = inr (inside_entered k h.stands.key ms h.stands.members counted h.key h.members h.promised)
    go false e = inl (record {
      promised = h.promised;
      below = h.below;
      stands = without_missing h.stands from;
      is = ap (λ (x : Option Proposal). accepted_by x from) h.is;
      key = h.key;
      members = h.members;
      some = e;
    })

    here : Led k ms (accepts s from l (Some h.stands))
    here = subst (λ (b : Bool). Led k ms (counts (record s { agreement = (if b then record s.agreement { proposal = accepted_by s.agreement.proposal from } else s.agreement) }) from (Some h.stands) b)) (sym mine) (go (is_nil (without_missing h.stands from).missing) refl)
leads_kept p a c k ms me s from (message.Refuse l promised) o h = absurd o
leads_kept p a c k ms me s from (message.Commit l ns) o h = go (may_enter me s.agreement l ns)
  where
    go : (b : Bool) → Led k ms (enters_if s l ns b)
    go true = inr (inside_entered k l ms ns s o.1 o.2 h.promised)
    go false = inl h
leads_kept p a c k ms me s from _ o h = inl h

pub led_kept : (p a c : Bool) (k : ClusterKey) (ms : List Member) (me : ℕ) (s : Stance) (from : ℕ) (m : Message) → Only p a c k ms m → Led k ms s → Led k ms (turned me s from m)
led_kept p a c k ms me s from m o (inl h) = leads_kept p a c k ms me s from m o h
led_kept p a c k ms me s from m o (inr h) = inr (inside_kept p a c k ms me s from m o h)

-- who leads does so until it enters
pub leads_stay : (p : Bool) (k : ClusterKey) (ms : List Member) (me : ℕ) (s : Stance) (from : ℕ) (m : Message) → Only p false false k ms m → Leads k ms s → Leads k ms (turned me s from m)
leads_stay p k ms me s from (message.Heartbeat view promised hears role) o h = record { promised = h.promised; below = h.below; stands = h.stands; is = h.is; key = h.key; members = h.members; some = h.some }
leads_stay p k ms me s from (message.Propose l ns) o h =
    subst (λ (b : Bool). Leads k ms (record s { agreement = (if b then promising s.agreement l else s.agreement) })) (sym (not_above_itself s.agreement.promised k l h.promised o.1)) h
leads_stay p k ms me s from (message.Accept l) o h = differ o.0 refl
leads_stay p k ms me s from (message.Refuse l promised) o h = absurd o
leads_stay p k ms me s from (message.Commit l ns) o h = differ o.0 refl
leads_stay p k ms me s from _ o h = h

-- an Accept that isn't the last one
pub leads_counted : (k : ClusterKey) (ms : List Member) (me : ℕ) (s : Stance) (from : ℕ) (l : ClusterKey) → l ≡ k → (h : Leads k ms s) → is_nil (without_missing h.stands from).missing ≡ false → Leads k ms (turned me s from (message.Accept l))
leads_counted k ms me s from l e h more = subst (λ (x : Option Proposal). Leads k ms (accepts s from l x)) (sym h.is) here
  where
    mine : proposes (Some h.stands) l ≡ true
    mine = ap (λ (x : ClusterKey). same_key x l) (h.key ∙ sym e) ∙ same_self l

    counted : Stance
    counted = record s { agreement = (if true then record s.agreement { proposal = accepted_by s.agreement.proposal from } else s.agreement) }

    here : Leads k ms (accepts s from l (Some h.stands))
    here = subst (λ (b : Bool). Leads k ms (counts (record s { agreement = (if b then record s.agreement { proposal = accepted_by s.agreement.proposal from } else s.agreement) }) from (Some h.stands) b)) (sym mine)
        (subst (λ (b : Bool). Leads k ms (enters_if counted h.stands.key h.stands.members b)) (sym more) (record {
          promised = h.promised;
          below = h.below;
          stands = without_missing h.stands from;
          is = ap (λ (x : Option Proposal). accepted_by x from) h.is;
          key = h.key;
          members = h.members;
          some = more;
        }))
