-- Who proposes lacks an answer: each act keeps it.
use Rattle.std.proofs.Common.{◌≡◌, ℕ, Bool, true, false, List, [], ◌∷◌, Option, Some, None, refl, sym, ap, subst, if◌then◌else◌}
use Rattle.cluster_types.specs.declared.cluster_key.ClusterKey.{ClusterKey}
use Rattle.cluster_types.specs.declared.member.Member.{Member}
use Rattle.cluster_types.specs.ClusterKeys.{key_lt}
use Rattle.wire_messages.specs.declared.message.Message.{Message}
use Rattle.wire_messages.specs.declared.message.Message.TheVariants as message
use Rattle.node_rules.specs.Agreement as agreement
use Rattle.node_rules.specs.Agreement.{Agreement, Proposal, may_enter, next_key, others_among, proposal_of, proposes, without_missing, accepted_by, promising}
use Rattle.node_rules.specs.Copies.{is_nil}
use Rattle.key_laws.proofs.Addressed.{in_without}
use Rattle.calm_laws.specs.Stances.{Stance, counts, enters_if, proposes_to, ticks, turned}
use Rattle.calm_laws.specs.Turns.{Lacking}

kept_lacks : (me : ℕ) (b : Bool) (o : Option Proposal) → Lacking me o → Lacking me (if b then o else None)
kept_lacks me true o h = h
kept_lacks me false o h = tt

lacks_accepts : (me : ℕ) (s : Stance) (from : ℕ) (o : Option Proposal) (b : Bool) → s.agreement.proposal ≡ o → Lacking me o → Lacking me (counts (record s { agreement = (if b then record s.agreement { proposal = accepted_by s.agreement.proposal from } else s.agreement) }) from o b).agreement.proposal
lacks_accepts me s from None true e h = subst (λ (o : Option Proposal). Lacking me (agreement.accepted_by o from)) (sym e) tt
lacks_accepts me s from None false e h = subst (λ (o : Option Proposal). Lacking me o) (sym e) tt
lacks_accepts me s from (Some p) false e h = subst (λ (o : Option Proposal). Lacking me o) (sym e) h
lacks_accepts me s from (Some p) true e h = go (is_nil (without_missing p from).missing) refl
  where
    go : (b : Bool) → is_nil (without_missing p from).missing ≡ b → Lacking me (enters_if (record s { agreement = (if true then record s.agreement { proposal = accepted_by s.agreement.proposal from } else s.agreement) }) p.key p.members b).agreement.proposal
    go true i = tt
    go false i = subst (λ (o : Option Proposal). Lacking me (agreement.accepted_by o from)) (sym e) (i, λ x j. h.1 x (in_without p.missing from x j))

pub lacks_kept : (me you : ℕ) (s : Stance) (from : ℕ) (m : Message) → Lacking me s.agreement.proposal → Lacking me (turned you s from m).agreement.proposal
lacks_kept me you s from (message.Propose key ms) h = go (key_lt s.agreement.promised key)
  where
    go : (b : Bool) → Lacking me (if b then promising s.agreement key else s.agreement).proposal
    go true = kept_lacks me (proposes s.agreement.proposal key) s.agreement.proposal h
    go false = h
lacks_kept me you s from (message.Accept key) h = lacks_accepts me s from s.agreement.proposal (proposes s.agreement.proposal key) refl h
lacks_kept me you s from (message.Refuse key promised) h = go (proposes s.agreement.proposal key)
  where
    go : (b : Bool) → Lacking me (agreement.seeing (if b then record s.agreement { proposal = None } else s.agreement) promised).proposal
    go true = tt
    go false = h
lacks_kept me you s from (message.Commit key ms) h = go (may_enter you s.agreement key ms)
  where
    go : (b : Bool) → Lacking me (enters_if s key ms b).agreement.proposal
    go true = tt
    go false = h
lacks_kept me you s from _ h = h

lacks_new : (me : ℕ) (s : Stance) (k : ClusterKey) (set : List Member) (os : List ℕ) → others_among me set ≡ os → s.agreement.proposal ≡ None → Lacking me (proposes_to me s k set os).agreement.proposal
lacks_new me s k set [] is none = tt
lacks_new me s k set (n ∷ ns) is none =
    subst (λ (o : Option Proposal). Lacking me (agreement.proposing (record s.agreement { promised = k; proposal = (if proposes o k then o else None) }) me k set).proposal) (sym none)
    (ap (λ (os : List ℕ). is_nil os) is, λ x e. e)

pub lacks_tick : (me : ℕ) (s : Stance) (set : List Member) (o : Option Proposal) (b : Bool) → s.agreement.proposal ≡ o → Lacking me o → Lacking me (ticks me s set o b).agreement.proposal
lacks_tick me s set (Some p) b e h = subst (λ (o : Option Proposal). Lacking me o) (sym e) h
lacks_tick me s set None false e h = subst (λ (o : Option Proposal). Lacking me o) (sym e) tt
lacks_tick me s set None true e h = lacks_new me s (next_key me s.agreement) set (others_among me set) refl e

-- ages rise: a proposal stands or is given up
pub lacks_aged : (me : ℕ) (b : Bool) (o : Option Proposal) → Lacking me o → Lacking me (if b then o else None)
lacks_aged me b o h = kept_lacks me b o h
