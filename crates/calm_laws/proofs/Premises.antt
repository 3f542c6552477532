-- What holds of each node in every world that taken steps lead to.
use Rattle.std.proofs.Common.{◌≡◌, inl, inr, ℕ, Bool, true, cond, List, [], ◌∷◌, Option, Some, None, refl, sym, ap, subst, ◌∙◌}
use Rattle.cluster_types.specs.Partitions.{partition_count}
use Rattle.wire_messages.specs.declared.message.Message.TheVariants as message
use Rattle.wire_messages.specs.Nodes.{AreMembersField, IsId}
use Rattle.wire_messages.proofs.DecodingLaws.{read_back}
use Rattle.node_rules.specs.Agreement.{Proposal, has_round, next_key, others_among}
use Rattle.node_rules.specs.Facts.{Facts, view_key}
use Rattle.node_rules.specs.Hearing.{Heard, heard_ids}
use Rattle.node_rules.specs.Notes.{after_ages, neighbours}
use Rattle.node_rules.specs.Tables.{Table, at, contains}
use Rattle.node_rules.specs.Tick.{is_candidate}
use Rattle.cluster_rules.specs.declared.event.Event.{Event}
use Rattle.cluster_rules.specs.Opening.{Header, declared_factor, declared_nodes, declared_policy}
use Rattle.cluster_rules.specs.Steps.{play}
use Rattle.cluster_rules.specs.World.{World, is_up, opened}
use Rattle.cluster_laws.proofs.GroundLaws.{apart}
use Rattle.key_laws.specs.Ends.{IsOneOf}
use Rattle.key_laws.proofs.Addressed.{and_right}
use Rattle.key_laws.proofs.AllowedRuns.{declared_id}
use Rattle.key_laws.proofs.DueTick.{next_is_key}
use Rattle.key_laws.proofs.NamedLines.{HeardAs, heard_weak}
use Rattle.key_laws.proofs.NamedSends.{aged_proposal}
use Rattle.key_laws.proofs.Peopled.{Missing, Neighbour}
use Rattle.run_laws.specs.Fronts.{facts_at}
use Rattle.run_laws.specs.LineDue.{LawOf}
use Rattle.run_laws.specs.Taken.{IsProperEvent}
use Rattle.run_laws.specs.Tied as tied
use Rattle.run_laws.specs.Tied.{Among}
use Rattle.run_laws.proofs.AllRead.{ProposalFits, TicksSpelled}
use Rattle.run_laws.proofs.WorldSends.{proposal_fits, spells, ticks}
use Rattle.calm_laws.specs.Flows.{Speaks, look}
use Rattle.calm_laws.specs.Laws.{HasLaws, ReadsWith}
use Rattle.calm_laws.specs.Onward.{MayTake}
use Rattle.calm_laws.specs.Turns.{Lacking}
use Rattle.calm_laws.specs.Waits.{LacksSome, Waits}
use Rattle.calm_laws.proofs.Becoming.{became}
use Rattle.calm_laws.proofs.Fronts.{facts_are, front_of, known, read_there, world_is}
use Rattle.calm_laws.proofs.Hears.{ties}
use Rattle.calm_laws.proofs.Waits.{Found, became_waits}
use Rattle.calm_laws.proofs.Walks.{named_of, order_of, reaches}

-- ---- lists

pub to_front : {A : Type 0} (x : A) (xs : List A) → Among xs x → tied.Among xs x
to_front x [] h = h
to_front x (y ∷ ys) (inl e) = inl e
to_front x (y ∷ ys) (inr h) = inr (to_front x ys h)

pub from_front : {A : Type 0} (x : A) (xs : List A) → tied.Among xs x → Among xs x
from_front x [] h = h
from_front x (y ∷ ys) (inl e) = inl e
from_front x (y ∷ ys) (inr h) = inr (from_front x ys h)

-- ---- what is known of a node

pub law_of : {w : World} (may : MayTake w []) (m : ℕ) → LawOf (declared_policy may.header) (declared_factor may.header) (w.facts m)
law_of may m = subst (λ (f : Facts). LawOf (declared_policy may.header) (declared_factor may.header) f) (facts_are may m) ((known may).lawful.nodes m)

-- a node that is up is declared
pub declared_up : {w : World} (may : MayTake w []) (m : ℕ) → is_up w m ≡ true → IsOneOf (declared_nodes may.header) m
declared_up may m up = ((known may).peopled.nodes m).up (ap (λ (f : Facts). f.up) (facts_are may m) ∙ up)

pub id_of : {w : World} (may : MayTake w []) (m : ℕ) → IsOneOf (declared_nodes may.header) m → IsId m
id_of may m one = declared_id (declared_nodes may.header) m (known may).ids one

-- the laws of keys hold
pub lawful_there : {w : World} → MayTake w [] → HasLaws w
lawful_there may = record { trace = (front_of may).chronicle.traced; is = world_is may; sound = (known may).lawful.sound }

-- ---- its beats and its proposals

-- its beat can be read
pub speaks_there : {w : World} (may : MayTake w []) (m : ℕ) → is_up w m ≡ true → Speaks (w.facts m)
speaks_there may m up = subst Speaks (facts_are may m)
    (read_back (message.Heartbeat (view_key (after_ages f)) (after_ages f).agreement.promised (heard_ids (after_ages f).hearing.heard) (after_ages f).role) (t.view, (spells (known may) m).promised, t.heard, t.rack))
  where
    f : Facts
    f = facts_at (front_of may) m

    t : TicksSpelled (after_ages f)
    t = ticks (known may) m (declared_up may m up)

reads_with : (g : Facts) → IsId g.me → AreMembersField (neighbours g) → ((p : Proposal) → g.agreement.proposal ≡ Some p → ProposalFits p) → ReadsWith g g.agreement.proposal
reads_with g id near fit = go g.agreement.proposal refl
  where
    go : (o : Option Proposal) → g.agreement.proposal ≡ o → ReadsWith g o
    go None e = λ i. read_back (message.Propose (next_key g.me g.agreement) (neighbours g)) (next_is_key g.me g.agreement id (and_right (is_candidate g) (has_round g.agreement) i), near)
    go (Some p) e = read_back (message.Propose p.key p.members) ((fit p e).key, (fit p e).members)

-- what it proposes at its tick can be read
pub asks_there : {w : World} (may : MayTake w []) (m : ℕ) → is_up w m ≡ true → ReadsWith (after_ages (w.facts m)) (after_ages (w.facts m)).agreement.proposal
asks_there may m up = subst (λ (f : Facts). ReadsWith (after_ages f) (after_ages f).agreement.proposal) (facts_are may m)
    (reads_with (after_ages f) t.me t.neighbours (λ p e. proposal_fits (known may) m p (aged_proposal f p e)))
  where
    f : Facts
    f = facts_at (front_of may) m

    t : TicksSpelled (after_ages f)
    t = ticks (known may) m (declared_up may m up)

-- ---- whom it hears

heard_none : (es : Table Heard) (m : ℕ) → HeardAs (λ n r. n ≡ m → ⊥) es → at es m ≡ None
heard_none [] m h = refl
heard_none (e ∷ es) m h = ap (λ (b : Bool). cond b (Some e.1) (at es m)) (ties m e.0 ∙ apart m e.0 (λ s. h.0 (sym s))) ∙ heard_none es m h.1

-- it doesn't hear itself
pub not_itself : {w : World} (may : MayTake w []) (m : ℕ) → look (w.facts m).hearing.heard m ≡ None
not_itself may m = subst (λ (f : Facts). look f.hearing.heard m ≡ None) (facts_are may m)
    (heard_none (facts_at (front_of may) m).hearing.heard m (heard_weak (Neighbour (declared_nodes may.header) m) (λ n r. n ≡ m → ⊥) (λ n r x. x.other) (facts_at (front_of may) m).hearing.heard ((known may).peopled.nodes m).heard))

-- ---- for whom it waits

found : {w : World} (may : MayTake w []) (m : ℕ) → Found (w.facts m).transactions
found may m t i = (law_of may m).runs t (to_front t _ i)

pub waits_there : {w : World} (may : MayTake w []) (m : ℕ) → Waits (w.facts m)
waits_there {w} may m = reaches (λ (k : ℕ) (u : World). (a : ℕ) → Waits (u.facts a)) begins keeps w may m
  where
    begins : (h : Header) (a : ℕ) → Waits ((opened h).facts a)
    begins h a = record { lacks = tt; awaits = λ t i. absurd i }

    keeps : (k : ℕ) (u : World) (e : Event) → MayTake u [] → IsProperEvent e → ((a : ℕ) → Waits (u.facts a)) → (a : ℕ) → Waits ((play partition_count e u).world.facts a)
    keeps k u e on proper h a = became_waits u e a _ (became u (named_of on) (read_there on) (order_of on) e proper a) (found on a) (h a)

-- who proposes lacks an answer, and of other members alone
pub lacking_there : {w : World} (may : MayTake w []) (m : ℕ) → Lacking m (w.facts m).agreement.proposal
lacking_there {w} may m = go (w.facts m).agreement.proposal refl (waits_there may m).lacks
  where
    missing : Missing (w.facts m).me (w.facts m).agreement
    missing = subst (λ (f : Facts). Missing f.me f.agreement) (facts_are may m) ((known may).peopled.nodes m).missing

    go : (o : Option Proposal) → (w.facts m).agreement.proposal ≡ o → LacksSome o → Lacking m o
    go None e h = tt
    go (Some p) e h = (h, λ x i. subst (λ (n : ℕ). contains (others_among n p.members) x ≡ true) (named_of may m) ((missing.each p e).each x i))
