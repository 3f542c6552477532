-- The laws of keys hold all along a round: votes can be read whenever they are sent.
use Rattle.std.proofs.Common.{◌≡◌, ℕ, ◌==◌, ◌||◌, ◌&&◌, nat_lt, true, List, [], ◌∷◌, map, sym, ap, subst, ◌∙◌, inl, inr, arith}
use Rattle.std.proofs.lemmas.Bool.Decides.{nat_tests}
use Rattle.cluster_types.specs.declared.cluster_key.ClusterKey.{ClusterKey}
use Rattle.cluster_types.specs.ClusterKeys as keys
use Rattle.wire_messages.specs.declared.message.Message.TheVariants as message
use Rattle.wire_messages.specs.Keys.{IsKeyField, IsKeyOrNone}
use Rattle.wire_messages.proofs.DecodingLaws.{read_back}
use Rattle.node_rules.specs.Facts.{Facts}
use Rattle.cluster_rules.specs.declared.event.Event.{Event}
use Rattle.cluster_rules.specs.declared.event.Event.TheVariants as event
use Rattle.cluster_rules.specs.DueEvents.{due_of}
use Rattle.cluster_rules.specs.Marks.{Mark, Begins}
use Rattle.cluster_rules.specs.Steps.{play}
use Rattle.cluster_rules.specs.World.{World}
use Rattle.key_laws.specs.Traced.{Traced, traced_after_all}
use Rattle.key_laws.proofs.DueSteps.{Begun, step_ok}
use Rattle.key_laws.proofs.Kept.{kept_all}
use Rattle.key_laws.proofs.Quiet.{writes}
use Rattle.key_laws.proofs.Runs.{world_of}
use Rattle.calm_laws.specs.Laws.{AreIds, HasLaws}
use Rattle.calm_laws.proofs.Along.{EventsKeep}
use Rattle.calm_laws.proofs.Proposals.{Votes}

-- each event keeps that
pub lawful_kept : (n : ℕ) (e : Event) → Begun e → (w : World) → HasLaws w → HasLaws (play n e w).world
lawful_kept n e b w h =
    let t : Traced = h.trace in
    let ms : List Mark = Begins e ∷ writes (due_of n t.world e) in
    subst (λ (u : World). HasLaws (play n e u).world) h.is
    (record { trace = traced_after_all t ms; is = world_of t ms; sound = (kept_all t ms (step_ok n t e b h.sound) h.sound).sound })

pub deliveries_keep : (n : ℕ) (is : List ℕ) → EventsKeep n HasLaws (map event.Deliver is)
deliveries_keep n [] = tt
deliveries_keep n (i ∷ is) = (lawful_kept n (event.Deliver i) tt, deliveries_keep n is)

pub ticks_keep : (n : ℕ) (ns : List ℕ) → AreIds ns → EventsKeep n HasLaws (map event.Tick ns)
ticks_keep n [] h = tt
ticks_keep n (a ∷ ns) h = (lawful_kept n (event.Tick a) h.0, ticks_keep n ns h.1)

-- ---- votes

none_above : (r p : ℕ) → (nat_lt r 0 || ((r == 0) && nat_lt p 0)) ≡ true → ⊥
none_above r p e = grind (arith, nat_tests)

pub votes_fit : (k : ClusterKey) → IsKeyField k → (f : Facts) → IsKeyOrNone f.agreement.promised → Votes k f
votes_fit k key f (inr field) = record { accepts = read_back (message.Accept k) key; refuses = λ e. read_back (message.Refuse k f.agreement.promised) (key, field) }
votes_fit k key f (inl none) = record {
  accepts = read_back (message.Accept k) key;
  refuses = λ e. absurd (none_above k.round k.principal (ap (λ (q : ClusterKey). keys.key_lt k q) (sym none) ∙ e));
}
