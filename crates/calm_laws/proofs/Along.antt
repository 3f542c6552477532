-- What holds of every world along the events of a round holds of each node's facts whenever something comes to it.
use Rattle.std.proofs.Common.{◌≡◌, ℕ, ◌==◌, Bool, true, false, List, [], ◌∷◌, ◌++◌, Option, Some, None, sym, ap, subst, ◌∙◌, length, if◌then◌else◌}
use Rattle.cluster_types.specs.Distinct.{without}
use Rattle.node_rules.specs.Facts.{Facts}
use Rattle.cluster_rules.specs.declared.event.Event.{Event}
use Rattle.cluster_rules.specs.declared.event.Event.TheVariants as event
use Rattle.journal_readings.specs.Messages.{Posting}
use Rattle.cluster_rules.specs.Network.{flying_at, posting_at}
use Rattle.cluster_rules.specs.Steps.{play}
use Rattle.cluster_rules.specs.World.{World}
use Rattle.calm_laws.specs.Acts.{Input, served}
use Rattle.calm_laws.specs.Letters.{input_of, input, given, given_if, ins, outs}
use Rattle.calm_laws.specs.Flows.{Clear, Named}
use Rattle.calm_laws.proofs.Inputs.{Along}
use Rattle.calm_laws.proofs.Lists.{posting_there}
use Rattle.calm_laws.proofs.Ran.{Ready, Alike, named_on, ups_on, ins_alike, ready_on}
use Rattle.calm_laws.proofs.Stepped.{Stepped, step_tick, step_deliver}

-- what each event of a round keeps
abbrev pub EventsKeep : ℕ → (World → Type 0) → List Event → Type 0
EventsKeep n S [] = Unit {0}
EventsKeep n S (e ∷ es) = ((w : World) → S w → S (play n e w).world) × EventsKeep n S es

along_if : (n c : ℕ) (P : Facts → Type 0) (f : Facts) (i : Input) (b : Bool) (js : List Input) → P f → Along n c P (served n c f (given_if i b)) js → Along n c P f (given_if i b ++ js)
along_if n c P f i true js p a = (p, a)
along_if n c P f i false js p a = a

along_given : (n c : ℕ) (P : Facts → Type 0) (f : Facts) (m : ℕ) (o : Option (ℕ × Input)) (js : List Input) → P f → Along n c P (served n c f (given m o)) js → Along n c P f (given m o ++ js)
along_given n c P f m None js p a = a
along_given n c P f m (Some x) js p a = along_if n c P f x.1 (x.0 == m) js p a

along_on : (n : ℕ) (S : World → Type 0) (m : ℕ) (P : Facts → Type 0) → ((w : World) → S w → P (w.facts m)) → (w u : World) (e : Event) (es : List Event) (left : List ℕ)
    → Stepped n w u (input w e) left → Ready (length w.network.sent) left es → S w → Along n (u.clocks m) P (u.facts m) (ins u es m) → Along n (w.clocks m) P (w.facts m) (ins w (e ∷ es) m)
along_on n S m P gives w u e es left st ready s a =
    let alike : Alike u w = record { groups = st.groups; ups = ups_on n w u (λ x. given x (input w e)) st.facts } in
    along_given n (w.clocks m) P (w.facts m) m (input w e) (ins w es m) (gives w s)
    (subst (λ (is : List Input). Along n (w.clocks m) P (served n (w.clocks m) (w.facts m) (given m (input w e))) is) (ins_alike u w (outs n w (input w e)) alike st.sent es left ready m)
    (subst (λ (f : Facts). Along n (w.clocks m) P f (ins u es m)) (st.facts m)
    (subst (λ (c : ℕ → ℕ). Along n (c m) P (u.facts m) (ins u es m)) st.clocks a)))

-- what holds of every world holds of the node's facts whenever something comes to it
pub along : (n : ℕ) (S : World → Type 0) (m : ℕ) (P : Facts → Type 0) → ((w : World) → S w → P (w.facts m)) → (es : List Event) (w : World) → EventsKeep n S es → Named w → Ready (length w.network.sent) w.network.flying es → Clear n w es → S w
    → Along n (w.clocks m) P (w.facts m) (ins w es m)
along n S m P gives [] w keep named ready clear s = gives w s
along n S m P gives (event.Deliver i ∷ es) w keep named ready clear s =
    let u : World = (play n (event.Deliver i) w).world in
    let there : (p : Posting) × (posting_at w.network i ≡ Some p) = posting_there w.network i ready.1 ready.2 in
    let flies : flying_at w.network i ≡ Some there.0 = ap (λ (b : Bool). (if b then posting_at w.network i else None)) ready.0 ∙ there.1 in
    let st0 : Stepped n w u (input_of w (Some there.0)) (without w.network.flying i) = step_deliver n w i there.0 named flies there.1 clear.0 in
    let st : Stepped n w u (input w (event.Deliver i)) (without w.network.flying i) = subst (λ (o : Option Posting). Stepped n w u (input_of w o) (without w.network.flying i)) (sym there.1) st0 in
    along_on n S m P gives w u (event.Deliver i) es (without w.network.flying i) st ready.3 s
    (along n S m P gives es u keep.1 (named_on n w u (λ x. given x (input w (event.Deliver i))) st.facts named) (ready_on n w u (event.Deliver i) es (without w.network.flying i) st ready.3) clear.1 (keep.0 w s))
along n S m P gives (event.Tick a ∷ es) w keep named ready clear s =
    let u : World = (play n (event.Tick a) w).world in
    let st : Stepped n w u (input w (event.Tick a)) w.network.flying = step_tick n w a named clear.0 in
    along_on n S m P gives w u (event.Tick a) es w.network.flying st ready s
    (along n S m P gives es u keep.1 (named_on n w u (λ x. given x (input w (event.Tick a))) st.facts named) (ready_on n w u (event.Tick a) es w.network.flying st ready) clear.1 (keep.0 w s))
along n S m P gives (_ ∷ es) w keep named ready clear s = absurd ready
