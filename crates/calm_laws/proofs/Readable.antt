-- What nodes send in a round that may be taken is read as it was sent.
use Rattle.std.proofs.Common.{◌≡◌, ℕ, ◌==◌, ◌||◌, ◌&&◌, not, Bool, true, false, List, [], ◌∷◌, ◌++◌, map, length, Option, Some, None, refl, sym, ap, subst, ◌∙◌, arith, if◌then◌else◌}
use Rattle.std.specs.List.{cons_option}
use Rattle.cluster_types.specs.Distinct.{without}
use Rattle.cluster_types.specs.Partitions.{partition_count}
use Rattle.wire_messages.specs.declared.message.Message.{Message}
use Rattle.wire_messages.specs.Decoding.{message_of}
use Rattle.node_rules.specs.Facts.{Facts}
use Rattle.journal_readings.specs.Lines.{has_node}
use Rattle.journal_readings.specs.Messages.{Posting}
use Rattle.journal_readings.proofs.AlongLaws.{some_same}
use Rattle.cluster_rules.specs.declared.event.Event.{Event}
use Rattle.cluster_rules.specs.declared.event.Event.TheVariants as event
use Rattle.cluster_rules.specs.DueEvents.{is_blocked}
use Rattle.cluster_rules.specs.Network.{are_apart, flying_at, posting_at}
use Rattle.cluster_rules.specs.NodeSteps.{AreRead}
use Rattle.cluster_rules.specs.Steps.{Played, flow, flows, play, play_all, round}
use Rattle.cluster_rules.specs.World.{World, is_up, up_nodes}
use Rattle.cluster_rules.proofs.KeptFacts.{num_same}
use Rattle.cluster_rules.proofs.MarkLaws as marks
use Rattle.run_laws.specs.Worlds.{SendsAreRead}
use Rattle.node_rules.specs.Messages.{client}
use Rattle.calm_laws.specs.Acts.{Input, Gets, as_read, effects, read_to, served}
use Rattle.calm_laws.specs.Flows.{Clear, InOrder, Named, Once, inbox}
use Rattle.calm_laws.specs.Handing.{Legibly, LegibleRound}
use Rattle.calm_laws.specs.Letters.{arriving_input, given, given_if, input, input_of, ins, outs, unblocked}
use Rattle.calm_laws.specs.Onward.{MayTake}
use Rattle.calm_laws.proofs.Flow.{ready_flow}
use Rattle.calm_laws.proofs.Fronts.{read_there}
use Rattle.calm_laws.proofs.Lists.{posting_there}
use Rattle.calm_laws.proofs.Onward.{may_front, may_here, may_on}
use Rattle.calm_laws.proofs.Ran.{Alike, Ready, ins_alike, named_on, ready_on, ups_on}
use Rattle.calm_laws.proofs.Rounds.{NoFull, clear_of, full_behind, full_front, rounded}
use Rattle.calm_laws.proofs.Stepped.{Stepped, step_deliver}
use Rattle.calm_laws.proofs.Walks.{named_of, order_of}

-- ---- one act

pub as_read_is : (ms : List (ℕ × Message)) → AreRead ms → as_read ms ≡ ms
unfolding as_read
as_read_is [] h = refl
as_read_is (m ∷ ms) h =
    ap (λ (o : Option Message). cons_option (read_to m.0 o) (as_read ms)) h.0 ∙ ap (λ (xs : List (ℕ × Message)). m ∷ xs) (as_read_is ms h.1)

-- what is sent at it is read as it was sent
abbrev ReadAct : ℕ → Facts → Input → Type 0
ReadAct c f i = as_read (effects partition_count c f i).sends ≡ (effects partition_count c f i).sends

legible_if : (c : ℕ) (f : Facts) (i : Input) (b : Bool) (js : List Input) → (b ≡ true → ReadAct c f i) → Legibly partition_count c (served partition_count c f (given_if i b)) js → Legibly partition_count c f (given_if i b ++ js)
legible_if c f i true js r h = (r refl, h)
legible_if c f i false js r h = h

legible_given : (c : ℕ) (f : Facts) (m : ℕ) (o : Option (ℕ × Input)) (js : List Input) → ((x : ℕ × Input) → o ≡ Some x → (x.0 == m) ≡ true → ReadAct c f x.1)
    → Legibly partition_count c (served partition_count c f (given m o)) js → Legibly partition_count c f (given m o ++ js)
legible_given c f m None js r h = h
legible_given c f m (Some x) js r h = legible_if c f x.1 (x.0 == m) js (r x refl) h

-- what a message that was sent makes a node send
posting_read : (w : World) → SendsAreRead w → (i : ℕ) (p : Posting) → posting_at w.network i ≡ Some p → (m : ℕ) (x : ℕ × Input) → input_of w (Some p) ≡ Some x → (x.0 == m) ≡ true → ReadAct (w.clocks m) (w.facts m) x.1
posting_read w read i p stands m x = go (is_blocked w p) refl
  where
    up_there : (a b c : Bool) → (a || (not b && not c)) ≡ false → b ≡ false → c ≡ true
    up_there a b c h i = grind arith

    here : (y : Message) → message_of p.bytes ≡ Some y → is_up w p.to ≡ true → (x : ℕ × Input) → (p.to, Gets p.from y) ≡ x → (x.0 == m) ≡ true → ReadAct (w.clocks m) (w.facts m) x.1
    here y is up x e = subst (λ (z : ℕ × Input). (z.0 == m) ≡ true → ReadAct (w.clocks m) (w.facts m) z.1) e
        (λ s. subst (λ (a : ℕ). ReadAct (w.clocks a) (w.facts a) (Gets p.from y)) (num_same p.to m s) (as_read_is _ (read.message i p y stands is up)))

    opens : (o : Option Message) (c : Bool) → message_of p.bytes ≡ o → (p.to == client) ≡ c → is_blocked w p ≡ false → arriving_input p o c ≡ Some x → (x.0 == m) ≡ true → ReadAct (w.clocks m) (w.facts m) x.1
    opens None c is at free e = cc
    opens (Some y) true is at free e = cc
    opens (Some y) false is at free e = here y is (up_there (are_apart w.network p.from p.to) (p.to == client) (is_up w p.to) free at) x (some_same e)

    go : (b : Bool) → is_blocked w p ≡ b → unblocked p b ≡ Some x → (x.0 == m) ≡ true → ReadAct (w.clocks m) (w.facts m) x.1
    go true free e = cc
    go false free e = opens (message_of p.bytes) (p.to == client) refl refl free e

-- ---- a flow

-- what is sent at each of the deliveries is read as it was sent
legible_flow : (is : List ℕ) (w : World) (m : ℕ) → MayTake w (play_all partition_count (map event.Deliver is) w).steps → Named w → Ready (length w.network.sent) w.network.flying (map event.Deliver is) → Clear partition_count w (map event.Deliver is)
    → Legibly partition_count (w.clocks m) (w.facts m) (ins w (map event.Deliver is) m)
legible_flow [] w m may named ready clear = tt
legible_flow (i ∷ is) w m may named ready clear =
    let es : List Event = map event.Deliver is in
    let u : World = (play partition_count (event.Deliver i) w).world in
    let there : (p : Posting) × (posting_at w.network i ≡ Some p) = posting_there w.network i ready.1 ready.2 in
    let flies : flying_at w.network i ≡ Some there.0 = ap (λ (b : Bool). (if b then posting_at w.network i else None)) ready.0 ∙ there.1 in
    let st0 : Stepped partition_count w u (input_of w (Some there.0)) (without w.network.flying i) = step_deliver partition_count w i there.0 named flies there.1 clear.0 in
    let st : Stepped partition_count w u (input w (event.Deliver i)) (without w.network.flying i) = subst (λ (o : Option Posting). Stepped partition_count w u (input_of w o) (without w.network.flying i)) (sym there.1) st0 in
    let alike : Alike u w = record { groups = st.groups; ups = ups_on partition_count w u (λ x. given x (input w (event.Deliver i))) st.facts } in
    let next : MayTake u (play_all partition_count es u).steps = may_on w (play partition_count (event.Deliver i) w) (play_all partition_count es u).steps (marks.one partition_count (event.Deliver i) w) may in
    legible_given (w.clocks m) (w.facts m) m (input w (event.Deliver i)) (ins w es m)
    (λ x e s. posting_read w (read_there (may_here w _ may)) i there.0 there.1 m x (ap (input_of w) (sym there.1) ∙ e) s)
    (subst (λ (js : List Input). Legibly partition_count (w.clocks m) (served partition_count (w.clocks m) (w.facts m) (given m (input w (event.Deliver i)))) js) (ins_alike u w (outs partition_count w (input w (event.Deliver i))) alike st.sent es (without w.network.flying i) ready.3 m)
    (subst (λ (f : Facts). Legibly partition_count (w.clocks m) f (ins u es m)) (st.facts m)
    (subst (λ (c : ℕ → ℕ). Legibly partition_count (c m) (u.facts m) (ins u es m)) st.clocks
    (legible_flow is u m next (named_on partition_count w u (λ x. given x (input w (event.Deliver i))) st.facts named) (ready_on partition_count w u (event.Deliver i) es (without w.network.flying i) st ready.3) clear.1))))

whole_flow : (w : World) (m : ℕ) → MayTake w (flow partition_count w).steps → NoFull (flow partition_count w).steps → Legibly partition_count (w.clocks m) (w.facts m) (inbox w m)
whole_flow w m may full =
    let order : InOrder w = order_of (may_here w _ may) in
    legible_flow w.network.flying w m may (named_of (may_here w _ may)) (ready_flow w.network.flying (length w.network.sent) w.network.flying order (λ j e. e)) (clear_of partition_count (map event.Deliver w.network.flying) w full)

-- ---- a round

pub legible_round : (gs : List ℕ) (w : World) → MayTake w (round partition_count w).steps → Once (up_nodes w) → NoFull (round partition_count w).steps → ((m : ℕ) → has_node gs m ≡ true → is_up w m ≡ true) → LegibleRound partition_count gs w (round partition_count w).world
unfolding rounded
legible_round gs w may once h up =
    let ticks : Played = play_all partition_count (map event.Tick (up_nodes w)) w in
    let one : Played = flow partition_count ticks.world in
    let two : Played = flow partition_count one.world in
    let three : Played = flow partition_count two.world in
    let four : Played = flow partition_count three.world in
    let may1 : MayTake ticks.world (flows partition_count 4 ticks.world).steps = may_on w ticks _ (marks.all partition_count (map event.Tick (up_nodes w)) w) may in
    let may2 : MayTake one.world (flows partition_count 3 one.world).steps = may_on ticks.world one _ (marks.flow_follows partition_count ticks.world) may1 in
    let may3 : MayTake two.world (flows partition_count 2 two.world).steps = may_on one.world two _ (marks.flow_follows partition_count one.world) may2 in
    let may4 : MayTake three.world (flows partition_count 1 three.world).steps = may_on two.world three _ (marks.flow_follows partition_count two.world) may3 in
    let h1 : NoFull (flows partition_count 4 ticks.world).steps = full_behind ticks.steps (flows partition_count 4 ticks.world).steps h in
    let h2 : NoFull (flows partition_count 3 one.world).steps = full_behind one.steps (flows partition_count 3 one.world).steps h1 in
    let h3 : NoFull (flows partition_count 2 two.world).steps = full_behind two.steps (flows partition_count 2 two.world).steps h2 in
    let h4 : NoFull (flows partition_count 1 three.world).steps = full_behind three.steps (flows partition_count 1 three.world).steps h3 in
    let start : MayTake w [] = may_here w _ may in
    record {
      round = rounded partition_count w (named_of start) (order_of start) once h;
      legible = record {
        ticks = λ m e. as_read_is _ ((read_there start).tick m (up m e));
        first = λ m e. whole_flow ticks.world m (may_front ticks.world one.steps (flows partition_count 3 one.world).steps may1) (full_front one.steps (flows partition_count 3 one.world).steps h1);
        second = λ m e. whole_flow one.world m (may_front one.world two.steps (flows partition_count 2 two.world).steps may2) (full_front two.steps (flows partition_count 2 two.world).steps h2);
        third = λ m e. whole_flow two.world m (may_front two.world three.steps (flows partition_count 1 three.world).steps may3) (full_front three.steps (flows partition_count 1 three.world).steps h3);
        fourth = λ m e. whole_flow three.world m (may_front three.world four.steps (flows partition_count 0 four.world).steps may4) (full_front four.steps (flows partition_count 0 four.world).steps h4);
      };
    }
