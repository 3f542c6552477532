-- A node after a step that it planned.
use Rattle.std.proofs.Common.{◌≡◌, ◌≢◌, ◌==◌, ℕ, Bool, true, false, List, [], ◌∷◌, Option, Some, None, All, IsSome, Contains, if◌then◌else◌, refl, sym, ap, ap₂, subst, ◌∙◌}
use Rattle.std.specs.FinMap as finite
use Rattle.std.specs.Global.{Box}
use Rattle.std.specs.Prelude.{option_map}
use Rattle.std.specs.Option.{ForSome, IfSome}
use Rattle.std.proofs.lemmas.List.Elements.{All-nil, All-cons, All-head, All-tail}
use Rattle.conflict_order.specs.declared.version.Version.{Version}
use Rattle.cluster_types.specs.declared.member.Role.{Role}
use Rattle.wire_messages.specs.declared.message.Batch.{Batch}
use Rattle.record_store.specs.Store as held
use Rattle.heartbeat.specs.Adjacent.{Adjacent}
use Rattle.clustering.specs.Agreeing.{Agreeing, with_agreement}
use Rattle.node_rules.specs.declared.beat.Beat.{Beat}
use Rattle.node_rules.specs.Agreement.{agreement_of, seeing}
use Rattle.node_rules.specs.Batches.{Target, Targets, sending}
use Rattle.node_rules.specs.ByParts.{sending_all}
use Rattle.node_rules.specs.Copies.{Content, Store}
use Rattle.node_rules.specs.Exchange.{Exchange, exchange_key, outside}
use Rattle.node_rules.specs.Facts.{Facts, fresh, view_key}
use Rattle.node_rules.specs.Hearing.{beat_heard, deaf, heard_ids, ticked, without_quiet}
use Rattle.node_rules.specs.Steps.{Planning, unplanned}
use Rattle.node_rules.specs.Tables.{changed_if}
use Rattle.node_view.specs.declared.here.Settling.{Settling}
use Rattle.node_view.specs.declared.view.View.{View}
use Rattle.node_view.specs.declared.view_step.Counted.{Counted}
use Rattle.node_view.specs.declared.view_step.Outcome.{Outcome}
use Rattle.node_view.specs.declared.view_step.Outcome.TheVariants as outcome
use Rattle.node_view.specs.declared.view_step.ViewStep.{ViewStep}
use Rattle.node_view.specs.declared.view_step.ViewStep.TheVariants as step
use Rattle.node_view.specs.Plans as view
use Rattle.node_view.specs.Plans.{settled_by, with_count, with_newer, with_outcome, with_outcome_if, with_stamps}
use Rattle.node_view.specs.Fits.{AreNext, AreSettlings, FitsStep, IsReady, IsReadyToSend, IsReadyToSettle}
use Rattle.node_view.specs.Rooms.{HasRoomIn}
use Rattle.node_view.specs.Views.{IsNodeInView, Viewed, IsQuiet, facts_in, store_of, with_view}
use Rattle.node_core.specs.declared.node.Node.TheInside.{Inside}
use Rattle.node_steps.specs.declared.planned.Planned.{Planned}
use Rattle.node_steps.specs.declared.planned.Planned.TheVariants as planned
use Rattle.node_steps.specs.Fits.{FitsAgreed, FitsTick, HasStepped, IsNewView, ticked_facts}
use Rattle.node_steps.specs.declared.planned.Ticked.{Ticked}
use Rattle.node_core.specs.Nodes.{PartsAgree, IsPlannedFrom, node_facts, planning_of}
use Rattle.node_steps.specs.Plans.{agreed, next_of, taken, with_sent}
use Rattle.node_steps.specs.Ranges.{HasRanges}
use Rattle.node_core.proofs.HeardLaws.{heard_put, heard_still}
use Rattle.node_core.proofs.NodeLaws.{IsNode, given_up, none_planned, unplanned_view}
use Rattle.node_steps.proofs.SeenLaws.{node_is_seen, node_seen, node_unseen, same_store, step_fits_seen, view_unseen, with_unseen}
use Rattle.node_steps.proofs.RangeLaws.{keys_of, ranges_agreed, stopped_ranges}
use Rattle.node_steps.proofs.SettledLaws.{kept_all, settled_keeps, settled_batches, settled_view}

pub nothing_planned : (n : Inside) → PartsAgree n → n.planned ≡ None → IsNode n
nothing_planned n h none = (h, λ p e. cc, λ p e. cc)

-- ---- a stop

abbrev pub stopped_node : Inside → Inside
stopped_node n = record n {
  up = false;
  hearing = record n.hearing { hearing = deaf };
  agree = record { me = n.me; agreement = agreement_of n.agree.agreement.promised n.agree.agreement.last };
  view = None;
}

pub that_stopped : (n : Inside) → PartsAgree n → n.planned ≡ None → IsNode (stopped_node n)
that_stopped n h none =
    nothing_planned (stopped_node n)
    (record {
      peers = h.peers;
      factor = h.factor;
      hearing = h.hearing;
      heard = All-nil (λ m. Contains n.peers m);
      role = h.role;
      agree = refl;
      by = h.by;
      view = λ v e. cc;
      in_one = λ v e. cc;
      ranges = stopped_ranges (node_facts n) h.ranges;
    }) none

-- ---- a heartbeat

abbrev pub heard_node : Inside → ℕ → Beat → Inside
heard_node n from beat = record n {
  hearing = record n.hearing { hearing = beat_heard n.hearing.hearing from beat };
  agree = with_agreement n.agree (seeing n.agree.agreement beat.promised);
}

pub that_heard : (n : Inside) (from : ℕ) (beat : Beat) → PartsAgree n → n.planned ≡ None → Contains n.peers from → HasRanges (taken (node_facts n) (planned.Heard from beat))
    → IsNode (heard_node n from beat)
that_heard n from beat h none peer ranges =
    nothing_planned (heard_node n from beat)
    (record {
      peers = h.peers;
      factor = h.factor;
      hearing = h.hearing;
      heard = heard_put (λ m. Contains n.peers m) from (record { age = 0; beat = beat }) n.hearing.hearing.heard peer h.heard;
      role = h.role;
      agree = h.agree;
      by = h.by;
      view = λ v e. node_unseen (node_facts n) (taken (node_facts n) (planned.Heard from beat)) v.value n.store (h.view v e);
      in_one = h.in_one;
      ranges = ranges;
    }) none

-- ---- steps of the view

-- what no step of a view changes
abbrev pub rest_of : Facts → Facts
rest_of f = record (fresh f.me f.role f.peers f.factor f.store.by) {
  peers = f.peers;
  up = f.up;
  hearing = f.hearing;
  agreement = f.agreement;
  exchange = record outside { view = f.exchange.view };
}

newer_rest : (f : Facts) (digest : List ℕ) (o : Option Version) → rest_of (with_newer f digest o) ≡ rest_of f
newer_rest f digest None = refl
newer_rest f digest (Some v) = refl

count_rest : (f : Facts) (p : ℕ) (o : Option Counted) → rest_of (with_count f p o) ≡ rest_of f
count_rest f p None = refl
count_rest f p (Some c) = refl

if_rest : (b : Bool) (f g h : Facts) → rest_of f ≡ rest_of h → rest_of g ≡ rest_of h → rest_of (if b then f else g) ≡ rest_of h
if_rest true f g h a b = a
if_rest false f g h a b = b

outcome_rest : (f : Facts) (number : ℕ) (digest : List ℕ) (o : Outcome) → rest_of (with_outcome f number digest o) ≡ rest_of f
outcome_rest f number digest outcome.Read = refl
outcome_rest f number digest (outcome.Write w) = if_rest _ _ _ f refl refl

maybe_rest : (f : Facts) (number : ℕ) (digest : List ℕ) (o : Option Outcome) → rest_of (with_outcome_if f number digest o) ≡ rest_of f
maybe_rest f number digest None = refl
maybe_rest f number digest (Some o) = outcome_rest f number digest o

pub step_rest : (f : Facts) (p : ViewStep) → rest_of (view.view_taken f p) ≡ rest_of f
step_rest f (step.Row from row) = refl
step_rest f (step.LastRow l) = refl
step_rest f (step.Merged m) = refl
step_rest f (step.BatchAcked from number) = refl
step_rest f (step.Progressed p) = refl
step_rest f (step.Replicated r) = newer_rest _ r.digest r.newer ∙ count_rest f _ r.counted
step_rest f (step.WriteAcked from number) = refl
step_rest f (step.Done number) = refl
step_rest f (step.Answered from number v) = refl
step_rest f (step.Resolved from number v o) = outcome_rest _ number _ o
step_rest f (step.Opened digest w best asked o) = maybe_rest _ _ digest o

-- the facts with that view and that store
abbrev joined : Facts → Viewed → held.StoreWithRoom → Facts
joined f v s = with_view (record f { store = store_of s }) (Some v)

joined_is : (f : Facts) (v : Viewed) (s : held.StoreWithRoom) → IsNodeInView f v s
    → f ≡ joined f v s
joined_is f v s h =
    sym h.view.viewed.view
    ∙ ap (λ (x : Store). with_view (record f { store = x }) (Some v)) (same_store f.store s.versions s.stamps s.by h.stored.content h.stored.stamps h.stored.by)

-- these are a view and a store of the facts afterwards, and what no step changes is as before
pub record IsAfter (f after : Facts) (v : Viewed) (s : held.StoreWithRoom) : Type 0 where
  pub node : IsNodeInView after v s
  pub rest : rest_of after ≡ rest_of f

pub after_is : (n : Inside) (after : Facts) (v : Box View) (s : held.StoreWithRoom) → IsAfter (node_facts n) after v.value s → node_facts (record n { view = Some v; store = s }) ≡ after
after_is n after v s h = ap (λ (r : Facts). joined r v.value s) (sym h.rest) ∙ sym (joined_is after v.value s h.node)

pub view_in_one : (n : Inside) (v : Box View) → PartsAgree n → n.view ≡ Some v → IsSome (node_facts n).exchange.view
view_in_one n v h e = subst (λ (o : Option (Box View)). IsSome (node_facts (record n { view = o })).exchange.view) (sym e) (h.in_one v e)

pub that_took : (n : Inside) (after : Facts) (v : Box View) (s : held.StoreWithRoom) → PartsAgree n → n.planned ≡ None → IsSome (node_facts n).exchange.view
    → IsAfter (node_facts n) after v.value s → HasRanges after → IsNode (record n { view = Some v; store = s })
that_took n after v s h none in_one a ranges =
    let m : Inside = record n { view = Some v; store = s } in
    let same : node_facts m ≡ after = after_is n after v s a in
    let seen : v.value.exchange.view ≡ (node_facts n).exchange.view = ap (λ (g : Facts). g.exchange.view) a.node.view.viewed.view ∙ ap (λ (g : Facts). g.exchange.view) a.rest in
    nothing_planned m
    (record {
      peers = h.peers;
      factor = h.factor;
      hearing = h.hearing;
      heard = h.heard;
      role = h.role;
      agree = h.agree;
      by = sym a.node.stored.by ∙ ap (λ (g : Facts). g.store.by) a.rest ∙ h.by;
      view = λ w e. let is : v ≡ w = cc in subst (λ (x : Box View). IsNodeInView (node_facts m) x.value s) is (subst (λ (g : Facts). IsNodeInView g v.value s) (sym same) a.node);
      in_one = λ w e. let is : v ≡ w = cc in subst (λ (x : Box View). IsSome x.value.exchange.view) is (subst (λ o. IsSome o) (sym seen) in_one);
      ranges = subst HasRanges (sym same) ranges;
    }) none

-- ---- the agreement, and a view that is entered

abbrev pub agreed_node : Inside → Agreeing → Inside
agreed_node n agree = record n { agree = agree }

pub that_agreed : (n : Inside) (agree : Agreeing) → PartsAgree n → n.planned ≡ None → agree.me ≡ n.me → HasRanges (agreed (node_facts n) agree.agreement None) → IsNode (agreed_node n agree)
that_agreed n agree h none me ranges =
    nothing_planned (agreed_node n agree)
    (record {
      peers = h.peers;
      factor = h.factor;
      hearing = h.hearing;
      heard = h.heard;
      role = h.role;
      agree = me;
      by = h.by;
      view = λ v e. node_unseen (node_facts n) (agreed (node_facts n) agree.agreement None) v.value n.store (h.view v e);
      in_one = h.in_one;
      ranges = ranges;
    }) none

-- the facts as that view is entered, before copies are stamped
abbrev pub entering_facts : Facts → Agreeing → Viewed → Facts
entering_facts f agree v = with_view (record f { agreement = agree.agreement; hearing = without_quiet f.hearing }) (Some v)

abbrev pub entered_node : Inside → Agreeing → Box View → held.StoreWithRoom → Inside
entered_node n agree v s = record n { hearing = record n.hearing { hearing = without_quiet n.hearing.hearing }; agree = agree; store = s; view = Some v }

pub node_entering : (n : Inside) (agree : Agreeing) (v : Viewed) → IsNewView (node_facts n) v → IsNodeInView (entering_facts (node_facts n) agree v) v n.store
node_entering n agree v h = record {
  view = view_unseen (with_view (node_facts n) (Some v)) (entering_facts (node_facts n) agree v) v h.view;
  stored = record { content = refl; stamps = refl; by = refl };
}

stamped_joined : (g : Facts) (b : Bool) (v : Viewed) (s : held.StoreWithRoom) → joined (with_stamps g b) v s ≡ joined g v s
stamped_joined g true v s = refl
stamped_joined g false v s = refl

stamped_by : (g : Facts) (b : Bool) → (with_stamps g b).store.by ≡ g.store.by
stamped_by g true = refl
stamped_by g false = refl

pub entered_is : (n : Inside) (agree : Agreeing) (v : Box View) (s : held.StoreWithRoom) → IsNodeInView (agreed (node_facts n) agree.agreement (Some v.value)) v.value s
    → node_facts (entered_node n agree v s) ≡ agreed (node_facts n) agree.agreement (Some v.value)
entered_is n agree v s h =
    sym (stamped_joined (entering_facts (node_facts n) agree v.value) v.value.exchange.exchanged v.value s)
    ∙ sym (joined_is (agreed (node_facts n) agree.agreement (Some v.value)) v.value s h)

pub that_entered : (n : Inside) (agree : Agreeing) (v : Box View) (s : held.StoreWithRoom) → PartsAgree n → n.planned ≡ None → agree.me ≡ n.me → IsSome v.value.exchange.view
    → IsNodeInView (agreed (node_facts n) agree.agreement (Some v.value)) v.value s → HasRanges (agreed (node_facts n) agree.agreement (Some v.value)) → IsNode (entered_node n agree v s)
that_entered n agree v s h none me in_one node ranges =
    let m : Inside = entered_node n agree v s in
    let after : Facts = agreed (node_facts n) agree.agreement (Some v.value) in
    let same : node_facts m ≡ after = entered_is n agree v s node in
    nothing_planned m
    (record {
      peers = h.peers;
      factor = h.factor;
      hearing = h.hearing;
      heard = h.heard;
      role = h.role;
      agree = me;
      by = sym node.stored.by ∙ stamped_by (entering_facts (node_facts n) agree v.value) v.value.exchange.exchanged ∙ h.by;
      view = λ w e. let is : v ≡ w = cc in subst (λ (x : Box View). IsNodeInView (node_facts m) x.value s) is (subst (λ (g : Facts). IsNodeInView g v.value s) (sym same) node);
      in_one = λ w e. let is : v ≡ w = cc in subst (λ (x : Box View). IsSome x.value.exchange.view) is in_one;
      ranges = subst HasRanges (sym same) ranges;
    }) none

-- ---- a tick

abbrev pub aged_node : Inside → Adjacent → Inside
aged_node n hearing = record n { hearing = hearing }

pub that_aged : (n : Inside) (hearing : Adjacent) → PartsAgree n → n.planned ≡ None → hearing.me ≡ n.me → hearing.role ≡ n.role → All (λ m. Contains n.peers m) (heard_ids hearing.hearing.heard)
    → IsNode (aged_node n hearing)
that_aged n hearing h none me role heard =
    nothing_planned (aged_node n hearing)
    (record {
      peers = h.peers;
      factor = h.factor;
      hearing = me;
      heard = heard;
      role = role;
      agree = h.agree;
      by = h.by;
      view = λ v e. node_unseen (node_facts n) (record (node_facts n) { hearing = hearing.hearing }) v.value n.store (h.view v e);
      in_one = h.in_one;
      ranges = ranges_agreed (node_facts n) hearing.hearing n.agree.agreement h.ranges (keys_of (node_facts n) h.ranges);
    }) none

-- whom the node hears doesn't bear on the view that is entered
pub new_view_aged : (f : Facts) (hearing : Adjacent) (v : Viewed) → IsNewView f v → IsNewView (record f { hearing = hearing.hearing }) v
new_view_aged f hearing v h = record { view = view_unseen (with_view f (Some v)) (record f { hearing = hearing.hearing }) v h.view; in_one = h.in_one }

settled_rest : (f : Facts) (ss : List Settling) → rest_of (settled_by f ss) ≡ rest_of f
settled_rest f ss = settled_keeps rest_of f ss (λ g s. kept_all rest_of g s (λ x. refl) (λ x. refl) (λ x. refl) (λ x. refl))

settlings_seen : (f g : Facts) (ss : List Settling) → AreSettlings (with_unseen f g) ss → AreSettlings g ss
settlings_seen f g ss h = record { exchanged = h.exchanged; each = h.each; rise = h.rise }

-- what is settled is what is due as the view and the store see it
pub settlings_in : (f : Facts) (v : Viewed) (s : held.StoreWithRoom) (ss : List Settling) → IsNodeInView f v s → AreSettlings f ss → AreSettlings (facts_in v s) ss
settlings_in f v s ss node h = settlings_seen f (facts_in v s) ss (subst (λ (g : Facts). AreSettlings g ss) (node_is_seen f v s node) h)

-- the batches may go out after the partitions were settled
pub next_settled : (f : Facts) (v : Viewed) (s : held.StoreWithRoom) (ss : List Settling) (bs : List (ℕ × Batch)) → IsNodeInView (settled_by f ss) v s
    → AreNext f.exchange.exchanged (view_key f) f.batches bs → IsReadyToSend v bs
next_settled f v s ss bs node h =
    let x : v.exchange ≡ f.exchange = ap (λ (g : Facts). g.exchange) node.view.viewed.view ∙ settled_view f ss in
    let ts : v.batches ≡ f.batches = ap (λ (g : Facts). g.batches) node.view.viewed.view ∙ settled_batches f ss in
    subst (λ (y : Exchange). AreNext y.exchanged (exchange_key y.view) v.batches bs) (sym x) (subst (λ (us : Targets). AreNext f.exchange.exchanged (view_key f) us bs) (sym ts) h)

abbrev AreHeldAt : Content → Target → Type 0
AreHeldAt c t = All (λ d. IsSome (finite.get c d)) t.pending

held_if : (c : Content) (b : Batch) (t : Target) (x : Bool) → AreHeldAt c t → AreHeldAt c (changed_if (λ (u : Target). record u { out = Some b; batches = b.number }) t x)
held_if c b t true h = h
held_if c b t false h = h

held_sending : (c : Content) (n : ℕ) (b : Batch) (ts : Targets) → All (AreHeldAt c) ts → All (AreHeldAt c) (sending ts n b)
held_sending c n b [] h = h
held_sending c n b (t ∷ ts) h =
    All-cons (AreHeldAt c) _ (sending ts n b) (held_if c b t (t.node == n) (All-head (AreHeldAt c) t ts h)) (held_sending c n b ts (All-tail (AreHeldAt c) t ts h))

held_all : (c : Content) (bs : List (ℕ × Batch)) (ts : Targets) → All (AreHeldAt c) ts → All (AreHeldAt c) (sending_all ts bs)
held_all c [] ts h = h
held_all c (b ∷ bs) ts h = held_all c bs (sending ts b.0 b.1) (held_sending c b.0 b.1 ts h)

abbrev pub sent_view : Viewed → List (ℕ × Batch) → Viewed
sent_view v bs = record v { batches = sending_all v.batches bs }

quiet_sent : (f : Facts) (ts : Targets) (p : ℕ) → IsQuiet f p → IsQuiet (record f { batches = ts }) p
quiet_sent f ts p (IsQuiet.asleep a) = IsQuiet.asleep (record { unsettled = a.unsettled; kept = a.kept; quiet = a.quiet })
quiet_sent f ts p (IsQuiet.over o) = IsQuiet.over (record { settled = o.settled; kept = o.kept; learnt = o.learnt; dropped = o.dropped })

with_targets : (f : Facts) (v : Viewed) (s : held.StoreWithRoom) (ts : Targets) → All (AreHeldAt f.store.content) ts → IsNodeInView f v s → IsNodeInView (record f { batches = ts }) (record v { batches = ts }) s
with_targets f v s ts held h = record {
  view = record {
    viewed = record { me = h.view.viewed.me; factor = h.view.viewed.factor; view = ap (λ (g : Facts). record g { batches = ts }) h.view.viewed.view };
    policy = h.view.policy;
    pending = record { held = held };
    watch = record {
      unsettled = h.view.watch.unsettled;
      live = record { quiet = λ p within done off. quiet_sent f ts p (h.view.watch.live.quiet p within done off) };
    };
  };
  stored = record { content = h.stored.content; stamps = h.stored.stamps; by = h.stored.by };
}

node_sent : (f : Facts) (v : Viewed) (s : held.StoreWithRoom) (bs : List (ℕ × Batch)) → IsNodeInView f v s → IsNodeInView (with_sent f bs) (sent_view v bs) s
node_sent f v s bs h =
    let ts : v.batches ≡ f.batches = ap (λ (g : Facts). g.batches) h.view.viewed.view in
    let pending : All (AreHeldAt f.store.content) f.batches = subst (λ (us : Targets). All (AreHeldAt f.store.content) us) ts h.view.pending.held in
    subst (λ (us : Targets). IsNodeInView (with_sent f bs) (record v { batches = sending_all us bs }) s) (sym ts)
    (with_targets f v s (sending_all f.batches bs) (held_all f.store.content bs f.batches pending) h)

-- the view and the store after a tick
pub after_ticking : (f : Facts) (v : Viewed) (s : held.StoreWithRoom) (ss : List Settling) (bs : List (ℕ × Batch)) → IsNodeInView (settled_by f ss) v s
    → IsAfter f (with_sent (settled_by f ss) bs) (sent_view v bs) s
after_ticking f v s ss bs h = record { node = node_sent (settled_by f ss) v s bs h; rest = settled_rest f ss }

none_if : {X : Type 0} (xs : List X) (b : Bool) → (xs ≢ [] → b ≡ true) → b ≡ false → xs ≡ []
none_if [] b h e = refl
none_if (x ∷ xs) b h e = let wrong : b ≡ true = h (λ none. cc) in cc

-- outside a view a tick settles nothing, and sends no batches
pub nothing_due : (f : Facts) (ss : List Settling) (bs : List (ℕ × Batch)) → AreSettlings f ss → AreNext f.exchange.exchanged (view_key f) f.batches bs → f.exchange.exchanged ≡ false
    → with_sent (settled_by f ss) bs ≡ f
nothing_due f ss bs settle send e =
    let none : ss ≡ [] = none_if ss f.exchange.exchanged settle.exchanged e in
    let unsent : bs ≡ [] = none_if bs f.exchange.exchanged send.finished e in
    ap₂ (λ (xs : List Settling) (ys : List (ℕ × Batch)). with_sent (settled_by f xs) ys) none unsent

pub outside_view : (n : Inside) → n.view ≡ None → (node_facts n).exchange.exchanged ≡ false
outside_view n e = ap (λ (o : Option (Box View)). (node_facts (record n { view = o })).exchange.exchanged) e

-- ---- what functions say

-- the node has these facts afterwards, and nothing is planned
pub record Becomes (n : Inside) (after : Facts) : Type 0 where
  pub node : IsNode n
  pub seen : planning_of n ≡ unplanned after

pub still_unplanned : (f : Facts) (o : Option Planned) → o ≡ None → next_of f o ≡ None
still_unplanned f o e = ap (λ (p : Option Planned). next_of f p) e

pub none_before : (n : Inside) (old : Planning) → planning_of n ≡ old → old.next ≡ None → n.planned ≡ None
none_before n old seen e = none_planned (node_facts n) n.planned (ap (λ (p : Planning). p.next) seen ∙ e)

-- the facts after the agreement went on
abbrev pub agreed_after : Facts → Agreeing → Option (Box View) → Facts
agreed_after f agree entered = agreed f agree.agreement (option_map (λ v. v.value) entered)

abbrev pub with_parts : Inside → Adjacent → Agreeing → Box View → held.StoreWithRoom → Inside
with_parts n hearing agree v s = record n { hearing = hearing; agree = agree; store = s; view = Some v }

entering_now : (n : Inside) (agree : Agreeing) (v : Box View) (w : Viewed) (s : held.StoreWithRoom) → PartsAgree n → n.planned ≡ None
    → FitsAgreed (node_facts n) agree (Some v) → HasRanges (agreed_after (node_facts n) agree (Some v)) → w ≡ v.value
    → ((f : Facts) → IsNodeInView f w n.store
    → IsNodeInView (with_stamps f f.exchange.exchanged) w s)
    → Becomes (entered_node n agree v s) (agreed_after (node_facts n) agree (Some v))
entering_now n agree v w s h none fits ranges same stamp =
    let new : IsNewView (node_facts n) v.value = fits.view v refl in
    let g : Facts = entering_facts (node_facts n) agree v.value in
    let node : IsNodeInView (agreed (node_facts n) agree.agreement (Some v.value)) v.value s =
    subst (λ (x : Viewed). IsNodeInView
    (agreed (node_facts n) agree.agreement (Some v.value)) x s) same
    (stamp g (subst (λ (x : Viewed). IsNodeInView g x n.store) (sym same) (node_entering n agree v.value new))) in
    record {
      node = that_entered n agree v s h none fits.agree_of new.in_one node ranges;
      seen = unplanned_view (entered_node n agree v s) (agreed_after (node_facts n) agree (Some v)) none (entered_is n agree v s node);
    }

pub entering : (n : Inside) (old : Planning) (hearing : Adjacent) (agree : Agreeing) (entered : Option (Box View)) (v : Box View) (w : Viewed) (s : held.StoreWithRoom)
    → PartsAgree n → planning_of n ≡ old → old.next ≡ None → FitsAgreed old.now agree entered → HasRanges (agreed_after old.now agree entered)
    → entered ≡ Some v → w ≡ v.value → hearing ≡ record n.hearing { hearing = without_quiet n.hearing.hearing }
    → ((f : Facts) → IsNodeInView f w n.store
    → IsNodeInView (with_stamps f f.exchange.exchanged) w s)
    → Becomes (with_parts n hearing agree v s) (agreed_after old.now agree entered)
entering n old hearing agree entered v w s h seen none fits ranges is same heard stamp =
    let fits1 : FitsAgreed (node_facts n) agree (Some v) = subst (λ (p : Planning). FitsAgreed p.now agree (Some v)) (sym seen) (subst (λ (o : Option (Box View)). FitsAgreed old.now agree o) is fits) in
    let ranges1 : HasRanges (agreed_after (node_facts n) agree (Some v)) = subst (λ (p : Planning). HasRanges (agreed_after p.now agree (Some v))) (sym seen) (subst (λ (o : Option (Box View)). HasRanges (agreed_after old.now agree o)) is ranges) in
    let b : Becomes (entered_node n agree v s) (agreed_after (node_facts n) agree (Some v)) = entering_now n agree v w s h (none_before n old seen none) fits1 ranges1 same stamp in
    subst (λ (x : Adjacent). Becomes (with_parts n x agree v s) (agreed_after old.now agree entered)) (sym heard)
    (subst (λ (o : Option (Box View)). Becomes (entered_node n agree v s) (agreed_after old.now agree o)) (sym is)
    (subst (λ (p : Planning). Becomes (entered_node n agree v s) (agreed_after p.now agree (Some v))) seen b))

pub agreeing : (n : Inside) (old : Planning) (agree : Agreeing) (entered : Option (Box View)) → PartsAgree n → planning_of n ≡ old → old.next ≡ None
    → FitsAgreed old.now agree entered → HasRanges (agreed_after old.now agree entered) → entered ≡ None → Becomes (agreed_node n agree) (agreed_after old.now agree entered)
agreeing n old agree entered h seen none fits ranges is =
    let unplanned_now : n.planned ≡ None = none_before n old seen none in
    let ranges1 : HasRanges (agreed_after (node_facts n) agree None) = subst (λ (p : Planning). HasRanges (agreed_after p.now agree None)) (sym seen) (subst (λ (o : Option (Box View)). HasRanges (agreed_after old.now agree o)) is ranges) in
    let me : agree.me ≡ n.me = fits.agree_of ∙ sym (ap (λ (p : Planning). p.now.me) seen) in
    let b : Becomes (agreed_node n agree) (agreed_after (node_facts n) agree None) = record {
      node = that_agreed n agree h unplanned_now me ranges1;
      seen = unplanned_view (agreed_node n agree) (agreed_after (node_facts n) agree None) unplanned_now refl;
    } in
    subst (λ (o : Option (Box View)). Becomes (agreed_node n agree) (agreed_after old.now agree o)) (sym is)
    (subst (λ (p : Planning). Becomes (agreed_node n agree) (agreed_after p.now agree None)) seen b)

-- the view and the store are these after a step that was planned
pub taking : (n : Inside) (v u : Box View) (s : held.StoreWithRoom) (after : Facts) → PartsAgree n → n.planned ≡ None → n.view ≡ Some v → IsAfter (node_facts n) after u.value s → HasRanges after
    → Becomes (record n { view = Some u; store = s }) after
taking n v u s after h none is a ranges = record {
  node = that_took n after u s h none (view_in_one n v h is) a ranges;
  seen = unplanned_view (record n { view = Some u; store = s }) after none (after_is n after u s a);
}

-- ---- the whole tick

-- what a node hears once it is a tick older
abbrev pub IsOlder : Inside → Adjacent → Type 0
IsOlder n hearing = hearing ≡ record n.hearing { hearing = ticked n.hearing.me n.hearing.role n.hearing.hearing }

older_so : (n : Inside) (hearing : Adjacent) → PartsAgree n → IsOlder n hearing → hearing ≡ record { me = n.me; role = n.role; hearing = ticked n.me n.role n.hearing.hearing }
older_so n hearing h older = older ∙ ap₂ (λ (m : ℕ) (r : Role). record { me = m; role = r; hearing = ticked m r n.hearing.hearing }) h.hearing h.role

-- the node fits the agreement as before
pub fits_aged : (n : Inside) (old : Planning) (hearing : Adjacent) (t : Ticked) → planning_of n ≡ old → FitsTick old.now t → FitsAgreed (node_facts (aged_node n hearing)) t.agree t.entered
fits_aged n old hearing t seen fits = record {
  agree_of = fits.agree ∙ sym (ap (λ (p : Planning). p.now.me) seen);
  view = λ v e. new_view_aged (node_facts n) hearing v.value (subst (λ (p : Planning). IsNewView p.now v.value) (sym seen) (fits.entered v e));
}

pub aged_is : (n : Inside) (old : Planning) (hearing : Adjacent) (t : Ticked) → PartsAgree n → IsOlder n hearing → planning_of n ≡ old
    → agreed_after (node_facts (aged_node n hearing)) t.agree t.entered ≡ ticked_facts old.now t
aged_is n old hearing t h older seen =
    ap (λ (x : Adjacent). agreed_after (node_facts (aged_node n x)) t.agree t.entered) (older_so n hearing h older)
    ∙ ap (λ (p : Planning). ticked_facts p.now t) seen

pub aging : (n : Inside) (old : Planning) (hearing : Adjacent) → PartsAgree n → IsOlder n hearing → planning_of n ≡ old → old.next ≡ None → IsNode (aged_node n hearing)
aging n old hearing h older seen none =
    that_aged n hearing h (none_before n old seen none) (ap (λ (x : Adjacent). x.me) older ∙ h.hearing) (ap (λ (x : Adjacent). x.role) older ∙ h.role)
    (subst (λ (x : Adjacent). All (λ m. Contains n.peers m) (heard_ids x.hearing.heard)) (sym older) (heard_still (λ m. Contains n.peers m) n.hearing.hearing.heard h.heard))

pub ready_to_settle : (m : Inside) (f : Facts) (v : Box View) (ss : List Settling) → PartsAgree m → planning_of m ≡ unplanned f → m.view ≡ Some v → AreSettlings f ss → IsReadyToSettle v.value m.store ss
ready_to_settle m f v ss h seen is due =
    let node : IsNodeInView (node_facts m) v.value m.store = h.view v is in
    record {
      node = node_seen (node_facts m) v.value m.store node;
      settlings = settlings_in (node_facts m) v.value m.store ss node (subst (λ (p : Planning). AreSettlings p.now ss) (sym seen) due);
    }

-- the partitions are settled as planned
pub settled_node : (m : Inside) (f : Facts) (v : Box View) (x w : Viewed) (s : held.StoreWithRoom) (ss xs : List Settling) → PartsAgree m → planning_of m ≡ unplanned f → m.view ≡ Some v
    → x ≡ v.value → xs ≡ ss → ((g : Facts) → IsNodeInView g x m.store → IsNodeInView (settled_by g xs) w s) → IsNodeInView (settled_by f ss) w s
settled_node m f v x w s ss xs h seen is same list step =
    let node : IsNodeInView (node_facts m) x m.store = subst (λ (y : Viewed). IsNodeInView (node_facts m) y m.store) (sym same) (h.view v is) in
    subst (λ (ys : List Settling). IsNodeInView (settled_by f ys) w s) list
    (subst (λ (p : Planning). IsNodeInView (settled_by p.now xs) w s) seen
    (step (node_facts m) node))

pub ticking : (m : Inside) (f : Facts) (v u : Box View) (w : Viewed) (s : held.StoreWithRoom) (ss : List Settling) (bs : List (ℕ × Batch))
    → PartsAgree m → planning_of m ≡ unplanned f → m.view ≡ Some v → IsNodeInView (settled_by f ss) w s → u.value ≡ sent_view w bs → HasRanges (with_sent (settled_by f ss) bs)
    → Becomes (record m { view = Some u; store = s }) (with_sent (settled_by f ss) bs)
ticking m f v u w s ss bs h seen is node sent ranges =
    let none : m.planned ≡ None = none_before m (unplanned f) seen refl in
    let now : node_facts m ≡ f = ap (λ (p : Planning). p.now) seen in
    let a : IsAfter f (with_sent (settled_by f ss) bs) (sent_view w bs) s = after_ticking f w s ss bs node in
    let a1 : IsAfter (node_facts m) (with_sent (settled_by f ss) bs) u.value s =
    subst (λ (g : Facts). IsAfter g (with_sent (settled_by f ss) bs) u.value s) (sym now) (subst (λ (x : Viewed). IsAfter f (with_sent (settled_by f ss) bs) x s) (sym sent) a) in
    taking m v u s (with_sent (settled_by f ss) bs) h none is a1 ranges

pub ticking_outside : (m : Inside) (f : Facts) (ss : List Settling) (bs : List (ℕ × Batch)) → planning_of m ≡ unplanned f → m.view ≡ None
    → AreSettlings f ss → AreNext f.exchange.exchanged (view_key f) f.batches bs → planning_of m ≡ unplanned (with_sent (settled_by f ss) bs)
ticking_outside m f ss bs seen is settle send =
    let off : f.exchange.exchanged ≡ false = ap (λ (p : Planning). p.now.exchange.exchanged) (sym seen) ∙ outside_view m is in
    seen ∙ ap unplanned (sym (nothing_due f ss bs settle send off))

-- ---- steps of the view, as planned

pub ready_to_step : (n : Inside) (p : ViewStep) → PartsAgree n → FitsStep (node_facts n) p → ForSome n.view (λ v. HasRoomIn v.value n.store.spare p)
    → ForSome n.view (λ v. IsReady v.value n.store p)
ready_to_step n p h fits room =
    λ v is.
    let node : IsNodeInView (node_facts n) v.value n.store = h.view v is in
    record {
      node = node_seen (node_facts n) v.value n.store node;
      fits = step_fits_seen (node_facts n) v.value n.store p node fits;
      room = room v is;
    }

-- a node whose facts are in a view has one
pub has_view : (n : Inside) → IsSome (node_facts n).exchange.view → IsSome n.view
has_view n h = go n.view h
  where
    go : (o : Option (Box View)) → IsSome (node_facts (record n { view = o })).exchange.view → IsSome o
    go None e = e
    go (Some v) e = refl

by_some : {X : Type 0} (P : Option X → Type 0) (o : Option X) → IsSome o → ((x : X) → o ≡ Some x → P (Some x)) → P o
by_some P None h k = cc
by_some P (Some x) h k = k x refl

-- the step is taken from what the node knew
pub stepping : (n : Inside) (u : Option (Box View)) (s : held.StoreWithRoom) (p : ViewStep) → PartsAgree n → n.planned ≡ None → IsSome n.view → HasStepped n.view n.store p u s
    → HasRanges (view.view_taken (node_facts n) p) → Becomes (record n { view = u; store = s }) (view.view_taken (node_facts n) p)
stepping n u s p h none in_one stepped ranges =
    by_some (λ (o : Option (Box View)). Becomes (record n { view = o; store = s }) (view.view_taken (node_facts n) p)) u stepped.in_one
    (λ w new. by_some (λ (o : Option (Box View)). Becomes (record n { view = Some w; store = s }) (view.view_taken (node_facts n) p)) n.view in_one
    (λ v is. taking n v w s (view.view_taken (node_facts n) p) h none is
    (record { node = stepped.becomes v w is new (node_facts n) (h.view v is); rest = step_rest (node_facts n) p }) ranges))

pub has_stepped : (old : Option (Box View)) (before : held.StoreWithRoom) (p : ViewStep) (v u : Box View) (x : Viewed) (after : held.StoreWithRoom) → old ≡ Some v → x ≡ v.value
    → ((f : Facts) → IsNodeInView f x before → IsNodeInView (view.view_taken f p) u.value after) → HasStepped old before p (Some u) after
has_stepped old before p v u x after is same step = record {
  in_one = refl;
  becomes = λ v1 w1 is1 new f node.
      let vs : v ≡ v1 = cc in
      let ws : u ≡ w1 = cc in
      subst (λ (b : Box View). IsNodeInView (view.view_taken f p) b.value after) ws
      (step f (subst (λ (y : Viewed). IsNodeInView f y before) (ap (λ (b : Box View). b.value) (sym vs) ∙ sym same) node));
}

-- ---- a planned step

pub stepping_from : (n : Inside) (left : Option Planned) (u : Option (Box View)) (s : held.StoreWithRoom) (p : Box ViewStep) → IsNode n → n.planned ≡ Some (planned.View p) → left ≡ None
    → HasStepped n.view n.store p.value u s → Becomes (record n { view = u; store = s; planned = left }) (view.view_taken (node_facts n) p.value)
stepping_from n left u s p h is none stepped =
    let from : IsPlannedFrom (node_facts n) (planned.View p) = h.1 (planned.View p) is in
    subst (λ (o : Option Planned). Becomes (record n { view = u; store = s; planned = o }) (view.view_taken (node_facts n) p.value)) (sym none)
    (stepping (record n { planned = None }) u s p.value (given_up n h.0).0 refl (has_view n from.fits.in_one) stepped from.ranges)

pub next_is : (n : Inside) (old : Planning) (p : Planned) → planning_of n ≡ old → n.planned ≡ Some p → old.next ≡ Some (taken (node_facts n) p)
next_is n old p seen is = sym (ap (λ (x : Planning). x.next) seen) ∙ ap (λ (o : Option Planned). next_of (node_facts n) o) is

pub if_next : (x : Planning) (o : Option Facts) (g : Facts) → o ≡ Some g → x ≡ unplanned g → IfSome o (λ f. x ≡ unplanned f)
if_next x o g is h = subst (λ (y : Option Facts). IfSome y (λ f. x ≡ unplanned f)) (sym is) h
