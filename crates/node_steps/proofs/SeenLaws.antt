-- What a view and a store see of a node that is in that view.
use Rattle.std.proofs.Common.{◌≡◌, ℕ, Some, None, All, IsSome, refl, sym, ap, subst, ◌∙◌}
use Rattle.std.specs.FinMap as finite
use Rattle.conflict_order.specs.declared.policy.Policy.{Policy}
use Rattle.record_store.specs.Store as held
use Rattle.node_rules.specs.Copies.{Content, Stamps, Store}
use Rattle.node_rules.specs.Facts.{Facts}
use Rattle.node_rules.specs.Transactions.{Transaction}
use Rattle.node_view.specs.declared.view_step.Outcome.{Outcome}
use Rattle.node_view.specs.declared.view_step.Outcome.TheVariants as outcome
use Rattle.node_view.specs.declared.view_step.ViewStep.{ViewStep}
use Rattle.node_view.specs.declared.view_step.ViewStep.TheVariants as step
use Rattle.node_view.specs.declared.view_step.Writing.{Writing}
use Rattle.node_view.specs.Fits.{FitsOutcome, FitsStep, FitsWriting, IsLacking}
use Rattle.node_view.specs.Views.{IsNodeInView, IsQuiet, IsViewOf, KeepsWatch, Viewed, Watch, facts_in, with_view}
use Rattle.std.specs.Option.{ForSome}

-- ---- what no view sees

-- the facts with what no view sees of the others
abbrev pub with_unseen : Facts → Facts → Facts
with_unseen f g = record g { peers = f.peers; role = f.role; up = f.up; hearing = f.hearing; agreement = f.agreement }

pub same_store : (a : Store) (content : Content) (stamps : Stamps) (by : Policy) → a.content ≡ content → a.stamps ≡ stamps → a.by ≡ by
    → a ≡ record { content = content; stamps = stamps; by = by }
same_store a content stamps by e s b =
    ap (λ (c : Content). record a { content = c }) e
    ∙ ap (λ (t : Stamps). record a { content = content; stamps = t }) s
    ∙ ap (λ (p : Policy). record a { content = content; stamps = stamps; by = p }) b

-- the facts of a node are what its view and its store see, beside what they don't
pub node_is_seen : (f : Facts) (v : Viewed) (s : held.StoreWithRoom) → IsNodeInView f v s → f ≡ with_unseen f (facts_in v s)
node_is_seen f v s h =
    let in_view : Facts → Facts = λ (g : Facts). with_view g (Some v) in
    sym h.view.viewed.view
    ∙ ap (λ (me : ℕ). in_view (record f { me = me })) h.view.viewed.me
    ∙ ap (λ (factor : ℕ). in_view (record f { me = v.me; factor = factor })) h.view.viewed.factor
    ∙ ap (λ (held_now : Store). in_view (record f { me = v.me; factor = v.factor; store = held_now }))
    (same_store f.store s.versions s.stamps s.by h.stored.content h.stored.stamps h.stored.by)

quiet_seen : (f g : Facts) (p : ℕ) → IsQuiet (with_unseen f g) p → IsQuiet g p
quiet_seen f g p (IsQuiet.asleep a) = IsQuiet.asleep a
quiet_seen f g p (IsQuiet.over o) = IsQuiet.over o

watch_seen : (f g : Facts) (w : Watch) → KeepsWatch (with_unseen f g) w → KeepsWatch g w
watch_seen f g w h = record {
  unsettled = h.unsettled;
  live = record { quiet = λ p within done off. quiet_seen f g p (h.live.quiet p within done off) };
}

-- what a view and a store know of a node is enough to say that it is in that view
pub node_seen : (f : Facts) (v : Viewed) (s : held.StoreWithRoom) → IsNodeInView f v s → IsNodeInView (facts_in v s) v s
node_seen f v s h = record {
  view = record {
    viewed = record { me = refl; factor = refl; view = refl };
    policy = h.view.policy ∙ h.stored.by;
    pending = record { held = subst (λ (c : Content). All (λ t. All (λ d. IsSome (finite.get c d)) t.pending) v.batches) h.stored.content h.view.pending.held };
    watch = watch_seen f (facts_in v s) v.watch (subst (λ (g : Facts). KeepsWatch g v.watch) (node_is_seen f v s h) h.view.watch);
  };
  stored = record { content = refl; stamps = refl; by = refl };
}

-- ---- steps

lacking_seen : (f g : Facts) (from : ℕ) → IsLacking (with_unseen f g) from → IsLacking g from
lacking_seen f g from h = record { member = h.member; lacking = h.lacking }

writing_seen : (f g : Facts) (t : Transaction) (w : Writing) → FitsWriting (with_unseen f g) t w → FitsWriting g t w
writing_seen f g t w h = record {
  write = h.write;
  unapplied = h.unapplied;
  resolved = h.resolved;
  version = h.version;
  kept = h.kept;
  to = h.to;
  count = h.count;
}

outcome_seen : (f g : Facts) (t : Transaction) (o : Outcome) → FitsOutcome (with_unseen f g) t o → FitsOutcome g t o
outcome_seen f g t outcome.Read h = tt
outcome_seen f g t (outcome.Write w) h = writing_seen f g t w h

step_seen : (f g : Facts) (p : ViewStep) → FitsStep (with_unseen f g) p → FitsStep g p
step_seen f g (step.Row from row) h = record { absent = lacking_seen f g from h.absent; more = h.more }
step_seen f g (step.LastRow l) h = record { absent = lacking_seen f g l.from h.absent; none_missing = h.none_missing; served = h.served; key = h.key; targets = h.targets }
step_seen f g (step.Merged m) h = record { newer = h.newer }
step_seen f g (step.BatchAcked from number) h = tt
step_seen f g (step.Progressed p) h = h
step_seen f g (step.Replicated r) h = record { newer = h.newer; number = h.number }
step_seen f g (step.WriteAcked from number) h = tt
step_seen f g (step.Done number) h = h
step_seen f g (step.Answered from number v) h = tt
step_seen f g (step.Resolved from number v o) h = record { open_one = h.open_one; outcome_of = λ t is. outcome_seen f _ t o (h.outcome_of t is) }
step_seen f g (step.Opened digest w best asked o) h = record { free = h.free; count = h.count; outcome_of = λ x is. outcome_seen f g _ x (h.outcome_of x is) }

-- a step that was planned from the facts of a node fits what its view and its store see
pub step_fits_seen : (f : Facts) (v : Viewed) (s : held.StoreWithRoom) (p : ViewStep) → IsNodeInView f v s → FitsStep f p → FitsStep (facts_in v s) p
step_fits_seen f v s p node h = step_seen f (facts_in v s) p (subst (λ (g : Facts). FitsStep g p) (node_is_seen f v s node) h)

-- ---- changes that no view sees

quiet_unseen : (f g : Facts) (p : ℕ) → IsQuiet f p → IsQuiet (with_unseen g f) p
quiet_unseen f g p (IsQuiet.asleep a) = IsQuiet.asleep a
quiet_unseen f g p (IsQuiet.over o) = IsQuiet.over o

pub view_unseen : (f g : Facts) (v : Viewed) → IsViewOf f v → IsViewOf (with_unseen g f) v
view_unseen f g v h = record {
  viewed = record { me = h.viewed.me; factor = h.viewed.factor; view = ap (λ (x : Facts). with_unseen g x) h.viewed.view };
  policy = h.policy;
  pending = record { held = h.pending.held };
  watch = record {
    unsettled = h.watch.unsettled;
    live = record { quiet = λ p within done off. quiet_unseen f g p (h.watch.live.quiet p within done off) };
  };
}

pub node_unseen : (f g : Facts) (v : Viewed) (s : held.StoreWithRoom) → IsNodeInView f v s → IsNodeInView (with_unseen g f) v s
node_unseen f g v s h = record {
  view = view_unseen f g v h.view;
  stored = record { content = h.stored.content; stamps = h.stored.stamps; by = h.stored.by };
}

-- ---- plans

pub none_for : {X : Type 0} (P : X → Type 0) → ForSome None P
none_for P = λ x e. cc

pub some_for : {X : Type 0} (P : X → Type 0) (x : X) → P x → ForSome (Some x) P
some_for P x h = λ y e. let same : x ≡ y = cc in subst P same h
