-- A node that made room is as before, and what it plans then fits the room.
use Rattle.std.proofs.Common.{◌≡◌, Option, Some, None, is_some, Result, Ok, Err, OnErr, true, false, refl, sym, ap, subst, ◌∙◌}
use Rattle.std.specs.Prelude.{IsSome, option_map}
use Rattle.std.specs.Global.{Box}
use Rattle.std.specs.Option.{ForSome}
use Rattle.node_rules.specs.Copies.{Store}
use Rattle.node_rules.specs.Exchange.{Exchange}
use Rattle.node_rules.specs.Facts.{Facts}
use Rattle.node_rules.specs.Steps.{Planning, planning}
use Rattle.record_store.specs.Store as held
use Rattle.record_store.specs.Store.{HoldsTheSame}
use Rattle.node_view.specs.declared.view.View.{View}
use Rattle.node_view.specs.Views.{IsNodeInView, IsSame, KeepsWatch, Viewed, Watch, store_of}
use Rattle.node_core.specs.declared.node.Node.TheInside.{Inside}
use Rattle.node_steps.specs.declared.planned.Planned.{Planned}
use Rattle.node_steps.specs.Fits.{FitsPlanned}
use Rattle.node_core.specs.Nodes.{PartsAgree, IsPlannedFrom, node_facts, planning_of}
use Rattle.node_steps.specs.Grounds.{with_view_fields}
use Rattle.node_steps.specs.Plans.{next_of, taken}
use Rattle.node_steps.specs.Ranges.{HasRanges}
use Rattle.node_steps.specs.Rooms.{HasRoomForStep}
use Rattle.node_core.proofs.CommitLaws.{nothing_planned}
use Rattle.node_core.proofs.NodeLaws.{IsNode}

-- the node with that view and that store, which are the node's but for room
pub record HasMoreRoom (n : Inside) (o : Option (Box View)) (s : held.StoreWithRoom) : Type 0 where
  pub store : HoldsTheSame n.store s
  pub there : is_some o ≡ is_some n.view
  pub view : (v w : Box View) → n.view ≡ Some v → o ≡ Some w → IsSame v.value w.value

abbrev pub roomier : Inside → Option (Box View) → held.StoreWithRoom → Inside
roomier n o s = record n { view = o; store = s }

-- ---- the store alone

itself : (v : Viewed) → IsSame v v
itself v = record {
  alike = record { me = refl; factor = refl; by = refl; exchange = refl; writes = refl; transactions = refl; batches = refl; bits = refl };
  watch = refl;
}

pub more_in_store : (n : Inside) (s : held.StoreWithRoom) → HoldsTheSame n.store s
    → HasMoreRoom n n.view s
more_in_store n s h = record {
  store = h;
  there = refl;
  view = λ v w e i. let same : v ≡ w = let j : Some v ≡ Some w = sym e ∙ i in cc in subst (λ (x : Box View). IsSame v.value x.value) same (itself v.value);
}

-- ---- the view and the store

pub holds_itself : (s : held.StoreWithRoom) → HoldsTheSame s s
holds_itself s = record { versions = refl; stamps = refl; policy = refl }

-- a view that is as before is the same but for room
pub same_view : (old new : Viewed) → new ≡ old → IsSame old new
same_view old new e = subst (λ (w : Viewed). IsSame old w) (sym e) (itself old)

pub more_in_both : (n : Inside) (v w : Box View) (s : held.StoreWithRoom) → n.view ≡ Some v → IsSame v.value w.value → HoldsTheSame n.store s → HasMoreRoom n (Some w) s
more_in_both n v w s e same h = record {
  store = h;
  there = sym (ap is_some e);
  view = λ x y i j. let left : v ≡ x = let k : Some v ≡ Some x = sym e ∙ i in cc in let right : w ≡ y = cc in rw (← left, ← right) same;
}

-- ---- what a node with more room knows

fields_same : (f : Facts) (v w : Viewed) → IsSame v w → with_view_fields f (Some w) ≡ with_view_fields f (Some v)
fields_same f v w h = rw (h.alike.exchange, h.alike.writes, h.alike.transactions, h.alike.batches, h.alike.bits) refl

view_same : (f : Facts) (a b : Option (Box View)) → is_some b ≡ is_some a → ((v w : Box View) → a ≡ Some v → b ≡ Some w → IsSame v.value w.value)
    → with_view_fields f (option_map (λ v. v.value) b) ≡ with_view_fields f (option_map (λ v. v.value) a)
view_same f None None there h = refl
view_same f None (Some w) there h = cc
view_same f (Some v) None there h = cc
view_same f (Some v) (Some w) there h = fields_same f v.value w.value (h v w refl refl)

store_same : (a b : held.StoreWithRoom) → HoldsTheSame a b → store_of b ≡ store_of a
store_same a b h = rw (h.versions, h.stamps, h.policy) refl

pub facts_roomier : (n : Inside) (o : Option (Box View)) (s : held.StoreWithRoom) → HasMoreRoom n o s → node_facts (roomier n o s) ≡ node_facts n
facts_roomier n o s h =
    view_same (node_facts (roomier n n.view s)) n.view o h.there h.view
    ∙ ap (λ (x : Store). facts_of_store n x) (store_same n.store s h.store)
  where
    facts_of_store : Inside → Store → Facts
    facts_of_store m x = record (node_facts m) { store = x }

node_roomier : (f : Facts) (v w : Viewed) (s t : held.StoreWithRoom) → IsSame v w → HoldsTheSame s t → IsNodeInView f v s → IsNodeInView f w t
node_roomier f v w s t same alike h = record {
  view = record {
    viewed = record {
      me = h.view.viewed.me ∙ sym same.alike.me;
      factor = h.view.viewed.factor ∙ sym same.alike.factor;
      view = rw (same.alike.exchange, same.alike.writes, same.alike.transactions, same.alike.batches, same.alike.bits) h.view.viewed.view;
    };
    policy = same.alike.by ∙ h.view.policy;
    pending = rw same.alike.batches h.view.pending;
    watch = subst (λ (x : Watch). KeepsWatch f x) (sym same.watch) h.view.watch;
  };
  stored = record {
    content = h.stored.content ∙ sym alike.versions;
    stamps = h.stored.stamps ∙ sym alike.stamps;
    by = h.stored.by ∙ sym alike.policy;
  };
}

-- a view that is there was there before
before : {P : Type 0} (a o : Option (Box View)) (w : Box View) → is_some o ≡ is_some a → o ≡ Some w → ((v : Box View) → a ≡ Some v → P) → P
before None o w there e go = absurd (let wrong : true ≡ false = sym (ap is_some e) ∙ there in cc)
before (Some v) o w there e go = go v refl

pub agrees_roomier : (n : Inside) (o : Option (Box View)) (s : held.StoreWithRoom) → PartsAgree n → HasMoreRoom n o s → PartsAgree (roomier n o s)
agrees_roomier n o s h more =
    let same : node_facts (roomier n o s) ≡ node_facts n = facts_roomier n o s more in record {
      peers = h.peers;
      factor = h.factor;
      hearing = h.hearing;
      heard = h.heard;
      role = h.role;
      agree = h.agree;
      by = more.store.policy ∙ h.by;
      view = λ w e. before n.view o w more.there e
          (λ v i. subst (λ (f : Facts). IsNodeInView f w.value s) (sym same) (node_roomier (node_facts n) v.value w.value n.store s (more.view v w i e) more.store (h.view v i)));
      in_one = λ w e. before n.view o w more.there e (λ v i. subst (λ (x : Exchange). IsSome x.view) (sym (more.view v w i e).alike.exchange) (h.in_one v i));
      ranges = subst HasRanges (sym same) h.ranges;
    }

-- ---- plans

-- nothing is planned yet
pub node_roomier_still : (n : Inside) (o : Option (Box View)) (s : held.StoreWithRoom) → PartsAgree n → n.planned ≡ None → HasMoreRoom n o s → IsNode (roomier n o s)
node_roomier_still n o s h none more = nothing_planned (roomier n o s) (agrees_roomier n o s h more) none

pub seen_still : (n : Inside) (o : Option (Box View)) (s : held.StoreWithRoom) (seen : Planning) → planning_of n ≡ seen → HasMoreRoom n o s → planning_of (roomier n o s) ≡ seen
seen_still n o s seen is more =
    ap (λ (f : Facts). let p : Planning = record { now = f; next = next_of f n.planned } in p) (facts_roomier n o s more) ∙ is

pub planned_for : {X : Type 0} (P : X → Type 0) (x : X) → P x → ForSome (Some x) P
planned_for P x h = λ y e. let same : x ≡ y = cc in subst P same h

-- a step is planned for which there is room now
pub node_roomier_planned : (n : Inside) (o : Option (Box View)) (s : held.StoreWithRoom) (p : Planned) → PartsAgree n → HasMoreRoom n o s
    → FitsPlanned (node_facts n) p → HasRanges (taken (node_facts n) p) → ForSome o (λ v. HasRoomForStep v.value s.spare p) → IsNode (record (roomier n o s) { planned = Some p })
node_roomier_planned n o s p h more fits ranges room =
    let same : node_facts (roomier n o s) ≡ node_facts n = facts_roomier n o s more in
    let made : IsPlannedFrom (node_facts (roomier n o s)) p = subst (λ (f : Facts). IsPlannedFrom f p) (sym same) (record { fits = fits; ranges = ranges }) in
    let agrees : PartsAgree (roomier n o s) = agrees_roomier n o s h more in (
      record {
        peers = agrees.peers;
        factor = agrees.factor;
        hearing = agrees.hearing;
        heard = agrees.heard;
        role = agrees.role;
        agree = agrees.agree;
        by = agrees.by;
        view = agrees.view;
        in_one = agrees.in_one;
        ranges = agrees.ranges;
      },
      planned_for (IsPlannedFrom (node_facts (roomier n o s))) p made,
      planned_for (λ q. ForSome o (λ v. HasRoomForStep v.value s.spare q)) p room,
    )

pub seen_planned : (n : Inside) (o : Option (Box View)) (s : held.StoreWithRoom) (p : Planned) (seen : Planning) → planning_of n ≡ seen → HasMoreRoom n o s
    → planning_of (record (roomier n o s) { planned = Some p }) ≡ planning seen.now (taken seen.now p)
seen_planned n o s p seen is more =
    ap (λ (f : Facts). planning f (taken f p)) (facts_roomier n o s more) ∙ ap (λ (q : Planning). planning q.now (taken q.now p)) is

pub on_err_if : {A E : Type 0} (r : Result A E) (P : Type 0) → P → OnErr r P
on_err_if (Ok x) P h = tt
on_err_if (Err e) P h = h

-- the view that is lent is of what is seen of the node
pub node_lent : (n : Inside) (seen : Planning) (v : Box View) (lent : Viewed) → PartsAgree n → planning_of n ≡ seen → n.view ≡ Some v → lent ≡ v.value → IsNodeInView seen.now lent n.store
node_lent n seen v lent h is e same =
    subst (λ (w : Viewed). IsNodeInView seen.now w n.store) (sym same) (subst (λ (p : Planning). IsNodeInView p.now v.value n.store) is (h.view v e))
