-- Facts of a node in a view after a step, part by part.
use Rattle.std.proofs.Common.{◌≡◌, ℕ, Bool, refl, sym, ap₂, ◌∙◌}
use Rattle.record_store.specs.Store as held
use Rattle.emigrate.specs.Going.{AreHeld}
use Rattle.node_rules.specs.Batches.{Targets}
use Rattle.node_rules.specs.Exchange.{Exchange, members_of}
use Rattle.node_rules.specs.Facts.{Facts}
use Rattle.node_rules.specs.Stamps.{Writes}
use Rattle.node_rules.specs.Standing.{knows_settled, knows_settled_by}
use Rattle.node_rules.specs.Map.{all_empty}
use Rattle.cluster_types.specs.Members.{ids_of}
use Rattle.node_rules.specs.Transactions.{Transactions}
use Rattle.node_view.specs.Views.{IsNodeInView, KeepsWatch, ViewRoom, Viewed, Watch}
use Rattle.node_view.proofs.SightLaws.{Sees, in_view, sees}
use Rattle.node_view.proofs.WatchLaws.{StandsAlike, count_alike, live_alike}

-- what is seen of a node in that view
pub record IsNode (f : Facts) (v : Viewed) (s : held.StoreWithRoom) : Type 0 where
  pub sight : Sees f v
  pub policy : v.by ≡ f.store.by
  pub pending : AreHeld f.store.content v.batches
  pub watch : KeepsWatch f v.watch
  pub content : f.store.content ≡ s.versions
  pub stamps : f.store.stamps ≡ s.stamps
  pub by : f.store.by ≡ s.by

pub is_node : (f : Facts) (v : Viewed) (s : held.StoreWithRoom) → IsNodeInView f v s → IsNode f v s
is_node f v s h = record {
  sight = sees f v h.view.viewed;
  policy = h.view.policy;
  pending = h.view.pending;
  watch = h.view.watch;
  content = h.stored.content;
  stamps = h.stored.stamps;
  by = h.stored.by;
}

pub node_of : (f : Facts) (v : Viewed) (s : held.StoreWithRoom) → IsNode f v s → IsNodeInView f v s
node_of f v s h = record {
  view = record { viewed = in_view f v h.sight; policy = h.policy; pending = h.pending; watch = h.watch };
  stored = record { content = h.content; stamps = h.stamps; by = h.by };
}

-- facts that differ in what doesn't bear on the partitions keep the watch
pub watch_alike : (f g : Facts) (w : Watch) → ((p : ℕ) → StandsAlike p f g) → g.exchange ≡ f.exchange → KeepsWatch f w → KeepsWatch g w
watch_alike f g w same x h = record { unsettled = h.unsettled ∙ sym (count_alike f g settled); live = live_alike f g w.live same h.live }
  where
    settled : (p : ℕ) → knows_settled g p ≡ knows_settled f p
    settled p = ap₂ (λ (y : Exchange) (b : Bool). knows_settled_by b y.exchanged (all_empty (ids_of (members_of y.view)) y.rows p)) x (same p).settled

-- the transactions are others
pub with_transactions : (f : Facts) (v : Viewed) (s : held.StoreWithRoom) (ts : Transactions) (room : ViewRoom) → IsNodeInView f v s → IsNodeInView (record f { transactions = ts }) (record v { transactions = ts; room = room }) s
with_transactions f v s ts room h =
    let n = is_node f v s h in
    node_of _ _ s (record {
      sight = record { me = n.sight.me; factor = n.sight.factor; exchange = n.sight.exchange; writes = n.sight.writes; transactions = refl; batches = n.sight.batches; bits = n.sight.bits };
      policy = n.policy;
      pending = n.pending;
      watch = watch_alike f (record f { transactions = ts }) v.watch (λ p. record { me = refl; factor = refl; exchange = refl; own_handed = refl; settled = refl; learnt = refl; holds = refl }) refl n.watch;
      content = n.content;
      stamps = n.stamps;
      by = n.by;
    })

-- other digests are pending
pub with_batches : (f : Facts) (v : Viewed) (s : held.StoreWithRoom) (ts : Targets) → AreHeld f.store.content ts → IsNodeInView f v s → IsNodeInView (record f { batches = ts }) (record v { batches = ts }) s
with_batches f v s ts held h =
    let n = is_node f v s h in
    node_of _ _ s (record {
      sight = record { me = n.sight.me; factor = n.sight.factor; exchange = n.sight.exchange; writes = n.sight.writes; transactions = n.sight.transactions; batches = refl; bits = n.sight.bits };
      policy = n.policy;
      pending = held;
      watch = watch_alike f (record f { batches = ts }) v.watch (λ p. record { me = refl; factor = refl; exchange = refl; own_handed = refl; settled = refl; learnt = refl; holds = refl }) refl n.watch;
      content = n.content;
      stamps = n.stamps;
      by = n.by;
    })

-- writes and stamps are others
pub with_writes : (f : Facts) (v : Viewed) (s u : held.StoreWithRoom) (ws : Writes) (room : ViewRoom) → u.versions ≡ s.versions → u.by ≡ s.by → IsNodeInView f v s
    → IsNodeInView (record f { writes = ws; store = record f.store { stamps = u.stamps } }) (record v { writes = ws; room = room }) u
with_writes f v s u ws room same by h =
    let n = is_node f v s h in
    node_of _ _ u (record {
      sight = record { me = n.sight.me; factor = n.sight.factor; exchange = n.sight.exchange; writes = refl; transactions = n.sight.transactions; batches = n.sight.batches; bits = n.sight.bits };
      policy = n.policy;
      pending = n.pending;
      watch = watch_alike f (record f { writes = ws; store = record f.store { stamps = u.stamps } }) v.watch (λ p. record { me = refl; factor = refl; exchange = refl; own_handed = refl; settled = refl; learnt = refl; holds = refl }) refl n.watch;
      content = n.content ∙ sym same;
      stamps = refl;
      by = n.by ∙ sym by;
    })
