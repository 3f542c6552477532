-- Copies that are stamped one after another.
use Rattle.std.proofs.Common.{◌≡◌, ◌≤◌, ◌+◌, ◌&&◌, ℕ, zero, suc, Bool, true, false, refl, sym, ap, ap₂, subst, ◌∙◌, arith}
use Rattle.cluster_types.specs.declared.cluster_key.ClusterKey.{ClusterKey}
use Rattle.cluster_types.specs.Partitions.{partition_count}
use Rattle.record_store.specs.Store as held
use Rattle.node_rules.specs.Batches.{Targets}
use Rattle.node_rules.specs.Copies.{Stamps}
use Rattle.node_rules.specs.Exchange.{Exchange, finished}
use Rattle.node_rules.specs.Exchange as exchange
use Rattle.node_rules.specs.Facts.{Facts, list_at, view_key}
use Rattle.node_rules.specs.Notes.{count_in, stamped_at}
use Rattle.node_rules.specs.Stamps.{stamped_by, stamped_with}
use Rattle.node_rules.specs.Standing.{is_all_empty, is_own_replica}
use Rattle.node_rules.proofs.Forms.{stamps_by}
use Rattle.node_rules.specs.ViewNotes.{stamped_from}
use Rattle.node_view.specs.Plans.{with_stamps}
use Rattle.node_view.specs.Views.{IsNodeInView, Viewed, count_seen, is_stamped, viewed_key}
use Rattle.node_view.proofs.SightLaws.{Sees}
use Rattle.node_view.proofs.StepLaws.{IsNode, is_node, node_of, watch_alike}

-- the stamps with those of so many partitions from one on, in that view
abbrev pub stamps_of : Viewed → Stamps → ℕ → ℕ → Stamps
stamps_of v stamps n p = stamped_by (is_stamped v) (count_seen v) (viewed_key v) stamps n p

pub one_stamped : (v : Viewed) (stamps : Stamps) (n p : ℕ) → stamps_of v stamps (n + 1) p ≡ stamps_of v (stamped_with (viewed_key v) (count_seen v p) p stamps (is_stamped v p)) n (p + 1)
unfolding stamped_by
one_stamped v stamps n p = ap (λ (k : ℕ). stamped_by (is_stamped v) (count_seen v) (viewed_key v) stamps k p) (next n)
  where
    next : (n : ℕ) → n + 1 ≡ suc n
    next n = omega arith

pub no_more : (v : Viewed) (stamps : Stamps) (p : ℕ) → stamps_of v stamps 0 p ≡ stamps
unfolding stamped_by
no_more v stamps p = refl

-- all partitions were come to
pub all_come_to : (n : ℕ) → n ≤ partition_count → partition_count ≤ n → 0 + n ≡ partition_count
all_come_to n few many = omega (arith, few, many)

same_stamped : (a b : ℕ → Bool) (c d : ℕ → ℕ) (key : ClusterKey) → ((q : ℕ) → a q ≡ b q) → ((q : ℕ) → c q ≡ d q) → (stamps : Stamps) (n p : ℕ) → stamped_by a c key stamps n p ≡ stamped_by b d key stamps n p
unfolding stamped_by
same_stamped a b c d key tests counts stamps zero p = refl
same_stamped a b c d key tests counts stamps (suc n) p =
    same_stamped a b c d key tests counts (stamped_with key (c p) p stamps (a p)) n (p + 1)
    ∙ ap₂ (λ (k : ℕ) (t : Bool). stamped_by b d key (stamped_with key k p stamps t) n (p + 1)) (counts p) (tests p)

none_stamped : (a : ℕ → Bool) (c : ℕ → ℕ) (key : ClusterKey) → ((q : ℕ) → a q ≡ false) → (stamps : Stamps) (n p : ℕ) → stamped_by a c key stamps n p ≡ stamps
unfolding stamped_by
none_stamped a c key none stamps zero p = refl
none_stamped a c key none stamps (suc n) p =
    ap (λ (t : Bool). stamped_by a c key (stamped_with key (c p) p stamps t) n (p + 1)) (none p) ∙ none_stamped a c key none stamps n (p + 1)

-- the stamps of the facts are those of the view
stamps_seen : (f : Facts) (v : Viewed) (b : Bool) → Sees f v → f.exchange.exchanged ≡ b → (with_stamps f b).store.stamps ≡ stamps_of v f.store.stamps partition_count 0
stamps_seen f v true s e =
    stamps_by f (view_key f) f.store.stamps partition_count 0
    ∙ ap (λ (k : ClusterKey). stamped_by (λ q. is_all_empty f q && is_own_replica f (list_at f q)) (λ q. count_in f (list_at f q) q) k f.store.stamps partition_count 0) (ap (λ (x : Exchange). exchange.exchange_key x.view) s.exchange)
    ∙ same_stamped (λ q. is_all_empty f q && is_own_replica f (list_at f q)) (is_stamped v) (λ q. count_in f (list_at f q) q) (count_seen v) (viewed_key v) tests counts f.store.stamps partition_count 0
  where
    done : v.exchange.exchanged ≡ true
    done = ap (λ (x : Exchange). x.exchanged) (sym s.exchange) ∙ e

    tests : (q : ℕ) → (is_all_empty f q && is_own_replica f (list_at f q)) ≡ is_stamped v q
    tests q = rw (s.me, s.factor, s.exchange, done) refl

    counts : (q : ℕ) → count_in f (list_at f q) q ≡ count_seen v q
    counts q = rw (s.me, s.exchange, s.writes) refl
stamps_seen f v false s e = sym (none_stamped (is_stamped v) (count_seen v) (viewed_key v) none f.store.stamps partition_count 0)
  where
    undone : v.exchange.exchanged ≡ false
    undone = ap (λ (x : Exchange). x.exchanged) (sym s.exchange) ∙ e

    none : (q : ℕ) → is_stamped v q ≡ false
    none q = rw undone refl

-- a node's copies that are empty everywhere are stamped
pub stamped_node : (f : Facts) (v : Viewed) (s u : held.StoreWithRoom) → u.versions ≡ s.versions → u.by ≡ s.by → u.stamps ≡ stamps_of v s.stamps partition_count 0 → IsNodeInView f v s → IsNodeInView (with_stamps f f.exchange.exchanged) v u
stamped_node f v s u versions by stamps h = go f.exchange.exchanged refl
  where
    n : IsNode f v s
    n = is_node f v s h

    all : (b : Bool) → f.exchange.exchanged ≡ b → (with_stamps f b).store.stamps ≡ u.stamps
    all b e = stamps_seen f v b n.sight e ∙ (ap (λ (m : Stamps). stamps_of v m partition_count 0) n.stamps ∙ sym stamps)

    go : (b : Bool) → f.exchange.exchanged ≡ b → IsNodeInView (with_stamps f b) v u
    go true e = node_of (with_stamps f true) v u (record {
      sight = record { me = n.sight.me; factor = n.sight.factor; exchange = n.sight.exchange; writes = n.sight.writes; transactions = n.sight.transactions; batches = n.sight.batches; bits = n.sight.bits };
      policy = n.policy;
      pending = n.pending;
      watch = watch_alike f (with_stamps f true) v.watch (λ p. record { me = refl; factor = refl; exchange = refl; own_handed = refl; settled = refl; learnt = refl; holds = refl }) refl n.watch;
      content = n.content ∙ sym versions;
      stamps = all true e;
      by = n.by ∙ sym by;
    })
    go false e = node_of f v u (record {
      sight = n.sight;
      policy = n.policy;
      pending = n.pending;
      watch = n.watch;
      content = n.content ∙ sym versions;
      stamps = all false e;
      by = n.by ∙ sym by;
    })

-- that the exchange is finished, and what is handed on, plays no part in what is stamped
pub stamped_alike : (f : Facts) (ts : Targets) (key : ClusterKey) (stamps : Stamps) (n p : ℕ) → stamped_from (record f { exchange = finished f.exchange; batches = ts }) key stamps n p ≡ stamped_from f key stamps n p
unfolding stamped_from
stamped_alike f ts key stamps zero p = refl
stamped_alike f ts key stamps (suc n) p = stamped_alike f ts key (stamped_at f key (list_at f p) p stamps) n (p + 1)

-- no copy is before the exchange is finished
pub unstamped : (f : Facts) (v : Viewed) (s : held.StoreWithRoom) → v.exchange.exchanged ≡ false → IsNodeInView f v s → IsNodeInView (with_stamps f f.exchange.exchanged) v s
unstamped f v s waits h =
    let off : f.exchange.exchanged ≡ false = ap (λ (x : Exchange). x.exchanged) (is_node f v s h).sight.exchange ∙ waits in
    subst (λ (b : Bool). IsNodeInView (with_stamps f b) v s) (sym off) h
