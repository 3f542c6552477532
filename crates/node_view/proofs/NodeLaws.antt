-- Facts of a node in a view as one partition changes, which is then looked at anew.
use Rattle.std.proofs.Common.{◌≡◌, ◌≢◌, ◌==◌, ◌<◌, ◌-◌, ℕ, Bool, true, false, not, List, refl, sym, ap, ap₂, subst, ◌∙◌}
use Rattle.std.proofs.lemmas.List.{get_or-set_other}
use Rattle.std.specs.FinMap as finite
use Rattle.conflict_order.specs.declared.version.Version.{Version}
use Rattle.conflict_order.specs.declared.policy.Policy.{Policy}
use Rattle.cluster_types.specs.declared.cluster_key.ClusterKey.{ClusterKey}
use Rattle.cluster_types.specs.Partitions.{partition_count, partition_of}
use Rattle.cluster_types.specs.Rows.{bit}
use Rattle.partition_lists.proofs.InOrderLaws.{equal, from_equal}
use Rattle.record_store.specs.Store as held
use Rattle.emigrate.specs.Going.{AreHeld}
use Rattle.node_rules.specs.Batches.{is_pending}
use Rattle.node_rules.specs.Bits.{Bits, handing, learning, settling, with_bit}
use Rattle.node_rules.specs.Copies.{Content, Stamps, holds_of, is_of, joined}
use Rattle.node_rules.specs.Exchange.{Exchange, exchange_key}
use Rattle.node_rules.specs.Facts.{Facts, list_at, view_key}
use Rattle.node_rules.specs.Here.{here}
use Rattle.node_rules.specs.Notes.{count_in, dropped, handed, learnt, merged, settled}
use Rattle.node_rules.specs.Stamps.{changed_stamps, spoiled}
use Rattle.node_rules.specs.Standing.{is_all_empty, knows_settled, knows_settled_by}
use Rattle.node_view.specs.Views.{IsInView, IsNodeInView, IsQuiet, IsSeenTo, Viewed, count_seen, facts_in, learnt_copy, one_more_settled, unsettled_count, with_bits, with_live, without_copy_of}
use Rattle.node_view.specs.Views as views
use Rattle.node_view.proofs.HeldLaws.{holds_dropped, holds_joined, pending_dropped, pending_joined}
use Rattle.node_view.proofs.SightLaws.{Sees, in_view}
use Rattle.node_view.proofs.StepLaws.{is_node, node_of, watch_alike}
use Rattle.node_view.proofs.UnsettledLaws.{one_settled}
use Rattle.node_view.proofs.WatchLaws.{StandsAlike, count_alike, quiet_alike}

-- a node in that view with that store, where one partition is perhaps to be looked at again
pub record IsNodeBut (p : ℕ) (f : Facts) (v : Viewed) (s : held.StoreWithRoom) : Type 0 where
  pub sight : Sees f v
  pub policy : v.by ≡ f.store.by
  pub pending : AreHeld f.store.content v.batches
  pub unsettled : v.watch.unsettled ≡ unsettled_count f
  pub quiet : (q : ℕ) → q ≢ p → q < partition_count → f.exchange.exchanged ≡ true → bit v.watch.live q ≡ false → IsQuiet f q
  pub content : f.store.content ≡ s.versions
  pub stamps : f.store.stamps ≡ s.stamps
  pub by : f.store.by ≡ s.by

pub node_but : (p : ℕ) (f : Facts) (v : Viewed) (s : held.StoreWithRoom) → IsNodeInView f v s → IsNodeBut p f v s
node_but p f v s h =
    let n = is_node f v s h in
    record {
      sight = n.sight;
      policy = n.policy;
      pending = n.pending;
      unsettled = n.watch.unsettled;
      quiet = λ q other within done off. n.watch.live.quiet q within done off;
      content = n.content;
      stamps = n.stamps;
      by = n.by;
    }

-- once it is looked at, all is as said of the view
pub node_seen : (p : ℕ) (f : Facts) (v : Viewed) (s : held.StoreWithRoom) (live : List Bool) → IsNodeBut p f v s → IsSeenTo p f v.watch.live live → IsNodeInView f (with_live v live) s
node_seen p f v s live h seen =
    node_of f (with_live v live) s (record {
      sight = record { me = h.sight.me; factor = h.sight.factor; exchange = h.sight.exchange; writes = h.sight.writes; transactions = h.sight.transactions; batches = h.sight.batches; bits = h.sight.bits };
      policy = h.policy;
      pending = h.pending;
      watch = record { unsettled = h.unsettled; live = record { quiet = λ q within done off. at q (q == p) refl within done off } };
      content = h.content;
      stamps = h.stamps;
      by = h.by;
    })
  where
    at : (q : ℕ) (b : Bool) → (q == p) ≡ b → q < partition_count → f.exchange.exchanged ≡ true → bit live q ≡ false → IsQuiet f q
    at q true e within done off = let here : q ≡ p = from_equal q p e in subst (λ (r : ℕ). IsQuiet f r) (sym here) (seen.quiet done (ap (bit live) (sym here) ∙ off))
    at q false e within done off =
        let other : q ≢ p = λ (i : q ≡ p). let wrong : true ≡ false = sym (equal q p i) ∙ e in cc in
        h.quiet q other within done (sym (seen.others q other) ∙ off)

pub but_in_view : (p : ℕ) (f : Facts) (v : Viewed) (s : held.StoreWithRoom) → IsNodeBut p f v s → IsInView f v
but_in_view p f v s h = in_view f v h.sight

-- the same of facts that stand alike to the other partitions
quiet_but : (p : ℕ) (f g : Facts) (live : List Bool) → ((q : ℕ) → q ≢ p → StandsAlike q f g) → g.exchange ≡ f.exchange
    → ((q : ℕ) → q ≢ p → q < partition_count → f.exchange.exchanged ≡ true → bit live q ≡ false → IsQuiet f q)
    → (q : ℕ) → q ≢ p → q < partition_count → g.exchange.exchanged ≡ true → bit live q ≡ false → IsQuiet g q
quiet_but p f g live s same h q other within done off = quiet_alike q f g (s q other) (h q other within (ap (λ (x : Exchange). x.exchanged) (sym same) ∙ done) off)

pub bit_other : (row : List Bool) (p q : ℕ) → q ≢ p → bit (with_bit row p) q ≡ bit row q
bit_other row p q other = get_or-set_other row p q true false other

-- ---- what a tick does about the partition

pub handed_but : (p : ℕ) (f : Facts) (v : Viewed) (s : held.StoreWithRoom) → IsNodeBut p f v s → IsNodeBut p (handed f p) (with_bits v (handing v.bits p)) s
handed_but p f v s h = record {
  sight = record { me = h.sight.me; factor = h.sight.factor; exchange = h.sight.exchange; writes = h.sight.writes; transactions = h.sight.transactions; batches = h.sight.batches; bits = ap (λ (b : Bits). handing b p) h.sight.bits };
  policy = h.policy;
  pending = h.pending;
  unsettled = h.unsettled ∙ sym (count_alike f (handed f p) (λ q. refl));
  quiet = quiet_but p f (handed f p) v.watch.live
      (λ q other. record { me = refl; factor = refl; exchange = refl; own_handed = bit_other f.bits.own_handed p q other; settled = refl; learnt = refl; holds = refl }) refl h.quiet;
  content = h.content;
  stamps = h.stamps;
  by = h.by;
}

pub settled_but : (p : ℕ) (f : Facts) (v : Viewed) (s : held.StoreWithRoom) → p < partition_count → knows_settled f p ≡ false → bit (with_bit v.bits.settled p) p ≡ true
    → IsNodeBut p f v s → IsNodeBut p (settled f p) (one_more_settled v p) s
settled_but p f v s within before set h = record {
  sight = record { me = h.sight.me; factor = h.sight.factor; exchange = h.sight.exchange; writes = h.sight.writes; transactions = h.sight.transactions; batches = h.sight.batches; bits = ap (λ (b : Bits). settling b p) h.sight.bits };
  policy = h.policy;
  pending = h.pending;
  unsettled = ap (λ (n : ℕ). n - 1) h.unsettled ∙ sym (one_settled f (settled f p) p within before now (λ q other. ap (λ (b : Bool). knows_settled_by b f.exchange.exchanged (is_all_empty f q)) (bit_other f.bits.settled p q other)));
  quiet = quiet_but p f (settled f p) v.watch.live
      (λ q other. record { me = refl; factor = refl; exchange = refl; own_handed = refl; settled = bit_other f.bits.settled p q other; learnt = refl; holds = refl }) refl h.quiet;
  content = h.content;
  stamps = h.stamps;
  by = h.by;
}
  where
    there : bit (with_bit f.bits.settled p) p ≡ true
    there = ap (λ (b : Bits). bit (with_bit b.settled p) p) h.sight.bits ∙ set

    now : knows_settled (settled f p) p ≡ true
    now = ap (λ (b : Bool). knows_settled_by b f.exchange.exchanged (is_all_empty f p)) there

-- the count of a copy goes by the view
pub count_is : (f : Facts) (v : Viewed) (p : ℕ) → Sees f v → count_in f (list_at f p) p ≡ count_seen v p
count_is f v p s = rw (s.me, s.exchange, s.writes) refl

pub learnt_but : (p : ℕ) (f : Facts) (v : Viewed) (s : held.StoreWithRoom) → IsNodeBut p f v s
    → IsNodeBut p (learnt f (view_key f) (list_at f p) p) (with_bits v (learning v.bits p)) (learnt_copy s (views.viewed_key v) p (count_seen v p))
learnt_but p f v s h = record {
  sight = record { me = h.sight.me; factor = h.sight.factor; exchange = h.sight.exchange; writes = h.sight.writes; transactions = h.sight.transactions; batches = h.sight.batches; bits = ap (λ (b : Bits). learning b p) h.sight.bits };
  policy = h.policy;
  pending = h.pending;
  unsettled = h.unsettled ∙ sym (count_alike f (learnt f (view_key f) (list_at f p) p) (λ q. refl));
  quiet = quiet_but p f (learnt f (view_key f) (list_at f p) p) v.watch.live
      (λ q other. record { me = refl; factor = refl; exchange = refl; own_handed = refl; settled = refl; learnt = bit_other f.bits.learnt p q other; holds = refl }) refl h.quiet;
  content = h.content;
  stamps =
      ap (λ (m : Stamps). finite.insert m p (view_key f, count_in f (list_at f p) p)) h.stamps
      ∙ ap₂ (λ (k : ClusterKey) (n : ℕ). finite.insert s.stamps p (k, n)) (ap (λ (x : Exchange). exchange_key x.view) h.sight.exchange) (count_is f v p h.sight);
  by = h.by;
}

pub dropped_but : (p : ℕ) (f : Facts) (v : Viewed) (s : held.StoreWithRoom) → is_pending v.batches p ≡ false → IsNodeBut p f v s → IsNodeBut p (dropped f p) v (without_copy_of s p)
dropped_but p f v s none h = record {
  sight = record { me = h.sight.me; factor = h.sight.factor; exchange = h.sight.exchange; writes = h.sight.writes; transactions = h.sight.transactions; batches = h.sight.batches; bits = h.sight.bits };
  policy = h.policy;
  pending = pending_dropped f.store.content p v.batches none h.pending;
  unsettled = h.unsettled ∙ sym (count_alike f (dropped f p) (λ q. refl));
  quiet = quiet_but p f (dropped f p) v.watch.live
      (λ q other. record { me = refl; factor = refl; exchange = refl; own_handed = refl; settled = refl; learnt = refl; holds = holds_dropped f.store.content p q other }) refl h.quiet;
  content = ap (λ (c : Content). finite.retain_keys c (λ d. not (is_of p d))) h.content;
  stamps = ap (λ (m : Stamps). finite.remove m p) h.stamps;
  by = h.by;
}

-- ---- a record that comes

pub merged_but : (f : Facts) (v : Viewed) (s u : held.StoreWithRoom) (digest : List ℕ) (x : Version) → u.versions ≡ joined s.by s.versions digest x
    → u.stamps ≡ changed_stamps s.stamps (partition_of digest) (spoiled (views.viewed_key v)) (finite.get s.stamps (partition_of digest)) → u.by ≡ s.by
    → IsNodeBut (partition_of digest) f v s → IsNodeBut (partition_of digest) (merged f (view_key f) digest x) v u
merged_but f v s u digest x versions stamps by h = record {
  sight = record { me = h.sight.me; factor = h.sight.factor; exchange = h.sight.exchange; writes = h.sight.writes; transactions = h.sight.transactions; batches = h.sight.batches; bits = h.sight.bits };
  policy = h.policy;
  pending = pending_joined f.store.by f.store.content digest x v.batches h.pending;
  unsettled = h.unsettled ∙ sym (count_alike f (merged f (view_key f) digest x) (λ q. refl));
  quiet = quiet_but (partition_of digest) f (merged f (view_key f) digest x) v.watch.live
      (λ q other. record { me = refl; factor = refl; exchange = refl; own_handed = refl; settled = refl; learnt = refl; holds = holds_joined f.store.by f.store.content digest x q other }) refl h.quiet;
  content = ap₂ (λ (b : Policy) (c : Content). joined b c digest x) h.by h.content ∙ sym versions;
  stamps =
      ap₂ (λ (m : Stamps) (k : ClusterKey). changed_stamps m (partition_of digest) (spoiled k) (finite.get m (partition_of digest))) h.stamps (ap (λ (y : Exchange). exchange_key y.view) h.sight.exchange)
      ∙ sym stamps;
  by = h.by ∙ sym by;
}

-- ---- the facts of a node that are known by its view and its store

pub node_in : (g : Facts) (v : Viewed) (s : held.StoreWithRoom) → IsNodeInView g v s → IsNodeInView (facts_in v s) v s
node_in g v s h =
    let n = is_node g v s h in
    node_of (facts_in v s) v s (record {
      sight = record { me = refl; factor = refl; exchange = refl; writes = refl; transactions = refl; batches = refl; bits = refl };
      policy = n.policy ∙ n.by;
      pending = subst (λ (c : Content). AreHeld c v.batches) n.content n.pending;
      watch = watch_alike g (facts_in v s) v.watch
          (λ p. record {
            me = sym n.sight.me;
            factor = sym n.sight.factor;
            exchange = sym n.sight.exchange;
            own_handed = ap (λ (b : Bits). bit b.own_handed p) (sym n.sight.bits);
            settled = ap (λ (b : Bits). bit b.settled p) (sym n.sight.bits);
            learnt = ap (λ (b : Bits). bit b.learnt p) (sym n.sight.bits);
            holds = ap (λ (c : Content). holds_of c p) (sym n.content);
          })
          (sym n.sight.exchange) n.watch;
      content = refl;
      stamps = refl;
      by = refl;
    })

pub here_in : (g : Facts) (v : Viewed) (s : held.StoreWithRoom) (q : ℕ) → IsNodeInView g v s → here (facts_in v s) (list_at (facts_in v s) q) q ≡ here g (list_at g q) q
here_in g v s q h =
    let n = is_node g v s h in
    rw (n.sight.me, n.sight.factor, n.sight.exchange, n.sight.transactions, n.sight.batches, n.sight.bits, n.content) refl
