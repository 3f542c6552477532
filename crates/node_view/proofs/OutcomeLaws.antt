-- Facts of a node in a view after a step of a transaction, or after a write.
use Rattle.std.proofs.Common.{◌≡◌, ◌<◌, ◌≤◌, ◌+◌, ℕ, Bool, true, false, List, [], ◌∷◌, Option, Some, None, is_some, option_map, count_by, refl, sym, ap, ap₂, subst, ◌∙◌, arith}
use Rattle.std.specs.Prelude.{unwrap_or}
use Rattle.std.proofs.lemmas.Bool.Decides.{nat_tests}
use Rattle.std.specs.FinMap as map
use Rattle.conflict_order.specs.declared.policy.Policy.{Policy}
use Rattle.conflict_order.specs.declared.version.Version.{Version}
use Rattle.conflict_order.specs.declared.want.Want.{Want}
use Rattle.cluster_types.specs.declared.cluster_key.ClusterKey.{ClusterKey}
use Rattle.cluster_types.specs.Partitions.{partition_of}
use Rattle.record_store.specs.Store as held
use Rattle.record_store.specs.Store.{HasRoom, room_at}
use Rattle.node_rules.specs.Copies.{Content, Stamps, is_of, joined}
use Rattle.node_rules.specs.Exchange.{Exchange, exchange_key}
use Rattle.node_rules.specs.Facts.{Facts, list_at, view_key}
use Rattle.node_rules.specs.Notes.{write_applied, closed, count_in, write_counted}
use Rattle.node_rules.specs.Standing.{other_replicas}
use Rattle.node_rules.specs.Stamps.{Writes, applies_at, applying, changed_stamps, hearing_write, recounted, spoiled}
use Rattle.node_rules.specs.Transactions as rules
use Rattle.node_rules.specs.Transactions.{Transaction, Transactions, transaction}
use Rattle.dup_resolve.specs.Open as table
use Rattle.write_path.specs.Writes.{IsToWrite}
use Rattle.node_view.specs.declared.view.View.TheInside.{Inside}
use Rattle.node_view.specs.declared.view_step.Outcome.TheVariants as outcome
use Rattle.node_view.specs.declared.view_step.Writing.{Writing}
use Rattle.node_view.specs.Fits.{FitsWriting, IsReadyToResolve}
use Rattle.node_view.specs.Rooms.{HasRoomToWrite}
use Rattle.node_view.specs.Transactions.{AreNoted, kept_of}
use Rattle.node_view.specs.Plans.{with_answer, with_opened}
use Rattle.node_view.specs.Views as views
use Rattle.node_view.specs.Views.{IsInView, IsNodeInView, IsSeenTo, ViewRoom, Viewed, Watch, count_seen, digest_in, facts_in, facts_seen, view_of, with_live}
use Rattle.node_view.proofs.HeldLaws.{holds_joined, pending_joined}
use Rattle.node_view.proofs.ShownLaws.{transaction_kept}
use Rattle.node_view.proofs.SightLaws.{Sees, in_view, sees}
use Rattle.node_view.proofs.StepLaws.{is_node, node_of, with_transactions, with_writes}
use Rattle.node_view.proofs.WatchLaws.{count_alike, live_seen}

-- ---- the open transactions change

-- by a change that goes by the policy and by the transactions alone
changes : (f : Facts) (v : Viewed) (s : held.StoreWithRoom) (change : Policy → Transactions → Transactions) (room : ViewRoom) → IsNodeInView f v s
    → IsNodeInView (record f { transactions = change f.store.by f.transactions }) (record v { transactions = change v.by v.transactions; room = room }) s
changes f v s change room h =
    let same : change v.by v.transactions ≡ change f.store.by f.transactions = ap₂ change h.view.policy (sym (sees f v h.view.viewed).transactions) in
    subst (λ (ts : Transactions). IsNodeInView (record f { transactions = ts }) (record v { transactions = change v.by v.transactions; room = room }) s) same
    (with_transactions f v s (change v.by v.transactions) room h)

pub closes : (f : Facts) (v w : Viewed) (s : held.StoreWithRoom) (number : ℕ) → w ≡ record v { transactions = rules.without_transaction v.transactions number; room = w.room }
    → IsNodeInView f v s → IsNodeInView (closed f number) w s
closes f v w s number is h =
    subst (λ (u : Viewed). IsNodeInView (closed f number) u s) (sym is) (changes f v s (λ by ts. rules.without_transaction ts number) w.room h)

pub acknowledges : (f : Facts) (v w : Viewed) (s : held.StoreWithRoom) (from number : ℕ) → w ≡ record v { transactions = rules.acknowledging v.transactions from number }
    → IsNodeInView f v s → IsNodeInView (record f { transactions = rules.acknowledging f.transactions from number }) w s
acknowledges f v w s from number is h =
    subst (λ (u : Viewed). IsNodeInView (record f { transactions = rules.acknowledging f.transactions from number }) u s) (sym is)
    (changes f v s (λ by ts. rules.acknowledging ts from number) v.room h)

pub answers : (f : Facts) (v w : Viewed) (s : held.StoreWithRoom) (from number : ℕ) (x : Option Version) → w ≡ record v { transactions = rules.answering v.by v.transactions from number x }
    → IsNodeInView f v s → IsNodeInView (with_answer f from number x) w s
answers f v w s from number x is h =
    subst (λ (u : Viewed). IsNodeInView (with_answer f from number x) u s) (sym is)
    (changes f v s (λ by ts. rules.answering by ts from number x) v.room h)

pub opens : (f : Facts) (v w : Viewed) (s : held.StoreWithRoom) (digest : List ℕ) (want : Want) (best : Option Version) (asked : List ℕ) (room : ViewRoom)
    → w ≡ record v { transactions = rules.opening v.transactions (rules.new_transaction (v.transactions.opened + 1) digest want best asked); room = room }
    → IsNodeInView f v s → IsNodeInView (with_opened f digest want best asked) w s
opens f v w s digest want best asked room is h =
    subst (λ (u : Viewed). IsNodeInView (with_opened f digest want best asked) u s) (sym is)
    (changes f v s (λ by ts. rules.opening ts (rules.new_transaction (ts.opened + 1) digest want best asked)) room h)

-- ---- the list master's write counts

-- the count of a copy goes by what the view has
count_is : (f : Facts) (v : Viewed) (ws us : Writes) (p : ℕ) → Sees f v → ws ≡ us → count_in (record f { writes = ws }) (list_at f p) p ≡ count_in (record (facts_seen v) { writes = us }) (list_at (facts_seen v) p) p
count_is f v ws us p s same = rw (s.me, s.exchange, same) refl

pub counts : (f : Facts) (v w : Viewed) (s u : held.StoreWithRoom) (p nth count : ℕ) (key : ClusterKey) → w ≡ record v { writes = hearing_write v.writes p nth; room = w.room }
    → count ≡ count_seen w p → key ≡ views.viewed_key v → u.stamps ≡ changed_stamps s.stamps p (recounted key count) (map.get s.stamps p) → u.versions ≡ s.versions → u.by ≡ s.by
    → IsNodeInView f v s → IsNodeInView (write_counted f (view_key f) (list_at f p) p nth) w u
counts f v w s u p nth count key is number of stamps versions by h =
    let n = is_node f v s h in
    let ws = hearing_write v.writes p nth in
    let heard : hearing_write f.writes p nth ≡ ws = ap (λ (x : Writes). hearing_write x p nth) n.sight.writes in
    let same_key : view_key f ≡ key = ap (λ (x : Exchange). exchange_key x.view) n.sight.exchange ∙ sym of in
    let total : count_in (record f { writes = hearing_write f.writes p nth }) (list_at f p) p ≡ count
    = count_is f v (hearing_write f.writes p nth) ws p n.sight heard ∙ sym (number ∙ ap (λ (x : Viewed). count_seen x p) is) in
    let store : changed_stamps f.store.stamps p (recounted (view_key f) (count_in (record f { writes = hearing_write f.writes p nth }) (list_at f p) p)) (map.get f.store.stamps p) ≡ u.stamps
    = rw (n.stamps, same_key, total) (sym stamps) in
    subst (λ (x : Viewed). IsNodeInView (write_counted f (view_key f) (list_at f p) p nth) x u)
    (sym is)
    (subst (λ (g : Facts). IsNodeInView g (record v { writes = ws; room = w.room }) u)
    (sym (ap₂ (λ (x : Writes) (y : Stamps). record f { writes = x; store = record f.store { stamps = y } }) heard store))
    (with_writes f v s u ws w.room versions by h))

-- room for one
pub one_room : (d : List ℕ) (spare : List ℕ) → 0 < room_at spare (partition_of d) → HasRoom (d ∷ []) spare
one_room d spare some = record { room = λ p within. at p (is_of p d) refl }
  where
    at : (p : ℕ) (b : Bool) → is_of p d ≡ b → count_by (is_of p) (d ∷ []) ≤ room_at spare p
    at p true e =
        let here : partition_of d ≡ p = grind (arith, nat_tests, e) in
        let there : 0 < room_at spare p = subst (λ (q : ℕ). 0 < room_at spare q) here some in
        rw e (omega (arith, there))
    at p false e = rw e (omega arith)

-- ---- the node applies a write

-- the open transaction is this one, and its write fits
pub record IsWriting (v : Viewed) (s : held.StoreWithRoom) (number : ℕ) (w : Writing) (t : Transaction) : Type 0 where
  pub found : transaction v.transactions number ≡ Some t
  pub digest : digest_in v number ≡ t.digest
  pub fits : FitsWriting (facts_in v s) t w
  pub room : HasRoomToWrite v.room s.spare t.digest

pub is_writing : (v : Viewed) (s : held.StoreWithRoom) (number : ℕ) (w : Writing) → IsReadyToResolve v s number (outcome.Write w) → (t : Transaction) × IsWriting v s number w t
is_writing v s number w h = go (transaction v.transactions number) refl
  where
    go : (o : Option Transaction) → transaction v.transactions number ≡ o → (t : Transaction) × IsWriting v s number w t
    go None e = absurd (let wrong : true ≡ false = sym h.fits.open_one ∙ ap is_some e in cc)
    go (Some t) e =
        let digest : digest_in v number ≡ t.digest = ap (λ (o : Option Transaction). unwrap_or (option_map (λ (x : Transaction). x.digest) o) []) e in
        (t, record { found = e; digest = digest; fits = h.fits.outcome_of t e; room = subst (λ (d : List ℕ). HasRoomToWrite v.room s.spare d) digest h.room })

-- dup_resolve has it
pub found_writing : (i : Inside) (v : Viewed) (s : held.StoreWithRoom) (number : ℕ) (w : Writing) (t : Transaction) → AreNoted i.txns i.notes → view_of i ≡ v → IsWriting v s number w t
    → table.txn_at i.txns.running number ≡ Some (kept_of t)
found_writing i v s number w t noted is x =
    transaction_kept i.txns i.notes number noted ∙ ap (option_map kept_of) (ap (λ (u : Viewed). transaction u.transactions number) is ∙ x.found)

pub is_to_write : (f : Facts) (t : Transaction) (w : Writing) → FitsWriting f t w → IsToWrite (kept_of t)
is_to_write f t w h = record { write = h.write; unapplied = ap is_some h.unapplied; resolved = h.resolved }

-- the write was joined in, numbered and counted, and its partition was looked at
pub record IsApplied (p : ℕ) (v u w : Viewed) (s a t : held.StoreWithRoom) (number : ℕ) (digest : List ℕ) (key : ClusterKey) (count : ℕ) (x y : Version) (to : List ℕ) : Type 0 where
  pub view : u ≡ record v { writes = applying v.writes p; transactions = rules.changing v.transactions number (rules.with_write x (applies_at v.writes p + 1) to); room = u.room }
  pub looked : w ≡ with_live u w.watch.live
  pub seen : (f : Facts) → IsInView f u → f.store.content ≡ t.versions → IsSeenTo p f u.watch.live w.watch.live
  pub kept : x ≡ y
  pub replicas : to ≡ other_replicas (facts_in v s) (list_at (facts_in v s) p)
  pub versions : a.versions ≡ joined s.by s.versions digest y
  pub stamps : a.stamps ≡ s.stamps
  pub by : a.by ≡ s.by
  pub numbered : count ≡ count_seen u p
  pub keyed : key ≡ views.viewed_key v
  pub versions_after : t.versions ≡ a.versions
  pub stamps_after : t.stamps ≡ changed_stamps a.stamps p (λ stamp. recounted key count (spoiled key stamp)) (map.get a.stamps p)
  pub by_after : t.by ≡ a.by

replicas_seen : (f : Facts) (v : Viewed) (s : held.StoreWithRoom) (p : ℕ) → Sees f v → other_replicas f (list_at f p) ≡ other_replicas (facts_in v s) (list_at (facts_in v s) p)
replicas_seen f v s p h = rw (h.me, h.factor, h.exchange) refl

pub applies : (f : Facts) (v u w : Viewed) (s a t : held.StoreWithRoom) (number : ℕ) (digest : List ℕ) (key : ClusterKey) (count : ℕ) (x y : Version) (to : List ℕ)
    → IsApplied (partition_of digest) v u w s a t number digest key count x y to
    → IsNodeInView f v s → IsNodeInView (write_applied f (view_key f) (list_at f (partition_of digest)) number digest y) w t
applies f v u w s a t number digest key count x y to d h =
    let p = partition_of digest in
    let n = is_node f v s h in
    let g = write_applied f (view_key f) (list_at f p) number digest y in
    let ws = applying v.writes p in
    let ts = rules.changing v.transactions number (rules.with_write x (applies_at v.writes p + 1) to) in
    let writes : applying f.writes p ≡ ws = ap (λ (z : Writes). applying z p) n.sight.writes in
    let replicas : other_replicas f (list_at f p) ≡ to = replicas_seen f v s p n.sight ∙ sym d.replicas in
    let transactions : g.transactions ≡ ts = rw (n.sight.transactions, n.sight.writes, replicas, ← d.kept) refl in
    let sight_u : Sees g u
    = subst (λ (z : Viewed). Sees g z) (sym d.view)
    (record { me = n.sight.me; factor = n.sight.factor; exchange = n.sight.exchange; writes = writes; transactions = transactions; batches = n.sight.batches; bits = n.sight.bits }) in
    let content : g.store.content ≡ t.versions
    = ap₂ (λ (b : Policy) (c : Content). joined b c digest y) n.by n.content ∙ sym (d.versions_after ∙ d.versions) in
    let same_key : view_key f ≡ key = ap (λ (z : Exchange). exchange_key z.view) n.sight.exchange ∙ sym d.keyed in
    let total : count_in (record f { writes = applying f.writes p }) (list_at f p) p ≡ count
    = count_is f v (applying f.writes p) ws p n.sight writes ∙ sym (d.numbered ∙ ap (λ (z : Viewed). count_seen z p) d.view) in
    let stamps : g.store.stamps ≡ t.stamps
    = rw (n.stamps, same_key, total) (sym (d.stamps_after ∙ ap (λ (z : Stamps). changed_stamps z p (λ stamp. recounted key count (spoiled key stamp)) (map.get z p)) d.stamps)) in
    let seen : IsSeenTo p g v.watch.live w.watch.live
    = subst (λ (z : Viewed). IsSeenTo p g z.watch.live w.watch.live) d.view (d.seen g (in_view g u sight_u) content) in
    let whole : w ≡ record v { writes = ws; transactions = ts; room = u.room; watch = record v.watch { live = w.watch.live } }
    = d.looked ∙ ap (λ (z : Viewed). with_live z w.watch.live) d.view in
    subst (λ (z : Viewed). IsNodeInView g z t) (sym whole)
    (node_of g (record v { writes = ws; transactions = ts; room = u.room; watch = record v.watch { live = w.watch.live } }) t (record {
      sight = record { me = n.sight.me; factor = n.sight.factor; exchange = n.sight.exchange; writes = writes; transactions = transactions; batches = n.sight.batches; bits = n.sight.bits };
      policy = n.policy;
      pending = pending_joined f.store.by f.store.content digest y v.batches n.pending;
      watch = record {
        unsettled = n.watch.unsettled ∙ sym (count_alike f g (λ q. refl));
        live = live_seen p f g v.watch.live w.watch.live
            (λ q other. record { me = refl; factor = refl; exchange = refl; own_handed = refl; settled = refl; learnt = refl; holds = holds_joined f.store.by f.store.content digest y q other })
            refl n.watch.live seen;
      };
      content = content;
      stamps = stamps;
      by = n.by ∙ sym (d.by_after ∙ d.by);
    }))

-- the same with the partition as it was found
pub applies_at_place : (f : Facts) (v u w : Viewed) (s a t : held.StoreWithRoom) (number : ℕ) (digest : List ℕ) (key : ClusterKey) (count : ℕ) (x y : Version) (to : List ℕ)
    → (p : ℕ) → p ≡ partition_of digest → IsApplied p v u w s a t number digest key count x y to
    → IsNodeInView f v s → IsNodeInView (write_applied f (view_key f) (list_at f (partition_of digest)) number digest y) w t
applies_at_place f v u w s a t number digest key count x y to p here d h =
    applies f v u w s a t number digest key count x y to (subst (λ (q : ℕ). IsApplied q v u w s a t number digest key count x y to) here d) h
