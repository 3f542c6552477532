-- What a tick does about partitions, one after another.
use Rattle.std.proofs.Common.{◌≡◌, ◌≢◌, ◌==◌, ◌<◌, ◌+◌, ◌&&◌, ◌||◌, ℕ, zero, suc, Bool, true, false, not, List, [], ◌∷◌, drop, get_or, length, if◌then◌else◌, refl, sym, ap, ap₂, subst, ◌∙◌, arith}
use Rattle.std.proofs.lemmas.List.{drop_more}
use Rattle.std.specs.Prelude.{slice_index_or}
use Rattle.cluster_types.specs.declared.cluster_key.ClusterKey.{ClusterKey}
use Rattle.cluster_types.specs.declared.map_view.MapEntry.{MapEntry}
use Rattle.cluster_types.specs.Partitions.{partition_count}
use Rattle.cluster_types.specs.Rows.{bit}
use Rattle.record_store.specs.Store as held
use Rattle.exchange.specs.Met.{Met}
use Rattle.exchange.specs.Met as met
use Rattle.progress.specs.Known as known
use Rattle.dup_resolve.specs.Open as resolving
use Rattle.node_rules.specs.Batches.{is_pending}
use Rattle.node_rules.specs.Bits.{Bits, handing, learning, with_bit}
use Rattle.node_rules.specs.Exchange.{Exchange}
use Rattle.node_rules.specs.Facts.{Facts, list_at, view_key}
use Rattle.node_rules.specs.Here.{here, hands, settles, drops}
use Rattle.node_rules.specs.Map as map
use Rattle.node_rules.specs.Notes.{dropped, handed, learnt, settled}
use Rattle.node_rules.specs.Standing.{has_settled_bit, is_done, knows_settled, knows_settled_by}
use Rattle.node_view.specs.declared.here.Settling.{Settling}
use Rattle.node_view.specs.declared.view.View.TheInside.{Inside}
use Rattle.node_view.specs.Fits.{AreSettlings}
use Rattle.node_view.specs.Plans.{changed_where, settled_at}
use Rattle.node_view.specs.Settlings.{settling_of}
use Rattle.node_view.specs.Views.{FieldsAgree, IsNodeInView, Viewed, count_seen, facts_in, facts_seen, viewed_key, learnt_copy, one_more_settled, view_of, with_bits, without_copy_of}
use Rattle.node_view.proofs.HeldLaws.{holds_dropped}
use Rattle.node_view.proofs.HereLaws.{acting_is, all_done_is, busy_is, empty_is, others_are, own_row_is}
use Rattle.node_view.proofs.NodeLaws.{IsNodeBut, bit_other, dropped_but, handed_but, here_in, learnt_but, node_but, settled_but}
use Rattle.node_view.proofs.SightLaws.{Sees}
use Rattle.node_view.proofs.StepLaws.{is_node}
use Rattle.node_view.proofs.UnsettledLaws.{is_counted}

-- ---- what is due, as the code tests it

-- what the fields of a view say is seen of it
pub seen_inside : (i : Inside) (v : Viewed) → view_of i ≡ v → Sees (facts_seen v) (view_of i)
seen_inside i v is = subst (λ (w : Viewed). Sees (facts_seen v) w) (sym is) (record { me = refl; factor = refl; exchange = refl; writes = refl; transactions = refl; batches = refl; bits = refl })

abbrev hands_by : Bool → Bool → Bool → Bool → Bool → Bool
hands_by acting master own all_done busy = acting && (not master && (not own && (all_done && not busy)))

same_hands : (a b c d e a' b' c' d' e' : Bool) → a ≡ a' → b ≡ b' → c ≡ c' → d ≡ d' → e ≡ e' → hands_by a b c d e ≡ hands_by a' b' c' d' e'
same_hands a b c d e a' b' c' d' e' i j k l m = rw (i, j, k, l, m) refl

abbrev settles_by : Bool → Bool → Bool → Bool → Bool → Bool → Bool → Bool
settles_by master empty settled busy handed acting all_done = master && (not empty && (not settled && (not busy && (handed || (acting && all_done)))))

same_settles : (a b c d e f g a' b' c' d' e' f' g' : Bool) → a ≡ a' → b ≡ b' → c ≡ c' → d ≡ d' → e ≡ e' → f ≡ f' → g ≡ g' → settles_by a b c d e f g ≡ settles_by a' b' c' d' e' f' g'
same_settles a b c d e f g a' b' c' d' e' f' g' i j k l m n o = rw (i, j, k, l, m, n, o) refl

-- a transaction is open, as dup_resolve tells
abbrev IsBusyBy : Inside → ℕ → Bool → Type 0
IsBusyBy i p busy = busy ≡ resolving.has_txn_on i.txns.running p

list_master : (f : Facts) (x : Met) (p me : ℕ) → f.exchange ≡ x.exchange → f.me ≡ me → (map.list_master (met.served_list x p) == me) ≡ (map.list_master (list_at f p) == f.me)
list_master f x p me same own = rw (same, own) refl

pub may_hand_is : (f : Facts) (i : Inside) (x : Met) (p : ℕ) (e : MapEntry) (busy : Bool) → FieldsAgree i → Sees f (view_of i) → f.exchange ≡ x.exchange → p < partition_count → e ≡ met.served_entry x p → IsBusyBy i p busy
    → known.hands_entry i.progress p e busy ≡ hands (here f (list_at f p) p)
may_hand_is f i x p e busy a s same within is busy_is_told =
    let me : f.me ≡ i.progress.me = s.me ∙ sym a.told in
    same_hands _ _ _ _ _ _ _ _ _ _
    (acting_is f x p i.progress.me e.acting same me (ap (λ (m : MapEntry). m.acting) is))
    (ap (λ (m : MapEntry). map.list_master m.list == i.progress.me) is ∙ list_master f x p i.progress.me same me)
    (ap (λ (b : Bits). bit b.own_handed p) (sym s.bits))
    (all_done_is f i.progress i.learnt.value p (known.all_done i.progress p) within (own_row_is f i a s) (others_are f i a s) s.bits refl)
    (busy_is f i.txns i.notes p busy a.noted s.transactions busy_is_told)

pub may_settle_is : (f : Facts) (i : Inside) (x : Met) (p : ℕ) (e : MapEntry) (busy : Bool) → FieldsAgree i → Sees f (view_of i) → f.exchange ≡ x.exchange → p < partition_count → e ≡ met.served_entry x p → IsBusyBy i p busy
    → known.settles_entry i.progress p e busy ≡ settles (here f (list_at f p) p)
may_settle_is f i x p e busy a s same within is busy_is_told =
    let me : f.me ≡ i.progress.me = s.me ∙ sym a.told in
    same_settles _ _ _ _ _ _ _ _ _ _ _ _ _ _
    (ap (λ (m : MapEntry). map.list_master m.list == i.progress.me) is ∙ list_master f x p i.progress.me same me)
    (empty_is f x p e.all_empty same (ap (λ (m : MapEntry). m.all_empty) is))
    (ap (λ (b : Bits). bit b.settled p) (sym s.bits))
    (busy_is f i.txns i.notes p busy a.noted s.transactions busy_is_told)
    (ap (λ (b : Bits). bit b.handed p) (sym s.bits))
    (acting_is f x p i.progress.me e.acting same me (ap (λ (m : MapEntry). m.acting) is))
    (all_done_is f i.progress i.learnt.value p (known.all_done i.progress p) within (own_row_is f i a s) (others_are f i a s) s.bits refl)

-- ---- what follows of what is due

hands_no_master : (a m o d b : Bool) → hands_by a m o d b ≡ true → m ≡ false
hands_no_master true true o d b e = cc
hands_no_master true false o d b e = refl
hands_no_master false m o d b e = cc

settles_master : (m e s b h a d : Bool) → settles_by m e s b h a d ≡ true → m ≡ true
settles_master true e s b h a d i = refl
settles_master false e s b h a d i = cc

settles_unknown : (m e s b h a d x : Bool) → settles_by m e s b h a d ≡ true → knows_settled_by s x e ≡ false
settles_unknown true true s b h a d x i = cc
settles_unknown true false true b h a d x i = cc
settles_unknown true false false b h a d true i = refl
settles_unknown true false false b h a d false i = refl
settles_unknown false e s b h a d x i = cc

-- what is settled now isn't known settled
pub settles_unsettled : (f : Facts) (l : List ℕ) (p : ℕ) → settles (here f l p) ≡ true → knows_settled f p ≡ false
settles_unsettled f l p h =
    let k = here f l p in
    settles_unknown k.master k.empty k.settled k.busy k.handed k.acting k.all_done f.exchange.exchanged h

-- the view after the partition was handed over, where that was due
abbrev pub handed_if : Viewed → ℕ → Bool → Viewed
handed_if v p b = with_bits v (if b then handing v.bits p else v.bits)

-- what is settled is settled also after a hand-over, which isn't due then
pub settles_after : (v : Viewed) (p : ℕ) (a : Bool) → hands (here (facts_seen v) (list_at (facts_seen v) p) p) ≡ a → settles (here (facts_seen v) (list_at (facts_seen v) p) p) ≡ true
    → settles (here (facts_seen (handed_if v p a)) (list_at (facts_seen (handed_if v p a)) p) p) ≡ true
settles_after v p false e h = h
settles_after v p true e h =
    let k = here (facts_seen v) (list_at (facts_seen v) p) p in
    let wrong : false ≡ true = sym (hands_no_master k.acting k.master k.own_handed k.all_done k.busy e) ∙ settles_master k.master k.empty k.settled k.busy k.handed k.acting k.all_done h in
    absurd (let w : false ≡ true = wrong in cc)

-- it is counted then
pub settles_counted : (v : Viewed) (s : held.StoreWithRoom) (p : ℕ) (a : Bool) → p < partition_count → IsNodeInView (facts_in v s) v s → settles (here (facts_seen v) (list_at (facts_seen v) p) p) ≡ true
    → 0 < (handed_if v p a).watch.unsettled
settles_counted v s p a within h due =
    subst (λ (n : ℕ). 0 < n) (sym h.view.watch.unsettled) (is_counted (facts_in v s) p within (settles_unsettled (facts_in v s) (list_at (facts_in v s) p) p due))

-- ---- the steps at one partition, where they are due

handed_step : (p : ℕ) (f : Facts) (v : Viewed) (s : held.StoreWithRoom) (b : Bool) → IsNodeBut p f v s → IsNodeBut p (changed_where b (λ g. handed g p) f) (handed_if v p b) s
handed_step p f v s true h = handed_but p f v s h
handed_step p f v s false h = h

settled_step : (p : ℕ) (f : Facts) (v : Viewed) (s : held.StoreWithRoom) (b : Bool) → p < partition_count → (b ≡ true → knows_settled f p ≡ false) → (b ≡ true → bit (with_bit v.bits.settled p) p ≡ true)
    → IsNodeBut p f v s → IsNodeBut p (changed_where b (λ g. settled g p) f) (if b then one_more_settled v p else v) s
settled_step p f v s true within before set h = settled_but p f v s within (before refl) (set refl) h
settled_step p f v s false within before set h = h

learnt_step : (p : ℕ) (f : Facts) (v : Viewed) (s : held.StoreWithRoom) (key : ClusterKey) (l : List ℕ) (b : Bool) → key ≡ view_key f → l ≡ list_at f p → IsNodeBut p f v s
    → IsNodeBut p (changed_where b (λ g. learnt g key l p) f) (with_bits v (if b then learning v.bits p else v.bits)) (if b then learnt_copy s (viewed_key v) p (count_seen v p) else s)
learnt_step p f v s key l true of at h =
    subst (λ (k : ClusterKey). IsNodeBut p (learnt f k l p) (with_bits v (learning v.bits p)) (learnt_copy s (viewed_key v) p (count_seen v p))) (sym of)
    (subst (λ (m : List ℕ). IsNodeBut p (learnt f (view_key f) m p) (with_bits v (learning v.bits p)) (learnt_copy s (viewed_key v) p (count_seen v p))) (sym at) (learnt_but p f v s h))
learnt_step p f v s key l false of at h = h

dropped_step : (p : ℕ) (f : Facts) (v : Viewed) (s : held.StoreWithRoom) (b : Bool) → (b ≡ true → is_pending v.batches p ≡ false) → IsNodeBut p f v s
    → IsNodeBut p (changed_where b (λ g. dropped g p) f) v (if b then without_copy_of s p else s)
dropped_step p f v s true none h = dropped_but p f v s (none refl) h
dropped_step p f v s false none h = h

-- whether it was known settled before a hand-over
known_before : (f : Facts) (p : ℕ) (a : Bool) → knows_settled (changed_where a (λ g. handed g p) f) p ≡ knows_settled f p
known_before f p true = refl
known_before f p false = refl

key_stays : (f : Facts) (p : ℕ) (a b : Bool) → view_key f ≡ view_key (changed_where b (λ g. settled g p) (changed_where a (λ g. handed g p) f))
key_stays f p true true = refl
key_stays f p true false = refl
key_stays f p false true = refl
key_stays f p false false = refl

list_stays : (f : Facts) (p : ℕ) (a b : Bool) → list_at f p ≡ list_at (changed_where b (λ g. settled g p) (changed_where a (λ g. handed g p) f)) p
list_stays f p true true = refl
list_stays f p true false = refl
list_stays f p false true = refl
list_stays f p false false = refl

-- the views and the stores after each of the steps at a partition
pub record AreSteps (t : Settling) (v0 v1 v2 v3 : Viewed)
    (s0 s1 s2 : held.StoreWithRoom) : Type 0 where
  pub hand : v1 ≡ handed_if v0 t.partition t.hands
  pub settle : v2 ≡ (if t.settles then one_more_settled v1 t.partition else v1)
  pub set : t.settles ≡ true → bit v2.bits.settled t.partition ≡ true
  pub learn : v3 ≡ with_bits v2 (if t.learns then learning v2.bits t.partition else v2.bits)
  pub learnt_in : s1 ≡ (if t.learns then learnt_copy s0 (viewed_key v2) t.partition (count_seen v2 t.partition) else s0)
  pub drop : s2 ≡ (if t.drops then without_copy_of s1 t.partition else s1)

-- nothing is pending at a partition whose copy is dropped
pub none_pending : (f : Facts) (l : List ℕ) (p : ℕ) → drops (here f l p) ≡ true → is_done f p ≡ true
none_pending f l p h = go (here f l p).settled (settles (here f l p)) (is_done f p) _ h
  where
    go : (s t d r : Bool) → ((s || t) && (d && r)) ≡ true → d ≡ true
    go true t true r e = refl
    go true t false r e = cc
    go false true true r e = refl
    go false true false r e = cc
    go false false d r e = cc

pub done_not_pending : (x k : Bool) → (x && not k) ≡ true → k ≡ false
done_not_pending true true e = cc
done_not_pending true false e = refl
done_not_pending false k e = cc

set_there : (v1 v2 : Viewed) (p : ℕ) (b : Bool) → v2 ≡ (if b then one_more_settled v1 p else v1) → (b ≡ true → bit v2.bits.settled p ≡ true) → b ≡ true → bit (with_bit v1.bits.settled p) p ≡ true
set_there v1 v2 p true is set e = sym (ap (λ (v : Viewed). bit v.bits.settled p) is) ∙ set refl
set_there v1 v2 p false is set e = cc

batches_stay : (t : Settling) (v0 v1 v2 v3 : Viewed) (s0 s1 s2 : held.StoreWithRoom) → AreSteps t v0 v1 v2 v3 s0 s1 s2 → v3.batches ≡ v0.batches
batches_stay t v0 v1 v2 v3 s0 s1 s2 h =
    ap (λ (v : Viewed). v.batches) h.learn ∙ (ap (λ (v : Viewed). v.batches) h.settle ∙ (go t.settles ∙ ap (λ (v : Viewed). v.batches) h.hand))
  where
    go : (b : Bool) → (if b then one_more_settled v1 t.partition else v1).batches ≡ v1.batches
    go true = refl
    go false = refl

pub settled_node : (f : Facts) (t : Settling) (v0 v1 v2 v3 : Viewed) (s0 s1 s2 : held.StoreWithRoom) → AreSteps t v0 v1 v2 v3 s0 s1 s2 → t.partition < partition_count
    → t ≡ settling_of t.partition (here f (list_at f t.partition) t.partition) → IsNodeInView f v0 s0 → IsNodeBut t.partition (settled_at f t) v3 s2
settled_node f t v0 v1 v2 v3 s0 s1 s2 steps within is h =
    let p = t.partition in
    let f1 = changed_where t.hands (λ g. handed g p) f in
    let f2 = changed_where t.settles (λ g. settled g p) f1 in
    let f3 = changed_where t.learns (λ g. learnt g (view_key f) (list_at f p) p) f2 in
    let n1 : IsNodeBut p f1 v1 s0 = subst (λ (w : Viewed). IsNodeBut p f1 w s0) (sym steps.hand) (handed_step p f v0 s0 t.hands (node_but p f v0 s0 h)) in
    let unsettled : t.settles ≡ true → knows_settled f1 p ≡ false =
    λ e. known_before f p t.hands ∙ settles_unsettled f (list_at f p) p (sym (ap (λ (u : Settling). u.settles) is) ∙ e) in
    let n2 : IsNodeBut p f2 v2 s0 =
    subst (λ (w : Viewed). IsNodeBut p f2 w s0) (sym steps.settle) (settled_step p f1 v1 s0 t.settles within unsettled (set_there v1 v2 p t.settles steps.settle steps.set) n1) in
    let n3 : IsNodeBut p f3 v3 s1 =
    subst (λ (w : Viewed). IsNodeBut p f3 w s1) (sym steps.learn)
    (subst (λ (u : held.StoreWithRoom). IsNodeBut p f3 (with_bits v2 (if t.learns then learning v2.bits p else v2.bits)) u) (sym steps.learnt_in)
    (learnt_step p f2 v2 s0 (view_key f) (list_at f p) t.learns (key_stays f p t.hands t.settles) (list_stays f p t.hands t.settles) n2)) in
    let none : t.drops ≡ true → is_pending v3.batches p ≡ false =
    λ e. ap (λ ts. is_pending ts p) (batches_stay t v0 v1 v2 v3 s0 s1 s2 steps ∙ sym (is_node f v0 s0 h).sight.batches)
    ∙ done_not_pending f.exchange.exchanged (is_pending f.batches p) (none_pending f (list_at f p) p (sym (ap (λ (u : Settling). u.drops) is) ∙ e)) in
    subst (λ (u : held.StoreWithRoom). IsNodeBut p (settled_at f t) v3 u) (sym steps.drop) (dropped_step p f3 v3 s1 t.drops none n3)

-- ---- what the steps need of each other

-- it is settled after a hand-over too
pub settles_after_hand : (v w : Viewed) (s : held.StoreWithRoom) (t : Settling) → t ≡ settling_of t.partition (here (facts_in v s) (list_at (facts_in v s) t.partition) t.partition) → w ≡ handed_if v t.partition t.hands → t.settles ≡ true
    → settles (here (facts_seen w) (list_at (facts_seen w) t.partition) t.partition) ≡ true
settles_after_hand v w s t is hand due =
    subst (λ (x : Viewed). settles (here (facts_seen x) (list_at (facts_seen x) t.partition) t.partition) ≡ true) (sym hand)
    (settles_after v t.partition t.hands (sym (ap (λ (u : Settling). u.hands) is)) (sym (ap (λ (u : Settling). u.settles) is) ∙ due))

-- the settled bit is set as it was, or as the partition is settled
bit_after : (v0 v1 v2 v3 : Viewed) (p : ℕ) (a b c : Bool) → v1 ≡ handed_if v0 p a → v2 ≡ (if b then one_more_settled v1 p else v1) → (b ≡ true → bit v2.bits.settled p ≡ true)
    → v3 ≡ with_bits v2 (if c then learning v2.bits p else v2.bits) → (bit v0.bits.settled p || b) ≡ true → bit v3.bits.settled p ≡ true
bit_after v0 v1 v2 v3 p a b c e1 e2 set e3 or = ap (λ (v : Viewed). bit v.bits.settled p) e3 ∙ (learnt_same c ∙ at b e2 set or)
  where
    learnt_same : (c : Bool) → bit (if c then learning v2.bits p else v2.bits).settled p ≡ bit v2.bits.settled p
    learnt_same true = refl
    learnt_same false = refl

    handed_same : (a : Bool) → bit (if a then handing v0.bits p else v0.bits).settled p ≡ bit v0.bits.settled p
    handed_same true = refl
    handed_same false = refl

    left : (x : Bool) → (x || false) ≡ true → x ≡ true
    left true e = refl
    left false e = e

    at : (b : Bool) → v2 ≡ (if b then one_more_settled v1 p else v1) → (b ≡ true → bit v2.bits.settled p ≡ true) → (bit v0.bits.settled p || b) ≡ true → bit v2.bits.settled p ≡ true
    at true e set or = set refl
    at false e set or = ap (λ (v : Viewed). bit v.bits.settled p) e ∙ (ap (λ (v : Viewed). bit v.bits.settled p) e1 ∙ (handed_same a ∙ left (bit v0.bits.settled p) or))

drops_where_settled : (s t r : Bool) → ((s || t) && r) ≡ true → (s || t) ≡ true
drops_where_settled true t r e = refl
drops_where_settled false true r e = refl
drops_where_settled false false r e = e

pub set_where_dropped : (t : Settling) (v0 v1 v2 v3 : Viewed) (s : held.StoreWithRoom) → t ≡ settling_of t.partition (here (facts_in v0 s) (list_at (facts_in v0 s) t.partition) t.partition)
    → v1 ≡ handed_if v0 t.partition t.hands → v2 ≡ (if t.settles then one_more_settled v1 t.partition else v1) → (t.settles ≡ true → bit v2.bits.settled t.partition ≡ true)
    → v3 ≡ with_bits v2 (if t.learns then learning v2.bits t.partition else v2.bits) → t.drops ≡ true → has_settled_bit (facts_seen v3) t.partition ≡ true
set_where_dropped t v0 v1 v2 v3 s is e1 e2 set e3 due =
    let h = here (facts_in v0 s) (list_at (facts_in v0 s) t.partition) t.partition in
    let either : (h.settled || settles h) ≡ true = drops_where_settled h.settled (settles h) (h.done && (not h.replica && h.holds)) (sym (ap (λ (u : Settling). u.drops) is) ∙ due) in
    bit_after v0 v1 v2 v3 t.partition t.hands t.settles t.learns e1 e2 set e3 (ap (λ (b : Bool). h.settled || b) (ap (λ (u : Settling). u.settles) is) ∙ either)

pub done_there : (t : Settling) (v0 v1 v2 v3 : Viewed) (s : held.StoreWithRoom) → t ≡ settling_of t.partition (here (facts_in v0 s) (list_at (facts_in v0 s) t.partition) t.partition)
    → v1 ≡ handed_if v0 t.partition t.hands → v2 ≡ (if t.settles then one_more_settled v1 t.partition else v1)
    → v3 ≡ with_bits v2 (if t.learns then learning v2.bits t.partition else v2.bits) → t.drops ≡ true → is_done (facts_seen v3) t.partition ≡ true
done_there t v0 v1 v2 v3 s is e1 e2 e3 due =
    ap (λ (v : Viewed). is_done (facts_seen v) t.partition) e3
    ∙ (ap (λ (v : Viewed). is_done (facts_seen v) t.partition) e2
    ∙ (same t.settles
    ∙ (ap (λ (v : Viewed). is_done (facts_seen v) t.partition) e1
    ∙ none_pending (facts_in v0 s) (list_at (facts_in v0 s) t.partition) t.partition (sym (ap (λ (u : Settling). u.drops) is) ∙ due))))
  where
    same : (b : Bool) → is_done (facts_seen (if b then one_more_settled v1 t.partition else v1)) t.partition ≡ is_done (facts_seen v1) t.partition
    same true = refl
    same false = refl

-- ---- the other partitions

handed_here : (f : Facts) (p q : ℕ) (b : Bool) → q ≢ p → here (changed_where b (λ g. handed g p) f) (list_at (changed_where b (λ g. handed g p) f) q) q ≡ here f (list_at f q) q
handed_here f p q true other = ap₂ (λ (b c : Bool). record (here f (list_at f q) q) { handed = b; own_handed = c }) (bit_other f.bits.handed p q other) (bit_other f.bits.own_handed p q other)
handed_here f p q false other = refl

settled_here : (f : Facts) (p q : ℕ) (b : Bool) → q ≢ p → here (changed_where b (λ g. settled g p) f) (list_at (changed_where b (λ g. settled g p) f) q) q ≡ here f (list_at f q) q
settled_here f p q true other = ap (λ (b : Bool). record (here f (list_at f q) q) { settled = b }) (bit_other f.bits.settled p q other)
settled_here f p q false other = refl

learnt_here : (f : Facts) (p q : ℕ) (key : ClusterKey) (l : List ℕ) (b : Bool) → q ≢ p
    → here (changed_where b (λ g. learnt g key l p) f) (list_at (changed_where b (λ g. learnt g key l p) f) q) q ≡ here f (list_at f q) q
learnt_here f p q key l true other = ap (λ (b : Bool). record (here f (list_at f q) q) { learnt = b }) (bit_other f.bits.learnt p q other)
learnt_here f p q key l false other = refl

dropped_here : (f : Facts) (p q : ℕ) (b : Bool) → q ≢ p → here (changed_where b (λ g. dropped g p) f) (list_at (changed_where b (λ g. dropped g p) f) q) q ≡ here f (list_at f q) q
dropped_here f p q true other = ap (λ (b : Bool). record (here f (list_at f q) q) { holds = b }) (holds_dropped f.store.content p q other)
dropped_here f p q false other = refl

pub others_stand : (f : Facts) (t : Settling) (q : ℕ) → q ≢ t.partition → here (settled_at f t) (list_at (settled_at f t) q) q ≡ here f (list_at f q) q
others_stand f t q other =
    let p = t.partition in
    let f1 = changed_where t.hands (λ g. handed g p) f in
    let f2 = changed_where t.settles (λ g. settled g p) f1 in
    let f3 = changed_where t.learns (λ g. learnt g (view_key f) (list_at f p) p) f2 in
    dropped_here f3 p q t.drops other ∙ (learnt_here f2 p q (view_key f) (list_at f p) t.learns other ∙ (settled_here f1 p q t.settles other ∙ handed_here f p q t.hands other))

exchange_handed : (f : Facts) (p : ℕ) (b : Bool) → (changed_where b (λ g. handed g p) f).exchange ≡ f.exchange
exchange_handed f p true = refl
exchange_handed f p false = refl

exchange_settled : (f : Facts) (p : ℕ) (b : Bool) → (changed_where b (λ g. settled g p) f).exchange ≡ f.exchange
exchange_settled f p true = refl
exchange_settled f p false = refl

exchange_learnt : (f : Facts) (p : ℕ) (key : ClusterKey) (l : List ℕ) (b : Bool) → (changed_where b (λ g. learnt g key l p) f).exchange ≡ f.exchange
exchange_learnt f p key l true = refl
exchange_learnt f p key l false = refl

exchange_dropped : (f : Facts) (p : ℕ) (b : Bool) → (changed_where b (λ g. dropped g p) f).exchange ≡ f.exchange
exchange_dropped f p true = refl
exchange_dropped f p false = refl

pub exchange_stays : (f : Facts) (t : Settling) → (settled_at f t).exchange ≡ f.exchange
exchange_stays f t =
    let p = t.partition in
    let f1 = changed_where t.hands (λ g. handed g p) f in
    let f2 = changed_where t.settles (λ g. settled g p) f1 in
    let f3 = changed_where t.learns (λ g. learnt g (view_key f) (list_at f p) p) f2 in
    exchange_dropped f3 p t.drops ∙ (exchange_learnt f2 p (view_key f) (list_at f p) t.learns ∙ (exchange_settled f1 p t.settles ∙ exchange_handed f p t.hands))

-- ---- one partition after another

pub first_is : (f : Facts) (t : Settling) (ts : List Settling) → AreSettlings f (t ∷ ts) → t ≡ settling_of t.partition (here f (list_at f t.partition) t.partition)
first_is f t ts h = h.each 0 t (omega arith)

one_each : (P : Settling → Type 0) (t : Settling) → P t → (k : ℕ) (d : Settling) → k < 1 → P (slice_index_or (t ∷ []) k d)
one_each P t here zero d within = here
one_each P t here (suc k) d within = absurd (omega (arith, within))

pub first_settling : (f : Facts) (t : Settling) (ts : List Settling) → AreSettlings f (t ∷ ts) → AreSettlings f (t ∷ [])
first_settling f t ts h = record {
  exchanged = λ some. h.exchanged (λ none. cc);
  each = λ k d within. one_each (λ s. s ≡ settling_of s.partition (here f (list_at f s.partition) s.partition)) t (first_is f t ts h) k d (omega (arith, within));
  rise = λ i j d before within. absurd (omega (arith, before, within));
}

-- those of the other partitions are due of the facts afterwards
pub rest_settlings : (f g : Facts) (t : Settling) (ts : List Settling) → AreSettlings f (t ∷ ts) → g.exchange ≡ f.exchange
    → ((q : ℕ) → q ≢ t.partition → here g (list_at g q) q ≡ here f (list_at f q) q) → AreSettlings g ts
rest_settlings f g t ts h same stand = record {
  exchanged = λ some. ap (λ (x : Exchange). x.exchanged) same ∙ h.exchanged (λ none. cc);
  each = λ k d within. due (slice_index_or ts k d) (later k d within) (h.each (suc k) d (omega (arith, within)));
  rise = λ i j d before within. h.rise (suc i) (suc j) d (omega (arith, before)) (omega (arith, within));
}
  where
    later : (k : ℕ) (d : Settling) → k < length ts → t.partition < (slice_index_or ts k d).partition
    later k d within = h.rise 0 (suc k) d (omega arith) (omega (arith, within))

    due : (s : Settling) → t.partition < s.partition → s ≡ settling_of s.partition (here f (list_at f s.partition) s.partition) → s ≡ settling_of s.partition (here g (list_at g s.partition) s.partition)
    due s above is = is ∙ ap (settling_of s.partition) (sym (stand s.partition (λ (i : s.partition ≡ t.partition). omega (arith, above, i))))

-- where the facts are of a node in a view with a store, what is due of its other partitions is known by these
pub rest_in_view : (f g : Facts) (v : Viewed) (s : held.StoreWithRoom) (t : Settling) (ts : List Settling) → AreSettlings f (t ∷ ts) → g ≡ settled_at f t → IsNodeInView g v s → AreSettlings (facts_in v s) ts
rest_in_view f g v s t ts h is node =
    rest_settlings f (facts_in v s) t ts h
    (sym (is_node g v s node).sight.exchange ∙ (ap (λ (k : Facts). k.exchange) is ∙ exchange_stays f t))
    (λ q other. here_in g v s q node ∙ (ap (λ (k : Facts). here k (list_at k q) q) is ∙ others_stand f t q other))

-- ---- a list, item by item

pub next_of : (ts : List Settling) (i : ℕ) (t : Settling) → i < length ts → t ≡ get_or ts i t → drop i ts ≡ t ∷ drop (i + 1) ts
next_of ts i t within is = drop_more ts i t within ∙ ap (λ (u : Settling). u ∷ drop (i + 1) ts) (sym is)
