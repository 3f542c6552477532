-- Records that come to a node one after another.
use Rattle.std.proofs.Common.{◌≡◌, ◌<◌, ℕ, List, [], ◌∷◌, length, None, arith, refl, sym, ap, ap₂, subst, ◌∙◌}
use Rattle.std.specs.FinMap as finite
use Rattle.std.specs.Prelude.{slice_get}
use Rattle.conflict_order.specs.declared.version.Version.{Version}
use Rattle.cluster_types.specs.declared.cluster_key.ClusterKey.{ClusterKey}
use Rattle.record_store.specs.Store as held
use Rattle.node_rules.specs.Copies.{Stamps, Store}
use Rattle.node_rules.specs.Exchange.{Exchange}
use Rattle.node_rules.specs.Exchange as exchange
use Rattle.node_rules.specs.Facts.{Facts, view_key}
use Rattle.node_rules.specs.Merging.{Record, store_merged_all}
use Rattle.node_rules.specs.Notes.{merged}
use Rattle.node_rules.specs.Stamps.{changed_stamps, spoiled, store_merged}
use Rattle.node_view.specs.Views.{IsNodeInView, Viewed, viewed_key, store_of}
use Rattle.node_view.proofs.SightLaws.{sees}

-- a record's stamps, where the code names the same
pub stamps_are : (m n : Stamps) (p q : ℕ) (k l : ClusterKey) → m ≡ n → p ≡ q → k ≡ l → changed_stamps m p (spoiled k) (finite.get m p) ≡ changed_stamps n q (spoiled l) (finite.get n q)
stamps_are m n p q k l same at of = rw (same, at, of) refl

pub fewer : (rs ns : List Record) (r : Record) → rs ≡ r ∷ ns → length ns < length rs
fewer rs ns r list = omega (arith, ap length list)

pub none_left : (rs : List Record) → None ≡ slice_get rs 0 → rs ≡ []
none_left [] e = refl
none_left (r ∷ rs) e = cc

-- the facts' store is the one that is held
pub store_is : (f : Facts) (v : Viewed) (s : held.StoreWithRoom) → IsNodeInView f v s
    → f.store ≡ store_of s
store_is f v s h = λ i. record { content = h.stored.content i; stamps = h.stored.stamps i; by = h.stored.by i }

key_is : (f : Facts) (v : Viewed) (s : held.StoreWithRoom) → IsNodeInView f v s
    → view_key f ≡ viewed_key v
key_is f v s h = ap (λ (x : Exchange). exchange.exchange_key x.view)
    (sees f v h.view.viewed).exchange

-- the facts with that store
abbrev pub holding : Facts → held.StoreWithRoom → Facts
holding f s = record f { store = store_of s }

pub held_already : (f : Facts) (v : Viewed) (s : held.StoreWithRoom) → IsNodeInView f v s → IsNodeInView (holding f s) v s
held_already f v s h = subst (λ (t : Store). IsNodeInView (record f { store = t }) v s) (store_is f v s h) h

-- one record more
pub store_after : (f : Facts) (v w : Viewed) (s u : held.StoreWithRoom) (digest : List ℕ) (x : Version) → IsNodeInView (holding f s) v s → IsNodeInView (merged (holding f s) (view_key f) digest x) w u
    → store_of u ≡ store_merged (store_of s) (viewed_key v) digest x
store_after f v w s u digest x before after =
    sym (store_is (merged (holding f s) (view_key f) digest x) w u after) ∙ ap (λ (k : ClusterKey). store_merged (store_of s) k digest x) (key_is (holding f s) v s before)

pub merged_more : (f : Facts) (v w : Viewed) (s u : held.StoreWithRoom) (digest : List ℕ) (x : Version) → IsNodeInView (merged (holding f s) (view_key f) digest x) w u → IsNodeInView (holding f u) w u
merged_more f v w s u digest x after =
    subst (λ (t : Store). IsNodeInView (record f { store = t }) w u) (store_is (merged (holding f s) (view_key f) digest x) w u after) after

pub rest_merged : (f : Facts) (v w : Viewed) (s u : held.StoreWithRoom) (digest : List ℕ) (x : Version) (rs : List Record) (key : ClusterKey) → viewed_key v ≡ key → IsNodeInView (holding f s) v s
    → IsNodeInView (merged (holding f s) (view_key f) digest x) w u → store_merged_all (store_of u) key rs ≡ store_merged_all (store_of s) key ((digest, x) ∷ rs)
rest_merged f v w s u digest x rs key is before after =
    ap (λ (t : Store). store_merged_all t key rs) (store_after f v w s u digest x before after ∙ ap (λ (k : ClusterKey). store_merged (store_of s) k digest x) is)

-- and then all of them came
pub all_merged : (f : Facts) (v w : Viewed) (s u : held.StoreWithRoom) (rs : List Record) → store_merged_all (store_of u) (viewed_key v) [] ≡ store_merged_all (store_of s) (viewed_key v) rs → IsNodeInView f v s → IsNodeInView (holding f u) w u
    → IsNodeInView (record f { store = store_merged_all f.store (view_key f) rs }) w u
all_merged f v w s u rs rest before after =
    subst (λ (t : Store). IsNodeInView (record f { store = t }) w u)
    (rest ∙ ap₂ (λ (t : Store) (k : ClusterKey). store_merged_all t k rs) (sym (store_is f v s before)) (sym (key_is f v s before))) after
