-- A view of which all partitions are counted and looked at anew.
use Rattle.std.proofs.Common.{◌≡◌, ap, subst, ◌∙◌}
use Rattle.record_store.specs.Store as held
use Rattle.node_rules.specs.Facts.{Facts}
use Rattle.node_view.specs.Views.{AreLive, IsInView, IsLike, KeepsWatch, Viewed, Watch, unsettled_count, with_live, with_unsettled}

in_view_but : (f : Facts) (v w : Viewed) (watch : Watch) → w ≡ record v { watch = watch } → IsInView f w → IsInView f v
in_view_but f v w watch is h =
    let same : IsInView f (record v { watch = watch }) = subst (λ (u : Viewed). IsInView f u) is h in
    record { me = same.me; factor = same.factor; view = same.view }

-- the view, then the same with what was counted, then with what is looked at
pub record IsAnew (s : held.StoreWithRoom) (u v w : Viewed) : Type 0 where
  pub counted : v ≡ with_unsettled u v.watch.unsettled
  pub woken : w ≡ with_live v w.watch.live
  pub count : (f : Facts) → IsInView f u → v.watch.unsettled ≡ unsettled_count f
  pub live : (f : Facts) → IsInView f v → f.store.content ≡ s.versions → AreLive f w.watch.live

pub watch_anew : (s : held.StoreWithRoom) (u v w : Viewed) → IsAnew s u v w → (f : Facts) → IsInView f w → f.store.content ≡ s.versions → KeepsWatch f w.watch
watch_anew s u v w anew f h content =
    let before : IsInView f v = in_view_but f v w (record { unsettled = v.watch.unsettled; live = w.watch.live }) anew.woken h in
    let first : IsInView f u = in_view_but f u v (record { unsettled = v.watch.unsettled; live = u.watch.live }) anew.counted before in
    record { unsettled = ap (λ (x : Viewed). x.watch.unsettled) anew.woken ∙ anew.count f first; live = anew.live f before content }

pub like_anew : (s : held.StoreWithRoom) (u v w : Viewed) → IsAnew s u v w → IsLike u w
like_anew s u v w anew =
    let same : w ≡ record u { watch = record { unsettled = v.watch.unsettled; live = w.watch.live } } = anew.woken ∙ ap (λ (x : Viewed). with_live x w.watch.live) anew.counted in
    record {
      me = ap (λ (x : Viewed). x.me) same;
      factor = ap (λ (x : Viewed). x.factor) same;
      by = ap (λ (x : Viewed). x.by) same;
      exchange = ap (λ (x : Viewed). x.exchange) same;
      writes = ap (λ (x : Viewed). x.writes) same;
      transactions = ap (λ (x : Viewed). x.transactions) same;
      batches = ap (λ (x : Viewed). x.batches) same;
      bits = ap (λ (x : Viewed). x.bits) same;
    }
