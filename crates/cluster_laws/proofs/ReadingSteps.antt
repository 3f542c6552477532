-- The picture holds what a reader finds in the journal: kept by each line.
use Rattle.std.proofs.Common.{◌≡◌, ℕ, ◌==◌, Bool, true, false, cond, ◌&&◌, ◌||◌, List, [], ◌∷◌, ◌++◌, Option, Some, None, refl, sym, ap, ap₂, subst, ◌∙◌, ⊎_elim}
use Rattle.std.specs.List.{list_any}
use Rattle.std.specs.Prelude.{bytes_eq}
use Rattle.conflict_order.specs.declared.version.Version.{Version}
use Rattle.cluster_types.specs.declared.cluster_key.ClusterKey.{ClusterKey}
use Rattle.cluster_types.specs.ClusterKeys as keys
use Rattle.cluster_types.specs.ClusterKeys.{key_lt, same_key}
use Rattle.cluster_types.specs.Partitions.{partition_of}
use Rattle.cluster_types.specs.Distinct.{contains}
use Rattle.journal_lines.specs.declared.line.Line.{Line}
use Rattle.journal_lines.specs.declared.line.Line.TheVariants as line
use Rattle.journal_readings.specs.Lines.{is_enter, is_exchanged}
use Rattle.journal_readings.specs.Settings.{clock_of}
use Rattle.journal_readings.specs.Contents.{content, applied, joined_if}
use Rattle.journal_readings.specs.Views.{view, some_key}
use Rattle.journal_readings.proofs.StepLaws.{content-more, applied-more, view-more, clock_of-more}
use Rattle.cluster_laws.specs.Changed.{at_number}
use Rattle.cluster_laws.specs.Ground.{Ground}
use Rattle.cluster_laws.specs.Stay.{Versions, Stay, blank}
use Rattle.cluster_laws.specs.Picture.{Seen, Picture}
use Rattle.cluster_laws.specs.Changes.{seen_after_drop}
use Rattle.cluster_laws.specs.Licences.{Ok, MayEnter, picture_after}
use Rattle.cluster_laws.specs.Journals.{FitsGround}
use Rattle.cluster_laws.proofs.At.{numbers, changed_either, number_same, key_same, truth, differ, no_some}
use Rattle.cluster_laws.proofs.Keys.{lt_none}
use Rattle.cluster_laws.proofs.All.{Sound}
use Rattle.cluster_laws.proofs.ReadingFrames.{node_as, node_kept, stay_as, stay_kept, any-more, quiet_frame}
use Rattle.cluster_laws.proofs.ReadingLines.{or_none, eq_turned, stored, version_as}

-- ---- what a node holds

abbrev pub Contents_tied : Ground → List Line → Picture → Type 0
Contents_tied G j w = (n : ℕ) (d : List ℕ) → content G.by n d j ≡ (w.node n).content d

drop_as : (w : Picture) (m q n : ℕ) (d : List ℕ) → (at_number w.node m (seen_after_drop q (w.node m)) n).content d ≡ cond ((m == n) && (q == partition_of d)) None ((w.node n).content d)
drop_as w m q n d = go (m == n) refl
  where
    go : (b : Bool) → (m == n) ≡ b → (cond b (seen_after_drop q (w.node m)) (w.node n)).content d ≡ cond (b && (q == partition_of d)) None ((w.node n).content d)
    go true i = ap (λ (b : Bool). cond b None ((w.node m).content d)) (eq_turned (partition_of d) q) ∙ ap (λ (z : ℕ). cond (q == partition_of d) None ((w.node z).content d)) (number_same m n i)
    go false i = refl

pub content_tied : (G : Ground) (j : List Line) (w : Picture) (l : Line) → Contents_tied G j w → Contents_tied G (j ++ l ∷ []) (picture_after G w l)
content_tied G j w (line.Apply m k t e v) h n d = content-more G.by n d j (line.Apply m k t e v) ∙ (ap (λ (o : Option Version). joined_if ((m == n) && bytes_eq e d) G.by o v) (h n d) ∙ sym (stored G.by w.node m _ e v n d refl))
content_tied G j w (line.Merge m k e v) h n d = content-more G.by n d j (line.Merge m k e v) ∙ (ap (λ (o : Option Version). joined_if ((m == n) && bytes_eq e d) G.by o v) (h n d) ∙ sym (stored G.by w.node m _ e v n d refl))
content_tied G j w (line.Drop m k q) h n d = content-more G.by n d j (line.Drop m k q) ∙ (ap (λ (o : Option Version). cond ((m == n) && (q == partition_of d)) None o) (h n d) ∙ sym (drop_as w m q n d))
content_tied G j w (line.Clock m time) h n d = content-more G.by n d j (line.Clock m time) ∙ (h n d ∙ sym (node_kept (λ (x : Seen). x.content d) w.node m _ n refl))
content_tied G j w (line.Enter m k ms) h n d = content-more G.by n d j (line.Enter m k ms) ∙ (h n d ∙ sym (node_kept (λ (x : Seen). x.content d) w.node m _ n refl))
content_tied G j w (line.Stop m) h n d = content-more G.by n d j (line.Stop m) ∙ (h n d ∙ sym (node_kept (λ (x : Seen). x.content d) w.node m _ n refl))
content_tied G j w (line.Exchanged m k) h n d = content-more G.by n d j (line.Exchanged m k) ∙ (h n d ∙ sym (node_kept (λ (x : Seen). x.content d) w.node m _ n refl))
content_tied G j w (line.Done m k t) h n d = content-more G.by n d j (line.Done m k t) ∙ h n d
content_tied G j w (line.Settled m k p) h n d = content-more G.by n d j (line.Settled m k p) ∙ h n d
content_tied G j w l h n d = content-more G.by n d j l ∙ (h n d ∙ sym (ap (λ (f : Versions). f d) ((quiet_frame G w l tt).content n)))

-- ---- who holds something is declared

abbrev pub Holders_declared : List ℕ → Picture → Type 0
Holders_declared ns w = (n : ℕ) (d : List ℕ) (v : Version) → (w.node n).content d ≡ Some v → contains ns n ≡ true

same_holders : (ns : List ℕ) (w v : Picture) → ((n : ℕ) → (v.node n).content ≡ (w.node n).content) → Holders_declared ns w → Holders_declared ns v
same_holders ns w v e h n d u q = h n d u (sym (ap (λ (f : Versions). f d) (e n)) ∙ q)

this_holder : (ns : List ℕ) (w : Picture) (m : ℕ) (new : Seen) → contains ns m ≡ true → Holders_declared ns w → (n : ℕ) (d : List ℕ) (v : Version) → (at_number w.node m new n).content d ≡ Some v → contains ns n ≡ true
this_holder ns w m new c h n d v = changed_either numbers (λ (x : Seen). x.content d ≡ Some v → contains ns n ≡ true) w.node m new n (λ i _. subst (λ (z : ℕ). contains ns z ≡ true) i c) (λ _. h n d v)

none_some : {A : Type 0} (b : Bool) (o : Option A) (a : A) → cond b None o ≡ Some a → o ≡ Some a
none_some true o a e = no_some e
none_some false o a e = e

pub declared_tied : (G : Ground) (ns : List ℕ) (w : Picture) (l : Line) → FitsGround G ns w l → Holders_declared ns w → Holders_declared ns (picture_after G w l)
declared_tied G ns w (line.Apply m k t e v) f h = this_holder ns w m _ f h
declared_tied G ns w (line.Merge m k e v) f h = this_holder ns w m _ f h
declared_tied G ns w (line.Drop m k q) f h = λ n d v e. h n d v (none_some ((m == n) && (q == partition_of d)) ((w.node n).content d) v (sym (drop_as w m q n d) ∙ e))
declared_tied G ns w (line.Clock m time) f h = same_holders ns w (picture_after G w (line.Clock m time)) (λ n. node_kept (λ (x : Seen). x.content) w.node m _ n refl) h
declared_tied G ns w (line.Enter m k ms) f h = same_holders ns w (picture_after G w (line.Enter m k ms)) (λ n. node_kept (λ (x : Seen). x.content) w.node m _ n refl) h
declared_tied G ns w (line.Stop m) f h = same_holders ns w (picture_after G w (line.Stop m)) (λ n. node_kept (λ (x : Seen). x.content) w.node m _ n refl) h
declared_tied G ns w (line.Exchanged m k) f h = same_holders ns w (picture_after G w (line.Exchanged m k)) (λ n. node_kept (λ (x : Seen). x.content) w.node m _ n refl) h
declared_tied G ns w (line.Done m k t) f h = h
declared_tied G ns w (line.Settled m k p) f h = h
declared_tied G ns w l f h = same_holders ns w (picture_after G w l)
    ((quiet_frame G w l tt).content) h

-- ---- what was applied

abbrev pub Applied_tied : Ground → List Line → Picture → Type 0
Applied_tied G j w = (d : List ℕ) → applied G.by d j ≡ w.applied d

pub applied_tied : (G : Ground) (j : List Line) (w : Picture) (l : Line) → Applied_tied G j w → Applied_tied G (j ++ l ∷ []) (picture_after G w l)
applied_tied G j w (line.Apply m k t e v) h d = applied-more G.by d j (line.Apply m k t e v) ∙ (ap (λ (o : Option Version). joined_if (bytes_eq e d) G.by o v) (h d) ∙ sym (version_as G.by w.applied e v d))
applied_tied G j w (line.Clock m time) h d = applied-more G.by d j (line.Clock m time) ∙ h d
applied_tied G j w (line.Enter m k ms) h d = applied-more G.by d j (line.Enter m k ms) ∙ h d
applied_tied G j w (line.Stop m) h d = applied-more G.by d j (line.Stop m) ∙ h d
applied_tied G j w (line.Exchanged m k) h d = applied-more G.by d j (line.Exchanged m k) ∙ h d
applied_tied G j w (line.Done m k t) h d = applied-more G.by d j (line.Done m k t) ∙ h d
applied_tied G j w (line.Merge m k e v) h d = applied-more G.by d j (line.Merge m k e v) ∙ h d
applied_tied G j w (line.Drop m k q) h d = applied-more G.by d j (line.Drop m k q) ∙ h d
applied_tied G j w (line.Settled m k p) h d = applied-more G.by d j (line.Settled m k p) ∙ h d
applied_tied G j w l h d = applied-more G.by d j l ∙ (h d ∙ sym (ap (λ (f : Versions). f d) (quiet_frame G w l tt).applied))

-- ---- views and clocks

abbrev pub Views_tied : List Line → Picture → Type 0
Views_tied j w = (n : ℕ) → view n j ≡ (w.node n).view

entered_key : (G : Ground) (w : Picture) (n : ℕ) (k : ClusterKey) → MayEnter G w n k → some_key k ≡ Some k
entered_key G w n k ok = go (same_key k keys.none) refl
  where
    go : (b : Bool) → same_key k keys.none ≡ b → cond b None (Some k) ≡ Some k
    go false e = refl
    go true e = differ (subst (λ (z : ClusterKey). key_lt (w.node n).last z ≡ true) (key_same k keys.none e) ok.above) (lt_none (w.node n).last)

pub view_tied : (G : Ground) (j : List Line) (w : Picture) (l : Line) → Ok G w l → Views_tied j w → Views_tied (j ++ l ∷ []) (picture_after G w l)
view_tied G j w (line.Enter m k ms) ok h n = view-more n j (line.Enter m k ms) ∙ (ap₂ (λ (a b : Option ClusterKey). cond (m == n) a b) (entered_key G w m k ok.1.1) (h n) ∙ sym (node_as (λ (x : Seen). x.view) w.node m _ n))
view_tied G j w (line.Stop m) ok h n = view-more n j (line.Stop m) ∙ (ap (λ (b : Option ClusterKey). cond (m == n) None b) (h n) ∙ sym (node_as (λ (x : Seen). x.view) w.node m _ n))
view_tied G j w (line.Clock m time) ok h n = view-more n j (line.Clock m time) ∙ (h n ∙ sym (node_kept (λ (x : Seen). x.view) w.node m _ n refl))
view_tied G j w (line.Exchanged m k) ok h n = view-more n j (line.Exchanged m k) ∙ (h n ∙ sym (node_kept (λ (x : Seen). x.view) w.node m _ n refl))
view_tied G j w (line.Apply m k t e v) ok h n = view-more n j (line.Apply m k t e v) ∙ (h n ∙ sym (node_kept (λ (x : Seen). x.view) w.node m _ n refl))
view_tied G j w (line.Merge m k e v) ok h n = view-more n j (line.Merge m k e v) ∙ (h n ∙ sym (node_kept (λ (x : Seen). x.view) w.node m _ n refl))
view_tied G j w (line.Drop m k q) ok h n = view-more n j (line.Drop m k q) ∙ (h n ∙ sym (node_kept (λ (x : Seen). x.view) w.node m _ n refl))
view_tied G j w (line.Done m k t) ok h n = view-more n j (line.Done m k t) ∙ h n
view_tied G j w (line.Settled m k p) ok h n = view-more n j (line.Settled m k p) ∙ h n
view_tied G j w l ok h n = view-more n j l ∙ (h n ∙ sym ((quiet_frame G w l tt).view n))

abbrev pub Clocks_tied : List Line → Picture → Type 0
Clocks_tied j w = (n : ℕ) → clock_of n j ≡ (w.node n).clock

pub clock_tied : (G : Ground) (j : List Line) (w : Picture) (l : Line) → Clocks_tied j w → Clocks_tied (j ++ l ∷ []) (picture_after G w l)
clock_tied G j w (line.Clock m time) h n = clock_of-more n j (line.Clock m time) ∙ (ap (λ (b : ℕ). cond (m == n) time b) (h n) ∙ sym (node_as (λ (x : Seen). x.clock) w.node m _ n))
clock_tied G j w (line.Enter m k ms) h n = clock_of-more n j (line.Enter m k ms) ∙ (h n ∙ sym (node_kept (λ (x : Seen). x.clock) w.node m _ n refl))
clock_tied G j w (line.Stop m) h n = clock_of-more n j (line.Stop m) ∙ (h n ∙ sym (node_kept (λ (x : Seen). x.clock) w.node m _ n refl))
clock_tied G j w (line.Exchanged m k) h n = clock_of-more n j (line.Exchanged m k) ∙ (h n ∙ sym (node_kept (λ (x : Seen). x.clock) w.node m _ n refl))
clock_tied G j w (line.Apply m k t e v) h n = clock_of-more n j (line.Apply m k t e v) ∙ (h n ∙ sym (node_kept (λ (x : Seen). x.clock) w.node m _ n refl))
clock_tied G j w (line.Merge m k e v) h n = clock_of-more n j (line.Merge m k e v) ∙ (h n ∙ sym (node_kept (λ (x : Seen). x.clock) w.node m _ n refl))
clock_tied G j w (line.Drop m k q) h n = clock_of-more n j (line.Drop m k q) ∙ (h n ∙ sym (node_kept (λ (x : Seen). x.clock) w.node m _ n refl))
clock_tied G j w (line.Done m k t) h n = clock_of-more n j (line.Done m k t) ∙ h n
clock_tied G j w (line.Settled m k p) h n = clock_of-more n j (line.Settled m k p) ∙ h n
clock_tied G j w l h n = clock_of-more n j l ∙ (h n ∙ sym ((quiet_frame G w l tt).clock n))

-- ---- stays

-- nothing stands of a key that is entered now
pub fresh_stay : (G : Ground) (w : Picture) → Sound G w → (n : ℕ) (k : ClusterKey) → MayEnter G w n k → w.stay n k ≡ blank
fresh_stay G w s n k ok = ⊎_elim (λ e. differ ok.above ((s.whole.known.entered n k).below e)) (λ e. (s.whole.known.entered n k).fresh e) (truth (w.stay n k).entered)

abbrev pub Entered_tied : List Line → Picture → Type 0
Entered_tied j w = (n : ℕ) (k : ClusterKey) → list_any (is_enter k n) j ≡ (w.stay n k).entered

or_cond : (a b : Bool) → (a || b) ≡ cond b true a
or_cond true true = refl
or_cond true false = refl
or_cond false true = refl
or_cond false false = refl

-- a line that the test doesn't take
pub missed : {A : Type 0} (test : A → Bool) (xs : List A) (x : A) → test x ≡ false → list_any test (xs ++ x ∷ []) ≡ list_any test xs
missed test xs x e = any-more test xs x ∙ (ap (λ (b : Bool). list_any test xs || b) e ∙ or_none (list_any test xs))

pub entered_tied : (G : Ground) (j : List Line) (w : Picture) (l : Line) → Entered_tied j w → Entered_tied (j ++ l ∷ []) (picture_after G w l)
entered_tied G j w (line.Enter m l ms) h n k = any-more (is_enter k n) j (line.Enter m l ms) ∙ (or_cond (list_any (is_enter k n) j) ((m == n) && same_key l k) ∙ (ap (λ (b : Bool). cond ((m == n) && same_key l k) true b) (h n k) ∙ sym (stay_as (λ (s : Stay). s.entered) w.stay m l _ n k)))
entered_tied G j w (line.Clock m time) h n k = missed (is_enter k n) j (line.Clock m time) refl ∙ h n k
entered_tied G j w (line.Stop m) h n k = missed (is_enter k n) j (line.Stop m) refl ∙ h n k
entered_tied G j w (line.Exchanged m l) h n k = missed (is_enter k n) j (line.Exchanged m l) refl ∙ (h n k ∙ sym (stay_kept (λ (s : Stay). s.entered) w.stay m l _ n k refl))
entered_tied G j w (line.Apply m l t e v) h n k = missed (is_enter k n) j (line.Apply m l t e v) refl ∙ (h n k ∙ sym (stay_kept (λ (s : Stay). s.entered) w.stay m l _ n k refl))
entered_tied G j w (line.Done m l t) h n k = missed (is_enter k n) j (line.Done m l t) refl ∙ (h n k ∙ sym (stay_kept (λ (s : Stay). s.entered) w.stay m l _ n k refl))
entered_tied G j w (line.Merge m l e v) h n k = missed (is_enter k n) j (line.Merge m l e v) refl ∙ (h n k ∙ sym (stay_kept (λ (s : Stay). s.entered) w.stay m l _ n k refl))
entered_tied G j w (line.Drop m l q) h n k = missed (is_enter k n) j (line.Drop m l q) refl ∙ h n k
entered_tied G j w (line.Settled m l p) h n k = missed (is_enter k n) j (line.Settled m l p) refl ∙ (h n k ∙ sym (stay_kept (λ (s : Stay). s.entered) w.stay m l _ n k refl))
entered_tied G j w l h n k = missed (is_enter k n) j l refl ∙ (h n k ∙ sym ((quiet_frame G w l tt).stay n k).entered)

abbrev pub Exchanged_tied : List Line → Picture → Type 0
Exchanged_tied j w = (n : ℕ) (k : ClusterKey) → list_any (is_exchanged k n) j ≡ (w.stay n k).exchanged

pub exchanged_tied : (G : Ground) (j : List Line) (w : Picture) (l : Line) → Sound G w → Ok G w l → Exchanged_tied j w → Exchanged_tied (j ++ l ∷ []) (picture_after G w l)
exchanged_tied G j w (line.Exchanged m l) s ok h n k = any-more (is_exchanged k n) j (line.Exchanged m l) ∙ (or_cond (list_any (is_exchanged k n) j) ((m == n) && same_key l k) ∙ (ap (λ (b : Bool). cond ((m == n) && same_key l k) true b) (h n k) ∙ sym (stay_as (λ (z : Stay). z.exchanged) w.stay m l _ n k)))
exchanged_tied G j w (line.Enter m l ms) s ok h n k = missed (is_exchanged k n) j (line.Enter m l ms) refl ∙ (h n k ∙ sym (stay_kept (λ (z : Stay). z.exchanged) w.stay m l _ n k (sym (ap (λ (z : Stay). z.exchanged) (fresh_stay G w s m l ok.1.1)))))
exchanged_tied G j w (line.Clock m time) s ok h n k = missed (is_exchanged k n) j (line.Clock m time) refl ∙ h n k
exchanged_tied G j w (line.Stop m) s ok h n k = missed (is_exchanged k n) j (line.Stop m) refl ∙ h n k
exchanged_tied G j w (line.Apply m l t e v) s ok h n k = missed (is_exchanged k n) j (line.Apply m l t e v) refl ∙ (h n k ∙ sym (stay_kept (λ (z : Stay). z.exchanged) w.stay m l _ n k refl))
exchanged_tied G j w (line.Done m l t) s ok h n k = missed (is_exchanged k n) j (line.Done m l t) refl ∙ (h n k ∙ sym (stay_kept (λ (z : Stay). z.exchanged) w.stay m l _ n k refl))
exchanged_tied G j w (line.Merge m l e v) s ok h n k = missed (is_exchanged k n) j (line.Merge m l e v) refl ∙ (h n k ∙ sym (stay_kept (λ (z : Stay). z.exchanged) w.stay m l _ n k refl))
exchanged_tied G j w (line.Drop m l q) s ok h n k = missed (is_exchanged k n) j (line.Drop m l q) refl ∙ h n k
exchanged_tied G j w (line.Settled m l p) s ok h n k = missed (is_exchanged k n) j (line.Settled m l p) refl ∙ (h n k ∙ sym (stay_kept (λ (z : Stay). z.exchanged) w.stay m l _ n k refl))
exchanged_tied G j w l s ok h n k = missed (is_exchanged k n) j l refl ∙ (h n k ∙ sym ((quiet_frame G w l tt).stay n k).exchanged)
