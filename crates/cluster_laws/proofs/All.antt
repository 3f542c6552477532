-- All that holds of every picture of a licensed run.
use Rattle.std.proofs.Common.{◌≡◌, ℕ, List, [], ◌∷◌, Some, take, slice_get, refl, sym, ap, ◌∙◌, subst, zero, suc, inl, inr}
use Rattle.conflict_order.specs.Join.{AtMost}
use Rattle.journal_lines.specs.declared.line.Line.{Line}
use Rattle.journal_lines.specs.declared.line.Line.TheVariants as line
use Rattle.cluster_laws.specs.Ground.{Ground, IsGround}
use Rattle.cluster_laws.specs.Stay.{Stay}
use Rattle.cluster_laws.specs.Picture.{Seen, Owed, Picture, start}
use Rattle.cluster_laws.specs.Effect.{Effect, effect}
use Rattle.cluster_laws.specs.Changes.{act, holding, seen_after_merge}
use Rattle.cluster_laws.specs.Licences.{Ok, picture_after, picture_after_all, Licensed}
use Rattle.cluster_laws.proofs.At.{numbers, changed_either, stay_here, some_same, no_some, differ}
use Rattle.cluster_laws.proofs.Allowed.{Allowed, allowed}
use Rattle.cluster_laws.proofs.Stays.{entered_kept, entered_start}
use Rattle.cluster_laws.proofs.Own.{own_kept, own_start}
use Rattle.cluster_laws.proofs.Txns.{txns_kept, txns_start}
use Rattle.cluster_laws.proofs.Grows.{Grows, grows, version_there}
use Rattle.cluster_laws.proofs.Inside.{held_kept, held_start, inside_kept, inside_start, pended_of}
use Rattle.cluster_laws.proofs.Said.{Known, says_kept, says_start}
use Rattle.cluster_laws.proofs.Below.{AllApplied, below_kept, below_start}
use Rattle.cluster_laws.proofs.Cross.{cross_kept, cross_start}
use Rattle.cluster_laws.proofs.Moving.{handed_kept, settled_kept, writers_kept, writers_start}
use Rattle.cluster_laws.proofs.Folds.{AllBased, based_kept, based_start, folded_kept, folded_start}
use Rattle.cluster_laws.proofs.Heard.{Paid, hears_kept, hears_start}
use Rattle.cluster_laws.proofs.Fine.{fine_kept, fine_start}
use Rattle.cluster_laws.proofs.Copies.{Whole_picture, AllSnap}
use Rattle.cluster_laws.proofs.Stamps.{AllStamps, OwesInView, StopsQuietly, stamps_kept, stamps_start, snap_kept, snap_start}
use Rattle.cluster_laws.proofs.Kept.{applied_kept, applied_start, Kept, kept_kept, kept_start, Lossless, lossless_kept, lossless_start}

pub record Sound (G : Ground) (w : Picture) : Type 0 where
  pub whole : Whole_picture G w
  pub snap : AllSnap G w
  pub stamps : AllStamps G w
  pub applied : AllApplied G w
  pub kept : Kept G w
  pub lossless : Lossless G w

-- ---- what is owed

paid : (G : Ground) (w : Picture) (l : Line) → Ok G w l → Paid G w (picture_after G w l)
paid G w (line.Merge n k d u) ok o e = subst (λ (z : Owed). AtMost G.by (Some z.version) (((picture_after G w (line.Merge n k d u)).stay z.node z.key).held z.digest)) (sym (ok.owed o e))
    (subst (λ (s : Stay). AtMost G.by (Some u) (s.held d)) (sym (stay_here w.stay n k (holding G d u (w.stay n k)))) (version_there G.by (w.stay n k).held d u))
paid G w (line.Tick n) ok o e = no_some (sym ok.0 ∙ e)
paid G w _ ok o e = no_some (sym ok.0 ∙ e)

owes_in_view : (G : Ground) (w : Picture) (l : Line) → Ok G w l → OwesInView w
owes_in_view G w (line.Merge n k d u) ok o e = subst (λ (z : Owed). (w.node z.node).view ≡ Some z.key) (sym (ok.owed o e)) ok.is_in.view
owes_in_view G w (line.Tick n) ok o e = no_some (sym ok.0 ∙ e)
owes_in_view G w _ ok o e = no_some (sym ok.0 ∙ e)

stops_quietly : (G : Ground) (w : Picture) (l : Line) → Ok G w l
    → StopsQuietly w (picture_after G w l)
stops_quietly G w (line.Merge n k d u) ok m = inr (changed_either numbers (λ (x : Seen). x.view ≡ (w.node m).view) w.node n (seen_after_merge G k d u (w.node n)) m (λ i. ap (λ (z : ℕ). (w.node z).view) i) (λ _. refl))
stops_quietly G w (line.Tick n) ok m = inl ok.0
stops_quietly G w _ ok m = inl ok.0

-- ---- each line keeps all

known_kept : (G : Ground) (w : Picture) (e : Effect) → Allowed G w e → Grows G.by w (act G e w) → Known G w → AllApplied G w → Known G (act G e w)
known_kept G w e ok g a p = record {
  entered = entered_kept G w e ok a.entered;
  own = own_kept G w e ok (pended_of G w a.inside) a.own;
  txns = txns_kept G w e ok a.txns;
  held = held_kept G w e ok a.held;
  inside = inside_kept G w e ok g a.own a.says a.cross a.txns a.inside;
  below = below_kept G w e ok g a p;
  says = says_kept G w e ok g a;
  cross = cross_kept G w e ok g a;
}

whole_kept : (G : Ground) (w : Picture) (e : Effect) → Allowed G w e → Grows G.by w (act G e w) → Whole_picture G w → AllApplied G w → Paid G w (act G e w) → Whole_picture G (act G e w)
whole_kept G w e ok g a p pd = let k : Known G (act G e w) = known_kept G w e ok g a.known p in let b : AllBased G (act G e w) = based_kept G w e ok g a.based in record {
  known = k;
  handed = handed_kept G w e ok g a.known a.handed;
  settled = settled_kept G w e ok g a.known a.handed a.settled;
  writers = writers_kept G w e ok g a.known a.handed a.settled a.writers;
  based = b;
  folded = folded_kept G w e g a.folded;
  hears = hears_kept G w e ok g a.known k.txns pd a.hears;
  fine = fine_kept G w e ok g a.known a.based b a.folded a.settled a.writers a.fine;
}

pub sound_kept : (G : Ground) → IsGround G → (w : Picture) (l : Line) → Sound G w → Ok G w l → Sound G (picture_after G w l)
sound_kept G ground w l s ok =
    let al : Allowed G w (effect w l) = allowed G w l ok in
    let g : Grows G.by w (picture_after G w l) = grows G w (effect w l) al s.whole.known.entered s.whole.known.own s.whole.known.txns in
    let wh : Whole_picture G (picture_after G w l) = whole_kept G w (effect w l) al g s.whole s.applied (paid G w l ok) in
    record {
      whole = wh;
      snap = snap_kept G w (effect w l) al g s.whole s.stamps s.snap;
      stamps = stamps_kept G w (effect w l) al g s.whole s.snap (owes_in_view G w l ok) (stops_quietly G w l ok) s.stamps;
      applied = applied_kept G w (effect w l) al s.whole g s.applied;
      kept = kept_kept G w (effect w l) ground al g s.whole s.snap wh.known.entered wh.known.inside s.kept;
      lossless = lossless_kept G w (effect w l) ground al g s.whole s.snap s.kept s.lossless;
    }

pub sound_start : (G : Ground) → Sound G start
sound_start G = record {
  whole = record {
    known = record {
      entered = entered_start G;
      own = own_start G;
      txns = txns_start;
      held = held_start G;
      inside = inside_start G;
      below = below_start G;
      says = says_start G;
      cross = cross_start G;
    };
    handed = λ k p e. differ e refl;
    settled = λ k p e. differ e refl;
    writers = writers_start G;
    based = based_start G;
    folded = folded_start G;
    hears = hears_start G;
    fine = fine_start G;
  };
  snap = snap_start G;
  stamps = stamps_start G;
  applied = applied_start G;
  kept = kept_start G;
  lossless = lossless_start G;
}

-- at every line
sound_along : (G : Ground) → IsGround G → (ls : List Line) (w : Picture) (i : ℕ) → Sound G w → Licensed G w ls → Sound G (picture_after_all G w (take i ls))
sound_along G ground [] w zero s ok = s
sound_along G ground [] w (suc i) s ok = s
sound_along G ground (l ∷ ls) w zero s ok = s
sound_along G ground (l ∷ ls) w (suc i) s ok = sound_along G ground ls (picture_after G w l) i (sound_kept G ground w l s ok.0) ok.1

pub sound_at : (G : Ground) → IsGround G → (ls : List Line) (i : ℕ) → Licensed G start ls → Sound G (picture_after_all G start (take i ls))
sound_at G ground ls i ok = sound_along G ground ls start i (sound_start G) ok

ok_along : (G : Ground) (ls : List Line) (w : Picture) (i : ℕ) (l : Line) → Licensed G w ls → slice_get ls i ≡ Some l → Ok G (picture_after_all G w (take i ls)) l
ok_along G [] w i l ok e = no_some e
ok_along G (y ∷ ls) w zero l ok e = subst (Ok G w) (some_same e) ok.0
ok_along G (y ∷ ls) w (suc i) l ok e = ok_along G ls (picture_after G w y) i l ok.1 e

-- each line has its licence
pub ok_at : (G : Ground) (ls : List Line) (i : ℕ) (l : Line) → Licensed G start ls → slice_get ls i ≡ Some l → Ok G (picture_after_all G start (take i ls)) l
ok_at G ls i l ok e = ok_along G ls start i l ok e
