-- Reads and writes join, along a run.
use Rattle.std.proofs.Common.{◌≡◌, ℕ, List, [], ◌∷◌, Option, take, ap, ◌∙◌, zero, suc}
use Rattle.conflict_order.specs.declared.version.Version.{Version}
use Rattle.conflict_order.specs.Next.{next}
use Rattle.cluster_types.specs.declared.cluster_key.ClusterKey.{ClusterKey}
use Rattle.journal_lines.specs.declared.line.Line.{Line}
use Rattle.journal_lines.specs.declared.line.Line.TheVariants as line
use Rattle.cluster_laws.specs.Ground.{Ground, IsGround}
use Rattle.cluster_laws.specs.Stay.{Running}
use Rattle.cluster_laws.specs.Picture.{Picture, start}
use Rattle.cluster_laws.specs.Effect.{effect}
use Rattle.cluster_laws.specs.Licences.{IsResolved, Ok, picture_after, picture_after_all, Licensed}
use Rattle.cluster_laws.specs.Laws.{picture, ReadsAnswerFold}
use Rattle.cluster_laws.proofs.Allowed.{allowed}
use Rattle.cluster_laws.proofs.Grows.{grows}
use Rattle.cluster_laws.proofs.All.{Sound, sound_kept, sound_start, ok_at}
use Rattle.cluster_laws.proofs.Answering.{AllReads, reads_kept, reads_start, resolved_fold}

record Both (G : Ground) (w : Picture) : Type 0 where
  sound : Sound G w
  reads : AllReads G w

both_kept : (G : Ground) → IsGround G → (w : Picture) (l : Line) → Both G w → Ok G w l → Both G (picture_after G w l)
both_kept G ground w l b ok = record {
  sound = sound_kept G ground w l b.sound ok;
  reads = reads_kept G w (effect w l) ground (allowed G w l ok) b.sound (grows G w (effect w l) (allowed G w l ok) b.sound.whole.known.entered b.sound.whole.known.own b.sound.whole.known.txns) b.reads;
}

along : (G : Ground) → IsGround G → (ls : List Line) (w : Picture) (i : ℕ) → Both G w → Licensed G w ls → Both G (picture_after_all G w (take i ls))
along G ground [] w zero b ok = b
along G ground [] w (suc i) b ok = b
along G ground (l ∷ ls) w zero b ok = b
along G ground (l ∷ ls) w (suc i) b ok = along G ground ls (picture_after G w l) i (both_kept G ground w l b ok.0) ok.1

-- a transaction that is resolved has the fold
best_is : (G : Ground) (w : Picture) → Both G w → (n : ℕ) (k : ClusterKey) (t : ℕ) (d : List ℕ) (y : Running) → IsResolved w n k t d y → y.best ≡ w.fold k d
best_is G w b n k t d y r = resolved_fold G w b.sound b.reads n k t y r.running r.unapplied r.answered ∙ ap (w.fold k) r.digest

pub read_join : (G : Ground) → IsGround G → (lines : List Line) → Licensed G start lines → ReadsAnswerFold G lines
read_join G ground lines ok = record {
  value = λ i n t k d v e. let q : Ok G (picture G lines i) (line.Value n k t d v) = ok_at G lines i (line.Value n k t d v) ok e in
      q.1.best ∙ best_is G (picture G lines i) (at_line i) n k t d q.1.transaction q.1.resolved;
  apply = λ i n t k d v e. let q : Ok G (picture G lines i) (line.Apply n k t d v) = ok_at G lines i (line.Apply n k t d v) ok e in
      q.1.next ∙ ap (λ (o : Option Version). next o ((picture G lines i).node n).clock v.body) (best_is G (picture G lines i) (at_line i) n k t d q.1.transaction q.1.resolved);
}
  where
    at_line : (i : ℕ) → Both G (picture G lines i)
    at_line i = along G ground lines start i (record { sound = sound_start G; reads = reads_start G }) ok
