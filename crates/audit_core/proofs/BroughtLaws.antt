-- What nodes hold, as a version comes to one of them.
use Rattle.std.proofs.Common.{◌≡◌, ℕ, suc, ◌==◌, ◌+◌, Bool, true, false, ◌&&◌, ◌||◌, List, Option, Some, option_map, refl, sym, ap, ap₂, subst, ◌∙◌, arith}
use Rattle.std.specs.Prelude.{take, option_and_then}
use Rattle.conflict_order.specs.declared.policy.Policy.{Policy}
use Rattle.conflict_order.specs.declared.version.Version.{Version}
use Rattle.conflict_order.proofs.OrderLaws.{no_version_AtMost_none}
use Rattle.cluster_types.specs.Partitions.{partition_of}
use Rattle.journal_lines.specs.declared.line.Line.{Line}
use Rattle.journal_lines.specs.declared.line.Line.TheVariants as line
use Rattle.std.specs.Prelude.{bytes_eq}
use Rattle.journal_readings.specs.Contents.{content, content_step, holds_any, copy_step, joined_if}
use Rattle.journal_readings.proofs.CopyLaws.{no_record-empty}
use Rattle.audit_laws.proofs.Tests.{differ, number_same}
use Rattle.audit_core.specs.declared.judge.Judge.{Judge}
use Rattle.audit_state.specs.declared.versions.Versions.{Versions}
use Rattle.audit_core.specs.Bringing.{StoresVersion, SeesHeld, IsBrought, BringsHere}
use Rattle.audit_core.specs.Holders.{content_now}
use Rattle.audit_state.specs.Places.{placed, placed_version, brought_version, is_at_most}
use Rattle.audit_state.specs.Records.{record_digest}
use Rattle.audit_core.specs.Stored.{SeesContents, SeesCopies, read_of}
use Rattle.audit_state.specs.Stores.{history_of}
use Rattle.audit_core.proofs.ContentLaws.{contents_brought, contents_passed}
use Rattle.audit_core.proofs.CopySteps.{copies_stay, copies_added}
use Rattle.audit_state.proofs.HistoryLaws.{now_at}
use Rattle.audit_state.proofs.PlaceLaws.{at_most_is}

-- ---- what the line says

version_brought : (l : Line) (n : ℕ) (d : List ℕ) (v : Version) → IsBrought l n d v → brought_version l ≡ Some v
version_brought (line.Apply m k t e w) n d v h = ap Some h.2
version_brought (line.Merge m k e w) n d v h = ap Some h.2
version_brought l n d v h = absurd h

content_brought : (by : Policy) (l : Line) (n : ℕ) (d : List ℕ) (v : Version) → IsBrought l n d v → (m : ℕ) (e : List ℕ) (held : Option Version) → content_step by m e held l ≡ joined_if ((n == m) && bytes_eq d e) by held v
content_brought by (line.Apply o k t f w) n d v h m e held = same o f w h.0 h.1 h.2
  where
    same : (o : ℕ) (f : List ℕ) (w : Version) → o ≡ n → f ≡ d → w ≡ v → joined_if ((o == m) && bytes_eq f e) by held w ≡ joined_if ((n == m) && bytes_eq d e) by held v
    same o f w p q r = ap (λ (x : ℕ). joined_if ((x == m) && bytes_eq f e) by held w) p ∙ (ap (λ (x : List ℕ). joined_if ((n == m) && bytes_eq x e) by held w) q ∙ ap (λ (x : Version). joined_if ((n == m) && bytes_eq d e) by held x) r)
content_brought by (line.Merge o k f w) n d v h m e held = same o f w h.0 h.1 h.2
  where
    same : (o : ℕ) (f : List ℕ) (w : Version) → o ≡ n → f ≡ d → w ≡ v → joined_if ((o == m) && bytes_eq f e) by held w ≡ joined_if ((n == m) && bytes_eq d e) by held v
    same o f w p q r = ap (λ (x : ℕ). joined_if ((x == m) && bytes_eq f e) by held w) p ∙ (ap (λ (x : List ℕ). joined_if ((n == m) && bytes_eq x e) by held w) q ∙ ap (λ (x : Version). joined_if ((n == m) && bytes_eq d e) by held x) r)
content_brought by l n d v h m e held = absurd h

copy_brought : (l : Line) (n : ℕ) (d : List ℕ) (v : Version) (p : ℕ) → partition_of d ≡ p → IsBrought l n d v → (m q : ℕ) (b : Bool) → copy_step m q b l ≡ (b || ((n == m) && (p == q)))
copy_brought (line.Apply o k t f w) n d v p part h m q b = ap₂ (λ (x : ℕ) (y : ℕ). b || ((x == m) && (y == q))) h.0 (ap partition_of h.1 ∙ part)
copy_brought (line.Merge o k f w) n d v p part h m q b = ap₂ (λ (x : ℕ) (y : ℕ). b || ((x == m) && (y == q))) h.0 (ap partition_of h.1 ∙ part)
copy_brought l n d v p part h m q b = absurd h

-- ---- the step

module _ (s : Judge) (i n r p : ℕ) (l : Line) (d : List ℕ) (v : Version) (here : BringsHere s i n r p l d v) (sees : SeesHeld s i) where
  stands : placed_version s.lines.now i ≡ Some v
  stands = ap (option_and_then brought_version) here.stands ∙ version_brought l n d v here.brought

  held_now : placed s.lines.now (content_now s n r) ≡ content s.by n d (take i s.lines.now)
  held_now = ap (placed s.lines.now) (now_at (history_of s.stores n r) i (sees.contents.below n r))
      ∙ (sees.contents.held n r i (omega arith) ∙ ap (read_of (λ e. content s.by n e (take i s.lines.now))) here.named)

  tested : is_at_most s.by (placed_version s.lines.now i) (placed s.lines.now (content_now s n r)) ≡ is_at_most s.by (Some v) (content s.by n d (take i s.lines.now))
  tested = ap₂ (is_at_most s.by) stands held_now

  -- the node holds something of the partition already
  holds : is_at_most s.by (Some v) (content s.by n d (take i s.lines.now)) ≡ true → holds_any n p (take i s.lines.now) ≡ true
  holds e = go (holds_any n p (take i s.lines.now)) refl
    where
      go : (b : Bool) → holds_any n p (take i s.lines.now) ≡ b → b ≡ true
      go true f = refl
      go false f = absurd (no_version_AtMost_none v (subst (Rattle.conflict_order.specs.Join.AtMost s.by (Some v)) ((no_record-empty s.by n p (take i s.lines.now)).0 f d here.part) (at_most_is s.by (Some v) (content s.by n d (take i s.lines.now)) e)))

  stays_or : (a b : Bool) → (b ≡ true → a ≡ true) → (a || b) ≡ a
  stays_or true b h = refl
  stays_or false true h = differ (h refl) refl
  stays_or false false h = refl

  pub passes : is_at_most s.by (placed_version s.lines.now i) (placed s.lines.now (content_now s n r)) ≡ true → SeesHeld s (suc i)
  passes e = let below : is_at_most s.by (Some v) (content s.by n d (take i s.lines.now)) ≡ true = sym tested ∙ e in record {
    contents = contents_passed s.records s.lines.now s.by i l here.stands n r d v here.named here.numbered stands (content_brought s.by l n d v here.brought) s.stores sees.contents below;
    copies = copies_stay s.records s.lines.now i l here.stands s.stores sees.copies (λ m q. copy_brought l n d v p here.part here.brought m q (holds_any m q (take i s.lines.now)) ∙ stays_or (holds_any m q (take i s.lines.now)) ((n == m) && (p == q)) (λ f. same m q f below));
  }
    where
      same : (m q : ℕ) → ((n == m) && (p == q)) ≡ true → is_at_most s.by (Some v) (content s.by n d (take i s.lines.now)) ≡ true → holds_any m q (take i s.lines.now) ≡ true
      same m q f below =
          subst (λ (x : ℕ). holds_any x q (take i s.lines.now) ≡ true) (number_same n m (Rattle.journal_readings.proofs.Fronts.and_left (n == m) _ f))
          (subst (λ (y : ℕ). holds_any n y (take i s.lines.now) ≡ true) (number_same p q (Rattle.journal_readings.proofs.Fronts.and_right (n == m) _ f)) (holds below))

  pub stores : (new : Judge) → StoresVersion s new i n r p → is_at_most s.by (placed_version s.lines.now i) (placed s.lines.now (content_now s n r)) ≡ false → SeesHeld new (suc i)
  stores new h e = record {
    contents = subst (λ (by : Policy). SeesContents new.stores new.records new.lines.now by (suc i)) (sym same_by) (subst (λ (ls : List Line). SeesContents new.stores new.records ls s.by (suc i)) (sym same_lines)
        (kept (contents_brought s.records s.lines.now s.by i l here.stands n r d v here.named here.numbered stands (content_brought s.by l n d v here.brought) s.stores new.stores sees.contents h.contents (sym tested ∙ e))));
    copies = subst (λ (ls : List Line). SeesCopies new.stores new.records ls (suc i)) (sym same_lines)
        (kept_copies (copies_added s.records s.lines.now i l here.stands s.stores new.stores n p r (ap (option_map partition_of) here.named ∙ ap Some here.part) sees.copies (sees.contents.below) h.contents h.copies (copy_brought l n d v p here.part here.brought)));
  }
    where
      same_by : new.by ≡ s.by
      same_by = ap (λ (x : Judge). x.by) h.keeps.rest

      same_lines : new.lines.now ≡ s.lines.now
      same_lines = ap (λ (x : Judge). x.lines.now) h.keeps.rest

      kept : SeesContents new.stores s.records s.lines.now s.by (suc i) → SeesContents new.stores new.records s.lines.now s.by (suc i)
      kept c = record {
        held = λ m q a le. c.held m q a le ∙ ap (read_of (λ e. content s.by m e (take a s.lines.now))) (sym (h.keeps.numbers.digests q));
        below = c.below;
        fresh = λ m q e. c.fresh m q (sym (h.keeps.numbers.digests q) ∙ e);
      }

      of_old : (x q : ℕ) → option_map partition_of (record_digest new.records x) ≡ Some q → option_map partition_of (record_digest s.records x) ≡ Some q
      of_old x q f = ap (option_map partition_of) (sym (h.keeps.numbers.digests x)) ∙ f

      kept_copies : SeesCopies new.stores s.records s.lines.now (suc i) → SeesCopies new.stores new.records s.lines.now (suc i)
      kept_copies c = record {
        holding = c.holding;
        holding_below = c.holding_below;
        changes_below = c.changes_below;
        held = λ m q x f. c.held m q x (of_old x q f);
        held_only = λ m q x f. ap (option_map partition_of) (h.keeps.numbers.digests x) ∙ c.held_only m q x f;
        held_ever = c.held_ever;
        touched = λ m q x f. c.touched m q x (of_old x q f);
        touched_only = λ m q x f. ap (option_map partition_of) (h.keeps.numbers.digests x) ∙ c.touched_only m q x f;
        changes_only = λ m q x f. ap (option_map partition_of) (h.keeps.numbers.digests x.number) ∙ c.changes_only m q x f;
        changes = λ m q x a b f. c.changes m q x a b (of_old x q f);
      }

-- ---- what is tried of the version

pub at_most_said : (s : Judge) (vs : Versions) (i n r : ℕ) (o : Option ℕ) (b : Bool) → vs.lines.now ≡ s.lines.now → vs.by ≡ s.by → o ≡ content_now s n r
    → b ≡ is_at_most vs.by (placed_version vs.lines.now i) (placed vs.lines.now o) → is_at_most s.by (placed_version s.lines.now i) (placed s.lines.now (content_now s n r)) ≡ b
at_most_said s vs i n r o b lines policy held said = sym (
    said
    ∙ (ap (λ (by : Policy). is_at_most by (placed_version vs.lines.now i) (placed vs.lines.now o)) policy
    ∙ (ap (λ (ls : List Line). is_at_most s.by (placed_version ls i) (placed ls o)) lines
    ∙ ap (λ (x : Option ℕ). is_at_most s.by (placed_version s.lines.now i) (placed s.lines.now x)) held)))

pub one_more : (s : Judge) (i : ℕ) → SeesHeld s (suc i) → SeesHeld s (i + 1)
one_more s i = let e : suc i ≡ i + 1 = omega arith in subst (SeesHeld s) e
