-- What is known stays as more `exchanged` lines are judged.
use Rattle.std.proofs.Common.{◌≡◌, ℕ, ◌==◌, ◌<◌, ◌≤◌, ◌+◌, Bool, true, false, ◌&&◌, cond, List, [], ◌∷◌, length, Option, refl, sym, ap, subst, ◌∙◌, arith}
use Rattle.std.specs.Prelude.{is_some, take, slice_get, All}
use Rattle.std.proofs.lemmas.List.Elements.{All-cons, All-weaker}
use Rattle.journal_lines.specs.declared.line.Line.{Line}
use Rattle.journal_readings.specs.Lines.{has_node}
use Rattle.journal_readings.specs.Settings.{factor_of}
use Rattle.journal_readings.specs.Shape.{Shape}
use Rattle.journal_readings.proofs.Fronts.{and_left, and_right}
use Rattle.audit_laws.proofs.Tests.{number_same}
use Rattle.audit_state.specs.declared.history.Change.{Change}
use Rattle.audit_core.specs.declared.judge.Judge.{Judge}
use Rattle.audit_state.specs.declared.stamps.Stamps.{Stamps}
use Rattle.audit_state.specs.Histories.{AreBelow}
use Rattle.audit_core.specs.Known.{node_at, stamps_at}
use Rattle.audit_core.specs.Covering.{SeesCovers}
use Rattle.audit_core.specs.Sees.{SeesTried, SeesWrites, SeesStays, SeesState}
use Rattle.audit_core.specs.Stamped.{SeesStamps, StandInOrder, change_at, whole_of, finishes_exchange, exchanged_places_from, exchanged_places}
use Rattle.audit_state.specs.Stamps.{stamp_marks, judged_of, wholes_of}
use Rattle.audit_core.specs.Stored.{SeesStores}
use Rattle.audit_core.specs.Wholes.{AreAscending, JudgesRight, JudgesSome, exchanged_by}
use Rattle.audit_core.specs.Wholes.{makes_whole}
use Rattle.audit_core.proofs.JudgeLaws.{judged_same}
use Rattle.audit_core.proofs.RowLaws.{exchanged_so, judged_so}

-- ---- one copy

stamps_so : (s : Judge) (i : ℕ) (all : List Line) (n p : ℕ) (y : Option Stamps) → SeesState s i all → Shape (take i all) → is_some (node_at s n) ≡ true
    → stamp_marks y ≡ stamp_marks (stamps_at s n p) → JudgesRight s n p y → SeesStamps (factor_of (take i all)) (take i all) n p y
stamps_so s i all n p y h shape there m r =
    let x : SeesStamps (factor_of (take i all)) (take i all) n p (stamps_at s n p) = h.frame.stamps n p in
    let same : exchanged_by (node_at s n) ≡ exchanged_places n (take i all) = exchanged_so s i all n h there in
    record {
      marks = λ a. ap (λ (cs : List Change). change_at cs a) m ∙ x.marks a;
      mark_lines = subst (AreBelow (length (take i all))) (sym m) x.mark_lines;
      mark_order = subst StandInOrder (sym m) x.mark_order;
      judged = subst (λ (ns : List ℕ). judged_of y ≤ length ns) same r.judged;
      wholes = λ a. r.wholes a ∙ (ap (λ (ns : List ℕ). whole_of (has_node (take (judged_of y) ns) a && makes_whole s n p (slice_get s.lines.now a)) a) same
          ∙ ap (λ (b : Bool). whole_of b a) (judged_so s i all n p a (judged_of y) (has_node (take (judged_of y) (exchanged_places n (take i all))) a) h shape refl));
      whole_order = r.order;
      whole_lines = subst (λ (ns : List ℕ). All (λ (c : Change). has_node (take (judged_of y) ns) c.line ≡ true) (wholes_of y)) same r.lines;
    }

-- what was judged by the new state is right by the old one
right_back : (old new : Judge) (n p : ℕ) (y : Option Stamps) → record new { stamps = old.stamps } ≡ old → JudgesRight new n p y → JudgesRight old n p y
right_back old new n p y rest h = judged_same new old n p y y (sym (ap (λ (s : Judge). record s { stamps = new.stamps }) rest)) refl refl h

-- ---- all of it

pub kept_stores : (s new : Judge) (i : ℕ) (all j : List Line) → SeesStores (record new { stamps = s.stamps }) i all j → SeesStores new i all j
kept_stores s new i all j h = record {
  records = record { numbered = h.records.numbered; unbrought = h.records.unbrought; newest = h.records.newest; holders = h.records.holders };
  contents = h.contents;
  copies = h.copies;
  written = record { applied = h.written.applied; written = h.written.written; listed = h.written.listed; listed_only = h.written.listed_only };
}

pub kept_tried : (s new : Judge) (j : List Line) → SeesTried (record new { stamps = s.stamps }) j → SeesTried new j
kept_tried s new j h = record {
  stands = h.stands;
  listed = h.listed;
  unsettled = h.unsettled;
  tried = λ k p x e bound. record { closed = (h.tried k p x e bound).closed; joined = (h.tried k p x e bound).joined };
}

pub kept_covers : (s new : Judge) (i : ℕ) → SeesCovers (record new { stamps = s.stamps }) i → SeesCovers new i
kept_covers s new i h = λ n m p c number e. record { held = (h n m p c number e).held; of = (h n m p c number e).of; covers = (h n m p c number e).covers }

pub kept_writes : (s new : Judge) (j : List Line) → SeesWrites (record new { stamps = s.stamps }) j → SeesWrites new j
kept_writes s new j h = record { done = h.done; open_writes = h.open_writes; by_master = h.by_master }

pub kept_stays : (s new : Judge) (j : List Line) → SeesStays (record new { stamps = s.stamps }) j → SeesStays new j
kept_stays s new j h = record { unchanged = h.unchanged }

pub notes_kept : (old new : Judge) (i : ℕ) (all : List Line) (n p count : ℕ) → SeesState old i all → Shape (take i all) → is_some (node_at old n) ≡ true → JudgesSome n p count old new → SeesState new i all
notes_kept old new i all n p count h shape there c =
    let moved : SeesState (record new { stamps = old.stamps }) i all = subst (λ (s : Judge). SeesState s i all) (sym c.rest) h in
    record {
      lines = moved.lines;
      frame = record {
        header = record { policy = moved.frame.header.policy; factor = moved.frame.header.factor; declared = moved.frame.header.declared };
        nodes = moved.frame.nodes;
        known_views = moved.frame.known_views;
        views = moved.frame.views;
        stamps = stamps;
      };
      stores = kept_stores old new i all (take i all) moved.stores;
      tried = kept_tried old new (take i all) moved.tried;
      covers = kept_covers old new i moved.covers;
      writes = kept_writes old new (take i all) moved.writes;
      stays = kept_stays old new (take i all) moved.stays;
    }
  where
    here : SeesStamps (factor_of (take i all)) (take i all) n p (stamps_at new n p)
    here = stamps_so old i all n p (stamps_at new n p) h shape there c.marks (right_back old new n p (stamps_at new n p) c.rest c.right)

    stamps : (m q : ℕ) → SeesStamps (factor_of (take i all)) (take i all) m q (stamps_at new m q)
    stamps m q = go ((n == m) && (p == q)) refl
      where
        go : (b : Bool) → ((n == m) && (p == q)) ≡ b → SeesStamps (factor_of (take i all)) (take i all) m q (stamps_at new m q)
        go true e =
            subst (λ (x : ℕ). SeesStamps (factor_of (take i all)) (take i all) x q (stamps_at new x q)) (number_same n m (and_left (n == m) (p == q) e))
            (subst (λ (x : ℕ). SeesStamps (factor_of (take i all)) (take i all) n x (stamps_at new n x)) (number_same p q (and_right (n == m) (p == q) e)) here)
        go false e = subst (SeesStamps (factor_of (take i all)) (take i all) m q) (sym (c.others m q e)) (h.frame.stamps m q)

-- ---- a node's `exchanged` lines stand in rising order

all_above : (n place least : ℕ) (j : List Line) → least ≤ place → All (λ (m : ℕ). least ≤ m) (exchanged_places_from n place j)
all_above n place least [] h = λ k d within. absurd (omega (arith, within))
all_above n place least (x ∷ j) h = go (finishes_exchange n x) (all_above n (place + 1) least j (omega (arith, h)))
  where
    go : (b : Bool) → All (λ (m : ℕ). least ≤ m) (exchanged_places_from n (place + 1) j) → All (λ (m : ℕ). least ≤ m) (cond b (place ∷ exchanged_places_from n (place + 1) j) (exchanged_places_from n (place + 1) j))
    go true rest = All-cons (λ (m : ℕ). least ≤ m) place (exchanged_places_from n (place + 1) j) h
        rest
    go false rest = rest

finished_rising : (n place : ℕ) (j : List Line) → AreAscending (exchanged_places_from n place j)
finished_rising n place [] = tt
finished_rising n place (x ∷ j) = go (finishes_exchange n x) (finished_rising n (place + 1) j)
  where
    go : (b : Bool) → AreAscending (exchanged_places_from n (place + 1) j) → AreAscending (cond b (place ∷ exchanged_places_from n (place + 1) j) (exchanged_places_from n (place + 1) j))
    go true rest = (All-weaker (λ (m : ℕ). place + 1 ≤ m) (λ (m : ℕ). place < m) (λ m above. omega (arith, above)) (exchanged_places_from n (place + 1) j) (all_above n (place + 1) (place + 1) j (omega arith)), rest)
    go false rest = rest

pub exchanged_rise : (s : Judge) (i : ℕ) (all : List Line) (n : ℕ) → SeesState s i all → is_some (node_at s n) ≡ true → AreAscending (exchanged_by (node_at s n))
exchanged_rise s i all n h there = subst AreAscending (sym (exchanged_so s i all n h there)) (finished_rising n 0 (take i all))
