-- What is known behind a line that is none of a header.
use Rattle.std.proofs.Common.{◌≡◌, ℕ, ◌+◌, Bool, true, false, not, ◌&&◌, List, [], ◌∷◌, ◌++◌, Some, refl, sym, ap, ◌∙◌}
use Rattle.std.specs.Prelude.{take, slice_get}
use Rattle.std.specs.List.{list_all}
use Rattle.std.proofs.lemmas.List.Folds.{list_all-append}
use Rattle.journal_lines.specs.declared.line.Line.{Line}
use Rattle.journal_readings.specs.Shape.{is_header, EntersFalling}
use Rattle.audit_laws.specs.Fits.{FitsShape}
use Rattle.audit_laws.proofs.Tests.{differ}
use Rattle.audit_core.specs.declared.judge.Judge.{Judge}
use Rattle.audit_laws.specs.declared.law.Law.TheVariants as law
use Rattle.audit_core.specs.Sees.{SeesFrame, SeesTried, SeesState, SeesJournal}
use Rattle.audit_core.specs.Shapes.{fits_shape}
use Rattle.audit_core.specs.Stored.{SeesStores}
use Rattle.audit_core.specs.Verdicts.{BreaksFirst}
use Rattle.audit_core.proofs.ShapeLaws.{shape_so, shape_then}
use Rattle.audit_core.proofs.VerdictLaws.{taken_next}

-- ---- that some line was none of a header

begun_frame : (s : Judge) (j : List Line) → SeesFrame s j → SeesFrame (record s { begun = true }) j
begun_frame s j f = record {
  header = record { policy = f.header.policy; factor = f.header.factor; declared = f.header.declared };
  nodes = f.nodes;
  known_views = f.known_views;
  views = f.views;
  stamps = f.stamps;
}

begun_stores : (s : Judge) (i : ℕ) (all j : List Line) → SeesStores s i all j → SeesStores (record s { begun = true }) i all j
begun_stores s i all j h = record {
  records = record { numbered = h.records.numbered; unbrought = h.records.unbrought; newest = h.records.newest; holders = h.records.holders };
  contents = h.contents;
  copies = h.copies;
  written = record { applied = h.written.applied; written = h.written.written; listed = h.written.listed; listed_only = h.written.listed_only };
}

begun_tried : (s : Judge) (j : List Line) → SeesTried s j → SeesTried (record s { begun = true }) j
begun_tried s j h = record {
  stands = h.stands;
  listed = h.listed;
  unsettled = h.unsettled;
  tried = λ k p x e bound. record { closed = (h.tried k p x e bound).closed; joined = (h.tried k p x e bound).joined };
}

not_bare : (j : List Line) (l : Line) → is_header l ≡ false → list_all is_header (j ++ l ∷ []) ≡ false
not_bare j l e = list_all-append is_header j (l ∷ []) ∙ (ap (λ (b : Bool). list_all is_header j && (b && true)) e ∙ go (list_all is_header j))
  where
    go : (b : Bool) → (b && (false && true)) ≡ false
    go true = refl
    go false = refl

pub begun_sees : (s : Judge) (i : ℕ) (all : List Line) (l : Line) → slice_get all i ≡ Some l → is_header l ≡ false → SeesState s (i + 1) all → SeesJournal (record s { begun = true }) (i + 1) all
begun_sees s i all l e other h =
    let begun : list_all is_header (take (i + 1) all) ≡ false = ap (list_all is_header) (taken_next all i l e) ∙ not_bare (take i all) l other in
    record {
      state = record {
        lines = h.lines;
        frame = begun_frame s (take (i + 1) all) h.frame;
        stores = begun_stores s (i + 1) all (take (i + 1) all) h.stores;
        tried = begun_tried s (take (i + 1) all) h.tried;
        covers = λ n m p c number e. record { held = (h.covers n m p c number e).held; of = (h.covers n m p c number e).of; covers = (h.covers n m p c number e).covers };
        writes = record { done = h.writes.done; open_writes = h.writes.open_writes; by_master = h.writes.by_master };
        stays = record { unchanged = h.stays.unchanged };
      };
      begun = sym (ap not begun);
      bare = λ q. differ q begun;
    }

-- ---- the shape

pub fits_so : (s : Judge) (i : ℕ) (all : List Line) (l : Line) → SeesJournal s i all → (fits_shape s l ≡ true → EntersFalling l) → fits_shape s l ≡ true → FitsShape (take i all) l
fits_so s i all l h falls e = shape_so s (take i all) l h.state.frame h.begun (falls e) e

pub breaks_shape : (s : Judge) (i : ℕ) (all : List Line) (l : Line) → SeesJournal s i all → fits_shape s l ≡ false → BreaksFirst law.Shape (take i all) l
breaks_shape s i all l h e = record {
  before = tt;
  broken = λ f. differ (shape_then s (take i all) l h.state.frame h.begun f) e;
}
