-- All laws together, line by line.
use Rattle.std.proofs.Common.{ℕ, List, [], ◌∷◌, ◌++◌, ◌↔◌, refl, sym, subst, append_assoc, append-nil}
use Rattle.std.specs.Prelude.{take, drop}
use Rattle.std.proofs.lemmas.List.{take-append-drop}
use Rattle.cluster_types.proofs.DistinctLaws.{none_distinct}
use Rattle.journal_lines.specs.declared.line.Line.{Line}
use Rattle.journal_readings.specs.Settings.{nodes}
use Rattle.journal_readings.specs.Claims.{OneMap, ShowsMap, NoLoss, SettledJoin, ReadJoin, JoinsView}
use Rattle.journal_readings.specs.Shape.{Shape}
use Rattle.journal_readings.proofs.AlongLaws.{no_some, one_map}
use Rattle.audit_laws.specs.Lawful.{Lawful}
use Rattle.audit_laws.specs.Fits.{Fits, FitsShape, LosesNothing, JoinsReplicas}
use Rattle.audit_laws.proofs.ShapeSteps.{shape_front, shape_more}
use Rattle.audit_laws.proofs.MapSteps.{map_front, map_more}
use Rattle.audit_laws.proofs.LossSteps.{bare_lossless, loss_front, loss_more}
use Rattle.audit_laws.proofs.SettledSteps.{bare_settled, settled_front, settled_more}
use Rattle.audit_laws.proofs.ReadSteps.{reads_front, reads_more}

pub shape_step : (j : List Line) (l : Line) → Shape (j ++ l ∷ []) ↔ (Shape j × FitsShape j l)
shape_step j l = (shape_front j l, λ h. shape_more j l h.0 h.1)

pub map_step : (j : List Line) (l : Line) → Shape (j ++ l ∷ []) → OneMap (j ++ l ∷ []) ↔ (OneMap j × ShowsMap j l)
map_step j l s = (map_front j l s, λ h. map_more j l s h.0 h.1)

pub loss_step : (j : List Line) (l : Line) → Shape (j ++ l ∷ []) → NoLoss (j ++ l ∷ []) ↔ (NoLoss j × LosesNothing j l)
loss_step j l s = (loss_front j l s, λ h. loss_more j l s h.0 h.1)

pub settled_step : (j : List Line) (l : Line) → Shape (j ++ l ∷ []) → SettledJoin (j ++ l ∷ []) ↔ (SettledJoin j × JoinsReplicas j l)
settled_step j l s = (settled_front j l s, λ h. settled_more j l s h.0 h.1)

pub read_step : (j : List Line) (l : Line) → Shape (j ++ l ∷ []) → ReadJoin (j ++ l ∷ []) ↔ (ReadJoin j × JoinsView j j l)
read_step j l s = (reads_front j l s, λ h. reads_more j l s h.0 h.1)

-- ---- all of them

lawful_front : (j : List Line) (l : Line) → Lawful (j ++ l ∷ []) → Lawful j × Fits j l
lawful_front j l h = (
  record {
    shape = (shape_front j l h.shape).0;
    one_map = (map_front j l h.shape h.one_map).0;
    no_loss = (loss_front j l h.shape h.no_loss).0;
    settled_join = (settled_front j l h.shape h.settled_join).0;
    read_join = (reads_front j l h.shape h.read_join).0;
  },
  record {
    shape = (shape_front j l h.shape).1;
    map = (map_front j l h.shape h.one_map).1;
    losses = (loss_front j l h.shape h.no_loss).1;
    replicas = (settled_front j l h.shape h.settled_join).1;
    joins = (reads_front j l h.shape h.read_join).1;
  },
)

lawful_more : (j : List Line) (l : Line) → Lawful j → Fits j l → Lawful (j ++ l ∷ [])
lawful_more j l h f = let s : Shape (j ++ l ∷ []) = shape_more j l h.shape f.shape in record {
  shape = s;
  one_map = map_more j l s h.one_map f.map;
  no_loss = loss_more j l s h.no_loss f.losses;
  settled_join = settled_more j l s h.settled_join f.replicas;
  read_join = reads_more j l s h.read_join f.joins;
}

pub lawful_step : (j : List Line) (l : Line) → Lawful (j ++ l ∷ []) ↔ (Lawful j × Fits j l)
lawful_step j l = (lawful_front j l, λ h. lawful_more j l h.0 h.1)

none_shaped : Shape []
unfolding nodes
none_shaped = record {
  header = λ i l e. absurd (no_some e);
  declared_once = none_distinct;
  named = λ i l e. absurd (no_some e);
  one_list = λ i o n m k ms others e f. absurd (no_some e);
  falling = λ i l e. absurd (no_some e);
  entered = λ i l e. absurd (no_some e);
  in_view = λ i l e. absurd (no_some e);
  exchanged = λ i l e. absurd (no_some e);
}

pub none_lawful : Lawful []
none_lawful = record {
  shape = none_shaped;
  one_map = one_map [] (λ i l e. absurd (no_some e));
  no_loss = bare_lossless [] refl;
  settled_join = bare_settled [] refl;
  read_join = record { joined = λ i l e. absurd (no_some e) };
}

-- what a journal begins with
begins : (a b : List Line) → Lawful (a ++ b) → Lawful a
begins a [] h = subst Lawful (append-nil a) h
begins a (l ∷ b) h = (lawful_front a l (begins (a ++ l ∷ []) b (subst Lawful (sym (append_assoc a (l ∷ []) b)) h))).0

pub lawful_fronts : (j : List Line) → Lawful j → (i : ℕ) → Lawful (take i j)
lawful_fronts j h i = begins (take i j) (drop i j) (subst Lawful (sym (take-append-drop i j)) h)
