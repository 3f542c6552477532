-- Behind the first of taken steps, by the ground of all of them: what a reader's picture has of the world there.
use Rattle.std.proofs.Common.{◌≡◌, ℕ, List, [], ◌∷◌, ◌++◌, Option, refl, sym, ap, subst, ◌∙◌, append-nil, append_assoc}
use Rattle.std.specs.Prelude.{unwrap_or}
use Rattle.std.proofs.lemmas.Grind.{flat_map-append}
use Rattle.cluster_types.specs.declared.member.Member.{Member}
use Rattle.journal_lines.specs.declared.line.Line.{Line}
use Rattle.cluster_rules.specs.Marks.{Begins, Mark, Writes, lines_among}
use Rattle.cluster_rules.specs.Opening.{Header, declared_factor, declared_nodes, declared_policy}
use Rattle.cluster_rules.specs.Steps.{Step, all_marks, marks_of}
use Rattle.cluster_rules.specs.World.{World}
use Rattle.cluster_laws.specs.Ground.{Ground, IsGround}
use Rattle.cluster_laws.specs.Licences as licences
use Rattle.cluster_laws.specs.Picture.{Picture, start}
use Rattle.cluster_laws.proofs.ReadingTies.{tied_start, tied_step}
use Rattle.cluster_laws.proofs.ReadingTies as readings
use Rattle.key_laws.specs.Licences.{LicensedMarks}
use Rattle.run_laws.specs.Chronicle.{Grounds}
use Rattle.run_laws.specs.Fronts.{Front, Sane, Tied, front_after, front_after_all, world_of}
use Rattle.run_laws.specs.LineDue.{DueMarks, LawfulFront}
use Rattle.run_laws.specs.LineOk.{Fitting, Goes}
use Rattle.run_laws.specs.Taken.{Taken, first, ground_of}
use Rattle.run_laws.specs.Worlds.{world_after}
use Rattle.run_laws.proofs.Carried.{begun_tied, line_tied}
use Rattle.run_laws.proofs.Grounded.{grounds_back, onward_all, sane_of}
use Rattle.run_laws.proofs.Journal.{Walked, after_append, first_tied, world_all}
use Rattle.run_laws.proofs.Premised.{taken_is_a_journal, taken_leads, taken_walks}
use Rattle.run_laws.proofs.Runs.{all_fit, all_licensed}
use Rattle.calm_laws.proofs.Onward.{taken_front}

-- ---- marks before and behind

pub goes_front : (G : Ground) (z : Front) (ms ns : List Mark) → Goes G z (ms ++ ns) → Goes G z ms
goes_front G z [] ns g = tt
goes_front G z (Begins e ∷ ms) ns g = goes_front G (front_after z (Begins e)) ms ns g
goes_front G z (Writes l ∷ ms) ns g = (g.0, g.1, goes_front G (front_after z (Writes l)) ms ns g.2)

tied_all : (G : Ground) (z : Front) (w : Picture) (ms : List Mark) → Goes G z ms → Tied z w → Tied (front_after_all z ms) (licences.picture_after_all G w (lines_among ms))
tied_all G z w [] g t = t
tied_all G z w (Begins e ∷ ms) g t = tied_all G (front_after z (Begins e)) w ms g
    (begun_tied z w e t)
tied_all G z w (Writes l ∷ ms) g t = tied_all G (front_after z (Writes l)) (licences.picture_after G w l) ms g.2 (line_tied G z w l g.0 g.1 t)

marks_behind : (z : Front) (ms ns : List Mark) → LicensedMarks z.chronicle.traced (ms ++ ns) → DueMarks z (ms ++ ns) → LicensedMarks (front_after_all z ms).chronicle.traced ns × DueMarks (front_after_all z ms) ns
marks_behind z [] ns key due = (key, due)
marks_behind z (Begins e ∷ ms) ns key due = marks_behind (front_after z (Begins e)) ms ns key.1 due
marks_behind z (Writes l ∷ ms) ns key due = marks_behind
    (front_after z (Writes l)) ms ns key.1 due.1

grounds : (h : Header) (ss : List Step) → Grounds (ground_of h ss) (front_after_all (first h) (all_marks ss)).chronicle
grounds h ss = record { members = λ k ms e. ap (λ (o : Option (List Member)). unwrap_or o []) e; row = λ n k e p. refl }

-- what a reader finds, and the laws of lines
told_all : (G : Ground) (x : IsGround G) (ns : List ℕ) (j : List Line) (w : Picture) (ls : List Line) → readings.Tied G ns j w → licences.Licensed G w ls → Fitting G ns w ls → readings.Tied G ns (j ++ ls) (licences.picture_after_all G w ls)
told_all G x ns j w [] t ok f = subst (λ (k : List Line). readings.Tied G ns k w) (sym (append-nil j)) t
told_all G x ns j w (l ∷ ls) t ok f =
    subst (λ (k : List Line). readings.Tied G ns k (licences.picture_after_all G w (l ∷ ls))) (append_assoc j (l ∷ []) ls)
    (told_all G x ns (j ++ l ∷ []) (licences.picture_after G w l) ls (tied_step G x ns j w l t ok.0 f.0) ok.1 f.1)

-- ---- the picture

-- a picture of the world behind those lines, by the ground: it is tied to it, and all laws of lines hold
pub record Pictured (G : Ground) (ns : List ℕ) (j : List Line) (w : World) : Type 0 where
  pub front : Front
  pub world : world_of front ≡ w
  pub picture : Picture
  pub sane : Sane G (world_of front)
  pub tied : Tied front picture
  pub told : readings.Tied G ns j picture

pub pictured : (h : Header) (ss more : List Step) → Taken h (ss ++ more) → Pictured (ground_of h (ss ++ more)) (declared_nodes h) (lines_among (all_marks ss)) (world_after h ss)
pictured h ss more t = record {
  front = z;
  world = world_all (first h) (all_marks ss);
  picture = licences.picture_after_all G start (lines_among (all_marks ss));
  sane = sane_of G (declared_policy h) (declared_factor h) z refl refl lawful (grounds_back G _ _ (onward_all (declared_policy h) (declared_factor h) z (all_marks more) behind.0 behind.1 lawful).longer ends);
  tied = tied_all G (first h) start (all_marks ss) goes (first_tied h);
  told = told_all G (taken_is_a_journal h (ss ++ more) t).ground (declared_nodes h) [] start (lines_among (all_marks ss)) (tied_start G (declared_nodes h))
      (all_licensed G (first h) start (all_marks ss) goes (first_tied h)) (all_fit G (first h) start (declared_nodes h) (all_marks ss) refl goes (first_tied h));
}
  where
    G : Ground
    G = ground_of h (ss ++ more)

    z : Front
    z = front_after_all (first h) (all_marks ss)

    parts : all_marks (ss ++ more) ≡ all_marks ss ++ all_marks more
    parts = flat_map-append marks_of ss more

    goes : Goes G (first h) (all_marks ss)
    goes = goes_front G (first h) (all_marks ss) (all_marks more) (subst (Goes G (first h)) parts (taken_walks h (ss ++ more) t).goes)

    lawful : LawfulFront (declared_policy h) (declared_factor h) z
    lawful = (taken_leads h ss (taken_front h ss more t)).lawful

    whole : Walked (declared_policy h) (declared_factor h) (first h) (all_marks (ss ++ more))
    whole = taken_leads h (ss ++ more) t

    behind : LicensedMarks z.chronicle.traced (all_marks more) × DueMarks z (all_marks more)
    behind = marks_behind (first h) (all_marks ss) (all_marks more) (subst (LicensedMarks (first h).chronicle.traced) parts whole.key) (subst (DueMarks (first h)) parts whole.due)

    ends : Grounds G (front_after_all z (all_marks more)).chronicle
    ends = subst (λ (y : Front). Grounds G y.chronicle) (ap (front_after_all (first h)) parts ∙ after_append (first h) (all_marks ss) (all_marks more)) (grounds h (ss ++ more))

-- what the steps behind are
pub goes_behind : (h : Header) (ss more : List Step) → Taken h (ss ++ more) → Goes (ground_of h (ss ++ more)) (front_after_all (first h) (all_marks ss)) (all_marks more)
goes_behind h ss more t = go (first h) (all_marks ss) (subst (Goes G (first h)) (flat_map-append marks_of ss more) (taken_walks h (ss ++ more) t).goes)
  where
    G : Ground
    G = ground_of h (ss ++ more)

    go : (z : Front) (ms : List Mark) → Goes G z (ms ++ all_marks more) → Goes G (front_after_all z ms) (all_marks more)
    go z [] g = g
    go z (Begins e ∷ ms) g = go (front_after z (Begins e)) ms g
    go z (Writes l ∷ ms) g = go (front_after z (Writes l)) ms g.2
