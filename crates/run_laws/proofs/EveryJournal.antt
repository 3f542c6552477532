-- What holds of the journal of taken steps holds of that of a script's run, of one that was begun, and of no line at all.
use Rattle.std.proofs.Common.{◌≡◌, ◌≢◌, ℕ, ◌+◌, ◌<◌, List, [], ◌++◌, length, map, refl, sym, ap, ◌∙◌, subst, subst₂, lit<, lit≤, arith}
use Rattle.std.proofs.lemmas.List.Elements.{All-nil}
use Rattle.cluster_types.specs.Partitions.{partition_count}
use Rattle.cluster_types.proofs.DistinctLaws.{none_distinct}
use Rattle.script_lang.specs.declared.script.Script.{Script}
use Rattle.script_lang.specs.Proper.{IsProper, IsProperHeaderLine}
use Rattle.journal_lines.specs.declared.line.Line.{Line}
use Rattle.cluster_rules.specs.FrontRuns.{FrontRun}
use Rattle.journal_readings.specs.Claims.{KeysRise}
use Rattle.cluster_rules.specs.Marks.{Mark, Writes}
use Rattle.cluster_rules.specs.Opening.{Header, header_lines}
use Rattle.cluster_rules.specs.Steps.{Step, all_marks, all_lines}
use Rattle.cluster_rules.specs.World.{opened}
use Rattle.cluster_rules.proofs.FrontRuns.{fronts_allowed, run_is_front, begun_is_front}
use Rattle.cluster_rules.proofs.MarkLaws.{lines_of_run}
use Rattle.cluster_laws.specs.Journals.{OfJournals, journal}
use Rattle.key_laws.specs.Licences.{LicensedMarks}
use Rattle.key_laws.specs.Traced.{Traced, untouched}
use Rattle.key_laws.proofs.Kept.{licensed_append}
use Rattle.key_laws.proofs.Licensed.{licensed_keys_rise}
use Rattle.key_laws.proofs.Runs.{start, header_ok, header_same}
use Rattle.run_laws.specs.Claims.{OfTakenSteps, OfFrontRuns, OfEveryJournal}
use Rattle.run_laws.specs.Taken.{IsProperEvent, Taken, ground_of, line_bound}
use Rattle.run_laws.proofs.EventRanges.{events_of_front}
use Rattle.run_laws.proofs.Named.{all_playable}
use Rattle.run_laws.proofs.Premised.{taken_walks, taken_is_a_journal}

-- ---- taken steps

-- the steps' lines are no more than the journal's
no_more : (h : Header) (ss : List Step) (lines : List Line) → lines ≡ header_lines h ++ all_lines ss → length lines < line_bound → length (all_lines ss) < line_bound
no_more h ss lines written short = omega (arith, short, ap length written ∙ lengths (header_lines h) (all_lines ss))
  where
    lengths : (a b : List Line) → length (a ++ b) ≡ length a + length b
    lengths a b = Rattle.std.proofs.Common.length-append a b

pub taken_of_front : (s : Script) (lines : List Line) (r : FrontRun s lines) → IsProper s → length lines < line_bound → Taken s.header r.taken
taken_of_front s lines r p short = record {
  header = p.header;
  declared = p.nodes;
  allowed = fronts_allowed partition_count (opened s.header) s.commands r.taken (all_playable s p) r.front;
  ranges = events_of_front partition_count s r.taken p.header p.commands r.front;
  short = no_more s.header r.taken lines r.written short;
}

none_taken : Taken [] []
none_taken = record {
  header = All-nil IsProperHeaderLine;
  declared = record { limit = lit≤ tt; distinct = none_distinct };
  allowed = tt;
  ranges = All-nil (λ (x : Step). IsProperEvent x.event);
  short = lit< tt;
}

-- whole runs and those that were begun are fronts
pub every_journal : (P : List Line → Type 0) → OfTakenSteps P → OfEveryJournal P
every_journal P of = record {
  steps = of;
  runs = λ s lines r p short. front s lines (run_is_front partition_count s lines r) p short;
  begun = λ s lines next r p short. front s lines (begun_is_front partition_count s lines next r) p short;
  fronts = front;
  nothing = of [] [] none_taken;
}
  where
    front : OfFrontRuns P
    front s lines r p short = subst P (sym r.written) (of s.header r.taken (taken_of_front s lines r p short))

-- ---- what the laws of licensed lines and of keys say

-- what holds of every journal of cluster_laws
pub by_licences : (P : List Line → Type 0) → OfJournals P → OfEveryJournal P
by_licences P of = every_journal P (λ h ss t. of (header_lines h) (ground_of h ss) (all_lines ss) (taken_is_a_journal h ss t))

pub all_marks_licensed : (h : Header) (ss : List Step) → Taken h ss → LicensedMarks (untouched (opened h)) (map Writes (header_lines h) ++ all_marks ss)
all_marks_licensed h ss t = licensed_append (untouched (opened h)) (map Writes (header_lines h)) (all_marks ss) (header_ok (untouched (opened h)) h)
    (subst (λ (u : Traced). LicensedMarks u (all_marks ss)) (sym (header_same (untouched (opened h)) h)) (taken_walks h ss t).key)

pub all_lines_are : (h : Header) (ss : List Step) → Rattle.cluster_rules.specs.Marks.lines_among (map Writes (header_lines h) ++ all_marks ss) ≡ journal (header_lines h) (all_lines ss)
all_lines_are h ss = lines_of_run h (record { steps = ss; world = opened h })

pub keys_rise : OfEveryJournal KeysRise
keys_rise = every_journal KeysRise (λ h ss t. subst KeysRise (all_lines_are h ss) (licensed_keys_rise (untouched (opened h)) (map Writes (header_lines h) ++ all_marks ss) (start h) (all_marks_licensed h ss t)))
