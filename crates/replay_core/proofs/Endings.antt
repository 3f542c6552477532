-- How a run ended says what decides it, and what holds of its journal.
use Rattle.std.proofs.Common.{◌≡◌, ◌≢◌, ◌⊎◌, ℕ, ◌<◌, ◌≤◌, inl, inr, nat_lt, Bool, true, false, List, [], ◌++◌, length, Option, Some, None, Result, Ok, Err, refl, sym, ap, subst, arith, length-append}
use Rattle.std.proofs.lemmas.Bool.Decides.{nat_tests}
use Rattle.byte_ends.specs.Faults.{Rose}
use Rattle.cluster_types.specs.Partitions.{partition_count}
use Rattle.journal_lines.specs.declared.line.Line.{Line}
use Rattle.journal_text.specs.Journals.{IsWithin}
use Rattle.journal_text.specs.Text.{text}
use Rattle.script_lang.specs.declared.fault.Cause.{Cause}
use Rattle.script_lang.specs.declared.script.Script.{Script}
use Rattle.script_lang.specs.Grammar.{Fault, script_of}
use Rattle.cluster_rules.specs.Opening.{header_lines}
use Rattle.cluster_rules.specs.Steps.{all_lines}
use Rattle.replay_core.specs.declared.status.Status.{Status}
use Rattle.replay_core.specs.declared.status.Status.TheVariants as status
use Rattle.replay_core.specs.Outcome.{Ended, EndsBySource, EndsBytes, EndsScript, FitsWhole, HadNoMore, HadScript, HadTooMuch, IsCut, IsSourceDecided, Misread, Outgrown, PlayEnded, PushesNothing, Replayed, SourceEnded, WritingEnded}
use Rattle.replay_core.specs.Streams.{HadAll, script_limit}
use Rattle.replay_core.proofs.StreamLaws.{all_few}
use Rattle.replay_core.proofs.RunsOnce.{BeginsWith, run_begins}
use Rattle.replay_core.proofs.TextLaws.{text_append}

-- ---- a run that is cut doesn't fit

-- what is within the limits begins with lines that are
begins_within : (xs ys : List Line) → IsWithin (xs ++ ys) → IsWithin xs
begins_within xs ys h = record {
  lines_fit = omega (arith, length-append xs ys, h.lines_fit);
  text_fits = omega (arith, ap length (text_append xs ys), length-append (text xs) (text ys), h.text_fits);
}

cut_passes : (script : Script) (j : List Line) → IsCut script j → ¬ FitsWhole script
cut_passes script j (inl at_once) fits =
    at_once.passes (begins_within (header_lines script.header) (all_lines fits.played.played.steps) (subst IsWithin fits.played.written fits.within))
cut_passes script j (inr stop) fits =
    let b : BeginsWith fits.journal (j ++ stop.next) = run_begins partition_count script fits.journal j stop.next fits.played stop.begun in
    stop.passes (begins_within (j ++ stop.next) b.others (subst IsWithin b.parts fits.within))

-- ---- what decides

ends_script : (bytes : List ℕ) (read : Result Script Fault) (st : Status) → script_of bytes ≡ read → EndsScript read st → EndsScript (script_of bytes) st
ends_script bytes read st e h = subst (λ (r : Result Script Fault). EndsScript r st) (sym e) h

ends_within : (bytes : List ℕ) (st : Status) (b : Bool) → nat_lt script_limit (length bytes) ≡ b → length bytes ≤ script_limit → EndsScript (script_of bytes) st → EndsBytes b bytes st
ends_within bytes st true e fits h = absurd (grind (arith, nat_tests))
ends_within bytes st false e fits h = h

ends_beyond : (bytes : List ℕ) (b : Bool) → nat_lt script_limit (length bytes) ≡ b → script_limit < length bytes → EndsBytes b bytes status.ScriptTooLong
ends_beyond bytes true e longer = refl
ends_beyond bytes false e longer = absurd (grind (arith, nat_tests))

-- the script that was read decides
pub by_source : (had left : Option (List ℕ)) (bytes : List ℕ) (st : Status) → HadScript had left bytes → EndsScript (script_of bytes) st → EndsBySource had st
by_source None left bytes st h e = tt
by_source (Some all) left bytes st h e =
    subst (λ (bs : List ℕ). EndsBytes (nat_lt script_limit (length bs)) bs st) (sym h.0.0) (ends_within bytes st _ refl h.1 e)

pub beyond_source : (had left : Option (List ℕ)) → HadTooMuch had left → EndsBySource had status.ScriptTooLong
beyond_source None left o = tt
beyond_source (Some bytes) left o = ends_beyond bytes _ refl o.longer

done : (IsScript : List ℕ → Type 0) (E : Status → Type 0) (j : List Line)
    → ((bytes : List ℕ) (st : Status) → IsScript bytes → EndsScript (script_of bytes) st → E st) → Replayed IsScript j → E status.Done
done IsScript E j script r =
    script r.bytes status.Done r.read (ends_script r.bytes (Ok r.script) status.Done r.parsed (record { journal = j; played = r.played; within = r.within }))

outgrown : (IsScript : List ℕ → Type 0) (E : Status → Type 0) (j : List Line)
    → ((bytes : List ℕ) (st : Status) → IsScript bytes → EndsScript (script_of bytes) st → E st) → Outgrown IsScript j → E status.RunTooLong
outgrown IsScript E j script o =
    script o.bytes status.RunTooLong o.read (ends_script o.bytes (Ok o.script) status.RunTooLong o.parsed (cut_passes o.script j o.cut))

bad : (IsScript : List ℕ → Type 0) (E : Status → Type 0) (line : ℕ) (cause : Cause)
    → ((bytes : List ℕ) (st : Status) → IsScript bytes → EndsScript (script_of bytes) st → E st) → Misread IsScript line cause → E (status.BadScript line cause)
bad IsScript E line cause script m =
    script m.bytes (status.BadScript line cause) m.read (ends_script m.bytes (Err (record { line = line; cause = cause })) (status.BadScript line cause) m.bad refl)

-- by what the script decides, and what one does that is too long
pub decides : (IsScript : List ℕ → Type 0) (IsTooLong IsShort : Type 0) (transcript : List Line → List ℕ) (E : Status → Type 0) (st : Status) (j : List Line) (old new : Option (List ℕ)) (a b c d : ℕ)
    → ((bytes : List ℕ) (st : Status) → IsScript bytes → EndsScript (script_of bytes) st → E st) → (IsTooLong → E status.ScriptTooLong) → Ended IsScript IsTooLong IsShort transcript st j old new
    → (st ≡ status.ReadFault → Rose a b) → (st ≡ status.WriteFault → Rose c d) → ¬ Rose a b → ¬ Rose c d → E st ⊎ (st ≡ status.NoMemory)
decides IsScript IsTooLong IsShort transcript E status.Done j old new a b c d script long e r k p q = inl (done IsScript E j script e.0)
decides IsScript IsTooLong IsShort transcript E status.NoMemory j old new a b c d script long e r k p q = inr refl
decides IsScript IsTooLong IsShort transcript E status.BadWords j old new a b c d script long e r k p q = absurd e
decides IsScript IsTooLong IsShort transcript E (status.BadScript line cause) j old new a b c d script long e r k p q = inl (bad IsScript E line cause script e.1)
decides IsScript IsTooLong IsShort transcript E status.ReadFault j old new a b c d script long e r k p q = absurd (p (r refl))
decides IsScript IsTooLong IsShort transcript E status.WriteFault j old new a b c d script long e r k p q = absurd (q (k refl))
decides IsScript IsTooLong IsShort transcript E status.ScriptTooLong j old new a b c d script long e r k p q = inl (long e.1)
decides IsScript IsTooLong IsShort transcript E status.RunTooLong j old new a b c d script long e r k p q = inl (outgrown IsScript E j script e.1)
decides IsScript IsTooLong IsShort transcript E status.TranscriptTooLong j old new a b c d script long e r k p q = absurd e
decides IsScript IsTooLong IsShort transcript E (status.BadTranscript line) j old new a b c d script long e r k p q = absurd e
decides IsScript IsTooLong IsShort transcript E (status.Refuted law line) j old new a b c d script long e r k p q = absurd e

pub source_decides : (st : Status) (j : List Line) (had left old new : Option (List ℕ)) (a b c d : ℕ) → SourceEnded st j had left old new
    → (st ≡ status.ReadFault → Rose a b) → (st ≡ status.WriteFault → Rose c d) → ¬ Rose a b → ¬ Rose c d → IsSourceDecided had st
source_decides st j had left old new a b c d e r k p q =
    decides (HadScript had left) (HadTooMuch had left) (HadNoMore had left) text (EndsBySource had) st j old new a b c d (by_source had left) (beyond_source had left) e r k p q

-- ---- how a run ended

pub was_written : (IsScript : List ℕ → Type 0) (IsTooLong IsShort : Type 0) (transcript : List Line → List ℕ) (st : Status) (j kept : List Line) (old new : Option (List ℕ)) → IsShort → Replayed IsScript j
    → WritingEnded st old new (transcript j) → (st ≢ status.NoMemory → kept ≡ j) → (st ≡ status.NoMemory → kept ≡ []) → Ended IsScript IsTooLong IsShort transcript st kept old new
was_written IsScript IsTooLong IsShort transcript status.Done j kept old new short r w same none =
    subst (λ (x : List Line). Ended IsScript IsTooLong IsShort transcript status.Done x old new) (sym (same (λ e. cc))) (r, w)
was_written IsScript IsTooLong IsShort transcript status.NoMemory j kept old new short r w same none = (none refl, short, inr (record { journal = j; replayed = r; front = w }))
was_written IsScript IsTooLong IsShort transcript status.WriteFault j kept old new short r w same none =
    subst (λ (x : List Line). Ended IsScript IsTooLong IsShort transcript status.WriteFault x old new) (sym (same (λ e. cc))) (r, w)
was_written IsScript IsTooLong IsShort transcript status.BadWords j kept old new short r w same none = absurd w
was_written IsScript IsTooLong IsShort transcript (status.BadScript line cause) j kept old new short r w same none = absurd w
was_written IsScript IsTooLong IsShort transcript status.ReadFault j kept old new short r w same none = absurd w
was_written IsScript IsTooLong IsShort transcript status.ScriptTooLong j kept old new short r w same none = absurd w
was_written IsScript IsTooLong IsShort transcript status.RunTooLong j kept old new short r w same none = absurd w
was_written IsScript IsTooLong IsShort transcript status.TranscriptTooLong j kept old new short r w same none = absurd w
was_written IsScript IsTooLong IsShort transcript (status.BadTranscript line) j kept old new short r w same none = absurd w
was_written IsScript IsTooLong IsShort transcript (status.Refuted law line) j kept old new short r w same none = absurd w

-- writing pushes something, or tries to
pub writing_pushes : (st : Status) (old new : Option (List ℕ)) (bytes : List ℕ) → WritingEnded st old new bytes → PushesNothing st → ⊥
writing_pushes status.Done old new bytes w none = none
writing_pushes status.NoMemory old new bytes w none = none
writing_pushes status.WriteFault old new bytes w none = none
writing_pushes status.BadWords old new bytes w none = w
writing_pushes (status.BadScript line cause) old new bytes w none = w
writing_pushes status.ReadFault old new bytes w none = w
writing_pushes status.ScriptTooLong old new bytes w none = w
writing_pushes status.RunTooLong old new bytes w none = w
writing_pushes status.TranscriptTooLong old new bytes w none = w
writing_pushes (status.BadTranscript line) old new bytes w none = w
writing_pushes (status.Refuted law line) old new bytes w none = w

-- ---- where the script came from

pub from_source : (had left : Option (List ℕ)) (bytes piece : List ℕ) → HadAll had left bytes → length bytes ≤ script_limit → piece ≡ bytes → HadScript had left piece
from_source had left bytes piece all fits same = subst (λ (b : List ℕ). HadScript had left b) (sym same) (all, fits)

pub short_script : (had left : Option (List ℕ)) (bytes : List ℕ) → HadScript had left bytes → HadNoMore had left
short_script had left bytes h = all_few script_limit had left bytes h.0 h.1

-- the script that was played, of whose run nothing was written, is that of `IsScript`
pub ended_unwritten : (IsScript : List ℕ → Type 0) (IsTooLong IsShort : Type 0) (transcript : List Line → List ℕ) (bytes : List ℕ) (st : Status) (j : List Line) (old : Option (List ℕ)) → IsScript bytes
    → IsShort → st ≢ status.Done → PlayEnded bytes st j → Ended IsScript IsTooLong IsShort transcript st j old old
ended_unwritten IsScript IsTooLong IsShort transcript bytes status.Done j old is short other e = absurd (other refl)
ended_unwritten IsScript IsTooLong IsShort transcript bytes status.NoMemory j old is short other e = (e, short, inl refl)
ended_unwritten IsScript IsTooLong IsShort transcript bytes (status.BadScript line cause) j old is short other e =
    (record { empty = e.0; unwritten = refl }, record { bytes = bytes; read = is; bad = subst (λ (b : List ℕ). script_of b ≡ Err (record { line = line; cause = cause })) e.1.read e.1.bad })
ended_unwritten IsScript IsTooLong IsShort transcript bytes status.RunTooLong j old is short other e =
    (refl, record { bytes = bytes; script = e.script; read = is; parsed = subst (λ (b : List ℕ). script_of b ≡ Ok e.script) e.read e.parsed; proper = e.proper; cut = e.cut; within = e.within })
ended_unwritten IsScript IsTooLong IsShort transcript bytes status.BadWords j old is short other e = absurd e
ended_unwritten IsScript IsTooLong IsShort transcript bytes status.ReadFault j old is short other e = absurd e
ended_unwritten IsScript IsTooLong IsShort transcript bytes status.WriteFault j old is short other e = absurd e
ended_unwritten IsScript IsTooLong IsShort transcript bytes status.ScriptTooLong j old is short other e = absurd e
ended_unwritten IsScript IsTooLong IsShort transcript bytes status.TranscriptTooLong j old is short other e = absurd e
ended_unwritten IsScript IsTooLong IsShort transcript bytes (status.BadTranscript line) j old is short other e = absurd e
ended_unwritten IsScript IsTooLong IsShort transcript bytes (status.Refuted law line) j old is short other e = absurd e

-- and so is the one that was played whole
replayed_as : (IsScript : List ℕ → Type 0) (bytes : List ℕ) (j : List Line) → IsScript bytes → Replayed (λ it. it ≡ bytes) j → Replayed IsScript j
replayed_as IsScript bytes j is r = record {
  bytes = bytes;
  script = r.script;
  read = is;
  parsed = subst (λ (b : List ℕ). script_of b ≡ Ok r.script) r.read r.parsed;
  proper = r.proper;
  played = r.played;
  within = r.within;
}

whole_play : (bytes : List ℕ) (st : Status) (j : List Line) → st ≡ status.Done → PlayEnded bytes st j → Replayed (λ it. it ≡ bytes) j
whole_play bytes st j is e = subst (λ (x : Status). PlayEnded bytes x j) is e

-- what is written of its run says how it ends
pub ended_written : (IsScript : List ℕ → Type 0) (IsTooLong IsShort : Type 0) (transcript : List Line → List ℕ) (bytes : List ℕ) (was st : Status) (j kept : List Line) (old new : Option (List ℕ))
    → IsScript bytes → IsShort → was ≡ status.Done → PlayEnded bytes was j → WritingEnded st old new (transcript j) → (st ≢ status.NoMemory → kept ≡ j) → (st ≡ status.NoMemory → kept ≡ [])
    → Ended IsScript IsTooLong IsShort transcript st kept old new
ended_written IsScript IsTooLong IsShort transcript bytes was st j kept old new is short done e w same none =
    was_written IsScript IsTooLong IsShort transcript st j kept old new short (replayed_as IsScript bytes j is (whole_play bytes was j done e)) w same none

-- nothing was read of the script, or not all
pub ended_unread : (IsScript : List ℕ → Type 0) (IsTooLong IsShort : Type 0) (transcript : List Line → List ℕ) (st : Status) (j : List Line) (old : Option (List ℕ)) → st ≡ status.NoMemory → j ≡ []
    → IsShort → Ended IsScript IsTooLong IsShort transcript st j old old
ended_unread IsScript IsTooLong IsShort transcript st j old is none short =
    subst (λ (x : Status). Ended IsScript IsTooLong IsShort transcript x j old old) (sym is) (none, short, inl refl)
