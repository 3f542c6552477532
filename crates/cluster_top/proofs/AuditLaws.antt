-- How an audit ended, and what decided it.
use Rattle.std.proofs.Common.{◌≡◌, ℕ, ◌<◌, ◌≤◌, inl, inr, nat_lt, Bool, true, false, List, [], length, Option, Some, None, IfSome, refl, sym, ap, subst, arith}
use Rattle.std.proofs.lemmas.Bool.Decides.{nat_tests}
use Rattle.byte_ends.specs.Faults.{Rose}
use Rattle.journal_lines.specs.declared.line.Line.{Line}
use Rattle.audit_core.specs.declared.verdict.Verdict.{Verdict}
use Rattle.audit_core.specs.declared.verdict.Verdict.TheVariants as verdict
use Rattle.audit_core.specs.Transcripts.{IsTranscript, IsFirstFault}
use Rattle.audit_core.specs.Verdicts.{IsVerdict}
use Rattle.audit_core.proofs.Pieces.{faulty, one_transcript}
use Rattle.replay_core.proofs.StreamLaws.{all_few}
use Rattle.replay_core.specs.declared.status.Status.{Status}
use Rattle.replay_core.specs.declared.status.Status.TheVariants as status
use Rattle.cluster_top.specs.Auditing.{AuditEnded, EndsAudit, EndsSource, EndsTranscript, EndsTranscriptBytes, HadTranscript, IsAuditDecided, Judged, Mistranscribed, status_of, transcript_limit}
use Rattle.replay_core.specs.Streams.{Overlong}

-- memory was refused for the line that tells the verdict
pub refused_verdict : (st : Status) (j judged : List Line) (found : Verdict) (had left old new : Option (List ℕ))
    → st ≡ status.NoMemory → j ≡ [] → new ≡ old → Judged had left judged found → AuditEnded st j had left old new
refused_verdict st j judged found had left old new is none same h =
    subst (λ (x : Status). AuditEnded x j had left old new) (sym is) (
      record { empty = none; unwritten = same },
      all_few transcript_limit had left h.transcribed.bytes h.transcribed.all.read h.transcribed.all.fits,
    )

-- ---- what decides

ends_within : (bytes : List ℕ) (st : Status) (b : Bool)
    → nat_lt transcript_limit (length bytes) ≡ b → length bytes ≤ transcript_limit
    → EndsTranscript bytes st → EndsTranscriptBytes b bytes st
ends_within bytes st true e fits h = absurd (grind (arith, nat_tests))
ends_within bytes st false e fits h = h

ends_beyond : (bytes : List ℕ) (b : Bool) → nat_lt transcript_limit (length bytes) ≡ b
    → transcript_limit < length bytes → EndsTranscriptBytes b bytes status.TranscriptTooLong
ends_beyond bytes true e longer = refl
ends_beyond bytes false e longer = absurd (grind (arith, nat_tests))

by_bytes : (had left : Option (List ℕ)) (bytes : List ℕ) (st : Status)
    → HadTranscript had left bytes → EndsTranscript bytes st → EndsSource had st
by_bytes None left bytes st h e = tt
by_bytes (Some all) left bytes st h e =
    subst (λ (bs : List ℕ). EndsTranscriptBytes (nat_lt transcript_limit (length bs)) bs st)
    (sym h.read.0) (ends_within bytes st _ refl h.fits e)

too_long : (had left : Option (List ℕ))
    → IfSome had (λ bytes. Overlong transcript_limit bytes left)
    → EndsSource had status.TranscriptTooLong
too_long None left o = tt
too_long (Some bytes) left o = ends_beyond bytes _ refl o.longer

ends_audit : (j : List Line) (found : Verdict) → IsVerdict j found → EndsAudit j (status_of found)
ends_audit j verdict.Holds h = h
ends_audit j (verdict.Fails law line) h = h

transcript_decides : (bytes : List ℕ) (j : List Line) (found : Verdict) → IsTranscript bytes j
    → IsVerdict j found → EndsTranscript bytes (status_of found)
transcript_decides bytes j found t right = record {
  audited = λ other u.
      subst (λ (x : List Line). EndsAudit x (status_of found)) (one_transcript bytes j other t u)
      (ends_audit j found right);
  faulty = λ none. absurd (none j t);
}

fault_decides : (bytes : List ℕ) (line : ℕ) → IsFirstFault bytes line
    → EndsTranscript bytes (status.BadTranscript line)
fault_decides bytes line f = record {
  audited = λ j t. absurd (faulty bytes line f j t);
  faulty = λ none. f;
}

judged : (had left : Option (List ℕ)) (j : List Line) (found : Verdict) → Judged had left j found
    → EndsSource had (status_of found)
judged had left j found h =
    by_bytes had left h.transcribed.bytes (status_of found) h.transcribed.all
    (transcript_decides h.transcribed.bytes j found h.transcribed.transcript h.right)

mistranscribed : (had left : Option (List ℕ)) (line : ℕ) → Mistranscribed had left line
    → EndsSource had (status.BadTranscript line)
mistranscribed had left line m =
    by_bytes had left m.bytes (status.BadTranscript line) m.all
    (fault_decides m.bytes line m.fault)

pub audit_decides : (st : Status) (j : List Line) (had left old new : Option (List ℕ))
    (a b c d : ℕ) → AuditEnded st j had left old new → (st ≡ status.ReadFault → Rose a b)
    → (st ≡ status.WriteFault → Rose c d) → ¬ Rose a b → ¬ Rose c d → IsAuditDecided had st
audit_decides status.Done j had left old new a b c d e r k p q =
    inl (judged had left j verdict.Holds e.judged)
audit_decides (status.Refuted law line) j had left old new a b c d e r k p q =
    inl (judged had left j (verdict.Fails law line) e.judged)
audit_decides (status.BadTranscript line) j had left old new a b c d e r k p q =
    inl (mistranscribed had left line e.1)
audit_decides status.TranscriptTooLong j had left old new a b c d e r k p q =
    inl (too_long had left e.1)
audit_decides status.NoMemory j had left old new a b c d e r k p q = inr refl
audit_decides status.ReadFault j had left old new a b c d e r k p q = absurd (p (r refl))
audit_decides status.WriteFault j had left old new a b c d e r k p q = absurd (q (k refl))
audit_decides status.BadWords j had left old new a b c d e r k p q = absurd e
audit_decides (status.BadScript line cause) j had left old new a b c d e r k p q = absurd e
audit_decides status.ScriptTooLong j had left old new a b c d e r k p q = absurd e
audit_decides status.RunTooLong j had left old new a b c d e r k p q = absurd e
