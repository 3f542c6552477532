-- How a run ends that is asked to audit a transcript.
use Rattle.std.specs.Prelude.{◌≡◌, ℕ, ◌≤◌, nat_lt, ◌⊎◌, Bool, true, false, List, [], ◌∷◌, ◌++◌, length, Option, IfSome}
use Rattle.journal_lines.specs.declared.line.Line.{Line}
use Rattle.audit_laws.specs.Lawful.{Lawful}
use Rattle.audit_core.specs.declared.verdict.Verdict.{Verdict}
use Rattle.audit_core.specs.declared.verdict.Verdict.TheVariants as verdict
use Rattle.audit_core.specs.Transcripts.{IsTranscript, IsFirstFault}
use Rattle.audit_core.specs.Verdicts.{FailsFirst, IsVerdict}
use Rattle.audit_core.specs.VerdictTexts.{verdict_text}
use Rattle.replay_core.specs.declared.status.Status.{Status}
use Rattle.replay_core.specs.declared.status.Status.TheVariants as status
use Rattle.replay_core.specs.Outcome.{Unplayed}
use Rattle.replay_core.specs.Streams.{GaveAtMost, HadAll, Overlong, WroteBytes, WroteFront}

-- ---- what was read

-- the most bytes of a transcript that is audited
abbrev pub transcript_limit : ℕ
transcript_limit = 134217728

-- the bytes are all that the source had left, and as many as a transcript may have
pub record HadTranscript (had left : Option (List ℕ)) (bytes : List ℕ) : Type 0 where
  pub read : HadAll had left bytes
  pub fits : length bytes ≤ transcript_limit

-- the source gave no more bytes than a transcript may have
abbrev pub HadNoMore : Option (List ℕ) → Option (List ℕ) → Type 0
HadNoMore had left = GaveAtMost transcript_limit had left

-- the source was read to its end, and had the journal's transcript left and nothing else
pub record Transcribed (had left : Option (List ℕ)) (journal : List Line) : Type 0 where
  pub bytes : List ℕ
  pub all : HadTranscript had left bytes
  pub transcript : IsTranscript bytes journal

-- the source was read to its end, and what it had left ceases at that line to be a transcript
pub record Mistranscribed (had left : Option (List ℕ)) (line : ℕ) : Type 0 where
  pub bytes : List ℕ
  pub all : HadTranscript had left bytes
  pub fault : IsFirstFault bytes line

-- ---- what was found

-- the verdict is right on the journal whose transcript was read
pub record Judged (had left : Option (List ℕ)) (journal : List Line) (found : Verdict)
    : Type 0 where
  pub transcribed : Transcribed had left journal
  pub right : IsVerdict journal found

-- how a run ends whose verdict was written
abbrev pub status_of : Verdict → Status
status_of verdict.Holds = status.Done
status_of (verdict.Fails law line) = status.Refuted law line

-- what is written of a verdict: one line
abbrev pub verdict_line : Verdict → List ℕ
verdict_line found = verdict_text found ++ 10 ∷ []

-- the right verdict on the journal that was read was written whole
pub record Told (journal : List Line) (found : Verdict) (had left old new : Option (List ℕ))
    : Type 0 where
  pub judged : Judged had left journal found
  pub written : WroteBytes old new (verdict_line found)

-- there is no journal, as the sink took no more than a front of the right verdict on that which
-- was read
pub record BrokenOff (journal : List Line) (had left old new : Option (List ℕ)) : Type 0 where
  pub empty : journal ≡ []
  pub audited : List Line
  pub found : Verdict
  pub judged : Judged had left audited found
  pub front : WroteFront old new (verdict_line found)

-- what each status says: of the journal, of what the source had left and has left now, and of what
-- the sink had taken and has taken now
abbrev pub AuditEnded : Status → List Line → Option (List ℕ) → Option (List ℕ) → Option (List ℕ)
    → Option (List ℕ) → Type 0
AuditEnded status.Done journal had left old new = Told journal verdict.Holds had left old new
AuditEnded status.NoMemory journal had left old new =
    Unplayed journal old new × HadNoMore had left
AuditEnded status.BadWords journal had left old new = ⊥
AuditEnded (status.BadScript line cause) journal had left old new = ⊥
AuditEnded status.ReadFault journal had left old new =
    Unplayed journal old new × HadNoMore had left
AuditEnded status.WriteFault journal had left old new = BrokenOff journal had left old new
AuditEnded status.ScriptTooLong journal had left old new = ⊥
AuditEnded status.RunTooLong journal had left old new = ⊥
AuditEnded status.TranscriptTooLong journal had left old new =
    Unplayed journal old new × IfSome had (λ bytes. Overlong transcript_limit bytes left)
AuditEnded (status.BadTranscript line) journal had left old new =
    Unplayed journal old new × Mistranscribed had left line
AuditEnded (status.Refuted law line) journal had left old new =
    Told journal (verdict.Fails law line) had left old new

-- ---- on the way

-- why no journal was read of bytes that were
abbrev pub IsUnreadBytes : List ℕ → Status → Type 0
IsUnreadBytes bytes status.NoMemory = Unit {0}
IsUnreadBytes bytes (status.BadTranscript line) = IsFirstFault bytes line
IsUnreadBytes bytes _ = ⊥

-- why no journal was read of the source
abbrev pub IsUnread : Status → Option (List ℕ) → Option (List ℕ) → Type 0
IsUnread status.NoMemory had left = HadNoMore had left
IsUnread status.ReadFault had left = HadNoMore had left
IsUnread status.TranscriptTooLong had left =
    IfSome had (λ bytes. Overlong transcript_limit bytes left)
IsUnread (status.BadTranscript line) had left = Mistranscribed had left line
IsUnread _ had left = ⊥

-- ---- what decides the status

-- Done where the journal keeps the laws, and otherwise Refuted with the first law that it breaks and
-- the line that does
abbrev pub EndsAudit : List Line → Status → Type 0
EndsAudit journal status.Done = Lawful journal
EndsAudit journal (status.Refuted law line) = FailsFirst journal law line
EndsAudit journal _ = ⊥

abbrev pub EndsAtFault : List ℕ → Status → Type 0
EndsAtFault bytes (status.BadTranscript line) = IsFirstFault bytes line
EndsAtFault bytes _ = ⊥

-- by the journal whose transcript the bytes are, and where they are none by the line at which they
-- cease to be one
pub record EndsTranscript (bytes : List ℕ) (st : Status) : Type 0 where
  pub audited : (journal : List Line) → IsTranscript bytes journal → EndsAudit journal st
  pub faulty : ((journal : List Line) → ¬ IsTranscript bytes journal) → EndsAtFault bytes st

-- TranscriptTooLong where the test says that there are more bytes than a transcript may have
abbrev pub EndsTranscriptBytes : Bool → List ℕ → Status → Type 0
EndsTranscriptBytes true bytes st = st ≡ status.TranscriptTooLong
EndsTranscriptBytes false bytes st = EndsTranscript bytes st

-- by what the source has left, where it tells that
abbrev pub EndsSource : Option (List ℕ) → Status → Type 0
EndsSource had st =
    IfSome had (λ bytes. EndsTranscriptBytes (nat_lt transcript_limit (length bytes)) bytes st)

-- how a run ends where neither end has a fault: so, or memory was refused
abbrev pub IsAuditDecided : Option (List ℕ) → Status → Type 0
IsAuditDecided had st = EndsSource had st ⊎ (st ≡ status.NoMemory)
