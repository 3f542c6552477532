-- What a run answers: the outcome of a replay, or of an audit.
use Rattle.std.specs.Prelude.{List}
use Rattle.journal_lines.specs.declared.line.Line.{Line}
use Rattle.replay_core.specs.declared.status.Status.{Status}
use Rattle.replay_core.specs.Outcome.{ReplayEnd}
use Rattle.cluster_top.specs.declared.auditing.AuditOutcome.{AuditOutcome}
use Rattle.cluster_top.specs.declared.outcome.Outcome.{Outcome}
use Rattle.cluster_top.specs.declared.outcome.Outcome.TheVariants as outcome

-- how the run ended
abbrev pub status_in : Outcome → Status
status_in (outcome.Replay replay) = replay.status
status_in (outcome.Audit audit) = audit.status

-- the lines of its journal
abbrev pub lines_in : Outcome → List Line
lines_in (outcome.Replay replay) = replay.lines
lines_in (outcome.Audit audit) = audit.journal.lines

-- it is the outcome of an audit
abbrev pub IsAudit : Outcome → Type 0
IsAudit (outcome.Replay replay) = ⊥
IsAudit (outcome.Audit audit) = Unit {0}

-- so it is, where it is the outcome of a replay
abbrev pub IfReplay : Outcome → (ReplayEnd → Type 0) → Type 0
IfReplay (outcome.Replay replay) P = P replay
IfReplay (outcome.Audit audit) P = Unit {0}

-- so it is, where it is the outcome of an audit
abbrev pub IfAudit : Outcome → (AuditOutcome → Type 0) → Type 0
IfAudit (outcome.Replay replay) P = Unit {0}
IfAudit (outcome.Audit audit) P = P audit
