use Rattle.journal_readings.proofs.CallsKept.{calls_answer, early_calls_answer}
use Rattle.journal_readings.proofs.CallRefusals.{called_twice_refused, written_twice_refused, uncalled_refused, answered_early_refused, misheard_refused, misexplained_refused, heard_twice_refused}
use Rattle.journal_readings.proofs.laws.calls_are_answered.Goals as goal

pub returns : goal.returns
returns c = record {
  answered = calls_answer;
  answered_later = early_calls_answer;
  called_twice = called_twice_refused;
  written_twice = written_twice_refused;
  uncalled = uncalled_refused;
  answered_early = answered_early_refused;
  misheard = misheard_refused;
  misexplained = misexplained_refused;
  heard_twice = heard_twice_refused;
}
