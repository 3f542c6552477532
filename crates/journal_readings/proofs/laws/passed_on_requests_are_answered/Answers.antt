use Rattle.journal_readings.proofs.ProxiesKept.{proxies_answer, proxies_refuse}
use Rattle.journal_readings.proofs.ProxyRefusals.{mistaken_refused, renumbered_refused, opened_again_refused, misquoted_refused, misrefused_refused, unasked_refused, taken_twice_refused}
use Rattle.journal_readings.proofs.laws.passed_on_requests_are_answered.Goals as goal

pub returns : goal.returns
returns c = record {
  answered = proxies_answer;
  refused = proxies_refuse;
  mistaken = mistaken_refused;
  renumbered = renumbered_refused;
  opened_again = opened_again_refused;
  misquoted = misquoted_refused;
  misrefused = misrefused_refused;
  unasked = unasked_refused;
  taken_twice = taken_twice_refused;
}
