use Rattle.run_laws.proofs.NumberedRequests.{numbers_few}
use Rattle.run_laws.proofs.laws.requests_are_no_more_than_lines.Goals as goal

pub returns : goal.returns
returns c = numbers_few
