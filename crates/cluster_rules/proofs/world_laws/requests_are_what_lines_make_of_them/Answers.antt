use Rattle.std.proofs.Common.{refl}
use Rattle.cluster_rules.proofs.RequestLaws.{line_requests}
use Rattle.cluster_rules.proofs.world_laws.requests_are_what_lines_make_of_them.Goals as goal

pub returns : goal.returns
returns c = record { lines = line_requests; begins = λ w e. refl }
