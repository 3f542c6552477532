use Rattle.std.proofs.Common.{rules}
use Rattle.client_map.proofs.client_map.is_later.Goals as goal

pub returns-then-lt : goal.returns-then-lt
returns-then-lt c = search rules

pub returns-else-a : goal.returns-else-a
returns-else-a c = search rules
