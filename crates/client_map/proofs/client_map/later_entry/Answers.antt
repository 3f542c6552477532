use Rattle.std.proofs.Common.{rules}
use Rattle.client_map.proofs.client_map.later_entry.Goals as goal

pub returns-else-is_later : goal.returns-else-is_later
returns-else-is_later c = search rules
