use Rattle.node_rules.proofs.Shown.{holds, holds_stopped, holds_none}
use Rattle.node_rules.proofs.laws.node_shows_what_it_holds.Goals as goal

pub returns : goal.returns
returns c = record { held = holds; stopped = holds_stopped; nothing = holds_none }
