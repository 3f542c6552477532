use Rattle.node_rules.proofs.TickParts.{up_is, down_is, alone_is, among_others_is}
use Rattle.node_rules.proofs.step_laws.a_tick_changes_hearing_agreement_and_settling.Goals as goal

pub returns : goal.returns
returns c = record { up = up_is; down = down_is; alone = alone_is; among_others = among_others_is }
