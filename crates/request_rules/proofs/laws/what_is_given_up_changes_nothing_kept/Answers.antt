use Rattle.request_rules.proofs.DressingLaws.{unchanged}
use Rattle.request_rules.proofs.laws.what_is_given_up_changes_nothing_kept.Goals as goal

pub returns : goal.returns
returns c = unchanged
