use Rattle.request_rules.proofs.DressingLaws.{leaving, staying, added}
use Rattle.request_rules.proofs.laws.what_is_given_up_stands_before_the_leaving.Goals as goal

pub returns : goal.returns
returns c = record { leaving = leaving; staying = staying; added = added }
