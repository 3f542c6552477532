use Rattle.request_rules.proofs.PageLaws.{records, taken}
use Rattle.request_rules.proofs.laws.pages_of_one_list_make_it_whole.Goals as goal

pub returns : goal.returns
returns c = record { taken = taken; records = records }
