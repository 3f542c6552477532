use Rattle.part_scan.proofs.CutLaws.{rest}
use Rattle.part_scan.proofs.laws.what_is_above_the_first_ones_is_the_rest.Goals as goal

pub returns : goal.returns
returns c = rest
