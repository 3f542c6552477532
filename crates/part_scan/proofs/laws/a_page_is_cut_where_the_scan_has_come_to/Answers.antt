use Rattle.part_scan.proofs.CutLaws.{next_page}
use Rattle.part_scan.proofs.laws.a_page_is_cut_where_the_scan_has_come_to.Goals as goal

pub returns : goal.returns
returns c = next_page
