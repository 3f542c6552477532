use Rattle.part_scan.proofs.ReadLaws.{records_read, step_read}
use Rattle.part_scan.proofs.laws.pages_cut_one_after_another_give_all_records.Goals as goal

pub returns : goal.returns
returns c =
    let law = c.pages_of_one_list_make_it_whole.ensures in
    record { records = records_read law.records; step = step_read law.records law.taken }
