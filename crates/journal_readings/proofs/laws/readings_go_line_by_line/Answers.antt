use Rattle.journal_readings.proofs.StepLaws.{entry-more, row-more, content-more, applied-more, applied_in-more, holds_any-more, view-more, last_key-more, promised_key-more, is_up-more, clock_of-more, present_role-more, stamp-more, heard_numbers-more, is_acked-more, is_handed_on-more}
use Rattle.journal_readings.proofs.laws.readings_go_line_by_line.Goals as goal

pub returns : goal.returns
returns c = record {
  content = content-more;
  applied = applied-more;
  applied_in = applied_in-more;
  entry = entry-more;
  row = row-more;
  copies = holds_any-more;
  view = view-more;
  last = last_key-more;
  promised = promised_key-more;
  up = is_up-more;
  clock = clock_of-more;
  role = present_role-more;
  stamp = stamp-more;
  heard = heard_numbers-more;
  acked = is_acked-more;
  handed_on = is_handed_on-more;
}
