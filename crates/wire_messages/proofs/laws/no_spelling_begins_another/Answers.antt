use Rattle.wire_messages.proofs.DecodingLaws.{no_prefix, cut_short, one_more}
use Rattle.wire_messages.proofs.laws.no_spelling_begins_another.Goals as goal

pub returns-clause-same : goal.returns-clause-same
returns-clause-same c = no_prefix

pub returns-clause-short : goal.returns-clause-short
returns-clause-short c = cut_short

pub returns-clause-long : goal.returns-clause-long
returns-clause-long c = one_more
