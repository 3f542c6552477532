use Rattle.journal_readings.specs.Claims.{EqualClasses}
use Rattle.cluster_laws.proofs.ReadingClasses.{equal_classes}
use Rattle.run_laws.proofs.EveryJournal.{by_licences}
use Rattle.run_laws.proofs.laws.a_class_has_equal_copies.Goals as goal

pub returns : goal.returns
returns c = by_licences EqualClasses equal_classes
