use Rattle.cluster_laws.proofs.TooWeak.{busy_breaks, unbrought_breaks}
use Rattle.cluster_laws.proofs.LoneRun.{replica_breaks}
use Rattle.cluster_laws.proofs.PairRun.{unsettled_breaks, stale_breaks}
use Rattle.cluster_laws.proofs.SidesRun.{earlier_breaks, unacknowledged_breaks}
use Rattle.cluster_laws.proofs.PartRun.{incomplete_breaks}
use Rattle.cluster_laws.proofs.LateRun.{late_breaks}
use Rattle.cluster_laws.proofs.laws.weaker_licences_break_laws.Goals as goal

pub returns-clause-busy : goal.returns-clause-busy
returns-clause-busy c = busy_breaks

pub returns-clause-unbrought : goal.returns-clause-unbrought
returns-clause-unbrought c = unbrought_breaks

pub returns-clause-replica : goal.returns-clause-replica
returns-clause-replica c = replica_breaks

pub returns-clause-unsettled : goal.returns-clause-unsettled
returns-clause-unsettled c = unsettled_breaks

pub returns-clause-stale : goal.returns-clause-stale
returns-clause-stale c = stale_breaks

pub returns-clause-earlier : goal.returns-clause-earlier
returns-clause-earlier c = earlier_breaks

pub returns-clause-unacknowledged : goal.returns-clause-unacknowledged
returns-clause-unacknowledged c = unacknowledged_breaks

pub returns-clause-incomplete : goal.returns-clause-incomplete
returns-clause-incomplete c = incomplete_breaks

pub returns-clause-late : goal.returns-clause-late
returns-clause-late c = late_breaks
