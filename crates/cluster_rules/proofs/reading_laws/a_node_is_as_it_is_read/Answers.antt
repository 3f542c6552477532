use Rattle.cluster_rules.proofs.WorldReadings.{promised_agrees, last_agrees, view_agrees, up_agrees, clock_agrees, content_agrees}
use Rattle.cluster_rules.proofs.reading_laws.a_node_is_as_it_is_read.Goals as goal

pub returns-clause-promised : goal.returns-clause-promised
returns-clause-promised c = λ h ms n. promised_agrees h ms n

pub returns-clause-last : goal.returns-clause-last
returns-clause-last c = λ h ms n. last_agrees h ms n

pub returns-clause-view : goal.returns-clause-view
returns-clause-view c = λ h ms n. view_agrees h ms n

pub returns-clause-up : goal.returns-clause-up
returns-clause-up c = λ h ms n e. up_agrees h ms n e

pub returns-clause-clock : goal.returns-clause-clock
returns-clause-clock c = λ h ms n. clock_agrees h ms n

pub returns-clause-content : goal.returns-clause-content
returns-clause-content c = λ h ms n d. content_agrees h ms n d
