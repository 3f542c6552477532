use Rattle.cluster_rules.proofs.WorldReadings.{policy_agrees, factor_agrees, nodes_agree, groups_agree, role_agrees, policy_stays, factor_stays}
use Rattle.cluster_rules.proofs.reading_laws.a_header_is_read_as_it_declares.Goals as goal

pub returns-clause-policy : goal.returns-clause-policy
returns-clause-policy c = λ h ls e. policy_agrees h ls e

pub returns-clause-factor : goal.returns-clause-factor
returns-clause-factor c = λ h ls e. factor_agrees h ls e

pub returns-clause-nodes : goal.returns-clause-nodes
returns-clause-nodes c = λ h ls e. nodes_agree h ls e

pub returns-clause-groups : goal.returns-clause-groups
returns-clause-groups c = λ h ms e. groups_agree h ms e

pub returns-clause-role : goal.returns-clause-role
returns-clause-role c = λ h ms n once e. role_agrees h ms n once e

pub returns-clause-policy_stays : goal.returns-clause-policy_stays
returns-clause-policy_stays c = λ h ms n. policy_stays h ms n

pub returns-clause-factor_stays : goal.returns-clause-factor_stays
returns-clause-factor_stays c = λ h ms n. factor_stays h ms n
