use Rattle.std.proofs.Common.{refl}
use Rattle.cluster_rules.proofs.WorldComputing.{world_computing}
use Rattle.cluster_rules.proofs.Walk.{walking}
use Rattle.request_rules.specs.Replies.{asker_of, want_in_message}
use Rattle.cluster_rules.proofs.RequestLaws.{asker_of_arrival, nothing_under, want_of_arrival}
use Rattle.cluster_rules.proofs.world_laws.a_request_has_its_want_in_hand.Goals as goal

pub returns-clause-put : goal.returns-clause-put
unfolding world_computing walking
returns-clause-put c = refl

pub returns-clause-client_put : goal.returns-clause-client_put
unfolding world_computing walking
returns-clause-client_put c = refl

pub returns-clause-client_del : goal.returns-clause-client_del
unfolding world_computing walking
returns-clause-client_del c = refl

pub returns-clause-message : goal.returns-clause-message
returns-clause-message c = λ w i p m stands is. (want_of_arrival w i p m stands is, asker_of_arrival w i p m stands is)

pub returns-clause-unsent : goal.returns-clause-unsent
returns-clause-unsent c = λ w i none. (nothing_under w i (λ x. want_in_message x.message) none, nothing_under w i (λ x. asker_of x.from x.message) none)

pub returns-clause-unasked : goal.returns-clause-unasked
returns-clause-unasked c = λ w n d v. (refl, refl)

pub returns-clause-others : goal.returns-clause-others
returns-clause-others c = λ w n i. (refl, refl)
