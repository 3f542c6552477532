use Rattle.std.proofs.Common.{refl}
use Rattle.cluster_rules.proofs.MarkLaws.{adds_nothing, header_adds_nothing}
use Rattle.cluster_rules.proofs.RequestLaws.{unasked}
use Rattle.cluster_rules.proofs.world_laws.a_line_that_only_tells_adds_nothing.Goals as goal

pub returns-clause-nothing : goal.returns-clause-nothing
returns-clause-nothing c = λ w l e. adds_nothing w l e

pub returns-clause-header : goal.returns-clause-header
returns-clause-header c = λ w h. header_adds_nothing w h

pub returns-clause-maps : goal.returns-clause-maps
returns-clause-maps c = λ n cause k p ms a. (refl, refl)

pub returns-clause-unasked : goal.returns-clause-unasked
returns-clause-unasked c = λ w n d cause none. unasked w n d cause none

pub returns-clause-messages : goal.returns-clause-messages
returns-clause-messages c = λ i. (refl, refl, refl)

pub returns-clause-ends : goal.returns-clause-ends
returns-clause-ends c = λ n. (refl, refl, refl, refl, refl)

pub returns-clause-shown : goal.returns-clause-shown
returns-clause-shown c = λ p d ms rounds k n v. (refl, refl, refl, refl, refl, refl, refl)
