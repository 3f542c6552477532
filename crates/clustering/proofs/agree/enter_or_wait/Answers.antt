use Rattle.std.proofs.Common.{◌≡◌, true, refl, sym}
use Rattle.clustering.proofs.StageLaws.{is_member_by}
use Rattle.clustering.proofs.agree.enter_or_wait.Goals as goal

pub returns-then-is_empty-clause-member : goal.returns-then-is_empty-clause-member
returns-then-is_empty-clause-member c =
    sym (is_member_by c.args.proposing.now.members c.args.proposing.now.keys.me true (λ h. c.requires.member, λ h. refl))
