use Rattle.std.proofs.Common.{ap, ◌∙◌}
use Rattle.std.specs.List.{list_all}
use Rattle.audit_core.specs.Known.{is_declared}
use Rattle.audit_core.proofs.ShapeLaws.{all_listed}
use Rattle.audit_core.proofs.judge.Judge.are_groups_declared.Goals as goal

pub returns : goal.returns
returns c = c.are_listed_declared.ensures ∙ (ap (list_all (λ ids. list_all (is_declared c.args.self.now) ids)) c.as_slice.ensures.same ∙ all_listed (is_declared c.args.self.now) c.args.groups.now)
