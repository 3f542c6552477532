use Rattle.std.proofs.Common.{◌∙◌, sym}
use Rattle.audit_core.proofs.judge.Judge.is_fold.Goals as goal

pub returns : goal.returns
returns c = λ i x known. (λ e. c.is_same.ensures.0 e ∙ c.fold_of.ensures i x known, λ e. c.is_same.ensures.1 (e ∙ sym (c.fold_of.ensures i x known)))
