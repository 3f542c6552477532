use Rattle.std.proofs.Common.{◌∙◌, ap, ℕ}
use Rattle.cluster_types.specs.declared.copy_state.CopyState.{CopyState}
use Rattle.partition_lists.specs.Classes.{class_first_by}
use Rattle.partition_state.proofs.CopyLaws.{states_are}
use Rattle.partition_state.proofs.rows.class_first.Goals as goal

pub returns : goal.returns
returns c = c.class_first.ensures ∙ rw c.of.ensures (ap (λ (f : ℕ → CopyState). class_first_by c.args.l.now f c.args.n) (states_are c.args.rows.now c.args.p))
