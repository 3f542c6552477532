use Rattle.std.proofs.Common.{◌∙◌, ap, ℕ, List}
use Rattle.cluster_types.specs.StateRows.{state_of}
use Rattle.cluster_types.specs.declared.copy_state.CopyState.{CopyState}
use Rattle.partition_lists.specs.Classes.{same_class_by}
use Rattle.partition_state.proofs.CopyLaws.{states_are}
use Rattle.partition_state.proofs.rows.same_class.Goals as goal

pub returns : goal.returns
returns c =
    c.same_class.ensures
    ∙ ap (λ (copies : List (ℕ × CopyState)). same_class_by (state_of copies) c.args.a c.args.b) c.of.ensures
    ∙ ap (λ (f : ℕ → CopyState). same_class_by f c.args.a c.args.b) (states_are c.args.rows.now c.args.p)
