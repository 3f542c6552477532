use Rattle.std.proofs.Common.{Bool, List, sym, ap, ◌∙◌}
use Rattle.progress.specs.Known.{Known}
use Rattle.node_view.specs.declared.view.Stage.{Stage}
use Rattle.node_view.specs.Views.{own_done}
use Rattle.node_view.proofs.view.note_done.Goals as goal

pub returns-in-Exchanged : goal.returns-in-Exchanged
returns-in-Exchanged c =
    let old : Known = c.args.progress.now in
    c.own_done.ensures
    ∙ ap (λ (own : List Bool). record { me = old.me; others = old.others; own = own; bits = old.bits }) c.done_of.ensures
    ∙ sym (ap (λ (s : Stage). record { me = old.me; others = old.others; own = own_done old.own s; bits = old.bits }) c.in-Exchanged.is)
