use Rattle.std.proofs.Common.{ap, ◌∙◌}
use Rattle.node_rules.specs.Facts.{view_key}
use Rattle.node_rules.specs.Here.{lines_here}
use Rattle.node_view.specs.declared.here.Settling.{Settling}
use Rattle.node_view.specs.Settlings.{here_of, settling_of}
use Rattle.node_view.proofs.DueSettlingLaws.{lines_one}
use Rattle.node_view.proofs.view.View.settling_at.Goals as goal

pub returns-clause-partition : goal.returns-clause-partition
returns-clause-partition c s e = ap (λ (x : Settling). x.partition) (c.of.ensures.some s e)

pub returns-clause-settling : goal.returns-clause-settling
returns-clause-settling c f h held s e = c.of.ensures.some s e ∙ ap (settling_of c.args.p) (c.here.ensures f h.viewed held)

pub returns-clause-lines : goal.returns-clause-lines
returns-clause-lines c f h held =
    let p = c.args.p in
    lines_one c.of.result f.me (view_key f) p (here_of c.here.result) c.of.ensures.some (c.of.ensures.none f.me (view_key f)) (c.of.ensures.lines f.me (view_key f))
    ∙ ap (lines_here f.me (view_key f) p) (c.here.ensures f h.viewed held)
