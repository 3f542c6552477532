use Rattle.std.proofs.Common.{ap, ◌∙◌}
use Rattle.node_view.specs.Views.{Viewed, with_unsettled}
use Rattle.node_view.proofs.ByNumberLaws.{unsettled_seen}
use Rattle.node_view.proofs.view.View.count_unsettled.Goals as goal

pub returns-clause-same : goal.returns-clause-same
returns-clause-same c = ap (λ (v : Viewed). with_unsettled v c.number_unsettled-self-inside.result) c.self.view_is

pub returns-clause-count : goal.returns-clause-count
returns-clause-count c f h = c.number_unsettled-self-inside.ensures ∙ unsettled_seen f c.args.self.now h
