use Rattle.node_view.proofs.LiveLaws.{without_bit}
use Rattle.node_view.proofs.live.without.Goals as goal

pub returns-clause-row : goal.returns-clause-row
returns-clause-row c =
    without_bit c.args.row.now c.new-taken.result c.put.new.self c.difference.result c.args.p c.requires c.new-taken.ensures.size c.new-taken.ensures.clear c.put.ensures.row
    c.difference.ensures.size c.difference.ensures.each
