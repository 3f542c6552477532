use Rattle.std.proofs.Common.{not, sym, ap}
use Rattle.node_rules.specs.Exchange.{members_of}
use Rattle.node_view.proofs.MissingLaws.{full_has}
use Rattle.node_view.proofs.view.View.has_row.Goals as goal

pub returns-in-None : goal.returns-in-None
returns-in-None c =
    let x = c.args.self.now.exchange in
    sym (ap not (full_has x.rows (members_of x.view) c.args.n c.in-None.ensures.whole c.requires.member))
