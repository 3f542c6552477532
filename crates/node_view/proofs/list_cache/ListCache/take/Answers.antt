use Rattle.node_view.proofs.CacheLaws.{found_lists}
use Rattle.node_view.proofs.list_cache.ListCache.take.Goals as goal

pub returns-in-Some : goal.returns-in-Some
returns-in-Some c = found_lists c.args.self.now.kept.items c.in-Some.place c.remove.result c.args.members.now c.in-Some.ensures c.remove.ensures.value
