use Rattle.std.proofs.Common.{◌≡◌, ◌∙◌, ap, arith, length}
use Rattle.client_map.proofs.TableLaws.{refreshed}
use Rattle.client_map.proofs.client_map.ClientMap.refresh.Goals as goal

pub returns : goal.returns
returns c ts h =
    let size : c.self.inside.entries.len ≡ length c.refresh_each.new.entries = omega (arith, c.refresh_each.auto.entries, ap length c.deref_mut.ensures.value, c.self.inside.entries.ok) in
    refreshed ts c.args.table.now c.self.inside.entries.len c.refresh_each.new.entries _ c.deref_mut.result.now c.args.self.now size (c.deref_mut.ensures.value ∙ c.self.view_is) h c.refresh_each.ensures
