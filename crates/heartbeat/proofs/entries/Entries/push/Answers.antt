use Rattle.std.proofs.Common.{◌<◌, ap, arith, length}
use Rattle.cluster_types.specs.Filled.{length-taken}
use Rattle.cluster_types.proofs.FilledLaws.{IsFilled_push}
use Rattle.heartbeat.specs.Entries.{unused_entry}
use Rattle.heartbeat.proofs.entries.Entries.push.Goals as goal

pub invariant_of-self : goal.invariant_of-self
invariant_of-self c =
    let i = c.self.inside in
    let room : i.len < 16 = omega (arith, length-taken i.places i.len unused_entry c.self.invariant, c.requires, ap length c.self.view_is) in
    IsFilled_push i.places i.len unused_entry c.args.entry room c.self.invariant
