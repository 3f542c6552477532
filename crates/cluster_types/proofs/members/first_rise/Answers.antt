use Rattle.std.proofs.Common.{◌<◌, ◌-◌, get_or, ℕ, arith, ap}
use Rattle.std.proofs.lemmas.List.{length-map}
use Rattle.cluster_types.specs.declared.member.Member.{Member}
use Rattle.cluster_types.specs.Members.{ids_of}
use Rattle.cluster_types.proofs.DistinctLaws.{descending_more, below_unless_ge}
use Rattle.cluster_types.proofs.MemberLaws.{id_read}
use Rattle.cluster_types.proofs.members.first_rise.Goals as goal

pub loop-i-preserved : goal.loop-i-preserved
loop-i-preserved c =
    let members = c.args.list.now in
    let before = c.index-list-i in
    let here = c.index-list-i-in-loop-i in
    let id : Member → ℕ = λ m. m.id in
    let count = length-map members id in
    let lower : (get_or members c.loop-i.i here.result).id < (get_or members (c.loop-i.i - 1) before.result).id = below_unless_ge _ _ c.if-rises.ensures in
    descending_more (ids_of members) c.loop-i.i here.result.id before.result.id (omega arith) (omega arith)
    (id_read _ _ here.result c.loop-i-test.true here.is)
    (id_read members _ before.result (omega arith) before.is)
    (omega (arith, lower, ap id here.is, ap id before.is))
    c.loop-i.invariant
