use Rattle.std.proofs.Common.{[], ap, ◌∙◌, arith}
use Rattle.std.proofs.lemmas.List.{append_assoc}
use Rattle.digest_ripemd.specs.Digests.{ripemd160}
use Rattle.digest_ripemd.proofs.Feeding.{count-fed}
use Rattle.digest_ripemd.proofs.hasher.digest_of.Goals as goal

pub update-requires : goal.update-requires
update-requires c = omega (arith, count-fed _ [] c.new-hasher.ensures)

pub update-requires-2 : goal.update-requires-2
update-requires-2 c = omega (arith, count-fed _ [] c.new-hasher.ensures)

pub update-requires-3 : goal.update-requires-3
update-requires-3 c = omega (arith, count-fed _ [] c.new-hasher.ensures)

pub returns : goal.returns
returns c =
    let set = c.update.ensures.message [] c.new-hasher.ensures in
    let between = c.update-2.ensures.message _ set in
    let all = c.update-3.ensures.message _ between in
    c.finish.ensures _ all ∙ ap ripemd160 (append_assoc c.args.set_name.now _ c.args.key.now)
