use Rattle.std.proofs.Common.{◌≡◌, ◌<◌, ℕ, nat_eq, get_or, length, ap, subst, ◌∙◌, arith}
use Rattle.std.proofs.lemmas.Grind.{get_or_default_zero}
use Rattle.cluster_types.specs.Partitions.{partition_count}
use Rattle.node_rules.specs.Bits.{knows_each_done}
use Rattle.progress.specs.Known.{Known}
use Rattle.progress.proofs.ToldLaws.{known_all}
use Rattle.progress.proofs.progress.Progress.knows_each_done.Goals as goal

pub returns : goal.returns
returns c =
    let told = c.self.invariant.1 in
    let known = c.self.inside.known.items in
    let others = c.self.inside.others in
    let place : c.from.result ≡ c.args.p = c.from.ensures ∙ c.number.ensures.same in
    let within : c.args.p < partition_count = omega (arith, c.number.ensures.same, c.number.ensures.range) in
    let inside : c.from.result < length known = omega (arith, place, within, told.size) in
    let read : c.from-2.result ≡ get_or known c.args.p 0 =
    c.from-2.ensures ∙ c.index.ensures ∙ get_or_default_zero known c.from.result c.index.result.now inside ∙ ap (λ (i : ℕ). get_or known i 0) place in
    subst (λ (k : Known). nat_eq c.from-2.result c.len.result ≡ knows_each_done k.bits k.others c.args.p) c.self.view_is
    (ap (λ (n : ℕ). nat_eq n c.len.result) read
    ∙ ap (λ (n : ℕ). nat_eq (get_or known c.args.p 0) n) c.len.ensures.value
    ∙ known_all c.self.inside.heard.items known others c.args.p told c.self.invariant.0 within)
