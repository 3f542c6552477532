use Rattle.std.proofs.Common.{◌≡◌, List, ℕ, ap, ◌∙◌}
use Rattle.cluster_types.specs.Distinct.{without}
use Rattle.node_rules.specs.Agreement.{others_among}
use Rattle.progress.proofs.ToldLaws.{first_known, first_told}
use Rattle.progress.proofs.progress.Progress.new.Goals as goal

pub invariant_of-result : goal.invariant_of-result
invariant_of-result c =
    let near : c.without-others.result ≡ others_among c.args.me c.args.members.now = c.without-others.ensures ∙ ap (λ (ids : List ℕ). without ids c.args.me) c.ids.ensures in
    first_told c.args.members.now c.args.me c.in_ok-heard.heard.items c.without-others.result c.in_ok-known.known.items c.in_ok-heard.ensures.heard near c.in_ok-known.ensures c.in_ok-heard.ensures.members

pub returns : goal.returns
returns c =
    let near : c.without-others.result ≡ others_among c.args.me c.args.members.now = c.without-others.ensures ∙ ap (λ (ids : List ℕ). without ids c.args.me) c.ids.ensures in
    first_known c.args.members.now c.args.me c.in_ok-heard.heard.items c.without-others.result c.in_ok-own.own c.in_ok-handed.handed c.in_ok-settled.settled c.in_ok-own_handed.own_handed c.in_ok-own_settled.own_settled
    c.in_ok-heard.ensures.heard near c.in_ok-own.ensures c.in_ok-handed.ensures c.in_ok-settled.ensures c.in_ok-own_handed.ensures c.in_ok-own_settled.ensures
