use Rattle.std.proofs.Common.{◌≡◌, List, arith, ap, ◌∙◌}
use Rattle.cluster_types.specs.declared.member.Member.{Member}
use Rattle.node_rules.specs.Hearing.{is_greatest}
use Rattle.node_steps.proofs.CandidateLaws.{head_is_greatest}
use Rattle.node_steps.proofs.tick.candidate.is_greatest.Goals as goal

pub returns-in-len1-up : goal.returns-in-len1-up
returns-in-len1-up c =
    let same : c.as_slice.result.now ≡ c.args.members.now = c.as_slice.ensures.same in
    c.eq.ensures
    ∙ head_is_greatest c.args.me c.as_slice.result.now c.first-item.result (omega (arith, c.in-len1-up.len_at_least)) c.first-item.is (rw same c.as_slice.ensures.valid.descending) (rw same c.requires)
    ∙ ap (λ (ms : List Member). is_greatest c.args.me ms) same
