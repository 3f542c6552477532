use Rattle.std.proofs.Common.{rules, ap, ◌∙◌}
use Rattle.node_rules.specs.Merging.{joined_all}
use Rattle.immigrate.proofs.BatchLaws.{newer_make_the_same}
use Rattle.immigrate.proofs.merging.plan_batch.Goals as goal

pub returns-clause-joined : goal.returns-clause-joined
returns-clause-joined c =
    let s = c.args.store.now in
    ap (joined_all s.by s.versions) c.in_ok-newer.ensures ∙ newer_make_the_same s.by c.args.batch.now.records s.versions

pub returns-in_err-digest_list-clause-same : goal.returns-in_err-digest_list-clause-same
returns-in_err-digest_list-clause-same c = search rules

pub returns-in_err-digest_list-clause-kept : goal.returns-in_err-digest_list-clause-kept
returns-in_err-digest_list-clause-kept c = search rules

pub returns-in_err-reserve-clause-same : goal.returns-in_err-reserve-clause-same
returns-in_err-reserve-clause-same c = search rules

pub returns-in_err-reserve-clause-kept : goal.returns-in_err-reserve-clause-kept
returns-in_err-reserve-clause-kept c = search rules

pub returns-clause-same : goal.returns-clause-same
returns-clause-same c = search rules

pub returns-clause-kept : goal.returns-clause-kept
returns-clause-kept c = search rules

pub returns-clause-room : goal.returns-clause-room
returns-clause-room c = search rules

pub returns-clause-number : goal.returns-clause-number
returns-clause-number c = search rules
