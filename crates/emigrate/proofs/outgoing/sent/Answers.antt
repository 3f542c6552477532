use Rattle.std.proofs.Common.{take, ap, ◌∙◌}
use Rattle.node_rules.specs.Batches.{batch_limit}
use Rattle.emigrate.specs.Stages.{out_in, pending_in}
use Rattle.emigrate.specs.declared.target.TargetStage.{TargetStage}
use Rattle.emigrate.proofs.FirstLaws.{least_first}
use Rattle.emigrate.proofs.outgoing.sent.Goals as goal

pub sent-requires : goal.sent-requires
sent-requires c =
    least_first c.in-Ready.ready c.args.batch (λ e. c.requires.some (ap out_in c.in-Ready.is) (ap pending_in c.in-Ready.is ∙ e))
    (c.requires.digests (ap out_in c.in-Ready.is) ∙ ap (λ (s : TargetStage). take batch_limit (pending_in s)) c.in-Ready.is)
