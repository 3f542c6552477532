use Rattle.std.proofs.Common.{rules, arith, IsErrOf}
use Rattle.world.specs.declared.fault.StepFault.TheVariants as fault
use Rattle.calm_run.proofs.Faults.{on_each_fault}
use Rattle.replay_core.proofs.PlayLaws.{all_played, may_play, played_more, played_none, stands_among, stops_among}
use Rattle.replay_core.proofs.play.play_all.Goals as goal

pub loop-command-init : goal.loop-command-init
loop-command-init c = played_none _

pub play-requires : goal.play-requires
play-requires c =
    may_play _ _ c.args.commands.now c.loop-command.command-index c.command-item.result c.loop-command-test.true c.command-item.is c.requires c.loop-command.invariant

pub loop-command-preserved : goal.loop-command-preserved
loop-command-preserved c =
    played_more _ _ _ c.args.commands.now c.loop-command.command-index c.command-item.result c.loop-command-test.true c.command-item.is c.loop-command.invariant c.in_ok-play.ensures.played

pub returns-in_err-play-clause-too_long : goal.returns-in_err-play-clause-too_long
returns-in_err-play-clause-too_long c = λ stopped.
    let failed : IsErrOf c.play.result fault.RunTooLong = search (rules, stopped) in
    stops_among _ _ _ c.args.commands.now c.loop-command.command-index c.command-item.result c.loop-command-test.true c.command-item.is c.loop-command.invariant (c.play.ensures.too_long failed)

pub returns-in_err-play-clause-err : goal.returns-in_err-play-clause-err
returns-in_err-play-clause-err c =
    on_each_fault c.from_residual.result
    (stands_among _ _ _ c.args.commands.now c.loop-command.command-index c.command-item.result c.loop-command-test.true c.command-item.is c.loop-command.invariant c.in_err-play.ensures.err)

pub returns-clause-played : goal.returns-clause-played
returns-clause-played c = all_played _ _ c.args.commands.now c.loop-command.command-index (omega arith) c.loop-command.invariant
