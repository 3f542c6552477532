use Rattle.std.proofs.Common.{take}
use Rattle.replay_core.specs.Playing.{PlaysAllOn}
use Rattle.replay_core.proofs.play.play_all.Given as goal

abbrev pub invariant-loop-command : goal.invariant-loop-command
invariant-loop-command l = PlaysAllOn l.initial.world l.world (take l.command-index l.commands)
