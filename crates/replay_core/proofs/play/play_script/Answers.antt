use Rattle.std.proofs.Common.{Err, ap}
use Rattle.replay_core.proofs.PlayLaws.{plays_nothing, stops_at_once}
use Rattle.replay_core.proofs.play.play_script.Goals as goal

pub returns-in-Err-RunTooLong : goal.returns-in-Err-RunTooLong
returns-in-Err-RunTooLong c = λ bytes parsed.
    stops_at_once bytes c.args.script.now _ _ c.unplayed.ensures.status c.unplayed.ensures.empty
    (c.in-Err-RunTooLong.ensures.too_long (ap Err c.in-Err-RunTooLong.field-0-is)) parsed c.requires

pub returns-in-Err-NoMemory : goal.returns-in-Err-NoMemory
returns-in-Err-NoMemory c = λ bytes parsed.
    plays_nothing bytes _ _ c.unplayed-in-Err-NoMemory.ensures.status c.unplayed-in-Err-NoMemory.ensures.empty
