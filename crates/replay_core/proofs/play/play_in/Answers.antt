use Rattle.std.proofs.Common.{Err, ap}
use Rattle.replay_core.proofs.PlayLaws.{cut_of, playable_at_first, plays_nothing, plays_short, plays_whole, run_of}
use Rattle.replay_core.proofs.play.play_in.Goals as goal

pub play_all-requires : goal.play_all-requires
play_all-requires c = playable_at_first _ c.args.script.now _ c.requires.begun c.as_slice.ensures c.requires.proper

pub returns-in-Ok : goal.returns-in-Ok
returns-in-Ok c = λ bytes parsed.
    plays_whole bytes c.args.script.now _ _ c.played.ensures.status parsed c.requires.proper c.played.ensures.within
    (run_of c.args.script.now _ _ _ _ c.requires.begun c.as_slice.ensures c.in-Ok.ensures.played c.played.ensures.lines)

pub returns-in-Err-RunTooLong : goal.returns-in-Err-RunTooLong
returns-in-Err-RunTooLong c = λ bytes parsed.
    plays_short bytes c.args.script.now _ _ c.played-in-Err-RunTooLong.ensures.status parsed c.requires.proper c.played-in-Err-RunTooLong.ensures.within
    (cut_of c.args.script.now _ _ _ _ c.requires.begun c.as_slice.ensures
    (c.in-Err-RunTooLong.ensures.too_long (ap Err c.in-Err-RunTooLong.field-0-is)) c.played-in-Err-RunTooLong.ensures.lines)

pub returns-in-Err-NoMemory : goal.returns-in-Err-NoMemory
returns-in-Err-NoMemory c = λ bytes parsed. plays_nothing bytes _ _ c.unplayed.ensures.status c.unplayed.ensures.empty
