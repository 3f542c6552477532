use Rattle.std.proofs.Common.{Err, ap, inl, inr}
use Rattle.cluster_top.proofs.WordReplays.{asked_decided, asked_ended, asked_number, no_bad_words, refused_at_once}
use Rattle.cluster_top.proofs.replay.replay_asked.Goals as goal

pub returns-in-Err-Bad-clause-ended : goal.returns-in-Err-Bad-clause-ended
returns-in-Err-Bad-clause-ended g c = λ asked a. absurd (c.in-Err-Bad.ensures.bad (ap Err c.in-Err-Bad.field-0-is) asked a)

pub returns-in-Err-Bad-clause-refused : goal.returns-in-Err-Bad-clause-refused
returns-in-Err-Bad-clause-refused g c = λ bad. (inl c.unplayed.ensures.status, c.unplayed.ensures.empty)

pub returns-in-Err-Bad-clause-decided : goal.returns-in-Err-Bad-clause-decided
returns-in-Err-Bad-clause-decided g c = λ asked a p q. absurd (c.in-Err-Bad.ensures.bad (ap Err c.in-Err-Bad.field-0-is) asked a)

pub returns-in-Err-NoMemory-clause-ended : goal.returns-in-Err-NoMemory-clause-ended
returns-in-Err-NoMemory-clause-ended g c = λ asked a.
    refused_at_once asked _ _ (g.S.Source.left c.args.source.now) _ c.unplayed-in-Err-NoMemory.ensures.status c.unplayed-in-Err-NoMemory.ensures.empty

pub returns-in-Err-NoMemory-clause-refused : goal.returns-in-Err-NoMemory-clause-refused
returns-in-Err-NoMemory-clause-refused g c = λ bad. (inr c.unplayed-in-Err-NoMemory.ensures.status, c.unplayed-in-Err-NoMemory.ensures.empty)

pub returns-in-Err-NoMemory-clause-decided : goal.returns-in-Err-NoMemory-clause-decided
returns-in-Err-NoMemory-clause-decided g c = λ asked a p q. inr c.unplayed-in-Err-NoMemory.ensures.status

pub returns-in-Ok-clause-ended : goal.returns-in-Ok-clause-ended
returns-in-Ok-clause-ended g c = λ asked a.
    asked_ended _ c.in-Ok.words asked _ _ (g.S.Source.left c.args.source.now) (g.S.Source.left c.replay_by.new.source) (g.K.Sink.taken c.args.out.now) (g.K.Sink.taken c.replay_by.new.out) c.in-Ok.ensures.asked a c.replay_by.ensures.ended

pub returns-in-Ok-clause-bad_words : goal.returns-in-Ok-clause-bad_words
returns-in-Ok-clause-bad_words g c = λ e.
    absurd (no_bad_words c.in-Ok.words _ _ (g.S.Source.left c.args.source.now) (g.S.Source.left c.replay_by.new.source) (g.K.Sink.taken c.args.out.now) (g.K.Sink.taken c.replay_by.new.out) c.replay_by.ensures.ended e)

pub returns-in-Ok-clause-refused : goal.returns-in-Ok-clause-refused
returns-in-Ok-clause-refused g c = λ bad. absurd (bad c.in-Ok.words c.in-Ok.ensures.asked)

pub returns-in-Ok-clause-untouched : goal.returns-in-Ok-clause-untouched
returns-in-Ok-clause-untouched g c = λ bad. absurd (bad c.in-Ok.words c.in-Ok.ensures.asked)

pub returns-in-Ok-clause-unread : goal.returns-in-Ok-clause-unread
returns-in-Ok-clause-unread g c = λ asked a s. c.replay_by.ensures.unread (asked_number _ c.in-Ok.words asked c.in-Ok.ensures.asked a s)

pub returns-in-Ok-clause-decided : goal.returns-in-Ok-clause-decided
returns-in-Ok-clause-decided g c = λ asked a p q.
    asked_decided _ c.in-Ok.words asked _ (g.S.Source.left c.args.source.now) c.in-Ok.ensures.asked a (c.replay_by.ensures.decided p q)
