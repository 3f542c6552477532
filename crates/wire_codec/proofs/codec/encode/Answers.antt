use Rattle.std.proofs.Common.{[], ap, ◌∙◌}
use Rattle.wire_messages.specs.Spelling.{fields_of, spelling}
use Rattle.wire_messages.specs.Writing.{appended}
use Rattle.wire_messages.proofs.KindLaws.{appended_is}
use Rattle.wire_codec.proofs.codec.encode.Goals as goal

pub returns : goal.returns
unfolding spelling
returns c =
    c.from.ensures
    ∙ c.in_ok-put_message.ensures
    ∙ ap (λ xs. appended xs (fields_of c.args.m.now)) c.in_ok-out.ensures.items
    ∙ appended_is [] (fields_of c.args.m.now)
