use Rattle.std.proofs.Common.{sym, ◌∙◌, ap}
use Rattle.journal_reader.specs.Fields.{all_of, parsed_member}
use Rattle.journal_reader.proofs.Loops.{onto, each_good, each_bad, each_end}
use Rattle.journal_reader.proofs.reading.members.each_member_of.Goals as goal

pub returns-in_default-member_of : goal.returns-in_default-member_of
returns-in_default-member_of c =
    each_bad parsed_member c.loop-text.members.items c.in-Some.text.now c.loop-text.parts c.take_first.new.self _
    c.in-Some.ensures.some (sym c.in_default-member_of.is ∙ c.member_of.ensures) c.loop-text.invariant

pub loop-text-preserved : goal.loop-text-preserved
loop-text-preserved c =
    ap (λ ms. onto ms (all_of parsed_member c.take_first.new.self)) c.in_ok-push.ensures.items
    ∙ each_good parsed_member c.loop-text.members.items _ c.in-Some.text.now c.loop-text.parts c.take_first.new.self _
    c.in-Some.ensures.some (sym c.in-Some-member_of.is ∙ c.member_of.ensures) c.loop-text.invariant

pub returns : goal.returns
returns c = each_end parsed_member c.loop-text.members.items c.loop-text.parts _ c.in_default.ensures.none.0 c.loop-text.invariant
