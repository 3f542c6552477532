use Rattle.std.proofs.Common.{ap, ◌∙◌, arith}
use Rattle.node_rules.specs.Stamps.{with_number}
use Rattle.write_path.specs.Numbered.{Numbered}
use Rattle.write_path.proofs.NumberLaws.{gap_after, taken_after, taken_next, taken_within}
use Rattle.write_path.proofs.seen.Seen.take.Goals as goal

pub returns-then-nth-self-clause-ok : goal.returns-then-nth-self-clause-ok
returns-then-nth-self-clause-ok c =
    let old = c.self.inside in
    rw (← c.self.view_is) (taken_within old.upto c.args.nth old.above.items (omega arith) (omega arith))

pub returns-then-nth-self-2-clause-ok : goal.returns-then-nth-self-2-clause-ok
returns-then-nth-self-2-clause-ok c =
    let old = c.self.inside in
    c.close_gap.ensures.numbers
    ∙ taken_next old.upto c.args.nth old.above.items (omega arith) c.self.invariant
    ∙ ap (λ (s : Numbered). with_number s.numbers c.args.nth) c.self.view_is

pub invariant_of-self-2 : goal.invariant_of-self-2
invariant_of-self-2 c =
    let old = c.self.inside in
    gap_after c.add_above.result old.upto c.args.nth old.above.items c.add_above.new.above.items c.add_above.ensures.ok c.add_above.ensures.err (omega arith) (λ next. absurd (omega arith)) c.self.invariant

pub returns-clause-ok : goal.returns-clause-ok
returns-clause-ok c =
    let old = c.self.inside in
    rw (← c.self.view_is) (taken_after c.add_above.result old.upto c.args.nth old.above.items c.add_above.new.above.items c.add_above.ensures.ok (omega arith))
