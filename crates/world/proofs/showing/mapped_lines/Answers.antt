use Rattle.std.proofs.Common.{◌≡◌, ℕ, arith, ap, rules, ◌∙◌}
use Rattle.journal_lines.specs.declared.line.Line.{Line}
use Rattle.node_rules.specs.Facts.{list_at}
use Rattle.node_rules.specs.Map.{entry_of}
use Rattle.node_rules.specs.Shows.{map_line}
use Rattle.world.proofs.ShowingLaws.{one_more}
use Rattle.world.proofs.showing.mapped_lines.Goals as goal

pub loop-number-preserved : goal.loop-number-preserved
loop-number-preserved c =
    let f = c.args.node.now.now in
    let line : ℕ → Line = λ p. map_line f p (entry_of (list_at f p) f.exchange.rows p) in
    let same : c.in-Some.partition ≡ c.loop-number.number = search rules in
    record {
      told = one_more line c.number-first.result c.loop-number.number c.loop-number.lines c.push.new.self c.in_ok-map_line.field-0 c.loop-number.auto.number c.loop-number.invariant.told (c.in_ok-map_line.ensures ∙ ap line same) c.in_ok-push.ensures.ok;
      within = omega (arith, c.loop-number-test.true, c.loop-number.auto.number);
    }
