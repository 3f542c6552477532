use Rattle.std.proofs.Common.{ℕ, List, ◌+◌, ◌++◌, ◌∷◌, drop, sym, ap, ◌∙◌, arith, [], if◌then◌else◌}
use Rattle.std.proofs.lemmas.Option.{slice_get_within}
use Rattle.journal_lines.specs.declared.line.Line.TheVariants as line
use Rattle.cluster_rules.specs.Network.{has_place}
use Rattle.world.specs.Sent.{posted_lines}
use Rattle.world.proofs.SendingLaws.{lines_end, lines_more}
use Rattle.world.proofs.sending.add_sent_lines.Goals as goal

pub loop-to-preserved : goal.loop-to-preserved
loop-to-preserved c =
    let l = c.loop-to in
    let m = c.in-Some.field-0.now in
    let sends = c.args.sends.now in
    let within = slice_get_within sends l.count m (sym c.in-Some.ensures) in
    record {
      all =
          ap (λ (n : ℕ). c.add_sent_line.new.lines ++ posted_lines c.args.from (l.message + 1) n (drop (l.count + 1) sends)) c.in_ok-in_flight.ensures.in_flight
          ∙ lines_more c.args.from l.message l.in_flight sends l.count m l.lines c.add_sent_line.new.lines _ (sym c.in-Some.ensures)
          (c.in_ok-in_flight.ensures.lines
          ∙ ap (λ (b : List ℕ). l.lines ++ line.Sent (l.message + 1) c.args.from m.0 b ∷ (if has_place l.in_flight then [] else line.Full (l.message + 1) ∷ [])) (c.in_ok-from_slice.ensures ∙ c.as_slice.ensures))
          l.invariant.all;
      counted = omega (arith, l.invariant.counted);
      within = omega (arith, within);
    }

pub returns : goal.returns
returns c = lines_end c.args.from c.loop-to.message c.loop-to.in_flight c.args.sends.now c.loop-to.count c.loop-to.lines _ (sym c.in_default.ensures) c.loop-to.invariant.all
