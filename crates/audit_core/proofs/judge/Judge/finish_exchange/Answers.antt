use Rattle.std.proofs.Common.{◌≡◌, false, sym, ◌∙◌, arith}
use Rattle.audit_laws.proofs.Tests.{differ}
use Rattle.audit_core.proofs.ExchangeLaws.{exchange_again, exchange_absent, exchange_ok, exchange_stops}
use Rattle.audit_core.proofs.PassLaws.{if_err_then}
use Rattle.audit_core.proofs.judge.Judge.finish_exchange.Goals as goal
use Rattle.audit_core.proofs.judge.Judge.finish_exchange.Goals.{then-before-via-then-before, then-before-via-else-before+then-not-is_in_view}

pub returns-then-before-clause-ok : goal.returns-then-before-clause-ok
returns-then-before-clause-ok c =
    elim c.then-before.branch [
      | then-before-via-then-before w ↦
          exchange_again c.args.self.now c.take_exchanged.new.self c.args.line c.args.node c.args.key c.requires.comes c.in_ok-take_exchanged.ensures.keeps c.in_ok-take_exchanged.ensures.frame
          (sym c.has_exchanged-before.ensures ∙ w.if-before.true)
      | then-before-via-else-before+then-not-is_in_view w ↦
          exchange_absent c.args.self.now c.take_exchanged.new.self c.args.line c.args.node c.args.key c.requires.comes c.in_ok-take_exchanged.ensures.keeps c.in_ok-take_exchanged.ensures.frame
          (λ present. let off : w.is_in_view.result ≡ false = grind (arith, w.if-not-is_in_view.true) in differ (w.is_in_view.ensures.1 present) off)
    ]

pub returns-clause-ok : goal.returns-clause-ok
returns-clause-ok c = exchange_ok c.args.self.now c.take_exchanged.new.self c.try_empty.new.self c.args.line c.args.node c.args.key c.requires.comes c.in_ok-take_exchanged.ensures.keeps c.in_ok-take_exchanged.ensures.frame
    c.try_empty.result c.try_empty.ensures.ok c.try_empty.ensures.keeps

pub returns-clause-err : goal.returns-clause-err
returns-clause-err c = if_err_then c.try_empty.result _ _
    (λ x h. exchange_stops c.args.self.now c.take_exchanged.new.self c.args.line c.args.node c.args.key c.requires.comes c.in_ok-take_exchanged.ensures.keeps c.in_ok-take_exchanged.ensures.frame x h)
    c.try_empty.ensures.err
