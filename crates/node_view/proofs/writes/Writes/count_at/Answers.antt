use Rattle.std.proofs.Common.{◌≡◌, Some, None, sym, ap, ◌∙◌}
use Rattle.std.specs.Option.{option_copied}
use Rattle.node_rules.specs.Tables.{at}
use Rattle.node_view.specs.Writes.{Written, writes_of}
use Rattle.node_view.proofs.WriteLaws.{counted, none_counted}
use Rattle.node_view.proofs.writes.Writes.count_at.Goals as goal

pub returns-in-Some : goal.returns-in-Some
returns-in-Some c =
    let es = c.self.inside.numbers.items in
    let there : Some c.in-Some.seen.now ≡ at es c.args.p = ap option_copied (sym c.in-Some.is) ∙ (c.entry.ensures ∙ ap (λ t. at t c.args.p) c.deref.ensures.value) in
    c.writes.ensures ∙ counted (writes_of c.args.self.now) es c.args.p c.args.is_master c.in-Some.seen.now c.if-is_master.false (ap (λ (w : Written). w.writes.numbers) (sym c.self.view_is)) there

pub returns-in-None : goal.returns-in-None
returns-in-None c =
    let es = c.self.inside.numbers.items in
    let missing : None ≡ at es c.args.p = ap option_copied (sym c.in-None.is) ∙ (c.entry.ensures ∙ ap (λ t. at t c.args.p) c.deref.ensures.value) in
    none_counted (writes_of c.args.self.now) es c.args.p c.args.is_master c.if-is_master.false (ap (λ (w : Written). w.writes.numbers) (sym c.self.view_is)) missing
