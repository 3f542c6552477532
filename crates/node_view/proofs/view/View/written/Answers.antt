use Rattle.std.proofs.Common.{◌≡◌, Some, None, option_map, sym, ap, ◌∙◌}
use Rattle.std.specs.Option.{option_copied}
use Rattle.node_view.specs.Transactions.{note_of, write_of}
use Rattle.node_view.proofs.ShownLaws.{write_in, written_shown}
use Rattle.node_view.proofs.view.View.written.Goals as goal

pub returns-in_err-get : goal.returns-in_err-get
returns-in_err-get c =
    let i = c.self.inside in
    let none : None ≡ note_of i.notes.kept c.args.t = ap option_copied (sym c.in_err-get.was) ∙ c.get.ensures in
    ap (λ w. option_map write_of (option_copied w)) c.from_residual.ensures
    ∙ written_shown i c.args.self.now c.args.t None c.self.view_is c.self.invariant.noted c.requires (ap write_in none)

pub returns : goal.returns
returns c =
    let i = c.self.inside in
    let some : Some c.in_ok-get.field-0.now ≡ note_of i.notes.kept c.args.t = ap option_copied (sym c.in_ok-get.was) ∙ c.get.ensures in
    written_shown i c.args.self.now c.args.t (option_copied c.as_ref.result) c.self.view_is c.self.invariant.noted c.requires (c.as_ref.ensures.value ∙ ap write_in some)
