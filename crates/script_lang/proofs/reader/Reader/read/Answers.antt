use Rattle.std.proofs.Common.{subst}
use Rattle.script_lang.specs.declared.script.Script.{Script}
use Rattle.script_lang.specs.Reading.{MayAdd}
use Rattle.script_lang.proofs.Said.{may_add}
use Rattle.script_lang.proofs.reader.Reader.read.Goals as goal

pub add-requires : goal.add-requires
add-requires c =
    subst (λ (s : Script). MayAdd s c.in-Ok.said) c.self.view_is
    (may_add (record { header = c.self.inside.header; commands = c.self.inside.commands }) c.self.inside.before c.args.text.now c.in-Ok.said c.self.invariant c.in-Ok.ensures)
