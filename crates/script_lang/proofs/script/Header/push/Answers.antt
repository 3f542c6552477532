use Rattle.std.proofs.Common.{List, sym, subst}
use Rattle.script_lang.specs.declared.script.HeaderLine.{HeaderLine}
use Rattle.script_lang.specs.Before.{MayDeclare, nodes_of}
use Rattle.script_lang.proofs.HeaderLaws.{line_more}
use Rattle.script_lang.proofs.script.Header.push.Goals as goal

pub invariant_of-self-2 : goal.invariant_of-self-2
invariant_of-self-2 c =
    line_more _ _ c.args.line c.in_ok-push.ensures.items c.self.invariant
    (subst (λ (ls : List HeaderLine). MayDeclare (nodes_of ls) c.args.line) (sym c.self.view_is) c.requires.declares) c.requires.ranges
