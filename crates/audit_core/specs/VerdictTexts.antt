-- How verdicts read.
use Rattle.std.specs.Prelude.{ℕ, List, ◌++◌, codes}
use Rattle.std.specs.Fmt.{decimal}
use Rattle.audit_laws.specs.Names.{law_name}
use Rattle.audit_core.specs.declared.verdict.Verdict.{Verdict}
use Rattle.audit_core.specs.declared.verdict.Verdict.TheVariants as verdict

-- the law that is broken, and behind it the number of the line that breaks it
abbrev pub verdict_text : Verdict → List ℕ
verdict_text verdict.Holds = codes "holds"
verdict_text (verdict.Fails law line) = codes "fails " ++ law_name law ++ codes " " ++ decimal line
