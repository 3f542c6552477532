-- How laws read.
use Rattle.std.specs.Prelude.{ℕ, List, codes}
use Rattle.audit_laws.specs.declared.law.Law.{Law}
use Rattle.audit_laws.specs.declared.law.Law.TheVariants as law

abbrev pub law_name : Law → List ℕ
law_name law.Shape = codes "shape"
law_name law.OneMap = codes "onemap"
law_name law.NoLoss = codes "noloss"
law_name law.SettledJoin = codes "settledjoin"
law_name law.ReadJoin = codes "readjoin"
