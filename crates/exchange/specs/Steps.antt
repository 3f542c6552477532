-- How far an exchange has come.
use Rattle.std.specs.Prelude.{Bool, true, false, is_none}
use Rattle.node_rules.specs.Exchange.{first_missing, finished}
use Rattle.exchange.specs.declared.exchanging.ExchangeStep.{ExchangeStep}
use Rattle.exchange.specs.declared.exchanging.ExchangeStep.TheVariants.{Waiting, Complete}
use Rattle.exchange.specs.Met.{Met, met_members}

-- finished where all rows are there, and otherwise waiting
abbrev pub step_if : Bool → Met → ExchangeStep
step_if true x = Complete (record x { exchange = finished x.exchange })
step_if false x = Waiting x

-- finished exactly where no row is missing
abbrev pub step_of : Met → ExchangeStep
step_of x = step_if (is_none (first_missing x.exchange.rows (met_members x))) x
