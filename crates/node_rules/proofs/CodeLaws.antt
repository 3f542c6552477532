-- The facts have a code, so they can be the value of a model.
use Rattle.std.specs.Coded.{Coded}
use Rattle.node_rules.specs.Codes.{facts_codes}
use Rattle.node_rules.specs.Facts.{Facts}

pub facts_are_coded : Coded Facts
facts_are_coded = hlevel facts_codes
