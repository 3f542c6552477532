-- What holds of a world's journal after every call.
use Rattle.std.specs.Prelude.{List}
use Rattle.journal_lines.specs.declared.line.Line.{Line}
use Rattle.journal_readings.specs.CalmEnd.{CalmEnd}
use Rattle.journal_readings.specs.Claims.{OneMap, NoLoss, SettledJoin, ReadJoin, EqualClasses, KeysRise}

pub record HasClaims (j : List Line) : Type 0 where
  pub one_map : OneMap j
  pub no_loss : NoLoss j
  pub settled_join : SettledJoin j
  pub read_join : ReadJoin j
  pub equal_classes : EqualClasses j
  pub keys_rise : KeysRise j
  pub calm_end : CalmEnd j
