-- The laws that the journal of every run keeps. Here each is asked of a journal that comes from anywhere.
use Rattle.std.specs.Prelude.{List}
use Rattle.journal_lines.specs.declared.line.Line.{Line}
use Rattle.journal_readings.specs.Shape.{Shape}
use Rattle.journal_readings.specs.Claims.{OneMap, NoLoss, SettledJoin, ReadJoin}

-- a journal that keeps all of them
pub record Lawful (j : List Line) : Type 0 where
  pub shape : Shape j
  pub one_map : OneMap j
  pub no_loss : NoLoss j
  pub settled_join : SettledJoin j
  pub read_join : ReadJoin j
