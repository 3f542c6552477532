-- Messages of no use: of another view, or that answer nothing that is still open.
use Rattle.std.specs.Prelude.{◌∷◌, []}
use Rattle.journal_lines.specs.declared.line.Line.TheVariants as line
use Rattle.node_rules.specs.Effects.{Effects, lines_only}
use Rattle.node_rules.specs.Facts.{Facts}

-- the message is of another view, or of no use
abbrev pub stale : Facts → Effects
stale f = lines_only (line.Stale f.me ∷ [])

-- the message answers nothing that is still open
abbrev pub spent : Facts → Effects
spent f = lines_only (line.Spent f.me ∷ [])
