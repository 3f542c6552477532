-- What a line of the node adds to its facts.
use Rattle.std.specs.Prelude.{true, false, List, [], ◌∷◌, Option}
use Rattle.conflict_order.specs.declared.want.Want.{Want}
use Rattle.cluster_types.specs.Partitions.{partition_of}
use Rattle.journal_lines.specs.declared.line.Line.{Line}
use Rattle.journal_lines.specs.declared.line.Line.TheVariants as line
use Rattle.node_rules.specs.Agreement as agreement
use Rattle.node_rules.specs.Facts.{Facts, list_at}
use Rattle.node_rules.specs.TickNotes.{after_ages, stopped, started, marked}
use Rattle.node_rules.specs.ViewNotes.{own_row, entered, exchanged}
use Rattle.node_rules.specs.RecordNotes.{request_want, transaction_opened, closed, write_applied, merged}
use Rattle.node_rules.specs.SettlingNotes.{handed, settled, learnt, dropped}

-- what a line of the node adds, where this want is in hand
abbrev pub note : Option Want → Facts → Line → Facts
note q f (line.Tick n) = after_ages f
note q f (line.Stop n) = stopped f
note q f (line.Start n) = started f
note q f (line.Quiesce n) = marked f true
note q f (line.Unquiesce n) = marked f false
note q f (line.Promise n key) = record f { agreement = agreement.promising f.agreement key }
note q f (line.Enter n key members) = entered f key members (own_row f)
note q f (line.Exchanged n key) = exchanged f key
note q f (line.Opened n key t digest a) =
    transaction_opened f (list_at f (partition_of digest)) t digest (request_want q a)
note q f (line.Value n key t digest v) = closed f t
note q f (line.Apply n key t digest v) = write_applied f key
    (list_at f (partition_of digest)) t digest v
note q f (line.Done n key t) = closed f t
note q f (line.Aborted n key t) = closed f t
note q f (line.Doubt n key t) = closed f t
note q f (line.Merge n key digest v) = merged f key digest v
note q f (line.Handed n key p) = handed f p
note q f (line.Settled n key p) = settled f p
note q f (line.Learn n key p) = learnt f key (list_at f p) p
note q f (line.Drop n key p) = dropped f p
note q f _ = f

-- what lines add, one after another
abbrev pub noted : Option Want → Facts → List Line → Facts
noted q f [] = f
noted q f (l ∷ ls) = noted q (note q f l) ls
