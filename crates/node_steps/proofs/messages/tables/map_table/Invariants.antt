use Rattle.node_steps.proofs.TableLaws.{AreTold}
use Rattle.node_steps.proofs.messages.tables.map_table.Given as goal

-- the first partitions are told
abbrev pub invariant-loop-number : goal.invariant-loop-number
invariant-loop-number l = AreTold l.view l.number l.ids l.moved
