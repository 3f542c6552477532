use Rattle.std.proofs.Common.{◌≡◌, ◌++◌, map}
use Rattle.node_steps.specs.Viewing.{ending_of}
use Rattle.node_view.specs.Views.{viewed_key}
use Rattle.node_core.proofs.node.Node.close_transactions.Given as goal

-- what was told and what is left are all that is told
abbrev pub invariant-loop-txn : goal.invariant-loop-txn
invariant-loop-txn l =
    (l.out.lines ++ map (ending_of l.self.now.me (viewed_key l.view.value)) l.txn-iterator ≡ l.initial.out.lines ++ map (ending_of l.self.now.me (viewed_key l.view.value)) l.initial.txn-iterator)
    × (l.out.sends ≡ l.initial.out.sends)
