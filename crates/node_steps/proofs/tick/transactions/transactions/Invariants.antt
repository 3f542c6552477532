use Rattle.std.proofs.Common.{◌≡◌, All}
use Rattle.node_rules.specs.Effects.{sends_only}
use Rattle.node_steps.specs.Spelled.{then_effects}
use Rattle.node_steps.proofs.AgainLaws.{IsFound, sends_for}
use Rattle.node_steps.proofs.tick.transactions.transactions.Given as goal

-- what was told and what is sent for those that are left are all that is told
abbrev pub invariant-loop-txn : goal.invariant-loop-txn
invariant-loop-txn l =
    (then_effects l.out (sends_only (sends_for l.f l.txn-iterator)) ≡ then_effects l.initial.out (sends_only (sends_for l.f l.initial.txn-iterator)))
    × All (IsFound l.f) l.txn-iterator
