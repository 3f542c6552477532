-- The lines of closing transactions and of entering a view.
use Rattle.std.specs.Prelude.{ℕ, List, ◌∷◌, ◌++◌, Option, Some, None, map}
use Rattle.cluster_types.specs.declared.cluster_key.ClusterKey.{ClusterKey}
use Rattle.cluster_types.specs.declared.member.Member.{Member}
use Rattle.journal_lines.specs.declared.line.Line.{Line}
use Rattle.journal_lines.specs.declared.line.Line.TheVariants as line
use Rattle.node_rules.specs.Exchange.{is_single}
use Rattle.node_rules.specs.Facts.{Facts, view_key}
use Rattle.node_rules.specs.Transactions.{Write}
use Rattle.node_rules.specs.Tables.{only_if}

-- a transaction ends: in doubt where it was applied, and aborted otherwise
abbrev pub ending : ℕ → ClusterKey → ℕ → Option Write → Line
ending me key number None = line.Aborted me key number
ending me key number (Some w) = line.Doubt me key number

-- each open transaction ends, in rising order of their numbers
abbrev pub closing : Facts → List Line
closing f = map (λ t. ending f.me (view_key f) t.number t.applied) f.transactions.running

-- all transactions are closed, and the view is entered; the exchange of a view of one member is
-- finished with that
abbrev pub entering : Facts → ClusterKey → List Member → List Line
entering f key members =
    closing f
    ++ (line.Enter f.me key members ∷ only_if (line.Exchanged f.me key) (is_single members))
