-- What is due of a transaction whose best version is known.
use Rattle.std.specs.Prelude.{ℕ, List, [], ◌∷◌}
use Rattle.conflict_order.specs.declared.version.Version.{Version}
use Rattle.conflict_order.specs.declared.version.Body.{Body}
use Rattle.conflict_order.specs.declared.version.Body.TheVariants as body
use Rattle.conflict_order.specs.declared.want.Want.{Want}
use Rattle.conflict_order.specs.declared.want.Want.TheVariants as want
use Rattle.conflict_order.specs.Next.{next}
use Rattle.cluster_types.specs.Partitions.{partition_of}
use Rattle.journal_lines.specs.declared.line.Line.TheVariants as line
use Rattle.wire_messages.specs.declared.message.Message.{Message}
use Rattle.wire_messages.specs.declared.message.Message.TheVariants as message
use Rattle.node_rules.specs.Effects.{Effects, lines_only, to_each}
use Rattle.node_rules.specs.Facts.{Facts, view_key}
use Rattle.node_rules.specs.Notes.{next_nth}
use Rattle.node_rules.specs.Standing.{other_replicas}
use Rattle.node_rules.specs.Transactions.{Transaction, Write}
use Rattle.node_rules.specs.Tables.{is_nil, only_if}

-- the message by which a transaction's write goes to a replica
abbrev pub repl : Facts → Transaction → Write → Message
repl f t w = message.Repl (view_key f) t.number w.nth t.digest w.version

-- the transaction writes this version: it is applied, and goes to each other replica in list order;
-- it is done at once where no other replica is to acknowledge it
abbrev pub writing : Facts → List ℕ → Transaction → Version → Effects
writing f l t v = record {
  lines =
      line.Apply f.me (view_key f) t.number t.digest v
      ∷ only_if (line.Done f.me (view_key f) t.number) (is_nil (other_replicas f l));
  sends =
      to_each (other_replicas f l)
      (repl f t (record { version = v; nth = next_nth f (partition_of t.digest) }));
}

-- a write of that body makes the next version of the best one
abbrev pub writing_body : Facts → ℕ → List ℕ → Transaction → Body → Effects
writing_body f clock l t b = writing f l t (next t.best clock b)

-- the transaction is resolved by what it wants
abbrev pub resolving_want : Facts → ℕ → List ℕ → Transaction → Want → Effects
resolving_want f clock l t want.Get =
    lines_only (line.Value f.me (view_key f) t.number t.digest t.best ∷ [])
resolving_want f clock l t (want.Put bytes) = writing_body f clock l t (body.Value bytes)
resolving_want f clock l t want.Del = writing_body f clock l t body.Tombstone

-- the transaction is resolved: a read answers the best version or none, and a write is applied. The
-- list is that of its partition
abbrev pub resolving : Facts → ℕ → List ℕ → Transaction → Effects
resolving f clock l t = resolving_want f clock l t t.want
