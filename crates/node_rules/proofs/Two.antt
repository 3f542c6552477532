-- What happens between two nodes.
use Rattle.std.proofs.Common.{◌≡◌, false, [], ◌∷◌, Option, Some, None, refl, ap, ◌∙◌}
use Rattle.std.specs.Ordering.{nat_cmp}
use Rattle.std.specs.Cmp.Lexicographic.{slice_cmp}
use Rattle.std.specs.FinMap as finite
use Rattle.conflict_order.specs.declared.policy.Policy.TheVariants.{Time}
use Rattle.conflict_order.specs.declared.version.Version.{Version}
use Rattle.conflict_order.specs.declared.want.Want.TheVariants as want
use Rattle.conflict_order.specs.Join.{join}
use Rattle.conflict_order.specs.Next.{next}
use Rattle.conflict_order.specs.Order.{is_newer}
use Rattle.journal_lines.specs.declared.line.Line.TheVariants as line
use Rattle.wire_messages.specs.declared.message.Message.TheVariants as message
use Rattle.partition_lists.specs.Hashes.{fnv1a, jenkins_state, jenkins_end, node_bytes, partition_bytes, place}
use Rattle.partition_lists.specs.Lists.{list}
use Rattle.node_rules.specs.Effects.{Effects, lines_only, to_one}
use Rattle.node_rules.specs.Examples.{key, seven, hi, first_hi, second_hi, waiting_for, migrating, whole_and_part}
use Rattle.node_rules.specs.Messages.{due_message}
use Rattle.node_rules.specs.Tables.{only_if}

pub reads : due_message (waiting_for want.Get) 5 1 (message.Answer (key 2 2) 1 (Some first_hi)) ≡ lines_only (line.Value 2 (key 2 2) 1 seven (Some first_hi) ∷ [])
unfolding join
reads = refl

pub writes : due_message (waiting_for (want.Put hi)) 5 1 (message.Answer (key 2 2) 1 (Some first_hi)) ≡ record { lines = line.Apply 2 (key 2 2) 1 seven second_hi ∷ []; sends = to_one 1 (message.Repl (key 2 2) 1 1 seven second_hi) }
unfolding join next fnv1a jenkins_state jenkins_end node_bytes partition_bytes place list
writes = refl

-- what is due of a Repl where that is held
abbrev merging : Option Version → Effects
merging held = record { lines = only_if (line.Merge 1 (key 2 2) seven second_hi) (is_newer Time second_hi held); sends = to_one 2 (message.ReplAck (key 2 2) 1) }

newer_than_none : merging None ≡ record { lines = line.Merge 1 (key 2 2) seven second_hi ∷ []; sends = to_one 2 (message.ReplAck (key 2 2) 1) }
unfolding is_newer
newer_than_none = refl

pub merges : due_message (migrating 1 2 (whole_and_part 2 1) false false) 0 2 (message.Repl (key 2 2) 1 1 seven second_hi) ≡ record { lines = line.Merge 1 (key 2 2) seven second_hi ∷ []; sends = to_one 2 (message.ReplAck (key 2 2) 1) }
merges = ap merging (finite.get-empty (slice_cmp nat_cmp) seven) ∙ newer_than_none
