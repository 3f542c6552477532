-- What happens to a read that is passed on, and to a put of the client.
use Rattle.std.proofs.Common.{◌≡◌, [], ◌∷◌, Option, Some, None, refl, ap, ◌∙◌}
use Rattle.std.specs.Ordering.{nat_cmp}
use Rattle.std.specs.Cmp.Lexicographic.{slice_cmp}
use Rattle.std.specs.FinMap as finite
use Rattle.conflict_order.specs.declared.version.Version.{Version}
use Rattle.conflict_order.specs.declared.version.Body.TheVariants.{Value}
use Rattle.conflict_order.specs.declared.want.Want.TheVariants as want
use Rattle.conflict_order.specs.declared.want.Action.TheVariants as action
use Rattle.conflict_order.specs.Join.{join}
use Rattle.conflict_order.specs.Next.{next}
use Rattle.conflict_order.specs.Order.{version_cmp}
use Rattle.cluster_types.specs.Partitions.{partition_count}
use Rattle.journal_lines.specs.declared.line.Line.TheVariants as line
use Rattle.wire_messages.specs.declared.message.Message.TheVariants as message
use Rattle.wire_messages.specs.declared.reply.ReplyBody.TheVariants as reply
use Rattle.partition_lists.specs.Hashes.{fnv1a, jenkins_state, jenkins_end, node_bytes, partition_bytes, place}
use Rattle.partition_lists.specs.Lists.{list}
use Rattle.node_rules.specs.Bits.{clear_row}
use Rattle.node_rules.specs.Effects.{Effects, to_one}
use Rattle.node_rules.specs.Examples.{key}
use Rattle.node_rules.specs.Messages.{client}
use Rattle.request_rules.specs.Dressing.{with_requests}
use Rattle.request_rules.specs.Examples.{last_digest, version_of, joined_one, joined_two, proxy_of_read, first_of_one, having_read, reading_two, alone, first_of_client}
use Rattle.request_rules.specs.NodeMessages.{due_at_node_of}
use Rattle.request_rules.specs.Passing.{passing}
use Rattle.request_rules.specs.Requests.{no_requests, none_passed}

pub passes : passing none_passed joined_one 0 last_digest want.Get ≡ record { lines = line.Proxy 1 (key 2 2) 1 last_digest action.Get 2 ∷ []; sends = to_one 2 proxy_of_read }
unfolding fnv1a jenkins_state jenkins_end node_bytes partition_bytes place list clear_row
passes = refl

pub takes : with_requests no_requests joined_two (Some first_of_one) (due_at_node_of partition_count no_requests joined_two 0 1 proxy_of_read) ≡ record { lines = line.Opened 2 (key 2 2) 1 last_digest action.Get ∷ []; sends = to_one 1 (message.Ask (key 2 2) 1 last_digest) }
unfolding fnv1a jenkins_state jenkins_end node_bytes partition_bytes place list clear_row
takes = refl

pub ends : with_requests having_read reading_two None (due_at_node_of partition_count having_read reading_two 0 1 (message.Answer (key 2 2) 1 (Some (version_of 1 97)))) ≡ record { lines = line.Value 2 (key 2 2) 1 last_digest (Some (version_of 1 98)) ∷ []; sends = to_one 1 (message.ProxyReply (key 2 2) 1 (reply.Found (version_of 1 98))) }
unfolding join version_cmp
ends = refl

-- the put, where that is held
abbrev put_of : Option Version → Effects
put_of best = record {
  lines = line.Opened 1 (key 1 1) 1 last_digest action.Put ∷ line.Apply 1 (key 1 1) 1 last_digest (next best 0 (Value (97 ∷ []))) ∷ line.Done 1 (key 1 1) 1 ∷ [];
  sends = to_one client (message.Reply (key 1 1) 1 reply.Done);
}

puts : with_requests no_requests alone (Some first_of_client) (due_at_node_of partition_count no_requests alone 0 client (message.Call 1 last_digest (want.Put (97 ∷ [])))) ≡ put_of (finite.get alone.store.content last_digest)
unfolding list clear_row
puts = refl

holds_nothing : finite.get alone.store.content last_digest ≡ None
holds_nothing = finite.get-empty (slice_cmp nat_cmp) last_digest

first_version : next None 0 (Value (97 ∷ [])) ≡ version_of 1 97
unfolding next
first_version = refl

pub applies : with_requests no_requests alone (Some first_of_client) (due_at_node_of partition_count no_requests alone 0 client (message.Call 1 last_digest (want.Put (97 ∷ [])))) ≡ record { lines = line.Opened 1 (key 1 1) 1 last_digest action.Put ∷ line.Apply 1 (key 1 1) 1 last_digest (version_of 1 97) ∷ line.Done 1 (key 1 1) 1 ∷ []; sends = to_one client (message.Reply (key 1 1) 1 reply.Done) }
applies =
    puts
    ∙ ap put_of holds_nothing
    ∙ ap (λ v. record { lines = line.Opened 1 (key 1 1) 1 last_digest action.Put ∷ line.Apply 1 (key 1 1) 1 last_digest v ∷ line.Done 1 (key 1 1) 1 ∷ []; sends = to_one client (message.Reply (key 1 1) 1 reply.Done) }) first_version
