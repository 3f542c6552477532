use Rattle.std.proofs.Common.{◌≡◌, ◌++◌, take}
use Rattle.std.specs.List.{flat_map}
use Rattle.wire_messages.specs.Nodes.{id_field}
use Rattle.wire_codec.proofs.writing.nodes.put_each_id.Given as goal

-- the first ids stand behind what stood there
abbrev pub invariant-loop-id : goal.invariant-loop-id
invariant-loop-id l = l.out.items ≡ l.fn.out.items ++ flat_map id_field (take l.id-index l.ids)
