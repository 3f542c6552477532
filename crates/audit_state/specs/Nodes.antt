-- What is known of a node.
use Rattle.std.specs.Prelude.{◌≡◌, [], None}
use Rattle.audit_state.specs.declared.nodes.Node.{Node}

-- nothing is known of the node but that it was declared
pub record IsFreshNode (node : Node) : Type 0 where
  pub view : node.view ≡ None
  pub clock : node.clock ≡ 0
  pub stay : node.stay.items ≡ []
  pub exchanged : node.exchanged.items ≡ []
