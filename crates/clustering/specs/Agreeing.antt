-- What a caller sees of a node's part in agreeing on views.
use Rattle.std.specs.Prelude.{ℕ}
use Rattle.node_rules.specs.Agreement.{Agreement}

-- a node, and how far it has come in agreeing on views
pub record Agreeing : Type 0 where
  pub me : ℕ
  pub agreement : Agreement

-- the node has come as far as this
abbrev pub with_agreement : Agreeing → Agreement → Agreeing
with_agreement a now = record { me = a.me; agreement = now }
