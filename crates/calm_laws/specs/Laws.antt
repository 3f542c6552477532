-- Laws that hold in every world that a run reaches, and what is due of a node that proposes.
use Rattle.std.specs.Prelude.{◌≡◌, ◌&&◌, ℕ, Bool, true, List, [], ◌∷◌, Option, Some, None}
use Rattle.wire_messages.specs.declared.message.Message.{Message}
use Rattle.wire_messages.specs.declared.message.Message.TheVariants as message
use Rattle.wire_messages.specs.Decoding.{message_of}
use Rattle.wire_messages.specs.Nodes.{IsId}
use Rattle.wire_messages.specs.Spelling.{spelling}
use Rattle.node_rules.specs.Agreement.{Proposal, has_round, next_key}
use Rattle.node_rules.specs.Facts.{Facts}
use Rattle.node_rules.specs.Notes.{neighbours}
use Rattle.node_rules.specs.Tick.{is_candidate}
use Rattle.cluster_rules.specs.World.{World}
use Rattle.key_laws.specs.Sound.{Sound}
use Rattle.key_laws.specs.Traced.{Traced}

-- the world has a history with which the laws of keys hold
pub record HasLaws (w : World) : Type 0 where
  pub trace : Traced
  pub is : trace.world ≡ w
  pub sound : Sound trace

abbrev pub AreIds : List ℕ → Type 0
AreIds [] = Unit {0}
AreIds (n ∷ ns) = IsId n × AreIds ns

-- whether a new proposal is made where none stands
abbrev pub is_to_propose : Facts → Bool
is_to_propose g = is_candidate g && has_round g.agreement

-- the message can be read
abbrev pub CanBeRead : Message → Type 0
CanBeRead m = message_of (spelling m) ≡ Some m

-- what is proposed can be read
abbrev pub ReadsWith : Facts → Option Proposal → Type 0
ReadsWith g None =
    is_to_propose g ≡ true → CanBeRead (message.Propose (next_key g.me g.agreement) (neighbours g))
ReadsWith g (Some p) = CanBeRead (message.Propose p.key p.members)
