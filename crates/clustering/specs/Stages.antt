-- The stages of agreeing on views: what is seen of each, and what its keys are.
use Rattle.std.specs.Prelude.{◌≡◌, ℕ, ◌<◌, ◌+◌, ◌^◌, Bool, true, false, List, Option, Some, None, All, Contains}
use Rattle.cluster_types.specs.declared.cluster_key.ClusterKey.{ClusterKey}
use Rattle.cluster_types.specs.declared.member.Member.{Member}
use Rattle.cluster_types.specs.ClusterKeys.{none, key_lt}
use Rattle.cluster_types.specs.Members.{ids_of}
use Rattle.wire_messages.specs.Keys.{IsKeyOrNone}
use Rattle.node_rules.specs.Agreement as rules
use Rattle.node_rules.specs.Agreement.{Agreement, others_among}
use Rattle.clustering.specs.Agreeing.{Agreeing}
use Rattle.clustering.specs.declared.stage.Keys.{Keys}
use Rattle.clustering.specs.declared.stage.Proposing.{Proposing}
use Rattle.clustering.specs.declared.stage.Stage.{Stage}
use Rattle.clustering.specs.declared.stage.Stage.TheVariants as stage

-- what a node at a stage keeps
abbrev pub keys_of : Stage → Keys
keys_of (stage.Idle s) = s.keys
keys_of (stage.Proposing s) = s.keys
keys_of (stage.Promised s) = s.keys
keys_of (stage.Entered s) = s.keys

-- what these keys and that proposal are to the rules
abbrev pub agreement_with : Keys → Option rules.Proposal → Agreement
agreement_with k proposal = record {
  promised = k.promised;
  last = k.last;
  proposal = proposal;
  seen = k.seen;
}

-- a proposal is of the key that was promised last
abbrev pub stage_proposal : Proposing → rules.Proposal
stage_proposal s = record { key = s.keys.promised; members = s.members; missing = s.missing }

-- the proposal, at the one stage that has one
abbrev pub proposal_at : Stage → Option rules.Proposal
proposal_at (stage.Idle s) = None
proposal_at (stage.Proposing s) = Some (stage_proposal s)
proposal_at (stage.Promised s) = None
proposal_at (stage.Entered s) = None

-- what the stage is to the rules
abbrev pub agreement_at : Stage → Agreement
agreement_at s = agreement_with (keys_of s) (proposal_at s)

-- what a caller sees of the stage
abbrev pub seen_at : Stage → Agreeing
seen_at s = record { me = (keys_of s).me; agreement = agreement_at s }

-- each key is none or that of a view, and the one entered last isn't above the one promised last
pub record AreKeys (promised last : ClusterKey) : Type 0 where
  pub promised_key : IsKeyOrNone promised
  pub last_key : IsKeyOrNone last
  pub ordered : key_lt promised last ≡ false

-- the view of the promised key hasn't been entered
pub record IsPromised (k : Keys) : Type 0 where
  pub keys : AreKeys k.promised k.last
  pub above : key_lt k.last k.promised ≡ true

-- a proposal is the node's own, of a view in which it is, and waits for other members alone
pub record IsProposing (s : Proposing) : Type 0 where
  pub promised : IsPromised s.keys
  pub led : s.keys.promised.principal ≡ s.keys.me
  pub member : Contains (ids_of s.members) s.keys.me
  pub waits : All (λ n. Contains (others_among s.keys.me s.members) n) s.missing

-- nothing was promised, and so nothing was entered
pub record IsIdle (k : Keys) : Type 0 where
  pub keys : AreKeys k.promised k.last
  pub none_promised : k.promised ≡ none

-- the view of the promised key was entered
pub record IsPromiseEntered (k : Keys) : Type 0 where
  pub keys : AreKeys k.promised k.last
  pub entered : k.last ≡ k.promised

-- the stage is that of its keys
abbrev pub IsStage : Stage → Type 0
IsStage (stage.Idle s) = IsIdle s.keys
IsStage (stage.Proposing s) = IsProposing s
IsStage (stage.Promised s) = IsPromised s.keys
IsStage (stage.Entered s) = IsPromiseEntered s.keys
