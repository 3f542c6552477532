-- What holds of the requests that nodes pass on to the node that acts.
use Rattle.std.specs.Prelude.{◌≡◌, ℕ, suc, List, Option, Some, slice_get, take}
use Rattle.conflict_order.specs.declared.want.Want.{Want}
use Rattle.conflict_order.specs.declared.want.Action.{Action}
use Rattle.conflict_order.specs.Action.{action_of}
use Rattle.cluster_types.specs.declared.cluster_key.ClusterKey.{ClusterKey}
use Rattle.wire_messages.specs.declared.message.Message.{Message}
use Rattle.wire_messages.specs.declared.message.Message.TheVariants as message
use Rattle.wire_messages.specs.declared.reply.ReplyBody.{ReplyBody}
use Rattle.journal_lines.specs.declared.refusal.Refusal.{Refusal}
use Rattle.journal_lines.specs.declared.line.Line.{Line}
use Rattle.journal_lines.specs.declared.line.Line.TheVariants as line
use Rattle.journal_readings.specs.Views.{view}
use Rattle.journal_readings.specs.Replies.{arrival_at, sent_at, Uptake, Opens, Refuses, uptake_line, cause_of, Answers}

-- ---- a request on its way

-- the line of that place sends request x of the node's view, for the action on the record, to the other node
pub record SendsOn (j : List Line) (i n x a : ℕ) (k : ClusterKey) (d : List ℕ) (act : Action)
    : Type 0 where
  pub want : Want
  pub wants : action_of want ≡ act
  pub sent : sent_at j i n a ≡ Some (message.Proxy k x d want)

-- the message tells that request x of the view is refused for that cause
pub record TellsRefusal (sent : Option Message) (x : ℕ) (k : ClusterKey) (c : Refusal) : Type 0 where
  pub body : ReplyBody
  pub told : sent ≡ Some (message.ProxyReply k x body)
  pub why : cause_of body ≡ Some c

-- a refusal is told at once; an opened transaction is answered when it ends
abbrev pub IsTold : Option Message → ℕ → ClusterKey → Uptake → Type 0
IsTold sent x k (Opens t) = Unit {0}
IsTold sent x k (Refuses c) = TellsRefusal sent x k c

-- at that place request x of node n and its view reaches node a, which takes it up so: the line that says it
-- stands directly behind, and directly behind a refusal the reply that tells it
pub record TakenUp (j : List Line) (i n x a : ℕ) (k : ClusterKey) (d : List ℕ) (act : Action)
    (how : Uptake) : Type 0 where
  pub want : Want
  pub wants : action_of want ≡ act
  pub arrives : arrival_at j i
      ≡ Some (record { from = n; to = a; message = message.Proxy k x d want })
  pub taken : slice_get j (suc i) ≡ Some (uptake_line a k d act how)
  pub told : IsTold (sent_at j (suc (suc i)) a n) x k how

-- ---- its reply

-- before that place node n had passed request x of its view on to a node; that node, in the view, had taken it up and
-- answered it so; and the line directly before the place brings the reply from there
pub record Replied (j : List Line) (i n x : ℕ) (k : ClusterKey) (b : ReplyBody) : Type 0 where
  pub acting : ℕ
  pub digest : List ℕ
  pub action : Action
  pub arrival : ℕ
  pub directly : suc arrival ≡ i
  pub brought : arrival_at j arrival
      ≡ Some (record { from = acting; to = n; message = message.ProxyReply k x b })
  pub passed : ℕ
  pub passes : slice_get (take arrival j) passed
      ≡ Some (line.Proxy n k x digest action acting)
  pub place : ℕ
  pub how : Uptake
  pub taken : TakenUp (take arrival j) place n x acting k digest action how
  pub viewed : view acting (take place j) ≡ Some k
  pub answered : Answers (take arrival j) acting k digest how b

-- ---- the claim

-- a request that a node passes on is taken up once at most, though it may come again; and what comes back for it is the
-- answer of the node that took it up, and is taken once
pub record ProxiesAnswer (j : List Line) : Type 0 where
  -- directly behind the line of a request that is passed on it is sent
  pub sent : (i n x a : ℕ) (k : ClusterKey) (d : List ℕ) (act : Action)
      → slice_get j i ≡ Some (line.Proxy n k x d act a) → SendsOn j (suc i) n x a k d act
  -- no two requests of a node and view have one number
  pub named_once : (i o n x a b : ℕ) (k : ClusterKey) (d e : List ℕ) (act other : Action)
      → slice_get j i ≡ Some (line.Proxy n k x d act a)
      → slice_get j o ≡ Some (line.Proxy n k x e other b) → i ≡ o
  -- a node takes a request up at one place at most
  pub taken_once : (i o n x a : ℕ) (k : ClusterKey) (d e : List ℕ) (act other : Action)
      (how again : Uptake) → TakenUp j i n x a k d act how → TakenUp j o n x a k e other again
      → i ≡ o
  -- a reply is that of the node to which the request was passed on
  pub replied : (i n x : ℕ) (k : ClusterKey) (b : ReplyBody)
      → slice_get j i ≡ Some (line.Proxied n k x b) → Replied j i n x k b
  -- and it is taken once
  pub replied_once : (i o n x : ℕ) (k : ClusterKey) (b c : ReplyBody)
      → slice_get j i ≡ Some (line.Proxied n k x b) → slice_get j o ≡ Some (line.Proxied n k x c)
      → i ≡ o
