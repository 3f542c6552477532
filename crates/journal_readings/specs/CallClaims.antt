-- What holds of the requests that the client sends as messages.
use Rattle.std.specs.Prelude.{◌≡◌, ℕ, suc, ◌≤◌, List, length, None, Some, slice_get, take}
use Rattle.conflict_order.specs.declared.want.Want.{Want}
use Rattle.conflict_order.specs.declared.want.Action.{Action}
use Rattle.conflict_order.specs.Action.{action_of}
use Rattle.cluster_types.specs.Endpoints.{client}
use Rattle.cluster_types.specs.declared.cluster_key.ClusterKey.{ClusterKey}
use Rattle.wire_messages.specs.declared.message.Message.TheVariants as message
use Rattle.wire_messages.specs.declared.reply.ReplyBody.{ReplyBody}
use Rattle.journal_lines.specs.declared.refusal.Refusal.{Refusal}
use Rattle.journal_lines.specs.declared.line.Line.{Line}
use Rattle.journal_lines.specs.declared.line.Line.TheVariants as line
use Rattle.journal_readings.specs.Replies.{arrival_at, before_sending, Uptake, Opens, Refuses, uptake_line, cause_of, Ended}

-- at that place call q of the client reaches node n, which takes it up so: the line that says it stands directly
-- behind
pub record CallTakenUp (j : List Line) (i q n : ℕ) (k : ClusterKey) (d : List ℕ) (act : Action)
    (how : Uptake) : Type 0 where
  pub want : Want
  pub wants : action_of want ≡ act
  pub arrives : arrival_at j i
      ≡ Some (record { from = client; to = n; message = message.Call q d want })
  pub taken : slice_get j (suc i) ≡ Some (uptake_line n k d act how)

-- before the node sent that reply to call q it had taken the call up and answered it so: it opened a transaction in
-- the view, which had ended, or it had just refused the call for that cause
pub data IsAnswer (before : List Line) (q n : ℕ) (k : ClusterKey) (d : List ℕ) (act : Action)
    (b : ReplyBody) : Type 0 where
  ends : (place t : ℕ) → CallTakenUp before place q n k d act (Opens t) → Ended before n k t d b
      → IsAnswer before q n k d act b
  refuses : (place : ℕ) (c : Refusal) → CallTakenUp before place q n k d act (Refuses c)
      → length before ≡ suc (suc place) → cause_of b ≡ Some c → IsAnswer before q n k d act b

-- before that place the client had made call q; the line directly before it brings the reply from node n, which had
-- answered the call so, on the record of the call, before it sent the reply
pub record CallReplied (j : List Line) (i q n : ℕ) (b : ReplyBody) : Type 0 where
  pub digest : List ℕ
  pub action : Action
  pub key : ClusterKey
  pub arrival : ℕ
  pub directly : suc arrival ≡ i
  pub brought : arrival_at j arrival
      ≡ Some (record { from = n; to = client; message = message.Reply key q b })
  pub called : ℕ
  pub receiver : ℕ
  pub calls : slice_get (take arrival j) called ≡ Some (line.Call q receiver digest action)
  pub before : List Line
  pub sent : before_sending j arrival ≡ Some before
  pub answered : IsAnswer before q n key digest action b

-- a node in a view opens a call once at most, though it may come again; and what the client takes as the reply is the
-- answer of the node that sent it, and the last one where it is no refusal
pub record CallsAnswer (j : List Line) : Type 0 where
  -- no two calls have one number
  pub named_once : (i o q n m : ℕ) (d e : List ℕ) (act other : Action)
      → slice_get j i ≡ Some (line.Call q n d act)
      → slice_get j o ≡ Some (line.Call q m e other) → i ≡ o
  -- a node opens a call at one place at most of a view
  pub opened_once : (i o q n t u : ℕ) (k : ClusterKey) (d e : List ℕ) (act other : Action)
      → CallTakenUp j i q n k d act (Opens t) → CallTakenUp j o q n k e other (Opens u) → i ≡ o
  -- a reply is that of the node
  pub replied : (i q n : ℕ) (b : ReplyBody) → slice_get j i ≡ Some (line.Reply q n b)
      → CallReplied j i q n b
  -- and none is taken behind one that is no refusal
  pub closed : (i o q n m : ℕ) (b c : ReplyBody) → slice_get j i ≡ Some (line.Reply q n b)
      → cause_of b ≡ None → slice_get j o ≡ Some (line.Reply q m c) → o ≤ i
