-- What handlers of messages plan and tell.
use Rattle.std.proofs.Common.{◌≡◌, ℕ, Bool, true, false, not, List, [], ◌∷◌, Option, Some, None, is_some, inl, inr, refl, sym, ap, ◌∙◌, arith}
use Rattle.std.proofs.lemmas.Bool.Decides.{nat_tests}
use Rattle.std.specs.Prelude.{IsSome, if◌then◌else◌}
use Rattle.cluster_types.specs.declared.cluster_key.ClusterKey.{ClusterKey}
use Rattle.cluster_types.specs.declared.member.Member.{Member}
use Rattle.cluster_types.specs.ClusterKeys.{key_lt, none}
use Rattle.journal_lines.specs.declared.line.Line.TheVariants as line
use Rattle.wire_messages.specs.Keys.{IsKeyField, IsKeyOrNone}
use Rattle.wire_messages.specs.Proper.{IsProper}
use Rattle.wire_messages.specs.Spelling.{spelling}
use Rattle.clustering.specs.Answers.{accept_if, commit_if, refuse_if, vote_if, vote_of}
use Rattle.clustering.specs.declared.steps.AcceptStep.TheVariants as accept
use Rattle.clustering.specs.declared.steps.CommitStep.TheVariants as commit
use Rattle.clustering.specs.declared.steps.RefuseStep.TheVariants as refuse
use Rattle.node_rules.specs.Agreement.{Agreement, voting, promising}
use Rattle.node_rules.specs.Effects.{lines_only, lines_and_sends, sends_only, to_one}
use Rattle.node_rules.specs.Exchange as exchange
use Rattle.node_rules.specs.Exchange.{View}
use Rattle.node_rules.specs.Facts.{Facts}
use Rattle.node_rules.specs.Keys.{same_key}
use Rattle.node_rules.specs.Messages as due
use Rattle.node_rules.specs.Notes.{in_view}
use Rattle.node_rules.specs.Steps.{Planning, unplanned}
use Rattle.node_rules.specs.Tables.{only_if}
use Rattle.node_view.specs.Views.{IsInView, Viewed, viewed_key}
use Rattle.node_steps.specs.declared.effects.Effects.{Effects}
use Rattle.node_steps.specs.Spelled.{vote_message, spelled, with_sends}
use Rattle.cluster_types.specs.ClusterKeys as keys
use Rattle.wire_messages.specs.declared.message.Message.TheVariants as message

-- a message is of the view that has its key
pub in_view_is : (f : Facts) (v : Viewed) (key : ClusterKey) → IsInView f v → is_some f.exchange.view ≡ true → in_view f key ≡ same_key (viewed_key v) key
in_view_is f v key h there =
    go f.exchange.view there
    ∙ ap (λ (g : Facts). same_key (exchange.exchange_key g.exchange.view) key) (sym h.view)
  where
    go : (o : Option View) → is_some o ≡ true → exchange.is_view o key ≡ same_key (exchange.exchange_key o) key
    go None no_way = cc
    go (Some w) some = refl

-- a message of the view finds the node in one
pub in_one : (f : Facts) (key : ClusterKey) → in_view f key ≡ true → IsSome f.exchange.view
in_one f key h = go f.exchange.view h
  where
    go : (o : Option View) → exchange.is_view o key ≡ true → IsSome o
    go None no_way = cc
    go (Some v) is = refl

-- where nothing was planned, that is all that is known
pub still : (p : Planning) → p.next ≡ None → p ≡ unplanned p.now
still p h = ap (λ (o : Option Facts). record { now = p.now; next = o }) h

-- ---- votes

never_both : (a b : ClusterKey) → key_lt a b ≡ true → key_lt b a ≡ false
never_both a b h = grind (arith, nat_tests)

never_same : (a b : ClusterKey) → key_lt b a ≡ true → same_key a b ≡ false
never_same a b h = grind (arith, nat_tests)

same_itself : (a : ClusterKey) → same_key a a ≡ true
same_itself a = grind (arith, nat_tests)

-- a vote is told with the line of a promise, where the key is another one
pub told_vote : (f : Facts) (from : ℕ) (key : ClusterKey)
    → with_sends (spelled (lines_only (only_if (line.Promise f.me (voting f.agreement key).promised) (not (same_key (voting f.agreement key).promised f.agreement.promised)))))
    ((from, spelling (vote_message (vote_of f.agreement key))) ∷ [])
    ≡ spelled (due.due_propose f from key)
told_vote f from key = go (key_lt f.agreement.promised key) (key_lt key f.agreement.promised) refl refl
  where
    told : Agreement → Bool → Effects
    told a refused = with_sends (spelled (lines_only (only_if (line.Promise f.me a.promised) (not (same_key a.promised f.agreement.promised)))))
        ((from, spelling (vote_message (vote_if refused key f.agreement.promised))) ∷ [])

    go : (above below : Bool) → key_lt f.agreement.promised key ≡ above → key_lt key f.agreement.promised ≡ below
        → told (if above then promising f.agreement key else f.agreement) below ≡ spelled
        (if below then sends_only (to_one from (message.Refuse key f.agreement.promised)) else lines_and_sends (only_if (line.Promise f.me key) (keys.key_lt f.agreement.promised key)) (to_one from (message.Accept key)))
    go true true is_above is_below = let wrong : true ≡ false = sym is_below ∙ never_both f.agreement.promised key is_above in cc
    go true false is_above is_below = rw (is_above, never_same key f.agreement.promised is_above) refl
    go false true is_above is_below = rw (same_itself f.agreement.promised) refl
    go false false is_above is_below = rw (is_above, same_itself f.agreement.promised) refl

-- where a key is above another one, it is a key
some_key : (a b : ClusterKey) → key_lt b a ≡ true → IsKeyOrNone a → IsKeyField a
some_key a b h (inl same) = let wrong : true ≡ false = sym h ∙ rw same (none_least b) in cc
  where
    none_least : (c : ClusterKey) → key_lt c none ≡ false
    none_least c = grind (arith, nat_tests)
some_key a b h (inr k) = k

-- a vote has a spelling
pub vote_proper : (a : Agreement) (key : ClusterKey) → IsKeyField key → IsKeyOrNone a.promised → IsProper (vote_message (vote_of a key))
vote_proper a key k promised = go (key_lt key a.promised) refl
  where
    go : (b : Bool) → key_lt key a.promised ≡ b → IsProper (vote_message (vote_if b key a.promised))
    go true is = (k, some_key a.promised key is promised)
    go false is = k

-- ---- refusals

pub is_stopped : (b : Bool) → refuse_if b ≡ refuse.Stopped → b ≡ true
is_stopped true e = refl
is_stopped false e = cc

pub is_stale : (b : Bool) → refuse_if b ≡ refuse.Stale → b ≡ false
is_stale true e = cc
is_stale false e = refl

-- ---- acceptances

pub accept_stale : (b accepted : Bool) (key : ClusterKey) (ms : List Member) → accept_if b accepted key ms ≡ accept.Stale → b ≡ false
accept_stale false accepted key ms e = refl
accept_stale true false key ms e = cc
accept_stale true true key ms e = cc

pub accept_waits : (b accepted : Bool) (key : ClusterKey) (ms : List Member) → accept_if b accepted key ms ≡ accept.Waiting → (b ≡ true) × (accepted ≡ false)
accept_waits false accepted key ms e = cc
accept_waits true false key ms e = (refl, refl)
accept_waits true true key ms e = cc

-- all have accepted, and the view is the one that was proposed
pub record IsLastAccept (b accepted : Bool) (key : ClusterKey) (ms : List Member) (k : ClusterKey) (ns : List Member) : Type 0 where
  pub proposed : b ≡ true
  pub last : accepted ≡ true
  pub key_of : k ≡ key
  pub members : ns ≡ ms

pub accept_enters : (b accepted : Bool) (key : ClusterKey) (ms : List Member) (k : ClusterKey) (ns : List Member) → accept_if b accepted key ms ≡ accept.Enter k ns → IsLastAccept b accepted key ms k ns
accept_enters false accepted key ms k ns e = cc
accept_enters true false key ms k ns e = cc
accept_enters true true key ms k ns e = record { proposed = refl; last = refl; key_of = cc; members = cc }

-- ---- commits

pub commit_stale : (b : Bool) (key : ClusterKey) (ms : List Member) → commit_if b key ms ≡ commit.Stale → b ≡ false
commit_stale false key ms e = refl
commit_stale true key ms e = cc

pub record IsCommit (b : Bool) (key : ClusterKey) (ms : List Member) (k : ClusterKey) (ns : List Member) : Type 0 where
  pub may : b ≡ true
  pub key_of : k ≡ key
  pub members : ns ≡ ms

pub commit_enters : (b : Bool) (key : ClusterKey) (ms : List Member) (k : ClusterKey) (ns : List Member) → commit_if b key ms ≡ commit.Enter k ns → IsCommit b key ms k ns
commit_enters false key ms k ns e = cc
commit_enters true key ms k ns e = record { may = refl; key_of = cc; members = cc }
