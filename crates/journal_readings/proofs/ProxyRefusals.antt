-- Journals in which a request that was passed on went wrong.
use Rattle.std.proofs.Common.{◌≡◌, ℕ, suc, ◌==◌, Bool, true, false, List, Option, Some, None, refl, sym, ap}
use Rattle.std.specs.Prelude.{take, slice_index}
use Rattle.conflict_order.specs.declared.version.Body.{Body}
use Rattle.conflict_order.specs.declared.version.Body.TheVariants as body
use Rattle.conflict_order.specs.declared.want.Want.{Want}
use Rattle.conflict_order.specs.declared.want.Want.TheVariants as want
use Rattle.conflict_order.specs.declared.want.Action.{Action}
use Rattle.conflict_order.specs.declared.want.Action.TheVariants as action
use Rattle.conflict_order.specs.Action.{action_of}
use Rattle.wire_messages.specs.declared.message.Message.{Message}
use Rattle.wire_messages.specs.declared.message.Message.TheVariants as message
use Rattle.wire_messages.specs.declared.reply.ReplyBody.TheVariants as reply
use Rattle.journal_lines.specs.declared.refusal.Refusal.{Refusal}
use Rattle.journal_lines.specs.declared.refusal.Refusal.TheVariants as refusal
use Rattle.journal_lines.specs.declared.line.Line.{Line}
use Rattle.journal_lines.specs.declared.line.Line.TheVariants as line
use Rattle.journal_readings.specs.Replies.{Uptake, Opens, Refuses, Answers}
use Rattle.journal_readings.specs.ProxyClaims.{SendsOn, TakenUp, Replied, ProxiesAnswer}
use Rattle.journal_readings.specs.Examples.{digest, version}
use Rattle.journal_readings.specs.ProxyExamples.{shared, mistaken, renumbered, opened_again, misquoted, misrefused, unasked, taken_twice, written_value}
use Rattle.journal_readings.proofs.AlongLaws.{some_same, no_some}
use Rattle.journal_readings.proofs.Computing.{computing}
use Rattle.journal_readings.proofs.Places.{none_in_front}

differ : false ≡ true → ⊥
differ e = cc

abbrev deletes : Want → Bool
deletes want.Del = true
deletes _ = false

-- whether the message is of a request to delete
abbrev is_deletion : Option Message → Bool
is_deletion (Some (message.Proxy k x d w)) = deletes w
is_deletion _ = false

-- whether it is to read
abbrev is_get : Action → Bool
is_get action.Get = true
is_get _ = false

-- line 19 deletes what line 18 reads
pub mistaken_refused : ¬ (ProxiesAnswer mistaken)
unfolding computing
mistaken_refused h =
    let x : SendsOn mistaken 18 1 1 2 shared digest action.Get = h.sent 17 1 1 2 shared digest action.Get refl in
    go x.want x.wants (sym (ap is_deletion x.sent))
  where
    go : (w : Want) → action_of w ≡ action.Get → deletes w ≡ true → ⊥
    go want.Get e f = cc
    go (want.Put v) e f = cc
    go want.Del e f = differ (ap is_get e)

-- lines 18 and 37 have one number
pub renumbered_refused : ¬ (ProxiesAnswer renumbered)
unfolding computing
renumbered_refused h = differ (ap (λ (n : ℕ). n == 36) (h.named_once 17 36 1 1 2 2 shared digest digest action.Get action.Get refl refl))

-- lines 21 and 26 open one request
pub opened_again_refused : ¬ (ProxiesAnswer opened_again)
unfolding computing
opened_again_refused h =
    differ (ap (λ (n : ℕ). n == 24)
    (h.taken_once 19 24 1 1 2 shared digest digest action.Get action.Get (Opens 2) (Opens 3)
    (record { want = want.Get; wants = refl; arrives = refl; taken = refl; told = tt })
    (record { want = want.Get; wants = refl; arrives = refl; taken = refl; told = tt })))

-- ---- replies

-- the value begins with the letter b
abbrev begins_with_b : Body → Bool
begins_with_b body.Tombstone = false
begins_with_b (body.Value bytes) = slice_index bytes 0 == 98

-- whether the line reads such a value
abbrev reads_b : Line → Bool
reads_b (line.Value n k t d (Some v)) = begins_with_b v.body
reads_b _ = false

abbrev some_reads_b : Option Line → Bool
some_reads_b None = false
some_reads_b (Some l) = reads_b l

-- nothing reads what the reply says
pub misquoted_refused : ¬ (ProxiesAnswer misquoted)
unfolding computing
misquoted_refused h =
    let x : Replied misquoted 24 1 1 shared (reply.Found (version 0 1 98)) = h.replied 24 1 1 shared (reply.Found (version 0 1 98)) refl in
    go x.arrival x.acting x.digest x.how x.answered
  where
    go : (n acting : ℕ) (d : List ℕ) (how : Uptake) → Answers (take n misquoted) acting shared d how (reply.Found (version 0 1 98)) → ⊥
    go n acting d (Opens t) e = none_in_front reads_b misquoted refl n e.place e.end e.stands (sym (ap some_reads_b e.ends))
    go n acting d (Refuses c) e = no_some e

-- whether the line refuses since transaction 2 is open
abbrev is_two : Refusal → Bool
is_two (refusal.Busy t) = t == 2
is_two _ = false

abbrev refuses_for_two : Line → Bool
refuses_for_two (line.Refused n d c) = is_two c
refuses_for_two _ = false

-- nothing is refused for the cause that the reply says
pub misrefused_refused : ¬ (ProxiesAnswer misrefused)
unfolding computing
misrefused_refused h =
    let x : Replied misrefused 18 1 1 shared (reply.Busy 2) = h.replied 18 1 1 shared (reply.Busy 2) refl in
    go x.arrival x.place x.acting x.digest x.action x.how x.taken x.answered
  where
    go : (n place acting : ℕ) (d : List ℕ) (act : Action) (how : Uptake) → TakenUp (take n misrefused) place 1 1 acting shared d act how → Answers (take n misrefused) acting shared d how (reply.Busy 2) → ⊥
    go n place acting d act (Opens t) u e = no_some e.ends
    go n place acting d act (Refuses c) u e = none_in_front refuses_for_two misrefused refl n (suc place) (line.Refused acting d c) u.taken (sym (ap is_two (some_same e)))

abbrev is_proxy : Line → Bool
is_proxy (line.Proxy n k x d act a) = true
is_proxy _ = false

-- nobody passed the request on
pub unasked_refused : ¬ (ProxiesAnswer unasked)
unfolding computing
unasked_refused h =
    let x : Replied unasked 19 1 1 shared reply.Done = h.replied 19 1 1 shared reply.Done refl in
    none_in_front is_proxy unasked refl x.arrival x.passed (line.Proxy 1 shared 1 x.digest x.action x.acting) x.passes refl

-- lines 29 and 32 take one reply
pub taken_twice_refused : ¬ (ProxiesAnswer taken_twice)
unfolding computing
taken_twice_refused h = differ (ap (λ (n : ℕ). n == 31) (h.replied_once 28 31 1 1 shared written_value written_value refl refl))
