-- Journals in which a call of the client went wrong.
use Rattle.std.proofs.Common.{◌≡◌, ℕ, suc, ◌==◌, Bool, true, false, List, [], ◌∷◌, Option, Some, None, refl, sym, ap, subst, arith}
use Rattle.std.specs.Prelude.{take}
use Rattle.conflict_order.specs.declared.want.Want.TheVariants as want
use Rattle.conflict_order.specs.declared.want.Action.{Action}
use Rattle.conflict_order.specs.declared.want.Action.TheVariants as action
use Rattle.cluster_types.specs.declared.cluster_key.ClusterKey.{ClusterKey}
use Rattle.wire_messages.specs.declared.message.Message.{Message}
use Rattle.wire_messages.specs.declared.message.Message.TheVariants as message
use Rattle.wire_messages.specs.declared.reply.ReplyBody.TheVariants as reply
use Rattle.journal_lines.specs.declared.refusal.Refusal.{Refusal}
use Rattle.journal_lines.specs.declared.refusal.Refusal.TheVariants as refusal
use Rattle.journal_lines.specs.declared.line.Line.{Line}
use Rattle.journal_lines.specs.declared.line.Line.TheVariants as line
use Rattle.journal_readings.specs.Messages.{Arrival}
use Rattle.journal_readings.specs.Replies.{before_sending, arrival_at}
use Rattle.journal_readings.specs.CallClaims.{CallReplied, CallsAnswer, IsAnswer}
use Rattle.journal_readings.specs.CallClaims.IsAnswer.{ends, refuses}
use Rattle.journal_readings.specs.Examples.{digest, key}
use Rattle.journal_readings.specs.CallExamples.{called_twice, written_twice, uncalled, answered_early, misheard, misexplained, heard_twice}
use Rattle.journal_readings.proofs.AlongLaws.{some_same, no_some}
use Rattle.journal_readings.proofs.Computing.{computing}
use Rattle.journal_readings.proofs.Places.{none_in_front}

differ : false ≡ true → ⊥
differ e = cc

-- lines 5 and 8 have one number
pub called_twice_refused : ¬ (CallsAnswer called_twice)
unfolding computing
called_twice_refused h = differ (ap (λ (n : ℕ). n == 7) (h.named_once 4 7 1 1 1 digest digest action.Put action.Put refl refl))

-- lines 8 and 13 open one call
pub written_twice_refused : ¬ (CallsAnswer written_twice)
unfolding computing
written_twice_refused h =
    omega (
      arith,
      h.opened_once 6 11 1 1 1 2 (key 1 1) digest digest action.Put action.Put
          (record { want = want.Put (97 ∷ []); wants = refl; arrives = refl; taken = refl })
          (record { want = want.Put (97 ∷ []); wants = refl; arrives = refl; taken = refl }),
    )

abbrev is_call : Line → Bool
is_call (line.Call q n d act) = true
is_call _ = false

-- the client made no call
pub uncalled_refused : ¬ (CallsAnswer uncalled)
unfolding computing
uncalled_refused h =
    let x : CallReplied uncalled 11 1 1 reply.Done = h.replied 11 1 1 reply.Done refl in
    none_in_front is_call uncalled refl x.arrival x.called (line.Call 1 x.receiver x.digest x.action) x.calls refl

-- ---- replies

-- the place before another one
before_it : (n m : ℕ) → suc n ≡ suc m → n ≡ m
before_it n m e = omega (arith, e)

-- whether the line ends a transaction as done
abbrev is_done : Line → Bool
is_done (line.Done n k t) = true
is_done _ = false

abbrev some_is_done : Option Line → Bool
some_is_done None = false
some_is_done (Some l) = is_done l

-- as the node replied nothing was done
pub answered_early_refused : ¬ (CallsAnswer answered_early)
unfolding computing
answered_early_refused h =
    let x : CallReplied answered_early 11 1 1 reply.Done = h.replied 11 1 1 reply.Done refl in
    let same : x.arrival ≡ 10 = before_it x.arrival 10 x.directly in
    let sent : Some (take 8 answered_early) ≡ Some x.before = subst (λ (i : ℕ). before_sending answered_early i ≡ Some x.before) same x.sent in
    go x.key x.digest x.action (subst (λ (ls : List Line). IsAnswer ls 1 1 x.key x.digest x.action reply.Done) (sym (some_same sent)) x.answered)
  where
    go : (k : ClusterKey) (d : List ℕ) (act : Action) → IsAnswer (take 8 answered_early) 1 1 k d act reply.Done → ⊥
    go k d act (ends place t u e) = none_in_front is_done (take 8 answered_early) refl 8 e.place e.end e.stands (sym (ap some_is_done e.ends))
    go k d act (refuses place c u e f) = no_some f

-- whether the message tells that something was done
abbrev tells_done : Option Arrival → Bool
tells_done None = false
tells_done (Some x) = in_message x.message
  where
    in_message : Message → Bool
    in_message (message.Reply k q reply.Done) = true
    in_message _ = false

-- what comes tells that it is done
pub misheard_refused : ¬ (CallsAnswer misheard)
unfolding computing
misheard_refused h =
    let x : CallReplied misheard 12 1 1 reply.Nothing = h.replied 12 1 1 reply.Nothing refl in
    let same : x.arrival ≡ 11 = before_it x.arrival 11 x.directly in
    differ (sym (subst (λ (i : ℕ). tells_done (arrival_at misheard i) ≡ false) same (ap tells_done x.brought)))

-- whether the line refuses since there is no view
abbrev is_no_view : Refusal → Bool
is_no_view refusal.NoView = true
is_no_view _ = false

abbrev refuses_without_view : Line → Bool
refuses_without_view (line.Refused n d c) = is_no_view c
refuses_without_view _ = false

-- nothing was refused for want of a view
pub misexplained_refused : ¬ (CallsAnswer misexplained)
unfolding computing
misexplained_refused h =
    let x : CallReplied misexplained 7 1 1 reply.NoView = h.replied 7 1 1 reply.NoView refl in
    let same : x.arrival ≡ 6 = before_it x.arrival 6 x.directly in
    let sent : Some (take 5 misexplained) ≡ Some x.before = subst (λ (i : ℕ). before_sending misexplained i ≡ Some x.before) same x.sent in
    go x.key x.digest x.action (subst (λ (ls : List Line). IsAnswer ls 1 1 x.key x.digest x.action reply.NoView) (sym (some_same sent)) x.answered)
  where
    go : (k : ClusterKey) (d : List ℕ) (act : Action) → IsAnswer (take 5 misexplained) 1 1 k d act reply.NoView → ⊥
    go k d act (ends place t u e) = no_some e.ends
    go k d act (refuses place c u e f) = none_in_front refuses_without_view (take 5 misexplained) refl 5 (suc place) (line.Refused 1 d c) u.taken (sym (ap is_no_view (some_same f)))

-- line 17 takes a reply behind line 13
pub heard_twice_refused : ¬ (CallsAnswer heard_twice)
unfolding computing
heard_twice_refused h = omega (arith, h.closed 12 16 1 1 1 reply.Done reply.Done refl refl refl)
