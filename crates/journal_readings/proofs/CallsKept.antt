-- Journals in which the client's calls are answered.
use Rattle.std.proofs.Common.{◌≡◌, ℕ, suc, ◌≤◌, Bool, true, false, ◌&&◌, List, [], ◌∷◌, Option, Some, None, refl, sym, ap, subst, ◌∙◌, arith}
use Rattle.std.specs.Prelude.{slice_get, take, option_and_then}
use Rattle.conflict_order.specs.declared.want.Want.TheVariants as want
use Rattle.conflict_order.specs.declared.want.Action.{Action}
use Rattle.conflict_order.specs.declared.want.Action.TheVariants as action
use Rattle.cluster_types.specs.ClusterKeys as keys
use Rattle.cluster_types.specs.declared.cluster_key.ClusterKey.{ClusterKey}
use Rattle.wire_messages.specs.declared.message.Message.{Message}
use Rattle.wire_messages.specs.declared.message.Message.TheVariants as message
use Rattle.wire_messages.specs.declared.reply.ReplyBody.TheVariants as reply
use Rattle.journal_lines.specs.declared.refusal.Refusal.TheVariants as refusal
use Rattle.journal_lines.specs.declared.line.Line.{Line}
use Rattle.journal_lines.specs.declared.line.Line.TheVariants as line
use Rattle.journal_readings.specs.Messages.{Arrival, arrival}
use Rattle.journal_readings.specs.Replies.{arrival_at, Opens, cause_of}
use Rattle.journal_readings.specs.CallClaims.{CallTakenUp, CallReplied, CallsAnswer}
use Rattle.journal_readings.specs.CallClaims.IsAnswer.{ends, refuses}
use Rattle.journal_readings.specs.Examples.{digest, key}
use Rattle.journal_readings.specs.CallExamples.{called_again, called_early}
use Rattle.journal_readings.proofs.AlongLaws.{some_same, no_some}
use Rattle.journal_readings.proofs.Computing.{computing}
use Rattle.journal_readings.proofs.Places.{AllPlaces, at_place, what_is}

-- ---- which line it is

abbrev is_call : Line → Bool
is_call (line.Call q n d act) = true
is_call _ = false

abbrev is_reply : Line → Bool
is_reply (line.Reply q n b) = true
is_reply _ = false

abbrev is_call_message : Message → Bool
is_call_message (message.Call q d w) = true
is_call_message _ = false

abbrev brings_call : Option Arrival → Bool
brings_call None = false
brings_call (Some x) = is_call_message x.message

abbrev opens : Option Line → Bool
opens (Some (line.Opened n k t d a)) = true
opens _ = false

both : (a b : Bool) → a ≡ true → b ≡ true → (a && b) ≡ true
both true b e f = f
both false b e f = e

-- a call is opened at the place
abbrev is_opening : List Line → ℕ → Line → Bool
is_opening j i l = brings_call (arrival (take i j) l) && opens (slice_get j (suc i))

opened_at : (P : ℕ → Type 0) (j : List Line) → AllPlaces (is_opening j) P j → (i q n t : ℕ) (k : ClusterKey) (d : List ℕ) (act : Action) → CallTakenUp j i q n k d act (Opens t) → P i
opened_at P j h i q n t k d act u =
    let l : (l : Line) × (slice_get j i ≡ Some l) = what_is (arrival (take i j)) (slice_get j i) _ u.arrives in
    let brought : brings_call (arrival_at j i) ≡ true = ap brings_call u.arrives in
    at_place (is_opening j) P j h i l.0 l.1 (both _ _ (subst (λ (o : Option Line). brings_call (option_and_then (arrival (take i j)) o) ≡ true) l.1 brought) (ap opens u.taken))

-- ---- what a line is to keep

-- the claim of a reply that comes at that place, of which the last reply is at the other
abbrev KeepsAt : List Line → ℕ → ℕ → Line → Type 0
KeepsAt j closing i (line.Reply q n b) = CallReplied j i q n b × (cause_of b ≡ None → closing ≤ i)
KeepsAt j closing i _ = Unit {0}

-- a journal with one call, at that place, opened at another, and closed by the reply at the third
record KeepsOne (j : List Line) (called opened closing : ℕ) : Type 0 where
  calls : AllPlaces (λ i l. is_call l) (λ i. i ≡ called) j
  opens : AllPlaces (is_opening j) (λ i. i ≡ opened) j
  replies : AllPlaces (λ i l. is_reply l) (λ i. (i ≤ closing) × ((l : Line) → slice_get j i ≡ Some l → KeepsAt j closing i l)) j

up_to : (a b c : ℕ) → a ≤ b → b ≤ c → a ≤ c
up_to a b c e f = omega (arith, e, f)

keeps_all : (j : List Line) (called opened closing : ℕ) → KeepsOne j called opened closing → CallsAnswer j
keeps_all j called opened closing h = record {
  named_once = λ i o q n m d e act other f g. at_place (λ i l. is_call l) _ j h.calls i _ f refl ∙ sym (at_place (λ i l. is_call l) _ j h.calls o _ g refl);
  opened_once = λ i o q n t u k d e act other f g. opened_at _ j h.opens i q n t k d act f ∙ sym (opened_at _ j h.opens o q n u k e other g);
  replied = λ i q n b e. ((at_place (λ i l. is_reply l) _ j h.replies i (line.Reply q n b) e refl).1 (line.Reply q n b) e).0;
  closed = λ i o q n m b c f none g. up_to o closing i
      (at_place (λ i l. is_reply l) _ j h.replies o (line.Reply q m c) g refl).0
      (((at_place (λ i l. is_reply l) _ j h.replies i (line.Reply q n b) f refl).1 (line.Reply q n b) f).1 none);
}

-- ---- a lost reply

answered_again : CallReplied called_again 17 1 1 reply.Done
unfolding computing
answered_again = record {
  digest = digest;
  action = action.Put;
  key = key 1 1;
  arrival = 16;
  directly = refl;
  brought = refl;
  called = 4;
  receiver = 1;
  calls = refl;
  before = take 15 called_again;
  sent = refl;
  answered = ends 6 1 (record { want = want.Put (97 ∷ []); wants = refl; arrives = refl; taken = refl })
      (record { place = 9; end = line.Done 1 (key 1 1) 1; stands = refl; ends = refl });
}

kept_again : KeepsOne called_again 4 6 17
unfolding computing
kept_again = record {
  calls = (refl, tt);
  opens = (refl, tt);
  replies = ((omega arith, λ l e. subst (KeepsAt called_again 17 17) (some_same e) (answered_again, λ none. omega arith)), tt);
}

pub calls_answer : CallsAnswer called_again
calls_answer = keeps_all called_again 4 6 17 kept_again

-- ---- a refusal that comes first

refused_early : CallReplied called_early 7 1 1 reply.NoView
unfolding computing
refused_early = record {
  digest = digest;
  action = action.Put;
  key = keys.none;
  arrival = 6;
  directly = refl;
  brought = refl;
  called = 1;
  receiver = 1;
  calls = refl;
  before = take 5 called_early;
  sent = refl;
  answered = refuses 3 refusal.NoView (record { want = want.Put (97 ∷ []); wants = refl; arrives = refl; taken = refl }) refl refl;
}

answered_then : CallReplied called_early 17 1 1 reply.Done
unfolding computing
answered_then = record {
  digest = digest;
  action = action.Put;
  key = key 1 1;
  arrival = 16;
  directly = refl;
  brought = refl;
  called = 1;
  receiver = 1;
  calls = refl;
  before = take 15 called_early;
  sent = refl;
  answered = ends 11 1 (record { want = want.Put (97 ∷ []); wants = refl; arrives = refl; taken = refl })
      (record { place = 14; end = line.Done 1 (key 1 1) 1; stands = refl; ends = refl });
}

kept_early : KeepsOne called_early 1 11 17
unfolding computing
kept_early = record {
  calls = (refl, tt);
  opens = (refl, tt);
  replies = (
    (omega arith, λ l e. subst (KeepsAt called_early 17 7) (some_same e) (refused_early, λ none. absurd (no_some (sym none)))),
    ((omega arith, λ l e. subst (KeepsAt called_early 17 17) (some_same e) (answered_then, λ none. omega arith)), tt),
  );
}

pub early_calls_answer : CallsAnswer called_early
early_calls_answer = keeps_all called_early 1 11 17 kept_early
