-- Journals in which requests are passed on and answered.
use Rattle.std.proofs.Common.{◌≡◌, ℕ, suc, Bool, true, false, ◌&&◌, List, Option, Some, None, refl, sym, ap, subst, ◌∙◌}
use Rattle.std.specs.Prelude.{slice_get, take, option_and_then}
use Rattle.conflict_order.specs.declared.want.Want.TheVariants as want
use Rattle.conflict_order.specs.declared.want.Action.{Action}
use Rattle.conflict_order.specs.declared.want.Action.TheVariants as action
use Rattle.cluster_types.specs.declared.cluster_key.ClusterKey.{ClusterKey}
use Rattle.wire_messages.specs.declared.message.Message.{Message}
use Rattle.wire_messages.specs.declared.message.Message.TheVariants as message
use Rattle.wire_messages.specs.declared.reply.ReplyBody.TheVariants as reply
use Rattle.journal_lines.specs.declared.refusal.Refusal.TheVariants as refusal
use Rattle.journal_lines.specs.declared.line.Line.{Line}
use Rattle.journal_lines.specs.declared.line.Line.TheVariants as line
use Rattle.journal_readings.specs.Messages.{Arrival, arrival}
use Rattle.journal_readings.specs.Replies.{arrival_at, Uptake, Opens, Refuses, uptake_line}
use Rattle.journal_readings.specs.ProxyClaims.{SendsOn, TakenUp, Replied, ProxiesAnswer}
use Rattle.journal_readings.specs.Examples.{digest, version}
use Rattle.journal_readings.specs.ProxyExamples.{shared, passed_again, refused_on}
use Rattle.journal_readings.proofs.AlongLaws.{some_same}
use Rattle.journal_readings.proofs.Computing.{computing}
use Rattle.journal_readings.proofs.Places.{AllPlaces, at_place, what_is}

-- ---- which line it is

abbrev is_proxy : Line → Bool
is_proxy (line.Proxy n k x d act a) = true
is_proxy _ = false

abbrev is_proxied : Line → Bool
is_proxied (line.Proxied n k x b) = true
is_proxied _ = false

abbrev is_proxy_message : Message → Bool
is_proxy_message (message.Proxy k x d w) = true
is_proxy_message _ = false

abbrev brings_proxy : Option Arrival → Bool
brings_proxy None = false
brings_proxy (Some x) = is_proxy_message x.message

abbrev takes_up : Option Line → Bool
takes_up (Some (line.Opened n k t d a)) = true
takes_up (Some (line.Refused n d c)) = true
takes_up _ = false

takes_up_so : (n : ℕ) (k : ClusterKey) (d : List ℕ) (act : Action) (how : Uptake) → takes_up (Some (uptake_line n k d act how)) ≡ true
takes_up_so n k d act (Opens t) = refl
takes_up_so n k d act (Refuses c) = refl

both : (a b : Bool) → a ≡ true → b ≡ true → (a && b) ≡ true
both true b e f = f
both false b e f = e

-- a request is taken up at the place
abbrev is_uptake : List Line → ℕ → Line → Bool
is_uptake j i l = brings_proxy (arrival (take i j) l) && takes_up (slice_get j (suc i))

taken_at : (P : ℕ → Type 0) (j : List Line) → AllPlaces (is_uptake j) P j → (i n x a : ℕ) (k : ClusterKey) (d : List ℕ) (act : Action) (how : Uptake) → TakenUp j i n x a k d act how → P i
taken_at P j h i n x a k d act how u =
    let l : (l : Line) × (slice_get j i ≡ Some l) = what_is (arrival (take i j)) (slice_get j i) _ u.arrives in
    let brought : brings_proxy (arrival_at j i) ≡ true = ap brings_proxy u.arrives in
    at_place (is_uptake j) P j h i l.0 l.1 (both _ _ (subst (λ (o : Option Line). brings_proxy (option_and_then (arrival (take i j)) o) ≡ true) l.1 brought) (ap takes_up u.taken ∙ takes_up_so a k d act how))

-- ---- what a line is to keep

-- the claims of a line of a request that is passed on, and of a reply
abbrev KeepsAt : List Line → ℕ → Line → Type 0
KeepsAt j i (line.Proxy n k x d act a) = SendsOn j (suc i) n x a k d act
KeepsAt j i (line.Proxied n k x b) = Replied j i n x k b
KeepsAt j i _ = Unit {0}

-- a journal with one request that is passed on, at that place, taken up at another, and replied to at a third
record KeepsOne (j : List Line) (passed taken replied : ℕ) : Type 0 where
  passes : AllPlaces (λ i l. is_proxy l) (λ i. (i ≡ passed) × ((l : Line) → slice_get j i ≡ Some l → KeepsAt j i l)) j
  takes : AllPlaces (is_uptake j) (λ i. i ≡ taken) j
  replies : AllPlaces (λ i l. is_proxied l) (λ i. (i ≡ replied) × ((l : Line) → slice_get j i ≡ Some l → KeepsAt j i l)) j

keeps_all : (j : List Line) (passed taken replied : ℕ) → KeepsOne j passed taken replied → ProxiesAnswer j
keeps_all j passed taken replied h = record {
  sent = λ i n x a k d act e. (at_place (λ i l. is_proxy l) _ j h.passes i (line.Proxy n k x d act a) e refl).1 (line.Proxy n k x d act a) e;
  named_once = λ i o n x a b k d e act other f g. (at_place (λ i l. is_proxy l) _ j h.passes i _ f refl).0 ∙ sym (at_place (λ i l. is_proxy l) _ j h.passes o _ g refl).0;
  taken_once = λ i o n x a k d e act other how again f g. taken_at _ j h.takes i n x a k d act how f ∙ sym (taken_at _ j h.takes o n x a k e other again g);
  replied = λ i n x k b e. (at_place (λ i l. is_proxied l) _ j h.replies i (line.Proxied n k x b) e refl).1 (line.Proxied n k x b) e;
  replied_once = λ i o n x k b c f g. (at_place (λ i l. is_proxied l) _ j h.replies i _ f refl).0 ∙ sym (at_place (λ i l. is_proxied l) _ j h.replies o _ g refl).0;
}

-- ---- a lost reply

answered_again : Replied passed_again 28 1 1 shared (reply.Found (version 0 1 97))
unfolding computing
answered_again = record {
  acting = 2;
  digest = digest;
  action = action.Get;
  arrival = 27;
  directly = refl;
  brought = refl;
  passed = 17;
  passes = refl;
  place = 19;
  how = Opens 2;
  taken = record { want = want.Get; wants = refl; arrives = refl; taken = refl; told = tt };
  viewed = refl;
  answered = record { place = 21; end = line.Value 2 shared 2 digest (Some (version 0 1 97)); stands = refl; ends = refl };
}

sent_again : SendsOn passed_again 18 1 1 2 shared digest action.Get
unfolding computing
sent_again = record { want = want.Get; wants = refl; sent = refl }

kept_again : KeepsOne passed_again 17 19 28
unfolding computing
kept_again = record {
  passes = ((refl, λ l e. subst (KeepsAt passed_again 17) (some_same e) sent_again), tt);
  takes = (refl, tt);
  replies = ((refl, λ l e. subst (KeepsAt passed_again 28) (some_same e) answered_again), tt);
}

pub proxies_answer : ProxiesAnswer passed_again
proxies_answer = keeps_all passed_again 17 19 28 kept_again

-- ---- a refusal

answered_busy : Replied refused_on 18 1 1 shared (reply.Busy 1)
unfolding computing
answered_busy = record {
  acting = 2;
  digest = digest;
  action = action.Get;
  arrival = 17;
  directly = refl;
  brought = refl;
  passed = 12;
  passes = refl;
  place = 14;
  how = Refuses (refusal.Busy 1);
  taken = record { want = want.Get; wants = refl; arrives = refl; taken = refl; told = record { body = reply.Busy 1; told = refl; why = refl } };
  viewed = refl;
  answered = refl;
}

sent_busy : SendsOn refused_on 13 1 1 2 shared digest action.Get
unfolding computing
sent_busy = record { want = want.Get; wants = refl; sent = refl }

kept_busy : KeepsOne refused_on 12 14 18
unfolding computing
kept_busy = record {
  passes = ((refl, λ l e. subst (KeepsAt refused_on 12) (some_same e) sent_busy), tt);
  takes = (refl, tt);
  replies = ((refl, λ l e. subst (KeepsAt refused_on 18) (some_same e) answered_busy), tt);
}

pub proxies_refuse : ProxiesAnswer refused_on
proxies_refuse = keeps_all refused_on 12 14 18 kept_busy
