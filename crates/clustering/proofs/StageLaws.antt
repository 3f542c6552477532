-- What the stages keep, over plain values.
use Rattle.std.proofs.Common.{◌≡◌, ℕ, ◌==◌, ◌&&◌, ◌||◌, not, Bool, true, false, List, [], ◌∷◌, map, Option, Some, None, refl, sym, ap, ◌∙◌}
use Rattle.std.specs.Prelude.{◌↔◌, IsTrue, Contains}
use Rattle.std.specs.List.{list_any}
use Rattle.std.proofs.lemmas.List.Elements.{All-filter}
use Rattle.cluster_types.specs.declared.cluster_key.ClusterKey.{ClusterKey}
use Rattle.cluster_types.specs.declared.member.Member.{Member}
use Rattle.cluster_types.specs.Distinct.{without}
use Rattle.cluster_types.specs.Members.{ids_of}
use Rattle.partition_lists.proofs.ListLaws.{any_is_contained}
use Rattle.node_rules.specs.Agreement as rules
use Rattle.node_rules.specs.Agreement.{Agreement, agreement_entered, has_round, next_key, others_among, proposing_to, ticking}
use Rattle.node_rules.specs.Copies.{is_nil}
use Rattle.node_rules.specs.Exchange.{is_member}
use Rattle.clustering.specs.declared.stage.Keys.{Keys}
use Rattle.clustering.specs.declared.stage.Proposing.{Proposing}
use Rattle.clustering.specs.Answers.{entered_or_sent, tick_answer}
use Rattle.clustering.specs.Parts.{agreeing_with, agreeing_if_alone, answer_if_alone}
use Rattle.clustering.specs.Stages.{IsProposing, agreement_with}

-- a proposal stays one where another round was seen
pub proposing_seen : (s : Proposing) (n : ℕ) → IsProposing s → IsProposing (record s { keys = record s.keys { seen = n } })
proposing_seen s n h = record {
  promised = record { keys = h.promised.keys; above = h.promised.above };
  led = h.led;
  member = h.member;
  waits = h.waits;
}

-- a proposal stays one where a member accepted it
pub proposing_accepted : (s : Proposing) (from : ℕ) → IsProposing s → IsProposing (record s { missing = without s.missing from })
proposing_accepted s from h = record {
  promised = h.promised;
  led = h.led;
  member = h.member;
  waits = All-filter (λ n. not (n == from)) (λ n. Contains (others_among s.keys.me s.members) n) s.missing h.waits;
}

-- what a new proposal makes of the agreement, whoever is left to accept it
alone_or_not : (k : Keys) (key : ClusterKey) (set : List Member) (to : List ℕ)
    → agreeing_with k (proposing_to k.me (agreement_with k None) key set to) ≡ agreeing_if_alone (record k { promised = key }) set to
alone_or_not k key set [] = refl
alone_or_not k key set (n ∷ ns) = refl

-- a candidate without a proposal proposes anew, where there is a round
pub ticking_anew : (k : Keys) (set : List Member) → has_round (agreement_with k None) ≡ true
    → agreeing_with k (ticking k.me (agreement_with k None) set true) ≡ agreeing_if_alone (record k { promised = next_key k.me (agreement_with k None) }) set (others_among k.me set)
ticking_anew k set h = rw h (alone_or_not k (next_key k.me (agreement_with k None)) set (others_among k.me set))

answer_alone_or_not : (k : Keys) (key : ClusterKey) (set : List Member) (to : List ℕ)
    → entered_or_sent (is_nil to) key set (proposing_to k.me (agreement_with k None) key set to).proposal ≡ entered_or_sent (is_nil to) key set (Some (rules.proposal_of k.me key set))
answer_alone_or_not k key set [] = refl
answer_alone_or_not k key set (n ∷ ns) = refl

pub answer_anew : (k : Keys) (set : List Member) → has_round (agreement_with k None) ≡ true
    → tick_answer k.me (agreement_with k None) set true ≡ answer_if_alone (record k { promised = next_key k.me (agreement_with k None) }) set (others_among k.me set)
answer_anew k set h = rw h (answer_alone_or_not k (next_key k.me (agreement_with k None)) set (others_among k.me set))

-- whether a node is a member goes by the ids
member_by_id : (ms : List Member) (n : ℕ) → list_any (λ m. m == n) (ids_of ms) ≡ is_member ms n
member_by_id [] n = refl
member_by_id (m ∷ ms) n = ap (λ b. (m.id == n) || b) (member_by_id ms n)

same_test : (a b : Bool) → (IsTrue a → IsTrue b) → (IsTrue b → IsTrue a) → a ≡ b
same_test true true h i = refl
same_test true false h i = sym (h refl)
same_test false true h i = i refl
same_test false false h i = refl

pub is_member_by : (ms : List Member) (n : ℕ) (b : Bool) → (IsTrue b ↔ Contains (ids_of ms) n) → b ≡ is_member ms n
is_member_by ms n b h =
    same_test b (list_any (λ m. m == n) (ids_of ms)) (λ i. (any_is_contained n (ids_of ms)).1 (h.0 i)) (λ i. h.1 ((any_is_contained n (ids_of ms)).0 i))
    ∙ member_by_id ms n
