use Rattle.std.proofs.Common.{◌≡◌, ◌==◌, ◌<◌, ◌≤◌, ◌-◌, ◌++◌, ℕ, Bool, true, false, List, [], ◌∷◌, Vec, Global, length, take, nat_eq, sym, ap, subst, ◌∙◌, arith}
use Rattle.std.specs.Prelude.{IfSome, ◌^◌}
use Rattle.cluster_types.specs.declared.member.Member.{Member}
use Rattle.cluster_types.specs.Members.{AreMembers}
use Rattle.cluster_types.specs.Partitions.{partition_of}
use Rattle.node_rules.specs.Agreement.{others_among}
use Rattle.node_rules.specs.Batches.{Target, Targets, target, targets_of}
use Rattle.emigrate.specs.declared.outgoing.Outgoing.{Outgoing}
use Rattle.emigrate.specs.Going.{AreApart, AreCounts, AreHeld}
use Rattle.emigrate.proofs.CollectLaws.{pending_held, unsent}
use Rattle.emigrate.proofs.TargetLaws.{all_members, counts_snoc, is_false, is_true, no_counts, targets_apart, targets_push, targets_skip}
use Rattle.emigrate.proofs.emigration.Emigration.begin.Goals.{then-ne+in_ok-outgoing+in_ok-push, else-ne}
use Rattle.emigrate.proofs.emigration.Emigration.begin.Goals as goal

pub loop-member-init : goal.loop-member-init
loop-member-init g c = record {
  targets = c.in_ok-targets.ensures.items;
  counts = subst (λ (ts : Targets). AreCounts ts c.in_ok-pending.pending) (sym c.in_ok-targets.ensures.items) (no_counts c.in_ok-pending.pending c.in_ok-pending.ensures);
}

pub loop-member-preserved : goal.loop-member-preserved
loop-member-preserved g c =
    let is_for : ℕ → List ℕ → Bool = λ to d. g.X.MapView.sends_to c.args.x.now (partition_of d) c.args.me to in
    let versions = c.args.store.now.versions in
    let items = c.as_slice-member-items.result.now in
    let i = c.loop-member.member-index in
    let member = c.member-item.result in
    let before = targets_of is_for versions (others_among c.args.me (take i items)) in
    let old = c.loop-member.targets.items in
    elim c.if-ne.branch [
      | then-ne+in_ok-outgoing+in_ok-push w ↦
          let other : (member.id == c.args.me) ≡ false = is_true (member.id == c.args.me) (sym c.ne.ensures ∙ w.if-ne.true) in
          let outgoing : Target = w.in_ok-outgoing.outgoing in
          let grown : c.if-ne.targets.items ≡ old ++ outgoing ∷ [] = ap (λ (v : Vec Outgoing Global). v.items) w.targets-is ∙ w.in_ok-push.ensures.items in
          record {
            targets =
                grown
                ∙ ap (λ (ts : Targets). ts ++ outgoing ∷ []) c.loop-member.invariant.targets
                ∙ ap (λ (t : Target). before ++ t ∷ []) w.in_ok-outgoing.ensures.target
                ∙ sym (targets_push is_for versions items i member c.args.me c.loop-member-test.true c.member-item.is other);
            counts =
                subst (λ (ts : Targets). AreCounts ts c.if-ne.pending) (sym grown)
                (subst (λ (ns : List ℕ). AreCounts (old ++ outgoing ∷ []) ns) (sym w.pending-is)
                (counts_snoc old outgoing c.loop-member.pending w.outgoing_to.new.counts c.loop-member.invariant.counts w.in_ok-outgoing.ensures.counts));
          }
      | else-ne w ↦
          let itself : (member.id == c.args.me) ≡ true = is_false (member.id == c.args.me) (sym c.ne.ensures ∙ w.if-ne.false) in
          let same : c.if-ne.targets.items ≡ old = ap (λ (v : Vec Outgoing Global). v.items) w.targets-is in
          record {
            targets = same ∙ c.loop-member.invariant.targets ∙ sym (targets_skip is_for versions items i member c.args.me c.loop-member-test.true c.member-item.is itself);
            counts =
                subst (λ (ts : Targets). AreCounts ts c.if-ne.pending) (sym same)
                (subst (λ (ns : List ℕ). AreCounts old ns) (sym w.pending-is) c.loop-member.invariant.counts);
          }
    ]

pub invariant_of-result : goal.invariant_of-result
invariant_of-result g c =
    let is_for : ℕ → List ℕ → Bool = λ to d. g.X.MapView.sends_to c.args.x.now (partition_of d) c.args.me to in
    let versions = c.args.store.now.versions in
    let sent : List Member
    → Targets = λ ms. targets_of is_for versions (others_among c.args.me ms) in
    let all : c.loop-member.targets.items ≡ sent c.args.members.now =
    c.loop-member.invariant.targets ∙ ap sent (all_members c.as_slice-member-items.result.now c.loop-member.member-index c.loop-member-test.false ∙ c.as_slice-member-items.ensures.same) in (
      subst AreApart (sym all) (targets_apart is_for versions c.args.members.now c.args.me c.as_slice-member-items.ensures.valid),
      subst (λ (ns : List ℕ). AreCounts c.loop-member.targets.items ns) (sym c.in_ok-pending-2.ensures) c.loop-member.invariant.counts,
    )

pub returns-clause-targets : goal.returns-clause-targets
returns-clause-targets g c =
    let sent : List Member → Targets = λ ms. targets_of (λ to d. g.X.MapView.sends_to c.args.x.now (partition_of d) c.args.me to) c.args.store.now.versions (others_among c.args.me ms) in
    c.loop-member.invariant.targets ∙ ap sent (all_members c.as_slice-member-items.result.now c.loop-member.member-index c.loop-member-test.false ∙ c.as_slice-member-items.ensures.same)

pub returns-clause-held : goal.returns-clause-held
returns-clause-held g c =
    let is_for : ℕ → List ℕ → Bool = λ to d. g.X.MapView.sends_to c.args.x.now (partition_of d) c.args.me to in
    subst (AreHeld c.args.store.now.versions) (sym (returns-clause-targets g c)) (pending_held is_for c.args.store.now.versions (others_among c.args.me c.args.members.now))

pub returns-clause-limit : goal.returns-clause-limit
returns-clause-limit g c = λ n.
    let is_for : ℕ → List ℕ → Bool = λ to d. g.X.MapView.sends_to c.args.x.now (partition_of d) c.args.me to in
    subst (λ (ts : Targets). IfSome (target ts n) (λ t. t.batches < 2 ^ 32 - 1)) (sym (returns-clause-targets g c)) (unsent is_for c.args.store.now.versions (others_among c.args.me c.args.members.now) n)
