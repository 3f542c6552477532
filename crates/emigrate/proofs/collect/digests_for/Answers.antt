use Rattle.std.proofs.Common.{rules, ◌≡◌, ℕ, Bool, List, filter, refl, sym, ap, subst, ◌∙◌, arith}
use Rattle.std.specs.List.Sorted.{IsPermutation}
use Rattle.cluster_types.specs.Partitions.{partition_count, partition_of}
use Rattle.node_rules.specs.Copies.{digests}
use Rattle.emigrate.specs.Going.{AreRising, digests_below}
use Rattle.emigrate.proofs.CollectLaws.{sent_rise, sorted_are_sent}
use Rattle.emigrate.proofs.collect.digests_for.Goals as goal

pub returns-clause-digests : goal.returns-clause-digests
returns-clause-digests g c =
    let test : ℕ → Bool = λ p. g.X.MapView.sends_to c.args.x.now p c.args.me c.args.to in
    let versions = c.args.store.now.versions in
    let all : c.loop-number.number ≡ partition_count = omega (arith, c.loop-number-test.false, c.loop-number.auto.number-end) in
    let collected : c.loop-number.digests.items ≡ digests_below versions test partition_count = c.loop-number.invariant ∙ ap (digests_below versions test) all in
    let moved : IsPermutation (digests_below versions test partition_count) c.sort_unstable.new.self.items =
    subst (λ (ds : List (List ℕ)). IsPermutation ds c.sort_unstable.new.self.items) collected c.sort_unstable.ensures.permutation in
    c.from_vec.ensures.items ∙ sorted_are_sent versions test c.sort_unstable.new.self.items (sent_rise versions test) moved c.sort_unstable.ensures.sorted

pub returns-clause-rising : goal.returns-clause-rising
returns-clause-rising g c =
    let test : ℕ → Bool = λ p. g.X.MapView.sends_to c.args.x.now p c.args.me c.args.to in
    let versions = c.args.store.now.versions in
    let all : c.loop-number.number ≡ partition_count = omega (arith, c.loop-number-test.false, c.loop-number.auto.number-end) in
    let collected : c.loop-number.digests.items ≡ digests_below versions test partition_count = c.loop-number.invariant ∙ ap (digests_below versions test) all in
    let moved : IsPermutation (digests_below versions test partition_count) c.sort_unstable.new.self.items =
    subst (λ (ds : List (List ℕ)). IsPermutation ds c.sort_unstable.new.self.items) collected c.sort_unstable.ensures.permutation in
    let sent : c.from_vec.result.items ≡ filter (λ d. test (partition_of d)) (digests versions) =
    c.from_vec.ensures.items ∙ sorted_are_sent versions test c.sort_unstable.new.self.items (sent_rise versions test) moved c.sort_unstable.ensures.sorted in
    subst AreRising (sym sent) (record { rising = sent_rise versions test })

pub loop-number-preserved : goal.loop-number-preserved
loop-number-preserved g c = search rules
