-- Two sides that meet, as the prover computes them. What a finite map has is rewritten by its laws.
use Rattle.std.proofs.Common.{◌≡◌, ℕ, [], ◌∷◌, ◌++◌, Option, Some, false, refl, ap, ◌∙◌}
use Rattle.std.specs.Prelude.{option_map, filter_map}
use Rattle.std.specs.Ordering.{nat_cmp}
use Rattle.std.specs.Cmp.Lexicographic.{slice_cmp}
use Rattle.std.specs.FinMap as finite
use Rattle.std.proofs.lemmas.Cmp.{nat_list_cmp_total}
use Rattle.conflict_order.specs.declared.policy.Policy.TheVariants.{Time}
use Rattle.conflict_order.specs.declared.version.Version.{Version}
use Rattle.conflict_order.specs.Order.{is_newer, version_cmp}
use Rattle.partition_lists.specs.Hashes.{fnv1a, jenkins_state, jenkins_end, node_bytes, partition_bytes, place}
use Rattle.partition_lists.specs.Lists.{list}
use Rattle.wire_messages.specs.declared.message.Message.TheVariants as message
use Rattle.journal_lines.specs.declared.line.Line.TheVariants as line
use Rattle.node_rules.specs.Effects.{Effects}
use Rattle.node_rules.specs.Examples.{key, zeros}
use Rattle.node_rules.specs.Messages.{due_message}
use Rattle.node_rules.specs.Settling.{settling_from}
use Rattle.node_rules.specs.Standing.{knows_all_settled, has_nothing_to_learn_or_drop}
use Rattle.node_rules.specs.Tick.{tick_of, done_from}
use Rattle.node_rules.specs.Tables.{only_if}
use Rattle.cluster_rules.specs.WalkExamples.{older, newer, side, batch_of, hearing, telling, handing_on, acking, merge, one_sent, two_sent, two_has}

-- the lists of partitions, and what walks over one partition
unfoldable pub walking : Unit {0}
unfolding fnv1a jenkins_state jenkins_end node_bytes partition_bytes place list settling_from knows_all_settled has_nothing_to_learn_or_drop done_from
walking = tt

holds : (v : Version) → finite.get (finite.insert {R = slice_cmp nat_cmp} finite.empty zeros v) zeros ≡ Some v
holds v = finite.get-insert nat_list_cmp_total finite.empty zeros v zeros

-- ---- batches

-- a tick with the batch of what is held
abbrev handing_held : ℕ → ℕ → Option Version → Effects
handing_held me other held = record {
  lines = line.Tick me ∷ [];
  sends = (other, hearing other)
      ∷ (other, message.Batch (record { key = key 2 2; number = 1; records = filter_map (λ h. option_map (λ v. (zeros, v)) h) (held ∷ []) }))
      ∷ (other, telling false) ∷ [];
}

one_held : tick_of 1 (side 1 2 older) ≡ handing_held 1 2 (finite.get (side 1 2 older).store.content zeros)
unfolding walking
one_held = refl

two_held : tick_of 1 (side 2 1 newer) ≡ handing_held 2 1 (finite.get (side 2 1 newer).store.content zeros)
unfolding walking
two_held = refl

pub one_hands : tick_of 1 (side 1 2 older) ≡ handing_on 1 2 older
one_hands = one_held ∙ ap (handing_held 1 2) (holds older)

pub two_hands : tick_of 1 (side 2 1 newer) ≡ handing_on 2 1 newer
two_hands = two_held ∙ ap (handing_held 2 1) (holds newer)

-- ---- merges

abbrev merging_held : ℕ → ℕ → Version → Option Version → Effects
merging_held me other v held = acking other (only_if (line.Merge me (key 2 2) zeros v) (is_newer Time v held) ++ [])

one_merging : due_message one_sent 0 2 (batch_of newer) ≡ merging_held 1 2 newer (finite.get (side 1 2 older).store.content zeros)
one_merging = refl

is_merged : merging_held 1 2 newer (Some older) ≡ acking 2 merge
unfolding version_cmp is_newer
is_merged = refl

pub one_merges : due_message one_sent 0 2 (batch_of newer) ≡ acking 2 merge
one_merges = one_merging ∙ ap (merging_held 1 2 newer) (holds older) ∙ is_merged

two_merging : due_message two_sent 0 1 (batch_of older) ≡ merging_held 2 1 older (finite.get (side 2 1 newer).store.content zeros)
two_merging = refl

two_merging_again : due_message two_has 0 1 (batch_of older) ≡ merging_held 2 1 older (finite.get (side 2 1 newer).store.content zeros)
two_merging_again = refl

isnt_merged : merging_held 2 1 older (Some newer) ≡ acking 1 []
unfolding version_cmp is_newer
isnt_merged = refl

pub two_keeps : due_message two_sent 0 1 (batch_of older) ≡ acking 1 []
two_keeps = two_merging ∙ ap (merging_held 2 1 older) (holds newer) ∙ isnt_merged

pub two_keeps_again : due_message two_has 0 1 (batch_of older) ≡ acking 1 []
two_keeps_again = two_merging_again ∙ ap (merging_held 2 1 older) (holds newer) ∙ isnt_merged
