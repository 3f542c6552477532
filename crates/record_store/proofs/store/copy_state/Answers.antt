use Rattle.std.proofs.Common.{ap, ◌∙◌, map, sym}
use Rattle.std.proofs.lemmas.Bool.{false≢true}
use Rattle.cluster_types.specs.Copies.{state_with}
use Rattle.record_store.specs.StampList.{shown_stamp}
use Rattle.record_store.proofs.RowLaws.{part_state, whole_state}
use Rattle.record_store.proofs.store.copy_state.Goals as goal

pub returns-in-None : goal.returns-in-None
returns-in-None c = part_state c.args.records.now.items (λ none. false≢true (c.if-is_empty.ensures.1 none)) ∙ ap (λ s. state_with (map (λ e. e.0) c.args.records.now.items) (shown_stamp s)) (sym c.in-None.is)

pub returns-in-Some : goal.returns-in-Some
returns-in-Some c = whole_state c.args.records.now.items (c.in-Some.stamp.key, c.in-Some.stamp.writes) (λ none. false≢true (c.if-is_empty.ensures.1 none)) ∙ ap (λ s. state_with (map (λ e. e.0) c.args.records.now.items) (shown_stamp s)) (sym c.in-Some.is)
