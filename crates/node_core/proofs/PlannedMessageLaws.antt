-- What a node plans at a batch and at a write of another node.
use Rattle.std.proofs.Common.{◌≡◌, ℕ, Bool, true, List, Some, refl, sym, ap, ◌∙◌, ◌==◌, Option, is_some, ap₂}
use Rattle.std.specs.Prelude.{map, option_map}
use Rattle.cluster_types.specs.declared.cluster_key.ClusterKey.{ClusterKey}
use Rattle.wire_messages.specs.declared.message.Batch.{Batch}
use Rattle.wire_messages.specs.declared.message.Message.TheVariants as message
use Rattle.node_rules.specs.Effects.{to_one, lines_only, sends_only}
use Rattle.node_rules.specs.Facts.{view_key, list_at}
use Rattle.node_rules.specs.Merging.{Record, newer_records, store_merged_all}
use Rattle.node_rules.specs.Messages as due
use Rattle.node_rules.specs.Messages.{merge_line}
use Rattle.node_rules.specs.Notes.{in_view}
use Rattle.node_rules.specs.Steps.{after_message, Planning}
use Rattle.immigrate.specs.declared.merging.Merged.{Merged}
use Rattle.node_view.specs.declared.view_step.ViewStep.TheVariants as step
use Rattle.node_steps.specs.declared.effects.Effects.{Effects}
use Rattle.node_core.specs.declared.node.Node.TheInside.{Inside}
use Rattle.node_core.specs.Nodes.{planning_of, PartsAgree, node_facts}
use Rattle.node_steps.specs.Spelled.{spelled, then_effects}
use Rattle.std.specs.FinMap as finite
use Rattle.conflict_order.specs.declared.version.Version.{Version}
use Rattle.conflict_order.specs.Order.{is_newer}
use Rattle.journal_lines.specs.declared.line.Line.TheVariants as line
use Rattle.node_rules.specs.Map.{list_master}
use Rattle.node_view.specs.declared.view_step.Counted.{Counted}
use Rattle.node_view.specs.Plans as view
use Rattle.node_view.specs.Plans.{some_if}
use Rattle.std.specs.Global.{Box}
use Rattle.partition_lists.specs.Lists.{list}
use Rattle.node_rules.specs.Exchange.{Exchange, members_of}
use Rattle.node_rules.specs.Tables.{only_if}
use Rattle.node_view.specs.declared.view.View.{View}
use Rattle.node_view.specs.Views.{Viewed}
use Rattle.node_core.proofs.NodeLaws as nodes
use Rattle.node_steps.proofs.ViewLaws.{exchange_is}
use Rattle.node_steps.proofs.BatchMessageLaws.{batch_told, batch_after}
use Rattle.node_steps.proofs.ReplLaws.{some_only_if, repl_told, told_both}

-- ---- a node that plans it

pub newer_seen : (n : Inside) (seen : Planning) (rs newer : List Record) → planning_of n ≡ seen → newer ≡ newer_records n.store.by n.store.versions rs
    → newer ≡ newer_records seen.now.store.by seen.now.store.content rs
newer_seen n seen rs newer is e = e ∙ ap (λ (p : Planning). newer_records p.now.store.by p.now.store.content rs) is

pub batch_effects_due : (n : Inside) (seen : Planning) (from : ℕ) (b : Batch) (newer : List Record) → planning_of n ≡ seen → in_view seen.now b.key ≡ true
    → newer ≡ newer_records n.store.by n.store.versions b.records
    → spelled (record { lines = map (merge_line n.me b.key) newer; sends = to_one from (message.BatchAck b.key b.number) }) ≡ spelled (due.due_batch seen.now from b)
batch_effects_due n seen from b newer is of_view e =
    let told : ℕ → List Record → Effects = λ (me : ℕ) (rs : List Record). spelled (record { lines = map (merge_line me b.key) rs; sends = to_one from (message.BatchAck b.key b.number) }) in
    ap (λ (p : Planning). told p.now.me newer) is ∙ ap (told seen.now.me) (newer_seen n seen b.records newer is e) ∙ ap spelled (sym (batch_told seen.now from b of_view))

pub batch_is_after : (n : Inside) (seen : Planning) (from : ℕ) (b : Batch) (m : Merged) → planning_of n ≡ seen → in_view seen.now b.key ≡ true
    → m.newer ≡ newer_records n.store.by n.store.versions b.records → view.view_taken seen.now (step.Merged m) ≡ after_message seen.now 0 from (message.Batch b)
batch_is_after n seen from b m is of_view e =
    ap (λ (rs : List Record). record seen.now { store = store_merged_all seen.now.store (view_key seen.now) rs }) (newer_seen n seen b.records m.newer is e)
    ∙ sym (batch_after seen.now from b of_view)

-- ---- a node that plans it

pub version_seen : (n : Inside) (seen : Planning) (digest : List ℕ) (v : Version) (newer : Option Version) → planning_of n ≡ seen
    → newer ≡ some_if (is_newer n.store.by v (finite.get n.store.versions digest)) v → newer ≡ some_if (is_newer seen.now.store.by v (finite.get seen.now.store.content digest)) v
version_seen n seen digest v newer is e = e ∙ ap (λ (p : Planning). some_if (is_newer p.now.store.by v (finite.get p.now.store.content digest)) v) is

pub count_seen : (n : Inside) (v : Box View) (old : Viewed) (p q from nth : ℕ) (c : Option Counted) → PartsAgree n → n.view ≡ Some v → old ≡ v.value → p ≡ q
    → option_map (λ x. x.nth) c ≡ some_if (from == list_master (list (members_of old.exchange.view) p)) nth → option_map (λ x. x.nth) c ≡ some_if (from == list_master (list_at (node_facts n) q)) nth
count_seen n v old p q from nth c h is old_is same e =
    e
    ∙ ap₂ (λ (w : Viewed) (k : ℕ). some_if (from == list_master (list (members_of w.exchange.view) k)) nth) old_is same
    ∙ ap (λ (x : Exchange). some_if (from == list_master (list (members_of x.view) q)) nth) (exchange_is (node_facts n) v.value (nodes.in_view n v h is).viewed)

pub repl_effects_due : (n : Inside) (seen : Planning) (from : ℕ) (key : ClusterKey) (t : ℕ) (digest : List ℕ) (v : Version) (newer : Option Version) (b : Bool) → planning_of n ≡ seen
    → in_view seen.now key ≡ true → newer ≡ some_if (is_newer n.store.by v (finite.get n.store.versions digest)) v → b ≡ is_some newer
    → then_effects (spelled (lines_only (only_if (line.Merge n.me key digest v) b))) (sends_only (to_one from (message.ReplAck key t))) ≡ spelled (due.due_repl seen.now from key t digest v)
repl_effects_due n seen from key t digest v newer b is of_view e told =
    let x : Bool = is_newer seen.now.store.by v (finite.get seen.now.store.content digest) in
    let same : b ≡ x = told ∙ some_only_if v newer x (version_seen n seen digest v newer is e) in
    told_both n.me from key t digest v b
    ∙ ap (λ (p : Planning). spelled (record { lines = only_if (line.Merge p.now.me key digest v) b; sends = to_one from (message.ReplAck key t) })) is
    ∙ ap (λ (c : Bool). spelled (record { lines = only_if (line.Merge seen.now.me key digest v) c; sends = to_one from (message.ReplAck key t) })) same
    ∙ ap spelled (sym (repl_told seen.now from key t digest v x of_view refl))
