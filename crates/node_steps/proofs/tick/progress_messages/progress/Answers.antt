use Rattle.std.proofs.Common.{◌≡◌, ℕ, true, false, List, length, map, sym, ap, ap₂, subst, ◌∙◌}
use Rattle.cluster_types.specs.Partitions.{partition_count}
use Rattle.wire_messages.specs.declared.message.Message.{Message}
use Rattle.wire_messages.specs.declared.message.Message.TheVariants as message
use Rattle.wire_messages.specs.Keys.{IsKeyField}
use Rattle.wire_messages.specs.Spelling.{spelling}
use Rattle.node_rules.specs.Agreement as agreement
use Rattle.node_rules.specs.Bits.{Bits}
use Rattle.node_rules.specs.Effects as rules
use Rattle.node_rules.specs.Effects.{sends_only, to_each}
use Rattle.node_rules.specs.Exchange as exchange
use Rattle.node_rules.specs.Exchange.{Exchange, members_of}
use Rattle.node_rules.specs.Facts.{Facts}
use Rattle.node_rules.specs.Standing.{others}
use Rattle.node_rules.specs.Tick as tick
use Rattle.node_rules.specs.Tick.{progress_message}
use Rattle.node_view.specs.Plans.{settled_by}
use Rattle.node_steps.specs.Ranges.{HasRanges}
use Rattle.node_steps.specs.Spelled.{then_effects, with_sends}
use Rattle.node_steps.proofs.ProgressLaws.{alike_progress, done_whole, each_told, key_to_others, none_alone, none_settled, others_told, progress_of, row_whole, settled_now, some_left}
use Rattle.node_steps.proofs.SpelledLaws.{on_ok_then, told_each, told_nothing}
use Rattle.node_steps.proofs.ViewLaws.{exchange_is}
use Rattle.node_steps.proofs.tick.progress_messages.progress.Goals.{then-from-settled-via-then-from-settled, then-from-settled-via-else-from-settled+then-is_empty}
use Rattle.node_steps.proofs.tick.progress_messages.progress.Goals as goal

pub returns-then-from-settled : goal.returns-then-from-settled
returns-then-from-settled c =
    let f : Facts = c.args.f.now in
    let ss = c.args.settlings.now in
    let v = c.in-Some.view.now in
    let own = c.in-Some.ensures.view in
    let ranges : HasRanges f = subst HasRanges c.f.view_is c.f.invariant.ranges in
    let none : tick.progress partition_count (settled_by f ss) ≡ rules.nothing = elim c.then-from-settled.branch [
      | then-from-settled-via-then-from-settled w ↦
          none_settled partition_count (settled_by f ss)
          (settled_now f ss c.from.result c.settled_count-settled.result ranges.bits.settled c.requires.due c.settled_count-settled.ensures.within
          (c.from.ensures ∙ c.unsettled.ensures ∙ own.watch.unsettled) c.settled_count-settled.ensures.count w.if-from-settled.true)
      | then-from-settled-via-else-from-settled+then-is_empty w ↦
          none_alone partition_count (settled_by f ss) (sym (others_told f v ss own.viewed) ∙ sym w.others.ensures ∙ w.is_empty.ensures.0 w.if-is_empty.true)
    ] in
    sym (told_nothing c.args.out.now) ∙ ap (λ (e : rules.Effects). then_effects c.args.out.now e) (sym none)

pub send_to_each-requires : goal.send_to_each-requires
send_to_each-requires c =
    let f : Facts = c.args.f.now in
    let ss = c.args.settlings.now in
    let v = c.in-Some.view.now in
    let own = c.in-Some.ensures.view in
    let ranges : HasRanges f = subst HasRanges c.f.view_is c.f.invariant.ranges in
    let same : v.exchange ≡ f.exchange = exchange_is f v own.viewed in
    let bits : v.bits ≡ f.bits = ap (λ (g : Facts). g.bits) own.viewed.view in (
      subst IsKeyField
          (sym (c.key.ensures ∙ ap (λ (x : Exchange). exchange.exchange_key x.view) same))
          (key_to_others f.exchange.view v.me (λ none. let wrong : false ≡ true = sym c.if-is_empty.false ∙ c.is_empty.ensures.1 (c.others.ensures ∙ ap (λ (x : Exchange). agreement.others_among v.me (members_of x.view)) same ∙ none) in cc) ranges.view),
      record { size = ap length (c.in_ok-new.ensures ∙ c.done_row.ensures) ∙ done_whole v.exchange.exchanged v.batches },
      record { size = ap length (c.in_ok-new-2.ensures ∙ c.handed_row.ensures) ∙ row_whole (λ s. s.hands) v.bits.handed ss (ap (λ (b : Bits). length b.handed) bits ∙ ranges.bits.handed) },
      record { size = ap length (c.in_ok-new-3.ensures ∙ c.settled_row.ensures) ∙ row_whole (λ s. s.settles) v.bits.settled ss (ap (λ (b : Bits). length b.settled) bits ∙ ranges.bits.settled) },
    )

pub returns : goal.returns
returns c =
    let f : Facts = c.args.f.now in
    let ss = c.args.settlings.now in
    let v = c.in-Some.view.now in
    let own = c.in-Some.ensures.view in
    let out = c.args.out.now in
    let to = c.as_slice.result.now in
    let ranges : HasRanges f = subst HasRanges c.f.view_is c.f.invariant.ranges in
    let m : Message = message.Progress c.key.result true c.in_ok-new.field-0 c.in_ok-new-2.field-0 c.in_ok-new-3.field-0 in
    let told : m ≡ progress_message partition_count (settled_by f ss) true =
    alike_progress _ _ _ _ _ _ _ _ c.key.ensures (c.in_ok-new.ensures ∙ c.done_row.ensures) (c.in_ok-new-2.ensures ∙ c.handed_row.ensures) (c.in_ok-new-3.ensures ∙ c.settled_row.ensures)
    ∙ progress_of f v ss own.viewed in
    let same : to ≡ others (settled_by f ss) = c.as_slice.ensures.same ∙ c.others-2.ensures ∙ others_told f v ss own.viewed in
    let left = some_left f ss c.from.result c.settled_count-settled.result ranges.bits.settled c.requires.due c.settled_count-settled.ensures.within
    (c.from.ensures ∙ c.unsettled.ensures ∙ own.watch.unsettled) c.settled_count-settled.ensures.count c.if-from-settled.false in
    on_ok_then c.send_to_each.result
    (c.send_to_each.new.self ≡ with_sends out (map (λ n. (n, spelling m)) to))
    (c.send_to_each.new.self ≡ then_effects out (tick.progress partition_count (settled_by f ss)))
    c.send_to_each.ensures
    (λ e.
    e ∙ told_each out to m
    ∙ ap₂ (λ (ns : List ℕ) (x : Message). then_effects out (sends_only (to_each ns x))) same told
    ∙ ap (λ (d : rules.Effects). then_effects out d) (sym (each_told partition_count f ss (sym c.in-Some.ensures.some) left)))
