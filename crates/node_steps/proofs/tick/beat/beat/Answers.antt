use Rattle.std.proofs.Common.{◌≡◌, ℕ, List, map, ap, ap₂, sym, subst, ◌∙◌}
use Rattle.cluster_types.specs.declared.cluster_key.ClusterKey.{ClusterKey}
use Rattle.cluster_types.specs.declared.member.Role.{Role}
use Rattle.wire_messages.specs.declared.message.Message.{Message}
use Rattle.wire_messages.specs.declared.message.Message.TheVariants as message
use Rattle.wire_messages.specs.Keys.{IsKeyOrNone}
use Rattle.wire_messages.specs.Spelling.{spelling}
use Rattle.node_rules.specs.Effects.{sends_only, to_each}
use Rattle.node_rules.specs.Facts.{Facts}
use Rattle.node_rules.specs.Hearing.{heard_ids}
use Rattle.node_rules.specs.Tick as tick
use Rattle.node_steps.specs.Ranges.{HasRanges}
use Rattle.node_steps.specs.Spelled.{then_effects, with_sends}
use Rattle.node_steps.proofs.SpelledLaws.{on_ok_then, told_each}
use Rattle.node_steps.proofs.TickingLaws.{key_told}
use Rattle.node_steps.proofs.tick.beat.beat.Goals as goal

pub send_to_each-requires : goal.send_to_each-requires
send_to_each-requires c =
    let f : Facts = c.args.f.now in
    let ranges : HasRanges f = subst HasRanges c.f.view_is c.f.invariant.ranges in
    (subst IsKeyOrNone (sym c.view_key.ensures) (key_told f.exchange.view ranges.view), c.promised.ensures.key, record { limit = c.hears-hears.ensures.limit; descending = c.hears-hears.ensures.order; each = rw (← c.as_slice.ensures.same) c.ids_fit.ensures }, c.f.invariant.ranges.rack)

pub returns : goal.returns
returns c =
    let f : Facts = c.args.f.now in
    let to = c.as_slice-2.result.now in
    let m : Message = message.Heartbeat c.view_key.result c.promised.result c.hears-hears.result c.f.inside.role in
    on_ok_then c.send_to_each.result
    (c.send_to_each.new.self ≡ with_sends c.args.out.now (map (λ n. (n, spelling m)) to))
    (c.send_to_each.new.self ≡ then_effects c.args.out.now (tick.beat f))
    c.send_to_each.ensures
    (λ e.
    e ∙ told_each c.args.out.now to m
    ∙ ap₂ (λ (ns : List ℕ) (x : Message). then_effects c.args.out.now (sends_only (to_each ns x))) (c.as_slice-2.ensures.same ∙ ap (λ (g : Facts). g.peers) c.f.view_is)
    (told_alike (c.view_key.ensures) (c.promised.ensures.value ∙ ap (λ (g : Facts). g.agreement.promised) c.f.view_is) (c.hears-hears.ensures.value ∙ ap (λ (g : Facts). heard_ids g.hearing.heard) c.f.view_is) (ap (λ (g : Facts). g.role) c.f.view_is)))
  where
    told_alike : {a b x y : ClusterKey} {hs is : List ℕ} {r s : Role} → a ≡ b → x ≡ y → hs ≡ is → r ≡ s → message.Heartbeat a x hs r ≡ message.Heartbeat b y is s
    told_alike p q h e = cc
