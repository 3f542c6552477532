use Rattle.std.proofs.Common.{◌≡◌, Bool, false, IfOk, sym, subst, ◌∙◌, if◌then◌else◌}
use Rattle.std.specs.FinMap as finite
use Rattle.wire_messages.specs.Versions.{IsOptionVersion}
use Rattle.node_rules.specs.Notes.{in_view}
use Rattle.node_steps.specs.Spelled.{spelled}
use Rattle.node_steps.proofs.RangeLaws.{option_version}
use Rattle.node_core.proofs.node.Node.on_ask.Goals as goal
use Rattle.node_rules.specs.Effects.{sends_only, to_one}
use Rattle.node_rules.specs.StaleMessages.{stale}
use Rattle.wire_messages.specs.declared.message.Message.TheVariants as message

pub returns-then-is_none-clause-effects : goal.returns-then-is_none-clause-effects
returns-then-is_none-clause-effects c =
    let out : in_view c.args.self.now.now c.args.key ≡ false = sym c.view_of.ensures.some ∙ c.if-is_none.ensures in
    subst (λ (b : Bool). IfOk c.stale.result (λ e. e ≡ spelled (if b then sends_only (to_one c.args.from (message.Answer c.args.key c.args.transaction (finite.get c.args.self.now.now.store.content c.args.digest.now))) else stale c.args.self.now.now))) (sym out) c.stale.ensures.effects

pub send-requires : goal.send-requires
send-requires c =
    let store = c.self.invariant.0.ranges.store in (
      c.requires.proper.0,
      c.requires.proper.1,
      subst IsOptionVersion (sym (c.in_ok-copy_of.ensures ∙ c.get.ensures)) (option_version (finite.get c.self.inside.store.versions c.args.digest.now) (store.versions c.args.digest.now)),
    )
