use Rattle.std.proofs.Common.{◌≡◌, false, not, IfOk, sym, ap, subst, ◌∙◌}
use Rattle.cluster_types.specs.declared.cluster_key.ClusterKey.{ClusterKey}
use Rattle.journal_lines.specs.declared.line.Line.TheVariants as line
use Rattle.node_rules.specs.Effects.{lines_only}
use Rattle.node_rules.specs.Keys.{same_key}
use Rattle.node_rules.specs.Steps.{Planning}
use Rattle.node_rules.specs.Tables.{only_if}
use Rattle.node_steps.specs.Spelled.{spelled}
use Rattle.node_core.proofs.node.Node.promise.Goals as goal

pub returns : goal.returns
returns c =
    let apart : same_key c.args.key c.self.inside.agree.agreement.promised ≡ false = ap (λ (k : ClusterKey). same_key c.args.key k) (sym c.promised.ensures.value) ∙ sym c.if-eq.ensures in
    subst (λ (p : Planning). IfOk c.of_line.result (λ e. e ≡ spelled (lines_only (only_if (line.Promise p.now.me c.args.key) (not (same_key c.args.key p.now.agreement.promised)))))) c.self.view_is
    (rw apart c.of_line.ensures)
