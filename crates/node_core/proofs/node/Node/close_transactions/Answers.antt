use Rattle.std.proofs.Common.{◌≡◌, ◌++◌, ℕ, List, Option, append-nil, map, sym, ap, ap₂, ◌∙◌}
use Rattle.std.specs.Global.{Box}
use Rattle.dup_resolve.specs.declared.txn.Txn.{Txn}
use Rattle.journal_lines.specs.declared.line.Line.{Line}
use Rattle.node_rules.specs.Entering.{closing}
use Rattle.node_rules.specs.Steps.{Planning}
use Rattle.node_view.specs.declared.view.View.{View}
use Rattle.node_view.specs.Transactions.{kept_of}
use Rattle.node_steps.specs.Viewing.{ending_of}
use Rattle.node_view.specs.Views.{Viewed, viewed_key}
use Rattle.node_core.specs.Nodes.{node_facts}
use Rattle.node_core.proofs.EnteringLaws.{closing_kept}
use Rattle.node_core.proofs.node.Node.close_transactions.Goals as goal

pub returns-in-None : goal.returns-in-None
returns-in-None c =
    let told = c.args.out.now in
    let view = c.in-Some.view.value in
    let line_of : List Txn → List Line = λ (ts : List Txn). map (ending_of c.args.self.now.now.me (viewed_key view)) ts in
    let lines : c.loop-txn.out.lines ≡ told.lines ++ closing c.args.self.now.now =
    sym (append-nil c.loop-txn.out.lines)
    ∙ ap (λ (ts : List Txn). c.loop-txn.out.lines ++ line_of ts) (sym c.in-None.ensures.steps.0)
    ∙ c.loop-txn.invariant.0
    ∙ ap (λ (ts : List Txn). told.lines ++ line_of ts) (c.into_iter-txn-iterator.ensures.into_iter_gives ∙ c.iter-txn-items.ensures ∙ c.txns.ensures.running)
    ∙ ap (λ (v : Viewed). told.lines ++ line_of (map kept_of v.transactions.running)) c.deref.ensures
    ∙ ap (λ (p : Planning). told.lines ++ map (ending_of p.now.me (viewed_key view)) (map kept_of view.transactions.running)) (sym c.self.view_is)
    ∙ ap (λ (ls : List Line). told.lines ++ ls) (closing_kept c.self.inside.me (viewed_key view) view.transactions.running)
    ∙ ap (λ (o : Option (Box View)). told.lines ++ closing (node_facts (record c.self.inside { view = o }))) (sym c.in-Some.is)
    ∙ ap (λ (p : Planning). told.lines ++ closing p.now) c.self.view_is in
    ap₂ (λ (ls : List Line) (ss : List (ℕ × List ℕ)). record { lines = ls; sends = ss }) lines (c.loop-txn.invariant.1 ∙ sym (append-nil told.sends))
