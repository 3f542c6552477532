use Rattle.std.proofs.Common.{ℕ, List, ◌∙◌, subst}
use Rattle.node_view.specs.Plans.{with_answer, with_outcome}
use Rattle.node_view.specs.Views.{IsNodeInView}
use Rattle.node_view.proofs.OutcomeLaws.{answers}
use Rattle.node_view.proofs.ReadyLaws.{digest_kept, digest_seen, ready_with_answer}
use Rattle.node_view.proofs.view.View.end_answers.Goals as goal

pub resolve-requires : goal.resolve-requires
resolve-requires c =
    ready_with_answer c.args.self.now c.answer.new.self c.args.store.now c.args.from c.args.transaction c.args.version c.args.outcome c.answer.ensures c.requires

pub returns : goal.returns
returns c f h =
    let v = c.args.self.now in
    let u = c.answer.new.self in
    let n = c.args.transaction in
    let g = with_answer f c.args.from n c.args.version in
    subst (λ (d : List ℕ). IsNodeInView (with_outcome g n d c.args.outcome) c.resolve.new.self c.resolve.new.store) (digest_kept v u c.args.from n c.args.version c.answer.ensures ∙ digest_seen f v c.args.store.now n h)
    (c.resolve.ensures g (answers f v u c.args.store.now c.args.from n c.args.version c.answer.ensures h))
