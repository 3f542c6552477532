use Rattle.std.proofs.Common.{rules, ◌≡◌, ◌++◌, ℕ, List, not, filter, drop, sym, ap, subst, ◌∙◌}
use Rattle.node_rules.specs.Batches.{is_among}
use Rattle.emigrate.specs.Going.{Awaiting, batch_digests}
use Rattle.emigrate.specs.Stages.{pending_after}
use Rattle.emigrate.proofs.FirstLaws.{acked_first, acked_left}
use Rattle.emigrate.proofs.target.Sent.acked.Goals as goal

pub returns-clause-ok : goal.returns-clause-ok
returns-clause-ok c =
    let pending = c.self.inside.pending.items in
    c.after_ack.ensures
    ∙ c.drop_first.ensures
    ∙ ap (λ (n : ℕ). drop n pending) c.len.ensures
    ∙ acked_left pending c.self.inside.batch c.self.invariant.0 c.self.invariant.1
    ∙ ap (λ (s : Awaiting). filter {X = List ℕ} (λ d. not (is_among s.batch.records d)) s.pending) c.self.view_is

pub returns-clause-first : goal.returns-clause-first
returns-clause-first c =
    let pending = c.self.inside.pending.items in
    subst (λ (s : Awaiting). s.pending ≡ batch_digests s.batch ++ pending_after c.after_ack.result) c.self.view_is
    (acked_first pending c.self.inside.batch c.self.invariant.1
    ∙ ap (λ (xs : List (List ℕ)). batch_digests c.self.inside.batch ++ xs) (sym (c.after_ack.ensures ∙ c.drop_first.ensures ∙ ap (λ (n : ℕ). drop n pending) c.len.ensures)))

pub returns-clause-refused : goal.returns-clause-refused
returns-clause-refused c = search rules
