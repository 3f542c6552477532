use Rattle.std.proofs.Common.{ℕ, [], ◌∷◌, ◌++◌, refl, ap, subst, ◌∙◌, arith}
use Rattle.journal_lines.specs.declared.line.Line.{Line}
use Rattle.node_rules.specs.Facts.{Facts}
use Rattle.node_rules.specs.Steps.{Planning}
use Rattle.node_rules.specs.Notes.{with_role}
use Rattle.cluster_types.specs.declared.member.Role.{Role}
use Rattle.journal_text.specs.Journals.{IsWithin}
use Rattle.world.specs.Ledgers.{Wrote}
use Rattle.world.specs.Steps.{standing}
use Rattle.world.proofs.KeepLaws.{node_at, node_within, step_done, step_failed}
use Rattle.world.proofs.SettingLaws.{keeps_mark, mark_due, mark_named}
use Rattle.world.proofs.world.World.set_mark.Goals as goal

pub place_of-place-requires : goal.place_of-place-requires
place_of-place-requires c = mark_named _ c.args.event.value c.args.node c.args.quiesced c.requires.is c.requires.comes

pub index-requires : goal.index-requires
index-requires c = omega (arith, node_within c.self.inside _ c.place_of-place.result c.args.node c.self.view_is c.self.invariant c.place_of-place.ensures, c.self.inside.nodes.ok)

pub index_mut-requires : goal.index_mut-requires
index_mut-requires c = omega (arith, node_within c.self.inside _ c.place_of-place.result c.args.node c.self.view_is c.self.invariant c.place_of-place.ensures, c.self.inside.nodes.ok)

pub returns-in_err-tell : goal.returns-in_err-tell
returns-in_err-tell c =
    step_failed c.self.inside _ c.tell.new.self c.args.event.value _ c.tell.result c.from_residual.result _ c.self.view_is c.self.invariant
    (ap (λ (l : Line). l ∷ []) c.mark_line.ensures ∙ mark_due _ c.args.event.value c.args.node c.args.quiesced c.requires.is)
    c.in_err-tell.was c.from_residual.ensures c.tell.ensures.ok c.tell.ensures.within c.tell.ensures.too_long c.tell.ensures.err

pub returns : goal.returns
returns c =
    step_done c.self.inside _ c.tell.new.self c.args.event.value _ c.self.view_is c.self.invariant
    (ap (λ (l : Line). l ∷ []) c.mark_line.ensures ∙ mark_due _ c.args.event.value c.args.node c.args.quiesced c.requires.is) c.in_ok-tell.ensures.ok c.in_ok-tell.ensures.within

pub invariant_of-self-2 : goal.invariant_of-self-2
invariant_of-self-2 c =
    let here = node_at c.self.inside c.args.self.now c.place_of-place.result c.args.node c.index_mut.result.now c.self.view_is c.self.invariant c.place_of-place.ensures c.index_mut.ensures.value in
    let first = node_at c.self.inside c.args.self.now c.place_of-place.result c.args.node c.index.result.now c.self.view_is c.self.invariant c.place_of-place.ensures c.index.ensures in
    keeps_mark c.self.inside _ _ c.args.event.value c.args.node c.place_of-place.result c.args.quiesced c.set_role.new.self
    (record { seen = c.self.view_is; keeps = c.self.invariant; comes = c.requires.comes; wrote = subst (λ (l : Line). Wrote c.self.inside.ledger c.tell.new.self (l ∷ []) c.args.event.value) c.mark_line.ensures c.in_ok-tell.ensures.ok; within = subst (λ (l : Line). IsWithin (c.self.inside.ledger.journal.lines ++ l ∷ [])) c.mark_line.ensures c.in_ok-tell.ensures.within; header = refl; ids = refl })
    c.place_of-place.ensures c.requires.is refl
    (ap (λ (p : Planning). p.now) c.set_role.ensures
    ∙ ap (λ (f : Facts). with_role f (record { rack = c.role.result.rack; quiesced = c.args.quiesced })) here
    ∙ ap (λ (rack : ℕ). with_role ((standing c.args.self.now).facts c.args.node) (record { rack = rack; quiesced = c.args.quiesced })) (ap (λ (r : Role). r.rack) c.role.ensures ∙ ap (λ (f : Facts). f.role.rack) first))
    refl refl refl
