use Rattle.std.proofs.Common.{◌∷◌, ◌++◌, [], cond, filter, sym, ap, ◌∙◌, arith}
use Rattle.std.proofs.lemmas.List.{take_all}
use Rattle.node_rules.specs.Merging.{is_newer_than_held}
use Rattle.immigrate.proofs.BatchLaws.{newer_is_filter, passing_more, within_is_some}
use Rattle.immigrate.proofs.merging.newer_of.Goals.{in-Some+in_ok-add_newer, in_default}
use Rattle.immigrate.proofs.merging.newer_of.Goals as goal

pub loop-i-preserved : goal.loop-i-preserved
loop-i-preserved c =
    let test = is_newer_than_held c.args.store.now.by c.args.store.now.versions in
    elim c.match-get.branch [
      | in-Some+in_ok-add_newer w ↦
          let r = w.in-Some.field-0.now in
          w.newer-is
          ∙ w.in_ok-add_newer.ensures
          ∙ ap (λ rs. rs ++ cond (test r) (r ∷ []) []) c.loop-i.invariant
          ∙ passing_more test c.args.records.now c.loop-i.i r w.in-Some.ensures
      | in_default w ↦
          absurd (within_is_some c.args.records.now c.loop-i.i (rw w.in_default.is at c.get.ensures) (omega (arith, c.len-i-end.ensures, c.loop-i-test.true)))
    ]

pub returns : goal.returns
returns c =
    let s = c.args.store.now in
    let rs = c.args.records.now in
    c.loop-i.invariant
    ∙ ap (filter (is_newer_than_held s.by s.versions)) (take_all c.loop-i.i rs (omega (arith, c.len-i-end.ensures, c.loop-i-test.false)))
    ∙ sym (newer_is_filter s.by s.versions rs c.requires)
