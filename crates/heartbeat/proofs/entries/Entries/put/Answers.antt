use Rattle.std.proofs.Common.{◌≡◌, ◌<◌, ◌==◌, Bool, List, Some, ap, arith, length, length-take, position, set, sym, ◌∙◌}
use Rattle.std.proofs.Math.Seq.{take-set-lt}
use Rattle.std.proofs.lemmas.List.Quantifiers.{position-Some}
use Rattle.partition_lists.proofs.InOrderLaws.{from_equal}
use Rattle.heartbeat.specs.declared.entries.Entry.{Entry}
use Rattle.heartbeat.proofs.EntryLaws.{overwritten}
use Rattle.heartbeat.proofs.entries.Entries.put.Goals as goal

pub returns-in-Some : goal.returns-in-Some
returns-in-Some c =
    let i = c.self.inside in
    let new = c.args.entry.now in
    let is_that : Entry → Bool = λ e. e.node == new.node in
    let told : position is_that c.args.self.now ≡ Some c.in-Some.place = ap (position is_that) (sym c.as_slice.ensures.same) ∙ sym c.place_of.ensures ∙ c.in-Some.is in
    let found = position-Some is_that c.args.self.now c.in-Some.place new told in
    let within : c.in-Some.place < i.len = omega (arith, found.0, ap length c.self.view_is, length-take i.len i.places) in
    take-set-lt i.len i.places c.in-Some.place new within
    ∙ ap (λ (es : List Entry). set es c.in-Some.place new) c.self.view_is
    ∙ overwritten c.args.self.now c.in-Some.place new new c.requires.falls found.0 (from_equal _ new.node found.1)
