use Rattle.std.proofs.Common.{◌≡◌, ◌∙◌, ap, arith, length, length-take, sym, take, true}
use Rattle.std.specs.List.{list_all}
use Rattle.std.proofs.lemmas.List.{length-map, take_at}
use Rattle.heartbeat.specs.Entries.{aged_entries, one_older, still_heard}
use Rattle.heartbeat.proofs.EntryLaws.{aged_each}
use Rattle.heartbeat.proofs.entries.Entries.age.Goals as goal

pub returns : goal.returns
returns c =
    let i = c.self.inside in
    let es = take i.len i.places in
    let all : list_all still_heard es ≡ true =
    ap (list_all still_heard) (c.self.view_is ∙ sym c.as_slice.ensures.same) ∙ sym c.are_still_heard.ensures ∙ c.if-not-are_still_heard.false in
    let size : length c.age_each.new.entries ≡ i.len = omega (arith, ap length c.age_each.ensures, length-map es one_older, length-take i.len i.places, c.self.invariant.fits, c.self.invariant.size) in
    take_at c.age_each.new.entries _ i.len size
    ∙ c.age_each.ensures
    ∙ aged_each es all
    ∙ ap aged_entries c.self.view_is
