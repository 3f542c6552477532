use Rattle.std.proofs.Common.{◌-◌, sym, ap, ◌∙◌}
use Rattle.std.specs.Option.{option_copied}
use Rattle.part_scan.proofs.RecordLaws.{last_before, last_of_page}
use Rattle.part_scan.proofs.paged.last_of.Goals as goal

pub returns-in-Some : goal.returns-in-Some
returns-in-Some c = λ rs e.
    sym (last_of_page rs c.args.page.now (c.len.result - 1) c.in-Some.record.now (ap (λ n. n - 1) c.len.ensures) (sym c.get.ensures ∙ ap option_copied c.in-Some.is))

pub returns-in-None : goal.returns-in-None
returns-in-None c = λ rs e.
    e ∙ sym (last_before rs c.args.page.now (c.len.result - 1) (ap (λ n. n - 1) c.len.ensures) (sym c.get.ensures ∙ ap option_copied c.in-None.is))
