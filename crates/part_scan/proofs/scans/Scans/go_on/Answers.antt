use Rattle.std.proofs.Common.{◌≡◌, ◌∙◌, None, Some, sym, ap, ap₂, arith}
use Rattle.std.proofs.lemmas.Result.{on_err_weaker, on_ok_weaker}
use Rattle.request_rules.specs.ByNumber.{changing_item, item_under}
use Rattle.request_rules.specs.Requests.{Scans}
use Rattle.request_rules.specs.Scans.{changing_scan, going_on}
use Rattle.part_scan.proofs.NumberLaws.{changed, changed_back, missing_scan, scans_of, twice}
use Rattle.part_scan.proofs.scans.Scans.go_on.Goals as goal

pub returns-in_default-clause-ok : goal.returns-in_default-clause-ok
returns-in_default-clause-ok c =
    let none : item_under c.args.self.now.running c.args.page.scan ≡ None = grind (arith, c.self.view_is, c.get.ensures, c.in_default.is) in
    sym (missing_scan c.args.self.now c.args.page.scan (going_on c.args.from c.args.page) none)

pub returns-clause-ok : goal.returns-clause-ok
returns-clause-ok c =
    let scans = c.self.inside.scans in
    let n = c.args.page.scan in
    let old : Scans = record { given = scans.given; running = scans.items } in
    let x = c.in-Some-replace.scan in
    let found : item_under scans.items n ≡ Some x = sym c.replace.ensures.item ∙ c.in-Some-replace.is in
    let again = twice scans.items n (λ v. c.new.result) (λ v. c.go_on-went_on.new.self) in
    on_ok_weaker c.go_on-went_on.result
    (λ went.
    ap₂ scans_of (c.replace-2.ensures.given ∙ c.replace.ensures.given) (c.replace-2.ensures.items ∙ ap (λ xs. changing_item xs n (λ v. c.go_on-went_on.new.self)) c.replace.ensures.items ∙ again)
    ∙ changed old n x c.go_on-went_on.new.self (going_on c.args.from c.args.page) c.replace.ensures.numbers.rising found went
    ∙ ap (λ (ss : Scans). changing_scan ss n (going_on c.args.from c.args.page)) c.self.view_is)
    c.go_on-went_on.ensures.ok

pub returns-clause-err : goal.returns-clause-err
returns-clause-err c =
    let scans = c.self.inside.scans in
    let n = c.args.page.scan in
    let old : Scans = record { given = scans.given; running = scans.items } in
    let x = c.in-Some-replace.scan in
    let found : item_under scans.items n ≡ Some x = sym c.replace.ensures.item ∙ c.in-Some-replace.is in
    let again = twice scans.items n (λ v. c.new.result) (λ v. c.go_on-went_on.new.self) in
    on_err_weaker c.go_on-went_on.result
    (λ went.
    ap₂ scans_of (c.replace-2.ensures.given ∙ c.replace.ensures.given) (c.replace-2.ensures.items ∙ ap (λ xs. changing_item xs n (λ v. c.go_on-went_on.new.self)) c.replace.ensures.items ∙ again)
    ∙ changed_back old n x c.go_on-went_on.new.self c.replace.ensures.numbers.rising found went
    ∙ c.self.view_is)
    c.go_on-went_on.ensures.err
