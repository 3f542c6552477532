use Rattle.std.proofs.Common.{◌≡◌, ◌∙◌, [], None, Some, sym, ap, ap₂, arith}
use Rattle.std.specs.Option.{option_copied}
use Rattle.request_rules.specs.ByNumber.{item_under}
use Rattle.request_rules.specs.Requests.{Scans}
use Rattle.request_rules.specs.Scans.{begun_again, changing_scan}
use Rattle.part_scan.proofs.NumberLaws.{changed, missing_scan, scans_of}
use Rattle.part_scan.proofs.scans.Scans.begin_again.Goals as goal

pub returns-in_default : goal.returns-in_default
returns-in_default c =
    let none : item_under c.args.self.now.running c.args.number ≡ None = grind (arith, c.self.view_is, c.get.ensures, c.in_default.is) in
    sym (missing_scan c.args.self.now c.args.number begun_again none)

pub returns : goal.returns
returns c =
    let scans = c.self.inside.scans in
    let old : Scans = record { given = scans.given; running = scans.items } in
    let found : item_under scans.items c.args.number ≡ Some c.in-Some.scan.now = sym c.get.ensures ∙ ap option_copied c.in-Some.is in
    let begun : c.new.result ≡ begun_again c.in-Some.scan.now
    = c.new.ensures ∙ ap (λ p. record { partition = p; first = None; records = [] }) c.partition-partition.ensures in
    ap₂ scans_of c.replace.ensures.given c.replace.ensures.items
    ∙ changed old c.args.number c.in-Some.scan.now c.new.result begun_again c.replace.ensures.numbers.rising found begun
    ∙ ap (λ (ss : Scans). changing_scan ss c.args.number begun_again) c.self.view_is
