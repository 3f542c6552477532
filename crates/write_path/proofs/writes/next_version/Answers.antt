use Rattle.std.proofs.Common.{Option, Bor, sym, ap, ◌∙◌}
use Rattle.std.specs.Option.{option_copied}
use Rattle.conflict_order.specs.declared.version.Version.{Version}
use Rattle.conflict_order.specs.Next.{next}
use Rattle.write_path.proofs.VersionLaws.{made_of_best}
use Rattle.write_path.proofs.writes.next_version.Goals as goal

pub returns-in-None : goal.returns-in-None
unfolding next
returns-in-None c = ap (λ (o : Option (Bor Version)). next (option_copied o) c.args.clock c.args.body) (sym c.in-None.is)

pub returns-in-Some : goal.returns-in-Some
returns-in-Some c =
    made_of_best c.in-Some.best.now c.args.clock c.max.result c.saturating_add.result c.args.body c.max.ensures c.saturating_add.ensures
    ∙ ap (λ (o : Option (Bor Version)). next (option_copied o) c.args.clock c.args.body) (sym c.in-Some.is)
