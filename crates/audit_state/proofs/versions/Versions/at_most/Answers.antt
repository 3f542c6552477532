use Rattle.std.proofs.Common.{rules, not, ap, ap₂, ◌∙◌}
use Rattle.audit_state.specs.Places.{is_at_most}
use Rattle.audit_state.proofs.PlaceLaws.{newer_is}
use Rattle.audit_state.proofs.versions.Versions.at_most.Goals as goal

pub returns-in-Some : goal.returns-in-Some
returns-in-Some c = ap not c.is_newer.ensures ∙ (newer_is _ _ _ ∙ ap₂ (is_at_most c.args.self.now.by) c.in-Some.ensures c.found-in-Some.ensures)

pub returns-in-None : goal.returns-in-None
returns-in-None c = search rules
