use Rattle.std.proofs.Common.{◌∙◌, ap, ap₂, refl, arith}
use Rattle.audit_state.proofs.Tests.{differ}
use Rattle.audit_state.specs.Records.{newest_in, holders_in, raised, raised_holders}
use Rattle.audit_state.proofs.RecordLaws.{newest_set, holders_set, digests_set, there_at, within_known}
use Rattle.audit_state.proofs.records.Records.raise.Goals as goal

pub returns-in-Some-clause-numbers : goal.returns-in-Some-clause-numbers
returns-in-Some-clause-numbers c = record {
  numbers = λ d. refl;
  digests = digests_set c.args.self.now c.args.number c.in-Some.known.now c.raise.result (there_at c.args.self.now c.args.number c.in-Some.known.now c.requires c.in-Some.ensures.value) c.raise.ensures.digest;
}

pub returns-in-Some-clause-newest : goal.returns-in-Some-clause-newest
returns-in-Some-clause-newest c = newest_set c.args.self.now c.args.number c.in-Some.known.now c.raise.result (there_at c.args.self.now c.args.number c.in-Some.known.now c.requires c.in-Some.ensures.value) _ (c.raise.ensures.newest ∙ ap (raised c.args.versions.by c.args.versions.lines.now c.args.place) (ap newest_in (there_at c.args.self.now c.args.number c.in-Some.known.now c.requires c.in-Some.ensures.value)))

pub returns-in-Some-clause-holders : goal.returns-in-Some-clause-holders
returns-in-Some-clause-holders c = holders_set c.args.self.now c.args.number c.in-Some.known.now c.raise.result (there_at c.args.self.now c.args.number c.in-Some.known.now c.requires c.in-Some.ensures.value) _ (c.raise.ensures.holders ∙ ap₂ (raised_holders c.args.versions.by c.args.versions.lines.now c.args.place) (ap newest_in (there_at c.args.self.now c.args.number c.in-Some.known.now c.requires c.in-Some.ensures.value)) (ap holders_in (there_at c.args.self.now c.args.number c.in-Some.known.now c.requires c.in-Some.ensures.value)))

pub returns-in_default-clause-newest : goal.returns-in_default-clause-newest
returns-in_default-clause-newest c = differ (c.in_default.ensures.variant.1 (omega (arith, within_known c.args.self.now c.args.number c.requires, c.args.self.now.known.ok))) refl

pub returns-in_default-clause-holders : goal.returns-in_default-clause-holders
returns-in_default-clause-holders c = differ (c.in_default.ensures.variant.1 (omega (arith, within_known c.args.self.now c.args.number c.requires, c.args.self.now.known.ok))) refl
