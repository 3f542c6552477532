use Rattle.std.proofs.Common.{sym}
use Rattle.audit_state.proofs.RecordLaws.{opens_known}
use Rattle.audit_state.proofs.records.Records.open.Goals as goal

pub returns-in-Some-clause-opens : goal.returns-in-Some-clause-opens
returns-in-Some-clause-opens c = opens_known c.args.self.now c.args.digest.now c.in-Some.number c.requires (sym c.in-Some.ensures)
