use Rattle.std.proofs.Common.{arith}
use Rattle.std.proofs.lemmas.Grind.{common_steps}
use Rattle.audit_state.proofs.RecordLaws.{Adds, numbered_still}
use Rattle.audit_state.proofs.records.Records.add.Goals as goal

pub returns-clause-numbered : goal.returns-clause-numbered
returns-clause-numbered c =
    let adds : Adds c.args.self.now record { numbers = c.insert.new.self; known = c.push.new.self } c.args.digest.now = record {
      known = grind (arith, common_steps, c.push.ensures.items, c.push.ensures.succeeds, c.in_ok-reserve.ensures.ok, c.reserve.ensures.items, c.reserve.ensures.len);
      numbers = λ e. grind (arith, common_steps, c.in_ok-insert.ensures.updates.0 e);
    } in
    numbered_still c.args.self.now record { numbers = c.insert.new.self; known = c.push.new.self } c.args.digest.now adds c.requires.numbered c.requires.fresh
