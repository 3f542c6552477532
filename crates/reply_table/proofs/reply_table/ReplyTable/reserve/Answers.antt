use Rattle.std.proofs.Common.{nat_eq}
use Rattle.std.specs.HashMap.{get}
use Rattle.request_rules.specs.TakenUp.{same_asker}
use Rattle.reply_table.proofs.TableLaws.{same_index}
use Rattle.reply_table.proofs.reply_table.ReplyTable.reserve.Goals as goal

pub invariant_of-self-2 : goal.invariant_of-self-2
invariant_of-self-2 c =
    let old = c.self.inside in
    same_index old.taken.items _ (λ a. get same_asker old.by_asker a) _ (λ n. get nat_eq old.by_transaction n) _ c.reserve.ensures.items c.reserve-2.ensures.entries.2 c.reserve-3.ensures.entries.2 c.self.invariant
