use Rattle.std.proofs.Common.{nat_eq, ◌∙◌}
use Rattle.std.specs.HashMap.{get}
use Rattle.request_rules.specs.TakenUp.{same_asker}
use Rattle.reply_table.proofs.TableLaws.{transaction_or}
use Rattle.reply_table.proofs.reply_table.ReplyTable.place_of_transaction.Goals as goal

pub returns : goal.returns
returns c =
    let old = c.self.inside in
    rw (← c.self.view_is) (transaction_or old.taken.items (λ a. get same_asker old.by_asker a) (λ n. get nat_eq old.by_transaction n) c.self.invariant c.args.transaction c.copied.result (c.copied.ensures ∙ c.get.ensures.value))
