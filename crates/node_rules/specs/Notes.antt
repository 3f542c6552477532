-- What a line of the node, a message that reached it and a message that it sent add to its facts.
pub use Rattle.node_rules.specs.TickNotes.{neighbours, with_hearing, after_ages, stopped, started, with_role, marked}
pub use Rattle.node_rules.specs.ViewNotes.{own_row, entered, count_in, stamped_if, stamped_at, is_for, target_for, own_targets, exchanged}
pub use Rattle.node_rules.specs.RecordNotes.{request_want, opening_transaction, transaction_opened, closed, next_nth, applied_store, write_applied, merged}
pub use Rattle.node_rules.specs.SettlingNotes.{handed, settled, learnt, dropped}
pub use Rattle.node_rules.specs.LineNotes.{note, noted}
pub use Rattle.node_rules.specs.ArrivalNotes.{in_view, heard_beat, refused_by, row_came, batch_acked, progress_came, write_counted, write_counted_if, write_came, write_acked, answer_came, reached}
pub use Rattle.node_rules.specs.SentNotes.{sent, all_sent}
