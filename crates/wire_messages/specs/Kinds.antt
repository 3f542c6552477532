-- How the fields of each kind of message are read, behind the byte of the kind.
use Rattle.std.specs.Prelude.{ℕ, zero, suc, nat_lt, false, List, [], ◌∷◌, Option, None, Result, Ok, slice_get}
use Rattle.std.specs.Int.{w16, w32}
use Rattle.cluster_types.specs.Members.{plain_role}
use Rattle.cluster_types.specs.Partitions.{partition_count}
use Rattle.wire_messages.specs.declared.message.Message.{Message}
use Rattle.wire_messages.specs.declared.message.Message.TheVariants as message
use Rattle.wire_messages.specs.declared.fault.FieldFault.{FieldFault}
use Rattle.wire_messages.specs.Fields.{◌>>=◌}
use Rattle.wire_messages.specs.Numbers.{every, positive, number_at, flag_at}
use Rattle.wire_messages.specs.Keys.{is_none, key_at, key_or_none_at}
use Rattle.wire_messages.specs.Nodes.{ids_at, table_at, role_at, plain_members_at, members_at}
use Rattle.wire_messages.specs.Versions.{digest_at, option_digest_at, version_at, option_version_at, records_at}
use Rattle.wire_messages.specs.Rows.{row_at, state_row_at}
use Rattle.wire_messages.specs.Requests.{want_at, reply_at, refusal_at}

unfoldable pub heartbeat_at : List ℕ → Result (Message × List ℕ) FieldFault
heartbeat_at bytes = do
  view ← key_or_none_at bytes
  promised ← key_or_none_at view.1
  hears ← ids_at 0 15 promised.1
  Ok (message.Heartbeat view.0 promised.0 hears.0 plain_role, hears.1)

unfoldable pub propose_at : List ℕ → Result (Message × List ℕ) FieldFault
propose_at bytes = do
  key ← key_at bytes
  members ← plain_members_at key.1
  Ok (message.Propose key.0 members.0, members.1)

unfoldable pub accept_at : List ℕ → Result (Message × List ℕ) FieldFault
accept_at bytes = do
  key ← key_at bytes
  Ok (message.Accept key.0, key.1)

unfoldable pub refuse_at : List ℕ → Result (Message × List ℕ) FieldFault
refuse_at bytes = do
  refused ← key_at bytes
  promised ← key_at refused.1
  Ok (message.Refuse refused.0 promised.0, promised.1)

unfoldable pub commit_at : List ℕ → Result (Message × List ℕ) FieldFault
commit_at bytes = do
  key ← key_at bytes
  members ← plain_members_at key.1
  Ok (message.Commit key.0 members.0, members.1)

unfoldable pub state_message_at : List ℕ → Result (Message × List ℕ) FieldFault
state_message_at bytes = do
  key ← key_at bytes
  wants ← flag_at key.1
  row ← state_row_at wants.1
  Ok (message.State key.0 wants.0 row.0, row.1)

unfoldable pub batch_at : List ℕ → Result (Message × List ℕ) FieldFault
batch_at bytes = do
  key ← key_at bytes
  number ← number_at w32 positive key.1
  records ← records_at 1 number.1
  Ok (message.Batch (record { key = key.0; number = number.0; records = records.0 }), records.1)

unfoldable pub batch_ack_at : List ℕ → Result (Message × List ℕ) FieldFault
batch_ack_at bytes = do
  key ← key_at bytes
  number ← number_at w32 positive key.1
  Ok (message.BatchAck key.0 number.0, number.1)

unfoldable pub progress_at : List ℕ → Result (Message × List ℕ) FieldFault
progress_at bytes = do
  key ← key_at bytes
  wants ← flag_at key.1
  done ← row_at wants.1
  handed ← row_at done.1
  settled ← row_at handed.1
  Ok (message.Progress key.0 wants.0 done.0 handed.0 settled.0, settled.1)

unfoldable pub repl_at : List ℕ → Result (Message × List ℕ) FieldFault
repl_at bytes = do
  key ← key_at bytes
  transaction ← number_at w32 positive key.1
  nth ← number_at w32 positive transaction.1
  digest ← digest_at nth.1
  version ← version_at digest.1
  Ok (message.Repl key.0 transaction.0 nth.0 digest.0 version.0, version.1)

unfoldable pub repl_ack_at : List ℕ → Result (Message × List ℕ) FieldFault
repl_ack_at bytes = do
  key ← key_at bytes
  transaction ← number_at w32 positive key.1
  Ok (message.ReplAck key.0 transaction.0, transaction.1)

unfoldable pub ask_at : List ℕ → Result (Message × List ℕ) FieldFault
ask_at bytes = do
  key ← key_at bytes
  transaction ← number_at w32 positive key.1
  digest ← digest_at transaction.1
  Ok (message.Ask key.0 transaction.0 digest.0, digest.1)

unfoldable pub answer_at : List ℕ → Result (Message × List ℕ) FieldFault
answer_at bytes = do
  key ← key_at bytes
  transaction ← number_at w32 positive key.1
  version ← option_version_at transaction.1
  Ok (message.Answer key.0 transaction.0 version.0, version.1)

unfoldable pub map_ask_at : List ℕ → Result (Message × List ℕ) FieldFault
map_ask_at bytes = Ok (message.MapAsk, bytes)

unfoldable pub map_table_at : List ℕ → Result (Message × List ℕ) FieldFault
map_table_at bytes = do
  key ← key_at bytes
  ids ← table_at key.1
  moved ← row_at ids.1
  Ok (message.MapTable (record { key = key.0; ids = ids.0; moved = moved.0 }), moved.1)

unfoldable pub heartbeat_with_role_at : List ℕ → Result (Message × List ℕ) FieldFault
heartbeat_with_role_at bytes = do
  view ← key_or_none_at bytes
  promised ← key_or_none_at view.1
  hears ← ids_at 0 15 promised.1
  role ← role_at false hears.1
  Ok (message.Heartbeat view.0 promised.0 hears.0 role.0, role.1)

unfoldable pub propose_with_roles_at : List ℕ → Result (Message × List ℕ) FieldFault
propose_with_roles_at bytes = do
  key ← key_at bytes
  members ← members_at key.1
  Ok (message.Propose key.0 members.0, members.1)

unfoldable pub commit_with_roles_at : List ℕ → Result (Message × List ℕ) FieldFault
commit_with_roles_at bytes = do
  key ← key_at bytes
  members ← members_at key.1
  Ok (message.Commit key.0 members.0, members.1)

unfoldable pub proxy_at : List ℕ → Result (Message × List ℕ) FieldFault
proxy_at bytes = do
  key ← key_at bytes
  number ← number_at w32 positive key.1
  digest ← digest_at number.1
  want ← want_at digest.1
  Ok (message.Proxy key.0 number.0 digest.0 want.0, want.1)

unfoldable pub proxy_reply_at : List ℕ → Result (Message × List ℕ) FieldFault
proxy_reply_at bytes = do
  key ← key_at bytes
  number ← number_at w32 positive key.1
  reply ← reply_at false number.1
  Ok (message.ProxyReply key.0 number.0 reply.0, reply.1)

unfoldable pub call_at : List ℕ → Result (Message × List ℕ) FieldFault
call_at bytes = do
  number ← number_at w32 positive bytes
  digest ← digest_at number.1
  want ← want_at digest.1
  Ok (message.Call number.0 digest.0 want.0, want.1)

-- there may be no view exactly where there is no key
unfoldable pub reply_message_at : List ℕ → Result (Message × List ℕ) FieldFault
reply_message_at bytes = do
  key ← key_or_none_at bytes
  number ← number_at w32 positive key.1
  reply ← reply_at (is_none key.0) number.1
  Ok (message.Reply key.0 number.0 reply.0, reply.1)

unfoldable pub scan_ask_at : List ℕ → Result (Message × List ℕ) FieldFault
scan_ask_at bytes = do
  scan ← number_at w32 positive bytes
  partition ← number_at w16 (λ p. nat_lt p partition_count) scan.1
  after ← option_digest_at partition.1
  Ok (message.ScanAsk scan.0 partition.0 after.0, after.1)

unfoldable pub scan_page_at : List ℕ → Result (Message × List ℕ) FieldFault
scan_page_at bytes = do
  key ← key_at bytes
  scan ← number_at w32 positive key.1
  after ← option_digest_at scan.1
  writes ← number_at w32 every after.1
  records ← records_at 0 writes.1
  more ← flag_at records.1
  Ok (
    message.ScanPage (record {
      key = key.0;
      scan = scan.0;
      after = after.0;
      writes = writes.0;
      records = records.0;
      more = more.0;
    }),
    more.1,
  )

unfoldable pub scan_no_at : List ℕ → Result (Message × List ℕ) FieldFault
scan_no_at bytes = do
  scan ← number_at w32 positive bytes
  refusal ← refusal_at scan.1
  Ok (message.ScanNo scan.0 refusal.0, refusal.1)

-- the kinds from 1 on
abbrev pub kinds : List (List ℕ → Result (Message × List ℕ) FieldFault)
kinds =
    heartbeat_at ∷ propose_at ∷ accept_at ∷ refuse_at ∷ commit_at
    ∷ state_message_at ∷ batch_at ∷ batch_ack_at ∷ progress_at ∷ repl_at
    ∷ repl_ack_at ∷ ask_at ∷ answer_at ∷ map_ask_at ∷ map_table_at
    ∷ heartbeat_with_role_at ∷ propose_with_roles_at ∷ commit_with_roles_at ∷ proxy_at
    ∷ proxy_reply_at
    ∷ call_at ∷ reply_message_at ∷ scan_ask_at ∷ scan_page_at ∷ scan_no_at ∷ []

-- how a kind is read, and none where there is no such kind
abbrev pub kind_of : ℕ → Option (List ℕ → Result (Message × List ℕ) FieldFault)
kind_of zero = None
kind_of (suc n) = slice_get kinds n
