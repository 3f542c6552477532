-- The messages that have a spelling: each field keeps its range, and lists keep their counts and orders.
use Rattle.std.specs.Prelude.{◌≡◌, ◌<◌, ◌^◌, false, length, All}
use Rattle.cluster_types.specs.Partitions.{partition_count}
use Rattle.wire_messages.specs.declared.message.Message.{Message}
use Rattle.wire_messages.specs.declared.message.Message.TheVariants as message
use Rattle.wire_messages.specs.declared.message.Batch.{Batch}
use Rattle.wire_messages.specs.declared.message.MapTable.{MapTable}
use Rattle.wire_messages.specs.declared.scan.ScanPage.{ScanPage}
use Rattle.wire_messages.specs.Numbers.{IsNumber}
use Rattle.wire_messages.specs.Keys.{is_none, IsKeyField, IsKeyOrNone}
use Rattle.wire_messages.specs.Nodes.{AreHeard, AreMembersField, IsId}
use Rattle.wire_messages.specs.Versions.{IsDigest, IsOptionDigest, IsVersion, IsOptionVersion, AreRecords}
use Rattle.wire_messages.specs.Rows.{IsRow, IsStateRowField}
use Rattle.wire_messages.specs.Requests.{IsWant, IsReplyBody, IsRefusal}

pub record IsBatch (b : Batch) : Type 0 where
  pub key : IsKeyField b.key
  pub number : IsNumber b.number
  pub records : AreRecords 1 b.records

pub record IsMapTable (t : MapTable) : Type 0 where
  pub key : IsKeyField t.key
  pub size : length t.ids ≡ 4096
  pub ids : All IsId t.ids
  pub moved : IsRow t.moved

pub record IsScanPage (page : ScanPage) : Type 0 where
  pub key : IsKeyField page.key
  pub scan : IsNumber page.scan
  pub after : IsOptionDigest page.after
  pub writes : page.writes < 2 ^ 32
  pub records : AreRecords 0 page.records

-- the facts of each message stand in the order of its fields
abbrev pub IsProper : Message → Type 0
IsProper (message.Heartbeat view promised hears role) =
    IsKeyOrNone view × IsKeyOrNone promised × AreHeard hears × (role.rack < 2 ^ 8)
IsProper (message.Propose key members) = IsKeyField key × AreMembersField members
IsProper (message.Accept key) = IsKeyField key
IsProper (message.Refuse refused promised) = IsKeyField refused × IsKeyField promised
IsProper (message.Commit key members) = IsKeyField key × AreMembersField members
IsProper (message.State key wants row) = IsKeyField key × IsStateRowField row
IsProper (message.Batch b) = IsBatch b
IsProper (message.BatchAck key number) = IsKeyField key × IsNumber number
IsProper (message.Progress key wants done handed settled) =
    IsKeyField key × IsRow done × IsRow handed × IsRow settled
IsProper (message.Repl key transaction nth digest version) =
    IsKeyField key × IsNumber transaction × IsNumber nth × IsDigest digest × IsVersion version
IsProper (message.ReplAck key transaction) = IsKeyField key × IsNumber transaction
IsProper (message.Ask key transaction digest) =
    IsKeyField key × IsNumber transaction × IsDigest digest
IsProper (message.Answer key transaction version) =
    IsKeyField key × IsNumber transaction × IsOptionVersion version
IsProper message.MapAsk = Unit {0}
IsProper (message.MapTable t) = IsMapTable t
IsProper (message.Proxy key number digest want) =
    IsKeyField key × IsNumber number × IsDigest digest × IsWant want
IsProper (message.ProxyReply key number reply) =
    IsKeyField key × IsNumber number × IsReplyBody false reply
IsProper (message.Call number digest want) = IsNumber number × IsDigest digest × IsWant want
IsProper (message.Reply key number reply) =
    IsKeyOrNone key × IsNumber number × IsReplyBody (is_none key) reply
IsProper (message.ScanAsk scan partition after) =
    IsNumber scan × (partition < partition_count) × IsOptionDigest after
IsProper (message.ScanPage page) = IsScanPage page
IsProper (message.ScanNo scan refusal) = IsNumber scan × IsRefusal refusal
