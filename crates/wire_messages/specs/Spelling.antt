-- The one spelling of each message: the byte of its kind, and then its fields in their order.
use Rattle.std.specs.Prelude.{ℕ, if◌then◌else◌, List, [], ◌∷◌, flat_map}
use Rattle.std.specs.List.{concat}
use Rattle.std.specs.Int.{w16, w32}
use Rattle.cluster_types.specs.declared.cluster_key.ClusterKey.{ClusterKey}
use Rattle.cluster_types.specs.declared.member.Member.{Member}
use Rattle.cluster_types.specs.declared.member.Role.{Role}
use Rattle.cluster_types.specs.RowBytes.{bytes_of}
use Rattle.wire_messages.specs.declared.message.Message.{Message}
use Rattle.wire_messages.specs.declared.message.Message.TheVariants as message
use Rattle.wire_messages.specs.Numbers.{number_field, byte_field, flag_field}
use Rattle.wire_messages.specs.Keys.{key_field}
use Rattle.wire_messages.specs.Nodes.{id_field, ids_field, role_field, is_plain, all_plain, plain_members_field, members_field}
use Rattle.wire_messages.specs.Versions.{option_digest_field, version_field, option_version_field, records_field}
use Rattle.wire_messages.specs.Rows.{state_row_field}
use Rattle.wire_messages.specs.Requests.{want_field, reply_field, refusal_field}

-- a plain role isn't written
abbrev pub heartbeat_fields : ClusterKey → ClusterKey → List ℕ → Role → List (List ℕ)
heartbeat_fields view promised hears role =
    if is_plain role then byte_field 1 ∷ key_field view ∷ key_field promised ∷ ids_field hears ∷ []
    else byte_field 16 ∷ key_field view ∷ key_field promised ∷ ids_field hears ∷ role_field role
    ∷ []

-- roles aren't written where all are plain
abbrev pub view_fields : ℕ → ℕ → ClusterKey → List Member → List (List ℕ)
view_fields plain_kind kind key members =
    if all_plain members
    then byte_field plain_kind ∷ key_field key ∷ plain_members_field members ∷ []
    else byte_field kind ∷ key_field key ∷ members_field members ∷ []

-- the kind of the message, and its fields
abbrev pub fields_of : Message → List (List ℕ)
fields_of (message.Heartbeat view promised hears role) = heartbeat_fields view promised hears role
fields_of (message.Propose key members) = view_fields 2 17 key members
fields_of (message.Accept key) = byte_field 3 ∷ key_field key ∷ []
fields_of (message.Refuse refused promised) =
    byte_field 4 ∷ key_field refused ∷ key_field promised ∷ []
fields_of (message.Commit key members) = view_fields 5 18 key members
fields_of (message.State key wants row) =
    byte_field 6 ∷ key_field key ∷ flag_field wants ∷ state_row_field row ∷ []
fields_of (message.Batch b) =
    byte_field 7 ∷ key_field b.key ∷ number_field w32 b.number ∷ records_field b.records ∷ []
fields_of (message.BatchAck key number) =
    byte_field 8 ∷ key_field key ∷ number_field w32 number ∷ []
fields_of (message.Progress key wants done handed settled) =
    byte_field 9 ∷ key_field key ∷ flag_field wants ∷ bytes_of done ∷ bytes_of handed
    ∷ bytes_of settled ∷ []
fields_of (message.Repl key transaction nth digest version) =
    byte_field 10 ∷ key_field key ∷ number_field w32 transaction ∷ number_field w32 nth ∷ digest
    ∷ version_field version ∷ []
fields_of (message.ReplAck key transaction) =
    byte_field 11 ∷ key_field key ∷ number_field w32 transaction ∷ []
fields_of (message.Ask key transaction digest) =
    byte_field 12 ∷ key_field key ∷ number_field w32 transaction ∷ digest ∷ []
fields_of (message.Answer key transaction version) =
    byte_field 13 ∷ key_field key ∷ number_field w32 transaction ∷ option_version_field version ∷ []
fields_of message.MapAsk = byte_field 14 ∷ []
fields_of (message.MapTable t) =
    byte_field 15 ∷ key_field t.key ∷ flat_map id_field t.ids ∷ bytes_of t.moved ∷ []
fields_of (message.Proxy key number digest want) =
    byte_field 19 ∷ key_field key ∷ number_field w32 number ∷ digest ∷ want_field want ∷ []
fields_of (message.ProxyReply key number reply) =
    byte_field 20 ∷ key_field key ∷ number_field w32 number ∷ reply_field reply ∷ []
fields_of (message.Call number digest want) =
    byte_field 21 ∷ number_field w32 number ∷ digest ∷ want_field want ∷ []
fields_of (message.Reply key number reply) =
    byte_field 22 ∷ key_field key ∷ number_field w32 number ∷ reply_field reply ∷ []
fields_of (message.ScanAsk scan partition after) =
    byte_field 23 ∷ number_field w32 scan ∷ number_field w16 partition ∷ option_digest_field after
    ∷ []
fields_of (message.ScanPage page) =
    byte_field 24 ∷ key_field page.key ∷ number_field w32 page.scan ∷ option_digest_field page.after
    ∷ number_field w32 page.writes ∷ records_field page.records ∷ flag_field page.more ∷ []
fields_of (message.ScanNo scan refusal) =
    byte_field 25 ∷ number_field w32 scan ∷ refusal_field refusal ∷ []

unfoldable pub spelling : Message → List ℕ
spelling m = concat (fields_of m)
