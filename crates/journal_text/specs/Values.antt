-- The text of a journal.
use Rattle.std.specs.Prelude.{ℕ, ◌==◌, Bool, true, false, List, [], ◌∷◌, ◌++◌, Option, Some, None, codes, if◌then◌else◌}
use Rattle.std.specs.Fmt.{decimal}
use Rattle.std.specs.List.{flat_map}
use Rattle.hex.specs.Hex.{encode_lower}
use Rattle.conflict_order.specs.declared.version.Version.{Version}
use Rattle.conflict_order.specs.declared.version.Body.{Body}
use Rattle.conflict_order.specs.declared.version.Body.TheVariants as body
use Rattle.conflict_order.specs.declared.policy.Policy.{Policy}
use Rattle.conflict_order.specs.declared.policy.Policy.TheVariants as policy
use Rattle.conflict_order.specs.declared.want.Action.{Action}
use Rattle.conflict_order.specs.declared.want.Action.TheVariants as action
use Rattle.cluster_types.specs.Texts.{node_text}
use Rattle.cluster_types.specs.declared.member.Role.{Role}
use Rattle.cluster_types.specs.declared.member.Member.{Member}
use Rattle.wire_messages.specs.declared.reply.ReplyBody.{ReplyBody}
use Rattle.wire_messages.specs.declared.reply.ReplyBody.TheVariants as reply
use Rattle.wire_messages.specs.declared.scan.ScanRefusal.{ScanRefusal}
use Rattle.wire_messages.specs.declared.scan.ScanRefusal.TheVariants as scan_refusal
use Rattle.journal_lines.specs.declared.refusal.Refusal.{Refusal}
use Rattle.journal_lines.specs.declared.refusal.Refusal.TheVariants as refusal

-- a tombstone's mark, or a value's mark and its bytes
abbrev pub body_text : Body → List ℕ
body_text body.Tombstone = codes "-"
body_text (body.Value bytes) = codes "=" ++ encode_lower bytes

-- the time, the generation and the body
abbrev pub version_text : Version → List ℕ
version_text v = decimal v.lut ++ codes "." ++ decimal v.generation ++ body_text v.body

abbrev pub optional_text : Option Version → List ℕ
optional_text None = codes "none"
optional_text (Some v) = version_text v

abbrev pub policy_word : Policy → List ℕ
policy_word policy.Time = codes "time"
policy_word policy.Generation = codes "generation"

abbrev pub action_word : Action → List ℕ
action_word action.Get = codes "get"
action_word action.Put = codes "put"
action_word action.Del = codes "del"

abbrev pub refusal_text : Refusal → List ℕ
refusal_text refusal.Down = codes "down"
refusal_text refusal.NoView = codes "noview"
refusal_text (refusal.Exchanging n) = codes "exchanging " ++ node_text n
refusal_text (refusal.NotMaster n) = codes "notmaster " ++ node_text n
refusal_text (refusal.Busy t) = codes "busy " ++ decimal t

-- a slash and the rack, and a mark where it is quiesced
abbrev pub rack_text : ℕ → Bool → List ℕ
rack_text rack true = codes "/" ++ decimal rack ++ codes "q"
rack_text rack false = if rack == 0 then [] else codes "/" ++ decimal rack

-- a plain role has no text
abbrev pub role_text : Role → List ℕ
role_text r = rack_text r.rack r.quiesced

abbrev pub member_text : Member → List ℕ
member_text m = node_text m.id ++ role_text m.role

-- members with commas between them
abbrev pub more_members_text : List Member → List ℕ
more_members_text ms = flat_map (λ m. codes "," ++ member_text m) ms

abbrev pub members_text : List Member → List ℕ
members_text [] = codes "none"
members_text (m ∷ ms) = member_text m ++ more_members_text ms

-- ids, each with a space before it
abbrev pub ids_text : List ℕ → List ℕ
ids_text ids = flat_map (λ n. codes " " ++ node_text n) ids

-- groups, each with a bar before it
abbrev pub more_groups_text : List (List ℕ) → List ℕ
more_groups_text groups = flat_map (λ ids. codes " |" ++ ids_text ids) groups

-- groups with bars between them, and a space before each id and bar
abbrev pub groups_text : List (List ℕ) → List ℕ
groups_text [] = []
groups_text (ids ∷ groups) = ids_text ids ++ more_groups_text groups

-- what a request found, that it was done, or why it was refused
abbrev pub reply_text : ReplyBody → List ℕ
reply_text reply.Nothing = codes "value none"
reply_text (reply.Found v) = codes "value " ++ version_text v
reply_text reply.Done = codes "done"
reply_text (reply.Exchanging n) = codes "refused exchanging " ++ node_text n
reply_text (reply.NotMaster n) = codes "refused notmaster " ++ node_text n
reply_text (reply.Busy t) = codes "refused busy " ++ decimal t
reply_text reply.NoView = codes "refused noview"

abbrev pub scan_refusal_text : ScanRefusal → List ℕ
scan_refusal_text scan_refusal.NoView = codes "noview"
scan_refusal_text (scan_refusal.Exchanging n) = codes "exchanging " ++ node_text n
scan_refusal_text (scan_refusal.NotMaster n) = codes "notmaster " ++ node_text n
scan_refusal_text scan_refusal.NotSettled = codes "notsettled"
scan_refusal_text (scan_refusal.Open t) = codes "open " ++ decimal t
