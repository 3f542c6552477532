-- The fields of each line, in their order.
use Rattle.std.specs.Prelude.{ℕ, List, [], ◌∷◌, ◌++◌, map, Option, Some, None, codes}
use Rattle.std.specs.Fmt.{decimal}
use Rattle.hex.specs.Hex.{encode_lower}
use Rattle.cluster_types.specs.Texts.{key_text, digest_text, node_text, partition_text}
use Rattle.wire_messages.specs.declared.reply.ReplyBody.{ReplyBody}
use Rattle.wire_messages.specs.declared.reply.ReplyBody.TheVariants as reply
use Rattle.wire_messages.specs.declared.scan.ScanRefusal.{ScanRefusal}
use Rattle.wire_messages.specs.declared.scan.ScanRefusal.TheVariants as scan_refusal
use Rattle.journal_lines.specs.declared.refusal.Refusal.{Refusal}
use Rattle.journal_lines.specs.declared.refusal.Refusal.TheVariants as refusal
use Rattle.journal_lines.specs.declared.line.Line.{Line}
use Rattle.journal_lines.specs.declared.line.Line.TheVariants as line
use Rattle.journal_text.specs.Values.{version_text, optional_text, policy_word, action_word, members_text}

abbrev pub rack_fields : Option ℕ → List (List ℕ)
rack_fields None = []
rack_fields (Some rack) = decimal rack ∷ []

-- fields with a bar between two parts
abbrev pub between_bars : List (List (List ℕ)) → List (List ℕ)
between_bars [] = []
between_bars (part ∷ []) = part
between_bars (part ∷ next ∷ parts) = part ++ codes "|" ∷ between_bars (next ∷ parts)

abbrev pub ids_fields : List ℕ → List (List ℕ)
ids_fields ids = map (λ n. node_text n) ids

abbrev pub groups_fields : List (List ℕ) → List (List ℕ)
groups_fields groups = between_bars (map ids_fields groups)

abbrev pub cause_fields : Refusal → List (List ℕ)
cause_fields refusal.Down = codes "down" ∷ []
cause_fields refusal.NoView = codes "noview" ∷ []
cause_fields (refusal.Exchanging n) = codes "exchanging" ∷ node_text n ∷ []
cause_fields (refusal.NotMaster n) = codes "notmaster" ∷ node_text n ∷ []
cause_fields (refusal.Busy t) = codes "busy" ∷ decimal t ∷ []

abbrev pub reply_fields : ReplyBody → List (List ℕ)
reply_fields reply.Nothing = codes "value" ∷ codes "none" ∷ []
reply_fields (reply.Found v) = codes "value" ∷ version_text v ∷ []
reply_fields reply.Done = codes "done" ∷ []
reply_fields (reply.Exchanging n) = codes "refused" ∷ codes "exchanging" ∷ node_text n ∷ []
reply_fields (reply.NotMaster n) = codes "refused" ∷ codes "notmaster" ∷ node_text n ∷ []
reply_fields (reply.Busy t) = codes "refused" ∷ codes "busy" ∷ decimal t ∷ []
reply_fields reply.NoView = codes "refused" ∷ codes "noview" ∷ []

abbrev pub scan_refusal_fields : ScanRefusal → List (List ℕ)
scan_refusal_fields scan_refusal.NoView = codes "noview" ∷ []
scan_refusal_fields (scan_refusal.Exchanging n) = codes "exchanging" ∷ node_text n ∷ []
scan_refusal_fields (scan_refusal.NotMaster n) = codes "notmaster" ∷ node_text n ∷ []
scan_refusal_fields scan_refusal.NotSettled = codes "notsettled" ∷ []
scan_refusal_fields (scan_refusal.Open t) = codes "open" ∷ decimal t ∷ []

abbrev pub fields : Line → List (List ℕ)
fields (line.Script v) = codes "script" ∷ decimal v ∷ []
fields (line.Factor f) = codes "factor" ∷ decimal f ∷ []
fields (line.Node n rack) = codes "node" ∷ node_text n ∷ rack_fields rack
fields (line.Policy p) = codes "policy" ∷ policy_word p ∷ []
fields (line.Clock n t) = codes "clock" ∷ node_text n ∷ decimal t ∷ []
fields (line.Groups gs) = codes "groups" ∷ groups_fields gs
fields (line.Tick n) = codes "tick" ∷ node_text n ∷ []
fields (line.Stop n) = codes "stop" ∷ node_text n ∷ []
fields (line.Start n) = codes "start" ∷ node_text n ∷ []
fields (line.Down n) = codes "down" ∷ node_text n ∷ []
fields (line.Up n) = codes "up" ∷ node_text n ∷ []
fields (line.Quiesce n) = codes "quiesce" ∷ node_text n ∷ []
fields (line.Unquiesce n) = codes "unquiesce" ∷ node_text n ∷ []
fields (line.Deliver i a b) = codes "deliver" ∷ decimal i ∷ decimal a ∷ decimal b ∷ []
fields (line.Repeat i a b) = codes "repeat" ∷ decimal i ∷ decimal a ∷ decimal b ∷ []
fields (line.Cut i a b len) = codes "cut" ∷ decimal i ∷ decimal a ∷ decimal b ∷ decimal len ∷ []
fields (line.Lost i) = codes "lost" ∷ decimal i ∷ []
fields (line.Blocked i) = codes "blocked" ∷ decimal i ∷ []
fields (line.NoMessage i) = codes "nomessage" ∷ decimal i ∷ []
fields (line.Sent i a b bytes) =
    codes "sent" ∷ decimal i ∷ decimal a ∷ decimal b ∷ encode_lower bytes ∷ []
fields (line.Full i) = codes "full" ∷ decimal i ∷ []
fields (line.Short b) = codes "short" ∷ decimal b ∷ []
fields (line.Stale b) = codes "stale" ∷ decimal b ∷ []
fields (line.Spent b) = codes "spent" ∷ decimal b ∷ []
fields (line.Promise n k) = codes "promise" ∷ node_text n ∷ key_text k ∷ []
fields (line.Enter n k ms) = codes "enter" ∷ node_text n ∷ key_text k ∷ members_text ms ∷ []
fields (line.Exchanged n k) = codes "exchanged" ∷ node_text n ∷ key_text k ∷ []
fields (line.Handed n k p) = codes "handed" ∷ node_text n ∷ key_text k ∷ partition_text p ∷ []
fields (line.Settled n k p) = codes "settled" ∷ node_text n ∷ key_text k ∷ partition_text p ∷ []
fields (line.Learn n k p) = codes "learn" ∷ node_text n ∷ key_text k ∷ partition_text p ∷ []
fields (line.Drop n k p) = codes "drop" ∷ node_text n ∷ key_text k ∷ partition_text p ∷ []
fields (line.Opened n k t d w) =
    codes "opened" ∷ node_text n ∷ key_text k ∷ decimal t ∷ digest_text d ∷ action_word w ∷ []
fields (line.Refused n d c) = codes "refused" ∷ node_text n ∷ digest_text d ∷ cause_fields c
fields (line.Value n k t d v) =
    codes "value" ∷ node_text n ∷ key_text k ∷ decimal t ∷ digest_text d ∷ optional_text v ∷ []
fields (line.Apply n k t d v) =
    codes "apply" ∷ node_text n ∷ key_text k ∷ decimal t ∷ digest_text d ∷ version_text v ∷ []
fields (line.Done n k t) = codes "done" ∷ node_text n ∷ key_text k ∷ decimal t ∷ []
fields (line.Aborted n k t) = codes "aborted" ∷ node_text n ∷ key_text k ∷ decimal t ∷ []
fields (line.Doubt n k t) = codes "doubt" ∷ node_text n ∷ key_text k ∷ decimal t ∷ []
fields (line.Merge n k d v) =
    codes "merge" ∷ node_text n ∷ key_text k ∷ digest_text d ∷ version_text v ∷ []
fields (line.Map n k p ms a) =
    codes "map" ∷ node_text n ∷ key_text k ∷ partition_text p ∷ members_text ms ∷ node_text a ∷ []
fields (line.Mapless n c) = codes "mapless" ∷ node_text n ∷ cause_fields c
fields (line.Place p ms) = codes "place" ∷ partition_text p ∷ members_text ms ∷ []
fields (line.Hash d p) = codes "hash" ∷ digest_text d ∷ partition_text p ∷ []
fields (line.Holds n d v) = codes "holds" ∷ node_text n ∷ digest_text d ∷ optional_text v ∷ []
fields (line.Client n d) = codes "client" ∷ node_text n ∷ digest_text d ∷ []
fields (line.NoMap p) = codes "nomap" ∷ partition_text p ∷ []
fields (line.Table k) = codes "table" ∷ key_text k ∷ []
fields (line.Calm r) = codes "calm" ∷ decimal r ∷ []
fields (line.Proxy n k x d w a) =
    codes "proxy" ∷ node_text n ∷ key_text k ∷ decimal x ∷ digest_text d ∷ action_word w
    ∷ node_text a ∷ []
fields (line.Proxied n k x r) =
    codes "proxied" ∷ node_text n ∷ key_text k ∷ decimal x ∷ reply_fields r
fields (line.Unproxied n k x) = codes "unproxied" ∷ node_text n ∷ key_text k ∷ decimal x ∷ []
fields line.CallFull = codes "callfull" ∷ []
fields (line.Call q n d w) =
    codes "call" ∷ decimal q ∷ node_text n ∷ digest_text d ∷ action_word w ∷ []
fields (line.NoOpen q) = codes "noopen" ∷ decimal q ∷ []
fields (line.Again q n) = codes "again" ∷ decimal q ∷ node_text n ∷ []
fields (line.Reply q n r) = codes "reply" ∷ decimal q ∷ node_text n ∷ reply_fields r
fields (line.Scan s n p) = codes "scan" ∷ decimal s ∷ node_text n ∷ partition_text p ∷ []
fields (line.NoScan s) = codes "noscan" ∷ decimal s ∷ []
fields (line.Rescan s) = codes "rescan" ∷ decimal s ∷ []
fields (line.Page s count) = codes "page" ∷ decimal s ∷ decimal count ∷ []
fields (line.Scanned s n k p count) =
    codes "scanned" ∷ decimal s ∷ node_text n ∷ key_text k ∷ partition_text p ∷ decimal count ∷ []
fields (line.Record s d v) = codes "record" ∷ decimal s ∷ digest_text d ∷ version_text v ∷ []
fields (line.Unscanned s c) = codes "unscanned" ∷ decimal s ∷ scan_refusal_fields c
