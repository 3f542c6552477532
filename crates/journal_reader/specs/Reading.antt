-- The lines of a journal as a function of their text.
use Rattle.std.specs.Prelude.{ℕ, Bool, true, false, if◌then◌else◌, List, [], ◌∷◌, map, Option, Some, None, codes}
use Rattle.std.specs.Option.{option_and_then}
use Rattle.std.specs.Str.{bytes_eq}
use Rattle.conflict_order.specs.declared.version.Version.{Version}
use Rattle.wire_messages.specs.declared.reply.ReplyBody.{ReplyBody}
use Rattle.wire_messages.specs.declared.reply.ReplyBody.TheVariants as reply
use Rattle.wire_messages.specs.declared.scan.ScanRefusal.{ScanRefusal}
use Rattle.wire_messages.specs.declared.scan.ScanRefusal.TheVariants as scan_refusal
use Rattle.journal_lines.specs.declared.refusal.Refusal.{Refusal}
use Rattle.journal_lines.specs.declared.refusal.Refusal.TheVariants as refusal
use Rattle.journal_lines.specs.declared.line.Line.{Line}
use Rattle.journal_lines.specs.declared.line.Line.TheVariants as line
use Rattle.journal_reader.specs.declared.reading.word.Word.{Word}
use Rattle.journal_reader.specs.declared.reading.word.Word.TheVariants as word
use Rattle.journal_reader.specs.Fields.{Reader, parts_of, at_end, with_field, with_rest, script_version_of, parsed_factor, parsed_node, endpoint_of, parsed_partition, rack_of, long_of, number_of, parsed_count, parsed_key, parsed_policy, parsed_action, parsed_bytes, parsed_digest, parsed_version, optional_of, parsed_members, list_of, parsed_groups}
use Rattle.journal_reader.specs.Words.{parsed_word}

-- ---- what stands last in a line, in one field or more

-- the rack of a node, or nothing
unfoldable pub declared_rack_of : Reader (Option ℕ)
declared_rack_of [] = Some None
declared_rack_of (field ∷ fields) = with_field rack_of (λ rack. at_end (Some rack)) (field ∷ fields)

-- why a node refuses a request
unfoldable pub cause_of : Reader Refusal
cause_of [] = None
cause_of (name ∷ fields) =
    if bytes_eq name (codes "down") then at_end refusal.Down fields
    else if bytes_eq name (codes "noview") then at_end refusal.NoView fields
    else if bytes_eq name (codes "exchanging")
    then with_field parsed_node (λ n. at_end (refusal.Exchanging n)) fields
    else if bytes_eq name (codes "notmaster")
    then with_field parsed_node (λ n. at_end (refusal.NotMaster n)) fields
    else if bytes_eq name (codes "busy")
    then with_field number_of (λ t. at_end (refusal.Busy t)) fields
    else None

-- the causes for which a node has no map
abbrev pub if_mapless : Refusal → Option Refusal
if_mapless refusal.Down = Some refusal.Down
if_mapless refusal.NoView = Some refusal.NoView
if_mapless (refusal.Exchanging n) = Some (refusal.Exchanging n)
if_mapless (refusal.NotMaster n) = None
if_mapless (refusal.Busy t) = None

-- why a node has no map
unfoldable pub mapless_of : Reader Refusal
mapless_of fields = option_and_then if_mapless (cause_of fields)

-- the reply that a read found this
abbrev pub found : Option Version → ReplyBody
found None = reply.Nothing
found (Some v) = reply.Found v

-- the reply that refuses for this cause; whether it may be that there is no view stands before it
abbrev pub refused_for : Bool → Refusal → Option ReplyBody
refused_for no_view refusal.Down = None
refused_for no_view refusal.NoView = if no_view then Some reply.NoView else None
refused_for no_view (refusal.Exchanging n) = Some (reply.Exchanging n)
refused_for no_view (refusal.NotMaster n) = Some (reply.NotMaster n)
refused_for no_view (refusal.Busy t) = Some (reply.Busy t)

-- the version that a read found, or none
abbrev pub found_of : Reader ReplyBody
found_of = with_field optional_of (λ v. at_end (found v))

abbrev pub refused_of : Bool → Reader ReplyBody
refused_of no_view fields = option_and_then (refused_for no_view) (cause_of fields)

-- a reply
unfoldable pub parsed_reply : Bool → Reader ReplyBody
parsed_reply no_view [] = None
parsed_reply no_view (name ∷ fields) =
    if bytes_eq name (codes "value") then found_of fields
    else if bytes_eq name (codes "done") then at_end reply.Done fields
    else if bytes_eq name (codes "refused") then refused_of no_view fields
    else None

-- why a node has no page for a scan
unfoldable pub scan_refusal_of : Reader ScanRefusal
scan_refusal_of [] = None
scan_refusal_of (name ∷ fields) =
    if bytes_eq name (codes "noview") then at_end scan_refusal.NoView fields
    else if bytes_eq name (codes "exchanging")
    then with_field parsed_node (λ n. at_end (scan_refusal.Exchanging n)) fields
    else if bytes_eq name (codes "notmaster")
    then with_field parsed_node (λ n. at_end (scan_refusal.NotMaster n)) fields
    else if bytes_eq name (codes "notsettled") then at_end scan_refusal.NotSettled fields
    else if bytes_eq name (codes "open")
    then with_field number_of (λ t. at_end (scan_refusal.Open t)) fields
    else None

-- ---- lines

-- the fields behind each word, in their order
unfoldable pub of_word : Word → Reader Line
of_word word.Script = with_field script_version_of (λ v. at_end (line.Script v))
of_word word.Factor = with_field parsed_factor (λ f. at_end (line.Factor f))
of_word word.Node = with_field parsed_node
    (λ n. with_rest declared_rack_of (λ rack. line.Node n rack))
of_word word.Policy = with_field parsed_policy (λ p. at_end (line.Policy p))
of_word word.Clock = with_field parsed_node (λ n. with_field long_of (λ t. at_end (line.Clock n t)))
of_word word.Groups = with_rest parsed_groups (λ gs. line.Groups gs)
of_word word.Tick = with_field parsed_node (λ n. at_end (line.Tick n))
of_word word.Stop = with_field parsed_node (λ n. at_end (line.Stop n))
of_word word.Start = with_field parsed_node (λ n. at_end (line.Start n))
of_word word.Down = with_field parsed_node (λ n. at_end (line.Down n))
of_word word.Up = with_field parsed_node (λ n. at_end (line.Up n))
of_word word.Quiesce = with_field parsed_node (λ n. at_end (line.Quiesce n))
of_word word.Unquiesce = with_field parsed_node (λ n. at_end (line.Unquiesce n))
of_word word.Deliver =
    with_field long_of
    (λ i. with_field endpoint_of (λ a. with_field endpoint_of (λ b. at_end (line.Deliver i a b))))
of_word word.Repeat =
    with_field long_of
    (λ i. with_field endpoint_of (λ a. with_field endpoint_of (λ b. at_end (line.Repeat i a b))))
of_word word.Cut =
    with_field long_of (λ i. with_field endpoint_of
    (λ a. with_field endpoint_of (λ b. with_field long_of (λ len. at_end (line.Cut i a b len)))))
of_word word.Lost = with_field long_of (λ i. at_end (line.Lost i))
of_word word.Blocked = with_field long_of (λ i. at_end (line.Blocked i))
of_word word.NoMessage = with_field long_of (λ i. at_end (line.NoMessage i))
of_word word.Sent =
    with_field long_of (λ i. with_field endpoint_of (λ a. with_field endpoint_of
    (λ b. with_field parsed_bytes (λ bytes. at_end (line.Sent i a b bytes)))))
of_word word.Full = with_field long_of (λ i. at_end (line.Full i))
of_word word.Short = with_field endpoint_of (λ b. at_end (line.Short b))
of_word word.Stale = with_field endpoint_of (λ b. at_end (line.Stale b))
of_word word.Spent = with_field endpoint_of (λ b. at_end (line.Spent b))
of_word word.Promise = with_field parsed_node
    (λ n. with_field parsed_key (λ k. at_end (line.Promise n k)))
of_word word.Enter =
    with_field parsed_node (λ n.
    with_field parsed_key (λ k. with_field parsed_members (λ ms. at_end (line.Enter n k ms))))
of_word word.Exchanged =
    with_field parsed_node (λ n. with_field parsed_key (λ k. at_end (line.Exchanged n k)))
of_word word.Handed =
    with_field parsed_node (λ n.
    with_field parsed_key (λ k. with_field parsed_partition (λ p. at_end (line.Handed n k p))))
of_word word.Settled =
    with_field parsed_node (λ n.
    with_field parsed_key (λ k. with_field parsed_partition (λ p. at_end (line.Settled n k p))))
of_word word.Learn =
    with_field parsed_node (λ n.
    with_field parsed_key (λ k. with_field parsed_partition (λ p. at_end (line.Learn n k p))))
of_word word.Drop =
    with_field parsed_node (λ n.
    with_field parsed_key (λ k. with_field parsed_partition (λ p. at_end (line.Drop n k p))))
of_word word.Opened =
    with_field parsed_node (λ n. with_field parsed_key (λ k. with_field number_of (λ t.
    with_field parsed_digest
    (λ d. with_field parsed_action (λ w. at_end (line.Opened n k t d w))))))
of_word word.Refused =
    with_field parsed_node
    (λ n. with_field parsed_digest (λ d. with_rest cause_of (λ c. line.Refused n d c)))
of_word word.Value =
    with_field parsed_node (λ n. with_field parsed_key (λ k. with_field number_of (λ t.
    with_field parsed_digest (λ d. with_field optional_of (λ v. at_end (line.Value n k t d v))))))
of_word word.Apply =
    with_field parsed_node (λ n. with_field parsed_key (λ k. with_field number_of (λ t.
    with_field parsed_digest
    (λ d. with_field parsed_version (λ v. at_end (line.Apply n k t d v))))))
of_word word.Done =
    with_field parsed_node
    (λ n. with_field parsed_key (λ k. with_field number_of (λ t. at_end (line.Done n k t))))
of_word word.Aborted =
    with_field parsed_node
    (λ n. with_field parsed_key (λ k. with_field number_of (λ t. at_end (line.Aborted n k t))))
of_word word.Doubt =
    with_field parsed_node
    (λ n. with_field parsed_key (λ k. with_field number_of (λ t. at_end (line.Doubt n k t))))
of_word word.Merge =
    with_field parsed_node (λ n. with_field parsed_key (λ k.
    with_field parsed_digest (λ d. with_field parsed_version (λ v. at_end (line.Merge n k d v)))))
of_word word.Map =
    with_field parsed_node (λ n. with_field parsed_key (λ k. with_field parsed_partition
    (λ p. with_field list_of (λ ms. with_field parsed_node (λ a. at_end (line.Map n k p ms a))))))
of_word word.Mapless = with_field parsed_node (λ n. with_rest mapless_of (λ c. line.Mapless n c))
of_word word.Place =
    with_field parsed_partition (λ p. with_field list_of (λ ms. at_end (line.Place p ms)))
of_word word.Hash = with_field parsed_digest
    (λ d. with_field parsed_partition (λ p. at_end (line.Hash d p)))
of_word word.Holds =
    with_field parsed_node
    (λ n. with_field parsed_digest (λ d. with_field optional_of (λ v. at_end (line.Holds n d v))))
of_word word.Client = with_field parsed_node
    (λ n. with_field parsed_digest (λ d. at_end (line.Client n d)))
of_word word.NoMap = with_field parsed_partition (λ p. at_end (line.NoMap p))
of_word word.Table = with_field parsed_key (λ k. at_end (line.Table k))
of_word word.Calm = with_field long_of (λ r. at_end (line.Calm r))
of_word word.Proxy =
    with_field parsed_node (λ n. with_field parsed_key (λ k. with_field number_of (λ x.
    with_field parsed_digest (λ d. with_field parsed_action
    (λ w. with_field parsed_node (λ a. at_end (line.Proxy n k x d w a)))))))
of_word word.Proxied =
    with_field parsed_node (λ n. with_field parsed_key
    (λ k. with_field number_of (λ x. with_rest (parsed_reply false) (λ r. line.Proxied n k x r))))
of_word word.Unproxied =
    with_field parsed_node
    (λ n. with_field parsed_key (λ k. with_field number_of (λ x. at_end (line.Unproxied n k x))))
of_word word.CallFull = at_end line.CallFull
of_word word.Call =
    with_field number_of (λ q. with_field parsed_node (λ n.
    with_field parsed_digest (λ d. with_field parsed_action (λ w. at_end (line.Call q n d w)))))
of_word word.NoOpen = with_field long_of (λ q. at_end (line.NoOpen q))
of_word word.Again = with_field number_of
    (λ q. with_field parsed_node (λ n. at_end (line.Again q n)))
of_word word.Reply =
    with_field number_of
    (λ q. with_field parsed_node (λ n. with_rest (parsed_reply true) (λ r. line.Reply q n r)))
of_word word.Scan =
    with_field number_of (λ s.
    with_field parsed_node (λ n. with_field parsed_partition (λ p. at_end (line.Scan s n p))))
of_word word.NoScan = with_field long_of (λ s. at_end (line.NoScan s))
of_word word.Rescan = with_field number_of (λ s. at_end (line.Rescan s))
of_word word.Page =
    with_field number_of (λ s. with_field parsed_count (λ count. at_end (line.Page s count)))
of_word word.Scanned =
    with_field number_of (λ s. with_field parsed_node (λ n. with_field parsed_key (λ k.
    with_field parsed_partition
    (λ p. with_field long_of (λ count. at_end (line.Scanned s n k p count))))))
of_word word.Record =
    with_field number_of (λ s.
    with_field parsed_digest (λ d. with_field parsed_version (λ v. at_end (line.Record s d v))))
of_word word.Unscanned =
    with_field number_of (λ s. with_rest scan_refusal_of (λ c. line.Unscanned s c))

-- a word, and the fields behind it
unfoldable pub parsed_line : Reader Line
parsed_line [] = None
parsed_line (name ∷ fields) = option_and_then (λ w. of_word w fields) (parsed_word name)

-- the first line feed is the last byte; fields have one space between two of them
abbrev pub only_line : List (List ℕ) → Option Line
only_line (text ∷ [] ∷ []) = parsed_line (parts_of 32 text)
only_line _ = None

-- the line of a text with its line feed
unfoldable pub read_line : List ℕ → Option Line
read_line text = only_line (parts_of 10 text)
