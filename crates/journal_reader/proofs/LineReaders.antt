-- Each line is read back from its fields, and what is read has these fields.
use Rattle.std.proofs.Common.{◌≡◌, ℕ, true, false, List, [], ◌∷◌, Some, refl, ap, ◌∙◌}
use Rattle.std.specs.Fmt.{decimal}
use Rattle.std.specs.Option.{option_and_then}
use Rattle.std.proofs.lemmas.Option.{none-some, option_and_then_some}
use Rattle.hex.specs.Hex.{encode_lower}
use Rattle.cluster_types.specs.Texts.{key_text, digest_text, node_text, partition_text}
use Rattle.journal_lines.specs.declared.line.Line.{Line}
use Rattle.journal_lines.specs.declared.line.Line.TheVariants as line
use Rattle.journal_reader.specs.declared.reading.word.Word.{Word}
use Rattle.journal_reader.specs.declared.reading.word.Word.TheVariants as word
use Rattle.journal_text.specs.LineFields.{fields, rack_fields, groups_fields, cause_fields, reply_fields, scan_refusal_fields}
use Rattle.journal_lines.specs.Proper.{IsProper}
use Rattle.journal_reader.specs.Reading.{of_word, parsed_line}
use Rattle.journal_reader.specs.Words.{parsed_word}
use Rattle.journal_text.specs.Values.{version_text, optional_text, policy_word, action_word, members_text}
use Rattle.journal_reader.proofs.Readers.{ReadsAll, Back, Only, ended_back, field_back, rest_back, ended_only, field_only, rest_only, reads_all}
use Rattle.journal_reader.proofs.KeyFields.{IsVisible, script_version_field, factor_field, node_field, endpoint_field, partition_field, long_field, number_field, count_field, key_field}
use Rattle.journal_reader.proofs.ByteFields.{policy_field, action_field, bytes_field, digest_field}
use Rattle.journal_reader.proofs.VersionFields.{version_field, optional_field}
use Rattle.journal_reader.proofs.ListFields.{members_field, list_field}
use Rattle.journal_reader.proofs.GroupFields.{groups_rest}
use Rattle.journal_reader.proofs.CauseFields.{rack_rest, cause_rest, mapless_rest, scan_refusal_rest, reply_rest}
use Rattle.journal_reader.proofs.WordLaws.{word_text, word_back, word_is_clean, word_only}

word_then : (w : Word) (rest : List (List ℕ)) (l : Line) → Back IsVisible (of_word w) rest l → Back IsVisible parsed_line (word_text w ∷ rest) l
unfolding parsed_line
word_then w rest l b = record {
  again = ap (option_and_then (λ v. of_word v rest)) (word_back w) ∙ b.again;
  clean = (word_is_clean w, b.clean);
}

line_back : (l : Line) → IsProper l → Back IsVisible parsed_line (fields l) l
unfolding of_word
line_back (line.Script v) h = word_then word.Script (decimal v ∷ []) (line.Script v) (field_back _ script_version_field v h (ended_back IsVisible (line.Script v)))
line_back (line.Factor f) h = word_then word.Factor (decimal f ∷ []) (line.Factor f) (field_back _ factor_field f h (ended_back IsVisible (line.Factor f)))
line_back (line.Node n rack) h = word_then word.Node (node_text n ∷ rack_fields rack) (line.Node n rack) (field_back _ node_field n h.0 (rest_back _ rack_rest rack h.1))
line_back (line.Policy p) h = word_then word.Policy (policy_word p ∷ []) (line.Policy p) (field_back _ policy_field p tt (ended_back IsVisible (line.Policy p)))
line_back (line.Clock n t) h = word_then word.Clock (node_text n ∷ decimal t ∷ []) (line.Clock n t) (field_back _ node_field n h.0 (field_back _ long_field t h.1 (ended_back IsVisible (line.Clock n t))))
line_back (line.Groups gs) h = word_then word.Groups (groups_fields gs) (line.Groups gs) (rest_back _ groups_rest gs h)
line_back (line.Tick n) h = word_then word.Tick (node_text n ∷ []) (line.Tick n) (field_back _ node_field n h (ended_back IsVisible (line.Tick n)))
line_back (line.Stop n) h = word_then word.Stop (node_text n ∷ []) (line.Stop n) (field_back _ node_field n h (ended_back IsVisible (line.Stop n)))
line_back (line.Start n) h = word_then word.Start (node_text n ∷ []) (line.Start n) (field_back _ node_field n h (ended_back IsVisible (line.Start n)))
line_back (line.Down n) h = word_then word.Down (node_text n ∷ []) (line.Down n) (field_back _ node_field n h (ended_back IsVisible (line.Down n)))
line_back (line.Up n) h = word_then word.Up (node_text n ∷ []) (line.Up n) (field_back _ node_field n h (ended_back IsVisible (line.Up n)))
line_back (line.Quiesce n) h = word_then word.Quiesce (node_text n ∷ []) (line.Quiesce n) (field_back _ node_field n h (ended_back IsVisible (line.Quiesce n)))
line_back (line.Unquiesce n) h = word_then word.Unquiesce (node_text n ∷ []) (line.Unquiesce n) (field_back _ node_field n h (ended_back IsVisible (line.Unquiesce n)))
line_back (line.Deliver i a b) h = word_then word.Deliver (decimal i ∷ decimal a ∷ decimal b ∷ []) (line.Deliver i a b) (field_back _ long_field i h.message (field_back _ endpoint_field a h.from (field_back _ endpoint_field b h.to (ended_back IsVisible (line.Deliver i a b)))))
line_back (line.Repeat i a b) h = word_then word.Repeat (decimal i ∷ decimal a ∷ decimal b ∷ []) (line.Repeat i a b) (field_back _ long_field i h.message (field_back _ endpoint_field a h.from (field_back _ endpoint_field b h.to (ended_back IsVisible (line.Repeat i a b)))))
line_back (line.Cut i a b len) h = word_then word.Cut (decimal i ∷ decimal a ∷ decimal b ∷ decimal len ∷ []) (line.Cut i a b len) (field_back _ long_field i h.0.message (field_back _ endpoint_field a h.0.from (field_back _ endpoint_field b h.0.to (field_back _ long_field len h.1 (ended_back IsVisible (line.Cut i a b len))))))
line_back (line.Lost i) h = word_then word.Lost (decimal i ∷ []) (line.Lost i) (field_back _ long_field i h (ended_back IsVisible (line.Lost i)))
line_back (line.Blocked i) h = word_then word.Blocked (decimal i ∷ []) (line.Blocked i) (field_back _ long_field i h (ended_back IsVisible (line.Blocked i)))
line_back (line.NoMessage i) h = word_then word.NoMessage (decimal i ∷ []) (line.NoMessage i) (field_back _ long_field i h (ended_back IsVisible (line.NoMessage i)))
line_back (line.Sent i a b bytes) h = word_then word.Sent (decimal i ∷ decimal a ∷ decimal b ∷ encode_lower bytes ∷ []) (line.Sent i a b bytes) (field_back _ long_field i h.0.message (field_back _ endpoint_field a h.0.from (field_back _ endpoint_field b h.0.to (field_back _ bytes_field bytes h.1 (ended_back IsVisible (line.Sent i a b bytes))))))
line_back (line.Full i) h = word_then word.Full (decimal i ∷ []) (line.Full i) (field_back _ long_field i h (ended_back IsVisible (line.Full i)))
line_back (line.Short b) h = word_then word.Short (decimal b ∷ []) (line.Short b) (field_back _ endpoint_field b h (ended_back IsVisible (line.Short b)))
line_back (line.Stale b) h = word_then word.Stale (decimal b ∷ []) (line.Stale b) (field_back _ endpoint_field b h (ended_back IsVisible (line.Stale b)))
line_back (line.Spent b) h = word_then word.Spent (decimal b ∷ []) (line.Spent b) (field_back _ endpoint_field b h (ended_back IsVisible (line.Spent b)))
line_back (line.Promise n k) h = word_then word.Promise (node_text n ∷ key_text k ∷ []) (line.Promise n k) (field_back _ node_field n h.node (field_back _ key_field k h.key (ended_back IsVisible (line.Promise n k))))
line_back (line.Enter n k ms) h = word_then word.Enter (node_text n ∷ key_text k ∷ members_text ms ∷ []) (line.Enter n k ms) (field_back _ node_field n h.0.node (field_back _ key_field k h.0.key (field_back _ members_field ms h.1 (ended_back IsVisible (line.Enter n k ms)))))
line_back (line.Exchanged n k) h = word_then word.Exchanged (node_text n ∷ key_text k ∷ []) (line.Exchanged n k) (field_back _ node_field n h.node (field_back _ key_field k h.key (ended_back IsVisible (line.Exchanged n k))))
line_back (line.Handed n k p) h = word_then word.Handed (node_text n ∷ key_text k ∷ partition_text p ∷ []) (line.Handed n k p) (field_back _ node_field n h.0.node (field_back _ key_field k h.0.key (field_back _ partition_field p h.1 (ended_back IsVisible (line.Handed n k p)))))
line_back (line.Settled n k p) h = word_then word.Settled (node_text n ∷ key_text k ∷ partition_text p ∷ []) (line.Settled n k p) (field_back _ node_field n h.0.node (field_back _ key_field k h.0.key (field_back _ partition_field p h.1 (ended_back IsVisible (line.Settled n k p)))))
line_back (line.Learn n k p) h = word_then word.Learn (node_text n ∷ key_text k ∷ partition_text p ∷ []) (line.Learn n k p) (field_back _ node_field n h.0.node (field_back _ key_field k h.0.key (field_back _ partition_field p h.1 (ended_back IsVisible (line.Learn n k p)))))
line_back (line.Drop n k p) h = word_then word.Drop (node_text n ∷ key_text k ∷ partition_text p ∷ []) (line.Drop n k p) (field_back _ node_field n h.0.node (field_back _ key_field k h.0.key (field_back _ partition_field p h.1 (ended_back IsVisible (line.Drop n k p)))))
line_back (line.Opened n k t d w) h = word_then word.Opened (node_text n ∷ key_text k ∷ decimal t ∷ digest_text d ∷ action_word w ∷ []) (line.Opened n k t d w) (field_back _ node_field n h.0.node (field_back _ key_field k h.0.key (field_back _ number_field t h.1 (field_back _ digest_field d h.2 (field_back _ action_field w tt (ended_back IsVisible (line.Opened n k t d w)))))))
line_back (line.Refused n d c) h = word_then word.Refused (node_text n ∷ digest_text d ∷ cause_fields c) (line.Refused n d c) (field_back _ node_field n h.0 (field_back _ digest_field d h.1 (rest_back _ cause_rest c h.2)))
line_back (line.Value n k t d v) h = word_then word.Value (node_text n ∷ key_text k ∷ decimal t ∷ digest_text d ∷ optional_text v ∷ []) (line.Value n k t d v) (field_back _ node_field n h.0.node (field_back _ key_field k h.0.key (field_back _ number_field t h.1 (field_back _ digest_field d h.2 (field_back _ optional_field v h.3 (ended_back IsVisible (line.Value n k t d v)))))))
line_back (line.Apply n k t d v) h = word_then word.Apply (node_text n ∷ key_text k ∷ decimal t ∷ digest_text d ∷ version_text v ∷ []) (line.Apply n k t d v) (field_back _ node_field n h.0.node (field_back _ key_field k h.0.key (field_back _ number_field t h.1 (field_back _ digest_field d h.2 (field_back _ version_field v h.3 (ended_back IsVisible (line.Apply n k t d v)))))))
line_back (line.Done n k t) h = word_then word.Done (node_text n ∷ key_text k ∷ decimal t ∷ []) (line.Done n k t) (field_back _ node_field n h.0.node (field_back _ key_field k h.0.key (field_back _ number_field t h.1 (ended_back IsVisible (line.Done n k t)))))
line_back (line.Aborted n k t) h = word_then word.Aborted (node_text n ∷ key_text k ∷ decimal t ∷ []) (line.Aborted n k t) (field_back _ node_field n h.0.node (field_back _ key_field k h.0.key (field_back _ number_field t h.1 (ended_back IsVisible (line.Aborted n k t)))))
line_back (line.Doubt n k t) h = word_then word.Doubt (node_text n ∷ key_text k ∷ decimal t ∷ []) (line.Doubt n k t) (field_back _ node_field n h.0.node (field_back _ key_field k h.0.key (field_back _ number_field t h.1 (ended_back IsVisible (line.Doubt n k t)))))
line_back (line.Merge n k d v) h = word_then word.Merge (node_text n ∷ key_text k ∷ digest_text d ∷ version_text v ∷ []) (line.Merge n k d v) (field_back _ node_field n h.0.node (field_back _ key_field k h.0.key (field_back _ digest_field d h.1 (field_back _ version_field v h.2 (ended_back IsVisible (line.Merge n k d v))))))
line_back (line.Map n k p ms a) h = word_then word.Map (node_text n ∷ key_text k ∷ partition_text p ∷ members_text ms ∷ node_text a ∷ []) (line.Map n k p ms a) (field_back _ node_field n h.0.node (field_back _ key_field k h.0.key (field_back _ partition_field p h.1 (field_back _ list_field ms h.2 (field_back _ node_field a h.3 (ended_back IsVisible (line.Map n k p ms a)))))))
line_back (line.Mapless n c) h = word_then word.Mapless (node_text n ∷ cause_fields c) (line.Mapless n c) (field_back _ node_field n h.0 (rest_back _ mapless_rest c h.1))
line_back (line.Place p ms) h = word_then word.Place (partition_text p ∷ members_text ms ∷ []) (line.Place p ms) (field_back _ partition_field p h.0 (field_back _ list_field ms h.1 (ended_back IsVisible (line.Place p ms))))
line_back (line.Hash d p) h = word_then word.Hash (digest_text d ∷ partition_text p ∷ []) (line.Hash d p) (field_back _ digest_field d h.0 (field_back _ partition_field p h.1 (ended_back IsVisible (line.Hash d p))))
line_back (line.Holds n d v) h = word_then word.Holds (node_text n ∷ digest_text d ∷ optional_text v ∷ []) (line.Holds n d v) (field_back _ node_field n h.0 (field_back _ digest_field d h.1 (field_back _ optional_field v h.2 (ended_back IsVisible (line.Holds n d v)))))
line_back (line.Client n d) h = word_then word.Client (node_text n ∷ digest_text d ∷ []) (line.Client n d) (field_back _ node_field n h.0 (field_back _ digest_field d h.1 (ended_back IsVisible (line.Client n d))))
line_back (line.NoMap p) h = word_then word.NoMap (partition_text p ∷ []) (line.NoMap p) (field_back _ partition_field p h (ended_back IsVisible (line.NoMap p)))
line_back (line.Table k) h = word_then word.Table (key_text k ∷ []) (line.Table k) (field_back _ key_field k h (ended_back IsVisible (line.Table k)))
line_back (line.Calm r) h = word_then word.Calm (decimal r ∷ []) (line.Calm r) (field_back _ long_field r h (ended_back IsVisible (line.Calm r)))
line_back (line.Proxy n k x d w a) h = word_then word.Proxy (node_text n ∷ key_text k ∷ decimal x ∷ digest_text d ∷ action_word w ∷ node_text a ∷ []) (line.Proxy n k x d w a) (field_back _ node_field n h.0.node (field_back _ key_field k h.0.key (field_back _ number_field x h.1 (field_back _ digest_field d h.2 (field_back _ action_field w tt (field_back _ node_field a h.3 (ended_back IsVisible (line.Proxy n k x d w a))))))))
line_back (line.Proxied n k x r) h = word_then word.Proxied (node_text n ∷ key_text k ∷ decimal x ∷ reply_fields r) (line.Proxied n k x r) (field_back _ node_field n h.0.node (field_back _ key_field k h.0.key (field_back _ number_field x h.1 (rest_back _ (reply_rest false) r h.2))))
line_back (line.Unproxied n k x) h = word_then word.Unproxied (node_text n ∷ key_text k ∷ decimal x ∷ []) (line.Unproxied n k x) (field_back _ node_field n h.0.node (field_back _ key_field k h.0.key (field_back _ number_field x h.1 (ended_back IsVisible (line.Unproxied n k x)))))
line_back line.CallFull h = word_then word.CallFull ([]) line.CallFull (ended_back IsVisible line.CallFull)
line_back (line.Call q n d w) h = word_then word.Call (decimal q ∷ node_text n ∷ digest_text d ∷ action_word w ∷ []) (line.Call q n d w) (field_back _ number_field q h.0 (field_back _ node_field n h.1 (field_back _ digest_field d h.2 (field_back _ action_field w tt (ended_back IsVisible (line.Call q n d w))))))
line_back (line.NoOpen q) h = word_then word.NoOpen (decimal q ∷ []) (line.NoOpen q) (field_back _ long_field q h (ended_back IsVisible (line.NoOpen q)))
line_back (line.Again q n) h = word_then word.Again (decimal q ∷ node_text n ∷ []) (line.Again q n) (field_back _ number_field q h.0 (field_back _ node_field n h.1 (ended_back IsVisible (line.Again q n))))
line_back (line.Reply q n r) h = word_then word.Reply (decimal q ∷ node_text n ∷ reply_fields r) (line.Reply q n r) (field_back _ number_field q h.0 (field_back _ node_field n h.1 (rest_back _ (reply_rest true) r h.2)))
line_back (line.Scan s n p) h = word_then word.Scan (decimal s ∷ node_text n ∷ partition_text p ∷ []) (line.Scan s n p) (field_back _ number_field s h.0 (field_back _ node_field n h.1 (field_back _ partition_field p h.2 (ended_back IsVisible (line.Scan s n p)))))
line_back (line.NoScan s) h = word_then word.NoScan (decimal s ∷ []) (line.NoScan s) (field_back _ long_field s h (ended_back IsVisible (line.NoScan s)))
line_back (line.Rescan s) h = word_then word.Rescan (decimal s ∷ []) (line.Rescan s) (field_back _ number_field s h (ended_back IsVisible (line.Rescan s)))
line_back (line.Page s count) h = word_then word.Page (decimal s ∷ decimal count ∷ []) (line.Page s count) (field_back _ number_field s h.0 (field_back _ count_field count h.1 (ended_back IsVisible (line.Page s count))))
line_back (line.Scanned s n k p count) h = word_then word.Scanned (decimal s ∷ node_text n ∷ key_text k ∷ partition_text p ∷ decimal count ∷ []) (line.Scanned s n k p count) (field_back _ number_field s h.0 (field_back _ node_field n h.1.node (field_back _ key_field k h.1.key (field_back _ partition_field p h.2 (field_back _ long_field count h.3 (ended_back IsVisible (line.Scanned s n k p count)))))))
line_back (line.Record s d v) h = word_then word.Record (decimal s ∷ digest_text d ∷ version_text v ∷ []) (line.Record s d v) (field_back _ number_field s h.0 (field_back _ digest_field d h.1 (field_back _ version_field v h.2 (ended_back IsVisible (line.Record s d v)))))
line_back (line.Unscanned s c) h = word_then word.Unscanned (decimal s ∷ scan_refusal_fields c) (line.Unscanned s c) (field_back _ number_field s h.0 (rest_back _ scan_refusal_rest c h.1))

word_line_only : (w : Word) → Only (of_word w) (λ rest l. (fields l ≡ word_text w ∷ rest) × IsProper l)
unfolding of_word
word_line_only word.Script = field_only script_version_field (λ v g0. ended_only (line.Script v) (refl, g0))
word_line_only word.Factor = field_only factor_field (λ f g0. ended_only (line.Factor f) (refl, g0))
word_line_only word.Node = field_only node_field (λ n g0. rest_only _ rack_rest (λ rack g1. (refl, (g0, g1))))
word_line_only word.Policy = field_only policy_field (λ p g0. ended_only (line.Policy p) (refl, tt))
word_line_only word.Clock = field_only node_field (λ n g0. field_only long_field (λ t g1. ended_only (line.Clock n t) (refl, (g0, g1))))
word_line_only word.Groups = rest_only _ groups_rest (λ gs g0. (refl, g0))
word_line_only word.Tick = field_only node_field (λ n g0. ended_only (line.Tick n) (refl, g0))
word_line_only word.Stop = field_only node_field (λ n g0. ended_only (line.Stop n) (refl, g0))
word_line_only word.Start = field_only node_field (λ n g0. ended_only (line.Start n) (refl, g0))
word_line_only word.Down = field_only node_field (λ n g0. ended_only (line.Down n) (refl, g0))
word_line_only word.Up = field_only node_field (λ n g0. ended_only (line.Up n) (refl, g0))
word_line_only word.Quiesce = field_only node_field (λ n g0. ended_only (line.Quiesce n) (refl, g0))
word_line_only word.Unquiesce = field_only node_field (λ n g0. ended_only (line.Unquiesce n) (refl, g0))
word_line_only word.Deliver = field_only long_field (λ i g0. field_only endpoint_field (λ a g1. field_only endpoint_field (λ b g2. ended_only (line.Deliver i a b) (refl, record { message = g0; from = g1; to = g2 }))))
word_line_only word.Repeat = field_only long_field (λ i g0. field_only endpoint_field (λ a g1. field_only endpoint_field (λ b g2. ended_only (line.Repeat i a b) (refl, record { message = g0; from = g1; to = g2 }))))
word_line_only word.Cut = field_only long_field (λ i g0. field_only endpoint_field (λ a g1. field_only endpoint_field (λ b g2. field_only long_field (λ len g3. ended_only (line.Cut i a b len) (refl, (record { message = g0; from = g1; to = g2 }, g3))))))
word_line_only word.Lost = field_only long_field (λ i g0. ended_only (line.Lost i) (refl, g0))
word_line_only word.Blocked = field_only long_field (λ i g0. ended_only (line.Blocked i) (refl, g0))
word_line_only word.NoMessage = field_only long_field (λ i g0. ended_only (line.NoMessage i) (refl, g0))
word_line_only word.Sent = field_only long_field (λ i g0. field_only endpoint_field (λ a g1. field_only endpoint_field (λ b g2. field_only bytes_field (λ bytes g3. ended_only (line.Sent i a b bytes) (refl, (record { message = g0; from = g1; to = g2 }, g3))))))
word_line_only word.Full = field_only long_field (λ i g0. ended_only (line.Full i) (refl, g0))
word_line_only word.Short = field_only endpoint_field (λ b g0. ended_only (line.Short b) (refl, g0))
word_line_only word.Stale = field_only endpoint_field (λ b g0. ended_only (line.Stale b) (refl, g0))
word_line_only word.Spent = field_only endpoint_field (λ b g0. ended_only (line.Spent b) (refl, g0))
word_line_only word.Promise = field_only node_field (λ n g0. field_only key_field (λ k g1. ended_only (line.Promise n k) (refl, record { node = g0; key = g1 })))
word_line_only word.Enter = field_only node_field (λ n g0. field_only key_field (λ k g1. field_only members_field (λ ms g2. ended_only (line.Enter n k ms) (refl, (record { node = g0; key = g1 }, g2)))))
word_line_only word.Exchanged = field_only node_field (λ n g0. field_only key_field (λ k g1. ended_only (line.Exchanged n k) (refl, record { node = g0; key = g1 })))
word_line_only word.Handed = field_only node_field (λ n g0. field_only key_field (λ k g1. field_only partition_field (λ p g2. ended_only (line.Handed n k p) (refl, (record { node = g0; key = g1 }, g2)))))
word_line_only word.Settled = field_only node_field (λ n g0. field_only key_field (λ k g1. field_only partition_field (λ p g2. ended_only (line.Settled n k p) (refl, (record { node = g0; key = g1 }, g2)))))
word_line_only word.Learn = field_only node_field (λ n g0. field_only key_field (λ k g1. field_only partition_field (λ p g2. ended_only (line.Learn n k p) (refl, (record { node = g0; key = g1 }, g2)))))
word_line_only word.Drop = field_only node_field (λ n g0. field_only key_field (λ k g1. field_only partition_field (λ p g2. ended_only (line.Drop n k p) (refl, (record { node = g0; key = g1 }, g2)))))
word_line_only word.Opened = field_only node_field (λ n g0. field_only key_field (λ k g1. field_only number_field (λ t g2. field_only digest_field (λ d g3. field_only action_field (λ w g4. ended_only (line.Opened n k t d w) (refl, (record { node = g0; key = g1 }, g2, g3)))))))
word_line_only word.Refused = field_only node_field (λ n g0. field_only digest_field (λ d g1. rest_only _ cause_rest (λ c g2. (refl, (g0, g1, g2)))))
word_line_only word.Value = field_only node_field (λ n g0. field_only key_field (λ k g1. field_only number_field (λ t g2. field_only digest_field (λ d g3. field_only optional_field (λ v g4. ended_only (line.Value n k t d v) (refl, (record { node = g0; key = g1 }, g2, g3, g4)))))))
word_line_only word.Apply = field_only node_field (λ n g0. field_only key_field (λ k g1. field_only number_field (λ t g2. field_only digest_field (λ d g3. field_only version_field (λ v g4. ended_only (line.Apply n k t d v) (refl, (record { node = g0; key = g1 }, g2, g3, g4)))))))
word_line_only word.Done = field_only node_field (λ n g0. field_only key_field (λ k g1. field_only number_field (λ t g2. ended_only (line.Done n k t) (refl, (record { node = g0; key = g1 }, g2)))))
word_line_only word.Aborted = field_only node_field (λ n g0. field_only key_field (λ k g1. field_only number_field (λ t g2. ended_only (line.Aborted n k t) (refl, (record { node = g0; key = g1 }, g2)))))
word_line_only word.Doubt = field_only node_field (λ n g0. field_only key_field (λ k g1. field_only number_field (λ t g2. ended_only (line.Doubt n k t) (refl, (record { node = g0; key = g1 }, g2)))))
word_line_only word.Merge = field_only node_field (λ n g0. field_only key_field (λ k g1. field_only digest_field (λ d g2. field_only version_field (λ v g3. ended_only (line.Merge n k d v) (refl, (record { node = g0; key = g1 }, g2, g3))))))
word_line_only word.Map = field_only node_field (λ n g0. field_only key_field (λ k g1. field_only partition_field (λ p g2. field_only list_field (λ ms g3. field_only node_field (λ a g4. ended_only (line.Map n k p ms a) (refl, (record { node = g0; key = g1 }, g2, g3, g4)))))))
word_line_only word.Mapless = field_only node_field (λ n g0. rest_only _ mapless_rest (λ c g1. (refl, (g0, g1))))
word_line_only word.Place = field_only partition_field (λ p g0. field_only list_field (λ ms g1. ended_only (line.Place p ms) (refl, (g0, g1))))
word_line_only word.Hash = field_only digest_field (λ d g0. field_only partition_field (λ p g1. ended_only (line.Hash d p) (refl, (g0, g1))))
word_line_only word.Holds = field_only node_field (λ n g0. field_only digest_field (λ d g1. field_only optional_field (λ v g2. ended_only (line.Holds n d v) (refl, (g0, g1, g2)))))
word_line_only word.Client = field_only node_field (λ n g0. field_only digest_field (λ d g1. ended_only (line.Client n d) (refl, (g0, g1))))
word_line_only word.NoMap = field_only partition_field (λ p g0. ended_only (line.NoMap p) (refl, g0))
word_line_only word.Table = field_only key_field (λ k g0. ended_only (line.Table k) (refl, g0))
word_line_only word.Calm = field_only long_field (λ r g0. ended_only (line.Calm r) (refl, g0))
word_line_only word.Proxy = field_only node_field (λ n g0. field_only key_field (λ k g1. field_only number_field (λ x g2. field_only digest_field (λ d g3. field_only action_field (λ w g4. field_only node_field (λ a g5. ended_only (line.Proxy n k x d w a) (refl, (record { node = g0; key = g1 }, g2, g3, g5))))))))
word_line_only word.Proxied = field_only node_field (λ n g0. field_only key_field (λ k g1. field_only number_field (λ x g2. rest_only _ (reply_rest false) (λ r g3. (refl, (record { node = g0; key = g1 }, g2, g3))))))
word_line_only word.Unproxied = field_only node_field (λ n g0. field_only key_field (λ k g1. field_only number_field (λ x g2. ended_only (line.Unproxied n k x) (refl, (record { node = g0; key = g1 }, g2)))))
word_line_only word.CallFull = ended_only line.CallFull (refl, tt)
word_line_only word.Call = field_only number_field (λ q g0. field_only node_field (λ n g1. field_only digest_field (λ d g2. field_only action_field (λ w g3. ended_only (line.Call q n d w) (refl, (g0, g1, g2))))))
word_line_only word.NoOpen = field_only long_field (λ q g0. ended_only (line.NoOpen q) (refl, g0))
word_line_only word.Again = field_only number_field (λ q g0. field_only node_field (λ n g1. ended_only (line.Again q n) (refl, (g0, g1))))
word_line_only word.Reply = field_only number_field (λ q g0. field_only node_field (λ n g1. rest_only _ (reply_rest true) (λ r g2. (refl, (g0, g1, g2)))))
word_line_only word.Scan = field_only number_field (λ s g0. field_only node_field (λ n g1. field_only partition_field (λ p g2. ended_only (line.Scan s n p) (refl, (g0, g1, g2)))))
word_line_only word.NoScan = field_only long_field (λ s g0. ended_only (line.NoScan s) (refl, g0))
word_line_only word.Rescan = field_only number_field (λ s g0. ended_only (line.Rescan s) (refl, g0))
word_line_only word.Page = field_only number_field (λ s g0. field_only count_field (λ count g1. ended_only (line.Page s count) (refl, (g0, g1))))
word_line_only word.Scanned = field_only number_field (λ s g0. field_only node_field (λ n g1. field_only key_field (λ k g2. field_only partition_field (λ p g3. field_only long_field (λ count g4. ended_only (line.Scanned s n k p count) (refl, (g0, record { node = g1; key = g2 }, g3, g4)))))))
word_line_only word.Record = field_only number_field (λ s g0. field_only digest_field (λ d g1. field_only version_field (λ v g2. ended_only (line.Record s d v) (refl, (g0, g1, g2)))))
word_line_only word.Unscanned = field_only number_field (λ s g0. rest_only _ scan_refusal_rest (λ c g1. (refl, (g0, g1))))

line_only : (rest : List (List ℕ)) (l : Line) → parsed_line rest ≡ Some l → (fields l ≡ rest) × IsProper l
unfolding parsed_line
line_only [] l e = absurd (none-some l e)
line_only (name ∷ rest) l e =
    option_and_then_some (λ w. of_word w rest) (parsed_word name) l e (λ w is read.
    let o = (word_line_only w).only rest l read in
    (o.0 ∙ ap (λ t. t ∷ rest) (word_only name w is), o.1))

pub line_fields : ReadsAll IsVisible IsProper fields parsed_line
line_fields = reads_all line_back (record { only = line_only })
