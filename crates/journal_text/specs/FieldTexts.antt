-- The texts of fields.
use Rattle.std.specs.Prelude.{◌≡◌, ℕ, Bool, true, false, not, ◌&&◌, List, [], ◌∷◌, ◌++◌, codes, Some, None}
use Rattle.std.specs.Fmt.{decimal}
use Rattle.hex.specs.Hex.{encode_lower}
use Rattle.cluster_types.specs.Texts.{key_text, digest_text, node_text, partition_text}
use Rattle.journal_lines.specs.declared.line.Line.{Line}
use Rattle.journal_text.specs.declared.fields.Field.{Field}
use Rattle.journal_text.specs.declared.fields.Field.TheVariants as field
use Rattle.journal_text.specs.LineFields.{fields, rack_fields, groups_fields, cause_fields, reply_fields, scan_refusal_fields}
use Rattle.journal_text.specs.Values.{version_text, optional_text, policy_word, action_word, members_text, groups_text, refusal_text, reply_text, scan_refusal_text}

-- the texts of a field, of which most have one
abbrev pub field_texts : Field → List (List ℕ)
field_texts field.Absent = []
field_texts (field.Word w) = w.now ∷ []
field_texts (field.Byte n) = decimal n ∷ []
field_texts (field.Endpoint n) = decimal n ∷ []
field_texts (field.Count n) = decimal n ∷ []
field_texts (field.Number n) = decimal n ∷ []
field_texts (field.Node n) = node_text n ∷ []
field_texts (field.Key k) = key_text k ∷ []
field_texts (field.Partition p) = partition_text p ∷ []
field_texts (field.Digest d) = digest_text d.now ∷ []
field_texts (field.Version v) = version_text v.now ∷ []
field_texts (field.Found v) = optional_text v.now ∷ []
field_texts (field.Members ms) = members_text ms.now ∷ []
field_texts (field.Groups groups) = groups_fields groups.now
field_texts (field.Hex bytes) = encode_lower bytes.now ∷ []
field_texts (field.Rack rack) = rack_fields rack
field_texts (field.Cause c) = cause_fields c
field_texts (field.Reply r) = reply_fields r.now
field_texts (field.ScanCause c) = scan_refusal_fields c
field_texts (field.Action a) = action_word a ∷ []
field_texts (field.Policy p) = policy_word p ∷ []

-- whether it is a word, at which a line begins
abbrev pub is_word : Field → Bool
is_word (field.Word w) = true
is_word _ = false

abbrev pub have_no_word : List Field → Bool
have_no_word [] = true
have_no_word (f ∷ fs) = not (is_word f) && have_no_word fs

-- whether the first field is a word, and no other is
abbrev pub begins_with_word : List Field → Bool
begins_with_word [] = false
begins_with_word (f ∷ fs) = is_word f && have_no_word fs

-- the texts of fields, one after another
abbrev pub texts : List Field → List (List ℕ)
texts [] = []
texts (f ∷ fs) = field_texts f ++ texts fs

-- the fields of a line, its word first
pub record AreFields (fs : List Field) (l : Line) : Type 0 where
  pub texts : texts fs ≡ fields l
  pub head : begins_with_word fs ≡ true

-- a field's text, with a space before each of its parts; a line's word has none
abbrev pub spaced_text : Field → List ℕ
spaced_text field.Absent = []
spaced_text (field.Word w) = w.now
spaced_text (field.Byte n) = codes " " ++ decimal n
spaced_text (field.Endpoint n) = codes " " ++ decimal n
spaced_text (field.Count n) = codes " " ++ decimal n
spaced_text (field.Number n) = codes " " ++ decimal n
spaced_text (field.Node n) = codes " " ++ node_text n
spaced_text (field.Key k) = codes " " ++ key_text k
spaced_text (field.Partition p) = codes " " ++ partition_text p
spaced_text (field.Digest d) = codes " " ++ digest_text d.now
spaced_text (field.Version v) = codes " " ++ version_text v.now
spaced_text (field.Found v) = codes " " ++ optional_text v.now
spaced_text (field.Members ms) = codes " " ++ members_text ms.now
spaced_text (field.Groups groups) = groups_text groups.now
spaced_text (field.Hex bytes) = codes " " ++ encode_lower bytes.now
spaced_text (field.Rack None) = []
spaced_text (field.Rack (Some rack)) = codes " " ++ decimal rack
spaced_text (field.Cause c) = codes " " ++ refusal_text c
spaced_text (field.Reply r) = codes " " ++ reply_text r.now
spaced_text (field.ScanCause c) = codes " " ++ scan_refusal_text c
spaced_text (field.Action a) = codes " " ++ action_word a
spaced_text (field.Policy p) = codes " " ++ policy_word p
