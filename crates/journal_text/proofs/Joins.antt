-- The text of a line is its fields with spaces between them.
use Rattle.std.proofs.Common.{◌≡◌, ◌<◌, ℕ, length, true, false, arith, List, [], ◌∷◌, ◌++◌, Some, None, refl, sym, ap, ◌∙◌, append_assoc, ◌+◌, length-append}
use Rattle.std.specs.Prelude.{codes}
use Rattle.std.specs.List.{flat_map, join_with_byte}
use Rattle.std.proofs.lemmas.List.{append-nil}
use Rattle.std.proofs.lemmas.List.Concat.{flat_map-cons}
use Rattle.std.proofs.lemmas.Bool.{and_parts, not-true, false≢true, true≢false}
use Rattle.cluster_types.specs.Texts.{node_text}
use Rattle.wire_messages.specs.declared.reply.ReplyBody.{ReplyBody}
use Rattle.wire_messages.specs.declared.reply.ReplyBody.TheVariants as reply
use Rattle.wire_messages.specs.declared.scan.ScanRefusal.{ScanRefusal}
use Rattle.wire_messages.specs.declared.scan.ScanRefusal.TheVariants as scan_refusal
use Rattle.journal_lines.specs.declared.line.Line.{Line}
use Rattle.journal_lines.specs.declared.refusal.Refusal.{Refusal}
use Rattle.journal_lines.specs.declared.refusal.Refusal.TheVariants as refusal
use Rattle.journal_text.specs.declared.fields.Field.{Field}
use Rattle.journal_text.specs.declared.fields.Field.TheVariants as field
use Rattle.journal_text.specs.LineFields.{ids_fields, groups_fields, cause_fields, reply_fields, scan_refusal_fields}
use Rattle.journal_text.specs.FieldTexts.{AreFields, field_texts, texts, spaced_text, is_word, have_no_word, begins_with_word}
use Rattle.journal_text.specs.LineGroups.{group}
use Rattle.journal_text.specs.Text.{words, line_text}
use Rattle.journal_text.specs.Values.{ids_text, more_groups_text, groups_text, refusal_text, reply_text, scan_refusal_text}

pub nothing_behind : (xs : List (List ℕ)) → xs ++ [] ≡ xs
nothing_behind xs = append-nil xs

-- texts with a space before each
abbrev spaced : List (List ℕ) → List ℕ
spaced [] = []
spaced (text ∷ texts) = 32 ∷ text ++ spaced texts

spaced_join : (word : List ℕ) (texts : List (List ℕ)) → word ++ spaced texts ≡ join_with_byte 32 (word ∷ texts)
spaced_join word [] = append-nil word
spaced_join word (text ∷ texts) = ap (λ t. word ++ 32 ∷ t) (spaced_join text texts)

spaced_append : (xs ys : List (List ℕ)) → spaced (xs ++ ys) ≡ spaced xs ++ spaced ys
spaced_append [] ys = refl
spaced_append (x ∷ xs) ys = ap (λ t. 32 ∷ x ++ t) (spaced_append xs ys) ∙ ap (λ t. 32 ∷ t) (sym (append_assoc x (spaced xs) (spaced ys)))

ids_spaced : (ids : List ℕ) → ids_text ids ≡ spaced (ids_fields ids)
ids_spaced [] = refl
ids_spaced (n ∷ ids) = flat_map-cons (λ m. codes " " ++ node_text m) n ids ∙ ap (λ t. 32 ∷ node_text n ++ t) (ids_spaced ids)

groups_spaced : (ids : List ℕ) (groups : List (List ℕ)) → ids_text ids ++ more_groups_text groups ≡ spaced (groups_fields (ids ∷ groups))
groups_spaced ids [] = append-nil (ids_text ids) ∙ ids_spaced ids
groups_spaced ids (next ∷ groups) =
    ap (λ t. ids_text ids ++ t) (flat_map-cons (λ xs. codes " |" ++ ids_text xs) next groups)
    ∙ ap (λ t. ids_text ids ++ 32 ∷ 124 ∷ t) (groups_spaced next groups)
    ∙ ap (λ t. t ++ 32 ∷ 124 ∷ spaced (groups_fields (next ∷ groups))) (ids_spaced ids)
    ∙ sym (spaced_append (ids_fields ids) (codes "|" ∷ groups_fields (next ∷ groups)))

all_groups : (groups : List (List ℕ)) → groups_text groups ≡ spaced (groups_fields groups)
all_groups [] = refl
all_groups (ids ∷ groups) = groups_spaced ids groups

one : (text : List ℕ) → codes " " ++ text ≡ spaced (text ∷ [])
one text = ap (λ t. 32 ∷ t) (sym (append-nil text))

cause : (c : Refusal) → codes " " ++ refusal_text c ≡ spaced (cause_fields c)
cause refusal.Down = refl
cause refusal.NoView = refl
cause (refusal.Exchanging n) = ap (λ t. codes " exchanging " ++ t) (sym (append-nil (node_text n)))
cause (refusal.NotMaster n) = ap (λ t. codes " notmaster " ++ t) (sym (append-nil (node_text n)))
cause (refusal.Busy t) = ap (λ x. codes " busy " ++ x) (sym (append-nil _))

answer : (r : ReplyBody) → codes " " ++ reply_text r ≡ spaced (reply_fields r)
answer reply.Nothing = refl
answer (reply.Found v) = ap (λ x. codes " value " ++ x) (sym (append-nil _))
answer reply.Done = refl
answer (reply.Exchanging n) = ap (λ x. codes " refused exchanging " ++ x) (sym (append-nil _))
answer (reply.NotMaster n) = ap (λ x. codes " refused notmaster " ++ x) (sym (append-nil _))
answer (reply.Busy t) = ap (λ x. codes " refused busy " ++ x) (sym (append-nil _))
answer reply.NoView = refl

scan_cause : (c : ScanRefusal) → codes " " ++ scan_refusal_text c ≡ spaced (scan_refusal_fields c)
scan_cause scan_refusal.NoView = refl
scan_cause (scan_refusal.Exchanging n) = ap (λ x. codes " exchanging " ++ x) (sym (append-nil _))
scan_cause (scan_refusal.NotMaster n) = ap (λ x. codes " notmaster " ++ x) (sym (append-nil _))
scan_cause scan_refusal.NotSettled = refl
scan_cause (scan_refusal.Open t) = ap (λ x. codes " open " ++ x) (sym (append-nil _))

behind : (f : Field) → is_word f ≡ false → spaced_text f ≡ spaced (field_texts f)
behind field.Absent h = refl
behind (field.Word w) h = absurd (true≢false h)
behind (field.Byte n) h = one _
behind (field.Endpoint n) h = one _
behind (field.Count n) h = one _
behind (field.Number n) h = one _
behind (field.Node n) h = one _
behind (field.Key k) h = one _
behind (field.Partition p) h = one _
behind (field.Digest d) h = one _
behind (field.Version v) h = one _
behind (field.Found v) h = one _
behind (field.Members ms) h = one _
behind (field.Groups groups) h = all_groups groups.now
behind (field.Hex bytes) h = one _
behind (field.Rack None) h = refl
behind (field.Rack (Some rack)) h = one _
behind (field.Cause c) h = cause c
behind (field.Reply r) h = answer r.now
behind (field.ScanCause c) h = scan_cause c
behind (field.Action a) h = one _
behind (field.Policy p) h = one _

all_behind : (fs : List Field) → have_no_word fs ≡ true → flat_map spaced_text fs ≡ spaced (texts fs)
all_behind [] h = refl
all_behind (f ∷ fs) h =
    let parts = and_parts _ _ h in
    flat_map-cons spaced_text f fs
    ∙ ap (λ t. t ++ flat_map spaced_text fs) (behind f (not-true _ parts.0))
    ∙ ap (λ t. spaced (field_texts f) ++ t) (all_behind fs parts.1)
    ∙ sym (spaced_append (field_texts f) (texts fs))

headed : (f : Field) (fs : List Field) → is_word f ≡ true → have_no_word fs ≡ true → flat_map spaced_text (f ∷ fs) ≡ join_with_byte 32 (texts (f ∷ fs))
headed (field.Word w) fs h rest =
    flat_map-cons spaced_text (field.Word w) fs ∙ ap (λ t. w.now ++ t) (all_behind fs rest) ∙ spaced_join w.now (texts fs)
headed field.Absent fs h rest = absurd (false≢true h)
headed (field.Byte n) fs h rest = absurd (false≢true h)
headed (field.Endpoint n) fs h rest = absurd (false≢true h)
headed (field.Count n) fs h rest = absurd (false≢true h)
headed (field.Number n) fs h rest = absurd (false≢true h)
headed (field.Node n) fs h rest = absurd (false≢true h)
headed (field.Key k) fs h rest = absurd (false≢true h)
headed (field.Partition p) fs h rest = absurd (false≢true h)
headed (field.Digest d) fs h rest = absurd (false≢true h)
headed (field.Version v) fs h rest = absurd (false≢true h)
headed (field.Found v) fs h rest = absurd (false≢true h)
headed (field.Members ms) fs h rest = absurd (false≢true h)
headed (field.Groups gs) fs h rest = absurd (false≢true h)
headed (field.Hex b) fs h rest = absurd (false≢true h)
headed (field.Rack r) fs h rest = absurd (false≢true h)
headed (field.Cause c) fs h rest = absurd (false≢true h)
headed (field.Reply r) fs h rest = absurd (false≢true h)
headed (field.ScanCause c) fs h rest = absurd (false≢true h)
headed (field.Action a) fs h rest = absurd (false≢true h)
headed (field.Policy p) fs h rest = absurd (false≢true h)

joined : (fs : List Field) → begins_with_word fs ≡ true → flat_map spaced_text fs ≡ join_with_byte 32 (texts fs)
joined [] h = absurd (false≢true h)
joined (f ∷ fs) h = let parts = and_parts _ _ h in headed f fs parts.0 parts.1

-- fields written one after another are the words of their line
pub words_written : (fs : List Field) (l : Line) → AreFields fs l → flat_map spaced_text fs ≡ words l
words_written fs l are = joined fs are.head ∙ ap (join_with_byte 32) are.texts

-- how long a line is, by its fields
pub length_written : (fs : List Field) (l : Line) → AreFields fs l → length (line_text l) ≡ length (flat_map spaced_text fs) + 1
length_written fs l are = length-append (words l) (10 ∷ []) ∙ ap (λ t. length t + 1) (sym (words_written fs l are))

-- ---- groups

pub in_a_group : (l : Line) → group l < 9
in_a_group l = grind arith
