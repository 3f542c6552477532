-- Texts of lines, cut at their line feeds.
use Rattle.std.proofs.Common.{◌≡◌, ℕ, ◌==◌, ◌<◌, ◌≤◌, ◌+◌, Bool, true, false, ◌||◌, List, [], ◌∷◌, ◌++◌, length, take, get_or, Option, Some, None, inl, inr, refl, sym, ap, ap₂, subst, subst₂, ◌∙◌, arith, append_assoc, append-nil, length-append, length-take, get_or-take}
use Rattle.std.specs.Prelude.{All, Result, Ok, Err, IfSome, IfNone, IsErrOf, IsOkUnless}
use denote.Ref.{Bor}
use Rattle.std.specs.List.{onto_first, position_or_len, after_first, join_with_byte}
use Rattle.std.proofs.lemmas.Bool.{eqb-true, or_parts, or_right, true≢false}
use Rattle.std.proofs.lemmas.List.{take_more, take-append-drop, append_cancel_left}
use Rattle.std.proofs.lemmas.List.Concat.{flat_map-cons}
use Rattle.std.proofs.lemmas.Grind.{flat_map-append}
use Rattle.std.proofs.lemmas.List.Elements.{All-head, All-tail, All-push}
use Rattle.std.proofs.lemmas.List.Folds.{list_any_none}
use Rattle.std.proofs.lemmas.List.Splits.{join_with_byte-slice_split, slice_split-cons_no, slice_split-cons_yes}
use Rattle.std.proofs.lemmas.List.Sums.{fails_before_first, passes_at_first}
use Rattle.std.proofs.lemmas.Option.{none-some}
use Rattle.journal_lines.specs.declared.line.Line.{Line}
use Rattle.journal_lines.specs.Proper.{IsProper}
use Rattle.journal_text.specs.Journals.{IsWithin}
use Rattle.journal_text.specs.Text.{words, line_text, text}
use Rattle.journal_reader.specs.Fields.{parts_of}
use Rattle.journal_reader.specs.Reading.{only_line, read_line}
use Rattle.journal_reader.proofs.LineLaws.{read_back, injective, journals_injective}
use Rattle.audit_core.specs.declared.lines.TextFault.{TextFault}
use Rattle.audit_core.specs.declared.lines.TextFault.TheVariants as fault
use Rattle.audit_core.specs.Transcripts.{ReadsLine, IsTranscript, has_feed, IsCutAtFeed, IsCutAtFirst, IsUnreadable, IsFirstFault}

abbrev is_feed : ℕ → Bool
is_feed b = b == 10

-- ---- the first feed

cut_here : (xs : List ℕ) → position_or_len is_feed xs < length xs → IsCutAtFeed xs (take (position_or_len is_feed xs + 1) xs) (after_first is_feed xs)
cut_here xs within = let n : ℕ = position_or_len is_feed xs in record {
  before = take n xs;
  ends = take_more xs n 0 within ∙ ap (λ b. take n xs ++ b ∷ []) (eqb-true (get_or xs n 0) 10 (passes_at_first is_feed xs 0 within));
  first = list_any_none is_feed (take n xs) (λ k d in_front.
      let lower : k < n = omega (arith, length-take n xs, in_front) in
      ap is_feed (get_or-take n xs k d lower) ∙ fails_before_first is_feed xs k d lower);
  split = sym (take-append-drop (n + 1) xs);
}

no_feed_at : (xs : List ℕ) → length xs ≤ position_or_len is_feed xs → has_feed xs ≡ false
no_feed_at xs none = list_any_none is_feed xs (λ k d within. fails_before_first is_feed xs k d (omega (arith, within, none)))

pub cut_some : (bytes : List ℕ) (r : Option (Bor (List ℕ) × Bor (List ℕ))) → IfSome r (λ x. IsCutAtFirst bytes x.0.now x.1.now) → IfSome r (λ x. IsCutAtFeed bytes x.0.now x.1.now)
cut_some bytes None h = tt
cut_some bytes (Some x) h = subst₂ (λ (piece behind : List ℕ). IsCutAtFeed bytes piece behind) (sym h.front) (sym h.back) (cut_here bytes h.within)

pub cut_none : (bytes : List ℕ) (r : Option (Bor (List ℕ) × Bor (List ℕ))) → IfNone r (length bytes ≤ position_or_len is_feed bytes) → IfNone r (has_feed bytes ≡ false)
cut_none bytes None h = no_feed_at bytes h
cut_none bytes (Some x) h = tt

-- ---- parts

unfed_then : (xs ys : List ℕ) → has_feed xs ≡ false → parts_of 10 (xs ++ 10 ∷ ys) ≡ xs ∷ parts_of 10 ys
unfed_then [] ys e = slice_split-cons_yes is_feed 10 ys refl
unfed_then (x ∷ xs) ys e = slice_split-cons_no is_feed x (xs ++ 10 ∷ ys) (or_parts (is_feed x) _ e).0 ∙ ap (onto_first x) (unfed_then xs ys (or_parts (is_feed x) _ e).1)

record HasFeed (xs : List ℕ) : Type 0 where
  before : List ℕ
  behind : List ℕ
  split : xs ≡ before ++ 10 ∷ behind
  first : has_feed before ≡ false

feed_in : (xs : List ℕ) → has_feed xs ≡ true → HasFeed xs
feed_in [] e = absurd (true≢false (sym e))
feed_in (x ∷ xs) e = go (is_feed x) refl (feed_in xs) e
  where
    go : (b : Bool) → is_feed x ≡ b → (has_feed xs ≡ true → HasFeed xs) → (b || has_feed xs) ≡ true → HasFeed (x ∷ xs)
    go true q rest f = record { before = []; behind = xs; split = ap (λ (y : ℕ). y ∷ xs) (eqb-true x 10 q); first = refl }
    go false q rest f = let h : HasFeed xs = rest f in record {
      before = x ∷ h.before;
      behind = h.behind;
      split = ap (λ (ys : List ℕ). x ∷ ys) h.split;
      first = ap (λ (b : Bool). b || has_feed h.before) q ∙ h.first;
    }

fed : (xs ys : List ℕ) → has_feed (xs ++ 10 ∷ ys) ≡ true
fed [] ys = refl
fed (x ∷ xs) ys = or_right (is_feed x) (has_feed (xs ++ 10 ∷ ys)) (fed xs ys)

abbrev first_part : List (List ℕ) → List ℕ
first_part [] = []
first_part (part ∷ parts) = part

-- ---- the text of a line

record IsOnly (parts : List (List ℕ)) : Type 0 where
  first : List ℕ
  is : parts ≡ first ∷ [] ∷ []

only_is : (parts : List (List ℕ)) (l : Line) → only_line parts ≡ Some l → IsOnly parts
only_is [] l e = absurd (none-some l e)
only_is (first ∷ []) l e = absurd (none-some l e)
only_is (first ∷ [] ∷ []) l e = record { first = first; is = refl }
only_is (first ∷ [] ∷ next ∷ parts) l e = absurd (none-some l e)
only_is (first ∷ (b ∷ bytes) ∷ parts) l e = absurd (none-some l e)

parts_of_line : (l : Line) → IsProper l → IsOnly (parts_of 10 (line_text l))
unfolding read_line
parts_of_line l p = only_is (parts_of 10 (line_text l)) l (read_back l p)

longer : (xs ys : List ℕ) → xs ≡ xs ++ 10 ∷ ys → ⊥
longer xs ys e = let same : length xs ≡ length (xs ++ 10 ∷ ys) = ap length e in omega (arith, same, length-append xs (10 ∷ ys))

-- the words of a line have no line feed
unfed : (l : Line) → IsProper l → has_feed (words l) ≡ false
unfed l p = go (has_feed (words l)) refl
  where
    o : IsOnly (parts_of 10 (line_text l))
    o = parts_of_line l p

    -- the one part is all the words
    whole : o.first ++ 10 ∷ [] ≡ words l ++ 10 ∷ []
    whole = ap (join_with_byte 10) (sym o.is) ∙ join_with_byte-slice_split 10 (line_text l)

    go : (b : Bool) → has_feed (words l) ≡ b → b ≡ false
    go false q = refl
    go true q =
        let h : HasFeed (words l) = feed_in (words l) q in
        let front : line_text l ≡ h.before ++ 10 ∷ (h.behind ++ 10 ∷ []) = ap (λ (ws : List ℕ). ws ++ 10 ∷ []) h.split ∙ append_assoc h.before (10 ∷ h.behind) (10 ∷ []) in
        let same : o.first ≡ h.before = ap first_part (sym o.is ∙ ap (parts_of 10) front ∙ unfed_then h.before (h.behind ++ 10 ∷ []) h.first) in
        absurd (longer h.before h.behind (sym same ∙ Rattle.std.proofs.lemmas.List.append_cancel_right o.first (words l) (10 ∷ []) whole ∙ h.split))

-- a line before more text
line_then : (l : Line) (more : List ℕ) → IsProper l → parts_of 10 (line_text l ++ more) ≡ words l ∷ parts_of 10 more
line_then l more p = ap (parts_of 10) (append_assoc (words l) (10 ∷ []) more) ∙ unfed_then (words l) more (unfed l p)

text_then : (l : Line) (ls : List Line) (rest : List ℕ) → text (l ∷ ls) ++ rest ≡ line_text l ++ (text ls ++ rest)
text_then l ls rest = ap (λ (t : List ℕ). t ++ rest) (flat_map-cons line_text l ls) ∙ append_assoc (line_text l) (text ls) rest

some_text : (l : Line) (more : List ℕ) → [] ≡ line_text l ++ more → ⊥
some_text l more e =
    let same : length {A = ℕ} [] ≡ length (line_text l ++ more) = ap length e in
    omega (arith, same, length-append (line_text l) more, length-append (words l) (10 ∷ []))

-- ---- lines that a text begins with

record Begins (read lines : List Line) (rest : List ℕ) : Type 0 where
  more : List Line
  is : lines ≡ read ++ more
  left : text more ≡ rest
  proper : All IsProper more

begins : (read lines : List Line) (rest : List ℕ) → All IsProper read → All IsProper lines → text lines ≡ text read ++ rest → Begins read lines rest
begins [] lines rest p q e = record { more = lines; is = refl; left = e; proper = q }
begins (l ∷ read) [] rest p q e = absurd (some_text l (text read ++ rest) (e ∙ text_then l read rest))
begins (l ∷ read) (m ∷ lines) rest p q e =
    let lp : IsProper l = All-head IsProper l read p in
    let mp : IsProper m = All-head IsProper m lines q in
    let both : line_text m ++ text lines ≡ line_text l ++ (text read ++ rest) = sym (flat_map-cons line_text m lines) ∙ e ∙ text_then l read rest in
    let same : words m ≡ words l = ap first_part (sym (line_then m (text lines) mp) ∙ ap (parts_of 10) both ∙ line_then l (text read ++ rest) lp) in
    let one : m ≡ l = injective m l mp lp (ap (λ (ws : List ℕ). ws ++ 10 ∷ []) same) in
    let tail : text lines ≡ text read ++ rest = append_cancel_left (line_text l) (text lines) (text read ++ rest) (ap (λ (x : Line). line_text x ++ text lines) (sym one) ∙ both) in
    let h : Begins read lines rest = begins read lines rest (All-tail IsProper l read p) (All-tail IsProper m lines q) tail in
    record { more = h.more; is = ap₂ (λ (x : Line) (xs : List Line). x ∷ xs) one h.is; left = h.left; proper = h.proper }

-- fewer lines pass no limit either
still_within : (read : List Line) (l : Line) (more : List Line) → IsWithin (read ++ l ∷ more) → IsWithin (read ++ l ∷ [])
still_within read l more w = record {
  lines_fit = omega (arith, w.lines_fit, length-append read (l ∷ more), length-append read (l ∷ []));
  text_fits = omega (arith, w.text_fits, texts more, texts []);
}
  where
    texts : (ls : List Line) → length (text (read ++ l ∷ ls)) ≡ length (text read) + (length (line_text l) + length (text ls))
    texts ls = ap length (flat_map-append line_text read (l ∷ ls) ∙ ap (λ (t : List ℕ). text read ++ t) (flat_map-cons line_text l ls))
        ∙ length-append (text read) (line_text l ++ text ls) ∙ ap (λ (n : ℕ). length (text read) + n) (length-append (line_text l) (text ls))

-- bytes that cease to be a transcript are none
pub faulty : (bytes : List ℕ) (n : ℕ) → IsFirstFault bytes n → (lines : List Line) → IsTranscript bytes lines → ⊥
faulty bytes n f lines t = at (begins f.lines lines f.rest f.proper t.proper (t.text ∙ sym f.split))
  where
    none_left : (rest : List ℕ) → [] ≡ rest → 0 < length rest → ⊥
    none_left rest e some = let same : length {A = ℕ} [] ≡ length rest = ap length e in omega (arith, same, some)

    next : (l : Line) (more : List Line) → lines ≡ f.lines ++ l ∷ more → line_text l ++ text more ≡ f.rest → IsProper l → IsUnreadable f.lines f.rest → ⊥
    next l more is left lp (inl none) = true≢false (sym (ap has_feed (sym left ∙ append_assoc (words l) (10 ∷ []) (text more)) ∙ fed (words l) (text more)) ∙ none)
    next l more is left lp (inr h) =
        let cut : f.rest ≡ h.cut.before ++ 10 ∷ h.behind = h.cut.split ∙ ap (λ (p : List ℕ). p ++ h.behind) h.cut.ends ∙ append_assoc h.cut.before (10 ∷ []) h.behind in
        let same : words l ≡ h.cut.before = ap first_part (sym (line_then l (text more) lp) ∙ ap (parts_of 10) (left ∙ cut) ∙ unfed_then h.cut.before h.behind h.cut.first) in
        h.none l lp (ap (λ (ws : List ℕ). ws ++ 10 ∷ []) same ∙ sym h.cut.ends) (still_within f.lines l more (subst IsWithin is t.within))

    at : Begins f.lines lines f.rest → ⊥
    at b = step b.more b.is b.left b.proper
      where
        step : (more : List Line) → lines ≡ f.lines ++ more → text more ≡ f.rest → All IsProper more → ⊥
        step [] is left proper = none_left f.rest left f.some
        step (l ∷ more) is left proper = next l more is (sym (flat_map-cons line_text l more) ∙ left) (All-head IsProper l more proper) f.unreadable

-- the lines of a transcript are its only ones
pub one_transcript : (bytes : List ℕ) (lines others : List Line) → IsTranscript bytes lines → IsTranscript bytes others → lines ≡ others
one_transcript bytes lines others s t = journals_injective lines others s.proper t.proper (s.text ∙ sym t.text)

-- nothing is left
pub ends : (bytes : List ℕ) (ls : List Line) (rest : List ℕ) → text ls ++ rest ≡ bytes → length rest ≡ 0 → text ls ≡ bytes
ends bytes ls [] e z = sym (append-nil (text ls)) ∙ e
ends bytes ls (b ∷ rest) e z = absurd (omega (arith, z))

-- a transcript isn't refused
pub taken : {A : Type 0} (bytes : List ℕ) (r : Result A TextFault) → ((n : ℕ) → IsErrOf r (fault.At n) → IsFirstFault bytes n) → (lines : List Line) → IsTranscript bytes lines → IsOkUnless r fault.NoMemory
taken bytes (Ok x) h lines t = tt
taken bytes (Err (fault.At n)) h lines t = absurd (faulty bytes n (h n refl) lines t)
taken bytes (Err fault.NoMemory) h lines t = refl

-- what was read, and what is left, as one line more is read
pub record GoesOn (bytes : List ℕ) (new : List Line) (rest : List ℕ) : Type 0 where
  pub split : text new ++ rest ≡ bytes
  pub proper : All IsProper new
  pub within : IsWithin new

pub goes_on : (bytes : List ℕ) (old new : List Line) (left rest : List ℕ) → ReadsLine old new left rest → text old ++ left ≡ bytes → All IsProper old → GoesOn bytes new rest
goes_on bytes old new left rest r split proper = record {
  split = ap (λ (ls : List Line). text ls ++ rest) r.added
      ∙ (ap (λ (t : List ℕ). t ++ rest) (flat_map-append line_text old (r.line ∷ []))
      ∙ (append_assoc (text old) (text (r.line ∷ [])) rest
      ∙ (ap (λ (t : List ℕ). text old ++ t) (text_then r.line [] rest ∙ sym r.split) ∙ split)));
  proper = subst (All IsProper) (sym r.added) (All-push IsProper old r.line proper r.proper);
  within = r.within;
}
