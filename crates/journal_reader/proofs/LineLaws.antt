-- A line is read back from its text, and what is read is written so.
use Rattle.std.proofs.Common.{◌≡◌, ℕ, ◌==◌, false, List, [], ◌∷◌, ◌++◌, length, Some, refl, sym, ap, ◌∙◌, arith, length-append, append_assoc}
use Rattle.std.specs.Prelude.{All}
use Rattle.std.specs.List.{join_with_byte}
use Rattle.std.proofs.lemmas.Bool.{ne_eqb}
use Rattle.std.proofs.lemmas.List.Concat.{flat_map-cons}
use Rattle.std.proofs.lemmas.List.Elements.{All-head, All-tail, All-weaker}
use Rattle.std.proofs.lemmas.List.Splits.{slice_split_at, join_with_byte-slice_split}
use Rattle.std.proofs.lemmas.Option.{none-some, same_Some}
use Rattle.journal_lines.specs.declared.line.Line.{Line}
use Rattle.journal_lines.specs.declared.line.Line.TheVariants as line
use Rattle.journal_reader.specs.Fields.{parts_of}
use Rattle.journal_text.specs.LineFields.{fields}
use Rattle.journal_lines.specs.Proper.{IsProper}
use Rattle.journal_reader.specs.Reading.{parsed_line, only_line, read_line}
use Rattle.journal_text.specs.Text.{words, line_text, text}
use Rattle.journal_reader.proofs.Readers.{Reads, IsFull, reads_parts}
use Rattle.journal_reader.proofs.KeyFields.{IsVisible}
use Rattle.journal_reader.proofs.LineReaders.{line_fields}

-- a byte that is no line feed
record IsNoFeed (b : ℕ) : Type 0 where
  other : b ≡ 10 → ⊥

visible_no_feed : (b : ℕ) → IsVisible b → IsNoFeed b
visible_no_feed b v = let above = v.above in record { other = λ e. omega arith }

full : (l : Line) → IsProper l → IsFull (fields l)
full (line.Script v) h = tt
full (line.Factor f) h = tt
full (line.Node n rack) h = tt
full (line.Policy p) h = tt
full (line.Clock n t) h = tt
full (line.Groups gs) h = tt
full (line.Tick n) h = tt
full (line.Stop n) h = tt
full (line.Start n) h = tt
full (line.Down n) h = tt
full (line.Up n) h = tt
full (line.Quiesce n) h = tt
full (line.Unquiesce n) h = tt
full (line.Deliver i a b) h = tt
full (line.Repeat i a b) h = tt
full (line.Cut i a b len) h = tt
full (line.Lost i) h = tt
full (line.Blocked i) h = tt
full (line.NoMessage i) h = tt
full (line.Sent i a b bytes) h = tt
full (line.Full i) h = tt
full (line.Short b) h = tt
full (line.Stale b) h = tt
full (line.Spent b) h = tt
full (line.Promise n k) h = tt
full (line.Enter n k ms) h = tt
full (line.Exchanged n k) h = tt
full (line.Handed n k p) h = tt
full (line.Settled n k p) h = tt
full (line.Learn n k p) h = tt
full (line.Drop n k p) h = tt
full (line.Opened n k t d w) h = tt
full (line.Refused n d c) h = tt
full (line.Value n k t d v) h = tt
full (line.Apply n k t d v) h = tt
full (line.Done n k t) h = tt
full (line.Aborted n k t) h = tt
full (line.Doubt n k t) h = tt
full (line.Merge n k d v) h = tt
full (line.Map n k p ms a) h = tt
full (line.Mapless n c) h = tt
full (line.Place p ms) h = tt
full (line.Hash d p) h = tt
full (line.Holds n d v) h = tt
full (line.Client n d) h = tt
full (line.NoMap p) h = tt
full (line.Table k) h = tt
full (line.Calm r) h = tt
full (line.Proxy n k x d w a) h = tt
full (line.Proxied n k x r) h = tt
full (line.Unproxied n k x) h = tt
full line.CallFull h = tt
full (line.Call q n d w) h = tt
full (line.NoOpen q) h = tt
full (line.Again q n) h = tt
full (line.Reply q n r) h = tt
full (line.Scan s n p) h = tt
full (line.NoScan s) h = tt
full (line.Rescan s) h = tt
full (line.Page s count) h = tt
full (line.Scanned s n k p count) h = tt
full (line.Record s d v) h = tt
full (line.Unscanned s c) h = tt

line_words : Reads IsNoFeed IsProper words (λ t. parsed_line (parts_of 32 t))
line_words = reads_parts 32 (λ b v. let above = v.above in ne_eqb b 32 (λ e. omega arith)) visible_no_feed (record { other = λ e. omega arith }) full line_fields

no_feed : (l : Line) → IsProper l → All (λ b. (b == 10) ≡ false) (words l)
no_feed l p = All-weaker IsNoFeed (λ b. (b == 10) ≡ false) (λ b f. ne_eqb b 10 f.other) (words l) (line_words.clean l p)

-- a line before more text
line_then : (l : Line) (more : List ℕ) → IsProper l → parts_of 10 (words l ++ 10 ∷ more) ≡ words l ∷ parts_of 10 more
line_then l more p = slice_split_at (λ b. b == 10) (words l) 10 more (no_feed l p) refl

pub read_back : (l : Line) → IsProper l → read_line (line_text l) ≡ Some l
unfolding read_line
read_back l p = ap only_line (line_then l [] p) ∙ line_words.again l p

record IsOnly (parts : List (List ℕ)) (l : Line) : Type 0 where
  first : List ℕ
  is : parts ≡ first ∷ [] ∷ []
  read : parsed_line (parts_of 32 first) ≡ Some l

only_is : (parts : List (List ℕ)) (l : Line) → only_line parts ≡ Some l → IsOnly parts l
only_is [] l e = absurd (none-some l e)
only_is (first ∷ []) l e = absurd (none-some l e)
only_is (first ∷ [] ∷ []) l e = record { first = first; is = refl; read = e }
only_is (first ∷ [] ∷ next ∷ parts) l e = absurd (none-some l e)
only_is (first ∷ (b ∷ bytes) ∷ parts) l e = absurd (none-some l e)

pub written_so : (bytes : List ℕ) (l : Line) → read_line bytes ≡ Some l → (line_text l ≡ bytes) × IsProper l
unfolding read_line
written_so bytes l e =
    let o = only_is (parts_of 10 bytes) l e in
    let w = line_words.written o.first l o.read in
    (ap (λ t. t ++ 10 ∷ []) w.0 ∙ ap (join_with_byte 10) (sym o.is) ∙ join_with_byte-slice_split 10 bytes, w.1)

pub injective : (l m : Line) → IsProper l → IsProper m → line_text l ≡ line_text m → l ≡ m
injective l m p q e = same_Some l m (sym (read_back l p) ∙ ap read_line e ∙ read_back m q)

-- ---- journals

text_then : (l : Line) (ls : List Line) → text (l ∷ ls) ≡ words l ++ 10 ∷ text ls
text_then l ls = flat_map-cons line_text l ls ∙ append_assoc (words l) (10 ∷ []) (text ls)

abbrev first_part : List (List ℕ) → List ℕ
first_part [] = []
first_part (part ∷ parts) = part

abbrev other_parts : List (List ℕ) → List (List ℕ)
other_parts [] = []
other_parts (part ∷ parts) = parts

no_text : (l : Line) (ls : List Line) → [] ≡ text (l ∷ ls) → ⊥
no_text l ls e =
    let same : length {A = ℕ} [] ≡ length (words l ++ 10 ∷ text ls) = ap length (e ∙ text_then l ls) in
    let sum = length-append (words l) (10 ∷ text ls) in
    omega (arith, same, sum)

pub journals_injective : (ls ms : List Line) → All IsProper ls → All IsProper ms → text ls ≡ text ms → ls ≡ ms
journals_injective [] [] p q e = refl
journals_injective [] (m ∷ ms) p q e = absurd (no_text m ms e)
journals_injective (l ∷ ls) [] p q e = absurd (no_text l ls (sym e))
journals_injective (l ∷ ls) (m ∷ ms) p q e =
    let lp = All-head IsProper l ls p in
    let mp = All-head IsProper m ms q in
    let parts : words l ∷ parts_of 10 (text ls) ≡ words m ∷ parts_of 10 (text ms) =
    sym (line_then l (text ls) lp) ∙ ap (parts_of 10) (sym (text_then l ls) ∙ e ∙ text_then m ms) ∙ line_then m (text ms) mp in
    let first : words l ≡ words m = ap first_part parts in
    let rest : text ls ≡ text ms = sym (join_with_byte-slice_split 10 (text ls)) ∙ ap (λ ps. join_with_byte 10 (other_parts ps)) parts ∙ join_with_byte-slice_split 10 (text ms) in
    let same : l ≡ m = injective l m lp mp (ap (λ t. t ++ 10 ∷ []) first) in
    (λ i. same i ∷ journals_injective ls ms (All-tail IsProper l ls p) (All-tail IsProper m ms q) rest i)
