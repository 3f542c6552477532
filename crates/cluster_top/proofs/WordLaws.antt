-- `clap` takes just the words that ask for something, and finds in them what they ask for.
use Rattle.std.proofs.Common.{◌≡◌, ◌≢◌, ℕ, zero, suc, ◌∙◌, ◌⊎◌, inl, inr, refl, sym, ap, subst, cond, List, [], ◌∷◌, ◌++◌, Bool, true, false, Option, Some, None, is_some, map, option_map, Result, ◌||◌, ◌&&◌, ◌==◌, length, arith, true≢false, eq-eqb}
use Rattle.std.specs.Prelude.{codes, find, nat_lt, nat_le, option_and_then, slice_get}
use Rattle.std.specs.List.{list_all, list_any}
use Rattle.std.specs.Result.{IsErrAnd, IsErrOf}
use Rattle.std.specs.Str.{bytes_eq}
use Rattle.std.specs.Str.Parse.{digits_value}
use Rattle.std.specs.Borrow.{Bor}
use Rattle.std.proofs.lemmas.Bool.{and_parts, eqb-true, leb-true, ne_eqb}
use Rattle.cluster_types.proofs.BoolFacts.{or_none as or_false, neither_left as or_first, neither_right as or_second}
use Rattle.clap.specs.Facts.{Entry}
use Rattle.clap.specs.Lexer.{long_of, long_of_rest, name_and_value, short_of, short_of_rest, strip_byte}
use Rattle.clap.specs.Matches.{first_value, one_text}
use Rattle.clap.specs.Values.{read_as}
use Rattle.clap.specs.Walk.{Row, Text, Walk, finished, first_of, one_of, row_of, row_text, rows_of}
use Rattle.clap.specs.Simple.{App, matches_of}
use Rattle.clap.specs.Faults.{fault_of, is_simple_and_free}
use Rattle.clap.specs.Kinds.{Kinds, IsAmong}
use Rattle.clap.specs.declared.error.kind.ErrorKind.{ErrorKind}
use Rattle.clap.specs.declared.error.kind.ErrorKind.TheVariants as kind
use Rattle.clap.specs.declared.parser.matches.Found.{Found}
use Rattle.clap.proofs.CutLemmas.{Lacks}
use Rattle.clap.proofs.LexerLemmas.{name_and_value-at, name_and_value-without}
use Rattle.clap.proofs.WalkLemmas.{find_row}
use Rattle.script_lang.specs.Values.{is_digit}
use Rattle.cluster_top.specs.declared.words.Words.{Words}
use Rattle.cluster_top.specs.declared.words.WordsFault.{WordsFault}
use Rattle.cluster_top.specs.declared.words.WordsFault.TheVariants as fault
use Rattle.cluster_top.specs.Words.{Asks, nothing, summary, generate, generate_of, AreNumber, IsNoNumber, SpellsNumber, replay_options, is_dashes}
use Rattle.cluster_top.proofs.WordWalks.{Goes, Kept, bare, flagged, valued, flag_first, value_first, Named, names_summary, names_generate, names_nothing, Out, awaits, end, end_asks, end_goes, fault_from, faults_are, flag_asks, flag_goes, flag_text, given, has_flag, held, joined_asks, joined_goes, matches_are, more_none, named, next, no_end, no_option, no_plain, no_stranger, no_value, option_asks, option_goes, rest_none, settle, shape, simple_and_free, stands, takes_value, turn, turn_none, value_goes, with_flag, with_value}
use Rattle.clap.specs.Walk.{idle}

-- ---- a word behind two hyphens

data Cut (text : Text) : Type 0 where
  whole : Lacks 61 text → Cut text
  parts : (front back : Text) → text ≡ front ++ 61 ∷ back → Lacks 61 front → Cut text

lacks_more : (x : ℕ) (xs : Text) → x ≢ 61 → Lacks 61 xs → Lacks 61 (x ∷ xs)
lacks_more x xs n h zero lt = n
lacks_more x xs n h (suc i) lt = h i (omega (arith, lt))

cut_by : (x : ℕ) (xs : Text) (b : Bool) → (x == 61) ≡ b → Cut xs → Cut (x ∷ xs)
cut_by x xs true e c = parts [] xs (ap (λ y. y ∷ xs) (eqb-true x 61 e)) (λ i lt. absurd (omega (arith, lt)))
cut_by x xs false e (whole l) = whole (lacks_more x xs (λ q. true≢false (sym (eq-eqb x 61 q) ∙ e)) l)
cut_by x xs false e (parts f b is l) = parts (x ∷ f) b (ap (λ ys. x ∷ ys) is) (lacks_more x f (λ q. true≢false (sym (eq-eqb x 61 q) ∙ e)) l)

cut : (text : Text) → Cut text
cut [] = whole (λ i lt. absurd (omega (arith, lt)))
cut (x ∷ xs) = cut_by x xs (x == 61) refl (cut xs)

abbrev spelled : Text → Option Text → Text
spelled name None = 45 ∷ 45 ∷ name
spelled name (Some v) = 45 ∷ 45 ∷ (name ++ 61 ∷ v)

abbrev said : Option (Text × Option Text) → Text
said None = []
said (Some p) = spelled p.0 p.1

no_some : {A : Type 0} {x : A} → None ≡ Some x → ⊥
no_some e = cc

rest_by : (x : ℕ) (xs name : Text) (v : Option Text) → Some (name_and_value (x ∷ xs)) ≡ Some (name, v) → Cut (x ∷ xs) → 45 ∷ 45 ∷ x ∷ xs ≡ spelled name v
rest_by x xs name v e (whole l) = ap said (sym (ap Some (name_and_value-without (x ∷ xs) l)) ∙ e)
rest_by x xs name v e (parts f b is l) =
    ap (λ (r : Text). 45 ∷ 45 ∷ r) is ∙ ap said (sym (ap Some (name_and_value-at f b l)) ∙ ap (λ (r : Text). Some (name_and_value r)) (sym is) ∙ e)

rest_is : (rest name : Text) (v : Option Text) → long_of_rest rest ≡ Some (name, v) → 45 ∷ 45 ∷ rest ≡ spelled name v
rest_is [] name v e = absurd (no_some e)
rest_is (x ∷ xs) name v e = rest_by x xs name v e (cut (x ∷ xs))

abbrev behind : Option Text → Option (Text × Option Text)
behind rest = option_and_then long_of_rest rest

behind_two : (a b : ℕ) (rest name : Text) (v : Option Text) (s t : Bool) → (a == 45) ≡ s → (b == 45) ≡ t
    → behind (option_and_then (λ _. cond t (Some rest) None) (cond s (Some (b ∷ rest)) None)) ≡ Some (name, v) → a ∷ b ∷ rest ≡ spelled name v
behind_two a b rest name v true true p q e = (λ i. eqb-true a 45 p i ∷ eqb-true b 45 q i ∷ rest) ∙ rest_is rest name v e
behind_two a b rest name v true false p q e = absurd (no_some e)
behind_two a b rest name v false t p q e = absurd (no_some e)

behind_one : (a : ℕ) (s : Bool) (p : Text × Option Text) → behind (option_and_then (strip_byte 45) (cond s (Some []) None)) ≡ Some p → ⊥
behind_one a true p e = no_some e
behind_one a false p e = no_some e

both_behind : (a b : ℕ) (rest name : Text) (v : Option Text) (s : Bool) → (a == 45) ≡ s
    → behind (option_and_then (strip_byte 45) (cond s (Some (b ∷ rest)) None)) ≡ Some (name, v) → a ∷ b ∷ rest ≡ spelled name v
both_behind a b rest name v true p e = behind_two a b rest name v true (b == 45) p refl e
both_behind a b rest name v false p e = absurd (no_some e)

word_is : (word name : Text) (v : Option Text) → long_of word ≡ Some (name, v) → word ≡ spelled name v
word_is [] name v e = absurd (no_some e)
word_is (a ∷ []) name v e = absurd (behind_one a (a == 45) (name, v) e)
word_is (a ∷ b ∷ rest) name v e = both_behind a b rest name v (a == 45) refl e

-- ---- a number is no option

record IsPlain (text : Text) : Type 0 where
  dashes : is_dashes text ≡ false
  long : long_of text ≡ None
  short : short_of text ≡ None

plain_by : (d : ℕ) (ds : Text) → (d == 45) ≡ false → IsPlain (d ∷ ds)
plain_by d ds e = record {
  dashes = ap (λ b. b && bytes_eq ds (45 ∷ [])) e;
  long = ap (λ b. behind (option_and_then (strip_byte 45) (cond b (Some ds) None))) e;
  short = ap (λ b. option_and_then short_of_rest (cond b (Some ds) None)) e;
}

plain_text : (text : Text) → nat_lt 0 (length text) ≡ true → list_all is_digit text ≡ true → IsPlain text
plain_text [] some all = absurd (true≢false (sym some))
plain_text (d ∷ ds) some all =
    let low = leb-true 48 d (and_parts (nat_le 48 d) (nat_le d 57) (and_parts (is_digit d) (list_all is_digit ds) all).0).0 in
    plain_by d ds (ne_eqb d 45 (λ e. omega (arith, low, e)))

plain_number : (text : Text) (n : ℕ) → SpellsNumber text n → IsPlain text
plain_number text n h =
    let most = and_parts (nat_lt 0 (length text) && nat_le (length text) 20 && list_all is_digit text) _ h.digits in
    let some = and_parts (nat_lt 0 (length text) && nat_le (length text) 20) (list_all is_digit text) most.0 in
    plain_text text (and_parts (nat_lt 0 (length text)) _ some.0).0 some.1

-- ---- what is kept

abbrev either_text : Option Text → Option Text → Option Text
either_text None t = t
either_text (Some s) t = Some s

either_none : (g : Option Text) → either_text g None ≡ g
either_none None = refl
either_none (Some t) = refl

flag_there : (k : Kept) → has_flag (with_flag k) ≡ true
flag_there bare = refl
flag_there flagged = refl
flag_there (valued t) = refl
flag_there (flag_first t) = refl
flag_there (value_first t) = refl

given_flag : (k : Kept) → given (with_flag k) ≡ given k
given_flag bare = refl
given_flag flagged = refl
given_flag (valued t) = refl
given_flag (flag_first t) = refl
given_flag (value_first t) = refl

value_there : (t : Text) (k : Kept) → given k ≡ None → given (with_value t k) ≡ Some t
value_there t bare g = refl
value_there t flagged g = refl
value_there t (valued s) g = absurd (no_some (sym g))
value_there t (flag_first s) g = absurd (no_some (sym g))
value_there t (value_first s) g = absurd (no_some (sym g))

flag_value : (t : Text) (k : Kept) → has_flag (with_value t k) ≡ has_flag k
flag_value t bare = refl
flag_value t flagged = refl
flag_value t (valued s) = refl
flag_value t (flag_first s) = refl
flag_value t (value_first s) = refl

settled_value : (t : Text) (k x : Kept) → settle k (Some t) ≡ Some x → (given k ≡ None) × (with_value t k ≡ x)
settled_value t bare x e = (refl, cc)
settled_value t flagged x e = (refl, cc)
settled_value t (valued s) x e = absurd (no_some e)
settled_value t (flag_first s) x e = absurd (no_some e)
settled_value t (value_first s) x e = absurd (no_some e)

settles_value : (t : Text) (k : Kept) → given k ≡ None → settle k (Some t) ≡ Some (with_value t k)
settles_value t bare g = refl
settles_value t flagged g = refl
settles_value t (valued s) g = absurd (no_some (sym g))
settles_value t (flag_first s) g = absurd (no_some (sym g))
settles_value t (value_first s) g = absurd (no_some (sym g))

-- ---- words that are taken ask for something

-- what the words say behind what is kept, and what is found at the end
record Read (k : Kept) (words : List Text) (found : List Row) : Type 0 where
  flag : Bool
  text : Option Text
  fresh_flag : flag ≡ true → has_flag k ≡ false
  fresh_text : is_some text ≡ true → given k ≡ None
  asks : (n : Option ℕ) → AreNumber text n → Asks words (record { summary = flag; generate = n })
  flag_out : one_of (codes "summary") found ≡ Some (flag_text (has_flag k || flag))
  value_out : first_of (codes "generate") found ≡ either_text (given k) text

asks_nothing : (n : Option ℕ) → AreNumber None n → Asks [] (record { summary = false; generate = n })
asks_nothing None a = nothing
asks_nothing (Some m) a = absurd a

nothing_read : (k : Kept) (found : List Row) → Out k found → Read k [] found
nothing_read k found o = record {
  flag = false;
  text = None;
  fresh_flag = λ e. absurd (true≢false (sym e));
  fresh_text = λ e. absurd (true≢false (sym e));
  asks = asks_nothing;
  flag_out = o.flag_out ∙ ap (λ b. Some (flag_text b)) (sym (or_false (has_flag k)));
  value_out = o.value_out ∙ sym (either_none (given k));
}

is_false_by : (b : Bool) → (b ≡ true → ⊥) → b ≡ false
is_false_by true h = absurd (h refl)
is_false_by false h = refl

is_none_by : (t : Option Text) → (is_some t ≡ true → ⊥) → t ≡ None
is_none_by None h = refl
is_none_by (Some s) h = absurd (h refl)

flag_read : (k : Kept) (words : List Text) (found : List Row) → has_flag k ≡ false → Read (with_flag k) words found → Read k (codes "--summary" ∷ words) found
flag_read k words found f r = record {
  flag = true;
  text = r.text;
  fresh_flag = λ _. f;
  fresh_text = λ e. sym (given_flag k) ∙ r.fresh_text e;
  asks = λ n a. summary (r.asks n a) once;
  flag_out = r.flag_out ∙ ap (λ b. Some (flag_text (b || r.flag))) (flag_there k) ∙ ap (λ b. Some (flag_text (b || true))) (sym f);
  value_out = r.value_out ∙ ap (λ g. either_text g r.text) (given_flag k);
}
  where
    once : r.flag ≡ false
    once = is_false_by r.flag (λ e. true≢false (sym (flag_there k) ∙ r.fresh_flag e))

-- a value, in whichever way it is written
value_read : (t : Text) (k : Kept) (words longer : List Text) (found : List Row)
    → ((s : Bool) (m : ℕ) → Asks words (record { summary = s; generate = None }) → SpellsNumber t m → Asks longer (record { summary = s; generate = Some m }))
    → given k ≡ None → Read (with_value t k) words found → Read k longer found
value_read t k words longer found make g r = record {
  flag = r.flag;
  text = Some t;
  fresh_flag = λ e. sym (flag_value t k) ∙ r.fresh_flag e;
  fresh_text = λ _. g;
  asks = asks;
  flag_out = r.flag_out ∙ ap (λ b. Some (flag_text (b || r.flag))) (flag_value t k);
  value_out = r.value_out ∙ ap (λ x. either_text x r.text) (value_there t k g) ∙ ap (λ x. either_text x (Some t)) (sym g);
}
  where
    once : r.text ≡ None
    once = is_none_by r.text (λ e. no_some (sym (r.fresh_text e) ∙ value_there t k g))

    asks : (n : Option ℕ) → AreNumber (Some t) n → Asks longer (record { summary = r.flag; generate = n })
    asks None a = absurd a
    asks (Some m) a = make r.flag m (r.asks None (subst (λ (x : Option Text). AreNumber x None) (sym once) tt)) a

abbrev found_from : Walk → List Text → List Row
found_from w words = finished shape.rules (end w words)

goes_found : (w v : Walk) (word : Text) (words : List Text) → next w word ≡ v → found_from w (word ∷ words) ≡ found_from v words
goes_found w v word words e = ap (λ (x : Walk). found_from x words) e

abbrev Accepted : Kept → Option Text → List Text → Type 0
Accepted k p words = (k' : Kept) × (settle k p ≡ Some k') × Read k' words (found_from (stands k p) words)

abbrev Accepts : Kept → Option Text → List Text → Type 0
Accepts k p words = fault_from (stands k p) words ≡ [] → list_any is_dashes words ≡ false → Accepted k p words

same_some : {A : Type 0} (x y : A) → Some x ≡ Some y → x ≡ y
same_some x y e = cc

read_again : (k x : Kept) (words : List Text) (found other : List Row) → found ≡ other → Some k ≡ Some x → Read x words other → Read k words found
read_again k x words found other f e r = subst (λ (y : Kept). Read y words found) (sym (same_some k x e)) (subst (Read x words) (sym f) r)

flag_word : (words : List Text) (k : Kept) (p : Option Text) → ((k' : Kept) (q : Option Text) → Accepts k' q words) → Accepts k p (codes "--summary" ∷ words)
flag_word words k p rest e d =
    let a = flag_asks k p (turn_none (stands k p) (codes "--summary") words e) in
    let g = flag_goes k p a.0 a.1 a.2 in
    let r = rest (with_flag a.0) None (rest_none (stands k p) (stands (with_flag a.0) None) (codes "--summary") words g.1 e) (or_second (is_dashes (codes "--summary")) (list_any is_dashes words) d) in (
      a.0,
      a.1,
      flag_read a.0 words (found_from (stands k p) (codes "--summary" ∷ words)) a.2
          (read_again (with_flag a.0) r.0 words (found_from (stands k p) (codes "--summary" ∷ words)) (found_from (stands (with_flag a.0) None) words)
          (goes_found (stands k p) (stands (with_flag a.0) None) (codes "--summary") words g.1) r.1 r.2),
    )

joined_word : (text : Text) (words : List Text) (k : Kept) (p : Option Text) → ((k' : Kept) (q : Option Text) → Accepts k' q words) → Accepts k p ((codes "--generate=" ++ text) ∷ words)
joined_word text words k p rest e d =
    let word : Text = codes "--generate=" ++ text in
    let a = joined_asks k p text (turn_none (stands k p) (codes "--generate=" ++ text) words e) in
    let g = joined_goes text k p a.0 a.1 a.2 in
    let r = rest (with_value text a.0) None (rest_none (stands k p) (stands (with_value text a.0) None) (codes "--generate=" ++ text) words g.1 e) (or_second (is_dashes (codes "--generate=" ++ text)) (list_any is_dashes words) d) in (
      a.0,
      a.1,
      value_read text a.0 words ((codes "--generate=" ++ text) ∷ words) (found_from (stands k p) ((codes "--generate=" ++ text) ∷ words)) (λ s m x n. generate_of x refl n) a.2
          (read_again (with_value text a.0) r.0 words (found_from (stands k p) ((codes "--generate=" ++ text) ∷ words)) (found_from (stands (with_value text a.0) None) words)
          (goes_found (stands k p) (stands (with_value text a.0) None) (codes "--generate=" ++ text) words g.1) r.1 r.2),
    )

-- what is known of the words behind the next one
abbrev After : List Text → Type 0
After [] = Unit {0}
After (v ∷ ws) = (k : Kept) (q : Option Text) → Accepts k q ws

option_word : (words : List Text) (k : Kept) (p : Option Text) → After words → Accepts k p (codes "--generate" ∷ words)
option_word [] k p after e d =
    let a = option_asks k p (turn_none (stands k p) (codes "--generate") [] e) in
    let g = option_goes k p a.0 a.1 in
    absurd (no_end a.0 (rest_none (stands k p) (awaits a.0) (codes "--generate") [] g.1 e))
option_word (v ∷ ws) k p after e d = go (long_of v) refl
  where
    a : (k' : Kept) × (settle k p ≡ Some k')
    a = option_asks k p (turn_none (stands k p) (codes "--generate") (v ∷ ws) e)

    g : Goes (stands k p) (codes "--generate") (awaits a.0)
    g = option_goes k p a.0 a.1

    left : fault_from (awaits a.0) (v ∷ ws) ≡ []
    left = rest_none (stands k p) (awaits a.0) (codes "--generate") (v ∷ ws) g.1 e

    t : turn (awaits a.0) v ≡ []
    t = turn_none (awaits a.0) v ws left

    free : list_any is_dashes (v ∷ ws) ≡ false
    free = or_second (is_dashes (codes "--generate")) (list_any is_dashes (v ∷ ws)) d

    go : (parts : Option (Text × Option Text)) → long_of v ≡ parts → Accepted k p (codes "--generate" ∷ v ∷ ws)
    go (Some q) l = absurd (no_option a.0 v q.0 q.1 (or_first (is_dashes v) (list_any is_dashes ws) free) l t)
    go None l =
        let n : next (awaits a.0) v ≡ stands a.0 (Some v) = takes_value a.0 v (or_first (is_dashes v) (list_any is_dashes ws) free) l t in
        let r = after a.0 (Some v) (rest_none (awaits a.0) (stands a.0 (Some v)) v ws n left) (or_second (is_dashes v) (list_any is_dashes ws) free) in
        let s = settled_value v a.0 r.0 r.1 in
        let found : found_from (stands k p) (codes "--generate" ∷ v ∷ ws) ≡ found_from (stands a.0 (Some v)) ws =
        goes_found (stands k p) (awaits a.0) (codes "--generate") (v ∷ ws) g.1 ∙ goes_found (awaits a.0) (stands a.0 (Some v)) v ws n in (
          a.0,
          a.1,
          value_read v a.0 ws (codes "--generate" ∷ v ∷ ws) (found_from (stands k p) (codes "--generate" ∷ v ∷ ws)) (λ b m x num. generate x refl num) s.0
              (read_again (with_value v a.0) r.0 ws (found_from (stands k p) (codes "--generate" ∷ v ∷ ws)) (found_from (stands a.0 (Some v)) ws) found (ap Some s.1) r.2),
        )

one_word : (word : Text) (words : List Text) (k : Kept) (p : Option Text) → ((k' : Kept) (q : Option Text) → Accepts k' q words) → After words → Accepts k p (word ∷ words)
one_word word words k p rest after e d = go (long_of word) refl
  where
    free : is_dashes word ≡ false
    free = or_first (is_dashes word) (list_any is_dashes words) d

    t : turn (stands k p) word ≡ []
    t = turn_none (stands k p) word words e

    as_word : (other : Text) → word ≡ other → Accepts k p (other ∷ words) → Accepted k p (word ∷ words)
    as_word other is f = subst (λ (w : Text). Accepts k p (w ∷ words)) (sym is) f e d

    go_named : (name : Text) (v : Option Text) → long_of word ≡ Some (name, v) → Named name → Accepted k p (word ∷ words)
    go_named name None l (names_summary is) = as_word (codes "--summary") (word_is word name None l ∙ ap (λ (n : Text). spelled n None) is) (flag_word words k p rest)
    go_named name (Some v) l (names_summary is) =
        absurd (no_value (held k p) idle word v free (l ∙ ap (λ (n : Text). Some (n, Some v)) is) t)
    go_named name None l (names_generate is) = as_word (codes "--generate") (word_is word name None l ∙ ap (λ (n : Text). spelled n None) is) (option_word words k p after)
    go_named name (Some v) l (names_generate is) =
        as_word (codes "--generate=" ++ v) (word_is word name (Some v) l ∙ ap (λ (n : Text). spelled n (Some v)) is) (joined_word v words k p rest)
    go_named name v l (names_nothing n) = absurd (no_stranger (held k p) idle word name v free l n t)

    go : (parts : Option (Text × Option Text)) → long_of word ≡ parts → Accepted k p (word ∷ words)
    go None l = absurd (no_plain k p word free l t)
    go (Some q) l = go_named q.0 q.1 l (named q.0)

accept : (words : List Text) (k : Kept) (p : Option Text) → Accepts k p words
accept [] k p e d = let s = end_asks k p e in (s.0, s.1, nothing_read s.0 (found_from (stands k p) []) (end_goes k p s.0 s.1).1)
accept (word ∷ []) k p e d = one_word word [] k p (accept []) tt e d
accept (word ∷ v ∷ ws) k p e d = one_word word (v ∷ ws) k p (accept (v ∷ ws)) (accept ws) e d

-- ---- words that ask for something are taken

record Taken (f : Bool) (g : Option Text) (w : Words) (fault : Kinds) (found : List Row) : Type 0 where
  none : fault ≡ []
  flag_out : one_of (codes "summary") found ≡ Some (flag_text (f || w.summary))
  text : Option Text
  number : AreNumber text w.generate
  out : first_of (codes "generate") found ≡ either_text g text

abbrev TakesWords : Kept → Option Text → List Text → Words → Type 0
TakesWords k p ws w = (k' : Kept) → settle k p ≡ Some k' → (w.summary ≡ true → has_flag k' ≡ false) → (is_some w.generate ≡ true → given k' ≡ None)
    → Taken (has_flag k') (given k') w (fault_from (stands k p) ws) (found_from (stands k p) ws)

taken_value : (flag : Bool) (g : Option Text) (t : Text) (w v : Words) (fault more : Kinds) (found other : List Row) (n : ℕ) → fault ≡ [] → found ≡ other → g ≡ None → SpellsNumber t n
    → v.generate ≡ Some n → w.summary ≡ v.summary → Taken flag (Some t) w more other → Taken flag g v fault found
taken_value flag g t w v fault more found other n none f fresh number gives same r = record {
  none = none;
  flag_out = ap (one_of (codes "summary")) f ∙ r.flag_out ∙ ap (λ b. Some (flag_text (flag || b))) same;
  text = Some t;
  number = subst (AreNumber (Some t)) (sym gives) number;
  out = ap (first_of (codes "generate")) f ∙ r.out ∙ ap (λ x. either_text x (Some t)) (sym fresh);
}

value_kept : (t : Text) (k : Kept) (w : Words) (fault : Kinds) (found : List Row) → given k ≡ None → Taken (has_flag (with_value t k)) (given (with_value t k)) w fault found
    → Taken (has_flag k) (Some t) w fault found
value_kept t k w fault found g r =
    subst (λ (b : Bool). Taken b (Some t) w fault found) (flag_value t k) (subst (λ (x : Option Text). Taken (has_flag (with_value t k)) x w fault found) (value_there t k g) r)

take : (ws : List Text) (w : Words) → Asks ws w → (k : Kept) (p : Option Text) → TakesWords k p ws w
take _ _ nothing k p k' e f g = let o = end_goes k p k' e in record {
  none = o.0;
  flag_out = o.1.flag_out ∙ ap (λ b. Some (flag_text b)) (sym (or_false (has_flag k')));
  text = None;
  number = tt;
  out = o.1.value_out ∙ sym (either_none (given k'));
}
take _ _ (summary {ws} {w} a s) k p k' e f g =
    let go = flag_goes k p k' e (f refl) in
    let r = take ws w a (with_flag k') None (with_flag k') refl (λ t. absurd (true≢false (sym t ∙ s))) (λ t. given_flag k' ∙ g t) in record {
      none = more_none (stands k p) (stands (with_flag k') None) (codes "--summary") ws go.0 go.1 r.none;
      flag_out = ap (one_of (codes "summary")) (goes_found (stands k p) (stands (with_flag k') None) (codes "--summary") ws go.1) ∙ r.flag_out
          ∙ ap (λ b. Some (flag_text (b || w.summary))) (flag_there k') ∙ ap (λ b. Some (flag_text (b || true))) (sym (f refl));
      text = r.text;
      number = r.number;
      out = ap (first_of (codes "generate")) (goes_found (stands k p) (stands (with_flag k') None) (codes "--summary") ws go.1) ∙ r.out ∙ ap (λ x. either_text x r.text) (given_flag k');
    }
take _ _ (generate {ws} {w} {text} {n} a none number) k p k' e f g =
    let fresh = g refl in
    let plain = plain_number text n number in
    let go = option_goes k p k' e in
    let on = value_goes k' text plain.dashes plain.long plain.short in
    let r = take ws w a k' (Some text) (with_value text k') (settles_value text k' fresh) (λ s. flag_value text k' ∙ f s) (λ s. absurd (true≢false (sym s ∙ ap is_some none))) in
    taken_value (has_flag k') (given k') text w (record w { generate = Some n }) _ _ _ _ n
    (more_none (stands k p) (awaits k') (codes "--generate") (text ∷ ws) go.0 go.1 (more_none (awaits k') (stands k' (Some text)) text ws on.0 on.1 r.none))
    (goes_found (stands k p) (awaits k') (codes "--generate") (text ∷ ws) go.1 ∙ goes_found (awaits k') (stands k' (Some text)) text ws on.1)
    fresh number refl refl (value_kept text k' w (fault_from (stands k' (Some text)) ws) (found_from (stands k' (Some text)) ws) fresh r)
take _ _ (generate_of {ws} {w} {text} {n} a none number) k p k' e f g =
    let fresh = g refl in
    let go = joined_goes text k p k' e fresh in
    let r = take ws w a (with_value text k') None (with_value text k') refl (λ s. flag_value text k' ∙ f s) (λ s. absurd (true≢false (sym s ∙ ap is_some none))) in
    taken_value (has_flag k') (given k') text w (record w { generate = Some n }) _ _ _ _ n
    (more_none (stands k p) (stands (with_value text k') None) (codes "--generate=" ++ text) ws go.0 go.1 r.none)
    (goes_found (stands k p) (stands (with_value text k') None) (codes "--generate=" ++ text) ws go.1)
    fresh number refl refl (value_kept text k' w (fault_from (stands (with_value text k') None) ws) (found_from (stands (with_value text k') None) ws) fresh r)

free_of_dashes : (ws : List Text) (w : Words) → Asks ws w → list_any is_dashes ws ≡ false
free_of_dashes _ _ nothing = refl
free_of_dashes _ _ (summary {ws} {w} a s) = free_of_dashes ws w a
free_of_dashes _ _ (generate {ws} {w} {text} {n} a none number) = ap (λ b. b || list_any is_dashes ws) (plain_number text n number).dashes ∙ free_of_dashes ws w a
free_of_dashes _ _ (generate_of {ws} {w} {text} {n} a none number) = free_of_dashes ws w a

-- ---- as the code cites them

first_text : (vs : List (Bor Text)) → option_map (λ s. s.now) (slice_get vs 0) ≡ slice_get (map (λ s. s.now) vs) 0
first_text [] = refl
first_text (v ∷ vs) = refl

value_row : (o : Option Entry) → option_and_then (λ a. option_map (λ s. s.now) (slice_get a.vals.items 0)) (option_map (λ e. e.1) o) ≡ option_and_then (λ r. slice_get r.values 0) (option_map row_of o)
value_row None = refl
value_row (Some e) = first_text e.1.vals.items

value_of_rows : (f : Found) (id : Text) → first_value f id ≡ first_of id (rows_of f)
value_of_rows f id =
    value_row (find (λ e. bytes_eq e.0.now id) f.entries.items) ∙ ap (λ o. option_and_then (λ (r : Row). slice_get r.values 0) o) (sym (find_row f.entries.items id))

read_text : (how : _) (vs : List (Bor Text)) → option_map (λ s. read_as how s.now) (slice_get vs 0) ≡ option_map (read_as how) (slice_get (map (λ s. s.now) vs) 0)
read_text how [] = refl
read_text how (v ∷ vs) = refl

text_row : (o : Option Entry) → option_and_then (λ a. option_map (λ s. read_as a.reading s.now) (slice_get a.vals.items 0)) (option_map (λ e. e.1) o) ≡ option_and_then row_text (option_map row_of o)
text_row None = refl
text_row (Some e) = read_text e.1.reading e.1.vals.items

text_of_rows : (f : Found) (id : Text) → one_text f id ≡ one_of id (rows_of f)
text_of_rows f id = text_row (find (λ e. bytes_eq e.0.now id) f.entries.items) ∙ ap (λ o. option_and_then row_text o) (sym (find_row f.entries.items id))

flag_by : (flag said : Bool) (text : Option Text) → text ≡ Some (flag_text said) → (text ≡ Some (codes "true") → flag ≡ true) → (text ≡ Some (codes "false") → flag ≡ false) → flag ≡ said
flag_by flag true text is if_true if_false = if_true is
flag_by flag false text is if_true if_false = if_false is

pub dashes_ask_nothing : (ws : List Text) → list_any is_dashes ws ≡ true → (w : Words) → Asks ws w → ⊥
dashes_ask_nothing ws e w a = true≢false (sym e ∙ free_of_dashes ws w a)

taken_at_start : (ws : List Text) (w : Words) → Asks ws w → Taken false None w (fault_from (stands bare None) ws) (found_from (stands bare None) ws)
taken_at_start ws w a = take ws w a bare None bare refl (λ _. refl) (λ _. refl)

same_flag : (a b : Bool) → flag_text a ≡ flag_text b → a ≡ b
same_flag true true e = refl
same_flag true false e = cc
same_flag false true e = cc
same_flag false false e = refl

same_number : (t u : Option Text) (n m : Option ℕ) → t ≡ u → AreNumber t n → AreNumber u m → n ≡ m
same_number None None None None e a b = refl
same_number None None None (Some m) e a b = absurd b
same_number None None (Some n) m e a b = absurd a
same_number None (Some u) n m e a b = absurd (no_some e)
same_number (Some t) None n m e a b = absurd (no_some (sym e))
same_number (Some t) (Some u) None m e a b = absurd a
same_number (Some t) (Some u) (Some n) None e a b = absurd b
same_number (Some t) (Some u) (Some n) (Some m) e a b = ap Some (a.value ∙ ap (digits_value 10) (same_some t u e) ∙ sym b.value)

-- words ask for one thing
pub asks_one : (ws : List Text) (w v : Words) → Asks ws w → Asks ws v → w ≡ v
asks_one ws w v a b =
    let t = taken_at_start ws w a in
    let u = taken_at_start ws v b in
    let flags : w.summary ≡ v.summary = same_flag w.summary v.summary (same_some _ _ (sym t.flag_out ∙ u.flag_out)) in
    let numbers : w.generate ≡ v.generate = same_number t.text u.text w.generate v.generate (sym t.out ∙ u.out) t.number u.number in
    λ i. record { summary = flags i; generate = numbers i }

fault_none : (app : App) (ws : List Text) → app ≡ replay_options → fault_of app ws ≡ fault_from (stands bare None) ws
fault_none app ws is = ap (λ (x : App). fault_of x ws) is ∙ faults_are ws

-- a parse of words that ask for something fails for want of memory alone
pub asking_is_taken : (app : App) (ws : List Text) (w : Words) (k : ErrorKind) → app ≡ replay_options
    → (is_simple_and_free app ≡ true → (k ≡ kind.OutOfMemory) ⊎ IsAmong k (fault_of app ws)) → Asks ws w → k ≡ kind.OutOfMemory
asking_is_taken app ws w k is fails a = go (fails (ap is_simple_and_free is ∙ simple_and_free))
  where
    go : (k ≡ kind.OutOfMemory) ⊎ IsAmong k (fault_of app ws) → k ≡ kind.OutOfMemory
    go (inl e) = e
    go (inr h) = absurd (subst (IsAmong k) (fault_none app ws is ∙ (taken_at_start ws w a).none) h)

found_is : (app : App) (ws : List Text) (f : Found) → app ≡ replay_options → rows_of f ≡ matches_of app ws → rows_of f ≡ found_from (stands bare None) ws
found_is app ws f is m = m ∙ ap (λ (x : App). matches_of x ws) is ∙ matches_are ws

-- where they ask for something, the text that is given stands for a number
no_number_by : (t u : Option Text) (n : Option ℕ) → t ≡ u → AreNumber u n → IsNoNumber t → ⊥
no_number_by None u n e a h = h
no_number_by (Some t) None n e a h = no_some (sym e)
no_number_by (Some t) (Some u) None e a h = a
no_number_by (Some t) (Some u) (Some n) e a h = h n (subst (λ (x : Text). SpellsNumber x n) (sym (same_some t u e)) a)

pub no_number_asks_nothing : (app : App) (ws : List Text) (f : Found) → app ≡ replay_options → rows_of f ≡ matches_of app ws → IsNoNumber (first_value f (codes "generate"))
    → (w : Words) → Asks ws w → ⊥
no_number_asks_nothing app ws f is m h w a =
    let t = taken_at_start ws w a in
    no_number_by (first_value f (codes "generate")) t.text w.generate
    (value_of_rows f (codes "generate") ∙ ap (first_of (codes "generate")) (found_is app ws f is m) ∙ t.out) t.number h

-- words that are taken ask for what is found
pub taken_asks : (app : App) (ws : List Text) (f : Found) (flag : Bool) (n : Option ℕ) → app ≡ replay_options → rows_of f ≡ matches_of app ws → fault_of app ws ≡ []
    → list_any is_dashes ws ≡ false
    → (one_text f (codes "summary") ≡ Some (codes "true") → flag ≡ true) → (one_text f (codes "summary") ≡ Some (codes "false") → flag ≡ false)
    → AreNumber (first_value f (codes "generate")) n → Asks ws (record { summary = flag; generate = n })
taken_asks app ws f flag n is m e d if_true if_false number =
    let a = accept ws bare None (sym (fault_none app ws is) ∙ e) d in
    let r = read_again bare a.0 ws (found_from (stands bare None) ws) (found_from (stands bare None) ws) refl a.1 a.2 in
    let rows = found_is app ws f is m in
    let same : flag ≡ r.flag = flag_by flag r.flag (one_text f (codes "summary")) (text_of_rows f (codes "summary") ∙ ap (one_of (codes "summary")) rows ∙ r.flag_out) if_true if_false in
    let text : first_value f (codes "generate") ≡ r.text = value_of_rows f (codes "generate") ∙ ap (first_of (codes "generate")) rows ∙ r.value_out in
    subst (λ (b : Bool). Asks ws (record { summary = b; generate = n })) (sym same) (r.asks n (subst (λ (t : Option Text). AreNumber t n) text number))

-- ---- a list of strings

pub dashes_among : {A : Type 0} (text : A → Text) (words : List A) → list_any is_dashes (map text words) ≡ list_any (λ w. is_dashes (text w)) words
dashes_among text [] = refl
dashes_among text (w ∷ words) = ap (λ b. is_dashes (text w) || b) (dashes_among text words)

-- want of memory is no bad word
pub memory_is_not_bad : {T : Type 0} (r : Result T WordsFault) (k : ErrorKind) → IsErrOf r fault.Bad → IsErrAnd r (λ f. k ≡ kind.OutOfMemory → f ≡ fault.NoMemory) → k ≡ kind.OutOfMemory → ⊥
memory_is_not_bad {T} r k bad h e =
    let g : k ≡ kind.OutOfMemory → fault.Bad ≡ fault.NoMemory = subst (λ (x : Result T WordsFault). IsErrAnd x (λ f. k ≡ kind.OutOfMemory → f ≡ fault.NoMemory)) bad h in
    let no : fault.Bad ≡ fault.NoMemory = g e in
    cc
