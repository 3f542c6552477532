-- What `clap` makes of each word, where it has come to by the words before.
use Rattle.std.proofs.Common.{◌≡◌, ℕ, ◌∙◌, refl, sym, ap, subst, cond, List, [], ◌∷◌, ◌++◌, Bool, true, false, Option, Some, None, is_some, ◌||◌, length}
use Rattle.std.specs.Prelude.{codes, slice_get}
use Rattle.std.specs.List.{fold}
use Rattle.std.specs.Option.{option_map_or}
use Rattle.std.specs.Str.{bytes_eq, chars}
use Rattle.std.proofs.lemmas.Slice.Eq.{bytes_eq-Decides}
use Rattle.clap.specs.Lexer.{long_of, short_of}
use Rattle.clap.specs.Walk.{Held, Row, Rule, Text, Walk, Waiting, idle, option, positional, plain, after_flag, after_step, arg_by_long, bundle_met, bundle_step, finished, first_of, long_met, long_or_other, nothing_held, one_of, short_or_plain, settled, trailing, walk_from, walked}
use Rattle.clap.specs.Simple.{Shape, built, entered, is_simple, matches_of}
use Rattle.clap.specs.Kinds.{Kinds, or_else}
use Rattle.clap.specs.Faults.{bundle_fault, bundle_step_fault, check_fault, defaults_fault, entered_fault, fault_of, flag_word_fault, flags_fault, long_fault, is_simple_and_free, settle_fault, step_fault, turn_fault, walk_fault}
use Rattle.clap.specs.declared.error.kind.ErrorKind.{ErrorKind}
use Rattle.clap.specs.declared.parser.matches.ValueSource.TheVariants.{CommandLine}
use Rattle.clap.specs.declared.builder.value_parser.Reading.TheVariants.{AsWritten}
use Rattle.clap.proofs.OnLiterals.{clap_on_literals}
use Rattle.cluster_top.specs.Words.{replay_options, is_dashes}

-- ---- the command line

abbrev pub shape : Shape
shape = (built replay_options).top

pub simple : is_simple replay_options ≡ true
unfolding clap_on_literals
simple = refl

pub simple_and_free : is_simple_and_free replay_options ≡ true
unfolding clap_on_literals
simple_and_free = refl

-- ---- where a walk stands

-- the options that were read, in their order
pub data Kept : Type 0 where
  bare : Kept
  flagged : Kept
  valued : Text → Kept
  flag_first : Text → Kept
  value_first : Text → Kept

abbrev flag_row : Row
flag_row = record { id = codes "summary"; values = codes "true" ∷ []; count = None; source = Some CommandLine; reading = AsWritten }

abbrev value_row : Text → Row
value_row t = record { id = codes "generate"; values = t ∷ []; count = None; source = Some CommandLine; reading = AsWritten }

abbrev pub rows : Kept → List Row
rows bare = []
rows flagged = flag_row ∷ []
rows (valued t) = value_row t ∷ []
rows (flag_first t) = flag_row ∷ value_row t ∷ []
rows (value_first t) = value_row t ∷ flag_row ∷ []

abbrev pub has_flag : Kept → Bool
has_flag bare = false
has_flag flagged = true
has_flag (valued t) = false
has_flag (flag_first t) = true
has_flag (value_first t) = true

abbrev pub given : Kept → Option Text
given bare = None
given flagged = None
given (valued t) = Some t
given (flag_first t) = Some t
given (value_first t) = Some t

abbrev pub with_flag : Kept → Kept
with_flag bare = flagged
with_flag flagged = flagged
with_flag (valued t) = value_first t
with_flag (flag_first t) = flag_first t
with_flag (value_first t) = value_first t

abbrev pub with_value : Text → Kept → Kept
with_value t bare = valued t
with_value t flagged = flag_first t
with_value t (valued s) = valued s
with_value t (flag_first s) = flag_first s
with_value t (value_first s) = value_first s

-- what is kept once a value that was read is kept too, unless one is already
abbrev pub settle : Kept → Option Text → Option Kept
settle k None = Some k
settle bare (Some t) = Some (valued t)
settle flagged (Some t) = Some (flag_first t)
settle (valued s) (Some t) = None
settle (flag_first s) (Some t) = None
settle (value_first s) (Some t) = None

abbrev pending : Option Text → Option (Text × List Text)
pending None = None
pending (Some t) = Some (codes "generate", t ∷ [])

abbrev pub at : Held → Waiting → Walk
at h waiting = record (walk_from h) { waiting = waiting }

-- a value may have been read that isn't kept yet
abbrev pub held : Kept → Option Text → Held
held k p = record { rows = rows k; pending = pending p; skip = 0 }

abbrev pub stands : Kept → Option Text → Walk
stands k p = at (held k p) idle

-- a value is to come
abbrev pub opened : Kept → Held
opened k = record { rows = rows k; pending = Some (codes "generate", []); skip = 0 }

abbrev pub awaits : Kept → Walk
awaits k = at (opened k) (option (codes "generate"))

-- ---- faults

abbrev pub next : Walk → Text → Walk
next w word = walked shape.rules [] w word

abbrev pub end : Walk → List Text → Held
end w words = (fold (walked shape.rules []) w words).held

abbrev pub turn : Walk → Text → Kinds
turn w word = turn_fault shape [] w word

abbrev check : Held → Bool → Kinds
check h sub = or_else (settle_fault shape.rules false h) (or_else (defaults_fault (settled shape.rules h).rows shape.rules) (check_fault shape (finished shape.rules h) sub))

abbrev pub fault_from : Walk → List Text → Kinds
fault_from w words = or_else (walk_fault shape [] w words) (check (end w words) false)

pub first_none : (a b : Kinds) → or_else a b ≡ [] → a ≡ []
first_none [] b e = refl
first_none (k ∷ a) b e = cc

second_none : (a b : Kinds) → or_else a b ≡ [] → b ≡ []
second_none [] b e = e
second_none (k ∷ a) b e = cc

both_none : (a b : Kinds) → a ≡ [] → b ≡ [] → or_else a b ≡ []
both_none a b p q = ap (λ x. or_else x b) p ∙ q

in_turn : (a b c : Kinds) → or_else (or_else a b) c ≡ or_else a (or_else b c)
in_turn [] b c = refl
in_turn (k ∷ a) b c = refl

step : (w : Walk) (word : Text) (words : List Text) → fault_from w (word ∷ words) ≡ or_else (turn w word) (fault_from (next w word) words)
unfolding walk_fault
step w word words = in_turn (turn w word) (walk_fault shape [] (next w word) words) (check (end (next w word) words) false)

pub turn_none : (w : Walk) (word : Text) (words : List Text) → fault_from w (word ∷ words) ≡ [] → turn w word ≡ []
turn_none w word words e = first_none (turn w word) (fault_from (next w word) words) (sym (step w word words) ∙ e)

pub rest_none : (w v : Walk) (word : Text) (words : List Text) → next w word ≡ v → fault_from w (word ∷ words) ≡ [] → fault_from v words ≡ []
rest_none w v word words is e =
    ap (λ (x : Walk). fault_from x words) (sym is) ∙ second_none (turn w word) (fault_from (next w word) words) (sym (step w word words) ∙ e)

pub more_none : (w v : Walk) (word : Text) (words : List Text) → turn w word ≡ [] → next w word ≡ v → fault_from v words ≡ [] → fault_from w (word ∷ words) ≡ []
more_none w v word words t is e = step w word words ∙ both_none (turn w word) (fault_from (next w word) words) t (ap (λ (x : Walk). fault_from x words) is ∙ e)

pub faults_are : (words : List Text) → fault_of replay_options words ≡ fault_from (stands bare None) words
faults_are words = go (fold (walked shape.rules []) (walk_from nothing_held) words).stopped
  where
    go : (stop : Option (Text × List Text))
        → or_else (walk_fault shape [] (stands bare None) words)
        (or_else (entered_fault (built replay_options) stop) (check (end (stands bare None) words) (is_some (entered (built replay_options) stop))))
        ≡ fault_from (stands bare None) words
    go None = refl
    go (Some p) = refl

pub matches_are : (words : List Text) → matches_of replay_options words ≡ finished shape.rules (end (stands bare None) words)
matches_are words = refl

-- ---- a word by its parts

abbrev turn_by : Held → Waiting → Text → Bool → Option (Text × Option Text) → Kinds
turn_by h waiting word dashes parts = or_else
    (cond dashes [] (flag_word_fault shape.rules false parts word h))
    (step_fault shape 1 (cond dashes (h, trailing 1) (long_or_other shape.rules waiting word parts h)).0 (cond dashes (h, trailing 1) (long_or_other shape.rules waiting word parts h)).1)

turn_is : (h : Held) (waiting : Waiting) (word : Text) → turn (at h waiting) word ≡ turn_by h waiting word (is_dashes word) (long_of word)
turn_is h idle word = refl
turn_is h (option id) word = refl
turn_is h positional word = refl

pub turn_of : (h : Held) (waiting : Waiting) (word : Text) (parts : Option (Text × Option Text)) → is_dashes word ≡ false → long_of word ≡ parts
    → turn (at h waiting) word ≡ turn_by h waiting word false parts
turn_of h waiting word parts d l = turn_is h waiting word ∙ (λ i. turn_by h waiting word (d i) (l i))

abbrev next_by : Held → Waiting → Text → Bool → Option (Text × Option Text) → Walk
next_by h waiting word dashes parts =
    after_step shape.rules word (at h waiting) (cond dashes (h, trailing 1) (long_or_other shape.rules waiting word parts h)).0 (cond dashes (h, trailing 1) (long_or_other shape.rules waiting word parts h)).1

next_is : (h : Held) (waiting : Waiting) (word : Text) → next (at h waiting) word ≡ next_by h waiting word (is_dashes word) (long_of word)
unfolding walked
next_is h idle word = refl
next_is h (option id) word = refl
next_is h positional word = refl

pub next_of : (h : Held) (waiting : Waiting) (word : Text) (parts : Option (Text × Option Text)) → is_dashes word ≡ false → long_of word ≡ parts
    → next (at h waiting) word ≡ next_by h waiting word false parts
next_of h waiting word parts d l = next_is h waiting word ∙ (λ i. next_by h waiting word (d i) (l i))

-- ---- the words of the two options

pub some : {k : ErrorKind} {ks : Kinds} → k ∷ ks ≡ [] → ⊥
some e = cc

-- `--summary`
abbrev FlagAsks : Kept → Option Text → Type 0
FlagAsks k p = (k' : Kept) × (settle k p ≡ Some k') × (has_flag k' ≡ false)

pub flag_asks : (k : Kept) (p : Option Text) → turn (stands k p) (codes "--summary") ≡ [] → FlagAsks k p
unfolding clap_on_literals
flag_asks bare None e = (bare, refl, refl)
flag_asks flagged None e = absurd (some e)
flag_asks (valued t) None e = (valued t, refl, refl)
flag_asks (flag_first t) None e = absurd (some e)
flag_asks (value_first t) None e = absurd (some e)
flag_asks bare (Some s) e = (valued s, refl, refl)
flag_asks flagged (Some s) e = absurd (some e)
flag_asks (valued t) (Some s) e = absurd (some e)
flag_asks (flag_first t) (Some s) e = absurd (some e)
flag_asks (value_first t) (Some s) e = absurd (some e)

abbrev pub Goes : Walk → Text → Walk → Type 0
Goes w word v = (turn w word ≡ []) × (next w word ≡ v)

abbrev FlagGoes : Kept → Option Text → Option Kept → Type 0
FlagGoes k p None = Unit {0}
FlagGoes k p (Some k') = has_flag k' ≡ false → Goes (stands k p) (codes "--summary") (stands (with_flag k') None)

flag_going : (k : Kept) (p : Option Text) → FlagGoes k p (settle k p)
unfolding clap_on_literals
flag_going bare None = λ f. (refl, refl)
flag_going flagged None = λ f. cc
flag_going (valued t) None = λ f. (refl, refl)
flag_going (flag_first t) None = λ f. cc
flag_going (value_first t) None = λ f. cc
flag_going bare (Some s) = λ f. (refl, refl)
flag_going flagged (Some s) = λ f. cc
flag_going (valued t) (Some s) = tt
flag_going (flag_first t) (Some s) = tt
flag_going (value_first t) (Some s) = tt

pub flag_goes : (k : Kept) (p : Option Text) (k' : Kept) → settle k p ≡ Some k' → has_flag k' ≡ false → Goes (stands k p) (codes "--summary") (stands (with_flag k') None)
flag_goes k p k' e f = subst (FlagGoes k p) e (flag_going k p) f

-- `--generate`
pub option_asks : (k : Kept) (p : Option Text) → turn (stands k p) (codes "--generate") ≡ [] → (k' : Kept) × (settle k p ≡ Some k')
unfolding clap_on_literals
option_asks k None e = (k, refl)
option_asks bare (Some s) e = (valued s, refl)
option_asks flagged (Some s) e = (flag_first s, refl)
option_asks (valued t) (Some s) e = absurd (some e)
option_asks (flag_first t) (Some s) e = absurd (some e)
option_asks (value_first t) (Some s) e = absurd (some e)

abbrev OptionGoes : Kept → Option Text → Option Kept → Type 0
OptionGoes k p None = Unit {0}
OptionGoes k p (Some k') = Goes (stands k p) (codes "--generate") (awaits k')

option_going : (k : Kept) (p : Option Text) → OptionGoes k p (settle k p)
unfolding clap_on_literals
option_going k None = (refl, refl)
option_going bare (Some s) = (refl, refl)
option_going flagged (Some s) = (refl, refl)
option_going (valued t) (Some s) = tt
option_going (flag_first t) (Some s) = tt
option_going (value_first t) (Some s) = tt

pub option_goes : (k : Kept) (p : Option Text) (k' : Kept) → settle k p ≡ Some k' → Goes (stands k p) (codes "--generate") (awaits k')
option_goes k p k' e = subst (OptionGoes k p) e (option_going k p)

-- `--generate=TEXT`
pub joined_asks : (k : Kept) (p : Option Text) (text : Text) → turn (stands k p) (codes "--generate=" ++ text) ≡ [] → (k' : Kept) × (settle k p ≡ Some k') × (given k' ≡ None)
unfolding clap_on_literals
joined_asks bare None text e = (bare, refl, refl)
joined_asks flagged None text e = (flagged, refl, refl)
joined_asks (valued t) None text e = absurd (some e)
joined_asks (flag_first t) None text e = absurd (some e)
joined_asks (value_first t) None text e = absurd (some e)
joined_asks bare (Some s) text e = absurd (some e)
joined_asks flagged (Some s) text e = absurd (some e)
joined_asks (valued t) (Some s) text e = absurd (some e)
joined_asks (flag_first t) (Some s) text e = absurd (some e)
joined_asks (value_first t) (Some s) text e = absurd (some e)

abbrev JoinedGoes : Text → Kept → Option Text → Option Kept → Type 0
JoinedGoes text k p None = Unit {0}
JoinedGoes text k p (Some k') = given k' ≡ None → Goes (stands k p) (codes "--generate=" ++ text) (stands (with_value text k') None)

joined_going : (text : Text) (k : Kept) (p : Option Text) → JoinedGoes text k p (settle k p)
unfolding clap_on_literals
joined_going text bare None = λ g. (refl, refl)
joined_going text flagged None = λ g. (refl, refl)
joined_going text (valued t) None = λ g. cc
joined_going text (flag_first t) None = λ g. cc
joined_going text (value_first t) None = λ g. cc
joined_going text bare (Some s) = λ g. cc
joined_going text flagged (Some s) = λ g. cc
joined_going text (valued t) (Some s) = tt
joined_going text (flag_first t) (Some s) = tt
joined_going text (value_first t) (Some s) = tt

pub joined_goes : (text : Text) (k : Kept) (p : Option Text) (k' : Kept) → settle k p ≡ Some k' → given k' ≡ None
    → Goes (stands k p) (codes "--generate=" ++ text) (stands (with_value text k') None)
joined_goes text k p k' e g = subst (JoinedGoes text k p) e (joined_going text k p) g

-- ---- other words

abbrev flag_rule : Option Rule
flag_rule = arg_by_long shape.rules (codes "summary")

abbrev value_rule : Option Rule
value_rule = arg_by_long shape.rules (codes "generate")

-- what a word behind two hyphens names
pub data Named (name : Text) : Type 0 where
  names_summary : name ≡ codes "summary" → Named name
  names_generate : name ≡ codes "generate" → Named name
  names_nothing : arg_by_long shape.rules name ≡ None → Named name

abbrev found_by : Bool → Bool → Option Rule
found_by a b = cond (a || false) flag_rule (cond (b || false) value_rule None)

pub named : (name : Text) → Named name
unfolding clap_on_literals
named name = go (bytes_eq (codes "summary") name) (bytes_eq (codes "generate") name) refl refl
  where
    go : (a b : Bool) → bytes_eq (codes "summary") name ≡ a → bytes_eq (codes "generate") name ≡ b → Named name
    go true b p q = names_summary (sym ((bytes_eq-Decides (codes "summary") name).0 p))
    go false true p q = names_generate (sym ((bytes_eq-Decides (codes "generate") name).0 q))
    go false false p q = names_nothing (λ i. found_by (p i) (q i))

abbrev long_turn : Held → Waiting → Text → Option Rule → Option Text → Kinds
long_turn h waiting word rule v = or_else
    (long_fault shape.rules false rule v h)
    (step_fault shape 1 (after_flag shape.rules waiting word (long_met shape.rules rule v h).0 (long_met shape.rules rule v h).1).0 (after_flag shape.rules waiting word (long_met shape.rules rule v h).0 (long_met shape.rules rule v h).1).1)

stranger_turn : (h : Held) (waiting : Waiting) (word : Text) (v : Option Text) → long_turn h waiting word None v ≡ [] → ⊥
stranger_turn h waiting word v e = some e

pub no_stranger : (h : Held) (waiting : Waiting) (word name : Text) (v : Option Text) → is_dashes word ≡ false → long_of word ≡ Some (name, v)
    → arg_by_long shape.rules name ≡ None → turn (at h waiting) word ≡ [] → ⊥
no_stranger h waiting word name v d l n e =
    stranger_turn h waiting word v (sym (turn_of h waiting word (Some (name, v)) d l ∙ ap (λ rule. long_turn h waiting word rule v) n) ∙ e)

-- `--summary=TEXT`
pub no_value : (h : Held) (waiting : Waiting) (word text : Text) → is_dashes word ≡ false → long_of word ≡ Some (codes "summary", Some text) → turn (at h waiting) word ≡ [] → ⊥
unfolding clap_on_literals
no_value h waiting word text d l e = some (sym (turn_of h waiting word (Some (codes "summary", Some text)) d l) ∙ e)

-- no option stands where a value is to come
pub no_option : (k : Kept) (word name : Text) (v : Option Text) → is_dashes word ≡ false → long_of word ≡ Some (name, v) → turn (awaits k) word ≡ [] → ⊥
unfolding clap_on_literals
no_option k word name v d l e = go (named name) v refl
  where
    t : turn_by (opened k) (option (codes "generate")) word false (Some (name, v)) ≡ []
    t = sym (turn_of (opened k) (option (codes "generate")) word (Some (name, v)) d l) ∙ e

    by_name : (n : Text) (u : Option Text) → name ≡ n → v ≡ u → turn_by (opened k) (option (codes "generate")) word false (Some (n, u)) ≡ []
    by_name n u a b = (λ i. turn_by (opened k) (option (codes "generate")) word false (Some (sym a i, sym b i))) ∙ t

    go : Named name → (u : Option Text) → v ≡ u → ⊥
    go (names_summary is) None w = some (by_name (codes "summary") None is w)
    go (names_summary is) (Some u) w = some (by_name (codes "summary") (Some u) is w)
    go (names_generate is) None w = some (by_name (codes "generate") None is w)
    go (names_generate is) (Some u) w = some (by_name (codes "generate") (Some u) is w)
    go (names_nothing n) u w = no_stranger (opened k) (option (codes "generate")) word name v d l n e

-- what stands behind one hyphen: nothing is named so
abbrev short_turn : Held → Waiting → Text → Option Text → Kinds
short_turn h waiting word flags = or_else
    (option_map_or (λ fs. bundle_fault shape.rules false fs h) flags [])
    (step_fault shape 1 (short_or_plain shape.rules waiting word flags h).0 (short_or_plain shape.rules waiting word flags h).1)

abbrev short_next : Held → Waiting → Text → Option Text → Walk
short_next h waiting word flags =
    after_step shape.rules word (at h waiting) (short_or_plain shape.rules waiting word flags h).0 (short_or_plain shape.rules waiting word flags h).1

abbrev bundle_turn : Held → Waiting → Text → Text → ℕ → Option ℕ → Kinds
bundle_turn h waiting word flags n first = or_else
    (bundle_step_fault shape.rules false first flags 0 h (flags_fault shape.rules false n))
    (step_fault shape 1 (after_flag shape.rules waiting word (bundle_step shape.rules first flags 0 plain h (bundle_met shape.rules n)).0 (bundle_step shape.rules first flags 0 plain h (bundle_met shape.rules n)).1).0
    (after_flag shape.rules waiting word (bundle_step shape.rules first flags 0 plain h (bundle_met shape.rules n)).0 (bundle_step shape.rules first flags 0 plain h (bundle_met shape.rules n)).1).1)

abbrev bundle_next : Held → Waiting → Text → Text → ℕ → Option ℕ → Walk
bundle_next h waiting word flags n first =
    after_step shape.rules word (at h waiting)
    (after_flag shape.rules waiting word (bundle_step shape.rules first flags 0 plain h (bundle_met shape.rules n)).0 (bundle_step shape.rules first flags 0 plain h (bundle_met shape.rules n)).1).0
    (after_flag shape.rules waiting word (bundle_step shape.rules first flags 0 plain h (bundle_met shape.rules n)).0 (bundle_step shape.rules first flags 0 plain h (bundle_met shape.rules n)).1).1

-- a word without a name is refused where none is awaited
no_bundle : (k : Kept) (p : Option Text) (word flags : Text) (n : ℕ) (first : Option ℕ) → bundle_turn (held k p) idle word flags n first ≡ [] → ⊥
no_bundle k p word flags n None e = some e
no_bundle k p word flags n (Some c) e = some e

no_short : (k : Kept) (p : Option Text) (word : Text) (flags : Option Text) → short_turn (held k p) idle word flags ≡ [] → ⊥
unfolding flags_fault bundle_met
no_short k p word None e = some e
no_short k p word (Some []) e = some e
no_short k p word (Some (x ∷ xs)) e = no_bundle k p word (x ∷ xs) (length xs) (slice_get (chars (x ∷ xs)) 0) e

pub no_plain : (k : Kept) (p : Option Text) (word : Text) → is_dashes word ≡ false → long_of word ≡ None → turn (stands k p) word ≡ [] → ⊥
no_plain k p word d l e = no_short k p word (short_of word) (sym (turn_of (held k p) idle word None d l) ∙ e)

-- and is the value where one is
takes_bundle : (k : Kept) (word flags : Text) (n : ℕ) (first : Option ℕ) → bundle_turn (opened k) (option (codes "generate")) word flags n first ≡ []
    → bundle_next (opened k) (option (codes "generate")) word flags n first ≡ stands k (Some word)
takes_bundle k word flags n None e = refl
takes_bundle k word flags n (Some c) e = absurd (some e)

takes_short : (k : Kept) (word : Text) (flags : Option Text) → short_turn (opened k) (option (codes "generate")) word flags ≡ []
    → short_next (opened k) (option (codes "generate")) word flags ≡ stands k (Some word)
unfolding flags_fault bundle_met
takes_short k word None e = refl
takes_short k word (Some []) e = refl
takes_short k word (Some (x ∷ xs)) e = takes_bundle k word (x ∷ xs) (length xs) (slice_get (chars (x ∷ xs)) 0) e

pub takes_value : (k : Kept) (word : Text) → is_dashes word ≡ false → long_of word ≡ None → turn (awaits k) word ≡ [] → next (awaits k) word ≡ stands k (Some word)
takes_value k word d l e =
    next_of (opened k) (option (codes "generate")) word None d l
    ∙ takes_short k word (short_of word) (sym (turn_of (opened k) (option (codes "generate")) word None d l) ∙ e)

pub value_goes : (k : Kept) (word : Text) → is_dashes word ≡ false → long_of word ≡ None → short_of word ≡ None → Goes (awaits k) word (stands k (Some word))
value_goes k word d l s = (
  turn_of (opened k) (option (codes "generate")) word None d l ∙ ap (short_turn (opened k) (option (codes "generate")) word) s,
  next_of (opened k) (option (codes "generate")) word None d l ∙ ap (short_next (opened k) (option (codes "generate")) word) s,
)

-- ---- the end

pub end_asks : (k : Kept) (p : Option Text) → fault_from (stands k p) [] ≡ [] → (k' : Kept) × (settle k p ≡ Some k')
unfolding clap_on_literals
end_asks k None e = (k, refl)
end_asks bare (Some s) e = (valued s, refl)
end_asks flagged (Some s) e = (flag_first s, refl)
end_asks (valued t) (Some s) e = absurd (some e)
end_asks (flag_first t) (Some s) e = absurd (some e)
end_asks (value_first t) (Some s) e = absurd (some e)

pub no_end : (k : Kept) → fault_from (awaits k) [] ≡ [] → ⊥
unfolding clap_on_literals
no_end k e = some e

abbrev pub flag_text : Bool → Text
flag_text true = codes "true"
flag_text false = codes "false"

pub record Out (k : Kept) (found : List Row) : Type 0 where
  pub flag_out : one_of (codes "summary") found ≡ Some (flag_text (has_flag k))
  pub value_out : first_of (codes "generate") found ≡ given k

abbrev EndGoes : Kept → Option Text → Option Kept → Type 0
EndGoes k p None = Unit {0}
EndGoes k p (Some k') = (fault_from (stands k p) [] ≡ []) × Out k' (finished shape.rules (held k p))

end_going : (k : Kept) (p : Option Text) → EndGoes k p (settle k p)
unfolding clap_on_literals
end_going bare None = (refl, record { flag_out = refl; value_out = refl })
end_going flagged None = (refl, record { flag_out = refl; value_out = refl })
end_going (valued t) None = (refl, record { flag_out = refl; value_out = refl })
end_going (flag_first t) None = (refl, record { flag_out = refl; value_out = refl })
end_going (value_first t) None = (refl, record { flag_out = refl; value_out = refl })
end_going bare (Some s) = (refl, record { flag_out = refl; value_out = refl })
end_going flagged (Some s) = (refl, record { flag_out = refl; value_out = refl })
end_going (valued t) (Some s) = tt
end_going (flag_first t) (Some s) = tt
end_going (value_first t) (Some s) = tt

pub end_goes : (k : Kept) (p : Option Text) (k' : Kept) → settle k p ≡ Some k' → (fault_from (stands k p) [] ≡ []) × Out k' (finished shape.rules (held k p))
end_goes k p k' e = subst (EndGoes k p) e (end_going k p)
