-- The words after the program's name.
use Rattle.std.specs.Prelude.{◌≡◌, ◌⊎◌, ℕ, List, [], ◌∷◌, ◌++◌, Bool, false, true, Option, Some, None, IsTrue, codes}
use Rattle.std.specs.Str.{bytes_eq}
use Rattle.std.specs.Str.Parse.{digits_value}
use Rattle.clap.specs.Simple.{App, new_app, new_rule, on_top, with_rule}
use Rattle.clap.specs.Walk.{Rule}
use Rattle.clap.specs.declared.builder.action.ArgAction.TheVariants.{Set, SetTrue}
use Rattle.script_lang.specs.Values.{is_number}
use Rattle.replay_core.specs.declared.status.Status.{Status}
use Rattle.replay_core.specs.declared.status.Status.TheVariants as status
use Rattle.cluster_top.specs.declared.words.Words.{Words}

-- ---- the number

-- 1 to 20 decimal digits that stand for that number, below 2^64
pub record SpellsNumber (text : List ℕ) (n : ℕ) : Type 0 where
  pub digits : IsTrue (is_number text)
  pub value : n ≡ digits_value 10 text

-- the number where a text is given
abbrev pub AreNumber : Option (List ℕ) → Option ℕ → Type 0
AreNumber None None = Unit {0}
AreNumber (Some text) (Some n) = SpellsNumber text n
AreNumber given number = ⊥

-- a text is given that stands for no number
abbrev pub IsNoNumber : Option (List ℕ) → Type 0
IsNoNumber None = ⊥
IsNoNumber (Some text) = (n : ℕ) → ¬ SpellsNumber text n

-- ---- the words

abbrev pub no_words : Words
no_words = record { summary = false; generate = None }

-- which replay the words ask for: each is `--summary`, or `--generate` with a number as the next word
-- or behind `=`, and neither stands twice
pub data Asks : List (List ℕ) → Words → Type 0 where
  nothing : Asks [] no_words
  summary : {ws : List (List ℕ)} {w : Words} → Asks ws w → w.summary ≡ false
      → Asks (codes "--summary" ∷ ws) (record w { summary = true })
  generate : {ws : List (List ℕ)} {w : Words} {text : List ℕ} {n : ℕ} → Asks ws w
      → w.generate ≡ None → SpellsNumber text n
      → Asks (codes "--generate" ∷ text ∷ ws) (record w { generate = Some n })
  generate_of : {ws : List (List ℕ)} {w : Words} {text : List ℕ} {n : ℕ} → Asks ws w
      → w.generate ≡ None → SpellsNumber text n
      → Asks ((codes "--generate=" ++ text) ∷ ws) (record w { generate = Some n })

abbrev pub AskNoReplay : List (List ℕ) → Type 0
AskNoReplay ws = (w : Words) → ¬ Asks ws w

-- the words ask for an audit: `--audit` with no word beside it
abbrev pub AskAudit : List (List ℕ) → Type 0
AskAudit ws = ws ≡ codes "--audit" ∷ []

-- the words aren't those that the program takes
pub record AreBad (ws : List (List ℕ)) : Type 0 where
  pub no_replay : AskNoReplay ws
  pub no_audit : ¬ AskAudit ws

-- how a run ends where the words are none that the program takes: so, or for want of the memory
-- that reading them takes
abbrev pub EndsBadWords : Status → Type 0
EndsBadWords st = (st ≡ status.BadWords) ⊎ (st ≡ status.NoMemory)

-- ---- how they are split

abbrev pub summary_rule : Rule
summary_rule = record (new_rule (codes "summary")) {
  long = Some (codes "summary");
  action = Some SetTrue;
}

abbrev pub generate_rule : Rule
generate_rule = record (new_rule (codes "generate")) {
  long = Some (codes "generate");
  action = Some Set;
}

-- the two options of a replay, on a command line without the program's name and without help
abbrev pub replay_options : App
replay_options =
    with_rule (with_rule (on_top (λ s. record s { no_binary_name = true; disable_help_flag = true })
    (new_app (codes "cluster_main"))) summary_rule) generate_rule

-- the word that ends options
abbrev pub is_dashes : List ℕ → Bool
is_dashes word = bytes_eq word (codes "--")

-- the word that asks for an audit
abbrev pub is_audit : List ℕ → Bool
is_audit word = bytes_eq word (codes "--audit")
