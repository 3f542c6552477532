-- What every script that was read keeps.
use Rattle.std.proofs.Common.{◌≡◌, ℕ, ◌+◌, ◌-◌, ◌<◌, Bool, true, false, cond, nat_lt, suc, List, [], ◌∷◌, ◌++◌, length, take, get_or, Result, Ok, Err, refl, sym, ap, ◌∙◌, arith, subst, ◌==◌, length-append, Fits, w8}
use Rattle.std.specs.Prelude.{All}
use Rattle.std.specs.List.{slice_split, onto_first}
use Rattle.std.proofs.lemmas.Bool.{ltb-false}
use Rattle.std.proofs.lemmas.List.{append-nil, get_or_default}
use Rattle.std.proofs.lemmas.List.Elements.{filter_map-append, All-nil, All-cons, All-append, All-take, All-filter, All-weaker}
use Rattle.hex.specs.Hex.{IsBytes}
use Rattle.cluster_types.specs.NodeLists.{IsNodeList}
use Rattle.cluster_types.specs.Ranges.{AreBytes}
use Rattle.cluster_types.proofs.DistinctLaws.{none_distinct, distinct_push}
use Rattle.script_lang.specs.declared.fault.Cause.{Cause}
use Rattle.script_lang.specs.declared.lines.Line.{Line}
use Rattle.script_lang.specs.declared.lines.Line.TheVariants as line
use Rattle.script_lang.specs.declared.script.Command.{Command}
use Rattle.script_lang.specs.declared.script.HeaderLine.{HeaderLine}
use Rattle.script_lang.specs.declared.script.HeaderLine.TheVariants as header
use Rattle.script_lang.specs.declared.script.Script.{Script}
use Rattle.script_lang.specs.Before.{MayDeclare, before_next, nodes_of, node_in}
use Rattle.script_lang.specs.Grammar.{Fault, script_after, empty_script, line_of, script_from, script_of, with_line}
use Rattle.script_lang.specs.Layout.{ended, ends_in_return, line_fields, is_blank, is_some_text, lines_of, without_return}
use Rattle.script_lang.specs.Proper.{IsProper, IsProperCommand, IsProperHeaderLine, IsServed, NamesNodesOf}
use Rattle.script_lang.specs.Words.{is_command_served}
use Rattle.script_lang.specs.WordsOf.{word_of_command}
use Rattle.script_lang.proofs.AllBytes.{bytes_from_all}
use Rattle.script_lang.proofs.CommandRanges.{good}
use Rattle.script_lang.proofs.Groups.{from_map}
use Rattle.script_lang.proofs.HeaderLaws.{declared_more, nodes_more}
use Rattle.script_lang.proofs.Ranges.{contained}
use Rattle.script_lang.proofs.Said.{IsHeader, IsRead, said}

-- ---- bytes

first_of : {A : Type 0} (P : A → Type 0) (x : A) (xs : List A) → All P (x ∷ xs) → P x
first_of P x xs all = all 0 x (omega arith)

rest_of : {A : Type 0} (P : A → Type 0) (x : A) (xs : List A) → All P (x ∷ xs) → All P xs
rest_of P x xs all = λ k d below. all (suc k) d (omega (arith, below))

onto_bytes : (x : ℕ) (parts : List (List ℕ)) → x < 256 → All AreBytes parts → All AreBytes (onto_first x parts)
onto_bytes x [] fits all = All-cons AreBytes (x ∷ []) [] (All-cons (λ byte. byte < 256) x [] fits (All-nil (λ (byte : ℕ). byte < 256))) (All-nil AreBytes)
onto_bytes x (part ∷ parts) fits all =
    All-cons AreBytes (x ∷ part) parts (All-cons (λ byte. byte < 256) x part fits (first_of AreBytes part parts all)) (rest_of AreBytes part parts all)

split_by : (x : ℕ) (parts : List (List ℕ)) (t : Bool) → x < 256 → All AreBytes parts → All AreBytes (cond t ([] ∷ parts) (onto_first x parts))
split_by x parts true fits all = All-cons AreBytes [] parts (All-nil (λ (byte : ℕ). byte < 256)) all
split_by x parts false fits all = onto_bytes x parts fits all

split_bytes : (q : ℕ → Bool) (xs : List ℕ) → AreBytes xs → All AreBytes (slice_split q xs)
split_bytes q [] all = All-cons AreBytes [] [] (All-nil (λ (byte : ℕ). byte < 256)) (All-nil AreBytes)
split_bytes q (x ∷ xs) all =
    split_by x (slice_split q xs) (q x) (first_of (λ byte. byte < 256) x xs all) (split_bytes q xs (rest_of (λ byte. byte < 256) x xs all))

fields_bytes : (text : List ℕ) → AreBytes text → All IsBytes (line_fields text)
fields_bytes text all =
    All-weaker AreBytes IsBytes (λ xs. bytes_from_all xs) (line_fields text) (All-filter is_some_text AreBytes (slice_split is_blank text) (split_bytes is_blank text all))

without_by : (text : List ℕ) (t : Bool) → AreBytes text → AreBytes (cond t (take (length text - 1) text) text)
without_by text true all = All-take (λ byte. byte < 256) (length text - 1) text all
without_by text false all = all

ended_bytes : (parts : List (List ℕ)) → All AreBytes parts → All AreBytes (ended parts)
ended_bytes [] all = all
ended_bytes (part ∷ []) all = all
ended_bytes (part ∷ next ∷ parts) all =
    All-cons AreBytes (without_return part) (ended (next ∷ parts)) (without_by part (ends_in_return part) (first_of AreBytes part (next ∷ parts) all))
    (ended_bytes (next ∷ parts) (rest_of AreBytes part (next ∷ parts) all))

lines_bytes : (bytes : List ℕ) → IsBytes bytes → All AreBytes (lines_of bytes)
lines_bytes bytes all =
    ended_bytes (slice_split (λ b. b == 10) bytes)
    (split_bytes (λ b. b == 10) bytes (λ k d below. subst (λ (b : ℕ). b < 256) (get_or_default bytes k 0 d below) (all k)))

-- ---- the script so far

pub record Keeps (script : Script) : Type 0 where
  pub proper : IsProper script
  pub served : IsServed script

no_commands : (commands : List Command) → nat_lt 0 (length commands) ≡ false → commands ≡ []
no_commands [] e = refl
no_commands (c ∷ commands) e = let high = ltb-false _ _ e in absurd (omega (arith, high))

with_header : (script : Script) (text : List ℕ) (h : HeaderLine) → Keeps script → IsHeader (before_next script.header script.commands) h → Keeps (with_line script (line.Header h))
with_header script text h k s =
    let none : script.commands ≡ [] = no_commands script.commands s.first in
    record {
      proper = record {
        header = All-append IsProperHeaderLine script.header (h ∷ []) k.proper.header (All-cons IsProperHeaderLine h [] s.fine.ranges (All-nil IsProperHeaderLine));
        commands = k.proper.commands;
        nodes = subst IsNodeList (sym (nodes_more script.header h)) (declared_more (nodes_of script.header) h k.proper.nodes s.fine.declares);
        named = subst (λ cs. All (NamesNodesOf (nodes_of (script.header ++ h ∷ []))) cs) (sym none) (All-nil (NamesNodesOf (nodes_of (script.header ++ h ∷ []))));
      };
      served = record {
        commands = subst (λ cs. All (λ c. is_command_served (word_of_command c) (length (nodes_of (script.header ++ h ∷ []))) ≡ true) cs) (sym none)
            (All-nil (λ c. is_command_served (word_of_command c) (length (nodes_of (script.header ++ h ∷ []))) ≡ true));
      };
    }

with_command : (script : Script) (text : List ℕ) (c : Command) → AreBytes text → Keeps script → IsRead (before_next script.header script.commands) text c → Keeps (with_line script (line.Command c))
with_command script text c all k s =
    let bytes : All IsBytes s.fields = rest_of IsBytes s.first s.fields (subst (All IsBytes) s.of_line (fields_bytes text all)) in
    let g = good (before_next script.header script.commands) s.word s.fields c k.proper.nodes.limit bytes s.read in
    record {
      proper = record {
        header = k.proper.header;
        commands = All-append IsProperCommand script.commands (c ∷ []) k.proper.commands (All-cons IsProperCommand c [] g.ranges (All-nil IsProperCommand));
        nodes = k.proper.nodes;
        named = All-append (NamesNodesOf (nodes_of script.header)) script.commands (c ∷ []) k.proper.named
            (All-cons (NamesNodesOf (nodes_of script.header)) c [] g.named (All-nil (NamesNodesOf (nodes_of script.header))));
      };
      served = record {
        commands = All-append (λ x. is_command_served (word_of_command x) (length (nodes_of script.header)) ≡ true) script.commands (c ∷ []) k.served.commands
            (All-cons (λ x. is_command_served (word_of_command x) (length (nodes_of script.header)) ≡ true) c []
            (ap (λ w. is_command_served w (length (nodes_of script.header))) g.word ∙ s.served)
            (All-nil (λ x. is_command_served (word_of_command x) (length (nodes_of script.header)) ≡ true)));
      };
    }

keeps_said : (script : Script) (text : List ℕ) (l : Line) → AreBytes text → Keeps script → line_of (before_next script.header script.commands) text ≡ Ok l → Keeps (with_line script l)
keeps_said script text line.Nothing all k e = k
keeps_said script text (line.Header h) all k e = with_header script text h k (said (before_next script.header script.commands) text (line.Header h) e)
keeps_said script text (line.Command c) all k e = with_command script text c all k (said (before_next script.header script.commands) text (line.Command c) e)

keeps_line : (script longer : Script) (text : List ℕ) → AreBytes text → Keeps script → script_after script text ≡ Ok longer → Keeps longer
keeps_line script longer text all k e =
    let m = from_map (with_line script) (line_of (before_next script.header script.commands) text) longer e in
    subst Keeps (sym m.2) (keeps_said script text m.0 all k m.1)

-- ---- all lines

read_inside : (x y : Script) (r : Result Script Fault) → r ≡ Ok x → r ≡ Ok y → x ≡ y
read_inside x y r p q = cc

abbrev continued : ℕ → List (List ℕ) → Result Script Cause → Result Script Fault
continued line texts (Ok longer) = script_from (line + 1) longer texts
continued line texts (Err cause) = Err (record { line = line; cause = cause })

keeps_by : (line : ℕ) (script final : Script) (text : List ℕ) (texts : List (List ℕ)) (r : Result Script Cause) → AreBytes text → Keeps script → script_after script text ≡ r
    → ((longer : Script) → Keeps longer → script_from (line + 1) longer texts ≡ Ok final → Keeps final)
    → continued line texts r ≡ Ok final → Keeps final
keeps_by line script final text texts (Ok longer) all k a rest e = rest longer (keeps_line script longer text all k a) e
keeps_by line script final text texts (Err cause) all k a rest e = cc

keeps_from : (line : ℕ) (script final : Script) (texts : List (List ℕ)) → All AreBytes texts → Keeps script → script_from line script texts ≡ Ok final → Keeps final
keeps_from line script final [] all k e = subst Keeps (read_inside script final (Ok script) refl e) k
keeps_from line script final (text ∷ texts) all k e =
    keeps_by line script final text texts (script_after script text) (first_of AreBytes text texts all) k refl
    (λ longer kept f. keeps_from (line + 1) longer final texts (rest_of AreBytes text texts all) kept f) e

empty_keeps : Keeps empty_script
empty_keeps = record {
  proper = record {
    header = All-nil IsProperHeaderLine;
    commands = All-nil IsProperCommand;
    nodes = record { limit = omega arith; distinct = none_distinct };
    named = All-nil (NamesNodesOf []);
  };
  served = record { commands = All-nil (λ c. is_command_served (word_of_command c) 0 ≡ true) };
}

pub read_is_kept : (bytes : List ℕ) (script : Script) → IsBytes bytes → script_of bytes ≡ Ok script → Keeps script
read_is_kept bytes script all e = keeps_from 1 empty_script script (lines_of bytes) (lines_bytes bytes all) empty_keeps e

pub bytes_from_fits : (bytes : List ℕ) → ((i : ℕ) → Fits w8 (get_or bytes i 0)) → IsBytes bytes
bytes_from_fits bytes fits = λ i. (fits i).fits
