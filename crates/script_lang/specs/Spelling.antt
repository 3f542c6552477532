-- How a script is written.
use Rattle.std.specs.Prelude.{◌≡◌, ◌≢◌, ℕ, ◌<◌, ◌-◌, ◌++◌, false, List, [], ◌∷◌, length, map, Option, Some, None, All, codes, slice_index}
use Rattle.std.specs.List.{join_with_byte, flat_map}
use Rattle.std.specs.Fmt.{decimal}
use Rattle.std.specs.Str.{IsUtf8}
use Rattle.hex.specs.Hex.{encode_lower}
use Rattle.conflict_order.specs.declared.policy.Policy.{Policy}
use Rattle.conflict_order.specs.declared.policy.Policy.TheVariants.{Time, Generation}
use Rattle.script_lang.specs.declared.script.HeaderLine.{HeaderLine}
use Rattle.script_lang.specs.declared.script.HeaderLine.TheVariants as header
use Rattle.script_lang.specs.declared.script.Command.{Command}
use Rattle.script_lang.specs.declared.script.Command.TheVariants as command
use Rattle.script_lang.specs.declared.script.Script.{Script}
use Rattle.script_lang.specs.declared.words.CommandWord.{CommandWord}
use Rattle.script_lang.specs.declared.words.CommandWord.TheVariants as word
use Rattle.script_lang.specs.Layout.{is_blank}
use Rattle.script_lang.specs.WordsOf.{word_of_command}

-- ---- fields

abbrev pub name_of : CommandWord → List ℕ
name_of word.Clock = codes "clock"
name_of word.Groups = codes "groups"
name_of word.Tick = codes "tick"
name_of word.Stop = codes "stop"
name_of word.Start = codes "start"
name_of word.Put = codes "put"
name_of word.Get = codes "get"
name_of word.Del = codes "del"
name_of word.ClientPut = codes "cput"
name_of word.ClientGet = codes "cget"
name_of word.ClientDel = codes "cdel"
name_of word.Ask = codes "ask"
name_of word.Deliver = codes "deliver"
name_of word.Repeat = codes "repeat"
name_of word.Lose = codes "lose"
name_of word.Cut = codes "cut"
name_of word.Flow = codes "flow"
name_of word.Round = codes "round"
name_of word.Calm = codes "calm"
name_of word.Map = codes "map"
name_of word.Place = codes "place"
name_of word.Hash = codes "hash"
name_of word.Show = codes "show"
name_of word.Quiesce = codes "quiesce"
name_of word.Unquiesce = codes "unquiesce"
name_of word.ProxyGet = codes "pget"
name_of word.ProxyPut = codes "pput"
name_of word.ProxyDel = codes "pdel"
name_of word.ProxyAgain = codes "pagain"
name_of word.CallGet = codes "oget"
name_of word.CallPut = codes "oput"
name_of word.CallDel = codes "odel"
name_of word.CallAgain = codes "again"
name_of word.Scan = codes "scan"
name_of word.ScanNext = codes "scannext"

abbrev pub policy_name : Policy → List ℕ
policy_name Time = codes "time"
policy_name Generation = codes "generation"

-- a digest as a key
abbrev pub key : List ℕ → List ℕ
key digest = 35 ∷ encode_lower digest

-- the ids of each group, with a bar between two groups
abbrev pub group_fields : List (List ℕ) → List (List ℕ)
group_fields [] = []
group_fields (ids ∷ []) = map decimal ids
group_fields (ids ∷ next ∷ groups) = map decimal ids ++ codes "|" ∷ group_fields (next ∷ groups)

abbrev pub rack_fields : Option ℕ → List (List ℕ)
rack_fields None = []
rack_fields (Some rack) = decimal rack ∷ []

abbrev pub header_fields : HeaderLine → List (List ℕ)
header_fields (header.Script version) = codes "script" ∷ decimal version ∷ []
header_fields (header.Factor factor) = codes "factor" ∷ decimal factor ∷ []
header_fields (header.Node node rack) = codes "node" ∷ decimal node ∷ rack_fields rack
header_fields (header.Policy policy) = codes "policy" ∷ policy_name policy ∷ []

-- what stands behind the word
abbrev pub arguments : Command → List (List ℕ)
arguments (command.Clock node time) = decimal node ∷ decimal time ∷ []
arguments (command.Groups groups) = group_fields groups
arguments (command.Tick node) = decimal node ∷ []
arguments (command.Stop node) = decimal node ∷ []
arguments (command.Start node) = decimal node ∷ []
arguments (command.Put node digest value) = decimal node ∷ key digest ∷ value ∷ []
arguments (command.Get node digest) = decimal node ∷ key digest ∷ []
arguments (command.Del node digest) = decimal node ∷ key digest ∷ []
arguments (command.ClientPut digest value) = key digest ∷ value ∷ []
arguments (command.ClientGet digest) = key digest ∷ []
arguments (command.ClientDel digest) = key digest ∷ []
arguments (command.Ask node) = decimal node ∷ []
arguments (command.Deliver message) = decimal message ∷ []
arguments (command.Repeat message) = decimal message ∷ []
arguments (command.Lose message) = decimal message ∷ []
arguments (command.Cut message size) = decimal message ∷ decimal size ∷ []
arguments command.Flow = []
arguments command.Round = []
arguments command.Calm = []
arguments (command.Map node from to) = decimal node ∷ decimal from ∷ decimal to ∷ []
arguments (command.Place partition) = decimal partition ∷ []
arguments (command.Hash digest) = key digest ∷ []
arguments (command.Show node digest) = decimal node ∷ key digest ∷ []
arguments (command.Quiesce node) = decimal node ∷ []
arguments (command.Unquiesce node) = decimal node ∷ []
arguments (command.ProxyGet node digest) = decimal node ∷ key digest ∷ []
arguments (command.ProxyPut node digest value) = decimal node ∷ key digest ∷ value ∷ []
arguments (command.ProxyDel node digest) = decimal node ∷ key digest ∷ []
arguments (command.ProxyAgain node) = decimal node ∷ []
arguments (command.CallGet digest) = key digest ∷ []
arguments (command.CallPut digest value) = key digest ∷ value ∷ []
arguments (command.CallDel digest) = key digest ∷ []
arguments (command.CallAgain call) = decimal call ∷ []
arguments (command.Scan partition) = decimal partition ∷ []
arguments (command.ScanNext scan) = decimal scan ∷ []

abbrev pub command_fields : Command → List (List ℕ)
command_fields c = name_of (word_of_command c) ∷ arguments c

-- ---- lines

-- a line: its fields with a space between two of them, and a line feed
abbrev pub line : List (List ℕ) → List ℕ
line fields = join_with_byte 32 fields ++ 10 ∷ []

abbrev pub script_text : Script → List ℕ
script_text script =
    flat_map line (map header_fields script.header)
    ++ flat_map line (map command_fields script.commands)

-- ---- values that can be written so

-- no space, tab or line feed
pub record IsPart (byte : ℕ) : Type 0 where
  pub field : is_blank byte ≡ false
  pub line : byte ≢ 10

-- a value that is a field: it isn't empty, is UTF-8, and its end isn't passed over as a carriage return
pub record IsWritten (value : List ℕ) : Type 0 where
  pub some : 0 < length value
  pub parts : All IsPart value
  pub text : IsUtf8 value
  pub last : slice_index value (length value - 1) ≢ 13

abbrev pub HasWrittenValue : Command → Type 0
HasWrittenValue (command.Clock node time) = Unit {0}
HasWrittenValue (command.Groups groups) = Unit {0}
HasWrittenValue (command.Tick node) = Unit {0}
HasWrittenValue (command.Stop node) = Unit {0}
HasWrittenValue (command.Start node) = Unit {0}
HasWrittenValue (command.Put node digest value) = IsWritten value
HasWrittenValue (command.Get node digest) = Unit {0}
HasWrittenValue (command.Del node digest) = Unit {0}
HasWrittenValue (command.ClientPut digest value) = IsWritten value
HasWrittenValue (command.ClientGet digest) = Unit {0}
HasWrittenValue (command.ClientDel digest) = Unit {0}
HasWrittenValue (command.Ask node) = Unit {0}
HasWrittenValue (command.Deliver message) = Unit {0}
HasWrittenValue (command.Repeat message) = Unit {0}
HasWrittenValue (command.Lose message) = Unit {0}
HasWrittenValue (command.Cut message size) = Unit {0}
HasWrittenValue command.Flow = Unit {0}
HasWrittenValue command.Round = Unit {0}
HasWrittenValue command.Calm = Unit {0}
HasWrittenValue (command.Map node from to) = Unit {0}
HasWrittenValue (command.Place partition) = Unit {0}
HasWrittenValue (command.Hash digest) = Unit {0}
HasWrittenValue (command.Show node digest) = Unit {0}
HasWrittenValue (command.Quiesce node) = Unit {0}
HasWrittenValue (command.Unquiesce node) = Unit {0}
HasWrittenValue (command.ProxyGet node digest) = Unit {0}
HasWrittenValue (command.ProxyPut node digest value) = IsWritten value
HasWrittenValue (command.ProxyDel node digest) = Unit {0}
HasWrittenValue (command.ProxyAgain node) = Unit {0}
HasWrittenValue (command.CallGet digest) = Unit {0}
HasWrittenValue (command.CallPut digest value) = IsWritten value
HasWrittenValue (command.CallDel digest) = Unit {0}
HasWrittenValue (command.CallAgain call) = Unit {0}
HasWrittenValue (command.Scan partition) = Unit {0}
HasWrittenValue (command.ScanNext scan) = Unit {0}

pub record IsSpelled (script : Script) : Type 0 where
  pub values : All HasWrittenValue script.commands
