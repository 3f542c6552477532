-- The names of the causes, and what is said of a fault.
use Rattle.std.specs.Prelude.{ℕ, List, ◌++◌, codes}
use Rattle.std.specs.Fmt.{decimal}
use Rattle.script_lang.specs.declared.fault.ScriptFault.{ScriptFault}
use Rattle.script_lang.specs.declared.fault.ScriptFault.TheVariants.{At, NoMemory}
use Rattle.script_lang.specs.declared.fault.Cause.{Cause}
use Rattle.script_lang.specs.declared.fault.Cause.TheVariants.{BadUtf8, UnknownWord, NotBuilt, HeaderLate, MissingField, ExtraField, BadNumber, BadFactor, BadPolicy, UnknownNode, RepeatedNode, TooManyNodes, BadDigest, TooLongValue, BadGroups, VersionLate}

abbrev pub cause_name : Cause → List ℕ
cause_name BadUtf8 = codes "BadUtf8"
cause_name UnknownWord = codes "UnknownWord"
cause_name NotBuilt = codes "NotBuilt"
cause_name HeaderLate = codes "HeaderLate"
cause_name MissingField = codes "MissingField"
cause_name ExtraField = codes "ExtraField"
cause_name BadNumber = codes "BadNumber"
cause_name BadFactor = codes "BadFactor"
cause_name BadPolicy = codes "BadPolicy"
cause_name UnknownNode = codes "UnknownNode"
cause_name RepeatedNode = codes "RepeatedNode"
cause_name TooManyNodes = codes "TooManyNodes"
cause_name BadDigest = codes "BadDigest"
cause_name TooLongValue = codes "TooLongValue"
cause_name BadGroups = codes "BadGroups"
cause_name VersionLate = codes "VersionLate"

abbrev pub fault_text : ScriptFault → List ℕ
fault_text (At line cause) = codes "line " ++ decimal line ++ codes ": " ++ cause_name cause
fault_text NoMemory = codes "no memory"
