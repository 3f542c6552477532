-- What the header of every script keeps.
use Rattle.std.specs.Prelude.{◌≡◌, ◌<◌, ◌≤◌, ◌⊎◌, List, All}
use Rattle.cluster_types.specs.NodeLists.{IsNodeList}
use Rattle.cluster_types.specs.Ranges.{IsId, IsRack}
use Rattle.script_lang.specs.declared.script.HeaderLine.{HeaderLine}
use Rattle.script_lang.specs.declared.script.HeaderLine.TheVariants as header
use Rattle.script_lang.specs.Before.{nodes_of}

-- the ranges of a line
abbrev pub IsProperHeaderLine : HeaderLine → Type 0
IsProperHeaderLine (header.Script version) = (version ≡ 1) ⊎ (version ≡ 2)
IsProperHeaderLine (header.Factor factor) = (0 < factor) × (factor ≤ 4)
IsProperHeaderLine (header.Node node rack) = IsId node × IsRack rack
IsProperHeaderLine (header.Policy policy) = Unit {0}

-- each line keeps its ranges, and at most sixteen nodes are declared, none twice
pub record IsProperHeader (lines : List HeaderLine) : Type 0 where
  pub ranges : All IsProperHeaderLine lines
  pub nodes : IsNodeList (nodes_of lines)
