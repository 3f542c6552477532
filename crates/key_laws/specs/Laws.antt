-- The laws of keys, for every run of every script.
use Rattle.std.specs.Prelude.{◌≡◌, ℕ, List, take, Some, slice_get, All, IsTrue}
use Rattle.cluster_types.specs.declared.cluster_key.ClusterKey.{ClusterKey}
use Rattle.cluster_types.specs.declared.member.Member.{Member}
use Rattle.script_lang.specs.declared.script.Script.{Script}
use Rattle.script_lang.specs.Proper.{IsProperHeaderLine, IsProperCommand}
use Rattle.journal_lines.specs.declared.line.Line.{Line}
use Rattle.journal_lines.specs.declared.line.Line.TheVariants as line
use Rattle.cluster_rules.specs.Opening.{Header}
use Rattle.cluster_rules.specs.Runs.{run_marks}
use Rattle.journal_readings.specs.Shape.{EntersFalling, enters_once, names_entered}
use Rattle.cluster_rules.specs.Steps.{Played}
use Rattle.cluster_rules.specs.World.{opened}
use Rattle.key_laws.specs.Traced.{Traced, untouched, traced_after_all}

-- each line of the script keeps its ranges; ids of nodes have 16 bits
pub record KeepsRanges (s : Script) : Type 0 where
  pub header : All IsProperHeaderLine s.header
  pub commands : All IsProperCommand s.commands

-- the world at a place among the marks of a run, with its history of lists
abbrev pub traced_at : Header → Played → ℕ → Traced
traced_at h x i = traced_after_all (untouched (opened h)) (take i (run_marks h x))

-- what the shape of a journal says of its entries: those of one key have one list, which falls; the node that
-- enters is in it, and enters a key once; and a line of a node in its view names a view that the node has entered
pub record EntriesAgree (j : List Line) : Type 0 where
  pub one_list : (i o n m : ℕ) (k : ClusterKey) (ms others : List Member)
      → slice_get j i ≡ Some (line.Enter n k ms) → slice_get j o ≡ Some (line.Enter m k others)
      → ms ≡ others
  pub falling : (i : ℕ) (l : Line) → slice_get j i ≡ Some l → EntersFalling l
  pub entered : (i : ℕ) (l : Line) → slice_get j i ≡ Some l → IsTrue (enters_once (take i j) l)
  pub in_view : (i : ℕ) (l : Line) → slice_get j i ≡ Some l → IsTrue (names_entered (take i j) l)
