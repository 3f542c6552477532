-- A world with its history: for which members each key was first promised, and who has entered which view.
use Rattle.std.specs.Prelude.{ℕ, ◌==◌, Bool, false, List, [], ◌∷◌, Option, Some, None, ◌||◌, if◌then◌else◌}
use Rattle.cluster_types.specs.declared.cluster_key.ClusterKey.{ClusterKey}
use Rattle.cluster_types.specs.declared.member.Member.{Member}
use Rattle.journal_lines.specs.declared.line.Line.{Line}
use Rattle.journal_lines.specs.declared.line.Line.TheVariants as line
use Rattle.node_rules.specs.Facts.{Facts}
use Rattle.node_rules.specs.Keys.{same_key}
use Rattle.node_rules.specs.Notes.{neighbours}
use Rattle.cluster_rules.specs.World.{World}
use Rattle.cluster_rules.specs.Marks.{Mark, Begins, Writes}
use Rattle.cluster_rules.specs.Marks as marks
use Rattle.journal_readings.specs.Lines.{is_enter}

-- the members that each key was first promised for, if it was
abbrev pub Lists : Type 0
Lists = ClusterKey → Option (List Member)

pub record Traced : Type 0 where
  pub world : World
  pub lists : Lists
  -- whether the node has entered the view of that key
  pub entered : ℕ → ClusterKey → Bool

-- what is known of the node
abbrev pub facts_of : Traced → ℕ → Facts
facts_of t n = t.world.facts n

-- the lists with these members at the key
abbrev pub with_list : Lists → ClusterKey → List Member → Lists
with_list lists k ms q = if same_key k q then Some ms else lists q

-- a node that promises a key of its own does so for its neighbours
abbrev pub lists_after : Traced → Line → Lists
lists_after t (line.Promise n k) =
    if k.principal == n then with_list t.lists k (neighbours (facts_of t n)) else t.lists
lists_after t _ = t.lists

-- who has entered which view, with the line
abbrev pub entered_after : Traced → Line → ℕ → ClusterKey → Bool
entered_after t l n k = is_enter k n l || t.entered n k

abbrev pub traced_after : Traced → Mark → Traced
traced_after t (Begins e) = record {
  world = marks.after t.world (Begins e);
  lists = t.lists;
  entered = t.entered;
}
traced_after t (Writes l) = record {
  world = marks.after t.world (Writes l);
  lists = lists_after t l;
  entered = entered_after t l;
}

-- marks one after another
abbrev pub traced_after_all : Traced → List Mark → Traced
traced_after_all t [] = t
traced_after_all t (m ∷ ms) = traced_after_all (traced_after t m) ms

-- a world in which nothing was promised
abbrev pub untouched : World → Traced
untouched w = record { world = w; lists = λ k. None; entered = λ n k. false }
