-- What is written of a journal.
use Rattle.std.specs.Prelude.{ℕ, Bool, true, false, List, [], ◌∷◌, ◌++◌, length, filter, Option, Some, None, codes}
use Rattle.std.specs.Fmt.{decimal}
use Rattle.journal_lines.specs.declared.line.Line.{Line}
use Rattle.journal_lines.specs.declared.line.Line.TheVariants as line
use Rattle.journal_text.specs.Text.{text}
use Rattle.serde_json.specs.Data.{Data, number, unsigned, object, member, no_members}
use Rattle.cluster_top.specs.declared.counting.Counts.{Counts}
use Rattle.cluster_top.specs.declared.words.Words.{Words}

-- ---- kinds of lines

abbrev pub counts_as_apply : Line → Bool
counts_as_apply (line.Apply n k t d v) = true
counts_as_apply _ = false

abbrev pub counts_as_drop : Line → Bool
counts_as_drop (line.Drop n k p) = true
counts_as_drop _ = false

abbrev pub counts_as_merge : Line → Bool
counts_as_merge (line.Merge n k d v) = true
counts_as_merge _ = false

abbrev pub counts_as_node : Line → Bool
counts_as_node (line.Node n rack) = true
counts_as_node _ = false

abbrev pub counts_as_sent : Line → Bool
counts_as_sent (line.Sent i a b bytes) = true
counts_as_sent _ = false

abbrev pub counts_as_settled : Line → Bool
counts_as_settled (line.Settled n k p) = true
counts_as_settled _ = false

-- ---- the summary

-- how many lines there are of each kind that it names, and of all kinds
abbrev pub counts_of : List Line → Counts
counts_of j = record {
  applied = length (filter counts_as_apply j);
  drops = length (filter counts_as_drop j);
  lines = length j;
  merges = length (filter counts_as_merge j);
  nodes = length (filter counts_as_node j);
  sent = length (filter counts_as_sent j);
  settled = length (filter counts_as_settled j);
}

-- the numbers as compact JSON, with the names in rising order
abbrev pub object_of : Counts → List ℕ
object_of c =
    codes "{\"applied\":" ++ decimal c.applied
    ++ codes ",\"drops\":" ++ decimal c.drops
    ++ codes ",\"lines\":" ++ decimal c.lines
    ++ codes ",\"merges\":" ++ decimal c.merges
    ++ codes ",\"nodes\":" ++ decimal c.nodes
    ++ codes ",\"sent\":" ++ decimal c.sent
    ++ codes ",\"settled\":" ++ decimal c.settled
    ++ codes "}"

-- the same as a value of JSON
abbrev pub data_of : Counts → Data
data_of c =
    object (member (codes "applied") (number (unsigned c.applied))
    (member (codes "drops") (number (unsigned c.drops))
    (member (codes "lines") (number (unsigned c.lines))
    (member (codes "merges") (number (unsigned c.merges))
    (member (codes "nodes") (number (unsigned c.nodes))
    (member (codes "sent") (number (unsigned c.sent))
    (member (codes "settled") (number (unsigned c.settled)) no_members)))))))

-- one line
abbrev pub summary : List Line → List ℕ
summary j = object_of (counts_of j) ++ 10 ∷ []

-- ---- what is written

-- the journal's text and, where it is wanted, its summary
abbrev pub text_by : Bool → List Line → List ℕ
text_by true j = text j ++ summary j
text_by false j = text j

-- by whether a summary is wanted, and by the number whose script was replayed, if it was generated
abbrev pub transcript_by : Bool → Option ℕ → List Line → List ℕ
transcript_by wanted (Some n) j = summary j
transcript_by wanted None j = text_by wanted j

-- the journal's text and, where it is wanted, its summary; of a generated script the summary alone
abbrev pub transcript : Words → List Line → List ℕ
transcript words j = transcript_by words.summary words.generate j
