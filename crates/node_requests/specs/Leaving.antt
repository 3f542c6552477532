-- The lines of what a node gives up, as they are written.
use Rattle.std.specs.Prelude.{Bool, true, false, List, [], ◌∷◌, ◌++◌, map, if◌then◌else◌}
use Rattle.journal_lines.specs.declared.line.Line.{Line}
use Rattle.journal_lines.specs.declared.line.Line.TheVariants as line
use Rattle.request_rules.specs.Passing.{leaves}
use Rattle.node_requests.specs.declared.leaving.GivenUp.{GivenUp}

-- the lines of what is given up
abbrev pub given_up_lines : GivenUp → List Line
given_up_lines g = map (λ x. line.Unproxied g.node g.key x) g.numbers

-- the lines of a step with those right before the first line at which the node leaves its view
abbrev pub with_lines_of : GivenUp → List Line → List Line
with_lines_of g [] = []
with_lines_of g (l ∷ ls) =
    if leaves g.node l then given_up_lines g ++ l ∷ ls else l ∷ with_lines_of g ls

-- the lines that are still to come, where the test says whether the node has left its view
abbrev pub still_to_come : GivenUp → Bool → List Line → List Line
still_to_come g true ls = ls
still_to_come g false ls = with_lines_of g ls

-- the lines of what is given up, where the test says so
abbrev pub lines_if : GivenUp → Bool → List Line
lines_if g true = given_up_lines g
lines_if g false = []
