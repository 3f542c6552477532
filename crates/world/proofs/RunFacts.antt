-- What holds of the world after a run's steps, which are taken.
use Rattle.std.proofs.Common.{◌≡◌, ℕ, ◌+◌, ◌<◌, length-append, List, length, ap, ◌∙◌, arith}
use Rattle.node_steps.specs.Counts.{HaveNumbers}
use Rattle.cluster_rules.specs.Steps.{all_lines}
use Rattle.run_laws.specs.Taken.{Taken, line_bound}
use Rattle.run_laws.specs.Worlds.{AsksDeclared, CountsBelow, HaveReceivers, KnowsNodes, MessagesCome, SendsAreRead}
use Rattle.run_laws.proofs.Worlds.{asks_declared, counts_few, have_receivers, knows_nodes, messages_come}
use Rattle.run_laws.proofs.WorldSends.{sends_are_read}
use Rattle.cluster_rules.specs.Opening.{header_lines}
use Rattle.journal_lines.specs.declared.line.Line.{Line}
use Rattle.journal_text.specs.Journals.{IsWithin}
use Rattle.node_rules.specs.Facts.{Facts}
use Rattle.world.specs.Fits.{FitsRun}
use Rattle.world.specs.Steps.{RunSoFar, standing, run_lines}

-- ---- of a run

pub known : (r : RunSoFar) → Taken r.header r.steps → KnowsNodes r.header (standing r)
unfolding standing
known r t = knows_nodes r.header r.steps t

pub come : (r : RunSoFar) → Taken r.header r.steps → MessagesCome r.header (standing r)
unfolding standing
come r t = messages_come r.header r.steps t

pub receivers : (r : RunSoFar) → Taken r.header r.steps → HaveReceivers r.header (standing r)
unfolding standing
receivers r t = have_receivers r.header r.steps t

pub asks : (r : RunSoFar) → Taken r.header r.steps → AsksDeclared r.header (standing r)
unfolding standing
asks r t = asks_declared r.header r.steps t

-- the journal has a line more at most than a number can count
few_lines : (r : RunSoFar) (ls : List Line) → ls ≡ run_lines r → IsWithin ls → length (all_lines r.steps) + 1 < line_bound
unfolding run_lines
few_lines r ls is within =
    let count : length ls ≡ length (header_lines r.header) + length (all_lines r.steps) = ap length is ∙ length-append (header_lines r.header) (all_lines r.steps) in
    omega (arith, within.lines_fit, count)

pub are_read : (r : RunSoFar) (sent : ℕ) (ls : List Line) → FitsRun r sent ls
    → SendsAreRead (standing r)
unfolding standing
are_read r sent ls fits = sends_are_read r.header r.steps fits.taken (few_lines r ls fits.journal fits.within)

-- the last number of a count
abbrev last_count : ℕ
last_count = 4294967295

have_numbers : (f : Facts) → CountsBelow last_count f → HaveNumbers f
have_numbers f h = record { transactions = h.transactions; batches = h.batches; applies = h.applies }

-- no node has counted so far, since each count has a line
pub numbers : (r : RunSoFar) (sent : ℕ) (ls : List Line) → FitsRun r sent ls → (n : ℕ) → HaveNumbers ((standing r).facts n)
unfolding standing run_lines
numbers r sent ls fits n =
    let count : length ls ≡ length (header_lines r.header) + length (all_lines r.steps) = ap length fits.journal ∙ length-append (header_lines r.header) (all_lines r.steps) in
    have_numbers ((standing r).facts n) (counts_few r.header r.steps fits.taken last_count (omega (arith, fits.within.lines_fit, count)) n)
