-- What the header of a script declares, and its lines in the journal.
use Rattle.std.specs.Prelude.{ℕ, ◌==◌, false, List, fold, filter_map, map, Option, None, unwrap_or, slice_get, if◌then◌else◌}
use Rattle.conflict_order.specs.declared.policy.Policy.{Policy}
use Rattle.conflict_order.specs.declared.policy.Policy.TheVariants.{Time}
use Rattle.cluster_types.specs.declared.member.Role.{Role}
use Rattle.cluster_types.specs.Distinct.{without}
use Rattle.script_lang.specs.declared.script.HeaderLine.{HeaderLine}
use Rattle.script_lang.specs.declared.script.HeaderLine.TheVariants as header
pub use Rattle.script_lang.specs.Before.{node_in, nodes_of as declared_nodes}
use Rattle.journal_lines.specs.declared.line.Line.{Line}
use Rattle.journal_lines.specs.declared.line.Line.TheVariants as line

-- the lines of a header, in their order
abbrev pub Header : Type 0
Header = List HeaderLine

abbrev pub header_factor_step : ℕ → HeaderLine → ℕ
header_factor_step factor (header.Factor named) = named
header_factor_step factor _ = factor

-- how many replicas a partition has: as the last line says that names a factor, or 1
abbrev pub declared_factor : Header → ℕ
declared_factor h = fold header_factor_step 1 h

abbrev pub header_policy_step : Policy → HeaderLine → Policy
header_policy_step by (header.Policy named) = named
header_policy_step by _ = by

-- how versions compare: as the last line says that names a policy, or by time
abbrev pub declared_policy : Header → Policy
declared_policy h = fold header_policy_step Time h

-- the rack that the line names for the node
abbrev pub rack_in : ℕ → HeaderLine → Option ℕ
rack_in n (header.Node m rack) = if m == n then rack else None
rack_in n _ = None

-- the role in which the node begins: with the rack that its line names, or rack 0, and not quiesced
abbrev pub declared_role : Header → ℕ → Role
declared_role h n = record {
  rack = unwrap_or (slice_get (filter_map (rack_in n) h) 0) 0;
  quiesced = false;
}

-- the other declared nodes
abbrev pub declared_peers : Header → ℕ → List ℕ
declared_peers h n = without (declared_nodes h) n

-- a line of the header in the journal
abbrev pub journal_header_line : HeaderLine → Line
journal_header_line (header.Script version) = line.Script version
journal_header_line (header.Factor factor) = line.Factor factor
journal_header_line (header.Node n rack) = line.Node n rack
journal_header_line (header.Policy by) = line.Policy by

-- the lines with which a journal begins
abbrev pub header_lines : Header → List Line
header_lines h = map journal_header_line h
