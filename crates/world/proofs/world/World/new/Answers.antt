use Rattle.std.proofs.Common.{◌≡◌, ℕ, List, [], ◌∷◌, ◌++◌, All, map, replicate, ap, ap₂, sym, subst, ◌∙◌}
use Rattle.std.specs.Prelude.{nat_lt}
use Rattle.cluster_types.specs.NodeLists.{IsNodeList}
use Rattle.partition_lists.specs.Lists.{in_order}
use Rattle.script_lang.specs.Proper.{IsProperHeaderLine}
use Rattle.journal_lines.specs.declared.line.Line.{Line}
use Rattle.journal_text.specs.Journals.{IsWithin}
use Rattle.node_rules.specs.Steps.{unplanned}
use Rattle.cluster_rules.specs.Opening.{Header, declared_nodes}
use Rattle.cluster_rules.specs.World.{declared}
use Rattle.world.specs.Stands.{AreDivided}
use Rattle.world.specs.Steps.{run_begun, run_of_events}
use Rattle.world.proofs.OpeningLaws.{first_run, opened_keeps}
use Rattle.world.proofs.world.World.new.Goals as goal

pub invariant_of-result : goal.invariant_of-result
invariant_of-result c =
    let h : Header = c.as_slice-header.result.now in
    let same : h ≡ c.args.header.now = c.as_slice-header.ensures.lines in
    let empty : c.make_room.new.self.journal.lines ≡ [] = c.make_room.ensures.same.lines ∙ c.new-ledger.ensures.lines in
    opened_keeps _ h
    (subst (λ (x : Header). IsNodeList (declared_nodes x)) (sym same) c.as_slice-header.ensures.nodes)
    (subst (λ (x : Header). All IsProperHeaderLine x) (sym same) c.as_slice-header.ensures.ranges)
    c.in_ok-header.ensures.items
    (rw c.append.ensures.events (c.make_room.ensures.same.events ∙ c.new-ledger.ensures.events))
    (c.append.ensures.lines ∙ ap (λ (ls : List Line). ls ++ c.in_ok-lines.lines) empty ∙ c.in_ok-lines.ensures)
    (subst IsWithin (ap (λ (ls : List Line). ls ++ c.in_ok-lines.lines) c.new-ledger.ensures.lines ∙ c.in_ok-lines.ensures) c.in_ok-make_room.ensures.within)
    (c.rising-ids.ensures ∙ ap (in_order nat_lt) c.declared_ids-all.ensures)
    (c.in_ok-nodes.ensures ∙ ap (λ (ns : List ℕ). map (λ n. unplanned (declared h n)) ns) c.as_slice.ensures.same)
    (c.in_ok-clocks.ensures ∙ ap (λ (k : ℕ). replicate k 0) c.len.ensures.value)
    c.undivided_net.ensures.sent c.undivided_net.ensures.flying
    (subst (λ (ns : List ℕ). AreDivided c.undivided_net.result.groups (ns ∷ [])) c.declared_ids-all.ensures c.undivided_net.ensures.groups)
    c.in_ok-client.ensures

pub returns-clause-ok : goal.returns-clause-ok
returns-clause-ok c =
    let none : c.append.new.self.events.items ≡ [] = rw c.append.ensures.events (c.make_room.ensures.same.events ∙ c.new-ledger.ensures.events) in
    ap₂ run_of_events c.in_ok-header.ensures.items none ∙ first_run c.as_slice-header.result.now ∙ ap run_begun c.as_slice-header.ensures.lines
