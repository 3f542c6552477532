-- What a node that is alone shows of its map and of its store.
use Rattle.std.proofs.Common.{◌≡◌, [], ◌∷◌, Option, Some, None, refl, ap, ◌∙◌}
use Rattle.conflict_order.specs.declared.version.Version.{Version}
use Rattle.partition_lists.specs.Lists.{list}
use Rattle.journal_lines.specs.declared.line.Line.TheVariants as line
use Rattle.node_rules.specs.Effects.{Effects, lines_only}
use Rattle.node_rules.specs.Examples.{key, lone, itself, in_its_view, zeros, first_hi, having_hi}
use Rattle.node_rules.specs.Shows.{due_map, due_show}
use Rattle.node_rules.specs.Steps.{after_stop}
use Rattle.node_rules.proofs.Lone.{alone, entered_view, after_put, holds_nothing, holds_hi}

shows_alone : due_map alone 6 7 ≡ lines_only (line.Map 1 (key 1 1) 6 itself 1 ∷ line.Map 1 (key 1 1) 7 itself 1 ∷ [])
unfolding list
shows_alone = refl

pub shows : due_map in_its_view 6 7 ≡ lines_only (line.Map 1 (key 1 1) 6 itself 1 ∷ line.Map 1 (key 1 1) 7 itself 1 ∷ [])
shows = ap (λ f. due_map f 6 7) entered_view ∙ shows_alone

-- the line of a node that holds that
abbrev holds_line : Option Version → Effects
holds_line held = lines_only (line.Holds 1 zeros held ∷ [])

pub holds : due_show having_hi zeros ≡ holds_line (Some first_hi)
holds = ap (λ f. due_show f zeros) after_put ∙ ap holds_line holds_hi

pub holds_stopped : due_show (after_stop having_hi) zeros ≡ holds_line (Some first_hi)
holds_stopped = ap (λ f. due_show (after_stop f) zeros) after_put ∙ ap holds_line holds_hi

pub holds_none : due_show lone zeros ≡ holds_line None
holds_none = ap holds_line holds_nothing
