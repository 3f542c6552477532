-- A round in a world that isn't calm adds lines to the journal.
use Rattle.std.proofs.Common.{◌≡◌, ℕ, ◌+◌, ◌<◌, true, false, List, length, sym, ap, subst, ◌∙◌, arith, length-append}
use Rattle.cluster_types.specs.Partitions.{partition_count}
use Rattle.partition_lists.proofs.InOrderLaws.{Has}
use Rattle.journal_text.specs.Journals.{IsWithin}
use Rattle.cluster_rules.specs.Calm.{is_calm}
use Rattle.cluster_rules.specs.Opening.{declared_nodes}
use Rattle.cluster_rules.specs.Steps.{all_lines, round}
use Rattle.cluster_rules.specs.World.{is_up}
use Rattle.run_laws.specs.Taken.{Taken}
use Rattle.world.specs.Steps.{RunSoFar, standing, run_lines}
use Rattle.world.proofs.KnownLaws.{contains_has, same_nodes}
use Rattle.world.proofs.RunFacts.{known}
use Rattle.calm_run.specs.Playing.{followed, WritesMore}
use Rattle.calm_run.proofs.Sequels.{written_followed}
use Rattle.calm_run.proofs.RoundLines.{round_writes}

-- whoever is up is declared
up_has : (r : RunSoFar) → Taken r.header r.steps → (m : ℕ) → is_up (standing r) m ≡ true → Has (standing r).nodes m
up_has r taken m up = subst (λ (ns : List ℕ). Has ns m) (sym (same_nodes r)) (contains_has (declared_nodes r.header) m ((known r taken).up m up))

pub round_writes_more : (old new : RunSoFar) → Taken old.header old.steps → is_calm (standing old) ≡ false → new ≡ followed old (round partition_count (standing old)).steps → IsWithin (run_lines new) → WritesMore old new
round_writes_more old new taken uneasy steps within =
    let some : 0 < length (all_lines (round partition_count (standing old)).steps) = round_writes partition_count (standing old) (up_has old taken) uneasy in
    let count : length (run_lines new) ≡ length (run_lines old) + length (all_lines (round partition_count (standing old)).steps) =
    ap (λ (r : RunSoFar). length (run_lines r)) steps
    ∙ ap length (written_followed old (round partition_count (standing old)).steps)
    ∙ length-append (run_lines old) (all_lines (round partition_count (standing old)).steps) in
    record { more = omega (arith, some, count); within = within }
