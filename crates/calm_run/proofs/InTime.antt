-- Calm that is played whole comes in time.
use Rattle.std.proofs.Common.{◌≡◌, ℕ, List, length, refl, ap, subst, arith, length-append}
use Rattle.cluster_types.specs.Partitions.{partition_count}
use Rattle.script_lang.specs.declared.script.Command.{Command}
use Rattle.script_lang.specs.declared.script.Command.TheVariants as command
use Rattle.journal_text.specs.Journals.{IsWithin}
use Rattle.cluster_rules.specs.Opening.{header_lines}
use Rattle.cluster_rules.specs.Runs.{Calms, calming}
use Rattle.cluster_rules.specs.Steps.{Played, Step, all_lines}
use Rattle.run_laws.specs.Taken.{Taken}
use Rattle.calm_laws.specs.Claims.{AreInTime, MayComeIn}
use Rattle.calm_laws.proofs.Onward.{taken_front}
use Rattle.calm_laws.proofs.Runs.{whole_in_time}
use Rattle.world.specs.Steps.{RunSoFar, standing, run_lines}
use Rattle.calm_run.specs.Playing.{ComesToRest, PlaysOn, RestsInTime, followed}

-- the steps that were added may come, as the journal with their lines passes no limit
may_come : (old new : RunSoFar) (ss : List Step) → new ≡ followed old ss → Taken new.header new.steps → IsWithin (run_lines new) → MayComeIn old.header old.steps ss
unfolding run_lines
may_come old new ss steps taken within = record {
  taken = taken_front old.header old.steps ss (subst (λ (r : RunSoFar). Taken r.header r.steps) steps taken);
  room = omega (arith, within.lines_fit, length-append (header_lines new.header) (all_lines new.steps), ap (λ (r : RunSoFar). length (all_lines r.steps)) steps);
}

pub rounds_in_time : (old new : RunSoFar) (rounds : ℕ) → ComesToRest old new rounds → Taken new.header new.steps → IsWithin (run_lines new) → AreInTime (standing old) rounds
unfolding standing
rounds_in_time old new rounds rest taken within =
    whole_in_time old.header old.steps (calming partition_count rounds (standing old)) (record { number = rounds; reached = rest.least; played = refl })
    (may_come old new (calming partition_count rounds (standing old)).steps rest.steps taken within)

-- the same of the command
pub rests_in_time : (old new : RunSoFar) (c : Command) → c ≡ command.Calm → PlaysOn old new c → Taken new.header new.steps → IsWithin (run_lines new) → RestsInTime old new
rests_in_time old new c is played taken within =
    let p : PlaysOn old new command.Calm = subst (PlaysOn old new) is played in
    let k : Calms partition_count (standing old) p.played = p.plays in
    let rest : ComesToRest old new k.number = record { least = k.reached; steps = subst (λ (x : Played). new ≡ followed old x.steps) k.played p.steps } in
    record { rounds = k.number; rest = rest; in_time = rounds_in_time old new k.number rest taken within }
