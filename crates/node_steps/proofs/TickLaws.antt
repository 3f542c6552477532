-- The parts of a tick after the agreement, one after another.
use Rattle.std.proofs.Common.{◌≡◌, ℕ, zero, suc, ◌+◌, Bool, true, false, ◌&&◌, not, List, [], ◌∷◌, ◌++◌, None, refl, sym, ap, ◌∙◌, arith, if◌then◌else◌}
use Rattle.cluster_types.specs.Members.{plain_role}
use Rattle.cluster_types.specs.Partitions.{partition_count}
use Rattle.conflict_order.specs.declared.policy.Policy.TheVariants.{Time}
use Rattle.journal_lines.specs.declared.line.Line.{Line}
use Rattle.wire_messages.specs.declared.message.Message.TheVariants as message
use Rattle.node_rules.specs.Batches.{Targets}
use Rattle.node_rules.specs.Bits.{Bits}
use Rattle.node_rules.specs.Copies.{Stamps}
use Rattle.node_rules.specs.Effects as rules
use Rattle.node_rules.specs.Effects.{nothing, sends_only, to_each}
use Rattle.node_rules.specs.Exchange.{Exchange}
use Rattle.node_rules.specs.Facts.{Facts, fresh, view_key}
use Rattle.node_rules.specs.Hearing.{Hearing}
use Rattle.node_rules.specs.Here.{HasRows, lines_from, part_lines}
use Rattle.node_rules.specs.Notes.{noted}
use Rattle.node_rules.specs.Settling.{settling_due, settling_from}
use Rattle.node_rules.specs.Standing.{is_done, knows_all_settled, knows_settled, others}
use Rattle.node_rules.specs.Tick as tick
use Rattle.node_rules.specs.Tick.{done_from, parts_in_order, progress, progress_message}
use Rattle.node_rules.proofs.SettlingLaws.{settled_apart}
use Rattle.node_steps.specs.declared.effects.Effects.{Effects}
use Rattle.node_steps.specs.Spelled.{then_effects}
use Rattle.node_steps.specs.Ticks.{later_parts}
use Rattle.node_steps.proofs.SpelledLaws.{told_nothing, told_twice}

-- ---- what a Progress tells

-- facts of which the same Progress is due
abbrev told_of : ℕ → Exchange → Targets → Bits → Facts
told_of me x targets bits = record (fresh me plain_role [] 1 Time) { exchange = x; batches = targets; bits = bits }

done_told : (f : Facts) (n p : ℕ) → done_from f n p ≡ done_from (told_of f.me f.exchange f.batches f.bits) n p
unfolding done_from
done_told f zero p = refl
done_told f (suc n) p = ap (λ (row : List Bool). is_done f p ∷ row) (done_told f n (p + 1))

settled_told : (f : Facts) (n p : ℕ) → knows_all_settled f n p ≡ knows_all_settled (told_of f.me f.exchange f.batches f.bits) n p
unfolding knows_all_settled
settled_told f zero p = refl
settled_told f (suc n) p = ap (λ (b : Bool). knows_settled f p && b) (settled_told f n (p + 1))

told_if : (n : ℕ) (f : Facts) (b : Bool) → (if b then sends_only (to_each (others f) (progress_message n f true)) else nothing) ≡ (if b then sends_only (to_each (others (told_of f.me f.exchange f.batches f.bits)) (progress_message n (told_of f.me f.exchange f.batches f.bits) true)) else nothing)
told_if n f true = ap (λ (row : List Bool). sends_only (to_each (others f) (message.Progress (view_key f) true row f.bits.handed f.bits.settled))) (done_told f n 0)
told_if n f false = refl

progress_told : (n : ℕ) (f : Facts) → progress n f ≡ progress n (told_of f.me f.exchange f.batches f.bits)
progress_told n f =
    told_if n f (f.exchange.exchanged && not (knows_all_settled f n 0))
    ∙ ap (λ (b : Bool). (if f.exchange.exchanged && not b then sends_only (to_each (others (told_of f.me f.exchange f.batches f.bits)) (progress_message n (told_of f.me f.exchange f.batches f.bits) true)) else nothing)) (settled_told f n 0)

-- the same Progress is due of facts with the same view
pub progress_alike : (n : ℕ) (f g : Facts) → f.me ≡ g.me → f.exchange ≡ g.exchange → f.batches ≡ g.batches → f.bits ≡ g.bits → progress n f ≡ progress n g
progress_alike n f g me x targets bits =
    progress_told n f
    ∙ ap (λ (h : Facts). progress n h) (same me x targets bits)
    ∙ sym (progress_told n g)
  where
    same : {a b : ℕ} {x y : Exchange} {s t : Targets} {u v : Bits} → a ≡ b → x ≡ y → s ≡ t → u ≡ v → told_of a x s u ≡ told_of b y t v
    same p q r w = cc

-- ---- settling

lines_alike : (n p : ℕ) (f : Facts) (h : Hearing) (stamps : Stamps) → lines_from n p (record f { hearing = h; store = record f.store { stamps = stamps } }) ≡ lines_from n p f
unfolding lines_from
lines_alike zero p f h stamps = refl
lines_alike (suc n) p f h stamps = ap (λ (ls : List Line). part_lines f p ++ ls) (lines_alike n (p + 1) f h stamps)

apart_alike : (b : Bool) (f : Facts) (h : Hearing) (stamps : Stamps) → HasRows f
    → (if b then settling_from partition_count 0 (record f { hearing = h; store = record f.store { stamps = stamps } }) else []) ≡ (if b then settling_from partition_count 0 f else [])
apart_alike true f h stamps rows =
    settled_apart partition_count 0 (record f { hearing = h; store = record f.store { stamps = stamps } }) (record { handed = rows.handed; settled = rows.settled }) (omega arith)
    ∙ lines_alike partition_count 0 f h stamps
    ∙ sym (settled_apart partition_count 0 f rows (omega arith))
apart_alike false f h stamps rows = refl

-- the lines of settling don't go by whom the node hears, nor by the stamps
pub settling_alike : (f : Facts) (h : Hearing) (stamps : Stamps) → HasRows f
    → settling_due partition_count (record f { hearing = h; store = record f.store { stamps = stamps } }) ≡ settling_due partition_count f
settling_alike f h stamps rows = apart_alike f.exchange.exchanged f h stamps rows

-- ---- the parts

-- the parts after the agreement, told one after another
pub told_in_order : (told : Effects) (g : Facts)
    → then_effects (then_effects (then_effects (then_effects (then_effects told (tick.rows g)) (tick.transactions g)) (tick.batches g)) (tick.settlings partition_count g)) (progress partition_count (noted None g (settling_due partition_count g)))
    ≡ then_effects told (parts_in_order (later_parts partition_count) g)
told_in_order told g =
    let last : rules.Effects = progress partition_count (noted None g (settling_due partition_count g)) in
    let rest : rules.Effects = rules.followed_by (tick.settlings partition_count g) (rules.followed_by last nothing) in
    let told1 : Effects = then_effects told (tick.rows g) in
    let told2 : Effects = then_effects told1 (tick.transactions g) in
    let told3 : Effects = then_effects told2 (tick.batches g) in
    let told4 : Effects = then_effects told3 (tick.settlings partition_count g) in
    sym (told_nothing (then_effects told4 last))
    ∙ told_twice told4 last nothing
    ∙ told_twice told3 (tick.settlings partition_count g) (rules.followed_by last nothing)
    ∙ told_twice told2 (tick.batches g) rest
    ∙ told_twice told1 (tick.transactions g) (rules.followed_by (tick.batches g) rest)
    ∙ told_twice told (tick.rows g) (rules.followed_by (tick.transactions g) (rules.followed_by (tick.batches g) rest))
