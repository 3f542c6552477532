-- Journals in which a scan went wrong.
use Rattle.std.proofs.Common.{◌≡◌, ℕ, suc, ◌==◌, Bool, true, false, List, [], ◌∷◌, Option, Some, None, refl, sym, ap, subst, ◌∙◌, arith, lit<}
use Rattle.std.specs.Prelude.{slice_index}
use Rattle.std.specs.Ordering.{is_lt}
use Rattle.conflict_order.specs.declared.version.Body.{Body}
use Rattle.conflict_order.specs.declared.version.Body.TheVariants as body
use Rattle.conflict_order.specs.declared.version.Version.{Version}
use Rattle.conflict_order.specs.declared.policy.Policy.TheVariants.{Time}
use Rattle.wire_messages.specs.declared.message.Message.{Message}
use Rattle.wire_messages.specs.declared.message.Message.TheVariants as message
use Rattle.journal_lines.specs.declared.line.Line.{Line}
use Rattle.journal_lines.specs.declared.line.Line.TheVariants as line
use Rattle.journal_readings.specs.Messages.{Arrival}
use Rattle.journal_readings.specs.Entries.{fold_of}
use Rattle.journal_readings.specs.Replies.{arrival_at}
use Rattle.journal_readings.specs.ScanClaims.{found, ScansAreWhole}
use Rattle.journal_readings.specs.Examples.{digest, second, key, version}
use Rattle.journal_readings.specs.ScanExamples.{page, last_page, records_of_both, mixed, lacking, miscounted, disordered, foreign, unsought, unfinished}
use Rattle.journal_readings.proofs.AlongLaws.{some_same}
use Rattle.journal_readings.proofs.Computing.{computing}
use Rattle.journal_readings.proofs.Places.{none_in_front}

differ : false ≡ true → ⊥
differ e = cc

differ_too : true ≡ false → ⊥
differ_too e = cc

abbrev begins_with_a : Body → Bool
begins_with_a body.Tombstone = false
begins_with_a (body.Value bytes) = slice_index bytes 0 == 97

-- whether the value of the version begins with the letter a
abbrev has_a : Option Version → Bool
has_a None = false
has_a (Some v) = begins_with_a v.body

-- the first record had been written anew as the second page was sent
pub mixed_refused : ¬ (ScansAreWhole mixed)
unfolding computing
mixed_refused h =
    let x = (h.whole 24 1 1 4095 2 (key 1 1) refl).agrees 23 1 (last_page 3)
    (record { brings = refl; scan = refl; behind = line.Scanned 1 1 (key 1 1) 4095 2; stands = refl; takes = refl })
    (record { earlier = lit< tt; steady = refl }) in
    differ_too (ap has_a (subst (λ (ls : List Line). found ((digest, version 0 1 97) ∷ (second, version 0 1 97) ∷ []) digest ≡ fold_of Time (key 1 1) digest ls) (sym (some_same x.sent)) (x.folds digest refl)))

-- the second record has a fold, and isn't listed
pub lacking_refused : ¬ (ScansAreWhole lacking)
unfolding computing
lacking_refused h =
    let x = (h.whole 15 1 1 4095 1 (key 1 1) refl).agrees 14 1 (page None 2 records_of_both false)
    (record { brings = refl; scan = refl; behind = line.Scanned 1 1 (key 1 1) 4095 1; stands = refl; takes = refl })
    (record { earlier = lit< tt; steady = refl }) in
    differ (ap has_a (subst (λ (ls : List Line). found ((digest, version 0 1 97) ∷ []) second ≡ fold_of Time (key 1 1) second ls) (sym (some_same x.sent)) (x.folds second refl)))

-- two records are listed, and three counted
pub miscounted_refused : ¬ (ScansAreWhole miscounted)
unfolding computing
miscounted_refused h = differ_too (ap (λ (n : ℕ). n == 2) (h.whole 15 1 1 4095 3 (key 1 1) refl).counted)

-- the first record that is listed is above the second
pub disordered_refused : ¬ (ScansAreWhole disordered)
unfolding computing
disordered_refused h = differ (ap is_lt ((h.whole 15 1 1 4095 2 (key 1 1) refl).placed.rising 0 1 (digest, version 0 1 97) (lit< tt) (lit< tt)))

-- the first record that is listed is of partition 0
pub foreign_refused : ¬ (ScansAreWhole foreign)
unfolding computing
foreign_refused h = differ_too (ap (λ (p : ℕ). p == 0) ((h.whole 15 1 1 4095 3 (key 1 1) refl).placed.placed 0 (digest, version 0 1 97) (lit< tt)))

abbrev is_scan : Line → Bool
is_scan (line.Scan s n p) = true
is_scan _ = false

-- nobody asked for the page
pub unsought_refused : ¬ (ScansAreWhole unsought)
unfolding computing
unsought_refused h =
    let x = (h.whole 12 1 1 4095 2 (key 1 1) refl).asked in
    none_in_front is_scan unsought refl 12 x.place (line.Scan 1 x.receiver 4095) x.asks refl

-- ---- the last page

before_it : (n m : ℕ) → suc n ≡ suc m → n ≡ m
before_it n m e = omega (arith, e)

abbrev has_more : Message → Bool
has_more (message.ScanPage p) = p.more
has_more _ = false

-- whether more is to come behind the page
abbrev brings_more : Option Arrival → Bool
brings_more None = false
brings_more (Some x) = has_more x.message

-- the page directly before the end says that more is to come
pub unfinished_refused : ¬ (ScansAreWhole unfinished)
unfolding computing
unfinished_refused h =
    let x = (h.whole 15 1 1 4095 2 (key 1 1) refl).ended in
    let same : x.arrival ≡ 14 = before_it x.arrival 14 x.directly in
    differ_too (subst (λ (i : ℕ). brings_more (arrival_at unfinished i) ≡ false) same (ap brings_more x.brings ∙ x.last))
