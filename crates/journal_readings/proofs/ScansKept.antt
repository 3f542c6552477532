-- A journal in which a scan begins anew and comes to its end.
use Rattle.std.proofs.Common.{◌≡◌, ℕ, suc, Bool, true, false, ◌&&◌, List, [], ◌∷◌, Option, Some, None, refl, sym, ap, subst, ◌∙◌, arith}
use Rattle.std.specs.Prelude.{slice_get, take, drop, cond, option_and_then, bytes_eq}
use Rattle.std.specs.declared.cmp.Ordering.TheVariants.{Less}
use Rattle.std.specs.Ordering.{nat_cmp}
use Rattle.std.specs.Cmp.Lexicographic.{slice_cmp}
use Rattle.std.proofs.lemmas.List.Elements.{All-nil, All-cons}
use Rattle.std.proofs.lemmas.List.Kept.{AllPairs-cons}
use Rattle.conflict_order.specs.Contents.{Record}
use Rattle.conflict_order.specs.declared.policy.Policy.TheVariants.{Time}
use Rattle.cluster_types.specs.Partitions.{partition_of}
use Rattle.wire_messages.specs.declared.message.Message.{Message}
use Rattle.wire_messages.specs.declared.message.Message.TheVariants as message
use Rattle.wire_messages.specs.declared.scan.ScanPage.{ScanPage}
use Rattle.journal_lines.specs.declared.line.Line.{Line}
use Rattle.journal_lines.specs.declared.line.Line.TheVariants as line
use Rattle.journal_readings.specs.Messages.{Arrival, arrival}
use Rattle.journal_readings.specs.Entries.{fold_of}
use Rattle.journal_readings.specs.Replies.{arrival_at}
use Rattle.journal_readings.specs.ScanClaims.{listed, found, AreFolds, AreOfPartition, takes_page, PageTaken, GoesOn, PageAgrees, IsWhole, ScansAreWhole}
use Rattle.journal_readings.specs.Examples.{digest, second, key, version}
use Rattle.journal_readings.specs.ScanExamples.{last_page, scanned_anew}
use Rattle.journal_readings.proofs.AlongLaws.{some_same}
use Rattle.journal_readings.proofs.Computing.{computing}
use Rattle.journal_readings.proofs.CopyLaws.{same_digest_is}
use Rattle.journal_readings.proofs.Places.{AllPlaces, at_place, what_is}
use Rattle.journal_readings.proofs.Unwritten.{IsUnwritten, unwritten_beside, fold_of-none}

-- ---- pages

abbrev is_page_message : Message → Bool
is_page_message (message.ScanPage p) = true
is_page_message _ = false

abbrev brings_page : Option Arrival → Bool
brings_page None = false
brings_page (Some x) = is_page_message x.message

abbrev takes : ℕ → Option Line → Bool
takes s None = false
takes s (Some l) = takes_page s l

both : (a b : Bool) → a ≡ true → b ≡ true → (a && b) ≡ true
both true b e f = f
both false b e f = e

-- a page of the scan is taken at the place
abbrev is_taking : ℕ → List Line → ℕ → Line → Bool
is_taking s j i l = brings_page (arrival (take i j) l) && takes s (slice_get j (suc i))

taken_at : (P : ℕ → Type 0) (s : ℕ) (j : List Line) → AllPlaces (is_taking s j) P j → (i m : ℕ) (p : ScanPage) → PageTaken j i s m p → P i
taken_at P s j h i m p t =
    let l : (l : Line) × (slice_get j i ≡ Some l) = what_is (arrival (take i j)) (slice_get j i) _ t.brings in
    let brought : brings_page (arrival_at j i) ≡ true = ap brings_page t.brings in
    at_place (is_taking s j) P j h i l.0 l.1
    (both _ _ (subst (λ (o : Option Line). brings_page (option_and_then (arrival (take i j)) o) ≡ true) l.1 brought) (ap (takes s) t.stands ∙ t.takes))

-- the page in the message, and this one where there is none
abbrev page_in : ScanPage → Message → ScanPage
page_in p (message.ScanPage q) = q
page_in p _ = p

abbrev page_brought : ScanPage → Option Arrival → ScanPage
page_brought p None = p
page_brought p (Some x) = page_in p x.message

abbrev sender_of : Option Arrival → ℕ
sender_of None = 0
sender_of (Some x) = x.from

-- ---- the folds

abbrev records : List Record
records = (digest, version 0 2 98) ∷ (second, version 0 1 97) ∷ []

-- the records have the fold of each of the two, and every other one is unwritten
folds_of_two : (lines : List Line) → found records digest ≡ fold_of Time (key 1 1) digest lines → found records second ≡ fold_of Time (key 1 1) second lines
    → ((d : List ℕ) → bytes_eq digest d ≡ false → bytes_eq second d ≡ false → IsUnwritten d lines) → AreFolds Time (key 1 1) 4095 lines records
folds_of_two lines first then others d of = go (bytes_eq digest d) refl (bytes_eq second d) refl
  where
    neither : (a b : Bool) → a ≡ false → b ≡ false → cond a (Some (version 0 2 98)) (cond b (Some (version 0 1 97)) None) ≡ None
    neither false false e f = refl
    neither true b e f = cc
    neither false true e f = cc

    go : (a : Bool) → bytes_eq digest d ≡ a → (b : Bool) → bytes_eq second d ≡ b → found records d ≡ fold_of Time (key 1 1) d lines
    go true e b f = subst (λ (x : List ℕ). found records x ≡ fold_of Time (key 1 1) x lines) (same_digest_is digest d e) first
    go false e true f = subst (λ (x : List ℕ). found records x ≡ fold_of Time (key 1 1) x lines) (same_digest_is second d f) then
    go false e false f = neither (bytes_eq digest d) (bytes_eq second d) e f ∙ sym (fold_of-none Time (key 1 1) d lines (others d e f))

folds_at_first : AreFolds Time (key 1 1) 4095 (take 28 scanned_anew) records
unfolding computing
folds_at_first = folds_of_two (take 28 scanned_anew) refl refl (λ d e f. unwritten_beside digest second d e f (take 28 scanned_anew) refl)

folds_at_last : AreFolds Time (key 1 1) 4095 (take 34 scanned_anew) records
unfolding computing
folds_at_last = folds_of_two (take 34 scanned_anew) refl refl (λ d e f. unwritten_beside digest second d e f (take 34 scanned_anew) refl)

-- ---- the scan

differ : true ≡ false → ⊥
differ e = cc

-- what is claimed of a page that is taken at the place
abbrev Agrees : ℕ → Type 0
Agrees o = (m : ℕ) (p : ScanPage) → PageTaken scanned_anew o 1 m p → GoesOn scanned_anew 1 o 36 → PageAgrees scanned_anew o m 1 4095 (key 1 1) p records

given_up : Agrees 14
unfolding computing
given_up m p t g = absurd (differ g.steady)

first_agrees : Agrees 29
unfolding computing
first_agrees m p t g = record {
  sender = sym (ap sender_of t.brings);
  key = sym (ap (λ (x : Option Arrival). (page_brought p x).key) t.brings);
  before = take 28 scanned_anew;
  sent = refl;
  folds = folds_at_first;
}

last_agrees : Agrees 35
unfolding computing
last_agrees m p t g = record {
  sender = sym (ap sender_of t.brings);
  key = sym (ap (λ (x : Option Arrival). (page_brought p x).key) t.brings);
  before = take 34 scanned_anew;
  sent = refl;
  folds = folds_at_last;
}

all_agree : AllPlaces (is_taking 1 scanned_anew) Agrees scanned_anew
unfolding computing
all_agree = (given_up, (first_agrees, (last_agrees, tt)))

-- the first record is below the second
abbrev IsBelow : Record → Record → Type 0
IsBelow a b = slice_cmp nat_cmp a.0 b.0 ≡ Less

abbrev IsOf : Record → Type 0
IsOf r = partition_of r.0 ≡ 4095

two_of_partition : AreOfPartition 4095 records
two_of_partition =
    let r : Record = (digest, version 0 2 98) in
    let s : Record = (second, version 0 1 97) in
    record {
      rising = AllPairs-cons IsBelow r (s ∷ []) (All-cons (IsBelow r) s [] refl (All-nil (IsBelow r))) (AllPairs-cons IsBelow s [] (All-nil (IsBelow s)) (λ i j d below within. absurd (omega arith)));
      placed = All-cons IsOf r (s ∷ []) refl (All-cons IsOf s [] refl (All-nil IsOf));
    }

whole_anew : IsWhole scanned_anew 36 1 1 4095 2 (key 1 1) records
unfolding computing
whole_anew = record {
  counted = refl;
  placed = two_of_partition;
  asked = record { place = 10; receiver = 1; asks = refl };
  ended = record { arrival = 35; directly = refl; page = last_page 3; brings = refl; scan = refl; last = refl };
  agrees = λ o m p t g. taken_at Agrees 1 scanned_anew all_agree o m p t m p t g;
}

-- the claim of a line
abbrev KeepsAt : List Line → ℕ → Line → Type 0
KeepsAt j i (line.Scanned s n k p count) = IsWhole j i s n p count k (listed s (drop (suc i) j))
KeepsAt j i _ = Unit {0}

abbrev is_scanned : Line → Bool
is_scanned (line.Scanned s n k p count) = true
is_scanned _ = false

abbrev KeepsClaim : ℕ → Type 0
KeepsClaim i = (l : Line) → slice_get scanned_anew i ≡ Some l → KeepsAt scanned_anew i l

keeps_each : AllPlaces (λ i l. is_scanned l) KeepsClaim scanned_anew
unfolding computing
keeps_each = ((λ l e. subst (KeepsAt scanned_anew 36) (some_same e) whole_anew), tt)

pub scans_whole : ScansAreWhole scanned_anew
scans_whole = record { whole = λ i s n p count k e. at_place (λ i l. is_scanned l) KeepsClaim scanned_anew keeps_each i (line.Scanned s n k p count) e refl (line.Scanned s n k p count) e }
