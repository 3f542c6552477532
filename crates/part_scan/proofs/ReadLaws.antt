-- A scan that reads what a node holds, page by page.
use Rattle.std.proofs.Common.{◌≡◌, ◌==◌, ◌&&◌, ◌+◌, ◌*◌, ℕ, suc, Bool, true, false, cond, nat_lt, List, [], ◌∷◌, All, length, take, drop, Option, Some, None, refl, sym, subst, ap, ap₂, ◌∙◌, arith}
use Rattle.std.proofs.lemmas.Bool.Decides.{nat_tests}
use Rattle.std.proofs.lemmas.Bool.{ltb-true}
use Rattle.std.proofs.lemmas.List.{length-take}
use Rattle.std.proofs.lemmas.List.Elements.{All-tail}
use Rattle.conflict_order.specs.Contents.{Record}
use Rattle.cluster_types.specs.declared.cluster_key.ClusterKey.{ClusterKey}
use Rattle.wire_messages.specs.declared.scan.ScanPage.{ScanPage}
use Rattle.node_rules.specs.Facts.{Facts}
use Rattle.request_rules.specs.declared.scanning.FirstPage.{FirstPage}
use Rattle.request_rules.specs.declared.scanning.Scanning.{Scanning}
use Rattle.request_rules.specs.declared.scanning.ScanStep.TheVariants as step
use Rattle.request_rules.specs.Scans.{IsNextPage, are_of_one_content, first_with, going_on, page_front, records_after, stands_with, step_for}
use Rattle.part_scan.specs.Cuts.{ShowsRecords, begun_at, having_read, page_behind}
use Rattle.part_scan.proofs.CutLaws.{next_page}

-- each page that is the next part gives the records up to its end
abbrev pub GivesMore : Type 0
GivesMore = (rs : List Record) → (so_far : ℕ) → (most : ℕ) → (from : ℕ) → (x : Scanning) → (page : ScanPage) → IsNextPage rs so_far most from x page → records_after x page ≡ take (so_far + most) rs

same_number : (n : ℕ) → (n == n) ≡ true
same_number n = grind (arith, nat_tests)

of_itself : (a : FirstPage) → are_of_one_content a a ≡ true
of_itself a =
    ap₂ (λ b c. b && c) (same_number a.from)
    (ap₂ (λ b c. b && c) (ap₂ (λ b c. b && c) (same_number a.key.round) (same_number a.key.principal)) (same_number a.writes))

-- the scan has the first records, and a page that tells so much can stand with its first one
record Reads (rs : List Record) (front : FirstPage) (n : ℕ) (x : Scanning) : Type 0 where
  records : x.records ≡ take n rs
  stands : stands_with front x.first ≡ true

-- what a page of such a node tells
told : (k : ClusterKey) (count from s most : ℕ) (rs : List Record) (f : Facts) (x : Scanning) → ShowsRecords rs k count x.partition f → page_front from (page_behind f s x.partition most x) ≡ record { from = from; key = k; writes = count }
told k count from s most rs f x h = ap₂ (λ (j : ClusterKey) (w : ℕ). record { from = from; key = j; writes = w }) h.key h.writes

next : (k : ClusterKey) (count from s most : ℕ) (rs : List Record) (f : Facts) (n : ℕ) (x : Scanning) → ShowsRecords rs k count x.partition f → Reads rs (record { from = from; key = k; writes = count }) n x → IsNextPage rs n most from x (page_behind f s x.partition most x)
next k count from s most rs f n x h reads =
    subst (λ (all : List Record). IsNextPage all n most from x (page_behind f s x.partition most x)) h.held
    (next_page f from s n most x (reads.records ∙ ap (λ all. take n all) (sym h.held)) (ap (λ a. stands_with a x.first) (told k count from s most rs f x h) ∙ reads.stands))

still_stands : (front page : FirstPage) (first : Option FirstPage) → page ≡ front → stands_with front first ≡ true → stands_with front (Some (first_with page first)) ≡ true
still_stands front page None e h = ap (λ a. are_of_one_content a front) e ∙ of_itself front
still_stands front page (Some first) e h = h

gone_on : GivesMore → (k : ClusterKey) (count from s most : ℕ) (rs : List Record) (f : Facts) (n : ℕ) (x : Scanning) → ShowsRecords rs k count x.partition f → Reads rs (record { from = from; key = k; writes = count }) n x → Reads rs (record { from = from; key = k; writes = count }) (n + most) (going_on from (page_behind f s x.partition most x) x)
gone_on gives_more k count from s most rs f n x h reads = record {
  records = gives_more rs n most from x (page_behind f s x.partition most x) (next k count from s most rs f n x h reads);
  stands = still_stands (record { from = from; key = k; writes = count }) (page_front from (page_behind f s x.partition most x)) x.first (told k count from s most rs f x h) reads.stands;
}

one_more : (n most m : ℕ) → n + most + m * most ≡ n + suc m * most
one_more n most m = omega arith

none_more : (n most : ℕ) → n ≡ n + 0 * most
none_more n most = omega arith

read : GivesMore → (k : ClusterKey) (count from s most : ℕ) (rs : List Record) (fs : List Facts) (n : ℕ) (x : Scanning) → All (ShowsRecords rs k count x.partition) fs → Reads rs (record { from = from; key = k; writes = count }) n x → Reads rs (record { from = from; key = k; writes = count }) (n + length fs * most) (having_read from s most x fs)
read gives_more k count from s most rs [] n x h reads =
    subst (λ m. Reads rs (record { from = from; key = k; writes = count }) m x) (none_more n most) reads
read gives_more k count from s most rs (f ∷ fs) n x h reads =
    let y = going_on from (page_behind f s x.partition most x) x in
    subst (λ m. Reads rs (record { from = from; key = k; writes = count }) m (having_read from s most y fs)) (one_more n most (length fs))
    (read gives_more k count from s most rs fs (n + most) y (All-tail (ShowsRecords rs k count x.partition) f fs h) (gone_on gives_more k count from s most rs f n x (h 0 f (omega arith)) reads))

begun : (k : ClusterKey) (count from p : ℕ) (rs : List Record) → Reads rs (record { from = from; key = k; writes = count }) 0 (begun_at p)
begun k count from p rs = record { records = refl; stands = refl }

same_partition : (from s most : ℕ) (x : Scanning) (fs : List Facts) → (having_read from s most x fs).partition ≡ x.partition
same_partition from s most x [] = refl
same_partition from s most x (f ∷ fs) = same_partition from s most (going_on from (page_behind f s x.partition most x) x) fs

from_start : GivesMore → (rs : List Record) (k : ClusterKey) (count p from s most : ℕ) (fs : List Facts) → All (ShowsRecords rs k count p) fs → Reads rs (record { from = from; key = k; writes = count }) (length fs * most) (having_read from s most (begun_at p) fs)
from_start gives_more rs k count p from s most fs h =
    subst (λ m. Reads rs (record { from = from; key = k; writes = count }) m (having_read from s most (begun_at p) fs)) (omega arith)
    (read gives_more k count from s most rs fs 0 (begun_at p) h (begun k count from p rs))

pub records_read : GivesMore → (rs : List Record) (k : ClusterKey) (count p from s most : ℕ) (fs : List Facts) → All (ShowsRecords rs k count p) fs → (having_read from s most (begun_at p) fs).records ≡ take (length fs * most) rs
records_read gives_more rs k count p from s most fs h = (from_start gives_more rs k count p from s most fs h).records

next_read : GivesMore → (rs : List Record) (k : ClusterKey) (count p from s most : ℕ) (fs : List Facts) (f : Facts) → All (ShowsRecords rs k count p) fs → ShowsRecords rs k count p f → IsNextPage rs (length fs * most) most from (having_read from s most (begun_at p) fs) (page_behind f s p most (having_read from s most (begun_at p) fs))
next_read gives_more rs k count p from s most fs f h shows =
    let x = having_read from s most (begun_at p) fs in
    let at : x.partition ≡ p = same_partition from s most (begun_at p) fs in
    subst (λ q. IsNextPage rs (length fs * most) most from x (page_behind f s q most x)) at
    (next k count from s most rs f (length fs * most) x (subst (λ q. ShowsRecords rs k count q f) (sym at) shows) (from_start gives_more rs k count p from s most fs h))

-- a page that is the next part is taken so
abbrev pub IsTakenSo : Type 0
IsTakenSo = (rs : List Record) → (so_far : ℕ) → (most : ℕ) → (from : ℕ) → (x : Scanning) → (page : ScanPage) → IsNextPage rs so_far most from x page → step_for (Some x) from page ≡ cond page.more (step.More (length page.records)) (step.Whole rs)

as_many : (most : ℕ) (xs : List Record) → nat_lt most (length xs) ≡ true → length (take most xs) ≡ most
as_many most xs h = omega (arith, length-take most xs, ltb-true most (length xs) h)

by_parts : (rs left part : List Record) (most : ℕ) (more : Bool) → more ≡ nat_lt most (length left) → part ≡ take most left → cond more (step.More (length part)) (step.Whole rs) ≡ cond (nat_lt most (length left)) (step.More most) (step.Whole rs)
by_parts rs left part most more e is =
    ap₂ (λ b (n : ℕ). cond b (step.More n) (step.Whole rs)) e (ap length is) ∙ go (nat_lt most (length left)) refl
  where
    go : (b : Bool) → nat_lt most (length left) ≡ b → cond b (step.More (length (take most left))) (step.Whole rs) ≡ cond b (step.More most) (step.Whole rs)
    go true h = ap (λ n. step.More n) (as_many most left h)
    go false h = refl

pub step_read : GivesMore → IsTakenSo → (rs : List Record) (k : ClusterKey) (count p from s most : ℕ) (fs : List Facts) (f : Facts) → All (ShowsRecords rs k count p) fs → ShowsRecords rs k count p f → step_for (Some (having_read from s most (begun_at p) fs)) from (page_behind f s p most (having_read from s most (begun_at p) fs)) ≡ cond (nat_lt most (length (drop (length fs * most) rs))) (step.More most) (step.Whole rs)
step_read gives_more taken rs k count p from s most fs f h shows =
    let x = having_read from s most (begun_at p) fs in
    let page = page_behind f s p most x in
    let is : IsNextPage rs (length fs * most) most from x page = next_read gives_more rs k count p from s most fs f h shows in
    taken rs (length fs * most) most from x page is
    ∙ by_parts rs (drop (length fs * most) rs) page.records most page.more is.more is.part
