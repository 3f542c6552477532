-- The digest of the last record.
use Rattle.std.proofs.Common.{◌≡◌, ◌-◌, ◌+◌, ◌<◌, ℕ, zero, suc, List, [], ◌∷◌, ◌++◌, length, slice_get, Some, None, refl, sym, ap, ◌∙◌, arith}
use Rattle.std.proofs.lemmas.List.{append-nil, flat_map_more}
use Rattle.conflict_order.specs.Contents.{Record}
use Rattle.request_rules.specs.Scans.{last_digest}
use Rattle.part_scan.specs.Paged.{in_one}

last_behind : (rs : List Record) (r : Record) (qs : List Record) → last_digest (rs ++ r ∷ qs) ≡ last_digest (r ∷ qs)
last_behind [] r qs = refl
last_behind (p ∷ []) r qs = refl
last_behind (p ∷ q ∷ ps) r qs = last_behind (q ∷ ps) r qs

-- the last record, by its place
last_got : (rs : List Record) (n : ℕ) (r : Record) → n + 1 ≡ length rs → slice_get rs n ≡ Some r → last_digest rs ≡ Some r.0
last_got [] n r l e = absurd (omega arith)
last_got (q ∷ []) zero r l e = let same : q ≡ r = cc in ap (λ (p : Record). Some p.0) same
last_got (q ∷ []) (suc n) r l e = absurd (omega arith)
last_got (q ∷ p ∷ rs) zero r l e = absurd (omega arith)
last_got (q ∷ p ∷ rs) (suc n) r l e = last_got (p ∷ rs) n r (omega arith) e

pub last_of_page : (rs page : List Record) (n : ℕ) (r : Record) → n ≡ length page - 1 → slice_get page n ≡ Some r → last_digest (rs ++ page) ≡ Some r.0
last_of_page rs [] n r l e = absurd (let none : slice_get {X = Record} [] n ≡ None = refl in cc)
last_of_page rs (q ∷ page) n r l e = last_behind rs q page ∙ last_got (q ∷ page) n r (omega arith) e

always : (page : List Record) (n : ℕ) → n < length page → slice_get page n ≡ None → ⊥
always [] n l e = omega arith
always (q ∷ page) zero l e = cc
always (q ∷ page) (suc n) l e = always page n (omega arith) e

-- a page without a last record
pub last_before : (rs page : List Record) (n : ℕ) → n ≡ length page - 1 → slice_get page n ≡ None → last_digest (rs ++ page) ≡ last_digest rs
last_before rs [] n l e = ap last_digest (append-nil rs)
last_before rs (q ∷ page) n l e = absurd (always (q ∷ page) n (omega arith) e)

-- the records of pages with one more
pub one_page_more : (pages : List (List Record)) (page : List Record) → in_one (pages ++ page ∷ []) ≡ in_one pages ++ page
one_page_more pages page = sym (flat_map_more (λ (p : List Record). p) [] pages page)
