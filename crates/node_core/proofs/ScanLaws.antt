-- Why a node has no page of a partition, and the records of a page.
use Rattle.std.proofs.Common.{◌≡◌, ℕ, Bool, true, false, cond, ◌||◌, List, [], ◌∷◌, ◌+◌, ◌≤◌, zero, suc, Option, Some, None, find, map, min, nat_lt, take, length, length-take, option_map, refl, ap, ap₂, ◌∙◌, arith}
use Rattle.std.specs.FinMap.{get}
use Rattle.std.specs.List.{list_any}
use Rattle.std.proofs.lemmas.Bool.{lt-ltb, ltb-true, ltb_from_iff}
use Rattle.conflict_order.specs.Contents.{Content, Record}
use Rattle.conflict_order.specs.declared.version.Version.{Version}
use Rattle.cluster_types.specs.Copies.{is_of}
use Rattle.wire_messages.specs.declared.scan.ScanRefusal.TheVariants as unserved
use Rattle.dup_resolve.specs.declared.txn.Txn.{Txn}
use Rattle.node_rules.specs.Batches.{records_of}
use Rattle.node_rules.specs.Facts.{Facts, list_at}
use Rattle.node_rules.specs.Standing.{acts, knows_settled}
use Rattle.node_rules.specs.Transactions.{Transaction, Transactions}
use Rattle.request_rules.specs.declared.scanning.Page.{Page}
use Rattle.request_rules.specs.Pages.{acting_scan_refusal, digests_behind, open_refusal, page_from, settled_refusal}
use Rattle.emigrate.proofs.FirstLaws.{all_taken}
use Rattle.record_store.specs.Store.{digests_above}
use Rattle.node_steps.proofs.ViewLaws.{transactions_are}
use Rattle.node_view.specs.Transactions.{kept_of}
use Rattle.node_view.specs.Views.{IsInView, Viewed, facts_seen}

-- ---- the first open transaction

pub none_found : {X : Type 0} (test : X → Bool) (xs : List X) → list_any test xs ≡ false → find test xs ≡ None
none_found test [] none = refl
none_found test (x ∷ xs) none = go (test x) (none_found test xs) none
  where
    go : (b : Bool) → (list_any test xs ≡ false → find test xs ≡ None) → (b || list_any test xs) ≡ false → cond b (Some x) (find test xs) ≡ None
    go true rest e = cc
    go false rest e = rest e

-- the number of the first one, as it is kept and as the rules know it
first_number : (p : ℕ) (ts : List Transaction) → option_map (λ (t : Txn). t.id) (find (λ t. is_of p t.digest) (map kept_of ts)) ≡ option_map (λ (t : Transaction). t.number) (find (λ t. is_of p t.digest) ts)
first_number p [] = refl
first_number p (t ∷ ts) = go (is_of p t.digest) (first_number p ts)
  where
    kept : Option Txn
    kept = find (λ u. is_of p u.digest) (map kept_of ts)

    known : Option Transaction
    known = find (λ u. is_of p u.digest) ts

    go : (b : Bool) → option_map (λ (u : Txn). u.id) kept ≡ option_map (λ (u : Transaction). u.number) known
        → option_map (λ (u : Txn). u.id) (cond b (Some (kept_of t)) kept) ≡ option_map (λ (u : Transaction). u.number) (cond b (Some t) known)
    go true rest = refl
    go false rest = rest

by_number : (o : Option Transaction) → option_map unserved.Open (option_map (λ (t : Transaction). t.number) o) ≡ open_refusal o
by_number None = refl
by_number (Some t) = refl

-- ---- refusals

-- a node that acts and knows the partition settled has no page where a transaction is open on it
pub refused_open : (f : Facts) (v : Viewed) (p : ℕ) (running : List Txn) (number : Option ℕ) → IsInView f v → true ≡ acts f (list_at f p) p → true ≡ knows_settled (facts_seen v) p
    → running ≡ map kept_of v.transactions.running → number ≡ option_map (λ (t : Txn). t.id) (find (λ t. is_of p t.digest) running)
    → option_map unserved.Open number ≡ acting_scan_refusal f p (acts f (list_at f p) p)
refused_open f v p running number h acting settled kept first =
    let known : true ≡ knows_settled f p = settled ∙ ap (λ (g : Facts). knows_settled g p) h.view in
    let ts : List Transaction = f.transactions.running in
    let shown : running ≡ map kept_of ts = kept ∙ ap (λ (all : Transactions). map kept_of all.running) (transactions_are f v h) in
    ap (option_map unserved.Open) (first ∙ ap (λ (all : List Txn). option_map (λ (t : Txn). t.id) (find (λ t. is_of p t.digest) all)) shown ∙ first_number p ts)
    ∙ by_number (find (λ t. is_of p t.digest) ts)
    ∙ ap (settled_refusal f p) known
    ∙ ap (acting_scan_refusal f p) acting

-- ---- a page

-- the record of a digest that is held, and no record where it isn't
pub one_held : (content : Content) (d : List ℕ) (v : Version) → get content d ≡ Some v → records_of content (d ∷ []) ≡ (d, v) ∷ []
one_held content d v is = rw is refl

pub none_held : (content : Content) (d : List ℕ) → get content d ≡ None → records_of content (d ∷ []) ≡ []
none_held content d is = rw is refl

-- the store's word for the digests above one is that of the rules
pub above_is : (after : Option (List ℕ)) (ds : List (List ℕ)) → digests_above after ds ≡ digests_behind after ds
above_is None ds = refl
above_is (Some d) ds = refl

take_of : {X : Type 0} (k n : ℕ) (xs : List X) → k ≤ n → take k (take n xs) ≡ take k xs
take_of zero n xs le = refl
take_of (suc k) zero xs le = absurd (omega (arith, le))
take_of (suc k) (suc n) [] le = refl
take_of (suc k) (suc n) (x ∷ xs) le = ap (λ ys. x ∷ ys) (take_of k n xs (omega (arith, le)))

abbrev made : List Record → Bool → Page
made rs b = record { records = rs; more = b }

-- the first of one digest more than the page may have, and whether the page leaves that one out, make the page
pub page_shown : (f : Facts) (all ds : List (List ℕ)) (most limit count shown : ℕ) (records : List Record) → limit ≡ most → count ≡ length ds → ds ≡ take (limit + 1) all → shown ≡ min count limit
    → records ≡ records_of f.store.content (take shown ds) → ◌≡◌ {A = Page} (record { records = records; more = nat_lt limit count }) (page_from f all most)
page_shown f all ds most limit count shown records limited counted looked fewest are =
    let size : length ds ≡ min (limit + 1) (length all) = ap length looked ∙ length-take (limit + 1) all in
    let low : min most (length all) ≤ shown = omega (arith, limited, counted, fewest, size) in
    let high : shown ≤ most = omega (arith, limited, fewest) in
    let within : shown ≤ limit + 1 = omega (arith, limited, high) in
    let first : take shown ds ≡ take most all = ap (take shown) looked ∙ take_of shown (limit + 1) all within ∙ all_taken all shown most low high in
    let more : nat_lt limit count ≡ nat_lt most (length all) =
    ltb_from_iff ((λ h. omega (arith, ltb-true limit count h, limited, counted, size)), (λ h. lt-ltb limit count (omega (arith, h, limited, counted, size)))) in
    ap₂ made (are ∙ ap (records_of f.store.content) first) more
