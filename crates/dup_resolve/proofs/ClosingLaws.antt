-- What index and counts are of, once a transaction was opened or closed.
use Rattle.std.proofs.Common.{◌≡◌, ◌==◌, ◌<◌, ◌≤◌, ◌+◌, ◌-◌, ℕ, suc, Bool, true, false, cond, not, ◌||◌, List, [], ◌∷◌, ◌++◌, AllPairs, length, get_or, slice_index, slice_set, Option, Some, None, Result, Ok, Err, OnOk, IsOk, bytes_eq, refl, sym, ap, subst, ◌∙◌, arith}
use Rattle.std.specs.Cmp.Lexicographic.{nat_list_eq_equiv}
use Rattle.std.specs.List.{IsDistinct, AllByRecursion, list_any}
use Rattle.std.specs.Map.{lookup, keys_of, remove_entry}
use Rattle.std.proofs.lemmas.Bool.Decides.{nat_tests}
use Rattle.std.proofs.lemmas.List.{map-append}
use Rattle.std.proofs.lemmas.Map.Keys.{IsDistinct-head, IsDistinct-tail}
use Rattle.std.proofs.lemmas.Bool.{or_right as either}
use Rattle.cluster_types.specs.Partitions.{partition_count, partition_of}
use Rattle.dup_resolve.specs.declared.txn.Txn.{Txn}
use Rattle.dup_resolve.specs.Open.{without_txn, txn_digest_at, txn_digest, number_on, txn_at}
use Rattle.dup_resolve.specs.Places.{AreOpenCounts, AreRisingUpTo, IsIndex, txn_entries, room_of}
use Rattle.dup_resolve.proofs.CountLaws.{counts_push, counts_remove, counts_some}
use Rattle.dup_resolve.proofs.IndexLaws.{index_push, index_remove, number_is}
use Rattle.dup_resolve.proofs.SlotLaws.{closing_missing}

some_txn : (t u : Txn) → Some t ≡ Some u → t ≡ u
some_txn t u e = cc

-- ---- a transaction that is closed

later_step : (d : List ℕ) (t u : Txn) (found : Option Txn) (b : Bool) → bytes_eq d t.digest ≡ false → (found ≡ Some u → bytes_eq d u.digest ≡ false) → cond b (Some t) found ≡ Some u → bytes_eq d u.digest ≡ false
later_step d t u found true here later e = subst (λ (x : Txn). bytes_eq d x.digest ≡ false) (some_txn t u e) here
later_step d t u found false here later e = later e

-- a digest that none of them has isn't the digest of the one that is found
apart_found : (d : List ℕ) (ts : List Txn) (id : ℕ) (u : Txn) → AllByRecursion (λ y. bytes_eq d y ≡ false) (keys_of (txn_entries ts)) → txn_at ts id ≡ Some u → bytes_eq d u.digest ≡ false
apart_found d [] id u apart e = cc e
apart_found d (t ∷ ts) id u apart e = later_step d t u (txn_at ts id) (t.id == id) apart.0 (apart_found d ts id u apart.1) e

same_number : (a b : ℕ) → (a == b) ≡ true → a ≡ b
same_number a b e = grind (arith, nat_tests)

other_number : (a b : ℕ) → b < a → (a == b) ≡ false
other_number a b l = grind (arith, nat_tests)

-- a number below all of theirs is no transaction's
none_above : (id : ℕ) (ts : List Txn) → ((i : ℕ) (d : Txn) → i < length ts → id < (get_or ts i d).id) → txn_at ts id ≡ None
none_above id [] above = refl
none_above id (t ∷ ts) above =
    ap (λ b. cond b (Some t) (txn_at ts id)) (other_number t.id id (above 0 t (omega arith)))
    ∙ none_above id ts (λ i d within. above (suc i) d (omega (arith, within)))

closed_step : (t u : Txn) (ts : List Txn) (id : ℕ) (b : Bool) → (b ≡ true → without_txn ts id ≡ ts)
    → (txn_at ts id ≡ Some u → (bytes_eq u.digest t.digest ≡ false) × (txn_entries (without_txn ts id) ≡ remove_entry (bytes_eq u.digest) (txn_entries ts)))
    → cond b (Some t) (txn_at ts id) ≡ Some u
    → txn_entries (cond (not b) (t ∷ without_txn ts id) (without_txn ts id)) ≡ remove_entry (bytes_eq u.digest) (txn_entries (t ∷ ts))
closed_step t u ts id true same later e =
    let its : bytes_eq u.digest t.digest ≡ true = subst (λ (x : Txn). bytes_eq x.digest t.digest ≡ true) (some_txn t u e) (nat_list_eq_equiv.refl t.digest) in
    ap txn_entries (same refl)
    ∙ sym (ap (λ b. cond b (txn_entries ts) ((t.digest, t.id) ∷ remove_entry (bytes_eq u.digest) (txn_entries ts))) its)
closed_step t u ts id false same later e =
    let rest = later e in
    ap (λ (es : List (List ℕ × ℕ)). (t.digest, t.id) ∷ es) rest.1
    ∙ sym (ap (λ b. cond b (txn_entries ts) ((t.digest, t.id) ∷ remove_entry (bytes_eq u.digest) (txn_entries ts))) rest.0)

entries_closing : (ts : List Txn) (id : ℕ) (u : Txn) → AllPairs (λ (x y : Txn). x.id < y.id) ts → IsDistinct bytes_eq (keys_of (txn_entries ts)) → txn_at ts id ≡ Some u → txn_entries (without_txn ts id) ≡ remove_entry (bytes_eq u.digest) (txn_entries ts)
entries_closing [] id u rising distinct e = cc e
entries_closing (t ∷ ts) id u rising distinct e =
    let above : t.id ≡ id → (i : ℕ) (d : Txn) → i < length ts → id < (get_or ts i d).id
    = λ is i d within. subst (λ (n : ℕ). n < (get_or ts i d).id) is (rising 0 (suc i) d (omega arith) (omega (arith, within))) in
    closed_step t u ts id (t.id == id)
    (λ is. closing_missing ts id (none_above id ts (above (same_number t.id id is))))
    (λ found. (
      nat_list_eq_equiv.symm u.digest t.digest ∙ apart_found t.digest ts id u (IsDistinct-head bytes_eq t.digest (keys_of (txn_entries ts)) distinct) found,
      entries_closing ts id u (λ i j d lower within. rising (suc i) (suc j) d (omega (arith, lower)) (omega (arith, within))) (IsDistinct-tail bytes_eq t.digest (keys_of (txn_entries ts)) distinct) found,
    ))
    e

some_digest : (d e : List ℕ) → Some d ≡ Some e → d ≡ e
some_digest d e same = cc

found_with : (o : Option Txn) (d : List ℕ) → Some d ≡ txn_digest o → (u : Txn) × (o ≡ Some u) × (u.digest ≡ d)
found_with None d e = cc e
found_with (Some u) d e = (u, refl, sym (some_digest d u.digest e))

key_step : (t u : Txn) (found : Option Txn) (any : Bool) (b : Bool) → (found ≡ Some u → any ≡ true) → cond b (Some t) found ≡ Some u → (bytes_eq u.digest t.digest || any) ≡ true
key_step t u found any true later e =
    ap (λ b. b || any) (subst (λ (x : Txn). bytes_eq x.digest t.digest ≡ true) (some_txn t u e) (nat_list_eq_equiv.refl t.digest))
key_step t u found any false later e = either (bytes_eq u.digest t.digest) any (later e)

found_key : (ts : List Txn) (id : ℕ) (u : Txn) → txn_at ts id ≡ Some u → list_any (bytes_eq u.digest) (keys_of (txn_entries ts)) ≡ true
found_key [] id u e = cc e
found_key (t ∷ ts) id u e = key_step t u (txn_at ts id) (list_any (bytes_eq u.digest) (keys_of (txn_entries ts))) (t.id == id) (found_key ts id u) e

-- what stands of index and counts once the transaction of that number and digest is closed
pub record IsClosed (ts : List Txn) (id : ℕ) (d : List ℕ) (m : List ℕ → Option ℕ) (numbers : List ℕ) : Type 0 where
  pub some : (p : ℕ) → p ≡ partition_of d → 0 < slice_index numbers p
  pub index : (us : List Txn) (n : List ℕ → Option ℕ) → us ≡ without_txn ts id → ((q : List ℕ) → n q ≡ cond (bytes_eq d q) None (m q)) → IsIndex (txn_entries us) n
  pub counts : (us : List Txn) (others : List ℕ) (p : ℕ) → us ≡ without_txn ts id → p ≡ partition_of d → others ≡ slice_set numbers p (slice_index numbers p - 1) → AreOpenCounts (txn_entries us) others

pub closed : (last : ℕ) (ts : List Txn) (id : ℕ) (d : List ℕ) (m : List ℕ → Option ℕ) (numbers : List ℕ) → AreRisingUpTo last ts → IsIndex (txn_entries ts) m → AreOpenCounts (txn_entries ts) numbers → Some d ≡ txn_digest_at ts id → IsClosed ts id d m numbers
closed last ts id d m numbers rising known held e =
    let found = found_with (txn_at ts id) d e in
    let left : txn_entries (without_txn ts id) ≡ remove_entry (bytes_eq d) (txn_entries ts)
    = entries_closing ts id found.0 rising.rising known.distinct found.1 ∙ ap (λ (k : List ℕ). remove_entry (bytes_eq k) (txn_entries ts)) found.2 in
    let there : list_any (bytes_eq d) (keys_of (txn_entries ts)) ≡ true
    = subst (λ (k : List ℕ). list_any (bytes_eq k) (keys_of (txn_entries ts)) ≡ true) found.2 (found_key ts id found.0 found.1) in
    record {
      some = λ p of. subst (λ (q : ℕ). 0 < slice_index numbers q) (sym of) (counts_some (txn_entries ts) numbers d held there);
      index = λ us n same step. subst (λ (es : List (List ℕ × ℕ)). IsIndex es n) (sym (ap txn_entries same ∙ left)) (index_remove (txn_entries ts) m n d known step);
      counts =
          λ us others p same of are. subst (λ (ns : List ℕ). AreOpenCounts (txn_entries us) ns) (sym (are ∙ ap (λ (q : ℕ). slice_set numbers q (slice_index numbers q - 1)) of))
          (subst (λ (es : List (List ℕ × ℕ)). AreOpenCounts es (slice_set numbers (partition_of d) (slice_index numbers (partition_of d) - 1))) (sym (ap txn_entries same ∙ left)) (counts_remove (txn_entries ts) numbers d held there));
    }

-- ---- a transaction that is opened

entries_push : (ts : List Txn) (t : Txn) → txn_entries (ts ++ t ∷ []) ≡ txn_entries ts ++ (t.digest, t.id) ∷ []
entries_push ts t = map-append (λ (u : Txn). (u.digest, u.id)) ts (t ∷ [])

-- what stands of index and counts once a transaction is opened on a digest that has none
pub index_opened : (ts us : List Txn) (t : Txn) (m n : List ℕ → Option ℕ) → None ≡ number_on ts t.digest → us ≡ ts ++ t ∷ [] → ((q : List ℕ) → n q ≡ cond (bytes_eq t.digest q) (Some t.id) (m q)) → IsIndex (txn_entries ts) m → IsIndex (txn_entries us) n
index_opened ts us t m n free same step known =
    subst (λ (es : List (List ℕ × ℕ)). IsIndex es n) (sym (ap txn_entries same ∙ entries_push ts t)) (index_push (txn_entries ts) m n t.digest t.id known (number_is ts t.digest ∙ sym free) step)

pub counts_opened : (ts us : List Txn) (t : Txn) (numbers others : List ℕ) (p : ℕ) → partition_count ≤ length numbers → us ≡ ts ++ t ∷ [] → p ≡ partition_of t.digest → others ≡ slice_set numbers p (slice_index numbers p + 1) → AreOpenCounts (txn_entries ts) numbers → AreOpenCounts (txn_entries us) others
counts_opened ts us t numbers others p room same of are held =
    subst (λ (ns : List ℕ). AreOpenCounts (txn_entries us) ns) (sym (are ∙ ap (λ (q : ℕ). slice_set numbers q (slice_index numbers q + 1)) of))
    (subst (λ (es : List (List ℕ × ℕ)). AreOpenCounts es (slice_set numbers (partition_of t.digest) (slice_index numbers (partition_of t.digest) + 1))) (sym (ap txn_entries same ∙ entries_push ts t)) (counts_push (txn_entries ts) numbers t.digest t.id room held))

-- ---- the same transactions, in other room

pub same_index : (ts us : List Txn) (m n : List ℕ → Option ℕ) → us ≡ ts → ((q : List ℕ) → n q ≡ m q) → IsIndex (txn_entries ts) m → IsIndex (txn_entries us) n
same_index ts us m n same step index = record {
  agrees = λ q. step q ∙ index.agrees q ∙ ap (λ (xs : List Txn). lookup (bytes_eq q) (txn_entries xs)) (sym same);
  distinct = subst (λ (xs : List Txn). IsDistinct bytes_eq (keys_of (txn_entries xs))) (sym same) index.distinct;
}

pub same_counts : (ts us : List Txn) (numbers others : List ℕ) → us ≡ ts → ((p : ℕ) → slice_index others p ≡ slice_index numbers p) → AreOpenCounts (txn_entries ts) numbers → AreOpenCounts (txn_entries us) others
same_counts ts us numbers others same step counts =
    subst (λ (xs : List Txn). AreOpenCounts (txn_entries xs) others) (sym same) (record { at = λ p within. step p ∙ counts.at p within })

-- what holds of a success holds where there is one
pub on_ok : {T E : Type 0} (r : Result T E) (P : Type 0) → OnOk r P → IsOk r → P
on_ok (Ok x) P h ok = h
on_ok (Err e) P h ok = cc ok

-- ---- room

-- where there is room for a transaction, there is room in each part
pub room_in_each : (a b c s : ℕ) → room_of a b c ≡ s → 0 < s → (0 < a) × (0 < b) × (partition_count ≤ c)
room_in_each a b c s e some = (omega (arith, e, some), omega (arith, e, some), omega (arith, e, some))
