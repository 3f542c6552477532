-- The index by digest and the counts by partition, as functions of the open transactions.
use Rattle.std.proofs.Common.{◌≡◌, ◌==◌, ◌+◌, ℕ, Bool, true, false, cond, not, ◌||◌, List, [], ◌∷◌, ◌++◌, length, find, drop, count_by, Option, Some, None, is_some, bytes_eq, refl, sym, ap, ◌∙◌, arith}
use Rattle.std.specs.Cmp.Lexicographic.{nat_list_eq_equiv}
use Rattle.std.specs.List.{IsDistinct, AllByRecursion}
use Rattle.std.specs.Map.{lookup, keys_of, remove_entry}
use Rattle.std.specs.Option.{option_map}
use Rattle.std.proofs.lemmas.Bool.Decides.{nat_tests}
use Rattle.std.proofs.lemmas.List.{map-append}
use Rattle.std.proofs.lemmas.List.Sums.{sum_by-append}
use Rattle.std.proofs.lemmas.Map.{lookup-insert, lookup-remove_entry, none_passes_from_lookup}
use Rattle.std.proofs.lemmas.Map.Keys.{IsDistinct-push, IsDistinct-head, IsDistinct-tail, IsDistinct-cons}
use Rattle.std.proofs.lemmas.Map.Made.{is_some-lookup}
use Rattle.std.proofs.Math.Seq.{take-length}
use Rattle.node_rules.specs.Copies.{is_of}
use Rattle.node_rules.specs.Tables.{changed_if}
use Rattle.dup_resolve.specs.declared.txn.Txn.{Txn}
use Rattle.dup_resolve.specs.Open.{number_on, has_txn_on, change_txn, txn_awaits_ack, txn_awaits_answer, txn_acknowledged, acknowledged_if, txn_answered, answered_if}
use Rattle.conflict_order.specs.declared.policy.Policy.{Policy}
use Rattle.conflict_order.specs.declared.version.Version.{Version}
use Rattle.dup_resolve.specs.Places.{txn_entries, IsIndex}

-- the index has the number of the digest's transaction
pub number_is : (ts : List Txn) (d : List ℕ) → lookup (bytes_eq d) (txn_entries ts) ≡ number_on ts d
number_is [] d = refl
number_is (t ∷ ts) d =
    let rest = number_is ts d in
    elim (bytes_eq d t.digest) as (λ b. cond b (Some t.id) (lookup (bytes_eq d) (txn_entries ts)) ≡ option_map (λ (u : Txn). u.id) (cond b (Some t) (find (λ (u : Txn). bytes_eq d u.digest) ts))) [ true ↦ refl | false ↦ rest ]

entry_changed : (f : Txn → Txn) → ((t : Txn) → ((f t).digest ≡ t.digest) × ((f t).id ≡ t.id)) → (t : Txn) (b : Bool) (es : List (List ℕ × ℕ)) → ((changed_if f t b).digest, (changed_if f t b).id) ∷ es ≡ (t.digest, t.id) ∷ es
entry_changed f same t true es = λ i. ((same t).0 i, (same t).1 i) ∷ es
entry_changed f same t false es = refl

-- a change that keeps digests and numbers keeps the entries
pub entries_changed : (f : Txn → Txn) → ((t : Txn) → ((f t).digest ≡ t.digest) × ((f t).id ≡ t.id)) → (ts : List Txn) (id : ℕ) → txn_entries (change_txn ts id f) ≡ txn_entries ts
entries_changed f same [] id = refl
entries_changed f same (t ∷ ts) id =
    let rest = entries_changed f same ts id in
    entry_changed f same t (t.id == id) (txn_entries (change_txn ts id f)) ∙ ap (λ es. (t.digest, t.id) ∷ es) rest

past_all : {A : Type 0} (xs : List A) → drop (length xs) xs ≡ []
past_all [] = refl
past_all (x ∷ xs) = past_all xs

lookup_push : (es : List (List ℕ × ℕ)) (d : List ℕ) (id : ℕ) (q : List ℕ) → lookup (bytes_eq d) es ≡ None → lookup (bytes_eq q) (es ++ (d, id) ∷ []) ≡ cond (bytes_eq d q) (Some id) (lookup (bytes_eq q) es)
lookup_push es d id q free =
    rw (take-length es, past_all es) at
    (lookup-insert nat_list_eq_equiv d id q es (length es) (none_passes_from_lookup (bytes_eq d) es free))

-- one more transaction, at a digest that has none
pub index_push : (es : List (List ℕ × ℕ)) (m n : List ℕ → Option ℕ) (d : List ℕ) (id : ℕ) → IsIndex es m → lookup (bytes_eq d) es ≡ None
    → ((q : List ℕ) → n q ≡ cond (bytes_eq d q) (Some id) (m q)) → IsIndex (es ++ (d, id) ∷ []) n
index_push es m n d id h free step = record {
  agrees = λ q. step q ∙ ap (λ o. cond (bytes_eq d q) (Some id) o) (h.agrees q) ∙ sym (lookup_push es d id q free);
  distinct =
      rw (map-append (λ (e : List ℕ × ℕ). e.0) es ((d, id) ∷ []))
      (IsDistinct-push nat_list_eq_equiv (keys_of es) d h.distinct (sym (is_some-lookup (bytes_eq d) es) ∙ ap is_some free));
}

kept : (test : List ℕ → Bool) (P : List ℕ → Type 0) (es : List (List ℕ × ℕ)) → AllByRecursion P (keys_of es) → AllByRecursion P (keys_of (remove_entry test es))
kept test P [] h = h
kept test P (e ∷ es) h =
    let rest = kept test P es h.1 in
    elim (test e.0) as (λ b. AllByRecursion P (keys_of (cond b es (e ∷ remove_entry test es)))) [ true ↦ h.1 | false ↦ (h.0, rest) ]

distinct_removed : (test : List ℕ → Bool) (es : List (List ℕ × ℕ)) → IsDistinct bytes_eq (keys_of es) → IsDistinct bytes_eq (keys_of (remove_entry test es))
distinct_removed test [] h = h
distinct_removed test (e ∷ es) h =
    let first = IsDistinct-head bytes_eq e.0 (keys_of es) h in
    let tail = IsDistinct-tail bytes_eq e.0 (keys_of es) h in
    let rest = distinct_removed test es tail in
    elim (test e.0) as (λ b. IsDistinct bytes_eq (keys_of (cond b es (e ∷ remove_entry test es)))) [
      | true ↦ tail
      | false ↦ IsDistinct-cons bytes_eq e.0 (keys_of (remove_entry test es)) (kept test (λ y. bytes_eq e.0 y ≡ false) es first) rest
    ]

-- one transaction less
pub index_remove : (es : List (List ℕ × ℕ)) (m n : List ℕ → Option ℕ) (d : List ℕ) → IsIndex es m → ((q : List ℕ) → n q ≡ cond (bytes_eq d q) None (m q)) → IsIndex (remove_entry (bytes_eq d) es) n
index_remove es m n d h step = record {
  agrees =
      λ q. step q
      ∙ ap (λ o. cond (bytes_eq d q) None o) (h.agrees q)
      ∙ sym (lookup-remove_entry nat_list_eq_equiv (bytes_eq d) (nat_list_eq_equiv.congr d) q es h.distinct);
  distinct = distinct_removed (bytes_eq d) es h.distinct;
}

busy_step : (p : ℕ) (ts : List Txn) (n : ℕ) (b : Bool) → n ≡ (0 + cond b 1 0) + count_by (is_of p) (keys_of (txn_entries ts))
    → ((m : ℕ) → m ≡ count_by (is_of p) (keys_of (txn_entries ts)) → not (m == 0) ≡ has_txn_on ts p) → not (n == 0) ≡ (b || has_txn_on ts p)
busy_step p ts n true e rest = grind (arith, nat_tests)
busy_step p ts n false e rest = rest n (omega (arith, e))

-- a partition is busy where its count isn't 0
pub busy_is : (p : ℕ) (ts : List Txn) (n : ℕ) → n ≡ count_by (is_of p) (keys_of (txn_entries ts)) → not (n == 0) ≡ has_txn_on ts p
busy_is p [] n e = grind (arith, nat_tests)
busy_is p (t ∷ ts) n e = busy_step p ts n (is_of p t.digest) (e ∙ sum_by-append (λ (d : List ℕ). cond (is_of p d) 1 0) (t.digest ∷ []) (keys_of (txn_entries ts))) (busy_is p ts)

entry_kept : (f : Txn → Txn) → ((t : Txn) → ((f t).digest ≡ t.digest) × ((f t).id ≡ t.id)) → (t : Txn) (b : Bool) → ((changed_if f t b).digest ≡ t.digest) × ((changed_if f t b).id ≡ t.id)
entry_kept f same t true = same t
entry_kept f same t false = (refl, refl)

pub acknowledged_entry : (from : ℕ) (t : Txn) → ((acknowledged_if from t).digest ≡ t.digest) × ((acknowledged_if from t).id ≡ t.id)
acknowledged_entry from t = entry_kept (txn_acknowledged from) (λ u. (refl, refl)) t
    (txn_awaits_ack t from)

pub answered_entry : (by : Policy) (from : ℕ) (v : Option Version) (t : Txn) → ((answered_if by from v t).digest ≡ t.digest) × ((answered_if by from v t).id ≡ t.id)
answered_entry by from v t = entry_kept (txn_answered by from v) (λ u. (refl, refl)) t (txn_awaits_answer t from)
