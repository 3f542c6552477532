-- A view as it is entered.
use Rattle.std.proofs.Common.{◌≡◌, ◌≢◌, ◌==◌, ◌<◌, ◌||◌, ℕ, Bool, true, false, List, [], ◌∷◌, length, find, is_none, refl, sym, ◌∙◌, arith}
use Rattle.std.proofs.lemmas.Bool.Decides.{nat_tests}
use Rattle.cluster_types.specs.declared.member.Member.{Member}
use Rattle.cluster_types.specs.Copies.{state_of_copy}
use Rattle.cluster_types.specs.Members.{AreMembers, ids_of}
use Rattle.cluster_types.specs.Partitions.{partition_count}
use Rattle.cluster_types.specs.StateRows.{IsStateRow, state_of}
use Rattle.partition_lists.proofs.InOrderLaws.{equal, from_equal, unequal}
use Rattle.record_store.specs.Store as held
use Rattle.record_store.proofs.SameRows.{same_rows}
use Rattle.node_rules.specs.Agreement.{others_among}
use Rattle.node_rules.specs.Copies.{Row}
use Rattle.node_rules.specs.Exchange.{first_missing, is_member, is_single}
use Rattle.node_rules.specs.Map.{lacks}
use Rattle.node_rules.proofs.Partitions.{row_tells, row_is_row}
use Rattle.node_view.specs.Views.{store_row, store_of}

-- the row of a store
pub row_is_own : (s : held.StoreWithRoom) (row : Row) → IsStateRow row → ((p : ℕ) → p < partition_count → state_of row p ≡ state_of_copy s.versions s.stamps p) → row ≡ store_row s
row_is_own s row valid tells =
    same_rows row (store_row s) valid (row_is_row (store_of s) partition_count (omega arith))
    (λ p within. tells p within ∙ sym (row_tells (store_of s) partition_count p within))

-- ---- a member alone

lacks_other : (me n : ℕ) (row : Row) → me ≢ n → lacks (record { node = me; row = row } ∷ []) n ≡ true
lacks_other me n row other = let e : (me == n) ≡ false = grind (arith, nat_tests) in rw e refl

has_own : (me n : ℕ) (row : Row) → me ≡ n → lacks (record { node = me; row = row } ∷ []) n ≡ false
has_own me n row same = let e : (me == n) ≡ true = grind (arith, nat_tests) in rw e refl

-- a test that some item passes
finds_first : (test : ℕ → Bool) (n : ℕ) (ns : List ℕ) → test n ≡ true → is_none (find test (n ∷ ns)) ≡ false
finds_first test n ns e = rw e refl

finds_second : (test : ℕ → Bool) (n m : ℕ) (ns : List ℕ) → test m ≡ true → is_none (find test (n ∷ m ∷ ns)) ≡ false
finds_second test n m ns e = go (test n) refl
  where
    go : (b : Bool) → test n ≡ b → is_none (find test (n ∷ m ∷ ns)) ≡ false
    go true i = rw i refl
    go false i = rw (i, e) refl

two_are_not_single : (m k : Member) (ms : List Member) → is_single (m ∷ k ∷ ms) ≡ false
two_are_not_single m k ms = unequal (length (m ∷ k ∷ ms)) 1 (λ (e : length (m ∷ k ∷ ms) ≡ 1). omega (arith, e))

-- with its own row a node lacks none exactly where it is alone
pub alone_lacks_none : (me : ℕ) (row : Row) (ms : List Member) → AreMembers ms → is_member ms me ≡ true
    → is_none (first_missing (record { node = me; row = row } ∷ []) ms) ≡ is_single ms
alone_lacks_none me row [] valid member = cc
alone_lacks_none me row (m ∷ []) valid member = only (m.id == me) refl
  where
    only : (b : Bool) → (m.id == me) ≡ b → is_none (first_missing (record { node = me; row = row } ∷ []) (m ∷ [])) ≡ true
    only true e = let same : me ≡ m.id = grind (arith, nat_tests) in let h = has_own me m.id row same in rw h refl
    only false e = absurd (let h : (m.id == me || false) ≡ true = member in cc)
alone_lacks_none me row (m ∷ k ∷ ms) valid member = at (me == m.id) refl ∙ sym (two_are_not_single m k ms)
  where
    falls : k.id < m.id
    falls = valid.descending.falls 0 1 0 (omega arith) (omega arith)

    at : (b : Bool) → (me == m.id) ≡ b → is_none (first_missing (record { node = me; row = row } ∷ []) (m ∷ k ∷ ms)) ≡ false
    at true e = finds_second (lacks (record { node = me; row = row } ∷ [])) m.id k.id (ids_of ms) (lacks_other me k.id row (λ (i : me ≡ k.id). let same : me ≡ m.id = from_equal me m.id e in omega (arith, falls, same, i)))
    at false e = finds_first (lacks (record { node = me; row = row } ∷ [])) m.id (ids_of (k ∷ ms)) (lacks_other me m.id row (λ (i : me ≡ m.id). let wrong : true ≡ false = sym (equal me m.id i) ∙ e in cc))

-- and then there are no others
pub alone_has_no_others : (me : ℕ) (ms : List Member) → is_member ms me ≡ true → is_single ms ≡ true → others_among me ms ≡ []
alone_has_no_others me [] member single = refl
alone_has_no_others me (m ∷ []) member single = only (m.id == me) refl
  where
    only : (b : Bool) → (m.id == me) ≡ b → others_among me (m ∷ []) ≡ []
    only true e = rw e refl
    only false e = absurd (let h : (m.id == me || false) ≡ true = member in cc)
alone_has_no_others me (m ∷ k ∷ ms) member single = absurd (let wrong : false ≡ true = sym (two_are_not_single m k ms) ∙ single in cc)
