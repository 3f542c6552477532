-- Records by their numbers.
use Rattle.std.proofs.Common.{◌≡◌, ℕ, zero, suc, ◌<◌, Bool, true, false, cond, List, [], ◌∷◌, ◌++◌, length, get_or, Option, Some, None, option_map, refl, sym, ap, subst, ◌∙◌, arith}
use Rattle.std.specs.Prelude.{slice_get, slice_set, nat_eq, bytes_eq, IsSome, is_some}
use Rattle.std.proofs.lemmas.Bool.Decides.{nat_tests}
use Rattle.std.proofs.lemmas.Option.{slice_get_within, get_or_from_slice_get}
use Rattle.std.proofs.lemmas.Slice.Eq.{bytes_eq-Decides}
use Rattle.audit_state.specs.declared.records.Record.{Record}
use Rattle.audit_state.specs.declared.records.Records.{Records}
use Rattle.audit_state.specs.Records.{record_number, numbered_record, record_digest, newest_in, newest_of, holders_in, holders_of, AreNumberedRecords, Opens}
use Rattle.audit_state.proofs.Tests.{differ, some_same, no_some}

-- ---- lists by number

same_suc : (n m : ℕ) → nat_eq (suc n) (suc m) ≡ nat_eq n m
same_suc n m = grind (arith, nat_tests)

zero_suc : (m : ℕ) → nat_eq zero (suc m) ≡ false
zero_suc m = grind (arith, nat_tests)

suc_zero : (m : ℕ) → nat_eq (suc m) zero ≡ false
suc_zero m = grind (arith, nat_tests)

pub apart : (n m : ℕ) → n < m → nat_eq m n ≡ false
apart n m e = grind (arith, nat_tests)

pub number_is : (n m : ℕ) → nat_eq n m ≡ true → n ≡ m
number_is n m e = grind (arith, nat_tests)

pub itself : (n : ℕ) → nat_eq n n ≡ true
itself n = grind (arith, nat_tests)

pub get_push : {A : Type 0} (xs : List A) (x : A) (q : ℕ) → slice_get (xs ++ x ∷ []) q ≡ cond (nat_eq (length xs) q) (Some x) (slice_get xs q)
get_push {A} [] x zero = ap (λ (b : Bool). cond b (Some x) None) (sym (itself 0))
get_push {A} [] x (suc q) = ap (λ (b : Bool). cond b (Some x) None) (sym (zero_suc q))
get_push {A} (y ∷ xs) x zero = ap (λ (b : Bool). cond b (Some x) (Some y)) (sym (suc_zero (length xs)))
get_push {A} (y ∷ xs) x (suc q) = get_push xs x q ∙ ap (λ (b : Bool). cond b (Some x) (slice_get xs q)) (sym (same_suc (length xs) q))

-- what a new item leaves as it was where there is none
pub kept_push : {A B : Type 0} (f : Option A → B) (xs : List A) (x : A) → f (Some x) ≡ f None → (q : ℕ) → f (slice_get (xs ++ x ∷ []) q) ≡ f (slice_get xs q)
kept_push {A} {B} f [] x e zero = e
kept_push {A} {B} f [] x e (suc q) = refl
kept_push {A} {B} f (y ∷ xs) x e zero = refl
kept_push {A} {B} f (y ∷ xs) x e (suc q) = kept_push f xs x e q

pub get_set : {A B : Type 0} (f : Option A → B) (xs : List A) (i : ℕ) (w : A) → IsSome (slice_get xs i) → (q : ℕ) → f (slice_get (slice_set xs i w) q) ≡ cond (nat_eq i q) (f (Some w)) (f (slice_get xs q))
get_set {A} {B} f [] i w e q = absurd (none_some e)
  where
    none_some : IsSome {T = A} None → ⊥
    none_some h = differ h refl
get_set {A} {B} f (y ∷ xs) zero w e zero = ap (λ (b : Bool). cond b (f (Some w)) (f (Some y))) (sym (itself 0))
get_set {A} {B} f (y ∷ xs) zero w e (suc q) = ap (λ (b : Bool). cond b (f (Some w)) (f (slice_get xs q))) (sym (zero_suc q))
get_set {A} {B} f (y ∷ xs) (suc i) w e zero = ap (λ (b : Bool). cond b (f (Some w)) (f (Some y))) (sym (suc_zero i))
get_set {A} {B} f (y ∷ xs) (suc i) w e (suc q) = get_set f xs i w e q ∙ ap (λ (b : Bool). cond b (f (Some w)) (f (slice_get xs q))) (sym (same_suc i q))

through : {A B : Type 0} (f : A → B) (b : Bool) (x y : A) → f (cond b x y) ≡ cond b (f x) (f y)
through {A} {B} f true x y = refl
through {A} {B} f false x y = refl

-- ---- a new record

-- the new record stands behind all others, and has its number
pub record Adds (old new : Records) (d : List ℕ) : Type 0 where
  pub known : new.known.items ≡ old.known.items ++ record { digest = d; newest = None; holders = 0 } ∷ []
  pub numbers : (e : List ℕ) → record_number new e ≡ cond (bytes_eq d e) (Some (length old.known.items)) (record_number old e)

module _ (old new : Records) (d : List ℕ) (adds : Adds old new d) where
  new_record : Record
  new_record = record { digest = d; newest = None; holders = 0 }

  at : (q : ℕ) → numbered_record new q ≡ cond (nat_eq (length old.known.items) q) (Some new_record) (numbered_record old q)
  unfolding new_record
  at q = ap (λ (xs : List Record). slice_get xs q) adds.known ∙ get_push old.known.items new_record q

  digests_at : (q : ℕ) → record_digest new q ≡ cond (nat_eq (length old.known.items) q) (Some d) (record_digest old q)
  unfolding new_record
  digests_at q = ap (option_map (λ (x : Record). x.digest)) (at q) ∙ through (option_map (λ (x : Record). x.digest)) (nat_eq (length old.known.items) q) (Some new_record) (numbered_record old q)

  number_here : record_number new d ≡ Some (length old.known.items)
  number_here = adds.numbers d ∙ ap (λ (b : Bool). cond b (Some (length old.known.items)) (record_number old d)) ((bytes_eq-Decides d d).1 refl)

  there_now : IsSome (numbered_record new (length old.known.items))
  unfolding new_record
  there_now = ap is_some (at (length old.known.items) ∙ ap (λ (b : Bool). cond b (Some new_record) (numbered_record old (length old.known.items))) (itself (length old.known.items)))

  pub opens : Opens old new d (length old.known.items)
  unfolding new_record
  opens = record {
    number = number_here;
    there = there_now;
    numbers = adds.numbers;
    digests = digests_at;
    newest = λ q. ap (λ (xs : List Record). newest_in (slice_get xs q)) adds.known ∙ kept_push newest_in old.known.items new_record refl q;
    holders = λ q. ap (λ (xs : List Record). holders_in (slice_get xs q)) adds.known ∙ kept_push holders_in old.known.items new_record refl q;
  }

  module _ (numbered : AreNumberedRecords old) (fresh : record_number old d ≡ None) where
    within : (e : List ℕ) (q : ℕ) → record_digest old q ≡ Some e → nat_eq (length old.known.items) q ≡ false
    within e q h = go (numbered_record old q) refl h
      where
        go : (o : Option Record) → numbered_record old q ≡ o → option_map (λ x. x.digest) o ≡ Some e → nat_eq (length old.known.items) q ≡ false
        go None i p = absurd (no_some p)
        go (Some x) i p = apart q (length old.known.items) (slice_get_within old.known.items q x i)

    pub numbered_still : AreNumberedRecords new
    numbered_still = record { digests = digests; numbers = numbers }
      where
        digests : (e : List ℕ) (q : ℕ) → record_number new e ≡ Some q → record_digest new q ≡ Some e
        digests e q h = go (bytes_eq d e) refl (sym (adds.numbers e) ∙ h)
          where
            go : (b : Bool) → bytes_eq d e ≡ b → cond b (Some (length old.known.items)) (record_number old e) ≡ Some q → record_digest new q ≡ Some e
            go true i p = subst (λ (r : ℕ). record_digest new r ≡ Some e) (some_same p)
                (digests_at (length old.known.items) ∙ (ap (λ (b : Bool). cond b (Some d) (record_digest old (length old.known.items))) (itself (length old.known.items)) ∙ ap Some ((bytes_eq-Decides d e).0 i)))
            go false i p = digests_at q ∙ (ap (λ (b : Bool). cond b (Some d) (record_digest old q)) (within e q (numbered.digests e q p)) ∙ numbered.digests e q p)

        numbers : (e : List ℕ) (q : ℕ) → record_digest new q ≡ Some e → record_number new e ≡ Some q
        numbers e q h = go (nat_eq (length old.known.items) q) refl (sym (digests_at q) ∙ h)
          where
            other : (b : Bool) → bytes_eq d e ≡ b → record_number old e ≡ Some q → cond b (Some (length old.known.items)) (record_number old e) ≡ Some q
            other true i p = absurd (no_some (sym fresh ∙ (ap (record_number old) ((bytes_eq-Decides d e).0 i) ∙ p)))
            other false i p = p

            go : (b : Bool) → nat_eq (length old.known.items) q ≡ b → cond b (Some d) (record_digest old q) ≡ Some e → record_number new e ≡ Some q
            go true i p = subst (λ (f : List ℕ). record_number new f ≡ Some q) (some_same p) (number_here ∙ ap Some (number_is (length old.known.items) q i))
            go false i p = adds.numbers e ∙ other (bytes_eq d e) refl (numbered.numbers e q p)

-- ---- the record was there

pub opens_known : (rs : Records) (d : List ℕ) (r : ℕ) → AreNumberedRecords rs → record_number rs d ≡ Some r → Opens rs rs d r
opens_known rs d r numbered h = record {
  number = h;
  there = there (numbered_record rs r) refl (numbered.digests d r h);
  numbers = λ e. numbers e (bytes_eq d e) refl;
  digests = λ q. digests q (nat_eq r q) refl;
  newest = λ q. refl;
  holders = λ q. refl;
}
  where
    there : (o : Option Record) → numbered_record rs r ≡ o → option_map (λ x. x.digest) o ≡ Some d → IsSome o
    there None i p = absurd (no_some p)
    there (Some x) i p = refl

    numbers : (e : List ℕ) (b : Bool) → bytes_eq d e ≡ b → record_number rs e ≡ cond b (Some r) (record_number rs e)
    numbers e true i = ap (record_number rs) (sym ((bytes_eq-Decides d e).0 i)) ∙ h
    numbers e false i = refl

    digests : (q : ℕ) (b : Bool) → nat_eq r q ≡ b → record_digest rs q ≡ cond b (Some d) (record_digest rs q)
    digests q true i = ap (record_digest rs) (sym (number_is r q i)) ∙ numbered.digests d r h
    digests q false i = refl

-- ---- a record becomes another

pub within_known : (rs : Records) (i : ℕ) → IsSome (numbered_record rs i)
    → i < length rs.known.items
within_known rs i e = go (numbered_record rs i) refl e
  where
    go : (o : Option Record) → numbered_record rs i ≡ o → IsSome o → i < length rs.known.items
    go None p h = differ h refl
    go (Some y) p h = slice_get_within rs.known.items i y p

pub there_at : (rs : Records) (i : ℕ) (x : Record) → IsSome (numbered_record rs i) → x ≡ get_or rs.known.items i x → Some x ≡ numbered_record rs i
there_at rs i x e q = go (numbered_record rs i) refl e
  where
    go : (o : Option Record) → numbered_record rs i ≡ o → IsSome o → Some x ≡ numbered_record rs i
    go None p h = differ h refl
    go (Some y) p h = ap Some (q ∙ get_or_from_slice_get rs.known.items i y x p) ∙ sym p

module _ (rs : Records) (i : ℕ) (x w : Record) (there : Some x ≡ numbered_record rs i) where
  is_there : IsSome (numbered_record rs i)
  is_there = ap is_some (sym there)

  pub newest_set : (o : Option ℕ) → w.newest ≡ o → (q : ℕ) → newest_in (slice_get (slice_set rs.known.items i w) q) ≡ cond (nat_eq i q) o (newest_of rs q)
  newest_set o e q = get_set newest_in rs.known.items i w is_there q ∙ ap (λ (y : Option ℕ). cond (nat_eq i q) y (newest_of rs q)) e

  pub holders_set : (n : ℕ) → w.holders ≡ n → (q : ℕ) → holders_in (slice_get (slice_set rs.known.items i w) q) ≡ cond (nat_eq i q) n (holders_of rs q)
  holders_set n e q = get_set holders_in rs.known.items i w is_there q ∙ ap (λ (y : ℕ). cond (nat_eq i q) y (holders_of rs q)) e

  pub digests_set : w.digest ≡ x.digest → (q : ℕ) → option_map (λ (y : Record). y.digest) (slice_get (slice_set rs.known.items i w) q) ≡ record_digest rs q
  digests_set e q = get_set (option_map (λ (y : Record). y.digest)) rs.known.items i w is_there q ∙ go (nat_eq i q) refl
    where
      go : (b : Bool) → nat_eq i q ≡ b
          → cond b (Some w.digest) (record_digest rs q) ≡ record_digest rs q
      go true k = ap Some e ∙ (ap (option_map (λ (y : Record). y.digest)) there ∙ ap (record_digest rs) (number_is i q k))
      go false k = refl
