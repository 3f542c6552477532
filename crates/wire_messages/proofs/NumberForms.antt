-- Numbers, bytes, flags and keys are forms.
use Rattle.std.proofs.Common.{◌≡◌, ℕ, ◌+◌, ◌*◌, ◌/◌, ◌%◌, ◌^◌, ◌<◌, ◌≤◌, Bool, true, false, cond, eqb, ◌||◌, List, [], ◌∷◌, ◌++◌, length, get_or, take, Result, Ok, Err, refl, sym, ap, subst, ◌∙◌, arith, inl, inr, lit<}
use Rattle.std.specs.Prelude.{nat_lt, ◌==◌}
use Rattle.std.specs.Int.{Width, w16, w32, w64, byte_len, from_be_bytes, to_be_bytes}
use Rattle.std.proofs.lemmas.Bool.{ltb-true, leb-true, lt-ltb, le-leb, eqb-true, eqb-false, cond_both, and_parts, and_from, or_cases, or_right}
use Rattle.std.proofs.lemmas.Option.{cond_some}
use Rattle.std.proofs.lemmas.Nat.{be_bytes_2, be_bytes_4, be_bytes_8, from_be_bytes-to_be_bytes_2, from_be_bytes-to_be_bytes_4, from_be_bytes-to_be_bytes_8}
use Rattle.cluster_types.specs.declared.cluster_key.ClusterKey.{ClusterKey}
use Rattle.cluster_types.specs.ClusterKeys.{none}
use Rattle.cluster_types.specs.Partitions.{partition_count}
use Rattle.wire_messages.specs.declared.fault.FieldFault.{FieldFault}
use Rattle.wire_messages.specs.declared.fault.FieldFault.TheVariants.{Short}
use Rattle.wire_messages.specs.Fields.{if_allowed}
use Rattle.wire_messages.specs.Numbers.{every, positive, between, number_field, number_at, byte_field, byte_at, flag_field, flag_at, IsNumber}
use Rattle.wire_messages.specs.Keys.{key_number, key_of, key_field, is_key, is_none, key_where, key_at, key_or_none_at, IsKeyField, IsKeyOrNone}
use Rattle.wire_messages.proofs.Forms.{IsBytes, Small, IsForm, Takes, field_form, again_step, cut_step, took, ok_is}

-- the same values, told in other words
pub form_as : {A : Type 0} {P : A → Type 0} {w : A → List ℕ} {r : List ℕ → Result (A × List ℕ) FieldFault} (Q : A → Type 0) → IsForm P w r
    → ((x : A) → Q x → P x) → ((x : A) → P x → Q x) → IsForm Q w r
form_as Q form to from = record {
  again = λ x rest q. form.again x rest (to x q);
  takes = λ bytes x rest fits e.
      let t = form.takes bytes x rest fits e in
      record { parts = t.parts; rest_fits = t.rest_fits; allowed = from x t.allowed };
  cut = λ x k q lt. form.cut x k (to x q) lt;
  small = λ x q. form.small x (to x q);
}

-- ---- numbers

pub record IsWide (w : Width) (limit : ℕ) : Type 0 where
  pub len : (n : ℕ) → length (to_be_bytes w n) ≡ byte_len w
  pub back : (bytes : List ℕ) → length bytes ≡ byte_len w → IsBytes bytes → to_be_bytes w (from_be_bytes w bytes) ≡ bytes
  pub again : (n : ℕ) → n < limit → from_be_bytes w (to_be_bytes w n) ≡ n
  pub below : (bytes : List ℕ) → IsBytes bytes → from_be_bytes w bytes < limit
  pub small : (n : ℕ) → Small (to_be_bytes w n)

pub wide16 : IsWide w16 (2 ^ 16)
wide16 = record {
  len = λ n. refl;
  back = λ bytes len fits. be_bytes_2 bytes _ len fits refl;
  again = λ n lt. from_be_bytes-to_be_bytes_2 n lt;
  below = λ bytes fits. omega (arith, fits 0, fits 1);
  small = λ n. (omega arith, (omega arith, tt));
}

pub wide32 : IsWide w32 (2 ^ 32)
wide32 = record {
  len = λ n. refl;
  back = λ bytes len fits. be_bytes_4 bytes _ len fits refl;
  again = λ n lt. from_be_bytes-to_be_bytes_4 n lt;
  below = λ bytes fits. omega (arith, fits 0, fits 1, fits 2, fits 3);
  small = λ n. (omega arith, (omega arith, (omega arith, (omega arith, tt))));
}

pub wide64 : IsWide w64 (2 ^ 64)
wide64 = record {
  len = λ n. refl;
  back = λ bytes len fits. be_bytes_8 bytes _ len fits refl;
  again = λ n lt. from_be_bytes-to_be_bytes_8 n lt;
  below = λ bytes fits. omega (arith, fits 0, fits 1, fits 2, fits 3, fits 4, fits 5, fits 6, fits 7);
  small = λ n. (omega arith, (omega arith, (omega arith, (omega arith, (omega arith, (omega arith, (omega arith, (omega arith, tt))))))));
}

pub record Allowed (allowed : ℕ → Bool) (limit n : ℕ) : Type 0 where
  pub test : allowed n ≡ true
  pub fits : n < limit

pub number_form : (w : Width) (limit : ℕ) (allowed : ℕ → Bool) → IsWide w limit → IsForm (Allowed allowed limit) (number_field w) (number_at w allowed)
unfolding number_field number_at
number_form w limit allowed wide =
    field_form (Allowed allowed limit) (to_be_bytes w) (byte_len w) (λ b. if_allowed allowed (from_be_bytes w b))
    (λ n p. wide.len n)
    (λ n p. rw (wide.again n p.fits, p.test) refl)
    (λ bytes n len fits e.
    let c = cond_some (allowed (from_be_bytes w bytes)) (from_be_bytes w bytes) n e in
    (record { test = subst (λ (m : ℕ). allowed m ≡ true) c.1 c.0; fits = rw (← c.1) (wide.below bytes fits) }, rw (← c.1) (wide.back bytes len fits)))
    (λ n p. wide.small n)

-- ---- bytes

one_byte : (bytes : List ℕ) → length bytes ≡ 1 → get_or bytes 0 0 ∷ [] ≡ bytes
one_byte [] e = absurd cc
one_byte (b ∷ []) e = refl
one_byte (b ∷ c ∷ bytes) e = absurd (omega (arith, e))

pub byte_form : (allowed : ℕ → Bool) → IsForm (Allowed allowed 256) byte_field (byte_at allowed)
unfolding byte_field byte_at
byte_form allowed =
    field_form (Allowed allowed 256) (λ n. n ∷ []) 1 (λ b. if_allowed allowed (get_or b 0 0))
    (λ n p. refl)
    (λ n p. rw p.test refl)
    (λ bytes n len fits e.
    let c = cond_some (allowed (get_or bytes 0 0)) (get_or bytes 0 0) n e in
    (subst (Allowed allowed 256) c.1 (record { test = c.0; fits = fits 0 }), rw (← c.1) (one_byte bytes len)))
    (λ n p. (p.fits, tt))

-- the same where the value is known
pub is_byte : (allowed : ℕ → Bool) (n : ℕ) → allowed n ≡ true → n < 256 → Allowed allowed 256 n
is_byte allowed n e lt = record { test = e; fits = lt }

pub between_from : (least most n : ℕ) → least ≤ n → n ≤ most → between least most n ≡ true
between_from least most n h k = and_from _ _ (le-leb _ _ h) (le-leb _ _ k)

pub count_from : (least most n : ℕ) → most < 256 → least ≤ n → n ≤ most → Allowed (between least most) 256 n
count_from least most n lt h k = record { test = between_from least most n h k; fits = omega (arith, lt, k) }

pub between_is : (least most n : ℕ) → between least most n ≡ true → (least ≤ n) × (n ≤ most)
between_is least most n e = let p = and_parts _ _ e in (leb-true _ _ p.0, leb-true _ _ p.1)

-- ---- numbers of 32 bits that aren't 0

pub counted_form : IsForm IsNumber (number_field w32) (number_at w32 positive)
counted_form = form_as IsNumber (number_form w32 (2 ^ 32) positive wide32)
    (λ n q. record { test = lt-ltb _ _ q.positive; fits = q.fits })
    (λ n p. record { positive = ltb-true _ _ p.test; fits = p.fits })

-- ---- numbers of any value

pub every_form : (w : Width) (limit : ℕ) → IsWide w limit → IsForm (λ n. n < limit) (number_field w) (number_at w every)
every_form w limit wide = form_as (λ n. n < limit) (number_form w limit every wide) (λ n q. record { test = refl; fits = q }) (λ n p. p.fits)

-- ---- flags

abbrev pub always : {A : Type 0} → A → Type 0
always x = Unit {0}

pub no_less : {A : Type 0} (j : ℕ) → j < 0 → A
no_less j lt = absurd (omega (arith, lt))

flag_is : (n : ℕ) → n ≤ 1 → cond (eqb n 1) 1 0 ≡ n
flag_is n le = cond_both (eqb n 1) 1 0 (λ x. x ≡ n) (λ e. sym (eqb-true _ _ e)) (λ e. let ne = eqb-false _ _ e in omega (arith, ne))

pub flag_form : IsForm always flag_field flag_at
unfolding flag_field flag_at byte_field
flag_form = record {
  again = λ x rest p.
      elim x as (λ b. flag_at (flag_field b ++ rest) ≡ Ok (b, rest)) [
        | true ↦ again_step (byte_form (between 0 1)) 1 (is_byte (between 0 1) 1 refl (lit< tt)) _ [] rest _ refl
        | false ↦ again_step (byte_form (between 0 1)) 0 (is_byte (between 0 1) 0 refl (lit< tt)) _ [] rest _ refl
      ];
  takes = λ bytes x rest fits e.
      let t = took (byte_form (between 0 1)) bytes fits (λ n. Ok (n.0 == 1, n.1)) (x, rest) e in
      let le = (between_is 0 1 t.value t.takes.allowed.test).1 in
      let parts : bytes ≡ flag_field (t.value == 1) ++ t.rest = t.takes.parts ∙ ap (λ (n : ℕ). n ∷ t.rest) (sym (flag_is t.value le)) in
      subst (λ (y : Bool × List ℕ). Takes always flag_field bytes y.0 y.1) (ok_is (t.value == 1, t.rest) (x, rest) t.next)
      (record { parts = parts; rest_fits = t.takes.rest_fits; allowed = tt });
  cut = λ x k p.
      elim x as (λ b. k < length (flag_field b) → flag_at (take k (flag_field b)) ≡ Err Short) [
        | true ↦ cut_step (byte_form (between 0 1)) 1 (is_byte (between 0 1) 1 refl (lit< tt)) _ [] (λ j lt. no_less j lt) k
        | false ↦ cut_step (byte_form (between 0 1)) 0 (is_byte (between 0 1) 0 refl (lit< tt)) _ [] (λ j lt. no_less j lt) k
      ];
  small = λ x p. elim x as (λ b. Small (flag_field b)) [ true ↦ (lit< tt, tt) | false ↦ (lit< tt, tt) ];
}

-- ---- keys

pub record KeyAllowed (allowed : ClusterKey → Bool) (key : ClusterKey) : Type 0 where
  pub test : allowed key ≡ true
  pub round : key.round < 2 ^ 48
  pub principal : key.principal < 2 ^ 16

key_back : (key : ClusterKey) → key.principal < 2 ^ 16 → key_of (key_number key) ≡ key
key_back key lt i = record { round = rounds i; principal = principals i }
  where
    rounds : (key.round * 65536 + key.principal) / 65536 ≡ key.round
    rounds = omega arith

    principals : (key.round * 65536 + key.principal) % 65536 ≡ key.principal
    principals = omega arith

number_back : (n : ℕ) → key_number (key_of n) ≡ n
number_back n = omega arith

key_where_form : (allowed : ClusterKey → Bool) → IsForm (KeyAllowed allowed) key_field (key_where allowed)
unfolding key_field key_where
key_where_form allowed =
    field_form (KeyAllowed allowed) key_field 8 (λ b. if_allowed allowed (key_of (from_be_bytes w64 b)))
    (λ key p. refl)
    (λ key p. rw (wide64.again (key_number key) (omega (arith, p.round, p.principal)), key_back key p.principal, p.test) refl)
    (λ bytes key len fits e.
    let n = from_be_bytes w64 bytes in
    let c = cond_some (allowed (key_of n)) (key_of n) key e in
    let lt = wide64.below bytes fits in (
      subst (KeyAllowed allowed) c.1 (record { test = c.0; round = omega (arith, lt); principal = omega arith }),
      rw (← c.1) (ap (to_be_bytes w64) (number_back n) ∙ wide64.back bytes len fits),
    ))
    (λ key p. wide64.small (key_number key))

pub key_form : IsForm IsKeyField key_field key_at
unfolding key_at
key_form = form_as IsKeyField (key_where_form is_key)
    (λ key q. record { test = and_from _ _ (lt-ltb _ _ q.view.above_none) (lt-ltb _ _ q.view.led); round = q.view.below_limit; principal = q.fits })
    (λ key p.
    let both = and_parts _ _ p.test in
    record { view = record { above_none = ltb-true _ _ both.0; below_limit = p.round; led = ltb-true _ _ both.1 }; fits = p.principal })

pub is_none_of : (key : ClusterKey) → is_none key ≡ true → key ≡ none
is_none_of key e i =
    let both = and_parts _ _ e in
    record { round = eqb-true key.round 0 both.0 i; principal = eqb-true key.principal 0 both.1 i }

pub key_or_none_form : IsForm IsKeyOrNone key_field key_or_none_at
unfolding key_or_none_at
key_or_none_form = form_as IsKeyOrNone (key_where_form (λ key. is_none key || is_key key))
    (λ key q.
    elim q [
      | inl e ↦ subst (KeyAllowed (λ k. is_none k || is_key k)) (sym e) (record { test = refl; round = lit< tt; principal = lit< tt })
      | inr p ↦ record {
        test = or_right _ _ (and_from _ _ (lt-ltb _ _ p.view.above_none) (lt-ltb _ _ p.view.led));
        round = p.view.below_limit;
        principal = p.fits;
      }
    ])
    (λ key p.
    elim (or_cases _ _ p.test) [
      | inl e ↦ inl (is_none_of key e)
      | inr e ↦
          let both = and_parts _ _ e in
          inr (record { view = record { above_none = ltb-true _ _ both.0; below_limit = p.round; led = ltb-true _ _ both.1 }; fits = p.principal })
    ])

-- ---- partitions

pub partition_form : IsForm (λ p. p < partition_count) (number_field w16) (number_at w16 (λ p. nat_lt p partition_count))
partition_form = form_as (λ p. p < partition_count) (number_form w16 (2 ^ 16) (λ p. nat_lt p partition_count) wide16)
    (λ p q. record { test = lt-ltb _ _ q; fits = omega (arith, q) })
    (λ p t. ltb-true _ _ t.test)
