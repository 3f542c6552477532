-- Digests, values, versions and records are forms.
use Rattle.std.proofs.Common.{◌≡◌, ℕ, ◌<◌, ◌^◌, true, List, [], ◌++◌, length, get_or, take, Option, Some, None, Ok, Err, refl, sym, ap, subst, ◌∙◌, arith, inl, inr, lit<}
use Rattle.std.specs.Prelude.{◌==◌}
use Rattle.std.specs.Int.{w32, w64}
use Rattle.std.specs.declared.cmp.Ordering.{Ordering}
use Rattle.std.specs.declared.cmp.Ordering.TheVariants.{Less, Equal, Greater}
use Rattle.std.specs.Ordering.{nat_cmp, is_lt}
use Rattle.std.specs.Cmp.Lexicographic.{slice_cmp, nat_list_cmp_total}
use Rattle.std.proofs.lemmas.Bool.{eqb-true, eqb-false}
use Rattle.std.proofs.lemmas.List.{get_or_default}
use Rattle.std.proofs.lemmas.List.Elements.{All-from_recursion, recursion_from_All}
use Rattle.std.proofs.lemmas.Option.{cond_some}
use Rattle.conflict_order.specs.declared.version.Version.{Version}
use Rattle.conflict_order.specs.declared.version.Body.{Body}
use Rattle.conflict_order.specs.declared.version.Body.TheVariants.{Tombstone, Value}
use Rattle.wire_messages.specs.declared.fault.FieldFault.TheVariants.{Short}
use Rattle.wire_messages.specs.Fields.{◌>>=◌, if_allowed}
use Rattle.wire_messages.specs.Numbers.{positive, between, number_field, number_at, byte_field, byte_at}
use Rattle.wire_messages.specs.Versions.{AreBytes, bytes_at, digest_at, is_above, digest_above_at, IsDigest, option_digest_field, digest_if, option_digest_at, IsOptionDigest, value_field, value_at, IsValue, body_field, value_if, body_at, IsBody, version_field, version_at, IsVersion, option_version_field, version_if, option_version_at, IsOptionVersion, record_field, record_at, with_record, records_field, records_at, IsRecord, AreRecords}
use Rattle.wire_messages.proofs.Forms.{IsBytes, Small, IsForm, Takes, field_form, again_step, cut_step, small_step, took, ok_is, joined, chosen}
use Rattle.wire_messages.proofs.NumberForms.{form_as, Allowed, byte_form, is_byte, count_from, between_is, counted_form, every_form, wide64, no_less}
use Rattle.wire_messages.proofs.ChoiceForms.{IsChoice, choice_form, plain_taken, one_again, one_cut, one_taken, pair_form}
use Rattle.wire_messages.proofs.ItemForms.{counted_items_form, Follows, Next, each_pair, each_item, items_from_none}

-- ---- bytes

pub bytes_from : (bytes : List ℕ) → IsBytes bytes → AreBytes bytes
bytes_from bytes h = λ i d lt. let same : get_or bytes i 0 ≡ get_or bytes i d = get_or_default bytes i 0 d lt in omega (arith, h i, same)

pub record AreSoMany (count : ℕ) (bytes : List ℕ) : Type 0 where
  pub size : length bytes ≡ count
  pub each : AreBytes bytes

pub bytes_form : (count : ℕ) → IsForm (AreSoMany count) (λ b. b) (bytes_at count)
unfolding bytes_at
bytes_form count = field_form (AreSoMany count) (λ b. b) count (λ b. Some b)
    (λ x p. p.size)
    (λ x p. refl)
    (λ bytes x len fits e. let is : bytes ≡ x = cc in (subst (AreSoMany count) is (record { size = len; each = bytes_from bytes fits }), sym is))
    (λ x p. recursion_from_All (λ b. b < 256) x p.each)

-- ---- digests

pub digest_form : IsForm IsDigest (λ d. d) digest_at
unfolding digest_at
digest_form = form_as IsDigest (bytes_form 20) (λ d q. record { size = q.size; each = q.each }) (λ d p. record { size = p.size; each = p.each })

-- the order of digests
abbrev pub Above : List ℕ → List ℕ → Type 0
Above a b = slice_cmp nat_cmp a b ≡ Less

pub above_is : (before : Option (List ℕ)) (d : List ℕ) → is_above before d ≡ true → Follows Above before d
above_is None d e = tt
above_is (Some b) d e = is_less (slice_cmp nat_cmp b d) e
  where
    is_less : (o : Ordering) → is_lt o ≡ true → o ≡ Less
    is_less Less e = refl
    is_less Equal e = absurd cc
    is_less Greater e = absurd cc

pub is_above_from : (before : Option (List ℕ)) (d : List ℕ) → Follows Above before d → is_above before d ≡ true
is_above_from None d h = refl
is_above_from (Some b) d h = rw h refl

pub digest_above_form : (before : Option (List ℕ)) → IsForm (Next Above (λ d. d) IsDigest before 0) (λ d. d) (digest_above_at before)
unfolding digest_above_at
digest_above_form before = field_form (Next Above (λ d. d) IsDigest before 0) (λ d. d) 20 (if_allowed (is_above before))
    (λ x p. p.each.size)
    (λ x p. rw (is_above_from before x p.follows) refl)
    (λ bytes x len fits e.
    let c = cond_some (is_above before bytes) bytes x e in
    (subst (Next Above (λ d. d) IsDigest before 0) c.1 (record { follows = above_is before bytes c.0; each = record { size = len; each = bytes_from bytes fits } }), sym c.1))
    (λ x p. recursion_from_All (λ b. b < 256) x p.each.each)

abbrev digest_tag : Option (List ℕ) → ℕ
digest_tag None = 0
digest_tag (Some d) = 1

abbrev digest_text : Option (List ℕ) → List ℕ
digest_text None = []
digest_text (Some d) = d

digest_choice : IsChoice IsOptionDigest (between 0 1) digest_tag digest_text digest_if
digest_choice = record {
  tag = λ x q. elim x as (λ x. Allowed (between 0 1) 256 (digest_tag x)) [ None ↦ is_byte (between 0 1) 0 refl (lit< tt) | Some d ↦ is_byte (between 0 1) 1 refl (lit< tt) ];
  again = λ x rest. elim x as (λ x. IsOptionDigest x → digest_if (digest_tag x) (digest_text x ++ rest) ≡ Ok (x, rest)) [
    | None ↦ λ q. refl
    | Some d ↦ λ q. one_again digest_form (λ d. Some d) d q rest
  ];
  takes = λ tag bytes x rest ok fits e.
      elim (chosen (tag == 0) _ _ _ e) [
        | inl zero ↦ plain_taken IsOptionDigest digest_tag digest_text None tag (eqb-true _ _ zero.0) refl tt bytes fits x rest zero.1
        | inr one ↦
            let ne = eqb-false tag 0 one.0 in
            let le = (between_is 0 1 tag ok).1 in
            let is : tag ≡ 1 = omega arith in
            one_taken digest_form IsOptionDigest digest_tag digest_text (λ d. Some d) tag (λ d. is) (λ d. refl) (λ d p. p) bytes fits x rest one.1
      ];
  cut = λ x k. elim x as (λ x. IsOptionDigest x → k < length (digest_text x) → digest_if (digest_tag x) (take k (digest_text x)) ≡ Err Short) [
    | None ↦ λ q lt. no_less k lt
    | Some d ↦ λ q lt. one_cut digest_form (λ d. Some d) d q k lt
  ];
  small = λ x. elim x as (λ x. IsOptionDigest x → Small (digest_text x)) [ None ↦ λ q. tt | Some d ↦ λ q. digest_form.small d q ];
}

pub option_digest_form : IsForm IsOptionDigest option_digest_field option_digest_at
unfolding option_digest_field option_digest_at byte_field
option_digest_form = choice_form IsOptionDigest option_digest_field (between 0 1) digest_tag digest_text digest_if digest_choice
    (λ x. elim x as (λ x. byte_field (digest_tag x) ++ digest_text x ≡ option_digest_field x) [ None ↦ refl | Some d ↦ refl ])

-- ---- values and versions

pub value_form : IsForm IsValue value_field value_at
unfolding value_field value_at
value_form = record {
  again = λ x rest q.
      again_step (byte_form (between 0 128)) (length x) (count_from 0 128 (length x) (lit< tt) (omega arith) q.limit) (λ n. bytes_at n.0 n.1) x rest _
      ((bytes_form (length x)).again x rest (record { size = refl; each = q.each }));
  takes = λ bytes x rest fits e.
      let t = took (byte_form (between 0 128)) bytes fits (λ n. bytes_at n.0 n.1) (x, rest) e in
      let u = (bytes_form t.value).takes t.rest x rest t.takes.rest_fits t.next in
      let most = (between_is 0 128 t.value t.takes.allowed.test).1 in
      record {
        parts = joined bytes (byte_field t.value) t.rest x rest t.takes.parts u.parts ∙ ap (λ n. (byte_field n ++ x) ++ rest) (sym u.allowed.size);
        rest_fits = u.rest_fits;
        allowed = record { limit = omega (arith, most, u.allowed.size); each = u.allowed.each };
      };
  cut = λ x k q lt.
      cut_step (byte_form (between 0 128)) (length x) (count_from 0 128 (length x) (lit< tt) (omega arith) q.limit) (λ n. bytes_at n.0 n.1) x
      (λ j less. (bytes_form (length x)).cut x j (record { size = refl; each = q.each }) less) k lt;
  small = λ x q.
      small_step (byte_form (between 0 128)) (length x) (count_from 0 128 (length x) (lit< tt) (omega arith) q.limit) x (recursion_from_All (λ b. b < 256) x q.each);
}

abbrev body_tag : Body → ℕ
body_tag Tombstone = 0
body_tag (Value bytes) = 1

abbrev body_text : Body → List ℕ
body_text Tombstone = []
body_text (Value bytes) = value_field bytes

body_choice : IsChoice IsBody (between 0 1) body_tag body_text value_if
body_choice = record {
  tag = λ x q. elim x as (λ x. Allowed (between 0 1) 256 (body_tag x)) [ Tombstone ↦ is_byte (between 0 1) 0 refl (lit< tt) | Value b ↦ is_byte (between 0 1) 1 refl (lit< tt) ];
  again = λ x rest. elim x as (λ x. IsBody x → value_if (body_tag x) (body_text x ++ rest) ≡ Ok (x, rest)) [
    | Tombstone ↦ λ q. refl
    | Value b ↦ λ q. one_again value_form (λ b. Value b) b q rest
  ];
  takes = λ tag bytes x rest ok fits e.
      elim (chosen (tag == 0) _ _ _ e) [
        | inl zero ↦ plain_taken IsBody body_tag body_text Tombstone tag (eqb-true _ _ zero.0) refl tt bytes fits x rest zero.1
        | inr one ↦
            let ne = eqb-false tag 0 one.0 in
            let le = (between_is 0 1 tag ok).1 in
            let is : tag ≡ 1 = omega arith in
            one_taken value_form IsBody body_tag body_text (λ b. Value b) tag (λ b. is) (λ b. refl) (λ b p. p) bytes fits x rest one.1
      ];
  cut = λ x k. elim x as (λ x. IsBody x → k < length (body_text x) → value_if (body_tag x) (take k (body_text x)) ≡ Err Short) [
    | Tombstone ↦ λ q lt. no_less k lt
    | Value b ↦ λ q lt. one_cut value_form (λ b. Value b) b q k lt
  ];
  small = λ x. elim x as (λ x. IsBody x → Small (body_text x)) [ Tombstone ↦ λ q. tt | Value b ↦ λ q. value_form.small b q ];
}

pub body_form : IsForm IsBody body_field body_at
unfolding body_field body_at byte_field
body_form = choice_form IsBody body_field (between 0 1) body_tag body_text value_if body_choice
    (λ x. elim x as (λ x. byte_field (body_tag x) ++ body_text x ≡ body_field x) [ Tombstone ↦ refl | Value b ↦ refl ])

pub version_form : IsForm IsVersion version_field version_at
unfolding version_field version_at
version_form = record {
  again = λ v rest q.
      again_step (every_form w64 (2 ^ 64) wide64) v.lut q.lut _ (number_field w32 v.generation ++ body_field v.body) rest _
      (again_step counted_form v.generation (record { positive = q.written; fits = q.generation }) _ (body_field v.body) rest _
      (one_again body_form (λ b. record { lut = v.lut; generation = v.generation; body = b }) v.body q.body rest));
  takes = λ bytes v rest fits e.
      let l = took (every_form w64 (2 ^ 64) wide64) bytes fits
      (λ l. number_at w32 positive l.1 >>= λ g. body_at g.1 >>= λ b. Ok (record { lut = l.0; generation = g.0; body = b.0 }, b.1)) (v, rest) e in
      let g = took counted_form l.rest l.takes.rest_fits (λ g. body_at g.1 >>= λ b. Ok (record { lut = l.value; generation = g.0; body = b.0 }, b.1)) (v, rest) l.next in
      let b = took body_form g.rest g.takes.rest_fits (λ b. Ok (record { lut = l.value; generation = g.value; body = b.0 }, b.1)) (v, rest) g.next in
      let w : Version = record { lut = l.value; generation = g.value; body = b.value } in
      subst (λ (y : Version × List ℕ). Takes IsVersion version_field bytes y.0 y.1) (ok_is (w, b.rest) (v, rest) b.next)
      (record {
        parts = joined bytes (number_field w64 l.value) l.rest (number_field w32 g.value ++ body_field b.value) b.rest l.takes.parts
            (joined l.rest (number_field w32 g.value) g.rest (body_field b.value) b.rest g.takes.parts b.takes.parts);
        rest_fits = b.takes.rest_fits;
        allowed = record { lut = l.takes.allowed; written = g.takes.allowed.positive; generation = g.takes.allowed.fits; body = b.takes.allowed };
      });
  cut = λ v k q lt.
      cut_step (every_form w64 (2 ^ 64) wide64) v.lut q.lut _ (number_field w32 v.generation ++ body_field v.body)
      (λ j less. cut_step counted_form v.generation (record { positive = q.written; fits = q.generation }) _ (body_field v.body)
      (λ i few. one_cut body_form (λ b. record { lut = v.lut; generation = v.generation; body = b }) v.body q.body i few) j less)
      k lt;
  small = λ v q.
      small_step (every_form w64 (2 ^ 64) wide64) v.lut q.lut (number_field w32 v.generation ++ body_field v.body)
      (small_step counted_form v.generation (record { positive = q.written; fits = q.generation }) (body_field v.body) (body_form.small v.body q.body));
}

abbrev version_tag : Option Version → ℕ
version_tag None = 0
version_tag (Some v) = 1

abbrev version_text : Option Version → List ℕ
version_text None = []
version_text (Some v) = version_field v

version_choice : IsChoice IsOptionVersion (between 0 1) version_tag version_text version_if
version_choice = record {
  tag = λ x q. elim x as (λ x. Allowed (between 0 1) 256 (version_tag x)) [ None ↦ is_byte (between 0 1) 0 refl (lit< tt) | Some v ↦ is_byte (between 0 1) 1 refl (lit< tt) ];
  again = λ x rest. elim x as (λ x. IsOptionVersion x → version_if (version_tag x) (version_text x ++ rest) ≡ Ok (x, rest)) [
    | None ↦ λ q. refl
    | Some v ↦ λ q. one_again version_form (λ v. Some v) v q rest
  ];
  takes = λ tag bytes x rest ok fits e.
      elim (chosen (tag == 0) _ _ _ e) [
        | inl zero ↦ plain_taken IsOptionVersion version_tag version_text None tag (eqb-true _ _ zero.0) refl tt bytes fits x rest zero.1
        | inr one ↦
            let ne = eqb-false tag 0 one.0 in
            let le = (between_is 0 1 tag ok).1 in
            let is : tag ≡ 1 = omega arith in
            one_taken version_form IsOptionVersion version_tag version_text (λ v. Some v) tag (λ v. is) (λ v. refl) (λ v p. p) bytes fits x rest one.1
      ];
  cut = λ x k. elim x as (λ x. IsOptionVersion x → k < length (version_text x) → version_if (version_tag x) (take k (version_text x)) ≡ Err Short) [
    | None ↦ λ q lt. no_less k lt
    | Some v ↦ λ q lt. one_cut version_form (λ v. Some v) v q k lt
  ];
  small = λ x. elim x as (λ x. IsOptionVersion x → Small (version_text x)) [ None ↦ λ q. tt | Some v ↦ λ q. version_form.small v q ];
}

pub option_version_form : IsForm IsOptionVersion option_version_field option_version_at
unfolding option_version_field option_version_at byte_field
option_version_form = choice_form IsOptionVersion option_version_field (between 0 1) version_tag version_text version_if version_choice
    (λ x. elim x as (λ x. byte_field (version_tag x) ++ version_text x ≡ option_version_field x) [ None ↦ refl | Some v ↦ refl ])

-- ---- records

abbrev pub digest_of : List ℕ × Version → List ℕ
digest_of r = r.0

pub record_form : (before : Option (List ℕ)) (after : ℕ) → IsForm (Next Above digest_of IsRecord before after) record_field (record_at before after)
unfolding record_field record_at
record_form before after =
    pair_form (Next Above (λ d. d) IsDigest before 0) (λ d. d) (digest_above_at before) (digest_above_form before)
    (λ d v. IsVersion v) version_field (λ d. version_at) (λ d. version_form)
    (Next Above digest_of IsRecord before after) (λ r. r.0) (λ r. r.1) (λ d v. (d, v))
    (record {
      whole = λ r. refl;
      first_is = λ d v. refl;
      second_is = λ d v. refl;
      from = λ d v p q. record { follows = p.follows; each = record { digest = p.each; version = q } };
      to_first = λ r q. record { follows = q.follows; each = q.each.digest };
      to_second = λ r q. q.each.version;
    })

pub records_form : (least : ℕ) → IsForm (AreRecords least) records_field (records_at least)
unfolding records_field records_at
records_form least = form_as (AreRecords least)
    (counted_items_form (Allowed (between least 64) 256) byte_field (byte_at (between least 64)) (byte_form (between least 64))
    (Next Above digest_of IsRecord) record_field record_at with_record record_form None)
    (λ rs q. record {
      count = count_from least 64 (length rs) (lit< tt) q.some q.limit;
      each = items_from_none Above digest_of IsRecord rs q.rising (recursion_from_All IsRecord rs q.each);
    })
    (λ rs p.
    let range = between_is least 64 (length rs) p.count.test in
    record {
      some = range.0;
      limit = range.1;
      rising = each_pair Above digest_of IsRecord nat_list_cmp_total.trans None rs p.each;
      each = All-from_recursion IsRecord rs (each_item Above digest_of IsRecord None rs p.each);
    })
