-- Ids, roles and members are forms.
use Rattle.std.proofs.Common.{◌≡◌, ℕ, ◌<◌, ◌≤◌, ◌^◌, Bool, true, false, cond, eqb, not, ◌&&◌, ◌||◌, List, [], ◌∷◌, ◌++◌, length, get_or, take, All, Option, Some, None, refl, sym, ap, subst, ◌∙◌, arith, lit<}
use Rattle.std.specs.Prelude.{nat_lt, ◌==◌}
use Rattle.std.specs.List.{flat_map, AllByRecursion}
use Rattle.std.specs.Int.{w16}
use Rattle.std.proofs.lemmas.Bool.{ltb-true, lt-ltb, eqb-true, eqb-false, cond_both, and_parts, and_from}
use Rattle.std.proofs.lemmas.List.Elements.{All-from_recursion, recursion_from_All}
use Rattle.std.proofs.lemmas.Option.{cond_some}
use Rattle.cluster_types.specs.declared.member.Role.{Role}
use Rattle.cluster_types.specs.Distinct.{IsDescending}
use Rattle.wire_messages.specs.Fields.{items_at}
use Rattle.wire_messages.specs.Numbers.{positive, between, byte_field, byte_at}
use Rattle.wire_messages.specs.Nodes.{id_field, is_below, id_below_at, id_at, IsId, falling_ids_at, ids_field, ids_at, AreHeard, any_id_at, with_any_id, table_at, role_field, is_plain, role_of_bytes, role_at}
use Rattle.wire_messages.proofs.Forms.{IsForm, field_form}
use Rattle.wire_messages.proofs.NumberForms.{form_as, Allowed, number_form, wide16, byte_form, count_from, between_is}
use Rattle.wire_messages.proofs.ItemForms.{AreItems, counted_items_form, items_again, items_take, items_cut, items_small, Follows, Next, last_key, each_pair, each_item, items_from_none}

-- ---- ids

-- the order of ids in lists
abbrev pub Below : ℕ → ℕ → Type 0
Below a b = b < a

pub below_trans : (a b c : ℕ) → Below a b → Below b c → Below a c
below_trans a b c p q = omega (arith, p, q)

abbrev pub itself : ℕ → ℕ
itself n = n

pub below_is : (before : Option ℕ) (n : ℕ) → is_below before n ≡ true → Follows Below before n
below_is None n e = tt
below_is (Some b) n e = ltb-true _ _ e

below_from : (before : Option ℕ) (n : ℕ) → Follows Below before n → is_below before n ≡ true
below_from None n h = refl
below_from (Some b) n h = lt-ltb _ _ h

pub id_below_form : (before : Option ℕ) (after : ℕ) → IsForm (Next Below itself IsId before after) id_field (id_below_at before)
unfolding id_field id_below_at
id_below_form before after = form_as (Next Below itself IsId before after) (number_form w16 (2 ^ 16) (λ n. nat_lt 0 n && is_below before n) wide16)
    (λ n q. record { test = and_from _ _ (lt-ltb _ _ q.each.positive) (below_from before n q.follows); fits = q.each.fits })
    (λ n p.
    let both = and_parts (nat_lt 0 n) (is_below before n) p.test in
    record { follows = below_is before n both.1; each = record { positive = ltb-true _ _ both.0; fits = p.fits } })

pub id_form : IsForm IsId id_field id_at
unfolding id_field id_at
id_form = form_as IsId (number_form w16 (2 ^ 16) positive wide16)
    (λ n q. record { test = lt-ltb _ _ q.positive; fits = q.fits })
    (λ n p. record { positive = ltb-true _ _ p.test; fits = p.fits })

pub record AreIds (least most : ℕ) (ids : List ℕ) : Type 0 where
  pub some : least ≤ length ids
  pub limit : length ids ≤ most
  pub descending : IsDescending ids
  pub each : All IsId ids

pub ids_form : (least most : ℕ) → most < 256 → IsForm (AreIds least most) ids_field (ids_at least most)
unfolding ids_field ids_at falling_ids_at
ids_form least most small = form_as (AreIds least most)
    (counted_items_form (Allowed (between least most) 256) byte_field (byte_at (between least most)) (byte_form (between least most))
    (Next Below itself IsId) id_field (λ before after. id_below_at before) (last_key itself) id_below_form None)
    (λ ids q. record {
      count = count_from least most (length ids) small q.some q.limit;
      each = items_from_none Below itself IsId ids q.descending.falls (recursion_from_All IsId ids q.each);
    })
    (λ ids p.
    let range = between_is least most (length ids) p.count.test in
    record {
      some = range.0;
      limit = range.1;
      descending = record { falls = each_pair Below itself IsId below_trans None ids p.each };
      each = All-from_recursion IsId ids (each_item Below itself IsId None ids p.each);
    })

pub heard_form : IsForm AreHeard ids_field (ids_at 0 15)
heard_form = form_as AreHeard (ids_form 0 15 (lit< tt))
    (λ ids q. record { some = omega arith; limit = q.limit; descending = q.descending; each = q.each })
    (λ ids p. record { limit = p.limit; descending = p.descending; each = p.each })

-- ---- the table of ids

pub record AreTable (ids : List ℕ) : Type 0 where
  pub size : length ids ≡ 4096
  pub each : All IsId ids

abbrev AnyId : Option ℕ → ℕ → ℕ → Type 0
AnyId before after id = IsId id

each_id : (ids : List ℕ) → AllByRecursion IsId ids → AreItems AnyId with_any_id None ids
each_id [] h = tt
each_id (id ∷ ids) h = (h.0, each_id ids h.1)

id_each : (ids : List ℕ) → AreItems AnyId with_any_id None ids → AllByRecursion IsId ids
id_each [] h = tt
id_each (id ∷ ids) h = (h.0, id_each ids h.1)

pub table_form : IsForm AreTable (λ ids. flat_map id_field ids) table_at
unfolding table_at
table_form = record {
  again = λ ids rest q.
      ap (λ n. items_at any_id_at with_any_id n None (flat_map id_field ids ++ rest)) (sym q.size)
      ∙ items_again AnyId id_field any_id_at with_any_id (λ c n. id_form) ids None rest (each_id ids (recursion_from_All IsId ids q.each));
  takes = λ bytes ids rest fits e.
      let t = items_take AnyId id_field any_id_at with_any_id (λ c n. id_form) 4096 None bytes ids rest fits e in
      record { parts = t.parts; rest_fits = t.rest_fits; allowed = record { size = t.count; each = All-from_recursion IsId ids (id_each ids t.each) } };
  cut = λ ids k q lt.
      ap (λ n. items_at any_id_at with_any_id n None (take k (flat_map id_field ids))) (sym q.size)
      ∙ items_cut AnyId id_field any_id_at with_any_id (λ c n. id_form) ids None k (each_id ids (recursion_from_All IsId ids q.each)) lt;
  small = λ ids q. items_small AnyId id_field any_id_at with_any_id (λ c n. id_form) ids None (each_id ids (recursion_from_All IsId ids q.each));
}

-- ---- roles

pub record IsRole (plain_allowed : Bool) (role : Role) : Type 0 where
  pub test : (plain_allowed || not (is_plain role)) ≡ true
  pub rack : role.rack < 2 ^ 8

role_back : (plain_allowed : Bool) (rack : ℕ) (quiesced : Bool) → (plain_allowed || not (is_plain (record { rack = rack; quiesced = quiesced }))) ≡ true
    → role_of_bytes plain_allowed (rack ∷ cond quiesced 1 0 ∷ []) ≡ Some (record { rack = rack; quiesced = quiesced })
role_back plain_allowed rack true h = rw h refl
role_back plain_allowed rack false h = rw h refl

two_bytes : (bytes : List ℕ) → length bytes ≡ 2 → get_or bytes 0 0 ∷ get_or bytes 1 0 ∷ [] ≡ bytes
two_bytes [] e = absurd cc
two_bytes (a ∷ []) e = absurd (omega (arith, e))
two_bytes (a ∷ b ∷ []) e = refl
two_bytes (a ∷ b ∷ c ∷ bytes) e = absurd (omega (arith, e))

mark_is : (n : ℕ) → n < 2 → cond (eqb n 1) 1 0 ≡ n
mark_is n lt = cond_both (eqb n 1) 1 0 (λ x. x ≡ n) (λ e. sym (eqb-true _ _ e)) (λ e. let ne = eqb-false _ _ e in omega (arith, ne))

mark_below : (b : Bool) → cond b 1 0 < 256
mark_below true = lit< tt
mark_below false = lit< tt

pub role_form : (plain_allowed : Bool) → IsForm (IsRole plain_allowed) role_field (role_at plain_allowed)
unfolding role_field role_at
role_form plain_allowed = field_form (IsRole plain_allowed) role_field 2 (role_of_bytes plain_allowed)
    (λ role p. refl)
    (λ role p. role_back plain_allowed role.rack role.quiesced p.test)
    (λ bytes role len fits e.
    let made : Role = record { rack = get_or bytes 0 0; quiesced = get_or bytes 1 0 == 1 } in
    let c = cond_some (nat_lt (get_or bytes 1 0) 2 && (plain_allowed || not (is_plain made))) made role e in
    let both = and_parts (nat_lt (get_or bytes 1 0) 2) (plain_allowed || not (is_plain made)) c.0 in
    let mark = mark_is (get_or bytes 1 0) (ltb-true _ _ both.0) in
    let rack : get_or bytes 0 0 < 256 = fits 0 in (
      subst (IsRole plain_allowed) c.1 (record { test = both.1; rack = omega (arith, rack) }),
      ap role_field (sym c.1) ∙ ap (λ (n : ℕ). get_or bytes 0 0 ∷ n ∷ []) mark ∙ two_bytes bytes len,
    ))
    (λ role p. (p.rack, (mark_below role.quiesced, tt)))
