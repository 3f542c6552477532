-- Members are forms: plain ones as ids, and others with their roles.
use Rattle.std.proofs.Common.{◌≡◌, ℕ, suc, ◌<◌, Bool, true, false, not, ◌&&◌, ◌||◌, List, [], ◌∷◌, ◌++◌, length, map, take, None, refl, sym, ap, subst, ◌∙◌, arith, lit<}
use Rattle.std.specs.Prelude.{◌==◌}
use Rattle.std.specs.List.{AllByRecursion}
use Rattle.std.proofs.lemmas.Bool.{eqb-true, ne_eqb, and_parts, not-true}
use Rattle.std.proofs.lemmas.List.{length-map}
use Rattle.std.proofs.lemmas.List.Elements.{All-from_recursion, recursion_from_All}
use Rattle.std.proofs.lemmas.List.Folds.{flat_map-map}
use Rattle.cluster_types.specs.declared.member.Member.{Member}
use Rattle.cluster_types.specs.declared.member.Role.{Role}
use Rattle.cluster_types.specs.Distinct.{IsDescending}
use Rattle.cluster_types.specs.Members.{ids_of, plain_role, plain_member}
use Rattle.wire_messages.specs.declared.before.Before.{Before}
use Rattle.wire_messages.specs.Numbers.{between, byte_field, byte_at}
use Rattle.wire_messages.specs.Nodes.{id_field, id_below_at, IsId, ids_field, role_field, is_plain, role_at, all_plain, plain_members_field, plain_members_at, member_field, members_field, nobody_before, with_member, member_at, members_at, FitsMember, AreMembersField}
use Rattle.wire_messages.proofs.Forms.{Small, IsForm, Takes, took, ok_is, done}
use Rattle.wire_messages.proofs.NumberForms.{form_as, Allowed, byte_form, count_from, between_is}
use Rattle.wire_messages.proofs.ChoiceForms.{made, one_again, one_cut, pair_form}
use Rattle.wire_messages.proofs.ItemForms.{AreItems, counted_items_form, Follows, Next, last_key, each_pair, items_from_none}
use Rattle.wire_messages.proofs.NodeForms.{Below, itself, below_trans, id_below_form, AreIds, ids_form, IsRole, role_form}

-- ---- plain members

pub plain_is : (role : Role) → is_plain role ≡ true → role ≡ plain_role
plain_is role e i =
    let both = and_parts (role.rack == 0) (not role.quiesced) e in
    record { rack = eqb-true role.rack 0 both.0 i; quiesced = not-true role.quiesced both.1 i }

-- members are those of their ids, where all are plain
plain_again : (ms : List Member) → all_plain ms ≡ true → map plain_member (ids_of ms) ≡ ms
plain_again [] e = refl
plain_again (m ∷ ms) e =
    let both = and_parts (is_plain m.role) (all_plain ms) e in
    let same : plain_member m.id ≡ m = λ i. record { id = m.id; role = sym (plain_is m.role both.0) i } in
    ap (λ (x : Member). x ∷ map plain_member (ids_of ms)) same ∙ ap (λ (xs : List Member). m ∷ xs) (plain_again ms both.1)

pub ids_again : (ids : List ℕ) → ids_of (map plain_member ids) ≡ ids
ids_again [] = refl
ids_again (id ∷ ids) = ap (λ (xs : List ℕ). id ∷ xs) (ids_again ids)

made_plain : (ids : List ℕ) → all_plain (map plain_member ids) ≡ true
made_plain [] = refl
made_plain (id ∷ ids) = made_plain ids

ids_fit : (ms : List Member) → AllByRecursion FitsMember ms → AllByRecursion IsId (ids_of ms)
ids_fit [] h = tt
ids_fit (m ∷ ms) h = (h.0.id, ids_fit ms h.1)

made_fit : (ids : List ℕ) → AllByRecursion IsId ids → AllByRecursion FitsMember (map plain_member ids)
made_fit [] h = tt
made_fit (id ∷ ids) h = (record { id = h.0; rack = lit< tt }, made_fit ids h.1)

pub record ArePlainMembers (ms : List Member) : Type 0 where
  pub plain : all_plain ms ≡ true
  pub field : AreMembersField ms

as_ids : (ms : List Member) → AreMembersField ms → AreIds 1 16 (ids_of ms)
as_ids ms q =
    let len = length-map ms (λ m. m.id) in
    record {
      some = omega (arith, q.view.some, len);
      limit = omega (arith, q.view.limit, len);
      descending = q.view.descending;
      each = All-from_recursion IsId (ids_of ms) (ids_fit ms (recursion_from_All FitsMember ms q.fit));
    }

from_ids : (ids : List ℕ) → AreIds 1 16 ids → AreMembersField (map plain_member ids)
from_ids ids p =
    let len = length-map ids plain_member in
    record {
      view = record {
        some = omega (arith, p.some, len);
        limit = omega (arith, p.limit, len);
        descending = subst IsDescending (sym (ids_again ids)) p.descending;
      };
      fit = All-from_recursion FitsMember (map plain_member ids) (made_fit ids (recursion_from_All IsId ids p.each));
    }

plain_text : (ms : List Member) → ids_field (ids_of ms) ≡ plain_members_field ms
unfolding ids_field plain_members_field
plain_text ms = rw (length-map ms (λ m. m.id), flat_map-map id_field (λ m. m.id) ms) refl

pub plain_members_form : IsForm ArePlainMembers plain_members_field plain_members_at
unfolding plain_members_at
plain_members_form = record {
  again = λ ms rest q.
      ap (λ t. plain_members_at (t ++ rest)) (sym (plain_text ms))
      ∙ one_again (ids_form 1 16 (lit< tt)) (map plain_member) (ids_of ms) (as_ids ms q.field) rest
      ∙ ap (λ y. done (y, rest)) (plain_again ms q.plain);
  takes = λ bytes ms rest fits e.
      let t = took (ids_form 1 16 (lit< tt)) bytes fits (made (map plain_member)) (ms, rest) e in
      let ids = t.value in
      subst (λ (y : List Member × List ℕ). Takes ArePlainMembers plain_members_field bytes y.0 y.1) (ok_is (map plain_member ids, t.rest) (ms, rest) t.next)
      (record {
        parts = t.takes.parts ∙ ap (λ (x : List ℕ). ids_field x ++ t.rest) (sym (ids_again ids)) ∙ ap (λ (x : List ℕ). x ++ t.rest) (plain_text (map plain_member ids));
        rest_fits = t.takes.rest_fits;
        allowed = record { plain = made_plain ids; field = from_ids ids t.takes.allowed };
      });
  small = λ ms q. subst Small (plain_text ms) ((ids_form 1 16 (lit< tt)).small (ids_of ms) (as_ids ms q.field));
  cut = λ ms k q lt.
      ap (λ t. plain_members_at (take k t)) (sym (plain_text ms))
      ∙ one_cut (ids_form 1 16 (lit< tt)) (map plain_member) (ids_of ms) (as_ids ms q.field) k (subst (λ (t : List ℕ). k < length t) (sym (plain_text ms)) lt);
}

-- ---- members with roles

abbrev id_of : Member → ℕ
id_of m = m.id

-- a member that follows those before it; where it is the last one, not all roles are plain
pub record MemberFollows (before : Before) (after : ℕ) (m : Member) : Type 0 where
  pub follows : Follows Below before.id m.id
  pub fits : FitsMember m
  pub rule : (not (before.plain && (after == 0)) || not (is_plain m.role)) ≡ true

pub member_form : (before : Before) (after : ℕ) → IsForm (MemberFollows before after) member_field (member_at before after)
unfolding member_field member_at
member_form before after =
    pair_form (Next Below itself IsId before.id after) id_field (id_below_at before.id) (id_below_form before.id after)
    (λ id. IsRole (not (before.plain && (after == 0)))) role_field (λ id. role_at (not (before.plain && (after == 0)))) (λ id. role_form (not (before.plain && (after == 0))))
    (MemberFollows before after) (λ m. m.id) (λ m. m.role) (λ id role. record { id = id; role = role })
    (record {
      whole = λ m. refl;
      first_is = λ id role. refl;
      second_is = λ id role. refl;
      from = λ id role p r. record { follows = p.follows; fits = record { id = p.each; rack = r.rack }; rule = r.test };
      to_first = λ m q. record { follows = q.follows; each = q.fits.id };
      to_second = λ m q. record { test = q.rule; rack = q.fits.rack };
    })

as_next : (before : Before) (ms : List Member) → AreItems MemberFollows with_member before ms → AreItems (Next Below itself IsId) (last_key itself) before.id (ids_of ms)
as_next before [] h = tt
as_next before (m ∷ ms) h = (record { follows = h.0.follows; each = h.0.fits.id }, as_next (with_member before m) ms h.1)

all_fit : (before : Before) (ms : List Member) → AreItems MemberFollows with_member before ms → AllByRecursion FitsMember ms
all_fit before [] h = tt
all_fit before (m ∷ ms) h = (h.0.fits, all_fit (with_member before m) ms h.1)

last_rule : (a b : Bool) → (not (a && true) || not b) ≡ true → (a && (b && true)) ≡ false
last_rule true true h = absurd cc
last_rule true false h = refl
last_rule false b h = refl

rule_last : (a b : Bool) → (a && (b && true)) ≡ false → (not (a && true) || not b) ≡ true
rule_last true true h = absurd cc
rule_last true false h = refl
rule_last false b h = refl

and_moved : (a b c : Bool) → ((a && b) && c) ≡ (a && (b && c))
and_moved true b c = refl
and_moved false b c = refl

not_last : (a b : Bool) (n : ℕ) → (not (a && (suc n == 0)) || not b) ≡ true
not_last true b n = let ne : (suc n == 0) ≡ false = ne_eqb (suc n) 0 (λ e. omega (arith, e)) in rw ne refl
not_last false b n = refl

-- not all roles are plain
some_role : (before : Before) (m : Member) (ms : List Member) → AreItems MemberFollows with_member before (m ∷ ms) → (before.plain && all_plain (m ∷ ms)) ≡ false
some_role before m [] h = last_rule before.plain (is_plain m.role) h.0.rule
some_role before m (n ∷ ms) h = sym (and_moved before.plain (is_plain m.role) (all_plain (n ∷ ms))) ∙ some_role (with_member before m) n ms h.1

members_follow : (before : Before) (m : Member) (ms : List Member) → AreItems (Next Below itself IsId) (last_key itself) before.id (ids_of (m ∷ ms)) → AllByRecursion FitsMember (m ∷ ms)
    → (before.plain && all_plain (m ∷ ms)) ≡ false → AreItems MemberFollows with_member before (m ∷ ms)
members_follow before m [] ids fit some = (record { follows = ids.0.follows; fits = fit.0; rule = rule_last before.plain (is_plain m.role) some }, tt)
members_follow before m (n ∷ ms) ids fit some = (
  record { follows = ids.0.follows; fits = fit.0; rule = not_last before.plain (is_plain m.role) (length ms) },
  members_follow (with_member before m) n ms ids.1 fit.1 (and_moved before.plain (is_plain m.role) (all_plain (n ∷ ms)) ∙ some),
)

pub record AreMembersWithRoles (ms : List Member) : Type 0 where
  pub roles : all_plain ms ≡ false
  pub field : AreMembersField ms

follow_from : (ms : List Member) → AreMembersWithRoles ms → AreItems MemberFollows with_member nobody_before ms
follow_from [] q = tt
follow_from (m ∷ ms) q =
    let fit = recursion_from_All FitsMember (m ∷ ms) q.field.fit in
    members_follow nobody_before m ms (items_from_none Below itself IsId (ids_of (m ∷ ms)) q.field.view.descending.falls (ids_fit (m ∷ ms) fit)) fit q.roles

roles_from : (ms : List Member) → 0 < length ms → AreItems MemberFollows with_member nobody_before ms → all_plain ms ≡ false
roles_from [] some h = absurd (omega (arith, some))
roles_from (m ∷ ms) some h = some_role nobody_before m ms h

pub members_form : IsForm AreMembersWithRoles members_field members_at
unfolding members_field members_at
members_form = form_as AreMembersWithRoles
    (counted_items_form (Allowed (between 1 16) 256) byte_field (byte_at (between 1 16)) (byte_form (between 1 16)) MemberFollows member_field member_at with_member member_form nobody_before)
    (λ ms q. record { count = count_from 1 16 (length ms) (lit< tt) q.field.view.some q.field.view.limit; each = follow_from ms q })
    (λ ms p.
    let range = between_is 1 16 (length ms) p.count.test in
    record {
      roles = roles_from ms range.0 p.each;
      field = record {
        view = record {
          some = range.0;
          limit = range.1;
          descending = record { falls = each_pair Below itself IsId below_trans None (ids_of ms) (as_next nobody_before ms p.each) };
        };
        fit = All-from_recursion FitsMember ms (all_fit nobody_before ms p.each);
      };
    })
