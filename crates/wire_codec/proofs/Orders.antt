-- What is read keeps its order, whatever the bytes are.
use Rattle.std.proofs.Common.{◌≡◌, ℕ, zero, suc, ◌<◌, ◌≤◌, List, [], ◌∷◌, length, map, None, Result, Ok, Err, refl, sym, ap, subst, arith, not, ◌&&◌}
use Rattle.std.specs.Prelude.{◌==◌, IsOk}
use Rattle.std.proofs.lemmas.List.{length-map}
use Rattle.cluster_types.specs.declared.member.Member.{Member}
use Rattle.cluster_types.specs.Distinct.{IsDescending}
use Rattle.cluster_types.specs.Members.{AreMembers, ids_of, plain_member}
use Rattle.wire_messages.specs.declared.fault.FieldFault.{FieldFault}
use Rattle.wire_messages.specs.declared.before.Before.{Before}
use Rattle.wire_messages.specs.Fields.{◌>>=◌, items_at}
use Rattle.wire_messages.specs.Nodes.{id_below_at, falling_id_at, falling_ids_at, role_at, nobody_before, with_member, member_at}
use Rattle.wire_messages.proofs.Forms.{bind_ok, ok_is, done}
use Rattle.wire_messages.proofs.ItemForms.{AreItems, Follows, Next, last_key, each_pair}
use Rattle.wire_codec.proofs.Lowest.{id_follows}
use Rattle.wire_messages.proofs.MemberForms.{ids_again}
use Rattle.wire_messages.proofs.NodeForms.{Below, itself, below_trans}
use Rattle.wire_messages.proofs.NumberForms.{always}

abbrev Item : Type 0 → Type 0 → Type 0
Item A C = C → ℕ → List ℕ → Result (A × List ℕ) FieldFault

pub record Held {A C : Type 0} (P : C → ℕ → A → Type 0) (add : C → A → C) (n : ℕ) (c : C) (xs : List A) : Type 0 where
  pub count : length xs ≡ n
  pub each : AreItems P add c xs

-- what holds of each item that is read holds of all of them
pub items_hold : {A C : Type 0} (item : Item A C) (add : C → A → C) (P : C → ℕ → A → Type 0)
    → ((c : C) (n : ℕ) (bytes : List ℕ) (x : A) (rest : List ℕ) → item c n bytes ≡ Ok (x, rest) → P c n x)
    → (n : ℕ) (c : C) (bytes : List ℕ) (xs : List A) (rest : List ℕ) → items_at item add n c bytes ≡ Ok (xs, rest) → Held P add n c xs
unfolding items_at
items_hold {A} {C} item add P one zero c bytes xs rest e =
    subst (λ (y : List A × List ℕ). Held P add 0 c y.0) (ok_is ([], bytes) (xs, rest) e) (record { count = refl; each = tt })
items_hold {A} {C} item add P one (suc n) c bytes xs rest e =
    let a = bind_ok (item c n bytes) (λ y. items_at item add n (add c y.0) y.1 >>= λ ys. Ok (y.0 ∷ ys.0, ys.1)) (xs, rest) e in
    let b = bind_ok (items_at item add n (add c a.0.0) a.0.1) (λ ys. Ok (a.0.0 ∷ ys.0, ys.1)) (xs, rest) a.2 in
    let more = items_hold item add P one n (add c a.0.0) a.0.1 b.0.0 b.0.1 b.1 in
    subst (λ (y : List A × List ℕ). Held P add (suc n) c y.0) (ok_is (a.0.0 ∷ b.0.0, b.0.1) (xs, rest) b.2)
    (record {
      count = ap suc more.count;
      each = (subst (λ k. P c k a.0.0) (sym more.count) (one c n bytes a.0.0 a.0.1 a.1), more.each);
    })

-- ---- ids

pub falling_ids_fall : (n : ℕ) (bytes : List ℕ) (ids rest : List ℕ) → falling_ids_at n bytes ≡ Ok (ids, rest) → (length ids ≡ n) × IsDescending ids
unfolding falling_ids_at
falling_ids_fall n bytes ids rest e =
    let h = items_hold falling_id_at (last_key itself) (Next Below itself always)
    (λ c k b x r read. record { follows = id_follows c b x r read; each = tt }) n None bytes ids rest e in
    (h.count, record { falls = each_pair Below itself always below_trans None ids h.each })

pub plain_members_are : (ids : List ℕ) → 0 < length ids → length ids ≤ 16 → IsDescending ids → AreMembers (map plain_member ids)
plain_members_are ids some limit falls =
    let len = length-map ids plain_member in
    record { some = omega (arith, some, len); limit = omega (arith, limit, len); descending = subst IsDescending (sym (ids_again ids)) falls }

-- ---- members

id_of : Member → ℕ
id_of m = m.id

abbrev MemberBelow : Before → ℕ → Member → Type 0
MemberBelow before after m = Follows Below before.id m.id

member_follows : (before : Before) (after : ℕ) (bytes : List ℕ) (m : Member) (rest : List ℕ) → member_at before after bytes ≡ Ok (m, rest) → MemberBelow before after m
unfolding member_at
member_follows before after bytes m rest e =
    let plain = not (before.plain && (after == 0)) in
    let a = bind_ok (id_below_at before.id bytes) (λ id. role_at plain id.1 >>= λ role. done {A = Member × List ℕ} (record { id = id.0; role = role.0 }, role.1)) (m, rest) e in
    let b = bind_ok (role_at plain a.0.1) (λ role. done {A = Member × List ℕ} (record { id = a.0.0; role = role.0 }, role.1)) (m, rest) a.2 in
    let same = ap (λ (y : Member × List ℕ). y.0.id) (ok_is (record { id = a.0.0; role = b.0.0 }, b.0.1) (m, rest) b.2) in
    subst (Follows Below before.id) same (id_follows before.id bytes a.0.0 a.0.1 a.1)

as_next : (before : Before) (ms : List Member) → AreItems MemberBelow with_member before ms → AreItems (Next Below itself always) (last_key itself) before.id (ids_of ms)
as_next before [] h = tt
as_next before (m ∷ ms) h = (record { follows = h.0; each = tt }, as_next (with_member before m) ms h.1)

pub members_are : (n : ℕ) (bytes : List ℕ) (ms : List Member) (rest : List ℕ) → 0 < n → n ≤ 16 → items_at member_at with_member n nobody_before bytes ≡ Ok (ms, rest) → AreMembers ms
members_are n bytes ms rest some limit e =
    let h = items_hold member_at with_member MemberBelow member_follows n nobody_before bytes ms rest e in
    record {
      some = omega (arith, some, h.count);
      limit = omega (arith, limit, h.count);
      descending = record { falls = each_pair Below itself always below_trans None (ids_of ms) (as_next nobody_before ms h.each) };
    }

-- ---- what was no error

pub not_refused : {A E : Type 0} (r : Result A E) (e : E) → r ≡ Err e → IsOk r → ⊥
not_refused (Ok x) e is ok = absurd cc
not_refused (Err f) e is ok = absurd cc
