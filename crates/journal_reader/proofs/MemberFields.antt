-- Members, and lists of them.
use Rattle.std.proofs.Common.{◌≡◌, ℕ, ◌<◌, ◌≤◌, ◌==◌, Bool, true, false, cond, List, [], ◌∷◌, ◌++◌, map, Option, Some, refl, sym, ap, ◌∙◌, subst, arith}
use Rattle.std.specs.Prelude.{All, codes}
use Rattle.std.specs.List.{join_with_byte}
use Rattle.std.specs.Fmt.{decimal}
use Rattle.std.specs.Option.{option_map, option_and_then}
use Rattle.std.proofs.lemmas.Bool.{eqb-false, eqb-true, ne_eqb}
use Rattle.std.proofs.lemmas.List.{append-nil}
use Rattle.std.proofs.lemmas.List.Elements.{All-nil, All-cons, All-head, All-tail}
use Rattle.std.proofs.lemmas.Option.{none-some, same_Some, option_and_then_some}
use Rattle.cluster_types.specs.declared.member.Role.{Role}
use Rattle.cluster_types.specs.declared.member.Member.{Member}
use Rattle.cluster_types.specs.Members.{plain_member}
use Rattle.cluster_types.specs.Texts.{node_text}
use Rattle.wire_messages.specs.Nodes.{IsId, FitsMember}
use Rattle.journal_lines.specs.Proper.{IsByte}
use Rattle.journal_reader.specs.Fields.{Reader, parts_of, with_field, at_end, all_of, number_in, parsed_node, rack_of, nothing_of, role_in, parsed_role, parsed_member_parts, parsed_member}
use Rattle.journal_text.specs.Values.{rack_text, member_text}
use Rattle.journal_reader.proofs.Readers.{Reads, Back, Only, AreClean, IsFull, ended_back, field_back, ended_only, field_only, reads_all, reads_wider, reads_parts, reads_same, map_some}
use Rattle.journal_reader.proofs.NumberFields.{IsDigit, InRange, reads_number}
use Rattle.journal_reader.proofs.KeyFields.{rack_digits, node_digits}
use Rattle.journal_reader.proofs.VersionFields.{nothing_field}

-- a byte of a member, and no slash or comma
pub record IsMemberByte (b : ℕ) : Type 0 where
  pub low : 48 ≤ b

-- a byte that may stand in a field, and no comma
pub record IsNoComma (b : ℕ) : Type 0 where
  pub above : 32 < b
  pub other : b ≡ 44 → ⊥

of_digit : (b : ℕ) → IsDigit b → IsMemberByte b
of_digit b d = record { low = d.low }

no_comma : (b : ℕ) → IsMemberByte b → IsNoComma b
no_comma b d = let low = d.low in record { above = omega arith; other = λ e. omega arith }

-- ---- roles

-- a role that isn't plain, with a rack below 256
abbrev IsMarked : ℕ → Bool → Type 0
IsMarked rack true = rack < 256
IsMarked rack false = (0 < rack) × (rack < 256)

abbrev IsMarkedRole : Role → Type 0
IsMarkedRole r = IsMarked r.rack r.quiesced

abbrev role_parts : ℕ → Bool → List (List ℕ)
role_parts rack true = decimal rack ∷ [] ∷ []
role_parts rack false = decimal rack ∷ []

positive_rack : Reads IsDigit (InRange 1 255) decimal (number_in 1 255)
positive_rack = reads_number 1 255 (omega arith)

abbrev quiesced_in : Reader Role
quiesced_in = with_field rack_of (λ n. with_field nothing_of (λ rest. at_end (record { rack = n; quiesced = true })))

quiesced_only : Only quiesced_in (λ fields r. (role_parts r.rack r.quiesced ≡ fields) × IsMarkedRole r)
quiesced_only = field_only rack_digits (λ n g. field_only (nothing_field IsDigit) (λ xs e. ended_only _ (ap (λ ys. decimal n ∷ ys ∷ []) (sym e), g)))

role_back_at : (rack : ℕ) (quiesced : Bool) → IsMarked rack quiesced → Back IsDigit role_in (role_parts rack quiesced) (record { rack = rack; quiesced = quiesced })
unfolding role_in
role_back_at rack true g =
    let b = field_back _ rack_digits rack g (field_back _ (nothing_field IsDigit) [] refl (ended_back IsDigit (record { rack = rack; quiesced = true }))) in
    record { again = b.again; clean = b.clean }
role_back_at rack false g =
    let some = g.0 in
    let small = g.1 in
    let good : InRange 1 255 rack = record { low = omega arith; high = omega arith } in
    record {
      again = ap (option_map (λ n. record { rack = n; quiesced = false })) (positive_rack.again rack good);
      clean = (positive_rack.clean rack good, tt);
    }

role_only_at : (fields : List (List ℕ)) (r : Role) → role_in fields ≡ Some r → (role_parts r.rack r.quiesced ≡ fields) × IsMarkedRole r
unfolding role_in
role_only_at [] r e = absurd (none-some r e)
role_only_at (rack ∷ []) r e =
    let m = map_some (λ n. record { rack = n; quiesced = false }) (number_in 1 255 rack) r e in
    let w = positive_rack.written rack m.0 m.1 in
    let low = w.1.low in
    let high = w.1.high in
    subst (λ (s : Role). (role_parts s.rack s.quiesced ≡ rack ∷ []) × IsMarkedRole s) m.2 (ap (λ t. t ∷ []) w.0, (omega arith, omega arith))
role_only_at (rack ∷ mark ∷ fields) r e = quiesced_only.only (rack ∷ mark ∷ fields) r e

role_full : (rack : ℕ) (quiesced : Bool) → IsFull (role_parts rack quiesced)
role_full rack true = tt
role_full rack false = tt

abbrev marked_text : Role → List ℕ
marked_text r = join_with_byte 113 (role_parts r.rack r.quiesced)

role_read : (text : List ℕ) → parsed_role text ≡ role_in (parts_of 113 text)
unfolding parsed_role
role_read text = refl

role_field : Reads IsMemberByte IsMarkedRole marked_text parsed_role
role_field = reads_same marked_text parsed_role (λ r. refl) role_read
    (reads_parts 113 (λ b d. let high = d.high in ne_eqb b 113 (λ e. omega arith)) of_digit (record { low = omega arith }) (λ r g. role_full r.rack r.quiesced)
    (reads_all (λ r g. role_back_at r.rack r.quiesced g) (record { only = role_only_at })))

-- ---- members

-- what stands behind the slash, if a slash stands there
abbrev marked_part : ℕ → Bool → List (List ℕ)
marked_part rack true = marked_text (record { rack = rack; quiesced = true }) ∷ []
marked_part rack false = cond (rack == 0) [] (decimal rack ∷ [])

abbrev member_parts : Member → List (List ℕ)
member_parts m = node_text m.id ∷ marked_part m.role.rack m.role.quiesced

node_member : Reads IsMemberByte IsId node_text parsed_node
node_member = reads_wider of_digit node_digits

abbrev marked_in : Reader Member
marked_in = with_field parsed_node
    (λ n. with_field parsed_role (λ r. at_end (record { id = n; role = r })))

-- members by their numbers and mark
abbrev IsMember : ℕ → ℕ → Bool → Type 0
IsMember id rack quiesced = IsId id × IsByte rack

abbrev member_at : ℕ → ℕ → Bool → Member
member_at id rack quiesced = record { id = id; role = record { rack = rack; quiesced = quiesced } }

marked_back : (id rack : ℕ) (quiesced : Bool) → IsId id → IsMarked rack quiesced
    → Back IsMemberByte marked_in (node_text id ∷ marked_text (record { rack = rack; quiesced = quiesced }) ∷ []) (member_at id rack quiesced)
marked_back id rack quiesced i g =
    field_back _ node_member id i (field_back _ role_field (record { rack = rack; quiesced = quiesced }) g (ended_back IsMemberByte (member_at id rack quiesced)))

plain_back : (id rack : ℕ) → IsId id → rack ≡ 0 → Back IsMemberByte parsed_member_parts (node_text id ∷ []) (member_at id rack false)
unfolding parsed_member_parts
plain_back id rack i e =
    record {
      again = ap (option_map plain_member) (node_member.again id i) ∙ ap (λ n. Some (member_at id n false)) (sym e);
      clean = (node_member.clean id i, tt);
    }

member_back_by : (id rack : ℕ) (t : Bool) → (rack == 0) ≡ t → IsId id → IsByte rack
    → Back IsMemberByte parsed_member_parts (node_text id ∷ cond t [] (decimal rack ∷ [])) (member_at id rack false)
unfolding parsed_member_parts
member_back_by id rack true is i g = plain_back id rack i (eqb-true _ _ is)
member_back_by id rack false is i g =
    let other = eqb-false rack 0 is in
    let b = marked_back id rack false i (omega arith, g) in
    record { again = b.again; clean = b.clean }

member_back_at : (id rack : ℕ) (quiesced : Bool) → IsId id → IsByte rack → Back IsMemberByte parsed_member_parts (member_parts (member_at id rack quiesced)) (member_at id rack quiesced)
unfolding parsed_member_parts
member_back_at id rack true i g =
    let b = marked_back id rack true i g in
    record { again = b.again; clean = b.clean }
member_back_at id rack false i g = member_back_by id rack _ refl i g

marked_is_by : (id rack : ℕ) (quiesced : Bool) → IsId id → IsMarked rack quiesced
    → (node_text id ∷ marked_text (record { rack = rack; quiesced = quiesced }) ∷ [] ≡ member_parts (member_at id rack quiesced)) × IsByte rack
marked_is_by id rack true i g = (refl, g)
marked_is_by id rack false i g =
    let some = g.0 in
    (ap (λ t. node_text id ∷ cond t [] (decimal rack ∷ [])) (sym (ne_eqb rack 0 (λ e. omega arith))), g.1)

marked_only : Only marked_in (λ fields m. (member_parts m ≡ fields) × FitsMember m)
marked_only = field_only node_member (λ n i. field_only role_field (λ r g. ended_only _
    (let w = marked_is_by n r.rack r.quiesced i g in (sym w.0, record { id = i; rack = w.1 }))))

member_only_at : (fields : List (List ℕ)) (m : Member) → parsed_member_parts fields ≡ Some m → (member_parts m ≡ fields) × FitsMember m
unfolding parsed_member_parts
member_only_at [] m e = absurd (none-some m e)
member_only_at (id ∷ []) m e =
    let s = map_some plain_member (parsed_node id) m e in
    let w = node_member.written id s.0 s.1 in
    subst (λ (n : Member). (member_parts n ≡ id ∷ []) × FitsMember n) s.2 (ap (λ t. t ∷ []) w.0, record { id = w.1; rack = omega arith })
member_only_at (id ∷ role ∷ fields) m e = marked_only.only (id ∷ role ∷ fields) m e

member_join_by : (id : List ℕ) (rack : ℕ) (t : Bool) → join_with_byte 47 (id ∷ cond t [] (decimal rack ∷ [])) ≡ id ++ cond t [] (codes "/" ++ decimal rack)
member_join_by id rack true = sym (append-nil id)
member_join_by id rack false = refl

member_join_at : (id rack : ℕ) (quiesced : Bool) → join_with_byte 47 (member_parts (member_at id rack quiesced)) ≡ node_text id ++ rack_text rack quiesced
member_join_at id rack true = refl
member_join_at id rack false = member_join_by (node_text id) rack (rack == 0)

member_read : (text : List ℕ) → parsed_member text ≡ parsed_member_parts (parts_of 47 text)
unfolding parsed_member
member_read text = refl

pub member_field : Reads IsNoComma FitsMember member_text parsed_member
member_field = reads_same member_text parsed_member (λ m. member_join_at m.id m.role.rack m.role.quiesced) member_read
    (reads_parts 47 (λ b d. let low = d.low in ne_eqb b 47 (λ e. omega arith)) no_comma (record { above = omega arith; other = λ e. omega arith }) (λ m g. tt)
    (reads_all (λ m g. member_back_at m.id m.role.rack m.role.quiesced g.id g.rack) (record { only = member_only_at })))

-- ---- each of several

pub each_again : {A : Type 0} {P : ℕ → Type 0} {Good : A → Type 0} {write : A → List ℕ} {read : List ℕ → Option A} → Reads P Good write read
    → (xs : List A) → All Good xs → (all_of read (map write xs) ≡ Some xs) × AreClean P (map write xs)
unfolding all_of
each_again r [] g = (refl, tt)
each_again {Good = Good} {write = write} {read = read} r (x ∷ xs) g =
    let first = All-head Good x xs g in
    let more = each_again r xs (All-tail Good x xs g) in (
      ap (option_and_then (λ y. option_map (λ ys. y ∷ ys) (all_of read (map write xs)))) (r.again x first)
          ∙ ap (option_map (λ ys. x ∷ ys)) more.0,
      (r.clean x first, more.1),
    )

pub each_written : {A : Type 0} {P : ℕ → Type 0} {Good : A → Type 0} {write : A → List ℕ} {read : List ℕ → Option A} → Reads P Good write read
    → (fields : List (List ℕ)) (xs : List A) → all_of read fields ≡ Some xs → (map write xs ≡ fields) × All Good xs
unfolding all_of
each_written {Good = Good} {write = write} r [] xs e = subst (λ ys. (map write ys ≡ []) × All Good ys) (same_Some [] xs e) (refl, All-nil Good)
each_written {Good = Good} {write = write} {read = read} r (field ∷ fields) xs e =
    option_and_then_some (λ y. option_map (λ ys. y ∷ ys) (all_of read fields)) (read field) xs e (λ y is rest.
    let m = map_some (λ ys. y ∷ ys) (all_of read fields) xs rest in
    let first = r.written field y is in
    let more = each_written r fields m.0 m.1 in
    subst (λ ys. (map write ys ≡ field ∷ fields) × All Good ys) m.2
    ((λ i. first.0 i ∷ more.0 i), All-cons Good y m.0 first.1 more.1))
