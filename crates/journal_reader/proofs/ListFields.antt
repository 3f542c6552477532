-- Lists of members.
use Rattle.std.proofs.Common.{◌≡◌, ℕ, ◌<◌, ◌==◌, Bool, true, false, cond, List, [], ◌∷◌, ◌++◌, length, map, Option, Some, None, refl, sym, ap, ◌∙◌, subst, arith, append_assoc}
use Rattle.std.specs.Prelude.{All, codes}
use Rattle.std.specs.List.{join_with_byte}
use Rattle.std.specs.Str.{bytes_eq}
use Rattle.std.specs.Option.{option_and_then}
use Rattle.std.proofs.lemmas.Bool.{ne_eqb}
use Rattle.std.proofs.lemmas.List.{append-nil, length-map}
use Rattle.std.proofs.lemmas.List.Concat.{flat_map-cons}
use Rattle.std.proofs.lemmas.List.Elements.{All-nil, All-head}
use Rattle.std.proofs.lemmas.List.Splits.{length-slice_split, join_with_byte-slice_split}
use Rattle.std.proofs.lemmas.Option.{cond_some, same_Some, option_and_then_some}
use Rattle.cluster_types.specs.declared.member.Member.{Member}
use Rattle.cluster_types.specs.Members.{ids_of}
use Rattle.cluster_types.specs.Texts.{node_text}
use Rattle.wire_messages.specs.Nodes.{FitsMember, AreMembersField}
use Rattle.journal_lines.specs.Proper.{AreListed}
use Rattle.journal_reader.specs.Fields.{parts_of, all_of, parsed_member, some_members_of, are_members, are_distinct_members, if_allowed, parsed_members, list_of}
use Rattle.journal_text.specs.Values.{role_text, member_text, more_members_text, members_text}
use Rattle.journal_reader.proofs.Readers.{Reads, ReadsAll, IsFull, split_join, join_clean, reads_same}
use Rattle.journal_reader.proofs.KeyFields.{IsVisible}
use Rattle.journal_reader.proofs.ByteFields.{word_case, word_clean}
use Rattle.journal_reader.proofs.VersionFields.{no_word}
use Rattle.journal_reader.proofs.MemberFields.{IsNoComma, member_field, each_again, each_written}
use Rattle.journal_reader.proofs.PairLaws.{distinct_from_test, test_of_distinct, members_from_test, test_of_members}

-- members that fit, of which there are some
record AreSome (members : List Member) : Type 0 where
  fit : All FitsMember members
  some : 0 < length members

members_join : (m : Member) (ms : List Member) → join_with_byte 44 (map member_text (m ∷ ms)) ≡ members_text (m ∷ ms)
members_join m [] = sym (append-nil (member_text m))
members_join m (n ∷ ms) =
    ap (λ t. member_text m ++ 44 ∷ t) (members_join n ms)
    ∙ ap (λ t. member_text m ++ t) (sym (flat_map-cons (λ x. codes "," ++ member_text x) n ms))

joined : (members : List Member) → 0 < length members → join_with_byte 44 (map member_text members) ≡ members_text members
joined [] some = absurd (omega (arith, some))
joined (m ∷ ms) some = members_join m ms

some_full : (members : List Member) → AreSome members → IsFull (map member_text members)
some_full [] g = let some = g.some in absurd (omega (arith, some))
some_full (m ∷ ms) g = tt

each_member : ReadsAll IsNoComma (All FitsMember) (map member_text) (all_of parsed_member)
each_member = record {
  again = λ ms g. (each_again member_field ms g).0;
  written = λ fields ms e. each_written member_field fields ms e;
  clean = λ ms g. (each_again member_field ms g).1;
}

between_commas : (members : List Member) → AreSome members → all_of parsed_member (parts_of 44 (members_text members)) ≡ Some members
between_commas members g =
    ap (λ t. all_of parsed_member (parts_of 44 t)) (sym (joined members g.some))
    ∙ ap (all_of parsed_member) (split_join IsNoComma 44 (λ b d. ne_eqb b 44 d.other) (map member_text members) (some_full members g) (each_member.clean members g.fit))
    ∙ each_member.again members g.fit

split_some : (text : List ℕ) → 0 < length (parts_of 44 text)
split_some text = let count = length-slice_split (λ b. b == 44) text in omega (arith, count)

between_commas_written : (text : List ℕ) (members : List Member) → all_of parsed_member (parts_of 44 text) ≡ Some members → (members_text members ≡ text) × All FitsMember members
between_commas_written text members e =
    let w = each_member.written (parts_of 44 text) members e in
    let count : length (parts_of 44 text) ≡ length members = ap length (sym w.0) ∙ length-map members member_text in
    let parts = split_some text in
    (sym (joined members (omega arith)) ∙ ap (join_with_byte 44) w.0 ∙ join_with_byte-slice_split 44 text, w.1)

no_none : (m : Member) (ms : List Member) → FitsMember m → bytes_eq (members_text (m ∷ ms)) (codes "none") ≡ false
no_none m ms g =
    let fits = g.id.fits in
    ap (λ t. bytes_eq t (codes "none")) (append_assoc (node_text m.id) (role_text m.role) (more_members_text ms))
    ∙ no_word m.id (role_text m.role ++ more_members_text ms) (codes "none") (omega arith) (omega arith)

some_members_again : (members : List Member) → All FitsMember members → some_members_of (members_text members) ≡ Some members
unfolding some_members_of
some_members_again [] g = refl
some_members_again (m ∷ ms) g =
    ap (λ t. cond t (Some []) (all_of parsed_member (parts_of 44 (members_text (m ∷ ms))))) (no_none m ms (All-head FitsMember m ms g))
    ∙ between_commas (m ∷ ms) (record { fit = g; some = omega arith })

some_members_written : (text : List ℕ) (members : List Member) → some_members_of text ≡ Some members → (members_text members ≡ text) × All FitsMember members
unfolding some_members_of
some_members_written text members e =
    word_case ((members_text members ≡ text) × All FitsMember members) text (codes "none") (Some []) (all_of parsed_member (parts_of 44 text)) members
    (λ s i. subst (λ (ms : List Member). (members_text ms ≡ text) × All FitsMember ms) (same_Some [] members i) (s, All-nil FitsMember))
    (λ other. between_commas_written text members other) e

members_clean : (members : List Member) → All FitsMember members → All IsVisible (members_text members)
members_clean [] g = word_clean (codes "none") refl
members_clean (m ∷ ms) g =
    subst (All IsVisible) (members_join m ms)
    (join_clean IsNoComma IsVisible 44 (λ b d. record { above = d.above }) (record { above = omega arith }) (map member_text (m ∷ ms)) (each_member.clean (m ∷ ms) g))

some_members : Reads IsVisible (All FitsMember) members_text some_members_of
some_members = record { again = some_members_again; written = some_members_written; clean = members_clean }

-- a reader with a test behind it
pub reads_tested : {A : Type 0} {P : ℕ → Type 0} {G H : A → Type 0} {write : A → List ℕ} {read : List ℕ → Option A} (test : A → Bool)
    → Reads P G write read → ((x : A) → H x → G x) → ((x : A) → H x → test x ≡ true) → ((x : A) → G x → test x ≡ true → H x)
    → Reads P H write (λ text. option_and_then (if_allowed test) (read text))
reads_tested {H = H} {write = write} {read = read} test r weaker passes good = record {
  again = λ x h. ap (option_and_then (if_allowed test)) (r.again x (weaker x h)) ∙ ap (λ t. cond t (Some x) None) (passes x h);
  written = λ text x e. option_and_then_some (if_allowed test) (read text) x e (λ y is allowed.
      let c = cond_some (test y) y x allowed in
      let w = r.written text y is in
      subst (λ z. (write z ≡ text) × H z) c.1 (w.0, good y w.1 c.0));
  clean = λ x h. r.clean x (weaker x h);
}

members_read : (text : List ℕ) → parsed_members text ≡ option_and_then (if_allowed are_members) (some_members_of text)
unfolding parsed_members
members_read text = refl

pub members_field : Reads IsVisible AreMembersField members_text parsed_members
members_field = reads_same members_text parsed_members (λ ms. refl) members_read
    (reads_tested are_members some_members (λ ms h. h.fit) (λ ms h. test_of_members ms h.view) (λ ms g t. record { view = members_from_test ms t; fit = g }))

list_read : (text : List ℕ) → list_of text ≡ option_and_then (if_allowed are_distinct_members) (some_members_of text)
unfolding list_of
list_read text = refl

listed : (ms : List Member) → AreListed ms → are_distinct_members ms ≡ true
listed ms h =
    let limit = h.distinct.limit in
    let same = length-map ms (λ m. m.id) in
    test_of_distinct (ids_of ms) (record { limit = omega (arith, limit, same); distinct = h.distinct.distinct })

listed_from : (ms : List Member) → All FitsMember ms → are_distinct_members ms ≡ true → AreListed ms
listed_from ms g t =
    let list = distinct_from_test (ids_of ms) t in
    let limit = list.limit in
    let same = length-map ms (λ m. m.id) in
    record { distinct = record { limit = omega (arith, limit, same); distinct = list.distinct }; fit = g }

pub list_field : Reads IsVisible AreListed members_text list_of
list_field = reads_same members_text list_of (λ ms. refl) list_read
    (reads_tested are_distinct_members some_members (λ ms h. h.fit) listed listed_from)
