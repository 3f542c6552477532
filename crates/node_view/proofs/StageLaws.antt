-- How the fields of a view agree.
use Rattle.std.proofs.Common.{◌≡◌, ◌≢◌, ◌==◌, ◌&&◌, ◌||◌, ℕ, Bool, true, false, not, List, [], ◌∷◌, refl, sym, ap, ◌∙◌}
use Rattle.std.specs.List.{list_any}
use Rattle.std.proofs.lemmas.Bool.{and_parts, and_right}
use Rattle.cluster_types.specs.declared.member.Member.{Member}
use Rattle.cluster_types.specs.Distinct.{without}
use Rattle.cluster_types.specs.Members.{ids_of}
use Rattle.partition_lists.specs.Lists.{list}
use Rattle.partition_lists.proofs.InOrderLaws.{equal, from_equal, unequal}
use Rattle.node_rules.specs.Agreement.{others_among}
use Rattle.node_rules.specs.Exchange.{Exchange, is_member, members_of}
use Rattle.node_rules.specs.Map.{all_empty}
use Rattle.node_view.proofs.EmptyLaws.{empty_in_list}

-- whether all copies were empty, as a map tells it and as the view does
pub seen_empty : (x y : Exchange) (p : ℕ) → x ≡ y → true ≡ y.exchanged
    → all_empty (list (members_of x.view) p) x.rows p ≡ (y.exchanged && all_empty (ids_of (members_of y.view)) y.rows p)
seen_empty x y p same done =
    ap (λ (z : Exchange). all_empty (list (members_of z.view) p) z.rows p) same
    ∙ empty_in_list (members_of y.view) y.rows p
    ∙ ap (λ (b : Bool). b && all_empty (ids_of (members_of y.view)) y.rows p) done

-- ---- other members

-- one id more, which is the node itself, is looked for, or is neither
kept_without : (me n k : ℕ) (ids : List ℕ) (rest gone : Bool) → list_any (λ m. m == n) (without ids me) ≡ (rest && not gone) → (n == me) ≡ gone
    → (b c : Bool) → (k == me) ≡ b → (k == n) ≡ c → list_any (λ m. m == n) (without (k ∷ ids) me) ≡ ((c || rest) && not gone)
kept_without me n k ids rest true h self true c e i = rw (e, h) (and_right rest false refl ∙ sym (and_right (c || rest) false refl))
kept_without me n k ids rest false h self true true e i = absurd (let same : n ≡ me = sym (from_equal k n i) ∙ from_equal k me e in let wrong : false ≡ true = sym self ∙ equal n me same in cc)
kept_without me n k ids rest false h self true false e i = rw (e, h) refl
kept_without me n k ids rest true h self false true e i = absurd (let same : k ≡ me = from_equal k n i ∙ from_equal n me self in let wrong : false ≡ true = sym e ∙ equal k me same in cc)
kept_without me n k ids rest true h self false false e i = rw (e, i, h) refl
kept_without me n k ids rest false h self false true e i = rw (e, i) refl
kept_without me n k ids rest false h self false false e i = rw (e, i, h) refl

-- whether the node is another member
pub other_tells : (me n : ℕ) (ms : List Member) → list_any (λ m. m == n) (others_among me ms) ≡ (is_member ms n && not (n == me))
other_tells me n [] = refl
other_tells me n (m ∷ ms) = kept_without me n m.id (ids_of ms) (is_member ms n) (n == me) (other_tells me n ms) refl (m.id == me) (m.id == n) refl refl

pub other_from : (me n : ℕ) (ms : List Member) → list_any (λ m. m == n) (others_among me ms) ≡ true → (is_member ms n ≡ true) × (n ≢ me)
other_from me n ms h =
    let both = and_parts (is_member ms n) (not (n == me)) (sym (other_tells me n ms) ∙ h) in (
      both.0,
      λ (same : n ≡ me). let wrong : false ≡ true = sym (ap not (equal n me same)) ∙ both.1 in cc,
    )

pub is_other : (me n : ℕ) (ms : List Member) → is_member ms n ≡ true → n ≢ me → list_any (λ m. m == n) (others_among me ms) ≡ true
is_other me n ms member other = other_tells me n ms ∙ rw (member, unequal n me other) refl
