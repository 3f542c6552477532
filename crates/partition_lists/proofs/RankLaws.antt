-- The order of ranks, and the ranks of different members.
use Rattle.std.proofs.Common.{◌≡◌, ℕ, true, false, refl, sym, ap, ◌∙◌}
use Rattle.std.specs.declared.cmp.Ordering.{Ordering}
use Rattle.std.specs.declared.cmp.Ordering.TheVariants.{Less, Equal, Greater}
use Rattle.std.specs.Ordering.{bool_cmp, ordering_then, ordering_reverse, is_lt}
use Rattle.std.specs.Cmp.{IsTotalOrder, IsStrictWeakOrder, bool_cmp_total}
use Rattle.std.specs.FinMap.{IsAntisymmetric, nat_cmp-IsAntisymmetric}
use Rattle.std.proofs.lemmas.Cmp.{nat_cmp_total, on_total, then_total, tied_itself}
use Rattle.std.proofs.lemmas.List.Sorted.{ranks_by}
use Rattle.cluster_types.specs.declared.member.Member.{Member}
use Rattle.partition_lists.specs.declared.ranks.Rank.{Rank}
use Rattle.partition_lists.specs.Hashes.{place}
use Rattle.partition_lists.specs.Ranks.{standing_cmp, rank_cmp, is_smaller}
use Rattle.partition_lists.proofs.InOrderLaws.{IsStrictOrder}

rank_cmp_total : IsTotalOrder rank_cmp
rank_cmp_total =
    then_total (on_total (λ (r : Rank). r.quiesced) bool_cmp_total)
    (then_total (on_total (λ (r : Rank). r.repeats_rack) bool_cmp_total)
    (then_total (on_total (λ (r : Rank). r.place) nat_cmp_total) (on_total (λ (r : Rank). r.id) nat_cmp_total)))

both_equal : (r s : Ordering) → ordering_then r s ≡ Equal → (r ≡ Equal) × (s ≡ Equal)
both_equal Less s e = cc
both_equal Equal s e = (refl, e)
both_equal Greater s e = cc

bool_cmp-IsAntisymmetric : IsAntisymmetric bool_cmp
bool_cmp-IsAntisymmetric false false e = refl
bool_cmp-IsAntisymmetric false true e = cc
bool_cmp-IsAntisymmetric true false e = cc
bool_cmp-IsAntisymmetric true true e = refl

rank_cmp-IsAntisymmetric : IsAntisymmetric rank_cmp
rank_cmp-IsAntisymmetric a b e =
    let first = both_equal _ _ e in
    let second = both_equal _ _ first.1 in
    let third = both_equal _ _ second.1 in
    let quiesced = bool_cmp-IsAntisymmetric a.quiesced b.quiesced first.0 in
    let repeats_rack = bool_cmp-IsAntisymmetric a.repeats_rack b.repeats_rack second.0 in
    let place = nat_cmp-IsAntisymmetric a.place b.place third.0 in
    let id = nat_cmp-IsAntisymmetric a.id b.id third.1 in
    λ i. record { quiesced = quiesced i; repeats_rack = repeats_rack i; place = place i; id = id i }

less : (r : Ordering) → is_lt r ≡ true → r ≡ Less
less Less h = refl
less Equal h = cc
less Greater h = cc

neither_less : (r : Ordering) → is_lt r ≡ false → is_lt (ordering_reverse r) ≡ false → r ≡ Equal
neither_less Less h k = cc
neither_less Equal h k = refl
neither_less Greater h k = cc

-- the test of a total order that tells all items apart is strict
strict_order : {K : Type 0} (R : K → K → Ordering) → IsTotalOrder R → IsAntisymmetric R → IsStrictOrder (λ a b. is_lt (R a b))
strict_order R o apart = record {
  transitive = λ a b c p q. ap is_lt (o.trans a b c (less _ p) (less _ q));
  irreflexive = λ a. ap is_lt (tied_itself o a);
  connected = λ a b p q. apart a b (neither_less (R a b) p (ap is_lt (sym (o.antisymm b a)) ∙ q));
}

pub rank_order : IsStrictOrder is_smaller
rank_order = strict_order rank_cmp rank_cmp_total rank_cmp-IsAntisymmetric

pub rank_weak_order : IsStrictWeakOrder is_smaller
rank_weak_order = ranks_by rank_cmp_total (λ (r : Rank). r)

standing_cmp_total : (p : ℕ) → IsTotalOrder (standing_cmp p)
standing_cmp_total p = then_total (on_total (λ (m : Member). place m.id p) nat_cmp_total) (on_total (λ (m : Member). m.id) nat_cmp_total)

-- of two members, one stands before the other unless they are the same node
pub standing_transitive : (p : ℕ) (a b c : Member) → is_lt (standing_cmp p a b) ≡ true → is_lt (standing_cmp p b c) ≡ true → is_lt (standing_cmp p a c) ≡ true
standing_transitive p a b c h k = ap is_lt ((standing_cmp_total p).trans a b c (less _ h) (less _ k))

pub standing_irreflexive : (p : ℕ) (a : Member) → is_lt (standing_cmp p a a) ≡ false
standing_irreflexive p a = ap is_lt (tied_itself (standing_cmp_total p) a)

pub standing_connected : (p : ℕ) (a b : Member) → is_lt (standing_cmp p a b) ≡ false → is_lt (standing_cmp p b a) ≡ false → a.id ≡ b.id
standing_connected p a b h k =
    let tied = both_equal _ _ (neither_less (standing_cmp p a b) h (ap is_lt (sym ((standing_cmp_total p).antisymm b a)) ∙ k)) in
    nat_cmp-IsAntisymmetric a.id b.id tied.1
