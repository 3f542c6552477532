-- A stamp that changes, or stays, by whether it has a view's key.
use Rattle.std.proofs.Common.{◌≡◌, ◌==◌, ℕ, Bool, true, false, not, cond, Option, Some, None, refl, sym, ap, ◌∙◌}
use Rattle.std.specs.Cmp.{unsigned_tied}
use Rattle.std.specs.FinMap as finite
use Rattle.std.specs.Ordering.{eq_by_cmp, nat_cmp}
use Rattle.std.proofs.lemmas.Cmp.{nat_cmp_total}
use Rattle.cluster_types.specs.declared.cluster_key.ClusterKey.{ClusterKey}
use Rattle.partition_lists.proofs.InOrderLaws.{equal, from_equal}
use Rattle.node_rules.specs.Copies.{Stamp, Stamps}
use Rattle.node_rules.specs.Keys.{same_key}
use Rattle.node_rules.specs.Stamps.{changed_stamps, no_class, recounted, spoiled}

-- what is there already and is put in again
pub put_again : (m : Stamps) (p : ℕ) (x : Stamp) → finite.get m p ≡ Some x → finite.insert m p x ≡ m
put_again m p x h =
    finite.same_map nat_cmp_total finite.nat_cmp-IsAntisymmetric _ _
    (λ q. finite.get-insert nat_cmp_total m p x q ∙ (ap (λ (b : Bool). cond b (Some x) (finite.get m q)) (unsigned_tied q p) ∙ go q (q == p) refl))
  where
    go : (q : ℕ) (b : Bool) → (q == p) ≡ b → cond b (Some x) (finite.get m q) ≡ finite.get m q
    go q true e = sym h ∙ ap (finite.get m) (sym (from_equal q p e))
    go q false e = refl

-- the stamps are as before where the one of the partition stays
pub kept_stamps : (m : Stamps) (p : ℕ) (x : Stamp) (change : Stamp → Stamp) → Some x ≡ finite.get m p → change x ≡ x → m ≡ changed_stamps m p change (finite.get m p)
kept_stamps m p x change there same = sym (ap (changed_stamps m p change) (sym there) ∙ (ap (finite.insert m p) same ∙ put_again m p x (sym there)))

pub spoiled_own : (of : ClusterKey) (x : Stamp) → false ≡ not (same_key x.0 of) → spoiled of x ≡ x
spoiled_own of x e = go (same_key x.0 of) e
  where
    go : (b : Bool) → false ≡ not b → cond b x (x.0, no_class) ≡ x
    go true i = refl
    go false i = cc

pub recounted_other : (of : ClusterKey) (n : ℕ) (x : Stamp) → false ≡ same_key x.0 of → recounted of n x ≡ x
recounted_other of n x e = rw (← e) refl

-- a stamp that is changed twice
pub changed_again : (m : Stamps) (p : ℕ) (first second : Stamp → Stamp)
    → changed_stamps (changed_stamps m p first (finite.get m p)) p second (finite.get (changed_stamps m p first (finite.get m p)) p) ≡ changed_stamps m p (λ x. second (first x)) (finite.get m p)
changed_again m p first second = go (finite.get m p) refl
  where
    there : (x : Stamp) → finite.get (finite.insert m p x) p ≡ Some x
    there x = finite.get-insert nat_cmp_total m p x p ∙ ap (λ (b : Bool). cond b (Some x) (finite.get m p)) (unsigned_tied p p ∙ equal p p refl)

    over : (b : Bool) (x y : Option Stamp) (o : Option Stamp) → cond b x (cond b y o) ≡ cond b x o
    over true x y o = refl
    over false x y o = refl

    twice : (x y : Stamp) → finite.insert (finite.insert m p y) p x ≡ finite.insert m p x
    twice x y =
        finite.same_map nat_cmp_total finite.nat_cmp-IsAntisymmetric _ _
        (λ q. finite.get-insert nat_cmp_total (finite.insert m p y) p x q
        ∙ (ap (λ (o : Option Stamp). cond (eq_by_cmp nat_cmp q p) (Some x) o) (finite.get-insert nat_cmp_total m p y q)
        ∙ (over (eq_by_cmp nat_cmp q p) (Some x) (Some y) (finite.get m q) ∙ sym (finite.get-insert nat_cmp_total m p x q))))

    go : (o : Option Stamp) → finite.get m p ≡ o → changed_stamps (changed_stamps m p first o) p second (finite.get (changed_stamps m p first o) p) ≡ changed_stamps m p (λ x. second (first x)) o
    go None e = ap (changed_stamps m p second) e
    go (Some x) e = ap (changed_stamps (finite.insert m p (first x)) p second) (there (first x)) ∙ twice (second (first x)) (first x)
