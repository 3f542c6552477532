-- What the calls on one chain make of a store's records and of its room.
use Rattle.std.proofs.Common.{◌≡◌, ℕ, ◌<◌, ◌≤◌, ◌+◌, ◌-◌, Bool, true, false, cond, Option, Some, None, refl, All, take, List, [], ◌∷◌, map, length, get_or, set, sym, ap, subst, ◌∙◌, arith}
use Rattle.std.specs.FinMap.{find, put, get, insert, empty}
use Rattle.std.proofs.lemmas.List.{length-map, get_or-map, map-set}
use Rattle.conflict_order.specs.declared.version.Version.{Version}
use Rattle.cluster_types.specs.Copies.{digests_of, without_copy}
use Rattle.cluster_types.specs.Partitions.{partition_count, partition_of}
use Rattle.sorted_chain.specs.Chain.{Chain}
use Rattle.sorted_chain.specs.Chain as chain
use Rattle.conflict_order.specs.declared.policy.Policy.{Policy}
use Rattle.conflict_order.specs.Order.{is_newer}
use Rattle.std.specs.Ordering.{is_lt}
use Rattle.record_store.specs.declared.joined.Joined.TheVariants.{Newer, Kept}
use Rattle.record_store.specs.Store.{digests_above, answer}
use Rattle.record_store.specs.Copies.{Entries, copies_of, versions_of, IsCopy, AreCopies}
use Rattle.record_store.proofs.CopyLaws.{digest_cmp, get_versions, digests_of_copy, copies_set, is_copy_empty, is_copy_put, versions_clear, versions_put, versions_new}

passed : (b : Bool) (e : List ℕ × Version) (es : Entries) (ds : List (List ℕ)) → map (λ (e : List ℕ × Version). e.0) es ≡ ds → map (λ (e : List ℕ × Version). e.0) (cond b (e ∷ es) es) ≡ cond b (e.0 ∷ ds) ds
passed true e es ds h = ap (λ fs. e.0 ∷ fs) h
passed false e es ds h = h

-- the digests above one are those of the entries above it
pub above_digests : (after : Option (List ℕ)) (es : Entries) → map (λ e. e.0) (chain.above after es) ≡ digests_above after (map (λ e. e.0) es)
above_digests None es = refl
above_digests (Some d) [] = refl
above_digests (Some d) (e ∷ es) = passed (is_lt (digest_cmp d e.0)) e (chain.above (Some d) es) (digests_above (Some d) (map (λ e. e.0) es)) (above_digests (Some d) es)

module _ (cs : List (Chain Version)) (h : AreCopies (copies_of cs)) (p : ℕ) (within : p < partition_count) (x : Chain Version) (at : x ≡ get_or cs p x) where
  pub chain_within : p < length cs
  chain_within = omega (arith, within, h.count, length-map cs (λ (c : Chain Version). c.items))

  -- the list at the place of the chain
  list_at : get_or (copies_of cs) p x.items ≡ x.items
  list_at = get_or-map (λ (c : Chain Version). c.items) cs p x x.items chain_within ∙ ap (λ (c : Chain Version). c.items) (sym at)

  pub held : (d : List ℕ) → p ≡ partition_of d → find digest_cmp d x.items ≡ get (versions_of (copies_of cs)) d
  held d of = sym (get_versions (copies_of cs) h d x.items ∙ ap (λ n. find digest_cmp d (get_or (copies_of cs) n x.items)) (sym of) ∙ ap (find digest_cmp d) list_at)

  pub digests_held : digests_of (versions_of (copies_of cs)) p ≡ map (λ e. e.0) x.items
  digests_held = digests_of_copy (copies_of cs) h p x.items within ∙ ap (map (λ (e : List ℕ × Version). e.0)) list_at

  -- the first digests of a walk
  pub walked : (after : Option (List ℕ)) (max : ℕ) (es : Entries) → es ≡ chain.above after x.items → take max (map (λ e. e.0) es) ≡ take max (digests_above after (digests_of (versions_of (copies_of cs)) p))
  walked after max es is =
      ap (λ (fs : Entries). take max (map (λ e. e.0) fs)) is
      ∙ ap (take max) (above_digests after x.items ∙ ap (digests_above after) (sym digests_held))

  module _ (y : Chain Version) where
    copies_are : (es : Entries) → y.items ≡ es → copies_of (set cs p y) ≡ set (copies_of cs) p es
    copies_are es is = map-set (λ (c : Chain Version). c.items) cs p y ∙ ap (λ fs. set (copies_of cs) p fs) is

    pub cleared : y.items ≡ [] → record { copies : AreCopies (copies_of (set cs p y)); versions : versions_of (copies_of (set cs p y)) ≡ without_copy (versions_of (copies_of cs)) p }
    cleared is = record {
      copies = subst AreCopies (sym (copies_are [] is)) (copies_set (copies_of cs) h p x.items within [] (is_copy_empty (copies_of cs) h p x.items within));
      versions = ap versions_of (copies_are [] is) ∙ versions_clear (copies_of cs) h p x.items within;
    }

    pub took : (d : List ℕ) (v : Version) → p ≡ partition_of d → y.items ≡ put digest_cmp d v x.items → record { copies : AreCopies (copies_of (set cs p y)); versions : versions_of (copies_of (set cs p y)) ≡ insert (versions_of (copies_of cs)) d v }
    took d v of is =
        let made : y.items ≡ put digest_cmp d v (get_or (copies_of cs) p x.items) = is ∙ ap (put digest_cmp d v) (sym list_at) in
        record {
          copies = subst AreCopies (sym (copies_are _ made)) (copies_set (copies_of cs) h p x.items within _ (is_copy_put (copies_of cs) h p x.items within d v (sym of)));
          versions = ap versions_of (copies_are _ made) ∙ versions_put (copies_of cs) h p x.items within d v (sym of);
        }

newer_is : (b : Bool) → cond b Newer Kept ≡ Newer → b ≡ true
newer_is true e = refl
newer_is false e = cc

kept_is : (b : Bool) → cond b Newer Kept ≡ Kept → b ≡ false
kept_is true e = cc
kept_is false e = refl

-- what an answer says
pub is_newer_of : (by : Policy) (v : Version) (o : Option Version) → answer by v o ≡ Newer → is_newer by v o ≡ true
is_newer_of by v o e = newer_is (is_newer by v o) e

pub is_not_newer_of : (by : Policy) (v : Version) (o : Option Version) → answer by v o ≡ Kept → is_newer by v o ≡ false
is_not_newer_of by v o e = kept_is (is_newer by v o) e

pub lowered : (b : Bool) (s t : ℕ) → t ≡ cond b s (s - 1) → s ≤ t + 1
lowered true s t e = omega (arith, e)
lowered false s t e = omega (arith, e)

-- chains without entries
pub new_copies : (cs : List (Chain Version)) → length cs ≡ partition_count → All (λ c. c.items ≡ []) cs → record { copies : AreCopies (copies_of cs); versions : versions_of (copies_of cs) ≡ empty }
new_copies cs count none =
    let list_none : (j : ℕ) (z : Entries) → j < length (copies_of cs) → get_or (copies_of cs) j z ≡ [] =
    λ j z within. get_or-map (λ (c : Chain Version). c.items) cs j (record { items = []; spare = 0 }) z (omega (arith, within, length-map cs (λ (c : Chain Version). c.items)))
    ∙ none j (record { items = []; spare = 0 }) (omega (arith, within, length-map cs (λ (c : Chain Version). c.items))) in
    record {
      copies = record {
        count = length-map cs (λ (c : Chain Version). c.items) ∙ count;
        each = λ j z within. subst (IsCopy j) (sym (list_none j z within)) (record { rising = refl; home = λ d v e. cc });
      };
      versions = versions_new (copies_of cs) list_none;
    }
