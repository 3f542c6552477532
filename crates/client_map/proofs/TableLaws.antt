-- Tables by the keys and the marks that they have of a partition.
use Rattle.std.proofs.Common.{◌≡◌, ◌≢◌, ℕ, ◌<◌, length, take, subst, ◌==◌, ◌&&◌, ◌||◌, nat_lt, Bool, true, false, not, cond, List, [], ◌∷◌, ◌++◌, Option, Some, None, refl, sym, ap, ◌∙◌, arith, option_map}
use Rattle.std.specs.Prelude.{slice_index, slice_index_or}
use Rattle.cluster_types.specs.Partitions.{partition_count}
use Rattle.std.proofs.Math.Seq.{take-append_seam}
use Rattle.std.proofs.lemmas.Bool.Decides.{nat_tests}
use Rattle.cluster_types.specs.Rows.{bit}
use Rattle.wire_messages.specs.declared.message.MapTable.{MapTable}
use Rattle.node_rules.specs.Client.{Tables, is_later_at, latest_at, node_for}
use Rattle.client_map.specs.declared.client_map.Entry.{Entry}
use Rattle.client_map.specs.Entries.{Holds, told_entry, is_later, later_entry, told_at}
use Rattle.client_map.proofs.BestLaws.{IsStrict, best_more, none_best, later_of}

-- whether the first of two keys is greater, or it is the same and only the first has moved
abbrev beats : (r p : ℕ) (m : Bool) (s q : ℕ) (n : Bool) → Bool
beats r p m s q n = (nat_lt s r || ((s == r) && nat_lt q p)) || (((r == s) && (p == q)) && (m && not n))

beats_itself : (r p : ℕ) (m : Bool) → beats r p m r p m ≡ false
beats_itself r p true = grind (arith, nat_tests)
beats_itself r p false = grind (arith, nat_tests)

beats_one_way : (r p : ℕ) (m : Bool) (s q : ℕ) (n : Bool) → beats r p m s q n ≡ true → beats s q n r p m ≡ false
beats_one_way r p true s q true h = grind (arith, nat_tests)
beats_one_way r p true s q false h = grind (arith, nat_tests)
beats_one_way r p false s q true h = grind (arith, nat_tests)
beats_one_way r p false s q false h = grind (arith, nat_tests)

beats_through : (r p : ℕ) (m : Bool) (s q : ℕ) (n : Bool) (t u : ℕ) (o : Bool) → beats r p m s q n ≡ false → beats s q n t u o ≡ false → beats r p m t u o ≡ false
beats_through r p true s q true t u true h i = grind (arith, nat_tests)
beats_through r p true s q true t u false h i = grind (arith, nat_tests)
beats_through r p true s q false t u true h i = grind (arith, nat_tests)
beats_through r p true s q false t u false h i = grind (arith, nat_tests)
beats_through r p false s q true t u true h i = grind (arith, nat_tests)
beats_through r p false s q true t u false h i = grind (arith, nat_tests)
beats_through r p false s q false t u true h i = grind (arith, nat_tests)
beats_through r p false s q false t u false h i = grind (arith, nat_tests)

later_is_strict : (p : ℕ) → IsStrict (is_later_at p)
later_is_strict p = record {
  itself = λ a. beats_itself a.key.round a.key.principal (bit a.moved p);
  one_way = λ a b h. beats_one_way a.key.round a.key.principal (bit a.moved p) b.key.round b.key.principal (bit b.moved p) h;
  through = λ a b c h i. beats_through a.key.round a.key.principal (bit a.moved p) b.key.round b.key.principal (bit b.moved p) c.key.round c.key.principal (bit c.moved p) h i;
}

entry_of_later : (p : ℕ) (o : Option MapTable) (t : MapTable) → later_entry (option_map (told_entry p) o) (told_entry p t) ≡ told_entry p (later_of (is_later_at p) o t)
entry_of_later p None t = refl
entry_of_later p (Some u) t = go (is_later_at p t u) refl
  where
    go : (b : Bool) → is_later_at p t u ≡ b → cond (is_later_at p t u) (told_entry p t) (told_entry p u) ≡ told_entry p (cond (is_later_at p t u) t u)
    go true h = rw h refl
    go false h = rw h refl

-- one more table: what it tells takes the place of what was told, if it is later
pub told_more : (ts : Tables) (t : MapTable) (p : ℕ) → told_at (ts ++ t ∷ []) p ≡ Some (later_entry (told_at ts p) (told_entry p t))
told_more ts t p =
    ap (option_map (told_entry p)) (best_more (is_later_at p) (later_is_strict p) ts t)
    ∙ ap Some (sym (entry_of_later p (latest_at ts p) t))

-- the node is that of the entry
pub node_told : (ts : Tables) (p : ℕ) → option_map (λ e. e.node) (told_at ts p) ≡ node_for ts p
node_told ts p = go (latest_at ts p)
  where
    go : (o : Option MapTable) → option_map (λ e. e.node) (option_map (told_entry p) o) ≡ option_map (λ t. slice_index t.ids p) o
    go None = refl
    go (Some t) = refl

-- nothing is told where no table came, and only there
pub told_of_some : (ts : Tables) (p : ℕ) → ts ≢ [] → node_for ts p ≢ None
told_of_some ts p some none = some (none_best (is_later_at p) (later_is_strict p) ts (go (latest_at ts p) none))
  where
    go : (o : Option MapTable) → option_map (λ t. slice_index t.ids p) o ≡ None → o ≡ None
    go None h = refl
    go (Some t) h = absurd (let wrong : Some (slice_index t.ids p) ≡ None = h in cc)

-- entries of which each is the later one are those of one more table
pub refreshed : (ts : Tables) (t : MapTable) (n : ℕ) (new rest before now : List (Option Entry)) → n ≡ length new → before ≡ now → Holds ts now
    → ((p : ℕ) → p < partition_count → slice_index_or new p None ≡ Some (later_entry (slice_index_or before p None) (told_entry p t)))
    → Holds (ts ++ t ∷ []) (take n (new ++ rest))
refreshed ts t n new rest before now size same holds each = record {
  told = λ p within.
      ap (λ (entries : List (Option Entry)). slice_index_or entries p None) (ap (λ k. take k (new ++ rest)) size ∙ take-append_seam new rest)
      ∙ each p within
      ∙ ap (λ (entries : List (Option Entry)). Some (later_entry (slice_index_or entries p None) (told_entry p t))) same
      ∙ ap (λ o. Some (later_entry o (told_entry p t))) (holds.told p within)
      ∙ sym (told_more ts t p);
}
