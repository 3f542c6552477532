-- How many nodes hold the newest version of each record, as one of them comes to hold another.
use Rattle.std.proofs.Common.{◌≡◌, ℕ, ◌==◌, ◌+◌, ◌<◌, ◌≤◌, Bool, true, false, ◌&&◌, cond, List, [], ◌∷◌, ◌++◌, length, take, Option, Some, None, refl, sym, ap, subst, ◌∙◌, arith, length-take}
use Rattle.std.specs.Prelude.{nat_eq, filter_map}
use Rattle.std.specs.List.{count_by, cons_option}
use Rattle.std.proofs.lemmas.List.Sums.{count_by-le-length}
use Rattle.conflict_order.specs.declared.policy.Policy.{Policy}
use Rattle.conflict_order.specs.declared.version.Version.{Version}
use Rattle.cluster_types.specs.Distinct.{AreDistinct}
use Rattle.journal_lines.specs.declared.line.Line.{Line}
use Rattle.journal_readings.specs.Lines.{has_node}
use Rattle.journal_readings.specs.Settings.{nodes, declared_in}
use Rattle.audit_laws.proofs.Tests.{differ, number_same, number_here}
use Rattle.audit_state.specs.declared.history.Change.{Change}
use Rattle.audit_core.specs.declared.judge.Judge.{Judge}
use Rattle.audit_state.specs.declared.records.Records.{Records}
use Rattle.audit_state.specs.declared.stores.Stores.{Stores}
use Rattle.audit_state.specs.Histories.{AreUpTo, value_now}
use Rattle.audit_core.specs.Holders.{holds_top, holds_newest, AreHoldersCounted}
use Rattle.audit_state.specs.Keys.{pair_eq}
use Rattle.audit_state.specs.Places.{placed}
use Rattle.audit_state.specs.Records.{newest_of, holders_of, holder_count}
use Rattle.audit_state.specs.Stores.{history_of, PutsContent}
use Rattle.audit_state.proofs.HistoryLaws.{put_now}
use Rattle.audit_core.proofs.HolderLaws.{count_changed, count_same, counted_some}

counted_is : (h g : Bool) (c e : ℕ) → e + cond h 1 0 ≡ c + cond g 1 0 → holder_count h g c ≡ e
counted_is false true c e q = omega (arith, q)
counted_is true false c e q = omega (arith, q)
counted_is true true c e q = omega (arith, q)
counted_is false false c e q = omega (arith, q)

apart_node : (n r m : ℕ) → (m == n) ≡ false → pair_eq (n, r) (m, r) ≡ false
apart_node n r m e = go (nat_eq n m) refl
  where
    go : (b : Bool) → nat_eq n m ≡ b → (b && nat_eq r r) ≡ false
    go true i = differ (subst (λ (x : ℕ). (x == n) ≡ true) (number_same n m i) (number_here n)) e
    go false i = refl

apart_record : (n r m q : ℕ) → nat_eq r q ≡ false → pair_eq (n, r) (m, q) ≡ false
apart_record n r m q e = go (nat_eq n m)
  where
    go : (b : Bool) → (b && nat_eq r q) ≡ false
    go true = e
    go false = refl

-- ---- the nodes

pub nodes_within : (all : List Line) (i : ℕ) → length (nodes (take i all)) ≤ i
unfolding nodes
nodes_within all i = omega (arith, within (take i all), length-take i all)
  where
    one : (o : Option ℕ) (ns : List ℕ) (x : ℕ) → length ns ≤ x → length (cons_option o ns) ≤ x + 1
    one None ns x e = omega (arith, e)
    one (Some n) ns x e = omega (arith, e)

    within : (ls : List Line) → length (filter_map declared_in ls) ≤ length ls
    within [] = omega arith
    within (l ∷ ls) = omega (arith, one (declared_in l) (filter_map declared_in ls) (length ls) (within ls))

-- there is room to count one more
pub counts_within : (s : Judge) (r : ℕ) (all : List Line) (i limit : ℕ) → AreHoldersCounted s (nodes (take i all)) → i < limit → holders_of s.records r < limit
counts_within s r all i limit counts e = omega (arith, counts r, count_by-le-length (λ n. holds_newest s n r) (nodes (take i all)), nodes_within all i, e)

pub counts_holder : (s : Judge) (n r : ℕ) (ns : List ℕ) (b : Bool) → AreHoldersCounted s ns → has_node ns n ≡ true → b ≡ holds_newest s n r → b ≡ true → 0 < holders_of s.records r
counts_holder s n r ns b counts declared said e = subst (λ (c : ℕ). 0 < c) (sym (counts r)) (counted_some (λ m. holds_newest s m r) ns n declared (sym said ∙ e))

-- ---- one node holds another version of one record

pub record Changes (old new : Judge) (n r : ℕ) (held holds : Bool) : Type 0 where
  pub policy : new.by ≡ old.by
  pub lines : new.lines.now ≡ old.lines.now
  pub newest : (q : ℕ) → newest_of new.records q ≡ newest_of old.records q
  pub contents : (m q : ℕ) → pair_eq (n, r) (m, q) ≡ false → history_of new.stores m q ≡ history_of old.stores m q
  pub was : held ≡ holds_newest old n r
  pub is : holds ≡ holds_newest new n r
  pub holders : (q : ℕ) → holders_of new.records q ≡ cond (nat_eq r q) (holder_count held holds (holders_of old.records r)) (holders_of old.records q)

module _ (old new : Judge) (n r : ℕ) (held holds : Bool) (changes : Changes old new n r held holds) where
  same_holds : (m q : ℕ) → pair_eq (n, r) (m, q) ≡ false → holds_newest old m q ≡ holds_newest new m q
  same_holds m q e =
      ap (λ (by : Policy). holds_top by (placed old.lines.now (newest_of old.records q)) (placed old.lines.now (value_now (history_of old.stores m q)))) (sym changes.policy)
      ∙ (ap (λ (ls : List Line). holds_top new.by (placed ls (newest_of old.records q)) (placed ls (value_now (history_of old.stores m q)))) (sym changes.lines)
      ∙ (ap (λ (o : Option ℕ). holds_top new.by (placed new.lines.now o) (placed new.lines.now (value_now (history_of old.stores m q)))) (sym (changes.newest q))
      ∙ ap (λ (h : List Change). holds_top new.by (placed new.lines.now (newest_of new.records q)) (placed new.lines.now (value_now h))) (sym (changes.contents m q e))))

  pub counts_still : (ns : List ℕ) → AreDistinct ns → has_node ns n ≡ true → AreHoldersCounted old ns → AreHoldersCounted new ns
  counts_still ns distinct declared counts q = changes.holders q ∙ go (nat_eq r q) refl
    where
      turn : holder_count held holds (holders_of old.records r) ≡ count_by
          (λ m. holds_newest new m r) ns
      turn = counted_is held holds (holders_of old.records r) (count_by (λ m. holds_newest new m r) ns)
          (ap (λ (b : Bool). count_by (λ m. holds_newest new m r) ns + cond b 1 0) changes.was
          ∙ (count_changed (λ m. holds_newest old m r) (λ m. holds_newest new m r) n ns distinct declared (λ m e. same_holds m r (apart_node n r m e))
          ∙ (ap (λ (c : ℕ). c + cond (holds_newest new n r) 1 0) (sym (counts r)) ∙ ap (λ (b : Bool). holders_of old.records r + cond b 1 0) (sym changes.is))))

      go : (b : Bool) → nat_eq r q ≡ b → cond b (holder_count held holds (holders_of old.records r)) (holders_of old.records q) ≡ count_by (λ m. holds_newest new m q) ns
      go true e = subst (λ (x : ℕ). holder_count held holds (holders_of old.records r) ≡ count_by (λ m. holds_newest new m x) ns) (number_same r q e) turn
      go false e = counts q ∙ count_same (λ m. holds_newest old m q) (λ m. holds_newest new m q) ns (λ m d. same_holds m q (apart_record n r m q e))

-- ---- how many hold it, as a history of the node has a change more and the record is counted anew

module _ (old : Judge) (st : Stores) (rs : Records) (n r : ℕ) (c : Change) (held holds : Bool) (puts : PutsContent old.stores st n r c)
    (newest : (q : ℕ) → newest_of rs q ≡ newest_of old.records q)
    (holders : (q : ℕ) → holders_of rs q ≡ cond (nat_eq r q) (holder_count held holds (holders_of old.records r)) (holders_of old.records q))
    (was : held ≡ holds_newest old n r) (is : holds ≡ holds_newest (record old { stores = st }) n r) where
  changes : Changes old (record old { stores = st; records = rs }) n r held holds
  changes = record {
    policy = refl;
    lines = refl;
    newest = newest;
    contents = λ m q e. puts m q ∙ ap (λ (b : Bool). cond b (history_of old.stores n r ++ c ∷ []) (history_of old.stores m q)) e;
    was = was;
    is = is ∙ ap (λ (o : Option ℕ). holds_top old.by (placed old.lines.now o) (placed old.lines.now (value_now (history_of st n r)))) (sym (newest r));
    holders = holders;
  }

  pub counted_anew : (ns : List ℕ) → AreDistinct ns → has_node ns n ≡ true → AreHoldersCounted old ns → AreHoldersCounted (record old { stores = st; records = rs }) ns
  counted_anew = counts_still old (record old { stores = st; records = rs }) n r held holds changes

-- what the node holds of the record behind the change
changed_now : (old : Judge) (st : Stores) (n r line : ℕ) (o : Option ℕ)
    → PutsContent old.stores st n r (record { line = line; value = o })
    → AreUpTo line (history_of old.stores n r) → value_now (history_of st n r) ≡ o
changed_now old st n r line o puts up =
    ap value_now (puts n r
    ∙ ap (λ (b : Bool). cond b (history_of old.stores n r ++ record { line = line; value = o } ∷ [])
    (history_of old.stores n r)) place)
    ∙ put_now (history_of old.stores n r) (record { line = line; value = o }) up
  where
    place : pair_eq (n, r) (n, r) ≡ true
    place = subst (λ (b : Bool). (b && nat_eq r r) ≡ true) (sym (number_here n)) (number_here r)

-- who holds nothing doesn't hold the newest version
pub holds_none : (old : Judge) (st : Stores) (n r line : ℕ) → PutsContent old.stores st n r (record { line = line; value = None }) → AreUpTo line (history_of old.stores n r) → false ≡ holds_newest (record old { stores = st }) n r
holds_none old st n r line puts up = sym (ap (λ (o : Option ℕ). holds_top old.by (placed old.lines.now (newest_of old.records r)) (placed old.lines.now o)) (changed_now old st n r line None puts up) ∙ never (placed old.lines.now (newest_of old.records r)))
  where
    never : (top : Option Version) → holds_top old.by top None ≡ false
    never None = refl
    never (Some v) = refl

-- who holds the version at the line holds the newest where that version is the newest
pub holds_stored : (old : Judge) (st : Stores) (n r line : ℕ) (b : Bool)
    → PutsContent old.stores st n r (record { line = line; value = Some line })
    → AreUpTo line (history_of old.stores n r)
    → b ≡ holds_top old.by (placed old.lines.now (newest_of old.records r))
    (placed old.lines.now (Some line))
    → b ≡ holds_newest (record old { stores = st }) n r
holds_stored old st n r line b puts up is = is
    ∙ sym (ap (λ (o : Option ℕ). holds_top old.by (placed old.lines.now (newest_of old.records r))
    (placed old.lines.now o)) (changed_now old st n r line (Some line) puts up))
