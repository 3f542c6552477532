-- Journals in which, at every place, settled copies hold the join and copies of one class are equal.
use Rattle.std.proofs.Common.{◌≡◌, ℕ, Bool, true, false, ◌&&◌, not, List, [], ◌∷◌, Option, Some, None, ◌⊎◌, inl, inr, refl, sym, ap, subst, ◌∙◌}
use Rattle.std.specs.Prelude.{take}
use Rattle.std.specs.List.{list_all}
use Rattle.conflict_order.specs.declared.policy.Policy.TheVariants.{Time}
use Rattle.cluster_types.specs.declared.cluster_key.ClusterKey.{ClusterKey}
use Rattle.cluster_types.specs.declared.member.Member.{Member}
use Rattle.cluster_types.specs.Partitions.{partition_of}
use Rattle.partition_lists.specs.Lists as lists
use Rattle.journal_lines.specs.declared.line.Line.{Line}
use Rattle.journal_readings.specs.Lines.{has_node}
use Rattle.journal_readings.specs.Contents.{content}
use Rattle.journal_readings.specs.Views.{view, succession_list}
use Rattle.journal_readings.specs.Entries.{entry, fold_of}
use Rattle.journal_readings.specs.Settled.{is_settled, has_open_write}
use Rattle.journal_readings.specs.Classes.{is_in_class_of, class_of, are_in_one_class}
use Rattle.journal_readings.specs.Claims.{SettledJoin, EqualClasses}
use Rattle.journal_readings.specs.Examples.{digest, key, replicated, met_again}
use Rattle.journal_readings.proofs.AlongLaws.{no_some}
use Rattle.journal_readings.proofs.Computing.{computing}
use Rattle.journal_readings.proofs.Fronts.{AllFronts, each_front, Where, where_true, and_left, and_right, of_node, of_key, of_some, among, has_key, others_unmoved, unmoved_front, view-none, members-none, entered_front}
use Rattle.journal_readings.proofs.Unwritten.{IsUnwritten, written_or_not, unwritten_front, content-none, entry-none, fold_of-none}

-- ---- settled copies hold the join

-- where the partition is settled and no write is open the node holds the fold of its view
abbrev HoldsFold : ℕ → List Line → Option ClusterKey → Type 0
HoldsFold r lines None = Unit {0}
HoldsFold r lines (Some k) = Where (is_settled k 4095 lines && not (has_open_write k 4095 lines)) (content Time r digest lines ≡ fold_of Time k digest lines)

abbrev HoldsFoldOfItsView : ℕ → List Line → Type 0
HoldsFoldOfItsView r lines = HoldsFold r lines (view r lines)

holds_each : (r : ℕ) → has_node (1 ∷ 2 ∷ []) r ≡ true → AllFronts (HoldsFoldOfItsView r) [] replicated
unfolding computing
holds_each = of_node (λ r. AllFronts (HoldsFoldOfItsView r) [] replicated) (1 ∷ 2 ∷ []) ((tt, (tt, (tt, (tt, (tt, (tt, (tt, (tt, (tt, (refl, (refl, (tt, (tt, (tt, (tt, (tt, (tt, refl))))))))))))))))), ((tt, (tt, (tt, (tt, (tt, (tt, (tt, (tt, (tt, (refl, (refl, (tt, (tt, (tt, (tt, (tt, (tt, refl))))))))))))))))), tt))

settled_and_closed : (a b : Bool) → a ≡ true → b ≡ false → (a && not b) ≡ true
settled_and_closed true false e f = refl
settled_and_closed true true e f = cc
settled_and_closed false b e f = cc

-- what is claimed of a record where the node's view is that
abbrev Joins : ClusterKey → ℕ → List Line → List ℕ → Type 0
Joins k r lines d = is_settled k (partition_of d) lines ≡ true → has_open_write k (partition_of d) lines ≡ false → content Time r d lines ≡ fold_of Time k d lines

joins_digest : (i : ℕ) (k : ClusterKey) (r : ℕ) (b : Bool) → has_node (1 ∷ 2 ∷ []) r ≡ b → view r (take i replicated) ≡ Some k → Joins k r (take i replicated) digest
joins_digest i k r true e viewed settled closed =
    where_true _ _ (subst (HoldsFold r (take i replicated)) viewed (each_front (HoldsFoldOfItsView r) replicated (holds_each r e) i)) (settled_and_closed _ _ settled closed)
joins_digest i k r false e viewed settled closed =
    absurd (no_some (sym (view-none r (take i replicated) (unmoved_front r i replicated (others_unmoved (1 ∷ 2 ∷ []) r e replicated refl))) ∙ viewed))

joins : (i : ℕ) (k : ClusterKey) (r : ℕ) (d : List ℕ) → (digest ≡ d) ⊎ IsUnwritten d replicated → view r (take i replicated) ≡ Some k → Joins k r (take i replicated) d
joins i k r d (inl same) viewed = subst (Joins k r (take i replicated)) same (joins_digest i k r (has_node (1 ∷ 2 ∷ []) r) refl viewed)
joins i k r d (inr unwritten) viewed =
    let h : IsUnwritten d (take i replicated) = unwritten_front d i replicated unwritten in
    λ settled closed. content-none Time r d (take i replicated) h ∙ sym (fold_of-none Time k d (take i replicated) h)

pub settled_joins : SettledJoin replicated
unfolding computing
settled_joins = record { whole = λ i k r d settled closed remains replica viewed. joins i k r d (written_or_not digest replicated refl d) viewed settled closed }

-- ---- copies of one class are equal

abbrev SameEntry : ClusterKey → ℕ → ℕ → List Line → List ℕ → Type 0
SameEntry k n m lines d = entry Time k n d lines ≡ entry Time k m d lines

-- where the two are in one class they entered with the same
abbrev ClassEqual : ClusterKey → ℕ → ℕ → List Line → Type 0
ClassEqual k n m lines = Where (are_in_one_class 2 k 4095 n m lines) (SameEntry k n m lines digest)

-- the lists of the view have these two nodes alone
abbrev ListsTwo : ClusterKey → List Line → Type 0
ListsTwo k lines = list_all (has_node (1 ∷ 2 ∷ [])) (succession_list k 4095 lines) ≡ true

record IsEqual (k : ClusterKey) : Type 0 where
  listed : AllFronts (ListsTwo k) [] met_again
  equal : (n : ℕ) → has_node (1 ∷ 2 ∷ []) n ≡ true → (m : ℕ) → has_node (1 ∷ 2 ∷ []) m ≡ true → AllFronts (ClassEqual k n m) [] met_again

equal_first : IsEqual (key 1 2)
unfolding computing
equal_first = record {
  listed = (refl, (refl, (refl, (refl, (refl, (refl, (refl, (refl, (refl, (refl, (refl, (refl, (refl, (refl, (refl, (refl, (refl, (refl, (refl, (refl, (refl, (refl, (refl, refl)))))))))))))))))))))));
  equal = of_node (λ n. (m : ℕ) → has_node (1 ∷ 2 ∷ []) m ≡ true → AllFronts (ClassEqual (key 1 2) n m) [] met_again) (1 ∷ 2 ∷ []) (
    of_node (λ m. AllFronts (ClassEqual (key 1 2) 1 m) [] met_again) (1 ∷ 2 ∷ []) ((tt, (tt, (tt, (tt, (tt, (tt, (tt, (tt, (tt, (tt, (tt, (tt, (tt, (tt, (tt, (tt, (tt, (tt, (tt, (tt, (tt, (tt, (tt, tt))))))))))))))))))))))), ((tt, (tt, (tt, (tt, (tt, (tt, (tt, (tt, (tt, (tt, (tt, (tt, (tt, (tt, (tt, (tt, (tt, (tt, (tt, (tt, (tt, (tt, (tt, tt))))))))))))))))))))))), tt)),
    (of_node (λ m. AllFronts (ClassEqual (key 1 2) 2 m) [] met_again) (1 ∷ 2 ∷ []) ((tt, (tt, (tt, (tt, (tt, (tt, (tt, (tt, (tt, (tt, (tt, (tt, (tt, (tt, (tt, (tt, (tt, (tt, (tt, (tt, (tt, (tt, (tt, tt))))))))))))))))))))))), ((tt, (tt, (tt, (tt, (tt, (tt, (tt, (tt, (tt, (tt, (tt, (tt, (tt, (tt, (tt, (tt, (tt, (tt, (tt, (tt, (tt, (tt, (tt, tt))))))))))))))))))))))), tt)), tt),
  );
}

equal_second : IsEqual (key 2 2)
unfolding computing
equal_second = record {
  listed = (refl, (refl, (refl, (refl, (refl, (refl, (refl, (refl, (refl, (refl, (refl, (refl, (refl, (refl, (refl, (refl, (refl, (refl, (refl, (refl, (refl, (refl, (refl, refl)))))))))))))))))))))));
  equal = of_node (λ n. (m : ℕ) → has_node (1 ∷ 2 ∷ []) m ≡ true → AllFronts (ClassEqual (key 2 2) n m) [] met_again) (1 ∷ 2 ∷ []) (
    of_node (λ m. AllFronts (ClassEqual (key 2 2) 1 m) [] met_again) (1 ∷ 2 ∷ []) ((tt, (tt, (tt, (tt, (tt, (tt, (tt, (tt, (tt, (tt, (tt, (tt, (tt, (tt, (tt, (tt, (tt, (tt, (tt, (tt, (refl, (refl, (refl, refl))))))))))))))))))))))), ((tt, (tt, (tt, (tt, (tt, (tt, (tt, (tt, (tt, (tt, (tt, (tt, (tt, (tt, (tt, (tt, (tt, (tt, (tt, (tt, (tt, (refl, (refl, refl))))))))))))))))))))))), tt)),
    (of_node (λ m. AllFronts (ClassEqual (key 2 2) 2 m) [] met_again) (1 ∷ 2 ∷ []) ((tt, (tt, (tt, (tt, (tt, (tt, (tt, (tt, (tt, (tt, (tt, (tt, (tt, (tt, (tt, (tt, (tt, (tt, (tt, (tt, (tt, (refl, (refl, refl))))))))))))))))))))))), ((tt, (tt, (tt, (tt, (tt, (tt, (tt, (tt, (tt, (tt, (tt, (tt, (tt, (tt, (tt, (tt, (tt, (tt, (tt, (tt, (tt, (refl, (refl, refl))))))))))))))))))))))), tt)), tt),
  );
}

-- one of a class is one of the list
in_list : (k : ClusterKey) (n m : ℕ) (lines : List Line) → has_node (class_of 2 k 4095 n lines) m ≡ true → has_node (succession_list k 4095 lines) m ≡ true
unfolding class_of
in_list k n m lines e = of_some (λ o. is_in_class_of 2 k 4095 n o lines)
    (succession_list k 4095 lines) m e

equal_in : (i : ℕ) (k : ClusterKey) (n m : ℕ) → IsEqual k → are_in_one_class 2 k 4095 n m (take i met_again) ≡ true → SameEntry k n m (take i met_again) digest
equal_in i k n m h e =
    let listed : ListsTwo k (take i met_again) = each_front (ListsTwo k) met_again h.listed i in
    let first : has_node (1 ∷ 2 ∷ []) n ≡ true = among (1 ∷ 2 ∷ []) (succession_list k 4095 (take i met_again)) listed n (in_list k n n (take i met_again) (and_left _ _ e)) in
    let second : has_node (1 ∷ 2 ∷ []) m ≡ true = among (1 ∷ 2 ∷ []) (succession_list k 4095 (take i met_again)) listed m (in_list k n m (take i met_again) (and_right _ _ e)) in
    where_true _ _ (each_front (ClassEqual k n m) met_again (h.equal n first m second) i) e

-- a view without members has no classes
no_list : lists.list [] 4095 ≡ []
unfolding lists.list
no_list = refl

no_node : (n : ℕ) (ns : List ℕ) → ns ≡ [] → has_node ns n ≡ true → ⊥
no_node n [] none e = cc
no_node n (m ∷ ns) none e = differ (sym e ∙ ap (λ (x : List ℕ). has_node x n) none)
  where
    differ : true ≡ false → ⊥
    differ x = cc

no_class_in : (i : ℕ) (k : ClusterKey) (n m : ℕ) → has_key (key 1 2 ∷ key 2 2 ∷ []) k ≡ false → are_in_one_class 2 k 4095 n m (take i met_again) ≡ true → ⊥
no_class_in i k n m other e =
    no_node n (succession_list k 4095 (take i met_again))
    (ap (λ (ms : List Member). lists.list ms 4095) (members-none (key 1 2 ∷ key 2 2 ∷ []) k other (take i met_again) (entered_front (key 1 2 ∷ key 2 2 ∷ []) i met_again refl)) ∙ no_list)
    (in_list k n n (take i met_again) (and_left _ _ e))

equal_digest : (i : ℕ) (k : ClusterKey) (n m : ℕ) (b : Bool) → has_key (key 1 2 ∷ key 2 2 ∷ []) k ≡ b → are_in_one_class 2 k 4095 n m (take i met_again) ≡ true → SameEntry k n m (take i met_again) digest
equal_digest i k n m true h e = equal_in i k n m (of_key IsEqual (key 1 2 ∷ key 2 2 ∷ []) (equal_first, (equal_second, tt)) k h) e
equal_digest i k n m false h e = absurd (no_class_in i k n m h e)

abbrev EqualAt : ClusterKey → ℕ → ℕ → List Line → List ℕ → Type 0
EqualAt k n m lines d = are_in_one_class 2 k (partition_of d) n m lines ≡ true → SameEntry k n m lines d

equal_at : (i : ℕ) (k : ClusterKey) (n m : ℕ) (d : List ℕ) → (digest ≡ d) ⊎ IsUnwritten d met_again → EqualAt k n m (take i met_again) d
equal_at i k n m d (inl same) = subst (EqualAt k n m (take i met_again)) same (equal_digest i k n m (has_key (key 1 2 ∷ key 2 2 ∷ []) k) refl)
equal_at i k n m d (inr unwritten) =
    let h : IsUnwritten d (take i met_again) = unwritten_front d i met_again unwritten in
    λ e. entry-none Time k n d (take i met_again) h ∙ sym (entry-none Time k m d (take i met_again) h)

pub classes_equal : EqualClasses met_again
unfolding computing
classes_equal = record { equal = λ i k n m d e. equal_at i k n m d (written_or_not digest met_again refl d) e }
