-- Replicas of settled partitions hold the join, as one line more comes.
use Rattle.std.proofs.Common.{◌≡◌, ℕ, true, false, List, [], ◌∷◌, ◌++◌, Some, ◌⊎◌, inl, inr, sym, ap, subst, subst₂, ◌∙◌}
use Rattle.std.specs.Prelude.{take}
use Rattle.std.proofs.lemmas.Bool.{cases_Bool}
use Rattle.conflict_order.specs.declared.policy.Policy.{Policy}
use Rattle.cluster_types.specs.declared.cluster_key.ClusterKey.{ClusterKey}
use Rattle.cluster_types.specs.declared.member.Member.{Member}
use Rattle.cluster_types.specs.Partitions.{partition_of}
use Rattle.partition_lists.specs.Lists as lists
use Rattle.journal_lines.specs.declared.line.Line.{Line}
use Rattle.journal_readings.specs.Settings.{policy_of, factor_of}
use Rattle.journal_readings.specs.Contents.{content}
use Rattle.journal_readings.specs.Views.{view, master}
use Rattle.journal_readings.specs.Claims.{SettledJoin}
use Rattle.journal_readings.specs.Shape.{Shape, is_header}
use Rattle.journal_readings.proofs.StepLaws.{content-more, view-more}
use Rattle.audit_laws.specs.Fits.{may_part, HoldsFold, JoinsReplicas}
use Rattle.audit_laws.proofs.Tests.{differ}
use Rattle.audit_laws.proofs.Places.{front_cases, front_of_more, whole}
use Rattle.audit_laws.proofs.Headers.{policy_stays, factor_stays, IsBare, bare-more, bare_front, bare-unsettled}
use Rattle.audit_laws.proofs.Quiet.{IsQuiet, quiet, members-other, master-other, settled-other, closed-before, fold-other}
use Rattle.audit_laws.proofs.ReadSteps.{follows}

abbrev AllHold : Policy → ℕ → List Line → Type 0
AllHold by factor j = (k : ClusterKey) (r : ℕ) (d : List ℕ) → HoldsFold by factor j k r d

-- nothing is settled within a header
bare_holds : (by : Policy) (factor : ℕ) (j : List Line) → IsBare j → AllHold by factor j
bare_holds by factor j h k r d settled closed remains replica in_view = differ settled (bare-unsettled k (partition_of d) j h)

pub bare_settled : (j : List Line) → IsBare j → SettledJoin j
bare_settled j h = record { whole = λ i. bare_holds (policy_of j) (factor_of j) (take i j) (bare_front i j h) }

-- at the end of the journal
at_end : (j : List Line) → SettledJoin j → AllHold (policy_of j) (factor_of j) j
at_end j h = subst (AllHold (policy_of j) (factor_of j)) (whole j).1 (h.whole (whole j).0)

-- a line that is quiet leaves a replica that held the fold holding it
still_holds : (by : Policy) (factor : ℕ) (j : List Line) (l : Line) (k : ClusterKey) (r : ℕ) (d : List ℕ) → IsQuiet j l k d → HoldsFold by factor j k r d → HoldsFold by factor (j ++ l ∷ []) k r d
still_holds by factor j l k r d q h settled closed remains replica in_view =
    (content-more by r d j l ∙ q.contents by r (content by r d j) here)
    ∙ (h (sym (settled-other k p j l q.enters q.settles q.exchanges) ∙ settled) (closed-before k p j l q.enters q.ends closed)
    (before (master k p j) (ap (λ (m : ℕ). view m (j ++ l ∷ [])) (sym (master-other k p j l q.enters)) ∙ remains))
    (ap (λ (ms : List Member). lists.is_replica_of r ms p factor) (sym (members-other k j l q.enters)) ∙ replica) here
    ∙ sym (fold-other by k d j l q.enters (q.applies by)))
  where
    p : ℕ
    p = partition_of d

    before : (n : ℕ) → view n (j ++ l ∷ []) ≡ Some k → view n j ≡ Some k
    before n e = q.views n (view n j) (sym (view-more n j l) ∙ e)

    here : view r j ≡ Some k
    here = before r in_view

pub settled_front : (j : List Line) (l : Line) → Shape (j ++ l ∷ []) → SettledJoin (j ++ l ∷ []) → SettledJoin j × JoinsReplicas j l
settled_front j l s h = (go (follows j l s), record { whole = λ k r d parts. at_end all h k r d })
  where
    all : List Line
    all = j ++ l ∷ []

    go : (is_header l ≡ false) ⊎ (IsBare j × (is_header l ≡ true)) → SettledJoin j
    go (inl o) = record {
      whole = λ i. subst₂ (λ (by : Policy) (factor : ℕ). AllHold by factor (take i j)) (policy_stays j l o) (factor_stays j l o)
          (subst (AllHold (policy_of all) (factor_of all)) (front_of_more j l i).1 (h.whole (front_of_more j l i).0));
    }
    go (inr o) = bare_settled j o.0

pub settled_more : (j : List Line) (l : Line) → Shape (j ++ l ∷ []) → SettledJoin j → JoinsReplicas j l → SettledJoin (j ++ l ∷ [])
settled_more j l s h f = go (follows j l s)
  where
    all : List Line
    all = j ++ l ∷ []

    last : is_header l ≡ false → (k : ClusterKey) (r : ℕ) (d : List ℕ) → (may_part j l k d ≡ true) ⊎ (may_part j l k d ≡ false) → HoldsFold (policy_of all) (factor_of all) all k r d
    last o k r d (inl e) = f.whole k r d e
    last o k r d (inr e) = subst₂ (λ (by : Policy) (factor : ℕ). HoldsFold by factor all k r d) (sym (policy_stays j l o)) (sym (factor_stays j l o))
        (still_holds (policy_of j) (factor_of j) j l k r d (quiet j l k d e) (at_end j h k r d))

    at : is_header l ≡ false → (i : ℕ) → (take i all ≡ take i j) ⊎ (take i all ≡ all) → AllHold (policy_of all) (factor_of all) (take i all)
    at o i (inl e) = subst (AllHold (policy_of all) (factor_of all)) (sym e)
        (subst₂ (λ (by : Policy) (factor : ℕ). AllHold by factor (take i j)) (sym (policy_stays j l o)) (sym (factor_stays j l o)) (h.whole i))
    at o i (inr e) = subst (AllHold (policy_of all) (factor_of all)) (sym e) (λ k r d. last o k r d (cases_Bool (may_part j l k d)))

    go : (is_header l ≡ false) ⊎ (IsBare j × (is_header l ≡ true)) → SettledJoin all
    go (inl o) = record { whole = λ i. at o i (front_cases j l i) }
    go (inr o) = bare_settled all (bare-more j l o.0 o.1)
