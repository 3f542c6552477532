-- What was tried stays so behind a line that changes what nodes hold, but for what the line may part.
use Rattle.std.proofs.Common.{◌≡◌, ℕ, ◌+◌, Bool, true, false, not, List, [], ◌∷◌, ◌++◌, Option, Some, refl, sym, ap, ap₂, subst, ◌∙◌}
use Rattle.std.specs.Prelude.{take}
use Rattle.conflict_order.specs.declared.policy.Policy.{Policy}
use Rattle.cluster_types.specs.declared.cluster_key.ClusterKey.{ClusterKey}
use Rattle.cluster_types.specs.declared.member.Member.{Member}
use Rattle.cluster_types.specs.Partitions.{partition_of}
use Rattle.partition_lists.specs.Lists as lists
use Rattle.journal_lines.specs.declared.line.Line.{Line}
use Rattle.journal_lines.specs.declared.line.Line.TheVariants as line
use Rattle.journal_readings.specs.Lines.{has_node, is_exchanged, is_settled_line, is_done_line}
use Rattle.journal_readings.specs.Settings.{policy_of}
use Rattle.journal_readings.specs.Contents.{content}
use Rattle.journal_readings.specs.Entries.{fold_of}
use Rattle.journal_readings.specs.Settled.{is_settled}
use Rattle.journal_readings.specs.Shape.{is_header}
use Rattle.journal_readings.specs.Views.{view, view_step, master}
use Rattle.journal_readings.proofs.StepLaws.{content-more, view-more}
use Rattle.audit_laws.specs.Fits.{enters_key, may_part}
use Rattle.audit_laws.proofs.Headers.{policy_stays, factor_stays}
use Rattle.audit_laws.proofs.Quiet.{IsQuiet, quiet, members-other, master-other, settled-other, fold-other}
use Rattle.audit_laws.proofs.Tests.{differ}
use Rattle.audit_core.specs.declared.judge.Judge.{Judge}
use Rattle.audit_state.specs.declared.views.View.{View}
use Rattle.audit_state.specs.Records.{record_number}
use Rattle.audit_state.specs.Written.{Stand, stand_of}
use Rattle.audit_core.specs.Audits.{Comes, so_far}
use Rattle.audit_core.specs.Covering.{SeesCovers}
use Rattle.audit_core.specs.Known.{kept_view}
use Rattle.audit_core.specs.Sees.{IsBound, AllJoin, IsTried, HasNoDoubts, IsSuspect}
use Rattle.audit_core.specs.Trying.{SeesStands, IsTriedOf, IsTrying}
use Rattle.audit_core.proofs.VerdictLaws.{taken_next}

-- ---- such lines

-- whether the line changes what nodes hold
abbrev pub changes_contents : Line → Bool
changes_contents (line.Apply n k t d v) = true
changes_contents (line.Merge n k d v) = true
changes_contents (line.Drop n k p) = true
changes_contents _ = false

pub record IsContentLine (l : Line) : Type 0 where
  pub event : is_header l ≡ false
  pub enters : (k : ClusterKey) → enters_key k l ≡ false
  pub settles : (k : ClusterKey) (n p : ℕ) → is_settled_line k n p l ≡ false
  pub exchanges : (k : ClusterKey) (n : ℕ) → is_exchanged k n l ≡ false
  pub ends : (k : ClusterKey) (n t : ℕ) → is_done_line k n t l ≡ false
  pub views : (n : ℕ) (v : Option ClusterKey) → view_step n v l ≡ v

pub content_line : (l : Line) → changes_contents l ≡ true → IsContentLine l
content_line (line.Apply n k t d v) e = record { event = refl; enters = λ l. refl; settles = λ l m p. refl; exchanges = λ l m. refl; ends = λ l m u. refl; views = λ m x. refl }
content_line (line.Merge n k d v) e = record { event = refl; enters = λ l. refl; settles = λ l m p. refl; exchanges = λ l m. refl; ends = λ l m u. refl; views = λ m x. refl }
content_line (line.Drop n k p) e = record { event = refl; enters = λ l. refl; settles = λ l m q. refl; exchanges = λ l m. refl; ends = λ l m u. refl; views = λ m x. refl }
content_line l e = differ e refl

-- ---- a record that it doesn't part

joins_quiet : (j : List Line) (l : Line) (k : ClusterKey) (d : List ℕ) → IsQuiet j l k d → is_header l ≡ false → AllJoin k d j → AllJoin k d (j ++ l ∷ [])
joins_quiet j l k d q event h r replica in_view =
    let was : view r j ≡ Some k = q.views r (view r j) (sym (view-more r j l) ∙ in_view) in
    ap (λ (by : Policy). content by r d (j ++ l ∷ [])) (policy_stays j l event)
    ∙ (content-more (policy_of j) r d j l
    ∙ (q.contents (policy_of j) r (content (policy_of j) r d j) was
    ∙ (h r (sym (ap₂ (λ (factor : ℕ) (ms : List Member). lists.is_replica_of r ms (partition_of d) factor) (factor_stays j l event) (members-other k j l q.enters)) ∙ replica) was
    ∙ sym (ap (λ (by : Policy). fold_of by k d (j ++ l ∷ [])) (policy_stays j l event) ∙ fold-other (policy_of j) k d j l q.enters (q.applies (policy_of j))))))

-- ---- partitions that are settled

settled_before : (j : List Line) (l : Line) (k : ClusterKey) (p : ℕ) → IsContentLine l → is_settled k p (j ++ l ∷ []) ≡ is_settled k p j
settled_before j l k p c = settled-other k p j l (c.enters k) (c.settles k (master k p j) p) (c.exchanges k (master k p j))

bound_before : (j : List Line) (l : Line) (k : ClusterKey) (p : ℕ) → IsContentLine l → IsBound k p (j ++ l ∷ []) → IsBound k p j
bound_before j l k p c h = record {
  settled = sym (settled_before j l k p c) ∙ h.settled;
  remains = sym (view-more (master k p j) j l ∙ c.views (master k p j) (view (master k p j) j))
      ∙ (ap (λ (m : ℕ). view m (j ++ l ∷ [])) (sym (master-other k p j l (c.enters k))) ∙ h.remains);
}

-- ---- what is known of a view's partitions

-- what is to be tried of the partition is what was, and no write ended
pub record KeepsDoubts (old new : Stand) : Type 0 where
  pub settled : new.settled ≡ old.settled
  pub untried : new.untried ≡ old.untried
  pub suspects : new.suspects ≡ old.suspects
  pub closed : new.open_writes ≡ 0 → old.open_writes ≡ 0

pub record KeepsSettled (old new : View) : Type 0 where
  pub listed : new.settled.items ≡ old.settled.items
  pub stands : (p : ℕ) → KeepsDoubts (stand_of old p) (stand_of new p)

doubts_kept : (a b : Stand) → KeepsDoubts a b → HasNoDoubts a → HasNoDoubts b
doubts_kept a b k h = record { tried = k.untried ∙ h.tried; suspects = k.suspects ∙ h.suspects }

-- those that the line may not part
abbrev pub unparted : List Line → Line → ClusterKey → List ℕ → Bool
unparted j l k d = not (may_part j l k d)

parts_not : (b : Bool) → not b ≡ true → b ≡ false
parts_not true e = differ e refl
parts_not false e = refl

-- what is known of trying behind the line, where this is known of what it made
pub record TakesLine (old new : Judge) (i : ℕ) : Type 0 where
  pub lines : new.lines.now ≡ old.lines.now
  pub numbers : (d : List ℕ) (r : ℕ) → record_number old.records d ≡ Some r → record_number new.records d ≡ Some r
  pub views : (k : ClusterKey) (y : View) → kept_view new k ≡ Some y → (x : View) × (kept_view old k ≡ Some x) × KeepsSettled x y
  pub stands : SeesStands new (i + 1)
  pub covers : SeesCovers new (i + 1)

module _ (old new : Judge) (i : ℕ) (l : Line) (c : Comes old i l) (content : IsContentLine l) (t : TakesLine old new i) where
  front : so_far new (i + 1) ≡ so_far old i ++ l ∷ []
  front = ap (take (i + 1)) t.lines ∙ taken_next old.lines.now i l c.stands

  suspect_still : (x y : Stand) (d : List ℕ) → KeepsDoubts x y → IsSuspect old x d → IsSuspect new y d
  suspect_still x y d k s = (s.0, t.numbers d s.0 s.1, ap (λ (rs : List ℕ). has_node rs s.0) k.suspects ∙ s.2)

  module _ (those : ClusterKey → List ℕ → Bool) (joins : (k : ClusterKey) (d : List ℕ) → those k d ≡ true → AllJoin k d (so_far old i) → AllJoin k d (so_far old i ++ l ∷ [])) where
    tried_of : (k : ClusterKey) (p : ℕ) (x y : View) → KeepsSettled x y → IsTried old (so_far old i) k p (stand_of x p) → IsTriedOf (those k) new (so_far old i ++ l ∷ []) k p (stand_of y p)
    tried_of k p x y kept h = record {
      closed = λ e. doubts_kept (stand_of x p) (stand_of y p) (kept.stands p) (h.closed ((kept.stands p).closed e));
      joined = λ e d part off clear. joins k d off (h.joined (sym (kept.stands p).untried ∙ e) d part (λ s. clear (suspect_still (stand_of x p) (stand_of y p) d (kept.stands p) s)));
    }

    -- where those join still, all but they are to be tried
    pub trying_those : IsTrying new (i + 1) those
    trying_those = record {
      stands = t.stands;
      listed = λ k p y e. let x : (x : View) × (kept_view old k ≡ Some x) × KeepsSettled x y = t.views k y e in
          ap (λ (ps : List ℕ). has_node ps p) x.2.listed ∙ (c.audits.state.tried.listed k p x.0 x.1 ∙ sym (x.2.stands p).settled);
      unsettled = λ k p y e none. let x : (x : View) × (kept_view old k ≡ Some x) × KeepsSettled x y = t.views k y e in
          doubts_kept (stand_of x.0 p) (stand_of y p) (x.2.stands p) (c.audits.state.tried.unsettled k p x.0 x.1 (sym (settled_before (so_far old i) l k p content) ∙ (ap (is_settled k p) (sym front) ∙ none)));
      tried = λ k p y e bound. let x : (x : View) × (kept_view old k ≡ Some x) × KeepsSettled x y = t.views k y e in
          subst (λ (j : List Line). IsTriedOf (those k) new j k p (stand_of y p)) (sym front)
          (tried_of k p x.0 y x.2 (c.audits.state.tried.tried k p x.0 x.1 (bound_before (so_far old i) l k p content (subst (IsBound k p) front bound))));
      covers = t.covers;
    }

  pub trying_next : IsTrying new (i + 1) (unparted (so_far old i) l)
  trying_next = trying_those (unparted (so_far old i) l) (λ k d off. joins_quiet (so_far old i) l k d (quiet (so_far old i) l k d (parts_not (may_part (so_far old i) l k d) off)) content.event)
