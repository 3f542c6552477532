-- A line that changes neither what nodes hold nor what is to be tried.
use Rattle.std.proofs.Common.{◌≡◌, ℕ, suc, ◌==◌, ◌+◌, Bool, true, false, ◌&&◌, ◌||◌, cond, List, [], ◌∷◌, ◌++◌, Option, Some, None, refl, sym, ap, ap₂, subst, ◌∙◌, arith}
use Rattle.std.specs.Prelude.{take, drop, slice_get, fold}
use Rattle.std.specs.List.{list_any, count_by}
use Rattle.std.proofs.lemmas.Bool.{or_left}
use Rattle.std.proofs.lemmas.List.{take-append-drop}
use Rattle.std.proofs.lemmas.List.Folds.{list_any-append}
use Rattle.conflict_order.specs.declared.policy.Policy.{Policy}
use Rattle.conflict_order.specs.declared.version.Version.{Version}
use Rattle.cluster_types.specs.declared.cluster_key.ClusterKey.{ClusterKey}
use Rattle.cluster_types.specs.declared.member.Member.{Member}
use Rattle.cluster_types.specs.Partitions.{partition_of}
use Rattle.partition_lists.specs.Lists as lists
use Rattle.journal_lines.specs.declared.line.Line.{Line}
use Rattle.journal_lines.specs.declared.line.Line.TheVariants as line
use Rattle.journal_readings.specs.Lines.{same_key, is_enter, is_exchanged, is_settled_line, is_done_line}
use Rattle.journal_readings.specs.Settings.{policy_of}
use Rattle.journal_readings.specs.Contents.{content, content_step, holds_any, copy_step, applied, applied_step}
use Rattle.journal_readings.specs.Entries.{applied_in, applied_in_step}
use Rattle.journal_readings.specs.Settled.{is_settled, is_open_write}
use Rattle.journal_readings.specs.Shape.{Shape, is_header}
use Rattle.journal_readings.specs.Views.{view, view_step, master}
use Rattle.journal_readings.proofs.AlongLaws.{no_some}
use Rattle.journal_readings.proofs.Fronts.{and_right, same_key_is}
use Rattle.journal_readings.proofs.StepLaws.{fold-more, content-more, applied-more, applied_in-more, view-more}
use Rattle.audit_laws.specs.Fits.{enters_key, may_part}
use Rattle.audit_laws.proofs.Headers.{policy_stays, factor_stays, nodes_stay}
use Rattle.audit_laws.proofs.MapSteps.{entered_key}
use Rattle.audit_laws.proofs.Quiet.{members-other, master-other, settled-other, fold-other}
use Rattle.audit_laws.proofs.Tests.{differ}
use Rattle.audit_core.specs.declared.judge.Judge.{Judge}
use Rattle.audit_core.specs.Holders.{AreHoldersCounted}
use Rattle.audit_state.specs.Records.{record_digest}
use Rattle.audit_core.specs.Sees.{SeesStand, IsBound, AllJoin, IsTried, SeesTried}
use Rattle.audit_core.specs.Stored.{SeesRecords, SeesContents, SeesStores, brings, read_of}
use Rattle.audit_state.specs.Written.{Stand, stand_of}
use Rattle.audit_core.proofs.ContentLaws.{take_next, contents_stay}
use Rattle.audit_core.proofs.CopySteps.{copies_stay}
use Rattle.audit_core.proofs.FrameLaws.{OnlyEntered}
use Rattle.audit_core.proofs.KeyLaws.{any_at}

-- ---- who finished exchange entered

pub any_front : (test : Line → Bool) (a : ℕ) (j : List Line) → list_any test (take a j) ≡ true → list_any test j ≡ true
any_front test a j e = sym (ap (list_any test) (take-append-drop a j)) ∙ (list_any-append test (take a j) (drop a j) ∙ or_left (list_any test (take a j)) _ e)

finished_entered : (j : List Line) (k : ClusterKey) (n a : ℕ) (x : Line) → Shape j → slice_get j a ≡ Some x → is_exchanged k n x ≡ true → list_any (enters_key k) j ≡ true
finished_entered j k n a (line.Exchanged m l) shape e h =
    let entered : list_any (enters_key l) (take a j) ≡ true = entered_key l m (take a j) (shape.in_view a (line.Exchanged m l) e) in
    subst (λ (z : ClusterKey). list_any (enters_key z) j ≡ true) (same_key_is l k (and_right (m == n) _ h)) (any_front (enters_key l) a j entered)
finished_entered j k n a x shape e h = differ h refl

pub only_entered : (j : List Line) → Shape j → OnlyEntered j
only_entered j shape = record {
  entered = λ k n none. unless (list_any (is_enter k n) j) (λ i. differ (entered_key k n j i) none);
  exchanged = λ k n none. unless (list_any (is_exchanged k n) j) (λ i.
      let h : (a : ℕ) × (x : Line) × (slice_get j a ≡ Some x) × (is_exchanged k n x ≡ true) = any_at (is_exchanged k n) j i in
      differ (finished_entered j k n h.0 h.1 shape h.2 h.3) none);
}
  where
    unless : (b : Bool) → (b ≡ true → ⊥) → b ≡ false
    unless true h = absurd (h refl)
    unless false h = refl

-- ---- lines by their words

-- a line by which nothing that nodes hold changes, nobody enters a view and no write is opened
pub record IsSilent (l : Line) : Type 0 where
  pub contents : (by : Policy) (n : ℕ) (d : List ℕ) (x : Option Version) → content_step by n d x l ≡ x
  pub copies : (n p : ℕ) (b : Bool) → copy_step n p b l ≡ b
  pub applied : (by : Policy) (d : List ℕ) (x : Option Version) → applied_step by d x l ≡ x
  pub writes : (by : Policy) (k : ClusterKey) (d : List ℕ) (x : Option Version) → applied_in_step by k d x l ≡ x
  pub brings : (d : List ℕ) → brings d l ≡ false
  pub enters : (k : ClusterKey) → enters_key k l ≡ false
  pub opens : (k : ClusterKey) (p n : ℕ) (j : List Line) → is_open_write k p n j l ≡ false
  pub views : (n : ℕ) (v : Option ClusterKey) (k : ClusterKey) → view_step n v l ≡ Some k → v ≡ Some k

-- ... and which settles nothing, and ends no write
pub record IsStill (l : Line) : Type 0 where
  pub contents : (by : Policy) (n : ℕ) (d : List ℕ) (x : Option Version) → content_step by n d x l ≡ x
  pub copies : (n p : ℕ) (b : Bool) → copy_step n p b l ≡ b
  pub applied : (by : Policy) (d : List ℕ) (x : Option Version) → applied_step by d x l ≡ x
  pub writes : (by : Policy) (k : ClusterKey) (d : List ℕ) (x : Option Version) → applied_in_step by k d x l ≡ x
  pub brings : (d : List ℕ) → brings d l ≡ false
  pub enters : (k : ClusterKey) → enters_key k l ≡ false
  pub settles : (k : ClusterKey) (n p : ℕ) → is_settled_line k n p l ≡ false
  pub exchanges : (k : ClusterKey) (n : ℕ) → is_exchanged k n l ≡ false
  pub ends : (k : ClusterKey) (n t : ℕ) → is_done_line k n t l ≡ false
  pub opens : (k : ClusterKey) (p n : ℕ) (j : List Line) → is_open_write k p n j l ≡ false
  pub views : (n : ℕ) (v : Option ClusterKey) (k : ClusterKey) → view_step n v l ≡ Some k → v ≡ Some k
  pub parts : (j : List Line) (k : ClusterKey) (d : List ℕ) → may_part j l k d ≡ false

-- whether the line is none that may change what nodes hold or what is to be tried
abbrev pub is_still : Line → Bool
is_still (line.Enter n k ms) = false
is_still (line.Exchanged n k) = false
is_still (line.Settled n k p) = false
is_still (line.Drop n k p) = false
is_still (line.Apply n k t d v) = false
is_still (line.Merge n k d v) = false
is_still (line.Done n k t) = false
is_still _ = true

stopped : (n m : ℕ) (v : Option ClusterKey) (k : ClusterKey) → cond (m == n) None v ≡ Some k → v ≡ Some k
stopped n m v k h = go (m == n) h
  where
    go : (b : Bool) → cond b None v ≡ Some k → v ≡ Some k
    go true q = absurd (no_some q)
    go false q = q

pub still_line : (l : Line) → is_still l ≡ true → IsStill l
still_line (line.Enter n k ms) e = differ e refl
still_line (line.Exchanged n k) e = differ e refl
still_line (line.Settled n k p) e = differ e refl
still_line (line.Drop n k p) e = differ e refl
still_line (line.Apply n k t d v) e = differ e refl
still_line (line.Merge n k d v) e = differ e refl
still_line (line.Done n k t) e = differ e refl
still_line (line.Stop m) e = record {
  contents = λ by n d x. refl;
  copies = λ n p b. refl;
  applied = λ by d x. refl;
  writes = λ by k d x. refl;
  brings = λ d. refl;
  enters = λ k. refl;
  settles = λ k n p. refl;
  exchanges = λ k n. refl;
  ends = λ k n t. refl;
  opens = λ k p n j. refl;
  views = λ n v k h. stopped n m v k h;
  parts = λ j k d. refl;
}
still_line l e = record {
  contents = λ by n d x. refl;
  copies = λ n p b. refl;
  applied = λ by d x. refl;
  writes = λ by k d x. refl;
  brings = λ d. refl;
  enters = λ k. refl;
  settles = λ k n p. refl;
  exchanges = λ k n. refl;
  ends = λ k n t. refl;
  opens = λ k p n j. refl;
  views = λ n v k h. h;
  parts = λ j k d. refl;
}

pub silent_line : (l : Line) → IsStill l → IsSilent l
silent_line l still = record {
  contents = still.contents;
  copies = still.copies;
  applied = still.applied;
  writes = still.writes;
  brings = still.brings;
  enters = still.enters;
  opens = still.opens;
  views = still.views;
}

-- ---- what nodes hold

pub same_read : (f g : List ℕ → Option Version) → ((d : List ℕ) → f d ≡ g d) → (o : Option (List ℕ)) → read_of f o ≡ read_of g o
same_read f g h None = refl
same_read f g h (Some d) = h d

-- a line by which nothing that nodes hold changes, and nothing is written
pub record LeavesHeld (l : Line) : Type 0 where
  pub contents : (by : Policy) (n : ℕ) (d : List ℕ) (x : Option Version) → content_step by n d x l ≡ x
  pub copies : (n p : ℕ) (b : Bool) → copy_step n p b l ≡ b
  pub applied : (by : Policy) (d : List ℕ) (x : Option Version) → applied_step by d x l ≡ x
  pub writes : (by : Policy) (k : ClusterKey) (d : List ℕ) (x : Option Version) → applied_in_step by k d x l ≡ x
  pub brings : (d : List ℕ) → brings d l ≡ false

module _ (s : Judge) (i : ℕ) (all : List Line) (l : Line) (here : slice_get all i ≡ Some l) (still : LeavesHeld l) (event : is_header l ≡ false) (h : SeesStores s i all (take i all)) where
  by_same : policy_of (take i all ++ l ∷ []) ≡ policy_of (take i all)
  by_same = policy_stays (take i all) l event

  none_more : (a b : Bool) → a ≡ false → b ≡ false → (a || (b || false)) ≡ false
  none_more true b e f = e
  none_more false true e f = f
  none_more false false e f = refl

  records_still : SeesRecords s all (take i all ++ l ∷ [])
  records_still = record {
    numbered = h.records.numbered;
    unbrought = λ d e. list_any-append (brings d) (take i all) (l ∷ []) ∙ none_more (list_any (brings d) (take i all)) (brings d l) (h.records.unbrought d e) (still.brings d);
    newest = λ r. h.records.newest r ∙ same_read (λ d. applied (policy_of (take i all)) d (take i all)) (λ d. applied (policy_of (take i all ++ l ∷ [])) d (take i all ++ l ∷ []))
        (λ d. sym (ap (λ (by : Policy). applied by d (take i all ++ l ∷ [])) by_same ∙ (applied-more (policy_of (take i all)) d (take i all) l ∙ still.applied (policy_of (take i all)) d (applied (policy_of (take i all)) d (take i all))))) (record_digest s.records r);
    holders = subst (AreHoldersCounted s) (sym (nodes_stay (take i all) l event)) h.records.holders;
  }

  stores_now : SeesStores s (suc i) all (take i all ++ l ∷ [])
  stores_now = record {
    records = records_still;
    contents = subst (λ (by : Policy). SeesContents s.stores s.records all by (suc i)) (sym by_same)
        (contents_stay s.records all (policy_of (take i all)) i l here s.stores h.contents (λ n r d e. still.contents (policy_of (take i all)) n d (content (policy_of (take i all)) n d (take i all))));
    copies = copies_stay s.records all i l here s.stores h.copies (λ n p. still.copies n p (holds_any n p (take i all)));
    written = record {
      applied = λ k x r e. h.written.applied k x r e ∙ same_read (λ d. applied_in (policy_of (take i all)) k d (take i all)) (λ d. applied_in (policy_of (take i all ++ l ∷ [])) k d (take i all ++ l ∷ []))
          (λ d. sym (ap (λ (by : Policy). applied_in by k d (take i all ++ l ∷ [])) by_same ∙ (applied_in-more (policy_of (take i all)) k d (take i all) l ∙ still.writes (policy_of (take i all)) k d (applied_in (policy_of (take i all)) k d (take i all))))) (record_digest s.records r);
      written = h.written.written;
      listed = h.written.listed;
      listed_only = h.written.listed_only;
    };
  }

  pub stores_left : SeesStores s (i + 1) all (take (i + 1) all)
  stores_left =
      let next : suc i ≡ i + 1 = omega arith in
      subst (λ (m : ℕ). SeesStores s m all (take m all)) next (subst (SeesStores s (suc i) all) (sym (take_next all i l here)) stores_now)

pub stores_silent : (s : Judge) (i : ℕ) (all : List Line) (l : Line) → slice_get all i ≡ Some l → IsSilent l → is_header l ≡ false → SeesStores s i all (take i all) → SeesStores s (i + 1) all (take (i + 1) all)
stores_silent s i all l here still event h =
    stores_left s i all l here (record { contents = still.contents; copies = still.copies; applied = still.applied; writes = still.writes; brings = still.brings }) event h

-- ---- what is to be tried

pub count-more : (test : Line → Bool) (xs : List Line) (x : Line) → count_by test (xs ++ x ∷ []) ≡ count_by test xs + cond (test x) 1 0
count-more test xs x = fold-more (λ (c : ℕ) (y : Line). c + cond (test y) 1 0) 0 xs x

pub count_same : (f g : Line → Bool) → ((x : Line) → f x ≡ g x) → (xs : List Line) (c : ℕ) → fold (λ (b : ℕ) (x : Line). b + cond (f x) 1 0) c xs ≡ fold (λ (b : ℕ) (x : Line). b + cond (g x) 1 0) c xs
count_same f g h [] c = refl
count_same f g h (x ∷ xs) c = ap (λ (b : Bool). fold (λ (a : ℕ) (y : Line). a + cond (f y) 1 0) (c + cond b 1 0) xs) (h x) ∙ count_same f g h xs (c + cond (g x) 1 0)

pub any-more : (test : Line → Bool) (j : List Line) (l : Line) → test l ≡ false → list_any test (j ++ l ∷ []) ≡ list_any test j
any-more test j l e = list_any-append test j (l ∷ []) ∙ (ap (λ (b : Bool). list_any test j || (b || false)) e ∙ go (list_any test j))
  where
    go : (b : Bool) → (b || (false || false)) ≡ b
    go true = refl
    go false = refl

-- the same writes are open
pub opens_same : (k : ClusterKey) (p n : ℕ) (j : List Line) (l : Line) → ((t : ℕ) → is_done_line k n t l ≡ false) → (x : Line) → is_open_write k p n (j ++ l ∷ []) x ≡ is_open_write k p n j x
opens_same k p n j l h (line.Apply m o t d v) = ap (λ (b : Bool). (m == n) && (same_key o k && ((partition_of d == p) && Rattle.std.specs.Prelude.not b))) (any-more (is_done_line k n t) j l (h t))
opens_same k p n j l h x = refl

-- the stand of a partition, where nobody enters the view and no write is opened or ends
pub stand_kept : (j : List Line) (l : Line) (k : ClusterKey) (p : ℕ) (x : Stand) → enters_key k l ≡ false → ((n : ℕ) → is_settled_line k n p l ≡ false) → ((n t : ℕ) → is_done_line k n t l ≡ false)
    → ((n : ℕ) (ls : List Line) → is_open_write k p n ls l ≡ false) → SeesStand j k p x → SeesStand (j ++ l ∷ []) k p x
stand_kept j l k p x enters settles ends opens h =
    let same : master k p (j ++ l ∷ []) ≡ master k p j = master-other k p j l enters in
    record {
      settled = h.settled ∙ sym (ap (λ (m : ℕ). list_any (is_settled_line k m p) (j ++ l ∷ [])) same ∙ any-more (is_settled_line k (master k p j) p) j l (settles (master k p j)));
      open_writes = h.open_writes ∙ sym (ap (λ (m : ℕ). count_by (is_open_write k p m (j ++ l ∷ [])) (j ++ l ∷ [])) same
          ∙ (count-more (is_open_write k p (master k p j) (j ++ l ∷ [])) j l
          ∙ (ap₂ (λ (a : ℕ) (b : Bool). a + cond b 1 0) (count_same _ _ (opens_same k p (master k p j) j l (ends (master k p j))) j 0) (opens (master k p j) (j ++ l ∷ []))
          ∙ none_added (count_by (is_open_write k p (master k p j) j) j))));
    }
  where
    none_added : (a : ℕ) → a + 0 ≡ a
    none_added a = omega arith

stand_still : (j : List Line) (l : Line) (k : ClusterKey) (p : ℕ) (x : Stand) → IsStill l → SeesStand j k p x → SeesStand (j ++ l ∷ []) k p x
stand_still j l k p x still h = stand_kept j l k p x (still.enters k) (λ n. still.settles k n p) (still.ends k) (still.opens k p) h

settled_still : (j : List Line) (l : Line) (k : ClusterKey) (p : ℕ) → IsStill l → is_settled k p (j ++ l ∷ []) ≡ is_settled k p j
settled_still j l k p still = settled-other k p j l (still.enters k) (still.settles k (master k p j) p) (still.exchanges k (master k p j))

bound_still : (j : List Line) (l : Line) (k : ClusterKey) (p : ℕ) → IsStill l → IsBound k p (j ++ l ∷ []) → IsBound k p j
bound_still j l k p still h = record {
  settled = sym (settled_still j l k p still) ∙ h.settled;
  remains = still.views (master k p j) (view (master k p j) j) k
      (sym (view-more (master k p j) j l) ∙ (ap (λ (m : ℕ). view m (j ++ l ∷ [])) (sym (master-other k p j l (still.enters k))) ∙ h.remains));
}

pub joins_silent : (j : List Line) (l : Line) (k : ClusterKey) (d : List ℕ) → IsSilent l → is_header l ≡ false → AllJoin k d j → AllJoin k d (j ++ l ∷ [])
joins_silent j l k d still event h r replica in_view =
    ap (λ (by : Policy). content by r d (j ++ l ∷ [])) (policy_stays j l event)
    ∙ (content-more (policy_of j) r d j l
    ∙ (still.contents (policy_of j) r d (content (policy_of j) r d j)
    ∙ (h r (sym (ap₂ (λ (factor : ℕ) (ms : List Member). lists.is_replica_of r ms (partition_of d) factor) (factor_stays j l event) (members-other k j l (still.enters k))) ∙ replica)
    (still.views r (view r j) k (sym (view-more r j l) ∙ in_view))
    ∙ sym (ap (λ (by : Policy). Rattle.journal_readings.specs.Entries.fold_of by k d (j ++ l ∷ [])) (policy_stays j l event) ∙ fold-other (policy_of j) k d j l (still.enters k) (still.writes (policy_of j) k d)))))

pub tried_still : (s : Judge) (j : List Line) (l : Line) → IsStill l → is_header l ≡ false → SeesTried s j → SeesTried s (j ++ l ∷ [])
tried_still s j l still event h = record {
  stands = λ k p x e. stand_still j l k p (stand_of x p) still (h.stands k p x e);
  listed = h.listed;
  unsettled = λ k p x e none. h.unsettled k p x e (sym (settled_still j l k p still) ∙ none);
  tried = λ k p x e bound. let t : IsTried s j k p (stand_of x p) = h.tried k p x e (bound_still j l k p still bound) in
      record { closed = t.closed; joined = λ tried d part clear. joins_silent j l k d (silent_line l still) event (t.joined tried d part clear) };
}
