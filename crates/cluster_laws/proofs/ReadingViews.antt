-- The picture holds what a reader finds of each view: kept by each line.
use Rattle.std.proofs.Common.{◌≡◌, ℕ, ◌==◌, Bool, true, false, cond, not, ◌&&◌, ◌||◌, List, [], ◌∷◌, ◌++◌, Option, Some, refl, sym, ap, ap₂, subst, subst₂, ◌∙◌, ◌⊎◌, ⊎_elim}
use Rattle.std.specs.List.{list_any}
use Rattle.std.specs.Prelude.{bytes_eq}
use Rattle.conflict_order.specs.declared.policy.Policy.{Policy}
use Rattle.conflict_order.specs.declared.version.Version.{Version}
use Rattle.conflict_order.specs.Join.{join}
use Rattle.conflict_order.proofs.JoinLaws.{join_assoc}
use Rattle.cluster_types.specs.declared.cluster_key.ClusterKey.{ClusterKey}
use Rattle.cluster_types.specs.declared.copy_state.CopyState.{CopyState}
use Rattle.cluster_types.specs.declared.copy_state.CopyState.TheVariants.{Empty, Part, Whole}
use Rattle.cluster_types.specs.ClusterKeys.{same_key}
use Rattle.partition_lists.specs.Acting.{is_empty}
use Rattle.journal_lines.specs.declared.line.Line.{Line}
use Rattle.journal_lines.specs.declared.line.Line.TheVariants as line
use Rattle.journal_readings.specs.Lines.{is_enter, is_settled_line, is_done_line}
use Rattle.journal_readings.specs.Contents.{content, holds_any, joined_if}
use Rattle.journal_readings.specs.Entries.{entry, applied_in}
use Rattle.journal_readings.specs.Views.{members}
use Rattle.journal_readings.specs.Stamps.{is_empty_at_entry}
use Rattle.journal_readings.proofs.CopyLaws.{no_record-empty, same_digest_itself}
use Rattle.journal_readings.proofs.StepLaws.{applied_in-more}
use Rattle.cluster_laws.specs.Changed.{at_key, at_stay, at_part}
use Rattle.cluster_laws.specs.Ground.{Ground}
use Rattle.cluster_laws.specs.Stay.{Versions, Applied, Stay}
use Rattle.cluster_laws.specs.Picture.{Picture}
use Rattle.cluster_laws.specs.Changes.{with_all}
use Rattle.cluster_laws.specs.Licences.{Ok, MayEnter, IsState, HoldsRecordOf, picture_after}
use Rattle.cluster_laws.proofs.At.{numbers, changed_either, changed_here, and_left, and_right, number_same, number_here, and_both, key_same, differ, some_same, no_some, part_here, part_grows}
use Rattle.cluster_laws.proofs.All.{Sound}
use Rattle.cluster_laws.proofs.ReadingFrames.{stay_as, stay_kept, any-more, quiet_frame}
use Rattle.cluster_laws.proofs.ReadingLines.{or_cases, or_left_true, or_right_true, key_stored, entry-none, entry-other, entry-here, empty-other, empty-here, enters_key, members-more, joined, one_entry, same_entries, turned}
use Rattle.cluster_laws.proofs.ReadingSteps.{Contents_tied, Entered_tied, fresh_stay, missed}

-- ---- what a member held as it entered

abbrev pub Entries_tied : Ground → List Line → Picture → Type 0
Entries_tied G j w = (n : ℕ) (k : ClusterKey) (d : List ℕ) → entry G.by k n d j ≡ (w.stay n k).entry d

-- a member enters a key that it never entered
pub first_entry : (G : Ground) (j : List Line) (w : Picture) → Sound G w → Entered_tied j w → (m : ℕ) (l : ClusterKey) → MayEnter G w m l → list_any (is_enter l m) j ≡ false
first_entry G j w s en m l ok = en m l ∙ ap (λ (z : Stay). z.entered) (fresh_stay G w s m l ok)

pub entry_tied : (G : Ground) (j : List Line) (w : Picture) (l : Line) → Sound G w → Ok G w l → Contents_tied G j w → Entered_tied j w → Entries_tied G j w → Entries_tied G (j ++ l ∷ []) (picture_after G w l)
entry_tied G j w (line.Enter m l ms) s ok c en h n k d = go ((m == n) && same_key l k) refl ∙ sym (stay_as (λ (z : Stay). z.entry d) w.stay m l _ n k)
  where
    go : (b : Bool) → ((m == n) && same_key l k) ≡ b → entry G.by k n d (j ++ line.Enter m l ms ∷ []) ≡ cond b ((w.node m).content d) ((w.stay n k).entry d)
    go false e = entry-other G.by k n d j (line.Enter m l ms) e ∙ h n k d
    go true e =
        let i : m ≡ n = number_same m n (and_left (m == n) (same_key l k) e) in
        let q : l ≡ k = key_same l k (and_right (m == n) (same_key l k) e) in
        entry-here G.by k n d j (line.Enter m l ms) e (subst₂ (λ (x : ℕ) (y : ClusterKey). list_any (is_enter y x) j ≡ false) i q (first_entry G j w s en m l ok.1.1)) ∙ (c n d ∙ ap (λ (x : ℕ). (w.node x).content d) (sym i))
entry_tied G j w (line.Clock m time) s ok c en h n k d = entry-other G.by k n d j (line.Clock m time) refl ∙ h n k d
entry_tied G j w (line.Stop m) s ok c en h n k d = entry-other G.by k n d j (line.Stop m) refl ∙ h n k d
entry_tied G j w (line.Exchanged m l) s ok c en h n k d = entry-other G.by k n d j (line.Exchanged m l) refl ∙ (h n k d ∙ sym (stay_kept (λ (z : Stay). z.entry d) w.stay m l _ n k refl))
entry_tied G j w (line.Apply m l t e v) s ok c en h n k d = entry-other G.by k n d j (line.Apply m l t e v) refl ∙ (h n k d ∙ sym (stay_kept (λ (z : Stay). z.entry d) w.stay m l _ n k refl))
entry_tied G j w (line.Done m l t) s ok c en h n k d = entry-other G.by k n d j (line.Done m l t) refl ∙ (h n k d ∙ sym (stay_kept (λ (z : Stay). z.entry d) w.stay m l _ n k refl))
entry_tied G j w (line.Merge m l e v) s ok c en h n k d = entry-other G.by k n d j (line.Merge m l e v) refl ∙ (h n k d ∙ sym (stay_kept (λ (z : Stay). z.entry d) w.stay m l _ n k refl))
entry_tied G j w (line.Drop m l q) s ok c en h n k d = entry-other G.by k n d j (line.Drop m l q) refl ∙ h n k d
entry_tied G j w (line.Settled m l p) s ok c en h n k d = entry-other G.by k n d j (line.Settled m l p) refl ∙ (h n k d ∙ sym (stay_kept (λ (z : Stay). z.entry d) w.stay m l _ n k refl))
entry_tied G j w l s ok c en h n k d = entry-other G.by k n d j l refl ∙ (h n k d ∙ sym (ap (λ (f : Versions). f d) ((quiet_frame G w l tt).stay n k).entry))

-- ---- whose copies were empty

abbrev pub Empties_tied : Ground → List Line → Picture → Type 0
Empties_tied G j w = (n : ℕ) (k : ClusterKey) (p : ℕ) → (w.stay n k).entered ≡ true → is_empty_at_entry k n p j ≡ is_empty (G.row k n p)

-- the line enters the view
pub enter_ok : (G : Ground) (w : Picture) (k : ClusterKey) (n : ℕ) (l : Line) → is_enter k n l ≡ true → Ok G w l → MayEnter G w n k
enter_ok G w k n (line.Enter m l ms) e ok = subst₂ (λ (x : ℕ) (y : ClusterKey). MayEnter G w x y) (number_same m n (and_left (m == n) (same_key l k) e)) (key_same l k (and_right (m == n) (same_key l k) e)) ok.1.1
enter_ok G w k n (line.Tick m) e ok = cc
enter_ok G w k n l e ok = cc

holds_some : (G : Ground) (j : List Line) (w : Picture) (n p : ℕ) → Contents_tied G j w → HoldsRecordOf (w.node n).content p → not (holds_any n p j) ≡ false
holds_some G j w n p c o = go (holds_any n p j) refl
  where
    go : (b : Bool) → holds_any n p j ≡ b → not b ≡ false
    go true e = refl
    go false e = no_some (sym ((no_record-empty G.by n p j).0 e o.digest o.is_of) ∙ (c n o.digest ∙ o.held))

pub state_empty : (G : Ground) (j : List Line) (w : Picture) (n p : ℕ) → Contents_tied G j w → (x : CopyState) → IsState (w.node n).content ((w.node n).stamp p) p x → not (holds_any n p j) ≡ is_empty x
state_empty G j w n p c Empty st = ap not ((no_record-empty G.by n p j).1 (λ d q. c n d ∙ st d q))
state_empty G j w n p c Part st = holds_some G j w n p c st.1
state_empty G j w n p c (Whole k writes) st = holds_some G j w n p c st.1

pub empty_tied : (G : Ground) (j : List Line) (w : Picture) (l : Line) → Ok G w l → Contents_tied G j w → Entered_tied j w → Entered_tied (j ++ l ∷ []) (picture_after G w l) → Empties_tied G j w → Empties_tied G (j ++ l ∷ []) (picture_after G w l)
empty_tied G j w l ok c en later h n k p e = go (list_any (is_enter k n) j) refl
  where
    go : (b : Bool) → list_any (is_enter k n) j ≡ b → is_empty_at_entry k n p (j ++ l ∷ []) ≡ is_empty (G.row k n p)
    go true i = empty-other k n p j l i ∙ h n k p (sym (en n k) ∙ i)
    go false i =
        let here : is_enter k n l ≡ true = sym (ap (λ (b : Bool). b || is_enter k n l) i) ∙ (sym (any-more (is_enter k n) j l) ∙ (later n k ∙ e)) in
        empty-here k n p j l here i ∙ state_empty G j w n p c (G.row k n p) ((enter_ok G w k n l here ok).row p)

-- ---- members

abbrev pub Members_tied : Ground → List Line → Type 0
Members_tied G j = (k : ClusterKey) → list_any (enters_key k) j ≡ true → members k j ≡ G.members k

first_members : (G : Ground) (w : Picture) (k : ClusterKey) (l : Line) → Ok G w l → enters_key k l ≡ true → members k (l ∷ []) ≡ G.members k
first_members G w k (line.Enter m l ms) ok e = ap (λ (b : Bool). cond b ms []) e ∙ (ok.1.0 ∙ ap G.members (key_same l k e))
first_members G w k (line.Tick m) ok e = cc
first_members G w k l ok e = cc

pub members_tied : (G : Ground) (j : List Line) (w : Picture) (l : Line) → Ok G w l → Members_tied G j → Members_tied G (j ++ l ∷ [])
members_tied G j w l ok h k e = members-more k j l ∙ go (list_any (enters_key k) j) refl
  where
    go : (b : Bool) → list_any (enters_key k) j ≡ b → cond b (members k j) (members k (l ∷ [])) ≡ G.members k
    go true i = h k i
    go false i = first_members G w k l ok (sym (ap (λ (b : Bool). b || enters_key k l) i) ∙ (sym (any-more (enters_key k) j l) ∙ e))

-- ---- the fold

abbrev pub Folds_tied : Ground → List Line → Picture → Type 0
Folds_tied G j w = (k : ClusterKey) (d : List ℕ) → join G.by (joined G.by (λ n. entry G.by k n d j) (G.members k)) (applied_in G.by k d j) ≡ w.fold k d

joined_over : (by : Policy) (b : Bool) (x y : Option Version) (v : Version) → join by x (joined_if b by y v) ≡ joined_if b by (join by x y) v
joined_over by true x y v = sym (join_assoc by x y (Some v))
joined_over by false x y v = refl

-- a line that enters no view of the key
no_entries : (G : Ground) (j : List Line) (l : Line) (k : ClusterKey) (d : List ℕ) → ((n : ℕ) → is_enter k n l ≡ false)
    → joined G.by (λ n. entry G.by k n d (j ++ l ∷ [])) (G.members k) ≡ joined G.by (λ n. entry G.by k n d j) (G.members k)
no_entries G j l k d e = same_entries G.by (λ n. entry G.by k n d j) (λ n. entry G.by k n d (j ++ l ∷ [])) (λ n. entry-other G.by k n d j l (e n)) (G.members k)

same_fold : (G : Ground) (j : List Line) (l : Line) (k : ClusterKey) (d : List ℕ) → ((n : ℕ) → is_enter k n l ≡ false) → applied_in G.by k d (j ++ l ∷ []) ≡ applied_in G.by k d j
    → join G.by (joined G.by (λ n. entry G.by k n d (j ++ l ∷ [])) (G.members k)) (applied_in G.by k d (j ++ l ∷ [])) ≡ join G.by (joined G.by (λ n. entry G.by k n d j) (G.members k)) (applied_in G.by k d j)
same_fold G j l k d e a = ap₂ (join G.by) (no_entries G j l k d e) a

and_false : (a b : Bool) → b ≡ false → (a && b) ≡ false
and_false true b e = e
and_false false b e = refl

other_number : (m n : ℕ) (c : Bool) → (n ≡ m → ⊥) → ((m == n) && c) ≡ false
other_number m n c apart = go (m == n) refl
  where
    go : (b : Bool) → (m == n) ≡ b → (b && c) ≡ false
    go true i = absurd (apart (sym (number_same m n i)))
    go false i = refl

pub fold_tied : (G : Ground) (j : List Line) (w : Picture) (l : Line) → Sound G w → Ok G w l → Contents_tied G j w → Entered_tied j w → Folds_tied G j w → Folds_tied G (j ++ l ∷ []) (picture_after G w l)
fold_tied G j w (line.Enter m l ms) s ok c en h k d = go (same_key l k) refl
  where
    x : Line
    x = line.Enter m l ms

    e0 : Option Version
    e0 = joined G.by (λ n. entry G.by k n d j) (G.members k)

    a0 : Option Version
    a0 = applied_in G.by k d j

    go : (b : Bool) → same_key l k ≡ b → join G.by (joined G.by (λ n. entry G.by k n d (j ++ x ∷ [])) (G.members k)) (applied_in G.by k d (j ++ x ∷ [])) ≡ (cond b (with_all G.by (w.fold l) (w.node m).content) (w.fold k)) d
    go false i = same_fold G j x k d (λ n. and_false (m == n) (same_key l k) i) (applied_in-more G.by k d j x) ∙ h k d
    go true i =
        let q : l ≡ k = key_same l k i in
        let none : list_any (is_enter k m) j ≡ false = subst (λ (y : ClusterKey). list_any (is_enter y m) j ≡ false) q (first_entry G j w s en m l ok.1.1) in
        let more : joined G.by (λ n. entry G.by k n d (j ++ x ∷ [])) (G.members k) ≡ join G.by e0 (content G.by m d j) =
        one_entry G.by (λ n. entry G.by k n d j) (λ n. entry G.by k n d (j ++ x ∷ [])) m (content G.by m d j)
        (record {
          here = (entry-none G.by k m d j none, entry-here G.by k m d j x (ap (λ (b : Bool). b && same_key l k) (number_here m) ∙ i) none);
          others = λ n apart. entry-other G.by k n d j x (other_number m n (same_key l k) apart);
        }) (G.members k) (subst (λ (y : ClusterKey). Rattle.cluster_laws.specs.Ground.is_view_member G y m ≡ true) q ok.1.1.member) in
        ap₂ (join G.by) more (applied_in-more G.by k d j x) ∙ (turned G.by e0 (content G.by m d j) a0 ∙ ap₂ (join G.by) (h k d ∙ ap (λ (y : ClusterKey). w.fold y d) (sym q)) (c m d))
fold_tied G j w (line.Apply m l t e v) s ok c en h k d =
    ap₂ (join G.by) (no_entries G j (line.Apply m l t e v) k d (λ n. refl)) (applied_in-more G.by k d j (line.Apply m l t e v))
    ∙ (joined_over G.by (same_key l k && bytes_eq e d) (joined G.by (λ n. entry G.by k n d j) (G.members k)) (applied_in G.by k d j) v
    ∙ (ap (λ (o : Option Version). joined_if (same_key l k && bytes_eq e d) G.by o v) (h k d) ∙ sym (key_stored G.by w.fold l e v k d)))
fold_tied G j w (line.Clock m time) s ok c en h k d = same_fold G j (line.Clock m time) k d (λ n. refl) (applied_in-more G.by k d j (line.Clock m time)) ∙ h k d
fold_tied G j w (line.Stop m) s ok c en h k d = same_fold G j (line.Stop m) k d (λ n. refl) (applied_in-more G.by k d j (line.Stop m)) ∙ h k d
fold_tied G j w (line.Exchanged m l) s ok c en h k d = same_fold G j (line.Exchanged m l) k d (λ n. refl) (applied_in-more G.by k d j (line.Exchanged m l)) ∙ h k d
fold_tied G j w (line.Done m l t) s ok c en h k d = same_fold G j (line.Done m l t) k d (λ n. refl) (applied_in-more G.by k d j (line.Done m l t)) ∙ h k d
fold_tied G j w (line.Merge m l e v) s ok c en h k d = same_fold G j (line.Merge m l e v) k d (λ n. refl) (applied_in-more G.by k d j (line.Merge m l e v)) ∙ h k d
fold_tied G j w (line.Drop m l q) s ok c en h k d = same_fold G j (line.Drop m l q) k d (λ n. refl) (applied_in-more G.by k d j (line.Drop m l q)) ∙ h k d
fold_tied G j w (line.Settled m l p) s ok c en h k d = same_fold G j (line.Settled m l p) k d (λ n. refl) (applied_in-more G.by k d j (line.Settled m l p)) ∙ h k d
fold_tied G j w l s ok c en h k d = same_fold G j l k d (λ n. refl) (applied_in-more G.by k d j l) ∙ (h k d ∙ sym (ap (λ (f : ClusterKey → Versions). f k d) (quiet_frame G w l tt).fold))

-- ---- settled partitions

abbrev pub Settled_tied : List Line → Picture → Type 0
Settled_tied j w = (n : ℕ) (k : ClusterKey) (p : ℕ) → list_any (is_settled_line k n p) j ≡ true → w.settled k p ≡ true

pub settled_tied : (G : Ground) (j : List Line) (w : Picture) (l : Line) → Settled_tied j w → Settled_tied (j ++ l ∷ []) (picture_after G w l)
settled_tied G j w (line.Settled m l q) h n k p e = ⊎_elim (λ z. part_grows w.settled l q k p (h n k p z))
    (λ z.
    let y : (same_key l k && (q == p)) ≡ true = and_right (m == n) (same_key l k && (q == p)) z in
    subst₂ (λ (a : ClusterKey) (b : ℕ). at_part w.settled l q true a b ≡ true) (key_same l k (and_left (same_key l k) (q == p) y)) (number_same q p (and_right (same_key l k) (q == p) y)) (part_here w.settled l q))
    (or_cases (list_any (is_settled_line k n p) j) ((m == n) && (same_key l k && (q == p))) (sym (any-more (is_settled_line k n p) j (line.Settled m l q)) ∙ e))
settled_tied G j w (line.Clock m time) h n k p e = h n k p (sym (missed (is_settled_line k n p) j (line.Clock m time) refl) ∙ e)
settled_tied G j w (line.Enter m l ms) h n k p e = h n k p (sym (missed (is_settled_line k n p) j (line.Enter m l ms) refl) ∙ e)
settled_tied G j w (line.Stop m) h n k p e = h n k p (sym (missed (is_settled_line k n p) j (line.Stop m) refl) ∙ e)
settled_tied G j w (line.Exchanged m l) h n k p e = h n k p (sym (missed (is_settled_line k n p) j (line.Exchanged m l) refl) ∙ e)
settled_tied G j w (line.Apply m l t c v) h n k p e = h n k p (sym (missed (is_settled_line k n p) j (line.Apply m l t c v) refl) ∙ e)
settled_tied G j w (line.Done m l t) h n k p e = h n k p (sym (missed (is_settled_line k n p) j (line.Done m l t) refl) ∙ e)
settled_tied G j w (line.Merge m l c v) h n k p e = h n k p (sym (missed (is_settled_line k n p) j (line.Merge m l c v) refl) ∙ e)
settled_tied G j w (line.Drop m l q) h n k p e = h n k p (sym (missed (is_settled_line k n p) j (line.Drop m l q) refl) ∙ e)
settled_tied G j w l h n k p e = ap (λ (f : ClusterKey → ℕ → Bool). f k p) (quiet_frame G w l tt).settled ∙ h n k p (sym (missed (is_settled_line k n p) j l refl) ∙ e)

-- ---- writes

-- a fact of a stay after a change
stay_either : (P : Stay → Type 0) (stay : ℕ → ClusterKey → Stay) (m : ℕ) (l : ClusterKey) (new : Stay) (n : ℕ) (k : ClusterKey) → (m ≡ n → l ≡ k → P new) → P (stay n k) → P (at_stay stay m l new n k)
stay_either P stay m l new n k here old = go (m == n) refl
  where
    inner : (c : Bool) → same_key l k ≡ c → m ≡ n → P (cond c new (stay m k))
    inner true s i = here i (key_same l k s)
    inner false s i = subst (λ (z : ℕ). P (stay z k)) (sym i) old

    go : (b : Bool) → (m == n) ≡ b → P ((cond b (at_key (stay m) l new) (stay n)) k)
    go true i = inner (same_key l k) refl (number_same m n i)
    go false i = old

-- the same, where the change may be at another place
pub stay_cases : (P : Stay → Type 0) (stay : ℕ → ClusterKey → Stay) (m : ℕ) (l : ClusterKey) (new : Stay) (n : ℕ) (k : ClusterKey) → (m ≡ n → l ≡ k → P new) → ((m ≡ n → l ≡ k → ⊥) → P (stay n k)) → P (at_stay stay m l new n k)
stay_cases P stay m l new n k here old = go (m == n) refl
  where
    inner : (c : Bool) → same_key l k ≡ c → m ≡ n → P (cond c new (stay m k))
    inner true s i = here i (key_same l k s)
    inner false s i = subst (λ (z : ℕ). P (stay z k)) (sym i) (old (λ _ q. differ (sym (ap (same_key l) q) ∙ Rattle.cluster_laws.proofs.At.keys.here l) s))

    go : (b : Bool) → (m == n) ≡ b → P ((cond b (at_key (stay m) l new) (stay n)) k)
    go true i = inner (same_key l k) refl (number_same m n i)
    go false i = old (λ z _. differ (sym (ap (λ (b : ℕ). m == b) z) ∙ number_here m) i)

-- the node's write of the record in the transaction
abbrev pub is_write : ClusterKey → ℕ → ℕ → List ℕ → Line → Bool
is_write k n t d (line.Apply m l u c v) = (m == n) && (same_key l k && ((u == t) && bytes_eq c d))
is_write k n t d _ = false

abbrev pub Writes_tied : List Line → Picture → Type 0
Writes_tied j w = (n : ℕ) (k : ClusterKey) (t : ℕ) (a : Applied) → (w.stay n k).writes t ≡ Some a → list_any (is_write k n t a.digest) j ≡ true

-- what was written stays written
still_written : (j : List Line) (w : Picture) (l : Line) → Writes_tied j w → (n : ℕ) (k : ClusterKey) (t : ℕ) (a : Applied) → (w.stay n k).writes t ≡ Some a → list_any (is_write k n t a.digest) (j ++ l ∷ []) ≡ true
still_written j w l h n k t a e = any-more (is_write k n t a.digest) j l ∙ or_left_true (list_any (is_write k n t a.digest) j) (is_write k n t a.digest l) (h n k t a e)

same_writes : (j : List Line) (w v : Picture) (l : Line) → ((n : ℕ) (k : ClusterKey) (t : ℕ) → (v.stay n k).writes t ≡ (w.stay n k).writes t) → Writes_tied j w → Writes_tied (j ++ l ∷ []) v
same_writes j w v l eq h n k t a e = still_written j w l h n k t a (sym (eq n k t) ∙ e)

pub writes_tied : (G : Ground) (j : List Line) (w : Picture) (l : Line) → Writes_tied j w → Writes_tied (j ++ l ∷ []) (picture_after G w l)
writes_tied G j w (line.Apply m l u c v) h n k t a = stay_either (λ (z : Stay). z.writes t ≡ Some a → list_any (is_write k n t a.digest) (j ++ x ∷ []) ≡ true) w.stay m l _ n k
    (λ i q. changed_either numbers (λ (o : Option Applied). o ≡ Some a → list_any (is_write k n t a.digest) (j ++ x ∷ []) ≡ true) (w.stay m l).writes u _ t
    (λ y e. any-more (is_write k n t a.digest) j x ∙ or_right_true (list_any (is_write k n t a.digest) j) (is_write k n t a.digest x) (here i q y (ap (λ (z : Applied). z.digest) (some_same e))))
    (λ y e. still_written j w x h n k t a (subst₂ (λ (b : ℕ) (f : ClusterKey). (w.stay b f).writes t ≡ Some a) i q e)))
    (λ e. still_written j w x h n k t a e)
  where
    x : Line
    x = line.Apply m l u c v

    here : m ≡ n → l ≡ k → u ≡ t → c ≡ a.digest → is_write k n t a.digest x ≡ true
    here i q y z = and_both (m == n) (same_key l k && ((u == t) && bytes_eq c a.digest)) (sym (ap (λ (b : ℕ). m == b) i) ∙ number_here m)
        (and_both (same_key l k) ((u == t) && bytes_eq c a.digest) (sym (ap (same_key l) q) ∙ Rattle.cluster_laws.proofs.At.keys.here l)
        (and_both (u == t) (bytes_eq c a.digest) (sym (ap (λ (b : ℕ). u == b) y) ∙ number_here u) (sym (ap (bytes_eq c) z) ∙ same_digest_itself c)))
writes_tied G j w (line.Enter m l ms) h n k t a = stay_either (λ (z : Stay). z.writes t ≡ Some a → list_any (is_write k n t a.digest) (j ++ line.Enter m l ms ∷ []) ≡ true) w.stay m l _ n k
    (λ i q e. no_some e) (λ e. still_written j w (line.Enter m l ms) h n k t a e)
writes_tied G j w (line.Clock m time) h n k t a = same_writes j w (picture_after G w (line.Clock m time)) (line.Clock m time) (λ n k t. refl) h n k t a
writes_tied G j w (line.Stop m) h n k t a = same_writes j w (picture_after G w (line.Stop m)) (line.Stop m) (λ n k t. refl) h n k t a
writes_tied G j w (line.Exchanged m l) h n k t a = same_writes j w (picture_after G w (line.Exchanged m l)) (line.Exchanged m l) (λ n k t. stay_kept (λ (z : Stay). z.writes t) w.stay m l _ n k refl) h n k t a
writes_tied G j w (line.Done m l u) h n k t a = same_writes j w (picture_after G w (line.Done m l u)) (line.Done m l u) (λ n k t. stay_kept (λ (z : Stay). z.writes t) w.stay m l _ n k refl) h n k t a
writes_tied G j w (line.Merge m l c v) h n k t a = same_writes j w (picture_after G w (line.Merge m l c v)) (line.Merge m l c v) (λ n k t. stay_kept (λ (z : Stay). z.writes t) w.stay m l _ n k refl) h n k t a
writes_tied G j w (line.Drop m l q) h n k t a = same_writes j w (picture_after G w (line.Drop m l q)) (line.Drop m l q) (λ n k t. refl) h n k t a
writes_tied G j w (line.Settled m l p) h n k t a = same_writes j w (picture_after G w (line.Settled m l p)) (line.Settled m l p) (λ n k t. stay_kept (λ (z : Stay). z.writes t) w.stay m l _ n k refl) h n k t a
writes_tied G j w l h n k t a = same_writes j w (picture_after G w l) l (λ n k t. ap (λ (f : ℕ → Option Applied). f t) ((quiet_frame G w l tt).stay n k).writes) h n k t a

abbrev pub Done_tied : List Line → Picture → Type 0
Done_tied j w = (n : ℕ) (k : ClusterKey) (t : ℕ) → list_any (is_done_line k n t) j ≡ true → (w.stay n k).done t ≡ true

same_done : (j : List Line) (w v : Picture) (l : Line) → ((n : ℕ) (k : ClusterKey) (t : ℕ) → is_done_line k n t l ≡ false) → ((n : ℕ) (k : ClusterKey) (t : ℕ) → (v.stay n k).done t ≡ (w.stay n k).done t) → Done_tied j w → Done_tied (j ++ l ∷ []) v
same_done j w v l not_done eq h n k t e = eq n k t ∙ h n k t (sym (missed (is_done_line k n t) j l (not_done n k t)) ∙ e)

pub done_tied : (G : Ground) (j : List Line) (w : Picture) (l : Line) → Sound G w → Ok G w l → Done_tied j w → Done_tied (j ++ l ∷ []) (picture_after G w l)
done_tied G j w (line.Done m l u) s ok h n k t e = stay_cases (λ (z : Stay). z.done t ≡ true) w.stay m l _ n k
    (λ i q. changed_either numbers (λ (b : Bool). b ≡ true) (w.stay m l).done u true t (λ y. refl)
    (λ y. subst₂ (λ (a : ℕ) (f : ClusterKey). (w.stay a f).done t ≡ true) (sym i) (sym q) (⊎_elim (λ z. h n k t z) (λ z. absurd (y (last z))) cases)))
    (λ apart. ⊎_elim (λ z. h n k t z) (λ z. absurd (apart (first z) (second z))) cases)
  where
    cases : (list_any (is_done_line k n t) j ≡ true)
        ⊎ (((m == n) && (same_key l k && (u == t))) ≡ true)
    cases = or_cases (list_any (is_done_line k n t) j) ((m == n) && (same_key l k && (u == t))) (sym (any-more (is_done_line k n t) j (line.Done m l u)) ∙ e)

    first : ((m == n) && (same_key l k && (u == t))) ≡ true → m ≡ n
    first z = number_same m n (and_left (m == n) (same_key l k && (u == t)) z)

    second : ((m == n) && (same_key l k && (u == t))) ≡ true → l ≡ k
    second z = key_same l k (and_left (same_key l k) (u == t) (and_right (m == n) (same_key l k && (u == t)) z))

    last : ((m == n) && (same_key l k && (u == t))) ≡ true → u ≡ t
    last z = number_same u t (and_right (same_key l k) (u == t) (and_right (m == n) (same_key l k && (u == t)) z))
done_tied G j w (line.Enter m l ms) s ok h n k t e = same_done j w (picture_after G w (line.Enter m l ms)) (line.Enter m l ms) (λ n k t. refl)
    (λ n k t. stay_kept (λ (z : Stay). z.done t) w.stay m l _ n k (sym (ap (λ (z : Stay). z.done t) (fresh_stay G w s m l ok.1.1)))) h n k t e
done_tied G j w (line.Clock m time) s ok h n k t e = same_done j w (picture_after G w (line.Clock m time)) (line.Clock m time) (λ n k t. refl) (λ n k t. refl) h n k t e
done_tied G j w (line.Stop m) s ok h n k t e = same_done j w (picture_after G w (line.Stop m)) (line.Stop m) (λ n k t. refl) (λ n k t. refl) h n k t e
done_tied G j w (line.Exchanged m l) s ok h n k t e = same_done j w (picture_after G w (line.Exchanged m l)) (line.Exchanged m l) (λ n k t. refl) (λ n k t. stay_kept (λ (z : Stay). z.done t) w.stay m l _ n k refl) h n k t e
done_tied G j w (line.Apply m l u c v) s ok h n k t e = same_done j w (picture_after G w (line.Apply m l u c v)) (line.Apply m l u c v) (λ n k t. refl) (λ n k t. stay_kept (λ (z : Stay). z.done t) w.stay m l _ n k refl) h n k t e
done_tied G j w (line.Merge m l c v) s ok h n k t e = same_done j w (picture_after G w (line.Merge m l c v)) (line.Merge m l c v) (λ n k t. refl) (λ n k t. stay_kept (λ (z : Stay). z.done t) w.stay m l _ n k refl) h n k t e
done_tied G j w (line.Drop m l q) s ok h n k t e = same_done j w (picture_after G w (line.Drop m l q)) (line.Drop m l q) (λ n k t. refl) (λ n k t. refl) h n k t e
done_tied G j w (line.Settled m l p) s ok h n k t e = same_done j w (picture_after G w (line.Settled m l p)) (line.Settled m l p) (λ n k t. refl) (λ n k t. stay_kept (λ (z : Stay). z.done t) w.stay m l _ n k refl) h n k t e
done_tied G j w l s ok h n k t e = same_done j w (picture_after G w l) l (λ n k t. refl) (λ n k t. ap (λ (f : ℕ → Bool). f t) ((quiet_frame G w l tt).stay n k).done) h n k t e
