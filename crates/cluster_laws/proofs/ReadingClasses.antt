-- Copies of one class are equal, as a reader finds them.
use Rattle.std.proofs.Common.{◌≡◌, ℕ, ◌==◌, Bool, true, false, cond, not, ◌&&◌, ◌||◌, List, [], ◌∷◌, ◌++◌, length, Option, Some, None, option_map, take, refl, sym, ap, ap₂, subst, ◌∙◌, arith, ◌⊎◌, inl, inr, ⊎_elim}
use Rattle.std.specs.Prelude.{count_by, filter, if◌then◌else◌}
use Rattle.std.specs.List.{list_any}
use Rattle.std.proofs.lemmas.List.FromFn.{length-range_with_len}
use Rattle.conflict_order.specs.declared.policy.Policy.{Policy}
use Rattle.cluster_types.specs.declared.cluster_key.ClusterKey.{ClusterKey}
use Rattle.cluster_types.specs.declared.copy_state.CopyState.{CopyState}
use Rattle.cluster_types.specs.declared.copy_state.CopyState.TheVariants.{Empty, Part, Whole}
use Rattle.cluster_types.specs.Partitions.{partition_of}
use Rattle.cluster_types.specs.Distinct.{contains}
use Rattle.cluster_types.specs.ClusterKeys.{same_key}
use Rattle.partition_lists.specs.Acting.{is_whole}
use Rattle.partition_lists.specs.Classes.{is_in_class_by, is_whole_with, no_class}
use Rattle.partition_lists.specs.Counts.{count_of, recounted, spoiled}
use Rattle.journal_lines.specs.declared.line.Line.{Line}
use Rattle.journal_lines.specs.declared.line.Line.TheVariants as line
use Rattle.journal_readings.specs.Lines.{has_node, is_enter, lines_after}
use Rattle.journal_readings.specs.Settings.{nodes}
use Rattle.journal_readings.specs.Contents.{holds_any}
use Rattle.journal_readings.specs.Entries.{entry}
use Rattle.journal_readings.specs.Views.{members, master}
use Rattle.journal_readings.specs.Messages.{posted}
use Rattle.journal_readings.specs.Counts.{is_apply_in, own_numbers, heard_numbers, numbers, is_foreign, has_foreign, has_no_gap, count}
use Rattle.journal_readings.specs.Rows.{stamped, copy_state, row}
use Rattle.journal_readings.specs.Classes.{has_records, are_alike, is_in_class_of, class_of, are_in_one_class}
use Rattle.journal_readings.specs.Claims.{EqualClasses}
use Rattle.journal_readings.proofs.StepLaws.{row-more}
use Rattle.cluster_laws.specs.Changed.{at_number}
use Rattle.cluster_laws.specs.Ground as ground
use Rattle.cluster_laws.specs.Ground.{Ground, IsGround, view_state, same_view_class}
use Rattle.cluster_laws.specs.Stay.{Stay}
use Rattle.cluster_laws.specs.Picture.{Seen, Picture, start}
use Rattle.cluster_laws.specs.Effect.{Effect, Nothing, Row_came, Batch_acked, Told, Write_came, Write_acked, Answered, effect, arrives, arrives_cut}
use Rattle.cluster_laws.specs.Changes as changes
use Rattle.cluster_laws.specs.Changes.{act, restamped, recounted_if}
use Rattle.cluster_laws.specs.Licences.{Ok, IsState, picture_after}
use Rattle.cluster_laws.specs.Laws.{picture}
use Rattle.cluster_laws.specs.Journals.{journal, FitsGround, IsJournal}
use Rattle.cluster_laws.proofs.At as at
use Rattle.cluster_laws.proofs.At.{changed_either, number_same, number_here, key_same, key_cases, and_left, and_right, and_both, differ, some_same, no_some}
use Rattle.cluster_laws.proofs.Allowed.{Allowed, allowed}
use Rattle.cluster_laws.proofs.Step.{Step, same, enter, within, steps}
use Rattle.cluster_laws.proofs.Stays.{framed}
use Rattle.cluster_laws.proofs.All.{Sound, sound_kept}
use Rattle.cluster_laws.proofs.Settled as laws
use Rattle.cluster_laws.proofs.ReadingFrames.{any-more, IsMessage, arrives_message, arrives_cut_message}
use Rattle.cluster_laws.proofs.ReadingLines.{or_cases, or_left_false, or_right_false, eq_turned, unentered}
use Rattle.cluster_laws.proofs.ReadingSteps.{Entered_tied}
use Rattle.cluster_laws.proofs.ReadingViews.{state_empty, enter_ok}
use Rattle.cluster_laws.proofs.ReadingTies.{Tied, journal_keeps, members_of}
use Rattle.cluster_laws.proofs.ReadingClaims.{master_is}
use Rattle.cluster_laws.proofs.ReadingStamps.{key_of, state_full, state_none, row-other, row-here, not_true, not_false}
use Rattle.cluster_laws.proofs.ReadingMaps.{Keyed, keyed_step, keyed_start}
use Rattle.cluster_laws.proofs.ReadingNumbers.{SameNumbers, no_numbers, in_succession, all_in_range}
use Rattle.cluster_laws.proofs.ReadingHeard.{Posts_tied, posts_tied, Applies_tied, applies_tied, Heard_tied, heard_tied}

-- ---- versions of other views

lines_after-more : (test : Line → Bool) (ls : List Line) (l : Line) → list_any test ls ≡ true → lines_after test (ls ++ l ∷ []) ≡ lines_after test ls ++ l ∷ []
lines_after-more test [] l e = differ e refl
lines_after-more test (x ∷ ls) l e = go (test x) (lines_after-more test ls l) e
  where
    go : (b : Bool) → (list_any test ls ≡ true → lines_after test (ls ++ l ∷ []) ≡ lines_after test ls ++ l ∷ []) → (b || list_any test ls) ≡ true → cond b (ls ++ l ∷ []) (lines_after test (ls ++ l ∷ [])) ≡ cond b ls (lines_after test ls) ++ l ∷ []
    go true rest q = refl
    go false rest q = rest q

foreign-more : (k : ClusterKey) (n p : ℕ) (j : List Line) (l : Line) → list_any (is_enter k n) j ≡ true → has_foreign k n p (j ++ l ∷ []) ≡ (has_foreign k n p j || is_foreign k n p l)
foreign-more k n p j l e = ap (list_any (is_foreign k n p)) (lines_after-more (is_enter k n) j l e) ∙ any-more (is_foreign k n p) (lines_after (is_enter k n) j) l

-- ---- a stamp of a view in which the node isn't any more

-- the stamp was there, where nothing foreign comes
abbrev Was : Picture → ℕ → ClusterKey → ℕ → ℕ → Type 0
Was w n k p c = (w.node n).stamp p ≡ Some (k, c)

node_moved : (w : Picture) (l : Line) (m : ℕ) (new : Seen) (n : ℕ) (k : ClusterKey) (p c : ℕ) → (new.stamp p ≡ Some (k, c) → (new.view ≡ Some k → ⊥) → is_foreign k m p l ≡ false → Was w m k p c)
    → (at_number w.node m new n).stamp p ≡ Some (k, c) → ((at_number w.node m new n).view ≡ Some k → ⊥) → is_foreign k n p l ≡ false → Was w n k p c
node_moved w l m new n k p c here = go (m == n) refl
  where
    go : (b : Bool) → (m == n) ≡ b → (cond b new (w.node n)).stamp p ≡ Some (k, c) → ((cond b new (w.node n)).view ≡ Some k → ⊥) → is_foreign k n p l ≡ false → Was w n k p c
    go true i e out f = subst (λ (z : ℕ). Was w z k p c) (number_same m n i) (here e out (subst (λ (z : ℕ). is_foreign k z p l ≡ false) (sym (number_same m n i)) f))
    go false i e out f = e

mapped : (f : ClusterKey × ℕ → ClusterKey × ℕ) (o : Option (ClusterKey × ℕ)) (y : ClusterKey × ℕ) → option_map f o ≡ Some y → (z : ClusterKey × ℕ) × (o ≡ Some z) × (f z ≡ y)
mapped f None y e = no_some e
mapped f (Some z) y e = (z, refl, some_same e)

stamp_moved : (x : Seen) (q : ℕ) (change : ClusterKey × ℕ → ClusterKey × ℕ) (k : ClusterKey) (p c : ℕ) → (q ≡ p → (z : ClusterKey × ℕ) → x.stamp q ≡ Some z → change z ≡ (k, c) → x.stamp p ≡ Some (k, c))
    → restamped x q change p ≡ Some (k, c) → x.stamp p ≡ Some (k, c)
stamp_moved x q change k p c here = changed_either at.numbers (λ (o : Option (ClusterKey × ℕ)). o ≡ Some (k, c) → x.stamp p ≡ Some (k, c)) x.stamp q (option_map change (x.stamp q)) p
    (λ i e. let m : (z : ClusterKey × ℕ) × (x.stamp q ≡ Some z) × (change z ≡ (k, c)) = mapped change (x.stamp q) (k, c) e in here i m.0 m.1 m.2) (λ _ e. e)

not_foreign : (m : ℕ) (l k : ClusterKey) (q p : ℕ) → ((m == m) && (not (same_key l k) && (q == p))) ≡ false → q ≡ p → l ≡ k
not_foreign m l k q p f i = key_same l k (go (m == m) (same_key l k) (q == p) (number_here m) (subst (λ (z : ℕ). (q == z) ≡ true) i (number_here q)) f)
  where
    go : (x y z : Bool) → x ≡ true → z ≡ true → (x && (not y && z)) ≡ false → y ≡ true
    go true true z a b e = refl
    go true false true a b e = sym e
    go true false false a b e = b
    go false y z a b e = cc

message_moved : (G : Ground) (w : Picture) (e : Effect) → IsMessage e → Allowed G w e → (n : ℕ) (k : ClusterKey) (p c : ℕ) → ((act G e w).node n).stamp p ≡ Some (k, c) → (((act G e w).node n).view ≡ Some k → ⊥) → Was w n k p c
message_moved G w Nothing h al n k p c e out = e
message_moved G w (Row_came m l from) h al n k p c e out = e
message_moved G w (Batch_acked m l from b) h al n k p c e out = e
message_moved G w (Told m l from done handed settled) h al n k p c e out = e
message_moved G w (Write_acked m l from t y) h al n k p c e out = e
message_moved G w (Answered m l from t v y) h al n k p c e out = e
message_moved G w (Write_came m l from nth d v) h al n k p c e out = node_moved w (line.Tick m) m _ n k p c
    (λ x apart _. stamp_moved (w.node m) (partition_of d) _ k p c (λ i z zs zc. subst (λ (q : ℕ). (w.node m).stamp q ≡ Some (k, c)) i (zs ∙ ap Some (same_stamp apart z (from == ground.view_master G l (partition_of d)) _ zc))) x) e out refl
  where
    same_stamp : ((w.node m).view ≡ Some k → ⊥) → (z : ClusterKey × ℕ) (b : Bool) (a : ℕ) → recounted_if b l a z ≡ (k, c) → z ≡ (k, c)
    same_stamp apart z false a q = q
    same_stamp apart z true a q = deep (same_key z.0 l) q
      where
        deep : (b : Bool) → cond b (l, a) z ≡ (k, c) → z ≡ (k, c)
        deep true r = absurd (apart (al.came.view ∙ ap Some (ap (λ (y : ClusterKey × ℕ). y.0) r)))
        deep false r = r
message_moved G w _ h al n k p c e out = absurd h

moved : (G : Ground) (w : Picture) (l : Line) → Ok G w l → (n : ℕ) (k : ClusterKey) (p c : ℕ) → ((picture_after G w l).node n).stamp p ≡ Some (k, c) → (((picture_after G w l).node n).view ≡ Some k → ⊥) → is_foreign k n p l ≡ false → Was w n k p c
moved G w (line.Apply m l t d u) ok n k p c = node_moved w (line.Apply m l t d u) m _ n k p c
    (λ e out f. stamp_moved (w.node m) (partition_of d) _ k p c (λ i z zs zc. absurd (out (ok.1.resolved.is_in.view ∙ ap Some (not_foreign m l k (partition_of d) p f i)))) e)
moved G w (line.Merge m l d u) ok n k p c = node_moved w (line.Merge m l d u) m _ n k p c
    (λ e out f. stamp_moved (w.node m) (partition_of d) _ k p c (λ i z zs zc. absurd (out (ok.is_in.view ∙ ap Some (not_foreign m l k (partition_of d) p f i)))) e)
moved G w (line.Learn m l q) ok n k p c = node_moved w (line.Learn m l q) m _ n k p c
    (λ e out f. changed_either at.numbers (λ (o : Option (ClusterKey × ℕ)). o ≡ Some (k, c) → Was w m k p c) (w.node m).stamp q _ p
    (λ i x. absurd (out (ok.1.is_in.view ∙ ap Some (ap (λ (y : ClusterKey × ℕ). y.0) (some_same x))))) (λ _ x. x) e)
moved G w (line.Drop m l q) ok n k p c = node_moved w (line.Drop m l q) m _ n k p c
    (λ e out f. changed_either at.numbers (λ (o : Option (ClusterKey × ℕ)). o ≡ Some (k, c) → Was w m k p c) (w.node m).stamp q None p (λ i x. no_some x) (λ _ x. x) e)
moved G w (line.Exchanged m l) ok n k p c = node_moved w (line.Exchanged m l) m _ n k p c (λ e out f. go out (ground.is_view_empty G l p && ground.is_view_replica G l p m) (changes.copy_count G l m (w.stay m l) p) e)
  where
    go : ((w.node m).view ≡ Some k → ⊥) → (b : Bool) (a : ℕ) → (if b then Some (l, a) else (w.node m).stamp p) ≡ Some (k, c) → Was w m k p c
    go out true a x = absurd (out (ok.1.is_in.view ∙ ap Some (ap (λ (y : ClusterKey × ℕ). y.0) (some_same x))))
    go out false a x = x
moved G w (line.Clock m time) ok n k p c = node_moved w (line.Clock m time) m _ n k p c (λ e out f. e)
moved G w (line.Enter m l ms) ok n k p c = node_moved w (line.Enter m l ms) m _ n k p c (λ e out f. e)
moved G w (line.Stop m) ok n k p c = node_moved w (line.Stop m) m _ n k p c (λ e out f. e)
moved G w (line.Deliver i a b) ok n k p c = λ e out f. message_moved G w (arrives w (w.packet i)) (arrives_message w (w.packet i)) (allowed G w (line.Deliver i a b) ok) n k p c e out
moved G w (line.Repeat i a b) ok n k p c = λ e out f. message_moved G w (arrives w (w.packet i)) (arrives_message w (w.packet i)) (allowed G w (line.Repeat i a b) ok) n k p c e out
moved G w (line.Cut i a b size) ok n k p c = λ e out f. message_moved G w (arrives_cut w size (w.packet i)) (arrives_cut_message w size (w.packet i)) (allowed G w (line.Cut i a b size) ok) n k p c e out
moved G w l ok n k p c = λ e out f. e

stay_same : (G : Ground) (w v : Picture) (n : ℕ) (k : ClusterKey) (x : Seen) (s : Stay) → Step G w v n k x s → (x.view ≡ Some k → ⊥) → s ≡ w.stay n k
stay_same G w v n k _ _ same out = refl
stay_same G w v n k _ _ (enter ok e) out = absurd (out refl)
stay_same G w v n k _ _ (within x s view c) out = absurd (out ((framed G w v n k x s c).view ∙ view))
stay_same G w v n k _ _ _ out = refl

view_cases : (o : Option ClusterKey) (k : ClusterKey) → (o ≡ Some k) ⊎ (o ≡ Some k → ⊥)
view_cases None k = inr (λ e. no_some e)
view_cases (Some j) k = ⊎_elim (λ e. inl (ap Some e)) (λ e. inr (λ z. e (some_same z))) (key_cases j k)

abbrev pub Unspoiled_tied : Ground → List Line → Picture → Type 0
Unspoiled_tied G j w = (n : ℕ) (k : ClusterKey) (p c : ℕ) → (w.node n).stamp p ≡ Some (k, c) → has_foreign k n p j ≡ false → c ≡ changes.copy_count G k n (w.stay n k) p

unspoiled_tied : (G : Ground) (j : List Line) (w : Picture) (l : Line) → Sound G (picture_after G w l) → Ok G w l → Entered_tied j w → Unspoiled_tied G j w → Unspoiled_tied G (j ++ l ∷ []) (picture_after G w l)
unspoiled_tied G j w l s ok en h n k p c e f = ⊎_elim (λ view. ((s.stamps n k).now p c e view).counts) outside (view_cases ((picture_after G w l).node n).view k)
  where
    outside : (((picture_after G w l).node n).view ≡ Some k → ⊥) → c ≡ changes.copy_count G k n ((picture_after G w l).stay n k) p
    outside out =
        let still : (picture_after G w l).stay n k ≡ w.stay n k = stay_same G w (picture_after G w l) n k _ _ (steps G w (effect w l) (allowed G w l ok) n k) out in
        let was : list_any (is_enter k n) j ≡ true = en n k ∙ (sym (ap (λ (z : Stay). z.entered) still) ∙ (s.stamps n k).entered p c e) in
        let free : (has_foreign k n p j || is_foreign k n p l) ≡ false = sym (foreign-more k n p j l was) ∙ f in
        h n k p c (moved G w l ok n k p c e out (or_right_false (has_foreign k n p j) (is_foreign k n p l) free)) (or_left_false (has_foreign k n p j) (is_foreign k n p l) free)
        ∙ ap (λ (z : Stay). changes.copy_count G k n z p) (sym still)

-- ---- counts

numbers_are : (G : Ground) (j : List Line) (n : ℕ) (k : ClusterKey) (p : ℕ) → members k j ≡ G.members k → numbers k n p j ≡ cond (n == ground.view_master G k p) (own_numbers k n p j) (heard_numbers k n p (ground.view_master G k p) j)
unfolding numbers
numbers_are G j n k p ms = ap (λ (m : ℕ). cond (n == m) (own_numbers k n p j) (heard_numbers k n p m j)) (master_is G k p j ms)

gapless : (xs ys : List ℕ) → SameNumbers xs ys → has_no_gap xs ≡ true → count_of ys ≡ length xs
gapless xs ys h e = ap (λ (b : Bool). cond b (length ys) no_class)
    (in_succession ys 1 h.rising (λ x lo hi. sym (h.same x) ∙ all_in_range (contains xs) 1 (length xs) e x lo (omega (arith, hi, h.size)))) ∙ sym h.size

counts_one : (G : Ground) (j : List Line) (w : Picture) → Applies_tied j w → Heard_tied G j w → (n : ℕ) (k : ClusterKey) (p : ℕ) (b : Bool) → (n == ground.view_master G k p) ≡ b → has_no_gap (cond b (own_numbers k n p j) (heard_numbers k n p (ground.view_master G k p) j)) ≡ true
    → changes.copy_count G k n (w.stay n k) p ≡ length (cond b (own_numbers k n p j) (heard_numbers k n p (ground.view_master G k p) j))
counts_one G j w own he n k p true i e = ap (λ (b : Bool). cond b ((w.stay n k).applies p) (count_of ((w.stay n k).numbers p))) (eq_turned (ground.view_master G k p) n ∙ i)
    ∙ (sym (own n k p) ∙ sym (length-range_with_len 1 (count_by (is_apply_in k n p) j)))
counts_one G j w own he n k p false i e = ap (λ (b : Bool). cond b ((w.stay n k).applies p) (count_of ((w.stay n k).numbers p))) (eq_turned (ground.view_master G k p) n ∙ i)
    ∙ gapless (heard_numbers k n p (ground.view_master G k p) j) ((w.stay n k).numbers p)
    (he n k p) e

counted : (G : Ground) (ns : List ℕ) (j : List Line) (w : Picture) → Tied G ns j w → Applies_tied j w → Heard_tied G j w → Unspoiled_tied G j w → (n : ℕ) (k : ClusterKey) (p c : ℕ) → (w.node n).stamp p ≡ Some (k, c) → (count k n p j == no_class) ≡ false → c ≡ count k n p j
unfolding count
counted G ns j w t own he un n k p c e some = go (has_no_gap (numbers k n p j) && not (has_foreign k n p j)) refl some
  where
    ms : members k j ≡ G.members k
    ms = members_of G ns j w t n k ((t.sound.stamps n k).entered p c e)

    go : (b : Bool) → (has_no_gap (numbers k n p j) && not (has_foreign k n p j)) ≡ b → (cond b (length (numbers k n p j)) no_class == no_class) ≡ false → c ≡ cond b (length (numbers k n p j)) no_class
    go false i q = differ (number_here no_class) q
    go true i q = un n k p c e (not_false (has_foreign k n p j) (and_right (has_no_gap (numbers k n p j)) (not (has_foreign k n p j)) i))
        ∙ (counts_one G j w own he n k p (n == ground.view_master G k p) refl (ap has_no_gap (sym (numbers_are G j n k p ms)) ∙ and_left (has_no_gap (numbers k n p j)) (not (has_foreign k n p j)) i)
        ∙ ap length (sym (numbers_are G j n k p ms)))

-- ---- rows

abbrev pub Wholes_tied : Ground → List Line → Type 0
Wholes_tied G j = (n : ℕ) (k : ClusterKey) (p : ℕ) (l : ClusterKey) (a : ℕ) → row G.factor k n p j ≡ Some (Whole l a) → (a == no_class) ≡ false → G.row k n p ≡ Whole l a

abbrev state_count : CopyState → ℕ
state_count Empty = 0
state_count Part = 0
state_count (Whole k writes) = writes

whole_state : (G : Ground) (ns : List ℕ) (j : List Line) (w : Picture) → Keyed G ns j w → Applies_tied j w → Heard_tied G j w → Unspoiled_tied G j w → (n p : ℕ) (l : ClusterKey) (a : ℕ) → (x : CopyState) → IsState (w.node n).content ((w.node n).stamp p) p x
    → copy_state G.factor n p j ≡ Whole l a → (a == no_class) ≡ false → x ≡ Whole l a
whole_state G ns j w t own he un n p l a Empty st e some = differ (ap is_whole (sym (state_none G.factor n p j (not_false (holds_any n p j) (state_empty G j w n p t.tied.contents Empty st))) ∙ e)) refl
whole_state G ns j w t own he un n p l a Part st e some =
    differ (ap is_whole (sym (state_full G.factor n p j (not_true (holds_any n p j) (state_empty G j w n p t.tied.contents Part st)) ∙ ap (stamped n p j) (t.stamps n p ∙ ap key_of st.0)) ∙ e)) refl
whole_state G ns j w t own he un n p l a (Whole k c) st e some =
    let q : Whole k (count k n p j) ≡ Whole l a = sym (state_full G.factor n p j (not_true (holds_any n p j) (state_empty G j w n p t.tied.contents (Whole k c) st)) ∙ ap (stamped n p j) (t.stamps n p ∙ ap key_of st.0)) ∙ e in
    ap (Whole k) (counted G ns j w t.tied own he un n k p c st.0 (ap (λ (z : ℕ). z == no_class) (ap state_count q) ∙ some)) ∙ q

wholes_tied : (G : Ground) (ns : List ℕ) (j : List Line) (w : Picture) (x : Line) → Ok G w x → Keyed G ns j w → Applies_tied j w → Heard_tied G j w → Unspoiled_tied G j w → Wholes_tied G j → Wholes_tied G (j ++ x ∷ [])
wholes_tied G ns j w x ok t own he un h n k p l a e some = go (list_any (is_enter k n) j) (is_enter k n x) refl refl
  where
    go : (b c : Bool) → list_any (is_enter k n) j ≡ b → is_enter k n x ≡ c → G.row k n p ≡ Whole l a
    go true c i q = h n k p l a (sym (row-other G.factor k n p j x i) ∙ e) some
    go false true i q = whole_state G ns j w t own he un n p l a (G.row k n p) ((enter_ok G w k n x q ok).row p) (some_same (sym (row-here G.factor k n p j x q i) ∙ e)) some
    go false false i q = no_some (sym (row-more G.factor k n p j x ∙ ap₂ (λ (y z : Bool). cond y (row G.factor k n p j) (cond z (Some (copy_state G.factor n p j)) None)) i q) ∙ e)

-- ---- along the lines

record Counted (G : Ground) (ns : List ℕ) (j : List Line) (w : Picture) : Type 0 where
  keyed : Keyed G ns j w
  posts : Posts_tied j w
  applies : Applies_tied j w
  heard : Heard_tied G j w
  unspoiled : Unspoiled_tied G j w
  wholes : Wholes_tied G j

counted_step : (G : Ground) → IsGround G → (ns : List ℕ) (j : List Line) (w : Picture) (l : Line) → Counted G ns j w → Ok G w l → FitsGround G ns w l → Counted G ns (j ++ l ∷ []) (picture_after G w l)
counted_step G g ns j w l t ok f = record {
  keyed = keyed_step G g ns j w l t.keyed ok f;
  posts = posts_tied G j w l ok t.posts;
  applies = applies_tied G j w l t.keyed.tied.sound ok t.applies;
  heard = heard_tied G ns j w l t.keyed.tied.sound ok f t.keyed.tied.views t.posts t.heard;
  unspoiled = unspoiled_tied G j w l (sound_kept G g w l t.keyed.tied.sound ok) ok t.keyed.tied.entered t.unspoiled;
  wholes = wholes_tied G ns j w l ok t.keyed t.applies t.heard t.unspoiled t.wholes;
}

counted_start : (G : Ground) (ns : List ℕ) → Counted G ns [] start
unfolding posted row
counted_start G ns = record {
  keyed = keyed_start G ns;
  posts = λ i. refl;
  applies = λ n k p. refl;
  heard = λ n k p. no_numbers;
  unspoiled = λ n k p c e. no_some e;
  wholes = λ n k p l a e. no_some e;
}

journal_counted : (h : List Line) (G : Ground) (lines : List Line) → IsJournal h G lines → (i : ℕ) → Counted G (nodes (journal h lines)) (take i (journal h lines)) (picture G (journal h lines) i)
journal_counted h G lines o i = journal_keeps h G lines o (Counted G (nodes (journal h lines))) (λ j w l t ok f. counted_step G o.ground (nodes (journal h lines)) j w l t ok f) (counted_start G (nodes (journal h lines))) i

-- ---- classes

filter_passes : (test : ℕ → Bool) (xs : List ℕ) (m : ℕ) → has_node (filter test xs) m ≡ true → test m ≡ true
filter_passes test [] m e = differ e refl
filter_passes test (x ∷ xs) m e = go (test x) refl (filter_passes test xs m) e
  where
    go : (b : Bool) → test x ≡ b → (has_node (filter test xs) m ≡ true → test m ≡ true) → has_node (cond b (x ∷ filter test xs) (filter test xs)) m ≡ true → test m ≡ true
    go true i rest q = ⊎_elim (λ z. ap test (sym (number_same x m z)) ∙ i) rest (or_cases (x == m) (has_node (filter test xs) m) q)
    go false i rest q = rest q

record Alike (x y : Option CopyState) : Type 0 where
  key : ClusterKey
  writes : ℕ
  first : x ≡ Some (Whole key writes)
  second : y ≡ Some (Whole key writes)
  counts : (writes == no_class) ≡ false

alike_is : (x y : Option CopyState) → are_alike x y ≡ true → Alike x y
alike_is None y e = differ e refl
alike_is (Some Empty) y e = differ e refl
alike_is (Some Part) y e = differ e refl
alike_is (Some (Whole k a)) None e = differ e refl
alike_is (Some (Whole k a)) (Some Empty) e = differ e refl
alike_is (Some (Whole k a)) (Some Part) e = differ e refl
alike_is (Some (Whole k a)) (Some (Whole l b)) e =
    let f : ((a == b) && not (a == no_class)) ≡ true = and_right (same_key k l) ((a == b) && not (a == no_class)) e in record {
      key = k;
      writes = a;
      first = refl;
      second = ap Some (ap₂ Whole (sym (key_same k l (and_left (same_key k l) ((a == b) && not (a == no_class)) e))) (sym (number_same a b (and_left (a == b) (not (a == no_class)) f))));
      counts = not_false (a == no_class) (and_right (a == b) (not (a == no_class)) f);
    }

row_entered : (factor : ℕ) (k : ClusterKey) (n p : ℕ) (j : List Line) (x : CopyState) → row factor k n p j ≡ Some x → list_any (is_enter k n) j ≡ true
unfolding row
row_entered factor k n p j x e = go (list_any (is_enter k n) j) refl
  where
    go : (b : Bool) → list_any (is_enter k n) j ≡ b → b ≡ true
    go true i = refl
    go false i = no_some (sym (ap (option_map (λ before. copy_state factor n p before)) (unentered (is_enter k n) j i)) ∙ e)

one_class : (G : Ground) (k : ClusterKey) (p n m : ℕ) (l : ClusterKey) (a : ℕ) → G.row k n p ≡ Whole l a → G.row k m p ≡ Whole l a → (a == no_class) ≡ false → same_view_class G k p n m ≡ true
unfolding same_view_class
one_class G k p n m l a en em some = ap (is_in_class_by (view_state G k p) n m) en
    ∙ (ap (λ (b : Bool). cond b (n == m) (is_whole_with l a (G.row k m p))) some
    ∙ (ap (is_whole_with l a) em ∙ and_both (same_key l l) (a == a) (at.keys.here l) (number_here a)))

same_entry : (G : Ground) (ns : List ℕ) (j : List Line) (w : Picture) → Counted G ns j w → (k : ClusterKey) (n m : ℕ) (d : List ℕ) → are_in_one_class G.factor k (partition_of d) n m j ≡ true → entry G.by k n d j ≡ entry G.by k m d j
unfolding class_of
same_entry G ns j w t k n m d e = ⊎_elim one two (or_cases ((m == n) && has_records (row G.factor k n p j)) (are_alike (row G.factor k n p j) (row G.factor k m p j)) passes)
  where
    p : ℕ
    p = partition_of d

    passes : is_in_class_of G.factor k p n m j ≡ true
    passes = filter_passes (λ z. is_in_class_of G.factor k p n z j) (Rattle.journal_readings.specs.Views.succession_list k p j) m (and_right (has_node (class_of G.factor k p n j) n) (has_node (class_of G.factor k p n j) m) e)

    one : ((m == n) && has_records (row G.factor k n p j)) ≡ true → entry G.by k n d j ≡ entry G.by k m d j
    one z = ap (λ (y : ℕ). entry G.by k y d j) (sym (number_same m n (and_left (m == n) (has_records (row G.factor k n p j)) z)))

    two : are_alike (row G.factor k n p j) (row G.factor k m p j) ≡ true → entry G.by k n d j ≡ entry G.by k m d j
    two z =
        let a : Alike (row G.factor k n p j) (row G.factor k m p j) = alike_is (row G.factor k n p j) (row G.factor k m p j) z in
        let en : (w.stay n k).entered ≡ true = sym (t.keyed.tied.entered n k) ∙ row_entered G.factor k n p j (Whole a.key a.writes) a.first in
        let em : (w.stay m k).entered ≡ true = sym (t.keyed.tied.entered m k) ∙ row_entered G.factor k m p j (Whole a.key a.writes) a.second in
        t.keyed.tied.entries n k d
        ∙ (laws.equal_classes G w t.keyed.tied.sound k p n m d en em (one_class G k p n m a.key a.writes (t.wholes n k p a.key a.writes a.first a.counts) (t.wholes m k p a.key a.writes a.second a.counts) a.counts) refl
        ∙ sym (t.keyed.tied.entries m k d))

pub equal_classes : (h : List Line) (G : Ground) (lines : List Line) → IsJournal h G lines → EqualClasses (journal h lines)
equal_classes h G lines o = record {
  equal = λ i k n m d e. subst (λ (by : Policy). entry by k n d (take i (journal h lines)) ≡ entry by k m d (take i (journal h lines))) o.by
      (same_entry G (nodes (journal h lines)) (take i (journal h lines)) (picture G (journal h lines) i) (journal_counted h G lines o i) k n m d
      (subst (λ (factor : ℕ). are_in_one_class factor k (partition_of d) n m (take i (journal h lines)) ≡ true) (sym o.factor) e));
}
