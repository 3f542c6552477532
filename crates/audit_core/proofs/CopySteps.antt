-- Which records copies have, and when they changed, as one line more comes.
use Rattle.std.proofs.Common.{◌≡◌, ℕ, zero, suc, ◌==◌, ◌<◌, ◌≤◌, Bool, true, false, not, ◌&&◌, ◌||◌, cond, List, [], ◌∷◌, ◌++◌, length, Option, Some, None, ◌⊎◌, inl, inr, refl, sym, ap, subst, ◌∙◌, arith, is_some, Contains}
use Rattle.std.specs.Prelude.{take, slice_get, slice_index_or, nat_eq, All}
use Rattle.std.proofs.lemmas.Bool.{cases_lt, or_left, or_right, or_cases}
use Rattle.std.proofs.lemmas.List.Elements.{All-push, Contains-append_left, Contains-append_cases, Contains-push}
use Rattle.std.proofs.lemmas.List.Folds.{list_any-append}
use Rattle.journal_lines.specs.declared.line.Line.{Line}
use Rattle.journal_readings.specs.Lines.{has_node}
use Rattle.journal_readings.specs.Contents.{holds_any, copy_step}
use Rattle.journal_readings.proofs.AlongLaws.{some_same}
use Rattle.journal_readings.proofs.StepLaws.{holds_any-more}
use Rattle.audit_laws.proofs.Tests.{differ, number_same, number_here}
use Rattle.audit_state.specs.declared.copies.RecordChange.{RecordChange}
use Rattle.audit_state.specs.declared.history.Change.{Change}
use Rattle.audit_state.specs.declared.records.Records.{Records}
use Rattle.audit_state.specs.declared.stores.Stores.{Stores}
use Rattle.audit_state.specs.Copies.{held_since, holding_since}
use Rattle.audit_state.specs.Histories.{AreBelow, value_after, value_now}
use Rattle.audit_state.specs.Keys.{pair_eq}
use Rattle.audit_state.specs.Stores.{history_of, held_of, touched_of, holding_of, changes_of, PutsContent, AddsToCopy}
use Rattle.audit_core.specs.Stored.{SeesCopies, IsUnchanged, IsRecordOf}
use Rattle.audit_core.proofs.ContentLaws.{take_next, up_to_next, pair_left, pair_right}
use Rattle.audit_state.proofs.HistoryLaws.{now_at, stays_at, below_more, up_to, put_before, put_behind, put_below}

-- ---- lists of records

since_keeps : (b : Bool) (r : ℕ) (xs : List ℕ) (q : ℕ) → has_node xs q ≡ true → has_node (held_since b r xs) q ≡ true
since_keeps true r xs q e = e
since_keeps false r xs q e = list_any-append (λ m. m == q) xs (r ∷ []) ∙ or_left (has_node xs q) (has_node (r ∷ []) q) e

since_has : (b : Bool) (r : ℕ) (xs : List ℕ) → (b ≡ true → has_node xs r ≡ true) → has_node (held_since b r xs) r ≡ true
since_has true r xs e = e refl
since_has false r xs e = list_any-append (λ m. m == r) xs (r ∷ []) ∙ or_right (has_node xs r) (has_node (r ∷ []) r) (or_left (r == r) false (number_here r))

pub since_only : (b : Bool) (r : ℕ) (xs : List ℕ) (q : ℕ) → has_node (held_since b r xs) q ≡ true → (has_node xs q ≡ true) ⊎ (r ≡ q)
since_only true r xs q e = inl e
since_only false r xs q e = go (or_cases (has_node xs q) (has_node (r ∷ []) q) (sym (list_any-append (λ m. m == q) xs (r ∷ [])) ∙ e))
  where
    alone : (b : Bool) → (b || false) ≡ true → b ≡ true
    alone true e = refl
    alone false e = e

    go : (has_node xs q ≡ true) ⊎ (has_node (r ∷ []) q ≡ true) → (has_node xs q ≡ true) ⊎ (r ≡ q)
    go (inl h) = inl h
    go (inr h) = inr (number_same r q (alone (r == q) h))

pub contained_one : (x y : RecordChange) → Contains (x ∷ []) y → x ≡ y
contained_one x y h = go h.0 h.1 h.2
  where
    go : (a : ℕ) → a < 1 → slice_index_or (x ∷ []) a y ≡ y → x ≡ y
    go zero within e = e
    go (suc a) within e = absurd (omega (arith, within))

absent : (xs ys : List ℕ) (q : ℕ) → (has_node xs q ≡ true → has_node ys q ≡ true) → has_node ys q ≡ false → has_node xs q ≡ false
absent xs ys q h e = go (has_node xs q) refl
  where
    go : (b : Bool) → has_node xs q ≡ b → b ≡ false
    go true i = differ (h i) e
    go false i = refl

-- ---- a line that brings nothing

module _ (rs : Records) (all : List Line) (i : ℕ) (l : Line) (here : slice_get all i ≡ Some l) where
  pub holds_next : (n p : ℕ) → holds_any n p (take (suc i) all) ≡ copy_step n p (holds_any n p (take i all)) l
  holds_next n p = ap (holds_any n p) (take_next all i l here) ∙ holds_any-more n p (take i all) l

  -- a history of holding stays
  pub holding_still : (h : List Change) (n p : ℕ) → AreBelow i h → ((a : ℕ) → a ≤ i → is_some (value_after h a) ≡ holds_any n p (take a all))
      → copy_step n p (holds_any n p (take i all)) l ≡ holds_any n p (take i all) → (a : ℕ) → a ≤ suc i → is_some (value_after h a) ≡ holds_any n p (take a all)
  holding_still h n p below told keeps a le = go (up_to_next a i le)
    where
      go : (a ≤ i) ⊎ (a ≡ suc i) → is_some (value_after h a) ≡ holds_any n p (take a all)
      go (inl lower) = told a lower
      go (inr e) = subst (λ (b : ℕ). is_some (value_after h b) ≡ holds_any n p (take b all)) (sym e) (ap is_some (stays_at h i below) ∙ (told i (omega arith) ∙ sym (holds_next n p ∙ keeps)))

  pub more_below : (xs : List RecordChange) → All (λ x. x.line < i) xs → All (λ x. x.line < suc i) xs
  more_below xs h = λ k d within. omega (arith, h k d within)

  pub copies_stay : (st : Stores) → SeesCopies st rs all i → ((n p : ℕ) → copy_step n p (holds_any n p (take i all)) l ≡ holds_any n p (take i all)) → SeesCopies st rs all (suc i)
  copies_stay st sees keeps = record {
    holding = λ n p a le. holding_still (holding_of st n p) n p (sees.holding_below n p) (sees.holding n p) (keeps n p) a le;
    holding_below = λ n p. below_more (holding_of st n p) i (sees.holding_below n p);
    changes_below = λ n p. more_below (changes_of st n p) (sees.changes_below n p);
    held = sees.held;
    held_only = sees.held_only;
    held_ever = sees.held_ever;
    touched = sees.touched;
    touched_only = sees.touched_only;
    changes_only = sees.changes_only;
    changes = sees.changes;
  }

  -- ---- a version comes to a copy

  module _ (old new : Stores) (n p r : ℕ) (named : IsRecordOf rs r p) (sees : SeesCopies old rs all i) (below : (m q : ℕ) → AreBelow i (history_of old m q))
      (puts : PutsContent old new n r (record { line = i; value = Some i }))
      (adds : AddsToCopy old new i n p r (is_some (value_now (history_of old n r))) (not (length (history_of old n r) == 0)))
      (step : (m q : ℕ) (b : Bool) → copy_step m q b l ≡ (b || ((n == m) && (p == q)))) where
    new_holding : (h : List Change) → AreBelow i h → is_some (value_after (holding_since i h) (suc i)) ≡ true
    new_holding h low = go (value_now h) refl
      where
        go : (o : Option ℕ) → value_now h ≡ o → is_some (value_after (cond (is_some o) h (h ++ record { line = i; value = Some i } ∷ [])) (suc i)) ≡ true
        go None e = ap is_some (put_behind h (record { line = i; value = Some i }) (suc i) (up_to h i low) (omega arith))
        go (Some x) e = ap is_some (stays_at h i low ∙ (sym (now_at h i low) ∙ e))

    old_holding : (h : List Change) (a : ℕ) → AreBelow i h → a ≤ i → value_after (holding_since i h) a ≡ value_after h a
    old_holding h a low le = go (is_some (value_now h))
      where
        go : (b : Bool) → value_after (cond b h (h ++ record { line = i; value = Some i } ∷ [])) a ≡ value_after h a
        go true = refl
        go false = put_before h (record { line = i; value = Some i }) a (up_to h i low) le

    below_since : (h : List Change) → AreBelow i h → AreBelow (suc i) (holding_since i h)
    below_since h low = go (is_some (value_now h))
      where
        go : (b : Bool) → AreBelow (suc i) (cond b h (h ++ record { line = i; value = Some i } ∷ []))
        go true = below_more h i low
        go false = put_below h (record { line = i; value = Some i }) (suc i) (up_to h i low) (omega arith)

    holding_here : (a : ℕ) → a ≤ suc i → is_some (value_after (holding_since i (holding_of old n p)) a) ≡ holds_any n p (take a all)
    holding_here a le = go (up_to_next a i le)
      where
        any : (b : Bool) → (b || ((n == n) && (p == p))) ≡ true
        any b = or_right b _ (subst (λ (x : Bool). (x && (p == p)) ≡ true) (sym (number_here n)) (number_here p))

        go : (a ≤ i) ⊎ (a ≡ suc i) → is_some (value_after (holding_since i (holding_of old n p)) a) ≡ holds_any n p (take a all)
        go (inl lower) = ap is_some (old_holding (holding_of old n p) a (sees.holding_below n p) lower) ∙ sees.holding n p a lower
        go (inr e) = subst (λ (b : ℕ). is_some (value_after (holding_since i (holding_of old n p)) b) ≡ holds_any n p (take b all)) (sym e)
            (new_holding (holding_of old n p) (sees.holding_below n p) ∙ sym (holds_next n p ∙ (step n p (holds_any n p (take i all)) ∙ any (holds_any n p (take i all)))))

    kept_apart : (m q : ℕ) → pair_eq (n, p) (m, q) ≡ false → copy_step m q (holds_any m q (take i all)) l ≡ holds_any m q (take i all)
    kept_apart m q e = step m q (holds_any m q (take i all)) ∙ go (holds_any m q (take i all)) _ e
      where
        go : (a b : Bool) → b ≡ false → (a || b) ≡ a
        go true b e = refl
        go false b e = e

    holding_new : (m q a : ℕ) → a ≤ suc i → is_some (value_after (holding_of new m q) a) ≡ holds_any m q (take a all)
    holding_new m q a le = subst (λ (h : List Change). is_some (value_after h a) ≡ holds_any m q (take a all)) (sym (adds.holding m q)) (go (pair_eq (n, p) (m, q)) refl)
      where
        go : (b : Bool) → pair_eq (n, p) (m, q) ≡ b → is_some (value_after (cond b (holding_since i (holding_of old n p)) (holding_of old m q)) a) ≡ holds_any m q (take a all)
        go true e = subst (λ (y : ℕ). is_some (value_after (holding_since i (holding_of old n p)) a) ≡ holds_any m y (take a all)) (pair_right n p m q e)
            (subst (λ (x : ℕ). is_some (value_after (holding_since i (holding_of old n p)) a) ≡ holds_any x p (take a all)) (pair_left n p m q e) (holding_here a le))
        go false e = holding_still (holding_of old m q) m q (sees.holding_below m q) (sees.holding m q) (kept_apart m q e) a le

    holding_low : (m q : ℕ) → AreBelow (suc i) (holding_of new m q)
    holding_low m q = subst (AreBelow (suc i)) (sym (adds.holding m q)) (go (pair_eq (n, p) (m, q)))
      where
        go : (b : Bool) → AreBelow (suc i) (cond b (holding_since i (holding_of old n p)) (holding_of old m q))
        go true = below_since (holding_of old n p) (sees.holding_below n p)
        go false = below_more (holding_of old m q) i (sees.holding_below m q)

    changes_low : (m q : ℕ) → All (λ x. x.line < suc i) (changes_of new m q)
    changes_low m q = subst (All (λ (x : RecordChange). x.line < suc i)) (sym (adds.changes m q)) (go (pair_eq (n, p) (m, q)))
      where
        go : (b : Bool) → All (λ x. x.line < suc i) (cond b (changes_of old n p ++ record { line = i; number = r } ∷ []) (changes_of old m q))
        go true = All-push (λ (x : RecordChange). x.line < suc i) (changes_of old n p) (record { line = i; number = r }) (more_below (changes_of old n p) (sees.changes_below n p)) (omega arith)
        go false = more_below (changes_of old m q) (sees.changes_below m q)

    -- the same partition
    same_part : (q : ℕ) → IsRecordOf rs r q → p ≡ q
    same_part q e = some_same (sym named ∙ e)

    -- what was in a list of the copy is in it still
    grows_held : (m q x : ℕ) → has_node (held_of old m q) x ≡ true → has_node (held_of new m q) x ≡ true
    grows_held m q x h = subst (λ (xs : List ℕ). has_node xs x ≡ true) (sym (adds.held m q)) (go (pair_eq (n, p) (m, q)) refl)
      where
        go : (b : Bool) → pair_eq (n, p) (m, q) ≡ b → has_node (cond b (held_since (is_some (value_now (history_of old n r))) r (held_of old n p)) (held_of old m q)) x ≡ true
        go true e = since_keeps (is_some (value_now (history_of old n r))) r (held_of old n p) x
            (subst (λ (y : ℕ). has_node (held_of old y p) x ≡ true) (sym (pair_left n p m q e)) (subst (λ (y : ℕ). has_node (held_of old m y) x ≡ true) (sym (pair_right n p m q e)) h))
        go false e = h

    grows_touched : (m q x : ℕ) → has_node (touched_of old m q) x ≡ true → has_node (touched_of new m q) x ≡ true
    grows_touched m q x h = subst (λ (xs : List ℕ). has_node xs x ≡ true) (sym (adds.touched m q)) (go (pair_eq (n, p) (m, q)) refl)
      where
        go : (b : Bool) → pair_eq (n, p) (m, q) ≡ b → has_node (cond b (held_since (not (length (history_of old n r) == 0)) r (touched_of old n p)) (touched_of old m q)) x ≡ true
        go true e = since_keeps (not (length (history_of old n r) == 0)) r (touched_of old n p) x
            (subst (λ (y : ℕ). has_node (touched_of old y p) x ≡ true) (sym (pair_left n p m q e)) (subst (λ (y : ℕ). has_node (touched_of old m y) x ≡ true) (sym (pair_right n p m q e)) h))
        go false e = h

    place_here : (m q : ℕ) → n ≡ m → p ≡ q → pair_eq (n, p) (m, q) ≡ true
    place_here m q e f = subst (λ (y : ℕ). (nat_eq n m && nat_eq p y) ≡ true) f (subst (λ (x : ℕ). (nat_eq n x && nat_eq p p) ≡ true) e (subst (λ (b : Bool). (b && nat_eq p p) ≡ true) (sym (number_here n)) (number_here p)))

    held_new : (m q x : ℕ) → IsRecordOf rs x q → is_some (value_now (history_of new m x)) ≡ true → has_node (held_of new m q) x ≡ true
    held_new m q x of h = go (pair_eq (n, r) (m, x)) refl (subst (λ (c : List Change). is_some (value_now c) ≡ true) (puts m x) h)
      where
        go : (b : Bool) → pair_eq (n, r) (m, x) ≡ b → is_some (value_now (cond b (history_of old n r ++ record { line = i; value = Some i } ∷ []) (history_of old m x))) ≡ true → has_node (held_of new m q) x ≡ true
        go true e t =
            let same : p ≡ q = same_part q (subst (λ (y : ℕ). IsRecordOf rs y q) (sym (pair_right n r m x e)) of) in
            subst (λ (xs : List ℕ). has_node xs x ≡ true) (sym (adds.held m q ∙ ap (λ (b : Bool). cond b (held_since (is_some (value_now (history_of old n r))) r (held_of old n p)) (held_of old m q)) (place_here m q (pair_left n r m x e) same)))
            (subst (λ (y : ℕ). has_node (held_since (is_some (value_now (history_of old n r))) r (held_of old n p)) y ≡ true) (pair_right n r m x e)
            (since_has (is_some (value_now (history_of old n r))) r (held_of old n p) (sees.held n p r named)))
        go false e t = grows_held m q x (sees.held m q x of t)

    held_only_new : (m q x : ℕ) → has_node (held_of new m q) x ≡ true → IsRecordOf rs x q
    held_only_new m q x h = go (pair_eq (n, p) (m, q)) refl (subst (λ (xs : List ℕ). has_node xs x ≡ true) (adds.held m q) h)
      where
        pick : p ≡ q → n ≡ m → (has_node (held_of old n p) x ≡ true) ⊎ (r ≡ x) → IsRecordOf rs x q
        pick e f (inl t) = subst (IsRecordOf rs x) e (sees.held_only n p x t)
        pick e f (inr t) = subst (IsRecordOf rs x) e (subst (λ (y : ℕ). IsRecordOf rs y p) t named)

        go : (b : Bool) → pair_eq (n, p) (m, q) ≡ b → has_node (cond b (held_since (is_some (value_now (history_of old n r))) r (held_of old n p)) (held_of old m q)) x ≡ true → IsRecordOf rs x q
        go true e t = pick (pair_right n p m q e) (pair_left n p m q e) (since_only (is_some (value_now (history_of old n r))) r (held_of old n p) x t)
        go false e t = sees.held_only m q x t

    ever_touched : not (length (history_of old n r) == 0) ≡ true → has_node (touched_of old n p) r ≡ true
    ever_touched e = go (has_node (touched_of old n p) r) refl
      where
        go : (b : Bool) → has_node (touched_of old n p) r ≡ b → b ≡ true
        go true t = refl
        go false t = differ e (ap (λ (h : List Change). not (length h == 0)) (sees.touched n p r named t))

    held_ever_new : (m q x : ℕ) → has_node (held_of new m q) x ≡ true → has_node (touched_of new m q) x ≡ true
    held_ever_new m q x h = go (pair_eq (n, p) (m, q)) refl (subst (λ (xs : List ℕ). has_node xs x ≡ true) (adds.held m q) h)
      where
        there : has_node (touched_of new n p) r ≡ true
        there = subst (λ (xs : List ℕ). has_node xs r ≡ true) (sym (adds.touched n p ∙ ap (λ (b : Bool). cond b (held_since (not (length (history_of old n r) == 0)) r (touched_of old n p)) (touched_of old n p)) (place_here n p refl refl)))
            (since_has (not (length (history_of old n r) == 0)) r (touched_of old n p) ever_touched)

        pick : n ≡ m → p ≡ q → (has_node (held_of old n p) x ≡ true) ⊎ (r ≡ x) → has_node (touched_of new m q) x ≡ true
        pick e f (inl t) = subst (λ (y : ℕ). has_node (touched_of new y q) x ≡ true) e (subst (λ (y : ℕ). has_node (touched_of new n y) x ≡ true) f (grows_touched n p x (sees.held_ever n p x t)))
        pick e f (inr t) = subst (λ (y : ℕ). has_node (touched_of new y q) x ≡ true) e (subst (λ (y : ℕ). has_node (touched_of new n y) x ≡ true) f (subst (λ (y : ℕ). has_node (touched_of new n p) y ≡ true) t there))

        go : (b : Bool) → pair_eq (n, p) (m, q) ≡ b → has_node (cond b (held_since (is_some (value_now (history_of old n r))) r (held_of old n p)) (held_of old m q)) x ≡ true → has_node (touched_of new m q) x ≡ true
        go true e t = pick (pair_left n p m q e) (pair_right n p m q e) (since_only (is_some (value_now (history_of old n r))) r (held_of old n p) x t)
        go false e t = grows_touched m q x (sees.held_ever m q x t)

    touched_new : (m q x : ℕ) → IsRecordOf rs x q → has_node (touched_of new m q) x ≡ false → history_of new m x ≡ []
    touched_new m q x of h = puts m x ∙ go (pair_eq (n, r) (m, x)) refl
      where
        go : (b : Bool) → pair_eq (n, r) (m, x) ≡ b → cond b (history_of old n r ++ record { line = i; value = Some i } ∷ []) (history_of old m x) ≡ []
        go true e =
            let same : p ≡ q = same_part q (subst (λ (y : ℕ). IsRecordOf rs y q) (sym (pair_right n r m x e)) of) in
            differ
            (subst (λ (xs : List ℕ). has_node xs x ≡ true) (sym (adds.touched m q ∙ ap (λ (b : Bool). cond b (held_since (not (length (history_of old n r) == 0)) r (touched_of old n p)) (touched_of old m q)) (place_here m q (pair_left n r m x e) same)))
            (subst (λ (y : ℕ). has_node (held_since (not (length (history_of old n r) == 0)) r (touched_of old n p)) y ≡ true) (pair_right n r m x e)
            (since_has (not (length (history_of old n r) == 0)) r (touched_of old n p) ever_touched)))
            h
        go false e = sees.touched m q x of (absent (touched_of old m q) (touched_of new m q) x (grows_touched m q x) h)

    touched_only_new : (m q x : ℕ) → has_node (touched_of new m q) x ≡ true → IsRecordOf rs x q
    touched_only_new m q x h = go (pair_eq (n, p) (m, q)) refl (subst (λ (xs : List ℕ). has_node xs x ≡ true) (adds.touched m q) h)
      where
        pick : (has_node (touched_of old n p) x ≡ true) ⊎ (r ≡ x) → IsRecordOf rs x p
        pick (inl t) = sees.touched_only n p x t
        pick (inr t) = subst (λ (y : ℕ). IsRecordOf rs y p) t named

        go : (b : Bool) → pair_eq (n, p) (m, q) ≡ b → has_node (cond b (held_since (not (length (history_of old n r) == 0)) r (touched_of old n p)) (touched_of old m q)) x ≡ true → IsRecordOf rs x q
        go true e t = subst (IsRecordOf rs x) (pair_right n p m q e) (pick (since_only (not (length (history_of old n r) == 0)) r (touched_of old n p) x t))
        go false e t = sees.touched_only m q x t

    changes_only_new : (m q : ℕ) (y : RecordChange) → Contains (changes_of new m q) y → IsRecordOf rs y.number q
    changes_only_new m q y h = go (pair_eq (n, p) (m, q)) refl (subst (λ (ys : List RecordChange). Contains ys y) (adds.changes m q) h)
      where
        pick : Contains (changes_of old n p) y ⊎ Contains (record { line = i; number = r } ∷ []) y → IsRecordOf rs y.number p
        pick (inl t) = sees.changes_only n p y t
        pick (inr t) = subst (λ (z : RecordChange). IsRecordOf rs z.number p) (contained_one (record { line = i; number = r }) y t) named

        go : (b : Bool) → pair_eq (n, p) (m, q) ≡ b → Contains (cond b (changes_of old n p ++ record { line = i; number = r } ∷ []) (changes_of old m q)) y → IsRecordOf rs y.number q
        go true e t = subst (IsRecordOf rs y.number) (pair_right n p m q e) (pick (Contains-append_cases (changes_of old n p) (record { line = i; number = r } ∷ []) y t))
        go false e t = sees.changes_only m q y t

    -- what didn't change in the longer list didn't in the shorter
    unchanged_before : (m q x a b : ℕ) → IsUnchanged (changes_of new m q) x a b → IsUnchanged (changes_of old m q) x a b
    unchanged_before m q x a b h y in_old = h y (subst (λ (ys : List RecordChange). Contains ys y) (sym (adds.changes m q)) (go (pair_eq (n, p) (m, q)) refl))
      where
        go : (t : Bool) → pair_eq (n, p) (m, q) ≡ t → Contains (cond t (changes_of old n p ++ record { line = i; number = r } ∷ []) (changes_of old m q)) y
        go true e = Contains-append_left (changes_of old n p) (record { line = i; number = r } ∷ []) y
            (subst (λ (z : ℕ). Contains (changes_of old z p) y) (sym (pair_left n p m q e)) (subst (λ (z : ℕ). Contains (changes_of old m z) y) (sym (pair_right n p m q e)) in_old))
        go false e = in_old

    changes_here : (a b : ℕ) → a ≤ b → IsUnchanged (changes_of new n p) r a b
        → value_after (history_of old n r ++ record { line = i; value = Some i } ∷ []) a ≡ value_after (history_of old n r ++ record { line = i; value = Some i } ∷ []) b
    changes_here a b le h = go (cases_lt i b)
      where
        noted : Contains (changes_of new n p) (record { line = i; number = r })
        noted = subst (λ (ys : List RecordChange). Contains ys (record { line = i; number = r })) (sym (adds.changes n p ∙ ap (λ (t : Bool). cond t (changes_of old n p ++ record { line = i; number = r } ∷ []) (changes_of old n p)) (place_here n p refl refl)))
            (Contains-push (changes_of old n p) (record { line = i; number = r }))

        up : (x : ℕ) → x ≤ i → value_after (history_of old n r ++ record { line = i; value = Some i } ∷ []) x ≡ value_after (history_of old n r) x
        up x low = put_before (history_of old n r) (record { line = i; value = Some i }) x (up_to (history_of old n r) i (below n r)) low

        behind : (x : ℕ) → i < x → value_after (history_of old n r ++ record { line = i; value = Some i } ∷ []) x ≡ Some i
        behind x low = put_behind (history_of old n r) (record { line = i; value = Some i }) x (up_to (history_of old n r) i (below n r)) low

        later : i < b → (i < a) ⊎ (a ≤ i) → value_after (history_of old n r ++ record { line = i; value = Some i } ∷ []) a ≡ value_after (history_of old n r ++ record { line = i; value = Some i } ∷ []) b
        later low (inl above) = behind a above ∙ sym (behind b low)
        later low (inr under) = absurd (h (record { line = i; number = r }) noted refl under low)

        go : (i < b) ⊎ (b ≤ i) → value_after (history_of old n r ++ record { line = i; value = Some i } ∷ []) a ≡ value_after (history_of old n r ++ record { line = i; value = Some i } ∷ []) b
        go (inl low) = later low (cases_lt i a)
        go (inr low) = up a (omega (arith, le, low)) ∙ (sees.changes n p r a b named le (unchanged_before n p r a b h) ∙ sym (up b low))

    changes_new : (m q x a b : ℕ) → IsRecordOf rs x q → a ≤ b → IsUnchanged (changes_of new m q) x a b → value_after (history_of new m x) a ≡ value_after (history_of new m x) b
    changes_new m q x a b of le h = subst (λ (c : List Change). value_after c a ≡ value_after c b) (sym (puts m x)) (go (pair_eq (n, r) (m, x)) refl)
      where
        go : (t : Bool) → pair_eq (n, r) (m, x) ≡ t → value_after (cond t (history_of old n r ++ record { line = i; value = Some i } ∷ []) (history_of old m x)) a ≡ value_after (cond t (history_of old n r ++ record { line = i; value = Some i } ∷ []) (history_of old m x)) b
        go true e =
            let same : p ≡ q = same_part q (subst (λ (y : ℕ). IsRecordOf rs y q) (sym (pair_right n r m x e)) of) in
            changes_here a b le (subst (λ (y : ℕ). IsUnchanged (changes_of new n p) y a b) (sym (pair_right n r m x e))
            (subst (λ (y : ℕ). IsUnchanged (changes_of new n y) x a b) (sym same) (subst (λ (y : ℕ). IsUnchanged (changes_of new y q) x a b) (sym (pair_left n r m x e)) h)))
        go false e = sees.changes m q x a b of le (unchanged_before m q x a b h)

    pub copies_added : SeesCopies new rs all (suc i)
    copies_added = record {
      holding = holding_new;
      holding_below = holding_low;
      changes_below = changes_low;
      held = held_new;
      held_only = held_only_new;
      held_ever = held_ever_new;
      touched = touched_new;
      touched_only = touched_only_new;
      changes_only = changes_only_new;
      changes = changes_new;
    }
