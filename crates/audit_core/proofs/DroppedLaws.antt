-- What nodes hold behind a line that drops a copy.
use Rattle.std.proofs.Common.{◌≡◌, ℕ, suc, ◌==◌, ◌<◌, ◌≤◌, ◌+◌, Bool, true, false, ◌&&◌, ◌||◌, cond, List, [], ◌∷◌, ◌++◌, Option, Some, None, option_map, ◌⊎◌, inl, inr, refl, sym, ap, ap₂, subst, ◌∙◌, arith, is_some, Contains}
use Rattle.std.specs.Prelude.{take, slice_get, nat_eq, All, unwrap_or}
use Rattle.std.specs.HashMap as hash
use Rattle.std.specs.List.{list_any}
use Rattle.std.proofs.lemmas.Bool.{cases_lt, or_left, or_right}
use Rattle.std.proofs.lemmas.List.Elements.{All-cons, All-append, Contains-append_left, Contains-append_right, Contains-append_cases, Contains-push}
use Rattle.std.proofs.lemmas.List.Folds.{list_any-append}
use Rattle.conflict_order.specs.declared.policy.Policy.{Policy}
use Rattle.conflict_order.specs.declared.version.Version.{Version}
use Rattle.cluster_types.specs.declared.cluster_key.ClusterKey.{ClusterKey}
use Rattle.cluster_types.specs.Partitions.{partition_of}
use Rattle.journal_lines.specs.declared.line.Line.{Line}
use Rattle.journal_lines.specs.declared.line.Line.TheVariants as line
use Rattle.journal_readings.specs.Lines.{has_node}
use Rattle.journal_readings.specs.Settings.{policy_of, nodes}
use Rattle.journal_readings.specs.Contents.{content, content_step, applied, holds_any}
use Rattle.journal_readings.specs.Entries.{applied_in}
use Rattle.journal_readings.proofs.AlongLaws.{some_same, no_some}
use Rattle.journal_readings.proofs.Fronts.{and_left, and_right}
use Rattle.journal_readings.proofs.StepLaws.{applied-more, applied_in-more}
use Rattle.audit_laws.proofs.Headers.{policy_stays, nodes_stay}
use Rattle.audit_laws.proofs.Tests.{differ, number_same, number_here}
use Rattle.audit_core.specs.declared.judge.Judge.{Judge}
use Rattle.audit_state.specs.declared.copies.RecordChange.{RecordChange}
use Rattle.audit_state.specs.declared.history.Change.{Change}
use Rattle.audit_state.specs.declared.stores.Stores.{Stores}
use Rattle.audit_state.specs.Histories.{AreBelow, AreUpTo, value_after, value_now}
use Rattle.audit_state.specs.Keys.{pair_eq}
use Rattle.audit_state.specs.Places.{placed}
use Rattle.audit_state.specs.Records.{record_digest}
use Rattle.audit_state.specs.Stores.{history_of, held_of, touched_of, holding_of, changes_of, ClearsCopy}
use Rattle.audit_state.specs.Written.{written_of}
use Rattle.audit_core.specs.Dropping.{EndsAt, RemovesAll, changes_at}
use Rattle.audit_core.specs.Holders.{AreHoldersCounted}
use Rattle.audit_core.specs.Known.{kept_view}
use Rattle.audit_core.specs.Stored.{SeesRecords, SeesContents, SeesCopies, SeesWritten, SeesStores, Knows, IsUnchanged, IsRecordOf, brings, read_of}
use Rattle.audit_core.proofs.ContentLaws.{take_next, content_next, up_to_next, pair_left, pair_right}
use Rattle.audit_core.proofs.CopySteps.{holds_next, holding_still, more_below, contained_one}
use Rattle.audit_core.proofs.WriteLaws.{next_stores}
use Rattle.audit_state.proofs.HistoryLaws.{now_at, stays_at, below_more, below_next, up_to, put_before, put_behind, put_below}

-- ---- lists of changes

all_at : (i : ℕ) (rs : List ℕ) → All (λ (x : RecordChange). x.line < suc i) (changes_at i rs)
all_at i [] = λ k d within. absurd (omega (arith, within))
all_at i (r ∷ rs) = All-cons (λ (x : RecordChange). x.line < suc i) (record { line = i; number = r }) (changes_at i rs) (omega arith) (all_at i rs)

noted_at : (i r : ℕ) (rs : List ℕ) → has_node rs r ≡ true → Contains {X = RecordChange} (changes_at i rs) (record { line = i; number = r })
noted_at i r [] e = differ e refl
noted_at i r (m ∷ rs) e = go (m == r) refl e (noted_at i r rs)
  where
    go : (b : Bool) → (m == r) ≡ b → (b || has_node rs r) ≡ true → (has_node rs r ≡ true → Contains {X = RecordChange} (changes_at i rs) (record { line = i; number = r })) → Contains (changes_at i (m ∷ rs)) (record { line = i; number = r })
    go true f h rest = Contains-append_left (record { line = i; number = m } ∷ []) (changes_at i rs) (record { line = i; number = r })
        (subst (λ (x : ℕ). Contains {X = RecordChange} (record { line = i; number = m } ∷ []) (record { line = i; number = x })) (number_same m r f) (Contains-push [] (record { line = i; number = m })))
    go false f h rest = Contains-append_right (record { line = i; number = m } ∷ []) (changes_at i rs) (record { line = i; number = r }) (rest h)

only_at : (i : ℕ) (rs : List ℕ) (y : RecordChange) → Contains {X = RecordChange} (changes_at i rs) y → has_node rs y.number ≡ true
only_at i [] y h = absurd (omega (arith, h.1))
only_at i (m ∷ rs) y h = go (Contains-append_cases (record { line = i; number = m } ∷ []) (changes_at i rs) y h) (only_at i rs y)
  where
    go : Contains {X = RecordChange} (record { line = i; number = m } ∷ []) y ⊎ Contains {X = RecordChange} (changes_at i rs) y → (Contains {X = RecordChange} (changes_at i rs) y → has_node rs y.number ≡ true) → has_node (m ∷ rs) y.number ≡ true
    go (inl e) rest = or_left (m == y.number) (has_node rs y.number) (ap (λ (z : RecordChange). m == z.number) (sym (contained_one (record { line = i; number = m }) y e)) ∙ number_here m)
    go (inr e) rest = or_right (m == y.number) (has_node rs y.number) (rest e)

-- behind all changes nothing changes
after_all : (h : List Change) (i a b : ℕ) → AreBelow (suc i) h → i < a → i < b → value_after h a ≡ value_after h b
after_all h i a b low le la = sym (now_at h a (λ k d within. omega (arith, low k d within, le))) ∙ now_at h b (λ k d within. omega (arith, low k d within, la))

none_where : (o : Option ℕ) → is_some o ≡ false → o ≡ None
none_where None e = refl
none_where (Some x) e = differ refl e

not_both : (a b : Bool) → b ≡ false → (a && b) ≡ false
not_both true b e = e
not_both false b e = refl

-- who has no record of that number, holds nothing of it
pub held_none : (s : Judge) (i n p q : ℕ) (d : List ℕ) → Knows s i → has_node (held_of s.stores n p) q ≡ false → record_digest s.records q ≡ Some d → partition_of d ≡ p → content (policy_of (take i s.lines.now)) n d (take i s.lines.now) ≡ None
held_none s i n p q d knows off named part =
    let whole : i ≤ i = omega arith in
    ap (read_of (λ e. content (policy_of (take i s.lines.now)) n e (take i s.lines.now))) (sym named)
    ∙ (sym (knows.stores.contents.held n q i whole) ∙ ap (placed s.lines.now) (sym (now_at (history_of s.stores n q) i (knows.stores.contents.below n q)) ∙ none_where (value_now (history_of s.stores n q)) (go (is_some (value_now (history_of s.stores n q))) refl)))
  where
    go : (b : Bool) → is_some (value_now (history_of s.stores n q)) ≡ b → b ≡ false
    go true e = differ (knows.stores.copies.held n p q (ap (option_map partition_of) named ∙ ap Some part) e) off
    go false e = refl

-- ---- the line

module _ (s new : Judge) (taken : Stores) (i n p : ℕ) (k : ClusterKey) (knows : Knows s i) (here : slice_get s.lines.now i ≡ Some (line.Drop n k p))
    (same : taken.contents ≡ s.stores.contents) (clears : ClearsCopy s.stores taken i n p) (removes : RemovesAll i n p (held_of s.stores n p) (record s { stores = taken }) new) (counts : AreHoldersCounted new (nodes (take i s.lines.now))) where
  abbrev all : List Line
  all = s.lines.now

  abbrev dropped : List ℕ
  dropped = held_of s.stores n p

  was : (m q : ℕ) → history_of taken m q ≡ history_of s.stores m q
  was m q = ap (λ (c : _). unwrap_or (hash.get pair_eq c (m, q)) []) same

  digest_eq : (q : ℕ) → record_digest new.records q ≡ record_digest s.records q
  digest_eq q = removes.keeps.numbers.digests q

  of_old : (q x : ℕ) → IsRecordOf new.records q x → IsRecordOf s.records q x
  of_old q x h = ap (option_map partition_of) (sym (digest_eq q)) ∙ h

  of_new : (q x : ℕ) → IsRecordOf s.records q x → IsRecordOf new.records q x
  of_new q x h = ap (option_map partition_of) (digest_eq q) ∙ h

  next_front : take (suc i) all ≡ take i all ++ line.Drop n k p ∷ []
  next_front = take_next all i (line.Drop n k p) here

  policy_next : policy_of (take i all) ≡ policy_of (take (suc i) all)
  policy_next = sym (ap policy_of next_front ∙ policy_stays (take i all) (line.Drop n k p) refl)

  abbrev by_then : Policy
  by_then = policy_of (take i all)

  -- ---- histories

  ends : (q : ℕ) → has_node dropped q ≡ true → EndsAt i (history_of s.stores n q) (history_of new.stores n q)
  ends q e = subst (λ (h : List Change). EndsAt i h (history_of new.stores n q)) (was n q) (removes.ended q e)

  stays : (m q : ℕ) → ((n == m) && has_node dropped q) ≡ false → history_of new.stores m q ≡ history_of s.stores m q
  stays m q e = removes.others m q e ∙ was m q

  low_here : (q : ℕ) → AreBelow (suc i) (history_of new.stores n q)
  low_here q = below_next (history_of new.stores n q) i (removes.up_to q (subst (AreUpTo i) (sym (was n q)) (up_to (history_of s.stores n q) i (knows.stores.contents.below n q))))

  low : (m q : ℕ) → AreBelow (suc i) (history_of new.stores m q)
  low m q = go (n == m) refl
    where
      go : (b : Bool) → (n == m) ≡ b → AreBelow (suc i) (history_of new.stores m q)
      go true e = subst (λ (x : ℕ). AreBelow (suc i) (history_of new.stores x q)) (number_same n m e) (low_here q)
      go false e = subst (AreBelow (suc i)) (sym (stays m q (ap (λ (b : Bool). b && has_node dropped q) e))) (below_more (history_of s.stores m q) i (knows.stores.contents.below m q))

  -- by each node and record: its history ended, or is what it was
  each : (P : ℕ → ℕ → List Change → Type 0) → ((q : ℕ) → has_node dropped q ≡ true → P n q (history_of new.stores n q)) → ((m q : ℕ) → ((n == m) && has_node dropped q) ≡ false → P m q (history_of s.stores m q))
      → (m q : ℕ) → P m q (history_of new.stores m q)
  each P ended rest m q = go ((n == m) && has_node dropped q) refl
    where
      go : (b : Bool) → ((n == m) && has_node dropped q) ≡ b → P m q (history_of new.stores m q)
      go true e = subst (λ (x : ℕ). P x q (history_of new.stores x q)) (number_same n m (and_left (n == m) _ e)) (ended q (and_right (n == m) _ e))
      go false e = subst (P m q) (sym (stays m q e)) (rest m q e)

  -- ---- what nodes hold

  abbrev Reads : ℕ → ℕ → List Change → Type 0
  Reads m q h = (a : ℕ) → a ≤ suc i → placed all (value_after h a) ≡ read_of (λ d. content by_then m d (take a all)) (record_digest s.records q)

  reads_before : (m q a : ℕ) → a ≤ i → placed all (value_after (history_of s.stores m q) a) ≡ read_of (λ d. content by_then m d (take a all)) (record_digest s.records q)
  reads_before m q a le = knows.stores.contents.held m q a le

  gone : (q : ℕ) → IsRecordOf s.records q p → read_of (λ d. content by_then n d (take (suc i) all)) (record_digest s.records q) ≡ None
  gone q named = go (record_digest s.records q) named
    where
      step : (d : List ℕ) → partition_of d ≡ p → content by_then n d (take (suc i) all) ≡ None
      step d e = content_next by_then n d all i (line.Drop n k p) here ∙ ap (λ (b : Bool). cond b None (content by_then n d (take i all))) (met (n == n) (p == partition_of d) (number_here n) (subst (λ (x : ℕ). (p == x) ≡ true) (sym e) (number_here p)))
        where
          met : (a b : Bool) → a ≡ true → b ≡ true → (a && b) ≡ true
          met true b f g = g
          met false b f g = f

      go : (o : Option (List ℕ)) → option_map partition_of o ≡ Some p → read_of (λ d. content by_then n d (take (suc i) all)) o ≡ None
      go None e = absurd (no_some e)
      go (Some d) e = step d (some_same e)

  ended_reads : (q : ℕ) → has_node dropped q ≡ true → Reads n q (history_of new.stores n q)
  ended_reads q e a le = go (up_to_next a i le)
    where
      ended : value_after (history_of new.stores n q) (suc i) ≡ None
      ended = let next : i + 1 ≡ suc i = omega arith in subst (λ (b : ℕ). value_after (history_of new.stores n q) b ≡ None) next (ends q e).ended

      go : (a ≤ i) ⊎ (a ≡ suc i) → placed all (value_after (history_of new.stores n q) a) ≡ read_of (λ d. content by_then n d (take a all)) (record_digest s.records q)
      go (inl lower) = ap (placed all) ((ends q e).before a lower) ∙ reads_before n q a lower
      go (inr f) = subst (λ (b : ℕ). placed all (value_after (history_of new.stores n q) b) ≡ read_of (λ d. content by_then n d (take b all)) (record_digest s.records q)) (sym f)
          (ap (placed all) ended ∙ sym (gone q (knows.stores.copies.held_only n p q e)))

  kept_step : (m q : ℕ) (d : List ℕ) → ((n == m) && has_node dropped q) ≡ false → record_digest s.records q ≡ Some d → content_step by_then m d (content by_then m d (take i all)) (line.Drop n k p) ≡ content by_then m d (take i all)
  kept_step m q d off named = go ((n == m) && (p == partition_of d)) refl
    where
      only : (a b : Bool) → a ≡ true → (a && b) ≡ false → b ≡ false
      only true b e f = f
      only false b e f = differ e refl

      go : (b : Bool) → ((n == m) && (p == partition_of d)) ≡ b → cond b None (content by_then m d (take i all)) ≡ content by_then m d (take i all)
      go false e = refl
      go true e = sym (subst (λ (x : ℕ). content by_then x d (take i all) ≡ None) (number_same n m (and_left (n == m) _ e))
          (held_none s i n p q d knows (only (n == m) (has_node dropped q) (and_left (n == m) _ e) off) named (sym (number_same p (partition_of d) (and_right (n == m) _ e)))))

  rest_reads : (m q : ℕ) → ((n == m) && has_node dropped q) ≡ false → Reads m q (history_of s.stores m q)
  rest_reads m q off a le = go (up_to_next a i le)
    where
      step : (o : Option (List ℕ)) → record_digest s.records q ≡ o → read_of (λ d. content by_then m d (take i all)) o ≡ read_of (λ d. content by_then m d (take (suc i) all)) o
      step None e = refl
      step (Some d) e = sym (content_next by_then m d all i (line.Drop n k p) here ∙ kept_step m q d off e)

      go : (a ≤ i) ⊎ (a ≡ suc i) → placed all (value_after (history_of s.stores m q) a) ≡ read_of (λ d. content by_then m d (take a all)) (record_digest s.records q)
      go (inl lower) = reads_before m q a lower
      go (inr e) = subst (λ (b : ℕ). placed all (value_after (history_of s.stores m q) b) ≡ read_of (λ d. content by_then m d (take b all)) (record_digest s.records q)) (sym e)
          (ap (placed all) (stays_at (history_of s.stores m q) i (knows.stores.contents.below m q)) ∙ (reads_before m q i (omega arith) ∙ step (record_digest s.records q) refl))

  contents_dropped : SeesContents new.stores new.records all (policy_of (take (suc i) all)) (suc i)
  contents_dropped = subst (λ (by : Policy). SeesContents new.stores new.records all by (suc i)) policy_next (record {
    held = λ m q a le. each Reads ended_reads rest_reads m q a le ∙ ap (read_of (λ d. content by_then m d (take a all))) (sym (digest_eq q));
    below = low;
    fresh = λ m q e. stays m q (not_both (n == m) (has_node dropped q) (unheld q (sym (digest_eq q) ∙ e))) ∙ knows.stores.contents.fresh m q (sym (digest_eq q) ∙ e);
  })
    where
      unheld : (q : ℕ) → record_digest s.records q ≡ None → has_node dropped q ≡ false
      unheld q e = go (has_node dropped q) refl
        where
          go : (b : Bool) → has_node dropped q ≡ b → b ≡ false
          go true h = absurd (no_some (sym (ap (option_map partition_of) e) ∙ knows.stores.copies.held_only n p q h))
          go false h = refl

  -- ---- copies

  copies_of : (m q : ℕ) → holding_of new.stores m q ≡ cond (pair_eq (n, p) (m, q)) (holding_of s.stores n p ++ record { line = i; value = None } ∷ []) (holding_of s.stores m q)
  copies_of m q = removes.holding m q ∙ clears.holding m q

  holding_dropped : (m q a : ℕ) → a ≤ suc i → is_some (value_after (holding_of new.stores m q) a) ≡ holds_any m q (take a all)
  holding_dropped m q a le = subst (λ (h : List Change). is_some (value_after h a) ≡ holds_any m q (take a all)) (sym (copies_of m q)) (go (pair_eq (n, p) (m, q)) refl)
    where
      ended : (b : ℕ) → b ≤ suc i → is_some (value_after (holding_of s.stores n p ++ record { line = i; value = None } ∷ []) b) ≡ holds_any n p (take b all)
      ended b lt = at (up_to_next b i lt)
        where
          met : (x y : Bool) → x ≡ true → y ≡ true → cond (x && y) false (holds_any n p (take i all)) ≡ false
          met true true f g = refl
          met true false f g = differ g refl
          met false y f g = differ f refl

          at : (b ≤ i) ⊎ (b ≡ suc i) → is_some (value_after (holding_of s.stores n p ++ record { line = i; value = None } ∷ []) b) ≡ holds_any n p (take b all)
          at (inl lower) = ap is_some (put_before (holding_of s.stores n p) (record { line = i; value = None }) b (up_to (holding_of s.stores n p) i (knows.stores.copies.holding_below n p)) lower) ∙ knows.stores.copies.holding n p b lower
          at (inr e) = subst (λ (c : ℕ). is_some (value_after (holding_of s.stores n p ++ record { line = i; value = None } ∷ []) c) ≡ holds_any n p (take c all)) (sym e)
              (ap is_some (put_behind (holding_of s.stores n p) (record { line = i; value = None }) (suc i) (up_to (holding_of s.stores n p) i (knows.stores.copies.holding_below n p)) (omega arith))
              ∙ sym (holds_next s.records all i (line.Drop n k p) here n p ∙ met (n == n) (p == p) (number_here n) (number_here p)))

      go : (b : Bool) → pair_eq (n, p) (m, q) ≡ b → is_some (value_after (cond b (holding_of s.stores n p ++ record { line = i; value = None } ∷ []) (holding_of s.stores m q)) a) ≡ holds_any m q (take a all)
      go true e = subst (λ (y : ℕ). is_some (value_after (holding_of s.stores n p ++ record { line = i; value = None } ∷ []) a) ≡ holds_any m y (take a all)) (pair_right n p m q e)
          (subst (λ (x : ℕ). is_some (value_after (holding_of s.stores n p ++ record { line = i; value = None } ∷ []) a) ≡ holds_any x p (take a all)) (pair_left n p m q e) (ended a le))
      go false e = holding_still s.records all i (line.Drop n k p) here (holding_of s.stores m q) m q (knows.stores.copies.holding_below m q) (knows.stores.copies.holding m q)
          (ap (λ (b : Bool). cond b false (holds_any m q (take i all))) e) a le

  holding_low : (m q : ℕ) → AreBelow (suc i) (holding_of new.stores m q)
  holding_low m q = subst (AreBelow (suc i)) (sym (copies_of m q)) (go (pair_eq (n, p) (m, q)))
    where
      go : (b : Bool) → AreBelow (suc i) (cond b (holding_of s.stores n p ++ record { line = i; value = None } ∷ []) (holding_of s.stores m q))
      go true = put_below (holding_of s.stores n p) (record { line = i; value = None }) (suc i) (up_to (holding_of s.stores n p) i (knows.stores.copies.holding_below n p)) (omega arith)
      go false = below_more (holding_of s.stores m q) i (knows.stores.copies.holding_below m q)

  changed : (m q : ℕ) → changes_of new.stores m q ≡ cond (pair_eq (n, p) (m, q)) (changes_of s.stores n p ++ changes_at i dropped) (changes_of s.stores m q)
  changed m q = removes.changes m q ∙ ap₂ (λ (x y : List RecordChange). cond (pair_eq (n, p) (m, q)) (x ++ changes_at i dropped) y) (clears.changes n p) (clears.changes m q)

  changes_low : (m q : ℕ) → All (λ x. x.line < suc i) (changes_of new.stores m q)
  changes_low m q = subst (All (λ (x : RecordChange). x.line < suc i)) (sym (changed m q)) (go (pair_eq (n, p) (m, q)))
    where
      more : (x y : ℕ) → All (λ (z : RecordChange). z.line < suc i) (changes_of s.stores x y)
      more x y = more_below s.records all i (line.Drop n k p) here (changes_of s.stores x y) (knows.stores.copies.changes_below x y)

      go : (b : Bool) → All (λ (x : RecordChange). x.line < suc i) (cond b (changes_of s.stores n p ++ changes_at i dropped) (changes_of s.stores m q))
      go true = All-append (λ (x : RecordChange). x.line < suc i) (changes_of s.stores n p) (changes_at i dropped) (more n p) (all_at i dropped)
      go false = more m q

  held_after : (m q : ℕ) → held_of new.stores m q ≡ cond (pair_eq (n, p) (m, q)) [] (held_of s.stores m q)
  held_after m q = removes.held m q ∙ clears.held m q

  -- a record that was dropped is one of the partition
  same_part : (q x : ℕ) → has_node dropped q ≡ true → IsRecordOf s.records q x → p ≡ x
  same_part q x e f = some_same (sym (knows.stores.copies.held_only n p q e) ∙ f)

  pair_of : (m x : ℕ) → n ≡ m → p ≡ x → pair_eq (n, p) (m, x) ≡ true
  pair_of m x e f = subst (λ (y : ℕ). pair_eq (n, p) (y, x) ≡ true) e (subst (λ (y : ℕ). (nat_eq n n && nat_eq p y) ≡ true) f (subst (λ (b : Bool). (b && nat_eq p p) ≡ true) (sym (number_here n)) (number_here p)))

  held_dropped : (m x q : ℕ) → IsRecordOf s.records q x → is_some (value_now (history_of new.stores m q)) ≡ true → has_node (held_of new.stores m x) q ≡ true
  held_dropped m x q of some = subst (λ (rs : List ℕ). has_node rs q ≡ true) (sym (held_after m x)) (go ((n == m) && has_node dropped q) refl)
    where
      ended : has_node dropped q ≡ true → is_some (value_now (history_of new.stores n q)) ≡ false
      ended e = let next : i + 1 ≡ suc i = omega arith in
          ap is_some (now_at (history_of new.stores n q) (suc i) (low_here q) ∙ subst (λ (b : ℕ). value_after (history_of new.stores n q) b ≡ None) next (ends q e).ended)

      held_was : ((n == m) && has_node dropped q) ≡ false → has_node (held_of s.stores m x) q ≡ true
      held_was off = knows.stores.copies.held m x q of (subst (λ (h : List Change). is_some (value_now h) ≡ true) (stays m q off) some)

      rest : ((n == m) && has_node dropped q) ≡ false → (b : Bool) → pair_eq (n, p) (m, x) ≡ b → has_node (cond b [] (held_of s.stores m x)) q ≡ true
      rest off true e = differ
          (subst (λ (z : ℕ). ((n == z) && has_node dropped q) ≡ true) (pair_left n p m x e) (both (n == n) (has_node dropped q) (number_here n)
          (subst (λ (z : ℕ). has_node (held_of s.stores n z) q ≡ true) (sym (pair_right n p m x e)) (subst (λ (z : ℕ). has_node (held_of s.stores z x) q ≡ true) (sym (pair_left n p m x e)) (held_was off)))))
          off
        where
          both : (a b : Bool) → a ≡ true → b ≡ true → (a && b) ≡ true
          both true b f g = g
          both false b f g = f
      rest off false e = held_was off

      go : (b : Bool) → ((n == m) && has_node dropped q) ≡ b → has_node (cond (pair_eq (n, p) (m, x)) [] (held_of s.stores m x)) q ≡ true
      go true e = differ (subst (λ (z : ℕ). is_some (value_now (history_of new.stores z q)) ≡ true) (sym (number_same n m (and_left (n == m) _ e))) some) (ended (and_right (n == m) _ e))
      go false e = rest e (pair_eq (n, p) (m, x)) refl

  held_was : (m x q : ℕ) → has_node (held_of new.stores m x) q ≡ true → has_node (held_of s.stores m x) q ≡ true
  held_was m x q e = go (pair_eq (n, p) (m, x)) (subst (λ (rs : List ℕ). has_node rs q ≡ true) (held_after m x) e)
    where
      go : (b : Bool) → has_node (cond b [] (held_of s.stores m x)) q ≡ true → has_node (held_of s.stores m x) q ≡ true
      go true h = differ h refl
      go false h = h

  touched_after : (m x : ℕ) → touched_of new.stores m x ≡ touched_of s.stores m x
  touched_after m x = removes.touched m x ∙ clears.touched m x

  touched_dropped : (m x q : ℕ) → IsRecordOf s.records q x → has_node (touched_of s.stores m x) q ≡ false → history_of new.stores m q ≡ []
  touched_dropped m x q of off = go ((n == m) && has_node dropped q) refl
    where
      go : (b : Bool) → ((n == m) && has_node dropped q) ≡ b → history_of new.stores m q ≡ []
      go false e = stays m q e ∙ knows.stores.copies.touched m x q of off
      go true e = differ
          (knows.stores.copies.held_ever m x q (subst (λ (z : ℕ). has_node (held_of s.stores z x) q ≡ true) (number_same n m (and_left (n == m) _ e))
          (subst (λ (z : ℕ). has_node (held_of s.stores n z) q ≡ true) (same_part q x (and_right (n == m) _ e) of) (and_right (n == m) _ e))))
          off

  -- what didn't change in the longer list didn't in the shorter
  unchanged_was : (m x q a b : ℕ) → IsUnchanged (changes_of new.stores m x) q a b → IsUnchanged (changes_of s.stores m x) q a b
  unchanged_was m x q a b h y in_old = h y (subst (λ (ys : List RecordChange). Contains ys y) (sym (changed m x)) (go (pair_eq (n, p) (m, x)) refl))
    where
      go : (t : Bool) → pair_eq (n, p) (m, x) ≡ t → Contains (cond t (changes_of s.stores n p ++ changes_at i dropped) (changes_of s.stores m x)) y
      go true e = Contains-append_left (changes_of s.stores n p) (changes_at i dropped) y
          (subst (λ (z : ℕ). Contains (changes_of s.stores z p) y) (sym (pair_left n p m x e)) (subst (λ (z : ℕ). Contains (changes_of s.stores m z) y) (sym (pair_right n p m x e)) in_old))
      go false e = in_old

  changes_ended : (q a b : ℕ) → has_node dropped q ≡ true → a ≤ b → IsUnchanged (changes_of new.stores n p) q a b → value_after (history_of new.stores n q) a ≡ value_after (history_of new.stores n q) b
  changes_ended q a b e le h = go (cases_lt i b)
    where
      noted : Contains (changes_of new.stores n p) (record { line = i; number = q })
      noted = subst (λ (ys : List RecordChange). Contains ys (record { line = i; number = q })) (sym (changed n p ∙ ap (λ (t : Bool). cond t (changes_of s.stores n p ++ changes_at i dropped) (changes_of s.stores n p)) (pair_of n p refl refl)))
          (Contains-append_right (changes_of s.stores n p) (changes_at i dropped) (record { line = i; number = q }) (noted_at i q dropped e))

      later : i < b → (i < a) ⊎ (a ≤ i) → value_after (history_of new.stores n q) a ≡ value_after (history_of new.stores n q) b
      later below (inl above) = after_all (history_of new.stores n q) i a b (low_here q) above below
      later below (inr under) = absurd (h (record { line = i; number = q }) noted refl under below)

      go : (i < b) ⊎ (b ≤ i) → value_after (history_of new.stores n q) a ≡ value_after (history_of new.stores n q) b
      go (inl below) = later below (cases_lt i a)
      go (inr under) = (ends q e).before a (omega (arith, le, under)) ∙ (knows.stores.copies.changes n p q a b (knows.stores.copies.held_only n p q e) le (unchanged_was n p q a b h) ∙ sym ((ends q e).before b under))

  changes_dropped : (m x q a b : ℕ) → IsRecordOf s.records q x → a ≤ b → IsUnchanged (changes_of new.stores m x) q a b → value_after (history_of new.stores m q) a ≡ value_after (history_of new.stores m q) b
  changes_dropped m x q a b of le h = go ((n == m) && has_node dropped q) refl
    where
      go : (t : Bool) → ((n == m) && has_node dropped q) ≡ t → value_after (history_of new.stores m q) a ≡ value_after (history_of new.stores m q) b
      go false e = subst (λ (c : List Change). value_after c a ≡ value_after c b) (sym (stays m q e)) (knows.stores.copies.changes m x q a b of le (unchanged_was m x q a b h))
      go true e =
          let node : n ≡ m = number_same n m (and_left (n == m) _ e) in
          let part : p ≡ x = same_part q x (and_right (n == m) _ e) of in
          subst (λ (z : ℕ). value_after (history_of new.stores z q) a ≡ value_after (history_of new.stores z q) b) node
          (changes_ended q a b (and_right (n == m) _ e) le (subst (λ (z : ℕ). IsUnchanged (changes_of new.stores n z) q a b) (sym part) (subst (λ (z : ℕ). IsUnchanged (changes_of new.stores z x) q a b) (sym node) h)))

  changes_only : (m x : ℕ) (y : RecordChange) → Contains (changes_of new.stores m x) y → IsRecordOf s.records y.number x
  changes_only m x y h = go (pair_eq (n, p) (m, x)) refl (subst (λ (ys : List RecordChange). Contains ys y) (changed m x) h)
    where
      pick : Contains (changes_of s.stores n p) y ⊎ Contains (changes_at i dropped) y → IsRecordOf s.records y.number p
      pick (inl t) = knows.stores.copies.changes_only n p y t
      pick (inr t) = knows.stores.copies.held_only n p y.number (only_at i dropped y t)

      go : (b : Bool) → pair_eq (n, p) (m, x) ≡ b → Contains (cond b (changes_of s.stores n p ++ changes_at i dropped) (changes_of s.stores m x)) y → IsRecordOf s.records y.number x
      go true e t = subst (IsRecordOf s.records y.number) (pair_right n p m x e) (pick (Contains-append_cases (changes_of s.stores n p) (changes_at i dropped) y t))
      go false e t = knows.stores.copies.changes_only m x y t

  copies_dropped : SeesCopies new.stores new.records all (suc i)
  copies_dropped = record {
    holding = holding_dropped;
    holding_below = holding_low;
    changes_below = changes_low;
    held = λ m x q f. held_dropped m x q (of_old q x f);
    held_only = λ m x q f. of_new q x (knows.stores.copies.held_only m x q (held_was m x q f));
    held_ever = λ m x q f. ap (λ (rs : List ℕ). has_node rs q) (touched_after m x) ∙ knows.stores.copies.held_ever m x q (held_was m x q f);
    touched = λ m x q f off. touched_dropped m x q (of_old q x f) (sym (ap (λ (rs : List ℕ). has_node rs q) (touched_after m x)) ∙ off);
    touched_only = λ m x q f. of_new q x (knows.stores.copies.touched_only m x q (ap (λ (rs : List ℕ). has_node rs q) (sym (touched_after m x)) ∙ f));
    changes_only = λ m x y f. of_new y.number x (changes_only m x y f);
    changes = λ m x q a b f. changes_dropped m x q a b (of_old q x f);
  }

  -- ---- records, and what was written

  same_reads : (f g : List ℕ → Option Version) → ((e : List ℕ) → f e ≡ g e) → (o : Option (List ℕ)) → read_of f o ≡ read_of g o
  same_reads f g h None = refl
  same_reads f g h (Some e) = h e

  none_more : (a : Bool) → a ≡ false → (a || (false || false)) ≡ false
  none_more true e = e
  none_more false e = refl

  records_dropped : SeesRecords new all (take (suc i) all)
  records_dropped = record {
    numbered = record {
      digests = λ e q h. digest_eq q ∙ knows.stores.records.numbered.digests e q (sym (removes.keeps.numbers.numbers e) ∙ h);
      numbers = λ e q h. removes.keeps.numbers.numbers e ∙ knows.stores.records.numbered.numbers e q (sym (digest_eq q) ∙ h);
    };
    unbrought = λ e h. ap (list_any (brings e)) next_front ∙ (list_any-append (brings e) (take i all) (line.Drop n k p ∷ [])
        ∙ none_more (list_any (brings e) (take i all)) (knows.stores.records.unbrought e (sym (removes.keeps.numbers.numbers e) ∙ h)));
    newest = λ q. ap (placed all) (removes.keeps.newest q)
        ∙ (knows.stores.records.newest q
        ∙ (ap (λ (by : Policy). read_of (λ e. applied by e (take i all)) (record_digest s.records q)) policy_next
        ∙ (ap (read_of (λ e. applied (policy_of (take (suc i) all)) e (take i all))) (sym (digest_eq q))
        ∙ same_reads (λ e. applied (policy_of (take (suc i) all)) e (take i all)) (λ e. applied (policy_of (take (suc i) all)) e (take (suc i) all))
        (λ e. sym (ap (applied (policy_of (take (suc i) all)) e) next_front ∙ applied-more (policy_of (take (suc i) all)) e (take i all) (line.Drop n k p))) (record_digest new.records q))));
    holders = subst (AreHoldersCounted new) (sym (ap nodes next_front ∙ nodes_stay (take i all) (line.Drop n k p) refl)) counts;
  }

  same_view : (l : ClusterKey) → kept_view new l ≡ kept_view s l
  same_view l = ap (λ (y : Judge). kept_view y l) removes.keeps.rest

  written_dropped : SeesWritten new all (take (suc i) all)
  written_dropped = record {
    applied = λ l x q there. knows.stores.written.applied l x q (sym (same_view l) ∙ there)
        ∙ (ap (λ (by : Policy). read_of (λ e. applied_in by l e (take i all)) (record_digest s.records q)) policy_next
        ∙ (ap (read_of (λ e. applied_in (policy_of (take (suc i) all)) l e (take i all))) (sym (digest_eq q))
        ∙ same_reads (λ e. applied_in (policy_of (take (suc i) all)) l e (take i all)) (λ e. applied_in (policy_of (take (suc i) all)) l e (take (suc i) all))
        (λ e. sym (ap (applied_in (policy_of (take (suc i) all)) l e) next_front ∙ applied_in-more (policy_of (take (suc i) all)) l e (take i all) (line.Drop n k p))) (record_digest new.records q)));
    written = λ l x q there. knows.stores.written.written l x q (sym (same_view l) ∙ there);
    listed = λ l x q there some. let w : (z : ℕ) × IsRecordOf s.records q z × (has_node (written_of x z) q ≡ true) = knows.stores.written.listed l x q (sym (same_view l) ∙ there) some in
        (w.0, of_new q w.0 w.1, w.2);
    listed_only = λ l x z q there some. of_new q z (knows.stores.written.listed_only l x z q (sym (same_view l) ∙ there) some);
  }

  pub drop_seen : SeesStores new (i + 1) all (take (i + 1) all)
  drop_seen = next_stores new i all (record { records = records_dropped; contents = contents_dropped; copies = copies_dropped; written = written_dropped })
