-- What nodes hold, as one line more comes.
use Rattle.std.proofs.Common.{◌≡◌, ℕ, zero, suc, ◌==◌, ◌≤◌, Bool, true, false, ◌&&◌, cond, List, [], ◌∷◌, ◌++◌, Option, Some, None, ◌⊎◌, inl, inr, refl, sym, ap, subst, ◌∙◌, arith}
use Rattle.std.specs.Prelude.{take, slice_get, nat_eq}
use Rattle.std.proofs.lemmas.Bool.{cases_lt}
use Rattle.conflict_order.specs.declared.policy.Policy.{Policy}
use Rattle.conflict_order.specs.declared.version.Version.{Version}
use Rattle.conflict_order.specs.Join.{join}
use Rattle.journal_lines.specs.declared.line.Line.{Line}
use Rattle.std.specs.Prelude.{bytes_eq}
use Rattle.journal_readings.specs.Contents.{content, content_step, joined_if}
use Rattle.journal_readings.proofs.AlongLaws.{some_same, no_some}
use Rattle.journal_readings.proofs.CopyLaws.{same_digest_is, same_digest_itself}
use Rattle.journal_readings.proofs.Fronts.{and_left, and_right}
use Rattle.journal_readings.proofs.StepLaws.{content-more}
use Rattle.audit_laws.proofs.Tests.{differ, number_same, number_here}
use Rattle.audit_state.specs.declared.history.Change.{Change}
use Rattle.audit_state.specs.declared.records.Records.{Records}
use Rattle.audit_state.specs.declared.stores.Stores.{Stores}
use Rattle.audit_state.specs.Histories.{AreBelow, value_after}
use Rattle.audit_state.specs.Keys.{pair_eq}
use Rattle.audit_state.specs.Places.{placed, placed_version, is_at_most}
use Rattle.audit_state.specs.Records.{record_digest, AreNumberedRecords}
use Rattle.audit_state.specs.Stores.{history_of, PutsContent}
use Rattle.audit_core.specs.Stored.{SeesContents, read_of}
use Rattle.audit_state.proofs.HistoryLaws.{stays_at, below_more, up_to, put_before, put_behind, put_below}
use Rattle.audit_state.proofs.PlaceLaws.{join_first, join_second}

-- ---- the lines so far

pub take_next : (all : List Line) (i : ℕ) (l : Line) → slice_get all i ≡ Some l → take (suc i) all ≡ take i all ++ l ∷ []
take_next [] i l e = absurd (no_some e)
take_next (x ∷ all) zero l e = ap (λ (y : Line). y ∷ []) (some_same e)
take_next (x ∷ all) (suc i) l e = ap (λ (ls : List Line). x ∷ ls) (take_next all i l e)

pub content_next : (by : Policy) (n : ℕ) (d : List ℕ) (all : List Line) (i : ℕ) (l : Line) → slice_get all i ≡ Some l
    → content by n d (take (suc i) all) ≡ content_step by n d (content by n d (take i all)) l
content_next by n d all i l here = ap (content by n d) (take_next all i l here) ∙ content-more by n d (take i all) l

pub up_to_next : (a i : ℕ) → a ≤ suc i → (a ≤ i) ⊎ (a ≡ suc i)
up_to_next a i le = elim (cases_lt a (suc i)) [ inl below ↦ inl (omega (arith, below)) | inr above ↦ inr (omega (arith, above, le)) ]

pub pair_left : (n r m q : ℕ) → pair_eq (n, r) (m, q) ≡ true → n ≡ m
pair_left n r m q e = number_same n m (and_left (nat_eq n m) _ e)

pub pair_right : (n r m q : ℕ) → pair_eq (n, r) (m, q) ≡ true → r ≡ q
pair_right n r m q e = number_same r q (and_right (nat_eq n m) _ e)

-- what a history answers is what the node held, after so many lines
abbrev Tells : List Change → Records → List Line → Policy → ℕ → ℕ → ℕ → Type 0
Tells h rs all by n r a = placed all (value_after h a) ≡ read_of (λ d. content by n d (take a all)) (record_digest rs r)

module _ (rs : Records) (all : List Line) (by : Policy) (i : ℕ) (l : Line) (here : slice_get all i ≡ Some l) where
  -- a history stays, and what the node holds too
  still : (h : List Change) (n r : ℕ) → AreBelow i h → ((a : ℕ) → a ≤ i → Tells h rs all by n r a)
      → ((d : List ℕ) → record_digest rs r ≡ Some d → content_step by n d (content by n d (take i all)) l ≡ content by n d (take i all))
      → (a : ℕ) → a ≤ suc i → Tells h rs all by n r a
  still h n r below told keeps a le = go (up_to_next a i le)
    where
      same : (o : Option (List ℕ)) → record_digest rs r ≡ o → read_of (λ d. content by n d (take i all)) o ≡ read_of (λ d. content by n d (take (suc i) all)) o
      same None e = refl
      same (Some d) e = sym (content_next by n d all i l here ∙ keeps d e)

      go : (a ≤ i) ⊎ (a ≡ suc i) → Tells h rs all by n r a
      go (inl lower) = told a lower
      go (inr e) = subst (Tells h rs all by n r) (sym e) (ap (placed all) (stays_at h i below) ∙ (told i (omega arith) ∙ same (record_digest rs r) refl))

  -- the line changes nothing that a node holds
  pub contents_stay : (st : Stores) → SeesContents st rs all by i
      → ((n r : ℕ) (d : List ℕ) → record_digest rs r ≡ Some d → content_step by n d (content by n d (take i all)) l ≡ content by n d (take i all))
      → SeesContents st rs all by (suc i)
  contents_stay st sees keeps = record {
    held = λ n r a le. still (history_of st n r) n r (sees.below n r) (sees.held n r) (keeps n r) a le;
    below = λ n r. below_more (history_of st n r) i (sees.below n r);
    fresh = sees.fresh;
  }

  -- a change more, at the line
  changed : (h : List Change) (v : Option ℕ) (n r : ℕ) → AreBelow i h → ((a : ℕ) → a ≤ i → Tells h rs all by n r a)
      → placed all v ≡ read_of (λ d. content by n d (take (suc i) all)) (record_digest rs r)
      → (a : ℕ) → a ≤ suc i → Tells (h ++ record { line = i; value = v } ∷ []) rs all by n r a
  changed h v n r below told new a le = go (up_to_next a i le)
    where
      go : (a ≤ i) ⊎ (a ≡ suc i) → Tells (h ++ record { line = i; value = v } ∷ []) rs all by n r a
      go (inl lower) = ap (placed all) (put_before h (record { line = i; value = v }) a (up_to h i below) lower) ∙ told a lower
      go (inr e) = subst (Tells (h ++ record { line = i; value = v } ∷ []) rs all by n r) (sym e) (ap (placed all) (put_behind h (record { line = i; value = v }) (suc i) (up_to h i below) (omega arith)) ∙ new)

  -- one history has a change more, and the line changes what that node holds of that record alone
  pub contents_changed : (old new : Stores) (n r : ℕ) (v : Option ℕ) → SeesContents old rs all by i → PutsContent old new n r (record { line = i; value = v }) → (record_digest rs r ≡ None → ⊥)
      → placed all v ≡ read_of (λ d. content by n d (take (suc i) all)) (record_digest rs r)
      → ((m q : ℕ) (d : List ℕ) → pair_eq (n, r) (m, q) ≡ false → record_digest rs q ≡ Some d → content_step by m d (content by m d (take i all)) l ≡ content by m d (take i all))
      → SeesContents new rs all by (suc i)
  contents_changed old new n r v sees puts there brought keeps = record { held = λ m q a le. told m q a le; below = under; fresh = fresh }
    where
      fresh : (m q : ℕ) → record_digest rs q ≡ None → history_of new m q ≡ []
      fresh m q none = puts m q ∙ go (pair_eq (n, r) (m, q)) refl
        where
          go : (b : Bool) → pair_eq (n, r) (m, q) ≡ b → cond b (history_of old n r ++ record { line = i; value = v } ∷ []) (history_of old m q) ≡ []
          go true e = absurd (there (ap (record_digest rs) (pair_right n r m q e) ∙ none))
          go false e = sees.fresh m q none

      told : (m q a : ℕ) → a ≤ suc i → Tells (history_of new m q) rs all by m q a
      told m q a le = subst (λ (h : List Change). Tells h rs all by m q a) (sym (puts m q)) (go (pair_eq (n, r) (m, q)) refl)
        where
          here_at : (a : ℕ) → a ≤ suc i → Tells (history_of old n r ++ record { line = i; value = v } ∷ []) rs all by n r a
          here_at = changed (history_of old n r) v n r (sees.below n r) (sees.held n r) brought

          go : (b : Bool) → pair_eq (n, r) (m, q) ≡ b → Tells (cond b (history_of old n r ++ record { line = i; value = v } ∷ []) (history_of old m q)) rs all by m q a
          go true e = subst (λ (y : ℕ). Tells (history_of old n r ++ record { line = i; value = v } ∷ []) rs all by m y a) (pair_right n r m q e)
              (subst (λ (x : ℕ). Tells (history_of old n r ++ record { line = i; value = v } ∷ []) rs all by x r a) (pair_left n r m q e) (here_at a le))
          go false e = still (history_of old m q) m q (sees.below m q) (sees.held m q) (λ d f. keeps m q d e f) a le

      under : (m q : ℕ) → AreBelow (suc i) (history_of new m q)
      under m q = subst (AreBelow (suc i)) (sym (puts m q)) (go (pair_eq (n, r) (m, q)))
        where
          go : (b : Bool) → AreBelow (suc i) (cond b (history_of old n r ++ record { line = i; value = v } ∷ []) (history_of old m q))
          go true = put_below (history_of old n r) (record { line = i; value = v }) (suc i) (up_to (history_of old n r) i (sees.below n r)) (omega arith)
          go false = below_more (history_of old m q) i (sees.below m q)

  -- ---- a version comes to a node

  module _ (n r : ℕ) (d : List ℕ) (v : Version) (named : record_digest rs r ≡ Some d) (numbered : AreNumberedRecords rs) (stands : placed_version all i ≡ Some v)
      (step : (m : ℕ) (e : List ℕ) (held : Option Version) → content_step by m e held l ≡ joined_if ((n == m) && bytes_eq d e) by held v) where
    -- others hold what they held
    elsewhere : (m q : ℕ) (e : List ℕ) → pair_eq (n, r) (m, q) ≡ false → record_digest rs q ≡ Some e → ((n == m) && bytes_eq d e) ≡ false
    elsewhere m q e apart f = go ((n == m) && bytes_eq d e) refl
      where
        go : (b : Bool) → ((n == m) && bytes_eq d e) ≡ b → b ≡ false
        go false i = refl
        go true i =
            let same : r ≡ q = some_same (sym (numbered.numbers d r named) ∙ numbered.numbers d q (f ∙ ap Some (sym (same_digest_is d e (and_right (n == m) _ i))))) in
            differ (subst (λ (x : ℕ). ((n == m) && (r == x)) ≡ true) same (subst (λ (b : Bool). ((n == m) && b) ≡ true) (sym (number_here r)) (both (n == m) (and_left (n == m) _ i)))) apart
          where
            both : (b : Bool) → b ≡ true → (b && true) ≡ true
            both true e = refl
            both false e = e

    kept_elsewhere : (m q : ℕ) (e : List ℕ) → pair_eq (n, r) (m, q) ≡ false → record_digest rs q ≡ Some e → content_step by m e (content by m e (take i all)) l ≡ content by m e (take i all)
    kept_elsewhere m q e apart f = step m e (content by m e (take i all)) ∙ ap (λ (b : Bool). joined_if b by (content by m e (take i all)) v) (elsewhere m q e apart f)

    joins_here : content by n d (take (suc i) all) ≡ join by (content by n d (take i all)) (Some v)
    joins_here = content_next by n d all i l here ∙ (step n d (content by n d (take i all)) ∙ ap (λ (b : Bool). joined_if b by (content by n d (take i all)) v) (both (n == n) (number_here n)))
      where
        both : (b : Bool) → b ≡ true → (b && bytes_eq d d) ≡ true
        both true e = same_digest_itself d
        both false e = absurd (differ {C = ⊥} e refl)

    -- it is above what the node held
    pub contents_brought : (old new : Stores) → SeesContents old rs all by i → PutsContent old new n r (record { line = i; value = Some i }) → is_at_most by (Some v) (content by n d (take i all)) ≡ false
        → SeesContents new rs all by (suc i)
    contents_brought old new sees puts above =
        contents_changed old new n r (Some i) sees puts (λ none. no_some (sym none ∙ named))
        (stands ∙ (join_second by (content by n d (take i all)) (Some v) above ∙ (sym joins_here ∙ sym (ap (read_of (λ e. content by n e (take (suc i) all))) named))))
        kept_elsewhere

    -- it isn't
    pub contents_passed : (st : Stores) → SeesContents st rs all by i → is_at_most by (Some v) (content by n d (take i all)) ≡ true → SeesContents st rs all by (suc i)
    contents_passed st sees below = contents_stay st sees (λ m q e f. go m q e f (pair_eq (n, r) (m, q)) refl)
      where
        go : (m q : ℕ) (e : List ℕ) → record_digest rs q ≡ Some e → (b : Bool) → pair_eq (n, r) (m, q) ≡ b → content_step by m e (content by m e (take i all)) l ≡ content by m e (take i all)
        go m q e f true p =
            subst (λ (x : ℕ). content_step by x e (content by x e (take i all)) l ≡ content by x e (take i all)) (pair_left n r m q p)
            (subst (λ (x : List ℕ). content_step by n x (content by n x (take i all)) l ≡ content by n x (take i all)) (some_same (sym named ∙ (ap (record_digest rs) (pair_right n r m q p) ∙ f)))
            (sym (content_next by n d all i l here) ∙ (joins_here ∙ sym (join_first by (content by n d (take i all)) (Some v) below))))
        go m q e f false p = kept_elsewhere m q e p f
