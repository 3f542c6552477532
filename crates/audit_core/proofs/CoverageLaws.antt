-- Whether a node holds at least what a member held of a partition's records, by what is known.
use Rattle.std.proofs.Common.{◌≡◌, ℕ, ◌==◌, ◌<◌, ◌≤◌, ◌+◌, zero, suc, Bool, true, false, ◌&&◌, ◌||◌, List, [], ◌∷◌, Option, Some, None, ◌⊎◌, inl, inr, refl, sym, ap, ap₂, subst, ◌∙◌, arith, Contains}
use Rattle.std.specs.Prelude.{nat_eq, slice_get, slice_index_or, length, nat_lt, min, max}
use Rattle.std.specs.List.{list_all}
use Rattle.std.proofs.lemmas.Bool.{cases_lt}
use Rattle.std.specs.List.Sorted.{IsPartitionPoint}
use Rattle.std.proofs.lemmas.Bool.Decides.{nat_tests}
use Rattle.std.proofs.lemmas.List.Elements.{Contains-append_cases, Contains-append_left, Contains-append_right}
use Rattle.std.proofs.lemmas.Option.{get_or_from_slice_get, slice_get_read, slice_get_within}
use Rattle.cluster_types.specs.declared.cluster_key.ClusterKey.{ClusterKey}
use Rattle.journal_readings.specs.Lines.{has_node}
use Rattle.audit_laws.proofs.Tests.{differ, number_same, number_here}
use Rattle.audit_core.specs.declared.judge.Judge.{Judge}
use Rattle.audit_state.specs.declared.copies.Cover.{Cover}
use Rattle.audit_state.specs.declared.copies.RecordChange.{RecordChange}
use Rattle.audit_state.specs.declared.history.Change.{Change}
use Rattle.audit_state.specs.Histories.{value_after}
use Rattle.audit_state.specs.Places.{placed, is_at_most}
use Rattle.audit_state.specs.Stores.{history_of, touched_of, changes_of}
use Rattle.audit_state.proofs.HistoryLaws.{now_at}
use Rattle.audit_state.proofs.PlaceLaws.{none_at_most}
use Rattle.audit_core.specs.Covering.{SeesCovers, IsCover, HaveNumber}
use Rattle.audit_core.specs.Holders.{content_now}
use Rattle.audit_core.specs.Replicas.{TellsCover, TellsChanges, TellsNoMore, LearnsCover, covers_change, holds_change}
use Rattle.audit_core.specs.Stored.{IsRecordOf, IsUnchanged}
use Rattle.audit_core.specs.Trying.{SeesLines, KeepsStands, NotesCover, covers_record}
use Rattle.audit_core.proofs.CoverLaws.{covers_noted}
use Rattle.audit_core.proofs.JoinedLaws.{passed}

-- ---- lists

pub failed : (f : ℕ → Bool) (ns : List ℕ) → list_all f ns ≡ false → (r : ℕ) × (has_node ns r ≡ true) × (f r ≡ false)
failed f [] e = differ refl e
failed f (n ∷ ns) e = go (f n) refl e (failed f ns)
  where
    later : (m r : ℕ) → has_node ns r ≡ true → ((m == r) || has_node ns r) ≡ true
    later m r h = either (m == r) (has_node ns r) h
      where
        either : (a b : Bool) → b ≡ true → (a || b) ≡ true
        either true b q = refl
        either false b q = q

    first : (m : ℕ) → ((m == m) || has_node ns m) ≡ true
    first m = ap (λ (b : Bool). b || has_node ns m) (number_here m)

    go : (b : Bool) → f n ≡ b → (b && list_all f ns) ≡ false → (list_all f ns ≡ false → (r : ℕ) × (has_node ns r ≡ true) × (f r ≡ false)) → (r : ℕ) × (has_node (n ∷ ns) r ≡ true) × (f r ≡ false)
    go false q h rest = (n, first n, q)
    go true q h rest = let x : (r : ℕ) × (has_node ns r ≡ true) × (f r ≡ false) = rest h in (x.0, later n x.0 x.1, x.2)

-- ---- changes of a record

abbrev pub ChangedBetween : List RecordChange → ℕ → ℕ → ℕ → Type 0
ChangedBetween changes r a b = (y : RecordChange) × Contains changes y × (y.number ≡ r) × (a ≤ y.line) × (y.line < b)

changed_first : (x : RecordChange) (r a b : ℕ) → ((x.number ≡ r) × (a ≤ x.line) × (x.line < b)) ⊎ (x.number ≡ r → a ≤ x.line → x.line < b → ⊥)
changed_first x r a b = number (nat_eq x.number r) refl
  where
    number : (t : Bool) → nat_eq x.number r ≡ t → ((x.number ≡ r) × (a ≤ x.line) × (x.line < b)) ⊎ (x.number ≡ r → a ≤ x.line → x.line < b → ⊥)
    number false e = inr (λ same low high. differ (subst (λ (z : ℕ). nat_eq x.number z ≡ true) same (number_here x.number)) e)
    number true e = below (cases_lt x.line a) (cases_lt x.line b)
      where
        below : (x.line < a) ⊎ (a ≤ x.line) → (x.line < b) ⊎ (b ≤ x.line) → ((x.number ≡ r) × (a ≤ x.line) × (x.line < b)) ⊎ (x.number ≡ r → a ≤ x.line → x.line < b → ⊥)
        below (inr low) (inl high) = inl (number_same x.number r e, low, high)
        below (inl under) o = inr (λ same low high. absurd (omega (arith, under, low)))
        below (inr low) (inr over) = inr (λ same at high. absurd (omega (arith, over, high)))

contained_first : (x y : RecordChange) → Contains (x ∷ []) y → x ≡ y
contained_first x y h = go h.0 h.1 h.2
  where
    go : (a : ℕ) → a < 1 → slice_index_or (x ∷ []) a y ≡ y → x ≡ y
    go zero within e = e
    go (suc a) within e = absurd (omega (arith, within))

-- the record changed between the lines, or it didn't
pub changed_or : (changes : List RecordChange) (r a b : ℕ) → ChangedBetween changes r a b ⊎ IsUnchanged changes r a b
changed_or [] r a b = inr (λ y h same low high. absurd (omega (arith, h.1)))
changed_or (x ∷ xs) r a b = go (changed_first x r a b) (changed_or xs r a b)
  where
    here : Contains (x ∷ xs) x
    here = Contains-append_left (x ∷ []) xs x (0, (let within : 0 < 1 = omega arith in within), refl)

    go : ((x.number ≡ r) × (a ≤ x.line) × (x.line < b)) ⊎ (x.number ≡ r → a ≤ x.line → x.line < b → ⊥) → ChangedBetween xs r a b ⊎ IsUnchanged xs r a b → ChangedBetween (x ∷ xs) r a b ⊎ IsUnchanged (x ∷ xs) r a b
    go (inl h) o = inl (x, here, h.0, h.1, h.2)
    go (inr none) (inl h) = inl (h.0, Contains-append_right (x ∷ []) xs h.0 h.1, h.2, h.3, h.4)
    go (inr none) (inr rest) = inr (λ y h. pick y (Contains-append_cases (x ∷ []) xs y h))
      where
        pick : (y : RecordChange) → Contains (x ∷ []) y ⊎ Contains xs y → y.number ≡ r → a ≤ y.line → y.line < b → ⊥
        pick y (inl h) = subst (λ (z : RecordChange). z.number ≡ r → a ≤ z.line → z.line < b → ⊥) (contained_first x y h) none
        pick y (inr h) = rest y h

-- ---- beside all that the member ever held

pub touched_told : (s : Judge) (i n m of p : ℕ) (b : Bool) → SeesLines s i → b ≡ list_all (covers_record s n m of) (touched_of s.stores m p) → TellsCover s n m of p b
touched_told s i n m of p true h e = λ r part. go r part (has_node (touched_of s.stores m p) r) refl
  where
    go : (r : ℕ) → IsRecordOf s.records r p → (b : Bool) → has_node (touched_of s.stores m p) r ≡ b → covers_record s n m of r ≡ true
    go r part true f = passed (covers_record s n m of) (touched_of s.stores m p) r (sym e) f
    go r part false f =
        ap (λ (cs : List Change). is_at_most s.by (placed s.lines.now (value_after cs of)) (placed s.lines.now (content_now s n r))) (h.stores.copies.touched m p r part f)
        ∙ sym (none_at_most s.by (placed s.lines.now (content_now s n r)))
touched_told s i n m of p false h e =
    let x : (r : ℕ) × (has_node (touched_of s.stores m p) r ≡ true) × (covers_record s n m of r ≡ false) = failed (covers_record s n m of) (touched_of s.stores m p) (sym e) in
    record { number = x.0; part = h.stores.copies.touched_only m p x.0 x.1; less = x.2 }

-- ---- beside what changed since

pub changed_less : (s : Judge) (i n c m from to of p : ℕ) (b : Bool) → SeesLines s i → TellsChanges s n m of from to (changes_of s.stores c p) b → b ≡ false → TellsCover s n m of p false
changed_less s i n c m from to of p true h told e = differ refl e
changed_less s i n c m from to of p false h told e = record { number = told.0.number; part = h.stores.copies.changes_only c p told.0 told.1; less = told.2 }

-- what held before holds now, where the record changed at neither of both
still_covers : (s : Judge) (i n m of p : ℕ) (c : Cover) (r : ℕ) → SeesLines s i → IsCover s i n m p c → IsRecordOf s.records r p → value_after (history_of s.stores n r) c.held ≡ value_after (history_of s.stores n r) i
    → value_after (history_of s.stores m r) c.of ≡ value_after (history_of s.stores m r) of → covers_record s n m of r ≡ true
still_covers s i n m of p c r h known part holds held =
    ap₂ (λ (x y : Option ℕ). is_at_most s.by (placed s.lines.now x) (placed s.lines.now y)) (sym held) (now_at (history_of s.stores n r) i (h.stores.contents.below n r) ∙ sym holds)
    ∙ known.covers r part

-- nothing that changed at either since is less
pub since_covers : (s : Judge) (i n m of p first last : ℕ) (c : Cover) (a b : Bool) → SeesLines s i → IsCover s i n m p c → first ≤ last → ((first ≡ c.of) × (last ≡ of)) ⊎ ((first ≡ of) × (last ≡ c.of))
    → TellsChanges s n m of c.held i (changes_of s.stores n p) a → a ≡ true → TellsChanges s n m of first last (changes_of s.stores m p) b → TellsCover s n m of p b
since_covers s i n m of p first last c true true h known order ends at_node e at_member = λ r part. go r part (changed_or (changes_of s.stores n p) r c.held i) (changed_or (changes_of s.stores m p) r first last)
  where
    ended : (r : ℕ) → ((first ≡ c.of) × (last ≡ of)) ⊎ ((first ≡ of) × (last ≡ c.of)) → value_after (history_of s.stores m r) first ≡ value_after (history_of s.stores m r) last → value_after (history_of s.stores m r) c.of ≡ value_after (history_of s.stores m r) of
    ended r (inl q) same = ap (value_after (history_of s.stores m r)) (sym q.0) ∙ (same ∙ ap (value_after (history_of s.stores m r)) q.1)
    ended r (inr q) same = ap (value_after (history_of s.stores m r)) (sym q.1) ∙ (sym same ∙ ap (value_after (history_of s.stores m r)) q.0)

    go : (r : ℕ) → IsRecordOf s.records r p → ChangedBetween (changes_of s.stores n p) r c.held i ⊎ IsUnchanged (changes_of s.stores n p) r c.held i → ChangedBetween (changes_of s.stores m p) r first last ⊎ IsUnchanged (changes_of s.stores m p) r first last → covers_record s n m of r ≡ true
    go r part (inl y) o = subst (λ (z : ℕ). covers_record s n m of z ≡ true) y.2 (at_node y.0 y.1 y.3 y.4)
    go r part (inr same) (inl y) = subst (λ (z : ℕ). covers_record s n m of z ≡ true) y.2 (at_member y.0 y.1 y.3 y.4)
    go r part (inr same) (inr still) = still_covers s i n m of p c r h known part
        (h.stores.copies.changes n p r c.held i part known.held same)
        (ended r ends (h.stores.copies.changes m p r first last part order still))
since_covers s i n m of p first last c true false h known order ends at_node e at_member = changed_less s i n m m first last of p false h at_member refl
since_covers s i n m of p first last c false b h known order ends at_node e at_member = differ e refl

-- ---- what is noted

noted_is : (s : Judge) (i n m of p : ℕ) → SeesLines s i → of ≤ i → TellsCover s n m of p true → IsCover s i n m p (record { held = i; of = of })
noted_is s i n m of p h within covers = record {
  held = omega arith;
  of = within;
  covers = λ r part. ap (λ (o : Option ℕ). is_at_most s.by (placed s.lines.now (value_after (history_of s.stores m r) of)) (placed s.lines.now o)) (sym (now_at (history_of s.stores n r) i (h.stores.contents.below n r))) ∙ covers r part;
}

pub covers_learn : (old new : Judge) (i n m of p : ℕ) (b : Bool) → HaveNumber n m p → KeepsStands old new → NotesCover n m p (record { held = i; of = of }) old new
    → (SeesLines old i → SeesCovers old i → of ≤ i → TellsCover old n m of p b) → b ≡ true → LearnsCover i n m of p old new true
unfolding LearnsCover
covers_learn old new i n m of p true number keeps notes told e h covers within =
    (covers_noted old new i n m p (record { held = i; of = of }) keeps notes number (noted_is old i n m of p h within (told h covers within)) covers, told h covers within)
covers_learn old new i n m of p false number keeps notes told e h covers within = differ e refl

pub covers_not : (s : Judge) (i n m of p : ℕ) (b : Bool) → (SeesLines s i → SeesCovers s i → of ≤ i → TellsCover s n m of p b) → b ≡ false → LearnsCover i n m of p s s false
unfolding LearnsCover
covers_not s i n m of p true told e h covers within = differ refl e
covers_not s i n m of p false told e h covers within = (covers, told h covers within)

-- ---- a range of changes

-- those before this place pass the test
abbrev pub PassedTo : (Option RecordChange → Bool) → List RecordChange → ℕ → ℕ → Type 0
PassedTo f changes first place = (a : ℕ) → first ≤ a → a < place → f (slice_get changes a) ≡ true

pub passed_next : (f : Option RecordChange → Bool) (changes : List RecordChange) (first place : ℕ) → PassedTo f changes first place → f (slice_get changes place) ≡ true → PassedTo f changes first (place + 1)
passed_next f changes first place h e a low high = go (cases_lt a place)
  where
    go : (a < place) ⊎ (place ≤ a) → f (slice_get changes a) ≡ true
    go (inl under) = h a low under
    go (inr over) = let same : place ≡ a = omega (arith, over, high) in subst (λ (z : ℕ). f (slice_get changes z) ≡ true) same e

unless_both : (b : Bool) → b ≡ true → b ≡ false → ⊥
unless_both true e f = differ refl f
unless_both false e f = differ e refl

-- a change from so many lines on stands at the first place behind them or later
at_least : (changes : List RecordChange) (from first a : ℕ) (y : RecordChange) → IsPartitionPoint (λ x. nat_lt x.line from ≡ true) (λ x. nat_lt x.line from ≡ false) changes first
    → slice_get changes a ≡ Some y → from ≤ y.line → first ≤ a
at_least changes from first a y begins read low = go (cases_lt a first)
  where
    go : (a < first) ⊎ (first ≤ a) → first ≤ a
    go (inr h) = h
    go (inl h) =
        let below : nat_lt y.line from ≡ true = subst (λ (x : RecordChange). nat_lt x.line from ≡ true) (get_or_from_slice_get changes a y y read) (begins.0 a y (omega arith) h) in
        absurd (unless_both (nat_lt y.line from) below (grind (arith, nat_tests, low)))

at_most : (changes : List RecordChange) (to last a : ℕ) (y : RecordChange) → IsPartitionPoint (λ x. nat_lt x.line to ≡ true) (λ x. nat_lt x.line to ≡ false) changes last
    → a < length changes → slice_get changes a ≡ Some y → y.line < to → a < last
at_most changes to last a y ends within read high = go (cases_lt a last)
  where
    go : (a < last) ⊎ (last ≤ a) → a < last
    go (inl h) = h
    go (inr h) =
        let above : nat_lt y.line to ≡ false = subst (λ (x : RecordChange). nat_lt x.line to ≡ false) (get_or_from_slice_get changes a y y read) (ends.1 a y h within) in
        absurd (unless_both (nat_lt y.line to) (grind (arith, nat_tests, high)) above)

contained_at : (changes : List RecordChange) (y : RecordChange) (h : Contains changes y) → slice_get changes h.0 ≡ Some y
contained_at changes y h = slice_get_read changes (length changes) h.0 y refl h.1 (sym h.2)

-- all of them are covered
pub covered_all : (s : Judge) (n m of from to first last place : ℕ) (changes : List RecordChange) → IsPartitionPoint (λ x. nat_lt x.line from ≡ true) (λ x. nat_lt x.line from ≡ false) changes first
    → IsPartitionPoint (λ x. nat_lt x.line to ≡ true) (λ x. nat_lt x.line to ≡ false) changes last → last ≤ place → PassedTo (covers_change s n m of) changes first place → TellsChanges s n m of from to changes true
covered_all s n m of from to first last place changes begins ends done h y there low high =
    let at : slice_get changes there.0 ≡ Some y = contained_at changes y there in
    let under : there.0 < last = at_most changes to last there.0 y ends there.1 at high in
    ap (covers_change s n m of) (sym at) ∙ h there.0 (at_least changes from first there.0 y begins at low) (omega (arith, under, done))

-- at all of them the node holds no more than the fold
pub held_all : (s : Judge) (k : ClusterKey) (n from first last place : ℕ) (changes : List RecordChange) → IsPartitionPoint (λ x. nat_lt x.line from ≡ true) (λ x. nat_lt x.line from ≡ false) changes first
    → last ≡ length changes → last ≤ place → PassedTo (holds_change s k n) changes first place → TellsNoMore s k n from changes true
held_all s k n from first last place changes begins ends done h y there low =
    let at : slice_get changes there.0 ≡ Some y = contained_at changes y there in
    ap (holds_change s k n) (sym at) ∙ h there.0 (at_least changes from first there.0 y begins at low) (omega (arith, there.1, ends, done))

found_at : (f : Option RecordChange → Bool) (changes : List RecordChange) (place : ℕ) → f None ≡ true → f (slice_get changes place) ≡ false → (y : RecordChange) × Contains changes y × (f (Some y) ≡ false)
found_at f changes place none e = go (slice_get changes place) refl e
  where
    go : (o : Option RecordChange) → slice_get changes place ≡ o → f o ≡ false → (y : RecordChange) × Contains changes y × (f (Some y) ≡ false)
    go None q g = differ none g
    go (Some y) q g = (y, (place, slice_get_within changes place y q, get_or_from_slice_get changes place y y q), g)

-- some change isn't covered, or the node holds more
pub uncovered_at : (s : Judge) (n m of from to place : ℕ) (changes : List RecordChange) (b : Bool) → b ≡ covers_change s n m of (slice_get changes place) → b ≡ false → TellsChanges s n m of from to changes false
uncovered_at s n m of from to place changes b told e = found_at (covers_change s n m of) changes place refl (sym told ∙ e)

pub more_at : (s : Judge) (k : ClusterKey) (n from place : ℕ) (changes : List RecordChange) (b : Bool) → b ≡ holds_change s k n (slice_get changes place) → b ≡ false → TellsNoMore s k n from changes false
more_at s k n from place changes b told e = found_at (holds_change s k n) changes place refl (sym told ∙ e)

-- ---- the lesser and the greater

pub least_first : (a b : ℕ) → min a b ≤ max a b
least_first a b = omega arith

pub either_first : (a b : ℕ) → ((min a b ≡ a) × (max a b ≡ b)) ⊎ ((min a b ≡ b) × (max a b ≡ a))
either_first a b = go (cases_lt b a)
  where
    go : (b < a) ⊎ (a ≤ b) → ((min a b ≡ a) × (max a b ≡ b)) ⊎ ((min a b ≡ b) × (max a b ≡ a))
    go (inl h) = inr (omega (arith, h), omega (arith, h))
    go (inr h) = inl (omega (arith, h), omega (arith, h))
