-- What a `done` line makes of what is known, before the writes that it ends are counted out.
use Rattle.std.proofs.Common.{◌≡◌, ℕ, ◌==◌, ◌+◌, Bool, true, false, not, ◌&&◌, ◌||◌, cond, List, [], ◌∷◌, ◌++◌, Option, Some, None, refl, sym, ap, ap₂, subst, ◌∙◌, arith}
use Rattle.std.specs.Prelude.{is_some, take, nat_eq}
use Rattle.std.specs.HashMap as hash
use Rattle.std.specs.List.{list_any, count_by}
use Rattle.std.proofs.lemmas.Bool.{or_right}
use Rattle.std.proofs.lemmas.List.Folds.{list_any-append}
use Rattle.std.proofs.lemmas.List.Sums.{sum_by-cons}
use Rattle.cluster_types.specs.declared.cluster_key.ClusterKey.{ClusterKey}
use Rattle.cluster_types.specs.Partitions.{partition_of}
use Rattle.journal_lines.specs.declared.line.Line.{Line}
use Rattle.journal_lines.specs.declared.line.Line.TheVariants as line
use Rattle.journal_readings.specs.Lines.{same_key, has_node, is_settled_line, is_done_line}
use Rattle.journal_readings.specs.Settled.{is_settled, is_open_write}
use Rattle.journal_readings.specs.Shape.{Shape}
use Rattle.journal_readings.specs.Views.{view, master}
use Rattle.journal_readings.proofs.AlongLaws.{no_some, some_same}
use Rattle.journal_readings.proofs.Fronts.{same_key_is}
use Rattle.journal_readings.proofs.StepLaws.{view-more}
use Rattle.audit_laws.proofs.Quiet.{master-other, settled-other}
use Rattle.audit_laws.proofs.Steps.{shape_step}
use Rattle.audit_laws.proofs.Tests.{differ, number_same, number_here}
use Rattle.audit_core.specs.declared.judge.Judge.{Judge}
use Rattle.audit_core.specs.declared.verdict.Stop.{Stop}
use Rattle.audit_core.specs.Audits.{Comes, AcceptsLine, so_far}
use Rattle.audit_core.specs.Ending.{IsEnding, SeesEndedStand, ended_in}
use Rattle.audit_core.specs.Frames.{Both, KeepsFrame, SameStand}
use Rattle.audit_core.specs.Known.{node_at, kept_view}
use Rattle.audit_core.specs.Sees.{SeesFrame, SeesStand, SeesWrites, SeesStays, SeesTried, IsBound, IsTried, HasNoDoubts, IsSuspect, is_open_in}
use Rattle.audit_core.specs.Settling.{open_from}
use Rattle.audit_core.specs.Steps.{ChangesView}
use Rattle.audit_core.specs.Stored.{SeesStores, IsRecordOf}
use Rattle.audit_core.specs.Trying.{SeesLines, StopsParted}
use Rattle.audit_core.specs.Verdicts.{StopsRightly}
use Rattle.audit_core.proofs.FinishLaws.{CountsOut}
use Rattle.audit_core.proofs.OpenWriteLaws.{writes_same, writes_tried}
use Rattle.audit_core.proofs.PartedLaws.{joins_all, parted_stops}
use Rattle.audit_core.proofs.PassLaws.{frame_next, covers_later}
use Rattle.audit_core.proofs.StayLaws.{nodes_same, stays_same, stays_left, stays_tried}
use Rattle.audit_core.proofs.StillLaws.{IsSilent, stores_silent, joins_silent, count-more, count_same, any-more, opens_same}
use Rattle.audit_core.proofs.TryLaws.{keeps_itself, front_kept, covers_kept}
use Rattle.audit_core.proofs.VerdictLaws.{taken_next}
use Rattle.audit_core.proofs.WordLaws.{quiet_line, keeps_next, both_same, same_stand, same_entries}
use Rattle.audit_state.specs.declared.views.View.{View}
use Rattle.audit_state.specs.OpenWrites.{FinishesWrites, is_done_write, open_of}
use Rattle.audit_state.specs.Places.{placed}
use Rattle.audit_state.specs.Records.{record_number, record_digest}
use Rattle.audit_state.specs.Views.{SameEntries}
use Rattle.audit_state.specs.Written.{Stand, stand_of, written_of}

-- ---- the line

pub done_silent : (n t : ℕ) (k : ClusterKey) → IsSilent (line.Done n k t)
done_silent n t k = record {
  contents = λ by m d x. refl;
  copies = λ m q b. refl;
  applied = λ by d x. refl;
  writes = λ by l d x. refl;
  brings = λ d. refl;
  enters = λ l. refl;
  opens = λ l q m j. refl;
  views = λ m v l h. h;
}

-- whether it ends the writes of this transaction of the node in the view
abbrev ends_here : ℕ → ℕ → ClusterKey → ClusterKey → ℕ → ℕ → Bool
ends_here n t k l m u = (n == m) && (same_key k l && (t == u))

ended_more : (n t : ℕ) (k l : ClusterKey) (m u : ℕ) (j : List Line)
    → list_any (is_done_line l m u) (j ++ line.Done n k t ∷ [])
    ≡ (list_any (is_done_line l m u) j || ends_here n t k l m u)
ended_more n t k l m u j =
    list_any-append (is_done_line l m u) j (line.Done n k t ∷ [])
    ∙ ap (λ (b : Bool). list_any (is_done_line l m u) j || b) (alone (ends_here n t k l m u))
  where
    alone : (b : Bool) → (b || false) ≡ b
    alone true = refl
    alone false = refl

-- ---- counts

count_first : {X : Type 0} (f : X → Bool) (x : X) (xs : List X)
    → count_by f (x ∷ xs) ≡ cond (f x) 1 0 + count_by f xs
count_first {X} f x xs = sum_by-cons (λ (y : X). cond (f y) 1 0) x xs

-- what either test passes, and not both, is counted by both
count_split : (f g h : Line → Bool)
    → ((x : Line) → cond (f x) 1 0 ≡ cond (g x) 1 0 + cond (h x) 1 0) → (xs : List Line)
    → count_by f xs ≡ count_by g xs + count_by h xs
count_split f g h s [] = refl
count_split f g h s (x ∷ xs) =
    let a : count_by f (x ∷ xs) ≡ cond (f x) 1 0 + count_by f xs = count_first f x xs in
    let b : count_by g (x ∷ xs) ≡ cond (g x) 1 0 + count_by g xs = count_first g x xs in
    let c : count_by h (x ∷ xs) ≡ cond (h x) 1 0 + count_by h xs = count_first h x xs in
    let one : cond (f x) 1 0 ≡ cond (g x) 1 0 + cond (h x) 1 0 = s x in
    let rest : count_by f xs ≡ count_by g xs + count_by h xs = count_split f g h s xs in
    sums (count_by f (x ∷ xs)) (count_by g (x ∷ xs)) (count_by h (x ∷ xs)) (count_by f xs)
    (count_by g xs) (count_by h xs) (cond (f x) 1 0) (cond (g x) 1 0)
    (cond (h x) 1 0) a b c one rest
  where
    sums : (a b c p q r u v w : ℕ) → a ≡ u + p → b ≡ v + q → c ≡ w + r → u ≡ v + w → p ≡ q + r
        → a ≡ b + c
    sums a b c p q r u v w e f g h i = omega (arith, e, f, g, h, i)

count_none : {X : Type 0} (f : X → Bool) → ((x : X) → f x ≡ false) → (xs : List X)
    → count_by f xs ≡ 0
count_none {X} f h [] = refl
count_none {X} f h (x ∷ xs) =
    count_first f x xs
    ∙ (ap (λ (b : Bool). cond b 1 0 + count_by f xs) (h x)
    ∙ ap (λ (c : ℕ). 0 + c) (count_none f h xs))

-- a partition that isn't listed isn't counted
count_unlisted : (p : ℕ) (ps : List ℕ) → has_node ps p ≡ false → count_by (λ (q : ℕ). q == p) ps ≡ 0
count_unlisted p [] e = refl
count_unlisted p (q ∷ ps) e =
    count_first (λ (m : ℕ). m == p) q ps ∙ go (q == p) e (count_unlisted p ps)
  where
    go : (b : Bool) → (b || has_node ps p) ≡ false
        → (has_node ps p ≡ false → count_by (λ (m : ℕ). m == p) ps ≡ 0)
        → cond b 1 0 + count_by (λ (m : ℕ). m == p) ps ≡ 0
    go true f rest = differ refl f
    go false f rest = ap (λ (c : ℕ). 0 + c) (rest f)

flipped : (t u : ℕ) → (t == u) ≡ (u == t)
flipped t u = go (t == u) refl
  where
    back : (b : Bool) → (u == t) ≡ b → (t == u) ≡ false → b ≡ false
    back true e f =
        differ (subst (λ (z : ℕ). (z == u) ≡ true) (number_same u t e) (number_here u)) f
    back false e f = refl

    go : (b : Bool) → (t == u) ≡ b → (t == u) ≡ (u == t)
    go true e = subst (λ (z : ℕ). (t == z) ≡ (z == t)) (number_same t u e) refl
    go false e = e ∙ sym (back (u == t) refl e)

-- a write that was open is so still, or is one that the line ends
either_open : (a b c d e : Bool)
    → cond (a && (b && (c && not d))) 1 0
    ≡ cond (a && (b && (c && not (d || e)))) 1 0 + cond (e && (a && (b && (c && not d)))) 1 0
either_open false b c d true = refl
either_open false b c d false = refl
either_open true false c d true = refl
either_open true false c d false = refl
either_open true true false d true = refl
either_open true true false d false = refl
either_open true true true true true = refl
either_open true true true true false = refl
either_open true true true false true = refl
either_open true true true false false = refl

split_line : (n t : ℕ) (k l : ClusterKey) (p m : ℕ) (j : List Line) → (n == m) ≡ true
    → same_key k l ≡ true → (x : Line)
    → cond (is_open_write l p m j x) 1 0
    ≡ cond (is_open_write l p m (j ++ line.Done n k t ∷ []) x) 1 0
    + cond (is_open_in l p m t j x) 1 0
split_line n t k l p m j here key (line.Apply i o u d v) =
    either_open (i == m) (same_key o l) (partition_of d == p) (list_any (is_done_line l m u) j)
    (u == t)
    ∙ ap (λ (b : Bool). cond ((i == m) && (same_key o l && ((partition_of d == p) && not b))) 1 0
    + cond ((u == t)
    && ((i == m)
    && (same_key o l && ((partition_of d == p) && not (list_any (is_done_line l m u) j))))) 1 0)
    (sym ended)
  where
    both : (a b c : Bool) → a ≡ true → b ≡ true → (a && (b && c)) ≡ c
    both true true c e f = refl
    both true false c e f = differ f refl
    both false b c e f = differ e refl

    ended : list_any (is_done_line l m u) (j ++ line.Done n k t ∷ [])
        ≡ (list_any (is_done_line l m u) j || (u == t))
    ended = ended_more n t k l m u j
        ∙ ap (λ (b : Bool). list_any (is_done_line l m u) j || b)
        (both (n == m) (same_key k l) (t == u) here key ∙ flipped t u)
split_line n t k l p m j here key x = refl

module _ (s : Judge) (j : List Line) (n t : ℕ) (k : ClusterKey) (h : SeesWrites s j) where
  abbrev after : List Line
  after = j ++ line.Done n k t ∷ []

  none_added : (a : ℕ) → a + 0 ≡ a
  none_added a = omega arith

  same_count : (l : ClusterKey) (p : ℕ)
      → count_by (is_open_write l p (master l p after) after) after
      ≡ count_by (is_open_write l p (master l p j) after) j
  same_count l p =
      ap (λ (m : ℕ). count_by (is_open_write l p m after) after)
      (master-other l p j (line.Done n k t) refl)
      ∙ (count-more (is_open_write l p (master l p j) after) j (line.Done n k t)
      ∙ none_added (count_by (is_open_write l p (master l p j) after) j))

  -- of those that were open as many are open still as aren't among those that the line ends
  ended_counts : (l : ClusterKey) (p : ℕ) (x : View) → kept_view s l ≡ Some x
      → count_by (is_open_write l p (master l p j) j) j
      ≡ count_by (is_open_write l p (master l p j) after) j
      + ended_in k (open_from (kept_view s k) n t) l p
  ended_counts l p x there = go (same_key k l) (n == master l p j) refl refl
    where
      none_ended : (a b c : Bool) → (a && b) ≡ false → (b && (a && c)) ≡ false
      none_ended true true c e = differ refl e
      none_ended true false c e = refl
      none_ended false true c e = refl
      none_ended false false c e = refl

      unended : (same_key k l && (n == master l p j)) ≡ false
          → count_by (is_open_write l p (master l p j) j) j
          ≡ count_by (is_open_write l p (master l p j) (j ++ line.Done n k t ∷ [])) j
      unended e =
          sym (count_same _ _
          (opens_same l p (master l p j) j (line.Done n k t)
          (λ u. none_ended (same_key k l) (n == master l p j) (t == u) e)) j 0)

      go : (a b : Bool) → same_key k l ≡ a → (n == master l p j) ≡ b
          → count_by (is_open_write l p (master l p j) j) j
          ≡ count_by (is_open_write l p (master l p j) (j ++ line.Done n k t ∷ [])) j
          + cond a (count_by (λ (q : ℕ). q == p) (open_from (kept_view s k) n t)) 0
      go false b e f = unended (ap (λ (c : Bool). c && (n == master l p j)) e) ∙ sym (none_added _)
      go true false e f =
          unended (ap₂ (λ (a b : Bool). a && b) e f)
          ∙ (sym (none_added _)
          ∙ ap (λ (c : ℕ). count_by
          (is_open_write l p (master l p j) (j ++ line.Done n k t ∷ [])) j + c)
          (sym (count_unlisted p (open_from (kept_view s k) n t)
          (unlisted (has_node (open_from (kept_view s k) n t) p) refl))))
        where
          unlisted : (b : Bool) → has_node (open_from (kept_view s k) n t) p ≡ b
              → has_node (open_from (kept_view s k) n t) p ≡ false
          unlisted false q = q
          unlisted true q =
              let listed : has_node (open_of x n t) p ≡ true =
              sym (ap (λ (o : Option View). has_node (open_from o n t) p)
              (ap (kept_view s) (same_key_is k l e) ∙ there)) ∙ q in
              differ (subst (λ (m : ℕ). (n == m) ≡ true) (sym (h.by_master l x n t p there listed))
              (number_here n)) f
      go true true e f =
          count_split (is_open_write l p (master l p j) j)
          (is_open_write l p (master l p j) (j ++ line.Done n k t ∷ []))
          (is_open_in l p (master l p j) t j) (split_line n t k l p (master l p j) j f e) j
          ∙ ap (λ (c : ℕ). count_by (is_open_write l p (master l p j) (j ++ line.Done n k t ∷ [])) j
          + c)
          (sym (h.open_writes l x (master l p j) t p there refl)
          ∙ ap (count_by (λ (q : ℕ). q == p))
          (ap (λ (m : ℕ). open_of x m t) (sym (number_same n (master l p j) f))
          ∙ sym (ap (λ (o : Option View). open_from o n t)
          (ap (kept_view s) (same_key_is k l e) ∙ there))))

  pub stand_ended : (l : ClusterKey) (p : ℕ) (x : View) → kept_view s l ≡ Some x
      → SeesStand j l p (stand_of x p)
      → SeesEndedStand (j ++ line.Done n k t ∷ []) l p
      (ended_in k (open_from (kept_view s k) n t) l p) (stand_of x p)
  stand_ended l p x there stand = record {
    settled =
        stand.settled
        ∙ sym (ap (λ (m : ℕ). list_any (is_settled_line l m p) after)
        (master-other l p j (line.Done n k t) refl)
        ∙ any-more (is_settled_line l (master l p j) p) j (line.Done n k t) refl);
    open_writes =
        stand.open_writes
        ∙ (ended_counts l p x there
        ∙ ap (λ (c : ℕ). c + ended_in k (open_from (kept_view s k) n t) l p)
        (sym (same_count l p)));
  }

  -- ---- the transaction's writes

  -- of the transaction none is open behind the line
  none_still : (l : ClusterKey) (p m u : ℕ) → ends_here n t k l m u ≡ true → (x : Line)
      → is_open_in l p m u after x ≡ false
  none_still l p m u ends (line.Apply i o w d v) = go (w == u) refl
    where
      shut : (a b c : Bool) → (a && (b && (c && not true))) ≡ false
      shut false b c = refl
      shut true false c = refl
      shut true true false = refl
      shut true true true = refl

      done : w ≡ u → list_any (is_done_line l m w) (j ++ line.Done n k t ∷ []) ≡ true
      done same =
          ap (λ (z : ℕ). list_any (is_done_line l m z) (j ++ line.Done n k t ∷ [])) same
          ∙ (ended_more n t k l m u j
          ∙ or_right (list_any (is_done_line l m u) j) (ends_here n t k l m u) ends)

      go : (b : Bool) → (w == u) ≡ b
          → (b && ((i == m)
          && (same_key o l
          && ((partition_of d == p)
          && not (list_any (is_done_line l m w) (j ++ line.Done n k t ∷ [])))))) ≡ false
      go false e = refl
      go true e =
          ap (λ (b : Bool). (i == m) && (same_key o l && ((partition_of d == p) && not b)))
          (done (number_same w u e)) ∙ shut (i == m) (same_key o l) (partition_of d == p)
  none_still l p m u ends x = refl

  -- of any other the same are
  same_still : (l : ClusterKey) (p m u : ℕ) → ends_here n t k l m u ≡ false → (x : Line)
      → is_open_in l p m u after x ≡ is_open_in l p m u j x
  same_still l p m u ends (line.Apply i o w d v) = go (w == u) refl
    where
      plain : (b : Bool) → (b || false) ≡ b
      plain true = refl
      plain false = refl

      done : w ≡ u
          → list_any (is_done_line l m w) (j ++ line.Done n k t ∷ [])
          ≡ list_any (is_done_line l m w) j
      done same =
          ended_more n t k l m w j
          ∙ (ap (λ (b : Bool). list_any (is_done_line l m w) j || b)
          (ap (ends_here n t k l m) same ∙ ends) ∙ plain (list_any (is_done_line l m w) j))

      go : (b : Bool) → (w == u) ≡ b
          → (b && ((i == m)
          && (same_key o l
          && ((partition_of d == p)
          && not (list_any (is_done_line l m w) (j ++ line.Done n k t ∷ []))))))
          ≡ (b && ((i == m)
          && (same_key o l && ((partition_of d == p) && not (list_any (is_done_line l m w) j)))))
      go false e = refl
      go true e =
          ap (λ (b : Bool). (i == m) && (same_key o l && ((partition_of d == p) && not b)))
          (done (number_same w u e))
  same_still l p m u ends x = refl

  open_ended : (l : ClusterKey) (p m u : ℕ) (x : View) → kept_view s l ≡ Some x
      → master l p after ≡ m
      → count_by (λ (q : ℕ). q == p) (cond (ends_here n t k l m u) [] (open_of x m u))
      ≡ count_by (is_open_in l p m u after) after
  open_ended l p m u x there is = go (ends_here n t k l m u) refl
      ∙ sym (count-more (is_open_in l p m u after) j (line.Done n k t)
      ∙ none_added (count_by (is_open_in l p m u after) j))
    where
      go : (b : Bool) → ends_here n t k l m u ≡ b
          → count_by (λ (q : ℕ). q == p) (cond b [] (open_of x m u))
          ≡ count_by (is_open_in l p m u (j ++ line.Done n k t ∷ [])) j
      go true e =
          sym (count_none (is_open_in l p m u (j ++ line.Done n k t ∷ [])) (none_still l p m u e) j)
      go false e =
          h.open_writes l x m u p there (sym (master-other l p j (line.Done n k t) refl) ∙ is)
          ∙ sym (count_same _ _ (same_still l p m u e) j 0)

-- ---- what is known behind the line

-- a view that is known was known, and but for its writes it is as it was
record WasKnown (old : Judge) (n t : ℕ) (k l : ClusterKey) (y : View) : Type 0 where
  pub was : View
  pub there : kept_view old l ≡ Some was
  pub rest : record y { writes = was.writes } ≡ was
  pub partitions : (m u : ℕ) → open_of y m u ≡ cond (ends_here n t k l m u) [] (open_of was m u)
  pub done : (m u : ℕ)
      → is_done_write y m u ≡ cond (ends_here n t k l m u) true (is_done_write was m u)

module _ (old closed : Judge) (i n t : ℕ) (k : ClusterKey) (c : Comes old i (line.Done n k t))
    (x : ChangesView (FinishesWrites n t) k old closed) where
  lines_same : closed.lines.now ≡ old.lines.now
  lines_same = ap (λ (s : Judge). s.lines.now) x.rest

  pub closed_front : so_far closed (i + 1) ≡ so_far old i ++ line.Done n k t ∷ []
  closed_front =
      ap (take (i + 1)) lines_same ∙ taken_next old.lines.now i (line.Done n k t) c.stands

  was_view : (o q : Option View) (y : View) → Both (FinishesWrites n t) o q → q ≡ Some y
      → (z : View) × (o ≡ Some z) × FinishesWrites n t z y
  was_view None None y r e = absurd (no_some e)
  was_view (Some a) (Some z) y r e = (a, refl, subst (FinishesWrites n t a) (some_same e) r)
  was_view None (Some z) y r e = absurd r
  was_view (Some a) None y r e = absurd r

  was_known : (l : ClusterKey) (y : View) → kept_view closed l ≡ Some y → WasKnown old n t k l y
  was_known l y e = go (same_key k l) refl
    where
      here : (b a c : Bool) → b ≡ true → (a && c) ≡ (a && (b && c))
      here true a c f = refl
      here false a c f = differ f refl

      none : (a b c : Bool) → b ≡ false → (a && (b && c)) ≡ false
      none true b c f = ap (λ (z : Bool). z && c) f
      none false b c f = refl

      go : (b : Bool) → same_key k l ≡ b → WasKnown old n t k l y
      go true f =
          let z : (z : View) × (kept_view old k ≡ Some z) × FinishesWrites n t z y =
          was_view (kept_view old k) (kept_view closed k) y x.here
          (ap (λ (m : ClusterKey). kept_view closed m) (same_key_is k l f) ∙ e) in
          record {
            was = z.0;
            there = ap (λ (m : ClusterKey). kept_view old m) (sym (same_key_is k l f)) ∙ z.1;
            rest = z.2.rest;
            partitions =
                λ m u. z.2.partitions m u
                ∙ ap (λ (b : Bool). cond b [] (open_of z.0 m u))
                (here (same_key k l) (n == m) (t == u) f);
            done = λ m u. z.2.done m u
                ∙ ap (λ (b : Bool). cond b true (is_done_write z.0 m u))
                (here (same_key k l) (n == m) (t == u) f);
          }
      go false f = record {
        was = y;
        there = sym (x.others l f) ∙ e;
        rest = refl;
        partitions =
            λ m u. sym
            (ap (λ (b : Bool). cond b [] (open_of y m u))
            (none (n == m) (same_key k l) (t == u) f));
        done = λ m u. sym
            (ap (λ (b : Bool). cond b true (is_done_write y m u))
            (none (n == m) (same_key k l) (t == u) f));
      }

  same_stands : (l : ClusterKey) (y : View) (w : WasKnown old n t k l y) (q : ℕ)
      → stand_of y q ≡ stand_of w.was q
  same_stands l y w q = ap (λ (v : View). stand_of v q) w.rest

  -- ---- the lines

  frame_kept : KeepsFrame old closed
  frame_kept = record {
    lines = ap (λ (s : Judge). s.lines) x.rest;
    policy = ap (λ (s : Judge). s.by) x.rest;
    factor = ap (λ (s : Judge). s.factor) x.rest;
    begun = ap (λ (s : Judge). s.begun) x.rest;
    nodes = λ m. subst (λ (o : _). Both SameStand (node_at old m) o)
        (sym (ap (λ (s : Judge). node_at s m) x.rest)) (same_stand (node_at old m));
    views = λ l. view_kept l (same_key k l) refl;
    stamps = ap (λ (s : Judge). s.stamps) x.rest;
  }
    where
      entries : (o q : Option View) → Both (FinishesWrites n t) o q → Both SameEntries o q
      entries None None h = tt
      entries (Some a) (Some z) h = record {
        key = ap (λ (v : View). v.key) h.rest;
        members = ap (λ (v : View). v.members) h.rest;
        ranks = ap (λ (v : View). v.ranks) h.rest;
        entered = ap (λ (v : View). v.entered.items) h.rest;
        exchanged = ap (λ (v : View). v.exchanged.items) h.rest;
      }
      entries None (Some z) h = absurd h
      entries (Some a) None h = absurd h

      view_kept : (l : ClusterKey) (b : Bool) → same_key k l ≡ b
          → Both SameEntries (kept_view old l) (kept_view closed l)
      view_kept l true e =
          subst (λ (z : ClusterKey). Both SameEntries (kept_view old z) (kept_view closed z))
          (same_key_is k l e) (entries (kept_view old k) (kept_view closed k) x.here)
      view_kept l false e =
          both_same SameEntries (λ y. same_entries (Some y)) (kept_view old l) (kept_view closed l)
          (x.others l e)

  stores_closed : SeesStores closed (i + 1) old.lines.now (take (i + 1) old.lines.now)
  stores_closed =
      let h : SeesStores old (i + 1) old.lines.now (take (i + 1) old.lines.now) =
      stores_silent old i old.lines.now (line.Done n k t) c.stands
      (done_silent n t k) refl c.audits.state.stores in
      let moved : SeesStores (record closed { views = old.views }) (i + 1) old.lines.now
      (take (i + 1) old.lines.now) =
      subst (λ (s : Judge). SeesStores s (i + 1) old.lines.now (take (i + 1) old.lines.now))
      (sym x.rest) h in
      record {
        records =
            record {
              numbered = moved.records.numbered;
              unbrought =
                  moved.records.unbrought;
              newest = moved.records.newest;
              holders =
                  moved.records.holders;
            };
        contents = moved.contents;
        copies = moved.copies;
        written = record {
          applied = λ l y r e. let w : WasKnown old n t k l y = was_known l y e in
              ap (λ (v : View). placed old.lines.now (hash.get nat_eq v.applied r)) w.rest
              ∙ moved.written.applied l w.was r w.there;
          written = λ l y r e. let w : WasKnown old n t k l y = was_known l y e in
              ap (λ (v : View). has_node v.written.items r) w.rest
              ∙ (moved.written.written l w.was r w.there
              ∙ sym (ap (λ (v : View). is_some (hash.get nat_eq v.applied r)) w.rest));
          listed = λ l y r e some. let w : WasKnown old n t k l y = was_known l y e in
              let u : (u : ℕ) × IsRecordOf closed.records r u
              × (has_node (written_of w.was u) r ≡ true) =
              moved.written.listed l w.was r w.there
              (sym (ap (λ (v : View). is_some (hash.get nat_eq v.applied r)) w.rest) ∙ some) in
              (u.0, u.1, ap (λ (v : View). has_node (written_of v u.0) r) w.rest ∙ u.2);
          listed_only = λ l y q r e has. let w : WasKnown old n t k l y = was_known l y e in
              moved.written.listed_only l w.was q r w.there
              (sym (ap (λ (v : View). has_node (written_of v q) r) w.rest) ∙ has);
        };
      }

  pub lines_closed : SeesLines closed (i + 1)
  lines_closed = record {
    shape = subst Shape (sym closed_front)
        ((shape_step (so_far old i) (line.Done n k t)).1 (c.audits.lawful.shape, c.shape));
    frame = subst (λ (ls : List Line). SeesFrame closed (take (i + 1) ls)) (sym lines_same)
        (frame_next old closed i (line.Done n k t) c
        (keeps_next i (line.Done n k t) old closed (quiet_line (line.Done n k t) refl) frame_kept));
    stores = subst (λ (ls : List Line). SeesStores closed (i + 1) ls (take (i + 1) ls))
        (sym lines_same) stores_closed;
  }

  -- ---- the writes, and the records of a stay

  pub writes_closed : SeesWrites closed (so_far closed (i + 1))
  writes_closed = subst (SeesWrites closed) (sym closed_front) (record {
    done = λ l y m u e. let w : WasKnown old n t k l y = was_known l y e in
        w.done m u ∙ (either (ends_here n t k l m u) (is_done_write w.was m u)
        ∙ (ap (λ (b : Bool). b || ends_here n t k l m u) (writes.done l w.was m u w.there)
        ∙ sym (ended_more n t k l m u (so_far old i))));
    open_writes = λ l y m u q e is. let w : WasKnown old n t k l y = was_known l y e in
        ap (count_by (λ (z : ℕ). z == q)) (w.partitions m u)
        ∙ open_ended old (so_far old i) n t k writes l q m u w.was w.there is;
    by_master = λ l y m u q e has. let w : WasKnown old n t k l y = was_known l y e in
        master-other l q (so_far old i) (line.Done n k t) refl
        ∙ writes.by_master l w.was m u q w.there
        (listed (ends_here n t k l m u) (open_of w.was m u) q
        (sym (ap (λ (qs : List ℕ). has_node qs q) (w.partitions m u)) ∙ has));
  })
    where
      writes : SeesWrites old (so_far old i)
      writes = c.audits.state.writes

      either : (a b : Bool) → cond a true b ≡ (b || a)
      either true true = refl
      either true false = refl
      either false true = refl
      either false false = refl

      listed : (b : Bool) (qs : List ℕ) (q : ℕ) → has_node (cond b [] qs) q ≡ true
          → has_node qs q ≡ true
      listed true qs q e = differ e refl
      listed false qs q e = e

  pub stays_closed : SeesStays closed (so_far closed (i + 1))
  stays_closed =
      subst (SeesStays closed) (sym closed_front)
      (stays_same old closed (so_far old i ++ line.Done n k t ∷ [])
      (nodes_same old closed (λ m. ap (λ (s : Judge). node_at s m) x.rest)
      (λ r. ap (λ (s : Judge). record_digest s.records r) x.rest))
      (stays_left old (so_far old i) (line.Done n k t) refl (λ l. refl)
      (λ by m e y. refl) c.audits.state.stays))

  -- ---- the partitions

  settled_before : (l : ClusterKey) (q : ℕ)
      → is_settled l q (so_far old i ++ line.Done n k t ∷ []) ≡ is_settled l q (so_far old i)
  settled_before l q = settled-other l q (so_far old i) (line.Done n k t) refl refl refl

  bound_before : (l : ClusterKey) (q : ℕ) → IsBound l q (so_far old i ++ line.Done n k t ∷ [])
      → IsBound l q (so_far old i)
  bound_before l q h = record {
    settled = sym (settled_before l q) ∙ h.settled;
    remains = sym (view-more (master l q (so_far old i)) (so_far old i) (line.Done n k t))
        ∙ (ap (λ (m : ℕ). view m (so_far old i ++ line.Done n k t ∷ []))
        (sym (master-other l q (so_far old i) (line.Done n k t) refl)) ∙ h.remains);
  }

  pub ending_closed : (ended : List ℕ) → ended ≡ open_from (kept_view old k) n t
      → IsEnding closed (i + 1) k ended
  ending_closed ended is = subst (IsEnding closed (i + 1) k) (sym is) (record {
    stands = λ l q y e. let w : WasKnown old n t k l y = was_known l y e in
        subst (λ (z : Stand). SeesEndedStand (so_far closed (i + 1)) l q
        (ended_in k (open_from (kept_view old k) n t) l q) z) (sym (same_stands l y w q))
        (subst (λ (ls : List Line). SeesEndedStand ls l q
        (ended_in k (open_from (kept_view old k) n t) l q) (stand_of w.was q)) (sym closed_front)
        (stand_ended old (so_far old i) n t k c.audits.state.writes l q w.was w.there
        (tried_old.stands l q w.was w.there)));
    listed = λ l q y e. let w : WasKnown old n t k l y = was_known l y e in
        ap (λ (v : View). has_node v.settled.items q) w.rest
        ∙ (tried_old.listed l q w.was w.there
        ∙ sym (ap (λ (z : Stand). z.settled) (same_stands l y w q)));
    unsettled = λ l q y e none. let w : WasKnown old n t k l y = was_known l y e in
        subst HasNoDoubts (sym (same_stands l y w q))
        (tried_old.unsettled l q w.was w.there
        (sym (settled_before l q) ∙ (sym (ap (is_settled l q) closed_front) ∙ none)));
    tried = λ l q y e bound. let w : WasKnown old n t k l y = was_known l y e in
        subst (λ (z : Stand). IsTried closed (so_far closed (i + 1)) l q z)
        (sym (same_stands l y w q))
        (subst (λ (ls : List Line). IsTried closed ls l q (stand_of w.was q)) (sym closed_front)
        (still l q (stand_of w.was q)
        (tried_old.tried l q w.was w.there
        (bound_before l q (subst (IsBound l q) closed_front bound)))));
    covers = covers_kept old closed (i + 1) x.rest (covers_later old i c.audits.state.covers);
    known = λ q has. both_there (kept_view old k) (kept_view closed k) x.here
        ∙ some_open (kept_view old k) q has;
  })
    where
      tried_old : SeesTried old (so_far old i)
      tried_old = c.audits.state.tried

      suspected : (z : Stand) (d : List ℕ) → IsSuspect old z d → IsSuspect closed z d
      suspected z d q = (q.0, ap (λ (s : Judge). record_number s.records d) x.rest ∙ q.1, q.2)

      still : (l : ClusterKey) (q : ℕ) (z : Stand) → IsTried old (so_far old i) l q z
          → IsTried closed (so_far old i ++ line.Done n k t ∷ []) l q z
      still l q z h = record {
        closed = h.closed;
        joined = λ untried d part clear. joins_silent (so_far old i) (line.Done n k t) l d
            (done_silent n t k) refl (h.joined untried d part (λ w. clear (suspected z d w)));
      }

      both_there : (o q : Option View) → Both (FinishesWrites n t) o q → is_some q ≡ is_some o
      both_there None None h = refl
      both_there (Some a) (Some b) h = refl
      both_there None (Some b) h = absurd h
      both_there (Some a) None h = absurd h

      some_open : (o : Option View) (q : ℕ) → has_node (open_from o n t) q ≡ true → is_some o ≡ true
      some_open None q e = differ e refl
      some_open (Some v) q e = refl

-- ---- all of its writes are counted out

all_ended : (s : Judge) (i : ℕ) (k : ClusterKey) → IsEnding s i k [] → SeesTried s (so_far s i)
all_ended s i k e = record {
  stands = λ l p x there. record {
    settled = (e.stands l p x there).settled;
    open_writes =
        (e.stands l p x there).open_writes
        ∙ (ap (λ (c : ℕ). count_by (is_open_write l p (master l p (so_far s i)) (so_far s i))
        (so_far s i) + c) (none (same_key k l))
        ∙ plain (count_by (is_open_write l p (master l p (so_far s i)) (so_far s i)) (so_far s i)));
  };
  listed = e.listed;
  unsettled = e.unsettled;
  tried = e.tried;
}
  where
    none : (b : Bool) → cond {A = ℕ} b 0 0 ≡ 0
    none true = refl
    none false = refl

    plain : (a : ℕ) → a + 0 ≡ a
    plain a = omega arith

pub finish_first : (old closed : Judge) (i n t : ℕ) (k : ClusterKey) (ended : List ℕ)
    → Comes old i (line.Done n k t) → ChangesView (FinishesWrites n t) k old closed
    → ended ≡ open_from (kept_view old k) n t → CountsOut (i + 1) k ended closed closed
finish_first old closed i n t k ended c x is =
    record {
      lines = lines_closed old closed i n t k c x;
      ending =
          ending_closed old closed i n t k c x ended is;
      keeps = keeps_itself closed;
    }

pub finish_takes : (old closed after : Judge) (i n t : ℕ) (k : ClusterKey)
    → Comes old i (line.Done n k t) → ChangesView (FinishesWrites n t) k old closed
    → CountsOut (i + 1) k [] closed after → AcceptsLine old after i (line.Done n k t)
finish_takes old closed after i n t k c x g =
    let tried : SeesTried after (so_far after (i + 1)) = all_ended after (i + 1) k g.ending in
    let same : so_far after (i + 1) ≡ so_far closed (i + 1) =
    front_kept closed after (i + 1) g.keeps in
    let moved : closed.lines.now ≡ old.lines.now = ap (λ (s : Judge). s.lines.now) x.rest in
    let lines : after.lines.now ≡ old.lines.now =
    ap (λ (s : Judge). s.lines.now) g.keeps.rest ∙ moved in
    record {
      lines = lines;
      fits = record {
        shape = c.shape;
        map = tt;
        losses = tt;
        replicas =
            joins_all after (i + 1) (so_far old i) (line.Done n k t)
            (same ∙ closed_front old closed i n t k c x) g.lines tried;
        joins = tt;
      };
      sees = record {
        lines = lines;
        frame = subst (λ (ls : List Line). SeesFrame after (take (i + 1) ls)) lines g.lines.frame;
        stores = subst
            (λ (ls : List Line). SeesStores after (i + 1) ls (take (i + 1) ls)) lines
            g.lines.stores;
        tried = subst (λ (ls : List Line). SeesTried after (take (i + 1) ls)) lines tried;
        covers = g.ending.covers;
        writes = subst (λ (ls : List Line). SeesWrites after (take (i + 1) ls)) moved
            (writes_same closed after (so_far closed (i + 1)) (writes_tried closed after g.keeps)
            (writes_closed old closed i n t k c x));
        stays = subst (λ (ls : List Line). SeesStays after (take (i + 1) ls)) moved
            (stays_same closed after (so_far closed (i + 1)) (stays_tried closed after g.keeps)
            (stays_closed old closed i n t k c x));
      };
    }

pub finish_stops : (old closed : Judge) (i n t : ℕ) (k : ClusterKey) (y : Stop)
    → Comes old i (line.Done n k t) → ChangesView (FinishesWrites n t) k old closed
    → StopsParted y (so_far closed (i + 1)) → StopsRightly y (so_far old i) (line.Done n k t)
finish_stops old closed i n t k y c x parted =
    parted_stops (so_far old i) (so_far closed (i + 1)) (line.Done n k t) y
    (closed_front old closed i n t k c x) c.audits.lawful.shape c.audits.lawful.settled_join
    c.shape tt tt parted
