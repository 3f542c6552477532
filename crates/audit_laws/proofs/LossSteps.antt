-- No version is lost, as one line more comes.
use Rattle.std.proofs.Common.{◌≡◌, ℕ, ◌==◌, Bool, true, false, not, ◌&&◌, ◌||◌, cond, List, [], ◌∷◌, ◌++◌, Option, Some, None, ◌⊎◌, inl, inr, refl, sym, ap, ap₂, subst, subst₂, ◌∙◌}
use Rattle.std.specs.Prelude.{take, map, filter, IsTrue, bytes_eq}
use Rattle.std.proofs.lemmas.Bool.{cases_Bool, or_parts}
use Rattle.conflict_order.specs.declared.policy.Policy.{Policy}
use Rattle.conflict_order.specs.declared.version.Version.{Version}
use Rattle.conflict_order.specs.Join.{join, AtMost}
use Rattle.conflict_order.proofs.JoinLaws.{join_right, join_of_AtMost, join_assoc, join_comm, none_join}
use Rattle.cluster_types.specs.Partitions.{partition_of}
use Rattle.journal_lines.specs.declared.line.Line.{Line}
use Rattle.journal_lines.specs.declared.line.Line.TheVariants as line
use Rattle.journal_readings.specs.Lines.{has_node}
use Rattle.journal_readings.specs.Settings.{policy_of, nodes}
use Rattle.journal_readings.specs.Contents.{content, applied, join_all, joined_if}
use Rattle.journal_readings.specs.Claims.{NoLoss}
use Rattle.journal_readings.specs.Shape.{Shape, is_header, named_nodes, names_declared}
use Rattle.journal_readings.proofs.CopyLaws.{same_digest_is, same_digest_itself}
use Rattle.journal_readings.proofs.StepLaws.{content-more, applied-more}
use Rattle.journal_readings.proofs.Unwritten.{content-none, applied-none, join_all-none}
use Rattle.journal_readings.proofs.Fronts.{and_left}
use Rattle.audit_laws.specs.Fits.{LosesNothing}
use Rattle.audit_laws.proofs.Tests.{differ, number_same, number_here}
use Rattle.audit_laws.proofs.Places.{front_cases, front_of_more, whole, last_line}
use Rattle.audit_laws.proofs.Headers.{policy_stays, nodes_stay, IsBare, bare-more, bare_front, bare-unwritten}
use Rattle.audit_laws.proofs.ReadSteps.{follows}

-- the newest version in any store after these lines is the newest that was applied
abbrev IsKept : Policy → List ℕ → List Line → List ℕ → Type 0
IsKept by ns ls d = join_all by (map (λ n. content by n d ls) ns) ≡ applied by d ls

-- nothing is held within a header
bare_kept : (by : Policy) (ns : List ℕ) (ls : List Line) → IsBare ls → (d : List ℕ) → IsKept by ns ls d
bare_kept by ns ls h d = join_all-none by (λ (n : ℕ). content by n d ls) ns (λ n. content-none by n d ls (bare-unwritten d ls h)) ∙ sym (applied-none by d ls (bare-unwritten d ls h))

pub bare_lossless : (j : List Line) → IsBare j → NoLoss j
bare_lossless j h = record { none_lost = λ i d. bare_kept (policy_of j) (nodes j) (take i j) (bare_front i j h) d }

header_loses_nothing : (j : List Line) (l : Line) → is_header l ≡ true → LosesNothing j l
header_loses_nothing j (line.Merge n k d v) h = differ h refl
header_loses_nothing j (line.Drop n k p) h = differ h refl
header_loses_nothing j l h = tt

-- ---- joins

turned : (m o : ℕ) → (o == m) ≡ false → (m == o) ≡ false
turned m o e = go (m == o) refl
  where
    go : (b : Bool) → (m == o) ≡ b → b ≡ false
    go true i = differ (ap (λ (z : ℕ). z == m) (sym (number_same m o i)) ∙ number_here m) e
    go false i = refl

-- a function with one version more at a node that is none of them
unjoined : (by : Policy) (f : ℕ → Option Version) (m : ℕ) (v : Version) (ns : List ℕ) → has_node ns m ≡ false
    → join_all by (map (λ n. joined_if (m == n) by (f n) v) ns) ≡ join_all by (map f ns)
unjoined by f m v [] e = refl
unjoined by f m v (n ∷ ns) e = ap₂ (join by) (ap (λ (b : Bool). joined_if b by (f n) v) (turned m n (or_parts (n == m) _ e).0)) (unjoined by f m v ns (or_parts (n == m) _ e).1)

alone : (a b : Bool) → b ≡ false → (a || b) ≡ true → a ≡ true
alone true b x y = refl
alone false b x y = differ y x

-- and at one that is one of them
joined_at : (by : Policy) (f : ℕ → Option Version) (m : ℕ) (v : Version) (ns : List ℕ) → has_node ns m ≡ true
    → join_all by (map (λ n. joined_if (m == n) by (f n) v) ns) ≡ join by (join_all by (map f ns)) (Some v)
joined_at by f m v [] e = differ e refl
joined_at by f m v (n ∷ ns) e = go (cases_Bool (has_node ns m)) (joined_at by f m v ns)
  where
    rest : Option Version
    rest = join_all by (map f ns)

    new : Option Version
    new = join_all by (map (λ o. joined_if (m == o) by (f o) v) ns)

    here : (b : Bool) → new ≡ join by rest (Some v) → join by (joined_if b by (f n) v) new ≡ join by (join by (f n) rest) (Some v)
    here true h = ap (λ (z : Option Version). join by (join by (f n) (Some v)) z) h
        ∙ (join_assoc by (f n) (Some v) (join by rest (Some v)) ∙ (ap (join by (f n)) (join_of_AtMost (join_right rest (Some v))) ∙ sym (join_assoc by (f n) rest (Some v))))
    here false h = ap (join by (f n)) h ∙ sym (join_assoc by (f n) rest (Some v))

    first : (n == m) ≡ true → new ≡ rest → join by (joined_if (m == n) by (f n) v) new ≡ join by (join by (f n) rest) (Some v)
    first i h = ap₂ (λ (b : Bool) (z : Option Version). join by (joined_if b by (f n) v) z) (ap (λ (z : ℕ). m == z) (number_same n m i) ∙ number_here m) h
        ∙ (join_assoc by (f n) (Some v) rest ∙ (ap (join by (f n)) (join_comm by (Some v) rest) ∙ sym (join_assoc by (f n) rest (Some v))))

    go : (has_node ns m ≡ true) ⊎ (has_node ns m ≡ false) → (has_node ns m ≡ true → new ≡ join by rest (Some v)) → join by (joined_if (m == n) by (f n) v) new ≡ join by (join by (f n) rest) (Some v)
    go (inl h) back = here (m == n) (back h)
    go (inr h) back = first (alone (n == m) (has_node ns m) h e) (unjoined by f m v ns h)

-- a function that is nothing at a node
dropped_at : (by : Policy) (f : ℕ → Option Version) (m : ℕ) (ns : List ℕ)
    → join_all by (map (λ n. cond (m == n) None (f n)) ns) ≡ join_all by (map f (filter (λ n. not (n == m)) ns))
dropped_at by f m [] = refl
dropped_at by f m (n ∷ ns) = go (m == n) (n == m) refl refl (dropped_at by f m ns)
  where
    go : (a b : Bool) → (m == n) ≡ a → (n == m) ≡ b → join_all by (map (λ o. cond (m == o) None (f o)) ns) ≡ join_all by (map f (filter (λ o. not (o == m)) ns))
        → join by (cond a None (f n)) (join_all by (map (λ o. cond (m == o) None (f o)) ns)) ≡ join_all by (map f (cond (not b) (n ∷ filter (λ o. not (o == m)) ns) (filter (λ o. not (o == m)) ns)))
    go true true i e h = none_join by (join_all by (map (λ o. cond (m == o) None (f o)) ns)) ∙ h
    go false false i e h = ap (join by (f n)) h
    go true false i e h = differ (ap (λ (z : ℕ). z == m) (sym (number_same m n i)) ∙ number_here m) e
    go false true i e h = differ (ap (λ (z : ℕ). m == z) (number_same n m e) ∙ number_here m) i

same_map : {A : Type 0} (f g : ℕ → A) → ((n : ℕ) → f n ≡ g n) → (ns : List ℕ) → map f ns ≡ map g ns
same_map {A} f g h [] = refl
same_map {A} f g h (n ∷ ns) = ap₂ (λ (x : A) (xs : List A). x ∷ xs) (h n) (same_map f g h ns)

-- ---- the last line

-- the line changes nothing of the record
untouched : (by : Policy) (ns : List ℕ) (j : List Line) (l : Line) (d : List ℕ) → ((n : ℕ) → content by n d (j ++ l ∷ []) ≡ content by n d j) → applied by d (j ++ l ∷ []) ≡ applied by d j → IsKept by ns j d → IsKept by ns (j ++ l ∷ []) d
untouched by ns j l d c a h = ap (join_all by) (same_map (λ n. content by n d (j ++ l ∷ [])) (λ n. content by n d j) c ns) ∙ (h ∙ sym a)

both_false : (a b : Bool) → b ≡ false → (a && b) ≡ false
both_false true b e = e
both_false false b e = refl

both_true : (a b : Bool) → b ≡ true → (a && b) ≡ a
both_true true b e = e
both_true false b e = refl

-- a version of a record comes to a node
brought : (by : Policy) (ns : List ℕ) (j : List Line) (l : Line) (m : ℕ) (e d : List ℕ) (v : Version) → has_node ns m ≡ true
    → ((n : ℕ) → content by n d (j ++ l ∷ []) ≡ joined_if ((m == n) && bytes_eq e d) by (content by n d j) v) → bytes_eq e d ≡ true
    → join_all by (map (λ n. content by n d (j ++ l ∷ [])) ns) ≡ join by (join_all by (map (λ n. content by n d j) ns)) (Some v)
brought by ns j l m e d v h c q =
    ap (join_all by) (same_map (λ n. content by n d (j ++ l ∷ [])) (λ n. joined_if (m == n) by (content by n d j) v) (λ n. c n ∙ ap (λ (b : Bool). joined_if b by (content by n d j) v) (both_true (m == n) (bytes_eq e d) q)) ns)
    ∙ joined_at by (λ n. content by n d j) m v ns h

unbrought : (by : Policy) (j : List Line) (l : Line) (m : ℕ) (e d : List ℕ) (v : Version) (n : ℕ) → content by n d (j ++ l ∷ []) ≡ joined_if ((m == n) && bytes_eq e d) by (content by n d j) v → bytes_eq e d ≡ false
    → content by n d (j ++ l ∷ []) ≡ content by n d j
unbrought by j l m e d v n c q = c ∙ ap (λ (b : Bool). joined_if b by (content by n d j) v) (both_false (m == n) (bytes_eq e d) q)

-- all copies of the partition of the record but the node's are as they were
left_over : (by : Policy) (ns : List ℕ) (j : List Line) (l : Line) (m p : ℕ) (d : List ℕ)
    → ((n : ℕ) → content by n d (j ++ l ∷ []) ≡ cond ((m == n) && (p == partition_of d)) None (content by n d j)) → (p == partition_of d) ≡ true
    → join_all by (map (λ n. content by n d (j ++ l ∷ [])) ns) ≡ join_all by (map (λ n. content by n d j) (filter (λ n. not (n == m)) ns))
left_over by ns j l m p d c q =
    ap (join_all by) (same_map (λ n. content by n d (j ++ l ∷ [])) (λ n. cond (m == n) None (content by n d j)) (λ n. c n ∙ ap (λ (b : Bool). cond b None (content by n d j)) (both_true (m == n) (p == partition_of d) q)) ns)
    ∙ dropped_at by (λ n. content by n d j) m ns

kept_last : (j : List Line) (l : Line) → names_declared j l ≡ true → ((d : List ℕ) → IsKept (policy_of j) (nodes j) j d) → LosesNothing j l → (d : List ℕ) → IsKept (policy_of j) (nodes j) (j ++ l ∷ []) d
unfolding named_nodes
kept_last j (line.Apply m k t e v) named h f d = go (bytes_eq e d) refl
  where
    by : Policy
    by = policy_of j

    l : Line
    l = line.Apply m k t e v

    go : (b : Bool) → bytes_eq e d ≡ b → IsKept by (nodes j) (j ++ l ∷ []) d
    go true q = brought by (nodes j) j l m e d v (and_left (has_node (nodes j) m) true named) (λ n. content-more by n d j l) q
        ∙ (ap (λ (z : Option Version). join by z (Some v)) (h d) ∙ sym (applied-more by d j l ∙ ap (λ (b : Bool). joined_if b by (applied by d j) v) q))
    go false q = untouched by (nodes j) j l d (λ n. unbrought by j l m e d v n (content-more by n d j l) q) (applied-more by d j l ∙ ap (λ (b : Bool). joined_if b by (applied by d j) v) q) (h d)
kept_last j (line.Merge m k e v) named h f d = go (bytes_eq e d) refl
  where
    by : Policy
    by = policy_of j

    l : Line
    l = line.Merge m k e v

    go : (b : Bool) → bytes_eq e d ≡ b → IsKept by (nodes j) (j ++ l ∷ []) d
    go true q = brought by (nodes j) j l m e d v (and_left (has_node (nodes j) m) true named) (λ n. content-more by n d j l) q
        ∙ (ap (λ (z : Option Version). join by z (Some v)) (h d)
        ∙ (join_comm by (applied by d j) (Some v) ∙ (join_of_AtMost (subst (λ (x : List ℕ). AtMost by (Some v) (applied by x j)) (same_digest_is e d q) f) ∙ sym (applied-more by d j l))))
    go false q = untouched by (nodes j) j l d (λ n. unbrought by j l m e d v n (content-more by n d j l) q) (applied-more by d j l) (h d)
kept_last j (line.Drop m k p) named h f d = go (p == partition_of d) refl
  where
    by : Policy
    by = policy_of j

    l : Line
    l = line.Drop m k p

    go : (b : Bool) → (p == partition_of d) ≡ b → IsKept by (nodes j) (j ++ l ∷ []) d
    go true q = left_over by (nodes j) j l m p d (λ n. content-more by n d j l) q ∙ (f d (sym (number_same p (partition_of d) q)) ∙ sym (applied-more by d j l))
    go false q = untouched by (nodes j) j l d (λ n. content-more by n d j l ∙ ap (λ (b : Bool). cond b None (content by n d j)) (both_false (m == n) (p == partition_of d) q)) (applied-more by d j l) (h d)
kept_last j l named h f d = untouched (policy_of j) (nodes j) j l d (λ n. content-more (policy_of j) n d j l) (applied-more (policy_of j) d j l) (h d)

fits_last : (j : List Line) (l : Line) → names_declared j l ≡ true → ((d : List ℕ) → IsKept (policy_of j) (nodes j) j d) → ((d : List ℕ) → IsKept (policy_of j) (nodes j) (j ++ l ∷ []) d) → LosesNothing j l
unfolding named_nodes
fits_last j (line.Merge m k d v) named h g =
    subst (AtMost (policy_of j) (Some v)) (sym (brought (policy_of j) (nodes j) j (line.Merge m k d v) m d d v (and_left (has_node (nodes j) m) true named) (λ n. content-more (policy_of j) n d j (line.Merge m k d v)) (same_digest_itself d)) ∙ (g d ∙ applied-more (policy_of j) d j (line.Merge m k d v)))
    (join_right (join_all (policy_of j) (map (λ n. content (policy_of j) n d j) (nodes j))) (Some v))
fits_last j (line.Drop m k p) named h g = λ d q.
    sym (left_over (policy_of j) (nodes j) j (line.Drop m k p) m p d (λ n. content-more (policy_of j) n d j (line.Drop m k p)) (ap (λ (z : ℕ). p == z) q ∙ number_here p)) ∙ (g d ∙ applied-more (policy_of j) d j (line.Drop m k p))
fits_last j l named h g = tt

-- ---- the step

named_last : (j : List Line) (l : Line) → Shape (j ++ l ∷ []) → is_header l ≡ false → names_declared j l ≡ true
named_last j l s o =
    let h : (i : ℕ) × (Rattle.std.specs.Prelude.slice_get (j ++ l ∷ []) i ≡ Some l) × (take i (j ++ l ∷ []) ≡ j) = last_line j l in
    subst (λ (ns : List ℕ). Rattle.std.specs.List.list_all (has_node ns) (named_nodes l) ≡ true) (nodes_stay j l o) (s.named h.0 l h.1)

kept_at : (j : List Line) → NoLoss j → (d : List ℕ) → IsKept (policy_of j) (nodes j) j d
kept_at j h d = subst (λ (ls : List Line). IsKept (policy_of j) (nodes j) ls d) (whole j).1 (h.none_lost (whole j).0 d)

pub loss_front : (j : List Line) (l : Line) → Shape (j ++ l ∷ []) → NoLoss (j ++ l ∷ []) → NoLoss j × LosesNothing j l
loss_front j l s h = go (follows j l s)
  where
    all : List Line
    all = j ++ l ∷ []

    front : is_header l ≡ false → NoLoss j
    front o = record {
      none_lost = λ i d. subst₂ (λ (by : Policy) (ns : List ℕ). IsKept by ns (take i j) d) (policy_stays j l o) (nodes_stay j l o)
          (subst (λ (ls : List Line). IsKept (policy_of all) (nodes all) ls d) (front_of_more j l i).1 (h.none_lost (front_of_more j l i).0 d));
    }

    go : (is_header l ≡ false) ⊎ (IsBare j × (is_header l ≡ true)) → NoLoss j × LosesNothing j l
    go (inl o) = (front o, fits_last j l (named_last j l s o) (kept_at j (front o)) (λ d. subst₂ (λ (by : Policy) (ns : List ℕ). IsKept by ns all d) (policy_stays j l o) (nodes_stay j l o) (kept_at all h d)))
    go (inr o) = (bare_lossless j o.0, header_loses_nothing j l o.1)

pub loss_more : (j : List Line) (l : Line) → Shape (j ++ l ∷ []) → NoLoss j → LosesNothing j l → NoLoss (j ++ l ∷ [])
loss_more j l s h f = go (follows j l s)
  where
    all : List Line
    all = j ++ l ∷ []

    at : is_header l ≡ false → (d : List ℕ) (i : ℕ) → (take i all ≡ take i j) ⊎ (take i all ≡ all) → IsKept (policy_of all) (nodes all) (take i all) d
    at o d i (inl e) = subst₂ (λ (by : Policy) (ns : List ℕ). IsKept by ns (take i all) d) (sym (policy_stays j l o)) (sym (nodes_stay j l o)) (subst (λ (ls : List Line). IsKept (policy_of j) (nodes j) ls d) (sym e) (h.none_lost i d))
    at o d i (inr e) = subst₂ (λ (by : Policy) (ns : List ℕ). IsKept by ns (take i all) d) (sym (policy_stays j l o)) (sym (nodes_stay j l o)) (subst (λ (ls : List Line). IsKept (policy_of j) (nodes j) ls d) (sym e) (kept_last j l (named_last j l s o) (kept_at j h) f d))

    go : (is_header l ≡ false) ⊎ (IsBare j × (is_header l ≡ true)) → NoLoss all
    go (inl o) = record { none_lost = λ i d. at o d i (front_cases j l i) }
    go (inr o) = bare_lossless all (bare-more j l o.0 o.1)
