-- The maps that members show, as one line more comes. Where all members of a view have entered it, no further line
-- changes its members, their rows or its acting masters.
use Rattle.std.proofs.Common.{◌≡◌, ℕ, ◌==◌, Bool, true, false, not, ◌||◌, cond, List, [], ◌∷◌, ◌++◌, Option, Some, None, option_map, ◌⊎◌, inl, inr, refl, sym, ap, ap₂, subst, ◌∙◌, append_assoc, append-nil}
use Rattle.std.specs.Prelude.{take, drop, slice_get, find, unwrap_or}
use Rattle.std.specs.List.{list_any, list_all}
use Rattle.std.proofs.lemmas.List.{take-append-drop}
use Rattle.std.proofs.lemmas.Bool.{or_left, or_right}
use Rattle.cluster_types.specs.declared.cluster_key.ClusterKey.{ClusterKey}
use Rattle.cluster_types.specs.declared.member.Member.{Member}
use Rattle.cluster_types.specs.Members.{ids_of}
use Rattle.partition_lists.specs.Lists as lists
use Rattle.partition_lists.proofs.ListLaws.{list_contains, any_is_contained}
use Rattle.journal_lines.specs.declared.line.Line.{Line}
use Rattle.journal_lines.specs.declared.line.Line.TheVariants as line
use Rattle.journal_readings.specs.Lines.{same_key, is_enter, lines_before, has_node}
use Rattle.journal_readings.specs.Settings.{factor_of}
use Rattle.journal_readings.specs.Views.{members, succession_list, first_of}
use Rattle.journal_readings.specs.Rows.{row, copy_state, row_whole_key}
use Rattle.journal_readings.specs.Maps.{has_key_above, is_newest_whole, acting, with_roles}
use Rattle.journal_readings.specs.Claims.{OneMap, ShowsMap}
use Rattle.journal_readings.specs.Shape.{Shape, is_header, has_entered, have_all_entered, names_entered, follows_entries}
use Rattle.journal_readings.proofs.AlongLaws.{one_map}
use Rattle.journal_readings.proofs.Fronts.{and_left, and_right}
use Rattle.audit_laws.specs.Fits.{enters_key}
use Rattle.audit_laws.proofs.Tests.{differ, number_here, number_same}
use Rattle.audit_laws.proofs.Places.{each-more, stands, last_line}
use Rattle.audit_laws.proofs.Headers.{factor_stays, IsBare}
use Rattle.audit_laws.proofs.ShapeSteps.{bare_line, shape_front}
use Rattle.audit_laws.proofs.ReadSteps.{follows}

-- ---- behind lines that fix it

pub lines_before-front : (test : Line → Bool) (a b : List Line) → list_any test a ≡ true → lines_before test (a ++ b) ≡ lines_before test a
lines_before-front test [] b e = differ e refl
lines_before-front test (x ∷ a) b e = go (test x) (lines_before-front test a b) e
  where
    go : (c : Bool) → (list_any test a ≡ true → lines_before test (a ++ b) ≡ lines_before test a) → (c || list_any test a) ≡ true
        → cond c (Some []) (option_map (λ before. x ∷ before) (lines_before test (a ++ b))) ≡ cond c (Some []) (option_map (λ before. x ∷ before) (lines_before test a))
    go true rest q = refl
    go false rest q = ap (option_map (λ before. x ∷ before)) (rest q)

pub members-front : (k : ClusterKey) (a b : List Line) → list_any (enters_key k) a ≡ true → members k (a ++ b) ≡ members k a
members-front k [] b e = differ e refl
members-front k (line.Enter n l ms ∷ a) b e = go (same_key l k) (members-front k a b) e
  where
    go : (c : Bool) → (list_any (enters_key k) a ≡ true → members k (a ++ b) ≡ members k a) → (c || list_any (enters_key k) a) ≡ true → cond c ms (members k (a ++ b)) ≡ cond c ms (members k a)
    go true rest q = refl
    go false rest q = rest q
members-front k (x ∷ a) b e = members-front k a b e

pub row-front : (factor : ℕ) (k : ClusterKey) (n p : ℕ) (a b : List Line) → has_entered a k n ≡ true → row factor k n p (a ++ b) ≡ row factor k n p a
unfolding row
row-front factor k n p a b e = ap (option_map (λ before. copy_state factor n p before)) (lines_before-front (is_enter k n) a b e)

-- who entered the view entered its key
pub enters : (k : ClusterKey) (n : ℕ) (x : Line) → is_enter k n x ≡ true → enters_key k x ≡ true
enters k n (line.Enter m l ms) e = and_right (m == n) (same_key l k) e
enters k n x e = differ e refl

pub entered_key : (k : ClusterKey) (n : ℕ) (a : List Line) → has_entered a k n ≡ true → list_any (enters_key k) a ≡ true
entered_key k n [] e = e
entered_key k n (x ∷ a) e = go (is_enter k n x) refl (entered_key k n a) e
  where
    go : (b : Bool) → is_enter k n x ≡ b → (has_entered a k n ≡ true → list_any (enters_key k) a ≡ true) → (b || has_entered a k n) ≡ true → (enters_key k x || list_any (enters_key k) a) ≡ true
    go true i rest q = or_left (enters_key k x) _ (enters k n x i)
    go false i rest q = or_right (enters_key k x) _ (rest q)

-- ---- the acting master

find_same : (f g : ℕ → Bool) (ids : List ℕ) → ((n : ℕ) → has_node ids n ≡ true → f n ≡ g n) → find f ids ≡ find g ids
find_same f g [] h = refl
find_same f g (n ∷ ids) h = ap₂ (λ (b : Bool) (o : Option ℕ). cond b (Some n) o) (h n (or_left (n == n) (has_node ids n) (number_here n))) (find_same f g ids (λ m e. h m (or_right (n == m) (has_node ids m) e)))

any_same : (f g : ℕ → Bool) (ids : List ℕ) → ((n : ℕ) → has_node ids n ≡ true → f n ≡ g n) → list_any f ids ≡ list_any g ids
any_same f g [] h = refl
any_same f g (n ∷ ids) h = ap₂ (λ (a b : Bool). a || b) (h n (or_left (n == n) (has_node ids n) (number_here n))) (any_same f g ids (λ m e. h m (or_right (n == m) (has_node ids m) e)))

newest_same : (factor : ℕ) (k : ClusterKey) (p : ℕ) (a b : List Line) (ids : List ℕ) → ((n : ℕ) → has_node ids n ≡ true → row factor k n p b ≡ row factor k n p a) → (o : Option ClusterKey) → is_newest_whole factor k p b ids o ≡ is_newest_whole factor k p a ids o
newest_same factor k p a b ids h None = refl
newest_same factor k p a b ids h (Some l) = ap not (any_same (λ m. has_key_above l (row_whole_key (row factor k m p b))) (λ m. has_key_above l (row_whole_key (row factor k m p a))) ids (λ m e. ap (λ (r : _). has_key_above l (row_whole_key r)) (h m e)))

all_of : (test : ℕ → Bool) (ids : List ℕ) → list_all test ids ≡ true → (n : ℕ) → has_node ids n ≡ true → test n ≡ true
all_of test [] h n e = differ e refl
all_of test (m ∷ ids) h n e = go (m == n) refl (all_of test ids (and_right (test m) _ h) n) e
  where
    go : (b : Bool) → (m == n) ≡ b → (has_node ids n ≡ true → test n ≡ true) → (b || has_node ids n) ≡ true → test n ≡ true
    go true i rest q = ap test (sym (number_same m n i)) ∙ and_left (test m) _ h
    go false i rest q = rest q

pub listed_entered : (k : ClusterKey) (p : ℕ) (a : List Line) → have_all_entered a k ≡ true → (n : ℕ) → has_node (succession_list k p a) n ≡ true → has_entered a k n ≡ true
listed_entered k p a h n e = all_of (has_entered a k) (ids_of (members k a)) h n ((any_is_contained n (ids_of (members k a))).1 ((list_contains (members k a) p n).0 ((any_is_contained n (succession_list k p a)).0 e)))

pub acting-front : (factor : ℕ) (k : ClusterKey) (p : ℕ) (a b : List Line) → list_any (enters_key k) a ≡ true → have_all_entered a k ≡ true → acting factor k p (a ++ b) ≡ acting factor k p a
unfolding acting
acting-front factor k p a b e h =
    ap (λ (ms : List Member). unwrap_or (find (λ n. is_newest_whole factor k p (a ++ b) (lists.list ms p) (row_whole_key (row factor k n p (a ++ b)))) (lists.list ms p)) (first_of (lists.list ms p))) (members-front k a b e)
    ∙ ap (λ (o : Option ℕ). unwrap_or o (first_of (succession_list k p a)))
    (find_same (λ n. is_newest_whole factor k p (a ++ b) (succession_list k p a) (row_whole_key (row factor k n p (a ++ b)))) (λ n. is_newest_whole factor k p a (succession_list k p a) (row_whole_key (row factor k n p a))) (succession_list k p a)
    (λ n i. newest_same factor k p a (a ++ b) (succession_list k p a) same (row_whole_key (row factor k n p (a ++ b))) ∙ ap (λ (r : _). is_newest_whole factor k p a (succession_list k p a) (row_whole_key r)) (same n i)))
  where
    same : (n : ℕ) → has_node (succession_list k p a) n ≡ true
        → row factor k n p (a ++ b) ≡ row factor k n p a
    same n i = row-front factor k n p a b (listed_entered k p a h n i)

-- ---- maps

-- what a map line is to show is fixed by the lines before it, and the factor
same_map : (a b c : List Line) → factor_of (a ++ b) ≡ factor_of (a ++ c) → (x : Line) → names_entered a x ≡ true → follows_entries a x ≡ true → ShowsMap (a ++ b) x → ShowsMap (a ++ c) x
same_map a b c f (line.Map n k p ms m) e h s = (
  s.0 ∙ ap (λ (x : List Member). with_roles x (lists.list x p)) (members-front k a b (entered_key k n a e) ∙ sym (members-front k a c (entered_key k n a e))),
  s.1 ∙ (ap (λ (factor : ℕ). acting factor k p (a ++ b)) f ∙ (acting-front (factor_of (a ++ c)) k p a b (entered_key k n a e) h ∙ sym (acting-front (factor_of (a ++ c)) k p a c (entered_key k n a e) h))),
)
same_map a b c f x e h s = tt

header_map : (j : List Line) (x : Line) → is_header x ≡ true → ShowsMap j x
header_map j (line.Map n k p ms m) e = differ e refl
header_map j x e = tt

-- a line of the shorter journal shows its map in both
both : (j : List Line) (l : Line) → factor_of (j ++ l ∷ []) ≡ factor_of j → (i : ℕ) (x : Line) → names_entered (take i j) x ≡ true → follows_entries (take i j) x ≡ true
    → (ShowsMap (j ++ l ∷ []) x → ShowsMap j x) × (ShowsMap j x → ShowsMap (j ++ l ∷ []) x)
both j l f i x e h = (
  λ s. subst (λ (z : List Line). ShowsMap z x) shorter (same_map (take i j) (drop i j ++ l ∷ []) (drop i j) factors x e h (subst (λ (z : List Line). ShowsMap z x) (sym longer) s)),
  λ s. subst (λ (z : List Line). ShowsMap z x) longer (same_map (take i j) (drop i j) (drop i j ++ l ∷ []) (sym factors) x e h (subst (λ (z : List Line). ShowsMap z x) (sym shorter) s)),
)
  where
    shorter : take i j ++ drop i j ≡ j
    shorter = take-append-drop i j

    longer : take i j ++ (drop i j ++ l ∷ []) ≡ j ++ l ∷ []
    longer = sym (append_assoc (take i j) (drop i j) (l ∷ [])) ∙ ap (λ (z : List Line). z ++ l ∷ []) shorter

    factors : factor_of (take i j ++ (drop i j ++ l ∷ [])) ≡ factor_of (take i j ++ drop i j)
    factors = ap factor_of longer ∙ (f ∙ sym (ap factor_of shorter))

-- so does the last line
last : (j : List Line) (l : Line) → factor_of (j ++ l ∷ []) ≡ factor_of j → names_entered j l ≡ true → follows_entries j l ≡ true
    → (ShowsMap (j ++ l ∷ []) l → ShowsMap j l) × (ShowsMap j l → ShowsMap (j ++ l ∷ []) l)
last j l f e h = (
  λ s. subst (λ (z : List Line). ShowsMap z l) (append-nil j) (same_map j (l ∷ []) [] (f ∙ sym (ap factor_of (append-nil j))) l e h s),
  λ s. same_map j [] (l ∷ []) (ap factor_of (append-nil j) ∙ sym f) l e h (subst (λ (z : List Line). ShowsMap z l) (sym (append-nil j)) s),
)

pub map_front : (j : List Line) (l : Line) → Shape (j ++ l ∷ []) → OneMap (j ++ l ∷ []) → OneMap j × ShowsMap j l
map_front j l s h = go (follows j l s)
  where
    all : List Line
    all = j ++ l ∷ []

    shape : Shape j
    shape = (shape_front j l s).0

    go : (is_header l ≡ false) ⊎ (IsBare j × (is_header l ≡ true)) → OneMap j × ShowsMap j l
    go (inl o) = (
      one_map j (λ i x e. (both j l (factor_stays j l o) i x (shape.in_view i x e) (shape.exchanged i x e)).0 (h.shown i x (stands j l i x e).0)),
      (last j l (factor_stays j l o) (shape_front j l s).1.in_view (shape_front j l s).1.exchanged).0 (let q : (i : ℕ) × (slice_get all i ≡ Some l) × (take i all ≡ j) = last_line j l in h.shown q.0 l q.1),
    )
    go (inr o) = (one_map j (λ i x e. header_map j x (bare_line j i x o.0 e)), header_map j l o.1)

pub map_more : (j : List Line) (l : Line) → Shape (j ++ l ∷ []) → OneMap j → ShowsMap j l → OneMap (j ++ l ∷ [])
map_more j l s h f = go (follows j l s)
  where
    all : List Line
    all = j ++ l ∷ []

    shape : Shape j
    shape = (shape_front j l s).0

    go : (is_header l ≡ false) ⊎ (IsBare j × (is_header l ≡ true)) → OneMap all
    go (inl o) = one_map all (each-more (λ b x. ShowsMap all x) j l
        (λ i x e. (both j l (factor_stays j l o) i x (shape.in_view i x e) (shape.exchanged i x e)).1 (h.shown i x e))
        ((last j l (factor_stays j l o) (shape_front j l s).1.in_view (shape_front j l s).1.exchanged).1 f))
    go (inr o) = one_map all (each-more (λ b x. ShowsMap all x) j l (λ i x e. header_map all x (bare_line j i x o.0 e)) (header_map all l o.1))
