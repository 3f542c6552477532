-- What is due of the partitions of a view.
use Rattle.std.proofs.Common.{◌≡◌, ◌<◌, ◌≤◌, ◌+◌, ◌-◌, ℕ, zero, suc, Bool, true, false, List, [], ◌∷◌, ◌++◌, get_or, All, AllPairs, Option, Some, None, refl, sym, ap, ap₂, subst, ◌∙◌, append_assoc, arith, if◌then◌else◌}
use Rattle.std.specs.Option.{option_to_list}
use Rattle.std.proofs.lemmas.Grind.{flat_map-append}
use Rattle.std.proofs.lemmas.List.{append-nil}
use Rattle.std.proofs.lemmas.List.Concat.{flat_map-cons}
use Rattle.std.proofs.lemmas.List.Elements.{All-append, All-cons, All-tail}
use Rattle.std.proofs.lemmas.List.Kept.{AllPairs-cons}
use Rattle.cluster_types.specs.declared.cluster_key.ClusterKey.{ClusterKey}
use Rattle.cluster_types.specs.Partitions.{partition_count}
use Rattle.cluster_types.specs.Rows.{bit}
use Rattle.journal_lines.specs.declared.line.Line.{Line}
use Rattle.node_rules.specs.Exchange.{Exchange}
use Rattle.node_rules.specs.Facts.{Facts, list_at, view_key}
use Rattle.node_rules.specs.Here.{HasRows, Here, here, lines_from, lines_here, part_lines}
use Rattle.node_rules.specs.Notes.{noted}
use Rattle.node_rules.specs.Settling.{settling_due, settling_from}
use Rattle.node_rules.proofs.NoteLaws.{noted-append}
use Rattle.node_rules.proofs.SettlingLaws.{asleep_is_quiet, over_is_quiet, settled_apart}
use Rattle.node_view.specs.declared.here.Settling.{Settling}
use Rattle.node_view.specs.declared.view.Moving.{Moving}
use Rattle.node_view.specs.Fits.{AreSettlings}
use Rattle.node_view.specs.Plans.{settled_at, settled_by}
use Rattle.node_view.specs.Settlings.{lines_of_settling, settling_lines, settling_of}
use Rattle.node_view.specs.Views.{IsMoving, IsQuiet, IsViewOf, Viewed}
use Rattle.node_view.proofs.SightLaws.{sees}

-- ---- partitions that aren't live

quiet_lines : (f : Facts) (p : ℕ) → IsQuiet f p → part_lines f p ≡ []
quiet_lines f p (IsQuiet.asleep a) = asleep_is_quiet f.me (view_key f) p (here f (list_at f p) p) a
quiet_lines f p (IsQuiet.over o) = over_is_quiet f.me (view_key f) p (here f (list_at f p) p) o

pub is_finished : (f : Facts) (v : Viewed) (m : Moving) → IsMoving v m → IsViewOf f v → f.exchange.exchanged ≡ true
is_finished f v m h k = ap (λ (x : Exchange). x.exchanged) ((sees f v k.viewed).exchange ∙ sym h.exchange) ∙ h.own.finished

pub not_live : (f : Facts) (v : Viewed) (m : Moving) (p : ℕ) → IsMoving v m → IsViewOf f v → p < partition_count → bit m.live p ≡ false → part_lines f p ≡ []
not_live f v m p h k within off =
    quiet_lines f p (k.watch.live.quiet p within (is_finished f v m h k) (ap (λ (row : List Bool). bit row p) (sym h.live) ∙ off))

-- ---- one partition more

pub lines_one : (r : Option Settling) (me : ℕ) (key : ClusterKey) (p : ℕ) (h : Here) → ((s : Settling) → r ≡ Some s → s ≡ settling_of p h) → (r ≡ None → lines_here me key p h ≡ [])
    → lines_of_settling me key (settling_of p h) ≡ lines_here me key p h → settling_lines me key (option_to_list r) ≡ lines_here me key p h
lines_one None me key p h some none lines = sym (none refl)
lines_one (Some s) me key p h some none lines =
    flat_map-cons (lines_of_settling me key) s [] ∙ append-nil (lines_of_settling me key s) ∙ ap (lines_of_settling me key) (some s refl) ∙ lines

pub all_more : (P : Settling → Type 0) (xs us : List Settling) (r : Option Settling) → us ≡ xs ++ option_to_list r → All P xs → ((s : Settling) → r ≡ Some s → P s) → All P us
all_more P xs us r is all some = subst (λ (ys : List Settling). All P ys) (sym is) (go r some)
  where
    go : (r : Option Settling) → ((s : Settling) → r ≡ Some s → P s) → All P (xs ++ option_to_list r)
    go None some = All-append P xs [] all (λ k d within. absurd (omega (arith, within)))
    go (Some s) some = All-append P xs (s ∷ []) all (All-cons P s [] (some s refl) (λ k d within. absurd (omega (arith, within))))

pub each_of : (f : Facts) (p : ℕ) (s : Settling) → s.partition ≡ p → s ≡ settling_of p (here f (list_at f p) p) → s ≡ settling_of s.partition (here f (list_at f s.partition) s.partition)
each_of f p s here_at is = is ∙ ap (λ (q : ℕ). settling_of q (here f (list_at f q) q)) (sym here_at)

abbrev Rises : Settling → Settling → Type 0
Rises a b = a.partition < b.partition

rise_last : (xs : List Settling) (s : Settling) → All (λ (a : Settling). a.partition < s.partition) xs → AllPairs Rises xs → AllPairs Rises (xs ++ s ∷ [])
rise_last [] s below rise = λ i j d before within. absurd (omega (arith, before, within))
rise_last (x ∷ xs) s below rise =
    AllPairs-cons Rises x (xs ++ s ∷ [])
    (All-append (Rises x) xs (s ∷ []) (λ k d within. rise 0 (suc k) d (omega arith) (omega (arith, within))) (All-cons (Rises x) s [] (below 0 x (omega arith)) (λ k d within. absurd (omega (arith, within)))))
    (rise_last xs s (All-tail (λ (a : Settling). a.partition < s.partition) x xs below) (λ i j d before within. rise (suc i) (suc j) d (omega (arith, before)) (omega (arith, within))))

pub rise_more : (xs us : List Settling) (r : Option Settling) (n : ℕ) → us ≡ xs ++ option_to_list r → All (λ (s : Settling). s.partition < n) xs → AllPairs (λ (a b : Settling). a.partition < b.partition) xs
    → ((s : Settling) → r ≡ Some s → s.partition ≡ n) → AllPairs (λ (a b : Settling). a.partition < b.partition) us
rise_more xs us r n is below rise some = subst (λ (ys : List Settling). AllPairs Rises ys) (sym is) (go r some)
  where
    go : (r : Option Settling) → ((s : Settling) → r ≡ Some s → s.partition ≡ n) → AllPairs Rises (xs ++ option_to_list r)
    go None some = subst (λ (ys : List Settling). AllPairs Rises ys) (sym (append-nil xs)) rise
    go (Some s) some = rise_last xs s (subst (λ (k : ℕ). All (λ (a : Settling). a.partition < k) xs) (sym (some s refl)) below) rise

pub below_more : (xs us : List Settling) (r : Option Settling) (n : ℕ) → us ≡ xs ++ option_to_list r → All (λ (s : Settling). s.partition < n) xs → ((s : Settling) → r ≡ Some s → s.partition ≡ n)
    → All (λ (s : Settling). s.partition < n + 1) us
below_more xs us r n is below some =
    all_more (λ (s : Settling). s.partition < n + 1) xs us r is
    (λ k d within. let low : (get_or xs k d).partition < n = below k d within in omega (arith, low))
    (λ s e. let here : s.partition ≡ n = some s e in omega (arith, here))

lines_last : (n p : ℕ) (f : Facts) → lines_from (suc n) p f ≡ lines_from n p f ++ part_lines f (p + n)
unfolding lines_from
lines_last zero p f = let same : p ≡ p + 0 = omega arith in append-nil (part_lines f p) ∙ ap (part_lines f) same
lines_last (suc n) p f =
    let same : (p + 1) + n ≡ p + suc n = omega arith in
    let regroup : (part_lines f p ++ lines_from n (p + 1) f) ++ part_lines f (p + suc n) ≡ part_lines f p ++ (lines_from n (p + 1) f ++ part_lines f (p + suc n)) = rw append_assoc refl in
    ap (λ (ls : List Line). part_lines f p ++ ls) (lines_last n (p + 1) f ∙ ap (λ (k : ℕ). lines_from n (p + 1) f ++ part_lines f k) same)
    ∙ sym regroup

pub no_lines : (f : Facts) → lines_from 0 0 f ≡ []
unfolding lines_from
no_lines f = refl

pub lines_more : (f : Facts) (xs us : List Settling) (r : Option Settling) (n : ℕ) → us ≡ xs ++ option_to_list r → settling_lines f.me (view_key f) xs ≡ lines_from n 0 f
    → settling_lines f.me (view_key f) (option_to_list r) ≡ part_lines f n → settling_lines f.me (view_key f) us ≡ lines_from (n + 1) 0 f
lines_more f xs us r n is so_far one =
    let plain : n ≡ 0 + n = omega arith in
    let next : suc n ≡ n + 1 = omega arith in
    ap (settling_lines f.me (view_key f)) is
    ∙ flat_map-append (lines_of_settling f.me (view_key f)) xs (option_to_list r)
    ∙ ap₂ (λ (a b : List Line). a ++ b) so_far (one ∙ ap (part_lines f) plain)
    ∙ sym (lines_last n 0 f)
    ∙ ap (λ (k : ℕ). lines_from k 0 f) next

-- no lines come of those up to another one
lines_gap : (f : Facts) (n k : ℕ) → ((q : ℕ) → n ≤ q → q < n + k → part_lines f q ≡ []) → lines_from (n + k) 0 f ≡ lines_from n 0 f
lines_gap f n zero none = let same : n + 0 ≡ n = omega arith in ap (λ (j : ℕ). lines_from j 0 f) same
lines_gap f n (suc k) none =
    let next : n + suc k ≡ suc (n + k) = omega arith in
    let plain : 0 + (n + k) ≡ n + k = omega arith in
    ap (λ (j : ℕ). lines_from j 0 f) next
    ∙ lines_last (n + k) 0 f
    ∙ ap (λ (ls : List Line). lines_from (n + k) 0 f ++ ls) (ap (part_lines f) plain ∙ none (n + k) (omega arith) (omega arith))
    ∙ append-nil (lines_from (n + k) 0 f)
    ∙ lines_gap f n k (λ q over under. none q over (omega (arith, under)))

pub lines_until : (f : Facts) (n m : ℕ) → n ≤ m → ((q : ℕ) → n ≤ q → q < m → part_lines f q ≡ []) → lines_from n 0 f ≡ lines_from m 0 f
lines_until f n m up none =
    let whole : n + (m - n) ≡ m = omega (arith, up) in
    sym (lines_gap f n (m - n) (λ q over under. none q over (omega (arith, under, up)))) ∙ ap (λ (j : ℕ). lines_from j 0 f) whole

-- nor of those up to another one where none of them is live
pub lines_to : (f : Facts) (v : Viewed) (m : Moving) (a b : ℕ) → IsMoving v m → IsViewOf f v → a ≤ b → b ≤ partition_count → ((q : ℕ) → a ≤ q → q < b → bit m.live q ≡ false) → lines_from a 0 f ≡ lines_from b 0 f
lines_to f v m a b h k up low off = lines_until f a b up (λ q over under. not_live f v m q h k (omega (arith, under, low)) (off q over under))

pub below_wider : (ss : List Settling) (n m : ℕ) → n ≤ m → All (λ (s : Settling). s.partition < n) ss → All (λ (s : Settling). s.partition < m) ss
below_wider ss n m up below = λ k d within. let low : (get_or ss k d).partition < n = below k d within in omega (arith, low, up)

-- ---- all partitions

quiet_from : (f : Facts) (n p : ℕ) → ((q : ℕ) → q < p + n → part_lines f q ≡ []) → lines_from n p f ≡ []
unfolding lines_from
quiet_from f zero p none = refl
quiet_from f (suc n) p none = ap₂ (λ (a b : List Line). a ++ b) (none p (omega arith)) (quiet_from f n (p + 1) (λ q within. none q (omega (arith, within))))

lines_noted : (f : Facts) (me p : ℕ) (a b c d : Bool)
    → noted None f (lines_of_settling me (view_key f) (record { partition = p; hands = a; settles = b; learns = c; drops = d })) ≡ settled_at f (record { partition = p; hands = a; settles = b; learns = c; drops = d })
lines_noted f me p true true true true = refl
lines_noted f me p true true true false = refl
lines_noted f me p true true false true = refl
lines_noted f me p true true false false = refl
lines_noted f me p true false true true = refl
lines_noted f me p true false true false = refl
lines_noted f me p true false false true = refl
lines_noted f me p true false false false = refl
lines_noted f me p false true true true = refl
lines_noted f me p false true true false = refl
lines_noted f me p false true false true = refl
lines_noted f me p false true false false = refl
lines_noted f me p false false true true = refl
lines_noted f me p false false true false = refl
lines_noted f me p false false false true = refl
lines_noted f me p false false false false = refl

key_kept : (f : Facts) (p : ℕ) (a b c d : Bool) → view_key (settled_at f (record { partition = p; hands = a; settles = b; learns = c; drops = d })) ≡ view_key f
key_kept f p true true true true = refl
key_kept f p true true true false = refl
key_kept f p true true false true = refl
key_kept f p true true false false = refl
key_kept f p true false true true = refl
key_kept f p true false true false = refl
key_kept f p true false false true = refl
key_kept f p true false false false = refl
key_kept f p false true true true = refl
key_kept f p false true true false = refl
key_kept f p false true false true = refl
key_kept f p false true false false = refl
key_kept f p false false true true = refl
key_kept f p false false true false = refl
key_kept f p false false false true = refl
key_kept f p false false false false = refl

all_noted : (me : ℕ) (key : ClusterKey) (f : Facts) (ss : List Settling) → key ≡ view_key f → noted None f (settling_lines me key ss) ≡ settled_by f ss
all_noted me key f [] e = refl
all_noted me key f (s ∷ ss) e =
    ap (noted None f) (flat_map-cons (lines_of_settling me key) s ss)
    ∙ noted-append None f (lines_of_settling me key s) (settling_lines me key ss)
    ∙ ap (λ (g : Facts). noted None g (settling_lines me key ss)) (ap (λ (k : ClusterKey). noted None f (lines_of_settling me k s)) e ∙ lines_noted f me s.partition s.hands s.settles s.learns s.drops)
    ∙ all_noted me key (settled_at f s) ss (e ∙ sym (key_kept f s.partition s.hands s.settles s.learns s.drops))

-- all that is due
pub record AreDue (f : Facts) (ss : List Settling) : Type 0 where
  pub settlings : AreSettlings f ss
  pub lines : HasRows f → settling_lines f.me (view_key f) ss ≡ settling_due partition_count f
  pub settled : HasRows f → settled_by f ss ≡ noted None f (settling_due partition_count f)

by_lines : (f : Facts) (ss : List Settling) → AreSettlings f ss → (HasRows f → settling_lines f.me (view_key f) ss ≡ settling_due partition_count f) → AreDue f ss
by_lines f ss h lines = record {
  settlings = h;
  lines = lines;
  settled = λ rows. sym (all_noted f.me (view_key f) f ss refl) ∙ ap (noted None f) (lines rows);
}

none_at_all : (f : Facts) → AreSettlings f []
none_at_all f = record { exchanged = λ some. absurd (some refl); each = λ k d within. absurd (omega (arith, within)); rise = λ i j d before within. absurd (omega (arith, within)) }

pub none_due : (f : Facts) (ss : List Settling) → ss ≡ [] → f.exchange.exchanged ≡ false → AreDue f ss
none_due f ss is off =
    subst (λ (xs : List Settling). AreDue f xs) (sym is) (by_lines f [] (none_at_all f) (λ rows. sym (ap (λ (holds : Bool). if holds then settling_from partition_count 0 f else []) off)))

lines_are : (f : Facts) → f.exchange.exchanged ≡ true → HasRows f → lines_from partition_count 0 f ≡ settling_due partition_count f
lines_are f done rows = sym (settled_apart partition_count 0 f rows (omega arith)) ∙ sym (ap (λ (holds : Bool). if holds then settling_from partition_count 0 f else []) done)

pub none_live : (f : Facts) (v : Viewed) (m : Moving) (ss : List Settling) → ss ≡ [] → IsMoving v m → IsViewOf f v → ((p : ℕ) → bit m.live p ≡ false) → AreDue f ss
none_live f v m ss is h k off =
    subst (λ (xs : List Settling). AreDue f xs) (sym is)
    (by_lines f [] (none_at_all f) (λ rows. sym (quiet_from f partition_count 0 (λ q within. not_live f v m q h k (omega (arith, within)) (off q))) ∙ lines_are f (is_finished f v m h k) rows))

pub all_due : (f : Facts) (v : Viewed) (m : Moving) (ss : List Settling) (n : ℕ) → n ≡ partition_count → IsMoving v m → IsViewOf f v
    → All (λ (s : Settling). s ≡ settling_of s.partition (here f (list_at f s.partition) s.partition)) ss → AllPairs (λ (a b : Settling). a.partition < b.partition) ss
    → settling_lines f.me (view_key f) ss ≡ lines_from n 0 f → AreDue f ss
all_due f v m ss n whole h k each rise lines =
    by_lines f ss (record { exchanged = λ some. is_finished f v m h k; each = each; rise = rise })
    (λ rows. lines ∙ ap (λ (j : ℕ). lines_from j 0 f) whole ∙ lines_are f (is_finished f v m h k) rows)
