-- The later of the last mark and the last line that makes whole is what stamped a copy.
use Rattle.std.proofs.Common.{◌≡◌, ℕ, zero, suc, ◌==◌, ◌<◌, ◌≤◌, ◌+◌, Bool, true, false, ◌&&◌, ◌||◌, cond, List, [], ◌∷◌, length, Option, Some, None, refl, sym, ap, ap₂, subst, ◌∙◌, arith}
use Rattle.std.specs.Prelude.{take, slice_get, option_and_then, nat_lt, All}
use Rattle.std.proofs.lemmas.Bool.Decides.{nat_tests}
use Rattle.std.proofs.lemmas.List.Elements.{All-head, All-tail, All-weaker}
use Rattle.cluster_types.specs.declared.cluster_key.ClusterKey.{ClusterKey}
use Rattle.journal_lines.specs.declared.line.Line.{Line}
use Rattle.journal_lines.specs.declared.line.Line.TheVariants as line
use Rattle.journal_readings.specs.Lines.{has_node}
use Rattle.journal_readings.specs.Stamps.{stamp, stamp_step}
use Rattle.journal_readings.proofs.AlongLaws.{no_some, some_same}
use Rattle.journal_readings.proofs.StepLaws.{stamp-more}
use Rattle.audit_laws.proofs.Tests.{differ, number_same}
use Rattle.audit_state.specs.declared.history.Change.{Change}
use Rattle.audit_state.specs.declared.stamps.Stamps.{Stamps}
use Rattle.audit_state.specs.Histories.{last_from, last_before}
use Rattle.audit_core.specs.Stamped.{SeesStamps, StandInOrder, mark_of, finishes_exchange, exchanged_places_from, exchanged_places, makes_whole, makes_whole_at, change_at, whole_of}
use Rattle.audit_state.specs.Stamps.{stamp_marks, judged_of, wholes_of, later, stamping_key, stamping_key_at}
use Rattle.audit_core.proofs.VerdictLaws.{taken_more}

-- ---- the last change in so many lines

not_below : (n m : ℕ) → m ≤ n → nat_lt n m ≡ false
not_below n m h = grind (arith, nat_tests)

is_below : (n m : ℕ) → n < m → nat_lt n m ≡ true
is_below n m h = grind (arith, nat_tests)

-- none stands in them
stops : (o : Option Change) (cs : List Change) (lines : ℕ) → All (λ (d : Change). lines ≤ d.line) cs → last_from o cs lines ≡ o
stops o [] lines h = refl
stops o (c ∷ cs) lines h = ap (λ (b : Bool). cond b (last_from (Some c) cs lines) o) (not_below c.line lines (All-head (λ (d : Change). lines ≤ d.line) c cs h))

unchanged : (cs : List Change) (a : ℕ) → All (λ (d : Change). a < d.line) cs → change_at cs a ≡ None
unchanged [] a h = refl
unchanged (c ∷ cs) a h =
    let above : a < c.line = All-head (λ (d : Change). a < d.line) c cs h in
    ap (λ (b : Bool). cond b (Some c.value) (change_at cs a)) (apart c.line a above) ∙ unchanged cs a (All-tail (λ (d : Change). a < d.line) c cs h)
  where
    apart : (n m : ℕ) → m < n → (n == m) ≡ false
    apart n m h = grind (arith, nat_tests)

-- the last change once a line's change, if it makes one, has come
abbrev told : Option (Option ℕ) → ℕ → Option Change → Option Change
told None a o = o
told (Some value) a o = Some (record { line = a; value = value })

last_step : (o : Option Change) (cs : List Change) (a : ℕ) → StandInOrder cs → last_from o cs (suc a) ≡ told (change_at cs a) a (last_from o cs a)
last_step o [] a h = refl
last_step o (c ∷ cs) a h = go (nat_lt c.line a) (c.line == a) refl refl (last_step (Some c) cs a h.1)
  where
    equal : (n m : ℕ) → (n == m) ≡ true → n ≡ m
    equal n m e = number_same n m e

    both : (n m : ℕ) → nat_lt n m ≡ true → ((n == m) ≡ false) × (nat_lt n (suc m) ≡ true)
    both n m e = (grind (arith, nat_tests), grind (arith, nat_tests))

    same : (n m : ℕ) → n ≡ m → nat_lt n (suc m) ≡ true
    same n m e = grind (arith, nat_tests)

    above : (n m : ℕ) → nat_lt n m ≡ false → (n == m) ≡ false → m < n
    above n m e f = grind (arith, nat_tests)

    go : (b e : Bool) → nat_lt c.line a ≡ b → (c.line == a) ≡ e → last_from (Some c) cs (suc a) ≡ told (change_at cs a) a (last_from (Some c) cs a)
        → cond (nat_lt c.line (suc a)) (last_from (Some c) cs (suc a)) o ≡ told (cond (c.line == a) (Some c.value) (change_at cs a)) a (cond (nat_lt c.line a) (last_from (Some c) cs a) o)
    go true e p q rest =
        ap (λ (x : Bool). cond x (last_from (Some c) cs (suc a)) o) (both c.line a p).1
        ∙ (rest
        ∙ ap₂ (λ (x y : Bool). told (cond x (Some c.value) (change_at cs a)) a (cond y (last_from (Some c) cs a) o)) (sym (both c.line a p).0) (sym p))
    go false true p q rest =
        let here : c.line ≡ a = equal c.line a q in
        ap (λ (x : Bool). cond x (last_from (Some c) cs (suc a)) o) (same c.line a here)
        ∙ (stops (Some c) cs (suc a) (All-weaker (λ (d : Change). c.line < d.line) (λ (d : Change). suc a ≤ d.line) (λ d below. omega (arith, below, here)) cs h.0)
        ∙ (ap (λ (n : ℕ). Some (record { line = n; value = c.value })) here
        ∙ ap (λ (x : Bool). told (cond x (Some c.value) (change_at cs a)) a (cond (nat_lt c.line a) (last_from (Some c) cs a) o)) (sym q)))
    go false false p q rest =
        let behind : a < c.line = above c.line a p q in
        ap (λ (x : Bool). cond x (last_from (Some c) cs (suc a)) o) (not_below c.line (suc a) (omega (arith, behind)))
        ∙ sym (ap₂ (λ (x y : Bool). told (cond x (Some c.value) (change_at cs a)) a (cond y (last_from (Some c) cs a) o)) q p
        ∙ ap (λ (v : Option (Option ℕ)). told v a o) (unchanged cs a (All-weaker (λ (d : Change). c.line < d.line) (λ (d : Change). a < d.line) (λ d below. omega (arith, below, behind)) cs h.0)))

-- it stands in them
pub record StandsBefore (lines : ℕ) (o : Option Change) : Type 0 where
  pub below : (c : Change) → o ≡ Some c → c.line < lines

last_under : (o : Option Change) (cs : List Change) (lines : ℕ) → StandsBefore lines o → StandsBefore lines (last_from o cs lines)
last_under o [] lines h = h
last_under o (c ∷ cs) lines h = go (nat_lt c.line lines) refl (last_under (Some c) cs lines)
  where
    under : (n m : ℕ) → nat_lt n m ≡ true → n < m
    under n m e = grind (arith, nat_tests)

    go : (b : Bool) → nat_lt c.line lines ≡ b → (StandsBefore lines (Some c) → StandsBefore lines (last_from (Some c) cs lines)) → StandsBefore lines (cond b (last_from (Some c) cs lines) o)
    go true e rest = rest (record { below = λ d q. subst (λ (x : Change). x.line < lines) (some_same q) (under c.line lines e) })
    go false e rest = h

last_stands : (cs : List Change) (lines : ℕ) → StandsBefore lines (last_before cs lines)
last_stands cs lines = last_under None cs lines (record { below = λ c e. absurd (no_some e) })

last_none : (cs : List Change) → last_before cs 0 ≡ None
last_none cs = stops None cs 0 (λ k d within. omega arith)

-- ---- a node's `exchanged` lines

finished_above : (n place : ℕ) (j : List Line) (a : ℕ) → has_node (exchanged_places_from n place j) a ≡ true → place ≤ a
finished_above n place [] a e = differ e refl
finished_above n place (x ∷ j) a e = step (finishes_exchange n x) (finished_above n (place + 1) j a)
    e
  where
    here : (c : Bool) → (place == a) ≡ c → (has_node (exchanged_places_from n (place + 1) j) a ≡ true → (place + 1) ≤ a) → (c || has_node (exchanged_places_from n (place + 1) j) a) ≡ true → place ≤ a
    here true i rest q = let same : place ≡ a = number_same place a i in omega arith
    here false i rest q = let above : (place + 1) ≤ a = rest q in omega arith

    step : (b : Bool) → (has_node (exchanged_places_from n (place + 1) j) a ≡ true → (place + 1) ≤ a) → has_node (cond b (place ∷ exchanged_places_from n (place + 1) j) (exchanged_places_from n (place + 1) j)) a ≡ true → place ≤ a
    step true rest q = here (place == a) refl rest q
    step false rest q = let above : (place + 1) ≤ a = rest q in omega arith

finished_there : (n place : ℕ) (j : List Line) (a : ℕ) (l : Line) → slice_get j a ≡ Some l → has_node (exchanged_places_from n place j) (place + a) ≡ finishes_exchange n l
finished_there n place [] a l e = absurd (no_some e)
finished_there n place (x ∷ j) zero l e = go (finishes_exchange n x) refl
    ∙ ap (finishes_exchange n) (some_same e)
  where
    here : (place == (place + 0)) ≡ true
    here = grind (arith, nat_tests)

    later_on : (b : Bool) → has_node (exchanged_places_from n (place + 1) j) (place + 0) ≡ b
        → b ≡ false
    later_on false i = refl
    later_on true i = let under : (place + 1) ≤ place + 0 = finished_above n (place + 1) j (place + 0) i in absurd (omega arith)

    go : (b : Bool) → finishes_exchange n x ≡ b → has_node (cond b (place ∷ exchanged_places_from n (place + 1) j) (exchanged_places_from n (place + 1) j)) (place + 0) ≡ b
    go true i = ap (λ (c : Bool). c || has_node (exchanged_places_from n (place + 1) j) (place + 0))
        here
    go false i = later_on (has_node (exchanged_places_from n (place + 1) j) (place + 0)) refl
finished_there n place (x ∷ j) (suc a) l e =
    let moved : (place + 1) + a ≡ place + suc a = omega arith in
    go (finishes_exchange n x) (subst (λ (q : ℕ). has_node (exchanged_places_from n (place + 1) j) q ≡ finishes_exchange n l) moved (finished_there n (place + 1) j a l e))
  where
    apart : (place == (place + suc a)) ≡ false
    apart = grind (arith, nat_tests)

    go : (b : Bool) → has_node (exchanged_places_from n (place + 1) j) (place + suc a) ≡ finishes_exchange n l → has_node (cond b (place ∷ exchanged_places_from n (place + 1) j) (exchanged_places_from n (place + 1) j)) (place + suc a) ≡ finishes_exchange n l
    go true i = ap (λ (c : Bool). c || has_node (exchanged_places_from n (place + 1) j) (place + suc a)) apart ∙ i
    go false i = i

-- ---- the stamp

-- the key by which the line at the place stamps, if there is one
abbrev pub keyed : List Line → Option ℕ → Option ClusterKey
keyed j o = option_and_then (stamping_key_at j) o

mark_later : (a : ℕ) (v : Option ℕ) (o : Option Change) → StandsBefore a o → later (Some (record { line = a; value = v })) o ≡ v
mark_later a v None h = refl
mark_later a v (Some w) h = let below : w.line < a = h.below w refl in ap (λ (b : Bool). cond b w.value v) (not_below a w.line (omega (arith, below)))

whole_later : (a : ℕ) (v : Option ℕ) (o : Option Change) → StandsBefore a o → later o (Some (record { line = a; value = v })) ≡ v
whole_later a v None h = refl
whole_later a v (Some m) h = ap (λ (b : Bool). cond b v m.value) (is_below m.line a (h.below m refl))

keyed_here : (j : List Line) (a : ℕ) (l : Line) → slice_get j a ≡ Some l → keyed j (Some a) ≡ stamping_key l
keyed_here j a l e = ap (option_and_then stamping_key) e

stepped : (factor n p a : ℕ) (j all : List Line) (m w : Option Change) → StandsBefore a m → StandsBefore a w → (l : Line) → slice_get all a ≡ Some l
    → stamp_step factor n p (take a j) (keyed all (later m w)) l
    ≡ keyed all (later (told (mark_of n p a l) a m) (told (whole_of (finishes_exchange n l && makes_whole factor n p (take a j) l) a) a w))
stepped factor n p a j all m w ms ws (line.Learn o k q) e = go ((o == n) && (q == p))
  where
    go : (b : Bool) → cond b (Some k) (keyed all (later m w)) ≡ keyed all (later (told (cond b (Some (Some a)) None) a m) w)
    go true = sym (ap (keyed all) (mark_later a (Some a) w ws) ∙ keyed_here all a (line.Learn o k q) e)
    go false = refl
stepped factor n p a j all m w ms ws (line.Drop o k q) e = go ((o == n) && (q == p))
  where
    go : (b : Bool) → cond b None (keyed all (later m w)) ≡ keyed all (later (told (cond b (Some None) None) a m) w)
    go true = sym (ap (keyed all) (mark_later a None w ws))
    go false = refl
stepped factor n p a j all m w ms ws (line.Exchanged o k) e = go ((o == n) && makes_whole factor n p (take a j) (line.Exchanged o k))
  where
    go : (b : Bool) → cond b (Some k) (keyed all (later m w)) ≡ keyed all (later m (told (whole_of b a) a w))
    go true = sym (ap (keyed all) (whole_later a (Some a) m ms) ∙ keyed_here all a (line.Exchanged o k) e)
    go false = refl
stepped factor n p a j all m w ms ws l e = refl

all_first : (ns : List ℕ) (count : ℕ) → count ≡ length ns → take count ns ≡ ns
all_first [] zero e = refl
all_first [] (suc c) e = absurd (omega (arith, e))
all_first (n ∷ ns) zero e = absurd (omega (arith, e))
all_first (n ∷ ns) (suc c) e = ap (λ (xs : List ℕ). n ∷ xs) (all_first ns c (omega (arith, e)))

-- a whole line is told of at each `exchanged` line of the node
whole_at : (factor n p : ℕ) (j : List Line) (x : Option Stamps) → SeesStamps factor j n p x → judged_of x ≡ length (exchanged_places n j) → (a : ℕ) (l : Line) → slice_get j a ≡ Some l
    → change_at (wholes_of x) a ≡ whole_of (finishes_exchange n l
    && makes_whole factor n p (take a j) l) a
whole_at factor n p j x h all a l e =
    h.wholes a
    ∙ ap₂ (λ (b : Bool) (o : Option Line). whole_of (b && makes_whole_at factor n p j a o) a)
    (ap (λ (ns : List ℕ). has_node ns a) (all_first (exchanged_places n j) (judged_of x) all)
    ∙ there) e
  where
    there : has_node (exchanged_places n j) a ≡ finishes_exchange n l
    there = ap (has_node (exchanged_places n j)) (let e : a ≡ 0 + a = omega arith in e) ∙ finished_there n 0 j a l e

behind_end : (j : List Line) (a : ℕ) → a < length j → slice_get j a ≡ None → ⊥
behind_end [] a h e = absurd (omega (arith, h))
behind_end (x ∷ j) zero h e = no_some (sym e)
behind_end (x ∷ j) (suc a) h e = behind_end j a (omega (arith, h)) e

-- after each number of lines the stamp is that of the later of the last mark and the last line that makes whole
pub stamp_there : (factor n p : ℕ) (j whole : List Line) → ((a : ℕ) → a < length j → slice_get whole a ≡ slice_get j a) → (x : Option Stamps) → SeesStamps factor j n p x → judged_of x ≡ length (exchanged_places n j) → (a : ℕ) → a ≤ length j
    → stamp factor n p (take a j) ≡ keyed whole (later (last_before (stamp_marks x) a) (last_before (wholes_of x) a))
unfolding stamp
stamp_there factor n p j whole same x h all zero lower = sym (ap₂ (λ (m w : Option Change). keyed whole (later m w)) (last_none (stamp_marks x)) (last_none (wholes_of x)))
stamp_there factor n p j whole same x h all (suc a) lower = go (slice_get j a) refl (stamp_there factor n p j whole same x h all a (omega (arith, lower)))
  where
    told_so : (l : Line) → slice_get j a ≡ Some l
        → keyed whole (later (told (mark_of n p a l) a (last_before (stamp_marks x) a)) (told (whole_of (finishes_exchange n l && makes_whole factor n p (take a j) l) a) a (last_before (wholes_of x) a)))
        ≡ keyed whole
        (later (last_before (stamp_marks x) (suc a)) (last_before (wholes_of x) (suc a)))
    told_so l e = sym (ap₂ (λ (m w : Option Change). keyed whole (later m w))
        (last_step None (stamp_marks x) a h.mark_order ∙ ap (λ (v : Option (Option ℕ)). told v a (last_before (stamp_marks x) a)) (h.marks a ∙ ap (option_and_then (mark_of n p a)) e))
        (last_step None (wholes_of x) a h.whole_order ∙ ap (λ (v : Option (Option ℕ)). told v a (last_before (wholes_of x) a)) (whole_at factor n p j x h all a l e)))

    go : (o : Option Line) → slice_get j a ≡ o → stamp factor n p (take a j) ≡ keyed whole (later (last_before (stamp_marks x) a) (last_before (wholes_of x) a))
        → stamp factor n p (take (suc a) j) ≡ keyed whole (later (last_before (stamp_marks x) (suc a)) (last_before (wholes_of x) (suc a)))
    go None e rest = absurd (behind_end j a (omega (arith, lower)) e)
    go (Some l) e rest =
        ap (stamp factor n p) (taken_more j a l e)
        ∙ (stamp-more factor n p (take a j) l
        ∙ (ap (λ (o : Option ClusterKey). stamp_step factor n p (take a j) o l) rest
        ∙ (stepped factor n p a j whole (last_before (stamp_marks x) a) (last_before (wholes_of x) a) (last_stands (stamp_marks x) a) (last_stands (wholes_of x) a) l (same a (omega (arith, lower)) ∙ e)
        ∙ told_so l e)))
