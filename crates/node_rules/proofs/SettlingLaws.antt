-- What is due at a partition goes by the facts before any partition is settled.
use Rattle.std.proofs.Common.{flat_map, ◌≡◌, ◌≢◌, ℕ, zero, suc, ◌+◌, ◌<◌, ◌≤◌, Bool, true, false, not, ◌&&◌, ◌||◌, cond, List, [], ◌∷◌, ◌++◌, length, set, None, refl, sym, ap, ap₂, subst, ◌∙◌, arith}
use Rattle.std.proofs.Math.Bool.{or-true}
use Rattle.std.proofs.lemmas.Bool.Decides.{nat_tests}
use Rattle.std.proofs.lemmas.List.{get_or-set_same, get_or-set_other, length-set}
use Rattle.std.specs.FinMap as map
use Rattle.std.specs.Ordering.{nat_cmp}
use Rattle.std.specs.declared.cmp.Ordering.TheVariants.{Equal}
use Rattle.std.specs.Cmp.Lexicographic.{slice_cmp}
use Rattle.std.proofs.lemmas.Cmp.{nat_list_cmp_total}
use Rattle.cluster_types.specs.declared.cluster_key.ClusterKey.{ClusterKey}
use Rattle.cluster_types.specs.Partitions.{partition_count}
use Rattle.cluster_types.specs.Rows.{bit}
use Rattle.cluster_types.proofs.BoolFacts.{or_none as or_false}
use Rattle.journal_lines.specs.declared.line.Line.TheVariants as line
use Rattle.node_rules.specs.Copies.{Content, is_of, is_nil}
use Rattle.node_rules.specs.Facts.{Facts, view_key, list_at}
use Rattle.node_rules.specs.Notes.{noted}
use Rattle.node_rules.specs.Settling.{settling_at, settling_from, may_hand, may_settle, hand, settle, learn, drop}
use Rattle.node_rules.specs.Standing.{is_to_learn, is_to_drop}
use Rattle.node_rules.proofs.NoteLaws.{noted-append}
use Rattle.node_rules.specs.Here.{IsAsleep, IsOver, live_from, Here, here, hands, settles, lines_here, part_lines, lines_from, HasRows}
use Rattle.node_rules.specs.Tables.{only_if}

-- ---- the facts after a line that may stand

abbrev handed_if : Facts → ℕ → Bool → Facts
handed_if f p b = noted None f (only_if (line.Handed f.me (view_key f) p) b)

abbrev settled_if : Facts → ℕ → Bool → Facts
settled_if f p b = noted None f (only_if (line.Settled f.me (view_key f) p) b)

abbrev learnt_if : Facts → ℕ → Bool → Facts
learnt_if f p b = noted None f (only_if (line.Learn f.me (view_key f) p) b)

abbrev dropped_if : Facts → ℕ → Bool → Facts
dropped_if f p b = noted None f (only_if (line.Drop f.me (view_key f) p) b)

bit_here : (row : List Bool) (p : ℕ) → length row ≡ partition_count → p < partition_count → bit (set row p true) p ≡ true
bit_here row p size within = get_or-set_same row p true false (omega (arith, size, within))

bit_other : (row : List Bool) (p q : ℕ) → q ≢ p → bit (set row p true) q ≡ bit row q
bit_other row p q other = get_or-set_other row p q true false other

-- ---- at one partition

-- where it is settled now or isn't
abbrev learns_with : Here → Bool → Bool
learns_with h now = (h.settled || now) && (h.replica && not h.learnt)

abbrev drops_with : Here → Bool → Bool
drops_with h now = (h.settled || now) && (h.done && (not h.replica && h.holds))

-- who hands over is no list master
no_master : (a m x : Bool) → (a && (not m && x)) ≡ true → m ≡ false
no_master true true x e = cc
no_master true false x e = refl
no_master false m x e = cc

settle_after : (f : Facts) (l : List ℕ) (p : ℕ) (b : Bool) → hands (here f l p) ≡ b → may_settle (handed_if f p b) l p ≡ settles (here f l p)
settle_after f l p true e =
    let none : (here f l p).master ≡ false = no_master (here f l p).acting (here f l p).master _ e in
    rw none refl
settle_after f l p false e = refl

settled_now : (f : Facts) (p : ℕ) (a b : Bool) → HasRows f → p < partition_count → bit (settled_if (handed_if f p a) p b).bits.settled p ≡ (bit f.bits.settled p || b)
settled_now f p true true h within = bit_here f.bits.settled p h.settled within ∙ sym (or-true _)
settled_now f p true false h within = sym (or_false _)
settled_now f p false true h within = bit_here f.bits.settled p h.settled within ∙ sym (or-true _)
settled_now f p false false h within = sym (or_false _)

learn_after : (f : Facts) (l : List ℕ) (p : ℕ) (a b : Bool) → HasRows f → p < partition_count → is_to_learn (settled_if (handed_if f p a) p b) l p ≡ learns_with (here f l p) b
learn_after f l p true true h within = ap (λ s. s && ((here f l p).replica && not (here f l p).learnt)) (settled_now f p true true h within)
learn_after f l p true false h within = ap (λ s. s && ((here f l p).replica && not (here f l p).learnt)) (settled_now f p true false h within)
learn_after f l p false true h within = ap (λ s. s && ((here f l p).replica && not (here f l p).learnt)) (settled_now f p false true h within)
learn_after f l p false false h within = ap (λ s. s && ((here f l p).replica && not (here f l p).learnt)) (settled_now f p false false h within)

abbrev drops_where : Here → Bool → Bool
drops_where h s = s && (h.done && (not h.replica && h.holds))

drop_after : (f : Facts) (l : List ℕ) (p : ℕ) (a b c : Bool) → HasRows f → p < partition_count → is_to_drop (learnt_if (settled_if (handed_if f p a) p b) p c) l p ≡ drops_with (here f l p) b
drop_after f l p true true true h within = ap (drops_where (here f l p)) (settled_now f p true true h within)
drop_after f l p true true false h within = ap (drops_where (here f l p)) (settled_now f p true true h within)
drop_after f l p true false true h within = ap (drops_where (here f l p)) (settled_now f p true false h within)
drop_after f l p true false false h within = ap (drops_where (here f l p)) (settled_now f p true false h within)
drop_after f l p false true true h within = ap (drops_where (here f l p)) (settled_now f p false true h within)
drop_after f l p false true false h within = ap (drops_where (here f l p)) (settled_now f p false true h within)
drop_after f l p false false true h within = ap (drops_where (here f l p)) (settled_now f p false false h within)
drop_after f l p false false false h within = ap (drops_where (here f l p)) (settled_now f p false false h within)

-- the four lines, where the tests came out so
four : (f : Facts) (l : List ℕ) (p : ℕ) (b1 b2 b3 b4 : Bool) → hands (here f l p) ≡ b1 → may_settle (handed_if f p b1) l p ≡ b2
    → is_to_learn (settled_if (handed_if f p b1) p b2) l p ≡ b3 → is_to_drop (learnt_if (settled_if (handed_if f p b1) p b2) p b3) l p ≡ b4
    → settling_at l p f ≡ only_if (line.Handed f.me (view_key f) p) b1 ++ (only_if (line.Settled f.me (view_key f) p) b2 ++ (only_if (line.Learn f.me (view_key f) p) b3 ++ only_if (line.Drop f.me (view_key f) p) b4))
four f l p true true true b4 e1 e2 e3 e4 = rw e1 (rw e2 (rw e3 (rw e4 refl)))
four f l p true true false b4 e1 e2 e3 e4 = rw e1 (rw e2 (rw e3 (rw e4 refl)))
four f l p true false true b4 e1 e2 e3 e4 = rw e1 (rw e2 (rw e3 (rw e4 refl)))
four f l p true false false b4 e1 e2 e3 e4 = rw e1 (rw e2 (rw e3 (rw e4 refl)))
four f l p false true true b4 e1 e2 e3 e4 = rw e1 (rw e2 (rw e3 (rw e4 refl)))
four f l p false true false b4 e1 e2 e3 e4 = rw e1 (rw e2 (rw e3 (rw e4 refl)))
four f l p false false true b4 e1 e2 e3 e4 = rw e1 (rw e2 (rw e3 (rw e4 refl)))
four f l p false false false b4 e1 e2 e3 e4 = rw e1 (rw e2 (rw e3 (rw e4 refl)))

at_one : (f : Facts) (p : ℕ) → HasRows f → p < partition_count → settling_at (list_at f p) p f ≡ part_lines f p
at_one f p h within =
    let l = list_at f p in
    let one = hands (here f l p) in
    let two = settles (here f l p) in
    four f l p one two (learns_with (here f l p) two) (drops_with (here f l p) two) refl
    (settle_after f l p one refl) (learn_after f l p one two h within) (drop_after f l p one two (learns_with (here f l p) two) h within)

-- ---- at the other partitions

-- the lines of all partitions but one, and the rows, are as they were
record Keeps (p : ℕ) (f g : Facts) : Type 0 where
  rows : HasRows g
  lines : (q : ℕ) → q ≢ p → part_lines g q ≡ part_lines f q

kept : (p : ℕ) (f : Facts) → HasRows f → Keeps p f f
kept p f h = record { rows = h; lines = λ q other. refl }

keeps_then : (p : ℕ) (f g k : Facts) → Keeps p f g → (HasRows g → Keeps p g k) → Keeps p f k
keeps_then p f g k h more =
    let i = more h.rows in
    record { rows = i.rows; lines = λ q other. i.lines q other ∙ h.lines q other }

keeps_handed : (f : Facts) (n : ℕ) (k : ClusterKey) (p : ℕ) (b : Bool) → HasRows f → Keeps p f (noted None f (only_if (line.Handed n k p) b))
keeps_handed f n k p false h = kept p f h
keeps_handed f n k p true h = record {
  rows = record { handed = length-set f.bits.handed p true ∙ h.handed; settled = h.settled };
  lines = λ q other. ap₂ (λ b c. lines_here f.me (view_key f) q (record (here f (list_at f q) q) { handed = b; own_handed = c })) (bit_other f.bits.handed p q other) (bit_other f.bits.own_handed p q other);
}

keeps_settled : (f : Facts) (n : ℕ) (k : ClusterKey) (p : ℕ) (b : Bool) → HasRows f → Keeps p f (noted None f (only_if (line.Settled n k p) b))
keeps_settled f n k p false h = kept p f h
keeps_settled f n k p true h = record {
  rows = record { handed = h.handed; settled = length-set f.bits.settled p true ∙ h.settled };
  lines = λ q other. ap (λ b. lines_here f.me (view_key f) q (record (here f (list_at f q) q) { settled = b })) (bit_other f.bits.settled p q other);
}

keeps_learnt : (f : Facts) (n : ℕ) (k : ClusterKey) (p : ℕ) (b : Bool) → HasRows f → Keeps p f (noted None f (only_if (line.Learn n k p) b))
keeps_learnt f n k p false h = kept p f h
keeps_learnt f n k p true h = record {
  rows = record { handed = h.handed; settled = h.settled };
  lines = λ q other. ap (λ b. lines_here f.me (view_key f) q (record (here f (list_at f q) q) { learnt = b })) (bit_other f.bits.learnt p q other);
}

-- what goes of a partition's copy leaves the copies of the others
apart : (content : Content) (p q : ℕ) → q ≢ p → map.retain_keys (map.retain_keys content (λ d. not (is_of p d))) (is_of q) ≡ map.retain_keys content (is_of q)
apart content p q other =
    map.same_map nat_list_cmp_total (map.slice_cmp-IsAntisymmetric map.nat_cmp-IsAntisymmetric) _ _
    (λ d. map.get-retain_keys (map.retain_keys content (λ e. not (is_of p e))) (is_of q) d (λ x same. ap (is_of q) (tied x d same))
    ∙ go d (is_of q d) refl
    ∙ sym (map.get-retain_keys content (is_of q) d (λ x same. ap (is_of q) (tied x d same))))
  where
    tied : (x d : List ℕ) → slice_cmp nat_cmp d x ≡ Equal → x ≡ d
    tied x d same = sym (map.slice_cmp-IsAntisymmetric map.nat_cmp-IsAntisymmetric d x same)

    go : (d : List ℕ) (b : Bool) → is_of q d ≡ b → cond (is_of q d) (map.get (map.retain_keys content (λ e. not (is_of p e))) d) None ≡ cond (is_of q d) (map.get content d) None
    go d false h = rw h refl
    go d true h =
        let there : is_of p d ≡ false = grind (arith, nat_tests, h, other) in
        rw h (map.get-retain_keys content (λ e. not (is_of p e)) d (λ x same. ap (λ e. not (is_of p e)) (tied x d same)) ∙ rw there refl)

keeps_dropped : (f : Facts) (n : ℕ) (k : ClusterKey) (p : ℕ) (b : Bool) → HasRows f → Keeps p f (noted None f (only_if (line.Drop n k p) b))
keeps_dropped f n k p false h = kept p f h
keeps_dropped f n k p true h = record {
  rows = record { handed = h.handed; settled = h.settled };
  lines = λ q other. ap (λ m. lines_here f.me (view_key f) q (record (here f (list_at f q) q) { holds = not (is_nil (map.keys m)) })) (apart f.store.content p q other);
}

keeps_all : (f : Facts) (p : ℕ) → HasRows f → Keeps p f (noted None f (settling_at (list_at f p) p f))
keeps_all f p h =
    let l = list_at f p in
    let f1 = noted None f (hand f l p) in
    let f2 = noted None f1 (settle f1 l p) in
    let f3 = noted None f2 (learn f2 l p) in
    subst (λ (g : Facts). Keeps p f g)
    (sym (noted-append None f (hand f l p) (settle f1 l p ++ (learn f2 l p ++ drop f3 l p))
    ∙ noted-append None f1 (settle f1 l p) (learn f2 l p ++ drop f3 l p)
    ∙ noted-append None f2 (learn f2 l p) (drop f3 l p)))
    (keeps_then p f f1 (noted None f3 (drop f3 l p)) (keeps_handed f f.me (view_key f) p (may_hand f l p) h)
    (λ h1. keeps_then p f1 f2 (noted None f3 (drop f3 l p)) (keeps_settled f1 f1.me (view_key f1) p (may_settle f1 l p) h1)
    (λ h2. keeps_then p f2 f3 (noted None f3 (drop f3 l p)) (keeps_learnt f2 f2.me (view_key f2) p (is_to_learn f2 l p) h2)
    (λ h3. keeps_dropped f3 f3.me (view_key f3) p (is_to_drop f3 l p) h3))))

-- ---- all partitions

same_from : (n p : ℕ) (f g : Facts) → ((q : ℕ) → p ≤ q → part_lines g q ≡ part_lines f q) → lines_from n p g ≡ lines_from n p f
unfolding lines_from
same_from zero p f g h = refl
same_from (suc n) p f g h = ap (λ ls. ls ++ lines_from n (p + 1) g) (h p (omega arith)) ∙ ap (λ ls. part_lines f p ++ ls) (same_from n (p + 1) f g (λ q above. h q (omega (arith, above))))

pub settled_apart : (n p : ℕ) (f : Facts) → HasRows f → p + n ≤ partition_count → settling_from n p f ≡ lines_from n p f
unfolding settling_from lines_from
settled_apart zero p f h within = refl
settled_apart (suc n) p f h within =
    let after = noted None f (settling_at (list_at f p) p f) in
    let keeps = keeps_all f p h in
    ap (λ ls. ls ++ settling_from n (p + 1) after) (at_one f p h (omega (arith, within)))
    ∙ ap (λ ls. part_lines f p ++ ls) (
    settled_apart n (p + 1) after keeps.rows (omega (arith, within))
    ∙ same_from n (p + 1) f after (λ q above. keeps.lines q (λ same. absurd (omega (arith, above, same)))))

-- ---- partitions without lines

shorter : (a b c x : Bool) → (a && (b && c)) ≡ false → (a && (b && (c && x))) ≡ false
shorter true true true x h = let wrong : true ≡ false = h in cc
shorter true true false x h = refl
shorter true false c x h = refl
shorter false b c x h = refl

short : (a b x : Bool) → (a && b) ≡ false → (a && (b && x)) ≡ false
short true true x h = let wrong : true ≡ false = h in cc
short true false x h = refl
short false b x h = refl

past : (a b x : Bool) → (a && b) ≡ false → (x && (a && b)) ≡ false
past a b true h = h
past a b false h = refl

-- a test in the middle fails
third : (a b c x : Bool) → c ≡ false → (a && (b && (c && x))) ≡ false
third true true c x h = rw h refl
third true false c x h = refl
third false b c x h = refl

quiet : (me : ℕ) (key : ClusterKey) (p : ℕ) (h : Here) → hands h ≡ false → settles h ≡ false → learns_with h false ≡ false → drops_with h false ≡ false → lines_here me key p h ≡ []
quiet me key p h e1 e2 e3 e4 = rw e1 (rw e2 (rw e3 (rw e4 refl)))

pub asleep_is_quiet : (me : ℕ) (key : ClusterKey) (p : ℕ) (h : Here) → IsAsleep h → lines_here me key p h ≡ []
asleep_is_quiet me key p h s =
    quiet me key p h
    (shorter h.acting (not h.master) (not h.own_handed) (h.all_done && not h.busy) s.kept)
    (short h.master (not h.empty) (not h.settled && (not h.busy && (h.handed || (h.acting && h.all_done)))) s.quiet)
    (rw s.unsettled refl)
    (rw s.unsettled refl)

pub over_is_quiet : (me : ℕ) (key : ClusterKey) (p : ℕ) (h : Here) → IsOver h → lines_here me key p h ≡ []
over_is_quiet me key p h o =
    quiet me key p h
    (shorter h.acting (not h.master) (not h.own_handed) (h.all_done && not h.busy) o.kept)
    (third h.master (not h.empty) (not h.settled) (not h.busy && (h.handed || (h.acting && h.all_done))) (ap not o.settled))
    (past h.replica (not h.learnt) (h.settled || false) o.learnt)
    (past_done (h.settled || false) h.done (not h.replica) h.holds o.dropped)
  where
    past_done : (x d a b : Bool) → (a && b) ≡ false → (x && (d && (a && b))) ≡ false
    past_done true true a b h = h
    past_done true false a b h = refl
    past_done false d a b h = refl

pub live_are_enough : (f : Facts) (live : ℕ → Bool) (n p : ℕ) → ((q : ℕ) → live q ≡ false → part_lines f q ≡ []) → lines_from n p f ≡ flat_map (part_lines f) (live_from live n p)
unfolding lines_from live_from
live_are_enough f live zero p h = refl
live_are_enough f live (suc n) p h = go (live p) refl (live_are_enough f live n (p + 1) h)
  where
    go : (b : Bool) → live p ≡ b → lines_from n (p + 1) f ≡ flat_map (part_lines f) (live_from live n (p + 1)) → part_lines f p ++ lines_from n (p + 1) f ≡ flat_map (part_lines f) (cond (live p) (p ∷ live_from live n (p + 1)) (live_from live n (p + 1)))
    go true e ih = rw e (ap (λ ls. part_lines f p ++ ls) ih)
    go false e ih = rw e (ap (λ ls. ls ++ lines_from n (p + 1) f) (h p e) ∙ ih)
