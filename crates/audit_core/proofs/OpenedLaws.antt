-- Which writes of a view are open behind a line that applies one.
use Rattle.std.proofs.Common.{◌≡◌, ℕ, ◌==◌, ◌+◌, ◌<◌, ◌≤◌, ◌-◌, ◌^◌, Bool, true, false, not, ◌&&◌}
use Rattle.std.proofs.Common.{◌||◌, cond, List, [], ◌∷◌, ◌++◌, length, Option, Some, None, refl}
use Rattle.std.proofs.Common.{sym, ap, ap₂, subst, ◌∙◌, arith}
use Rattle.std.specs.Prelude.{take, nat_eq}
use Rattle.std.specs.List.{list_any, count_by}
use Rattle.std.proofs.lemmas.List.Folds.{list_any-append}
use Rattle.std.proofs.lemmas.List.Sums.{count_by-le-length}
use Rattle.conflict_order.specs.declared.version.Version.{Version}
use Rattle.cluster_types.specs.declared.cluster_key.ClusterKey.{ClusterKey}
use Rattle.cluster_types.specs.Partitions.{partition_of}
use Rattle.journal_lines.specs.declared.line.Line.{Line}
use Rattle.journal_lines.specs.declared.line.Line.TheVariants as line
use Rattle.journal_readings.specs.Lines.{same_key, has_node, is_settled_line, is_done_line}
use Rattle.journal_readings.specs.Settled.{is_open_write}
use Rattle.journal_readings.specs.Views.{master}
use Rattle.journal_readings.proofs.AlongLaws.{no_some, some_same}
use Rattle.journal_readings.proofs.Fronts.{and_left, and_right, same_key_is}
use Rattle.journal_readings.proofs.StepLaws.{fold-more}
use Rattle.audit_laws.proofs.Quiet.{master-other}
use Rattle.audit_laws.proofs.Tests.{differ, number_same, number_here}
use Rattle.audit_core.specs.declared.judge.Judge.{Judge}
use Rattle.audit_state.specs.declared.views.View.{View}
use Rattle.audit_state.specs.Keys.{pair_eq}
use Rattle.audit_state.specs.OpenWrites.{OpensWrite, TakesWrite, opened_stand, is_done_write}
use Rattle.audit_state.specs.OpenWrites.{open_of}
use Rattle.audit_state.specs.Written.{Stand, stand_of, written_of}
use Rattle.audit_core.specs.Frames.{Both}
use Rattle.audit_core.specs.Known.{kept_view}
use Rattle.audit_core.specs.Sees.{SeesStand, SeesWrites, is_open_in}
use Rattle.audit_core.specs.Settling.{TakesMasterWrite, is_master_in}
use Rattle.audit_core.proofs.OpenWriteLaws.{opened_same}
use Rattle.audit_core.proofs.StillLaws.{any-more, count-more, count_same, opens_same}

-- ---- tests of several parts

and_none : (a : Bool) → (a && false) ≡ false
and_none true = refl
and_none false = refl

and_all : (a : Bool) → (a && true) ≡ a
and_all true = refl
and_all false = refl

-- what tells whether a write of the view's partition is open
stand_parts : (a b s r x y : Bool) → (s ≡ true → r ≡ true → a ≡ b) → (a ≡ true → s ≡ true → x ≡ y)
    → (a && (s && (r && not x))) ≡ ((s && (b && not y)) && r)
stand_parts true b false r x y h g = refl
stand_parts false b false r x y h g = refl
stand_parts true b true false x y h g = sym (and_none (b && not y))
stand_parts false b true false x y h g = sym (and_none (b && not y))
stand_parts true b true true x y h g = ap₂ (λ (c z : Bool). c && not z) (h refl refl) (g refl refl)
    ∙ sym (and_all (b && not y))
stand_parts false b true true x y h g = ap (λ (c : Bool). c && not y) (h refl refl)
    ∙ sym (and_all (b && not y))

-- ... and is one of the node's transaction
write_parts : (w e s r x b y : Bool) → (e ≡ true → s ≡ true → r ≡ true → b ≡ true)
    → (e ≡ true → s ≡ true → x ≡ y) → (w && (e && (s && (r && not x)))) ≡ (((s && (b && not
    y)) && (e && w)) && r)
write_parts false e s r x b y h g = sym (ap (λ (c : Bool). ((s && (b && not y)) && c) && r)
    (and_none e) ∙ ap (λ (c : Bool). c && r) (and_none (s && (b && not y))))
write_parts true false s r x b y h g = sym (ap (λ (c : Bool). c && r)
    (and_none (s && (b && not y))))
write_parts true true false r x b y h g = refl
write_parts true true true false x b y h g = sym (and_none ((b && not y) && true))
write_parts true true true true x b y h g =
    ap not (g refl refl)
    ∙ (ap (λ (c : Bool). c && not y) (sym (h refl refl refl))
    ∙ (sym (and_all (b && not y))
    ∙ sym (and_all ((b && not y) && true))))

same_turned : (a b : ℕ) → (a == b) ≡ (b == a)
same_turned a b = go (a == b) refl (b == a) refl
  where
    go : (x : Bool) → (a == b) ≡ x → (y : Bool) → (b == a) ≡ y → (a == b) ≡ (b == a)
    go true e true f = e ∙ sym f
    go false e false f = e ∙ sym f
    go true e false f = differ (subst (λ (z : ℕ). (z == a) ≡ true) (number_same a b e)
        (number_here a)) f
    go false e true f = differ (subst (λ (z : ℕ). (z == b) ≡ true) (number_same b a f)
        (number_here b)) e

-- ---- the line

-- whether the line's write is open: its node is the list master, and its `done` line doesn't stand
abbrev pub is_opened : List Line → ℕ → ℕ → ℕ → ClusterKey → Bool
is_opened j n t p k = (master k p j == n) && not (list_any (is_done_line k n t) j)

-- one write of the transaction more is open in the partition, if it is
pub record TakesOpen (opened : Bool) (n t p : ℕ) (old new : View) : Type 0 where
  pub stands : (q : ℕ) → stand_of new q ≡ cond (opened && (p == q)) (opened_stand (stand_of old q))
      (stand_of old q)
  pub lists : (m u : ℕ) → open_of new m u ≡ cond (opened && pair_eq (n, t) (m, u))
      (open_of old m u ++ p ∷ []) (open_of old m u)
  pub done : (m u : ℕ) → is_done_write new m u ≡ is_done_write old m u
  pub settled : new.settled.items ≡ old.settled.items

module _ (j : List Line) (n t p : ℕ) (k : ClusterKey) (d : List ℕ) (v : Version)
    (part : p ≡ partition_of d) where
  abbrev after : List Line
  after = j ++ line.Apply n k t d v ∷ []

  -- ... in this view
  abbrev opens_in : ClusterKey → Bool
  opens_in l = same_key k l && is_opened j n t p k

  master_after : (l : ClusterKey) (q : ℕ) → master l q after ≡ master l q j
  master_after l q = master-other l q j (line.Apply n k t d v) refl

  -- the line's write is counted where it is open
  counted_here : (l : ClusterKey) (q : ℕ)
      → is_open_write l q (master l q j) after (line.Apply n k t d v) ≡ (opens_in l && (p == q))
  counted_here l q =
      ap (λ (z : ℕ). (n == master l q j) && (same_key k
      l && ((z == q) && not (list_any (is_done_line l (master l q j) t) after)))) (sym part)
      ∙ stand_parts (n == master l q j) (master k p j == n) (same_key k l) (p == q)
      (list_any (is_done_line l (master l q j) t) after) (list_any (is_done_line k n t) j)
      (λ e f. same_turned n (master l q j) ∙ ap₂ (λ (z : ClusterKey) (y : ℕ). master z y
      j == n) (sym (same_key_is k l e)) (sym (number_same p q f)))
      (λ e f. any-more (is_done_line l (master l q j) t) j (line.Apply n k t d v) refl
      ∙ ap₂ (λ (z : ClusterKey) (y : ℕ). list_any (is_done_line z y t) j) (sym (same_key_is k l f))
      (sym (number_same n (master l q j) e)))

  pub stand_opened : (l : ClusterKey) (q : ℕ) (x y : Stand)
      → y ≡ cond (opens_in l && (p == q)) (opened_stand x) x → SeesStand j l q x
      → SeesStand after l q y
  stand_opened l q x y e h = record {
    settled = ap (λ (z : Stand). z.settled) e
        ∙ (line_kept (opens_in l && (p == q))
        ∙ (h.settled
        ∙ sym (ap (λ (m : ℕ). list_any (is_settled_line l m q) after) (master_after l q)
        ∙ any-more (is_settled_line l (master l q j) q) j (line.Apply n k t d v) refl)));
    open_writes = ap (λ (z : Stand). z.open_writes) e
        ∙ (one_more (opens_in l && (p == q))
        ∙ (ap (λ (a : ℕ). a + cond (opens_in l && (p == q)) 1 0) h.open_writes
        ∙ sym (ap (λ (m : ℕ). count_by (is_open_write l q m after) after) (master_after l q)
        ∙ (count-more (is_open_write l q (master l q j) after) j (line.Apply n k t d v)
        ∙ ap₂ (λ (a : ℕ) (b : Bool). a + cond b 1 0)
        (count_same _ _ (opens_same l q (master l q j) j (line.Apply n k t d v) (λ u. refl)) j 0)
        (counted_here l q)))));
  }
    where
      line_kept : (b : Bool) → (cond b (opened_stand x) x).settled ≡ x.settled
      line_kept true = refl
      line_kept false = refl

      none_added : (a : ℕ) → a ≡ a + 0
      none_added a = omega arith

      one_more : (b : Bool) → (cond b (opened_stand x) x).open_writes ≡ x.open_writes + cond b 1 0
      one_more true = refl
      one_more false = none_added x.open_writes

  -- ---- the writes of a transaction

  -- where this node is the list master
  listed_here : (l : ClusterKey) (m u q : ℕ) → master l q j ≡ m
      → is_open_in l q m u after (line.Apply n k t d
      v) ≡ ((opens_in l && pair_eq (n, t) (m, u)) && (p == q))
  listed_here l m u q first =
      ap (λ (z : ℕ). (t == u) && ((n == m) && (same_key k
      l && ((z == q) && not (list_any (is_done_line l m t) after))))) (sym part)
      ∙ write_parts (t == u) (n == m) (same_key k l) (p == q) (list_any (is_done_line l m t) after)
      (master k p j == n) (list_any (is_done_line k n t) j)
      (λ e f g. ap₂ (λ (z : ClusterKey) (y : ℕ). master z y j == n) (same_key_is k l f)
      (number_same p q g) ∙ (ap (λ (y : ℕ). y == n) (first ∙ sym (number_same n m e))
      ∙ number_here n))
      (λ e f. any-more (is_done_line l m t) j (line.Apply n k t d v) refl
      ∙ ap₂ (λ (z : ClusterKey) (y : ℕ). list_any (is_done_line z y t) j) (sym (same_key_is k l f))
      (sym (number_same n m e)))

  listed_more : (q : ℕ) (ps : List ℕ) (b : Bool)
      → count_by (λ (z : ℕ). z == q) (cond b (ps ++ p ∷ []) ps) ≡ count_by (λ (z : ℕ). z == q)
      ps + cond (b && (p == q)) 1 0
  listed_more q ps true = fold-more (λ (c y : ℕ). c + cond (y == q) 1 0) 0 ps p
  listed_more q ps false = none_added (count_by (λ (z : ℕ). z == q) ps)
    where
      none_added : (a : ℕ) → a ≡ a + 0
      none_added a = omega arith

  -- a view that is known was known, and the line's write is one more
  abbrev pub TakenFrom : Judge → ClusterKey → View → Type 0
  TakenFrom old l y = (x : View) × (kept_view old l ≡ Some x) × TakesOpen (opens_in l) n t p x y

  abbrev pub TakeViews : Judge → Judge → Type 0
  TakeViews old new = (l : ClusterKey) (y : View) → kept_view new l ≡ Some y → TakenFrom old l y

  module _ (old new : Judge) (views : TakeViews old new) (h : SeesWrites old j) where
    counted_after : (l : ClusterKey) (y : View) (m u q : ℕ) → kept_view new l ≡ Some y
        → master l q after ≡ m → count_by (λ (z : ℕ). z == q) (open_of y m u) ≡ count_by
        (is_open_in l q m u after) after
    counted_after l y m u q e first =
        let x : TakenFrom old l y = views l y e in
        let before : master l q j ≡ m = sym (master_after l q) ∙ first in
        ap (count_by (λ (z : ℕ). z == q)) (x.2.lists m u)
        ∙ (listed_more q (open_of x.0 m u) (opens_in l && pair_eq (n, t) (m, u))
        ∙ (ap (λ (a : ℕ). a + cond ((opens_in l && pair_eq (n, t) (m, u)) && (p == q)) 1 0)
        (h.open_writes l x.0 m u q x.1 before)
        ∙ sym (count-more (is_open_in l q m u after) j (line.Apply n k t d v)
        ∙ ap₂ (λ (a : ℕ) (b : Bool). a + cond b 1 0)
        (count_same _ _ (opened_same l q m u j (line.Apply n k t d v) (λ z. refl)) j 0)
        (listed_here l m u q before))))

    master_of : (l : ClusterKey) (y : View) (m u q : ℕ) → kept_view new l ≡ Some y
        → has_node (open_of y m u) q ≡ true → master l q after ≡ m
    master_of l y m u q e has =
        let x : TakenFrom old l y = views l y e in
        master_after l q ∙ go x.0 x.1 (opens_in l && pair_eq (n, t) (m, u)) refl
        (sym (ap (λ (ps : List ℕ). has_node ps q) (x.2.lists m u)) ∙ has)
      where
        here : (opens_in l && pair_eq (n, t) (m, u)) ≡ true → p ≡ q → master l q j ≡ m
        here f g =
            let opened : opens_in l ≡ true = and_left (opens_in l) (pair_eq (n, t) (m, u)) f in
            let pair : pair_eq (n, t) (m, u) ≡ true =
            and_right (opens_in l) (pair_eq (n, t) (m, u)) f in
            let first : is_opened j n t p k ≡ true =
            and_right (same_key k l) (is_opened j n t p k) opened in
            ap₂ (λ (z : ClusterKey) (w : ℕ). master z w j)
            (sym (same_key_is k l (and_left (same_key k l) (is_opened j n t p k) opened)))
            (sym g)
            ∙ (number_same (master k p j) n (and_left (master k p j == n)
            (not (list_any (is_done_line k n t) j)) first)
            ∙ number_same n m (and_left (nat_eq n m) (nat_eq t u) pair))

        go : (x : View) → kept_view old l ≡ Some x → (b : Bool)
            → (opens_in l && pair_eq (n, t) (m, u)) ≡ b
            → has_node (cond b (open_of x m u ++ p ∷ []) (open_of x m u)) q ≡ true
            → master l q j ≡ m
        go x there false f g = h.by_master l x m u q there g
        go x there true f g = either (has_node (open_of x m u) q) refl (p == q) refl
          where
            either : (a : Bool) → has_node (open_of x m u) q ≡ a → (b : Bool) → (p == q) ≡ b
                → master l q j ≡ m
            either true y b z = h.by_master l x m u q there y
            either false y true z = here f (number_same p q z)
            either false y false z = differ (sym (list_any-append (λ (w : ℕ). w == q)
                (open_of x m u) (p ∷ [])) ∙ g) (ap₂ (λ (a b : Bool). a || (b || false)) y z)

    pub writes_opened : SeesWrites new after
    writes_opened = record {
      done = λ l y m u e. let x : TakenFrom old l y = views l y e in
          x.2.done m u ∙ (h.done l x.0 m u x.1 ∙ sym (any-more (is_done_line l m u) j
          (line.Apply n k t d v) refl));
      open_writes = counted_after;
      by_master = master_of;
    }

-- ---- what opening it makes of the view

abbrev pub is_done_from : Option View → ℕ → ℕ → Bool
is_done_from None n t = false
is_done_from (Some x) n t = is_done_write x n t

-- the view but for its open writes stays
pub record OpensHere (opened : Bool) (n t p : ℕ) (old new : View) : Type 0 where
  pub takes : TakesOpen opened n t p old new
  pub rest : record new { partitions = old.partitions; writes = old.writes } ≡ old
  pub written : (q : ℕ) → written_of new q ≡ written_of old q

opens_none : (n t p : ℕ) (x : View) → OpensHere false n t p x x
opens_none n t p x = record {
  takes = record { stands = λ q. refl; lists = λ m u. refl; done = λ m u. refl; settled = refl };
  rest = refl;
  written = λ q. refl;
}

opens_one : (n t p : ℕ) (x y : View) → TakesWrite n t p x y → OpensHere true n t p x y
opens_one n t p x y h = record {
  takes = record {
    stands = λ q. h.stands q ∙ stand_at_it q (p == q) refl;
    lists = λ m u. h.partitions m u ∙ list_at_it m u (pair_eq (n, t) (m, u)) refl;
    done = h.done;
    settled = ap (λ (z : View). z.settled.items) h.rest;
  };
  rest = h.rest;
  written = h.written;
}
  where
    stand_at_it : (q : ℕ) (b : Bool) → (p == q) ≡ b
        → cond b (opened_stand (stand_of x p)) (stand_of x q) ≡ cond b (opened_stand (stand_of x q))
        (stand_of x q)
    stand_at_it q true e = ap (λ (z : ℕ). opened_stand (stand_of x z)) (number_same p q e)
    stand_at_it q false e = refl

    list_at_it : (m u : ℕ) (b : Bool) → pair_eq (n, t) (m, u) ≡ b
        → cond b (open_of x n t ++ p ∷ []) (open_of x m u) ≡ cond b (open_of x m u ++ p ∷ [])
        (open_of x m u)
    list_at_it m u true e = ap₂ (λ (z w : ℕ). open_of x z w ++ p ∷ [])
        (number_same n m (and_left (nat_eq n m) (nat_eq t u) e))
        (number_same t u (and_right (nat_eq n m) (nat_eq t u) e))
    list_at_it m u false e = refl

pub both_before : {A : Type 0} (R : A → A → Type 0) (o q : Option A) (y : A) → Both R o q
    → q ≡ Some y → (x : A) × (o ≡ Some x) × R x y
both_before {A} R None None y h e = absurd (no_some e)
both_before {A} R (Some a) (Some b) y h e = (a, refl, subst (R a) (some_same e) h)
both_before {A} R None (Some b) y h e = absurd h
both_before {A} R (Some a) None y h e = absurd h

module _ (k : ClusterKey) (n t p : ℕ) (old new : Judge) (c : TakesMasterWrite k n t p old new) where
  -- whether the write is open, by what was known
  abbrev pub opens_now : Bool
  opens_now = is_master_in (kept_view old k) n p && not (is_done_from (kept_view old k) n t)

  -- the view as it was
  abbrev pub OpensFrom : ClusterKey → View → Type 0
  OpensFrom l y = (x : View) × (kept_view old l ≡ Some x)
      × OpensHere (same_key k l && opens_now) n t p x y

  pub opens_rest : record new { views = old.views } ≡ old
  opens_rest = go (is_master_in (kept_view old k) n p) refl
    where
      go : (b : Bool) → is_master_in (kept_view old k) n p ≡ b
          → record new { views = old.views } ≡ old
      go true e = (c.opened e).rest
      go false e = ap (λ (s : Judge). record s { views = old.views }) (c.passed e)

  pub opens_view : (l : ClusterKey) (y : View) → kept_view new l ≡ Some y → OpensFrom l y
  opens_view l y there = go (is_master_in (kept_view old k) n p) refl
    where
      same : kept_view old l ≡ Some y → (same_key k l && opens_now) ≡ false → OpensFrom l y
      same e f = (y, e, subst (λ (b : Bool). OpensHere b n t p y y) (sym f) (opens_none n t p y))

      go : (b : Bool) → is_master_in (kept_view old k) n p ≡ b → OpensFrom l y
      go false e = same (sym (ap (λ (s : Judge). kept_view s l) (c.passed e)) ∙ there)
          (ap (λ (b : Bool). same_key k l && (b && not (is_done_from (kept_view old k) n t))) e
          ∙ and_none (same_key k l))
      go true e = at (same_key k l) refl
        where
          done : (x : View) → kept_view old k ≡ Some x → opens_now ≡ not (is_done_write x n t)
          done x f = ap₂ (λ (b : Bool) (o : Option View). b && not (is_done_from o n t)) e f

          here : (x : View) → kept_view old k ≡ Some x → OpensWrite n t p x y → (b : Bool)
              → is_done_write x n t ≡ b → OpensHere opens_now n t p x y
          here x f r true g = subst (λ (b : Bool). OpensHere b n t p x y)
              (sym (done x f ∙ ap not g)) (subst (OpensHere false n t p x) (sym (r.passed g))
              (opens_none n t p x))
          here x f r false g = subst (λ (b : Bool). OpensHere b n t p x y)
              (sym (done x f ∙ ap not g)) (opens_one n t p x y (r.taken g))

          at : (b : Bool) → same_key k l ≡ b → OpensFrom l y
          at false f = same (sym ((c.opened e).others l f) ∙ there)
              (ap (λ (b : Bool). b && opens_now) f)
          at true f =
              let x : (x : View) × (kept_view old k ≡ Some x) × OpensWrite n t p x y =
              both_before (OpensWrite n t p) (kept_view old k) (kept_view new k) y (c.opened e).here
              (ap (kept_view new) (same_key_is k l f) ∙ there) in (
                x.0,
                ap (kept_view old) (sym (same_key_is k l f)) ∙ x.1,
                subst (λ (b : Bool). OpensHere (b && opens_now) n t p x.0 y) (sym f)
                    (here x.0 x.1 x.2 (is_done_write x.0 n t) refl),
              )

-- ---- how many are open

pub open_room : (i : ℕ) (all : List Line) (test : Line → Bool) (c : ℕ)
    → c ≡ count_by test (take i all) → length (take i all) ≤ i → i < 2 ^ 63 → c < 2 ^ 64 - 1
open_room i all test c e short room = omega (
  arith,
  e,
  count_by-le-length test
      (take i all),
  short,
  room,
)
