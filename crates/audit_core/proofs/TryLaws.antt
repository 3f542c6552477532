-- What is known stays as the last line is tried.
use Rattle.std.proofs.Common.{◌≡◌, ℕ, ◌+◌, ◌<◌, ◌≤◌, ◌==◌, Bool, true, false, ◌&&◌, ◌||◌, cond, List, [], ◌∷◌, ◌++◌, Option, Some, None, ◌⊎◌, inl, inr, refl, sym, ap, subst, ◌∙◌, arith}
use Rattle.std.specs.Prelude.{is_some, nat_lt, nat_eq, fold, bytes_eq}
use Rattle.std.proofs.lemmas.Bool.{or_left}
use Rattle.std.proofs.lemmas.List.Folds.{list_any-append}
use Rattle.std.specs.HashMap as hash
use Rattle.std.specs.List.{list_any, count_by}
use Rattle.std.proofs.lemmas.Bool.Decides.{nat_tests}
use Rattle.cluster_types.specs.declared.cluster_key.ClusterKey.{ClusterKey}
use Rattle.cluster_types.specs.Partitions.{partition_of}
use Rattle.journal_lines.specs.declared.line.Line.{Line}
use Rattle.journal_readings.specs.Lines.{same_key, has_node}
use Rattle.journal_readings.specs.Settled.{is_settled, is_open_write, has_open_write}
use Rattle.journal_readings.specs.Views.{master}
use Rattle.journal_readings.proofs.AlongLaws.{no_some, some_same}
use Rattle.journal_readings.proofs.CopyLaws.{same_digest_is}
use Rattle.journal_readings.proofs.Fronts.{and_left, and_right, same_key_is}
use Rattle.audit_laws.proofs.ShapeSteps.{same_key_itself}
use Rattle.audit_laws.proofs.Tests.{differ, number_same, number_here}
use Rattle.audit_core.specs.declared.judge.Judge.{Judge}
use Rattle.audit_state.specs.declared.views.View.{View}
use Rattle.audit_state.specs.OpenWrites.{SetsStand, Suspects, Distrusts, suspect_stand, untried_stand}
use Rattle.audit_state.specs.Records.{record_number, record_digest}
use Rattle.audit_state.specs.Written.{Stand, stand_of, written_of}
use Rattle.audit_core.specs.Audits.{so_far}
use Rattle.audit_core.specs.Covering.{SeesCovers}
use Rattle.audit_core.specs.Frames.{Both}
use Rattle.audit_core.specs.Known.{kept_view}
use Rattle.audit_core.specs.Sees.{SeesView, SeesStand, IsBound, AllJoin, HasNoDoubts, IsSuspect}
use Rattle.audit_core.specs.Steps.{ChangesView}
use Rattle.audit_core.specs.Stored.{IsRecordOf, read_of}
use Rattle.audit_core.specs.Trying.{SeesLines, SeesStands, IsKnownRecord, IsTriedOf, IsTrying, tried_with_record, tried_with_partition, KeepsKnown, SameButStands}
use Rattle.audit_core.proofs.WordLaws.{both_same}

-- ---- only stands change

pub keeps_itself : (s : Judge) → KeepsKnown s s
keeps_itself s = record { rest = refl; views = λ k. both_same SameButStands (λ x. record { rest = refl; written = λ p. refl }) (kept_view s k) (kept_view s k) refl }

then_same : (a b c : View) → SameButStands a b → SameButStands b c → SameButStands a c
then_same a b c h q = record { rest = ap (λ (x : View). record x { partitions = a.partitions }) q.rest ∙ h.rest; written = λ p. q.written p ∙ h.written p }

both_then : (o p q : Option View) → Both SameButStands o p → Both SameButStands p q → Both SameButStands o q
both_then None None None h x = tt
both_then (Some a) (Some b) (Some c) h x = then_same a b c h x
both_then None None (Some c) h x = absurd x
both_then None (Some b) q h x = absurd h
both_then (Some a) None q h x = absurd h
both_then (Some a) (Some b) None h x = absurd x

pub keeps_then : (a b c : Judge) → KeepsKnown a b → KeepsKnown b c → KeepsKnown a c
keeps_then a b c h q = record {
  rest = ap (λ (s : Judge). record s { views = a.views; covers = a.covers }) q.rest ∙ h.rest;
  views = λ k. both_then (kept_view a k) (kept_view b k) (kept_view c k) (h.views k) (q.views k);
}

same_where : (k l : ClusterKey) (old new : Judge) → same_key k l ≡ true → Both SameButStands (kept_view old k) (kept_view new k) → Both SameButStands (kept_view old l) (kept_view new l)
same_where k l old new e h = subst (λ (z : ClusterKey). Both SameButStands (kept_view old z) (kept_view new z)) (same_key_is k l e) h

both_weaker : (R : View → View → Type 0) → ((a b : View) → R a b → SameButStands a b) → (o q : Option View) → Both R o q → Both SameButStands o q
both_weaker R f None None h = tt
both_weaker R f (Some a) (Some b) h = f a b h
both_weaker R f None (Some b) h = absurd h
both_weaker R f (Some a) None h = absurd h

pub changes_keep : (R : View → View → Type 0) → ((a b : View) → R a b → SameButStands a b) → (k : ClusterKey) (old new : Judge) → ChangesView R k old new → KeepsKnown old new
changes_keep R f k old new c = record {
  rest = ap (λ (s : Judge). record s { covers = old.covers }) c.rest;
  views = λ l. go l (same_key k l) refl;
}
  where
    go : (l : ClusterKey) (b : Bool) → same_key k l ≡ b → Both SameButStands (kept_view old l) (kept_view new l)
    go l true e = same_where k l old new e (both_weaker R f (kept_view old k) (kept_view new k)
        c.here)
    go l false e = both_same SameButStands (λ x. record { rest = refl; written = λ p. refl }) (kept_view old l) (kept_view new l) (c.others l e)

pub sets_keep : (p : ℕ) (x : Stand) (old new : View) → SetsStand p x old new → SameButStands old new
sets_keep p x old new h = record { rest = h.rest; written = h.written }

-- ---- what is known of the lines stays

both_there : (o q : Option View) → Both SameButStands o q → is_some q ≡ is_some o
both_there None None h = refl
both_there (Some a) (Some b) h = refl
both_there None (Some b) h = absurd h
both_there (Some a) None h = absurd h

-- the view that was there before
pub was_there : (o q : Option View) (y : View) → Both SameButStands o q → q ≡ Some y → (x : View) × (o ≡ Some x) × SameButStands x y
was_there None None y h e = absurd (no_some e)
was_there (Some a) (Some b) y h e = (a, refl, subst (SameButStands a) (some_same e) h)
was_there None (Some b) y h e = absurd h
was_there (Some a) None y h e = absurd h

view_kept : (j : List Line) (k : ClusterKey) (x y : View) → SameButStands x y → SeesView j k x → SeesView j k y
view_kept j k x y h v =
    let moved : SeesView j k (record y { partitions = x.partitions }) = subst (SeesView j k) (sym h.rest) v in
    record { key = moved.key; ranks = moved.ranks; members = moved.members; entered = moved.entered; exchanged = moved.exchanged }

pub lines_kept : (old new : Judge) (i : ℕ) → KeepsKnown old new → SeesLines old i → SeesLines new i
lines_kept old new i k h =
    let moved : SeesLines (record new { views = old.views; covers = old.covers }) i = subst (λ (s : Judge). SeesLines s i) (sym k.rest) h in
    record {
      shape = moved.shape;
      frame = record {
        header = record { policy = moved.frame.header.policy; factor = moved.frame.header.factor; declared = moved.frame.header.declared };
        nodes = moved.frame.nodes;
        known_views = λ l. both_there (kept_view old l) (kept_view new l) (k.views l) ∙ moved.frame.known_views l;
        views = λ l y e. let x : (x : View) × (kept_view old l ≡ Some x) × SameButStands x y = was_there (kept_view old l) (kept_view new l) y (k.views l) e in
            view_kept (so_far new i) l x.0 y x.2 (moved.frame.views l x.0 x.1);
        stamps = moved.frame.stamps;
      };
      stores = record {
        records = record { numbered = moved.stores.records.numbered; unbrought = moved.stores.records.unbrought; newest = moved.stores.records.newest; holders = moved.stores.records.holders };
        contents = moved.stores.contents;
        copies = moved.stores.copies;
        written = record {
          applied = λ l y r e. let x : (x : View) × (kept_view old l ≡ Some x) × SameButStands x y = was_there (kept_view old l) (kept_view new l) y (k.views l) e in
              subst (λ (z : View). Rattle.audit_state.specs.Places.placed new.lines.now (hash.get nat_eq z.applied r) ≡ read_of (λ d. Rattle.journal_readings.specs.Entries.applied_in (Rattle.journal_readings.specs.Settings.policy_of (so_far new i)) l d (so_far new i)) (record_digest new.records r)) (sym x.2.rest) (moved.stores.written.applied l x.0 r x.1);
          written = λ l y r e. let x : (x : View) × (kept_view old l ≡ Some x) × SameButStands x y = was_there (kept_view old l) (kept_view new l) y (k.views l) e in
              subst (λ (z : View). has_node z.written.items r ≡ is_some (hash.get nat_eq z.applied r)) (sym x.2.rest) (moved.stores.written.written l x.0 r x.1);
          listed = λ l y r e some. let x : (x : View) × (kept_view old l ≡ Some x) × SameButStands x y = was_there (kept_view old l) (kept_view new l) y (k.views l) e in
              let h : (u : ℕ) × IsRecordOf new.records r u × (has_node (written_of x.0 u) r ≡ true) = moved.stores.written.listed l x.0 r x.1 (subst (λ (z : View). is_some (hash.get nat_eq z.applied r) ≡ true) x.2.rest some) in
              (h.0, h.1, ap (λ (ns : List ℕ). has_node ns r) (x.2.written h.0) ∙ h.2);
          listed_only = λ l y u r e h. let x : (x : View) × (kept_view old l ≡ Some x) × SameButStands x y = was_there (kept_view old l) (kept_view new l) y (k.views l) e in
              moved.stores.written.listed_only l x.0 u r x.1 (ap (λ (ns : List ℕ). has_node ns r) (sym (x.2.written u)) ∙ h);
        };
      };
    }

pub record_kept : (old new : Judge) (r p : ℕ) (d : List ℕ) → KeepsKnown old new → IsKnownRecord old r p d → IsKnownRecord new r p d
record_kept old new r p d k h =
    let moved : IsKnownRecord (record new { views = old.views; covers = old.covers }) r p d = subst (λ (s : Judge). IsKnownRecord s r p d) (sym k.rest) h in
    record { named = moved.named; part = moved.part }

pub front_kept : (old new : Judge) (i : ℕ) → KeepsKnown old new → so_far new i ≡ so_far old i
front_kept old new i k = ap (λ (s : Judge). so_far s i) k.rest

pub covers_kept : (old new : Judge) (i : ℕ) → record new { views = old.views } ≡ old → SeesCovers old i → SeesCovers new i
covers_kept old new i rest h = λ n m p c number e.
    let moved : SeesCovers (record new { views = old.views }) i = subst (λ (s : Judge). SeesCovers s i) (sym rest) h in
    record { held = (moved n m p c number e).held; of = (moved n m p c number e).of; covers = (moved n m p c number e).covers }

-- ---- more is tried

-- it joins, or was tried before
pub widened : (s : Judge) (i : ℕ) (those more : ClusterKey → List ℕ → Bool) → ((l : ClusterKey) (e : List ℕ) → more l e ≡ true → (those l e ≡ true) ⊎ (IsBound l (partition_of e) (so_far s i) → AllJoin l e (so_far s i)))
    → IsTrying s i those → IsTrying s i more
widened s i those more h t = record {
  stands = t.stands;
  listed = t.listed;
  unsettled = t.unsettled;
  tried = λ l p x there bound. record {
    closed = (t.tried l p x there bound).closed;
    joined = λ untried e part m apart. go l p e part bound (h l e m) (λ q. (t.tried l p x there bound).joined untried e part q apart);
  };
  covers = t.covers;
}
  where
    go : (l : ClusterKey) (p : ℕ) (e : List ℕ) → partition_of e ≡ p → IsBound l p (so_far s i) → (those l e ≡ true) ⊎ (IsBound l (partition_of e) (so_far s i) → AllJoin l e (so_far s i)) → (those l e ≡ true → AllJoin l e (so_far s i)) → AllJoin l e (so_far s i)
    go l p e part bound (inl q) rest = rest q
    go l p e part bound (inr f) rest = f (subst (λ (q : ℕ). IsBound l q (so_far s i)) (sym part) bound)

either : (a b : Bool) → (a || b) ≡ true → (a ≡ true) ⊎ (b ≡ true)
either true b e = inl refl
either false b e = inr e

-- one record more
pub record_cases : (those : ClusterKey → List ℕ → Bool) (k : ClusterKey) (d : List ℕ) (l : ClusterKey) (e : List ℕ) → tried_with_record those k d l e ≡ true → (those l e ≡ true) ⊎ ((k ≡ l) × (d ≡ e))
record_cases those k d l e m = go (either (those l e) _ m)
  where
    go : (those l e ≡ true) ⊎ ((same_key k l && bytes_eq d e) ≡ true) → (those l e ≡ true) ⊎ ((k ≡ l) × (d ≡ e))
    go (inl q) = inl q
    go (inr q) = inr (same_key_is k l (and_left (same_key k l) _ q), same_digest_is d e (and_right (same_key k l) _ q))

-- a partition more
pub partition_cases : (those : ClusterKey → List ℕ → Bool) (k : ClusterKey) (p : ℕ) (l : ClusterKey) (e : List ℕ) → tried_with_partition those k p l e ≡ true → (those l e ≡ true) ⊎ ((k ≡ l) × (p ≡ partition_of e))
partition_cases those k p l e m = go (either (those l e) _ m)
  where
    go : (those l e ≡ true) ⊎ ((same_key k l && (p == partition_of e)) ≡ true) → (those l e ≡ true) ⊎ ((k ≡ l) × (p ≡ partition_of e))
    go (inl q) = inl q
    go (inr q) = inr (same_key_is k l (and_left (same_key k l) _ q), number_same p (partition_of e) (and_right (same_key k l) _ q))

pub record_widened : (s : Judge) (i : ℕ) (k : ClusterKey) (d : List ℕ) (those : ClusterKey → List ℕ → Bool) → (IsBound k (partition_of d) (so_far s i) → AllJoin k d (so_far s i)) → IsTrying s i those → IsTrying s i (tried_with_record those k d)
record_widened s i k d those h t = widened s i those (tried_with_record those k d) (λ l e m. go l e (record_cases those k d l e m)) t
  where
    go : (l : ClusterKey) (e : List ℕ) → (those l e ≡ true) ⊎ ((k ≡ l) × (d ≡ e)) → (those l e ≡ true) ⊎ (IsBound l (partition_of e) (so_far s i) → AllJoin l e (so_far s i))
    go l e (inl q) = inl q
    go l e (inr q) = inr (subst (λ (z : ClusterKey). IsBound z (partition_of e) (so_far s i) → AllJoin z e (so_far s i)) q.0 (subst (λ (z : List ℕ). IsBound k (partition_of z) (so_far s i) → AllJoin k z (so_far s i)) q.1 h))

pub partition_widened : (s : Judge) (i : ℕ) (k : ClusterKey) (p : ℕ) (those : ClusterKey → List ℕ → Bool) → (IsBound k p (so_far s i) → (d : List ℕ) → partition_of d ≡ p → AllJoin k d (so_far s i)) → IsTrying s i those → IsTrying s i (tried_with_partition those k p)
partition_widened s i k p those h t = widened s i those (tried_with_partition those k p) (λ l e m. go l e (partition_cases those k p l e m)) t
  where
    go : (l : ClusterKey) (e : List ℕ) → (those l e ≡ true) ⊎ ((k ≡ l) × (p ≡ partition_of e)) → (those l e ≡ true) ⊎ (IsBound l (partition_of e) (so_far s i) → AllJoin l e (so_far s i))
    go l e (inl q) = inl q
    go l e (inr q) = inr (subst (λ (z : ClusterKey). IsBound z (partition_of e) (so_far s i) → AllJoin z e (so_far s i)) q.0
        (λ bound. h (subst (λ (z : ℕ). IsBound k z (so_far s i)) (sym q.1) bound) e (sym q.1)))

-- ---- the stand of a partition changes

-- what is asked of the change
pub record IsNoted (old new : Judge) (i : ℕ) (k : ClusterKey) (p : ℕ) (f : Stand → Stand) (those more : ClusterKey → List ℕ → Bool) : Type 0 where
  pub settled : is_settled k p (so_far old i) ≡ true
  pub line : (x : Stand) → (f x).settled ≡ x.settled
  pub open_writes : (x : Stand) → (f x).open_writes ≡ x.open_writes
  pub tried : (x : View) → kept_view old k ≡ Some x → IsTriedOf (those k) new (so_far old i) k p (stand_of x p) → IsTriedOf (more k) new (so_far old i) k p (f (stand_of x p))
  pub others : (l : ClusterKey) (e : List ℕ) → more l e ≡ true → (those l e ≡ true) ⊎ ((k ≡ l) × (p ≡ partition_of e))

module _ (old new : Judge) (i : ℕ) (k : ClusterKey) (p : ℕ) (f : Stand → Stand) (those more : ClusterKey → List ℕ → Bool) (c : ChangesView (λ a b. SetsStand p (f (stand_of a p)) a b) k old new) (h : IsNoted old new i k p f those more) (t : IsTrying old i those) where
  same : so_far new i ≡ so_far old i
  same = ap (λ (s : Judge). so_far s i) c.rest

  moved : IsTrying (record new { views = old.views }) i those
  moved = subst (λ (s : Judge). IsTrying s i those) (sym c.rest) t

  -- the view as it was
  was : (o q : Option View) (y : View) → Both (λ a b. SetsStand p (f (stand_of a p)) a b) o q → q ≡ Some y → (x : View) × (o ≡ Some x) × SetsStand p (f (stand_of x p)) x y
  was None None y b e = absurd (no_some e)
  was (Some a) (Some b) y r e = (a, refl, subst (SetsStand p (f (stand_of a p)) a) (some_same e) r)
  was None (Some b) y r e = absurd r
  was (Some a) None y r e = absurd r

  -- of each view and each partition, what holds of the stands that it had holds of those that it has
  each : (P : ClusterKey → ℕ → View → Stand → Type 0) → ((l : ClusterKey) (q : ℕ) (x : View) → kept_view old l ≡ Some x → ((k ≡ l) × (p ≡ q) → ⊥) → P l q x (stand_of x q)) → ((x : View) → kept_view old k ≡ Some x → P k p x (f (stand_of x p)))
      → ((l : ClusterKey) (q : ℕ) (x y : View) (z : Stand) → SameButStands x y → P l q x z → P l q y z) → (l : ClusterKey) (q : ℕ) (y : View) → kept_view new l ≡ Some y → P l q y (stand_of y q)
  each P before here moves l q y e = go (same_key k l) refl
    where
      at : (x : View) → kept_view old k ≡ Some x → SetsStand p (f (stand_of x p)) x y → P k q y (stand_of y q)
      at x there r = subst (P k q y) (sym (r.stands q)) (moves k q x y (cond (nat_eq p q) (f (stand_of x p)) (stand_of x q)) (sets_keep p (f (stand_of x p)) x y r) (choose (nat_eq p q) refl))
        where
          choose : (b : Bool) → nat_eq p q ≡ b → P k q x (cond b (f (stand_of x p)) (stand_of x q))
          choose true i = subst (λ (m : ℕ). P k m x (f (stand_of x p))) (number_same p q i) (here x there)
          choose false i = before k q x there (λ w. differ (ap (nat_eq p) (sym w.1) ∙ number_here p) i)

      go : (b : Bool) → same_key k l ≡ b → P l q y (stand_of y q)
      go true i =
          let z : (x : View) × (kept_view old k ≡ Some x) × SetsStand p (f (stand_of x p)) x y = was (kept_view old k) (kept_view new k) y c.here (ap (λ (m : ClusterKey). kept_view new m) (same_key_is k l i) ∙ e) in
          subst (λ (m : ClusterKey). P m q y (stand_of y q)) (same_key_is k l i) (at z.0 z.1 z.2)
      go false i = before l q y (sym (c.others l i) ∙ e) (λ w. differ (ap (same_key k) (sym w.0) ∙ same_key_itself k) i)

  pub noted : IsTrying new i more
  noted = record {
    stands = each (λ l q x z. SeesStand (so_far new i) l q z) (λ l q x there apart. moved.stands l q x there)
        (λ x there. record { settled = h.line (stand_of x p) ∙ (moved.stands k p x there).settled; open_writes = h.open_writes (stand_of x p) ∙ (moved.stands k p x there).open_writes })
        (λ l q x y z r w. w);
    listed = each (λ l q x z. has_node x.settled.items q ≡ z.settled) (λ l q x there apart. moved.listed l q x there)
        (λ x there. moved.listed k p x there ∙ sym (h.line (stand_of x p)))
        (λ l q x y z r w. ap (λ (v : View). has_node v.settled.items q) r.rest ∙ w);
    unsettled = each (λ l q x z. is_settled l q (so_far new i) ≡ false → HasNoDoubts z) (λ l q x there apart. moved.unsettled l q x there)
        (λ x there none. differ (ap (is_settled k p) same ∙ h.settled) none)
        (λ l q x y z r w. w);
    tried = each (λ l q x z. IsBound l q (so_far new i) → IsTriedOf (more l) new (so_far new i) l q z)
        (λ l q x there apart bound. record {
          closed = (kept l q x there bound).closed;
          joined = λ untried e part m unsuspected. among l q e part apart (h.others l e m) (λ w. (kept l q x there bound).joined untried e part w unsuspected);
        })
        (λ x there bound. subst (λ (j : List Line). IsTriedOf (more k) new j k p (f (stand_of x p))) (sym same)
        (h.tried x there (subst (λ (j : List Line). IsTriedOf (those k) new j k p (stand_of x p)) same (kept k p x there bound))))
        (λ l q x y z r w. w);
    covers = covers_kept old new i c.rest t.covers;
  }
    where
      among : (l : ClusterKey) (q : ℕ) (e : List ℕ) → partition_of e ≡ q → ((k ≡ l) × (p ≡ q) → ⊥) → (those l e ≡ true) ⊎ ((k ≡ l) × (p ≡ partition_of e)) → (those l e ≡ true → AllJoin l e (so_far new i)) → AllJoin l e (so_far new i)
      among l q e part apart (inl w) rest = rest w
      among l q e part apart (inr w) rest = absurd (apart (w.0, w.1 ∙ part))

      kept : (l : ClusterKey) (q : ℕ) (x : View) → kept_view old l ≡ Some x → IsBound l q (so_far new i) → IsTriedOf (those l) new (so_far new i) l q (stand_of x q)
      kept l q x there bound = record { closed = (moved.tried l q x there bound).closed; joined = (moved.tried l q x there bound).joined }

-- ---- a record is tried later

-- what isn't open isn't counted
pub open_not_none : (n : ℕ) → nat_lt 0 n ≡ true → n ≡ 0 → ⊥
open_not_none n e z = differ (sym (ap (nat_lt 0) z) ∙ e) refl

listed_here : (rs : List ℕ) (r : ℕ) → has_node (rs ++ r ∷ []) r ≡ true
listed_here rs r = list_any-append (λ m. m == r) rs (r ∷ []) ∙ go (has_node rs r) (r == r) (number_here r)
  where
    go : (a b : Bool) → b ≡ true → (a || (b || false)) ≡ true
    go true b q = refl
    go false true q = refl
    go false false q = q

listed_more : (rs : List ℕ) (r q : ℕ) → has_node rs q ≡ true → has_node (rs ++ r ∷ []) q ≡ true
listed_more rs r q e = list_any-append (λ m. m == q) rs (r ∷ []) ∙ or_left (has_node rs q) _ e

pub later_record : (old new : Judge) (i : ℕ) (k : ClusterKey) (r p : ℕ) (d : List ℕ) (those : ClusterKey → List ℕ → Bool) (x : View) → ChangesView (Suspects r p) k old new → kept_view old k ≡ Some x → nat_lt 0 (stand_of x p).open_writes ≡ true
    → is_settled k p (so_far old i) ≡ true → record_number new.records d ≡ Some r → partition_of d ≡ p → IsTrying old i those → IsTrying new i (tried_with_record those k d)
later_record old new i k r p d those x c there counted settled number part t = noted old new i k p (suspect_stand r) those (tried_with_record those k d) c (record {
  settled = settled;
  line = λ z. refl;
  open_writes = λ z. refl;
  tried = λ y e w. record {
    closed = λ none. absurd (open_not_none (stand_of y p).open_writes (subst (λ (z : View). nat_lt 0 (stand_of z p).open_writes ≡ true) (some_same (sym there ∙ e)) counted) none);
    joined = λ untried f q m apart. go y f w untried q apart (record_cases those k d k f m);
  };
  others = λ l f m. also l f (record_cases those k d l f m);
}) t
  where
    also : (l : ClusterKey) (f : List ℕ) → (those l f ≡ true) ⊎ ((k ≡ l) × (d ≡ f)) → (those l f ≡ true) ⊎ ((k ≡ l) × (p ≡ partition_of f))
    also l f (inl q) = inl q
    also l f (inr q) = inr (q.0, sym part ∙ ap partition_of q.1)

    go : (y : View) (f : List ℕ) → IsTriedOf (those k) new (so_far old i) k p (stand_of y p) → (stand_of y p).untried ≡ false → partition_of f ≡ p → (IsSuspect new (suspect_stand r (stand_of y p)) f → ⊥)
        → (those k f ≡ true) ⊎ ((k ≡ k) × (d ≡ f)) → AllJoin k f (so_far old i)
    go y f w untried q apart (inl m) = w.joined untried f q m (λ z. apart (z.0, z.1, listed_more (stand_of y p).suspects r z.0 z.2))
    go y f w untried q apart (inr m) = absurd (apart (r, ap (record_number new.records) (sym m.1) ∙ number, listed_here (stand_of y p).suspects r))

pub later_partition : (old new : Judge) (i : ℕ) (k : ClusterKey) (p : ℕ) (those : ClusterKey → List ℕ → Bool) (x : View) → ChangesView (Distrusts p) k old new → kept_view old k ≡ Some x → nat_lt 0 (stand_of x p).open_writes ≡ true
    → is_settled k p (so_far old i) ≡ true → IsTrying old i those → IsTrying new i (tried_with_partition those k p)
later_partition old new i k p those x c there counted settled t = noted old new i k p untried_stand those (tried_with_partition those k p) c (record {
  settled = settled;
  line = λ z. refl;
  open_writes = λ z. refl;
  tried = λ y e w. record {
    closed = λ none. absurd (open_not_none (stand_of y p).open_writes (subst (λ (z : View). nat_lt 0 (stand_of z p).open_writes ≡ true) (some_same (sym there ∙ e)) counted) none);
    joined = λ untried. differ refl untried;
  };
  others = λ l f m. partition_cases those k p l f m;
}) t

-- ---- how it stops

counted_from : (test : Line → Bool) (ls : List Line) (c : ℕ) → c ≤ fold (λ (b : ℕ) (x : Line). b + cond (test x) 1 0) c ls
counted_from test [] c = omega arith
counted_from test (l ∷ ls) c = let rest : c + cond (test l) 1 0 ≤ fold (λ (b : ℕ) (x : Line). b + cond (test x) 1 0) (c + cond (test l) 1 0) ls = counted_from test ls (c + cond (test l) 1 0) in omega (arith, rest)

some_from : (test : Line → Bool) (ls : List Line) (c : ℕ) → list_any test ls ≡ true → c < fold (λ (b : ℕ) (x : Line). b + cond (test x) 1 0) c ls
some_from test [] c e = differ e refl
some_from test (l ∷ ls) c e = go (test l) e (λ n. counted_from test ls n) (λ n. some_from test ls n)
  where
    go : (b : Bool) → (b || list_any test ls) ≡ true → ((n : ℕ) → n ≤ fold (λ (a : ℕ) (x : Line). a + cond (test x) 1 0) n ls) → ((n : ℕ) → list_any test ls ≡ true → n < fold (λ (a : ℕ) (x : Line). a + cond (test x) 1 0) n ls)
        → c < fold (λ (a : ℕ) (x : Line). a + cond (test x) 1 0) (c + cond b 1 0) ls
    go true q above more = omega (arith, above (c + 1))
    go false q above more = let rest : c + 0 < fold (λ (a : ℕ) (x : Line). a + cond (test x) 1 0) (c + 0) ls = more (c + 0) q in omega (arith, rest)

some_lines : (test : Line → Bool) (ls : List Line) → list_any test ls ≡ true → count_by test ls ≡ 0 → ⊥
some_lines test ls e z = let some : 0 < count_by test ls = some_from test ls 0 e in absurd (omega (arith, some, z))

pub none_counted : (test : Line → Bool) (ls : List Line) → count_by test ls ≡ 0 → list_any test ls ≡ false
none_counted test ls e = go (list_any test ls) refl
  where
    go : (b : Bool) → list_any test ls ≡ b → b ≡ false
    go false q = refl
    go true q = absurd (some_lines test ls q e)

-- where none is counted none is open
pub closed_so : (s : Judge) (i : ℕ) (k : ClusterKey) (p : ℕ) (x : View) → SeesStands s i → kept_view s k ≡ Some x → nat_lt 0 (stand_of x p).open_writes ≡ false → has_open_write k p (so_far s i) ≡ false
unfolding has_open_write
closed_so s i k p x stands there e = none_counted (is_open_write k p (master k p (so_far s i)) (so_far s i)) (so_far s i) (sym (stands k p x there).open_writes ∙ zero_is (stand_of x p).open_writes e)
  where
    zero_is : (n : ℕ) → nat_lt 0 n ≡ false → n ≡ 0
    zero_is n q = grind (arith, nat_tests)
