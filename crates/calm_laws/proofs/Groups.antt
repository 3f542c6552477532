-- From the eleventh round on each up node hears just the up nodes that are near to it.
use Rattle.std.proofs.Common.{◌≡◌, ℕ, zero, suc, ◌+◌, ◌<◌, ◌≤◌, ◌==◌, ◌&&◌, ◌||◌, not, Bool, true, false, cond, List, [], ◌∷◌, map, Option, Some, None, refl, sym, ap, subst, ◌∙◌, ◌⊎◌, inl, inr, arith, nat_lt}
use Rattle.std.specs.Prelude.{unwrap_or}
use Rattle.std.specs.List.{list_any}
use mathlib.Core.List.{reverse_aux}
use Rattle.std.specs.FinMap.Entries.{by_order}
use Rattle.std.specs.declared.cmp.Ordering.{Ordering}
use Rattle.std.specs.declared.cmp.Ordering.TheVariants.{Less, Equal, Greater}
use Rattle.std.specs.Ordering.{nat_cmp, is_eq}
use Rattle.std.proofs.lemmas.Bool.Decides.{nat_tests}
use Rattle.cluster_types.specs.Groups.{apart}
use Rattle.wire_messages.specs.declared.message.Message.TheVariants as message
use Rattle.partition_lists.proofs.InOrderLaws.{equal}
use Rattle.node_rules.specs.Hearing.{Heard, aged, older, timeout, heard_ids}
use Rattle.node_rules.specs.Tables.{Table, table_with, contains}
use Rattle.journal_readings.specs.Lines.{has_node}
use Rattle.cluster_rules.specs.Network.{are_apart}
use Rattle.cluster_rules.specs.World.{World, is_up}
use Rattle.cluster_rules.proofs.KeptFacts.{num_same}
use Rattle.cluster_laws.proofs.At.{differ}
use Rattle.cluster_laws.proofs.GroundLaws.{apart as differs_from}
use Rattle.run_laws.specs.Tied.{Among}
use Rattle.node_rules.specs.Messages.{client}
use Rattle.calm_laws.specs.Acts.{Input, Ticks, Gets}
use Rattle.calm_laws.specs.Letters.{arriving_at}
use Rattle.calm_laws.specs.Flows.{Base, Foreign, Fresh, HeardAs, Near, Rounded, Speaks, Ticked, inbox, look, new_heard, beat_entry}
use Rattle.calm_laws.proofs.Hearing.{base_kept, Framed, round_frame, fresh, Told, ticks_beats, quiet_after, flow_heard, ticks_heard, weaker}
use Rattle.calm_laws.proofs.Hears.{hear, hear_all, ties, BeatIs, BeatsAre, hear_append}

-- ---- who is named

any_onto : (test : ℕ → Bool) (xs ys : List ℕ) → (list_any test xs ≡ true) ⊎ (list_any test ys ≡ true) → list_any test (reverse_aux xs ys) ≡ true
any_onto test [] ys (inl e) = differ e refl
any_onto test [] ys (inr e) = e
any_onto test (x ∷ xs) ys h = any_onto test xs (x ∷ ys) (go (test x) h)
  where
    go : (b : Bool) → ((b || list_any test xs) ≡ true) ⊎ (list_any test ys ≡ true) → (list_any test xs ≡ true) ⊎ ((b || list_any test ys) ≡ true)
    go true h = inr refl
    go false (inl e) = inl e
    go false (inr e) = inr e

named_in : (t : Table Heard) (m : ℕ) (h : Heard) → look t m ≡ Some h → list_any (λ (x : ℕ). x == m) (map (λ (e : ℕ × Heard). e.0) t) ≡ true
named_in [] m h e = absurd (grind (arith, e))
named_in (x ∷ t) m h e = go (m == x.0) refl (ap (λ (b : Bool). cond b (Some x.1) (look t m)) (sym (ties m x.0)) ∙ e) (named_in t m h)
  where
    go : (b : Bool) → (m == x.0) ≡ b → cond b (Some x.1) (look t m) ≡ Some h → (look t m ≡ Some h → list_any (λ (y : ℕ). y == m) (map (λ (y : ℕ × Heard). y.0) t) ≡ true)
        → ((x.0 == m) || list_any (λ (y : ℕ). y == m) (map (λ (y : ℕ × Heard). y.0) t)) ≡ true
    go true s f rest = ap (λ (b : Bool). b || list_any (λ (y : ℕ). y == m) (map (λ (y : ℕ × Heard). y.0) t)) (equal x.0 m (sym (num_same m x.0 s)))
    go false s f rest = later (x.0 == m) (rest f)
      where
        later : (b : Bool) → list_any (λ (y : ℕ). y == m) (map (λ (y : ℕ × Heard). y.0) t) ≡ true → (b || list_any (λ (y : ℕ). y == m) (map (λ (y : ℕ × Heard). y.0) t)) ≡ true
        later true g = refl
        later false g = g

-- whom a node hears, that it names
pub hears_names : (t : Table Heard) (m : ℕ) (h : Heard) → look t m ≡ Some h → contains (heard_ids t) m ≡ true
hears_names t m h e = any_onto (λ (x : ℕ). x == m) (map (λ (x : ℕ × Heard). x.0) t) [] (inl (named_in t m h e))

-- ---- ages

-- an entry that isn't too old stays
pub look_aged : (t : Table Heard) (m : ℕ) (h : Heard) → look t m ≡ Some h → nat_lt (h.age + 1) timeout ≡ true → look (aged t) m ≡ Some (record { age = h.age + 1; beat = h.beat })
look_aged [] m h e y = absurd (grind (arith, e))
look_aged (x ∷ t) m h e y = go (m == x.0) refl (ap (λ (b : Bool). cond b (Some x.1) (look t m)) (sym (ties m x.0)) ∙ e) (λ f. look_aged t m h f y)
  where
    old : Heard
    old = (older x).1

    some_same : Some x.1 ≡ Some h → x.1 ≡ h
    some_same f = ap (λ (o : Option Heard). unwrap_or o h) f

    at : (c : Bool) → look (cond c (older x ∷ aged t) (aged t)) m ≡ cond c (cond (m == x.0) (Some old) (look (aged t) m)) (look (aged t) m)
    at true = ap (λ (b : Bool). cond b (Some old) (look (aged t) m)) (ties m x.0)
    at false = refl

    go : (b : Bool) → (m == x.0) ≡ b → cond b (Some x.1) (look t m) ≡ Some h → (look t m ≡ Some h → look (aged t) m ≡ Some (record { age = h.age + 1; beat = h.beat })) → look (aged (x ∷ t)) m ≡ Some (record { age = h.age + 1; beat = h.beat })
    go true s f rest =
        at (nat_lt old.age timeout)
        ∙ ap (λ (c : Bool). cond c (cond (m == x.0) (Some old) (look (aged t) m)) (look (aged t) m)) (ap (λ (z : Heard). nat_lt (z.age + 1) timeout) (some_same f) ∙ y)
        ∙ ap (λ (b : Bool). cond b (Some old) (look (aged t) m)) s
        ∙ ap (λ (z : Heard). Some (record { age = z.age + 1; beat = z.beat })) (some_same f)
    go false s f rest =
        at (nat_lt old.age timeout)
        ∙ ap (λ (b : Bool). cond (nat_lt old.age timeout) (cond b (Some old) (look (aged t) m)) (look (aged t) m)) s
        ∙ same (nat_lt old.age timeout)
        ∙ rest f
      where
        same : (c : Bool) → cond c (look (aged t) m) (look (aged t) m) ≡ look (aged t) m
        same true = refl
        same false = refl

-- each entry of that node is such
abbrev pub Entries : (Heard → Type 0) → ℕ → Table Heard → Type 0
Entries P a [] = Unit {0}
Entries P a (e ∷ es) = (e.0 ≡ a → P e.1) × Entries P a es

entries_aged : (P Q : Heard → Type 0) → ((h : Heard) → P h → nat_lt (h.age + 1) timeout ≡ true → Q (record { age = h.age + 1; beat = h.beat })) → (a : ℕ) (t : Table Heard) → Entries P a t → Entries Q a (aged t)
entries_aged P Q f a [] h = tt
entries_aged P Q f a (e ∷ t) h = go (nat_lt (older e).1.age timeout) refl (entries_aged P Q f a t h.1)
  where
    go : (b : Bool) → nat_lt (older e).1.age timeout ≡ b → Entries Q a (aged t) → Entries Q a (cond b (older e ∷ aged t) (aged t))
    go true s rest = (λ i. f e.1 (h.0 i) s, rest)
    go false s rest = rest

entries_put : (P : Heard → Type 0) (a b : ℕ) (x : Heard) (t : Table Heard) → (b ≡ a → ⊥) → Entries P a t → Entries P a (table_with t b x)
entries_put P a b x [] d h = (λ i. absurd (d i), tt)
entries_put P a b x (e ∷ t) d h = go (nat_cmp b e.0) refl (entries_put P a b x t d h.1)
  where
    tie : nat_cmp b e.0 ≡ Equal → b ≡ e.0
    tie s = num_same b e.0 (sym (ties b e.0) ∙ ap is_eq s)

    go : (r : Ordering) → nat_cmp b e.0 ≡ r → Entries P a (table_with t b x) → Entries P a (by_order r ((b, x) ∷ e ∷ t) ((e.0, x) ∷ t) (e ∷ table_with t b x))
    go Less s rest = (λ i. absurd (d i), h)
    go Equal s rest = (λ i. absurd (d (tie s ∙ i)), h.1)
    go Greater s rest = (h.0, rest)

entries_hear : (P : Heard → Type 0) (a : ℕ) (t : Table Heard) (i : Input) → BeatIs (λ h. ⊥) a i → Entries P a t → Entries P a (hear t i)
entries_hear P a t Ticks g h = h
entries_hear P a t (Gets b (message.Heartbeat view promised hears role)) g h = entries_put P a b (new_heard view promised hears role) t g h
entries_hear P a t (Gets b m) g h = h

entries_all : (P : Heard → Type 0) (a : ℕ) (is : List Input) (t : Table Heard) → BeatsAre (λ h. ⊥) a is → Entries P a t → Entries P a (hear_all t is)
entries_all P a [] t g h = h
entries_all P a (i ∷ is) t g h = entries_all P a is (hear t i) g.1 (entries_hear P a t i g.0 h)

pub absent : (a : ℕ) (t : Table Heard) → Entries (λ h. ⊥) a t → look t a ≡ None
absent a [] h = refl
absent a (e ∷ t) h =
    ap (λ (b : Bool). cond b (Some e.1) (look t a)) (ties a e.0 ∙ differs_from a e.0 (λ s. h.0 (sym s)))
    ∙ absent a t h.1

entries_any : (a : ℕ) (t : Table Heard) → Entries (λ h. 0 ≤ h.age) a t
entries_any a [] = tt
entries_any a (e ∷ t) = (λ i. omega arith, entries_any a t)

-- ---- a round in which no beat of a node can come

none_told : (B : Heard → Type 0) (a : ℕ) (is : List Input) → ((h : Heard) → B h → ⊥) → BeatsAre B a is → BeatsAre (λ h. ⊥) a is
none_told B a [] f g = tt
none_told B a (i ∷ is) f g = (one i g.0, none_told B a is f g.1)
  where
    one : (i : Input) → BeatIs B a i → BeatIs (λ h. ⊥) a i
    one Ticks k = tt
    one (Gets b (message.Heartbeat view promised hears role)) k = λ e. f (new_heard view promised hears role) (k e)
    one (Gets b m) k = tt

foreign_round : (n : ℕ) (ns : List ℕ) (w v : World) → Base ns w → Rounded n w v → ((a : ℕ) → has_node ns a ≡ true → Speaks (w.facts a)) → (a m : ℕ) → has_node ns m ≡ true → Foreign ns w a m → BeatsAre (λ h. ⊥) a (inbox w m)
    → (P Q : Heard → Type 0) → ((h : Heard) → P h → nat_lt (h.age + 1) timeout ≡ true → Q (record { age = h.age + 1; beat = h.beat })) → Entries P a (w.facts m).hearing.heard → Entries Q a (v.facts m).hearing.heard
foreign_round n ns w v b r speaks a m here foreign quiet P Q f h =
    let t : World = r.ticks_end in
    let k : Ticked n w t ns = subst (λ (xs : List ℕ). Ticked n w t xs) b.ups r.ticks in
    let none : BeatsAre (λ h. ⊥) a (arriving_at t m k.posted) = none_told (Told ns w t a m) a (arriving_at t m k.posted) (never k foreign) (ticks_beats n ns w t k b.up a m (speaks a)) in
    let zero_ : Entries Q a (t.facts m).hearing.heard = subst (λ (x : Table Heard). Entries Q a x) (sym (ticks_heard n ns w t m k here (b.up m here))) (entries_aged P Q f a (w.facts m).hearing.heard h) in
    let one : Entries Q a (r.first_end.facts m).hearing.heard =
    subst (λ (x : Table Heard). Entries Q a x) (sym (flow_heard n t r.first_end m r.first ∙ ap (λ (is : List Input). hear_all (t.facts m).hearing.heard is) (k.inbox m) ∙ hear_append (t.facts m).hearing.heard (inbox w m) (arriving_at t m k.posted)))
    (entries_all Q a (arriving_at t m k.posted) (hear_all (t.facts m).hearing.heard (inbox w m)) none (entries_all Q a (inbox w m) (t.facts m).hearing.heard quiet zero_)) in
    let two : Entries Q a (r.second_end.facts m).hearing.heard = subst (λ (x : Table Heard). Entries Q a x) (sym (flow_heard n r.first_end r.second_end m r.second)) (entries_all Q a (inbox r.first_end m) (r.first_end.facts m).hearing.heard (quiet_after n t r.first_end r.first (λ h. ⊥) a m) one) in
    let three : Entries Q a (r.third_end.facts m).hearing.heard = subst (λ (x : Table Heard). Entries Q a x) (sym (flow_heard n r.second_end r.third_end m r.third)) (entries_all Q a (inbox r.second_end m) (r.second_end.facts m).hearing.heard (quiet_after n r.first_end r.second_end r.second (λ h. ⊥) a m) two) in
    subst (λ (x : Table Heard). Entries Q a x) (sym (flow_heard n r.third_end v m r.fourth)) (entries_all Q a (inbox r.third_end m) (r.third_end.facts m).hearing.heard (quiet_after n r.second_end r.third_end r.third (λ h. ⊥) a m) three)
  where
    never : Ticked n w r.ticks_end ns → Foreign ns w a m → (h : Heard) → Told ns w r.ticks_end a m h → ⊥
    never k (inl out) h x = differ x.ticks out
    never k (inr away) h x =
        let same : are_apart r.ticks_end.network a m ≡ true = ap (λ (gs : List (List ℕ)). not (a == client) && (not (m == client) && apart gs a m)) k.groups ∙ away in
        differ (ap (λ (c : Bool). c || (not (m == client) && not (is_up r.ticks_end m))) same) x.free

-- ---- rounds

-- worlds, each a round after the one before it
pub record Rounds (n : ℕ) (ns : List ℕ) (W : ℕ → World) (most : ℕ) : Type 0 where
  pub base : Base ns (W 0)
  pub round : (k : ℕ) → k < most → Rounded n (W k) (W (suc k))
  pub speaks : (k : ℕ) → k < most → (a : ℕ) → has_node ns a ≡ true → Speaks ((W k).facts a)

pub base_at : (n : ℕ) (ns : List ℕ) (W : ℕ → World) (most : ℕ) → Rounds n ns W most → (k : ℕ) → k ≤ most → Base ns (W k)
base_at n ns W most r zero le = r.base
base_at n ns W most r (suc k) le = base_kept n ns (W k) (W (suc k)) (base_at n ns W most r k (omega (arith, le))) (r.round k (omega (arith, le)))

pub near_round : (ns : List ℕ) (w v : World) → Framed w v → (a m : ℕ) → Near ns w a m → Near ns v a m
near_round ns w v f a m h = record {
  sender = h.sender;
  receiver = h.receiver;
  together = ap (λ (gs : List (List ℕ)). not (a == client) && (not (m == client) && apart gs a m)) f.groups ∙ h.together;
  node = h.node;
  peer = subst (λ (ps : List ℕ). Among ps m) (sym (f.same a).peers) h.peer;
}

pub near_at : (n : ℕ) (ns : List ℕ) (W : ℕ → World) (most : ℕ) → Rounds n ns W most → (a m : ℕ) → Near ns (W 0) a m → (k : ℕ) → k ≤ most → Near ns (W k) a m
near_at n ns W most r a m h zero le = h
near_at n ns W most r a m h (suc k) le = near_round ns (W k) (W (suc k)) (round_frame n (W k) (W (suc k)) (r.round k (omega (arith, le)))) a m (near_at n ns W most r a m h k (omega (arith, le)))

foreign_at : (n : ℕ) (ns : List ℕ) (W : ℕ → World) (most : ℕ) → Rounds n ns W most → (a m : ℕ) → Foreign ns (W 0) a m → (k : ℕ) → k ≤ most → Foreign ns (W k) a m
foreign_at n ns W most r a m h zero le = h
foreign_at n ns W most r a m h (suc k) le = go (foreign_at n ns W most r a m h k (omega (arith, le)))
  where
    go : Foreign ns (W k) a m → Foreign ns (W (suc k)) a m
    go (inl e) = inl e
    go (inr e) = inr (ap (λ (gs : List (List ℕ)). not (a == client) && (not (m == client) && apart gs a m)) (round_frame n (W k) (W (suc k)) (r.round k (omega (arith, le)))).groups ∙ e)

-- from the second round on
pub hears_near : (n : ℕ) (ns : List ℕ) (W : ℕ → World) (most : ℕ) → Rounds n ns W most → (a m : ℕ) → Near ns (W 0) a m → Near ns (W 0) m a → (k : ℕ) → suc (suc k) ≤ most
    → HeardAs (Fresh ((W (suc k)).facts a).role m) ((W (suc (suc k))).facts m).hearing.heard a
hears_near n ns W most r a m am ma k le =
    let w : World = W k in
    let u : World = W (suc k) in
    let v : World = W (suc (suc k)) in
    let back : HeardAs (λ h. beat_entry (w.facts m) ≡ h) (u.facts a).hearing.heard m = fresh n ns w u (base_at n ns W most r k (omega (arith, le))) (r.round k (omega (arith, le))) m a (near_at n ns W most r m a ma k (omega (arith, le))) (r.speaks k (omega (arith, le)) m ma.sender) in
    let young : nat_lt (back.entry.age + 1) timeout ≡ true = ap (λ (h : Heard). nat_lt (h.age + 1) timeout) (sym back.good) in
    let named : contains (heard_ids (aged (u.facts a).hearing.heard)) m ≡ true = hears_names (aged (u.facts a).hearing.heard) m _ (look_aged (u.facts a).hearing.heard m back.entry back.stands young) in
    let there : HeardAs (λ h. beat_entry (u.facts a) ≡ h) (v.facts m).hearing.heard a = fresh n ns u v (base_at n ns W most r (suc k) (omega (arith, le))) (r.round (suc k) (omega (arith, le))) a m (near_at n ns W most r a m am (suc k) (omega (arith, le))) (r.speaks (suc k) (omega (arith, le)) a am.sender) in
    weaker (λ h. beat_entry (u.facts a) ≡ h) (Fresh (u.facts a).role m) (v.facts m).hearing.heard a
    (λ h e. subst (λ (x : Heard). Fresh (u.facts a).role m x) e (record { age = refl; role = refl; names = named })) there

-- what is heard of another grows old
old_at : (n : ℕ) (ns : List ℕ) (W : ℕ → World) (most : ℕ) → Rounds n ns W most → (a m : ℕ) → has_node ns m ≡ true → Foreign ns (W 0) a m → (k : ℕ) → suc k ≤ most → Entries (λ h. k ≤ h.age) a ((W (suc k)).facts m).hearing.heard
old_at n ns W most r a m here foreign zero le = entries_any a ((W 1).facts m).hearing.heard
old_at n ns W most r a m here foreign (suc k) le =
    let w : World = W (suc k) in
    let before : Rounded n (W k) w = r.round k (omega (arith, le)) in
    foreign_round n ns w (W (suc (suc k))) (base_at n ns W most r (suc k) (omega (arith, le))) (r.round (suc k) (omega (arith, le))) (r.speaks (suc k) (omega (arith, le))) a m here
    (foreign_at n ns W most r a m foreign (suc k) (omega (arith, le))) (quiet_after n before.third_end w before.fourth (λ h. ⊥) a m)
    (λ h. k ≤ h.age) (λ h. suc k ≤ h.age) (λ h p y. omega (arith, p)) (old_at n ns W most r a m here foreign k (omega (arith, le)))

too_old : (k : ℕ) → 9 ≤ k → nat_lt (k + 1) 10 ≡ true → ⊥
too_old k a b = grind (arith, nat_tests)

-- and is forgotten from the eleventh round on
pub forgets : (n : ℕ) (ns : List ℕ) (W : ℕ → World) (most : ℕ) → Rounds n ns W most → (a m : ℕ) → has_node ns m ≡ true → Foreign ns (W 0) a m → (k : ℕ) → 10 ≤ k → suc k ≤ most → look ((W (suc k)).facts m).hearing.heard a ≡ None
forgets n ns W most r a m here foreign k ten le =
    absent a ((W (suc k)).facts m).hearing.heard (last k ten le)
  where
    last : (k : ℕ) → 10 ≤ k → suc k ≤ most → Entries (λ h. ⊥) a ((W (suc k)).facts m).hearing.heard
    last zero ten le = absurd (omega (arith, ten))
    last (suc k) ten le =
        let before : Rounded n (W k) (W (suc k)) = r.round k (omega (arith, le)) in
        foreign_round n ns (W (suc k)) (W (suc (suc k))) (base_at n ns W most r (suc k) (omega (arith, le))) (r.round (suc k) (omega (arith, le))) (r.speaks (suc k) (omega (arith, le))) a m here
        (foreign_at n ns W most r a m foreign (suc k) (omega (arith, le))) (quiet_after n before.third_end (W (suc k)) before.fourth (λ h. ⊥) a m)
        (λ h. k ≤ h.age) (λ h. ⊥) (λ h p y. too_old h.age (omega (arith, p, ten)) y) (old_at n ns W most r a m here foreign k (omega (arith, le)))
