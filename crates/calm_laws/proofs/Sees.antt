-- Who hears just its group sees just its group.
use Rattle.std.proofs.Common.{◌≡◌, ℕ, ◌+◌, ◌==◌, ◌&&◌, Bool, true, false, cond, List, [], ◌∷◌, map, reverse, nat_lt, Option, Some, None, refl, sym, ap, subst, ◌∙◌}
use Rattle.std.specs.Prelude.{filter, unwrap_or}
use Rattle.std.specs.List.{list_all}
use Rattle.std.specs.FinMap.Entries.{find, find-put, is_sorted-put, same_entries}
use Rattle.std.specs.Ordering.{nat_cmp}
use Rattle.std.proofs.lemmas.Cmp.{nat_cmp_total}
use Rattle.std.proofs.lemmas.Option.{none-some}
use Rattle.cluster_types.specs.declared.cluster_key.ClusterKey.{ClusterKey}
use Rattle.cluster_types.specs.declared.member.Member.{Member}
use Rattle.cluster_types.specs.declared.member.Role.{Role}
use Rattle.partition_lists.proofs.InOrderLaws.{equal}
use Rattle.node_rules.specs.Hearing.{Heard, aged, all_show, member_of, names, neighbours_of, older, timeout}
use Rattle.node_rules.specs.Keys.{same_key}
use Rattle.node_rules.specs.Notes.{after_ages, neighbours}
use Rattle.node_rules.specs.Tables.{Table, at, contains, table_with}
use Rattle.journal_readings.specs.Lines.{has_node}
use Rattle.cluster_rules.specs.World.{World}
use Rattle.cluster_rules.proofs.KeptFacts.{num_same}
use Rattle.cluster_laws.proofs.At.{differ}
use Rattle.key_laws.specs.Sound.{RisesByNumber}
use Rattle.calm_laws.specs.Flows.{Fresh, HeardAs, look}
use Rattle.calm_laws.specs.Turns.{Listens, Roster}
use Rattle.calm_laws.proofs.Groups.{look_aged}
use Rattle.calm_laws.proofs.Hears.{ties}
use Rattle.calm_laws.proofs.SetStays.{none_aged, rises_aged}
use Rattle.calm_laws.proofs.Sets.{find_roles, not_under, rises_roles, rises_sorted, roles, shown, tied}

-- ---- neighbours

module _ (gs : List ℕ) (set : List Member) (w : World) (o : Roster gs set w) (h : Listens gs w) (m : ℕ) (here : has_node gs m ≡ true) where
  shows : (x : ℕ) → (m ≡ x → ⊥) → (b : Bool) → has_node gs x ≡ b → shown m (look (aged (w.facts m).hearing.heard) x) ≡ at o.table x
  shows x d true e =
      let f : HeardAs (Fresh (w.facts x).role m) (w.facts m).hearing.heard x = h.near x m e here (λ i. d (sym i)) in
      let young : nat_lt (f.entry.age + 1) timeout ≡ true = ap (λ (y : ℕ). nat_lt (y + 1) timeout) f.good.age in
      ap (λ (o : Option Heard). shown m o) (look_aged (w.facts m).hearing.heard x f.entry f.stands young)
      ∙ ap (λ (b : Bool). cond b (Some f.entry.beat.role) None) f.good.names
      ∙ ap (λ (r : Role). Some r) f.good.role
      ∙ sym (o.here x e)
  shows x d false e = ap (λ (o : Option Heard). shown m o) (none_aged (w.facts m).hearing.heard x (h.others x m e here)) ∙ sym (o.others x e)

  finds : (x : ℕ) → find nat_cmp x (table_with (roles m (aged (w.facts m).hearing.heard)) m (w.facts m).role) ≡ at o.table x
  finds x =
      find-put nat_cmp nat_cmp_total x m (w.facts m).role (roles m (aged (w.facts m).hearing.heard))
      ∙ ap (λ (b : Bool). cond b (Some (w.facts m).role) (find nat_cmp x (roles m (aged (w.facts m).hearing.heard)))) (ties x m)
      ∙ go (x == m) refl
    where
      go : (b : Bool) → (x == m) ≡ b → cond b (Some (w.facts m).role) (find nat_cmp x (roles m (aged (w.facts m).hearing.heard))) ≡ at o.table x
      go true e = sym (ap (λ (y : ℕ). at o.table y) (num_same x m e) ∙ o.here m here)
      go false e = find_roles m x (aged (w.facts m).hearing.heard) (rises_aged (w.facts m).hearing.heard (h.rises m here)) ∙ shows x (λ i. differ (equal x m (sym i)) e) (has_node gs x) refl

  same_table : table_with (roles m (aged (w.facts m).hearing.heard)) m (w.facts m).role ≡ o.table
  same_table =
      let t : Table Role = roles m (aged (w.facts m).hearing.heard) in
      same_entries nat_cmp nat_cmp_total tied (table_with t m (w.facts m).role) o.table
      (is_sorted-put nat_cmp nat_cmp_total m (w.facts m).role t (rises_sorted t (rises_roles m (aged (w.facts m).hearing.heard) (rises_aged (w.facts m).hearing.heard (h.rises m here)))))
      (rises_sorted o.table o.rises) finds

  -- the neighbours at the next tick are the group
  pub sees_group : (w.facts m).me ≡ m → neighbours (after_ages (w.facts m)) ≡ set
  sees_group me =
      ap (λ (x : ℕ). neighbours_of x (w.facts m).role (aged (w.facts m).hearing.heard)) me
      ∙ ap (λ (t : Table Role). reverse (map member_of t)) same_table
      ∙ sym o.list

-- ---- what the entries show

-- an entry of a node that hears the other shows that key
pub show_look : (me : ℕ) (key : ClusterKey) (t : Table Heard) (a : ℕ) (h : Heard) → all_show me t key ≡ true → look t a ≡ Some h → contains h.beat.hears me ≡ true → same_key h.beat.view key ≡ true
show_look me key [] a h all e n = absurd (none_some e)
  where
    none_some : ◌≡◌ {A = Option Heard} None (Some h) → ⊥
    none_some e = none-some h e
show_look me key (x ∷ t) a h all e n = go (names me x) refl (a == x.0) refl all (ap (λ (b : Bool). cond b (Some x.1) (look t a)) (sym (ties a x.0)) ∙ e) (λ all e. show_look me key t a h all e n)
  where
    test : ℕ × Heard → Bool
    test e = same_key e.1.beat.view key

    left : (b c : Bool) → (b && c) ≡ true → b ≡ true
    left true c e = refl
    left false c e = e

    right : (b c : Bool) → (b && c) ≡ true → c ≡ true
    right true c e = e
    right false c e = differ e refl

    some_same : Some x.1 ≡ Some h → x.1 ≡ h
    some_same f = ap (λ (o : Option Heard). unwrap_or o h) f

    go : (b : Bool) → names me x ≡ b → (c : Bool) → (a == x.0) ≡ c → list_all (λ (e : ℕ × Heard). same_key e.1.beat.view key) (cond b (x ∷ filter (names me) t) (filter (names me) t)) ≡ true → cond c (Some x.1) (look t a) ≡ Some h
        → (all_show me t key ≡ true → look t a ≡ Some h → same_key h.beat.view key ≡ true) → same_key h.beat.view key ≡ true
    go true i true s all f rest = subst (λ (y : Heard). same_key y.beat.view key ≡ true) (some_same f) (left (same_key x.1.beat.view key) _ all)
    go false i true s all f rest = differ n (subst (λ (y : Heard). contains y.beat.hears me ≡ false) (some_same f) i)
    go true i false s all f rest = rest (right (same_key x.1.beat.view key) _ all) f
    go false i false s all f rest = rest all f

-- all entries show the key where each that can be looked up does
pub shows_all : (me : ℕ) (key : ClusterKey) (t : Table Heard) → RisesByNumber t → ((a : ℕ) (h : Heard) → look t a ≡ Some h → same_key h.beat.view key ≡ true) → all_show me t key ≡ true
shows_all me key [] r each = refl
shows_all me key (x ∷ t) r each = go (names me x) (shows_all me key t r.1 (λ a h e. each a h (later a h e (a == x.0) refl)))
  where
    here : same_key x.1.beat.view key ≡ true
    here = each x.0 x.1 (ap (λ (b : Bool). cond b (Some x.1) (look t x.0)) (ties x.0 x.0 ∙ equal x.0 x.0 refl))

    later : (a : ℕ) (h : Heard) → look t a ≡ Some h → (b : Bool) → (a == x.0) ≡ b → look (x ∷ t) a ≡ Some h
    later a h e false s = ap (λ (b : Bool). cond b (Some x.1) (look t a)) (ties a x.0 ∙ s) ∙ e
    later a h e true s = absurd (none-some h (sym (not_under x.0 t r.0) ∙ ap (λ (y : ℕ). look t y) (sym (num_same a x.0 s)) ∙ e))

    go : (b : Bool) → all_show me t key ≡ true → list_all (λ (e : ℕ × Heard). same_key e.1.beat.view key) (cond b (x ∷ filter (names me) t) (filter (names me) t)) ≡ true
    go true rest = ap (λ (b : Bool). b && all_show me t key) here ∙ rest
    go false rest = rest

-- and so they do one tick later
pub shows_aged : (me : ℕ) (key : ClusterKey) (t : Table Heard) → all_show me t key ≡ true → all_show me (aged t) key ≡ true
shows_aged me key [] all = refl
shows_aged me key (x ∷ t) all = go (names me x) refl (nat_lt (older x).1.age timeout) all (λ rest. shows_aged me key t rest)
  where
    left : (b c : Bool) → (b && c) ≡ true → b ≡ true
    left true c e = refl
    left false c e = e

    right : (b c : Bool) → (b && c) ≡ true → c ≡ true
    right true c e = e
    right false c e = differ e refl

    put : (b : Bool) → names me x ≡ b → same_key x.1.beat.view key ≡ true → all_show me (aged t) key ≡ true → list_all (λ (e : ℕ × Heard). same_key e.1.beat.view key) (cond b (older x ∷ filter (names me) (aged t)) (filter (names me) (aged t))) ≡ true
    put true i s rest = ap (λ (b : Bool). b && all_show me (aged t) key) s ∙ rest
    put false i s rest = rest

    skip : (b : Bool) → names me x ≡ b → list_all (λ (e : ℕ × Heard). same_key e.1.beat.view key) (cond b (x ∷ filter (names me) t) (filter (names me) t)) ≡ true → all_show me t key ≡ true
    skip true i all = right (same_key x.1.beat.view key) _ all
    skip false i all = all

    add : (b : Bool) → names me x ≡ b → list_all (λ (e : ℕ × Heard). same_key e.1.beat.view key) (cond b (x ∷ filter (names me) t) (filter (names me) t)) ≡ true → all_show me (aged t) key ≡ true
        → list_all (λ (e : ℕ × Heard). same_key e.1.beat.view key) (cond b (older x ∷ filter (names me) (aged t)) (filter (names me) (aged t))) ≡ true
    add true i all rest = put true i (left (same_key x.1.beat.view key) _ all) rest
    add false i all rest = rest

    go : (b : Bool) → names me x ≡ b → (c : Bool) → list_all (λ (e : ℕ × Heard). same_key e.1.beat.view key) (cond b (x ∷ filter (names me) t) (filter (names me) t)) ≡ true → (all_show me t key ≡ true → all_show me (aged t) key ≡ true)
        → all_show me (cond c (older x ∷ aged t) (aged t)) key ≡ true
    go b i true all rest = subst (λ (d : Bool). list_all (λ (e : ℕ × Heard). same_key e.1.beat.view key) (cond d (older x ∷ filter (names me) (aged t)) (filter (names me) (aged t))) ≡ true) (sym i) (add b i all (rest (skip b i all)))
    go b i false all rest = rest (skip b i all)
