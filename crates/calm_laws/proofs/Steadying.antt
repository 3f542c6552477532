-- All of a group come into one view of just it, and stay in it.
use Rattle.std.proofs.Common.{◌≡◌, ℕ, ◌+◌, ◌<◌, ◌==◌, ◌||◌, ◌&&◌, not, min, nat_lt, Bool, true, false, List, Option, Some, None, refl, sym, ap, subst, ◌∙◌, ◌⊎◌, inl, inr, arith}
use Rattle.std.specs.Prelude.{unwrap_or}
use Rattle.std.proofs.lemmas.Bool.{not-false}
use Rattle.std.proofs.lemmas.Option.{none-some}
use Rattle.cluster_types.specs.declared.cluster_key.ClusterKey.{ClusterKey}
use Rattle.cluster_types.specs.declared.member.Member.{Member}
use Rattle.cluster_types.specs.ClusterKeys as keys
use Rattle.cluster_types.specs.MembersEqual.{same_members, same_members_decides}
use Rattle.partition_lists.proofs.InOrderLaws.{equal}
use Rattle.node_rules.specs.Agreement.{has_round}
use Rattle.node_rules.specs.Exchange.{View, exchange_key}
use Rattle.node_rules.specs.Facts.{Facts, view_key}
use Rattle.node_rules.specs.Hearing.{Heard, aged, all_show, heard_ids, is_greatest, is_unchanged, quiet_ticks, quieter, timeout}
use Rattle.node_rules.specs.Keys.{same_key}
use Rattle.node_rules.specs.Notes.{after_ages, neighbours}
use Rattle.node_rules.specs.Tables.{contains}
use Rattle.node_rules.specs.Tick.{differs_from, wants_view}
use Rattle.journal_readings.specs.Lines.{has_node}
use Rattle.cluster_rules.specs.World.{World}
use Rattle.cluster_rules.proofs.KeptFacts.{num_same}
use Rattle.cluster_laws.proofs.At.{differ}
use Rattle.cluster_laws.proofs.ReadingLines.{or_left_false, or_right_false}
use Rattle.key_laws.specs.Sound.{Listed, Sound, ViewStands}
use Rattle.key_laws.specs.Traced.{Traced, facts_of}
use Rattle.key_laws.proofs.Order.{same_is, same_self}
use Rattle.calm_laws.specs.Laws.{is_to_propose, HasLaws}
use Rattle.calm_laws.specs.Flows.{Fresh, HeardAs, Rounded, Speaks, look, beat_entry}
use Rattle.calm_laws.specs.Stances.{stance_of}
use Rattle.calm_laws.specs.Turns.{Inside, Listens, Ready, SeenAll, Steady}
use Rattle.calm_laws.proofs.Beginning.{key_next}
use Rattle.calm_laws.proofs.Groups.{hears_names, look_aged}
use Rattle.calm_laws.proofs.Hearing.{fresh}
use Rattle.calm_laws.proofs.Proposing.{proposal_passes}
use Rattle.calm_laws.proofs.Resting.{rests}
use Rattle.calm_laws.proofs.Rolls.{leader_is}
use Rattle.calm_laws.proofs.Sees.{show_look, shows_aged, shows_all}

-- ---- when a node proposes

never_and : (a b c : Bool) → ((a && (b && false)) && c) ≡ false
never_and true true c = refl
never_and true false c = refl
never_and false b c = refl

not_quiet_and : (a b c : Bool) → ((a && (false && b)) && c) ≡ false
not_quiet_and true b c = refl
not_quiet_and false b c = refl

no_wish : (h : Facts) → wants_view h ≡ false → is_to_propose h ≡ false
no_wish h e = ap (λ (b : Bool). (is_greatest h.me (neighbours h) && ((h.hearing.quiet == quiet_ticks) && b)) && has_round h.agreement) e ∙ never_and (is_greatest h.me (neighbours h)) (h.hearing.quiet == quiet_ticks) (has_round h.agreement)

not_quiet : (h : Facts) → (h.hearing.quiet == quiet_ticks) ≡ false → is_to_propose h ≡ false
not_quiet h e = ap (λ (b : Bool). (is_greatest h.me (neighbours h) && (b && wants_view h)) && has_round h.agreement) e ∙ not_quiet_and (is_greatest h.me (neighbours h)) (wants_view h) (has_round h.agreement)

-- who is the greatest, quiet and doesn't propose has no wish for a view
content : (h : Facts) → is_greatest h.me (neighbours h) ≡ true → (h.hearing.quiet == quiet_ticks) ≡ true → has_round h.agreement ≡ true → is_to_propose h ≡ false → wants_view h ≡ false
content h greatest quiet round e = last (wants_view h) (sym whole ∙ e)
  where
    whole : is_to_propose h ≡ ((true && (true && wants_view h)) && true)
    whole =
        ap (λ (b : Bool). (b && ((h.hearing.quiet == quiet_ticks) && wants_view h)) && has_round h.agreement) greatest
        ∙ ap (λ (b : Bool). (true && (b && wants_view h)) && has_round h.agreement) quiet
        ∙ ap (λ (b : Bool). (true && (true && wants_view h)) && b) round

    last : (b : Bool) → ((true && (true && b)) && true) ≡ false → b ≡ false
    last true e = e
    last false e = refl

-- ---- its quiet ticks

just_entered : (q : ℕ) (b : Bool) → q ≡ 0 → (quieter q b == quiet_ticks) ≡ false
just_entered q true e = ap (λ (x : ℕ). min (x + 1) 2 == 2) e
just_entered q false e = refl

twice_quiet : (q r : ℕ) (b c : Bool) → b ≡ true → c ≡ true → r ≡ quieter q b → (quieter r c == quiet_ticks) ≡ true
twice_quiet q r b c eb ec er = ap (λ (x : ℕ). quieter x c == quiet_ticks) (er ∙ ap (λ (y : Bool). quieter q y) eb) ∙ ap (λ (y : Bool). quieter (quieter q true) y == quiet_ticks) ec ∙ number q
  where
    number : (q : ℕ) → (min (min (q + 1) 2 + 1) 2 == 2) ≡ true
    number q = equal (min (min (q + 1) 2 + 1) 2) 2 (omega arith)

-- ---- steady

pub same_itself : (ms : List Member) → same_members ms ms ≡ true
same_itself ms = go (same_members ms ms) refl
  where
    go : (b : Bool) → same_members ms ms ≡ b → same_members ms ms ≡ true
    go true e = e
    go false e = (same_members_decides ms ms).1 refl

view_is : (f : Facts) (k : ClusterKey) (set : List Member) → f.exchange.view ≡ Some (record { key = k; members = set }) → view_key f ≡ k
view_is f k set e = ap (λ (o : Option View). exchange_key o) e

-- the greatest doesn't propose anew
pub steady_rests : (ns gs : List ℕ) (g : ℕ) (set : List Member) (k : ClusterKey) (w : World) → Ready ns gs g set w → Steady gs g set k w → is_to_propose (after_ages (w.facts g)) ≡ false
steady_rests ns gs g set k w r s = go s.calm
  where
    f : Facts
    f = w.facts g

    near : neighbours (after_ages (w.facts g)) ≡ set
    near = r.sees g r.roll.lead

    view : (w.facts g).exchange.view ≡ Some (record { key = k; members = set })
    view = s.views g r.roll.lead

    content_view : all_show g (w.facts g).hearing.heard k ≡ true → wants_view (after_ages (w.facts g)) ≡ false
    content_view all =
        ap (λ (ms : List Member). differs_from ms (w.facts g).exchange.view || not (all_show (w.facts g).me (aged (w.facts g).hearing.heard) (view_key (w.facts g)))) near
        ∙ ap (λ (o : Option View). differs_from set o || not (all_show (w.facts g).me (aged (w.facts g).hearing.heard) (exchange_key o))) view
        ∙ ap (λ (x : ℕ). differs_from set (Some (record { key = k; members = set })) || not (all_show x (aged (w.facts g).hearing.heard) k)) (r.base.named g)
        ∙ ap (λ (b : Bool). differs_from set (Some (record { key = k; members = set })) || not b) (shows_aged g k (w.facts g).hearing.heard all)
        ∙ ap (λ (b : Bool). not b || false) (same_itself set)

    go : ((w.facts g).hearing.quiet ≡ 0) ⊎ (all_show g (w.facts g).hearing.heard k ≡ true) → is_to_propose (after_ages (w.facts g)) ≡ false
    go (inl e) = not_quiet (after_ages (w.facts g)) (just_entered (w.facts g).hearing.quiet (is_unchanged (w.facts g).hearing.set (neighbours (after_ages (w.facts g)))) e)
    go (inr all) = no_wish (after_ages (w.facts g)) (content_view all)

-- after a round the greatest hears in which view each is that didn't change
told_shows : (n : ℕ) (ns gs : List ℕ) (g : ℕ) (set : List Member) (k : ClusterKey) (w v : World) (r : Rounded n w v) → Ready ns gs g set w → ((a : ℕ) → has_node ns a ≡ true → Speaks (w.facts a)) → Listens gs v → ((m : ℕ) → has_node gs m ≡ true → view_key (w.facts m) ≡ k)
    → all_show g (v.facts g).hearing.heard k ≡ true
told_shows n ns gs g set k w v r h speaks l views = shows_all g k (v.facts g).hearing.heard (l.rises g h.roll.lead) (λ a x e. each a x e (has_node gs a) refl (a == g) refl)
  where
    each : (a : ℕ) (x : Heard) → look (v.facts g).hearing.heard a ≡ Some x → (b : Bool) → has_node gs a ≡ b → (c : Bool) → (a == g) ≡ c → same_key x.beat.view k ≡ true
    each a x e false s c t = absurd (none-some x (sym (l.others a g s h.roll.lead) ∙ e))
    each a x e true s true t = absurd (none-some x (sym (l.own g h.roll.lead) ∙ ap (λ (y : ℕ). look (v.facts g).hearing.heard y) (sym (num_same a g t)) ∙ e))
    each a x e true s false t =
        let new : HeardAs (λ y. beat_entry (w.facts a) ≡ y) (v.facts g).hearing.heard a = fresh n ns w v h.base r a g (h.group.near a g s h.roll.lead (λ i. differ (equal a g i) t)) (speaks a (h.group.up a s)) in
        let is : beat_entry (w.facts a) ≡ x = new.good ∙ ap (λ (o : Option Heard). unwrap_or o x) (sym new.stands ∙ e) in
        ap (λ (y : Heard). same_key y.beat.view k) (sym is) ∙ ap (λ (q : ClusterKey). same_key q k) (views a s) ∙ same_self k

-- a steady group stays so
pub steady_step : (n : ℕ) (ns gs : List ℕ) (g : ℕ) (set : List Member) (k : ClusterKey) (w v : World) (r : Rounded n w v) → Ready ns gs g set w → ((a : ℕ) → has_node ns a ≡ true → Speaks (w.facts a)) → Listens gs v → Steady gs g set k w → Steady gs g set k v
steady_step n ns gs g set k w v r h speaks l s = record {
  views = λ m here. (rests n ns gs g set w v r h (steady_rests ns gs g set k w h s) m here).view ∙ s.views m here;
  calm = inr (told_shows n ns gs g set k w v r h speaks l (λ m here. view_is (w.facts m) k set (s.views m here)));
}

-- a proposal makes it steady
pub steady_proposed : (n : ℕ) (ns gs : List ℕ) (g : ℕ) (set : List Member) (w v : World) (r : Rounded n w v) → Ready ns gs g set w → SeenAll gs g w → is_to_propose (after_ages (w.facts g)) ≡ true → Steady gs g set (key_next g w) v
steady_proposed n ns gs g set w v r h seen e = record { views = λ m here. (inside m here).view; calm = inl (inside g h.roll.lead).quiet }
  where
    inside : (m : ℕ) → has_node gs m ≡ true → Inside (key_next g w) set (stance_of (v.facts m))
    inside m here = proposal_passes n ns gs g set w v r (record { ready = h; seen = seen; proposes = e }) m here

-- ---- two rounds without a proposal

-- a node of a view has the list of its key
list_of : (t : Traced) → Sound t → (m : ℕ) (v : View) → (facts_of t m).exchange.view ≡ Some v → t.lists v.key ≡ Some v.members
list_of t s m v e = (subst (λ (o : Option View). ViewStands t m (facts_of t m).agreement.last o) e (s.nodes m).view).list

some_members : (xs ys : List Member) → ◌≡◌ {A = Option (List Member)} (Some xs) (Some ys) → xs ≡ ys
some_members xs ys e = ap (λ (o : Option (List Member)). unwrap_or o xs) e

-- who is in a view of that key has its members, and a view of some key at all
same_list : (t : Traced) → Sound t → (g m : ℕ) (v : View) → (facts_of t g).exchange.view ≡ Some v → exchange_key (facts_of t m).exchange.view ≡ v.key → (facts_of t m).exchange.view ≡ Some v
same_list t s g m v e is = go (facts_of t m).exchange.view refl
  where
    listed : Listed t v.key v.members
    listed = s.lists v.key v.members (list_of t s g v e)

    none_key : keys.none ≡ v.key → ⊥
    none_key i = positive (ap (λ (q : ClusterKey). q.round) i) listed.key.view.above_none
      where
        positive : 0 ≡ v.key.round → 0 < v.key.round → ⊥
        positive a b = omega (arith, a, b)

    go : (o : Option View) → (facts_of t m).exchange.view ≡ o → o ≡ Some v
    go None i = absurd (none_key (ap (λ (o : Option View). exchange_key o) (sym i) ∙ is))
    go (Some u) i =
        let key : u.key ≡ v.key = ap (λ (o : Option View). exchange_key o) (sym i) ∙ is in
        let members : u.members ≡ v.members = some_members u.members v.members (sym (list_of t s m u i) ∙ ap (λ (q : ClusterKey). t.lists q) key ∙ list_of t s g v e) in
        ap (λ (q : ClusterKey). Some (record { key = q; members = u.members })) key ∙ ap (λ (ms : List Member). Some (record { key = v.key; members = ms })) members

shared : (w : World) → HasLaws w → (g m : ℕ) (v : View) → (w.facts g).exchange.view ≡ Some v → view_key (w.facts m) ≡ v.key → (w.facts m).exchange.view ≡ Some v
shared w h g m v e is =
    subst (λ (x : World). (x.facts m).exchange.view ≡ Some v) h.is
    (same_list h.trace h.sound g m v (subst (λ (x : World). (x.facts g).exchange.view ≡ Some v) (sym h.is) e) (subst (λ (x : World). view_key (x.facts m) ≡ v.key) (sym h.is) is))

-- a node content with its view is in one of just its neighbours, which all its entries show
pub record Content (me : ℕ) (set : List Member) (f : Facts) : Type 0 where
  pub view : View
  pub is : f.exchange.view ≡ Some view
  pub members : view.members ≡ set
  pub shown : all_show me (aged f.hearing.heard) view.key ≡ true

content_is : (me : ℕ) (set : List Member) (f : Facts) → f.me ≡ me → neighbours (after_ages f) ≡ set → wants_view (after_ages f) ≡ false → Content me set f
content_is me set f name near e = go f.exchange.view refl (or_left_false (differs_from (neighbours (after_ages f)) f.exchange.view) _ e) (or_right_false (differs_from (neighbours (after_ages f)) f.exchange.view) _ e)
  where
    go : (o : Option View) → f.exchange.view ≡ o → differs_from (neighbours (after_ages f)) f.exchange.view ≡ false → not (all_show f.me (aged f.hearing.heard) (view_key f)) ≡ false → Content me set f
    go None i a b = differ refl (ap (λ (o : Option View). differs_from (neighbours (after_ages f)) o) (sym i) ∙ a)
    go (Some v) i a b = record {
      view = v;
      is = i;
      members = sym ((same_members_decides (neighbours (after_ages f)) v.members).0 (not-false (same_members (neighbours (after_ages f)) v.members) (ap (λ (o : Option View). differs_from (neighbours (after_ages f)) o) (sym i) ∙ a))) ∙ near;
      shown = ap (λ (x : ℕ). all_show x (aged f.hearing.heard) v.key) (sym name) ∙ ap (λ (o : Option View). all_show f.me (aged f.hearing.heard) (exchange_key o)) (sym i) ∙ not-false (all_show f.me (aged f.hearing.heard) (view_key f)) b;
    }

-- in two rounds without a proposal the greatest is content, and all are in its view
pub steady_quiet : (n : ℕ) (ns gs : List ℕ) (g : ℕ) (set : List Member) (w u v : World) (r : Rounded n w u) (q : Rounded n u v) → Ready ns gs g set w → Ready ns gs g set u
    → ((a : ℕ) → has_node ns a ≡ true → Speaks (w.facts a)) → ((a : ℕ) → has_node ns a ≡ true → Speaks (u.facts a)) → Listens gs w → Listens gs v → HasLaws u
    → (w.facts g).hearing.set ≡ Some set → (u.facts g).hearing.set ≡ Some set → has_round (u.facts g).agreement ≡ true
    → is_to_propose (after_ages (w.facts g)) ≡ false → is_to_propose (after_ages (u.facts g)) ≡ false → (k : ClusterKey) × Steady gs g set k v
steady_quiet n ns gs g set w u v r q h j speaks speaks_on l m lawful set_before set_then round e i = (c.view.key, steady)
  where
    lead : has_node gs g ≡ true
    lead = h.roll.lead

    unchanged : (f : Facts) → f.hearing.set ≡ Some set → neighbours (after_ages f) ≡ set → is_unchanged f.hearing.set (neighbours (after_ages f)) ≡ true
    unchanged f a b = ap (λ (o : Option (List Member)). is_unchanged o (neighbours (after_ages f))) a ∙ ap (λ (ms : List Member). same_members set ms) b ∙ same_itself set

    quiet : ((after_ages (u.facts g)).hearing.quiet == quiet_ticks) ≡ true
    quiet = twice_quiet (w.facts g).hearing.quiet (u.facts g).hearing.quiet
        (is_unchanged (w.facts g).hearing.set (neighbours (after_ages (w.facts g)))) (is_unchanged (u.facts g).hearing.set (neighbours (after_ages (u.facts g))))
        (unchanged (w.facts g) set_before (h.sees g lead)) (unchanged (u.facts g) set_then (j.sees g lead)) (rests n ns gs g set w u r h e g lead).quiet

    greatest : is_greatest (u.facts g).me (neighbours (after_ages (u.facts g))) ≡ true
    greatest = ap (λ (x : ℕ). is_greatest x (neighbours (after_ages (u.facts g)))) (j.base.named g) ∙ ap (λ (ms : List Member). is_greatest g ms) (j.sees g lead) ∙ leader_is gs g set j.roll

    c : Content g set (u.facts g)
    c = content_is g set (u.facts g) (j.base.named g) (j.sees g lead) (content (after_ages (u.facts g)) greatest quiet round i)

    -- what it hears of another one
    hears : (a : ℕ) → has_node gs a ≡ true → (a ≡ g → ⊥) → view_key (u.facts a) ≡ c.view.key
    hears a here d =
        let new : HeardAs (λ y. beat_entry (w.facts a) ≡ y) (u.facts g).hearing.heard a = fresh n ns w u h.base r a g (h.group.near a g here lead d) (speaks a (h.group.up a here)) in
        let back : HeardAs (Fresh (w.facts g).role a) (w.facts a).hearing.heard g = l.near g a lead here (λ s. d (sym s)) in
        let young : nat_lt (back.entry.age + 1) timeout ≡ true = ap (λ (x : ℕ). nat_lt (x + 1) timeout) back.good.age in
        let names : contains (heard_ids (aged (w.facts a).hearing.heard)) g ≡ true = hears_names (aged (w.facts a).hearing.heard) g _ (look_aged (w.facts a).hearing.heard g back.entry back.stands young) in
        let fresh_age : nat_lt (new.entry.age + 1) timeout ≡ true = ap (λ (y : Heard). nat_lt (y.age + 1) timeout) (sym new.good) in
        let shown : same_key new.entry.beat.view c.view.key ≡ true =
        show_look g c.view.key (aged (u.facts g).hearing.heard) a (record { age = new.entry.age + 1; beat = new.entry.beat }) c.shown (look_aged (u.facts g).hearing.heard a new.entry new.stands fresh_age)
        (ap (λ (y : Heard). contains y.beat.hears g) (sym new.good) ∙ names) in
        ap (λ (o : Option View). exchange_key o) (rests n ns gs g set w u r h e a here).view
        ∙ same_is (view_key (w.facts a)) c.view.key (ap (λ (y : Heard). same_key y.beat.view c.view.key) new.good ∙ shown)

    in_view : (a : ℕ) → has_node gs a ≡ true → (u.facts a).exchange.view ≡ Some c.view
    in_view a here = go (a == g) refl
      where
        go : (b : Bool) → (a == g) ≡ b → (u.facts a).exchange.view ≡ Some c.view
        go true s = ap (λ (x : ℕ). (u.facts x).exchange.view) (num_same a g s) ∙ c.is
        go false s = shared u lawful g a c.view c.is (hears a here (λ y. differ (equal a g y) s))

    in_set : (a : ℕ) → has_node gs a ≡ true → (u.facts a).exchange.view ≡ Some (record { key = c.view.key; members = set })
    in_set a here = in_view a here ∙ ap (λ (ms : List Member). Some (record { key = c.view.key; members = ms })) c.members

    steady : Steady gs g set c.view.key v
    steady = record {
      views = λ a here. (rests n ns gs g set u v q j i a here).view ∙ in_set a here;
      calm = inr (told_shows n ns gs g set c.view.key u v q j speaks_on m (λ a here. view_is (u.facts a) c.view.key set (in_set a here)));
    }
