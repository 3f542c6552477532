-- What the rounds of handing over and settling stand on holds of rounds that may be taken.
use Rattle.std.proofs.Common.{◌≡◌, ℕ, zero, suc, ◌+◌, ◌-◌, ◌<◌, ◌≤◌, Bool, true, cond, List, [], ◌++◌, length, Option, Some, refl, sym, ap, subst, ◌∙◌, append_assoc, arith}
use Rattle.std.proofs.lemmas.Grind.{flat_map-append}
use Rattle.cluster_types.specs.declared.cluster_key.ClusterKey.{ClusterKey}
use Rattle.cluster_types.specs.declared.member.Member.{Member}
use Rattle.cluster_types.specs.Partitions.{partition_count}
use Rattle.cluster_types.specs.Rows.{bit}
use Rattle.partition_lists.specs.Lists.{list}
use Rattle.journal_readings.specs.Lines.{has_node}
use Rattle.node_rules.specs.Exchange.{View, members_of}
use Rattle.node_rules.specs.Facts.{Facts}
use Rattle.node_rules.specs.Map as map
use Rattle.node_rules.specs.Standing.{is_all_empty}
use Rattle.cluster_rules.specs.Marks as marks
use Rattle.journal_lines.specs.declared.line.Line.{Line}
use Rattle.cluster_rules.specs.Marks.{lines_among}
use Rattle.cluster_rules.specs.Opening.{Header, declared_nodes}
use Rattle.cluster_rules.specs.Steps.{Played, Step, all_marks, marks_of, round, rounds}
use Rattle.cluster_rules.specs.World.{World, opened}
use Rattle.cluster_rules.proofs.MarkLaws.{Follows, after_all-append, round_follows}
use Rattle.cluster_laws.specs.Ground as ground
use Rattle.cluster_laws.specs.Ground.{Ground}
use Rattle.cluster_laws.proofs.At.{number_here}
use Rattle.run_laws.specs.Fronts.{facts_at}
use Rattle.run_laws.specs.Taken.{Taken, ground_of}
use Rattle.run_laws.specs.Tied.{RowsAgree, Stays, Views}
use Rattle.run_laws.specs.Worlds.{world_after}
use Rattle.run_laws.proofs.Classes.{acting_tied, empty_tied, master_tied}
use Rattle.run_laws.proofs.Tables.{bit_set}
use Rattle.calm_laws.specs.Calming.{Reaches}
use Rattle.calm_laws.specs.Exchanges.{Exchanged}
use Rattle.calm_laws.specs.Flows.{world_at}
use Rattle.calm_laws.specs.Onward.{MayTake}
use Rattle.calm_laws.specs.Turns.{Roll}
use Rattle.calm_laws.proofs.History.{Pictured, pictured}
use Rattle.calm_laws.proofs.Masters.{master_in}
use Rattle.calm_laws.proofs.Premises.{law_of}
use Rattle.calm_laws.proofs.Shaped.{shaped}

-- ---- one ground for all rounds

-- the world is behind the first of those steps, and these come after them
record Before (h : Header) (whole more : List Step) (w : World) : Type 0 where
  steps : List Step
  split : steps ++ more ≡ whole
  leads : world_after h steps ≡ w

-- where steps lead that are played on
pub world_on : (h : Header) (ss : List Step) (w : World) (x : Played) → Follows partition_count w x → world_after h ss ≡ w → world_after h (ss ++ x.steps) ≡ x.world
world_on h ss w x f leads =
    ap (λ ms. marks.after_all (opened h) ms) (flat_map-append marks_of ss x.steps)
    ∙ after_all-append (opened h) (all_marks ss) (all_marks x.steps)
    ∙ ap (λ (u : World). marks.after_all u (all_marks x.steps)) leads
    ∙ f.leads

before_on : (h : Header) (whole : List Step) (w : World) (x : Played) (ts : List Step) → Follows partition_count w x → Before h whole (x.steps ++ ts) w → Before h whole ts x.world
before_on h whole w x ts f b = record {
  steps = b.steps ++ x.steps;
  split = append_assoc b.steps x.steps ts ∙ b.split;
  leads = world_on h b.steps w x f b.leads;
}

before_rounds : (h : Header) (whole : List Step) (k rest : ℕ) (w : World) → Before h whole (rounds partition_count (k + rest) w).steps w → Before h whole (rounds partition_count rest (world_at partition_count w k)).steps (world_at partition_count w k)
unfolding rounds
before_rounds h whole zero rest w b = subst (λ (j : ℕ). Before h whole (rounds partition_count j w).steps w) (none rest) b
  where
    none : (r : ℕ) → 0 + r ≡ r
    none r = omega arith
before_rounds h whole (suc k) rest w b =
    before_rounds h whole k rest (round partition_count w).world
    (before_on h whole w (round partition_count w) (rounds partition_count (k + rest) (round partition_count w).world).steps (round_follows partition_count w)
    (subst (λ (j : ℕ). Before h whole (rounds partition_count j w).steps w) (more k rest) b))
  where
    more : (a b : ℕ) → suc a + b ≡ suc (a + b)
    more a b = omega arith

-- ---- a group that has finished the exchange of one view

module _ (G : Ground) (ns : List ℕ) (j : List Line) (w : World) (p : Pictured G ns j w) (gs : List ℕ) (g : ℕ) (k : ClusterKey) (set : List Member) (roll : Roll gs g set) (views : (m : ℕ) → has_node gs m ≡ true → (w.facts m).exchange.view ≡ Some (record { key = k; members = set })) (over : Exchanged gs w) where
  here : (m : ℕ) → facts_at p.front m ≡ w.facts m
  here m = ap (λ (u : World). u.facts m) p.world

  view_here : (m : ℕ) → has_node gs m ≡ true → (facts_at p.front m).exchange.view ≡ Some (record { key = k; members = set })
  view_here m e = ap (λ (f : Facts). f.exchange.view) (here m) ∙ views m e

  views_here : (m : ℕ) → has_node gs m ≡ true → Views G k (facts_at p.front m)
  views_here m e = (p.sane.nodes m).view (record { key = k; members = set }) (view_here m e)

  rows_here : (m : ℕ) → has_node gs m ≡ true → RowsAgree G k (facts_at p.front m).exchange.rows
  rows_here m e = (p.sane.nodes m).rows (record { key = k; members = set }) (view_here m e) (ap (λ (f : Facts). f.exchange.exchanged) (here m) ∙ over m e)

  stay_here : (m : ℕ) → has_node gs m ≡ true → Stays (facts_at p.front m) (p.picture.stay m k)
  stay_here m e = (p.tied.nodes m).stay (record { key = k; members = set }) (view_here m e)

  pub acting_here : (m : ℕ) → has_node gs m ≡ true → (q : ℕ) → map.acting_by_rows (list set q) (w.facts m).exchange.rows q ≡ ground.view_acting G k q
  acting_here m e q =
      ap (λ (f : Facts). map.acting_by_rows (list set q) f.exchange.rows q) (sym (here m))
      ∙ ap (λ (v : Option View). map.acting_by_rows (list (members_of v) q) (facts_at p.front m).exchange.rows q) (sym (view_here m e))
      ∙ acting_tied G k (facts_at p.front m) q (views_here m e) (rows_here m e)

  pub empty_here : (m : ℕ) → has_node gs m ≡ true → (q : ℕ) → is_all_empty (w.facts m) q ≡ ground.is_view_empty G k q
  empty_here m e q = ap (λ (f : Facts). is_all_empty f q) (sym (here m)) ∙ empty_tied G k (facts_at p.front m) q (views_here m e) (rows_here m e)

  -- whoever knows the partition settled, the list master settled it
  pub settled_here : (m : ℕ) → has_node gs m ≡ true → (q : ℕ) → bit (w.facts m).bits.settled q ≡ true → bit (w.facts (map.list_master (list set q))).bits.settled q ≡ true
  settled_here m e q s =
      ap (λ (f : Facts). bit f.bits.settled q) (sym (here lead)) ∙ sym ((stay_here lead led).settled q) ∙ told
    where
      lead : ℕ
      lead = map.list_master (list set q)

      led : has_node gs lead ≡ true
      led = master_in gs g set roll q

      named : ground.view_master G k q ≡ lead
      named = master_tied G k (facts_at p.front m) q (views_here m e) ∙ ap (λ (v : Option View). map.list_master (list (members_of v) q)) (view_here m e)

      knows : p.picture.settled k q ≡ true
      knows = (p.told.sound.whole.known.cross m k).settled q ((stay_here m e).settled q ∙ ap (λ (f : Facts). bit f.bits.settled q) (here m) ∙ s)

      told : (p.picture.stay lead k).settled q ≡ true
      told = subst (λ (n : ℕ). (p.picture.stay n k).settled q ≡ true) named (p.told.sound.whole.settled k q knows).known

-- ---- places

reaches : (row : List Bool) (q : ℕ) → length row ≡ partition_count → q < partition_count → Reaches row q
reaches row q e lt = bit_set row q (subst (λ (n : ℕ). q < n) (sym e) lt) q ∙ ap (λ (b : Bool). cond b true (bit row q)) (number_here q)

pub places_there : {w : World} → MayTake w [] → (m q : ℕ) → q < partition_count → Reaches (w.facts m).bits.handed q × Reaches (w.facts m).bits.settled q × Reaches (w.facts m).bits.learnt q
places_there {w} may m q lt = (
  reaches (w.facts m).bits.handed q (law_of may m).handed_places lt,
  reaches (w.facts m).bits.settled q (law_of may m).settled_places lt,
  reaches (w.facts m).bits.learnt q (shaped may m).learnt lt,
)

-- ---- all rounds

pub again : (k most : ℕ) → k ≤ most → most ≡ k + (most - k)
again k most le = omega (arith, le)

module _ (w : World) (most : ℕ) (may : MayTake w (rounds partition_count most w).steps) where
  abbrev pub whole : List Step
  whole = may.before ++ (rounds partition_count most w).steps

  -- a picture of the world after some of the rounds, by the ground of all of them
  pub pictured_at : (k : ℕ) → k ≤ most → (j : List Line) × Pictured (ground_of may.header whole) (declared_nodes may.header) j (world_at partition_count w k)
  pictured_at k le =
      let b : Before may.header whole (rounds partition_count (most - k) (world_at partition_count w k)).steps (world_at partition_count w k) =
      before_rounds may.header whole k (most - k) w (subst (λ (j : ℕ). Before may.header whole (rounds partition_count j w).steps w) (again k most le) (record { steps = may.before; split = refl; leads = may.leads })) in
      let more : List Step = (rounds partition_count (most - k) (world_at partition_count w k)).steps in
      let t : Taken may.header (b.steps ++ more) = subst (λ (ss : List Step). Taken may.header ss) (sym b.split) may.taken in (
        lines_among (all_marks b.steps),
        subst (λ (u : World). Pictured (ground_of may.header whole) (declared_nodes may.header) (lines_among (all_marks b.steps)) u) b.leads
            (subst (λ (ss : List Step). Pictured (ground_of may.header ss) (declared_nodes may.header) (lines_among (all_marks b.steps)) (world_after may.header b.steps)) b.split (pictured may.header b.steps more t)),
      )
