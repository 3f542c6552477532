-- Rounds of calm that are begun in a run are within the bound.
use Rattle.std.proofs.Common.{◌≡◌, ◌⊎◌, inl, inr, ℕ, zero, suc, ◌+◌, ◌-◌, ◌<◌, ◌≤◌, nat_lt, Bool, true, false, List, ◌++◌, length, refl, sym, ap, subst, ◌∙◌, append_assoc, arith}
use Rattle.std.specs.List.{concat, list_any}
use Rattle.std.proofs.lemmas.Bool.Decides.{nat_tests}
use Rattle.std.proofs.lemmas.List.Elements.{All-append, All-from_recursion, recursion_from_All}
use Rattle.cluster_types.specs.Distinct.{AreDistinct}
use Rattle.cluster_types.specs.Partitions.{partition_count}
use Rattle.cluster_rules.specs.declared.event.Event.TheVariants as event
use Rattle.cluster_rules.specs.Begun.{AreBegun}
use Rattle.cluster_rules.specs.Calm.{is_calm, up_in}
use Rattle.cluster_rules.specs.CalmBound.{IsBehindFull, IsWithinCalm, is_full_line, is_full_round, open_transactions, records_held}
use Rattle.cluster_rules.specs.Opening.{Header}
use Rattle.cluster_rules.specs.Runs.{Calms}
use Rattle.cluster_rules.specs.Steps.{Played, Step, all_lines, all_marks, play, round, rounds}
use Rattle.cluster_rules.specs.World.{World, opened, up_nodes}
use Rattle.cluster_rules.proofs.AllowedLaws.{allowed_append, allowed_due, nodes_stay, rounds_allowed}
use Rattle.key_laws.proofs.Runs.{AreIds, declared_ids}
use Rattle.run_laws.specs.Taken.{IsProperEvent, Taken, line_bound}
use Rattle.run_laws.specs.Tied.{Among}
use Rattle.run_laws.specs.Worlds.{world_after}
use Rattle.run_laws.proofs.EventRanges.{proper_rounds}
use Rattle.calm_laws.specs.Claims.{BegunAreInTime, CalmComes, MayComeIn, NoneIsFull, WholeAreInTime, enough}
use Rattle.calm_laws.specs.Flows.{world_at}
use Rattle.calm_laws.specs.Handing.{AtMostPending}
use Rattle.calm_laws.specs.Onward.{MayTake}
use Rattle.calm_laws.specs.Schedules.{Schedule}
use Rattle.calm_laws.proofs.Bounded.{begun_few, begun_within, later_world}
use Rattle.calm_laws.proofs.Calming.{calm_then}
use Rattle.calm_laws.proofs.Dividing.{apart_behind}
use Rattle.calm_laws.proofs.Grounding.{schedule_there}
use Rattle.calm_laws.proofs.Onward.{front_lines}
use Rattle.calm_laws.proofs.Shrinking.{groups_stay}
use Rattle.calm_laws.proofs.Stretch.{may_rounds}
use Rattle.calm_laws.proofs.Witnesses.{few_pending}

-- ---- behind the last round that lost a message

record Behind (n : ℕ) (w : World) (number : ℕ) : Type 0 where
  from : ℕ
  begins : (from ≡ 0) ⊎ IsBehindFull n w number from
  within : from ≤ number
  placed : (k : ℕ) → from ≤ k → k < number → is_full_round n w k ≡ false

behind_last : (n : ℕ) (w : World) (number : ℕ) → Behind n w number
behind_last n w zero = record { from = 0; begins = inl refl; within = omega arith; placed = λ k ge lt. absurd (omega (arith, lt)) }
behind_last n w (suc number) = go (is_full_round n w number) refl (behind_last n w number)
  where
    more : (from : ℕ) → (from ≡ 0) ⊎ IsBehindFull n w number from → (from ≡ 0) ⊎ IsBehindFull n w (suc number) from
    more from (inl e) = inl e
    more from (inr b) = inr (record { place = b.place; within = omega (arith, b.within); full = b.full; next = b.next })

    go : (b : Bool) → is_full_round n w number ≡ b → Behind n w number → Behind n w (suc number)
    go true e l = record { from = number + 1; begins = inr (record { place = number; within = omega arith; full = e; next = refl }); within = omega arith; placed = λ k ge lt. absurd (omega (arith, ge, lt)) }
    go false e l = record { from = l.from; begins = more l.from l.begins; within = omega (arith, l.within); placed = λ k ge lt. at k (last k (omega (arith, lt))) ge }
      where
        last : (k : ℕ) → k ≤ number → (k ≡ number) ⊎ (k < number)
        last k le = two (nat_lt k number) refl
          where
            two : (b : Bool) → nat_lt k number ≡ b → (k ≡ number) ⊎ (k < number)
            two true e = inr (grind (arith, nat_tests, e))
            two false e = inl (grind (arith, nat_tests, e, le))

        at : (k : ℕ) → (k ≡ number) ⊎ (k < number) → l.from ≤ k → is_full_round n w k ≡ false
        at k (inl s) ge = ap (is_full_round n w) s ∙ e
        at k (inr lt) ge = l.placed k ge lt

-- ---- a schedule

-- rounds of which none loses a message are a schedule of calm, from whichever on
scheduled : (w : World) (from rest : ℕ) → MayTake w (rounds partition_count (from + rest) w).steps → AreDistinct (concat w.network.groups) → ((k : ℕ) → k < rest → is_full_round partition_count w (from + k) ≡ false)
    → Schedule (up_nodes (world_at partition_count w from)) (world_at partition_count w from) rest (records_held w + open_transactions w)
scheduled w from rest may distinct placed = schedule_there (world_at partition_count w from) rest (may_rounds from rest w may) placed_there (subst (λ (gs : List (List ℕ)). AreDistinct (concat gs)) (sym (groups_stay partition_count from w)) distinct) (records_held w + open_transactions w) pending
  where
    placed_there : (k : ℕ) → k < rest → is_full_round partition_count (world_at partition_count w from) k ≡ false
    placed_there k lt = ap (λ (v : World). list_any is_full_line (all_lines (round partition_count v).steps)) (later_world partition_count from w k) ∙ placed k lt

    pending : (group : List ℕ) → Among (world_at partition_count w from).network.groups group → 17 ≤ rest → AtMostPending (records_held w + open_transactions w) (up_in (world_at partition_count w from) group) (world_at partition_count (world_at partition_count w from) 17)
    pending group among le = subst (λ (v : World). AtMostPending (records_held w + open_transactions w) (up_in (world_at partition_count w from) group) v) (sym (later_world partition_count from w 17)) (few_pending w (from + 17) (from + rest) (omega (arith, le)) may (up_in (world_at partition_count w from) group))

-- ---- runs

-- rounds may be taken where their lines have numbers
taken_on : (h : Header) (ss : List Step) (k : ℕ) → Taken h ss → length (all_lines (ss ++ (rounds partition_count k (world_after h ss)).steps)) < line_bound → Taken h (ss ++ (rounds partition_count k (world_after h ss)).steps)
taken_on h ss k t short = record {
  header = t.header;
  declared = t.declared;
  allowed = allowed_append partition_count ss (rounds partition_count k (world_after h ss)).steps (opened h) t.allowed (rounds_allowed partition_count k (world_after h ss));
  ranges = All-append (λ (s : Step). IsProperEvent s.event) ss (rounds partition_count k (world_after h ss)).steps t.ranges
      (All-from_recursion (λ (s : Step). IsProperEvent s.event) (rounds partition_count k (world_after h ss)).steps
      (proper_rounds partition_count k (world_after h ss) (subst AreIds (sym (nodes_stay (all_marks ss) (opened h))) (declared_ids h t.header))));
  short = short;
}

one_more_line : (n b : ℕ) → n + 1 < b → n < b
one_more_line n b h = omega (arith, h)

may_begun : (h : Header) (ss : List Step) (x : Played) (b : AreBegun partition_count (world_after h ss) x) → MayComeIn h ss x.steps → MayTake (world_after h ss) (rounds partition_count b.number (world_after h ss)).steps
may_begun h ss x b m =
    let room : length (all_lines (ss ++ (rounds partition_count b.number (world_after h ss)).steps)) + 1 < line_bound = subst (λ (y : Played). length (all_lines (ss ++ y.steps)) + 1 < line_bound) b.played m.room in
    record {
      header = h;
      before = ss;
      leads = refl;
      taken = taken_on h ss b.number m.taken (one_more_line _ line_bound room);
      room = room;
    }

-- no node stands in two groups there
apart_there : (h : Header) (ss more : List Step) → MayComeIn h ss more → AreDistinct (concat (world_after h ss).network.groups)
apart_there h ss more m =
    apart_behind partition_count h ss m.taken.declared.distinct (allowed_due partition_count ss (opened h) m.taken.allowed)
    (recursion_from_All (λ (s : Step). IsProperEvent s.event) ss m.taken.ranges)

none : (n : ℕ) → 0 + n ≡ n
none n = omega arith

below_limit : (r o : ℕ) → 21 + (r + o) ≤ 256 + r + o
below_limit r o = omega arith

-- enough rounds are calm's
pub comes : CalmComes
comes h ss m placed =
    let w : World = world_after h ss in
    let q : ℕ = records_held w + open_transactions w in
    let may : MayTake w (rounds partition_count (21 + q) w).steps = record { header = h; before = ss; leads = refl; taken = taken_on h ss (21 + q) m.taken (one_more_line _ line_bound m.room); room = m.room } in
    let plan : Schedule (up_nodes (world_at partition_count w 0)) (world_at partition_count w 0) (21 + q) q =
    scheduled w 0 (21 + q) (subst (λ (k : ℕ). MayTake w (rounds partition_count k w).steps) (sym (none (21 + q))) may) (apart_there h ss (rounds partition_count (21 + q) w).steps m) (λ k lt. ap (is_full_round partition_count w) (none k) ∙ placed k lt) in
    record {
      number = 21 + q;
      within = below_limit (records_held w) (open_transactions w);
      calm = subst (λ (u : World). is_calm u ≡ true) (later_world partition_count 0 w (21 + q) ∙ ap (world_at partition_count w) (none (21 + q)))
          (calm_then (up_nodes (world_at partition_count w 0)) (world_at partition_count w 0) (21 + q) q (omega arith) plan);
    }

few_begun : (h : Header) (ss : List Step) (x : Played) (b : AreBegun partition_count (world_after h ss) x) → MayComeIn h ss x.steps → NoneIsFull (world_after h ss) b.number → b.number ≤ enough (world_after h ss)
few_begun h ss x b m placed =
    let w : World = world_after h ss in
    begun_few (up_nodes (world_at partition_count w 0)) w (records_held w + open_transactions w) x b 0 b.number (none b.number)
    (scheduled w 0 b.number (subst (λ (k : ℕ). MayTake w (rounds partition_count k w).steps) (sym (none b.number)) (may_begun h ss x b m)) (apart_there h ss x.steps m) (λ k lt. ap (is_full_round partition_count w) (none k) ∙ placed k lt))

within_from : (h : Header) (ss : List Step) (x : Played) (b : AreBegun partition_count (world_after h ss) x) → MayComeIn h ss x.steps → Behind partition_count (world_after h ss) b.number → IsWithinCalm partition_count (world_after h ss) b.number
within_from h ss x b m l =
    let w : World = world_after h ss in
    let again : l.from + (b.number - l.from) ≡ b.number = whole l.from b.number l.within in
    begun_within (up_nodes (world_at partition_count w l.from)) w (records_held w + open_transactions w) x b l.from (b.number - l.from) again l.begins
    (scheduled w l.from (b.number - l.from) (subst (λ (k : ℕ). MayTake w (rounds partition_count k w).steps) (sym again) (may_begun h ss x b m)) (apart_there h ss x.steps m)
    (λ k lt. l.placed (l.from + k) (omega arith) (omega (arith, lt, l.within))))
    (below_limit (records_held w) (open_transactions w))
  where
    whole : (a c : ℕ) → a ≤ c → a + (c - a) ≡ c
    whole a c le = omega (arith, le)

pub begun_in_time : BegunAreInTime
begun_in_time h ss x b m = record { within = within_from h ss x b m (behind_last partition_count (world_after h ss) b.number); few = few_begun h ss x b m }

-- ---- whole calms

-- the rounds of a calm that is played whole are begun before its last event
module _ (h : Header) (ss : List Step) (x : Played) (c : Calms partition_count (world_after h ss) x) (m : MayComeIn h ss x.steps) where
  abbrev only : Played
  only = rounds partition_count c.number (world_after h ss)

  parts : ss ++ x.steps ≡ (ss ++ only.steps) ++ (play partition_count (event.Calmed c.number) only.world).steps
  parts = ap (λ (y : Played). ss ++ y.steps) c.played ∙ sym (append_assoc ss only.steps (play partition_count (event.Calmed c.number) only.world).steps)

  may_come : MayComeIn h ss (rounds partition_count c.number (world_after h ss)).steps
  may_come = record {
    taken = m.taken;
    room = omega (arith, front_lines (ss ++ only.steps) (play partition_count (event.Calmed c.number) only.world).steps, ap (λ (us : List Step). length (all_lines us)) parts, m.room);
  }

pub whole_in_time : WholeAreInTime
whole_in_time h ss x c m = begun_in_time h ss (rounds partition_count c.number (world_after h ss)) (record { number = c.number; uneasy = c.reached.before; played = refl }) (may_come h ss x c m)
