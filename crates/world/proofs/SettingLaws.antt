-- What a world keeps where an event sets something in it.
use Rattle.std.proofs.Common.{◌≡◌, ℕ, ◌+◌, ◌<◌, ◌≤◌, ◌^◌, Bool, true, false, List, [], ◌∷◌, ◌++◌, set, Option, Some, refl, sym, ap, subst, arith}
use Rattle.cluster_types.specs.Groups.{AreGroups}
use Rattle.journal_lines.specs.declared.line.Line.{Line}
use Rattle.journal_lines.specs.declared.line.Line.TheVariants as line
use Rattle.journal_text.specs.Journals.{IsWithin}
use Rattle.client_map.specs.declared.client_map.Entry.{Entry}
use Rattle.net_script.specs.Network as nets
use Rattle.node_rules.specs.Notes.{marked}
use Rattle.node_rules.specs.Steps.{Planning, after_start}
use Rattle.cluster_rules.specs.declared.event.Event.{Event}
use Rattle.cluster_rules.specs.declared.event.Event.TheVariants as event
use Rattle.cluster_rules.specs.NodeSteps.{after_step}
use Rattle.cluster_rules.specs.Opening.{declared_nodes}
use Rattle.cluster_rules.specs.World as worlds
use Rattle.std.specs.Prelude.{Contains}
use Rattle.run_laws.specs.Taken.{IsProperEvent}
use Rattle.world.specs.declared.world.World.TheInside.{Inside}
use Rattle.world.specs.Arriving.{OnlyLands}
use Rattle.world.specs.Kept.{Keeps, run_of}
use Rattle.world.specs.Ledgers.{Wrote}
use Rattle.world.specs.Sent.{landing_from}
use Rattle.world.specs.Stands.{Stands}
use Rattle.world.specs.Steps.{RunSoFar, MayCome, StandsAt, mark_line, marking, next_lines, standing}
use Rattle.world.proofs.ActingLaws.{start_lines, start_stands}
use Rattle.world.proofs.EventLaws.{clock_due, groups_due, stands_clock, stands_groups, stands_marked}
use Rattle.world.proofs.KeepLaws.{distinct_of, id_at, its_own, keeps_after, landing_few, named_declared, stands_of, stands_over}

-- the same parts stand as that world does
pub parts : (x : worlds.World) (v : Inside) (ids : List ℕ) (nodes : List Planning) (clocks : List ℕ) (net : nets.NetworkState) (client : List (Option Entry))
    → v.ids ≡ ids → v.nodes.items ≡ nodes → v.clocks.items ≡ clocks → v.net ≡ net → v.client ≡ client → Stands x ids nodes clocks net client → Stands x v.ids v.nodes.items v.clocks.items v.net v.client
parts x v ids nodes clocks net client a b c d e h =
    subst (λ (xs : List ℕ). Stands x xs v.nodes.items v.clocks.items v.net v.client) (sym a)
    (subst (λ (xs : List Planning). Stands x ids xs v.clocks.items v.net v.client) (sym b)
    (subst (λ (xs : List ℕ). Stands x ids nodes xs v.net v.client) (sym c)
    (subst (λ (n : nets.NetworkState). Stands x ids nodes clocks n v.client) (sym d)
    (subst (λ (es : List (Option Entry)). Stands x ids nodes clocks net es) (sym e) h))))

-- all but these parts is the same, and the step was written
pub record Sets (w v : Inside) (now : RunSoFar) (e : Event) (ms : List Line) : Type 0 where
  pub seen : run_of w ≡ now
  pub keeps : Keeps w
  pub comes : MayCome now e
  pub wrote : Wrote w.ledger v.ledger ms e
  pub within : IsWithin (w.ledger.journal.lines ++ ms)
  pub header : v.header.items ≡ w.header.items
  pub ids : v.ids ≡ w.ids

pub keeps_over : (w v : Inside) (now : RunSoFar) (e : Event) (landing : Option ℕ) (ms : List Line) → Sets w v now e ms → IsProperEvent e → ms ≡ next_lines now e → OnlyLands now e landing
    → v.nodes.items ≡ w.nodes.items → v.clocks.items ≡ w.clocks.items → nets.IsSameNetwork (landing_from w.net landing) v.net → v.client ≡ w.client → Keeps v
keeps_over w v now e landing ms s proper made only nodes clocks net client =
    keeps_after w v now e ms s.seen s.keeps s.header made s.comes proper s.wrote s.within (landing_few w.net v.net landing ms net)
    (parts (after_step (standing now) e) v w.ids w.nodes.items w.clocks.items v.net w.client s.ids nodes clocks refl client (stands_over w now e landing v.net s.seen s.keeps only net))

pub keeps_clock : (w v : Inside) (now : RunSoFar) (e : Event) (n time place : ℕ) → Sets w v now e (line.Clock n time ∷ []) → StandsAt now place n → e ≡ event.Clock n time → time < 2 ^ 64
    → v.nodes.items ≡ w.nodes.items → v.clocks.items ≡ set w.clocks.items place time → v.net ≡ w.net → v.client ≡ w.client → Keeps v
keeps_clock w v now e n time place s at is fits nodes clocks net client =
    keeps_after w v now e (line.Clock n time ∷ []) s.seen s.keeps s.header (clock_due now e n time is) s.comes (subst IsProperEvent (sym is) fits) s.wrote s.within (few (ap (λ (x : nets.NetworkState). x.sent) net))
    (parts (after_step (standing now) e) v w.ids w.nodes.items (set w.clocks.items place time) w.net w.client s.ids nodes clocks net client
    (subst (λ (x : Event). Stands (after_step (standing now) x) w.ids w.nodes.items (set w.clocks.items place time) w.net w.client) (sym is)
    (stands_clock (standing now) w.ids w.nodes.items w.clocks.items (set w.clocks.items place time) w.net w.client n time place (stands_of w now s.seen s.keeps) (distinct_of w now s.seen s.keeps) (id_at w now place n s.seen s.keeps at) refl)))
  where
    few : v.net.sent ≡ w.net.sent → v.net.sent ≤ w.net.sent + 1
    few e = omega (arith, e)

pub keeps_groups : (w v : Inside) (now : RunSoFar) (e : Event) (groups : List (List ℕ)) → Sets w v now e (line.Groups groups ∷ []) → e ≡ event.Groups groups → AreGroups groups
    → v.nodes.items ≡ w.nodes.items → v.clocks.items ≡ w.clocks.items → v.net.flying ≡ w.net.flying → v.net.sent ≡ w.net.sent → v.net.groups ≡ Some groups → v.client ≡ w.client → Keeps v
keeps_groups w v now e groups s is proper nodes clocks flying sent set client =
    keeps_after w v now e (line.Groups groups ∷ []) s.seen s.keeps s.header (groups_due now e groups is) s.comes (subst IsProperEvent (sym is) proper) s.wrote s.within (omega (arith, sent))
    (parts (after_step (standing now) e) v w.ids w.nodes.items w.clocks.items v.net w.client s.ids nodes clocks refl client
    (subst (λ (x : Event). Stands (after_step (standing now) x) w.ids w.nodes.items w.clocks.items v.net w.client) (sym is)
    (stands_groups (standing now) w.ids w.nodes.items w.clocks.items w.net v.net w.client groups (stands_of w now s.seen s.keeps) flying sent set)))

pub keeps_start : (w v : Inside) (now : RunSoFar) (e : Event) (n place : ℕ) (node : Planning) → Sets w v now e (line.Start n ∷ []) → StandsAt now place n → e ≡ event.Start n → ((standing now).facts n).up ≡ false
    → v.nodes.items ≡ set w.nodes.items place node → node.now ≡ after_start ((standing now).facts n) → v.clocks.items ≡ w.clocks.items → v.net ≡ w.net → v.client ≡ w.client → Keeps v
keeps_start w v now e n place node s at is down nodes started clocks net client =
    let own : ((standing now).facts n).me ≡ n = its_own w now n s.seen s.keeps in
    keeps_after w v now e (line.Start n ∷ []) s.seen s.keeps s.header (subst (λ (x : Event). line.Start n ∷ [] ≡ next_lines now x) (sym is) (start_lines now n own down)) s.comes (subst IsProperEvent (sym is) tt) s.wrote s.within
    (few (ap (λ (x : nets.NetworkState). x.sent) net))
    (parts (after_step (standing now) e) v w.ids (set w.nodes.items place node) w.clocks.items w.net w.client s.ids nodes clocks net client
    (subst (λ (x : Event). Stands (after_step (standing now) x) w.ids (set w.nodes.items place node) w.clocks.items w.net w.client) (sym is)
    (start_stands now n w.ids w.nodes.items w.clocks.items w.net w.client place node (stands_of w now s.seen s.keeps) (distinct_of w now s.seen s.keeps) (id_at w now place n s.seen s.keeps at) down own started)))
  where
    few : v.net.sent ≡ w.net.sent → v.net.sent ≤ w.net.sent + 1
    few e = omega (arith, e)

mark_made : (r : RunSoFar) (n : ℕ) (b : Bool) → mark_line n b ∷ [] ≡ next_lines r (marking n b)
unfolding next_lines
mark_made r n true = refl
mark_made r n false = refl

pub mark_due : (r : RunSoFar) (e : Event) (n : ℕ) (quiesced : Bool) → e ≡ marking n quiesced → mark_line n quiesced ∷ [] ≡ next_lines r e
mark_due r e n quiesced is = subst (λ (x : Event). mark_line n quiesced ∷ [] ≡ next_lines r x) (sym is) (mark_made r n quiesced)

proper_mark : (n : ℕ) (quiesced : Bool) → IsProperEvent (marking n quiesced)
proper_mark n true = tt
proper_mark n false = tt

pub keeps_mark : (w v : Inside) (now : RunSoFar) (e : Event) (n place : ℕ) (quiesced : Bool) (node : Planning) → Sets w v now e (mark_line n quiesced ∷ []) → StandsAt now place n → e ≡ marking n quiesced
    → v.nodes.items ≡ set w.nodes.items place node → node.now ≡ marked ((standing now).facts n) quiesced → v.clocks.items ≡ w.clocks.items → v.net ≡ w.net → v.client ≡ w.client → Keeps v
keeps_mark w v now e n place quiesced node s at is nodes set_so clocks net client =
    keeps_after w v now e (mark_line n quiesced ∷ []) s.seen s.keeps s.header (mark_due now e n quiesced is) s.comes (subst IsProperEvent (sym is) (proper_mark n quiesced)) s.wrote s.within (few (ap (λ (x : nets.NetworkState). x.sent) net))
    (parts (after_step (standing now) e) v w.ids (set w.nodes.items place node) w.clocks.items w.net w.client s.ids nodes clocks net client
    (subst (λ (x : Event). Stands (after_step (standing now) x) w.ids (set w.nodes.items place node) w.clocks.items w.net w.client) (sym is)
    (stands_marked (standing now) w.ids w.nodes.items w.clocks.items w.net w.client n place quiesced node (stands_of w now s.seen s.keeps) (distinct_of w now s.seen s.keeps) (id_at w now place n s.seen s.keeps at) set_so)))
  where
    few : v.net.sent ≡ w.net.sent → v.net.sent ≤ w.net.sent + 1
    few e = omega (arith, e)

pub mark_named : (now : RunSoFar) (e : Event) (n : ℕ) (quiesced : Bool) → e ≡ marking n quiesced → MayCome now e → Contains (declared_nodes now.header) n
mark_named now e n true is comes = named_declared now e (marking n true) n is refl comes
mark_named now e n false is comes = named_declared now e (marking n false) n is refl comes

pub start_due : (w : Inside) (now : RunSoFar) (e : Event) (n : ℕ) → run_of w ≡ now → Keeps w → e ≡ event.Start n → ((standing now).facts n).up ≡ false → line.Start n ∷ [] ≡ next_lines now e
start_due w now e n seen k is down = subst (λ (x : Event). line.Start n ∷ [] ≡ next_lines now x) (sym is) (start_lines now n (its_own w now n seen k) down)
