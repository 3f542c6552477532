-- What is due of a node in the world after steps that are taken is read as it was sent.
use Rattle.std.proofs.Common.{◌≡◌, ℕ, ◌+◌, ◌<◌, ◌≤◌, ◌^◌, List, length, Some, sym, ◌∙◌, subst}
use Rattle.conflict_order.specs.declared.policy.Policy.{Policy}
use Rattle.wire_messages.specs.Nodes.{IsId}
use Rattle.wire_messages.proofs.DecodingLaws.{what_is_read}
use Rattle.node_rules.specs.Agreement.{Proposal}
use Rattle.node_rules.specs.Facts.{Facts}
use Rattle.node_rules.specs.Hearing.{aged, heard_ids}
use Rattle.node_rules.specs.Notes.{after_ages, neighbours}
use Rattle.cluster_rules.specs.Opening.{Header, declared_factor, declared_nodes, declared_policy}
use Rattle.cluster_rules.specs.Steps.{Step, all_marks, all_lines}
use Rattle.key_laws.specs.Ends.{IsOneOf}
use Rattle.key_laws.specs.Sound.{Listed, ProposalStands, Hears}
use Rattle.key_laws.specs.Traced.{Traced}
use Rattle.key_laws.proofs.AllowedRuns.{declared_id}
use Rattle.key_laws.proofs.DueSteps.{own_keys}
use Rattle.key_laws.proofs.DueViews.{view_known}
use Rattle.key_laws.proofs.NamedLines.{all_members, heard_aged, heard_all, heard_weak, neighbours_are, neighbours_as}
use Rattle.key_laws.proofs.NamedSteps.{allowed_named}
use Rattle.key_laws.proofs.Neighbours.{aged_hears, heard_falls, heard_fit, neighbours_good}
use Rattle.key_laws.proofs.Peopled.{FitsRack, Neighbour, Peopled}
use Rattle.key_laws.proofs.Runs.{AreIds, declared_ids}
use Rattle.key_laws.proofs.TableReads.{table_proper}
use Rattle.run_laws.specs.Fronts.{Front, world_of, facts_at, front_after_all}
use Rattle.run_laws.specs.LineDue.{LawfulFront}
use Rattle.run_laws.specs.Ranges.{Ranged}
use Rattle.run_laws.specs.Steps.{Ended}
use Rattle.run_laws.specs.Taken.{Taken, first, line_bound}
use Rattle.run_laws.specs.Worlds.{SendsAreRead, SendsRead}
use Rattle.run_laws.proofs.AllRead.{ProposalFits, Spells, TicksSpelled, all_read, heard_proper, members_proper, message_free, request_free, tick_free}
use Rattle.run_laws.proofs.Journal.{Walked, lines_of_taken, traced_all, world_all}
use Rattle.run_laws.proofs.Premised.{taken_leads, taken_ranged}
use Rattle.run_laws.proofs.RangedSends.{message_read, request_read}
use Rattle.run_laws.proofs.RangedTicks.{tick_read}
use Rattle.run_laws.proofs.ReadSteps.{stood}
use Rattle.cluster_types.specs.Partitions.{partition_count}

-- ---- a front

-- what is known of it: all laws, and that few nodes are declared
pub record Knows (by : Policy) (factor : ℕ) (ns : List ℕ) (z : Front) : Type 0 where
  pub lawful : LawfulFront by factor z
  pub ends : Ended z
  pub ranged : Ranged z
  pub peopled : Peopled ns z.chronicle.traced
  pub ids : AreIds ns
  pub few : length ns ≤ 16
  pub room : z.lines + 1 < 2 ^ 32

pub proposal_fits : {by : Policy} {factor : ℕ} {ns : List ℕ} {z : Front} → Knows by factor ns z → (n : ℕ) (q : Proposal) → (facts_at z n).agreement.proposal ≡ Some q → ProposalFits q
proposal_fits {by} {factor} {ns} {z} k n q e = record {
  key = listed.key;
  members = members_proper ns q.key.principal q.members k.few listed.good (all_members (IsOneOf ns) q.members (λ m i. k.peopled.lists q.key q.members m list i)) (k.peopled.racks q.key q.members list);
}
  where
    of_stands : ProposalStands z.chronicle.traced n (facts_at z n).agreement.promised (facts_at z n).agreement.last (Some q) → z.chronicle.traced.lists q.key ≡ Some q.members
    of_stands x = x.list

    list : z.chronicle.traced.lists q.key ≡ Some q.members
    list = of_stands (subst (ProposalStands z.chronicle.traced n (facts_at z n).agreement.promised (facts_at z n).agreement.last) e (k.lawful.sound.nodes n).agrees.proposal)

    listed : Listed z.chronicle.traced q.key q.members
    listed = k.lawful.sound.lists q.key q.members list

pub spells : {by : Policy} {factor : ℕ} {ns : List ℕ} {z : Front} → Knows by factor ns z → (n : ℕ) → Spells (facts_at z n)
spells {by} {factor} {ns} {z} k n = record {
  promised = (k.lawful.sound.nodes n).agrees.promised.field;
  key = (stood k.lawful k.ends k.ranged n).key;
  proposal = proposal_fits k n;
  table = table_proper z.chronicle.traced (facts_at z n) k.lawful.sound (own_keys z.chronicle.traced n k.lawful.sound);
}

pub ticks : {by : Policy} {factor : ℕ} {ns : List ℕ} {z : Front} → Knows by factor ns z → (n : ℕ) → IsOneOf ns n → TicksSpelled (after_ages (facts_at z n))
ticks {by} {factor} {ns} {z} k n one = record {
  me = id;
  view = (view_known z.chronicle.traced f.me f (own_keys z.chronicle.traced n k.lawful.sound)).field;
  rack = (k.peopled.nodes n).rack;
  heard = heard_proper ns (heard_ids (aged f.hearing.heard)) f.me k.few (heard_falls z.chronicle.traced (aged f.hearing.heard) hears) (heard_fit z.chronicle.traced (aged f.hearing.heard) hears)
      (heard_all (IsOneOf ns) (aged f.hearing.heard) (heard_aged (λ m r. IsOneOf ns m) f.hearing.heard (heard_weak (Neighbour ns n) (λ m r. IsOneOf ns m) (λ m r x. x.node) f.hearing.heard (k.peopled.nodes n).heard)))
      (heard_all (λ m. m ≡ f.me → ⊥) (aged f.hearing.heard) (heard_aged (λ m r. m ≡ f.me → ⊥) f.hearing.heard (heard_weak (Neighbour ns n) (λ m r. m ≡ f.me → ⊥) (λ m r x e. x.other (e ∙ (k.peopled.nodes n).me)) f.hearing.heard (k.peopled.nodes n).heard)))
      own;
  neighbours = members_proper ns f.me (neighbours (after_ages f)) k.few (neighbours_good z.chronicle.traced f.me f.role (aged f.hearing.heard) id hears)
      (neighbours_are (IsOneOf ns) f.me f.role (aged f.hearing.heard) own (heard_aged (λ m r. IsOneOf ns m) f.hearing.heard (heard_weak (Neighbour ns n) (λ m r. IsOneOf ns m) (λ m r x. x.node) f.hearing.heard (k.peopled.nodes n).heard)))
      (neighbours_as FitsRack f.me f.role (aged f.hearing.heard) (k.peopled.nodes n).rack (heard_aged FitsRack f.hearing.heard (heard_weak (Neighbour ns n) FitsRack (λ m r x. x.rack) f.hearing.heard (k.peopled.nodes n).heard)));
}
  where
    f : Facts
    f = facts_at z n

    own : IsOneOf ns f.me
    own = subst (IsOneOf ns) (sym (k.peopled.nodes n).me) one

    id : IsId f.me
    id = declared_id ns f.me k.ids own

    hears : Hears z.chronicle.traced (aged f.hearing.heard)
    hears = aged_hears z.chronicle.traced f.hearing.heard (k.lawful.sound.nodes n).hears

reads : {by : Policy} {factor : ℕ} {ns : List ℕ} {z : Front} → Knows by factor ns z → SendsAreRead (world_of z)
reads {by} {factor} {ns} {z} k = record {
  tick = λ n up. let one : IsOneOf ns n = (k.peopled.nodes n).up up in
      all_read _ (tick_read z.lines (facts_at z n) k.room (ticks k n one).me (stood k.lawful k.ends k.ranged n) (facts_at z n).up) (tick_free (facts_at z n) (k.lawful.nodes n) (spells k n) (ticks k n one) (facts_at z n).up);
  request = λ n d q digest wanted.
      all_read _ (request_read z.lines (facts_at z n) ((world_of z).clocks n) d q k.room (k.ranged.clocks n) digest wanted (stood k.lawful k.ends k.ranged n)) (request_free (facts_at z n) ((world_of z).clocks n) d q);
  message = λ i p m e r up.
      all_read _ (message_read z.lines (facts_at z p.to) ((world_of z).clocks p.to) p.from m k.room (k.ranged.clocks p.to) (what_is_read p.bytes m r).0 (stood k.lawful k.ends k.ranged p.to))
      (message_free (facts_at z p.to) ((world_of z).clocks p.to) p.from m (what_is_read p.bytes m r).0 (k.lawful.nodes p.to) (spells k p.to));
}

-- ---- the world behind the steps

pub knows : (h : Header) (ss : List Step) → Taken h ss → length (all_lines ss) + 1 < line_bound → Knows (declared_policy h) (declared_factor h) (declared_nodes h) (front_after_all (first h) (all_marks ss))
knows h ss t room =
    let w : Walked (declared_policy h) (declared_factor h) (first h) (all_marks ss) = taken_leads h ss t in
    record {
      lawful = w.lawful;
      ends = w.ends;
      ranged = taken_ranged h ss t;
      peopled = subst (λ (u : Traced). Peopled (declared_nodes h) u) (sym (traced_all (first h) (all_marks ss))) (allowed_named partition_count h ss t.header t.allowed).peopled;
      ids = declared_ids h t.header;
      few = t.declared.limit;
      room = subst (λ (c : ℕ). c + 1 < 2 ^ 32) (sym (lines_of_taken h ss)) room;
    }

pub sends_are_read : SendsRead
sends_are_read h ss t room = subst SendsAreRead (world_all (first h) (all_marks ss)) (reads {z = front_after_all (first h) (all_marks ss)} (knows h ss t room))
