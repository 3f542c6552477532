-- A message has reached a node: what its step begins with, and steps that say little.
use Rattle.std.proofs.Common.{◌≡◌, ℕ, true, false, List, [], ◌∷◌, Some, None, refl, sym, subst}
use Rattle.conflict_order.specs.declared.policy.Policy.{Policy}
use Rattle.cluster_types.specs.declared.cluster_key.ClusterKey.{ClusterKey}
use Rattle.cluster_types.specs.declared.member.Member.{Member}
use Rattle.wire_messages.specs.declared.message.Message.{Message}
use Rattle.wire_messages.specs.Decoding.{message_of}
use Rattle.wire_messages.specs.Spelling.{spelling}
use Rattle.node_rules.specs.Effects.{nothing, to_each}
use Rattle.node_rules.specs.Exchange.{View}
use Rattle.node_rules.specs.Facts.{Facts}
use Rattle.node_rules.specs.Messages.{stale, spent}
use Rattle.node_rules.specs.Notes.{reached}
use Rattle.node_rules.specs.declared.member_row.MemberRow.{MemberRow}
use Rattle.key_laws.specs.Licences.{Says}
use Rattle.key_laws.specs.Sound.{NodeKeys, Listed}
use Rattle.run_laws.specs.Chronicle.{IsRowOf}
use Rattle.run_laws.specs.Fronts.{Front, world_of, facts_at, owed_by}
use Rattle.run_laws.specs.LineOk.{Came, IsDeclared}
use Rattle.run_laws.specs.LineDue.{DeclaredLaw, LawOf, SendDue}
use Rattle.run_laws.specs.Steps.{Rests, Ended}
use Rattle.run_laws.specs.Tied.{Each}
use Rattle.run_laws.proofs.Calmly.{EachPlainly, is_plain}
use Rattle.run_laws.proofs.NodeSteps.{NodeGo}
use Rattle.run_laws.specs.Spelled.{AreReadInRange, is_ranged}
use Rattle.run_laws.proofs.Reading.{ReadsWell}
use Rattle.run_laws.proofs.Turns.{Elsewhere, ended_but}

-- these were the facts, and the message is the one that reached the node
pub record Arrived (by : Policy) (factor : ℕ) (z0 z : Front) (f : Facts) (clock from : ℕ) (m : Message) : Type 0 where
  pub before : Ended z0
  pub elsewhere : Elsewhere f.me z0 z
  pub is : facts_at z f.me ≡ reached f from m
  pub stays : z.closing f.me ≡ false
  pub owes : z.owed ≡ owed_by f f.me m None
  pub came : Came z from f.me m
  pub says : Says z.chronicle.traced from m
  pub rests : Rests f
  pub law : LawOf by factor f
  pub keys : NodeKeys z.chronicle.traced f.me f
  pub listed : (k : ClusterKey) (ms : List Member) → z.chronicle.traced.lists k ≡ Some ms → Listed z.chronicle.traced k ms
  pub rowed : (v : View) → f.exchange.view ≡ Some v → Each (λ (r : MemberRow). IsRowOf z.chronicle r.node v.key r.row) f.exchange.rows
  pub law_of : DeclaredLaw z
  pub time : clock ≡ (world_of z).clocks f.me
  pub declared : (v : View) → f.exchange.view ≡ Some v → IsDeclared z f.me

-- the front is as between steps where the facts are
pub ended_at : {by : Policy} {factor : ℕ} {z0 z : Front} {f : Facts} {clock from : ℕ} {m : Message} → Arrived by factor z0 z f clock from m → z.owed ≡ None → Rests (reached f from m) → Ended z
ended_at {by} {factor} {z0} {z} {f} {clock} {from} {m} a o r = ended_but f.me z0 z a.elsewhere a.before o a.stays (subst (λ (g : Facts). Rests g) (sym a.is) r)

pub nothing_go : (z : Front) (n : ℕ) → Ended z → NodeGo z n nothing
nothing_go z n h = record { due = tt; sent = refl; sends = tt; ends = h }

pub stale_go : (z : Front) (f : Facts) → Ended z → NodeGo z f.me (stale f)
stale_go z f h = record { due = ((h.owes, tt), tt); sent = refl; sends = tt; ends = record { owes = h.owes; stays = h.stays; rests = h.rests } }

pub spent_go : (z : Front) (f : Facts) → Ended z → NodeGo z f.me (spent f)
spent_go z f h = record { due = ((h.owes, tt), tt); sent = refl; sends = tt; ends = record { owes = h.owes; stays = h.stays; rests = h.rests } }

-- one message to each of those
pub each_plain : (z : Front) (n : ℕ) (m : Message) (ns : List ℕ) → is_plain m ≡ true → ((r : ℕ) → SendDue z n r m) → ((is_ranged m ≡ true → message_of (spelling m) ≡ Some m) → ReadsWell m) → AreReadInRange (to_each ns m) → EachPlainly z n (to_each ns m)
each_plain z n m [] p d w r = tt
each_plain z n m (x ∷ ns) p d w r = (record { plain = p; read = w r.0; due = d x }, each_plain z n m ns p d w r.1)
