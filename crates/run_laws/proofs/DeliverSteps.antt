-- A message is delivered, repeated or cut: the step of its receiver.
use Rattle.std.proofs.Common.{◌≡◌, ℕ, ◌==◌, Bool, true, false, List, ◌∷◌, length, Option, Some, None, refl, sym, ap, ◌∙◌, subst}
use Rattle.std.specs.Prelude.{option_map, if◌then◌else◌}
use Rattle.conflict_order.specs.declared.policy.Policy.{Policy}
use Rattle.cluster_types.specs.Partitions.{partition_count}
use Rattle.journal_lines.specs.declared.line.Line.{Line}
use Rattle.wire_messages.specs.declared.message.Message.{Message}
use Rattle.wire_messages.specs.declared.message.Message.TheVariants as message
use Rattle.wire_messages.specs.Decoding.{message_of}
use Rattle.node_rules.specs.Exchange.{View, is_view}
use Rattle.node_rules.specs.Facts.{Facts}
use Rattle.node_rules.specs.Messages.{due_message, client, due_message_of}
use Rattle.node_rules.specs.Notes.{reached}
use Rattle.node_rules.specs.Tables.{contains}
use Rattle.node_rules.specs.declared.member_row.MemberRow.{MemberRow}
use Rattle.cluster_rules.specs.DueEvents.{written, due_at_client, due_arrival}
use Rattle.cluster_rules.specs.Marks.{Writes, came, came_to_client, came_to_node}
use Rattle.journal_readings.specs.Messages.{Posting}
use Rattle.cluster_rules.specs.Network.{Network, posting_at}
use Rattle.cluster_rules.specs.World.{World, with_facts}
use Rattle.cluster_laws.specs.Picture.{Owed}
use Rattle.cluster_laws.proofs.At.{number_same}
use Rattle.key_laws.specs.Licences.{OkLine}
use Rattle.key_laws.specs.Sound.{NodeKeys, Grows}
use Rattle.key_laws.proofs.Kept.{WasPosted, was_posted, kept_line}
use Rattle.key_laws.proofs.Growth.{node_grows}
use Rattle.run_laws.specs.Chronicle.{IsRowOf}
use Rattle.run_laws.specs.Fronts.{Front, world_of, facts_at, front_after, owed_by, owed_if, owed_at}
use Rattle.run_laws.specs.LineDue.{LineDue, LineMay, LawOf, LawfulFront}
use Rattle.run_laws.specs.Spelled.{arrived_sends, ViewsDeclared}
use Rattle.run_laws.specs.Steps.{Rests, Ended}
use Rattle.run_laws.specs.Tied.{Each}
use Rattle.run_laws.proofs.AgreementSteps.{propose_go, accept_go, commit_go, refuse_go, map_ask_go}
use Rattle.run_laws.proofs.Arrived.{Arrived, ended_at, nothing_go, stale_go}
use Rattle.run_laws.proofs.BatchSteps.{batch_go}
use Rattle.run_laws.proofs.CopySteps.{state_go, repl_go}
use Rattle.run_laws.proofs.Grounded.{outside}
use Rattle.run_laws.proofs.Lawful.{Onward, lawful_line}
use Rattle.run_laws.proofs.Rows.{rows_on}
use Rattle.run_laws.proofs.NodeSteps.{NodeGo, effects_go}
use Rattle.run_laws.specs.Spelled.{AreReadInRange}
use Rattle.run_laws.proofs.Turns.{LinesGo, here, away}
use Rattle.run_laws.proofs.ViewSteps.{batch_ack_go, progress_go, ask_go, repl_ack_go, answer_go}

-- ---- a message of any kind

pub message_go : {by : Policy} {factor : ℕ} {z0 z : Front} {f : Facts} {clock from : ℕ} (m : Message) → Arrived by factor z0 z f clock from m → AreReadInRange (due_message f clock from m).sends → NodeGo z f.me (due_message f clock from m)
message_go {by} {factor} {z0} {z} {f} {clock} {from} (message.Heartbeat view promised hears role) a r = nothing_go z f.me (ended_at a a.owes a.rests)
message_go {by} {factor} {z0} {z} {f} {clock} {from} (message.Propose k ms) a r = propose_go a r
message_go {by} {factor} {z0} {z} {f} {clock} {from} (message.Accept k) a r = accept_go a r
message_go {by} {factor} {z0} {z} {f} {clock} {from} (message.Refuse k promised) a r = refuse_go a
message_go {by} {factor} {z0} {z} {f} {clock} {from} (message.Commit k ms) a r = commit_go a
message_go {by} {factor} {z0} {z} {f} {clock} {from} (message.State k wants row) a r = state_go a r
message_go {by} {factor} {z0} {z} {f} {clock} {from} (message.Batch b) a r = batch_go a r
message_go {by} {factor} {z0} {z} {f} {clock} {from} (message.BatchAck k number) a r = batch_ack_go a
message_go {by} {factor} {z0} {z} {f} {clock} {from} (message.Progress k wants done handed settled) a r = progress_go a r
message_go {by} {factor} {z0} {z} {f} {clock} {from} (message.Repl k t nth d v) a r = repl_go a r
message_go {by} {factor} {z0} {z} {f} {clock} {from} (message.ReplAck k t) a r = repl_ack_go a
message_go {by} {factor} {z0} {z} {f} {clock} {from} (message.Ask k t d) a r = ask_go a r
message_go {by} {factor} {z0} {z} {f} {clock} {from} (message.Answer k t v) a r = answer_go a r
message_go {by} {factor} {z0} {z} {f} {clock} {from} message.MapAsk a r = map_ask_go a r
message_go {by} {factor} {z0} {z} {f} {clock} {from} _ a r = stale_go z f (ended_at a a.owes a.rests)

-- ---- a line by which a message arrives

-- what the line adds: this message is at its end
pub record Landing (z : Front) (l : Line) (p : Posting) (o : Option Message) : Type 0 where
  pub key : OkLine z.chronicle.traced l
  pub due : LineDue z l
  pub may : LineMay z l
  pub number : ℕ
  pub posted : posting_at (world_of z).network number ≡ Some p
  pub world : world_of (front_after z (Writes l)) ≡ came (world_of z) (option_map (λ m. record { from = p.from; to = p.to; message = m }) o)
  pub owed : (front_after z (Writes l)).owed ≡ owed_at (world_of z) (option_map (λ m. record { from = p.from; to = p.to; message = m }) o) z.owed
  pub closing : (front_after z (Writes l)).closing ≡ z.closing

-- ---- at a node

came_world : (z : World) (f : Facts) (p : Posting) (m : Message) → p.to ≡ f.me → z.facts f.me ≡ f → came_to_node z (record { from = p.from; to = p.to; message = m }) ≡ with_facts z f.me (reached f p.from m)
came_world z f p m to is = ap (λ (n : ℕ). with_facts z n (reached (z.facts n) p.from m)) to ∙ ap (λ (g : Facts). with_facts z f.me (reached g p.from m)) is

at_node : (by : Policy) (factor : ℕ) (z : Front) (l : Line) (p : Posting) (m : Message) (f : Facts) → LawfulFront by factor z → Ended z → ViewsDeclared (world_of z) → message_of p.bytes ≡ Some m → (p.to == client) ≡ false → p.to ≡ f.me → facts_at z f.me ≡ f
    → Landing z l p (Some m) → Arrived by factor z (front_after z (Writes l)) f ((world_of z).clocks f.me) p.from m
at_node by factor z l p m f law h dec read node to is g = record {
  before = h;
  elsewhere = record { facts = λ j e. ap (λ (w : World). w.facts j) world ∙ away (world_of z).facts f.me _ j e; closing = λ j e. ap (λ (c : ℕ → Bool). c j) g.closing };
  is = ap (λ (w : World). w.facts f.me) world ∙ here (world_of z).facts f.me _;
  stays = ap (λ (c : ℕ → Bool). c f.me) g.closing ∙ h.stays f.me;
  owes = g.owed ∙ ap (λ (n : ℕ). owed_by ((world_of z).facts n) n m z.owed) to ∙ ap (λ (x : Facts). owed_by x f.me m z.owed) is ∙ ap (owed_by f f.me m) h.owes;
  came = record { number = g.number; posting = p; sent = ap (λ (w : World). posting_at w.network g.number) world ∙ g.posted; ends = (refl, to); message = read };
  says = let w : WasPosted (front_after z (Writes l)).chronicle.traced p = was_posted (front_after z (Writes l)).chronicle.traced g.number p (ap (λ (w : World). posting_at w.network g.number) world ∙ g.posted) in on.lawful.sound.sent w.place p m w.stands read;
  rests = subst (λ (x : Facts). Rests x) is (h.rests f.me);
  law = subst (λ (x : Facts). LawOf by factor x) is (law.nodes f.me);
  keys = node_grows z.chronicle.traced (front_after z (Writes l)).chronicle.traced grows f.me f (subst (λ (x : Facts). NodeKeys z.chronicle.traced f.me x) is (law.sound.nodes f.me));
  listed = on.lawful.sound.lists;
  rowed = λ v e. rows_on z.chronicle (front_after z (Writes l)).chronicle on.longer v.key f.exchange.rows (subst (λ (x : Facts). Each (λ (r : MemberRow). IsRowOf z.chronicle r.node v.key r.row) x.exchange.rows) is (law.rowed.kept f.me v (ap (λ (x : Facts). x.exchange.view) is ∙ e)));
  law_of = on.lawful.declared;
  time = sym (ap (λ (w : World). w.clocks f.me) world);
  declared = λ v e. ap (λ (w : World). contains w.nodes f.me) world ∙ dec f.me v (ap (λ (x : Facts). x.exchange.view) is ∙ e);
}
  where
    world : world_of (front_after z (Writes l)) ≡ with_facts (world_of z) f.me (reached f p.from m)
    world = g.world ∙ ap (λ (holds : Bool). if holds then came_to_client (world_of z) m else came_to_node (world_of z) (record { from = p.from; to = p.to; message = m })) node ∙ came_world (world_of z) f p m to is

    on : Onward by factor z (front_after z (Writes l))
    on = lawful_line by factor z l g.key g.due law

    grows : Grows z.chronicle.traced (front_after z (Writes l)).chronicle.traced
    grows = (kept_line z.chronicle.traced l g.key law.sound).grows

-- ---- at the client

owed_outside : (f : Facts) (n : ℕ) (m : Message) (o : Option Owed) → f.exchange.view ≡ None → owed_by f n m o ≡ o
owed_outside f n (message.Repl k t nth d v) o e = ap (λ (u : Option View). owed_if f n k d v (is_view u k) o) e
owed_outside f n _ o e = refl

client_facts : (w : World) (m : Message) (n : ℕ) → (came_to_client w m).facts n ≡ w.facts n
client_facts w (message.MapTable t) n = refl
client_facts w _ n = refl

pub facts_ended : (z y : Front) → Ended z → y.owed ≡ None → y.closing ≡ z.closing → ((n : ℕ) → facts_at y n ≡ facts_at z n) → Ended y
facts_ended z y h o c fs = record { owes = o; stays = λ n. ap (λ (q : ℕ → Bool). q n) c ∙ h.stays n; rests = λ n. subst (λ (x : Facts). Rests x) (sym (fs n)) (h.rests n) }

client_goes : (z : Front) (m : Message) → Ended z → LinesGo z (due_at_client m)
client_goes z (message.MapTable t) h = record { due = ((h.owes, tt), tt); ends = record { owes = h.owes; stays = h.stays; rests = h.rests } }
client_goes z _ h = record { due = ((h.owes, tt), tt); ends = record { owes = h.owes; stays = h.stays; rests = h.rests } }

at_client : (by : Policy) (factor : ℕ) (z : Front) (l : Line) (p : Posting) (m : Message) → LawfulFront by factor z → Ended z → (p.to == client) ≡ true → Landing z l p (Some m) → Ended (front_after z (Writes l))
at_client by factor z l p m law h node g = facts_ended z (front_after z (Writes l)) h
    (g.owed ∙ owed_outside (facts_at z p.to) p.to m z.owed (ap (λ (n : ℕ). (facts_at z n).exchange.view) (number_same p.to client node) ∙ outside z law.sound) ∙ h.owes) g.closing
    (λ n. ap (λ (w : World). w.facts n) (g.world ∙ ap (λ (holds : Bool). if holds then came_to_client (world_of z) m else came_to_node (world_of z) (record { from = p.from; to = p.to; message = m })) node) ∙ client_facts (world_of z) m n)

-- ---- the lines behind it

pub behind_line : (by : Policy) (factor : ℕ) (z : Front) (w : World) (net : Network) (l : Line) (p : Posting) → w.facts ≡ (world_of z).facts → w.clocks ≡ (world_of z).clocks → length net.sent ≡ length (world_of z).network.sent → LawfulFront by factor z → Ended z → ViewsDeclared (world_of z)
    → (o : Option Message) → message_of p.bytes ≡ o → Landing z l p o → AreReadInRange (arrived_sends w p o) → LinesGo (front_after z (Writes l)) (due_arrival partition_count w net p o)
behind_line by factor z w net l p fs cs num law h dec None read g r = record { due = tt; ends = facts_ended z (front_after z (Writes l)) h (g.owed ∙ h.owes) g.closing (λ n. ap (λ (x : World). x.facts n) g.world) }
behind_line by factor z w net l p fs cs num law h dec (Some m) read g r = by_end (p.to == client) refl
  where
    f : Facts
    f = w.facts p.to

    me : (w.facts p.to).me ≡ p.to
    me = ap (λ (x : ℕ → Facts). (x p.to).me) fs ∙ (law.sound.nodes p.to).me

    is : facts_at z (w.facts p.to).me ≡ w.facts p.to
    is = ap (facts_at z) me ∙ ap (λ (x : ℕ → Facts). x p.to) (sym fs)

    time : (world_of z).clocks (w.facts p.to).me ≡ w.clocks p.to
    time = ap (world_of z).clocks me ∙ ap (λ (x : ℕ → ℕ). x p.to) (sym cs)

    net_same : (q : Bool) → (p.to == client) ≡ q → length net.sent ≡ length (world_of (front_after z (Writes l))).network.sent
    net_same q e = num ∙ ap length (sym (ap (λ (x : World). x.network.sent) g.world ∙ sent_same (p.to == client)))
      where
        table : (m : Message) → (came_to_client (world_of z) m).network.sent ≡ (world_of z).network.sent
        table (message.MapTable t) = refl
        table _ = refl

        sent_same : (b : Bool) → (if b then came_to_client (world_of z) m else came_to_node (world_of z) (record { from = p.from; to = p.to; message = m })).network.sent ≡ (world_of z).network.sent
        sent_same true = table m
        sent_same false = refl

    by_end : (q : Bool) → (p.to == client) ≡ q → LinesGo (front_after z (Writes l)) (if q then due_at_client m else written net p.to (due_message_of partition_count (w.facts p.to) (w.clocks p.to) p.from m))
    by_end true e = client_goes (front_after z (Writes l)) m (at_client by factor z l p m law h e g)
    by_end false e = subst (λ (n : ℕ). LinesGo (front_after z (Writes l)) (written net n (due_message (w.facts p.to) (w.clocks p.to) p.from m))) me
        (effects_go (front_after z (Writes l)) net (w.facts p.to).me (due_message (w.facts p.to) (w.clocks p.to) p.from m) (net_same false e)
        (message_go m (subst (λ (t : ℕ). Arrived by factor z (front_after z (Writes l)) (w.facts p.to) t p.from m) time (at_node by factor z l p m (w.facts p.to) law h dec read e (sym me) is g)) r))

-- the line, and then those
pub with_line : (z : Front) (l : Line) (ls : List Line) → LineMay z l → LinesGo (front_after z (Writes l)) ls → LinesGo z (l ∷ ls)
with_line z l ls ok g = record { due = (ok, g.due); ends = g.ends }
