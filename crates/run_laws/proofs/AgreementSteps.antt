-- Messages of the agreement, and the client's question.
use Rattle.std.proofs.Common.{◌≡◌, ℕ, Bool, true, false, List, [], ◌∷◌, Option, Some, None, refl, sym, subst, inl, inr, if◌then◌else◌}
use Rattle.conflict_order.specs.declared.policy.Policy.{Policy}
use Rattle.cluster_types.specs.declared.cluster_key.ClusterKey.{ClusterKey}
use Rattle.cluster_types.specs.declared.member.Member.{Member}
use Rattle.cluster_types.specs.ClusterKeys.{key_lt}
use Rattle.journal_lines.specs.declared.line.Line.{Line}
use Rattle.journal_lines.specs.declared.line.Line.TheVariants as line
use Rattle.wire_messages.specs.declared.message.Message.TheVariants as message
use Rattle.node_rules.specs.Agreement.{Proposal, proposes, without_missing, others_among}
use Rattle.node_rules.specs.Copies.{is_nil}
use Rattle.node_rules.specs.Effects.{to_each, lines_and_sends, lines_only, nothing, sends_only, to_one}
use Rattle.node_rules.specs.Entering.{entering}
use Rattle.node_rules.specs.Exchange.{is_member}
use Rattle.node_rules.specs.Facts.{Facts}
use Rattle.node_rules.specs.Keys.{same_key}
use Rattle.node_rules.specs.Messages as due
use Rattle.node_rules.specs.Messages.{commit_effects, accept_effects, may_enter_view, map_table, due_propose, due_accept, due_refuse, due_commit, due_map_ask}
use Rattle.node_rules.specs.Notes.{reached}
use Rattle.cluster_rules.specs.Marks.{Writes}
use Rattle.cluster_laws.proofs.At.{and_right}
use Rattle.key_laws.specs.Sound.{GoodList, ProposalStands, Proposed, Listed}
use Rattle.wire_messages.specs.Keys.{IsKeyField, IsKeyOrNone}
use Rattle.wire_messages.specs.declared.message.MapTable.{MapTable}
use Rattle.node_rules.specs.Tables.{only_if}
use Rattle.key_laws.proofs.DueViews.{view_known}
use Rattle.key_laws.proofs.Wire.{read_accept, read_refuse, read_commit, read_table}
use Rattle.run_laws.proofs.Reading.{Alike, ReadsWell}
use Rattle.run_laws.specs.Fronts.{Front, world_of, facts_at, front_after}
use Rattle.run_laws.specs.LineOk.{IsDeclared}
use Rattle.run_laws.specs.Steps.{Rests, Ended}
use Rattle.run_laws.proofs.Arrived.{Arrived, ended_at, nothing_go, stale_go, each_plain}
use Rattle.run_laws.proofs.EnteringSteps.{Entering, entering_go}
use Rattle.run_laws.proofs.NodeSteps.{NodeGo}
use Rattle.run_laws.specs.Spelled.{AreReadInRange}
use Rattle.run_laws.proofs.Turns.{Elsewhere, elsewhere_on, ended_but, here, away}
use Rattle.cluster_types.specs.Endpoints.{client}
use Rattle.node_rules.specs.StaleMessages.{stale}
use Rattle.cluster_types.specs.ClusterKeys as keys

-- ---- what these are read as

accept_reads : (k : ClusterKey) → IsKeyOrNone k → ReadsWell (message.Accept k)
accept_reads k h = read_accept (Alike (message.Accept k)) k h (inl refl)

refuse_reads : (k promised : ClusterKey) → IsKeyOrNone k → IsKeyOrNone promised → ReadsWell (message.Refuse k promised)
refuse_reads k promised h i = read_refuse (Alike (message.Refuse k promised)) k promised h i (inl refl)

commit_reads : (k : ClusterKey) (ms : List Member) → IsKeyField k → GoodList k.principal ms → ReadsWell (message.Commit k ms)
commit_reads k ms h good = read_commit (Alike (message.Commit k ms)) k ms k.principal h good (inl refl)

table_reads : (t : MapTable) → IsKeyOrNone t.key → ReadsWell (message.MapTable t)
table_reads t h = read_table (Alike (message.MapTable t)) t h (λ y e. inr (record { sort = 2; first = refl; second = refl }))

-- ---- votes

promise_ends : (z0 z : Front) (n : ℕ) (k : ClusterKey) → Ended z0 → Elsewhere n z0 z → z.owed ≡ None → z.closing n ≡ false → Rests (facts_at z n) → Ended (front_after z (Writes (line.Promise n k)))
promise_ends z0 z n k h el o c r = ended_but n z0 (front_after z (Writes (line.Promise n k))) (elsewhere_on n z0 z _ el (record { facts = λ m e. away (world_of z).facts n _ m e; closing = λ m e. refl })) h o c
    (subst (λ (f : Facts). Rests f) (sym (here (world_of z).facts n _)) r)

pub propose_go : {by : Policy} {factor : ℕ} {z0 z : Front} {f : Facts} {clock from : ℕ} {k : ClusterKey} {ms : List Member} → Arrived by factor z0 z f clock from (message.Propose k ms) → AreReadInRange (due_propose f from k).sends → NodeGo z f.me (due_propose f from k)
propose_go {by} {factor} {z0} {z} {f} {clock} {from} {k} {ms} a read = go (key_lt k f.agreement.promised) read
  where
    l : Listed z.chronicle.traced k ms
    l = a.listed k ms a.says.1

    accepts : (b : Bool) → AreReadInRange (to_each (from ∷ []) (message.Accept k)) → NodeGo z f.me (record { lines = only_if (line.Promise f.me k) b; sends = to_each (from ∷ []) (message.Accept k) })
    accepts true r = record { due = ((a.owes, λ i. subst (λ (m : ℕ). IsDeclared z m) i (a.law_of.lists k ms k.principal a.says.1 (a.listed k ms a.says.1).good.led)), tt); sent = refl; sends = each_plain _ f.me (message.Accept k) (from ∷ []) refl (λ x. tt) (λ q. accept_reads k l.known.field) r; ends = promise_ends z0 z f.me k a.before a.elsewhere a.owes a.stays (subst (λ (g : Facts). Rests g) (sym a.is) a.rests) }
    accepts false r = record { due = tt; sent = refl; sends = each_plain z f.me (message.Accept k) (from ∷ []) refl (λ x. tt) (λ q. accept_reads k l.known.field) r; ends = ended_at a a.owes a.rests }

    go : (b : Bool) → AreReadInRange (if b then sends_only (to_one from (message.Refuse k f.agreement.promised)) else lines_and_sends (only_if (line.Promise f.me k) (keys.key_lt f.agreement.promised k)) (to_one from (message.Accept k))).sends
        → NodeGo z f.me (if b then sends_only (to_one from (message.Refuse k f.agreement.promised)) else lines_and_sends (only_if (line.Promise f.me k) (keys.key_lt f.agreement.promised k)) (to_one from (message.Accept k)))
    go true r = record { due = tt; sent = refl; sends = each_plain z f.me (message.Refuse k f.agreement.promised) (from ∷ []) refl (λ x. tt) (λ q. refuse_reads k f.agreement.promised l.known.field a.keys.agrees.promised.field) r; ends = ended_at a a.owes a.rests }
    go false r = accepts (key_lt f.agreement.promised k) r

-- ---- entries

commits : (z : Front) (n : ℕ) (ls : List Line) (k : ClusterKey) (ms : List Member) (ns : List ℕ) → IsKeyField k → GoodList k.principal ms → Entering z n ls → AreReadInRange (to_each ns (message.Commit k ms)) → NodeGo z n (record { lines = ls; sends = to_each ns (message.Commit k ms) })
commits z n ls k ms ns key good e read = record { due = e.due; sent = e.sent; sends = each_plain _ n (message.Commit k ms) ns refl (λ x. tt) (λ q. commit_reads k ms key good) read; ends = e.ends }

pub accept_go : {by : Policy} {factor : ℕ} {z0 z : Front} {f : Facts} {clock from : ℕ} {k : ClusterKey} → Arrived by factor z0 z f clock from (message.Accept k) → AreReadInRange (due_accept f from k).sends → NodeGo z f.me (due_accept f from k)
accept_go {by} {factor} {z0} {z} {f} {clock} {from} {k} a read = go f.agreement.proposal (proposes f.agreement.proposal k) refl read
  where
    ends : Ended z
    ends = ended_at a a.owes a.rests

    enters : (p : Proposal) → f.agreement.proposal ≡ Some p → (b : Bool) → AreReadInRange (if b then commit_effects f p else nothing).sends → NodeGo z f.me (if b then commit_effects f p else nothing)
    enters p e false r = nothing_go z f.me ends
    enters p e true r =
        let s : Proposed z.chronicle.traced f.me f.agreement.promised f.agreement.last p = subst (ProposalStands z.chronicle.traced f.me f.agreement.promised f.agreement.last) e a.keys.agrees.proposal in
        let l : Listed z.chronicle.traced p.key p.members = a.listed p.key p.members s.list in
        commits z f.me (entering f p.key p.members) p.key p.members (others_among f.me p.members) l.key l.good
        (entering_go z0 z (reached f from (message.Accept k)) p.key p.members a.before a.elsewhere a.is a.owes a.rests (subst (λ (n : ℕ). is_member p.members n ≡ true) s.own l.good.led) l.good.falls) r

    go : (o : Option Proposal) (b : Bool) → f.agreement.proposal ≡ o → AreReadInRange (accept_effects f from k o b).sends → NodeGo z f.me (accept_effects f from k o b)
    go (Some p) true e r = enters p e (is_nil (without_missing p from).missing) r
    go (Some p) false e r = stale_go z f ends
    go None b e r = stale_go z f ends

pub commit_go : {by : Policy} {factor : ℕ} {z0 z : Front} {f : Facts} {clock from : ℕ} {k : ClusterKey} {ms : List Member} → Arrived by factor z0 z f clock from (message.Commit k ms) → NodeGo z f.me (due_commit f k ms)
commit_go {by} {factor} {z0} {z} {f} {clock} {from} {k} {ms} a = go (may_enter_view f k ms) refl
  where
    go : (b : Bool) → may_enter_view f k ms ≡ b → NodeGo z f.me (if b then lines_only (entering f k ms) else stale f)
    go true e = commits z f.me (entering f k ms) k ms [] (a.listed k ms a.says).key (a.listed k ms a.says).good (entering_go z0 z f k ms a.before a.elsewhere a.is a.owes a.rests (and_right (key_lt f.agreement.last k) _ (and_right (same_key k f.agreement.promised) _ e)) (a.listed k ms a.says).good.falls) tt
    go false e = stale_go z f (ended_at a a.owes a.rests)

-- ---- a refusal, and the client's question

pub refuse_go : {by : Policy} {factor : ℕ} {z0 z : Front} {f : Facts} {clock from : ℕ} {k promised : ClusterKey} → Arrived by factor z0 z f clock from (message.Refuse k promised) → NodeGo z f.me (due_refuse f k)
refuse_go {by} {factor} {z0} {z} {f} {clock} {from} {k} {promised} a = go (proposes f.agreement.proposal k)
  where
    go : (b : Bool) → NodeGo z f.me (if b then nothing else stale f)
    go true = nothing_go z f.me (ended_at a a.owes a.rests)
    go false = stale_go z f (ended_at a a.owes a.rests)

pub map_ask_go : {by : Policy} {factor : ℕ} {z0 z : Front} {f : Facts} {clock from : ℕ} → Arrived by factor z0 z f clock from message.MapAsk → AreReadInRange (due_map_ask f).sends → NodeGo z f.me (due_map_ask f)
map_ask_go {by} {factor} {z0} {z} {f} {clock} {from} a read = go f.exchange.exchanged read
  where
    go : (b : Bool) → AreReadInRange (if b then sends_only (to_one client (message.MapTable (map_table f))) else nothing).sends → NodeGo z f.me (if b then sends_only (to_one client (message.MapTable (map_table f))) else nothing)
    go true r = record { due = tt; sent = refl; sends = each_plain z f.me (message.MapTable (map_table f)) (due.client ∷ []) refl (λ x. tt) (λ q. table_reads (map_table f) (view_known z.chronicle.traced f.me f a.keys).field) r; ends = ended_at a a.owes a.rests }
    go false r = nothing_go z f.me (ended_at a a.owes a.rests)
