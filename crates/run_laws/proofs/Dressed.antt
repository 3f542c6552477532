-- Steps of nodes that have requests of others: what such a step adds, lines of what is given up and late replies, leaves the
-- step going as it goes without them.
use Rattle.std.proofs.Common.{◌≡◌, ℕ, ◌+◌, ◌==◌, Bool, true, false, cond, List, [], ◌∷◌, ◌++◌, length, map, Option, None, refl, sym, ap, ◌∙◌, subst, inr}
use Rattle.std.specs.Prelude.{if◌then◌else◌}
use Rattle.cluster_types.specs.declared.cluster_key.ClusterKey.{ClusterKey}
use Rattle.cluster_types.specs.Endpoints.{client}
use Rattle.journal_lines.specs.declared.line.Line.{Line}
use Rattle.journal_lines.specs.declared.line.Line.TheVariants as line
use Rattle.wire_messages.specs.declared.message.Message.{Message}
use Rattle.wire_messages.specs.declared.message.Message.TheVariants as message
use Rattle.wire_messages.specs.declared.reply.ReplyBody.{ReplyBody}
use Rattle.wire_messages.specs.Keys.{IsKeyOrNone}
use Rattle.wire_messages.specs.Spelling.{spelling}
use Rattle.node_rules.specs.Effects.{Effects}
use Rattle.node_rules.specs.Facts.{Facts, view_key}
use Rattle.request_rules.specs.declared.passed.Passed.{Passed}
use Rattle.request_rules.specs.declared.taken.Asker.{Asker}
use Rattle.request_rules.specs.declared.taken.Taken.{Taken}
use Rattle.request_rules.specs.ByNumber.{ByNumber}
use Rattle.request_rules.specs.Dressing.{with_requests}
use Rattle.request_rules.specs.Passing.{given_up, leaves, with_given_up}
use Rattle.request_rules.specs.Replies.{reply_to}
use Rattle.request_rules.specs.Requests.{NodeRequests}
use Rattle.request_rules.specs.TakenUp.{owed}
use Rattle.cluster_rules.specs.DueEvents.{sent_lines, written}
use Rattle.cluster_rules.specs.Marks.{Writes}
use Rattle.cluster_rules.specs.Network.{Network, has_place}
use Rattle.cluster_rules.specs.NodeSteps.{IsOf, AreOf}
use Rattle.cluster_laws.proofs.At.{differ}
use Rattle.key_laws.proofs.Dressed.{lines_owe}
use Rattle.key_laws.proofs.RequestWire.{read_proxy_reply, read_reply}
use Rattle.run_laws.specs.Fronts.{Front, world_of, front_after}
use Rattle.run_laws.specs.LineDue.{LineMay, AllDue}
use Rattle.run_laws.specs.Steps.{Ended}
use Rattle.run_laws.proofs.Calmly.{Calm, Plainly, EachPlainly, SendsGo, plainly_calm, sends_go, sent_length}
use Rattle.run_laws.proofs.NodeSteps.{NodeGo, ended_calm}
use Rattle.run_laws.proofs.OtherRequests.{FrontKeepsOther, same_front, other_front_on, other_calm, other_after_all, other_due}
use Rattle.run_laws.proofs.Reading.{Alike}
use Rattle.run_laws.proofs.Turns.{LinesGo, after_lines, all_append, lines_append}

-- ---- what is given up

up_other : (z : Front) (key : ClusterKey) (n : ℕ) (p : ℕ × Passed) → FrontKeepsOther z (front_after z (Writes (given_up n key p)))
up_other z key n p = record { kept = _; count = _; same = refl }

given_up_due : (z : Front) (key : ClusterKey) (n : ℕ) (ps : ByNumber Passed) (ls : List Line) → z.owed ≡ None → AllDue z ls → AllDue z (map (given_up n key) ps ++ ls)
given_up_due z key n [] ls o h = h
given_up_due z key n (p ∷ ps) ls o h =
    let y : Front = front_after z (Writes (given_up n key p)) in
    ((o, tt), given_up_due y key n ps ls o (other_due z y ls (up_other z key n p) h))

given_up_after : (z : Front) (key : ClusterKey) (n : ℕ) (ps : ByNumber Passed) (ls : List Line) → FrontKeepsOther (after_lines z ls) (after_lines z (map (given_up n key) ps ++ ls))
given_up_after z key n [] ls = same_front (after_lines z ls)
given_up_after z key n (p ∷ ps) ls =
    let y : Front = front_after z (Writes (given_up n key p)) in
    other_front_on _ (after_lines y ls) _ (other_after_all z y (map Writes ls) (up_other z key n p)) (given_up_after y key n ps ls)

-- where the node leaves its view nothing is owed
left_owes : (z : Front) (n : ℕ) (l : Line) → leaves n l ≡ true → LineMay z l → z.owed ≡ None
left_owes z n (line.Enter m key ms) e h = h.0
left_owes z n (line.Stop m) e h = h.0
left_owes z n _ e h = differ e refl

lines_due : (z : Front) (key : ClusterKey) (n : ℕ) (ps : ByNumber Passed) (ls : List Line) → AllDue z ls → AllDue z (with_given_up ps key n ls)
lines_due z key n ps [] h = tt
lines_due z key n ps (l ∷ ls) h = go (leaves n l) refl (lines_due (front_after z (Writes l)) key n ps ls h.1)
  where
    go : (b : Bool) → leaves n l ≡ b → AllDue (front_after z (Writes l)) (with_given_up ps key n ls) → AllDue z (cond b (map (given_up n key) ps ++ l ∷ ls) (l ∷ with_given_up ps key n ls))
    go true e rest = given_up_due z key n ps (l ∷ ls) (left_owes z n l e h.0) h
    go false e rest = (h.0, rest)

lines_after : (z : Front) (key : ClusterKey) (n : ℕ) (ps : ByNumber Passed) (ls : List Line) → FrontKeepsOther (after_lines z ls) (after_lines z (with_given_up ps key n ls))
lines_after z key n ps [] = same_front z
lines_after z key n ps (l ∷ ls) = go (leaves n l) (lines_after (front_after z (Writes l)) key n ps ls)
  where
    go : (b : Bool) → FrontKeepsOther (after_lines (front_after z (Writes l)) ls) (after_lines (front_after z (Writes l)) (with_given_up ps key n ls)) → FrontKeepsOther (after_lines z (l ∷ ls)) (after_lines z (cond b (map (given_up n key) ps ++ l ∷ ls) (l ∷ with_given_up ps key n ls)))
    go true rest = given_up_after z key n ps (l ∷ ls)
    go false rest = rest

-- ---- replies

pub reply_plain : (z : Front) (n to : ℕ) (key : ClusterKey) (a : Asker) (b : ReplyBody) → IsKeyOrNone key → Plainly z n (to, reply_to key a b)
reply_plain z n to key a b k = go (a.from == client)
  where
    go : (c : Bool) → Plainly z n (to, if c then message.Reply key a.number b else message.ProxyReply key a.number b)
    go true = record { plain = refl; read = read_reply (Alike (message.Reply key a.number b)) key a.number b k (λ i c. inr (record { sort = 2; first = refl; second = refl })); due = tt }
    go false = record { plain = refl; read = read_proxy_reply (Alike (message.ProxyReply key a.number b)) key a.number b k (λ i c. inr (record { sort = 2; first = refl; second = refl })); due = tt }

plain_append : (z : Front) (n : ℕ) (ms more : List (ℕ × Message)) → EachPlainly z n ms → EachPlainly z n more → EachPlainly z n (ms ++ more)
plain_append z n [] more h i = i
plain_append z n (m ∷ ms) more h i = (h.0, plain_append z n ms more h.1 i)

-- what lines owe is plain at any front
owed_plain : (z : Front) (n : ℕ) (key : ClusterKey) (a : Option Asker) (taken : List Taken) (ls : List Line) → IsKeyOrNone key → EachPlainly z n (owed key a taken ls)
owed_plain z n key a taken ls k = lines_owe key (EachPlainly z n) a taken ls (record { none = tt; one = λ b body. (reply_plain z n b.from key b body k, tt); append = plain_append z n })

-- ---- the step

-- what a node does that goes goes with what requests add
pub dressed_go : (z : Front) (n : ℕ) (r : NodeRequests) (f : Facts) (a : Option Asker) (e : Effects) → IsKeyOrNone (view_key f) → NodeGo z n e → NodeGo z n (with_requests r f a e)
dressed_go z n r f a e k g =
    let y : Front = after_lines z (with_given_up r.passed.waiting (view_key f) f.me e.lines) in
    let s : FrontKeepsOther (after_lines z e.lines) y = lines_after z (view_key f) f.me r.passed.waiting e.lines in
    let c : Calm (after_lines z e.lines) y = other_calm (after_lines z e.lines) y s in
    record {
      due = lines_due z (view_key f) f.me r.passed.waiting e.lines g.due;
      sent = ap (λ (x : Front). (world_of x).network.sent) s.same ∙ g.sent;
      sends = plain_append y n e.sends (owed (view_key f) a r.taken e.lines) (plainly_calm (after_lines z e.lines) y n e.sends c g.sends) (owed_plain y n (view_key f) a r.taken e.lines k);
      ends = ended_calm (after_lines z e.lines) y c g.ends;
    }

-- ---- lines that go

all_parts : (z : Front) (a b : List Line) → AllDue z (a ++ b) → AllDue z a × AllDue (after_lines z a) b
all_parts z [] b h = (tt, h)
all_parts z (l ∷ a) b h = let rest : AllDue (front_after z (Writes l)) a × AllDue (after_lines (front_after z (Writes l)) a) b = all_parts (front_after z (Writes l)) a b h.1 in ((h.0, rest.0), rest.1)

-- a node's own line sends nothing
own_sent : (z : Front) (n : ℕ) (l : Line) → IsOf n l → (world_of (front_after z (Writes l))).network.sent ≡ (world_of z).network.sent
own_sent z n (line.Clock m time) h = absurd h
own_sent z n (line.Groups groups) h = absurd h
own_sent z n (line.Deliver i a b) h = absurd h
own_sent z n (line.Repeat i a b) h = absurd h
own_sent z n (line.Cut i a b size) h = absurd h
own_sent z n (line.Sent i a b bytes) h = absurd h
own_sent z n (line.Full i) h = absurd h
own_sent z n _ h = refl

owns_sent : (z : Front) (n : ℕ) (ls : List Line) → AreOf n ls → (world_of (after_lines z ls)).network.sent ≡ (world_of z).network.sent
owns_sent z n [] h = refl
owns_sent z n (l ∷ ls) h = owns_sent (front_after z (Writes l)) n ls h.1 ∙ own_sent z n l h.0

-- messages that are plain at any front go behind others
sends_more : (z : Front) (n before flying : ℕ) (ms more : List (ℕ × Message)) → before ≡ length (world_of z).network.sent → ((y : Front) → EachPlainly y n more) → LinesGo z (sent_lines n before flying ms) → LinesGo z (sent_lines n before flying (ms ++ more))
sends_more z n before flying [] more num plain h =
    let s : SendsGo z (sent_lines n before flying more) = sends_go z n before flying more h.ends.owes num (plain z) in
    record { due = s.due; ends = ended_calm z _ s.calm h.ends }
sends_more z n before flying (m ∷ ms) more num plain h =
    let y : Front = front_after z (Writes (line.Sent (before + 1) n m.0 (spelling m.1))) in
    let rest : LinesGo y ((if has_place flying then [] else line.Full (before + 1) ∷ []) ++ sent_lines n (before + 1) (if has_place flying then flying + 1 else flying) (ms ++ more)) =
    full y (has_place flying) (ap (λ (i : ℕ). i + 1) num ∙ sym (sent_length z n (before + 1) m.0 (spelling m.1))) (λ x f e g. sends_more x n (before + 1) f ms more e plain g) (record { due = h.due.1; ends = h.ends }) in
    record { due = (h.due.0, rest.due); ends = rest.ends }
  where
    full : (y : Front) (b : Bool) → before + 1 ≡ length (world_of y).network.sent → ((x : Front) (f : ℕ) → before + 1 ≡ length (world_of x).network.sent → LinesGo x (sent_lines n (before + 1) f ms) → LinesGo x (sent_lines n (before + 1) f (ms ++ more)))
        → LinesGo y ((if b then [] else line.Full (before + 1) ∷ []) ++ sent_lines n (before + 1) (if b then flying + 1 else flying) ms)
        → LinesGo y ((if b then [] else line.Full (before + 1) ∷ []) ++ sent_lines n (before + 1) (if b then flying + 1 else flying) (ms ++ more))
    full y true e next g = next y (flying + 1) e g
    full y false e next g =
        let rest : LinesGo (front_after y (Writes (line.Full (before + 1)))) (sent_lines n (before + 1) flying (ms ++ more)) =
        next (front_after y (Writes (line.Full (before + 1)))) flying e (record { due = g.due.1; ends = g.ends }) in
        record { due = (g.due.0, rest.due); ends = rest.ends }

-- lines of a node's step that go go with what requests add
pub lines_dressed_go : (z : Front) (net : Network) (n : ℕ) (r : NodeRequests) (f : Facts) (a : Option Asker) (e : Effects) → IsKeyOrNone (view_key f) → length net.sent ≡ length (world_of z).network.sent → AreOf n e.lines → LinesGo z (written net n e) → LinesGo z (written net n (with_requests r f a e))
lines_dressed_go z net n r f a e k num own g =
    let sends : List Line = sent_lines n (length net.sent) (length net.flying) e.sends in
    let ls : List Line = with_given_up r.passed.waiting (view_key f) f.me e.lines in
    let x : Front = after_lines z e.lines in
    let y : Front = after_lines z ls in
    let s : FrontKeepsOther x y = lines_after z (view_key f) f.me r.passed.waiting e.lines in
    let parts : AllDue z e.lines × AllDue x sends = all_parts z e.lines sends g.due in
    let ends : Ended (after_lines x sends) = subst (λ (q : Front). Ended q) (lines_append z e.lines sends) g.ends in
    let both : FrontKeepsOther (after_lines x sends) (after_lines y sends) = other_after_all x y (map Writes sends) s in
    let more : LinesGo y (sent_lines n (length net.sent) (length net.flying) (e.sends ++ owed (view_key f) a r.taken e.lines)) =
    sends_more y n (length net.sent) (length net.flying) e.sends (owed (view_key f) a r.taken e.lines)
    (num ∙ ap length (sym (ap (λ (q : Front). (world_of q).network.sent) s.same ∙ owns_sent z n e.lines own))) (λ q. owed_plain q n (view_key f) a r.taken e.lines k)
    (record { due = other_due x y sends s parts.1; ends = ended_calm (after_lines x sends) (after_lines y sends) (other_calm (after_lines x sends) (after_lines y sends) both) ends }) in
    record {
      due = all_append z ls _ (lines_due z (view_key f) f.me r.passed.waiting e.lines parts.0) more.due;
      ends = subst (λ (q : Front). Ended q) (sym (lines_append z ls _)) more.ends;
    }
