-- Steps of nodes that have requests of others: what such a step adds, lines of what is given up and late replies, leaves
-- licensed, directed and named what is so without them.
use Rattle.std.proofs.Common.{ℕ, ◌+◌, ◌==◌, Bool, true, false, cond, List, [], ◌∷◌, ◌++◌, map, length, Option, Some, None, refl, subst}
use Rattle.std.specs.Prelude.{if◌then◌else◌}
use Rattle.cluster_types.specs.declared.cluster_key.ClusterKey.{ClusterKey}
use Rattle.cluster_types.specs.Endpoints.{client}
use Rattle.journal_lines.specs.declared.line.Line.{Line}
use Rattle.journal_lines.specs.declared.line.Line.TheVariants as line
use Rattle.wire_messages.specs.declared.message.Message.{Message}
use Rattle.wire_messages.specs.declared.message.Message.TheVariants as message
use Rattle.wire_messages.specs.declared.reply.ReplyBody.{ReplyBody}
use Rattle.wire_messages.specs.declared.reply.ReplyBody.TheVariants as reply
use Rattle.wire_messages.specs.Spelling.{spelling}
use Rattle.node_rules.specs.Effects.{Effects}
use Rattle.node_rules.specs.Facts.{Facts, view_key}
use Rattle.request_rules.specs.declared.passed.Passed.{Passed}
use Rattle.request_rules.specs.declared.taken.Asker.{Asker}
use Rattle.request_rules.specs.declared.taken.Taken.{Taken}
use Rattle.request_rules.specs.ByNumber.{ByNumber}
use Rattle.request_rules.specs.Dressing.{with_requests}
use Rattle.request_rules.specs.Passing.{given_up, leaves, with_given_up}
use Rattle.request_rules.specs.Replies.{found_body, refusal_body, reply_to}
use Rattle.request_rules.specs.Requests.{NodeRequests}
use Rattle.request_rules.specs.TakenUp.{bound_to, note_taken, owed, owed_by_line, refusal_for, reply_for}
use Rattle.cluster_rules.specs.DueEvents.{sent_lines, written}
use Rattle.cluster_rules.specs.Marks.{Mark, Writes}
use Rattle.cluster_rules.specs.Network.{Network, has_place}
use Rattle.key_laws.specs.Addressed.{GoesBetween}
use Rattle.key_laws.specs.Licences.{IsPromisedKey, Says, MaySendKey, LicensedMarks}
use Rattle.key_laws.specs.Sound.{Sound, Grows}
use Rattle.key_laws.specs.Traced.{Traced, traced_after, traced_after_all}
use Rattle.key_laws.proofs.Directed.{AllGo}
use Rattle.key_laws.proofs.DueDirected.{SendsGo, sends_append, sent_go, all_go_append}
use Rattle.key_laws.proofs.Growth.{same_grows, grows_on, known_grows}
use Rattle.key_laws.proofs.Kept.{Keeps, kept_all, kept_line}
use Rattle.key_laws.proofs.OtherRequests.{KeepsOther, same_requests, other_on, after_all_other, grows_other, licensed_other}
use Rattle.key_laws.proofs.Quiet.{writes, writes_append, licensed_both, MayPost, Posts, posts_of, posts_append, posts_ok}
use Rattle.key_laws.proofs.RequestWire.{read_proxy_reply, read_reply}

-- ---- what is given up

-- the line of what is given up changes nothing but requests
up_other : (t : Traced) (key : ClusterKey) (n : ℕ) (p : ℕ × Passed) → KeepsOther t (traced_after t (Writes (given_up n key p)))
up_other t key n p = record { kept = _; same = refl }

given_up_ok : (t : Traced) (key : ClusterKey) (n : ℕ) (ps : ByNumber Passed) (ls : List Line) → IsPromisedKey t key → LicensedMarks t (writes ls) → LicensedMarks t (writes (map (given_up n key) ps ++ ls))
given_up_ok t key n [] ls k ok = ok
given_up_ok t key n (p ∷ ps) ls k ok =
    let u : Traced = traced_after t (Writes (given_up n key p)) in
    let s : KeepsOther t u = up_other t key n p in
    (k, given_up_ok u key n ps ls (known_grows t u (grows_other t u s) key k) (licensed_other t u (writes ls) s ok))

given_up_after : (t : Traced) (key : ClusterKey) (n : ℕ) (ps : ByNumber Passed) (ls : List Line) → KeepsOther (traced_after_all t (writes ls)) (traced_after_all t (writes (map (given_up n key) ps ++ ls)))
given_up_after t key n [] ls = same_requests (traced_after_all t (writes ls))
given_up_after t key n (p ∷ ps) ls =
    let u : Traced = traced_after t (Writes (given_up n key p)) in
    other_on _ (traced_after_all u (writes ls)) _ (after_all_other t u (writes ls) (up_other t key n p)) (given_up_after u key n ps ls)

lines_ok : (t : Traced) (key : ClusterKey) (n : ℕ) (ps : ByNumber Passed) (ls : List Line) → Sound t → IsPromisedKey t key → LicensedMarks t (writes ls) → LicensedMarks t (writes (with_given_up ps key n ls))
lines_ok t key n ps [] s k ok = tt
lines_ok t key n ps (l ∷ ls) s k ok =
    let first : Keeps t (traced_after t (Writes l)) = kept_line t l ok.0 s in
    go (leaves n l) (lines_ok (traced_after t (Writes l)) key n ps ls first.sound (known_grows t _ first.grows key k) ok.1)
  where
    go : (b : Bool) → LicensedMarks (traced_after t (Writes l)) (writes (with_given_up ps key n ls)) → LicensedMarks t (writes (cond b (map (given_up n key) ps ++ l ∷ ls) (l ∷ with_given_up ps key n ls)))
    go true rest = given_up_ok t key n ps (l ∷ ls) k ok
    go false rest = (ok.0, rest)

lines_after : (t : Traced) (key : ClusterKey) (n : ℕ) (ps : ByNumber Passed) (ls : List Line) → KeepsOther (traced_after_all t (writes ls)) (traced_after_all t (writes (with_given_up ps key n ls)))
lines_after t key n ps [] = same_requests t
lines_after t key n ps (l ∷ ls) = go (leaves n l) (lines_after (traced_after t (Writes l)) key n ps ls)
  where
    go : (b : Bool) → KeepsOther (traced_after_all (traced_after t (Writes l)) (writes ls)) (traced_after_all (traced_after t (Writes l)) (writes (with_given_up ps key n ls))) → KeepsOther (traced_after_all t (writes (l ∷ ls))) (traced_after_all t (writes (cond b (map (given_up n key) ps ++ l ∷ ls) (l ∷ with_given_up ps key n ls))))
    go true rest = given_up_after t key n ps (l ∷ ls)
    go false rest = rest

-- ---- replies

pub reply_posts : (t : Traced) (n : ℕ) (key : ClusterKey) (a : Asker) (b : ReplyBody) → IsPromisedKey t key → MayPost t n (reply_to key a b)
reply_posts t n key a b k = go (a.from == client)
  where
    go : (c : Bool) → MayPost t n (if c then message.Reply key a.number b else message.ProxyReply key a.number b)
    go true = posts_of t n _ (read_reply (λ x. Says t n x × MaySendKey t n x) key a.number b k.field (λ i c. (k, tt)))
    go false = posts_of t n _ (read_proxy_reply (λ x. Says t n x × MaySendKey t n x) key a.number b k.field (λ i c. (k, tt)))

pub reply_goes : (t : Traced) (n to : ℕ) (key : ClusterKey) (a : Asker) (b : ReplyBody) → IsPromisedKey t key → SendsGo t n ((to, reply_to key a b) ∷ [])
reply_goes t n to key a b k = go (a.from == client)
  where
    go : (c : Bool) → SendsGo t n ((to, if c then message.Reply key a.number b else message.ProxyReply key a.number b) ∷ [])
    go true = (read_reply (λ x. GoesBetween t n to x) key a.number b k.field (λ i c. tt), tt)
    go false = (read_proxy_reply (λ x. GoesBetween t n to x) key a.number b k.field (λ i c. tt), tt)

-- what holds of each reply holds of all that lines owe
pub record OfReplies (key : ClusterKey) (P : List (ℕ × Message) → Type 0) : Type 0 where
  pub none : P []
  pub one : (a : Asker) (b : ReplyBody) → P ((a.from, reply_to key a b) ∷ [])
  pub append : (ms more : List (ℕ × Message)) → P ms → P more → P (ms ++ more)

for_owes : (key : ClusterKey) (P : List (ℕ × Message) → Type 0) (a : Option Asker) (b : ReplyBody) → OfReplies key P → P (reply_for key a b)
for_owes key P None b h = h.none
for_owes key P (Some a) b h = h.one a b

refusal_owes : (key : ClusterKey) (P : List (ℕ × Message) → Type 0) (a : Option Asker) (b : Option ReplyBody) → OfReplies key P → P (refusal_for key a b)
refusal_owes key P a None h = h.none
refusal_owes key P a (Some b) h = for_owes key P a b h

line_owes : (key : ClusterKey) (P : List (ℕ × Message) → Type 0) (a : Option Asker) (taken : List Taken) (l : Line) → OfReplies key P → P (owed_by_line key a taken l)
line_owes key P a taken (line.Value n k t d v) h = for_owes key P (bound_to taken t) (found_body v) h
line_owes key P a taken (line.Done n k t) h = for_owes key P (bound_to taken t) reply.Done h
line_owes key P a taken (line.Refused n d cause) h = refusal_owes key P a (refusal_body cause) h
line_owes key P a taken _ h = h.none

pub lines_owe : (key : ClusterKey) (P : List (ℕ × Message) → Type 0) (a : Option Asker) (taken : List Taken) (ls : List Line) → OfReplies key P → P (owed key a taken ls)
lines_owe key P a taken [] h = h.none
lines_owe key P a taken (l ∷ ls) h = h.append (owed_by_line key a taken l) (owed key a (note_taken a taken l) ls) (line_owes key P a taken l h) (lines_owe key P a (note_taken a taken l) ls h)

owed_posts : (t : Traced) (n : ℕ) (key : ClusterKey) (a : Option Asker) (taken : List Taken) (ls : List Line) → IsPromisedKey t key → Posts t n (owed key a taken ls)
owed_posts t n key a taken ls k = lines_owe key (Posts t n) a taken ls (record { none = tt; one = λ b c. (reply_posts t n key b c k, tt); append = posts_append t n })

owed_go : (t : Traced) (n : ℕ) (key : ClusterKey) (a : Option Asker) (taken : List Taken) (ls : List Line) → IsPromisedKey t key → SendsGo t n (owed key a taken ls)
owed_go t n key a taken ls k = lines_owe key (SendsGo t n) a taken ls (record { none = tt; one = λ b c. reply_goes t n b.from key b c k; append = sends_append t n })

-- ---- the step has its licence

licensed_parts : (t : Traced) (a b : List Mark) → LicensedMarks t (a ++ b) → LicensedMarks t a × LicensedMarks (traced_after_all t a) b
licensed_parts t [] b h = (tt, h)
licensed_parts t (m ∷ a) b h =
    let rest : LicensedMarks (traced_after t m) a × LicensedMarks (traced_after_all (traced_after t m) a) b = licensed_parts (traced_after t m) a b h.1 in
    ((h.0, rest.0), rest.1)

-- messages that may be sent whatever grows may be sent behind others
sends_ok : (t : Traced) (n before flying : ℕ) (ms more : List (ℕ × Message)) → Sound t → LicensedMarks t (writes (sent_lines n before flying ms)) → ((u : Traced) → Grows t u → Posts u n more) → LicensedMarks t (writes (sent_lines n before flying (ms ++ more)))
sends_ok t n before flying [] more s ok h = posts_ok t n before flying more s (h t (same_grows t))
sends_ok t n before flying (m ∷ ms) more s ok h =
    let l : Line = line.Sent (before + 1) n m.0 (spelling m.1) in
    let u : Traced = traced_after t (Writes l) in
    let first : Keeps t u = kept_line t l ok.0 s in
    (ok.0, full u (has_place flying) first.sound ok.1 (λ v g. h v (grows_on t u v first.grows g)) (λ v f x i q. sends_ok v n (before + 1) f ms more x i q))
  where
    full : (u : Traced) (b : Bool) → Sound u → LicensedMarks u (writes ((if b then [] else line.Full (before + 1) ∷ []) ++ sent_lines n (before + 1) (if b then flying + 1 else flying) ms)) → ((v : Traced) → Grows u v → Posts v n more)
        → ((v : Traced) (f : ℕ) → Sound v → LicensedMarks v (writes (sent_lines n (before + 1) f ms)) → ((x : Traced) → Grows v x → Posts x n more) → LicensedMarks v (writes (sent_lines n (before + 1) f (ms ++ more))))
        → LicensedMarks u (writes ((if b then [] else line.Full (before + 1) ∷ []) ++ sent_lines n (before + 1) (if b then flying + 1 else flying) (ms ++ more)))
    full u true s ok h next = next u (flying + 1) s ok h
    full u false s ok h next =
        let v : Traced = traced_after u (Writes (line.Full (before + 1))) in
        let k : Keeps u v = kept_line u (line.Full (before + 1)) tt s in
        (tt, next v flying k.sound ok.1 (λ x g. h x (grows_on u v x k.grows g)))

-- a step of a node that may stand may stand with what requests add
pub dressed_ok : (t : Traced) (n : ℕ) (net : Network) (r : NodeRequests) (f : Facts) (a : Option Asker) (e : Effects) → Sound t → IsPromisedKey t (view_key f) → LicensedMarks t (writes (written net n e)) → LicensedMarks t (writes (written net n (with_requests r f a e)))
dressed_ok t n net r f a e s k ok =
    let sends : List Line = sent_lines n (length net.sent) (length net.flying) e.sends in
    let parts : LicensedMarks t (writes e.lines) × LicensedMarks (traced_after_all t (writes e.lines)) (writes sends) =
    licensed_parts t (writes e.lines) (writes sends) (subst (λ ms. LicensedMarks t ms) (writes_append e.lines sends) ok) in
    let ls : List Line = with_given_up r.passed.waiting (view_key f) f.me e.lines in
    let v : Traced = traced_after_all t (writes ls) in
    let first : LicensedMarks t (writes ls) = lines_ok t (view_key f) f.me r.passed.waiting e.lines s k parts.0 in
    let kept : Keeps t v = kept_all t (writes ls) first s in
    licensed_both t ls (sent_lines n (length net.sent) (length net.flying) (e.sends ++ owed (view_key f) a r.taken e.lines)) first
    (sends_ok v n (length net.sent) (length net.flying) e.sends (owed (view_key f) a r.taken e.lines) kept.sound
    (licensed_other (traced_after_all t (writes e.lines)) v (writes sends) (lines_after t (view_key f) f.me r.passed.waiting e.lines) parts.1)
    (λ u g. owed_posts u n (view_key f) a r.taken e.lines (known_grows t u (grows_on t v u kept.grows g) (view_key f) k)))

-- ---- its messages go between members

go_parts : (t : Traced) (a b : List Line) → AllGo t (a ++ b) → AllGo t a × AllGo t b
go_parts t [] b h = (tt, h)
go_parts t (l ∷ a) b h = let rest : AllGo t a × AllGo t b = go_parts t a b h.1 in ((h.0, rest.0), rest.1)

given_up_go : (t : Traced) (key : ClusterKey) (n : ℕ) (ps : ByNumber Passed) (ls : List Line) → AllGo t ls → AllGo t (map (given_up n key) ps ++ ls)
given_up_go t key n [] ls h = h
given_up_go t key n (p ∷ ps) ls h = (tt, given_up_go t key n ps ls h)

lines_go : (t : Traced) (key : ClusterKey) (n : ℕ) (ps : ByNumber Passed) (ls : List Line) → AllGo t ls → AllGo t (with_given_up ps key n ls)
lines_go t key n ps [] h = tt
lines_go t key n ps (l ∷ ls) h = go (leaves n l) (lines_go t key n ps ls h.1)
  where
    go : (b : Bool) → AllGo t (with_given_up ps key n ls) → AllGo t (cond b (map (given_up n key) ps ++ l ∷ ls) (l ∷ with_given_up ps key n ls))
    go true rest = given_up_go t key n ps (l ∷ ls) h
    go false rest = (h.0, rest)

sends_go : (t : Traced) (n before flying : ℕ) (ms more : List (ℕ × Message)) → AllGo t (sent_lines n before flying ms) → SendsGo t n more → AllGo t (sent_lines n before flying (ms ++ more))
sends_go t n before flying [] more h go = sent_go t n before flying more go
sends_go t n before flying (m ∷ ms) more h go = (h.0, full (has_place flying) h.1 (λ f x. sends_go t n (before + 1) f ms more x go))
  where
    full : (b : Bool) → AllGo t ((if b then [] else line.Full (before + 1) ∷ []) ++ sent_lines n (before + 1) (if b then flying + 1 else flying) ms)
        → ((f : ℕ) → AllGo t (sent_lines n (before + 1) f ms) → AllGo t (sent_lines n (before + 1) f (ms ++ more)))
        → AllGo t ((if b then [] else line.Full (before + 1) ∷ []) ++ sent_lines n (before + 1) (if b then flying + 1 else flying) (ms ++ more))
    full true h next = next (flying + 1) h
    full false h next = (tt, next flying h.1)

pub dressed_go : (t : Traced) (n : ℕ) (net : Network) (r : NodeRequests) (f : Facts) (a : Option Asker) (e : Effects) → IsPromisedKey t (view_key f) → AllGo t (written net n e) → AllGo t (written net n (with_requests r f a e))
dressed_go t n net r f a e k h =
    let parts : AllGo t e.lines × AllGo t (sent_lines n (length net.sent) (length net.flying) e.sends) = go_parts t e.lines _ h in
    all_go_append t (with_given_up r.passed.waiting (view_key f) f.me e.lines) _ (lines_go t (view_key f) f.me r.passed.waiting e.lines parts.0)
    (sends_go t n (length net.sent) (length net.flying) e.sends (owed (view_key f) a r.taken e.lines) parts.1 (owed_go t n (view_key f) a r.taken e.lines k))
