-- What is due of a node that a message has reached may stand.
use Rattle.std.proofs.Common.{◌≡◌, ℕ, ◌&&◌, Bool, true, false, List, [], ◌∷◌, Option, Some, None, refl, sym, ap, subst, ◌∙◌, inr}
use Rattle.std.specs.Prelude.{IsTrue, if◌then◌else◌}
use Rattle.std.specs.FinMap as finite
use Rattle.conflict_order.specs.declared.version.Version.{Version}
use Rattle.conflict_order.specs.declared.want.Want.{Want}
use Rattle.conflict_order.specs.declared.want.Want.TheVariants as want
use Rattle.conflict_order.specs.Order.{is_newer}
use Rattle.cluster_types.specs.declared.cluster_key.ClusterKey.{ClusterKey}
use Rattle.cluster_types.specs.declared.member.Member.{Member}
use Rattle.cluster_types.specs.ClusterKeys as keys
use Rattle.cluster_types.specs.ClusterKeys.{IsBelow}
use Rattle.wire_messages.specs.declared.message.Batch.{Batch}
use Rattle.wire_messages.specs.declared.message.Message.{Message}
use Rattle.wire_messages.specs.declared.message.Message.TheVariants as message
use Rattle.journal_lines.specs.declared.line.Line.{Line}
use Rattle.journal_lines.specs.declared.line.Line.TheVariants as line
use Rattle.node_rules.specs.Agreement as agreement
use Rattle.node_rules.specs.Agreement.{Agreement, Proposal, proposes, without_missing}
use Rattle.node_rules.specs.Batches.{out_to, has_number}
use Rattle.node_rules.specs.Copies.{is_nil, Row}
use Rattle.node_rules.specs.Effects.{nothing, lines_only, lines_and_sends, sends_only, to_one}
use Rattle.node_rules.specs.Entering.{entering}
use Rattle.node_rules.specs.Exchange.{is_member, exchange_key}
use Rattle.node_rules.specs.Facts.{Facts, view_key, list_at}
use Rattle.node_rules.specs.Keys.{same_key}
use Rattle.node_rules.specs.Messages.{stale, spent, due_propose, commit_effects, accept_effects, due_accept, due_commit, finishes, merging, merging_all, ack_of, answer_of, map_table, due_message_of, due_state}
use Rattle.node_rules.specs.Notes.{noted, reached, in_view}
use Rattle.node_rules.specs.Resolving.{writing, resolving, resolving_want}
use Rattle.node_rules.specs.Standing.{other_replicas, knows_all_settled}
use Rattle.node_rules.specs.Transactions.{Transaction, transaction, awaits_answer, awaits_ack, answered, is_last_awaited}
use Rattle.node_rules.specs.Tables.{only_if}
use Rattle.cluster_rules.specs.DueEvents.{written}
use Rattle.cluster_rules.specs.Network.{Network}
use Rattle.key_laws.specs.Traced.{Traced, facts_of, traced_after_all}
use Rattle.key_laws.specs.Licences.{IsPromisedKey, Says, MaySendKey, WasPosted, LicensedMarks, Visited}
use Rattle.key_laws.proofs.Order.{lt_below, same_is}
use Rattle.key_laws.specs.Sound.{GoodList, Proposed, ProposalStands, RowsKnown, NodeKeys, Listed, Sound, Grows}
use Rattle.key_laws.proofs.Growth.{known_grows, rows_grow}
use Rattle.key_laws.proofs.KeptNodes.{accepting_keeps, Lawful, row_same}
use Rattle.key_laws.proofs.Kept.{Keeps, kept_all}
use Rattle.key_laws.proofs.Wire.{read_accept, read_refuse, read_commit, read_batch_ack, read_repl_ack, read_answer, read_table}
use Rattle.key_laws.proofs.Quiet.{writes, QuietLines, MayPost, Posts, posts_of, each_posts, Quiet, quiet_ok, written_ok}
use Rattle.key_laws.proofs.DueViews.{view_known, AllOfView, all_quiet, of_view_append, line_if_of_view, entering_ok, state_posts, repl_posts, progress_posts, viewed, after_lines}
use Rattle.cluster_types.specs.Endpoints.{client}
use Rattle.cluster_types.specs.Partitions.{partition_of}
use Rattle.node_rules.specs.Tick.{progress_message, state}

-- ---- effects without lines or without messages

pub stale_quiet : (t : Traced) (n : ℕ) (f : Facts) → Quiet t n (stale f)
stale_quiet t n f = record { lines = (tt, tt); posts = tt }

pub spent_quiet : (t : Traced) (n : ℕ) (f : Facts) → Quiet t n (spent f)
spent_quiet t n f = record { lines = (tt, tt); posts = tt }

pub nothing_quiet : (t : Traced) (n : ℕ) → Quiet t n nothing
nothing_quiet t n = record { lines = tt; posts = tt }

if_quiet : (t : Traced) (l : Line) (b : Bool) → QuietLines t (l ∷ []) → QuietLines t (only_if l b)
if_quiet t l true h = h
if_quiet t l false h = tt

-- ---- transactions

done_quiet : (t : Traced) (f : Facts) (number : ℕ) (b : Bool) → Visited t f.me (view_key f) → QuietLines t (only_if (line.Done f.me (view_key f) number) b)
done_quiet t f number true h = (h, tt)
done_quiet t f number false h = tt

writing_quiet : (t : Traced) (n : ℕ) (f : Facts) (l : List ℕ) (x : Transaction) (v : Version) → Visited t f.me (view_key f) → Quiet t n (writing f l x v)
writing_quiet t n f l x v h = record {
  lines = (h, done_quiet t f x.number (is_nil (other_replicas f l)) h);
  posts = each_posts t n _ (other_replicas f l) (repl_posts t n f x _ h.known);
}

resolving_want_quiet : (t : Traced) (n : ℕ) (f : Facts) (clock : ℕ) (l : List ℕ) (x : Transaction) (w : Want) → Visited t f.me (view_key f) → Quiet t n (resolving_want f clock l x w)
resolving_want_quiet t n f clock l x want.Get h = record { lines = (h, tt); posts = tt }
resolving_want_quiet t n f clock l x (want.Put bytes) h = writing_quiet t n f l x _ h
resolving_want_quiet t n f clock l x want.Del h = writing_quiet t n f l x _ h

pub resolving_quiet : (t : Traced) (n : ℕ) (f : Facts) (clock : ℕ) (l : List ℕ) (x : Transaction) → Visited t f.me (view_key f) → Quiet t n (resolving f clock l x)
resolving_quiet t n f clock l x h = resolving_want_quiet t n f clock l x x.want h

-- ---- records that come

merging_of_view : (f : Facts) (d : List ℕ) (v : Version) → AllOfView f.me (view_key f) (merging f d v)
merging_of_view f d v = line_if_of_view f.me (view_key f) _ (is_newer f.store.by v (finite.get f.store.content d)) (refl, refl)

merging_all_of_view : (f : Facts) (rs : List (List ℕ × Version)) → AllOfView f.me (view_key f) (merging_all f rs)
merging_all_of_view f [] = tt
merging_all_of_view f (r ∷ rs) =
    of_view_append f.me (view_key f) (merging f r.0 r.1) (merging_all (noted None f (merging f r.0 r.1)) rs) (merging_of_view f r.0 r.1)
    (after_lines f (merging f r.0 r.1) (λ g. merging_all g rs) (merging_of_view f r.0 r.1) (λ g. merging_all_of_view g rs))

-- ---- quiet kinds

answer_state_posts : (t : Traced) (n : ℕ) (f : Facts) (from : ℕ) (b : Bool) → IsPromisedKey t (view_key f) → RowsKnown t f.exchange.rows → Posts t n (if b then to_one from (state f false) else [])
answer_state_posts t n f from true h rows = (state_posts t n f false h rows, tt)
answer_state_posts t n f from false h rows = tt

batch_quiet : (t : Traced) (n : ℕ) (f : Facts) (from : ℕ) (b : Batch) (c : Bool) → (c ≡ true → Visited t f.me (view_key f)) → IsPromisedKey t b.key → Quiet t n (if c then lines_and_sends (merging_all f b.records) (to_one from (message.BatchAck b.key b.number)) else stale f)
batch_quiet t n f from b true h k = record {
  lines = all_quiet t f.me (view_key f) _ (h refl) (merging_all_of_view f b.records);
  posts = (posts_of t n _ (read_batch_ack (λ x. Says t n x × MaySendKey t n x) b.key b.number k.field (λ i. (k, tt))), tt);
}
batch_quiet t n f from b false h k = stale_quiet t n f

unless_spent_quiet : (t : Traced) (n : ℕ) (f : Facts) (b : Bool) → Quiet t n (if b then nothing else spent f)
unless_spent_quiet t n f true = nothing_quiet t n
unless_spent_quiet t n f false = spent_quiet t n f

batch_ack_quiet : (t : Traced) (n : ℕ) (f : Facts) (from number : ℕ) (b : Bool) → Quiet t n (if b then (if has_number (out_to f.batches from) number then nothing else spent f) else stale f)
batch_ack_quiet t n f from number true = unless_spent_quiet t n f (has_number (out_to f.batches from) number)
batch_ack_quiet t n f from number false = stale_quiet t n f

answer_progress_quiet : (t : Traced) (n count : ℕ) (now : Facts) (from : ℕ) (b : Bool) → IsPromisedKey t (view_key now) → Quiet t n (if b then sends_only (to_one from (progress_message count now false)) else nothing)
answer_progress_quiet t n count now from true h = record { lines = tt; posts = (progress_posts t n _ now false h, tt) }
answer_progress_quiet t n count now from false h = nothing_quiet t n

progress_quiet : (t : Traced) (n count : ℕ) (f now : Facts) (from : ℕ) (wants b : Bool) → IsPromisedKey t (view_key now) → Quiet t n (if b then (if wants && knows_all_settled now count 0 then sends_only (to_one from (progress_message count now false)) else nothing) else stale f)
progress_quiet t n count f now from wants true h = answer_progress_quiet t n count now from _ h
progress_quiet t n count f now from wants false h = stale_quiet t n f

repl_quiet : (t : Traced) (n : ℕ) (f : Facts) (from : ℕ) (k : ClusterKey) (number : ℕ) (d : List ℕ) (v : Version) (b : Bool) → (b ≡ true → Visited t f.me (view_key f)) → IsPromisedKey t k → Quiet t n (if b then lines_and_sends (merging f d v) (to_one from (message.ReplAck k number)) else stale f)
repl_quiet t n f from k number d v true h i = record {
  lines = all_quiet t f.me (view_key f) _ (h refl) (merging_of_view f d v);
  posts = (posts_of t n _ (read_repl_ack (λ x. Says t n x × MaySendKey t n x) k number i.field (λ j. (i, tt))), tt);
}
repl_quiet t n f from k number d v false h i = stale_quiet t n f

done_by_quiet : (t : Traced) (n : ℕ) (f : Facts) (x : Transaction) (from : ℕ) (b : Bool) → Visited t f.me (view_key f) → Quiet t n (if b then lines_only (only_if (line.Done f.me (view_key f) x.number) (is_last_awaited x from)) else spent f)
done_by_quiet t n f x from true h = record { lines = if_quiet t _ (is_last_awaited x from) (h, tt); posts = tt }
done_by_quiet t n f x from false h = spent_quiet t n f

ack_of_quiet : (t : Traced) (n : ℕ) (f : Facts) (from : ℕ) (o : Option Transaction) → Visited t f.me (view_key f) → Quiet t n (ack_of f from o)
ack_of_quiet t n f from None h = spent_quiet t n f
ack_of_quiet t n f from (Some x) h = done_by_quiet t n f x from (awaits_ack x from) h

repl_ack_quiet : (t : Traced) (n : ℕ) (f : Facts) (from number : ℕ) (b : Bool) → (b ≡ true → Visited t f.me (view_key f)) → Quiet t n (if b then ack_of f from (transaction f.transactions number) else stale f)
repl_ack_quiet t n f from number true h = ack_of_quiet t n f from (transaction f.transactions number) (h refl)
repl_ack_quiet t n f from number false h = stale_quiet t n f

ask_quiet : (t : Traced) (n : ℕ) (f : Facts) (from : ℕ) (k : ClusterKey) (number : ℕ) (d : List ℕ) (b : Bool) → IsPromisedKey t k → Quiet t n (if b then sends_only (to_one from (message.Answer k number (finite.get f.store.content d))) else stale f)
ask_quiet t n f from k number d true h = record { lines = tt; posts = (posts_of t n _ (read_answer (λ x. Says t n x × MaySendKey t n x) k number _ h.field (λ i w. (h, tt))), tt) }
ask_quiet t n f from k number d false h = stale_quiet t n f

resolving_if_quiet : (t : Traced) (n : ℕ) (f : Facts) (clock : ℕ) (x : Transaction) (b : Bool) → Visited t f.me (view_key f) → Quiet t n (if b then resolving f clock (list_at f (partition_of x.digest)) x else nothing)
resolving_if_quiet t n f clock x true h = resolving_quiet t n f clock _ x h
resolving_if_quiet t n f clock x false h = nothing_quiet t n

answered_by_quiet : (t : Traced) (n : ℕ) (f : Facts) (clock : ℕ) (x : Transaction) (from : ℕ) (v : Option Version) (b : Bool) → Visited t f.me (view_key f) → Quiet t n (if b then (if is_last_awaited x from then resolving f clock (list_at f (partition_of (answered f.store.by from v x).digest)) (answered f.store.by from v x) else nothing) else spent f)
answered_by_quiet t n f clock x from v true h = resolving_if_quiet t n f clock (answered f.store.by from v x) (is_last_awaited x from) h
answered_by_quiet t n f clock x from v false h = spent_quiet t n f

answer_of_quiet : (t : Traced) (n : ℕ) (f : Facts) (clock from : ℕ) (v : Option Version) (o : Option Transaction) → Visited t f.me (view_key f) → Quiet t n (answer_of f clock from v o)
answer_of_quiet t n f clock from v None h = spent_quiet t n f
answer_of_quiet t n f clock from v (Some x) h = answered_by_quiet t n f clock x from v (awaits_answer x from) h

answer_quiet : (t : Traced) (n : ℕ) (f : Facts) (clock from number : ℕ) (v : Option Version) (b : Bool) → (b ≡ true → Visited t f.me (view_key f)) → Quiet t n (if b then answer_of f clock from v (transaction f.transactions number) else stale f)
answer_quiet t n f clock from number v true h = answer_of_quiet t n f clock from v (transaction f.transactions number) (h refl)
answer_quiet t n f clock from number v false h = stale_quiet t n f

table_quiet : (t : Traced) (n : ℕ) (f : Facts) (b : Bool) → IsPromisedKey t (view_key f) → Quiet t n (if b then sends_only (to_one client (message.MapTable (map_table f))) else nothing)
table_quiet t n f true h = record { lines = tt; posts = (posts_of t n _ (read_table (λ x. Says t n x × MaySendKey t n x) (map_table f) h.field (λ y e. (subst (λ k. IsPromisedKey t k) (sym e) h, tt))), tt) }
table_quiet t n f false h = nothing_quiet t n

unless_stale_quiet : (t : Traced) (n : ℕ) (f : Facts) (b : Bool) → Quiet t n (if b then nothing else stale f)
unless_stale_quiet t n f true = nothing_quiet t n
unless_stale_quiet t n f false = stale_quiet t n f

-- ---- votes

-- what is known as a message is at its end: the facts before it, and what the node has agreed to after it
pub record Came (t : Traced) (f : Facts) (from : ℕ) (m : Message) : Type 0 where
  pub sound : Sound t
  pub keys : NodeKeys t f.me f
  pub says : Says t from m
  pub was_sent : WasPosted t m
  pub here : facts_of t f.me ≡ reached f from m

accept_posts : (t : Traced) (n : ℕ) (k : ClusterKey) → IsPromisedKey t k
    → MayPost t n (message.Accept k)
accept_posts t n k h = posts_of t n _ (read_accept (λ x. Says t n x × MaySendKey t n x) k h.field (h, tt))

propose_ok : (t : Traced) (net : Network) (f : Facts) (from : ℕ) (k : ClusterKey) (ms : List Member) → Came t f from (message.Propose k ms) → LicensedMarks t (writes (written net f.me (due_propose f from k)))
propose_ok t net f from k ms c = go (keys.key_lt k f.agreement.promised)
  where
    listed : Listed t k ms
    listed = c.sound.lists k ms c.says.1

    promising : (b : Bool) → keys.key_lt f.agreement.promised k ≡ b → LicensedMarks t (writes (only_if (line.Promise f.me k) b))
    promising true e = (record { above = subst (λ (g : Facts). IsBelow g.agreement.promised k) (sym c.here) (lt_below f.agreement.promised k e); source = inr (ms, c.was_sent) }, tt)
    promising false e = tt

    go : (b : Bool) → LicensedMarks t (writes (written net f.me (if b then sends_only (to_one from (message.Refuse k f.agreement.promised)) else lines_and_sends (only_if (line.Promise f.me k) (keys.key_lt f.agreement.promised k)) (to_one from (message.Accept k)))))
    go true = quiet_ok t f.me net (if true then sends_only (to_one from (message.Refuse k f.agreement.promised)) else lines_and_sends (only_if (line.Promise f.me k) (keys.key_lt f.agreement.promised k)) (to_one from (message.Accept k))) c.sound (record {
      lines = tt;
      posts = (posts_of t f.me _ (read_refuse (λ x. Says t f.me x × MaySendKey t f.me x) k f.agreement.promised listed.known.field c.keys.agrees.promised.field ((listed.known, c.keys.agrees.promised), tt)), tt);
    })
    go false =
        let ok : LicensedMarks t (writes (only_if (line.Promise f.me k) (keys.key_lt f.agreement.promised k))) = promising (keys.key_lt f.agreement.promised k) refl in
        written_ok t f.me net (if false then sends_only (to_one from (message.Refuse k f.agreement.promised)) else lines_and_sends (only_if (line.Promise f.me k) (keys.key_lt f.agreement.promised k)) (to_one from (message.Accept k))) ok c.sound (accept_posts _ f.me k (known_grows t _ (kept_all t _ ok c.sound).grows k listed.known), tt)

-- ---- a row

state_ok : (t : Traced) (net : Network) (f : Facts) (from : ℕ) (k : ClusterKey) (wants : Bool) (row : Row) → Came t f from (message.State k wants row)
    → LicensedMarks t (writes (written net f.me (due_state f (reached f from (message.State k wants row)) from k wants)))
state_ok t net f from k wants row c = go (in_view f k) refl
  where
    now : Facts
    now = reached f from (message.State k wants row)

    known : IsPromisedKey t (view_key f)
    known = view_known t f.me f c.keys

    view : view_key f ≡ view_key (facts_of t f.me)
    view = ap (λ v. exchange_key v) (row_same t f from row (in_view f k) c.says.1).view ∙ ap (λ (g : Facts). view_key g) (sym c.here)

    finishing : Visited t f.me (view_key f) → (b : Bool) → LicensedMarks t (writes (only_if (line.Exchanged f.me (view_key f)) b))
    finishing h true = (record { visited = h; view = view }, tt)
    finishing h false = tt

    go : (b : Bool) → in_view f k ≡ b → LicensedMarks t (writes (written net f.me (if b then lines_and_sends (only_if (line.Exchanged f.me (view_key f)) (finishes f now)) (if wants then to_one from (state f false) else []) else stale f)))
    go true e =
        let ok : LicensedMarks t (writes (only_if (line.Exchanged f.me (view_key f)) (finishes f now))) = finishing (viewed t f.me f k c.keys e) (finishes f now) in
        let g : Grows t (traced_after_all t (writes (only_if (line.Exchanged f.me (view_key f)) (finishes f now)))) = (kept_all t _ ok c.sound).grows in
        written_ok t f.me net (if true then lines_and_sends (only_if (line.Exchanged f.me (view_key f)) (finishes f now)) (if wants then to_one from (state f false) else []) else stale f) ok c.sound (answer_state_posts _ f.me f from wants (known_grows t _ g (view_key f) known) (rows_grow t _ g f.exchange.rows c.keys.rows))
    go false e = quiet_ok t f.me net _ c.sound (stale_quiet t f.me f)

-- ---- an entry by accepts

commit_posts : (t : Traced) (n : ℕ) (k : ClusterKey) (ms : List Member) → Sound t → t.lists k ≡ Some ms → MayPost t n (message.Commit k ms)
commit_posts t n k ms s list =
    let listed : Listed t k ms = s.lists k ms list in
    posts_of t n _ (read_commit (λ x. Says t n x × MaySendKey t n x) k ms k.principal listed.key listed.good (list, tt))

committing_ok : (t : Traced) (net : Network) (f : Facts) (from : ℕ) (k : ClusterKey) (p : Proposal) (b : Bool) → Came t f from (message.Accept k) → Proposed t f.me f.agreement.promised f.agreement.last p → LicensedMarks t (writes (written net f.me (if b then commit_effects f p else nothing)))
committing_ok t net f from k p false c q = quiet_ok t f.me net (if false then commit_effects f p else nothing) c.sound (nothing_quiet t f.me)
committing_ok t net f from k p true c q =
    let good : GoodList p.key.principal p.members = (c.sound.lists p.key p.members q.list).good in
    let kept : (f.agreement.promised ≡ (agreement.accepting f.agreement from k).promised) × (f.agreement.last ≡ (agreement.accepting f.agreement from k).last) = accepting_keeps f.agreement from (proposes f.agreement.proposal k) in
    let h : Lawful t f.me p.key p.members = record {
      promised = q.key ∙ kept.0 ∙ ap (λ (g : Facts). g.agreement.promised) (sym c.here);
      above = subst (λ last. IsBelow last p.key) (kept.1 ∙ ap (λ (g : Facts). g.agreement.last) (sym c.here)) q.above;
      list = q.list;
      among = subst (λ (x : ℕ). IsTrue (is_member p.members x)) q.own good.led;
    } in
    let ok : LicensedMarks t (writes (entering f p.key p.members)) = entering_ok t f p.key p.members c.sound (view_known t f.me f c.keys) h in
    let k : Keeps t
    (traced_after_all t (writes (entering f p.key p.members))) = kept_all t _ ok c.sound in
    written_ok t f.me net (if true then commit_effects f p else nothing) ok c.sound (each_posts _ f.me _ (agreement.others_among f.me p.members) (commit_posts _ f.me p.key p.members k.sound (k.grows.lists p.key p.members q.list)))

accept_ok : (t : Traced) (net : Network) (f : Facts) (from : ℕ) (k : ClusterKey) → Came t f from (message.Accept k) → LicensedMarks t (writes (written net f.me (due_accept f from k)))
accept_ok t net f from k c = go f.agreement.proposal (proposes f.agreement.proposal k) c.keys.agrees.proposal
  where
    go : (o : Option Proposal) (b : Bool) → ProposalStands t f.me f.agreement.promised f.agreement.last o → LicensedMarks t (writes (written net f.me (accept_effects f from k o b)))
    go (Some p) true q = committing_ok t net f from k p (is_nil (without_missing p from).missing) c q
    go (Some p) false q = quiet_ok t f.me net _ c.sound (stale_quiet t f.me f)
    go None b q = quiet_ok t f.me net _ c.sound (stale_quiet t f.me f)

-- ---- an entry by a commit

commit_ok : (t : Traced) (net : Network) (f : Facts) (from : ℕ) (k : ClusterKey) (ms : List Member) → Came t f from (message.Commit k ms) → LicensedMarks t (writes (written net f.me (due_commit f k ms)))
commit_ok t net f from k ms c = go (same_key k f.agreement.promised) (keys.key_lt f.agreement.last k) (is_member ms f.me) refl refl refl
  where
    go : (x y z : Bool) → same_key k f.agreement.promised ≡ x → keys.key_lt f.agreement.last k ≡ y → is_member ms f.me ≡ z → LicensedMarks t (writes (written net f.me (if x && (y && z) then lines_only (entering f k ms) else stale f)))
    go true true true e u v =
        let h : Lawful t f.me k ms = record {
          promised = same_is k f.agreement.promised e ∙ ap (λ (g : Facts). g.agreement.promised) (sym c.here);
          above = subst (λ (g : Facts). IsBelow g.agreement.last k) (sym c.here) (lt_below f.agreement.last k u);
          list = c.says;
          among = v;
        } in
        written_ok t f.me net (lines_only (entering f k ms)) (entering_ok t f k ms c.sound (view_known t f.me f c.keys) h) c.sound tt
    go true true false e u v = quiet_ok t f.me net _ c.sound (stale_quiet t f.me f)
    go true false z e u v = quiet_ok t f.me net _ c.sound (stale_quiet t f.me f)
    go false y z e u v = quiet_ok t f.me net _ c.sound (stale_quiet t f.me f)

-- ---- all kinds

now_known : (t : Traced) (f : Facts) (from : ℕ) (m : Message) → Came t f from m → IsPromisedKey t (view_key (reached f from m))
now_known t f from m c = view_known t f.me (reached f from m) (subst (λ g. NodeKeys t f.me g) c.here (c.sound.nodes f.me))

pub message_ok : (n : ℕ) (t : Traced) (net : Network) (f : Facts) (clock from : ℕ) (m : Message) → Came t f from m → LicensedMarks t (writes (written net f.me (due_message_of n f clock from m)))
message_ok n t net f clock from (message.Heartbeat v promised hears role) c = quiet_ok t f.me net _ c.sound (nothing_quiet t f.me)
message_ok n t net f clock from (message.Propose k ms) c = propose_ok t net f from k ms c
message_ok n t net f clock from (message.Accept k) c = accept_ok t net f from k c
message_ok n t net f clock from (message.Refuse k promised) c = quiet_ok t f.me net _ c.sound (unless_stale_quiet t f.me f (proposes f.agreement.proposal k))
message_ok n t net f clock from (message.Commit k ms) c = commit_ok t net f from k ms c
message_ok n t net f clock from (message.State k wants row) c = state_ok t net f from k wants row c
message_ok n t net f clock from (message.Batch b) c = quiet_ok t f.me net _ c.sound (batch_quiet t f.me f from b (in_view f b.key) (viewed t f.me f b.key c.keys) c.says)
message_ok n t net f clock from (message.BatchAck k number) c = quiet_ok t f.me net _ c.sound (batch_ack_quiet t f.me f from number (in_view f k))
message_ok n t net f clock from (message.Progress k wants done handed settled) c = quiet_ok t f.me net _ c.sound (progress_quiet t f.me n f (reached f from (message.Progress k wants done handed settled)) from wants (in_view f k) (now_known t f from (message.Progress k wants done handed settled) c))
message_ok n t net f clock from (message.Repl k number nth d v) c = quiet_ok t f.me net _ c.sound (repl_quiet t f.me f from k number d v (in_view f k) (viewed t f.me f k c.keys) c.says)
message_ok n t net f clock from (message.ReplAck k number) c = quiet_ok t f.me net _ c.sound (repl_ack_quiet t f.me f from number (in_view f k) (viewed t f.me f k c.keys))
message_ok n t net f clock from (message.Ask k number d) c = quiet_ok t f.me net _ c.sound (ask_quiet t f.me f from k number d (in_view f k) c.says)
message_ok n t net f clock from (message.Answer k number v) c = quiet_ok t f.me net _ c.sound (answer_quiet t f.me f clock from number v (in_view f k) (viewed t f.me f k c.keys))
message_ok n t net f clock from message.MapAsk c = quiet_ok t f.me net _ c.sound (table_quiet t f.me f f.exchange.exchanged (view_known t f.me f c.keys))
message_ok n t net f clock from _ c = quiet_ok t f.me net _ c.sound (stale_quiet t f.me f)
