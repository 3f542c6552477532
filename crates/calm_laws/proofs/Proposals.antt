-- A proposal between ticks: it is given up, or those who answer are missed no more.
use Rattle.std.proofs.Common.{◌≡◌, ℕ, ◌==◌, ◌||◌, ◌&&◌, not, Bool, true, false, cond, List, [], ◌∷◌, Option, Some, None, refl, sym, ap, subst, ◌∙◌, inl, inr, if◌then◌else◌}
use Rattle.std.specs.List.{cons_option}
use Rattle.conflict_order.specs.declared.want.Want.{Want}
use Rattle.conflict_order.specs.declared.version.Version.{Version}
use Rattle.cluster_types.specs.declared.cluster_key.ClusterKey.{ClusterKey}
use Rattle.cluster_types.specs.declared.member.Member.{Member}
use Rattle.cluster_types.specs.ClusterKeys.{key_lt}
use Rattle.cluster_types.specs.Distinct.{without}
use Rattle.cluster_types.specs.Groups.{apart}
use Rattle.cluster_types.specs.Partitions.{partition_of}
use Rattle.wire_messages.specs.declared.message.Message.{Message}
use Rattle.wire_messages.specs.declared.message.Message.TheVariants as message
use Rattle.wire_messages.specs.Decoding.{message_of}
use Rattle.wire_messages.specs.Spelling.{spelling}
use Rattle.journal_lines.specs.declared.line.Line.{Line}
use Rattle.journal_lines.specs.declared.line.Line.TheVariants as line
use Rattle.node_rules.specs.Agreement as agreement
use Rattle.node_rules.specs.Agreement.{Agreement, Proposal, proposes, without_missing, accepted_by}
use Rattle.node_rules.specs.Copies.{Row}
use Rattle.node_rules.specs.Facts.{Facts, list_at}
use Rattle.node_rules.specs.Keys.{same_key}
use Rattle.node_rules.specs.Messages.{due_message_of, client}
use Rattle.node_rules.specs.Notes as notes
use Rattle.node_rules.specs.Notes.{note, noted, reached, sent, all_sent, in_view}
use Rattle.node_rules.specs.Tables.{contains, only_if}
use Rattle.cluster_rules.specs.Network.{are_apart}
use Rattle.cluster_rules.specs.World.{World, is_up}
use Rattle.cluster_laws.proofs.At.{differ}
use Rattle.key_laws.proofs.Order.{same_self}
use Rattle.run_laws.specs.Tied.{Among}
use Rattle.calm_laws.specs.Acts.{Input, Ticks, Gets, read_to, as_read, sent_at, acted, outbox}
use Rattle.calm_laws.specs.Letters.{letters_from, arriving_at}
use Rattle.calm_laws.specs.Flows.{Base, Flowed, Near, Rounded, inbox}
use Rattle.calm_laws.specs.Group.{kind}
use Rattle.calm_laws.proofs.Flow.{among_behind, Open, arrives}
use Rattle.calm_laws.proofs.Hearing.{gets_inbox}
use Rattle.calm_laws.proofs.Inputs.{Keeps, Along, served_kept, served_each, Any, outbox_any}
use Rattle.calm_laws.proofs.KindLaws.{NoneOf, none_read}
use Rattle.calm_laws.proofs.Own.{Steady, AllSteady, message_steady}
use Rattle.calm_laws.proofs.Sent.{asks, AllGets, message_none}
use Rattle.node_rules.specs.Effects.{lines_and_sends, sends_only, to_one}
use Rattle.cluster_types.specs.ClusterKeys as keys

-- ---- proposals that shrink

-- of the same key, and who wasn't missed isn't
pub record Less (p q : Proposal) : Type 0 where
  pub key : p.key ≡ q.key
  pub missing : (m : ℕ) → contains q.missing m ≡ false → contains p.missing m ≡ false

-- it is given up, or is one that stood, of which no more are missing
abbrev pub Shrunk : Option Proposal → Option Proposal → Type 0
Shrunk None o = Unit {0}
Shrunk (Some p) None = ⊥
Shrunk (Some p) (Some q) = Less p q

pub shrunk_refl : (o : Option Proposal) → Shrunk o o
shrunk_refl None = tt
shrunk_refl (Some p) = record { key = refl; missing = λ m e. e }

pub shrunk_on : (x y z : Option Proposal) → Shrunk x y → Shrunk y z → Shrunk x z
shrunk_on None y z h i = tt
shrunk_on (Some p) None z h i = absurd h
shrunk_on (Some p) (Some q) None h i = absurd i
shrunk_on (Some p) (Some q) (Some r) h i = record { key = h.key ∙ i.key; missing = λ m e. h.missing m (i.missing m e) }

abbrev pub prop : Facts → Option Proposal
prop f = f.agreement.proposal

kept_shrinks : (b : Bool) (o : Option Proposal) → Shrunk (if b then o else None) o
kept_shrinks true o = shrunk_refl o
kept_shrinks false o = tt

note_shrinks : (q : Option Want) (f : Facts) (a : ℕ) (l : Line) → Steady a l → Shrunk (prop (note q f l)) (prop f)
note_shrinks q f a (line.Tick n) h = absurd h
note_shrinks q f a (line.Stop n) h = absurd h
note_shrinks q f a (line.Promise n k) h = kept_shrinks (proposes f.agreement.proposal k) f.agreement.proposal
note_shrinks q f a (line.Enter n k ms) h = tt
note_shrinks q f a l h = shrunk_refl f.agreement.proposal

noted_shrinks : (q : Option Want) (f : Facts) (a : ℕ) (ls : List Line) → AllSteady a ls → Shrunk (prop (noted q f ls)) (prop f)
noted_shrinks q f a [] h = shrunk_refl (prop f)
noted_shrinks q f a (l ∷ ls) h = shrunk_on (prop (noted q (note q f l) ls)) (prop (note q f l)) (prop f) (noted_shrinks q (note q f l) a ls h.1) (note_shrinks q f a l h.0)

sent_same : (f : Facts) (to : ℕ) (m : Message) → asks (kind m) ≡ false → prop (sent f to m) ≡ prop f
sent_same f to (message.Propose key members) h = differ refl h
sent_same f to (message.Batch b) h = refl
sent_same f to m h = refl

all_sent_same : (f : Facts) (ms : List (ℕ × Message)) → NoneOf asks ms → prop (all_sent f ms) ≡ prop f
all_sent_same f [] h = refl
all_sent_same f (m ∷ ms) h = all_sent_same (sent f m.0 m.1) ms h.1 ∙ sent_same f m.0 m.1 h.0

pub without_hasnt : (xs : List ℕ) (x m : ℕ) → contains xs m ≡ false → contains (without xs x) m ≡ false
without_hasnt [] x m e = refl
without_hasnt (y ∷ xs) x m e = go (y == m) refl e (without_hasnt xs x m)
  where
    here : (b : Bool) → (y == m) ≡ false → contains (without xs x) m ≡ false → contains (cond (not b) (y ∷ without xs x) (without xs x)) m ≡ false
    here true s f = f
    here false s f = ap (λ (c : Bool). c || contains (without xs x) m) s ∙ f

    go : (c : Bool) → (y == m) ≡ c → (c || contains xs m) ≡ false → (contains xs m ≡ false → contains (without xs x) m ≡ false) → contains (without (y ∷ xs) x) m ≡ false
    go true s f rest = differ refl f
    go false s f rest = here (y == x) s (rest f)

-- a number that is taken out isn't there
pub without_itself : (xs : List ℕ) (x : ℕ) → contains (without xs x) x ≡ false
without_itself [] x = refl
without_itself (y ∷ xs) x = go (y == x) refl (without_itself xs x)
  where
    go : (b : Bool) → (y == x) ≡ b → contains (without xs x) x ≡ false → contains (cond (not b) (y ∷ without xs x) (without xs x)) x ≡ false
    go true s f = f
    go false s f = ap (λ (c : Bool). c || contains (without xs x) x) s ∙ f

accepting_shrinks : (a : Agreement) (from : ℕ) (b : Bool) → Shrunk (if b then record a { proposal = accepted_by a.proposal from } else a).proposal a.proposal
accepting_shrinks a from false = shrunk_refl a.proposal
accepting_shrinks a from true = go a.proposal
  where
    go : (o : Option Proposal) → Shrunk (accepted_by o from) o
    go None = tt
    go (Some p) = record { key = refl; missing = λ m e. without_hasnt p.missing from m e }

refused_shrinks : (a : Agreement) (b : Bool) → Shrunk (if b then record a { proposal = None } else a).proposal a.proposal
refused_shrinks a true = tt
refused_shrinks a false = shrunk_refl a.proposal

row_prop : (f : Facts) (from : ℕ) (row : Row) (b : Bool) → Shrunk (prop (notes.row_came f from row b)) (prop f)
row_prop f from row true = shrunk_refl (prop f)
row_prop f from row false = shrunk_refl (prop f)

batch_prop : (f : Facts) (from number : ℕ) (b : Bool) → Shrunk (prop (notes.batch_acked f from number b)) (prop f)
batch_prop f from number true = shrunk_refl (prop f)
batch_prop f from number false = shrunk_refl (prop f)

progress_prop : (f : Facts) (from : ℕ) (done handed settled : List Bool) (b : Bool) → Shrunk (prop (notes.progress_came f from done handed settled b)) (prop f)
progress_prop f from done handed settled true = shrunk_refl (prop f)
progress_prop f from done handed settled false = shrunk_refl (prop f)

counted_prop : (f : Facts) (key : ClusterKey) (l : List ℕ) (p nth : ℕ) (b : Bool) → Shrunk (prop (notes.write_counted_if f key l p nth b)) (prop f)
counted_prop f key l p nth true = shrunk_refl (prop f)
counted_prop f key l p nth false = shrunk_refl (prop f)

write_prop : (f : Facts) (from : ℕ) (key : ClusterKey) (nth p : ℕ) (b : Bool) → Shrunk (prop (notes.write_came f from key nth p b)) (prop f)
write_prop f from key nth p true = counted_prop f key (list_at f p) p nth _
write_prop f from key nth p false = shrunk_refl (prop f)

ack_prop : (f : Facts) (from number : ℕ) (b : Bool) → Shrunk (prop (notes.write_acked f from number b)) (prop f)
ack_prop f from number true = shrunk_refl (prop f)
ack_prop f from number false = shrunk_refl (prop f)

answer_prop : (f : Facts) (from number : ℕ) (v : Option Version) (b : Bool) → Shrunk (prop (notes.answer_came f from number v b)) (prop f)
answer_prop f from number v true = shrunk_refl (prop f)
answer_prop f from number v false = shrunk_refl (prop f)

reached_shrinks : (f : Facts) (from : ℕ) (m : Message) → Shrunk (prop (reached f from m)) (prop f)
reached_shrinks f from (message.Accept key) = accepting_shrinks f.agreement from (proposes f.agreement.proposal key)
reached_shrinks f from (message.Refuse key promised) = refused_shrinks f.agreement (proposes f.agreement.proposal key)
reached_shrinks f from (message.State key wants row) = row_prop f from row (in_view f key)
reached_shrinks f from (message.BatchAck key number) = batch_prop f from number (in_view f key)
reached_shrinks f from (message.Progress key wants done handed settled) = progress_prop f from done handed settled (in_view f key)
reached_shrinks f from (message.Repl key t nth digest v) = write_prop f from key nth (partition_of digest) (in_view f key)
reached_shrinks f from (message.ReplAck key t) = ack_prop f from t (in_view f key)
reached_shrinks f from (message.Answer key t v) = answer_prop f from t v (in_view f key)
reached_shrinks f from m = shrunk_refl (prop f)

-- what is due of a message shrinks what its arrival left
act_shrinks : (n c : ℕ) (f : Facts) (from : ℕ) (m : Message) → Shrunk (prop (acted n c f (Gets from m))) (prop (reached f from m))
act_shrinks n c f from m =
    let g : Facts = noted None (reached f from m) (due_message_of n f c from m).lines in
    subst (λ (o : Option Proposal). Shrunk o (prop (reached f from m))) (sym (all_sent_same g (as_read (due_message_of n f c from m).sends) (none_read asks (due_message_of n f c from m).sends (message_none n f c from m))))
    (noted_shrinks None (reached f from m) f.me (due_message_of n f c from m).lines (message_steady n f c from m))

pub acted_shrinks : (n c : ℕ) (f : Facts) (from : ℕ) (m : Message) → Shrunk (prop (acted n c f (Gets from m))) (prop f)
acted_shrinks n c f from m = shrunk_on (prop (acted n c f (Gets from m))) (prop (reached f from m)) (prop f) (act_shrinks n c f from m) (reached_shrinks f from m)

-- ---- who has answered

-- a proposal, if one stands, is of that key
abbrev pub Of : ClusterKey → Option Proposal → Type 0
Of k None = Unit {0}
Of k (Some p) = p.key ≡ k

-- and the node isn't missed
abbrev pub Got : ClusterKey → ℕ → Option Proposal → Type 0
Got k m None = Unit {0}
Got k m (Some p) = (p.key ≡ k) × (contains p.missing m ≡ false)

of_shrunk : (k : ClusterKey) (x y : Option Proposal) → Shrunk x y → Of k y → Of k x
of_shrunk k None y h i = tt
of_shrunk k (Some p) None h i = absurd h
of_shrunk k (Some p) (Some q) h i = h.key ∙ i

got_shrunk : (k : ClusterKey) (m : ℕ) (x y : Option Proposal) → Shrunk x y → Got k m y → Got k m x
got_shrunk k m None y h i = tt
got_shrunk k m (Some p) None h i = absurd h
got_shrunk k m (Some p) (Some q) h i = (h.key ∙ i.0, h.missing m i.1)

pub all_gets : (is : List Input) (i : Input) → AllGets is → Among is i → (P : Input → Type 0) → ((from : ℕ) (m : Message) → P (Gets from m)) → P i
all_gets [] i g h P f = absurd h
all_gets (Ticks ∷ is) i g h P f = absurd g
all_gets (Gets from m ∷ is) i g (inl e) P f = subst P e (f from m)
all_gets (Gets from m ∷ is) i g (inr h) P f = all_gets is i g h P f

pub keeps_of : (n c : ℕ) (k : ClusterKey) (is : List Input) → AllGets is → Keeps n c (λ f. Of k (prop f)) is
keeps_of n c k is g f i h p = all_gets is i g h (λ j. Of k (prop (acted n c f j))) (λ from m. of_shrunk k (prop (acted n c f (Gets from m))) (prop f) (acted_shrinks n c f from m) p)

pub keeps_got : (n c : ℕ) (k : ClusterKey) (x : ℕ) (is : List Input) → AllGets is → Keeps n c (λ f. Got k x (prop f)) is
keeps_got n c k x is g f i h p = all_gets is i g h (λ j. Got k x (prop (acted n c f j))) (λ from m. got_shrunk k x (prop (acted n c f (Gets from m))) (prop f) (acted_shrinks n c f from m) p)

-- a vote on that key
abbrev pub IsVote : ClusterKey → Message → Type 0
IsVote k (message.Accept key) = key ≡ k
IsVote k (message.Refuse key promised) = key ≡ k
IsVote k _ = ⊥

vote_reached : (k : ClusterKey) (f : Facts) (m : ℕ) (x : Message) → IsVote k x → Of k (prop f) → Got k m (prop (reached f m x))
vote_reached k f m (message.Accept key) v h = go f.agreement.proposal h
  where
    proposed : (p : Proposal) → p.key ≡ k → proposes (Some p) key ≡ true
    proposed p e = ap (λ (y : ClusterKey). same_key y key) (e ∙ sym v) ∙ same_self key

    go : (o : Option Proposal) → Of k o → Got k m (if proposes o key then record (record f.agreement { proposal = o }) { proposal = accepted_by (record f.agreement { proposal = o }).proposal m } else record f.agreement { proposal = o }).proposal
    go None i = tt
    go (Some p) i = subst (λ (b : Bool). Got k m (if b then record (record f.agreement { proposal = Some p }) { proposal = accepted_by (record f.agreement { proposal = Some p }).proposal m } else record f.agreement { proposal = Some p }).proposal) (sym (proposed p i)) (i, without_itself p.missing m)
vote_reached k f m (message.Refuse key promised) v h = go f.agreement.proposal h
  where
    proposed : (p : Proposal) → p.key ≡ k → proposes (Some p) key ≡ true
    proposed p e = ap (λ (y : ClusterKey). same_key y key) (e ∙ sym v) ∙ same_self key

    go : (o : Option Proposal) → Of k o → Got k m (if proposes o key then record (record f.agreement { proposal = o }) { proposal = None } else record f.agreement { proposal = o }).proposal
    go None i = tt
    go (Some p) i = subst (λ (b : Bool). Got k m (if b then record (record f.agreement { proposal = Some p }) { proposal = None } else record f.agreement { proposal = Some p }).proposal) (sym (proposed p i)) tt
vote_reached k f m _ v h = absurd v

pub vote_gives : (n c : ℕ) (k : ClusterKey) (f : Facts) (m : ℕ) (x : Message) → IsVote k x → Of k (prop f) → Got k m (prop (acted n c f (Gets m x)))
vote_gives n c k f m x v h = got_shrunk k m (prop (acted n c f (Gets m x))) (prop (reached f m x)) (act_shrinks n c f m x) (vote_reached k f m x v h)

-- ---- a vote is sent

pub record VoteTo (k : ClusterKey) (a : ℕ) (l : ℕ × Message) : Type 0 where
  pub to : l.0 ≡ a
  pub vote : IsVote k l.1

-- the votes on that key can be read
pub record Votes (k : ClusterKey) (f : Facts) : Type 0 where
  pub accepts : message_of (spelling (message.Accept k)) ≡ Some (message.Accept k)
  pub refuses : key_lt k f.agreement.promised ≡ true → message_of (spelling (message.Refuse k f.agreement.promised)) ≡ Some (message.Refuse k f.agreement.promised)

votes : (n c : ℕ) (k : ClusterKey) (a : ℕ) (ms : List Member) (f : Facts) → Votes k f → Any (VoteTo k a) (sent_at n c f (Gets a (message.Propose k ms)))
unfolding as_read
votes n c k a ms f v = go (key_lt k f.agreement.promised) refl
  where
    go : (b : Bool) → key_lt k f.agreement.promised ≡ b → Any (VoteTo k a) (as_read (if b then sends_only (to_one a (message.Refuse k f.agreement.promised)) else lines_and_sends (only_if (line.Promise f.me k) (keys.key_lt f.agreement.promised k)) (to_one a (message.Accept k))).sends)
    go true e =
        let l : ℕ × Message = (a, message.Refuse k f.agreement.promised) in
        record { which = l; among = subst (λ (o : Option Message). Among (cons_option (read_to a o) []) l) (sym (v.refuses e)) (inl refl); good = record { to = refl; vote = refl } }
    go false e =
        let l : ℕ × Message = (a, message.Accept k) in
        record { which = l; among = subst (λ (o : Option Message). Among (cons_option (read_to a o) []) l) (sym v.accepts) (inl refl); good = record { to = refl; vote = refl } }

-- ---- a round

flow_got : (n : ℕ) (u v : World) (k : ClusterKey) (m a : ℕ) → Flowed n u v → Got k m (prop (u.facts a)) → Got k m (prop (v.facts a))
flow_got n u v k m a f h = subst (λ (g : Facts). Got k m (prop g)) (sym (f.facts a)) (served_kept n (u.clocks a) (λ g. Got k m (prop g)) (inbox u a) (u.facts a) (keeps_got n (u.clocks a) k m (inbox u a) (gets_inbox u a)) h)

pub opened : (w u : World) (a m : ℕ) → u.network.groups ≡ w.network.groups → is_up u m ≡ is_up w m → is_up w m ≡ true → are_apart w.network a m ≡ false → (m == client) ≡ false → Open u a m
opened w u a m groups ups up together node = record {
  up = ups ∙ up;
  together = ap (λ (gs : List (List ℕ)). not (a == client) && (not (m == client) && apart gs a m)) groups ∙ together;
  node = node;
}

-- a node whose tick proposed a key to another one doesn't miss it at the round's end, if that proposal stands by then
pub answered : (n : ℕ) (ns : List ℕ) (w v : World) (r : Rounded n w v) → Base ns w → (a m : ℕ) → Near ns w a m → Near ns w m a → (k : ClusterKey) (ms : List Member)
    → Of k (prop (r.ticks_end.facts a)) → Among (letters_from a r.ticks.posted) (m, message.Propose k ms)
    → Along n (r.ticks_end.clocks m) (Votes k) (r.ticks_end.facts m) (inbox r.ticks_end m) → Got k m (prop (v.facts a))
answered n ns w v r b a m am ma k ms stands proposed fit =
    let t : World = r.ticks_end in
    let one : World = r.first_end in
    let comes : Among (inbox t m) (Gets a (message.Propose k ms)) = subst (λ (is : List Input). Among is (Gets a (message.Propose k ms))) (sym (r.ticks.inbox m))
    (among_behind (Gets a (message.Propose k ms)) (inbox w m) (arriving_at t m r.ticks.posted)
    (arrives t a m (message.Propose k ms) r.ticks.posted (opened w t a m r.ticks.groups (r.ticks.ups m) (b.up m am.receiver) am.together am.node) proposed)) in
    let vote : Any (VoteTo k a) (outbox n (t.clocks m) (t.facts m) (inbox t m)) = outbox_any n (t.clocks m) (Votes k) (VoteTo k a) (inbox t m) (t.facts m) (Gets a (message.Propose k ms)) fit (votes n (t.clocks m) k a ms) comes in
    let x : Message = vote.which.1 in
    let letter : Among (letters_from m r.first.posted) (a, x) = subst (λ (y : ℕ). Among (letters_from m r.first.posted) (y, x)) vote.good.to (subst (λ (ls : List (ℕ × Message)). Among ls vote.which) (sym (r.first.from m)) vote.among) in
    let answer : Among (inbox one a) (Gets m x) = subst (λ (is : List Input). Among is (Gets m x)) (sym (r.first.inbox a))
    (arrives one m a x r.first.posted (opened w one m a (r.first.groups ∙ r.ticks.groups) (r.first.ups a ∙ r.ticks.ups a) (b.up a ma.receiver) ma.together ma.node) letter) in
    let of_one : Of k (prop (one.facts a)) = subst (λ (g : Facts). Of k (prop g)) (sym (r.first.facts a)) (served_kept n (t.clocks a) (λ g. Of k (prop g)) (inbox t a) (t.facts a) (keeps_of n (t.clocks a) k (inbox t a) (gets_inbox t a)) stands) in
    let got : Got k m (prop (r.second_end.facts a)) = subst (λ (g : Facts). Got k m (prop g)) (sym (r.second.facts a))
    (served_each n (one.clocks a) (λ g. Of k (prop g)) (λ g. Got k m (prop g)) (inbox one a) (one.facts a) (Gets m x) (keeps_of n (one.clocks a) k (inbox one a) (gets_inbox one a)) (keeps_got n (one.clocks a) k m (inbox one a) (gets_inbox one a))
    (λ g p. vote_gives n (one.clocks a) k g m x vote.good.vote p) answer of_one) in
    flow_got n r.third_end v k m a r.fourth (flow_got n r.second_end r.third_end k m a r.third got)
