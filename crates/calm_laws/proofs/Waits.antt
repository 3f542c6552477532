-- Between steps each proposal lacks some answer, and each open transaction awaits somebody: with the last one it ends.
use Rattle.std.proofs.Common.{◌≡◌, inl, inr, ℕ, zero, suc, ◌+◌, ◌==◌, ◌&&◌, not, Bool, true, false, cond, List, [], ◌∷◌, ◌++◌, map, filter, Option, Some, None, refl, sym, ap, subst, ◌∙◌, arith}
use Rattle.std.specs.Prelude.{find, if◌then◌else◌, is_none}
use Rattle.conflict_order.specs.declared.version.Version.{Version}
use Rattle.conflict_order.specs.declared.version.Body.TheVariants as body
use Rattle.conflict_order.specs.declared.want.Want.{Want}
use Rattle.conflict_order.specs.declared.want.Want.TheVariants as want
use Rattle.conflict_order.specs.Next.{next}
use Rattle.conflict_order.specs.Order.{is_newer}
use Rattle.std.specs.FinMap as finite
use Rattle.cluster_types.specs.declared.cluster_key.ClusterKey.{ClusterKey}
use Rattle.cluster_types.specs.declared.member.Member.{Member}
use Rattle.cluster_types.specs.ClusterKeys.{key_lt}
use Rattle.cluster_types.specs.Partitions.{partition_count, partition_of}
use Rattle.wire_messages.specs.declared.message.Message.{Message}
use Rattle.wire_messages.specs.declared.message.Message.TheVariants as message
use Rattle.journal_lines.specs.declared.line.Line.{Line}
use Rattle.journal_lines.specs.declared.line.Line.TheVariants as line
use Rattle.journal_lines.specs.declared.refusal.Refusal.{Refusal}
use Rattle.partition_lists.proofs.InOrderLaws.{equal}
use Rattle.node_rules.specs.Agreement as agreement
use Rattle.node_rules.specs.Agreement.{Agreement, Proposal, accepted_by, is_accepted_with, may_enter, others_among, proposes, proposes_anew, proposes_set, without_missing, agreement_entered, next_key, promising, proposing_to}
use Rattle.node_rules.specs.ByParts.{asked_or_resolved, closed_if, exchanged_if, merged_if, proposed_facts, requested, resolved, resolved_by, resolved_with, view_entered, with_applied_write}
use Rattle.node_rules.specs.Copies.{is_nil}
use Rattle.node_rules.specs.Exchange.{is_single}
use Rattle.node_rules.specs.Facts.{Facts, list_at, view_key}
use Rattle.node_rules.specs.Map.{list_master}
use Rattle.node_rules.specs.Messages as due
use Rattle.node_rules.specs.Notes as notes
use Rattle.node_rules.specs.Notes.{after_ages, in_view, neighbours, opening_transaction, note, noted, reached}
use Rattle.node_rules.specs.Requests.{request_refusal}
use Rattle.node_rules.specs.Settling.{drop, hand, learn, settle, settling_due, settling_at, settling_from}
use Rattle.node_rules.specs.Standing.{other_replicas}
use Rattle.node_rules.specs.Steps.{after_message, after_tick}
use Rattle.node_rules.specs.Tick.{is_candidate, propose}
use Rattle.node_rules.specs.Transactions.{Transaction, Transactions, acknowledged, acknowledging, answered, answering, awaits_ack, awaits_answer, closing_if, ends_by_ack, is_last_awaited, transaction, with_write}
use Rattle.node_rules.proofs.Agreeing.{accept_agrees, commit_agrees}
use Rattle.node_rules.proofs.NoteLaws.{noted-append}
use Rattle.node_rules.proofs.PartLaws as parts
use Rattle.node_rules.proofs.TickParts.{alone_is, among_others_is, down_is, up_is}
use Rattle.node_rules.proofs.Ticking.{tick_agrees}
use Rattle.node_rules.specs.Tables.{changed_if, only_if}
use Rattle.cluster_rules.specs.declared.event.Event.{Event}
use Rattle.cluster_rules.specs.World.{World}
use Rattle.cluster_rules.proofs.KeptFacts.{num_same}
use Rattle.cluster_laws.proofs.At.{differ}
use Rattle.run_laws.specs.Tied.{Among}
use Rattle.calm_laws.specs.Becoming.{Became, stayed, ticked, heard, asked, stopped, started, quiesced}
use Rattle.calm_laws.specs.Waits.{AwaitSome, LacksSome, Waits}

-- ---- proposals

kept_lacks : (test : Bool) (o : Option Proposal) → LacksSome o → LacksSome (if test then o else None)
kept_lacks true o h = h
kept_lacks false o h = tt

voting_lacks : (a : Agreement) (k : ClusterKey) → LacksSome a.proposal → LacksSome (agreement.voting a k).proposal
voting_lacks a k h = go (key_lt a.promised k)
  where
    go : (b : Bool) → LacksSome (if b then promising a k else a).proposal
    go true = kept_lacks (proposes a.proposal k) a.proposal h
    go false = h

counting_lacks : (a : Agreement) (from : ℕ) (k : ClusterKey) → LacksSome a.proposal → LacksSome (agreement.counting a from k).proposal
counting_lacks a from k h = go (proposes a.proposal k)
  where
    last : (o : Option Proposal) (c : Bool) → is_accepted_with o from ≡ c → LacksSome (if c then agreement_entered (record a { proposal = accepted_by o from }) k else record a { proposal = accepted_by o from }).proposal
    last o true i = tt
    last None false i = tt
    last (Some p) false i = i

    go : (b : Bool) → LacksSome (if b && is_accepted_with a.proposal from then agreement_entered (if b then record a { proposal = accepted_by a.proposal from } else a) k else (if b then record a { proposal = accepted_by a.proposal from } else a)).proposal
    go true = last a.proposal (is_accepted_with a.proposal from) refl
    go false = h

refusing_lacks : (a : Agreement) (k promised : ClusterKey) → LacksSome a.proposal → LacksSome (agreement.refusing a k promised).proposal
refusing_lacks a k promised h = go (proposes a.proposal k)
  where
    go : (b : Bool) → LacksSome (agreement.seeing (if b then record a { proposal = None } else a) promised).proposal
    go true = tt
    go false = h

committing_lacks : (me : ℕ) (a : Agreement) (k : ClusterKey) (ms : List Member) → LacksSome a.proposal → LacksSome (agreement.committing me a k ms).proposal
committing_lacks me a k ms h = go (may_enter me a k ms)
  where
    go : (b : Bool) → LacksSome (if b then agreement_entered a k else a).proposal
    go true = tt
    go false = h

ticking_lacks : (me : ℕ) (a : Agreement) (set : List Member) (candidate : Bool) → LacksSome a.proposal → LacksSome (agreement.ticking me a set candidate).proposal
ticking_lacks me a set candidate h = go (proposes_anew still candidate) refl
  where
    still : Agreement
    still = agreement.still_proposing a set

    no_none : (o : Option Proposal) (c : Bool) → (is_none o && c) ≡ true → o ≡ None
    no_none None c e = refl
    no_none (Some p) c e = cc

    new : (k : ClusterKey) (ns : List ℕ) → others_among me set ≡ ns → still.proposal ≡ None → LacksSome (agreement.proposing_to me still k set ns).proposal
    new k [] e none = tt
    new k (n ∷ ns) e none =
        subst (λ (o : Option Proposal). LacksSome (agreement.proposing (record still { promised = k; proposal = (if proposes o k then o else None) }) me k set).proposal) (sym none) (ap is_nil e)

    go : (b : Bool) → proposes_anew still candidate ≡ b → LacksSome (if b then proposing_to me still (next_key me still) set (others_among me set) else still).proposal
    go true e = new (agreement.next_key me still) (others_among me set) refl
        (no_none still.proposal _ e)
    go false e = kept_lacks (proposes_set a.proposal set) a.proposal h

-- ---- lists of transactions

among_filter : (test : Transaction → Bool) (ts : List Transaction) (t : Transaction) → Among (filter test ts) t → Among ts t × (test t ≡ true)
among_filter test [] t i = absurd i
among_filter test (x ∷ ts) t i = go (test x) refl i (among_filter test ts t)
  where
    go : (b : Bool) → test x ≡ b → Among (cond b (x ∷ filter test ts) (filter test ts)) t → (Among (filter test ts) t → Among ts t × (test t ≡ true)) → Among (x ∷ ts) t × (test t ≡ true)
    go true e (inl s) rest = (inl s, ap test (sym s) ∙ e)
    go true e (inr j) rest = (inr (rest j).0, (rest j).1)
    go false e j rest = (inr (rest j).0, (rest j).1)

-- each but the one of that number awaits somebody
abbrev AwaitBut : ℕ → List Transaction → Type 0
AwaitBut number ts = (t : Transaction) → Among ts t → (t.number ≡ number → ⊥) → is_nil t.awaiting ≡ false

unset : {b : Bool} → not b ≡ true → b ≡ false
unset {b} e = grind arith

-- that one is closed
closed_awaits : (number : ℕ) (ts : List Transaction) → AwaitBut number ts → AwaitSome (filter (λ t. not (t.number == number)) ts)
closed_awaits number ts h t i = let f : Among ts t × (not (t.number == number) ≡ true) = among_filter (λ t. not (t.number == number)) ts t i in h t f.0 (λ e. differ (equal t.number number e) (unset f.1))

record Origin (change : Transaction → Transaction) (number : ℕ) (ts : List Transaction) (t : Transaction) : Type 0 where
  from : Transaction
  among : Among ts from
  is : changed_if change from (from.number == number) ≡ t

origin : (change : Transaction → Transaction) (number : ℕ) (ts : List Transaction) (t : Transaction) → Among (map (λ x. changed_if change x (x.number == number)) ts) t → Origin change number ts t
origin change number [] t i = absurd i
origin change number (x ∷ ts) t (inl e) = record { from = x; among = inl refl; is = e }
origin change number (x ∷ ts) t (inr i) = let o : Origin change number ts t = origin change number ts t i in record { from = o.from; among = inr o.among; is = o.is }

-- it is changed, and awaits somebody then
changed_awaits : (change : Transaction → Transaction) (number : ℕ) (ts : List Transaction) → AwaitBut number ts → ((x : Transaction) → Among ts x → x.number ≡ number → is_nil (change x).awaiting ≡ false)
    → AwaitSome (map (λ x. changed_if change x (x.number == number)) ts)
changed_awaits change number ts h good t i =
    let o : Origin change number ts t = origin change number ts t i in
    subst (λ (y : Transaction). is_nil y.awaiting ≡ false) o.is (one o.from o.among (o.from.number == number) refl)
  where
    one : (x : Transaction) → Among ts x → (b : Bool) → (x.number == number) ≡ b → is_nil (changed_if change x b).awaiting ≡ false
    one x i true e = good x i (num_same x.number number e)
    one x i false e = h x i (λ s. differ (equal x.number number s) e)

-- it is changed, and keeps its number
changed_but : (change : Transaction → Transaction) (number : ℕ) (ts : List Transaction) → ((x : Transaction) → (change x).number ≡ x.number) → AwaitBut number ts → AwaitBut number (map (λ x. changed_if change x (x.number == number)) ts)
changed_but change number ts same h t i d =
    let o : Origin change number ts t = origin change number ts t i in
    subst (λ (y : Transaction). is_nil y.awaiting ≡ false) o.is (one o.from o.among (o.from.number == number) refl o.is)
  where
    one : (x : Transaction) → Among ts x → (b : Bool) → (x.number == number) ≡ b → changed_if change x b ≡ t → is_nil (changed_if change x b).awaiting ≡ false
    one x i true e is = absurd (d (ap (λ (y : Transaction). y.number) (sym is) ∙ same x ∙ num_same x.number number e))
    one x i false e is = h x i (λ s. differ (equal x.number number s) e)

some_but : (number : ℕ) (ts : List Transaction) → AwaitSome ts → AwaitBut number ts
some_but number ts h t i d = h t i

-- each is found by its number
abbrev pub Found : Transactions → Type 0
Found ts = (t : Transaction) → Among ts.running t → transaction ts t.number ≡ Some t

-- ---- acknowledgements and answers

acked_number : (from : ℕ) (x : Transaction) (b : Bool) → (changed_if (acknowledged from) x b).number ≡ x.number
acked_number from x true = refl
acked_number from x false = refl

ack_awaits : (ts : Transactions) (from number : ℕ) → Found ts → AwaitSome ts.running → (b : Bool) → ends_by_ack (transaction ts number) from ≡ b → AwaitSome (closing_if (acknowledging ts from number) number b).running
ack_awaits ts from number found h true e =
    closed_awaits number _ (changed_but (λ t. changed_if (acknowledged from) t (awaits_ack t from)) number ts.running (λ x. acked_number from x (awaits_ack x from)) (some_but number ts.running h))
ack_awaits ts from number found h false e = changed_awaits (λ t. changed_if (acknowledged from) t (awaits_ack t from)) number ts.running (some_but number ts.running h) one
  where
    one : (x : Transaction) → Among ts.running x → x.number ≡ number → is_nil (changed_if (acknowledged from) x (awaits_ack x from)).awaiting ≡ false
    one x i s = go (awaits_ack x from) refl (ap (λ (o : Option Transaction). ends_by_ack o from) (sym (found x i) ∙ ap (transaction ts) s) ∙ e)
      where
        go : (b : Bool) → awaits_ack x from ≡ b → (awaits_ack x from && is_last_awaited x from) ≡ false → is_nil (changed_if (acknowledged from) x b).awaiting ≡ false
        go false c q = h x i
        go true c q = ap (λ (b : Bool). b && is_last_awaited x from) (sym c) ∙ q

-- a transaction was resolved: it is closed, or its write awaits some replica
resolved_awaits : (g : Facts) (clock : ℕ) (l : List ℕ) (t : Transaction) → AwaitBut t.number g.transactions.running → AwaitSome (resolved g clock l t).transactions.running
resolved_awaits g clock l t h = go t.want
  where
    wrote : (v : Version) → AwaitSome (with_applied_write g l t v).transactions.running
    wrote v = by_others (is_nil (other_replicas g l)) refl
      where
        write : Transaction → Transaction
        write = with_write v (notes.next_nth g (partition_of t.digest)) (other_replicas g l)

        by_others : (b : Bool) → is_nil (other_replicas g l) ≡ b → AwaitSome (closed_if (notes.write_applied g (view_key g) l t.number t.digest v) t.number b).transactions.running
        by_others true e = closed_awaits t.number _ (changed_but write t.number g.transactions.running (λ x. refl) h)
        by_others false e = changed_awaits write t.number g.transactions.running h (λ x i s. e)

    go : (w : Want) → AwaitSome (resolved_by g clock l t w).transactions.running
    go want.Get = closed_awaits t.number g.transactions.running h
    go (want.Put bytes) = wrote (next t.best clock (body.Value bytes))
    go want.Del = wrote (next t.best clock body.Tombstone)

found_number : (ts : List Transaction) (number : ℕ) (t : Transaction) → find (λ x. x.number == number) ts ≡ Some t → t.number ≡ number
found_number [] number t e = cc
found_number (x ∷ ts) number t e = go (x.number == number) refl e (found_number ts number t)
  where
    same : Some x ≡ Some t → x ≡ t
    same q = cc

    go : (b : Bool) → (x.number == number) ≡ b → cond b (Some x) (find (λ x. x.number == number) ts) ≡ Some t → (find (λ x. x.number == number) ts ≡ Some t → t.number ≡ number) → t.number ≡ number
    go true i q rest = subst (λ (y : Transaction). y.number ≡ number) (same q) (num_same x.number number i)
    go false i q rest = rest q

answer_awaits : (f : Facts) (clock from number : ℕ) (v : Option Version) → Found f.transactions → AwaitSome f.transactions.running
    → AwaitSome (resolved_with (notes.answer_came f from number v true) clock from v (transaction f.transactions number)).transactions.running
answer_awaits f clock from number v found h = go (transaction f.transactions number) refl
  where
    told : Transaction → Transaction
    told t = changed_if (answered f.store.by from v) t (awaits_answer t from)

    same_if : (x : Transaction) (b : Bool) → (changed_if (answered f.store.by from v) x b).number ≡ x.number
    same_if x true = refl
    same_if x false = refl

    more : (o : Option Transaction) → transaction f.transactions number ≡ o → ((t : Transaction) → o ≡ Some t → (awaits_answer t from && is_last_awaited t from) ≡ false) → AwaitSome (answering f.store.by f.transactions from number v).running
    more o e good = changed_awaits told number f.transactions.running (some_but number f.transactions.running h) one
      where
        one : (x : Transaction) → Among f.transactions.running x → x.number ≡ number → is_nil (told x).awaiting ≡ false
        one x i s = deep (awaits_answer x from) refl (good x (sym e ∙ ap (transaction f.transactions) (sym s) ∙ found x i))
          where
            deep : (b : Bool) → awaits_answer x from ≡ b → (awaits_answer x from && is_last_awaited x from) ≡ false → is_nil (changed_if (answered f.store.by from v) x b).awaiting ≡ false
            deep false c q = h x i
            deep true c q = ap (λ (b : Bool). b && is_last_awaited x from) (sym c) ∙ q

    go : (o : Option Transaction) → transaction f.transactions number ≡ o → AwaitSome (resolved_with (notes.answer_came f from number v true) clock from v o).transactions.running
    go None e = more None e (λ t i. cc)
    go (Some t) e = deep (awaits_answer t from && is_last_awaited t from) refl
      where
        one : (x : Transaction) → Some t ≡ Some x → t ≡ x
        one x i = cc

        deep : (b : Bool) → (awaits_answer t from && is_last_awaited t from) ≡ b
            → AwaitSome (if b then resolved (notes.answer_came f from number v true) clock (list_at (notes.answer_came f from number v true) (partition_of t.digest)) (answered f.store.by from v t) else notes.answer_came f from number v true).transactions.running
        deep true c =
            resolved_awaits (notes.answer_came f from number v true) clock _ (answered f.store.by from v t)
            (subst (λ (k : ℕ). AwaitBut k (answering f.store.by f.transactions from number v).running) (sym (found_number f.transactions.running number t e))
            (changed_but told number f.transactions.running (λ x. same_if x (awaits_answer x from)) (some_but number f.transactions.running h)))
        deep false c = more (Some t) e (λ x i. subst (λ (y : Transaction). (awaits_answer y from && is_last_awaited y from) ≡ false) (one x i) c)

-- ---- requests

opened_but : (ts : List Transaction) (t : Transaction) → AwaitSome ts → AwaitBut t.number (ts ++ t ∷ [])
opened_but [] t h x (inl e) d = absurd (d (ap (λ (y : Transaction). y.number) (sym e)))
opened_but [] t h x (inr i) d = absurd i
opened_but (y ∷ ts) t h x (inl e) d = h x (inl e)
opened_but (y ∷ ts) t h x (inr i) d = opened_but ts t (λ z j. h z (inr j)) x i d

opened_some : (ts : List Transaction) (t : Transaction) → is_nil t.awaiting ≡ false → AwaitSome ts → AwaitSome (ts ++ t ∷ [])
opened_some [] t n h x (inl e) = subst (λ (y : Transaction). is_nil y.awaiting ≡ false) e n
opened_some [] t n h x (inr i) = absurd i
opened_some (y ∷ ts) t n h x (inl e) = h x (inl e)
opened_some (y ∷ ts) t n h x (inr i) = opened_some ts t n (λ z j. h z (inr j)) x i

pub resolved_agreement : (g : Facts) (clock : ℕ) (l : List ℕ) (t : Transaction) → (resolved g clock l t).agreement ≡ g.agreement
resolved_agreement g clock l t = go t.want
  where
    closed : (f : Facts) (b : Bool) → (closed_if f t.number b).agreement ≡ f.agreement
    closed f true = refl
    closed f false = refl

    go : (w : Want) → (resolved_by g clock l t w).agreement ≡ g.agreement
    go want.Get = refl
    go (want.Put bytes) = closed _ (is_nil (other_replicas g l))
    go want.Del = closed _ (is_nil (other_replicas g l))

requested_waits : (f : Facts) (clock : ℕ) (l digest : List ℕ) (w : Want) (o : Option Refusal) → Waits f → Waits (requested f clock l digest w o)
requested_waits f clock l digest w (Some cause) h = h
requested_waits f clock l digest w None h = go t.awaiting refl
  where
    t : Transaction
    t = opening_transaction f l (f.transactions.opened + 1) digest w

    g : Facts
    g = notes.transaction_opened f l (f.transactions.opened + 1) digest w

    go : (ns : List ℕ) → t.awaiting ≡ ns → Waits (asked_or_resolved g clock l t ns)
    go [] e = record { lacks = subst (λ (a : Agreement). LacksSome a.proposal) (sym (resolved_agreement g clock l t)) h.lacks; awaits = resolved_awaits g clock l t (opened_but f.transactions.running t h.awaits) }
    go (n ∷ ns) e = record { lacks = h.lacks; awaits = opened_some f.transactions.running t (ap is_nil e) h.awaits }

-- ---- entries and ticks

entered_awaits : (f : Facts) (k : ClusterKey) (ms : List Member) → AwaitSome (view_entered f k ms).transactions.running
entered_awaits f k ms = go (is_single ms)
  where
    go : (b : Bool) → AwaitSome (exchanged_if (notes.entered f k ms (notes.own_row f)) k b).transactions.running
    go true t i = absurd i
    go false t i = absurd i

-- the lines of settling leave the transactions
if_transactions : (f : Facts) (l : Line) (b : Bool) → (note None f l).transactions ≡ f.transactions → (noted None f (only_if l b)).transactions ≡ f.transactions
if_transactions f l true e = e
if_transactions f l false e = refl

at_transactions : (l : List ℕ) (p : ℕ) (f : Facts) → (noted None f (settling_at l p f)).transactions ≡ f.transactions
at_transactions l p f =
    let f1 : Facts = noted None f (hand f l p) in
    let f2 : Facts = noted None f1 (settle f1 l p) in
    let f3 : Facts = noted None f2 (learn f2 l p) in
    ap (λ (g : Facts). g.transactions)
    (noted-append None f (hand f l p) (settle f1 l p ++ (learn f2 l p ++ drop f3 l p))
    ∙ noted-append None f1 (settle f1 l p) (learn f2 l p ++ drop f3 l p)
    ∙ noted-append None f2 (learn f2 l p) (drop f3 l p))
    ∙ if_transactions f3 (line.Drop f3.me (view_key f3) p) _ refl
    ∙ if_transactions f2 (line.Learn f2.me (view_key f2) p) _ refl
    ∙ if_transactions f1 (line.Settled f1.me (view_key f1) p) _ refl
    ∙ if_transactions f (line.Handed f.me (view_key f) p) _ refl

from_transactions : (n p : ℕ) (f : Facts) → (noted None f (settling_from n p f)).transactions ≡ f.transactions
unfolding settling_from
from_transactions zero p f = refl
from_transactions (suc n) p f =
    let g : Facts = noted None f (settling_at (list_at f p) p f) in
    ap (λ (h : Facts). h.transactions) (noted-append None f (settling_at (list_at f p) p f) (settling_from n (p + 1) g)) ∙ from_transactions n (p + 1) g ∙ at_transactions (list_at f p) p f

settling_transactions : (n : ℕ) (f : Facts) → (noted None f (settling_due n f)).transactions ≡ f.transactions
settling_transactions n f = go f.exchange.exchanged
  where
    go : (b : Bool) → (noted None f (if b then settling_from n 0 f else [])).transactions ≡ f.transactions
    go true = from_transactions n 0 f
    go false = refl

proposed_awaits : (f : Facts) → AwaitSome f.transactions.running → AwaitSome (proposed_facts f).transactions.running
proposed_awaits f h = go (agreement.enters_alone g.me g.agreement (neighbours g) (is_candidate g)) refl
  where
    g : Facts
    g = after_ages f

    go : (b : Bool) → agreement.enters_alone g.me g.agreement (neighbours g) (is_candidate g) ≡ b → AwaitSome (noted None g (propose g).lines).transactions.running
    go true e = subst (λ (x : Facts). AwaitSome x.transactions.running) (sym (alone_is g e)) (entered_awaits (record g { agreement = agreement.promising g.agreement (agreement.next_key g.me g.agreement) }) (agreement.next_key g.me g.agreement) (neighbours g))
    go false e = subst (λ (x : Facts). AwaitSome x.transactions.running) (sym (among_others_is g e)) h

tick_waits : (f : Facts) → Waits f → Waits (after_tick f)
tick_waits f h = go f.up refl
  where
    go : (b : Bool) → f.up ≡ b → Waits (after_tick f)
    go false e = subst Waits (sym (down_is f e)) h
    go true e = record {
      lacks = subst (λ (a : Agreement). LacksSome a.proposal) (sym (tick_agrees f e)) (ticking_lacks f.me f.agreement (neighbours (after_ages f)) (is_candidate (after_ages f)) h.lacks);
      awaits = subst (λ (g : Facts). AwaitSome g.transactions.running) (sym (up_is f e))
          (subst (λ (ts : Transactions). AwaitSome ts.running) (sym (settling_transactions partition_count (proposed_facts f))) (proposed_awaits f h.awaits));
    }

-- ---- messages

view_waits : (f : Facts) (b : Bool) (g : Facts) → Waits f → Waits g → Waits (if b then g else f)
view_waits f true g h i = i
view_waits f false g h i = h

accept_waits : (f : Facts) (clock from : ℕ) (k : ClusterKey) → Waits f → Waits (after_message f clock from (message.Accept k))
accept_waits f clock from k h = record { lacks = subst (λ (a : Agreement). LacksSome a.proposal) (sym (accept_agrees f clock from k)) (counting_lacks f.agreement from k h.lacks); awaits = go f.agreement.proposal refl }
  where
    go : (o : Option Proposal) → f.agreement.proposal ≡ o → AwaitSome (after_message f clock from (message.Accept k)).transactions.running
    go None e = subst (λ (g : Facts). AwaitSome g.transactions.running) (sym (parts.accept_is f clock from k (ap (λ (o : Option Proposal). proposes o k && is_accepted_with o from) e))) h.awaits
    go (Some p) e = last (proposes (Some p) k && is_accepted_with (Some p) from) refl
      where
        last : (b : Bool) → (proposes (Some p) k && is_accepted_with (Some p) from) ≡ b → AwaitSome (after_message f clock from (message.Accept k)).transactions.running
        last true i = subst (λ (g : Facts). AwaitSome g.transactions.running) (sym (parts.last_accept_is f clock from k p e i)) (entered_awaits f p.key p.members)
        last false i = subst (λ (g : Facts). AwaitSome g.transactions.running) (sym (parts.accept_is f clock from k (ap (λ (o : Option Proposal). proposes o k && is_accepted_with o from) e ∙ i))) h.awaits

commit_awaits : (f : Facts) (k : ClusterKey) (ms : List Member) (b : Bool) → AwaitSome f.transactions.running → AwaitSome (if b then view_entered f k ms else f).transactions.running
commit_awaits f k ms true h = entered_awaits f k ms
commit_awaits f k ms false h = h

exchanged_waits : (f : Facts) (k : ClusterKey) (b : Bool) → Waits f → Waits (exchanged_if f k b)
exchanged_waits f k true h = record { lacks = h.lacks; awaits = h.awaits }
exchanged_waits f k false h = h

merged_waits : (g : Facts) (k : ClusterKey) (d : List ℕ) (v : Version) (b : Bool) → Waits g → Waits (merged_if g k d v b)
merged_waits g k d v true h = record { lacks = h.lacks; awaits = h.awaits }
merged_waits g k d v false h = h

counted_waits : (f : Facts) (k : ClusterKey) (l : List ℕ) (p nth : ℕ) (b : Bool) → Waits f → Waits (notes.write_counted_if f k l p nth b)
counted_waits f k l p nth true h = record { lacks = h.lacks; awaits = h.awaits }
counted_waits f k l p nth false h = h

-- a write of the list master counts
abbrev pub counted : Facts → ClusterKey → ℕ → ℕ → List ℕ → Facts
counted f k nth from d = notes.write_counted_if f k (list_at f (partition_of d)) (partition_of d) nth (from == list_master (list_at f (partition_of d)))

pub answer_agreement : (f : Facts) (clock from t : ℕ) (v : Option Version) (o : Option Transaction) → (resolved_with (notes.answer_came f from t v true) clock from v o).agreement ≡ f.agreement
answer_agreement f clock from t v None = refl
answer_agreement f clock from t v (Some x) = go (awaits_answer x from && is_last_awaited x from)
  where
    g : Facts
    g = notes.answer_came f from t v true

    go : (b : Bool) → (if b then resolved g clock (list_at g (partition_of x.digest)) (answered g.store.by from v x) else g).agreement ≡ f.agreement
    go true = resolved_agreement g clock (list_at g (partition_of x.digest)) (answered g.store.by from v x)
    go false = refl

message_waits : (f : Facts) (clock from : ℕ) (m : Message) → Found f.transactions → Waits f → Waits (after_message f clock from m)
message_waits f clock from (message.Heartbeat view promised hears role) found h = record { lacks = h.lacks; awaits = h.awaits }
message_waits f clock from (message.Propose k ms) found h = subst Waits (sym (parts.propose_is f clock from k ms)) (record { lacks = voting_lacks f.agreement k h.lacks; awaits = h.awaits })
message_waits f clock from (message.Accept k) found h = accept_waits f clock from k h
message_waits f clock from (message.Refuse k promised) found h = subst Waits (sym (parts.refuse_is f clock from k promised)) (record { lacks = refusing_lacks f.agreement k promised h.lacks; awaits = h.awaits })
message_waits f clock from (message.Commit k ms) found h = record {
  lacks = subst (λ (a : Agreement). LacksSome a.proposal) (sym (commit_agrees f clock from k ms)) (committing_lacks f.me f.agreement k ms h.lacks);
  awaits = subst (λ (g : Facts). AwaitSome g.transactions.running) (sym (parts.commit_is f clock from k ms)) (commit_awaits f k ms (due.may_enter_view f k ms) h.awaits);
}
message_waits f clock from (message.State k wants row) found h =
    subst Waits (sym (parts.state_is f clock from k wants row)) (view_waits f (in_view f k) (exchanged_if (notes.row_came f from row true) (view_key f) (due.finishes f (notes.row_came f from row true))) h
    (exchanged_waits (notes.row_came f from row true) (view_key f) (due.finishes f (notes.row_came f from row true)) (record { lacks = h.lacks; awaits = h.awaits })))
message_waits f clock from (message.Batch b) found h = subst Waits (sym (parts.batch_is f clock from b)) (view_waits f (in_view f b.key) _ h (record { lacks = h.lacks; awaits = h.awaits }))
message_waits f clock from (message.BatchAck k number) found h =
    subst Waits (sym (parts.batch_ack_is f clock from k number)) (view_waits f (in_view f k) _ h (record { lacks = h.lacks; awaits = h.awaits }))
message_waits f clock from (message.Progress k wants done handed settled) found h =
    subst Waits (sym (parts.progress_is f clock from k wants done handed settled)) (view_waits f (in_view f k) _ h (record { lacks = h.lacks; awaits = h.awaits }))
message_waits f clock from (message.Repl k t nth d v) found h =
    subst Waits (sym (parts.repl_is f clock from k t nth d v)) (view_waits f (in_view f k) (merged_if (counted f k nth from d) (view_key f) d v (is_newer f.store.by v (finite.get f.store.content d))) h
    (merged_waits (counted f k nth from d) (view_key f) d v (is_newer f.store.by v (finite.get f.store.content d)) (counted_waits f k (list_at f (partition_of d)) (partition_of d) nth (from == list_master (list_at f (partition_of d))) h)))
message_waits f clock from (message.ReplAck k t) found h =
    subst Waits (sym (parts.repl_ack_is f clock from k t))
    (view_waits f (in_view f k) _ h (record { lacks = h.lacks; awaits = ack_awaits f.transactions from t found h.awaits (ends_by_ack (transaction f.transactions t) from) refl }))
message_waits f clock from (message.Ask k t d) found h = subst Waits (sym (parts.ask_is f clock from k t d)) h
message_waits f clock from (message.Answer k t v) found h =
    subst Waits (sym (parts.answer_is f clock from k t v))
    (view_waits f (in_view f k) _ h (record { lacks = subst (λ (a : Agreement). LacksSome a.proposal) (sym (answer_agreement f clock from t v (transaction f.transactions t))) h.lacks; awaits = answer_awaits f clock from t v found h.awaits }))
message_waits f clock from message.MapAsk found h = subst Waits (sym (parts.map_ask_is f clock from)) h
message_waits f clock from m found h = record { lacks = h.lacks; awaits = h.awaits }

-- ---- steps

stopped_waits : (f : Facts) (b : Bool) → f.up ≡ b → Waits f → Waits (if b then notes.stopped f else f)
stopped_waits f true e h = record { lacks = tt; awaits = λ t i. absurd i }
stopped_waits f false e h = h

started_waits : (f : Facts) (b : Bool) → Waits f → Waits (if b then f else notes.started f)
started_waits f true h = h
started_waits f false h = record { lacks = h.lacks; awaits = h.awaits }

-- each step keeps it
pub became_waits : (w : World) (e : Event) (m : ℕ) (g : Facts) → Became w e m g → Found (w.facts m).transactions → Waits (w.facts m) → Waits g
became_waits w ev m g (stayed e) found h = subst Waits (sym e) h
became_waits w ev m g (ticked at e) found h = subst Waits (sym e) (tick_waits (w.facts m) h)
became_waits w ev m g (heard i p x stands read to e) found h = subst Waits (sym e) (message_waits (w.facts m) (w.clocks m) p.from x found h)
became_waits w ev m g (asked d q e) found h =
    subst Waits (sym (e ∙ parts.request_is (w.facts m) (w.clocks m) d q)) (requested_waits (w.facts m) (w.clocks m) _ d q (request_refusal (w.facts m) (list_at (w.facts m) (partition_of d)) d) h)
became_waits w ev m g (stopped e) found h = subst Waits (sym (e ∙ parts.stop_is (w.facts m))) (stopped_waits (w.facts m) (w.facts m).up refl h)
became_waits w ev m g (started e) found h = subst Waits (sym (e ∙ parts.start_is (w.facts m))) (started_waits (w.facts m) (w.facts m).up h)
became_waits w ev m g (quiesced b e) found h = subst Waits (sym e) (record { lacks = h.lacks; awaits = h.awaits })
