-- The invariant is kept by what a node's tick, stop, promise and entry do, and by what reaches it.
use Rattle.std.proofs.Common.{◌≡◌, ℕ, ◌==◌, Bool, true, false, List, [], ◌∷◌, Option, Some, None, refl, sym, ap, subst, ◌∙◌, arith, inr, ⊎_elim, ◌&&◌}
use Rattle.std.specs.Prelude.{IsTrue, if◌then◌else◌, ◌++◌}
use Rattle.cluster_types.specs.declared.cluster_key.ClusterKey.{ClusterKey}
use Rattle.cluster_types.specs.declared.member.Member.{Member}
use Rattle.cluster_types.specs.ClusterKeys.{IsBelow}
use Rattle.wire_messages.specs.declared.message.Message.{Message}
use Rattle.wire_messages.specs.declared.message.Message.TheVariants as message
use Rattle.wire_messages.specs.Keys.{IsKeyField}
use Rattle.wire_messages.specs.Nodes.{IsId}
use Rattle.journal_lines.specs.declared.line.Line.TheVariants as line
use Rattle.node_rules.specs.Agreement as agreement
use Rattle.node_rules.specs.Agreement.{Agreement, Proposal, proposes, accepted_by, without_missing, proposes_set}
use Rattle.node_rules.specs.Batches as batches
use Rattle.node_rules.specs.Batches.{Target, Targets, acked_out, without_batch}
use Rattle.node_rules.specs.Tables.{changed_if}
use Rattle.wire_messages.specs.declared.message.Batch.{Batch}
use Rattle.node_rules.specs.Copies.{Row}
use Rattle.node_rules.specs.declared.member_row.MemberRow.{MemberRow}
use Rattle.node_rules.specs.Exchange.{is_member}
use Rattle.node_rules.specs.Facts.{Facts}
use Rattle.node_rules.specs.Keys.{same_key}
use Rattle.node_rules.specs.Notes.{neighbours, after_ages, stopped, entered, own_row, reached, in_view, row_came, batch_acked, progress_came, write_came, write_counted_if, write_acked, answer_came}
use Rattle.node_rules.specs.Facts.{list_at}
use Rattle.node_rules.specs.Map.{list_master, lacks}
use Rattle.cluster_types.specs.Partitions.{partition_count}
use Rattle.journal_readings.specs.Lines.{is_enter}
use Rattle.key_laws.specs.Order.{KeyAtMost}
use Rattle.key_laws.specs.Traced.{Traced, facts_of, entered_after, with_list}
use Rattle.key_laws.specs.Licences.{IsPromisedKey, RowOf, Says, WasPosted, MayPromise, MayEnterKey}
use Rattle.key_laws.proofs.Order.{at_most_refl, at_most_eq, below_at_most, at_most_below, not_below, same_is, same_self}
use Rattle.key_laws.specs.Sound.{GoodList, ProposalStands, Agrees, ViewStands, OutKnown, Outs, RowsKnown, NodeKeys, Listed, Sound, Grows}
use Rattle.key_laws.proofs.Growth.{same_grows, known_grows, row_grows, says_grows, node_grows, listed_grows, shown_grow}
use Rattle.key_laws.proofs.Frames.{at_here, at_each, moved, moved_grows, kept_moved, SameKeys, same_keys, never, num_eq}
use Rattle.key_laws.proofs.StampLaws.{stamps_changed, recounted_known, row_known}
use Rattle.key_laws.proofs.Neighbours.{by_test, neighbours_good, aged_hears, beat_hears}
pub use Rattle.std.proofs.lemmas.Bool.{or_right as or_later}
use Rattle.std.proofs.lemmas.Bool.{or_left as or_now}

-- ---- proposals

stands_if : (t : Traced) (n : ℕ) (promised last : ClusterKey) (b : Bool) (p : Option Proposal) → ProposalStands t n promised last p → ProposalStands t n promised last (if b then p else None)
stands_if t n promised last true p h = h
stands_if t n promised last false p h = tt

-- the proposal that stays under a new promise is of that promise
stands_promised : (t : Traced) (n : ℕ) (promised last k : ClusterKey) (p : Option Proposal) → ProposalStands t n promised last p → ProposalStands t n k last (if proposes p k then p else None)
stands_promised t n promised last k None h = tt
stands_promised t n promised last k (Some p) h = go (same_key p.key k) refl
  where
    go : (b : Bool) → same_key p.key k ≡ b → ProposalStands t n k last (if b then Some p else None)
    go true e = record { key = same_is p.key k e; above = h.above; own = h.own; list = h.list }
    go false e = tt

stands_accepted : (t : Traced) (n : ℕ) (promised last : ClusterKey) (from : ℕ) (p : Option Proposal) → ProposalStands t n promised last p → ProposalStands t n promised last (accepted_by p from)
stands_accepted t n promised last from None h = tt
stands_accepted t n promised last from (Some p) h = record { key = h.key; above = h.above; own = h.own; list = h.list }

agrees_with : (t : Traced) (n : ℕ) (a : Agreement) (p : Option Proposal) → Agrees t n a → ProposalStands t n a.promised a.last p → Agrees t n (record a { proposal = p })
agrees_with t n a p h s = record { ordered = h.ordered; promised = h.promised; last = h.last; proposal = s }

agrees_seeing : (t : Traced) (n : ℕ) (a : Agreement) (k : ClusterKey) → Agrees t n a → Agrees t n (agreement.seeing a k)
agrees_seeing t n a k h = record { ordered = h.ordered; promised = h.promised; last = h.last; proposal = h.proposal }

agrees_accepting : (t : Traced) (n : ℕ) (a : Agreement) (from : ℕ) (b : Bool) → Agrees t n a → Agrees t n (if b then record a { proposal = accepted_by a.proposal from } else a)
agrees_accepting t n a from true h = agrees_with t n a (accepted_by a.proposal from) h (stands_accepted t n a.promised a.last from a.proposal h.proposal)
agrees_accepting t n a from false h = h

agrees_refused : (t : Traced) (n : ℕ) (a : Agreement) (b : Bool) → Agrees t n a → Agrees t n (if b then record a { proposal = None } else a)
agrees_refused t n a true h = agrees_with t n a None h tt
agrees_refused t n a false h = h

pub accepting_keeps : (a : Agreement) (from : ℕ) (b : Bool) → (a.promised ≡ (if b then record a { proposal = accepted_by a.proposal from } else a).promised) × (a.last ≡ (if b then record a { proposal = accepted_by a.proposal from } else a).last)
accepting_keeps a from true = (refl, refl)
accepting_keeps a from false = (refl, refl)

refused_keeps : (a : Agreement) (b : Bool) → (a.promised ≡ (if b then record a { proposal = None } else a).promised) × (a.last ≡ (if b then record a { proposal = None } else a).last)
refused_keeps a true = (refl, refl)
refused_keeps a false = (refl, refl)

-- ---- what reaches a node

pub record Reaches (t : Traced) (n : ℕ) (f g : Facts) : Type 0 where
  pub promised : f.agreement.promised ≡ g.agreement.promised
  pub last : f.agreement.last ≡ g.agreement.last
  pub keys : NodeKeys t n g

same_reaches : (t : Traced) (n : ℕ) (f g : Facts) → SameKeys t f g → NodeKeys t n f → Reaches t n f g
same_reaches t n f g s h = record { promised = ap (λ (a : Agreement). a.promised) s.agreement; last = ap (λ (a : Agreement). a.last) s.agreement; keys = same_keys t t (same_grows t) n f g s h }

out_acked : (t : Traced) (x : Target) (number : ℕ) (out : Option Batch) → OutKnown t x.out → OutKnown t (acked_out x number out).out
out_acked t x number None h = h
out_acked t x number (Some b) h = by_test (λ (y : Target). OutKnown t y.out) (b.number == number) (without_batch x b) x tt h

outs_acked : (t : Traced) (from number : ℕ) (xs : Targets) → Outs t xs → Outs t (batches.acking xs from number)
outs_acked t from number [] h = tt
outs_acked t from number (x ∷ xs) h = (go (x.node == from), outs_acked t from number xs h.1)
  where
    go : (b : Bool) → OutKnown t (changed_if (λ y. acked_out y number y.out) x b).out
    go true = out_acked t x number x.out h.0
    go false = h.0

rows_with : (t : Traced) (rs : List MemberRow) (n : ℕ) (row : Row) (b : Bool) → RowOf (λ k. IsPromisedKey t k) row → RowsKnown t rs → RowsKnown t (if b then rs ++ record { node = n; row = row } ∷ [] else rs)
rows_with t [] n row true k h = (k, tt)
rows_with t (r ∷ rs) n row true k h = (h.0, rows_with t rs n row true k h.1)
rows_with t rs n row false k h = h

pub row_same : (t : Traced) (f : Facts) (from : ℕ) (row : Row) (b : Bool) → RowOf (λ k. IsPromisedKey t k) row → SameKeys t f (row_came f from row b)
row_same t f from row true k = record { me = refl; agreement = refl; view = refl; heard = refl; exchanged = refl; outs = λ u g h. h; rows = λ u g h. rows_with u f.exchange.rows from row (lacks f.exchange.rows from) (row_grows t u g row k) h; stamps = λ u g h. h }
row_same t f from row false k = record { me = refl; agreement = refl; view = refl; heard = refl; exchanged = refl; outs = λ u g h. h; rows = λ u g h. h; stamps = λ u g h. h }

batch_ack_same : (t : Traced) (f : Facts) (from number : ℕ) (b : Bool) → SameKeys t f (batch_acked f from number b)
batch_ack_same t f from number true = record { me = refl; agreement = refl; view = refl; heard = refl; exchanged = refl; outs = λ u g h. outs_acked u from number f.batches h; rows = λ u g h. h; stamps = λ u g h. h }
batch_ack_same t f from number false = record { me = refl; agreement = refl; view = refl; heard = refl; exchanged = refl; outs = λ u g h. h; rows = λ u g h. h; stamps = λ u g h. h }

progress_same : (t : Traced) (f : Facts) (from : ℕ) (done handed settled : List Bool) (b : Bool) → SameKeys t f (progress_came f from done handed settled b)
progress_same t f from done handed settled true = record { me = refl; agreement = refl; view = refl; heard = refl; exchanged = refl; outs = λ u g h. h; rows = λ u g h. h; stamps = λ u g h. h }
progress_same t f from done handed settled false = record { me = refl; agreement = refl; view = refl; heard = refl; exchanged = refl; outs = λ u g h. h; rows = λ u g h. h; stamps = λ u g h. h }

counted_same : (t : Traced) (f : Facts) (key : ClusterKey) (l : List ℕ) (p nth : ℕ) (b : Bool) → IsPromisedKey t key → SameKeys t f (write_counted_if f key l p nth b)
counted_same t f key l p nth true k = record { me = refl; agreement = refl; view = refl; heard = refl; exchanged = refl; outs = λ u g h. h; rows = λ u g h. h; stamps = λ u g h. stamps_changed u f.store p _ (λ x i. recounted_known u key _ x (known_grows t u g key k) i) h }
counted_same t f key l p nth false k = record { me = refl; agreement = refl; view = refl; heard = refl; exchanged = refl; outs = λ u g h. h; rows = λ u g h. h; stamps = λ u g h. h }

write_same : (t : Traced) (f : Facts) (from : ℕ) (key : ClusterKey) (nth p : ℕ) (b : Bool) → IsPromisedKey t key → SameKeys t f (write_came f from key nth p b)
write_same t f from key nth p true k = counted_same t f key (list_at f p) p nth (from == list_master (list_at f p)) k
write_same t f from key nth p false k = record { me = refl; agreement = refl; view = refl; heard = refl; exchanged = refl; outs = λ u g h. h; rows = λ u g h. h; stamps = λ u g h. h }

write_ack_same : (t : Traced) (f : Facts) (from number : ℕ) (b : Bool) → SameKeys t f (write_acked f from number b)
write_ack_same t f from number true = record { me = refl; agreement = refl; view = refl; heard = refl; exchanged = refl; outs = λ u g h. h; rows = λ u g h. h; stamps = λ u g h. h }
write_ack_same t f from number false = record { me = refl; agreement = refl; view = refl; heard = refl; exchanged = refl; outs = λ u g h. h; rows = λ u g h. h; stamps = λ u g h. h }

answer_same : (t : Traced) (f : Facts) (from number : ℕ) (v : Option _) (b : Bool) → SameKeys t f (answer_came f from number v b)
answer_same t f from number v true = record { me = refl; agreement = refl; view = refl; heard = refl; exchanged = refl; outs = λ u g h. h; rows = λ u g h. h; stamps = λ u g h. h }
answer_same t f from number v false = record { me = refl; agreement = refl; view = refl; heard = refl; exchanged = refl; outs = λ u g h. h; rows = λ u g h. h; stamps = λ u g h. h }

pub reaches : (t : Traced) (n : ℕ) (f : Facts) (from : ℕ) (m : Message) → Says t from m → NodeKeys t n f → Reaches t n f (reached f from m)
reaches t n f from (message.Heartbeat view promised hears role) s h = record {
  promised = refl;
  last = refl;
  keys = record {
    me = h.me;
    agrees = agrees_seeing t n f.agreement promised h.agrees;
    view = h.view;
    hears = beat_hears t f.hearing.heard from _ (record { sender = s.0; view = s.1; promised = s.2 }) h.hears;
    outs = h.outs;
    rows = h.rows;
    stamps = h.stamps;
    finished = h.finished;
  };
}
reaches t n f from (message.Accept k) s h =
    let keeps : (f.agreement.promised ≡ (agreement.accepting f.agreement from k).promised) × (f.agreement.last ≡ (agreement.accepting f.agreement from k).last) = accepting_keeps f.agreement from (proposes f.agreement.proposal k) in
    record {
      promised = keeps.0;
      last = keeps.1;
      keys = record {
        me = h.me;
        agrees = agrees_accepting t n f.agreement from (proposes f.agreement.proposal k) h.agrees;
        view = subst (λ last. ViewStands t n last f.exchange.view) keeps.1 h.view;
        hears = h.hears;
        outs = h.outs;
        rows = h.rows;
        stamps = h.stamps;
        finished = h.finished;
      };
    }
reaches t n f from (message.Refuse k promised) s h =
    let keeps : (f.agreement.promised ≡ (agreement.refused f.agreement k).promised) × (f.agreement.last ≡ (agreement.refused f.agreement k).last) = refused_keeps f.agreement (proposes f.agreement.proposal k) in
    record {
      promised = keeps.0;
      last = keeps.1;
      keys = record {
        me = h.me;
        agrees = agrees_seeing t n (agreement.refused f.agreement k) promised (agrees_refused t n f.agreement (proposes f.agreement.proposal k) h.agrees);
        view = subst (λ last. ViewStands t n last f.exchange.view) keeps.1 h.view;
        hears = h.hears;
        outs = h.outs;
        rows = h.rows;
        stamps = h.stamps;
        finished = h.finished;
      };
    }
reaches t n f from (message.State k wants row) s h = same_reaches t n f _ (row_same t f from row (in_view f k) s.1) h
reaches t n f from (message.BatchAck k number) s h = same_reaches t n f _ (batch_ack_same t f from number (in_view f k)) h
reaches t n f from (message.Progress k wants done handed settled) s h = same_reaches t n f _ (progress_same t f from done handed settled (in_view f k)) h
reaches t n f from (message.Repl k number nth d v) s h = same_reaches t n f _ (write_same t f from k nth _ (in_view f k) s) h
reaches t n f from (message.ReplAck k number) s h = same_reaches t n f _ (write_ack_same t f from number (in_view f k)) h
reaches t n f from (message.Answer k number v) s h = same_reaches t n f _ (answer_same t f from number v (in_view f k)) h
reaches t n f from _ s h = record { promised = refl; last = refl; keys = h }

pub kept_reached : (t : Traced) (n from : ℕ) (m : Message) → Says t from m → Sound t → Sound (moved t n (reached (facts_of t n) from m))
kept_reached t n from m s h =
    let new : Facts = reached (facts_of t n) from m in
    let le : KeyAtMost (facts_of t n).agreement.promised new.agreement.promised = at_most_eq (reaches t n (facts_of t n) from m s (h.nodes n)).promised in
    let u : Traced = moved t n new in
    kept_moved t n new le h (reaches u n (facts_of t n) from m (says_grows t u (moved_grows t n new le) from m s) (node_grows t u (moved_grows t n new le) n (facts_of t n) (h.nodes n))).keys

pub reached_grows : (t : Traced) (n from : ℕ) (m : Message) → Says t from m → Sound t → Grows t (moved t n (reached (facts_of t n) from m))
reached_grows t n from m s h = moved_grows t n _ (at_most_eq (reaches t n (facts_of t n) from m s (h.nodes n)).promised)

-- ---- a tick

pub kept_tick : (t : Traced) (n : ℕ) → Sound t → Sound (moved t n (after_ages (facts_of t n)))
kept_tick t n h =
    let f : Facts = facts_of t n in
    let new : Facts = after_ages f in
    let u : Traced = moved t n new in
    let old : NodeKeys u n f = node_grows t u (moved_grows t n new (at_most_refl _)) n f (h.nodes n) in
    kept_moved t n new (at_most_refl _) h (record {
      me = old.me;
      agrees = agrees_with u n f.agreement _ old.agrees (stands_if u n _ _ _ f.agreement.proposal old.agrees.proposal);
      view = old.view;
      hears = aged_hears u f.hearing.heard old.hears;
      outs = old.outs;
      rows = old.rows;
      stamps = old.stamps;
      finished = old.finished;
    })

-- ---- a stop

pub kept_stop : (t : Traced) (n : ℕ) → Sound t → Sound (moved t n (stopped (facts_of t n)))
kept_stop t n h =
    let f : Facts = facts_of t n in
    let new : Facts = stopped f in
    let u : Traced = moved t n new in
    let old : NodeKeys u n f = node_grows t u (moved_grows t n new (at_most_refl _)) n f (h.nodes n) in
    kept_moved t n new (at_most_refl _) h (record {
      me = old.me;
      agrees = record { ordered = old.agrees.ordered; promised = old.agrees.promised; last = old.agrees.last; proposal = tt };
      view = tt;
      hears = record { rises = tt; each = tt };
      outs = tt;
      rows = tt;
      stamps = old.stamps;
      finished = λ e. absurd (never e refl);
    })

-- ---- an entry

pub record Lawful (t : Traced) (n : ℕ) (k : ClusterKey) (ms : List Member) : Type 0 where
  pub promised : k ≡ (facts_of t n).agreement.promised
  pub above : IsBelow (facts_of t n).agreement.last k
  pub list : t.lists k ≡ Some ms
  pub among : IsTrue (is_member ms n)

-- what stands behind an entry
pub entered_as : (t : Traced) (n : ℕ) (k : ClusterKey) (ms : List Member) → Sound t → MayEnterKey t n k ms → Lawful t n k ms
entered_as t n k ms h ok = record {
  promised = ok.promised;
  above = ok.above;
  list = ⊎_elim (λ own. own) (λ w. h.sent w.number w.posting (message.Commit k ms) w.stands w.read) ok.source;
  among = ok.among;
}

-- the world after an entry
abbrev pub entered_in : Traced → ℕ → ClusterKey → List Member → Traced
entered_in t n k ms = record {
  world = (moved t n (entered (facts_of t n) k ms (own_row (facts_of t n)))).world;
  lists = t.lists;
  entered = entered_after t (line.Enter n k ms);
}

pub enter_grows : (t : Traced) (n : ℕ) (k : ClusterKey) (ms : List Member) → Grows t (entered_in t n k ms)
enter_grows t n k ms = record {
  promised = (moved_grows t n (entered (facts_of t n) k ms (own_row (facts_of t n))) (at_most_refl _)).promised;
  lists = λ q xs e. e;
  sent = λ i p e. e;
  entered = λ m q e. or_later (is_enter q m (line.Enter n k ms)) (t.entered m q) e;
}

pub just_entered : (t : Traced) (n : ℕ) (k : ClusterKey) (ms : List Member) → (entered_in t n k ms).entered n k ≡ true
just_entered t n k ms = or_now (is_enter k n (line.Enter n k ms)) (t.entered n k) (ap (λ b. b && same_key k k) (num_eq n n refl) ∙ same_self k)

pub kept_enter : (t : Traced) (n : ℕ) (k : ClusterKey) (ms : List Member) → Sound t → Lawful t n k ms → Sound (entered_in t n k ms)
kept_enter t n k ms h ok =
    let f : Facts = facts_of t n in
    let u : Traced = entered_in t n k ms in
    let g : Grows t u = enter_grows t n k ms in
    let old : NodeKeys u n f = node_grows t u g n f (h.nodes n) in
    let known : IsPromisedKey u k = subst (λ x. IsPromisedKey u x)
    (sym ok.promised) old.agrees.promised in
    record {
      nodes = at_each (λ m f. NodeKeys u m f) t.world.facts n _ (λ m. node_grows t u g m (facts_of t m) (h.nodes m)) (record {
        me = old.me;
        agrees = record { ordered = at_most_eq ok.promised; promised = old.agrees.promised; last = known; proposal = tt };
        view = record { key = refl; list = ok.list; entered = just_entered t n k ms; among = ok.among };
        hears = old.hears;
        outs = tt;
        rows = (row_known u f.store partition_count 0 old.stamps, tt);
        stamps = old.stamps;
        finished = λ e. absurd (never e refl);
      });
      lists = λ q xs e. listed_grows t u g q xs (h.lists q xs e);
      sent = λ i p m s e. says_grows t u g p.from m (h.sent i p m s e);
      tables = shown_grow t u g t.world.tables h.tables;
    }

-- ---- a promise

-- the world after a promise, where the test says whether it is of a key of the node's own
abbrev pub promised_in : Traced → ℕ → ClusterKey → Bool → Traced
promised_in t n k own = record {
  world = (moved t n (record (facts_of t n) { agreement = agreement.promising (facts_of t n).agreement k })).world;
  lists = (if own then with_list t.lists k (neighbours (facts_of t n)) else t.lists);
  entered = t.entered;
}

-- what the key is known to be, by the test
pub record Own (n : ℕ) (k : ClusterKey) : Type 0 where
  pub led : k.principal ≡ n
  pub field : IsKeyField k

-- a key of the node's own above its promise was promised by nobody
unlisted : (t : Traced) (n : ℕ) (k : ClusterKey) (ms : List Member) → Sound t → IsBelow (facts_of t n).agreement.promised k → k.principal ≡ n → t.lists k ≡ Some ms → ⊥
unlisted t n k ms h above own e = not_below above (subst (λ (x : ℕ). KeyAtMost k (facts_of t x).agreement.promised) own (h.lists k ms e).known.bound)

other_stays : (t : Traced) (n : ℕ) (k q : ClusterKey) (new ms : List Member) → Sound t → IsBelow (facts_of t n).agreement.promised k → k.principal ≡ n → t.lists q ≡ Some ms → (b : Bool) → same_key k q ≡ b → (if b then Some new else t.lists q) ≡ Some ms
other_stays t n k q new ms h above own e true s = absurd (unlisted t n k ms h above own (ap t.lists (same_is k q s) ∙ e))
other_stays t n k q new ms h above own e false s = e

pub promise_grows : (t : Traced) (n : ℕ) (k : ClusterKey) (b : Bool) → Sound t → IsBelow (facts_of t n).agreement.promised k → (b ≡ true → k.principal ≡ n) → Grows t (promised_in t n k b)
promise_grows t n k true h above own = record {
  promised = (moved_grows t n _ (below_at_most above)).promised;
  lists = λ q ms e. other_stays t n k q _ ms h above (own refl) e (same_key k q) refl;
  sent = λ i p e. e;
  entered = λ m q e. e;
}
promise_grows t n k false h above own = moved_grows t n _ (below_at_most above)

-- what a node keeps over a promise, where the key is known after it
promised_keys : (t : Traced) (n : ℕ) (f : Facts) (k : ClusterKey) → NodeKeys t n f → IsBelow f.agreement.promised k → IsPromisedKey t k → NodeKeys t n (record f { agreement = agreement.promising f.agreement k })
promised_keys t n f k h above known = record {
  me = h.me;
  agrees = record {
    ordered = below_at_most (at_most_below h.agrees.ordered above);
    promised = known;
    last = h.agrees.last;
    proposal = stands_promised t n f.agreement.promised f.agreement.last k f.agreement.proposal h.agrees.proposal;
  };
  view = h.view;
  hears = h.hears;
  outs = h.outs;
  rows = h.rows;
  stamps = h.stamps;
  finished = h.finished;
}

own_known : (t : Traced) (n : ℕ) (k : ClusterKey) (b : Bool) → Own n k → IsPromisedKey (promised_in t n k b) k
own_known t n k b own = record {
  bound = at_here t.world.facts n k.principal _ (sym own.led) (λ f. KeyAtMost k f.agreement.promised) (at_most_refl k);
  field = inr own.field;
}

listed_after : (t u : Traced) (n : ℕ) (k q : ClusterKey) (ms : List Member) → Sound t → Grows t u → Listed u k (neighbours (facts_of t n)) → (b : Bool) → same_key k q ≡ b → (if b then Some (neighbours (facts_of t n)) else t.lists q) ≡ Some ms → Listed u q ms
listed_after t u n k q ms h g here true s e = subst (λ x. Listed u x ms) (same_is k q s) (subst (λ xs. Listed u k xs) (same_list _ _ e) here)
  where
    same_list : (a b : List Member) → Some a ≡ Some b → a ≡ b
    same_list a b e = grind arith
listed_after t u n k q ms h g here false s e = listed_grows t u g q ms (h.lists q ms e)

own_good : (t : Traced) (n : ℕ) (k : ClusterKey) → Sound t → Own n k → GoodList k.principal (neighbours (facts_of t n))
own_good t n k h own =
    let f : Facts = facts_of t n in
    subst (λ (x : ℕ). GoodList x (neighbours f)) (sym own.led)
    (subst (λ (x : ℕ). GoodList n (neighbours (record f { me = x }))) (sym (h.nodes n).me)
    (neighbours_good t n f.role f.hearing.heard (subst (λ (x : ℕ). IsId x) own.led (record { positive = own.field.view.led; fits = own.field.fits })) (h.nodes n).hears))

pub kept_own_promise : (t : Traced) (n : ℕ) (k : ClusterKey) → Sound t → IsBelow (facts_of t n).agreement.promised k → Own n k → Sound (promised_in t n k true)
kept_own_promise t n k h above own =
    let f : Facts = facts_of t n in
    let u : Traced = promised_in t n k true in
    let g : Grows t u = promise_grows t n k true h above (λ e. own.led) in
    let known : IsPromisedKey u k = own_known t n k true own in
    record {
      nodes = at_each (λ m f. NodeKeys u m f) t.world.facts n _ (λ m. node_grows t u g m (facts_of t m) (h.nodes m)) (promised_keys u n f k (node_grows t u g n f (h.nodes n)) above known);
      lists = λ q ms e. listed_after t u n k q ms h g (record { known = known; key = own.field; good = own_good t n k h own }) (same_key k q) refl e;
      sent = λ i p m s e. says_grows t u g p.from m (h.sent i p m s e);
      tables = shown_grow t u g t.world.tables h.tables;
    }

pub kept_other_promise : (t : Traced) (n : ℕ) (k : ClusterKey) → Sound t → IsBelow (facts_of t n).agreement.promised k → IsPromisedKey t k → Sound (promised_in t n k false)
kept_other_promise t n k h above known =
    let f : Facts = facts_of t n in
    let new : Facts = record f { agreement = agreement.promising f.agreement k } in
    let u : Traced = moved t n new in
    let g : Grows t u = moved_grows t n new (below_at_most above) in
    kept_moved t n new (below_at_most above) h (promised_keys u n f k (node_grows t u g n f (h.nodes n)) above (known_grows t u g k known))

-- who stands behind a promise
proposed_listed : (t : Traced) (n : ℕ) (k : ClusterKey) (ms : List Member) → Sound t → WasPosted t (message.Propose k ms) → Listed t k ms
proposed_listed t n k ms h w = h.lists k ms (h.sent w.number w.posting (message.Propose k ms) w.stands w.read).1

pub promise_own : (t : Traced) (n : ℕ) (k : ClusterKey) → Sound t → MayPromise t n k → k.principal ≡ n → Own n k
promise_own t n k h ok own = ⊎_elim (λ c. record { led = own; field = c.1 }) (λ c. record { led = own; field = (proposed_listed t n k c.0 h c.1).key }) ok.source

pub promise_known : (t : Traced) (n : ℕ) (k : ClusterKey) → Sound t → MayPromise t n k → (k.principal ≡ n → ⊥) → IsPromisedKey t k
promise_known t n k h ok other = ⊎_elim (λ c. absurd (other c.0)) (λ c. (proposed_listed t n k c.0 h c.1).known) ok.source
