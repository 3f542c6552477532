-- Once nothing is pending, whatever tells of progress tells that each partition is done.
use Rattle.std.proofs.Common.{◌≡◌, ℕ, zero, suc, ◌+◌, ◌==◌, ◌||◌, ◌&&◌, not, Bool, true, false, if◌then◌else◌, List, [], ◌∷◌, ◌++◌, map, Option, Some, None, refl, sym, ap, subst, ◌∙◌, ◌⊎◌, inl, inr, arith}
use Rattle.std.specs.Prelude.{filter, filter_map, flat_map}
use Rattle.std.specs.List.{cons_option, list_any}
use Rattle.cluster_types.specs.declared.cluster_key.ClusterKey.{ClusterKey}
use Rattle.cluster_types.specs.declared.member.Member.{Member}
use Rattle.cluster_types.specs.Partitions.{partition_count}
use Rattle.wire_messages.specs.declared.message.Batch.{Batch}
use Rattle.wire_messages.specs.declared.message.Message.{Message}
use Rattle.wire_messages.specs.declared.message.Message.TheVariants as message
use Rattle.node_rules.specs.Batches.{Target, Targets, acked_out, is_among, is_pending, next_batch, without_batch}
use Rattle.node_rules.specs.Agreement.{Proposal, next_key}
use Rattle.node_rules.specs.Copies.{Content, is_of}
use Rattle.node_rules.specs.Exchange.{Exchange}
use Rattle.node_rules.specs.Effects.{to_each, lines_only, sends_only, to_one}
use Rattle.node_rules.specs.Facts.{Facts, view_key}
use Rattle.node_rules.specs.Keys.{same_key}
use Rattle.node_rules.specs.Notes as notes
use Rattle.node_rules.specs.Notes.{after_ages, in_view, reached, neighbours}
use Rattle.node_rules.specs.Resolving.{repl}
use Rattle.node_rules.specs.Standing.{is_done, knows_all_settled, others}
use Rattle.node_rules.specs.Tables.{changed_if, contains}
use Rattle.node_rules.specs.Tick.{batch_to, batches, beat, done_from, progress, progress_message, propose, propose_with, rows, sends_again, state, transactions, parts, parts_in_order, proposal_effects}
use Rattle.node_rules.specs.Transactions.{Transaction, Write}
use Rattle.journal_readings.specs.Lines.{has_node}
use Rattle.cluster_rules.specs.World.{World}
use Rattle.cluster_rules.proofs.KeptFacts.{num_same}
use Rattle.cluster_laws.proofs.At.{differ}
use Rattle.run_laws.specs.Tied.{Among}
use Rattle.calm_laws.specs.Acts.{Gets, Input, Ticks, acted, as_read, effects, outbox, sent_at}
use Rattle.calm_laws.specs.Flows.{Flowed, Rounded, inbox}
use Rattle.calm_laws.specs.Group.{Group, kind, replies}
use Rattle.calm_laws.specs.Handing.{Legibly, acked_by, acked_if, target_begun, begun_with}
use Rattle.calm_laws.specs.Laws.{is_to_propose}
use Rattle.calm_laws.specs.Progresses.{Emptied, Full, FullInbox, FullProgress}
use Rattle.calm_laws.specs.Turns.{Cleared, is_agreeing}
use Rattle.calm_laws.proofs.Acking.{Over, acted_acks, settled_batches}
use Rattle.calm_laws.specs.Letters.{arriving_at}
use Rattle.calm_laws.proofs.Beginning.{aged_none}
use Rattle.calm_laws.proofs.Company.{FromGroup, from_group, from_ticks}
use Rattle.calm_laws.proofs.Flow.{among_either}
use Rattle.calm_laws.proofs.Handovers.{HandRound, batches_ticks, flow_acked, over_acted, over_ticks}
use Rattle.calm_laws.proofs.Hearing.{gets_inbox}
use Rattle.calm_laws.proofs.Replies.{answers}
use Rattle.calm_laws.proofs.Resting.{Undisturbed, undisturbed}
use Rattle.calm_laws.proofs.Sent.{AllGets}
use Rattle.calm_laws.proofs.Steadying.{steady_rests}
use Rattle.calm_laws.proofs.Taking.{settled_exchange}
use Rattle.calm_laws.proofs.Ticking.{progressing, proposed, tick_list, tick_sent}
use Rattle.node_rules.specs.StaleMessages.{stale}
use Rattle.node_rules.specs.Agreement as agreement
use Rattle.node_rules.specs.Effects as effects
use Rattle.journal_lines.specs.declared.line.Line.TheVariants as line

-- ---- targets

takes_empty : (t : Target) (from number : ℕ) → t.pending ≡ [] → (changed_if (λ (x : Target). acked_out x number x.out) t (t.node == from)).pending ≡ []
takes_empty t from number e = go (t.node == from)
  where
    by_number : (b : Batch) (c : Bool) → (if c then without_batch t b else t).pending ≡ []
    by_number b true = ap (λ (ds : List (List ℕ)). filter (λ d. not (is_among b.records d)) ds) e
    by_number b false = e

    out : (o : Option Batch) → (acked_out t number o).pending ≡ []
    out None = e
    out (Some b) = by_number b (b.number == number)

    go : (c : Bool) → (changed_if (λ (x : Target). acked_out x number x.out) t c).pending ≡ []
    go true = out t.out
    go false = e

map_empty : (g : Target → Target) → ((t : Target) → t.pending ≡ [] → (g t).pending ≡ []) → (ts : Targets) → Emptied ts → Emptied (map g ts)
map_empty g each [] h t i = absurd i
map_empty g each (s ∷ ts) h t (inl e) = subst (λ (x : Target). x.pending ≡ []) e (each s (h s (inl refl)))
map_empty g each (s ∷ ts) h t (inr i) = map_empty g each ts (λ u j. h u (inr j)) t i

pub emptied_acked : (k : ClusterKey) (ts : Targets) (from : ℕ) (m : Message) → Emptied ts → Emptied (acked_by k ts from m)
emptied_acked k ts from (message.BatchAck key number) h = go (same_key k key)
  where
    go : (b : Bool) → Emptied (acked_if ts from number b)
    go true = map_empty (λ (t : Target). changed_if (λ (x : Target). acked_out x number x.out) t (t.node == from)) (λ t e. takes_empty t from number e) ts h
    go false = h
emptied_acked k ts from _ h = h

-- ---- rows

none_pending : (ts : Targets) (p : ℕ) → Emptied ts → is_pending ts p ≡ false
none_pending [] p h = refl
none_pending (t ∷ ts) p h = ap (λ (xs : List (List ℕ)). list_any (is_of p) xs || is_pending ts p) (h t (inl refl)) ∙ none_pending ts p (λ s i. h s (inr i))

pub all_done : (f : Facts) → f.exchange.exchanged ≡ true → Emptied f.batches → (p : ℕ) → is_done f p ≡ true
all_done f over h p = ap (λ (b : Bool). b && not (is_pending f.batches p)) over ∙ ap (λ (b : Bool). not b) (none_pending f.batches p h)

pub full_row : (f : Facts) → ((p : ℕ) → is_done f p ≡ true) → (n at : ℕ) → Full n (done_from f n at)
unfolding done_from
full_row f done zero at p lt = absurd (omega (arith, lt))
full_row f done (suc n) at zero lt = done at
full_row f done (suc n) at (suc p) lt = full_row f done n (at + 1) p (omega (arith, lt))

-- ---- what is sent

full_answer : (n : ℕ) (f : Facts) → ((p : ℕ) → is_done f p ≡ true) → (from : ℕ) (b : Bool) (to : ℕ) (x : Message) → Among (if b then sends_only (to_one from (progress_message n f false)) else effects.nothing).sends (to, x) → FullProgress n x
full_answer n f done from false to x i = absurd i
full_answer n f done from true to x (inr i) = absurd i
full_answer n f done from true to x (inl e) = subst (λ (y : Message). FullProgress n y) (ap (λ (l : ℕ × Message). l.1) e) (full_row f done n 0)

-- the answer to a Progress tells that each partition is done
pub full_came : (n : ℕ) (f now : Facts) → ((p : ℕ) → is_done now p ≡ true) → (from : ℕ) (wants b : Bool) (to : ℕ) (x : Message) → Among (if b then (if wants && knows_all_settled now n 0 then sends_only (to_one from (progress_message n now false)) else effects.nothing) else stale f).sends (to, x) → FullProgress n x
full_came n f now done from wants false to x i = absurd i
full_came n f now done from wants true to x i = full_answer n now done from (wants && knows_all_settled now n 0) to x i

-- a tick's Progress does
pub full_tick : (f : Facts) → ((p : ℕ) → is_done f p ≡ true) → (n : ℕ) (wants : Bool) → FullProgress n (progress_message n f wants)
full_tick f done n wants = full_row f done n 0

-- ---- flows

not_nine : (n : ℕ) (x : Message) → (kind x == 9) ≡ false → FullProgress n x
not_nine n (message.Progress key wants done handed settled) e = differ refl e
not_nine n _ e = tt

no_kind : (j : ℕ) → contains [] j ≡ true → (j == 9) ≡ false
no_kind j e = differ e refl

one_kind : (i j : ℕ) → (i == 9) ≡ false → contains (i ∷ []) j ≡ true → (j == 9) ≡ false
one_kind i j e h = go (i == j) refl h
  where
    go : (b : Bool) → (i == j) ≡ b → (b || false) ≡ true → (j == 9) ≡ false
    go true s f = ap (λ (y : ℕ). y == 9) (sym (num_same i j s)) ∙ e
    go false s f = differ f refl

-- only a Progress is answered by one
other_replies : (y : Message) (j : ℕ) → is_agreeing (kind y) ≡ false → (kind y == 9) ≡ false → contains (replies (kind y)) j ≡ true → (j == 9) ≡ false
other_replies (message.Propose l ns) j free e h = differ refl free
other_replies (message.Accept l) j free e h = differ refl free
other_replies (message.Refuse l promised) j free e h = differ refl free
other_replies (message.Commit l ns) j free e h = differ refl free
other_replies (message.State key wants row) j free e h = one_kind 6 j refl h
other_replies (message.Batch b) j free e h = one_kind 8 j refl h
other_replies (message.Progress key wants done handed settled) j free e h = differ refl e
other_replies (message.Repl key t nth digest v) j free e h = one_kind 11 j refl h
other_replies (message.Ask key t digest) j free e h = one_kind 13 j refl h
other_replies (message.Answer key t v) j free e h = one_kind 10 j refl h
other_replies message.MapAsk j free e h = one_kind 15 j refl h
other_replies _ j free e h = no_kind j h

-- a node that has nothing pending tells so whatever it is asked
full_sent : (n c : ℕ) (k : ClusterKey) (set : List Member) (f : Facts) → Over k set f → Emptied f.batches → (from : ℕ) (y : Message) → is_agreeing (kind y) ≡ false → as_read (effects n c f (Gets from y)).sends ≡ (effects n c f (Gets from y)).sends
    → (to : ℕ) (x : Message) → Among (sent_at n c f (Gets from y)) (to, x) → FullProgress n x
full_sent n c k set f o empty from (message.Progress key wants done handed settled) free read to x i =
    full_came n f (reached f from (message.Progress key wants done handed settled)) (still (in_view f key)) from wants (in_view f key) to x (subst (λ (ms : List (ℕ × Message)). Among ms (to, x)) read i)
  where
    still : (b : Bool) (p : ℕ) → is_done (notes.progress_came f from done handed settled b) p ≡ true
    still true p = all_done f o.exchanged empty p
    still false p = all_done f o.exchanged empty p
full_sent n c k set f o empty from y free read to x i = go (kind y == 9) refl
  where
    go : (b : Bool) → (kind y == 9) ≡ b → FullProgress n x
    go false e = not_nine n x (other_replies y (kind x) free e (answers n c f from y to x i))
    go true e = differ e refl

full_outbox : (n c : ℕ) (k : ClusterKey) (set : List Member) (is : List Input) → AllGets is → ((from : ℕ) (x : Message) → Among is (Gets from x) → is_agreeing (kind x) ≡ false) → (f : Facts) → Legibly n c f is → Over k set f → Emptied f.batches
    → (to : ℕ) (x : Message) → Among (outbox n c f is) (to, x) → FullProgress n x
full_outbox n c k set [] gets free f l o empty to x i = absurd i
full_outbox n c k set (Ticks ∷ is) gets free f l o empty to x i = absurd gets
full_outbox n c k set (Gets from y ∷ is) gets free f l o empty to x i =
    go (among_either (to, x) (sent_at n c f (Gets from y)) (outbox n c (acted n c f (Gets from y)) is) i)
    (full_outbox n c k set is gets (λ a z t. free a z (inr t)) (acted n c f (Gets from y)) l.1 (over_acted n c k set f from y (free from y (inl refl)) o)
    (subst Emptied (sym (acted_acks n c k set f o from y (free from y (inl refl)))) (emptied_acked k f.batches from y empty)) to x)
  where
    go : Among (sent_at n c f (Gets from y)) (to, x) ⊎ Among (outbox n c (acted n c f (Gets from y)) is) (to, x) → (Among (outbox n c (acted n c f (Gets from y)) is) (to, x) → FullProgress n x) → FullProgress n x
    go (inl h) rest = full_sent n c k set f o empty from y (free from y (inl refl)) l.0 to x h
    go (inr h) rest = rest h

-- after a flow whatever tells of progress tells that all is done
pub flow_full : (n : ℕ) (ns gs : List ℕ) (k : ClusterKey) (set : List Member) (u v : World) → Group ns gs u → Flowed n u v → Cleared gs u → ((m : ℕ) → has_node gs m ≡ true → Legibly n (u.clocks m) (u.facts m) (inbox u m))
    → ((m : ℕ) → has_node gs m ≡ true → Over k set (u.facts m) × Emptied (u.facts m).batches) → FullInbox n gs v
flow_full n ns gs k set u v g f cleared legible empty m here from x there =
    let s : FromGroup gs from m x (outbox n (u.clocks from) (u.facts from) (inbox u from)) = from_group n ns gs u v g f from m x here there in
    full_outbox n (u.clocks from) k set (inbox u from) (gets_inbox u from) (cleared from s.sender) (u.facts from) (legible from s.sender) (empty from s.sender).0 (empty from s.sender).1 m x s.sent

-- ---- ticks

abbrev AllSuch : (Message → Type 0) → List (ℕ × Message) → Type 0
AllSuch C ms = (to : ℕ) (x : Message) → Among ms (to, x) → C x

such_each : (C : Message → Type 0) (ns : List ℕ) (m : Message) → C m → AllSuch C (to_each ns m)
such_each C [] m h to x i = absurd i
such_each C (n ∷ ns) m h to x (inl e) = subst C (ap (λ (l : ℕ × Message). l.1) e) h
such_each C (n ∷ ns) m h to x (inr i) = such_each C ns m h to x i

such_append : (C : Message → Type 0) (ms ns : List (ℕ × Message)) → AllSuch C ms → AllSuch C ns → AllSuch C (ms ++ ns)
such_append C ms ns h j to x i = go (among_either (to, x) ms ns i)
  where
    go : Among ms (to, x) ⊎ Among ns (to, x) → C x
    go (inl k) = h to x k
    go (inr k) = j to x k

again_full : (n : ℕ) (f : Facts) (t : Transaction) (o : Option Write) → AllSuch (FullProgress n) (sends_again f t o)
again_full n f t None = such_each (FullProgress n) t.awaiting (message.Ask (view_key f) t.number t.digest) tt
again_full n f t (Some w) = such_each (FullProgress n) t.awaiting (repl f t w) tt

transactions_full : (n : ℕ) (f : Facts) (ts : List Transaction) → AllSuch (FullProgress n) (flat_map (λ (t : Transaction). sends_again f t t.applied) ts)
transactions_full n f [] = λ to x i. absurd i
transactions_full n f (t ∷ ts) = such_append (FullProgress n) (sends_again f t t.applied) _ (again_full n f t t.applied) (transactions_full n f ts)

batches_full : (n : ℕ) (k : ClusterKey) (c : Content) (ts : Targets) → AllSuch (FullProgress n) (filter_map (λ (t : Target). batch_to t.node (next_batch k c t)) ts)
batches_full n k c [] = λ to x i. absurd i
batches_full n k c (t ∷ ts) = go (next_batch k c t) (batches_full n k c ts)
  where
    go : (o : Option Batch) → AllSuch (FullProgress n) (filter_map (λ (t : Target). batch_to t.node (next_batch k c t)) ts) → AllSuch (FullProgress n) (cons_option (batch_to t.node o) (filter_map (λ (t : Target). batch_to t.node (next_batch k c t)) ts))
    go None rest = rest
    go (Some b) rest = such_append (FullProgress n) ((t.node, message.Batch b) ∷ []) _ (such_each (FullProgress n) (t.node ∷ []) (message.Batch b) tt) rest

progress_full : (n : ℕ) (f : Facts) → ((p : ℕ) → is_done f p ≡ true) → (b : Bool) → AllSuch (FullProgress n) (if b then sends_only (to_each (others f) (progress_message n f true)) else effects.nothing).sends
progress_full n f done true = such_each (FullProgress n) (others f) (progress_message n f true) (full_tick f done n true)
progress_full n f done false = λ to x i. absurd i

-- a tick of a node that has nothing pending and proposes nothing
pub tick_full : (n c : ℕ) (f : Facts) → f.up ≡ true → (after_ages f).agreement.proposal ≡ None → is_to_propose (after_ages f) ≡ false → as_read (effects n c f Ticks).sends ≡ (effects n c f Ticks).sends
    → f.exchange.exchanged ≡ true → Emptied f.batches → AllSuch (FullProgress n) (sent_at n c f Ticks)
tick_full n c f up none e read over empty to x i = listed to x (subst (λ (ms : List (ℕ × Message)). Among ms (to, x)) (tick_sent n c f up ∙ plain) i)
  where
    plain : as_read (tick_list n f) ≡ tick_list n f
    plain = subst (λ (b : Bool). as_read (if b then parts_in_order (parts n) f else lines_only (line.Down f.me ∷ [])).sends ≡ (if b then parts_in_order (parts n) f else lines_only (line.Down f.me ∷ [])).sends) up read

    done : (p : ℕ) → is_done (progressing n f) p ≡ true
    done = all_done (progressing n f) (ap (λ (x : Exchange). x.exchanged) (settled_exchange n f none e) ∙ over) (subst Emptied (sym (settled_batches n f none e)) empty)

    nothing : (propose (after_ages f)).sends ≡ []
    nothing = ap (λ (o : Option Proposal). (propose_with (after_ages f) o).sends) none ∙ ap (λ (b : Bool). (if b then proposal_effects (after_ages f) (next_key (after_ages f).me (after_ages f).agreement) (neighbours (after_ages f)) (agreement.others_among (after_ages f).me (neighbours (after_ages f))) else effects.nothing).sends) e

    listed : AllSuch (FullProgress n) (tick_list n f)
    listed =
        such_append (FullProgress n) (beat (after_ages f)).sends _ (such_each (FullProgress n) (after_ages f).peers _ tt)
        (such_append (FullProgress n) (propose (after_ages f)).sends _ (λ to x i. absurd (subst (λ (ms : List (ℕ × Message)). Among ms (to, x)) nothing i))
        (such_append (FullProgress n) (rows (proposed f)).sends _ (such_each (FullProgress n) _ (state (proposed f) true) tt)
        (such_append (FullProgress n) (transactions (proposed f)).sends _ (transactions_full n (proposed f) (proposed f).transactions.running)
        (such_append (FullProgress n) (batches (proposed f)).sends _ (batches_full n (view_key (proposed f)) (proposed f).store.content (proposed f).batches)
        (such_append (FullProgress n) (progress n (progressing n f)).sends [] (progress_full n (progressing n f) done _) (λ to x i. absurd i))))))

-- ---- a round

-- what a group is like that has nothing pending, as a round begins
pub record TellRound (n : ℕ) (ns gs : List ℕ) (g : ℕ) (set : List Member) (k : ClusterKey) (w v : World) (r : Rounded n w v) : Type 0 where
  pub hands : HandRound n ns gs g set k w v r
  pub empty : (m : ℕ) → has_node gs m ≡ true → Emptied (w.facts m).batches

module _ (ns gs : List ℕ) (g : ℕ) (set : List Member) (k : ClusterKey) (w v : World) (r : Rounded partition_count w v) (h : TellRound partition_count ns gs g set k w v r) where
  pub calm : Undisturbed partition_count ns gs w v r
  calm = undisturbed partition_count ns gs g set w v r h.hands.ready (steady_rests ns gs g set k w h.hands.ready h.hands.steady)

  begun_empty : (c : ClusterKey) (s : Content) (ts : Targets) → Emptied ts → Emptied (map (target_begun c s) ts)
  begun_empty c s ts e = map_empty (target_begun c s) (λ t i. out t (next_batch c s t) i) ts e
    where
      out : (t : Target) (o : Option Batch) → t.pending ≡ [] → (begun_with t o).pending ≡ []
      out t None i = i
      out t (Some b) i = i

  pub empty_ticks : (m : ℕ) → has_node gs m ≡ true → Over k set (r.ticks_end.facts m) × Emptied (r.ticks_end.facts m).batches
  empty_ticks m here = (
    over_ticks partition_count ns gs g set k w v r h.hands m here,
    subst Emptied (sym (batches_ticks partition_count ns gs g set k w v r h.hands m here)) (begun_empty k (w.facts m).store.content (w.facts m).batches (h.empty m here)),
  )

  pub empty_first : (m : ℕ) → has_node gs m ≡ true → Over k set (r.first_end.facts m) × Emptied (r.first_end.facts m).batches
  empty_first m here = flow_acked partition_count gs r.ticks_end r.first_end m k set Emptied r.first calm.ticks here (λ ts from x e. emptied_acked k ts from x e) (empty_ticks m here)

  pub empty_second : (m : ℕ) → has_node gs m ≡ true → Over k set (r.second_end.facts m) × Emptied (r.second_end.facts m).batches
  empty_second m here = flow_acked partition_count gs r.first_end r.second_end m k set Emptied r.second calm.first here (λ ts from x e. emptied_acked k ts from x e) (empty_first m here)

  -- whatever tells of progress from the second flow on tells that all is done
  pub full_first : FullInbox partition_count gs r.first_end
  full_first = flow_full partition_count ns gs k set r.ticks_end r.first_end calm.group_ticks r.first calm.ticks h.hands.legible.first empty_ticks

  pub full_second : FullInbox partition_count gs r.second_end
  full_second = flow_full partition_count ns gs k set r.first_end r.second_end calm.group_first r.second calm.first h.hands.legible.second empty_first

  pub full_third : FullInbox partition_count gs r.third_end
  full_third = flow_full partition_count ns gs k set r.second_end r.third_end calm.group_second r.third calm.second h.hands.legible.third empty_second

  -- and from the first flow on, where what was in flight did so
  pub full_ticks : FullInbox partition_count gs w → FullInbox partition_count gs r.ticks_end
  full_ticks left m here from x there =
      go (among_either (Gets from x) (inbox w m) (arriving_at r.ticks_end m calm.ticked.posted) (subst (λ (is : List Input). Among is (Gets from x)) (calm.ticked.inbox m) there))
    where
      told : FromGroup gs from m x (sent_at partition_count (w.clocks from) (w.facts from) Ticks) → FullProgress partition_count x
      told s =
          tick_full partition_count (w.clocks from) (w.facts from) (h.hands.ready.base.up from (h.hands.ready.group.up from s.sender)) (aged_none (w.facts from) (h.hands.ready.none from s.sender)) (calm.asks from s.sender)
          (h.hands.legible.ticks from s.sender) (h.hands.over from s.sender) (h.empty from s.sender) m x s.sent

      go : Among (inbox w m) (Gets from x) ⊎ Among (arriving_at r.ticks_end m calm.ticked.posted) (Gets from x) → FullProgress partition_count x
      go (inl i) = left m here from x i
      go (inr i) = told (from_ticks partition_count ns gs w r.ticks_end h.hands.ready.group calm.ticked from m x here i)
