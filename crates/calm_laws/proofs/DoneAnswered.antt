-- A node that knows all settled answers each that asks, so that all know that it is done at the round's end.
use Rattle.std.proofs.Common.{◌≡◌, ℕ, ◌&&◌, Bool, true, false, List, Option, refl, sym, ap, subst, ◌∙◌, ◌⊎◌, inl, inr, [], if◌then◌else◌, ◌++◌, ◌∷◌}
use Rattle.cluster_types.specs.declared.cluster_key.ClusterKey.{ClusterKey}
use Rattle.cluster_types.specs.declared.member.Member.{Member}
use Rattle.cluster_types.specs.Partitions.{partition_count}
use Rattle.wire_messages.specs.declared.message.Message.{Message}
use Rattle.wire_messages.specs.declared.message.Message.TheVariants as message
use Rattle.node_rules.specs.declared.member_row.MemberRow.{MemberRow}
use Rattle.node_rules.specs.Exchange.{Exchange, View, is_view, exchange_key, with_row}
use Rattle.node_rules.specs.Facts.{Facts, view_key}
use Rattle.node_rules.specs.Keys.{same_key}
use Rattle.node_rules.specs.Map.{lacks}
use Rattle.node_rules.specs.Notes as notes
use Rattle.node_rules.specs.Notes.{after_ages, all_sent, reached}
use Rattle.node_rules.specs.Standing.{knows_all_settled}
use Rattle.node_rules.specs.Tick.{progress_message}
use Rattle.journal_readings.specs.Lines.{has_node}
use Rattle.cluster_rules.specs.World.{World}
use Rattle.key_laws.proofs.Order.{same_self}
use Rattle.run_laws.specs.Tied.{Among}
use Rattle.calm_laws.specs.Acts.{Gets, Input, acted, as_read, effects, outbox, served}
use Rattle.calm_laws.specs.Exchanges.{ends_with, taken_if, took}
use Rattle.calm_laws.specs.Flows.{Rounded, inbox, ticks_if}
use Rattle.calm_laws.specs.Group.{kind}
use Rattle.calm_laws.specs.Handing.{Legibly}
use Rattle.calm_laws.specs.Letters.{arriving_at}
use Rattle.calm_laws.specs.Progresses.{Emptied, Full, FullInbox, KnowsDone}
use Rattle.calm_laws.specs.Turns.{is_agreeing}
use Rattle.calm_laws.proofs.Acking.{Over, acted_acks}
use Rattle.calm_laws.proofs.Closing.{any_legible}
use Rattle.calm_laws.proofs.Company.{from_ticks}
use Rattle.calm_laws.proofs.Exchanging.{finished_rows}
use Rattle.calm_laws.proofs.Flow.{among_either}
use Rattle.calm_laws.proofs.DoneKnown.{exchange_of, flow_knows, keeps_done, keeps_over, key_of_telling, knows_done_of, told_all, up_of}
use Rattle.calm_laws.proofs.Growing.{acted_grow, all_sent_bits, bits_same, progress_bits}
use Rattle.calm_laws.proofs.Handovers.{over_acted}
use Rattle.calm_laws.proofs.Hearing.{gets_inbox}
use Rattle.calm_laws.proofs.Inputs.{Along, Any, kept_along, served_each}
use Rattle.calm_laws.proofs.Knowing.{all_settled_grows, done_told}
use Rattle.calm_laws.proofs.Proposals.{all_gets}
use Rattle.calm_laws.proofs.Proposing.{flow_arrives}
use Rattle.calm_laws.proofs.Taking.{acted_takes, all_sent_still}
use Rattle.calm_laws.proofs.Ticking.{progressing, tick_facts, tick_list}
use Rattle.calm_laws.proofs.Telling.{TellRound, all_done, calm, emptied_acked, empty_first, empty_ticks, full_first, full_row, full_second, full_third}
use Rattle.node_rules.specs.Effects.{nothing, sends_only, to_one}
use Rattle.node_rules.specs.StaleMessages.{stale}

-- ---- rows that are all there stay

took_rows : (e : Exchange) (from : ℕ) (x : Message) → lacks e.rows from ≡ false → (took e from x).rows ≡ e.rows
took_rows e from (message.State key wants row) h = go (is_view e.view key)
  where
    go : (b : Bool) → (taken_if e from row b).rows ≡ e.rows
    go true = finished_rows (record e { rows = with_row e.rows from row }) (ends_with e (record e { rows = with_row e.rows from row })) ∙ ap (λ (b : Bool). (if b then e.rows ++ record { node = from; row = row } ∷ [] else e.rows)) h
    go false = refl
took_rows e from _ h = refl

-- a node that knows all settled, and whose rows are these
pub record Settles (k : ClusterKey) (set : List Member) (rows : List MemberRow) (f : Facts) : Type 0 where
  pub over : Over k set f
  pub rows_are : f.exchange.rows ≡ rows
  pub knows : knows_all_settled f partition_count 0 ≡ true
  pub empty : Emptied f.batches

pub settles_acted : (n c : ℕ) (k : ClusterKey) (set : List Member) (rows : List MemberRow) (f : Facts) (from : ℕ) (y : Message) → is_agreeing (kind y) ≡ false → lacks rows from ≡ false → Settles k set rows f → Settles k set rows (acted n c f (Gets from y))
settles_acted n c k set rows f from y free there s =
    let g : Facts = acted n c f (Gets from y) in
    let o : Over k set (acted n c f (Gets from y)) = over_acted n c k set f from y free s.over in
    let same : (acted n c f (Gets from y)).exchange.rows ≡ f.exchange.rows =
    ap (λ (e : Exchange). e.rows) (acted_takes n c f from y free) ∙ took_rows f.exchange from y (ap (λ (rs : List MemberRow). lacks rs from) s.rows_are ∙ there) in
    record {
      over = o;
      rows_are = same ∙ s.rows_are;
      knows = all_settled_grows f (acted n c f (Gets from y)) (acted_grow n c f from y free) (o.view ∙ sym s.over.view) same (o.exchanged ∙ sym s.over.exchanged) partition_count 0 s.knows;
      empty = subst Emptied (sym (acted_acks n c k set f s.over from y free)) (emptied_acked k f.batches from y s.empty);
    }

-- the message tells that its sender is done everywhere, in the view of that key
abbrev pub TellsDone : ClusterKey → Message → Type 0
TellsDone k (message.Progress key wants done handed settled) = (key ≡ k) × Full partition_count done
TellsDone k _ = ⊥

pub record DoneTo (k : ClusterKey) (m : ℕ) (l : ℕ × Message) : Type 0 where
  pub to : l.0 ≡ m
  pub tells : TellsDone k l.1

-- who knows all settled answers a Progress that wants it
answers_done : (c : ℕ) (k : ClusterKey) (set : List Member) (rows : List MemberRow) (f : Facts) → Settles k set rows f → (m : ℕ) (key : ClusterKey) → key ≡ k → (done handed settled : List Bool)
    → Any (DoneTo k m) (effects partition_count c f (Gets m (message.Progress key true done handed settled))).sends
answers_done c k set rows f s m key e done handed settled =
    subst (λ (b : Bool). Any (DoneTo k m) (if b then (if true && knows_all_settled (notes.progress_came f m done handed settled b) partition_count 0 then sends_only (to_one m (progress_message partition_count (notes.progress_came f m done handed settled b) false)) else nothing) else stale f).sends) (sym seen)
    (subst (λ (b : Bool). Any (DoneTo k m) (if b then sends_only (to_one m (progress_message partition_count (notes.progress_came f m done handed settled true) false)) else nothing).sends) (sym knows)
    (record { which = (m, progress_message partition_count (notes.progress_came f m done handed settled true) false); among = inl refl; good = record { to = refl; tells = (ap (λ (o : Option View). exchange_key o) s.over.view, full_row (notes.progress_came f m done handed settled true) (λ p. all_done (notes.progress_came f m done handed settled true) s.over.exchanged s.empty p) partition_count 0) } }))
  where
    seen : is_view f.exchange.view key ≡ true
    seen = ap (λ (o : Option View). is_view o key) s.over.view ∙ ap (λ (q : ClusterKey). same_key k q) e ∙ same_self k

    knows : (true && knows_all_settled (notes.progress_came f m done handed settled true) partition_count 0) ≡ true
    knows = all_settled_grows f (notes.progress_came f m done handed settled true) (progress_bits f m done handed settled true) refl refl refl partition_count 0 s.knows

-- what comes to it in a flow keeps that, where each sender's row is there
pub settles_along : (n : ℕ) (u : World) (x : ℕ) (k : ClusterKey) (set : List Member) (rows : List MemberRow) → ((from : ℕ) (y : Message) → Among (inbox u x) (Gets from y) → is_agreeing (kind y) ≡ false) → ((from : ℕ) (y : Message) → Among (inbox u x) (Gets from y) → lacks rows from ≡ false)
    → Settles k set rows (u.facts x) → Along n (u.clocks x) (Settles k set rows) (u.facts x) (inbox u x)
settles_along n u x k set rows free there s =
    kept_along n (u.clocks x) (Settles k set rows) (inbox u x) (u.facts x)
    (λ f i among p. all_gets (inbox u x) i (gets_inbox u x) among (λ j. Among (inbox u x) j → Settles k set rows (acted n (u.clocks x) f j)) (λ from y t. settles_acted n (u.clocks x) k set rows f from y (free from y t) (there from y t) p) among) s

-- so whoever asks it in a flow is told that it is done
pub done_answered : (u : World) (x m : ℕ) (k : ClusterKey) (set : List Member) (rows : List MemberRow) → ((from : ℕ) (y : Message) → Among (inbox u x) (Gets from y) → is_agreeing (kind y) ≡ false) → ((from : ℕ) (y : Message) → Among (inbox u x) (Gets from y) → lacks rows from ≡ false)
    → Settles k set rows (u.facts x) → Legibly partition_count (u.clocks x) (u.facts x) (inbox u x) → (key : ClusterKey) → key ≡ k → (done handed settled : List Bool) → Among (inbox u x) (Gets m (message.Progress key true done handed settled))
    → Any (DoneTo k m) (outbox partition_count (u.clocks x) (u.facts x) (inbox u x))
done_answered u x m k set rows free there s legible key e done handed settled asked =
    any_legible partition_count (u.clocks x) (Settles k set rows) (DoneTo k m) (inbox u x) (u.facts x) (Gets m (message.Progress key true done handed settled)) (settles_along partition_count u x k set rows free there s) legible
    (λ f p. answers_done (u.clocks x) k set rows f p m key e done handed settled) asked

-- ---- the round

-- what else it stands on: each row is there, and whatever is on its way to the group was sent by it
pub record Rowful (gs : List ℕ) (w : World) : Type 0 where
  pub rows : (x a : ℕ) → has_node gs x ≡ true → has_node gs a ≡ true → lacks (w.facts x).exchange.rows a ≡ false
  pub senders : (m : ℕ) → has_node gs m ≡ true → (from : ℕ) (y : Message) → Among (inbox w m) (Gets from y) → has_node gs from ≡ true

pub tells_free : (k : ClusterKey) (y : Message) → TellsDone k y → is_agreeing (kind y) ≡ false
tells_free k (message.Progress key wants done handed settled) t = refl
tells_free k _ t = absurd t

told_by : (n c : ℕ) (k : ClusterKey) (set : List Member) (f : Facts) (x : ℕ) (y : Message) → TellsDone k y → Over k set f → KnowsDone partition_count x (acted n c f (Gets x y)).bits
told_by n c k set f x (message.Progress key wants done handed settled) t o =
    done_told n c x f partition_count key wants done handed settled (ap (λ (v : Option View). is_view v key) o.view ∙ ap (λ (q : ClusterKey). same_key k q) t.0 ∙ same_self k) t.1
told_by n c k set f x _ t o = absurd t

module _ (ns gs : List ℕ) (g : ℕ) (set : List Member) (k : ClusterKey) (w v : World) (r : Rounded partition_count w v) (h : TellRound partition_count ns gs g set k w v r) (left : FullInbox partition_count gs w) (j : Rowful gs w) where
  pub senders_ticks : (x : ℕ) → has_node gs x ≡ true → (from : ℕ) (y : Message) → Among (inbox r.ticks_end x) (Gets from y) → has_node gs from ≡ true
  senders_ticks x here from y there =
      go (among_either (Gets from y) (inbox w x) (arriving_at r.ticks_end x (calm ns gs g set k w v r h).ticked.posted) (subst (λ (is : List Input). Among is (Gets from y)) ((calm ns gs g set k w v r h).ticked.inbox x) there))
    where
      go : Among (inbox w x) (Gets from y) ⊎ Among (arriving_at r.ticks_end x (calm ns gs g set k w v r h).ticked.posted) (Gets from y) → has_node gs from ≡ true
      go (inl i) = j.senders x here from y i
      go (inr i) = (from_ticks partition_count ns gs w r.ticks_end h.hands.ready.group (calm ns gs g set k w v r h).ticked from x y here i).sender

  pub ticked_from : (x : ℕ) → has_node gs x ≡ true → r.ticks_end.facts x ≡ all_sent (progressing partition_count (w.facts x)) (as_read (tick_list partition_count (w.facts x)))
  ticked_from x here =
      (calm ns gs g set k w v r h).ticked.facts x
      ∙ ap (λ (b : Bool). served partition_count (w.clocks x) (w.facts x) (ticks_if b)) (h.hands.ready.group.up x here)
      ∙ tick_facts partition_count (w.clocks x) (w.facts x) (up_of ns gs g set k w v r h left x here)

  pub settles_ticks : (x : ℕ) → has_node gs x ≡ true → knows_all_settled (progressing partition_count (w.facts x)) partition_count 0 ≡ true → Settles k set (w.facts x).exchange.rows (r.ticks_end.facts x)
  settles_ticks x here e =
      let f : Facts = progressing partition_count (w.facts x) in
      let ms : List (ℕ × Message) = as_read (tick_list partition_count (w.facts x)) in
      let same : (r.ticks_end.facts x).exchange ≡ (progressing partition_count (w.facts x)).exchange = ap (λ (y : Facts). y.exchange) (ticked_from x here) ∙ all_sent_still f ms in
      let bits : (r.ticks_end.facts x).bits ≡ (progressing partition_count (w.facts x)).bits = ap (λ (y : Facts). y.bits) (ticked_from x here) ∙ all_sent_bits f ms in
      record {
        over = (empty_ticks ns gs g set k w v r h x here).0;
        rows_are = ap (λ (z : Exchange). z.rows) (same ∙ exchange_of ns gs g set k w v r h left x here);
        knows = all_settled_grows f (r.ticks_end.facts x) (bits_same f.bits (r.ticks_end.facts x).bits bits) (ap (λ (z : Exchange). z.view) same) (ap (λ (z : Exchange). z.rows) same) (ap (λ (z : Exchange). z.exchanged) same) partition_count 0 e;
        empty = (empty_ticks ns gs g set k w v r h x here).1;
      }

  -- who asks one that knows all settled is told that it is done
  pub answered_done : (x m : ℕ) → has_node gs x ≡ true → has_node gs m ≡ true → (m ≡ x → ⊥) → knows_all_settled (progressing partition_count (w.facts x)) partition_count 0 ≡ true → knows_all_settled (progressing partition_count (w.facts m)) partition_count 0 ≡ false
      → KnowsDone partition_count x (v.facts m).bits
  answered_done x m here there d knows e =
      (flow_knows partition_count gs r.third_end v m k set partition_count x r.fourth (calm ns gs g set k w v r h).third (full_third ns gs g set k w v r h) there
      (flow_knows partition_count gs r.second_end r.third_end m k set partition_count x r.third (calm ns gs g set k w v r h).second (full_second ns gs g set k w v r h) there second)).1
    where
      told : Any (DoneTo k m) (outbox partition_count (r.ticks_end.clocks x) (r.ticks_end.facts x) (inbox r.ticks_end x))
      told =
          done_answered r.ticks_end x m k set (w.facts x).exchange.rows ((calm ns gs g set k w v r h).ticks x here) (λ from y i. j.rows x from here (senders_ticks x here from y i)) (settles_ticks x here knows) (h.hands.legible.first x here)
          (view_key (progressing partition_count (w.facts m))) (key_of_telling ns gs g set k w v r h left m there) _ _ _ (told_all ns gs g set k w v r h left m x there here (λ i. d (sym i)) e)

      comes : Among (inbox r.first_end m) (Gets x told.which.1)
      comes =
          flow_arrives partition_count ns gs r.ticks_end r.first_end (calm ns gs g set k w v r h).group_first (calm ns gs g set k w v r h).ups_first r.first x m here there (λ i. d (sym i)) told.which.1
          (subst (λ (y : ℕ). Among (outbox partition_count (r.ticks_end.clocks x) (r.ticks_end.facts x) (inbox r.ticks_end x)) (y, told.which.1)) told.good.to told.among)

      second : Over k set (r.second_end.facts m) × KnowsDone partition_count x (r.second_end.facts m).bits
      second =
          subst (λ (f : Facts). Over k set f × KnowsDone partition_count x f.bits) (sym (r.second.facts m))
          (served_each partition_count (r.first_end.clocks m) (λ f. Over k set f) (λ f. Over k set f × KnowsDone partition_count x f.bits) (inbox r.first_end m) (r.first_end.facts m) (Gets x told.which.1)
          (keeps_over partition_count (r.first_end.clocks m) k set r.first_end m ((calm ns gs g set k w v r h).first m there))
          (keeps_done partition_count (r.first_end.clocks m) k set partition_count x (inbox r.first_end m) r.first_end gs m ((calm ns gs g set k w v r h).first m there) (full_first ns gs g set k w v r h) there)
          (λ f o. (over_acted partition_count (r.first_end.clocks m) k set f x told.which.1 (tells_free k told.which.1 told.good.tells) o, told_by partition_count (r.first_end.clocks m) k set f x told.which.1 told.good.tells o))
          comes (empty_first ns gs g set k w v r h m there).0)

  -- each that doesn't know all settled as it tells knows each other one done at the round's end
  pub done_known : (x m : ℕ) → has_node gs x ≡ true → has_node gs m ≡ true → (m ≡ x → ⊥) → knows_all_settled (progressing partition_count (w.facts m)) partition_count 0 ≡ false → KnowsDone partition_count x (v.facts m).bits
  done_known x m here there d e = go (knows_all_settled (progressing partition_count (w.facts x)) partition_count 0) refl
    where
      go : (b : Bool) → knows_all_settled (progressing partition_count (w.facts x)) partition_count 0 ≡ b → KnowsDone partition_count x (v.facts m).bits
      go false s = knows_done_of ns gs g set k w v r h left x m here there d s
      go true s = answered_done x m here there d s e
