-- In a round in which nothing is pending: who knows all settled does so as it ends, and a bit that a node has after its
-- tick all others have as it ends, where it tells of it or is asked.
use Rattle.std.proofs.Common.{◌≡◌, ℕ, ◌&&◌, Bool, true, false, List, Option, refl, sym, ap, subst, ◌∙◌, inl, if◌then◌else◌}
use Rattle.cluster_types.specs.declared.cluster_key.ClusterKey.{ClusterKey}
use Rattle.cluster_types.specs.declared.member.Member.{Member}
use Rattle.cluster_types.specs.Partitions.{partition_count}
use Rattle.cluster_types.specs.Rows.{bit}
use Rattle.wire_messages.specs.declared.message.Message.{Message}
use Rattle.wire_messages.specs.declared.message.Message.TheVariants as message
use Rattle.node_rules.specs.declared.member_row.MemberRow.{MemberRow}
use Rattle.node_rules.specs.Exchange.{View, is_view, exchange_key}
use Rattle.node_rules.specs.Facts.{Facts, view_key}
use Rattle.node_rules.specs.Keys.{same_key}
use Rattle.node_rules.specs.Map.{lacks}
use Rattle.node_rules.specs.Notes as notes
use Rattle.node_rules.specs.Standing.{knows_all_settled}
use Rattle.node_rules.specs.Tick.{progress_message}
use Rattle.journal_readings.specs.Lines.{has_node}
use Rattle.cluster_rules.specs.World.{World}
use Rattle.key_laws.proofs.Order.{same_self}
use Rattle.run_laws.specs.Tied.{Among}
use Rattle.calm_laws.specs.Acts.{Gets, acted, as_read, effects, outbox}
use Rattle.calm_laws.specs.Flows.{Flowed, Rounded, inbox}
use Rattle.calm_laws.specs.Group.{Group, kind}
use Rattle.calm_laws.specs.Progresses.{FullInbox}
use Rattle.calm_laws.specs.Turns.{is_agreeing}
use Rattle.calm_laws.proofs.Acking.{Over}
use Rattle.calm_laws.proofs.Bitwise.{Has, flow_has, has_grows, has_told, keeps_has, told_row}
use Rattle.calm_laws.proofs.Closing.{any_legible}
use Rattle.calm_laws.proofs.Company.{from_group}
use Rattle.calm_laws.proofs.DoneAnswered.{Rowful, Settles, senders_ticks, settles_acted, settles_ticks, ticked_from}
use Rattle.calm_laws.proofs.DoneKnown.{keeps_over, key_of_telling, told_all}
use Rattle.calm_laws.proofs.Growing.{acted_grow, all_sent_bits, progress_bits}
use Rattle.calm_laws.proofs.Hearing.{gets_inbox}
use Rattle.calm_laws.proofs.Inputs.{Along, Any, kept_along, served_each, served_kept}
use Rattle.calm_laws.proofs.Knowing.{all_settled_grows}
use Rattle.calm_laws.proofs.Proposals.{all_gets}
use Rattle.calm_laws.proofs.Proposing.{flow_arrives}
use Rattle.calm_laws.proofs.Telling.{TellRound, calm, empty_first, empty_ticks}
use Rattle.calm_laws.proofs.Ticking.{progressing, tick_list}
use Rattle.node_rules.specs.Effects.{nothing, sends_only, to_one}
use Rattle.node_rules.specs.StaleMessages.{stale}

-- ---- who is asked tells of the bit

-- the message goes to that node and tells of the partition's settling, in the view of that key
abbrev pub TellsSettled : ClusterKey → ℕ → Message → Type 0
TellsSettled k p (message.Progress key wants done handed settled) = (key ≡ k) × (bit settled p ≡ true)
TellsSettled k p _ = ⊥

pub record SettledTo (k : ClusterKey) (m p : ℕ) (l : ℕ × Message) : Type 0 where
  pub to : l.0 ≡ m
  pub tells : TellsSettled k p l.1

pub record Knower (k : ClusterKey) (set : List Member) (rows : List MemberRow) (p : ℕ) (f : Facts) : Type 0 where
  pub settles : Settles k set rows f
  pub has : Has false p f.bits

knower_acted : (n c : ℕ) (k : ClusterKey) (set : List Member) (rows : List MemberRow) (p : ℕ) (f : Facts) (from : ℕ) (y : Message) → is_agreeing (kind y) ≡ false → lacks rows from ≡ false → Knower k set rows p f → Knower k set rows p (acted n c f (Gets from y))
knower_acted n c k set rows p f from y free there s = record { settles = settles_acted n c k set rows f from y free there s.settles; has = has_grows false p f.bits (acted n c f (Gets from y)).bits (acted_grow n c f from y free) s.has }

answers_settled : (c : ℕ) (k : ClusterKey) (set : List Member) (rows : List MemberRow) (p : ℕ) (f : Facts) → Knower k set rows p f → (m : ℕ) (key : ClusterKey) → key ≡ k → (done handed settled : List Bool)
    → Any (SettledTo k m p) (effects partition_count c f (Gets m (message.Progress key true done handed settled))).sends
answers_settled c k set rows p f s m key e done handed settled =
    subst (λ (b : Bool). Any (SettledTo k m p) (if b then (if true && knows_all_settled (notes.progress_came f m done handed settled b) partition_count 0 then sends_only (to_one m (progress_message partition_count (notes.progress_came f m done handed settled b) false)) else nothing) else stale f).sends) (sym seen)
    (subst (λ (b : Bool). Any (SettledTo k m p) (if b then sends_only (to_one m (progress_message partition_count (notes.progress_came f m done handed settled true) false)) else nothing).sends) (sym knows)
    (record { which = (m, progress_message partition_count (notes.progress_came f m done handed settled true) false); among = inl refl; good = record { to = refl; tells = (ap (λ (o : Option View). exchange_key o) s.settles.over.view, (progress_bits f m done handed settled true).settled p s.has) } }))
  where
    seen : is_view f.exchange.view key ≡ true
    seen = ap (λ (o : Option View). is_view o key) s.settles.over.view ∙ ap (λ (q : ClusterKey). same_key k q) e ∙ same_self k

    knows : (true && knows_all_settled (notes.progress_came f m done handed settled true) partition_count 0) ≡ true
    knows = all_settled_grows f (notes.progress_came f m done handed settled true) (progress_bits f m done handed settled true) refl refl refl partition_count 0 s.settles.knows

told_settled : (n c : ℕ) (k : ClusterKey) (set : List Member) (p : ℕ) (f : Facts) (x : ℕ) (y : Message) → TellsSettled k p y → Over k set f → Has false p (acted n c f (Gets x y)).bits
told_settled n c k set p f x (message.Progress key wants done handed settled) t o = has_told n c k set f x false p key wants done handed settled o t.0 t.1
told_settled n c k set p f x _ t o = absurd t

-- ---- the round

module _ (ns gs : List ℕ) (g : ℕ) (set : List Member) (k : ClusterKey) (w v : World) (r : Rounded partition_count w v) (h : TellRound partition_count ns gs g set k w v r) (left : FullInbox partition_count gs w) (j : Rowful gs w) where
  -- a bit after the tick is there as the round ends
  pub bit_end : (x : ℕ) → has_node gs x ≡ true → (b : Bool) (p : ℕ) → Has b p (progressing partition_count (w.facts x)).bits → Has b p (v.facts x).bits
  bit_end x here b p has =
      flow_has partition_count gs r.third_end v x b p r.fourth (calm ns gs g set k w v r h).third here
      (flow_has partition_count gs r.second_end r.third_end x b p r.third (calm ns gs g set k w v r h).second here
      (flow_has partition_count gs r.first_end r.second_end x b p r.second (calm ns gs g set k w v r h).first here
      (flow_has partition_count gs r.ticks_end r.first_end x b p r.first (calm ns gs g set k w v r h).ticks here (bit_ticks x here b p has))))
    where
      bit_ticks : (x : ℕ) → has_node gs x ≡ true → (b : Bool) (p : ℕ) → Has b p (progressing partition_count (w.facts x)).bits → Has b p (r.ticks_end.facts x).bits
      bit_ticks x here b p has =
          subst (Has b p) (sym (ap (λ (y : Facts). y.bits) (ticked_from ns gs g set k w v r h left j x here) ∙ all_sent_bits (progressing partition_count (w.facts x)) (as_read (tick_list partition_count (w.facts x))))) has

  -- who knows all settled does so as it ends
  knows_flow : (u z : World) (x : ℕ) (rows : List MemberRow) → Flowed partition_count u z → ((from : ℕ) (y : Message) → Among (inbox u x) (Gets from y) → is_agreeing (kind y) ≡ false) → ((from : ℕ) (y : Message) → Among (inbox u x) (Gets from y) → lacks rows from ≡ false)
      → Settles k set rows (u.facts x) → Settles k set rows (z.facts x)
  knows_flow u z x rows f free there s =
      subst (Settles k set rows) (sym (f.facts x))
      (served_kept partition_count (u.clocks x) (Settles k set rows) (inbox u x) (u.facts x)
      (λ f i among p. all_gets (inbox u x) i (gets_inbox u x) among (λ a. Among (inbox u x) a → Settles k set rows (acted partition_count (u.clocks x) f a)) (λ from y t. settles_acted partition_count (u.clocks x) k set rows f from y (free from y t) (there from y t) p) among) s)

  row_of_sender : (u z : World) → Group ns gs u → Flowed partition_count u z → (x : ℕ) → has_node gs x ≡ true → (from : ℕ) (y : Message) → Among (inbox z x) (Gets from y) → lacks (w.facts x).exchange.rows from ≡ false
  row_of_sender u z group f x here from y i = j.rows x from here (from_group partition_count ns gs u z group f from x y here i).sender

  pub knows_end : (x : ℕ) → has_node gs x ≡ true → knows_all_settled (progressing partition_count (w.facts x)) partition_count 0 ≡ true → knows_all_settled (v.facts x) partition_count 0 ≡ true
  knows_end x here e =
      (knows_flow r.third_end v x (w.facts x).exchange.rows r.fourth ((calm ns gs g set k w v r h).third x here) (row_of_sender r.second_end r.third_end (calm ns gs g set k w v r h).group_second r.third x here)
      (knows_flow r.second_end r.third_end x (w.facts x).exchange.rows r.third ((calm ns gs g set k w v r h).second x here) (row_of_sender r.first_end r.second_end (calm ns gs g set k w v r h).group_first r.second x here)
      (knows_flow r.first_end r.second_end x (w.facts x).exchange.rows r.second ((calm ns gs g set k w v r h).first x here) (row_of_sender r.ticks_end r.first_end (calm ns gs g set k w v r h).group_ticks r.first x here)
      (knows_flow r.ticks_end r.first_end x (w.facts x).exchange.rows r.first ((calm ns gs g set k w v r h).ticks x here) (λ from y i. j.rows x from here (senders_ticks ns gs g set k w v r h left j x here from y i))
      (settles_ticks ns gs g set k w v r h left j x here e))))).knows

  -- who doesn't know all settled tells each other one of its bits
  pub tells_bit : (x m : ℕ) → has_node gs x ≡ true → has_node gs m ≡ true → (m ≡ x → ⊥) → knows_all_settled (progressing partition_count (w.facts x)) partition_count 0 ≡ false → (b : Bool) (p : ℕ) → Has b p (progressing partition_count (w.facts x)).bits → Has b p (v.facts m).bits
  tells_bit x m here there d e b p has =
      flow_has partition_count gs r.third_end v m b p r.fourth (calm ns gs g set k w v r h).third there
      (flow_has partition_count gs r.second_end r.third_end m b p r.third (calm ns gs g set k w v r h).second there
      (flow_has partition_count gs r.first_end r.second_end m b p r.second (calm ns gs g set k w v r h).first there first))
    where
      row : (b : Bool) → Has b p (progressing partition_count (w.facts x)).bits → bit (told_row b (progressing partition_count (w.facts x)).bits.handed (progressing partition_count (w.facts x)).bits.settled) p ≡ true
      row true i = i
      row false i = i

      first : Has b p (r.first_end.facts m).bits
      first =
          subst (λ (f : Facts). Has b p f.bits) (sym (r.first.facts m))
          (served_each partition_count (r.ticks_end.clocks m) (λ f. Over k set f) (λ f. Has b p f.bits) (inbox r.ticks_end m) (r.ticks_end.facts m) (Gets x (progress_message partition_count (progressing partition_count (w.facts x)) true))
          (keeps_over partition_count (r.ticks_end.clocks m) k set r.ticks_end m ((calm ns gs g set k w v r h).ticks m there))
          (keeps_has partition_count (r.ticks_end.clocks m) b p r.ticks_end m ((calm ns gs g set k w v r h).ticks m there))
          (λ f o. has_told partition_count (r.ticks_end.clocks m) k set f x b p (view_key (progressing partition_count (w.facts x))) true _ _ _ o (key_of_telling ns gs g set k w v r h left x here) (row b has))
          (told_all ns gs g set k w v r h left x m here there d e) (empty_ticks ns gs g set k w v r h m there).0)

  -- and who knows all settled tells each that asks it
  pub answers_bit : (x m : ℕ) → has_node gs x ≡ true → has_node gs m ≡ true → (m ≡ x → ⊥) → knows_all_settled (progressing partition_count (w.facts x)) partition_count 0 ≡ true → knows_all_settled (progressing partition_count (w.facts m)) partition_count 0 ≡ false
      → (p : ℕ) → Has false p (progressing partition_count (w.facts x)).bits → Has false p (v.facts m).bits
  answers_bit x m here there d knows e p has =
      flow_has partition_count gs r.third_end v m false p r.fourth (calm ns gs g set k w v r h).third there
      (flow_has partition_count gs r.second_end r.third_end m false p r.third (calm ns gs g set k w v r h).second there second)
    where
      rows : List MemberRow
      rows = (w.facts x).exchange.rows

      knower : Knower k set (w.facts x).exchange.rows p (r.ticks_end.facts x)
      knower = record {
        settles = settles_ticks ns gs g set k w v r h left j x here knows;
        has = subst (Has false p) (sym (ap (λ (y : Facts). y.bits) (ticked_from ns gs g set k w v r h left j x here) ∙ all_sent_bits (progressing partition_count (w.facts x)) (as_read (tick_list partition_count (w.facts x))))) has;
      }

      along : Along partition_count (r.ticks_end.clocks x) (Knower k set (w.facts x).exchange.rows p) (r.ticks_end.facts x) (inbox r.ticks_end x)
      along =
          kept_along partition_count (r.ticks_end.clocks x) (Knower k set (w.facts x).exchange.rows p) (inbox r.ticks_end x) (r.ticks_end.facts x)
          (λ f i among s. all_gets (inbox r.ticks_end x) i (gets_inbox r.ticks_end x) among (λ a. Among (inbox r.ticks_end x) a → Knower k set (w.facts x).exchange.rows p (acted partition_count (r.ticks_end.clocks x) f a))
          (λ from y t. knower_acted partition_count (r.ticks_end.clocks x) k set (w.facts x).exchange.rows p f from y ((calm ns gs g set k w v r h).ticks x here from y t) (j.rows x from here (senders_ticks ns gs g set k w v r h left j x here from y t)) s) among) knower

      told : Any (SettledTo k m p) (outbox partition_count (r.ticks_end.clocks x) (r.ticks_end.facts x) (inbox r.ticks_end x))
      told =
          any_legible partition_count (r.ticks_end.clocks x) (Knower k set (w.facts x).exchange.rows p) (SettledTo k m p) (inbox r.ticks_end x) (r.ticks_end.facts x) (Gets m (progress_message partition_count (progressing partition_count (w.facts m)) true)) along (h.hands.legible.first x here)
          (λ f s. answers_settled (r.ticks_end.clocks x) k set (w.facts x).exchange.rows p f s m (view_key (progressing partition_count (w.facts m))) (key_of_telling ns gs g set k w v r h left m there) _ _ _)
          (told_all ns gs g set k w v r h left m x there here (λ i. d (sym i)) e)

      comes : Among (inbox r.first_end m) (Gets x told.which.1)
      comes =
          flow_arrives partition_count ns gs r.ticks_end r.first_end (calm ns gs g set k w v r h).group_first (calm ns gs g set k w v r h).ups_first r.first x m here there (λ i. d (sym i)) told.which.1
          (subst (λ (y : ℕ). Among (outbox partition_count (r.ticks_end.clocks x) (r.ticks_end.facts x) (inbox r.ticks_end x)) (y, told.which.1)) told.good.to told.among)

      second : Has false p (r.second_end.facts m).bits
      second =
          subst (λ (f : Facts). Has false p f.bits) (sym (r.second.facts m))
          (served_each partition_count (r.first_end.clocks m) (λ f. Over k set f) (λ f. Has false p f.bits) (inbox r.first_end m) (r.first_end.facts m) (Gets x told.which.1)
          (keeps_over partition_count (r.first_end.clocks m) k set r.first_end m ((calm ns gs g set k w v r h).first m there))
          (keeps_has partition_count (r.first_end.clocks m) false p r.first_end m ((calm ns gs g set k w v r h).first m there))
          (λ f o. told_settled partition_count (r.first_end.clocks m) k set p f x told.which.1 told.good.tells o)
          comes (empty_first ns gs g set k w v r h m there).0)
