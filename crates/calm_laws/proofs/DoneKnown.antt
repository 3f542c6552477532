-- A node that doesn't know all settled tells each other one that it is done, and they know it at the round's end.
use Rattle.std.proofs.Common.{◌≡◌, ℕ, ◌&&◌, not, Bool, true, false, List, [], Option, None, refl, sym, ap, subst, ◌∙◌, if◌then◌else◌, ◌∷◌}
use Rattle.cluster_types.specs.declared.cluster_key.ClusterKey.{ClusterKey}
use Rattle.cluster_types.specs.declared.member.Member.{Member}
use Rattle.cluster_types.specs.Partitions.{partition_count}
use Rattle.wire_messages.specs.declared.message.Message.{Message}
use Rattle.node_rules.specs.Agreement as agreement
use Rattle.node_rules.specs.Exchange.{Exchange, View, is_view, exchange_key, members_of}
use Rattle.node_rules.specs.Facts.{Facts, view_key}
use Rattle.node_rules.specs.Notes.{after_ages}
use Rattle.node_rules.specs.Settling.{settling_due}
use Rattle.node_rules.specs.Standing.{is_done, knows_all_settled, others}
use Rattle.node_rules.specs.Tick.{batches, beat, progress, progress_message, propose, rows, transactions, parts, parts_in_order}
use Rattle.journal_readings.specs.Lines.{has_node}
use Rattle.cluster_rules.specs.World.{World}
use Rattle.cluster_rules.proofs.OwnLines.{noted_me}
use Rattle.key_laws.proofs.Order.{same_self}
use Rattle.run_laws.specs.Tied.{Among}
use Rattle.calm_laws.specs.Acts.{Gets, Input, acted, as_read}
use Rattle.calm_laws.specs.Flows.{Flowed, Rounded, inbox}
use Rattle.calm_laws.specs.Group.{kind}
use Rattle.calm_laws.specs.Progresses.{Emptied, FullInbox, KnowsDone}
use Rattle.calm_laws.specs.Turns.{Cleared, is_agreeing}
use Rattle.calm_laws.proofs.Acking.{Over, settled_batches}
use Rattle.calm_laws.proofs.Beginning.{aged_none}
use Rattle.calm_laws.proofs.Flow.{among_behind, among_front}
use Rattle.calm_laws.proofs.Handovers.{over_acted}
use Rattle.calm_laws.proofs.Hearing.{gets_inbox}
use Rattle.calm_laws.proofs.Inputs.{Keeps, served_each, served_kept}
use Rattle.calm_laws.proofs.Knowing.{done_kept, done_told}
use Rattle.calm_laws.proofs.Proposals.{all_gets}
use Rattle.calm_laws.proofs.Proposing.{tick_arrives}
use Rattle.calm_laws.proofs.Rolls.{contains_among, other_in}
use Rattle.calm_laws.proofs.Taking.{rests_proposed, settled_exchange}
use Rattle.calm_laws.proofs.Telling.{TellRound, all_done, calm, empty_ticks, full_first, full_second, full_third, full_row, full_ticks}
use Rattle.calm_laws.proofs.Ticking.{progressing, proposed, tick_list, tick_sent}
use Rattle.calm_laws.proofs.Transacting.{to_each_among}
use Rattle.node_rules.specs.Effects.{lines_only, nothing, sends_only, to_each}
use Rattle.journal_lines.specs.declared.line.Line.TheVariants as line

-- ---- flows

pub keeps_done : (n c : ℕ) (k : ClusterKey) (set : List Member) (most x : ℕ) (is : List Input) (u : World) (gs : List ℕ) (m : ℕ) → ((from : ℕ) (y : Message) → Among (inbox u m) (Gets from y) → is_agreeing (kind y) ≡ false) → FullInbox most gs u → has_node gs m ≡ true
    → Keeps n c (λ f. Over k set f × KnowsDone most x f.bits) (inbox u m)
keeps_done n c k set most x is u gs m free full here f i there p =
    all_gets (inbox u m) i (gets_inbox u m) there (λ j. Among (inbox u m) j → Over k set (acted n c f j) × KnowsDone most x (acted n c f j).bits)
    (λ from y among. (over_acted n c k set f from y (free from y among) p.0, done_kept n c x f from y most (free from y among) (full m here from y among) p.1)) there

pub keeps_over : (n c : ℕ) (k : ClusterKey) (set : List Member) (u : World) (m : ℕ) → ((from : ℕ) (y : Message) → Among (inbox u m) (Gets from y) → is_agreeing (kind y) ≡ false) → Keeps n c (λ f. Over k set f) (inbox u m)
keeps_over n c k set u m free f i there p =
    all_gets (inbox u m) i (gets_inbox u m) there (λ j. Among (inbox u m) j → Over k set (acted n c f j)) (λ from y among. over_acted n c k set f from y (free from y among) p) there

pub flow_knows : (n : ℕ) (gs : List ℕ) (u v : World) (m : ℕ) (k : ClusterKey) (set : List Member) (most x : ℕ) → Flowed n u v → Cleared gs u → FullInbox most gs u → has_node gs m ≡ true → Over k set (u.facts m) × KnowsDone most x (u.facts m).bits → Over k set (v.facts m) × KnowsDone most x (v.facts m).bits
flow_knows n gs u v m k set most x f cleared full here p =
    subst (λ (g : Facts). Over k set g × KnowsDone most x g.bits) (sym (f.facts m))
    (served_kept n (u.clocks m) (λ g. Over k set g × KnowsDone most x g.bits) (inbox u m) (u.facts m) (keeps_done n (u.clocks m) k set most x (inbox u m) u gs m (cleared m here) full here) p)

-- ---- the round

module _ (ns gs : List ℕ) (g : ℕ) (set : List Member) (k : ClusterKey) (w v : World) (r : Rounded partition_count w v) (h : TellRound partition_count ns gs g set k w v r) (left : FullInbox partition_count gs w) where
  -- its facts as it tells of progress
  abbrev telling : ℕ → Facts
  telling x = progressing partition_count (w.facts x)

  pub up_of : (x : ℕ) → has_node gs x ≡ true → (w.facts x).up ≡ true
  up_of x here = h.hands.ready.base.up x (h.hands.ready.group.up x here)

  pub exchange_of : (x : ℕ) → has_node gs x ≡ true → (progressing partition_count (w.facts x)).exchange ≡ (w.facts x).exchange
  exchange_of x here = settled_exchange partition_count (w.facts x) (aged_none (w.facts x) (h.hands.ready.none x here)) ((calm ns gs g set k w v r h).asks x here)

  pub key_of_telling : (x : ℕ) → has_node gs x ≡ true → view_key (progressing partition_count (w.facts x)) ≡ k
  key_of_telling x here = ap (λ (e : Exchange). exchange_key e.view) (exchange_of x here) ∙ ap (λ (o : Option View). exchange_key o) (h.hands.steady.views x here)

  others_of : (x : ℕ) → has_node gs x ≡ true → others (progressing partition_count (w.facts x)) ≡ agreement.others_among x set
  others_of x here =
      ap (λ (e : Exchange). agreement.others_among (progressing partition_count (w.facts x)).me (members_of e.view)) (exchange_of x here)
      ∙ ap (λ (o : Option View). agreement.others_among (progressing partition_count (w.facts x)).me (members_of o)) (h.hands.steady.views x here)
      ∙ ap (λ (y : ℕ). agreement.others_among y set) (noted_me None (proposed (w.facts x)) (settling_due partition_count (proposed (w.facts x))) ∙ ap (λ (f : Facts). f.me) (rests_proposed (w.facts x) (aged_none (w.facts x) (h.hands.ready.none x here)) ((calm ns gs g set k w v r h).asks x here)) ∙ h.hands.ready.base.named x)

  done_telling : (x : ℕ) → has_node gs x ≡ true → (p : ℕ) → is_done (progressing partition_count (w.facts x)) p ≡ true
  done_telling x here =
      all_done (progressing partition_count (w.facts x)) (ap (λ (e : Exchange). e.exchanged) (exchange_of x here) ∙ h.hands.over x here)
      (subst Emptied (sym (settled_batches partition_count (w.facts x) (aged_none (w.facts x) (h.hands.ready.none x here)) ((calm ns gs g set k w v r h).asks x here))) (h.empty x here))

  -- who doesn't know all settled tells each other one
  pub told_all : (x m : ℕ) (here : has_node gs x ≡ true) → has_node gs m ≡ true → (m ≡ x → ⊥) → knows_all_settled (progressing partition_count (w.facts x)) partition_count 0 ≡ false
      → Among (inbox r.ticks_end m) (Gets x (progress_message partition_count (progressing partition_count (w.facts x)) true))
  told_all x m here there d e =
      tick_arrives partition_count ns gs w r.ticks_end (calm ns gs g set k w v r h).group_ticks (calm ns gs g set k w v r h).ups_ticks (calm ns gs g set k w v r h).ticked x m here there (λ i. d (sym i)) (progress_message partition_count (progressing partition_count (w.facts x)) true)
      (subst (λ (ms : List (ℕ × Message)). Among ms (m, progress_message partition_count (progressing partition_count (w.facts x)) true)) (sym (tick_sent partition_count (w.clocks x) (w.facts x) (up_of x here) ∙ plain)) (listed (progress_message partition_count (progressing partition_count (w.facts x)) true) part))
    where
      plain : as_read (tick_list partition_count (w.facts x)) ≡ tick_list partition_count (w.facts x)
      plain = subst (λ (b : Bool). as_read (if b then parts_in_order (parts partition_count) (w.facts x) else lines_only (line.Down (w.facts x).me ∷ [])).sends ≡ (if b then parts_in_order (parts partition_count) (w.facts x) else lines_only (line.Down (w.facts x).me ∷ [])).sends) (up_of x here) (h.hands.legible.ticks x here)

      tells : ((progressing partition_count (w.facts x)).exchange.exchanged && not (knows_all_settled (progressing partition_count (w.facts x)) partition_count 0)) ≡ true
      tells =
          ap (λ (b : Bool). b && not (knows_all_settled (progressing partition_count (w.facts x)) partition_count 0)) (ap (λ (e : Exchange). e.exchanged) (exchange_of x here) ∙ h.hands.over x here)
          ∙ ap (λ (b : Bool). not b) e

      part : Among (progress partition_count (progressing partition_count (w.facts x))).sends (m, progress_message partition_count (progressing partition_count (w.facts x)) true)
      part =
          subst (λ (b : Bool). Among (if b then sends_only (to_each (others (progressing partition_count (w.facts x))) (progress_message partition_count (progressing partition_count (w.facts x)) true)) else nothing).sends (m, progress_message partition_count (progressing partition_count (w.facts x)) true)) (sym tells)
          (to_each_among (others (progressing partition_count (w.facts x))) m (progress_message partition_count (progressing partition_count (w.facts x)) true)
          (subst (λ (ys : List ℕ). Among ys m) (sym (others_of x here)) (contains_among (agreement.others_among x set) m (other_in gs g set h.hands.ready.roll x m there d))))

      listed : (y : Message) → Among (progress partition_count (progressing partition_count (w.facts x))).sends (m, y) → Among (tick_list partition_count (w.facts x)) (m, y)
      listed y i =
          among_behind (m, y) (beat (after_ages (w.facts x))).sends _ (among_behind (m, y) (propose (after_ages (w.facts x))).sends _ (among_behind (m, y) (rows (proposed (w.facts x))).sends _
          (among_behind (m, y) (transactions (proposed (w.facts x))).sends _ (among_behind (m, y) (batches (proposed (w.facts x))).sends _ (among_front (m, y) (progress partition_count (progressing partition_count (w.facts x))).sends [] i)))))

  -- and all others know at the round's end that it is done
  pub knows_done_of : (x m : ℕ) → has_node gs x ≡ true → has_node gs m ≡ true → (m ≡ x → ⊥) → knows_all_settled (progressing partition_count (w.facts x)) partition_count 0 ≡ false → KnowsDone partition_count x (v.facts m).bits
  knows_done_of x m here there d e =
      (flow_knows partition_count gs r.third_end v m k set partition_count x r.fourth (calm ns gs g set k w v r h).third (full_third ns gs g set k w v r h) there
      (flow_knows partition_count gs r.second_end r.third_end m k set partition_count x r.third (calm ns gs g set k w v r h).second (full_second ns gs g set k w v r h) there
      (flow_knows partition_count gs r.first_end r.second_end m k set partition_count x r.second (calm ns gs g set k w v r h).first (full_first ns gs g set k w v r h) there first))).1
    where
      first : Over k set (r.first_end.facts m) × KnowsDone partition_count x (r.first_end.facts m).bits
      first =
          subst (λ (f : Facts). Over k set f × KnowsDone partition_count x f.bits) (sym (r.first.facts m))
          (served_each partition_count (r.ticks_end.clocks m) (λ f. Over k set f) (λ f. Over k set f × KnowsDone partition_count x f.bits) (inbox r.ticks_end m) (r.ticks_end.facts m) (Gets x (progress_message partition_count (progressing partition_count (w.facts x)) true))
          (keeps_over partition_count (r.ticks_end.clocks m) k set r.ticks_end m ((calm ns gs g set k w v r h).ticks m there))
          (keeps_done partition_count (r.ticks_end.clocks m) k set partition_count x (inbox r.ticks_end m) r.ticks_end gs m ((calm ns gs g set k w v r h).ticks m there) (full_ticks ns gs g set k w v r h left) there)
          (λ f o. (
            over_acted partition_count (r.ticks_end.clocks m) k set f x (progress_message partition_count (progressing partition_count (w.facts x)) true) refl o,
            done_told partition_count (r.ticks_end.clocks m) x f partition_count (view_key (progressing partition_count (w.facts x))) true _ _ _ (ap (λ (q : ClusterKey). is_view f.exchange.view q) (key_of_telling x here) ∙ ap (λ (o : Option View). is_view o k) o.view ∙ same_self k) (full_row (progressing partition_count (w.facts x)) (done_telling x here) partition_count 0),
          ))
          (told_all x m here there d e) (empty_ticks ns gs g set k w v r h m there).0)
