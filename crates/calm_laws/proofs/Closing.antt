-- In an undisturbed round of a group in one view each open transaction is resolved and closed.
use Rattle.std.proofs.Common.{◌≡◌, ℕ, Bool, true, false, List, [], ◌∷◌, Option, Some, None, refl, sym, ap, subst, ◌∙◌, ◌⊎◌, inl, inr}
use Rattle.std.specs.Prelude.{is_some, if◌then◌else◌}
use Rattle.std.specs.FinMap as finite
use Rattle.cluster_types.specs.declared.cluster_key.ClusterKey.{ClusterKey}
use Rattle.cluster_types.specs.declared.member.Member.{Member}
use Rattle.wire_messages.specs.declared.message.Message.{Message}
use Rattle.wire_messages.specs.declared.message.Message.TheVariants as message
use Rattle.node_rules.specs.Copies.{is_nil}
use Rattle.node_rules.specs.Exchange.{Exchange, is_view}
use Rattle.node_rules.specs.Facts.{Facts, view_key}
use Rattle.node_rules.specs.Notes.{after_ages}
use Rattle.node_rules.specs.Resolving.{repl}
use Rattle.node_rules.specs.Tables.{contains}
use Rattle.node_rules.specs.Tick.{beat, propose, rows, sends_again, transactions, parts, parts_in_order}
use Rattle.node_rules.specs.Transactions.{Transaction, Transactions, Write, transaction}
use Rattle.journal_readings.specs.Lines.{has_node}
use Rattle.cluster_rules.specs.World.{World}
use Rattle.cluster_laws.proofs.At.{differ}
use Rattle.run_laws.specs.Tied.{Among}
use Rattle.calm_laws.specs.Acts.{Input, Ticks, Gets, acted, as_read, effects, outbox, sent_at, served}
use Rattle.calm_laws.specs.Flows.{Rounded, inbox, ticks_if}
use Rattle.calm_laws.specs.Group.{kind}
use Rattle.calm_laws.specs.Handing.{Legible, Legibly}
use Rattle.calm_laws.specs.Transacting.{Awaits, HeardFrom, In, NoneOpen, Such, Waiting, open_at}
use Rattle.calm_laws.specs.Turns.{Ready, Steady, is_agreeing}
use Rattle.calm_laws.proofs.Beginning.{aged_none}
use Rattle.calm_laws.proofs.Flow.{among_behind, among_front}
use Rattle.calm_laws.proofs.Hearing.{gets_inbox}
use Rattle.calm_laws.proofs.Inputs.{Along, Any, kept_along, served_each}
use Rattle.calm_laws.proofs.Proposing.{flow_arrives, tick_arrives}
use Rattle.calm_laws.proofs.Resting.{Undisturbed, undisturbed}
use Rattle.calm_laws.proofs.Rolls.{contains_among, nothing_there}
use Rattle.calm_laws.proofs.Steadying.{steady_rests}
use Rattle.calm_laws.proofs.Taking.{rests_exchange, rests_proposed}
use Rattle.calm_laws.proofs.Ticking.{proposed, tick_list, tick_sent}
use Rattle.calm_laws.proofs.Transacting.{acted_heard, found_number, to_each_among}
use Rattle.calm_laws.proofs.Numbered.{nothing_open}
use Rattle.calm_laws.proofs.OpenSteps.{flow_open, heard_turns, in_acted, in_key, in_seen, keeps_open, none_turns, writes_close}
use Rattle.calm_laws.proofs.Resolutions.{Wrote, again_among, found_among, resolves, rests_transactions}
use Rattle.node_rules.specs.Effects.{lines_only, sends_only, to_one}
use Rattle.node_rules.specs.StaleMessages.{stale}
use Rattle.journal_lines.specs.declared.line.Line.TheVariants as line

-- ---- the round

pub record OpenRound (n : ℕ) (ns gs : List ℕ) (g : ℕ) (set : List Member) (k : ClusterKey) (w v : World) (r : Rounded n w v) : Type 0 where
  pub ready : Ready ns gs g set w
  pub steady : Steady gs g set k w
  pub waiting : Waiting gs w
  pub legible : Legible n gs w v r

module _ (n : ℕ) (ns gs : List ℕ) (g : ℕ) (set : List Member) (k : ClusterKey) (w v : World) (r : Rounded n w v) (h : OpenRound n ns gs g set k w v r) where
  u : Undisturbed n ns gs w v r
  u = undisturbed n ns gs g set w v r h.ready (steady_rests ns gs g set k w h.ready h.steady)

  ticked_of : (m : ℕ) → has_node gs m ≡ true → r.ticks_end.facts m ≡ acted n (w.clocks m) (w.facts m) Ticks
  ticked_of m here = u.ticked.facts m ∙ ap (λ (b : Bool). served n (w.clocks m) (w.facts m) (ticks_if b)) (h.ready.group.up m here)

  open_ticks : (m : ℕ) → has_node gs m ≡ true → (r.ticks_end.facts m).transactions ≡ (w.facts m).transactions
  open_ticks m here =
      ap (λ (f : Facts). f.transactions) (ticked_of m here)
      ∙ rests_transactions n (w.clocks m) (w.facts m) (h.ready.base.up m (h.ready.group.up m here)) (aged_none (w.facts m) (h.ready.none m here)) (u.asks m here)

  in_ticks : (m : ℕ) → has_node gs m ≡ true → In k set m (r.ticks_end.facts m)
  in_ticks m here = record {
    me = r.ticks.named m;
    view = ap (λ (f : Facts). f.exchange.view) (ticked_of m here)
        ∙ ap (λ (e : Exchange). e.view) (rests_exchange n (w.clocks m) (w.facts m) (h.ready.base.up m (h.ready.group.up m here)) (aged_none (w.facts m) (h.ready.none m here)) (u.asks m here))
        ∙ h.steady.views m here;
  }

  in_first : (m : ℕ) → has_node gs m ≡ true → In k set m (r.first_end.facts m)
  in_first m here = (flow_open n gs r.ticks_end r.first_end m k set 0 (λ o. Unit {0}) r.first u.ticks here (λ k number f x ms o z t h. tt) (in_ticks m here, tt)).0

  in_second : (m : ℕ) → has_node gs m ≡ true → In k set m (r.second_end.facts m)
  in_second m here = (flow_open n gs r.first_end r.second_end m k set 0 (λ o. Unit {0}) r.second u.first here (λ k number f x ms o z t h. tt) (in_first m here, tt)).0

  in_third : (m : ℕ) → has_node gs m ≡ true → In k set m (r.third_end.facts m)
  in_third m here = (flow_open n gs r.second_end r.third_end m k set 0 (λ o. Unit {0}) r.third u.second here (λ k number f x ms o z t h. tt) (in_second m here, tt)).0

  -- what stays closed
  gone_after_second : (m : ℕ) → has_node gs m ≡ true → (number : ℕ) → open_at (r.second_end.facts m) number ≡ None → open_at (v.facts m) number ≡ None
  gone_after_second m here number e =
      (flow_open n gs r.third_end v m k set number (λ o. o ≡ None) r.fourth u.third here none_turns
      (flow_open n gs r.second_end r.third_end m k set number (λ o. o ≡ None) r.third u.second here none_turns (in_second m here, e))).1

  gone_after_third : (m : ℕ) → has_node gs m ≡ true → (number : ℕ) → open_at (r.third_end.facts m) number ≡ None → open_at (v.facts m) number ≡ None
  gone_after_third m here number e = (flow_open n gs r.third_end v m k set number (λ o. o ≡ None) r.fourth u.third here none_turns (in_third m here, e)).1

  gone_after_ticks : (m : ℕ) → has_node gs m ≡ true → (number : ℕ) → open_at (r.ticks_end.facts m) number ≡ None → open_at (v.facts m) number ≡ None
  gone_after_ticks m here number e =
      gone_after_second m here number
      (flow_open n gs r.first_end r.second_end m k set number (λ o. o ≡ None) r.second u.first here none_turns
      (flow_open n gs r.ticks_end r.first_end m k set number (λ o. o ≡ None) r.first u.ticks here none_turns (in_ticks m here, e))).1

  -- what an open transaction sends comes to whom it awaits
  asked : (m : ℕ) (here : has_node gs m ≡ true) (t : Transaction) → Among (w.facts m).transactions.running t → (y : Message) → ((x : ℕ) → Among t.awaiting x → Among (sends_again (after_ages (w.facts m)) t t.applied) (x, y))
      → (x : ℕ) → contains t.awaiting x ≡ true → Among (inbox r.ticks_end x) (Gets m y)
  asked m here t there y goes x missed =
      let to : (has_node gs x ≡ true) × (x ≡ m → ⊥) = (h.waiting m here t there).1 x missed in
      tick_arrives n ns gs w r.ticks_end u.group_ticks u.ups_ticks u.ticked m x here to.0 (λ e. to.1 (sym e)) y
      (subst (λ (ms : List (ℕ × Message)). Among ms (x, y)) (sym (tick_sent n (w.clocks m) (w.facts m) up ∙ plain)) listed)
    where
      up : (w.facts m).up ≡ true
      up = h.ready.base.up m (h.ready.group.up m here)

      plain : as_read (tick_list n (w.facts m)) ≡ tick_list n (w.facts m)
      plain = subst (λ (b : Bool). as_read (if b then parts_in_order (parts n) (w.facts m) else lines_only (line.Down (w.facts m).me ∷ [])).sends ≡ (if b then parts_in_order (parts n) (w.facts m) else lines_only (line.Down (w.facts m).me ∷ [])).sends) up (h.legible.ticks m here)

      part : Among (transactions (proposed (w.facts m))).sends (x, y)
      part =
          subst (λ (f : Facts). Among (transactions f).sends (x, y)) (sym (rests_proposed (w.facts m) (aged_none (w.facts m) (h.ready.none m here)) (u.asks m here)))
          (again_among (after_ages (w.facts m)) (w.facts m).transactions.running t (x, y) there (goes x (contains_among t.awaiting x missed)))

      listed : Among (tick_list n (w.facts m)) (x, y)
      listed = among_behind (x, y) (beat (after_ages (w.facts m))).sends _ (among_behind (x, y) (propose (after_ages (w.facts m))).sends _ (among_behind (x, y) (rows (proposed (w.facts m))).sends _ (among_front (x, y) (transactions (proposed (w.facts m))).sends _ part)))

  -- a written one closes in the second flow
  written_closes : (m : ℕ) (here : has_node gs m ≡ true) (number : ℕ) (t : Transaction) (x : Write) → open_at (w.facts m) number ≡ Some t → t.applied ≡ Some x → open_at (v.facts m) number ≡ None
  written_closes m here number t x e a =
      gone_after_second m here number
      (writes_close n ns gs k set number r.ticks_end r.first_end r.second_end u.group_first u.ups_first r.first r.second u.ticks u.first in_ticks h.legible.first m here (λ y. contains t.awaiting y ≡ true)
      (λ y s. waits.1 y s) (repl (after_ages (w.facts m)) t x) (in_key k set m (w.facts m) (record { me = h.ready.base.named m; view = h.steady.views m here }), found_number (w.facts m).transactions.running number t e)
      (asked m here t there (repl (after_ages (w.facts m)) t x) (λ y s. subst (λ (o : Option Write). Among (sends_again (after_ages (w.facts m)) t o) (y, repl (after_ages (w.facts m)) t x)) (sym a) (to_each_among t.awaiting y (repl (after_ages (w.facts m)) t x) s)))
      (subst (λ (o : Option Transaction). Such (Awaits true (λ y. contains t.awaiting y ≡ true)) o) (sym (ap (λ (ts : Transactions). transaction ts number) (open_ticks m here) ∙ e))
      (record { applied = ap (λ (o : Option Write). is_some o) a; some = waits.0; within = λ y s. s })))
    where
      there : Among (w.facts m).transactions.running t
      there = found_among (w.facts m).transactions.running number t e

      waits : (is_nil t.awaiting ≡ false) × ((y : ℕ) → contains t.awaiting y ≡ true → (has_node gs y ≡ true) × (y ≡ m → ⊥))
      waits = h.waiting m here t (found_among (w.facts m).transactions.running number t e)

  -- a write that went out in a flow closes it two flows later
  wrote_first : (m : ℕ) → has_node gs m ≡ true → (number : ℕ) → Wrote k set m number (outbox n (r.ticks_end.clocks m) (r.ticks_end.facts m) (inbox r.ticks_end m)) (open_at (r.first_end.facts m) number) → open_at (v.facts m) number ≡ None
  wrote_first m here number o =
      gone_after_third m here number
      (writes_close n ns gs k set number r.first_end r.second_end r.third_end u.group_second u.ups_second r.second r.third u.first u.second in_first h.legible.second m here (λ y. contains o.others y ≡ true)
      (λ y s. (sym (h.ready.roll.ids y) ∙ (o.members y s).0, (o.members y s).1)) o.write o.writes
      (λ y s. flow_arrives n ns gs r.ticks_end r.first_end u.group_first u.ups_first r.first m y here (sym (h.ready.roll.ids y) ∙ (o.members y s).0) (λ i. (o.members y s).1 (sym i)) o.write (o.goes y s)) o.status)

  wrote_second : (m : ℕ) → has_node gs m ≡ true → (number : ℕ) → Wrote k set m number (outbox n (r.first_end.clocks m) (r.first_end.facts m) (inbox r.first_end m)) (open_at (r.second_end.facts m) number) → open_at (v.facts m) number ≡ None
  wrote_second m here number o =
      writes_close n ns gs k set number r.second_end r.third_end v u.group_third u.ups_third r.third r.fourth u.second u.third in_second h.legible.third m here (λ y. contains o.others y ≡ true)
      (λ y s. (sym (h.ready.roll.ids y) ∙ (o.members y s).0, (o.members y s).1)) o.write o.writes
      (λ y s. flow_arrives n ns gs r.first_end r.second_end u.group_second u.ups_second r.second m y here (sym (h.ready.roll.ids y) ∙ (o.members y s).0) (λ i. (o.members y s).1 (sym i)) o.write (o.goes y s)) o.status

-- ---- answers

-- the message answers for a transaction of the view
abbrev Answers : ClusterKey → ℕ → Message → Type 0
Answers k number (message.Answer key t v) = (key ≡ k) × (t ≡ number)
Answers k number _ = ⊥

record AnswerTo (k : ClusterKey) (number m : ℕ) (l : ℕ × Message) : Type 0 where
  to : l.0 ≡ m
  answers : Answers k number l.1

pub any_legible : (n c : ℕ) (P : Facts → Type 0) (T : ℕ × Message → Type 0) (is : List Input) (f : Facts) (x : Input) → Along n c P f is → Legibly n c f is → ((g : Facts) → P g → Any T (effects n c g x).sends) → Among is x → Any T (outbox n c f is)
any_legible n c P T [] f x a l gives h = absurd h
any_legible n c P T (i ∷ is) f x a l gives (inl e) = go (subst (λ (j : Input). Any T (effects n c f j).sends) (sym e) (gives f a.0))
  where
    go : Any T (effects n c f i).sends → Any T (outbox n c f (i ∷ is))
    go y = record { which = y.which; among = among_front y.which (sent_at n c f i) (outbox n c (acted n c f i) is) (subst (λ (ms : List (ℕ × Message)). Among ms y.which) (sym l.0) y.among); good = y.good }
any_legible n c P T (i ∷ is) f x a l gives (inr h) = go (any_legible n c P T is (acted n c f i) x a.1 l.1 gives h)
  where
    go : Any T (outbox n c (acted n c f i) is) → Any T (outbox n c f (i ∷ is))
    go y = record { which = y.which; among = among_behind y.which (sent_at n c f i) (outbox n c (acted n c f i) is) y.among; good = y.good }

heard_by : (n c : ℕ) (k : ClusterKey) (set : List Member) (m number : ℕ) (f : Facts) (x : ℕ) (y : Message) → Answers k number y → In k set m f → Such (HeardFrom x) (open_at (acted n c f (Gets x y)) number)
heard_by n c k set m number f x (message.Answer key t v) a i =
    subst (λ (q : ClusterKey). Such (HeardFrom x) (open_at (acted n c f (Gets x (message.Answer q t v))) number)) (sym a.0)
    (subst (λ (j : ℕ). Such (HeardFrom x) (open_at (acted n c f (Gets x (message.Answer k j v))) number)) (sym a.1)
    (acted_heard n c k f (in_seen k set m f i) (in_key k set m f i) x number v))
heard_by n c k set m number f x _ a i = absurd a

answer_free : (k : ClusterKey) (number : ℕ) (y : Message) → Answers k number y → is_agreeing (kind y) ≡ false
answer_free k number (message.Answer key t v) a = refl
answer_free k number _ a = absurd a

-- a transaction whose write isn't applied and that awaits nobody any more is gone
unheard : (S : ℕ → Type 0) (o : Option Transaction) → Such (Awaits false S) o → ((x : ℕ) → S x → Such (HeardFrom x) o) → o ≡ None
unheard S None h heard = refl
unheard S (Some t) h heard = differ (nothing_there t.awaiting (λ x. go x (contains t.awaiting x) refl)) h.some
  where
    go : (x : ℕ) (b : Bool) → contains t.awaiting x ≡ b → contains t.awaiting x ≡ false
    go x false e = e
    go x true e = heard x (h.within x e) h.applied

module _ (n : ℕ) (ns gs : List ℕ) (g : ℕ) (set : List Member) (k : ClusterKey) (w v : World) (r : Rounded n w v) (h : OpenRound n ns gs g set k w v r) where
  abbrev undist : Undisturbed n ns gs w v r
  undist = undisturbed n ns gs g set w v r h.ready (steady_rests ns gs g set k w h.ready h.steady)

  module _ (m : ℕ) (here : has_node gs m ≡ true) (number : ℕ) (t : Transaction) (e : open_at (w.facts m) number ≡ Some t) (a : t.applied ≡ None) where
    waits : (is_nil t.awaiting ≡ false) × ((y : ℕ) → contains t.awaiting y ≡ true → (has_node gs y ≡ true) × (y ≡ m → ⊥))
    waits = h.waiting m here t (found_among (w.facts m).transactions.running number t e)

    -- the question comes, and its answer
    answer_comes : (x : ℕ) → contains t.awaiting x ≡ true → (y : Message) × Answers k number y × Among (inbox r.first_end m) (Gets x y)
    answer_comes x missed = (some.which.1, some.good.answers, arrived)
      where
        to : (has_node gs x ≡ true) × (x ≡ m → ⊥)
        to = waits.1 x missed

        question : Message
        question = message.Ask (view_key (after_ages (w.facts m))) t.number t.digest

        comes : Among (inbox r.ticks_end x) (Gets m (message.Ask (view_key (after_ages (w.facts m))) t.number t.digest))
        comes = asked n ns gs g set k w v r h m here t (found_among (w.facts m).transactions.running number t e) (message.Ask (view_key (after_ages (w.facts m))) t.number t.digest)
            (λ y s. subst (λ (o : Option Write). Among (sends_again (after_ages (w.facts m)) t o) (y, message.Ask (view_key (after_ages (w.facts m))) t.number t.digest)) (sym a) (to_each_among t.awaiting y (message.Ask (view_key (after_ages (w.facts m))) t.number t.digest) s)) x missed

        key : view_key (after_ages (w.facts m)) ≡ k
        key = in_key k set m (w.facts m) (record { me = h.ready.base.named m; view = h.steady.views m here })

        answered : (f : Facts) → In k set x f × Unit {0} → Any (AnswerTo k number m) (if is_view f.exchange.view (view_key (after_ages (w.facts m))) then sends_only (to_one m (message.Answer (view_key (after_ages (w.facts m))) t.number (finite.get f.store.content t.digest))) else stale f).sends
        answered f i =
            subst (λ (b : Bool). Any (AnswerTo k number m) (if b then sends_only (to_one m (message.Answer (view_key (after_ages (w.facts m))) t.number (finite.get f.store.content t.digest))) else stale f).sends) (sym (ap (λ (q : ClusterKey). is_view f.exchange.view q) key ∙ in_seen k set x f i.0))
            (record { which = (m, message.Answer (view_key (after_ages (w.facts m))) t.number (finite.get f.store.content t.digest)); among = inl refl; good = record { to = refl; answers = (key, found_number (w.facts m).transactions.running number t e) } })

        some : Any (AnswerTo k number m) (outbox n (r.ticks_end.clocks x) (r.ticks_end.facts x) (inbox r.ticks_end x))
        some =
            any_legible n (r.ticks_end.clocks x) (λ f. In k set x f × Unit {0}) (AnswerTo k number m) (inbox r.ticks_end x) (r.ticks_end.facts x) (Gets m (message.Ask (view_key (after_ages (w.facts m))) t.number t.digest))
            (kept_along n (r.ticks_end.clocks x) (λ f. In k set x f × Unit {0}) (inbox r.ticks_end x) (r.ticks_end.facts x)
            (keeps_open n (r.ticks_end.clocks x) k set x number (λ o. Unit {0}) (inbox r.ticks_end x) (gets_inbox r.ticks_end x) (undist.ticks x to.0) (λ k number f x ms o z t h. tt)) (in_ticks n ns gs g set k w v r h x to.0, tt))
            (h.legible.first x to.0) answered comes

        arrived : Among (inbox r.first_end m) (Gets x some.which.1)
        arrived =
            flow_arrives n ns gs r.ticks_end r.first_end undist.group_first undist.ups_first r.first x m to.0 here to.1 some.which.1
            (subst (λ (y : ℕ). Among (outbox n (r.ticks_end.clocks x) (r.ticks_end.facts x) (inbox r.ticks_end x)) (y, some.which.1)) some.good.to some.among)

    heard_second : (x : ℕ) → contains t.awaiting x ≡ true → Such (HeardFrom x) (open_at (r.second_end.facts m) number)
    heard_second x missed = go (answer_comes x missed)
      where
        c : ℕ
        c = r.first_end.clocks m

        go : (y : Message) × Answers k number y × Among (inbox r.first_end m) (Gets x y) → Such (HeardFrom x) (open_at (r.second_end.facts m) number)
        go y =
            (subst (λ (f : Facts). In k set m f × Such (HeardFrom x) (open_at f number)) (sym (r.second.facts m))
            (served_each n (r.first_end.clocks m) (λ f. In k set m f × Unit {0}) (λ f. In k set m f × Such (HeardFrom x) (open_at f number)) (inbox r.first_end m) (r.first_end.facts m) (Gets x y.0)
            (keeps_open n (r.first_end.clocks m) k set m number (λ o. Unit {0}) (inbox r.first_end m) (gets_inbox r.first_end m) (undist.first m here) (λ k number f x ms o z t h. tt))
            (keeps_open n (r.first_end.clocks m) k set m number (Such (HeardFrom x)) (inbox r.first_end m) (gets_inbox r.first_end m) (undist.first m here) (heard_turns x))
            (λ f p. (in_acted n (r.first_end.clocks m) k set m f x y.0 (answer_free k number y.0 y.1) p.0, heard_by n (r.first_end.clocks m) k set m number f x y.0 y.1 p.0))
            y.2 (in_first n ns gs g set k w v r h m here, tt))).1

    unwritten_closes : open_at (v.facts m) number ≡ None
    unwritten_closes = first (resolves n (r.ticks_end.clocks m) k set m number (λ y. contains t.awaiting y ≡ true) (inbox r.ticks_end m) (gets_inbox r.ticks_end m) (undist.ticks m here) (r.ticks_end.facts m) (h.legible.first m here) (in_ticks n ns gs g set k w v r h m here) begin)
      where
        begin : Such (Awaits false (λ y. contains t.awaiting y ≡ true)) (open_at (r.ticks_end.facts m) number)
        begin =
            subst (λ (o : Option Transaction). Such (Awaits false (λ y. contains t.awaiting y ≡ true)) o) (sym (ap (λ (ts : Transactions). transaction ts number) (open_ticks n ns gs g set k w v r h m here) ∙ e))
            (record { applied = ap (λ (o : Option Write). is_some o) a; some = waits.0; within = λ y s. s })

        second : Such (Awaits false (λ y. contains t.awaiting y ≡ true)) (open_at (served n (r.first_end.clocks m) (r.first_end.facts m) (inbox r.first_end m)) number)
            ⊎ Wrote k set m number (outbox n (r.first_end.clocks m) (r.first_end.facts m) (inbox r.first_end m)) (open_at (served n (r.first_end.clocks m) (r.first_end.facts m) (inbox r.first_end m)) number) → open_at (v.facts m) number ≡ None
        second (inl s) =
            gone_after_second n ns gs g set k w v r h m here number
            (unheard (λ y. contains t.awaiting y ≡ true) (open_at (r.second_end.facts m) number) (subst (λ (f : Facts). Such (Awaits false (λ y. contains t.awaiting y ≡ true)) (open_at f number)) (sym (r.second.facts m)) s) heard_second)
        second (inr o) =
            wrote_second n ns gs g set k w v r h m here number (subst (λ (f : Facts). Wrote k set m number (outbox n (r.first_end.clocks m) (r.first_end.facts m) (inbox r.first_end m)) (open_at f number)) (sym (r.second.facts m)) o)

        first : Such (Awaits false (λ y. contains t.awaiting y ≡ true)) (open_at (served n (r.ticks_end.clocks m) (r.ticks_end.facts m) (inbox r.ticks_end m)) number)
            ⊎ Wrote k set m number (outbox n (r.ticks_end.clocks m) (r.ticks_end.facts m) (inbox r.ticks_end m)) (open_at (served n (r.ticks_end.clocks m) (r.ticks_end.facts m) (inbox r.ticks_end m)) number) → open_at (v.facts m) number ≡ None
        first (inl s) =
            second (resolves n (r.first_end.clocks m) k set m number (λ y. contains t.awaiting y ≡ true) (inbox r.first_end m) (gets_inbox r.first_end m) (undist.first m here) (r.first_end.facts m) (h.legible.second m here) (in_first n ns gs g set k w v r h m here)
            (subst (λ (f : Facts). Such (Awaits false (λ y. contains t.awaiting y ≡ true)) (open_at f number)) (sym (r.first.facts m)) s))
        first (inr o) =
            wrote_first n ns gs g set k w v r h m here number (subst (λ (f : Facts). Wrote k set m number (outbox n (r.ticks_end.clocks m) (r.ticks_end.facts m) (inbox r.ticks_end m)) (open_at f number)) (sym (r.first.facts m)) o)

  -- no transaction is open at the end of the round
  pub open_closes : NoneOpen gs v
  open_closes m here = nothing_open (v.facts m).transactions.running (λ number. go number (open_at (w.facts m) number) refl)
    where
      go : (number : ℕ) (o : Option Transaction) → open_at (w.facts m) number ≡ o → open_at (v.facts m) number ≡ None
      go number None e = gone_after_ticks n ns gs g set k w v r h m here number (ap (λ (ts : Transactions). transaction ts number) (open_ticks n ns gs g set k w v r h m here) ∙ e)
      go number (Some t) e = by_write t.applied refl
        where
          by_write : (o : Option Write) → t.applied ≡ o → open_at (v.facts m) number ≡ None
          by_write None a = unwritten_closes m here number t e a
          by_write (Some x) a = written_closes n ns gs g set k w v r h m here number t x e a
