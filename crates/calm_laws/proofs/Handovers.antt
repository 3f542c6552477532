-- In an undisturbed round of a group whose exchange is over each batch that is to be sent is sent and acknowledged.
use Rattle.std.proofs.Common.{◌≡◌, ℕ, Bool, true, false, List, [], ◌∷◌, map, Option, Some, None, refl, sym, ap, subst, ◌∙◌, inl, inr}
use Rattle.std.specs.Prelude.{filter_map, unwrap_or, if◌then◌else◌}
use Rattle.std.specs.List.{cons_option}
use Rattle.std.proofs.lemmas.Option.{none-some}
use Rattle.cluster_types.specs.declared.cluster_key.ClusterKey.{ClusterKey}
use Rattle.cluster_types.specs.declared.member.Member.{Member}
use Rattle.wire_messages.specs.declared.message.Batch.{Batch}
use Rattle.wire_messages.specs.declared.message.Message.{Message}
use Rattle.wire_messages.specs.declared.message.Message.TheVariants as message
use Rattle.node_rules.specs.Batches.{Target, Targets, batch_after, fresh_batch, next_batch}
use Rattle.node_rules.specs.Copies.{Content}
use Rattle.node_rules.specs.Exchange.{Exchange, View, is_view, exchange_key, with_row}
use Rattle.node_rules.specs.Facts.{Facts, view_key}
use Rattle.node_rules.specs.Keys.{same_key}
use Rattle.node_rules.specs.Notes.{after_ages}
use Rattle.node_rules.specs.Tick.{batch_to, batches, beat, propose, rows, transactions, parts, parts_in_order}
use Rattle.journal_readings.specs.Lines.{has_node}
use Rattle.cluster_rules.specs.World.{World}
use Rattle.key_laws.proofs.Order.{same_self}
use Rattle.run_laws.specs.Tied.{Among}
use Rattle.calm_laws.specs.Acts.{Input, Ticks, Gets, acted, as_read, effects, outbox, sent_at, served}
use Rattle.calm_laws.specs.Exchanges.{Exchanged, finished_if, taken_if, took}
use Rattle.calm_laws.specs.Flows.{Flowed, Rounded, inbox, ticks_if}
use Rattle.calm_laws.specs.Group.{kind}
use Rattle.calm_laws.specs.Handing.{Handing, Legible, Legibly, acked_by, target_begun, begun_with, target_acked}
use Rattle.calm_laws.specs.Turns.{Cleared, Ready, Steady, is_agreeing}
use Rattle.calm_laws.proofs.Acking.{Over, acted_acks, rests_begins}
use Rattle.calm_laws.proofs.Beginning.{aged_none}
use Rattle.calm_laws.proofs.Exchanging.{over_kept}
use Rattle.calm_laws.proofs.Flow.{among_behind, among_front}
use Rattle.calm_laws.proofs.Hearing.{gets_inbox}
use Rattle.calm_laws.proofs.Inputs.{Along, Keeps, kept_along, served_each, served_kept}
use Rattle.calm_laws.proofs.Proposals.{all_gets}
use Rattle.calm_laws.proofs.Proposing.{flow_arrives, tick_arrives}
use Rattle.calm_laws.proofs.Resting.{Undisturbed, undisturbed}
use Rattle.calm_laws.proofs.Sent.{AllGets}
use Rattle.calm_laws.proofs.Acknowledged.{Acked, Became, Pairs, acked_pairs_kept, acked_pairs_now, all_settled, all_settled_stay, became_pairs, pairs_became}
use Rattle.calm_laws.proofs.Steadying.{steady_rests}
use Rattle.calm_laws.proofs.Taking.{acted_takes, rests_exchange, rests_proposed}
use Rattle.calm_laws.proofs.Ticking.{proposed, tick_list, tick_sent}
use Rattle.node_rules.specs.BatchMessages.{merging_all}
use Rattle.node_rules.specs.Effects.{lines_and_sends, lines_only, to_one}
use Rattle.node_rules.specs.StaleMessages.{stale}
use Rattle.journal_lines.specs.declared.line.Line.TheVariants as line

-- ---- what is sent is read as it was sent

pub outbox_legible : (n c : ℕ) (P : Facts → Type 0) (is : List Input) (f : Facts) (x : Input) (m : ℕ × Message) → Along n c P f is → Legibly n c f is
    → ((g : Facts) → P g → Among (effects n c g x).sends m) → Among is x → Among (outbox n c f is) m
outbox_legible n c P [] f x m a l gives h = absurd h
outbox_legible n c P (i ∷ is) f x m a l gives (inl e) =
    among_front m (sent_at n c f i) (outbox n c (acted n c f i) is) (subst (λ (ms : List (ℕ × Message)). Among ms m) (sym l.0) (subst (λ (j : Input). Among (effects n c f j).sends m) (sym e) (gives f a.0)))
outbox_legible n c P (i ∷ is) f x m a l gives (inr h) =
    among_behind m (sent_at n c f i) (outbox n c (acted n c f i) is) (outbox_legible n c P is (acted n c f i) x m a.1 l.1 gives h)

-- ---- in the view

pub took_view : (e : Exchange) (from : ℕ) (x : Message) → (took e from x).view ≡ e.view
took_view e from (message.State key wants row) = go (is_view e.view key)
  where
    ends : (now : Exchange) (b : Bool) → (finished_if now b).view ≡ now.view
    ends now true = refl
    ends now false = refl

    go : (b : Bool) → (taken_if e from row b).view ≡ e.view
    go true = ends (record e { rows = with_row e.rows from row }) _
    go false = refl
took_view e from _ = refl

pub over_acted : (n c : ℕ) (k : ClusterKey) (set : List Member) (f : Facts) (from : ℕ) (x : Message) → is_agreeing (kind x) ≡ false → Over k set f → Over k set (acted n c f (Gets from x))
over_acted n c k set f from x free o = record {
  view = ap (λ (e : Exchange). e.view) (acted_takes n c f from x free) ∙ took_view f.exchange from x ∙ o.view;
  exchanged = ap (λ (e : Exchange). e.exchanged) (acted_takes n c f from x free) ∙ over_kept f.exchange from x o.exchanged;
}

-- what acknowledgements keep of the targets
pub keeps_acked : (n c : ℕ) (k : ClusterKey) (set : List Member) (P : Targets → Type 0) (is : List Input) → AllGets is → ((from : ℕ) (x : Message) → Among is (Gets from x) → is_agreeing (kind x) ≡ false)
    → ((ts : Targets) (from : ℕ) (x : Message) → P ts → P (acked_by k ts from x)) → Keeps n c (λ f. Over k set f × P f.batches) is
keeps_acked n c k set P is gets free kept f i h p =
    all_gets is i gets h (λ j. Among is j → Over k set (acted n c f j) × P (acted n c f j).batches)
    (λ from x there. (over_acted n c k set f from x (free from x there) p.0, subst P (sym (acted_acks n c k set f p.0 from x (free from x there))) (kept f.batches from x p.1))) h

pub flow_acked : (n : ℕ) (gs : List ℕ) (u v : World) (m : ℕ) (k : ClusterKey) (set : List Member) (P : Targets → Type 0) → Flowed n u v → Cleared gs u → has_node gs m ≡ true → ((ts : Targets) (from : ℕ) (x : Message) → P ts → P (acked_by k ts from x))
    → Over k set (u.facts m) × P (u.facts m).batches → Over k set (v.facts m) × P (v.facts m).batches
flow_acked n gs u v m k set P f cleared here kept p =
    subst (λ (g : Facts). Over k set g × P g.batches) (sym (f.facts m))
    (served_kept n (u.clocks m) (λ g. Over k set g × P g.batches) (inbox u m) (u.facts m) (keeps_acked n (u.clocks m) k set P (inbox u m) (gets_inbox u m) (cleared m here) kept) p)

-- ---- targets

among_sends : (k : ClusterKey) (c : Content) (ts : Targets) (t : Target) (b : Batch) → Among ts t → next_batch k c t ≡ Some b → Among (filter_map (λ (t : Target). batch_to t.node (next_batch k c t)) ts) (t.node, message.Batch b)
among_sends k c [] t b h e = absurd h
among_sends k c (s ∷ ts) t b (inl i) e =
    subst (λ (x : Target). Among (cons_option (batch_to x.node (next_batch k c x)) (filter_map (λ (t : Target). batch_to t.node (next_batch k c t)) ts)) (t.node, message.Batch b)) (sym i)
    (subst (λ (o : Option Batch). Among (cons_option (batch_to t.node o) (filter_map (λ (t : Target). batch_to t.node (next_batch k c t)) ts)) (t.node, message.Batch b)) (sym e) (inl refl))
among_sends k c (s ∷ ts) t b (inr i) e = go (next_batch k c s) (among_sends k c ts t b i e)
  where
    go : (o : Option Batch) → Among (filter_map (λ (t : Target). batch_to t.node (next_batch k c t)) ts) (t.node, message.Batch b) → Among (cons_option (batch_to s.node o) (filter_map (λ (t : Target). batch_to t.node (next_batch k c t)) ts)) (t.node, message.Batch b)
    go None j = j
    go (Some d) j = inr j

-- what is out after the tick was to be sent, to the same node
begun_out : (k : ClusterKey) (c : Content) (t : Target) → (target_begun k c t).out ≡ next_batch k c t
begun_out k c t = go (next_batch k c t) refl
  where
    waiting : (o : Option Batch) → t.out ≡ o → batch_after k c t o ≡ None → o ≡ None
    waiting None e i = refl
    waiting (Some b) e i = absurd (none-some b (sym i))

    go : (o : Option Batch) → next_batch k c t ≡ o → (begun_with t o).out ≡ o
    go None e = waiting t.out refl e
    go (Some b) e = refl

begun_to : (k : ClusterKey) (c : Content) (t : Target) → (target_begun k c t).node ≡ t.node
begun_to k c t = go (next_batch k c t)
  where
    go : (o : Option Batch) → (begun_with t o).node ≡ t.node
    go None = refl
    go (Some b) = refl

-- a batch is of the view
batch_key : (k : ClusterKey) (c : Content) (t : Target) (b : Batch) → ((d : Batch) → t.out ≡ Some d → d.key ≡ k) → next_batch k c t ≡ Some b → b.key ≡ k
batch_key k c t b out e = go t.out refl e
  where
    new : (ds : List (List ℕ)) → fresh_batch k c t ds ≡ Some b → b.key ≡ k
    new [] i = absurd (none-some b i)
    new (d ∷ ds) i = sym (ap (λ (o : Option Batch). (unwrap_or o b).key) i)

    go : (o : Option Batch) → t.out ≡ o → batch_after k c t o ≡ Some b → b.key ≡ k
    go None s i = new t.pending i
    go (Some d) s i = sym (ap (λ (o : Option Batch). (unwrap_or o b).key) i) ∙ out d s

-- where a target of these is from
pub record From (k : ClusterKey) (c : Content) (ts : Targets) (t : Target) : Type 0 where
  pub source : Target
  pub there : Among ts source
  pub is : target_begun k c source ≡ t

from_map : (k : ClusterKey) (c : Content) (ts : Targets) (t : Target) → Among (map (target_begun k c) ts) t → From k c ts t
from_map k c [] t h = absurd h
from_map k c (s ∷ ts) t (inl e) = record { source = s; there = inl refl; is = e }
from_map k c (s ∷ ts) t (inr h) = later (from_map k c ts t h)
  where
    later : From k c ts t → From k c (s ∷ ts) t
    later f = record { source = f.source; there = inr f.there; is = f.is }

-- ---- the round

pub record HandRound (n : ℕ) (ns gs : List ℕ) (g : ℕ) (set : List Member) (k : ClusterKey) (w v : World) (r : Rounded n w v) : Type 0 where
  pub ready : Ready ns gs g set w
  pub steady : Steady gs g set k w
  pub over : Exchanged gs w
  pub handing : Handing gs k w
  pub legible : Legible n gs w v r

module _ (n : ℕ) (ns gs : List ℕ) (g : ℕ) (set : List Member) (k : ClusterKey) (w v : World) (r : Rounded n w v) (h : HandRound n ns gs g set k w v r) where
  u : Undisturbed n ns gs w v r
  u = undisturbed n ns gs g set w v r h.ready (steady_rests ns gs g set k w h.ready h.steady)

  -- the targets after the ticks
  abbrev begins : ℕ → Targets
  begins m = map (target_begun k (w.facts m).store.content) (w.facts m).batches

  view_of : (m : ℕ) → has_node gs m ≡ true → view_key (w.facts m) ≡ k
  view_of m here = ap (λ (o : Option View). exchange_key o) (h.steady.views m here)

  ticked_facts_of : (m : ℕ) → has_node gs m ≡ true → r.ticks_end.facts m ≡ acted n (w.clocks m) (w.facts m) Ticks
  ticked_facts_of m here = u.ticked.facts m ∙ ap (λ (b : Bool). served n (w.clocks m) (w.facts m) (ticks_if b)) (h.ready.group.up m here)

  pub batches_ticks : (m : ℕ) → has_node gs m ≡ true → (r.ticks_end.facts m).batches ≡ map (target_begun k (w.facts m).store.content) (w.facts m).batches
  batches_ticks m here =
      ap (λ (f : Facts). f.batches) (ticked_facts_of m here)
      ∙ rests_begins n (w.clocks m) (w.facts m) (h.ready.base.up m (h.ready.group.up m here)) (aged_none (w.facts m) (h.ready.none m here)) (u.asks m here) (h.legible.ticks m here) (h.handing.once m here)
      ∙ ap (λ (q : ClusterKey). map (target_begun q (w.facts m).store.content) (w.facts m).batches) (view_of m here)

  pub over_ticks : (m : ℕ) → has_node gs m ≡ true → Over k set (r.ticks_end.facts m)
  over_ticks m here =
      let same : (r.ticks_end.facts m).exchange ≡ (w.facts m).exchange =
      ap (λ (f : Facts). f.exchange) (ticked_facts_of m here)
      ∙ rests_exchange n (w.clocks m) (w.facts m) (h.ready.base.up m (h.ready.group.up m here)) (aged_none (w.facts m) (h.ready.none m here)) (u.asks m here) in
      record { view = ap (λ (e : Exchange). e.view) same ∙ h.steady.views m here; exchanged = ap (λ (e : Exchange). e.exchanged) same ∙ h.over m here }

  became_ticks : (m : ℕ) (here : has_node gs m ≡ true) → Over k set (r.ticks_end.facts m) × Pairs Became (map (target_begun k (w.facts m).store.content) (w.facts m).batches) (r.ticks_end.facts m).batches
  became_ticks m here = (over_ticks m here, subst (λ (ts : Targets). Pairs Became (map (target_begun k (w.facts m).store.content) (w.facts m).batches) ts) (sym (batches_ticks m here)) (pairs_became (map (target_begun k (w.facts m).store.content) (w.facts m).batches)))

  became_first : (m : ℕ) (here : has_node gs m ≡ true) → Over k set (r.first_end.facts m) × Pairs Became (map (target_begun k (w.facts m).store.content) (w.facts m).batches) (r.first_end.facts m).batches
  became_first m here =
      flow_acked n gs r.ticks_end r.first_end m k set (Pairs Became (map (target_begun k (w.facts m).store.content) (w.facts m).batches)) r.first u.ticks here (became_pairs k (map (target_begun k (w.facts m).store.content) (w.facts m).batches)) (became_ticks m here)

  became_second : (m : ℕ) (here : has_node gs m ≡ true) → Over k set (r.second_end.facts m) × Pairs Became (map (target_begun k (w.facts m).store.content) (w.facts m).batches) (r.second_end.facts m).batches
  became_second m here =
      flow_acked n gs r.first_end r.second_end m k set (Pairs Became (map (target_begun k (w.facts m).store.content) (w.facts m).batches)) r.second u.first here (became_pairs k (map (target_begun k (w.facts m).store.content) (w.facts m).batches)) (became_first m here)

  -- each batch goes out
  batch_sent : (m : ℕ) (here : has_node gs m ≡ true) (t : Target) (b : Batch) → Among (w.facts m).batches t → next_batch k (w.facts m).store.content t ≡ Some b → Among (sent_at n (w.clocks m) (w.facts m) Ticks) (t.node, message.Batch b)
  batch_sent m here t b there next = subst (λ (ms : List (ℕ × Message)). Among ms (t.node, message.Batch b)) (sym (tick_sent n (w.clocks m) f up ∙ plain)) listed
    where
      f : Facts
      f = w.facts m

      up : (w.facts m).up ≡ true
      up = h.ready.base.up m (h.ready.group.up m here)

      plain : as_read (tick_list n (w.facts m)) ≡ tick_list n (w.facts m)
      plain = subst (λ (x : Bool). as_read (if x then parts_in_order (parts n) (w.facts m) else lines_only (line.Down (w.facts m).me ∷ [])).sends ≡ (if x then parts_in_order (parts n) (w.facts m) else lines_only (line.Down (w.facts m).me ∷ [])).sends) up (h.legible.ticks m here)

      part : Among (batches (proposed (w.facts m))).sends (t.node, message.Batch b)
      part =
          subst (λ (y : Facts). Among (batches y).sends (t.node, message.Batch b)) (sym (rests_proposed (w.facts m) (aged_none (w.facts m) (h.ready.none m here)) (u.asks m here)))
          (subst (λ (q : ClusterKey). Among (filter_map (λ (t : Target). batch_to t.node (next_batch q (w.facts m).store.content t)) (w.facts m).batches) (t.node, message.Batch b)) (sym (view_of m here))
          (among_sends k (w.facts m).store.content (w.facts m).batches t b there next))

      listed : Among (tick_list n (w.facts m)) (t.node, message.Batch b)
      listed =
          let x : ℕ × Message = (t.node, message.Batch b) in
          among_behind x (beat (after_ages (w.facts m))).sends _ (among_behind x (propose (after_ages (w.facts m))).sends _ (among_behind x (rows (proposed (w.facts m))).sends _ (among_behind x (transactions (proposed (w.facts m))).sends _
          (among_front x (batches (proposed (w.facts m))).sends _ part))))

  -- and is acknowledged
  ack_comes : (m : ℕ) (here : has_node gs m ≡ true) (t : Target) (b : Batch) → Among (w.facts m).batches t → next_batch k (w.facts m).store.content t ≡ Some b → Among (inbox r.first_end m) (Gets t.node (message.BatchAck k b.number))
  ack_comes m here t b there next =
      flow_arrives n ns gs r.ticks_end r.first_end u.group_first u.ups_first r.first t.node m to.0 here to.1 (message.BatchAck k b.number)
      (outbox_legible n (r.ticks_end.clocks t.node) (λ f. Over k set f × Pairs Became (begins t.node) f.batches) (inbox r.ticks_end t.node) (r.ticks_end.facts t.node) (Gets m (message.Batch b)) (m, message.BatchAck k b.number)
      (kept_along n (r.ticks_end.clocks t.node) (λ f. Over k set f × Pairs Became (begins t.node) f.batches) (inbox r.ticks_end t.node) (r.ticks_end.facts t.node)
      (keeps_acked n (r.ticks_end.clocks t.node) k set (Pairs Became (begins t.node)) (inbox r.ticks_end t.node) (gets_inbox r.ticks_end t.node) (u.ticks t.node to.0) (became_pairs k (begins t.node))) (became_ticks t.node to.0))
      (h.legible.first t.node to.0)
      (λ f p. acks f p.0)
      (tick_arrives n ns gs w r.ticks_end u.group_ticks u.ups_ticks u.ticked m t.node here to.0 (λ e. to.1 (sym e)) (message.Batch b) (batch_sent m here t b there next)))
    where
      to : (has_node gs t.node ≡ true) × (t.node ≡ m → ⊥)
      to = h.handing.to m here t there

      key : b.key ≡ k
      key = batch_key k (w.facts m).store.content t b (λ d e. h.handing.key m here t d there e) next

      acks : (f : Facts) → Over k set f → Among (if is_view f.exchange.view b.key then lines_and_sends (merging_all f b.records) (to_one m (message.BatchAck b.key b.number)) else stale f).sends (m, message.BatchAck k b.number)
      acks f o =
          subst (λ (c : Bool). Among (if c then lines_and_sends (merging_all f b.records) (to_one m (message.BatchAck b.key b.number)) else stale f).sends (m, message.BatchAck k b.number)) (sym (ap (λ (v : Option View). is_view v b.key) o.view ∙ ap (λ (q : ClusterKey). same_key k q) key ∙ same_self k))
          (inl (ap (λ (q : ClusterKey). (m, message.BatchAck q b.number)) key))

  acked_second : (m : ℕ) (here : has_node gs m ≡ true) (t : Target) → Among (begins m) t → (b : Batch) → t.out ≡ Some b → Pairs (Acked t.node b.number) (begins m) (r.second_end.facts m).batches
  acked_second m here t there b out = go (from_map k (w.facts m).store.content (w.facts m).batches t there)
    where
      go : From k (w.facts m).store.content (w.facts m).batches t → Pairs (Acked t.node b.number) (begins m) (r.second_end.facts m).batches
      go f =
          let c : ℕ = r.first_end.clocks m in
          let next : next_batch k (w.facts m).store.content f.source ≡ Some b = sym (begun_out k (w.facts m).store.content f.source) ∙ ap (λ (x : Target). x.out) f.is ∙ out in
          let to : f.source.node ≡ t.node = sym (begun_to k (w.facts m).store.content f.source) ∙ ap (λ (x : Target). x.node) f.is in
          let comes : Among (inbox r.first_end m) (Gets t.node (message.BatchAck k b.number)) = subst (λ (x : ℕ). Among (inbox r.first_end m) (Gets x (message.BatchAck k b.number))) to (ack_comes m here f.source b f.there next) in
          (subst (λ (y : Facts). Over k set y × Pairs (Acked t.node b.number) (begins m) y.batches) (sym (r.second.facts m))
          (served_each n c (λ y. Over k set y × Pairs Became (begins m) y.batches) (λ y. Over k set y × Pairs (Acked t.node b.number) (begins m) y.batches) (inbox r.first_end m) (r.first_end.facts m) (Gets t.node (message.BatchAck k b.number))
          (keeps_acked n c k set (Pairs Became (begins m)) (inbox r.first_end m) (gets_inbox r.first_end m) (u.first m here) (became_pairs k (begins m)))
          (keeps_acked n c k set (Pairs (Acked t.node b.number) (begins m)) (inbox r.first_end m) (gets_inbox r.first_end m) (u.first m here) (acked_pairs_kept t.node b.number k (begins m)))
          (λ y p. (over_acted n c k set y t.node (message.BatchAck k b.number) refl p.0, subst (λ (ts : Targets). Pairs (Acked t.node b.number) (begins m) ts) (sym (acted_acks n c k set y p.0 t.node (message.BatchAck k b.number) refl)) (acked_pairs_now k t.node b.number (begins m) y.batches (same_self k) p.1)))
          comes (became_first m here))).1

  -- at the end of the round each target has lost what its batch had, and nothing is out
  pub batches_end : (m : ℕ) → has_node gs m ≡ true → (v.facts m).batches ≡ map target_acked (map (target_begun k (w.facts m).store.content) (w.facts m).batches)
  batches_end m here =
      let P : Targets → Type 0 = λ ts. ts ≡ map target_acked (begins m) in
      (flow_acked n gs r.third_end v m k set P r.fourth u.third here (λ ts from x e. all_settled_stay k (begins m) ts from x e)
      (flow_acked n gs r.second_end r.third_end m k set P r.third u.second here (λ ts from x e. all_settled_stay k (begins m) ts from x e)
      ((became_second m here).0, all_settled (begins m) (r.second_end.facts m).batches (became_second m here).1 (acked_second m here)))).1
