-- What the acts of an undisturbed round keep of an open transaction, and how its acknowledgements close it.
use Rattle.std.proofs.Common.{◌≡◌, ℕ, Bool, true, false, List, Option, Some, None, refl, sym, ap, subst, ◌∙◌, inl, inr}
use Rattle.std.specs.Prelude.{is_some, if◌then◌else◌}
use Rattle.std.proofs.lemmas.Option.{none-some}
use Rattle.cluster_types.specs.declared.cluster_key.ClusterKey.{ClusterKey}
use Rattle.cluster_types.specs.declared.member.Member.{Member}
use Rattle.wire_messages.specs.declared.message.Message.{Message}
use Rattle.wire_messages.specs.declared.message.Message.TheVariants as message
use Rattle.node_rules.specs.Exchange.{Exchange, View, is_view, exchange_key}
use Rattle.node_rules.specs.Facts.{Facts, view_key}
use Rattle.node_rules.specs.Messages.{due_message_of}
use Rattle.node_rules.specs.Tables.{contains}
use Rattle.node_rules.specs.Transactions.{Transaction}
use Rattle.journal_readings.specs.Lines.{has_node}
use Rattle.cluster_rules.specs.World.{World, is_up}
use Rattle.cluster_laws.proofs.At.{differ}
use Rattle.key_laws.proofs.Addressed.{in_without}
use Rattle.key_laws.proofs.Order.{same_self}
use Rattle.run_laws.specs.Tied.{Among}
use Rattle.calm_laws.specs.Acts.{Input, Gets, acted}
use Rattle.calm_laws.specs.Flows.{Flowed, inbox}
use Rattle.calm_laws.specs.Group.{Group, kind}
use Rattle.calm_laws.specs.Handing.{Legibly}
use Rattle.calm_laws.specs.Transacting.{Awaits, HeardFrom, In, Lost, Shrinks, Such, Turns, WritesFor, open_at}
use Rattle.calm_laws.specs.Turns.{Cleared, is_agreeing}
use Rattle.calm_laws.proofs.Handovers.{outbox_legible, took_view}
use Rattle.calm_laws.proofs.Hearing.{gets_inbox}
use Rattle.calm_laws.proofs.Inputs.{Keeps, kept_along, served_each, served_kept}
use Rattle.calm_laws.proofs.Proposals.{all_gets, without_hasnt}
use Rattle.calm_laws.proofs.Proposing.{flow_arrives}
use Rattle.calm_laws.proofs.Rolls.{nothing_there}
use Rattle.calm_laws.proofs.Same.{acted_same}
use Rattle.calm_laws.proofs.Sent.{AllGets}
use Rattle.calm_laws.proofs.Taking.{acted_takes}
use Rattle.calm_laws.proofs.Transacting.{acted_lost, acted_opens}
use Rattle.node_rules.specs.BatchMessages.{merging}
use Rattle.node_rules.specs.Effects.{lines_and_sends, to_one}
use Rattle.node_rules.specs.StaleMessages.{stale}

-- ---- what an act keeps

abbrev pub Step : (Option Transaction → Option Transaction → Type 0) → Type 0
Step R = (k : ClusterKey) (number : ℕ) (f : Facts) (x : ℕ) (ms : List (ℕ × Message)) (o z : Option Transaction) → Turns k number f x ms o z → R o z

pub none_turns : Step (λ o z. o ≡ None → z ≡ None)
none_turns k number f x ms o z (inl e) h = e ∙ h
none_turns k number f x ms o z (inr (inl e)) h = e
none_turns k number f x ms o z (inr (inr (inl s))) h = absurd (none-some s.was (sym h ∙ s.before))
none_turns k number f x ms o z (inr (inr (inr r))) h = absurd (none-some r.was (sym h ∙ r.before))

pub such_at : (P : Transaction → Type 0) (o : Option Transaction) (t : Transaction) → o ≡ Some t → Such P o → P t
such_at P o t e h = subst (λ (o : Option Transaction). Such P o) e h

pub shrinks_awaits : (b : Bool) (S : ℕ → Type 0) (x : ℕ) (o z : Option Transaction) → Shrinks x o z → Such (Awaits b S) o → Such (Awaits b S) z
shrinks_awaits b S x o z s h =
    let a : Awaits b S s.was = such_at (Awaits b S) o s.was s.before h in
    subst (λ (o : Option Transaction). Such (Awaits b S) o) (sym s.after) (record {
      applied = ap (λ (w : Option _). is_some w) s.applied ∙ a.applied;
      some = s.some;
      within = λ y e. a.within y (in_without s.was.awaiting x y (ap (λ (ys : List ℕ). contains ys y) (sym s.awaiting) ∙ e));
    })

pub applied_turns : (S : ℕ → Type 0) → Step (λ o z. Such (Awaits true S) o → Such (Awaits true S) z)
applied_turns S k number f x ms o z (inl e) h = subst (λ (o : Option Transaction). Such (Awaits true S) o) (sym e) h
applied_turns S k number f x ms o z (inr (inl e)) h = subst (λ (o : Option Transaction). Such (Awaits true S) o) (sym e) tt
applied_turns S k number f x ms o z (inr (inr (inl s))) h = shrinks_awaits true S x o z s h
applied_turns S k number f x ms o z (inr (inr (inr r))) h = differ (such_at (Awaits true S) o r.was r.before h).applied r.waiting

pub lost_turns : (S : ℕ → Type 0) (y : ℕ) → Step (λ o z. Such (Awaits true S) o × Such (Lost y) o → Such (Awaits true S) z × Such (Lost y) z)
lost_turns S y k number f x ms o z turn h = (applied_turns S k number f x ms o z turn h.0, go turn)
  where
    go : Turns k number f x ms o z → Such (Lost y) z
    go (inl e) = subst (λ (o : Option Transaction). Such (Lost y) o) (sym e) h.1
    go (inr (inl e)) = subst (λ (o : Option Transaction). Such (Lost y) o) (sym e) tt
    go (inr (inr (inl s))) = subst (λ (o : Option Transaction). Such (Lost y) o) (sym s.after) (ap (λ (ys : List ℕ). contains ys y) s.awaiting ∙ without_hasnt s.was.awaiting x y (such_at (Lost y) o s.was s.before h.1))
    go (inr (inr (inr r))) = differ (such_at (Awaits true S) o r.was r.before h.0).applied r.waiting

pub heard_turns : (y : ℕ) → Step (λ o z. Such (HeardFrom y) o → Such (HeardFrom y) z)
heard_turns y k number f x ms o z (inl e) h = subst (λ (o : Option Transaction). Such (HeardFrom y) o) (sym e) h
heard_turns y k number f x ms o z (inr (inl e)) h = subst (λ (o : Option Transaction). Such (HeardFrom y) o) (sym e) tt
heard_turns y k number f x ms o z (inr (inr (inl s))) h =
    subst (λ (o : Option Transaction). Such (HeardFrom y) o) (sym s.after)
    (λ i. ap (λ (ys : List ℕ). contains ys y) s.awaiting ∙ without_hasnt s.was.awaiting x y (such_at (HeardFrom y) o s.was s.before h (ap (λ (w : Option _). is_some w) (sym s.applied) ∙ i)))
heard_turns y k number f x ms o z (inr (inr (inr r))) h = subst (λ (o : Option Transaction). Such (HeardFrom y) o) (sym r.after) (λ i. differ r.applied i)

-- ---- a node in the view

pub in_acted : (n c : ℕ) (k : ClusterKey) (set : List Member) (m : ℕ) (f : Facts) (x : ℕ) (y : Message) → is_agreeing (kind y) ≡ false → In k set m f → In k set m (acted n c f (Gets x y))
in_acted n c k set m f x y free i = record {
  me = (acted_same n c f (Gets x y)).me ∙ i.me;
  view = ap (λ (e : Exchange). e.view) (acted_takes n c f x y free) ∙ took_view f.exchange x y ∙ i.view;
}

pub in_key : (k : ClusterKey) (set : List Member) (m : ℕ) (f : Facts) → In k set m f → view_key f ≡ k
in_key k set m f i = ap (λ (o : Option View). exchange_key o) i.view

pub in_seen : (k : ClusterKey) (set : List Member) (m : ℕ) (f : Facts) → In k set m f → is_view f.exchange.view k ≡ true
in_seen k set m f i = ap (λ (o : Option View). is_view o k) i.view ∙ same_self k

pub keeps_open : (n c : ℕ) (k : ClusterKey) (set : List Member) (m number : ℕ) (Q : Option Transaction → Type 0) (is : List Input) → AllGets is → ((from : ℕ) (x : Message) → Among is (Gets from x) → is_agreeing (kind x) ≡ false) → Step (λ o z. Q o → Q z)
    → Keeps n c (λ f. In k set m f × Q (open_at f number)) is
keeps_open n c k set m number Q is gets free step f i h p =
    all_gets is i gets h (λ j. Among is j → In k set m (acted n c f j) × Q (open_at (acted n c f j) number))
    (λ from x there. (
      in_acted n c k set m f from x (free from x there) p.0,
      step k number f from (due_message_of n f c from x).sends (open_at f number) (open_at (acted n c f (Gets from x)) number) (acted_opens n c k f (in_key k set m f p.0) from number x (free from x there)) p.1,
    )) h

pub flow_open : (n : ℕ) (gs : List ℕ) (u v : World) (m : ℕ) (k : ClusterKey) (set : List Member) (number : ℕ) (Q : Option Transaction → Type 0) → Flowed n u v → Cleared gs u → has_node gs m ≡ true → Step (λ o z. Q o → Q z)
    → In k set m (u.facts m) × Q (open_at (u.facts m) number) → In k set m (v.facts m) × Q (open_at (v.facts m) number)
flow_open n gs u v m k set number Q f cleared here step p =
    subst (λ (g : Facts). In k set m g × Q (open_at g number)) (sym (f.facts m))
    (served_kept n (u.clocks m) (λ g. In k set m g × Q (open_at g number)) (inbox u m) (u.facts m) (keeps_open n (u.clocks m) k set m number Q (inbox u m) (gets_inbox u m) (cleared m here) step) p)

-- ---- acknowledgements close

-- a written transaction of which nobody is awaited any more is gone
pub nobody : (S : ℕ → Type 0) (T : ℕ → Bool) → (o : Option Transaction) → Such (Awaits true S) o → ((x : ℕ) → S x → Such (Lost x) o) → o ≡ None
nobody S T None h lost = refl
nobody S T (Some t) h lost = differ (nothing_there t.awaiting (λ x. go x (contains t.awaiting x) refl)) h.some
  where
    go : (x : ℕ) (b : Bool) → contains t.awaiting x ≡ b → contains t.awaiting x ≡ false
    go x false e = e
    go x true e = lost x (h.within x e)

module _ (n : ℕ) (ns gs : List ℕ) (k : ClusterKey) (set : List Member) (number : ℕ) where
  -- writes that come in a flow are acknowledged in the next one, and close the transaction
  pub writes_close : (u v z : World) → Group ns gs v → ((m : ℕ) → has_node ns m ≡ true → is_up v m ≡ true) → Flowed n u v → Flowed n v z → Cleared gs u → Cleared gs v
      → ((x : ℕ) → has_node gs x ≡ true → In k set x (u.facts x)) → ((x : ℕ) → has_node gs x ≡ true → Legibly n (u.clocks x) (u.facts x) (inbox u x))
      → (m : ℕ) → has_node gs m ≡ true → (S : ℕ → Type 0) → ((x : ℕ) → S x → (has_node gs x ≡ true) × (x ≡ m → ⊥)) → (y : Message) → WritesFor k number y → ((x : ℕ) → S x → Among (inbox u x) (Gets m y))
      → Such (Awaits true S) (open_at (u.facts m) number) → open_at (z.facts m) number ≡ None
  writes_close u v z g ups f h first second inside legible m here S others y writes come status = nobody S (λ x. true) (open_at (z.facts m) number) last.1 lost
    where
      middle : In k set m (v.facts m) × Such (Awaits true S) (open_at (v.facts m) number)
      middle = flow_open n gs u v m k set number (Such (Awaits true S)) f first here (applied_turns S) (inside m here, status)

      last : In k set m (z.facts m) × Such (Awaits true S) (open_at (z.facts m) number)
      last = flow_open n gs v z m k set number (Such (Awaits true S)) h second here (applied_turns S) middle

      acks : (y : Message) → WritesFor k number y → (x : ℕ) (f : Facts) (c : ℕ) → In k set x f → Among (due_message_of n f c m y).sends (m, message.ReplAck k number)
      acks (message.Repl key t nth digest ver) w x f c i =
          subst (λ (b : Bool). Among (if b then lines_and_sends (merging f digest ver) (to_one m (message.ReplAck key t)) else stale f).sends (m, message.ReplAck k number)) (sym (ap (λ (q : ClusterKey). is_view f.exchange.view q) w.0 ∙ in_seen k set x f i))
          (inl (ap (λ (q : ClusterKey). (m, message.ReplAck q t)) w.0 ∙ ap (λ (a : ℕ). (m, message.ReplAck k a)) w.1))
      acks _ w x f c i = absurd w

      ack_comes : (x : ℕ) → S x → Among (inbox v m) (Gets x (message.ReplAck k number))
      ack_comes x s =
          let to : (has_node gs x ≡ true) × (x ≡ m → ⊥) = others x s in
          flow_arrives n ns gs u v g ups f x m to.0 here to.1 (message.ReplAck k number)
          (outbox_legible n (u.clocks x) (λ f. In k set x f × Unit {0}) (inbox u x) (u.facts x) (Gets m y) (m, message.ReplAck k number)
          (kept_along n (u.clocks x) (λ f. In k set x f × Unit {0}) (inbox u x) (u.facts x) (keeps_open n (u.clocks x) k set x number (λ o. Unit {0}) (inbox u x) (gets_inbox u x) (first x to.0) (λ k number f x ms o z t h. tt)) (inside x to.0, tt))
          (legible x to.0) (λ f p. acks y writes x f (u.clocks x) p.0) (come x s))

      lost : (x : ℕ) → S x → Such (Lost x) (open_at (z.facts m) number)
      lost x s =
          (subst (λ (f : Facts). In k set m f × (Such (Awaits true S) (open_at f number) × Such (Lost x) (open_at f number))) (sym (h.facts m))
          (served_each n (v.clocks m) (λ f. In k set m f × Such (Awaits true S) (open_at f number)) (λ f. In k set m f × (Such (Awaits true S) (open_at f number) × Such (Lost x) (open_at f number))) (inbox v m) (v.facts m) (Gets x (message.ReplAck k number))
          (keeps_open n (v.clocks m) k set m number (Such (Awaits true S)) (inbox v m) (gets_inbox v m) (second m here) (applied_turns S))
          (keeps_open n (v.clocks m) k set m number (λ o. Such (Awaits true S) o × Such (Lost x) o) (inbox v m) (gets_inbox v m) (second m here) (lost_turns S x))
          (λ f p. (
            in_acted n (v.clocks m) k set m f x (message.ReplAck k number) refl p.0,
            (
              applied_turns S k number f x (due_message_of n f (v.clocks m) x (message.ReplAck k number)).sends (open_at f number) (open_at (acted n (v.clocks m) f (Gets x (message.ReplAck k number))) number) (acted_opens n (v.clocks m) k f (in_key k set m f p.0) x number (message.ReplAck k number) refl) p.1,
              acted_lost n (v.clocks m) k f (in_seen k set m f p.0) (in_key k set m f p.0) x number S p.1,
            ),
          ))
          (ack_comes x s) middle)).1.1
