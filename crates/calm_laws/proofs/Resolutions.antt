-- An open transaction is resolved, and its write goes out; a tick leaves it.
use Rattle.std.proofs.Common.{◌≡◌, ℕ, zero, suc, ◌+◌, ◌==◌, Bool, true, false, cond, List, [], ◌∷◌, Option, Some, None, refl, sym, ap, subst, ◌∙◌, ◌⊎◌, inl, inr}
use Rattle.std.specs.Prelude.{find, flat_map, unwrap_or, if◌then◌else◌}
use Rattle.std.proofs.lemmas.Option.{none-some}
use Rattle.conflict_order.specs.declared.want.Want.{Want}
use Rattle.cluster_types.specs.declared.cluster_key.ClusterKey.{ClusterKey}
use Rattle.cluster_types.specs.declared.member.Member.{Member}
use Rattle.cluster_types.specs.Members.{ids_of}
use Rattle.wire_messages.specs.declared.message.Message.{Message}
use Rattle.journal_lines.specs.declared.line.Line.{Line}
use Rattle.node_rules.specs.Exchange.{View, members_of}
use Rattle.node_rules.specs.Facts.{Facts, list_at}
use Rattle.node_rules.specs.Messages.{due_message_of}
use Rattle.node_rules.specs.Notes.{after_ages, note, noted}
use Rattle.node_rules.specs.Settling.{hand, learn, settle, settling_due, settling_at, settling_from, may_hand, may_settle}
use Rattle.node_rules.specs.Standing.{is_to_drop, is_to_learn}
use Rattle.node_rules.specs.Tables.{contains}
use Rattle.node_rules.specs.Tick.{sends_again}
use Rattle.node_rules.specs.Transactions.{Transaction}
use Rattle.run_laws.specs.Tied.{Among}
use Rattle.calm_laws.specs.Acts.{Input, Ticks, Gets, acted, as_read, outbox, sent_at, served}
use Rattle.calm_laws.specs.Group.{kind}
use Rattle.calm_laws.specs.Handing.{Legibly}
use Rattle.calm_laws.specs.Laws.{is_to_propose}
use Rattle.calm_laws.specs.Transacting.{Awaits, In, Such, Turns, WritesFor, open_at}
use Rattle.calm_laws.specs.Turns.{is_agreeing}
use Rattle.calm_laws.proofs.Flow.{among_behind, among_front}
use Rattle.calm_laws.proofs.Inputs.{served_kept}
use Rattle.calm_laws.proofs.Sent.{AllGets}
use Rattle.calm_laws.proofs.Taking.{rests_proposed}
use Rattle.calm_laws.proofs.Ticking.{proposed, progressing, tick_facts, tick_list}
use Rattle.calm_laws.proofs.Transacting.{acted_opens, all_sent_idle}
use Rattle.calm_laws.proofs.Words.{Each, each_append, each_if}
use Rattle.calm_laws.proofs.Numbered.{at_number}
use Rattle.calm_laws.proofs.OpenSteps.{applied_turns, in_acted, in_key, keeps_open, shrinks_awaits}

-- ---- a transaction is resolved

-- the write went out to all that are to acknowledge it
pub record Wrote (k : ClusterKey) (set : List Member) (m number : ℕ) (out : List (ℕ × Message)) (z : Option Transaction) : Type 0 where
  pub others : List ℕ
  pub status : Such (Awaits true (λ x. contains others x ≡ true)) z
  pub members : (x : ℕ) → contains others x ≡ true → (contains (ids_of set) x ≡ true) × (x ≡ m → ⊥)
  pub write : Message
  pub writes : WritesFor k number write
  pub goes : (x : ℕ) → contains others x ≡ true → Among out (x, write)

module _ (n c : ℕ) (k : ClusterKey) (set : List Member) (m number : ℕ) (S : ℕ → Type 0) where
  pub waits_turns : (f : Facts) (x : ℕ) (ms : List (ℕ × Message)) (o z : Option Transaction) → In k set m f → Turns k number f x ms o z → Such (Awaits false S) o → Such (Awaits false S) z ⊎ Wrote k set m number ms z
  waits_turns f x ms o z i (inl e) h = inl (subst (λ (o : Option Transaction). Such (Awaits false S) o) (sym e) h)
  waits_turns f x ms o z i (inr (inl e)) h = inl (subst (λ (o : Option Transaction). Such (Awaits false S) o) (sym e) tt)
  waits_turns f x ms o z i (inr (inr (inl s))) h = inl (shrinks_awaits false S x o z s h)
  waits_turns f x ms o z i (inr (inr (inr r))) h = inr (record {
    others = r.now.awaiting;
    status = subst (λ (o : Option Transaction). Such (Awaits true (λ y. contains r.now.awaiting y ≡ true)) o) (sym r.after) (record { applied = r.applied; some = r.some; within = λ y e. e });
    members = λ y e. (ap (λ (v : Option View). contains (ids_of (members_of v)) y) (sym i.view) ∙ (r.members y e).0, λ s. (r.members y e).1 (s ∙ sym i.me));
    write = r.write;
    writes = r.writes;
    goes = r.goes;
  })

  pub resolves : (is : List Input) → AllGets is → ((from : ℕ) (x : Message) → Among is (Gets from x) → is_agreeing (kind x) ≡ false) → (f : Facts) → Legibly n c f is → In k set m f → Such (Awaits false S) (open_at f number)
      → Such (Awaits false S) (open_at (served n c f is) number) ⊎ Wrote k set m number (outbox n c f is) (open_at (served n c f is) number)
  resolves [] gets free f l i h = inl h
  resolves (Ticks ∷ is) gets free f l i h = absurd gets
  resolves (Gets from x ∷ is) gets free f l i h =
      go (waits_turns f from (due_message_of n f c from x).sends (open_at f number) (open_at (acted n c f (Gets from x)) number) i (acted_opens n c k f (in_key k set m f i) from number x (free from x (inl refl))) h)
      (resolves is gets (λ a y t. free a y (inr t)) (acted n c f (Gets from x)) l.1 (in_acted n c k set m f from x (free from x (inl refl)) i))
    where
      later : Such (Awaits false S) (open_at (served n c (acted n c f (Gets from x)) is) number) ⊎ Wrote k set m number (outbox n c (acted n c f (Gets from x)) is) (open_at (served n c (acted n c f (Gets from x)) is) number)
          → Such (Awaits false S) (open_at (served n c (acted n c f (Gets from x)) is) number) ⊎ Wrote k set m number (outbox n c f (Gets from x ∷ is)) (open_at (served n c (acted n c f (Gets from x)) is) number)
      later (inl h) = inl h
      later (inr w) = inr (record { others = w.others; status = w.status; members = w.members; write = w.write; writes = w.writes; goes = λ y s. among_behind (y, w.write) (sent_at n c f (Gets from x)) (outbox n c (acted n c f (Gets from x)) is) (w.goes y s) })

      go : Such (Awaits false S) (open_at (acted n c f (Gets from x)) number) ⊎ Wrote k set m number (due_message_of n f c from x).sends (open_at (acted n c f (Gets from x)) number)
          → (Such (Awaits false S) (open_at (acted n c f (Gets from x)) number) → Such (Awaits false S) (open_at (served n c (acted n c f (Gets from x)) is) number) ⊎ Wrote k set m number (outbox n c (acted n c f (Gets from x)) is) (open_at (served n c (acted n c f (Gets from x)) is) number))
          → Such (Awaits false S) (open_at (served n c (acted n c f (Gets from x)) is) number) ⊎ Wrote k set m number (outbox n c f (Gets from x ∷ is)) (open_at (served n c (acted n c f (Gets from x)) is) number)
      go (inl h) rest = later (rest h)
      go (inr w) rest = inr (record {
        others = w.others;
        status =
            (served_kept n c (λ g. In k set m g × Such (Awaits true (λ y. contains w.others y ≡ true)) (open_at g number)) is (acted n c f (Gets from x)) (keeps_open n c k set m number (Such (Awaits true (λ y. contains w.others y ≡ true))) is gets (λ a y t. free a y (inr t)) (applied_turns (λ y. contains w.others y ≡ true)))
            (in_acted n c k set m f from x (free from x (inl refl)) i, w.status)).1;
        members = w.members;
        write = w.write;
        writes = w.writes;
        goes = λ y s. among_front (y, w.write) (sent_at n c f (Gets from x)) (outbox n c (acted n c f (Gets from x)) is) (subst (λ (ms : List (ℕ × Message)). Among ms (y, w.write)) (sym l.0) (w.goes y s));
      })

-- ---- a tick leaves the transactions

abbrev pub Rests : Line → Type 0
Rests l = (q : Option Want) (f : Facts) → (note q f l).transactions ≡ f.transactions

pub settling_at_rests : (l : List ℕ) (p : ℕ) (f : Facts) → Each Rests (settling_at l p f)
settling_at_rests l p f =
    let f1 : Facts = noted None f (hand f l p) in
    let f2 : Facts = noted None f1 (settle f1 l p) in
    let f3 : Facts = noted None f2 (learn f2 l p) in
    each_append Rests (hand f l p) _ (each_if Rests _ (may_hand f l p) (λ q g. refl))
    (each_append Rests (settle f1 l p) _ (each_if Rests _ (may_settle f1 l p) (λ q g. refl))
    (each_append Rests (learn f2 l p) _ (each_if Rests _ (is_to_learn f2 l p) (λ q g. refl))
    (each_if Rests _ (is_to_drop f3 l p) (λ q g. refl))))

pub settling_from_rests : (n p : ℕ) (f : Facts) → Each Rests (settling_from n p f)
unfolding settling_from
settling_from_rests zero p f = tt
settling_from_rests (suc n) p f =
    each_append Rests (settling_at (list_at f p) p f) _ (settling_at_rests (list_at f p) p f) (settling_from_rests n (p + 1) (noted None f (settling_at (list_at f p) p f)))

pub settling_rests : (n : ℕ) (f : Facts) → Each Rests (settling_due n f)
settling_rests n f = go f.exchange.exchanged
  where
    go : (b : Bool) → Each Rests (if b then settling_from n 0 f else [])
    go true = settling_from_rests n 0 f
    go false = tt

pub noted_rests : (q : Option Want) (f : Facts) (ls : List Line) → Each Rests ls → (noted q f ls).transactions ≡ f.transactions
noted_rests q f [] h = refl
noted_rests q f (l ∷ ls) h = noted_rests q (note q f l) ls h.1 ∙ h.0 q f

pub rests_transactions : (n c : ℕ) (f : Facts) → f.up ≡ true → (after_ages f).agreement.proposal ≡ None → is_to_propose (after_ages f) ≡ false → (acted n c f Ticks).transactions ≡ f.transactions
rests_transactions n c f up none e =
    ap (λ (g : Facts). g.transactions) (tick_facts n c f up)
    ∙ all_sent_idle (progressing n f) (as_read (tick_list n f))
    ∙ noted_rests None (proposed f) (settling_due n (proposed f)) (settling_rests n (proposed f))
    ∙ ap (λ (g : Facts). g.transactions) (rests_proposed f none e)

-- what is sent again for a transaction
pub again_among : (f : Facts) (ts : List Transaction) (t : Transaction) (l : ℕ × Message) → Among ts t → Among (sends_again f t t.applied) l → Among (flat_map (λ (t : Transaction). sends_again f t t.applied) ts) l
again_among f [] t l h i = absurd h
again_among f (s ∷ ts) t l (inl e) i = among_front l (sends_again f s s.applied) _ (subst (λ (x : Transaction). Among (sends_again f x x.applied) l) (sym e) i)
again_among f (s ∷ ts) t l (inr h) i = among_behind l (sends_again f s s.applied) _ (again_among f ts t l h i)

pub found_among : (ts : List Transaction) (number : ℕ) (t : Transaction) → find (at_number number) ts ≡ Some t → Among ts t
found_among [] number t e = absurd (none-some t e)
found_among (s ∷ ts) number t e = go (s.number == number) e (found_among ts number t)
  where
    go : (b : Bool) → cond b (Some s) (find (at_number number) ts) ≡ Some t → (find (at_number number) ts ≡ Some t → Among ts t) → (s ≡ t) ⊎ Among ts t
    go true f rest = inl (ap (λ (o : Option Transaction). unwrap_or o s) f)
    go false f rest = inr (rest f)
