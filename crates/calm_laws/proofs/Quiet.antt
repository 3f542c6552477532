-- A tick of a node that has nothing left to do sends beats alone, and beats change nothing that is to come to rest.
use Rattle.std.proofs.Common.{◌≡◌, ℕ, ◌==◌, ◌||◌, ◌&&◌, arith, not, Bool, true, false, List, [], ◌∷◌, Option, None, refl, sym, ap, subst, ◌∙◌, inl, inr}
use Rattle.std.specs.Prelude.{filter_map, flat_map, if◌then◌else◌}
use Rattle.std.specs.List.{cons_option}
use Rattle.std.proofs.lemmas.Bool.{not-false}
use Rattle.cluster_types.specs.declared.cluster_key.ClusterKey.{ClusterKey}
use Rattle.wire_messages.specs.declared.message.Batch.{Batch}
use Rattle.wire_messages.specs.declared.message.Message.{Message}
use Rattle.wire_messages.specs.declared.message.Message.TheVariants as message
use Rattle.node_rules.specs.Agreement.{Proposal, next_key}
use Rattle.node_rules.specs.Batches.{Target, Targets, batch_after, fresh_batch, next_batch}
use Rattle.node_rules.specs.Copies.{Content}
use Rattle.node_rules.specs.Effects.{to_each, sends_only}
use Rattle.node_rules.specs.Exchange.{Exchange}
use Rattle.node_rules.specs.Facts.{Facts, view_key}
use Rattle.node_rules.specs.Notes.{after_ages, all_sent, sent, neighbours}
use Rattle.node_rules.specs.Standing.{knows_all_settled, others}
use Rattle.node_rules.specs.Tick.{batch_to, batches, beat, progress, propose, propose_with, rows, sends_again, state, transactions, progress_message, proposal_effects}
use Rattle.node_rules.specs.Transactions.{Transaction}
use Rattle.cluster_rules.proofs.KeptFacts.{num_same}
use Rattle.cluster_laws.proofs.At.{differ}
use Rattle.run_laws.specs.Tied.{Among}
use Rattle.calm_laws.specs.Acts.{Gets, Input, Ticks, acted, as_read, sent_at, served}
use Rattle.calm_laws.specs.Calming.{Idle, LeavesAsIs}
use Rattle.calm_laws.specs.Group.{kind}
use Rattle.calm_laws.specs.Progresses.{BitsGrow}
use Rattle.calm_laws.proofs.Growing.{all_sent_bits, rests_grow}
use Rattle.calm_laws.proofs.KindLaws.{NoneOf, none_append, none_read}
use Rattle.calm_laws.proofs.Knowing.{all_settled_grows}
use Rattle.calm_laws.proofs.Replies.{each_in, outside}
use Rattle.calm_laws.proofs.Sent.{AllGets, none_among}
use Rattle.calm_laws.proofs.Taking.{rests_proposed, settled_exchange}
use Rattle.calm_laws.proofs.Ticking.{progressing, proposed, tick_facts, tick_list, tick_sent}
use Rattle.node_rules.specs.Agreement as agreement
use Rattle.node_rules.specs.Effects as effects

-- ---- what a tick sends

abbrev Beats : List (ℕ × Message) → Type 0
Beats ms = NoneOf (outside (1 ∷ [])) ms

batches_none : (k : ClusterKey) (c : Content) (ts : Targets) → ((t : Target) → Among ts t → (t.pending ≡ []) × (t.out ≡ None)) → Beats (filter_map (λ (t : Target). batch_to t.node (next_batch k c t)) ts)
batches_none k c [] h = tt
batches_none k c (t ∷ ts) h =
    subst (λ (o : Option Batch). Beats (cons_option (batch_to t.node o) (filter_map (λ (t : Target). batch_to t.node (next_batch k c t)) ts)))
    (sym (ap (λ (o : Option Batch). batch_after k c t o) (h t (inl refl)).1 ∙ ap (λ (ds : List (List ℕ)). fresh_batch k c t ds) (h t (inl refl)).0))
    (batches_none k c ts (λ s i. h s (inr i)))

-- who knows all settled does so as it would tell of progress
pub knows_telling : (n : ℕ) (f : Facts) → Idle n f → knows_all_settled (progressing n f) n 0 ≡ true
knows_telling n f h =
    all_settled_grows f (progressing n f)
    (subst (λ b. BitsGrow f.bits b) (ap (λ (g : Facts). g.bits) (tick_facts n 0 f h.up) ∙ all_sent_bits (progressing n f) (as_read (tick_list n f))) (rests_grow n 0 f h.up h.none h.asks))
    (ap (λ (e : Exchange). e.view) (settled_exchange n f h.none h.asks)) (ap (λ (e : Exchange). e.rows) (settled_exchange n f h.none h.asks)) (ap (λ (e : Exchange). e.exchanged) (settled_exchange n f h.none h.asks)) n 0 h.settled

quiet_list : (n : ℕ) (f : Facts) → Idle n f → Beats (tick_list n f)
quiet_list n f h =
    none_append (outside (1 ∷ [])) (beat (after_ages f)).sends _ (each_in (1 ∷ []) (after_ages f).peers _ refl)
    (none_append (outside (1 ∷ [])) (propose (after_ages f)).sends _ (subst Beats (sym nothing) tt)
    (none_append (outside (1 ∷ [])) (rows (proposed f)).sends _ (subst (λ (g : Facts). Beats (rows g).sends) (sym same) (subst (λ (xs : List ℕ). Beats (to_each xs (state (after_ages f) true))) (sym h.rows) tt))
    (none_append (outside (1 ∷ [])) (transactions (proposed f)).sends _ (subst (λ (g : Facts). Beats (transactions g).sends) (sym same) (subst (λ (ts : List Transaction). Beats (flat_map (λ (t : Transaction). sends_again (after_ages f) t t.applied) ts)) (sym h.closed) tt))
    (none_append (outside (1 ∷ [])) (batches (proposed f)).sends _ (subst (λ (g : Facts). Beats (batches g).sends) (sym same) (batches_none (view_key f) f.store.content f.batches h.targets))
    (none_append (outside (1 ∷ [])) (progress n (progressing n f)).sends [] tells tt)))))
  where
    same : proposed f ≡ after_ages f
    same = rests_proposed f h.none h.asks

    nothing : (propose (after_ages f)).sends ≡ []
    nothing = ap (λ (o : Option Proposal). (propose_with (after_ages f) o).sends) h.none ∙ ap (λ (b : Bool). (if b then proposal_effects (after_ages f) (next_key (after_ages f).me (after_ages f).agreement) (neighbours (after_ages f)) (agreement.others_among (after_ages f).me (neighbours (after_ages f))) else effects.nothing).sends) h.asks

    never : (a : Bool) → (a && not true) ≡ false
    never true = refl
    never false = refl

    tells : Beats (progress n (progressing n f)).sends
    tells =
        subst (λ (b : Bool). Beats (if b then sends_only (to_each (others (progressing n f)) (progress_message n (progressing n f) true)) else effects.nothing).sends)
        (sym (ap (λ (b : Bool). (progressing n f).exchange.exchanged && not b) (knows_telling n f h) ∙ never (progressing n f).exchange.exchanged)) tt

-- such a node sends beats alone
pub tick_quiet : (n c : ℕ) (f : Facts) → Idle n f → (to : ℕ) (x : Message) → Among (sent_at n c f Ticks) (to, x) → kind x ≡ 1
tick_quiet n c f h to x i =
    sym (num_same 1 (kind x) (first (1 == kind x)
    (not-false ((1 == kind x) || false)
    (none_among (outside (1 ∷ [])) (as_read (tick_list n f)) to x (none_read (outside (1 ∷ [])) (tick_list n f) (quiet_list n f h)) (subst (λ (ms : List (ℕ × Message)). Among ms (to, x)) (tick_sent n c f h.up) i)))))
  where
    first : (b : Bool) → (b || false) ≡ true → b ≡ true
    first true e = refl
    first false e = e

-- ---- the facts after it

sent_beats : (f : Facts) (ms : List (ℕ × Message)) → Beats ms → all_sent f ms ≡ f
sent_beats f [] h = refl
sent_beats f (m ∷ ms) h = sent_beats (sent f m.0 m.1) ms h.1 ∙ one m.0 m.1 h.0
  where
    one : (to : ℕ) (x : Message) → outside (1 ∷ []) (kind x) ≡ false → sent f to x ≡ f
    one to (message.Propose key members) e = differ refl e
    one to (message.Batch b) e = differ refl e
    one to _ e = refl

pub quiet_facts : (n c : ℕ) (f : Facts) → Idle n f → acted n c f Ticks ≡ progressing n f
quiet_facts n c f h = tick_facts n c f h.up ∙ sent_beats (progressing n f) (as_read (tick_list n f)) (none_read (outside (1 ∷ [])) (tick_list n f) (quiet_list n f h))

-- ---- beats

pub stays_on : (f g h : Facts) → LeavesAsIs f g → LeavesAsIs g h → LeavesAsIs f h
stays_on f g h s t = record {
  me = t.me ∙ s.me;
  factor = t.factor ∙ s.factor;
  exchange = t.exchange ∙ s.exchange;
  store = t.store ∙ s.store;
  batches = t.batches ∙ s.batches;
  bits = t.bits ∙ s.bits;
}

pub stays_itself : (f : Facts) → LeavesAsIs f f
stays_itself f = record { me = refl; factor = refl; exchange = refl; store = refl; batches = refl; bits = refl }

beat_stays : (n c : ℕ) (f : Facts) (from : ℕ) (x : Message) → kind x ≡ 1 → LeavesAsIs f (acted n c f (Gets from x))
unfolding as_read
beat_stays n c f from (message.Heartbeat view promised hears role) e = record { me = refl; factor = refl; exchange = refl; store = refl; batches = refl; bits = refl }
beat_stays n c f from _ e = absurd (omega (arith, e))

-- what beats make of a node
pub beats_stay : (n c : ℕ) (is : List Input) (f : Facts) → AllGets is → ((from : ℕ) (x : Message) → Among is (Gets from x) → kind x ≡ 1) → LeavesAsIs f (served n c f is)
beats_stay n c [] f gets h = stays_itself f
beats_stay n c (Ticks ∷ is) f gets h = absurd gets
beats_stay n c (Gets from x ∷ is) f gets h =
    stays_on f (acted n c f (Gets from x)) (served n c (acted n c f (Gets from x)) is) (beat_stays n c f from x (h from x (inl refl))) (beats_stay n c is (acted n c f (Gets from x)) gets (λ a y i. h a y (inr i)))
