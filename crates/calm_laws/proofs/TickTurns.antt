-- What a tick makes of a node's stance, and what of agreement it sends.
use Rattle.std.proofs.Common.{◌≡◌, ℕ, Bool, true, false, List, [], ◌∷◌, ◌++◌, Option, Some, None, refl, sym, ap, subst, ◌∙◌, ◌⊎◌, inl, inr}
use Rattle.std.specs.Prelude.{filter_map, flat_map, if◌then◌else◌}
use Rattle.std.specs.List.{cons_option}
use Rattle.cluster_types.specs.declared.cluster_key.ClusterKey.{ClusterKey}
use Rattle.cluster_types.specs.declared.member.Member.{Member}
use Rattle.wire_messages.specs.declared.message.Batch.{Batch}
use Rattle.wire_messages.specs.declared.message.Message.{Message}
use Rattle.wire_messages.specs.declared.message.Message.TheVariants as message
use Rattle.wire_messages.specs.Decoding.{message_of}
use Rattle.wire_messages.specs.Spelling.{spelling}
use Rattle.journal_lines.specs.declared.line.Line.{Line}
use Rattle.journal_lines.specs.declared.line.Line.TheVariants as line
use Rattle.node_rules.specs.Agreement as agreement
use Rattle.node_rules.specs.Agreement.{Agreement, Proposal, has_round, next_key, proposal_of, proposes}
use Rattle.node_rules.specs.Batches.{next_batch, Target, Targets}
use Rattle.node_rules.specs.Copies.{Content}
use Rattle.node_rules.specs.Effects.{to_each, nothing, sends_only}
use Rattle.node_rules.specs.Facts.{Facts, view_key}
use Rattle.node_rules.specs.Notes.{after_ages, all_sent, neighbours, note, noted, sent}
use Rattle.node_rules.specs.Resolving.{repl}
use Rattle.node_rules.specs.Settling.{settling_due}
use Rattle.node_rules.specs.Standing.{others}
use Rattle.node_rules.specs.Tick.{beat, propose, propose_with, proposal_effects, rows, transactions, sends_again, batches, batch_to, progress, state, progress_message}
use Rattle.node_rules.specs.Transactions.{Transaction, Write}
use Rattle.node_rules.proofs.NoteLaws.{all_sent-append}
use Rattle.cluster_rules.proofs.OwnLines.{noted_me}
use Rattle.cluster_laws.proofs.At.{differ}
use Rattle.key_laws.proofs.DueViews.{OfView, AllOfView, settling_of_view}
use Rattle.key_laws.proofs.Order.{same_self}
use Rattle.run_laws.specs.Tied.{Among}
use Rattle.calm_laws.specs.Acts.{Ticks, as_read, read_to, sent_at, acted}
use Rattle.calm_laws.specs.Group.{kind}
use Rattle.calm_laws.specs.Stances.{Stance, stance_of, promises_to, proposes_to, promises_if, proposes_if, promises, ticks}
use Rattle.calm_laws.specs.Turns.{is_agreeing}
use Rattle.calm_laws.specs.Laws.{CanBeRead, ReadsWith, is_to_propose}
use Rattle.calm_laws.proofs.Flow.{among_either}
use Rattle.calm_laws.proofs.KindLaws.{NoneOf, none_append, none_read}
use Rattle.calm_laws.proofs.Same.{all_sent_same}
use Rattle.calm_laws.proofs.Sent.{none_among, read_append}
use Rattle.calm_laws.proofs.Ticking.{proposed, progressing, tick_sent, tick_facts}
use Rattle.calm_laws.proofs.Turning.{Calm, entering_turns, noted_calm}
use Rattle.calm_laws.proofs.Words.{Each}

-- ---- the parts of a tick but its proposal send nothing of agreement

abbrev Free : List (ℕ × Message) → Type 0
Free ms = NoneOf is_agreeing ms

each_free : (ns : List ℕ) (m : Message) → is_agreeing (kind m) ≡ false → Free (to_each ns m)
each_free [] m h = tt
each_free (n ∷ ns) m h = (h, each_free ns m h)

again_free : (f : Facts) (t : Transaction) (o : Option Write) → Free (sends_again f t o)
again_free f t None = each_free t.awaiting _ refl
again_free f t (Some w) = each_free t.awaiting (repl f t w) refl

transactions_free : (f : Facts) (ts : List Transaction) → Free (flat_map (λ (t : Transaction). sends_again f t t.applied) ts)
transactions_free f [] = tt
transactions_free f (t ∷ ts) = none_append is_agreeing (sends_again f t t.applied) _ (again_free f t t.applied) (transactions_free f ts)

batches_free : (k : ClusterKey) (c : Content) (ts : Targets) → Free (filter_map (λ (t : Target). batch_to t.node (next_batch k c t)) ts)
batches_free k c [] = tt
batches_free k c (t ∷ ts) = go (next_batch k c t) (batches_free k c ts)
  where
    go : (o : Option Batch) → Free (filter_map (λ (t : Target). batch_to t.node (next_batch k c t)) ts) → Free (cons_option (batch_to t.node o) (filter_map (λ (t : Target). batch_to t.node (next_batch k c t)) ts))
    go None rest = rest
    go (Some b) rest = (refl, rest)

progress_free : (n : ℕ) (f : Facts) (b : Bool) → Free (if b then sends_only (to_each (others f) (progress_message n f true)) else nothing).sends
progress_free n f true = each_free (others f) _ refl
progress_free n f false = tt

-- what an up node's tick sends after its proposal
abbrev later_sends : ℕ → Facts → List (ℕ × Message)
later_sends n f = (rows (proposed f)).sends ++ ((transactions (proposed f)).sends ++ ((batches (proposed f)).sends ++ ((progress n (progressing n f)).sends ++ [])))

later_free : (n : ℕ) (f : Facts) → Free (later_sends n f)
later_free n f =
    none_append is_agreeing (rows (proposed f)).sends _ (each_free _ (state (proposed f) true) refl)
    (none_append is_agreeing (transactions (proposed f)).sends _ (transactions_free (proposed f) (proposed f).transactions.running)
    (none_append is_agreeing (batches (proposed f)).sends _ (batches_free (view_key (proposed f)) (proposed f).store.content (proposed f).batches)
    (none_append is_agreeing (progress n (progressing n f)).sends _ (progress_free n (progressing n f) _) tt)))

beat_free : (f : Facts) → Free (beat f).sends
beat_free f = each_free f.peers _ refl

pub tick_parts : (n c : ℕ) (f : Facts) → f.up ≡ true → sent_at n c f Ticks ≡ as_read (beat (after_ages f)).sends ++ (as_read (propose (after_ages f)).sends ++ as_read (later_sends n f))
tick_parts n c f up =
    tick_sent n c f up
    ∙ read_append (beat (after_ages f)).sends ((propose (after_ages f)).sends ++ later_sends n f)
    ∙ ap (λ (xs : List (ℕ × Message)). as_read (beat (after_ages f)).sends ++ xs) (read_append (propose (after_ages f)).sends (later_sends n f))

-- of agreement a tick sends its proposal alone
pub tick_only : (n c : ℕ) (f : Facts) → f.up ≡ true → (C : Message → Type 0) → ((x : Message) → is_agreeing (kind x) ≡ false → C x) → ((to : ℕ) (x : Message) → Among (as_read (propose (after_ages f)).sends) (to, x) → C x)
    → (to : ℕ) (x : Message) → Among (sent_at n c f Ticks) (to, x) → C x
tick_only n c f up C other here to x h =
    first (among_either (to, x) (as_read (beat (after_ages f)).sends) (as_read (propose (after_ages f)).sends ++ as_read (later_sends n f)) (subst (λ (xs : List (ℕ × Message)). Among xs (to, x)) (tick_parts n c f up) h))
  where
    free : (xs : List (ℕ × Message)) → Free xs → Among (as_read xs) (to, x) → C x
    free xs none i = other x (none_among is_agreeing (as_read xs) to x (none_read is_agreeing xs none) i)

    second : Among (as_read (propose (after_ages f)).sends) (to, x) ⊎ Among (as_read (later_sends n f)) (to, x) → C x
    second (inl i) = here to x i
    second (inr i) = free (later_sends n f) (later_free n f) i

    first : Among (as_read (beat (after_ages f)).sends) (to, x) ⊎ Among (as_read (propose (after_ages f)).sends ++ as_read (later_sends n f)) (to, x) → C x
    first (inl i) = free (beat (after_ages f)).sends (beat_free (after_ages f)) i
    first (inr i) = second (among_either (to, x) (as_read (propose (after_ages f)).sends) (as_read (later_sends n f)) i)

-- ---- what was sent

sent_free : (f : Facts) (to : ℕ) (m : Message) → is_agreeing (kind m) ≡ false → stance_of (sent f to m) ≡ stance_of f
sent_free f to (message.Propose key members) h = differ refl h
sent_free f to (message.Batch b) h = refl
sent_free f to m h = refl

all_sent_free : (f : Facts) (ms : List (ℕ × Message)) → Free ms → stance_of (all_sent f ms) ≡ stance_of f
all_sent_free f [] h = refl
all_sent_free f (m ∷ ms) h = all_sent_free (sent f m.0 m.1) ms h.1 ∙ sent_free f m.0 m.1 h.0

pub read_each : (m : Message) → message_of (spelling m) ≡ Some m → (ns : List ℕ) → as_read (to_each ns m) ≡ to_each ns m
unfolding as_read
read_each m r [] = refl
read_each m r (n ∷ ns) = ap (λ (o : Option Message). cons_option (read_to n o) (as_read (to_each ns m))) r ∙ ap (λ (xs : List (ℕ × Message)). (n, m) ∷ xs) (read_each m r ns)

-- a proposal that stands is proposed again
proposed_again : (f : Facts) (k : ClusterKey) (ms : List Member) (ns : List ℕ) → proposes f.agreement.proposal k ≡ true → stance_of (all_sent f (to_each ns (message.Propose k ms))) ≡ stance_of f
proposed_again f k ms [] h = refl
proposed_again f k ms (n ∷ ns) h =
    let g : Facts = sent f n (message.Propose k ms) in
    let same : g.agreement ≡ f.agreement = ap (λ (b : Bool). (if b then f.agreement else record f.agreement { proposal = Some (proposal_of f.me k ms) })) h in
    proposed_again g k ms ns (ap (λ (a : Agreement). proposes a.proposal k) same ∙ h)
    ∙ ap (λ (a : Agreement). record (stance_of f) { agreement = a }) same

stands_then : (a : Agreement) (me : ℕ) (k : ClusterKey) (ms : List Member) → proposes (agreement.proposing a me k ms).proposal k ≡ true
stands_then a me k ms = go (proposes a.proposal k) refl
  where
    go : (b : Bool) → proposes a.proposal k ≡ b → proposes (if b then a else record a { proposal = Some (proposal_of me k ms) }).proposal k ≡ true
    go true e = e
    go false e = same_self k

proposed_first : (f : Facts) (k : ClusterKey) (ms : List Member) (n : ℕ) (ns : List ℕ) → stance_of (all_sent f (to_each (n ∷ ns) (message.Propose k ms))) ≡ record (stance_of f) { agreement = agreement.proposing f.agreement f.me k ms }
proposed_first f k ms n ns = proposed_again (sent f n (message.Propose k ms)) k ms ns (stands_then f.agreement f.me k ms)

-- ---- lines

of_view_calm : (a : ℕ) (k : ClusterKey) (l : Line) → OfView a k l → Calm l
of_view_calm a k (line.Opened n l number d w) e = λ q f. refl
of_view_calm a k (line.Value n l number d v) e = λ q f. refl
of_view_calm a k (line.Apply n l number d v) e = λ q f. refl
of_view_calm a k (line.Done n l number) e = λ q f. refl
of_view_calm a k (line.Merge n l d v) e = λ q f. refl
of_view_calm a k (line.Handed n l p) e = λ q f. refl
of_view_calm a k (line.Settled n l p) e = λ q f. refl
of_view_calm a k (line.Learn n l p) e = λ q f. refl
of_view_calm a k (line.Drop n l p) e = λ q f. refl
of_view_calm a k _ e = absurd e

all_of_view_calm : (a : ℕ) (k : ClusterKey) (ls : List Line) → AllOfView a k ls → Each Calm ls
all_of_view_calm a k [] h = tt
all_of_view_calm a k (l ∷ ls) h = (of_view_calm a k l h.0, all_of_view_calm a k ls h.1)

promising_turns : (g : Facts) (key : ClusterKey) (set : List Member) (ns : List ℕ) → stance_of (noted None g (proposal_effects g key set ns).lines) ≡ promises_to (stance_of g) key set ns
promising_turns g key set [] = entering_turns g (note None g (line.Promise g.me key)) key set
promising_turns g key set (n ∷ ns) = refl

new_turns : (g : Facts) (b : Bool) → stance_of (noted None g (if b then proposal_effects g (next_key g.me g.agreement) (neighbours g) (agreement.others_among g.me (neighbours g)) else nothing).lines) ≡ promises_if g.me (stance_of g) (neighbours g) b
new_turns g true = promising_turns g (next_key g.me g.agreement) (neighbours g) (agreement.others_among g.me (neighbours g))
new_turns g false = refl

lines_turn : (g : Facts) (o : Option Proposal) → stance_of (noted None g (propose_with g o).lines) ≡ promises g.me (stance_of g) (neighbours g) o (is_to_propose g)
lines_turn g None = new_turns g (is_to_propose g)
lines_turn g (Some p) = refl

to_sends : (g h : Facts) (key : ClusterKey) (set : List Member) (ns : List ℕ) → h.me ≡ g.me
    → CanBeRead (message.Propose key set)
    → stance_of h ≡ promises_to (stance_of g) key set ns → stance_of (all_sent h (as_read (proposal_effects g key set ns).sends)) ≡ proposes_to g.me (stance_of g) key set ns
unfolding as_read
to_sends g h key set [] me r e = e
to_sends g h key set (n ∷ ns) me r e =
    ap (λ (xs : List (ℕ × Message)). stance_of (all_sent h xs)) (read_each (message.Propose key set) r (n ∷ ns))
    ∙ proposed_first h key set n ns
    ∙ ap (λ (s : Stance). record s { agreement = agreement.proposing s.agreement h.me key set }) e
    ∙ ap (λ (m : ℕ). record (stance_of g) { agreement = agreement.proposing (agreement.promising g.agreement key) m key set }) me

new_sends : (g h : Facts) (b : Bool) → h.me ≡ g.me
    → (b ≡ true → CanBeRead (message.Propose (next_key g.me g.agreement) (neighbours g)))
    → stance_of h ≡ promises_if g.me (stance_of g) (neighbours g) b → stance_of (all_sent h (as_read (if b then proposal_effects g (next_key g.me g.agreement) (neighbours g) (agreement.others_among g.me (neighbours g)) else nothing).sends)) ≡ proposes_if g.me (stance_of g) (neighbours g) b
unfolding as_read
new_sends g h true me r e = to_sends g h (next_key g.me g.agreement) (neighbours g) (agreement.others_among g.me (neighbours g)) me (r refl) e
new_sends g h false me r e = e

sends_turn : (g h : Facts) (o : Option Proposal) → h.me ≡ g.me → g.agreement.proposal ≡ o → ReadsWith g o → stance_of h ≡ promises g.me (stance_of g) (neighbours g) o (is_to_propose g)
    → stance_of (all_sent h (as_read (propose_with g o).sends)) ≡ ticks g.me (stance_of g) (neighbours g) o (is_to_propose g)
sends_turn g h None me is r e = new_sends g h (is_to_propose g) me r e
sends_turn g h (Some p) me is r e =
    let stands : proposes h.agreement.proposal p.key ≡ true = ap (λ (s : Stance). proposes s.agreement.proposal p.key) e ∙ ap (λ (o : Option Proposal). proposes o p.key) is ∙ same_self p.key in
    ap (λ (xs : List (ℕ × Message)). stance_of (all_sent h xs)) (read_each (message.Propose p.key p.members) r p.missing)
    ∙ proposed_again h p.key p.members p.missing stands
    ∙ e

-- what a tick makes of a stance, when ages have risen
pub tick_turns : (n c : ℕ) (f : Facts) → f.up ≡ true → ReadsWith (after_ages f) (after_ages f).agreement.proposal
    → stance_of (acted n c f Ticks) ≡ ticks f.me (stance_of (after_ages f)) (neighbours (after_ages f)) (after_ages f).agreement.proposal (is_to_propose (after_ages f))
tick_turns n c f up r =
    let g : Facts = after_ages f in
    let told : List (ℕ × Message) = as_read (beat g).sends in
    let asked : List (ℕ × Message) = as_read (propose g).sends in
    let rest : List (ℕ × Message) = as_read (later_sends n f) in
    let h : Facts = all_sent (progressing n f) told in
    let me : h.me ≡ g.me =
    (all_sent_same (progressing n f) told).me ∙ noted_me None (proposed f) (settling_due n (proposed f)) ∙ noted_me None g (propose g).lines in
    let lines : stance_of h ≡ promises g.me (stance_of g) (neighbours g) g.agreement.proposal (is_to_propose g) =
    all_sent_free (progressing n f) told (none_read is_agreeing (beat g).sends (beat_free g))
    ∙ noted_calm None (proposed f) (settling_due n (proposed f)) (all_of_view_calm (proposed f).me (view_key (proposed f)) (settling_due n (proposed f)) (settling_of_view n (proposed f)))
    ∙ lines_turn g g.agreement.proposal in
    ap (λ (x : Facts). stance_of x) (tick_facts n c f up)
    ∙ ap (λ (xs : List (ℕ × Message)). stance_of (all_sent (progressing n f) xs)) (sym (tick_sent n c f up) ∙ tick_parts n c f up)
    ∙ ap (λ (x : Facts). stance_of x) (all_sent-append (progressing n f) told (asked ++ rest) ∙ all_sent-append h asked rest)
    ∙ all_sent_free (all_sent h asked) rest (none_read is_agreeing (later_sends n f) (later_free n f))
    ∙ sends_turn g h g.agreement.proposal me refl r lines
