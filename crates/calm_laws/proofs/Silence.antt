-- At the end of a round nothing is on its way to a group: what began in it was answered to the end.
use Rattle.std.proofs.Common.{◌≡◌, ℕ, ◌==◌, ◌||◌, ◌&&◌, not, Bool, true, false, cond, List, [], ◌∷◌, refl, sym, ap, subst, ◌∙◌, ◌⊎◌, inl, inr}
use Rattle.std.specs.Prelude.{filter, flat_map, if◌then◌else◌}
use Rattle.wire_messages.specs.declared.message.Message.{Message}
use Rattle.wire_messages.specs.declared.message.Message.TheVariants as message
use Rattle.node_rules.specs.Facts.{Facts, view_key}
use Rattle.node_rules.specs.Notes.{in_view, reached}
use Rattle.node_rules.specs.Standing.{knows_all_settled}
use Rattle.node_rules.specs.Tables.{contains, only_if}
use Rattle.journal_readings.specs.Lines.{has_node}
use Rattle.cluster_rules.specs.World.{World}
use Rattle.cluster_rules.proofs.KeptFacts.{num_same}
use Rattle.cluster_laws.proofs.At.{differ}
use Rattle.run_laws.specs.Tied.{Among}
use Rattle.calm_laws.specs.Acts.{Gets, Input, Ticks, acted, as_read, effects, outbox, sent_at}
use Rattle.calm_laws.specs.Flows.{Flowed, Rounded, inbox}
use Rattle.calm_laws.specs.Group.{Group, kind, replies}
use Rattle.calm_laws.specs.Handing.{Legible, Legibly}
use Rattle.calm_laws.proofs.Company.{FromGroup, KindsIn, flow_kinds, from_group}
use Rattle.calm_laws.proofs.Flow.{among_either}
use Rattle.calm_laws.proofs.Hearing.{gets_inbox}
use Rattle.calm_laws.proofs.Inputs.{SentBy, kept_along, outbox_only}
use Rattle.calm_laws.proofs.Proposals.{all_gets}
use Rattle.calm_laws.proofs.Replies.{answers, answers_all}
use Rattle.calm_laws.proofs.Resting.{each_kind, Undisturbed}
use Rattle.calm_laws.proofs.Sent.{AllGets}
use Rattle.node_rules.specs.Effects.{lines_and_sends, nothing, sends_only, to_one}
use Rattle.node_rules.specs.RowMessages.{finishes}
use Rattle.node_rules.specs.StaleMessages.{stale}
use Rattle.node_rules.specs.Tick.{progress_message, state}
use Rattle.journal_lines.specs.declared.line.Line.TheVariants as line

-- ---- messages that want an answer of their own kind

abbrev asking : Message → Bool
asking (message.State key wants row) = wants
asking (message.Progress key wants done handed settled) = wants
asking _ = false

no_asking : (x : Message) → (kind x == 6) ≡ false → (kind x == 9) ≡ false → asking x ≡ false
no_asking (message.State key wants row) e f = differ refl e
no_asking (message.Progress key wants done handed settled) e f = differ refl f
no_asking _ e f = refl

-- none of these kinds is of a row or tells of progress
abbrev apart : List ℕ → Bool
apart ks = not (contains ks 6) && not (contains ks 9)

apart_kind : (ks : List ℕ) (j : ℕ) → apart ks ≡ true → contains ks j ≡ true → ((j == 6) ≡ false) × ((j == 9) ≡ false)
apart_kind ks j e h = (six (j == 6) refl, nine (j == 9) refl)
  where
    first : (a b : Bool) → (not a && not b) ≡ true → a ≡ false
    first true b e = differ e refl
    first false b e = refl

    second : (a b : Bool) → (not a && not b) ≡ true → b ≡ false
    second true b e = differ e refl
    second false true e = differ e refl
    second false false e = refl

    six : (b : Bool) → (j == 6) ≡ b → (j == 6) ≡ false
    six true s = differ (subst (λ (y : ℕ). contains ks y ≡ true) (num_same j 6 s) h) (first (contains ks 6) (contains ks 9) e)
    six false s = s

    nine : (b : Bool) → (j == 9) ≡ b → (j == 9) ≡ false
    nine true s = differ (subst (λ (y : ℕ). contains ks y ≡ true) (num_same j 9 s) h) (second (contains ks 6) (contains ks 9) e)
    nine false s = s

by_kind : (ks : List ℕ) (x : Message) → apart ks ≡ true → contains ks (kind x) ≡ true → asking x ≡ false
by_kind ks x e h = no_asking x (apart_kind ks (kind x) e h).0 (apart_kind ks (kind x) e h).1

state_unasked : (f : Facts) (from : ℕ) (b : Bool) (to : ℕ) (x : Message) → Among (if b then to_one from (state f false) else []) (to, x) → asking x ≡ false
state_unasked f from true to x (inl e) = sym (ap (λ (l : ℕ × Message). asking l.1) e)
state_unasked f from true to x (inr i) = absurd i
state_unasked f from false to x i = absurd i

state_came_unasked : (f now : Facts) (from : ℕ) (wants b : Bool) (to : ℕ) (x : Message) → Among (if b then lines_and_sends (only_if (line.Exchanged f.me (view_key f)) (finishes f now)) (if wants then to_one from (state f false) else []) else stale f).sends (to, x) → asking x ≡ false
state_came_unasked f now from wants true to x i = state_unasked f from wants to x i
state_came_unasked f now from wants false to x i = absurd i

progress_unasked : (n : ℕ) (now : Facts) (from : ℕ) (b : Bool) (to : ℕ) (x : Message) → Among (if b then sends_only (to_one from (progress_message n now false)) else nothing).sends (to, x) → asking x ≡ false
progress_unasked n now from true to x (inl e) = sym (ap (λ (l : ℕ × Message). asking l.1) e)
progress_unasked n now from true to x (inr i) = absurd i
progress_unasked n now from false to x i = absurd i

progress_came_unasked : (n : ℕ) (f now : Facts) (from : ℕ) (wants b : Bool) (to : ℕ) (x : Message) → Among (if b then (if wants && knows_all_settled now n 0 then sends_only (to_one from (progress_message n now false)) else nothing) else stale f).sends (to, x) → asking x ≡ false
progress_came_unasked n f now from wants true to x i = progress_unasked n now from (wants && knows_all_settled now n 0) to x i
progress_came_unasked n f now from wants false to x i = absurd i

-- what is sent on a message asks for nothing
answer_unasked : (n c : ℕ) (f : Facts) (from : ℕ) (y : Message) → as_read (effects n c f (Gets from y)).sends ≡ (effects n c f (Gets from y)).sends → (to : ℕ) (x : Message) → Among (sent_at n c f (Gets from y)) (to, x) → asking x ≡ false
answer_unasked n c f from (message.State key wants row) read to x i =
    state_came_unasked f (reached f from (message.State key wants row)) from wants (in_view f key) to x (subst (λ (ms : List (ℕ × Message)). Among ms (to, x)) read i)
answer_unasked n c f from (message.Progress key wants done handed settled) read to x i =
    progress_came_unasked n f (reached f from (message.Progress key wants done handed settled)) from wants (in_view f key) to x (subst (λ (ms : List (ℕ × Message)). Among ms (to, x)) read i)
answer_unasked n c f from (message.Propose key ms) read to x i = by_kind (3 ∷ 4 ∷ []) x refl (answers n c f from (message.Propose key ms) to x i)
answer_unasked n c f from (message.Accept key) read to x i = by_kind (5 ∷ []) x refl (answers n c f from (message.Accept key) to x i)
answer_unasked n c f from (message.Batch b) read to x i = by_kind (8 ∷ []) x refl (answers n c f from (message.Batch b) to x i)
answer_unasked n c f from (message.Repl key t nth digest v) read to x i = by_kind (11 ∷ []) x refl (answers n c f from (message.Repl key t nth digest v) to x i)
answer_unasked n c f from (message.Ask key t digest) read to x i = by_kind (13 ∷ []) x refl (answers n c f from (message.Ask key t digest) to x i)
answer_unasked n c f from (message.Answer key t v) read to x i = by_kind (10 ∷ []) x refl (answers n c f from (message.Answer key t v) to x i)
answer_unasked n c f from message.MapAsk read to x i = by_kind (15 ∷ []) x refl (answers n c f from message.MapAsk to x i)
answer_unasked n c f from y read to x i = by_kind [] x refl (answers n c f from y to x i)

-- and where nothing is asked for, a row or what tells of progress isn't answered
unasked_silent : (n c : ℕ) (f : Facts) (from : ℕ) (y : Message) → asking y ≡ false → (to : ℕ) (x : Message) → Among (sent_at n c f (Gets from y)) (to, x) → ((kind y == 6) ≡ false) × ((kind y == 9) ≡ false)
unfolding as_read
unasked_silent n c f from (message.State key true row) e to x i = differ refl e
unasked_silent n c f from (message.State key false row) e to x i = absurd (none (in_view f key) i)
  where
    none : (b : Bool) → Among (as_read (if b then lines_and_sends (only_if (line.Exchanged f.me (view_key f)) (finishes f (reached f from (message.State key false row)))) (if false then to_one from (state f false) else []) else stale f).sends) (to, x) → ⊥
    none true j = j
    none false j = j
unasked_silent n c f from (message.Progress key true done handed settled) e to x i = differ refl e
unasked_silent n c f from (message.Progress key false done handed settled) e to x i = absurd (none (in_view f key) i)
  where
    none : (b : Bool) → Among (as_read (if b then (if false && knows_all_settled (reached f from (message.Progress key false done handed settled)) n 0 then sends_only (to_one from (progress_message n (reached f from (message.Progress key false done handed settled)) false)) else nothing) else stale f).sends) (to, x) → ⊥
    none true j = j
    none false j = j
unasked_silent n c f from (message.Heartbeat view promised hears role) e to x i = (refl, refl)
unasked_silent n c f from _ e to x i = (refl, refl)

-- ---- flows

-- nothing that asks comes to the group
abbrev Unasked : List ℕ → World → Type 0
Unasked gs w = (m : ℕ) → has_node gs m ≡ true → (from : ℕ) (x : Message) → Among (inbox w m) (Gets from x) → asking x ≡ false

outbox_unasked : (n c : ℕ) (is : List Input) → AllGets is → (f : Facts) → Legibly n c f is → (to : ℕ) (x : Message) → Among (outbox n c f is) (to, x) → asking x ≡ false
outbox_unasked n c [] gets f l to x i = absurd i
outbox_unasked n c (Ticks ∷ is) gets f l to x i = absurd gets
outbox_unasked n c (Gets from y ∷ is) gets f l to x i = go (among_either (to, x) (sent_at n c f (Gets from y)) (outbox n c (acted n c f (Gets from y)) is) i) (outbox_unasked n c is gets (acted n c f (Gets from y)) l.1 to x)
  where
    go : Among (sent_at n c f (Gets from y)) (to, x) ⊎ Among (outbox n c (acted n c f (Gets from y)) is) (to, x) → (Among (outbox n c (acted n c f (Gets from y)) is) (to, x) → asking x ≡ false) → asking x ≡ false
    go (inl h) rest = answer_unasked n c f from y l.0 to x h
    go (inr h) rest = rest h

flow_unasked : (n : ℕ) (ns gs : List ℕ) (u v : World) → Group ns gs u → Flowed n u v → ((m : ℕ) → has_node gs m ≡ true → Legibly n (u.clocks m) (u.facts m) (inbox u m)) → Unasked gs v
flow_unasked n ns gs u v g f legible m here from x there =
    let s : FromGroup gs from m x (outbox n (u.clocks from) (u.facts from) (inbox u from)) = from_group n ns gs u v g f from m x here there in
    outbox_unasked n (u.clocks from) (inbox u from) (gets_inbox u from) (u.facts from) (legible from s.sender) m x s.sent

-- the kinds without rows and what tells of progress
abbrev without_asked : List ℕ → List ℕ
without_asked ks = filter (λ (k : ℕ). not (k == 6) && not (k == 9)) ks

stays_in : (ks : List ℕ) (j : ℕ) → (j == 6) ≡ false → (j == 9) ≡ false → contains ks j ≡ true → contains (without_asked ks) j ≡ true
stays_in [] j e f h = h
stays_in (k ∷ ks) j e f h = go (k == j) refl h (stays_in ks j e f)
  where
    behind : (b : Bool) → contains (without_asked ks) j ≡ true → contains (cond b (k ∷ without_asked ks) (without_asked ks)) j ≡ true
    behind true i = later (k == j)
      where
        later : (c : Bool) → (c || contains (without_asked ks) j) ≡ true
        later true = refl
        later false = i
    behind false i = i

    go : (b : Bool) → (k == j) ≡ b → (b || contains ks j) ≡ true → (contains ks j ≡ true → contains (without_asked ks) j ≡ true) → contains (without_asked (k ∷ ks)) j ≡ true
    go true s i rest =
        let passes : (not (k == 6) && not (k == 9)) ≡ true =
        ap (λ (y : ℕ). not (y == 6) && not (y == 9)) (num_same k j s) ∙ ap (λ (b : Bool). not b && not (j == 9)) e ∙ ap (λ (b : Bool). not b) f in
        subst (λ (b : Bool). contains (cond b (k ∷ without_asked ks) (without_asked ks)) j ≡ true) (sym passes) (ap (λ (b : Bool). b || contains (without_asked ks) j) s)
    go false s i rest = behind (not (k == 6) && not (k == 9)) (rest i)

unasked_kinds : (n : ℕ) (ns gs ks : List ℕ) (u v : World) → Group ns gs u → Flowed n u v → Unasked gs u → KindsIn gs ks u → KindsIn gs (flat_map replies (without_asked ks)) v
unasked_kinds n ns gs ks u v g f unasked kinds m here a x h =
    let from : FromGroup gs a m x (outbox n (u.clocks a) (u.facts a) (inbox u a)) = from_group n ns gs u v g f a m x here h in
    let by : SentBy n (u.clocks a) (λ f. Unit {0}) (inbox u a) (m, x) = outbox_only n (u.clocks a) (λ f. Unit {0}) (inbox u a) (u.facts a) (m, x) (kept_along n (u.clocks a) (λ f. Unit {0}) (inbox u a) (u.facts a) (λ f i j p. tt) tt) from.sent in
    all_gets (inbox u a) by.act (gets_inbox u a) by.came (λ i. Among (inbox u a) i → Among (sent_at n (u.clocks a) by.facts i) (m, x) → contains (flat_map replies (without_asked ks)) (kind x) ≡ true)
    (λ b y came sent.
    let other : ((kind y == 6) ≡ false) × ((kind y == 9) ≡ false) = unasked_silent n (u.clocks a) by.facts b y (unasked a from.sender b y came) m x sent in
    answers_all (without_asked ks) (kind y) (kind x) (stays_in ks (kind y) other.0 other.1 (kinds a from.sender b y came)) (answers n (u.clocks a) by.facts b y m x sent)) by.came by.sent

-- ---- a round

abbrev all_kinds : List ℕ
all_kinds = 1 ∷ 2 ∷ 3 ∷ 4 ∷ 5 ∷ 6 ∷ 7 ∷ 8 ∷ 9 ∷ 10 ∷ 11 ∷ 12 ∷ 13 ∷ 14 ∷ 15 ∷ 19 ∷ 20 ∷ 21 ∷ 22 ∷ 23 ∷ 24 ∷ 25 ∷ []

-- nothing is on its way to the group as a round ends, whatever was as it began
pub silent_end : (n : ℕ) (ns gs : List ℕ) (w v : World) (r : Rounded n w v) → Undisturbed n ns gs w v r → Legible n gs w v r → KindsIn gs [] v
silent_end n ns gs w v r u legible =
    unasked_kinds n ns gs (11 ∷ []) r.third_end v u.group_third r.fourth (flow_unasked n ns gs r.second_end r.third_end u.group_second r.third legible.third)
    (unasked_kinds n ns gs (5 ∷ 10 ∷ 11 ∷ []) r.second_end r.third_end u.group_second r.third (flow_unasked n ns gs r.first_end r.second_end u.group_first r.second legible.second)
    (unasked_kinds n ns gs (flat_map replies all_kinds) r.first_end r.second_end u.group_first r.second (flow_unasked n ns gs r.ticks_end r.first_end u.group_ticks r.first legible.first)
    (flow_kinds n ns gs all_kinds r.ticks_end r.first_end u.group_ticks r.first (λ m here a x i. each_kind x))))

-- where no kind comes, nothing does
pub nothing_comes : (gs : List ℕ) (w : World) → KindsIn gs [] w → (m : ℕ) → has_node gs m ≡ true → inbox w m ≡ []
nothing_comes gs w kinds m here = go (inbox w m) refl (gets_inbox w m)
  where
    go : (is : List Input) → inbox w m ≡ is → AllGets is → inbox w m ≡ []
    go [] e gets = e
    go (Ticks ∷ is) e gets = absurd gets
    go (Gets from x ∷ is) e gets = differ (kinds m here from x (subst (λ (xs : List Input). Among xs (Gets from x)) (sym e) (inl refl))) refl
