-- What events of a round make of the world: what each node makes of what came to it.
use Rattle.std.proofs.Common.{◌≡◌, ℕ, ◌+◌, ◌<◌, ◌≤◌, ◌==◌, ◌||◌, ◌&&◌, not, Bool, true, false, List, [], ◌∷◌, ◌++◌, length, Option, Some, None, refl, sym, ap, subst, ◌∙◌, append_assoc, append-nil, arith, length-append, if◌then◌else◌}
use Rattle.std.specs.List.{cons_option}
use Rattle.std.proofs.lemmas.List.Elements.{filter_map-append}
use Rattle.cluster_types.specs.Distinct.{without}
use Rattle.cluster_types.specs.Groups.{apart}
use Rattle.wire_messages.specs.declared.message.Message.{Message}
use Rattle.wire_messages.specs.Decoding.{message_of}
use Rattle.wire_messages.specs.Spelling.{spelling}
use Rattle.partition_lists.proofs.InOrderLaws.{equal}
use Rattle.node_rules.specs.Facts.{Facts}
use Rattle.cluster_rules.specs.declared.event.Event.{Event}
use Rattle.cluster_rules.specs.declared.event.Event.TheVariants as event
use Rattle.cluster_rules.specs.DueEvents.{is_blocked}
use Rattle.journal_readings.specs.Lines.{has_node}
use Rattle.journal_readings.specs.Messages.{Posting}
use Rattle.cluster_rules.specs.Network.{posting_at, flying_at, are_apart}
use Rattle.cluster_rules.specs.Steps.{play, play_all}
use Rattle.cluster_rules.specs.World.{World, is_up}
use Rattle.cluster_rules.proofs.KeptFacts.{num_same}
use Rattle.node_rules.specs.Messages.{client}
use Rattle.calm_laws.specs.Acts.{Input, Ticks, read_to, as_read, effects, sent_at, served, outbox, acted}
use Rattle.calm_laws.specs.Letters.{posting_from, postings, new_numbers, letter_if, letter_from, letters_from, unblocked, input_of, input, given, given_if, ins, left_flying, outs}
use Rattle.calm_laws.specs.Flows.{Clear, Named}
use Rattle.calm_laws.proofs.Lists.{posting_stays, posting_there, without_new, has_front, numbers_append}
use Rattle.calm_laws.proofs.Same.{served_same}
use Rattle.calm_laws.proofs.Stepped.{Stepped, step_tick, step_deliver}

-- ---- acts in turn

pub served_append : (n c : ℕ) (f : Facts) (xs ys : List Input) → served n c f (xs ++ ys) ≡ served n c (served n c f xs) ys
served_append n c f [] ys = refl
served_append n c f (x ∷ xs) ys = served_append n c (acted n c f x) xs ys

pub outbox_append : (n c : ℕ) (f : Facts) (xs ys : List Input) → outbox n c f (xs ++ ys) ≡ outbox n c f xs ++ outbox n c (served n c f xs) ys
outbox_append n c f [] ys = refl
outbox_append n c f (x ∷ xs) ys =
    ap (λ (ms : List (ℕ × Message)). sent_at n c f x ++ ms) (outbox_append n c (acted n c f x) xs ys)
    ∙ sym (append_assoc (sent_at n c f x) (outbox n c (acted n c f x) xs) (outbox n c (served n c (acted n c f x) xs) ys))

-- ---- letters

letters_own : (ms : List (ℕ × Message)) (b a : ℕ) → (b == a) ≡ true → letters_from a (postings b ms) ≡ as_read ms
unfolding as_read
letters_own [] b a e = refl
letters_own (m ∷ ms) b a e =
    ap (λ (c : Bool). cons_option (letter_if (posting_from b m) c) (letters_from a (postings b ms))) e
    ∙ ap (λ (xs : List (ℕ × Message)). cons_option (read_to m.0 (message_of (spelling m.1))) xs) (letters_own ms b a e)

letters_others : (ms : List (ℕ × Message)) (b a : ℕ) → (b == a) ≡ false → letters_from a (postings b ms) ≡ []
letters_others [] b a e = refl
letters_others (m ∷ ms) b a e =
    ap (λ (c : Bool). cons_option (letter_if (posting_from b m) c) (letters_from a (postings b ms))) e ∙ letters_others ms b a e

-- what an act posts of the node is what it sends
outs_from : (n : ℕ) (w : World) (o : Option (ℕ × Input)) (a : ℕ) → letters_from a (outs n w o) ≡ outbox n (w.clocks a) (w.facts a) (given a o)
outs_from n w None a = refl
outs_from n w (Some x) a = go (x.0 == a) refl
  where
    go : (b : Bool) → (x.0 == a) ≡ b → letters_from a (outs n w (Some x)) ≡ outbox n (w.clocks a) (w.facts a) (given_if x.1 b)
    go true e =
        letters_own (effects n (w.clocks x.0) (w.facts x.0) x.1).sends x.0 a e
        ∙ ap (λ (y : ℕ). sent_at n (w.clocks y) (w.facts y) x.1) (num_same x.0 a e)
        ∙ sym (append-nil (sent_at n (w.clocks a) (w.facts a) x.1))
    go false e = letters_others (effects n (w.clocks x.0) (w.facts x.0) x.1).sends x.0 a e

nil_front : (xs ys : List Input) → xs ++ ys ≡ [] → xs ≡ []
nil_front [] ys e = refl
nil_front (x ∷ xs) ys e = absurd (grind (arith, e))

nil_behind : (xs ys : List Input) → xs ++ ys ≡ [] → ys ≡ []
nil_behind [] ys e = e
nil_behind (x ∷ xs) ys e = absurd (grind (arith, e))

-- where nothing comes to anybody, nothing is posted
outs_still : (n : ℕ) (w : World) (o : Option (ℕ × Input)) → ((m : ℕ) → given m o ≡ []) → outs n w o ≡ []
outs_still n w None h = refl
outs_still n w (Some x) h = go (subst (λ (b : Bool). given_if x.1 b ≡ []) (equal x.0 x.0 refl) (h x.0))
  where
    go : x.1 ∷ [] ≡ [] → outs n w (Some x) ≡ []
    go e = absurd (grind (arith, e))

-- ---- events that are ready

-- each delivery is of a message that was sent and is in flight when its turn comes; all else are ticks
abbrev pub Ready : ℕ → List ℕ → List Event → Type 0
Ready s fl [] = Unit {0}
Ready s fl (event.Deliver i ∷ es) = (has_node fl i ≡ true) × (0 < i) × (i ≤ s) × Ready s (without fl i) es
Ready s fl (event.Tick a ∷ es) = Ready s fl es
Ready s fl (_ ∷ es) = ⊥

-- new messages don't matter
pub ready_more : (es : List Event) (s t : ℕ) (fl : List ℕ) (ps : List Posting) → s ≤ t → Ready s fl es → Ready t (fl ++ new_numbers s ps) es
ready_more [] s t fl ps le h = tt
ready_more (event.Deliver i ∷ es) s t fl ps le h = (
  has_front fl (new_numbers s ps) i h.0,
  h.1,
  omega (arith, h.2, le),
  subst (λ (xs : List ℕ). Ready t xs es) (sym (without_new fl s ps i h.2)) (ready_more es s t (without fl i) ps le h.3),
)
ready_more (event.Tick a ∷ es) s t fl ps le h = ready_more es s t fl ps le h
ready_more (_ ∷ es) s t fl ps le h = absurd h

taken_more : (es : List Event) (s : ℕ) (fl : List ℕ) (ps : List Posting) → Ready s fl es → left_flying es (fl ++ new_numbers s ps) ≡ left_flying es fl ++ new_numbers s ps
taken_more [] s fl ps h = refl
taken_more (event.Deliver i ∷ es) s fl ps h = ap (λ (xs : List ℕ). left_flying es xs) (without_new fl s ps i h.2) ∙ taken_more es s (without fl i) ps h.3
taken_more (event.Tick a ∷ es) s fl ps h = taken_more es s fl ps h
taken_more (_ ∷ es) s fl ps h = absurd h

-- ---- worlds in which the same is blocked

pub record Alike (u w : World) : Type 0 where
  pub groups : u.network.groups ≡ w.network.groups
  pub ups : (m : ℕ) → (u.facts m).up ≡ (w.facts m).up

blocked_alike : (u w : World) → Alike u w → (p : Posting) → is_blocked u p ≡ is_blocked w p
blocked_alike u w h p =
    ap (λ (gs : List (List ℕ)). (not (p.from == client) && (not (p.to == client) && apart gs p.from p.to)) || (not (p.to == client) && not (is_up u p.to))) h.groups
    ∙ ap (λ (b : Bool). are_apart w.network p.from p.to || (not (p.to == client) && not b)) (h.ups p.to)

pub input_alike : (u w : World) → Alike u w → (o : Option Posting) → input_of u o ≡ input_of w o
input_alike u w h None = refl
input_alike u w h (Some p) = ap (unblocked p) (blocked_alike u w h p)

pub ins_alike : (u w : World) (ps : List Posting) → Alike u w → u.network.sent ≡ w.network.sent ++ ps → (es : List Event) (fl : List ℕ) → Ready (length w.network.sent) fl es → (m : ℕ) → ins u es m ≡ ins w es m
ins_alike u w ps a e [] fl h m = refl
ins_alike u w ps a e (event.Deliver i ∷ es) fl h m =
    ap (λ (o : Option Posting). given m (input_of u o) ++ ins u es m) (posting_stays u.network w.network ps i e h.1 h.2)
    ∙ ap (λ (o : Option (ℕ × Input)). given m o ++ ins u es m) (input_alike u w a (posting_at w.network i))
    ∙ ap (λ (xs : List Input). given m (input_of w (posting_at w.network i)) ++ xs) (ins_alike u w ps a e es (without fl i) h.3 m)
ins_alike u w ps a e (event.Tick b ∷ es) fl h m = ap (λ (xs : List Input). given m (Some (b, Ticks)) ++ xs) (ins_alike u w ps a e es fl h m)
ins_alike u w ps a e (_ ∷ es) fl h m = absurd h

-- ---- events

-- each node has made what it makes of what came to it, and posted what it sends of that
pub record Ran (n : ℕ) (w v : World) (es : List Event) : Type 0 where
  pub facts : (m : ℕ) → v.facts m ≡ served n (w.clocks m) (w.facts m) (ins w es m)
  pub nodes : v.nodes ≡ w.nodes
  pub clocks : v.clocks ≡ w.clocks
  pub groups : v.network.groups ≡ w.network.groups
  pub posted : List Posting
  pub sent : v.network.sent ≡ w.network.sent ++ posted
  pub flying : v.network.flying ≡ left_flying es w.network.flying ++ new_numbers (length w.network.sent) posted
  pub from : (a : ℕ) → letters_from a posted ≡ outbox n (w.clocks a) (w.facts a) (ins w es a)
  pub still : ((m : ℕ) → ins w es m ≡ []) → posted ≡ []

pub named_on : (n : ℕ) (w v : World) (is : ℕ → List Input) → ((m : ℕ) → v.facts m ≡ served n (w.clocks m) (w.facts m) (is m)) → Named w → Named v
named_on n w v is h named m = ap (λ (f : Facts). f.me) (h m) ∙ (served_same n (w.clocks m) (w.facts m) (is m)).me ∙ named m

pub ups_on : (n : ℕ) (w v : World) (is : ℕ → List Input) → ((m : ℕ) → v.facts m ≡ served n (w.clocks m) (w.facts m) (is m)) → (m : ℕ) → (v.facts m).up ≡ (w.facts m).up
ups_on n w v is h m = ap (λ (f : Facts). f.up) (h m) ∙ (served_same n (w.clocks m) (w.facts m) (is m)).up

-- the events that follow are ready after the first
pub ready_on : (n : ℕ) (w u : World) (e : Event) (es : List Event) (left : List ℕ) → Stepped n w u (input w e) left → Ready (length w.network.sent) left es → Ready (length u.network.sent) u.network.flying es
ready_on n w u e es left st ready =
    let ps : List Posting = outs n w (input w e) in
    let longer : length u.network.sent ≡ length w.network.sent + length ps = ap (λ (xs : List Posting). length xs) st.sent ∙ length-append w.network.sent ps in
    subst (λ (xs : List ℕ). Ready (length u.network.sent) xs es) (sym st.flying) (ready_more es (length w.network.sent) (length u.network.sent) left ps (omega (arith, longer)) ready)

ran_on : (n : ℕ) (w u v : World) (e : Event) (es : List Event) (left : List ℕ) → Stepped n w u (input w e) left → Ready (length w.network.sent) left es → left_flying (e ∷ es) w.network.flying ≡ left_flying es left → Named w
    → (Named u → Ready (length u.network.sent) u.network.flying es → Ran n u v es) → Ran n w v (e ∷ es)
ran_on n w u v e es left st ready same named next =
    let ps : List Posting = outs n w (input w e) in
    let s : ℕ = length w.network.sent in
    let longer : length u.network.sent ≡ s + length ps = ap (λ (xs : List Posting). length xs) st.sent ∙ length-append w.network.sent ps in
    let r : Ran n u v es = next (named_on n w u (λ m. given m (input w e)) st.facts named) (ready_on n w u e es left st ready) in
    let alike : Alike u w = record { groups = st.groups; ups = ups_on n w u (λ m. given m (input w e)) st.facts } in
    let inputs : (m : ℕ) → ins u es m ≡ ins w es m = ins_alike u w ps alike st.sent es left ready in
    record {
      facts = λ m.
          r.facts m
          ∙ ap (λ (c : ℕ → ℕ). served n (c m) (u.facts m) (ins u es m)) st.clocks
          ∙ ap (λ (f : Facts). served n (w.clocks m) f (ins u es m)) (st.facts m)
          ∙ ap (λ (xs : List Input). served n (w.clocks m) (served n (w.clocks m) (w.facts m) (given m (input w e))) xs) (inputs m)
          ∙ sym (served_append n (w.clocks m) (w.facts m) (given m (input w e)) (ins w es m));
      nodes = r.nodes ∙ st.nodes;
      clocks = r.clocks ∙ st.clocks;
      groups = r.groups ∙ st.groups;
      posted = ps ++ r.posted;
      sent = r.sent ∙ ap (λ (xs : List Posting). xs ++ r.posted) st.sent ∙ append_assoc w.network.sent ps r.posted;
      flying =
          r.flying
          ∙ ap (λ (xs : List ℕ). left_flying es xs ++ new_numbers (length u.network.sent) r.posted) st.flying
          ∙ ap (λ (xs : List ℕ). xs ++ new_numbers (length u.network.sent) r.posted) (taken_more es s left ps ready)
          ∙ append_assoc (left_flying es left) (new_numbers s ps) (new_numbers (length u.network.sent) r.posted)
          ∙ ap (λ (k : ℕ). left_flying es left ++ (new_numbers s ps ++ new_numbers k r.posted)) longer
          ∙ ap (λ (xs : List ℕ). left_flying es left ++ xs) (sym (numbers_append s ps r.posted))
          ∙ ap (λ (xs : List ℕ). xs ++ new_numbers s (ps ++ r.posted)) (sym same);
      from = λ a.
          filter_map-append (letter_from a) ps r.posted
          ∙ ap (λ (xs : List (ℕ × Message)). letters_from a ps ++ xs)
          (r.from a
          ∙ ap (λ (c : ℕ → ℕ). outbox n (c a) (u.facts a) (ins u es a)) st.clocks
          ∙ ap (λ (f : Facts). outbox n (w.clocks a) f (ins u es a)) (st.facts a)
          ∙ ap (λ (xs : List Input). outbox n (w.clocks a) (served n (w.clocks a) (w.facts a) (given a (input w e))) xs) (inputs a))
          ∙ ap (λ (xs : List (ℕ × Message)). xs ++ outbox n (w.clocks a) (served n (w.clocks a) (w.facts a) (given a (input w e))) (ins w es a)) (outs_from n w (input w e) a)
          ∙ sym (outbox_append n (w.clocks a) (w.facts a) (given a (input w e)) (ins w es a));
      still = λ h.
          ap (λ (xs : List Posting). xs ++ r.posted) (outs_still n w (input w e) (λ m. nil_front (given m (input w e)) (ins w es m) (h m)))
          ∙ r.still (λ m. inputs m ∙ nil_behind (given m (input w e)) (ins w es m) (h m));
    }

-- what events of a round make of the world
pub ran : (n : ℕ) (es : List Event) (w : World) → Named w → Ready (length w.network.sent) w.network.flying es → Clear n w es → Ran n w (play_all n es w).world es
ran n [] w named ready clear = record {
  facts = λ m. refl;
  nodes = refl;
  clocks = refl;
  groups = refl;
  posted = [];
  sent = sym (append-nil w.network.sent);
  flying = sym (append-nil w.network.flying);
  from = λ a. refl;
  still = λ h. refl;
}
ran n (event.Deliver i ∷ es) w named ready clear =
    let there : (p : Posting) × (posting_at w.network i ≡ Some p) = posting_there w.network i ready.1 ready.2 in
    let flies : flying_at w.network i ≡ Some there.0 = ap (λ (b : Bool). (if b then posting_at w.network i else None)) ready.0 ∙ there.1 in
    let st : Stepped n w (play n (event.Deliver i) w).world (input_of w (Some there.0)) (without w.network.flying i) = step_deliver n w i there.0 named flies there.1 clear.0 in
    ran_on n w (play n (event.Deliver i) w).world (play_all n (event.Deliver i ∷ es) w).world (event.Deliver i) es (without w.network.flying i)
    (subst (λ (o : Option Posting). Stepped n w (play n (event.Deliver i) w).world (input_of w o) (without w.network.flying i)) (sym there.1) st)
    ready.3 refl named (λ nu ru. ran n es (play n (event.Deliver i) w).world nu ru clear.1)
ran n (event.Tick a ∷ es) w named ready clear =
    ran_on n w (play n (event.Tick a) w).world (play_all n (event.Tick a ∷ es) w).world (event.Tick a) es w.network.flying
    (step_tick n w a named clear.0) ready refl named (λ nu ru. ran n es (play n (event.Tick a) w).world nu ru clear.1)
ran n (_ ∷ es) w named ready clear = absurd ready
