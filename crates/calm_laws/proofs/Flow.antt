-- A flow and the ticks of a round, as what each node makes of what comes to it.
use Rattle.std.proofs.Common.{◌≡◌, ℕ, ◌+◌, ◌≤◌, ◌==◌, ◌||◌, ◌&&◌, not, Bool, true, false, cond, List, [], ◌∷◌, ◌++◌, map, length, Option, Some, None, refl, sym, ap, subst, ◌∙◌, append_assoc, arith, length-append, ◌⊎◌, inl, inr, suc}
use Rattle.std.specs.List.{cons_option}
use Rattle.cluster_types.specs.Distinct.{without}
use Rattle.wire_messages.specs.declared.message.Message.{Message}
use Rattle.wire_messages.specs.Decoding.{message_of}
use Rattle.partition_lists.proofs.InOrderLaws.{equal}
use Rattle.cluster_rules.specs.declared.event.Event.{Event}
use Rattle.cluster_rules.specs.declared.event.Event.TheVariants as event
use Rattle.cluster_rules.specs.DueEvents.{is_blocked}
use Rattle.journal_readings.specs.Lines.{has_node}
use Rattle.journal_readings.specs.Messages.{Posting}
use Rattle.cluster_rules.specs.Network.{are_apart}
use Rattle.cluster_rules.specs.Steps.{play_all, flow}
use Rattle.cluster_rules.specs.World.{World, is_up}
use Rattle.cluster_rules.proofs.KeptFacts.{num_same}
use Rattle.cluster_laws.proofs.At.{differ}
use Rattle.cluster_laws.proofs.GroundLaws.{apart}
use Rattle.run_laws.specs.Tied.{Among}
use Rattle.node_rules.specs.Messages.{client}
use Rattle.calm_laws.specs.Acts.{Input, Ticks, Gets, read_to, served, outbox}
use Rattle.calm_laws.specs.Letters.{new_numbers, letter_if, letter_from, letters_from, arriving_input, unblocked, input_of, input, given, given_if, ins, arriving_at, left_flying}
use Rattle.calm_laws.specs.Flows.{Clear, Flowed, InOrder, Named, AreGiven, Once, Ticked, inbox, ticks_if}
use Rattle.calm_laws.proofs.Lists.{above_isnt, posting_new}
use Rattle.calm_laws.proofs.Ran.{Ready, Alike, Ran, ran, named_on, ups_on, ins_alike}

-- ---- numbers in flight

has_first : (x : ℕ) (xs : List ℕ) → has_node (x ∷ xs) x ≡ true
has_first x xs = ap (λ (b : Bool). b || has_node xs x) (equal x x refl)

has_later : (x : ℕ) (xs : List ℕ) (j : ℕ) → has_node xs j ≡ true → has_node (x ∷ xs) j ≡ true
has_later x xs j e = go (x == j)
  where
    go : (b : Bool) → (b || has_node xs j) ≡ true
    go true = refl
    go false = e

has_split : (x : ℕ) (xs : List ℕ) (j : ℕ) → has_node (x ∷ xs) j ≡ true → (x ≡ j) ⊎ (has_node xs j ≡ true)
has_split x xs j e = go (x == j) refl e
  where
    go : (b : Bool) → (x == j) ≡ b → (b || has_node xs j) ≡ true → (x ≡ j) ⊎ (has_node xs j ≡ true)
    go true s f = inl (num_same x j s)
    go false s f = inr f

has_kept : (fl : List ℕ) (i j : ℕ) → has_node fl j ≡ true → (j ≡ i → ⊥) → has_node (without fl i) j ≡ true
has_kept [] i j e d = e
has_kept (x ∷ fl) i j e d = go (x == i) refl (has_split x fl j e) (λ f. has_kept fl i j f d)
  where
    go : (b : Bool) → (x == i) ≡ b → (x ≡ j) ⊎ (has_node fl j ≡ true) → (has_node fl j ≡ true → has_node (without fl i) j ≡ true) → has_node (cond (not b) (x ∷ without fl i) (without fl i)) j ≡ true
    go true s (inl h) rest = absurd (d (sym h ∙ num_same x i s))
    go true s (inr h) rest = rest h
    go false s (inl h) rest = subst (λ (y : ℕ). has_node (x ∷ without fl i) y ≡ true) h (has_first x (without fl i))
    go false s (inr h) rest = has_later x (without fl i) j (rest h)

kept_has : (fl : List ℕ) (i j : ℕ) → has_node (without fl i) j ≡ true → (has_node fl j ≡ true) × (i ≡ j → ⊥)
kept_has [] i j e = differ e refl
kept_has (x ∷ fl) i j e = go (x == i) refl e (kept_has fl i j)
  where
    go : (b : Bool) → (x == i) ≡ b → has_node (cond (not b) (x ∷ without fl i) (without fl i)) j ≡ true → (has_node (without fl i) j ≡ true → (has_node fl j ≡ true) × (i ≡ j → ⊥)) → (has_node (x ∷ fl) j ≡ true) × (i ≡ j → ⊥)
    go true s f rest = (has_later x fl j (rest f).0, (rest f).1)
    go false s f rest = split (has_split x (without fl i) j f)
      where
        split : (x ≡ j) ⊎ (has_node (without fl i) j ≡ true) → (has_node (x ∷ fl) j ≡ true) × (i ≡ j → ⊥)
        split (inl h) = (subst (λ (y : ℕ). has_node (x ∷ fl) y ≡ true) h (has_first x fl), λ t. differ (equal x i (h ∙ sym t)) s)
        split (inr h) = (has_later x fl j (rest h).0, (rest h).1)

-- the deliveries of a flow are ready
pub ready_flow : (is : List ℕ) (s : ℕ) (fl : List ℕ) → AreGiven s is → ((j : ℕ) → has_node is j ≡ true → has_node fl j ≡ true) → Ready s fl (map event.Deliver is)
ready_flow [] s fl h sub = tt
ready_flow (i ∷ is) s fl h sub =
    (sub i (has_first i is), h.1, h.2, ready_flow is s (without fl i) h.3 (λ j e. has_kept fl i j (sub j (has_later i is j e)) (λ t. differ (subst (λ (y : ℕ). has_node is y ≡ true) t e) h.0)))

-- and nothing of what was in flight is left
taken_flow : (is fl : List ℕ) → ((j : ℕ) → has_node fl j ≡ true → has_node is j ≡ true) → left_flying (map event.Deliver is) fl ≡ []
taken_flow [] [] sub = refl
taken_flow [] (x ∷ fl) sub = differ (sub x (has_first x fl)) refl
taken_flow (i ∷ is) fl sub = taken_flow is (without fl i) (λ j e. other j (kept_has fl i j e))
  where
    other : (j : ℕ) → (has_node fl j ≡ true) × (i ≡ j → ⊥) → has_node is j ≡ true
    other j h = split (has_split i is j (sub j h.0))
      where
        split : (i ≡ j) ⊎ (has_node is j ≡ true) → has_node is j ≡ true
        split (inl t) = absurd (h.1 t)
        split (inr t) = t

new_hasnt : (s : ℕ) (ps : List Posting) (i : ℕ) → i ≤ s → has_node (new_numbers s ps) i ≡ false
new_hasnt s [] i le = refl
new_hasnt s (p ∷ ps) i le = ap (λ (b : Bool). b || has_node (new_numbers (s + 1) ps) i) (apart (s + 1) i (above_isnt s i le)) ∙ new_hasnt (s + 1) ps i (omega (arith, le))

numbered_new : (s t : ℕ) (ps : List Posting) → s + length ps ≤ t → AreGiven t (new_numbers s ps)
numbered_new s t [] le = tt
numbered_new s t (p ∷ ps) le = (new_hasnt (s + 1) ps (s + 1) (omega arith), omega arith, first (length ps) le, numbered_new (s + 1) t ps (rest (length ps) le))
  where
    first : (k : ℕ) → s + suc k ≤ t → s + 1 ≤ t
    first k h = omega (arith, h)

    rest : (k : ℕ) → s + suc k ≤ t → s + 1 + k ≤ t
    rest k h = omega (arith, h)

hasnt_both : (xs ys : List ℕ) (i : ℕ) → has_node xs i ≡ false → has_node ys i ≡ false → has_node (xs ++ ys) i ≡ false
hasnt_both [] ys i e f = f
hasnt_both (x ∷ xs) ys i e f = go (x == i) e (λ g. hasnt_both xs ys i g f)
  where
    go : (b : Bool) → (b || has_node xs i) ≡ false → (has_node xs i ≡ false → has_node (xs ++ ys) i ≡ false) → (b || has_node (xs ++ ys) i) ≡ false
    go true g rest = differ refl g
    go false g rest = rest g

pub numbered_more : (fl : List ℕ) (s t : ℕ) (ps : List Posting) → s + length ps ≤ t → AreGiven s fl → AreGiven t (fl ++ new_numbers s ps)
numbered_more [] s t ps le h = numbered_new s t ps le
numbered_more (i ∷ fl) s t ps le h = (hasnt_both fl (new_numbers s ps) i h.0 (new_hasnt s ps i h.2), h.1, below (length ps) le h.2, numbered_more fl s t ps le h.3)
  where
    below : (k : ℕ) → s + k ≤ t → i ≤ s → i ≤ t
    below k a b = omega (arith, a, b)

-- ---- what new messages bring

arriving_new : (ps before : List Posting) (v : World) (m : ℕ) → v.network.sent ≡ before ++ ps → ins v (map event.Deliver (new_numbers (length before) ps)) m ≡ arriving_at v m ps
arriving_new [] before v m e = refl
arriving_new (p ∷ ps) before v m e =
    ap (λ (o : Option Posting). given m (input_of v o) ++ ins v (map event.Deliver (new_numbers (length before + 1) ps)) m) (posting_new v.network before p ps e)
    ∙ ap (λ (k : ℕ). given m (input_of v (Some p)) ++ ins v (map event.Deliver (new_numbers k ps)) m) (sym (length-append before (p ∷ [])))
    ∙ ap (λ (xs : List Input). given m (input_of v (Some p)) ++ xs) (arriving_new ps (before ++ p ∷ []) v m (e ∙ sym (append_assoc before (p ∷ []) ps)))

-- ---- a flow

pub flowed : (n : ℕ) (w : World) → Named w → InOrder w → Clear n w (map event.Deliver w.network.flying) → Flowed n w (flow n w).world
flowed n w named ordered clear =
    let v : World = (flow n w).world in
    let es : List Event = map event.Deliver w.network.flying in
    let r : Ran n w v es = ran n es w named (ready_flow w.network.flying (length w.network.sent) w.network.flying ordered (λ j e. e)) clear in
    let flying : v.network.flying ≡ new_numbers (length w.network.sent) r.posted = r.flying ∙ ap (λ (xs : List ℕ). xs ++ new_numbers (length w.network.sent) r.posted) (taken_flow w.network.flying w.network.flying (λ j e. e)) in
    let longer : length v.network.sent ≡ length w.network.sent + length r.posted = ap (λ (xs : List Posting). length xs) r.sent ∙ length-append w.network.sent r.posted in
    record {
      facts = r.facts;
      nodes = r.nodes;
      clocks = r.clocks;
      groups = r.groups;
      ups = ups_on n w v (λ m. ins w es m) r.facts;
      posted = r.posted;
      from = r.from;
      still = λ h. flying ∙ ap (λ (ps : List Posting). new_numbers (length w.network.sent) ps) (r.still h);
      inbox = λ m. ap (λ (xs : List ℕ). ins v (map event.Deliver xs) m) flying ∙ arriving_new r.posted w.network.sent v m r.sent;
      named = named_on n w v (λ m. ins w es m) r.facts named;
      in_order = subst (λ (xs : List ℕ). AreGiven (length v.network.sent) xs) (sym flying) (numbered_new (length w.network.sent) (length v.network.sent) r.posted (omega (arith, longer)));
    }

-- ---- the ticks of a round

ready_ticks : (ns : List ℕ) (s : ℕ) (fl : List ℕ) → Ready s fl (map event.Tick ns)
ready_ticks [] s fl = tt
ready_ticks (a ∷ ns) s fl = ready_ticks ns s fl

taken_ticks : (ns fl : List ℕ) → left_flying (map event.Tick ns) fl ≡ fl
taken_ticks [] fl = refl
taken_ticks (a ∷ ns) fl = taken_ticks ns fl

ins_ticks : (w : World) (ns : List ℕ) → Once ns → (m : ℕ) → ins w (map event.Tick ns) m ≡ ticks_if (has_node ns m)
ins_ticks w [] h m = refl
ins_ticks w (a ∷ ns) h m = go (a == m) refl (ins_ticks w ns h.1 m)
  where
    go : (b : Bool) → (a == m) ≡ b → ins w (map event.Tick ns) m ≡ ticks_if (has_node ns m) → given_if Ticks b ++ ins w (map event.Tick ns) m ≡ ticks_if (b || has_node ns m)
    go true e rest = ap (λ (xs : List Input). Ticks ∷ xs) (rest ∙ ap ticks_if (subst (λ (y : ℕ). has_node ns y ≡ false) (num_same a m e) h.0))
    go false e rest = rest

ins_append : (w : World) (es fs : List Event) (m : ℕ) → ins w (es ++ fs) m ≡ ins w es m ++ ins w fs m
ins_append w [] fs m = refl
ins_append w (e ∷ es) fs m = ap (λ (xs : List Input). given m (input w e) ++ xs) (ins_append w es fs m) ∙ sym (append_assoc (given m (input w e)) (ins w es m) (ins w fs m))

map_append : (f : ℕ → Event) (xs ys : List ℕ) → map f (xs ++ ys) ≡ map f xs ++ map f ys
map_append f [] ys = refl
map_append f (x ∷ xs) ys = ap (λ (es : List Event). f x ∷ es) (map_append f xs ys)

pub ticked : (n : ℕ) (w : World) (ns : List ℕ) → Named w → InOrder w → Once ns → Clear n w (map event.Tick ns) → Ticked n w (play_all n (map event.Tick ns) w).world ns
ticked n w ns named ordered once clear =
    let es : List Event = map event.Tick ns in
    let v : World = (play_all n es w).world in
    let s : ℕ = length w.network.sent in
    let fl : List ℕ = w.network.flying in
    let r : Ran n w v es = ran n es w named (ready_ticks ns s fl) clear in
    let flying : v.network.flying ≡ fl ++ new_numbers s r.posted = r.flying ∙ ap (λ (xs : List ℕ). xs ++ new_numbers s r.posted) (taken_ticks ns fl) in
    let longer : length v.network.sent ≡ s + length r.posted = ap (λ (xs : List Posting). length xs) r.sent ∙ length-append w.network.sent r.posted in
    let ups : (m : ℕ) → is_up v m ≡ is_up w m = ups_on n w v (λ m. ins w es m) r.facts in
    let alike : Alike v w = record { groups = r.groups; ups = ups } in
    record {
      facts = λ m. r.facts m ∙ ap (λ (xs : List Input). served n (w.clocks m) (w.facts m) xs) (ins_ticks w ns once m);
      nodes = r.nodes;
      clocks = r.clocks;
      groups = r.groups;
      ups = ups;
      posted = r.posted;
      from = λ a. r.from a ∙ ap (λ (xs : List Input). outbox n (w.clocks a) (w.facts a) xs) (ins_ticks w ns once a);
      inbox = λ m.
          ap (λ (xs : List ℕ). ins v (map event.Deliver xs) m) flying
          ∙ ap (λ (xs : List Event). ins v xs m) (map_append event.Deliver fl (new_numbers s r.posted))
          ∙ ins_append v (map event.Deliver fl) (map event.Deliver (new_numbers s r.posted)) m
          ∙ ap (λ (xs : List Input). xs ++ ins v (map event.Deliver (new_numbers s r.posted)) m) (ins_alike v w r.posted alike r.sent (map event.Deliver fl) fl (ready_flow fl s fl ordered (λ j e. e)) m)
          ∙ ap (λ (xs : List Input). inbox w m ++ xs) (arriving_new r.posted w.network.sent v m r.sent);
      named = named_on n w v (λ m. ins w es m) r.facts named;
      in_order = subst (λ (xs : List ℕ). AreGiven (length v.network.sent) xs) (sym flying) (numbered_more fl s (length v.network.sent) r.posted (omega (arith, longer)) ordered);
    }

-- ---- who gets what

pub among_front : {A : Type 0} (x : A) (xs ys : List A) → Among xs x → Among (xs ++ ys) x
among_front x [] ys h = absurd h
among_front x (y ∷ xs) ys (inl e) = inl e
among_front x (y ∷ xs) ys (inr h) = inr (among_front x xs ys h)

pub among_behind : {A : Type 0} (x : A) (xs ys : List A) → Among ys x → Among (xs ++ ys) x
among_behind x [] ys h = h
among_behind x (y ∷ xs) ys h = inr (among_behind x xs ys h)

pub among_either : {A : Type 0} (x : A) (xs ys : List A) → Among (xs ++ ys) x → Among xs x ⊎ Among ys x
among_either x [] ys h = inr h
among_either x (y ∷ xs) ys (inl e) = inl (inl e)
among_either {A} x (y ∷ xs) ys (inr h) = go (among_either x xs ys h)
  where
    go : Among xs x ⊎ Among ys x → Among (y ∷ xs) x ⊎ Among ys x
    go (inl i) = inl (inr i)
    go (inr i) = inr i

-- messages from the one reach the other
pub record Open (w : World) (a m : ℕ) : Type 0 where
  pub up : is_up w m ≡ true
  pub together : are_apart w.network a m ≡ false
  pub node : (m == client) ≡ false

open_free : (w : World) (p : Posting) → Open w p.from p.to → is_blocked w p ≡ false
open_free w p h =
    ap (λ (b : Bool). b || (not (p.to == client) && not (is_up w p.to))) h.together
    ∙ ap (λ (b : Bool). not (p.to == client) && not b) h.up
    ∙ never (not (p.to == client))
  where
    never : (b : Bool) → (b && false) ≡ false
    never true = refl
    never false = refl

-- what was posted to a node that is open to its sender comes to it
pub arrives : (w : World) (a m : ℕ) (x : Message) (ps : List Posting) → Open w a m → Among (letters_from a ps) (m, x) → Among (arriving_at w m ps) (Gets a x)
arrives w a m x [] o h = absurd h
arrives w a m x (p ∷ ps) o h = go (p.from == a) refl (message_of p.bytes) refl h (arrives w a m x ps o)
  where
    rest : Among (arriving_at w m ps) (Gets a x) → Among (arriving_at w m (p ∷ ps)) (Gets a x)
    rest i = among_behind (Gets a x) (given m (input_of w (Some p))) (arriving_at w m ps) i

    here : (y : Message) → p.from ≡ a → message_of p.bytes ≡ Some y → p.to ≡ m → y ≡ x → Among (arriving_at w m (p ∷ ps)) (Gets a x)
    here y s r t e =
        let open_p : Open w p.from p.to = subst (λ (k : ℕ). Open w k p.to) (sym s) (subst (λ (k : ℕ). Open w a k) (sym t) o) in
        let is : given m (input_of w (Some p)) ≡ Gets p.from y ∷ [] =
        ap (λ (b : Bool). given m (unblocked p b)) (open_free w p open_p)
        ∙ ap (λ (z : Option Message). given m (arriving_input p z (p.to == client))) r
        ∙ ap (λ (b : Bool). given m (arriving_input p (Some y) b)) open_p.node
        ∙ ap (λ (b : Bool). given_if (Gets p.from y) b) (equal p.to m t) in
        subst (λ (xs : List Input). Among (xs ++ arriving_at w m ps) (Gets a x)) (sym is) (inl (ap (λ (k : ℕ). Gets k y) s ∙ ap (λ (z : Message). Gets a z) e))

    go : (b : Bool) → (p.from == a) ≡ b → (z : Option Message) → message_of p.bytes ≡ z
        → Among (cons_option (letter_if p b) (letters_from a ps)) (m, x) → (Among (letters_from a ps) (m, x) → Among (arriving_at w m ps) (Gets a x)) → Among (arriving_at w m (p ∷ ps)) (Gets a x)
    go false s z r i next = rest (next i)
    go true s None r i next = rest (next (subst (λ (q : Option Message). Among (cons_option (read_to p.to q) (letters_from a ps)) (m, x)) r i))
    go true s (Some y) r i next = split (subst (λ (q : Option Message). Among (cons_option (read_to p.to q) (letters_from a ps)) (m, x)) r i)
      where
        split : (◌≡◌ {A = ℕ × Message} (p.to, y) (m, x)) ⊎ Among (letters_from a ps) (m, x) → Among (arriving_at w m (p ∷ ps)) (Gets a x)
        split (inl e) = here y (num_same p.from a s) r (ap (λ (q : ℕ × Message). q.0) e) (ap (λ (q : ℕ × Message). q.1) e)
        split (inr j) = rest (next j)

-- what comes to a node was posted to it by a sender to whom it is open
pub record Came (w : World) (m : ℕ) (ps : List Posting) (i : Input) : Type 0 where
  pub from : ℕ
  pub message : Message
  pub is : Gets from message ≡ i
  pub letter : Among (letters_from from ps) (m, message)
  pub free : is_blocked w (record { from = from; to = m; bytes = [] }) ≡ false

came_later : (w : World) (m : ℕ) (p : Posting) (ps : List Posting) (i : Input) → Came w m ps i → Came w m (p ∷ ps) i
came_later w m p ps i c = record { from = c.from; message = c.message; is = c.is; letter = go (letter_from c.from p); free = c.free }
  where
    go : (o : Option (ℕ × Message)) → Among (cons_option o (letters_from c.from ps)) (m, c.message)
    go None = c.letter
    go (Some l) = inr c.letter

pub came : (w : World) (m : ℕ) (ps : List Posting) (i : Input) → Among (arriving_at w m ps) i → Came w m ps i
came w m [] i h = absurd h
came w m (p ∷ ps) i h = split (among_either i (given m (input_of w (Some p))) (arriving_at w m ps) h) (came w m ps i)
  where
    given_here : (y : Message) (b : Bool) → (p.to == m) ≡ b → is_blocked w p ≡ false → message_of p.bytes ≡ Some y → Among (given_if (Gets p.from y) b) i → Came w m (p ∷ ps) i
    given_here y false s free r g = absurd g
    given_here y true s free r (inr g) = absurd g
    given_here y true s free r (inl g) = record {
      from = p.from;
      message = y;
      is = g;
      letter =
          subst (λ (b : Bool). Among (cons_option (letter_if p b) (letters_from p.from ps)) (m, y)) (sym (equal p.from p.from refl))
          (subst (λ (q : Option Message). Among (cons_option (read_to p.to q) (letters_from p.from ps)) (m, y)) (sym r)
          (inl (ap (λ (k : ℕ). (k, y)) (num_same p.to m s))));
      free = subst (λ (k : ℕ). is_blocked w (record { from = p.from; to = k; bytes = [] }) ≡ false) (num_same p.to m s) free;
    }

    at_end : (z : Option Message) (c : Bool) → message_of p.bytes ≡ z → is_blocked w p ≡ false → Among (given m (arriving_input p z c)) i → Came w m (p ∷ ps) i
    at_end None c r free g = absurd g
    at_end (Some y) true r free g = absurd g
    at_end (Some y) false r free g = given_here y (p.to == m) refl free r g

    opens : (b : Bool) → is_blocked w p ≡ b → Among (given m (unblocked p b)) i → Came w m (p ∷ ps) i
    opens true s g = absurd g
    opens false s g = at_end (message_of p.bytes) (p.to == client) refl s g

    split : Among (given m (input_of w (Some p))) i ⊎ Among (arriving_at w m ps) i → (Among (arriving_at w m ps) i → Came w m ps i) → Came w m (p ∷ ps) i
    split (inl g) next = opens (is_blocked w p) refl g
    split (inr g) next = came_later w m p ps i (next g)
