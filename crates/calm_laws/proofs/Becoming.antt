-- Each step makes of each node's facts what the node's rules make of them, or leaves them.
use Rattle.std.proofs.Common.{◌≡◌, ℕ, ◌+◌, ◌-◌, ◌≤◌, ◌==◌, ◌||◌, ◌&&◌, not, nat_lt, nat_le, Bool, true, false, List, [], ◌∷◌, ◌++◌, map, All, length, Option, Some, None, refl, sym, ap, subst, ◌∙◌, arith}
use Rattle.std.specs.Prelude.{option_and_then, option_map, if◌then◌else◌, slice_get}
use Rattle.std.specs.List.{list_all, range_with_len}
use Rattle.std.proofs.lemmas.Bool.Decides.{nat_tests}
use Rattle.std.proofs.lemmas.List.Elements.{All-nil, All-cons}
use Rattle.conflict_order.specs.declared.want.Want.{Want}
use Rattle.conflict_order.specs.declared.want.Want.TheVariants as want
use Rattle.cluster_types.specs.Distinct.{without}
use Rattle.cluster_types.specs.Partitions.{partition_count, partition_of}
use Rattle.wire_messages.specs.declared.message.Message.{Message}
use Rattle.wire_messages.specs.declared.message.Message.TheVariants as message
use Rattle.wire_messages.specs.Decoding.{message_of}
use Rattle.wire_messages.specs.Requests.{IsWant}
use Rattle.wire_messages.specs.Versions.{IsDigest}
use Rattle.wire_messages.proofs.DecodingLaws.{read_back}
use Rattle.journal_lines.specs.declared.line.Line.{Line}
use Rattle.journal_lines.specs.declared.line.Line.TheVariants as line
use Rattle.journal_lines.specs.declared.refusal.Refusal.{Refusal}
use Rattle.partition_lists.proofs.InOrderLaws.{equal}
use Rattle.node_rules.specs.Client.{node_for}
use Rattle.node_rules.specs.Effects.{Effects, lines_only}
use Rattle.node_rules.specs.Facts.{Facts, list_at}
use Rattle.node_rules.specs.Map.{entry_of}
use Rattle.node_rules.specs.Messages.{due_message, client, due_message_of}
use Rattle.node_rules.specs.Notes.{all_sent, noted, reached}
use Rattle.node_rules.specs.Requests.{due_request, due_start, due_stop, map_refusal}
use Rattle.node_rules.specs.Shows.{due_show, map_if, map_line}
use Rattle.node_rules.specs.Tick.{due_tick, parts, parts_in_order}
use Rattle.request_rules.specs.LineNotes.{all_requests_noted}
use Rattle.request_rules.specs.Replies.{want_in_message}
use Rattle.journal_readings.specs.Messages.{Posting, arrived, arrived_cut}
use Rattle.cluster_rules.specs.declared.event.Event.{Event}
use Rattle.cluster_rules.specs.declared.event.Event.TheVariants as event
use Rattle.cluster_rules.specs.DueEvents.{arriving, delivery, due_arrival, due_at_client, due_at_named, is_blocked, losing, written}
use Rattle.cluster_rules.specs.Marks.{Writes, adds, after_all, after_line, event_begun, came, came_to_client, came_to_node, asker_in, arrival_under, taken_by, want_in}
use Rattle.cluster_rules.specs.Network.{Network, flying_at, landed, posting_at}
use Rattle.cluster_rules.specs.NodeSteps.{AreOf, AreRead, IsNumbered, Moves, all_sent_in}
use Rattle.cluster_rules.specs.Steps.{play}
use Rattle.cluster_rules.specs.World.{World, is_up}
use Rattle.cluster_rules.proofs.KeptFacts.{num_same}
use Rattle.cluster_rules.proofs.MarkLaws.{adds_nothing}
use Rattle.cluster_rules.proofs.NodeLaws.{node_step}
use Rattle.cluster_rules.proofs.RequestLaws.{want_of_arrival, want_unread}
use Rattle.cluster_rules.proofs.OwnLines.{message_own, request_own, start_own, stop_own, tick_own}
use Rattle.cluster_laws.proofs.At.{differ}
use Rattle.run_laws.specs.Taken.{IsProperEvent}
use Rattle.run_laws.specs.Worlds.{SendsAreRead}
use Rattle.calm_laws.specs.Becoming.{Became, stayed, ticked, heard, asked, stopped, started, quiesced}
use Rattle.calm_laws.specs.Flows.{InOrder, Named, AreGiven}
use Rattle.calm_laws.proofs.Took.{at_itself, at_other}
use Rattle.node_rules.specs.Entering.{closing}

-- ---- one node acts

one_acts : (w v : World) (e : Event) (a m : ℕ) → Became w e a (v.facts a) → ((x : ℕ) → (a ≡ x → ⊥) → v.facts x ≡ w.facts x) → Became w e m (v.facts m)
one_acts w v e a m here others = go (a == m) refl
  where
    go : (b : Bool) → (a == m) ≡ b → Became w e m (v.facts m)
    go true i = subst (λ (x : ℕ). Became w e x (v.facts x)) (num_same a m i) here
    go false i = stayed (others m (λ s. differ (equal a m s) i))

numbered_all : (s : ℕ) (is : List ℕ) → AreGiven s is → All (λ j. j ≤ s) is
numbered_all s [] h = All-nil (λ j. j ≤ s)
numbered_all s (i ∷ is) h = All-cons (λ j. j ≤ s) i is h.2 (numbered_all s is h.3)

pub numbered : (w : World) → InOrder w → IsNumbered w.network
numbered w h = record { upto = numbered_all _ w.network.flying h }

-- lines that add nothing
quiet_lines : (ls : List Line) (w : World) → list_all (λ l. not (adds l)) ls ≡ true → after_all w (map Writes ls) ≡ w
quiet_lines [] w e = refl
quiet_lines (l ∷ ls) w e = go (adds l) refl e (quiet_lines ls w)
  where
    go : (b : Bool) → adds l ≡ b → (not b && list_all (λ l. not (adds l)) ls) ≡ true → (list_all (λ l. not (adds l)) ls ≡ true → after_all w (map Writes ls) ≡ w) → after_all (after_line w l) (map Writes ls) ≡ w
    go true i q rest = differ q refl
    go false i q rest = ap (λ (u : World). after_all u (map Writes ls)) (adds_nothing w l i) ∙ rest q

quiet_maps : (f : Facts) (ps : List ℕ) → list_all (λ l. not (adds l)) (map (λ p. map_line f p (entry_of (list_at f p) f.exchange.rows p)) ps) ≡ true
quiet_maps f [] = refl
quiet_maps f (p ∷ ps) = quiet_maps f ps

quiet_map : (f : Facts) (from to : ℕ) (o : Option Refusal) → list_all (λ l. not (adds l)) (map_if f from to o ++ []) ≡ true
quiet_map f from to (Some cause) = refl
quiet_map f from to None = go (map_if f from to None) (quiet_maps f (range_with_len from (to + 1 - from)))
  where
    go : (ls : List Line) → list_all (λ l. not (adds l)) ls ≡ true → list_all (λ l. not (adds l)) (ls ++ []) ≡ true
    go [] e = refl
    go (l ∷ ls) e = both (not (adds l)) e (go ls)
      where
        both : (b : Bool) → (b && list_all (λ l. not (adds l)) ls) ≡ true → (list_all (λ l. not (adds l)) ls ≡ true → list_all (λ l. not (adds l)) (ls ++ []) ≡ true) → (b && list_all (λ l. not (adds l)) (ls ++ [])) ≡ true
        both true q rest = rest q
        both false q rest = q

-- ---- one world

module _ (w : World) (named : Named w) (read : SendsAreRead w) (order : InOrder w) where
  own_at : (a : ℕ) (ls : List Line) → AreOf (w.facts a).me ls → AreOf a ls
  own_at a ls h = subst (λ (n : ℕ). AreOf n ls) (named a) h

  -- ---- what a node does of itself

  acts : (e : Event) (a : ℕ) (x : Effects) → taken_by w.network e ≡ w.network → AreOf a x.lines → AreRead x.sends
      → Moves a (all_sent (noted (want_in w e) (w.facts a) x.lines) x.sends) (all_sent_in w.network a x.sends) (all_requests_noted (asker_in w e) (want_in w e) w.requests x.lines) (event_begun w e) (after_all (event_begun w e) (map Writes (written w.network a x)))
  acts e a x same own sends =
      subst (λ (net : Network). Moves a (all_sent (noted (want_in w e) (w.facts a) x.lines) x.sends) (all_sent_in net a x.sends) (all_requests_noted (asker_in w e) (want_in w e) w.requests x.lines) (event_begun w e) (after_all (event_begun w e) (map Writes (written net a x)))) same
      (node_step (event_begun w e) a x own sends (subst IsNumbered (sym same) (numbered w order)))

  tick_reads : (a : ℕ) (b : Bool) → (w.facts a).up ≡ b → AreRead (if b then parts_in_order (parts partition_count) (w.facts a) else lines_only (line.Down (w.facts a).me ∷ [])).sends
  tick_reads a false e = tt
  tick_reads a true e = subst (λ (b : Bool). AreRead (if b then parts_in_order (parts partition_count) (w.facts a) else lines_only (line.Down (w.facts a).me ∷ [])).sends) e (read.tick a e)

  stop_reads : (f : Facts) (b : Bool) → AreRead (if b then lines_only (closing f ++ line.Stop f.me ∷ []) else lines_only (line.Down f.me ∷ [])).sends
  stop_reads f true = tt
  stop_reads f false = tt

  start_reads : (f : Facts) (b : Bool) → AreRead (if b then lines_only (line.Up f.me ∷ []) else lines_only (line.Start f.me ∷ [])).sends
  start_reads f true = tt
  start_reads f false = tt

  of_tick : (a m : ℕ) → Became w (event.Tick a) m ((play partition_count (event.Tick a) w).world.facts m)
  of_tick a m =
      let k = acts (event.Tick a) a (due_tick (w.facts a)) refl (own_at a _ (tick_own partition_count (w.facts a))) (tick_reads a (w.facts a).up refl) in
      one_acts w (play partition_count (event.Tick a) w).world (event.Tick a) a m (ticked refl k.here) k.elsewhere

  of_stop : (a m : ℕ) → Became w (event.Stop a) m ((play partition_count (event.Stop a) w).world.facts m)
  of_stop a m =
      let k = acts (event.Stop a) a (due_stop (w.facts a)) refl (own_at a _ (stop_own (w.facts a))) (stop_reads (w.facts a) (w.facts a).up) in
      one_acts w (play partition_count (event.Stop a) w).world (event.Stop a) a m (stopped k.here) k.elsewhere

  of_start : (a m : ℕ) → Became w (event.Start a) m ((play partition_count (event.Start a) w).world.facts m)
  of_start a m =
      let k = acts (event.Start a) a (due_start (w.facts a)) refl (own_at a _ (start_own (w.facts a))) (start_reads (w.facts a) (w.facts a).up) in
      one_acts w (play partition_count (event.Start a) w).world (event.Start a) a m (started k.here) k.elsewhere

  of_request : (e : Event) (a : ℕ) (d : List ℕ) (q : Want) → taken_by w.network e ≡ w.network → want_in w e ≡ Some q → IsDigest d → IsWant q
      → (m : ℕ) → Became w e m ((after_all (event_begun w e) (map Writes (written w.network a (due_request (w.facts a) (w.clocks a) d q)))).facts m)
  of_request e a d q same wants digest proper m =
      let x : Effects = due_request (w.facts a) (w.clocks a) d q in
      let k = acts e a x same (own_at a _ (request_own (w.facts a) (w.clocks a) d q)) (read.request a d q digest proper) in
      one_acts w (after_all (event_begun w e) (map Writes (written w.network a x))) e a m (asked d q (k.here ∙ ap (λ (o : Option Want). all_sent (noted o (w.facts a) x.lines) x.sends) wants)) k.elsewhere

  of_client : (e : Event) (d : List ℕ) (q : Want) → taken_by w.network e ≡ w.network → want_in w e ≡ Some q → IsDigest d → IsWant q
      → (m : ℕ) (o : Option ℕ) → Became w e m ((after_all (event_begun w e) (map Writes (due_at_named w d q o))).facts m)
  of_client e d q same wants digest proper m None = stayed refl
  of_client e d q same wants digest proper m (Some a) = of_request e a d q same wants digest proper m

  -- ---- messages

  -- the event has the want of the message of that number
  abbrev Brings : Event → ℕ → Type 0
  Brings e i = want_in w e ≡ option_and_then (λ x. want_in_message x.message) (arrival_under w.network i)

  -- a message reached a node
  of_message : (e : Event) (i : ℕ) (p : Posting) (x : Message) → Brings e i → IsNumbered (taken_by w.network e) → posting_at w.network i ≡ Some p → message_of p.bytes ≡ Some x → is_up w p.to ≡ true
      → (m : ℕ) → Became w e m ((after_all (came_to_node (event_begun w e) (record { from = p.from; to = p.to; message = x })) (map Writes (written (taken_by w.network e) p.to (due_message (w.facts p.to) (w.clocks p.to) p.from x)))).facts m)
  of_message e i p x brings numbers stands is up m =
      let a : ℕ = p.to in
      let u : World = came_to_node (event_begun w e)
      (record { from = p.from; to = a; message = x }) in
      let y : Effects = due_message (w.facts a) (w.clocks a) p.from x in
      let v : World = after_all u (map Writes (written (taken_by w.network e) a y)) in
      let k : Moves a (all_sent (noted u.want (u.facts a) y.lines) y.sends) (all_sent_in u.network a y.sends) (all_requests_noted u.asker u.want u.requests y.lines) u v =
      node_step u a y (own_at a _ (message_own partition_count (w.facts a) (w.clocks a) p.from x)) (read.message i p x stands is up) numbers in
      one_acts w v e a m
      (heard i p x stands is refl
      (k.here
      ∙ ap (λ (o : Option Want). all_sent (noted o (u.facts a) y.lines) y.sends) (brings ∙ want_of_arrival w i p x stands is)
      ∙ ap (λ (f : Facts). all_sent f y.sends) (want_unread partition_count (w.facts a) (u.facts a) (w.clocks a) p.from x)
      ∙ ap (λ (f : Facts). all_sent (noted None f y.lines) y.sends) (at_itself w.facts a (reached (w.facts a) p.from x))))
      (λ n d. k.elsewhere n d ∙ at_other w.facts a (reached (w.facts a) p.from x) n d)

  at_client : (e : Event) (b : World) (x : Message) → b.facts ≡ w.facts → (m : ℕ) → Became w e m ((after_all (came_to_client b x) (map Writes (due_at_client x))).facts m)
  at_client e b (message.MapTable t) same m = stayed (ap (λ (f : ℕ → Facts). f m) same)
  at_client e b x same m = stayed (ap (λ (f : ℕ → Facts). f m) same)

  -- a message that isn't blocked arrives whole
  arrives : (e : Event) (i : ℕ) (p : Posting) → Brings e i → IsNumbered (taken_by w.network e) → posting_at w.network i ≡ Some p → is_blocked w p ≡ false → (m : ℕ) (o : Option Message) → message_of p.bytes ≡ o
      → Became w e m ((after_all (came (event_begun w e) (option_map (λ x. record { from = p.from; to = p.to; message = x }) o)) (map Writes (due_arrival partition_count w (taken_by w.network e) p o))).facts m)
  arrives e i p brings numbers stands free m None is = stayed refl
  arrives e i p brings numbers stands free m (Some x) is = go (p.to == client) refl
    where
      up_there : (a b c : Bool) → (a || (not b && not c)) ≡ false → b ≡ false → c ≡ true
      up_there a b c h i = grind arith

      go : (b : Bool) → (p.to == client) ≡ b
          → Became w e m ((after_all (if b then came_to_client (event_begun w e) x else came_to_node (event_begun w e) (record { from = p.from; to = p.to; message = x })) (map Writes (if b then due_at_client x else written (taken_by w.network e) p.to (due_message_of partition_count (w.facts p.to) (w.clocks p.to) p.from x)))).facts m)
      go true c = at_client e (event_begun w e) x refl m
      go false c = of_message e i p x brings numbers stands is (up_there _ (p.to == client) (is_up w p.to) free c) m

  landed_at : (i : ℕ) → posting_at (landed w.network i) i ≡ posting_at w.network i
  landed_at i = go (nat_lt 0 i)
    where
      go : (b : Bool) → (if b then slice_get (landed w.network i).sent (i - 1) else None) ≡ (if b then slice_get w.network.sent (i - 1) else None)
      go true = refl
      go false = refl

  flying_stands : (i : ℕ) (p : Posting) → flying_at w.network i ≡ Some p → posting_at w.network i ≡ Some p
  flying_stands i p e = go (Rattle.cluster_rules.specs.Network.is_flying w.network i) e
    where
      go : (b : Bool) → (if b then posting_at w.network i else None) ≡ Some p → posting_at w.network i ≡ Some p
      go true h = h
      go false h = cc

  -- ---- deliveries

  delivered : (e : Event) (i : ℕ) (lines : Posting → List Line) (m : ℕ) → ((p : Posting) → posting_at w.network i ≡ Some p → is_blocked w p ≡ false → Became w e m ((after_all (event_begun w e) (map Writes (lines p))).facts m))
      → (o : Option Posting) → flying_at w.network i ≡ o → Became w e m ((after_all (event_begun w e) (map Writes (delivery w i lines o))).facts m)
  delivered e i lines m here None is = stayed refl
  delivered e i lines m here (Some p) is = go (is_blocked w p) refl
    where
      go : (b : Bool) → is_blocked w p ≡ b → Became w e m ((after_all (event_begun w e) (map Writes (if b then line.Blocked i ∷ [] else lines p))).facts m)
      go true c = stayed refl
      go false c = here p (flying_stands i p is) c

  landed_numbers : (i : ℕ) → IsNumbered (landed w.network i)
  landed_numbers i = record { upto = left w.network.flying order }
    where
      left : (is : List ℕ) → AreGiven (length w.network.sent) is → All (λ j. j ≤ length w.network.sent) (without is i)
      left [] h = All-nil (λ j. j ≤ length w.network.sent)
      left (j ∷ is) h = go (j == i) (left is h.3)
        where
          go : (b : Bool) → All (λ j. j ≤ length w.network.sent) (without is i) → All (λ j. j ≤ length w.network.sent) (if not b then j ∷ without is i else without is i)
          go true rest = rest
          go false rest = All-cons (λ j. j ≤ length w.network.sent) j (without is i) h.2 rest

  of_deliver : (i m : ℕ) → Became w (event.Deliver i) m ((play partition_count (event.Deliver i) w).world.facts m)
  of_deliver i m = delivered (event.Deliver i) i (λ p. line.Deliver i p.from p.to ∷ arriving partition_count w (landed w.network i) p) m here (flying_at w.network i) refl
    where
      here : (p : Posting) → posting_at w.network i ≡ Some p → is_blocked w p ≡ false → Became w (event.Deliver i) m ((after_all (event_begun w (event.Deliver i)) (map Writes (line.Deliver i p.from p.to ∷ arriving partition_count w (landed w.network i) p))).facts m)
      here p stands free =
          subst (λ (o : Option Posting). Became w (event.Deliver i) m ((after_all (came (event_begun w (event.Deliver i)) (option_and_then (arrived p.to) o)) (map Writes (arriving partition_count w (landed w.network i) p))).facts m))
          (sym (landed_at i ∙ stands)) (arrives (event.Deliver i) i p refl (landed_numbers i) stands free m (message_of p.bytes) refl)

  of_repeat : (i m : ℕ) → Became w (event.Repeat i) m ((play partition_count (event.Repeat i) w).world.facts m)
  of_repeat i m = delivered (event.Repeat i) i (λ p. line.Repeat i p.from p.to ∷ arriving partition_count w w.network p) m here (flying_at w.network i) refl
    where
      here : (p : Posting) → posting_at w.network i ≡ Some p → is_blocked w p ≡ false → Became w (event.Repeat i) m ((after_all (event_begun w (event.Repeat i)) (map Writes (line.Repeat i p.from p.to ∷ arriving partition_count w w.network p))).facts m)
      here p stands free =
          subst (λ (o : Option Posting). Became w (event.Repeat i) m ((after_all (came (event_begun w (event.Repeat i)) (option_and_then (arrived p.to) o)) (map Writes (arriving partition_count w w.network p))).facts m))
          (sym stands) (arrives (event.Repeat i) i p refl (numbered w order) stands free m (message_of p.bytes) refl)

  of_cut : (i size m : ℕ) → Became w (event.Cut i size) m ((play partition_count (event.Cut i size) w).world.facts m)
  of_cut i size m = delivered (event.Cut i size) i (λ p. line.Cut i p.from p.to size ∷ (if nat_lt size (length p.bytes) then line.Short p.to ∷ [] else arriving partition_count w (landed w.network i) p)) m here (flying_at w.network i) refl
    where
      whole : (a b : ℕ) → nat_lt a b ≡ false → nat_le b a ≡ true
      whole a b e = grind (arith, nat_tests, e)

      short : (a b : ℕ) → nat_lt a b ≡ true → nat_le b a ≡ false
      short a b e = grind (arith, nat_tests, e)

      here : (p : Posting) → posting_at w.network i ≡ Some p → is_blocked w p ≡ false
          → Became w (event.Cut i size) m ((after_all (event_begun w (event.Cut i size)) (map Writes (line.Cut i p.from p.to size ∷ (if nat_lt size (length p.bytes) then line.Short p.to ∷ [] else arriving partition_count w (landed w.network i) p)))).facts m)
      here p stands free =
          subst (λ (o : Option Posting). Became w (event.Cut i size) m ((after_all (came (event_begun w (event.Cut i size)) (option_and_then (arrived_cut p.to size) o)) (map Writes (if nat_lt size (length p.bytes) then line.Short p.to ∷ [] else arriving partition_count w (landed w.network i) p))).facts m))
          (sym (landed_at i ∙ stands)) (go (nat_lt size (length p.bytes)) refl)
        where
          go : (b : Bool) → nat_lt size (length p.bytes) ≡ b → Became w (event.Cut i size) m ((after_all (came (event_begun w (event.Cut i size)) (arrived_cut p.to size p)) (map Writes (if b then line.Short p.to ∷ [] else arriving partition_count w (landed w.network i) p))).facts m)
          go true e =
              subst (λ (b : Bool). Became w (event.Cut i size) m ((after_all (came (event_begun w (event.Cut i size)) (if b then arrived p.to p else None)) (map Writes (line.Short p.to ∷ []))).facts m)) (sym (short size (length p.bytes) e)) (stayed refl)
          go false e =
              subst (λ (b : Bool). Became w (event.Cut i size) m ((after_all (came (event_begun w (event.Cut i size)) (if b then arrived p.to p else None)) (map Writes (arriving partition_count w (landed w.network i) p))).facts m)) (sym (whole size (length p.bytes) e))
              (arrives (event.Cut i size) i p refl (landed_numbers i) stands free m (message_of p.bytes) refl)

  -- ---- all events

  of_quiet : (e : Event) (ls : List Line) → list_all (λ l. not (adds l)) ls ≡ true → (m : ℕ) → Became w e m ((after_all (event_begun w e) (map Writes ls)).facts m)
  of_quiet e ls quiet m = stayed
      (ap (λ (u : World). u.facts m) (quiet_lines ls (event_begun w e) quiet))

  of_mark : (e : Event) (a m : ℕ) (b : Bool) (v : World) → v.facts ≡ Rattle.cluster_types.specs.Changed.at_number w.facts a (Rattle.node_rules.specs.TickNotes.marked (w.facts a) b) → Became w e m (v.facts m)
  of_mark e a m b v is =
      one_acts w v e a m (quiesced b (ap (λ (f : ℕ → Facts). f a) is ∙ at_itself w.facts a _)) (λ x d. ap (λ (f : ℕ → Facts). f x) is ∙ at_other w.facts a _ x d)

  of_ask : (a m : ℕ) → Became w (event.Ask a) m ((play partition_count (event.Ask a) w).world.facts m)
  of_ask a m =
      let k = acts (event.Ask a) client (Rattle.node_rules.specs.Effects.sends_only (Rattle.node_rules.specs.Effects.to_one a message.MapAsk)) refl tt (read_back message.MapAsk tt, tt) in
      one_acts w (play partition_count (event.Ask a) w).world (event.Ask a) client m (stayed k.here) k.elsewhere

  pub became : (e : Event) → IsProperEvent e → (m : ℕ) → Became w e m ((play partition_count e w).world.facts m)
  became (event.Tick a) proper m = of_tick a m
  became (event.Stop a) proper m = of_stop a m
  became (event.Start a) proper m = of_start a m
  became (event.Put a d v) proper m = of_request (event.Put a d v) a d (want.Put v) refl refl proper.0 proper.1 m
  became (event.Get a d) proper m = of_request (event.Get a d) a d want.Get refl refl proper tt m
  became (event.Del a d) proper m = of_request (event.Del a d) a d want.Del refl refl proper tt m
  became (event.ClientPut d v) proper m = of_client (event.ClientPut d v) d (want.Put v) refl refl proper.0 proper.1 m (node_for w.tables (partition_of d))
  became (event.ClientGet d) proper m = of_client (event.ClientGet d) d want.Get refl refl proper tt m (node_for w.tables (partition_of d))
  became (event.ClientDel d) proper m = of_client (event.ClientDel d) d want.Del refl refl proper tt m (node_for w.tables (partition_of d))
  became (event.Ask a) proper m = of_ask a m
  became (event.Deliver i) proper m = of_deliver i m
  became (event.Repeat i) proper m = of_repeat i m
  became (event.Cut i size) proper m = of_cut i size m
  became (event.Lose i) proper m = of_quiet (event.Lose i) (losing i (flying_at w.network i)) (lost (flying_at w.network i)) m
    where
      lost : (o : Option Posting) → list_all (λ l. not (adds l)) (losing i o) ≡ true
      lost None = refl
      lost (Some p) = refl
  became (event.Map a from to) proper m = of_quiet (event.Map a from to) (map_if (w.facts a) from to (map_refusal (w.facts a)) ++ []) (quiet_map (w.facts a) from to (map_refusal (w.facts a))) m
  became (event.Show a d) proper m = of_quiet (event.Show a d) ((due_show (w.facts a) d).lines ++ []) refl m
  became (event.Quiesce a) proper m = of_mark (event.Quiesce a) a m true (play partition_count (event.Quiesce a) w).world refl
  became (event.Unquiesce a) proper m = of_mark (event.Unquiesce a) a m false (play partition_count (event.Unquiesce a) w).world refl
  became e proper m = stayed refl
