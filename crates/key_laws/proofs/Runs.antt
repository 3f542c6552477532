-- Every run's marks are licensed, and so the laws hold of every run.
use Rattle.std.proofs.Common.{◌≡◌, ℕ, zero, suc, ◌==◌, Bool, true, false, cond, nat_lt, List, [], ◌∷◌, ◌++◌, Option, Some, None, refl, sym, ap, subst, ◌∙◌, arith, inl, map, if◌then◌else◌}
use Rattle.std.specs.Prelude.{All, filter, option_and_then}
use Rattle.std.specs.List.{cons_option}
use Rattle.std.specs.FinMap as finite
use Rattle.std.specs.FinMap.{get-empty}
use Rattle.std.specs.Ordering.{nat_cmp}
use Rattle.node_rules.specs.Copies.{Stamp, empty_store}
use Rattle.conflict_order.specs.declared.policy.Policy.{Policy}
use Rattle.partition_lists.specs.Lists.{put_in_order, in_order}
use Rattle.script_lang.specs.declared.script.Command.{Command}
use Rattle.script_lang.specs.declared.script.Command.TheVariants as command
use Rattle.script_lang.specs.declared.script.HeaderLine.{HeaderLine}
use Rattle.script_lang.specs.declared.script.HeaderLine.TheVariants as header
use Rattle.script_lang.specs.declared.script.Script.{Script}
use Rattle.script_lang.specs.Proper.{IsProperHeaderLine, IsProperCommand}
use Rattle.wire_messages.specs.declared.message.Message.{Message}
use Rattle.wire_messages.specs.declared.message.Message.TheVariants as message
use Rattle.wire_messages.specs.Nodes.{IsId}
use Rattle.journal_lines.specs.declared.line.Line.{Line}
use Rattle.journal_lines.specs.declared.line.Line.TheVariants as line
use Rattle.cluster_rules.specs.declared.event.Event.{Event}
use Rattle.cluster_rules.specs.declared.event.Event.TheVariants as event
use Rattle.journal_readings.specs.Claims.{KeysRise}
use Rattle.cluster_rules.specs.Marks as marks
use Rattle.cluster_rules.specs.Marks.{Mark, Begins, Writes, lines_among, came_to_client, came_to_node}
use Rattle.journal_readings.specs.Messages.{Arrival, arrived, arrived_cut}
use Rattle.cluster_rules.specs.Network.{posting_at}
use Rattle.cluster_rules.specs.Opening.{Header, declared_policy, header_lines, declared_nodes, node_in}
use Rattle.cluster_rules.specs.Runs.{Plays, PlaysAll, RunOf, run_marks}
use Rattle.cluster_rules.specs.Steps.{Step, Played, marks_of, all_marks, AreDue, no_steps, then_played, play, play_all, flow, flows, round, rounds}
use Rattle.cluster_rules.specs.World.{World, opened, is_up, up_nodes}
use Rattle.cluster_rules.proofs.MarkLaws.{lines_of_run, Follows, round_follows}
use Rattle.cluster_rules.proofs.RunLaws.{commands_follow}
use Rattle.node_rules.specs.Messages.{client}
use Rattle.key_laws.proofs.Frames.{never}
use Rattle.key_laws.specs.Traced.{Traced, traced_after, traced_after_all, untouched}
use Rattle.key_laws.specs.Licences.{IsPromisedKey, LicensedMarks}
use Rattle.key_laws.specs.Laws.{KeepsRanges, traced_at, EntriesAgree}
use Rattle.key_laws.specs.Sound.{Sound}
use Rattle.key_laws.proofs.Order.{at_most_refl, at_most_none}
use Rattle.key_laws.proofs.Kept.{kept_all, kept_at, licensed_append}
use Rattle.key_laws.proofs.Quiet.{writes}
use Rattle.key_laws.proofs.DueSteps.{Begun, step_ok}
use Rattle.key_laws.proofs.Licensed.{Starts, licensed_keys_rise, licensed_entries_agree}

-- ---- nodes with ids

abbrev pub AreIds : List ℕ → Type 0
AreIds [] = Unit {0}
AreIds (n ∷ ns) = IsId n × AreIds ns

ids_filtered : (test : ℕ → Bool) (ns : List ℕ) → AreIds ns → AreIds (filter test ns)
ids_filtered test [] h = tt
ids_filtered test (n ∷ ns) h = go (test n) (ids_filtered test ns h.1)
  where
    go : (b : Bool) → AreIds (filter test ns) → AreIds (cond b (n ∷ filter test ns) (filter test ns))
    go true rest = (h.0, rest)
    go false rest = rest

ids_put : (x : ℕ) (ns : List ℕ) → IsId x → AreIds ns → AreIds (put_in_order nat_lt x ns)
ids_put x [] i h = (i, tt)
ids_put x (n ∷ ns) i h = go (nat_lt n x) (ids_put x ns i h.1)
  where
    go : (b : Bool) → AreIds (put_in_order nat_lt x ns) → AreIds (if b then n ∷ put_in_order nat_lt x ns else (x ∷ n ∷ ns))
    go true rest = (h.0, rest)
    go false rest = (i, h)

ids_in_order : (ns : List ℕ) → AreIds ns → AreIds (in_order nat_lt ns)
ids_in_order [] h = tt
ids_in_order (n ∷ ns) h = ids_put n (in_order nat_lt ns) h.0 (ids_in_order ns h.1)

pub up_ids : (w : World) → AreIds w.nodes → AreIds (up_nodes w)
up_ids w h = ids_in_order (filter (is_up w) w.nodes) (ids_filtered (is_up w) w.nodes h)

pub of_first : {A : Type 0} (P : A → Type 0) (x : A) (xs : List A) → All P (x ∷ xs) → P x
of_first P x xs h = h 0 x (omega arith)

pub of_others : {A : Type 0} (P : A → Type 0) (x : A) (xs : List A) → All P (x ∷ xs) → All P xs
of_others P x xs h k d within = h (suc k) d (omega (arith, within))

pub declared_ids : (h : Header) → All IsProperHeaderLine h → AreIds (declared_nodes h)
declared_ids [] p = tt
declared_ids (l ∷ h) p = go l (of_first IsProperHeaderLine l h p) (declared_ids h (of_others IsProperHeaderLine l h p))
  where
    go : (l : HeaderLine) → IsProperHeaderLine l → AreIds (declared_nodes h) → AreIds (cons_option (node_in l) (declared_nodes h))
    go (header.Node n rack) q rest = (q.0, rest)
    go (header.Script version) q rest = rest
    go (header.Factor factor) q rest = rest
    go (header.Policy policy) q rest = rest

-- ---- the declared nodes stay

came_nodes : (w : World) (x : Option Arrival) → (marks.came w x).nodes ≡ w.nodes
came_nodes w None = refl
came_nodes w (Some x) = go (x.to == client)
  where
    at_client : (m : Message) → (marks.came_to_client w m).nodes ≡ w.nodes
    at_client (message.MapTable table) = refl
    at_client _ = refl

    go : (b : Bool) → (if b then came_to_client w x.message else came_to_node w x).nodes ≡ w.nodes
    go true = at_client x.message
    go false = refl

sent_nodes : (w : World) (a b : ℕ) (m : Option Message) → (marks.sent_by w a b m).nodes ≡ w.nodes
sent_nodes w a b None = refl
sent_nodes w a b (Some m) = refl

line_nodes : (w : World) (l : Line) → (marks.after_line w l).nodes ≡ w.nodes
line_nodes w (line.Deliver i a b) = came_nodes w (option_and_then (arrived b) (posting_at w.network i))
line_nodes w (line.Repeat i a b) = came_nodes w (option_and_then (arrived b) (posting_at w.network i))
line_nodes w (line.Cut i a b size) = came_nodes w (option_and_then (arrived_cut b size) (posting_at w.network i))
line_nodes w (line.Sent i a b bytes) = sent_nodes _ a b _
line_nodes w _ = refl

pub marks_nodes : (w : World) (ms : List Mark) → (marks.after_all w ms).nodes ≡ w.nodes
marks_nodes w [] = refl
marks_nodes w (Begins e ∷ ms) = marks_nodes (marks.event_begun w e) ms
marks_nodes w (Writes l ∷ ms) = marks_nodes (marks.after_line w l) ms ∙ line_nodes w l

pub follows_nodes : (n : ℕ) (w : World) (x : Played) → Follows n w x → x.world.nodes ≡ w.nodes
follows_nodes n w x h = ap (λ (v : World). v.nodes) (sym h.leads) ∙ marks_nodes w (all_marks x.steps)

-- ---- who ticks has an id

abbrev pub AllBegun : List Step → Type 0
AllBegun [] = Unit {0}
AllBegun (s ∷ ss) = Begun s.event × AllBegun ss

begun_append : (ss ts : List Step) → AllBegun ss → AllBegun ts → AllBegun (ss ++ ts)
begun_append [] ts h i = i
begun_append (s ∷ ss) ts h i = (h.0, begun_append ss ts h.1 i)

abbrev AreBegun : List Event → Type 0
AreBegun [] = Unit {0}
AreBegun (e ∷ es) = Begun e × AreBegun es

begun_all : (n : ℕ) (es : List Event) (w : World) → AreBegun es → AllBegun (play_all n es w).steps
begun_all n [] w h = tt
begun_all n (e ∷ es) w h = (h.0, begun_all n es (play n e w).world h.1)

begun_deliveries : (is : List ℕ) → AreBegun (map event.Deliver is)
begun_deliveries [] = tt
begun_deliveries (i ∷ is) = (tt, begun_deliveries is)

begun_ticks : (ns : List ℕ) → AreIds ns → AreBegun (map event.Tick ns)
begun_ticks [] h = tt
begun_ticks (n ∷ ns) h = (h.0, begun_ticks ns h.1)

begun_flow : (n : ℕ) (w : World) → AllBegun (flow n w).steps
begun_flow n w = begun_all n _ w (begun_deliveries w.network.flying)

begun_flows : (n k : ℕ) (w : World) → AllBegun (flows n k w).steps
begun_flows n zero w = tt
begun_flows n (suc k) w = begun_append (flow n w).steps (flows n k (flow n w).world).steps (begun_flow n w) (begun_flows n k (flow n w).world)

begun_round : (n : ℕ) (w : World) → AreIds w.nodes → AllBegun (round n w).steps
begun_round n w h =
    let ticks : Played = play_all n (map event.Tick (up_nodes w)) w in
    begun_append ticks.steps (flows n 4 ticks.world).steps (begun_all n _ w (begun_ticks (up_nodes w) (up_ids w h))) (begun_flows n 4 ticks.world)

begun_rounds : (n k : ℕ) (w : World) → AreIds w.nodes → AllBegun (rounds n k w).steps
unfolding rounds
begun_rounds n zero w h = tt
begun_rounds n (suc k) w h =
    begun_append (round n w).steps (rounds n k (round n w).world).steps (begun_round n w h)
    (begun_rounds n k (round n w).world (subst (λ ns. AreIds ns) (sym (follows_nodes n w (round n w) (round_follows n w))) h))

by_event : (n : ℕ) (w : World) (e : Event) (x : Played) → x ≡ play n e w → Begun e → AllBegun x.steps
by_event n w e x h b = subst (λ (y : Played). AllBegun y.steps) (sym h) (b, tt)

begun_command : (n : ℕ) (w : World) (c : Command) (x : Played) → AreIds w.nodes → IsProperCommand c → Plays n w c x → AllBegun x.steps
begun_command n w command.Flow x ids p h = subst (λ (y : Played). AllBegun y.steps) (sym h) (begun_flow n w)
begun_command n w command.Round x ids p h = subst (λ (y : Played). AllBegun y.steps) (sym h) (begun_round n w ids)
begun_command n w command.Calm x ids p h =
    subst (λ (y : Played). AllBegun y.steps) (sym h.played) (begun_append (rounds n h.number w).steps (play n (event.Calmed h.number) (rounds n h.number w).world).steps (begun_rounds n h.number w ids) (tt, tt))
begun_command n w (command.Tick node) x ids p h = by_event n w (event.Tick node) x h p
begun_command n w c x ids p h = by_event n w _ x h tt

begun_commands : (n : ℕ) (cs : List Command) (w : World) (x : Played) → AreIds w.nodes → All IsProperCommand cs → PlaysAll n w cs x → AllBegun x.steps
begun_commands n [] w x ids p h = subst (λ (y : Played). AllBegun y.steps) (sym h) tt
begun_commands n (c ∷ cs) w x ids p h =
    subst (λ (y : Played). AllBegun y.steps) (sym h.whole)
    (begun_append h.first.steps h.others.steps
    (begun_command n w c h.first ids (of_first IsProperCommand c cs p) h.plays)
    (begun_commands n cs h.first.world h.others (subst (λ ns. AreIds ns) (sym (first_nodes h.first h.plays)) ids) (of_others IsProperCommand c cs p) h.follows))
  where
    first_nodes : (y : Played) → Plays n w c y → y.world.nodes ≡ w.nodes
    first_nodes y q =
        let alone : Played = then_played y (λ v. no_steps y.world) in
        let turn : PlaysAll n w (c ∷ []) alone = record { first = y; plays = q; others = no_steps y.world; follows = refl; whole = refl } in
        follows_nodes n w alone (commands_follow n (c ∷ []) w alone turn)

-- ---- due steps are licensed

pub world_of : (t : Traced) (ms : List Mark)
    → (traced_after_all t ms).world ≡ marks.after_all t.world ms
world_of t [] = refl
world_of t (Begins e ∷ ms) = world_of (traced_after t (Begins e)) ms
world_of t (Writes l ∷ ms) = world_of (traced_after t (Writes l)) ms

pub steps_ok : (n : ℕ) (t : Traced) (ss : List Step) → Sound t → AllBegun ss → AreDue n t.world ss → LicensedMarks t (all_marks ss)
steps_ok n t [] s b d = tt
steps_ok n t (x ∷ ss) s b d =
    let ok : LicensedMarks t (marks_of x) = subst (λ ls. LicensedMarks t (Begins x.event ∷ writes ls)) (sym d.0) (step_ok n t x.event b.0 s) in
    licensed_append t (marks_of x) (all_marks ss) ok
    (steps_ok n (traced_after_all t (marks_of x)) ss (kept_all t (marks_of x) ok s).sound b.1 (subst (λ v. AreDue n v ss) (sym (world_of t (marks_of x))) d.1))

-- ---- the header

pub header_ok : (t : Traced) (h : Header) → LicensedMarks t (writes (header_lines h))
header_ok t [] = tt
header_ok t (header.Script version ∷ h) = (tt, header_ok t h)
header_ok t (header.Factor factor ∷ h) = (tt, header_ok t h)
header_ok t (header.Node node rack ∷ h) = (tt, header_ok t h)
header_ok t (header.Policy policy ∷ h) = (tt, header_ok t h)

pub header_same : (t : Traced) (h : Header) → traced_after_all t (writes (header_lines h)) ≡ t
header_same t [] = refl
header_same t (header.Script version ∷ h) = header_same t h
header_same t (header.Factor factor ∷ h) = header_same t h
header_same t (header.Node node rack ∷ h) = header_same t h
header_same t (header.Policy policy ∷ h) = header_same t h

-- ---- runs

none_some : {A B : Type 0} (a : A) → None ≡ Some a → B
none_some a e = absurd (grind arith)

no_stamp : (t : Traced) (by : Policy) (p : ℕ) (x : Stamp) → finite.get (empty_store by).stamps p ≡ Some x → IsPromisedKey t x.0
no_stamp t by p x e = none_some x (sym (get-empty nat_cmp p) ∙ e)

pub start : (h : Header) → Starts (untouched (opened h))
start h = record {
  sound = record {
    nodes = λ n. record {
      me = refl;
      agrees = record { ordered = at_most_refl _; promised = record { bound = at_most_none _; field = inl refl }; last = record { bound = at_most_none _; field = inl refl }; proposal = tt };
      view = tt;
      hears = record { rises = tt; each = tt };
      outs = tt;
      rows = tt;
      stamps = record { each = λ p x e. no_stamp (untouched (opened h)) (declared_policy h) p x e };
      finished = λ e. absurd (never e refl);
    };
    lists = λ k ms e. absurd (grind arith);
    sent = λ i p m e r. absurd (grind arith);
    tables = tt;
  };
  promised = λ n. refl;
  last = λ n. refl;
  entered = λ n k. refl;
}

pub run_ok : (n : ℕ) (s : Script) (j : List Line) → KeepsRanges s → (r : RunOf n s j) → LicensedMarks (untouched (opened s.header)) (run_marks s.header r.played)
run_ok n s j p r =
    let t : Traced = untouched (opened s.header) in
    let due : AreDue n t.world r.played.steps = (commands_follow n s.commands (opened s.header) r.played r.plays).due in
    let begun : AllBegun r.played.steps = begun_commands n s.commands (opened s.header) r.played (declared_ids s.header p.header) p.commands r.plays in
    licensed_append t (writes (header_lines s.header)) (all_marks r.played.steps) (header_ok t s.header)
    (subst (λ u. LicensedMarks u (all_marks r.played.steps)) (sym (header_same t s.header)) (steps_ok n t r.played.steps (start s.header).sound begun due))

journal_is : (n : ℕ) (s : Script) (j : List Line) (r : RunOf n s j) → j ≡ lines_among (run_marks s.header r.played)
journal_is n s j r = r.written ∙ sym (lines_of_run s.header r.played)

pub sound_at : (n : ℕ) (s : Script) (j : List Line) → KeepsRanges s → (r : RunOf n s j) (i : ℕ) → Sound (traced_at s.header r.played i)
sound_at n s j p r i = (kept_at (untouched (opened s.header)) (run_marks s.header r.played) i (run_ok n s j p r) (start s.header).sound).sound

pub keys_rise : (n : ℕ) (s : Script) (j : List Line) → KeepsRanges s → RunOf n s j → KeysRise j
keys_rise n s j p r = subst KeysRise (sym (journal_is n s j r)) (licensed_keys_rise (untouched (opened s.header)) (run_marks s.header r.played) (start s.header) (run_ok n s j p r))

pub entries_agree : (n : ℕ) (s : Script) (j : List Line) → KeepsRanges s → RunOf n s j → EntriesAgree j
entries_agree n s j p r = subst EntriesAgree (sym (journal_is n s j r)) (licensed_entries_agree (untouched (opened s.header)) (run_marks s.header r.played) (start s.header) (run_ok n s j p r))
