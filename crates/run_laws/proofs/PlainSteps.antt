-- Steps of one line that is always due, and a stop.
use Rattle.std.proofs.Common.{◌≡◌, ℕ, ◌==◌, Bool, true, false, List, [], ◌∷◌, ◌++◌, map, Option, Some, None, refl, sym, ap, ◌∙◌, subst, if◌then◌else◌}
use Rattle.conflict_order.specs.declared.policy.Policy.{Policy}
use Rattle.cluster_types.specs.declared.cluster_key.ClusterKey.{ClusterKey}
use Rattle.cluster_types.specs.Partitions.{partition_count}
use Rattle.journal_lines.specs.declared.line.Line.{Line}
use Rattle.journal_lines.specs.declared.line.Line.TheVariants as line
use Rattle.node_rules.specs.Entering.{ending, closing}
use Rattle.node_rules.specs.Exchange.{View, Exchange, exchange_key}
use Rattle.node_rules.specs.Facts.{Facts, view_key}
use Rattle.node_rules.specs.Notes as notes
use Rattle.node_rules.specs.Transactions.{Transaction, Write}
use Rattle.cluster_rules.specs.declared.event.Event.{Event}
use Rattle.cluster_rules.specs.declared.event.Event.TheVariants as event
use Rattle.cluster_rules.specs.Allowed.{names_known, ends_calm, may_come}
use Rattle.cluster_rules.specs.DueEvents.{due_of, losing, written}
use Rattle.cluster_rules.specs.Marks.{Begins, Writes}
use Rattle.journal_readings.specs.Messages.{Posting}
use Rattle.cluster_rules.specs.Network.{Network, flying_at}
use Rattle.cluster_rules.specs.World.{World, changed_at, new_if}
use Rattle.cluster_laws.proofs.At.{and_left, and_right, differ, no_some}
use Rattle.run_laws.specs.Taken.{IsProperEvent}
use Rattle.run_laws.specs.Fronts.{Front, world_of, facts_at, front_after}
use Rattle.run_laws.specs.LineDue.{LineMay, AllDue, LawfulFront}
use Rattle.run_laws.specs.Steps.{RestsWith, Rests, Ended, Steps}
use Rattle.run_laws.specs.Tied.{key_in}
use Rattle.run_laws.proofs.Turns.{LinesGo, after_lines, lines_append, all_append, step_goes, Elsewhere, nothing_moves, elsewhere_on, ended_but, here, away}
use Rattle.node_rules.specs.Effects.{lines_only}

-- ---- lines that add nothing, or only beside exchange and transactions

-- the front begins a step as it ended the last one
pub begins_ended : (z : Front) (e : Event) → Ended z → Ended (front_after z (Begins e))
begins_ended z e h = record { owes = h.owes; stays = h.stays; rests = h.rests }

-- a node's facts change beside its exchange and its transactions
pub beside_ended : (z y : Front) (n : ℕ) (g : Facts) → Ended z → y.owed ≡ z.owed → y.closing ≡ z.closing → ((m : ℕ) → facts_at y m ≡ changed_at (world_of z).facts n g m) → g.exchange ≡ (facts_at z n).exchange → g.transactions ≡ (facts_at z n).transactions → Ended y
beside_ended z y n g h o c fs e t = record {
  owes = o ∙ h.owes;
  stays = λ m. ap (λ (q : ℕ → Bool). q m) c ∙ h.stays m;
  rests = λ m. subst (λ (f : Facts). Rests f) (sym (fs m)) (go m (n == m) refl);
}
  where
    go : (m : ℕ) (b : Bool) → (n == m) ≡ b → Rests (new_if g (world_of z).facts m b)
    go m true i = subst (λ (x : Exchange). RestsWith x g.transactions.running) (sym e) (subst (λ (ts : _). RestsWith (facts_at z n).exchange ts.running) (sym t) (h.rests n))
    go m false i = h.rests m

-- ---- a stop

-- what closing a node's transactions leaves
pub record Closed (n : ℕ) (z y : Front) : Type 0 where
  pub elsewhere : Elsewhere n z y
  pub owed : y.owed ≡ z.owed
  pub exchange : (facts_at y n).exchange ≡ (facts_at z n).exchange
  pub agreement : (facts_at y n).agreement ≡ (facts_at z n).agreement
  pub store : (facts_at y n).store ≡ (facts_at z n).store
  pub me : (facts_at y n).me ≡ (facts_at z n).me
  pub sent : (world_of y).network.sent ≡ (world_of z).network.sent
  pub lists : y.chronicle.traced.lists ≡ z.chronicle.traced.lists
  pub entered : (m : ℕ) (k : ClusterKey) → y.chronicle.traced.entered m k ≡ z.chronicle.traced.entered m k

closed_itself : (n : ℕ) (z : Front) → Closed n z z
closed_itself n z = record { elsewhere = nothing_moves n z; owed = refl; exchange = refl; agreement = refl; store = refl; me = refl; sent = refl; lists = refl; entered = λ m k. refl }

closed_on : (n : ℕ) (x y z : Front) → Closed n x y → Closed n y z → Closed n x z
closed_on n x y z a b = record {
  elsewhere = elsewhere_on n x y z a.elsewhere b.elsewhere;
  owed = b.owed ∙ a.owed;
  exchange = b.exchange ∙ a.exchange;
  agreement = b.agreement ∙ a.agreement;
  store = b.store ∙ a.store;
  me = b.me ∙ a.me;
  sent = b.sent ∙ a.sent;
  lists = b.lists ∙ a.lists;
  entered = λ m k. b.entered m k ∙ a.entered m k;
}

closed_one : (z : Front) (n t : ℕ) (k : ClusterKey) (o : Option Write) → Closed n z (front_after z (Writes (ending n k t o)))
closed_one z n t k o = go o
  where
    one : (y : Front) → world_of y ≡ record (world_of z) { facts = changed_at (world_of z).facts n (notes.closed (facts_at z n) t) } → y.closing ≡ changed_at z.closing n true → y.owed ≡ z.owed → y.chronicle.traced.lists ≡ z.chronicle.traced.lists → ((m : ℕ) (j : ClusterKey) → y.chronicle.traced.entered m j ≡ z.chronicle.traced.entered m j) → Closed n z y
    one y w c ow ls es = record {
      elsewhere = record { facts = λ m e. ap (λ (x : World). x.facts m) w ∙ away (world_of z).facts n _ m e; closing = λ m e. ap (λ (q : ℕ → Bool). q m) c ∙ away z.closing n true m e };
      owed = ow;
      exchange = ap (λ (x : World). (x.facts n).exchange) w ∙ ap (λ (f : Facts). f.exchange) (here (world_of z).facts n _);
      agreement = ap (λ (x : World). (x.facts n).agreement) w ∙ ap (λ (f : Facts). f.agreement) (here (world_of z).facts n _);
      store = ap (λ (x : World). (x.facts n).store) w ∙ ap (λ (f : Facts). f.store) (here (world_of z).facts n _);
      me = ap (λ (x : World). (x.facts n).me) w ∙ ap (λ (f : Facts). f.me) (here (world_of z).facts n _);
      sent = ap (λ (x : World). x.network.sent) w;
      lists = ls;
      entered = es;
    }

    go : (o : Option Write) → Closed n z (front_after z (Writes (ending n k t o)))
    go None = one _ refl refl refl refl (λ m j. refl)
    go (Some w) = one _ refl refl refl refl (λ m j. refl)

pub record Closing (n : ℕ) (z : Front) (ls : List Line) : Type 0 where
  pub due : AllDue z ls
  pub closed : Closed n z (after_lines z ls)

-- transactions are closed in the view, one after another
pub closing_due : (z : Front) (n : ℕ) (k : ClusterKey) (ts : List Transaction) → z.owed ≡ None → key_in (facts_at z n).exchange.view ≡ Some k → Closing n z (map (λ t. ending n k t.number t.applied) ts)
closing_due z n k [] o v = record { due = tt; closed = closed_itself n z }
closing_due z n k (t ∷ ts) o v =
    let one : Closed n z (front_after z (Writes (ending n k t.number t.applied))) = closed_one z n t.number k t.applied in
    let rest : Closing n (front_after z (Writes (ending n k t.number t.applied))) (map (λ t. ending n k t.number t.applied) ts) =
    closing_due (front_after z (Writes (ending n k t.number t.applied))) n k ts (one.owed ∙ o) (ap (λ (x : Exchange). key_in x.view) one.exchange ∙ v) in
    record { due = (go t.applied, rest.due); closed = closed_on n z _ _ one rest.closed }
  where
    go : (w : Option Write) → LineMay z (ending n k t.number w)
    go None = (o, record { view = v })
    go (Some w) = (o, record { view = v })

-- all that are open
pub all_closing : (z : Front) (n : ℕ) → (facts_at z n).me ≡ n → z.owed ≡ None → Rests (facts_at z n) → Closing n z (closing (facts_at z n))
all_closing z n me o r = subst (λ (m : ℕ). Closing n z (map (λ t. ending m (view_key (facts_at z n)) t.number t.applied) (facts_at z n).transactions.running)) (sym me) (go (facts_at z n).exchange.view refl)
  where
    go : (v : Option View) → (facts_at z n).exchange.view ≡ v → Closing n z (map (λ t. ending n (view_key (facts_at z n)) t.number t.applied) (facts_at z n).transactions.running)
    go None e = subst (λ (ts : List Transaction). Closing n z (map (λ t. ending n (view_key (facts_at z n)) t.number t.applied) ts)) (sym (r.idle e)) (record { due = tt; closed = closed_itself n z })
    go (Some v) e = closing_due z n (view_key (facts_at z n)) (facts_at z n).transactions.running o (ap key_in e ∙ ap (λ (x : Option View). Some (exchange_key x)) (sym e))

stopped_rests : (f : Facts) → Rests (notes.stopped f)
stopped_rests f = record { idle = λ e. refl; over = λ v e x. no_some e }

pub stop_goes : (z : Front) (net : Network) (n : ℕ) (b : Bool) → (facts_at z n).me ≡ n → Ended z → LinesGo z (written net n (if b then lines_only (closing (facts_at z n) ++ line.Stop (facts_at z n).me ∷ []) else lines_only (line.Down (facts_at z n).me ∷ [])))
stop_goes z net n false me h = record { due = ((h.owes, tt), tt); ends = record { owes = h.owes; stays = h.stays; rests = h.rests } }
stop_goes z net n true me h =
    let c : Closing n z (closing (facts_at z n)) = all_closing z n me h.owes (h.rests n) in
    subst (λ (ls : List Line). LinesGo z ls) (sym (no_more (closing (facts_at z n) ++ line.Stop (facts_at z n).me ∷ []))) (record {
      due = all_append z (closing (facts_at z n)) (line.Stop (facts_at z n).me ∷ []) c.due ((c.closed.owed ∙ h.owes, tt), tt);
      ends = subst (λ (y : Front). Ended y) (sym (lines_append z (closing (facts_at z n)) (line.Stop (facts_at z n).me ∷ [])))
          (subst (λ (m : ℕ). Ended (front_after (after_lines z (closing (facts_at z n))) (Writes (line.Stop m)))) (sym me) (stops (after_lines z (closing (facts_at z n))) c.closed));
    })
  where
    no_more : (ls : List Line) → ls ++ [] ≡ ls
    no_more [] = refl
    no_more (l ∷ ls) = ap (λ xs. l ∷ xs) (no_more ls)

    stops : (y : Front) → Closed n z y → Ended (front_after y (Writes (line.Stop n)))
    stops y c = ended_but n z (front_after y (Writes (line.Stop n))) (elsewhere_on n z y (front_after y (Writes (line.Stop n))) c.elsewhere (record { facts = λ m e. away (world_of y).facts n _ m e; closing = λ m e. away y.closing n false m e })) h
        (c.owed ∙ h.owes) (here y.closing n false) (subst (λ (f : Facts). Rests f) (sym (here (world_of y).facts n _)) (stopped_rests (facts_at y n)))

-- ---- all steps of one line

pub start_goes : (z : Front) (net : Network) (n : ℕ) (b : Bool) → (facts_at z n).me ≡ n → Ended z → LinesGo z (written net n (if b then lines_only (line.Up (facts_at z n).me ∷ []) else lines_only (line.Start (facts_at z n).me ∷ [])))
start_goes z net n true me h = record { due = ((h.owes, tt), tt); ends = record { owes = h.owes; stays = h.stays; rests = h.rests } }
start_goes z net n false me h = record {
  due = ((h.owes, tt), tt);
  ends = subst (λ (m : ℕ). Ended (front_after z (Writes (line.Start m)))) (sym me) (beside_ended z (front_after z (Writes (line.Start n))) n (notes.started (facts_at z n)) h refl refl (λ m. refl) refl refl);
}

lose_goes : (z : Front) (i : ℕ) (o : Option Posting) → Ended z → LinesGo z (losing i o)
lose_goes z i None h = record { due = ((h.owes, tt), tt); ends = record { owes = h.owes; stays = h.stays; rests = h.rests } }
lose_goes z i (Some p) h = record { due = ((h.owes, tt), tt); ends = record { owes = h.owes; stays = h.stays; rests = h.rests } }

-- a line that changes no facts
one_line : (z : Front) (l : Line) → Ended z → LineMay z l → Ended (front_after z (Writes l)) → LinesGo z (l ∷ [])
one_line z l h d e = record { due = (d, tt); ends = e }

-- the event's step goes whatever stands
abbrev pub IsPlain : Event → Bool
IsPlain (event.Clock node time) = true
IsPlain (event.Groups groups) = true
IsPlain (event.Stop node) = true
IsPlain (event.Start node) = true
IsPlain (event.Lose i) = true
IsPlain (event.Place p) = true
IsPlain (event.Hash d) = true
IsPlain (event.Show node d) = true
IsPlain (event.Quiesce node) = true
IsPlain (event.Unquiesce node) = true
IsPlain (event.Calmed rounds) = true
IsPlain _ = false

plain_lines : (by : Policy) (factor : ℕ) (z : Front) (e : Event) → IsPlain e ≡ true → IsProperEvent e → may_come partition_count (world_of z) e ≡ true → LawfulFront by factor z → Ended z → LinesGo (front_after z (Begins e)) (due_of partition_count (world_of z) e)
plain_lines by factor z (event.Clock node time) p r a l h = one_line _ _ (begins_ended z _ h) (h.owes, r) (record { owes = h.owes; stays = h.stays; rests = h.rests })
plain_lines by factor z (event.Groups groups) p r a l h = one_line _ _ (begins_ended z _ h)
    (h.owes, and_left _ (ends_calm partition_count (world_of z) (event.Groups groups)) a) (record { owes = h.owes; stays = h.stays; rests = h.rests })
plain_lines by factor z (event.Stop node) p r a l h = stop_goes (front_after z (Begins (event.Stop node))) (world_of z).network node (facts_at z node).up (l.sound.nodes node).me (begins_ended z _ h)
plain_lines by factor z (event.Start node) p r a l h = start_goes (front_after z (Begins (event.Start node))) (world_of z).network node (facts_at z node).up (l.sound.nodes node).me (begins_ended z _ h)
plain_lines by factor z (event.Lose i) p r a l h = lose_goes (front_after z (Begins (event.Lose i))) i (flying_at (world_of z).network i) (begins_ended z _ h)
plain_lines by factor z (event.Place p) q r a l h = one_line _ _ (begins_ended z _ h) (h.owes, tt) (record { owes = h.owes; stays = h.stays; rests = h.rests })
plain_lines by factor z (event.Hash d) p r a l h = one_line _ _ (begins_ended z _ h) (h.owes, tt) (record { owes = h.owes; stays = h.stays; rests = h.rests })
plain_lines by factor z (event.Show node d) p r a l h = one_line _ _ (begins_ended z _ h) (h.owes, tt) (record { owes = h.owes; stays = h.stays; rests = h.rests })
plain_lines by factor z (event.Quiesce node) p r a l h = one_line _ _ (begins_ended z _ h) (h.owes, tt)
    (beside_ended (front_after z (Begins (event.Quiesce node))) _ node (notes.marked (facts_at z node) true) (begins_ended z _ h) refl refl (λ m. refl) refl refl)
plain_lines by factor z (event.Unquiesce node) p r a l h = one_line _ _ (begins_ended z _ h) (h.owes, tt)
    (beside_ended (front_after z (Begins (event.Unquiesce node))) _ node (notes.marked (facts_at z node) false) (begins_ended z _ h) refl refl (λ m. refl) refl refl)
plain_lines by factor z (event.Calmed rounds) p r a l h = one_line _ _ (begins_ended z _ h)
    (h.owes, record { calm = and_right (names_known (world_of z).nodes (event.Calmed rounds)) _ a; stays = h.stays }) (record { owes = h.owes; stays = h.stays; rests = h.rests })
plain_lines by factor z _ p r a l h = differ p refl

pub plain_steps : (by : Policy) (factor : ℕ) (e : Event) → IsPlain e ≡ true → Steps by factor e
plain_steps by factor e p z s same l h q a short = step_goes z s e same a (plain_lines by factor z e p q (subst (λ (x : Event). may_come partition_count (world_of z) x ≡ true) same a.comes) l h)
