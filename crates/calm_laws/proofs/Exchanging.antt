-- In an undisturbed round of a group in one view all rows come to all, and the exchange ends.
use Rattle.std.proofs.Common.{◌≡◌, ℕ, ◌==◌, ◌||◌, ◌&&◌, not, Bool, true, false, cond, List, [], ◌∷◌, ◌++◌, Option, Some, None, refl, sym, ap, subst, ◌∙◌, inl, inr}
use Rattle.std.specs.Prelude.{filter, find, is_none, option_map, unwrap_or, if◌then◌else◌}
use Rattle.std.proofs.lemmas.Option.{none-some}
use Rattle.cluster_types.specs.declared.cluster_key.ClusterKey.{ClusterKey}
use Rattle.cluster_types.specs.declared.member.Member.{Member}
use Rattle.cluster_types.specs.Members.{ids_of}
use Rattle.wire_messages.specs.declared.message.Message.{Message}
use Rattle.wire_messages.specs.declared.message.Message.TheVariants as message
use Rattle.partition_lists.proofs.InOrderLaws.{equal}
use Rattle.node_rules.specs.declared.member_row.MemberRow.{MemberRow}
use Rattle.node_rules.specs.Agreement as agreement
use Rattle.node_rules.specs.Copies.{Row}
use Rattle.node_rules.specs.Exchange.{Exchange, View, first_missing, is_view, exchange_key, members_of, with_row}
use Rattle.node_rules.specs.Facts.{Facts, view_key}
use Rattle.node_rules.specs.Map.{lacks, row_of_member}
use Rattle.node_rules.specs.Notes.{after_ages, reached}
use Rattle.node_rules.specs.Standing.{others}
use Rattle.node_rules.specs.Tables.{contains, only_if}
use Rattle.node_rules.specs.Tick.{own_row_in, state}
use Rattle.journal_readings.specs.Lines.{has_node}
use Rattle.cluster_rules.specs.World.{World}
use Rattle.cluster_rules.proofs.KeptFacts.{num_same}
use Rattle.cluster_laws.proofs.At.{differ}
use Rattle.key_laws.proofs.Order.{same_self}
use Rattle.run_laws.specs.Tied.{Among}
use Rattle.calm_laws.specs.Acts.{Input, Ticks, Gets, acted, as_read, sent_at, served}
use Rattle.calm_laws.specs.Exchanges.{Exchanged, LacksRow, Rows, RowsThere, Shares, ends_with, finished_if, taken_if, took}
use Rattle.calm_laws.specs.Flows.{Flowed, Rounded, inbox, ticks_if}
use Rattle.calm_laws.specs.Group.{kind}
use Rattle.calm_laws.specs.Laws.{CanBeRead, is_to_propose}
use Rattle.calm_laws.specs.Turns.{Cleared, Ready, Steady, is_agreeing}
use Rattle.calm_laws.proofs.Beginning.{aged_none}
use Rattle.calm_laws.proofs.Hearing.{gets_inbox}
use Rattle.calm_laws.proofs.Inputs.{Keeps, kept_along, outbox_each, served_each, served_kept}
use Rattle.calm_laws.proofs.Proposals.{all_gets}
use Rattle.calm_laws.proofs.Proposing.{flow_arrives, tick_arrives}
use Rattle.calm_laws.proofs.Resting.{Undisturbed, undisturbed}
use Rattle.calm_laws.proofs.Rolls.{contains_among, other_in}
use Rattle.calm_laws.proofs.Same.{acted_same}
use Rattle.calm_laws.proofs.Sent.{AllGets, each_among}
use Rattle.calm_laws.proofs.Steadying.{steady_rests}
use Rattle.calm_laws.proofs.Taking.{acted_takes, rests_exchange, rests_proposed}
use Rattle.calm_laws.proofs.Ticking.{proposed, tick_rows}
use Rattle.node_rules.specs.Effects.{lines_and_sends, to_one}
use Rattle.node_rules.specs.RowMessages.{finishes}
use Rattle.node_rules.specs.StaleMessages.{stale}
use Rattle.journal_lines.specs.declared.line.Line.TheVariants as line

-- ---- flows

keeps_took : (n c : ℕ) (P : Exchange → Type 0) (is : List Input) → AllGets is → ((from : ℕ) (x : Message) → Among is (Gets from x) → is_agreeing (kind x) ≡ false) → ((e : Exchange) (from : ℕ) (x : Message) → P e → P (took e from x)) → Keeps n c (λ f. P f.exchange) is
keeps_took n c P is gets free kept f i h p =
    all_gets is i gets h (λ j. Among is j → P (acted n c f j).exchange) (λ from x there. subst P (sym (acted_takes n c f from x (free from x there))) (kept f.exchange from x p)) h

pub flow_takes : (n : ℕ) (gs : List ℕ) (u v : World) (m : ℕ) (P : Exchange → Type 0) → Flowed n u v → Cleared gs u → has_node gs m ≡ true → ((e : Exchange) (from : ℕ) (x : Message) → P e → P (took e from x)) → P (u.facts m).exchange → P (v.facts m).exchange
flow_takes n gs u v m P f cleared here kept p =
    subst (λ (g : Facts). P g.exchange) (sym (f.facts m)) (served_kept n (u.clocks m) (λ g. P g.exchange) (inbox u m) (u.facts m) (keeps_took n (u.clocks m) P (inbox u m) (gets_inbox u m) (cleared m here) kept) p)

-- ---- rows

found_first : (rows more : List MemberRow) (m : ℕ) (row : Row) → row_of_member rows m ≡ Some row → row_of_member (rows ++ more) m ≡ Some row
found_first [] more m row e = absurd (none-some row e)
found_first (r ∷ rows) more m row e = go (r.node == m) e (found_first rows more m row)
  where
    go : (b : Bool) → option_map (λ (r : MemberRow). r.row) (cond b (Some r) (find (λ (r : MemberRow). r.node == m) rows)) ≡ Some row → (row_of_member rows m ≡ Some row → row_of_member (rows ++ more) m ≡ Some row)
        → option_map (λ (r : MemberRow). r.row) (cond b (Some r) (find (λ (r : MemberRow). r.node == m) (rows ++ more))) ≡ Some row
    go true f rest = f
    go false f rest = rest f

has_first : (rows more : List MemberRow) (m : ℕ) → lacks rows m ≡ false → lacks (rows ++ more) m ≡ false
has_first rows more m e = go (row_of_member rows m) refl
  where
    go : (o : Option Row) → row_of_member rows m ≡ o → lacks (rows ++ more) m ≡ false
    go None i = differ (ap (λ (o : Option Row). is_none o) i) e
    go (Some row) i = ap (λ (o : Option Row). is_none o) (found_first rows more m row i)

has_last : (rows : List MemberRow) (m : ℕ) (row : Row) → lacks (rows ++ record { node = m; row = row } ∷ []) m ≡ false
has_last [] m row = ap (λ (b : Bool). is_none (option_map (λ (r : MemberRow). r.row) (cond b (Some (record { node = m; row = row })) None))) (equal m m refl)
has_last (r ∷ rows) m row = go (r.node == m) (has_last rows m row)
  where
    go : (b : Bool) → lacks (rows ++ record { node = m; row = row } ∷ []) m ≡ false → is_none (option_map (λ (r : MemberRow). r.row) (cond b (Some r) (find (λ (r : MemberRow). r.node == m) (rows ++ record { node = m; row = row } ∷ [])))) ≡ false
    go true h = refl
    go false h = h

-- what rows are there stay there
abbrev pub Has : ℕ → Exchange → Type 0
Has x e = lacks e.rows x ≡ false

pub finished_rows : (e : Exchange) (b : Bool) → (finished_if e b).rows ≡ e.rows
finished_rows e true = refl
finished_rows e false = refl

finished_view : (e : Exchange) (b : Bool) → (finished_if e b).view ≡ e.view
finished_view e true = refl
finished_view e false = refl

with_has : (rows : List MemberRow) (from x : ℕ) (row : Row) → lacks rows x ≡ false → lacks (with_row rows from row) x ≡ false
with_has rows from x row h = go (lacks rows from)
  where
    go : (b : Bool) → lacks (if b then rows ++ record { node = from; row = row } ∷ [] else rows) x ≡ false
    go true = has_first rows (record { node = from; row = row } ∷ []) x h
    go false = h

with_own : (rows : List MemberRow) (from m : ℕ) (row mine : Row) → row_of_member rows m ≡ Some mine → row_of_member (with_row rows from row) m ≡ Some mine
with_own rows from m row mine h = go (lacks rows from)
  where
    go : (b : Bool) → row_of_member (if b then rows ++ record { node = from; row = row } ∷ [] else rows) m ≡ Some mine
    go true = found_first rows (record { node = from; row = row } ∷ []) m mine h
    go false = h

with_new : (rows : List MemberRow) (from : ℕ) (row : Row) → lacks (with_row rows from row) from ≡ false
with_new rows from row = go (lacks rows from) refl
  where
    go : (b : Bool) → lacks rows from ≡ b → lacks (if b then rows ++ record { node = from; row = row } ∷ [] else rows) from ≡ false
    go true e = has_last rows from row
    go false e = e

pub has_kept : (y : ℕ) (e : Exchange) (from : ℕ) (x : Message) → Has y e → Has y (took e from x)
has_kept y e from (message.State key wants row) h = go (is_view e.view key)
  where
    now : Exchange
    now = record e { rows = with_row e.rows from row }

    go : (b : Bool) → Has y (taken_if e from row b)
    go true = ap (λ (rows : List MemberRow). lacks rows y) (finished_rows (record e { rows = with_row e.rows from row }) (ends_with e (record e { rows = with_row e.rows from row }))) ∙ with_has e.rows from y row h
    go false = h
has_kept y e from _ h = h

pub shares_kept : (k : ClusterKey) (set : List Member) (m : ℕ) (mine : Row) (e : Exchange) (from : ℕ) (x : Message) → Shares k set m mine e → Shares k set m mine (took e from x)
shares_kept k set m mine e from (message.State key wants row) h = go (is_view e.view key)
  where
    go : (b : Bool) → Shares k set m mine (taken_if e from row b)
    go true = record {
      view = finished_view (record e { rows = with_row e.rows from row }) (ends_with e (record e { rows = with_row e.rows from row })) ∙ h.view;
      own = ap (λ (rows : List MemberRow). row_of_member rows m) (finished_rows (record e { rows = with_row e.rows from row }) (ends_with e (record e { rows = with_row e.rows from row }))) ∙ with_own e.rows from m row mine h.own;
    }
    go false = h
shares_kept k set m mine e from _ h = h

-- a row of the view is there once it came
row_came : (k : ClusterKey) (set : List Member) (m : ℕ) (mine : Row) (e : Exchange) (from : ℕ) (wants : Bool) (row : Row) → Shares k set m mine e → Has from (took e from (message.State k wants row))
row_came k set m mine e from wants row h =
    subst (λ (b : Bool). Has from (taken_if e from row b)) (sym (ap (λ (o : Option View). is_view o k) h.view ∙ same_self k))
    (ap (λ (rows : List MemberRow). lacks rows from) (finished_rows (record e { rows = with_row e.rows from row }) (ends_with e (record e { rows = with_row e.rows from row }))) ∙ with_new e.rows from row)

pub rowed_kept : (e : Exchange) (from : ℕ) (x : Message) → LacksRow e → LacksRow (took e from x)
rowed_kept e from (message.State key wants row) h = go (is_view e.view key)
  where
    ends : (now : Exchange) (b : Bool) → (is_none (first_missing now.rows (members_of now.view)) && not now.exchanged) ≡ b → LacksRow (finished_if now b)
    ends now true i = λ s. differ refl s
    ends now false i = λ s. lack (is_none (first_missing now.rows (members_of now.view))) (sym (ap (λ (c : Bool). is_none (first_missing now.rows (members_of now.view)) && not c) s) ∙ i)
      where
        lack : (b : Bool) → (b && true) ≡ false → b ≡ false
        lack true i = i
        lack false i = refl

    go : (b : Bool) → LacksRow (taken_if e from row b)
    go true = ends (record e { rows = with_row e.rows from row }) (ends_with e (record e { rows = with_row e.rows from row })) refl
    go false = h
rowed_kept e from _ h = h

pub over_kept : (e : Exchange) (from : ℕ) (x : Message) → e.exchanged ≡ true → (took e from x).exchanged ≡ true
over_kept e from (message.State key wants row) h = go (is_view e.view key)
  where
    ends : (now : Exchange) (b : Bool) → now.exchanged ≡ true → (finished_if now b).exchanged ≡ true
    ends now true i = refl
    ends now false i = i

    go : (b : Bool) → (taken_if e from row b).exchanged ≡ true
    go true = ends (record e { rows = with_row e.rows from row }) (ends_with e (record e { rows = with_row e.rows from row })) h
    go false = h
over_kept e from _ h = h

nobody_missing : (test : ℕ → Bool) (xs : List ℕ) → ((x : ℕ) → contains xs x ≡ true → test x ≡ false) → find test xs ≡ None
nobody_missing test [] h = refl
nobody_missing test (x ∷ xs) h =
    ap (λ (b : Bool). cond b (Some x) (find test xs)) (h x (ap (λ (b : Bool). b || contains xs x) (equal x x refl)))
    ∙ nobody_missing test xs (λ y e. h y (behind (x == y) (contains xs y) e))
  where
    behind : (b c : Bool) → c ≡ true → (b || c) ≡ true
    behind true c e = refl
    behind false c e = e

-- ---- what is sent

-- a row that is wanted is answered by the receiver's own
row_answered : (n c : ℕ) (k : ClusterKey) (set : List Member) (m : ℕ) (mine : Row) → CanBeRead (message.State k false mine) → (f : Facts) → f.me ≡ m → Shares k set m mine f.exchange → (from : ℕ) (row : Row)
    → Among (sent_at n c f (Gets from (message.State k true row))) (from, message.State k false mine)
row_answered n c k set m mine reads f name h from row =
    subst (λ (b : Bool). Among (as_read (if b then lines_and_sends (only_if (line.Exchanged f.me (view_key f)) (finishes f (reached f from (message.State k true row)))) (if true then to_one from (state f false) else []) else stale f).sends) (from, message.State k false mine)) (sym (ap (λ (o : Option View). is_view o k) h.view ∙ same_self k))
    (subst (λ (x : Message). Among (as_read ((from, x) ∷ [])) (from, message.State k false mine)) (sym (own_state f false name h))
    (each_among (message.State k false mine) reads (from ∷ []) from (inl refl)))
  where
    own_state : (f : Facts) (b : Bool) → f.me ≡ m → Shares k set m mine f.exchange → state f b ≡ message.State k b mine
    own_state f b name h =
        ap (λ (o : Option View). message.State (exchange_key o) b (own_row_in f)) h.view
        ∙ ap (λ (y : ℕ). message.State k b (unwrap_or (row_of_member f.exchange.rows y) [])) name
        ∙ ap (λ (o : Option Row). message.State k b (unwrap_or o [])) h.own

among_filter : (test : ℕ → Bool) (xs : List ℕ) (x : ℕ) → test x ≡ true → Among xs x → Among (filter test xs) x
among_filter test [] x e h = absurd h
among_filter test (y ∷ xs) x e (inl s) = subst (λ (b : Bool). Among (cond b (y ∷ filter test xs) (filter test xs)) x) (sym (ap test s ∙ e)) (inl s)
among_filter test (y ∷ xs) x e (inr h) = go (test y) (among_filter test xs x e h)
  where
    go : (b : Bool) → Among (filter test xs) x → Among (cond b (y ∷ filter test xs) (filter test xs)) x
    go true i = inr i
    go false i = i

-- ---- the round

-- a round in which a group that is in one view exchanges its rows
pub record RowRound (n : ℕ) (ns gs : List ℕ) (g : ℕ) (set : List Member) (k : ClusterKey) (w v : World) (r : Rounded n w v) : Type 0 where
  pub ready : Ready ns gs g set w
  pub steady : Steady gs g set k w
  pub rows : Rows gs k w

module _ (n : ℕ) (ns gs : List ℕ) (g : ℕ) (set : List Member) (k : ClusterKey) (w v : World) (r : Rounded n w v) (h : RowRound n ns gs g set k w v r) where
  quiet : is_to_propose (after_ages (w.facts g)) ≡ false
  quiet = steady_rests ns gs g set k w h.ready h.steady

  u : Undisturbed n ns gs w v r
  u = undisturbed n ns gs g set w v r h.ready quiet

  ticks_exchange : (m : ℕ) → has_node gs m ≡ true → (r.ticks_end.facts m).exchange ≡ (w.facts m).exchange
  ticks_exchange m here =
      ap (λ (f : Facts). f.exchange) (u.ticked.facts m ∙ ap (λ (b : Bool). served n (w.clocks m) (w.facts m) (ticks_if b)) (h.ready.group.up m here))
      ∙ rests_exchange n (w.clocks m) (w.facts m) (h.ready.base.up m (h.ready.group.up m here)) (aged_none (w.facts m) (h.ready.none m here)) (u.asks m here)

  shares_ticks : (m : ℕ) (here : has_node gs m ≡ true) → Shares k set m (h.rows.row m) (r.ticks_end.facts m).exchange
  shares_ticks m here = subst (λ (e : Exchange). Shares k set m (h.rows.row m) e) (sym (ticks_exchange m here)) (record { view = h.steady.views m here; own = h.rows.own m here })

  shares_first : (m : ℕ) (here : has_node gs m ≡ true) → Shares k set m (h.rows.row m) (r.first_end.facts m).exchange
  shares_first m here = flow_takes n gs r.ticks_end r.first_end m (Shares k set m (h.rows.row m)) r.first u.ticks here (shares_kept k set m (h.rows.row m)) (shares_ticks m here)

  shares_second : (m : ℕ) (here : has_node gs m ≡ true) → Shares k set m (h.rows.row m) (r.second_end.facts m).exchange
  shares_second m here = flow_takes n gs r.first_end r.second_end m (Shares k set m (h.rows.row m)) r.second u.first here (shares_kept k set m (h.rows.row m)) (shares_first m here)

  -- a row that is lacking is asked for with the node's own
  row_asked : (m x : ℕ) → has_node gs m ≡ true → has_node gs x ≡ true → (x ≡ m → ⊥) → lacks (w.facts m).exchange.rows x ≡ true → Among (inbox r.ticks_end x) (Gets m (message.State k true (h.rows.row m)))
  row_asked m x here there d lacking =
      tick_arrives n ns gs w r.ticks_end u.group_ticks u.ups_ticks u.ticked m x here there (λ e. d (sym e)) (message.State k true (h.rows.row m))
      (subst (λ (y : Message). Among (sent_at n (w.clocks m) (w.facts m) Ticks) (x, y)) own
      (tick_rows n (w.clocks m) (w.facts m) (h.ready.base.up m (h.ready.group.up m here)) (subst (λ (y : Message). CanBeRead y) (sym own) (h.rows.reads m here true)) x
      (subst (λ (f : Facts). Among (filter (lacks f.exchange.rows) (others f)) x) (sym same)
      (among_filter (lacks (w.facts m).exchange.rows) (others (after_ages (w.facts m))) x lacking
      (subst (λ (ys : List ℕ). Among ys x) (sym members) (contains_among (agreement.others_among m set) x (other_in gs g set h.ready.roll m x there d)))))))
    where
      same : proposed (w.facts m) ≡ after_ages (w.facts m)
      same = rests_proposed (w.facts m) (aged_none (w.facts m) (h.ready.none m here)) (u.asks m here)

      members : others (after_ages (w.facts m)) ≡ agreement.others_among m set
      members = ap (λ (y : ℕ). agreement.others_among y (members_of (w.facts m).exchange.view)) (h.ready.base.named m) ∙ ap (λ (o : Option View). agreement.others_among m (members_of o)) (h.steady.views m here)

      own : state (proposed (w.facts m)) true ≡ message.State k true (h.rows.row m)
      own =
          ap (λ (f : Facts). state f true) same
          ∙ ap (λ (o : Option View). message.State (exchange_key o) true (own_row_in (w.facts m))) (h.steady.views m here)
          ∙ ap (λ (y : ℕ). message.State k true (unwrap_or (row_of_member (w.facts m).exchange.rows y) [])) (h.ready.base.named m)
          ∙ ap (λ (o : Option Row). message.State k true (unwrap_or o [])) (h.rows.own m here)

  -- and comes in the flow after
  row_comes : (m x : ℕ) → has_node gs m ≡ true → has_node gs x ≡ true → (x ≡ m → ⊥) → lacks (w.facts m).exchange.rows x ≡ true → Among (inbox r.first_end m) (Gets x (message.State k false (h.rows.row x)))
  row_comes m x here there d lacking =
      flow_arrives n ns gs r.ticks_end r.first_end u.group_first u.ups_first r.first x m there here d (message.State k false (h.rows.row x))
      (outbox_each n (r.ticks_end.clocks x) P (inbox r.ticks_end x) (r.ticks_end.facts x) (Gets m (message.State k true (h.rows.row m))) (m, message.State k false (h.rows.row x))
      (kept_along n (r.ticks_end.clocks x) P (inbox r.ticks_end x) (r.ticks_end.facts x)
      (λ f i among p. ((acted_same n (r.ticks_end.clocks x) f i).me ∙ p.0, keeps_took n (r.ticks_end.clocks x) (Shares k set x (h.rows.row x)) (inbox r.ticks_end x) (gets_inbox r.ticks_end x) (u.ticks x there) (shares_kept k set x (h.rows.row x)) f i among p.1))
      (r.ticks.named x, shares_ticks x there))
      (λ f p. row_answered n (r.ticks_end.clocks x) k set x (h.rows.row x) (h.rows.reads x there false) f p.0 p.1 m (h.rows.row m)) (row_asked m x here there d lacking))
    where
      P : Facts → Type 0
      P f = (f.me ≡ x) × Shares k set x (h.rows.row x) f.exchange

  -- so after the second flow each has each row
  has_second : (m x : ℕ) → has_node gs m ≡ true → has_node gs x ≡ true → Has x (r.second_end.facts m).exchange
  has_second m x here there = go (x == m) refl (lacks (w.facts m).exchange.rows x) refl
    where
      go : (b : Bool) → (x == m) ≡ b → (c : Bool) → lacks (w.facts m).exchange.rows x ≡ c → Has x (r.second_end.facts m).exchange
      go true s c e = ap (λ (y : ℕ). lacks (r.second_end.facts m).exchange.rows y) (num_same x m s) ∙ ap (λ (o : Option Row). is_none o) (shares_second m here).own
      go false s false e =
          flow_takes n gs r.first_end r.second_end m (Has x) r.second u.first here (has_kept x)
          (flow_takes n gs r.ticks_end r.first_end m (Has x) r.first u.ticks here (has_kept x) (subst (λ (y : Exchange). Has x y) (sym (ticks_exchange m here)) e))
      go false s true e =
          subst (λ (f : Facts). Has x f.exchange) (sym (r.second.facts m))
          (served_each n (r.first_end.clocks m) (λ f. Shares k set m (h.rows.row m) f.exchange) (λ f. Has x f.exchange) (inbox r.first_end m) (r.first_end.facts m) (Gets x (message.State k false (h.rows.row x)))
          (keeps_took n (r.first_end.clocks m) (Shares k set m (h.rows.row m)) (inbox r.first_end m) (gets_inbox r.first_end m) (u.first m here) (shares_kept k set m (h.rows.row m)))
          (keeps_took n (r.first_end.clocks m) (Has x) (inbox r.first_end m) (gets_inbox r.first_end m) (u.first m here) (has_kept x))
          (λ f p. subst (λ (y : Exchange). Has x y) (sym (acted_takes n (r.first_end.clocks m) f x (message.State k false (h.rows.row x)) refl)) (row_came k set m (h.rows.row m) f.exchange x false (h.rows.row x) p))
          (row_comes m x here there (λ i. differ (equal x m i) s) e) (shares_first m here))

  rowed_second : (m : ℕ) → has_node gs m ≡ true → LacksRow (r.second_end.facts m).exchange
  rowed_second m here =
      flow_takes n gs r.first_end r.second_end m LacksRow r.second u.first here rowed_kept
      (flow_takes n gs r.ticks_end r.first_end m LacksRow r.first u.ticks here rowed_kept (subst LacksRow (sym (ticks_exchange m here)) (h.rows.lacking m here)))

  over_second : (m : ℕ) → has_node gs m ≡ true → (r.second_end.facts m).exchange.exchanged ≡ true
  over_second m here = go (r.second_end.facts m).exchange.exchanged refl
    where
      all : is_none (first_missing (r.second_end.facts m).exchange.rows (members_of (r.second_end.facts m).exchange.view)) ≡ true
      all =
          ap (λ (o : Option View). is_none (first_missing (r.second_end.facts m).exchange.rows (members_of o))) (shares_second m here).view
          ∙ ap (λ (o : Option ℕ). is_none o) (nobody_missing (lacks (r.second_end.facts m).exchange.rows) (ids_of set) (λ x e. has_second m x here (sym (h.ready.roll.ids x) ∙ e)))

      go : (b : Bool) → (r.second_end.facts m).exchange.exchanged ≡ b → (r.second_end.facts m).exchange.exchanged ≡ true
      go true e = e
      go false e = differ all (rowed_second m here e)

  -- the exchange is over at the end of the round
  pub exchange_ends : Exchanged gs v
  exchange_ends m here =
      flow_takes n gs r.third_end v m (λ e. e.exchanged ≡ true) r.fourth u.third here over_kept
      (flow_takes n gs r.second_end r.third_end m (λ e. e.exchanged ≡ true) r.third u.second here over_kept (over_second m here))

  -- and each has each row
  pub rows_come : RowsThere gs v
  rows_come m x here there =
      flow_takes n gs r.third_end v m (Has x) r.fourth u.third here (has_kept x)
      (flow_takes n gs r.second_end r.third_end m (Has x) r.third u.second here (has_kept x) (has_second m x here there))

-- and stays so in each later round
pub exchange_stays : (n : ℕ) (ns gs : List ℕ) (g : ℕ) (set : List Member) (k : ClusterKey) (w v : World) (r : Rounded n w v) → Ready ns gs g set w → Steady gs g set k w → Exchanged gs w → Exchanged gs v
exchange_stays n ns gs g set k w v r ready steady over m here =
    let u : Undisturbed n ns gs w v r = undisturbed n ns gs g set w v r ready (steady_rests ns gs g set k w ready steady) in
    flow_takes n gs r.third_end v m (λ e. e.exchanged ≡ true) r.fourth u.third here over_kept
    (flow_takes n gs r.second_end r.third_end m (λ e. e.exchanged ≡ true) r.third u.second here over_kept
    (flow_takes n gs r.first_end r.second_end m (λ e. e.exchanged ≡ true) r.second u.first here over_kept
    (flow_takes n gs r.ticks_end r.first_end m (λ e. e.exchanged ≡ true) r.first u.ticks here over_kept
    (ap (λ (f : Facts). f.exchange.exchanged) (u.ticked.facts m ∙ ap (λ (b : Bool). served n (w.clocks m) (w.facts m) (ticks_if b)) (ready.group.up m here))
    ∙ ap (λ (e : Exchange). e.exchanged) (rests_exchange n (w.clocks m) (w.facts m) (ready.base.up m (ready.group.up m here)) (aged_none (w.facts m) (ready.none m here)) (u.asks m here))
    ∙ over m here))))

pub rows_stay : (n : ℕ) (ns gs : List ℕ) (g : ℕ) (set : List Member) (k : ClusterKey) (w v : World) (r : Rounded n w v) → Ready ns gs g set w → Steady gs g set k w → RowsThere gs w → RowsThere gs v
rows_stay n ns gs g set k w v r ready steady all m x here there =
    let u : Undisturbed n ns gs w v r = undisturbed n ns gs g set w v r ready (steady_rests ns gs g set k w ready steady) in
    flow_takes n gs r.third_end v m (Has x) r.fourth u.third here (has_kept x)
    (flow_takes n gs r.second_end r.third_end m (Has x) r.third u.second here (has_kept x)
    (flow_takes n gs r.first_end r.second_end m (Has x) r.second u.first here (has_kept x)
    (flow_takes n gs r.ticks_end r.first_end m (Has x) r.first u.ticks here (has_kept x)
    (ap (λ (f : Facts). lacks f.exchange.rows x) (u.ticked.facts m ∙ ap (λ (b : Bool). served n (w.clocks m) (w.facts m) (ticks_if b)) (ready.group.up m here))
    ∙ ap (λ (e : Exchange). lacks e.rows x) (rests_exchange n (w.clocks m) (w.facts m) (ready.base.up m (ready.group.up m here)) (aged_none (w.facts m) (ready.none m here)) (u.asks m here))
    ∙ all m x here there))))
