-- The row of another member, and how far its partitions have come.
use Rattle.std.proofs.Common.{◌≡◌, ◌==◌, ◌&&◌, ◌||◌, ◌+◌, ℕ, zero, suc, Bool, true, false, not, cond, List, [], ◌∷◌, ◌++◌, append-nil, length, Option, Some, None, is_none, All, Contains, refl, sym, ap, ap₂, subst, ◌∙◌}
use Rattle.std.specs.Prelude.{IsSome, find, option_map, if◌then◌else◌}
use Rattle.std.proofs.lemmas.List.{ext_get_or}
use Rattle.cluster_types.specs.declared.cluster_key.ClusterKey.{ClusterKey}
use Rattle.cluster_types.specs.declared.member.Member.{Member}
use Rattle.cluster_types.specs.Members.{ids_of}
use Rattle.cluster_types.specs.Partitions.{partition_count}
use Rattle.cluster_types.specs.Rows.{bit}
use Rattle.cluster_types.proofs.OrRows.{or_bit, or_length}
use Rattle.wire_messages.specs.declared.message.Message.TheVariants as message
use Rattle.wire_messages.specs.Keys.{IsKeyField}
use Rattle.wire_messages.specs.Proper.{IsProper}
use Rattle.wire_messages.specs.Rows.{IsRow, IsStateRowField}
use Rattle.journal_lines.specs.declared.line.Line.{Line}
use Rattle.journal_lines.specs.declared.line.Line.TheVariants as line
use Rattle.node_rules.specs.declared.member_row.MemberRow.{MemberRow}
use Rattle.record_store.specs.Store as held
use Rattle.node_rules.specs.Agreement as agreement
use Rattle.node_rules.specs.Batches.{done_row, is_pending}
use Rattle.node_rules.specs.Bits.{or_rows}
use Rattle.node_rules.specs.ByParts.{exchanged_if}
use Rattle.node_rules.specs.Copies.{Row}
use Rattle.node_rules.specs.Exchange as exchange
use Rattle.node_rules.specs.Exchange.{Exchange, first_missing, is_member, members_of, with_row}
use Rattle.node_rules.specs.Facts.{Facts, members_of_view, view_key}
use Rattle.node_rules.specs.Map.{lacks}
use Rattle.node_rules.specs.Effects.{lines_only, sends_only, lines_and_sends, nothing, to_one}
use Rattle.node_rules.specs.Messages.{due_progress, due_state, finishes}
use Rattle.node_rules.specs.Notes.{in_view, progress_came, row_came, own_targets}
use Rattle.node_rules.specs.Standing.{knows_all_settled, others}
use Rattle.node_rules.specs.Tables.{bits_from, only_if}
use Rattle.node_rules.specs.Tick.{own_row_in, progress_message, state}
use Rattle.node_rules.specs.Steps.{after_message}
use Rattle.node_rules.proofs.Forms.{done_by, settled_by}
use Rattle.node_rules.proofs.PartLaws.{progress_is, state_is}
use Rattle.node_view.specs.declared.view_step.LastRow.{LastRow}
use Rattle.node_view.specs.Fits.{FitsLastRow, FitsRow, IsLacking}
use Rattle.node_view.specs.Plans.{facts_with_row}
use Rattle.node_view.specs.Views.{IsHandedOn, IsInView, IsNodeInView, IsOtherMember, Viewed, facts_seen, viewed_key, with_settled_bits}
use Rattle.exchange.specs.Served.{AreServed}
use Rattle.exchange.proofs.RowsLaws.{full_is_there, lacks_fresh}
use Rattle.node_steps.specs.declared.effects.Effects.{Effects}
use Rattle.node_steps.specs.Plans.{after_row}
use Rattle.node_steps.specs.Ranges.{HasRanges}
use Rattle.node_steps.specs.Spelled.{then_effects, spelled, spelled_sends}
use Rattle.node_steps.specs.Viewing.{finishes_with}
use Rattle.node_steps.proofs.AckLaws.{view_key_is}
use Rattle.node_steps.proofs.MemberLaws.{listed, other_is_member, other_is_other}
use Rattle.node_steps.proofs.SpelledLaws.{told_nothing}
use Rattle.node_steps.proofs.StepRanges.{last_row_ranges, row_ranges}
use Rattle.node_steps.proofs.ViewLaws.{exchange_is, own_row_field}
pub use Rattle.cluster_types.proofs.BoolFacts.{and_both}
use Rattle.node_rules.specs.StaleMessages.{stale}

-- a member's row is there where none is missing
pub full_has : (rows : List MemberRow) (ms : List Member) (n : ℕ) → first_missing rows ms ≡ None → is_member ms n ≡ true → lacks rows n ≡ false
full_has rows ms n full member = go (lacks rows n) refl
  where
    go : (b : Bool) → lacks rows n ≡ b → b ≡ false
    go true e = absurd (lacks_fresh rows n e (full_is_there ms rows n full (listed ms n member)))
    go false e = refl

-- ---- whose row it is doesn't bear on what it tells

lacks_with : (rows : List MemberRow) (n : ℕ) (a b : Row) (m : ℕ) → lacks (rows ++ record { node = n; row = a } ∷ []) m ≡ lacks (rows ++ record { node = n; row = b } ∷ []) m
lacks_with [] n a b m = go (n == m)
  where
    go : (c : Bool) → is_none (option_map (λ (r : MemberRow). r.row) (cond c (Some (record { node = n; row = a })) None)) ≡ is_none (option_map (λ (r : MemberRow). r.row) (cond c (Some (record { node = n; row = b })) None))
    go true = refl
    go false = refl
lacks_with (r ∷ rows) n a b m = go (r.node == m) refl (lacks_with rows n a b m)
  where
    go : (c : Bool) → (r.node == m) ≡ c → lacks (rows ++ record { node = n; row = a } ∷ []) m ≡ lacks (rows ++ record { node = n; row = b } ∷ []) m
        → lacks (r ∷ (rows ++ record { node = n; row = a } ∷ [])) m ≡ lacks (r ∷ (rows ++ record { node = n; row = b } ∷ [])) m
    go true e ih = rw e refl
    go false e ih = rw e ih

lacks_with_row : (rows : List MemberRow) (n : ℕ) (a b : Row) (m : ℕ) → lacks (with_row rows n a) m ≡ lacks (with_row rows n b) m
lacks_with_row rows n a b m = go (lacks rows n)
  where
    go : (c : Bool) → lacks (if c then rows ++ record { node = n; row = a } ∷ [] else rows) m ≡ lacks (if c then rows ++ record { node = n; row = b } ∷ [] else rows) m
    go true = lacks_with rows n a b m
    go false = refl

find_same : (p q : ℕ → Bool) (ns : List ℕ) → ((n : ℕ) → p n ≡ q n) → find p ns ≡ find q ns
find_same p q [] same = refl
find_same p q (n ∷ ns) same = ap₂ (λ (b : Bool) (o : Option ℕ). cond b (Some n) o) (same n) (find_same p q ns same)

pub missing_with : (rows : List MemberRow) (ms : List Member) (n : ℕ) (a b : Row) → first_missing (with_row rows n a) ms ≡ first_missing (with_row rows n b) ms
missing_with rows ms n a b = find_same (lacks (with_row rows n a)) (lacks (with_row rows n b)) (ids_of ms) (lacks_with_row rows n a b)

-- ---- whether the exchange is over

and_not_true : (a b : Bool) → b ≡ true → (a && not b) ≡ false
and_not_true true b e = ap not e
and_not_true false b e = refl

pub and_false : (a b : Bool) → a ≡ false → (a && b) ≡ false
and_false a b e = ap (λ (c : Bool). c && b) e

pub and_no : (a b : Bool) → b ≡ false → (a && b) ≡ false
and_no true b e = e
and_no false b e = refl

-- the row is there already, and others are missing, or none
pub none_finishes : (v : Viewed) (from : ℕ) (row : Row) → v.exchange.exchanged ≡ true → finishes_with v from row ≡ false
none_finishes v from row e = and_not_true (is_none (first_missing (with_row v.exchange.rows from row) (members_of v.exchange.view))) v.exchange.exchanged e

same_rows : (rows : List MemberRow) (n : ℕ) (row : Row) → lacks rows n ≡ false → with_row rows n row ≡ rows
same_rows rows n row there = ap (λ (holds : Bool). if holds then rows ++ record { node = n; row = row } ∷ [] else rows) there

pub missing_stays : (v : Viewed) (from n : ℕ) (row : Row) → lacks v.exchange.rows from ≡ false → first_missing v.exchange.rows (members_of v.exchange.view) ≡ Some n
    → finishes_with v from row ≡ false
missing_stays v from n row there missing =
    let none : is_none (first_missing (with_row v.exchange.rows from row) (members_of v.exchange.view)) ≡ false =
    ap (λ (rs : List MemberRow). is_none (first_missing rs (members_of v.exchange.view))) (same_rows v.exchange.rows from row there) ∙ ap is_none missing in
    and_false _ (not v.exchange.exchanged) none

-- what is seen of it is what the facts say
pub finishes_seen : (f : Facts) (v : Viewed) (from : ℕ) (row : Row) → IsInView f v → finishes_with v from row ≡ finishes f (row_came f from row true)
finishes_seen f v from row h =
    ap (λ (x : Exchange). is_none (first_missing (with_row x.rows from row) (members_of x.view)) && not x.exchanged) (exchange_is f v h)

-- a row that is there changes nothing
pub after_there : (f : Facts) (v : Viewed) (from : ℕ) (row : Row) → IsInView f v → lacks v.exchange.rows from ≡ false → finishes_with v from row ≡ false → f ≡ after_row f from row
after_there f v from row h there none =
    let same : with_row f.exchange.rows from row ≡ f.exchange.rows = same_rows f.exchange.rows from row (ap (λ (x : Exchange). lacks x.rows from) (sym (exchange_is f v h)) ∙ there) in
    let still : row_came f from row true ≡ f = ap (λ (rs : List MemberRow). record f { exchange = record f.exchange { rows = rs } }) same in
    let not_over : finishes f (row_came f from row true) ≡ false = sym (finishes_seen f v from row h) ∙ none in
    sym (ap (λ (b : Bool). exchanged_if (row_came f from row true) (view_key f) b) not_over ∙ still)

-- one that isn't the last is kept
pub after_more : (f : Facts) (v : Viewed) (from : ℕ) (row : Row) → IsInView f v → finishes_with v from row ≡ false → row_came f from row true ≡ after_row f from row
after_more f v from row h none =
    sym (ap (λ (b : Bool). exchanged_if (row_came f from row true) (view_key f) b) (sym (finishes_seen f v from row h) ∙ none))

-- with the last one the exchange is finished
pub after_last : (f : Facts) (v : Viewed) (from : ℕ) (row : Row) → IsInView f v → finishes_with v from row ≡ true → exchanged_if (row_came f from row true) (view_key f) true ≡ after_row f from row
after_last f v from row h over =
    sym (ap (λ (b : Bool). exchanged_if (row_came f from row true) (view_key f) b) (sym (finishes_seen f v from row h) ∙ over))

-- ---- what is planned of it

pub other_from : (v : Viewed) (n : ℕ) → Contains (agreement.others_among v.me (members_of v.exchange.view)) n → IsOtherMember v n
other_from v n (i, within, is) = record {
  member = other_is_member v.me (members_of v.exchange.view) i n within (sym is);
  other = other_is_other v.me (members_of v.exchange.view) i n within (sym is);
}

-- whether all rows are there with that one
last_or_not : (v : Viewed) (from : ℕ) (row : Row) (r : Bool) → r ≡ (lacks v.exchange.rows from && is_none (first_missing (with_row v.exchange.rows from []) (members_of v.exchange.view)))
    → lacks v.exchange.rows from ≡ true → is_none (first_missing (with_row v.exchange.rows from row) (members_of v.exchange.view)) ≡ r
last_or_not v from row r tells lacking =
    ap is_none (missing_with v.exchange.rows (members_of v.exchange.view) from row [])
    ∙ sym (tells ∙ ap (λ (b : Bool). b && is_none (first_missing (with_row v.exchange.rows from []) (members_of v.exchange.view))) lacking)

-- what is known where another row is missing
pub record IsMore (v : Viewed) (from : ℕ) (row : Row) : Type 0 where
  pub lacking : lacks v.exchange.rows from ≡ true
  pub some : is_none (first_missing (with_row v.exchange.rows from row) (members_of v.exchange.view)) ≡ false

-- and where the row is the last one
pub record IsLast (v : Viewed) (from : ℕ) (row : Row) : Type 0 where
  pub lacking : lacks v.exchange.rows from ≡ true
  pub none : is_none (first_missing (with_row v.exchange.rows from row) (members_of v.exchange.view)) ≡ true
  pub unfinished : v.exchange.exchanged ≡ false

pub is_more : (v : Viewed) (from : ℕ) (row : Row) (r : Bool) → r ≡ (lacks v.exchange.rows from && is_none (first_missing (with_row v.exchange.rows from []) (members_of v.exchange.view)))
    → lacks v.exchange.rows from ≡ true → r ≡ false → IsMore v from row
is_more v from row r tells lacking is_not = record { lacking = lacking; some = last_or_not v from row r tells lacking ∙ is_not }

pub is_last : (v : Viewed) (from : ℕ) (row : Row) (r : Bool) → r ≡ (lacks v.exchange.rows from && is_none (first_missing (with_row v.exchange.rows from []) (members_of v.exchange.view)))
    → lacks v.exchange.rows from ≡ true → r ≡ true → v.exchange.exchanged ≡ false → IsLast v from row
is_last v from row r tells lacking yes_it_is unfinished = record { lacking = lacking; none = last_or_not v from row r tells lacking ∙ yes_it_is; unfinished = unfinished }

pub more_goes_on : (v : Viewed) (from : ℕ) (row : Row) → IsMore v from row → finishes_with v from row ≡ false
more_goes_on v from row h = and_false _ (not v.exchange.exchanged) h.some

pub last_finishes : (v : Viewed) (from : ℕ) (row : Row) → IsLast v from row → finishes_with v from row ≡ true
last_finishes v from row h = and_both _ (not v.exchange.exchanged) h.none (ap not h.unfinished)

some_of : {X : Type 0} (o : Option X) → is_none o ≡ false → IsSome o
some_of None e = cc
some_of (Some x) e = refl

none_of : {X : Type 0} (o : Option X) → is_none o ≡ true → o ≡ None
none_of None e = refl
none_of (Some x) e = cc

lacking_of : (f : Facts) (v : Viewed) (from : ℕ) → IsInView f v → Contains (agreement.others_among v.me (members_of v.exchange.view)) from → lacks v.exchange.rows from ≡ true → IsLacking f from
lacking_of f v from h member lacking = record {
  member = subst (λ (ns : List ℕ). Contains ns from) (ap₂ (λ (me : ℕ) (x : Exchange). agreement.others_among me (members_of x.view)) (sym h.me) (exchange_is f v h)) member;
  lacking = ap (λ (x : Exchange). lacks x.rows from) (sym (exchange_is f v h)) ∙ lacking;
}

pub more_fits : (f : Facts) (v : Viewed) (from : ℕ) (row : Row) → IsInView f v → Contains (agreement.others_among v.me (members_of v.exchange.view)) from → IsMore v from row → FitsRow f from row
more_fits f v from row h member more = record {
  absent = lacking_of f v from h member more.lacking;
  more = subst (λ (x : Exchange). IsSome (first_missing (with_row x.rows from row) (members_of x.view))) (exchange_is f v h) (some_of _ more.some);
}

pub last_fits : (f : Facts) (v : Viewed) (s : held.StoreWithRoom) (from : ℕ) (row : Row) (l : LastRow) → IsNodeInView f v s → Contains (agreement.others_among v.me (members_of v.exchange.view)) from
    → l.from ≡ from → l.row ≡ row → AreServed (members_of v.exchange.view) (with_row v.exchange.rows from row) l.served → l.emigration.key ≡ viewed_key v → IsHandedOn v s from row l.emigration.targets → IsLast v from row
    → FitsLastRow f l
last_fits f v s from row l h member of_member with_it served keyed handed last =
    let same : v.exchange ≡ f.exchange = exchange_is f v h.view.viewed in record {
      absent = subst (IsLacking f) (sym of_member) (lacking_of f v from h.view.viewed member last.lacking);
      none_missing =
          ap₂ (λ (n : ℕ) (r : Row). first_missing (with_row f.exchange.rows n r) (members_of_view f)) of_member with_it
          ∙ ap (λ (x : Exchange). first_missing (with_row x.rows from row) (members_of x.view)) (sym same) ∙ none_of _ last.none;
      served =
          subst (λ (rows : List MemberRow). AreServed (members_of_view f) rows l.served) (ap₂ (λ (n : ℕ) (r : Row). with_row f.exchange.rows n r) (sym of_member) (sym with_it))
          (subst (λ (x : Exchange). AreServed (members_of x.view) (with_row x.rows from row) l.served) same served);
      key = keyed ∙ ap (λ (x : Exchange). exchange.exchange_key x.view) same;
      targets =
          handed.pending (facts_with_row f from row) h.view.viewed.me h.view.viewed.factor h.stored.content (ap (λ (x : Exchange). record x { rows = with_row x.rows from row }) (sym same))
          ∙ ap₂ (λ (n : ℕ) (r : Row). own_targets (facts_with_row f n r)) (sym of_member)
          (sym with_it);
    }

-- the line of the last row
pub told_last : (told : Effects) (l : Line) (b : Bool) → b ≡ true → let e : Effects = record { lines = told.lines ++ l ∷ []; sends = told.sends } in e ≡ then_effects told (lines_only (only_if l b))
told_last told l b e = rw e (ap (λ (ss : List (ℕ × List ℕ)). let x : Effects = record { lines = told.lines ++ l ∷ []; sends = ss } in x) (sym (append-nil told.sends)))

pub told_no_line : (told : Effects) (l : Line) (b : Bool) → b ≡ false → told ≡ then_effects told (lines_only (only_if l b))
told_no_line told l b e = rw e (sym (told_nothing told))

-- ---- the message that brought it

-- the key of the view has a spelling where the message's has
pub key_fits : (f : Facts) (v : Viewed) (key : ClusterKey) → IsInView f v → in_view f key ≡ true → IsKeyField key → IsKeyField (viewed_key v)
key_fits f v key h of_view k = subst IsKeyField (sym (ap (λ (x : Exchange). exchange.exchange_key x.view) (exchange_is f v h) ∙ view_key_is f key of_view)) k

pub state_proper : (f : Facts) (v : Viewed) (key : ClusterKey) → IsInView f v → in_view f key ≡ true → IsKeyField key → HasRanges f
    → IsProper (message.State (viewed_key v) false (own_row_in (facts_seen v)))
state_proper f v key h of_view k ranges =
    (key_fits f v key h of_view k, own_row_field v.exchange.rows v.me (subst (λ (x : Exchange). All (λ r. IsStateRowField r.row) x.rows) (sym (exchange_is f v h)) ranges.rows))

pub state_after : (f : Facts) (from : ℕ) (key : ClusterKey) (wants : Bool) (row : Row) → in_view f key ≡ true → after_row f from row ≡ after_message f 0 from (message.State key wants row)
state_after f from key wants row of_view = sym (state_is f 0 from key wants row ∙ ap (λ (b : Bool). (if b then after_row f from row else f)) of_view)

pub row_message_ranges : (f : Facts) (from : ℕ) (row : Row) → IsStateRowField row → IsSome f.exchange.view → HasRanges f → HasRanges (after_row f from row)
row_message_ranges f from row fit in_one h = go (finishes f (row_came f from row true))
  where
    go : (b : Bool) → HasRanges (exchanged_if (row_came f from row true) (view_key f) b)
    go true = last_row_ranges f from row fit in_one h
    go false = row_ranges f from row fit h

pub state_told : (f : Facts) (v : Viewed) (from : ℕ) (key : ClusterKey) (wants : Bool) (row : Row) → IsInView f v → in_view f key ≡ true
    → then_effects (spelled (sends_only (if wants then to_one from (state f false) else []))) (lines_only (only_if (line.Exchanged v.me (viewed_key v)) (finishes_with v from row)))
    ≡ spelled (due_state f (row_came f from row (in_view f key)) from key wants)
state_told f v from key wants row h of_view =
    let sent = spelled_sends (if wants then to_one from (state f false) else []) in
    let told : List Line → List (ℕ × List ℕ) → Effects = λ (ls : List Line) (ss : List (ℕ × List ℕ)). record { lines = ls; sends = ss } in
    ap₂ told
    (ap₂ (λ (me : ℕ) (k : ClusterKey). only_if (line.Exchanged me k) (finishes_with v from row)) (sym h.me) (ap (λ (x : Exchange). exchange.exchange_key x.view) (exchange_is f v h))
    ∙ ap (only_if (line.Exchanged f.me (view_key f))) (finishes_seen f v from row h))
    (append-nil sent)
    ∙ ap (λ (b : Bool). spelled (if b then lines_and_sends (only_if (line.Exchanged f.me (view_key f)) (finishes f (row_came f from row b))) (if wants then to_one from (state f false) else []) else stale f)) (sym of_view)

-- ---- how far the partitions have come

pub progress_after : (f : Facts) (from : ℕ) (key : ClusterKey) (wants : Bool) (done handed settled : List Bool) → in_view f key ≡ true
    → after_message f 0 from (message.Progress key wants done handed settled) ≡ progress_came f from done handed settled true
progress_after f from key wants done handed settled of_view =
    progress_is f 0 from key wants done handed settled ∙ ap (λ (b : Bool). progress_came f from done handed settled b) of_view

pub progress_told : (f : Facts) (from : ℕ) (key : ClusterKey) (wants : Bool) (done handed settled : List Bool) → in_view f key ≡ true
    → (if wants && knows_all_settled (progress_came f from done handed settled true) partition_count 0 then sends_only (to_one from (progress_message partition_count (progress_came f from done handed settled true) false)) else nothing)
    ≡ due_progress partition_count f (progress_came f from done handed settled (in_view f key)) from key wants
progress_told f from key wants done handed settled of_view =
    ap (λ (b : Bool). (if b then (if wants && knows_all_settled (progress_came f from done handed settled b) partition_count 0 then sends_only (to_one from (progress_message partition_count (progress_came f from done handed settled b) false)) else nothing) else stale f)) (sym of_view)

pub same_progress : (f : Facts) (from : ℕ) (a b c done handed settled : List Bool) → a ≡ done → b ≡ handed → c ≡ settled
    → progress_came f from a b c true ≡ progress_came f from done handed settled true
same_progress f from a b c done handed settled d h s = rw (d, h, s) refl

-- the row with these bits is that
pub either_is : (a b row : List Bool) → IsRow a → IsRow b → length row ≡ partition_count → ((p : ℕ) → bit row p ≡ (bit a p || bit b p)) → row ≡ or_rows a b
either_is a b row s t size each =
    ext_get_or false row (or_rows a b) (size ∙ sym (or_length a b (s.size ∙ sym t.size) ∙ s.size)) (λ p within. each p ∙ sym (or_bit a b p))

bits_length : (test : ℕ → Bool) (n p : ℕ) → length (bits_from test n p) ≡ n
unfolding bits_from
bits_length test zero p = refl
bits_length test (suc n) p = ap suc (bits_length test n (p + 1))

pub either_row : (a b : List Bool) → IsRow a → IsRow b → IsRow (or_rows a b)
either_row a b s t = record { size = or_length a b (s.size ∙ sym t.size) ∙ s.size }

-- a Progress bears on what is known settled by its settled row alone
pub all_settled_came : (f : Facts) (from : ℕ) (done handed settled : List Bool)
    → knows_all_settled (progress_came f from done handed settled true) partition_count 0 ≡ knows_all_settled (with_settled_bits f settled) partition_count 0
all_settled_came f from done handed settled =
    settled_by (progress_came f from done handed settled true) partition_count 0 ∙ sym (settled_by (with_settled_bits f settled) partition_count 0)

-- the answer
pub answer_is_due : (f : Facts) (v : Viewed) (from : ℕ) (done handed settled : List Bool) → IsInView f v
    → message.Progress (viewed_key v) false (done_row v.exchange.exchanged v.batches partition_count 0) (or_rows v.bits.handed handed) (or_rows v.bits.settled settled)
    ≡ progress_message partition_count (progress_came f from done handed settled true) false
answer_is_due f v from done handed settled h =
    ap (λ (x : Facts). message.Progress (view_key x) false (done_row x.exchange.exchanged x.batches partition_count 0) (or_rows x.bits.handed handed) (or_rows x.bits.settled settled)) h.view
    ∙ ap (λ (row : List Bool). message.Progress (view_key f) false row (or_rows f.bits.handed handed) (or_rows f.bits.settled settled))
    (sym (done_by (progress_came f from done handed settled true) partition_count 0))

pub answer_proper : (v : Viewed) (handed settled : List Bool) → IsKeyField (viewed_key v) → IsRow v.bits.handed → IsRow v.bits.settled → IsRow handed → IsRow settled
    → IsProper (message.Progress (viewed_key v) false (done_row v.exchange.exchanged v.batches partition_count 0) (or_rows v.bits.handed handed) (or_rows v.bits.settled settled))
answer_proper v handed settled key own_handed own_settled h s =
    (key, record { size = bits_length (λ q. v.exchange.exchanged && not (is_pending v.batches q)) partition_count 0 }, either_row v.bits.handed handed own_handed h, either_row v.bits.settled settled own_settled s)

-- another member is one of the view's
pub member_lent : (f : Facts) (v : Viewed) (from : ℕ) → IsInView f v → Contains (others f) from → Contains (agreement.others_among v.me (members_of v.exchange.view)) from
member_lent f v from h member =
    subst (λ (ns : List ℕ). Contains ns from) (sym (ap₂ (λ (me : ℕ) (x : Exchange). agreement.others_among me (members_of x.view)) (sym h.me) (exchange_is f v h))) member
