-- What a node sends in answer to a request or to a message is read as it was sent.
use Rattle.std.proofs.Common.{◌≡◌, ℕ, ◌+◌, ◌<◌, ◌≤◌, ◌^◌, ◌==◌, Bool, true, false, ◌&&◌, List, [], ◌∷◌, ◌++◌, Option, Some, None, refl, subst, arith}
use Rattle.std.specs.Prelude.{find, option_map, unwrap_or, if◌then◌else◌}
use Rattle.std.specs.FinMap as finite
use Rattle.std.proofs.lemmas.List.Elements.{All-nil}
use Rattle.conflict_order.specs.declared.version.Body.{Body}
use Rattle.conflict_order.specs.declared.version.Body.TheVariants as body
use Rattle.conflict_order.specs.declared.want.Want.{Want}
use Rattle.conflict_order.specs.declared.want.Want.TheVariants as want
use Rattle.conflict_order.specs.Next.{next}
use Rattle.cluster_types.specs.declared.copy_state.CopyState.{CopyState}
use Rattle.cluster_types.specs.Partitions.{partition_count, partition_of}
use Rattle.wire_messages.specs.declared.message.Message.{Message}
use Rattle.wire_messages.specs.declared.message.Message.TheVariants as message
use Rattle.journal_lines.specs.declared.refusal.Refusal.{Refusal}
use Rattle.wire_messages.specs.Keys.{IsKeyField}
use Rattle.wire_messages.specs.Numbers.{IsNumber}
use Rattle.wire_messages.specs.Proper.{IsProper}
use Rattle.wire_messages.specs.Requests.{IsWant}
use Rattle.wire_messages.specs.Rows.{FitsState, IsStateRowField}
use Rattle.wire_messages.specs.Versions.{IsBody, IsDigest}
use Rattle.wire_messages.proofs.DecodingLaws.{read_back}
use Rattle.node_rules.specs.declared.member_row.MemberRow.{MemberRow}
use Rattle.node_rules.specs.Agreement as agreement
use Rattle.node_rules.specs.Agreement.{Proposal, proposes, without_missing}
use Rattle.node_rules.specs.Batches.{Targets, out_to, has_number}
use Rattle.node_rules.specs.Copies.{Store, is_nil}
use Rattle.node_rules.specs.Effects.{to_each, lines_and_sends, lines_only, nothing, sends_only, to_one}
use Rattle.node_rules.specs.Exchange.{View, Exchange, exchange_key}
use Rattle.node_rules.specs.Facts.{Facts, view_key, list_at}
use Rattle.node_rules.specs.Map.{row_of_member}
use Rattle.node_rules.specs.Messages.{due_message, commit_effects, accept_effects, may_enter_view, ack_of, answer_of}
use Rattle.node_rules.specs.Notes.{reached, in_view, next_nth, opening_transaction}
use Rattle.node_rules.specs.Requests.{due_request, request_if, asking, request_refusal}
use Rattle.node_rules.specs.Resolving.{repl, resolving, resolving_want, writing_body}
use Rattle.node_rules.specs.Stamps.{Writes, applies_at}
use Rattle.node_rules.specs.Standing.{other_replicas, asked, knows_all_settled}
use Rattle.node_rules.specs.Tick.{state, progress_message}
use Rattle.node_rules.specs.Transactions as transactions
use Rattle.node_rules.specs.Transactions.{Transaction, Transactions, Write, transaction, awaits_answer, awaits_ack, is_last_awaited, answered}
use Rattle.cluster_types.specs.ClusterKeys.{key_lt}
use Rattle.cluster_laws.proofs.At.{differ}
use Rattle.run_laws.specs.Ranges.{FitsTransaction, FitsRanges, FitsFacts}
use Rattle.run_laws.specs.Spelled.{AreReadInRange, is_ranged}
use Rattle.run_laws.specs.Tied.{Each}
use Rattle.run_laws.proofs.RangedCopies.{join_fits, version_held}
use Rattle.run_laws.proofs.RangedLines.{found_among}
use Rattle.run_laws.proofs.RangedTransactions.{transaction_more, next_fits}
use Rattle.run_laws.proofs.RequestSteps.{Accepts, accepts}
use Rattle.run_laws.proofs.ViewSteps.{Viewed, view_of}
use Rattle.cluster_types.specs.Endpoints.{client}
use Rattle.node_rules.specs.BatchMessages.{merging, merging_all}
use Rattle.node_rules.specs.ClientMessages.{map_table}
use Rattle.node_rules.specs.Entering.{entering}
use Rattle.node_rules.specs.RowMessages.{finishes}
use Rattle.node_rules.specs.StaleMessages.{spent, stale}
use Rattle.node_rules.specs.Tables.{only_if}
use Rattle.cluster_types.specs.ClusterKeys as keys
use Rattle.journal_lines.specs.declared.line.Line.TheVariants as line

-- ---- facts in their ranges, with the key of the view

pub record Stood (lines : ℕ) (e : Exchange) (s : Store) (w : Writes) (ts : Transactions) (targets : Targets) : Type 0 where
  pub fits : FitsRanges lines e.rows s w ts targets
  pub key : (v : View) → e.view ≡ Some v → IsKeyField (exchange_key e.view)
  -- out of a view nothing runs and nothing is handed on
  pub idle : e.view ≡ None → ts.running ≡ []
  pub quiet : e.view ≡ None → targets ≡ []

abbrev pub StoodFacts : ℕ → Facts → Type 0
StoodFacts lines f = Stood lines f.exchange f.store f.writes f.transactions f.batches

-- ---- messages to some

pub each_read : (ns : List ℕ) (m : Message) → IsProper m → AreReadInRange (to_each ns m)
each_read [] m p = tt
each_read (n ∷ ns) m p = ((λ e. read_back m p), each_read ns m p)

-- a kind of which nothing is asked
pub free_read : (ns : List ℕ) (m : Message) → is_ranged m ≡ false → AreReadInRange (to_each ns m)
free_read [] m e = tt
free_read (n ∷ ns) m e = ((λ q. differ q e), free_read ns m e)

pub append_read : (a b : List (ℕ × Message)) → AreReadInRange a → AreReadInRange b
    → AreReadInRange (a ++ b)
append_read [] b x y = y
append_read (s ∷ a) b x y = (x.0, append_read a b x.1 y)

pub is_number : (lines n : ℕ) → lines + 1 < 2 ^ 32 → 0 < n → n ≤ lines + 1 → IsNumber n
is_number lines n lt above le = record { positive = above; fits = omega (arith, lt, le) }

-- ---- the own row

no_row : IsStateRowField []
no_row = record {
  states = record {
    rising = λ i j d lt within. absurd (omega (arith, within));
    partitions = λ k d within. absurd (omega (arith, within));
    none_empty = λ k d within. absurd (omega (arith, within));
  };
  fit = All-nil (λ (e : ℕ × CopyState). FitsState e.1);
}

row_at : (rows : List MemberRow) (n : ℕ) → Each (λ (r : MemberRow). IsStateRowField r.row) rows → IsStateRowField (unwrap_or (row_of_member rows n) [])
row_at [] n h = no_row
row_at (r ∷ rows) n h = go (r.node == n) (row_at rows n h.1)
  where
    go : (b : Bool) → IsStateRowField (unwrap_or (row_of_member rows n) []) → IsStateRowField (unwrap_or (option_map (λ (x : MemberRow). x.row) (if b then Some r else find (λ (x : MemberRow). x.node == n) rows)) [])
    go true rest = h.0
    go false rest = rest

pub state_proper : (lines : ℕ) (f : Facts) (wants : Bool) (v : View) → StoodFacts lines f → f.exchange.view ≡ Some v → IsProper (state f wants)
state_proper lines f wants v h e = (h.key v e, row_at f.exchange.rows f.me h.fits.each_row)

-- ---- a transaction

pub ask_proper : (lines : ℕ) (f : Facts) (y : Transaction) → lines + 1 < 2 ^ 32 → IsKeyField (view_key f) → FitsTransaction (lines + 1) y → IsProper (message.Ask (view_key f) y.number y.digest)
ask_proper lines f y lt key h = (key, is_number lines y.number lt h.above h.number, h.digest)

pub resolving_read : (lines : ℕ) (f : Facts) (clock : ℕ) (l : List ℕ) (t : Transaction) → lines + 1 < 2 ^ 32 → clock < 2 ^ 64 → IsKeyField (view_key f) → FitsFacts lines f → FitsTransaction (lines + 1) t → AreReadInRange (resolving f clock l t).sends
resolving_read lines f clock l t lt time key h y = go t.want refl
  where
    next_one : (a : ℕ) → a ≤ lines → a + 1 ≤ lines + 1
    next_one a le = omega (arith, le)

    writes : (b : Body) → IsBody b → AreReadInRange (writing_body f clock l t b).sends
    writes b fits = each_read (other_replicas f l) (repl f t (record { version = next t.best clock b; nth = next_nth f (partition_of t.digest) })) (
      key,
      is_number lines t.number lt y.above y.number,
      is_number lines (next_nth f (partition_of t.digest)) lt (omega arith) (next_one (applies_at f.writes (partition_of t.digest)) (h.writes.applies (partition_of t.digest))),
      y.digest,
      next_fits t.best clock b y.best time fits,
    )

    go : (q : Want) → t.want ≡ q → AreReadInRange (resolving_want f clock l t q).sends
    go want.Get e = tt
    go (want.Put bytes) e = writes (body.Value bytes) (subst IsWant e y.want)
    go want.Del e = writes body.Tombstone tt

-- ---- a request

pub request_read : (lines : ℕ) (f : Facts) (clock : ℕ) (d : List ℕ) (q : Want) → lines + 1 < 2 ^ 32 → clock < 2 ^ 64 → IsDigest d → IsWant q → StoodFacts lines f → AreReadInRange (due_request f clock d q).sends
request_read lines f clock d q lt time digest wanted h = go (request_refusal f (list_at f (partition_of d)) d) refl
  where
    t : Transaction
    t = opening_transaction f (list_at f (partition_of d)) (f.transactions.opened + 1) d q

    above : (o : ℕ) → 0 < o + 1
    above o = omega arith

    next_one : (o : ℕ) → o ≤ lines → o + 1 ≤ lines + 1
    next_one o le = omega (arith, le)

    fits : FitsTransaction (lines + 1) (opening_transaction f (list_at f (partition_of d)) (f.transactions.opened + 1) d q)
    fits = record { above = above f.transactions.opened; number = next_one f.transactions.opened h.fits.transactions.opened; digest = digest; want = wanted; best = version_held f.store.content d h.fits.content; applied = tt }

    asks : IsKeyField (view_key f) → (ns : List ℕ) → AreReadInRange (asking f clock (list_at f (partition_of d)) (opening_transaction f (list_at f (partition_of d)) (f.transactions.opened + 1) d q) ns).sends
    asks key [] = resolving_read lines f clock (list_at f (partition_of d)) t lt time key h.fits fits
    asks key (n ∷ ns) = each_read (n ∷ ns) (message.Ask (view_key f) (f.transactions.opened + 1) d) (ask_proper lines f t lt key fits)

    go : (o : Option Refusal) → request_refusal f (list_at f (partition_of d)) d ≡ o → AreReadInRange (request_if f clock (list_at f (partition_of d)) d q o).sends
    go (Some cause) e = tt
    go None e = let ok : Accepts f d = accepts f d e in asks (h.key ok.view ok.is) (asked f (list_at f (partition_of d)) (partition_of d))

-- ---- a message

pub message_read : (lines : ℕ) (f : Facts) (clock from : ℕ) (m : Message) → lines + 1 < 2 ^ 32 → clock < 2 ^ 64 → IsProper m → StoodFacts lines f → AreReadInRange (due_message f clock from m).sends
message_read lines f clock from (message.Propose k ms) lt time p h = go (key_lt k f.agreement.promised)
  where
    go : (b : Bool) → AreReadInRange (if b then sends_only (to_one from (message.Refuse k f.agreement.promised)) else lines_and_sends (only_if (line.Promise f.me k) (keys.key_lt f.agreement.promised k)) (to_one from (message.Accept k))).sends
    go true = free_read (from ∷ []) (message.Refuse k f.agreement.promised) refl
    go false = free_read (from ∷ []) (message.Accept k) refl
message_read lines f clock from (message.Accept k) lt time p h = go f.agreement.proposal (proposes f.agreement.proposal k)
  where
    commits : (x : Proposal) (b : Bool) → AreReadInRange (if b then commit_effects f x else nothing).sends
    commits x true = free_read (agreement.others_among f.me x.members) (message.Commit x.key x.members) refl
    commits x false = tt

    go : (o : Option Proposal) (b : Bool) → AreReadInRange (accept_effects f from k o b).sends
    go (Some x) true = commits x (is_nil (without_missing x from).missing)
    go (Some x) false = tt
    go None b = tt
message_read lines f clock from (message.Refuse k promised) lt time p h = go (proposes f.agreement.proposal k)
  where
    go : (b : Bool) → AreReadInRange (if b then nothing else stale f).sends
    go true = tt
    go false = tt
message_read lines f clock from (message.Commit k ms) lt time p h = go (may_enter_view f k ms)
  where
    go : (b : Bool) → AreReadInRange (if b then lines_only (entering f k ms) else stale f).sends
    go true = tt
    go false = tt
message_read lines f clock from (message.State k wants row) lt time p h = go (in_view f k) refl
  where
    answers : (v : View) → f.exchange.view ≡ Some v → (b : Bool)
        → AreReadInRange (if b then to_one from (state f false) else [])
    answers v e true = each_read (from ∷ []) (state f false) (state_proper lines f false v h e)
    answers v e false = tt

    go : (b : Bool) → in_view f k ≡ b → AreReadInRange (if b then lines_and_sends (only_if (line.Exchanged f.me (view_key f)) (finishes f (reached f from (message.State k wants row)))) (if wants then to_one from (state f false) else []) else stale f).sends
    go true e = let v : Viewed f k = view_of f k e in answers v.view v.is wants
    go false e = tt
message_read lines f clock from (message.Batch x) lt time p h = go (in_view f x.key)
  where
    go : (b : Bool) → AreReadInRange (if b then lines_and_sends (merging_all f x.records) (to_one from (message.BatchAck x.key x.number)) else stale f).sends
    go true = free_read (from ∷ []) (message.BatchAck x.key x.number) refl
    go false = tt
message_read lines f clock from (message.BatchAck k number) lt time p h = go (in_view f k)
  where
    rests : (b : Bool) → AreReadInRange (if b then nothing else spent f).sends
    rests true = tt
    rests false = tt

    go : (b : Bool) → AreReadInRange (if b then (if has_number (out_to f.batches from) number then nothing else spent f) else stale f).sends
    go true = rests (has_number (out_to f.batches from) number)
    go false = tt
message_read lines f clock from (message.Progress k wants done handed settled) lt time p h = go (in_view f k)
  where
    now : Facts
    now = reached f from (message.Progress k wants done handed settled)

    answers : (g : Facts) (b : Bool)
        → AreReadInRange (if b then sends_only (to_one from (progress_message partition_count g false)) else nothing).sends
    answers g true = free_read (from ∷ []) _ refl
    answers g false = tt

    go : (b : Bool) → AreReadInRange (if b then (if wants && knows_all_settled (reached f from (message.Progress k wants done handed settled)) partition_count 0 then sends_only (to_one from (progress_message partition_count (reached f from (message.Progress k wants done handed settled)) false)) else nothing) else stale f).sends
    go true = answers now (wants && knows_all_settled now partition_count 0)
    go false = tt
message_read lines f clock from (message.Repl k t nth d v) lt time p h = go (in_view f k)
  where
    go : (b : Bool) → AreReadInRange (if b then lines_and_sends (merging f d v) (to_one from (message.ReplAck k t)) else stale f).sends
    go true = free_read (from ∷ []) (message.ReplAck k t) refl
    go false = tt
message_read lines f clock from (message.ReplAck k t) lt time p h = go (in_view f k)
  where
    awaits : (y : Transaction) (b : Bool) → AreReadInRange (if b then lines_only (only_if (line.Done f.me (view_key f) y.number) (is_last_awaited y from)) else spent f).sends
    awaits y true = tt
    awaits y false = tt

    opens : (o : Option Transaction) → AreReadInRange (ack_of f from o).sends
    opens None = tt
    opens (Some y) = awaits y (awaits_ack y from)

    go : (b : Bool) → AreReadInRange (if b then ack_of f from (transaction f.transactions t) else stale f).sends
    go true = opens (transaction f.transactions t)
    go false = tt
message_read lines f clock from (message.Ask k t d) lt time p h = go (in_view f k)
  where
    go : (b : Bool) → AreReadInRange (if b then sends_only (to_one from (message.Answer k t (finite.get f.store.content d))) else stale f).sends
    go true = each_read (from ∷ []) (message.Answer k t (finite.get f.store.content d)) (p.0, p.1, version_held f.store.content d h.fits.content)
    go false = tt
message_read lines f clock from (message.Answer k t v) lt time p h = go (in_view f k) refl
  where
    last : Viewed f k → (y : Transaction) → FitsTransaction lines y → (b : Bool) → AreReadInRange (if b then resolving f clock (list_at f (partition_of (transactions.answered f.store.by from v y).digest)) (transactions.answered f.store.by from v y) else nothing).sends
    last x y r false = tt
    last x y r true = resolving_read lines f clock (list_at f (partition_of y.digest)) (transactions.answered f.store.by from v y) lt time (h.key x.view x.is) h.fits
        (transaction_more lines (transactions.answered f.store.by from v y) (record { above = r.above; number = r.number; digest = r.digest; want = r.want; best = join_fits f.store.by y.best v r.best p.2; applied = r.applied }))

    awaited : Viewed f k → (y : Transaction) → FitsTransaction lines y → (b : Bool) → AreReadInRange (if b then (if is_last_awaited y from then resolving f clock (list_at f (partition_of (answered f.store.by from v y).digest)) (answered f.store.by from v y) else nothing) else spent f).sends
    awaited x y r true = last x y r (is_last_awaited y from)
    awaited x y r false = tt

    opens : Viewed f k → (o : Option Transaction) → transaction f.transactions t ≡ o → AreReadInRange (answer_of f clock from v o).sends
    opens x None i = tt
    opens x (Some y) i = awaited x y (h.fits.transactions.running y (found_among (λ (u : Transaction). u.number == t) f.transactions.running y i)) (awaits_answer y from)

    go : (b : Bool) → in_view f k ≡ b → AreReadInRange (if b then answer_of f clock from v (transaction f.transactions t) else stale f).sends
    go true e = opens (view_of f k e) (transaction f.transactions t) refl
    go false e = tt
message_read lines f clock from message.MapAsk lt time p h = go f.exchange.exchanged
  where
    go : (b : Bool) → AreReadInRange (if b then sends_only (to_one client (message.MapTable (map_table f))) else nothing).sends
    go true = free_read (0 ∷ []) _ refl
    go false = tt
message_read lines f clock from (message.Heartbeat view promised hears role) lt time p h = tt
message_read lines f clock from _ lt time p h = tt
