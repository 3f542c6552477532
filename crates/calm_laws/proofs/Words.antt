-- Which lines are due of a message that proposes nothing and enters no view.
use Rattle.std.proofs.Common.{◌≡◌, ℕ, Bool, true, false, List, [], ◌∷◌, ◌++◌, Option, Some, None, refl, if◌then◌else◌, ◌&&◌}
use Rattle.conflict_order.specs.declared.want.Want.{Want}
use Rattle.conflict_order.specs.declared.want.Want.TheVariants as want
use Rattle.conflict_order.specs.declared.version.Version.{Version}
use Rattle.conflict_order.specs.declared.version.Body.TheVariants as body
use Rattle.conflict_order.specs.Next.{next}
use Rattle.cluster_types.specs.declared.cluster_key.ClusterKey.{ClusterKey}
use Rattle.wire_messages.specs.declared.message.Batch.{Batch}
use Rattle.wire_messages.specs.declared.message.Message.{Message}
use Rattle.wire_messages.specs.declared.message.Message.TheVariants as message
use Rattle.journal_lines.specs.declared.line.Line.{Line}
use Rattle.journal_lines.specs.declared.line.Line.TheVariants as line
use Rattle.node_rules.specs.Agreement.{proposes}
use Rattle.node_rules.specs.Batches.{out_to, has_number}
use Rattle.node_rules.specs.Copies.{is_nil}
use Rattle.node_rules.specs.Effects.{Effects, lines_and_sends, lines_only, nothing, sends_only, to_one}
use Rattle.node_rules.specs.Facts.{Facts, list_at, view_key}
use Rattle.node_rules.specs.Messages.{finishes, ack_of, answer_of, merging, merging_all, due_message_of}
use Rattle.node_rules.specs.Notes.{noted, reached, in_view}
use Rattle.node_rules.specs.Resolving.{writing, resolving_want, resolving}
use Rattle.node_rules.specs.Standing.{other_replicas, knows_all_settled}
use Rattle.node_rules.specs.Transactions.{Transaction, transaction, awaits_answer, awaits_ack, answered, is_last_awaited}
use Rattle.node_rules.specs.Tables.{only_if}
use Rattle.cluster_laws.proofs.At.{differ}
use Rattle.cluster_types.specs.Endpoints.{client}
use Rattle.cluster_types.specs.Partitions.{partition_of}
use Rattle.node_rules.specs.ClientMessages.{map_table}
use Rattle.node_rules.specs.Tick.{progress_message, state}
use Rattle.std.specs.FinMap as finite
use Rattle.node_rules.specs.StaleMessages as stale_messages

-- what holds of each of the lines
abbrev pub Each : (Line → Type 0) → List Line → Type 0
Each P [] = Unit {0}
Each P (l ∷ ls) = P l × Each P ls

-- it holds of lines that write a record and of those that only tell
pub record Words (P : Line → Type 0) : Type 0 where
  pub stale : (n : ℕ) → P (line.Stale n)
  pub spent : (n : ℕ) → P (line.Spent n)
  pub merge : (n : ℕ) (k : ClusterKey) (d : List ℕ) (v : Version) → P (line.Merge n k d v)

-- it holds of lines that end or apply a transaction
pub record Ends (P : Line → Type 0) : Type 0 where
  pub value : (n : ℕ) (k : ClusterKey) (t : ℕ) (d : List ℕ) (v : Option Version) → P (line.Value n k t d v)
  pub apply : (n : ℕ) (k : ClusterKey) (t : ℕ) (d : List ℕ) (v : Version) → P (line.Apply n k t d v)
  pub done : (n : ℕ) (k : ClusterKey) (t : ℕ) → P (line.Done n k t)

pub each_append : (P : Line → Type 0) (ls ms : List Line) → Each P ls → Each P ms → Each P (ls ++ ms)
each_append P [] ms h i = i
each_append P (l ∷ ls) ms h i = (h.0, each_append P ls ms h.1 i)

pub each_if : (P : Line → Type 0) (l : Line) (b : Bool) → P l → Each P (only_if l b)
each_if P l true h = (h, tt)
each_if P l false h = tt

-- the message proposes or commits a view, or is a vote that may
abbrev pub agrees : Message → Bool
agrees (message.Propose k ms) = true
agrees (message.Accept k) = true
agrees (message.Commit k ms) = true
agrees _ = false

-- the message answers a transaction
abbrev pub is_answer : Message → Bool
is_answer (message.ReplAck k t) = true
is_answer (message.Answer k t v) = true
is_answer _ = false

-- the message carries a row
abbrev pub is_state : Message → Bool
is_state (message.State key wants row) = true
is_state _ = false

module _ (P : Line → Type 0) (w : Words P) where
  merging_words : (f : Facts) (rs : List (List ℕ × Version)) → Each P (merging_all f rs)
  merging_words f [] = tt
  merging_words f (r ∷ rs) = each_append P (merging f r.0 r.1) _ (each_if P _ _ (w.merge _ _ _ _)) (merging_words (noted None f (merging f r.0 r.1)) rs)

  abbrev Says : Effects → Type 0
  Says e = Each P e.lines

  unless_stale_words : (f : Facts) (b : Bool) → Says (if b then nothing else stale_messages.stale f)
  unless_stale_words f true = tt
  unless_stale_words f false = (w.stale f.me, tt)

  state_words : ((n : ℕ) (k : ClusterKey) → P (line.Exchanged n k)) → (f now : Facts) (from : ℕ) (wants b : Bool) → Says (if b then lines_and_sends (only_if (line.Exchanged f.me (view_key f)) (finishes f now)) (if wants then to_one from (state f false) else []) else stale_messages.stale f)
  state_words ends f now from wants true = each_if P _ (finishes f now) (ends _ _)
  state_words ends f now from wants false = (w.stale f.me, tt)

  unless_spent_words : (f : Facts) (b : Bool) → Says (if b then nothing else stale_messages.spent f)
  unless_spent_words f true = tt
  unless_spent_words f false = (w.spent f.me, tt)

  batch_ack_words : (f : Facts) (from number : ℕ) (b : Bool) → Says (if b then (if has_number (out_to f.batches from) number then nothing else stale_messages.spent f) else stale_messages.stale f)
  batch_ack_words f from number true = unless_spent_words f (has_number (out_to f.batches from) number)
  batch_ack_words f from number false = (w.stale f.me, tt)

  answer_progress_words : (n : ℕ) (now : Facts) (from : ℕ) (b : Bool) → Says (if b then sends_only (to_one from (progress_message n now false)) else nothing)
  answer_progress_words n now from true = tt
  answer_progress_words n now from false = tt

  progress_words : (n : ℕ) (f now : Facts) (from : ℕ) (wants b : Bool) → Says (if b then (if wants && knows_all_settled now n 0 then sends_only (to_one from (progress_message n now false)) else nothing) else stale_messages.stale f)
  progress_words n f now from wants true = answer_progress_words n now from _
  progress_words n f now from wants false = (w.stale f.me, tt)

  done_by_words : Ends P → (f : Facts) (t : Transaction) (from : ℕ) (b : Bool) → Says (if b then lines_only (only_if (line.Done f.me (view_key f) t.number) (is_last_awaited t from)) else stale_messages.spent f)
  done_by_words z f t from true = each_if P _ (is_last_awaited t from) (z.done _ _ _)
  done_by_words z f t from false = (w.spent f.me, tt)

  ack_of_words : Ends P → (f : Facts) (from : ℕ) (o : Option Transaction) → Says (ack_of f from o)
  ack_of_words z f from None = (w.spent f.me, tt)
  ack_of_words z f from (Some t) = done_by_words z f t from (awaits_ack t from)

  repl_ack_words : Ends P → (f : Facts) (from number : ℕ) (b : Bool) → Says (if b then ack_of f from (transaction f.transactions number) else stale_messages.stale f)
  repl_ack_words z f from number true = ack_of_words z f from (transaction f.transactions number)
  repl_ack_words z f from number false = (w.stale f.me, tt)

  ask_words : (f : Facts) (from : ℕ) (key : ClusterKey) (number : ℕ) (d : List ℕ) (b : Bool) → Says (if b then sends_only (to_one from (message.Answer key number (finite.get f.store.content d))) else stale_messages.stale f)
  ask_words f from key number d true = tt
  ask_words f from key number d false = (w.stale f.me, tt)

  done_words : Ends P → (f : Facts) (number : ℕ) (b : Bool) → Each P (only_if (line.Done f.me (view_key f) number) b)
  done_words z f number true = (z.done _ _ _, tt)
  done_words z f number false = tt

  writing_words : Ends P → (f : Facts) (l : List ℕ) (t : Transaction) (v : Version) → Says (writing f l t v)
  writing_words z f l t v = (z.apply _ _ _ _ _, done_words z f t.number (is_nil (other_replicas f l)))

  resolving_words : Ends P → (f : Facts) (clock : ℕ) (l : List ℕ) (t : Transaction) (x : Want) → Says (resolving_want f clock l t x)
  resolving_words z f clock l t want.Get = (z.value _ _ _ _ _, tt)
  resolving_words z f clock l t (want.Put bytes) = writing_words z f l t (next t.best clock (body.Value bytes))
  resolving_words z f clock l t want.Del = writing_words z f l t (next t.best clock body.Tombstone)

  resolving_if_words : Ends P → (f : Facts) (clock : ℕ) (t : Transaction) (b : Bool) → Says (if b then resolving f clock (list_at f (partition_of t.digest)) t else nothing)
  resolving_if_words z f clock t true = resolving_words z f clock _ t t.want
  resolving_if_words z f clock t false = tt

  answered_words : Ends P → (f : Facts) (clock : ℕ) (t : Transaction) (from : ℕ) (v : Option Version) (b : Bool) → Says (if b then (if is_last_awaited t from then resolving f clock (list_at f (partition_of (answered f.store.by from v t).digest)) (answered f.store.by from v t) else nothing) else stale_messages.spent f)
  answered_words z f clock t from v true = resolving_if_words z f clock (answered f.store.by from v t) (is_last_awaited t from)
  answered_words z f clock t from v false = (w.spent f.me, tt)

  answer_of_words : Ends P → (f : Facts) (clock from : ℕ) (v : Option Version) (o : Option Transaction) → Says (answer_of f clock from v o)
  answer_of_words z f clock from v None = (w.spent f.me, tt)
  answer_of_words z f clock from v (Some t) = answered_words z f clock t from v (awaits_answer t from)

  answer_words : Ends P → (f : Facts) (clock from number : ℕ) (v : Option Version) (b : Bool) → Says (if b then answer_of f clock from v (transaction f.transactions number) else stale_messages.stale f)
  answer_words z f clock from number v true = answer_of_words z f clock from v (transaction f.transactions number)
  answer_words z f clock from number v false = (w.stale f.me, tt)

  table_words : (f : Facts) (b : Bool) → Says (if b then sends_only (to_one client (message.MapTable (map_table f))) else nothing)
  table_words f true = tt
  table_words f false = tt

  batch_words : (f : Facts) (from : ℕ) (b : Batch) (c : Bool) → Says (if c then lines_and_sends (merging_all f b.records) (to_one from (message.BatchAck b.key b.number)) else stale_messages.stale f)
  batch_words f from b true = merging_words f b.records
  batch_words f from b false = (w.stale f.me, tt)

  repl_words : (f : Facts) (from : ℕ) (key : ClusterKey) (number : ℕ) (d : List ℕ) (v : Version) (b : Bool) → Says (if b then lines_and_sends (merging f d v) (to_one from (message.ReplAck key number)) else stale_messages.stale f)
  repl_words f from key number d v true = each_if P _ _ (w.merge _ _ _ _)
  repl_words f from key number d v false = (w.stale f.me, tt)

  -- the lines that are due of such a message; an exchange ends with a row alone
  pub message_words : (n : ℕ) (f : Facts) (clock from : ℕ) (m : Message) → agrees m ≡ false → (is_state m ≡ true → (n : ℕ) (k : ClusterKey) → P (line.Exchanged n k)) → (is_answer m ≡ true → Ends P) → Each P (due_message_of n f clock from m).lines
  message_words n f clock from (message.Heartbeat v promised hears role) h ends answers = tt
  message_words n f clock from (message.Propose k ms) h ends answers = differ refl h
  message_words n f clock from (message.Accept k) h ends answers = differ refl h
  message_words n f clock from (message.Commit k ms) h ends answers = differ refl h
  message_words n f clock from (message.Refuse k promised) h ends answers = unless_stale_words f (proposes f.agreement.proposal k)
  message_words n f clock from (message.State k wants row) h ends answers = state_words (ends refl) f (reached f from (message.State k wants row)) from wants (in_view f k)
  message_words n f clock from (message.Batch b) h ends answers = batch_words f from b (in_view f b.key)
  message_words n f clock from (message.BatchAck k number) h ends answers = batch_ack_words f from number (in_view f k)
  message_words n f clock from (message.Progress k wants done handed settled) h ends answers = progress_words n f (reached f from (message.Progress k wants done handed settled)) from wants (in_view f k)
  message_words n f clock from (message.Repl k number nth d v) h ends answers = repl_words f from k number d v (in_view f k)
  message_words n f clock from (message.ReplAck k number) h ends answers = repl_ack_words (answers refl) f from number (in_view f k)
  message_words n f clock from (message.Ask k number d) h ends answers = ask_words f from k number d (in_view f k)
  message_words n f clock from (message.Answer k number v) h ends answers = answer_words (answers refl) f clock from number v (in_view f k)
  message_words n f clock from message.MapAsk h ends answers = table_words f f.exchange.exchanged
  message_words n f clock from _ h ends answers = (w.stale f.me, tt)
