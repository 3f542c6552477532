-- What messages make of the open transaction of one number.
use Rattle.std.proofs.Common.{◌≡◌, ℕ, ◌==◌, ◌&&◌, not, Bool, true, false, cond, List, [], ◌∷◌, Option, Some, None, refl, sym, ap, subst, ◌∙◌, ◌⊎◌, inl, inr, arith}
use Rattle.std.specs.Prelude.{Contains, drop, find, is_some, option_map, take, unwrap_or, if◌then◌else◌}
use Rattle.std.proofs.lemmas.List.Elements.{Contains-append_cases, Contains-append_left, Contains-append_right, Contains-push, Contains-push_cases}
use Rattle.std.proofs.lemmas.List.{take-append-drop}
use Rattle.std.proofs.lemmas.Option.{none-some}
use Rattle.conflict_order.specs.declared.want.Want.{Want}
use Rattle.conflict_order.specs.declared.want.Want.TheVariants as want
use Rattle.conflict_order.specs.declared.version.Version.{Version}
use Rattle.conflict_order.specs.declared.version.Body.TheVariants as body
use Rattle.conflict_order.specs.Next.{next}
use Rattle.cluster_types.specs.declared.cluster_key.ClusterKey.{ClusterKey}
use Rattle.cluster_types.specs.Members.{ids_of}
use Rattle.cluster_types.specs.Partitions.{partition_of}
use Rattle.partition_lists.specs.Lists.{replicas}
use Rattle.partition_lists.proofs.InOrderLaws.{equal}
use Rattle.partition_lists.proofs.ListLaws.{list_contains}
use Rattle.wire_messages.specs.declared.message.Message.{Message}
use Rattle.wire_messages.specs.declared.message.Message.TheVariants as message
use Rattle.journal_lines.specs.declared.line.Line.{Line}
use Rattle.journal_lines.specs.declared.line.Line.TheVariants as line
use Rattle.node_rules.specs.Copies.{Row, is_nil}
use Rattle.node_rules.specs.Effects.{to_each, lines_only, nothing}
use Rattle.node_rules.specs.Facts.{Facts, list_at, members_of_view, view_key}
use Rattle.node_rules.specs.Messages as due
use Rattle.node_rules.specs.Messages.{due_message_of}
use Rattle.node_rules.specs.Notes as notes
use Rattle.node_rules.specs.Notes.{all_sent, in_view, note, noted, reached, sent}
use Rattle.node_rules.specs.Resolving.{repl, resolving_want, writing, resolving}
use Rattle.node_rules.specs.Standing.{other_replicas}
use Rattle.node_rules.specs.Tables.{changed_if, contains, only_if}
use Rattle.node_rules.specs.Transactions as transactions
use Rattle.node_rules.specs.Transactions.{Transaction, Transactions, acknowledged, answered, awaits_ack, awaits_answer, is_last_awaited, transaction}
use Rattle.cluster_rules.proofs.KeptFacts.{num_same}
use Rattle.cluster_laws.proofs.At.{differ}
use Rattle.key_laws.proofs.Addressed.{in_without, not_gone}
use Rattle.run_laws.specs.Tied.{Among}
use Rattle.run_laws.proofs.Among.{among_contains}
use Rattle.calm_laws.specs.Acts.{Gets, acted, as_read}
use Rattle.calm_laws.specs.Group.{kind}
use Rattle.calm_laws.specs.Transacting.{Awaits, MovesOn, HeardFrom, Lost, Such, Turns, open_at}
use Rattle.calm_laws.specs.Turns.{is_agreeing}
use Rattle.calm_laws.proofs.Proposals.{without_itself}
use Rattle.calm_laws.proofs.Rolls.{contains_among}
use Rattle.calm_laws.proofs.Numbered.{at_number, changed_number, find_changed, find_closed, find_other}
use Rattle.calm_laws.proofs.Taking.{free_agrees}
use Rattle.calm_laws.proofs.Words.{Each, Words, is_answer, message_words}
use Rattle.node_rules.specs.StaleMessages.{spent, stale}
use Rattle.node_rules.specs.TransactionMessages.{ack_of, answer_of}

-- ---- messages that answer no transaction

abbrev Idle : Line → Type 0
Idle l = (q : Option Want) (f : Facts) → (note q f l).transactions ≡ f.transactions

idle_words : Words Idle
idle_words = record { stale = λ n q f. refl; spent = λ n q f. refl; merge = λ n k d v q f. refl }

noted_idle : (q : Option Want) (f : Facts) (ls : List Line) → Each Idle ls → (noted q f ls).transactions ≡ f.transactions
noted_idle q f [] h = refl
noted_idle q f (l ∷ ls) h = noted_idle q (note q f l) ls h.1 ∙ h.0 q f

sent_idle : (f : Facts) (to : ℕ) (m : Message) → (sent f to m).transactions ≡ f.transactions
sent_idle f to (message.Propose key members) = refl
sent_idle f to (message.Batch b) = refl
sent_idle f to m = refl

pub all_sent_idle : (f : Facts) (ms : List (ℕ × Message)) → (all_sent f ms).transactions ≡ f.transactions
all_sent_idle f [] = refl
all_sent_idle f (m ∷ ms) = all_sent_idle (sent f m.0 m.1) ms ∙ sent_idle f m.0 m.1

row_idle : (f : Facts) (from : ℕ) (row : Row) (b : Bool) → (notes.row_came f from row b).transactions ≡ f.transactions
row_idle f from row true = refl
row_idle f from row false = refl

batch_idle : (f : Facts) (from number : ℕ) (b : Bool) → (notes.batch_acked f from number b).transactions ≡ f.transactions
batch_idle f from number true = refl
batch_idle f from number false = refl

progress_idle : (f : Facts) (from : ℕ) (done handed settled : List Bool) (b : Bool) → (notes.progress_came f from done handed settled b).transactions ≡ f.transactions
progress_idle f from done handed settled true = refl
progress_idle f from done handed settled false = refl

counted_idle : (f : Facts) (key : ClusterKey) (l : List ℕ) (p nth : ℕ) (b : Bool) → (notes.write_counted_if f key l p nth b).transactions ≡ f.transactions
counted_idle f key l p nth true = refl
counted_idle f key l p nth false = refl

write_idle : (f : Facts) (from : ℕ) (key : ClusterKey) (nth p : ℕ) (b : Bool) → (notes.write_came f from key nth p b).transactions ≡ f.transactions
write_idle f from key nth p true = counted_idle f key (list_at f p) p nth _
write_idle f from key nth p false = refl

reached_idle : (f : Facts) (from : ℕ) (m : Message) → is_answer m ≡ false → (reached f from m).transactions ≡ f.transactions
reached_idle f from (message.ReplAck key t) h = differ refl h
reached_idle f from (message.Answer key t v) h = differ refl h
reached_idle f from (message.State key wants row) h = row_idle f from row (in_view f key)
reached_idle f from (message.BatchAck key number) h = batch_idle f from number (in_view f key)
reached_idle f from (message.Progress key wants done handed settled) h = progress_idle f from done handed settled (in_view f key)
reached_idle f from (message.Repl key t nth digest v) h = write_idle f from key nth (partition_of digest) (in_view f key)
reached_idle f from m h = refl

lines_idle : (n : ℕ) (c : ℕ) (f : Facts) (from : ℕ) (m : Message) → is_agreeing (kind m) ≡ false → is_answer m ≡ false → (noted None (reached f from m) (due_message_of n f c from m).lines).transactions ≡ f.transactions
lines_idle n c f from m free h =
    noted_idle None (reached f from m) (due_message_of n f c from m).lines (message_words Idle idle_words n f c from m (free_agrees m free) (λ e n k q g. refl) (λ e. differ e h))
    ∙ reached_idle f from m h

-- ---- the transaction of a number

pub found_number : (ts : List Transaction) (number : ℕ) (t : Transaction) → find (at_number number) ts ≡ Some t → t.number ≡ number
found_number [] number t e = absurd (none-some t e)
found_number (s ∷ ts) number t e = go (s.number == number) refl e (found_number ts number t)
  where
    go : (b : Bool) → (s.number == number) ≡ b → cond b (Some s) (find (at_number number) ts) ≡ Some t → (find (at_number number) ts ≡ Some t → t.number ≡ number) → t.number ≡ number
    go true i f rest = ap (λ (o : Option Transaction). (unwrap_or o s).number) (sym f) ∙ num_same s.number number i
    go false i f rest = rest f

abbrev Change : Type 0
Change = Transaction → Transaction

abbrev Keeps : Change → Type 0
Keeps g = (t : Transaction) → (g t).number ≡ t.number

-- a change at a number, seen at that number and at another one
changed_here : (ts : Transactions) (number : ℕ) (g : Change) → Keeps g → (t : Transaction) → transaction ts number ≡ Some t → transaction (transactions.changing ts number g) number ≡ Some (g t)
changed_here ts number g keeps t e =
    find_changed ts.running number (λ t. changed_if g t (t.number == number)) (changed_number g keeps number)
    ∙ ap (λ (o : Option Transaction). option_map (λ t. changed_if g t (t.number == number)) o) e
    ∙ ap (λ (b : Bool). Some (changed_if g t b)) (equal t.number number (found_number ts.running number t e))

changed_none : (ts : Transactions) (number at : ℕ) (g : Change) → Keeps g → transaction ts number ≡ None → transaction (transactions.changing ts at g) number ≡ None
changed_none ts number at g keeps e =
    find_changed ts.running number (λ t. changed_if g t (t.number == at)) (changed_number g keeps at)
    ∙ ap (λ (o : Option Transaction). option_map (λ t. changed_if g t (t.number == at)) o) e

changed_other : (ts : Transactions) (number at : ℕ) (g : Change) → Keeps g → (at == number) ≡ false → transaction (transactions.changing ts at g) number ≡ transaction ts number
changed_other ts number at g keeps d = find_changed ts.running number (λ t. changed_if g t (t.number == at)) (changed_number g keeps at) ∙ go (transaction ts number) refl
  where
    isnt : (t : Transaction) → t.number ≡ number → (b : Bool) → (t.number == at) ≡ b → b ≡ false
    isnt t i true e = differ (equal at number (sym (num_same t.number at e) ∙ i)) d
    isnt t i false e = refl

    go : (o : Option Transaction) → transaction ts number ≡ o → option_map (λ t. changed_if g t (t.number == at)) (transaction ts number) ≡ transaction ts number
    go None e = ap (λ (o : Option Transaction). option_map (λ t. changed_if g t (t.number == at)) o) e ∙ sym e
    go (Some t) e =
        ap (λ (o : Option Transaction). option_map (λ t. changed_if g t (t.number == at)) o) e
        ∙ ap (λ (b : Bool). Some (changed_if g t b)) (isnt t (found_number ts.running number t e) (t.number == at) refl)
        ∙ sym e

-- ---- an acknowledgement

ack_keeps : (x : ℕ) → Keeps (λ t. changed_if (acknowledged x) t (awaits_ack t x))
ack_keeps x t = go (awaits_ack t x)
  where
    go : (b : Bool) → (changed_if (acknowledged x) t b).number ≡ t.number
    go true = refl
    go false = refl

abbrev acked : Facts → ℕ → ℕ → Facts
acked f x number = notes.write_acked f x number true

abbrev ack_next : Transaction → ℕ → Bool → Bool → Option Transaction
ack_next t x false last = Some t
ack_next t x true true = None
ack_next t x true false = Some (acknowledged x t)

-- what an acknowledgement makes of its transaction
ack_here : (f : Facts) (x number : ℕ) (t : Transaction) → open_at f number ≡ Some t → open_at (noted None (acked f x number) (due.ack_of f x (Some t)).lines) number ≡ ack_next t x (awaits_ack t x) (is_last_awaited t x)
ack_here f x number t e = go (awaits_ack t x) refl
  where
    now : open_at (acked f x number) number ≡ Some (changed_if (acknowledged x) t (awaits_ack t x))
    now = changed_here f.transactions number (λ t. changed_if (acknowledged x) t (awaits_ack t x)) (ack_keeps x) t e

    ends : awaits_ack t x ≡ true → (last : Bool) → open_at (noted None (acked f x number) (only_if (line.Done f.me (view_key f) t.number) last)) number ≡ ack_next t x true last
    ends i true =
        ap (λ (y : ℕ). transaction (transactions.without_transaction (acked f x number).transactions y) number) (found_number f.transactions.running number t e)
        ∙ find_closed (acked f x number).transactions.running number
    ends i false = now ∙ ap (λ (b : Bool). Some (changed_if (acknowledged x) t b)) i

    go : (b : Bool) → awaits_ack t x ≡ b → open_at (noted None (acked f x number) (if b then lines_only (only_if (line.Done f.me (view_key f) t.number) (is_last_awaited t x)) else spent f).lines) number ≡ ack_next t x b (is_last_awaited t x)
    go true i = ends i (is_last_awaited t x)
    go false i = now ∙ ap (λ (b : Bool). Some (changed_if (acknowledged x) t b)) i

ack_gone : (f : Facts) (x number : ℕ) → open_at f number ≡ None → open_at (noted None (acked f x number) (due.ack_of f x None).lines) number ≡ None
ack_gone f x number e = changed_none f.transactions number number (λ t. changed_if (acknowledged x) t (awaits_ack t x)) (ack_keeps x) e

ack_other : (f : Facts) (x number at : ℕ) → (at == number) ≡ false → (o : Option Transaction) → open_at f at ≡ o → open_at (noted None (acked f x at) (due.ack_of f x o).lines) number ≡ open_at f number
ack_other f x number at d None e = changed_other f.transactions number at (λ t. changed_if (acknowledged x) t (awaits_ack t x)) (ack_keeps x) d
ack_other f x number at d (Some t) e = go (awaits_ack t x)
  where
    other : open_at (acked f x at) number ≡ open_at f number
    other = changed_other f.transactions number at (λ t. changed_if (acknowledged x) t (awaits_ack t x)) (ack_keeps x) d

    ends : (last : Bool) → open_at (noted None (acked f x at) (only_if (line.Done f.me (view_key f) t.number) last)) number ≡ open_at f number
    ends true = find_other (acked f x at).transactions.running number t.number (ap (λ (y : ℕ). y == number) (found_number f.transactions.running at t e) ∙ d) ∙ other
    ends false = other

    go : (b : Bool) → open_at (noted None (acked f x at) (if b then lines_only (only_if (line.Done f.me (view_key f) t.number) (is_last_awaited t x)) else spent f).lines) number ≡ open_at f number
    go true = ends (is_last_awaited t x)
    go false = other

-- ---- an answer

answer_keeps : (f : Facts) (x : ℕ) (v : Option Version) → Keeps (λ t. changed_if (answered f.store.by x v) t (awaits_answer t x))
answer_keeps f x v t = go (awaits_answer t x)
  where
    go : (b : Bool) → (changed_if (answered f.store.by x v) t b).number ≡ t.number
    go true = refl
    go false = refl

abbrev replied : Facts → ℕ → ℕ → Option Version → Facts
replied f x number v = notes.answer_came f x number v true

answer_gone : (f : Facts) (c x number : ℕ) (v : Option Version) → open_at f number ≡ None → open_at (noted None (replied f x number v) (due.answer_of f c x v None).lines) number ≡ None
answer_gone f c x number v e = changed_none f.transactions number number (λ t. changed_if (answered f.store.by x v) t (awaits_answer t x)) (answer_keeps f x v) e

-- numbers of a list, in two words
to_contains : (xs : List ℕ) (x : ℕ) → Among xs x → Contains xs x
to_contains [] x h = absurd h
to_contains (y ∷ xs) x (inl e) = Contains-append_left (y ∷ []) xs x (subst (λ (z : ℕ). Contains (y ∷ []) z) e (Contains-push [] y))
to_contains (y ∷ xs) x (inr h) = Contains-append_right (y ∷ []) xs x (to_contains xs x h)

none_contained : (x : ℕ) → Contains [] x → ⊥
none_contained x c = omega (arith, c.1)

from_contains : (xs : List ℕ) (x : ℕ) → Contains xs x → Among xs x
from_contains [] x c = none_contained x c
from_contains (y ∷ xs) x c = go (Contains-append_cases (y ∷ []) xs x c) (from_contains xs x)
  where
    head : Contains [] x ⊎ (y ≡ x) → (y ≡ x) ⊎ Among xs x
    head (inl n) = absurd (none_contained x n)
    head (inr e) = inl e

    go : Contains (y ∷ []) x ⊎ Contains xs x → (Contains xs x → Among xs x) → (y ≡ x) ⊎ Among xs x
    go (inl h) rest = head (Contains-push_cases [] y x h)
    go (inr h) rest = inr (rest h)

among_taken : (k : ℕ) (xs : List ℕ) (x : ℕ) → Contains (take k xs) x → Contains xs x
among_taken k xs x c = subst (λ (ys : List ℕ). Contains ys x) (take-append-drop k xs) (Contains-append_left (take k xs) (drop k xs) x c)

-- who is to acknowledge a write is another member
replica_member : (f : Facts) (p x : ℕ) → contains (other_replicas f (list_at f p)) x ≡ true → (contains (ids_of (members_of_view f)) x ≡ true) × (x ≡ f.me → ⊥)
replica_member f p x e = (
  among_contains (ids_of (members_of_view f)) x
      (from_contains (ids_of (members_of_view f)) x
      ((list_contains (members_of_view f) p x).0
      (among_taken f.factor (list_at f p) x
      (to_contains (replicas (list_at f p) f.factor) x
      (contains_among (replicas (list_at f p) f.factor) x (in_without (replicas (list_at f p) f.factor) f.me x e)))))),
  not_gone (replicas (list_at f p) f.factor) f.me x e,
)

pub to_each_among : (ns : List ℕ) (y : ℕ) (m : Message) → Among ns y → Among (to_each ns m) (y, m)
to_each_among [] y m h = absurd h
to_each_among (n ∷ ns) y m (inl e) = inl (ap (λ (z : ℕ). (z, m)) e)
to_each_among (n ∷ ns) y m (inr h) = inr (to_each_among ns y m h)

module _ (f : Facts) (c x number : ℕ) (v : Option Version) (k : ClusterKey) (view : view_key f ≡ k) where
  abbrev Ended : Transaction → List Line → List (ℕ × Message) → Type 0
  Ended t ls ms = MovesOn k number f x ms (Some t) (open_at (noted None (replied f x number v) ls) number)

  answered_now : (t : Transaction) → open_at f number ≡ Some t → awaits_answer t x ≡ true → open_at (replied f x number v) number ≡ Some (answered f.store.by x v t)
  answered_now t e i =
      changed_here f.transactions number (λ t. changed_if (answered f.store.by x v) t (awaits_answer t x)) (answer_keeps f x v) t e
      ∙ ap (λ (b : Bool). Some (changed_if (answered f.store.by x v) t b)) i

  written_end : (t : Transaction) → open_at f number ≡ Some t → awaits_answer t x ≡ true → (ver : Version) → Ended t (writing f (list_at f (partition_of t.digest)) (answered f.store.by x v t) ver).lines (writing f (list_at f (partition_of t.digest)) (answered f.store.by x v t) ver).sends
  written_end t e i ver = go (is_nil (other_replicas f (list_at f (partition_of t.digest)))) refl
    where
      unwritten : (b c : Bool) → (not b && c) ≡ true → b ≡ false
      unwritten true c e = differ refl (sym e)
      unwritten false c e = refl

      onward : (b : Bool) → is_nil (other_replicas f (list_at f (partition_of t.digest))) ≡ b
          → open_at (noted None (replied f x number v) (line.Apply f.me (view_key f) t.number t.digest ver ∷ only_if (line.Done f.me (view_key f) t.number) b)) number
          ≡ cond b None (Some (transactions.with_write ver (notes.next_nth f (partition_of t.digest)) (other_replicas f (list_at f (partition_of t.digest))) (answered f.store.by x v t)))
      onward true n =
          ap (λ (y : ℕ). transaction (transactions.without_transaction (transactions.changing (replied f x number v).transactions t.number (transactions.with_write ver (notes.next_nth f (partition_of t.digest)) (other_replicas f (list_at f (partition_of t.digest))))) y) number) (found_number f.transactions.running number t e)
          ∙ find_closed (transactions.changing (replied f x number v).transactions t.number (transactions.with_write ver (notes.next_nth f (partition_of t.digest)) (other_replicas f (list_at f (partition_of t.digest))))).running number
      onward false n =
          ap (λ (y : ℕ). transaction (transactions.changing (replied f x number v).transactions y (transactions.with_write ver (notes.next_nth f (partition_of t.digest)) (other_replicas f (list_at f (partition_of t.digest))))) number) (found_number f.transactions.running number t e)
          ∙ changed_here (replied f x number v).transactions number (transactions.with_write ver (notes.next_nth f (partition_of t.digest)) (other_replicas f (list_at f (partition_of t.digest)))) (λ s. refl) (answered f.store.by x v t) (answered_now t e i)

      go : (b : Bool) → is_nil (other_replicas f (list_at f (partition_of t.digest))) ≡ b
          → Ended t (line.Apply f.me (view_key f) t.number t.digest ver ∷ only_if (line.Done f.me (view_key f) t.number) b) (writing f (list_at f (partition_of t.digest)) (answered f.store.by x v t) ver).sends
      go true n = inl (onward true n)
      go false n = inr (inr (record {
        was = t;
        now = transactions.with_write ver (notes.next_nth f (partition_of t.digest)) (other_replicas f (list_at f (partition_of t.digest))) (answered f.store.by x v t);
        before = refl;
        after = onward false n;
        waiting = unwritten (is_some t.applied) (contains t.awaiting x) i;
        applied = refl;
        some = n;
        members = λ y e. replica_member f (partition_of t.digest) y e;
        write = repl f (answered f.store.by x v t) (record { version = ver; nth = notes.next_nth f (partition_of t.digest) });
        writes = (view, found_number f.transactions.running number t e);
        goes = λ y e. to_each_among (other_replicas f (list_at f (partition_of t.digest))) y _ (contains_among (other_replicas f (list_at f (partition_of t.digest))) y e);
      }))

  resolved_end : (t : Transaction) → open_at f number ≡ Some t → awaits_answer t x ≡ true → (w : Want)
      → Ended t (resolving_want f c (list_at f (partition_of t.digest)) (answered f.store.by x v t) w).lines (resolving_want f c (list_at f (partition_of t.digest)) (answered f.store.by x v t) w).sends
  resolved_end t e i want.Get =
      inl (ap (λ (y : ℕ). transaction (transactions.without_transaction (replied f x number v).transactions y) number) (found_number f.transactions.running number t e) ∙ find_closed (replied f x number v).transactions.running number)
  resolved_end t e i (want.Put bytes) = written_end t e i (next (answered f.store.by x v t).best c (body.Value bytes))
  resolved_end t e i want.Del = written_end t e i (next (answered f.store.by x v t).best c body.Tombstone)

  -- what an answer makes of the transaction that awaits it
  answer_awaited : (t : Transaction) → open_at f number ≡ Some t → awaits_answer t x ≡ true → Ended t (due.answer_of f c x v (Some t)).lines (due.answer_of f c x v (Some t)).sends
  answer_awaited t e i = subst (λ (b : Bool). Ended t (if b then (if is_last_awaited t x then resolving f c (list_at f (partition_of (answered f.store.by x v t).digest)) (answered f.store.by x v t) else nothing) else spent f).lines (if b then (if is_last_awaited t x then resolving f c (list_at f (partition_of (answered f.store.by x v t).digest)) (answered f.store.by x v t) else nothing) else spent f).sends) (sym i) (last (is_last_awaited t x) refl)
    where
      last : (b : Bool) → is_last_awaited t x ≡ b → Ended t (if b then resolving f c (list_at f (partition_of (answered f.store.by x v t).digest)) (answered f.store.by x v t) else nothing).lines (if b then resolving f c (list_at f (partition_of (answered f.store.by x v t).digest)) (answered f.store.by x v t) else nothing).sends
      last true n = resolved_end t e i t.want
      last false n = inr (inl (record { was = t; now = answered f.store.by x v t; before = refl; after = answered_now t e i; applied = refl; awaiting = refl; some = n }))

  -- and of one that doesn't
  answer_spent : (t : Transaction) → open_at f number ≡ Some t → awaits_answer t x ≡ false → open_at (noted None (replied f x number v) (due.answer_of f c x v (Some t)).lines) number ≡ Some t
  answer_spent t e i =
      subst (λ (b : Bool). open_at (noted None (replied f x number v) (if b then (if is_last_awaited t x then resolving f c (list_at f (partition_of (answered f.store.by x v t).digest)) (answered f.store.by x v t) else nothing) else spent f).lines) number ≡ Some t) (sym i)
      (changed_here f.transactions number (λ t. changed_if (answered f.store.by x v) t (awaits_answer t x)) (answer_keeps f x v) t e
      ∙ ap (λ (b : Bool). Some (changed_if (answered f.store.by x v) t b)) i)

  answer_here : (t : Transaction) → open_at f number ≡ Some t → Turns k number f x (due.answer_of f c x v (Some t)).sends (Some t) (open_at (noted None (replied f x number v) (due.answer_of f c x v (Some t)).lines) number)
  answer_here t e = go (awaits_answer t x) refl
    where
      go : (b : Bool) → awaits_answer t x ≡ b → Turns k number f x (due.answer_of f c x v (Some t)).sends (Some t) (open_at (noted None (replied f x number v) (due.answer_of f c x v (Some t)).lines) number)
      go true i = inr (answer_awaited t e i)
      go false i = inl (answer_spent t e i)

-- of another number it leaves the transaction
answer_other : (f : Facts) (c x at : ℕ) (v : Option Version) (number : ℕ) → (at == number) ≡ false → (o : Option Transaction) → open_at f at ≡ o → open_at (noted None (replied f x at v) (due.answer_of f c x v o).lines) number ≡ open_at f number
answer_other f c x at v number d o e = go o e
  where
    other : open_at (replied f x at v) number ≡ open_at f number
    other = changed_other f.transactions number at (λ t. changed_if (answered f.store.by x v) t (awaits_answer t x)) (answer_keeps f x v) d

    apart : (t : Transaction) → open_at f at ≡ Some t → (t.number == number) ≡ false
    apart t i = ap (λ (y : ℕ). y == number) (found_number f.transactions.running at t i) ∙ d

    done : (h : Facts) (t : Transaction) (b : Bool) → open_at f at ≡ Some t → open_at h number ≡ open_at f number → open_at (noted None h (only_if (line.Done f.me (view_key f) t.number) b)) number ≡ open_at f number
    done h t true i s = find_other h.transactions.running number t.number (apart t i) ∙ s
    done h t false i s = s

    written : (t : Transaction) (ver : Version) → open_at f at ≡ Some t → open_at (noted None (replied f x at v) (writing f (list_at f (partition_of t.digest)) (answered f.store.by x v t) ver).lines) number ≡ open_at f number
    written t ver i =
        done (note None (replied f x at v) (line.Apply f.me (view_key f) t.number t.digest ver)) t (is_nil (other_replicas f (list_at f (partition_of t.digest)))) i
        (changed_other (replied f x at v).transactions number t.number (transactions.with_write ver (notes.next_nth f (partition_of t.digest)) (other_replicas f (list_at f (partition_of t.digest)))) (λ s. refl) (apart t i) ∙ other)

    resolved : (t : Transaction) → open_at f at ≡ Some t → (w : Want) → open_at (noted None (replied f x at v) (resolving_want f c (list_at f (partition_of t.digest)) (answered f.store.by x v t) w).lines) number ≡ open_at f number
    resolved t i want.Get = find_other (replied f x at v).transactions.running number t.number (apart t i) ∙ other
    resolved t i (want.Put bytes) = written t (next (answered f.store.by x v t).best c (body.Value bytes)) i
    resolved t i want.Del = written t (next (answered f.store.by x v t).best c body.Tombstone) i

    last : (t : Transaction) → open_at f at ≡ Some t → (b : Bool) → open_at (noted None (replied f x at v) (if b then resolving f c (list_at f (partition_of (answered f.store.by x v t).digest)) (answered f.store.by x v t) else nothing).lines) number ≡ open_at f number
    last t i true = resolved t i t.want
    last t i false = other

    awaited : (t : Transaction) → open_at f at ≡ Some t → (b : Bool) → open_at (noted None (replied f x at v) (if b then (if is_last_awaited t x then resolving f c (list_at f (partition_of (answered f.store.by x v t).digest)) (answered f.store.by x v t) else nothing) else spent f).lines) number ≡ open_at f number
    awaited t i true = last t i (is_last_awaited t x)
    awaited t i false = other

    go : (o : Option Transaction) → open_at f at ≡ o → open_at (noted None (replied f x at v) (due.answer_of f c x v o).lines) number ≡ open_at f number
    go None i = other
    go (Some t) i = awaited t i (awaits_answer t x)

-- ---- one act

ack_turns : (k : ClusterKey) (f : Facts) (x number : ℕ) (ms : List (ℕ × Message)) (o : Option Transaction) → open_at f number ≡ o → Turns k number f x ms o (open_at (noted None (acked f x number) (due.ack_of f x o).lines) number)
ack_turns k f x number ms None e = inl (ack_gone f x number e)
ack_turns k f x number ms (Some t) e = go (awaits_ack t x) refl (is_last_awaited t x) refl
  where
    go : (b : Bool) → awaits_ack t x ≡ b → (last : Bool) → is_last_awaited t x ≡ last → Turns k number f x ms (Some t) (open_at (noted None (acked f x number) (due.ack_of f x (Some t)).lines) number)
    go false i last n = inl (ack_here f x number t e ∙ ap (λ (b : Bool). ack_next t x b (is_last_awaited t x)) i)
    go true i true n = inr (inl (ack_here f x number t e ∙ ap (λ (b : Bool). ack_next t x b (is_last_awaited t x)) i ∙ ap (λ (b : Bool). ack_next t x true b) n))
    go true i false n =
        inr (inr (inl (record {
          was = t;
          now = acknowledged x t;
          before = refl;
          after = ack_here f x number t e ∙ ap (λ (b : Bool). ack_next t x b (is_last_awaited t x)) i ∙ ap (λ (b : Bool). ack_next t x true b) n;
          applied = refl;
          awaiting = refl;
          some = n;
        })))

answer_turns : (c : ℕ) (k : ClusterKey) (f : Facts) → view_key f ≡ k → (x number : ℕ) (v : Option Version) (o : Option Transaction) → open_at f number ≡ o → Turns k number f x (due.answer_of f c x v o).sends o (open_at (noted None (replied f x number v) (due.answer_of f c x v o).lines) number)
answer_turns c k f view x number v None e = inl (answer_gone f c x number v e)
answer_turns c k f view x number v (Some t) e = answer_here f c x number v k view t e

module _ (n c : ℕ) (k : ClusterKey) (f : Facts) (view : view_key f ≡ k) (x number : ℕ) where
  came_ack : (key : ClusterKey) (at : ℕ) (b : Bool) → Turns k number f x (if b then ack_of f x (transaction f.transactions at) else stale f).sends (open_at f number) (open_at (noted None (notes.write_acked f x at b) (if b then ack_of f x (transaction f.transactions at) else stale f).lines) number)
  came_ack key at false = inl refl
  came_ack key at true = go (at == number) refl
    where
      go : (b : Bool) → (at == number) ≡ b → Turns k number f x (due.ack_of f x (open_at f at)).sends (open_at f number) (open_at (noted None (acked f x at) (due.ack_of f x (open_at f at)).lines) number)
      go true e = subst (λ (y : ℕ). Turns k number f x (due.ack_of f x (open_at f y)).sends (open_at f number) (open_at (noted None (acked f x y) (due.ack_of f x (open_at f y)).lines) number)) (sym (num_same at number e)) (ack_turns k f x number (due.ack_of f x (open_at f number)).sends (open_at f number) refl)
      go false e = inl (ack_other f x number at e (open_at f at) refl)

  came_answer : (key : ClusterKey) (at : ℕ) (v : Option Version) (b : Bool) → Turns k number f x (if b then answer_of f c x v (transaction f.transactions at) else stale f).sends (open_at f number) (open_at (noted None (notes.answer_came f x at v b) (if b then answer_of f c x v (transaction f.transactions at) else stale f).lines) number)
  came_answer key at v false = inl refl
  came_answer key at v true = go (at == number) refl
    where
      go : (b : Bool) → (at == number) ≡ b → Turns k number f x (due.answer_of f c x v (open_at f at)).sends (open_at f number) (open_at (noted None (replied f x at v) (due.answer_of f c x v (open_at f at)).lines) number)
      go true e = subst (λ (y : ℕ). Turns k number f x (due.answer_of f c x v (open_at f y)).sends (open_at f number) (open_at (noted None (replied f x y v) (due.answer_of f c x v (open_at f y)).lines) number)) (sym (num_same at number e)) (answer_turns c k f view x number v (open_at f number) refl)
      go false e = inl (answer_other f c x at v number e (open_at f at) refl)

  -- what a message that isn't of agreement makes of the transaction of a number
  pub acted_opens : (m : Message) → is_agreeing (kind m) ≡ false → Turns k number f x (due_message_of n f c x m).sends (open_at f number) (open_at (acted n c f (Gets x m)) number)
  acted_opens m free =
      subst (λ (ts : Transactions). Turns k number f x (due_message_of n f c x m).sends (open_at f number) (transaction ts number)) (sym (all_sent_idle (noted None (reached f x m) (due_message_of n f c x m).lines) (as_read (due_message_of n f c x m).sends)))
      (by_kind m free)
    where
      by_kind : (m : Message) → is_agreeing (kind m) ≡ false → Turns k number f x (due_message_of n f c x m).sends (open_at f number) (open_at (noted None (reached f x m) (due_message_of n f c x m).lines) number)
      by_kind (message.ReplAck key at) free = came_ack key at (in_view f key)
      by_kind (message.Answer key at v) free = came_answer key at v (in_view f key)
      by_kind m free = go (is_answer m) refl
        where
          go : (b : Bool) → is_answer m ≡ b → Turns k number f x (due_message_of n f c x m).sends (open_at f number) (open_at (noted None (reached f x m) (due_message_of n f c x m).lines) number)
          go true e = differ e refl
          go false e = inl (ap (λ (ts : Transactions). transaction ts number) (lines_idle n c f x m free e))

-- ---- what an answer and an acknowledgement give

awaits_not : (b c : Bool) → (not b && c) ≡ false → b ≡ false → c ≡ false
awaits_not true c e i = differ refl i
awaits_not false c e i = e

heard_ends : (k : ClusterKey) (number : ℕ) (f : Facts) (x : ℕ) (ms : List (ℕ × Message)) (o z : Option Transaction) → MovesOn k number f x ms o z → Such (HeardFrom x) z
heard_ends k number f x ms o z (inl e) = subst (λ (o : Option Transaction). Such (HeardFrom x) o) (sym e) tt
heard_ends k number f x ms o z (inr (inl s)) =
    subst (λ (o : Option Transaction). Such (HeardFrom x) o) (sym s.after) (λ i. ap (λ (ys : List ℕ). contains ys x) s.awaiting ∙ without_itself s.was.awaiting x)
heard_ends k number f x ms o z (inr (inr r)) = subst (λ (o : Option Transaction). Such (HeardFrom x) o) (sym r.after) (λ i. differ r.applied i)

heard_here : (f : Facts) (c x number : ℕ) (v : Option Version) (k : ClusterKey) → view_key f ≡ k → (o : Option Transaction) → open_at f number ≡ o → Such (HeardFrom x) (open_at (noted None (replied f x number v) (due.answer_of f c x v o).lines) number)
heard_here f c x number v k view None e = subst (λ (o : Option Transaction). Such (HeardFrom x) o) (sym (answer_gone f c x number v e)) tt
heard_here f c x number v k view (Some t) e = go (awaits_answer t x) refl
  where
    go : (b : Bool) → awaits_answer t x ≡ b → Such (HeardFrom x) (open_at (noted None (replied f x number v) (due.answer_of f c x v (Some t)).lines) number)
    go true i = heard_ends k number f x (due.answer_of f c x v (Some t)).sends (Some t) (open_at (noted None (replied f x number v) (due.answer_of f c x v (Some t)).lines) number) (answer_awaited f c x number v k view t e i)
    go false i = subst (λ (o : Option Transaction). Such (HeardFrom x) o) (sym (answer_spent f c x number v k view t e i)) (λ j. awaits_not (is_some t.applied) (contains t.awaiting x) i j)

lost_here : (f : Facts) (x number : ℕ) (o : Option Transaction) → open_at f number ≡ o → (S : ℕ → Type 0) → Such (Awaits true S) o → Such (Lost x) (open_at (noted None (acked f x number) (due.ack_of f x o).lines) number)
lost_here f x number None e S h = subst (λ (o : Option Transaction). Such (Lost x) o) (sym (ack_gone f x number e)) tt
lost_here f x number (Some t) e S h = subst (λ (o : Option Transaction). Such (Lost x) o) (sym (ack_here f x number t e)) (go (awaits_ack t x) refl (is_last_awaited t x))
  where
    applied_and : (a b : Bool) → (a && b) ≡ false → a ≡ true → b ≡ false
    applied_and true b i j = i
    applied_and false b i j = differ j refl

    go : (b : Bool) → awaits_ack t x ≡ b → (last : Bool) → Such (Lost x) (ack_next t x b last)
    go false i last = applied_and (is_some t.applied) (contains t.awaiting x) i h.applied
    go true i true = tt
    go true i false = without_itself t.awaiting x

module _ (n c : ℕ) (k : ClusterKey) (f : Facts) (seen : in_view f k ≡ true) (view : view_key f ≡ k) (x number : ℕ) where
  pub acted_heard : (v : Option Version) → Such (HeardFrom x) (open_at (acted n c f (Gets x (message.Answer k number v))) number)
  acted_heard v =
      let m : Message = message.Answer k number v in
      subst (λ (ts : Transactions). Such (HeardFrom x) (transaction ts number)) (sym (all_sent_idle (noted None (reached f x m) (due_message_of n f c x m).lines) (as_read (due_message_of n f c x m).sends)))
      (subst (λ (b : Bool). Such (HeardFrom x) (open_at (noted None (notes.answer_came f x number v b) (if b then answer_of f c x v (transaction f.transactions number) else stale f).lines) number)) (sym seen) (heard_here f c x number v k view (open_at f number) refl))

  pub acted_lost : (S : ℕ → Type 0) → Such (Awaits true S) (open_at f number) → Such (Lost x) (open_at (acted n c f (Gets x (message.ReplAck k number))) number)
  acted_lost S h =
      let m : Message = message.ReplAck k number in
      subst (λ (ts : Transactions). Such (Lost x) (transaction ts number)) (sym (all_sent_idle (noted None (reached f x m) (due_message_of n f c x m).lines) (as_read (due_message_of n f c x m).sends)))
      (subst (λ (b : Bool). Such (Lost x) (open_at (noted None (notes.write_acked f x number b) (if b then ack_of f x (transaction f.transactions number) else stale f).lines) number)) (sym seen) (lost_here f x number (open_at f number) refl S h))
