-- What of a node's facts says whom it sends to, and that each line and each message keeps it.
use Rattle.std.proofs.Common.{◌≡◌, ℕ, zero, suc, ◌==◌, ◌⊎◌, inl, inr, ⊎_elim, Bool, true, false, cond, not, ◌&&◌, ◌||◌, List, [], ◌∷◌, ◌++◌, take, Option, Some, None, map, refl, sym, ap, subst, ◌∙◌, if◌then◌else◌}
use Rattle.std.specs.Prelude.{find, filter}
use Rattle.conflict_order.specs.declared.want.Want.{Want}
use Rattle.cluster_types.specs.declared.cluster_key.ClusterKey.{ClusterKey}
use Rattle.cluster_types.specs.declared.copy_state.CopyState.{CopyState}
use Rattle.cluster_types.specs.declared.member.Member.{Member}
use Rattle.cluster_types.specs.Distinct.{without}
use Rattle.cluster_types.specs.Members.{ids_of}
use Rattle.cluster_types.specs.Partitions.{partition_of}
use Rattle.partition_lists.specs.Lists.{list, replicas}
use Rattle.partition_lists.proofs.ListLaws.{list_contains, any_is_contained}
use Rattle.partition_lists.specs.Classes.{same_class_by, is_first_by, is_that}
use Rattle.wire_messages.specs.declared.message.Batch.{Batch}
use Rattle.wire_messages.specs.declared.message.Message.{Message}
use Rattle.wire_messages.specs.declared.message.Message.TheVariants as message
use Rattle.journal_lines.specs.declared.line.Line.{Line}
use Rattle.journal_lines.specs.declared.line.Line.TheVariants as line
use Rattle.node_rules.specs.Agreement as agreement
use Rattle.node_rules.specs.Agreement.{Proposal, proposes, proposal_of}
use Rattle.node_rules.specs.Batches as batches
use Rattle.node_rules.specs.Batches.{Target, Targets}
use Rattle.node_rules.specs.Exchange.{View, is_member, members_of}
use Rattle.node_rules.specs.Facts.{Facts, view_key, members_of_view, list_at}
use Rattle.node_rules.specs.Map.{row_state_at, list_master}
use Rattle.node_rules.specs.Notes.{note, reached, sent, in_view, target_for}
use Rattle.node_rules.specs.Notes as notes
use Rattle.node_rules.specs.Senders.{view_key_of}
use Rattle.node_rules.specs.Standing.{others, other_replicas, asked, asked_by_known, knows_settled}
use Rattle.node_rules.specs.Tables.{contains, changed_if}
use Rattle.node_rules.specs.Transactions as transactions
use Rattle.node_rules.specs.Transactions.{Transaction, Transactions}
use Rattle.key_laws.specs.Addressed.{Addressed, AddressedIf, GoesBetween}
use Rattle.key_laws.specs.Sound.{NodeKeys, ViewStands, Grows}
use Rattle.key_laws.specs.Traced.{Traced}
use Rattle.key_laws.proofs.Frames.{num_same, num_eq, num_differ, never}
pub use Rattle.std.proofs.lemmas.Bool.{or_left, or_right}
pub use Rattle.cluster_types.proofs.BoolFacts.{or_cases, and_left, and_right}

-- ---- lists of nodes

pub differ : {A : Type 0} {b : Bool} → b ≡ true → b ≡ false → A
differ p q = absurd (never p q)

-- the first are all among the second
pub record Among (os ns : List ℕ) : Type 0 where
  pub each : (n : ℕ) → contains ns n ≡ true → contains os n ≡ true

pub member_id : (ms : List Member) (n : ℕ) → contains (ids_of ms) n ≡ is_member ms n
member_id [] n = refl
member_id (m ∷ ms) n = ap (λ b. (m.id == n) || b) (member_id ms n)

pub in_without : (xs : List ℕ) (a b : ℕ) → contains (without xs a) b ≡ true → contains xs b ≡ true
in_without [] a b e = e
in_without (x ∷ xs) a b e = go (x == a) (in_without xs a b) e
  where
    go : (c : Bool) → (contains (without xs a) b ≡ true → contains xs b ≡ true) → contains (cond (not c) (x ∷ without xs a) (without xs a)) b ≡ true → contains (x ∷ xs) b ≡ true
    go true rest z = or_right (x == b) (contains xs b) (rest z)
    go false rest z = ⊎_elim (λ q. or_left (x == b) (contains xs b) q) (λ q. or_right (x == b) (contains xs b) (rest q)) (or_cases (x == b) (contains (without xs a) b) z)

-- what is in the list without one isn't that one
pub not_gone : (xs : List ℕ) (a b : ℕ) → contains (without xs a) b ≡ true → b ≡ a → ⊥
not_gone [] a b e same = differ refl (sym e)
not_gone (x ∷ xs) a b e same = go (x == a) refl (not_gone xs a b) e
  where
    go : (c : Bool) → (x == a) ≡ c → (contains (without xs a) b ≡ true → b ≡ a → ⊥) → contains (cond (not c) (x ∷ without xs a) (without xs a)) b ≡ true → ⊥
    go true i rest z = rest z same
    go false i rest z = ⊎_elim (λ q. num_differ x a i (num_same x b q ∙ same)) (λ q. rest q same) (or_cases (x == b) (contains (without xs a) b) z)

pub to_without : (xs : List ℕ) (a b : ℕ) → contains xs b ≡ true → (b ≡ a → ⊥) → contains (without xs a) b ≡ true
to_without [] a b e apart = e
to_without (x ∷ xs) a b e apart = go (x == a) refl (or_cases (x == b) (contains xs b) e) (λ z. to_without xs a b z apart)
  where
    go : (c : Bool) → (x == a) ≡ c → ((x == b) ≡ true) ⊎ (contains xs b ≡ true) → (contains xs b ≡ true → contains (without xs a) b ≡ true)
        → contains (cond (not c) (x ∷ without xs a) (without xs a)) b ≡ true
    go true i (inl z) rest = absurd (apart (sym (num_same x b z) ∙ num_same x a i))
    go true i (inr z) rest = rest z
    go false i (inl z) rest = or_left (x == b) (contains (without xs a) b) z
    go false i (inr z) rest = or_right (x == b) (contains (without xs a) b) (rest z)

taken : (f : ℕ) (l : List ℕ) (n : ℕ) → contains (take f l) n ≡ true → contains l n ≡ true
taken zero l n e = differ refl (sym e)
taken (suc f) [] n e = e
taken (suc f) (m ∷ l) n e = ⊎_elim (λ z. or_left (m == n) (contains l n) z) (λ z. or_right (m == n) (contains l n) (taken f l n z)) (or_cases (m == n) (contains (take f l) n) e)

pub listed_member : (ms : List Member) (p n : ℕ) → contains (list ms p) n ≡ true → contains (ids_of ms) n ≡ true
listed_member ms p n e = (any_is_contained n (ids_of ms)).1 ((list_contains ms p n).0 ((any_is_contained n (list ms p)).0 e))

-- of a list over the members, the nodes but one are others
pub list_others : (me : ℕ) (ms : List Member) (p n : ℕ) → contains (list ms p) n ≡ true → (n ≡ me → ⊥) → contains (agreement.others_among me ms) n ≡ true
list_others me ms p n e apart = to_without (ids_of ms) me n (listed_member ms p n e) apart

pub in_filter : (test : ℕ → Bool) (xs : List ℕ) (n : ℕ) → contains (filter test xs) n ≡ true → (contains xs n ≡ true) × (test n ≡ true)
in_filter test [] n e = differ refl (sym e)
in_filter test (x ∷ xs) n e = go (test x) refl (in_filter test xs n) e
  where
    go : (c : Bool) → test x ≡ c → (contains (filter test xs) n ≡ true → (contains xs n ≡ true) × (test n ≡ true)) → contains (cond c (x ∷ filter test xs) (filter test xs)) n ≡ true
        → (contains (x ∷ xs) n ≡ true) × (test n ≡ true)
    go true i rest z = ⊎_elim (λ q. (or_left (x == n) (contains xs n) q, subst (λ (m : ℕ). test m ≡ true) (num_same x n q) i)) (λ q. (or_right (x == n) (contains xs n) (rest q).0, (rest q).1)) (or_cases (x == n) (contains (filter test xs) n) z)
    go false i rest z = (or_right (x == n) (contains xs n) (rest z).0, (rest z).1)

-- ---- whom a request asks

found_holds : (test : ℕ → Bool) (xs : List ℕ) (n : ℕ) → is_that (find test xs) n ≡ true → test n ≡ true
found_holds test [] n e = differ refl (sym e)
found_holds test (x ∷ xs) n e = go (test x) refl (found_holds test xs n) e
  where
    go : (c : Bool) → test x ≡ c → (is_that (find test xs) n ≡ true → test n ≡ true) → is_that (cond c (Some x) (find test xs)) n ≡ true → test n ≡ true
    go true i rest z = subst (λ (m : ℕ). test m ≡ true) (num_same x n z) i
    go false i rest z = rest z

-- nobody asks itself
asks_others : (l : List ℕ) (state : ℕ → CopyState) (me n : ℕ) → (is_first_by l state n && not (same_class_by state me n)) ≡ true → n ≡ me → ⊥
asks_others l state me n e same =
    let first : same_class_by state n n ≡ true = found_holds (same_class_by state n) l n (and_left (is_first_by l state n) _ e) in
    let apart : not (same_class_by state me n) ≡ true = and_right (is_first_by l state n) _ e in
    never (subst (λ (m : ℕ). same_class_by state m n ≡ true) same first) (not_true (same_class_by state me n) apart)
  where
    not_true : (b : Bool) → not b ≡ true → b ≡ false
    not_true true e = differ refl (sym e)
    not_true false e = refl

pub asked_among_others : (f : Facts) (p : ℕ) → Among (others f) (asked f (list_at f p) p)
asked_among_others f p = record { each = λ n e. go (knows_settled f p) n e }
  where
    go : (b : Bool) (n : ℕ) → contains (asked_by_known b (list_at f p) f.exchange.rows p f.me) n ≡ true → contains (others f) n ≡ true
    go true n e = differ refl (sym e)
    go false n e =
        let found = in_filter (λ m. is_first_by (list_at f p) (row_state_at f.exchange.rows p) m && not (same_class_by (row_state_at f.exchange.rows p) f.me m)) (list_at f p) n e in
        list_others f.me (members_of_view f) p n found.0 (asks_others (list_at f p) (row_state_at f.exchange.rows p) f.me n found.1)

pub replicas_among_others : (f : Facts) (p : ℕ) → Among (others f) (other_replicas f (list_at f p))
replicas_among_others f p = record {
  each = λ n e.
      list_others f.me (members_of_view f) p n (taken f.factor (list_at f p) n (in_without (replicas (list_at f p) f.factor) f.me n e)) (not_gone (replicas (list_at f p) f.factor) f.me n e);
}

pub among_without : (os ns : List ℕ) (a : ℕ) → Among os ns → Among os (without ns a)
among_without os ns a h = record { each = λ n e. h.each n (in_without ns a n e) }

pub none_among : (os : List ℕ) → Among os []
none_among os = record { each = λ n e. differ refl (sym e) }

-- ---- a node

abbrev pub OutGoes : Traced → ℕ → ℕ → Option Batch → Type 0
OutGoes t me to None = Unit {0}
OutGoes t me to (Some b) = Addressed t me to b.key

pub record TargetGoes (t : Traced) (me : ℕ) (os : List ℕ) (x : Target) : Type 0 where
  pub other : contains os x.node ≡ true
  pub out : OutGoes t me x.node x.out

abbrev pub TargetsGo : Traced → ℕ → List ℕ → Targets → Type 0
TargetsGo t me os [] = Unit {0}
TargetsGo t me os (x ∷ xs) = TargetGoes t me os x × TargetsGo t me os xs

abbrev pub AllAwait : List ℕ → List Transaction → Type 0
AllAwait os [] = Unit {0}
AllAwait os (x ∷ xs) = Among os x.awaiting × AllAwait os xs

-- whom a node sends batches, and whose answers it awaits, are other members of its view
pub record NodeGoes (t : Traced) (f : Facts) : Type 0 where
  pub targets : TargetsGo t f.me (others f) f.batches
  pub waits : AllAwait (others f) f.transactions.running

pub addressed_grows : (t u : Traced) → Grows t u → (a b : ℕ) (k : ClusterKey) → Addressed t a b k → Addressed u a b k
addressed_grows t u g a b k h = record { list = h.list; listed = g.lists k h.list h.listed; sender = h.sender; receiver = h.receiver; differ = h.differ }

addressed_if_grows : (t u : Traced) → Grows t u → (a b : ℕ) (o : Option ClusterKey) → AddressedIf t a b o → AddressedIf u a b o
addressed_if_grows t u g a b None h = h
addressed_if_grows t u g a b (Some k) h = addressed_grows t u g a b k h

pub goes_grows : (t u : Traced) → Grows t u → (a b : ℕ) (m : Message) → GoesBetween t a b m → GoesBetween u a b m
goes_grows t u g a b m h = addressed_if_grows t u g a b (view_key_of m) h

out_grows : (t u : Traced) → Grows t u → (a b : ℕ) (o : Option Batch) → OutGoes t a b o → OutGoes u a b o
out_grows t u g a b None h = h
out_grows t u g a b (Some x) h = addressed_grows t u g a b x.key h

targets_grow : (t u : Traced) → Grows t u → (me : ℕ) (os : List ℕ) (xs : Targets) → TargetsGo t me os xs → TargetsGo u me os xs
targets_grow t u g me os [] h = tt
targets_grow t u g me os (x ∷ xs) h = (record { other = h.0.other; out = out_grows t u g me x.node x.out h.0.out }, targets_grow t u g me os xs h.1)

pub node_goes_grows : (t u : Traced) → Grows t u → (f : Facts) → NodeGoes t f → NodeGoes u f
node_goes_grows t u g f h = record { targets = targets_grow t u g f.me (others f) f.batches h.targets; waits = h.waits }

-- ---- lines of the node

closing_waits : (os : List ℕ) (number : ℕ) (xs : List Transaction) → AllAwait os xs → AllAwait os (filter (λ (x : Transaction). not (x.number == number)) xs)
closing_waits os number [] h = tt
closing_waits os number (x ∷ xs) h = go (not (x.number == number)) (closing_waits os number xs h.1)
  where
    go : (b : Bool) → AllAwait os (filter (λ (y : Transaction). not (y.number == number)) xs)
        → AllAwait os (cond b (x ∷ filter (λ (y : Transaction). not (y.number == number)) xs) (filter (λ (y : Transaction). not (y.number == number)) xs))
    go true rest = (h.0, rest)
    go false rest = rest

opening_waits : (os : List ℕ) (x : Transaction) (xs : List Transaction) → Among os x.awaiting → AllAwait os xs → AllAwait os (xs ++ x ∷ [])
opening_waits os x [] a h = (a, tt)
opening_waits os x (y ∷ ys) a h = (h.0, opening_waits os x ys a h.1)

-- a change that leaves nobody else awaited
changing_waits : (os : List ℕ) (number : ℕ) (change : Transaction → Transaction) (xs : List Transaction)
    → ((x : Transaction) → Among os x.awaiting → Among os (change x).awaiting) → AllAwait os xs → AllAwait os (map (λ (x : Transaction). changed_if change x (x.number == number)) xs)
changing_waits os number change [] c h = tt
changing_waits os number change (x ∷ xs) c h = (go (x.number == number), changing_waits os number change xs c h.1)
  where
    go : (b : Bool) → Among os (changed_if change x b).awaiting
    go true = c x h.0
    go false = h.0

new_targets : (t : Traced) (f : Facts) (ns : List ℕ) → Among (others f) ns → TargetsGo t f.me (others f) (map (target_for f) ns)
new_targets t f [] h = tt
new_targets t f (n ∷ ns) h =
    (record { other = h.each n (or_left (n == n) (contains ns n) (num_eq n n refl)); out = tt }, new_targets t f ns (record { each = λ m e. h.each m (or_right (n == m) (contains ns m) e) }))

all_among : (os : List ℕ) → Among os os
all_among os = record { each = λ n e. e }

pub note_goes : (t : Traced) (q : Option Want) (f : Facts) (l : Line) → NodeGoes t f → NodeGoes t (note q f l)
note_goes t q f (line.Tick n) h = record { targets = h.targets; waits = h.waits }
note_goes t q f (line.Stop n) h = record { targets = tt; waits = tt }
note_goes t q f (line.Start n) h = record { targets = h.targets; waits = h.waits }
note_goes t q f (line.Quiesce n) h = record { targets = h.targets; waits = h.waits }
note_goes t q f (line.Unquiesce n) h = record { targets = h.targets; waits = h.waits }
note_goes t q f (line.Promise n key) h = record { targets = h.targets; waits = h.waits }
note_goes t q f (line.Enter n key ms) h = record { targets = tt; waits = tt }
note_goes t q f (line.Exchanged n key) h = record { targets = new_targets t f (others f) (all_among (others f)); waits = h.waits }
note_goes t q f (line.Opened n key number d a) h = record {
  targets = h.targets;
  waits = opening_waits (others f) (notes.opening_transaction f (list_at f (partition_of d)) number d (notes.request_want q a)) f.transactions.running (asked_among_others f (partition_of d)) h.waits;
}
note_goes t q f (line.Value n key number d v) h = record { targets = h.targets; waits = closing_waits (others f) number f.transactions.running h.waits }
note_goes t q f (line.Apply n key number d v) h = record {
  targets = h.targets;
  waits = changing_waits (others f) number (transactions.with_write v (notes.next_nth f (partition_of d)) (other_replicas f (list_at f (partition_of d)))) f.transactions.running
      (λ x a. replicas_among_others f (partition_of d)) h.waits;
}
note_goes t q f (line.Done n key number) h = record { targets = h.targets; waits = closing_waits (others f) number f.transactions.running h.waits }
note_goes t q f (line.Aborted n key number) h = record { targets = h.targets; waits = closing_waits (others f) number f.transactions.running h.waits }
note_goes t q f (line.Doubt n key number) h = record { targets = h.targets; waits = closing_waits (others f) number f.transactions.running h.waits }
note_goes t q f (line.Merge n key d v) h = record { targets = h.targets; waits = h.waits }
note_goes t q f (line.Handed n key p) h = record { targets = h.targets; waits = h.waits }
note_goes t q f (line.Settled n key p) h = record { targets = h.targets; waits = h.waits }
note_goes t q f (line.Learn n key p) h = record { targets = h.targets; waits = h.waits }
note_goes t q f (line.Drop n key p) h = record { targets = h.targets; waits = h.waits }
note_goes t q f _ h = h

-- ---- messages that reach the node

acked_goes : (t : Traced) (me : ℕ) (os : List ℕ) (from number : ℕ) (xs : Targets) → TargetsGo t me os xs → TargetsGo t me os (batches.acking xs from number)
acked_goes t me os from number [] h = tt
acked_goes t me os from number (x ∷ xs) h = (go (x.node == from), acked_goes t me os from number xs h.1)
  where
    once : (b : Batch) (c : Bool) → TargetGoes t me os (if c then batches.without_batch x b else x)
    once b true = record { other = h.0.other; out = tt }
    once b false = h.0

    out : (o : Option Batch) → TargetGoes t me os (batches.acked_out x number o)
    out None = h.0
    out (Some b) = once b (b.number == number)

    go : (b : Bool) → TargetGoes t me os (changed_if (λ y. batches.acked_out y number y.out) x b)
    go true = out x.out
    go false = h.0

pub reached_goes : (t : Traced) (f : Facts) (from : ℕ) (m : Message) → NodeGoes t f → NodeGoes t (reached f from m)
reached_goes t f from (message.Heartbeat view promised hears role) h = record { targets = h.targets; waits = h.waits }
reached_goes t f from (message.Accept key) h = record { targets = h.targets; waits = h.waits }
reached_goes t f from (message.Refuse key promised) h = record { targets = h.targets; waits = h.waits }
reached_goes t f from (message.State key wants row) h = go (in_view f key)
  where
    go : (b : Bool) → NodeGoes t (notes.row_came f from row b)
    go true = record { targets = h.targets; waits = h.waits }
    go false = h
reached_goes t f from (message.BatchAck key number) h = go (in_view f key)
  where
    go : (b : Bool) → NodeGoes t (notes.batch_acked f from number b)
    go true = record { targets = acked_goes t f.me (others f) from number f.batches h.targets; waits = h.waits }
    go false = h
reached_goes t f from (message.Progress key wants done handed settled) h = go (in_view f key)
  where
    go : (b : Bool) → NodeGoes t (notes.progress_came f from done handed settled b)
    go true = record { targets = h.targets; waits = h.waits }
    go false = h
reached_goes t f from (message.Repl key number nth d v) h = go (in_view f key) (from == list_master (list_at f (partition_of d)))
  where
    go : (b c : Bool) → NodeGoes t (if b then notes.write_counted_if f key (list_at f (partition_of d)) (partition_of d) nth c else f)
    go true true = record { targets = h.targets; waits = h.waits }
    go true false = h
    go false c = h
reached_goes t f from (message.ReplAck key number) h = go (in_view f key)
  where
    once : (x : Transaction) (b : Bool) → Among (others f) x.awaiting → Among (others f) (changed_if (transactions.acknowledged from) x b).awaiting
    once x true a = among_without (others f) x.awaiting from a
    once x false a = a

    go : (b : Bool) → NodeGoes t (notes.write_acked f from number b)
    go true = record {
      targets = h.targets;
      waits = changing_waits (others f) number (λ x. changed_if (transactions.acknowledged from) x (transactions.awaits_ack x from)) f.transactions.running (λ x a. once x _ a) h.waits;
    }
    go false = h
reached_goes t f from (message.Answer key number v) h = go (in_view f key)
  where
    once : (x : Transaction) (b : Bool) → Among (others f) x.awaiting → Among (others f) (changed_if (transactions.answered f.store.by from v) x b).awaiting
    once x true a = among_without (others f) x.awaiting from a
    once x false a = a

    go : (b : Bool) → NodeGoes t (notes.answer_came f from number v b)
    go true = record {
      targets = h.targets;
      waits = changing_waits (others f) number (λ x. changed_if (transactions.answered f.store.by from v) x (transactions.awaits_answer x from)) f.transactions.running (λ x a. once x _ a) h.waits;
    }
    go false = h
reached_goes t f from _ h = h

-- ---- messages that the node sent

sending_goes : (t : Traced) (me : ℕ) (os : List ℕ) (to : ℕ) (b : Batch) (xs : Targets) → Addressed t me to b.key → TargetsGo t me os xs → TargetsGo t me os (batches.sending xs to b)
sending_goes t me os to b [] a h = tt
sending_goes t me os to b (x ∷ xs) a h = (go (x.node == to) refl, sending_goes t me os to b xs a h.1)
  where
    go : (c : Bool) → (x.node == to) ≡ c → TargetGoes t me os (changed_if (λ y. record y { out = Some b; batches = b.number }) x c)
    go true e = record { other = h.0.other; out = subst (λ (n : ℕ). Addressed t me n b.key) (sym (num_same x.node to e)) a }
    go false e = h.0

pub sent_goes : (t : Traced) (f : Facts) (to : ℕ) (m : Message) → GoesBetween t f.me to m → NodeGoes t f → NodeGoes t (sent f to m)
sent_goes t f to (message.Propose key ms) a h = record { targets = h.targets; waits = h.waits }
sent_goes t f to (message.Batch b) a h = record { targets = sending_goes t f.me (others f) to b f.batches a h.targets; waits = h.waits }
sent_goes t f to _ a h = h

-- ---- others of a view

-- a message of the node's view to another of its members
pub to_other : (t : Traced) (f : Facts) (b : ℕ) → NodeKeys t f.me f → contains (others f) b ≡ true → Addressed t f.me b (view_key f)
to_other t f b h e = go f.exchange.view h.view e
  where
    go : (o : Option View) → ViewStands t f.me f.agreement.last o → contains (agreement.others_among f.me (members_of o)) b ≡ true → Addressed t f.me b (Rattle.node_rules.specs.Exchange.exchange_key o)
    go None v e = differ refl (sym e)
    go (Some v) i e = record {
      list = v.members;
      listed = i.list;
      sender = i.among;
      receiver = sym (member_id v.members b) ∙ in_without (ids_of v.members) f.me b e;
      differ = λ same. not_gone (ids_of v.members) f.me b e (sym same);
    }

-- an answer goes back
pub back : (t : Traced) (a b : ℕ) (k : ClusterKey) → Addressed t a b k → Addressed t b a k
back t a b k h = record { list = h.list; listed = h.listed; sender = h.receiver; receiver = h.sender; differ = λ same. h.differ (sym same) }
