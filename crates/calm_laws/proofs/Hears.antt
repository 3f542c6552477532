-- Whom a node hears after what came to it.
use Rattle.std.proofs.Common.{◌≡◌, ℕ, ◌==◌, Bool, true, false, cond, List, [], ◌∷◌, ◌++◌, Option, Some, None, refl, sym, ap, subst, ◌∙◌, ◌⊎◌, inl, inr, arith, nat_lt, if◌then◌else◌}
use Rattle.std.specs.FinMap.Entries.{find-put}
use Rattle.std.specs.Ordering.{nat_cmp, eq_by_cmp}
use Rattle.std.proofs.lemmas.Cmp.{nat_cmp_total}
use Rattle.std.proofs.lemmas.Bool.Decides.{nat_tests}
use Rattle.conflict_order.specs.declared.want.Want.{Want}
use Rattle.conflict_order.specs.declared.version.Version.{Version}
use Rattle.cluster_types.specs.declared.cluster_key.ClusterKey.{ClusterKey}
use Rattle.cluster_types.specs.declared.member.Role.{Role}
use Rattle.cluster_types.specs.Partitions.{partition_of}
use Rattle.wire_messages.specs.declared.message.Message.{Message}
use Rattle.wire_messages.specs.declared.message.Message.TheVariants as message
use Rattle.journal_lines.specs.declared.line.Line.{Line}
use Rattle.journal_lines.specs.declared.line.Line.TheVariants as line
use Rattle.partition_lists.proofs.InOrderLaws.{equal}
use Rattle.node_rules.specs.Copies.{Row}
use Rattle.node_rules.specs.Facts.{Facts, list_at}
use Rattle.node_rules.specs.Hearing.{Heard, aged}
use Rattle.node_rules.specs.Messages.{due_message_of}
use Rattle.node_rules.specs.Notes as notes
use Rattle.node_rules.specs.Notes.{note, noted, reached, sent, all_sent, in_view, after_ages}
use Rattle.node_rules.specs.Tables.{Table, table_with}
use Rattle.node_rules.specs.Tick.{parts_in_order, parts}
use Rattle.cluster_rules.proofs.KeptFacts.{num_same}
use Rattle.cluster_laws.proofs.At.{differ}
use Rattle.run_laws.specs.Tied.{Among}
use Rattle.calm_laws.specs.Acts.{Input, Ticks, Gets, as_read, acted, served}
use Rattle.calm_laws.specs.Flows.{HeardAs, look, new_heard}
use Rattle.calm_laws.proofs.Own.{Steady, AllSteady, message_steady, later_parts, later_steady}
use Rattle.calm_laws.proofs.Sent.{AllGets}
use Rattle.node_rules.specs.Effects.{lines_only}

-- ---- what is heard goes with beats and ticks alone

note_heard : (q : Option Want) (f : Facts) (a : ℕ) (l : Line) → Steady a l → (note q f l).hearing.heard ≡ f.hearing.heard
note_heard q f a (line.Tick n) h = absurd h
note_heard q f a (line.Stop n) h = absurd h
note_heard q f a (line.Start n) h = absurd h
note_heard q f a (line.Quiesce n) h = absurd h
note_heard q f a (line.Unquiesce n) h = absurd h
note_heard q f a l h = refl

noted_heard : (q : Option Want) (f : Facts) (a : ℕ) (ls : List Line) → AllSteady a ls → (noted q f ls).hearing.heard ≡ f.hearing.heard
noted_heard q f a [] h = refl
noted_heard q f a (l ∷ ls) h = noted_heard q (note q f l) a ls h.1 ∙ note_heard q f a l h.0

sent_heard : (f : Facts) (to : ℕ) (m : Message) → (sent f to m).hearing.heard ≡ f.hearing.heard
sent_heard f to (message.Propose key members) = refl
sent_heard f to (message.Batch b) = refl
sent_heard f to m = refl

all_sent_heard : (f : Facts) (ms : List (ℕ × Message)) → (all_sent f ms).hearing.heard ≡ f.hearing.heard
all_sent_heard f [] = refl
all_sent_heard f (m ∷ ms) = all_sent_heard (sent f m.0 m.1) ms ∙ sent_heard f m.0 m.1

abbrev pub hear : Table Heard → Input → Table Heard
hear t (Gets a (message.Heartbeat view promised hears role)) = table_with t a (new_heard view promised hears role)
hear t _ = t

abbrev pub hear_all : Table Heard → List Input → Table Heard
hear_all t [] = t
hear_all t (i ∷ is) = hear_all (hear t i) is

row_heard : (f : Facts) (from : ℕ) (row : Row) (b : Bool) → (notes.row_came f from row b).hearing.heard ≡ f.hearing.heard
row_heard f from row true = refl
row_heard f from row false = refl

batch_heard : (f : Facts) (from number : ℕ) (b : Bool) → (notes.batch_acked f from number b).hearing.heard ≡ f.hearing.heard
batch_heard f from number true = refl
batch_heard f from number false = refl

progress_heard : (f : Facts) (from : ℕ) (done handed settled : List Bool) (b : Bool) → (notes.progress_came f from done handed settled b).hearing.heard ≡ f.hearing.heard
progress_heard f from done handed settled true = refl
progress_heard f from done handed settled false = refl

counted_heard : (f : Facts) (key : ClusterKey) (l : List ℕ) (p nth : ℕ) (b : Bool) → (notes.write_counted_if f key l p nth b).hearing.heard ≡ f.hearing.heard
counted_heard f key l p nth true = refl
counted_heard f key l p nth false = refl

write_heard : (f : Facts) (from : ℕ) (key : ClusterKey) (nth p : ℕ) (b : Bool) → (notes.write_came f from key nth p b).hearing.heard ≡ f.hearing.heard
write_heard f from key nth p true = counted_heard f key (list_at f p) p nth _
write_heard f from key nth p false = refl

ack_heard : (f : Facts) (from number : ℕ) (b : Bool) → (notes.write_acked f from number b).hearing.heard ≡ f.hearing.heard
ack_heard f from number true = refl
ack_heard f from number false = refl

answer_heard : (f : Facts) (from number : ℕ) (v : Option Version) (b : Bool) → (notes.answer_came f from number v b).hearing.heard ≡ f.hearing.heard
answer_heard f from number v true = refl
answer_heard f from number v false = refl

reached_heard : (f : Facts) (from : ℕ) (m : Message) → (reached f from m).hearing.heard ≡ hear f.hearing.heard (Gets from m)
reached_heard f from (message.State key wants row) = row_heard f from row (in_view f key)
reached_heard f from (message.BatchAck key number) = batch_heard f from number (in_view f key)
reached_heard f from (message.Progress key wants done handed settled) = progress_heard f from done handed settled (in_view f key)
reached_heard f from (message.Repl key t nth digest v) = write_heard f from key nth (partition_of digest) (in_view f key)
reached_heard f from (message.ReplAck key t) = ack_heard f from t (in_view f key)
reached_heard f from (message.Answer key t v) = answer_heard f from t v (in_view f key)
reached_heard f from m = refl

gets_heard : (n c : ℕ) (f : Facts) (a : ℕ) (m : Message) → (acted n c f (Gets a m)).hearing.heard ≡ hear f.hearing.heard (Gets a m)
gets_heard n c f a m =
    all_sent_heard (noted None (reached f a m) (due_message_of n f c a m).lines) (as_read (due_message_of n f c a m).sends)
    ∙ noted_heard None (reached f a m) f.me (due_message_of n f c a m).lines (message_steady n f c a m)
    ∙ reached_heard f a m

pub served_heard : (n c : ℕ) (f : Facts) (is : List Input) → AllGets is → (served n c f is).hearing.heard ≡ hear_all f.hearing.heard is
served_heard n c f [] h = refl
served_heard n c f (Ticks ∷ is) h = absurd h
served_heard n c f (Gets a m ∷ is) h = served_heard n c (acted n c f (Gets a m)) is h ∙ ap (λ (t : Table Heard). hear_all t is) (gets_heard n c f a m)

pub tick_heard : (n c : ℕ) (f : Facts) → f.up ≡ true → (acted n c f Ticks).hearing.heard ≡ aged f.hearing.heard
tick_heard n c f up =
    ap (λ (b : Bool). (all_sent (noted None f (if b then parts_in_order (parts n) f else lines_only (line.Down f.me ∷ [])).lines) (as_read (if b then parts_in_order (parts n) f else lines_only (line.Down f.me ∷ [])).sends)).hearing.heard) up
    ∙ all_sent_heard (noted None f (if true then parts_in_order (parts n) f else lines_only (line.Down f.me ∷ [])).lines) (as_read (if true then parts_in_order (parts n) f else lines_only (line.Down f.me ∷ [])).sends)
    ∙ noted_heard None (after_ages f) f.me (parts_in_order (later_parts n) (after_ages f)).lines (later_steady n (after_ages f))

-- ---- what is heard of one node

pub ties : (q k : ℕ) → eq_by_cmp nat_cmp q k ≡ (q == k)
ties q k = go (nat_lt q k) (q == k) refl refl
  where
    go : (a b : Bool) → nat_lt q k ≡ a → (q == k) ≡ b → eq_by_cmp nat_cmp q k ≡ (q == k)
    go true true p e = absurd (apart p e)
      where
        apart : nat_lt q k ≡ true → (q == k) ≡ true → ⊥
        apart p e = grind (arith, nat_tests)
    go true false p e = rw (p, e) refl
    go false true p e = rw (p, e) refl
    go false false p e = rw (p, e) refl

pub look_hear : (t : Table Heard) (a m : ℕ) (x : Heard) → look (table_with t a x) m ≡ cond (m == a) (Some x) (look t m)
look_hear t a m x = find-put nat_cmp nat_cmp_total m a x t ∙ ap (λ (b : Bool). cond b (Some x) (look t m)) (ties m a)

-- each beat of the node among these is such
abbrev pub BeatIs : (Heard → Type 0) → ℕ → Input → Type 0
BeatIs B a (Gets b (message.Heartbeat view promised hears role)) = b ≡ a → B (new_heard view promised hears role)
BeatIs B a _ = Unit {0}

abbrev pub BeatsAre : (Heard → Type 0) → ℕ → List Input → Type 0
BeatsAre B a [] = Unit {0}
BeatsAre B a (i ∷ is) = BeatIs B a i × BeatsAre B a is

put_heard : (B : Heard → Type 0) (t : Table Heard) (a b : ℕ) (x : Heard) → (b ≡ a → B x) → (b ≡ a) ⊎ HeardAs B t a → HeardAs B (table_with t b x) a
put_heard B t a b x new old = go (a == b) refl old
  where
    go : (c : Bool) → (a == b) ≡ c → (b ≡ a) ⊎ HeardAs B t a → HeardAs B (table_with t b x) a
    go true e o = record { entry = x; stands = look_hear t b a x ∙ ap (λ (c : Bool). cond c (Some x) (look t a)) e; good = new (sym (num_same a b e)) }
    go false e (inl s) = differ (equal a b (sym s)) e
    go false e (inr h) = record { entry = h.entry; stands = look_hear t b a x ∙ ap (λ (c : Bool). cond c (Some x) (look t a)) e ∙ h.stands; good = h.good }

hear_kept : (B : Heard → Type 0) (t : Table Heard) (a : ℕ) (i : Input) → BeatIs B a i → HeardAs B t a → HeardAs B (hear t i) a
hear_kept B t a Ticks g h = h
hear_kept B t a (Gets b (message.Heartbeat view promised hears role)) g h = put_heard B t a b (new_heard view promised hears role) g (inr h)
hear_kept B t a (Gets b m) g h = h

pub heard_kept : (B : Heard → Type 0) (t : Table Heard) (a : ℕ) (is : List Input) → BeatsAre B a is → HeardAs B t a → HeardAs B (hear_all t is) a
heard_kept B t a [] g h = h
heard_kept B t a (i ∷ is) g h = heard_kept B (hear t i) a is g.1 (hear_kept B t a i g.0 h)

-- once a beat comes the node is heard so
pub heard_new : (B : Heard → Type 0) (t : Table Heard) (a : ℕ) (view promised : ClusterKey) (hears : List ℕ) (role : Role) (is : List Input)
    → BeatsAre B a is → Among is (Gets a (message.Heartbeat view promised hears role)) → HeardAs B (hear_all t is) a
heard_new B t a view promised hears role [] g h = absurd h
heard_new B t a view promised hears role (i ∷ is) g (inl e) =
    heard_kept B (hear t i) a is g.1
    (subst (λ (j : Input). HeardAs B (hear t j) a) (sym e)
    (put_heard B t a a (new_heard view promised hears role) (subst (λ (j : Input). BeatIs B a j) e g.0) (inl refl)))
heard_new B t a view promised hears role (i ∷ is) g (inr h) = heard_new B (hear t i) a view promised hears role is g.1 h

-- without a beat nothing changes
not_heard_one : (t : Table Heard) (a : ℕ) (i : Input) → BeatIs (λ h. ⊥) a i → look (hear t i) a ≡ look t a
not_heard_one t a Ticks g = refl
not_heard_one t a (Gets b (message.Heartbeat view promised hears role)) g = go (a == b) refl
  where
    go : (c : Bool) → (a == b) ≡ c → look (table_with t b (new_heard view promised hears role)) a ≡ look t a
    go true e = absurd (g (sym (num_same a b e)))
    go false e = look_hear t b a (new_heard view promised hears role) ∙ ap (λ (c : Bool). cond c (Some (new_heard view promised hears role)) (look t a)) e
not_heard_one t a (Gets b m) g = refl

pub not_heard : (t : Table Heard) (a : ℕ) (is : List Input) → BeatsAre (λ h. ⊥) a is → look (hear_all t is) a ≡ look t a
not_heard t a [] g = refl
not_heard t a (i ∷ is) g = not_heard (hear t i) a is g.1 ∙ not_heard_one t a i g.0

pub hear_append : (t : Table Heard) (xs ys : List Input) → hear_all t (xs ++ ys) ≡ hear_all (hear_all t xs) ys
hear_append t [] ys = refl
hear_append t (x ∷ xs) ys = hear_append (hear t x) xs ys

-- beats by what is among them
beat_is : (B : Heard → Type 0) (a : ℕ) (i : Input) → ((v p : ClusterKey) (h : List ℕ) (r : Role) → i ≡ Gets a (message.Heartbeat v p h r) → B (new_heard v p h r)) → BeatIs B a i
beat_is B a Ticks all = tt
beat_is B a (Gets b (message.Heartbeat view promised hears role)) all = λ e. all view promised hears role (ap (λ (k : ℕ). Gets k (message.Heartbeat view promised hears role)) e)
beat_is B a (Gets b m) all = tt

pub beats_are : (B : Heard → Type 0) (a : ℕ) (is : List Input) → ((v p : ClusterKey) (h : List ℕ) (r : Role) → Among is (Gets a (message.Heartbeat v p h r)) → B (new_heard v p h r)) → BeatsAre B a is
beats_are B a [] all = tt
beats_are B a (i ∷ is) all = (beat_is B a i (λ v p h r e. all v p h r (inl e)), beats_are B a is (λ v p h r m. all v p h r (inr m)))
