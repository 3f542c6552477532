-- What a line that changes no reading leaves as it is.
use Rattle.std.proofs.Common.{◌≡◌, ℕ, ◌==◌, Bool, true, false, cond, ◌&&◌, ◌||◌, not, is_some, List, [], ◌∷◌, ◌++◌, Option, Some, None, refl, sym, ap, subst, ◌∙◌}
use Rattle.std.specs.Prelude.{nat_le}
use Rattle.std.specs.List.{list_any}
use Rattle.conflict_order.specs.declared.version.Version.{Version}
use Rattle.cluster_types.specs.declared.cluster_key.ClusterKey.{ClusterKey}
use Rattle.cluster_types.proofs.BoolFacts.{or_none}
use Rattle.cluster_types.specs.ClusterKeys.{same_key}
use Rattle.cluster_types.specs.Distinct.{contains}
use Rattle.wire_messages.specs.declared.message.Batch.{Batch}
use Rattle.wire_messages.specs.declared.message.Message.{Message}
use Rattle.wire_messages.specs.declared.message.Message.TheVariants as message
use Rattle.wire_messages.specs.Decoding.{message_of}
use Rattle.journal_lines.specs.declared.line.Line.{Line}
use Rattle.journal_lines.specs.declared.line.Line.TheVariants as line
use Rattle.cluster_laws.specs.Changed.{at_number, at_key, at_stay}
use Rattle.cluster_laws.specs.Ground.{Ground}
use Rattle.cluster_laws.specs.Stay.{Running, Stay}
use Rattle.cluster_laws.specs.Picture.{Seen, Packet, Picture}
use Rattle.cluster_laws.specs.Effect.{Effect, Nothing, Row_came, Batch_acked, Told, Write_came, Write_acked, Answered, effect_if, is_view_key, batch_ack, write_ack, answer_effect, comes, comes_if, arrives, arrives_cut}
use Rattle.cluster_laws.specs.Changes.{act, sends_message}
use Rattle.cluster_laws.specs.Licences.{picture_after}
use Rattle.cluster_laws.proofs.At.{number_same}

-- ---- changes at a place

pub node_as : {A : Type 0} (f : Seen → A) (node : ℕ → Seen) (m : ℕ) (new : Seen) (n : ℕ) → f (at_number node m new n) ≡ cond (m == n) (f new) (f (node n))
node_as {A} f node m new n = go (m == n)
  where
    go : (b : Bool) → f (cond b new (node n)) ≡ cond b (f new) (f (node n))
    go true = refl
    go false = refl

pub node_kept : {A : Type 0} (f : Seen → A) (node : ℕ → Seen) (m : ℕ) (new : Seen) (n : ℕ) → f new ≡ f (node m) → f (at_number node m new n) ≡ f (node n)
node_kept {A} f node m new n e = go (m == n) refl
  where
    go : (b : Bool) → (m == n) ≡ b → f (cond b new (node n)) ≡ f (node n)
    go true i = e ∙ ap (λ (z : ℕ). f (node z)) (number_same m n i)
    go false i = refl

pub stay_as : {A : Type 0} (f : Stay → A) (stay : ℕ → ClusterKey → Stay) (m : ℕ) (l : ClusterKey) (new : Stay) (n : ℕ) (k : ClusterKey)
    → f (at_stay stay m l new n k) ≡ cond ((m == n) && same_key l k) (f new) (f (stay n k))
stay_as {A} f stay m l new n k = go (m == n) refl
  where
    inner : (c : Bool) → m ≡ n → f (cond c new (stay m k)) ≡ cond c (f new) (f (stay n k))
    inner true i = refl
    inner false i = ap (λ (z : ℕ). f (stay z k)) i

    go : (b : Bool) → (m == n) ≡ b → f ((cond b (at_key (stay m) l new) (stay n)) k) ≡ cond (b && same_key l k) (f new) (f (stay n k))
    go true i = inner (same_key l k) (number_same m n i)
    go false i = refl

pub stay_kept : {A : Type 0} (f : Stay → A) (stay : ℕ → ClusterKey → Stay) (m : ℕ) (l : ClusterKey) (new : Stay) (n : ℕ) (k : ClusterKey)
    → f new ≡ f (stay m l) → f (at_stay stay m l new n k) ≡ f (stay n k)
stay_kept {A} f stay m l new n k e = go (m == n) refl
  where
    inner : (c : Bool) → same_key l k ≡ c → m ≡ n → f (cond c new (stay m k)) ≡ f (stay n k)
    inner true s i = e ∙ ap (λ (z : ClusterKey). f (stay m z)) (Rattle.cluster_laws.proofs.At.key_same l k s) ∙ ap (λ (z : ℕ). f (stay z k)) i
    inner false s i = ap (λ (z : ℕ). f (stay z k)) i

    go : (b : Bool) → (m == n) ≡ b → f ((cond b (at_key (stay m) l new) (stay n)) k) ≡ f (stay n k)
    go true i = inner (same_key l k) refl (number_same m n i)
    go false i = refl

or_over : (a b c : Bool) → ((a || b) || c) ≡ (a || (b || c))
or_over true b c = refl
or_over false b c = refl

-- one item more
pub any-more : {A : Type 0} (test : A → Bool) (xs : List A) (x : A) → list_any test (xs ++ x ∷ []) ≡ (list_any test xs || test x)
any-more test [] x = or_none (test x)
any-more test (y ∷ xs) x = ap (λ (b : Bool). test y || b) (any-more test xs x) ∙ sym (or_over (test y) (list_any test xs) (test x))

-- ---- what stays

-- what the readings of a stay look at is the same
pub record SameStay (s t : Stay) : Type 0 where
  pub entered : t.entered ≡ s.entered
  pub exchanged : t.exchanged ≡ s.exchanged
  pub entry : t.entry ≡ s.entry
  pub writes : t.writes ≡ s.writes
  pub done : t.done ≡ s.done

pub record Frame (w v : Picture) : Type 0 where
  pub content : (n : ℕ) → (v.node n).content ≡ (w.node n).content
  pub view : (n : ℕ) → (v.node n).view ≡ (w.node n).view
  pub clock : (n : ℕ) → (v.node n).clock ≡ (w.node n).clock
  pub stay : (n : ℕ) (k : ClusterKey) → SameStay (w.stay n k) (v.stay n k)
  pub settled : v.settled ≡ w.settled
  pub fold : v.fold ≡ w.fold
  pub applied : v.applied ≡ w.applied

pub same_stay : (s : Stay) → SameStay s s
same_stay s = record { entered = refl; exchanged = refl; entry = refl; writes = refl; done = refl }

pub same_at : (w : Picture) (m : ℕ) (l : ClusterKey) (new : Stay) → SameStay (w.stay m l) new → (n : ℕ) (k : ClusterKey) → SameStay (w.stay n k) (at_stay w.stay m l new n k)
same_at w m l new h n k = record {
  entered = stay_kept (λ (s : Stay). s.entered) w.stay m l new n k h.entered;
  exchanged = stay_kept (λ (s : Stay). s.exchanged) w.stay m l new n k h.exchanged;
  entry = stay_kept (λ (s : Stay). s.entry) w.stay m l new n k h.entry;
  writes = stay_kept (λ (s : Stay). s.writes) w.stay m l new n k h.writes;
  done = stay_kept (λ (s : Stay). s.done) w.stay m l new n k h.done;
}

-- a picture with the same nodes, folds and settlings
by_stay : (w v : Picture) → v.node ≡ w.node → ((n : ℕ) (k : ClusterKey) → SameStay (w.stay n k) (v.stay n k)) → v.settled ≡ w.settled → v.fold ≡ w.fold → v.applied ≡ w.applied → Frame w v
by_stay w v e h st f a = record {
  content = λ n. ap (λ (g : ℕ → Seen). (g n).content) e;
  view = λ n. ap (λ (g : ℕ → Seen). (g n).view) e;
  clock = λ n. ap (λ (g : ℕ → Seen). (g n).clock) e;
  stay = h;
  settled = st;
  fold = f;
  applied = a;
}

-- the stay changes where no reading looks
stay_frame : (w v : Picture) (m : ℕ) (l : ClusterKey) (new : Stay) → v.node ≡ w.node → v.stay ≡ at_stay w.stay m l new → v.settled ≡ w.settled → v.fold ≡ w.fold → v.applied ≡ w.applied → SameStay (w.stay m l) new → Frame w v
stay_frame w v m l new e i st f a h = by_stay w v e (λ n k. subst (λ (g : ℕ → ClusterKey → Stay). SameStay (w.stay n k) (g n k)) (sym i) (same_at w m l new h n k)) st f a

unmoved : (w v : Picture) → v.node ≡ w.node → v.stay ≡ w.stay → v.settled ≡ w.settled → v.fold ≡ w.fold → v.applied ≡ w.applied → Frame w v
unmoved w v e i st f a = by_stay w v e (λ n k. subst (λ (g : ℕ → ClusterKey → Stay). SameStay (w.stay n k) (g n k)) (sym i) (same_stay (w.stay n k))) st f a

-- ---- messages

-- it is the effect of a message that came, or none
abbrev pub IsMessage : Effect → Type 0
IsMessage Nothing = Unit {0}
IsMessage (Row_came n k from) = Unit {0}
IsMessage (Batch_acked n k from b) = Unit {0}
IsMessage (Told n k from done handed settled) = Unit {0}
IsMessage (Write_came n k from nth d v) = Unit {0}
IsMessage (Write_acked n k from t y) = Unit {0}
IsMessage (Answered n k from t v y) = Unit {0}
IsMessage _ = ⊥

if_message : (e : Effect) (b : Bool) → IsMessage e → IsMessage (effect_if e b)
if_message e true h = h
if_message e false h = tt

batch_message : (n : ℕ) (k : ClusterKey) (from number : ℕ) (o : Option Batch) → IsMessage (batch_ack n k from number o)
batch_message n k from number None = tt
batch_message n k from number (Some b) = if_message (Batch_acked n k from b) (b.number == number) tt

write_message : (n : ℕ) (k : ClusterKey) (from t : ℕ) (o : Option Running) → IsMessage (write_ack n k from t o)
write_message n k from t None = tt
write_message n k from t (Some y) = if_message (Write_acked n k from t y) (is_some y.applied && contains y.awaiting from) tt

answer_message : (n : ℕ) (k : ClusterKey) (from t : ℕ) (v : Option Version) (o : Option Running) → IsMessage (answer_effect n k from t v o)
answer_message n k from t v None = tt
answer_message n k from t v (Some y) = if_message (Answered n k from t v y) (not (is_some y.applied) && contains y.awaiting from) tt

comes_message : (w : Picture) (n from : ℕ) (m : Message) → IsMessage (comes w n from m)
comes_message w n from (message.State k wants row) = if_message (Row_came n k from) (is_view_key (w.node n).view k) tt
comes_message w n from (message.BatchAck k number) = if_message (batch_ack n k from number ((w.stay n k).out from)) (is_view_key (w.node n).view k) (batch_message n k from number ((w.stay n k).out from))
comes_message w n from (message.Progress k wants done handed settled) = if_message (Told n k from done handed settled) (is_view_key (w.node n).view k) tt
comes_message w n from (message.Repl k t nth d v) = if_message (Write_came n k from nth d v) (is_view_key (w.node n).view k) tt
comes_message w n from (message.ReplAck k t) = if_message (write_ack n k from t ((w.stay n k).running t)) (is_view_key (w.node n).view k) (write_message n k from t ((w.stay n k).running t))
comes_message w n from (message.Answer k t v) = if_message (answer_effect n k from t v ((w.stay n k).running t)) (is_view_key (w.node n).view k) (answer_message n k from t v ((w.stay n k).running t))
comes_message w n from _ = tt

comes_if_message : (w : Picture) (n from : ℕ) (o : Option Message) → IsMessage (comes_if w n from o)
comes_if_message w n from None = tt
comes_if_message w n from (Some m) = comes_message w n from m

pub arrives_message : (w : Picture) (o : Option Packet) → IsMessage (arrives w o)
arrives_message w None = tt
arrives_message w (Some p) = comes_if_message w p.to p.from p.message

pub arrives_cut_message : (w : Picture) (size : ℕ) (o : Option Packet) → IsMessage (arrives_cut w size o)
arrives_cut_message w size None = tt
arrives_cut_message w size (Some p) = if_message (comes_if w p.to p.from p.message) (nat_le p.size size) (comes_if_message w p.to p.from p.message)

pub message_frame : (G : Ground) (w : Picture) (e : Effect) → IsMessage e → Frame w (act G e w)
message_frame G w Nothing h = unmoved w w refl refl refl refl refl
message_frame G w (Row_came n k from) h = stay_frame w (act G (Row_came n k from) w) n k _ refl refl refl refl refl (record { entered = refl; exchanged = refl; entry = refl; writes = refl; done = refl })
message_frame G w (Batch_acked n k from b) h = stay_frame w (act G (Batch_acked n k from b) w) n k _ refl refl refl refl refl (record { entered = refl; exchanged = refl; entry = refl; writes = refl; done = refl })
message_frame G w (Told n k from done handed settled) h = stay_frame w (act G (Told n k from done handed settled) w) n k _ refl refl refl refl refl (record { entered = refl; exchanged = refl; entry = refl; writes = refl; done = refl })
message_frame G w (Write_acked n k from t y) h = stay_frame w (act G (Write_acked n k from t y) w) n k _ refl refl refl refl refl (record { entered = refl; exchanged = refl; entry = refl; writes = refl; done = refl })
message_frame G w (Answered n k from t v y) h = stay_frame w (act G (Answered n k from t v y) w) n k _ refl refl refl refl refl (record { entered = refl; exchanged = refl; entry = refl; writes = refl; done = refl })
message_frame G w (Write_came n k from nth d v) h = record {
  content = λ m. node_kept (λ (x : Seen). x.content) w.node n _ m refl;
  view = λ m. node_kept (λ (x : Seen). x.view) w.node n _ m refl;
  clock = λ m. node_kept (λ (x : Seen). x.clock) w.node n _ m refl;
  stay = λ m j. same_at w n k _ (record { entered = refl; exchanged = refl; entry = refl; writes = refl; done = refl }) m j;
  settled = refl;
  fold = refl;
  applied = refl;
}
message_frame G w _ h = absurd h

sends_frame : (w v : Picture) (n r : ℕ) (o : Option Message) → v.node ≡ w.node → v.stay ≡ sends_message n r o w.stay → v.settled ≡ w.settled → v.fold ≡ w.fold → v.applied ≡ w.applied → Frame w v
sends_frame w v n r None e i st f a = unmoved w v e i st f a
sends_frame w v n r (Some (message.Batch b)) e i st f a = stay_frame w v n b.key _ e i st f a (record { entered = refl; exchanged = refl; entry = refl; writes = refl; done = refl })
sends_frame w v n r (Some m) e i st f a = unmoved w v e i st f a

-- ---- lines

-- a line that changes none of these
abbrev pub IsQuiet : Line → Type 0
IsQuiet (line.Clock n time) = ⊥
IsQuiet (line.Enter n k ms) = ⊥
IsQuiet (line.Stop n) = ⊥
IsQuiet (line.Exchanged n k) = ⊥
IsQuiet (line.Apply n k t d v) = ⊥
IsQuiet (line.Done n k t) = ⊥
IsQuiet (line.Merge n k d v) = ⊥
IsQuiet (line.Drop n k p) = ⊥
IsQuiet (line.Settled n k p) = ⊥
IsQuiet _ = Unit {0}

pub quiet_frame : (G : Ground) (w : Picture) (l : Line) → IsQuiet l → Frame w (picture_after G w l)
quiet_frame G w (line.Clock n time) h = absurd h
quiet_frame G w (line.Enter n k ms) h = absurd h
quiet_frame G w (line.Stop n) h = absurd h
quiet_frame G w (line.Exchanged n k) h = absurd h
quiet_frame G w (line.Apply n k t d v) h = absurd h
quiet_frame G w (line.Done n k t) h = absurd h
quiet_frame G w (line.Merge n k d v) h = absurd h
quiet_frame G w (line.Drop n k p) h = absurd h
quiet_frame G w (line.Settled n k p) h = absurd h
quiet_frame G w (line.Opened n k t d a) h = stay_frame w (picture_after G w (line.Opened n k t d a)) n k _ refl refl refl refl refl (record { entered = refl; exchanged = refl; entry = refl; writes = refl; done = refl })
quiet_frame G w (line.Value n k t d v) h = stay_frame w (picture_after G w (line.Value n k t d v)) n k _ refl refl refl refl refl (record { entered = refl; exchanged = refl; entry = refl; writes = refl; done = refl })
quiet_frame G w (line.Aborted n k t) h = stay_frame w (picture_after G w (line.Aborted n k t)) n k _ refl refl refl refl refl (record { entered = refl; exchanged = refl; entry = refl; writes = refl; done = refl })
quiet_frame G w (line.Doubt n k t) h = stay_frame w (picture_after G w (line.Doubt n k t)) n k _ refl refl refl refl refl (record { entered = refl; exchanged = refl; entry = refl; writes = refl; done = refl })
quiet_frame G w (line.Handed n k p) h = stay_frame w (picture_after G w (line.Handed n k p)) n k _ refl refl refl refl refl (record { entered = refl; exchanged = refl; entry = refl; writes = refl; done = refl })
quiet_frame G w (line.Learn n k p) h = record {
  content = λ m. node_kept (λ (x : Seen). x.content) w.node n _ m refl;
  view = λ m. node_kept (λ (x : Seen). x.view) w.node n _ m refl;
  clock = λ m. node_kept (λ (x : Seen). x.clock) w.node n _ m refl;
  stay = λ m j. same_stay (w.stay m j);
  settled = refl;
  fold = refl;
  applied = refl;
}
quiet_frame G w (line.Sent i a b bytes) h = sends_frame w (picture_after G w (line.Sent i a b bytes)) a b (message_of bytes) refl refl refl refl refl
quiet_frame G w (line.Deliver i a b) h = message_frame G w (arrives w (w.packet i)) (arrives_message w (w.packet i))
quiet_frame G w (line.Repeat i a b) h = message_frame G w (arrives w (w.packet i)) (arrives_message w (w.packet i))
quiet_frame G w (line.Cut i a b size) h = message_frame G w (arrives_cut w size (w.packet i)) (arrives_cut_message w size (w.packet i))
quiet_frame G w _ h = unmoved w w refl refl refl refl refl
