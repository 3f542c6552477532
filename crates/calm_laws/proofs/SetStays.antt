-- The set that a node takes at its tick stays from the twelfth round on.
use Rattle.std.proofs.Common.{◌≡◌, ℕ, ◌==◌, Bool, true, false, cond, List, [], ◌∷◌, Option, Some, None, refl, sym, ap, ◌∙◌, arith, nat_lt, if◌then◌else◌}
use Rattle.conflict_order.specs.declared.want.Want.{Want}
use Rattle.conflict_order.specs.declared.version.Version.{Version}
use Rattle.cluster_types.specs.declared.cluster_key.ClusterKey.{ClusterKey}
use Rattle.cluster_types.specs.declared.member.Member.{Member}
use Rattle.cluster_types.specs.Partitions.{partition_of}
use Rattle.wire_messages.specs.declared.message.Message.{Message}
use Rattle.wire_messages.specs.declared.message.Message.TheVariants as message
use Rattle.journal_lines.specs.declared.line.Line.{Line}
use Rattle.journal_lines.specs.declared.line.Line.TheVariants as line
use Rattle.node_rules.specs.Copies.{Row}
use Rattle.node_rules.specs.Facts.{Facts, list_at}
use Rattle.node_rules.specs.Hearing.{Heard, aged, older, timeout, neighbours_of}
use Rattle.node_rules.specs.Messages.{due_message_of}
use Rattle.node_rules.specs.Notes as notes
use Rattle.node_rules.specs.Notes.{note, noted, reached, sent, all_sent, in_view, after_ages}
use Rattle.node_rules.specs.Tables.{Table}
use Rattle.node_rules.specs.Tick.{parts_in_order, parts}
use Rattle.journal_readings.specs.Lines.{has_node}
use Rattle.cluster_rules.specs.World.{World}
use Rattle.key_laws.specs.Sound.{RisesByNumber, IsUnder}
use Rattle.calm_laws.specs.Acts.{Input, Ticks, Gets, as_read, acted, served}
use Rattle.calm_laws.specs.Flows.{inbox, Flowed, ticks_if, Rounded, look, Base}
use Rattle.calm_laws.proofs.Hearing.{gets_inbox}
use Rattle.calm_laws.proofs.Hears.{ties}
use Rattle.calm_laws.proofs.Own.{Steady, AllSteady, message_steady, later_parts, later_steady}
use Rattle.calm_laws.proofs.Sent.{AllGets}
use Rattle.node_rules.specs.Effects.{lines_only}

-- ---- only a tick takes a set

abbrev set_of : Facts → Option (List Member)
set_of f = f.hearing.set

note_set : (q : Option Want) (f : Facts) (a : ℕ) (l : Line) → Steady a l → set_of (note q f l) ≡ set_of f
note_set q f a (line.Tick n) h = absurd h
note_set q f a (line.Stop n) h = absurd h
note_set q f a l h = refl

noted_set : (q : Option Want) (f : Facts) (a : ℕ) (ls : List Line) → AllSteady a ls → set_of (noted q f ls) ≡ set_of f
noted_set q f a [] h = refl
noted_set q f a (l ∷ ls) h = noted_set q (note q f l) a ls h.1 ∙ note_set q f a l h.0

sent_set : (f : Facts) (to : ℕ) (m : Message) → set_of (sent f to m) ≡ set_of f
sent_set f to (message.Propose key members) = refl
sent_set f to m = refl

all_sent_set : (f : Facts) (ms : List (ℕ × Message)) → set_of (all_sent f ms) ≡ set_of f
all_sent_set f [] = refl
all_sent_set f (m ∷ ms) = all_sent_set (sent f m.0 m.1) ms ∙ sent_set f m.0 m.1

row_set : (f : Facts) (from : ℕ) (row : Row) (b : Bool) → set_of (notes.row_came f from row b) ≡ set_of f
row_set f from row true = refl
row_set f from row false = refl

batch_set : (f : Facts) (from number : ℕ) (b : Bool) → set_of (notes.batch_acked f from number b) ≡ set_of f
batch_set f from number true = refl
batch_set f from number false = refl

progress_set : (f : Facts) (from : ℕ) (done handed settled : List Bool) (b : Bool) → set_of (notes.progress_came f from done handed settled b) ≡ set_of f
progress_set f from done handed settled true = refl
progress_set f from done handed settled false = refl

counted_set : (f : Facts) (key : ClusterKey) (l : List ℕ) (p nth : ℕ) (b : Bool) → set_of (notes.write_counted_if f key l p nth b) ≡ set_of f
counted_set f key l p nth true = refl
counted_set f key l p nth false = refl

write_set : (f : Facts) (from : ℕ) (key : ClusterKey) (nth p : ℕ) (b : Bool) → set_of (notes.write_came f from key nth p b) ≡ set_of f
write_set f from key nth p true = counted_set f key (list_at f p) p nth _
write_set f from key nth p false = refl

ack_set : (f : Facts) (from number : ℕ) (b : Bool) → set_of (notes.write_acked f from number b) ≡ set_of f
ack_set f from number true = refl
ack_set f from number false = refl

answer_set : (f : Facts) (from number : ℕ) (v : Option Version) (b : Bool) → set_of (notes.answer_came f from number v b) ≡ set_of f
answer_set f from number v true = refl
answer_set f from number v false = refl

reached_set : (f : Facts) (from : ℕ) (m : Message) → set_of (reached f from m) ≡ set_of f
reached_set f from (message.State key wants row) = row_set f from row (in_view f key)
reached_set f from (message.BatchAck key number) = batch_set f from number (in_view f key)
reached_set f from (message.Progress key wants done handed settled) = progress_set f from done handed settled (in_view f key)
reached_set f from (message.Repl key t nth digest v) = write_set f from key nth (partition_of digest) (in_view f key)
reached_set f from (message.ReplAck key t) = ack_set f from t (in_view f key)
reached_set f from (message.Answer key t v) = answer_set f from t v (in_view f key)
reached_set f from m = refl

served_set : (n c : ℕ) (f : Facts) (is : List Input) → AllGets is → set_of (served n c f is) ≡ set_of f
served_set n c f [] h = refl
served_set n c f (Ticks ∷ is) h = absurd h
served_set n c f (Gets a m ∷ is) h =
    served_set n c (acted n c f (Gets a m)) is h
    ∙ all_sent_set (noted None (reached f a m) (due_message_of n f c a m).lines) (as_read (due_message_of n f c a m).sends)
    ∙ noted_set None (reached f a m) f.me (due_message_of n f c a m).lines (message_steady n f c a m)
    ∙ reached_set f a m

tick_set : (n c : ℕ) (f : Facts) → f.up ≡ true → set_of (acted n c f Ticks) ≡ Some (neighbours_of f.me f.role (aged f.hearing.heard))
tick_set n c f up =
    ap (λ (b : Bool). set_of (all_sent (noted None f (if b then parts_in_order (parts n) f else lines_only (line.Down f.me ∷ [])).lines) (as_read (if b then parts_in_order (parts n) f else lines_only (line.Down f.me ∷ [])).sends))) up
    ∙ all_sent_set (noted None f (if true then parts_in_order (parts n) f else lines_only (line.Down f.me ∷ [])).lines) (as_read (if true then parts_in_order (parts n) f else lines_only (line.Down f.me ∷ [])).sends)
    ∙ noted_set None (after_ages f) f.me (parts_in_order (later_parts n) (after_ages f)).lines (later_steady n (after_ages f))

flow_set : (n : ℕ) (w v : World) (m : ℕ) → Flowed n w v → set_of (v.facts m) ≡ set_of (w.facts m)
flow_set n w v m f = ap (λ (g : Facts). set_of g) (f.facts m) ∙ served_set n (w.clocks m) (w.facts m) (inbox w m) (gets_inbox w m)

-- after a round the set is that of its tick
pub round_set : (n : ℕ) (ns : List ℕ) (w v : World) → Base ns w → Rounded n w v → (m : ℕ) → has_node ns m ≡ true → set_of (v.facts m) ≡ Some (neighbours_of (w.facts m).me (w.facts m).role (aged (w.facts m).hearing.heard))
round_set n ns w v b r m here =
    flow_set n r.third_end v m r.fourth
    ∙ flow_set n r.second_end r.third_end m r.third
    ∙ flow_set n r.first_end r.second_end m r.second
    ∙ flow_set n r.ticks_end r.first_end m r.first
    ∙ ap (λ (g : Facts). set_of g) (r.ticks.facts m)
    ∙ ap (λ (c : Bool). set_of (served n (w.clocks m) (w.facts m) (ticks_if c))) (ap (λ (xs : List ℕ). has_node xs m) b.ups ∙ here)
    ∙ tick_set n (w.clocks m) (w.facts m) (b.up m here)

-- ---- what is shown one tick later

under_aged : (n : ℕ) (es : Table Heard) → IsUnder n es → IsUnder n (aged es)
under_aged n [] h = tt
under_aged n (e ∷ es) h = go (nat_lt (older e).1.age timeout) (under_aged n es h.1)
  where
    go : (b : Bool) → IsUnder n (aged es) → IsUnder n (cond b (older e ∷ aged es) (aged es))
    go true rest = (h.0, rest)
    go false rest = rest

pub rises_aged : (es : Table Heard) → RisesByNumber es → RisesByNumber (aged es)
rises_aged [] h = tt
rises_aged (e ∷ es) h = go (nat_lt (older e).1.age timeout) (rises_aged es h.1)
  where
    go : (b : Bool) → RisesByNumber (aged es) → RisesByNumber (cond b (older e ∷ aged es) (aged es))
    go true rest = (under_aged e.0 es h.0, rest)
    go false rest = rest

pub none_aged : (t : Table Heard) (a : ℕ) → look t a ≡ None → look (aged t) a ≡ None
none_aged [] a e = refl
none_aged (x ∷ t) a e = go (a == x.0) refl (ap (λ (b : Bool). cond b (Some x.1) (look t a)) (sym (ties a x.0)) ∙ e) (none_aged t a)
  where
    kept : (c : Bool) → (a == x.0) ≡ false → look (aged t) a ≡ None → look (cond c (older x ∷ aged t) (aged t)) a ≡ None
    kept true s f = ap (λ (b : Bool). cond b (Some (older x).1) (look (aged t) a)) (ties a x.0 ∙ s) ∙ f
    kept false s f = f

    go : (b : Bool) → (a == x.0) ≡ b → cond b (Some x.1) (look t a) ≡ None → (look t a ≡ None → look (aged t) a ≡ None) → look (aged (x ∷ t)) a ≡ None
    go true s f rest = absurd (some_none f)
      where
        some_none : Some x.1 ≡ None → ⊥
        some_none f = grind arith
    go false s f rest = kept (nat_lt (older x).1.age timeout) s (rest f)
