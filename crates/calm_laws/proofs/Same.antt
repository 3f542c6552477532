-- What of a node no tick and no message changes: who it is, its peers, its factor and role, and whether it runs.
use Rattle.std.proofs.Common.{◌≡◌, ℕ, Bool, true, false, List, [], ◌∷◌, Option, None, refl, ◌∙◌}
use Rattle.conflict_order.specs.declared.want.Want.{Want}
use Rattle.conflict_order.specs.declared.version.Version.{Version}
use Rattle.cluster_types.specs.declared.cluster_key.ClusterKey.{ClusterKey}
use Rattle.cluster_types.specs.Partitions.{partition_of}
use Rattle.wire_messages.specs.declared.message.Message.{Message}
use Rattle.wire_messages.specs.declared.message.Message.TheVariants as message
use Rattle.journal_lines.specs.declared.line.Line.{Line}
use Rattle.journal_lines.specs.declared.line.Line.TheVariants as line
use Rattle.node_rules.specs.Copies.{Row}
use Rattle.node_rules.specs.Facts.{Facts, list_at}
use Rattle.node_rules.specs.Notes as notes
use Rattle.node_rules.specs.Notes.{note, noted, reached, sent, all_sent, in_view}
use Rattle.calm_laws.specs.Acts.{Input, Ticks, Gets, facing, effects, as_read, acted, served}
use Rattle.calm_laws.proofs.Own.{OwnLine, OwnLines, message_own, tick_own}

pub record Same (g f : Facts) : Type 0 where
  pub me : g.me ≡ f.me
  pub peers : g.peers ≡ f.peers
  pub factor : g.factor ≡ f.factor
  pub role : g.role ≡ f.role
  pub up : g.up ≡ f.up

pub same_refl : (f : Facts) → Same f f
same_refl f = record { me = refl; peers = refl; factor = refl; role = refl; up = refl }

pub same_on : (h g f : Facts) → Same h g → Same g f → Same h f
same_on h g f a b = record { me = a.me ∙ b.me; peers = a.peers ∙ b.peers; factor = a.factor ∙ b.factor; role = a.role ∙ b.role; up = a.up ∙ b.up }

note_same : (q : Option Want) (f : Facts) (a : ℕ) (l : Line) → OwnLine a l → Same (note q f l) f
note_same q f a (line.Stop n) h = absurd h
note_same q f a (line.Start n) h = absurd h
note_same q f a (line.Quiesce n) h = absurd h
note_same q f a (line.Unquiesce n) h = absurd h
note_same q f a l h = record { me = refl; peers = refl; factor = refl; role = refl; up = refl }

pub noted_same : (q : Option Want) (f : Facts) (a : ℕ) (ls : List Line) → OwnLines a ls → Same (noted q f ls) f
noted_same q f a [] h = same_refl f
noted_same q f a (l ∷ ls) h = same_on (noted q (note q f l) ls) (note q f l) f (noted_same q (note q f l) a ls h.1) (note_same q f a l h.0)

row_same : (f : Facts) (from : ℕ) (row : Row) (b : Bool) → Same (notes.row_came f from row b) f
row_same f from row true = record { me = refl; peers = refl; factor = refl; role = refl; up = refl }
row_same f from row false = same_refl f

batch_same : (f : Facts) (from number : ℕ) (b : Bool) → Same (notes.batch_acked f from number b) f
batch_same f from number true = record { me = refl; peers = refl; factor = refl; role = refl; up = refl }
batch_same f from number false = same_refl f

progress_same : (f : Facts) (from : ℕ) (done handed settled : List Bool) (b : Bool) → Same (notes.progress_came f from done handed settled b) f
progress_same f from done handed settled true = record { me = refl; peers = refl; factor = refl; role = refl; up = refl }
progress_same f from done handed settled false = same_refl f

counted_same : (f : Facts) (key : ClusterKey) (l : List ℕ) (p nth : ℕ) (b : Bool) → Same (notes.write_counted_if f key l p nth b) f
counted_same f key l p nth true = record { me = refl; peers = refl; factor = refl; role = refl; up = refl }
counted_same f key l p nth false = same_refl f

write_same : (f : Facts) (from : ℕ) (key : ClusterKey) (nth p : ℕ) (b : Bool) → Same (notes.write_came f from key nth p b) f
write_same f from key nth p true = counted_same f key (list_at f p) p nth _
write_same f from key nth p false = same_refl f

ack_same : (f : Facts) (from number : ℕ) (b : Bool) → Same (notes.write_acked f from number b) f
ack_same f from number true = record { me = refl; peers = refl; factor = refl; role = refl; up = refl }
ack_same f from number false = same_refl f

answer_same : (f : Facts) (from number : ℕ) (v : Option Version) (b : Bool) → Same (notes.answer_came f from number v b) f
answer_same f from number v true = record { me = refl; peers = refl; factor = refl; role = refl; up = refl }
answer_same f from number v false = same_refl f

pub reached_same : (f : Facts) (from : ℕ) (m : Message) → Same (reached f from m) f
reached_same f from (message.State key wants row) = row_same f from row (in_view f key)
reached_same f from (message.BatchAck key number) = batch_same f from number (in_view f key)
reached_same f from (message.Progress key wants done handed settled) = progress_same f from done handed settled (in_view f key)
reached_same f from (message.Repl key t nth digest v) = write_same f from key nth (partition_of digest) (in_view f key)
reached_same f from (message.ReplAck key t) = ack_same f from t (in_view f key)
reached_same f from (message.Answer key t v) = answer_same f from t v (in_view f key)
reached_same f from m = record { me = refl; peers = refl; factor = refl; role = refl; up = refl }

sent_same : (f : Facts) (to : ℕ) (m : Message) → Same (sent f to m) f
sent_same f to (message.Propose key members) = record { me = refl; peers = refl; factor = refl; role = refl; up = refl }
sent_same f to (message.Batch b) = record { me = refl; peers = refl; factor = refl; role = refl; up = refl }
sent_same f to m = record { me = refl; peers = refl; factor = refl; role = refl; up = refl }

pub all_sent_same : (f : Facts) (ms : List (ℕ × Message)) → Same (all_sent f ms) f
all_sent_same f [] = same_refl f
all_sent_same f (m ∷ ms) = same_on (all_sent (sent f m.0 m.1) ms) (sent f m.0 m.1) f (all_sent_same (sent f m.0 m.1) ms) (sent_same f m.0 m.1)

facing_same : (f : Facts) (i : Input) → Same (facing f i) f
facing_same f Ticks = same_refl f
facing_same f (Gets from m) = reached_same f from m

pub effects_own : (n clock : ℕ) (f : Facts) (i : Input) → OwnLines f.me (effects n clock f i).lines
effects_own n clock f Ticks = tick_own n f
effects_own n clock f (Gets from m) = message_own n f clock from m

pub acted_same : (n clock : ℕ) (f : Facts) (i : Input) → Same (acted n clock f i) f
acted_same n clock f i =
    let g : Facts = noted None (facing f i) (effects n clock f i).lines in
    same_on (acted n clock f i) g f (all_sent_same g (as_read (effects n clock f i).sends))
    (same_on g (facing f i) f (noted_same None (facing f i) f.me (effects n clock f i).lines (effects_own n clock f i)) (facing_same f i))

pub served_same : (n clock : ℕ) (f : Facts) (is : List Input) → Same (served n clock f is) f
served_same n clock f [] = same_refl f
served_same n clock f (i ∷ is) = same_on (served n clock (acted n clock f i) is) (acted n clock f i) f (served_same n clock (acted n clock f i) is) (acted_same n clock f i)
