-- What is known of a world that taken steps lead to: all laws of every run, by the front behind those steps.
use Rattle.std.proofs.Common.{◌≡◌, ℕ, ◌+◌, ◌<◌, List, [], Some, length, ap, subst, ◌∙◌, append-nil}
use Rattle.wire_messages.specs.declared.message.Message.{Message}
use Rattle.wire_messages.specs.Decoding.{message_of}
use Rattle.journal_readings.specs.Messages.{Posting}
use Rattle.cluster_rules.specs.Network.{posting_at}
use Rattle.cluster_rules.specs.Opening.{declared_factor, declared_nodes, declared_policy}
use Rattle.cluster_rules.specs.Steps.{Step, all_lines, all_marks}
use Rattle.cluster_rules.specs.World.{World}
use Rattle.key_laws.specs.Licences.{Says}
use Rattle.key_laws.proofs.Kept.{WasPosted, was_posted}
use Rattle.run_laws.specs.Fronts.{Front, front_after_all, facts_at, world_of}
use Rattle.run_laws.specs.Taken.{first, line_bound}
use Rattle.run_laws.specs.Worlds.{SendsAreRead}
use Rattle.run_laws.proofs.Journal.{world_all}
use Rattle.run_laws.proofs.WorldSends.{Knows, knows, sends_are_read}
use Rattle.calm_laws.specs.Onward.{MayTake}
use Rattle.calm_laws.proofs.Onward.{taken_before}

-- the front behind the steps that lead to the world
abbrev pub front_of : {w : World} → MayTake w [] → Front
front_of m = front_after_all (first m.header) (all_marks m.before)

pub world_is : {w : World} (m : MayTake w []) → world_of (front_of m) ≡ w
world_is m = world_all (first m.header) (all_marks m.before) ∙ m.leads

pub facts_are : {w : World} (m : MayTake w []) (n : ℕ) → facts_at (front_of m) n ≡ w.facts n
facts_are m n = ap (λ (u : World). u.facts n) (world_is m)

pub room_before : {w : World} (m : MayTake w []) → length (all_lines m.before) + 1 < line_bound
room_before m = subst (λ (ss : List Step). length (all_lines ss) + 1 < line_bound) (append-nil m.before) m.room

pub known : {w : World} (m : MayTake w []) → Knows (declared_policy m.header) (declared_factor m.header) (declared_nodes m.header) (front_of m)
known m = knows m.header m.before (taken_before m) (room_before m)

-- what is due there is read as it is sent
pub read_there : {w : World} → MayTake w [] → SendsAreRead w
read_there m = subst SendsAreRead m.leads (sends_are_read m.header m.before (taken_before m) (room_before m))

-- what a message that was sent there says
pub said_there : {w : World} (m : MayTake w []) (i : ℕ) (p : Posting) (x : Message) → posting_at w.network i ≡ Some p → message_of p.bytes ≡ Some x → Says (front_of m).chronicle.traced p.from x
said_there m i p x stands read =
    let t = (front_of m).chronicle.traced in
    let s : WasPosted t p = was_posted t i p (ap (λ (u : World). posting_at u.network i) (world_is m) ∙ stands) in
    (known m).lawful.sound.sent s.place p x s.stands read
