-- Values of worked examples: nodes, keys, digests and versions.
use Rattle.std.specs.Prelude.{ℕ, List, [], ◌∷◌, Option, None, replicate, Bool, true, false, Some}
use Rattle.conflict_order.specs.declared.policy.Policy.TheVariants.{Time}
use Rattle.conflict_order.specs.declared.version.Version.{Version}
use Rattle.conflict_order.specs.declared.version.Body.TheVariants.{Value}
use Rattle.conflict_order.specs.declared.want.Want.{Want}
use Rattle.conflict_order.specs.declared.want.Want.TheVariants as want
use Rattle.cluster_types.specs.declared.cluster_key.ClusterKey.{ClusterKey}
use Rattle.cluster_types.specs.declared.member.Member.{Member}
use Rattle.cluster_types.specs.declared.member.Role.{Role}
use Rattle.cluster_types.specs.Members.{plain_role, plain_member}
use Rattle.cluster_types.specs.declared.copy_state.CopyState.{CopyState}
use Rattle.cluster_types.specs.declared.copy_state.CopyState.TheVariants.{Part, Whole}
use Rattle.node_rules.specs.declared.beat.Beat.{Beat}
use Rattle.node_rules.specs.declared.member_row.MemberRow.{MemberRow}
use Rattle.node_rules.specs.Exchange.{begun}
use Rattle.cluster_types.specs.ClusterKeys.{none}
use Rattle.wire_messages.specs.declared.message.Batch.{Batch}
use Rattle.node_rules.specs.Batches.{Target}
use Rattle.node_rules.specs.Facts.{Facts, fresh}
use Rattle.node_rules.specs.Stamps.{no_class}
use Rattle.wire_messages.specs.declared.message.Message.TheVariants as message
use Rattle.node_rules.specs.Steps.{after_tick, after_request, after_message, after_stop, after_start}
use Rattle.node_rules.specs.Transactions.{Write}

-- the key of that round and principal
abbrev pub key : ℕ → ℕ → ClusterKey
key round principal = record { round = round; principal = principal }

-- the role of a node in rack 3 that is quiesced
abbrev pub racked : Role
racked = record { rack = 3; quiesced = true }

-- a node that is alone, to which nothing has happened
abbrev pub lone : Facts
lone = fresh 1 plain_role [] 1 Time

-- its only member
abbrev pub itself : List Member
itself = plain_member 1 ∷ []

-- after two ticks, and after the tick at which it enters its view
abbrev pub ticked_twice : Facts
ticked_twice = after_tick (after_tick lone)

-- the node in its view
abbrev pub in_its_view : Facts
in_its_view = after_tick ticked_twice

-- the digest of twenty bytes 0, whose partition is 0
abbrev pub zeros : List ℕ
zeros = replicate 20 0

-- a digest whose partition is 7
abbrev pub seven : List ℕ
seven = 7 ∷ replicate 19 0

-- two bytes, and the version 0.1 of them
abbrev pub hi : List ℕ
hi = 104 ∷ 105 ∷ []

-- the version 0.1 of them
abbrev pub first_hi : Version
first_hi = record { lut = 0; generation = 1; body = Value hi }

-- the node after a put of them at time 0
abbrev pub having_hi : Facts
having_hi = after_request in_its_view 0 zeros (want.Put hi)

-- a node with an open put of them in view 1.1, which it applied or not
abbrev pub writing_hi : Option Write → Facts
writing_hi applied = record lone {
  exchange = begun 1 (key 1 1) itself [];
  transactions = record {
    opened = 1;
    running =
        record {
          number = 1;
          digest = zeros;
          want = want.Put hi;
          asked = 2 ∷ [];
          best = None;
          awaiting = 2 ∷ [];
          applied = applied;
        }
        ∷ [];
  };
}

-- the write of that put
abbrev pub hi_written : Write
hi_written = record { version = first_hi; nth = 1 }

-- a node that promised 2.1 and entered 1.1 last
abbrev pub promised_two : Facts
promised_two = record lone {
  agreement = record { promised = key 2 1; last = key 1 1; proposal = None; seen = 0 };
}

-- plain members 2 and 1
abbrev pub two : List Member
two = plain_member 2 ∷ plain_member 1 ∷ []

-- the row of one partition
abbrev pub row_of : ℕ → ℕ → CopyState → MemberRow
row_of node p state = record { node = node; row = (p, state) ∷ [] }

-- four members' rows of partition 7: two copies that were whole under 2.1 with one count, one under
-- 2.1 without a count, and one that is a part; a fifth member's copy is empty
abbrev pub five_rows : List MemberRow
five_rows =
    row_of 1 7 (Whole (key 2 1) 3)
    ∷ row_of 2 7 (Whole (key 2 1) no_class)
    ∷ row_of 3 7 (Whole (key 2 1) 3)
    ∷ row_of 4 7 Part
    ∷ record { node = 5; row = [] }
    ∷ []

-- a list of the five
abbrev pub five : List ℕ
five = 5 ∷ 4 ∷ 3 ∷ 2 ∷ 1 ∷ []

-- what a node beats that has been in no view and promised to none, and hears these nodes
abbrev pub first_beat : List ℕ → Beat
first_beat hears = record { view = none; promised = none; hears = hears; role = plain_role }

-- node 2 of a script of two nodes, which has heard at one tick that node 1 hears it
abbrev pub hearing_one : Facts
hearing_one = record (fresh 2 plain_role (1 ∷ []) 2 Time) {
  hearing = record {
    heard = (1, record { age = 0; beat = first_beat (2 ∷ []) }) ∷ [];
    set = Some two;
    quiet = 1;
  };
}

-- the same node after the tick at which it proposes
abbrev pub proposing_two : Facts
proposing_two = after_tick hearing_one

-- a row of eight bits, all of them the same
abbrev pub eight : Bool → List Bool
eight b = replicate 8 b

-- a member of view 2.2 of nodes 2 and 1 that has finished the exchange of these rows, has nothing
-- pending, knows the other done or not, and handed the partitions over or didn't
abbrev pub migrating : ℕ → ℕ → List MemberRow → Bool → Bool → Facts
migrating me other rows done handed = record (fresh me plain_role (other ∷ []) 2 Time) {
  exchange =
      record {
        view = Some (record { key = key 2 2; members = two });
        rows = rows;
        exchanged = true;
      };
  bits =
      record {
        done = (other, eight done) ∷ [];
        handed = eight handed;
        settled = eight false;
        own_handed = eight handed;
        own_settled = eight false;
        learnt = eight false;
      };
}

-- such a node, which then hears of the other that all is handed over, or settled
abbrev pub hearing_of_all : Bool → Bool → ℕ → ℕ → List MemberRow → Facts
hearing_of_all handed settled me other rows =
    after_message (migrating me other rows true false) 0 other
    (message.Progress (key 2 2) false (eight true) (eight handed) (eight settled))

-- rows of partition 7 of which one node's is whole and the other's a part
abbrev pub whole_and_part : ℕ → ℕ → List MemberRow
whole_and_part whole part = row_of whole 7 (Whole (key 1 whole) 0) ∷ row_of part 7 Part ∷ []

-- a batch of one record, and a target to which it is out
abbrev pub batch_of_hi : Batch
batch_of_hi = record { key = key 2 2; number = 3; records = (zeros, first_hi) ∷ [] }

-- a target to which that batch is out
abbrev pub sent_hi : Target
sent_hi = record { node = 1; pending = zeros ∷ []; out = Some batch_of_hi; batches = 3 }

-- a node that has promised 2.1, entered it, and was stopped and started
abbrev pub restarted : Facts
restarted = after_start (after_stop (after_message promised_two 0 2 (message.Commit (key 2 1) two)))

-- node 2 in view 2.2 of nodes 2 and 1, as it waits for the answer of node 1 to that request
abbrev pub waiting_for : Want → Facts
waiting_for w = record (migrating 2 1 (whole_and_part 2 1) false false) {
  transactions = record {
    opened = 1;
    running =
        record {
          number = 1;
          digest = seven;
          want = w;
          asked = 1 ∷ [];
          best = None;
          awaiting = 1 ∷ [];
          applied = None;
        }
        ∷ [];
  };
}

-- the version that a put of them at time 5 makes of the first one
abbrev pub second_hi : Version
second_hi = record { lut = 5; generation = 2; body = Value hi }

-- node 1 in view 2.2, which has its own row alone
abbrev pub lacking_two : Facts
lacking_two = record lone { exchange = begun 1 (key 2 2) two ((7, Part) ∷ []) }
