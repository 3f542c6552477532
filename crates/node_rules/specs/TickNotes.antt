-- What a tick, a start and a stop make of a node's facts, and a role that it has from then on.
use Rattle.std.specs.Prelude.{Bool, true, false, List, []}
use Rattle.cluster_types.specs.declared.member.Member.{Member}
use Rattle.cluster_types.specs.declared.member.Role.{Role}
use Rattle.node_rules.specs.Agreement as agreement
use Rattle.node_rules.specs.Bits.{no_bits}
use Rattle.node_rules.specs.Exchange.{outside}
use Rattle.node_rules.specs.Facts.{Facts}
use Rattle.node_rules.specs.Hearing.{Hearing, ticked, deaf, neighbours_of}
use Rattle.node_rules.specs.Stamps.{no_writes}
use Rattle.node_rules.specs.Transactions.{no_transactions}

-- who the neighbours are, as it was heard so far
abbrev pub neighbours : Facts → List Member
neighbours f = neighbours_of f.me f.role f.hearing.heard

-- what is heard is this now, and a proposal of other nodes than the neighbours is given up
abbrev pub with_hearing : Facts → Hearing → Facts
with_hearing f h = record f {
  hearing = h;
  agreement = agreement.still_proposing f.agreement (neighbours_of f.me f.role h.heard);
}

-- a tick: all that was heard is one tick older, and a proposal of other nodes than the neighbours is given up
abbrev pub after_ages : Facts → Facts
after_ages f = with_hearing f (ticked f.me f.role f.hearing)

-- a stop: the store with its stamps, the promised key and the last key stay, and all else is lost
abbrev pub stopped : Facts → Facts
stopped f = record f {
  up = false;
  hearing = deaf;
  agreement = agreement.stopping f.agreement;
  exchange = outside;
  writes = no_writes;
  transactions = no_transactions;
  batches = [];
  bits = no_bits;
}

-- a start
abbrev pub started : Facts → Facts
started f = record f { up = true }

-- the node has another role from now on; its next heartbeat tells it, and a stopped node keeps it
abbrev pub with_role : Facts → Role → Facts
with_role f role = record f { role = role }

-- the node's mark is set or taken back
abbrev pub marked : Facts → Bool → Facts
marked f quiesced = with_role f (record { rack = f.role.rack; quiesced = quiesced })
