use Rattle.std.proofs.Common.{ap}
use Rattle.std.proofs.lemmas.List.Elements.{All-contains_itself}
use Rattle.node_rules.specs.Agreement.{others_among}
use Rattle.clustering.proofs.stage.Proposing.of.Goals as goal

pub returns-clause-stage : goal.returns-clause-stage
returns-clause-stage c = record {
  promised = c.requires.promised;
  led = c.requires.led;
  member = c.requires.member;
  waits = rw (c.without.ensures, c.ids.ensures) (All-contains_itself (others_among c.args.keys.now.me c.args.members.now));
}
