use Rattle.std.proofs.Common.{◌≡◌, ◌++◌, drop}
use Rattle.std.specs.Option.{option_copied}
use Rattle.node_steps.specs.Spelled.{spelled_sends}
use Rattle.request_rules.specs.LineNotes.{noted_requests}
use Rattle.request_rules.specs.TakenUp.{owed}
use Rattle.node_requests.specs.Changes.{CanMakeAll, all_changed, kept}
use Rattle.node_requests.specs.Planned.{CanAllCount, HaveSpellings}
use Rattle.node_requests.proofs.planning.Planner.plan_lines.Given as goal

abbrev pub invariant-loop-i : goal.invariant-loop-i
invariant-loop-i l = record {
  count : CanAllCount l.self.asker (option_copied l.self.want) (all_changed (kept l.self.proxies.now) l.changes) (drop l.i l.lines);
  spelled : HaveSpellings (owed l.self.key l.self.asker (all_changed (kept l.self.proxies.now) l.changes).taken (drop l.i l.lines));
  can : CanMakeAll (kept l.self.proxies.now) l.changes;
  changes : noted_requests l.self.asker (option_copied l.self.want) (all_changed (kept l.self.proxies.now) l.changes) (drop l.i l.lines)
      ≡ noted_requests l.self.asker (option_copied l.self.want) (kept l.self.proxies.now) l.lines;
  sends : l.sends ++ spelled_sends (owed l.self.key l.self.asker (all_changed (kept l.self.proxies.now) l.changes).taken (drop l.i l.lines))
      ≡ l.initial.sends ++ spelled_sends (owed l.self.key l.self.asker l.self.proxies.now.taken l.lines);
}
