use Rattle.node_view.proofs.AnewLaws.{watch_anew}
use Rattle.node_view.proofs.HandingLaws.{handed_targets}
use Rattle.node_view.proofs.view.View.take_last_row.Goals as goal

pub finish-requires-clause-targeted : goal.finish-requires-clause-targeted
finish-requires-clause-targeted c =
    handed_targets c.args.self.now c.args.store.now c.args.last.from c.args.last.row c.args.last.emigration.targets c.requires.targets

pub returns-clause-watch : goal.returns-clause-watch
returns-clause-watch c =
    watch_anew c.args.store.now c.finish.new.self c.count_unsettled.new.self c.wake_all.new.self (record {
      counted = c.count_unsettled.ensures.same;
      woken = c.wake_all.ensures.same;
      count = c.count_unsettled.ensures.count;
      live = c.wake_all.ensures.live;
    })
