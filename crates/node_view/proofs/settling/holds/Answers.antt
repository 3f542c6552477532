use Rattle.node_view.proofs.HereLaws.{empty_holds, part_holds, whole_holds}
use Rattle.node_view.proofs.settling.holds.Goals as goal

pub returns-in-Empty : goal.returns-in-Empty
returns-in-Empty c = empty_holds _ _ c.in-Empty.ensures

pub returns-in-Part : goal.returns-in-Part
returns-in-Part c = part_holds _ _ c.in-Part.ensures

pub returns-in-Whole : goal.returns-in-Whole
returns-in-Whole c = whole_holds _ _ _ _ c.in-Whole.ensures
