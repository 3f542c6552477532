-- What a want does.
use Rattle.conflict_order.specs.declared.want.Want.{Want}
use Rattle.conflict_order.specs.declared.want.Want.TheVariants as want
use Rattle.conflict_order.specs.declared.want.Action.{Action}
use Rattle.conflict_order.specs.declared.want.Action.TheVariants as action

abbrev pub action_of : Want → Action
action_of want.Get = action.Get
action_of (want.Put value) = action.Put
action_of want.Del = action.Del
