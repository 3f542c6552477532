-- Events that do nothing.
use Rattle.cluster_rules.specs.declared.event.Event.{Event}
use Rattle.cluster_rules.specs.declared.event.Event.TheVariants as event

-- no script has these yet: they are a proxy's, a call's or a scan's
abbrev pub DoesNothing : Event → Type 0
DoesNothing (event.ProxyGet n d) = Unit {0}
DoesNothing (event.ProxyPut n d v) = Unit {0}
DoesNothing (event.ProxyDel n d) = Unit {0}
DoesNothing (event.ProxyAgain n) = Unit {0}
DoesNothing (event.CallGet d) = Unit {0}
DoesNothing (event.CallPut d v) = Unit {0}
DoesNothing (event.CallDel d) = Unit {0}
DoesNothing (event.CallAgain q) = Unit {0}
DoesNothing (event.Scan p) = Unit {0}
DoesNothing (event.ScanNext s) = Unit {0}
DoesNothing _ = ⊥
