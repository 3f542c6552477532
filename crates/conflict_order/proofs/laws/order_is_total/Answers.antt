use Rattle.conflict_order.proofs.OrderLaws.{version_cmp_total, version_cmp-IsAntisymmetric}
use Rattle.conflict_order.proofs.laws.order_is_total.Goals as goal

pub returns : goal.returns
returns c = record { total = version_cmp_total; equality = version_cmp-IsAntisymmetric }
