use Rattle.cluster_laws.proofs.ReadingClasses.{equal_classes}
use Rattle.cluster_laws.proofs.claims.equal_classes.Goals as goal

pub returns : goal.returns
returns c = equal_classes
