use Rattle.std.proofs.Common.{◌∙◌, sym}
use Rattle.digest_ripemd.proofs.Feeding.{fed-append}
use Rattle.digest_ripemd.proofs.hasher.Ripemd160.update.Goals as goal

pub returns-clause-message : goal.returns-clause-message
returns-clause-message c = λ message is.
    sym (fed-append _ _ message c.args.piece.now (c.self.view_is ∙ is) c.absorb.ensures)
