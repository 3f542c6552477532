use Rattle.world.proofs.Claimed.{has_claims}
use Rattle.world.proofs.KeepLaws.{fits_of}
use Rattle.world.proofs.world.World.journal.Goals as goal

pub returns-clause-lines : goal.returns-clause-lines
returns-clause-lines c = (fits_of c.self.inside _ c.self.view_is c.self.invariant).journal

pub returns-clause-within : goal.returns-clause-within
returns-clause-within c = (fits_of c.self.inside _ c.self.view_is c.self.invariant).within

pub returns-clause-taken : goal.returns-clause-taken
returns-clause-taken c = (fits_of c.self.inside _ c.self.view_is c.self.invariant).taken

pub returns-clause-claims : goal.returns-clause-claims
returns-clause-claims c =
    let fits = fits_of c.self.inside c.args.self.now c.self.view_is c.self.invariant in
    has_claims c.args.self.now _ fits.taken fits.journal
