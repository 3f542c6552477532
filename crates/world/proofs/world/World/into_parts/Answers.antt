use Rattle.std.proofs.Common.{ap, sym, subst, ◌∙◌}
use Rattle.journal_text.specs.Journals.{Contents, IsWithin}
use Rattle.world.specs.Claims.{HasClaims}
use Rattle.world.proofs.Claimed.{has_claims}
use Rattle.world.proofs.KeepLaws.{fits_of}
use Rattle.world.proofs.world.World.into_parts.Goals as goal

pub returns-clause-lines : goal.returns-clause-lines
returns-clause-lines c = ap (λ (j : Contents). j.lines) c.into_journal-journal.ensures ∙ (fits_of c.self.inside _ c.self.view_is c.self.invariant).journal

pub returns-clause-within : goal.returns-clause-within
returns-clause-within c = subst (λ (j : Contents). IsWithin j.lines) (sym c.into_journal-journal.ensures) (fits_of c.self.inside _ c.self.view_is c.self.invariant).within

pub returns-clause-taken : goal.returns-clause-taken
returns-clause-taken c = (fits_of c.self.inside _ c.self.view_is c.self.invariant).taken

pub returns-clause-claims : goal.returns-clause-claims
returns-clause-claims c =
    let fits = fits_of c.self.inside c.args.self c.self.view_is c.self.invariant in
    subst (λ (j : Contents). HasClaims j.lines) (sym c.into_journal-journal.ensures) (has_claims c.args.self c.self.inside.ledger.journal.lines fits.taken fits.journal)
