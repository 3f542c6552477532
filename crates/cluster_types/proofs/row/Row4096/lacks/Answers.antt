use Rattle.std.proofs.Common.{◌≡◌, ◌<◌, ℕ, List, Bool, true, false, sym, ap, subst, ◌∙◌}
use Rattle.cluster_types.specs.RowBytes.{AreRowBytes, bits_of}
use Rattle.cluster_types.specs.Rows.{bit}
use Rattle.cluster_types.proofs.RowLaws.{has_each, lacked_in}
use Rattle.cluster_types.proofs.row.Row4096.lacks.Goals as goal

pub returns-clause-none : goal.returns-clause-none
returns-clause-none c e p there =
    let own = ap bits_of c.as_slice.ensures ∙ c.self.view_is in
    let others = ap bits_of c.as_slice-2.ensures ∙ c.other.view_is in
    subst (λ (row : List Bool). bit row p ≡ true) own
    (has_each c.as_slice.result.now c.as_slice-2.result.now (c.lacks_some.ensures.none e) p (subst (λ (row : List Bool). bit row p ≡ true) (sym others) there))

pub returns-clause-some : goal.returns-clause-some
returns-clause-some c e =
    let own = ap bits_of c.as_slice.ensures ∙ c.self.view_is in
    let others = ap bits_of c.as_slice-2.ensures ∙ c.other.view_is in
    let at = c.lacks_some.ensures.some e in
    let small = subst AreRowBytes (sym c.as_slice.ensures) c.self.invariant in
    let fits = subst AreRowBytes (sym c.as_slice-2.ensures) c.other.invariant in
    subst (λ (row : List Bool). (p : ℕ) × (p < 4096) × (bit row p ≡ true) × (bit c.args.self.now p ≡ false)) others
    (subst (λ (row : List Bool). (p : ℕ) × (p < 4096) × (bit (bits_of c.as_slice-2.result.now) p ≡ true) × (bit row p ≡ false)) own
    (lacked_in c.as_slice.result.now c.as_slice-2.result.now at.0 at.1 (small.small at.0) (fits.small at.0) at.2))
