-- Reads and writes join their view, as one line more comes.
use Rattle.std.proofs.Common.{◌≡◌, true, false, List, [], ◌∷◌, ◌++◌, ◌⊎◌, inl, inr, refl, sym, ap, ◌∙◌}
use Rattle.std.specs.Prelude.{take, IsTrue}
use Rattle.conflict_order.specs.declared.policy.Policy.{Policy}
use Rattle.conflict_order.specs.Next.{next}
use Rattle.journal_lines.specs.declared.line.Line.{Line}
use Rattle.journal_lines.specs.declared.line.Line.TheVariants as line
use Rattle.journal_readings.specs.Settings.{policy_of, clock_of}
use Rattle.journal_readings.specs.Entries.{fold_of}
use Rattle.journal_readings.specs.Claims.{ReadJoin, JoinsView}
use Rattle.journal_readings.specs.Shape.{Shape, is_header, follows_header}
use Rattle.audit_laws.proofs.Tests.{differ}
use Rattle.audit_laws.proofs.Places.{each-more, each-front, each-last}
use Rattle.audit_laws.proofs.Headers.{policy_stays, IsBare, behind_header}
use Rattle.audit_laws.proofs.ShapeSteps.{bare_line}

-- of the journal the claim asks only the policy
same_joins : (a b : List Line) → policy_of a ≡ policy_of b → (before : List Line) (x : Line) → JoinsView a before x → JoinsView b before x
same_joins a b e before (line.Value n k t d v) h = h ∙ ap (λ (by : Policy). fold_of by k d before) e
same_joins a b e before (line.Apply n k t d v) h = h ∙ ap (λ (by : Policy). next (fold_of by k d before) (clock_of n before) v.body) e
same_joins a b e before x h = tt

-- it asks nothing of a line of a header
header_joins : (j before : List Line) (x : Line) → is_header x ≡ true → JoinsView j before x
header_joins j before (line.Value n k t d v) h = differ h refl
header_joins j before (line.Apply n k t d v) h = differ h refl
header_joins j before x h = tt

pub follows : (j : List Line) (l : Line) → Shape (j ++ l ∷ []) → (is_header l ≡ false) ⊎ (IsBare j × (is_header l ≡ true))
follows j l s = behind_header j l (each-last (λ b x. IsTrue (follows_header b x)) j l s.header)

pub reads_front : (j : List Line) (l : Line) → Shape (j ++ l ∷ []) → ReadJoin (j ++ l ∷ []) → ReadJoin j × JoinsView j j l
reads_front j l s h = go (follows j l s)
  where
    all : List Line
    all = j ++ l ∷ []

    go : (is_header l ≡ false) ⊎ (IsBare j × (is_header l ≡ true)) → ReadJoin j × JoinsView j j l
    go (inl o) = (
      record { joined = λ i x e. same_joins all j (policy_stays j l o) (take i j) x (each-front (JoinsView all) j l h.joined i x e) },
      same_joins all j (policy_stays j l o) j l (each-last (JoinsView all) j l h.joined),
    )
    go (inr o) = (record { joined = λ i x e. header_joins j (take i j) x (bare_line j i x o.0 e) }, header_joins j j l o.1)

pub reads_more : (j : List Line) (l : Line) → Shape (j ++ l ∷ []) → ReadJoin j → JoinsView j j l → ReadJoin (j ++ l ∷ [])
reads_more j l s h f = go (follows j l s)
  where
    all : List Line
    all = j ++ l ∷ []

    go : (is_header l ≡ false) ⊎ (IsBare j × (is_header l ≡ true)) → ReadJoin all
    go (inl o) = record { joined = each-more (JoinsView all) j l (λ i x e. same_joins j all (sym (policy_stays j l o)) (take i j) x (h.joined i x e)) (same_joins j all (sym (policy_stays j l o)) j l f) }
    go (inr o) = record { joined = each-more (JoinsView all) j l (λ i x e. header_joins all (take i j) x (bare_line j i x o.0 e)) (header_joins all j l o.1) }
