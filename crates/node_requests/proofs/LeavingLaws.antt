-- Where the lines of what is given up stand.
use Rattle.std.proofs.Common.{◌≡◌, Bool, true, false, cond, not, ◌&&◌, ◌||◌, ℕ, List, [], ◌∷◌, ◌++◌, map, refl, sym, ap, ◌∙◌}
use Rattle.std.specs.List.{list_any}
use Rattle.std.proofs.lemmas.List.{append_assoc, append-nil}
use Rattle.cluster_types.proofs.BoolFacts.{neither_left, neither_right}
use Rattle.cluster_types.specs.declared.cluster_key.ClusterKey.{ClusterKey}
use Rattle.journal_lines.specs.declared.line.Line.{Line}
use Rattle.journal_lines.specs.declared.line.Line.TheVariants as line
use Rattle.request_rules.specs.declared.passed.Passed.{Passed}
use Rattle.request_rules.specs.ByNumber.{ByNumber}
use Rattle.request_rules.specs.Passing.{given_up, leaves, with_given_up}
use Rattle.node_requests.specs.declared.leaving.GivenUp.{GivenUp}
use Rattle.node_requests.specs.Leaving.{given_up_lines, lines_if, still_to_come, with_lines_of}

same_lines : (g : GivenUp) (ps : ByNumber Passed) → map (λ p. p.0) ps ≡ g.numbers → given_up_lines g ≡ map (given_up g.node g.key) ps
same_lines g ps e = ap (map (λ x. line.Unproxied g.node g.key x)) (sym e) ∙ mapped ps
  where
    mapped : (qs : ByNumber Passed) → map (λ x. line.Unproxied g.node g.key x) (map (λ q. q.0) qs) ≡ map (given_up g.node g.key) qs
    mapped [] = refl
    mapped (q ∷ qs) = ap (λ ls. given_up g.node g.key q ∷ ls) (mapped qs)

pub with_lines_is : (g : GivenUp) (ps : ByNumber Passed) (ls : List Line) → map (λ p. p.0) ps ≡ g.numbers → with_lines_of g ls ≡ with_given_up ps g.key g.node ls
with_lines_is g ps [] e = refl
with_lines_is g ps (l ∷ ls) e =
    ap (λ up. cond (leaves g.node l) (up ++ l ∷ ls) (l ∷ with_lines_of g ls)) (same_lines g ps e)
    ∙ ap (λ rest. cond (leaves g.node l) (map (given_up g.node g.key) ps ++ l ∷ ls) (l ∷ rest)) (with_lines_is g ps ls e)

-- the lines so far and those still to come, one line on
pub goes_on : (g : GivenUp) (told : List Line) (left : Bool) (l : Line) (ls : List Line) → ((told ++ lines_if g (not left && leaves g.node l)) ++ l ∷ []) ++ still_to_come g (left || leaves g.node l) ls ≡ told ++ still_to_come g left (l ∷ ls)
goes_on g told true l ls = ap (λ xs. (xs ++ l ∷ []) ++ ls) (append-nil told) ∙ append_assoc told (l ∷ []) ls
goes_on g told false l ls = go (leaves g.node l)
  where
    go : (c : Bool) → ((told ++ lines_if g c) ++ l ∷ []) ++ still_to_come g c ls ≡ told ++ cond c (given_up_lines g ++ l ∷ ls) (l ∷ with_lines_of g ls)
    go true = append_assoc (told ++ given_up_lines g) (l ∷ []) ls ∙ append_assoc told (given_up_lines g) (l ∷ ls)
    go false = ap (λ xs. (xs ++ l ∷ []) ++ with_lines_of g ls) (append-nil told) ∙ append_assoc told (l ∷ []) (with_lines_of g ls)

-- ---- steps that keep their lines

stays_if : (b : Bool) (up : List Line) (l : Line) (ls rest : List Line) → b ≡ false → rest ≡ ls → cond b (up ++ l ∷ ls) (l ∷ rest) ≡ l ∷ ls
stays_if b up l ls rest e h = rw e (ap (λ ms. l ∷ ms) h)

pub staying : (ps : ByNumber Passed) (key : ClusterKey) (n : ℕ) (ls : List Line) → list_any (leaves n) ls ≡ false → with_given_up ps key n ls ≡ ls
staying ps key n [] e = refl
staying ps key n (l ∷ ls) e =
    stays_if (leaves n l) (map (given_up n key) ps) l ls (with_given_up ps key n ls) (neither_left (leaves n l) (list_any (leaves n) ls) e)
    (staying ps key n ls (neither_right (leaves n l) (list_any (leaves n) ls) e))

pub nothing_numbered : (ps : ByNumber Passed) (ns : List ℕ) → ns ≡ map (λ p. p.0) ps → ns ≡ [] → ps ≡ []
nothing_numbered [] ns e h = refl
nothing_numbered (p ∷ ps) ns e h = absurd (let wrong : p.0 ∷ map (λ q. q.0) ps ≡ [] = sym e ∙ h in cc)

nothing_parted_if : (b : Bool) (l : Line) (ls rest : List Line) → rest ≡ ls → cond b (l ∷ ls) (l ∷ rest) ≡ l ∷ ls
nothing_parted_if true l ls rest e = refl
nothing_parted_if false l ls rest e = ap (λ ms. l ∷ ms) e

pub nothing_waits : (ps : ByNumber Passed) (key : ClusterKey) (n : ℕ) (ls : List Line) → ps ≡ [] → with_given_up ps key n ls ≡ ls
nothing_waits ps key n ls e = ap (λ qs. with_given_up qs key n ls) e ∙ go ls
  where
    go : (ms : List Line) → with_given_up [] key n ms ≡ ms
    go [] = refl
    go (m ∷ ms) = nothing_parted_if (leaves n m) m ms (with_given_up [] key n ms) (go ms)
