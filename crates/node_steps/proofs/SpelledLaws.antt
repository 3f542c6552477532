-- What is told, one part after another.
use Rattle.std.proofs.Common.{◌≡◌, ℕ, List, [], ◌∷◌, ◌++◌, append_assoc, append-nil, Result, Ok, Err, OnOk, refl, sym, ap, ap₂, ◌∙◌}
use Rattle.std.specs.Prelude.{map}
use Rattle.std.proofs.lemmas.List.{map-append}
use Rattle.journal_lines.specs.declared.line.Line.{Line}
use Rattle.wire_messages.specs.declared.message.Message.{Message}
use Rattle.wire_messages.specs.Spelling.{spelling}
use Rattle.node_rules.specs.Effects as rules
use Rattle.node_rules.specs.Effects.{nothing, sends_only, to_each}
use Rattle.node_steps.specs.declared.effects.Effects.{Effects}
use Rattle.node_steps.specs.Spelled.{then_effects, spelled_sends, with_sends}

-- two parts that are told one after the other are told as one
pub told_twice : (told : Effects) (a b : rules.Effects) → then_effects (then_effects told a) b ≡ then_effects told (rules.followed_by a b)
told_twice told a b =
    ap₂ (λ (ls : List Line) (ss : List (ℕ × List ℕ)). record told { lines = ls; sends = ss })
    (append_assoc told.lines a.lines b.lines)
    (append_assoc told.sends (spelled_sends a.sends) (spelled_sends b.sends)
    ∙ ap (λ (ss : List (ℕ × List ℕ)). told.sends ++ ss) (sym (map-append (λ (m : ℕ × Message). (m.0, spelling m.1)) a.sends b.sends)))

-- nothing is told
pub told_nothing : (told : Effects) → then_effects told nothing ≡ told
told_nothing told =
    ap₂ (λ (ls : List Line) (ss : List (ℕ × List ℕ)). record told { lines = ls; sends = ss }) (append-nil told.lines) (append-nil told.sends)

-- a message to each of the nodes
pub each_spelled : (ns : List ℕ) (m : Message) → map (λ n. (n, spelling m)) ns ≡ spelled_sends (to_each ns m)
each_spelled [] m = refl
each_spelled (n ∷ ns) m = ap (λ (ss : List (ℕ × List ℕ)). (n, spelling m) ∷ ss) (each_spelled ns m)

-- messages are told after what was told so far
pub told_sends : (told : Effects) (ss : List (ℕ × List ℕ)) (ms : List (ℕ × Message)) → ss ≡ spelled_sends ms → with_sends told ss ≡ then_effects told (sends_only ms)
told_sends told ss ms same =
    ap₂ (λ (ls : List Line) (xs : List (ℕ × List ℕ)). record told { lines = ls; sends = told.sends ++ xs }) (sym (append-nil told.lines)) same

pub told_each : (told : Effects) (ns : List ℕ) (m : Message) → with_sends told (map (λ n. (n, spelling m)) ns) ≡ then_effects told (sends_only (to_each ns m))
told_each told ns m = told_sends told (map (λ n. (n, spelling m)) ns) (to_each ns m) (each_spelled ns m)

-- ---- results

pub on_ok_then : {A E : Type 0} (r : Result A E) (P Q : Type 0) → OnOk r P → (P → Q) → OnOk r Q
on_ok_then (Ok x) P Q h then = then h
on_ok_then (Err e) P Q h then = tt
