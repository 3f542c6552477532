-- A tick part by part, and its proposal.
use Rattle.std.proofs.Common.{◌≡◌, ℕ, Bool, true, false, List, [], ◌++◌, Some, None, refl, sym, ap, subst, ◌∙◌}
use Rattle.std.specs.Prelude.{filter, if◌then◌else◌, ◌∷◌}
use Rattle.cluster_types.specs.declared.cluster_key.ClusterKey.{ClusterKey}
use Rattle.cluster_types.specs.declared.member.Member.{Member}
use Rattle.wire_messages.specs.declared.message.Message.{Message}
use Rattle.wire_messages.specs.declared.message.Message.TheVariants as message
use Rattle.wire_messages.specs.Decoding.{message_of}
use Rattle.wire_messages.specs.Spelling.{spelling}
use Rattle.journal_lines.specs.declared.line.Line.{Line}
use Rattle.node_rules.specs.Effects.{to_each, lines_only, nothing, sends_only}
use Rattle.node_rules.specs.Facts.{Facts}
use Rattle.node_rules.specs.Map.{lacks}
use Rattle.node_rules.specs.Notes.{noted, all_sent, after_ages}
use Rattle.node_rules.specs.Settling.{settling_due}
use Rattle.node_rules.specs.Standing.{others}
use Rattle.node_rules.specs.Tick.{beat, propose, rows, transactions, batches, progress, state, parts, parts_in_order, progress_message}
use Rattle.node_rules.proofs.NoteLaws.{noted-append}
use Rattle.run_laws.specs.Tied.{Among}
use Rattle.calm_laws.specs.Acts.{Ticks, as_read, sent_at, acted}
use Rattle.calm_laws.proofs.Flow.{among_front, among_behind}
use Rattle.calm_laws.proofs.Sent.{read_append, each_among}
use Rattle.journal_lines.specs.declared.line.Line.TheVariants as line

-- the facts of a tick as it proposes, after that, and as it tells of progress
abbrev pub proposing : Facts → Facts
proposing f = after_ages f

abbrev pub proposed : Facts → Facts
proposed f = noted None (proposing f) (propose (proposing f)).lines

abbrev pub progressing : ℕ → Facts → Facts
progressing n f = noted None (proposed f) (settling_due n (proposed f))

progress_lines : (n : ℕ) (f : Facts) (b : Bool) → (if b then sends_only (to_each (others f) (progress_message n f true)) else nothing).lines ≡ []
progress_lines n f true = refl
progress_lines n f false = refl

-- what an up node's tick sends, part by part
abbrev pub tick_list : ℕ → Facts → List (ℕ × Message)
tick_list n f = (beat (proposing f)).sends ++ ((propose (proposing f)).sends ++ ((rows (proposed f)).sends ++ ((transactions (proposed f)).sends ++ ((batches (proposed f)).sends ++ ((progress n (progressing n f)).sends ++ [])))))

pub tick_sent : (n c : ℕ) (f : Facts) → f.up ≡ true → sent_at n c f Ticks ≡ as_read (tick_list n f)
tick_sent n c f up = ap (λ (b : Bool). as_read (if b then parts_in_order (parts n) f else lines_only (line.Down f.me ∷ [])).sends) up

-- and the facts after it
pub tick_facts : (n c : ℕ) (f : Facts) → f.up ≡ true → acted n c f Ticks ≡ all_sent (progressing n f) (as_read (tick_list n f))
tick_facts n c f up =
    let g : Facts = proposing f in
    let ls : List Line = settling_due n (proposed f) in
    let end : List Line = (progress n (progressing n f)).lines ++ [] in
    ap (λ (b : Bool). all_sent (noted None f (if b then parts_in_order (parts n) f else lines_only (line.Down f.me ∷ [])).lines) (as_read (if b then parts_in_order (parts n) f else lines_only (line.Down f.me ∷ [])).sends)) up
    ∙ ap (λ (h : Facts). all_sent h (as_read (tick_list n f)))
    (noted-append None g (propose g).lines (ls ++ end)
    ∙ noted-append None (proposed f) ls end
    ∙ ap (λ (xs : List Line). noted None (progressing n f) (xs ++ [])) (progress_lines n (progressing n f) _))

-- a row goes to each other member whose row is lacking
pub tick_rows : (n c : ℕ) (f : Facts) → f.up ≡ true → message_of (spelling (state (proposed f) true)) ≡ Some (state (proposed f) true) → (m : ℕ) → Among (filter (lacks (proposed f).exchange.rows) (others (proposed f))) m
    → Among (sent_at n c f Ticks) (m, state (proposed f) true)
tick_rows n c f up reads m h =
    let x : ℕ × Message = (m, state (proposed f) true) in
    let later : List (ℕ × Message) = (transactions (proposed f)).sends ++ ((batches (proposed f)).sends ++ ((progress n (progressing n f)).sends ++ [])) in
    let here : Among (as_read (rows (proposed f)).sends) x = each_among (state (proposed f) true) reads _ m h in
    let third : Among (as_read ((rows (proposed f)).sends ++ later)) x = subst (λ (xs : List (ℕ × Message)). Among xs x) (sym (read_append (rows (proposed f)).sends later)) (among_front x (as_read (rows (proposed f)).sends) (as_read later) here) in
    let second : Among (as_read ((propose (proposing f)).sends ++ ((rows (proposed f)).sends ++ later))) x = subst (λ (xs : List (ℕ × Message)). Among xs x) (sym (read_append (propose (proposing f)).sends ((rows (proposed f)).sends ++ later))) (among_behind x (as_read (propose (proposing f)).sends) (as_read ((rows (proposed f)).sends ++ later)) third) in
    subst (λ (xs : List (ℕ × Message)). Among xs x) (sym (tick_sent n c f up ∙ read_append (beat (proposing f)).sends ((propose (proposing f)).sends ++ ((rows (proposed f)).sends ++ later))))
    (among_behind x (as_read (beat (proposing f)).sends) (as_read ((propose (proposing f)).sends ++ ((rows (proposed f)).sends ++ later))) second)

-- a proposal goes to each who is missed
pub tick_proposes : (n c : ℕ) (f : Facts) → f.up ≡ true → (k : ClusterKey) (ms : List Member) (ns : List ℕ) → (propose (proposing f)).sends ≡ to_each ns (message.Propose k ms) → message_of (spelling (message.Propose k ms)) ≡ Some (message.Propose k ms) → (m : ℕ) → Among ns m
    → Among (sent_at n c f Ticks) (m, message.Propose k ms)
tick_proposes n c f up k ms ns is reads m h =
    let x : ℕ × Message = (m, message.Propose k ms) in
    let later : List (ℕ × Message) = (rows (proposed f)).sends ++ ((transactions (proposed f)).sends ++ ((batches (proposed f)).sends ++ ((progress n (progressing n f)).sends ++ []))) in
    let here : Among (as_read (propose (proposing f)).sends) x = subst (λ (xs : List (ℕ × Message)). Among (as_read xs) x) (sym is) (each_among (message.Propose k ms) reads ns m h) in
    let second : Among (as_read ((propose (proposing f)).sends ++ later)) x = subst (λ (xs : List (ℕ × Message)). Among xs x) (sym (read_append (propose (proposing f)).sends later)) (among_front x (as_read (propose (proposing f)).sends) (as_read later) here) in
    subst (λ (xs : List (ℕ × Message)). Among xs x) (sym (tick_sent n c f up ∙ read_append (beat (proposing f)).sends ((propose (proposing f)).sends ++ later)))
    (among_behind x (as_read (beat (proposing f)).sends) (as_read ((propose (proposing f)).sends ++ later)) second)
