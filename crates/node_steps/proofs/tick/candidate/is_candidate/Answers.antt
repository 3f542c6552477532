use Rattle.std.proofs.Common.{◌≡◌, ◌==◌, ◌&&◌, ℕ, Bool, true, false, List, Contains, arith, ap, ap₂, subst, sym, ◌∙◌}
use Rattle.std.proofs.lemmas.Bool.Decides.{nat_tests}
use Rattle.cluster_types.specs.declared.member.Member.{Member}
use Rattle.cluster_types.specs.Members.{ids_of}
use Rattle.node_rules.specs.Facts.{Facts}
use Rattle.node_rules.specs.Hearing.{is_greatest, quiet_ticks}
use Rattle.node_rules.specs.Notes.{neighbours}
use Rattle.node_rules.specs.Tick.{wants_view}
use Rattle.node_steps.proofs.CandidateLaws.{itself_among}
use Rattle.node_steps.proofs.tick.candidate.is_candidate.Goals as goal

pub is_greatest-requires : goal.is_greatest-requires
is_greatest-requires c =
    let f : Facts = c.args.f.now in
    subst (λ (n : ℕ). Contains (ids_of c.args.set.now) n) (sym (ap (λ (g : Facts). g.me) c.f.view_is))
    (subst (λ (ms : List Member). Contains (ids_of ms) f.me) (sym c.requires) (itself_among f.me f.role f.hearing.heard))

-- whether it is the greatest, as the facts say
greatest_is : (me : ℕ) (f : Facts) (set : List Member) (b : Bool) → b ≡ is_greatest me set → me ≡ f.me → set ≡ neighbours f → b ≡ is_greatest f.me (neighbours f)
greatest_is me f set b is same same_set = is ∙ ap₂ (λ (n : ℕ) (ms : List Member). is_greatest n ms) same same_set

other_than : (n m : ℕ) → (n ≡ m → ⊥) → (n == m) ≡ false
other_than n m other = grind (arith, nat_tests)

itself : (n m : ℕ) → n ≡ m → (n == m) ≡ true
itself n m same = grind (arith, nat_tests)

pub returns-then-not-is_greatest : goal.returns-then-not-is_greatest
returns-then-not-is_greatest c =
    let f : Facts = c.args.f.now in
    let lesser : is_greatest f.me (neighbours f) ≡ false =
    sym (greatest_is c.f.inside.me f c.args.set.now c.is_greatest.result c.is_greatest.ensures (ap (λ (g : Facts). g.me) c.f.view_is) c.requires) ∙ c.if-not-is_greatest.true in
    sym (ap (λ (b : Bool). b && ((f.hearing.quiet == quiet_ticks) && wants_view f)) lesser)

pub returns-then-quiet-ne-QUIET_TICKS : goal.returns-then-quiet-ne-QUIET_TICKS
returns-then-quiet-ne-QUIET_TICKS c =
    let f : Facts = c.args.f.now in
    let greatest : is_greatest f.me (neighbours f) ≡ true =
    sym (greatest_is c.f.inside.me f c.args.set.now c.is_greatest.result c.is_greatest.ensures (ap (λ (g : Facts). g.me) c.f.view_is) c.requires) ∙ c.if-not-is_greatest.false in
    let ticks : c.quiet.result ≡ f.hearing.quiet = c.quiet.ensures ∙ ap (λ (g : Facts). g.hearing.quiet) c.f.view_is in
    let moved : (f.hearing.quiet == quiet_ticks) ≡ false = ap (λ (n : ℕ). n == quiet_ticks) (sym ticks) ∙ other_than c.quiet.result quiet_ticks c.if-quiet-ne-QUIET_TICKS.true in
    sym (ap₂ (λ (a b : Bool). a && (b && wants_view f)) greatest moved)

pub returns : goal.returns
returns c =
    let f : Facts = c.args.f.now in
    let greatest : is_greatest f.me (neighbours f) ≡ true =
    sym (greatest_is c.f.inside.me f c.args.set.now c.is_greatest.result c.is_greatest.ensures (ap (λ (g : Facts). g.me) c.f.view_is) c.requires) ∙ c.if-not-is_greatest.false in
    let ticks : c.quiet.result ≡ f.hearing.quiet = c.quiet.ensures ∙ ap (λ (g : Facts). g.hearing.quiet) c.f.view_is in
    let same : (f.hearing.quiet == quiet_ticks) ≡ true = ap (λ (n : ℕ). n == quiet_ticks) (sym ticks) ∙ itself c.quiet.result quiet_ticks c.if-quiet-ne-QUIET_TICKS.false in
    c.wants_view.ensures ∙ sym (ap₂ (λ (a b : Bool). a && (b && wants_view f)) greatest same)
