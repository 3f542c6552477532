-- What a tick does about partitions, as its lines say it.
use Rattle.std.proofs.Common.{◌≡◌, ℕ, Bool, true, false, List, [], ◌∷◌, ◌++◌, None, ◌+◌, ◌<◌, get_or, length, take, append-nil, refl, sym, ap, ap₂, ◌∙◌}
use Rattle.std.proofs.lemmas.Grind.{flat_map-append}
use Rattle.std.proofs.lemmas.List.{take_more}
use Rattle.cluster_types.specs.declared.cluster_key.ClusterKey.{ClusterKey}
use Rattle.journal_lines.specs.declared.line.Line.{Line}
use Rattle.node_rules.specs.Exchange.{Exchange, exchange_key}
use Rattle.node_rules.specs.Facts.{Facts, view_key, list_at}
use Rattle.node_rules.specs.Notes.{dropped, handed, learnt, noted, settled}
use Rattle.node_rules.proofs.NoteLaws.{noted-append}
use Rattle.node_view.specs.declared.here.Settling.{Settling}
use Rattle.node_view.specs.Plans.{changed_where, settled_at, settled_by}
use Rattle.node_view.specs.Settlings.{lines_of_settling, settling_lines}

-- what a tick does about a partition, with these tests
abbrev with_tests : ℕ → Bool → Bool → Bool → Bool → Settling
with_tests p hands settles learns drops = record { partition = p; hands = hands; settles = settles; learns = learns; drops = drops }

of_tests : (f : Facts) (p : ℕ) (h s l d : Bool) → settled_at f (with_tests p h s l d) ≡ noted None f (lines_of_settling f.me (view_key f) (with_tests p h s l d))
of_tests f p true true true true = refl
of_tests f p true true true false = refl
of_tests f p true true false true = refl
of_tests f p true true false false = refl
of_tests f p true false true true = refl
of_tests f p true false true false = refl
of_tests f p true false false true = refl
of_tests f p true false false false = refl
of_tests f p false true true true = refl
of_tests f p false true true false = refl
of_tests f p false true false true = refl
of_tests f p false true false false = refl
of_tests f p false false true true = refl
of_tests f p false false true false = refl
of_tests f p false false false true = refl
of_tests f p false false false false = refl

pub settled_at_is : (f : Facts) (s : Settling) → settled_at f s ≡ noted None f (lines_of_settling f.me (view_key f) s)
settled_at_is f s = of_tests f s.partition s.hands s.settles s.learns s.drops

-- a change where a test holds keeps what the change keeps
pub kept_where : {X : Type 0} (of : Facts → X) (b : Bool) (change : Facts → Facts) (f : Facts) → ((g : Facts) → of (change g) ≡ of g) → of (changed_where b change f) ≡ of f
kept_where of true change f h = h f
kept_where of false change f h = refl

pub kept_all : {X : Type 0} (of : Facts → X) (f : Facts) (s : Settling)
    → ((g : Facts) → of (handed g s.partition) ≡ of g) → ((g : Facts) → of (settled g s.partition) ≡ of g)
    → ((g : Facts) → of (learnt g (view_key f) (list_at f s.partition) s.partition) ≡ of g) → ((g : Facts) → of (dropped g s.partition) ≡ of g)
    → of (settled_at f s) ≡ of f
kept_all of f s a b c d =
    kept_where of s.drops _ _ d ∙ (kept_where of s.learns _ _ c ∙ (kept_where of s.settles _ _ b ∙ kept_where of s.hands _ f a))

pub settled_me : (f : Facts) (s : Settling) → (settled_at f s).me ≡ f.me
settled_me f s = kept_all (λ (g : Facts). g.me) f s (λ g. refl) (λ g. refl) (λ g. refl) (λ g. refl)

pub settled_exchange : (f : Facts) (s : Settling) → (settled_at f s).exchange ≡ f.exchange
settled_exchange f s = kept_all (λ (g : Facts). g.exchange) f s (λ g. refl) (λ g. refl) (λ g. refl) (λ g. refl)

-- what a tick does about partitions is what its lines add
pub settled_by_is : (f : Facts) (ss : List Settling) → settled_by f ss ≡ noted None f (settling_lines f.me (view_key f) ss)
settled_by_is f [] = refl
settled_by_is f (s ∷ ss) =
    settled_by_is (settled_at f s) ss
    ∙ ap₂ (λ (me : ℕ) (x : Exchange). noted None (settled_at f s) (settling_lines me (exchange_key x.view) ss)) (settled_me f s) (settled_exchange f s)
    ∙ ap (λ (g : Facts). noted None g (settling_lines f.me (view_key f) ss)) (settled_at_is f s)
    ∙ sym (noted-append None f (lines_of_settling f.me (view_key f) s)
    (settling_lines f.me (view_key f) ss))

-- the lines of one partition more
pub lines_more : (me : ℕ) (key : ClusterKey) (ss : List Settling) (i : ℕ) (s : Settling) → i < length ss → s ≡ get_or ss i s
    → settling_lines me key (take (i + 1) ss) ≡ settling_lines me key (take i ss) ++ lines_of_settling me key s
lines_more me key ss i s within is =
    ap (settling_lines me key) (take_more ss i s within)
    ∙ flat_map-append (lines_of_settling me key) (take i ss) (get_or ss i s ∷ [])
    ∙ ap (λ (ls : List Line). settling_lines me key (take i ss) ++ ls) (append-nil (lines_of_settling me key (get_or ss i s)) ∙ ap (lines_of_settling me key) (sym is))

pub settled_keeps : {X : Type 0} (of : Facts → X) (f : Facts) (ss : List Settling) → ((g : Facts) (s : Settling) → of (settled_at g s) ≡ of g) → of (settled_by f ss) ≡ of f
settled_keeps of f [] h = refl
settled_keeps of f (s ∷ ss) h = settled_keeps of (settled_at f s) ss h ∙ h f s

pub settled_batches : (f : Facts) (ss : List Settling) → (settled_by f ss).batches ≡ f.batches
settled_batches f ss = settled_keeps (λ (g : Facts). g.batches) f ss (λ g s. kept_all (λ (x : Facts). x.batches) g s (λ x. refl) (λ x. refl) (λ x. refl) (λ x. refl))

pub settled_view : (f : Facts) (ss : List Settling) → (settled_by f ss).exchange ≡ f.exchange
settled_view f ss = settled_keeps (λ (g : Facts). g.exchange) f ss settled_exchange
