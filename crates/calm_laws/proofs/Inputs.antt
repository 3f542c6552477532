-- What holds of a node after what came to it, and of what it sent.
use Rattle.std.proofs.Common.{ℕ, List, [], ◌∷◌, refl, sym, subst, ◌⊎◌, inl, inr}
use Rattle.wire_messages.specs.declared.message.Message.{Message}
use Rattle.node_rules.specs.Facts.{Facts}
use Rattle.run_laws.specs.Tied.{Among}
use Rattle.calm_laws.specs.Acts.{Input, sent_at, acted, served, outbox}
use Rattle.calm_laws.proofs.Flow.{among_front, among_behind, among_either}

-- what each of the acts keeps
abbrev pub Keeps : ℕ → ℕ → (Facts → Type 0) → List Input → Type 0
Keeps n c P is = (f : Facts) (i : Input) → Among is i → P f → P (acted n c f i)

-- it holds of the facts at first, and after each of the acts
abbrev pub Along : ℕ → ℕ → (Facts → Type 0) → Facts → List Input → Type 0
Along n c P f [] = P f
Along n c P f (i ∷ is) = P f × Along n c P (acted n c f i) is

pub keeps_later : (n c : ℕ) (P : Facts → Type 0) (i : Input) (is : List Input) → Keeps n c P (i ∷ is) → Keeps n c P is
keeps_later n c P i is k f j h p = k f j (inr h) p

-- a predicate that each act keeps holds afterwards
pub served_kept : (n c : ℕ) (P : Facts → Type 0) (is : List Input) (f : Facts) → Keeps n c P is → P f → P (served n c f is)
served_kept n c P [] f k p = p
served_kept n c P (i ∷ is) f k p = served_kept n c P is (acted n c f i) (keeps_later n c P i is k) (k f i (inl refl) p)

-- and all along
pub kept_along : (n c : ℕ) (P : Facts → Type 0) (is : List Input) (f : Facts) → Keeps n c P is → P f → Along n c P f is
kept_along n c P [] f k p = p
kept_along n c P (i ∷ is) f k p = (p, kept_along n c P is (acted n c f i) (keeps_later n c P i is k) (k f i (inl refl) p))

-- what one act gives holds afterwards where the later ones keep it
pub served_each : (n c : ℕ) (P Q : Facts → Type 0) (is : List Input) (f : Facts) (x : Input) → Keeps n c P is → Keeps n c Q is
    → ((g : Facts) → P g → Q (acted n c g x)) → Among is x → P f → Q (served n c f is)
served_each n c P Q [] f x k q gives h p = absurd h
served_each n c P Q (i ∷ is) f x k q gives (inl e) p =
    served_kept n c Q is (acted n c f i) (keeps_later n c Q i is q) (subst (λ (j : Input). Q (acted n c f j)) (sym e) (gives f p))
served_each n c P Q (i ∷ is) f x k q gives (inr h) p =
    served_each n c P Q is (acted n c f i) x (keeps_later n c P i is k) (keeps_later n c Q i is q) gives h (k f i (inl refl) p)

-- what one act sends is sent
pub outbox_each : (n c : ℕ) (P : Facts → Type 0) (is : List Input) (f : Facts) (x : Input) (m : ℕ × Message) → Along n c P f is
    → ((g : Facts) → P g → Among (sent_at n c g x) m) → Among is x → Among (outbox n c f is) m
outbox_each n c P [] f x m a gives h = absurd h
outbox_each n c P (i ∷ is) f x m a gives (inl e) =
    among_front m (sent_at n c f i) (outbox n c (acted n c f i) is) (subst (λ (j : Input). Among (sent_at n c f j) m) (sym e) (gives f a.0))
outbox_each n c P (i ∷ is) f x m a gives (inr h) =
    among_behind m (sent_at n c f i) (outbox n c (acted n c f i) is) (outbox_each n c P is (acted n c f i) x m a.1 gives h)

-- nothing is sent but by an act
pub record SentBy (n c : ℕ) (P : Facts → Type 0) (is : List Input) (m : ℕ × Message) : Type 0 where
  pub facts : Facts
  pub act : Input
  pub came : Among is act
  pub before : P facts
  pub sent : Among (sent_at n c facts act) m

sent_later : (n c : ℕ) (P : Facts → Type 0) (i : Input) (is : List Input) (m : ℕ × Message) → SentBy n c P is m → SentBy n c P (i ∷ is) m
sent_later n c P i is m s = record { facts = s.facts; act = s.act; came = inr s.came; before = s.before; sent = s.sent }

pub outbox_only : (n c : ℕ) (P : Facts → Type 0) (is : List Input) (f : Facts) (m : ℕ × Message) → Along n c P f is → Among (outbox n c f is) m → SentBy n c P is m
outbox_only n c P [] f m a h = absurd h
outbox_only n c P (i ∷ is) f m a h = go (among_either m (sent_at n c f i) (outbox n c (acted n c f i) is) h) (outbox_only n c P is (acted n c f i) m a.1)
  where
    go : Among (sent_at n c f i) m ⊎ Among (outbox n c (acted n c f i) is) m → (Among (outbox n c (acted n c f i) is) m → SentBy n c P is m) → SentBy n c P (i ∷ is) m
    go (inl s) rest = record { facts = f; act = i; came = inl refl; before = a.0; sent = s }
    go (inr s) rest = sent_later n c P i is m (rest s)

-- some message of the list is such
pub record Any (T : ℕ × Message → Type 0) (ms : List (ℕ × Message)) : Type 0 where
  pub which : ℕ × Message
  pub among : Among ms which
  pub good : T which

-- what one act sends, whatever the facts are by then, is sent
pub outbox_any : (n c : ℕ) (P : Facts → Type 0) (T : ℕ × Message → Type 0) (is : List Input) (f : Facts) (x : Input) → Along n c P f is
    → ((g : Facts) → P g → Any T (sent_at n c g x)) → Among is x → Any T (outbox n c f is)
outbox_any n c P T [] f x a gives h = absurd h
outbox_any n c P T (i ∷ is) f x a gives (inl e) = go (subst (λ (j : Input). Any T (sent_at n c f j)) (sym e) (gives f a.0))
  where
    go : Any T (sent_at n c f i) → Any T (outbox n c f (i ∷ is))
    go y = record { which = y.which; among = among_front y.which (sent_at n c f i) (outbox n c (acted n c f i) is) y.among; good = y.good }
outbox_any n c P T (i ∷ is) f x a gives (inr h) = go (outbox_any n c P T is (acted n c f i) x a.1 gives h)
  where
    go : Any T (outbox n c (acted n c f i) is) → Any T (outbox n c f (i ∷ is))
    go y = record { which = y.which; among = among_behind y.which (sent_at n c f i) (outbox n c (acted n c f i) is) y.among; good = y.good }
