-- A mark that changes one node, and what of a node most lines leave.
use Rattle.std.proofs.Common.{◌≡◌, ℕ, ◌==◌, Bool, true, false, refl, sym, ap, subst, arith, ◌∙◌}
use Rattle.std.proofs.lemmas.Bool.Decides.{nat_tests}
use Rattle.node_rules.specs.Agreement.{Agreement}
use Rattle.node_rules.specs.Facts.{Facts}
use Rattle.cluster_rules.specs.World.{changed_at, new_if, with_facts}
use Rattle.node_rules.specs.Exchange.{exchange_key}
use Rattle.key_laws.specs.Order.{KeyAtMost}
use Rattle.key_laws.specs.Traced.{Traced, facts_of}
use Rattle.key_laws.proofs.Order.{at_most_refl, at_most_eq}
use Rattle.key_laws.specs.Sound.{Agrees, ViewStands, Hears, Outs, RowsKnown, StampsKnown, NodeKeys, Sound, Grows}
use Rattle.key_laws.proofs.Growth.{says_grows, node_grows, listed_grows, shown_grow}

-- ---- functions with another value at one number

pub num_eq : (n m : ℕ) → n ≡ m → (n == m) ≡ true
num_eq n m e = grind (arith, nat_tests)

pub num_same : (n m : ℕ) → (n == m) ≡ true → n ≡ m
num_same n m e = grind (arith, nat_tests)

pub num_differ : (n m : ℕ) → (n == m) ≡ false → n ≡ m → ⊥
num_differ n m e s = grind (arith, nat_tests)

pub never : {b : Bool} → b ≡ true → b ≡ false → ⊥
never {b} p q = grind arith

pub at_here : {A : Type 0} (f : ℕ → A) (n m : ℕ) (new : A) → n ≡ m → (P : A → Type 0) → P new → P (changed_at f n new m)
at_here f n m new e P p = subst (λ (b : Bool). P (new_if new f m b)) (sym (num_eq n m e)) p

-- what holds of each number, after a change at one
pub at_each : {A : Type 0} (P : ℕ → A → Type 0) (f : ℕ → A) (n : ℕ) (new : A) → ((m : ℕ) → P m (f m)) → P n new → (m : ℕ) → P m (changed_at f n new m)
at_each {A} P f n new old here m = go (n == m) refl
  where
    go : (b : Bool) → (n == m) ≡ b → P m (new_if new f m b)
    go true e = subst (λ (x : ℕ). P x new) (num_same n m e) here
    go false e = old m

-- ---- a node changes

-- the world with these facts of one node
abbrev pub moved : Traced → ℕ → Facts → Traced
moved t n new = record { world = with_facts t.world n new; lists = t.lists; entered = t.entered }

pub moved_grows : (t : Traced) (n : ℕ) (new : Facts) → KeyAtMost (facts_of t n).agreement.promised new.agreement.promised → Grows t (moved t n new)
moved_grows t n new le = record {
  promised = at_each (λ m f. KeyAtMost (facts_of t m).agreement.promised f.agreement.promised) t.world.facts n new (λ m. at_most_refl _) le;
  lists = λ k ms e. e;
  sent = λ i p e. e;
  entered = λ m k e. e;
}

pub kept_moved : (t : Traced) (n : ℕ) (new : Facts) → KeyAtMost (facts_of t n).agreement.promised new.agreement.promised → Sound t → NodeKeys (moved t n new) n new → Sound (moved t n new)
kept_moved t n new le h here =
    let u : Traced = moved t n new in
    let g : Grows t u = moved_grows t n new le in
    record {
      nodes = at_each (λ m f. NodeKeys u m f) t.world.facts n new (λ m. node_grows t u g m (facts_of t m) (h.nodes m)) here;
      lists = λ k ms e. listed_grows t u g k ms (h.lists k ms e);
      sent = λ i p m s e. says_grows t u g p.from m (h.sent i p m s e);
      tables = shown_grow t u g t.world.tables h.tables;
    }

-- what of a node keys stand in is the same
pub record SameKeys (t : Traced) (f g : Facts) : Type 0 where
  pub me : f.me ≡ g.me
  pub agreement : f.agreement ≡ g.agreement
  pub view : f.exchange.view ≡ g.exchange.view
  pub heard : f.hearing.heard ≡ g.hearing.heard
  pub exchanged : f.exchange.exchanged ≡ g.exchange.exchanged
  pub outs : (u : Traced) → Grows t u → Outs u f.batches → Outs u g.batches
  pub rows : (u : Traced) → Grows t u → RowsKnown u f.exchange.rows → RowsKnown u g.exchange.rows
  pub stamps : (u : Traced) → Grows t u → StampsKnown u f.store.stamps → StampsKnown u g.store.stamps

pub same_keys : (t u : Traced) → Grows t u → (n : ℕ) (f g : Facts) → SameKeys t f g → NodeKeys u n f → NodeKeys u n g
same_keys t u grows n f g s h = record {
  me = subst (λ (x : ℕ). x ≡ n) s.me h.me;
  agrees = subst (λ (a : Agreement). Agrees u n a) s.agreement h.agrees;
  view = subst (λ v. ViewStands u n g.agreement.last v) s.view (subst (λ (a : Agreement). ViewStands u n a.last f.exchange.view) s.agreement h.view);
  hears = subst (λ es. Hears u es) s.heard h.hears;
  outs = s.outs u grows h.outs;
  rows = s.rows u grows h.rows;
  stamps = s.stamps u grows h.stamps;
  finished = λ e. subst (λ v. u.entered n (exchange_key v) ≡ true) s.view
      (h.finished (s.exchanged ∙ e));
}

pub kept_same : (t : Traced) (n : ℕ) (new : Facts) → SameKeys t (facts_of t n) new → Sound t → Sound (moved t n new)
kept_same t n new s h =
    let u : Traced = moved t n new in
    let le : KeyAtMost (facts_of t n).agreement.promised new.agreement.promised = at_most_eq (ap (λ (a : Agreement). a.promised) s.agreement) in
    kept_moved t n new le h (same_keys t u (moved_grows t n new le) n (facts_of t n) new s (node_grows t u (moved_grows t n new le) n (facts_of t n) (h.nodes n)))

pub same_moved_grows : (t : Traced) (n : ℕ) (new : Facts) → SameKeys t (facts_of t n) new → Grows t (moved t n new)
same_moved_grows t n new s = moved_grows t n new (at_most_eq (ap (λ (a : Agreement). a.promised) s.agreement))
