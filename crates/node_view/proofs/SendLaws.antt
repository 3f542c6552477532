-- Batches that are sent one after another.
use Rattle.std.proofs.Common.{◌≡◌, ◌≢◌, ◌==◌, ℕ, suc, Bool, true, false, List, [], ◌∷◌, Option, Some, None, find, refl, sym, ap, subst, ◌∙◌, arith}
use Rattle.std.specs.Option.{ForSome, IfSome, IsSome}
use Rattle.std.specs.Prelude.{slice_index_or}
use Rattle.cluster_types.specs.declared.cluster_key.ClusterKey.{ClusterKey}
use Rattle.wire_messages.specs.declared.message.Batch.{Batch}
use Rattle.partition_lists.proofs.InOrderLaws.{from_equal}
use Rattle.emigrate.specs.Going.{IsNext}
use Rattle.node_rules.specs.Batches.{Target, Targets, sending, target}
use Rattle.node_rules.specs.Tables.{changed_if}
use Rattle.node_view.specs.Fits.{AreNext}
use Rattle.node_view.specs.Views.{Viewed}

-- the view where that is handed on
abbrev pub with_targets : Viewed → Targets → Viewed
with_targets v ts = record v { batches = ts }

abbrev Sent : Type 0
Sent = ℕ × Batch

one_found : (t : Target) (ts us : Targets) (m : ℕ) (c : Bool) → (t.node == m) ≡ c → find (λ (u : Target). u.node == m) us ≡ find (λ (u : Target). u.node == m) ts
    → (s : Target) → s.node ≡ t.node → (c ≡ true → s ≡ t) → find (λ (u : Target). u.node == m) (s ∷ us) ≡ find (λ (u : Target). u.node == m) (t ∷ ts)
one_found t ts us m true e rest s node same = rw (same refl, e) refl
one_found t ts us m false e rest s node same = let i : (s.node == m) ≡ false = ap (λ (k : ℕ). k == m) node ∙ e in rw (i, e) rest

-- a batch that goes to one leaves the targets of the others
pub other_target : (ts : Targets) (n m : ℕ) (b : Batch) → n ≢ m → target (sending ts n b) m ≡ target ts m
other_target [] n m b apart = refl
other_target (t ∷ ts) n m b apart = one_found t ts (sending ts n b) m (t.node == m) refl (other_target ts n m b apart) (changed (t.node == n)) (node (t.node == n)) (λ e. same e (t.node == n) refl)
  where
    changed : Bool → Target
    changed c = changed_if (λ (u : Target). record u { out = Some b; batches = b.number }) t c

    node : (c : Bool) → (changed c).node ≡ t.node
    node true = refl
    node false = refl

    same : (t.node == m) ≡ true → (c : Bool) → (t.node == n) ≡ c → changed c ≡ t
    same e true i = absurd (apart (sym (from_equal t.node n i) ∙ from_equal t.node m e))
    same e false i = refl

pub first_member : (x : Bool) (key : ClusterKey) (ts : Targets) (b : Sent) (bs : List Sent) → AreNext x key ts (b ∷ bs) → IsSome (target ts b.0)
first_member x key ts b bs h = (h.next 0 b (omega arith)).0

pub first_next : (x : Bool) (key : ClusterKey) (ts : Targets) (b : Sent) (bs : List Sent) → AreNext x key ts (b ∷ bs) → IfSome (target ts b.0) (λ t. IsNext key t b.1)
first_next x key ts b bs h = go (target ts b.0) (h.next 0 b (omega arith)).1
  where
    go : (o : Option Target) → ForSome o (λ t. IsNext key t b.1) → IfSome o (λ t. IsNext key t b.1)
    go None next = tt
    go (Some t) next = next t refl

pub rest_next : (x : Bool) (key : ClusterKey) (ts : Targets) (b : Sent) (bs : List Sent) → AreNext x key ts (b ∷ bs) → AreNext x key (sending ts b.0 b.1) bs
rest_next x key ts b bs h = record {
  finished = λ some. h.finished (λ none. cc);
  apart = λ i j d before within. h.apart (suc i) (suc j) d (omega (arith, before)) (omega (arith, within));
  next = λ k d within. at (slice_index_or bs k d) (h.apart 0 (suc k) d (omega arith) (omega (arith, within))) (h.next (suc k) d (omega (arith, within)));
}
  where
    at : (c : Sent) → b.0 ≢ c.0 → IsSome (target ts c.0) × ForSome (target ts c.0) (λ t. IsNext key t c.1)
        → IsSome (target (sending ts b.0 b.1) c.0) × ForSome (target (sending ts b.0 b.1) c.0) (λ t. IsNext key t c.1)
    at c other next = subst (λ (o : Option Target). IsSome o × ForSome o (λ t. IsNext key t c.1)) (sym (other_target ts b.0 c.0 b.1 other)) next
