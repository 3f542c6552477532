-- Targets whose batches are acknowledged one by one.
use Rattle.std.proofs.Common.{◌≡◌, ℕ, ◌==◌, Bool, true, false, if◌then◌else◌, [], ◌∷◌, map, Option, Some, None, refl, sym, ap, subst, ◌∙◌, ◌⊎◌, inl, inr}
use Rattle.cluster_types.specs.declared.cluster_key.ClusterKey.{ClusterKey}
use Rattle.wire_messages.specs.declared.message.Batch.{Batch}
use Rattle.wire_messages.specs.declared.message.Message.{Message}
use Rattle.wire_messages.specs.declared.message.Message.TheVariants as message
use Rattle.partition_lists.proofs.InOrderLaws.{equal}
use Rattle.node_rules.specs.Batches.{Target, Targets, acked_out, acking, without_batch}
use Rattle.node_rules.specs.Keys.{same_key}
use Rattle.node_rules.specs.Tables.{changed_if}
use Rattle.run_laws.specs.Tied.{Among}
use Rattle.calm_laws.specs.Handing.{acked_by, acked_if, target_acked, settled_out}

-- ---- a target and what became of it

-- it is as it was, or its batch was acknowledged
abbrev pub Became : Target → Target → Type 0
Became t u = (u ≡ t) ⊎ (u ≡ target_acked t)

-- it was, if that batch of that node is out
abbrev pub Acked : ℕ → ℕ → Target → Target → Type 0
Acked x number t u = t.node ≡ x → (b : Batch) → t.out ≡ Some b → b.number ≡ number → u ≡ target_acked t

abbrev pub Pairs : (Target → Target → Type 0) → Targets → Targets → Type 0
Pairs R [] [] = Unit {0}
Pairs R [] (u ∷ us) = ⊥
Pairs R (t ∷ ts) [] = ⊥
Pairs R (t ∷ ts) (u ∷ us) = R t u × Pairs R ts us

pub pairs_became : (ts : Targets) → Pairs Became ts ts
pairs_became [] = tt
pairs_became (t ∷ ts) = (inl refl, pairs_became ts)

-- an acknowledgement at one target
abbrev takes : ℕ → ℕ → Target → Target
takes from number u = changed_if (λ (x : Target). acked_out x number x.out) u (u.node == from)

-- a settled target stays
settled_stays : (t : Target) (o : Option Batch) (from number : ℕ) → t.out ≡ o → takes from number (settled_out t o) ≡ settled_out t o
settled_stays t None from number e = go (t.node == from)
  where
    go : (b : Bool) → changed_if (λ (x : Target). acked_out x number x.out) t b ≡ t
    go true = ap (λ (o : Option Batch). acked_out t number o) e
    go false = refl
settled_stays t (Some b) from number e = go (t.node == from)
  where
    go : (c : Bool) → changed_if (λ (x : Target). acked_out x number x.out) (without_batch t b) c ≡ without_batch t b
    go true = refl
    go false = refl

became_takes : (t : Target) (from number : ℕ) (o : Option Batch) → t.out ≡ o → (acked_out t number o ≡ t) ⊎ (acked_out t number o ≡ settled_out t o)
became_takes t from number None e = inl refl
became_takes t from number (Some b) e = go (b.number == number)
  where
    go : (c : Bool) → ((if c then without_batch t b else t) ≡ t) ⊎ ((if c then without_batch t b else t) ≡ without_batch t b)
    go true = inr refl
    go false = inl refl

became_kept : (t u : Target) (from number : ℕ) → Became t u → Became t (takes from number u)
became_kept t u from number (inr e) = inr (ap (λ (x : Target). takes from number x) e ∙ settled_stays t t.out from number refl)
became_kept t u from number (inl e) = subst (λ (x : Target). Became t (takes from number x)) (sym e) (go (t.node == from))
  where
    go : (c : Bool) → Became t (changed_if (λ (x : Target). acked_out x number x.out) t c)
    go true = became_takes t from number t.out refl
    go false = inl refl

acked_kept : (x at : ℕ) (t u : Target) (from number : ℕ) → Acked x at t u → Acked x at t (takes from number u)
acked_kept x at t u from number h node b out is = ap (λ (y : Target). takes from number y) (h node b out is) ∙ settled_stays t t.out from number refl

acked_now : (t u : Target) (x number : ℕ) → Became t u → Acked x number t (takes x number u)
acked_now t u x number (inr e) node b out is = ap (λ (y : Target). takes x number y) e ∙ settled_stays t t.out x number refl
acked_now t u x number (inl e) node b out is =
    ap (λ (y : Target). takes x number y) e
    ∙ ap (λ (c : Bool). changed_if (λ (y : Target). acked_out y number y.out) t c) (equal t.node x node)
    ∙ ap (λ (o : Option Batch). acked_out t number o) out
    ∙ ap (λ (c : Bool). if c then without_batch t b else t) (equal b.number number is)
    ∙ ap (λ (o : Option Batch). settled_out t o) (sym out)

-- ---- all targets

pairs_map : (R S : Target → Target → Type 0) (g : Target → Target) → ((t u : Target) → R t u → S t (g u)) → (ts us : Targets) → Pairs R ts us → Pairs S ts (map g us)
pairs_map R S g each [] [] h = tt
pairs_map R S g each [] (u ∷ us) h = absurd h
pairs_map R S g each (t ∷ ts) [] h = absurd h
pairs_map R S g each (t ∷ ts) (u ∷ us) h = (each t u h.0, pairs_map R S g each ts us h.1)

acked_pairs : (R : Target → Target → Type 0) → ((t u : Target) (from number : ℕ) → R t u → R t (takes from number u)) → (k : ClusterKey) (ts us : Targets) (from : ℕ) (m : Message) → Pairs R ts us → Pairs R ts (acked_by k us from m)
acked_pairs R kept k ts us from (message.BatchAck key number) h = go (same_key k key)
  where
    go : (b : Bool) → Pairs R ts (acked_if us from number b)
    go true = pairs_map R R (takes from number) (λ t u r. kept t u from number r) ts us h
    go false = h
acked_pairs R kept k ts us from _ h = h

pub became_pairs : (k : ClusterKey) (ts us : Targets) (from : ℕ) (m : Message) → Pairs Became ts us → Pairs Became ts (acked_by k us from m)
became_pairs k ts us from m h = acked_pairs Became (λ t u f number r. became_kept t u f number r) k ts us from m h

pub acked_pairs_kept : (x at : ℕ) (k : ClusterKey) (ts us : Targets) (from : ℕ) (m : Message) → Pairs (Acked x at) ts us → Pairs (Acked x at) ts (acked_by k us from m)
acked_pairs_kept x at k ts us from m h = acked_pairs (Acked x at) (λ t u f number r. acked_kept x at t u f number r) k ts us from m h

pub acked_pairs_now : (k : ClusterKey) (x number : ℕ) (ts us : Targets) → same_key k k ≡ true → Pairs Became ts us → Pairs (Acked x number) ts (acked_by k us x (message.BatchAck k number))
acked_pairs_now k x number ts us e h = subst (λ (b : Bool). Pairs (Acked x number) ts (acked_if us x number b)) (sym e) (pairs_map Became (Acked x number) (takes x number) (λ t u r. acked_now t u x number r) ts us h)

-- once each batch that is out was acknowledged all targets are settled
pub all_settled : (ts us : Targets) → Pairs Became ts us → ((t : Target) → Among ts t → (b : Batch) → t.out ≡ Some b → Pairs (Acked t.node b.number) ts us) → us ≡ map target_acked ts
all_settled [] [] h each = refl
all_settled [] (u ∷ us) h each = absurd h
all_settled (t ∷ ts) [] h each = absurd h
all_settled (t ∷ ts) (u ∷ us) h each =
    ap (λ (x : Target). x ∷ us) (first t.out refl h.0) ∙ ap (λ (xs : Targets). target_acked t ∷ xs) (all_settled ts us h.1 (λ s i b e. (each s (inr i) b e).1))
  where
    first : (o : Option Batch) → t.out ≡ o → Became t u → u ≡ target_acked t
    first None e (inl s) = s ∙ ap (λ (o : Option Batch). settled_out t o) (sym e)
    first None e (inr s) = s
    first (Some b) e r = (each t (inl refl) b e).0 refl b e refl

-- settled targets stay
settled_map : (ts : Targets) (from number : ℕ) → acking (map target_acked ts) from number ≡ map target_acked ts
settled_map [] from number = refl
settled_map (t ∷ ts) from number = ap (λ (x : Target). x ∷ acking (map target_acked ts) from number) (settled_stays t t.out from number refl) ∙ ap (λ (xs : Targets). target_acked t ∷ xs) (settled_map ts from number)

pub all_settled_stay : (k : ClusterKey) (ts us : Targets) (from : ℕ) (m : Message) → us ≡ map target_acked ts → acked_by k us from m ≡ map target_acked ts
all_settled_stay k ts us from (message.BatchAck key number) e = go (same_key k key)
  where
    go : (b : Bool) → acked_if us from number b ≡ map target_acked ts
    go true = ap (λ (xs : Targets). acking xs from number) e ∙ settled_map ts from number
    go false = e
all_settled_stay k ts us from _ e = e

-- nothing is out of a settled target
pub settled_out_none : (t : Target) → (target_acked t).out ≡ None
settled_out_none t = go t.out refl
  where
    go : (o : Option Batch) → t.out ≡ o → (settled_out t o).out ≡ None
    go None e = e
    go (Some b) e = refl
