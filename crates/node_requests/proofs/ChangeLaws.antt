-- Changes one after another, and for whom a transaction is open behind them.
use Rattle.std.proofs.Common.{◌≡◌, ◌==◌, ◌⊎◌, inl, inr, ℕ, Bool, true, false, cond, List, [], ◌∷◌, ◌++◌, Option, Some, None, refl, sym, ap, ◌∙◌}
use Rattle.std.specs.Prelude.{find, option_map}
use Rattle.std.proofs.lemmas.Bool.Decides.{eqb_tells}
use Rattle.wire_messages.specs.declared.reply.ReplyBody.{ReplyBody}
use Rattle.cluster_types.specs.Endpoints.{client}
use Rattle.request_rules.specs.declared.taken.Asker.{Asker}
use Rattle.request_rules.specs.declared.taken.Outcome.{Outcome}
use Rattle.request_rules.specs.declared.taken.Outcome.TheVariants as outcome
use Rattle.request_rules.specs.declared.taken.Taken.{Taken}
use Rattle.request_rules.specs.Requests.{NodeRequests}
use Rattle.request_rules.specs.TakenUp.{bound_to, is_bound_to, keeping, replied_if, taking_up}
use Rattle.node_requests.specs.declared.change.Change.{Change}
use Rattle.node_requests.specs.declared.change.Change.TheVariants as change
use Rattle.node_requests.specs.Changes.{CanMake, CanMakeAll, all_changed, bound_behind, bound_behind_all, changed, first_of, only_where}

-- ---- one change more

pub pushed : (r : NodeRequests) (cs : List Change) (c : Change) → all_changed r (cs ++ c ∷ []) ≡ changed (all_changed r cs) c
pushed r [] c = refl
pushed r (d ∷ cs) c = pushed (changed r d) cs c

pub can_push : (r : NodeRequests) (cs : List Change) (c : Change) → CanMakeAll r cs → CanMake (all_changed r cs) c → CanMakeAll r (cs ++ c ∷ [])
can_push r [] c h can = (can, tt)
can_push r (d ∷ cs) c h can = (h.0, can_push (changed r d) cs c h.1 can)

-- ---- for whom a transaction is open

abbrev bound_or : Bool → Taken → Option Asker → Option Asker
bound_or b x rest = cond b (Some x.asker) rest

pub bound_front : (x : Taken) (xs : List Taken) (t : ℕ) → bound_to (x ∷ xs) t ≡ bound_or (is_bound_to t x.outcome) x (bound_to xs t)
bound_front x xs t = go (is_bound_to t x.outcome)
  where
    go : (b : Bool) → option_map (λ (y : Taken). y.asker) (cond b (Some x) (find (λ (y : Taken). is_bound_to t y.outcome) xs)) ≡ bound_or b x (bound_to xs t)
    go true = refl
    go false = refl

first_front : (b : Bool) (x : Taken) (rest last : Option Asker) → bound_or b x (first_of rest last) ≡ first_of (bound_or b x rest) last
first_front true x rest last = refl
first_front false x rest last = refl

only_one : (b : Bool) (x : Taken) → bound_or b x None ≡ only_where b x.asker
only_one true x = refl
only_one false x = refl

bound_pushed : (xs : List Taken) (x : Taken) (t : ℕ) → bound_to (xs ++ x ∷ []) t ≡ first_of (bound_to xs t) (only_where (is_bound_to t x.outcome) x.asker)
bound_pushed [] x t = bound_front x [] t ∙ only_one (is_bound_to t x.outcome) x
bound_pushed (y ∷ ys) x t =
    bound_front y (ys ++ x ∷ []) t
    ∙ ap (bound_or (is_bound_to t y.outcome) y) (bound_pushed ys x t)
    ∙ first_front (is_bound_to t y.outcome) y (bound_to ys t) (only_where (is_bound_to t x.outcome) x.asker)
    ∙ ap (λ o. first_of o (only_where (is_bound_to t x.outcome) x.asker)) (sym (bound_front y ys t))

first_alone : (o : Option Asker) → first_of o None ≡ o
first_alone None = refl
first_alone (Some a) = refl

replied_front : (p : Bool) (x : Taken) (b : ReplyBody) (ys : List Taken) (t : ℕ) → bound_to (replied_if b x p ∷ ys) t ≡ cond p (bound_to ys t) (bound_or (is_bound_to t x.outcome) x (bound_to ys t))
replied_front true x b ys t = bound_front (replied_if b x true) ys t
replied_front false x b ys t = bound_front x ys t

no_other : (p q e : Bool) (x : Taken) (rest : Option Asker) → (e ≡ true → p ≡ q) → (e ≡ false → p ≡ true → q ≡ false) → cond p (cond e None rest) (bound_or q x (cond e None rest)) ≡ cond e None (bound_or q x rest)
no_other true q true x rest same other = refl
no_other true true false x rest same other = absurd (let wrong : true ≡ false = other refl refl in cc)
no_other true false false x rest same other = refl
no_other false true true x rest same other = absurd (let wrong : false ≡ true = same refl in cc)
no_other false false true x rest same other = refl
no_other false q false x rest same other = refl

one_number : (u t : ℕ) (o : Outcome) → (u == t) ≡ true → is_bound_to u o ≡ is_bound_to t o
one_number u t o e = go (eqb_tells u t)
  where
    go : ((u == t) ≡ true) × (u ≡ t) ⊎ ((u == t) ≡ false) × (u ≡ t → ⊥) → is_bound_to u o ≡ is_bound_to t o
    go (inl h) = ap (λ n. is_bound_to n o) h.1
    go (inr h) = absurd (let wrong : true ≡ false = sym e ∙ h.0 in cc)

two_numbers : (u t : ℕ) (o : Outcome) → (u == t) ≡ false → is_bound_to u o ≡ true → is_bound_to t o ≡ false
two_numbers u t (outcome.Kept b) e h = refl
two_numbers u t (outcome.Open v) e h = go (eqb_tells v u)
  where
    go : ((v == u) ≡ true) × (v ≡ u) ⊎ ((v == u) ≡ false) × (v ≡ u → ⊥) → (v == t) ≡ false
    go (inl k) = ap (λ n. n == t) k.1 ∙ e
    go (inr k) = absurd (let wrong : true ≡ false = sym h ∙ k.0 in cc)

bound_ended : (xs : List Taken) (u : ℕ) (b : ReplyBody) (t : ℕ) → bound_to (keeping xs u b) t ≡ cond (u == t) None (bound_to xs t)
bound_ended [] u b t = go (u == t)
  where
    nobody : Option Asker
    nobody = None

    go : (c : Bool) → nobody ≡ cond c None nobody
    go true = refl
    go false = refl
bound_ended (x ∷ xs) u b t =
    let p = is_bound_to u x.outcome in
    let q = is_bound_to t x.outcome in
    replied_front p x b (keeping xs u b) t
    ∙ ap (λ o. cond p o (bound_or q x o)) (bound_ended xs u b t)
    ∙ no_other p q (u == t) x (bound_to xs t) (one_number u t x.outcome) (two_numbers u t x.outcome)
    ∙ ap (cond (u == t) None) (sym (bound_front x xs t))

refused_bound : (c : Bool) (xs : List Taken) (a : Asker) (b : ReplyBody) (t : ℕ) → bound_to xs t ≡ bound_to (cond c xs (taking_up xs a (outcome.Kept b))) t
refused_bound true xs a b t = refl
refused_bound false xs a b t = sym (bound_pushed xs (record { asker = a; outcome = outcome.Kept b }) t ∙ first_alone (bound_to xs t))

bound_changed : (t : ℕ) (r : NodeRequests) (c : Change) → bound_behind t (bound_to r.taken t) c ≡ bound_to (changed r c).taken t
bound_changed t r (change.Bind a u) = sym (bound_pushed r.taken (record { asker = a; outcome = outcome.Open u }) t)
bound_changed t r (change.Refuse a b) = refused_bound (a.from == client) r.taken a b t
bound_changed t r (change.End a u b) = sym (bound_ended r.taken u b t)
bound_changed t r (change.PassOn p) = refl
bound_changed t r (change.Close x) = refl
bound_changed t r change.Leave = refl

pub bound_is : (t : ℕ) (r : NodeRequests) (cs : List Change) → bound_behind_all t (bound_to r.taken t) cs ≡ bound_to (all_changed r cs).taken t
bound_is t r [] = refl
bound_is t r (c ∷ cs) = ap (λ o. bound_behind_all t o cs) (bound_changed t r c) ∙ bound_is t (changed r c) cs
