-- What is known of requests that a node took up.
use Rattle.std.proofs.Common.{◌≡◌, ◌==◌, ℕ, zero, suc, Bool, true, false, cond, List, [], ◌∷◌, All, AllPairs, Option, Some, None, refl, sym, ap, ap₂, ◌∙◌, eq-eqb, arith}
use Rattle.std.specs.Prelude.{find, option_map}
use Rattle.cluster_types.specs.Endpoints.{client}
use Rattle.cluster_types.proofs.BoolFacts.{and_both}
use Rattle.wire_messages.specs.declared.reply.ReplyBody.{ReplyBody}
use Rattle.journal_lines.specs.declared.refusal.Refusal.{Refusal}
use Rattle.journal_lines.specs.declared.line.Line.TheVariants as line
use Rattle.request_rules.specs.declared.taken.Asker.{Asker}
use Rattle.request_rules.specs.declared.taken.Outcome.{Outcome}
use Rattle.request_rules.specs.declared.taken.Outcome.TheVariants as outcome
use Rattle.request_rules.specs.declared.taken.Taken.{Taken}
use Rattle.request_rules.specs.Replies.{refusal_body}
use Rattle.request_rules.specs.TakenUp.{AreTakenOnce, bound_to, is_bound_to, keeping, keeping_refusal, note_taken, outcome_for, replied_if, same_asker, taking_up}

-- ---- askers

pub itself : (a : Asker) → same_asker a a ≡ true
itself a = and_both (a.from == a.from) (a.number == a.number) (eq-eqb a.from a.from refl) (eq-eqb a.number a.number refl)

-- ---- one that is taken up

-- what stands at the front, where the test says whether it is the asker's
abbrev front_or : Bool → Taken → Option Outcome → Option Outcome
front_or b x rest = cond b (Some x.outcome) rest

found_front : (x : Taken) (xs : List Taken) (a : Asker) → outcome_for (x ∷ xs) a ≡ front_or (same_asker x.asker a) x (outcome_for xs a)
found_front x xs a = go (same_asker x.asker a)
  where
    go : (b : Bool) → option_map (λ (y : Taken). y.outcome) (cond b (Some x) (find (λ (y : Taken). same_asker y.asker a) xs)) ≡ front_or b x (outcome_for xs a)
    go true = refl
    go false = refl

pub at_end : (taken : List Taken) (a : Asker) (o : Outcome) → outcome_for taken a ≡ None → outcome_for (taking_up taken a o) a ≡ Some o
at_end [] a o e = found_front (record { asker = a; outcome = o }) [] a ∙ ap (λ b. cond b (Some o) None) (itself a)
at_end (x ∷ xs) a o e = go (same_asker x.asker a) refl (sym (found_front x xs a) ∙ e) (at_end xs a o)
  where
    go : (b : Bool) → same_asker x.asker a ≡ b → front_or (same_asker x.asker a) x (outcome_for xs a) ≡ None → (outcome_for xs a ≡ None → outcome_for (taking_up xs a o) a ≡ Some o) → outcome_for (x ∷ taking_up xs a o) a ≡ Some o
    go true h i rest = absurd (let wrong : Some x.outcome ≡ None = rw h at i in cc)
    go false h i rest =
        let behind : outcome_for xs a ≡ None = rw h at i in
        found_front x (taking_up xs a o) a ∙ ap (λ b. front_or b x (outcome_for (taking_up xs a o) a)) h ∙ rest behind

pub refused : (a : Asker) (taken : List Taken) (n : ℕ) (d : List ℕ) (cause : Refusal) (b : ReplyBody) → outcome_for taken a ≡ None → (a.from == client) ≡ false → refusal_body cause ≡ Some b → outcome_for (note_taken (Some a) taken (line.Refused n d cause)) a ≡ Some (outcome.Kept b)
refused a taken n d cause b e node told =
    ap (λ c. outcome_for (keeping_refusal taken a c) a) told
    ∙ ap (λ c. outcome_for (cond c taken (taking_up taken a (outcome.Kept b))) a) node
    ∙ at_end taken a (outcome.Kept b) e

refusal_of_client : (a : Asker) (taken : List Taken) (b : Option ReplyBody) → (a.from == client) ≡ true → keeping_refusal taken a b ≡ taken
refusal_of_client a taken None e = refl
refusal_of_client a taken (Some b) e = ap (λ c. cond c taken (taking_up taken a (outcome.Kept b))) e

pub refused_client : (a : Asker) (taken : List Taken) (n : ℕ) (d : List ℕ) (cause : Refusal) → (a.from == client) ≡ true → note_taken (Some a) taken (line.Refused n d cause) ≡ taken
refused_client a taken n d cause e = refusal_of_client a taken (refusal_body cause) e

-- ---- one whose transaction ends

abbrev AreOthers : Taken → Taken → Type 0
AreOthers x y = same_asker x.asker y.asker ≡ false

abbrev HaveOthers : Taken → Taken → Type 0
HaveOthers x y = (t : ℕ) → is_bound_to t x.outcome ≡ true → is_bound_to t y.outcome ≡ false

first : {X : Type 0} (R : X → X → Type 0) (x : X) (xs : List X) → AllPairs R (x ∷ xs) → All (R x) xs
first R x xs h k d lt = h zero (suc k) d (omega arith) (omega arith)

later : {X : Type 0} (R : X → X → Type 0) (x : X) (xs : List X) → AllPairs R (x ∷ xs) → AllPairs R xs
later R x xs h i j d lt within = h (suc i) (suc j) d (omega arith) (omega arith)

head : {X : Type 0} (P : X → Type 0) (x : X) (xs : List X) → All P (x ∷ xs) → P x
head P x xs h = h zero x (omega arith)

tail : {X : Type 0} (P : X → Type 0) (x : X) (xs : List X) → All P (x ∷ xs) → All P xs
tail P x xs h k d lt = h (suc k) d (omega arith)

-- for whom the front was taken up, where the test says whether it is bound
abbrev bound_or : Bool → Taken → Option Asker → Option Asker
bound_or b x rest = cond b (Some x.asker) rest

bound_front : (x : Taken) (xs : List Taken) (t : ℕ) → bound_to (x ∷ xs) t ≡ bound_or (is_bound_to t x.outcome) x (bound_to xs t)
bound_front x xs t = go (is_bound_to t x.outcome)
  where
    go : (b : Bool) → option_map (λ (y : Taken). y.asker) (cond b (Some x) (find (λ (y : Taken). is_bound_to t y.outcome) xs)) ≡ bound_or b x (bound_to xs t)
    go true = refl
    go false = refl

-- the asker is another than one that differs from all of them
differs : (a : Asker) (xs : List Taken) (t : ℕ) (b : Asker) → All (λ y. same_asker a y.asker ≡ false) xs → bound_to xs t ≡ Some b → same_asker a b ≡ false
differs a [] t b h e = absurd (let wrong : None ≡ Some b = e in cc)
differs a (x ∷ xs) t b h e = go (is_bound_to t x.outcome) (sym (bound_front x xs t) ∙ e) (differs a xs t b (tail (λ (y : Taken). same_asker a y.asker ≡ false) x xs h))
  where
    go : (c : Bool) → bound_or c x (bound_to xs t) ≡ Some b → (bound_to xs t ≡ Some b → same_asker a b ≡ false) → same_asker a b ≡ false
    go true i rest =
        let same : x.asker ≡ b = cc in
        ap (λ o. same_asker a o) (sym same) ∙ head (λ (y : Taken). same_asker a y.asker ≡ false) x xs h
    go false i rest = rest i

once_later : (x : Taken) (xs : List Taken) → AreTakenOnce (x ∷ xs) → AreTakenOnce xs
once_later x xs h = record { askers = later AreOthers x xs h.askers; transactions = later HaveOthers x xs h.transactions }

pub ended : (a : Asker) (taken : List Taken) (t : ℕ) (b : ReplyBody) → AreTakenOnce taken → bound_to taken t ≡ Some a → outcome_for (keeping taken t b) a ≡ Some (outcome.Kept b)
ended a [] t b h e = absurd (let wrong : None ≡ Some a = e in cc)
ended a (x ∷ xs) t b h e = go (is_bound_to t x.outcome) refl (sym (bound_front x xs t) ∙ e) (ended a xs t b (once_later x xs h))
  where
    go : (c : Bool) → is_bound_to t x.outcome ≡ c → bound_or (is_bound_to t x.outcome) x (bound_to xs t) ≡ Some a → (bound_to xs t ≡ Some a → outcome_for (keeping xs t b) a ≡ Some (outcome.Kept b)) → outcome_for (keeping (x ∷ xs) t b) a ≡ Some (outcome.Kept b)
    go true i j rest =
        let here : Some x.asker ≡ Some a = rw i at j in
        let same : x.asker ≡ a = cc in
        ap (λ c. outcome_for (replied_if b x c ∷ keeping xs t b) a) i
        ∙ found_front (replied_if b x true) (keeping xs t b) a
        ∙ ap (λ c. front_or c (replied_if b x true) (outcome_for (keeping xs t b) a)) (ap (λ o. same_asker o a) same ∙ itself a)
    go false i j rest =
        let behind : bound_to xs t ≡ Some a = rw i at j in
        let other : same_asker x.asker a ≡ false = differs x.asker xs t a (first AreOthers x xs h.askers) behind in
        ap (λ c. outcome_for (replied_if b x c ∷ keeping xs t b) a) i
        ∙ found_front x (keeping xs t b) a
        ∙ ap (λ c. front_or c x (outcome_for (keeping xs t b) a)) other
        ∙ rest behind

-- ---- the others

-- where none is bound to the transaction, nothing changes
unbound : (xs : List Taken) (t : ℕ) (b : ReplyBody) → All (λ y. is_bound_to t y.outcome ≡ false) xs → keeping xs t b ≡ xs
unbound [] t b h = refl
unbound (x ∷ xs) t b h =
    ap₂ (λ c ys. replied_if b x c ∷ ys) (head (λ (y : Taken). is_bound_to t y.outcome ≡ false) x xs h)
    (unbound xs t b (tail (λ (y : Taken). is_bound_to t y.outcome ≡ false) x xs h))

pub others : (a other : Asker) (taken : List Taken) (t : ℕ) (b : ReplyBody) → AreTakenOnce taken → bound_to taken t ≡ Some a → same_asker a other ≡ false → outcome_for (keeping taken t b) other ≡ outcome_for taken other
others a other [] t b h e differ = refl
others a other (x ∷ xs) t b h e differ = go (is_bound_to t x.outcome) refl (sym (bound_front x xs t) ∙ e) (λ i. others a other xs t b (once_later x xs h) i differ)
  where
    go : (c : Bool) → is_bound_to t x.outcome ≡ c → bound_or (is_bound_to t x.outcome) x (bound_to xs t) ≡ Some a → (bound_to xs t ≡ Some a → outcome_for (keeping xs t b) other ≡ outcome_for xs other) → outcome_for (keeping (x ∷ xs) t b) other ≡ outcome_for (x ∷ xs) other
    go true i j rest =
        let here : Some x.asker ≡ Some a = rw i at j in
        let same : x.asker ≡ a = cc in
        let not_here : same_asker x.asker other ≡ false = ap (λ o. same_asker o other) same ∙ differ in
        let stay : keeping xs t b ≡ xs = unbound xs t b (λ k d lt. first HaveOthers x xs h.transactions k d lt t i) in
        ap (λ c. outcome_for (replied_if b x c ∷ keeping xs t b) other) i
        ∙ found_front (replied_if b x true) (keeping xs t b) other
        ∙ ap (λ c. front_or c (replied_if b x true) (outcome_for (keeping xs t b) other)) not_here
        ∙ ap (λ ys. outcome_for ys other) stay
        ∙ sym (found_front x xs other ∙ ap (λ c. front_or c x (outcome_for xs other)) not_here)
    go false i j rest =
        let behind : bound_to xs t ≡ Some a = rw i at j in
        ap (λ c. outcome_for (replied_if b x c ∷ keeping xs t b) other) i
        ∙ found_front x (keeping xs t b) other
        ∙ ap (λ o. front_or (same_asker x.asker other) x o) (rest behind)
        ∙ sym (found_front x xs other)
