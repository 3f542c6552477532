-- Lines and messages that are taken one after another.
use Rattle.std.proofs.Common.{◌≡◌, ℕ, zero, suc, ◌+◌, ◌≤◌, List, [], ◌∷◌, ◌++◌, length, drop, Option, Some, None, Result, Ok, Err, OnOk, refl, sym, ap, ap₂, subst, ◌∙◌, arith, append_assoc, length-append}
use Rattle.std.specs.Prelude.{slice_get, if◌then◌else◌, IsOk}
use Rattle.std.proofs.Math.Seq.{drop-cons}
use Rattle.std.proofs.lemmas.List.{append-nil}
use Rattle.std.proofs.lemmas.Option.{get_or_from_slice_get, slice_get_within}
use Rattle.journal_lines.specs.declared.line.Line.{Line}
use Rattle.journal_lines.specs.declared.line.Line.TheVariants as line
use Rattle.journal_text.specs.Journals.{IsWithin, line_limit}
use Rattle.net_script.specs.declared.net.Flying.{Flying}
use Rattle.net_script.specs.Network as nets
use Rattle.cluster_rules.specs.Network.{has_place}
use Rattle.world.specs.Sent.{Sends, all_posted_in, landing_from, posted_in, posted_lines}

-- the first is taken, and the others are left
pub first_of : {A : Type 0} (left rest : List A) (x : A) → slice_get left 0 ≡ Some x → rest ≡ drop 1 left → left ≡ x ∷ rest
first_of [] rest x e d = cc
first_of {A} (y ∷ ys) rest x e d = let same : y ≡ x = cc in ap (λ (z : A). z ∷ ys) same ∙ ap (λ (zs : List A). x ∷ zs) (sym d)

-- the one at a place stands before those behind it
pub drop_at : {A : Type 0} (xs : List A) (i : ℕ) (x : A) → slice_get xs i ≡ Some x → drop i xs ≡ x ∷ drop (i + 1) xs
drop_at {A} xs i x e =
    drop-cons xs i x (slice_get_within xs i x e) ∙ ap (λ (y : A). y ∷ drop (suc i) xs) (get_or_from_slice_get xs i x x e) ∙ ap (λ n. x ∷ drop n xs) (next i)
  where
    next : (i : ℕ) → suc i ≡ i + 1
    next i = omega arith

-- one more message's lines
pub lines_more : (from sent flying : ℕ) (ms : Sends) (i : ℕ) (m : ℕ × List ℕ) (told told' whole : List Line) → slice_get ms i ≡ Some m
    → told' ≡ told ++ line.Sent (sent + 1) from m.0 m.1 ∷ (if has_place flying then [] else line.Full (sent + 1) ∷ []) → told ++ posted_lines from sent flying (drop i ms) ≡ whole
    → told' ++ posted_lines from (sent + 1) (if has_place flying then flying + 1 else flying) (drop (i + 1) ms) ≡ whole
lines_more from sent flying ms i m told told' whole at more all =
    ap (λ (ls : List Line). ls ++ posted_lines from (sent + 1) (if has_place flying then flying + 1 else flying) (drop (i + 1) ms)) more
    ∙ append_assoc told (line.Sent (sent + 1) from m.0 m.1 ∷ (if has_place flying then [] else line.Full (sent + 1) ∷ [])) (posted_lines from (sent + 1) (if has_place flying then flying + 1 else flying) (drop (i + 1) ms))
    ∙ ap (λ (xs : Sends). told ++ posted_lines from sent flying xs) (sym (drop_at ms i m at))
    ∙ all

-- ---- networks that are the same but for room

pub same_then : (a b c : nets.NetworkState) → nets.IsSameNetwork a b → nets.IsSameNetwork b c → nets.IsSameNetwork a c
same_then a b c h k = record { flying = k.flying ∙ h.flying; sent = k.sent ∙ h.sent; groups = k.groups ∙ h.groups }

same_posted : (m n : nets.NetworkState) (from : ℕ) (x : ℕ × List ℕ) → nets.IsSameNetwork m n → nets.IsSameNetwork (posted_in m from x) (posted_in n from x)
same_posted m n from x h = record {
  flying = ap₂ (λ (es : List (ℕ × Flying)) (s : ℕ). if nets.has_flight_place es then es ++ (s + 1, record { from = from; to = x.0; bytes = x.1 }) ∷ [] else es) h.flying h.sent;
  sent = ap (λ s. s + 1) h.sent;
  groups = h.groups;
}

pub same_all_posted : (m n : nets.NetworkState) (from : ℕ) (xs : Sends) → nets.IsSameNetwork m n → nets.IsSameNetwork (all_posted_in m from xs) (all_posted_in n from xs)
same_all_posted m n from [] h = h
same_all_posted m n from (x ∷ xs) h = same_all_posted (posted_in m from x) (posted_in n from x) from xs (same_posted m n from x h)

-- one more message is sent, of those that are left
pub posted_more : (whole old new : nets.NetworkState) (from : ℕ) (left rest : Sends) (x : ℕ × List ℕ) → left ≡ x ∷ rest → nets.IsSameNetwork (posted_in old from x) new
    → nets.IsSameNetwork whole (all_posted_in old from left) → nets.IsSameNetwork whole (all_posted_in new from rest)
posted_more whole old new from left rest x is sent h =
    same_then whole (all_posted_in old from left) (all_posted_in new from rest) h
    (subst (λ (xs : Sends). nets.IsSameNetwork (all_posted_in old from xs) (all_posted_in new from rest)) (sym is) (same_all_posted (posted_in old from x) new from rest sent))

-- what a call that succeeded ensures
pub on_ok : {A B : Type 0} {P : Type 0} (r : Result A B) → OnOk r P → IsOk r → P
on_ok (Ok a) p ok = p
on_ok (Err b) p ok = cc ok

-- each message has a line at least
pub posted_long : (from sent flying : ℕ) (ms : Sends) → length ms ≤ length (posted_lines from sent flying ms)
posted_long from sent flying [] = omega arith
posted_long from sent flying (m ∷ ms) =
    let rest : length ms ≤ length (posted_lines from (sent + 1) (if has_place flying then flying + 1 else flying) ms) = posted_long from (sent + 1) (if has_place flying then flying + 1 else flying) ms in
    let count = length-append (if has_place flying then [] else line.Full (sent + 1) ∷ []) (posted_lines from (sent + 1) (if has_place flying then flying + 1 else flying) ms) in
    omega (arith, rest, count)

-- so many messages are sent, and so many of them fit with the lines
pub sends_within : (from sent flying : ℕ) (ms : Sends) (ls before : List Line) → IsWithin (before ++ (ls ++ posted_lines from sent flying ms)) → length ms ≤ line_limit
sends_within from sent flying ms ls before h =
    let long = posted_long from sent flying ms in
    let inner = length-append ls (posted_lines from sent flying ms) in
    let outer = length-append before (ls ++ posted_lines from sent flying ms) in
    omega (arith, long, inner, outer, h.lines_fit)

-- ---- numbers of what was sent

all_posted_sent : (net : nets.NetworkState) (from : ℕ) (ms : Sends) → (all_posted_in net from ms).sent ≡ net.sent + length ms
all_posted_sent net from [] = omega arith
all_posted_sent net from (m ∷ ms) = let rest = all_posted_sent (posted_in net from m) from ms in omega (arith, rest)

pub landing_sent : (net : nets.NetworkState) (landing : Option ℕ) → (landing_from net landing).sent ≡ net.sent
landing_sent net None = refl
landing_sent net (Some i) = refl

-- no more numbers than lines were taken
pub sent_few : (net new : nets.NetworkState) (landing : Option ℕ) (from sent flying : ℕ) (own : List Line) (ms : Sends) → nets.IsSameNetwork (all_posted_in (landing_from net landing) from ms) new
    → new.sent ≤ net.sent + length (own ++ posted_lines from sent flying ms)
sent_few net new landing from sent flying own ms same =
    let posted = all_posted_sent (landing_from net landing) from ms in
    let before = landing_sent net landing in
    let long = posted_long from sent flying ms in
    let count = length-append own (posted_lines from sent flying ms) in
    omega (arith, same.sent, posted, before, long, count)

none_left : {A : Type 0} (xs : List A) (i : ℕ) → slice_get xs i ≡ None → drop i xs ≡ []
none_left [] zero e = refl
none_left [] (suc i) e = refl
none_left (y ∷ ys) zero e = cc
none_left (y ∷ ys) (suc i) e = none_left ys i e

-- no message is left
pub lines_end : (from sent flying : ℕ) (ms : Sends) (i : ℕ) (told whole : List Line) → slice_get ms i ≡ None → told ++ posted_lines from sent flying (drop i ms) ≡ whole → told ≡ whole
lines_end from sent flying ms i told whole at all =
    sym (append-nil told) ∙ ap (λ (xs : Sends). told ++ posted_lines from sent flying xs) (sym (none_left ms i at)) ∙ all

pub same_landing : (m n : nets.NetworkState) (landing : Option ℕ) → nets.IsSameNetwork m n → nets.IsSameNetwork (landing_from m landing) (landing_from n landing)
same_landing m n None h = h
same_landing m n (Some i) h = record { flying = ap (nets.flying_without i) h.flying; sent = h.sent; groups = h.groups }
