-- The network against that of the world.
use Rattle.std.proofs.Common.{◌≡◌, ◌==◌, ◌||◌, ◌&&◌, not, ℕ, zero, suc, ◌+◌, ◌-◌, ◌<◌, ◌≤◌, Bool, true, false, cond, List, [], ◌∷◌, ◌++◌, All, length, Option, Some, None, refl, sym, ap, subst, ◌∙◌, arith, length-append}
use Rattle.std.specs.Prelude.{slice_get, nat_lt, option_map, is_some, AllPairs, if◌then◌else◌}
use Rattle.journal_lines.specs.declared.line.Line.TheVariants as line
use Rattle.std.proofs.lemmas.Bool.Decides.{nat_tests}
use Rattle.std.proofs.lemmas.List.{length-map}
use Rattle.std.proofs.lemmas.List.Elements.{All-nil, All-cons, All-head, All-tail}
use Rattle.std.proofs.lemmas.List.Kept.{AllPairs-filter}
use Rattle.std.proofs.lemmas.List.Quantifiers.{all_pairs_push}
use Rattle.cluster_types.specs.Distinct.{without}
use Rattle.net_script.specs.declared.net.Flying.{Flying}
use Rattle.net_script.specs.Network as nets
use Rattle.net_script.specs.Network.{AreNumbers, flying_ids, ends_apart, flying_message, with_next}
use Rattle.cluster_types.specs.Groups.{apart}
use Rattle.journal_readings.specs.Lines.{has_node}
use Rattle.journal_readings.specs.Messages.{Posting}
use Rattle.cluster_rules.specs.Network.{Network, posting_at, posting, landed, has_place, flying_at, are_apart}
use Rattle.cluster_rules.specs.DueEvents.{sent_lines}
use Rattle.cluster_rules.specs.NodeSteps.{IsNumbered, sent_in, all_sent_in}
use Rattle.wire_messages.specs.declared.message.Message.{Message}
use Rattle.wire_messages.specs.Spelling.{spelling}
use Rattle.node_steps.specs.Spelled.{spelled_sends}
use Rattle.world.specs.Sent.{IsInFlight, posted_lines, posted_in, all_posted_in, landing_from}
use Rattle.world.specs.Stands.{IsNetwork, AreDivided, flying_posting}
use Rattle.world.proofs.Places.{pairs_head, pairs_tail}

-- ---- what was sent stays

sent_stays : (xs : List Posting) (x y : Posting) (i : ℕ) → slice_get xs i ≡ Some y → slice_get (xs ++ x ∷ []) i ≡ Some y
sent_stays [] x y i e = cc
sent_stays (z ∷ xs) x y zero e = e
sent_stays (z ∷ xs) x y (suc i) e = sent_stays xs x y i e

last_sent : (xs : List Posting) (x : Posting) → slice_get (xs ++ x ∷ []) (length xs) ≡ Some x
last_sent [] x = refl
last_sent (z ∷ xs) x = last_sent xs x

posting_stays : (n : Network) (i j : ℕ) (p q : Posting) → posting_at n j ≡ Some q → posting_at (posting n i p) j ≡ Some q
posting_stays n i j p q e = go (nat_lt 0 j) e
  where
    go : (b : Bool) → (if b then slice_get n.sent (j - 1) else None) ≡ Some q → (if b then slice_get (posting n i p).sent (j - 1) else None) ≡ Some q
    go true e = sent_stays n.sent p q (j - 1) e
    go false e = cc

posting_last : (n : Network) (p : Posting) → posting_at (posting n (length n.sent + 1) p) (length n.sent + 1) ≡ Some p
posting_last n p =
    let above : nat_lt 0 (length n.sent + 1) ≡ true = grind (arith, nat_tests) in
    let place : length n.sent + 1 - 1 ≡ length n.sent = omega arith in
    ap (λ (holds : Bool). if holds then slice_get (posting n (length n.sent + 1) p).sent ((length n.sent + 1) - 1) else None) above ∙ ap (slice_get (n.sent ++ p ∷ [])) place ∙ last_sent n.sent p

-- each message in flight is as it was sent
abbrev Posted : Network → ℕ × Flying → Type 0
Posted n e = posting_at n e.0 ≡ Some (flying_posting e.1)

all_stay : (n : Network) (i : ℕ) (p : Posting) (es : List (ℕ × Flying)) → All (λ e. Posted n e) es → All (λ e. Posted (posting n i p) e) es
all_stay n i p [] h = All-nil (λ e. Posted (posting n i p) e)
all_stay n i p (e ∷ es) h =
    All-cons (λ e. Posted (posting n i p) e) e es (posting_stays n i e.0 p (flying_posting e.1) (All-head (λ e. Posted n e) e es h)) (all_stay n i p es (All-tail (λ e. Posted n e) e es h))

all_last : (n : Network) (es : List (ℕ × Flying)) (x : ℕ × Flying) → All (λ e. Posted n e) es → Posted n x → All (λ e. Posted n e) (es ++ x ∷ [])
all_last n [] x h k = All-cons (λ e. Posted n e) x [] k (All-nil (λ e. Posted n e))
all_last n (e ∷ es) x h k = All-cons (λ e. Posted n e) e (es ++ x ∷ []) (All-head (λ e. Posted n e) e es h) (all_last n es x (All-tail (λ e. Posted n e) e es h) k)

put_last : (P : ℕ → Type 0) (ids : List ℕ) (i : ℕ) → All P ids → P i → All P (ids ++ i ∷ [])
put_last P [] i h p = All-cons P i [] p (All-nil P)
put_last P (j ∷ ids) i h p = All-cons P j (ids ++ i ∷ []) (All-head P j ids h) (put_last P ids i (All-tail P j ids h) p)

ids_last : (es : List (ℕ × Flying)) (x : ℕ × Flying)
    → flying_ids (es ++ x ∷ []) ≡ flying_ids es ++ x.0 ∷ []
ids_last [] x = refl
ids_last (e ∷ es) x = ap (λ is. e.0 ∷ is) (ids_last es x)

pub without_new : (last i : ℕ) (ids : List ℕ) → last < i → All (λ j. j ≤ last) ids → without (ids ++ i ∷ []) i ≡ ids
without_new last i [] l h = grind (arith, nat_tests)
without_new last i (j ∷ ids) l h =
    let r : without (ids ++ i ∷ []) i ≡ ids = without_new last i ids l (All-tail (λ j. j ≤ last) j ids h) in
    let below : j ≤ last = All-head (λ j. j ≤ last) j ids h in
    grind (arith, nat_tests, r, below)

-- ---- a message is sent

one_sent-if : (net net' : nets.NetworkState) (n : Network) (m : Flying) (b : Bool) → IsNetwork net n → AreNumbers net.sent (flying_ids net.flying)
    → net'.flying ≡ cond b (net.flying ++ (net.sent + 1, m) ∷ []) net.flying → net'.sent ≡ net.sent + 1 → net'.groups ≡ net.groups
    → IsNetwork net'
    (if b then posting n (length n.sent + 1) (flying_posting m) else landed (posting n (length n.sent + 1) (flying_posting m)) (length n.sent + 1))
one_sent-if net net' n m true h k f s g =
    let p : Posting = flying_posting m in
    let i : ℕ = length n.sent + 1 in
    let x : ℕ × Flying = (net.sent + 1, m) in
    let same : net.sent + 1 ≡ i = ap (λ c. c + 1) h.sent in
    let new : Posted (posting n i p) x = ap (posting_at (posting n i p)) same ∙ posting_last n p in
    record {
      sent = s ∙ same ∙ sym (length-append n.sent (p ∷ []));
      numbers = ap flying_ids f ∙ ids_last net.flying x ∙ ap (λ is. is ++ x.0 ∷ []) h.numbers ∙ ap (λ c. n.flying ++ c ∷ []) same;
      postings = subst (λ (es : List (ℕ × Flying)). All (λ e. Posted (posting n i p) e) es) (sym f) (all_last (posting n i p) net.flying x (all_stay n i p net.flying h.postings) new);
      groups = subst (λ (o : Option (List (List ℕ))). AreDivided o n.groups) (sym g) h.groups;
    }
one_sent-if net net' n m false h k f s g =
    let p : Posting = flying_posting m in
    let i : ℕ = length n.sent + 1 in
    let same : net.sent + 1 ≡ i = ap (λ c. c + 1) h.sent in
    let gone : without (n.flying ++ i ∷ []) i ≡ n.flying = without_new net.sent i n.flying (omega (arith, same)) (subst (λ (is : List ℕ). All (λ j. j ≤ net.sent) is) h.numbers k.to_last) in
    record {
      sent = s ∙ same ∙ sym (length-append n.sent (p ∷ []));
      numbers = ap flying_ids f ∙ h.numbers ∙ sym gone;
      postings = subst (λ (es : List (ℕ × Flying)). All (λ e. Posted (posting n i p) e) es) (sym f) (all_stay n i p net.flying h.postings);
      groups = subst (λ (o : Option (List (List ℕ))). AreDivided o n.groups) (sym g) h.groups;
    }

-- as many are in flight
pub same_place : (net : nets.NetworkState) (n : Network) → IsNetwork net n → nets.has_flight_place net.flying ≡ has_place (length n.flying)
same_place net n h = ap has_place (sym (length-map net.flying (λ (e : ℕ × Flying). e.0)) ∙ ap length h.numbers)

pub one_sent : (net net' : nets.NetworkState) (n : Network) (m : Flying) → IsNetwork net n → AreNumbers net.sent (flying_ids net.flying)
    → net'.flying ≡ with_next net m → net'.sent ≡ net.sent + 1 → net'.groups ≡ net.groups
    → IsNetwork net' (sent_in n (flying_posting m))
one_sent net net' n m h k f s g =
    one_sent-if net net' n m (has_place (length n.flying)) h k (f ∙ ap (λ b. cond b (net.flying ++ (net.sent + 1, m) ∷ []) net.flying) (same_place net n h)) s g

-- ---- a message leaves

ids_without : (i : ℕ) (es : List (ℕ × Flying))
    → flying_ids (nets.flying_without i es) ≡ without (flying_ids es) i
ids_without i [] = refl
ids_without i (e ∷ es) = grind (arith, nat_tests, ids_without i es)

all_without : (n : Network) (i : ℕ) (es : List (ℕ × Flying)) → All (λ e. Posted n e) es → All (λ e. Posted n e) (nets.flying_without i es)
all_without n i [] h = h
all_without n i (e ∷ es) h = go (not (e.0 == i)) (All-head (λ e. Posted n e) e es h) (all_without n i es (All-tail (λ e. Posted n e) e es h))
  where
    go : (b : Bool) → Posted n e → All (λ e. Posted n e) (nets.flying_without i es) → All (λ e. Posted n e) (cond b (e ∷ nets.flying_without i es) (nets.flying_without i es))
    go true x xs = All-cons (λ e. Posted n e) e (nets.flying_without i es) x xs
    go false x xs = xs

pub one_gone : (net net' : nets.NetworkState) (n : Network) (i : ℕ) → IsNetwork net n
    → net'.flying ≡ nets.flying_without i net.flying → net'.sent ≡ net.sent → net'.groups ≡ net.groups → IsNetwork net' (landed n i)
one_gone net net' n i h f s g = record {
  sent = s ∙ h.sent;
  numbers = ap flying_ids f ∙ ids_without i net.flying ∙ ap (λ is. without is i) h.numbers;
  postings = subst (λ (es : List (ℕ × Flying)). All (λ e. Posted n e) es) (sym f) (all_without n i net.flying h.postings);
  groups = subst (λ (o : Option (List (List ℕ))). AreDivided o n.groups) (sym g) h.groups;
}

-- ---- a message is found

found-from : (n : Network) (i : ℕ) (es : List (ℕ × Flying)) → All (λ e. Posted n e) es → (if has_node (flying_ids es) i then posting_at n i else None) ≡ option_map flying_posting (flying_message i es)
found-from n i [] h = refl
found-from n i (e ∷ es) h =
    let r : (if has_node (flying_ids es) i then posting_at n i else None) ≡ option_map flying_posting (flying_message i es) = found-from n i es (All-tail (λ e. Posted n e) e es h) in
    go (e.0 == i) refl (All-head (λ e. Posted n e) e es h) r
  where
    go : (b : Bool) → (e.0 == i) ≡ b → Posted n e → (if has_node (flying_ids es) i then posting_at n i else None) ≡ option_map flying_posting (flying_message i es)
        → (if b || has_node (flying_ids es) i then posting_at n i else None) ≡ option_map flying_posting (cond b (Some e.1) (flying_message i es))
    go true t x r = let same : e.0 ≡ i = grind (arith, nat_tests, t) in ap (posting_at n) (sym same) ∙ x
    go false t x r = r

-- the message of a number is the one that the world finds in flight
pub found : (net : nets.NetworkState) (n : Network) (i : ℕ) → IsNetwork net n → flying_at n i ≡ option_map flying_posting (flying_message i net.flying)
found net n i h = ap (λ is. (if has_node is i then posting_at n i else None)) (sym h.numbers) ∙ found-from n i net.flying h.postings

-- nothing but room has changed
pub same_network : (net net' : nets.NetworkState) (n : Network) → nets.IsSameNetwork net net' → IsNetwork net n → IsNetwork net' n
same_network net net' n e h = record {
  sent = e.sent ∙ h.sent;
  numbers = ap flying_ids e.flying ∙ h.numbers;
  postings = subst (λ (es : List (ℕ × Flying)). All (λ e. Posted n e) es) (sym e.flying) h.postings;
  groups = subst (λ (o : Option (List (List ℕ))). AreDivided o n.groups) (sym e.groups) h.groups;
}

-- ---- several messages are sent

-- their lines are those of the rules
pub posted_lines_are : (from sent flying : ℕ) (ms : List (ℕ × Message)) → posted_lines from sent flying (spelled_sends ms) ≡ sent_lines from sent flying ms
posted_lines_are from sent flying [] = refl
posted_lines_are from sent flying (m ∷ ms) =
    ap (λ ls. line.Sent (sent + 1) from m.0 (spelling m.1) ∷ ((if has_place flying then [] else line.Full (sent + 1) ∷ []) ++ ls)) (posted_lines_are from (sent + 1) (if has_place flying then flying + 1 else flying) ms)

rises_last : (last : ℕ) (ids : List ℕ) → AllPairs (λ i j. i < j) ids → All (λ i. i ≤ last) ids → AllPairs (λ i j. i < j) (ids ++ (last + 1) ∷ [])
rises_last last ids h l = all_pairs_push (λ i j. i < j) ids (last + 1) h (λ k d within. let below = l k d within in omega (arith, below))

numbers_stay : (net : nets.NetworkState) (from : ℕ) (m : ℕ × List ℕ) → AreNumbers net.sent (flying_ids net.flying) → AreNumbers (posted_in net from m).sent (flying_ids (posted_in net from m).flying)
numbers_stay net from m h = go (nets.has_flight_place net.flying)
  where
    x : ℕ × Flying
    x = (net.sent + 1, record { from = from; to = m.0; bytes = m.1 })

    more : All (λ i. i ≤ net.sent) (flying_ids net.flying) → All (λ i. i ≤ net.sent + 1) (flying_ids net.flying)
    more l = weaken (flying_ids net.flying) l
      where
        weaken : (ids : List ℕ) → All (λ i. i ≤ net.sent) ids → All (λ i. i ≤ net.sent + 1) ids
        weaken [] k = All-nil (λ i. i ≤ net.sent + 1)
        weaken (i ∷ ids) k = let below : i ≤ net.sent = All-head (λ i. i ≤ net.sent) i ids k in All-cons (λ i. i ≤ net.sent + 1) i ids (omega (arith, below)) (weaken ids (All-tail (λ i. i ≤ net.sent) i ids k))

    go : (b : Bool)
        → AreNumbers (net.sent + 1) (flying_ids (cond b (net.flying ++ x ∷ []) net.flying))
    go true = subst (λ (is : List ℕ). AreNumbers (net.sent + 1) is) (sym (ids_last net.flying x)) (record {
      rising = rises_last net.sent (flying_ids net.flying) h.rising h.to_last;
      from_one = put_last (λ i. 0 < i) (flying_ids net.flying) (net.sent + 1) h.from_one
          (omega arith);
      to_last = put_last (λ i. i ≤ net.sent + 1) (flying_ids net.flying) (net.sent + 1) (more h.to_last) (omega arith);
    })
    go false = record { rising = h.rising; from_one = h.from_one; to_last = more h.to_last }

-- the network after them is the one of the rules
pub all_sent_on : (from : ℕ) (ms : List (ℕ × Message)) (net : nets.NetworkState) (n : Network) → IsNetwork net n → AreNumbers net.sent (flying_ids net.flying)
    → IsNetwork (all_posted_in net from (spelled_sends ms)) (all_sent_in n from ms)
all_sent_on from [] net n h k = h
all_sent_on from (m ∷ ms) net n h k =
    all_sent_on from ms (posted_in net from (m.0, spelling m.1)) (sent_in n (record { from = from; to = m.0; bytes = spelling m.1 }))
    (one_sent net (posted_in net from (m.0, spelling m.1)) n (record { from = from; to = m.0; bytes = spelling m.1 }) h k refl refl refl)
    (numbers_stay net from (m.0, spelling m.1) k)

-- ---- numbers

-- no number in flight is past the last one
pub numbered : (net : nets.NetworkState) (n : Network) → IsNetwork net n → AreNumbers net.sent (flying_ids net.flying) → IsNumbered n
numbered net n h k = record {
  upto = subst (λ (is : List ℕ). All (λ j. j ≤ length n.sent) is) h.numbers (subst (λ c. All (λ j. j ≤ c) (flying_ids net.flying)) h.sent k.to_last);
}

all_left : (P : ℕ → Type 0) (ids : List ℕ) (i : ℕ) → All P ids → All P (without ids i)
all_left P [] i h = h
all_left P (j ∷ ids) i h = go (not (j == i)) (All-head P j ids h) (all_left P ids i (All-tail P j ids h))
  where
    go : (b : Bool) → P j → All P (without ids i) → All P (cond b (j ∷ without ids i) (without ids i))
    go true p ps = All-cons P j (without ids i) p ps
    go false p ps = ps

-- they stay numbers where one leaves
pub numbers_left : (net : nets.NetworkState) (landing : Option ℕ) → AreNumbers net.sent (flying_ids net.flying) → AreNumbers (landing_from net landing).sent (flying_ids (landing_from net landing).flying)
numbers_left net None h = h
numbers_left net (Some i) h = subst (λ (is : List ℕ). AreNumbers net.sent is) (sym (ids_without i net.flying)) (record {
  rising = AllPairs-filter (λ a b. a < b) (λ j. not (j == i)) (flying_ids net.flying) h.rising;
  from_one = all_left (λ j. 0 < j) (flying_ids net.flying) i h.from_one;
  to_last = all_left (λ j. j ≤ net.sent) (flying_ids net.flying) i h.to_last;
})

-- ---- groups

-- the ends are apart in the network as they are by the rules
pub apart_is : (net : nets.NetworkState) (n : Network) (a b : ℕ) → IsNetwork net n → ends_apart net.groups a b ≡ are_apart n a b
apart_is net n a b h = go net.groups h.groups
  where
    none : (x y : Bool) → (x && (y && apart ([] ∷ []) a b)) ≡ false
    none true true = refl
    none true false = refl
    none false y = refl

    go : (o : Option (List (List ℕ))) → AreDivided o n.groups → ends_apart o a b ≡ are_apart n a b
    go None d = sym (ap (λ (gs : List (List ℕ)). not (a == 0) && (not (b == 0) && apart gs a b)) d ∙ none (not (a == 0)) (not (b == 0)))
    go (Some gs) d = ap (λ (xs : List (List ℕ)). not (a == 0) && (not (b == 0) && apart xs a b)) d

-- ---- how many are in flight

absent_stays : (i : ℕ) (es : List (ℕ × Flying)) → All (λ j. i < j) (flying_ids es) → nets.flying_without i es ≡ es
absent_stays i [] h = refl
absent_stays i (e ∷ es) h =
    let above : i < e.0 = All-head (λ j. i < j) e.0 (flying_ids es) h in
    let other : (e.0 == i) ≡ false = grind (arith, nat_tests, above) in
    ap (λ b. cond (not b) (e ∷ nets.flying_without i es) (nets.flying_without i es)) other
    ∙ ap (λ (xs : List (ℕ × Flying)). e ∷ xs) (absent_stays i es (All-tail (λ j. i < j) e.0 (flying_ids es) h))

-- one that leaves is one fewer
pub one_fewer : (i : ℕ) (es : List (ℕ × Flying)) → AllPairs (λ a b. a < b) (flying_ids es) → is_some (flying_message i es) ≡ true → length (nets.flying_without i es) + 1 ≡ length es
one_fewer i [] h e = cc
one_fewer i (x ∷ es) h e = go (x.0 == i) refl e (one_fewer i es (pairs_tail (λ a b. a < b) x.0 (flying_ids es) h))
  where
    go : (b : Bool) → (x.0 == i) ≡ b → is_some (cond b (Some x.1) (flying_message i es)) ≡ true → (is_some (flying_message i es) ≡ true → length (nets.flying_without i es) + 1 ≡ length es) → length (cond (not b) (x ∷ nets.flying_without i es) (nets.flying_without i es)) + 1 ≡ length (x ∷ es)
    go true t e rest =
        let same : x.0 ≡ i = grind (arith, nat_tests, t) in
        let stays : length (nets.flying_without i es) ≡ length es = ap length (absent_stays i es (subst (λ k. All (λ j. k < j) (flying_ids es)) same (pairs_head (λ a b. a < b) x.0 (flying_ids es) h))) in
        omega (arith, stays)
    go false t e rest = let one : length (nets.flying_without i es) + 1 ≡ length es = rest e in omega (arith, one)

-- a message that leaves is one fewer in flight
pub fewer_left : (net : nets.NetworkState) (landing : Option ℕ) (i : ℕ) → landing ≡ Some i → AreNumbers net.sent (flying_ids net.flying) → IsInFlight net.flying landing
    → length (landing_from net landing).flying + 1 ≡ length net.flying
fewer_left net landing i is numbers flies =
    ap (λ o. length (landing_from net o).flying + 1) is ∙ one_fewer i net.flying numbers.rising (subst (IsInFlight net.flying) is flies)
