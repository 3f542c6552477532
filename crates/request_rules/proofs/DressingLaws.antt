-- What a step adds for requests that came or went as messages.
use Rattle.std.proofs.Common.{◌≡◌, ◌==◌, ℕ, zero, suc, Bool, true, false, cond, not, List, [], ◌∷◌, ◌++◌, All, filter, map, Option, Some, None, refl, ap, ap₂, ◌∙◌, eq-eqb, arith}
use Rattle.std.specs.List.{list_any}
use Rattle.std.proofs.lemmas.List.{append-nil}
use Rattle.std.proofs.lemmas.List.Elements.{All-nil, All-append}
use Rattle.conflict_order.specs.declared.want.Want.{Want}
use Rattle.cluster_types.specs.declared.cluster_key.ClusterKey.{ClusterKey}
use Rattle.cluster_types.specs.Endpoints.{client}
use Rattle.cluster_types.proofs.BoolFacts.{neither_left, neither_right}
use Rattle.journal_lines.specs.declared.line.Line.{Line}
use Rattle.journal_lines.specs.declared.line.Line.TheVariants as line
use Rattle.wire_messages.specs.declared.message.Message.{Message}
use Rattle.wire_messages.specs.declared.message.Message.TheVariants as message
use Rattle.wire_messages.specs.declared.reply.ReplyBody.{ReplyBody}
use Rattle.wire_messages.specs.declared.reply.ReplyBody.TheVariants as reply
use Rattle.node_rules.specs.Effects.{Effects}
use Rattle.node_rules.specs.Facts.{Facts, view_key}
use Rattle.request_rules.specs.declared.passed.Passed.{Passed}
use Rattle.request_rules.specs.declared.taken.Asker.{Asker}
use Rattle.request_rules.specs.declared.taken.Taken.{Taken}
use Rattle.request_rules.specs.Dressing.{with_requests}
use Rattle.request_rules.specs.LineNotes.{note_request, noted_requests}
use Rattle.request_rules.specs.ByNumber.{ByNumber}
use Rattle.request_rules.specs.Passing.{given_up, is_giving_up, leaves, with_given_up}
use Rattle.request_rules.specs.Replies.{is_reply, found_body, refusal_body, reply_to}
use Rattle.request_rules.specs.Requests.{NodeRequests}
use Rattle.request_rules.specs.TakenUp.{bound_to, note_taken, owed, owed_by_line, refusal_for, reply_for}

-- ---- where nothing is kept

no_refusal : (key : ClusterKey) (b : Option ReplyBody) → refusal_for key None b ≡ []
no_refusal key None = refl
no_refusal key (Some b) = refl

owes_nothing : (key : ClusterKey) (l : Line) → owed_by_line key None [] l ≡ []
owes_nothing key (line.Refused n d cause) = no_refusal key (refusal_body cause)
owes_nothing key _ = refl

keeps_nothing : (l : Line) → note_taken None [] l ≡ []
keeps_nothing (line.Stop n) = refl
keeps_nothing _ = refl

nothing_owed : (key : ClusterKey) (ls : List Line) → owed key None [] ls ≡ []
nothing_owed key [] = refl
nothing_owed key (l ∷ ls) =
    ap₂ (λ owes taken. owes ++ owed key None taken ls) (owes_nothing key l) (keeps_nothing l) ∙ nothing_owed key ls

part_if : (b : Bool) (l : Line) (ls rest : List Line) → rest ≡ ls → cond b (l ∷ ls) (l ∷ rest) ≡ l ∷ ls
part_if true l ls rest e = refl
part_if false l ls rest e = ap (λ ms. l ∷ ms) e

nothing_parted : (key : ClusterKey) (n : ℕ) (ls : List Line) → with_given_up [] key n ls ≡ ls
nothing_parted key n [] = refl
nothing_parted key n (l ∷ ls) = part_if (leaves n l) l ls (with_given_up [] key n ls) (nothing_parted key n ls)

pub idle : (r : NodeRequests) (f : Facts) (e : Effects) → r.taken ≡ [] → r.passed.waiting ≡ [] → with_requests r f None e ≡ e
idle r f e no_taken no_waiting =
    let lines : with_given_up r.passed.waiting (view_key f) f.me e.lines ≡ e.lines =
    ap (λ ps. with_given_up ps (view_key f) f.me e.lines) no_waiting ∙ nothing_parted (view_key f) f.me e.lines in
    let owes : owed (view_key f) None r.taken e.lines ≡ [] =
    ap (λ taken. owed (view_key f) None taken e.lines) no_taken ∙ nothing_owed (view_key f) e.lines in
    let sends : (e.sends ++ owed (view_key f) None r.taken e.lines) ≡ e.sends =
    ap (λ ms. e.sends ++ ms) owes ∙ append-nil e.sends in
    ap₂ (λ ls ms. record { lines = ls; sends = ms }) lines sends

-- ---- where what is given up stands

stays_if : (b : Bool) (up : List Line) (l : Line) (ls rest : List Line) → b ≡ false → rest ≡ ls → cond b (up ++ l ∷ ls) (l ∷ rest) ≡ l ∷ ls
stays_if b up l ls rest e h = rw e (ap (λ ms. l ∷ ms) h)

pub staying : (ps : ByNumber Passed) (key : ClusterKey) (n : ℕ) (ls : List Line) → list_any (leaves n) ls ≡ false → with_given_up ps key n ls ≡ ls
staying ps key n [] e = refl
staying ps key n (l ∷ ls) e =
    stays_if (leaves n l) (map (given_up n key) ps) l ls (with_given_up ps key n ls) (neither_left (leaves n l) (list_any (leaves n) ls) e)
    (staying ps key n ls (neither_right (leaves n l) (list_any (leaves n) ls) e))

goes_on_if : (b : Bool) (up : List Line) (l : Line) (ls rest : List Line) → b ≡ false → cond b (up ++ l ∷ ls) (l ∷ rest) ≡ l ∷ rest
goes_on_if b up l ls rest e = rw e refl

parts_if : (b : Bool) (up : List Line) (l : Line) (ls rest : List Line) → b ≡ true → cond b (up ++ l ∷ ls) (l ∷ rest) ≡ up ++ l ∷ ls
parts_if b up l ls rest e = rw e refl

pub leaving : (ps : ByNumber Passed) (key : ClusterKey) (n : ℕ) (before : List Line) (l : Line) (behind : List Line) → list_any (leaves n) before ≡ false → leaves n l ≡ true → with_given_up ps key n (before ++ l ∷ behind) ≡ before ++ (map (given_up n key) ps ++ l ∷ behind)
leaving ps key n [] l behind stays left = parts_if (leaves n l) (map (given_up n key) ps) l behind (with_given_up ps key n behind) left
leaving ps key n (b ∷ before) l behind stays left =
    goes_on_if (leaves n b) (map (given_up n key) ps) b (before ++ l ∷ behind) (with_given_up ps key n (before ++ l ∷ behind)) (neither_left (leaves n b) (list_any (leaves n) before) stays)
    ∙ ap (λ ls. b ∷ ls) (leaving ps key n before l behind (neither_right (leaves n b) (list_any (leaves n) before) stays) left)

-- ---- the other lines

abbrev is_other : ℕ → Line → Bool
is_other n l = not (is_giving_up n l)

without_given_up : (ps : ByNumber Passed) (key : ClusterKey) (n : ℕ) (ls : List Line) → filter (is_other n) (map (given_up n key) ps ++ ls) ≡ filter (is_other n) ls
without_given_up [] key n ls = refl
without_given_up (p ∷ ps) key n ls =
    let same : (n == n) ≡ true = eq-eqb n n refl in
    rw same (without_given_up ps key n ls)

filter_either : (b : Bool) (test : Line → Bool) (xs ys zs : List Line) → filter test xs ≡ filter test zs → filter test ys ≡ filter test zs → filter test (cond b xs ys) ≡ filter test zs
filter_either true test xs ys zs e h = e
filter_either false test xs ys zs e h = h

filter_behind : (test : Line → Bool) (l : Line) (xs ys : List Line) → filter test xs ≡ filter test ys → filter test (l ∷ xs) ≡ filter test (l ∷ ys)
filter_behind test l xs ys e = ap (λ zs. cond (test l) (l ∷ zs) zs) e

pub added : (ps : ByNumber Passed) (key : ClusterKey) (n : ℕ) (ls : List Line) → filter (is_other n) (with_given_up ps key n ls) ≡ filter (is_other n) ls
added ps key n [] = refl
added ps key n (l ∷ ls) =
    filter_either (leaves n l) (is_other n) (map (given_up n key) ps ++ l ∷ ls) (l ∷ with_given_up ps key n ls) (l ∷ ls)
    (without_given_up ps key n (l ∷ ls)) (filter_behind (is_other n) l (with_given_up ps key n ls) ls (added ps key n ls))

-- ---- what is kept

-- a line at which the node leaves its view empties all
emptied : (a : Option Asker) (w : Option Want) (r s : NodeRequests) (n : ℕ) (l : Line) → leaves n l ≡ true → note_request a w r l ≡ note_request a w s l
emptied a w r s n (line.Stop m) e = refl
emptied a w r s n (line.Enter m key members) e = refl
emptied a w r s n _ e = cc

noted_emptied : (a : Option Asker) (w : Option Want) (r s : NodeRequests) (n : ℕ) (l : Line) (ls : List Line) → leaves n l ≡ true → noted_requests a w r (l ∷ ls) ≡ noted_requests a w s (l ∷ ls)
noted_emptied a w r s n l ls e = ap (λ q. noted_requests a w q ls) (emptied a w r s n l e)

given_up_emptied : (a : Option Asker) (w : Option Want) (r : NodeRequests) (ps : ByNumber Passed) (key : ClusterKey) (n : ℕ) (l : Line) (ls : List Line) → leaves n l ≡ true → noted_requests a w r (map (given_up n key) ps ++ l ∷ ls) ≡ noted_requests a w r (l ∷ ls)
given_up_emptied a w r [] key n l ls e = refl
given_up_emptied a w r (p ∷ ps) key n l ls e =
    given_up_emptied a w (note_request a w r (given_up n key p)) ps key n l ls e
    ∙ noted_emptied a w (note_request a w r (given_up n key p)) r n l ls e

noted_if : (a : Option Asker) (w : Option Want) (r : NodeRequests) (b : Bool) (xs ys zs : List Line) → (b ≡ true → noted_requests a w r xs ≡ noted_requests a w r zs) → noted_requests a w r ys ≡ noted_requests a w r zs → noted_requests a w r (cond b xs ys) ≡ noted_requests a w r zs
noted_if a w r true xs ys zs left stays = left refl
noted_if a w r false xs ys zs left stays = stays

pub unchanged : (a : Option Asker) (w : Option Want) (r : NodeRequests) (ps : ByNumber Passed) (key : ClusterKey) (n : ℕ) (ls : List Line) → noted_requests a w r (with_given_up ps key n ls) ≡ noted_requests a w r ls
unchanged a w r ps key n [] = refl
unchanged a w r ps key n (l ∷ ls) =
    noted_if a w r (leaves n l) (map (given_up n key) ps ++ l ∷ ls) (l ∷ with_given_up ps key n ls) (l ∷ ls)
    (λ e. given_up_emptied a w r ps key n l ls e)
    (unchanged a w (note_request a w r l) ps key n ls)

-- ---- what is owed

abbrev AreReplies : List (ℕ × Message) → Type 0
AreReplies ms = All (λ m. is_reply m.1 ≡ true) ms

a_reply : (b : Bool) (key : ClusterKey) (number : ℕ) (body : ReplyBody) → is_reply (cond b (message.Reply key number body) (message.ProxyReply key number body)) ≡ true
a_reply true key number body = refl
a_reply false key number body = refl

one_reply : (key : ClusterKey) (a : Asker) (b : ReplyBody) → AreReplies ((a.from, reply_to key a b) ∷ [])
one_reply key a b zero d h = a_reply (a.from == client) key a.number b
one_reply key a b (suc k) d h = absurd (omega arith)

reply_is : (key : ClusterKey) (a : Option Asker) (b : ReplyBody) → AreReplies (reply_for key a b)
reply_is key None b = All-nil (λ (m : ℕ × Message). is_reply m.1 ≡ true)
reply_is key (Some a) b = one_reply key a b

refusal_is : (key : ClusterKey) (a : Option Asker) (b : Option ReplyBody) → AreReplies (refusal_for key a b)
refusal_is key a None = All-nil (λ (m : ℕ × Message). is_reply m.1 ≡ true)
refusal_is key a (Some b) = reply_is key a b

owes_replies : (key : ClusterKey) (a : Option Asker) (taken : List Taken) (l : Line) → AreReplies (owed_by_line key a taken l)
owes_replies key a taken (line.Value n k t d v) = reply_is key (bound_to taken t) (found_body v)
owes_replies key a taken (line.Done n k t) = reply_is key (bound_to taken t) reply.Done
owes_replies key a taken (line.Refused n d cause) = refusal_is key a (refusal_body cause)
owes_replies key a taken _ = All-nil (λ (m : ℕ × Message). is_reply m.1 ≡ true)

pub replies : (key : ClusterKey) (a : Option Asker) (taken : List Taken) (ls : List Line) → AreReplies (owed key a taken ls)
replies key a taken [] = All-nil (λ (m : ℕ × Message). is_reply m.1 ≡ true)
replies key a taken (l ∷ ls) =
    All-append (λ (m : ℕ × Message). is_reply m.1 ≡ true) (owed_by_line key a taken l) (owed key a (note_taken a taken l) ls)
    (owes_replies key a taken l) (replies key a (note_taken a taken l) ls)
