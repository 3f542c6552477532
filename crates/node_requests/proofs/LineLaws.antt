-- What the change of a line makes of what is kept, and what it owes.
use Rattle.std.proofs.Common.{◌≡◌, Bool, true, false, cond, ℕ, List, [], ◌∷◌, ◌++◌, Option, Some, None, refl, sym, ap, ap₂, subst, ◌∙◌}
use Rattle.std.specs.List.{list_any}
use Rattle.cluster_types.proofs.BoolFacts.{neither_left, neither_right}
use Rattle.cluster_types.specs.declared.cluster_key.ClusterKey.{ClusterKey}
use Rattle.conflict_order.specs.declared.want.Want.{Want}
use Rattle.journal_lines.specs.declared.line.Line.{Line}
use Rattle.journal_lines.specs.declared.line.Line.TheVariants as line
use Rattle.wire_messages.specs.declared.reply.ReplyBody.{ReplyBody}
use Rattle.wire_messages.specs.declared.reply.ReplyBody.TheVariants as reply
use Rattle.request_rules.specs.declared.taken.Asker.{Asker}
use Rattle.request_rules.specs.declared.taken.Taken.{Taken}
use Rattle.request_rules.specs.LineNotes.{note_request, noted_requests}
use Rattle.request_rules.specs.Replies.{found_body, refusal_body}
use Rattle.request_rules.specs.Requests.{NodeRequests, no_requests}
use Rattle.request_rules.specs.TakenUp.{bound_to, is_bound_to, keeping, keeping_refusal, note_taken, owed, owed_by_line, refusal_for, replied_if, reply_for}
use Rattle.node_requests.specs.declared.change.Change.{Change}
use Rattle.node_requests.specs.Changes.{CanMake, change_of, changed_by, ending, owed_by_change, refusing}
use Rattle.node_requests.specs.Planned.{CanCount, ChangesNothing, IsUnknown, passes_on}
use Rattle.node_requests.proofs.ChangeLaws.{bound_front}

-- ---- what is kept

unbound_front : (b : Bool) (x : Taken) (rest : Option Asker) → cond b (Some x.asker) rest ≡ None → (b ≡ false) × (rest ≡ None)
unbound_front true x rest e = absurd (let wrong : Some x.asker ≡ None = e in cc)
unbound_front false x rest e = (refl, e)

-- where the transaction is nobody's, its end changes nothing
nobodys : (xs : List Taken) (t : ℕ) (b : ReplyBody) → bound_to xs t ≡ None → keeping xs t b ≡ xs
nobodys [] t b e = refl
nobodys (x ∷ xs) t b e =
    let h = unbound_front (is_bound_to t x.outcome) x (bound_to xs t) (sym (bound_front x xs t) ∙ e) in
    ap₂ (λ c ys. replied_if b x c ∷ ys) h.0 (nobodys xs t b h.1)

ending_changes : (r : NodeRequests) (t : ℕ) (b : ReplyBody) (o : Option Asker) → bound_to r.taken t ≡ o → changed_by r (ending o t b) ≡ record r { taken = keeping r.taken t b }
ending_changes r t b None e = ap (λ (taken : List Taken). record r { taken = taken }) (sym (nobodys r.taken t b e))
ending_changes r t b (Some a) e = refl

refusing_changes : (r : NodeRequests) (a : Asker) (o : Option ReplyBody) → changed_by r (refusing (Some a) o) ≡ record r { taken = keeping_refusal r.taken a o }
refusing_changes r a None = refl
refusing_changes r a (Some b) = refl

pub changes : (a : Option Asker) (w : Option Want) (r : NodeRequests) (l : Line) → changed_by r (change_of a w r.taken l) ≡ note_request a w r l
changes None w r (line.Opened n key t d action) = refl
changes (Some a) w r (line.Opened n key t d action) = refl
changes None w r (line.Refused n d cause) = refl
changes (Some a) w r (line.Refused n d cause) = refusing_changes r a (refusal_body cause)
changes a w r (line.Value n key t d v) = ending_changes r t (found_body v) (bound_to r.taken t) refl
changes a w r (line.Done n key t) = ending_changes r t reply.Done (bound_to r.taken t) refl
changes a w r (line.Proxy n key x d action to) = refl
changes a w r (line.Proxied n key x b) = refl
changes a w r (line.Unproxied n key x) = refl
changes a w r (line.Enter n key members) = refl
changes a w r (line.Stop n) = refl
changes a w r _ = refl

-- ---- what is owed

no_refusal : (key : ClusterKey) (o : Option ReplyBody) → [] ≡ refusal_for key None o
no_refusal key None = refl
no_refusal key (Some b) = refl

ending_owes : (key : ClusterKey) (t : ℕ) (b : ReplyBody) (o : Option Asker) → owed_by_change key (ending o t b) ≡ reply_for key o b
ending_owes key t b None = refl
ending_owes key t b (Some a) = refl

refusing_owes : (key : ClusterKey) (a : Asker) (o : Option ReplyBody) → owed_by_change key (refusing (Some a) o) ≡ refusal_for key (Some a) o
refusing_owes key a None = refl
refusing_owes key a (Some b) = refl

pub owes : (key : ClusterKey) (a : Option Asker) (w : Option Want) (taken : List Taken) (l : Line) → owed_by_change key (change_of a w taken l) ≡ owed_by_line key a taken l
owes key None w taken (line.Opened n k t d action) = refl
owes key (Some a) w taken (line.Opened n k t d action) = refl
owes key None w taken (line.Refused n d cause) = no_refusal key (refusal_body cause)
owes key (Some a) w taken (line.Refused n d cause) = refusing_owes key a (refusal_body cause)
owes key a w taken (line.Value n k t d v) = ending_owes key t (found_body v) (bound_to taken t)
owes key a w taken (line.Done n k t) = ending_owes key t reply.Done (bound_to taken t)
owes key a w taken (line.Proxy n k x d action to) = refl
owes key a w taken (line.Proxied n k x b) = refl
owes key a w taken (line.Unproxied n k x) = refl
owes key a w taken (line.Enter n k members) = refl
owes key a w taken (line.Stop n) = refl
owes key a w taken _ = refl

-- ---- when it can be made

-- the change, if there is one, can be made
abbrev CanMakeIf : NodeRequests → Option Change → Type 0
CanMakeIf r None = Unit {0}
CanMakeIf r (Some c) = CanMake r c

ending_can : (r : NodeRequests) (t : ℕ) (b : ReplyBody) (o : Option Asker) → CanMakeIf r (ending o t b)
ending_can r t b None = tt
ending_can r t b (Some a) = tt

refusing_can : (r : NodeRequests) (a : Option Asker) (o : Option ReplyBody) → IsUnknown a r.taken → CanMakeIf r (refusing a o)
refusing_can r None o h = tt
refusing_can r (Some a) None h = tt
refusing_can r (Some a) (Some b) h = h a refl

can_if : (a : Option Asker) (w : Option Want) (r : NodeRequests) (l : Line) → CanCount a r l → CanMakeIf r (change_of a w r.taken l)
can_if None w r (line.Opened n key t d action) h = tt
can_if (Some a) w r (line.Opened n key t d action) h = record { new = h.0 a refl; free = h.1 a refl }
can_if a w r (line.Refused n d cause) h = refusing_can r a (refusal_body cause) h
can_if a w r (line.Value n key t d v) h = ending_can r t (found_body v) (bound_to r.taken t)
can_if a w r (line.Done n key t) h = ending_can r t reply.Done (bound_to r.taken t)
can_if a w r (line.Proxy n key x d action to) h = h
can_if a w r (line.Proxied n key x b) h = tt
can_if a w r (line.Unproxied n key x) h = tt
can_if a w r (line.Enter n key members) h = tt
can_if a w r (line.Stop n) h = tt
can_if a w r _ h = tt

pub can : (a : Option Asker) (w : Option Want) (r : NodeRequests) (l : Line) (c : Change) → CanCount a r l → change_of a w r.taken l ≡ Some c → CanMake r c
can a w r l c h e = subst (CanMakeIf r) e (can_if a w r l h)

pub change_changes : (a : Option Asker) (w : Option Want) (r : NodeRequests) (l : Line) (o : Option Change) → o ≡ change_of a w r.taken l → changed_by r o ≡ note_request a w r l
change_changes a w r l o e = ap (changed_by r) e ∙ changes a w r l

-- ---- where nothing is kept and nobody asks

idle_line : (w : Option Want) (l : Line) → passes_on l ≡ false → note_request None w no_requests l ≡ no_requests
idle_line w (line.Proxy n key x d action to) e = absurd (let wrong : true ≡ false = e in cc)
idle_line w (line.Enter n key members) e = refl
idle_line w (line.Stop n) e = refl
idle_line w _ e = refl

idle_noted : (w : Option Want) (ls : List Line) → list_any passes_on ls ≡ false → noted_requests None w no_requests ls ≡ no_requests
idle_noted w [] e = refl
idle_noted w (l ∷ ls) e =
    ap (λ r. noted_requests None w r ls) (idle_line w l (neither_left (passes_on l) (list_any passes_on ls) e))
    ∙ idle_noted w ls (neither_right (passes_on l) (list_any passes_on ls) e)

idle_owes : (key : ClusterKey) (l : Line) → owed_by_line key None [] l ≡ []
idle_owes key (line.Refused n d cause) = sym (no_refusal key (refusal_body cause))
idle_owes key _ = refl

idle_keeps : (l : Line) → note_taken None [] l ≡ []
idle_keeps (line.Stop n) = refl
idle_keeps _ = refl

idle_owed : (key : ClusterKey) (ls : List Line) → owed key None [] ls ≡ []
idle_owed key [] = refl
idle_owed key (l ∷ ls) =
    ap₂ (λ owes taken. owes ++ owed key None taken ls) (idle_owes key l) (idle_keeps l) ∙ idle_owed key ls

pub nothing_noted : (a : Option Asker) (w : Option Want) (r : NodeRequests) (ls : List Line) → ChangesNothing a r ls → noted_requests a w r ls ≡ r
nothing_noted a w r ls h =
    ap₂ (λ o q. noted_requests o w q ls) h.nobody h.nothing ∙ idle_noted w ls h.stays ∙ sym h.nothing

pub nothing_owed : (key : ClusterKey) (a : Option Asker) (r : NodeRequests) (ls : List Line) → ChangesNothing a r ls → owed key a r.taken ls ≡ []
nothing_owed key a r ls h =
    ap₂ (λ o q. owed key o q.taken ls) h.nobody h.nothing ∙ idle_owed key ls
