-- What a step of one node makes of the world.
use Rattle.std.proofs.Common.{◌≡◌, ℕ, ◌+◌, ◌||◌, Bool, true, false, List, [], ◌∷◌, ◌++◌, map, length, Option, Some, None, refl, sym, ap, subst, ◌∙◌, append_assoc, append-nil, if◌then◌else◌}
use Rattle.std.specs.List.{list_any, cons_option}
use Rattle.conflict_order.specs.declared.want.Want.{Want}
use Rattle.wire_messages.specs.declared.message.Message.{Message}
use Rattle.wire_messages.specs.Decoding.{message_of}
use Rattle.wire_messages.specs.Spelling.{spelling}
use Rattle.journal_lines.specs.declared.line.Line.{Line}
use Rattle.journal_lines.specs.declared.line.Line.TheVariants as line
use Rattle.partition_lists.proofs.InOrderLaws.{equal}
use Rattle.node_rules.specs.Effects.{Effects}
use Rattle.node_rules.specs.Facts.{Facts}
use Rattle.node_rules.specs.Notes.{note, noted, sent, all_sent}
use Rattle.request_rules.specs.Requests.{Requests}
use Rattle.cluster_rules.specs.CalmBound.{is_full_line}
use Rattle.cluster_rules.specs.DueEvents.{sent_lines, written}
use Rattle.cluster_rules.specs.Marks.{Mark, Writes, after_line, after_all, by_node, with_requests_if, sent_by}
use Rattle.journal_readings.specs.Messages.{Posting}
use Rattle.cluster_rules.specs.Network.{Network, has_place, posting}
use Rattle.cluster_rules.specs.World.{World, changed_at, new_if}
use Rattle.cluster_rules.proofs.MarkLaws.{after_all-append}
use Rattle.cluster_laws.proofs.At.{differ}
use Rattle.cluster_laws.proofs.GroundLaws.{apart}
use Rattle.calm_laws.specs.Acts.{read_to, as_read, carried}
use Rattle.calm_laws.specs.Letters.{posting_from, postings, new_numbers}
use Rattle.calm_laws.proofs.Own.{OwnLine, OwnLines}

-- ---- one place of a function

pub at_itself : {A : Type 0} (f : ℕ → A) (n : ℕ) (new : A) → changed_at f n new n ≡ new
at_itself f n new = ap (λ (b : Bool). new_if new f n b) (equal n n refl)

pub at_other : {A : Type 0} (f : ℕ → A) (n : ℕ) (new : A) (m : ℕ) → (n ≡ m → ⊥)
    → changed_at f n new m ≡ f m
at_other f n new m d = ap (λ (b : Bool). new_if new f m b) (apart n m d)

-- ---- what a node's lines make of the world

-- the node has these facts now, and posted these messages under these numbers; all else is as before
pub record Took (w v : World) (a : ℕ) (f : Facts) (posted : List Posting) (flown : List ℕ) : Type 0 where
  pub here : v.facts a ≡ f
  pub others : (m : ℕ) → (a ≡ m → ⊥) → v.facts m ≡ w.facts m
  pub nodes : v.nodes ≡ w.nodes
  pub clocks : v.clocks ≡ w.clocks
  pub want : v.want ≡ w.want
  pub groups : v.network.groups ≡ w.network.groups
  pub sent : v.network.sent ≡ w.network.sent ++ posted
  pub flying : v.network.flying ≡ w.network.flying ++ flown

pub took_nothing : (w : World) (a : ℕ) → Took w w a (w.facts a) [] []
took_nothing w a = record {
  here = refl;
  others = λ m d. refl;
  nodes = refl;
  clocks = refl;
  want = refl;
  groups = refl;
  sent = sym (append-nil w.network.sent);
  flying = sym (append-nil w.network.flying);
}

-- the requests are other ones besides
requested : (w v : World) (a : ℕ) (f : Facts) (ps : List Posting) (is : List ℕ) (kept : Requests) → Took w v a f ps is → Took w (record v { requests = kept }) a f ps is
requested w v a f ps is kept h = record { here = h.here; others = h.others; nodes = h.nodes; clocks = h.clocks; want = h.want; groups = h.groups; sent = h.sent; flying = h.flying }

pub took_on : (w u v : World) (a : ℕ) (f g : Facts) (ps qs : List Posting) (is js : List ℕ) → Took w u a f ps is → Took u v a g qs js → Took w v a g (ps ++ qs) (is ++ js)
took_on w u v a f g ps qs is js h i = record {
  here = i.here;
  others = λ m d. i.others m d ∙ h.others m d;
  nodes = i.nodes ∙ h.nodes;
  clocks = i.clocks ∙ h.clocks;
  want = i.want ∙ h.want;
  groups = i.groups ∙ h.groups;
  sent = i.sent ∙ ap (λ (xs : List Posting). xs ++ qs) h.sent ∙ append_assoc w.network.sent ps qs;
  flying = i.flying ∙ ap (λ (xs : List ℕ). xs ++ js) h.flying ∙ append_assoc w.network.flying is js;
}

-- ---- own lines

own_here : (w : World) (a : ℕ) (l : Line) → Took w (by_node w a l) a (note w.want (w.facts a) l) [] []
own_here w a l = record {
  here = at_itself w.facts a (note w.want (w.facts a) l);
  others = λ m d. at_other w.facts a (note w.want (w.facts a) l) m d;
  nodes = refl;
  clocks = refl;
  want = refl;
  groups = refl;
  sent = sym (append-nil w.network.sent);
  flying = sym (append-nil w.network.flying);
}

own_at : (w : World) (a n : ℕ) (l : Line) → n ≡ a → Took w (by_node w n l) a (note w.want (w.facts a) l) [] []
own_at w a n l e = subst (λ (x : ℕ). Took w (by_node w x l) a (note w.want (w.facts a) l) [] []) (sym e) (own_here w a l)

-- a line that counts for the requests as well
own_both : (w : World) (a n : ℕ) (l : Line) → n ≡ a → Took w (with_requests_if (by_node w n l) l true) a (note w.want (w.facts a) l) [] []
own_both w a n l e = requested w (by_node w n l) a (note w.want (w.facts a) l) [] [] _ (own_at w a n l e)

-- a line that counts for the requests alone
asked : (w : World) (a : ℕ) (l : Line) → Took w (with_requests_if w l true) a (w.facts a) [] []
asked w a l = requested w w a (w.facts a) [] [] _ (took_nothing w a)

took_own_line : (w : World) (a : ℕ) (l : Line) → OwnLine a l → Took w (after_line w l) a (note w.want (w.facts a) l) [] []
took_own_line w a (line.Clock n time) h = absurd h
took_own_line w a (line.Groups groups) h = absurd h
took_own_line w a (line.Deliver i b c) h = absurd h
took_own_line w a (line.Repeat i b c) h = absurd h
took_own_line w a (line.Cut i b c size) h = absurd h
took_own_line w a (line.Sent i b c bytes) h = absurd h
took_own_line w a (line.Full i) h = absurd h
took_own_line w a (line.Stop n) h = absurd h
took_own_line w a (line.Start n) h = absurd h
took_own_line w a (line.Quiesce n) h = absurd h
took_own_line w a (line.Unquiesce n) h = absurd h
took_own_line w a (line.Tick n) h = own_at w a n (line.Tick n) h
took_own_line w a (line.Promise n k) h = own_at w a n (line.Promise n k) h
took_own_line w a (line.Enter n k ms) h = own_both w a n (line.Enter n k ms) h
took_own_line w a (line.Exchanged n k) h = own_at w a n (line.Exchanged n k) h
took_own_line w a (line.Opened n k t d x) h = absurd h
took_own_line w a (line.Value n k t d v) h = own_both w a n (line.Value n k t d v) h
took_own_line w a (line.Apply n k t d v) h = own_at w a n (line.Apply n k t d v) h
took_own_line w a (line.Done n k t) h = own_both w a n (line.Done n k t) h
took_own_line w a (line.Aborted n k t) h = own_at w a n (line.Aborted n k t) h
took_own_line w a (line.Doubt n k t) h = own_at w a n (line.Doubt n k t) h
took_own_line w a (line.Merge n k d v) h = own_at w a n (line.Merge n k d v) h
took_own_line w a (line.Handed n k p) h = own_at w a n (line.Handed n k p) h
took_own_line w a (line.Settled n k p) h = own_at w a n (line.Settled n k p) h
took_own_line w a (line.Learn n k p) h = own_at w a n (line.Learn n k p) h
took_own_line w a (line.Drop n k p) h = own_at w a n (line.Drop n k p) h
took_own_line w a (line.Refused n d cause) h = asked w a (line.Refused n d cause)
took_own_line w a (line.Proxy n k x d b to) h = asked w a (line.Proxy n k x d b to)
took_own_line w a (line.Proxied n k x b) h = asked w a (line.Proxied n k x b)
took_own_line w a (line.Unproxied n k x) h = asked w a (line.Unproxied n k x)
took_own_line w a (line.Call q n d b) h = asked w a (line.Call q n d b)
took_own_line w a (line.Reply q n b) h = asked w a (line.Reply q n b)
took_own_line w a (line.Scan s n p) h = asked w a (line.Scan s n p)
took_own_line w a _ h = took_nothing w a

pub took_own : (ls : List Line) (w : World) (a : ℕ) → OwnLines a ls → Took w (after_all w (map Writes ls)) a (noted w.want (w.facts a) ls) [] []
took_own [] w a h = took_nothing w a
took_own (l ∷ ls) w a h =
    let u : World = after_line w l in
    let v : World = after_all u (map Writes ls) in
    let first : Took w u a (note w.want (w.facts a) l) [] [] = took_own_line w a l h.0 in
    let rest : Took u v a (noted u.want (u.facts a) ls) [] [] = took_own ls u a h.1 in
    took_on w u v a (note w.want (w.facts a) l) (noted w.want (note w.want (w.facts a) l) ls) [] [] [] [] first
    (subst (λ (q : Option Want). Took u v a (noted q (note w.want (w.facts a) l) ls) [] []) first.want
    (subst (λ (f : Facts). Took u v a (noted u.want f ls) [] []) first.here rest))

-- ---- messages

took_sent : (w : World) (a i : ℕ) (m : ℕ × Message) (o : Option Message)
    → Took w (sent_by (record w { network = posting w.network i (posting_from a m) }) a m.0 o) a (all_sent (w.facts a) (cons_option (read_to m.0 o) [])) (posting_from a m ∷ []) (i ∷ [])
took_sent w a i m None = record { here = refl; others = λ x d. refl; nodes = refl; clocks = refl; want = refl; groups = refl; sent = refl; flying = refl }
took_sent w a i m (Some x) = record {
  here = at_itself w.facts a (sent (w.facts a) m.0 x);
  others = λ y d. at_other w.facts a (sent (w.facts a) m.0 x) y d;
  nodes = refl;
  clocks = refl;
  want = refl;
  groups = refl;
  sent = refl;
  flying = refl;
}

sent_on : (f : Facts) (to : ℕ) (o : Option Message) (ms : List (ℕ × Message)) → all_sent (all_sent f (cons_option (read_to to o) [])) ms ≡ all_sent f (cons_option (read_to to o) ms)
sent_on f to None ms = refl
sent_on f to (Some x) ms = refl

took_sents : (ms : List (ℕ × Message)) (w : World) (a s fl : ℕ) → list_any is_full_line (sent_lines a s fl ms) ≡ false
    → Took w (after_all w (map Writes (sent_lines a s fl ms))) a (all_sent (w.facts a) (as_read ms)) (postings a ms) (new_numbers s (postings a ms))
unfolding as_read
took_sents [] w a s fl h = took_nothing w a
took_sents (m ∷ ms) w a s fl h = go (has_place fl) h (λ k i. took_sents ms (after_line w (line.Sent (s + 1) a m.0 (spelling m.1))) a (s + 1) k i)
  where
    u : World
    u = after_line w (line.Sent (s + 1) a m.0 (spelling m.1))

    first : Took w u a (all_sent (w.facts a) (cons_option (read_to m.0 (message_of (spelling m.1))) [])) (posting_from a m ∷ []) ((s + 1) ∷ [])
    first = took_sent w a (s + 1) m (message_of (spelling m.1))

    next : (v : World) → Took u v a (all_sent (u.facts a) (as_read ms)) (postings a ms) (new_numbers (s + 1) (postings a ms))
        → Took w v a (all_sent (w.facts a) (as_read (m ∷ ms))) (postings a (m ∷ ms)) (new_numbers s (postings a (m ∷ ms)))
    next v rest =
        took_on w u v a _ _ (posting_from a m ∷ []) (postings a ms) ((s + 1) ∷ []) (new_numbers (s + 1) (postings a ms)) first
        (subst (λ (f : Facts). Took u v a f (postings a ms) (new_numbers (s + 1) (postings a ms)))
        (ap (λ (f : Facts). all_sent f (as_read ms)) first.here ∙ sent_on (w.facts a) m.0 (message_of (spelling m.1)) (as_read ms)) rest)

    go : (b : Bool) → list_any is_full_line ((if b then [] else line.Full (s + 1) ∷ []) ++ sent_lines a (s + 1) (if b then fl + 1 else fl) ms) ≡ false
        → ((k : ℕ) → list_any is_full_line (sent_lines a (s + 1) k ms) ≡ false → Took u (after_all u (map Writes (sent_lines a (s + 1) k ms))) a (all_sent (u.facts a) (as_read ms)) (postings a ms) (new_numbers (s + 1) (postings a ms)))
        → Took w (after_all u (map Writes ((if b then [] else line.Full (s + 1) ∷ []) ++ sent_lines a (s + 1) (if b then fl + 1 else fl) ms))) a (all_sent (w.facts a) (as_read (m ∷ ms))) (postings a (m ∷ ms)) (new_numbers s (postings a (m ∷ ms)))
    go true i rest = next (after_all u (map Writes (sent_lines a (s + 1) (fl + 1) ms))) (rest (fl + 1) i)
    go false i rest = differ refl i

-- ---- both

pub any_behind : {A : Type 0} (test : A → Bool) (xs ys : List A) → list_any test (xs ++ ys) ≡ false → list_any test ys ≡ false
any_behind test [] ys e = e
any_behind test (x ∷ xs) ys e = any_behind test xs ys (later (test x) _ e)
  where
    later : (b c : Bool) → (b || c) ≡ false → c ≡ false
    later true c f = differ refl f
    later false c f = f

writes_append : (a b : List Line) → map Writes (a ++ b) ≡ map Writes a ++ map Writes b
writes_append [] b = refl
writes_append (l ∷ a) b = ap (λ (ms : List Mark). Writes l ∷ ms) (writes_append a b)

-- what an endpoint does, where no message lacks a place and its lines count the want in hand for nothing
pub took_written : (w : World) (net : Network) (a : ℕ) (e : Effects) → noted w.want (w.facts a) e.lines ≡ noted None (w.facts a) e.lines → OwnLines a e.lines → list_any is_full_line (written net a e) ≡ false
    → Took w (after_all w (map Writes (written net a e))) a (carried (w.facts a) e) (postings a e.sends) (new_numbers (length net.sent) (postings a e.sends))
took_written w net a e unread own full =
    let ls : List Line = sent_lines a (length net.sent) (length net.flying) e.sends in
    let u : World = after_all w (map Writes e.lines) in
    let v : World = after_all u (map Writes ls) in
    let f : Facts = noted None (w.facts a) e.lines in
    let ns : List ℕ = new_numbers (length net.sent) (postings a e.sends) in
    let first : Took w u a f [] [] = subst (λ (g : Facts). Took w u a g [] []) unread (took_own e.lines w a own) in
    let rest : Took u v a (all_sent (u.facts a) (as_read e.sends)) (postings a e.sends) ns = took_sents e.sends u a (length net.sent) (length net.flying) (any_behind is_full_line e.lines ls full) in
    subst (λ (x : World). Took w x a (carried (w.facts a) e) (postings a e.sends) ns) (sym (ap (λ ms. after_all w ms) (writes_append e.lines ls) ∙ after_all-append w (map Writes e.lines) (map Writes ls)))
    (took_on w u v a f (carried (w.facts a) e) [] (postings a e.sends) [] ns first
    (subst (λ (g : Facts). Took u v a (all_sent g (as_read e.sends)) (postings a e.sends) ns) first.here rest))
