-- Each message of a view that is sent goes between two members of it: at every mark, and what is due of every event.
use Rattle.std.proofs.Common.{◌≡◌, ℕ, ◌==◌, ⊎_elim, Bool, true, false, List, [], ◌∷◌, ◌++◌, Option, Some, None, refl, sym, ap, subst, ◌∙◌, ◌-◌, arith}
use Rattle.std.specs.Prelude.{slice_get, option_and_then, nat_lt, if◌then◌else◌}
use Rattle.wire_messages.specs.declared.message.Message.{Message}
use Rattle.wire_messages.specs.declared.message.Message.TheVariants as message
use Rattle.wire_messages.specs.Decoding.{message_of}
use Rattle.journal_lines.specs.declared.line.Line.{Line}
use Rattle.journal_lines.specs.declared.line.Line.TheVariants as line
use Rattle.node_rules.specs.Facts.{Facts}
use Rattle.node_rules.specs.Notes.{note, reached, sent}
use Rattle.cluster_rules.specs.declared.event.Event.{Event}
use Rattle.cluster_rules.specs.declared.event.Event.TheVariants as event
use Rattle.cluster_rules.specs.Marks as marks
use Rattle.cluster_rules.specs.Marks.{Mark, Begins, Writes, came_to_client, came_to_node}
use Rattle.journal_readings.specs.Messages.{Posting, Arrival, arrived, arrived_cut}
use Rattle.cluster_rules.specs.Network.{posting, posting_at}
use Rattle.cluster_rules.specs.World.{changed_at}
use Rattle.node_rules.specs.Messages.{client}
use Rattle.key_laws.specs.Addressed.{GoesBetween}
use Rattle.key_laws.specs.Sound.{Sound, Grows}
use Rattle.key_laws.specs.Traced.{Traced, facts_of, traced_after}
use Rattle.key_laws.proofs.Addressed.{NodeGoes, node_goes_grows, goes_grows, note_goes, reached_goes, sent_goes}
use Rattle.key_laws.proofs.Kept.{more}
use Rattle.key_laws.proofs.Frames.{at_each}
use Rattle.key_laws.proofs.Wire.{If}

-- ---- the invariant

pub record Directed (t : Traced) : Type 0 where
  pub nodes : (n : ℕ) → NodeGoes t (facts_of t n)
  pub sent : (i : ℕ) (p : Posting) (m : Message) → slice_get t.world.network.sent i ≡ Some p → message_of p.bytes ≡ Some m → GoesBetween t p.from p.to m

-- whatever the bytes are read as goes between members
abbrev pub GoesIf : Traced → ℕ → ℕ → Option Message → Type 0
GoesIf t a b o = If (λ m. GoesBetween t a b m) o

pub goes_if_grows : (t u : Traced) → Grows t u → (a b : ℕ) (o : Option Message) → GoesIf t a b o → GoesIf u a b o
goes_if_grows t u g a b None h = h
goes_if_grows t u g a b (Some m) h = goes_grows t u g a b m h

-- the message of that number was sent to that end
pub record WentTo (t : Traced) (i b : ℕ) : Type 0 where
  pub posting : Posting
  pub stands : posting_at t.world.network i ≡ Some posting
  pub end : posting.to ≡ b

-- what a line that sends is to say, and where a message arrives; others say nothing
abbrev pub LineGoes : Traced → Line → Type 0
LineGoes t (line.Sent i a b bytes) = GoesIf t a b (message_of bytes)
LineGoes t (line.Deliver i a b) = WentTo t i b
LineGoes t (line.Repeat i a b) = WentTo t i b
LineGoes t (line.Cut i a b size) = WentTo t i b
LineGoes t _ = Unit {0}

-- what was sent stays
posting_stays : (t u : Traced) → Grows t u → (i : ℕ) (p : Posting) → posting_at t.world.network i ≡ Some p → posting_at u.world.network i ≡ Some p
posting_stays t u g i p e = go (nat_lt 0 i) e
  where
    go : (b : Bool) → (if b then slice_get t.world.network.sent (i - 1) else None) ≡ Some p → (if b then slice_get u.world.network.sent (i - 1) else None) ≡ Some p
    go true e = g.sent (i - 1) p e
    go false e = absurd (grind (arith, e))

went_grows : (t u : Traced) → Grows t u → (i b : ℕ) → WentTo t i b → WentTo u i b
went_grows t u g i b h = record { posting = h.posting; stands = posting_stays t u g i h.posting h.stands; end = h.end }

line_goes_grows : (t u : Traced) → Grows t u → (l : Line) → LineGoes t l → LineGoes u l
line_goes_grows t u g (line.Sent i a b bytes) h = goes_if_grows t u g a b (message_of bytes) h
line_goes_grows t u g (line.Deliver i a b) h = went_grows t u g i b h
line_goes_grows t u g (line.Repeat i a b) h = went_grows t u g i b h
line_goes_grows t u g (line.Cut i a b size) h = went_grows t u g i b h
line_goes_grows t u g _ h = h

abbrev pub AllGo : Traced → List Line → Type 0
AllGo t [] = Unit {0}
AllGo t (l ∷ ls) = LineGoes t l × AllGo t ls

pub all_go_grow : (t u : Traced) → Grows t u → (ls : List Line) → AllGo t ls → AllGo u ls
all_go_grow t u g [] h = tt
all_go_grow t u g (l ∷ ls) h = (line_goes_grows t u g l h.0, all_go_grow t u g ls h.1)

-- ---- each line keeps it

-- nothing that counts here has changed but one node
one_node : (t u : Traced) (n : ℕ) (new : Facts) → Grows t u → u.world.facts ≡ changed_at t.world.facts n new → u.world.network.sent ≡ t.world.network.sent
    → Directed t → NodeGoes u new → Directed u
one_node t u n new g facts sent h here = record {
  nodes = λ m. subst (λ (fs : ℕ → Facts). NodeGoes u (fs m)) (sym facts) (at_each (λ k f. NodeGoes u f) t.world.facts n new (λ k. node_goes_grows t u g (facts_of t k) (h.nodes k)) here m);
  sent = λ i p m e r. goes_grows t u g p.from p.to m (h.sent i p m (subst (λ xs. slice_get xs i ≡ Some p) sent e) r);
}

beside : (t u : Traced) → Grows t u → u.world.facts ≡ t.world.facts → u.world.network.sent ≡ t.world.network.sent → Directed t → Directed u
beside t u g facts sent h = record {
  nodes = λ m. subst (λ (fs : ℕ → Facts). NodeGoes u (fs m)) (sym facts) (node_goes_grows t u g (facts_of t m) (h.nodes m));
  sent = λ i p m e r. goes_grows t u g p.from p.to m (h.sent i p m (subst (λ xs. slice_get xs i ≡ Some p) sent e) r);
}

noted_by : (t u : Traced) (n : ℕ) (l : Line) → Grows t u → u.world.facts ≡ changed_at t.world.facts n (note t.world.want (facts_of t n) l) → u.world.network.sent ≡ t.world.network.sent → Directed t → Directed u
noted_by t u n l g facts sent h =
    one_node t u n (note t.world.want (facts_of t n) l) g facts sent h (note_goes u t.world.want (facts_of t n) l (node_goes_grows t u g (facts_of t n) (h.nodes n)))

arrived_goes : (t : Traced) (x : Option Arrival) → (u : Traced) → u ≡ record { world = marks.came t.world x; lists = t.lists; entered = t.entered } → Grows t u → Directed t → Directed u
arrived_goes t None u same g h = beside t u g (ap (λ (v : Traced). v.world.facts) same) (ap (λ (v : Traced). v.world.network.sent) same) h
arrived_goes t (Some x) u same g h = go (x.to == client) same
  where
    at_client : (m : Message) → u ≡ record { world = marks.came_to_client t.world m; lists = t.lists; entered = t.entered } → Directed u
    at_client (message.MapTable table) same = beside t u g (ap (λ (v : Traced). v.world.facts) same) (ap (λ (v : Traced). v.world.network.sent) same) h
    at_client _ same = beside t u g (ap (λ (v : Traced). v.world.facts) same) (ap (λ (v : Traced). v.world.network.sent) same) h

    go : (b : Bool) → u ≡ record { world = (if b then came_to_client t.world x.message else came_to_node t.world x); lists = t.lists; entered = t.entered } → Directed u
    go true same = at_client x.message same
    go false same =
        one_node t u x.to (reached (facts_of t x.to) x.from x.message) g (ap (λ (v : Traced). v.world.facts) same) (ap (λ (v : Traced). v.world.network.sent) same) h
        (reached_goes u (facts_of t x.to) x.from x.message (node_goes_grows t u g (facts_of t x.to) (h.nodes x.to)))

-- a message more, and what it makes of its sender
posted_goes : (t u : Traced) (i : ℕ) (p : Posting) → (facts_of t p.from).me ≡ p.from → u ≡ record { world = marks.posted_by t.world i p; lists = t.lists; entered = t.entered } → Grows t u
    → GoesIf t p.from p.to (message_of p.bytes) → Directed t → Directed u
posted_goes t u i p me same g goes h = record { nodes = nodes (message_of p.bytes) same goes; sent = λ j q m e r. sends j q m (subst (λ xs. slice_get xs j ≡ Some q) (net (message_of p.bytes) same) e) r }
  where
    net : (o : Option Message) → u ≡ record { world = marks.sent_by (record t.world { network = posting t.world.network i p }) p.from p.to o; lists = t.lists; entered = t.entered } → u.world.network.sent ≡ (t.world.network.sent ++ p ∷ [])
    net None same = ap (λ (v : Traced). v.world.network.sent) same
    net (Some m) same = ap (λ (v : Traced). v.world.network.sent) same

    nodes : (o : Option Message) → u ≡ record { world = marks.sent_by (record t.world { network = posting t.world.network i p }) p.from p.to o; lists = t.lists; entered = t.entered } → GoesIf t p.from p.to o → (n : ℕ) → NodeGoes u (facts_of u n)
    nodes None same go n = subst (λ (v : Traced). NodeGoes u (facts_of v n)) (sym same) (node_goes_grows t u g (facts_of t n) (h.nodes n))
    nodes (Some m) same go n =
        subst (λ (v : Traced). NodeGoes u (facts_of v n)) (sym same)
        (at_each (λ k f. NodeGoes u f) t.world.facts p.from (sent (facts_of t p.from) p.to m) (λ k. node_goes_grows t u g (facts_of t k) (h.nodes k))
        (sent_goes u (facts_of t p.from) p.to m (subst (λ (a : ℕ). GoesBetween u a p.to m) (sym me) (goes_grows t u g p.from p.to m go)) (node_goes_grows t u g (facts_of t p.from) (h.nodes p.from))) n)

    last : (q : Posting) (m : Message) → q ≡ p → message_of q.bytes ≡ Some m → GoesBetween u q.from q.to m
    last q m e r =
        subst (λ (x : Posting). GoesBetween u x.from x.to m) (sym e)
        (subst (λ o. GoesIf u p.from p.to o) (sym (ap (λ (x : Posting). message_of x.bytes) e) ∙ r) (goes_if_grows t u g p.from p.to (message_of p.bytes) goes))

    sends : (j : ℕ) (q : Posting) (m : Message) → slice_get (t.world.network.sent ++ p ∷ []) j ≡ Some q → message_of q.bytes ≡ Some m → GoesBetween u q.from q.to m
    sends j q m e r = ⊎_elim (λ z. goes_grows t u g q.from q.to m (h.sent j q m z r)) (λ z. last q m z r) (more t.world.network.sent p q j e)

pub line_goes : (t : Traced) (l : Line) → Sound t → Grows t (traced_after t (Writes l)) → LineGoes t l → Directed t → Directed (traced_after t (Writes l))
line_goes t (line.Deliver i a b) s g go h = arrived_goes t (option_and_then (arrived b) (posting_at t.world.network i)) _ refl g h
line_goes t (line.Repeat i a b) s g go h = arrived_goes t (option_and_then (arrived b) (posting_at t.world.network i)) _ refl g h
line_goes t (line.Cut i a b size) s g go h = arrived_goes t (option_and_then (arrived_cut b size) (posting_at t.world.network i)) _ refl g h
line_goes t (line.Sent i a b bytes) s g go h = posted_goes t (traced_after t (Writes (line.Sent i a b bytes))) i (record { from = a; to = b; bytes = bytes }) (s.nodes a).me refl g go h
line_goes t (line.Tick n) s g go h = noted_by t _ n (line.Tick n) g refl refl h
line_goes t (line.Stop n) s g go h = noted_by t _ n (line.Stop n) g refl refl h
line_goes t (line.Start n) s g go h = noted_by t _ n (line.Start n) g refl refl h
line_goes t (line.Quiesce n) s g go h = noted_by t _ n (line.Quiesce n) g refl refl h
line_goes t (line.Unquiesce n) s g go h = noted_by t _ n (line.Unquiesce n) g refl refl h
line_goes t (line.Promise n k) s g go h = noted_by t _ n (line.Promise n k) g refl refl h
line_goes t (line.Enter n k ms) s g go h = noted_by t _ n (line.Enter n k ms) g refl refl h
line_goes t (line.Exchanged n k) s g go h = noted_by t _ n (line.Exchanged n k) g refl refl h
line_goes t (line.Opened n k number d a) s g go h = noted_by t _ n (line.Opened n k number d a) g refl refl h
line_goes t (line.Value n k number d v) s g go h = noted_by t _ n (line.Value n k number d v) g refl refl h
line_goes t (line.Apply n k number d v) s g go h = noted_by t _ n (line.Apply n k number d v) g refl refl h
line_goes t (line.Done n k number) s g go h = noted_by t _ n (line.Done n k number) g refl refl h
line_goes t (line.Aborted n k number) s g go h = noted_by t _ n (line.Aborted n k number) g refl refl h
line_goes t (line.Doubt n k number) s g go h = noted_by t _ n (line.Doubt n k number) g refl refl h
line_goes t (line.Merge n k d v) s g go h = noted_by t _ n (line.Merge n k d v) g refl refl h
line_goes t (line.Handed n k p) s g go h = noted_by t _ n (line.Handed n k p) g refl refl h
line_goes t (line.Settled n k p) s g go h = noted_by t _ n (line.Settled n k p) g refl refl h
line_goes t (line.Learn n k p) s g go h = noted_by t _ n (line.Learn n k p) g refl refl h
line_goes t (line.Drop n k p) s g go h = noted_by t _ n (line.Drop n k p) g refl refl h
line_goes t _ s g go h = beside t _ g refl refl h

pub begun_goes : (t : Traced) (e : Event) → Grows t (traced_after t (Begins e)) → Directed t → Directed (traced_after t (Begins e))
begun_goes t (event.Deliver i) g h = beside t _ g refl refl h
begun_goes t (event.Lose i) g h = beside t _ g refl refl h
begun_goes t (event.Cut i size) g h = beside t _ g refl refl h
begun_goes t _ g h = beside t _ g refl refl h
