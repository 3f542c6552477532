-- The readings of a node's keys are what the world says of it.
use Rattle.std.proofs.Common.{◌≡◌, ℕ, ◌==◌, ◌||◌, Bool, true, false, List, [], ◌∷◌, Option, Some, None, refl, sym, ap, subst, ◌∙◌, if◌then◌else◌}
use Rattle.std.specs.Prelude.{fold}
use Rattle.std.specs.List.{list_any}
use Rattle.std.proofs.lemmas.Bool.{and_parts as both_true}
use Rattle.cluster_types.specs.declared.cluster_key.ClusterKey.{ClusterKey}
use Rattle.cluster_types.specs.declared.member.Member.{Member}
use Rattle.cluster_types.specs.ClusterKeys.{IsBelow}
use Rattle.wire_messages.specs.declared.message.Message.{Message}
use Rattle.wire_messages.specs.declared.message.Message.TheVariants as message
use Rattle.wire_messages.specs.Decoding.{message_of}
use Rattle.journal_lines.specs.declared.line.Line.{Line}
use Rattle.journal_lines.specs.declared.line.Line.TheVariants as line
use Rattle.node_rules.specs.Facts.{Facts}
use Rattle.node_rules.specs.Notes.{note, reached, sent}
use Rattle.cluster_rules.specs.Marks.{Mark, Begins, Writes, sent_by, lines_among, by_node, with_requests_if, came_to_client, came_to_node}
use Rattle.journal_readings.specs.Lines.{is_enter, same_key}
use Rattle.journal_readings.specs.Messages.{Arrival}
use Rattle.cluster_rules.specs.Network.{posting}
use Rattle.journal_readings.specs.Views.{promise_step, last_step}
use Rattle.cluster_rules.specs.World.{World, changed_at, new_if}
use Rattle.node_rules.specs.Messages.{client}
use Rattle.key_laws.specs.Traced.{Traced, facts_of, traced_after, traced_after_all}
use Rattle.key_laws.specs.Order.{KeyAtMost}
use Rattle.key_laws.specs.Licences.{OkMark, OkLine, LicensedMarks}
use Rattle.key_laws.specs.Sound.{Sound}
use Rattle.key_laws.proofs.Order.{at_most_refl, at_most_eq, at_most_trans, below_at_most, same_is}
use Rattle.key_laws.proofs.Frames.{at_each, num_same, never}
use Rattle.key_laws.proofs.KeptNodes.{Reaches, reaches}
use Rattle.key_laws.proofs.Kept.{kept, Told, told_at, told_cut, arrived_in}
use Rattle.key_laws.proofs.Quiet.{sent_same}

-- the node's keys after a line are what the readings make of those before it
record Reads (t u : Traced) (l : Line) (n : ℕ) : Type 0 where
  promised : promise_step n (facts_of t n).agreement.promised l ≡ (facts_of u n).agreement.promised
  last : last_step n (facts_of t n).agreement.last l ≡ (facts_of u n).agreement.last

-- the keys of the node are as before
record Stay (t u : Traced) (n : ℕ) : Type 0 where
  promised : (facts_of t n).agreement.promised ≡ (facts_of u n).agreement.promised
  last : (facts_of t n).agreement.last ≡ (facts_of u n).agreement.last

moved_stay : (w : World) (m : ℕ) (new : Facts) → (w.facts m).agreement.promised ≡ new.agreement.promised → (w.facts m).agreement.last ≡ new.agreement.last
    → (n : ℕ) → ((w.facts n).agreement.promised ≡ (changed_at w.facts m new n).agreement.promised) × ((w.facts n).agreement.last ≡ (changed_at w.facts m new n).agreement.last)
moved_stay w m new p l = at_each (λ n f. ((w.facts n).agreement.promised ≡ f.agreement.promised) × ((w.facts n).agreement.last ≡ f.agreement.last)) w.facts m new (λ n. (refl, refl)) (p, l)

came_stay : (t : Traced) (x : Option Arrival) → Told t x → Sound t → (n : ℕ) → Stay t (arrived_in t x) n
came_stay t None s h n = record { promised = refl; last = refl }
came_stay t (Some x) s h n = go (x.to == client)
  where
    at_client : (m : Message) → Stay t (record { world = came_to_client t.world m; lists = t.lists; entered = t.entered }) n
    at_client (message.MapTable table) = record { promised = refl; last = refl }
    at_client _ = record { promised = refl; last = refl }

    r : Reaches t x.to (facts_of t x.to) (reached (facts_of t x.to) x.from x.message)
    r = reaches t x.to (facts_of t x.to) x.from x.message s (h.nodes x.to)

    at_node : ((facts_of t n).agreement.promised ≡ (changed_at t.world.facts x.to (reached (facts_of t x.to) x.from x.message) n).agreement.promised) × ((facts_of t n).agreement.last ≡ (changed_at t.world.facts x.to (reached (facts_of t x.to) x.from x.message) n).agreement.last)
    at_node = moved_stay t.world x.to (reached (facts_of t x.to) x.from x.message) r.promised r.last n

    go : (b : Bool) → Stay t (record { world = (if b then came_to_client t.world x.message else came_to_node t.world x); lists = t.lists; entered = t.entered }) n
    go true = at_client x.message
    go false = record { promised = at_node.0; last = at_node.1 }

sent_stay : (t : Traced) (v : World) (a b : ℕ) → v.facts ≡ t.world.facts → (o : Option Message) → (n : ℕ) → Stay t (record { world = sent_by v a b o; lists = t.lists; entered = t.entered }) n
sent_stay t v a b e None n = record { promised = ap (λ fs. (fs n).agreement.promised) (sym e); last = ap (λ fs. (fs n).agreement.last) (sym e) }
sent_stay t v a b e (Some m) n =
    let moved : ((v.facts n).agreement.promised ≡ (changed_at v.facts a (sent (v.facts a) b m) n).agreement.promised) × ((v.facts n).agreement.last ≡ (changed_at v.facts a (sent (v.facts a) b m) n).agreement.last) =
    moved_stay v a (sent (v.facts a) b m) (sym (sent_same (v.facts a) b m).0) (sym (sent_same (v.facts a) b m).1) n in
    record { promised = ap (λ fs. (fs n).agreement.promised) (sym e) ∙ moved.0; last = ap (λ fs. (fs n).agreement.last) (sym e) ∙ moved.1 }

by_line : (t : Traced) (m : ℕ) (l : Line) (n : ℕ) → (facts_of t m).agreement.promised ≡ (note t.world.want (facts_of t m) l).agreement.promised → (facts_of t m).agreement.last ≡ (note t.world.want (facts_of t m) l).agreement.last
    → Stay t (record { world = by_node t.world m l; lists = t.lists; entered = t.entered }) n
by_line t m l n p q =
    let moved : ((facts_of t n).agreement.promised ≡ (changed_at t.world.facts m (note t.world.want (facts_of t m) l) n).agreement.promised) × ((facts_of t n).agreement.last ≡ (changed_at t.world.facts m (note t.world.want (facts_of t m) l) n).agreement.last) =
    moved_stay t.world m (note t.world.want (facts_of t m) l) p q n in
    record { promised = moved.0; last = moved.1 }

-- the line counts for the requests as well
by_both : (t : Traced) (m : ℕ) (l : Line) (n : ℕ) → (facts_of t m).agreement.promised ≡ (note t.world.want (facts_of t m) l).agreement.promised → (facts_of t m).agreement.last ≡ (note t.world.want (facts_of t m) l).agreement.last
    → Stay t (record { world = with_requests_if (by_node t.world m l) l true; lists = t.lists; entered = t.entered }) n
by_both t m l n p q = let s = by_line t m l n p q in record { promised = s.promised; last = s.last }

stays : (t u : Traced) (l : Line) (n : ℕ) → promise_step n (facts_of t n).agreement.promised l ≡ (facts_of t n).agreement.promised → last_step n (facts_of t n).agreement.last l ≡ (facts_of t n).agreement.last → Stay t u n → Reads t u l n
stays t u l n p q s = record { promised = p ∙ s.promised; last = q ∙ s.last }

reads_promise : (t : Traced) (m : ℕ) (k : ClusterKey) (n : ℕ) → Reads t (traced_after t (Writes (line.Promise m k))) (line.Promise m k) n
reads_promise t m k n = record { promised = promised (m == n); last = last n }
  where
    new : Facts
    new = note t.world.want (facts_of t m) (line.Promise m k)

    promised : (b : Bool) → (if b then k else (facts_of t n).agreement.promised) ≡ (new_if new t.world.facts n b).agreement.promised
    promised true = refl
    promised false = refl

    last : (n : ℕ)
        → (t.world.facts n).agreement.last ≡ (changed_at t.world.facts m new n).agreement.last
    last = at_each (λ n f. (t.world.facts n).agreement.last ≡ f.agreement.last) t.world.facts m new (λ n. refl) refl

reads_enter : (t : Traced) (m : ℕ) (k : ClusterKey) (ms : List Member) (n : ℕ) → Reads t (traced_after t (Writes (line.Enter m k ms))) (line.Enter m k ms) n
reads_enter t m k ms n = record { promised = promised n; last = last (m == n) }
  where
    new : Facts
    new = note t.world.want (facts_of t m) (line.Enter m k ms)

    promised : (n : ℕ) → (t.world.facts n).agreement.promised ≡ (changed_at t.world.facts m new n).agreement.promised
    promised = at_each (λ n f. (t.world.facts n).agreement.promised ≡ f.agreement.promised) t.world.facts m new (λ n. refl) refl

    last : (b : Bool) → (if b then k else (facts_of t n).agreement.last) ≡ (new_if new t.world.facts n b).agreement.last
    last true = refl
    last false = refl

reads_line : (t : Traced) (l : Line) → Sound t → (n : ℕ) → Reads t (traced_after t (Writes l)) l n
reads_line t (line.Promise m k) s n = reads_promise t m k n
reads_line t (line.Enter m k ms) s n = reads_enter t m k ms n
reads_line t (line.Deliver i a b) s n = stays t _ (line.Deliver i a b) n refl refl (came_stay t _ (told_at t b i s) s n)
reads_line t (line.Repeat i a b) s n = stays t _ (line.Repeat i a b) n refl refl (came_stay t _ (told_at t b i s) s n)
reads_line t (line.Cut i a b size) s n = stays t _ (line.Cut i a b size) n refl refl (came_stay t _ (told_cut t b size i s) s n)
reads_line t (line.Sent i a b bytes) s n =
    stays t _ (line.Sent i a b bytes) n refl refl
    (sent_stay t (record t.world { network = posting t.world.network i (record { from = a; to = b; bytes = bytes }) }) a b refl (message_of bytes) n)
reads_line t (line.Tick m) s n = stays t _ (line.Tick m) n refl refl (by_line t m (line.Tick m) n refl refl)
reads_line t (line.Stop m) s n = stays t _ (line.Stop m) n refl refl (by_both t m (line.Stop m) n refl refl)
reads_line t (line.Start m) s n = stays t _ (line.Start m) n refl refl (by_line t m (line.Start m) n refl refl)
reads_line t (line.Quiesce m) s n = stays t _ (line.Quiesce m) n refl refl (by_line t m (line.Quiesce m) n refl refl)
reads_line t (line.Unquiesce m) s n = stays t _ (line.Unquiesce m) n refl refl (by_line t m (line.Unquiesce m) n refl refl)
reads_line t (line.Exchanged m k) s n = stays t _ (line.Exchanged m k) n refl refl (by_line t m (line.Exchanged m k) n refl refl)
reads_line t (line.Opened m k number d a) s n = stays t _ (line.Opened m k number d a) n refl refl (by_both t m (line.Opened m k number d a) n refl refl)
reads_line t (line.Value m k number d v) s n = stays t _ (line.Value m k number d v) n refl refl (by_both t m (line.Value m k number d v) n refl refl)
reads_line t (line.Apply m k number d v) s n = stays t _ (line.Apply m k number d v) n refl refl (by_line t m (line.Apply m k number d v) n refl refl)
reads_line t (line.Done m k number) s n = stays t _ (line.Done m k number) n refl refl (by_both t m (line.Done m k number) n refl refl)
reads_line t (line.Aborted m k number) s n = stays t _ (line.Aborted m k number) n refl refl (by_line t m (line.Aborted m k number) n refl refl)
reads_line t (line.Doubt m k number) s n = stays t _ (line.Doubt m k number) n refl refl (by_line t m (line.Doubt m k number) n refl refl)
reads_line t (line.Merge m k d v) s n = stays t _ (line.Merge m k d v) n refl refl (by_line t m (line.Merge m k d v) n refl refl)
reads_line t (line.Handed m k p) s n = stays t _ (line.Handed m k p) n refl refl (by_line t m (line.Handed m k p) n refl refl)
reads_line t (line.Settled m k p) s n = stays t _ (line.Settled m k p) n refl refl (by_line t m (line.Settled m k p) n refl refl)
reads_line t (line.Learn m k p) s n = stays t _ (line.Learn m k p) n refl refl (by_line t m (line.Learn m k p) n refl refl)
reads_line t (line.Drop m k p) s n = stays t _ (line.Drop m k p) n refl refl (by_line t m (line.Drop m k p) n refl refl)
reads_line t _ s n = record { promised = refl; last = refl }

-- the readings of licensed marks, from what was so before them
pub record ReadOf (t u : Traced) (ls : List Line) (n : ℕ) : Type 0 where
  pub promised : fold (promise_step n) (facts_of t n).agreement.promised ls ≡ (facts_of u n).agreement.promised
  pub last : fold (last_step n) (facts_of t n).agreement.last ls ≡ (facts_of u n).agreement.last

pub read_marks : (t : Traced) (ms : List Mark) → LicensedMarks t ms → Sound t → (n : ℕ) → ReadOf t (traced_after_all t ms) (lines_among ms) n
read_marks t [] ok s n = record { promised = refl; last = refl }
read_marks t (Begins e ∷ ms) ok s n =
    let rest : ReadOf (traced_after t (Begins e)) (traced_after_all (traced_after t (Begins e)) ms) (lines_among ms) n = read_marks (traced_after t (Begins e)) ms ok.1 (kept t (Begins e) ok.0 s).sound n in
    record { promised = rest.promised; last = rest.last }
read_marks t (Writes l ∷ ms) ok s n =
    let u : Traced = traced_after t (Writes l) in
    let first : Reads t u l n = reads_line t l s n in
    let rest : ReadOf u (traced_after_all u ms) (lines_among ms) n = read_marks u ms ok.1 (kept t (Writes l) ok.0 s).sound n in
    record {
      promised = ap (λ k. fold (promise_step n) k (lines_among ms)) first.promised ∙ rest.promised;
      last = ap (λ k. fold (last_step n) k (lines_among ms)) first.last ∙ rest.last;
    }

-- ---- the last key only rises

last_rises : (t : Traced) (m : Mark) → OkMark t m → Sound t → (n : ℕ) → KeyAtMost (facts_of t n).agreement.last (facts_of (traced_after t m) n).agreement.last
last_rises t (Begins e) ok s n = at_most_refl _
last_rises t (Writes l) ok s n = subst (λ k. KeyAtMost (facts_of t n).agreement.last k) (reads_line t l s n).last (by_word l ok)
  where
    entering : (m : ℕ) (k : ClusterKey) → IsBelow (facts_of t m).agreement.last k → (b : Bool) → (m == n) ≡ b → KeyAtMost (facts_of t n).agreement.last (if b then k else (facts_of t n).agreement.last)
    entering m k above true e = below_at_most (subst (λ (x : ℕ). IsBelow (facts_of t x).agreement.last k) (num_same m n e) above)
    entering m k above false e = at_most_refl _

    by_word : (l : Line) → OkLine t l → KeyAtMost (facts_of t n).agreement.last (last_step n (facts_of t n).agreement.last l)
    by_word (line.Enter m k ms) ok = entering m k ok.above (m == n) refl
    by_word _ ok = at_most_refl _

pub last_rises_all : (t : Traced) (ms : List Mark) → LicensedMarks t ms → Sound t → (n : ℕ) → KeyAtMost (facts_of t n).agreement.last (facts_of (traced_after_all t ms) n).agreement.last
last_rises_all t [] ok s n = at_most_refl _
last_rises_all t (m ∷ ms) ok s n = at_most_trans (last_rises t m ok.0 s n) (last_rises_all (traced_after t m) ms ok.1 (kept t m ok.0 s).sound n)

either_way : {A : Type 0} (a b : Bool) → (a || b) ≡ true → (a ≡ true → A) → (b ≡ true → A) → A
either_way true b e f g = f refl
either_way false b e f g = g e

-- the node's last key is the one that it has just entered
just_entered : (t : Traced) (l : Line) → Sound t → (n : ℕ) (k : ClusterKey) → is_enter k n l ≡ true → KeyAtMost k (facts_of (traced_after t (Writes l)) n).agreement.last
just_entered t (line.Enter m l ms) s n k e =
    let both : ((m == n) ≡ true) × (same_key l k ≡ true) = both_true (m == n) (same_key l k) e in
    subst (λ x. KeyAtMost k x) (ap (λ b. if b then l else (facts_of t n).agreement.last) (sym both.0) ∙ (reads_enter t m l ms n).last) (at_most_eq (sym (same_is l k both.1)))
just_entered t _ s n k e = absurd (never e refl)

-- a key that was entered is at most the last one
pub entered_at_most : (t : Traced) (ms : List Mark) → LicensedMarks t ms → Sound t → (n : ℕ) (k : ClusterKey) → list_any (is_enter k n) (lines_among ms) ≡ true → KeyAtMost k (facts_of (traced_after_all t ms) n).agreement.last
entered_at_most t [] ok s n k h = absurd (never h refl)
entered_at_most t (Begins e ∷ ms) ok s n k h = entered_at_most (traced_after t (Begins e)) ms ok.1 (kept t (Begins e) ok.0 s).sound n k h
entered_at_most t (Writes l ∷ ms) ok s n k h =
    either_way (is_enter k n l) (list_any (is_enter k n) (lines_among ms)) h
    (λ e. at_most_trans (just_entered t l s n k e) (last_rises_all (traced_after t (Writes l)) ms ok.1 (kept t (Writes l) ok.0 s).sound n))
    (λ e. entered_at_most (traced_after t (Writes l)) ms ok.1
    (kept t (Writes l) ok.0 s).sound n k e)
