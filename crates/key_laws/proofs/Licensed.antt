-- The laws of keys at every place of licensed marks.
use Rattle.std.proofs.Common.{inl, inr, ◌≡◌, ℕ, zero, suc, ◌≤◌, ◌==◌, ◌&&◌, ◌||◌, ◌⊎◌, not, Bool, true, false, List, [], ◌∷◌, ◌++◌, Option, Some, None, refl, sym, ap, subst, ◌∙◌, arith, ⊎_elim, take}
use Rattle.std.specs.Prelude.{slice_get, IsTrue, option_and_then, flat_map, fold}
use Rattle.std.specs.List.{list_any, list_all}
use Rattle.std.proofs.lemmas.List.Elements.{filter_map-append}
use Rattle.cluster_types.specs.declared.cluster_key.ClusterKey.{ClusterKey}
use Rattle.cluster_types.specs.declared.copy_state.CopyState.{CopyState}
use Rattle.cluster_types.specs.declared.copy_state.CopyState.TheVariants.{Empty, Part, Whole}
use Rattle.cluster_types.specs.declared.member.Member.{Member}
use Rattle.cluster_types.specs.ClusterKeys as keys
use Rattle.cluster_types.specs.ClusterKeys.{IsBelow, key_lt}
use Rattle.cluster_types.specs.Members.{ids_of}
use Rattle.cluster_types.proofs.BoolFacts.{and_both as both}
use Rattle.wire_messages.specs.declared.message.Message.{Message}
use Rattle.wire_messages.specs.declared.message.Message.TheVariants as message
use Rattle.wire_messages.specs.Decoding.{message_of}
use Rattle.journal_lines.specs.declared.line.Line.{Line}
use Rattle.journal_lines.specs.declared.line.Line.TheVariants as line
use Rattle.node_rules.specs.Copies.{Row}
use Rattle.node_rules.specs.Exchange.{is_member}
use Rattle.node_rules.specs.Facts.{Facts}
use Rattle.journal_readings.specs.Claims.{RaisesKey, KeysRise}
use Rattle.journal_readings.specs.Lines.{is_enter, has_node}
use Rattle.cluster_rules.specs.Marks.{Mark, Begins, Writes, line_in, lines_among}
use Rattle.journal_readings.specs.NamedKeys.{copy_keys, message_keys, read_keys, named_keys, is_promised, names_promised, message_members, named_members}
use Rattle.journal_readings.specs.Shape.{EntersFalling, enters_once, names_entered}
use Rattle.journal_readings.specs.Views.{promised_key, last_key, promise_step, last_step}
use Rattle.cluster_rules.proofs.MarkLaws.{front_of_lines}
use Rattle.key_laws.specs.Order.{KeyAtMost}
use Rattle.key_laws.specs.Traced.{Traced, facts_of, traced_after, traced_after_all}
use Rattle.key_laws.specs.Licences.{IsPromisedKey, CopyOf, RowOf, Says, SaysIf, OkLine, LicensedMarks, Visited}
use Rattle.key_laws.specs.Laws.{EntriesAgree}
use Rattle.key_laws.specs.Sound.{Sound, Grows}
use Rattle.key_laws.proofs.Order.{below_lt, at_most_lt, not_below}
use Rattle.key_laws.proofs.Growth.{known_grows}
use Rattle.key_laws.proofs.Frames.{at_here, never}
use Rattle.key_laws.proofs.KeptNodes.{Lawful, entered_as}
use Rattle.key_laws.proofs.Kept.{Keeps, kept_line, kept_at, grows_from, licensed_at, licensed_append, after_all-append}
use Rattle.key_laws.proofs.DueViews.{promised_known}
use Rattle.key_laws.proofs.Readings.{read_marks, entered_at_most}

-- ---- a line's place among the marks

some_same : {A : Type 0} (a b : A) → Some a ≡ Some b → a ≡ b
some_same a b e = grind arith

none_some : {A B : Type 0} (a : A) → None ≡ Some a → B
none_some a e = absurd (grind arith)

record Placed (ms : List Mark) (i : ℕ) (l : Line) : Type 0 where
  place : ℕ
  stands : slice_get ms place ≡ Some (Writes l)
  before : lines_among (take place ms) ≡ take i (lines_among ms)

placed : (ms : List Mark) (i : ℕ) (l : Line) → slice_get (lines_among ms) i ≡ Some l → Placed ms i l
placed [] i l e = absurd (grind arith)
placed (Begins e ∷ ms) zero l h = let p : Placed ms zero l = placed ms zero l h in record { place = suc p.place; stands = p.stands; before = p.before }
placed (Begins e ∷ ms) (suc i) l h = let p : Placed ms (suc i) l = placed ms (suc i) l h in record { place = suc p.place; stands = p.stands; before = p.before }
placed (Writes x ∷ ms) zero l h = record { place = zero; stands = ap (λ y. Some (Writes y)) (some_same x l h); before = refl }
placed (Writes x ∷ ms) (suc i) l h = let p : Placed ms i l = placed ms i l h in record { place = suc p.place; stands = p.stands; before = ap (λ xs. x ∷ xs) p.before }

licensed_front : (t : Traced) (ms : List Mark) (i : ℕ) → LicensedMarks t ms
    → LicensedMarks t (take i ms)
licensed_front t [] zero ok = tt
licensed_front t [] (suc i) ok = tt
licensed_front t (m ∷ ms) zero ok = tt
licensed_front t (m ∷ ms) (suc i) ok = (ok.0, licensed_front (traced_after t m) ms i ok.1)

-- ---- a beginning in which nothing was promised

pub record Starts (t : Traced) : Type 0 where
  pub sound : Sound t
  pub promised : (n : ℕ) → (facts_of t n).agreement.promised ≡ keys.none
  pub last : (n : ℕ) → (facts_of t n).agreement.last ≡ keys.none
  pub entered : (n : ℕ) (k : ClusterKey) → t.entered n k ≡ false

promised_is : (t : Traced) (ms : List Mark) → Starts t → LicensedMarks t ms → (n : ℕ) → promised_key n (lines_among ms) ≡ (facts_of (traced_after_all t ms) n).agreement.promised
unfolding promised_key
promised_is t ms s ok n = ap (λ k. fold (promise_step n) k (lines_among ms)) (sym (s.promised n)) ∙ (read_marks t ms ok s.sound n).promised

last_is : (t : Traced) (ms : List Mark) → Starts t → LicensedMarks t ms → (n : ℕ) → last_key n (lines_among ms) ≡ (facts_of (traced_after_all t ms) n).agreement.last
unfolding last_key
last_is t ms s ok n = ap (λ k. fold (last_step n) k (lines_among ms)) (sym (s.last n)) ∙ (read_marks t ms ok s.sound n).last

-- ---- keys rise

rises : (t : Traced) (ms : List Mark) → Starts t → LicensedMarks t ms → (i : ℕ) (l : Line) → slice_get (lines_among ms) i ≡ Some l → RaisesKey (take i (lines_among ms)) l
rises t ms s ok i l e = subst (λ before. RaisesKey before l) p.before (by_word l (licensed_at t ms p.place (Writes l) ok p.stands))
  where
    p : Placed ms i l
    p = placed ms i l e

    front : List Mark
    front = take p.place ms

    by_word : (l : Line) → OkLine (traced_after_all t front) l → RaisesKey (lines_among front) l
    by_word (line.Promise n k) ok2 = below_lt _ k (subst (λ q. IsBelow q k) (sym (promised_is t front s (licensed_front t ms p.place ok) n)) ok2.above)
    by_word (line.Enter n k members) ok2 = below_lt _ k (subst (λ q. IsBelow q k) (sym (last_is t front s (licensed_front t ms p.place ok) n)) ok2.above)
    by_word _ ok2 = tt

last_promised : (t : Traced) (ms : List Mark) → Starts t → LicensedMarks t ms → (i n : ℕ) → key_lt (promised_key n (take i (lines_among ms))) (last_key n (take i (lines_among ms))) ≡ false
last_promised t ms s ok i n =
    let f : (k : ℕ) × (take i (lines_among ms) ≡ lines_among (take k ms)) = front_of_lines ms i in
    let front : List Mark = take f.0 ms in
    let fine : LicensedMarks t front = licensed_front t ms f.0 ok in
    let ordered : KeyAtMost (facts_of (traced_after_all t front) n).agreement.last (facts_of (traced_after_all t front) n).agreement.promised = ((kept_at t ms f.0 ok s.sound).sound.nodes n).agrees.ordered in
    subst (λ ls. key_lt (promised_key n ls) (last_key n ls) ≡ false) (sym f.1)
    (at_most_lt _ _ (subst (λ q. KeyAtMost (last_key n (lines_among front)) q) (sym (promised_is t front s fine n)) (subst (λ q. KeyAtMost q (facts_of (traced_after_all t front) n).agreement.promised) (sym (last_is t front s fine n)) ordered)))

-- ---- entries

entered_at : (t : Traced) (ms : List Mark) → Sound t → LicensedMarks t ms → (q n : ℕ) (k : ClusterKey) (members : List Member) → slice_get ms q ≡ Some (Writes (line.Enter n k members)) → Lawful (traced_after_all t (take q ms)) n k members
entered_at t ms s ok q n k members e = entered_as (traced_after_all t (take q ms)) n k members (kept_at t ms q ok s).sound (licensed_at t ms q (Writes (line.Enter n k members)) ok e)

-- a key that has a list at one place has it at a later one
same_later : (t : Traced) (ms : List Mark) → Sound t → LicensedMarks t ms → (q r : ℕ) (k : ClusterKey) (a b : List Member) → q ≤ r → (traced_after_all t (take q ms)).lists k ≡ Some a → (traced_after_all t (take r ms)).lists k ≡ Some b → a ≡ b
same_later t ms s ok q r k a b le e f = some_same a b (sym ((grows_from t ms q r ok s le).lists k a e) ∙ f)

-- the members that a line names with a key are those of the key's list
message_listed : (t : Traced) (a : ℕ) (m : Message) (k : ClusterKey) (ms : List Member) → Says t a m → message_members m ≡ Some (k, ms) → t.lists k ≡ Some ms
message_listed t a (message.Propose q xs) k ms h e = subst (λ (x : ClusterKey × List Member). t.lists x.0 ≡ Some x.1) (some_same _ _ e) h.1
message_listed t a (message.Commit q xs) k ms h e = subst (λ (x : ClusterKey × List Member). t.lists x.0 ≡ Some x.1) (some_same _ _ e) h
message_listed t a _ k ms h e = none_some (k, ms) e

read_listed : (t : Traced) (a : ℕ) (o : Option Message) (k : ClusterKey) (ms : List Member) → SaysIf t a o → option_and_then message_members o ≡ Some (k, ms) → t.lists k ≡ Some ms
read_listed t a None k ms h e = none_some (k, ms) e
read_listed t a (Some m) k ms h e = message_listed t a m k ms h e

line_listed : (t : Traced) (l : Line) (k : ClusterKey) (ms : List Member) → Sound t → OkLine t l → named_members l ≡ Some (k, ms) → t.lists k ≡ Some ms
unfolding named_members
line_listed t (line.Enter n q xs) k ms s ok e = subst (λ (x : ClusterKey × List Member). t.lists x.0 ≡ Some x.1) (some_same _ _ e) (entered_as t n q xs s ok).list
line_listed t (line.Sent i a b bytes) k ms s ok e = read_listed t a (message_of bytes) k ms ok.0 e
line_listed t _ k ms s ok e = none_some (k, ms) e

one_list : (t : Traced) (ms : List Mark) → Sound t → LicensedMarks t ms → (i o : ℕ) (l m : Line) (k : ClusterKey) (a b : List Member)
    → slice_get (lines_among ms) i ≡ Some l → slice_get (lines_among ms) o ≡ Some m → named_members l ≡ Some (k, a) → named_members m ≡ Some (k, b) → a ≡ b
one_list t ms s ok i o l m k a b e f u v = ⊎_elim (λ le. same_later t ms s ok p.place q.place k a b le x y) (λ le. sym (same_later t ms s ok q.place p.place k b a le y x)) (either p.place q.place)
  where
    p : Placed ms i l
    p = placed ms i l e

    q : Placed ms o m
    q = placed ms o m f

    x : (traced_after_all t (take p.place ms)).lists k ≡ Some a
    x = line_listed (traced_after_all t (take p.place ms)) l k a (kept_at t ms p.place ok s).sound (licensed_at t ms p.place (Writes l) ok p.stands) u

    y : (traced_after_all t (take q.place ms)).lists k ≡ Some b
    y = line_listed (traced_after_all t (take q.place ms)) m k b (kept_at t ms q.place ok s).sound (licensed_at t ms q.place (Writes m) ok q.stands) v

    either : (x y : ℕ) → (x ≤ y) ⊎ (y ≤ x)
    either x y = grind arith

one_entry_list : (t : Traced) (ms : List Mark) → Sound t → LicensedMarks t ms → (i o n m : ℕ) (k : ClusterKey) (a b : List Member)
    → slice_get (lines_among ms) i ≡ Some (line.Enter n k a) → slice_get (lines_among ms) o ≡ Some (line.Enter m k b) → a ≡ b
unfolding named_members
one_entry_list t ms s ok i o n m k a b e f = one_list t ms s ok i o (line.Enter n k a) (line.Enter m k b) k a b e f refl refl

-- ---- the keys of a line

abbrev AllKnown : Traced → List ClusterKey → Type 0
AllKnown t [] = Unit {0}
AllKnown t (k ∷ ks) = IsPromisedKey t k × AllKnown t ks

known_append : (t : Traced) (a b : List ClusterKey) → AllKnown t a → AllKnown t b → AllKnown t (a ++ b)
known_append t [] b h i = i
known_append t (k ∷ a) b h i = (h.0, known_append t a b h.1 i)

copy_known : (t : Traced) (c : CopyState) → CopyOf (λ k. IsPromisedKey t k) c
    → AllKnown t (copy_keys c)
copy_known t Empty h = tt
copy_known t Part h = tt
copy_known t (Whole k writes) h = (h, tt)

row_all_known : (t : Traced) (row : Row) → RowOf (λ k. IsPromisedKey t k) row → AllKnown t (flat_map (λ e. copy_keys e.1) row)
row_all_known t [] h = tt
row_all_known t (e ∷ es) h = known_append t (copy_keys e.1) _ (copy_known t e.1 h.0) (row_all_known t es h.1)

message_known : (t : Traced) (a : ℕ) (m : Message) → Sound t → Says t a m → AllKnown t (message_keys m)
message_known t a (message.Heartbeat view promised hears role) s h = (h.1, (h.2, tt))
message_known t a (message.Propose k ms) s h = ((s.lists k ms h.1).known, tt)
message_known t a (message.Accept k) s h = (h, tt)
message_known t a (message.Refuse k promised) s h = (h.0, (h.1, tt))
message_known t a (message.Commit k ms) s h = ((s.lists k ms h).known, tt)
message_known t a (message.State k wants row) s h = (h.0, row_all_known t row h.1)
message_known t a (message.Batch b) s h = (h, tt)
message_known t a (message.BatchAck k number) s h = (h, tt)
message_known t a (message.Progress k wants done handed settled) s h = (h, tt)
message_known t a (message.Repl k number nth d v) s h = (h, tt)
message_known t a (message.ReplAck k number) s h = (h, tt)
message_known t a (message.Ask k number d) s h = (h, tt)
message_known t a (message.Answer k number v) s h = (h, tt)
message_known t a (message.MapTable table) s h = (h, tt)
message_known t a (message.Proxy k number d want) s h = (h, tt)
message_known t a (message.ProxyReply k number reply) s h = (h, tt)
message_known t a (message.Reply k number reply) s h = (h, tt)
message_known t a (message.ScanPage page) s h = (h, tt)
message_known t a _ s h = tt

read_known : (t : Traced) (a : ℕ) (o : Option Message) → Sound t → SaysIf t a o → AllKnown t (read_keys o)
read_known t a None s h = tt
read_known t a (Some m) s h = message_known t a m s h

all_known_grow : (t u : Traced) → Grows t u → (ks : List ClusterKey) → AllKnown t ks → AllKnown u ks
all_known_grow t u g [] h = tt
all_known_grow t u g (k ∷ ks) h = (known_grows t u g k h.0, all_known_grow t u g ks h.1)

promise_known_after : (t : Traced) (n : ℕ) (k : ClusterKey) → Sound (traced_after t (Writes (line.Promise n k))) → IsPromisedKey (traced_after t (Writes (line.Promise n k))) k
promise_known_after t n k s =
    subst (λ q. IsPromisedKey (traced_after t (Writes (line.Promise n k))) q)
    (at_here t.world.facts n n _ refl (λ (f : Facts). f.agreement.promised ≡ k) refl)
    (s.nodes n).agrees.promised

-- each key that a line names is known after it
line_known : (t : Traced) (l : Line) → Sound t → OkLine t l → AllKnown (traced_after t (Writes l)) (named_keys l)
unfolding named_keys
line_known t l s ok = by_word l ok (kept_line t l ok s)
  where
    one : (u : Traced) (k : ClusterKey) → Grows t u → IsPromisedKey t k → AllKnown u (k ∷ [])
    one u k g h = (known_grows t u g k h, tt)

    by_word : (l : Line) → OkLine t l → Keeps t (traced_after t (Writes l)) → AllKnown (traced_after t (Writes l)) (named_keys l)
    by_word (line.Sent i a b bytes) ok h = all_known_grow t (traced_after t (Writes (line.Sent i a b bytes))) h.grows (read_keys (message_of bytes)) (read_known t a (message_of bytes) s ok.0)
    by_word (line.Promise n k) ok h = (promise_known_after t n k h.sound, tt)
    by_word (line.Enter n k ms) ok h = one (traced_after t (Writes (line.Enter n k ms))) k h.grows (promised_known t n k s ok.promised)
    by_word (line.Exchanged n k) ok h = one (traced_after t (Writes (line.Exchanged n k))) k h.grows ok.visited.known
    by_word (line.Opened n k number d a) ok h = one (traced_after t (Writes (line.Opened n k number d a))) k h.grows ok.known
    by_word (line.Value n k number d v) ok h = one (traced_after t (Writes (line.Value n k number d v))) k h.grows ok.known
    by_word (line.Apply n k number d v) ok h = one (traced_after t (Writes (line.Apply n k number d v))) k h.grows ok.known
    by_word (line.Done n k number) ok h = one (traced_after t (Writes (line.Done n k number))) k h.grows ok.known
    by_word (line.Aborted n k number) ok h = one (traced_after t (Writes (line.Aborted n k number))) k h.grows ok
    by_word (line.Doubt n k number) ok h = one (traced_after t (Writes (line.Doubt n k number))) k h.grows ok
    by_word (line.Merge n k d v) ok h = one (traced_after t (Writes (line.Merge n k d v))) k h.grows ok.known
    by_word (line.Handed n k p) ok h = one
        (traced_after t (Writes (line.Handed n k p))) k h.grows ok.known
    by_word (line.Settled n k p) ok h = one (traced_after t (Writes (line.Settled n k p))) k h.grows ok.known
    by_word (line.Learn n k p) ok h = one
        (traced_after t (Writes (line.Learn n k p))) k h.grows ok.known
    by_word (line.Drop n k p) ok h = one
        (traced_after t (Writes (line.Drop n k p))) k h.grows ok.known
    by_word (line.Map n k p ms a) ok h = one (traced_after t (Writes (line.Map n k p ms a))) k h.grows ok.known
    by_word (line.Table k) ok h = one (traced_after t (Writes (line.Table k))) k h.grows ok
    by_word (line.Proxy n k x d a acting) ok h = one (traced_after t (Writes (line.Proxy n k x d a acting))) k h.grows ok
    by_word (line.Proxied n k x body) ok h = one (traced_after t (Writes (line.Proxied n k x body))) k h.grows ok
    by_word (line.Unproxied n k x) ok h = one
        (traced_after t (Writes (line.Unproxied n k x))) k h.grows ok
    by_word (line.Scanned x n k p size) ok h = one (traced_after t (Writes (line.Scanned x n k p size))) k h.grows ok
    by_word _ ok h = tt

-- a front of licensed marks with the mark behind it
front_with : (t : Traced) (ms : List Mark) (q : ℕ) (m : Mark) → LicensedMarks t ms → slice_get ms q ≡ Some m → LicensedMarks t (take q ms ++ m ∷ [])
front_with t ms q m ok e = licensed_append t (take q ms) (m ∷ []) (licensed_front t ms q ok) (licensed_at t ms q m ok e, tt)

each_promised : (u : Traced) (ls : List Line) → ((n : ℕ) → promised_key n ls ≡ (facts_of u n).agreement.promised) → (ks : List ClusterKey) → AllKnown u ks → list_all (is_promised ls) ks ≡ true
each_promised u ls read [] h = refl
each_promised u ls read (k ∷ ks) h =
    both (not (key_lt (promised_key k.principal ls) k)) (list_all (is_promised ls) ks)
    (ap (λ b. not b)
    (at_most_lt _ k (subst (λ q. KeyAtMost k q) (sym (read k.principal)) h.0.bound)))
    (each_promised u ls read ks h.1)

named : (t : Traced) (ms : List Mark) → Starts t → LicensedMarks t ms → (i : ℕ) (l : Line) → slice_get (lines_among ms) i ≡ Some l → IsTrue (names_promised (take i (lines_among ms)) l)
named t ms s ok i l e =
    let p : Placed ms i l = placed ms i l e in
    let front : List Mark = take p.place ms in
    let v : Traced = traced_after_all t front in
    let u : Traced = traced_after v (Writes l) in
    let known : AllKnown u (named_keys l) = line_known v l (kept_at t ms p.place ok s.sound).sound (licensed_at t ms p.place (Writes l) ok p.stands) in
    let whole : LicensedMarks t (front ++ Writes l ∷ []) = front_with t ms p.place (Writes l) ok p.stands in
    let lines : lines_among (front ++ Writes l ∷ []) ≡ take i (lines_among ms) ++ l ∷ [] = filter_map-append line_in front (Writes l ∷ []) ∙ ap (λ xs. xs ++ l ∷ []) p.before in
    let world : traced_after_all t (front ++ Writes l ∷ []) ≡ u = after_all-append t front (Writes l ∷ []) in
    let read : (n : ℕ) → promised_key n (take i (lines_among ms) ++ l ∷ []) ≡ (facts_of u n).agreement.promised =
    λ n. ap (λ xs. promised_key n xs) (sym lines) ∙ promised_is t (front ++ Writes l ∷ []) s whole n ∙ ap (λ (x : Traced). (facts_of x n).agreement.promised) world in
    each_promised u (take i (lines_among ms) ++ l ∷ []) read (named_keys l) known

falling : (t : Traced) (ms : List Mark) → Sound t → LicensedMarks t ms → (i : ℕ) (l : Line) → slice_get (lines_among ms) i ≡ Some l → EntersFalling l
falling t ms s ok i l e = by_word l (placed ms i l e)
  where
    by_word : (l : Line) → Placed ms i l → EntersFalling l
    by_word (line.Enter n k members) p = ((kept_at t ms p.place ok s).sound.lists k members (entered_at t ms s ok p.place n k members p.stands).list).good.falls
    by_word _ p = tt

among_ids : (ms : List Member) (n : ℕ) → is_member ms n ≡ has_node (ids_of ms) n
among_ids [] n = refl
among_ids (m ∷ ms) n = ap (λ b. (m.id == n) || b) (among_ids ms n)

entered_once : (t : Traced) (ms : List Mark) → Sound t → LicensedMarks t ms → (i : ℕ) (l : Line) → slice_get (lines_among ms) i ≡ Some l → IsTrue (enters_once (take i (lines_among ms)) l)
entered_once t ms s ok i l e = by_word l (placed ms i l e)
  where
    fresh : (n : ℕ) (k : ClusterKey) (members : List Member) (p : Placed ms i (line.Enter n k members)) → list_any (is_enter k n) (take i (lines_among ms)) ≡ false
    fresh n k members p = go (list_any (is_enter k n) (lines_among (take p.place ms))) refl
      where
        go : (b : Bool) → list_any (is_enter k n) (lines_among (take p.place ms)) ≡ b → list_any (is_enter k n) (take i (lines_among ms)) ≡ false
        go true h = absurd (not_below (entered_at t ms s ok p.place n k members p.stands).above (entered_at_most t (take p.place ms) (licensed_front t ms p.place ok) s n k h))
        go false h = ap (λ ls. list_any (is_enter k n) ls) (sym p.before) ∙ h

    together : (a b : Bool) → a ≡ true → b ≡ false → (a && not b) ≡ true
    together true false p q = refl
    together true true p q = absurd (never refl q)
    together false b p q = p

    by_word : (l : Line) → Placed ms i l → IsTrue (enters_once (take i (lines_among ms)) l)
    by_word (line.Enter n k members) p =
        together (has_node (ids_of members) n) (list_any (is_enter k n) (take i (lines_among ms)))
        (sym (among_ids members n) ∙ (entered_at t ms s ok p.place n k members p.stands).among) (fresh n k members p)
    by_word _ p = refl

-- ---- lines of a view

entered_either : {A : Type 0} (a b : Bool) → (a || b) ≡ true → (a ≡ true → A) → (b ≡ true → A) → A
entered_either true b e f g = f refl
entered_either false b e f g = g e

-- who has entered did so before, or at a line among the marks
entered_where : (t : Traced) (ms : List Mark) (n : ℕ) (k : ClusterKey) → (traced_after_all t ms).entered n k ≡ true → (t.entered n k ≡ true) ⊎ (list_any (is_enter k n) (lines_among ms) ≡ true)
entered_where t [] n k h = inl h
entered_where t (Begins e ∷ ms) n k h = entered_where (traced_after t (Begins e)) ms n k h
entered_where t (Writes l ∷ ms) n k h =
    ⊎_elim (λ first. entered_either (is_enter k n l) (t.entered n k) first (λ e. inr (ap (λ b. b || list_any (is_enter k n) (lines_among ms)) e)) (λ e. inl e))
    (λ later. inr (later_too (is_enter k n l) _ later)) (entered_where (traced_after t (Writes l)) ms n k h)
  where
    later_too : (a b : Bool) → b ≡ true → (a || b) ≡ true
    later_too true b e = refl
    later_too false b e = e

visited_before : (t : Traced) (ms : List Mark) → Starts t → (n : ℕ) (k : ClusterKey) → Visited (traced_after_all t ms) n k → list_any (is_enter k n) (lines_among ms) ≡ true
visited_before t ms s n k h = ⊎_elim (λ e. absurd (never e (s.entered n k))) (λ e. e) (entered_where t ms n k h.entered)

in_view : (t : Traced) (ms : List Mark) → Starts t → LicensedMarks t ms → (i : ℕ) (l : Line) → slice_get (lines_among ms) i ≡ Some l → IsTrue (names_entered (take i (lines_among ms)) l)
in_view t ms s ok i l e = subst (λ before. names_entered before l ≡ true) p.before (by_word l (licensed_at t ms p.place (Writes l) ok p.stands))
  where
    p : Placed ms i l
    p = placed ms i l e

    front : List Mark
    front = take p.place ms

    by_word : (l : Line) → OkLine (traced_after_all t front) l
        → names_entered (lines_among front) l ≡ true
    by_word (line.Exchanged n k) ok2 = visited_before t front s n k ok2.visited
    by_word (line.Opened n k number d a) ok2 = visited_before t front s n k ok2
    by_word (line.Value n k number d v) ok2 = visited_before t front s n k ok2
    by_word (line.Apply n k number d v) ok2 = visited_before t front s n k ok2
    by_word (line.Done n k number) ok2 = visited_before t front s n k ok2
    by_word (line.Merge n k d v) ok2 = visited_before t front s n k ok2
    by_word (line.Settled n k q) ok2 = visited_before t front s n k ok2
    by_word (line.Learn n k q) ok2 = visited_before t front s n k ok2
    by_word (line.Drop n k q) ok2 = visited_before t front s n k ok2
    by_word (line.Map n k q xs a) ok2 = visited_before t front s n k ok2
    by_word _ ok2 = refl

-- ---- together

pub licensed_keys_rise : (t : Traced) (ms : List Mark) → Starts t → LicensedMarks t ms → KeysRise (lines_among ms)
licensed_keys_rise t ms s ok = record { rises = rises t ms s ok; promised = last_promised t ms s ok; named = named t ms s ok; one_list = one_list t ms s.sound ok }

pub licensed_entries_agree : (t : Traced) (ms : List Mark) → Starts t → LicensedMarks t ms → EntriesAgree (lines_among ms)
licensed_entries_agree t ms s ok = record {
  one_list = one_entry_list t ms s.sound ok;
  falling = falling t ms s.sound ok;
  entered = entered_once t ms s.sound ok;
  in_view = in_view t ms s ok;
}
