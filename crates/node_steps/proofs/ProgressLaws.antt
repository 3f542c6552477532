-- What a Progress tells once a tick has settled partitions.
use Rattle.std.proofs.Common.{◌≡◌, ◌≢◌, inl, inr, ◌==◌, ◌<◌, ◌+◌, ◌-◌, ◌&&◌, ℕ, suc, Bool, true, false, not, cond, List, [], ◌∷◌, fold, get_or, length, All, AllPairs, count_by, refl, sym, ap, ap₂, ◌∙◌, arith}
use Rattle.std.specs.Prelude.{if◌then◌else◌, Option, Some, None}
use Rattle.std.specs.Option.{ForSome}
use Rattle.std.proofs.lemmas.List.{get_or-set_other, get_or-set_same, length-set}
use Rattle.std.proofs.lemmas.Bool.Decides.{eqb_tells}
use Rattle.std.proofs.lemmas.List.Elements.{All-head, All-tail}
use Rattle.std.proofs.lemmas.List.Sums.{sum_by-cons}
use Rattle.cluster_types.specs.declared.cluster_key.ClusterKey.{ClusterKey}
use Rattle.cluster_types.specs.Members.{ids_of}
use Rattle.cluster_types.specs.Partitions.{partition_count}
use Rattle.cluster_types.specs.Rows.{bit}
use Rattle.partition_lists.proofs.InOrderLaws.{equal, unequal}
use Rattle.wire_messages.specs.declared.message.Message.TheVariants as message
use Rattle.wire_messages.specs.Keys.{IsKeyField}
use Rattle.node_rules.specs.Agreement as agreement
use Rattle.node_rules.specs.Batches.{Targets, done_row, is_pending}
use Rattle.node_rules.specs.Bits.{with_bit}
use Rattle.node_rules.specs.Effects.{nothing, sends_only, to_each}
use Rattle.node_rules.specs.Exchange as exchange
use Rattle.node_rules.specs.Exchange.{Exchange, members_of}
use Rattle.node_rules.specs.Facts.{Facts, list_at}
use Rattle.node_rules.specs.Map.{all_empty}
use Rattle.node_rules.specs.Notes.{handed, settled}
use Rattle.node_rules.specs.Standing.{knows_all_settled, knows_settled, knows_settled_by, others}
use Rattle.node_rules.specs.Tick.{progress, progress_message}
use Rattle.node_rules.proofs.Forms.{done_by}
use Rattle.node_view.specs.declared.here.Settling.{Settling}
use Rattle.node_view.specs.Fits.{AreSettlings}
use Rattle.node_view.specs.Plans.{changed_where, settled_at, settled_by}
use Rattle.node_view.specs.Views.{IsInView, Viewed, viewed_key, unsettled_count}
use Rattle.node_view.proofs.RowLaws.{bits_from_length}
use Rattle.node_view.proofs.SettleLaws.{settles_unsettled}
use Rattle.node_view.proofs.SettledLaws.{none_counted}
use Rattle.node_view.proofs.UnsettledLaws.{alike_within, is_counted, one_settled}
use Rattle.node_steps.proofs.SettledLaws.{settled_batches, settled_keeps, settled_view, kept_where, settled_exchange, settled_me}

-- ---- rows

-- the row with the bits of the partitions that pass the test
abbrev pub row_with : (Settling → Bool) → List Bool → List Settling → List Bool
row_with test row ss = fold (λ r s. if test s then with_bit r s.partition else r) row ss

row_size : (test : Settling → Bool) (row : List Bool) (ss : List Settling) → length (row_with test row ss) ≡ length row
row_size test row [] = refl
row_size test row (s ∷ ss) = row_size test (if test s then with_bit row s.partition else row) ss ∙ one (test s)
  where
    one : (b : Bool) → length (if b then with_bit row s.partition else row) ≡ length row
    one true = length-set row s.partition true
    one false = refl

pub row_whole : (test : Settling → Bool) (row : List Bool) (ss : List Settling) → length row ≡ partition_count → length (row_with test row ss) ≡ 4096
row_whole test row ss size = row_size test row ss ∙ size

pub done_whole : (exchanged : Bool) (ts : Targets) → length (done_row exchanged ts partition_count 0) ≡ 4096
done_whole exchanged ts = bits_from_length (λ p. exchanged && not (is_pending ts p)) partition_count 0

handed_at : (f : Facts) (s : Settling) → (settled_at f s).bits.handed ≡ (if s.hands then with_bit f.bits.handed s.partition else f.bits.handed)
handed_at f s =
    kept_where (λ (g : Facts). g.bits.handed) s.drops _ _ (λ g. refl)
    ∙ (kept_where (λ (g : Facts). g.bits.handed) s.learns _ _ (λ g. refl)
    ∙ (kept_where (λ (g : Facts). g.bits.handed) s.settles _ _ (λ g. refl) ∙ go s.hands))
  where
    go : (b : Bool) → (changed_where b (λ g. handed g s.partition) f).bits.handed ≡ (if b then with_bit f.bits.handed s.partition else f.bits.handed)
    go true = refl
    go false = refl

settled_bits_at : (f : Facts) (s : Settling) → (settled_at f s).bits.settled ≡ (if s.settles then with_bit f.bits.settled s.partition else f.bits.settled)
settled_bits_at f s =
    let g : Facts = changed_where s.hands (λ x. handed x s.partition) f in
    kept_where (λ (x : Facts). x.bits.settled) s.drops _ _ (λ x. refl)
    ∙ (kept_where (λ (x : Facts). x.bits.settled) s.learns _ _ (λ x. refl)
    ∙ (go g s.settles ∙ ap (λ (row : List Bool). if s.settles then with_bit row s.partition else row) (kept_where (λ (x : Facts). x.bits.settled) s.hands _ f (λ x. refl))))
  where
    go : (g : Facts) (b : Bool) → (changed_where b (λ x. settled x s.partition) g).bits.settled ≡ (if b then with_bit g.bits.settled s.partition else g.bits.settled)
    go g true = refl
    go g false = refl

handed_row_is : (f : Facts) (ss : List Settling) → (settled_by f ss).bits.handed ≡ row_with (λ s. s.hands) f.bits.handed ss
handed_row_is f [] = refl
handed_row_is f (s ∷ ss) = handed_row_is (settled_at f s) ss ∙ ap (λ (row : List Bool). row_with (λ s. s.hands) row ss) (handed_at f s)

settled_row_is : (f : Facts) (ss : List Settling) → (settled_by f ss).bits.settled ≡ row_with (λ s. s.settles) f.bits.settled ss
settled_row_is f [] = refl
settled_row_is f (s ∷ ss) = settled_row_is (settled_at f s) ss ∙ ap (λ (row : List Bool). row_with (λ s. s.settles) row ss) (settled_bits_at f s)

-- ---- the message

pub alike_progress : (k l : ClusterKey) (d e a b s t : List Bool) → k ≡ l → d ≡ e → a ≡ b → s ≡ t → message.Progress k true d a s ≡ message.Progress l true e b t
alike_progress k l d e a b s t i j p q = cc

-- it tells of the view, whose rows have the bits of the partitions of this tick
pub progress_of : (f : Facts) (v : Viewed) (ss : List Settling) → IsInView f v
    → message.Progress (viewed_key v) true (done_row v.exchange.exchanged v.batches partition_count 0) (row_with (λ s. s.hands) v.bits.handed ss) (row_with (λ s. s.settles) v.bits.settled ss)
    ≡ progress_message partition_count (settled_by f ss) true
progress_of f v ss h =
    alike_progress _ _ _ _ _ _ _ _
    (ap (λ (g : Facts). exchange.exchange_key g.exchange.view) h.view ∙ ap (λ (x : Exchange). exchange.exchange_key x.view) (sym (settled_view f ss)))
    (ap (λ (g : Facts). done_row g.exchange.exchanged g.batches partition_count 0) h.view
    ∙ ap₂ (λ (x : Exchange) (ts : Targets). done_row x.exchanged ts partition_count 0) (sym (settled_view f ss)) (sym (settled_batches f ss))
    ∙ sym (done_by (settled_by f ss) partition_count 0))
    (ap (λ (g : Facts). row_with (λ s. s.hands) g.bits.handed ss) h.view ∙ sym (handed_row_is f ss))
    (ap (λ (g : Facts). row_with (λ s. s.settles) g.bits.settled ss) h.view ∙ sym (settled_row_is f ss))

pub others_told : (f : Facts) (v : Viewed) (ss : List Settling) → IsInView f v → agreement.others_among v.me (members_of v.exchange.view) ≡ others (settled_by f ss)
others_told f v ss h =
    ap₂ (λ (me : ℕ) (x : Exchange). agreement.others_among me (members_of x.view))
    (sym h.me ∙ sym (settled_keeps (λ (g : Facts). g.me) f ss settled_me))
    (ap (λ (g : Facts). g.exchange) h.view ∙ sym (settled_view f ss))

-- ---- to whom it goes

-- the key has a spelling where it goes to somebody
pub key_to_others : (o : Option exchange.View) (me : ℕ) → (agreement.others_among me (members_of o) ≡ [] → ⊥) → ForSome o (λ w. IsKeyField w.key) → IsKeyField (exchange.exchange_key o)
key_to_others None me some h = absurd (some refl)
key_to_others (Some w) me some h = h w refl

pub none_settled : (n : ℕ) (g : Facts) → knows_all_settled g n 0 ≡ true → progress n g ≡ nothing
none_settled n g h = go g.exchange.exchanged
  where
    go : (b : Bool) → (if b && not (knows_all_settled g n 0) then sends_only (to_each (others g) (progress_message n g true)) else nothing) ≡ nothing
    go true = ap (λ (c : Bool). (if not c then sends_only (to_each (others g) (progress_message n g true)) else nothing)) h
    go false = refl

pub none_alone : (n : ℕ) (g : Facts) → others g ≡ [] → progress n g ≡ nothing
none_alone n g h = go (g.exchange.exchanged && not (knows_all_settled g n 0))
  where
    go : (b : Bool) → (if b then sends_only (to_each (others g) (progress_message n g true)) else nothing) ≡ nothing
    go true = ap (λ (ns : List ℕ). sends_only (to_each ns (progress_message n g true))) h
    go false = refl

pub each_told : (n : ℕ) (f : Facts) (ss : List Settling) → f.exchange.exchanged ≡ true → knows_all_settled (settled_by f ss) n 0 ≡ false
    → progress n (settled_by f ss) ≡ sends_only (to_each (others (settled_by f ss)) (progress_message n (settled_by f ss) true))
each_told n f ss done left =
    ap₂ (λ (b c : Bool). (if b && not c then sends_only (to_each (others (settled_by f ss)) (progress_message n (settled_by f ss) true)) else nothing)) (ap (λ (x : Exchange). x.exchanged) (settled_view f ss) ∙ done) left

-- ---- how many partitions are left

known_by : (f : Facts) (s : Settling) (q : ℕ)
    → knows_settled (settled_at f s) q ≡ knows_settled_by (bit (if s.settles then with_bit f.bits.settled s.partition else f.bits.settled) q) f.exchange.exchanged (all_empty (ids_of (members_of f.exchange.view)) f.exchange.rows q)
known_by f s q =
    ap₂ (λ (row : List Bool) (x : Exchange). knows_settled_by (bit row q) x.exchanged (all_empty (ids_of (members_of x.view)) x.rows q)) (settled_bits_at f s) (settled_exchange f s)

-- another partition is known settled as before
known_elsewhere : (f : Facts) (s : Settling) (q : ℕ) → q ≢ s.partition → knows_settled (settled_at f s) q ≡ knows_settled f q
known_elsewhere f s q other = known_by f s q ∙ go s.settles
  where
    go : (b : Bool) → knows_settled_by (bit (if b then with_bit f.bits.settled s.partition else f.bits.settled) q) f.exchange.exchanged (all_empty (ids_of (members_of f.exchange.view)) f.exchange.rows q) ≡ knows_settled f q
    go true = ap (λ (b : Bool). knows_settled_by b f.exchange.exchanged (all_empty (ids_of (members_of f.exchange.view)) f.exchange.rows q)) (get_or-set_other f.bits.settled s.partition q true false other)
    go false = refl

-- what is settled now isn't known settled, and is one of the partitions
pub record IsLeft (f : Facts) (s : Settling) : Type 0 where
  pub within : s.partition < partition_count
  pub unknown : s.settles ≡ true → knows_settled f s.partition ≡ false

one_fewer_left : (f : Facts) (s : Settling) → length f.bits.settled ≡ partition_count → IsLeft f s → unsettled_count (settled_at f s) + cond s.settles 1 0 ≡ unsettled_count f
one_fewer_left f s size left = go s.settles refl
  where
    known_where : (b : Bool) → s.settles ≡ b → (q : ℕ)
        → knows_settled (settled_at f s) q ≡ knows_settled_by (bit (if b then with_bit f.bits.settled s.partition else f.bits.settled) q) f.exchange.exchanged (all_empty (ids_of (members_of f.exchange.view)) f.exchange.rows q)
    known_where b e q = known_by f s q ∙ ap (λ (c : Bool). knows_settled_by (bit (if c then with_bit f.bits.settled s.partition else f.bits.settled) q) f.exchange.exchanged (all_empty (ids_of (members_of f.exchange.view)) f.exchange.rows q)) e

    fewer : (k n : ℕ) → k ≡ n - 1 → 0 < n → k + 1 ≡ n
    fewer k n e some = omega (arith, e, some)

    go : (b : Bool) → s.settles ≡ b → unsettled_count (settled_at f s) + cond b 1 0 ≡ unsettled_count f
    go true e =
        let before : knows_settled f s.partition ≡ false = left.unknown e in
        let after : knows_settled (settled_at f s) s.partition ≡ true =
        known_where true e s.partition
        ∙ ap (λ (b : Bool). knows_settled_by b f.exchange.exchanged (all_empty (ids_of (members_of f.exchange.view)) f.exchange.rows s.partition))
        (get_or-set_same f.bits.settled s.partition true false (rw size left.within)) in
        fewer (unsettled_count (settled_at f s)) (unsettled_count f)
        (one_settled f (settled_at f s) s.partition left.within before after (known_elsewhere f s))
        (is_counted f s.partition left.within before)
    go false e = plain (unsettled_count (settled_at f s)) ∙ alike_within f (settled_at f s) (λ q inside. known_where false e q)
      where
        plain : (k : ℕ) → k + 0 ≡ k
        plain k = omega arith

size_kept : (f : Facts) (s : Settling) → length (settled_at f s).bits.settled ≡ length f.bits.settled
size_kept f s = ap length (settled_bits_at f s) ∙ go s.settles
  where
    go : (b : Bool) → length (if b then with_bit f.bits.settled s.partition else f.bits.settled) ≡ length f.bits.settled
    go true = length-set f.bits.settled s.partition true
    go false = refl

-- those that aren't known settled before the tick are left afterwards, or are settled now
settled_left : (f : Facts) (ss : List Settling) → length f.bits.settled ≡ partition_count → AllPairs (λ a b. a.partition < b.partition) ss → All (IsLeft f) ss
    → unsettled_count (settled_by f ss) + count_by (λ s. s.settles) ss ≡ unsettled_count f
settled_left f [] size rise left = plain (unsettled_count f)
  where
    plain : (k : ℕ) → k + 0 ≡ k
    plain k = omega arith
settled_left f (s ∷ ss) size rise left =
    together (unsettled_count (settled_by (settled_at f s) ss)) (count_by (λ (t : Settling). t.settles) ss) (unsettled_count (settled_at f s)) (unsettled_count f) (count_by (λ (t : Settling). t.settles) (s ∷ ss)) (cond s.settles 1 0)
    (settled_left (settled_at f s) ss (size_kept f s ∙ size) (λ i j d before within. rise (suc i) (suc j) d (omega (arith, before)) (omega (arith, within))) later)
    (one_fewer_left f s size (All-head (IsLeft f) s ss left))
    (sum_by-cons (λ (t : Settling). cond t.settles 1 0) s ss)
  where
    together : (a c k n m b : ℕ) → a + c ≡ k → k + b ≡ n → m ≡ b + c → a + m ≡ n
    together a c k n m b e i j = omega (arith, e, i, j)

    later : All (IsLeft (settled_at f s)) ss
    later i d within =
        let t : Settling = get_or ss i d in
        let one : IsLeft f t = All-tail (IsLeft f) s ss left i d within in
        let apart : t.partition ≢ s.partition = λ e. omega (arith, e, rise 0 (suc i) d (omega arith) (omega (arith, within))) in
        record { within = one.within; unknown = λ e. known_elsewhere f s t.partition apart ∙ one.unknown e }

are_left : (f : Facts) (ss : List Settling) → AreSettlings f ss → All (λ s. s.partition < partition_count) ss → All (IsLeft f) ss
are_left f ss due within i d inside =
    let s : Settling = get_or ss i d in
    record {
      within = within i d inside;
      unknown = λ e. settles_unsettled f (list_at f s.partition) s.partition (sym (ap (λ (t : Settling). t.settles) (due.each i d inside)) ∙ e);
    }

-- none is left where as many go as there were
counted_out : (k n m : ℕ) → k + m ≡ n → (n == m) ≡ (k == 0)
counted_out k n m e = elim (eqb_tells k 0) [
  | inl none ↦ equal n m (omega (arith, e, none.1)) ∙ sym none.0
  | inr some ↦ unequal n m (λ (i : n ≡ m). some.1 (omega (arith, e, i))) ∙ sym some.0
]

-- all are known settled then where this tick settles as many as weren't
all_settled : (f : Facts) (ss : List Settling) (left now : ℕ) → length f.bits.settled ≡ partition_count → AreSettlings f ss → All (λ s. s.partition < partition_count) ss
    → left ≡ unsettled_count f → now ≡ count_by (λ s. s.settles) ss → (left == now) ≡ knows_all_settled (settled_by f ss) partition_count 0
all_settled f ss left now size due within is counted =
    counted_out (unsettled_count (settled_by f ss)) left now
    (ap (λ (k : ℕ). unsettled_count (settled_by f ss) + k) counted ∙ settled_left f ss size due.rise (are_left f ss due within) ∙ sym is)
    ∙ none_counted (settled_by f ss) partition_count 0

pub settled_now : (f : Facts) (ss : List Settling) (left now : ℕ) → length f.bits.settled ≡ partition_count → AreSettlings f ss → All (λ s. s.partition < partition_count) ss
    → left ≡ unsettled_count f → now ≡ count_by (λ s. s.settles) ss → left ≡ now → knows_all_settled (settled_by f ss) partition_count 0 ≡ true
settled_now f ss left now size due within is counted same = sym (all_settled f ss left now size due within is counted) ∙ equal left now same

pub some_left : (f : Facts) (ss : List Settling) (left now : ℕ) → length f.bits.settled ≡ partition_count → AreSettlings f ss → All (λ s. s.partition < partition_count) ss
    → left ≡ unsettled_count f → now ≡ count_by (λ s. s.settles) ss → left ≢ now → knows_all_settled (settled_by f ss) partition_count 0 ≡ false
some_left f ss left now size due within is counted differ = sym (all_settled f ss left now size due within is counted) ∙ unequal left now differ
