-- How many writes a copy has had, in the picture and by a reader: kept by each line.
use Rattle.std.proofs.Common.{◌≡◌, ℕ, ◌+◌, ◌==◌, Bool, true, false, cond, not, ◌&&◌, List, [], ◌∷◌, ◌++◌, length, Option, Some, None, option_map, slice_get, refl, sym, ap, ap₂, subst, subst₂, ◌∙◌, arith}
use Rattle.std.specs.Prelude.{filter_map, count_by, option_and_then, nat_le}
use Rattle.std.specs.List.{cons_option}
use Rattle.conflict_order.specs.declared.version.Version.{Version}
use Rattle.cluster_types.specs.declared.cluster_key.ClusterKey.{ClusterKey}
use Rattle.cluster_types.specs.Partitions.{partition_of}
use Rattle.cluster_types.specs.ClusterKeys.{same_key}
use Rattle.partition_lists.proofs.InOrderLaws.{counts_one, counts_none}
use Rattle.partition_lists.specs.Counts.{with_number}
use Rattle.wire_messages.specs.declared.message.Message.{Message}
use Rattle.wire_messages.specs.declared.message.Message.TheVariants as message
use Rattle.wire_messages.specs.declared.message.Batch.{Batch}
use Rattle.wire_messages.specs.Decoding.{message_of}
use Rattle.journal_lines.specs.declared.line.Line.{Line}
use Rattle.journal_lines.specs.declared.line.Line.TheVariants as line
use Rattle.journal_readings.specs.Messages.{Posting, Arrival, posted, posting_of, arrived, arrival, message_between}
use Rattle.journal_readings.specs.Views.{is_in_view}
use Rattle.journal_readings.specs.Counts.{is_apply_in, repl_number, with_new_number, heard_numbers}
use Rattle.journal_readings.proofs.StepLaws.{heard_numbers-more}
use Rattle.cluster_laws.specs.Ground as ground
use Rattle.cluster_laws.specs.Ground.{Ground}
use Rattle.cluster_laws.specs.Stay.{Running, Stay}
use Rattle.cluster_laws.specs.Picture.{Packet, Picture}
use Rattle.cluster_laws.specs.Effect.{Effect, Nothing, Row_came, Batch_acked, Told, Write_came, Write_acked, Answered, effect_if, is_view_key, batch_ack, write_ack, answer_effect, comes, comes_if, arrives, arrives_cut}
use Rattle.cluster_laws.specs.Changes.{act, sends_message, heard, hearing}
use Rattle.cluster_laws.specs.Licences.{Ok, picture_after}
use Rattle.cluster_laws.specs.Journals.{IsFor, FitsGround}
use Rattle.cluster_laws.proofs.At.{numbers, changed_either, number_same, number_here, key_same, and_left, and_right, and_both, differ, no_some}
use Rattle.cluster_laws.proofs.All.{Sound}
use Rattle.cluster_laws.proofs.ReadingFrames.{stay_kept, IsMessage, arrives_message, arrives_cut_message}
use Rattle.cluster_laws.proofs.ReadingSteps.{Views_tied, fresh_stay}
use Rattle.cluster_laws.proofs.ReadingViews.{stay_cases}
use Rattle.cluster_laws.proofs.ReadingNumbers.{SameNumbers, one_number}

-- ---- messages that were sent

abbrev pub packet_of : Posting → Packet
packet_of x = record { from = x.from; to = x.to; size = length x.bytes; message = message_of x.bytes }

abbrev pub Posts_tied : List Line → Picture → Type 0
Posts_tied j w = (i : ℕ) → w.packet i ≡ option_map packet_of (posted i j)

abbrev or_first : {A : Type 0} → Option A → Option A → Option A
or_first None y = y
or_first (Some x) y = Some x

posted-more : (i : ℕ) (j : List Line) (l : Line) → posted i (j ++ l ∷ []) ≡ or_first (posted i j) (posting_of i l)
unfolding posted
posted-more i [] l = go (posting_of i l)
  where
    go : (o : Option Posting) → slice_get (cons_option o []) 0 ≡ o
    go None = refl
    go (Some x) = refl
posted-more i (x ∷ j) l = go (posting_of i x) (posted-more i j l)
  where
    go : (o : Option Posting) → slice_get (filter_map (posting_of i) (j ++ l ∷ [])) 0 ≡ or_first (slice_get (filter_map (posting_of i) j) 0) (posting_of i l)
        → slice_get (cons_option o (filter_map (posting_of i) (j ++ l ∷ []))) 0 ≡ or_first (slice_get (cons_option o (filter_map (posting_of i) j)) 0) (posting_of i l)
    go None rest = rest
    go (Some y) rest = refl

or_first-none : {A : Type 0} (o : Option A) → or_first o None ≡ o
or_first-none None = refl
or_first-none (Some x) = refl

unposted : (o : Option Posting) → None ≡ option_map packet_of o → o ≡ None
unposted None e = refl
unposted (Some x) e = no_some e

message_packet : (G : Ground) (w : Picture) (e : Effect) → IsMessage e → (act G e w).packet ≡ w.packet
message_packet G w Nothing h = refl
message_packet G w (Row_came n k from) h = refl
message_packet G w (Batch_acked n k from b) h = refl
message_packet G w (Told n k from done handed settled) h = refl
message_packet G w (Write_came n k from nth d v) h = refl
message_packet G w (Write_acked n k from t y) h = refl
message_packet G w (Answered n k from t v y) h = refl
message_packet G w _ h = absurd h

same_posts : (j : List Line) (w v : Picture) (l : Line) → v.packet ≡ w.packet → ((i : ℕ) → posting_of i l ≡ None) → Posts_tied j w → Posts_tied (j ++ l ∷ []) v
same_posts j w v l e none h i = ap (λ (f : ℕ → Option Packet). f i) e ∙ (h i ∙ sym (ap (option_map packet_of) (posted-more i j l ∙ (ap (or_first (posted i j)) (none i) ∙ or_first-none (posted i j)))))

pub posts_tied : (G : Ground) (j : List Line) (w : Picture) (l : Line) → Ok G w l → Posts_tied j w → Posts_tied (j ++ l ∷ []) (picture_after G w l)
posts_tied G j w (line.Sent m a b bytes) ok h i = go (m == i) refl ∙ sym (ap (option_map packet_of) (posted-more i j (line.Sent m a b bytes)))
  where
    x : Posting
    x = record { from = a; to = b; bytes = bytes }

    go : (c : Bool) → (m == i) ≡ c → cond c (Some (packet_of x)) (w.packet i) ≡ option_map packet_of (or_first (posted i j) (cond c (Some x) None))
    go true e = sym (ap (λ (o : Option Posting). option_map packet_of (or_first o (Some x))) (unposted (posted i j) (sym (ap w.packet (sym (number_same m i e)) ∙ ok.1.0) ∙ h i)))
    go false e = h i ∙ sym (ap (option_map packet_of) (or_first-none (posted i j)))
posts_tied G j w (line.Deliver m a b) ok h i = same_posts j w (picture_after G w (line.Deliver m a b)) (line.Deliver m a b) (message_packet G w (arrives w (w.packet m)) (arrives_message w (w.packet m))) (λ z. refl) h i
posts_tied G j w (line.Repeat m a b) ok h i = same_posts j w (picture_after G w (line.Repeat m a b)) (line.Repeat m a b) (message_packet G w (arrives w (w.packet m)) (arrives_message w (w.packet m))) (λ z. refl) h i
posts_tied G j w (line.Cut m a b size) ok h i = same_posts j w (picture_after G w (line.Cut m a b size)) (line.Cut m a b size) (message_packet G w (arrives_cut w size (w.packet m)) (arrives_cut_message w size (w.packet m))) (λ z. refl) h i
posts_tied G j w l ok h i = same_posts j w (picture_after G w l) l refl (λ z. refl) h i

-- ---- what no line but a write and an arrival changes

abbrev pub tally : Stay → (ℕ → ℕ) × (ℕ → List ℕ)
tally s = (s.applies, s.numbers)

abbrev pub KeepsTally : Line → Type 0
KeepsTally (line.Apply n k t d v) = ⊥
KeepsTally (line.Deliver i a b) = ⊥
KeepsTally (line.Repeat i a b) = ⊥
KeepsTally (line.Cut i a b size) = ⊥
KeepsTally _ = Unit {0}

sends_tally : (m r : ℕ) (o : Option Message) (stay : ℕ → ClusterKey → Stay) (n : ℕ) (k : ClusterKey) → tally (sends_message m r o stay n k) ≡ tally (stay n k)
sends_tally m r None stay n k = refl
sends_tally m r (Some (message.Batch b)) stay n k = stay_kept tally stay m b.key _ n k refl
sends_tally m r (Some x) stay n k = refl

tally_kept : (G : Ground) (w : Picture) (l : Line) → Sound G w → Ok G w l → KeepsTally l → (n : ℕ) (k : ClusterKey) → tally ((picture_after G w l).stay n k) ≡ tally (w.stay n k)
tally_kept G w (line.Apply m l t d v) s ok h n k = absurd h
tally_kept G w (line.Deliver i a b) s ok h n k = absurd h
tally_kept G w (line.Repeat i a b) s ok h n k = absurd h
tally_kept G w (line.Cut i a b size) s ok h n k = absurd h
tally_kept G w (line.Enter m l ms) s ok h n k = stay_kept tally w.stay m l _ n k (sym (ap tally (fresh_stay G w s m l ok.1.1)))
tally_kept G w (line.Exchanged m l) s ok h n k = stay_kept tally w.stay m l _ n k refl
tally_kept G w (line.Opened m l t d a) s ok h n k = stay_kept tally w.stay m l _ n k refl
tally_kept G w (line.Value m l t d v) s ok h n k = stay_kept tally w.stay m l _ n k refl
tally_kept G w (line.Done m l t) s ok h n k = stay_kept tally w.stay m l _ n k refl
tally_kept G w (line.Aborted m l t) s ok h n k = stay_kept tally w.stay m l _ n k refl
tally_kept G w (line.Doubt m l t) s ok h n k = stay_kept tally w.stay m l _ n k refl
tally_kept G w (line.Merge m l d v) s ok h n k = stay_kept tally w.stay m l _ n k refl
tally_kept G w (line.Handed m l p) s ok h n k = stay_kept tally w.stay m l _ n k refl
tally_kept G w (line.Settled m l p) s ok h n k = stay_kept tally w.stay m l _ n k refl
tally_kept G w (line.Sent i a b bytes) s ok h n k = sends_tally a b (message_of bytes) w.stay n k
tally_kept G w l s ok h n k = refl

-- ---- own writes

count-first : {A : Type 0} (test : A → Bool) (y : A) (xs : List A) → count_by test (y ∷ xs) ≡ cond (test y) 1 0 + count_by test xs
count-first {A} test y xs = go (test y) refl
  where
    go : (b : Bool) → test y ≡ b → count_by test (y ∷ xs) ≡ cond b 1 0 + count_by test xs
    go true i = counts_one test y xs i
    go false i = omega (arith, counts_none test y xs i)

count-sum : {A : Type 0} (test : A → Bool) (xs : List A) (x : A) → count_by test (xs ++ x ∷ []) ≡ cond (test x) 1 0 + count_by test xs
count-sum test [] x = omega arith
count-sum test (y ∷ xs) x = omega (arith, count-first test y xs, count-first test y (xs ++ x ∷ []), count-sum test xs x)

one_more : (b : Bool) (n : ℕ) → cond b 1 0 + n ≡ cond b (1 + n) n
one_more true n = refl
one_more false n = omega arith

count-more : {A : Type 0} (test : A → Bool) (xs : List A) (x : A) → count_by test (xs ++ x ∷ []) ≡ cond (test x) (1 + count_by test xs) (count_by test xs)
count-more test xs x = count-sum test xs x ∙ one_more (test x) (count_by test xs)

abbrev pub Applies_tied : List Line → Picture → Type 0
Applies_tied j w = (n : ℕ) (k : ClusterKey) (p : ℕ) → count_by (is_apply_in k n p) j ≡ (w.stay n k).applies p

message_applies : (G : Ground) (w : Picture) (e : Effect) → IsMessage e → (n : ℕ) (k : ClusterKey) → ((act G e w).stay n k).applies ≡ (w.stay n k).applies
message_applies G w Nothing h n k = refl
message_applies G w (Row_came m l from) h n k = stay_kept (λ (s : Stay). s.applies) w.stay m l _ n k refl
message_applies G w (Batch_acked m l from b) h n k = stay_kept (λ (s : Stay). s.applies) w.stay m l _ n k refl
message_applies G w (Told m l from done handed settled) h n k = stay_kept (λ (s : Stay). s.applies) w.stay m l _ n k refl
message_applies G w (Write_came m l from nth d v) h n k = stay_kept (λ (s : Stay). s.applies) w.stay m l _ n k refl
message_applies G w (Write_acked m l from t y) h n k = stay_kept (λ (s : Stay). s.applies) w.stay m l _ n k refl
message_applies G w (Answered m l from t v y) h n k = stay_kept (λ (s : Stay). s.applies) w.stay m l _ n k refl
message_applies G w _ h n k = absurd h

same_applies : (j : List Line) (w v : Picture) (l : Line) → ((n : ℕ) (k : ClusterKey) → (v.stay n k).applies ≡ (w.stay n k).applies) → ((n : ℕ) (k : ClusterKey) (p : ℕ) → is_apply_in k n p l ≡ false) → Applies_tied j w → Applies_tied (j ++ l ∷ []) v
same_applies j w v l e none h n k p = count-more (is_apply_in k n p) j l ∙ (ap (λ (b : Bool). cond b (1 + count_by (is_apply_in k n p) j) (count_by (is_apply_in k n p) j)) (none n k p) ∙ (h n k p ∙ sym (ap (λ (f : ℕ → ℕ). f p) (e n k))))

pub applies_tied : (G : Ground) (j : List Line) (w : Picture) (l : Line) → Sound G w → Ok G w l → Applies_tied j w → Applies_tied (j ++ l ∷ []) (picture_after G w l)
applies_tied G j w (line.Apply m l t e v) s ok h n k p = count-more (is_apply_in k n p) j (line.Apply m l t e v) ∙ stay_cases (λ (z : Stay). cond ((m == n) && (same_key l k && (partition_of e == p))) (1 + x) x ≡ z.applies p) w.stay m l _ n k
    (λ i q. changed_either numbers (λ (a : ℕ). cond ((m == n) && (same_key l k && (partition_of e == p))) (1 + x) x ≡ a) (w.stay m l).applies (partition_of e) _ p
    (λ y. ap (λ (b : Bool). cond b (1 + x) x) (both i q y) ∙ omega (arith, old i q, ap (w.stay m l).applies y))
    (λ y. ap (λ (b : Bool). cond b (1 + x) x) (off (λ _ _ z. y z)) ∙ old i q))
    (λ apart. ap (λ (b : Bool). cond b (1 + x) x) (off (λ i q _. apart i q)) ∙ h n k p)
  where
    x : ℕ
    x = count_by (is_apply_in k n p) j

    old : m ≡ n → l ≡ k → x ≡ (w.stay m l).applies p
    old i q = h n k p ∙ subst₂ (λ (a : ℕ) (b : ClusterKey). (w.stay a b).applies p ≡ (w.stay m l).applies p) i q refl

    both : m ≡ n → l ≡ k → partition_of e ≡ p → ((m == n) && (same_key l k && (partition_of e == p))) ≡ true
    both i q y = and_both (m == n) (same_key l k && (partition_of e == p)) (subst (λ (a : ℕ). (m == a) ≡ true) i (number_here m))
        (and_both (same_key l k) (partition_of e == p) (subst (λ (a : ClusterKey). same_key l a ≡ true) q (Rattle.cluster_laws.proofs.At.keys.here l)) (subst (λ (a : ℕ). (partition_of e == a) ≡ true) y (number_here (partition_of e))))

    off : (m ≡ n → l ≡ k → partition_of e ≡ p → ⊥) → ((m == n) && (same_key l k && (partition_of e == p))) ≡ false
    off apart = go (m == n) (same_key l k) (partition_of e == p) refl refl refl
      where
        go : (a b c : Bool) → (m == n) ≡ a → same_key l k ≡ b → (partition_of e == p) ≡ c → (a && (b && c)) ≡ false
        go true true true i q y = absurd (apart (number_same m n i) (key_same l k q) (number_same (partition_of e) p y))
        go true true false i q y = refl
        go true false c i q y = refl
        go false b c i q y = refl
applies_tied G j w (line.Deliver i a b) s ok h n k p = same_applies j w (picture_after G w (line.Deliver i a b)) (line.Deliver i a b) (message_applies G w (arrives w (w.packet i)) (arrives_message w (w.packet i))) (λ x y z. refl) h n k p
applies_tied G j w (line.Repeat i a b) s ok h n k p = same_applies j w (picture_after G w (line.Repeat i a b)) (line.Repeat i a b) (message_applies G w (arrives w (w.packet i)) (arrives_message w (w.packet i))) (λ x y z. refl) h n k p
applies_tied G j w (line.Cut i a b size) s ok h n k p = same_applies j w (picture_after G w (line.Cut i a b size)) (line.Cut i a b size) (message_applies G w (arrives_cut w size (w.packet i)) (arrives_cut_message w size (w.packet i))) (λ x y z. refl) h n k p
applies_tied G j w l s ok h n k p = same_applies j w (picture_after G w l) l (λ x y. ap (λ (z : (ℕ → ℕ) × (ℕ → List ℕ)). z.0) (tally_kept G w l s ok tt x y)) (λ x y z. refl) h n k p

-- ---- the list master's writes

-- a number that was heard, if one was
abbrev hear : Option ℕ → List ℕ → List ℕ
hear None ys = ys
hear (Some x) ys = with_number ys x

-- what the picture hears of a message of a write
abbrev hears : Bool → Bool → Bool → Bool → ℕ → List ℕ → List ℕ
hears v a b c nth ys = cond v (hear (cond (a && b) (cond c (Some nth) None) None) ys) ys

hears_it : (v a b c : Bool) (nth : ℕ) (ys : List ℕ) → v ≡ true → b ≡ true → c ≡ true → heard a ys nth ≡ hears v a b c nth ys
hears_it true true true true nth ys x y z = refl
hears_it true false true true nth ys x y z = refl
hears_it false a b c nth ys x y z = cc
hears_it true a false c nth ys x y z = cc
hears_it true a true false nth ys x y z = cc

hears_not : (v a b c : Bool) (nth : ℕ) (ys : List ℕ) → (v ≡ true → b ≡ true → c ≡ true → ⊥) → ys ≡ hears v a b c nth ys
hears_not false a b c nth ys h = refl
hears_not true false b c nth ys h = refl
hears_not true true false c nth ys h = refl
hears_not true true true false nth ys h = refl
hears_not true true true true nth ys h = absurd (h refl refl refl)

-- it isn't the arrival of a write
abbrev IsOther : Effect → Type 0
IsOther Nothing = Unit {0}
IsOther (Row_came n k from) = Unit {0}
IsOther (Batch_acked n k from b) = Unit {0}
IsOther (Told n k from done handed settled) = Unit {0}
IsOther (Write_acked n k from t y) = Unit {0}
IsOther (Answered n k from t v y) = Unit {0}
IsOther _ = ⊥

other_numbers : (G : Ground) (w : Picture) (e : Effect) → IsOther e → (n : ℕ) (k : ClusterKey) → ((act G e w).stay n k).numbers ≡ (w.stay n k).numbers
other_numbers G w Nothing h n k = refl
other_numbers G w (Row_came m l from) h n k = stay_kept (λ (s : Stay). s.numbers) w.stay m l _ n k refl
other_numbers G w (Batch_acked m l from b) h n k = stay_kept (λ (s : Stay). s.numbers) w.stay m l _ n k refl
other_numbers G w (Told m l from done handed settled) h n k = stay_kept (λ (s : Stay). s.numbers) w.stay m l _ n k refl
other_numbers G w (Write_acked m l from t y) h n k = stay_kept (λ (s : Stay). s.numbers) w.stay m l _ n k refl
other_numbers G w (Answered m l from t v y) h n k = stay_kept (λ (s : Stay). s.numbers) w.stay m l _ n k refl
other_numbers G w _ h n k = absurd h

if_other : (e : Effect) (b : Bool) → IsOther e → IsOther (effect_if e b)
if_other e true h = h
if_other e false h = tt

batch_other : (n : ℕ) (k : ClusterKey) (from number : ℕ) (o : Option Batch) → IsOther (batch_ack n k from number o)
batch_other n k from number None = tt
batch_other n k from number (Some b) = if_other (Batch_acked n k from b) (b.number == number) tt

write_other : (n : ℕ) (k : ClusterKey) (from t : ℕ) (o : Option Running) → IsOther (write_ack n k from t o)
write_other n k from t None = tt
write_other n k from t (Some y) = if_other (Write_acked n k from t y) (Rattle.std.specs.Prelude.is_some y.applied && Rattle.cluster_types.specs.Distinct.contains y.awaiting from) tt

answer_other : (n : ℕ) (k : ClusterKey) (from t : ℕ) (v : Option Version) (o : Option Running) → IsOther (answer_effect n k from t v o)
answer_other n k from t v None = tt
answer_other n k from t v (Some y) = if_other (Answered n k from t v y) (not (Rattle.std.specs.Prelude.is_some y.applied) && Rattle.cluster_types.specs.Distinct.contains y.awaiting from) tt

-- what a message that came adds
abbrev heard_of : Ground → Picture → ℕ → ℕ → Message → ℕ → ClusterKey → ℕ → List ℕ → List ℕ
heard_of G w to from m n k p ys = cond (is_view_key (w.node n).view k) (hear (cond ((from == ground.view_master G k p) && (to == n)) (repl_number k p m) None) ys) ys

nothing_heard : (v b : Bool) (ys : List ℕ) → ys ≡ cond v (hear (cond b None None) ys) ys
nothing_heard true true ys = refl
nothing_heard true false ys = refl
nothing_heard false b ys = refl

other_heard : (G : Ground) (w : Picture) (e : Effect) (to from n : ℕ) (k : ClusterKey) (p : ℕ) → IsOther e → ((act G e w).stay n k).numbers p ≡ cond (is_view_key (w.node n).view k) (hear (cond ((from == ground.view_master G k p) && (to == n)) None None) ((w.stay n k).numbers p)) ((w.stay n k).numbers p)
other_heard G w e to from n k p h = ap (λ (f : ℕ → List ℕ). f p) (other_numbers G w e h n k) ∙ nothing_heard (is_view_key (w.node n).view k) ((from == ground.view_master G k p) && (to == n)) ((w.stay n k).numbers p)

write_heard : (G : Ground) (w : Picture) (to from : ℕ) (l : ClusterKey) (nth : ℕ) (d : List ℕ) (u : Version) (n : ℕ) (k : ClusterKey) (p : ℕ)
    → ((act G (effect_if (Write_came to l from nth d u) (is_view_key (w.node to).view l)) w).stay n k).numbers p ≡ hears (is_view_key (w.node n).view k) (from == ground.view_master G k p) (to == n) (same_key l k && (partition_of d == p)) nth ((w.stay n k).numbers p)
write_heard G w to from l nth d u n k p = go (is_view_key (w.node to).view l) refl
  where
    q : ℕ
    q = partition_of d

    ys : List ℕ
    ys = (w.stay n k).numbers p

    goal : List ℕ → Type 0
    goal zs = zs ≡ hears (is_view_key (w.node n).view k) (from == ground.view_master G k p) (to == n) (same_key l k && (q == p)) nth ys

    off : (is_view_key (w.node n).view k ≡ true → to ≡ n → l ≡ k → q ≡ p → ⊥) → goal ys
    off h = hears_not (is_view_key (w.node n).view k) (from == ground.view_master G k p) (to == n) (same_key l k && (q == p)) nth ys
        (λ v b c. h v (number_same to n b) (key_same l k (and_left (same_key l k) (q == p) c)) (number_same q p (and_right (same_key l k) (q == p) c)))

    base : is_view_key (w.node to).view l ≡ true → heard (from == ground.view_master G l q) ((w.stay to l).numbers q) nth
        ≡ hears (is_view_key (w.node to).view l) (from == ground.view_master G l q) (to == to) (same_key l l && (q == q)) nth ((w.stay to l).numbers q)
    base v = hears_it (is_view_key (w.node to).view l) (from == ground.view_master G l q) (to == to) (same_key l l && (q == q)) nth ((w.stay to l).numbers q) v (number_here to)
        (and_both (same_key l l) (q == q) (Rattle.cluster_laws.proofs.At.keys.here l) (number_here q))

    here : is_view_key (w.node to).view l ≡ true → to ≡ n → l ≡ k → q ≡ p → goal (heard (from == ground.view_master G l q) ((w.stay to l).numbers q) nth)
    here v i e z = subst (λ (a : ℕ). heard (from == ground.view_master G l q) ((w.stay to l).numbers q) nth ≡ hears (is_view_key (w.node n).view k) (from == ground.view_master G k a) (to == n) (same_key l k && (q == a)) nth ((w.stay n k).numbers a)) z
        (subst₂ (λ (a : ℕ) (b : ClusterKey). heard (from == ground.view_master G l q) ((w.stay to l).numbers q) nth ≡ hears (is_view_key (w.node a).view b) (from == ground.view_master G b q) (to == a) (same_key l b && (q == q)) nth ((w.stay a b).numbers q)) i e (base v))

    go : (b : Bool) → is_view_key (w.node to).view l ≡ b → goal (((act G (effect_if (Write_came to l from nth d u) b) w).stay n k).numbers p)
    go false v = off (λ x i e z. differ x (subst₂ (λ (a : ℕ) (b : ClusterKey). is_view_key (w.node a).view b ≡ false) i e v))
    go true v = stay_cases (λ (s : Stay). goal (s.numbers p)) w.stay to l (hearing G l from nth q (w.stay to l)) n k
        (λ i e. changed_either numbers goal (w.stay to l).numbers q (heard (from == ground.view_master G l q) ((w.stay to l).numbers q) nth) p (here v i e)
        (λ y. subst₂ (λ (a : ℕ) (b : ClusterKey). goal ((w.stay a b).numbers p)) (sym i) (sym e) (off (λ _ _ _ z. y z))))
        (λ apart. off (λ _ i e _. apart i e))

comes_heard : (G : Ground) (w : Picture) (to from : ℕ) (m : Message) (n : ℕ) (k : ClusterKey) (p : ℕ) → ((act G (comes w to from m) w).stay n k).numbers p ≡ heard_of G w to from m n k p ((w.stay n k).numbers p)
comes_heard G w to from (message.Repl l t nth d u) n k p = write_heard G w to from l nth d u n k p
comes_heard G w to from (message.State l wants row) n k p = other_heard G w (comes w to from (message.State l wants row)) to from n k p (if_other (Row_came to l from) (is_view_key (w.node to).view l) tt)
comes_heard G w to from (message.BatchAck l number) n k p = other_heard G w (comes w to from (message.BatchAck l number)) to from n k p (if_other (batch_ack to l from number ((w.stay to l).out from)) (is_view_key (w.node to).view l) (batch_other to l from number ((w.stay to l).out from)))
comes_heard G w to from (message.Progress l wants done handed settled) n k p = other_heard G w (comes w to from (message.Progress l wants done handed settled)) to from n k p (if_other (Told to l from done handed settled) (is_view_key (w.node to).view l) tt)
comes_heard G w to from (message.ReplAck l t) n k p = other_heard G w (comes w to from (message.ReplAck l t)) to from n k p (if_other (write_ack to l from t ((w.stay to l).running t)) (is_view_key (w.node to).view l) (write_other to l from t ((w.stay to l).running t)))
comes_heard G w to from (message.Answer l t v) n k p = other_heard G w (comes w to from (message.Answer l t v)) to from n k p (if_other (answer_effect to l from t v ((w.stay to l).running t)) (is_view_key (w.node to).view l) (answer_other to l from t v ((w.stay to l).running t)))
comes_heard G w to from m n k p = other_heard G w Nothing to from n k p tt

abbrev pub Heard_tied : Ground → List Line → Picture → Type 0
Heard_tied G j w = (n : ℕ) (k : ClusterKey) (p : ℕ) → SameNumbers (heard_numbers k n p (ground.view_master G k p) j) ((w.stay n k).numbers p)

-- the two add alike
added : (v : Bool) (o : Option ℕ) (xs ys : List ℕ) → SameNumbers xs ys → SameNumbers (cond v (with_new_number o xs) xs) (cond v (hear o ys) ys)
added false o xs ys h = h
added true None xs ys h = h
added true (Some x) xs ys h = one_number xs ys x h

between_is : (b : Bool) (k : ClusterKey) (p : ℕ) (m : Message) → option_and_then (repl_number k p) (cond b (Some m) None) ≡ cond b (repl_number k p m) None
between_is true k p m = refl
between_is false k p m = refl

-- a message that arrives where it was sent to
came_tied : (G : Ground) (j : List Line) (w : Picture) (l : Line) → Views_tied j w → Heard_tied G j w → (to from : ℕ) (m : Message) → arrival j l ≡ Some (record { from = from; to = to; message = m })
    → (n : ℕ) (k : ClusterKey) (p : ℕ) → SameNumbers (heard_numbers k n p (ground.view_master G k p) (j ++ l ∷ [])) (((act G (comes w to from m) w).stay n k).numbers p)
came_tied G j w l vs h to from m e n k p = subst₂ SameNumbers (sym reading) (sym (comes_heard G w to from m n k p))
    (added (is_view_key (w.node n).view k) (cond ((from == ground.view_master G k p) && (to == n)) (repl_number k p m) None) (heard_numbers k n p (ground.view_master G k p) j) ((w.stay n k).numbers p) (h n k p))
  where
    xs : List ℕ
    xs = heard_numbers k n p (ground.view_master G k p) j

    reading : heard_numbers k n p (ground.view_master G k p) (j ++ l ∷ []) ≡ cond (is_view_key (w.node n).view k) (with_new_number (cond ((from == ground.view_master G k p) && (to == n)) (repl_number k p m) None) xs) xs
    reading = heard_numbers-more k n p (ground.view_master G k p) j l
        ∙ ap₂ (λ (b : Bool) (o : Option ℕ). cond b (with_new_number o xs) xs) (ap (λ (o : Option ClusterKey). is_view_key o k) (vs n))
        (ap (λ (o : Option Arrival). option_and_then (repl_number k p) (option_and_then (message_between (ground.view_master G k p) n) o)) e ∙ between_is ((from == ground.view_master G k p) && (to == n)) k p m)

-- no message arrives
none_tied : (G : Ground) (j : List Line) (w v : Picture) (l : Line) → Heard_tied G j w → arrival j l ≡ None → ((n : ℕ) (k : ClusterKey) → (v.stay n k).numbers ≡ (w.stay n k).numbers) → Heard_tied G (j ++ l ∷ []) v
none_tied G j w v l h e same n k p = subst₂ SameNumbers (sym reading) (sym (ap (λ (f : ℕ → List ℕ). f p) (same n k))) (h n k p)
  where
    xs : List ℕ
    xs = heard_numbers k n p (ground.view_master G k p) j

    either : (b : Bool) → cond b xs xs ≡ xs
    either true = refl
    either false = refl

    reading : heard_numbers k n p (ground.view_master G k p) (j ++ l ∷ []) ≡ xs
    reading = heard_numbers-more k n p (ground.view_master G k p) j l
        ∙ (ap (λ (o : Option Arrival). cond (is_in_view k n j) (with_new_number (option_and_then (repl_number k p) (option_and_then (message_between (ground.view_master G k p) n) o)) xs) xs) e ∙ either (is_in_view k n j))

-- the effect of a message that was sent, where the test lets it through
abbrev by_posting : Picture → (Posting → Bool) → Option Posting → Effect
by_posting w cut None = Nothing
by_posting w cut (Some x) = effect_if (comes_if w x.to x.from (message_of x.bytes)) (cut x)

arrival_tied : (G : Ground) (j : List Line) (w : Picture) (l : Line) → Views_tied j w → Heard_tied G j w → (b : ℕ) (cut : Posting → Bool) (o : Option Posting) → ((p : Packet) → option_map packet_of o ≡ Some p → p.to ≡ b)
    → arrival j l ≡ option_and_then (λ x. cond (cut x) (arrived b x) None) o → (e : Effect) → e ≡ by_posting w cut o → Heard_tied G (j ++ l ∷ []) (act G e w)
arrival_tied G j w l vs h b cut None ends r e eq = none_tied G j w (act G e w) l h r (λ n k. ap (λ (z : Effect). ((act G z w).stay n k).numbers) eq)
arrival_tied G j w l vs h b cut (Some x) ends r e eq = go (cut x) r eq
  where
    deep : (o : Option Message) → arrival j l ≡ option_map (λ m. record { from = x.from; to = b; message = m }) o → e ≡ comes_if w x.to x.from o → Heard_tied G (j ++ l ∷ []) (act G e w)
    deep None q z = none_tied G j w (act G e w) l h q (λ n k. ap (λ (y : Effect). ((act G y w).stay n k).numbers) z)
    deep (Some m) q z = subst (λ (y : Effect). Heard_tied G (j ++ l ∷ []) (act G y w)) (sym z)
        (came_tied G j w l vs h x.to x.from m (q ∙ ap (λ (t : ℕ). Some (record { from = x.from; to = t; message = m })) (sym (ends (packet_of x) refl))))

    go : (c : Bool) → arrival j l ≡ cond c (arrived b x) None → e ≡ effect_if (comes_if w x.to x.from (message_of x.bytes)) c → Heard_tied G (j ++ l ∷ []) (act G e w)
    go false q z = none_tied G j w (act G e w) l h q (λ n k. ap (λ (y : Effect). ((act G y w).stay n k).numbers) z)
    go true q z = deep (message_of x.bytes) q z

is_for : (j : List Line) (w : Picture) (i b : ℕ) → Posts_tied j w → IsFor w i b → (p : Packet) → option_map packet_of (posted i j) ≡ Some p → p.to ≡ b
is_for j w i b ps f p e = f p (ps i ∙ e)

whole_effect : (w : Picture) (o : Option Posting) → arrives w (option_map packet_of o) ≡ by_posting w (λ _. true) o
whole_effect w None = refl
whole_effect w (Some x) = refl

cut_effect : (w : Picture) (size : ℕ) (o : Option Posting) → arrives_cut w size (option_map packet_of o) ≡ by_posting w (λ x. nat_le (length x.bytes) size) o
cut_effect w size None = refl
cut_effect w size (Some x) = refl

pub heard_tied : (G : Ground) (ns : List ℕ) (j : List Line) (w : Picture) (l : Line) → Sound G w → Ok G w l → FitsGround G ns w l → Views_tied j w → Posts_tied j w → Heard_tied G j w → Heard_tied G (j ++ l ∷ []) (picture_after G w l)
unfolding arrival
heard_tied G ns j w (line.Deliver i a b) s ok f vs ps h = arrival_tied G j w (line.Deliver i a b) vs h b (λ _. true) (posted i j) (is_for j w i b ps f) refl (arrives w (w.packet i)) (ap (arrives w) (ps i) ∙ whole_effect w (posted i j))
heard_tied G ns j w (line.Repeat i a b) s ok f vs ps h = arrival_tied G j w (line.Repeat i a b) vs h b (λ _. true) (posted i j) (is_for j w i b ps f) refl (arrives w (w.packet i)) (ap (arrives w) (ps i) ∙ whole_effect w (posted i j))
heard_tied G ns j w (line.Cut i a b size) s ok f vs ps h = arrival_tied G j w (line.Cut i a b size) vs h b (λ x. nat_le (length x.bytes) size) (posted i j) (is_for j w i b ps f) refl (arrives_cut w size (w.packet i)) (ap (arrives_cut w size) (ps i) ∙ cut_effect w size (posted i j))
heard_tied G ns j w (line.Apply m k t e v) s ok f vs ps h = none_tied G j w (picture_after G w (line.Apply m k t e v)) (line.Apply m k t e v) h refl (λ x y. stay_kept (λ (z : Stay). z.numbers) w.stay m k _ x y refl)
heard_tied G ns j w l s ok f vs ps h = none_tied G j w (picture_after G w l) l h refl (λ x y. ap (λ (z : (ℕ → ℕ) × (ℕ → List ℕ)). z.1) (tally_kept G w l s ok tt x y))
