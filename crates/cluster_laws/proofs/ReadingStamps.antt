-- The picture's stamps are of the keys that a reader finds: kept by each line.
use Rattle.std.proofs.Common.{◌≡◌, ℕ, ◌==◌, Bool, true, false, cond, not, ◌&&◌, ◌||◌, List, [], ◌∷◌, ◌++◌, Option, Some, None, option_map, refl, sym, ap, ap₂, subst, ◌∙◌, ⊎_elim, if◌then◌else◌}
use Rattle.std.specs.List.{list_any, list_all}
use Rattle.cluster_types.specs.declared.cluster_key.ClusterKey.{ClusterKey}
use Rattle.cluster_types.specs.declared.copy_state.CopyState.{CopyState}
use Rattle.cluster_types.specs.declared.copy_state.CopyState.TheVariants.{Empty, Part, Whole}
use Rattle.cluster_types.specs.declared.member.Member.{Member}
use Rattle.cluster_types.specs.Members.{ids_of}
use Rattle.cluster_types.specs.Partitions.{partition_of}
use Rattle.cluster_types.proofs.BoolFacts.{same_truth}
use Rattle.partition_lists.specs.Acting.{is_empty}
use Rattle.partition_lists.specs.Classes.{no_class}
use Rattle.partition_lists.specs.Counts.{recounted, spoiled}
use Rattle.journal_lines.specs.declared.line.Line.{Line}
use Rattle.journal_lines.specs.declared.line.Line.TheVariants as line
use Rattle.journal_readings.specs.Lines.{is_enter}
use Rattle.journal_readings.specs.Contents.{holds_any}
use Rattle.journal_readings.specs.Views.{members}
use Rattle.journal_readings.specs.Stamps.{stamp, is_empty_at_entry, is_empty_everywhere, begins_whole}
use Rattle.journal_readings.specs.Rows.{stamped, copy_state, row, row_whole_key}
use Rattle.journal_readings.proofs.StepLaws.{stamp-more, row-more}
use Rattle.cluster_laws.specs.Changed.{at_number}
use Rattle.cluster_laws.specs.Ground as ground
use Rattle.cluster_laws.specs.Ground.{Ground, is_view_member, view_list, is_view_empty}
use Rattle.cluster_laws.specs.Picture.{Seen, Picture}
use Rattle.cluster_laws.specs.Effect.{Effect, Nothing, Row_came, Batch_acked, Told, Write_came, Write_acked, Answered, arrives, arrives_cut}
use Rattle.cluster_laws.specs.Changes.{act, copy_count, restamped, recounted_if, whole_where_empty}
use Rattle.cluster_laws.specs.Licences.{Ok, IsState, picture_after}
use Rattle.cluster_laws.proofs.At.{numbers, changed_either, and_left, and_right, and_both, number_same, number_here, key_same, differ, no_some}
use Rattle.cluster_laws.proofs.GroundLaws.{member_listed}
use Rattle.cluster_laws.proofs.ReadingFrames.{node_kept, any-more, IsMessage, arrives_message, arrives_cut_message}
use Rattle.cluster_laws.proofs.ReadingLines.{or_left_true, or_right_true}
use Rattle.cluster_laws.proofs.ReadingSteps.{Contents_tied, Entered_tied}
use Rattle.cluster_laws.proofs.ReadingViews.{state_empty, enter_ok}
use Rattle.cluster_laws.proofs.ReadingTies.{Tied, members_of}
use Rattle.cluster_laws.proofs.ReadingClaims.{replica_is, empty_everywhere}
pub use Rattle.cluster_types.proofs.BoolFacts.{not_true as not_false}
use Rattle.cluster_types.specs.ClusterKeys.{same_key}
use Rattle.cluster_types.specs.Distinct.{contains}

-- the key of a stamp
abbrev pub key_of : Option (ClusterKey × ℕ) → Option ClusterKey
key_of o = option_map (λ z. z.0) o

-- ---- changes that keep the key

recounted_key : (k : ClusterKey) (c : ℕ) (z : ClusterKey × ℕ) → (recounted k c z).0 ≡ z.0
recounted_key k c z = go (same_key z.0 k) refl
  where
    go : (b : Bool) → same_key z.0 k ≡ b → (cond b (k, c) z).0 ≡ z.0
    go true e = sym (key_same z.0 k e)
    go false e = refl

spoiled_key : (k : ClusterKey) (z : ClusterKey × ℕ) → (spoiled k z).0 ≡ z.0
spoiled_key k z = go (same_key z.0 k)
  where
    go : (b : Bool) → (cond b z (z.0, no_class)).0 ≡ z.0
    go true = refl
    go false = refl

recounted_if_key : (b : Bool) (k : ClusterKey) (c : ℕ) (z : ClusterKey × ℕ) → (recounted_if b k c z).0 ≡ z.0
recounted_if_key true k c z = recounted_key k c z
recounted_if_key false k c z = refl

mapped_key : (change : ClusterKey × ℕ → ClusterKey × ℕ) → ((z : ClusterKey × ℕ) → (change z).0 ≡ z.0) → (o : Option (ClusterKey × ℕ)) → key_of (option_map change o) ≡ key_of o
mapped_key change h None = refl
mapped_key change h (Some z) = ap Some (h z)

restamped_key : (x : Seen) (p : ℕ) (change : ClusterKey × ℕ → ClusterKey × ℕ) → ((z : ClusterKey × ℕ) → (change z).0 ≡ z.0) → (q : ℕ) → key_of (restamped x p change q) ≡ key_of (x.stamp q)
restamped_key x p change h q = changed_either numbers (λ (o : Option (ClusterKey × ℕ)). key_of o ≡ key_of (x.stamp q)) x.stamp p (option_map change (x.stamp p)) q
    (λ i. mapped_key change h (x.stamp p) ∙ ap (λ (z : ℕ). key_of (x.stamp z)) i) (λ _. refl)

-- a stamp is set or taken away
stamp_at : (node : ℕ → Seen) (m q n p : ℕ) (o : Option (ClusterKey × ℕ)) (new : Seen) → new.stamp ≡ at_number (node m).stamp q o → key_of ((at_number node m new n).stamp p) ≡ cond ((m == n) && (q == p)) (key_of o) (key_of ((node n).stamp p))
stamp_at node m q n p o new e = go (m == n) refl
  where
    inner : (c : Bool) → m ≡ n → key_of (cond c o ((node m).stamp p)) ≡ cond c (key_of o) (key_of ((node n).stamp p))
    inner true i = refl
    inner false i = ap (λ (z : ℕ). key_of ((node z).stamp p)) i

    go : (b : Bool) → (m == n) ≡ b → key_of ((cond b new (node n)).stamp p) ≡ cond (b && (q == p)) (key_of o) (key_of ((node n).stamp p))
    go true i = ap (λ (f : ℕ → Option (ClusterKey × ℕ)). key_of (f p)) e ∙ inner (q == p) (number_same m n i)
    go false i = refl

-- ---- partitions that are empty everywhere

all_members : (test : ℕ → Bool) (ms : List Member) → ((n : ℕ) → contains (ids_of ms) n ≡ true → test n ≡ true) → list_all (λ m. test m.id) ms ≡ true
all_members test [] h = refl
all_members test (m ∷ ms) h = and_both (test m.id) (list_all (λ z. test z.id) ms) (h m.id (or_left_true (m.id == m.id) (contains (ids_of ms) m.id) (number_here m.id)))
    (all_members test ms (λ n e. h n (or_right_true (m.id == n) (contains (ids_of ms) n) e)))

full_everywhere : (G : Ground) (ns : List ℕ) (j : List Line) (w : Picture) → Tied G ns j w → (k : ClusterKey) (p : ℕ) → ((m : ℕ) → is_view_member G k m ≡ true → (w.stay m k).entered ≡ true) → members k j ≡ G.members k → is_view_empty G k p ≡ true → is_empty_everywhere k p j ≡ true
unfolding is_empty_everywhere is_view_empty
full_everywhere G ns j w t k p all ms e = subst (λ (x : List Member). list_all (λ z. is_empty_at_entry k z.id p j) x ≡ true) (sym ms)
    (all_members (λ z. is_empty_at_entry k z p j) (G.members k) (λ n i. t.empties n k p (all n i) ∙ listed (view_list G k p) n e (member_listed G k p n i)))
  where
    listed : (l : List ℕ) (n : ℕ) → list_all (λ m. is_empty (G.row k m p)) l ≡ true → contains l n ≡ true → is_empty (G.row k n p) ≡ true
    listed [] n a c = differ c refl
    listed (m ∷ l) n a c = ⊎_elim (λ z. ap (λ (y : ℕ). is_empty (G.row k y p)) (sym (number_same m n z)) ∙ and_left (is_empty (G.row k m p)) (list_all (λ y. is_empty (G.row k y p)) l) a)
        (λ z. listed l n (and_right (is_empty (G.row k m p)) (list_all (λ y. is_empty (G.row k y p)) l) a) z) (Rattle.cluster_types.proofs.BoolFacts.or_cases (m == n) (contains l n) c)

everywhere_is : (G : Ground) (ns : List ℕ) (j : List Line) (w : Picture) → Tied G ns j w → (k : ClusterKey) (p : ℕ) → ((m : ℕ) → is_view_member G k m ≡ true → (w.stay m k).entered ≡ true) → members k j ≡ G.members k → is_empty_everywhere k p j ≡ is_view_empty G k p
everywhere_is G ns j w t k p all ms = same_truth (is_empty_everywhere k p j) (is_view_empty G k p) (empty_everywhere G ns j w t k p all ms) (full_everywhere G ns j w t k p all ms)

-- ---- stamps

abbrev pub Stamps_tied : Ground → List Line → Picture → Type 0
Stamps_tied G j w = (n p : ℕ) → stamp G.factor n p j ≡ key_of ((w.node n).stamp p)

message_keeps_stamp : (G : Ground) (w : Picture) (e : Effect) → IsMessage e → (n p : ℕ) → key_of (((act G e w).node n).stamp p) ≡ key_of ((w.node n).stamp p)
message_keeps_stamp G w Nothing h n p = refl
message_keeps_stamp G w (Row_came m k from) h n p = refl
message_keeps_stamp G w (Batch_acked m k from b) h n p = refl
message_keeps_stamp G w (Told m k from done handed settled) h n p = refl
message_keeps_stamp G w (Write_acked m k from t y) h n p = refl
message_keeps_stamp G w (Answered m k from t v y) h n p = refl
message_keeps_stamp G w (Write_came m k from nth d v) h n p = node_kept (λ (x : Seen). key_of (x.stamp p)) w.node m _ n
    (restamped_key (w.node m) (partition_of d) (recounted_if (from == ground.view_master G k (partition_of d)) k _) (λ z. recounted_if_key (from == ground.view_master G k (partition_of d)) k _ z) p)
message_keeps_stamp G w _ h n p = absurd h

key_if : (b : Bool) (k : ClusterKey) (c : ℕ) (o : Option (ClusterKey × ℕ)) → key_of (if b then Some (k, c) else o) ≡ cond b (Some k) (key_of o)
key_if true k c o = refl
key_if false k c o = refl

pub stamp_tied : (G : Ground) (ns : List ℕ) (j : List Line) (w : Picture) (l : Line) → Ok G w l → Tied G ns j w → Stamps_tied G j w → Stamps_tied G (j ++ l ∷ []) (picture_after G w l)
stamp_tied G ns j w (line.Learn m k q) ok t h n p = stamp-more G.factor n p j (line.Learn m k q) ∙ (ap (λ (o : Option ClusterKey). cond ((m == n) && (q == p)) (Some k) o) (h n p)
    ∙ sym (stamp_at w.node m q n p (Some (k, copy_count G k m (w.stay m k) q)) _ refl))
stamp_tied G ns j w (line.Drop m k q) ok t h n p = stamp-more G.factor n p j (line.Drop m k q) ∙ (ap (λ (o : Option ClusterKey). cond ((m == n) && (q == p)) None o) (h n p) ∙ sym (stamp_at w.node m q n p None _ refl))
stamp_tied G ns j w (line.Exchanged m k) ok t h n p = stamp-more G.factor n p j (line.Exchanged m k) ∙ go (m == n) refl
  where
    all : (i : ℕ) → is_view_member G k i ≡ true → (w.stay i k).entered ≡ true
    all i e = (t.sound.whole.known.cross m k).rows i (ok.1.rows i e)

    ms : members k j ≡ G.members k
    ms = members_of G ns j w t m k ((t.sound.whole.known.entered m k).now ok.1.is_in.view).0

    whole : begins_whole G.factor k m p j ≡ (is_view_empty G k p && ground.is_view_replica G k p m)
    whole = ap₂ (λ (a b : Bool). a && b) (everywhere_is G ns j w t k p all ms) (replica_is G k p m j ms)

    new : Seen
    new = record (w.node m) { stamp = whole_where_empty G m k (w.node m) (w.stay m k) }

    go : (b : Bool) → (m == n) ≡ b → cond (b && begins_whole G.factor k n p j) (Some k) (stamp G.factor n p j) ≡ key_of ((cond b new (w.node n)).stamp p)
    go true i = subst (λ (z : ℕ). cond (begins_whole G.factor k z p j) (Some k) (stamp G.factor z p j) ≡ key_of (new.stamp p)) (number_same m n i)
        (ap₂ (λ (b : Bool) (o : Option ClusterKey). cond b (Some k) o) whole (h m p) ∙ sym (key_if (is_view_empty G k p && ground.is_view_replica G k p m) k (copy_count G k m (w.stay m k) p) ((w.node m).stamp p)))
    go false i = h n p
stamp_tied G ns j w (line.Apply m k t e v) ok ti h n p = stamp-more G.factor n p j (line.Apply m k t e v) ∙ (h n p ∙ sym (node_kept (λ (x : Seen). key_of (x.stamp p)) w.node m _ n
    (restamped_key (w.node m) (partition_of e) (λ z. recounted k _ (spoiled k z)) (λ z. recounted_key k _ (spoiled k z) ∙ spoiled_key k z) p)))
stamp_tied G ns j w (line.Merge m k e v) ok t h n p = stamp-more G.factor n p j (line.Merge m k e v) ∙ (h n p ∙ sym (node_kept (λ (x : Seen). key_of (x.stamp p)) w.node m _ n
    (restamped_key (w.node m) (partition_of e) (spoiled k) (spoiled_key k) p)))
stamp_tied G ns j w (line.Clock m time) ok t h n p = stamp-more G.factor n p j (line.Clock m time) ∙ (h n p ∙ sym (node_kept (λ (x : Seen). key_of (x.stamp p)) w.node m _ n refl))
stamp_tied G ns j w (line.Enter m k ms) ok t h n p = stamp-more G.factor n p j (line.Enter m k ms) ∙ (h n p ∙ sym (node_kept (λ (x : Seen). key_of (x.stamp p)) w.node m _ n refl))
stamp_tied G ns j w (line.Stop m) ok t h n p = stamp-more G.factor n p j (line.Stop m) ∙ (h n p ∙ sym (node_kept (λ (x : Seen). key_of (x.stamp p)) w.node m _ n refl))
stamp_tied G ns j w (line.Deliver i a b) ok t h n p = stamp-more G.factor n p j (line.Deliver i a b) ∙ (h n p ∙ sym (message_keeps_stamp G w (arrives w (w.packet i)) (arrives_message w (w.packet i)) n p))
stamp_tied G ns j w (line.Repeat i a b) ok t h n p = stamp-more G.factor n p j (line.Repeat i a b) ∙ (h n p ∙ sym (message_keeps_stamp G w (arrives w (w.packet i)) (arrives_message w (w.packet i)) n p))
stamp_tied G ns j w (line.Cut i a b size) ok t h n p = stamp-more G.factor n p j (line.Cut i a b size) ∙ (h n p ∙ sym (message_keeps_stamp G w (arrives_cut w size (w.packet i)) (arrives_cut_message w size (w.packet i)) n p))
stamp_tied G ns j w l ok t h n p = stamp-more G.factor n p j l ∙ h n p

-- ---- the keys of rows

-- the key by which a copy was whole
abbrev pub state_key : CopyState → Option ClusterKey
state_key Empty = None
state_key Part = None
state_key (Whole k writes) = Some k

abbrev pub Keys_tied : Ground → List Line → Picture → Type 0
Keys_tied G j w = (n : ℕ) (k : ClusterKey) (p : ℕ) → (w.stay n k).entered ≡ true → row_whole_key (row G.factor k n p j) ≡ state_key (G.row k n p)

pub row-other : (factor : ℕ) (k : ClusterKey) (n p : ℕ) (ls : List Line) (l : Line) → list_any (is_enter k n) ls ≡ true → row factor k n p (ls ++ l ∷ []) ≡ row factor k n p ls
row-other factor k n p ls l e = row-more factor k n p ls l ∙ ap (λ (b : Bool). cond b (row factor k n p ls) (cond (is_enter k n l) (Some (copy_state factor n p ls)) None)) e

pub row-here : (factor : ℕ) (k : ClusterKey) (n p : ℕ) (ls : List Line) (l : Line) → is_enter k n l ≡ true → list_any (is_enter k n) ls ≡ false → row factor k n p (ls ++ l ∷ []) ≡ Some (copy_state factor n p ls)
row-here factor k n p ls l e f = row-more factor k n p ls l ∙ ap₂ (λ (a b : Bool). cond a (row factor k n p ls) (cond b (Some (copy_state factor n p ls)) None)) f e

stamped_whole : (n p : ℕ) (j : List Line) (o : Option ClusterKey) → row_whole_key (Some (stamped n p j o)) ≡ o
stamped_whole n p j None = refl
stamped_whole n p j (Some k) = refl

pub not_true : (b : Bool) → not b ≡ false → b ≡ true
not_true true e = refl
not_true false e = sym e

-- the state of a copy by its parts
pub state_full : (factor n p : ℕ) (j : List Line) → holds_any n p j ≡ true → copy_state factor n p j ≡ stamped n p j (stamp factor n p j)
unfolding copy_state
state_full factor n p j e = ap (λ (b : Bool). cond b (stamped n p j (stamp factor n p j)) Empty) e

pub state_none : (factor n p : ℕ) (j : List Line) → holds_any n p j ≡ false → copy_state factor n p j ≡ Empty
unfolding copy_state
state_none factor n p j e = ap (λ (b : Bool). cond b (stamped n p j (stamp factor n p j)) Empty) e

state_key_is : (G : Ground) (j : List Line) (w : Picture) (n p : ℕ) → Contents_tied G j w → Stamps_tied G j w → (x : CopyState) → IsState (w.node n).content ((w.node n).stamp p) p x → row_whole_key (Some (copy_state G.factor n p j)) ≡ state_key x
state_key_is G j w n p c h Empty st = ap (λ (y : CopyState). row_whole_key (Some y)) (state_none G.factor n p j (not_false (holds_any n p j) (state_empty G j w n p c Empty st)))
state_key_is G j w n p c h Part st = ap (λ (y : CopyState). row_whole_key (Some y)) (state_full G.factor n p j (not_true (holds_any n p j) (state_empty G j w n p c Part st))) ∙ (stamped_whole n p j (stamp G.factor n p j) ∙ (h n p ∙ ap key_of st.0))
state_key_is G j w n p c h (Whole k writes) st = ap (λ (y : CopyState). row_whole_key (Some y)) (state_full G.factor n p j (not_true (holds_any n p j) (state_empty G j w n p c (Whole k writes) st))) ∙ (stamped_whole n p j (stamp G.factor n p j) ∙ (h n p ∙ ap key_of st.0))

pub keys_tied : (G : Ground) (j : List Line) (w : Picture) (l : Line) → Ok G w l → Contents_tied G j w → Entered_tied j w → Entered_tied (j ++ l ∷ []) (picture_after G w l) → Stamps_tied G j w → Keys_tied G j w → Keys_tied G (j ++ l ∷ []) (picture_after G w l)
keys_tied G j w l ok c en later st h n k p e = go (list_any (is_enter k n) j) refl
  where
    go : (b : Bool) → list_any (is_enter k n) j ≡ b → row_whole_key (row G.factor k n p (j ++ l ∷ [])) ≡ state_key (G.row k n p)
    go true i = ap row_whole_key (row-other G.factor k n p j l i) ∙ h n k p (sym (en n k) ∙ i)
    go false i =
        let here : is_enter k n l ≡ true = sym (ap (λ (b : Bool). b || is_enter k n l) i) ∙ (sym (any-more (is_enter k n) j l) ∙ (later n k ∙ e)) in
        ap row_whole_key (row-here G.factor k n p j l here i) ∙ state_key_is G j w n p c st (G.row k n p) ((enter_ok G w k n l here ok).row p)
