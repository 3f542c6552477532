-- What stands before a view's entries, and who its members are.
use Rattle.std.proofs.Common.{◌≡◌, ℕ, ◌==◌, Bool, true, false, not, ◌&&◌, ◌||◌, List, [], ◌∷◌, Option, Some, None, refl, sym, ap, subst, ◌∙◌}
use Rattle.std.specs.Prelude.{take, drop, slice_get, fold, bytes_eq}
use Rattle.std.specs.List.{list_any, list_all, count_by}
use Rattle.std.proofs.lemmas.Bool.{or_parts}
use Rattle.std.proofs.lemmas.List.{take-append-drop}
use Rattle.conflict_order.specs.declared.policy.Policy.{Policy}
use Rattle.conflict_order.specs.declared.version.Version.{Version}
use Rattle.cluster_types.specs.declared.cluster_key.ClusterKey.{ClusterKey}
use Rattle.cluster_types.specs.declared.member.Member.{Member}
use Rattle.cluster_types.specs.Members.{ids_of}
use Rattle.journal_lines.specs.declared.line.Line.{Line}
use Rattle.journal_lines.specs.declared.line.Line.TheVariants as line
use Rattle.journal_readings.specs.Contents.{joined_if}
use Rattle.journal_readings.specs.Entries.{applied_in, applied_in_step}
use Rattle.journal_readings.specs.Lines.{same_key, has_node, is_enter, is_exchanged, is_settled_line, is_done_line}
use Rattle.journal_readings.specs.Settled.{is_open_write}
use Rattle.journal_readings.specs.Shape.{Shape, has_entered, have_all_entered, names_entered}
use Rattle.journal_readings.specs.Views.{members}
use Rattle.journal_readings.proofs.Fronts.{and_left, and_right, same_key_is}
use Rattle.audit_laws.specs.Fits.{FitsShape, enters_key}
use Rattle.audit_laws.proofs.MapSteps.{entered_key, members-front}
use Rattle.audit_laws.proofs.ShapeSteps.{members_are}
use Rattle.audit_laws.proofs.Tests.{differ, number_same}
use Rattle.audit_core.specs.Sees.{is_open_in}
use Rattle.audit_core.proofs.KeyLaws.{any_at}
use Rattle.audit_core.proofs.PartedLaws.{none_open}
use Rattle.audit_core.proofs.StillLaws.{any_front}

-- ---- a view that nobody entered

-- the line is one of a node that entered the view
abbrev IsOfView : ClusterKey → Line → Type 0
IsOfView k x = (m : ℕ) × ((b : List Line) → names_entered b x ≡ has_entered b k m)

-- no line of the view stands where nobody entered it
none_of : (j : List Line) (k : ClusterKey) (test : Line → Bool) → Shape j → list_any (enters_key k) j ≡ false → ((x : Line) → test x ≡ true → IsOfView k x) → list_any test j ≡ false
none_of j k test shape none of = go (list_any test j) refl
  where
    go : (b : Bool) → list_any test j ≡ b → b ≡ false
    go false e = refl
    go true e =
        let h : (a : ℕ) × (x : Line) × (slice_get j a ≡ Some x) × (test x ≡ true) = any_at test j e in
        let m : (m : ℕ) × ((b : List Line) → names_entered b h.1 ≡ has_entered b k m) = of h.1 h.3 in
        let entered : has_entered (take h.0 j) k m.0 ≡ true = sym (m.1 (take h.0 j)) ∙ shape.in_view h.0 h.1 h.2 in
        differ (any_front (enters_key k) h.0 j (entered_key k m.0 (take h.0 j) entered)) none

settled_of : (k : ClusterKey) (m p : ℕ) (x : Line) → is_settled_line k m p x ≡ true → IsOfView k x
settled_of k m p (line.Settled n l q) e =
    let key : l ≡ k = same_key_is l k (and_left (same_key l k) (q == p) (and_right (n == m) _ e)) in
    (n, λ b. ap (λ (z : ClusterKey). has_entered b z n) key)
settled_of k m p x e = differ e refl

done_of : (k : ClusterKey) (m t : ℕ) (x : Line) → is_done_line k m t x ≡ true → IsOfView k x
done_of k m t (line.Done n l u) e =
    let key : l ≡ k = same_key_is l k (and_left (same_key l k) (u == t) (and_right (n == m) _ e)) in
    (n, λ b. ap (λ (z : ClusterKey). has_entered b z n) key)
done_of k m t x e = differ e refl

open_of_view : (k : ClusterKey) (p m : ℕ) (ls : List Line) (x : Line) → is_open_write k p m ls x ≡ true → IsOfView k x
open_of_view k p m ls (line.Apply n l t d v) e =
    let key : l ≡ k = same_key_is l k (and_left (same_key l k) _ (and_right (n == m) _ e)) in
    (n, λ b. ap (λ (z : ClusterKey). has_entered b z n) key)
open_of_view k p m ls x e = differ e refl

opened_of : (k : ClusterKey) (p m t : ℕ) (ls : List Line) (x : Line) → is_open_in k p m t ls x ≡ true → IsOfView k x
opened_of k p m t ls (line.Apply n l u d v) e = open_of_view k p m ls (line.Apply n l u d v) (and_right (u == t) _ e)
opened_of k p m t ls x e = differ e refl

-- whether the line is a write in the view
abbrev writes_in : ClusterKey → Line → Bool
writes_in k (line.Apply n l t d v) = same_key l k
writes_in k _ = false

written_of_view : (k : ClusterKey) (x : Line) → writes_in k x ≡ true → IsOfView k x
written_of_view k (line.Apply n l t d v) e = (n, λ b. ap (λ (z : ClusterKey). has_entered b z n) (same_key_is l k e))
written_of_view k x e = differ e refl

unwritten_step : (by : Policy) (k : ClusterKey) (d : List ℕ) (v : Option Version) (x : Line) → writes_in k x ≡ false → applied_in_step by k d v x ≡ v
unwritten_step by k d v (line.Apply n l t e w) h = ap (λ (b : Bool). joined_if (b && bytes_eq e d) by v w) h
unwritten_step by k d v x h = refl

unwritten : (by : Policy) (k : ClusterKey) (d : List ℕ) (v : Option Version) (j : List Line) → list_any (writes_in k) j ≡ false → fold (applied_in_step by k d) v j ≡ v
unwritten by k d v [] h = refl
unwritten by k d v (x ∷ j) h =
    let parts : (writes_in k x ≡ false) × (list_any (writes_in k) j ≡ false) = or_parts (writes_in k x) (list_any (writes_in k) j) h in
    ap (λ (w : Option Version). fold (applied_in_step by k d) w j) (unwritten_step by k d v x parts.0) ∙ unwritten by k d v j parts.1

pub record IsUnentered (j : List Line) (k : ClusterKey) : Type 0 where
  pub settled : (m p : ℕ) → list_any (is_settled_line k m p) j ≡ false
  pub done : (m t : ℕ) → list_any (is_done_line k m t) j ≡ false
  pub opens : (p m : ℕ) (ls : List Line) → count_by (is_open_write k p m ls) j ≡ 0
  pub opened : (p m t : ℕ) (ls : List Line) → count_by (is_open_in k p m t ls) j ≡ 0
  pub applied : (by : Policy) (d : List ℕ) → applied_in by k d j ≡ None

pub unentered_view : (j : List Line) (k : ClusterKey) → Shape j → list_any (enters_key k) j ≡ false → IsUnentered j k
unfolding applied_in
unentered_view j k shape none = record {
  settled = λ m p. none_of j k (is_settled_line k m p) shape none (settled_of k m p);
  done = λ m t. none_of j k (is_done_line k m t) shape none (done_of k m t);
  opens = λ p m ls. none_open (is_open_write k p m ls) j 0 (none_of j k (is_open_write k p m ls) shape none (open_of_view k p m ls));
  opened = λ p m t ls. none_open (is_open_in k p m t ls) j 0 (none_of j k (is_open_in k p m t ls) shape none (opened_of k p m t ls));
  applied = λ by d. unwritten by k d None j (none_of j k (writes_in k) shape none (written_of_view k));
}

-- ---- members

-- who entered a view is one of its members
pub entered_member : (j : List Line) (k : ClusterKey) (r : ℕ) → Shape j → list_any (is_enter k r) j ≡ true → has_node (ids_of (members k j)) r ≡ true
entered_member j k r shape e =
    let h : (a : ℕ) × (x : Line) × (slice_get j a ≡ Some x) × (is_enter k r x ≡ true) = any_at (is_enter k r) j e in
    go h.0 h.1 h.2 h.3
  where
    go : (a : ℕ) (x : Line) → slice_get j a ≡ Some x → is_enter k r x ≡ true → has_node (ids_of (members k j)) r ≡ true
    go a (line.Enter m l ms) at q =
        subst (λ (z : ClusterKey). has_node (ids_of (members z j)) r ≡ true) (same_key_is l k (and_right (m == r) _ q))
        (subst (λ (z : ℕ). has_node (ids_of (members l j)) z ≡ true) (number_same m r (and_left (m == r) _ q))
        (subst (λ (xs : List Member). has_node (ids_of xs) m ≡ true) (members_are j shape.one_list a m l ms at)
        (and_left (has_node (ids_of ms) m) _ (shape.entered a (line.Enter m l ms) at))))
    go a x at q = differ q refl

pub unless : (b : Bool) → not b ≡ true → b ≡ false
unless true e = differ e refl
unless false e = refl

-- the node that enters hasn't entered before
pub enters_first : (j : List Line) (n : ℕ) (k : ClusterKey) (ms : List Member) → FitsShape j (line.Enter n k ms) → list_any (is_enter k n) j ≡ false
enters_first j n k ms fits = unless (list_any (is_enter k n) j) (and_right (has_node (ids_of ms) n) _ fits.entered)

all_of : (test : ℕ → Bool) (ids : List ℕ) → list_all test ids ≡ true → (n : ℕ) → has_node ids n ≡ true → test n ≡ true
all_of test [] h n e = differ e refl
all_of test (m ∷ ids) h n e = go (m == n) refl (all_of test ids (and_right (test m) _ h) n) e
  where
    go : (b : Bool) → (m == n) ≡ b → (has_node ids n ≡ true → test n ≡ true) → (b || has_node ids n) ≡ true → test n ≡ true
    go true i rest q = ap test (sym (number_same m n i)) ∙ and_left (test m) _ h
    go false i rest q = rest q

-- a view that a member still enters is one in which nobody has finished exchange
pub unfinished : (j : List Line) (n : ℕ) (k : ClusterKey) (ms : List Member) → Shape j → FitsShape j (line.Enter n k ms) → (m : ℕ) → list_any (is_exchanged k m) j ≡ false
unfinished j n k ms shape fits m = go (list_any (is_exchanged k m) j) refl
  where
    at : (a : ℕ) (x : Line) → slice_get j a ≡ Some x → is_exchanged k m x ≡ true → list_any (is_enter k n) j ≡ true
    at a (line.Exchanged o l) here q =
        let key : l ≡ k = same_key_is l k (and_right (o == m) _ q) in
        let named : has_entered (take a j) k o ≡ true = subst (λ (z : ClusterKey). has_entered (take a j) z o ≡ true) key (shape.in_view a (line.Exchanged o l) here) in
        let all : have_all_entered (take a j) k ≡ true = subst (λ (z : ClusterKey). have_all_entered (take a j) z ≡ true) key (shape.exchanged a (line.Exchanged o l) here) in
        let first : list_any (enters_key k) (take a j) ≡ true = entered_key k o (take a j) named in
        let same : members k j ≡ members k (take a j) = sym (ap (members k) (take-append-drop a j)) ∙ members-front k (take a j) (drop a j) first in
        let listed : has_node (ids_of ms) n ≡ true = and_left (has_node (ids_of ms) n) _ fits.entered in
        let member : has_node (ids_of (members k (take a j))) n ≡ true =
        subst (λ (xs : List Member). has_node (ids_of xs) n ≡ true) (fits.members (any_front (enters_key k) a j first) ∙ same) listed in
        any_front (is_enter k n) a j (all_of (has_entered (take a j) k) (ids_of (members k (take a j))) all n member)
    at a x here q = differ q refl

    go : (b : Bool) → list_any (is_exchanged k m) j ≡ b → b ≡ false
    go false e = refl
    go true e =
        let h : (a : ℕ) × (x : Line) × (slice_get j a ≡ Some x) × (is_exchanged k m x ≡ true) = any_at (is_exchanged k m) j e in
        differ (at h.0 h.1 h.2 h.3) (enters_first j n k ms fits)

-- whose line settles a partition has entered the view
pub settler_entered : (j : List Line) (k : ClusterKey) (m p : ℕ) → Shape j → list_any (is_settled_line k m p) j ≡ true → list_any (is_enter k m) j ≡ true
settler_entered j k m p shape e =
    let h : (a : ℕ) × (x : Line) × (slice_get j a ≡ Some x) × (is_settled_line k m p x ≡ true) = any_at (is_settled_line k m p) j e in
    go h.0 h.1 h.2 h.3
  where
    go : (a : ℕ) (x : Line) → slice_get j a ≡ Some x → is_settled_line k m p x ≡ true → list_any (is_enter k m) j ≡ true
    go a (line.Settled n l q) here f =
        let key : l ≡ k = same_key_is l k (and_left (same_key l k) (q == p) (and_right (n == m) _ f)) in
        let named : has_entered (take a j) k n ≡ true = subst (λ (z : ClusterKey). has_entered (take a j) z n ≡ true) key (shape.in_view a (line.Settled n l q) here) in
        any_front (is_enter k m) a j (subst (λ (z : ℕ). has_entered (take a j) k z ≡ true) (number_same n m (and_left (n == m) _ f)) named)
    go a x here f = differ f refl
