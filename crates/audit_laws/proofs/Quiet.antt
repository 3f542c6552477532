-- What a line leaves as it was of a view and a record.
use Rattle.std.proofs.Common.{◌≡◌, ℕ, ◌==◌, Bool, true, false, ◌&&◌, ◌||◌, cond, List, [], ◌∷◌, ◌++◌, Option, Some, None, option_map, refl, sym, ap, ap₂, ◌∙◌}
use Rattle.std.specs.Prelude.{map, option_and_then, bytes_eq}
use Rattle.std.proofs.lemmas.Bool.{or_parts}
use Rattle.std.proofs.lemmas.List.Folds.{list_any-append}
use Rattle.std.proofs.Math.Bool.{or-false}
use Rattle.std.specs.List.{list_any, list_all}
use Rattle.conflict_order.specs.declared.policy.Policy.{Policy}
use Rattle.conflict_order.specs.declared.version.Version.{Version}
use Rattle.conflict_order.specs.Join.{join}
use Rattle.cluster_types.specs.declared.cluster_key.ClusterKey.{ClusterKey}
use Rattle.cluster_types.specs.declared.member.Member.{Member}
use Rattle.cluster_types.specs.ClusterKeys as keys
use Rattle.cluster_types.specs.Partitions.{partition_of}
use Rattle.cluster_types.specs.ClusterKeys.{is_view_key}
use Rattle.partition_lists.specs.Lists as lists
use Rattle.journal_lines.specs.declared.line.Line.{Line}
use Rattle.journal_lines.specs.declared.line.Line.TheVariants as line
use Rattle.journal_readings.specs.Lines.{same_key, lines_before, is_enter, is_exchanged, is_settled_line, is_done_line}
use Rattle.journal_readings.specs.Contents.{content, content_step, join_all, joined_if}
use Rattle.journal_readings.specs.Views.{view, view_step, some_key, is_in_view, members, master, first_of}
use Rattle.journal_readings.specs.Entries.{entry, applied_in, applied_in_step, fold_of}
use Rattle.journal_readings.specs.Stamps.{entered_empty, is_empty_at_entry, is_empty_everywhere}
use Rattle.journal_readings.specs.Settled.{is_settled, is_settled_by, is_open_write, has_open_write}
use Rattle.journal_readings.proofs.AlongLaws.{no_some, some_same}
use Rattle.journal_readings.proofs.StepLaws.{lines_before-more, applied_in-more}
use Rattle.audit_laws.specs.Fits.{enters_key, may_part}
use Rattle.audit_laws.proofs.Tests.{differ, number_same}
use Rattle.audit_laws.proofs.ShapeSteps.{same_key_itself}
use Rattle.audit_laws.proofs.MapSteps.{enters}

-- ---- entries

unpassed : (test : Line → Bool) (j : List Line) → list_any test j ≡ false → lines_before test j ≡ None
unpassed test [] e = refl
unpassed test (x ∷ j) e = go (test x) (unpassed test j) e
  where
    go : (b : Bool) → (list_any test j ≡ false → lines_before test j ≡ None) → (b || list_any test j) ≡ false → cond b (Some []) (option_map (λ before. x ∷ before) (lines_before test j)) ≡ None
    go true rest q = differ refl q
    go false rest q = ap (option_map (λ before. x ∷ before)) (rest q)

pub lines_before-other : (test : Line → Bool) (j : List Line) (l : Line) → test l ≡ false → lines_before test (j ++ l ∷ []) ≡ lines_before test j
lines_before-other test j l e = lines_before-more test j l ∙ (ap (λ (b : Bool). cond (list_any test j) (lines_before test j) (cond b (Some j) None)) e ∙ go (list_any test j) refl)
  where
    go : (b : Bool) → list_any test j ≡ b → cond b (lines_before test j) None ≡ lines_before test j
    go true i = refl
    go false i = sym (unpassed test j i)

unentered : (k : ClusterKey) (n : ℕ) (l : Line) → enters_key k l ≡ false → is_enter k n l ≡ false
unentered k n l e = go (is_enter k n l) refl
  where
    go : (b : Bool) → is_enter k n l ≡ b → b ≡ false
    go true i = differ (enters k n l i) e
    go false i = refl

alone : (k : ClusterKey) (l : Line) → enters_key k l ≡ false → members k (l ∷ []) ≡ []
alone k (line.Enter n o ms) e = ap (λ (b : Bool). cond b ms []) e
alone k l e = refl

pub members-other : (k : ClusterKey) (j : List Line) (l : Line) → enters_key k l ≡ false → members k (j ++ l ∷ []) ≡ members k j
members-other k [] l e = alone k l e
members-other k (line.Enter n o ms ∷ j) l e = ap (λ (z : List Member). cond (same_key o k) ms z) (members-other k j l e)
members-other k (x ∷ j) l e = members-other k j l e

pub master-other : (k : ClusterKey) (p : ℕ) (j : List Line) (l : Line) → enters_key k l ≡ false → master k p (j ++ l ∷ []) ≡ master k p j
master-other k p j l e = ap (λ (ms : List Member). first_of (lists.list ms p)) (members-other k j l e)

-- ---- settled partitions

all_same : (f g : ℕ → Bool) → ((n : ℕ) → f n ≡ g n) → (ms : List Member) → list_all (λ m. f m.id) ms ≡ list_all (λ m. g m.id) ms
all_same f g h [] = refl
all_same f g h (m ∷ ms) = ap₂ (λ (a b : Bool). a && b) (h m.id) (all_same f g h ms)

empty_at-other : (k : ClusterKey) (n p : ℕ) (j : List Line) (l : Line) → enters_key k l ≡ false → is_empty_at_entry k n p (j ++ l ∷ []) ≡ is_empty_at_entry k n p j
unfolding is_empty_at_entry
empty_at-other k n p j l e = ap (entered_empty n p) (lines_before-other (is_enter k n) j l (unentered k n l e))

pub empty-other : (k : ClusterKey) (p : ℕ) (j : List Line) (l : Line) → enters_key k l ≡ false → is_empty_everywhere k p (j ++ l ∷ []) ≡ is_empty_everywhere k p j
unfolding is_empty_everywhere
empty-other k p j l e =
    ap (λ (ms : List Member). list_all (λ m. is_empty_at_entry k m.id p (j ++ l ∷ [])) ms) (members-other k j l e)
    ∙ all_same (λ n. is_empty_at_entry k n p (j ++ l ∷ [])) (λ n. is_empty_at_entry k n p j) (λ n. empty_at-other k n p j l e) (members k j)

-- one item more
any-more : {A : Type 0} (test : A → Bool) (xs : List A) (x : A) → list_any test (xs ++ x ∷ []) ≡ (list_any test xs || test x)
any-more test xs x = list_any-append test xs (x ∷ []) ∙ ap (λ (b : Bool). list_any test xs || b) (or-false (test x))

any-other : (test : Line → Bool) (j : List Line) (l : Line) → test l ≡ false → list_any test (j ++ l ∷ []) ≡ list_any test j
any-other test j l e = any-more test j l ∙ (ap (λ (b : Bool). list_any test j || b) e ∙ or-false (list_any test j))

pub settled-other : (k : ClusterKey) (p : ℕ) (j : List Line) (l : Line) → enters_key k l ≡ false → is_settled_line k (master k p j) p l ≡ false → is_exchanged k (master k p j) l ≡ false
    → is_settled k p (j ++ l ∷ []) ≡ is_settled k p j
unfolding is_settled
settled-other k p j l e s x =
    ap (λ (m : ℕ). is_settled_by k p m (j ++ l ∷ [])) (master-other k p j l e)
    ∙ ap₂ (λ (a b : Bool). a || b) (any-other (is_settled_line k (master k p j) p) j l s)
    (ap₂ (λ (a b : Bool). a && b) (any-other (is_exchanged k (master k p j)) j l x) (empty-other k p j l e))

-- ---- open writes

any_lines : (f g : Line → Bool) → ((x : Line) → f x ≡ g x) → (ls : List Line) → list_any f ls ≡ list_any g ls
any_lines f g h [] = refl
any_lines f g h (x ∷ ls) = ap₂ (λ (a b : Bool). a || b) (h x) (any_lines f g h ls)

open-same : (k : ClusterKey) (p n : ℕ) (j : List Line) (l : Line) → ((t : ℕ) → is_done_line k n t l ≡ false) → (x : Line) → is_open_write k p n (j ++ l ∷ []) x ≡ is_open_write k p n j x
open-same k p n j l h (line.Apply m o t d v) = ap (λ (b : Bool). (m == n) && (same_key o k && ((partition_of d == p) && Rattle.std.specs.Prelude.not b))) (any-other (is_done_line k n t) j l (h t))
open-same k p n j l h x = refl

-- a write that was open is still open
pub closed-before : (k : ClusterKey) (p : ℕ) (j : List Line) (l : Line) → enters_key k l ≡ false → ((t : ℕ) → is_done_line k (master k p j) t l ≡ false) → has_open_write k p (j ++ l ∷ []) ≡ false → has_open_write k p j ≡ false
unfolding has_open_write
closed-before k p j l e h c = (or_parts (list_any (is_open_write k p (master k p j) j) j) (is_open_write k p (master k p j) j l)
    (sym (any-more (is_open_write k p (master k p j) j) j l)
    ∙ (sym (any_lines (is_open_write k p (master k p j) (j ++ l ∷ [])) (is_open_write k p (master k p j) j) (open-same k p (master k p j) j l h) (j ++ l ∷ []))
    ∙ (sym (ap (λ (m : ℕ). list_any (is_open_write k p m (j ++ l ∷ [])) (j ++ l ∷ [])) (master-other k p j l e)) ∙ c)))).0

-- ---- folds

entry-other : (by : Policy) (k : ClusterKey) (n : ℕ) (d : List ℕ) (j : List Line) (l : Line) → enters_key k l ≡ false → entry by k n d (j ++ l ∷ []) ≡ entry by k n d j
unfolding entry
entry-other by k n d j l e = ap (option_and_then (λ before. content by n d before)) (lines_before-other (is_enter k n) j l (unentered k n l e))

join_same : (by : Policy) (f g : ℕ → Option Version) → ((n : ℕ) → f n ≡ g n) → (ms : List Member) → join_all by (map (λ m. f m.id) ms) ≡ join_all by (map (λ m. g m.id) ms)
join_same by f g h [] = refl
join_same by f g h (m ∷ ms) = ap₂ (join by) (h m.id) (join_same by f g h ms)

pub fold-other : (by : Policy) (k : ClusterKey) (d : List ℕ) (j : List Line) (l : Line) → enters_key k l ≡ false → ((x : Option Version) → applied_in_step by k d x l ≡ x) → fold_of by k d (j ++ l ∷ []) ≡ fold_of by k d j
unfolding fold_of
fold-other by k d j l e h = ap₂ (join by)
    (ap (λ (ms : List Member). join_all by (map (λ m. entry by k m.id d (j ++ l ∷ [])) ms)) (members-other k j l e)
    ∙ join_same by (λ n. entry by k n d (j ++ l ∷ [])) (λ n. entry by k n d j) (λ n. entry-other by k n d j l e) (members k j))
    (applied_in-more by k d j l ∙ h (applied_in by k d j))

-- ---- all of it

-- the line leaves what is asked of the view's replicas at the record as it was, or asks less
pub record IsQuiet (j : List Line) (l : Line) (k : ClusterKey) (d : List ℕ) : Type 0 where
  pub enters : enters_key k l ≡ false
  pub settles : is_settled_line k (master k (partition_of d) j) (partition_of d) l ≡ false
  pub exchanges : is_exchanged k (master k (partition_of d) j) l ≡ false
  pub ends : (t : ℕ) → is_done_line k (master k (partition_of d) j) t l ≡ false
  pub applies : (by : Policy) (x : Option Version) → applied_in_step by k d x l ≡ x
  pub views : (n : ℕ) (v : Option ClusterKey) → view_step n v l ≡ Some k → v ≡ Some k
  pub contents : (by : Policy) (r : ℕ) (x : Option Version) → view r j ≡ Some k → content_step by r d x l ≡ x

in_view : (j : List Line) (k : ClusterKey) (r : ℕ) → view r j ≡ Some k → is_in_view k r j ≡ true
in_view j k r e = ap (λ (o : Option ClusterKey). is_view_key o k) e ∙ same_key_itself k

turned : (a b c : Bool) → (a && (b || c)) ≡ false → (b && a) ≡ false
turned true true c e = e
turned true false c e = refl
turned false true c e = refl
turned false false c e = refl

-- a node in the view is none that the line may have parted from it
apart : (j : List Line) (k : ClusterKey) (n r : ℕ) (a b : Bool) → (a && (b || is_in_view k n j)) ≡ false → view r j ≡ Some k → ((n == r) && a) ≡ false
apart j k n r false b h v = go (n == r)
  where
    go : (c : Bool) → (c && false) ≡ false
    go true = refl
    go false = refl
apart j k n r true b h v = go (n == r) refl
  where
    last : (c d : Bool) → d ≡ true → (c || d) ≡ false → true ≡ false
    last true d i q = q
    last false d i q = sym i ∙ q

    go : (c : Bool) → (n == r) ≡ c → (c && true) ≡ false
    go false i = refl
    go true i = last b (is_in_view k n j) (in_view j k n (ap (λ (z : ℕ). view z j) (number_same n r i) ∙ v)) h

unjoined : (b : Bool) (by : Policy) (x : Option Version) (v : Version) → b ≡ false → joined_if b by x v ≡ x
unjoined true by x v e = differ refl e
unjoined false by x v e = refl

undropped : (b : Bool) (x : Option Version) → b ≡ false → cond b None x ≡ x
undropped true x e = differ refl e
undropped false x e = refl

-- the view of a node that enters another
entered_other : (n m : ℕ) (l k : ClusterKey) (v : Option ClusterKey) → same_key l k ≡ false → cond (m == n) (some_key l) v ≡ Some k → v ≡ Some k
entered_other n m l k v e h = go (m == n) (same_key l keys.none) h
  where
    go : (b c : Bool) → cond b (cond c None (Some l)) v ≡ Some k → v ≡ Some k
    go true true q = absurd (no_some q)
    go true false q = differ (ap (λ (z : ClusterKey). same_key z k) (some_same q) ∙ same_key_itself k) e
    go false c q = q

stopped : (n m : ℕ) (k : ClusterKey) (v : Option ClusterKey) → cond (m == n) None v ≡ Some k → v ≡ Some k
stopped n m k v h = go (m == n) h
  where
    go : (b : Bool) → cond b None v ≡ Some k → v ≡ Some k
    go true q = absurd (no_some q)
    go false q = q

ends_not : (n m : ℕ) (a b : Bool) → ((n == m) && a) ≡ false → ((n == m) && (a && b)) ≡ false
ends_not n m a b e = go (n == m) a e
  where
    go : (c o : Bool) → (c && o) ≡ false → (c && (o && b)) ≡ false
    go true true q = differ refl q
    go true false q = refl
    go false o q = refl

pub quiet : (j : List Line) (l : Line) (k : ClusterKey) (d : List ℕ) → may_part j l k d ≡ false → IsQuiet j l k d
quiet j (line.Apply n l t e v) k d h = record {
  enters = refl;
  settles = refl;
  exchanges = refl;
  ends = λ u. refl;
  applies = λ by x. unjoined (same_key l k && bytes_eq e d) by x v (turned (bytes_eq e d) (same_key l k) (is_in_view k n j) h);
  views = λ m o q. q;
  contents = λ by r x q. unjoined ((n == r) && bytes_eq e d) by x v (apart j k n r (bytes_eq e d) (same_key l k) h q);
}
quiet j (line.Merge n l e v) k d h = record {
  enters = refl;
  settles = refl;
  exchanges = refl;
  ends = λ u. refl;
  applies = λ by x. refl;
  views = λ m o q. q;
  contents = λ by r x q. unjoined ((n == r) && bytes_eq e d) by x v (apart j k n r (bytes_eq e d) false h q);
}
quiet j (line.Drop n l p) k d h = record {
  enters = refl;
  settles = refl;
  exchanges = refl;
  ends = λ u. refl;
  applies = λ by x. refl;
  views = λ m o q. q;
  contents = λ by r x q. undropped ((n == r) && (p == partition_of d)) x (apart j k n r (p == partition_of d) false h q);
}
quiet j (line.Settled n l p) k d h = record {
  enters = refl;
  settles = h;
  exchanges = refl;
  ends = λ u. refl;
  applies = λ by x. refl;
  views = λ m o q. q;
  contents = λ by r x q. refl;
}
quiet j (line.Exchanged n l) k d h = record {
  enters = refl;
  settles = refl;
  exchanges = h;
  ends = λ u. refl;
  applies = λ by x. refl;
  views = λ m o q. q;
  contents = λ by r x q. refl;
}
quiet j (line.Done n l t) k d h = record {
  enters = refl;
  settles = refl;
  exchanges = refl;
  ends = λ u. ends_not n (master k (partition_of d) j) (same_key l k) (t == u) h;
  applies = λ by x. refl;
  views = λ m o q. q;
  contents = λ by r x q. refl;
}
quiet j (line.Enter n l ms) k d h = record {
  enters = h;
  settles = refl;
  exchanges = refl;
  ends = λ u. refl;
  applies = λ by x. refl;
  views = λ m o q. entered_other m n l k o h q;
  contents = λ by r x q. refl;
}
quiet j (line.Stop n) k d h = record {
  enters = refl;
  settles = refl;
  exchanges = refl;
  ends = λ u. refl;
  applies = λ by x. refl;
  views = λ m o q. stopped m n k o q;
  contents = λ by r x q. refl;
}
quiet j l k d h = record {
  enters = refl;
  settles = refl;
  exchanges = refl;
  ends = λ u. refl;
  applies = λ by x. refl;
  views = λ m o q. q;
  contents = λ by r x q. refl;
}
