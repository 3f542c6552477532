-- Masters, replicas and classes by the ground alone.
use Rattle.std.proofs.Common.{◌≡◌, ℕ, ◌<◌, ◌==◌, Bool, true, false, not, ◌&&◌, List, [], ◌∷◌, Option, Some, None, refl, sym, ap, ◌∙◌, arith, ◌⊎◌, inl, inr, ⊎_elim, zero, suc, take}
use Rattle.std.specs.Prelude.{find, filter, unwrap_or, if◌then◌else◌}
use Rattle.std.specs.List.{list_all}
use Rattle.std.proofs.lemmas.Bool.{or_left, or_right}
use Rattle.cluster_types.specs.declared.cluster_key.ClusterKey.{ClusterKey}
use Rattle.cluster_types.specs.declared.copy_state.CopyState.{CopyState}
use Rattle.cluster_types.specs.declared.copy_state.CopyState.TheVariants.{Empty, Part, Whole}
use Rattle.cluster_types.specs.Members.{ids_of}
use Rattle.cluster_types.proofs.BoolFacts.{not_true as not_false}
use Rattle.cluster_types.specs.ClusterKeys.{same_key}
use Rattle.cluster_types.specs.Distinct.{contains}
use Rattle.partition_lists.specs.Acting.{is_empty, is_whole, list_master, is_wholest_by}
use Rattle.partition_lists.specs.Classes.{no_class, is_whole_with, is_that, is_in_class_by}
use Rattle.partition_lists.proofs.ListLaws.{list_contains, any_is_contained}
use Rattle.cluster_laws.specs.Ground.{Ground, IsGround, is_view_member, view_list, view_master, is_view_replica, view_state, view_acting, is_view_empty, same_view_class, is_view_class_first, view_sends_to, asks}
use Rattle.cluster_laws.proofs.At.{keys, number_same, number_here, key_same, differ, and_left, and_right, and_both, or_cases}

-- ---- members and the list

pub member_listed : (G : Ground) (k : ClusterKey) (p n : ℕ) → is_view_member G k n ≡ true → contains (view_list G k p) n ≡ true
member_listed G k p n e = (any_is_contained n (view_list G k p)).1 ((list_contains (G.members k) p n).1 ((any_is_contained n (ids_of (G.members k))).0 e))

pub listed_member : (G : Ground) (k : ClusterKey) (p n : ℕ) → contains (view_list G k p) n ≡ true → is_view_member G k n ≡ true
listed_member G k p n e = (any_is_contained n (ids_of (G.members k))).1 ((list_contains (G.members k) p n).0 ((any_is_contained n (view_list G k p)).0 e))

first_taken : (f : ℕ) (l : List ℕ) (n : ℕ) → 0 < f → contains l n ≡ true → contains (take f l) (list_master l) ≡ true
first_taken zero l n pos e = absurd (omega arith)
first_taken (suc f) [] n pos e = differ e refl
first_taken (suc f) (m ∷ l) n pos e = or_left (m == m) (contains (take f l) m) (number_here m)

pub master_replica : (G : Ground) → IsGround G → (k : ClusterKey) (p n : ℕ) → is_view_member G k n ≡ true → is_view_replica G k p (view_master G k p) ≡ true
unfolding is_view_replica view_master
master_replica G ground k p n e = first_taken G.factor (view_list G k p) n ground.some (member_listed G k p n e)

taken : (f : ℕ) (l : List ℕ) (n : ℕ) → contains (take f l) n ≡ true → contains l n ≡ true
taken zero l n e = differ e refl
taken (suc f) [] n e = e
taken (suc f) (m ∷ l) n e = ⊎_elim (λ z. or_left (m == n) (contains l n) z) (λ z. grind (arith, taken f l n z)) (or_cases (m == n) (contains (take f l) n) e)

pub replica_member : (G : Ground) (k : ClusterKey) (p n : ℕ) → is_view_replica G k p n ≡ true → is_view_member G k n ≡ true
unfolding is_view_replica
replica_member G k p n e = listed_member G k p n (taken G.factor (view_list G k p) n e)

-- ---- a partition that is empty everywhere

empty_is : (c : CopyState) → is_empty c ≡ true → c ≡ Empty
empty_is Empty e = refl
empty_is Part e = differ e refl
empty_is (Whole k c) e = differ e refl

all_listed : (test : ℕ → Bool) (l : List ℕ) (n : ℕ) → list_all test l ≡ true → contains l n ≡ true → test n ≡ true
all_listed test [] n a e = differ e refl
all_listed test (m ∷ l) n a e = ⊎_elim (λ z. ap test (sym (number_same m n z)) ∙ and_left (test m) (list_all test l) a) (λ z. all_listed test l n (and_right (test m) (list_all test l) a) z) (or_cases (m == n) (contains l n) e)

pub empty_row : (G : Ground) (k : ClusterKey) (p n : ℕ) → is_view_empty G k p ≡ true → is_view_member G k n ≡ true → G.row k n p ≡ Empty
unfolding is_view_empty
empty_row G k p n a e = empty_is (G.row k n p) (all_listed (λ m. is_empty (G.row k m p)) (view_list G k p) n a (member_listed G k p n e))

not_whole : (c : CopyState) → is_empty c ≡ true → is_whole c ≡ false
not_whole Empty e = refl
not_whole Part e = refl
not_whole (Whole k c) e = differ e refl

less_left : (a b : Bool) → a ≡ false → (a && b) ≡ false
less_left a b e = grind arith

none_found : (test : ℕ → Bool) (l : List ℕ) → ((n : ℕ) → contains l n ≡ true → test n ≡ false) → find test l ≡ None
none_found test [] h = refl
none_found test (m ∷ l) h = ap (λ (b : Bool). if b then Some m else find test l) (h m (or_left (m == m) (contains l m) (number_here m))) ∙ none_found test l (λ n e. h n (grind arith))

pub empty_acting : (G : Ground) (k : ClusterKey) (p : ℕ) → is_view_empty G k p ≡ true → view_acting G k p ≡ view_master G k p
unfolding view_acting view_master is_view_empty
empty_acting G k p a = ap (λ (o : Option ℕ). unwrap_or o (view_master G k p)) (none_found (is_wholest_by (view_list G k p) (view_state G k p)) (view_list G k p)
    (λ n e. less_left (is_whole (G.row k n p)) _ (not_whole (G.row k n p) (all_listed (λ m. is_empty (G.row k m p)) (view_list G k p) n a e))))

-- ---- classes

same_whole : (k : ClusterKey) (c : ℕ) (s : CopyState) → is_whole_with k c s ≡ true → s ≡ Whole k c
same_whole k c Empty e = differ refl (sym e)
same_whole k c Part e = differ refl (sym e)
same_whole k c (Whole j u) e = sym (ap (λ (z : ClusterKey). Whole z c) (key_same k j (and_left (same_key k j) (c == u) e)) ∙ ap (Whole j) (number_same c u (and_right (same_key k j) (c == u) e)))

-- two that are equal by their states
pub record Alike (G : Ground) (k : ClusterKey) (p a b : ℕ) : Type 0 where
  pub key : ClusterKey
  pub writes : ℕ
  pub left : G.row k a p ≡ Whole key writes
  pub right : G.row k b p ≡ Whole key writes
  pub counted : (writes == no_class) ≡ false

pub alike : (G : Ground) (k : ClusterKey) (p a b : ℕ) → same_view_class G k p a b ≡ true → (a ≡ b) ⊎ Alike G k p a b
unfolding same_view_class
alike G k p a b h = go (G.row k a p) refl h
  where
    go : (s : CopyState) → G.row k a p ≡ s → is_in_class_by (view_state G k p) a b s ≡ true → (a ≡ b) ⊎ Alike G k p a b
    go Empty i e = differ refl (sym e)
    go Part i e = inl (number_same a b e)
    go (Whole j c) i e = deep (c == no_class) refl e
      where
        deep : (q : Bool) → (c == no_class) ≡ q → (if q then a == b else is_whole_with j c (G.row k b p)) ≡ true → (a ≡ b) ⊎ Alike G k p a b
        deep true z e = inl (number_same a b e)
        deep false z e = inr (record { key = j; writes = c; left = i; right = same_whole j c (G.row k b p) e; counted = z })

own_class : (G : Ground) (k : ClusterKey) (p n : ℕ) → is_empty (G.row k n p) ≡ false → same_view_class G k p n n ≡ true
unfolding same_view_class
own_class G k p n h = go (G.row k n p) refl h
  where
    go : (s : CopyState) → G.row k n p ≡ s → is_empty s ≡ false
        → is_in_class_by (view_state G k p) n n s ≡ true
    go Empty i e = differ refl e
    go Part i e = number_here n
    go (Whole j c) i e = deep (c == no_class)
      where
        deep : (q : Bool) → (if q then n == n else is_whole_with j c (G.row k n p)) ≡ true
        deep true = number_here n
        deep false = ap (is_whole_with j c) i ∙ and_both (same_key j j) (c == c) (keys.here j) (number_here c)

whole_in : (G : Ground) (k : ClusterKey) (p a b : ℕ) (j : ClusterKey) (c : ℕ) → G.row k a p ≡ Whole j c → (c == no_class) ≡ false → same_view_class G k p a b ≡ is_whole_with j c (G.row k b p)
unfolding same_view_class
whole_in G k p a b j c e z = ap (is_in_class_by (view_state G k p) a b) e ∙ ap (λ (q : Bool). if q then a == b else is_whole_with j c (G.row k b p)) z

-- members of one class have one class
pub class_same : (G : Ground) (k : ClusterKey) (p n f b : ℕ) → same_view_class G k p n f ≡ true → same_view_class G k p f b ≡ same_view_class G k p n b
class_same G k p n f b e = ⊎_elim (λ i. ap (λ (z : ℕ). same_view_class G k p z b) (sym i))
    (λ a. whole_in G k p f b a.key a.writes a.right a.counted ∙ sym (whole_in G k p n b a.key a.writes a.left a.counted)) (alike G k p n f e)

record Finds (test : ℕ → Bool) (l : List ℕ) : Type 0 where
  item : ℕ
  found : find test l ≡ Some item
  passes : test item ≡ true
  listed : contains l item ≡ true

finds : (test : ℕ → Bool) (l : List ℕ) (n : ℕ) → contains l n ≡ true → test n ≡ true → Finds test l
finds test [] n e t = differ e refl
finds test (m ∷ l) n e t = go (test m) refl (finds test l n)
  where
    go : (b : Bool) → test m ≡ b → (contains l n ≡ true → test n ≡ true → Finds test l) → Finds test (m ∷ l)
    go true i rest = record { item = m; found = ap (λ (b : Bool). if b then Some m else find test l) i; passes = i; listed = or_left (m == m) (contains l m) (number_here m) }
    go false i rest = let f : Finds test l = rest (⊎_elim (λ z. differ (ap test (number_same m n z) ∙ t) i) (λ z. z) (or_cases (m == n) (contains l n) e)) t in
        record { item = f.item; found = ap (λ (b : Bool). if b then Some m else find test l) i ∙ f.found; passes = f.passes; listed = or_right (m == f.item) (contains l f.item) f.listed }

find_same : (t u : ℕ → Bool) (l : List ℕ) → ((n : ℕ) → t n ≡ u n) → find t l ≡ find u l
find_same t u [] h = refl
find_same t u (m ∷ l) h = ap (λ (b : Bool). if b then Some m else find t l) (h m) ∙ ap (λ (o : Option ℕ). if u m then Some m else o) (find_same t u l h)

-- the first of the node's class
pub record First (G : Ground) (k : ClusterKey) (p n : ℕ) : Type 0 where
  pub node : ℕ
  pub member : is_view_member G k node ≡ true
  pub first : is_view_class_first G k p node ≡ true
  pub same : same_view_class G k p n node ≡ true

pub first_of : (G : Ground) (k : ClusterKey) (p n : ℕ) → is_view_member G k n ≡ true → is_empty (G.row k n p) ≡ false → First G k p n
unfolding is_view_class_first same_view_class
first_of G k p n mem e = record {
  node = f.item;
  member = listed_member G k p f.item f.listed;
  first = ap (λ (o : Option ℕ). is_that o f.item) (find_same (same_view_class G k p f.item) (same_view_class G k p n) (view_list G k p) (λ b. class_same G k p n f.item b f.passes) ∙ f.found) ∙ number_here f.item;
  same = f.passes;
}
  where
    f : Finds (same_view_class G k p n) (view_list G k p)
    f = finds (same_view_class G k p n) (view_list G k p) n (member_listed G k p n mem)
        (own_class G k p n e)

pub alike_full : (G : Ground) (k : ClusterKey) (p a b : ℕ) → same_view_class G k p a b ≡ true → is_empty (G.row k a p) ≡ false → is_empty (G.row k b p) ≡ false
alike_full G k p a b e z = ⊎_elim (λ i. ap (λ (m : ℕ). is_empty (G.row k m p)) (sym i) ∙ z) (λ h. ap is_empty h.right) (alike G k p a b e)

not_true : (b : Bool) → b ≡ false → not b ≡ true
not_true b e = grind arith

pub apart : (a b : ℕ) → (a ≡ b → ⊥) → (a == b) ≡ false
apart a b h = go (a == b) refl
  where
    go : (q : Bool) → (a == b) ≡ q → q ≡ false
    go true e = absurd (h (number_same a b e))
    go false e = refl

pub first_sends : (G : Ground) (k : ClusterKey) (p f r : ℕ) → is_view_replica G k p r ≡ true → (f ≡ r → ⊥) → is_empty (G.row k f p) ≡ false → is_view_class_first G k p f ≡ true → same_view_class G k p f r ≡ false → view_sends_to G k p f r ≡ true
unfolding view_sends_to is_view_class_first same_view_class
first_sends G k p f r rep other full first out = and_both (is_view_replica G k p r) _ rep (and_both (not (f == r)) _ (not_true (f == r) (apart f r other))
    (and_both (not (is_empty (G.row k f p))) _ (not_true (is_empty (G.row k f p)) full) (and_both (is_view_class_first G k p f) _ first (not_true (same_view_class G k p f r) out))))

pub sender_full : (G : Ground) (k : ClusterKey) (p f r : ℕ) → view_sends_to G k p f r ≡ true → is_empty (G.row k f p) ≡ false
unfolding view_sends_to is_view_class_first same_view_class
sender_full G k p f r e = not_false (is_empty (G.row k f p)) (and_left (not (is_empty (G.row k f p))) _ (and_right (not (f == r)) _ (and_right (is_view_replica G k p r) _ e)))

-- who hands records on, does so where not all is empty
pub sender_some : (G : Ground) (k : ClusterKey) (p f r : ℕ) → is_view_member G k f ≡ true → view_sends_to G k p f r ≡ true → is_view_empty G k p ≡ false
sender_some G k p f r mem e = go (is_view_empty G k p) refl
  where
    go : (b : Bool) → is_view_empty G k p ≡ b → b ≡ false
    go true z = differ (ap is_empty (empty_row G k p f z mem)) (sender_full G k p f r e)
    go false z = refl

empty_class : (G : Ground) (k : ClusterKey) (p a b : ℕ) → G.row k a p ≡ Empty → same_view_class G k p a b ≡ false
unfolding same_view_class
empty_class G k p a b e = ap (is_in_class_by (view_state G k p) a b) e

pub class_full : (G : Ground) (k : ClusterKey) (p a b : ℕ) → same_view_class G k p a b ≡ true → is_empty (G.row k a p) ≡ false
class_full G k p a b e = full (G.row k a p) refl
  where
    full : (s : CopyState) → G.row k a p ≡ s → is_empty (G.row k a p) ≡ false
    full Empty i = differ e (empty_class G k p a b i)
    full Part i = ap is_empty i
    full (Whole j c) i = ap is_empty i

pub class_symmetric : (G : Ground) (k : ClusterKey) (p a b : ℕ) → same_view_class G k p a b ≡ true → same_view_class G k p b a ≡ true
class_symmetric G k p a b e = class_same G k p a b a e ∙ own_class G k p a (class_full G k p a b e)

-- the first of another class is asked
in_filter : (test : ℕ → Bool) (l : List ℕ) (n : ℕ) → contains l n ≡ true → test n ≡ true → contains (filter test l) n ≡ true
in_filter test [] n e t = e
in_filter test (m ∷ l) n e t = go (test m) refl (or_cases (m == n) (contains l n) e) (λ z. in_filter test l n z t)
  where
    go : (b : Bool) → test m ≡ b → ((m == n) ≡ true) ⊎ (contains l n ≡ true) → (contains l n ≡ true → contains (filter test l) n ≡ true) → contains (if b then m ∷ filter test l else filter test l) n ≡ true
    go true i (inl z) rest = or_left (m == n) (contains (filter test l) n) z
    go true i (inr z) rest = or_right (m == n) (contains (filter test l) n) (rest z)
    go false i (inl z) rest = differ (ap test (number_same m n z) ∙ t) i
    go false i (inr z) rest = rest z

pub first_asked : (G : Ground) (k : ClusterKey) (p n f : ℕ) → is_view_member G k f ≡ true → is_view_class_first G k p f ≡ true → same_view_class G k p n f ≡ false → contains (asks G k p n) f ≡ true
unfolding asks is_view_class_first same_view_class
first_asked G k p n f mem first out = in_filter _ (view_list G k p) f (member_listed G k p f mem) (and_both (is_view_class_first G k p f) (not (same_view_class G k p n f)) first (not_true (same_view_class G k p n f) out))
