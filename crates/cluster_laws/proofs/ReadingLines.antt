-- What the readings of a journal are after one line more.
use Rattle.std.proofs.Common.{◌≡◌, ℕ, ◌==◌, Bool, true, false, cond, ◌&&◌, ◌||◌, List, [], ◌∷◌, ◌++◌, Option, Some, None, refl, sym, ap, ap₂, subst, ◌∙◌, arith, ◌⊎◌, inl, inr, option_map}
use Rattle.std.specs.Prelude.{map, option_and_then, bytes_eq}
use Rattle.std.specs.List.{list_any}
use Rattle.std.proofs.lemmas.Bool.Decides.{nat_tests}
use Rattle.conflict_order.specs.declared.policy.Policy.{Policy}
use Rattle.conflict_order.specs.declared.version.Version.{Version}
use Rattle.conflict_order.specs.Join.{join, AtMost}
use Rattle.conflict_order.proofs.JoinLaws.{join_left, join_right, join_of_AtMost, join_assoc, join_comm, AtMost_join_right, none_join}
use Rattle.cluster_types.specs.declared.cluster_key.ClusterKey.{ClusterKey}
use Rattle.cluster_types.specs.declared.member.Member.{Member}
use Rattle.cluster_types.specs.Members.{ids_of}
use Rattle.journal_lines.specs.declared.line.Line.{Line}
use Rattle.journal_lines.specs.declared.line.Line.TheVariants as line
use Rattle.journal_readings.specs.Lines.{lines_before, is_enter}
use Rattle.journal_readings.specs.Contents.{content, joined_if, join_all}
use Rattle.journal_readings.specs.Entries.{entry}
use Rattle.journal_readings.specs.Views.{members}
use Rattle.journal_readings.specs.Stamps.{is_empty_at_entry, entered_empty}
use Rattle.journal_readings.proofs.CopyLaws.{same_digest_is}
use Rattle.journal_readings.proofs.StepLaws.{lines_before-more, entry-more}
use Rattle.cluster_laws.specs.Changed.{at_number, at_key}
use Rattle.cluster_laws.specs.Stay.{Versions}
use Rattle.cluster_laws.specs.Picture.{Seen}
use Rattle.cluster_laws.specs.Changes.{with_version}
use Rattle.cluster_laws.proofs.At.{number_same, key_same, differ}
pub use Rattle.cluster_types.proofs.BoolFacts.{or_cases, neither_left as or_left_false, neither_right as or_right_false, or_none}
pub use Rattle.std.proofs.lemmas.Bool.{or_left as or_left_true, or_right as or_right_true}
use Rattle.cluster_types.specs.ClusterKeys.{same_key}
use Rattle.cluster_types.specs.Distinct.{contains}

-- ---- tests

pub eq_turned : (a b : ℕ) → (a == b) ≡ (b == a)
eq_turned a b = grind (arith, nat_tests)

-- what passes the one test passes the other
pub any_wider : {A : Type 0} (f g : A → Bool) → ((x : A) → f x ≡ true → g x ≡ true) → (xs : List A) → list_any f xs ≡ true → list_any g xs ≡ true
any_wider f g h [] e = e
any_wider f g h (x ∷ xs) e = go (f x) refl (any_wider f g h xs) e
  where
    go : (b : Bool) → f x ≡ b → (list_any f xs ≡ true → list_any g xs ≡ true) → (b || list_any f xs) ≡ true → (g x || list_any g xs) ≡ true
    go true i rest q = or_left_true (g x) (list_any g xs) (h x i)
    go false i rest q = or_right_true (g x) (list_any g xs) (rest q)

-- ---- versions

-- a version more at a digest, by the journal's words
pub version_as : (by : Policy) (f : Versions) (e : List ℕ) (v : Version) (d : List ℕ) → with_version by f e v d ≡ joined_if (bytes_eq e d) by (f d) v
version_as by f e v d = go (bytes_eq e d) refl
  where
    go : (b : Bool) → bytes_eq e d ≡ b → cond b (join by (f e) (Some v)) (f d) ≡ joined_if b by (f d) v
    go true i = ap (λ (z : List ℕ). join by (f z) (Some v)) (same_digest_is e d i)
    go false i = refl

-- a node stores a version
pub stored : (by : Policy) (node : ℕ → Seen) (m : ℕ) (new : Seen) (e : List ℕ) (v : Version) (n : ℕ) (d : List ℕ) → new.content ≡ with_version by (node m).content e v
    → (at_number node m new n).content d ≡ joined_if ((m == n) && bytes_eq e d) by ((node n).content d) v
stored by node m new e v n d h = go (m == n) refl
  where
    go : (b : Bool) → (m == n) ≡ b → (cond b new (node n)).content d ≡ joined_if (b && bytes_eq e d) by ((node n).content d) v
    go true i = ap (λ (f : Versions). f d) h ∙ (version_as by (node m).content e v d ∙ ap (λ (z : ℕ). joined_if (bytes_eq e d) by ((node z).content d) v) (number_same m n i))
    go false i = refl

-- the fold of a key with a version more
pub key_stored : (by : Policy) (f : ClusterKey → Versions) (l : ClusterKey) (e : List ℕ) (v : Version) (k : ClusterKey) (d : List ℕ)
    → at_key f l (with_version by (f l) e v) k d ≡ joined_if (same_key l k && bytes_eq e d) by (f k d) v
key_stored by f l e v k d = go (same_key l k) refl
  where
    go : (b : Bool) → same_key l k ≡ b → (cond b (with_version by (f l) e v) (f k)) d ≡ joined_if (b && bytes_eq e d) by (f k d) v
    go true i = version_as by (f l) e v d ∙ ap (λ (z : ClusterKey). joined_if (bytes_eq e d) by (f z d) v) (key_same l k i)
    go false i = refl

-- ---- entries

pub unentered : (test : Line → Bool) (ls : List Line) → list_any test ls ≡ false → lines_before test ls ≡ None
unentered test [] e = refl
unentered test (l ∷ ls) e = go (test l) (unentered test ls) e
  where
    go : (b : Bool) → (list_any test ls ≡ false → lines_before test ls ≡ None) → (b || list_any test ls) ≡ false → cond b (Some []) (option_map (λ before. l ∷ before) (lines_before test ls)) ≡ None
    go true rest q = cc
    go false rest q = ap (option_map (λ before. l ∷ before)) (rest q)

pub entry-none : (by : Policy) (k : ClusterKey) (n : ℕ) (d : List ℕ) (ls : List Line) → list_any (is_enter k n) ls ≡ false → entry by k n d ls ≡ None
unfolding entry
entry-none by k n d ls e = ap (option_and_then (λ before. content by n d before)) (unentered (is_enter k n) ls e)

pub entry-other : (by : Policy) (k : ClusterKey) (n : ℕ) (d : List ℕ) (ls : List Line) (l : Line) → is_enter k n l ≡ false → entry by k n d (ls ++ l ∷ []) ≡ entry by k n d ls
entry-other by k n d ls l e = entry-more by k n d ls l ∙ (ap (λ (b : Bool). cond (list_any (is_enter k n) ls) (entry by k n d ls) (cond b (content by n d ls) None)) e ∙ go (list_any (is_enter k n) ls) refl)
  where
    go : (b : Bool) → list_any (is_enter k n) ls ≡ b → cond b (entry by k n d ls) None ≡ entry by k n d ls
    go true i = refl
    go false i = sym (entry-none by k n d ls i)

pub entry-here : (by : Policy) (k : ClusterKey) (n : ℕ) (d : List ℕ) (ls : List Line) (l : Line) → is_enter k n l ≡ true → list_any (is_enter k n) ls ≡ false → entry by k n d (ls ++ l ∷ []) ≡ content by n d ls
entry-here by k n d ls l e f = entry-more by k n d ls l ∙ ap₂ (λ (a b : Bool). cond a (entry by k n d ls) (cond b (content by n d ls) None)) f e

pub empty-other : (k : ClusterKey) (n p : ℕ) (ls : List Line) (l : Line) → list_any (is_enter k n) ls ≡ true → is_empty_at_entry k n p (ls ++ l ∷ []) ≡ is_empty_at_entry k n p ls
unfolding is_empty_at_entry
empty-other k n p ls l e = ap (entered_empty n p) (lines_before-more (is_enter k n) ls l ∙ ap (λ (b : Bool). cond b (lines_before (is_enter k n) ls) (cond (is_enter k n l) (Some ls) None)) e)

pub empty-here : (k : ClusterKey) (n p : ℕ) (ls : List Line) (l : Line) → is_enter k n l ≡ true → list_any (is_enter k n) ls ≡ false → is_empty_at_entry k n p (ls ++ l ∷ []) ≡ entered_empty n p (Some ls)
unfolding is_empty_at_entry
empty-here k n p ls l e f = ap (entered_empty n p) (lines_before-more (is_enter k n) ls l ∙ ap₂ (λ (a b : Bool). cond a (lines_before (is_enter k n) ls) (cond b (Some ls) None)) f e)

-- ---- members

-- the line enters the view of this key
abbrev pub enters_key : ClusterKey → Line → Bool
enters_key k (line.Enter n l ms) = same_key l k
enters_key k _ = false

pub members-more : (k : ClusterKey) (ls : List Line) (l : Line) → members k (ls ++ l ∷ []) ≡ cond (list_any (enters_key k) ls) (members k ls) (members k (l ∷ []))
members-more k [] l = refl
members-more k (line.Enter n j ms ∷ ls) l = go (same_key j k) (members-more k ls l)
  where
    go : (b : Bool) → members k (ls ++ l ∷ []) ≡ cond (list_any (enters_key k) ls) (members k ls) (members k (l ∷ []))
        → cond b ms (members k (ls ++ l ∷ [])) ≡ cond (b || list_any (enters_key k) ls) (cond b ms (members k ls)) (members k (l ∷ []))
    go true rest = refl
    go false rest = rest
members-more k (x ∷ ls) l = members-more k ls l

pub members-none : (k : ClusterKey) (ls : List Line) → list_any (enters_key k) ls ≡ false → members k ls ≡ []
members-none k [] e = refl
members-none k (line.Enter n j ms ∷ ls) e = go (same_key j k) (members-none k ls) e
  where
    go : (b : Bool) → (list_any (enters_key k) ls ≡ false → members k ls ≡ []) → (b || list_any (enters_key k) ls) ≡ false → cond b ms (members k ls) ≡ []
    go true rest q = cc
    go false rest q = rest q
members-none k (x ∷ ls) e = members-none k ls e

pub enter_is_key : (k : ClusterKey) (n : ℕ) (l : Line) → is_enter k n l ≡ true → enters_key k l ≡ true
enter_is_key k n (line.Enter m j ms) e = Rattle.cluster_types.proofs.BoolFacts.and_right (m == n) (same_key j k) e
enter_is_key k n (line.Tick m) e = e
enter_is_key k n l e = e

-- ---- joins of entries

-- one of them changes from nothing to a version
pub record OneMore (f g : ℕ → Option Version) (n : ℕ) (c : Option Version) : Type 0 where
  pub here : (f n ≡ None) × (g n ≡ c)
  pub others : (m : ℕ) → (m ≡ n → ⊥) → g m ≡ f m

abbrev pub joined : Policy → (ℕ → Option Version) → List Member → Option Version
joined by f ms = join_all by (map (λ m. f m.id) ms)

absorbed : (by : Policy) (f g : ℕ → Option Version) (n : ℕ) (c : Option Version) → OneMore f g n c → (ms : List Member) → join by (joined by g ms) c ≡ join by (joined by f ms) c
absorbed by f g n c h [] = refl
absorbed by f g n c h (m ∷ ms) = join_assoc by (g m.id) (joined by g ms) c ∙ (ap (λ (z : Option Version). join by (g m.id) z) (absorbed by f g n c h ms) ∙ go (Rattle.cluster_laws.proofs.At.number_cases m.id n))
  where
    go : (m.id ≡ n) ⊎ (m.id ≡ n → ⊥) → join by (g m.id) (join by (joined by f ms) c) ≡ join by (join by (f m.id) (joined by f ms)) c
    go (inr i) = ap (λ (z : Option Version). join by z (join by (joined by f ms) c)) (h.others m.id i) ∙ sym (join_assoc by (f m.id) (joined by f ms) c)
    go (inl i) = ap (λ (z : ℕ). join by (g z) (join by (joined by f ms) c)) i ∙ (ap (λ (z : Option Version). join by z (join by (joined by f ms) c)) h.here.1
        ∙ (join_of_AtMost (join_right (joined by f ms) c) ∙ (sym (ap (λ (z : Option Version). join by z c) (none_join by (joined by f ms))) ∙ ap (λ (z : Option Version). join by (join by z (joined by f ms)) c) (sym (ap f i ∙ h.here.0)))))

covered : (by : Policy) (g : ℕ → Option Version) (n : ℕ) (ms : List Member) → contains (ids_of ms) n ≡ true → AtMost by (g n) (joined by g ms)
covered by g n [] e = cc
covered by g n (m ∷ ms) e = go (m.id == n) refl (covered by g n ms) e
  where
    go : (b : Bool) → (m.id == n) ≡ b → (contains (ids_of ms) n ≡ true → AtMost by (g n) (joined by g ms)) → (b || contains (ids_of ms) n) ≡ true → AtMost by (g n) (join by (g m.id) (joined by g ms))
    go true i rest q = subst (λ (z : ℕ). AtMost by (g z) (join by (g m.id) (joined by g ms))) (number_same m.id n i) (join_left (g m.id) (joined by g ms))
    go false i rest q = AtMost_join_right (g m.id) (rest q)

pub one_entry : (by : Policy) (f g : ℕ → Option Version) (n : ℕ) (c : Option Version) → OneMore f g n c → (ms : List Member) → contains (ids_of ms) n ≡ true → joined by g ms ≡ join by (joined by f ms) c
one_entry by f g n c h ms e = sym (join_comm by (joined by g ms) c ∙ join_of_AtMost (subst (λ (z : Option Version). AtMost by z (joined by g ms)) h.here.1 (covered by g n ms e))) ∙ absorbed by f g n c h ms

pub same_entries : (by : Policy) (f g : ℕ → Option Version) → ((m : ℕ) → g m ≡ f m) → (ms : List Member) → joined by g ms ≡ joined by f ms
same_entries by f g h [] = refl
same_entries by f g h (m ∷ ms) = ap₂ (join by) (h m.id) (same_entries by f g h ms)

pub turned : (by : Policy) (a b c : Option Version) → join by (join by a b) c ≡ join by (join by a c) b
turned by a b c = join_assoc by a b c ∙ (ap (join by a) (join_comm by b c) ∙ sym (join_assoc by a c b))
