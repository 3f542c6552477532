-- Lists of numbers and of members: who stands in them, and who is the greatest.
use Rattle.std.proofs.Common.{◌≡◌, ℕ, ◌≤◌, ◌==◌, ◌||◌, ◌&&◌, not, nat_le, Bool, true, false, cond, List, [], ◌∷◌, refl, sym, ap, ◌∙◌, ◌⊎◌, inl, inr, arith}
use Rattle.std.proofs.lemmas.Bool.Decides.{nat_tests}
use Rattle.cluster_types.specs.declared.member.Member.{Member}
use Rattle.cluster_types.specs.Distinct.{without}
use Rattle.cluster_types.specs.Members.{ids_of}
use Rattle.partition_lists.proofs.InOrderLaws.{equal}
use Rattle.node_rules.specs.Agreement.{others_among}
use Rattle.node_rules.specs.Copies.{is_nil}
use Rattle.node_rules.specs.Exchange.{is_member}
use Rattle.node_rules.specs.Hearing.{is_greatest}
use Rattle.node_rules.specs.Tables.{contains}
use Rattle.journal_readings.specs.Lines.{has_node}
use Rattle.cluster_rules.proofs.KeptFacts.{num_same}
use Rattle.cluster_laws.proofs.At.{differ}
use Rattle.key_laws.proofs.Addressed.{in_without}
use Rattle.run_laws.specs.Tied.{Among}
use Rattle.calm_laws.specs.Turns.{Roll}

-- ---- numbers

pub contains_among : (xs : List ℕ) (x : ℕ) → contains xs x ≡ true → Among xs x
contains_among [] x e = differ e refl
contains_among (y ∷ xs) x e = go (y == x) refl e (contains_among xs x)
  where
    go : (b : Bool) → (y == x) ≡ b → (b || contains xs x) ≡ true → (contains xs x ≡ true → Among xs x) → (y ≡ x) ⊎ Among xs x
    go true s f rest = inl (num_same y x s)
    go false s f rest = inr (rest f)

pub nothing_there : (xs : List ℕ) → ((x : ℕ) → contains xs x ≡ false) → is_nil xs ≡ true
nothing_there [] h = refl
nothing_there (x ∷ xs) h = differ (ap (λ (b : Bool). b || contains xs x) (equal x x refl)) (h x)

pub without_keeps : (xs : List ℕ) (y x : ℕ) → (x ≡ y → ⊥) → contains xs x ≡ true → contains (without xs y) x ≡ true
without_keeps [] y x d e = differ e refl
without_keeps (z ∷ xs) y x d e = go (z == x) refl e (without_keeps xs y x d)
  where
    behind : (b : Bool) → contains (without xs y) x ≡ true → contains (cond (not b) (z ∷ without xs y) (without xs y)) x ≡ true
    behind true f = f
    behind false f = later (z == x) f
      where
        later : (b : Bool) → contains (without xs y) x ≡ true → (b || contains (without xs y) x) ≡ true
        later true f = refl
        later false f = f

    here : (b : Bool) → (z == y) ≡ b → z ≡ x → contains (cond (not b) (z ∷ without xs y) (without xs y)) x ≡ true
    here true s f = absurd (d (sym f ∙ num_same z y s))
    here false s f = ap (λ (b : Bool). b || contains (without xs y) x) (equal z x f)

    go : (b : Bool) → (z == x) ≡ b → (b || contains xs x) ≡ true → (contains xs x ≡ true → contains (without xs y) x ≡ true) → contains (without (z ∷ xs) y) x ≡ true
    go true s f rest = here (z == y) refl (num_same z x s)
    go false s f rest = behind (z == y) (rest f)

-- ---- members

pub member_listed : (ms : List Member) (x : ℕ) → is_member ms x ≡ contains (ids_of ms) x
member_listed [] x = refl
member_listed (m ∷ ms) x = ap (λ (b : Bool). (m.id == x) || b) (member_listed ms x)

pub not_greatest : (ms : List Member) (me x : ℕ) → contains (ids_of ms) x ≡ true → nat_le x me ≡ false → is_greatest me ms ≡ false
not_greatest [] me x e above = differ e refl
not_greatest (m ∷ ms) me x e above = go (m.id == x) refl e (λ f. not_greatest ms me x f above)
  where
    later : (b : Bool) → is_greatest me ms ≡ false → (b && is_greatest me ms) ≡ false
    later true f = f
    later false f = refl

    go : (b : Bool) → (m.id == x) ≡ b → (b || contains (ids_of ms) x) ≡ true → (contains (ids_of ms) x ≡ true → is_greatest me ms ≡ false) → (nat_le m.id me && is_greatest me ms) ≡ false
    go true s f rest = ap (λ (b : Bool). b && is_greatest me ms) (ap (λ (z : ℕ). nat_le z me) (num_same m.id x s) ∙ above)
    go false s f rest = later (nat_le m.id me) (rest f)

pub greatest_is : (ms : List Member) (me : ℕ) → ((x : ℕ) → contains (ids_of ms) x ≡ true → nat_le x me ≡ true) → is_greatest me ms ≡ true
greatest_is [] me h = refl
greatest_is (m ∷ ms) me h =
    ap (λ (b : Bool). b && is_greatest me ms) (h m.id (ap (λ (b : Bool). b || contains (ids_of ms) m.id) (equal m.id m.id refl)))
    ∙ greatest_is ms me (λ x e. h x (behind x (m.id == x) e))
  where
    behind : (x : ℕ) (b : Bool) → contains (ids_of ms) x ≡ true → (b || contains (ids_of ms) x) ≡ true
    behind x true e = refl
    behind x false e = e

-- ---- a group

above : (x y : ℕ) → x ≤ y → (x ≡ y → ⊥) → nat_le y x ≡ false
above x y le d = go (nat_le y x) refl
  where
    equal : x ≤ y → nat_le y x ≡ true → x ≡ y
    equal le e = grind (arith, nat_tests)

    go : (b : Bool) → nat_le y x ≡ b → nat_le y x ≡ false
    go true e = absurd (d (equal le e))
    go false e = e

at_most : (x y : ℕ) → x ≤ y → nat_le x y ≡ true
at_most x y le = grind (arith, nat_tests)

-- who isn't the greatest of the group isn't the greatest of the list
pub only_leader : (gs : List ℕ) (g : ℕ) (set : List Member) → Roll gs g set → (m : ℕ) → has_node gs m ≡ true → (m ≡ g → ⊥) → is_greatest m set ≡ false
only_leader gs g set r m here d = not_greatest set m g (r.ids g ∙ r.lead) (above m g (r.greatest m here) d)

pub leader_is : (gs : List ℕ) (g : ℕ) (set : List Member) → Roll gs g set → is_greatest g set ≡ true
leader_is gs g set r = greatest_is set g (λ x e. at_most x g (r.greatest x (sym (r.ids x) ∙ e)))

pub other_in : (gs : List ℕ) (g : ℕ) (set : List Member) → Roll gs g set → (a m : ℕ) → has_node gs m ≡ true → (m ≡ a → ⊥) → contains (others_among a set) m ≡ true
other_in gs g set r a m here d = without_keeps (ids_of set) a m d (r.ids m ∙ here)

pub other_here : (gs : List ℕ) (g : ℕ) (set : List Member) → Roll gs g set → (a m : ℕ) → contains (others_among a set) m ≡ true → has_node gs m ≡ true
other_here gs g set r a m e = sym (r.ids m) ∙ in_without (ids_of set) a m e

pub member_here : (gs : List ℕ) (g : ℕ) (set : List Member) → Roll gs g set → (m : ℕ) → has_node gs m ≡ true → is_member set m ≡ true
member_here gs g set r m here = member_listed set m ∙ r.ids m ∙ here
