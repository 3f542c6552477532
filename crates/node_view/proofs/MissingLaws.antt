-- Whose rows are missing in a view, as one more comes.
use Rattle.std.proofs.Common.{◌≡◌, ◌≢◌, ◌==◌, ◌&&◌, ◌||◌, ℕ, Bool, true, false, not, cond, List, [], ◌∷◌, ◌++◌, Option, Some, None, Contains, filter, refl, sym, ap, ap₂, subst, ◌∙◌}
use Rattle.std.specs.Prelude.{is_none, if◌then◌else◌}
use Rattle.std.specs.Bool.{beq}
use Rattle.std.specs.List.{list_all, list_any}
use Rattle.std.proofs.lemmas.Bool.{and_right, true≢false}
use Rattle.cluster_types.specs.declared.member.Member.{Member}
use Rattle.cluster_types.specs.Members.{ids_of}
use Rattle.partition_lists.proofs.InOrderLaws.{any_has, equal, from_equal, has_map, index_of, unequal}
use Rattle.exchange.proofs.RowsLaws.{full_is_there, lacks_fresh, others_lack}
use Rattle.node_rules.specs.declared.member_row.MemberRow.{MemberRow}
use Rattle.node_rules.specs.Agreement.{others_among}
use Rattle.node_rules.specs.Copies.{Row}
use Rattle.node_rules.specs.Exchange.{first_missing, is_member, with_row}
use Rattle.node_rules.specs.Map.{lacks, row_of_member}
use Rattle.node_view.proofs.StageLaws.{is_other}

-- a member is one of the ids
pub listed : (ms : List Member) (n : ℕ) → is_member ms n ≡ true → Contains (ids_of ms) n
listed ms n member =
    let found = any_has (λ (m : Member). m.id == n) ms member in
    let at = index_of (ids_of ms) found.0.id (has_map (λ (m : Member). m.id) ms found.0 found.1) in
    subst (Contains (ids_of ms)) (from_equal found.0.id n found.2) (at.0, at.1, at.2 found.0.id)

-- where no row is missing a member's is there
pub full_has : (rows : List MemberRow) (ms : List Member) (n : ℕ) → first_missing rows ms ≡ None → is_member ms n ≡ true → lacks rows n ≡ false
full_has rows ms n full member = go (lacks rows n) refl
  where
    go : (b : Bool) → lacks rows n ≡ b → b ≡ false
    go true e = absurd (lacks_fresh rows n e (full_is_there ms rows n full (listed ms n member)))
    go false e = refl

-- then no row is added
pub full_stays : (rows : List MemberRow) (ms : List Member) (n : ℕ) (row : Row) → first_missing rows ms ≡ None → is_member ms n ≡ true → is_none (first_missing (with_row rows n row) ms) ≡ true
full_stays rows ms n row full member =
    ap (λ (b : Bool). is_none (first_missing (if b then rows ++ record { node = n; row = row } ∷ [] else rows) ms)) (full_has rows ms n full member) ∙ ap is_none full

-- ---- one row more

lacks_more : (rows : List MemberRow) (r : MemberRow) (n : ℕ) → lacks (rows ++ r ∷ []) n ≡ (lacks rows n && not (r.node == n))
lacks_more [] r n = go (r.node == n) refl
  where
    go : (b : Bool) → (r.node == n) ≡ b → lacks (r ∷ []) n ≡ not (r.node == n)
    go true e = rw e refl
    go false e = rw e refl
lacks_more (x ∷ rows) r n = go (x.node == n) refl (lacks_more rows r n)
  where
    go : (b : Bool) → (x.node == n) ≡ b → lacks (rows ++ r ∷ []) n ≡ (lacks rows n && not (r.node == n)) → lacks (x ∷ (rows ++ r ∷ [])) n ≡ (lacks (x ∷ rows) n && not (r.node == n))
    go true e ih = rw e refl
    go false e ih = rw e ih

-- the row that was added last, taken out again
pub less_one : (rows : List MemberRow) (n : ℕ) (row : Row) → list_all (λ r. not (r.node == n)) rows ≡ true → filter (λ r. not (r.node == n)) (rows ++ record { node = n; row = row } ∷ []) ≡ rows
less_one [] n row h = let e : (n == n) ≡ true = equal n n refl in rw e refl
less_one (r ∷ rows) n row h = go (r.node == n) refl (less_one rows n row)
  where
    go : (b : Bool) → (r.node == n) ≡ b → (list_all (λ x. not (x.node == n)) rows ≡ true → filter (λ x. not (x.node == n)) (rows ++ record { node = n; row = row } ∷ []) ≡ rows)
        → filter (λ x. not (x.node == n)) (r ∷ (rows ++ record { node = n; row = row } ∷ [])) ≡ r ∷ rows
    go true e ih = absurd (true≢false (sym h ∙ ap (λ (b : Bool). not b && list_all (λ (x : MemberRow). not (x.node == n)) rows) e))
    go false e ih = rw e (ap (λ (rs : List MemberRow). r ∷ rs) (ih (sym (ap (λ (b : Bool). not b && list_all (λ (x : MemberRow). not (x.node == n)) rows) e) ∙ h)))

pub last_row : (rows : List MemberRow) (n : ℕ) (row : Row) → list_all (λ r. not (r.node == n)) rows ≡ true → row_of_member (rows ++ record { node = n; row = row } ∷ []) n ≡ Some row
last_row [] n row h = let e : (n == n) ≡ true = equal n n refl in rw e refl
last_row (r ∷ rows) n row h = go (r.node == n) refl (last_row rows n row)
  where
    go : (b : Bool) → (r.node == n) ≡ b → (list_all (λ x. not (x.node == n)) rows ≡ true → row_of_member (rows ++ record { node = n; row = row } ∷ []) n ≡ Some row)
        → row_of_member (r ∷ (rows ++ record { node = n; row = row } ∷ [])) n ≡ Some row
    go true e ih = absurd (true≢false (sym h ∙ ap (λ (b : Bool). not b && list_all (λ (x : MemberRow). not (x.node == n)) rows) e))
    go false e ih = rw e (ih (sym (ap (λ (b : Bool). not b && list_all (λ (x : MemberRow). not (x.node == n)) rows) e) ∙ h))

pub row_out : (rows : List MemberRow) (n : ℕ) (row : Row) → lacks rows n ≡ true → filter (λ r. not (r.node == n)) (with_row rows n row) ≡ rows
row_out rows n row absent =
    ap (λ (b : Bool). filter (λ (r : MemberRow). not (r.node == n)) (if b then rows ++ record { node = n; row = row } ∷ [] else rows)) absent ∙ less_one rows n row (others_lack rows n ∙ absent)

pub row_there : (rows : List MemberRow) (n : ℕ) (row : Row) → lacks rows n ≡ true → row_of_member (with_row rows n row) n ≡ Some row
row_there rows n row absent = ap (λ (b : Bool). row_of_member (if b then rows ++ record { node = n; row = row } ∷ [] else rows) n) absent ∙ last_row rows n row (others_lack rows n ∙ absent)

-- ---- the last row

-- with that row a node's is there
tells_alone : (rows : List MemberRow) (from n : ℕ) (c : Bool) → lacks rows from ≡ true → (n == from) ≡ c → beq (n == from) (lacks rows n) ≡ not (lacks rows n && not (from == n))
tells_alone rows from n true absent e =
    let same : n ≡ from = from_equal n from e in
    let missing : lacks rows n ≡ true = ap (lacks rows) same ∙ absent in
    let back : (from == n) ≡ true = equal from n (sym same) in
    rw (e, missing, back) refl
tells_alone rows from n false absent e =
    let back : (from == n) ≡ false = unequal from n (λ (i : from ≡ n). true≢false (sym (equal n from (sym i)) ∙ e)) in
    rw (e, back) (both (lacks rows n))
  where
    both : (b : Bool) → beq false b ≡ not (b && true)
    both true = refl
    both false = refl

none_or : (b : Bool) (n : ℕ) (o : Option ℕ) → is_none (cond b (Some n) o) ≡ (not b && is_none o)
none_or true n o = refl
none_or false n o = refl

only_missing : (me from : ℕ) (rows : List MemberRow) (row : Row) (ms : List Member) → lacks rows from ≡ true → lacks rows me ≡ false
    → list_all (λ n. beq (n == from) (lacks rows n)) (others_among me ms) ≡ is_none (first_missing (rows ++ record { node = from; row = row } ∷ []) ms)
only_missing me from rows row [] absent own = refl
only_missing me from rows row (m ∷ ms) absent own = go (m.id == me) refl (only_missing me from rows row ms absent own)
  where
    more : List MemberRow
    more = rows ++ record { node = from; row = row } ∷ []

    go : (b : Bool) → (m.id == me) ≡ b → list_all (λ n. beq (n == from) (lacks rows n)) (others_among me ms) ≡ is_none (first_missing more ms)
        → list_all (λ n. beq (n == from) (lacks rows n)) (others_among me (m ∷ ms)) ≡ is_none (first_missing more (m ∷ ms))
    go true e ih =
        let there : lacks more m.id ≡ false = lacks_more rows (record { node = from; row = row }) m.id ∙ ap (λ (b : Bool). b && not (from == m.id)) (ap (lacks rows) (from_equal m.id me e) ∙ own) in
        rw (e, there) ih
    go false e ih =
        let here : beq (m.id == from) (lacks rows m.id) ≡ not (lacks more m.id) = tells_alone rows from m.id (m.id == from) absent refl ∙ ap not (sym (lacks_more rows (record { node = from; row = row }) m.id)) in
        rw e (ap₂ (λ (a b : Bool). a && b) here ih ∙ sym (none_or (lacks more m.id) m.id (first_missing more ms)))

all_fails : (test : ℕ → Bool) (ns : List ℕ) (n : ℕ) → list_any (λ m. m == n) ns ≡ true → test n ≡ false → list_all test ns ≡ false
all_fails test [] n found fails = absurd (true≢false (sym found))
all_fails test (m ∷ ns) n found fails = go (m == n) refl (all_fails test ns n)
  where
    go : (b : Bool) → (m == n) ≡ b → (list_any (λ k. k == n) ns ≡ true → test n ≡ false → list_all test ns ≡ false) → (test m && list_all test ns) ≡ false
    go true e ih = ap (λ (b : Bool). b && list_all test ns) (ap test (from_equal m n e) ∙ fails)
    go false e ih = ap (λ (b : Bool). test m && b) (ih (sym (ap (λ (b : Bool). b || list_any (λ k. k == n) ns) e) ∙ found) fails) ∙ and_right (test m) false refl

-- whether all rows are there but that member's
pub last_missing : (me from : ℕ) (rows : List MemberRow) (row : Row) (ms : List Member) → is_member ms from ≡ true → from ≢ me → lacks rows me ≡ false
    → list_all (λ n. beq (n == from) (lacks rows n)) (others_among me ms) ≡ (lacks rows from && is_none (first_missing (with_row rows from row) ms))
last_missing me from rows row ms member other own = go (lacks rows from) refl
  where
    go : (b : Bool) → lacks rows from ≡ b → list_all (λ n. beq (n == from) (lacks rows n)) (others_among me ms) ≡ (lacks rows from && is_none (first_missing (with_row rows from row) ms))
    go true e = only_missing me from rows row ms e own ∙ sym (ap (λ (b : Bool). b && is_none (first_missing (if b then rows ++ record { node = from; row = row } ∷ [] else rows) ms)) e)
    go false e =
        let same : (from == from) ≡ true = equal from from refl in
        all_fails (λ n. beq (n == from) (lacks rows n)) (others_among me ms) from (is_other me from ms member other) (rw (same, e) refl)
        ∙ sym (ap (λ (b : Bool). b && is_none (first_missing (if b then rows ++ record { node = from; row = row } ∷ [] else rows) ms)) e)
