-- The list master and the acting master of a partition are members of the view.
use Rattle.std.proofs.Common.{◌≡◌, ℕ, ◌==◌, ◌||◌, Bool, true, false, cond, if◌then◌else◌, List, [], ◌∷◌, map, Some, refl, ap, sym, subst, ◌∙◌}
use Rattle.std.specs.Prelude.{find, unwrap_or}
use Rattle.cluster_types.specs.declared.member.Member.{Member}
use Rattle.cluster_types.specs.Members.{ids_of}
use Rattle.partition_lists.specs.Lists.{in_order, list, put_in_order}
use Rattle.partition_lists.specs.Ranks.{is_smaller, rank_of}
use Rattle.partition_lists.proofs.InOrderLaws.{equal}
use Rattle.node_rules.specs.declared.member_row.MemberRow.{MemberRow}
use Rattle.node_rules.specs.Map.{acting_by_rows, is_wholest, list_master}
use Rattle.node_rules.specs.Tables.{contains}
use Rattle.journal_readings.specs.Lines.{has_node}
use Rattle.cluster_laws.proofs.At.{differ}
use Rattle.calm_laws.specs.Turns.{Roll}

abbrev Every : {A : Type 0} → (A → Type 0) → List A → Type 0
Every P [] = Unit {0}
Every P (x ∷ xs) = P x × Every P xs

-- ---- lists

put_every : {K : Type 0} (below : K → K → Bool) (P : K → Type 0) (r : K) (rs : List K) → P r → Every P rs → Every P (put_in_order below r rs)
put_every below P r [] x h = (x, tt)
put_every {K} below P r (s ∷ rs) x h = go (below s r) (put_every below P r rs x h.1)
  where
    go : (b : Bool) → Every P (put_in_order below r rs) → Every P (if b then s ∷ put_in_order below r rs else (r ∷ s ∷ rs))
    go true i = (h.0, i)
    go false i = (x, h)

order_every : {K : Type 0} (below : K → K → Bool) (P : K → Type 0) (rs : List K) → Every P rs → Every P (in_order below rs)
order_every below P [] h = tt
order_every below P (r ∷ rs) h = put_every below P r (in_order below rs) h.0 (order_every below P rs h.1)

ids_every : {K : Type 0} (id : K → ℕ) (P : ℕ → Type 0) (rs : List K) → Every (λ r. P (id r)) rs → Every P (map id rs)
ids_every id P [] h = tt
ids_every id P (r ∷ rs) h = (h.0, ids_every id P rs h.1)

ranks_every : {K : Type 0} (id : K → ℕ) (rank : Member → K) (P : ℕ → Type 0) (ms : List Member) → ((m : Member) → id (rank m) ≡ m.id) → Every (λ m. P m.id) ms → Every (λ r. P (id r)) (map rank ms)
ranks_every id rank P [] same h = tt
ranks_every id rank P (m ∷ ms) same h = (subst P (sym (same m)) h.0, ranks_every id rank P ms same h.1)

members_every : (P : ℕ → Type 0) (ms : List Member) → ((x : ℕ) → contains (ids_of ms) x ≡ true → P x) → Every (λ m. P m.id) ms
members_every P [] h = tt
members_every P (m ∷ ms) h = (
  h m.id (ap (λ (b : Bool). b || contains (ids_of ms) m.id) (equal m.id m.id refl)),
  members_every P ms (λ x e. h x (behind (m.id == x) (contains (ids_of ms) x) e)),
)
  where
    behind : (b c : Bool) → c ≡ true → (b || c) ≡ true
    behind true c e = refl
    behind false c e = e

list_every : (P : ℕ → Type 0) (ms : List Member) (p : ℕ) → ((x : ℕ) → contains (ids_of ms) x ≡ true → P x) → Every P (list ms p)
unfolding list
list_every P ms p h = ids_every _ P (in_order is_smaller (map (rank_of ms p) ms)) (order_every is_smaller _ (map (rank_of ms p) ms) (ranks_every _ (rank_of ms p) P ms (λ m. refl) (members_every P ms h)))

put_some : {K : Type 0} (below : K → K → Bool) (id : K → ℕ) (P : ℕ → Type 0) (r : K) (rs : List K) → Every P (map id (put_in_order below r rs)) → P (list_master (map id (put_in_order below r rs)))
put_some below id P r [] h = h.0
put_some {K} below id P r (s ∷ rs) h = go (below s r) h
  where
    go : (b : Bool) → Every P (map id (if b then s ∷ put_in_order below r rs else (r ∷ s ∷ rs))) → P (list_master (map id (if b then s ∷ put_in_order below r rs else (r ∷ s ∷ rs))))
    go true i = i.0
    go false i = i.0

master_every : (P : ℕ → Type 0) (ms : List Member) (p x : ℕ) → contains (ids_of ms) x ≡ true → Every P (list ms p) → P (list_master (list ms p))
unfolding list
master_every P [] p x some h = differ some refl
master_every P (m ∷ ms) p x some h = put_some is_smaller _ P (rank_of (m ∷ ms) p m) (in_order is_smaller (map (rank_of (m ∷ ms) p) ms)) h

found_every : (P : ℕ → Type 0) (test : ℕ → Bool) (other : ℕ) (l : List ℕ) → P other → Every P l → P (unwrap_or (find test l) other)
found_every P test other [] x h = x
found_every P test other (y ∷ l) x h = go (test y) (found_every P test other l x h.1)
  where
    go : (b : Bool) → P (unwrap_or (find test l) other) → P (unwrap_or (cond b (Some y) (find test l)) other)
    go true i = h.0
    go false i = i

-- ---- of a group

members_in : (gs : List ℕ) (g : ℕ) (set : List Member) → Roll gs g set → (p : ℕ) → Every (λ x. has_node gs x ≡ true) (list set p)
members_in gs g set r p = list_every (λ x. has_node gs x ≡ true) set p (λ x e. sym (r.ids x) ∙ e)

pub master_in : (gs : List ℕ) (g : ℕ) (set : List Member) → Roll gs g set → (p : ℕ) → has_node gs (list_master (list set p)) ≡ true
master_in gs g set r p = master_every (λ x. has_node gs x ≡ true) set p g (r.ids g ∙ r.lead) (members_in gs g set r p)

pub acting_in : (gs : List ℕ) (g : ℕ) (set : List Member) → Roll gs g set → (rows : List MemberRow) (p : ℕ) → has_node gs (acting_by_rows (list set p) rows p) ≡ true
acting_in gs g set r rows p = found_every (λ x. has_node gs x ≡ true) (is_wholest (list set p) rows p) (list_master (list set p)) (list set p) (master_in gs g set r p) (members_in gs g set r p)
