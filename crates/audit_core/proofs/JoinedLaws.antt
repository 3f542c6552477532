-- Whether each replica in a view holds the fold of a record.
use Rattle.std.proofs.Common.{◌≡◌, ℕ, ◌==◌, ◌≤◌, Bool, true, false, not, ◌&&◌, ◌||◌, List, [], ◌∷◌, Option, Some, None, ◌↔◌, refl, sym, ap, ap₂, ◌∙◌, arith}
use Rattle.std.specs.Prelude.{is_some, take, fold, option_and_then, IsTrue}
use Rattle.std.specs.HashMap as hash
use Rattle.std.specs.List.{list_any, list_all}
use Rattle.std.proofs.lemmas.Bool.{and_from}
use Rattle.conflict_order.specs.declared.policy.Policy.{Policy}
use Rattle.conflict_order.specs.Join.{join}
use Rattle.cluster_types.specs.ClusterKeys.{is_view_key}
use Rattle.cluster_types.specs.declared.cluster_key.ClusterKey.{ClusterKey}
use Rattle.cluster_types.specs.declared.member.Member.{Member}
use Rattle.cluster_types.specs.Partitions.{partition_of}
use Rattle.partition_lists.specs.Lists as lists
use Rattle.journal_readings.specs.Settings.{policy_of, factor_of}
use Rattle.journal_readings.specs.Contents.{content}
use Rattle.journal_readings.specs.Entries.{applied_in, fold_of}
use Rattle.journal_readings.specs.Views.{view, members, is_replica}
use Rattle.journal_readings.proofs.Fronts.{and_left, and_right, same_key_is}
use Rattle.audit_laws.proofs.ShapeSteps.{same_key_itself}
use Rattle.audit_laws.proofs.Tests.{differ, number_same, number_here}
use Rattle.audit_core.specs.declared.judge.Judge.{Judge}
use Rattle.audit_state.specs.declared.views.View.{View}
use Rattle.audit_state.specs.Histories.{value_after}
use Rattle.audit_state.specs.Places.{placed, is_at_most}
use Rattle.audit_state.specs.Records.{record_digest}
use Rattle.audit_state.specs.Stores.{history_of}
use Rattle.audit_state.proofs.HistoryLaws.{now_at}
use Rattle.audit_state.proofs.PlaceLaws.{equal_is}
use Rattle.audit_core.specs.Audits.{so_far}
use Rattle.audit_core.specs.Folds.{entry_place, folded}
use Rattle.audit_core.specs.Holders.{content_now}
use Rattle.audit_core.specs.Known.{view_at, kept_view}
use Rattle.audit_core.specs.Stored.{read_of}
use Rattle.audit_core.specs.Trying.{SeesLines, joins_at, JoinsRecord, PartsRecord}
use Rattle.audit_core.proofs.BoundLaws.{view_entered, present_so}
use Rattle.audit_core.proofs.FoldLaws.{entered_at, fold_reads}

abbrev by_of : Judge → ℕ → Policy
by_of s i = policy_of (so_far s i)

-- ---- what is known of a record

pub fold_then : (s : Judge) (i : ℕ) (k : ClusterKey) (x : View) (r : ℕ) (d : List ℕ) → SeesLines s i → kept_view s k ≡ Some x → record_digest s.records r ≡ Some d
    → folded s (kept_view s k) r ≡ fold_of (by_of s i) k d (so_far s i)
fold_then s i k x r d h there named =
    ap (λ (o : Option View). folded s o r) there
    ∙ (ap (λ (by : Policy). fold (λ v m. join by v (placed s.lines.now (entry_place s x r m.id))) (placed s.lines.now (hash.get Rattle.std.specs.Prelude.nat_eq x.applied r)) x.members) h.frame.header.policy
    ∙ fold_reads (by_of s i) k d (so_far s i) (λ m. placed s.lines.now (entry_place s x r m.id)) x.members (placed s.lines.now (hash.get Rattle.std.specs.Prelude.nat_eq x.applied r)) (h.frame.views k x there).members
    (λ m. ap (λ (o : Option ℕ). placed s.lines.now (option_and_then (λ a. value_after (history_of s.stores m.id r) a) o)) ((h.frame.views k x there).entered m.id)
    ∙ entered_at s.stores s.records s.lines.now (by_of s i) i h.stores.contents k m.id r d named)
    (h.stores.written.applied k x r there ∙ ap (read_of (λ e. applied_in (by_of s i) k e (so_far s i))) named))

pub content_then : (s : Judge) (i n r : ℕ) (d : List ℕ) → SeesLines s i → record_digest s.records r ≡ Some d → placed s.lines.now (content_now s n r) ≡ content (by_of s i) n d (so_far s i)
content_then s i n r d h named =
    let all : i ≤ i = omega arith in
    ap (placed s.lines.now) (now_at (history_of s.stores n r) i (h.stores.contents.below n r))
    ∙ (h.stores.contents.held n r i all ∙ ap (read_of (λ e. content (by_of s i) n e (so_far s i))) named)

-- ---- one replica

in_view_is : (k : ClusterKey) (o : Option ClusterKey) → is_view_key o k ≡ true → o ≡ Some k
in_view_is k None e = differ e refl
in_view_is k (Some l) e = ap Some (same_key_is l k e)

in_view_so : (k : ClusterKey) (o : Option ClusterKey) → o ≡ Some k → is_view_key o k ≡ true
in_view_so k o e = ap (λ (o : Option ClusterKey). is_view_key o k) e ∙ same_key_itself k

-- the node holds the fold of the record, where it is in the view
abbrev JoinsHere : Judge → ℕ → ClusterKey → List ℕ → ℕ → Type 0
JoinsHere s i k d n = view n (so_far s i) ≡ Some k → content (by_of s i) n d (so_far s i) ≡ fold_of (by_of s i) k d (so_far s i)

equal_here : (s : Judge) (i : ℕ) (k : ClusterKey) (r : ℕ) (d : List ℕ) (place : Option ℕ) (n : ℕ) → SeesLines s i → record_digest s.records r ≡ Some d → placed s.lines.now place ≡ fold_of (by_of s i) k d (so_far s i)
    → IsTrue (is_at_most s.by (placed s.lines.now (content_now s n r)) (placed s.lines.now place) && is_at_most s.by (placed s.lines.now place) (placed s.lines.now (content_now s n r)))
    ↔ (content (by_of s i) n d (so_far s i) ≡ fold_of (by_of s i) k d (so_far s i))
equal_here s i k r d place n h named folded =
    let e : IsTrue (is_at_most s.by (placed s.lines.now (content_now s n r)) (placed s.lines.now place) && is_at_most s.by (placed s.lines.now place) (placed s.lines.now (content_now s n r))) ↔ (placed s.lines.now (content_now s n r) ≡ placed s.lines.now place) =
    equal_is s.by (placed s.lines.now (content_now s n r)) (placed s.lines.now place) in
    (λ q. sym (content_then s i n r d h named) ∙ (e.0 q ∙ folded), λ q. e.1 (content_then s i n r d h named ∙ (q ∙ sym folded)))

joins_then : (s : Judge) (i : ℕ) (k : ClusterKey) (r : ℕ) (d : List ℕ) (place : Option ℕ) (n : ℕ) → SeesLines s i → record_digest s.records r ≡ Some d → placed s.lines.now place ≡ fold_of (by_of s i) k d (so_far s i)
    → joins_at s k r place n ≡ true → JoinsHere s i k d n
joins_then s i k r d place n h named folded e in_view = (equal_here s i k r d place n h named folded).0 (go (is_view_key (view_at s n) k) (in_view_so k (view_at s n) (present_so s i n h ∙ in_view)) e)
  where
    go : (b : Bool) → b ≡ true → (not b || (is_at_most s.by (placed s.lines.now (content_now s n r)) (placed s.lines.now place) && is_at_most s.by (placed s.lines.now place) (placed s.lines.now (content_now s n r)))) ≡ true
        → (is_at_most s.by (placed s.lines.now (content_now s n r)) (placed s.lines.now place) && is_at_most s.by (placed s.lines.now place) (placed s.lines.now (content_now s n r))) ≡ true
    go true f q = q
    go false f q = differ f refl

joins_when : (s : Judge) (i : ℕ) (k : ClusterKey) (r : ℕ) (d : List ℕ) (place : Option ℕ) (n : ℕ) → SeesLines s i → record_digest s.records r ≡ Some d → placed s.lines.now place ≡ fold_of (by_of s i) k d (so_far s i)
    → JoinsHere s i k d n → joins_at s k r place n ≡ true
joins_when s i k r d place n h named folded here = go (is_view_key (view_at s n) k) refl
  where
    go : (b : Bool) → is_view_key (view_at s n) k ≡ b → (not b || (is_at_most s.by (placed s.lines.now (content_now s n r)) (placed s.lines.now place) && is_at_most s.by (placed s.lines.now place) (placed s.lines.now (content_now s n r)))) ≡ true
    go true e = (equal_here s i k r d place n h named folded).1 (here (sym (present_so s i n h) ∙ in_view_is k (view_at s n) e))
    go false e = refl

-- ---- all of them

pub passed : (f : ℕ → Bool) (ns : List ℕ) (n : ℕ) → list_all f ns ≡ true → list_any (λ m. m == n) ns ≡ true → f n ≡ true
passed f [] n e h = differ h refl
passed f (m ∷ ns) n e h = go (m == n) refl h (passed f ns n (and_right (f m) _ e))
  where
    go : (b : Bool) → (m == n) ≡ b → (b || list_any (λ x. x == n) ns) ≡ true → (list_any (λ x. x == n) ns ≡ true → f n ≡ true) → f n ≡ true
    go true q r rest = ap f (sym (number_same m n q)) ∙ and_left (f m) _ e
    go false q r rest = rest r

all_pass : (f : ℕ → Bool) (ns : List ℕ) → ((n : ℕ) → list_any (λ m. m == n) ns ≡ true → f n ≡ true) → list_all f ns ≡ true
all_pass f [] h = refl
all_pass f (m ∷ ns) h = and_from (f m) _ (h m (ap (λ (b : Bool). b || list_any (λ x. x == m) ns) (number_here m))) (all_pass f ns (λ n e. h n (later (m == n) _ e)))
  where
    later : (b c : Bool) → c ≡ true → (b || c) ≡ true
    later true c q = refl
    later false c q = q

pub replicas_are : (s : Judge) (i : ℕ) (k : ClusterKey) (p : ℕ) (d : List ℕ) (x : View) (n : ℕ) → SeesLines s i → partition_of d ≡ p → kept_view s k ≡ Some x
    → list_any (λ m. m == n) (take s.factor (lists.list x.ranks p)) ≡ is_replica (factor_of (so_far s i)) k (partition_of d) n (so_far s i)
replicas_are s i k p d x n h part there =
    ap₂ (λ (factor : ℕ) (ms : List Member). lists.is_replica_of n ms p factor) h.frame.header.factor (h.frame.views k x there).ranks
    ∙ ap (λ (q : ℕ). lists.is_replica_of n (members k (so_far s i)) q (factor_of (so_far s i))) (sym part)

pub joined_so : (s : Judge) (k : ClusterKey) (r p : ℕ) (x : View) (place : Option ℕ) (b : Bool) → kept_view s k ≡ Some x → placed s.lines.now place ≡ folded s (kept_view s k) r
    → b ≡ list_all (joins_at s k r place) (take s.factor (lists.list x.ranks p)) → b ≡ true → JoinsRecord s k r p
unfolding JoinsRecord
joined_so s k r p x place b there said told e i d h is n replica in_view =
    joins_then s i k r d place n h is.named (said ∙ fold_then s i k x r d h there is.named)
    (passed (joins_at s k r place) (take s.factor (lists.list x.ranks p)) n (sym told ∙ e) (replicas_are s i k p d x n h is.part there ∙ replica)) in_view

pub parted_so : (s : Judge) (k : ClusterKey) (r p : ℕ) (x : View) (place : Option ℕ) (b : Bool) → kept_view s k ≡ Some x → placed s.lines.now place ≡ folded s (kept_view s k) r
    → b ≡ list_all (joins_at s k r place) (take s.factor (lists.list x.ranks p)) → b ≡ false → PartsRecord s k r p
unfolding PartsRecord
parted_so s k r p x place b there said told e i d h is join =
    differ (told ∙ all_pass (joins_at s k r place) (take s.factor (lists.list x.ranks p))
    (λ n among. joins_when s i k r d place n h is.named (said ∙ fold_then s i k x r d h there is.named) (join n (sym (replicas_are s i k p d x n h is.part there) ∙ among)))) e

-- nobody is in a view that isn't known
pub joined_none : (s : Judge) (k : ClusterKey) (r p : ℕ) → kept_view s k ≡ None
    → JoinsRecord s k r p
unfolding JoinsRecord
joined_none s k r p none i d h is n replica in_view = differ (h.frame.known_views k ∙ view_entered n k (so_far s i) in_view) (ap is_some none)
