-- How a node stands to a partition, as its view and the store tell.
use Rattle.std.proofs.Common.{◌≡◌, ◌==◌, ◌<◌, ◌&&◌, ℕ, Bool, true, false, not, List, [], ◌∷◌, Option, Some, None, refl, sym, ap, ap₂, subst, ◌∙◌, zero-add}
use Rattle.cluster_types.specs.declared.copy_state.CopyState.TheVariants.{Empty, Part, Whole}
use Rattle.cluster_types.specs.declared.cluster_key.ClusterKey.{ClusterKey}
use Rattle.cluster_types.specs.Members.{ids_of}
use Rattle.cluster_types.specs.Partitions.{partition_count}
use Rattle.cluster_types.specs.Rows.{bit}
use Rattle.partition_lists.specs.Lists as lists
use Rattle.exchange.specs.Met.{Met}
use Rattle.exchange.specs.Met as met
use Rattle.progress.specs.Known.{Known}
use Rattle.progress.specs.Known as known
use Rattle.dup_resolve.specs.Open.{Open}
use Rattle.dup_resolve.specs.Open as kept
use Rattle.node_rules.specs.Agreement as agreement
use Rattle.node_rules.specs.Batches.{Targets, done_row, is_pending}
use Rattle.node_rules.specs.Bits.{Bits, knows_each_done}
use Rattle.node_rules.specs.Copies.{Stamp, is_nil, is_of, state_with}
use Rattle.node_rules.specs.Exchange.{Exchange, members_of}
use Rattle.node_rules.specs.Facts.{Facts, list_at, members_of_view}
use Rattle.node_rules.specs.Map as map
use Rattle.node_rules.specs.Standing.{are_all_done, is_acting, is_all_empty, is_done, is_master, is_own_replica}
use Rattle.node_rules.specs.Transactions as rules
use Rattle.node_view.specs.declared.view.View.TheInside.{Inside}
use Rattle.node_view.specs.Transactions.{AreNoted, Noted, running_with, transactions_of}
use Rattle.node_view.specs.Views.{FieldsAgree, IsInView, Viewed, view_of}
use Rattle.node_view.proofs.EmptyLaws.{empty_in_list}
use Rattle.node_view.proofs.RowLaws.{bits_from_at}
use Rattle.node_view.proofs.SightLaws.{Sees, sees}
use Rattle.node_view.proofs.TxnLaws.{any_kept, kept_running}

-- the facts see what is in the view
pub sees_inside : (i : Inside) (v : Viewed) (f : Facts) → view_of i ≡ v → IsInView f v → Sees f (view_of i)
sees_inside i v f is h = sees f (view_of i) (subst (λ (w : Viewed). IsInView f w) (sym is) h)

pub acting_is : (f : Facts) (x : Met) (p me r : ℕ) → f.exchange ≡ x.exchange → f.me ≡ me → r ≡ map.acting_by_rows (met.served_list x p) x.exchange.rows p → (r == me) ≡ is_acting f (list_at f p) p
acting_is f x p me r same own is =
    ap₂ (λ (a b : ℕ). a == b) (is ∙ ap (λ (e : Exchange). map.acting_by_rows (lists.list (members_of e.view) p) e.rows p) (sym same)) (sym own)

pub empty_is : (f : Facts) (x : Met) (p : ℕ) (r : Bool) → f.exchange ≡ x.exchange → r ≡ map.all_empty (met.served_list x p) x.exchange.rows p → r ≡ is_all_empty f p
empty_is f x p r same is =
    is
    ∙ (empty_in_list (members_of x.exchange.view) x.exchange.rows p
    ∙ ap (λ (e : Exchange). map.all_empty (ids_of (members_of e.view)) e.rows p) (sym same))

pub master_is : (f : Facts) (v : Viewed) (p : ℕ) → Sees f v → (map.list_master (lists.list (members_of v.exchange.view) p) == v.me) ≡ is_master f (list_at f p)
master_is f v p s = rw (s.me, s.exchange) refl

pub replica_is : (f : Facts) (v : Viewed) (p n : ℕ) (r : Bool) → Sees f v → n ≡ v.me → r ≡ lists.is_replica_of n (members_of v.exchange.view) p v.factor → r ≡ is_own_replica f (list_at f p)
replica_is f v p n r s own is = rw (s.me, s.factor, s.exchange, ← own) is

pub done_is : (f : Facts) (targets : Targets) (p : ℕ) (r : Bool) → f.exchange.exchanged ≡ true → f.batches ≡ targets → r ≡ not (is_pending targets p) → r ≡ is_done f p
done_is f targets p r finished same is = rw (finished, same) is

pub all_done_is : (f : Facts) (k : Known) (learnt : List Bool) (p : ℕ) (r : Bool) → p < partition_count → k.own ≡ done_row f.exchange.exchanged f.batches partition_count 0
    → k.others ≡ agreement.others_among f.me (members_of_view f) → f.bits ≡ record k.bits { learnt = learnt } → r ≡ known.all_done k p → r ≡ are_all_done f p
all_done_is f k learnt p r within own others bits is =
    is
    ∙ ap₂ (λ (a b : Bool). a && b)
    (ap (λ (row : List Bool). bit row p) own ∙ (bits_from_at (λ q. is_done f q) partition_count 0 p within ∙ ap (λ (q : ℕ). is_done f q) (zero-add p)))
    (ap (λ (ms : List ℕ). knows_each_done k.bits ms p) others ∙ ap (λ (b : Bits). knows_each_done b (agreement.others_among f.me (members_of_view f)) p) (sym bits))

pub busy_is : (f : Facts) (o : Open) (n : Noted) (p : ℕ) (r : Bool) → AreNoted o n → f.transactions ≡ transactions_of o n → r ≡ kept.has_txn_on o.running p → r ≡ rules.is_busy f.transactions p
busy_is f o n p r noted same is =
    is
    ∙ (ap (λ ts. kept.has_txn_on ts p) (kept_running o.running n.kept noted.notes)
    ∙ (any_kept (λ t. is_of p t.digest) (λ t. is_of p t.digest) (λ x. refl) (running_with o.running n.kept)
    ∙ ap (λ (ts : rules.Transactions). rules.is_busy ts p) (sym same)))

-- the fields of the view say so of its done row and of the other members
pub own_row_is : (f : Facts) (i : Inside) → FieldsAgree i → Sees f (view_of i) → i.progress.own ≡ done_row f.exchange.exchanged f.batches partition_count 0
own_row_is f i a s = rw (s.exchange, s.batches) a.done

pub others_are : (f : Facts) (i : Inside) → FieldsAgree i → Sees f (view_of i) → i.progress.others ≡ agreement.others_among f.me (members_of_view f)
others_are f i a s =
    a.heard ∙ (a.others ∙ (ap (λ ms. agreement.others_among i.me ms) a.viewed ∙ ap₂ (λ (n : ℕ) (x : Exchange). agreement.others_among n (members_of x.view)) (sym s.me) (sym s.exchange)))

-- a copy has a record where its state isn't Empty
pub empty_holds : (ds : List (List ℕ)) (stamp : Option Stamp) → Empty ≡ state_with ds stamp → false ≡ not (is_nil ds)
empty_holds [] stamp e = refl
empty_holds (d ∷ ds) None e = cc
empty_holds (d ∷ ds) (Some s) e = cc

pub part_holds : (ds : List (List ℕ)) (stamp : Option Stamp) → Part ≡ state_with ds stamp → true ≡ not (is_nil ds)
part_holds [] stamp e = cc
part_holds (d ∷ ds) stamp e = refl

pub whole_holds : (ds : List (List ℕ)) (stamp : Option Stamp) (key : ClusterKey) (writes : ℕ) → Whole key writes ≡ state_with ds stamp → true ≡ not (is_nil ds)
whole_holds [] stamp key writes e = cc
whole_holds (d ∷ ds) stamp key writes e = refl
