-- What a view shows.
use Rattle.std.proofs.Common.{◌≡◌, ◌≢◌, ◌<◌, ◌==◌, ℕ, Bool, true, false, cond, List, [], ◌∷◌, Option, Some, None, filter, All, refl, sym, ap, ap₂, arith}
use Rattle.std.specs.Prelude.{AllPairs, IfSome, IsSome, not, find, is_some, option_map, unwrap_or}
use Rattle.std.proofs.lemmas.List.Elements.{All-head, All-nil, All-tail}
use Rattle.cluster_types.specs.declared.copy_state.CopyState.{CopyState}
use Rattle.cluster_types.specs.declared.copy_state.CopyState.TheVariants.{Empty}
use Rattle.cluster_types.specs.MembersEqual.{same_members}
use Rattle.cluster_types.specs.Partitions.{partition_count}
use Rattle.wire_messages.specs.declared.message.Message.TheVariants as message
use Rattle.wire_messages.specs.Keys.{IsKeyField}
use Rattle.wire_messages.specs.Rows.{FitsState, IsStateRowField}
use Rattle.node_rules.specs.declared.member_row.MemberRow.{MemberRow}
use Rattle.node_rules.specs.Agreement as agreement
use Rattle.node_rules.specs.Map.{lacks, row_of_member}
use Rattle.node_rules.specs.Standing.{others}
use Rattle.node_rules.specs.Tick.{differs_from, own_row_in, state}
use Rattle.std.specs.Borrow.{Bor}
use Rattle.std.specs.Option.{ForSome, option_copied}
use Rattle.cluster_types.specs.declared.cluster_key.ClusterKey.{ClusterKey}
use Rattle.cluster_types.specs.declared.member.Member.{Member}
use Rattle.dup_resolve.specs.declared.txn.Txn.{Txn}
use Rattle.node_rules.specs.Exchange as exchange
use Rattle.node_rules.specs.Exchange.{Exchange}
use Rattle.node_rules.specs.Facts.{Facts}
use Rattle.node_rules.specs.Transactions.{Transaction}
use Rattle.node_view.specs.Transactions.{kept_of}
use Rattle.node_steps.specs.Viewing.{IsAsKept}
use Rattle.node_view.specs.Views.{IsInView, Viewed, facts_seen, viewed_key}

-- what the facts have of the view that they are of
pub exchange_is : (f : Facts) (v : Viewed) → IsInView f v → v.exchange ≡ f.exchange
exchange_is f v h = ap (λ (g : Facts). g.exchange) h.view

pub transactions_are : (f : Facts) (v : Viewed) → IsInView f v → v.transactions ≡ f.transactions
transactions_are f v h = ap (λ (g : Facts). g.transactions) h.view

-- ---- transactions

pub kept_as : (t : Transaction) → IsAsKept (kept_of t) t
kept_as t = record { number = refl; digest = refl; want = refl; best = refl; awaiting = refl; applied = refl }

pub found_alike : (o : Option (Bor Txn)) (r : Option Transaction) → option_copied o ≡ option_map kept_of r → is_some o ≡ is_some r
found_alike None None e = refl
found_alike None (Some t) e = cc
found_alike (Some x) None e = cc
found_alike (Some x) (Some t) e = refl

pub found_kept : (o : Option (Bor Txn)) (r : Option Transaction) → option_copied o ≡ option_map kept_of r → IfSome o (λ x. ForSome r (IsAsKept x.now))
found_kept None r e = tt
found_kept (Some x) None e = λ t i. cc
found_kept (Some x) (Some t) e = λ u i.
    let kept : x.now ≡ kept_of t = cc in
    let same : t ≡ u = cc in
    rw (kept, same) (kept_as u)

-- ---- the key and the members

pub members_shown : (o : Option exchange.View) → true ≡ is_some o → ◌≡◌ {A = Option (ClusterKey × List Member)} (Some (exchange.exchange_key o, exchange.members_of o)) (option_map (λ v. (v.key, v.members)) o)
members_shown None e = cc
members_shown (Some v) e = refl

-- ---- the node's own row

-- to whom it goes
pub lacking_same : (f : Facts) (v : Viewed) → IsInView f v
    → filter (lacks v.exchange.rows) (agreement.others_among v.me (exchange.members_of v.exchange.view)) ≡ filter (lacks f.exchange.rows) (others f)
lacking_same f v h = ap₂ (λ (me : ℕ) (x : Exchange). filter (lacks x.rows) (agreement.others_among me (exchange.members_of x.view))) (sym h.me) (exchange_is f v h)

pub state_same : (f : Facts) (v : Viewed) → IsInView f v → message.State (viewed_key v) true (own_row_in (facts_seen v)) ≡ state f true
state_same f v h = ap₂ (λ (me : ℕ) (x : Exchange). message.State (exchange.exchange_key x.view) true (unwrap_or (row_of_member x.rows me) [])) (sym h.me) (exchange_is f v h)

none_rises : AllPairs (λ (d e : ℕ × CopyState). d.0 < e.0) []
none_rises i j d before within = absurd (omega arith)

no_row : IsStateRowField []
no_row = record {
  states = record {
    rising = none_rises;
    partitions = All-nil (λ (e : ℕ × CopyState). e.0 < partition_count);
    none_empty = All-nil (λ (e : ℕ × CopyState). e.1 ≢ Empty);
  };
  fit = All-nil (λ (e : ℕ × CopyState). FitsState e.1);
}

-- it has a spelling where each row has
pub own_row_field : (rows : List MemberRow) (me : ℕ) → All (λ r. IsStateRowField r.row) rows → IsStateRowField (unwrap_or (row_of_member rows me) [])
own_row_field [] me h = no_row
own_row_field (r ∷ rows) me h = at (r.node == me) (own_row_field rows me (All-tail (λ (x : MemberRow). IsStateRowField x.row) r rows h))
  where
    at : (b : Bool) → IsStateRowField (unwrap_or (row_of_member rows me) []) → IsStateRowField (unwrap_or (option_map (λ (x : MemberRow). x.row) (cond b (Some r) (find (λ (x : MemberRow). x.node == me) rows))) [])
    at true later = All-head (λ (x : MemberRow). IsStateRowField x.row) r rows h
    at false later = later

-- and so has the key, where it goes to somebody
pub key_field_of : (o : Option exchange.View) (me : ℕ) (rows : List MemberRow) → (filter (lacks rows) (agreement.others_among me (exchange.members_of o)) ≡ [] → ⊥) → ForSome o (λ w. IsKeyField w.key) → IsKeyField (exchange.exchange_key o)
key_field_of None me rows some h = absurd (some refl)
key_field_of (Some w) me rows some h = h w refl

-- ---- whether a view is wanted

pub differs_by : (set : List Member) (o : Option exchange.View) → IsSome o → differs_from set o ≡ not (same_members set (exchange.members_of o))
differs_by set None some = cc
differs_by set (Some w) some = refl
