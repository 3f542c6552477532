-- A view that is entered, and the node's facts in it.
use Rattle.std.proofs.Common.{◌≡◌, ◌==◌, ℕ, zero, suc, ◌+◌, Bool, true, false, not, cond, ◌||◌, length, List, [], ◌∷◌, Option, Some, None, is_some, All, IsSome, map, if◌then◌else◌, refl, sym, ap, ap₂, subst, ◌∙◌, arith}
use Rattle.std.specs.FinMap as finite
use Rattle.std.specs.Option.{ForSome}
use Rattle.std.proofs.lemmas.List.{length-replicate}
use Rattle.std.proofs.lemmas.List.Elements.{All-cons}
use Rattle.partition_lists.proofs.InOrderLaws.{from_equal}
use Rattle.cluster_types.specs.declared.cluster_key.ClusterKey.{ClusterKey}
use Rattle.cluster_types.specs.declared.copy_state.CopyState.{CopyState}
use Rattle.cluster_types.specs.declared.copy_state.CopyState.TheVariants.{Empty, Part, Whole}
use Rattle.cluster_types.specs.declared.member.Member.{Member}
use Rattle.cluster_types.specs.Partitions.{partition_count}
use Rattle.wire_messages.specs.Keys.{IsKeyField}
use Rattle.wire_messages.specs.Rows.{FitsState, IsStateRowField}
use Rattle.node_rules.specs.Agreement as agreement
use Rattle.node_rules.specs.Agreement.{Agreement, others_among}
use Rattle.node_rules.specs.Batches.{Targets, targets_of}
use Rattle.node_rules.specs.Bits.{clear_row}
use Rattle.node_rules.specs.ByParts as parts
use Rattle.node_rules.specs.ByParts.{exchanged_if}
use Rattle.node_rules.specs.Copies.{Row, Stamp, Stamps, Store, store_state, digests_of, row_from, state_with, with_state}
use Rattle.node_rules.specs.Exchange.{Exchange, View, begun, finished, is_member, is_single}
use Rattle.node_rules.specs.Facts.{Facts, list_at}
use Rattle.node_rules.specs.Hearing.{without_quiet}
use Rattle.node_rules.specs.Notes.{entered, is_for, own_row, stamped_at}
use Rattle.node_rules.proofs.Partitions.{row_is_row}
use Rattle.node_rules.specs.Entering.{ending}
use Rattle.node_rules.specs.Transactions.{Transaction, Write}
use Rattle.journal_lines.specs.declared.line.Line.{Line}
use Rattle.journal_lines.specs.declared.line.Line.TheVariants as line
use Rattle.node_rules.specs.ViewNotes.{stamped_from}
use Rattle.node_view.specs.Transactions.{kept_of}
use Rattle.node_steps.specs.Viewing.{ending_of}
use Rattle.node_view.specs.Plans.{with_stamps}
use Rattle.node_view.specs.Views.{IsEntered, IsLike, IsViewOf, Viewed, view_at_entry, with_view}
use Rattle.node_steps.specs.Fits.{IsNewView}
use Rattle.node_steps.specs.Plans.{agreed}
use Rattle.node_steps.specs.Ranges.{HasRanges, IsStampField, IsStoreField}
use Rattle.node_steps.proofs.RangeLaws.{HasKeys, no_writes_counted}
use Rattle.node_steps.proofs.StoreRanges.{stamped_fits}

-- ---- the view is the node's

none_pending : (f : Facts) (targets : Targets) → targets ≡ [] → All (λ t. All (λ d. IsSome (finite.get f.store.content d)) t.pending) targets
none_pending f targets none =
    subst (λ (ts : Targets). All (λ t. All (λ d. IsSome (finite.get f.store.content d)) t.pending) ts) (sym none) (λ k d within. absurd (omega (arith, within)))

seen : (f : Facts) (key : ClusterKey) (ms : List Member) (v : Viewed) → IsEntered f key ms v → IsViewOf (with_view f (Some v)) v
seen f key ms v h = record {
  viewed = record { me = sym h.alike.me; factor = sym h.alike.factor; view = refl };
  policy = h.alike.by;
  pending = record { held = none_pending f v.batches h.alike.batches };
  watch = h.watch;
}

pub entered_view : (f : Facts) (key : ClusterKey) (ms : List Member) (v : Viewed) → IsEntered f key ms v → IsNewView f v
entered_view f key ms v h = record { view = seen f key ms v h; in_one = ap (λ (x : Exchange). is_some x.view) h.alike.exchange }

-- ---- the facts in the view

-- alike views make the same facts
pub agreed_alike : (f : Facts) (a : Agreement) (w v : Viewed) → IsLike w v → agreed f a (Some v) ≡ agreed f a (Some w)
agreed_alike f a w v h = rw (h.exchange, h.writes, h.transactions, h.batches, h.bits) refl

single_others : (me : ℕ) (ms : List Member) → is_single ms ≡ true → is_member ms me ≡ true → others_among me ms ≡ []
single_others me [] single member = cc
single_others me (m ∷ []) single member = go (m.id == me) member
  where
    go : (b : Bool) → (b || false) ≡ true → cond (not b) (m.id ∷ []) [] ≡ []
    go true is = refl
    go false is = cc
single_others me (m ∷ n ∷ ms) single member = absurd (omega (arith, from_equal (length (m ∷ n ∷ ms)) 1 single))

-- a view as it is entered, whose exchange is finished or isn't
abbrev at_entry : Facts → ClusterKey → List Member → Bool → Viewed
at_entry f key ms b = record (view_at_entry f key ms) { exchange = record (begun f.me key ms (own_row f)) { exchanged = b } }

-- the facts of a node that is in it
abbrev in_it : Facts → Agreement → ClusterKey → List Member → Bool → Facts
in_it f a key ms b = with_view (record f { hearing = without_quiet f.hearing; agreement = a }) (Some (at_entry f key ms b))

stamps_alike : (f : Facts) (key : ClusterKey) (ms : List Member) (b : Bool) (n p : ℕ) (stamps : Stamps)
    → stamped_from (in_it f (agreement.agreement_entered f.agreement key) key ms b) key stamps n p ≡ stamped_from (entered f key ms (own_row f)) key stamps n p
unfolding stamped_from
stamps_alike f key ms b zero p stamps = refl
stamps_alike f key ms b (suc n) p stamps =
    let g : Facts = in_it f (agreement.agreement_entered f.agreement key) key ms b in
    stamps_alike f key ms b n (p + 1) (stamped_at g key (list_at g p) p stamps)

-- those whose exchange is finished, with these stamps and targets
abbrev finished_with : Facts → ClusterKey → List Member → Stamps → Targets → Facts
finished_with f key ms s ts = record (entered f key ms (own_row f)) { exchange = finished (begun f.me key ms (own_row f)); store = record f.store { stamps = s }; batches = ts }

-- entering is what the rules say
pub entered_is : (f : Facts) (key : ClusterKey) (ms : List Member) → is_member ms f.me ≡ true
    → agreed f (agreement.agreement_entered f.agreement key) (Some (view_at_entry f key ms)) ≡ parts.view_entered f key ms
entered_is f key ms member = go (is_single ms) refl
  where
    go : (b : Bool) → is_single ms ≡ b → with_stamps (in_it f (agreement.agreement_entered f.agreement key) key ms b) b ≡ exchanged_if (entered f key ms (own_row f)) key b
    go false is = refl
    go true is =
        ap (λ (s : Stamps). finished_with f key ms s []) (stamps_alike f key ms true partition_count 0 f.store.stamps)
        ∙ ap (λ (ns : List ℕ). finished_with f key ms (stamped_from (entered f key ms (own_row f)) key f.store.stamps partition_count 0) (targets_of (is_for (entered f key ms (own_row f))) f.store.content ns)) (sym (single_others f.me ms is member))

-- ---- ranges

state_fits : (ds : List (List ℕ)) (o : Option Stamp) → ForSome o IsStampField → FitsState (state_with ds o)
state_fits [] o h = tt
state_fits (d ∷ ds) None h = tt
state_fits (d ∷ ds) (Some stamp) h = let fit = h stamp refl in (fit.key, fit.writes)

with_state_fits : (p : ℕ) (state : CopyState) (row : Row) → FitsState state → All (λ e. FitsState e.1) row → All (λ e. FitsState e.1) (with_state p state row)
with_state_fits p Empty row fit rest = rest
with_state_fits p Part row fit rest = All-cons (λ e. FitsState e.1) (p, Part) row fit rest
with_state_fits p (Whole key writes) row fit rest = All-cons (λ e. FitsState e.1) (p, Whole key writes) row fit rest

row_fits : (s : Store) (n p : ℕ) → ((q : ℕ) → ForSome (finite.get s.stamps q) IsStampField) → All (λ e. FitsState e.1) (row_from s n p)
unfolding row_from
row_fits s zero p h = λ k d within. absurd (omega (arith, within))
row_fits s (suc n) p h =
    with_state_fits p (store_state s p) (row_from s n (p + 1)) (state_fits (digests_of s.content p) (finite.get s.stamps p) (h p)) (row_fits s n (p + 1) h)

pub own_row_fits : (f : Facts) → IsStoreField f.store → IsStateRowField (own_row f)
own_row_fits f h = record { states = row_is_row f.store partition_count (omega arith); fit = row_fits f.store partition_count 0 h.stamps }

clear_size : length clear_row ≡ partition_count
unfolding clear_row
clear_size = length-replicate partition_count false

ranges_in_it : (f : Facts) (a : Agreement) (key : ClusterKey) (ms : List Member) (b : Bool) (s : Store) → HasRanges f → HasKeys a → IsKeyField key → IsStoreField s
    → HasRanges (record (in_it f a key ms b) { store = s })
ranges_in_it f a key ms b s r keys k kept = record {
  me = r.me;
  peers = r.peers;
  rack = r.rack;
  promised = keys.promised;
  proposed = keys.proposed;
  view = λ v e. let same : record { key = key; members = ms } ≡ v = cc in ap_key v same;
  rows = All-cons (λ x. IsStateRowField x.row) (record { node = f.me; row = own_row f }) [] (own_row_fits f r.store) (λ i d within. absurd (omega (arith, within)));
  store = kept;
  writes = no_writes_counted;
  transactions = λ i d within. absurd (omega (arith, within));
  batches = λ i d within. absurd (omega (arith, within));
  bits = record { handed = clear_size; settled = clear_size };
}
  where
    ap_key : (v : View) → record { key = key; members = ms } ≡ v → IsKeyField v.key
    ap_key v same = subst (λ (x : View). IsKeyField x.key) same k

-- what a node sends that entered a view has a spelling
pub ranges_entered : (f : Facts) (a : Agreement) (key : ClusterKey) (ms : List Member) → HasRanges f → HasKeys a → IsKeyField key
    → HasRanges (agreed f a (Some (view_at_entry f key ms)))
ranges_entered f a key ms r keys k = go (is_single ms)
  where
    go : (b : Bool) → HasRanges (with_stamps (in_it f a key ms b) b)
    go false = ranges_in_it f a key ms false f.store r keys k r.store
    go true =
        ranges_in_it f a key ms true (record f.store { stamps = stamped_from (in_it f a key ms true) key f.store.stamps partition_count 0 }) r keys k
        (record { digests = r.store.digests; versions = r.store.versions; stamps = stamped_fits (in_it f a key ms true) key partition_count 0 f.store.stamps k no_writes_counted r.store.stamps })

-- ---- transactions that end

pub closing_kept : (me : ℕ) (key : ClusterKey) (ts : List Transaction) → map (ending_of me key) (map kept_of ts) ≡ map (λ t. ending me key t.number t.applied) ts
closing_kept me key [] = refl
closing_kept me key (t ∷ ts) = ap₂ (λ (l : Line) (ls : List Line). l ∷ ls) (go t.applied) (closing_kept me key ts)
  where
    go : (o : Option Write) → (if is_some o then line.Doubt me key t.number else line.Aborted me key t.number) ≡ ending me key t.number o
    go None = refl
    go (Some x) = refl
