-- A view as it is entered: its first stage, and what is known in it.
use Rattle.std.proofs.Common.{◌≡◌, ℕ, Bool, true, false, List, [], ◌∷◌, length, map, Some, refl, sym, ap, ap₂, subst, ◌∙◌}
use Rattle.std.specs.Prelude.{is_none}
use Rattle.std.proofs.lemmas.List.{length-replicate}
use Rattle.conflict_order.specs.declared.policy.Policy.{Policy}
use Rattle.cluster_types.specs.declared.cluster_key.ClusterKey.{ClusterKey}
use Rattle.cluster_types.specs.declared.member.Member.{Member}
use Rattle.cluster_types.specs.Members.{AreMembers}
use Rattle.cluster_types.specs.Partitions.{partition_count, partition_of}
use Rattle.record_store.specs.Store as held
use Rattle.exchange.specs.declared.exchanging.ExchangeStep.{ExchangeStep}
use Rattle.exchange.specs.Met.{Met, met_sends_to}
use Rattle.exchange.specs.Steps.{step_if, step_of}
use Rattle.cluster_types.specs.Rows.{IsClear}
use Rattle.dup_resolve.specs.declared.txn.Txn.{Txn}
use Rattle.dup_resolve.specs.Open.{Open}
use Rattle.progress.proofs.RowLaws.{clear_is, clear_is_clear}
use Rattle.node_rules.specs.Agreement.{others_among}
use Rattle.node_rules.specs.Batches as batches
use Rattle.node_rules.specs.Batches.{Target, Targets, done_row}
use Rattle.node_rules.specs.Bits.{Bits, clear_row, no_bits}
use Rattle.node_rules.specs.Copies.{Content, Row, Stamps}
use Rattle.node_rules.specs.Exchange.{begun, finished, first_missing, is_member, is_single, members_of}
use Rattle.node_rules.specs.Facts.{Facts}
use Rattle.node_rules.specs.Tables.{Table}
use Rattle.node_rules.specs.Transactions.{no_transactions}
use Rattle.node_view.specs.declared.notes.TxnNote.{TxnNote}
use Rattle.node_view.specs.Transactions.{AreNoted, AreNotesOf, Noted, running_with, transactions_of}
use Rattle.node_view.specs.declared.view.Moving.{Moving}
use Rattle.node_view.specs.declared.view.Stage.{Stage}
use Rattle.node_view.specs.declared.view.Stage.TheVariants as stage
use Rattle.node_view.specs.Views.{IsEntered, IsFirstStage, IsHandedOnBy, IsLike, IsMovingStage, IsStageOf, IsWithStore, Viewed, exchange_at, own_done, store_row, store_of, targets_at, view_at_entry, viewed_at_entry, with_view}
use Rattle.node_view.proofs.AnewLaws.{IsAnew, like_anew, watch_anew}
use Rattle.node_view.proofs.EntryLaws.{alone_has_no_others, alone_lacks_none}
use Rattle.node_view.proofs.RowLaws.{row_of_bits}
use Rattle.node_view.proofs.SightLaws.{in_view}
use Rattle.node_view.proofs.WaitingLaws.{none_is, some_is}

-- ---- the first stage

clear_length : length clear_row ≡ partition_count
unfolding clear_row
clear_length = length-replicate partition_count false

-- before the exchange is finished no partition is done
none_done : (ts : Targets) → clear_row ≡ done_row false ts partition_count 0
none_done ts = row_of_bits clear_row (λ q. false) partition_count clear_length (λ p within. clear_is_clear.clear p)

-- what the first stage of a view says
pub record IsBegun (me factor : ℕ) (key : ClusterKey) (ms : List Member) (row : Row) (s : Stage) : Type 0 where
  pub stage_of : IsStageOf me factor key s
  pub exchange : exchange_at s ≡ record (begun me key ms row) { exchanged = is_single ms }
  pub targets : targets_at s ≡ []
  pub done : own_done clear_row s ≡ done_row (exchange_at s).exchanged (targets_at s) partition_count 0

-- a node with its own row
abbrev entering : ℕ → ℕ → ClusterKey → List Member → Row → Met
entering me factor key ms row = record { me = me; factor = factor; exchange = begun me key ms row }

begun_waiting : (me factor : ℕ) (key : ClusterKey) (ms : List Member) (row : Row) → is_single ms ≡ false → is_none (first_missing (record { node = me; row = row } ∷ []) ms) ≡ false → IsBegun me factor key ms row (stage.Exchanging (entering me factor key ms row))
begun_waiting me factor key ms row single more = record {
  stage_of = record { met = record { me = refl; factor = refl }; unfinished = refl; missing = some_is (first_missing (record { node = me; row = row } ∷ []) ms) more };
  exchange = ap (λ (b : Bool). record (begun me key ms row) { exchanged = b }) (sym single);
  targets = refl;
  done = none_done [];
}

begun_alone : (me factor : ℕ) (key : ClusterKey) (ms : List Member) (row : Row) (records : Content) (m : Moving) → is_member ms me ≡ true → is_single ms ≡ true
    → is_none (first_missing (record { node = me; row = row } ∷ []) ms) ≡ true
    → IsHandedOnBy (record (entering me factor key ms row) { exchange = finished (begun me key ms row) }) records ms key me m → IsBegun me factor key ms row (stage.Exchanged m)
begun_alone me factor key ms row records m member single whole h =
    let alone : others_among me ms ≡ [] = alone_has_no_others me ms member single in
    let none : m.emigration.targets ≡ [] = h.targets ∙ ap (λ (ns : List ℕ). batches.targets_of (λ to d. met_sends_to (record (entering me factor key ms row) { exchange = finished (begun me key ms row) }) (partition_of d) me to) records ns) alone in
    let done : m.map.exchange.exchanged ≡ true = ap (λ (x : Met). x.exchange.exchanged) h.map in
    record {
      stage_of = record {
        met = record { me = ap (λ (x : Met). x.me) h.map; factor = ap (λ (x : Met). x.factor) h.map };
        finished = done;
        whole = ap (λ (x : Met). first_missing x.exchange.rows (members_of x.exchange.view)) h.map ∙ none_is (first_missing (record { node = me; row = row } ∷ []) ms) whole;
        key_of = h.key_of;
        targeted = ap (map (λ (t : Target). t.node)) none ∙ (sym alone ∙ sym (ap (λ (x : Met). others_among me (members_of x.exchange.view)) h.map));
      };
      exchange = ap (λ (x : Met). x.exchange) h.map ∙ ap (λ (b : Bool). record (begun me key ms row) { exchanged = b }) (sym single);
      targets = none;
      done = sym (ap (λ (b : Bool). done_row b m.emigration.targets partition_count 0) done);
    }

pub begins : (me factor : ℕ) (key : ClusterKey) (ms : List Member) (row : Row) (records : Content) (step : ExchangeStep) (s : Stage) → AreMembers ms → is_member ms me ≡ true
    → step ≡ step_of (record { me = me; factor = factor; exchange = begun me key ms row }) → IsFirstStage step records ms key me s → IsBegun me factor key ms row s
begins me factor key ms row records step s valid member is first = go (is_none (first_missing (record { node = me; row = row } ∷ []) ms)) refl (subst (λ (t : ExchangeStep). IsFirstStage t records ms key me s) is first)
  where
    moves : (t : Stage) → is_none (first_missing (record { node = me; row = row } ∷ []) ms) ≡ true
        → IsMovingStage (record (entering me factor key ms row) { exchange = finished (begun me key ms row) }) records ms key me t → IsBegun me factor key ms row t
    moves (stage.Exchanging x) whole h = absurd h
    moves (stage.Exchanged m) whole h = begun_alone me factor key ms row records m member (sym (alone_lacks_none me row ms valid member) ∙ whole) whole h
    moves stage.Taken whole h = absurd h

    go : (b : Bool) → is_none (first_missing (record { node = me; row = row } ∷ []) ms) ≡ b → IsFirstStage (step_if b (entering me factor key ms row)) records ms key me s → IsBegun me factor key ms row s
    go true e h = moves s e h
    go false e h = subst (IsBegun me factor key ms row) (sym h) (begun_waiting me factor key ms row (sym (alone_lacks_none me row ms valid member) ∙ e) e)

-- ---- nothing of it is known

pub none_noted : (o : Open) (n : Noted) → o.opened ≡ 0 → o.running ≡ [] → n.opened ≡ 0 → n.kept ≡ [] → AreNoted o n
none_noted o n opened running first kept = record {
  opened = first ∙ sym opened;
  notes = subst (λ (ts : List Txn). AreNotesOf ts n.kept) (sym running) (subst (λ (ns : Table TxnNote). AreNotesOf [] ns) (sym kept) tt);
}

pub none_open : (o : Open) (n : Noted) → o.opened ≡ 0 → o.running ≡ [] → transactions_of o n ≡ no_transactions
none_open o n opened running = ap₂ (λ (k : ℕ) (ts : List Txn). record { opened = k; running = running_with ts n.kept }) opened running

pub none_set : (b : Bits) (row : List Bool) → b ≡ no_bits → length row ≡ partition_count → IsClear row → record b { learnt = row } ≡ no_bits
none_set b row none size clear = ap₂ (λ (c : Bits) (r : List Bool). record c { learnt = r }) none (clear_is row size clear)

-- ---- what is known in it

same_store : (f : Facts) (s : held.StoreWithRoom) → IsWithStore f s → f.store ≡ store_of s
same_store f s h = whole s.versions s.stamps s.by h.content h.stamps h.by
  where
    whole : (content : Content) (stamps : Stamps) (by : Policy) → f.store.content ≡ content → f.store.stamps ≡ stamps → f.store.by ≡ by → f.store ≡ record { content = content; stamps = stamps; by = by }
    whole content stamps by e1 e2 e3 = rw (← e1, ← e2, ← e3) refl

like_trans : (u v w : Viewed) → IsLike u v → IsLike v w → IsLike u w
like_trans u v w h k = record {
  me = k.me ∙ h.me;
  factor = k.factor ∙ h.factor;
  by = k.by ∙ h.by;
  exchange = k.exchange ∙ h.exchange;
  writes = k.writes ∙ h.writes;
  transactions = k.transactions ∙ h.transactions;
  batches = k.batches ∙ h.batches;
  bits = k.bits ∙ h.bits;
}

pub entered : (s : held.StoreWithRoom) (u v w : Viewed) (f : Facts) (key : ClusterKey) (ms : List Member) (me factor : ℕ) → IsAnew s u v w → IsLike (viewed_at_entry me factor s.by key ms (store_row s)) u
    → f.me ≡ me → f.factor ≡ factor → IsWithStore f s → IsEntered f key ms w
entered s u v w f key ms me factor anew like own count stored =
    let same : view_at_entry f key ms ≡ viewed_at_entry me factor s.by key ms (store_row s) = rw (own, count, same_store f s stored) refl in
    let alike : IsLike (view_at_entry f key ms) w = like_trans (view_at_entry f key ms) u w (subst (λ (x : Viewed). IsLike x u) (sym same) like) (like_anew s u v w anew) in
    record {
      alike = alike;
      watch =
          watch_anew s u v w anew (with_view f (Some w))
          (in_view (with_view f (Some w)) w (record { me = sym alike.me; factor = sym alike.factor; exchange = refl; writes = refl; transactions = refl; batches = refl; bits = refl }))
          stored.content;
    }
