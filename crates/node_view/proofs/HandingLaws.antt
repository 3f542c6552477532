-- What is handed on once the last row is there.
use Rattle.std.proofs.Common.{◌≡◌, ℕ, Bool, true, false, List, [], ◌∷◌, map, Option, Some, refl, sym, ap, ap₂, subst, ◌∙◌}
use Rattle.std.specs.Prelude.{is_none, unwrap_or}
use Rattle.cluster_types.specs.declared.member.Member.{Member}
use Rattle.cluster_types.specs.Partitions.{partition_of}
use Rattle.record_store.specs.Store as held
use Rattle.node_rules.specs.Agreement.{others_among}
use Rattle.exchange.specs.declared.exchanging.ExchangeStep.TheVariants.{Complete}
use Rattle.exchange.specs.Met.{Met, met_members, met_sends_to, with_row_of, without_row_of}
use Rattle.exchange.specs.Steps.{step_if, step_of}
use Rattle.node_rules.specs.declared.member_row.MemberRow.{MemberRow}
use Rattle.node_rules.specs.Batches as batches
use Rattle.node_rules.specs.Batches.{Target, Targets}
use Rattle.node_rules.specs.Copies.{Content, Row}
use Rattle.node_rules.specs.Exchange.{Exchange, finished, first_missing, members_of, with_row}
use Rattle.node_rules.specs.Facts.{Facts}
use Rattle.node_rules.specs.Map.{lacks, row_of_member}
use Rattle.node_rules.specs.Notes as notes
use Rattle.node_rules.specs.Standing as standing
use Rattle.node_view.specs.declared.view.Stage.{Stage}
use Rattle.node_view.specs.declared.view.Stage.TheVariants as stage
use Rattle.node_view.specs.declared.view.View.TheInside.{Inside}
use Rattle.node_view.specs.Views.{FieldsAgree, AreTargeted, IsHandedOn, IsStageOf, IsWaitingOf, Viewed, exchange_at, facts_in, view_of}
use Rattle.node_view.proofs.MissingLaws.{row_out, row_there}

-- ---- the last row, and the exchange before it

completes : (x d : Met) → Complete d ≡ step_of x → d ≡ record x { exchange = finished x.exchange }
completes x d is = go (is_none (first_missing x.exchange.rows (met_members x))) is
  where
    go : (b : Bool) → Complete d ≡ step_if b x → d ≡ record x { exchange = finished x.exchange }
    go true h = cc
    go false h = cc

-- the exchange that waits for that row alone, and the same with it
pub record IsBefore (x d : Met) (from : ℕ) (row : Row) : Type 0 where
  pub absent : lacks x.exchange.rows from ≡ true
  pub unfinished : x.exchange.exchanged ≡ false
  pub whole : d ≡ record (with_row_of x from row) { exchange = finished (with_row_of x from row).exchange }

pub is_before : (v : Inside) (now : Viewed) (x d : Met) (from : ℕ) (row : Row) → view_of v ≡ now → FieldsAgree v → v.stage ≡ stage.Exchanging x → lacks now.exchange.rows from ≡ true → Complete d ≡ step_of (with_row_of x from row)
    → IsBefore x d from row
is_before v now x d from row seen agrees at lacking is =
    let waits : IsWaitingOf x v.me v.factor = subst (IsStageOf v.me v.factor v.key) at agrees.stage_of in
    record {
      absent = ap (λ (y : Exchange). lacks y.rows from) (sym (ap exchange_at at)) ∙ (ap (λ (w : Viewed). lacks w.exchange.rows from) seen ∙ lacking);
      unfinished = waits.unfinished;
      whole = completes (with_row_of x from row) d is;
    }

-- without the row again the stage is as before
pub stage_back : (s : Stage) (x d w : Met) (from : ℕ) (row : Row) → s ≡ stage.Exchanging x → IsBefore x d from row → w ≡ without_row_of d from → stage.Exchanging w ≡ s
stage_back s x d w from row at before is =
    let same : w ≡ x =
    is
    ∙ ap (λ (m : Met). without_row_of m from) before.whole
    ∙ ap₂ (λ (rows : List MemberRow) (b : Bool). record x { exchange = record x.exchange { rows = rows; exchanged = b } }) (row_out x.exchange.rows from row before.absent) (sym before.unfinished) in
    ap stage.Exchanging same ∙ sym at

pub row_back : (x d : Met) (from : ℕ) (row again : Row) → IsBefore x d from row → row_of_member d.exchange.rows from ≡ Some again → again ≡ row
row_back x d from row again before is =
    let some : Some again ≡ Some row = sym is ∙ ap (λ (m : Met). row_of_member m.exchange.rows from) before.whole ∙ row_there x.exchange.rows from row before.absent in
    ap (λ (o : Option Row). unwrap_or o row) some

-- ---- targets

nodes_of_targets : (is_for : ℕ → List ℕ → Bool) (content : Content) (ns : List ℕ) → map (λ (t : Target). t.node) (batches.targets_of is_for content ns) ≡ ns
nodes_of_targets is_for content [] = refl
nodes_of_targets is_for content (n ∷ ns) = ap (λ (ms : List ℕ). n ∷ ms) (nodes_of_targets is_for content ns)

pub handed_targets : (v : Viewed) (s : held.StoreWithRoom) (from : ℕ) (row : Row) (ts : Targets) → IsHandedOn v s from row ts → AreTargeted ts v.me (members_of v.exchange.view)
handed_targets v s from row ts h =
    let f : Facts = record (facts_in v s) { exchange = record v.exchange { rows = with_row v.exchange.rows from row } } in
    ap (map (λ (t : Target). t.node)) (h.pending f refl refl refl refl) ∙ nodes_of_targets (notes.is_for f) f.store.content (standing.others f)

-- the exchange with the last row, as the view tells it
pub record IsLastOf (v : Viewed) (m : Met) (ms : List Member) (me from : ℕ) (row : Row) : Type 0 where
  pub own : me ≡ v.me
  pub factor : m.factor ≡ v.factor
  pub rows : m.exchange.rows ≡ with_row v.exchange.rows from row
  pub view : m.exchange.view ≡ v.exchange.view
  pub all : ms ≡ members_of v.exchange.view

pub hands_on : (v : Viewed) (s : held.StoreWithRoom) (m : Met) (ms : List Member) (me from : ℕ) (row : Row) (ts : Targets) → IsLastOf v m ms me from row
    → ts ≡ batches.targets_of (λ to d. met_sends_to m (partition_of d) me to) s.versions (others_among me ms) → IsHandedOn v s from row ts
hands_on v s m ms me from row ts last is = record {
  pending = λ f same_me same_factor content exchange. is ∙ rw (last.own, last.factor, last.rows, last.view, last.all, same_me, same_factor, content, exchange) refl;
}
