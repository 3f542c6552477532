-- A node to which the last row came.
use Rattle.std.proofs.Common.{◌≡◌, true, refl, sym, ap, subst, ◌∙◌}
use Rattle.cluster_types.specs.Partitions.{partition_count}
use Rattle.record_store.specs.Store as held
use Rattle.emigrate.specs.Going.{AreHeld}
use Rattle.emigrate.proofs.CollectLaws.{pending_held}
use Rattle.node_rules.specs.Copies.{Stamps}
use Rattle.node_rules.specs.Exchange.{Exchange, finished, with_row}
use Rattle.node_rules.specs.Facts.{Facts, view_key}
use Rattle.node_rules.specs.Notes.{exchanged, is_for, own_targets}
use Rattle.node_rules.specs.Standing.{others}
use Rattle.node_view.specs.declared.view_step.LastRow.{LastRow}
use Rattle.node_view.specs.Fits.{FitsLastRow}
use Rattle.node_view.specs.Plans.{facts_with_row, with_stamps}
use Rattle.node_view.specs.Views.{IsHandedOn, IsInView, IsLike, IsNodeInView, KeepsWatch, Viewed, facts_in}
use Rattle.node_view.proofs.SightLaws.{Sees, in_view}
use Rattle.node_view.proofs.StampLaws.{stamped_alike}
use Rattle.node_view.proofs.StepLaws.{IsNode, is_node, node_of}

-- the view once that row is there
abbrev pub with_last : Viewed → LastRow → Viewed
with_last v l = record v { exchange = finished (record v.exchange { rows = with_row v.exchange.rows l.from l.row }); batches = l.emigration.targets }

-- the facts then, but for the stamps
abbrev pub finishing : Facts → LastRow → Facts
finishing f l = record (facts_with_row f l.from l.row) { exchange = finished (facts_with_row f l.from l.row).exchange; batches = own_targets (facts_with_row f l.from l.row) }

-- what is handed on goes by the node, the factor, the content and the exchange
pub targets_alike : (f g : Facts) → g.me ≡ f.me → g.factor ≡ f.factor → g.exchange ≡ f.exchange → g.store.content ≡ f.store.content → own_targets g ≡ own_targets f
targets_alike f g me factor exchange content = rw (me, factor, exchange, content) refl

pub handed_on : (v : Viewed) (s : held.StoreWithRoom) (l : LastRow) → FitsLastRow (facts_in v s) l → IsHandedOn v s l.from l.row l.emigration.targets
handed_on v s l fits = record {
  pending = λ f me factor content exchange. fits.targets ∙ sym (targets_alike (facts_with_row (facts_in v s) l.from l.row) f me factor exchange content);
}

pub finished_node : (f : Facts) (v w : Viewed) (s : held.StoreWithRoom) (l : LastRow) → FitsLastRow (facts_in v s) l → IsLike (with_last v l) w
    → ((g : Facts) → IsInView g w → g.store.content ≡ s.versions → KeepsWatch g w.watch) → IsNodeInView f v s → IsNodeInView (finishing f l) w s
finished_node f v w s l fits alike watch h =
    node_of (finishing f l) w s (record {
      sight = sight;
      policy = alike.by ∙ n.policy;
      pending = subst (AreHeld f.store.content) (sym batches) (pending_held (is_for (facts_with_row f l.from l.row)) f.store.content (others (facts_with_row f l.from l.row)));
      watch = watch (finishing f l) (in_view (finishing f l) w sight) n.content;
      content = n.content;
      stamps = n.stamps;
      by = n.by;
    })
  where
    n : IsNode f v s
    n = is_node f v s h

    rows : Exchange → Exchange
    rows x = record x { rows = with_row x.rows l.from l.row }

    batches : w.batches ≡ own_targets (facts_with_row f l.from l.row)
    batches =
        alike.batches ∙ (fits.targets
        ∙ targets_alike (facts_with_row f l.from l.row) (facts_with_row (facts_in v s) l.from l.row) (sym n.sight.me) (sym n.sight.factor)
        (ap (λ (x : Exchange). record x { rows = with_row x.rows l.from l.row }) (sym n.sight.exchange)) (sym n.content))

    sight : Sees (finishing f l) w
    sight = record {
      me = n.sight.me ∙ sym alike.me;
      factor = n.sight.factor ∙ sym alike.factor;
      exchange = ap (λ (x : Exchange). finished (record x { rows = with_row x.rows l.from l.row })) n.sight.exchange ∙ sym alike.exchange;
      writes = n.sight.writes ∙ sym alike.writes;
      transactions = n.sight.transactions ∙ sym alike.transactions;
      batches = sym batches;
      bits = n.sight.bits ∙ sym alike.bits;
    }

-- with the stamps these are the facts once the exchange is finished
pub all_finished : (f : Facts) (l : LastRow) → with_stamps (finishing f l) true ≡ exchanged (facts_with_row f l.from l.row) (view_key f)
all_finished f l =
    let g = facts_with_row f l.from l.row in
    ap (λ (m : Stamps). record g { exchange = finished g.exchange; store = record g.store { stamps = m }; batches = own_targets g })
    (stamped_alike g (own_targets g) (view_key f) g.store.stamps partition_count 0)
