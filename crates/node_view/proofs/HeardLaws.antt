-- A node that heard how far the others are.
use Rattle.std.proofs.Common.{◌≡◌, ℕ, Bool, true, List, refl, sym, ap, subst, ◌∙◌}
use Rattle.std.specs.List.{Contains}
use Rattle.cluster_types.specs.Rows.{bit}
use Rattle.cluster_types.proofs.OrRows.{or_bit}
use Rattle.partition_lists.proofs.ListLaws.{any_is_contained}
use Rattle.record_store.specs.Store as held
use Rattle.node_rules.specs.Agreement.{others_among}
use Rattle.node_rules.specs.Bits.{Bits, or_rows, progressing}
use Rattle.node_rules.specs.Exchange.{members_of}
use Rattle.node_rules.specs.Copies.{Content, holds_of}
use Rattle.node_rules.specs.Facts.{Facts}
use Rattle.node_rules.specs.Standing.{knows_settled_by}
use Rattle.node_rules.specs.Standing as standing
use Rattle.node_view.specs.Views.{AreLive, IsInView, IsNodeInView, IsOtherMember, Viewed, facts_in, facts_seen, unsettled_count, with_bits, with_live, with_settled_row, with_unsettled}
use Rattle.node_view.proofs.SightLaws.{in_view, sees}
use Rattle.node_view.proofs.StageLaws.{is_other, other_from}
use Rattle.node_view.proofs.StepLaws.{is_node, node_of}
use Rattle.node_view.proofs.WatchLaws.{count_alike, live_alike}

-- one of the others is another member, and the other way round
pub other_member : (v : Viewed) (s : held.StoreWithRoom) (n : ℕ) → Contains (standing.others (facts_in v s)) n → IsOtherMember v n
other_member v s n found =
    let both = other_from v.me n (members_of v.exchange.view) ((any_is_contained n (others_among v.me (members_of v.exchange.view))).1 found) in
    record { member = both.0; other = both.1 }

pub contained : (v : Viewed) (n : ℕ) → IsOtherMember v n → Contains (others_among v.me (members_of v.exchange.view)) n
contained v n o = (any_is_contained n (others_among v.me (members_of v.exchange.view))).0 (is_other v.me n (members_of v.exchange.view) o.member o.other)

-- no bit is lost
pub bits_kept : (a b : List Bool) (p : ℕ) → bit a p ≡ true → bit (or_rows a b) p ≡ true
bits_kept a b p set = or_bit a b p ∙ rw set refl

-- so many weren't known settled with the bits before
pub counted_before : (v : Viewed) (s : held.StoreWithRoom) (bs : Bits) (before : List Bool) → IsNodeInView (facts_in v s) v s → before ≡ v.bits.settled
    → v.watch.unsettled ≡ unsettled_count (with_settled_row (facts_seen (with_bits v bs)) before)
counted_before v s bs before h is =
    h.view.watch.unsettled
    ∙ sym (count_alike (facts_in v s) (with_settled_row (facts_seen (with_bits v bs)) before)
    (λ p. ap (λ (row : List Bool). knows_settled_by (bit row p) v.exchange.exchanged (standing.is_all_empty (facts_seen v) p)) is))

-- and the partitions that aren't live were quiet with them
pub quiet_before : (f g : Facts) (v : Viewed) (s : held.StoreWithRoom) (bs : Bits) (before : List Bool) → IsNodeInView f v s → IsInView g (with_bits v bs) → g.store.content ≡ s.versions → before ≡ v.bits.settled
    → bs.own_handed ≡ v.bits.own_handed → bs.learnt ≡ v.bits.learnt → AreLive (with_settled_row g before) v.watch.live
quiet_before f g v s bs before h i content is own learnt =
    let n = is_node f v s h in
    let t = sees g (with_bits v bs) i in
    live_alike f (with_settled_row g before) v.watch.live (λ p. record {
      me = t.me ∙ sym n.sight.me;
      factor = t.factor ∙ sym n.sight.factor;
      exchange = t.exchange ∙ sym n.sight.exchange;
      own_handed = ap (λ (b : Bits). bit b.own_handed p) t.bits ∙ ap (λ (row : List Bool). bit row p) own ∙ ap (λ (b : Bits). bit b.own_handed p) (sym n.sight.bits);
      settled = ap (λ (row : List Bool). bit row p) is ∙ ap (λ (b : Bits). bit b.settled p) (sym n.sight.bits);
      learnt = ap (λ (b : Bits). bit b.learnt p) t.bits ∙ ap (λ (row : List Bool). bit row p) learnt ∙ ap (λ (b : Bits). bit b.learnt p) (sym n.sight.bits);
      holds = ap (λ (c : Content). holds_of c p) (content ∙ sym n.content);
    }) n.watch.live

-- what is kept of the partitions plays no part
pub in_view_uncounted : (f : Facts) (v : Viewed) (count : ℕ) → IsInView f (with_unsettled v count) → IsInView f v
in_view_uncounted f v count h = record { me = h.me; factor = h.factor; view = h.view }

-- all partitions are counted and looked at
pub heard_anew : (f : Facts) (v : Viewed) (s : held.StoreWithRoom) (bs : Bits) (count : ℕ) (live : List Bool) → IsNodeInView f v s
    → ((g : Facts) → IsInView g (with_bits v bs) → count ≡ unsettled_count g)
    → ((g : Facts) → IsInView g (with_unsettled (with_bits v bs) count) → g.store.content ≡ s.versions → AreLive g live)
    → IsNodeInView (record f { bits = bs })
    (with_live (with_unsettled (with_bits v bs) count) live) s
heard_anew f v s bs count live h counts looks =
    let n = is_node f v s h in
    let g : Facts = record f { bits = bs } in
    node_of g (with_live (with_unsettled (with_bits v bs) count) live) s (record {
      sight = record { me = n.sight.me; factor = n.sight.factor; exchange = n.sight.exchange; writes = n.sight.writes; transactions = n.sight.transactions; batches = n.sight.batches; bits = refl };
      policy = n.policy;
      pending = n.pending;
      watch = record {
        unsettled = counts g (in_view g (with_bits v bs) (record { me = n.sight.me; factor = n.sight.factor; exchange = n.sight.exchange; writes = n.sight.writes; transactions = n.sight.transactions; batches = n.sight.batches; bits = refl }));
        live = looks g (in_view g (with_unsettled (with_bits v bs) count) (record { me = n.sight.me; factor = n.sight.factor; exchange = n.sight.exchange; writes = n.sight.writes; transactions = n.sight.transactions; batches = n.sight.batches; bits = refl })) n.content;
      };
      content = n.content;
      stamps = n.stamps;
      by = n.by;
    })

-- the facts' bits are the view's
pub bits_seen : (f : Facts) (v w : Viewed) (s : held.StoreWithRoom) (from : ℕ) (done handed settled : List Bool) → IsNodeInView f v s → IsNodeInView (record f { bits = progressing v.bits from done handed settled }) w s
    → IsNodeInView (record f { bits = progressing f.bits from done handed settled }) w s
bits_seen f v w s from done handed settled h after =
    subst (λ (b : Bits). IsNodeInView (record f { bits = progressing b from done handed settled }) w s) (sym (sees f v h.view.viewed).bits) after
