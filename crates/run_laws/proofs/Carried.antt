-- The tie goes over every line that the facts allow.
use Rattle.std.proofs.Common.{◌≡◌, ℕ, ◌+◌, ◌<◌, ◌==◌, Bool, true, false, not, List, Option, Some, None, refl, sym, ap, ◌∙◌, subst, arith}
use Rattle.std.specs.Prelude.{option_map, nat_lt, slice_get, ◌-◌, if◌then◌else◌}
use Rattle.std.specs.FinMap as finite
use Rattle.conflict_order.specs.declared.version.Version.{Version}
use Rattle.conflict_order.specs.declared.want.Action.{Action}
use Rattle.cluster_types.specs.declared.cluster_key.ClusterKey.{ClusterKey}
use Rattle.cluster_types.specs.declared.member.Member.{Member}
use Rattle.cluster_types.specs.Partitions.{partition_count, partition_of}
use Rattle.journal_lines.specs.declared.line.Line.{Line}
use Rattle.journal_lines.specs.declared.line.Line.TheVariants as line
use Rattle.node_rules.specs.Facts.{Facts, list_at}
use Rattle.node_rules.specs.Notes as notes
use Rattle.node_rules.specs.Notes.{note, own_row, request_want}
use Rattle.cluster_rules.specs.Marks.{Begins, Writes, after_line, taken_by}
use Rattle.cluster_rules.specs.declared.event.Event.{Event}
use Rattle.cluster_rules.specs.declared.event.Event.TheVariants as event
use Rattle.cluster_rules.specs.Network.{Network, posting_at, landed}
use Rattle.cluster_rules.specs.World.{World, changed_at, new_if}
use Rattle.journal_readings.specs.Messages.{Posting}
use Rattle.cluster_laws.specs.Changed.{at_number, at_key, at_stay}
use Rattle.cluster_laws.specs.Changes as changes
use Rattle.cluster_laws.specs.Ground.{Ground, is_view_member}
use Rattle.cluster_laws.specs.Licences as licences
use Rattle.cluster_laws.specs.Picture.{Seen, Owed, Picture}
use Rattle.cluster_laws.specs.Stay.{Stay}
use Rattle.cluster_laws.proofs.At.{no_some, and_left, number_here}
use Rattle.run_laws.specs.Tied.{Seens, Stays, Views, key_in}
use Rattle.run_laws.specs.Fronts.{Front, world_of, facts_at, front_after, packet_of, Ties, Tied, Sane}
use Rattle.run_laws.specs.LineOk.{StandsInView, ExchangeOk, OpenOk, GiveUpOk, LineOk}
use Rattle.run_laws.proofs.Arrivals.{TiedTo, below_count, with_other}
use Rattle.run_laws.proofs.Closing.{closed_tied, finished_tied, given_up_tied}
use Rattle.run_laws.proofs.Delivered.{delivered_tied, cut_tied}
use Rattle.run_laws.proofs.Kept.{handed_seen, handed_tied, settled_seen, settled_tied, learn_seen, learn_tied, drop_seen, drop_tied, merge_seen, merge_tied, apply_seen, apply_tied, enter_seen, enter_tied, exchanged_seen, exchanged_tied}
use Rattle.run_laws.proofs.Moves.{Elsewhere, SameTie, same_tie, unmoved, marked, in_view, facts_only, with_stay, with_node, with_both, with_clock}
use Rattle.run_laws.proofs.Opened.{opened_tied}
use Rattle.run_laws.proofs.Posted.{posted_tied}
use Rattle.run_laws.proofs.Standing.{views_at, member_at, rows_at, stay_at, closing_at}

-- ---- one node changes

abbrev Facts_to : Front → Picture → ℕ → Facts → (ℕ → Bool) → Type 0
Facts_to z w n g d = Ties (changed_at (world_of z).facts n g) (world_of z).clocks d (world_of z).network z.owed w.node w.stay w.packet w.owed

beside : (z : Front) (w : Picture) (n : ℕ) (g : Facts) → Tied z w → SameTie (facts_at z n) g → Facts_to z w n g z.closing
beside z w n g t h = facts_only (world_of z).facts (world_of z).clocks z.closing z.closing (world_of z).network z.owed w.node w.stay w.packet w.owed n g (unmoved n z.closing)
    (same_tie (facts_at z n) g (w.node n) (w.stay n) ((world_of z).clocks n) (z.closing n) h (t.nodes n)) t

-- another stay of the view's key, where the test says whether the node is about to leave
in_stay : (z : Front) (w : Picture) (n : ℕ) (k : ClusterKey) (g : Facts) (s : Stay) (d : ℕ → Bool) → Tied z w → Elsewhere n z.closing d → key_in g.exchange.view ≡ Some k → Seens g (w.node n) → Stays g s → s.closing ≡ d n
    → Ties (changed_at (world_of z).facts n g) (world_of z).clocks d (world_of z).network z.owed w.node (at_stay w.stay n k s) w.packet w.owed
in_stay z w n k g s d t other i sn st cl = with_stay (world_of z).facts (world_of z).clocks z.closing d (world_of z).network z.owed w.node w.stay w.packet w.owed n g (at_key (w.stay n) k s) other
    (in_view g (w.node n) (w.stay n) k s ((world_of z).clocks n) (d n) i sn (t.nodes n).clock st cl) t

in_both : (z : Front) (w : Picture) (n : ℕ) (k : ClusterKey) (g : Facts) (x : Seen) (s : Stay) (d : ℕ → Bool) → Tied z w → Elsewhere n z.closing d → key_in g.exchange.view ≡ Some k → Seens g x → x.clock ≡ (w.node n).clock → Stays g s → s.closing ≡ d n
    → Ties (changed_at (world_of z).facts n g) (world_of z).clocks d (world_of z).network z.owed (at_number w.node n x) (at_stay w.stay n k s) w.packet w.owed
in_both z w n k g x s d t other i sn cl st e = with_both (world_of z).facts (world_of z).clocks z.closing d (world_of z).network z.owed w.node w.stay w.packet w.owed n g x (at_key (w.stay n) k s) other
    (in_view g x (w.stay n) k s ((world_of z).clocks n) (d n) i sn (cl ∙ (t.nodes n).clock) st e) t

-- the node keeps its stay
in_node : (z : Front) (w : Picture) (n : ℕ) (g : Facts) (x : Seen) → Tied z w → g.exchange ≡ (facts_at z n).exchange → Seens g x → x.clock ≡ (w.node n).clock → ((s : Stay) → Stays (facts_at z n) s → Stays g s)
    → Ties (changed_at (world_of z).facts n g) (world_of z).clocks z.closing (world_of z).network z.owed (at_number w.node n x) w.stay w.packet w.owed
in_node z w n g x t e sn cl st = with_node (world_of z).facts (world_of z).clocks z.closing z.closing (world_of z).network z.owed w.node w.stay w.packet w.owed n g x (unmoved n z.closing) (record {
  seen = sn;
  clock = cl ∙ (t.nodes n).clock;
  stay = λ v i. st (w.stay n v.key) ((t.nodes n).stay v (sym (ap (λ y. y.view) e) ∙ i));
  closing = λ v i. (t.nodes n).closing v (sym (ap (λ y. y.view) e) ∙ i);
}) t

-- what is seen of a node stays where its store, its last key and its view do
same_seen : (f g : Facts) (x : Seen) → g.exchange.view ≡ f.exchange.view → g.agreement ≡ f.agreement → g.store ≡ f.store → Seens f x → Seens g x
same_seen f g x v a s h = record {
  view = h.view ∙ ap key_in (sym v);
  last = h.last ∙ ap (λ y. y.last) (sym a);
  content = λ d. h.content d ∙ ap (λ y. finite.get y.content d) (sym s);
  stamp = λ p lt. h.stamp p lt ∙ ap (λ y. finite.get y.stamps p) (sym s);
}

-- ---- views

stop_line : (z : Front) (w : Picture) (n : ℕ) → Tied z w → Ties (changed_at (world_of z).facts n (notes.stopped (facts_at z n))) (world_of z).clocks (changed_at z.closing n false) (world_of z).network z.owed (changes.stops n w).node w.stay w.packet w.owed
stop_line z w n t = with_node (world_of z).facts (world_of z).clocks z.closing (changed_at z.closing n false) (world_of z).network z.owed w.node w.stay w.packet w.owed n (notes.stopped (facts_at z n)) (record (w.node n) { view = None }) (marked n z.closing false) (record {
  seen = record { view = refl; last = (t.nodes n).seen.last; content = (t.nodes n).seen.content; stamp = (t.nodes n).seen.stamp };
  clock = (t.nodes n).clock;
  stay = λ v i. no_some i;
  closing = λ v i. no_some i;
}) t

mark_here : (c : ℕ → Bool) (n : ℕ) (b : Bool) → b ≡ changed_at c n b n
mark_here c n b = go (n == n) (number_here n)
  where
    go : (q : Bool) → q ≡ true → b ≡ new_if b c n q
    go true e = refl
    go false e = absurd (grind (arith, e))

enter_line : (z : Front) (w : Picture) (n : ℕ) (k : ClusterKey) (ms : List Member) → (facts_at z n).me ≡ n → Tied z w
    → Ties (changed_at (world_of z).facts n (notes.entered (facts_at z n) k ms (own_row (facts_at z n)))) (world_of z).clocks (changed_at z.closing n false) (world_of z).network z.owed
    (at_number w.node n (record (w.node n) { view = Some k; last = k })) (at_stay w.stay n k (changes.stay_at_entry n (w.node n).content)) w.packet w.owed
enter_line z w n k ms me t = in_both z w n k (notes.entered (facts_at z n) k ms (own_row (facts_at z n))) (record (w.node n) { view = Some k; last = k }) (changes.stay_at_entry n (w.node n).content) (changed_at z.closing n false) t (marked n z.closing false) refl
    (enter_seen (facts_at z n) (w.node n) k ms (t.nodes n).seen) refl
    (subst (λ (m : ℕ). Stays (notes.entered (facts_at z n) k ms (own_row (facts_at z n))) (changes.stay_at_entry m (w.node n).content)) me (enter_tied (facts_at z n) (w.node n) k ms)) (mark_here z.closing n false)

exchanged_line : (G : Ground) (z : Front) (w : Picture) (n : ℕ) (k : ClusterKey) → Sane G (world_of z) → Tied z w → ExchangeOk G z n k
    → TiedTo (after_line (world_of z) (line.Exchanged n k)) z.closing z.owed (changes.exchanges G n k w)
exchanged_line G z w n k s t ok = in_both z w n k (notes.exchanged (facts_at z n) k) (record (w.node n) { stamp = changes.whole_where_empty G n k (w.node n) (w.stay n k) }) (changes.stay_after_exchange G n k (w.node n).content (w.stay n k)) z.closing t (unmoved n z.closing) ok.stands.view
    (subst (λ (m : ℕ). Seens (notes.exchanged (facts_at z n) k) (record (w.node n) { stamp = changes.whole_where_empty G m k (w.node n) (w.stay n k) })) me (exchanged_seen G k (facts_at z n) (w.node n) (w.stay n k) v ok.rows st (t.nodes n).seen)) refl
    (subst (λ (m : ℕ). Stays (notes.exchanged (facts_at z n) k) (changes.stay_after_exchange G m k (w.node n).content (w.stay n k))) me
    (exchanged_tied G k (facts_at z n) (w.node n) (w.stay n k) v ok.rows (subst (λ (m : ℕ). is_view_member G k m ≡ true) (sym me) (member_at G n (facts_at z n) k (s.nodes n) ok.stands.view)) (record { targets = (s.nodes n).quiet ok.first }) (t.nodes n).seen st))
    (closing_at z w n k t ok.stands.view)
  where
    me : (facts_at z n).me ≡ n
    me = (s.nodes n).me

    st : Stays (facts_at z n) (w.stay n k)
    st = stay_at z w n k t ok.stands.view

    v : Views G k (facts_at z n)
    v = views_at G n (facts_at z n) k (s.nodes n) ok.stands.view

-- ---- transactions

above : (o t : ℕ) → t ≡ o + 1 → o < t
above o t e = omega (arith, e)

opened_line : (G : Ground) (z : Front) (w : Picture) (n : ℕ) (k : ClusterKey) (u : ℕ) (d : List ℕ) (a : Action) → Sane G (world_of z) → Tied z w → OpenOk z n k u d
    → TiedTo (after_line (world_of z) (line.Opened n k u d a)) z.closing z.owed (changes.opens G n k u d w)
opened_line G z w n k u d a s t ok = in_stay z w n k (notes.transaction_opened (facts_at z n) (list_at (facts_at z n) (partition_of d)) u d (request_want (world_of z).want a)) (changes.beginning G n k u d (w.node n).content (w.stay n k)) z.closing t (unmoved n z.closing) ok.stands.view
    (same_seen (facts_at z n) (notes.transaction_opened (facts_at z n) (list_at (facts_at z n) (partition_of d)) u d (request_want (world_of z).want a)) (w.node n) refl refl refl (t.nodes n).seen)
    (subst (λ (m : ℕ). Stays (notes.transaction_opened (facts_at z n) (list_at (facts_at z n) (partition_of d)) u d (request_want (world_of z).want a)) (changes.beginning G m k u d (w.node n).content (w.stay n k))) me
    (opened_tied G k (facts_at z n) (w.node n) (w.stay n k) u d (request_want (world_of z).want a) (views_at G n (facts_at z n) k (s.nodes n) ok.stands.view) (rows_at G n (facts_at z n) k (s.nodes n) ok.stands.view x)
    (subst (λ (m : ℕ). is_view_member G k m ≡ true) (sym me) (member_at G n (facts_at z n) k (s.nodes n) ok.stands.view)) x ((s.nodes n).counted u (above (facts_at z n).transactions.opened u ok.number)) (t.nodes n).seen (stay_at z w n k t ok.stands.view)))
    (closing_at z w n k t ok.stands.view)
  where
    me : (facts_at z n).me ≡ n
    me = (s.nodes n).me

    x : (facts_at z n).exchange.exchanged ≡ true
    x = and_left (facts_at z n).exchange.exchanged _ ok.acts

closed_seen : (z : Front) (w : Picture) (n u : ℕ) → Tied z w → Seens (notes.closed (facts_at z n) u) (w.node n)
closed_seen z w n u t = same_seen (facts_at z n) (notes.closed (facts_at z n) u) (w.node n) refl refl refl (t.nodes n).seen

value_line : (G : Ground) (z : Front) (w : Picture) (n : ℕ) (k : ClusterKey) (u : ℕ) → Tied z w → StandsInView z n k → Ties (changed_at (world_of z).facts n (notes.closed (facts_at z n) u)) (world_of z).clocks z.closing (world_of z).network z.owed w.node (at_stay w.stay n k (changes.stay_without_transaction u (w.stay n k))) w.packet w.owed
value_line G z w n k u t st = in_stay z w n k (notes.closed (facts_at z n) u) (changes.stay_without_transaction u (w.stay n k)) z.closing t (unmoved n z.closing) st.view (closed_seen z w n u t) (closed_tied (facts_at z n) (w.stay n k) u (stay_at z w n k t st.view)) (closing_at z w n k t st.view)

done_line : (G : Ground) (z : Front) (w : Picture) (n : ℕ) (k : ClusterKey) (u : ℕ) → Tied z w → StandsInView z n k → Ties (changed_at (world_of z).facts n (notes.closed (facts_at z n) u)) (world_of z).clocks z.closing (world_of z).network z.owed w.node (at_stay w.stay n k (changes.finishing u (w.stay n k))) w.packet w.owed
done_line G z w n k u t st = in_stay z w n k (notes.closed (facts_at z n) u) (changes.finishing u (w.stay n k)) z.closing t (unmoved n z.closing) st.view (closed_seen z w n u t) (finished_tied (facts_at z n) (w.stay n k) u (stay_at z w n k t st.view)) (closing_at z w n k t st.view)

given_up_line : (z : Front) (w : Picture) (n : ℕ) (k : ClusterKey) (u : ℕ) → Tied z w → GiveUpOk z n k
    → Ties (changed_at (world_of z).facts n (notes.closed (facts_at z n) u)) (world_of z).clocks (changed_at z.closing n true) (world_of z).network z.owed w.node (at_stay w.stay n k (changes.giving_up u (w.stay n k))) w.packet w.owed
given_up_line z w n k u t ok = in_stay z w n k (notes.closed (facts_at z n) u) (changes.giving_up u (w.stay n k)) (changed_at z.closing n true) t (marked n z.closing true) ok.view (closed_seen z w n u t) (given_up_tied (facts_at z n) (w.stay n k) u (stay_at z w n k t ok.view)) (mark_here z.closing n true)

apply_line : (G : Ground) (z : Front) (w : Picture) (n : ℕ) (k : ClusterKey) (u : ℕ) (d : List ℕ) (v : Version) → Sane G (world_of z) → Tied z w → StandsInView z n k
    → TiedTo (after_line (world_of z) (line.Apply n k u d v)) z.closing z.owed (changes.applies G n k u d v w)
apply_line G z w n k u d v s t st = in_both z w n k g (changes.seen_after_write G n k d v (changes.stay_after_write G n k u d v early (w.stay n k)) (w.node n)) (changes.stay_after_write G n k u d v early (w.stay n k)) z.closing t (unmoved n z.closing) st.view
    (subst (λ (m : ℕ). Seens g (changes.seen_after_write G m k d v (changes.stay_after_write G m k u d v early (w.stay n k)) (w.node n))) (s.nodes n).me (apply_seen G k (facts_at z n) (w.node n) (w.stay n k) u d v early (below_count d) vw sy (t.nodes n).seen)) refl
    (subst (λ (m : ℕ). Stays g (changes.stay_after_write G m k u d v early (w.stay n k))) (s.nodes n).me (apply_tied G k (facts_at z n) (w.stay n k) u d v early vw sy))
    (closing_at z w n k t st.view)
  where
    early : Bool
    early = not (w.settled k (partition_of d))

    g : Facts
    g = notes.write_applied (facts_at z n) k (list_at (facts_at z n) (partition_of d)) u d v

    sy : Stays (facts_at z n) (w.stay n k)
    sy = stay_at z w n k t st.view

    vw : Views G k (facts_at z n)
    vw = views_at G n (facts_at z n) k (s.nodes n) st.view

-- ---- copies

merge_line : (G : Ground) (z : Front) (w : Picture) (n : ℕ) (k : ClusterKey) (d : List ℕ) (v : Version) → Sane G (world_of z) → Tied z w → StandsInView z n k
    → TiedTo (after_line (world_of z) (line.Merge n k d v)) z.closing None (changes.merges G n k d v w)
merge_line G z w n k d v s t st = record { nodes = r.nodes; packets = r.packets; owing = refl }
  where
    sy : Stays (facts_at z n) (w.stay n k)
    sy = stay_at z w n k t st.view

    vw : Views G k (facts_at z n)
    vw = views_at G n (facts_at z n) k (s.nodes n) st.view

    r : Ties (changed_at (world_of z).facts n (notes.merged (facts_at z n) k d v)) (world_of z).clocks z.closing (world_of z).network z.owed (at_number w.node n (changes.seen_after_merge G k d v (w.node n))) (at_stay w.stay n k (changes.holding G d v (w.stay n k))) w.packet w.owed
    r = in_both z w n k (notes.merged (facts_at z n) k d v) (changes.seen_after_merge G k d v (w.node n)) (changes.holding G d v (w.stay n k)) z.closing t (unmoved n z.closing) st.view
        (merge_seen G k (facts_at z n) (w.node n) d v (below_count d) vw (t.nodes n).seen) refl (merge_tied G (facts_at z n) (w.stay n k) k d v sy) (closing_at z w n k t st.view)

handed_line : (G : Ground) (z : Front) (w : Picture) (n : ℕ) (k : ClusterKey) (p : ℕ) → Sane G (world_of z) → Tied z w → StandsInView z n k → p < partition_count
    → TiedTo (after_line (world_of z) (line.Handed n k p)) z.closing z.owed
    (changes.hands_over n k p w)
handed_line G z w n k p s t st lt = in_stay z w n k (notes.handed (facts_at z n) p) (changes.stay_after_hand_over p (w.stay n k)) z.closing t (unmoved n z.closing) st.view (handed_seen (facts_at z n) (w.node n) p (t.nodes n).seen)
    (handed_tied (facts_at z n) (w.stay n k) p (s.nodes n).places lt (stay_at z w n k t st.view)) (closing_at z w n k t st.view)

settled_line : (G : Ground) (z : Front) (w : Picture) (n : ℕ) (k : ClusterKey) (p : ℕ) → Sane G (world_of z) → Tied z w → StandsInView z n k → p < partition_count
    → TiedTo (after_line (world_of z) (line.Settled n k p)) z.closing z.owed (changes.settles_partition n k p w)
settled_line G z w n k p s t st lt = in_stay z w n k (notes.settled (facts_at z n) p) (changes.stay_after_settling p (w.stay n k)) z.closing t (unmoved n z.closing) st.view (settled_seen (facts_at z n) (w.node n) p (t.nodes n).seen)
    (settled_tied (facts_at z n) (w.stay n k) p (s.nodes n).places lt (stay_at z w n k t st.view)) (closing_at z w n k t st.view)

learn_line : (G : Ground) (z : Front) (w : Picture) (n : ℕ) (k : ClusterKey) (p : ℕ) → Sane G (world_of z) → Tied z w → StandsInView z n k
    → TiedTo (after_line (world_of z) (line.Learn n k p)) z.closing z.owed (changes.learns_copy G n k p w)
learn_line G z w n k p s t st = in_node z w n (notes.learnt (facts_at z n) k (list_at (facts_at z n) p) p) (changes.seen_after_learning G n k p (w.stay n k) (w.node n)) t refl
    (subst (λ (m : ℕ). Seens (notes.learnt (facts_at z n) k (list_at (facts_at z n) p) p) (changes.seen_after_learning G m k p (w.stay n k) (w.node n))) (s.nodes n).me
    (learn_seen G k (facts_at z n) (w.node n) (w.stay n k) p (views_at G n (facts_at z n) k (s.nodes n) st.view) (stay_at z w n k t st.view) (t.nodes n).seen)) refl
    (λ x h. learn_tied (facts_at z n) k (list_at (facts_at z n) p) x p h)

drop_line : (G : Ground) (z : Front) (w : Picture) (n : ℕ) (k : ClusterKey) (p : ℕ) → Tied z w → TiedTo (after_line (world_of z) (line.Drop n k p)) z.closing z.owed (changes.drops_copy n p w)
drop_line G z w n k p t = in_node z w n (notes.dropped (facts_at z n) p) (changes.seen_after_drop p (w.node n)) t refl (drop_seen (facts_at z n) (w.node n) p (t.nodes n).seen) refl (λ x h. drop_tied (facts_at z n) x p h)

-- ---- the network

pub posting_same : (a b : Network) → a.sent ≡ b.sent → (i : ℕ) → posting_at a i ≡ posting_at b i
posting_same a b e i = go (nat_lt 0 i)
  where
    go : (q : Bool) → (if q then slice_get a.sent (i - 1) else None) ≡ (if q then slice_get b.sent (i - 1) else None)
    go true = ap (λ (s : List Posting). slice_get s (i - 1)) e
    go false = refl

pub other_net : (z : World) (c : ℕ → Bool) (due : Option Owed) (w : Picture) (net : Network) → z.network.sent ≡ net.sent → TiedTo z c due w → Ties z.facts z.clocks c net due w.node w.stay w.packet w.owed
other_net z c due w net e t = record { nodes = t.nodes; packets = λ i. t.packets i ∙ ap (option_map packet_of) (posting_same z.network net e i); owing = t.owing }

-- ---- every line

pub line_tied : (G : Ground) (z : Front) (w : Picture) (l : Line) → Sane G (world_of z) → LineOk G z l → Tied z w → Tied (front_after z (Writes l)) (licences.picture_after G w l)
line_tied G z w (line.Clock n time) s ok t = with_clock (world_of z).facts (world_of z).clocks z.closing (world_of z).network z.owed w.node w.stay w.packet w.owed n time t
line_tied G z w (line.Groups groups) s ok t = other_net (world_of z) z.closing z.owed w (record (world_of z).network { groups = groups }) refl t
line_tied G z w (line.Full i) s ok t = other_net (world_of z) z.closing z.owed w (landed (world_of z).network i) refl t
line_tied G z w (line.Deliver i a b) s ok t = delivered_tied G (world_of z) z.closing z.owed w i b s ok.1 t
line_tied G z w (line.Repeat i a b) s ok t = delivered_tied G (world_of z) z.closing z.owed w i b s ok.1 t
line_tied G z w (line.Cut i a b size) s ok t = cut_tied G (world_of z) z.closing z.owed w i b size s ok.1 t
line_tied G z w (line.Sent i a b bytes) s ok t = posted_tied G z w i a b bytes t ok.1
line_tied G z w (line.Tick n) s ok t = beside z w n (notes.after_ages (facts_at z n)) t (with_other (facts_at z n) _ _ _ _ refl)
line_tied G z w (line.Stop n) s ok t = stop_line z w n t
line_tied G z w (line.Start n) s ok t = beside z w n (notes.started (facts_at z n)) t (with_other (facts_at z n) _ _ _ _ refl)
line_tied G z w (line.Quiesce n) s ok t = beside z w n (notes.marked (facts_at z n) true) t (with_other (facts_at z n) _ _ _ _ refl)
line_tied G z w (line.Unquiesce n) s ok t = beside z w n (notes.marked (facts_at z n) false) t (with_other (facts_at z n) _ _ _ _ refl)
line_tied G z w (line.Promise n k) s ok t = beside z w n (note None (facts_at z n) (line.Promise n k)) t (with_other (facts_at z n) _ _ _ _ refl)
line_tied G z w (line.Enter n k ms) s ok t = enter_line z w n k ms (s.nodes n).me t
line_tied G z w (line.Exchanged n k) s ok t = exchanged_line G z w n k s t ok.1
line_tied G z w (line.Opened n k u d a) s ok t = opened_line G z w n k u d a s t ok.1
line_tied G z w (line.Value n k u d v) s ok t = value_line G z w n k u t ok.1.resolves.stands
line_tied G z w (line.Apply n k u d v) s ok t = apply_line G z w n k u d v s t ok.1.resolves.stands
line_tied G z w (line.Done n k u) s ok t = done_line G z w n k u t ok.1.stands
line_tied G z w (line.Aborted n k u) s ok t = given_up_line z w n k u t ok.1
line_tied G z w (line.Doubt n k u) s ok t = given_up_line z w n k u t ok.1
line_tied G z w (line.Merge n k d v) s ok t = merge_line G z w n k d v s t ok.stands
line_tied G z w (line.Handed n k p) s ok t = handed_line G z w n k p s t ok.1.stands ok.1.passes.part
line_tied G z w (line.Settled n k p) s ok t = settled_line G z w n k p s t ok.1.stands ok.1.passes.part
line_tied G z w (line.Learn n k p) s ok t = learn_line G z w n k p s t ok.1.stands
line_tied G z w (line.Drop n k p) s ok t = drop_line G z w n k p t
line_tied G z w _ s ok t = t

-- ---- a step begins

pub taken_sent : (net : Network) (e : Event) → (taken_by net e).sent ≡ net.sent
taken_sent net (event.Deliver i) = refl
taken_sent net (event.Lose i) = refl
taken_sent net (event.Cut i size) = refl
taken_sent net _ = refl

pub begun_tied : (z : Front) (w : Picture) (e : Event) → Tied z w
    → Tied (front_after z (Begins e)) w
begun_tied z w e t = other_net (world_of z) z.closing z.owed w (taken_by (world_of z).network e) (sym (taken_sent (world_of z).network e)) t
