-- Lines that the facts allow, one after another, are licensed and fit.
use Rattle.std.proofs.Common.{◌≡◌, ℕ, List, [], ◌∷◌, Option, Some, None, refl, sym, ap, ap₂, ◌∙◌, subst}
use Rattle.std.specs.Prelude.{option_map}
use Rattle.cluster_types.specs.declared.cluster_key.ClusterKey.{ClusterKey}
use Rattle.cluster_types.specs.declared.member.Member.{Member}
use Rattle.journal_lines.specs.declared.line.Line.{Line}
use Rattle.journal_lines.specs.declared.line.Line.TheVariants as line
use Rattle.journal_readings.specs.Maps.{with_roles}
use Rattle.cluster_rules.specs.Marks.{Mark, Begins, Writes, lines_among}
use Rattle.journal_readings.specs.Messages.{Posting}
use Rattle.cluster_rules.specs.Network.{posting_at}
use Rattle.cluster_rules.proofs.AllowedLaws.{nodes_stay}
use Rattle.cluster_laws.specs.Ground.{Ground}
use Rattle.cluster_laws.specs.Journals.{IsFor, ShowsGround, FitsGround}
use Rattle.cluster_laws.specs.Licences.{Ok, Guard, Licensed}
use Rattle.cluster_laws.specs.Licences as licences
use Rattle.cluster_laws.specs.Picture.{Packet, Picture}
use Rattle.cluster_laws.proofs.At.{some_same, no_some}
use Rattle.run_laws.specs.Fronts.{Front, world_of, facts_at, front_after, packet_of, Tied, Sane}
use Rattle.run_laws.specs.LineOk.{MapOk, LineOk, Goes, Fitting}
use Rattle.run_laws.proofs.Carried.{line_tied, begun_tied}
use Rattle.run_laws.proofs.Classes.{list_tied, acting_tied}
use Rattle.run_laws.proofs.Entered.{enter_ok}
use Rattle.run_laws.proofs.Guards.{hand_ok, settle_ok, learn_ok, drop_ok}
use Rattle.run_laws.proofs.Licences.{exchange_ok, open_ok, answer_ok, apply_ok, finish_ok, give_up_ok, merge_ok, send_ok_if}
use Rattle.run_laws.proofs.Posted.{none_yet}
use Rattle.run_laws.proofs.Standing.{here_of, stay_at, views_at, rows_at}

-- ---- a line has its licence

pub line_ok : (G : Ground) (z : Front) (w : Picture) (l : Line) → Sane G (world_of z) → LineOk G z l → Tied z w → Ok G w l
line_ok G z w (line.Enter n k ms) s ok t = (t.owing ∙ ok.0, (ok.1.members, enter_ok G z w n k ms t ok.0 ok.1))
line_ok G z w (line.Exchanged n k) s ok t = (t.owing ∙ ok.0, exchange_ok G z w n k t ok.1)
line_ok G z w (line.Opened n k u d a) s ok t = (t.owing ∙ ok.0, open_ok G z w n k u d s t ok.1)
line_ok G z w (line.Value n k u d v) s ok t = (t.owing ∙ ok.0, answer_ok z w n k u d v t ok.1)
line_ok G z w (line.Apply n k u d v) s ok t = (t.owing ∙ ok.0, apply_ok z w n k u d v t ok.1)
line_ok G z w (line.Done n k u) s ok t = (t.owing ∙ ok.0, finish_ok z w n k u t ok.1)
line_ok G z w (line.Aborted n k u) s ok t = (t.owing ∙ ok.0, give_up_ok z w n k t ok.1)
line_ok G z w (line.Doubt n k u) s ok t = (t.owing ∙ ok.0, give_up_ok z w n k t ok.1)
line_ok G z w (line.Merge n k d v) s ok t = merge_ok G z w n k d v s t ok
line_ok G z w (line.Handed n k p) s ok t = (t.owing ∙ ok.0, hand_ok G w (facts_at z n) n k p (here_of G z w n k s t ok.1.stands) ok.1.passes)
line_ok G z w (line.Settled n k p) s ok t = (t.owing ∙ ok.0, settle_ok G w (facts_at z n) n k p (here_of G z w n k s t ok.1.stands) ok.1.passes)
line_ok G z w (line.Learn n k p) s ok t = (t.owing ∙ ok.0, learn_ok G w (facts_at z n) n k p (here_of G z w n k s t ok.1.stands) ok.1.passes)
line_ok G z w (line.Drop n k p) s ok t = (t.owing ∙ ok.0, drop_ok G w (facts_at z n) n k p (here_of G z w n k s t ok.1.stands) ok.1.passes)
line_ok G z w (line.Sent i a b bytes) s ok t = (t.owing ∙ ok.0, (t.packets i ∙ ap (option_map packet_of) (ap (posting_at (world_of z).network) ok.1.number ∙ none_yet (world_of z).network), send_ok_if G z w a b _ s t ok.1.says))
line_ok G z w _ s ok t = (t.owing ∙ ok.0, tt)

-- ---- and fits

for_end : (z : Front) (w : Picture) (i b : ℕ) → Tied z w → ((p : Posting) → posting_at (world_of z).network i ≡ Some p → p.to ≡ b) → IsFor w i b
for_end z w i b t h x e = go (posting_at (world_of z).network i) refl (sym (t.packets i) ∙ e)
  where
    go : (o : Option Posting) → posting_at (world_of z).network i ≡ o → option_map packet_of o ≡ Some x → x.to ≡ b
    go None j q = no_some q
    go (Some p) j q = ap (λ (y : Packet). y.to) (sym (some_same q)) ∙ h p j

shows : (G : Ground) (z : Front) (w : Picture) (n : ℕ) (k : ClusterKey) (p : ℕ) (ms : List Member) (a : ℕ) → Sane G (world_of z) → Tied z w → MapOk z n k p ms a → ShowsGround G w n k p ms a
shows G z w n k p ms a s t ok = record {
  exchanged = (stay_at z w n k t ok.stands.view).exchanged ∙ ok.exchanged;
  members = ok.shown ∙ ap₂ with_roles (sym (views_at G n (facts_at z n) k (s.nodes n) ok.stands.view).members) (sym (list_tied G k (facts_at z n) p (views_at G n (facts_at z n) k (s.nodes n) ok.stands.view)));
  acting = ok.acting ∙ acting_tied G k (facts_at z n) p (views_at G n (facts_at z n) k (s.nodes n) ok.stands.view) (rows_at G n (facts_at z n) k (s.nodes n) ok.stands.view ok.exchanged);
}

pub line_fits : (G : Ground) (z : Front) (w : Picture) (l : Line) → Sane G (world_of z) → LineOk G z l → Tied z w → FitsGround G (world_of z).nodes w l
line_fits G z w (line.Apply n k u d v) s ok t = ok.1.declared
line_fits G z w (line.Merge n k d v) s ok t = ok.declared
line_fits G z w (line.Deliver i a b) s ok t = for_end z w i b t ok.1
line_fits G z w (line.Repeat i a b) s ok t = for_end z w i b t ok.1
line_fits G z w (line.Cut i a b size) s ok t = for_end z w i b t ok.1
line_fits G z w (line.Map n k p ms a) s ok t = shows G z w n k p ms a s t ok.1
line_fits G z w _ s ok t = tt

-- ---- all lines

pub all_licensed : (G : Ground) (z : Front) (w : Picture) (ms : List Mark) → Goes G z ms → Tied z w → Licensed G w (lines_among ms)
all_licensed G z w [] g t = tt
all_licensed G z w (Begins e ∷ ms) g t = all_licensed G (front_after z (Begins e)) w ms g (begun_tied z w e t)
all_licensed G z w (Writes l ∷ ms) g t = (line_ok G z w l g.0 g.1 t, all_licensed G (front_after z (Writes l)) (licences.picture_after G w l) ms g.2 (line_tied G z w l g.0 g.1 t))

same_nodes : (z : Front) (m : Mark) → (world_of (front_after z m)).nodes ≡ (world_of z).nodes
same_nodes z (Begins e) = refl
same_nodes z (Writes l) = nodes_stay (Writes l ∷ []) (world_of z)

pub all_fit : (G : Ground) (z : Front) (w : Picture) (declared : List ℕ) (ms : List Mark) → (world_of z).nodes ≡ declared → Goes G z ms → Tied z w → Fitting G declared w (lines_among ms)
all_fit G z w declared [] e g t = tt
all_fit G z w declared (Begins x ∷ ms) e g t = all_fit G (front_after z (Begins x)) w declared ms e g (begun_tied z w x t)
all_fit G z w declared (Writes l ∷ ms) e g t = (
  subst (λ (ns : List ℕ). FitsGround G ns w l) e (line_fits G z w l g.0 g.1 t),
  all_fit G (front_after z (Writes l)) (licences.picture_after G w l) declared ms (same_nodes z (Writes l) ∙ e) g.2 (line_tied G z w l g.0 g.1 t),
)
