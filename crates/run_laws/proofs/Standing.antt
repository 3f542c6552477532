-- A node in its view, tied to the picture.
use Rattle.std.proofs.Common.{◌≡◌, ℕ, true, false, Option, Some, None, refl, sym, ap, ◌∙◌, subst}
use Rattle.std.specs.Prelude.{option_map}
use Rattle.cluster_types.specs.declared.cluster_key.ClusterKey.{ClusterKey}
use Rattle.wire_messages.specs.declared.message.Message.{Message}
use Rattle.node_rules.specs.Exchange.{View}
use Rattle.node_rules.specs.Facts.{Facts}
use Rattle.cluster_laws.specs.Ground.{Ground, is_view_member}
use Rattle.cluster_laws.specs.Licences.{IsIn, WasSent}
use Rattle.cluster_laws.specs.Picture.{Picture}
use Rattle.cluster_laws.proofs.At.{some_same, no_some}
use Rattle.run_laws.specs.Tied.{Seens, Stays, Views, RowsAgree, TiedInView, key_in}
use Rattle.run_laws.specs.Fronts.{Front, world_of, facts_at, packet_of, Tied, Sane, SaneNode}
use Rattle.run_laws.specs.LineOk.{StandsInView, Came}

-- the view of that key
pub record ViewAt (o : Option View) (k : ClusterKey) : Type 0 where
  pub view : View
  pub is : o ≡ Some view
  pub key : view.key ≡ k

pub view_at : (o : Option View) (k : ClusterKey) → key_in o ≡ Some k → ViewAt o k
view_at None k e = no_some e
view_at (Some v) k e = record { view = v; is = refl; key = some_same e }

pub views_at : (G : Ground) (n : ℕ) (f : Facts) (k : ClusterKey) → SaneNode G n f → key_in f.exchange.view ≡ Some k → Views G k f
views_at G n f k s e = let v : ViewAt f.exchange.view k = view_at f.exchange.view k e in subst (λ (j : ClusterKey). Views G j f) v.key (s.view v.view v.is)

pub member_at : (G : Ground) (n : ℕ) (f : Facts) (k : ClusterKey) → SaneNode G n f → key_in f.exchange.view ≡ Some k → is_view_member G k n ≡ true
member_at G n f k s e = let v : ViewAt f.exchange.view k = view_at f.exchange.view k e in subst (λ (j : ClusterKey). is_view_member G j n ≡ true) v.key (s.member v.view v.is)

pub rows_at : (G : Ground) (n : ℕ) (f : Facts) (k : ClusterKey) → SaneNode G n f → key_in f.exchange.view ≡ Some k → f.exchange.exchanged ≡ true → RowsAgree G k f.exchange.rows
rows_at G n f k s e x = let v : ViewAt f.exchange.view k = view_at f.exchange.view k e in subst (λ (j : ClusterKey). RowsAgree G j f.exchange.rows) v.key (s.rows v.view v.is x)

pub stay_at : (z : Front) (w : Picture) (n : ℕ) (k : ClusterKey) → Tied z w → key_in (facts_at z n).exchange.view ≡ Some k → Stays (facts_at z n) (w.stay n k)
stay_at z w n k t e = let v : ViewAt (facts_at z n).exchange.view k = view_at (facts_at z n).exchange.view k e in subst (λ (j : ClusterKey). Stays (facts_at z n) (w.stay n j)) v.key ((t.nodes n).stay v.view v.is)

pub closing_at : (z : Front) (w : Picture) (n : ℕ) (k : ClusterKey) → Tied z w → key_in (facts_at z n).exchange.view ≡ Some k → (w.stay n k).closing ≡ z.closing n
closing_at z w n k t e = let v : ViewAt (facts_at z n).exchange.view k = view_at (facts_at z n).exchange.view k e in subst (λ (j : ClusterKey). (w.stay n j).closing ≡ z.closing n) v.key ((t.nodes n).closing v.view v.is)

pub is_in : (z : Front) (w : Picture) (n : ℕ) (k : ClusterKey) → Tied z w → StandsInView z n k → IsIn w n k
is_in z w n k t s = record { view = (t.nodes n).seen.view ∙ s.view; stays = closing_at z w n k t s.view ∙ s.stays }

pub here_of : (G : Ground) (z : Front) (w : Picture) (n : ℕ) (k : ClusterKey) → Sane G (world_of z) → Tied z w → StandsInView z n k → TiedInView G w (facts_at z n) k
here_of G z w n k s t st = record {
  seen = subst (λ (m : ℕ). Seens (facts_at z n) (w.node m)) (sym (s.nodes n).me) (t.nodes n).seen;
  stay = subst (λ (m : ℕ). Stays (facts_at z n) (w.stay m k)) (sym (s.nodes n).me) (stay_at z w n k t st.view);
  open_yet = subst (λ (m : ℕ). (w.stay m k).closing ≡ false) (sym (s.nodes n).me) (closing_at z w n k t st.view ∙ st.stays);
  views = views_at G n (facts_at z n) k (s.nodes n) st.view;
  rows = rows_at G n (facts_at z n) k (s.nodes n) st.view;
}

pub was_sent : (z : Front) (w : Picture) (from to : ℕ) (m : Message) → Tied z w → Came z from to m → WasSent w from to m
was_sent z w from to m t c = record {
  number = c.number;
  packet = packet_of c.posting;
  sent = t.packets c.number ∙ ap (option_map packet_of) c.sent;
  ends = c.ends;
  message = c.message;
}
