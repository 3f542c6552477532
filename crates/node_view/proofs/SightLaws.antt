-- What the facts of a node in a view say of its parts.
use Rattle.std.proofs.Common.{◌≡◌, refl, sym, ap}
use Rattle.node_rules.specs.Batches.{Targets}
use Rattle.node_rules.specs.Bits.{Bits}
use Rattle.node_rules.specs.Exchange.{Exchange}
use Rattle.node_rules.specs.Facts.{Facts}
use Rattle.node_rules.specs.Stamps.{Writes}
use Rattle.node_rules.specs.Transactions.{Transactions}
use Rattle.node_view.specs.Views.{IsInView, Viewed}

-- part by part
pub record Sees (f : Facts) (v : Viewed) : Type 0 where
  pub me : f.me ≡ v.me
  pub factor : f.factor ≡ v.factor
  pub exchange : f.exchange ≡ v.exchange
  pub writes : f.writes ≡ v.writes
  pub transactions : f.transactions ≡ v.transactions
  pub batches : f.batches ≡ v.batches
  pub bits : f.bits ≡ v.bits

pub sees : (f : Facts) (v : Viewed) → IsInView f v → Sees f v
sees f v h = record {
  me = h.me;
  factor = h.factor;
  exchange = sym (ap (λ (g : Facts). g.exchange) h.view);
  writes = sym (ap (λ (g : Facts). g.writes) h.view);
  transactions = sym (ap (λ (g : Facts). g.transactions) h.view);
  batches = sym (ap (λ (g : Facts). g.batches) h.view);
  bits = sym (ap (λ (g : Facts). g.bits) h.view);
}

pub in_view : (f : Facts) (v : Viewed) → Sees f v → IsInView f v
in_view f v s = record {
  me = s.me;
  factor = s.factor;
  view = whole f v.exchange v.writes v.transactions v.batches v.bits (sym s.exchange) (sym s.writes) (sym s.transactions) (sym s.batches) (sym s.bits);
}
  where
    whole : (f : Facts) (x : Exchange) (w : Writes) (t : Transactions) (b : Targets) (c : Bits) → x ≡ f.exchange → w ≡ f.writes → t ≡ f.transactions → b ≡ f.batches → c ≡ f.bits
        → record f { exchange = x; writes = w; transactions = t; batches = b; bits = c } ≡ f
    whole f x w t b c e1 e2 e3 e4 e5 = rw (e1, e2, e3, e4, e5) refl
