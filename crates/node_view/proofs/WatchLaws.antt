-- What is kept of the partitions, as the facts change.
use Rattle.std.proofs.Common.{◌≡◌, ◌≢◌, ◌==◌, ◌<◌, ◌+◌, ℕ, Bool, true, false, not, cond, List, [], ◌∷◌, count_by, refl, sym, ap, ap₂, subst, ◌∙◌}
use Rattle.std.specs.List.{range_with_len}
use Rattle.std.proofs.lemmas.List.Sums.{sum_by-cons}
use Rattle.cluster_types.specs.Partitions.{partition_count}
use Rattle.cluster_types.specs.Rows.{bit}
use Rattle.node_rules.specs.Copies.{holds_of}
use Rattle.partition_lists.proofs.InOrderLaws.{equal, from_equal}
use Rattle.node_rules.specs.Exchange.{Exchange}
use Rattle.node_rules.specs.Facts.{Facts, list_at}
use Rattle.node_rules.specs.Here.{Here, here, IsAsleep, IsOver}
use Rattle.node_rules.specs.Standing.{knows_settled}
use Rattle.node_view.specs.Views.{AreLive, IsQuiet, IsSeenTo, unsettled_count}

-- ---- quiet partitions

-- the partition's standing, as far as it decides whether it is quiet
pub record StandsAlike (p : ℕ) (f g : Facts) : Type 0 where
  pub me : g.me ≡ f.me
  pub factor : g.factor ≡ f.factor
  pub exchange : g.exchange ≡ f.exchange
  pub own_handed : bit g.bits.own_handed p ≡ bit f.bits.own_handed p
  pub settled : bit g.bits.settled p ≡ bit f.bits.settled p
  pub learnt : bit g.bits.learnt p ≡ bit f.bits.learnt p
  pub holds : holds_of g.store.content p ≡ holds_of f.store.content p

-- the same of how the node stands to it
record IsAlike (h k : Here) : Type 0 where
  acting : k.acting ≡ h.acting
  master : k.master ≡ h.master
  replica : k.replica ≡ h.replica
  own_handed : k.own_handed ≡ h.own_handed
  settled : k.settled ≡ h.settled
  learnt : k.learnt ≡ h.learnt
  empty : k.empty ≡ h.empty
  holds : k.holds ≡ h.holds

asleep_alike : (h k : Here) → IsAlike h k → IsAsleep h → IsAsleep k
asleep_alike h k s a = record {
  unsettled = s.settled ∙ a.unsettled;
  kept = rw (s.acting, s.master, s.own_handed) a.kept;
  quiet = rw (s.master, s.empty) a.quiet;
}

over_alike : (h k : Here) → IsAlike h k → IsOver h → IsOver k
over_alike h k s o = record {
  settled = s.settled ∙ o.settled;
  kept = rw (s.acting, s.master, s.own_handed) o.kept;
  learnt = rw (s.replica, s.learnt) o.learnt;
  dropped = rw (s.replica, s.holds) o.dropped;
}

alike : (p : ℕ) (f g : Facts) → StandsAlike p f g → IsAlike (here f (list_at f p) p) (here g (list_at g p) p)
alike p f g s = record {
  acting = rw (s.me, s.exchange) refl;
  master = rw (s.me, s.exchange) refl;
  replica = rw (s.me, s.factor, s.exchange) refl;
  own_handed = s.own_handed;
  settled = s.settled;
  learnt = s.learnt;
  empty = rw s.exchange refl;
  holds = s.holds;
}

pub quiet_alike : (p : ℕ) (f g : Facts) → StandsAlike p f g → IsQuiet f p → IsQuiet g p
quiet_alike p f g s (IsQuiet.asleep a) = IsQuiet.asleep (asleep_alike _ _ (alike p f g s) a)
quiet_alike p f g s (IsQuiet.over o) = IsQuiet.over (over_alike _ _ (alike p f g s) o)

pub live_alike : (f g : Facts) (live : List Bool) → ((p : ℕ) → StandsAlike p f g) → AreLive f live → AreLive g live
live_alike f g live s h = record { quiet = λ p within done off. quiet_alike p f g (s p) (h.quiet p within (finished p f g (s p) done) off) }
  where
    finished : (p : ℕ) (f g : Facts) → StandsAlike p f g → g.exchange.exchanged ≡ true → f.exchange.exchanged ≡ true
    finished p f g s e = sym (ap (λ (x : Exchange). x.exchanged) s.exchange) ∙ e

-- all live partitions but one are kept, and that one is seen to
pub live_seen : (p : ℕ) (f g : Facts) (old new : List Bool) → ((q : ℕ) → q ≢ p → StandsAlike q f g) → g.exchange ≡ f.exchange → AreLive f old → IsSeenTo p g old new → AreLive g new
live_seen p f g old new s same h seen = record { quiet = λ q within done off. at q (q == p) within done off refl }
  where
    at : (q : ℕ) (b : Bool) → q < partition_count → g.exchange.exchanged ≡ true → bit new q ≡ false → (q == p) ≡ b → IsQuiet g q
    at q true within done off e = let here : q ≡ p = from_equal q p e in subst (λ (r : ℕ). IsQuiet g r) (sym here) (seen.quiet done (ap (bit new) (sym here) ∙ off))
    at q false within done off e =
        let other : q ≢ p = λ (i : q ≡ p). let wrong : true ≡ false = sym (equal q p i) ∙ e in cc in
        quiet_alike q f g (s q other) (h.quiet q within (ap (λ (x : Exchange). x.exchanged) (sym same) ∙ done) (sym (seen.others q other) ∙ off))

-- ---- partitions that aren't known settled

pub count_alike : (f g : Facts) → ((p : ℕ) → knows_settled g p ≡ knows_settled f p) → unsettled_count g ≡ unsettled_count f
count_alike f g same = counts (λ p. not (knows_settled g p)) (λ p. not (knows_settled f p)) (λ p. ap not (same p)) (range_with_len 0 partition_count)
  where
    counts : (a b : ℕ → Bool) → ((p : ℕ) → a p ≡ b p) → (ps : List ℕ) → count_by a ps ≡ count_by b ps
    counts a b e [] = refl
    counts a b e (p ∷ ps) = sum_by-cons (λ q. cond (a q) 1 0) p ps ∙ ap₂ (λ (c : Bool) (n : ℕ). cond c 1 0 + n) (e p) (counts a b e ps) ∙ sym (sum_by-cons (λ q. cond (b q) 1 0) p ps)
