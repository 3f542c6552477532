-- Partitions that ticks look at from now on.
use Rattle.std.proofs.Common.{◌≡◌, ◌⊎◌, inl, inr, ℕ, Bool, true, false, set, refl, sym, ap, subst, ◌∙◌}
use Rattle.std.proofs.lemmas.Bool.{and_right}
use Rattle.std.proofs.lemmas.List.{get_or-set_other}
use Rattle.cluster_types.specs.Rows.{bit}
use Rattle.node_rules.specs.Exchange.{Exchange}
use Rattle.node_rules.specs.Facts.{Facts, list_at}
use Rattle.node_rules.specs.Here.{Here, here, IsAsleep, IsOver}
use Rattle.node_view.specs.Views.{IsInView, IsQuiet, IsSeenTo, Viewed, with_live}
use Rattle.node_view.proofs.SightLaws.{sees}

pub seen_to : (p : ℕ) (f : Facts) (v w : Viewed) (live : Bool) → IsInView f v → w ≡ with_live v (set v.watch.live p live) → (v.exchange.exchanged ≡ true → bit w.watch.live p ≡ live)
    → (f.exchange.exchanged ≡ true → live ≡ false → IsQuiet f p) → IsSeenTo p f v.watch.live w.watch.live
seen_to p f v w live h is made quiet = record {
  quiet = λ finished off. quiet finished (sym (made (ap (λ x. x.exchanged) (sym (sees f v h).exchange) ∙ finished)) ∙ off);
  others = λ q other. ap (λ (u : Viewed). bit u.watch.live q) is ∙ get_or-set_other v.watch.live p q live false other;
}

-- of how the node stands to the partition
pub quiet_from : (f : Facts) (p : ℕ) (h : Here) → h ≡ here f (list_at f p) p → IsAsleep h ⊎ IsOver h → IsQuiet f p
quiet_from f p h is (inl a) = IsQuiet.asleep (subst IsAsleep is a)
quiet_from f p h is (inr o) = IsQuiet.over (subst IsOver is o)

-- the facts and the view agree on whether the exchange is finished
pub unfinished : (f : Facts) (v : Viewed) → IsInView f v → f.exchange.exchanged ≡ true → false ≡ v.exchange.exchanged → ⊥
unfinished f v h finished not_yet = let wrong : false ≡ true = not_yet ∙ (ap (λ (x : Exchange). x.exchanged) (sym (sees f v h).exchange) ∙ finished) in cc

pub finished_in : (f : Facts) (v : Viewed) → IsInView f v → v.exchange.exchanged ≡ true → f.exchange.exchanged ≡ true
finished_in f v h finished = ap (λ (x : Exchange). x.exchanged) (sees f v h).exchange ∙ finished

-- ---- partitions that sleep

pub master_asleep : (h : Here) → h.settled ≡ false → h.master ≡ true → h.empty ≡ true → IsAsleep h
master_asleep h unset master empty = record { unsettled = unset; kept = rw master (and_right h.acting false refl); quiet = rw (master, empty) refl }

pub other_asleep : (h : Here) → h.settled ≡ false → h.master ≡ false → h.acting ≡ false → IsAsleep h
other_asleep h unset master idle = record { unsettled = unset; kept = rw idle refl; quiet = rw master refl }

pub handed_asleep : (h : Here) → h.settled ≡ false → h.master ≡ false → h.own_handed ≡ true → IsAsleep h
handed_asleep h unset master handed = record { unsettled = unset; kept = rw (master, handed) (and_right h.acting false refl); quiet = rw master refl }
