-- What the picture has settled, written and done stands in the lines: the other way of what cluster_laws ties.
use Rattle.std.proofs.Common.{◌≡◌, ◌⊎◌, ℕ, ◌==◌, Bool, true, false, ◌&&◌, is_some, List, [], ◌∷◌, ◌++◌, Option, take, refl, sym, ap, subst₂, ◌∙◌, ⊎_elim}
use Rattle.std.specs.List.{list_any}
use Rattle.cluster_types.specs.declared.cluster_key.ClusterKey.{ClusterKey}
use Rattle.journal_lines.specs.declared.line.Line.{Line}
use Rattle.journal_lines.specs.declared.line.Line.TheVariants as line
use Rattle.journal_readings.specs.Lines.{same_key, is_settled_line, is_done_line}
use Rattle.journal_readings.specs.Settings.{nodes}
use Rattle.cluster_laws.specs.Ground.{Ground, view_master}
use Rattle.cluster_laws.specs.Journals.{journal, IsJournal}
use Rattle.cluster_laws.specs.Laws.{picture}
use Rattle.cluster_laws.specs.Licences.{Ok, picture_after}
use Rattle.cluster_laws.specs.Picture.{Picture}
use Rattle.cluster_laws.specs.Stay.{Applied, Stay}
use Rattle.cluster_laws.proofs.All.{Sound}
use Rattle.cluster_laws.proofs.At.{numbers, keys, changed_either, and_left, and_right, and_both, or_cases, number_same, number_here, key_same, differ, part_cases}
use Rattle.cluster_laws.proofs.ReadingFrames.{stay_kept, any-more, quiet_frame}
use Rattle.cluster_laws.proofs.ReadingLines.{or_left_true, or_right_true}
use Rattle.cluster_laws.proofs.ReadingSteps.{fresh_stay, missed}
use Rattle.cluster_laws.proofs.ReadingTies.{Tied, tied_step, tied_start, journal_keeps}
use Rattle.cluster_laws.proofs.ReadingViews.{stay_cases}

-- what stood in the lines stands there still, and the new line stands there
still : (test : Line → Bool) (j : List Line) (l : Line) → list_any test j ≡ true → list_any test (j ++ l ∷ []) ≡ true
still test j l e = any-more test j l ∙ or_left_true (list_any test j) (test l) e

now : (test : Line → Bool) (j : List Line) (l : Line) → test l ≡ true → list_any test (j ++ l ∷ []) ≡ true
now test j l e = any-more test j l ∙ or_right_true (list_any test j) (test l) e

key_here : (l k : ClusterKey) → l ≡ k → same_key l k ≡ true
key_here l k e = sym (ap (same_key l) e) ∙ keys.here l

number_is : (m n : ℕ) → m ≡ n → (m == n) ≡ true
number_is m n e = sym (ap (λ (a : ℕ). m == a) e) ∙ number_here m

-- ---- settled partitions

-- the list master's line stands there
abbrev SettledTold : Ground → List Line → Picture → Type 0
SettledTold G j w = (k : ClusterKey) (p : ℕ) → w.settled k p ≡ true → list_any (is_settled_line k (view_master G k p) p) j ≡ true

settled_told : (G : Ground) (j : List Line) (w : Picture) (l : Line) → Ok G w l → SettledTold G j w → SettledTold G (j ++ l ∷ []) (picture_after G w l)
settled_told G j w (line.Settled m l q) ok h k p e = ⊎_elim
    (λ i. now (is_settled_line k (view_master G k p) p) j (line.Settled m l q) (and_both (m == view_master G k p) _
    (number_is m (view_master G k p) (ok.1.master ∙ ap (λ (a : ClusterKey). view_master G a q) i.0 ∙ ap (view_master G k) i.1))
    (and_both (same_key l k) (q == p) (key_here l k i.0) (number_is q p i.1))))
    (λ z. still _ j _ (h k p z)) (part_cases w.settled l q k p e)
settled_told G j w (line.Clock m time) ok h k p e = still _ j _ (h k p e)
settled_told G j w (line.Enter m l ms) ok h k p e = still _ j _ (h k p e)
settled_told G j w (line.Stop m) ok h k p e = still _ j _ (h k p e)
settled_told G j w (line.Exchanged m l) ok h k p e = still _ j _ (h k p e)
settled_told G j w (line.Apply m l t c v) ok h k p e = still _ j _ (h k p e)
settled_told G j w (line.Done m l t) ok h k p e = still _ j _ (h k p e)
settled_told G j w (line.Merge m l c v) ok h k p e = still _ j _ (h k p e)
settled_told G j w (line.Drop m l q) ok h k p e = still _ j _ (h k p e)
settled_told G j w l ok h k p e = still _ j l (h k p (sym (ap (λ (f : ClusterKey → ℕ → Bool). f k p) (quiet_frame G w l tt).settled) ∙ e))

-- ---- writes

-- the node applies a write in that transaction
abbrev pub is_apply : ClusterKey → ℕ → ℕ → Line → Bool
is_apply k n t (line.Apply m l u c v) = (m == n) && (same_key l k && (u == t))
is_apply k n t _ = false

abbrev Wrote : List Line → Picture → Type 0
Wrote j w = (n : ℕ) (k : ClusterKey) (t : ℕ) → list_any (is_apply k n t) j ≡ true → is_some ((w.stay n k).writes t) ≡ true

same_wrote : (j : List Line) (w v : Picture) (l : Line) → ((n : ℕ) (k : ClusterKey) (t : ℕ) → is_apply k n t l ≡ false) → ((n : ℕ) (k : ClusterKey) (t : ℕ) → (v.stay n k).writes t ≡ (w.stay n k).writes t) → Wrote j w → Wrote (j ++ l ∷ []) v
same_wrote j w v l other eq h n k t e = ap is_some (eq n k t) ∙ h n k t (sym (missed (is_apply k n t) j l (other n k t)) ∙ e)

wrote : (G : Ground) (j : List Line) (w : Picture) (l : Line) → Sound G w → Ok G w l → Wrote j w → Wrote (j ++ l ∷ []) (picture_after G w l)
wrote G j w (line.Apply m l u c v) s ok h n k t e = stay_cases (λ (z : Stay). is_some (z.writes t) ≡ true) w.stay m l _ n k
    (λ i q. changed_either numbers (λ (o : Option Applied). is_some o ≡ true) (w.stay m l).writes u _ t (λ y. refl)
    (λ y. subst₂ (λ (a : ℕ) (f : ClusterKey). is_some ((w.stay a f).writes t) ≡ true) (sym i) (sym q) (⊎_elim (λ z. h n k t z) (λ z. absurd (y (third z))) cases)))
    (λ apart. ⊎_elim (λ z. h n k t z) (λ z. absurd (apart (first z) (second z))) cases)
  where
    cases : (list_any (is_apply k n t) j ≡ true) ⊎ (((m == n) && (same_key l k && (u == t))) ≡ true)
    cases = or_cases (list_any (is_apply k n t) j) _ (sym (any-more (is_apply k n t) j (line.Apply m l u c v)) ∙ e)

    first : ((m == n) && (same_key l k && (u == t))) ≡ true → m ≡ n
    first z = number_same m n (and_left (m == n) _ z)

    second : ((m == n) && (same_key l k && (u == t))) ≡ true → l ≡ k
    second z = key_same l k (and_left (same_key l k) _ (and_right (m == n) _ z))

    third : ((m == n) && (same_key l k && (u == t))) ≡ true → u ≡ t
    third z = number_same u t (and_right (same_key l k) _ (and_right (m == n) _ z))
wrote G j w (line.Enter m l ms) s ok h n k t e = same_wrote j w (picture_after G w (line.Enter m l ms)) (line.Enter m l ms) (λ n k t. refl)
    (λ n k t. stay_kept (λ (z : Stay). z.writes t) w.stay m l _ n k (sym (ap (λ (z : Stay). z.writes t) (fresh_stay G w s m l ok.1.1)))) h n k t e
wrote G j w (line.Clock m time) s ok h n k t e = same_wrote j w (picture_after G w (line.Clock m time)) (line.Clock m time) (λ n k t. refl) (λ n k t. refl) h n k t e
wrote G j w (line.Stop m) s ok h n k t e = same_wrote j w (picture_after G w (line.Stop m)) (line.Stop m) (λ n k t. refl) (λ n k t. refl) h n k t e
wrote G j w (line.Exchanged m l) s ok h n k t e = same_wrote j w (picture_after G w (line.Exchanged m l)) (line.Exchanged m l) (λ n k t. refl) (λ n k t. stay_kept (λ (z : Stay). z.writes t) w.stay m l _ n k refl) h n k t e
wrote G j w (line.Done m l u) s ok h n k t e = same_wrote j w (picture_after G w (line.Done m l u)) (line.Done m l u) (λ n k t. refl) (λ n k t. stay_kept (λ (z : Stay). z.writes t) w.stay m l _ n k refl) h n k t e
wrote G j w (line.Merge m l c v) s ok h n k t e = same_wrote j w (picture_after G w (line.Merge m l c v)) (line.Merge m l c v) (λ n k t. refl) (λ n k t. stay_kept (λ (z : Stay). z.writes t) w.stay m l _ n k refl) h n k t e
wrote G j w (line.Drop m l q) s ok h n k t e = same_wrote j w (picture_after G w (line.Drop m l q)) (line.Drop m l q) (λ n k t. refl) (λ n k t. refl) h n k t e
wrote G j w (line.Settled m l p) s ok h n k t e = same_wrote j w (picture_after G w (line.Settled m l p)) (line.Settled m l p) (λ n k t. refl) (λ n k t. stay_kept (λ (z : Stay). z.writes t) w.stay m l _ n k refl) h n k t e
wrote G j w l s ok h n k t e = same_wrote j w (picture_after G w l) l (λ n k t. refl) (λ n k t. ap (λ (f : ℕ → Option Applied). f t) ((quiet_frame G w l tt).stay n k).writes) h n k t e

-- ---- writes that are done

abbrev DoneTold : List Line → Picture → Type 0
DoneTold j w = (n : ℕ) (k : ClusterKey) (t : ℕ) → (w.stay n k).done t ≡ true → list_any (is_done_line k n t) j ≡ true

same_done : (j : List Line) (w v : Picture) (l : Line) → ((n : ℕ) (k : ClusterKey) (t : ℕ) → (v.stay n k).done t ≡ (w.stay n k).done t) → DoneTold j w → DoneTold (j ++ l ∷ []) v
same_done j w v l eq h n k t e = still (is_done_line k n t) j l (h n k t (sym (eq n k t) ∙ e))

done_told : (G : Ground) (j : List Line) (w : Picture) (l : Line) → Sound G w → Ok G w l → DoneTold j w → DoneTold (j ++ l ∷ []) (picture_after G w l)
done_told G j w (line.Done m l u) s ok h n k t e = stay_cases (λ (z : Stay). z.done t ≡ true → list_any (is_done_line k n t) (j ++ line.Done m l u ∷ []) ≡ true) w.stay m l _ n k
    (λ i q. changed_either numbers (λ (b : Bool). b ≡ true → list_any (is_done_line k n t) (j ++ line.Done m l u ∷ []) ≡ true) (w.stay m l).done u true t
    (λ y e. now (is_done_line k n t) j (line.Done m l u) (and_both (m == n) _ (number_is m n i) (and_both (same_key l k) (u == t) (key_here l k q) (number_is u t y))))
    (λ y e. still (is_done_line k n t) j _ (h n k t (subst₂ (λ (a : ℕ) (f : ClusterKey). (w.stay a f).done t ≡ true) i q e))))
    (λ apart q. still (is_done_line k n t) j _ (h n k t q)) e
done_told G j w (line.Enter m l ms) s ok h n k t e = same_done j w (picture_after G w (line.Enter m l ms)) (line.Enter m l ms)
    (λ n k t. stay_kept (λ (z : Stay). z.done t) w.stay m l _ n k (sym (ap (λ (z : Stay). z.done t) (fresh_stay G w s m l ok.1.1)))) h n k t e
done_told G j w (line.Clock m time) s ok h n k t e = same_done j w (picture_after G w (line.Clock m time)) (line.Clock m time) (λ n k t. refl) h n k t e
done_told G j w (line.Stop m) s ok h n k t e = same_done j w (picture_after G w (line.Stop m)) (line.Stop m) (λ n k t. refl) h n k t e
done_told G j w (line.Exchanged m l) s ok h n k t e = same_done j w (picture_after G w (line.Exchanged m l)) (line.Exchanged m l) (λ n k t. stay_kept (λ (z : Stay). z.done t) w.stay m l _ n k refl) h n k t e
done_told G j w (line.Apply m l u c v) s ok h n k t e = same_done j w (picture_after G w (line.Apply m l u c v)) (line.Apply m l u c v) (λ n k t. stay_kept (λ (z : Stay). z.done t) w.stay m l _ n k refl) h n k t e
done_told G j w (line.Merge m l c v) s ok h n k t e = same_done j w (picture_after G w (line.Merge m l c v)) (line.Merge m l c v) (λ n k t. stay_kept (λ (z : Stay). z.done t) w.stay m l _ n k refl) h n k t e
done_told G j w (line.Drop m l q) s ok h n k t e = same_done j w (picture_after G w (line.Drop m l q)) (line.Drop m l q) (λ n k t. refl) h n k t e
done_told G j w (line.Settled m l p) s ok h n k t e = same_done j w (picture_after G w (line.Settled m l p)) (line.Settled m l p) (λ n k t. stay_kept (λ (z : Stay). z.done t) w.stay m l _ n k refl) h n k t e
done_told G j w l s ok h n k t e = same_done j w (picture_after G w l) l (λ n k t. ap (λ (f : ℕ → Bool). f t) ((quiet_frame G w l tt).stay n k).done) h n k t e

-- ---- at every line of a journal

pub record Told (G : Ground) (ns : List ℕ) (j : List Line) (w : Picture) : Type 0 where
  pub tied : Tied G ns j w
  pub settled : (k : ClusterKey) (p : ℕ) → w.settled k p ≡ true → list_any (is_settled_line k (view_master G k p) p) j ≡ true
  pub writes : (n : ℕ) (k : ClusterKey) (t : ℕ) → list_any (is_apply k n t) j ≡ true → is_some ((w.stay n k).writes t) ≡ true
  pub done : (n : ℕ) (k : ClusterKey) (t : ℕ) → (w.stay n k).done t ≡ true → list_any (is_done_line k n t) j ≡ true

pub journal_told : (h : List Line) (G : Ground) (lines : List Line) → IsJournal h G lines → (i : ℕ) → Told G (nodes (journal h lines)) (take i (journal h lines)) (picture G (journal h lines) i)
journal_told h G lines o i = journal_keeps h G lines o (Told G ns)
    (λ j w l t ok f. record { tied = tied_step G o.ground ns j w l t.tied ok f; settled = settled_told G j w l ok t.settled; writes = wrote G j w l t.tied.sound ok t.writes; done = done_told G j w l t.tied.sound ok t.done })
    (record { tied = tied_start G ns; settled = λ k p e. differ e refl; writes = λ n k t e. differ e refl; done = λ n k t e. differ e refl }) i
  where
    ns : List ℕ
    ns = nodes (journal h lines)
