-- At every line of a journal the picture holds what a reader finds.
use Rattle.std.proofs.Common.{◌≡◌, ℕ, zero, suc, true, List, [], ◌∷◌, ◌++◌, Option, Some, None, take, slice_get, refl, sym, ap, subst, ◌∙◌, append_assoc, append-nil}
use Rattle.std.specs.List.{list_all}
use Rattle.conflict_order.specs.declared.policy.Policy.{Policy}
use Rattle.conflict_order.specs.declared.version.Version.{Version}
use Rattle.conflict_order.specs.Join.{join}
use Rattle.conflict_order.proofs.JoinLaws.{none_join}
use Rattle.cluster_types.specs.declared.cluster_key.ClusterKey.{ClusterKey}
use Rattle.cluster_types.specs.declared.member.Member.{Member}
use Rattle.journal_lines.specs.declared.line.Line.{Line}
use Rattle.journal_lines.specs.declared.line.Line.TheVariants as line
use Rattle.journal_readings.specs.Settings.{nodes, clock_of}
use Rattle.journal_readings.specs.Contents.{content, applied}
use Rattle.journal_readings.specs.Entries.{entry, applied_in, fold_of}
use Rattle.journal_readings.specs.Shape.{is_header}
use Rattle.journal_readings.specs.Views.{view, members}
use Rattle.cluster_laws.specs.Ground.{Ground, IsGround}
use Rattle.cluster_laws.specs.Picture.{Picture, start}
use Rattle.cluster_laws.specs.Licences.{Ok, picture_after, picture_after_all, Licensed}
use Rattle.cluster_laws.specs.Laws.{picture}
use Rattle.cluster_laws.specs.Journals.{journal, FitsGround, IsJournal}
use Rattle.cluster_laws.proofs.At.{differ, some_same, no_some}
use Rattle.cluster_laws.proofs.All.{Sound, sound_kept, sound_start}
use Rattle.cluster_laws.proofs.ReadingLines.{any_wider, enters_key, enter_is_key, joined}
use Rattle.cluster_laws.proofs.ReadingSteps.{Contents_tied, content_tied, Holders_declared, declared_tied, Applied_tied, applied_tied, Views_tied, view_tied, Clocks_tied, clock_tied, Entered_tied, entered_tied, Exchanged_tied, exchanged_tied}
use Rattle.cluster_laws.proofs.ReadingViews.{Entries_tied, entry_tied, Empties_tied, empty_tied, Members_tied, members_tied, Folds_tied, fold_tied, Settled_tied, settled_tied, Writes_tied, writes_tied, Done_tied, done_tied}

pub record Tied (G : Ground) (ns : List ℕ) (j : List Line) (w : Picture) : Type 0 where
  pub sound : Sound G w
  pub contents : Contents_tied G j w
  pub holders : Holders_declared ns w
  pub applied : Applied_tied G j w
  pub views : Views_tied j w
  pub clocks : Clocks_tied j w
  pub entered : Entered_tied j w
  pub exchanged : Exchanged_tied j w
  pub entries : Entries_tied G j w
  pub empties : Empties_tied G j w
  pub members : Members_tied G j
  pub folds : Folds_tied G j w
  pub settled : Settled_tied j w
  pub writes : Writes_tied j w
  pub done : Done_tied j w

pub tied_step : (G : Ground) → IsGround G → (ns : List ℕ) (j : List Line) (w : Picture) (l : Line) → Tied G ns j w → Ok G w l → FitsGround G ns w l → Tied G ns (j ++ l ∷ []) (picture_after G w l)
tied_step G ground ns j w l t ok f = let en : Entered_tied (j ++ l ∷ []) (picture_after G w l) = entered_tied G j w l t.entered in record {
  sound = sound_kept G ground w l t.sound ok;
  contents = content_tied G j w l t.contents;
  holders = declared_tied G ns w l f t.holders;
  applied = applied_tied G j w l t.applied;
  views = view_tied G j w l ok t.views;
  clocks = clock_tied G j w l t.clocks;
  entered = en;
  exchanged = exchanged_tied G j w l t.sound ok t.exchanged;
  entries = entry_tied G j w l t.sound ok t.contents t.entered t.entries;
  empties = empty_tied G j w l ok t.contents t.entered en t.empties;
  members = members_tied G j w l ok t.members;
  folds = fold_tied G j w l t.sound ok t.contents t.entered t.folds;
  settled = settled_tied G j w l t.settled;
  writes = writes_tied G j w l t.writes;
  done = done_tied G j w l t.sound ok t.done;
}

-- ---- before the first line

joined-none : (by : Policy) (ms : List Member) → joined by (λ n. None) ms ≡ None
joined-none by [] = refl
joined-none by (m ∷ ms) = none_join by (joined by (λ n. None) ms) ∙ joined-none by ms

first_fold : (by : Policy) (k : ClusterKey) (d : List ℕ) (ms : List Member) → join by (joined by (λ n. entry by k n d []) ms) (applied_in by k d []) ≡ None
unfolding entry applied_in
first_fold by k d ms = ap (λ (o : Option Version). join by o None) (joined-none by ms) ∙ none_join by None

pub tied_start : (G : Ground) (ns : List ℕ) → Tied G ns [] start
unfolding content applied view clock_of entry
tied_start G ns = record {
  sound = sound_start G;
  contents = λ n d. refl;
  holders = λ n d v e. no_some e;
  applied = λ d. refl;
  views = λ n. refl;
  clocks = λ n. refl;
  entered = λ n k. refl;
  exchanged = λ n k. refl;
  entries = λ n k d. refl;
  empties = λ n k p e. differ e refl;
  members = λ k e. differ e refl;
  folds = λ k d. first_fold G.by k d (G.members k);
  settled = λ n k p e. differ e refl;
  writes = λ n k t a e. no_some e;
  done = λ n k t e. differ e refl;
}

-- ---- along the lines

abbrev pub AllFit : Ground → List ℕ → Picture → List Line → Type 0
AllFit G ns w ls = (i : ℕ) (l : Line) → slice_get ls i ≡ Some l → FitsGround G ns (picture_after_all G w (take i ls)) l

-- what each line keeps
abbrev pub Keeps : Ground → List ℕ → (List Line → Picture → Type 0) → Type 0
Keeps G ns T = (j : List Line) (w : Picture) (l : Line) → T j w → Ok G w l → FitsGround G ns w l → T (j ++ l ∷ []) (picture_after G w l)

kept_along : (G : Ground) (ns : List ℕ) (T : List Line → Picture → Type 0) → Keeps G ns T → (before ls : List Line) (w : Picture) (i : ℕ) → T before w → Licensed G w ls → AllFit G ns w ls → T (before ++ take i ls) (picture_after_all G w (take i ls))
kept_along G ns T step before [] w zero t ok f = subst (λ (x : List Line). T x w) (sym (append-nil before)) t
kept_along G ns T step before [] w (suc i) t ok f = subst (λ (x : List Line). T x w) (sym (append-nil before)) t
kept_along G ns T step before (l ∷ ls) w zero t ok f = subst (λ (x : List Line). T x w) (sym (append-nil before)) t
kept_along G ns T step before (l ∷ ls) w (suc i) t ok f = subst (λ (x : List Line). T x (picture_after_all G (picture_after G w l) (take i ls))) (append_assoc before (l ∷ []) (take i ls))
    (kept_along G ns T step (before ++ l ∷ []) ls (picture_after G w l) i (step before w l t ok.0 (f zero l refl)) ok.1 (λ o. f (suc o)))

-- the header's lines do nothing to the picture
licensed_header : (G : Ground) (h ls : List Line) → list_all is_header h ≡ true → Licensed G start ls → Licensed G start (h ++ ls)
licensed_header G [] ls e ok = ok
licensed_header G (line.Script v ∷ h) ls e ok = ((refl, tt), licensed_header G h ls e ok)
licensed_header G (line.Factor n ∷ h) ls e ok = ((refl, tt), licensed_header G h ls e ok)
licensed_header G (line.Node n rack ∷ h) ls e ok = ((refl, tt), licensed_header G h ls e ok)
licensed_header G (line.Policy by ∷ h) ls e ok = ((refl, tt), licensed_header G h ls e ok)
licensed_header G (l ∷ h) ls e ok = differ e refl

fit_header : (G : Ground) (ns : List ℕ) (h ls : List Line) → list_all is_header h ≡ true → AllFit G ns start ls → AllFit G ns start (h ++ ls)
fit_header G ns [] ls e f i l q = f i l q
fit_header G ns (line.Script v ∷ h) ls e f zero l q = subst (FitsGround G ns start) (some_same q) tt
fit_header G ns (line.Factor n ∷ h) ls e f zero l q = subst (FitsGround G ns start) (some_same q) tt
fit_header G ns (line.Node n rack ∷ h) ls e f zero l q = subst (FitsGround G ns start)
    (some_same q) tt
fit_header G ns (line.Policy by ∷ h) ls e f zero l q = subst (FitsGround G ns start)
    (some_same q) tt
fit_header G ns (line.Script v ∷ h) ls e f (suc i) l q = fit_header G ns h ls e f i l q
fit_header G ns (line.Factor n ∷ h) ls e f (suc i) l q = fit_header G ns h ls e f i l q
fit_header G ns (line.Node n rack ∷ h) ls e f (suc i) l q = fit_header G ns h ls e f i l q
fit_header G ns (line.Policy by ∷ h) ls e f (suc i) l q = fit_header G ns h ls e f i l q
fit_header G ns (x ∷ h) ls e f i l q = differ e refl

-- the lines of a journal are licensed, those of the header among them
pub journal_licensed : (h : List Line) (G : Ground) (lines : List Line) → IsJournal h G lines → Licensed G start (journal h lines)
journal_licensed h G lines o = licensed_header G h lines o.header o.licensed

pub journal_fits : (h : List Line) (G : Ground) (lines : List Line) → IsJournal h G lines → AllFit G (nodes (journal h lines)) start (journal h lines)
journal_fits h G lines o = fit_header G (nodes (journal h lines)) h lines o.header o.fits

-- what each line keeps holds at every line of a journal
pub journal_keeps : (h : List Line) (G : Ground) (lines : List Line) → IsJournal h G lines → (T : List Line → Picture → Type 0) → Keeps G (nodes (journal h lines)) T → T [] start → (i : ℕ) → T (take i (journal h lines)) (picture G (journal h lines) i)
journal_keeps h G lines o T step t i = kept_along G (nodes (journal h lines)) T step [] (journal h lines) start i t (journal_licensed h G lines o) (journal_fits h G lines o)

pub journal_tied : (h : List Line) (G : Ground) (lines : List Line) → IsJournal h G lines → (i : ℕ) → Tied G (nodes (journal h lines)) (take i (journal h lines)) (picture G (journal h lines) i)
journal_tied h G lines o i = journal_keeps h G lines o (Tied G (nodes (journal h lines))) (λ j w l t ok f. tied_step G o.ground (nodes (journal h lines)) j w l t ok f) (tied_start G (nodes (journal h lines))) i

-- ---- what a member that is in the view tells

pub in_view_entered : (G : Ground) (ns : List ℕ) (j : List Line) (w : Picture) → Tied G ns j w → (n : ℕ) (k : ClusterKey) → (w.node n).view ≡ Some k → (w.stay n k).entered ≡ true
in_view_entered G ns j w t n k e = ((t.sound.whole.known.entered n k).now e).0

pub members_of : (G : Ground) (ns : List ℕ) (j : List Line) (w : Picture) → Tied G ns j w → (n : ℕ) (k : ClusterKey) → (w.stay n k).entered ≡ true → members k j ≡ G.members k
members_of G ns j w t n k e = t.members k (any_wider (Rattle.journal_readings.specs.Lines.is_enter k n) (enters_key k) (enter_is_key k n) j (t.entered n k ∙ e))

pub fold_is : (G : Ground) (ns : List ℕ) (j : List Line) (w : Picture) → Tied G ns j w → (n : ℕ) (k : ClusterKey) → (w.stay n k).entered ≡ true → (d : List ℕ) → fold_of G.by k d j ≡ w.fold k d
unfolding fold_of
fold_is G ns j w t n k e d = ap (λ (ms : List Member). join G.by (joined G.by (λ m. entry G.by k m d j) ms) (applied_in G.by k d j)) (members_of G ns j w t n k e) ∙ t.folds k d
