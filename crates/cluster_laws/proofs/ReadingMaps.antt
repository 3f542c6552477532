-- The maps that members show are those of the journal.
use Rattle.std.proofs.Common.{◌≡◌, ℕ, zero, suc, ◌==◌, Bool, true, false, cond, not, ◌&&◌, ◌||◌, List, [], ◌∷◌, ◌++◌, length, Option, Some, take, slice_get, refl, sym, ap, ap₂, subst, ◌∙◌}
use Rattle.std.specs.Prelude.{find, unwrap_or}
use Rattle.std.specs.List.{list_any, list_all}
use Rattle.cluster_types.specs.declared.cluster_key.ClusterKey.{ClusterKey}
use Rattle.cluster_types.specs.declared.copy_state.CopyState.{CopyState}
use Rattle.cluster_types.specs.declared.copy_state.CopyState.TheVariants.{Empty, Part, Whole}
use Rattle.cluster_types.specs.declared.member.Member.{Member}
use Rattle.cluster_types.specs.ClusterKeys.{key_lt}
use Rattle.cluster_types.specs.Distinct.{contains}
use Rattle.partition_lists.specs.Acting.{is_whole, is_wholest_by, whole_key}
use Rattle.partition_lists.specs.Lists as lists
use Rattle.journal_lines.specs.declared.line.Line.{Line}
use Rattle.journal_lines.specs.declared.line.Line.TheVariants as line
use Rattle.journal_readings.specs.Lines.{is_enter}
use Rattle.journal_readings.specs.Settings.{nodes}
use Rattle.journal_readings.specs.Stamps.{stamp}
use Rattle.journal_readings.specs.Views.{members, first_of}
use Rattle.journal_readings.specs.Rows.{row, row_whole_key}
use Rattle.journal_readings.specs.Maps.{has_key_above, is_newest_whole, acting, with_roles}
use Rattle.journal_readings.specs.Claims.{OneMap, ShowsMap}
use Rattle.journal_readings.proofs.AlongLaws.{one_map}
use Rattle.cluster_laws.specs.Ground as ground
use Rattle.cluster_laws.specs.Ground.{Ground, IsGround, is_view_member, view_list, view_state}
use Rattle.cluster_laws.specs.Picture.{Picture, start}
use Rattle.cluster_laws.specs.Licences.{Ok, picture_after}
use Rattle.cluster_laws.specs.Laws.{picture}
use Rattle.cluster_laws.specs.Journals.{journal, FitsGround, ShowsGround, IsJournal}
use Rattle.cluster_laws.proofs.At.{number_here, differ}
use Rattle.cluster_laws.proofs.Keys.{lt_none}
use Rattle.cluster_laws.proofs.GroundLaws.{listed_member}
use Rattle.cluster_laws.proofs.ReadingLines.{or_left_true, or_right_true}
use Rattle.cluster_laws.proofs.ReadingSteps.{entered_tied}
use Rattle.cluster_laws.proofs.ReadingTies.{Tied, tied_step, tied_start, journal_keeps, journal_fits, members_of}
use Rattle.cluster_laws.proofs.ReadingClaims.{first_is}
use Rattle.cluster_laws.proofs.ReadingStamps.{Stamps_tied, stamp_tied, Keys_tied, keys_tied, state_key}

-- the stamps and the rows besides
pub record Keyed (G : Ground) (ns : List ℕ) (j : List Line) (w : Picture) : Type 0 where
  pub tied : Tied G ns j w
  pub stamps : Stamps_tied G j w
  pub keys : Keys_tied G j w

pub keyed_step : (G : Ground) → IsGround G → (ns : List ℕ) (j : List Line) (w : Picture) (l : Line) → Keyed G ns j w → Ok G w l → FitsGround G ns w l → Keyed G ns (j ++ l ∷ []) (picture_after G w l)
keyed_step G g ns j w l t ok f = record {
  tied = tied_step G g ns j w l t.tied ok f;
  stamps = stamp_tied G ns j w l ok t.tied t.stamps;
  keys = keys_tied G j w l ok t.tied.contents t.tied.entered (entered_tied G j w l t.tied.entered) t.stamps t.keys;
}

pub keyed_start : (G : Ground) (ns : List ℕ) → Keyed G ns [] start
unfolding stamp
keyed_start G ns = record { tied = tied_start G ns; stamps = λ n p. refl; keys = λ n k p e. differ e refl }

pub journal_keyed : (h : List Line) (G : Ground) (lines : List Line) → IsJournal h G lines → (i : ℕ) → Keyed G (nodes (journal h lines)) (take i (journal h lines)) (picture G (journal h lines) i)
journal_keyed h G lines o i = journal_keeps h G lines o (Keyed G (nodes (journal h lines))) (λ j w l t ok f. keyed_step G o.ground (nodes (journal h lines)) j w l t ok f) (keyed_start G (nodes (journal h lines))) i

-- ---- the acting master

find_same : (f g : ℕ → Bool) (l : List ℕ) → ((n : ℕ) → contains l n ≡ true → f n ≡ g n) → find f l ≡ find g l
find_same f g [] h = refl
find_same f g (n ∷ l) h = ap₂ (λ (b : Bool) (o : Option ℕ). cond b (Some n) o) (h n (or_left_true (n == n) (contains l n) (number_here n))) (find_same f g l (λ m e. h m (or_right_true (n == m) (contains l m) e)))

above_is : (l : ClusterKey) (o : Option ClusterKey) (x : CopyState) → o ≡ state_key x → has_key_above l o ≡ key_lt l (whole_key x)
above_is l o Empty e = ap (has_key_above l) e ∙ sym (lt_none l)
above_is l o Part e = ap (has_key_above l) e ∙ sym (lt_none l)
above_is l o (Whole k writes) e = ap (has_key_above l) e

not_any : (a b : Bool) → not (a || b) ≡ (not a && not b)
not_any true b = refl
not_any false b = refl

none_above : (l : ClusterKey) (f : ℕ → Option ClusterKey) (g : ℕ → CopyState) (ids : List ℕ) → ((n : ℕ) → contains ids n ≡ true → f n ≡ state_key (g n))
    → not (list_any (λ m. has_key_above l (f m)) ids) ≡ list_all (λ m. not (key_lt l (whole_key (g m)))) ids
none_above l f g [] h = refl
none_above l f g (n ∷ ids) h = not_any (has_key_above l (f n))
    (list_any (λ m. has_key_above l (f m)) ids)
    ∙ ap₂ (λ (a b : Bool). not a && b) (above_is l (f n) (g n) (h n (or_left_true (n == n) (contains ids n) (number_here n)))) (none_above l f g ids (λ m e. h m (or_right_true (n == m) (contains ids m) e)))

newest_is : (G : Ground) (k : ClusterKey) (p : ℕ) (j : List Line) (o : Option ClusterKey) (x : CopyState) → o ≡ state_key x → ((n : ℕ) → contains (view_list G k p) n ≡ true → row_whole_key (row G.factor k n p j) ≡ state_key (G.row k n p))
    → is_newest_whole G.factor k p j (view_list G k p) o ≡ (is_whole x && list_all (λ m. not (key_lt (whole_key x) (whole_key (G.row k m p)))) (view_list G k p))
newest_is G k p j o Empty e h = ap (is_newest_whole G.factor k p j (view_list G k p)) e
newest_is G k p j o Part e h = ap (is_newest_whole G.factor k p j (view_list G k p)) e
newest_is G k p j o (Whole l writes) e h = ap (is_newest_whole G.factor k p j (view_list G k p)) e ∙ none_above l (λ n. row_whole_key (row G.factor k n p j)) (λ n. G.row k n p) (view_list G k p) h

acting_is : (G : Ground) (k : ClusterKey) (p : ℕ) (j : List Line) → members k j ≡ G.members k → ((n : ℕ) → contains (view_list G k p) n ≡ true → row_whole_key (row G.factor k n p j) ≡ state_key (G.row k n p)) → acting G.factor k p j ≡ ground.view_acting G k p
unfolding acting ground.view_acting ground.view_master
acting_is G k p j ms h =
    ap (λ (ids : List ℕ). unwrap_or (find (λ n. is_newest_whole G.factor k p j ids (row_whole_key (row G.factor k n p j))) ids) (first_of ids)) (ap (λ (x : List Member). lists.list x p) ms)
    ∙ ap₂ (λ (o : Option ℕ) (m : ℕ). unwrap_or o m)
    (find_same (λ n. is_newest_whole G.factor k p j (view_list G k p) (row_whole_key (row G.factor k n p j))) (is_wholest_by (view_list G k p) (view_state G k p)) (view_list G k p) (λ n e. newest_is G k p j (row_whole_key (row G.factor k n p j)) (G.row k n p) (h n e) h))
    (first_is (view_list G k p))

-- ---- at the end of the journal

take_all : {A : Type 0} (xs : List A) → take (length xs) xs ≡ xs
take_all [] = refl
take_all (x ∷ xs) = ap (λ ys. x ∷ ys) (take_all xs)

any_front : {A : Type 0} (test : A → Bool) (i : ℕ) (xs : List A) → list_any test (take i xs) ≡ true → list_any test xs ≡ true
any_front test zero xs e = differ e refl
any_front test (suc i) [] e = e
any_front test (suc i) (x ∷ xs) e = go (test x) (any_front test i xs) e
  where
    go : (b : Bool) → (list_any test (take i xs) ≡ true → list_any test xs ≡ true) → (b || list_any test (take i xs)) ≡ true → (b || list_any test xs) ≡ true
    go true rest q = refl
    go false rest q = rest q

-- a member that was in the view once has entered it at the end
still_entered : (h : List Line) (G : Ground) (lines : List Line) → IsJournal h G lines → (i n : ℕ) (k : ClusterKey) → ((picture G (journal h lines) i).stay n k).entered ≡ true
    → ((picture G (journal h lines) (length (journal h lines))).stay n k).entered ≡ true
still_entered h G lines o i n k e =
    sym ((journal_keyed h G lines o (length (journal h lines))).tied.entered n k)
    ∙ (ap (list_any (is_enter k n)) (take_all (journal h lines)) ∙ any_front (is_enter k n) i (journal h lines) ((journal_keyed h G lines o i).tied.entered n k ∙ e))

shown : (h : List Line) (G : Ground) (lines : List Line) → IsJournal h G lines → (i n : ℕ) (k : ClusterKey) (p : ℕ) (ms : List Member) (a : ℕ) → ShowsGround G (picture G (journal h lines) i) n k p ms a → ShowsMap (journal h lines) (line.Map n k p ms a)
shown h G lines o i n k p ms a s = (s.members ∙ sym (ap (λ (x : List Member). with_roles x (lists.list x p)) same), s.acting ∙ (sym (acting_is G k p (journal h lines) same keys) ∙ ap (λ (f : ℕ). acting f k p (journal h lines)) o.factor))
  where
    last : ℕ
    last = length (journal h lines)

    t : Tied G (nodes (journal h lines)) (take i (journal h lines)) (picture G (journal h lines) i)
    t = (journal_keyed h G lines o i).tied

    end : Keyed G (nodes (journal h lines)) (journal h lines) (picture G (journal h lines) last)
    end = subst (λ (x : List Line). Keyed G (nodes (journal h lines)) x (picture G (journal h lines) last)) (take_all (journal h lines)) (journal_keyed h G lines o last)

    entered : (b : Bool) → ((picture G (journal h lines) i).stay n k).entered ≡ b → ((picture G (journal h lines) i).stay n k).entered ≡ true
    entered true e = e
    entered false e = differ s.exchanged (ap (λ (x : Rattle.cluster_laws.specs.Stay.Stay). x.exchanged) ((t.sound.whole.known.entered n k).fresh e))

    same : members k (journal h lines) ≡ G.members k
    same = members_of G (nodes (journal h lines)) (journal h lines) (picture G (journal h lines) last) end.tied n k (still_entered h G lines o i n k (entered ((picture G (journal h lines) i).stay n k).entered refl))

    keys : (m : ℕ) → contains (view_list G k p) m ≡ true → row_whole_key (row G.factor k m p (journal h lines)) ≡ state_key (G.row k m p)
    keys m e = end.keys m k p (still_entered h G lines o i m k ((t.sound.whole.known.cross n k).all_in s.exchanged m (listed_member G k p m e)))

shows_map : (h : List Line) (G : Ground) (lines : List Line) → IsJournal h G lines → (i : ℕ) (l : Line) → slice_get (journal h lines) i ≡ Some l → ShowsMap (journal h lines) l
shows_map h G lines o i (line.Map n k p ms a) e = shown h G lines o i n k p ms a (journal_fits h G lines o i (line.Map n k p ms a) e)
shows_map h G lines o i l e = tt

pub one_map_of : (h : List Line) (G : Ground) (lines : List Line) → IsJournal h G lines → OneMap (journal h lines)
one_map_of h G lines o = one_map (journal h lines) (shows_map h G lines o)
