-- A member's copy was whole by a key as it entered a view: what is told is what its row says.
use Rattle.std.proofs.Common.{◌≡◌, ℕ, suc, ◌==◌, Bool, true, false, ◌||◌, cond, List, [], ◌∷◌, length, Option, Some, None, option_map, refl, sym, ap, subst, ◌∙◌}
use Rattle.std.specs.Prelude.{is_some, take, slice_get}
use Rattle.std.specs.List.{list_any}
use Rattle.cluster_types.specs.declared.cluster_key.ClusterKey.{ClusterKey}
use Rattle.journal_lines.specs.declared.line.Line.{Line}
use Rattle.journal_lines.specs.declared.line.Line.TheVariants as line
use Rattle.journal_readings.specs.Lines.{same_key, has_node, is_enter, lines_before}
use Rattle.journal_readings.specs.Settings.{factor_of, nodes}
use Rattle.journal_readings.specs.Contents.{holds_any}
use Rattle.journal_readings.specs.Rows.{row, row_whole_key}
use Rattle.journal_readings.specs.Shape.{Shape, has_entered, names_declared, named_nodes}
use Rattle.journal_readings.specs.Stamps.{stamp}
use Rattle.journal_readings.proofs.AlongLaws.{no_some, some_same}
use Rattle.journal_readings.proofs.Fronts.{and_left}
use Rattle.audit_laws.specs.Lawful.{Lawful}
use Rattle.audit_laws.proofs.Tests.{differ, number_same}
use Rattle.audit_core.specs.declared.judge.Judge.{Judge}
use Rattle.audit_state.specs.declared.views.View.{View}
use Rattle.audit_core.specs.Audits.{Audits, so_far}
use Rattle.audit_core.specs.Known.{node_at, kept_view, stamps_at}
use Rattle.audit_core.specs.Sees.{SeesFrame, SeesState}
use Rattle.audit_core.specs.Shapes.{entry_in}
use Rattle.audit_core.specs.Stamped.{exchanged_places}
use Rattle.audit_state.specs.Stamps.{judged_of, stamped_key}
use Rattle.audit_core.specs.Wholes as known
use Rattle.audit_core.proofs.FrameLaws.{none_before}
use Rattle.audit_core.proofs.NoteLaws.{notes_kept, exchanged_rise}
use Rattle.audit_core.proofs.RowLaws.{right_so, exchanged_so, key_so, row_told}
use Rattle.audit_core.proofs.ShapeLaws.{entered_by}
use Rattle.audit_core.proofs.WholeLaws.{before_front, held_so}

-- ---- who entered

pub any_at : (test : Line → Bool) (j : List Line) → list_any test j ≡ true → (i : ℕ) × (x : Line) × (slice_get j i ≡ Some x) × (test x ≡ true)
any_at test [] e = differ e refl
any_at test (x ∷ j) e = go (test x) refl (any_at test j) e
  where
    go : (b : Bool) → test x ≡ b → (list_any test j ≡ true → (i : ℕ) × (y : Line) × (slice_get j i ≡ Some y) × (test y ≡ true)) → (b || list_any test j) ≡ true
        → (i : ℕ) × (y : Line) × (slice_get (x ∷ j) i ≡ Some y) × (test y ≡ true)
    go true q rest r = (0, x, refl, q)
    go false q rest r = let h : (i : ℕ) × (y : Line) × (slice_get j i ≡ Some y) × (test y ≡ true) = rest r in (suc h.0, h.1, h.2, h.3)

named_enter : (j : List Line) (k : ClusterKey) (n : ℕ) (x : Line) → names_declared j x ≡ true → is_enter k n x ≡ true → has_node (nodes j) n ≡ true
unfolding named_nodes
named_enter j k n (line.Enter m l ms) h e = ap (has_node (nodes j)) (sym (number_same m n (and_left (m == n) (same_key l k) e))) ∙ and_left (has_node (nodes j) m) _ h
named_enter j k n x h e = differ e refl

-- who entered a view is declared
pub declared_entered : (j : List Line) (k : ClusterKey) (n : ℕ) → Shape j → has_entered j k n ≡ true → has_node (nodes j) n ≡ true
declared_entered j k n shape e =
    let h : (i : ℕ) × (x : Line) × (slice_get j i ≡ Some x) × (is_enter k n x ≡ true) = any_at (is_enter k n) j e in
    named_enter j k n h.1 (shape.named h.0 h.1 h.2) h.3

pub entry_so : (s : Judge) (j : List Line) (k : ClusterKey) (n : ℕ) → SeesFrame s j → entry_in (kept_view s k) n ≡ option_map length (lines_before (is_enter k n) j)
entry_so s j k n f = go (kept_view s k) refl
  where
    go : (o : Option View) → kept_view s k ≡ o → entry_in o n ≡ option_map length (lines_before (is_enter k n) j)
    go None e = sym (none_before (is_enter k n) j (sym (entered_by s j k n f None e)))
    go (Some x) e = (f.views k x e).entered n

pub entered_there : (s : Judge) (i : ℕ) (k : ClusterKey) (n a : ℕ) → Audits s i → entry_in (kept_view s k) n ≡ Some a → is_some (node_at s n) ≡ true
entered_there s i k n a h e =
    h.state.frame.header.declared n ∙ declared_entered (so_far s i) k n h.lawful.shape (sym (entered_by s (so_far s i) k n h.state.frame (kept_view s k) refl) ∙ ap is_some e)

-- ---- what is judged of it

pub member_rises : (s : Judge) (k : ClusterKey) (n a : ℕ) → (i : ℕ) × Audits s i → entry_in (kept_view s k) n ≡ Some a → known.AreAscending (known.exchanged_by (node_at s n))
member_rises s k n a h e = exchanged_rise s h.0 s.lines.now n h.1.state (entered_there s h.0 k n a h.1 e)

pub member_right : (s : Judge) (k : ClusterKey) (n p a : ℕ) → (i : ℕ) × Audits s i → entry_in (kept_view s k) n ≡ Some a → known.JudgesRight s n p (stamps_at s n p)
member_right s k n p a h e = right_so s h.0 s.lines.now n p h.1.state h.1.lawful.shape (entered_there s h.0 k n a h.1 e)

pub audits_kept : (old new : Judge) (i : ℕ) (k : ClusterKey) (n p a count : ℕ) → Audits old i → entry_in (kept_view old k) n ≡ Some a → known.JudgesSome n p count old new → Audits new i
audits_kept old new i k n p a count h e c =
    let lines : new.lines.now ≡ old.lines.now = ap (λ (s : Judge). s.lines.now) c.rest in
    let state : SeesState new i old.lines.now = notes_kept old new i old.lines.now n p count h.state h.lawful.shape (entered_there old i k n a h e) c in
    record { lawful = subst (λ (ls : List Line). Lawful (take i ls)) (sym lines) h.lawful; state = subst (SeesState new i) (sym lines) state }

-- ---- what is told

unmapped : (o : Option (List Line)) → option_map length o ≡ None → o ≡ None
unmapped None e = refl
unmapped (Some b) e = absurd (no_some (sym e))

-- the member hasn't entered
pub key_absent : (s : Judge) (k : ClusterKey) (n p : ℕ) → entry_in (kept_view s k) n ≡ None → (i : ℕ) → Audits s i → None ≡ row_whole_key (row (factor_of (so_far s i)) k n p (so_far s i))
key_absent s k n p e i h =
    row_told (factor_of (so_far s i)) k n p (so_far s i) None (unmapped (lines_before (is_enter k n) (so_far s i)) (sym (entry_so s (so_far s i) k n h.state.frame) ∙ e))

-- it had no record as it entered
pub key_unheld : (s : Judge) (k : ClusterKey) (n p a : ℕ) → entry_in (kept_view s k) n ≡ Some a → known.held_any s n p a ≡ false → (i : ℕ) → Audits s i → None ≡ row_whole_key (row (factor_of (so_far s i)) k n p (so_far s i))
key_unheld s k n p a e held i h = go (lines_before (is_enter k n) (so_far s i)) refl (sym (entry_so s (so_far s i) k n h.state.frame) ∙ e)
  where
    go : (o : Option (List Line)) → lines_before (is_enter k n) (so_far s i) ≡ o → option_map length o ≡ Some a → None ≡ row_whole_key (row (factor_of (so_far s i)) k n p (so_far s i))
    go None f q = absurd (no_some q)
    go (Some b) f q =
        let none : holds_any n p b ≡ false = sym (held_so s i s.lines.now n p b h.state (before_front (is_enter k n) (so_far s i) b f)) ∙ (ap (known.held_any s n p) (some_same q) ∙ held) in
        sym (ap (λ (x : Bool). cond x (stamp (factor_of (so_far s i)) n p b) None) none) ∙ row_told (factor_of (so_far s i)) k n p (so_far s i) (Some b) f

-- it had, and all of its `exchanged` lines are judged
pub key_held : (old new : Judge) (k : ClusterKey) (n p a : ℕ) → entry_in (kept_view old k) n ≡ Some a → known.held_any old n p a ≡ true → known.JudgesSome n p (length (known.exchanged_by (node_at old n))) old new
    → (o : Option ClusterKey) → o ≡ stamped_key new.lines.now (stamps_at new n p) a → (i : ℕ) → Audits old i → o ≡ row_whole_key (row (factor_of (so_far old i)) k n p (so_far old i))
key_held old new k n p a e held c o is i h =
    let there : is_some (node_at old n) ≡ true = entered_there old i k n a h e in
    let state : SeesState new i old.lines.now = notes_kept old new i old.lines.now n p (length (known.exchanged_by (node_at old n))) h.state h.lawful.shape there c in
    let judged : judged_of (stamps_at new n p) ≡ length (exchanged_places n (so_far old i)) = c.judged ∙ ap length (exchanged_so old i old.lines.now n h.state there) in
    let holds : known.held_any new n p a ≡ true = ap (λ (s : Judge). known.held_any s n p a) c.rest ∙ held in
    is ∙ (sym
    (ap (λ (b : Bool). cond b (stamped_key new.lines.now (stamps_at new n p) a) None) holds)
    ∙ (ap (known.whole_key_at new n p) (sym e ∙ entry_so old (so_far old i) k n h.state.frame)
    ∙ key_so new i old.lines.now k n p state judged))
