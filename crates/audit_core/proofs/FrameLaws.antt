-- The frame of what is known, as one line more comes.
use Rattle.std.proofs.Common.{◌≡◌, ℕ, Bool, true, false, ◌||◌, cond, List, [], ◌∷◌, ◌++◌, length, Option, Some, None, option_map, refl, sym, ap, ap₂, subst, ◌∙◌}
use Rattle.std.specs.Prelude.{is_some}
use Rattle.std.specs.List.{list_any}
use Rattle.std.proofs.lemmas.List.Folds.{list_any-append}
use Rattle.cluster_types.specs.declared.cluster_key.ClusterKey.{ClusterKey}
use Rattle.journal_lines.specs.declared.line.Line.{Line}
use Rattle.journal_readings.specs.Lines.{has_node, lines_before, is_enter, is_exchanged}
use Rattle.journal_readings.specs.Settings.{factor_of, clock_step}
use Rattle.journal_readings.specs.Views.{view_step, members}
use Rattle.journal_readings.specs.Shape.{is_header}
use Rattle.journal_readings.proofs.AlongLaws.{some_same}
use Rattle.journal_readings.proofs.StepLaws.{clock_of-more, view-more, lines_before-more}
use Rattle.audit_laws.specs.Fits.{enters_key}
use Rattle.audit_laws.proofs.Tests.{differ}
use Rattle.audit_laws.proofs.Headers.{policy_stays, factor_stays, nodes_stay}
use Rattle.audit_core.specs.declared.judge.Judge.{Judge}
use Rattle.audit_state.specs.declared.nodes.Node.{Node}
use Rattle.audit_state.specs.declared.views.View.{View}
use Rattle.audit_core.specs.Frames.{Both}
use Rattle.audit_state.specs.Views.{entry_line}
use Rattle.audit_core.specs.Known.{node_at, kept_view, stamps_at}
use Rattle.audit_core.specs.NextFrames.{NextNode, NextView, FirstView, ViewAfter, NextFrame}
use Rattle.audit_core.specs.Sees.{SeesNode, SeesView, SeesFrame}
use Rattle.audit_core.specs.Stamped.{SeesStamps, exchanged_places_from}
use Rattle.audit_core.proofs.LineLaws.{members_more, finished_more}
use Rattle.audit_core.proofs.ShapeLaws.{before_any}
use Rattle.audit_core.proofs.StampLaws.{stamps_more}

-- ---- nodes

node_more : (j : List Line) (l : Line) (n : ℕ) (old new : Node) → SeesNode j n old → NextNode n (length j) l old new → SeesNode (j ++ l ∷ []) n new
node_more j l n old new h x = record {
  clock = x.clock ∙ (ap (λ (t : ℕ). clock_step n t l) h.clock ∙ sym (clock_of-more n j l));
  view = x.view ∙ (ap (λ (v : Option ClusterKey). view_step n v l) h.view ∙ sym (view-more n j l));
  exchanged = x.exchanged ∙ (ap (λ (ps : List ℕ). ps ++ exchanged_places_from n (length j) (l ∷ [])) h.exchanged ∙ sym (finished_more n j l));
}

nodes_more : (j : List Line) (l : Line) (n : ℕ) (o q : Option Node) → ((node : Node) → o ≡ Some node → SeesNode j n node) → Both (NextNode n (length j) l) o q → (node : Node) → q ≡ Some node → SeesNode (j ++ l ∷ []) n node
nodes_more j l n None None h x node e = differ refl (sym (ap is_some e))
nodes_more j l n (Some old) (Some new) h x node e = subst (SeesNode (j ++ l ∷ []) n) (some_same e) (node_more j l n old new (h old refl) x)
nodes_more j l n None (Some new) h x node e = absurd x
nodes_more j l n (Some old) None h x node e = absurd x

both_there : {A : Type 0} (R : A → A → Type 0) (o q : Option A) → Both R o q → is_some q ≡ is_some o
both_there R None None x = refl
both_there R (Some a) (Some b) x = refl
both_there R None (Some b) x = absurd x
both_there R (Some a) None x = absurd x

-- ---- views

before_more : (test : Line → Bool) (j : List Line) (l : Line) (o : Option ℕ) → o ≡ option_map length (lines_before test j)
    → cond (is_some o) o (cond (test l) (Some (length j)) None) ≡ option_map length (lines_before test (j ++ l ∷ []))
before_more test j l o e =
    ap (λ (x : Option ℕ). cond (is_some x) x (cond (test l) (Some (length j)) None)) e
    ∙ (go (lines_before test j) (list_any test j) (test l) (before_any test j)
    ∙ sym (ap (option_map length) (lines_before-more test j l)))
  where
    go : (q : Option (List Line)) (a b : Bool) → is_some q ≡ a → cond (is_some (option_map length q)) (option_map length q) (cond b (Some (length j)) None) ≡ option_map length (cond a q (cond b (Some j) None))
    go None true b i = differ i refl
    go None false true i = refl
    go None false false i = refl
    go (Some x) true b i = refl
    go (Some x) false b i = differ refl i

view_more : (j : List Line) (l : Line) (k : ClusterKey) (old new : View) → list_any (enters_key k) j ≡ true → SeesView j k old → NextView k (length j) l old new → SeesView (j ++ l ∷ []) k new
view_more j l k old new e h x =
    let same : members k (j ++ l ∷ []) ≡ members k j = members_more k j l ∙ ap (λ (b : Bool). cond b (members k j) (members k (l ∷ []))) e in
    record {
      key = x.key ∙ h.key;
      members = x.members ∙ (h.members ∙ sym same);
      ranks = x.ranks ∙ (h.ranks ∙ sym same);
      entered = λ n. x.entered n ∙ before_more (is_enter k n) j l (entry_line old n) (h.entered n);
      exchanged = λ n. x.exchanged n ∙ (ap (λ (b : Bool). b || is_exchanged k n l) (h.exchanged n)
          ∙ (go (list_any (is_exchanged k n) j) (is_exchanged k n l) ∙ sym (list_any-append (is_exchanged k n) j (l ∷ []))));
    }
  where
    go : (a b : Bool) → (a || b) ≡ (a || (b || false))
    go true b = refl
    go false true = refl
    go false false = refl

-- nothing that only members of the view do stood before its first entry
pub none_before : (test : Line → Bool) (j : List Line) → list_any test j ≡ false → option_map length (lines_before test j) ≡ None
none_before test j e = go (lines_before test j) (before_any test j ∙ e)
  where
    go : (o : Option (List Line)) → is_some o ≡ false → option_map length o ≡ None
    go None q = refl
    go (Some x) q = differ refl q

first_more : (j : List Line) (l : Line) (k : ClusterKey) (new : View) → list_any (enters_key k) j ≡ false → ((n : ℕ) → list_any (is_enter k n) j ≡ false) → ((n : ℕ) → list_any (is_exchanged k n) j ≡ false)
    → FirstView k (length j) l new → SeesView (j ++ l ∷ []) k new
first_more j l k new e never unfinished x =
    let same : members k (j ++ l ∷ []) ≡ members k (l ∷ []) = members_more k j l ∙ ap (λ (b : Bool). cond b (members k j) (members k (l ∷ []))) e in
    record {
      key = x.key;
      members = x.members ∙ sym same;
      ranks = x.ranks ∙ sym same;
      entered = λ n. x.entered n ∙ before_more (is_enter k n) j l None (sym (none_before (is_enter k n) j (never n)));
      exchanged = λ n. x.exchanged n ∙ (go (list_any (is_exchanged k n) j) (is_exchanged k n l) (unfinished n) ∙ sym (list_any-append (is_exchanged k n) j (l ∷ [])));
    }
  where
    go : (a b : Bool) → a ≡ false → b ≡ (a || (b || false))
    go true b q = differ refl q
    go false true q = refl
    go false false q = refl

views_more : (j : List Line) (l : Line) (k : ClusterKey) (o q : Option View) → is_some o ≡ list_any (enters_key k) j → ((n : ℕ) → list_any (enters_key k) j ≡ false → list_any (is_enter k n) j ≡ false) → ((n : ℕ) → list_any (enters_key k) j ≡ false → list_any (is_exchanged k n) j ≡ false)
    → ((x : View) → o ≡ Some x → SeesView j k x) → ViewAfter k (length j) l o q → (x : View) → q ≡ Some x → SeesView (j ++ l ∷ []) k x
views_more j l k None None i never unfinished h a x e = differ refl (sym (ap is_some e))
views_more j l k None (Some new) i never unfinished h a x e =
    subst (SeesView (j ++ l ∷ []) k) (some_same e) (first_more j l k new (sym i) (λ n. never n (sym i)) (λ n. unfinished n (sym i)) a)
views_more j l k (Some old) None i never unfinished h a x e = absurd a
views_more j l k (Some old) (Some new) i never unfinished h a x e =
    subst (SeesView (j ++ l ∷ []) k) (some_same e) (view_more j l k old new (sym i) (h old refl) a)

known_more : (j : List Line) (l : Line) (k : ClusterKey) (o q : Option View) → is_some o ≡ list_any (enters_key k) j → ViewAfter k (length j) l o q → is_some q ≡ list_any (enters_key k) (j ++ l ∷ [])
known_more j l k o q i a = go o q i a ∙ sym (list_any-append (enters_key k) j (l ∷ []))
  where
    one : (b : Bool) → (b || false) ≡ b
    one true = refl
    one false = refl

    go : (o q : Option View) → is_some o ≡ list_any (enters_key k) j → ViewAfter k (length j) l o q → is_some q ≡ (list_any (enters_key k) j || list_any (enters_key k) (l ∷ []))
    go None None i a = sym (ap₂ (λ (x y : Bool). x || y) (sym i) (one (enters_key k l) ∙ a))
    go None (Some new) i a = sym (ap₂ (λ (x y : Bool). x || y) (sym i) (one (enters_key k l) ∙ a.enters))
    go (Some old) None i a = absurd a
    go (Some old) (Some new) i a = sym (ap (λ (x : Bool). x || list_any (enters_key k) (l ∷ [])) (sym i))

-- ---- all of it

-- nobody finished exchange in a view that nobody entered
pub record OnlyEntered (j : List Line) : Type 0 where
  pub entered : (k : ClusterKey) (n : ℕ) → list_any (enters_key k) j ≡ false → list_any (is_enter k n) j ≡ false
  pub exchanged : (k : ClusterKey) (n : ℕ) → list_any (enters_key k) j ≡ false → list_any (is_exchanged k n) j ≡ false

pub frame_more : (old new : Judge) (j : List Line) (l : Line) → is_header l ≡ false → OnlyEntered j → SeesFrame old j → NextFrame (length j) l old new → SeesFrame new (j ++ l ∷ [])
frame_more old new j l i only f x = record {
  header = record {
    policy = x.policy ∙ (f.header.policy ∙ sym (policy_stays j l i));
    factor = x.factor ∙ (f.header.factor ∙ sym (factor_stays j l i));
    declared = λ n. both_there (NextNode n (length j) l) (node_at old n) (node_at new n) (x.nodes n) ∙ (f.header.declared n ∙ ap (λ (ns : List ℕ). has_node ns n) (sym (nodes_stay j l i)));
  };
  nodes = λ n. nodes_more j l n (node_at old n) (node_at new n) (f.nodes n) (x.nodes n);
  known_views = λ k. known_more j l k (kept_view old k) (kept_view new k) (f.known_views k)
      (x.views k);
  views = λ k. views_more j l k (kept_view old k) (kept_view new k) (f.known_views k) (only.entered k) (only.exchanged k) (f.views k) (x.views k);
  stamps = λ n p. subst (λ (factor : ℕ). SeesStamps factor (j ++ l ∷ []) n p (stamps_at new n p)) (sym (factor_stays j l i)) (stamps_more (factor_of j) j l n p (stamps_at old n p) (stamps_at new n p) (f.stamps n p) (x.stamps n p));
}
