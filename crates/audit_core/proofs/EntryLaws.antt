-- What a node makes of the frame as it enters a view and finishes exchange, and as its copies become whole.
use Rattle.std.proofs.Common.{◌≡◌, ℕ, ◌==◌, Bool, true, false, ◌&&◌, ◌||◌, cond, List, [], ◌∷◌, ◌++◌, Option, Some, None, option_map, refl, sym, ap, subst, ◌∙◌}
use Rattle.std.specs.Prelude.{is_some, find}
use Rattle.std.specs.List.{list_any}
use Rattle.std.specs.Option.{option_or}
use Rattle.std.proofs.lemmas.List.Folds.{find-append}
use Rattle.cluster_types.specs.declared.cluster_key.ClusterKey.{ClusterKey}
use Rattle.cluster_types.specs.declared.member.Member.{Member}
use Rattle.journal_lines.specs.declared.line.Line.{Line}
use Rattle.journal_lines.specs.declared.line.Line.TheVariants as line
use Rattle.journal_readings.specs.Lines.{same_key}
use Rattle.journal_readings.specs.Views.{some_key, members}
use Rattle.journal_readings.proofs.AlongLaws.{no_some, some_same}
use Rattle.journal_readings.proofs.Fronts.{same_key_is, and_left, and_right}
use Rattle.audit_laws.proofs.Tests.{differ, number_here, number_same}
use Rattle.audit_laws.proofs.ShapeSteps.{same_key_itself}
use Rattle.audit_core.specs.declared.judge.Judge.{Judge}
use Rattle.audit_state.specs.declared.nodes.Node.{Node}
use Rattle.audit_state.specs.declared.views.Entry.{Entry}
use Rattle.audit_state.specs.declared.views.View.{View}
use Rattle.audit_core.specs.Frames.{Both}
use Rattle.audit_state.specs.Views.{SameEntries, entry_line, has_exchanged, IsFreshView}
use Rattle.audit_core.specs.Known.{node_at, kept_view, stamps_at}
use Rattle.audit_core.specs.NextFrames.{NextNode, NextView, FirstView, ViewAfter, NextStamps, NextFrame, mark_changes}
use Rattle.audit_core.specs.Stamped.{mark_of}
use Rattle.audit_state.specs.Stamps.{stamp_marks}
use Rattle.audit_core.specs.Steps.{ChangesNode, BeginsStay, OpensView, ChangesView, HasEntry, ChangesStamps, HasMark}
use Rattle.audit_core.proofs.ShapeLaws.{and_pair}
use Rattle.audit_core.proofs.WordLaws.{view_stays, same_entries, stamps_stay, both_same, changed_nodes, node_kept, no_more, unless_same, when_same}

-- ---- tests

and_key : (n m : ℕ) (k : ClusterKey) → ((n == m) && same_key k k) ≡ (n == m)
and_key n m k = ap (λ (b : Bool). (n == m) && b) (same_key_itself k) ∙ go (n == m)
  where
    go : (b : Bool) → (b && true) ≡ b
    go true = refl
    go false = refl

and_apart : (b c : Bool) → c ≡ false → (b && c) ≡ false
and_apart true c e = e
and_apart false c e = refl

both_some : {A : Type 0} (R : A → A → Type 0) (o q : Option A) (a : A) → Both R o q → o ≡ Some a → (b : A) × (q ≡ Some b) × R a b
both_some R None None a x e = absurd (no_some e)
both_some R None (Some b) a x e = absurd x
both_some R (Some c) None a x e = absurd x
both_some R (Some c) (Some b) a x e = (b, refl, subst (λ (z : _). R z b) (some_same e) x)

-- ---- an entry

-- what is told of who entered, once one more did
entry_told : (n m place : ℕ) (es : List Entry)
    → option_map (λ (e : Entry). e.line) (find (λ (e : Entry). e.node == m) (es ++ record { node = n; line = place } ∷ []))
    ≡ cond (is_some (option_map (λ (e : Entry). e.line) (find (λ (e : Entry). e.node == m) es))) (option_map (λ (e : Entry). e.line) (find (λ (e : Entry). e.node == m) es)) (cond (n == m) (Some place) None)
entry_told n m place es =
    ap (option_map (λ (e : Entry). e.line)) (find-append (λ (e : Entry). e.node == m) es (record { node = n; line = place } ∷ []))
    ∙ go (find (λ (e : Entry). e.node == m) es) (n == m)
  where
    go : (o : Option Entry) (c : Bool) → option_map (λ (e : Entry). e.line) (option_or o (cond c (Some (record { node = n; line = place })) None))
        ≡ cond (is_some (option_map (λ (e : Entry). e.line) o)) (option_map (λ (e : Entry). e.line) o) (cond c (Some place) None)
    go None true = refl
    go None false = refl
    go (Some x) c = refl

entered_view : (place n : ℕ) (k : ClusterKey) (ms : List Member) (x y : View) → HasEntry n place x y → NextView k place (line.Enter n k ms) x y
entered_view place n k ms x y h = record {
  key = h.key;
  members = h.members;
  ranks = h.ranks;
  entered = λ m. ap (λ (es : List Entry). option_map (λ (e : Entry). e.line) (find (λ (e : Entry). e.node == m) es)) h.entered
      ∙ (entry_told n m place x.entered.items
      ∙ ap (λ (b : Bool). cond (is_some (entry_line x m)) (entry_line x m) (cond b (Some place) None)) (sym (and_key n m k)));
  exchanged = λ m. ap (λ (v : _). list_any (λ (q : ℕ). q == m) v.items) h.exchanged ∙ or_no (has_exchanged x m);
}
  where
    or_no : (b : Bool) → b ≡ (b || false)
    or_no true = refl
    or_no false = refl

first_view : (place n : ℕ) (k : ClusterKey) (ms : List Member) (x y : View) → IsFreshView k ms x → HasEntry n place x y → FirstView k place (line.Enter n k ms) y
first_view place n k ms x y new h =
    let named : members k (line.Enter n k ms ∷ []) ≡ ms = ap (λ (b : Bool). cond b ms []) (same_key_itself k) in
    record {
      enters = same_key_itself k;
      key = h.key ∙ new.key;
      members = h.members ∙ (new.members ∙ sym named);
      ranks = h.ranks ∙ (new.ranks ∙ sym named);
      entered = λ m. ap (λ (es : List Entry). option_map (λ (e : Entry). e.line) (find (λ (e : Entry). e.node == m) es)) (h.entered ∙ ap (λ (es : List Entry). es ++ record { node = n; line = place } ∷ []) new.entered)
          ∙ (entry_told n m place [] ∙ ap (λ (b : Bool). cond b (Some place) None) (sym (and_key n m k)));
      exchanged = λ m. ap (λ (v : _). list_any (λ (q : ℕ). q == m) v.items) h.exchanged ∙ ap (list_any (λ (q : ℕ). q == m)) new.exchanged;
    }

entered_views : (place n : ℕ) (k : ClusterKey) (ms : List Member) (old opened noted : Judge) → OpensView k ms old opened → ChangesView (HasEntry n place) k opened noted
    → (l : ClusterKey) → ViewAfter l place (line.Enter n k ms) (kept_view old l) (kept_view noted l)
entered_views place n k ms old opened noted a b l = go (same_key k l) refl
  where
    here : (o : Option View) → kept_view old k ≡ o → ViewAfter k place (line.Enter n k ms) o (kept_view noted k)
    here (Some x) e =
        let y : (y : View) × (kept_view noted k ≡ Some y) × HasEntry n place x y = both_some (HasEntry n place) (kept_view opened k) (kept_view noted k) x b.here (a.known x e) in
        subst (ViewAfter k place (line.Enter n k ms) (Some x)) (sym y.1) (entered_view place n k ms x y.0 y.2)
    here None e = made (kept_view opened k) refl
      where
        made : (o : Option View) → kept_view opened k ≡ o → ViewAfter k place (line.Enter n k ms) None (kept_view noted k)
        made None i = differ a.there (ap is_some i)
        made (Some x) i =
            let y : (y : View) × (kept_view noted k ≡ Some y) × HasEntry n place x y = both_some (HasEntry n place) (kept_view opened k) (kept_view noted k) x b.here i in
            subst (ViewAfter k place (line.Enter n k ms) None) (sym y.1) (first_view place n k ms x y.0 (a.fresh x e i) y.2)

    go : (c : Bool) → same_key k l ≡ c → ViewAfter l place (line.Enter n k ms) (kept_view old l) (kept_view noted l)
    go true e = subst (λ (z : ClusterKey). ViewAfter z place (line.Enter n k ms) (kept_view old z) (kept_view noted z)) (same_key_is k l e) (here (kept_view old k) refl)
    go false e = view_stays l place (line.Enter n k ms) e (λ m. and_apart (n == m) (same_key k l) e) (λ m. refl) (kept_view old l) (kept_view noted l)
        (both_same SameEntries (λ x. same_entries (Some x)) (kept_view old l) (kept_view noted l) (b.others l e ∙ a.others l e))

pub enter_next : (place n : ℕ) (k : ClusterKey) (ms : List Member) (old opened noted new : Judge) → OpensView k ms old opened → ChangesView (HasEntry n place) k opened noted
    → ChangesNode (BeginsStay (some_key k)) n noted new → NextFrame place (line.Enter n k ms) old new
enter_next place n k ms old opened noted new a b c = record {
  policy = ap (λ (s : Judge). s.by) c.rest ∙ (ap (λ (s : Judge). s.by) b.rest ∙ ap (λ (s : Judge). s.by) a.rest);
  factor = ap (λ (s : Judge). s.factor) c.rest ∙ (ap (λ (s : Judge). s.factor) b.rest ∙ ap (λ (s : Judge). s.factor) a.rest);
  nodes = λ m. subst (λ (o : Option Node). Both (NextNode m place (line.Enter n k ms)) o (node_at new m))
      (ap (λ (s : Judge). node_at s m) b.rest ∙ ap (λ (s : Judge). node_at s m) a.rest)
      (changed_nodes (BeginsStay (some_key k)) n noted new c (λ m. NextNode m place (line.Enter n k ms))
      (λ x y r. record { clock = r.moved.clock; view = r.moved.view ∙ sym (when_same n (some_key k) x.view); exchanged = no_more x y r.moved.exchanged })
      (λ m x e. node_kept m place (line.Enter n k ms) (λ t. refl) (λ v. unless_same (n == m) (some_key k) v e) refl x) m);
  views = λ l. subst (ViewAfter l place (line.Enter n k ms) (kept_view old l)) (sym (ap (λ (s : Judge). kept_view s l) c.rest)) (entered_views place n k ms old opened noted a b l);
  stamps = λ m p. stamps_stay m p place (line.Enter n k ms) refl (stamps_at old m p) (stamps_at new m p)
      (ap (λ (s : Judge). stamps_at s m p) c.rest ∙ (ap (λ (s : Judge). stamps_at s m p) b.rest ∙ ap (λ (s : Judge). stamps_at s m p) a.rest));
}

-- ---- exchange is finished

-- ---- a copy is marked

pub marked_stamps : (place n p : ℕ) (l : Line) (v : Option ℕ) (old new : Judge) → ((m q : ℕ) → mark_of m q place l ≡ cond ((n == m) && (p == q)) (Some v) None) → ChangesStamps (HasMark place v) n p old new
    → (m q : ℕ) → NextStamps m q place l (stamps_at old m q) (stamps_at new m q)
marked_stamps place n p l v old new h c m q = go ((n == m) && (p == q)) refl
  where
    go : (b : Bool) → ((n == m) && (p == q)) ≡ b → NextStamps m q place l (stamps_at old m q) (stamps_at new m q)
    go true e =
        subst (λ (x : ℕ). NextStamps x q place l (stamps_at old x q) (stamps_at new x q)) (number_same n m (and_left (n == m) (p == q) e))
        (subst (λ (x : ℕ). NextStamps n x place l (stamps_at old n x) (stamps_at new n x)) (number_same p q (and_right (n == m) (p == q) e))
        (record {
          marks = c.here.marks ∙ ap (λ (o : Option (Option ℕ)). stamp_marks (stamps_at old n p) ++ mark_changes place o) (sym (h n p ∙ both));
          judged = c.here.judged;
          wholes = c.here.wholes;
        }))
      where
        both : cond ((n == n) && (p == p)) (Some v) None ≡ Some v
        both = ap (λ (b : Bool). cond b (Some v) None) (and_pair (n == n) (p == p) (number_here n) (number_here p))
    go false e = stamps_stay m q place l (h m q ∙ ap (λ (b : Bool). cond b (Some v) None) e) (stamps_at old m q) (stamps_at new m q) (c.others m q e)
