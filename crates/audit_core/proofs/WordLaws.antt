-- What each word makes of the frame.
use Rattle.std.proofs.Common.{◌≡◌, ℕ, ◌==◌, Bool, true, false, ◌||◌, cond, List, [], ◌∷◌, ◌++◌, Option, Some, None, option_map, refl, sym, ap, subst, ◌∙◌, append-nil}
use Rattle.std.specs.Prelude.{is_some, find}
use Rattle.std.specs.List.{list_any}
use Rattle.cluster_types.specs.declared.cluster_key.ClusterKey.{ClusterKey}
use Rattle.journal_lines.specs.declared.line.Line.{Line}
use Rattle.journal_lines.specs.declared.line.Line.TheVariants as line
use Rattle.journal_readings.specs.Lines.{is_enter, is_exchanged}
use Rattle.journal_readings.specs.Settings.{clock_step}
use Rattle.journal_readings.specs.Views.{view_step}
use Rattle.audit_laws.specs.Fits.{enters_key}
use Rattle.audit_laws.proofs.Tests.{differ, number_here, number_same}
use Rattle.audit_core.specs.declared.judge.Judge.{Judge}
use Rattle.audit_state.specs.declared.nodes.Node.{Node}
use Rattle.audit_state.specs.declared.stamps.Stamps.{Stamps}
use Rattle.audit_state.specs.declared.views.Entry.{Entry}
use Rattle.audit_state.specs.declared.views.View.{View}
use Rattle.audit_core.specs.Frames.{Both, SameStand, KeepsFrame}
use Rattle.audit_state.specs.Views.{SameEntries, entry_line, has_exchanged}
use Rattle.audit_core.specs.Known.{node_at, kept_view, stamps_at}
use Rattle.audit_core.specs.NextFrames.{NextNode, ViewAfter, NextStamps, NextFrame, mark_changes}
use Rattle.audit_core.specs.Stamped.{mark_of, exchanged_places_from}
use Rattle.audit_state.specs.Stamps.{stamp_marks, judged_of, wholes_of}
use Rattle.audit_core.specs.Steps.{ChangesNode, HasClock, HasView}

-- ---- lines that leave the frame as it was

pub record IsQuiet (l : Line) : Type 0 where
  pub clock : (n time : ℕ) → clock_step n time l ≡ time
  pub view : (n : ℕ) (v : Option ClusterKey) → view_step n v l ≡ v
  pub finished : (n place : ℕ) → exchanged_places_from n place (l ∷ []) ≡ []
  pub enters : (k : ClusterKey) → enters_key k l ≡ false
  pub entered : (k : ClusterKey) (n : ℕ) → is_enter k n l ≡ false
  pub exchanged : (k : ClusterKey) (n : ℕ) → is_exchanged k n l ≡ false
  pub marks : (n p place : ℕ) → mark_of n p place l ≡ None

-- whether it may change the frame
abbrev pub changes_frame : Line → Bool
changes_frame (line.Clock n time) = true
changes_frame (line.Stop n) = true
changes_frame (line.Enter n k ms) = true
changes_frame (line.Exchanged n k) = true
changes_frame (line.Learn n k p) = true
changes_frame (line.Drop n k p) = true
changes_frame _ = false

pub quiet_line : (l : Line) → changes_frame l ≡ false → IsQuiet l
quiet_line (line.Clock n time) e = differ refl e
quiet_line (line.Stop n) e = differ refl e
quiet_line (line.Enter n k ms) e = differ refl e
quiet_line (line.Exchanged n k) e = differ refl e
quiet_line (line.Learn n k p) e = differ refl e
quiet_line (line.Drop n k p) e = differ refl e
quiet_line l e = record {
  clock = λ n time. refl;
  view = λ n v. refl;
  finished = λ n place. refl;
  enters = λ k. refl;
  entered = λ k n. refl;
  exchanged = λ k n. refl;
  marks = λ n p place. refl;
}

-- ---- parts of the frame that stay

stays : (o : Option ℕ) (b : Bool) (place : ℕ) → b ≡ false → o ≡ cond (is_some o) o (cond b (Some place) None)
stays None b place e = sym (ap (λ (x : Bool). cond x (Some place) None) e)
stays (Some x) b place e = refl

or_false : (a b : Bool) → b ≡ false → a ≡ (a || b)
or_false true b e = refl
or_false false b e = sym e

pub view_stays : (k : ClusterKey) (place : ℕ) (l : Line) → enters_key k l ≡ false → ((n : ℕ) → is_enter k n l ≡ false) → ((n : ℕ) → is_exchanged k n l ≡ false) → (o q : Option View) → Both SameEntries o q → ViewAfter k place l o q
view_stays k place l e never unfinished None None s = e
view_stays k place l e never unfinished None (Some new) s = absurd s
view_stays k place l e never unfinished (Some old) None s = absurd s
view_stays k place l e never unfinished (Some old) (Some new) s = record {
  key = s.key;
  members = s.members;
  ranks = s.ranks;
  entered = λ n. ap (λ (es : List Entry). option_map (λ (x : Entry). x.line) (find (λ (x : Entry). x.node == n) es)) s.entered ∙ stays (entry_line old n) (is_enter k n l) place (never n);
  exchanged = λ n. ap (list_any (λ (m : ℕ). m == n)) s.exchanged ∙ or_false (has_exchanged old n) (is_exchanged k n l) (unfinished n);
}

pub same_entries : (o : Option View) → Both SameEntries o o
same_entries None = tt
same_entries (Some x) = record { key = refl; members = refl; ranks = refl; entered = refl; exchanged = refl }

pub stamps_stay : (n p place : ℕ) (l : Line) → mark_of n p place l ≡ None → (x y : Option Stamps) → y ≡ x → NextStamps n p place l x y
stamps_stay n p place l e x y s = record {
  marks = ap stamp_marks s ∙ (sym (append-nil (stamp_marks x)) ∙ ap (λ (o : Option (Option ℕ)). stamp_marks x ++ mark_changes place o) (sym e));
  judged = ap judged_of s;
  wholes = ap wholes_of s;
}

pub node_stays : (n place : ℕ) (l : Line) → ((time : ℕ) → clock_step n time l ≡ time) → ((v : Option ClusterKey) → view_step n v l ≡ v) → exchanged_places_from n place (l ∷ []) ≡ [] → (o q : Option Node) → Both SameStand o q → Both (NextNode n place l) o q
node_stays n place l c v f None None s = tt
node_stays n place l c v f None (Some b) s = absurd s
node_stays n place l c v f (Some a) None s = absurd s
node_stays n place l c v f (Some a) (Some b) s = record {
  clock = s.clock ∙ sym (c a.clock);
  view = s.view ∙ sym (v a.view);
  exchanged = s.exchanged ∙ (sym (append-nil a.exchanged.items) ∙ ap (λ (ps : List ℕ). a.exchanged.items ++ ps) (sym f));
}

pub same_stand : (o : Option Node) → Both SameStand o o
same_stand None = tt
same_stand (Some x) = record { view = refl; clock = refl; exchanged = refl }

stamps_same : (old new : Judge) (n p : ℕ) → new.stamps ≡ old.stamps → stamps_at new n p ≡ stamps_at old n p
stamps_same old new n p e = ap (λ (s : Judge). stamps_at s n p) (let same : record old { stamps = new.stamps } ≡ old = ap (λ (m : _). record old { stamps = m }) e in same)

pub keeps_next : (place : ℕ) (l : Line) (old new : Judge) → IsQuiet l → KeepsFrame old new → NextFrame place l old new
keeps_next place l old new q s = record {
  policy = s.policy;
  factor = s.factor;
  nodes = λ n. node_stays n place l (q.clock n) (q.view n) (q.finished n place) (node_at old n) (node_at new n) (s.nodes n);
  views = λ k. view_stays k place l (q.enters k) (q.entered k) (q.exchanged k) (kept_view old k) (kept_view new k) (s.views k);
  stamps = λ n p. stamps_stay n p place l (q.marks n p place) (stamps_at old n p) (stamps_at new n p) (stamps_same old new n p s.stamps);
}

-- ---- one node changes

both_map : {A : Type 0} (R P : A → A → Type 0) → ((a b : A) → R a b → P a b) → (o q : Option A) → Both R o q → Both P o q
both_map R P h None None x = tt
both_map R P h None (Some b) x = absurd x
both_map R P h (Some a) None x = absurd x
both_map R P h (Some a) (Some b) x = h a b x

pub both_same : {A : Type 0} (P : A → A → Type 0) → ((a : A) → P a a) → (o q : Option A) → q ≡ o → Both P o q
both_same {A} P h o q e = subst (Both P o) (sym e) (go o)
  where
    go : (o : Option A) → Both P o o
    go None = tt
    go (Some a) = h a

pub changed_nodes : (R : Node → Node → Type 0) (n : ℕ) (old new : Judge) → ChangesNode R n old new → (P : ℕ → Node → Node → Type 0)
    → ((a b : Node) → R a b → P n a b) → ((m : ℕ) (a : Node) → (n == m) ≡ false → P m a a) → (m : ℕ) → Both (P m) (node_at old m) (node_at new m)
changed_nodes R n old new c P here there m = go (n == m) refl
  where
    go : (b : Bool) → (n == m) ≡ b → Both (P m) (node_at old m) (node_at new m)
    go true e = subst (λ (x : ℕ). Both (P x) (node_at old x) (node_at new x)) (number_same n m e) (both_map R (P n) here (node_at old n) (node_at new n) c.here)
    go false e = both_same (P m) (λ a. there m a e) (node_at old m) (node_at new m) (c.others m e)

pub node_kept : (n place : ℕ) (l : Line) → ((time : ℕ) → clock_step n time l ≡ time) → ((v : Option ClusterKey) → view_step n v l ≡ v) → exchanged_places_from n place (l ∷ []) ≡ [] → (a : Node) → NextNode n place l a a
node_kept n place l c v f a = node_stays n place l c v f (Some a) (Some a) (record { view = refl; clock = refl; exchanged = refl })

pub no_more : (a b : Node) → b.exchanged.items ≡ a.exchanged.items → b.exchanged.items ≡ a.exchanged.items ++ []
no_more a b e = e ∙ sym (append-nil a.exchanged.items)

pub unless_same : {A : Type 0} (b : Bool) (x y : A) → b ≡ false → cond b x y ≡ y
unless_same b x y e = ap (λ (z : Bool). cond z x y) e

pub when_same : {A : Type 0} (n : ℕ) (x y : A) → cond (n == n) x y ≡ x
when_same n x y = ap (λ (z : Bool). cond z x y) (number_here n)

-- views and stamps are as they were where only nodes changed
rest_views : (old new : Judge) (k : ClusterKey) → record new { nodes = old.nodes } ≡ old → kept_view new k ≡ kept_view old k
rest_views old new k e = ap (λ (s : Judge). kept_view s k) e

pub clock_next : (place n time : ℕ) (old new : Judge) → ChangesNode (HasClock time) n old new → NextFrame place (line.Clock n time) old new
clock_next place n time old new c = record {
  policy = ap (λ (s : Judge). s.by) c.rest;
  factor = ap (λ (s : Judge). s.factor) c.rest;
  nodes = changed_nodes (HasClock time) n old new c (λ m. NextNode m place (line.Clock n time))
      (λ a b r. record {
        clock = ap (λ (x : Node). x.clock) r.rest ∙ sym (when_same n time a.clock);
        view = ap (λ (x : Node). x.view) r.rest;
        exchanged = no_more a b (ap (λ (x : Node). x.exchanged.items) r.rest);
      })
      (λ m a e. node_kept m place (line.Clock n time) (λ t. unless_same (n == m) time t e) (λ v. refl) refl a);
  views = λ k. view_stays k place (line.Clock n time) refl (λ m. refl) (λ m. refl) (kept_view old k) (kept_view new k) (both_same SameEntries (λ x. record { key = refl; members = refl; ranks = refl; entered = refl; exchanged = refl }) (kept_view old k) (kept_view new k) (rest_views old new k c.rest));
  stamps = λ m p. stamps_stay m p place (line.Clock n time) refl (stamps_at old m p) (stamps_at new m p) (ap (λ (s : Judge). stamps_at s m p) c.rest);
}

pub leave_next : (place n : ℕ) (old new : Judge) → ChangesNode (HasView None) n old new → NextFrame place (line.Stop n) old new
leave_next place n old new c = record {
  policy = ap (λ (s : Judge). s.by) c.rest;
  factor = ap (λ (s : Judge). s.factor) c.rest;
  nodes = changed_nodes (HasView None) n old new c (λ m. NextNode m place (line.Stop n))
      (λ a b r. record { clock = r.clock; view = r.view ∙ sym (when_same n None a.view); exchanged = no_more a b r.exchanged })
      (λ m a e. node_kept m place (line.Stop n) (λ t. refl) (λ v. unless_same (n == m) None v e) refl a);
  views = λ k. view_stays k place (line.Stop n) refl (λ m. refl) (λ m. refl) (kept_view old k) (kept_view new k) (both_same SameEntries (λ x. record { key = refl; members = refl; ranks = refl; entered = refl; exchanged = refl }) (kept_view old k) (kept_view new k) (rest_views old new k c.rest));
  stamps = λ m p. stamps_stay m p place (line.Stop n) refl (stamps_at old m p) (stamps_at new m p) (ap (λ (s : Judge). stamps_at s m p) c.rest);
}
