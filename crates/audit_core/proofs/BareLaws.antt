-- Within the header nothing is known but the header.
use Rattle.std.proofs.Common.{◌≡◌, ℕ, ◌<◌, ◌+◌, Bool, true, false, ◌&&◌, cond, List, [], ◌∷◌, length, Option, Some, None, option_map, refl, sym, ap, subst, ◌∙◌, arith}
use Rattle.std.specs.Prelude.{is_some, fold, take, slice_get, option_and_then, All, Contains}
use Rattle.std.specs.List.{count_by}
use Rattle.conflict_order.specs.declared.policy.Policy.{Policy}
use Rattle.cluster_types.specs.declared.cluster_key.ClusterKey.{ClusterKey}
use Rattle.cluster_types.specs.Partitions.{partition_of}
use Rattle.journal_lines.specs.declared.line.Line.{Line}
use Rattle.journal_lines.specs.declared.line.Line.TheVariants as line
use Rattle.journal_readings.specs.Lines.{has_node}
use Rattle.journal_readings.specs.Settings.{policy_of, factor_of, nodes, clock_of, clock_step}
use Rattle.journal_readings.specs.Contents.{content, holds_any, copy_step, applied}
use Rattle.journal_readings.specs.Views.{view, view_step}
use Rattle.journal_readings.specs.Shape.{is_header}
use Rattle.journal_readings.proofs.AlongLaws.{no_some}
use Rattle.journal_readings.proofs.Fronts.{and_left, and_right}
use Rattle.audit_laws.specs.Fits.{enters_key}
use Rattle.audit_laws.proofs.Tests.{differ}
use Rattle.audit_laws.proofs.Headers.{IsBare, bare-none, bare_front}
use Rattle.audit_laws.proofs.ShapeSteps.{bare_line}
use Rattle.audit_state.specs.declared.copies.RecordChange.{RecordChange}
use Rattle.audit_state.specs.declared.history.Change.{Change}
use Rattle.audit_core.specs.declared.judge.Judge.{Judge}
use Rattle.audit_state.specs.declared.nodes.Node.{Node}
use Rattle.audit_state.specs.declared.records.Record.{Record}
use Rattle.audit_state.specs.Histories.{AreBelow, value_after}
use Rattle.audit_state.specs.Nodes.{IsFreshNode}
use Rattle.audit_state.specs.Places.{placed}
use Rattle.audit_core.specs.Holders.{holds_newest}
use Rattle.audit_state.specs.Records.{newest_in, newest_of, holders_in, record_digest}
use Rattle.audit_core.specs.Covering.{cover_number}
use Rattle.audit_core.specs.Sees.{SeesHeader, SeesNode, SeesFrame, SeesState, SeesJournal}
use Rattle.audit_core.specs.Stamped.{SeesStamps, mark_of, finishes_exchange, exchanged_places_from}
use Rattle.audit_core.specs.Steps.{KnowsNoEvents, KnowsNothing}
use Rattle.audit_core.specs.Stored.{SeesRecords, SeesContents, SeesCopies, brings, read_of}
use Rattle.audit_core.specs.Stored.{IsRecordOf}
use Rattle.audit_core.proofs.VerdictLaws.{front_of_front}

-- ---- what the header says of nothing else

fold_bare : {A : Type 0} (step : A → Line → A) → ((a : A) (x : Line) → is_header x ≡ true → step a x ≡ a) → (a : A) (j : List Line) → IsBare j → fold step a j ≡ a
fold_bare step h a [] e = refl
fold_bare step h a (x ∷ j) e = ap (λ (b : _). fold step b j) (h a x (and_left (is_header x) _ e)) ∙ fold_bare step h a j (and_right (is_header x) _ e)

clock_header : (n time : ℕ) (x : Line) → is_header x ≡ true → clock_step n time x ≡ time
clock_header n time (line.Clock m t) e = differ e refl
clock_header n time x e = refl

view_header : (n : ℕ) (v : Option ClusterKey) (x : Line) → is_header x ≡ true → view_step n v x ≡ v
view_header n v (line.Enter m k ms) e = differ e refl
view_header n v (line.Stop m) e = differ e refl
view_header n v x e = refl

copy_header : (n p : ℕ) (holds : Bool) (x : Line) → is_header x ≡ true → copy_step n p holds x ≡ holds
copy_header n p holds (line.Apply m k t e v) i = differ i refl
copy_header n p holds (line.Merge m k e v) i = differ i refl
copy_header n p holds (line.Drop m k q) i = differ i refl
copy_header n p holds x i = refl

enters_header : (k : ClusterKey) (x : Line) → is_header x ≡ true → enters_key k x ≡ false
enters_header k (line.Enter m l ms) e = differ e refl
enters_header k x e = refl

brings_header : (d : List ℕ) (x : Line) → is_header x ≡ true → brings d x ≡ false
brings_header d (line.Apply m k t e v) i = differ i refl
brings_header d (line.Merge m k e v) i = differ i refl
brings_header d x i = refl

finishes_header : (n : ℕ) (x : Line) → is_header x ≡ true → finishes_exchange n x ≡ false
finishes_header n (line.Exchanged m k) e = differ e refl
finishes_header n x e = refl

mark_header : (n p a : ℕ) (x : Line) → is_header x ≡ true → mark_of n p a x ≡ None
mark_header n p a (line.Learn m k q) e = differ e refl
mark_header n p a (line.Drop m k q) e = differ e refl
mark_header n p a x e = refl

bare_clock : (n : ℕ) (j : List Line) → IsBare j → clock_of n j ≡ 0
unfolding clock_of
bare_clock n j e = fold_bare (clock_step n) (clock_header n) 0 j e

bare_view : (n : ℕ) (j : List Line) → IsBare j → view n j ≡ None
unfolding view
bare_view n j e = fold_bare (view_step n) (view_header n) None j e

bare_holds : (n p : ℕ) (j : List Line) → IsBare j → holds_any n p j ≡ false
unfolding holds_any
bare_holds n p j e = fold_bare (copy_step n p) (copy_header n p) false j e

bare_finished : (n place : ℕ) (j : List Line) → IsBare j → exchanged_places_from n place j ≡ []
bare_finished n place [] e = refl
bare_finished n place (x ∷ j) e = go (finishes_exchange n x) (finishes_header n x (and_left (is_header x) _ e)) (bare_finished n (place + 1) j (and_right (is_header x) _ e))
  where
    go : (b : Bool) → b ≡ false → exchanged_places_from n (place + 1) j ≡ [] → cond b (place ∷ exchanged_places_from n (place + 1) j) (exchanged_places_from n (place + 1) j) ≡ []
    go true i r = differ refl i
    go false i r = r

-- ---- so it sees what was read

none_of : {A : Type 0} (P : A → Type 0) → All P []
none_of P k d within = absurd (omega (arith, within))

-- what is nothing isn't something
nothing : {A C : Type 0} {o : Option A} {x : A} → o ≡ None → o ≡ Some x → C
nothing e f = absurd (no_some (sym e ∙ f))

bare_marks : (n p : ℕ) (j : List Line) → IsBare j → (a : ℕ) → None ≡ option_and_then (mark_of n p a) (slice_get j a)
bare_marks n p j e a = go (slice_get j a) refl
  where
    go : (o : Option Line) → slice_get j a ≡ o → None ≡ option_and_then (mark_of n p a) o
    go None i = refl
    go (Some x) i = sym (mark_header n p a x (bare_line j a x e i))

unstamped : (factor n p : ℕ) (j : List Line) → IsBare j → SeesStamps factor j n p None
unstamped factor n p j e = record {
  marks = bare_marks n p j e;
  mark_lines = none_of (λ (c : Change). c.line < length j);
  mark_order = tt;
  judged = omega arith;
  wholes = λ a. refl;
  whole_order = tt;
  whole_lines = none_of _;
}

fresh_sees : (j : List Line) (n : ℕ) (node : Node) → IsBare j → IsFreshNode node → SeesNode j n node
fresh_sees j n node e h = record {
  clock = h.clock ∙ sym (bare_clock n j e);
  view = h.view ∙ sym (bare_view n j e);
  exchanged = h.exchanged ∙ sym (bare_finished n 0 j e);
}

bare_frame : (s : Judge) (j : List Line) → IsBare j → SeesHeader s j → KnowsNoEvents s → SeesFrame s j
bare_frame s j e header h = record {
  header = header;
  nodes = λ n node i. fresh_sees j n node e (h.nodes n node i);
  known_views = λ k. ap is_some (h.views k) ∙ sym (bare-none (enters_key k) (enters_header k) j e);
  views = λ k x i. nothing (h.views k) i;
  stamps = λ n p. subst (SeesStamps (factor_of j) j n p) (sym (h.stamps n p)) (unstamped (factor_of j) n p j e);
}

digest_none : (s : Judge) (r : ℕ) → KnowsNoEvents s → record_digest s.records r ≡ None
digest_none s r h = ap (option_map (λ (x : Record). x.digest)) (h.records.records r)

no_digest : (s : Judge) (r p : ℕ) → KnowsNoEvents s → IsRecordOf s.records r p → ⊥
no_digest s r p h e = no_some (sym (ap (option_map partition_of) (digest_none s r h)) ∙ e)

none_added : {A : Type 0} (test : A → Bool) → ((x : A) → test x ≡ false) → (a : ℕ) (xs : List A) → a ≡ fold (λ b x. b + cond (test x) 1 0) a xs
none_added test h a [] = refl
none_added test h a (x ∷ xs) =
    let same : a + cond (test x) 1 0 ≡ a = ap (λ (b : Bool). a + cond b 1 0) (h x) ∙ (let e : a + 0 ≡ a = omega arith in e) in
    sym same ∙ none_added test h (a + cond (test x) 1 0) xs

no_count : {A : Type 0} (test : A → Bool) → ((x : A) → test x ≡ false) → (xs : List A) → 0 ≡ count_by test xs
no_count test h xs = none_added test h 0 xs

not_both : (a b : Bool) → a ≡ false → (a && b) ≡ false
not_both true b e = differ refl e
not_both false b e = refl

bare_records : (s : Judge) (all j : List Line) → IsBare j → KnowsNoEvents s → SeesRecords s all j
bare_records s all j e h = record {
  numbered = record { digests = λ d r i. nothing (h.records.numbers d) i; numbers = λ d r i. nothing (digest_none s r h) i };
  unbrought = λ d i. bare-none (brings d) (brings_header d) j e;
  newest = λ r. ap (λ (o : Option Record). placed all (newest_in o)) (h.records.records r) ∙ sym (ap (read_of (λ d. applied (policy_of j) d j)) (digest_none s r h));
  holders = λ r. ap holders_in (h.records.records r) ∙ no_count (λ n. holds_newest s n r) (λ n. not_both (is_some (placed s.lines.now (newest_of s.records r))) _ (ap (λ (o : Option Record). is_some (placed s.lines.now (newest_in o))) (h.records.records r))) (nodes j);
}

bare_contents : (s : Judge) (all : List Line) (by : Policy) (i : ℕ) → KnowsNoEvents s → SeesContents s.stores s.records all by i
bare_contents s all by i h = record {
  held = λ n r a lower. ap (λ (cs : List Change). placed all (value_after cs a)) (h.contents n r) ∙ sym (ap (read_of (λ d. content by n d (take a all))) (digest_none s r h));
  below = λ n r. subst (AreBelow i) (sym (h.contents n r)) (none_of (λ (c : Change). c.line < i));
  fresh = λ n r e. h.contents n r;
}

none_there : {C : Type 0} (x : RecordChange) → Contains [] x → C
none_there x h = absurd (omega (arith, h.1))

bare_copies : (s : Judge) (all : List Line) (i : ℕ) → IsBare (take i all) → KnowsNoEvents s → SeesCopies s.stores s.records all i
bare_copies s all i e h = record {
  holding = λ n p a lower. ap (λ (cs : List Change). is_some (value_after cs a)) (h.holding n p) ∙ sym (bare_holds n p (take a all) (subst IsBare (front_of_front a i all lower) (bare_front a (take i all) e)));
  holding_below = λ n p. subst (AreBelow i) (sym (h.holding n p)) (none_of (λ (c : Change). c.line < i));
  changes_below = λ n p. subst (All (λ (x : RecordChange). x.line < i)) (sym (h.changes n p)) (none_of (λ (x : RecordChange). x.line < i));
  held = λ n p r f g. absurd (no_digest s r p h f);
  held_only = λ n p r f. differ f (ap (λ (rs : List ℕ). has_node rs r) (h.held n p));
  held_ever = λ n p r f. differ f (ap (λ (rs : List ℕ). has_node rs r) (h.held n p));
  touched = λ n p r f g. h.contents n r;
  touched_only = λ n p r f. differ f (ap (λ (rs : List ℕ). has_node rs r) (h.touched n p));
  changes_only = λ n p x f. none_there x (subst (λ (xs : List RecordChange). Contains xs x) (h.changes n p) f);
  changes = λ n p r a b f lower same. absurd (no_digest s r p h f);
}

pub bare_state : (s : Judge) (i : ℕ) (all : List Line) → s.lines.now ≡ all → IsBare (take i all) → SeesHeader s (take i all) → KnowsNoEvents s → SeesState s i all
bare_state s i all lines e header h = record {
  lines = lines;
  frame = bare_frame s (take i all) e header h;
  stores = record {
    records = bare_records s all (take i all) e h;
    contents = bare_contents s all (policy_of (take i all)) i h;
    copies = bare_copies s all i e h;
    written = record { applied = λ k x r f. nothing (h.views k) f; written = λ k x r f. nothing (h.views k) f; listed = λ k x r f. nothing (h.views k) f; listed_only = λ k x p r f. nothing (h.views k) f };
  };
  tried = record {
    stands = λ k p x f. nothing (h.views k) f;
    listed = λ k p x f. nothing (h.views k) f;
    unsettled = λ k p x f g. nothing (h.views k) f;
    tried = λ k p x f g. nothing (h.views k) f;
  };
  covers = λ n m p c number e. nothing (h.covers (cover_number n m p)) e;
  writes = record { done = λ k x n t f. nothing (h.views k) f; open_writes = λ k x n t p f. nothing (h.views k) f; by_master = λ k x n t p f. nothing (h.views k) f };
  stays = record { unchanged = λ n r node k d f g named. absurd (no_some (sym (digest_none s r h) ∙ named)) };
}

start_header : (lines : List Line) (s : Judge) → KnowsNothing lines s → SeesHeader s []
unfolding policy_of factor_of nodes
start_header lines s h = record { policy = h.policy; factor = h.factor; declared = λ n. ap is_some (h.nodes n) }

-- before the first line nothing is known
pub sees_nothing : (lines : List Line) (s : Judge) → KnowsNothing lines s → SeesJournal s 0 lines
sees_nothing lines s h = record {
  state = bare_state s 0 lines h.lines refl (start_header lines s h) h.events;
  begun = h.begun;
  bare = λ e. h.events;
}
