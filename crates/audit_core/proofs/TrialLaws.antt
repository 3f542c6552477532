-- The replicas of a partition are tried one after another.
use Rattle.std.proofs.Common.{◌≡◌, ℕ, ◌==◌, ◌+◌, ◌<◌, ◌≤◌, zero, suc, Bool, true, false, ◌&&◌, ◌||◌, List, [], ◌∷◌, ◌++◌, length, Option, Some, None, option_map, ◌⊎◌, inl, inr, refl, sym, ap, ap₂, subst, ◌∙◌, arith}
use Rattle.std.specs.Prelude.{is_some, take, get_or, option_and_then}
use Rattle.std.specs.List.{list_all}
use Rattle.std.proofs.lemmas.Bool.{or_left, or_right}
use Rattle.std.proofs.lemmas.List.{take_more}
use Rattle.std.proofs.lemmas.List.Folds.{list_any-append}
use Rattle.conflict_order.specs.declared.version.Version.{Version}
use Rattle.cluster_types.specs.declared.cluster_key.ClusterKey.{ClusterKey}
use Rattle.cluster_types.specs.declared.member.Member.{Member}
use Rattle.cluster_types.specs.Members.{ids_of}
use Rattle.cluster_types.specs.Partitions.{partition_of}
use Rattle.partition_lists.specs.Lists as lists
use Rattle.journal_readings.specs.Lines.{has_node}
use Rattle.journal_readings.specs.Settings.{policy_of}
use Rattle.journal_readings.specs.Contents.{content}
use Rattle.journal_readings.specs.Entries.{fold_of}
use Rattle.journal_readings.specs.Views.{view}
use Rattle.journal_readings.proofs.AlongLaws.{no_some, some_same}
use Rattle.journal_readings.proofs.Unwritten.{content-none, fold_of-none}
use Rattle.audit_laws.proofs.Tests.{differ, number_same, number_here}
use Rattle.audit_core.specs.declared.judge.Judge.{Judge}
use Rattle.audit_laws.specs.declared.law.Law.TheVariants as law
use Rattle.audit_core.specs.declared.verdict.Stop.{Stop}
use Rattle.audit_core.specs.declared.verdict.Stop.TheVariants as stop
use Rattle.audit_state.specs.declared.copies.RecordChange.{RecordChange}
use Rattle.audit_state.specs.declared.views.View.{View}
use Rattle.audit_state.specs.Places.{placed, is_at_most}
use Rattle.audit_state.specs.Records.{record_number, record_digest}
use Rattle.audit_state.specs.Histories.{value_after}
use Rattle.audit_state.specs.Stores.{history_of, changes_of}
use Rattle.audit_state.specs.Views.{entry_line}
use Rattle.audit_state.proofs.PlaceLaws.{none_at_most}
use Rattle.audit_core.specs.Audits.{so_far}
use Rattle.audit_core.specs.Covering.{SeesCovers}
use Rattle.audit_core.specs.Folds.{entry_place, folded, folded_in}
use Rattle.audit_core.specs.Holders.{content_now}
use Rattle.audit_core.specs.Known.{view_at, kept_view}
use Rattle.audit_core.specs.Replicas.{TellsCover, Uncovered, HoldsFolds, PartsFolds, holds_at_most, holds_fold, written_from, TellsNoMoreSince, LearnsCover, CoversEntry, PartsEntry, JoinsEntry, StopsEntry, JoinsEntries, StopsEntries, JoinsReplica, StopsReplica, JoinsEachReplica, StopsReplicas}
use Rattle.audit_core.specs.Shapes.{entry_in}
use Rattle.audit_core.specs.Stored.{IsRecordOf}
use Rattle.audit_core.specs.Trying.{SeesLines, KeepsStands, JoinsPartition, StopsAll, covers_record}
use Rattle.audit_core.proofs.BoundLaws.{view_entered, present_so}
use Rattle.audit_core.proofs.JoinedLaws.{fold_then, content_then, replicas_are}
use Rattle.audit_core.proofs.ReplicaLaws.{known_there, entered_within, holds_folds, entry_parts, written_parts, more_parts}
use Rattle.audit_core.proofs.TouchLaws.{covers_keep}
use Rattle.audit_core.proofs.TryLaws.{lines_kept}

-- ---- only what is known of covers changes

keeps_both : (a b c : Judge) → KeepsStands a b → KeepsStands b c → KeepsStands a c
keeps_both a b c h q = ap (λ (s : Judge). record s { covers = a.covers }) q ∙ h

-- what is said of a judge but for its covers was said of it before
lines_back : (old new : Judge) (i : ℕ) → KeepsStands old new → SeesLines old i → SeesLines new i
lines_back old new i keeps h = lines_kept old new i (covers_keep old new keeps) h

-- what the node holds of a record, and the fold
held_back : (old new : Judge) (n r : ℕ) → KeepsStands old new → placed new.lines.now (content_now new n r) ≡ placed old.lines.now (content_now old n r)
held_back old new n r keeps = ap (λ (s : Judge). placed s.lines.now (content_now s n r)) keeps

folded_same : (old new : Judge) (o : Option View) (r : ℕ) → KeepsStands old new → folded new o r ≡ folded old o r
folded_same old new None r keeps = refl
folded_same old new (Some x) r keeps = ap (λ (s : Judge). folded_in s x r) keeps

folded_back : (old new : Judge) (k : ClusterKey) (r : ℕ) → KeepsStands old new → folded new (kept_view new k) r ≡ folded old (kept_view old k) r
folded_back old new k r keeps = folded_same old new (kept_view new k) r keeps ∙ ap (λ (s : Judge). folded old (kept_view s k) r) keeps

of_back : (old new : Judge) (r p : ℕ) → KeepsStands old new → IsRecordOf new.records r p → IsRecordOf old.records r p
of_back old new r p keeps h = sym (ap (λ (s : Judge). option_map partition_of (record_digest s.records r)) keeps) ∙ h

of_ahead : (old new : Judge) (r p : ℕ) → KeepsStands old new → IsRecordOf old.records r p → IsRecordOf new.records r p
of_ahead old new r p keeps h = ap (λ (s : Judge). option_map partition_of (record_digest s.records r)) keeps ∙ h

parts_back : (old new : Judge) (k : ClusterKey) (n p : ℕ) → KeepsStands old new → PartsFolds new k n p → PartsFolds old k n p
parts_back old new k n p keeps u = record {
  number = u.number;
  part = of_back old new u.number p keeps u.part;
  parted = λ same. u.parted (held_back old new n u.number keeps ∙ (same ∙ sym (folded_back old new k u.number keeps)));
}

folds_back : (old new : Judge) (k : ClusterKey) (n p : ℕ) → KeepsStands old new → HoldsFolds new k n p → HoldsFolds old k n p
folds_back old new k n p keeps h = λ r part. sym (held_back old new n r keeps) ∙ (h r (of_ahead old new r p keeps part) ∙ folded_back old new k r keeps)

-- the tests of one record
most_back : (old new : Judge) (k : ClusterKey) (n r : ℕ) → KeepsStands old new → holds_at_most new k n r ≡ holds_at_most old k n r
most_back old new k n r keeps =
    ap (λ (s : Judge). is_at_most s.by (placed s.lines.now (content_now s n r)) (folded new (kept_view new k) r)) keeps
    ∙ ap (is_at_most old.by (placed old.lines.now (content_now old n r))) (folded_back old new k r keeps)

fold_back : (old new : Judge) (k : ClusterKey) (n r : ℕ) → KeepsStands old new → holds_fold new k n r ≡ holds_fold old k n r
fold_back old new k n r keeps = ap₂ (λ (a b : Bool). a && b) (most_back old new k n r keeps)
    (ap (λ (s : Judge). is_at_most s.by (folded new (kept_view new k) r) (placed s.lines.now (content_now s n r))) keeps
    ∙ ap (λ (v : Option Version). is_at_most old.by v (placed old.lines.now (content_now old n r))) (folded_back old new k r keeps))

all_back : (old new : Judge) (k : ClusterKey) (n : ℕ) (rs : List ℕ) → KeepsStands old new → list_all (holds_fold new k n) rs ≡ list_all (holds_fold old k n) rs
all_back old new k n [] keeps = refl
all_back old new k n (r ∷ rs) keeps = ap₂ (λ (a b : Bool). a && b) (fold_back old new k n r keeps) (all_back old new k n rs keeps)

since_back : (old new : Judge) (k : ClusterKey) (n : ℕ) (o : Option ℕ) (changes : List RecordChange) → KeepsStands old new → TellsNoMoreSince new k n o changes true → TellsNoMoreSince old k n o changes true
since_back old new k n None changes keeps h = refl
since_back old new k n (Some a) changes keeps h = λ y there low. sym (most_back old new k n y.number keeps) ∙ h y there low

-- ---- a member's entry

pub no_entry : (i : ℕ) (k : ClusterKey) (n m p : ℕ) (s : Judge) → entry_in (kept_view s k) m ≡ None → JoinsEntry i k n m p s s
unfolding JoinsEntry
no_entry i k n m p s none h covers = (
  covers,
  λ x r there part.
      let entered : entry_line x m ≡ None = sym (ap (λ (o : Option View). entry_in o m) there) ∙ none in
      ap (λ (o : Option ℕ). is_at_most s.by (placed s.lines.now (option_and_then (λ b. value_after (history_of s.stores m r) b) o)) (placed s.lines.now (content_now s n r))) entered
      ∙ sym (none_at_most s.by (placed s.lines.now (content_now s n r))),
)

-- the view is known, and the entry stands in the lines so far
entered_view : (s : Judge) (i : ℕ) (k : ClusterKey) (m e : ℕ) → SeesLines s i → entry_in (kept_view s k) m ≡ Some e → (x : View) × (kept_view s k ≡ Some x) × (entry_line x m ≡ Some e) × (e ≤ i)
entered_view s i k m e h entered = go (kept_view s k) refl entered
  where
    go : (o : Option View) → kept_view s k ≡ o → entry_in o m ≡ Some e → (x : View) × (kept_view s k ≡ Some x) × (entry_line x m ≡ Some e) × (e ≤ i)
    go None q r = absurd (no_some r)
    go (Some x) q r = (x, q, r, entered_within s i k m e x h q r)

-- what the member held as it entered is what it held after so many lines
entry_is : (s : Judge) (n m e r : ℕ) (x : View) → entry_line x m ≡ Some e
    → is_at_most s.by (placed s.lines.now (entry_place s x r m)) (placed s.lines.now (content_now s n r)) ≡ covers_record s n m e r
entry_is s n m e r x entered = ap (λ (o : Option ℕ). is_at_most s.by (placed s.lines.now (option_and_then (λ b. value_after (history_of s.stores m r) b) o)) (placed s.lines.now (content_now s n r))) entered

pub entry_covered : (i : ℕ) (k : ClusterKey) (n m e p : ℕ) (b : Bool) (old new : Judge) → entry_in (kept_view old k) m ≡ Some e → LearnsCover i n m e p old new b → b ≡ true → JoinsEntry i k n m p old new
unfolding LearnsCover JoinsEntry
entry_covered i k n m e p false old new entered learns passes = differ passes refl
entry_covered i k n m e p true old new entered learns passes = λ h covers.
    let v : (x : View) × (kept_view old k ≡ Some x) × (entry_line x m ≡ Some e) × (e ≤ i) = entered_view old i k m e h entered in
    let told : SeesCovers new i × TellsCover old n m e p true = learns h covers v.3 in
    (told.0, λ x r there part. entry_is old n m e r x (subst (λ (y : View). entry_line y m ≡ Some e) (some_same (sym v.1 ∙ there)) v.2) ∙ told.1 r part)

pub entry_less : (i : ℕ) (k : ClusterKey) (n m e p : ℕ) (b : Bool) (old new : Judge) (x : Stop) → entry_in (kept_view old k) m ≡ Some e → LearnsCover i n m e p old new b → b ≡ false → x ≡ stop.Breaks law.SettledJoin → StopsEntry i k n m p old x
unfolding LearnsCover StopsEntry
entry_less i k n m e p true old new x entered learns fails is = differ refl fails
entry_less i k n m e p false old new x entered learns fails is = subst (StopsEntry i k n m p old) (sym is) (λ h covers.
    let v : (x : View) × (kept_view old k ≡ Some x) × (entry_line x m ≡ Some e) × (e ≤ i) = entered_view old i k m e h entered in
    let told : SeesCovers new i × Uncovered old n m e p = learns h covers v.3 in
    (refl, record { known = v.0; there = v.1; number = told.1.number; part = told.1.part; less = entry_is old n m e told.1.number v.0 v.2 ∙ told.1.less }))

pub entry_no_memory : (i : ℕ) (k : ClusterKey) (n m p : ℕ) (s : Judge) (x : Stop) → x ≡ stop.NoMemory → StopsEntry i k n m p s x
unfolding StopsEntry
entry_no_memory i k n m p s x is = subst (StopsEntry i k n m p s) (sym is) tt

-- ---- the entries of members

-- so far these members' entries are covered
pub record EntriesJoined (i : ℕ) (k : ClusterKey) (n : ℕ) (ms : List Member) (p : ℕ) (old now : Judge) : Type 0 where
  pub keeps : KeepsStands old now
  pub joins : JoinsEntries i k n ms p old now

pub entries_first : (i : ℕ) (k : ClusterKey) (n p : ℕ) (s : Judge) → EntriesJoined i k n [] p s s
unfolding JoinsEntries
entries_first i k n p s = record { keeps = refl; joins = λ h covers. (covers, λ m e. differ e refl) }

ids_more : (ms : List Member) (m : Member) (q : ℕ) → has_node (ids_of (ms ++ m ∷ [])) q ≡ true → (has_node (ids_of ms) q ≡ true) ⊎ (m.id ≡ q)
ids_more [] m q e = go (m.id == q) refl e
  where
    go : (b : Bool) → (m.id == q) ≡ b → (b || false) ≡ true → (has_node (ids_of []) q ≡ true) ⊎ (m.id ≡ q)
    go true f h = inr (number_same m.id q f)
    go false f h = differ h refl
ids_more (x ∷ ms) m q e = go (x.id == q) e (ids_more ms m q)
  where
    go : (b : Bool) → (b || has_node (ids_of (ms ++ m ∷ [])) q) ≡ true → (has_node (ids_of (ms ++ m ∷ [])) q ≡ true → (has_node (ids_of ms) q ≡ true) ⊎ (m.id ≡ q)) → ((b || has_node (ids_of ms) q) ≡ true) ⊎ (m.id ≡ q)
    go true h rest = inl refl
    go false h rest = rest h

entry_back : (old new : Judge) (k : ClusterKey) (n m p : ℕ) → KeepsStands old new → CoversEntry new k n m p → CoversEntry old k n m p
entry_back old new k n m p keeps h =
    let moved : CoversEntry (record new { covers = old.covers }) k n m p = h in
    subst (λ (s : Judge). CoversEntry s k n m p) keeps moved

less_back : (old new : Judge) (k : ClusterKey) (n m p : ℕ) → KeepsStands old new → PartsEntry new k n m p → PartsEntry old k n m p
less_back old new k n m p keeps u =
    let moved : PartsEntry (record new { covers = old.covers }) k n m p = record { known = u.known; there = u.there; number = u.number; part = u.part; less = u.less } in
    subst (λ (s : Judge). PartsEntry s k n m p) keeps moved

pub entries_more : (i : ℕ) (k : ClusterKey) (n : ℕ) (ms : List Member) (m : Member) (a p : ℕ) (old now next : Judge) → a < length ms → m ≡ get_or ms a m → EntriesJoined i k n (take a ms) p old now
    → JoinsEntry i k n m.id p now next → KeepsStands now next → EntriesJoined i k n (take (a + 1) ms) p old next
unfolding JoinsEntries JoinsEntry
entries_more i k n ms m a p old now next within read g joins keeps =
    subst (λ (xs : List Member). EntriesJoined i k n xs p old next) (ap (λ (y : Member). take a ms ++ y ∷ []) read ∙ sym (take_more ms a m within)) (record {
      keeps = keeps_both old now next g.keeps keeps;
      joins = λ h covers.
          let before : SeesCovers now i × ((q : ℕ) → has_node (ids_of (take a ms)) q ≡ true → CoversEntry old k n q p) = g.joins h covers in
          let here : SeesCovers next i × CoversEntry now k n m.id p = joins (lines_back old now i g.keeps h) before.0 in
          (here.0, λ q e. pick q (ids_more (take a ms) m q e) before.1 (entry_back old now k n m.id p g.keeps here.1));
    })
  where
    pick : (q : ℕ) → (has_node (ids_of (take a ms)) q ≡ true) ⊎ (m.id ≡ q) → ((q : ℕ) → has_node (ids_of (take a ms)) q ≡ true → CoversEntry old k n q p) → CoversEntry old k n m.id p → CoversEntry old k n q p
    pick q (inl e) before here = before q e
    pick q (inr e) before here = subst (λ (z : ℕ). CoversEntry old k n z p) e here

among_members : (ms : List Member) (a : ℕ) (m : Member) → a < length ms → m ≡ get_or ms a m → has_node (ids_of ms) m.id ≡ true
among_members [] a m within read = absurd (omega (arith, within))
among_members (x ∷ ms) zero m within read = ap (λ (y : Member). (x.id == y.id) || has_node (ids_of ms) y.id) read ∙ or_left (x.id == x.id) (has_node (ids_of ms) x.id) (number_here x.id)
among_members (x ∷ ms) (suc a) m within read = or_right (x.id == m.id) (has_node (ids_of ms) m.id) (among_members ms a m (omega (arith, within)) read)

pub entries_part : (i : ℕ) (k : ClusterKey) (n : ℕ) (ms : List Member) (m : Member) (a p : ℕ) (old now : Judge) (x : Stop) → a < length ms → m ≡ get_or ms a m → EntriesJoined i k n (take a ms) p old now
    → StopsEntry i k n m.id p now x → StopsEntries i k n ms p old x
unfolding StopsEntry StopsEntries JoinsEntries
entries_part i k n ms m a p old now stop.NoMemory within read g stops = tt
entries_part i k n ms m a p old now (stop.Breaks l) within read g stops = λ h covers.
    let w : (l ≡ law.SettledJoin) × PartsEntry now k n m.id p = stops (lines_back old now i g.keeps h) ((g.joins h covers).0) in
    (w.0, m.id, among_members ms a m within read, less_back old now k n m.id p g.keeps w.1)

-- ---- one replica

pub replica_absent : (i : ℕ) (k : ClusterKey) (n p : ℕ) (s : Judge) → (view_at s n ≡ Some k → ⊥) → JoinsReplica i k n p s s
unfolding JoinsReplica
replica_absent i k n p s absent h covers = (covers, λ present. absurd (absent present))

-- nobody is in a view that isn't known
pub replica_none : (i : ℕ) (k : ClusterKey) (n p : ℕ) (s : Judge) → option_map (λ (x : View). x.members) (kept_view s k) ≡ None → JoinsReplica i k n p s s
unfolding JoinsReplica
replica_none i k n p s none h covers = (
  covers,
  λ present.
      let x : (x : View) × (kept_view s k ≡ Some x) = known_there s i k n h present in
      absurd (no_some (sym none ∙ ap (option_map (λ (x : View). x.members)) x.1)),
)

pub replica_joins : (i : ℕ) (k : ClusterKey) (n p : ℕ) (ms : List Member) (old new : Judge) (b c : Bool) → view_at old n ≡ Some k → option_map (λ (x : View). x.members) (kept_view old k) ≡ Some ms → KeepsStands old new → JoinsEntries i k n ms p old new
    → b ≡ list_all (holds_fold new k n) (written_from (kept_view new k) p) → b ≡ true → TellsNoMoreSince new k n (entry_in (kept_view new k) n) (changes_of new.stores n p) c → c ≡ true → JoinsReplica i k n p old new
unfolding JoinsReplica JoinsEntries
replica_joins i k n p ms old new b c present listed keeps entries written passes no_more ends h covers =
    let x : (x : View) × (kept_view old k ≡ Some x) = known_there old i k n h present in
    let all : SeesCovers new i × ((m : ℕ) → has_node (ids_of ms) m ≡ true → CoversEntry old k n m p) = entries h covers in
    let same : ms ≡ x.0.members = some_same (sym listed ∙ ap (option_map (λ (y : View). y.members)) x.1) in
    let tells : TellsNoMoreSince new k n (entry_in (kept_view new k) n) (changes_of new.stores n p) true = subst (TellsNoMoreSince new k n (entry_in (kept_view new k) n) (changes_of new.stores n p)) ends no_more in (
      all.0,
      λ again. holds_folds old i k n p x.0 h present x.1 (λ m member. all.1 m (ap (λ (zs : List Member). has_node (ids_of zs) m) same ∙ member))
          (sym (all_back old new k n (written_from (kept_view new k) p) keeps ∙ ap (λ (s : Judge). list_all (holds_fold old k n) (written_from (kept_view s k) p)) keeps) ∙ (sym written ∙ passes))
          (subst (λ (o : Option ℕ). TellsNoMoreSince old k n o (changes_of old.stores n p) true) (ap (λ (s : Judge). entry_in (kept_view s k) n) keeps)
          (subst (λ (cs : List RecordChange). TellsNoMoreSince old k n (entry_in (kept_view new k) n) cs true) (ap (λ (s : Judge). changes_of s.stores n p) keeps)
          (since_back old new k n (entry_in (kept_view new k) n) (changes_of new.stores n p) keeps tells))),
    )

-- what a member held as it entered is at most the fold
pub replica_less : (i : ℕ) (k : ClusterKey) (n p : ℕ) (ms : List Member) (s : Judge) (x : Stop) → view_at s n ≡ Some k → option_map (λ (x : View). x.members) (kept_view s k) ≡ Some ms → StopsEntries i k n ms p s x → StopsReplica i k n p s x
unfolding StopsEntries StopsReplica
replica_less i k n p ms s stop.NoMemory present listed stops = tt
replica_less i k n p ms s (stop.Breaks l) present listed stops = λ h covers.
    let w : (l ≡ law.SettledJoin) × (m : ℕ) × (has_node (ids_of ms) m ≡ true) × PartsEntry s k n m p = stops h covers in
    let same : ms ≡ w.3.known.members = some_same (sym listed ∙ ap (option_map (λ (y : View). y.members)) w.3.there) in
    (w.0, present, entry_parts s k n w.1 p w.3 (ap (λ (zs : List Member). has_node (ids_of zs) w.1) (sym same) ∙ w.2))

pub replica_written : (i : ℕ) (k : ClusterKey) (n p : ℕ) (old new : Judge) (b : Bool) (x : Stop) → view_at old n ≡ Some k → KeepsStands old new → b ≡ list_all (holds_fold new k n) (written_from (kept_view new k) p) → b ≡ false → x ≡ stop.Breaks law.SettledJoin → StopsReplica i k n p old x
unfolding StopsReplica
replica_written i k n p old new b x present keeps written fails is = subst (StopsReplica i k n p old) (sym is)
    (λ h covers. (refl, present, parts_back old new k n p keeps (written_parts new i k n p b (lines_back old new i keeps h) written fails)))

pub replica_more : (i : ℕ) (k : ClusterKey) (n p : ℕ) (old new : Judge) (c : Bool) (x : Stop) → view_at old n ≡ Some k → KeepsStands old new → TellsNoMoreSince new k n (entry_in (kept_view new k) n) (changes_of new.stores n p) c → c ≡ false → x ≡ stop.Breaks law.SettledJoin → StopsReplica i k n p old x
unfolding StopsReplica
replica_more i k n p old new c x present keeps no_more fails is = subst (StopsReplica i k n p old) (sym is)
    (λ h covers. (refl, present, parts_back old new k n p keeps (more_parts new i k n p (entry_in (kept_view new k) n) c (lines_back old new i keeps h) no_more fails)))

-- ---- all of them

pub record ReplicasJoined (i : ℕ) (k : ClusterKey) (ns : List ℕ) (p : ℕ) (old now : Judge) : Type 0 where
  pub keeps : KeepsStands old now
  pub joins : JoinsEachReplica i k ns p old now

pub replicas_first : (i : ℕ) (k : ClusterKey) (p : ℕ) (s : Judge) → ReplicasJoined i k [] p s s
unfolding JoinsEachReplica
replicas_first i k p s = record { keeps = refl; joins = λ h covers. (covers, λ n e. differ e refl) }

nodes_more : (ns : List ℕ) (n q : ℕ) → has_node (ns ++ n ∷ []) q ≡ true → (has_node ns q ≡ true) ⊎ (n ≡ q)
nodes_more ns n q e = go (has_node ns q) (n == q) refl (sym (list_any-append (λ (m : ℕ). m == q) ns (n ∷ [])) ∙ e)
  where
    go : (a b : Bool) → (n == q) ≡ b → (a || (b || false)) ≡ true → (a ≡ true) ⊎ (n ≡ q)
    go true b f h = inl refl
    go false true f h = inr (number_same n q f)
    go false false f h = differ h refl

pub replicas_more : (i : ℕ) (k : ClusterKey) (ns : List ℕ) (n a p : ℕ) (old now next : Judge) → a < length ns → n ≡ get_or ns a n → ReplicasJoined i k (take a ns) p old now
    → JoinsReplica i k n p now next → KeepsStands now next → ReplicasJoined i k (take (a + 1) ns) p old next
unfolding JoinsEachReplica JoinsReplica
replicas_more i k ns n a p old now next within read g joins keeps =
    subst (λ (xs : List ℕ). ReplicasJoined i k xs p old next) (ap (λ (y : ℕ). take a ns ++ y ∷ []) read ∙ sym (take_more ns a n within)) (record {
      keeps = keeps_both old now next g.keeps keeps;
      joins = λ h covers.
          let before : SeesCovers now i × ((q : ℕ) → has_node (take a ns) q ≡ true → view_at old q ≡ Some k → HoldsFolds old k q p) = g.joins h covers in
          let here : SeesCovers next i × (view_at now n ≡ Some k → HoldsFolds now k n p) = joins (lines_back old now i g.keeps h) before.0 in
          (here.0, λ q e. pick q (nodes_more (take a ns) n q e) before.1 here.1);
    })
  where
    pick : (q : ℕ) → (has_node (take a ns) q ≡ true) ⊎ (n ≡ q) → ((q : ℕ) → has_node (take a ns) q ≡ true → view_at old q ≡ Some k → HoldsFolds old k q p) → (view_at now n ≡ Some k → HoldsFolds now k n p) → view_at old q ≡ Some k → HoldsFolds old k q p
    pick q (inl e) before here = before q e
    pick q (inr e) before here = λ present. subst (λ (z : ℕ). HoldsFolds old k z p) e
        (folds_back old now k n p g.keeps (here (ap (λ (s : Judge). view_at s n) g.keeps ∙ (ap (view_at old) e ∙ present))))

among_nodes : (ns : List ℕ) (a n : ℕ) → a < length ns → n ≡ get_or ns a n → has_node ns n ≡ true
among_nodes [] a n within read = absurd (omega (arith, within))
among_nodes (x ∷ ns) zero n within read = ap (λ (y : ℕ). (x == y) || has_node ns y) read ∙ or_left (x == x) (has_node ns x) (number_here x)
among_nodes (x ∷ ns) (suc a) n within read = or_right (x == n) (has_node ns n) (among_nodes ns a n (omega (arith, within)) read)

pub replicas_part : (i : ℕ) (k : ClusterKey) (ns : List ℕ) (n a p : ℕ) (old now : Judge) (x : Stop) → a < length ns → n ≡ get_or ns a n → ReplicasJoined i k (take a ns) p old now → StopsReplica i k n p now x → StopsReplicas i k ns p old x
unfolding StopsReplica StopsReplicas JoinsEachReplica
replicas_part i k ns n a p old now stop.NoMemory within read g stops = tt
replicas_part i k ns n a p old now (stop.Breaks l) within read g stops = λ h covers.
    let w : (l ≡ law.SettledJoin) × (view_at now n ≡ Some k) × PartsFolds now k n p = stops (lines_back old now i g.keeps h) ((g.joins h covers).0) in
    (w.0, n, among_nodes ns a n within read, sym (ap (λ (s : Judge). view_at s n) g.keeps) ∙ w.1, parts_back old now k n p g.keeps w.2)

-- ---- at the end of a list

taken_all : {A : Type 0} (a : ℕ) (xs : List A) → length xs ≤ a → take a xs ≡ xs
taken_all {A} zero [] h = refl
taken_all {A} (suc a) [] h = refl
taken_all {A} zero (x ∷ xs) h = absurd (omega (arith, h))
taken_all {A} (suc a) (x ∷ xs) h = ap (λ (ys : List A). x ∷ ys) (taken_all a xs (omega (arith, h)))

pub entries_done : (i : ℕ) (k : ClusterKey) (n : ℕ) (ms : List Member) (a p : ℕ) (old now : Judge) → length ms ≤ a → EntriesJoined i k n (take a ms) p old now → EntriesJoined i k n ms p old now
entries_done i k n ms a p old now h = subst (λ (xs : List Member). EntriesJoined i k n xs p old now) (taken_all a ms h)

pub replicas_done : (i : ℕ) (k : ClusterKey) (ns : List ℕ) (a p : ℕ) (old now : Judge) → length ns ≤ a → ReplicasJoined i k (take a ns) p old now → ReplicasJoined i k ns p old now
replicas_done i k ns a p old now h = subst (λ (xs : List ℕ). ReplicasJoined i k xs p old now) (taken_all a ns h)

-- ---- the partition

-- nobody is in a view that isn't known
pub partition_none : (i : ℕ) (k : ClusterKey) (p : ℕ) (s : Judge) → kept_view s k ≡ None → JoinsPartition i k p s s
unfolding JoinsPartition
partition_none i k p s none h covers = (covers, λ d part n replica in_view. differ (h.frame.known_views k ∙ view_entered n k (so_far s i) in_view) (ap is_some none))

abbrev replicas_in : Judge → View → ℕ → List ℕ
replicas_in s x p = take s.factor (lists.list x.ranks p)

pub partition_joins : (i : ℕ) (k : ClusterKey) (p : ℕ) (x : View) (old new : Judge) → kept_view old k ≡ Some x → JoinsEachReplica i k (replicas_in old x p) p old new → JoinsPartition i k p old new
unfolding JoinsEachReplica JoinsPartition
partition_joins i k p x old new there joins h covers =
    let all : SeesCovers new i × ((n : ℕ) → has_node (replicas_in old x p) n ≡ true → view_at old n ≡ Some k → HoldsFolds old k n p) = joins h covers in
    (all.0, λ d part n replica in_view. go d part n in_view (all.1 n (replicas_are old i k p d x n h part there ∙ replica) (present_so old i n h ∙ in_view)) (record_number old.records d) refl)
  where
    go : (d : List ℕ) → partition_of d ≡ p → (n : ℕ) → view n (so_far old i) ≡ Some k → HoldsFolds old k n p → (o : Option ℕ) → record_number old.records d ≡ o → content (policy_of (so_far old i)) n d (so_far old i) ≡ fold_of (policy_of (so_far old i)) k d (so_far old i)
    go d part n in_view holds None e =
        content-none (policy_of (so_far old i)) n d (so_far old i) (h.stores.records.unbrought d e) ∙ sym (fold_of-none (policy_of (so_far old i)) k d (so_far old i) (h.stores.records.unbrought d e))
    go d part n in_view holds (Some r) e =
        let named : record_digest old.records r ≡ Some d = h.stores.records.numbered.digests d r e in
        sym (content_then old i n r d h named) ∙ (holds r (ap (option_map partition_of) named ∙ ap Some part) ∙ fold_then old i k x r d h there named)

pub partition_stops : (i : ℕ) (k : ClusterKey) (p : ℕ) (x : View) (s : Judge) (y : Stop) → kept_view s k ≡ Some x → StopsReplicas i k (replicas_in s x p) p s y → StopsAll i k p s y
unfolding StopsReplicas StopsAll
partition_stops i k p x s stop.NoMemory there stops = tt
partition_stops i k p x s (stop.Breaks l) there stops = λ h covers.
    let w : (l ≡ law.SettledJoin) × (n : ℕ) × (has_node (replicas_in s x p) n ≡ true) × (view_at s n ≡ Some k) × PartsFolds s k n p = stops h covers in
    let d : (d : List ℕ) × (record_digest s.records w.4.number ≡ Some d) × (partition_of d ≡ p) = named (record_digest s.records w.4.number) w.4.part refl in (
      w.0,
      d.0,
      d.2,
      λ join. w.4.parted (content_then s i w.1 w.4.number d.0 h d.1
          ∙ (join w.1 (sym (replicas_are s i k p d.0 x w.1 h d.2 there) ∙ w.2) (sym (present_so s i w.1 h) ∙ w.3)
          ∙ sym (fold_then s i k x w.4.number d.0 h there d.1))),
    )
  where
    named : {r : Option (List ℕ)} (o : Option (List ℕ)) → option_map partition_of o ≡ Some p → r ≡ o → (d : List ℕ) × (r ≡ Some d) × (partition_of d ≡ p)
    named None e q = absurd (no_some e)
    named (Some d) e q = (d, q, some_same e)
