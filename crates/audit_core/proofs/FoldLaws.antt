-- The fold of a view, by what its members held as they entered and by what was written in it.
use Rattle.std.proofs.Common.{◌≡◌, ℕ, zero, suc, ◌+◌, ◌<◌, ◌≤◌, Bool, true, false, cond, List, [], ◌∷◌, ◌++◌, length, take, get_or, Option, Some, None, option_map, refl, sym, ap, ap₂, subst, ◌∙◌, arith, length-take}
use Rattle.std.specs.Prelude.{map, fold, nat_eq, option_and_then}
use Rattle.std.specs.HashMap as hash
use Rattle.std.proofs.lemmas.List.{take_more}
use Rattle.conflict_order.specs.declared.policy.Policy.{Policy}
use Rattle.conflict_order.specs.declared.version.Version.{Version}
use Rattle.conflict_order.specs.Join.{join}
use Rattle.conflict_order.proofs.JoinLaws.{none_join, join_comm, join_assoc}
use Rattle.cluster_types.specs.declared.cluster_key.ClusterKey.{ClusterKey}
use Rattle.cluster_types.specs.declared.member.Member.{Member}
use Rattle.journal_lines.specs.declared.line.Line.{Line}
use Rattle.journal_readings.specs.Lines.{lines_before, is_enter}
use Rattle.journal_readings.specs.Contents.{content, join_all}
use Rattle.journal_readings.specs.Views.{members}
use Rattle.journal_readings.specs.Settings.{policy_of}
use Rattle.journal_readings.specs.Entries.{entry, applied_in, fold_of}
use Rattle.journal_readings.proofs.AlongLaws.{some_same, no_some}
use Rattle.journal_readings.proofs.StepLaws.{fold-more}
use Rattle.journal_readings.proofs.Unwritten.{fold_of-none}
use Rattle.audit_core.specs.declared.judge.Judge.{Judge}
use Rattle.audit_state.specs.declared.records.Records.{Records}
use Rattle.audit_state.specs.declared.stores.Stores.{Stores}
use Rattle.audit_state.specs.declared.versions.Versions.{Versions}
use Rattle.audit_state.specs.declared.views.View.{View}
use Rattle.audit_core.specs.Folds.{entry_place, folded, KnowsView}
use Rattle.audit_core.specs.Known.{kept_view}
use Rattle.audit_state.specs.Histories.{value_after}
use Rattle.audit_state.specs.Places.{placed}
use Rattle.audit_state.specs.Records.{record_digest, record_number}
use Rattle.audit_state.specs.Stores.{history_of}
use Rattle.audit_core.specs.Stored.{SeesContents, read_of}

-- ---- the lines before an entry

pub front_lines : (test : Line → Bool) (j b : List Line) → lines_before test j ≡ Some b → (take (length b) j ≡ b) × (length b ≤ length j)
front_lines test [] b e = absurd (no_some e)
front_lines test (l ∷ j) b e = go (test l) e (front_lines test j)
  where
    P : List Line → Type 0
    P c = (take (length c) (l ∷ j) ≡ c) × (length c ≤ length (l ∷ j))

    tail : (o : Option (List Line)) → option_map (λ before. l ∷ before) o ≡ Some b → ((c : List Line) → o ≡ Some c → (take (length c) j ≡ c) × (length c ≤ length j)) → P b
    tail None q more = absurd (no_some q)
    tail (Some c) q more = let h : (take (length c) j ≡ c) × (length c ≤ length j) = more c refl in subst P (some_same q) (ap (λ (ls : List Line). l ∷ ls) h.0, omega (arith, h.1))

    go : (t : Bool) → cond t (Some []) (option_map (λ before. l ∷ before) (lines_before test j)) ≡ Some b → ((c : List Line) → lines_before test j ≡ Some c → (take (length c) j ≡ c) × (length c ≤ length j)) → P b
    go true q more = subst P (some_same q) (refl, omega arith)
    go false q more = tail (lines_before test j) q more

pub take_take : (a i : ℕ) (all : List Line) → a ≤ i → take a (take i all) ≡ take a all
take_take zero i all le = refl
take_take (suc a) zero all le = absurd (omega (arith, le))
take_take (suc a) (suc i) [] le = refl
take_take (suc a) (suc i) (x ∷ all) le = ap (λ (ls : List Line). x ∷ ls) (take_take a i all (omega (arith, le)))

-- what a member held as it entered
pub entered_at : (st : Stores) (rs : Records) (all : List Line) (by : Policy) (i : ℕ) → SeesContents st rs all by i → (k : ClusterKey) (n r : ℕ) (d : List ℕ) → record_digest rs r ≡ Some d
    → placed all (option_and_then (λ a. value_after (history_of st n r) a) (option_map length (lines_before (is_enter k n) (take i all)))) ≡ entry by k n d (take i all)
unfolding entry
entered_at st rs all by i sees k n r d named = go (lines_before (is_enter k n) (take i all)) refl
  where
    go : (o : Option (List Line)) → lines_before (is_enter k n) (take i all) ≡ o
        → placed all (option_and_then (λ a. value_after (history_of st n r) a) (option_map length o)) ≡ option_and_then (λ before. content by n d before) o
    go None e = refl
    go (Some b) e =
        let h : (take (length b) (take i all) ≡ b) × (length b ≤ length (take i all)) = front_lines (is_enter k n) (take i all) b e in
        let within : length b ≤ i = omega (arith, h.1, length-take i all) in
        sees.held n r (length b) within
        ∙ (ap (read_of (λ x. content by n x (take (length b) all))) named
        ∙ ap (content by n d) (sym (take_take (length b) i all within) ∙ h.0))

-- ---- joins over the members

same_map : {A B : Type 0} (f g : A → B) → ((x : A) → f x ≡ g x) → (xs : List A) → map f xs ≡ map g xs
same_map {A} {B} f g h [] = refl
same_map {A} {B} f g h (x ∷ xs) = ap₂ (λ (y : B) (ys : List B). y ∷ ys) (h x) (same_map f g h xs)

pub joined_from : (by : Policy) (f : Member → Option Version) (ms : List Member) (start : Option Version) → fold (λ v m. join by v (f m)) start ms ≡ join by (join_all by (map f ms)) start
joined_from by f [] start = sym (none_join by start)
joined_from by f (m ∷ ms) start =
    joined_from by f ms (join by start (f m))
    ∙ (ap (join by (join_all by (map f ms))) (join_comm by start (f m))
    ∙ (sym (join_assoc by (join_all by (map f ms)) (f m) start)
    ∙ ap (λ (v : Option Version). join by v start) (join_comm by (join_all by (map f ms)) (f m))))

pub fold_reads : (by : Policy) (k : ClusterKey) (d : List ℕ) (j : List Line) (f : Member → Option Version) (ms : List Member) (start : Option Version)
    → ms ≡ members k j → ((m : Member) → f m ≡ entry by k m.id d j) → start ≡ applied_in by k d j
    → fold (λ v m. join by v (f m)) start ms ≡ fold_of by k d j
unfolding fold_of
fold_reads by k d j f ms start named told written =
    joined_from by f ms start
    ∙ ap₂ (join by) (ap (join_all by) (same_map f (λ m. entry by k m.id d j) told ms ∙ ap (map (λ (m : Member). entry by k m.id d j)) named)) written

-- ---- one member more

pub fold_step : (s : Judge) (vs : Versions) (x : View) (r : ℕ) (start : Option Version) (ms : List Member) (i : ℕ) (m : Member) (before after held : Option ℕ)
    → i < length ms → m ≡ get_or ms i m → vs.lines.now ≡ s.lines.now → vs.by ≡ s.by → held ≡ entry_place s x r m.id
    → placed s.lines.now before ≡ fold (λ v y. join s.by v (placed s.lines.now (entry_place s x r y.id))) start (take i ms)
    → placed vs.lines.now after ≡ join vs.by (placed vs.lines.now before) (placed vs.lines.now held)
    → placed s.lines.now after ≡ fold (λ v y. join s.by v (placed s.lines.now (entry_place s x r y.id))) start (take (i + 1) ms)
fold_step s vs x r start ms i m before after held within read lines policy held_is so_far joined =
    ap (λ (ls : List Line). placed ls after) (sym lines)
    ∙ (joined
    ∙ (ap (λ (by : Policy). join by (placed vs.lines.now before) (placed vs.lines.now held)) policy
    ∙ (ap (λ (ls : List Line). join s.by (placed ls before) (placed ls held)) lines
    ∙ (ap₂ (λ (v : Option Version) (h : Option ℕ). join s.by v (placed s.lines.now h)) so_far held_is
    ∙ (sym (fold-more (λ v y. join s.by v (placed s.lines.now (entry_place s x r y.id))) start (take i ms) m)
    ∙ ap (fold (λ v y. join s.by v (placed s.lines.now (entry_place s x r y.id))) start) (ap (λ (y : Member). take i ms ++ y ∷ []) read ∙ sym (take_more ms i m within)))))))

-- ---- the fold of a known view

-- the lines so far, and their policy
abbrev so_far : Judge → ℕ → List Line
so_far s i = take i s.lines.now

abbrev by_of : Judge → ℕ → Policy
by_of s i = policy_of (so_far s i)

pub fold_known : (s : Judge) (i : ℕ) (k : ClusterKey) (x : View) (r : ℕ) (d : List ℕ) → KnowsView s i k x → record_digest s.records r ≡ Some d → folded s (kept_view s k) r ≡ fold_of (by_of s i) k d (so_far s i)
fold_known s i k x r d known named =
    ap (λ (o : Option View). folded s o r) known.there
    ∙ (ap (λ (by : Policy). fold (λ v m. join by v (placed s.lines.now (entry_place s x r m.id))) (placed s.lines.now (hash.get nat_eq x.applied r)) x.members) known.knows.policy
    ∙ fold_reads (by_of s i) k d (so_far s i) (λ m. placed s.lines.now (entry_place s x r m.id)) x.members (placed s.lines.now (hash.get nat_eq x.applied r)) known.sees.members
    (λ m. ap (λ (o : Option ℕ). placed s.lines.now (option_and_then (λ a. value_after (history_of s.stores m.id r) a) o)) (known.sees.entered m.id)
    ∙ entered_at s.stores s.records s.lines.now (by_of s i) i known.knows.stores.contents k m.id r d named)
    (known.knows.stores.written.applied k x r known.there ∙ ap (read_of (λ e. applied_in (by_of s i) k e (so_far s i))) named))

-- no line brought a version of the record
pub fold_unknown : (s : Judge) (i : ℕ) (k : ClusterKey) (x : View) (d : List ℕ) → KnowsView s i k x → record_number s.records d ≡ None → None ≡ fold_of (by_of s i) k d (so_far s i)
fold_unknown s i k x d known e = sym (fold_of-none (by_of s i) k d (so_far s i) (known.knows.stores.records.unbrought d e))

-- and some did
pub fold_found : (s : Judge) (i : ℕ) (k : ClusterKey) (x : View) (d : List ℕ) (r : ℕ) (vs : Versions) (place : Option ℕ) (v : Option Version) → KnowsView s i k x → record_number s.records d ≡ Some r → vs.lines.now ≡ s.lines.now
    → placed s.lines.now place ≡ folded s (kept_view s k) r → v ≡ placed vs.lines.now place → v ≡ fold_of (by_of s i) k d (so_far s i)
fold_found s i k x d r vs place v known e lines said found =
    found ∙ (ap (λ (ls : List Line). placed ls place) lines ∙ (said ∙ fold_known s i k x r d known (known.knows.stores.records.numbered.digests d r e)))
