-- What is known of records, and of what was written in views, as a line brings a version.
use Rattle.std.proofs.Common.{◌≡◌, ℕ, suc, Bool, true, false, ◌&&◌, ◌||◌, cond, List, [], ◌∷◌, Option, Some, None, refl, sym, ap, subst, ◌∙◌, is_some}
use Rattle.std.specs.Prelude.{take, slice_get, nat_eq, bytes_eq}
use Rattle.std.specs.List.{list_any, count_by}
use Rattle.std.proofs.lemmas.List.Folds.{list_any-append}
use Rattle.conflict_order.specs.declared.policy.Policy.{Policy}
use Rattle.conflict_order.specs.declared.version.Version.{Version}
use Rattle.conflict_order.specs.Join.{join, AtMost}
use Rattle.cluster_types.specs.declared.cluster_key.ClusterKey.{ClusterKey}
use Rattle.journal_lines.specs.declared.line.Line.{Line}
use Rattle.journal_lines.specs.declared.line.Line.TheVariants as line
use Rattle.journal_readings.specs.Lines.{same_key, has_node}
use Rattle.journal_readings.specs.Contents.{applied, joined_if}
use Rattle.journal_readings.specs.Entries.{applied_in}
use Rattle.journal_readings.proofs.AlongLaws.{some_same, no_some}
use Rattle.journal_readings.proofs.CopyLaws.{same_digest_is, same_digest_itself}
use Rattle.journal_readings.proofs.StepLaws.{applied-more, applied_in-more}
use Rattle.audit_laws.proofs.Tests.{differ, number_same, number_here}
use Rattle.audit_core.specs.declared.judge.Judge.{Judge}
use Rattle.audit_state.specs.declared.records.Records.{Records}
use Rattle.audit_core.specs.Bringing.{IsBrought}
use Rattle.audit_core.specs.Holders.{content_now, holds_top, holds_newest, AreHoldersCounted}
use Rattle.audit_state.specs.Places.{placed, placed_version, is_at_most}
use Rattle.audit_state.specs.Records.{record_number, record_digest, newest_of, holders_of, AreNumberedRecords, is_at_most_newest, raised, raised_holders}
use Rattle.audit_core.specs.Stored.{brings, read_of}
use Rattle.audit_core.proofs.ContentLaws.{take_next}
use Rattle.audit_core.proofs.HolderLaws.{none_yet, count_same}
use Rattle.audit_state.proofs.PlaceLaws.{join_first, join_second}

-- ---- the lines

any_next : (test : Line → Bool) (all : List Line) (i : ℕ) (l : Line) → slice_get all i ≡ Some l → list_any test (take i all) ≡ false → test l ≡ false → list_any test (take (suc i) all) ≡ false
any_next test all i l here e f = ap (list_any test) (take_next all i l here) ∙ (list_any-append test (take i all) (l ∷ []) ∙ (ap (λ (b : Bool). b || (test l || false)) e ∙ ap (λ (b : Bool). b || false) f))

brings_it : (l : Line) (n : ℕ) (d : List ℕ) (v : Version) (e : List ℕ) → IsBrought l n d v → brings e l ≡ bytes_eq d e
brings_it (line.Apply m k t f w) n d v e h = ap (λ (x : List ℕ). bytes_eq x e) h.1
brings_it (line.Merge m k f w) n d v e h = ap (λ (x : List ℕ). bytes_eq x e) h.1
brings_it l n d v e h = absurd h

-- another record has another digest
pub apart_digest : (rs : Records) (r q : ℕ) (d e : List ℕ) → AreNumberedRecords rs → record_digest rs r ≡ Some d → record_digest rs q ≡ Some e → nat_eq r q ≡ false → bytes_eq d e ≡ false
apart_digest rs r q d e numbered named other apart = go (bytes_eq d e) refl
  where
    go : (b : Bool) → bytes_eq d e ≡ b → b ≡ false
    go false i = refl
    go true i = differ (subst (λ (x : ℕ). nat_eq r x ≡ true) (some_same (sym (numbered.numbers d r named) ∙ numbered.numbers d q (other ∙ ap Some (sym (same_digest_is d e i))))) (number_here r)) apart

-- no line brought what has no number yet
pub unbrought_next : (rs : Records) (all : List Line) (i n r : ℕ) (l : Line) (d : List ℕ) (v : Version) → slice_get all i ≡ Some l → IsBrought l n d v → AreNumberedRecords rs → record_digest rs r ≡ Some d
    → (e : List ℕ) → record_number rs e ≡ None → list_any (brings e) (take i all) ≡ false → list_any (brings e) (take (suc i) all) ≡ false
unbrought_next rs all i n r l d v here brought numbered named e none before = any_next (brings e) all i l here before (brings_it l n d v e brought ∙ go (bytes_eq d e) refl)
  where
    go : (b : Bool) → bytes_eq d e ≡ b → b ≡ false
    go false q = refl
    go true q = absurd (no_some (sym none ∙ (ap (record_number rs) (sym (same_digest_is d e q)) ∙ numbered.numbers d r named)))

-- ---- the newest version

-- the place that is kept has the join
pub raised_joins : (by : Policy) (all : List Line) (i : ℕ) (v : Version) (o : Option ℕ) → placed_version all i ≡ Some v → placed all (raised by all i o) ≡ join by (placed all o) (Some v)
raised_joins by all i v o stands = go (is_at_most_newest by all i o) refl
  where
    go : (b : Bool) → is_at_most_newest by all i o ≡ b → placed all (cond b o (Some i)) ≡ join by (placed all o) (Some v)
    go true e = join_first by (placed all o) (Some v) (ap (λ (x : Option Version). is_at_most by x (placed all o)) (sym stands) ∙ e)
    go false e = stands ∙ join_second by (placed all o) (Some v) (ap (λ (x : Option Version). is_at_most by x (placed all o)) (sym stands) ∙ e)

pub raised_some : (by : Policy) (all : List Line) (i : ℕ) (v : Version) (o : Option ℕ) → placed_version all i ≡ Some v → is_some (raised by all i o) ≡ true
raised_some by all i v None stands = ap (λ (x : Option Version). is_some (cond (is_at_most by x None) None (Some i))) stands
raised_some by all i v (Some place) stands = go (is_at_most_newest by all i (Some place))
  where
    go : (b : Bool) → is_some (cond b (Some place) (Some i)) ≡ true
    go true = refl
    go false = refl

-- what is read joins the version at this record alone
pub joined_reads : (rs : Records) (all : List Line) (by : Policy) (i r : ℕ) (d : List ℕ) (v : Version) (before after : List ℕ → Option Version) (old new : ℕ → Option ℕ) → AreNumberedRecords rs → record_digest rs r ≡ Some d → placed_version all i ≡ Some v
    → ((e : List ℕ) → after e ≡ joined_if (bytes_eq d e) by (before e) v)
    → ((q : ℕ) → placed all (old q) ≡ read_of before (record_digest rs q))
    → ((q : ℕ) → new q ≡ cond (nat_eq r q) (raised by all i (old r)) (old q))
    → (q : ℕ) → placed all (new q) ≡ read_of after (record_digest rs q)
joined_reads rs all by i r d v before after old new numbered named stands step told raises q = ap (placed all) (raises q) ∙ go (nat_eq r q) refl
  where
    here : placed all (raised by all i (old r)) ≡ read_of after (record_digest rs r)
    here = raised_joins by all i v (old r) stands
        ∙ (ap (λ (o : Option Version). join by o (Some v)) (told r ∙ ap (read_of before) named)
        ∙ sym (ap (read_of after) named ∙ (step d ∙ ap (λ (b : Bool). joined_if b by (before d) v) (same_digest_itself d))))

    same : (o : Option (List ℕ)) → record_digest rs q ≡ o → nat_eq r q ≡ false → read_of before o ≡ read_of after o
    same None e f = refl
    same (Some x) e f = sym (step x ∙ ap (λ (b : Bool). joined_if b by (before x) v) (apart_digest rs r q d x numbered named e f))

    go : (b : Bool) → nat_eq r q ≡ b → placed all (cond b (raised by all i (old r)) (old q)) ≡ read_of after (record_digest rs q)
    go true e = subst (λ (x : ℕ). placed all (raised by all i (old r)) ≡ read_of after (record_digest rs x)) (number_same r q e) here
    go false e = told q ∙ same (record_digest rs q) refl e

pub applied_next : (by : Policy) (all : List Line) (i n t : ℕ) (k : ClusterKey) (d : List ℕ) (v : Version) → slice_get all i ≡ Some (line.Apply n k t d v) → (e : List ℕ)
    → applied by e (take (suc i) all) ≡ joined_if (bytes_eq d e) by (applied by e (take i all)) v
applied_next by all i n t k d v here e = ap (applied by e) (take_next all i (line.Apply n k t d v) here) ∙ applied-more by e (take i all) (line.Apply n k t d v)

pub applied_in_next : (by : Policy) (all : List Line) (i n t : ℕ) (k : ClusterKey) (d : List ℕ) (v : Version) → slice_get all i ≡ Some (line.Apply n k t d v) → (l : ClusterKey) (e : List ℕ)
    → applied_in by l e (take (suc i) all) ≡ joined_if (same_key k l && bytes_eq d e) by (applied_in by l e (take i all)) v
applied_in_next by all i n t k d v here l e = ap (applied_in by l e) (take_next all i (line.Apply n k t d v) here) ∙ applied_in-more by l e (take i all) (line.Apply n k t d v)

pub merged_next : (by : Policy) (all : List Line) (i n : ℕ) (k : ClusterKey) (d : List ℕ) (v : Version) → slice_get all i ≡ Some (line.Merge n k d v) → (e : List ℕ) → applied by e (take (suc i) all) ≡ applied by e (take i all)
merged_next by all i n k d v here e = ap (applied by e) (take_next all i (line.Merge n k d v) here) ∙ applied-more by e (take i all) (line.Merge n k d v)

pub merged_in_next : (by : Policy) (all : List Line) (i n : ℕ) (k : ClusterKey) (d : List ℕ) (v : Version) → slice_get all i ≡ Some (line.Merge n k d v) → (l : ClusterKey) (e : List ℕ) → applied_in by l e (take (suc i) all) ≡ applied_in by l e (take i all)
merged_in_next by all i n k d v here l e = ap (applied_in by l e) (take_next all i (line.Merge n k d v) here) ∙ applied_in-more by l e (take i all) (line.Merge n k d v)

-- ---- who holds the newest version, as one is applied

module _ (s : Judge) (rs : Records) (i r : ℕ) (v : Version) (ns : List ℕ) (stands : placed_version s.lines.now i ≡ Some v) (counts : AreHoldersCounted s ns)
    (newest : (q : ℕ) → newest_of rs q ≡ cond (nat_eq r q) (raised s.by s.lines.now i (newest_of s.records r)) (newest_of s.records q))
    (holders : (q : ℕ) → holders_of rs q ≡ cond (nat_eq r q) (raised_holders s.by s.lines.now i (newest_of s.records r) (holders_of s.records r)) (holders_of s.records q))
    (under : (m : ℕ) → has_node ns m ≡ true → AtMost s.by (placed s.lines.now (content_now s m r)) (placed s.lines.now (newest_of s.records r))) where
  holds_as : (o : Option ℕ) (m q : ℕ) → newest_of rs q ≡ o → holds_newest (record s { records = rs }) m q ≡ holds_top s.by (placed s.lines.now o) (placed s.lines.now (content_now s m q))
  holds_as o m q e = ap (λ (x : Option ℕ). holds_top s.by (placed s.lines.now x) (placed s.lines.now (content_now s m q))) e

  here_at : (b : Bool) → is_at_most_newest s.by s.lines.now i (newest_of s.records r) ≡ b
      → cond b (holders_of s.records r) 0 ≡ count_by (λ m. holds_top s.by (placed s.lines.now (cond b (newest_of s.records r) (Some i))) (placed s.lines.now (content_now s m r))) ns
  here_at true e = counts r
  here_at false e = sym (
      ap (λ (o : Option Version). count_by (λ m. holds_top s.by o (placed s.lines.now (content_now s m r))) ns) stands
      ∙ none_yet s.by (λ m. placed s.lines.now (content_now s m r)) (placed s.lines.now (newest_of s.records r)) v ns under (ap (λ (o : Option Version). is_at_most s.by o (placed s.lines.now (newest_of s.records r))) (sym stands) ∙ e))

  pub counted_raised : AreHoldersCounted (record s { records = rs }) ns
  counted_raised q = holders q ∙ go (nat_eq r q) refl
    where
      go : (b : Bool) → nat_eq r q ≡ b → cond b (raised_holders s.by s.lines.now i (newest_of s.records r) (holders_of s.records r)) (holders_of s.records q) ≡ count_by (λ m. holds_newest (record s { records = rs }) m q) ns
      go true e = subst (λ (x : ℕ). raised_holders s.by s.lines.now i (newest_of s.records r) (holders_of s.records r) ≡ count_by (λ m. holds_newest (record s { records = rs }) m x) ns) (number_same r q e)
          (here_at (is_at_most_newest s.by s.lines.now i (newest_of s.records r)) refl
          ∙ count_same (λ m. holds_top s.by (placed s.lines.now (raised s.by s.lines.now i (newest_of s.records r))) (placed s.lines.now (content_now s m r))) (λ m. holds_newest (record s { records = rs }) m r) ns
          (λ m h. sym (holds_as (raised s.by s.lines.now i (newest_of s.records r)) m r (newest r ∙ ap (λ (b : Bool). cond b (raised s.by s.lines.now i (newest_of s.records r)) (newest_of s.records r)) (number_here r)))))
      go false e = counts q ∙ count_same (λ m. holds_newest s m q) (λ m. holds_newest (record s { records = rs }) m q) ns
          (λ m h. sym (holds_as (newest_of s.records q) m q (newest q ∙ ap (λ (b : Bool). cond b (raised s.by s.lines.now i (newest_of s.records r)) (newest_of s.records q)) e)))
