-- What is known of the records that changed during a node's stay in its view, as one line more comes.
use Rattle.std.proofs.Common.{◌≡◌, ℕ, ◌==◌, Bool, true, false, ◌&&◌, List, [], ◌∷◌, ◌++◌, Option, Some, None, refl, sym, ap, subst, ◌∙◌}
use Rattle.std.specs.Prelude.{take, nat_eq, option_and_then, bytes_eq}
use Rattle.std.proofs.lemmas.Bool.{or_parts}
use Rattle.std.proofs.lemmas.List.Folds.{list_any-append}
use Rattle.conflict_order.specs.declared.policy.Policy.{Policy}
use Rattle.conflict_order.specs.declared.version.Version.{Version}
use Rattle.cluster_types.specs.declared.cluster_key.ClusterKey.{ClusterKey}
use Rattle.journal_lines.specs.declared.line.Line.{Line}
use Rattle.journal_readings.specs.Contents.{content, content_step, joined_if}
use Rattle.journal_readings.specs.Entries.{entry}
use Rattle.journal_readings.specs.Lines.{has_node, is_enter}
use Rattle.journal_readings.specs.Settings.{policy_of}
use Rattle.journal_readings.specs.Shape.{is_header}
use Rattle.journal_readings.proofs.AlongLaws.{no_some, some_same}
use Rattle.journal_readings.proofs.CopyLaws.{same_digest_is}
use Rattle.journal_readings.proofs.StepLaws.{content-more}
use Rattle.journal_readings.proofs.Unwritten.{content-none, entry-none}
use Rattle.audit_laws.specs.Fits.{enters_key}
use Rattle.audit_laws.proofs.Headers.{policy_stays}
use Rattle.audit_laws.proofs.MapSteps.{enters}
use Rattle.audit_laws.proofs.Quiet.{lines_before-other}
use Rattle.audit_laws.proofs.Tests.{differ, number_same, number_here}
use Rattle.audit_core.specs.declared.judge.Judge.{Judge}
use Rattle.audit_state.specs.declared.nodes.Node.{Node}
use Rattle.audit_state.specs.Records.{record_number, record_digest, AreNumberedRecords, Opens}
use Rattle.audit_core.specs.Frames.{Both}
use Rattle.audit_core.specs.Known.{node_at}
use Rattle.audit_core.specs.Sees.{SeesStays}
use Rattle.audit_core.specs.Steps.{ChangesNode, HasClock, HasView, HasChanged}
use Rattle.audit_core.specs.Stored.{Knows}
use Rattle.audit_core.specs.Trying.{KeepsKnown}
use Rattle.audit_core.proofs.OpenLaws.{number_kept}
use Rattle.audit_core.proofs.StillLaws.{IsStill}
use Rattle.audit_core.proofs.WordLaws.{both_same, changed_nodes}

-- ---- the same stays

-- a node that is in a view was in it, and no record of its stay left it
pub record KeepsStay (old new : Node) : Type 0 where
  pub kept : (k : ClusterKey) → new.view ≡ Some k → (old.view ≡ Some k) × ((r : ℕ) → has_node new.stay.items r ≡ false → has_node old.stay.items r ≡ false)

pub record SameStays (old new : Judge) : Type 0 where
  pub nodes : (n : ℕ) → Both KeepsStay (node_at old n) (node_at new n)
  pub digests : (r : ℕ) → record_digest new.records r ≡ record_digest old.records r

pub keeps_stay : (x : Node) → KeepsStay x x
keeps_stay x = record { kept = λ k e. (e, λ r h. h) }

pub node_before : (R : Node → Node → Type 0) (o q : Option Node) (y : Node) → Both R o q → q ≡ Some y → (x : Node) × (o ≡ Some x) × R x y
node_before R None None y h e = absurd (no_some e)
node_before R (Some a) (Some b) y h e = (a, refl, subst (R a) (some_same e) h)
node_before R None (Some b) y h e = absurd h
node_before R (Some a) None y h e = absurd h

pub stays_same : (old new : Judge) (j : List Line) → SameStays old new → SeesStays old j → SeesStays new j
stays_same old new j same h = record {
  unchanged = λ n r y k d e in_view named apart.
      let x : (x : Node) × (node_at old n ≡ Some x) × KeepsStay x y = node_before KeepsStay (node_at old n) (node_at new n) y (same.nodes n) e in
      h.unchanged n r x.0 k d x.1 (x.2.kept k in_view).0 (sym (same.digests r) ∙ named) ((x.2.kept k in_view).1 r apart);
}

-- the nodes are as they were
pub nodes_same : (old new : Judge) → ((n : ℕ) → node_at new n ≡ node_at old n) → ((r : ℕ) → record_digest new.records r ≡ record_digest old.records r) → SameStays old new
nodes_same old new nodes digests = record { nodes = λ n. both_same KeepsStay keeps_stay (node_at old n) (node_at new n) (nodes n); digests = digests }

pub stays_tried : (old new : Judge) → KeepsKnown old new → SameStays old new
stays_tried old new keeps = nodes_same old new (λ n. ap (λ (s : Judge). node_at s n) keeps.rest) (λ r. ap (λ (s : Judge). record_digest s.records r) keeps.rest)

-- one node is otherwise
moved_stays : (R : Node → Node → Type 0) (n : ℕ) (old new : Judge) → ((a b : Node) → R a b → KeepsStay a b) → ChangesNode R n old new → SameStays old new
moved_stays R n old new f c = record {
  nodes = changed_nodes R n old new c (λ m. KeepsStay) f (λ m a e. keeps_stay a);
  digests = λ r. ap (λ (s : Judge). record_digest s.records r) c.rest;
}

pub clock_stays : (n time : ℕ) (old new : Judge) → ChangesNode (HasClock time) n old new → SameStays old new
clock_stays n time old new c = moved_stays (HasClock time) n old new (λ a b h. record {
  kept = λ k e. (sym (ap (λ (x : Node). x.view) h.rest) ∙ e, λ r f. ap (λ (x : Node). has_node x.stay.items r) (sym h.rest) ∙ f);
}) c

pub stop_stays : (n : ℕ) (old new : Judge) → ChangesNode (HasView None) n old new → SameStays old new
stop_stays n old new c = moved_stays (HasView None) n old new (λ a b h. record { kept = λ k e. absurd (no_some (sym h.view ∙ e)) }) c

-- ---- one line more

unentered : (k : ClusterKey) (n : ℕ) (l : Line) → enters_key k l ≡ false → is_enter k n l ≡ false
unentered k n l e = go (is_enter k n l) refl
  where
    go : (b : Bool) → is_enter k n l ≡ b → b ≡ false
    go true i = differ (enters k n l i) e
    go false i = refl

entry_left : (by : Policy) (k : ClusterKey) (n : ℕ) (d : List ℕ) (j : List Line) (l : Line) → enters_key k l ≡ false → entry by k n d (j ++ l ∷ []) ≡ entry by k n d j
unfolding entry
entry_left by k n d j l e = ap (option_and_then (λ before. content by n d before)) (lines_before-other (is_enter k n) j l (unentered k n l e))

-- what the node holds of the record is what it held as it entered, also behind the line
pub unchanged_next : (k : ClusterKey) (n : ℕ) (d : List ℕ) (j : List Line) (l : Line) → is_header l ≡ false → enters_key k l ≡ false
    → content_step (policy_of j) n d (content (policy_of j) n d j) l ≡ content (policy_of j) n d j → content (policy_of j) n d j ≡ entry (policy_of j) k n d j
    → content (policy_of (j ++ l ∷ [])) n d (j ++ l ∷ []) ≡ entry (policy_of (j ++ l ∷ [])) k n d (j ++ l ∷ [])
unchanged_next k n d j l event enters step h =
    ap (λ (by : Policy). content by n d (j ++ l ∷ [])) (policy_stays j l event)
    ∙ (content-more (policy_of j) n d j l
    ∙ (step
    ∙ (h
    ∙ (sym (entry_left (policy_of j) k n d j l enters)
    ∙ ap (λ (by : Policy). entry by k n d (j ++ l ∷ [])) (sym (policy_stays j l event))))))

-- a line by which nothing that nodes hold changes, and nobody enters a view
pub stays_left : (s : Judge) (j : List Line) (l : Line) → is_header l ≡ false → ((k : ClusterKey) → enters_key k l ≡ false) → ((by : Policy) (n : ℕ) (d : List ℕ) (x : Option Version) → content_step by n d x l ≡ x)
    → SeesStays s j → SeesStays s (j ++ l ∷ [])
stays_left s j l event enters contents h = record {
  unchanged = λ n r x k d e in_view named apart. unchanged_next k n d j l event (enters k) (contents (policy_of j) n d (content (policy_of j) n d j)) (h.unchanged n r x k d e in_view named apart);
}

pub stays_still : (s : Judge) (j : List Line) (l : Line) → IsStill l → is_header l ≡ false → SeesStays s j → SeesStays s (j ++ l ∷ [])
stays_still s j l still event h = stays_left s j l event still.enters still.contents h

-- ---- a version comes to a node

none_of_both : (a b : Bool) → (a && b) ≡ false → (by : Policy) (x : Option Version) (v : Version) → joined_if (a && b) by x v ≡ x
none_of_both a b e by x v = ap (λ (c : Bool). joined_if c by x v) e

apart_right : (a b : Bool) → b ≡ false → (a && b) ≡ false
apart_right true b e = e
apart_right false b e = refl

apart_left : (a b : Bool) → a ≡ false → (a && b) ≡ false
apart_left true b e = differ refl e
apart_left false b e = refl

pub stays_brought : (old new : Judge) (j : List Line) (l : Line) (n r : ℕ) (d : List ℕ) (v : Version) → is_header l ≡ false → ((k : ClusterKey) → enters_key k l ≡ false)
    → ((by : Policy) (m : ℕ) (e : List ℕ) (x : Option Version) → content_step by m e x l ≡ joined_if ((n == m) && bytes_eq d e) by x v)
    → AreNumberedRecords old.records → record_digest old.records r ≡ Some d → ChangesNode (HasChanged r) n old new → SeesStays old j → SeesStays new (j ++ l ∷ [])
stays_brought old new j l n r d v event enters step numbered named c h = record {
  unchanged = λ m q y k e there in_view is apart. at m q y k e there in_view (sym (ap (λ (s : Judge). record_digest s.records q) c.rest) ∙ is) apart (n == m) refl;
}
  where
    -- the record is another
    other : (q : ℕ) (e : List ℕ) → record_digest old.records q ≡ Some e → nat_eq r q ≡ false → bytes_eq d e ≡ false
    other q e is f = go (bytes_eq d e) refl
      where
        go : (b : Bool) → bytes_eq d e ≡ b → b ≡ false
        go false g = refl
        go true g =
            let same : record_number old.records e ≡ Some r = ap (record_number old.records) (sym (same_digest_is d e g)) ∙ numbered.numbers d r named in
            differ (subst (λ (z : ℕ). nat_eq r z ≡ true) (some_same (sym same ∙ numbered.numbers e q is)) (number_here r)) f

    at : (m q : ℕ) (y : Node) (k : ClusterKey) (e : List ℕ) → node_at new m ≡ Some y → y.view ≡ Some k → record_digest old.records q ≡ Some e → has_node y.stay.items q ≡ false → (b : Bool) → (n == m) ≡ b
        → content (policy_of (j ++ l ∷ [])) m e (j ++ l ∷ []) ≡ entry (policy_of (j ++ l ∷ [])) k m e (j ++ l ∷ [])
    at m q y k e there in_view is apart false f =
        unchanged_next k m e j l event (enters k) (step (policy_of j) m e (content (policy_of j) m e j) ∙ none_of_both (n == m) (bytes_eq d e) (apart_left (n == m) (bytes_eq d e) f) (policy_of j) (content (policy_of j) m e j) v)
        (h.unchanged m q y k e (sym (c.others m f) ∙ there) in_view is apart)
    at m q y k e there in_view is apart true f =
        let here : node_at new n ≡ Some y = ap (node_at new) (number_same n m f) ∙ there in
        let x : (x : Node) × (node_at old n ≡ Some x) × HasChanged r x y = node_before (HasChanged r) (node_at old n) (node_at new n) y c.here here in
        let parts : (has_node x.0.stay.items q ≡ false) × (has_node (r ∷ []) q ≡ false) = or_parts (has_node x.0.stay.items q) (has_node (r ∷ []) q)
        (sym (list_any-append (λ (z : ℕ). z == q) x.0.stay.items (r ∷ [])) ∙ (ap (λ (rs : List ℕ). has_node rs q) (sym x.2.stay) ∙ apart)) in
        unchanged_next k m e j l event (enters k)
        (step (policy_of j) m e (content (policy_of j) m e j) ∙ none_of_both (n == m) (bytes_eq d e) (apart_right (n == m) (bytes_eq d e) (other q e is (or_parts (r == q) false parts.1).0)) (policy_of j) (content (policy_of j) m e j) v)
        (h.unchanged m q x.0 k e (ap (node_at old) (sym (number_same n m f)) ∙ x.1) (sym x.2.same.view ∙ in_view) is parts.0)

-- ---- a record is opened

pub stays_open : (old opened : Judge) (i r : ℕ) (d : List ℕ) → Opens old.records opened.records d r → AreNumberedRecords opened.records → Knows old i → record opened { records = old.records } ≡ old
    → SeesStays old (take i old.lines.now) → SeesStays opened (take i old.lines.now)
stays_open old opened i r d opens numbered knows rest h = record {
  unchanged = λ n q x k e there in_view is apart. go n q x k e (sym (ap (λ (s : Judge). node_at s n) rest) ∙ there) in_view is apart (record_number old.records e) refl;
}
  where
    j : List Line
    j = take i old.lines.now

    go : (n q : ℕ) (x : Node) (k : ClusterKey) (e : List ℕ) → node_at old n ≡ Some x → x.view ≡ Some k → record_digest opened.records q ≡ Some e → has_node x.stay.items q ≡ false → (o : Option ℕ) → record_number old.records e ≡ o → content (policy_of j) n e j ≡ entry (policy_of j) k n e j
    go n q x k e there in_view is apart None none =
        content-none (policy_of j) n e j (knows.stores.records.unbrought e none) ∙ sym (entry-none (policy_of j) k n e j (knows.stores.records.unbrought e none))
    go n q x k e there in_view is apart (Some z) some =
        let same : z ≡ q = some_same (sym (number_kept old.records opened.records d r opens knows.stores.records.numbered numbered e z some) ∙ numbered.numbers e q is) in
        h.unchanged n q x k e there in_view (subst (λ (y : ℕ). record_digest old.records y ≡ Some e) same (knows.stores.records.numbered.digests e z some)) apart
