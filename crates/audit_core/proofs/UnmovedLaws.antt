-- Records that neither were written in a view nor changed at its members, of a partition that none of them had.
use Rattle.std.proofs.Common.{◌≡◌, ℕ, ◌==◌, Bool, true, false, ◌||◌, cond, List, [], ◌∷◌, Option, Some, None, refl, sym, ap, ap₂, subst, ◌∙◌}
use Rattle.std.specs.Prelude.{is_some, map, nat_eq}
use Rattle.std.specs.HashMap as hash
use Rattle.std.specs.List.{list_any, list_all, flat_map}
use Rattle.std.proofs.lemmas.Bool.{or_parts}
use Rattle.std.proofs.lemmas.List.Folds.{list_any-append}
use Rattle.conflict_order.specs.declared.policy.Policy.{Policy}
use Rattle.conflict_order.specs.declared.version.Version.{Version}
use Rattle.conflict_order.specs.Join.{join}
use Rattle.cluster_types.specs.ClusterKeys.{is_view_key}
use Rattle.cluster_types.specs.declared.cluster_key.ClusterKey.{ClusterKey}
use Rattle.cluster_types.specs.declared.member.Member.{Member}
use Rattle.cluster_types.specs.Members.{ids_of}
use Rattle.cluster_types.specs.Partitions.{partition_of}
use Rattle.journal_lines.specs.declared.line.Line.{Line}
use Rattle.journal_readings.specs.Contents.{content, holds_any, join_all}
use Rattle.journal_readings.specs.Entries.{entry, applied_in, fold_of}
use Rattle.journal_readings.specs.Lines.{has_node, is_enter, lines_before}
use Rattle.journal_readings.specs.Settings.{policy_of}
use Rattle.journal_readings.specs.Stamps.{entered_empty, is_empty_at_entry, is_empty_everywhere}
use Rattle.journal_readings.specs.Views.{view, members}
use Rattle.journal_readings.proofs.AlongLaws.{no_some}
use Rattle.journal_readings.proofs.CopyLaws.{no_record-empty, same_digest_itself}
use Rattle.journal_readings.proofs.Fronts.{and_left, and_right}
use Rattle.journal_readings.proofs.Unwritten.{content-none, fold_of-none}
use Rattle.audit_laws.proofs.ShapeSteps.{same_key_itself}
use Rattle.audit_laws.proofs.Tests.{differ, number_same}
use Rattle.audit_state.specs.declared.nodes.Node.{Node}
use Rattle.audit_state.specs.declared.views.View.{View}
use Rattle.audit_state.specs.Places.{placed}
use Rattle.audit_state.specs.Records.{record_number, record_digest}
use Rattle.audit_core.specs.declared.judge.Judge.{Judge}
use Rattle.audit_core.specs.Audits.{so_far}
use Rattle.audit_core.specs.Emptied.{written_list, stay_list, stay_in, members_in, moved_in}
use Rattle.audit_core.specs.Known.{node_at, view_in, view_at, kept_view}
use Rattle.audit_core.specs.Sees.{SeesStays, AllJoin}
use Rattle.audit_core.specs.Trying.{SeesLines, is_digest}
use Rattle.audit_core.proofs.BoundLaws.{has_entered_view, present_so}
use Rattle.audit_core.proofs.EnteredLaws.{entered_member, unless}

-- ---- lists

-- none that passes the test is among those of which none does
apart_from : (test : ℕ → Bool) (ns : List ℕ) (n : ℕ) → test n ≡ true → list_any test ns ≡ false → has_node ns n ≡ false
apart_from test [] n e h = refl
apart_from test (m ∷ ns) n e h =
    let parts : (test m ≡ false) × (list_any test ns ≡ false) = or_parts (test m) (list_any test ns) h in
    go (m == n) refl parts.0 (apart_from test ns n e parts.1)
  where
    go : (b : Bool) → (m == n) ≡ b → test m ≡ false → has_node ns n ≡ false → (b || has_node ns n) ≡ false
    go true i off rest = differ (subst (λ (z : ℕ). test z ≡ true) (sym (number_same m n i)) e) off
    go false i off rest = rest

-- what passes no test anywhere passes none of a member's
none_mapped : (test : ℕ → Bool) (f : ℕ → List ℕ) (ms : List Member) (n : ℕ) → has_node (ids_of ms) n ≡ true → list_any test (flat_map (λ m. f m.id) ms) ≡ false → list_any test (f n) ≡ false
none_mapped test f [] n e h = differ e refl
none_mapped test f (m ∷ ms) n e h =
    let parts : (list_any test (f m.id) ≡ false) × (list_any test (flat_map (λ x. f x.id) ms) ≡ false) =
    or_parts (list_any test (f m.id)) _ (sym (list_any-append test (f m.id) (flat_map (λ x. f x.id) ms)) ∙ h) in
    go (m.id == n) refl parts.0 (λ q. none_mapped test f ms n q parts.1) e
  where
    go : (b : Bool) → (m.id == n) ≡ b → list_any test (f m.id) ≡ false → (has_node (ids_of ms) n ≡ true → list_any test (f n) ≡ false) → (b || has_node (ids_of ms) n) ≡ true → list_any test (f n) ≡ false
    go true i first rest q = ap (λ (z : ℕ). list_any test (f z)) (sym (number_same m.id n i)) ∙ first
    go false i first rest q = rest q

all_members : (test : ℕ → Bool) (ms : List Member) (n : ℕ) → list_all (λ m. test m.id) ms ≡ true → has_node (ids_of ms) n ≡ true → test n ≡ true
all_members test [] n h e = differ e refl
all_members test (m ∷ ms) n h e = go (m.id == n) refl (all_members test ms n (and_right (test m.id) _ h)) e
  where
    go : (b : Bool) → (m.id == n) ≡ b → (has_node (ids_of ms) n ≡ true → test n ≡ true) → (b || has_node (ids_of ms) n) ≡ true → test n ≡ true
    go true i rest q = ap test (sym (number_same m.id n i)) ∙ and_left (test m.id) _ h
    go false i rest q = rest q

none_joined : (by : Policy) → join by None None ≡ None
unfolding join
none_joined by = refl

joined_none : (by : Policy) (test : ℕ → Bool) (f : ℕ → Option Version) → ((n : ℕ) → test n ≡ true → f n ≡ None) → (ms : List Member) → list_all (λ m. test m.id) ms ≡ true → join_all by (map (λ m. f m.id) ms) ≡ None
joined_none by test f h [] e = refl
joined_none by test f h (m ∷ ms) e =
    ap₂ (λ (v w : Option Version). join by v w) (h m.id (and_left (test m.id) _ e)) (joined_none by test f h ms (and_right (test m.id) _ e)) ∙ none_joined by

-- ---- copies that were empty

empty_entry : (by : Policy) (k : ClusterKey) (n p : ℕ) (d : List ℕ) (j : List Line) → partition_of d ≡ p → is_empty_at_entry k n p j ≡ true → entry by k n d j ≡ None
unfolding is_empty_at_entry entry
empty_entry by k n p d j part = go (lines_before (is_enter k n) j)
  where
    go : (o : Option (List Line)) → entered_empty n p o ≡ true → Rattle.std.specs.Prelude.option_and_then (λ before. content by n d before) o ≡ None
    go None e = differ e refl
    go (Some b) e = (no_record-empty by n p b).0 (unless (holds_any n p b) e) d part

module _ (s : Judge) (i : ℕ) (k : ClusterKey) (x : View) (p : ℕ) (d : List ℕ) (h : SeesLines s i) (stays : SeesStays s (so_far s i)) (there : kept_view s k ≡ Some x)
    (empty : is_empty_everywhere k p (so_far s i) ≡ true) (part : partition_of d ≡ p) (unmoved : list_any (λ r. is_digest (record_digest s.records r) d) (moved_in s k) ≡ false) where
  each_empty : list_all (λ m. is_empty_at_entry k m.id p (so_far s i)) (members k (so_far s i)) ≡ true
  unfolding is_empty_everywhere
  each_empty = empty

  unmoved_parts : (list_any (λ r. is_digest (record_digest s.records r) d) (written_list (kept_view s k)) ≡ false) × (list_any (λ r. is_digest (record_digest s.records r) d) (flat_map (λ m. stay_in s k m.id) (members_in (kept_view s k))) ≡ false)
  unmoved_parts = or_parts _ _ (sym (list_any-append (λ r. is_digest (record_digest s.records r) d) (written_list (kept_view s k)) (flat_map (λ m. stay_in s k m.id) (members_in (kept_view s k)))) ∙ unmoved)

  members_are : members_in (kept_view s k) ≡ members k (so_far s i)
  members_are = ap (λ (o : Option View). members_in o) there ∙ (h.frame.views k x there).members

  -- a record that was brought
  named : (r : ℕ) → record_digest s.records r ≡ Some d → is_digest (record_digest s.records r) d ≡ true
  named r e = ap (λ (o : Option (List ℕ)). is_digest o d) e ∙ same_digest_itself d

  unwritten : (r : ℕ) → record_digest s.records r ≡ Some d → applied_in (policy_of (so_far s i)) k d (so_far s i) ≡ None
  unwritten r e =
      let off : has_node x.written.items r ≡ false = subst (λ (o : Option View). has_node (written_list o) r ≡ false) there (apart_from _ (written_list (kept_view s k)) r (named r e) unmoved_parts.0) in
      sym (ap (Rattle.audit_core.specs.Stored.read_of (λ d. applied_in (policy_of (so_far s i)) k d (so_far s i))) e)
      ∙ (sym (h.stores.written.applied k x r there)
      ∙ ap (placed s.lines.now) (none (hash.get nat_eq x.applied r) (sym (h.stores.written.written k x r there) ∙ off)))
    where
      none : (o : Option ℕ) → is_some o ≡ false → o ≡ None
      none None q = refl
      none (Some a) q = differ refl q

  fold_none : (r : ℕ) → record_digest s.records r ≡ Some d → fold_of (policy_of (so_far s i)) k d (so_far s i) ≡ None
  unfolding fold_of
  fold_none r e = ap₂ (join (policy_of (so_far s i)))
      (joined_none (policy_of (so_far s i)) (λ n. is_empty_at_entry k n p (so_far s i)) (λ n. entry (policy_of (so_far s i)) k n d (so_far s i)) (λ n q. empty_entry (policy_of (so_far s i)) k n p d (so_far s i) part q) (members k (so_far s i)) each_empty)
      (unwritten r e) ∙ none_joined (policy_of (so_far s i))

  held_none : (r n : ℕ) → record_digest s.records r ≡ Some d → view n (so_far s i) ≡ Some k → content (policy_of (so_far s i)) n d (so_far s i) ≡ None
  held_none r n e in_view =
      let member : has_node (ids_of (members k (so_far s i))) n ≡ true = entered_member (so_far s i) k n h.shape (has_entered_view n k (so_far s i) in_view) in
      let off : list_any (λ r. is_digest (record_digest s.records r) d) (stay_in s k n) ≡ false =
      none_mapped (λ r. is_digest (record_digest s.records r) d) (stay_in s k) (members_in (kept_view s k)) n (subst (λ (ms : List Member). has_node (ids_of ms) n ≡ true) (sym members_are) member) unmoved_parts.1 in
      go (node_at s n) refl (present_so s i n h ∙ in_view) (apart_from _ (stay_in s k n) r (named r e) off)
      ∙ empty_entry (policy_of (so_far s i)) k n p d (so_far s i) part (all_members (λ n. is_empty_at_entry k n p (so_far s i)) (members k (so_far s i)) n each_empty member)
    where
      go : (o : Option Node) → node_at s n ≡ o → view_at s n ≡ Some k → has_node (stay_in s k n) r ≡ false → content (policy_of (so_far s i)) n d (so_far s i) ≡ entry (policy_of (so_far s i)) k n d (so_far s i)
      go None q present apart = absurd (no_some (sym (ap view_in q) ∙ present))
      go (Some node) q present apart =
          stays.unchanged n r node k d q (sym (ap view_in q) ∙ present) e
          (sym (ap (λ (b : Bool). has_node (cond b (stay_list (node_at s n)) []) r) (ap (λ (o : Option ClusterKey). is_view_key o k) present ∙ same_key_itself k)
          ∙ ap (λ (o : Option Node). has_node (stay_list o) r) q) ∙ apart)

  pub unmoved_joins : AllJoin k d (so_far s i)
  unmoved_joins = go (record_number s.records d) refl
    where
      go : (o : Option ℕ) → record_number s.records d ≡ o → AllJoin k d (so_far s i)
      go None e = λ n replica in_view. content-none (policy_of (so_far s i)) n d (so_far s i) (h.stores.records.unbrought d e) ∙ sym (fold_of-none (policy_of (so_far s i)) k d (so_far s i) (h.stores.records.unbrought d e))
      go (Some r) e = λ n replica in_view. held_none r n (h.stores.records.numbered.digests d r e) in_view ∙ sym (fold_none r (h.stores.records.numbered.digests d r e))
