-- What is tried of a line that may lose a version is what the law asks of it.
use Rattle.std.proofs.Common.{◌≡◌, ℕ, ◌==◌, Bool, true, false, not, ◌&&◌, ◌||◌, List, [], ◌∷◌, Option, Some, None, option_map, ◌⊎◌, ◌↔◌, inl, inr, refl, sym, ap, ap₂, subst, ◌∙◌, arith, is_some}
use Rattle.std.specs.Prelude.{map, filter, take, nat_eq, nat_lt, IsTrue}
use Rattle.std.specs.Option.{option_eq}
use Rattle.std.specs.List.{list_all, count_by}
use Rattle.std.proofs.lemmas.Bool.{or_left, or_right, and_from, cases_Bool}
use Rattle.conflict_order.specs.declared.policy.Policy.{Policy}
use Rattle.conflict_order.specs.declared.version.Version.{Version}
use Rattle.cluster_types.specs.declared.cluster_key.ClusterKey.{ClusterKey}
use Rattle.cluster_types.specs.Distinct.{AreDistinct}
use Rattle.cluster_types.specs.Partitions.{partition_of}
use Rattle.journal_lines.specs.declared.line.Line.{Line}
use Rattle.journal_lines.specs.declared.line.Line.TheVariants as line
use Rattle.journal_readings.specs.Lines.{has_node}
use Rattle.journal_readings.specs.Settings.{policy_of, nodes}
use Rattle.journal_readings.specs.Contents.{content, applied, join_all}
use Rattle.journal_readings.specs.Claims.{NoLoss}
use Rattle.journal_readings.proofs.AlongLaws.{some_same, no_some}
use Rattle.journal_readings.proofs.Fronts.{and_left, and_right}
use Rattle.journal_readings.proofs.Unwritten.{content-none, applied-none, join_all-none}
use Rattle.audit_laws.specs.Fits.{LosesNothing, newest_elsewhere}
use Rattle.audit_laws.proofs.Places.{whole}
use Rattle.audit_laws.proofs.Tests.{differ, number_same, number_here}
use Rattle.audit_core.specs.declared.judge.Judge.{Judge}
use Rattle.audit_state.specs.declared.versions.Versions.{Versions}
use Rattle.audit_core.specs.Holders.{content_now, holds_top, holds_newest, is_held_elsewhere}
use Rattle.audit_state.specs.Places.{placed, placed_version, is_at_most}
use Rattle.audit_state.specs.Records.{record_number, record_digest, newest_of, holders_of}
use Rattle.audit_state.specs.Stores.{history_of, held_of}
use Rattle.audit_core.specs.Stored.{SeesRecords, SeesContents, SeesCopies, Knows, read_of}
use Rattle.audit_state.proofs.HistoryLaws.{now_at}
use Rattle.audit_core.proofs.HolderLaws.{held_elsewhere, count_same}
use Rattle.audit_state.proofs.PlaceLaws.{at_most_is, at_most_so, none_at_most}
use Rattle.conflict_order.proofs.OrderLaws.{AtMost_eq}
use Rattle.audit_state.specs.Histories.{value_after}
use Rattle.audit_core.specs.Trying.{covers_record}

all_at : (f : ℕ → Bool) (xs : List ℕ) (r : ℕ) → list_all f xs ≡ true → has_node xs r ≡ true → f r ≡ true
all_at f [] r h e = differ e refl
all_at f (x ∷ xs) r h e = go (x == r) refl e (λ q. all_at f xs r (and_right (f x) _ h) q)
  where
    go : (b : Bool) → (x == r) ≡ b → (b || has_node xs r) ≡ true → (has_node xs r ≡ true → f r ≡ true) → f r ≡ true
    go true i q more = ap f (sym (number_same x r i)) ∙ and_left (f x) _ h
    go false i q more = more q

all_from : (f : ℕ → Bool) (xs : List ℕ) → ((r : ℕ) → has_node xs r ≡ true → f r ≡ true) → list_all f xs ≡ true
all_from f [] h = refl
all_from f (x ∷ xs) h = and_from (f x) _ (h x (or_left (x == x) _ (number_here x))) (all_from f xs (λ r e. h r (or_right (x == r) _ e)))

-- the lines so far, and their policy
abbrev so_far : Judge → ℕ → List Line
so_far s i = take i s.lines.now

abbrev by_of : Judge → ℕ → Policy
by_of s i = policy_of (so_far s i)

module _ (s : Judge) (i : ℕ) (records : SeesRecords s s.lines.now (so_far s i)) (contents : SeesContents s.stores s.records s.lines.now (by_of s i) i) (policy : s.by ≡ by_of s i) where
  -- what a node holds now
  pub held_now : (n r : ℕ) (d : List ℕ) → record_digest s.records r ≡ Some d → placed s.lines.now (content_now s n r) ≡ content (by_of s i) n d (so_far s i)
  held_now n r d e = ap (placed s.lines.now) (now_at (history_of s.stores n r) i (contents.below n r))
      ∙ (contents.held n r i (omega arith) ∙ ap (read_of (λ e. content (by_of s i) n e (so_far s i))) e)

  pub newest_now : (r : ℕ) (d : List ℕ) → record_digest s.records r ≡ Some d → placed s.lines.now (newest_of s.records r) ≡ applied (by_of s i) d (so_far s i)
  newest_now r d e = records.newest r ∙ ap (read_of (λ e. applied (by_of s i) e (so_far s i))) e

  pub holds_now : (n r : ℕ) (d : List ℕ) → record_digest s.records r ≡ Some d
      → holds_newest s n r ≡ holds_top (by_of s i) (applied (by_of s i) d (so_far s i)) (content (by_of s i) n d (so_far s i))
  holds_now n r d e = ap (λ (by : Policy). holds_top by (placed s.lines.now (newest_of s.records r)) (placed s.lines.now (content_now s n r))) policy
      ∙ ap₂ (holds_top (by_of s i)) (newest_now r d e) (held_now n r d e)

  module _ (copies : SeesCopies s.stores s.records s.lines.now i) (n p : ℕ) (kept : (d : List ℕ) → join_all (by_of s i) (map (λ m. content (by_of s i) m d (so_far s i)) (nodes (so_far s i))) ≡ applied (by_of s i) d (so_far s i))
      (distinct : AreDistinct (nodes (so_far s i))) (declared : has_node (nodes (so_far s i)) n ≡ true) where
    tried : (r : ℕ) (d : List ℕ) → record_digest s.records r ≡ Some d
        → is_held_elsewhere s n r ≡ (not (holds_top (by_of s i) (applied (by_of s i) d (so_far s i)) (content (by_of s i) n d (so_far s i)))
        || nat_lt 1 (count_by (λ m. holds_top (by_of s i) (applied (by_of s i) d (so_far s i)) (content (by_of s i) m d (so_far s i))) (nodes (so_far s i))))
    tried r d e = ap₂ (λ (b : Bool) (c : ℕ). not b || nat_lt 1 c) (holds_now n r d e)
        (records.holders r ∙ count_same (λ m. holds_newest s m r) (λ m. holds_top (by_of s i) (applied (by_of s i) d (so_far s i)) (content (by_of s i) m d (so_far s i))) (nodes (so_far s i)) (λ m q. holds_now m r d e))

    elsewhere : (r : ℕ) (d : List ℕ) → record_digest s.records r ≡ Some d → (newest_elsewhere (so_far s i) n d ≡ applied (by_of s i) d (so_far s i)) ↔ IsTrue (is_held_elsewhere s n r)
    elsewhere r d e =
        let x : (newest_elsewhere (so_far s i) n d ≡ applied (by_of s i) d (so_far s i)) ↔ IsTrue (not (holds_top (by_of s i) (applied (by_of s i) d (so_far s i)) (content (by_of s i) n d (so_far s i)))
        || nat_lt 1 (count_by (λ m. holds_top (by_of s i) (applied (by_of s i) d (so_far s i)) (content (by_of s i) m d (so_far s i))) (nodes (so_far s i))))
        = held_elsewhere (by_of s i) (λ m. content (by_of s i) m d (so_far s i)) (applied (by_of s i) d (so_far s i)) n (nodes (so_far s i)) distinct declared (kept d) in
        (λ q. tried r d e ∙ x.0 q, λ q. x.1 (sym (tried r d e) ∙ q))

    -- nothing is held of a record that the node's copy doesn't have
    unheld : (r : ℕ) (d : List ℕ) → record_digest s.records r ≡ Some d → partition_of d ≡ p → has_node (held_of s.stores n p) r ≡ false → IsTrue (is_held_elsewhere s n r)
    unheld r d e q f = go (content_now s n r) refl
      where
        nothing : content_now s n r ≡ None → holds_newest s n r ≡ false
        nothing z = ap (λ (o : Option ℕ). holds_top s.by (placed s.lines.now (newest_of s.records r)) (placed s.lines.now o)) z ∙ never (placed s.lines.now (newest_of s.records r))
          where
            never : (top : Option Version) → holds_top s.by top None ≡ false
            never None = refl
            never (Some v) = refl

        go : (o : Option ℕ) → content_now s n r ≡ o → is_held_elsewhere s n r ≡ true
        go None z = ap (λ (b : Bool). not b || nat_lt 1 (holders_of s.records r)) (nothing z)
        go (Some place) z = differ (copies.held n p r (ap (option_map partition_of) e ∙ ap Some q) (ap is_some z)) f

    never_brought : (d : List ℕ) → record_number s.records d ≡ None → newest_elsewhere (so_far s i) n d ≡ applied (by_of s i) d (so_far s i)
    never_brought d z =
        join_all-none (by_of s i) (λ (m : ℕ). content (by_of s i) m d (so_far s i)) (filter (λ m. not (m == n)) (nodes (so_far s i))) (λ m. content-none (by_of s i) m d (so_far s i) (records.unbrought d z))
        ∙ sym (applied-none (by_of s i) d (so_far s i) (records.unbrought d z))

    -- what is tried as the node drops its copy
    pub drop_fits : (k : ClusterKey) → IsTrue (list_all (is_held_elsewhere s n) (held_of s.stores n p)) ↔ LosesNothing (so_far s i) (line.Drop n k p)
    drop_fits k = (there, back)
      where
        there : IsTrue (list_all (is_held_elsewhere s n) (held_of s.stores n p)) → (d : List ℕ) → partition_of d ≡ p → newest_elsewhere (so_far s i) n d ≡ applied (by_of s i) d (so_far s i)
        there h d q = go (record_number s.records d) refl
          where
            found : (r : ℕ) → record_digest s.records r ≡ Some d → (has_node (held_of s.stores n p) r ≡ true) ⊎ (has_node (held_of s.stores n p) r ≡ false) → IsTrue (is_held_elsewhere s n r)
            found r e (inl t) = all_at (is_held_elsewhere s n) (held_of s.stores n p) r h t
            found r e (inr f) = unheld r d e q f

            go : (o : Option ℕ) → record_number s.records d ≡ o → newest_elsewhere (so_far s i) n d ≡ applied (by_of s i) d (so_far s i)
            go None z = never_brought d z
            go (Some r) z = let e : record_digest s.records r ≡ Some d = records.numbered.digests d r z in (elsewhere r d e).1 (found r e (cases_Bool (has_node (held_of s.stores n p) r)))

        back : ((d : List ℕ) → partition_of d ≡ p → newest_elsewhere (so_far s i) n d ≡ applied (by_of s i) d (so_far s i)) → IsTrue (list_all (is_held_elsewhere s n) (held_of s.stores n p))
        back h = all_from (is_held_elsewhere s n) (held_of s.stores n p) (λ r t. go r (record_digest s.records r) refl (copies.held_only n p r t))
          where
            go : (r : ℕ) (o : Option (List ℕ)) → record_digest s.records r ≡ o → option_map partition_of o ≡ Some p → is_held_elsewhere s n r ≡ true
            go r None e q = absurd (no_some q)
            go r (Some d) e q = (elsewhere r d e).0 (h d (some_same q))

-- the newest version in any store is the newest that was applied
kept_here : (j : List Line) → NoLoss j → (d : List ℕ) → join_all (policy_of j) (map (λ m. content (policy_of j) m d j) (nodes j)) ≡ applied (policy_of j) d j
kept_here j h d = subst (λ (ls : List Line). join_all (policy_of j) (map (λ m. content (policy_of j) m d ls) (nodes j)) ≡ applied (policy_of j) d ls) (whole j).1 (h.none_lost (whole j).0 d)

pub drop_tried : (s : Judge) (i n p : ℕ) (k : ClusterKey) (b : Bool) → Knows s i → has_node (nodes (so_far s i)) n ≡ true → b ≡ list_all (is_held_elsewhere s n) (held_of s.stores n p)
    → IsTrue b ↔ LosesNothing (so_far s i) (line.Drop n k p)
drop_tried s i n p k b knows declared said =
    let x : IsTrue (list_all (is_held_elsewhere s n) (held_of s.stores n p)) ↔ LosesNothing (so_far s i) (line.Drop n k p)
    = drop_fits s i knows.stores.records knows.stores.contents knows.policy knows.stores.copies n p (kept_here (so_far s i) knows.lawful.no_loss) knows.lawful.shape.declared_once declared k in
    (λ q. x.0 (sym said ∙ q), λ q. said ∙ x.1 q)

pub merge_tried : (s : Judge) (i n r place : ℕ) (k : ClusterKey) (d : List ℕ) (v : Version) (b : Bool) → Knows s i → record_digest s.records r ≡ Some d → placed_version s.lines.now place ≡ Some v
    → b ≡ is_at_most s.by (placed_version s.lines.now place) (placed s.lines.now (newest_of s.records r)) → IsTrue b ↔ LosesNothing (so_far s i) (line.Merge n k d v)
merge_tried s i n r place k d v b knows named stands said = (λ q. at_most_is (by_of s i) (Some v) (applied (by_of s i) d (so_far s i)) (sym same ∙ q), λ q. same ∙ at_most_so (by_of s i) (Some v) (applied (by_of s i) d (so_far s i)) q)
  where
    same : b ≡ is_at_most (by_of s i) (Some v) (applied (by_of s i) d (so_far s i))
    same = said ∙ (ap (λ (by : Policy). is_at_most by (placed_version s.lines.now place) (placed s.lines.now (newest_of s.records r))) knows.policy
        ∙ ap₂ (is_at_most (by_of s i)) stands (newest_now s i knows.stores.records knows.stores.contents knows.policy r d named))

-- ---- what is tried of single records

pub below_said : (s : Judge) (vs : Versions) (r place : ℕ) (o : Option ℕ) (b : Bool) → vs.lines.now ≡ s.lines.now → vs.by ≡ s.by → o ≡ newest_of s.records r
    → b ≡ is_at_most vs.by (placed_version vs.lines.now place) (placed vs.lines.now o) → b ≡ is_at_most s.by (placed_version s.lines.now place) (placed s.lines.now (newest_of s.records r))
below_said s vs r place o b lines policy newest said =
    said
    ∙ (ap (λ (by : Policy). is_at_most by (placed_version vs.lines.now place) (placed vs.lines.now o)) policy
    ∙ (ap (λ (ls : List Line). is_at_most s.by (placed_version ls place) (placed ls o)) lines
    ∙ ap (λ (x : Option ℕ). is_at_most s.by (placed_version s.lines.now place) (placed s.lines.now x)) newest))

newest_by : (s : Judge) (vs : Versions) (r : ℕ) (newest held : Option ℕ)
    → vs.lines.now ≡ s.lines.now → vs.by ≡ s.by → newest ≡ newest_of s.records r
    → holds_top vs.by (placed vs.lines.now newest) (placed vs.lines.now held)
    ≡ holds_top s.by (placed s.lines.now (newest_of s.records r)) (placed s.lines.now held)
newest_by s vs r newest held lines policy e =
    ap (λ (by : Policy). holds_top by (placed vs.lines.now newest) (placed vs.lines.now held)) policy
    ∙ (ap (λ (ls : List Line). holds_top s.by (placed ls newest) (placed ls held)) lines
    ∙ ap (λ (x : Option ℕ). holds_top s.by (placed s.lines.now x) (placed s.lines.now held)) e)

pub newest_then : (s : Judge) (vs : Versions) (r : ℕ) (newest held : Option ℕ) (has b : Bool)
    → vs.lines.now ≡ s.lines.now → vs.by ≡ s.by → newest ≡ newest_of s.records r
    → has ≡ is_some (placed vs.lines.now newest) → has ≡ true
    → b ≡ is_at_most vs.by (placed vs.lines.now newest) (placed vs.lines.now held)
    → b ≡ holds_top s.by (placed s.lines.now (newest_of s.records r)) (placed s.lines.now held)
newest_then s vs r newest held has b lines policy e said t at_most =
    at_most
    ∙ (sym (ap (λ (x : Bool). x
    && is_at_most vs.by (placed vs.lines.now newest) (placed vs.lines.now held)) (sym said ∙ t))
    ∙ newest_by s vs r newest held lines policy e)

pub newest_else : (s : Judge) (vs : Versions) (r : ℕ) (newest held : Option ℕ) (has : Bool)
    → vs.lines.now ≡ s.lines.now → vs.by ≡ s.by → newest ≡ newest_of s.records r
    → has ≡ is_some (placed vs.lines.now newest) → has ≡ false
    → has ≡ holds_top s.by (placed s.lines.now (newest_of s.records r)) (placed s.lines.now held)
newest_else s vs r newest held has lines policy e said t =
    t
    ∙ (sym (ap (λ (x : Bool). x
    && is_at_most vs.by (placed vs.lines.now newest) (placed vs.lines.now held)) (sym said ∙ t))
    ∙ newest_by s vs r newest held lines policy e)

-- ---- one version beside another

-- two places that are tested equal are one
pub same_place : (a b : Option ℕ) → option_eq nat_eq a b ≡ true → a ≡ b
same_place None None e = refl
same_place None (Some y) e = differ e refl
same_place (Some x) None e = differ e refl
same_place (Some x) (Some y) e = ap (λ (n : ℕ). Some n) (number_same x y e)

pub at_most_itself : (by : Policy) (lines : List Line) (a b : Option ℕ) → a ≡ b
    → true ≡ is_at_most by (placed lines a) (placed lines b)
at_most_itself by lines a b e =
    sym (at_most_so by (placed lines a) (placed lines b) (AtMost_eq (ap (placed lines) e)))

pub at_most_there : (s : Judge) (vs : Versions) (a b : Option ℕ) (said : Bool)
    → vs.lines.now ≡ s.lines.now → vs.by ≡ s.by
    → said ≡ is_at_most vs.by (placed vs.lines.now a) (placed vs.lines.now b)
    → said ≡ is_at_most s.by (placed s.lines.now a) (placed s.lines.now b)
at_most_there s vs a b said lines policy told =
    told
    ∙ (ap (λ (by : Policy). is_at_most by (placed vs.lines.now a) (placed vs.lines.now b)) policy
    ∙ ap (λ (ls : List Line). is_at_most s.by (placed ls a) (placed ls b)) lines)

-- the member held nothing
pub covers_nothing : (s : Judge) (n m of r : ℕ) (held : Option ℕ)
    → held ≡ value_after (history_of s.stores m r) of → held ≡ None
    → true ≡ covers_record s n m of r
covers_nothing s n m of r held said none =
    none_at_most s.by (placed s.lines.now (content_now s n r))
    ∙ ap (λ (o : Option ℕ). is_at_most s.by (placed s.lines.now o)
    (placed s.lines.now (content_now s n r))) (sym none ∙ said)

pub covers_something : (s : Judge) (n m of r : ℕ) (held now : Option ℕ) (place : ℕ) (b : Bool)
    → held ≡ value_after (history_of s.stores m r) of → held ≡ Some place
    → now ≡ content_now s n r
    → b ≡ is_at_most s.by (placed s.lines.now (Some place)) (placed s.lines.now now)
    → b ≡ covers_record s n m of r
covers_something s n m of r held now place b said some is told =
    told
    ∙ ap₂ (λ (x y : Option ℕ). is_at_most s.by (placed s.lines.now x) (placed s.lines.now y))
    (sym some ∙ said) is
