-- What is known of records, of what nodes hold and of what was written in views, as a write is applied or a version merged.
use Rattle.std.proofs.Common.{◌≡◌, ℕ, suc, ◌==◌, ◌+◌, Bool, true, false, ◌&&◌, ◌||◌, cond, List, [], ◌∷◌, Option, Some, None, option_map, ◌⊎◌, inl, inr, refl, sym, ap, subst, ◌∙◌, arith, is_some}
use Rattle.std.specs.Prelude.{take, slice_get, nat_eq, map, option_and_then, Result, Ok, Err, OnOk, bytes_eq}
use Rattle.std.specs.HashMap as hash
use Rattle.std.proofs.lemmas.List.Folds.{list_any-append}
use Rattle.std.proofs.lemmas.Bool.{or_left, or_right}
use Rattle.conflict_order.specs.declared.policy.Policy.{Policy}
use Rattle.conflict_order.specs.declared.version.Version.{Version}
use Rattle.conflict_order.specs.Join.{AtMost}
use Rattle.cluster_types.specs.declared.cluster_key.ClusterKey.{ClusterKey}
use Rattle.cluster_types.specs.Partitions.{partition_of}
use Rattle.journal_lines.specs.declared.line.Line.{Line}
use Rattle.journal_lines.specs.declared.line.Line.TheVariants as line
use Rattle.journal_readings.specs.Lines.{same_key, has_node}
use Rattle.journal_readings.specs.Settings.{policy_of, nodes}
use Rattle.journal_readings.specs.Contents.{content, applied, joined_if, join_all}
use Rattle.journal_readings.specs.Entries.{applied_in}
use Rattle.journal_readings.proofs.AlongLaws.{some_same}
use Rattle.journal_readings.proofs.Fronts.{same_key_is}
use Rattle.audit_laws.proofs.Headers.{policy_stays, nodes_stay}
use Rattle.audit_laws.proofs.ShapeSteps.{same_key_itself}
use Rattle.audit_laws.proofs.Places.{whole}
use Rattle.audit_laws.proofs.Tests.{number_same, number_here}
use Rattle.audit_core.specs.declared.judge.Judge.{Judge}
use Rattle.audit_state.specs.declared.records.Records.{Records}
use Rattle.audit_state.specs.declared.versions.Versions.{Versions}
use Rattle.audit_state.specs.declared.views.View.{View}
use Rattle.audit_core.specs.Bringing.{KeepsLines, SeesHeld, IsBrought, BringsHere}
use Rattle.audit_state.specs.Copies.{held_since}
use Rattle.audit_core.specs.Frames.{Both}
use Rattle.audit_core.specs.Holders.{content_now, AreHoldersCounted}
use Rattle.audit_core.specs.Known.{kept_view}
use Rattle.audit_state.specs.Places.{placed, placed_version, brought_version}
use Rattle.audit_state.specs.Records.{record_number, record_digest, newest_of, KeepsNumbers, raised, raised_holders}
use Rattle.audit_core.specs.Steps.{ChangesView}
use Rattle.audit_core.specs.Stored.{SeesRecords, SeesContents, SeesCopies, SeesWritten, SeesStores, Knows, IsRecordOf, read_of}
use Rattle.audit_state.specs.Written.{WritesRecord, written_of}
use Rattle.audit_core.proofs.AppliedLaws.{unbrought_next, joined_reads, raised_some, applied_next, applied_in_next, merged_next, merged_in_next}
use Rattle.audit_core.proofs.ContentLaws.{take_next}
use Rattle.audit_core.proofs.CopySteps.{since_only}
use Rattle.audit_core.proofs.HolderLaws.{under_all}
use Rattle.audit_core.proofs.LossChecks.{held_now, newest_now}

-- nobody holds a version above the newest that was applied
pub held_under : (s : Judge) (i r : ℕ) (d : List ℕ) → Knows s i → record_digest s.records r ≡ Some d → (m : ℕ) → has_node (nodes (take i s.lines.now)) m ≡ true
    → AtMost s.by (placed s.lines.now (content_now s m r)) (placed s.lines.now (newest_of s.records r))
held_under s i r d knows named m declared =
    subst (λ (by : Policy). AtMost by (placed s.lines.now (content_now s m r)) (placed s.lines.now (newest_of s.records r))) (sym knows.policy)
    (subst (λ (x : Option Version). AtMost (policy_of j) x (placed s.lines.now (newest_of s.records r))) (sym (held_now s i knows.stores.records knows.stores.contents knows.policy m r d named))
    (subst (AtMost (policy_of j) (content (policy_of j) m d j)) (kept ∙ sym (newest_now s i knows.stores.records knows.stores.contents knows.policy r d named))
    (under_all (policy_of j) (λ n. content (policy_of j) n d j) (nodes j) m declared)))
  where
    j : List Line
    j = take i s.lines.now

    kept : join_all (policy_of j) (map (λ n. content (policy_of j) n d j) (nodes j)) ≡ applied (policy_of j) d j
    kept = subst (λ (ls : List Line). join_all (policy_of j) (map (λ n. content (policy_of j) n d ls) (nodes j)) ≡ applied (policy_of j) d ls) (whole j).1 (knows.lawful.no_loss.none_lost (whole j).0 d)

both_some : {A : Type 0} (R : A → A → Type 0) (o : Option A) (x : A) → Both R o (Some x) → (y : A) × (o ≡ Some y) × R y x
both_some {A} R None x h = absurd h
both_some {A} R (Some y) x h = (y, refl, h)

apart_or : (r q : ℕ) → nat_eq r q ≡ false → (xs : List ℕ) (b : Bool) → has_node (held_since b r xs) q ≡ has_node xs q
apart_or r q e xs true = refl
apart_or r q e xs false = list_any-append (λ m. m == q) xs (r ∷ []) ∙ go (has_node xs q) (r == q) e
  where
    go : (a b : Bool) → b ≡ false → (a || (b || false)) ≡ a
    go true b f = refl
    go false true f = f
    go false false f = refl

since_here : (b : Bool) (r : ℕ) (xs : List ℕ) → (b ≡ true → has_node xs r ≡ true) → has_node (held_since b r xs) r ≡ true
since_here true r xs h = h refl
since_here false r xs h = list_any-append (λ m. m == r) xs (r ∷ []) ∙ or_right (has_node xs r) (has_node (r ∷ []) r) (or_left (r == r) false (number_here r))

-- ---- a write

module _ (s : Judge) (rs : Records) (mid new : Judge) (i n r p t : ℕ) (k : ClusterKey) (d : List ℕ) (v : Version) (knows : Knows s i) (here : slice_get s.lines.now i ≡ Some (line.Apply n k t d v))
    (named : record_digest s.records r ≡ Some d) (kept : KeepsNumbers s.records rs)
    (newest : (q : ℕ) → newest_of rs q ≡ cond (nat_eq r q) (raised s.by s.lines.now i (newest_of s.records r)) (newest_of s.records q))
    (keeps : KeepsLines (record s { records = rs }) mid) (held : SeesHeld mid (suc i)) (counts : AreHoldersCounted mid (nodes (take i s.lines.now)))
    (writes : ChangesView (WritesRecord mid.by mid.lines.now i r p) k mid new) (part : p ≡ partition_of d) where
  by_next : s.by ≡ policy_of (take (suc i) s.lines.now)
  by_next = knows.policy ∙ sym (ap policy_of (take_next s.lines.now i (line.Apply n k t d v) here) ∙ policy_stays (take i s.lines.now) (line.Apply n k t d v) refl)

  nodes_next : nodes (take i s.lines.now) ≡ nodes (take (suc i) s.lines.now)
  nodes_next = sym (ap nodes (take_next s.lines.now i (line.Apply n k t d v) here) ∙ nodes_stay (take i s.lines.now) (line.Apply n k t d v) refl)

  same_records : new.records ≡ mid.records
  same_records = ap (λ (x : Judge). x.records) writes.rest

  same_by : new.by ≡ s.by
  same_by = ap (λ (x : Judge). x.by) writes.rest ∙ ap (λ (x : Judge). x.by) keeps.rest

  same_lines : new.lines.now ≡ s.lines.now
  same_lines = ap (λ (x : Judge). x.lines.now) writes.rest ∙ ap (λ (x : Judge). x.lines.now) keeps.rest

  mid_views : (l : ClusterKey) → kept_view mid l ≡ kept_view s l
  mid_views l = ap (λ (x : Judge). kept_view x l) keeps.rest

  digest_eq : (q : ℕ) → record_digest new.records q ≡ record_digest s.records q
  digest_eq q = ap (λ (x : Records). record_digest x q) same_records ∙ (keeps.numbers.digests q ∙ kept.digests q)

  number_eq : (e : List ℕ) → record_number new.records e ≡ record_number s.records e
  number_eq e = ap (λ (x : Records). record_number x e) same_records ∙ (keeps.numbers.numbers e ∙ kept.numbers e)

  stands : placed_version s.lines.now i ≡ Some v
  stands = ap (option_and_then brought_version) here

  newest_at : (q : ℕ) → newest_of new.records q ≡ cond (nat_eq r q) (raised s.by s.lines.now i (newest_of s.records r)) (newest_of s.records q)
  newest_at q = ap (λ (x : Records). newest_of x q) same_records ∙ (keeps.newest q ∙ newest q)

  records_next : SeesRecords new s.lines.now (take (suc i) s.lines.now)
  records_next = record {
    numbered = record {
      digests = λ e q h. digest_eq q ∙ knows.stores.records.numbered.digests e q (sym (number_eq e) ∙ h);
      numbers = λ e q h. number_eq e ∙ knows.stores.records.numbered.numbers e q (sym (digest_eq q) ∙ h);
    };
    unbrought = λ e h. unbrought_next s.records s.lines.now i n r (line.Apply n k t d v) d v here (refl, refl, refl) knows.stores.records.numbered named e (sym (number_eq e) ∙ h) (knows.stores.records.unbrought e (sym (number_eq e) ∙ h));
    newest = λ q.
        joined_reads s.records s.lines.now s.by i r d v (λ e. applied s.by e (take i s.lines.now)) (λ e. applied s.by e (take (suc i) s.lines.now)) (newest_of s.records) (newest_of new.records) knows.stores.records.numbered named stands
        (applied_next s.by s.lines.now i n t k d v here)
        (λ q. knows.stores.records.newest q ∙ ap (λ (by : Policy). read_of (λ e. applied by e (take i s.lines.now)) (record_digest s.records q)) (sym knows.policy))
        newest_at q
        ∙ (ap (read_of (λ e. applied s.by e (take (suc i) s.lines.now))) (sym (digest_eq q))
        ∙ ap (λ (by : Policy). read_of (λ e. applied by e (take (suc i) s.lines.now)) (record_digest new.records q)) by_next);
    holders = subst (AreHoldersCounted new) nodes_next (subst (λ (x : Judge). AreHoldersCounted x (nodes (take i s.lines.now))) (sym writes.rest) counts);
  }

  held_next : SeesHeld (record new { views = mid.views }) (suc i)
  held_next = subst (λ (x : Judge). SeesHeld x (suc i)) (sym writes.rest) held

  contents_next : SeesContents new.stores new.records s.lines.now (policy_of (take (suc i) s.lines.now)) (suc i)
  contents_next = subst (λ (by : Policy). SeesContents new.stores new.records s.lines.now by (suc i)) (same_by ∙ by_next) (subst (λ (ls : List Line). SeesContents new.stores new.records ls new.by (suc i)) same_lines held_next.contents)

  copies_next : SeesCopies new.stores new.records s.lines.now (suc i)
  copies_next = subst (λ (ls : List Line). SeesCopies new.stores new.records ls (suc i)) same_lines held_next.copies

  -- the view of the write
  raises : (y x : View) → WritesRecord mid.by mid.lines.now i r p y x → (q : ℕ) → hash.get nat_eq x.applied q ≡ cond (nat_eq r q) (raised s.by s.lines.now i (hash.get nat_eq y.applied r)) (hash.get nat_eq y.applied q)
  raises y x w q = w.applied q
      ∙ (ap (λ (by : Policy). cond (nat_eq r q) (raised by mid.lines.now i (hash.get nat_eq y.applied r)) (hash.get nat_eq y.applied q)) (ap (λ (z : Judge). z.by) keeps.rest)
      ∙ ap (λ (ls : List Line). cond (nat_eq r q) (raised s.by ls i (hash.get nat_eq y.applied r)) (hash.get nat_eq y.applied q)) (ap (λ (z : Judge). z.lines.now) keeps.rest))

  applied_in_here : (e : List ℕ) → applied_in s.by k e (take (suc i) s.lines.now) ≡ joined_if (bytes_eq d e) s.by (applied_in s.by k e (take i s.lines.now)) v
  applied_in_here e = applied_in_next s.by s.lines.now i n t k d v here k e ∙ ap (λ (b : Bool). joined_if (b && bytes_eq d e) s.by (applied_in s.by k e (take i s.lines.now)) v) (same_key_itself k)

  told_before : (l : ClusterKey) (y : View) → kept_view s l ≡ Some y → (q : ℕ) → placed s.lines.now (hash.get nat_eq y.applied q) ≡ read_of (λ e. applied_in s.by l e (take i s.lines.now)) (record_digest s.records q)
  told_before l y f q = knows.stores.written.applied l y q f ∙ ap (λ (by : Policy). read_of (λ e. applied_in by l e (take i s.lines.now)) (record_digest s.records q)) (sym knows.policy)

  told_after : (l : ClusterKey) (q : ℕ) (o : Option Version) → o ≡ read_of (λ e. applied_in s.by l e (take (suc i) s.lines.now)) (record_digest s.records q) → o ≡ read_of (λ e. applied_in (policy_of (take (suc i) s.lines.now)) l e (take (suc i) s.lines.now)) (record_digest new.records q)
  told_after l q o h = h ∙ (ap (read_of (λ e. applied_in s.by l e (take (suc i) s.lines.now))) (sym (digest_eq q))
      ∙ ap (λ (by : Policy). read_of (λ e. applied_in by l e (take (suc i) s.lines.now)) (record_digest new.records q)) by_next)

  applied_at : (l : ClusterKey) (x : View) (q : ℕ) → kept_view new l ≡ Some x → placed s.lines.now (hash.get nat_eq x.applied q) ≡ read_of (λ e. applied_in s.by l e (take (suc i) s.lines.now)) (record_digest s.records q)
  applied_at l x q there = go (same_key k l) refl
    where
      other : same_key k l ≡ false → (o : Option (List ℕ)) → read_of (λ e. applied_in s.by l e (take i s.lines.now)) o ≡ read_of (λ e. applied_in s.by l e (take (suc i) s.lines.now)) o
      other f None = refl
      other f (Some e) = sym (applied_in_next s.by s.lines.now i n t k d v here l e ∙ ap (λ (b : Bool). joined_if (b && bytes_eq d e) s.by (applied_in s.by l e (take i s.lines.now)) v) f)

      same : kept_view new k ≡ Some x → placed s.lines.now (hash.get nat_eq x.applied q) ≡ read_of (λ e. applied_in s.by k e (take (suc i) s.lines.now)) (record_digest s.records q)
      same f =
          let w : (y : View) × (kept_view mid k ≡ Some y) × WritesRecord mid.by mid.lines.now i r p y x = both_some (WritesRecord mid.by mid.lines.now i r p) (kept_view mid k) x (subst (Both (WritesRecord mid.by mid.lines.now i r p) (kept_view mid k)) f writes.here) in
          joined_reads s.records s.lines.now s.by i r d v (λ e. applied_in s.by k e (take i s.lines.now)) (λ e. applied_in s.by k e (take (suc i) s.lines.now)) (hash.get nat_eq w.0.applied) (hash.get nat_eq x.applied) knows.stores.records.numbered named stands
          applied_in_here (told_before k w.0 (sym (mid_views k) ∙ w.1)) (raises w.0 x w.2) q

      go : (b : Bool) → same_key k l ≡ b → placed s.lines.now (hash.get nat_eq x.applied q) ≡ read_of (λ e. applied_in s.by l e (take (suc i) s.lines.now)) (record_digest s.records q)
      go true f = subst (λ (m : ClusterKey). placed s.lines.now (hash.get nat_eq x.applied q) ≡ read_of (λ e. applied_in s.by m e (take (suc i) s.lines.now)) (record_digest s.records q)) (same_key_is k l f)
          (same (ap (kept_view new) (same_key_is k l f) ∙ there))
      go false f = told_before l x (sym (writes.others l f ∙ mid_views l) ∙ there) q ∙ other f (record_digest s.records q)

  written_at : (l : ClusterKey) (x : View) (q : ℕ) → kept_view new l ≡ Some x → has_node x.written.items q ≡ is_some (hash.get nat_eq x.applied q)
  written_at l x q there = go (same_key k l) refl
    where
      same : kept_view new k ≡ Some x → has_node x.written.items q ≡ is_some (hash.get nat_eq x.applied q)
      same f =
          let w : (y : View) × (kept_view mid k ≡ Some y) × WritesRecord mid.by mid.lines.now i r p y x = both_some (WritesRecord mid.by mid.lines.now i r p) (kept_view mid k) x (subst (Both (WritesRecord mid.by mid.lines.now i r p) (kept_view mid k)) f writes.here) in
          at w.0 (λ z. knows.stores.written.written k w.0 z (sym (mid_views k) ∙ w.1)) w.2 (nat_eq r q) refl
        where
          at : (y : View) → ((z : ℕ) → has_node y.written.items z ≡ is_some (hash.get nat_eq y.applied z)) → WritesRecord mid.by mid.lines.now i r p y x → (b : Bool) → nat_eq r q ≡ b → has_node x.written.items q ≡ is_some (hash.get nat_eq x.applied q)
          at y told w true e =
              subst (λ (z : ℕ). has_node x.written.items z ≡ is_some (hash.get nat_eq x.applied z)) (number_same r q e)
              (ap (λ (xs : List ℕ). has_node xs r) w.written
              ∙ (since_here (is_some (hash.get nat_eq y.applied r)) r y.written.items (λ f. told r ∙ f)
              ∙ sym (ap is_some (raises y x w r ∙ ap (λ (b : Bool). cond b (raised s.by s.lines.now i (hash.get nat_eq y.applied r)) (hash.get nat_eq y.applied r)) (number_here r)) ∙ raised_some s.by s.lines.now i v (hash.get nat_eq y.applied r) stands)))
          at y told w false e =
              ap (λ (xs : List ℕ). has_node xs q) w.written
              ∙ (apart_or r q e y.written.items (is_some (hash.get nat_eq y.applied r))
              ∙ (told q ∙ sym (ap is_some (raises y x w q ∙ ap (λ (b : Bool). cond b (raised s.by s.lines.now i (hash.get nat_eq y.applied r)) (hash.get nat_eq y.applied q)) e))))

      go : (b : Bool) → same_key k l ≡ b → has_node x.written.items q ≡ is_some (hash.get nat_eq x.applied q)
      go true f = same (ap (kept_view new) (same_key_is k l f) ∙ there)
      go false f = knows.stores.written.written l x q (sym (writes.others l f ∙ mid_views l) ∙ there)

  -- the records of a partition
  part_of : (q u : ℕ) → IsRecordOf s.records q u → IsRecordOf new.records q u
  part_of q u h = ap (option_map partition_of) (digest_eq q) ∙ h

  part_here : IsRecordOf s.records r p
  part_here = ap (option_map partition_of) named ∙ ap Some (sym part)

  listed_at : (l : ClusterKey) (x : View) (q : ℕ) → kept_view new l ≡ Some x → is_some (hash.get nat_eq x.applied q) ≡ true → (u : ℕ) × IsRecordOf new.records q u × (has_node (written_of x u) q ≡ true)
  listed_at l x q there some = go (same_key k l) refl
    where
      at : (y : View) → ((z : ℕ) → is_some (hash.get nat_eq y.applied z) ≡ true → (u : ℕ) × IsRecordOf s.records z u × (has_node (written_of y u) z ≡ true)) → WritesRecord mid.by mid.lines.now i r p y x
          → (b : Bool) → nat_eq r q ≡ b → (u : ℕ) × IsRecordOf new.records q u × (has_node (written_of x u) q ≡ true)
      at y told w true e = subst (λ (z : ℕ). (u : ℕ) × IsRecordOf new.records z u × (has_node (written_of x u) z ≡ true)) (number_same r q e) (
        p,
        part_of r p part_here,
        ap (λ (xs : List ℕ). has_node xs r) (w.here p ∙ ap (λ (b : Bool). cond b (held_since (is_some (hash.get nat_eq y.applied r)) r (written_of y p)) (written_of y p)) (number_here p))
            ∙ since_here (is_some (hash.get nat_eq y.applied r)) r (written_of y p) before,
      )
        where
          before : is_some (hash.get nat_eq y.applied r) ≡ true → has_node (written_of y p) r ≡ true
          before f =
              let h : (u : ℕ) × IsRecordOf s.records r u × (has_node (written_of y u) r ≡ true) = told r f in
              subst (λ (u : ℕ). has_node (written_of y u) r ≡ true) (some_same (sym h.1 ∙ part_here)) h.2
      at y told w false e =
          let was : is_some (hash.get nat_eq y.applied q) ≡ true = sym (ap is_some (raises y x w q ∙ ap (λ (b : Bool). cond b (raised s.by s.lines.now i (hash.get nat_eq y.applied r)) (hash.get nat_eq y.applied q)) e)) ∙ some in
          let h : (u : ℕ) × IsRecordOf s.records q u × (has_node (written_of y u) q ≡ true) = told q was in
          (h.0, part_of q h.0 h.1, ap (λ (xs : List ℕ). has_node xs q) (w.here h.0) ∙ more h.0 h.2 (nat_eq p h.0) refl)
        where
          more : (u : ℕ) → has_node (written_of y u) q ≡ true → (b : Bool) → nat_eq p u ≡ b → has_node (cond b (held_since (is_some (hash.get nat_eq y.applied r)) r (written_of y p)) (written_of y u)) q ≡ true
          more u h true f = apart_or r q e (written_of y p) (is_some (hash.get nat_eq y.applied r)) ∙ subst (λ (z : ℕ). has_node (written_of y z) q ≡ true) (sym (number_same p u f)) h
          more u h false f = h

      same : kept_view new k ≡ Some x → (u : ℕ) × IsRecordOf new.records q u × (has_node (written_of x u) q ≡ true)
      same f =
          let w : (y : View) × (kept_view mid k ≡ Some y) × WritesRecord mid.by mid.lines.now i r p y x = both_some (WritesRecord mid.by mid.lines.now i r p) (kept_view mid k) x (subst (Both (WritesRecord mid.by mid.lines.now i r p) (kept_view mid k)) f writes.here) in
          at w.0 (λ z. knows.stores.written.listed k w.0 z (sym (mid_views k) ∙ w.1)) w.2 (nat_eq r q) refl

      go : (b : Bool) → same_key k l ≡ b → (u : ℕ) × IsRecordOf new.records q u × (has_node (written_of x u) q ≡ true)
      go true f = same (ap (kept_view new) (same_key_is k l f) ∙ there)
      go false f =
          let h : (u : ℕ) × IsRecordOf s.records q u × (has_node (written_of x u) q ≡ true) = knows.stores.written.listed l x q (sym (writes.others l f ∙ mid_views l) ∙ there) some in
          (h.0, part_of q h.0 h.1, h.2)

  listed_only_at : (l : ClusterKey) (x : View) (u q : ℕ) → kept_view new l ≡ Some x → has_node (written_of x u) q ≡ true → IsRecordOf new.records q u
  listed_only_at l x u q there has = part_of q u (go (same_key k l) refl)
    where
      at : (y : View) → ((v z : ℕ) → has_node (written_of y v) z ≡ true → IsRecordOf s.records z v) → (b : Bool) → nat_eq p u ≡ b
          → has_node (cond b (held_since (is_some (hash.get nat_eq y.applied r)) r (written_of y p)) (written_of y u)) q ≡ true → IsRecordOf s.records q u
      at y told true f h = subst (IsRecordOf s.records q) (number_same p u f) (pick (since_only (is_some (hash.get nat_eq y.applied r)) r (written_of y p) q h))
        where
          pick : (has_node (written_of y p) q ≡ true) ⊎ (r ≡ q) → IsRecordOf s.records q p
          pick (inl g) = told p q g
          pick (inr g) = subst (λ (z : ℕ). IsRecordOf s.records z p) g part_here
      at y told false f h = told u q h

      same : kept_view new k ≡ Some x → IsRecordOf s.records q u
      same f =
          let w : (y : View) × (kept_view mid k ≡ Some y) × WritesRecord mid.by mid.lines.now i r p y x = both_some (WritesRecord mid.by mid.lines.now i r p) (kept_view mid k) x (subst (Both (WritesRecord mid.by mid.lines.now i r p) (kept_view mid k)) f writes.here) in
          at w.0 (λ v z. knows.stores.written.listed_only k w.0 v z (sym (mid_views k) ∙ w.1)) (nat_eq p u) refl (sym (ap (λ (xs : List ℕ). has_node xs q) (w.2.here u)) ∙ has)

      go : (b : Bool) → same_key k l ≡ b → IsRecordOf s.records q u
      go true f = same (ap (kept_view new) (same_key_is k l f) ∙ there)
      go false f = knows.stores.written.listed_only l x u q (sym (writes.others l f ∙ mid_views l) ∙ there) has

  pub write_seen : SeesStores new (suc i) s.lines.now (take (suc i) s.lines.now)
  write_seen = record {
    records = records_next;
    contents = contents_next;
    copies = copies_next;
    written = record { applied = λ l x q there. told_after l q _ (applied_at l x q there); written = written_at; listed = listed_at; listed_only = listed_only_at };
  }

-- ---- on the way to it

pub raised_said : (s : Judge) (vs : Versions) (i r : ℕ) (old new : ℕ → Option ℕ) → vs.lines.now ≡ s.lines.now → vs.by ≡ s.by
    → ((q : ℕ) → new q ≡ cond (nat_eq r q) (raised vs.by vs.lines.now i (old r)) (old q)) → (q : ℕ) → new q ≡ cond (nat_eq r q) (raised s.by s.lines.now i (old r)) (old q)
raised_said s vs i r old new lines policy said q = said q
    ∙ (ap (λ (by : Policy). cond (nat_eq r q) (raised by vs.lines.now i (old r)) (old q)) policy
    ∙ ap (λ (ls : List Line). cond (nat_eq r q) (raised s.by ls i (old r)) (old q)) lines)

pub holders_said : (s : Judge) (vs : Versions) (i r : ℕ) (o : Option ℕ) (old new : ℕ → ℕ) → vs.lines.now ≡ s.lines.now → vs.by ≡ s.by
    → ((q : ℕ) → new q ≡ cond (nat_eq r q) (raised_holders vs.by vs.lines.now i o (old r)) (old q)) → (q : ℕ) → new q ≡ cond (nat_eq r q) (raised_holders s.by s.lines.now i o (old r)) (old q)
holders_said s vs i r o old new lines policy said q = said q
    ∙ (ap (λ (by : Policy). cond (nat_eq r q) (raised_holders by vs.lines.now i o (old r)) (old q)) policy
    ∙ ap (λ (ls : List Line). cond (nat_eq r q) (raised_holders s.by ls i o (old r)) (old q)) lines)

-- what nodes hold is known beside other records with the same numbers
pub ready_held : (s : Judge) (rs : Records) (i : ℕ) → Knows s i → KeepsNumbers s.records rs → SeesHeld (record s { records = rs }) i
ready_held s rs i knows kept = record {
  contents = record {
    held = λ n q a le. knows.stores.contents.held n q a le
        ∙ (ap (λ (by : Policy). read_of (λ e. content by n e (take a s.lines.now)) (record_digest s.records q)) (sym knows.policy)
        ∙ ap (read_of (λ e. content s.by n e (take a s.lines.now))) (sym (kept.digests q)));
    below = knows.stores.contents.below;
    fresh = λ n q e. knows.stores.contents.fresh n q (sym (kept.digests q) ∙ e);
  };
  copies = record {
    holding = knows.stores.copies.holding;
    holding_below = knows.stores.copies.holding_below;
    changes_below = knows.stores.copies.changes_below;
    held = λ n q x f. knows.stores.copies.held n q x (ap (option_map partition_of) (sym (kept.digests x)) ∙ f);
    held_only = λ n q x f. ap (option_map partition_of) (kept.digests x) ∙ knows.stores.copies.held_only n q x f;
    held_ever = knows.stores.copies.held_ever;
    touched = λ n q x f. knows.stores.copies.touched n q x (ap (option_map partition_of) (sym (kept.digests x)) ∙ f);
    touched_only = λ n q x f. ap (option_map partition_of) (kept.digests x) ∙ knows.stores.copies.touched_only n q x f;
    changes_only = λ n q x f. ap (option_map partition_of) (kept.digests x.number) ∙ knows.stores.copies.changes_only n q x f;
    changes = λ n q x a b f. knows.stores.copies.changes n q x a b (ap (option_map partition_of) (sym (kept.digests x)) ∙ f);
  };
}

pub ready_here : (s : Judge) (rs : Records) (i n r p : ℕ) (l : Line) (d : List ℕ) (v : Version) → Knows s i → KeepsNumbers s.records rs → slice_get s.lines.now i ≡ Some l → IsBrought l n d v → record_digest s.records r ≡ Some d → p ≡ partition_of d
    → BringsHere (record s { records = rs }) i n r p l d v
ready_here s rs i n r p l d v knows kept stands brought named part = record {
  stands = stands;
  brought = brought;
  named = kept.digests r ∙ named;
  part = sym part;
  numbered = record {
    digests = λ e q h. kept.digests q ∙ knows.stores.records.numbered.digests e q (sym (kept.numbers e) ∙ h);
    numbers = λ e q h. kept.numbers e ∙ knows.stores.records.numbered.numbers e q (sym (kept.digests q) ∙ h);
  };
}

pub next_held : (s : Judge) (i : ℕ) → SeesHeld s (i + 1) → SeesHeld s (suc i)
next_held s i = let e : i + 1 ≡ suc i = omega arith in subst (SeesHeld s) e

pub next_stores : (s : Judge) (i : ℕ) (all : List Line) → SeesStores s (suc i) all (take (suc i) all) → SeesStores s (i + 1) all (take (i + 1) all)
next_stores s i all = let e : suc i ≡ i + 1 = omega arith in subst (λ (m : ℕ). SeesStores s m all (take m all)) e

-- ---- a version that is merged

module _ (s mid : Judge) (i n r : ℕ) (k : ClusterKey) (d : List ℕ) (v : Version) (knows : Knows s i) (here : slice_get s.lines.now i ≡ Some (line.Merge n k d v)) (named : record_digest s.records r ≡ Some d)
    (keeps : KeepsLines s mid) (held : SeesHeld mid (suc i)) (counts : AreHoldersCounted mid (nodes (take i s.lines.now))) where
  policy_next : policy_of (take i s.lines.now) ≡ policy_of (take (suc i) s.lines.now)
  policy_next = sym (ap policy_of (take_next s.lines.now i (line.Merge n k d v) here) ∙ policy_stays (take i s.lines.now) (line.Merge n k d v) refl)

  merged_nodes : nodes (take i s.lines.now) ≡ nodes (take (suc i) s.lines.now)
  merged_nodes = sym (ap nodes (take_next s.lines.now i (line.Merge n k d v) here) ∙ nodes_stay (take i s.lines.now) (line.Merge n k d v) refl)

  mid_by : mid.by ≡ policy_of (take (suc i) s.lines.now)
  mid_by = ap (λ (x : Judge). x.by) keeps.rest ∙ (knows.policy ∙ policy_next)

  mid_lines : mid.lines.now ≡ s.lines.now
  mid_lines = ap (λ (x : Judge). x.lines.now) keeps.rest

  same_read : (f g : List ℕ → Option Version) → ((e : List ℕ) → f e ≡ g e) → (o : Option (List ℕ)) → read_of f o ≡ read_of g o
  same_read f g h None = refl
  same_read f g h (Some e) = h e

  records_merged : SeesRecords mid s.lines.now (take (suc i) s.lines.now)
  records_merged = record {
    numbered = record {
      digests = λ e q h. keeps.numbers.digests q ∙ knows.stores.records.numbered.digests e q (sym (keeps.numbers.numbers e) ∙ h);
      numbers = λ e q h. keeps.numbers.numbers e ∙ knows.stores.records.numbered.numbers e q (sym (keeps.numbers.digests q) ∙ h);
    };
    unbrought = λ e h. unbrought_next s.records s.lines.now i n r (line.Merge n k d v) d v here (refl, refl, refl) knows.stores.records.numbered named e (sym (keeps.numbers.numbers e) ∙ h) (knows.stores.records.unbrought e (sym (keeps.numbers.numbers e) ∙ h));
    newest = λ q. ap (placed s.lines.now) (keeps.newest q)
        ∙ (knows.stores.records.newest q
        ∙ (ap (λ (by : Policy). read_of (λ e. applied by e (take i s.lines.now)) (record_digest s.records q)) policy_next
        ∙ (ap (read_of (λ e. applied (policy_of (take (suc i) s.lines.now)) e (take i s.lines.now))) (sym (keeps.numbers.digests q))
        ∙ same_read (λ e. applied (policy_of (take (suc i) s.lines.now)) e (take i s.lines.now)) (λ e. applied (policy_of (take (suc i) s.lines.now)) e (take (suc i) s.lines.now))
        (λ e. sym (merged_next (policy_of (take (suc i) s.lines.now)) s.lines.now i n k d v here e)) (record_digest mid.records q))));
    holders = subst (AreHoldersCounted mid) merged_nodes counts;
  }

  written_merged : SeesWritten mid s.lines.now (take (suc i) s.lines.now)
  written_merged = record {
    applied = λ l x q there. knows.stores.written.applied l x q (sym (ap (λ (y : Judge). kept_view y l) keeps.rest) ∙ there)
        ∙ (ap (λ (by : Policy). read_of (λ e. applied_in by l e (take i s.lines.now)) (record_digest s.records q)) policy_next
        ∙ (ap (read_of (λ e. applied_in (policy_of (take (suc i) s.lines.now)) l e (take i s.lines.now))) (sym (keeps.numbers.digests q))
        ∙ same_read (λ e. applied_in (policy_of (take (suc i) s.lines.now)) l e (take i s.lines.now)) (λ e. applied_in (policy_of (take (suc i) s.lines.now)) l e (take (suc i) s.lines.now))
        (λ e. sym (merged_in_next (policy_of (take (suc i) s.lines.now)) s.lines.now i n k d v here l e)) (record_digest mid.records q)));
    written = λ l x q there. knows.stores.written.written l x q (sym (ap (λ (y : Judge). kept_view y l) keeps.rest) ∙ there);
    listed = λ l x q there some.
        let h : (u : ℕ) × IsRecordOf s.records q u × (has_node (written_of x u) q ≡ true) = knows.stores.written.listed l x q (sym (ap (λ (y : Judge). kept_view y l) keeps.rest) ∙ there) some in
        (h.0, ap (option_map partition_of) (keeps.numbers.digests q) ∙ h.1, h.2);
    listed_only = λ l x u q there h. ap (option_map partition_of) (keeps.numbers.digests q) ∙ knows.stores.written.listed_only l x u q (sym (ap (λ (y : Judge). kept_view y l) keeps.rest) ∙ there) h;
  }

  pub merge_seen : SeesStores mid (suc i) s.lines.now (take (suc i) s.lines.now)
  merge_seen = record {
    records = records_merged;
    contents = subst (λ (by : Policy). SeesContents mid.stores mid.records s.lines.now by (suc i)) mid_by (subst (λ (ls : List Line). SeesContents mid.stores mid.records ls mid.by (suc i)) mid_lines held.contents);
    copies = subst (λ (ls : List Line). SeesCopies mid.stores mid.records ls (suc i)) mid_lines held.copies;
    written = written_merged;
  }

same_numbers : (rs : Records) → KeepsNumbers rs rs
same_numbers rs = record { numbers = λ d. refl; digests = λ r. refl }

pub known_held : (s : Judge) (i : ℕ) → Knows s i → SeesHeld s i
known_held s i knows = let h : SeesHeld (record s { records = s.records }) i = ready_held s s.records i knows (same_numbers s.records) in record { contents = h.contents; copies = h.copies }

pub known_here : (s : Judge) (i n r p : ℕ) (l : Line) (d : List ℕ) (v : Version) → Knows s i → slice_get s.lines.now i ≡ Some l → IsBrought l n d v → record_digest s.records r ≡ Some d → p ≡ partition_of d → BringsHere s i n r p l d v
known_here s i n r p l d v knows stands brought named part = record { stands = stands; brought = brought; named = named; part = sym part; numbered = knows.stores.records.numbered }

-- a fact of each part, where the call succeeds
pub three : {T E A B C Q : Type 0} (r : Result T E) → (A → B → C → Q) → OnOk r A → OnOk r B → OnOk r C → OnOk r Q
three {T} {E} {A} {B} {C} {Q} (Ok x) f a b c = f a b c
three {T} {E} {A} {B} {C} {Q} (Err e) f a b c = tt
