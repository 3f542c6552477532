-- What is known stays so as a record is opened.
use Rattle.std.proofs.Common.{◌≡◌, ℕ, ◌≤◌, Bool, true, false, cond, List, [], Option, Some, None, option_map, ◌⊎◌, inl, inr, refl, sym, ap, subst, ◌∙◌, is_some}
use Rattle.std.specs.Prelude.{take, nat_eq, bytes_eq}
use Rattle.std.proofs.lemmas.Slice.Eq.{bytes_eq-Decides}
use Rattle.conflict_order.specs.declared.version.Version.{Version}
use Rattle.cluster_types.specs.Partitions.{partition_of}
use Rattle.journal_readings.specs.Lines.{has_node}
use Rattle.journal_readings.specs.Settings.{policy_of, nodes}
use Rattle.journal_readings.specs.Contents.{content, applied}
use Rattle.journal_readings.specs.Entries.{applied_in}
use Rattle.journal_readings.proofs.AlongLaws.{some_same, no_some}
use Rattle.journal_readings.proofs.Unwritten.{IsUnwritten, unwritten_front, content-none, applied-none, applied_in-none}
use Rattle.audit_laws.proofs.Tests.{differ, number_same, number_here}
use Rattle.audit_state.specs.declared.history.Change.{Change}
use Rattle.audit_core.specs.declared.judge.Judge.{Judge}
use Rattle.audit_state.specs.declared.records.Records.{Records}
use Rattle.audit_state.specs.Histories.{value_after, value_now}
use Rattle.audit_core.specs.Holders.{content_now, holds_top, holds_newest}
use Rattle.audit_state.specs.Places.{placed}
use Rattle.audit_state.specs.Records.{record_number, record_digest, AreNumberedRecords, Opens}
use Rattle.audit_core.specs.Stored.{SeesRecords, SeesContents, SeesCopies, SeesWritten, Knows, IsRecordOf, IsUnchanged, read_of}
use Rattle.audit_state.specs.Stores.{history_of, held_of, touched_of, changes_of}
use Rattle.audit_state.specs.Written.{written_of}
use Rattle.audit_core.proofs.FoldLaws.{take_take}
use Rattle.audit_core.proofs.HolderLaws.{count_same}

-- ---- the records

module _ (old new : Records) (d : List ℕ) (r : ℕ) (opens : Opens old new d r) (was : AreNumberedRecords old) (numbered : AreNumberedRecords new) where
  -- a record keeps its number
  pub number_kept : (e : List ℕ) (q : ℕ) → record_number old e ≡ Some q → record_number new e ≡ Some q
  number_kept e q h = go (nat_eq r q) refl
    where
      go : (b : Bool) → nat_eq r q ≡ b → record_number new e ≡ Some q
      go false f = numbered.numbers e q (opens.digests q ∙ (ap (λ (b : Bool). cond b (Some d) (record_digest old q)) f ∙ was.digests e q h))
      go true f = opens.numbers e ∙ pick (bytes_eq d e)
        where
          pick : (b : Bool) → cond b (Some r) (record_number old e) ≡ Some q
          pick true = ap Some (number_same r q f)
          pick false = h

  -- the record of a number is what it was, or was none
  pub digest_kept : (q : ℕ) → (record_digest old q ≡ None) ⊎ (record_digest new q ≡ record_digest old q)
  digest_kept q = go (record_digest old q) refl
    where
      go : (o : Option (List ℕ)) → record_digest old q ≡ o → (record_digest old q ≡ None) ⊎ (record_digest new q ≡ record_digest old q)
      go None e = inl e
      go (Some x) e = inr (numbered.digests x q (number_kept x q (was.numbers x q e)) ∙ sym e)

-- ---- what is known of them

module _ (s : Judge) (rs : Records) (i r : ℕ) (d : List ℕ) (opens : Opens s.records rs d r) (numbered : AreNumberedRecords rs) (knows : Knows s i) where
  digest_here : record_digest rs r ≡ Some d
  digest_here = opens.digests r ∙ ap (λ (b : Bool). cond b (Some d) (record_digest s.records r)) (number_here r)

  digest_apart : (q : ℕ) → nat_eq r q ≡ false → record_digest rs q ≡ record_digest s.records q
  digest_apart q e = opens.digests q
      ∙ ap (λ (b : Bool). cond b (Some d) (record_digest s.records q)) e

  -- the number was the record's, or no record's
  digest_before : (record_digest s.records r ≡ None) ⊎ (record_digest s.records r ≡ Some d)
  digest_before = go (record_digest s.records r) refl
    where
      other : (e : List ℕ) → record_digest s.records r ≡ Some e → (b : Bool) → bytes_eq d e ≡ b → record_digest s.records r ≡ Some d
      other e f true p = f ∙ ap Some (sym ((bytes_eq-Decides d e).0 p))
      other e f false p = f ∙ (sym (numbered.digests e r (opens.numbers e ∙ (ap (λ (b : Bool). cond b (Some r) (record_number s.records e)) p ∙ knows.stores.records.numbered.numbers e r f))) ∙ digest_here)

      go : (o : Option (List ℕ)) → record_digest s.records r ≡ o → (record_digest s.records r ≡ None) ⊎ (record_digest s.records r ≡ Some d)
      go None e = inl e
      go (Some e) f = inr (other e f (bytes_eq d e) refl)

  -- where it was no record's, the record had none
  none_before : record_digest s.records r ≡ None → record_number s.records d ≡ None
  none_before e = go (record_number s.records d) refl
    where
      same : (q : ℕ) → record_digest s.records q ≡ Some d → record_digest rs q ≡ Some d
      same q f = pick (nat_eq r q) refl
        where
          pick : (b : Bool) → nat_eq r q ≡ b → record_digest rs q ≡ Some d
          pick true p = ap (record_digest rs) (sym (number_same r q p)) ∙ digest_here
          pick false p = digest_apart q p ∙ f

      go : (o : Option ℕ) → record_number s.records d ≡ o → o ≡ None
      go None f = refl
      go (Some q) f =
          let was : record_digest s.records q
          ≡ Some d = knows.stores.records.numbered.digests d q f in
          absurd (no_some (sym e ∙ (ap (record_digest s.records) (some_same (sym opens.number ∙ numbered.numbers d q (same q was))) ∙ was)))

  -- what is read of the record of each number stays
  reads : (f : List ℕ → Option Version) → (record_number s.records d ≡ None → f d ≡ None) → (q : ℕ) → read_of f (record_digest s.records q) ≡ read_of f (record_digest rs q)
  reads f none q = go (nat_eq r q) refl
    where
      here : (record_digest s.records r ≡ None) ⊎ (record_digest s.records r ≡ Some d) → read_of f (record_digest s.records r) ≡ f d
      here (inl e) = ap (read_of f) e ∙ sym (none (none_before e))
      here (inr e) = ap (read_of f) e

      go : (b : Bool) → nat_eq r q ≡ b → read_of f (record_digest s.records q) ≡ read_of f (record_digest rs q)
      go true e = subst (λ (x : ℕ). read_of f (record_digest s.records x) ≡ read_of f (record_digest rs x)) (number_same r q e) (here digest_before ∙ sym (ap (read_of f) digest_here))
      go false e = ap (read_of f) (sym (digest_apart q e))

  was_of : (q p : ℕ) → IsRecordOf rs q p → IsRecordOf s.records q p
      ⊎ (record_digest s.records q ≡ None)
  was_of q p h = go (nat_eq r q) refl
    where
      here : (record_digest s.records r ≡ None) ⊎ (record_digest s.records r ≡ Some d) → IsRecordOf rs r p → IsRecordOf s.records r p ⊎ (record_digest s.records r ≡ None)
      here (inl e) f = inr e
      here (inr e) f = inl (ap (option_map partition_of) (e ∙ sym digest_here) ∙ f)

      go : (b : Bool) → nat_eq r q ≡ b → IsRecordOf s.records q p
          ⊎ (record_digest s.records q ≡ None)
      go true e = subst (λ (x : ℕ). IsRecordOf s.records x p ⊎ (record_digest s.records x ≡ None)) (number_same r q e) (here digest_before (subst (λ (x : ℕ). IsRecordOf rs x p) (sym (number_same r q e)) h))
      go false e = inl (ap (option_map partition_of) (sym (digest_apart q e)) ∙ h)

  is_of : (q p : ℕ) → IsRecordOf s.records q p → IsRecordOf rs q p
  is_of q p h = go (nat_eq r q) refl
    where
      here : (record_digest s.records r ≡ None) ⊎ (record_digest s.records r ≡ Some d) → IsRecordOf s.records r p → IsRecordOf rs r p
      here (inl e) f = absurd (no_some (sym (ap (option_map partition_of) e) ∙ f))
      here (inr e) f = ap (option_map partition_of) (digest_here ∙ sym e) ∙ f

      go : (b : Bool) → nat_eq r q ≡ b → IsRecordOf rs q p
      go true e = subst (λ (x : ℕ). IsRecordOf rs x p) (number_same r q e) (here digest_before (subst (λ (x : ℕ). IsRecordOf s.records x p) (sym (number_same r q e)) h))
      go false e = ap (option_map partition_of) (digest_apart q e) ∙ h

  none_still : (q : ℕ) → record_digest rs q ≡ None → record_digest s.records q ≡ None
  none_still q h = go (nat_eq r q) refl
    where
      go : (b : Bool) → nat_eq r q ≡ b → record_digest s.records q ≡ None
      go true e = absurd (no_some (sym h ∙ (ap (record_digest rs) (sym (number_same r q e)) ∙ digest_here)))
      go false e = sym (digest_apart q e) ∙ h

  unwritten : record_number s.records d ≡ None → (a : ℕ) → a ≤ i
      → IsUnwritten d (take a s.lines.now)
  unwritten e a le = subst (IsUnwritten d) (take_take a i s.lines.now le) (unwritten_front d a (take i s.lines.now) (knows.stores.records.unbrought d e))

  records_open : SeesRecords (record s { records = rs }) s.lines.now (take i s.lines.now)
  records_open = record {
    numbered = numbered;
    unbrought = λ e h. knows.stores.records.unbrought e (none_of e (bytes_eq d e) (sym (opens.numbers e) ∙ h));
    newest = λ q. ap (placed s.lines.now) (opens.newest q) ∙ (knows.stores.records.newest q ∙ reads (λ e. applied (policy_of (take i s.lines.now)) e (take i s.lines.now)) (λ e. applied-none (policy_of (take i s.lines.now)) d (take i s.lines.now) (knows.stores.records.unbrought d e)) q);
    holders = λ q. opens.holders q ∙ (knows.stores.records.holders q
        ∙ count_same (λ m. holds_newest s m q) (λ m. holds_newest (record s { records = rs }) m q) (nodes (take i s.lines.now))
        (λ m h. ap (λ (o : Option ℕ). holds_top s.by (placed s.lines.now o) (placed s.lines.now (content_now s m q))) (sym (opens.newest q))));
  }
    where
      none_of : (e : List ℕ) (b : Bool) → cond b (Some r) (record_number s.records e) ≡ None → record_number s.records e ≡ None
      none_of e true h = absurd (no_some (sym h))
      none_of e false h = h

  contents_open : SeesContents s.stores rs s.lines.now (policy_of (take i s.lines.now)) i
  contents_open = record {
    held = λ n q a le. knows.stores.contents.held n q a le ∙ reads (λ e. content (policy_of (take i s.lines.now)) n e (take a s.lines.now)) (λ e. content-none (policy_of (take i s.lines.now)) n d (take a s.lines.now) (unwritten e a le)) q;
    below = knows.stores.contents.below;
    fresh = λ n q e. knows.stores.contents.fresh n q (none_still q e);
  }

  copies_open : SeesCopies s.stores rs s.lines.now i
  copies_open = record {
    holding = knows.stores.copies.holding;
    holding_below = knows.stores.copies.holding_below;
    changes_below = knows.stores.copies.changes_below;
    held = λ n p q f h. held n p q h (was_of q p f);
    held_only = λ n p q h. is_of q p (knows.stores.copies.held_only n p q h);
    held_ever = knows.stores.copies.held_ever;
    touched = λ n p q f h. touched n p q h (was_of q p f);
    touched_only = λ n p q h. is_of q p (knows.stores.copies.touched_only n p q h);
    changes_only = λ n p x h. is_of x.number p (knows.stores.copies.changes_only n p x h);
    changes = λ n p q a b f le h. changes n p q a b le h (was_of q p f);
  }
    where
      fresh : (n q : ℕ) → record_digest s.records q ≡ None → history_of s.stores n q ≡ []
      fresh n q e = knows.stores.contents.fresh n q e

      held : (n p q : ℕ) → is_some (value_now (history_of s.stores n q)) ≡ true → IsRecordOf s.records q p ⊎ (record_digest s.records q ≡ None) → has_node (held_of s.stores n p) q ≡ true
      held n p q h (inl f) = knows.stores.copies.held n p q f h
      held n p q h (inr e) = differ h (ap (λ (c : List Change). is_some (value_now c)) (fresh n q e))

      touched : (n p q : ℕ) → has_node (touched_of s.stores n p) q ≡ false → IsRecordOf s.records q p ⊎ (record_digest s.records q ≡ None) → history_of s.stores n q ≡ []
      touched n p q h (inl f) = knows.stores.copies.touched n p q f h
      touched n p q h (inr e) = fresh n q e

      changes : (n p q a b : ℕ) → a ≤ b → IsUnchanged (changes_of s.stores n p) q a b → IsRecordOf s.records q p ⊎ (record_digest s.records q ≡ None) → value_after (history_of s.stores n q) a ≡ value_after (history_of s.stores n q) b
      changes n p q a b le h (inl f) = knows.stores.copies.changes n p q a b f le h
      changes n p q a b le h (inr e) = ap (λ (c : List Change). value_after c a) (fresh n q e) ∙ sym (ap (λ (c : List Change). value_after c b) (fresh n q e))

  written_open : SeesWritten (record s { records = rs }) s.lines.now (take i s.lines.now)
  written_open = record {
    applied = λ l x q there. knows.stores.written.applied l x q there ∙ reads (λ e. applied_in (policy_of (take i s.lines.now)) l e (take i s.lines.now)) (λ e. applied_in-none (policy_of (take i s.lines.now)) l d (take i s.lines.now) (knows.stores.records.unbrought d e)) q;
    written = λ l x q there. knows.stores.written.written l x q there;
    listed = λ l x q there some.
        let h : (u : ℕ) × IsRecordOf s.records q u × (has_node (written_of x u) q ≡ true) = knows.stores.written.listed l x q there some in
        (h.0, is_of q h.0 h.1, h.2);
    listed_only = λ l x u q there h. is_of q u (knows.stores.written.listed_only l x u q there h);
  }

  pub knows_open : Knows (record s { records = rs }) i
  knows_open = record {
    lawful = knows.lawful;
    policy = knows.policy;
    stores = record { records = records_open; contents = contents_open; copies = copies_open; written = written_open };
  }
