-- The run of two nodes, one of which acknowledges a batch of which it holds a part.
use Rattle.std.proofs.Common.{◌≡◌, ℕ, zero, suc, ◌==◌, Bool, true, false, not, ◌&&◌, ◌||◌, List, Option, Some, None, refl, sym, ap, ◌∙◌, subst, arith, ◌⊎◌, inl, inr, ⊎_elim}
use Rattle.std.specs.Prelude.{if◌then◌else◌, is_some, bytes_eq, take, slice_get}
use Rattle.conflict_order.specs.declared.version.Version.{Version}
use Rattle.conflict_order.specs.Join.{join}
use Rattle.conflict_order.specs.Next.{next}
use Rattle.conflict_order.specs.Order.{version_cmp, is_newer}
use Rattle.conflict_order.proofs.OrderLaws.{AtMost_refl}
use Rattle.cluster_types.specs.Partitions.{partition_of}
use Rattle.cluster_types.specs.RowBytes.{bits_of}
use Rattle.wire_messages.specs.declared.message.Message.TheVariants as message
use Rattle.wire_messages.specs.Numbers.{number_field, number_at, byte_field, byte_at, flag_field, flag_at}
use Rattle.wire_messages.specs.Fields.{field, items_at}
use Rattle.wire_messages.specs.Keys.{key_field, key_where, key_at}
use Rattle.wire_messages.specs.Versions.{bytes_at, digest_at, digest_above_at, value_field, value_at, body_field, body_at, version_field, version_at, record_field, record_at, records_field, records_at}
use Rattle.wire_messages.specs.Rows.{row_at, state_field, state_at, entry_field, entry_at, state_row_field, state_row_at}
use Rattle.wire_messages.specs.Kinds.{state_message_at, batch_at, batch_ack_at, progress_at}
use Rattle.wire_messages.specs.Spelling.{spelling}
use Rattle.wire_messages.specs.Decoding.{decoded, message_of}
use Rattle.partition_lists.specs.Hashes.{fnv1a, jenkins_state, jenkins_end, node_bytes, partition_bytes, place}
use Rattle.partition_lists.specs.Lists.{list}
use Rattle.journal_readings.specs.Examples.{digest, second, key, version, two}
use Rattle.cluster_laws.specs.Changed.{at_number, at_digest}
use Rattle.cluster_laws.specs.Ground.{Ground, is_view_member, view_master, is_view_replica, other_view_replicas, view_acting, is_view_empty, same_view_class, is_view_class_first, view_sends_to, asks}
use Rattle.cluster_laws.specs.Stay.{Versions, Running}
use Rattle.cluster_laws.specs.Picture.{Picture, start}
use Rattle.cluster_laws.specs.Laws.{SettledHoldFold}
use Rattle.cluster_laws.specs.Licences.{IsState, IsAmong, IsDone, WasSent, Licensed, picture_after_all}
use Rattle.cluster_laws.specs.Weaker.{Incomplete, sides, side, third, laden, laden_apart, AcksPart, two_records, batch_lines, batch_run, all_bits, no_bits_bytes, progress_bytes, early_settling_lines, settled_in_part, Breaks, AtEnd}
use Rattle.cluster_laws.proofs.At.{numbers, digests, changed_either, number_same, or_cases, some_same, no_some, differ}
use Rattle.cluster_laws.proofs.LoneRun.{licensed_or}
use Rattle.cluster_laws.proofs.BitRows.{is_set, is_clear}
use Rattle.cluster_laws.proofs.SidesRun.{licensed_both, own_row, alone, write, whole_there, away_with, no_records, sends_nothing, none}

unfoldable computing : Unit {0}
unfolding join next version_cmp is_newer fnv1a jenkins_state jenkins_end node_bytes partition_bytes place list view_master is_view_replica other_view_replicas view_acting is_view_empty same_view_class is_view_class_first view_sends_to asks number_field number_at byte_field byte_at flag_field flag_at field items_at key_field key_where key_at bytes_at digest_at digest_above_at value_field value_at body_field body_at version_field version_at record_field record_at records_field records_at row_at state_field state_at entry_field entry_at state_row_field state_row_at state_message_at batch_at batch_ack_at progress_at spelling decoded message_of
computing = tt

abbrev G : Ground
G = sides 2

-- ---- the messages are read back

read_batch : message_of (spelling (message.Batch two_records)) ≡ Some (message.Batch two_records)
unfolding computing
read_batch = refl

read_progress : message_of (progress_bytes all_bits no_bits_bytes) ≡ Some (message.Progress (key 4 2) false (bits_of all_bits) (bits_of no_bits_bytes) (bits_of no_bits_bytes))
unfolding computing
read_progress = refl

-- ---- node 1 writes twice

first_licensed : Licensed G start laden
unfolding computing
first_licensed = (
  (refl, (refl, record { above = refl; member = refl; row = λ p d e. refl; quiet = refl })),
  (
    (refl, record { is_in = record { view = refl; stays = refl }; first = refl; rows = λ m e. own_row (1 == m) e }),
    (
      (refl, record { is_in = record { view = refl; stays = refl }; exchanged = refl; number = refl; acts = inl (refl, refl); free = λ u y e. no_some e }),
      (
        (refl, record { transaction = alone digest; resolved = record { is_in = record { view = refl; stays = refl }; running = refl; digest = refl; unapplied = refl; answered = refl }; next = refl }),
        (
          (refl, record { is_in = record { view = refl; stays = refl }; transaction = record (alone digest) { applied = Some (write (version 0 1 97)) }; write = write (version 0 1 97); running = refl; applied = refl; acked = refl }),
          (
            (refl, record { is_in = record { view = refl; stays = refl }; exchanged = refl; number = refl; acts = inl (refl, refl); free = λ u y e. absurd (closed (1 == u) _ _ y e) }),
            (
              (refl, record { transaction = alone third; resolved = record { is_in = record { view = refl; stays = refl }; running = refl; digest = refl; unapplied = refl; answered = refl }; next = refl }),
              (
                (refl, record { is_in = record { view = refl; stays = refl }; transaction = record (alone third) { applied = Some (record { version = version 0 1 99; nth = 2 }) }; write = record { version = version 0 1 99; nth = 2 }; running = refl; applied = refl; acked = refl }),
                tt,
              ),
            ),
          ),
        ),
      ),
    ),
  ),
)
  where
    -- the first transaction isn't open any more
    closed : (b : Bool) (x z : Option Running) (y : Running) → (if b then None else (if b then x else (if b then z else None))) ≡ Some y → ⊥
    closed true x z y e = no_some e
    closed false x z y e = no_some e

second_licensed : Licensed G (picture_after_all G start laden) (side 2 two second (version 0 1 98))
unfolding computing
second_licensed = (
  (refl, (refl, record { above = refl; member = refl; row = λ p d e. refl; quiet = refl })),
  (
    (refl, record { is_in = record { view = refl; stays = refl }; first = refl; rows = λ m e. own_row (2 == m) e }),
    (
      (refl, record { is_in = record { view = refl; stays = refl }; exchanged = refl; number = refl; acts = inl (refl, refl); free = λ u y e. no_some e }),
      (
        (refl, record { transaction = alone second; resolved = record { is_in = record { view = refl; stays = refl }; running = refl; digest = refl; unapplied = refl; answered = refl }; next = refl }),
        (
          (refl, record { is_in = record { view = refl; stays = refl }; transaction = record (alone second) { applied = Some (write (version 0 1 98)) }; write = write (version 0 1 98); running = refl; applied = refl; acked = refl }),
          tt,
        ),
      ),
    ),
  ),
)

-- ---- they meet

abbrev at_apart : Picture
at_apart = picture_after_all G start laden_apart

second_enters : (p : ℕ) → IsState (at_apart.node 2).content ((at_apart.node 2).stamp p) p (G.row (key 4 2) 2 p)
unfolding computing
second_enters = whole_there (at_apart.node 2).content second (version 0 1 98) (key 1 2) 1 (at_apart.node 2).stamp refl refl refl (away_with no_records second (version 0 1 98) refl (λ x _. refl))

first_enters : (p : ℕ) → IsState (at_apart.node 1).content ((at_apart.node 1).stamp p) p (G.row (key 4 2) 1 p)
unfolding computing
first_enters = whole_there (at_apart.node 1).content digest (version 0 1 97) (key 1 1) 2 (at_apart.node 1).stamp refl refl refl
    (away_with (at_digest no_records digest (Some (version 0 1 97))) third (version 0 1 99) refl (away_with no_records digest (version 0 1 97) refl (λ x _. refl)))

-- both rows are there: the one that came, and the own one
pub both_rows : (own other m : ℕ) → is_view_member G (key 4 2) m ≡ true → (own ≡ 1) × (other ≡ 2) ⊎ (own ≡ 2) × (other ≡ 1) → at_number (at_number (λ _. false) own true) other true m ≡ true
both_rows own other m e a = changed_either numbers (λ b. b ≡ true) (at_number (λ _. false) own true) other true m (λ _. refl)
    (λ i. changed_either numbers (λ b. b ≡ true) (λ _. false) own true m (λ _. refl) (λ j. absurd (grind (arith, a, i, j, is_two))))
  where
    is_two : (2 ≡ m) ⊎ (1 ≡ m)
    is_two = ⊎_elim (λ z. inl (number_same 2 m z)) (λ z. ⊎_elim (λ q. inr (number_same 1 m q)) (λ q. differ q refl) (or_cases (1 == m) false z)) (or_cases (2 == m) ((1 == m) || false) e)

-- what holds of the two records holds of each
each_record : (P : List ℕ → Version → Type 0) → P digest (version 0 1 97) → P third (version 0 1 99) → (d : List ℕ) (v : Version) → IsAmong two_records.records d v → P d v
each_record P a b d v i = go i.place i.here
  where
    go : (place : ℕ) → slice_get two_records.records place ≡ Some (d, v) → P d v
    go zero e = subst (λ (r : List ℕ × Version). P r.0 r.1) (some_same e) a
    go (suc zero) e = subst (λ (r : List ℕ × Version). P r.0 r.1) (some_same e) b
    go (suc (suc place)) e = no_some e

-- what node 1 holds, and hands on
abbrev content : Versions
content = at_digest (at_digest no_records digest (Some (version 0 1 97))) third (Some (version 0 1 99))

abbrev held_on : ℕ → List ℕ → Bool
held_on r d = view_sends_to G (key 4 2) (partition_of d) 1 r && is_some (content d)

abbrev at_line : ℕ → Picture
at_line i = picture_after_all G start (take i settled_in_part)

batch_sent : WasSent (at_line 22) 1 2 (message.Batch two_records)
unfolding computing
batch_sent = record { number = 3; packet = record { from = 1; to = 2; size = _; message = Some (message.Batch two_records) }; sent = refl; ends = (refl, refl); message = refl }

batch_still : WasSent (at_line 23) 1 2 (message.Batch two_records)
unfolding computing
batch_still = record { number = 3; packet = record { from = 1; to = 2; size = _; message = Some (message.Batch two_records) }; sent = refl; ends = (refl, refl); message = refl }

sent_licensed : Licensed G start batch_run
unfolding computing
sent_licensed = licensed_both G start laden_apart batch_lines (licensed_both G start laden (side 2 two second (version 0 1 98)) first_licensed second_licensed) (
  (refl, (refl, record { above = refl; member = refl; row = second_enters; quiet = refl })),
  (
    (refl, (refl, record { above = refl; member = refl; row = first_enters; quiet = refl })),
    (
      (refl, (refl, record { is_in = record { view = refl; stays = refl }; row = λ p. refl })),
      (
        (refl, tt),
        (
          (refl, record { is_in = record { view = refl; stays = refl }; first = refl; rows = λ m e. both_rows 2 1 m e (inr (refl, refl)) }),
          (
            (refl, (refl, record { is_in = record { view = refl; stays = refl }; row = λ p. refl })),
            (
              (refl, tt),
              (
                (refl, record { is_in = record { view = refl; stays = refl }; first = refl; rows = λ m e. both_rows 1 2 m e (inl (refl, refl)) }),
                (
                  (
                    refl,
                    (
                      refl,
                      record {
                        is_in = record { view = refl; stays = refl };
                        exchanged = refl;
                        batch = inr (refl, refl, record { held = each_record (λ d v. content d ≡ Some v) refl refl; pending = each_record (λ d v. held_on 2 d ≡ true) refl refl });
                      },
                    ),
                  ),
                  ((record { is_in = record { view = refl; stays = refl }; from = 1; brought = inl (two_records, batch_sent, refl, record { place = 0; here = refl }); owed = λ o e. no_some e }), tt),
                ),
              ),
            ),
          ),
        ),
      ),
    ),
  ),
)

-- ---- the acknowledgement

acks_part : AcksPart G (at_line 23) 2 1 (key 4 2) 1
unfolding computing
acks_part = record {
  is_in = record { view = refl; stays = refl };
  batch = two_records;
  named = (refl, refl);
  came = batch_still;
  digest = digest;
  version = version 0 1 97;
  among = record { place = 0; here = refl };
  held = AtMost_refl (Some (version 0 1 97));
}

pub one_left : (b x : Bool) → b ≡ false → ((b || false) && x) ≡ false
one_left b x e = ap (λ (c : Bool). (c || false) && x) e

-- node 1 hands on to nobody but node 2
sends_no_other : (r : ℕ) → (2 ≡ r → ⊥) → view_sends_to G (key 4 2) 4095 1 r ≡ false
unfolding computing
sends_no_other r apart = one_left (2 == r) _ (go (2 == r) refl)
  where
    go : (b : Bool) → (2 == r) ≡ b → b ≡ false
    go true e = absurd (apart (number_same 2 r e))
    go false e = refl

pub and_false : (x : Bool) → (x && false) ≡ false
and_false true = refl
and_false false = refl

-- what was in the batch isn't pending, and nothing else was
unpending : (s a b : Bool) → ((s && is_some (if b then Some (version 0 1 99) else (if a then Some (version 0 1 97) else None))) && not (a || (b || false))) ≡ false
unpending false a b = refl
unpending true true true = refl
unpending true true false = refl
unpending true false true = refl
unpending true false false = refl

first_done : (p : ℕ) → IsDone ((at_line 25).stay 1 (key 4 2)) p
unfolding computing
first_done p = record {
  exchanged = refl;
  none = λ r d dp. changed_either numbers (λ (f : List ℕ → Bool). f d ≡ false) held_on 2 _ r (λ _. unpending (view_sends_to G (key 4 2) (partition_of d) 1 2) (bytes_eq digest d) (bytes_eq third d)) (λ apart. elsewhere r d apart);
}
  where
    sends_none : (r : ℕ) (d e : List ℕ) (x : Bool) → (2 ≡ r → ⊥) → partition_of d ≡ 4095 → d ≡ e → (view_sends_to G (key 4 2) (partition_of e) 1 r && x) ≡ false
    sends_none r d e x apart is same = none (view_sends_to G (key 4 2) (partition_of e) 1 r) x (ap (λ (q : ℕ). view_sends_to G (key 4 2) q 1 r) (ap partition_of (sym same) ∙ is) ∙ sends_no_other r apart)

    elsewhere : (r : ℕ) (d : List ℕ) → (2 ≡ r → ⊥) → held_on r d ≡ false
    elsewhere r d apart = changed_either digests (λ (o : Option Version). (view_sends_to G (key 4 2) (partition_of d) 1 r && is_some o) ≡ false) (at_digest no_records digest (Some (version 0 1 97))) third (Some (version 0 1 99)) d
        (λ i. sends_none r third d true apart refl i)
        (λ _. changed_either digests (λ (o : Option Version). (view_sends_to G (key 4 2) (partition_of d) 1 r && is_some o) ≡ false) no_records digest (Some (version 0 1 97)) d
        (λ i. sends_none r digest d true apart refl i) (λ _. and_false (view_sends_to G (key 4 2) (partition_of d) 1 r)))

sends_nobody : (r : ℕ) → view_sends_to G (key 4 2) 4095 2 r ≡ false
unfolding computing
sends_nobody r = sends_nothing (2 == r) _

second_done : IsDone ((at_line 27).stay 2 (key 4 2)) 4095
unfolding computing
second_done = record { exchanged = refl; none = λ r d dp. none (view_sends_to G (key 4 2) (partition_of d) 2 r) _ (ap (λ (q : ℕ). view_sends_to G (key 4 2) q 2 r) dp ∙ sends_nobody r) }

other_told : (m : ℕ) → is_view_member G (key 4 2) m ≡ true → (m ≡ 2 → ⊥) → ((at_line 27).stay 2 (key 4 2)).told m 4095 ≡ true
unfolding computing
other_told m e apart = ⊎_elim (λ z. absurd (apart (sym (number_same 2 m z)))) (λ z. ⊎_elim (λ q. subst (λ (n : ℕ). ((at_line 27).stay 2 (key 4 2)).told n 4095 ≡ true) (number_same 1 m q) is_set) (λ q. differ q refl) (or_cases (1 == m) false z)) (or_cases (2 == m) ((1 == m) || false) e)

pub incomplete_breaks : Breaks Incomplete (AtEnd SettledHoldFold) G settled_in_part
unfolding computing
incomplete_breaks = record {
  ground = record { some = omega arith };
  allowed = licensed_or Incomplete G start batch_run early_settling_lines sent_licensed (
    inr (refl, acks_part),
    (
      inl (refl, tt),
      (
        inl (refl, (refl, record { is_in = record { view = refl; stays = refl }; done = λ p _. first_done p; handed = λ p e. absurd (is_clear p e); settled = λ p e. absurd (is_clear p e) })),
        (
          inl (refl, tt),
          (
            inl (
              refl,
              record {
                is_in = record { view = refl; stays = refl };
                exchanged = refl;
                master = refl;
                some = refl;
                moved = inr (refl, record { own = second_done; others = other_told });
                free = record { none = λ t y e. no_some e };
              },
            ),
            tt,
          ),
        ),
      ),
    ),
  );
  broken = λ law. no_some (law (key 4 2) 4095 2 third (inl refl) (λ t e f. no_some f) refl refl refl);
}
