-- The run of two nodes, one of which writes after it has handed the partition over.
use Rattle.std.proofs.Common.{◌≡◌, ℕ, zero, suc, ◌==◌, Bool, true, false, not, ◌&&◌, ◌||◌, List, [], Some, None, refl, sym, ap, ◌∙◌, subst, arith, inl, inr, ⊎_elim}
use Rattle.std.specs.Prelude.{if◌then◌else◌, is_some, bytes_eq, take, slice_get}
use Rattle.conflict_order.specs.declared.policy.Policy.TheVariants.{Time}
use Rattle.conflict_order.specs.declared.version.Version.{Version}
use Rattle.conflict_order.specs.Join.{join, AtMost}
use Rattle.conflict_order.specs.Next.{next}
use Rattle.conflict_order.specs.Order.{version_cmp, is_newer}
use Rattle.conflict_order.proofs.OrderLaws.{AtMost_refl}
use Rattle.cluster_types.specs.Partitions.{partition_of}
use Rattle.cluster_types.specs.Rows.{bit}
use Rattle.cluster_types.specs.RowBytes.{bits_of}
use Rattle.wire_messages.specs.declared.message.Message.TheVariants as message
use Rattle.wire_messages.specs.Numbers.{number_field, number_at, byte_field, byte_at, flag_field, flag_at}
use Rattle.wire_messages.specs.Fields.{field, items_at}
use Rattle.wire_messages.specs.Keys.{key_field, key_where, key_at}
use Rattle.wire_messages.specs.Versions.{bytes_at, digest_at, digest_above_at, value_field, value_at, body_field, body_at, version_field, version_at, record_field, record_at, records_field, records_at}
use Rattle.wire_messages.specs.Rows.{row_at, state_field, state_at, entry_field, entry_at, state_row_field, state_row_at}
use Rattle.wire_messages.specs.Kinds.{state_message_at, batch_at, batch_ack_at, progress_at}
use Rattle.wire_messages.specs.Spelling.{spelling}
use Rattle.wire_messages.specs.Decoding.{decoded, message_of}
use Rattle.partition_lists.specs.Hashes.{fnv1a, jenkins_state, jenkins_end, node_bytes, partition_bytes, place}
use Rattle.partition_lists.specs.Lists.{list}
use Rattle.journal_readings.specs.Examples.{digest, key, version, one}
use Rattle.cluster_laws.specs.Changed.{at_digest}
use Rattle.cluster_laws.specs.Changes.{running_at_opening}
use Rattle.cluster_laws.specs.Ground.{is_view_member, view_master, is_view_replica, other_view_replicas, view_acting, is_view_empty, same_view_class, is_view_class_first, view_sends_to, asks}
use Rattle.cluster_laws.specs.Stay.{Versions, Running}
use Rattle.cluster_laws.specs.Picture.{Picture, start}
use Rattle.cluster_laws.specs.Laws.{SettledHoldFold}
use Rattle.cluster_laws.specs.Licences.{IsState, IsAmong, IsDone, WasSent, Licensed, picture_after_all}
use Rattle.cluster_laws.specs.Weaker.{Late, side, handing_ground, handed_on, no_bits_bytes, last_bit, progress_bytes, moving, handed_over, writing_late, written_late, Breaks, AtEnd}
use Rattle.cluster_laws.proofs.At.{numbers, changed_either, number_same, or_cases, some_same, no_some, differ}
use Rattle.cluster_laws.proofs.LoneRun.{licensed_or}
use Rattle.cluster_laws.proofs.BitRows.{is_set, is_clear, is_last, only_last}
use Rattle.cluster_laws.proofs.SidesRun.{licensed_both, own_row, alone, write, whole_there, away_with, no_records}
use Rattle.cluster_laws.proofs.PartRun.{both_rows, and_false, one_left}

unfoldable computing : Unit {0}
unfolding join next version_cmp is_newer fnv1a jenkins_state jenkins_end node_bytes partition_bytes place list view_master is_view_replica other_view_replicas view_acting is_view_empty same_view_class is_view_class_first view_sends_to asks number_field number_at byte_field byte_at flag_field flag_at field items_at key_field key_where key_at bytes_at digest_at digest_above_at value_field value_at body_field body_at version_field version_at record_field record_at records_field records_at row_at state_field state_at entry_field entry_at state_row_field state_row_at state_message_at batch_at batch_ack_at progress_at spelling decoded message_of
computing = tt

read_handed : message_of (progress_bytes no_bits_bytes last_bit) ≡ Some (message.Progress (key 4 2) false (bits_of no_bits_bytes) (bits_of last_bit) (bits_of no_bits_bytes))
unfolding computing
read_handed = refl

first_licensed : Licensed handing_ground start (side 1 one digest (version 0 1 97))
unfolding computing
first_licensed = (
  (refl, (refl, record { above = refl; member = refl; row = λ p d e. refl; quiet = refl })),
  (
    (refl, record { is_in = record { view = refl; stays = refl }; first = refl; rows = λ m e. own_row (1 == m) e }),
    (
      (refl, record { is_in = record { view = refl; stays = refl }; exchanged = refl; number = refl; acts = inl (refl, refl); free = λ u y e. no_some e }),
      (
        (refl, record { transaction = alone digest; resolved = record { is_in = record { view = refl; stays = refl }; running = refl; digest = refl; unapplied = refl; answered = refl }; next = refl }),
        (
          (refl, record { is_in = record { view = refl; stays = refl }; transaction = record (alone digest) { applied = Some (write (version 0 1 97)) }; write = write (version 0 1 97); running = refl; applied = refl; acked = refl }),
          tt,
        ),
      ),
    ),
  ),
)

-- ---- node 1 hands its record on

abbrev at_line : ℕ → Picture
at_line i = picture_after_all handing_ground start (take i written_late)

first_enters : (p : ℕ) → IsState ((at_line 5).node 1).content (((at_line 5).node 1).stamp p) p (handing_ground.row (key 4 2) 1 p)
unfolding computing
first_enters = whole_there ((at_line 5).node 1).content digest (version 0 1 97) (key 1 1) 1 ((at_line 5).node 1).stamp refl refl refl (away_with no_records digest (version 0 1 97) refl (λ x _. refl))

-- what holds of the one record holds of each
each_record : (P : List ℕ → Version → Type 0) → P digest (version 0 1 97) → (d : List ℕ) (v : Version) → IsAmong handed_on.records d v → P d v
each_record P here d v i = go i.place i.here
  where
    go : (place : ℕ) → slice_get handed_on.records place ≡ Some (d, v) → P d v
    go zero e = subst (λ (r : List ℕ × Version). P r.0 r.1) (some_same e) here
    go (suc place) e = no_some e

abbrev content : Versions
content = at_digest no_records digest (Some (version 0 1 97))

abbrev held_on : ℕ → List ℕ → Bool
held_on r d = view_sends_to handing_ground (key 4 2) (partition_of d) 1 r && is_some (content d)

batch_sent : WasSent (at_line 14) 1 2 (message.Batch handed_on)
unfolding computing
batch_sent = record { number = 3; packet = record { from = 1; to = 2; size = _; message = Some (message.Batch handed_on) }; sent = refl; ends = (refl, refl); message = refl }

batch_still : WasSent (at_line 15) 1 2 (message.Batch handed_on)
unfolding computing
batch_still = record { number = 3; packet = record { from = 1; to = 2; size = _; message = Some (message.Batch handed_on) }; sent = refl; ends = (refl, refl); message = refl }

-- node 2 had nothing to hand on
second_done : (p : ℕ) → IsDone ((at_line 17).stay 2 (key 4 2)) p
unfolding computing
second_done p = record { exchanged = refl; none = λ r d dp. and_false (view_sends_to handing_ground (key 4 2) (partition_of d) 2 r) }

sends_no_other : (r : ℕ) → (2 ≡ r → ⊥) → view_sends_to handing_ground (key 4 2) 4095 1 r ≡ false
unfolding computing
sends_no_other r apart = one_left (2 == r) _ (go (2 == r) refl)
  where
    go : (b : Bool) → (2 == r) ≡ b → b ≡ false
    go true e = absurd (apart (number_same 2 r e))
    go false e = refl

-- what was in the batch isn't pending, and nothing else was
unpending : (s a : Bool) → ((s && is_some (if a then Some (version 0 1 97) else None)) && not (a || false)) ≡ false
unpending false a = refl
unpending true true = refl
unpending true false = refl

first_done : IsDone ((at_line 19).stay 1 (key 4 2)) 4095
unfolding computing
first_done = record {
  exchanged = refl;
  none = λ r d dp. changed_either numbers (λ (f : List ℕ → Bool). f d ≡ false) held_on 2 _ r (λ _. unpending (view_sends_to handing_ground (key 4 2) (partition_of d) 1 2) (bytes_eq digest d))
      (λ apart. ap (λ (b : Bool). b && is_some (content d)) (ap (λ (q : ℕ). view_sends_to handing_ground (key 4 2) q 1 r) dp ∙ sends_no_other r apart));
}

other_told : (m : ℕ) → is_view_member handing_ground (key 4 2) m ≡ true → (m ≡ 1 → ⊥) → ((at_line 19).stay 1 (key 4 2)).told m 4095 ≡ true
unfolding computing
other_told m e apart = ⊎_elim (λ z. subst (λ (n : ℕ). ((at_line 19).stay 1 (key 4 2)).told n 4095 ≡ true) (number_same 2 m z) is_set)
    (λ z. ⊎_elim (λ q. absurd (apart (sym (number_same 1 m q)))) (λ q. differ q refl) (or_cases (1 == m) false z)) (or_cases (2 == m) ((1 == m) || false) e)

other_master : 1 ≡ view_master handing_ground (key 4 2) 4095 → ⊥
unfolding computing
other_master e = differ refl (ap (λ (q : ℕ). q == 1) e)

handed_licensed : Licensed handing_ground start handed_over
unfolding computing
handed_licensed = licensed_both handing_ground start (side 1 one digest (version 0 1 97)) moving first_licensed (
  (refl, (refl, record { above = refl; member = refl; row = λ p d e. refl; quiet = refl })),
  (
    (refl, (refl, record { above = refl; member = refl; row = first_enters; quiet = refl })),
    (
      (refl, (refl, record { is_in = record { view = refl; stays = refl }; row = λ p. refl })),
      (
        (refl, tt),
        (
          (refl, record { is_in = record { view = refl; stays = refl }; first = refl; rows = λ m e. both_rows 1 2 m e (inl (refl, refl)) }),
          (
            (refl, (refl, record { is_in = record { view = refl; stays = refl }; row = λ p. refl })),
            (
              (refl, tt),
              (
                (refl, record { is_in = record { view = refl; stays = refl }; first = refl; rows = λ m e. both_rows 2 1 m e (inr (refl, refl)) }),
                (
                  (
                    refl,
                    (
                      refl,
                      record {
                        is_in = record { view = refl; stays = refl };
                        exchanged = refl;
                        batch = inr (refl, refl, record { held = each_record (λ d v. content d ≡ Some v) refl; pending = each_record (λ d v. held_on 2 d ≡ true) refl });
                      },
                    ),
                  ),
                  (
                    (record { is_in = record { view = refl; stays = refl }; from = 1; brought = inl (handed_on, batch_sent, refl, record { place = 0; here = refl }); owed = λ o e. no_some e }),
                    (
                      (
                        refl,
                        (
                          refl,
                          record {
                            is_in = record { view = refl; stays = refl };
                            batch = handed_on;
                            named = (refl, refl);
                            came = batch_still;
                            held = each_record (λ d v. AtMost Time (Some v) (((at_line 15).node 2).content d)) (AtMost_refl (Some (version 0 1 97)));
                          },
                        ),
                      ),
                      (
                        (refl, tt),
                        (
                          (refl, (refl, record { is_in = record { view = refl; stays = refl }; done = λ p _. second_done p; handed = λ p e. absurd (is_clear p e); settled = λ p e. absurd (is_clear p e) })),
                          (
                            (refl, tt),
                            (
                              (refl, record { is_in = record { view = refl; stays = refl }; acting = refl; other = other_master; all_done = record { own = first_done; others = other_told }; free = record { none = λ t y e. no_some e } }),
                              tt,
                            ),
                          ),
                        ),
                      ),
                    ),
                  ),
                ),
              ),
            ),
          ),
        ),
      ),
    ),
  ),
)

-- ---- the write

abbrev opened_late : Running
opened_late = running_at_opening handing_ground (key 4 2) 1 ((at_line 20).node 1).content ((at_line 20).stay 1 (key 4 2)) digest

-- it asks nobody
asks_nobody : opened_late.awaiting ≡ []
unfolding computing
asks_nobody = go (bit (bits_of no_bits_bytes) 4095) [] refl
  where
    go : (b : Bool) (ids : List ℕ) → ids ≡ [] → (if b || false then ids else ids) ≡ []
    go true ids e = e
    go false ids e = e

handed_alone : (p : ℕ) → bit (bits_of last_bit) p ≡ true → ((at_line 22).stay 1 (key 4 2)).handed p ≡ true
unfolding computing
handed_alone p e = subst (λ (q : ℕ). ((at_line 22).stay 1 (key 4 2)).handed q ≡ true) (sym (only_last p e)) refl

missed : AtEnd SettledHoldFold handing_ground written_late → ⊥
unfolding computing
missed law = let q : version 0 1 97 ≡ version 0 2 98 = some_same (law (key 4 2) 4095 2 digest (inl refl) (λ t e f. no_some f) refl refl refl) in omega (arith, ap (λ (v : Version). v.generation) q)

pub late_breaks : Breaks Late (AtEnd SettledHoldFold) handing_ground written_late
unfolding computing
late_breaks = record {
  ground = record { some = omega arith };
  allowed = licensed_or Late handing_ground start handed_over writing_late handed_licensed (
    inr (record { is_in = record { view = refl; stays = refl }; exchanged = refl; number = refl; acts = refl; free = λ u y e. no_some e }),
    (
      inl (refl, record { transaction = opened_late; resolved = record { is_in = record { view = refl; stays = refl }; running = refl; digest = refl; unapplied = refl; answered = asks_nobody }; next = refl }),
      (
        inl (refl, (refl, record { is_in = record { view = refl; stays = refl }; done = λ p e. absurd (is_clear p e); handed = handed_alone; settled = λ p e. absurd (is_clear p e) })),
        (
          inl (refl, tt),
          (
            inl (refl, record { is_in = record { view = refl; stays = refl }; exchanged = refl; master = refl; some = refl; moved = inl is_last; free = record { none = λ t y e. no_some e } }),
            tt,
          ),
        ),
      ),
    ),
  );
  broken = missed;
}
