-- The run of two nodes, one of which drops its copy before the settling.
use Rattle.std.proofs.Common.{◌≡◌, ℕ, ◌==◌, Bool, true, false, cond, not, ◌&&◌, ◌||◌, List, [], ◌∷◌, Option, Some, None, refl, sym, ap, ◌∙◌, subst, arith, zero, suc, ◌⊎◌, inl, inr, ⊎_elim}
use Rattle.std.specs.Prelude.{if◌then◌else◌, is_some, bytes_eq, take, slice_get}
use Rattle.conflict_order.specs.declared.policy.Policy.TheVariants.{Time}
use Rattle.conflict_order.specs.declared.version.Version.{Version}
use Rattle.conflict_order.specs.Join.{join, AtMost}
use Rattle.conflict_order.specs.Next.{next}
use Rattle.conflict_order.specs.Order.{version_cmp, is_newer}
use Rattle.conflict_order.proofs.OrderLaws.{AtMost_refl}
use Rattle.conflict_order.specs.Contents.{is_among, Write}
use Rattle.cluster_types.specs.declared.copy_state.CopyState.TheVariants.{Empty, Whole}
use Rattle.cluster_types.specs.Partitions.{partition_of}
use Rattle.wire_messages.specs.declared.message.Message.TheVariants as message
use Rattle.wire_messages.specs.Numbers.{number_field, number_at, byte_field, byte_at, flag_field, flag_at}
use Rattle.wire_messages.specs.Fields.{field, items_at}
use Rattle.wire_messages.specs.Keys.{key_field, key_where, key_at}
use Rattle.wire_messages.specs.Versions.{bytes_at, digest_at, digest_above_at, value_field, value_at, body_field, body_at, version_field, version_at, record_field, record_at, records_field, records_at}
use Rattle.wire_messages.specs.Rows.{entry_field, entry_at, state_row_field, state_row_at}
use Rattle.wire_messages.specs.Kinds.{batch_at, batch_ack_at, state_message_at}
use Rattle.wire_messages.specs.Spelling.{spelling}
use Rattle.wire_messages.specs.Decoding.{decoded, message_of}
use Rattle.journal_lines.specs.declared.line.Line.TheVariants as line
use Rattle.partition_lists.specs.Hashes.{fnv1a, jenkins_state, jenkins_end, node_bytes, partition_bytes, place}
use Rattle.partition_lists.specs.Lists.{list}
use Rattle.journal_readings.specs.Examples.{digest, key, version}
use Rattle.cluster_laws.specs.Changed.{at_digest}
use Rattle.cluster_laws.specs.Ground.{is_view_member, view_master, is_view_replica, other_view_replicas, view_acting, is_view_empty, same_view_class, is_view_class_first, view_sends_to, asks}
use Rattle.cluster_laws.specs.Stay.{Running}
use Rattle.cluster_laws.specs.Picture.{Picture, start}
use Rattle.cluster_laws.specs.Laws.{GreatestIsStored}
use Rattle.cluster_laws.specs.Licences.{IsState, IsAmong, IsDone, WasSent, Licensed, picture_after_all}
use Rattle.cluster_laws.specs.Weaker.{DropsEarly, Unsettled, Stale, pair, handed_on, met_run, dropped_early, Breaks, AtEnd}
use Rattle.cluster_laws.proofs.LoneRun.{licensed_or}
use Rattle.cluster_laws.proofs.At.{numbers, digests, changed_either, number_same, or_cases, some_same, no_some, differ}

unfoldable computing : Unit {0}
unfolding join next version_cmp is_newer fnv1a jenkins_state jenkins_end node_bytes partition_bytes place list view_master is_view_replica other_view_replicas view_acting is_view_empty same_view_class is_view_class_first view_sends_to asks number_field number_at byte_field byte_at flag_field flag_at field items_at key_field key_where key_at bytes_at digest_at digest_above_at value_field value_at body_field body_at version_field version_at record_field record_at records_field records_at entry_field entry_at state_row_field state_row_at batch_at batch_ack_at state_message_at spelling decoded message_of
computing = tt

abbrev at_line : ℕ → Picture
at_line i = picture_after_all pair start (take i dropped_early)

-- the messages are read back
read_state : message_of (spelling (message.State (key 4 2) true [])) ≡ Some (message.State (key 4 2) true [])
unfolding computing
read_state = refl

read_batch : message_of (spelling (message.Batch handed_on)) ≡ Some (message.Batch handed_on)
unfolding computing
read_batch = refl

read_ack : message_of (spelling (message.BatchAck (key 4 2) 1)) ≡ Some (message.BatchAck (key 4 2) 1)
unfolding computing
read_ack = refl

-- whom node 1 hands on to
sends_two : view_sends_to pair (key 4 2) 4095 1 2 ≡ true
unfolding computing
sends_two = refl

acts_one : (view_acting pair (key 4 2) 4095 ≡ 1) × (view_master pair (key 4 2) 4095 ≡ 2)
unfolding computing
acts_one = (refl, refl)

asks_none : asks pair (key 4 2) 4095 1 ≡ []
unfolding computing
asks_none = refl

one_left : (b x : Bool) → b ≡ false → ((b || false) && x) ≡ false
one_left b x e = ap (λ (c : Bool). (c || false) && x) e

-- and to nobody else
sends_no_other : (r : ℕ) → (2 ≡ r → ⊥) → view_sends_to pair (key 4 2) 4095 1 r ≡ false
unfolding computing
sends_no_other r apart = one_left (2 == r) _ (go (2 == r) refl)
  where
    go : (b : Bool) → (2 == r) ≡ b → b ≡ false
    go true e = absurd (apart (number_same 2 r e))
    go false e = refl

-- ---- the licences

own_row : (b : Bool) → (b || false) ≡ true → cond b true false ≡ true
own_row true e = refl
own_row false e = e

-- both rows are there
both_rows : (m : ℕ) → is_view_member pair (key 4 2) m ≡ true → ((at_line 12).stay 1 (key 4 2)).rows m ≡ true
unfolding computing
both_rows m e = go (or_cases (2 == m) ((1 == m) || false) e)
  where
    go : ((2 == m) ≡ true) ⊎ (((1 == m) || false) ≡ true) → ((at_line 12).stay 1 (key 4 2)).rows m ≡ true
    go (inl z) = subst (λ (q : ℕ). ((at_line 12).stay 1 (key 4 2)).rows q ≡ true) (number_same 2 m z) refl
    go (inr z) = ⊎_elim (λ q. subst (λ (l : ℕ). ((at_line 12).stay 1 (key 4 2)).rows l ≡ true) (number_same 1 m q) refl) (λ q. differ q refl) (or_cases (1 == m) false z)

-- node 1's copy is whole in partition 4095, and empty in each other one
states : (p : ℕ) → IsState ((at_line 9).node 1).content (((at_line 9).node 1).stamp p) p (pair.row (key 4 2) 1 p)
unfolding computing
states p = go (p == 4095) refl
  where
    go : (b : Bool) → (p == 4095) ≡ b → IsState ((at_line 9).node 1).content (((at_line 9).node 1).stamp p) p (if b then Whole (key 1 1) 1 else Empty)
    go true e = subst (λ (q : ℕ). IsState ((at_line 9).node 1).content (((at_line 9).node 1).stamp q) q (Whole (key 1 1) 1)) (sym (number_same p 4095 e)) (refl, record { digest = digest; version = version 0 1 97; is_of = refl; held = refl })
    go false e = λ d dp. changed_either digests (λ (o : Option Version). o ≡ None) (λ _. None) digest (Some (version 0 1 97)) d
        (λ i. differ (ap (λ (q : ℕ). q == 4095) (sym dp ∙ ap partition_of (sym i))) e) (λ _. refl)

second_states : (p : ℕ) → IsState ((at_line 5).node 1).content (((at_line 5).node 1).stamp p) p (pair.row (key 2 1) 1 p)
unfolding computing
second_states p = go (p == 4095) refl
  where
    go : (b : Bool) → (p == 4095) ≡ b → IsState ((at_line 5).node 1).content (((at_line 5).node 1).stamp p) p (if b then Whole (key 1 1) 1 else Empty)
    go true e = subst (λ (q : ℕ). IsState ((at_line 5).node 1).content (((at_line 5).node 1).stamp q) q (Whole (key 1 1) 1)) (sym (number_same p 4095 e)) (refl, record { digest = digest; version = version 0 1 97; is_of = refl; held = refl })
    go false e = λ d dp. changed_either digests (λ (o : Option Version). o ≡ None) (λ _. None) digest (Some (version 0 1 97)) d
        (λ i. differ (ap (λ (q : ℕ). q == 4095) (sym dp ∙ ap partition_of (sym i))) e) (λ _. refl)

-- alone, a node hands nothing on
sends_nothing : (b x y : Bool) → (((b || false) && (not b && x)) && y) ≡ false
sends_nothing true x y = refl
sends_nothing false x y = refl

only_member : (m : ℕ) → is_view_member pair (key 2 1) m ≡ true → m ≡ 1
only_member m e = ⊎_elim (λ z. sym (number_same 1 m z)) (λ z. differ z refl) (or_cases (1 == m) false e)

-- what holds of the one record holds of each
each_record : (P : List ℕ → Version → Type 0) → P digest (version 0 1 97) → (d : List ℕ) (v : Version) → IsAmong handed_on.records d v → P d v
each_record P here d v i = go i.place i.here
  where
    go : (place : ℕ) → slice_get handed_on.records place ≡ Some (d, v) → P d v
    go zero e = subst (λ (r : List ℕ × Version). P r.0 r.1) (some_same e) here
    go (suc place) e = no_some e

batch_sent : WasSent (at_line 14) 1 2 (message.Batch handed_on)
unfolding computing
batch_sent = record { number = 2; packet = record { from = 1; to = 2; size = _; message = Some (message.Batch handed_on) }; sent = refl; ends = (refl, refl); message = refl }

batch_still : WasSent (at_line 15) 1 2 (message.Batch handed_on)
unfolding computing
batch_still = record { number = 2; packet = record { from = 1; to = 2; size = _; message = Some (message.Batch handed_on) }; sent = refl; ends = (refl, refl); message = refl }

-- nothing is pending after the acknowledgement
done : IsDone ((at_line 19).stay 1 (key 4 2)) 4095
unfolding computing
done = record {
  exchanged = refl;
  none = λ r d dp. changed_either numbers (λ (f : List ℕ → Bool). f d ≡ false) (λ q c. view_sends_to pair (key 4 2) (partition_of c) 1 q && is_some (at_digest (λ _. None) digest (Some (version 0 1 97)) c)) 2 _ r
      (λ i. here d) (λ i. none (view_sends_to pair (key 4 2) (partition_of d) 1 r) _ (ap (λ (q : ℕ). view_sends_to pair (key 4 2) q 1 r) dp ∙ sends_no_other r i));
}
  where
    none : (x y : Bool) → x ≡ false → (x && y) ≡ false
    none x y e = grind arith

    acked : (x y : Bool) → y ≡ true → (x && not y) ≡ false
    acked x y e = grind arith

    absent : (x y z : Bool) → y ≡ false → ((x && y) && z) ≡ false
    absent x y z e = grind arith

    here : (d : List ℕ) → ((view_sends_to pair (key 4 2) (partition_of d) 1 2 && is_some (at_digest (λ _. None) digest (Some (version 0 1 97)) d)) && not (is_among handed_on.records d)) ≡ false
    here d = go (bytes_eq digest d) refl
      where
        go : (b : Bool) → bytes_eq digest d ≡ b → ((view_sends_to pair (key 4 2) (partition_of d) 1 2 && is_some (cond b (Some (version 0 1 97)) None)) && not (b || false)) ≡ false
        go true e = acked _ true refl
        go false e = absent _ false _ refl

-- a transaction of node 1, as it opens
abbrev opened : Option Version → Running
opened best = record { digest = digest; best = best; asked = []; awaiting = []; applied = None }

abbrev first_write : Write
first_write = record { version = version 0 1 97; nth = 1 }

met_licensed : Licensed pair start met_run
unfolding computing
met_licensed = (
  (refl, (refl, record { above = refl; member = refl; row = λ p d e. refl; quiet = refl })),
  (
    (refl, record { is_in = record { view = refl; stays = refl }; first = refl; rows = λ m e. own_row (1 == m) e }),
    (
      (refl, record { is_in = record { view = refl; stays = refl }; exchanged = refl; number = refl; acts = inl (refl, refl); free = λ u y e. no_some e }),
      (
        (refl, record { transaction = opened None; resolved = record { is_in = record { view = refl; stays = refl }; running = refl; digest = refl; unapplied = refl; answered = refl }; next = refl }),
        (
          (refl, record { is_in = record { view = refl; stays = refl }; transaction = record (opened None) { applied = Some first_write }; write = first_write; running = refl; applied = refl; acked = refl }),
          (
            (refl, (refl, record { above = refl; member = refl; row = second_states; quiet = refl })),
            (
              (refl, record { is_in = record { view = refl; stays = refl }; first = refl; rows = λ m e. own_row (1 == m) e }),
              (
                (
                  refl,
                  record {
                    is_in = record { view = refl; stays = refl };
                    exchanged = refl;
                    master = refl;
                    some = refl;
                    moved = inr (refl, record { own = record { exchanged = refl; none = λ r d dp. sends_nothing (1 == r) _ _ }; others = λ m mem apart. absurd (apart (only_member m mem)) });
                    free = record { none = λ t y e. no_some e };
                  },
                ),
                (
                  (refl, (refl, record { above = refl; member = refl; row = λ p d e. refl; quiet = refl })),
                  (
                    (refl, (refl, record { above = refl; member = refl; row = states; quiet = refl })),
                    (
                      (refl, (refl, record { is_in = record { view = refl; stays = refl }; row = λ p. refl })),
                      (
                        (refl, tt),
                        (
                          (refl, record { is_in = record { view = refl; stays = refl }; first = refl; rows = both_rows }),
                          (
                            (
                              refl,
                              (
                                refl,
                                record {
                                  is_in = record { view = refl; stays = refl };
                                  exchanged = refl;
                                  batch = inr (
                                    refl,
                                    refl,
                                    record {
                                      held = each_record (λ d v. ((at_line 13).node 1).content d ≡ Some v) refl;
                                      pending = each_record (λ d v. ((at_line 13).stay 1 (key 4 2)).pending 2 d ≡ true) refl;
                                    },
                                  );
                                },
                              ),
                            ),
                            (
                              (record { is_in = record { view = refl; stays = refl }; from = 1; brought = inl (handed_on, batch_sent, refl, record { place = 0; here = refl }); owed = λ o e. no_some e }),
                              (
                                (
                                  refl,
                                  (
                                    refl,
                                    record {
                                      is_in = record { view = refl; stays = refl };
                                      batch = handed_on;
                                      named = (refl, refl);
                                      came = batch_still;
                                      held = each_record (λ d v. AtMost Time (Some v) (((at_line 15).node 2).content d)) (AtMost_refl (Some (version 0 1 97)));
                                    },
                                  ),
                                ),
                                (
                                  (refl, tt),
                                  (
                                    (refl, record { is_in = record { view = refl; stays = refl }; exchanged = refl; number = refl; acts = inl (refl, refl); free = λ u y e. no_some e }),
                                    (
                                      (refl, record { transaction = opened (Some (version 0 1 97)); resolved = record { is_in = record { view = refl; stays = refl }; running = refl; digest = refl; unapplied = refl; answered = refl }; next = refl }),
                                      tt,
                                    ),
                                  ),
                                ),
                              ),
                            ),
                          ),
                        ),
                      ),
                    ),
                  ),
                ),
              ),
            ),
          ),
        ),
      ),
    ),
  ),
)

drops_early : DropsEarly pair (picture_after_all pair start met_run) 1 (key 4 2) 4095
unfolding computing
drops_early = record { is_in = record { view = refl; stays = refl }; done = done; outside = refl }

-- the second version is nowhere
gone : (n : ℕ) → ((picture_after_all pair start dropped_early).node n).content digest ≡ Some (version 0 2 98) → ⊥
unfolding computing
gone n = go (1 == n) refl (2 == n) refl
  where
    go : (a : Bool) → (1 == n) ≡ a → (b : Bool) → (2 == n) ≡ b → ((picture_after_all pair start dropped_early).node n).content digest ≡ Some (version 0 2 98) → ⊥
    go true i b j e = no_some (subst (λ (m : ℕ). ((picture_after_all pair start dropped_early).node m).content digest ≡ Some (version 0 2 98)) (sym (number_same 1 n i)) e)
    go false i true j e = let q : version 0 1 97 ≡ version 0 2 98 = some_same (subst (λ (m : ℕ). ((picture_after_all pair start dropped_early).node m).content digest ≡ Some (version 0 2 98)) (sym (number_same 2 n j)) e) in omega (arith, ap (λ (v : Version). v.generation) q)
    go false i false j e = no_some (rw (i, j) at e)

lost : AtEnd GreatestIsStored pair dropped_early → ⊥
unfolding computing
lost law = let o : (n : ℕ) × (((picture_after_all pair start dropped_early).node n).content digest ≡ Some (version 0 2 98)) = law digest (version 0 2 98) refl in gone o.0 o.1

pub unsettled_breaks : Breaks Unsettled (AtEnd GreatestIsStored) pair dropped_early
unsettled_breaks = record {
  ground = record { some = omega arith };
  allowed = licensed_or Unsettled pair start met_run (line.Drop 1 (key 4 2) 4095 ∷ []) met_licensed (inr drops_early, tt);
  broken = lost;
}

pub stale_breaks : Breaks Stale (AtEnd GreatestIsStored) pair dropped_early
unfolding computing
stale_breaks = record {
  ground = record { some = omega arith };
  allowed = licensed_or Stale pair start met_run (line.Drop 1 (key 4 2) 4095 ∷ []) met_licensed (inr (record { drop = drops_early; other = key 2 1; settled = refl }), tt);
  broken = lost;
}
