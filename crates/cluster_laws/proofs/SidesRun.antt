-- The runs of two nodes that meet with a record each.
use Rattle.std.proofs.Common.{◌≡◌, ℕ, ◌==◌, Bool, true, false, cond, not, ◌&&◌, ◌||◌, List, [], ◌∷◌, ◌++◌, Option, Some, None, refl, sym, ap, ◌∙◌, subst, arith, inl, inr, ⊎_elim}
use Rattle.std.specs.Prelude.{if◌then◌else◌, bytes_eq}
use Rattle.conflict_order.specs.declared.version.Version.{Version}
use Rattle.conflict_order.specs.Join.{join}
use Rattle.conflict_order.specs.Next.{next}
use Rattle.conflict_order.specs.Order.{version_cmp, is_newer}
use Rattle.conflict_order.specs.Contents.{Write}
use Rattle.cluster_types.specs.declared.cluster_key.ClusterKey.{ClusterKey}
use Rattle.cluster_types.specs.declared.copy_state.CopyState.TheVariants.{Empty, Whole}
use Rattle.cluster_types.specs.Partitions.{partition_of}
use Rattle.cluster_types.specs.StateRows.{state_of}
use Rattle.wire_messages.specs.declared.message.Message.TheVariants as message
use Rattle.wire_messages.specs.Numbers.{number_field, number_at, byte_field, byte_at, flag_field, flag_at}
use Rattle.wire_messages.specs.Fields.{field, items_at}
use Rattle.wire_messages.specs.Keys.{key_field, key_where, key_at}
use Rattle.wire_messages.specs.Versions.{bytes_at, digest_at, option_version_field, option_version_at}
use Rattle.wire_messages.specs.Rows.{state_field, state_at, entry_field, entry_at, state_row_field, state_row_at}
use Rattle.wire_messages.specs.Kinds.{state_message_at, ask_at, answer_at}
use Rattle.wire_messages.specs.Spelling.{spelling}
use Rattle.wire_messages.specs.Decoding.{decoded, message_of}
use Rattle.journal_lines.specs.declared.line.Line.{Line}
use Rattle.journal_lines.specs.declared.line.Line.TheVariants as line
use Rattle.partition_lists.specs.Hashes.{fnv1a, jenkins_state, jenkins_end, node_bytes, partition_bytes, place}
use Rattle.partition_lists.specs.Lists.{list}
use Rattle.journal_readings.specs.Examples.{digest, second, key, version, one, two}
use Rattle.cluster_laws.specs.Changed.{at_number, at_digest}
use Rattle.cluster_laws.specs.Ground.{Ground, is_view_member, view_master, is_view_replica, other_view_replicas, view_acting, is_view_empty, same_view_class, is_view_class_first, view_sends_to, asks}
use Rattle.cluster_laws.specs.Stay.{Versions, Running}
use Rattle.cluster_laws.specs.Picture.{Picture, start}
use Rattle.cluster_laws.specs.Laws.{SettledHoldFold, ReadsAnswerFold}
use Rattle.cluster_laws.specs.Licences.{IsState, IsDone, WasSent, Licensed, picture_after, picture_after_all}
use Rattle.cluster_laws.specs.Weaker.{Earlier, Unacknowledged, sides, side, side_row, both_sides, meeting, together, question_lines, asked_run, wrong_answer_lines, mistaken, settled_early, Breaks, AtEnd}
use Rattle.cluster_laws.proofs.At.{numbers, digests, changed_either, number_same, or_cases, some_same, no_some, differ}
use Rattle.cluster_laws.proofs.LoneRun.{licensed_or}

unfoldable computing : Unit {0}
unfolding join next version_cmp is_newer fnv1a jenkins_state jenkins_end node_bytes partition_bytes place list view_master is_view_replica other_view_replicas view_acting is_view_empty same_view_class is_view_class_first view_sends_to asks number_field number_at byte_field byte_at flag_field flag_at field items_at key_field key_where key_at bytes_at digest_at option_version_field option_version_at state_field state_at entry_field entry_at state_row_field state_row_at state_message_at ask_at answer_at spelling decoded message_of
computing = tt

-- a licensed run goes on from the end of another
pub licensed_both : (G : Ground) (w : Picture) (ls ms : List Line) → Licensed G w ls → Licensed G (picture_after_all G w ls) ms → Licensed G w (ls ++ ms)
licensed_both G w [] ms a b = b
licensed_both G w (l ∷ ls) ms a b = (a.0, licensed_both G (picture_after G w l) ls ms a.1 b)

-- the messages are read back
read_state : message_of (spelling (message.State (key 4 2) true (side_row 1 1))) ≡ Some (message.State (key 4 2) true (side_row 1 1))
unfolding computing
read_state = refl

read_ask : message_of (spelling (message.Ask (key 4 2) 1 second)) ≡ Some (message.Ask (key 4 2) 1 second)
unfolding computing
read_ask = refl

read_answer : message_of (spelling (message.Answer (key 4 2) 2 None)) ≡ Some (message.Answer (key 4 2) 2 None)
unfolding computing
read_answer = refl

-- node 2 acts and asks node 1
acts_two : (view_acting (sides 1) (key 4 2) 4095 ≡ 2) × (view_master (sides 1) (key 4 2) 4095 ≡ 2)
unfolding computing
acts_two = (refl, refl)

asks_one : asks (sides 1) (key 4 2) 4095 2 ≡ 1 ∷ []
unfolding computing
asks_one = refl

-- ---- the two sides

pub own_row : (b : Bool) → (b || false) ≡ true → cond b true false ≡ true
own_row true e = refl
own_row false e = e

-- a transaction that asks nobody, as it opens
abbrev pub alone : List ℕ → Running
alone d = record { digest = d; best = None; asked = []; awaiting = []; applied = None }

abbrev pub write : Version → Write
write v = record { version = v; nth = 1 }

first_side : Licensed (sides 1) start (side 1 one digest (version 0 1 97))
unfolding computing
first_side = (
  (refl, (refl, record { above = refl; member = refl; row = λ p d e. refl; quiet = refl })),
  (
    (refl, record { is_in = record { view = refl; stays = refl }; first = refl; rows = λ m e. own_row (1 == m) e }),
    (
      (refl, record { is_in = record { view = refl; stays = refl }; exchanged = refl; number = refl; acts = inl (refl, refl); free = λ u y e. no_some e }),
      (
        (refl, record { transaction = alone digest; resolved = record { is_in = record { view = refl; stays = refl }; running = refl; digest = refl; unapplied = refl; answered = refl }; next = refl }),
        (
          (refl, record { is_in = record { view = refl; stays = refl }; transaction = record (alone digest) { applied = Some (write (version 0 1 97)) }; write = write (version 0 1 97); running = refl; applied = refl; acked = refl }),
          tt,
        ),
      ),
    ),
  ),
)

second_side : Licensed (sides 1) (picture_after_all (sides 1) start (side 1 one digest (version 0 1 97))) (side 2 two second (version 0 1 98))
unfolding computing
second_side = (
  (refl, (refl, record { above = refl; member = refl; row = λ p d e. refl; quiet = refl })),
  (
    (refl, record { is_in = record { view = refl; stays = refl }; first = refl; rows = λ m e. own_row (2 == m) e }),
    (
      (refl, record { is_in = record { view = refl; stays = refl }; exchanged = refl; number = refl; acts = inl (refl, refl); free = λ u y e. no_some e }),
      (
        (refl, record { transaction = alone second; resolved = record { is_in = record { view = refl; stays = refl }; running = refl; digest = refl; unapplied = refl; answered = refl }; next = refl }),
        (
          (refl, record { is_in = record { view = refl; stays = refl }; transaction = record (alone second) { applied = Some (write (version 0 1 98)) }; write = write (version 0 1 98); running = refl; applied = refl; acked = refl }),
          tt,
        ),
      ),
    ),
  ),
)

-- ---- the meeting

-- a copy with records of partition 4095 alone is whole there, and empty in each other one
pub whole_there : (f : Versions) (d : List ℕ) (v : Version) (k : ClusterKey) (writes : ℕ) (stamp : ℕ → Option (ClusterKey × ℕ))
    → partition_of d ≡ 4095 → f d ≡ Some v → stamp 4095 ≡ Some (k, writes) → ((x : List ℕ) → (partition_of x ≡ 4095 → ⊥) → f x ≡ None)
    → (p : ℕ) → IsState f (stamp p) p (state_of ((4095, Whole k writes) ∷ []) p)
whole_there f d v k writes stamp place here stamped away p = go (4095 == p) refl
  where
    go : (b : Bool) → (4095 == p) ≡ b → IsState f (stamp p) p (if b then Whole k writes else Empty)
    go true e = subst (λ (q : ℕ). IsState f (stamp q) q (Whole k writes)) (number_same 4095 p e) (stamped, record { digest = d; version = v; is_of = place; held = here })
    go false e = λ x xp. away x (λ q. differ (sym (ap (λ (r : ℕ). 4095 == r) (sym q ∙ xp))) e)

-- another record of partition 4095
pub away_with : (f : Versions) (d : List ℕ) (v : Version) → partition_of d ≡ 4095 → ((x : List ℕ) → (partition_of x ≡ 4095 → ⊥) → f x ≡ None)
    → (x : List ℕ) → (partition_of x ≡ 4095 → ⊥) → at_digest f d (Some v) x ≡ None
away_with f d v place away x apart = changed_either digests (λ (o : Option Version). o ≡ None) f d (Some v) x (λ i. absurd (apart (ap partition_of (sym i) ∙ place))) (λ _. away x apart)

abbrev pub no_records : Versions
no_records = λ _. None

abbrev at_apart : Picture
at_apart = picture_after_all (sides 1) start both_sides

second_enters : (p : ℕ) → IsState (at_apart.node 2).content ((at_apart.node 2).stamp p) p ((sides 1).row (key 4 2) 2 p)
unfolding computing
second_enters = whole_there (at_apart.node 2).content second (version 0 1 98) (key 1 2) 1 (at_apart.node 2).stamp refl refl refl (away_with no_records second (version 0 1 98) refl (λ x _. refl))

first_enters : (p : ℕ) → IsState (at_apart.node 1).content ((at_apart.node 1).stamp p) p ((sides 1).row (key 4 2) 1 p)
unfolding computing
first_enters = whole_there (at_apart.node 1).content digest (version 0 1 97) (key 1 1) 1 (at_apart.node 1).stamp refl refl refl (away_with no_records digest (version 0 1 97) refl (λ x _. refl))

-- both rows are there
both_rows : (m : ℕ) → is_view_member (sides 1) (key 4 2) m ≡ true → (if 1 == m then true else if 2 == m then true else false) ≡ true
both_rows m e = ⊎_elim (λ z. other (2 == m) (1 == m) z) (λ z. own (1 == m) _ z) (or_cases (2 == m) ((1 == m) || false) e)
  where
    other : (a b : Bool) → a ≡ true → (if b then true else if a then true else false) ≡ true
    other a true e = refl
    other a false e = rw e refl

    own : (b c : Bool) → (b || false) ≡ true → (if b then true else c) ≡ true
    own true c e = refl
    own false c e = differ refl (sym e)

together_licensed : Licensed (sides 1) start together
unfolding computing
together_licensed = licensed_both (sides 1) start both_sides meeting
    (licensed_both (sides 1) start (side 1 one digest (version 0 1 97)) (side 2 two second (version 0 1 98)) first_side second_side) (
      (refl, (refl, record { above = refl; member = refl; row = second_enters; quiet = refl })),
      (
        (refl, (refl, record { above = refl; member = refl; row = first_enters; quiet = refl })),
        (
          (refl, (refl, record { is_in = record { view = refl; stays = refl }; row = λ p. refl })),
          ((refl, tt), ((refl, record { is_in = record { view = refl; stays = refl }; first = refl; rows = both_rows }), tt)),
        ),
      ),
    )

-- ---- an answer of an earlier transaction

abbrev first_read : Running
first_read = record { digest = second; best = Some (version 0 1 98); asked = 1 ∷ []; awaiting = 1 ∷ []; applied = None }

-- the second read as it is answered
abbrev second_read : Running
second_read = record { digest = digest; best = None; asked = 1 ∷ []; awaiting = []; applied = None }

apart_digests : second ≡ digest → ⊥
apart_digests e = differ refl (ap (bytes_eq second) e)

-- the first read is open on the other record
free : (u : ℕ) (y : Running) → at_number (λ _. None) 1 (Some first_read) u ≡ Some y → y.digest ≡ digest → ⊥
free u y = changed_either numbers (λ (o : Option Running). o ≡ Some y → y.digest ≡ digest → ⊥) (λ _. None) 1 (Some first_read) u
    (λ _ e q. apart_digests (ap (λ (z : Running). z.digest) (some_same e) ∙ q)) (λ _ e _. no_some e)

asked_licensed : Licensed (sides 1) start asked_run
unfolding computing
asked_licensed = licensed_both (sides 1) start together question_lines together_licensed (
  (refl, record { is_in = record { view = refl; stays = refl }; exchanged = refl; number = refl; acts = inl (refl, refl); free = λ u y e. no_some e }),
  (
    (refl, (refl, record { is_in = record { view = refl; stays = refl }; transaction = first_read; running = refl; digest = refl })),
    ((refl, tt), ((refl, record { is_in = record { view = refl; stays = refl }; exchanged = refl; number = refl; acts = inl (refl, refl); free = free }), tt)),
  ),
)

ask_sent : WasSent (picture_after_all (sides 1) start asked_run) 2 1
    (message.Ask (key 4 2) 1 second)
unfolding computing
ask_sent = record { number = 2; packet = record { from = 2; to = 1; size = _; message = Some (message.Ask (key 4 2) 1 second) }; sent = refl; ends = (refl, refl); message = refl }

pub earlier_breaks : Breaks Earlier ReadsAnswerFold (sides 1) mistaken
unfolding computing
earlier_breaks = record {
  ground = record { some = omega arith };
  allowed = licensed_or Earlier (sides 1) start asked_run wrong_answer_lines asked_licensed (
    inr (refl, record { is_in = record { view = refl; stays = refl }; earlier = 1; before = omega arith; digest = second; came = ask_sent; held = refl }),
    (
      inl (refl, tt),
      (
        inl (refl, record { transaction = second_read; resolved = record { is_in = record { view = refl; stays = refl }; running = refl; digest = refl; unapplied = refl; answered = refl }; best = refl }),
        tt,
      ),
    ),
  );
  broken = λ law. no_some (law.value 21 2 2 (key 4 2) digest None refl);
}

-- ---- a settling with an acknowledgement missing

-- node 2 hands nothing on, since nobody else is a replica
pub sends_nothing : (b x : Bool) → ((b || false) && (not b && x)) ≡ false
sends_nothing true x = refl
sends_nothing false x = refl

sends_nobody : (r : ℕ) → view_sends_to (sides 1) (key 4 2) 4095 2 r ≡ false
unfolding computing
sends_nobody r = sends_nothing (2 == r) _

pub none : (x y : Bool) → x ≡ false → (x && y) ≡ false
none x y e = grind arith

done : IsDone ((picture_after_all (sides 1) start together).stay 2 (key 4 2)) 4095
unfolding computing
done = record { exchanged = refl; none = λ r d dp. none (view_sends_to (sides 1) (key 4 2) (partition_of d) 2 r) _ (ap (λ (q : ℕ). view_sends_to (sides 1) (key 4 2) q 2 r) dp ∙ sends_nobody r) }

pub unacknowledged_breaks : Breaks Unacknowledged (AtEnd SettledHoldFold) (sides 1) settled_early
unfolding computing
unacknowledged_breaks = record {
  ground = record { some = omega arith };
  allowed = licensed_or Unacknowledged (sides 1) start together (line.Settled 2 (key 4 2) 4095 ∷ []) together_licensed (
    inr (record {
      is_in = record { view = refl; stays = refl };
      master = refl;
      acting = refl;
      some = refl;
      own = done;
      free = record { none = λ t y e. no_some e };
    }),
    tt,
  );
  broken = λ law. no_some (law (key 4 2) 4095 2 digest (inl refl) (λ t e f. no_some f) refl refl refl);
}
