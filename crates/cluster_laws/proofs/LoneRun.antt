-- The run of one node that keeps its record, and what a drop would do to it.
use Rattle.std.proofs.Common.{◌≡◌, ℕ, ◌==◌, Bool, true, false, cond, not, ◌&&◌, ◌||◌, List, [], ◌∷◌, ◌++◌, Option, Some, None, refl, sym, ap, ◌∙◌, subst, arith, ◌⊎◌, inl, inr, ⊎_elim}
use Rattle.std.specs.Prelude.{if◌then◌else◌}
use Rattle.conflict_order.specs.declared.version.Version.{Version}
use Rattle.conflict_order.specs.Join.{join}
use Rattle.conflict_order.specs.Next.{next}
use Rattle.conflict_order.specs.Order.{version_cmp, is_newer}
use Rattle.cluster_types.specs.declared.copy_state.CopyState.TheVariants.{Empty, Whole}
use Rattle.cluster_types.specs.Partitions.{partition_of}
use Rattle.journal_lines.specs.declared.line.Line.{Line}
use Rattle.journal_lines.specs.declared.line.Line.TheVariants as line
use Rattle.partition_lists.specs.Hashes.{fnv1a, jenkins_state, jenkins_end, node_bytes, partition_bytes, place}
use Rattle.partition_lists.specs.Lists.{list}
use Rattle.journal_readings.specs.Examples.{digest, key, version}
use Rattle.cluster_laws.specs.Ground.{Ground, is_view_member, view_master, is_view_replica, other_view_replicas, view_acting, is_view_empty, same_view_class, is_view_class_first, view_sends_to, asks}
use Rattle.cluster_laws.specs.Stay.{Running}
use Rattle.cluster_laws.specs.Picture.{Picture, start}
use Rattle.cluster_laws.specs.Laws.{GreatestIsStored}
use Rattle.cluster_laws.specs.Licences.{IsState, IsDone, Licensed, picture_after, picture_after_all}
use Rattle.cluster_laws.specs.Weaker.{Replica, LicensedOr, lone, first_view, lone_run, thrown_away, Breaks, AtEnd}
use Rattle.cluster_laws.proofs.At.{digests, changed_either, number_same, number_cases, or_cases, no_some, differ}

unfoldable computing : Unit {0}
unfolding join next version_cmp is_newer fnv1a jenkins_state jenkins_end node_bytes partition_bytes place list view_master is_view_replica other_view_replicas view_acting is_view_empty same_view_class is_view_class_first view_sends_to asks
computing = tt

-- a row is there where the node is the only member
own_row : (b : Bool) → (b || false) ≡ true → cond b true false ≡ true
own_row true e = refl
own_row false e = e

-- a node sends nothing to itself, and nobody else is a replica
sends_nothing : (b x y : Bool) → (((b || false) && (not b && x)) && y) ≡ false
sends_nothing true x y = refl
sends_nothing false x y = refl

-- the transaction that writes, before and after
abbrev opened : Running
opened = record { digest = digest; best = None; asked = []; awaiting = []; applied = None }

-- the picture as node 1 enters the second view
unfoldable before : Picture
before = picture_after_all lone start first_view

-- the copy is whole in partition 4095, and empty in each other one
states : (p : ℕ) → IsState (before.node 1).content ((before.node 1).stamp p) p (lone.row (key 2 1) 1 p)
unfolding computing before
states p = go (p == 4095) refl
  where
    go : (b : Bool) → (p == 4095) ≡ b → IsState (before.node 1).content ((before.node 1).stamp p) p (if b then Whole (key 1 1) 1 else Empty)
    go true e = subst (λ (q : ℕ). IsState (before.node 1).content ((before.node 1).stamp q) q (Whole (key 1 1) 1)) (sym (number_same p 4095 e)) (refl, record { digest = digest; version = version 0 1 97; is_of = refl; held = refl })
    go false e = λ d dp. changed_either digests (λ (o : Option Version). o ≡ None) (λ _. None) digest (Some (version 0 1 97)) d
        (λ i. differ (ap (λ (q : ℕ). q == 4095) (sym dp ∙ ap partition_of (sym i))) e) (λ _. refl)

-- nothing is handed on
hands_nothing : (r : ℕ) (d : List ℕ) → ((picture_after_all lone start lone_run).stay 1 (key 2 1)).pending r d ≡ false
unfolding computing
hands_nothing r d = sends_nothing (1 == r) _ _

done : IsDone ((picture_after_all lone start lone_run).stay 1 (key 2 1)) 4095
unfolding computing
done = record { exchanged = refl; none = λ r d dp. hands_nothing r d }

only_member : (m : ℕ) → is_view_member lone (key 2 1) m ≡ true → m ≡ 1
only_member m e = ⊎_elim (λ z. sym (number_same 1 m z)) (λ z. differ z refl) (or_cases (1 == m) false e)

pub kept_licensed : Licensed lone start lone_run
unfolding computing before
kept_licensed = (
  (refl, (refl, record { above = refl; member = refl; row = λ p d e. refl; quiet = refl })),
  (
    (refl, record { is_in = record { view = refl; stays = refl }; first = refl; rows = λ m e. own_row (1 == m) e }),
    (
      (refl, record { is_in = record { view = refl; stays = refl }; exchanged = refl; number = refl; acts = inl (refl, refl); free = λ u y e. no_some e }),
      (
        (refl, record { transaction = opened; resolved = record { is_in = record { view = refl; stays = refl }; running = refl; digest = refl; unapplied = refl; answered = refl }; next = refl }),
        (
          (refl, record { is_in = record { view = refl; stays = refl }; transaction = record opened { applied = Some (record { version = version 0 1 97; nth = 1 }) }; write = record { version = version 0 1 97; nth = 1 }; running = refl; applied = refl; acked = refl }),
          (
            (refl, (refl, record { above = refl; member = refl; row = states; quiet = refl })),
            (
              (refl, record { is_in = record { view = refl; stays = refl }; first = refl; rows = λ m e. own_row (1 == m) e }),
              (
                (
                  refl,
                  record {
                    is_in = record { view = refl; stays = refl };
                    exchanged = refl;
                    master = refl;
                    some = refl;
                    moved = inr (refl, record { own = record { exchanged = refl; none = λ r d dp. sends_nothing (1 == r) _ _ }; others = λ m mem apart. absurd (apart (only_member m mem)) });
                    free = record { none = λ t y e. no_some e };
                  },
                ),
                tt,
              ),
            ),
          ),
        ),
      ),
    ),
  ),
)

-- a licensed run is licensed besides, and goes on from its end
pub licensed_or : (Extra : Ground → Picture → Line → Type 0) (G : Ground) (w : Picture) (ls ms : List Line) → Licensed G w ls → LicensedOr Extra G (picture_after_all G w ls) ms → LicensedOr Extra G w (ls ++ ms)
licensed_or Extra G w [] ms a b = b
licensed_or Extra G w (l ∷ ls) ms a b =
    (inl a.0, licensed_or Extra G (picture_after G w l) ls ms a.1 b)

gone : (n : ℕ) → ((picture_after_all lone start thrown_away).node n).content digest ≡ None
unfolding computing
gone n = go (number_cases 1 n)
  where
    go : (1 ≡ n) ⊎ (1 ≡ n → ⊥)
        → ((picture_after_all lone start thrown_away).node n).content digest ≡ None
    go (inl e) = subst (λ (m : ℕ). ((picture_after_all lone start thrown_away).node m).content digest ≡ None) e refl
    go (inr e) = by_test (1 == n) refl
      where
        by_test : (b : Bool) → (1 == n) ≡ b → ((picture_after_all lone start thrown_away).node n).content digest ≡ None
        by_test true i = absurd (e (number_same 1 n i))
        by_test false i = rw i refl

pub replica_breaks : Breaks Replica (AtEnd GreatestIsStored) lone thrown_away
unfolding computing
replica_breaks = record {
  ground = record { some = omega arith };
  allowed = licensed_or Replica lone start lone_run (line.Drop 1 (key 2 1) 4095 ∷ []) kept_licensed (inr (record { is_in = record { view = refl; stays = refl }; settled = refl; done = done }), tt);
  broken = λ law. let o : (n : ℕ) × (((picture_after_all lone start thrown_away).node n).content digest ≡ Some (version 0 1 97)) = law digest (version 0 1 97) refl in no_some (sym (gone o.0) ∙ o.1);
}
