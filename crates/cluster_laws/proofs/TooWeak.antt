-- Runs that a weaker licence allows.
use Rattle.std.proofs.Common.{◌≡◌, ◌==◌, Bool, true, false, cond, ◌||◌, [], Option, None, refl, arith, inl, inr}
use Rattle.conflict_order.specs.declared.version.Version.{Version}
use Rattle.conflict_order.specs.Join.{join}
use Rattle.conflict_order.specs.Next.{next}
use Rattle.conflict_order.specs.Order.{version_cmp, is_newer}
use Rattle.conflict_order.proofs.OrderLaws.{no_version_AtMost_none}
use Rattle.partition_lists.specs.Hashes.{fnv1a, jenkins_state, jenkins_end, node_bytes, partition_bytes, place}
use Rattle.partition_lists.specs.Lists.{list}
use Rattle.journal_readings.specs.Examples.{digest, key, version}
use Rattle.cluster_laws.specs.Ground.{view_master, is_view_replica, other_view_replicas, view_acting, is_view_empty, same_view_class, is_view_class_first, view_sends_to, asks}
use Rattle.cluster_laws.specs.Laws.{IsBounded, ReadsAnswerFold}
use Rattle.cluster_laws.specs.Stay.{Running}
use Rattle.cluster_laws.specs.Weaker.{Busy, Unbrought, lone, overtaken, conjured, Breaks, AtEnd}
use Rattle.cluster_laws.proofs.At.{no_some}

-- lists, masters and versions compute
unfoldable computing : Unit {0}
unfolding join next version_cmp is_newer fnv1a jenkins_state jenkins_end node_bytes partition_bytes place list view_master is_view_replica other_view_replicas view_acting is_view_empty same_view_class is_view_class_first view_sends_to asks
computing = tt

-- a transaction that asks nobody, as it opens
abbrev opened : Option Version → Running
opened best = record { digest = digest; best = best; asked = []; awaiting = []; applied = None }

-- a row is there where the node is the only member
own_row : (b : Bool) → (b || false) ≡ true → cond b true false ≡ true
own_row true e = refl
own_row false e = e

pub busy_breaks : Breaks Busy ReadsAnswerFold lone overtaken
unfolding computing
busy_breaks = record {
  ground = record { some = omega arith };
  allowed = (
    inl (refl, (refl, record { above = refl; member = refl; row = λ p d e. refl; quiet = refl })),
    (
      inl (refl, record { is_in = record { view = refl; stays = refl }; first = refl; rows = λ m e. own_row (1 == m) e }),
      (
        inl (refl, record { is_in = record { view = refl; stays = refl }; exchanged = refl; number = refl; acts = inl (refl, refl); free = λ u y e. no_some e }),
        (
          inr (record { is_in = record { view = refl; stays = refl }; exchanged = refl; number = refl; acts = inl (refl, refl) }),
          (
            inl (refl, record { transaction = opened None; resolved = record { is_in = record { view = refl; stays = refl }; running = refl; digest = refl; unapplied = refl; answered = refl }; next = refl }),
            (inl (refl, record { transaction = opened None; resolved = record { is_in = record { view = refl; stays = refl }; running = refl; digest = refl; unapplied = refl; answered = refl }; best = refl }), tt),
          ),
        ),
      ),
    ),
  );
  broken = λ law. no_some (law.value 5 1 1 (key 1 1) digest None refl);
}

pub unbrought_breaks : Breaks Unbrought (AtEnd IsBounded) lone conjured
unfolding computing
unbrought_breaks = record {
  ground = record { some = omega arith };
  allowed = (inl (refl, (refl, record { above = refl; member = refl; row = λ p d e. refl; quiet = refl })), (inr (record { view = refl; stays = refl }), tt));
  broken = λ law. no_version_AtMost_none (version 0 1 97) (law.applied 1 digest);
}
