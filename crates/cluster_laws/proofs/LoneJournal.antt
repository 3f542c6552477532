-- The run of a node that is alone, with its header and the map that it shows, is a journal.
use Rattle.std.proofs.Common.{◌≡◌, ℕ, zero, suc, List, [], ◌∷◌, ◌++◌, refl, subst, arith}
use Rattle.partition_lists.specs.Hashes.{fnv1a, jenkins_state, jenkins_end, node_bytes, partition_bytes, place}
use Rattle.partition_lists.specs.Lists as lists
use Rattle.journal_lines.specs.declared.line.Line.{Line}
use Rattle.journal_lines.specs.declared.line.Line.TheVariants as line
use Rattle.journal_readings.specs.Examples.{one, key}
use Rattle.journal_readings.specs.Settings.{policy_of, factor_of, nodes}
use Rattle.cluster_laws.specs.Ground.{Ground, view_master, view_acting}
use Rattle.cluster_laws.specs.Journals.{journal, FitsGround, IsJournal, ShowsGround, lone_header, shown_run}
use Rattle.cluster_laws.specs.Licences.{Licensed, picture_after, picture_after_all}
use Rattle.cluster_laws.specs.Picture.{Picture, start}
use Rattle.cluster_laws.specs.Weaker.{lone, lone_run}
use Rattle.cluster_laws.proofs.At.{some_same, no_some}
use Rattle.cluster_laws.proofs.LoneRun.{kept_licensed}
use Rattle.cluster_laws.proofs.ReadingTies.{AllFit}

-- each line fits after those before it
abbrev Fitting : Ground → List ℕ → Picture → List Line → Type 0
Fitting G ns w [] = Unit {0}
Fitting G ns w (l ∷ ls) = FitsGround G ns w l × Fitting G ns (picture_after G w l) ls

each_fits : (G : Ground) (ns : List ℕ) (w : Picture) (ls : List Line) → Fitting G ns w ls → AllFit G ns w ls
each_fits G ns w [] f i l e = no_some e
each_fits G ns w (x ∷ ls) f zero l e = subst (FitsGround G ns w) (some_same e) f.0
each_fits G ns w (x ∷ ls) f (suc i) l e = each_fits G ns (picture_after G w x) ls f.1 i l e

-- lines that are licensed, and then more
licensed_more : (G : Ground) (w : Picture) (ls ms : List Line) → Licensed G w ls → Licensed G (picture_after_all G w ls) ms → Licensed G w (ls ++ ms)
licensed_more G w [] ms a b = b
licensed_more G w (l ∷ ls) ms a b = (a.0, licensed_more G (picture_after G w l) ls ms a.1 b)

-- the map of node 1 alone
lone_map : ShowsGround lone (picture_after_all lone start lone_run) 1 (key 2 1) 4095 one 1
unfolding fnv1a jenkins_state jenkins_end node_bytes partition_bytes place lists.list view_acting view_master
lone_map = record { exchanged = refl; members = refl; acting = refl }

pub lone_journal : IsJournal lone_header lone shown_run
unfolding policy_of factor_of nodes
lone_journal = record {
  ground = record { some = omega arith };
  header = refl;
  by = refl;
  factor = refl;
  licensed = licensed_more lone start lone_run (line.Map 1 (key 2 1) 4095 one 1 ∷ []) kept_licensed ((refl, tt), tt);
  fits = each_fits lone (nodes (journal lone_header shown_run)) start shown_run (tt, (tt, (tt, (refl, (tt, (tt, (tt, (tt, (lone_map, tt)))))))));
}
