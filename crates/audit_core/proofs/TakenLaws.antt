-- A line is taken where what it can have changed was noted, and tried.
use Rattle.std.proofs.Common.{◌≡◌, ℕ, ◌+◌, Bool, true, List, [], ◌∷◌, ◌++◌, Option, Some, None, refl, sym, ap, subst, ◌∙◌}
use Rattle.std.specs.Prelude.{take, nat_eq, is_some}
use Rattle.std.specs.HashMap as hash
use Rattle.conflict_order.specs.declared.version.Version.{Version}
use Rattle.cluster_types.specs.declared.cluster_key.ClusterKey.{ClusterKey}
use Rattle.cluster_types.specs.declared.member.Member.{Member}
use Rattle.journal_lines.specs.declared.line.Line.{Line}
use Rattle.journal_readings.specs.Claims.{ShowsMap, JoinsView}
use Rattle.journal_readings.specs.Entries.{applied_in}
use Rattle.journal_readings.specs.Lines.{has_node}
use Rattle.journal_readings.specs.Settings.{policy_of}
use Rattle.audit_laws.specs.Fits.{LosesNothing}
use Rattle.audit_laws.proofs.Tests.{differ}
use Rattle.audit_state.specs.declared.records.Records.{Records}
use Rattle.audit_state.specs.declared.views.Partition.{Partition}
use Rattle.audit_state.specs.declared.views.View.{View}
use Rattle.audit_state.specs.Places.{placed}
use Rattle.audit_state.specs.Records.{record_digest}
use Rattle.audit_state.specs.Views.{IsFreshView}
use Rattle.audit_state.specs.Written.{Stand, written_in, written_of}
use Rattle.audit_core.specs.declared.judge.Judge.{Judge}
use Rattle.audit_core.specs.declared.verdict.Stop.{Stop}
use Rattle.audit_core.specs.Audits.{Comes, AcceptsLine, so_far}
use Rattle.audit_core.specs.Covering.{SeesCovers}
use Rattle.audit_core.specs.Frames.{SameWritten}
use Rattle.audit_core.specs.Known.{kept_view}
use Rattle.audit_core.specs.Sees.{SeesFrame, SeesTried, SeesWrites, SeesStays, IsSuspect}
use Rattle.audit_core.specs.Stored.{SeesStores, SeesWritten, IsRecordOf, read_of}
use Rattle.audit_core.specs.Trying.{SeesLines, IsTrying, KeepsKnown, StopsParted}
use Rattle.audit_core.specs.Verdicts.{StopsRightly}
use Rattle.audit_core.proofs.OpenWriteLaws.{writes_same, writes_tried}
use Rattle.audit_core.proofs.PartedLaws.{all_tried, joins_all, parted_stops}
use Rattle.audit_core.proofs.StayLaws.{stays_same, stays_tried}
use Rattle.audit_core.proofs.TryLaws.{lines_kept}
use Rattle.audit_core.proofs.VerdictLaws.{taken_next}

-- what is known is what the lines say with one more, but for what was tried
pub record IsNoted (old noted : Judge) (i : ℕ) : Type 0 where
  pub lines : noted.lines.now ≡ old.lines.now
  pub seen : SeesLines noted (i + 1)
  pub writes : SeesWrites noted (so_far noted (i + 1))
  pub stays : SeesStays noted (so_far noted (i + 1))

-- of the line nothing is asked but the shape and the settled join
pub record AsksReplicas (j : List Line) (l : Line) : Type 0 where
  pub map : ShowsMap j l
  pub losses : LosesNothing j l
  pub joins : JoinsView j j l

module _ (old noted : Judge) (i : ℕ) (l : Line) (c : Comes old i l) (noting : IsNoted old noted i) (asks : AsksReplicas (so_far old i) l) where
  pub noted_front : so_far noted (i + 1) ≡ so_far old i ++ l ∷ []
  noted_front = ap (take (i + 1)) noting.lines ∙ taken_next old.lines.now i l c.stands

  pub noted_takes : (after : Judge) (tried : ClusterKey → List ℕ → Bool) → KeepsKnown noted after → IsTrying after (i + 1) tried → ((k : ClusterKey) (d : List ℕ) → tried k d ≡ true) → AcceptsLine old after i l
  noted_takes after tried keeps t all =
      let seen : SeesLines after (i + 1) = lines_kept noted after (i + 1) keeps noting.seen in
      let joined : SeesTried after (so_far after (i + 1)) = all_tried after (i + 1) tried t all in
      let same : so_far after (i + 1) ≡ so_far noted (i + 1) = ap (λ (s : Judge). so_far s (i + 1)) keeps.rest in
      let lines : after.lines.now ≡ old.lines.now = ap (λ (s : Judge). s.lines.now) keeps.rest ∙ noting.lines in
      record {
        lines = lines;
        fits = record { shape = c.shape; map = asks.map; losses = asks.losses; replicas = joins_all after (i + 1) (so_far old i) l (same ∙ noted_front) seen joined; joins = asks.joins };
        sees = record {
          lines = lines;
          frame = subst (λ (ls : List Line). SeesFrame after (take (i + 1) ls)) lines seen.frame;
          stores = subst (λ (ls : List Line). SeesStores after (i + 1) ls (take (i + 1) ls)) lines seen.stores;
          tried = subst (λ (ls : List Line). SeesTried after (take (i + 1) ls)) lines joined;
          covers = t.covers;
          writes = subst (λ (ls : List Line). SeesWrites after (take (i + 1) ls)) noting.lines (writes_same noted after (so_far noted (i + 1)) (writes_tried noted after keeps) noting.writes);
          stays = subst (λ (ls : List Line). SeesStays after (take (i + 1) ls)) noting.lines (stays_same noted after (so_far noted (i + 1)) (stays_tried noted after keeps) noting.stays);
        };
      }

  pub noted_stops : (stop : Stop) → StopsParted stop (so_far noted (i + 1)) → StopsRightly stop (so_far old i) l
  noted_stops stop h =
      parted_stops (so_far old i) (so_far noted (i + 1)) l stop noted_front c.audits.lawful.shape c.audits.lawful.settled_join c.shape asks.map asks.losses h

-- ---- only nodes and views changed

pub covers_moved : (old new : Judge) (i : ℕ) → record new { nodes = old.nodes; views = old.views } ≡ old → SeesCovers old i → SeesCovers new i
covers_moved old new i rest h = λ n m p c number e.
    let moved : SeesCovers (record new { nodes = old.nodes; views = old.views }) i = subst (λ (s : Judge). SeesCovers s i) (sym rest) h in
    record { held = (moved n m p c number e).held; of = (moved n m p c number e).of; covers = (moved n m p c number e).covers }

pub suspect_moved : (old new : Judge) (w : Stand) (d : List ℕ) → record new { nodes = old.nodes; views = old.views } ≡ old → IsSuspect old w d → IsSuspect new w d
suspect_moved old new w d rest h =
    let moved : IsSuspect (record new { nodes = old.nodes; views = old.views }) w d = subst (λ (s : Judge). IsSuspect s w d) (sym rest) h in
    (moved.0, moved.1, moved.2)

-- what was written in a view is what the lines say
pub record SeesWrittenIn (rs : Records) (all j : List Line) (k : ClusterKey) (x : View) : Type 0 where
  pub applied : (r : ℕ) → placed all (hash.get nat_eq x.applied r) ≡ read_of (λ d. applied_in (policy_of j) k d j) (record_digest rs r)
  pub written : (r : ℕ) → has_node x.written.items r ≡ is_some (hash.get nat_eq x.applied r)
  pub listed : (r : ℕ) → is_some (hash.get nat_eq x.applied r) ≡ true → (p : ℕ) × IsRecordOf rs r p × (has_node (written_of x p) r ≡ true)
  pub listed_only : (p r : ℕ) → has_node (written_of x p) r ≡ true → IsRecordOf rs r p

pub written_same : (rs : Records) (all j : List Line) (k : ClusterKey) (x y : View) → SameWritten x y → SeesWrittenIn rs all j k x → SeesWrittenIn rs all j k y
written_same rs all j k x y same h = record {
  applied = λ r. ap (λ (m : _). placed all (hash.get nat_eq m r)) same.applied ∙ h.applied r;
  written = λ r. ap (λ (rs : List ℕ). has_node rs r) same.written ∙ (h.written r ∙ sym (ap (λ (m : _). is_some (hash.get nat_eq m r)) same.applied));
  listed = λ r some.
      let u : (u : ℕ) × IsRecordOf rs r u × (has_node (written_of x u) r ≡ true) = h.listed r (sym (ap (λ (m : _). is_some (hash.get nat_eq m r)) same.applied) ∙ some) in
      (u.0, u.1, ap (λ (m : _). has_node (written_in (hash.get nat_eq m u.0)) r) same.partitions ∙ u.2);
  listed_only = λ p r has. h.listed_only p r (sym (ap (λ (m : _). has_node (written_in (hash.get nat_eq m p)) r) same.partitions) ∙ has);
}

read_none : (f : List ℕ → Option Version) → ((d : List ℕ) → f d ≡ None) → (o : Option (List ℕ)) → read_of f o ≡ None
read_none f h None = refl
read_none f h (Some d) = h d

-- of a view in which nothing is written yet
pub written_fresh : (rs : Records) (all j : List Line) (k : ClusterKey) (ms : List Member) (x : View) → IsFreshView k ms x → ((d : List ℕ) → applied_in (policy_of j) k d j ≡ None) → SeesWrittenIn rs all j k x
written_fresh rs all j k ms x fresh none = record {
  applied = λ r. ap (placed all) (fresh.applied r) ∙ sym (read_none (λ d. applied_in (policy_of j) k d j) none (record_digest rs r));
  written = λ r. ap (λ (rs : List ℕ). has_node rs r) fresh.written ∙ sym (ap (λ (o : Option ℕ). is_some o) (fresh.applied r));
  listed = λ r some. differ some (ap (λ (o : Option ℕ). is_some o) (fresh.applied r));
  listed_only = λ p r has. differ has (ap (λ (o : Option Partition). has_node (written_in o) r) (fresh.partitions p));
}

pub written_seen : (s : Judge) (all j : List Line) (k : ClusterKey) (x : View) → SeesWritten s all j → kept_view s k ≡ Some x → SeesWrittenIn s.records all j k x
written_seen s all j k x h e = record {
  applied = λ r. h.applied k x r e;
  written = λ r. h.written k x r e;
  listed = λ r some. h.listed k x r e some;
  listed_only = λ p r has. h.listed_only k x p r e has;
}

pub stores_moved : (old new : Judge) (i : ℕ) (all j : List Line) → record new { nodes = old.nodes; views = old.views } ≡ old → ((k : ClusterKey) (x : View) → kept_view new k ≡ Some x → SeesWrittenIn old.records all j k x)
    → SeesStores old i all j → SeesStores new i all j
stores_moved old new i all j rest written h =
    let moved : SeesStores (record new { nodes = old.nodes; views = old.views }) i all j = subst (λ (s : Judge). SeesStores s i all j) (sym rest) h in
    let same : new.records ≡ old.records = ap (λ (s : Judge). s.records) rest in
    let seen : (k : ClusterKey) (x : View) → kept_view new k ≡ Some x → SeesWrittenIn new.records all j k x = λ k x e. subst (λ (rs : Records). SeesWrittenIn rs all j k x) (sym same) (written k x e) in
    record {
      records = record { numbered = moved.records.numbered; unbrought = moved.records.unbrought; newest = moved.records.newest; holders = moved.records.holders };
      contents = moved.contents;
      copies = moved.copies;
      written = record {
        applied = λ k x r e. (seen k x e).applied r;
        written = λ k x r e. (seen k x e).written r;
        listed = λ k x r e some. (seen k x e).listed r some;
        listed_only = λ k x p r e has. (seen k x e).listed_only p r has;
      };
    }
