-- What a write leaves as it was.
use Rattle.std.proofs.Common.{◌≡◌, ℕ, List, Option, ap, subst, ◌∙◌}
use Rattle.conflict_order.specs.declared.policy.Policy.{Policy}
use Rattle.cluster_types.specs.declared.cluster_key.ClusterKey.{ClusterKey}
use Rattle.journal_lines.specs.declared.line.Line.{Line}
use Rattle.audit_core.specs.declared.judge.Judge.{Judge}
use Rattle.audit_state.specs.declared.records.Records.{Records}
use Rattle.audit_state.specs.declared.views.View.{View}
use Rattle.audit_state.specs.Records.{record_number, record_digest, KeepsNumbers}
use Rattle.audit_state.specs.Written.{WritesRecord}
use Rattle.audit_core.specs.Bringing.{AppliesWrite, KeepsLines}
use Rattle.audit_core.specs.Frames.{Both}
use Rattle.audit_core.specs.Known.{kept_view}
use Rattle.audit_core.specs.Steps.{ChangesView}

-- the newest version is raised, the version comes to the node, and the view has the write
pub write_kept : (old : Judge) (rs : Records) (held new : Judge) (line r p q : ℕ) (k : ClusterKey) → p ≡ q → KeepsNumbers old.records rs → KeepsLines (record old { records = rs }) held
    → ChangesView (WritesRecord held.by held.lines.now line r p) k held new → AppliesWrite old new line r q k
write_kept old rs held new line r p q k part numbers keeps changes = record {
  rest = ap (λ (s : Judge). record s { stores = old.stores; records = old.records; views = old.views }) changes.rest
      ∙ ap (λ (s : Judge). record s { stores = old.stores; records = old.records; views = old.views }) keeps.rest;
  numbers = record {
    numbers = λ d. ap (λ (s : Judge). record_number s.records d) changes.rest ∙ (keeps.numbers.numbers d ∙ numbers.numbers d);
    digests = λ n. ap (λ (s : Judge). record_digest s.records n) changes.rest ∙ (keeps.numbers.digests n ∙ numbers.digests n);
  };
  here = subst (λ (m : ℕ). Both (WritesRecord old.by old.lines.now line r m) (kept_view old k) (kept_view new k)) part
      (subst (λ (o : Option View). Both (WritesRecord old.by old.lines.now line r p) o (kept_view new k)) (ap (λ (s : Judge). kept_view s k) keeps.rest)
      (subst (λ (by : Policy). Both (WritesRecord by old.lines.now line r p) (kept_view held k) (kept_view new k)) (ap (λ (s : Judge). s.by) keeps.rest)
      (subst (λ (ls : List Line). Both (WritesRecord held.by ls line r p) (kept_view held k) (kept_view new k)) (ap (λ (s : Judge). s.lines.now) keeps.rest) changes.here)));
  others = λ l e. changes.others l e ∙ ap (λ (s : Judge). kept_view s l) keeps.rest;
}
