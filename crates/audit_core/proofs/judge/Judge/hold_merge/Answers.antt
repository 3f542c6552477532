use Rattle.std.proofs.Common.{refl}
use Rattle.journal_lines.specs.declared.line.Line.TheVariants as line
use Rattle.audit_core.proofs.WriteLaws.{merge_seen, known_held, known_here, next_held, next_stores, three}
use Rattle.audit_core.proofs.judge.Judge.hold_merge.Goals as goal

pub returns-clause-stores : goal.returns-clause-stores
returns-clause-stores c = three c.bring.result
    (λ keeps sees counts. next_stores c.bring.new.self c.args.line c.args.self.now.lines.now
    (merge_seen c.args.self.now c.bring.new.self c.args.line c.args.node c.args.number c.requires.merges.0 c.args.digest.now c.requires.merges.1 c.requires.knows c.requires.merges.2.stands c.requires.merges.2.named keeps
    (next_held c.bring.new.self c.args.line (sees (line.Merge c.args.node c.requires.merges.0 c.args.digest.now c.requires.merges.1) c.args.digest.now c.requires.merges.1
    (known_here c.args.self.now c.args.line c.args.node c.args.number c.partition_of-p.result (line.Merge c.args.node c.requires.merges.0 c.args.digest.now c.requires.merges.1) c.args.digest.now c.requires.merges.1
    c.requires.knows c.requires.merges.2.stands (refl, refl, refl) c.requires.merges.2.named c.partition_of-p.ensures)
    (known_held c.args.self.now c.args.line c.requires.knows)))
    counts))
    c.bring.ensures.keeps c.bring.ensures.sees c.bring.ensures.counted
