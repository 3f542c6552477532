use Rattle.std.proofs.Common.{◌≡◌, ◌<◌, ◌≤◌, ◌++◌, ◌∷◌, [], List, ℕ, length, min, sym, ap, ◌∙◌, arith}
use Rattle.conflict_order.specs.declared.version.Version.{Version}
use Rattle.wire_messages.specs.declared.message.Batch.{Batch}
use Rattle.node_rules.specs.Batches.{batch_limit, records_of}
use Rattle.emigrate.proofs.FirstLaws.{all_taken, records_more}
use Rattle.emigrate.proofs.target.new_batch.Goals as goal

pub loop-i-preserved : goal.loop-i-preserved
loop-i-preserved c =
    let versions = c.args.store.now.versions in
    let ds = c.args.pending.now.items in
    let within : c.loop-i.i < length ds = omega (arith, c.loop-i-test.true, c.min-i-end.ensures, c.len.ensures, c.args.pending.now.ok) in
    c.in_ok-add_record.ensures
    ∙ ap (λ (rs : List (List ℕ × Version)). rs ++ records_of versions (c.index.result.now ∷ [])) c.loop-i.invariant
    ∙ sym (records_more versions ds c.loop-i.i c.index.result.now within c.index.ensures)

pub returns : goal.returns
returns c =
    let ds = c.args.pending.now.items in
    let low : min batch_limit (length ds) ≤ c.loop-i.i = omega (arith, c.loop-i-test.false, c.min-i-end.ensures, c.len.ensures, c.args.pending.now.ok) in
    let high : c.loop-i.i ≤ batch_limit = omega (arith, c.loop-i.auto.i-end, c.min-i-end.ensures) in
    let batch : List (List ℕ × Version) → Batch = λ rs. record { key = c.args.key; number = c.args.number; records = rs } in
    ap batch (c.loop-i.invariant ∙ ap (records_of c.args.store.now.versions) (all_taken ds c.loop-i.i batch_limit low high))
