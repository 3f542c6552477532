use Rattle.std.proofs.Common.{◌≡◌, arith, ◌∙◌}
use Rattle.std.proofs.lemmas.Result.{IfOk-weaker}
use Rattle.cluster_top.specs.Generating as script_text
use Rattle.cluster_top.proofs.GeneratingLaws.{step_taken, all_written}
use Rattle.cluster_top.proofs.generating.generated.Goals as goal

pub loop-step-preserved : goal.loop-step-preserved
loop-step-preserved c = step_taken _ _ _ _ _ _ _ (omega arith) c.loop-step.invariant c.draw.ensures.state c.draw.ensures.drawn c.in_ok-add_step.ensures

pub returns : goal.returns
returns c =
    let all = all_written _ _ _ _ _ (omega (arith, c.loop-step-test.false)) c.loop-step.invariant c.in_ok-push_str.ensures.bytes in
    IfOk-weaker c.from_slice.result (λ bytes. bytes ≡ c.as_bytes.result.now) (λ bytes. bytes ≡ script_text.generated c.args.number)
    (λ bytes same. same ∙ c.as_bytes.ensures.value ∙ all) c.from_slice.ensures
