use Rattle.std.proofs.Common.{◌^◌, ◌<◌, ℕ, List, length, subst, sym, ◌∙◌}
use Rattle.cluster_top.proofs.GeneratingLaws.{generated_short}
use Rattle.cluster_top.proofs.word_replay.replay_number.Goals as goal

pub play_and_summarize-requires : goal.play_and_summarize-requires
play_and_summarize-requires g c = subst (λ (bytes : List ℕ). length bytes < 2 ^ 60) (sym (c.as_slice.ensures ∙ c.in-Ok.ensures)) (generated_short c.args.number)
