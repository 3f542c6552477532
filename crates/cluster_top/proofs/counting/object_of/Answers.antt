use Rattle.std.proofs.Common.{◌≡◌, ◌∙◌, ap, false, refl, string_bytes, append_assoc}
use Rattle.std.proofs.lemmas.Result.{IfOk-weaker}
use Rattle.serde_json.specs.Written.{compact_text, has_float}
use Rattle.serde_json.specs.View.{view}
use Rattle.serde_json.proofs.OnLiterals.{serde_json_on_literals}
use Rattle.cluster_top.specs.declared.counting.Counts.{Counts}
use Rattle.cluster_top.specs.Transcripts as transcripts
use Rattle.cluster_top.proofs.counting.object_of.Goals as goal

no_float : (n : Counts) → has_float (transcripts.data_of n) ≡ false
no_float n = refl

written : (n : Counts) → compact_text (transcripts.data_of n) ≡ transcripts.object_of n
unfolding serde_json_on_literals
written n = simp append_assoc refl

pub returns : goal.returns
returns c =
    IfOk-weaker c.to_string.result (λ text. has_float (view c.in_ok-value.value) ≡ false → string_bytes text ≡ compact_text (view c.in_ok-value.value))
    (λ text. string_bytes text ≡ transcripts.object_of c.args.counts)
    (λ text h. h (ap has_float c.in_ok-value.ensures ∙ no_float c.args.counts) ∙ ap compact_text c.in_ok-value.ensures ∙ written c.args.counts) c.to_string.ensures.text
