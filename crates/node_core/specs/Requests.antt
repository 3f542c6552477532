-- What becomes of a request.
use Rattle.std.specs.Prelude.{ℕ, ◌+◌, List, Option, Some, None}
use Rattle.cluster_types.specs.Partitions.{partition_of}
use Rattle.journal_lines.specs.declared.refusal.Refusal.{Refusal}
use Rattle.node_rules.specs.Facts.{Facts, list_at}
use Rattle.node_rules.specs.Requests.{request_refusal}
use Rattle.node_core.specs.declared.answered.Answered.{Answered}
use Rattle.node_core.specs.declared.answered.Answered.TheVariants as answered

-- ---- requests

-- a refusal, or the number of the view's next transaction
abbrev pub answer_with : Facts → Option Refusal → Answered
answer_with f None = answered.Opened (f.transactions.opened + 1)
answer_with f (Some cause) = answered.Refused cause

-- what becomes of a request on the record
abbrev pub request_answer : Facts → List ℕ → Answered
request_answer f digest = answer_with f (request_refusal f (list_at f (partition_of digest)) digest)
