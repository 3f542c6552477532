-- A read that is passed on and answered between two nodes, step by step: the worlds before each step.
use Rattle.std.specs.Prelude.{ℕ, ◌==◌, List, [], ◌∷◌, ◌++◌, Some, replicate, if◌then◌else◌}
use Rattle.wire_messages.specs.declared.message.Message.{Message}
use Rattle.wire_messages.specs.declared.message.Message.TheVariants as message
use Rattle.wire_messages.specs.declared.reply.ReplyBody.TheVariants as reply
use Rattle.wire_messages.specs.Spelling.{spelling}
use Rattle.journal_lines.specs.declared.line.Line.{Line}
use Rattle.journal_lines.specs.declared.line.Line.TheVariants as line
use Rattle.journal_readings.specs.Messages.{Posting}
use Rattle.node_rules.specs.Examples.{key}
use Rattle.node_rules.specs.Facts.{Facts}
use Rattle.request_rules.specs.Examples.{having_passed, having_read, joined_one, joined_two, last_digest, proxy_of_read, reading_two, version_of}
use Rattle.request_rules.specs.Requests.{NodeRequests, no_requests, no_requests_yet}
use Rattle.cluster_rules.specs.World.{World, opened}
use Rattle.cluster_rules.specs.WorldExamples.{two_nodes}

-- ---- messages

-- the message from the one node to the other
abbrev pub posting_of : ℕ → ℕ → Message → Posting
posting_of from to m = record { from = from; to = to; bytes = spelling m }

-- what node 2 asks of the read, with its transaction 1, and what node 1 answers: its own version, of the byte 97
abbrev pub asking_one : Message
asking_one = message.Ask (key 2 2) 1 last_digest

abbrev pub answering_two : Message
answering_two = message.Answer (key 2 2) 1 (Some (version_of 1 97))

-- the reply: the version of node 2, of the byte 98
abbrev pub reply_to_one : Message
reply_to_one = message.ProxyReply (key 2 2) 1 (reply.Found (version_of 1 98))

-- the line of a message of that number
abbrev pub sent_line : ℕ → ℕ → ℕ → Message → Line
sent_line i from to m = line.Sent i from to (spelling m)

-- ---- worlds

-- the first node's value, or the second's
abbrev pub of_one_or : {A : Type 0} → A → A → ℕ → A
of_one_or one two n = if n == 1 then one else two

-- two nodes in one view that know this and keep these requests, when 25 messages were sent before these, of which the
-- last is in flight
abbrev pub met : Facts → Facts → NodeRequests → NodeRequests → List Posting → List ℕ → World
met one two kept_by_one kept_by_two postings flying = record (opened two_nodes) {
  facts = of_one_or one two;
  network = record {
    sent = replicate 25 (posting_of 1 2 message.MapAsk) ++ postings;
    flying = flying;
    groups = (1 ∷ 2 ∷ []) ∷ [];
  };
  requests = record no_requests_yet { at = of_one_or kept_by_one kept_by_two };
}

-- before the read comes to node 1
abbrev pub before_reading : World
before_reading = met joined_one joined_two no_requests no_requests [] []

-- before the Proxy reaches node 2
abbrev pub before_taking_up : World
before_taking_up =
    met joined_one joined_two having_passed no_requests (posting_of 1 2 proxy_of_read ∷ []) (26 ∷ [])

-- before the Answer reaches node 2
abbrev pub before_ending : World
before_ending =
    met joined_one reading_two having_passed having_read
    (posting_of 1 2 proxy_of_read ∷ posting_of 2 1 asking_one ∷ posting_of 1 2 answering_two ∷ [])
    (28 ∷ [])

-- before the reply reaches node 1
abbrev pub before_reply : World
before_reply =
    met joined_one joined_two having_passed having_read
    (posting_of 1 2 proxy_of_read ∷ posting_of 2 1 asking_one ∷ posting_of 1 2 answering_two
    ∷ posting_of 2 1 reply_to_one ∷ [])
    (29 ∷ [])
