-- What is kept of requests that come or go as messages: at each node for as long as it stays in its view, and at the
-- client.
use Rattle.std.specs.Prelude.{ℕ, List, []}
use Rattle.request_rules.specs.declared.call.Call.{Call}
use Rattle.request_rules.specs.declared.passed.Passed.{Passed}
use Rattle.request_rules.specs.declared.scanning.Scanning.{Scanning}
use Rattle.request_rules.specs.declared.taken.Taken.{Taken}
use Rattle.request_rules.specs.ByNumber.{ByNumber}

-- the requests that a node passed on
pub record PassedOn : Type 0 where
  -- how many numbers were given in the node's view. The next request gets the number after that
  pub given : ℕ
  -- those that aren't replied to
  pub waiting : ByNumber Passed

-- the requests of a node
pub record NodeRequests : Type 0 where
  pub passed : PassedOn
  -- the requests that the node took up for others, each asker and number once, in the order in which it took them up
  pub taken : List Taken

-- the requests that the client sent as messages
pub record Calls : Type 0 where
  -- how many numbers were given
  pub given : ℕ
  -- those that are open
  pub waiting : ByNumber Call

-- the client's scans
pub record Scans : Type 0 where
  -- how many numbers were given
  pub given : ℕ
  -- those that are open
  pub running : ByNumber Scanning

-- all requests of a world
pub record Requests : Type 0 where
  -- what each node keeps
  pub at : ℕ → NodeRequests
  pub calls : Calls
  pub scans : Scans

-- ---- at the start

-- none was passed on
abbrev pub none_passed : PassedOn
none_passed = record { given = 0; waiting = [] }

-- a node that has just entered its view, or has none
abbrev pub no_requests : NodeRequests
no_requests = record { passed = none_passed; taken = [] }

abbrev pub no_calls : Calls
no_calls = record { given = 0; waiting = [] }

abbrev pub no_scans : Scans
no_scans = record { given = 0; running = [] }

-- nothing came or went
abbrev pub no_requests_yet : Requests
no_requests_yet = record { at = λ n. no_requests; calls = no_calls; scans = no_scans }
