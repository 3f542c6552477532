-- What is kept of requests counts for no licence: marks that may stand may stand where other requests are kept. For steps of
-- nodes that have requests of others.
use Rattle.std.proofs.Common.{◌≡◌, ℕ, ◌==◌, Bool, true, false, cond, List, [], ◌∷◌, Option, Some, None, refl, sym, ap, subst, ◌∙◌, inl, inr, ⊎_elim}
use Rattle.std.specs.Prelude.{option_and_then}
use Rattle.cluster_types.specs.declared.cluster_key.ClusterKey.{ClusterKey}
use Rattle.wire_messages.specs.declared.message.Message.{Message}
use Rattle.wire_messages.specs.declared.message.Message.TheVariants as message
use Rattle.wire_messages.specs.Decoding.{message_of}
use Rattle.journal_lines.specs.declared.line.Line.{Line}
use Rattle.journal_lines.specs.declared.line.Line.TheVariants as line
use Rattle.journal_readings.specs.Messages.{Arrival, arrived, arrived_cut}
use Rattle.request_rules.specs.Requests.{Requests}
use Rattle.cluster_rules.specs.Marks as marks
use Rattle.cluster_rules.specs.Marks.{Mark, Begins, Writes, came_to_client, came_to_node}
use Rattle.cluster_rules.specs.Network.{posting, posting_at}
use Rattle.node_rules.specs.Messages.{client}
use Rattle.key_laws.specs.Licences.{MaySendKeyIf, OkLine, OkMark, LicensedMarks}
use Rattle.key_laws.specs.Sound.{Grows}
use Rattle.key_laws.specs.Traced.{Traced, traced_after, traced_after_all}
use Rattle.key_laws.proofs.Growth.{same_grows, known_grows, visited_grows, says_if_grows}

-- ---- other requests

-- the world with other requests, and its history
abbrev pub keeping : Traced → Requests → Traced
keeping t kept = record {
  world = record t.world { requests = kept };
  lists = t.lists;
  entered = t.entered;
}

-- the second differs from the first in what is kept of requests alone
pub record KeepsOther (t u : Traced) : Type 0 where
  pub kept : Requests
  pub same : u ≡ keeping t kept

pub same_requests : (t : Traced) → KeepsOther t t
same_requests t = record { kept = t.world.requests; same = refl }

pub other_on : (t u v : Traced) → KeepsOther t u → KeepsOther u v → KeepsOther t v
other_on t u v a b = record { kept = b.kept; same = b.same ∙ ap (λ (x : Traced). keeping x b.kept) a.same }

-- ---- a mark

came_other : (t : Traced) (kept : Requests) (x : Option Arrival) (entered : ℕ → ClusterKey → Bool) → KeepsOther (record { world = marks.came t.world x; lists = t.lists; entered = entered }) (record { world = marks.came (keeping t kept).world x; lists = t.lists; entered = entered })
came_other t kept None entered = record { kept = kept; same = refl }
came_other t kept (Some x) entered = go (x.to == client)
  where
    at_client : (m : Message) → KeepsOther (record { world = came_to_client t.world m; lists = t.lists; entered = entered }) (record { world = came_to_client (keeping t kept).world m; lists = t.lists; entered = entered })
    at_client (message.MapTable table) = record { kept = kept; same = refl }
    at_client _ = record { kept = kept; same = refl }

    go : (b : Bool) → KeepsOther (record { world = cond b (came_to_client t.world x.message) (came_to_node t.world x); lists = t.lists; entered = entered }) (record { world = cond b (came_to_client (keeping t kept).world x.message) (came_to_node (keeping t kept).world x); lists = t.lists; entered = entered })
    go true = at_client x.message
    go false = record { kept = kept; same = refl }

sent_other : (t : Traced) (kept : Requests) (i a b : ℕ) (bytes : List ℕ) → KeepsOther (traced_after t (Writes (line.Sent i a b bytes))) (traced_after (keeping t kept) (Writes (line.Sent i a b bytes)))
sent_other t kept i a b bytes = go (message_of bytes)
  where
    go : (o : Option Message) → KeepsOther (record { world = marks.sent_by (record t.world { network = posting t.world.network i (record { from = a; to = b; bytes = bytes }) }) a b o; lists = t.lists; entered = λ n k. t.entered n k }) (record { world = marks.sent_by (record t.world { requests = kept; network = posting t.world.network i (record { from = a; to = b; bytes = bytes }) }) a b o; lists = t.lists; entered = λ n k. t.entered n k })
    go None = record { kept = kept; same = refl }
    go (Some m) = record { kept = kept; same = refl }

line_other : (t : Traced) (kept : Requests) (l : Line) → KeepsOther (traced_after t (Writes l)) (traced_after (keeping t kept) (Writes l))
line_other t kept (line.Deliver i a b) = came_other t kept (option_and_then (arrived b) (posting_at t.world.network i)) _
line_other t kept (line.Repeat i a b) = came_other t kept (option_and_then (arrived b) (posting_at t.world.network i)) _
line_other t kept (line.Cut i a b size) = came_other t kept (option_and_then (arrived_cut b size) (posting_at t.world.network i)) _
line_other t kept (line.Sent i a b bytes) = sent_other t kept i a b bytes
line_other t kept (line.Stop n) = record { kept = _; same = refl }
line_other t kept (line.Enter n k ms) = record { kept = _; same = refl }
line_other t kept (line.Opened n k number d a) = record { kept = _; same = refl }
line_other t kept (line.Refused n d cause) = record { kept = _; same = refl }
line_other t kept (line.Value n k number d v) = record { kept = _; same = refl }
line_other t kept (line.Done n k number) = record { kept = _; same = refl }
line_other t kept (line.Proxy n k x d a to) = record { kept = _; same = refl }
line_other t kept (line.Proxied n k x b) = record { kept = _; same = refl }
line_other t kept (line.Unproxied n k x) = record { kept = _; same = refl }
line_other t kept (line.Call q n d a) = record { kept = _; same = refl }
line_other t kept (line.Reply q n b) = record { kept = _; same = refl }
line_other t kept (line.Scan s n p) = record { kept = _; same = refl }
line_other t kept _ = record { kept = kept; same = refl }

mark_other : (t : Traced) (kept : Requests) (m : Mark) → KeepsOther (traced_after t m) (traced_after (keeping t kept) m)
mark_other t kept (Begins e) = record { kept = kept; same = refl }
mark_other t kept (Writes l) = line_other t kept l

pub after_other : (t u : Traced) (m : Mark) → KeepsOther t u → KeepsOther (traced_after t m) (traced_after u m)
after_other t u m h = subst (λ (v : Traced). KeepsOther (traced_after t m) (traced_after v m)) (sym h.same) (mark_other t h.kept m)

pub after_all_other : (t u : Traced) (ms : List Mark) → KeepsOther t u → KeepsOther (traced_after_all t ms) (traced_after_all u ms)
after_all_other t u [] h = h
after_all_other t u (m ∷ ms) h = after_all_other (traced_after t m) (traced_after u m) ms (after_other t u m h)

-- ---- licences

other_grows : (t : Traced) (kept : Requests) → Grows t (keeping t kept)
other_grows t kept = let same : Grows t t = same_grows t in
    record { promised = same.promised; lists = same.lists; sent = same.sent; entered = same.entered }

pub grows_other : (t u : Traced) → KeepsOther t u → Grows t u
grows_other t u h = subst (λ (v : Traced). Grows t v) (sym h.same) (other_grows t h.kept)

may_other : (t : Traced) (kept : Requests) (a : ℕ) (o : Option Message) → MaySendKeyIf t a o → MaySendKeyIf (keeping t kept) a o
may_other t kept a None h = h
may_other t kept a (Some (message.Propose k ms)) h = record { promised = h.promised; above = h.above }
may_other t kept a (Some _) h = h

line_ok_other : (t : Traced) (kept : Requests) (l : Line) → OkLine t l → OkLine (keeping t kept) l
line_ok_other t kept (line.Promise n k) h = record {
  above = h.above;
  source = ⊎_elim (λ x. inl x) (λ x. inr (x.0, record { number = x.1.number; posting = x.1.posting; stands = x.1.stands; read = x.1.read })) h.source;
}
line_ok_other t kept (line.Enter n k ms) h = record {
  promised = h.promised;
  above = h.above;
  among = h.among;
  source = ⊎_elim (λ x. inl x) (λ x. inr (record { number = x.number; posting = x.posting; stands = x.stands; read = x.read })) h.source;
}
line_ok_other t kept (line.Sent i a b bytes) h = (says_if_grows t (keeping t kept) (other_grows t kept) a (message_of bytes) h.0, may_other t kept a (message_of bytes) h.1)
line_ok_other t kept (line.Exchanged n k) h = record { visited = visited_grows t (keeping t kept) (other_grows t kept) n k h.visited; view = h.view }
line_ok_other t kept (line.Opened n k number d a) h = visited_grows t (keeping t kept) (other_grows t kept) n k h
line_ok_other t kept (line.Value n k number d v) h = visited_grows t (keeping t kept) (other_grows t kept) n k h
line_ok_other t kept (line.Apply n k number d v) h = visited_grows t (keeping t kept) (other_grows t kept) n k h
line_ok_other t kept (line.Done n k number) h = visited_grows t (keeping t kept) (other_grows t kept) n k h
line_ok_other t kept (line.Aborted n k number) h = known_grows t (keeping t kept) (other_grows t kept) k h
line_ok_other t kept (line.Doubt n k number) h = known_grows t (keeping t kept) (other_grows t kept) k h
line_ok_other t kept (line.Merge n k d v) h = visited_grows t (keeping t kept) (other_grows t kept) n k h
line_ok_other t kept (line.Handed n k p) h = visited_grows t (keeping t kept) (other_grows t kept) n k h
line_ok_other t kept (line.Settled n k p) h = visited_grows t (keeping t kept) (other_grows t kept) n k h
line_ok_other t kept (line.Learn n k p) h = visited_grows t (keeping t kept) (other_grows t kept) n k h
line_ok_other t kept (line.Drop n k p) h = visited_grows t (keeping t kept) (other_grows t kept) n k h
line_ok_other t kept (line.Map n k p ms a) h = visited_grows t (keeping t kept) (other_grows t kept) n k h
line_ok_other t kept (line.Table k) h = known_grows t (keeping t kept) (other_grows t kept) k h
line_ok_other t kept (line.Proxy n k x d a acting) h = known_grows t (keeping t kept) (other_grows t kept) k h
line_ok_other t kept (line.Proxied n k x body) h = known_grows t (keeping t kept) (other_grows t kept) k h
line_ok_other t kept (line.Unproxied n k x) h = known_grows t (keeping t kept) (other_grows t kept) k h
line_ok_other t kept (line.Scanned s n k p size) h = known_grows t (keeping t kept) (other_grows t kept) k h
line_ok_other t kept _ h = h

mark_ok_other : (t : Traced) (kept : Requests) (m : Mark) → OkMark t m → OkMark (keeping t kept) m
mark_ok_other t kept (Begins e) h = h
mark_ok_other t kept (Writes l) h = line_ok_other t kept l h

pub licensed_other : (t u : Traced) (ms : List Mark) → KeepsOther t u → LicensedMarks t ms → LicensedMarks u ms
licensed_other t u [] s h = tt
licensed_other t u (m ∷ ms) s h = (subst (λ (v : Traced). OkMark v m) (sym s.same) (mark_ok_other t s.kept m h.0), licensed_other (traced_after t m) (traced_after u m) ms (after_other t u m s) h.1)
