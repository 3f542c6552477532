-- The tie over a line by which a message arrives.
use Rattle.std.proofs.Common.{◌≡◌, ℕ, ◌==◌, Bool, true, false, Option, Some, None, refl, sym, ap, ◌∙◌, subst}
use Rattle.std.specs.Prelude.{option_map, option_and_then, nat_le, length, if◌then◌else◌}
use Rattle.cluster_types.specs.declared.cluster_key.ClusterKey.{ClusterKey}
use Rattle.wire_messages.specs.declared.message.Message.{Message}
use Rattle.wire_messages.specs.declared.message.Message.TheVariants as message
use Rattle.wire_messages.specs.Decoding.{message_of}
use Rattle.node_rules.specs.Exchange as exchange
use Rattle.node_rules.specs.Exchange.{View}
use Rattle.cluster_rules.specs.Marks.{came, came_to_client, came_to_node}
use Rattle.journal_readings.specs.Messages.{Posting, Arrival, arrived, arrived_cut}
use Rattle.cluster_rules.specs.Network.{posting_at}
use Rattle.cluster_rules.specs.World.{World}
use Rattle.cluster_laws.specs.Changes.{act}
use Rattle.cluster_laws.specs.Effect.{Effect, Row_came, Told, Write_came, effect_if, is_view_key, batch_ack, write_ack, answer_effect, comes, comes_if, arrives, arrives_cut}
use Rattle.cluster_laws.specs.Ground.{Ground}
use Rattle.cluster_laws.specs.Picture.{Packet, Owed, Picture}
use Rattle.cluster_laws.proofs.At.{number_same}
use Rattle.node_rules.specs.Messages.{client}
use Rattle.run_laws.specs.Tied.{key_in}
use Rattle.run_laws.specs.Fronts.{packet_of, owed_if, owed_by, owed_at, Sane}
use Rattle.run_laws.proofs.Arrivals.{TiedTo, reached_tied}

-- ---- at the client

-- the client is in no view
record Outside (z : World) (c : ℕ → Bool) (due : Option Owed) (w : Picture) (n : ℕ) : Type 0 where
  facts : (z.facts n).exchange.view ≡ None
  picture : (w.node n).view ≡ None
  tie : TiedTo z c due w

no_effect : (G : Ground) {z : World} {c : ℕ → Bool} {due : Option Owed} {w : Picture} {n : ℕ} → Outside z c due w n → (k : ClusterKey) (e : Effect) → TiedTo z c due (act G (effect_if e (is_view_key (w.node n).view k)) w)
no_effect G {z} {c} {due} {w} {n} h k e = subst (λ (o : Option ClusterKey). TiedTo z c due (act G (effect_if e (is_view_key o k)) w)) (sym h.picture) h.tie

at_client : (G : Ground) {z : World} {c : ℕ → Bool} {due : Option Owed} {w : Picture} {n : ℕ} → Outside z c due w n → (from : ℕ) (m : Message) → TiedTo (came_to_client z m) c (owed_by (z.facts n) n m due) (act G (comes w n from m) w)
at_client G {z} {c} {due} {w} {n} h from (message.State k wants row) = no_effect G h k (Row_came n k from)
at_client G {z} {c} {due} {w} {n} h from (message.BatchAck k number) = no_effect G h k (batch_ack n k from number ((w.stay n k).out from))
at_client G {z} {c} {due} {w} {n} h from (message.Progress k wants done handed settled) = no_effect G h k (Told n k from done handed settled)
at_client G {z} {c} {due} {w} {n} h from (message.Repl k t nth d v) =
    subst (λ (o : Option View). TiedTo z c (owed_if (z.facts n) n k d v (exchange.is_view o k) due) (act G (effect_if (Write_came n k from nth d v) (is_view_key (w.node n).view k)) w)) (sym h.facts) (no_effect G h k (Write_came n k from nth d v))
at_client G {z} {c} {due} {w} {n} h from (message.ReplAck k t) = no_effect G h k (write_ack n k from t ((w.stay n k).running t))
at_client G {z} {c} {due} {w} {n} h from (message.Answer k t v) = no_effect G h k (answer_effect n k from t v ((w.stay n k).running t))
at_client G h from (message.MapTable x) = h.tie
at_client G h from _ = h.tie

-- ---- at its end

at_end : (G : Ground) (z : World) (c : ℕ → Bool) (due : Option Owed) (w : Picture) → Sane G z → TiedTo z c due w → (x : Arrival) (q : Bool) → (x.to == client) ≡ q
    → TiedTo (if q then came_to_client z x.message else came_to_node z x) c (owed_by (z.facts x.to) x.to x.message due) (act G (comes w x.to x.from x.message) w)
at_end G z c due w s t x true e = at_client G (record { facts = ap (λ (n : ℕ). (z.facts n).exchange.view) (number_same x.to client e) ∙ s.client; picture = (t.nodes x.to).seen.view ∙ ap (λ (n : ℕ). key_in (z.facts n).exchange.view) (number_same x.to client e) ∙ ap key_in s.client; tie = t }) x.from x.message
at_end G z c due w s t x false e = reached_tied {z = z} (record { sane = s.nodes x.to; tie = t }) x.from x.message

whole : (G : Ground) (z : World) (c : ℕ → Bool) (due : Option Owed) (w : Picture) → Sane G z → TiedTo z c due w → (p : Posting) (m : Option Message)
    → TiedTo (came z (option_map (λ x. record { from = p.from; to = p.to; message = x }) m)) c (owed_at z (option_map (λ x. record { from = p.from; to = p.to; message = x }) m) due) (act G (comes_if w p.to p.from m) w)
whole G z c due w s t p None = t
whole G z c due w s t p (Some m) = at_end G z c due w s t (record { from = p.from; to = p.to; message = m }) (p.to == client) refl

-- the line names the message's own end
pub delivered_tied : (G : Ground) (z : World) (c : ℕ → Bool) (due : Option Owed) (w : Picture) (i b : ℕ) → Sane G z → ((p : Posting) → posting_at z.network i ≡ Some p → p.to ≡ b) → TiedTo z c due w
    → TiedTo (came z (option_and_then (arrived b) (posting_at z.network i))) c (owed_at z (option_and_then (arrived b) (posting_at z.network i)) due) (act G (arrives w (w.packet i)) w)
delivered_tied G z c due w i b s ends t = subst (λ (o : Option Packet). TiedTo (came z (option_and_then (arrived b) (posting_at z.network i))) c (owed_at z (option_and_then (arrived b) (posting_at z.network i)) due) (act G (arrives w o) w)) (sym (t.packets i)) (go (posting_at z.network i) refl)
  where
    go : (o : Option Posting) → posting_at z.network i ≡ o → TiedTo (came z (option_and_then (arrived b) o)) c (owed_at z (option_and_then (arrived b) o) due) (act G (arrives w (option_map packet_of o)) w)
    go None e = t
    go (Some p) e = subst (λ (n : ℕ). TiedTo (came z (arrived n p)) c (owed_at z (arrived n p) due) (act G (comes_if w p.to p.from (message_of p.bytes)) w)) (ends p e) (whole G z c due w s t p (message_of p.bytes))

pub cut_tied : (G : Ground) (z : World) (c : ℕ → Bool) (due : Option Owed) (w : Picture) (i b size : ℕ) → Sane G z → ((p : Posting) → posting_at z.network i ≡ Some p → p.to ≡ b) → TiedTo z c due w
    → TiedTo (came z (option_and_then (arrived_cut b size) (posting_at z.network i))) c (owed_at z (option_and_then (arrived_cut b size) (posting_at z.network i)) due) (act G (arrives_cut w size (w.packet i)) w)
cut_tied G z c due w i b size s ends t = subst (λ (o : Option Packet). TiedTo (came z (option_and_then (arrived_cut b size) (posting_at z.network i))) c (owed_at z (option_and_then (arrived_cut b size) (posting_at z.network i)) due) (act G (arrives_cut w size o) w)) (sym (t.packets i)) (go (posting_at z.network i) refl)
  where
    long : (p : Posting) → p.to ≡ b → (q : Bool) → TiedTo (came z (if q then arrived b p else None)) c (owed_at z (if q then arrived b p else None) due) (act G (effect_if (comes_if w p.to p.from (message_of p.bytes)) q) w)
    long p e false = t
    long p e true = subst (λ (n : ℕ). TiedTo (came z (arrived n p)) c (owed_at z (arrived n p) due) (act G (comes_if w p.to p.from (message_of p.bytes)) w)) e (whole G z c due w s t p (message_of p.bytes))

    go : (o : Option Posting) → posting_at z.network i ≡ o → TiedTo (came z (option_and_then (arrived_cut b size) o)) c (owed_at z (option_and_then (arrived_cut b size) o) due) (act G (arrives_cut w size (option_map packet_of o)) w)
    go None e = t
    go (Some p) e = long p (ends p e) (nat_le (length p.bytes) size)
