-- What a message is read as: of kinds that no licence reads, some message of the same sort.
use Rattle.std.proofs.Common.{◌≡◌, ◌⊎◌, ℕ, Bool, true, Option, Some, None, refl, sym, ap, ◌∙◌, subst, arith, inl, inr}
use Rattle.wire_messages.specs.declared.message.Message.{Message}
use Rattle.wire_messages.specs.declared.message.Message.TheVariants as message
use Rattle.wire_messages.specs.Decoding.{message_of}
use Rattle.wire_messages.specs.Spelling.{spelling}
use Rattle.key_laws.proofs.Wire.{If, Read}
use Rattle.cluster_laws.proofs.At.{some_same, no_some}
use Rattle.run_laws.specs.Fronts.{Front}
use Rattle.run_laws.specs.LineOk.{IsDeclared}
use Rattle.run_laws.specs.LineDue.{SendDue}

-- the sort of a message of which no licence reads anything: 0 for a heartbeat, 1 for a proposal, 2 for another
abbrev pub sort_of : Message → Option ℕ
sort_of (message.Heartbeat view promised hears role) = Some 0
sort_of (message.Propose k ms) = Some 1
sort_of (message.Accept k) = Some 2
sort_of (message.Refuse k promised) = Some 2
sort_of (message.Commit k ms) = Some 2
sort_of message.MapAsk = Some 2
sort_of (message.MapTable t) = Some 2
sort_of (message.Proxy k number d want) = Some 2
sort_of (message.ProxyReply k number b) = Some 2
sort_of (message.Call number d want) = Some 2
sort_of (message.Reply k number b) = Some 2
sort_of (message.ScanAsk scan p after) = Some 2
sort_of (message.ScanPage page) = Some 2
sort_of (message.ScanNo scan cause) = Some 2
sort_of _ = None

-- the one is read as the other
pub record SameSort (m x : Message) : Type 0 where
  pub sort : ℕ
  pub first : sort_of m ≡ Some sort
  pub second : sort_of x ≡ Some sort

abbrev pub Alike : Message → Message → Type 0
Alike m x = (m ≡ x) ⊎ SameSort m x

-- the message is read as one like it, if it is read
abbrev pub ReadsWell : Message → Type 0
ReadsWell m = Read (Alike m) m

pub reads_itself : (m : Message) → message_of (spelling m) ≡ Some m → ReadsWell m
reads_itself m e = subst (If (Alike m)) (sym e) (inl refl)

-- what holds of each that is like it holds of what is read
pub well_cases : (m : Message) (P : Option Message → Type 0) → ReadsWell m → P None → ((x : Message) → Alike m x → P (Some x)) → P (message_of (spelling m))
well_cases m P w none some = go (message_of (spelling m)) w
  where
    go : (o : Option Message) → If (Alike m) o → P o
    go None h = none
    go (Some x) h = some x h

zero_one : ◌≡◌ {A = ℕ} 1 0 → ⊥
zero_one e = omega (arith, e)

zero_two : ◌≡◌ {A = ℕ} 2 0 → ⊥
zero_two e = omega (arith, e)

-- ---- what may be sent

beat_due : (z : Front) (n r : ℕ) (m : Message) → sort_of m ≡ Some 0 → SendDue z n r m → IsDeclared z n
beat_due z n r (message.Heartbeat v p hs q) e d = d
beat_due z n r (message.Propose k ms) e d = absurd (zero_one (some_same e))
beat_due z n r (message.Accept k) e d = absurd (zero_two (some_same e))
beat_due z n r (message.Refuse k p) e d = absurd (zero_two (some_same e))
beat_due z n r (message.Commit k ms) e d = absurd (zero_two (some_same e))
beat_due z n r message.MapAsk e d = absurd (zero_two (some_same e))
beat_due z n r (message.MapTable t) e d = absurd (zero_two (some_same e))
beat_due z n r (message.Proxy k number q w) e d = absurd (zero_two (some_same e))
beat_due z n r (message.ProxyReply k number b) e d = absurd (zero_two (some_same e))
beat_due z n r (message.Call number q w) e d = absurd (zero_two (some_same e))
beat_due z n r (message.Reply k number b) e d = absurd (zero_two (some_same e))
beat_due z n r (message.ScanAsk s p after) e d = absurd (zero_two (some_same e))
beat_due z n r (message.ScanPage page) e d = absurd (zero_two (some_same e))
beat_due z n r (message.ScanNo s cause) e d = absurd (zero_two (some_same e))
beat_due z n r _ e d = no_some e

light_due : (z : Front) (n r : ℕ) (x : Message) (c : ℕ) → sort_of x ≡ Some c → (c ≡ 0 → IsDeclared z n) → SendDue z n r x
light_due z n r (message.Heartbeat v p hs q) c e d = d (sym (some_same e))
light_due z n r (message.State k wants row) c e d = no_some e
light_due z n r (message.Batch b) c e d = no_some e
light_due z n r (message.BatchAck k number) c e d = no_some e
light_due z n r (message.Progress k wants done handed settled) c e d = no_some e
light_due z n r (message.Repl k t nth q v) c e d = no_some e
light_due z n r (message.ReplAck k t) c e d = no_some e
light_due z n r (message.Ask k t q) c e d = no_some e
light_due z n r (message.Answer k t v) c e d = no_some e
light_due z n r _ c e d = tt

pub alike_due : (z : Front) (n r : ℕ) (m x : Message) → Alike m x → SendDue z n r m → SendDue z n r x
alike_due z n r m x (inl e) d = subst (SendDue z n r) e d
alike_due z n r m x (inr s) d = light_due z n r x s.sort s.second (λ e. beat_due z n r m (s.first ∙ ap Some e) d)

-- ---- what stays

-- a test that says the same of messages of one sort
pub same_test : (test : Message → Bool) (m x : Message) → Alike m x → ((a b : Message) (c : ℕ) → sort_of a ≡ Some c → sort_of b ≡ Some c → test a ≡ true → test b ≡ true) → test m ≡ true → test x ≡ true
same_test test m x (inl e) h t = ap test (sym e) ∙ t
same_test test m x (inr s) h t = h m x s.sort s.first s.second t
