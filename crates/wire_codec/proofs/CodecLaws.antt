-- What the codec's calls rest on.
use Rattle.std.proofs.Common.{◌≡◌, ℕ, zero, suc, ◌<◌, ◌≤◌, List, [], ◌∷◌, length, Some, None, Result, Ok, Err, refl, ap, subst, ◌∙◌, arith, inl, inr}
use Rattle.std.specs.Prelude.{slice_get, IfOk}
use Rattle.std.proofs.lemmas.Bool.{cases_lt}
use Rattle.wire_messages.specs.declared.message.Message.{Message}
use Rattle.wire_messages.specs.declared.fault.DecodeFault.{DecodeFault}
use Rattle.wire_messages.specs.declared.fault.FieldFault.{FieldFault}
use Rattle.wire_messages.specs.declared.fault.FieldFault.TheVariants.{Bad, Short}
use Rattle.wire_codec.specs.declared.reading.ReadFault.{ReadFault}
use Rattle.wire_codec.specs.declared.reading.ReadFault.TheVariants.{Field, NoMemory}
use Rattle.wire_messages.specs.Decoding.{whole, of_kind, decoded}
use Rattle.wire_messages.specs.Kinds.{kinds as readings, kind_of}
use Rattle.wire_messages.specs.Kinds as kinds
use Rattle.wire_codec.specs.declared.kind.Kind.{Kind}
use Rattle.wire_codec.specs.declared.kind.Kind.TheVariants as kind
use Rattle.wire_codec.specs.Decoding.{located, Decodes}
use Rattle.wire_codec.specs.KindBytes.{byte_of}
use Rattle.wire_messages.specs.Proper.{IsProper}
use Rattle.wire_codec.specs.Reading.{Fails}
use Rattle.wire_messages.specs.Spelling.{spelling}
use Rattle.wire_messages.proofs.DecodingLaws.{decoded_again, decoded_spelled}
use Rattle.wire_messages.proofs.Forms.{IsBytes, Small}

-- ---- kinds

past : {A : Type 0} (xs : List A) (n : ℕ) → length xs ≤ n → slice_get xs n ≡ None
past [] n h = refl
past (x ∷ xs) zero h = absurd (omega (arith, h))
past (x ∷ xs) (suc n) h = past xs n (omega (arith, h))

no_kind : (kind : ℕ) → 25 < kind → kind_of kind ≡ None
no_kind zero h = absurd (omega (arith, h))
no_kind (suc n) h = past readings n (omega (arith, h))

pub other_kind : (kind : ℕ) → ¬ ((0 < kind) × (kind ≤ 25)) → kind_of kind ≡ None
other_kind zero h = refl
other_kind (suc n) h =
    elim (cases_lt 25 (suc n)) [ inl above ↦ no_kind (suc n) above | inr most ↦ absurd (h (omega arith, most)) ]

-- each kind is read in some way
pub known_kind : (k : Kind) → (read : List ℕ → Result (Message × List ℕ) FieldFault) × (kind_of (byte_of k) ≡ Some read)
known_kind kind.Heartbeat = (kinds.heartbeat_at, refl)
known_kind kind.Propose = (kinds.propose_at, refl)
known_kind kind.Accept = (kinds.accept_at, refl)
known_kind kind.Refuse = (kinds.refuse_at, refl)
known_kind kind.Commit = (kinds.commit_at, refl)
known_kind kind.State = (kinds.state_message_at, refl)
known_kind kind.Batch = (kinds.batch_at, refl)
known_kind kind.BatchAck = (kinds.batch_ack_at, refl)
known_kind kind.Progress = (kinds.progress_at, refl)
known_kind kind.Repl = (kinds.repl_at, refl)
known_kind kind.ReplAck = (kinds.repl_ack_at, refl)
known_kind kind.Ask = (kinds.ask_at, refl)
known_kind kind.Answer = (kinds.answer_at, refl)
known_kind kind.MapAsk = (kinds.map_ask_at, refl)
known_kind kind.MapTable = (kinds.map_table_at, refl)
known_kind kind.HeartbeatWithRole = (kinds.heartbeat_with_role_at, refl)
known_kind kind.ProposeWithRoles = (kinds.propose_with_roles_at, refl)
known_kind kind.CommitWithRoles = (kinds.commit_with_roles_at, refl)
known_kind kind.Proxy = (kinds.proxy_at, refl)
known_kind kind.ProxyReply = (kinds.proxy_reply_at, refl)
known_kind kind.Call = (kinds.call_at, refl)
known_kind kind.Reply = (kinds.reply_message_at, refl)
known_kind kind.ScanAsk = (kinds.scan_ask_at, refl)
known_kind kind.ScanPage = (kinds.scan_page_at, refl)
known_kind kind.ScanNo = (kinds.scan_no_at, refl)

-- ---- a message that was read, or wasn't

fail_decodes : (size : ℕ) (f : ReadFault) (read : Result (Message × List ℕ) FieldFault) → Fails f read → Decodes (Err (located size f)) (whole size read)
fail_decodes size (Field (Bad left)) read h = ap (whole size) h
fail_decodes size (Field Short) read h = ap (whole size) h
fail_decodes size NoMemory read h = tt

pub fault_decodes : (kind : ℕ) (fields : List ℕ) (size : ℕ) (f : ReadFault) (read : List ℕ → Result (Message × List ℕ) FieldFault)
    → kind_of kind ≡ Some read → size ≡ suc (length fields) → Fails f (read fields) → Decodes (Err (located size f)) (of_kind kind fields (kind_of kind))
fault_decodes kind fields size f read known is failed =
    rw (known, is) (fail_decodes (suc (length fields)) f (read fields) failed)

-- ---- the whole

pub decoded_found : (bytes : List ℕ) (r : Result Message DecodeFault) → Small bytes → Decodes r (decoded bytes) → IfOk r (λ m. IsProper m × (spelling m ≡ bytes))
decoded_found bytes (Ok m) small d = decoded_spelled bytes m small d
decoded_found bytes (Err f) small d = tt

pub decoded_only : (bytes : List ℕ) (r : Result Message DecodeFault) → Decodes r (decoded bytes) → (m : Message) → IsProper m → bytes ≡ spelling m → Decodes r (Ok m)
decoded_only bytes r d m p e = subst (Decodes r) (ap decoded e ∙ decoded_again m p) d

pub bytes_small : (bytes : List ℕ) → IsBytes bytes → Small bytes
bytes_small [] h = tt
bytes_small (b ∷ bytes) h = (h 0, bytes_small bytes (λ i. h (suc i)))
