-- What is read has the kind of what was spelled; and which kinds are sent.
use Rattle.std.proofs.Common.{◌≡◌, ℕ, ◌==◌, Bool, true, false, List, [], ◌∷◌, ◌++◌, Option, Some, None, refl, sym, ap, ◌∙◌, if◌then◌else◌}
use Rattle.std.specs.List.{concat, cons_option}
use Rattle.wire_messages.specs.declared.message.Message.{Message}
use Rattle.wire_messages.specs.declared.message.Message.TheVariants as message
use Rattle.wire_messages.specs.Decoding.{message_of}
use Rattle.wire_messages.specs.Keys.{key_field}
use Rattle.wire_messages.specs.Nodes.{ids_field, role_field, is_plain, all_plain, plain_members_field, members_field}
use Rattle.wire_messages.specs.Numbers.{byte_field}
use Rattle.wire_messages.specs.Spelling.{spelling}
use Rattle.wire_messages.proofs.DecodingLaws.{what_is_read}
use Rattle.calm_laws.specs.Acts.{read_to, as_read}
use Rattle.calm_laws.specs.Group.{kind}

-- the kind that the first byte tells
abbrev plain_kind : ℕ → ℕ
plain_kind k = if (k == 16) then 1 else (if (k == 17) then 2 else (if (k == 18) then 5 else k))

abbrev first : List ℕ → ℕ
first [] = 0
first (b ∷ bs) = b

tells : (m : Message) → plain_kind (first (spelling m)) ≡ kind m
unfolding spelling byte_field
tells (message.Heartbeat view promised hears role) = go (is_plain role)
  where
    go : (b : Bool) → plain_kind (first (concat (if b then (1 ∷ []) ∷ key_field view ∷ key_field promised ∷ ids_field hears ∷ [] else ((16 ∷ []) ∷ key_field view ∷ key_field promised ∷ ids_field hears ∷ role_field role ∷ [])))) ≡ 1
    go true = refl
    go false = refl
tells (message.Propose key members) = go (all_plain members)
  where
    go : (b : Bool) → plain_kind (first (concat (if b then (2 ∷ []) ∷ key_field key ∷ plain_members_field members ∷ [] else ((17 ∷ []) ∷ key_field key ∷ members_field members ∷ [])))) ≡ 2
    go true = refl
    go false = refl
tells (message.Commit key members) = go (all_plain members)
  where
    go : (b : Bool) → plain_kind (first (concat (if b then (5 ∷ []) ∷ key_field key ∷ plain_members_field members ∷ [] else ((18 ∷ []) ∷ key_field key ∷ members_field members ∷ [])))) ≡ 5
    go true = refl
    go false = refl
tells (message.Accept key) = refl
tells (message.Refuse refused promised) = refl
tells (message.State key wants row) = refl
tells (message.Batch b) = refl
tells (message.BatchAck key number) = refl
tells (message.Progress key wants done handed settled) = refl
tells (message.Repl key transaction nth digest version) = refl
tells (message.ReplAck key transaction) = refl
tells (message.Ask key transaction digest) = refl
tells (message.Answer key transaction version) = refl
tells message.MapAsk = refl
tells (message.MapTable t) = refl
tells (message.Proxy key number digest want) = refl
tells (message.ProxyReply key number reply) = refl
tells (message.Call number digest want) = refl
tells (message.Reply key number reply) = refl
tells (message.ScanAsk scan partition after) = refl
tells (message.ScanPage page) = refl
tells (message.ScanNo scan refusal) = refl

-- what is read has the kind of what was spelled
pub read_kind : (m x : Message) → message_of (spelling m) ≡ Some x → kind x ≡ kind m
read_kind m x e = sym (tells x) ∙ ap (λ (bs : List ℕ). plain_kind (first bs)) (what_is_read (spelling m) x e).1 ∙ tells m

-- ---- kinds that are sent

-- no message among these is of a kind of which the test holds
abbrev pub NoneOf : (ℕ → Bool) → List (ℕ × Message) → Type 0
NoneOf test [] = Unit {0}
NoneOf test (m ∷ ms) = (test (kind m.1) ≡ false) × NoneOf test ms

pub none_append : (test : ℕ → Bool) (xs ys : List (ℕ × Message)) → NoneOf test xs → NoneOf test ys → NoneOf test (xs ++ ys)
none_append test [] ys h i = i
none_append test (x ∷ xs) ys h i = (h.0, none_append test xs ys h.1 i)

-- nor are they as they are read
pub none_read : (test : ℕ → Bool) (ms : List (ℕ × Message)) → NoneOf test ms → NoneOf test (as_read ms)
unfolding as_read
none_read test [] h = tt
none_read test (m ∷ ms) h = go (message_of (spelling m.1)) refl (none_read test ms h.1)
  where
    go : (o : Option Message) → message_of (spelling m.1) ≡ o → NoneOf test (as_read ms) → NoneOf test (cons_option (read_to m.0 o) (as_read ms))
    go None e rest = rest
    go (Some x) e rest = (ap test (read_kind m.1 x e) ∙ h.0, rest)
