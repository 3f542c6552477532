-- What is said of the kinds of messages: each message is spelled by one of them, and what a kind reads
-- is spelled so.
use Rattle.std.proofs.Common.{◌≡◌, ℕ, ◌<◌, List, [], ◌∷◌, ◌++◌, length, take, Some, Result, Ok, Err, sym, ap, subst, ◌∙◌, append_assoc}
use Rattle.std.specs.List.{concat}
use Rattle.std.proofs.lemmas.List.{append-nil}
use Rattle.wire_messages.specs.declared.message.Message.{Message}
use Rattle.wire_messages.specs.declared.fault.FieldFault.{FieldFault}
use Rattle.wire_messages.specs.declared.fault.FieldFault.TheVariants.{Short}
use Rattle.wire_messages.specs.Fields.{◌>>=◌}
use Rattle.wire_messages.specs.Kinds.{kind_of}
use Rattle.wire_messages.specs.Proper.{IsProper}
use Rattle.wire_messages.specs.Spelling.{fields_of, spelling}
use Rattle.wire_messages.specs.Writing.{appended}
use Rattle.wire_messages.proofs.Forms.{IsBytes, Small, IsForm, took, ok_is, done}

-- the message is read from its spelling, and where that is cut the bytes end too early
pub record Spelled (m : Message) : Type 0 where
  pub kind : ℕ
  pub read : List ℕ → Result (Message × List ℕ) FieldFault
  pub text : List ℕ
  pub spelled : spelling m ≡ kind ∷ text
  pub known : kind_of kind ≡ Some read
  pub again : (rest : List ℕ) → read (text ++ rest) ≡ Ok (m, rest)
  pub cut : (k : ℕ) → k < length text → read (take k text) ≡ Err Short
  pub small : Small (kind ∷ text)

pub appended_is : (front : List ℕ) (texts : List (List ℕ)) → appended front texts ≡ front ++ concat texts
appended_is front [] = sym (append-nil front)
appended_is front (text ∷ texts) = appended_is (front ++ text) texts ∙ append_assoc front text (concat texts)

-- behind what was taken already, the bytes spell the message and what follows it
pub record TakesMessage (front bytes : List ℕ) (m : Message) (rest : List ℕ) : Type 0 where
  pub parts : front ++ bytes ≡ spelling m ++ rest
  pub proper : IsProper m

-- one field is taken
pub takes_step : {A : Type 0} {P : A → Type 0} {w : A → List ℕ} {r : List ℕ → Result (A × List ℕ) FieldFault} → IsForm P w r
    → (front bytes : List ℕ) → IsBytes bytes → (f : A × List ℕ → Result (Message × List ℕ) FieldFault) (m : Message) (rest : List ℕ) → (r bytes >>= f) ≡ Ok (m, rest)
    → ((x : A) (b : List ℕ) → P x → IsBytes b → f (x, b) ≡ Ok (m, rest) → TakesMessage (front ++ w x) b m rest) → TakesMessage front bytes m rest
takes_step {A} {P} {w} {r} form front bytes fits f m rest e next =
    let t = took form bytes fits f (m, rest) e in
    let n = next t.value t.rest t.takes.allowed t.takes.rest_fits t.next in
    record {
      parts = ap (λ b. front ++ b) t.takes.parts ∙ sym (append_assoc front (w t.value) t.rest) ∙ n.parts;
      proper = n.proper;
    }

-- all fields are taken
pub last : (made : Message) (texts : List (List ℕ)) → fields_of made ≡ texts → (bytes : List ℕ) → IsProper made → (m : Message) (rest : List ℕ)
    → done {A = Message × List ℕ} (made, bytes) ≡ Ok (m, rest) → TakesMessage (appended [] texts) bytes m rest
unfolding spelling
last made texts is bytes proper m rest e =
    subst (λ (y : Message × List ℕ). TakesMessage (appended [] texts) bytes y.0 y.1) (ok_is (made, bytes) (m, rest) e)
    (record { parts = ap (λ t. t ++ bytes) (appended_is [] texts ∙ ap concat (sym is)); proper = proper })

-- what is read so has that kind's spelling
abbrev pub TakesKind : ℕ → (List ℕ → Result (Message × List ℕ) FieldFault) → Type 0
TakesKind kind read = (bytes : List ℕ) (m : Message) (rest : List ℕ) → IsBytes bytes → read bytes ≡ Ok (m, rest) → TakesMessage (kind ∷ []) bytes m rest
