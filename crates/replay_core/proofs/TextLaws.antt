-- A journal's text, written line by line behind a buffer.
use Rattle.std.proofs.Common.{◌≡◌, ℕ, ◌+◌, ◌<◌, List, [], ◌∷◌, ◌++◌, length, take, drop, Option, ◌≢◌, refl, sym, ap, subst, ◌∙◌, append_assoc, zero, suc, get_or, arith, length-append}
use Rattle.std.proofs.lemmas.Grind.{flat_map-append}
use Rattle.std.proofs.lemmas.List.{take_more, append-nil}
use Rattle.journal_lines.specs.declared.line.Line.{Line}
use Rattle.journal_text.specs.Text.{text, line_text, words}
use Rattle.replay_core.specs.Streams.{WroteFront}
use Rattle.replay_core.proofs.StreamLaws.{Buffered, buffered_more, buffered_front, front_written, more_left}

pub text_append : (xs ys : List Line) → text (xs ++ ys) ≡ text xs ++ text ys
text_append xs ys = flat_map-append line_text xs ys

text_split : (i : ℕ) (ls : List Line) → text (take i ls) ++ text (drop i ls) ≡ text ls
text_split zero ls = refl
text_split (suc i) [] = refl
text_split (suc i) (l ∷ ls) = append_assoc (line_text l) (text (take i ls)) (text (drop i ls)) ∙ ap (λ t. line_text l ++ t) (text_split i ls)

some_text : (l : Line) → line_text l ≢ []
some_text l e =
    let none : length (line_text l) ≡ length {A = ℕ} [] = ap length e in
    omega (arith, none, length-append (words l) (10 ∷ []))

-- behind the first lines there is a text where there is a line
text_left : (i : ℕ) (ls : List Line) → i < length ls → text (drop i ls) ≢ []
text_left i [] below e = absurd (omega (arith, below))
text_left zero (l ∷ ls) below e = more_left (line_text l) (text ls) (some_text l) e
text_left (suc i) (l ∷ ls) below e = text_left i ls (omega (arith, below)) e

-- a line more in the buffer
pub line_buffered : (old new : Option (List ℕ)) (lines : List Line) (i : ℕ) (l : Line) (buffer after : List ℕ) → Buffered old new (text (take i lines)) buffer → i < length lines → l ≡ get_or lines i l → after ≡ buffer ++ line_text l → Buffered old new (text (take (i + 1) lines)) after
line_buffered old new lines i l buffer after h fits is e =
    let more : text (take (i + 1) lines) ≡ text (take i lines) ++ line_text l =
    ap text (take_more lines i l fits ∙ ap (λ x. take i lines ++ x ∷ []) (sym is)) ∙ text_append (take i lines) (l ∷ []) ∙ ap (λ t. text (take i lines) ++ t) (append-nil (line_text l)) in
    subst (λ b. Buffered old new b after) (sym more) (subst (Buffered old new (text (take i lines) ++ line_text l)) (sym e) (buffered_more old new (text (take i lines)) buffer (line_text l) h))

pub front_of_text : (old new : Option (List ℕ)) (lines : List Line) (i : ℕ) (buffer : List ℕ) → i < length lines → Buffered old new (text (take i lines)) buffer → WroteFront old new (text lines)
front_of_text old new lines i buffer below h =
    subst (WroteFront old new) (text_split i lines) (buffered_front old new (text (take i lines)) buffer (text (drop i lines)) (text_left i lines below) h)

pub front_of_text_written : (old mid new : Option (List ℕ)) (lines : List Line) (i : ℕ) (buffer piece : List ℕ) → Buffered old mid (text (take i lines)) buffer → piece ≡ buffer → WroteFront mid new piece → WroteFront old new (text lines)
front_of_text_written old mid new lines i buffer piece h is w = subst (WroteFront old new) (text_split i lines) (front_written old mid new (text (take i lines)) buffer (text (drop i lines)) h (subst (WroteFront mid new) is w))
