-- What a source gave and a sink took, piece by piece.
use Rattle.std.proofs.Common.{◌≡◌, ℕ, ◌+◌, ◌-◌, ◌<◌, ◌≤◌, List, [], ◌∷◌, ◌++◌, length, take, drop, Option, Some, None, ◌≢◌, refl, sym, ap, subst, ◌∙◌, arith, append_assoc, length-append, IfSome, length-take, zero, suc}
use Rattle.std.specs.List.{slice_range}
use Rattle.std.proofs.lemmas.List.{take-append-drop, append-nil, length-drop}
use Rattle.std.proofs.Math.Seq.{take-add}
use Rattle.byte_ends.specs.declared.sink.Pushed.TheVariants.{Took, Failed}
use Rattle.byte_ends.specs.declared.source.Pulled.TheVariants.{Got, End}
use Rattle.byte_ends.specs.declared.source.Pulled.TheVariants as pulled
use Rattle.byte_ends.specs.Source.{Pulls}
use Rattle.byte_ends.specs.Sink.{Pushes}
use Rattle.replay_core.specs.Streams.{Gave, GaveAtMost, HadAll, Overlong, WroteBytes, WroteFront}

-- ---- a sink

take_take : (n m : ℕ) (xs : List ℕ) → n ≤ m → take n (take m xs) ≡ take n xs
take_take zero m xs h = refl
take_take (suc n) zero xs h = absurd (omega arith)
take_take (suc n) (suc m) [] h = refl
take_take (suc n) (suc m) (x ∷ xs) h = ap (λ ys. x ∷ ys) (take_take n m xs (omega arith))

take_on : (at count end : ℕ) (xs : List ℕ) → count ≤ end - at → take at xs ++ take count (slice_range xs at end) ≡ take (at + count) xs
take_on at count end xs h = ap (λ y. take at xs ++ y) (take_take count (end - at) (drop at xs) h) ∙ sym (take-add at count xs)

pub wrote_more : (old mid new : Option (List ℕ)) (bytes : List ℕ) (at count end : ℕ) → WroteBytes old mid (take at bytes) → Pushes mid new (Took count) (slice_range bytes at end) → count ≤ end - at → WroteBytes old new (take (at + count) bytes)
wrote_more None mid new bytes at count end w p h = tt
wrote_more (Some t) mid new bytes at count end w p h =
    let q = subst (λ m. Pushes m new (Took count) (slice_range bytes at end)) w p in
    q ∙ ap Some (append_assoc t (take at bytes) _ ∙ ap (λ y. t ++ y) (take_on at count end bytes h))

-- ---- what is left

pub more_left : (xs ys : List ℕ) → xs ≢ [] → xs ++ ys ≢ []
more_left [] ys some e = some refl
more_left (x ∷ xs) ys some e =
    let none : length (x ∷ (xs ++ ys)) ≡ length {A = ℕ} [] = ap length e in
    omega (arith, none)

pub left_behind : (xs ys : List ℕ) → ys ≢ [] → xs ++ ys ≢ []
left_behind [] ys some e = some e
left_behind (x ∷ xs) ys some e =
    let none : length (x ∷ (xs ++ ys)) ≡ length {A = ℕ} [] = ap length e in
    omega (arith, none)

left_over : (at : ℕ) (xs : List ℕ) → at < length xs → drop at xs ≢ []
left_over at xs below e =
    let none : length (drop at xs) ≡ length {A = ℕ} [] = ap length e in
    omega (arith, none, length-drop at xs, below)

-- ---- a sink that fails

pub wrote_front : (old mid new : Option (List ℕ)) (bytes piece : List ℕ) (at : ℕ) → at < length bytes → WroteBytes old mid (take at bytes) → Pushes mid new Failed piece → WroteFront old new bytes
wrote_front None mid new bytes piece at below w p = tt
wrote_front (Some t) mid new bytes piece at below w p =
    let q = subst (λ m. Pushes m new Failed piece) w p in record {
      front = take at bytes;
      rest = drop at bytes;
      whole = take-append-drop at bytes;
      short = left_over at bytes below;
      now = q ∙ ap Some (append-nil (t ++ take at bytes));
    }

-- ---- a sink behind a buffer

-- the sink took all of the bytes but those that stand in the buffer
pub record HasTaken (taken : List ℕ) (new : Option (List ℕ)) (bytes buffer : List ℕ) : Type 0 where
  pub front : List ℕ
  pub whole : front ++ buffer ≡ bytes
  pub now : new ≡ Some (taken ++ front)

abbrev pub Buffered : Option (List ℕ) → Option (List ℕ) → List ℕ → List ℕ → Type 0
Buffered old new bytes buffer = IfSome old (λ taken. HasTaken taken new bytes buffer)

pub buffered_more : (old new : Option (List ℕ)) (bytes buffer more : List ℕ) → Buffered old new bytes buffer → Buffered old new (bytes ++ more) (buffer ++ more)
buffered_more None new bytes buffer more h = tt
buffered_more (Some t) new bytes buffer more h = record {
  front = h.front;
  whole = sym (append_assoc h.front buffer more) ∙ ap (λ y. y ++ more) h.whole;
  now = h.now;
}

pub all_written : (old mid new : Option (List ℕ)) (bytes buffer : List ℕ) → Buffered old mid bytes buffer → WroteBytes mid new buffer → WroteBytes old new bytes
all_written None mid new bytes buffer h w = tt
all_written (Some t) mid new bytes buffer h w = subst (λ m. WroteBytes m new buffer) h.now w ∙ ap Some (append_assoc t h.front buffer ∙ ap (λ y. t ++ y) h.whole)

-- the bytes go on with more
pub buffered_front : (old new : Option (List ℕ)) (bytes buffer more : List ℕ) → more ≢ [] → Buffered old new bytes buffer → WroteFront old new (bytes ++ more)
buffered_front None new bytes buffer more some h = tt
buffered_front (Some t) new bytes buffer more some h = record {
  front = h.front;
  rest = buffer ++ more;
  whole = sym (append_assoc h.front buffer more) ∙ ap (λ y. y ++ more) h.whole;
  short = left_behind buffer more some;
  now = h.now;
}

pub front_written : (old mid new : Option (List ℕ)) (bytes buffer more : List ℕ) → Buffered old mid bytes buffer → WroteFront mid new buffer → WroteFront old new (bytes ++ more)
front_written None mid new bytes buffer more h w = tt
front_written (Some t) mid new bytes buffer more h w =
    let q = subst (λ m. WroteFront m new buffer) h.now w in record {
      front = h.front ++ q.front;
      rest = q.rest ++ more;
      short = more_left q.rest more q.short;
      whole = sym (append_assoc (h.front ++ q.front) q.rest more) ∙ ap (λ y. y ++ more) (append_assoc h.front q.front q.rest ∙ ap (λ y. h.front ++ y) q.whole ∙ h.whole);
      now = q.now ∙ ap Some (append_assoc t h.front q.front);
    }

-- ---- a source

pub gave_more : (old mid new : Option (List ℕ)) (bytes piece after : List ℕ) (count : ℕ) → Gave old mid bytes → Pulls mid new (Got count) piece → after ≡ bytes ++ take count piece → Gave old new after
gave_more None mid new bytes piece after count g p is = tt
gave_more (Some all) mid new bytes piece after count g p is =
    let q = subst (λ m. Pulls m new (Got count) piece) g.now p in record {
      rest = q.rest;
      was = g.was ∙ ap (λ y. bytes ++ y) q.was ∙ sym (append_assoc bytes (take count piece) q.rest) ∙ ap (λ y. y ++ q.rest) (sym is);
      now = q.left;
    }

pub gave_all : (old mid new : Option (List ℕ)) (bytes piece : List ℕ) → Gave old mid bytes → Pulls mid new End piece → 0 < length piece → HadAll old new bytes
gave_all None mid new bytes piece g p room = tt
gave_all (Some all) mid new bytes piece g p room =
    let q = subst (λ m. Pulls m new End piece) g.now p in
    let nothing = q.nothing room in
    (g.was ∙ ap (λ y. bytes ++ y) nothing ∙ append-nil bytes, q.left ∙ ap Some nothing)

behind : (xs ys : List ℕ) (n : ℕ) → length xs ≡ n → drop n (xs ++ ys) ≡ ys
behind [] ys n e = ap (λ m. drop m ys) (sym e)
behind (x ∷ xs) ys n e = ap (λ m. drop m (x ∷ xs ++ ys)) (sym e) ∙ behind xs ys (length xs) refl

pub gave_too_much : (limit : ℕ) (old new : Option (List ℕ)) (bytes : List ℕ) → Gave old new bytes
    → length bytes ≡ limit + 1 → IfSome old (λ all. Overlong limit all new)
gave_too_much limit None new bytes g size = tt
gave_too_much limit (Some all) new bytes g size =
    let counted : length all ≡ length bytes + length g.rest = ap length g.was ∙ length-append bytes g.rest in record {
      longer = omega arith;
      read = g.now ∙ ap Some (sym (ap (drop (limit + 1)) g.was ∙ behind bytes g.rest (limit + 1) size));
    }

-- with the piece that came the bytes are one more than the limit
pub too_much_with_piece : (limit : ℕ) (old mid new : Option (List ℕ)) (bytes piece : List ℕ) (count : ℕ) → Gave old mid bytes → Pulls mid new (Got count) piece
    → length bytes + count ≡ limit + 1 → count ≤ length piece → IfSome old (λ all. Overlong limit all new)
too_much_with_piece limit old mid new bytes piece count g p size most =
    gave_too_much limit old new (bytes ++ take count piece) (gave_more old mid new bytes piece (bytes ++ take count piece) count g p refl)
    (omega (arith, size, most, length-append bytes (take count piece), length-take {A = ℕ} count piece))

-- ---- no more than the limit

pub none_gave : (limit : ℕ) (old : Option (List ℕ)) → GaveAtMost limit old old
none_gave limit None = tt
none_gave limit (Some all) = record { bytes = []; gave = record { rest = all; was = refl; now = refl }; few = omega arith }

pub few_gave : (limit : ℕ) (old new : Option (List ℕ)) (bytes : List ℕ) → Gave old new bytes → length bytes ≤ limit → GaveAtMost limit old new
few_gave limit None new bytes g few = tt
few_gave limit (Some all) new bytes g few = record { bytes = bytes; gave = g; few = few }

-- a piece more came, and the bytes are few with it
pub few_with_piece : (limit : ℕ) (old mid new : Option (List ℕ)) (bytes piece : List ℕ) (count : ℕ) → Gave old mid bytes → Pulls mid new (Got count) piece → length bytes + count ≤ limit
    → GaveAtMost limit old new
few_with_piece limit old mid new bytes piece count g p few =
    few_gave limit old new (bytes ++ take count piece) (gave_more old mid new bytes piece (bytes ++ take count piece) count g p refl)
    (omega (arith, length-append bytes (take count piece), length-take {A = ℕ} count piece))

-- at a fault nothing comes
pub few_at_fault : (limit : ℕ) (old mid new : Option (List ℕ)) (bytes piece : List ℕ) → Gave old mid bytes → Pulls mid new pulled.Failed piece → length bytes ≤ limit → GaveAtMost limit old new
few_at_fault limit None mid new bytes piece g p few = tt
few_at_fault limit (Some all) mid new bytes piece g p few =
    let q = subst (λ m. Pulls m new pulled.Failed piece) g.now p in record {
      bytes = bytes;
      gave = record { rest = g.rest; was = g.was; now = q };
      few = few;
    }

pub all_few : (limit : ℕ) (old new : Option (List ℕ)) (bytes : List ℕ) → HadAll old new bytes → length bytes ≤ limit → GaveAtMost limit old new
all_few limit None new bytes h few = tt
all_few limit (Some all) new bytes h few = record {
  bytes = bytes;
  gave = record { rest = []; was = h.0 ∙ sym (append-nil bytes); now = h.1 };
  few = few;
}

-- ---- one text and then another

pub front_of_both : (old mid new : Option (List ℕ)) (first second : List ℕ) → WroteBytes old mid first → WroteFront mid new second → WroteFront old new (first ++ second)
front_of_both None mid new first second a h = tt
front_of_both (Some t) mid new first second a h =
    let q = subst (λ m. WroteFront m new second) a h in record {
      front = first ++ q.front;
      rest = q.rest;
      short = q.short;
      whole = append_assoc first q.front q.rest ∙ ap (λ y. first ++ y) q.whole;
      now = q.now ∙ ap Some (append_assoc t first q.front);
    }

pub bytes_of_both : (old mid new : Option (List ℕ)) (first second : List ℕ) → WroteBytes old mid first → WroteBytes mid new second → WroteBytes old new (first ++ second)
bytes_of_both None mid new first second a h = tt
bytes_of_both (Some t) mid new first second a h = subst (λ m. WroteBytes m new second) a h ∙ ap Some (append_assoc t first second)

pub front_of_first : (old new : Option (List ℕ)) (first second : List ℕ) → WroteFront old new first → WroteFront old new (first ++ second)
front_of_first None new first second h = tt
front_of_first (Some t) new first second h = record {
  front = h.front;
  rest = h.rest ++ second;
  short = more_left h.rest second h.short;
  whole = sym (append_assoc h.front h.rest second) ∙ ap (λ y. y ++ second) h.whole;
  now = h.now;
}
