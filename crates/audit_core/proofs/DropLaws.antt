-- What nodes hold, as one copy's records are removed one by one.
use Rattle.std.proofs.Common.{◌≡◌, ℕ, zero, suc, ◌==◌, ◌<◌, ◌≤◌, ◌+◌, Bool, true, false, ◌&&◌, ◌||◌, cond, List, [], ◌∷◌, ◌++◌, length, get_or, None, ◌⊎◌, inl, inr, refl, sym, ap, subst, ◌∙◌, append_assoc, arith}
use Rattle.std.specs.Prelude.{take}
use Rattle.std.proofs.lemmas.Bool.{or_cases, or_left, or_right}
use Rattle.std.proofs.lemmas.List.{take_more}
use Rattle.std.proofs.lemmas.List.Elements.{All-push, All-cons, All-append}
use Rattle.std.proofs.lemmas.List.Folds.{list_any-append}
use Rattle.journal_readings.specs.Lines.{has_node}
use Rattle.audit_laws.proofs.Tests.{differ, number_here}
use Rattle.audit_state.specs.declared.copies.RecordChange.{RecordChange}
use Rattle.audit_state.specs.declared.history.Change.{Change}
use Rattle.audit_core.specs.declared.judge.Judge.{Judge}
use Rattle.audit_core.specs.Bringing.{KeepsLines, RemovesRecord}
use Rattle.audit_state.specs.Copies.{StandUpTo}
use Rattle.audit_core.specs.Dropping.{EndsAt, RemovesAll, changes_at}
use Rattle.audit_state.specs.Histories.{AreUpTo, value_after}
use Rattle.audit_core.specs.Holders.{AreHoldersCounted}
use Rattle.audit_state.specs.Keys.{pair_eq}
use Rattle.audit_state.specs.Stores.{history_of, changes_of}
use Rattle.audit_core.proofs.ContentLaws.{pair_right}
use Rattle.audit_state.proofs.HistoryLaws.{put_before, put_behind}

keeps_then : (a b c : Judge) → KeepsLines a b → KeepsLines b c → KeepsLines a c
keeps_then a b c g h = record {
  rest = ap (λ (s : Judge). record s { stores = a.stores; records = a.records }) h.rest ∙ g.rest;
  numbers = record { numbers = λ d. h.numbers.numbers d ∙ g.numbers.numbers d; digests = λ r. h.numbers.digests r ∙ g.numbers.digests r };
  newest = λ r. h.newest r ∙ g.newest r;
}

-- one more
module _ (line n p r : ℕ) (rs : List ℕ) (old now next : Judge) (g : RemovesAll line n p rs old now) (x : RemovesRecord now next line n r p) (up : (q : ℕ) → AreUpTo line (history_of old.stores n q)) where
  one_more : (q : ℕ) → has_node (rs ++ r ∷ []) q ≡ true → (has_node rs q ≡ true) ⊎ ((r == q) ≡ true)
  one_more q e = go (or_cases (has_node rs q) ((r == q) || false) (sym (list_any-append (λ m. m == q) rs (r ∷ [])) ∙ e))
    where
      alone : (b : Bool) → (b || false) ≡ true → b ≡ true
      alone true e = refl
      alone false e = e

      go : (has_node rs q ≡ true) ⊎ (((r == q) || false) ≡ true) → (has_node rs q ≡ true) ⊎ ((r == q) ≡ true)
      go (inl h) = inl h
      go (inr h) = inr (alone (r == q) h)

  -- before the line the node held what it had held
  held_before : (q a : ℕ) → a ≤ line → value_after (history_of now.stores n q) a ≡ value_after (history_of old.stores n q) a
  held_before q a le = go (has_node rs q) refl
    where
      neither : (b c : Bool) → c ≡ false → (b && c) ≡ false
      neither true c e = e
      neither false c e = refl

      go : (b : Bool) → has_node rs q ≡ b → value_after (history_of now.stores n q) a ≡ value_after (history_of old.stores n q) a
      go true e = (g.ended q e).before a le
      go false e = ap (λ (h : List Change). value_after h a) (g.others n q (neither (n == n) (has_node rs q) e))

  ended_here : EndsAt line (history_of old.stores n r) (history_of now.stores n r ++ record { line = line; value = None } ∷ [])
  ended_here = record {
    before = λ a le. put_before (history_of now.stores n r) (record { line = line; value = None }) a (g.up_to r (up r)) le ∙ held_before r a le;
    ended = put_behind (history_of now.stores n r) (record { line = line; value = None }) (line + 1) (g.up_to r (up r)) (omega arith);
  }

  ended_more : (q : ℕ) → has_node (rs ++ r ∷ []) q ≡ true → EndsAt line (history_of old.stores n q) (history_of next.stores n q)
  ended_more q e = subst (EndsAt line (history_of old.stores n q)) (sym (x.contents n q)) (go (pair_eq (n, r) (n, q)) refl)
    where
      met : (b : Bool) → b ≡ true → (b && (r == q)) ≡ false → (r == q) ≡ false
      met true f h = h
      met false f h = differ f refl

      left : (has_node rs q ≡ true) ⊎ ((r == q) ≡ true) → (r == q) ≡ false → EndsAt line (history_of old.stores n q) (history_of now.stores n q)
      left (inl h) f = g.ended q h
      left (inr h) f = differ h f

      go : (b : Bool) → pair_eq (n, r) (n, q) ≡ b → EndsAt line (history_of old.stores n q) (cond b (history_of now.stores n r ++ record { line = line; value = None } ∷ []) (history_of now.stores n q))
      go true f = subst (λ (y : ℕ). EndsAt line (history_of old.stores n y) (history_of now.stores n r ++ record { line = line; value = None } ∷ [])) (pair_right n r n q f) ended_here
      go false f = left (one_more q e) (met (n == n) (number_here n) f)

  others_more : (m q : ℕ) → ((n == m) && has_node (rs ++ r ∷ []) q) ≡ false → history_of next.stores m q ≡ history_of old.stores m q
  others_more m q e = x.contents m q ∙ go (n == m) (has_node rs q) (r == q) (ap (λ (b : Bool). (n == m) && b) (sym (list_any-append (λ y. y == q) rs (r ∷ []))) ∙ e) (g.others m q)
    where
      go : (a b c : Bool) → (a && (b || (c || false))) ≡ false → ((a && b) ≡ false → history_of now.stores m q ≡ history_of old.stores m q)
          → cond (a && c) (history_of now.stores n r ++ record { line = line; value = None } ∷ []) (history_of now.stores m q) ≡ history_of old.stores m q
      go true true c f h = differ refl f
      go true false true f h = differ refl f
      go true false false f h = h refl
      go false b c f h = h refl

  up_more : (q : ℕ) → AreUpTo line (history_of old.stores n q) → AreUpTo line (history_of next.stores n q)
  up_more q h = subst (AreUpTo line) (sym (x.contents n q)) (go (pair_eq (n, r) (n, q)))
    where
      go : (b : Bool) → AreUpTo line (cond b (history_of now.stores n r ++ record { line = line; value = None } ∷ []) (history_of now.stores n q))
      go true = All-push (λ (c : Change). c.line ≤ line) (history_of now.stores n r) (record { line = line; value = None }) (g.up_to r (up r)) (omega arith)
      go false = g.up_to q h

  changes_pushed : (ys : List ℕ) → changes_at line (ys ++ r ∷ []) ≡ changes_at line ys ++ record { line = line; number = r } ∷ []
  changes_pushed [] = refl
  changes_pushed (y ∷ ys) = ap (λ (cs : List RecordChange). record { line = line; number = y } ∷ cs) (changes_pushed ys)

  changes_more : (m q : ℕ) → changes_of next.stores m q ≡ cond (pair_eq (n, p) (m, q)) (changes_of old.stores n p ++ changes_at line (rs ++ r ∷ [])) (changes_of old.stores m q)
  changes_more m q = x.copies.changes m q ∙ go (pair_eq (n, p) (m, q)) (g.changes m q)
    where
      here : (b : Bool) → b ≡ true → changes_of now.stores n p ≡ cond b (changes_of old.stores n p ++ changes_at line rs) (changes_of old.stores n p) → changes_of now.stores n p ≡ changes_of old.stores n p ++ changes_at line rs
      here true e h = h
      here false e h = differ e refl

      both : (a b : Bool) → a ≡ true → b ≡ true → (a && b) ≡ true
      both true b e f = f
      both false b e f = e

      now_here : changes_of now.stores n p ≡ changes_of old.stores n p ++ changes_at line rs
      now_here = here (pair_eq (n, p) (n, p)) (both (n == n) (p == p) (number_here n) (number_here p)) (g.changes n p)

      go : (b : Bool) → changes_of now.stores m q ≡ cond b (changes_of old.stores n p ++ changes_at line rs) (changes_of old.stores m q)
          → cond b (changes_of now.stores n p ++ record { line = line; number = r } ∷ []) (changes_of now.stores m q) ≡ cond b (changes_of old.stores n p ++ changes_at line (rs ++ r ∷ [])) (changes_of old.stores m q)
      go true h = ap (λ (cs : List RecordChange). cs ++ record { line = line; number = r } ∷ []) now_here
          ∙ (append_assoc (changes_of old.stores n p) (changes_at line rs) (record { line = line; number = r } ∷ []) ∙ ap (λ (cs : List RecordChange). changes_of old.stores n p ++ cs) (sym (changes_pushed rs)))
      go false h = h

  pub removes_more : RemovesAll line n p (rs ++ r ∷ []) old next
  removes_more = record {
    keeps = keeps_then old now next g.keeps x.keeps;
    ended = ended_more;
    others = others_more;
    up_to = up_more;
    held = λ m q. x.copies.held m q ∙ g.held m q;
    touched = λ m q. x.copies.touched m q ∙ g.touched m q;
    holding = λ m q. x.copies.holding m q ∙ g.holding m q;
    changes = changes_more;
  }

-- ---- all of them

-- so far these are removed
pub record Removing (line n p : ℕ) (rs : List ℕ) (ns : List ℕ) (old now : Judge) : Type 0 where
  pub removes : RemovesAll line n p rs old now
  pub counted : AreHoldersCounted now ns

pub removing_more : (line n p : ℕ) (ids ns : List ℕ) (old now next : Judge) (a r : ℕ) → a < length ids → r ≡ get_or ids a r → ((q : ℕ) → AreUpTo line (history_of old.stores n q)) → Removing line n p (take a ids) ns old now
    → RemovesRecord now next line n r p → AreHoldersCounted next ns → Removing line n p (take (a + 1) ids) ns old next
removing_more line n p ids ns old now next a r within read up g x counts = record {
  removes = subst (λ (xs : List ℕ). RemovesAll line n p xs old next) (ap (λ (m : ℕ). take a ids ++ m ∷ []) read ∙ sym (take_more ids a r within)) (removes_more line n p r (take a ids) old now next g.removes x up);
  counted = counts;
}

pub still_stand : (line n p : ℕ) (rs ns : List ℕ) (old now : Judge) → Removing line n p rs ns old now → StandUpTo line (changes_of old.stores n p) → StandUpTo line (changes_of now.stores n p)
still_stand line n p rs ns old now g h = subst (StandUpTo line) (sym (g.removes.changes n p)) (go (pair_eq (n, p) (n, p)))
  where
    at_line : (ys : List ℕ) → StandUpTo line (changes_at line ys)
    at_line [] = λ k d within. absurd (omega (arith, within))
    at_line (y ∷ ys) = All-cons (λ (x : RecordChange). x.line ≤ line) (record { line = line; number = y }) (changes_at line ys) (omega arith) (at_line ys)

    go : (b : Bool) → StandUpTo line (cond b (changes_of old.stores n p ++ changes_at line rs) (changes_of old.stores n p))
    go true = All-append (λ (x : RecordChange). x.line ≤ line) (changes_of old.stores n p) (changes_at line rs) h (at_line rs)
    go false = h

pub same_lines : (line n p : ℕ) (rs ns : List ℕ) (old now : Judge) → Removing line n p rs ns old now → now.lines.now ≡ old.lines.now
same_lines line n p rs ns old now g = ap (λ (s : Judge). s.lines.now) g.removes.keeps.rest

pub among_got : (ids : List ℕ) (a r : ℕ) → a < length ids → r ≡ get_or ids a r → has_node ids r ≡ true
among_got [] a r within read = absurd (omega (arith, within))
among_got (m ∷ ids) zero r within read = ap (λ (y : ℕ). (m == y) || has_node ids y) read ∙ or_left (m == m) (has_node ids m) (number_here m)
among_got (m ∷ ids) (suc a) r within read = or_right (m == r) (has_node ids r) (among_got ids a r (omega (arith, within)) read)
