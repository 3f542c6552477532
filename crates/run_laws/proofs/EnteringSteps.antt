-- A view is entered: transactions are closed, and a node that is alone finishes the exchange at once.
use Rattle.std.proofs.Common.{◌≡◌, ℕ, suc, ◌<◌, ◌==◌, Bool, true, false, is_none, List, [], ◌∷◌, length, Some, None, refl, sym, ap, ◌∙◌, subst, arith, lit<, ⊎_elim}
use Rattle.std.specs.Prelude.{find, option_map, if◌then◌else◌}
use Rattle.cluster_types.specs.declared.cluster_key.ClusterKey.{ClusterKey}
use Rattle.cluster_types.specs.declared.member.Member.{Member}
use Rattle.cluster_types.specs.Distinct.{IsDescending}
use Rattle.cluster_types.specs.Members.{ids_of}
use Rattle.journal_lines.specs.declared.line.Line.{Line}
use Rattle.journal_lines.specs.declared.line.Line.TheVariants as line
use Rattle.node_rules.specs.declared.member_row.MemberRow.{MemberRow}
use Rattle.node_rules.specs.Copies.{Row}
use Rattle.node_rules.specs.Entering.{closing, entering}
use Rattle.node_rules.specs.Exchange.{View, is_single, is_member, first_missing}
use Rattle.node_rules.specs.Facts.{Facts, members_of_view}
use Rattle.node_rules.specs.Map.{lacks}
use Rattle.node_rules.specs.Notes as notes
use Rattle.node_rules.specs.Notes.{own_row}
use Rattle.cluster_rules.specs.Marks.{Writes}
use Rattle.cluster_laws.proofs.At.{number_here, number_same, differ, no_some, some_same, or_cases}
use Rattle.run_laws.specs.Fronts.{Front, world_of, facts_at, front_after}
use Rattle.run_laws.specs.LineDue.{AllDue}
use Rattle.run_laws.specs.Steps.{Rests, Ended}
use Rattle.run_laws.specs.Tied.{key_in}
use Rattle.run_laws.proofs.PlainSteps.{Closing, all_closing}
use Rattle.run_laws.proofs.Turns.{after_lines, lines_append, all_append, Elsewhere, elsewhere_on, ended_but, here, away}
use Rattle.node_rules.specs.Tables.{only_if}

-- ---- one row alone

abbrev alone : ℕ → Row → List MemberRow
alone n row = record { node = n; row = row } ∷ []

lacks_alone : (n : ℕ) (row : Row) (m : ℕ) → n ≡ m → lacks (alone n row) m ≡ false
lacks_alone n row m e = subst (λ (q : ℕ). lacks (alone n row) q ≡ false) e (ap (λ (b : Bool). is_none (option_map (λ (r : MemberRow). r.row) (if b then Some (record { node = n; row = row }) else None))) (number_here n))

there_alone : (n : ℕ) (row : Row) (m : ℕ) → lacks (alone n row) m ≡ false → n ≡ m
there_alone n row m e = go (n == m) refl e
  where
    go : (b : Bool) → (n == m) ≡ b → is_none (option_map (λ (r : MemberRow). r.row) (if b then Some (record { node = n; row = row }) else None)) ≡ false → n ≡ m
    go true i q = number_same n m i
    go false i q = differ refl q

-- a single member's row is its own
single_none : (ms : List Member) (n : ℕ) (row : Row) → is_single ms ≡ true → is_member ms n ≡ true → first_missing (alone n row) ms ≡ None
single_none [] n row e i = differ i refl
single_none (m ∷ []) n row e i = ap (λ (b : Bool). if b then Some m.id else None) (lacks_alone n row m.id (⊎_elim (λ x. sym (number_same m.id n x)) (λ x. differ x refl) (or_cases (m.id == n) false i)))
single_none (m ∷ q ∷ ms) n row e i = absurd (too_long (length ms) (number_same (length (m ∷ q ∷ ms)) 1 e))
  where
    too_long : (a : ℕ) → suc (suc a) ≡ 1 → ⊥
    too_long a e = omega (arith, e)

first_falls : (m q : Member) (ms : List Member) → IsDescending (ids_of (m ∷ q ∷ ms)) → q.id < m.id
first_falls m q ms d = d.falls 0 1 0 (lit< tt) (two (length (ids_of ms)))
  where
    two : (a : ℕ) → 1 < suc (suc a)
    two a = omega arith

-- of several members one at least has no row
more_missing : (ms : List Member) (n : ℕ) (row : Row) → is_single ms ≡ false → is_member ms n ≡ true → IsDescending (ids_of ms) → first_missing (alone n row) ms ≡ None → ⊥
more_missing [] n row e i d none = differ i refl
more_missing (m ∷ []) n row e i d none = differ refl e
more_missing (m ∷ q ∷ ms) n row e i d none = go (lacks (alone n row) m.id) (lacks (alone n row) q.id) refl refl none
  where
    go : (a b : Bool) → lacks (alone n row) m.id ≡ a → lacks (alone n row) q.id ≡ b → (if a then Some m.id else if b then Some q.id else find (lacks (alone n row)) (ids_of ms)) ≡ None → ⊥
    go true b x y z = no_some (sym z)
    go false true x y z = no_some (sym z)
    go false false x y z = fall (there_alone n row m.id x) (there_alone n row q.id y)
      where
        fall : n ≡ m.id → n ≡ q.id → ⊥
        fall a b = absurd (omega (arith, a, b, first_falls m q ms d))

-- ---- the lines

pub record Entering (z : Front) (n : ℕ) (ls : List Line) : Type 0 where
  pub due : AllDue z ls
  pub sent : (world_of (after_lines z ls)).network.sent ≡ (world_of z).network.sent
  pub ends : Ended (after_lines z ls)

-- from the front behind the closing lines
abbrev behind : Front → ℕ → ClusterKey → List Member → Front
behind y n k ms = front_after y (Writes (line.Enter n k ms))

entered_is : (y : Front) (n : ℕ) (k : ClusterKey) (ms : List Member) → facts_at (behind y n k ms) n ≡ notes.entered (facts_at y n) k ms (own_row (facts_at y n))
entered_is y n k ms = here (world_of y).facts n _

entered_elsewhere : (y : Front) (n : ℕ) (k : ClusterKey) (ms : List Member) → Elsewhere n y (behind y n k ms)
entered_elsewhere y n k ms = record { facts = λ m e. away (world_of y).facts n _ m e; closing = λ m e. away y.closing n false m e }

enter_go : (z0 y : Front) (n : ℕ) (k : ClusterKey) (ms : List Member) → Ended z0 → Elsewhere n z0 y → y.owed ≡ None → (facts_at y n).me ≡ n → is_member ms n ≡ true → IsDescending (ids_of ms) → (b : Bool) → is_single ms ≡ b
    → Entering y n (line.Enter n k ms ∷ only_if (line.Exchanged n k) b)
enter_go z0 y n k ms h el o me among falls false e = record {
  due = ((o, tt), tt);
  sent = refl;
  ends = ended_but n z0 (behind y n k ms) (elsewhere_on n z0 y _ el (entered_elsewhere y n k ms)) h o (here y.closing n false)
      (subst (λ (f : Facts). Rests f) (sym (entered_is y n k ms)) (record {
        idle = λ i. refl;
        over = λ v i none. absurd (more_missing ms n (own_row (facts_at y n)) e among falls (subst (λ (j : ℕ). first_missing (alone j (own_row (facts_at y n))) ms ≡ None) me (ap (λ (u : View). first_missing (alone (facts_at y n).me (own_row (facts_at y n))) u.members) (some_same i) ∙ none)));
      }));
}
enter_go z0 y n k ms h el o me among falls true e = record {
  due = (
    (o, tt),
    (
      (
        o,
        record {
          stands = record { view = ap (λ (f : Facts). key_in f.exchange.view) (entered_is y n k ms); stays = here y.closing n false };
          first = ap (λ (f : Facts). f.exchange.exchanged) (entered_is y n k ms);
          none = ap (λ (f : Facts). first_missing f.exchange.rows (members_of_view f)) (entered_is y n k ms) ∙ subst (λ (j : ℕ). first_missing (alone j (own_row (facts_at y n))) ms ≡ None) (sym me) (single_none ms n (own_row (facts_at y n)) e among);
        },
      ),
      tt,
    ),
  );
  sent = refl;
  ends = ended_but n z0 (front_after (behind y n k ms) (Writes (line.Exchanged n k))) (elsewhere_on n z0 (behind y n k ms) _ (elsewhere_on n z0 y _ el (entered_elsewhere y n k ms)) (record { facts = λ m x. away (world_of (behind y n k ms)).facts n _ m x; closing = λ m x. refl })) h o (here y.closing n false)
      (subst (λ (f : Facts). Rests f) (sym (here (world_of (behind y n k ms)).facts n _ ∙ ap (λ (f : Facts). notes.exchanged f k) (entered_is y n k ms))) (record {
        idle = λ i. no_some (sym i);
        over = λ v i none. refl;
      }));
}

pub entering_go : (z0 z : Front) (f : Facts) (k : ClusterKey) (ms : List Member) → Ended z0 → Elsewhere f.me z0 z → facts_at z f.me ≡ f → z.owed ≡ None → Rests f → is_member ms f.me ≡ true → IsDescending (ids_of ms)
    → Entering z f.me (entering f k ms)
entering_go z0 z f k ms h el is o r among falls =
    let me : (facts_at z f.me).me ≡ f.me = ap (λ (x : Facts). x.me) is in
    let c : Closing f.me z (closing f) = subst (λ (x : Facts). Closing f.me z (closing x)) is (all_closing z f.me me o (subst (λ (x : Facts). Rests x) (sym is) r)) in
    let y : Front = after_lines z (closing f) in
    let e : Entering y f.me (line.Enter f.me k ms ∷ only_if (line.Exchanged f.me k) (is_single ms)) =
    enter_go z0 y f.me k ms h (elsewhere_on f.me z0 z y el c.closed.elsewhere) (c.closed.owed ∙ o) (c.closed.me ∙ me) among falls (is_single ms) refl in
    record {
      due = all_append z (closing f) (line.Enter f.me k ms ∷ only_if (line.Exchanged f.me k) (is_single ms)) c.due e.due;
      sent = ap (λ (x : Front). (world_of x).network.sent) (lines_append z (closing f) (line.Enter f.me k ms ∷ only_if (line.Exchanged f.me k) (is_single ms))) ∙ e.sent ∙ c.closed.sent;
      ends = subst (λ (x : Front). Ended x) (sym (lines_append z (closing f) (line.Enter f.me k ms ∷ only_if (line.Exchanged f.me k) (is_single ms)))) e.ends;
    }
