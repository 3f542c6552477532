-- Steps one after another: where the lines of each step are due as they stand, the run is a journal of its ground.
use Rattle.std.proofs.Common.{◌≡◌, ℕ, zero, suc, ◌+◌, ◌<◌, ◌^◌, ◌-◌, Bool, true, false, not, All, List, [], ◌∷◌, ◌++◌, length, Option, Some, None, refl, sym, ap, ◌∙◌, subst, arith, lit<}
use Rattle.std.specs.Prelude.{take, fold, map, nat_lt, slice_get, option_map, unwrap_or, if◌then◌else◌}
use Rattle.std.specs.List.{AllByRecursion}
use Rattle.std.specs.FinMap.{get-empty}
use Rattle.std.specs.Ordering.{nat_cmp}
use Rattle.std.specs.Cmp.Lexicographic.{slice_cmp}
use Rattle.std.proofs.lemmas.List.Elements.{recursion_from_All}
use Rattle.conflict_order.specs.declared.policy.Policy.{Policy}
use Rattle.cluster_types.specs.declared.member.Member.{Member}
use Rattle.cluster_types.specs.Partitions.{partition_count}
use Rattle.script_lang.specs.declared.script.HeaderLine.TheVariants as header
use Rattle.script_lang.specs.Proper.{IsProperHeaderLine}
use Rattle.journal_lines.specs.declared.line.Line.{Line}
use Rattle.journal_lines.specs.declared.line.Line.TheVariants as line
use Rattle.cluster_rules.specs.declared.event.Event.{Event}
use Rattle.cluster_rules.specs.declared.event.Event.TheVariants as event
use Rattle.cluster_rules.specs.Allowed.{IsAllowed, AreAllowed}
use Rattle.cluster_rules.specs.Marks as marks
use Rattle.cluster_rules.specs.Marks.{Mark, Begins, Writes, lines_among}
use Rattle.journal_readings.specs.Messages.{Posting}
use Rattle.cluster_rules.specs.Network.{posting_at, silent}
use Rattle.cluster_rules.specs.Opening.{Header, header_lines, declared_factor, declared_policy, declared_nodes, header_factor_step}
use Rattle.cluster_rules.specs.Steps.{Step, marks_of, all_marks, all_lines}
use Rattle.cluster_rules.specs.World.{World}
use Rattle.cluster_rules.proofs.MarkLaws.{lines_of_steps}
use Rattle.cluster_laws.specs.Ground.{Ground}
use Rattle.journal_readings.specs.Shape.{is_header, AreBehind}
use Rattle.cluster_rules.proofs.WorldReadings.{policy_agrees, factor_agrees, nodes_agree}
use Rattle.cluster_laws.specs.Journals.{IsJournal, FitsGround}
use Rattle.cluster_laws.specs.Licences as licences
use Rattle.cluster_laws.specs.Picture.{Picture, start}
use Rattle.cluster_laws.proofs.At.{and_both, some_same, no_some, differ}
use Rattle.key_laws.specs.Licences.{LicensedMarks}
use Rattle.key_laws.specs.Traced as traced
use Rattle.key_laws.specs.Traced.{Traced}
use Rattle.key_laws.proofs.DueSteps.{Begun, step_ok}
use Rattle.key_laws.proofs.Kept.{licensed_append}
use Rattle.key_laws.proofs.Runs as runs
use Rattle.run_laws.specs.Chronicle.{Grounds}
use Rattle.run_laws.specs.Fronts.{Front, world_of, front_after, front_after_all, Tied, packet_of}
use Rattle.run_laws.specs.LineOk.{Fitting, Goes}
use Rattle.run_laws.specs.LineDue.{LineMay, DueMarks, LawfulFront}
use Rattle.run_laws.specs.Premises.{Premises}
use Rattle.run_laws.specs.Steps.{Ended, StepGoes}
use Rattle.run_laws.proofs.AllSteps.{step_of}
use Rattle.run_laws.specs.Taken.{IsProperEvent, Taken, first, ground_of}
use Rattle.run_laws.proofs.Grounded.{goes_of, onward_all}
use Rattle.run_laws.proofs.Lawful.{Onward}
use Rattle.run_laws.proofs.NodeLaws.{clear_length}
use Rattle.run_laws.proofs.Runs.{all_licensed, all_fit}
use Rattle.run_laws.proofs.Places.{headers_are}

-- ---- marks one after another

pub after_append : (z : Front) (a b : List Mark) → front_after_all z (a ++ b) ≡ front_after_all (front_after_all z a) b
after_append z [] b = refl
after_append z (m ∷ a) b = after_append (front_after z m) a b

pub due_append : (z : Front) (a b : List Mark) → DueMarks z a → DueMarks (front_after_all z a) b → DueMarks z (a ++ b)
due_append z [] b x y = y
due_append z (Begins e ∷ a) b x y = due_append (front_after z (Begins e)) a b x y
due_append z (Writes l ∷ a) b x y = (x.0, due_append (front_after z (Writes l)) a b x.1 y)

-- the chronicle and the world go with the marks
pub traced_all : (z : Front) (ms : List Mark) → (front_after_all z ms).chronicle.traced ≡ traced.traced_after_all z.chronicle.traced ms
traced_all z [] = refl
traced_all z (Begins e ∷ ms) = traced_all (front_after z (Begins e)) ms
traced_all z (Writes l ∷ ms) = traced_all (front_after z (Writes l)) ms

pub world_all : (z : Front) (ms : List Mark) → world_of (front_after_all z ms) ≡ marks.after_all (world_of z) ms
world_all z [] = refl
world_all z (Begins e ∷ ms) = world_all (front_after z (Begins e)) ms
world_all z (Writes l ∷ ms) = world_all (front_after z (Writes l)) ms

-- ---- how many lines stand

pub more_lines : (z : Front) (ms : List Mark) → (front_after_all z ms).lines ≡ z.lines + length (lines_among ms)
more_lines z [] = omega arith
more_lines z (Begins e ∷ ms) = more_lines (front_after z (Begins e)) ms
more_lines z (Writes l ∷ ms) = more_lines (front_after z (Writes l)) ms ∙ shift z.lines (length (lines_among ms))
  where
    shift : (a b : ℕ) → a + 1 + b ≡ a + suc b
    shift a b = omega arith

pub lt_after : (z : Front) (ms : List Mark) → (front_after_all z ms).lines < 2 ^ 32
    → z.lines < 2 ^ 32
lt_after z ms lt = omega (arith, lt, more_lines z ms)

-- ---- steps

begun : (e : Event) → IsProperEvent e → Begun e
begun (event.Tick n) p = p
begun _ p = tt

pub record Walked (by : Policy) (factor : ℕ) (z : Front) (ms : List Mark) : Type 0 where
  pub due : DueMarks z ms
  pub key : LicensedMarks z.chronicle.traced ms
  -- where they lead
  pub lawful : LawfulFront by factor (front_after_all z ms)
  pub ends : Ended (front_after_all z ms)

pub step_key : (z : Front) (s : Step) (by : Policy) (factor : ℕ) → LawfulFront by factor z → IsProperEvent s.event → IsAllowed partition_count (world_of z) s → LicensedMarks z.chronicle.traced (marks_of s)
step_key z s by factor h p a = subst (λ (ls : List Line). LicensedMarks z.chronicle.traced (Begins s.event ∷ map Writes ls)) (sym a.due) (step_ok partition_count z.chronicle.traced s.event (begun s.event p) h.sound)

pub walked : (by : Policy) (factor : ℕ) (z : Front) (ss : List Step) → LawfulFront by factor z → Ended z → AllByRecursion (λ (s : Step). IsProperEvent s.event) ss → AreAllowed partition_count (world_of z) ss → (front_after_all z (all_marks ss)).lines < 2 ^ 32 → Premises z ss → Walked by factor z (all_marks ss)
walked by factor z [] h e p a short prem = record { due = tt; key = tt; lawful = h; ends = e }
walked by factor z (s ∷ ss) h e p a short prem =
    let goes : StepGoes z s = step_of by factor z s h e p.0 a.0 (lt_after (front_after_all z (marks_of s)) (all_marks ss) (subst (λ (y : Front). y.lines < 2 ^ 32) (after_append z (marks_of s) (all_marks ss)) short)) prem.0 in
    let key : LicensedMarks z.chronicle.traced (marks_of s) = step_key z s by factor h p.0 a.0 in
    let on : Onward by factor z (front_after_all z (marks_of s)) = onward_all by factor z (marks_of s) key goes.due h in
    let rest : Walked by factor (front_after_all z (marks_of s)) (all_marks ss) = walked by factor (front_after_all z (marks_of s)) ss on.lawful goes.ends p.1 (subst (λ (w : World). AreAllowed partition_count w ss) (sym (world_all z (marks_of s))) a.1) (subst (λ (y : Front). y.lines < 2 ^ 32) (after_append z (marks_of s) (all_marks ss)) short) prem.1 in
    record {
      due = due_append z (marks_of s) (all_marks ss) goes.due rest.due;
      key = licensed_append z.chronicle.traced (marks_of s) (all_marks ss) key (subst (λ (t : Traced). LicensedMarks t (all_marks ss)) (traced_all z (marks_of s)) rest.key);
      lawful = subst (λ (y : Front). LawfulFront by factor y) (sym (after_append z (marks_of s) (all_marks ss))) rest.lawful;
      ends = subst (λ (y : Front). Ended y) (sym (after_append z (marks_of s) (all_marks ss))) rest.ends;
    }

-- ---- the beginning

no_posting : (ns : List ℕ) (i : ℕ) → posting_at (silent ns) i ≡ None
no_posting ns i = go (nat_lt 0 i)
  where
    none : (j : ℕ) → slice_get {X = Posting} [] j ≡ None
    none zero = refl
    none (suc j) = refl

    go : (b : Bool) → (if b then slice_get (silent ns).sent (i - 1) else None) ≡ None
    go true = none (i - 1)
    go false = refl

pub first_tied : (h : Header) → Tied (first h) start
first_tied h = record {
  nodes = λ n. record {
    seen = record { view = refl; last = refl; content = λ d. sym (get-empty (slice_cmp nat_cmp) d); stamp = λ p lt. sym (get-empty nat_cmp p) };
    clock = refl;
    stay = λ v e. no_some e;
    closing = λ v e. no_some e;
  };
  packets = λ i. sym (ap (option_map packet_of) (no_posting (declared_nodes h) i));
  owing = refl;
}

pub first_lawful : (h : Header) → LawfulFront (declared_policy h) (declared_factor h) (first h)
first_lawful h = record {
  sound = (runs.start h).sound;
  rowed = record {
    kept = λ n v e. no_some e;
    sent = λ i p k w row e r. absurd (grind arith);
  };
  nodes = λ n. record {
    same_by = refl;
    same_factor = refl;
    full = λ v e x. no_some e;
    own = λ v e. no_some e;
    inside = λ e. refl;
    quiet = λ e. refl;
    handed_places = clear_length;
    own_handed_places = clear_length;
    settled_places = clear_length;
    own_settled_places = clear_length;
    counted = λ t lt. refl;
    runs = λ y a. absurd a;
    acks = λ y a. absurd a;
    aims = λ t a. absurd a;
    outs = λ t a. absurd a;
  };
  visited = λ n k e. differ e refl;
  declared = record { lists = λ k ms m e. no_some e; heard = λ n. tt; beats = λ i p v q hs r e. absurd (grind (arith, e)) };
}

pub first_ended : (h : Header) → Ended (first h)
first_ended h = record {
  owes = refl;
  stays = λ n. refl;
  rests = λ n. record { idle = λ e. refl; over = λ v e x. no_some e };
}

-- ---- the header

not_header : (z : Front) (l : Line) → LineMay z l → not (is_header l) ≡ true
not_header z (line.Script version) ok = absurd ok.1
not_header z (line.Factor factor) ok = absurd ok.1
not_header z (line.Node n rack) ok = absurd ok.1
not_header z (line.Policy by) ok = absurd ok.1
not_header z _ ok = refl

none_headers : (z : Front) (ms : List Mark) → DueMarks z ms → AreBehind (lines_among ms)
none_headers z [] d = refl
none_headers z (Begins e ∷ ms) d = none_headers (front_after z (Begins e)) ms d
none_headers z (Writes l ∷ ms) d = and_both (not (is_header l)) _ (not_header z l d.0) (none_headers (front_after z (Writes l)) ms d.1)

some_factor : (n : ℕ) (h : Header) → 0 < n → AllByRecursion IsProperHeaderLine h → 0 < fold header_factor_step n h
some_factor n [] lt a = lt
some_factor n (header.Script v ∷ h) lt a = some_factor n h lt a.1
some_factor n (header.Factor m ∷ h) lt a = some_factor m h a.0.0 a.1
some_factor n (header.Node m rack ∷ h) lt a = some_factor n h lt a.1
some_factor n (header.Policy by ∷ h) lt a = some_factor n h lt a.1

-- ---- each line fits

each_fits : (G : Ground) (ns : List ℕ) (w : Picture) (ls : List Line) → Fitting G ns w ls → (i : ℕ) (l : Line) → slice_get ls i ≡ Some l → FitsGround G ns (licences.picture_after_all G w (take i ls)) l
each_fits G ns w [] f i l e = no_some e
each_fits G ns w (x ∷ ls) f zero l e = subst (FitsGround G ns w) (some_same e) f.0
each_fits G ns w (x ∷ ls) f (suc i) l e = each_fits G ns (licences.picture_after G w x) ls f.1 i l e

-- ---- the theorem

grounds : (h : Header) (ss : List Step) → Grounds (ground_of h ss) (front_after_all (first h) (all_marks ss)).chronicle
grounds h ss = record { members = λ k ms e. ap (λ (o : Option (List Member)). unwrap_or o []) e; row = λ n k e p. refl }

-- the marks of taken steps, by the ground that they make
pub record Walks (h : Header) (ss : List Step) : Type 0 where
  pub key : LicensedMarks (first h).chronicle.traced (all_marks ss)
  pub goes : Goes (ground_of h ss) (first h) (all_marks ss)
  pub behind : AreBehind (lines_among (all_marks ss))

none_first : (n : ℕ) → 0 + n ≡ n
none_first n = omega arith

-- as many lines stand behind the steps as they have
pub lines_of_taken : (h : Header) (ss : List Step) → (front_after_all (first h) (all_marks ss)).lines ≡ length (all_lines ss)
lines_of_taken h ss = more_lines (first h) (all_marks ss) ∙ none_first (length (lines_among (all_marks ss))) ∙ ap length (lines_of_steps ss)

pub taken_walked : (h : Header) (ss : List Step) → Taken h ss → Premises (first h) ss → Walked (declared_policy h) (declared_factor h) (first h) (all_marks ss)
taken_walked h ss t prem = walked (declared_policy h) (declared_factor h) (first h) ss (first_lawful h) (first_ended h) (recursion_from_All (λ (s : Step). IsProperEvent s.event) ss t.ranges) t.allowed
    (subst (λ (n : ℕ). n < 2 ^ 32) (sym (lines_of_taken h ss)) t.short) prem

pub walks : (h : Header) (ss : List Step) → Taken h ss → Premises (first h) ss → Walks h ss
walks h ss t prem = let w : Walked (declared_policy h) (declared_factor h) (first h) (all_marks ss) = taken_walked h ss t prem in record {
  key = w.key;
  goes = goes_of (ground_of h ss) (declared_policy h) (declared_factor h) (first h) (all_marks ss) refl refl w.key w.due (first_lawful h) (grounds h ss);
  behind = none_headers (first h) (all_marks ss) w.due;
}

-- the lines among the marks are a journal of that ground
pub marks_are_a_journal : (h : Header) (ss : List Step) → All IsProperHeaderLine h → Walks h ss → IsJournal (header_lines h) (ground_of h ss) (lines_among (all_marks ss))
marks_are_a_journal h ss proper w = record {
  ground = record { some = some_factor 1 h (lit< tt) (recursion_from_All IsProperHeaderLine h proper) };
  header = headers_are h;
  by = sym (policy_agrees h (lines_among (all_marks ss)) w.behind);
  factor = sym (factor_agrees h (lines_among (all_marks ss)) w.behind);
  licensed = all_licensed (ground_of h ss) (first h) start (all_marks ss) w.goes (first_tied h);
  fits = each_fits (ground_of h ss) _ start (lines_among (all_marks ss)) (all_fit (ground_of h ss) (first h) start _ (all_marks ss) (sym (nodes_agree h (lines_among (all_marks ss)) w.behind)) w.goes (first_tied h));
}
