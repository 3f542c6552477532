-- With a ground that is the history's, what is due meets what the ground asks.
use Rattle.std.proofs.Common.{◌≡◌, ℕ, ◌==◌, Bool, true, ◌||◌, List, [], ◌∷◌, All, Option, Some, None, refl, sym, ap, ◌∙◌, subst, arith, ⊎_elim}
use Rattle.std.specs.List.{AllByRecursion}
use Rattle.std.proofs.lemmas.List.Elements.{recursion_from_All}
use Rattle.conflict_order.specs.declared.policy.Policy.{Policy}
use Rattle.cluster_types.specs.declared.cluster_key.ClusterKey.{ClusterKey}
use Rattle.cluster_types.specs.declared.member.Member.{Member}
use Rattle.cluster_types.specs.Members.{ids_of}
use Rattle.cluster_types.specs.StateRows.{state_of}
use Rattle.journal_lines.specs.declared.line.Line.{Line}
use Rattle.journal_lines.specs.declared.line.Line.TheVariants as line
use Rattle.wire_messages.specs.declared.message.Message.{Message}
use Rattle.wire_messages.specs.declared.message.Message.TheVariants as message
use Rattle.wire_messages.specs.Decoding.{message_of}
use Rattle.wire_messages.specs.Nodes.{IsId}
use Rattle.node_rules.specs.Copies.{Row}
use Rattle.node_rules.specs.Exchange.{View, is_member, members_of, first_missing}
use Rattle.node_rules.specs.Keys.{same_key}
use Rattle.node_rules.specs.Notes.{own_row}
use Rattle.node_rules.specs.Tables.{contains}
use Rattle.cluster_rules.specs.Marks.{Mark, Begins, Writes}
use Rattle.cluster_laws.specs.Ground.{Ground}
use Rattle.cluster_laws.proofs.At.{or_cases, number_same, number_here, and_both, keys, differ}
use Rattle.key_laws.specs.Licences.{LicensedMarks}
use Rattle.key_laws.specs.Sound.{Entered, ViewStands, Sound}
use Rattle.run_laws.specs.Chronicle.{Chronicle, Longer, Grounds}
use Rattle.run_laws.specs.Tied.{RowsAgree}
use Rattle.run_laws.specs.Fronts.{Front, world_of, facts_at, front_after, front_after_all, Sane, SaneNode}
use Rattle.run_laws.specs.LineOk.{EnterOk, ExchangeOk, SendOk, SendOkIf, LineOk, Goes}
use Rattle.run_laws.specs.LineDue.{EnterDue, ExchangeDue, SendDue, SendDueIf, LineDue, DueMarks, LawOf, LawfulFront}
use Rattle.run_laws.proofs.Lawful.{Onward, lawful_line, lawful_begun, strengthened}
use Rattle.run_laws.proofs.Rows.{row_here}
use Rattle.run_laws.proofs.Standing.{ViewAt, view_at}
use Rattle.run_laws.proofs.Agreement.{member_at, rows_agree}

-- ---- a view is of its list

pub entered_view : (z : Front) (n : ℕ) (v : View) → Sound z.chronicle.traced → (facts_at z n).exchange.view ≡ Some v → Entered z.chronicle.traced n (facts_at z n).agreement.last v
entered_view z n v s e = subst (ViewStands z.chronicle.traced n (facts_at z n).agreement.last) e (s.nodes n).view

no_client : (ms : List Member) → All (λ (m : Member). IsId m.id) ms → is_member ms 0 ≡ true → ⊥
no_client ms all e = go ms (recursion_from_All (λ (m : Member). IsId m.id) ms all) e
  where
    go : (ms : List Member) → AllByRecursion (λ (m : Member). IsId m.id) ms → is_member ms 0 ≡ true → ⊥
    go [] a i = differ i refl
    go (m ∷ ms) a i = ⊎_elim (λ x. never m.id a.0 (number_same m.id 0 x)) (λ y. go ms a.1 y) (or_cases (m.id == 0) (is_member ms 0) i)
      where
        never : (n : ℕ) → IsId n → n ≡ 0 → ⊥
        never n i e = omega (arith, i.positive, e)

pub outside : (z : Front) → Sound z.chronicle.traced → (facts_at z 0).exchange.view ≡ None
outside z s = go (facts_at z 0).exchange.view refl
  where
    go : (o : Option View) → (facts_at z 0).exchange.view ≡ o → o ≡ None
    go None e = refl
    go (Some v) e = let x : Entered z.chronicle.traced 0 (facts_at z 0).agreement.last v = entered_view z 0 v s e in absurd (no_client v.members (s.lists v.key v.members x.list).good.fit x.among)

-- ---- the ground and the facts

pub sane_of : (G : Ground) (by : Policy) (factor : ℕ) (z : Front) → G.by ≡ by → G.factor ≡ factor → LawfulFront by factor z → Grounds G z.chronicle → Sane G (world_of z)
sane_of G by factor z sb sf h g = record { nodes = one; client = outside z h.sound }
  where
    members_are : (n : ℕ) (v : View) → (facts_at z n).exchange.view ≡ Some v → G.members v.key ≡ v.members
    members_are n v e = g.members v.key v.members (entered_view z n v h.sound e).list

    one : (n : ℕ) → SaneNode G n (facts_at z n)
    one n = let law : LawOf by factor (facts_at z n) = h.nodes n in record {
      me = (h.sound.nodes n).me;
      by = sb ∙ sym law.same_by;
      factor = sf ∙ sym law.same_factor;
      view = λ v e. record { members = members_are n v e ∙ ap members_of (sym e); factor = sf ∙ sym law.same_factor; by = sb ∙ sym law.same_by };
      member = λ v e. ap (λ (ms : List Member). contains (ids_of ms) n) (members_are n v e) ∙ sym (member_at v.members n) ∙ (entered_view z n v h.sound e).among;
      rows = λ v e x. rows_agree G z.chronicle n v g h.rowed e (members_are n v e) (law.full v e x);
      quiet = law.quiet;
      places = record { handed = law.handed_places; settled = law.settled_places; own_handed = law.own_handed_places; own_settled = law.own_settled_places };
      counted = law.counted;
      aims = law.aims;
    }

-- ---- lines

enter_ok : (G : Ground) (z : Front) (n : ℕ) (k : ClusterKey) (ms : List Member) → Grounds G z.chronicle → Grounds G (front_after z (Writes (line.Enter n k ms))).chronicle → EnterDue z n k ms → EnterOk G z n k ms
enter_ok G z n k ms g next ok = record {
  above = ok.above;
  members = sym (g.members k ms ok.first.list);
  member = ap (λ (xs : List Member). contains (ids_of xs) n) (g.members k ms ok.first.list) ∙ sym (member_at ms n) ∙ ok.first.among;
  row = λ p. sym (next.row n k (sooner _ _ (and_both (n == n) (same_key k k) (number_here n) (keys.here k))) p ∙ ap (λ (r : Row). state_of r p) (row_here z.chronicle.rows n k (own_row (facts_at z n))));
}
  where
    sooner : (a b : Bool) → a ≡ true → (a || b) ≡ true
    sooner a b e = grind arith

exchange_ok : (G : Ground) (by : Policy) (factor : ℕ) (z : Front) (n : ℕ) (k : ClusterKey) → LawfulFront by factor z → Grounds G z.chronicle → ExchangeDue z n k → ExchangeOk G z n k
exchange_ok G by factor z n k h g ok = let v : ViewAt (facts_at z n).exchange.view k = view_at (facts_at z n).exchange.view k ok.stands.view in record {
  stands = ok.stands;
  first = ok.first;
  rows = subst (λ (j : ClusterKey). RowsAgree G j (facts_at z n).exchange.rows) v.key
      (rows_agree G z.chronicle n v.view g h.rowed v.is (g.members v.view.key v.view.members (entered_view z n v.view h.sound v.is).list)
      (ap (λ (o : Option View). first_missing (facts_at z n).exchange.rows (members_of o)) (sym v.is) ∙ ok.none));
}

send_ok : (G : Ground) (z : Front) (a b : ℕ) (m : Message) → Grounds G z.chronicle → SendDue z a b m → SendOk G z a b m
send_ok G z a b (message.State k wants row) g ok = record { stands = ok.stands; row = λ p. ap (λ (r : Row). state_of r p) ok.row.same ∙ sym (g.row a k ok.row.entered p) }
send_ok G z a b (message.Batch x) g ok = ok
send_ok G z a b (message.BatchAck k number) g ok = ok
send_ok G z a b (message.Progress k wants done handed settled) g ok = ok
send_ok G z a b (message.Repl k t nth d v) g ok = ok
send_ok G z a b (message.ReplAck k t) g ok = ok
send_ok G z a b (message.Ask k t d) g ok = ok
send_ok G z a b (message.Answer k t v) g ok = ok
send_ok G z a b _ g ok = tt

send_ok_if : (G : Ground) (z : Front) (a b : ℕ) (m : Option Message) → Grounds G z.chronicle → SendDueIf z a b m → SendOkIf G z a b m
send_ok_if G z a b None g ok = tt
send_ok_if G z a b (Some m) g ok = send_ok G z a b m g ok

pub line_ok : (G : Ground) (by : Policy) (factor : ℕ) (z : Front) (l : Line) → LawfulFront by factor z → Grounds G z.chronicle → Grounds G (front_after z (Writes l)).chronicle → LineDue z l → LineOk G z l
line_ok G by factor z (line.Enter n k ms) h g next ok = (ok.0, enter_ok G z n k ms g next ok.1)
line_ok G by factor z (line.Exchanged n k) h g next ok = (ok.0, exchange_ok G by factor z n k h g ok.1)
line_ok G by factor z (line.Sent i a b bytes) h g next ok = (ok.0, record { number = ok.1.number; says = send_ok_if G z a b (message_of bytes) g ok.1.says })
line_ok G by factor z (line.Opened n k t d a) h g next ok = (ok.0, ok.1.opens)
line_ok G by factor z (line.Value n k t d v) h g next ok = ok
line_ok G by factor z (line.Apply n k t d v) h g next ok = (ok.0, ok.1.applies)
line_ok G by factor z (line.Done n k t) h g next ok = ok
line_ok G by factor z (line.Aborted n k t) h g next ok = ok
line_ok G by factor z (line.Doubt n k t) h g next ok = ok
line_ok G by factor z (line.Merge n k d v) h g next ok = ok
line_ok G by factor z (line.Handed n k p) h g next ok = ok
line_ok G by factor z (line.Settled n k p) h g next ok = ok
line_ok G by factor z (line.Learn n k p) h g next ok = ok
line_ok G by factor z (line.Drop n k p) h g next ok = ok
line_ok G by factor z (line.Deliver i a b) h g next ok = ok
line_ok G by factor z (line.Repeat i a b) h g next ok = ok
line_ok G by factor z (line.Cut i a b size) h g next ok = ok
line_ok G by factor z (line.Map n k p ms a) h g next ok = ok
line_ok G by factor z (line.Groups groups) h g next ok = ok
line_ok G by factor z (line.Calm rounds) h g next ok = ok
line_ok G by factor z _ h g next ok = (ok.0, tt)

-- ---- the ground back from the end

pub grounds_back : (G : Ground) (c d : Chronicle) → Longer c d → Grounds G d → Grounds G c
grounds_back G c d l g = record {
  members = λ k ms e. g.members k ms (l.lists k ms e);
  row = λ n k e p. g.row n k (l.entered n k e) p ∙ ap (λ (r : Row). state_of r p) (l.rows n k e);
}

long_on : (a b c : Chronicle) → Longer a b → Longer b c → Longer a c
long_on a b c x y = record {
  entered = λ n k e. y.entered n k (x.entered n k e);
  lists = λ k ms e. y.lists k ms (x.lists k ms e);
  rows = λ n k e. y.rows n k (x.entered n k e) ∙ x.rows n k e;
}

-- at the end of marks
pub onward_all : (by : Policy) (factor : ℕ) (z : Front) (ms : List Mark) → LicensedMarks z.chronicle.traced ms → DueMarks z ms → LawfulFront by factor z → Onward by factor z (front_after_all z ms)
onward_all by factor z [] key due h = record { lawful = h; longer = record { entered = λ n k e. e; lists = λ k ms e. e; rows = λ n k e. refl } }
onward_all by factor z (Begins e ∷ ms) key due h =
    let one : Onward by factor z (front_after z (Begins e)) = lawful_begun by factor z e h in
    let rest : Onward by factor (front_after z (Begins e)) (front_after_all (front_after z (Begins e)) ms) = onward_all by factor (front_after z (Begins e)) ms key.1 due one.lawful in
    record { lawful = rest.lawful; longer = long_on _ _ _ one.longer rest.longer }
onward_all by factor z (Writes l ∷ ms) key due h =
    let one : Onward by factor z (front_after z (Writes l)) = lawful_line by factor z l key.0 (strengthened by factor z l h key.0 due.0) h in
    let rest : Onward by factor (front_after z (Writes l)) (front_after_all (front_after z (Writes l)) ms) = onward_all by factor (front_after z (Writes l)) ms key.1 due.1 one.lawful in
    record { lawful = rest.lawful; longer = long_on _ _ _ one.longer rest.longer }

pub goes_of : (G : Ground) (by : Policy) (factor : ℕ) (z : Front) (ms : List Mark) → G.by ≡ by → G.factor ≡ factor → LicensedMarks z.chronicle.traced ms → DueMarks z ms → LawfulFront by factor z → Grounds G (front_after_all z ms).chronicle → Goes G z ms
goes_of G by factor z [] sb sf key due h g = tt
goes_of G by factor z (Begins e ∷ ms) sb sf key due h g = goes_of G by factor (front_after z (Begins e)) ms sb sf key.1 due (lawful_begun by factor z e h).lawful g
goes_of G by factor z (Writes l ∷ ms) sb sf key due h g =
    let one : Onward by factor z (front_after z (Writes l)) = lawful_line by factor z l key.0 (strengthened by factor z l h key.0 due.0) h in
    let rest : Onward by factor (front_after z (Writes l)) (front_after_all (front_after z (Writes l)) ms) = onward_all by factor (front_after z (Writes l)) ms key.1 due.1 one.lawful in
    let next : Grounds G (front_after z (Writes l)).chronicle = grounds_back G _ _ rest.longer g in
    let now : Grounds G z.chronicle = grounds_back G _ _ one.longer next in
    (sane_of G by factor z sb sf h now, line_ok G by factor z l h now next (strengthened by factor z l h key.0 due.0), goes_of G by factor (front_after z (Writes l)) ms sb sf key.1 due.1 one.lawful g)
