-- Messages of one proposal are answered by messages of the same proposal, flow by flow.
use Rattle.std.proofs.Common.{◌≡◌, ℕ, ◌==◌, ◌||◌, Bool, true, false, List, [], ◌∷◌, Option, Some, None, refl, sym, ap, subst, ◌∙◌, ◌⊎◌, inl, inr}
use Rattle.std.specs.Prelude.{unwrap_or, if◌then◌else◌}
use Rattle.std.proofs.lemmas.Option.{none-some}
use Rattle.cluster_types.specs.declared.cluster_key.ClusterKey.{ClusterKey}
use Rattle.cluster_types.specs.declared.member.Member.{Member}
use Rattle.cluster_types.specs.ClusterKeys.{key_lt}
use Rattle.wire_messages.specs.declared.message.Message.{Message}
use Rattle.wire_messages.specs.declared.message.Message.TheVariants as message
use Rattle.wire_messages.specs.Decoding.{message_of}
use Rattle.wire_messages.specs.Keys.{IsKeyField}
use Rattle.wire_messages.specs.Nodes.{AreMembersField}
use Rattle.wire_messages.specs.Spelling.{spelling}
use Rattle.wire_messages.proofs.DecodingLaws.{read_back}
use Rattle.node_rules.specs.Agreement as agreement
use Rattle.node_rules.specs.Agreement.{Proposal, proposes, without_missing}
use Rattle.node_rules.specs.Copies.{is_nil}
use Rattle.node_rules.specs.Effects.{to_each, lines_and_sends, nothing, sends_only, to_one}
use Rattle.node_rules.specs.Facts.{Facts}
use Rattle.node_rules.specs.Messages.{commit_effects, accept_effects}
use Rattle.node_rules.specs.Tables.{contains, only_if}
use Rattle.journal_readings.specs.Lines.{has_node}
use Rattle.cluster_rules.specs.World.{World}
use Rattle.cluster_rules.proofs.KeptFacts.{num_same}
use Rattle.cluster_laws.proofs.At.{differ}
use Rattle.key_laws.specs.Order.{KeyAtMost}
use Rattle.key_laws.proofs.Order.{at_most_eq, at_most_lt}
use Rattle.run_laws.specs.Tied.{Among}
use Rattle.calm_laws.specs.Acts.{Input, Gets, as_read, sent_at, acted, outbox}
use Rattle.calm_laws.specs.Flows.{Flowed, inbox}
use Rattle.calm_laws.specs.Group.{Group, replies, kind}
use Rattle.calm_laws.specs.Stances.{Stance, stance_of, turned}
use Rattle.calm_laws.specs.Turns.{is_agreeing, Only, Follows, Leads}
use Rattle.calm_laws.proofs.Company.{FromGroup, from_group}
use Rattle.calm_laws.proofs.Hearing.{gets_inbox}
use Rattle.calm_laws.proofs.Inputs.{Along, Keeps, SentBy, kept_along, outbox_only, served_each, served_kept}
use Rattle.calm_laws.proofs.Proposals.{all_gets}
use Rattle.calm_laws.proofs.Replies.{answers}
use Rattle.calm_laws.proofs.Same.{acted_same}
use Rattle.calm_laws.proofs.Sent.{AllGets, among_each}
use Rattle.calm_laws.proofs.Turning.{acted_turns}
use Rattle.calm_laws.proofs.Turns.{Led, follows_kept, inside_follows, leads_kept}
use Rattle.cluster_types.specs.ClusterKeys as keys
use Rattle.journal_lines.specs.declared.line.Line.TheVariants as line

-- ---- a member of the group

abbrev pub Party : ClusterKey → List Member → Stance → Type 0
Party k ms s = Follows k ms s ⊎ Leads k ms s

party_of : (k : ClusterKey) (ms : List Member) (s : Stance) → Led k ms s → Party k ms s
party_of k ms s (inl h) = inr h
party_of k ms s (inr h) = inl (inside_follows k ms s h)

pub party_kept : (p a c : Bool) (k : ClusterKey) (ms : List Member) (me : ℕ) (s : Stance) (from : ℕ) (m : Message) → Only p a c k ms m → Party k ms s → Party k ms (turned me s from m)
party_kept p a c k ms me s from m o (inl h) = inl (follows_kept p a c k ms me s from m o h)
party_kept p a c k ms me s from m o (inr h) = party_of k ms (turned me s from m) (leads_kept p a c k ms me s from m o h)

pub party_promised : (k : ClusterKey) (ms : List Member) (s : Stance) → Party k ms s → KeyAtMost s.agreement.promised k
party_promised k ms s (inl h) = h.promised
party_promised k ms s (inr h) = at_most_eq h.promised

-- ---- what can be read

-- the messages of the proposal can be read
pub record Readable (k : ClusterKey) (ms : List Member) : Type 0 where
  pub proposes : message_of (spelling (message.Propose k ms)) ≡ Some (message.Propose k ms)
  pub accepts : message_of (spelling (message.Accept k)) ≡ Some (message.Accept k)
  pub commits : message_of (spelling (message.Commit k ms)) ≡ Some (message.Commit k ms)

pub readable : (k : ClusterKey) (ms : List Member) → IsKeyField k → AreMembersField ms → Readable k ms
readable k ms key members = record {
  proposes = read_back (message.Propose k ms) (key, members);
  accepts = read_back (message.Accept k) key;
  commits = read_back (message.Commit k ms) (key, members);
}

-- ---- what isn't of agreement

pub only_free : (p a c : Bool) (k : ClusterKey) (ms : List Member) (x : Message) → is_agreeing (kind x) ≡ false → Only p a c k ms x
only_free p a c k ms (message.Propose l ns) h = differ refl h
only_free p a c k ms (message.Accept l) h = differ refl h
only_free p a c k ms (message.Refuse l promised) h = differ refl h
only_free p a c k ms (message.Commit l ns) h = differ refl h
only_free p a c k ms _ h = tt

some_is : (p q : Proposal) → ◌≡◌ {A = Option Proposal} (Some p) (Some q) → p ≡ q
some_is p q e = ap (λ (o : Option Proposal). unwrap_or o p) e

no_kind : (j : ℕ) → contains [] j ≡ true → is_agreeing j ≡ false
no_kind j e = differ e refl

one_kind : (i j : ℕ) → is_agreeing i ≡ false → contains (i ∷ []) j ≡ true → is_agreeing j ≡ false
one_kind i j e h = go (i == j) refl h
  where
    go : (b : Bool) → (i == j) ≡ b → (b || false) ≡ true → is_agreeing j ≡ false
    go true s f = ap is_agreeing (sym (num_same i j s)) ∙ e
    go false s f = differ f refl

pub free_replies : (y : Message) (j : ℕ) → is_agreeing (kind y) ≡ false → contains (replies (kind y)) j ≡ true → is_agreeing j ≡ false
free_replies (message.Propose l ns) j e h = differ refl e
free_replies (message.Accept l) j e h = differ refl e
free_replies (message.Refuse l promised) j e h = differ refl e
free_replies (message.Commit l ns) j e h = differ refl e
free_replies (message.State key wants row) j e h = one_kind 6 j refl h
free_replies (message.Batch b) j e h = one_kind 8 j refl h
free_replies (message.Progress key wants done handed settled) j e h = one_kind 9 j refl h
free_replies (message.Repl key t nth digest v) j e h = one_kind 11 j refl h
free_replies (message.Ask key t digest) j e h = one_kind 13 j refl h
free_replies (message.Answer key t v) j e h = one_kind 10 j refl h
free_replies message.MapAsk j e h = one_kind 15 j refl h
free_replies _ j e h = no_kind j h

-- ---- what is sent on a message of the proposal

module _ (p a o : Bool) (k : ClusterKey) (ms : List Member) (r : Readable k ms) where
  accept_passes : (f : Facts) (from : ℕ) (l : ClusterKey) → l ≡ k → p ≡ true → KeyAtMost f.agreement.promised k → (to : ℕ) (x : Message) → Among (as_read (if key_lt l f.agreement.promised then sends_only (to_one from (message.Refuse l f.agreement.promised)) else lines_and_sends (only_if (line.Promise f.me l) (keys.key_lt f.agreement.promised l)) (to_one from (message.Accept l))).sends) (to, x) → Only false p a k ms x
  accept_passes f from l e may most to x h =
      let not_below : key_lt l f.agreement.promised ≡ false = ap (λ (y : ClusterKey). key_lt y f.agreement.promised) e ∙ at_most_lt k f.agreement.promised most in
      let is : message.Accept k ≡ x = among_each (message.Accept k) r.accepts (from ∷ []) to x
      (subst (λ (y : ClusterKey). Among (as_read (if false then sends_only (to_one from (message.Refuse y f.agreement.promised)) else lines_and_sends (only_if (line.Promise f.me y) (keys.key_lt f.agreement.promised y)) (to_one from (message.Accept y))).sends) (to, x)) e (subst (λ (b : Bool). Among (as_read (if b then sends_only (to_one from (message.Refuse l f.agreement.promised)) else lines_and_sends (only_if (line.Promise f.me l) (keys.key_lt f.agreement.promised l)) (to_one from (message.Accept l))).sends) (to, x)) not_below h)) in
      subst (λ (y : Message). Only false p a k ms y) is (may, refl)

  commit_passes : (f : Facts) (q : Proposal) → q.key ≡ k → q.members ≡ ms → a ≡ true → (b : Bool) (to : ℕ) (x : Message) → Among (as_read (if b then commit_effects f q else nothing).sends) (to, x) → Only false p a k ms x
  unfolding as_read
  commit_passes f q e i may false to x h = absurd h
  commit_passes f q e i may true to x h =
      let same : message.Commit q.key q.members ≡ message.Commit k ms = ap (λ (y : ClusterKey). message.Commit y q.members) e ∙ ap (λ (ys : List Member). message.Commit k ys) i in
      let is : message.Commit k ms ≡ x = among_each (message.Commit k ms) r.commits (agreement.others_among f.me q.members) to x
      (subst (λ (y : Message). Among (as_read (to_each (agreement.others_among f.me q.members) y)) (to, x)) same h) in
      subst (λ (y : Message). Only false p a k ms y) is (may, refl, refl)

  count_passes : (f : Facts) (from : ℕ) (l : ClusterKey) (q : Option Proposal) → Party k ms (stance_of f) → f.agreement.proposal ≡ q → a ≡ true → (b : Bool) (to : ℕ) (x : Message) → Among (as_read (accept_effects f from l q b).sends) (to, x) → Only false p a k ms x
  unfolding as_read
  count_passes f from l None h e may b to x i = absurd i
  count_passes f from l (Some q) h e may false to x i = absurd i
  count_passes f from l (Some q) (inl h) e may true to x i = absurd (none-some q (sym h.proposal ∙ e))
  count_passes f from l (Some q) (inr h) e may true to x i =
      let same : q ≡ h.stands = some_is q h.stands (sym e ∙ h.is) in
      commit_passes f q (ap (λ (y : Proposal). y.key) same ∙ h.key) (ap (λ (y : Proposal). y.members) same ∙ h.members) may (is_nil (without_missing q from).missing) to x i

  other_passes : (n c : ℕ) (f : Facts) (from : ℕ) (y : Message) → is_agreeing (kind y) ≡ false → (to : ℕ) (x : Message) → Among (sent_at n c f (Gets from y)) (to, x) → Only false p a k ms x
  other_passes n c f from y free to x h = only_free false p a k ms x (free_replies y (kind x) free (answers n c f from y to x h))

  -- of such a message only an answer of the same proposal is sent
  pub passes : (n c : ℕ) (f : Facts) (from : ℕ) (y : Message) → Only p a o k ms y → Party k ms (stance_of f) → (to : ℕ) (x : Message) → Among (sent_at n c f (Gets from y)) (to, x) → Only false p a k ms x
  passes n c f from (message.Propose l ns) is h to x i = accept_passes f from l is.1 is.0 (party_promised k ms (stance_of f) h) to x i
  passes n c f from (message.Accept l) is h to x i = count_passes f from l f.agreement.proposal h refl is.0 (proposes f.agreement.proposal l) to x i
  passes n c f from (message.Refuse l promised) is h to x i = absurd is
  passes n c f from (message.Commit l ns) is h to x i = only_free false p a k ms x (no_kind (kind x) (answers n c f from (message.Commit l ns) to x i))
  passes n c f from y is h to x i = other_passes n c f from y refl to x i

-- ---- flows

-- what each message among these makes of a stance keeps what holds of stances
pub keeps_turned : (n c : ℕ) (P : Stance → Type 0) (is : List Input) → AllGets is → ((me : ℕ) (s : Stance) (from : ℕ) (m : Message) → Among is (Gets from m) → P s → P (turned me s from m)) → Keeps n c (λ f. P (stance_of f)) is
keeps_turned n c P is gets kept f i h p =
    all_gets is i gets h (λ j. Among is j → P (stance_of (acted n c f j))) (λ from m there. subst P (sym (acted_turns n c f from m)) (kept f.me (stance_of f) from m there p)) h

pub flow_kept : (n : ℕ) (u v : World) (m : ℕ) (P : Stance → Type 0) → Flowed n u v → ((me : ℕ) (s : Stance) (from : ℕ) (x : Message) → Among (inbox u m) (Gets from x) → P s → P (turned me s from x)) → P (stance_of (u.facts m)) → P (stance_of (v.facts m))
flow_kept n u v m P f kept p =
    subst (λ (g : Facts). P (stance_of g)) (sym (f.facts m))
    (served_kept n (u.clocks m) (λ g. P (stance_of g)) (inbox u m) (u.facts m) (keeps_turned n (u.clocks m) P (inbox u m) (gets_inbox u m) kept) p)

-- one message among these gives what the others keep
pub flow_each : (n : ℕ) (u v : World) (m : ℕ) (P Q : Stance → Type 0) → Flowed n u v
    → ((me : ℕ) (s : Stance) (from : ℕ) (x : Message) → Among (inbox u m) (Gets from x) → P s → P (turned me s from x))
    → ((me : ℕ) (s : Stance) (from : ℕ) (x : Message) → Among (inbox u m) (Gets from x) → Q s → Q (turned me s from x))
    → (a : ℕ) (y : Message) → ((me : ℕ) (s : Stance) → me ≡ (u.facts m).me → P s → Q (turned me s a y)) → Among (inbox u m) (Gets a y) → P (stance_of (u.facts m)) → Q (stance_of (v.facts m))
flow_each n u v m P Q f keep kept a y gives comes p =
    subst (λ (g : Facts). Q (stance_of g)) (sym (f.facts m))
    (served_each n (u.clocks m) (λ g. (g.me ≡ (u.facts m).me) × P (stance_of g)) (λ g. Q (stance_of g)) (inbox u m) (u.facts m) (Gets a y)
    (λ g i there h. ((acted_same n (u.clocks m) g i).me ∙ h.0, keeps_turned n (u.clocks m) P (inbox u m) (gets_inbox u m) keep g i there h.1)) (keeps_turned n (u.clocks m) Q (inbox u m) (gets_inbox u m) kept)
    (λ g h. subst Q (sym (acted_turns n (u.clocks m) g a y)) (gives g.me (stance_of g) h.0 h.1)) comes (refl, p))

-- the messages of agreement that come to the group are of that proposal
abbrev pub AllOnly : Bool → Bool → Bool → ClusterKey → List Member → List ℕ → World → Type 0
AllOnly p a o k ms gs w = (m : ℕ) → has_node gs m ≡ true → (from : ℕ) (x : Message) → Among (inbox w m) (Gets from x) → Only p a o k ms x

abbrev pub Parties : ClusterKey → List Member → List ℕ → World → Type 0
Parties k ms gs w = (m : ℕ) → has_node gs m ≡ true → Party k ms (stance_of (w.facts m))

pub flow_parties : (n : ℕ) (gs : List ℕ) (u v : World) (p a o : Bool) (k : ClusterKey) (ms : List Member) → Flowed n u v → AllOnly p a o k ms gs u → Parties k ms gs u → Parties k ms gs v
flow_parties n gs u v p a o k ms f only h m here = flow_kept n u v m (Party k ms) f (λ me s from x there. party_kept p a o k ms me s from x (only m here from x there)) (h m here)

pub flow_only : (n : ℕ) (ns gs : List ℕ) (u v : World) (p a o : Bool) (k : ClusterKey) (ms : List Member) → Readable k ms → Group ns gs u → Flowed n u v → AllOnly p a o k ms gs u → Parties k ms gs u → AllOnly false p a k ms gs v
flow_only n ns gs u v p a o k ms r g f only h m here from x there =
    let sent : FromGroup gs from m x (outbox n (u.clocks from) (u.facts from) (inbox u from)) = from_group n ns gs u v g f from m x here there in
    let is : List Input = inbox u from in
    let all : Along n (u.clocks from) (λ g. Party k ms (stance_of g)) (u.facts from) is =
    kept_along n (u.clocks from) (λ g. Party k ms (stance_of g)) is (u.facts from)
    (keeps_turned n (u.clocks from) (Party k ms) is (gets_inbox u from) (λ me s b y t. party_kept p a o k ms me s b y (only from sent.sender b y t))) (h from sent.sender) in
    let by : SentBy n (u.clocks from) (λ g. Party k ms (stance_of g)) is (m, x) = outbox_only n (u.clocks from) (λ g. Party k ms (stance_of g)) is (u.facts from) (m, x) all sent.sent in
    all_gets is by.act (gets_inbox u from) by.came (λ i. Among is i → Among (sent_at n (u.clocks from) by.facts i) (m, x) → Only false p a k ms x)
    (λ b y came i. passes p a o k ms r n (u.clocks from) by.facts b y (only from sent.sender b y came) by.before m x i) by.came by.sent
