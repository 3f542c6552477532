-- The world after steps that are taken: who is declared, between whom messages go, whom the client asks, and how far nodes have counted.
use Rattle.std.proofs.Common.{◌≡◌, ⊎_elim, inl, inr, ℕ, ◌<◌, ◌≤◌, ◌==◌, nat_lt, Bool, true, false, List, [], ◌∷◌, Option, Some, None, refl, sym, ap, ◌∙◌, subst, if◌then◌else◌, arith}
use Rattle.std.specs.Prelude.{All, Contains, slice_get}
use Rattle.std.proofs.lemmas.List.Elements.{All-nil, All-cons}
use Rattle.cluster_types.specs.declared.cluster_key.ClusterKey.{ClusterKey}
use Rattle.cluster_types.specs.Distinct.{without}
use Rattle.cluster_types.specs.Members.{ids_of}
use Rattle.cluster_types.specs.Partitions.{partition_count}
use Rattle.partition_lists.specs.Lists.{in_order, put_in_order}
use Rattle.partition_lists.proofs.ListLaws.{any_is_contained}
use Rattle.wire_messages.specs.declared.message.Message.{Message}
use Rattle.node_rules.specs.Batches.{Target, Targets}
use Rattle.node_rules.specs.Client.{node_for}
use Rattle.node_rules.specs.Facts.{Facts, members_of_view}
use Rattle.node_rules.specs.Notes.{in_view}
use Rattle.node_rules.specs.Senders.{view_key_of}
use Rattle.node_rules.specs.Standing.{others}
use Rattle.node_rules.specs.Tables.{contains}
use Rattle.journal_readings.specs.Messages.{Posting}
use Rattle.cluster_rules.specs.Network.{posting_at}
use Rattle.cluster_rules.specs.Opening.{Header, declared_nodes}
use Rattle.cluster_rules.specs.Steps.{Step, all_marks}
use Rattle.cluster_rules.specs.World.{World, opened}
use Rattle.cluster_laws.proofs.At.{some_same, no_some}
use Rattle.key_laws.specs.Addressed.{IsOther, IsOtherIf, ComesFromOther}
use Rattle.key_laws.specs.Ends.{IsOneOf, FromNode, GoesRight}
use Rattle.key_laws.specs.Traced.{Traced, untouched}
use Rattle.key_laws.specs.Traced as traced
use Rattle.key_laws.proofs.Addressed.{member_id, to_without, or_cases, or_left, or_right}
use Rattle.key_laws.proofs.AllowedRuns.{comes_from_other}
use Rattle.key_laws.proofs.Kept.{WasPosted, was_posted}
use Rattle.key_laws.proofs.NamedSteps.{Named, allowed_named, no_client, asked_is, to_end}
use Rattle.key_laws.proofs.Peopled.{peers_of, Peopled}
use Rattle.key_laws.proofs.Runs.{declared_ids, marks_nodes, world_of}
use Rattle.run_laws.specs.Fronts as fronts
use Rattle.run_laws.specs.Ranges.{Ranged, FitsFacts}
use Rattle.run_laws.specs.Taken.{Taken, first}
use Rattle.run_laws.specs.Tied.{Among}
use Rattle.run_laws.specs.Worlds.{world_after, OfTakenWorlds, KnowsNodes, MessagesCome, HaveReceivers, AsksDeclared, CountsBelow, CountsFew}
use Rattle.run_laws.proofs.Journal.{lines_of_taken, world_all}
use Rattle.run_laws.proofs.Premised.{taken_ranged}

-- ---- who is declared

is_in : (ns : List ℕ) (n : ℕ) → contains ns n ≡ true → Contains ns n
is_in ns n e = (any_is_contained n ns).0 e

in_is : (ns : List ℕ) (n : ℕ) → Contains ns n → contains ns n ≡ true
in_is ns n h = (any_is_contained n ns).1 h

abbrev end_of : Header → List Step → Traced
end_of h ss = traced.traced_after_all (untouched (opened h)) (all_marks ss)

world_is : (h : Header) (ss : List Step) → (end_of h ss).world ≡ world_after h ss
world_is h ss = world_of (untouched (opened h)) (all_marks ss)

named : (h : Header) (ss : List Step) → Taken h ss → Named (declared_nodes h) (untouched (opened h)) ss
named h ss t = allowed_named partition_count h ss t.header t.allowed

-- what holds of the world that is traced holds of it
at_end : (P : World → Type 0) (h : Header) (ss : List Step) → P (end_of h ss).world → P (world_after h ss)
at_end P h ss p = subst P (world_is h ss) p

pub knows_nodes : OfTakenWorlds KnowsNodes
knows_nodes h ss t =
    let p : Peopled (declared_nodes h) (end_of h ss) = (named h ss t).peopled in
    at_end (KnowsNodes h) h ss (record {
      nodes = ap (λ (w : World). w.nodes) (world_is h ss) ∙ marks_nodes (opened h) (all_marks ss);
      me = λ n. (p.nodes n).me;
      peers = λ n. (p.nodes n).peers;
      up = λ n e. is_in (declared_nodes h) n ((p.nodes n).up e);
      client = λ n c e. no_client (declared_nodes h) n (declared_ids h t.header) (in_is (declared_nodes h) n c) e;
    })

-- ---- messages

put_has : (x : ℕ) (xs : List ℕ) (m : ℕ) → contains (x ∷ xs) m ≡ true → contains (put_in_order nat_lt x xs) m ≡ true
put_has x [] m e = e
put_has x (y ∷ xs) m e = go (nat_lt y x) (put_has x xs m)
  where
    go : (b : Bool) → (contains (x ∷ xs) m ≡ true → contains (put_in_order nat_lt x xs) m ≡ true) → contains (if b then y ∷ put_in_order nat_lt x xs else (x ∷ y ∷ xs)) m ≡ true
    go true rest = ⊎_elim (λ q. or_right (y == m) _ (rest (or_left (x == m) _ q))) (λ q. ⊎_elim (λ z. or_left (y == m) _ z) (λ z. or_right (y == m) _ (rest (or_right (x == m) _ z))) (or_cases (y == m) (contains xs m) q)) (or_cases (x == m) _ e)
    go false rest = e

ordered_has : (xs : List ℕ) (m : ℕ) → contains xs m ≡ true → contains (in_order nat_lt xs) m ≡ true
ordered_has [] m e = e
ordered_has (x ∷ xs) m e = put_has x (in_order nat_lt xs) m (⊎_elim (λ q. or_left (x == m) _ q) (λ q. or_right (x == m) _ (ordered_has xs m q)) (or_cases (x == m) (contains xs m) e))

peer : (ns : List ℕ) (me n : ℕ) → contains ns n ≡ true → (n ≡ me → ⊥) → contains (peers_of ns me) n ≡ true
peer ns me n e apart = ordered_has (without ns me) n (to_without ns me n e apart)

other_member : (f : Facts) (from : ℕ) → IsOther f from → Contains (others f) from
other_member f from h = is_in (others f) from (to_without (ids_of (members_of_view f)) f.me from (member_id (members_of_view f) from ∙ h.member) h.other)

of_view : (f : Facts) (from : ℕ) (m : Message) → ComesFromOther f from m → (key : ClusterKey) → view_key_of m ≡ Some key → in_view f key ≡ true → Contains (others f) from
of_view f from m h key e i = go (view_key_of m) h e
  where
    go : (o : Option ClusterKey) → IsOtherIf f from o → o ≡ Some key → Contains (others f) from
    go None x q = no_some q
    go (Some k) x q = other_member f from (x (ap (in_view f) (some_same q) ∙ i))

posted_right : (h : Header) (ss : List Step) → Taken h ss → (i : ℕ) (p : Posting) → posting_at (world_after h ss).network i ≡ Some p → GoesRight (IsOneOf (declared_nodes h)) p.from p.to p.bytes
posted_right h ss t i p e = let w : WasPosted (end_of h ss) p = was_posted (end_of h ss) i p (ap (λ (x : World). posting_at x.network i) (world_is h ss) ∙ e) in (named h ss t).peopled.sent w.place p w.stands

pub messages_come : OfTakenWorlds MessagesCome
messages_come h ss t i p m e r = record {
  sender = ⊎_elim (λ (x : FromNode (IsOneOf (declared_nodes h)) p.from p.to).
      inl (is_in ((world_after h ss).facts p.to).peers p.from (ap (λ (ns : List ℕ). contains ns p.from) ((knows_nodes h ss t).peers p.to) ∙ peer (declared_nodes h) p.to p.from x.sender x.differ)))
      (λ x. inr (x.sender, some_same (sym r ∙ x.asks)))
      (posted_right h ss t i p e).ends;
  member = let w : WasPosted (end_of h ss) p = was_posted (end_of h ss) i p (ap (λ (x : World). posting_at x.network i) (world_is h ss) ∙ e) in
      of_view ((world_after h ss).facts p.to) p.from m (comes_from_other partition_count h ss t.header t.allowed w.place p m (ap (λ (x : World). slice_get x.network.sent w.place) (sym (world_is h ss)) ∙ w.stands) r);
}

pub have_receivers : OfTakenWorlds HaveReceivers
have_receivers h ss t i p e = ⊎_elim inl (λ d. inr (is_in (declared_nodes h) p.to d)) (to_end (IsOneOf (declared_nodes h)) p.from p.to p.bytes (posted_right h ss t i p e))

-- ---- the client

pub asks_declared : OfTakenWorlds AsksDeclared
asks_declared h ss t p n lt e = is_in (declared_nodes h) n (asked_is (declared_nodes h) (end_of h ss).world.tables (named h ss t).peopled.tables p n lt (ap (λ (w : World). node_for w.tables p) (world_is h ss) ∙ e))

-- ---- numbers

all_below : (limit : ℕ) (ts : Targets) → ((t : Target) → Among ts t → t.batches < limit) → All (λ t. t.batches < limit) ts
all_below limit [] h = All-nil (λ (t : Target). t.batches < limit)
all_below limit (t ∷ ts) h = All-cons (λ (t : Target). t.batches < limit) t ts (h t (inl refl)) (all_below limit ts (λ x a. h x (inr a)))

below : (n lines limit : ℕ) → n ≤ lines → lines < limit → n < limit
below n lines limit le lt = omega (arith, le, lt)

few : (limit lines : ℕ) (f : Facts) → lines < limit → FitsFacts lines f → CountsBelow limit f
few limit lines f lt h = record {
  transactions = below f.transactions.opened lines limit h.transactions.opened lt;
  batches = all_below limit f.batches (λ t a. below t.batches lines limit (h.each_target t a).batches lt);
  applies = λ p. below _ lines limit (h.writes.applies p) lt;
}

pub counts_few : CountsFew
counts_few h ss t limit lt n =
    let r : Ranged (fronts.front_after_all (first h) (all_marks ss)) = taken_ranged h ss t in
    subst (λ (w : World). CountsBelow limit (w.facts n)) (world_all (first h) (all_marks ss)) (few limit (fronts.front_after_all (first h) (all_marks ss)).lines (fronts.facts_at (fronts.front_after_all (first h) (all_marks ss)) n) (subst (λ (c : ℕ). c < limit) (sym (lines_of_taken h ss)) lt) (r.nodes n))
