-- What a header opens.
use Rattle.std.proofs.Common.{◌≡◌, ◌≢◌, ◌==◌, ◌&&◌, ◌||◌, not, ℕ, zero, suc, ◌+◌, ◌<◌, ◌≤◌, Bool, true, false, cond, List, [], ◌∷◌, ◌++◌, All, length, map, filter, fold, drop, take, get_or, replicate, Option, Some, None, inl, inr, ◌⊎◌, refl, sym, ap, ap₂, subst, ◌∙◌, append_assoc, arith, length-append}
use Rattle.std.specs.Prelude.{Contains, filter_map, nat_lt, slice_get}
use Rattle.std.proofs.Math.Seq.{drop-cons, take-append_seam, get_or-append_seam}
use Rattle.std.proofs.lemmas.List.{append-nil}
use Rattle.std.proofs.lemmas.Bool.Decides.{nat_tests}
use Rattle.std.proofs.lemmas.List.Elements.{All-cons, All-head, All-tail, All-nil}
use Rattle.conflict_order.specs.declared.policy.Policy.{Policy}
use Rattle.cluster_types.specs.declared.member.Role.{Role}
use Rattle.cluster_types.specs.Distinct.{AreDistinct, without}
use Rattle.cluster_types.specs.Groups.{AreGroups}
use Rattle.cluster_types.specs.NodeLists.{IsNodeList}
use Rattle.cluster_types.proofs.DistinctLaws.{fresh_next}
use Rattle.partition_lists.specs.Lists.{in_order}
use Rattle.partition_lists.proofs.InOrderLaws.{Has, has_at, in_order_has}
use Rattle.script_lang.specs.declared.script.HeaderLine.{HeaderLine}
use Rattle.script_lang.specs.declared.script.HeaderLine.TheVariants as header
use Rattle.script_lang.specs.Proper.{IsProperHeaderLine}
use Rattle.journal_lines.specs.declared.line.Line.{Line}
use Rattle.journal_text.specs.Journals.{IsWithin}
use Rattle.net_script.specs.Network as nets
use Rattle.client_map.specs.declared.client_map.Entry.{Entry}
use Rattle.client_map.specs.Entries.{Holds}
use Rattle.node_rules.specs.Facts.{Facts, fresh}
use Rattle.node_rules.specs.Steps.{Planning, unplanned}
use Rattle.node_core.specs.Peers.{ArePeers, IsFactor}
use Rattle.cluster_rules.specs.Opening.{Header, declared_factor, declared_nodes, declared_peers, declared_policy, declared_role, header_factor_step, header_lines}
use Rattle.cluster_rules.specs.World.{declared, opened}
use Rattle.run_laws.specs.Taken.{Taken}
use Rattle.world.specs.declared.world.World.TheInside.{Inside}
use Rattle.world.specs.Fits.{FitsRun}
use Rattle.world.specs.Kept.{Keeps, run_of}
use Rattle.world.specs.Stands.{AreDivided, IsNetwork, Stands}
use Rattle.world.specs.Steps.{RunSoFar, run_begun, run_of_events, standing, run_lines}
use Rattle.world.proofs.KnownLaws.{contains_has, test_has}

-- the next of distinct ids is new, and there is room for it
pub next_new : (xs rest : List ℕ) (x : ℕ) → IsNodeList (xs ++ x ∷ rest) → ¬ (Contains xs x)
next_new xs rest x h =
    let count : length (xs ++ x ∷ rest) ≡ length xs + length (x ∷ rest) = length-append xs (x ∷ rest) in
    subst (λ (ys : List ℕ). ¬ (Contains ys x)) (take-append_seam xs (x ∷ rest))
    (fresh_next (xs ++ x ∷ rest) (length xs) x (omega (arith, count)) (sym (get_or-append_seam xs x rest x)) h.distinct)

-- the next line declares a node
pub node_next : (h : Header) (k : ℕ) (l : HeaderLine) (n : ℕ) (rack : Option ℕ) → k < length h → l ≡ get_or h k l → l ≡ header.Node n rack → declared_nodes (drop k h) ≡ n ∷ declared_nodes (drop (k + 1) h)
node_next h k l n rack within at is =
    ap declared_nodes (drop-cons h k l within ∙ ap (λ (x : HeaderLine). x ∷ drop (suc k) h) (sym at ∙ is)) ∙ ap (λ j. n ∷ declared_nodes (drop j h)) (next k)
  where
    next : (k : ℕ) → suc k ≡ k + 1
    next k = omega arith

-- all nodes in one group
pub one_group : (ns : List ℕ) → IsNodeList ns → (ns ≡ [] → ⊥) → AreGroups (ns ∷ [])
one_group ns h some = record {
  some = omega arith;
  limit = omega arith;
  ids_limit = subst (λ (xs : List ℕ). length xs ≤ 16) (sym (append-nil ns)) h.limit;
  none_empty = All-cons (λ (ids : List ℕ). 0 < length ids) ns [] (inside ns some) (All-nil (λ (ids : List ℕ). 0 < length ids));
  distinct = subst AreDistinct (sym (append-nil ns)) h.distinct;
}
  where
    inside : (ns : List ℕ) → (ns ≡ [] → ⊥) → 0 < length ns
    inside [] some = absurd (some refl)
    inside (n ∷ ns) some = omega arith

-- ---- line by line

-- a line of which nothing is taken, and one of which something is
pub none_taken : {A B : Type 0} (f : A → Option B) (h : List A) (k : ℕ) (x : A) → k < length h → x ≡ get_or h k x → None ≡ f x → filter_map f (drop (k + 1) h) ≡ filter_map f (drop k h)
none_taken {A} f h k x within at none = sym (ap (filter_map f) (drop-cons h k x within ∙ ap₂ (λ (y : A) j. y ∷ drop j h) (sym at) (next k)) ∙ passed x (drop (k + 1) h) (sym none))
  where
    next : (k : ℕ) → suc k ≡ k + 1
    next k = omega arith

    passed : (x : A) (xs : List A) → f x ≡ None → filter_map f (x ∷ xs) ≡ filter_map f xs
    passed x xs e = rw e refl

pub one_taken : {A B : Type 0} (f : A → Option B) (h : List A) (k : ℕ) (x : A) (y : B) → k < length h → x ≡ get_or h k x → Some y ≡ f x → slice_get (filter_map f (drop k h)) 0 ≡ Some y
one_taken {A} f h k x y within at some = ap (λ (xs : List A). slice_get (filter_map f xs) 0) (drop-cons h k x within ∙ ap (λ (z : A). z ∷ drop (suc k) h) (sym at)) ∙ taken x (drop (suc k) h) (sym some)
  where
    taken : (x : A) (xs : List A) → f x ≡ Some y → slice_get (filter_map f (x ∷ xs)) 0 ≡ Some y
    taken x xs e = rw e refl

-- one more node is made
pub node_more : {A : Type 0} (g : ℕ → A) (ids : List ℕ) (k n : ℕ) (made made' : List A) (x : A) → k < length ids → n ≡ get_or ids k n → x ≡ g n → made' ≡ made ++ x ∷ [] → made ++ map g (drop k ids) ≡ map g ids
    → made' ++ map g (drop (k + 1) ids) ≡ map g ids
node_more {A} g ids k n made made' x within at is pushed all =
    ap (λ (xs : List A). xs ++ map g (drop (k + 1) ids)) (pushed ∙ ap (λ (y : A). made ++ y ∷ []) is)
    ∙ append_assoc made (g n ∷ []) (map g (drop (k + 1) ids))
    ∙ ap (λ (ns : List ℕ). made ++ map g ns) (sym (drop-cons ids k n within ∙ ap₂ (λ (m : ℕ) j. m ∷ drop j ids) (sym at) (next k)))
    ∙ all
  where
    next : (k : ℕ) → suc k ≡ k + 1
    next k = omega arith

-- ---- a node's numbers

factor_from : (h : List HeaderLine) (factor : ℕ) → IsFactor factor → All IsProperHeaderLine h → IsFactor (fold header_factor_step factor h)
factor_from [] factor f p = f
factor_from (l ∷ h) factor f p = factor_from h (header_factor_step factor l) (one l (All-head IsProperHeaderLine l h p)) (All-tail IsProperHeaderLine l h p)
  where
    one : (l : HeaderLine) → IsProperHeaderLine l → IsFactor (header_factor_step factor l)
    one (header.Factor named) q = record { some = omega (arith, q.0); limit = q.1 }
    one (header.Script version) q = f
    one (header.Node node rack) q = f
    one (header.Policy by) q = f

pub factor_fits : (h : List HeaderLine) → All IsProperHeaderLine h → IsFactor (declared_factor h)
factor_fits h p = factor_from h 1 (record { some = omega arith; limit = omega arith }) p

not_without : (ids : List ℕ) (n : ℕ) → Contains (without ids n) n → ⊥
not_without ids n h = gone ids (contains_has (without ids n) n h)
  where
    gone : (ids : List ℕ) → Has (without ids n) n → ⊥
    gone [] h = h
    gone (m ∷ ids) h = go (m == n) refl h (gone ids)
      where
        go : (b : Bool) → (m == n) ≡ b → Has (cond (not b) (m ∷ without ids n) (without ids n)) n → (Has (without ids n) n → ⊥) → ⊥
        go true t k rest = rest k
        go false t k rest = Rattle.std.proofs.Common.⊎_elim (λ same. let t' : (m == n) ≡ true = grind (arith, nat_tests, same) in differ (sym t ∙ t')) rest k
          where
            differ : false ≡ true → ⊥
            differ e = cc

fewer : (ids : List ℕ) (n : ℕ) → length (without ids n) ≤ length ids
fewer ids n = Rattle.cluster_types.proofs.DistinctLaws.length_without ids n

less : (ids : List ℕ) (n : ℕ) → Has ids n → length (without ids n) + 1 ≤ length ids
less [] n h = absurd h
less (m ∷ ids) n h = go (m == n) refl h (less ids n) (fewer ids n)
  where
    go : (b : Bool) → (m == n) ≡ b → Has (m ∷ ids) n → (Has ids n → length (without ids n) + 1 ≤ length ids) → length (without ids n) ≤ length ids
        → length (cond (not b) (m ∷ without ids n) (without ids n)) + 1 ≤ length (m ∷ ids)
    go true t h rest low = omega (arith, low)
    go false t (inl same) rest low = let t' : (m == n) ≡ true = grind (arith, nat_tests, same) in differ (sym t ∙ t')
      where
        differ : false ≡ true → length (m ∷ without ids n) + 1 ≤ length (m ∷ ids)
        differ e = cc
    go false t (inr later) rest low = let k : length (without ids n) + 1 ≤ length ids = rest later in omega (arith, k)

-- its peers, where it is one of the declared
pub are_peers : (ids : List ℕ) (n : ℕ) → IsNodeList ids → Has ids n → ArePeers n (without ids n)
are_peers ids n h has = record {
  limit = let low : length (without ids n) + 1 ≤ length ids = less ids n has in omega (arith, low, h.limit);
  others = not_without ids n;
}

-- an id of those in rising order is one of them
pub at_in_order : (ids : List ℕ) (k n : ℕ) → k < length (in_order nat_lt ids) → n ≡ get_or (in_order nat_lt ids) k n → Has ids n
at_in_order ids k n within is = in_order_has nat_lt ids n (subst (λ m. Has (in_order nat_lt ids) m) (sym is) (has_at (in_order nat_lt ids) k n within))

-- a declared node runs
pub declared_fresh : (h : Header) (n : ℕ) → Has (declared_nodes h) n → fresh n (declared_role h n) (without (declared_nodes h) n) (declared_factor h) (declared_policy h) ≡ declared h n
declared_fresh h n has =
    ap (λ b. record (fresh n (declared_role h n) (declared_peers h n) (declared_factor h) (declared_policy h)) { up = b }) (sym (test_has (declared_nodes h) n has))

-- a node that is made of these parts is the one that the header declares
pub node_made : (h : Header) (n : ℕ) (node : Planning) (role : Role) (peers all : List ℕ) (factor : ℕ) (by : Policy) → Has (declared_nodes h) n → node ≡ unplanned (fresh n role peers factor by)
    → role ≡ declared_role h n → peers ≡ without all n → all ≡ declared_nodes h → factor ≡ declared_factor h → by ≡ declared_policy h → node ≡ unplanned (declared h n)
node_made h n node role peers all factor by has made a b c d e =
    made
    ∙ ap (λ (r : Role). unplanned (fresh n r peers factor by)) a
    ∙ ap (λ (ps : List ℕ). unplanned (fresh n (declared_role h n) ps factor by)) (b ∙ ap (λ (ns : List ℕ). without ns n) c)
    ∙ ap (λ (k : ℕ). unplanned (fresh n (declared_role h n) (without (declared_nodes h) n) k by)) d
    ∙ ap (λ (p : Policy). unplanned (fresh n (declared_role h n) (without (declared_nodes h) n) (declared_factor h) p)) e
    ∙ ap unplanned (declared_fresh h n has)

-- ---- the first world

pub first_network : (net : nets.NetworkState) (ns : List ℕ) → net.sent ≡ 0 → net.flying ≡ [] → AreDivided net.groups (ns ∷ []) → IsNetwork net (Rattle.cluster_rules.specs.Network.silent ns)
first_network net ns sent flying divided = record {
  sent = sent;
  numbers = ap nets.flying_ids flying;
  postings = subst (λ (es : List (ℕ × Rattle.net_script.specs.declared.net.Flying.Flying)). All (λ e. Rattle.cluster_rules.specs.Network.posting_at (Rattle.cluster_rules.specs.Network.silent ns) e.0 ≡ Some (Rattle.world.specs.Stands.flying_posting e.1)) es) (sym flying) (All-nil (λ e. Rattle.cluster_rules.specs.Network.posting_at (Rattle.cluster_rules.specs.Network.silent ns) e.0 ≡ Some (Rattle.world.specs.Stands.flying_posting e.1)));
  groups = divided;
}

zeros : (f : ℕ → ℕ) (ids : List ℕ) → ((n : ℕ) → f n ≡ 0) → replicate (length ids) 0 ≡ map f ids
zeros f [] none = refl
zeros f (n ∷ ids) none = ap₂ (λ (x : ℕ) xs. x ∷ xs) (sym (none n)) (zeros f ids none)

images : (h : Header) (ids : List ℕ) → map (λ (x : Planning). x.now) (map (λ n. unplanned (declared h n)) ids) ≡ map (declared h) ids
images h [] = refl
images h (n ∷ ids) = ap (λ (fs : List Facts). declared h n ∷ fs) (images h ids)

pub first_run : (h : Header) → run_of_events h [] ≡ run_begun h
unfolding run_of_events
first_run h = refl

pub first_standing : (h : Header) → standing (run_of_events h []) ≡ opened h
unfolding run_of_events standing
first_standing h = refl

pub first_stands : (h : Header) (ids : List ℕ) (nodes : List Planning) (clocks : List ℕ) (net : nets.NetworkState) (entries : List (Option Entry))
    → ids ≡ in_order nat_lt (declared_nodes h) → nodes ≡ map (λ n. unplanned (declared h n)) ids → clocks ≡ replicate (length ids) 0
    → net.sent ≡ 0 → net.flying ≡ [] → AreDivided net.groups (declared_nodes h ∷ []) → Holds [] entries → Stands (standing (run_of_events h [])) ids nodes clocks net entries
first_stands h ids nodes clocks net entries rising made at_0 sent flying divided held =
    subst (λ w. Stands w ids nodes clocks net entries) (sym (first_standing h)) (record {
      declared = rising;
      facts = ap (map (λ (x : Planning). x.now)) made ∙ images h ids;
      times = at_0 ∙ zeros (λ n. 0) ids (λ n. refl);
      network = first_network net (declared_nodes h) sent flying divided;
      tables = held;
    })

pub first_fits : (h : Header) (sent : ℕ) (ls : List Line) → IsNodeList (declared_nodes h) → All IsProperHeaderLine h → ls ≡ header_lines h → IsWithin ls → sent ≡ 0 → FitsRun (run_of_events h []) sent ls
unfolding run_of_events run_lines
first_fits h sent ls nodes proper is within none = record {
  within = within;
  journal = is ∙ sym (append-nil (header_lines h));
  taken = record { header = proper; declared = nodes; allowed = tt; ranges = All-nil (λ (s : Rattle.cluster_rules.specs.Steps.Step). Rattle.run_laws.specs.Taken.IsProperEvent s.event); short = Rattle.std.proofs.Common.lit< tt };
  sent = subst (λ n. n ≤ length ls) (sym none) (omega arith);
}

-- ---- a world that is opened

pub opened_keeps : (v : Inside) (h : Header) → IsNodeList (declared_nodes h) → All IsProperHeaderLine h → v.header.items ≡ h → v.ledger.events.items ≡ [] → v.ledger.journal.lines ≡ header_lines h → IsWithin (header_lines h)
    → v.ids ≡ in_order nat_lt (declared_nodes h) → v.nodes.items ≡ map (λ n. unplanned (declared h n)) v.ids → v.clocks.items ≡ replicate (length v.ids) 0
    → v.net.sent ≡ 0 → v.net.flying ≡ [] → AreDivided v.net.groups (declared_nodes h ∷ []) → Holds [] v.client → Keeps v
opened_keeps v h nodes proper same none told within rising made at_0 sent flying divided held =
    let runs : run_of v ≡ run_of_events h [] = ap₂ run_of_events same none in
    record {
      stands = subst (λ (r : RunSoFar). Stands (standing r) v.ids v.nodes.items v.clocks.items v.net v.client) (sym runs)
          (first_stands h v.ids v.nodes.items v.clocks.items v.net v.client rising made at_0 sent flying divided held);
      fits = subst (λ (r : RunSoFar). FitsRun r v.net.sent v.ledger.journal.lines) (sym runs)
          (first_fits h v.net.sent v.ledger.journal.lines nodes proper told (subst IsWithin (sym told) within) sent);
    }
