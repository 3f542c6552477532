-- What the rows of all members tell, by the copies in their order and by the list of the partition.
use Rattle.std.proofs.Common.{◌≡◌, ◌≢◌, ℕ, ◌+◌, ◌<◌, ◌==◌, ◌&&◌, not, Bool, true, false, List, [], ◌∷◌, length, get_or, set, filter, None, Contains, inl, inr, refl, sym, ap, subst, ◌∙◌, arith}
use Rattle.std.specs.Prelude.{find, unwrap_or}
use Rattle.std.specs.List.{list_all}
use Rattle.std.proofs.lemmas.Bool.Decides.{nat_tests}
use Rattle.std.proofs.lemmas.List.{get_or-set_other, get_or-set_same}
use Rattle.cluster_types.specs.declared.copy_state.CopyState.{CopyState}
use Rattle.cluster_types.specs.declared.copy_state.CopyState.TheVariants.{Empty, Part, Whole}
use Rattle.cluster_types.specs.declared.cluster_key.ClusterKey.{ClusterKey}
use Rattle.cluster_types.specs.declared.member.Member.{Member}
use Rattle.cluster_types.specs.Distinct.{AreDistinct}
use Rattle.cluster_types.specs.Members.{ids_of}
use Rattle.cluster_types.specs.Partitions.{partition_count}
use Rattle.cluster_types.specs.StateRows.{state_of}
use Rattle.cluster_types.proofs.BoolFacts.{and_left as and_first, and_right as and_second, and_both as both, same_truth as same_test}
use Rattle.partition_lists.specs.Acting.{acting_by, is_empty, is_wholest_by, list_master}
use Rattle.partition_lists.specs.Classes.{asked_among, is_first_by, is_that, same_class_by, sends_by}
use Rattle.partition_lists.specs.Lists.{list, is_replica_of, replicas}
use Rattle.partition_lists.proofs.InOrderLaws.{Has, DifferBy, has_at, index_of, unequal, from_equal, equal, each_has, distinct_differ}
use Rattle.partition_lists.proofs.ListLaws.{list_contains}
use Rattle.node_rules.specs.declared.member_row.MemberRow.{MemberRow}
use Rattle.node_rules.specs.Map.{acting_by_rows, all_empty, row_state_at}
use Rattle.node_rules.specs.Tables.{contains}
use Rattle.partition_state.specs.Copies.{copies_at}
use Rattle.partition_state.proofs.CopyLaws.{states_are}
use Rattle.exchange.specs.declared.served.Served.{Served}
use Rattle.exchange.specs.Met as view
use Rattle.exchange.specs.Met.{Met, met}
use Rattle.exchange.specs.Rows.{ArePlaces, AreRowsOf, AreNextPlaces, row_nodes}
use Rattle.exchange.specs.Served.{AreServed, served_at, served_by}
use Rattle.exchange.proofs.PlaceLaws.{untold_state}

-- a node with the state of its copy
abbrev pub Copy : Type 0
Copy = ℕ × CopyState

empty_is : (s : CopyState) → is_empty s ≡ true → s ≡ Empty
empty_is Empty h = refl
empty_is Part h = absurd (let wrong : false ≡ true = h in cc)
empty_is (Whole key writes) h = absurd (let wrong : false ≡ true = h in cc)

-- ---- empty copies

-- where all copies are empty each node's is
empty_each : (copies : List Copy) → list_all (λ c. is_empty c.1) copies ≡ true → (n : ℕ) → state_of copies n ≡ Empty
empty_each [] h n = refl
empty_each (c ∷ copies) h n =
    go (c.0 == n) refl (empty_is c.1 (and_first (is_empty c.1) (list_all (λ x. is_empty x.1) copies) h)) (empty_each copies (and_second (is_empty c.1) (list_all (λ x. is_empty x.1) copies) h) n)
  where
    go : (b : Bool) → (c.0 == n) ≡ b → c.1 ≡ Empty → state_of copies n ≡ Empty → state_of (c ∷ copies) n ≡ Empty
    go true is here later = rw is here
    go false is here later = rw is later

all_by : (test : ℕ → Bool) (l : List ℕ) → ((n : ℕ) → test n ≡ true) → list_all test l ≡ true
all_by test [] h = refl
all_by test (n ∷ l) h = both (test n) (list_all test l) (h n) (all_by test l h)

of_all : (test : ℕ → Bool) (l : List ℕ) (n : ℕ) → list_all test l ≡ true → Has l n → test n ≡ true
of_all test [] n h found = absurd found
of_all test (m ∷ l) n h (inl same) = ap test (sym same) ∙ and_first (test m) (list_all test l) h
of_all test (m ∷ l) n h (inr later) = of_all test l n (and_second (test m) (list_all test l) h) later

none_found : (test : ℕ → Bool) (l : List ℕ) → ((n : ℕ) → test n ≡ false) → find test l ≡ None
none_found test [] h = refl
none_found test (n ∷ l) h = rw (h n) (none_found test l h)

not_wholest : (l : List ℕ) (state : ℕ → CopyState) (n : ℕ) → state n ≡ Empty → is_wholest_by l state n ≡ false
not_wholest l state n h = rw h refl

-- the list master acts where all copies are empty
pub acting_of_empty : (l : List ℕ) (copies : List Copy) → list_all (λ c. is_empty c.1) copies ≡ true → acting_by l (state_of copies) ≡ list_master l
acting_of_empty l copies h = ap (λ o. unwrap_or o (list_master l)) (none_found (is_wholest_by l (state_of copies)) l (λ n. not_wholest l (state_of copies) n (empty_each copies h n)))

-- ---- the copies of the rows, and those of the list

-- the copy of each row is that of its node, where no node has two rows
own_state : (rows : List MemberRow) (p : ℕ) → AreDistinct (row_nodes rows) → (r : MemberRow) → Has rows r → state_of (copies_at rows p) r.node ≡ state_of r.row p
own_state rows p distinct r found = go rows (distinct_differ (λ (x : MemberRow). x.node) rows distinct) found
  where
    go : (rs : List MemberRow) → DifferBy (λ (x : MemberRow). x.node) rs → Has rs r → state_of (copies_at rs p) r.node ≡ state_of r.row p
    go [] h here = absurd here
    go (x ∷ rs) h (inl same) = rw (equal x.node r.node (ap (λ (y : MemberRow). y.node) same)) (ap (λ (y : MemberRow). state_of y.row p) same)
    go (x ∷ rs) h (inr later) =
        let apart : r.node ≢ x.node = each_has (λ (y : MemberRow). y.node ≢ x.node) rs r h.0 later in
        rw (unequal x.node r.node (λ is. apart (sym is))) (go rs h.1 later)

all_rows : (rows : List MemberRow) (p : ℕ) → ((r : MemberRow) → Has rows r → is_empty (state_of r.row p) ≡ true) → list_all (λ c. is_empty c.1) (copies_at rows p) ≡ true
all_rows [] p h = refl
all_rows (r ∷ rows) p h = both (is_empty (state_of r.row p)) (list_all (λ c. is_empty c.1) (copies_at rows p)) (h r (inl refl)) (all_rows rows p (λ x found. h x (inr found)))

-- all copies of the rows are empty where all of the list's nodes are
pub empty_rows : (me : ℕ) (ms : List Member) (rows : List MemberRow) (room p : ℕ) → AreRowsOf me ms rows room
    → list_all (λ c. is_empty c.1) (copies_at rows p) ≡ all_empty (list ms p) rows p
empty_rows me ms rows room p h = same_test (list_all (λ c. is_empty c.1) (copies_at rows p)) (all_empty (list ms p) rows p) there back
  where
    there : list_all (λ c. is_empty c.1) (copies_at rows p) ≡ true → all_empty (list ms p) rows p ≡ true
    there all = all_by (λ n. is_empty (row_state_at rows p n)) (list ms p) (λ n. ap (λ (f : ℕ → CopyState). is_empty (f n)) (sym (states_are rows p)) ∙ ap is_empty (empty_each (copies_at rows p) all n))

    in_list : (r : MemberRow) → Has rows r → Has (list ms p) r.node
    in_list r found =
        let at = index_of rows r found in
        let member : Contains (ids_of ms) r.node = subst (λ (x : MemberRow). Contains (ids_of ms) x.node) (at.2 r) (h.listed at.0 r at.1) in
        let listed : Contains (list ms p) r.node = (list_contains ms p r.node).1 member in
        subst (Has (list ms p)) listed.2 (has_at (list ms p) listed.0 r.node listed.1)

    back : all_empty (list ms p) rows p ≡ true → list_all (λ c. is_empty c.1) (copies_at rows p) ≡ true
    back all =
        all_rows rows p
        (λ r found.
        ap is_empty (sym (own_state rows p h.distinct r found))
        ∙ ap (λ (f : ℕ → CopyState). is_empty (f r.node)) (states_are rows p)
        ∙ of_all (λ n. is_empty (row_state_at rows p n)) (list ms p) r.node all (in_list r found))

-- what the copies tell is what the rows tell
pub served_is : (me : ℕ) (ms : List Member) (rows : List MemberRow) (room p : ℕ) → AreRowsOf me ms rows room → served_by (list ms p) (copies_at rows p) ≡ served_at ms rows p
served_is me ms rows room p h =
    ap (λ (f : ℕ → CopyState). record { acting = acting_by (list ms p) f; all_empty = list_all (λ c. is_empty c.1) (copies_at rows p) }) (states_are rows p)
    ∙ ap (λ (b : Bool). record { acting = acting_by_rows (list ms p) rows p; all_empty = b }) (empty_rows me ms rows room p h)

-- ---- nothing is sent or asked where all copies are empty

none_at : (me : ℕ) (ms : List Member) (rows : List MemberRow) (room p : ℕ) → AreRowsOf me ms rows room → all_empty (list ms p) rows p ≡ true → (n : ℕ) → row_state_at rows p n ≡ Empty
none_at me ms rows room p h all n =
    ap (λ (f : ℕ → CopyState). f n) (sym (states_are rows p))
    ∙ empty_each (copies_at rows p) (empty_rows me ms rows room p h ∙ all) n

unsent : (l : List ℕ) (state : ℕ → CopyState) (from to : ℕ) → state from ≡ Empty → sends_by l state from to ≡ false
unsent l state from to h = rw h refl

pub nothing_sent : (me : ℕ) (ms : List Member) (rows : List MemberRow) (room p from to : ℕ) → AreRowsOf me ms rows room → all_empty (list ms p) rows p ≡ true → sends_by (list ms p) (row_state_at rows p) from to ≡ false
nothing_sent me ms rows room p from to h all = unsent (list ms p) (row_state_at rows p) from to (none_at me ms rows room p h all from)

not_first : (l : List ℕ) (state : ℕ → CopyState) (n : ℕ) → state n ≡ Empty → is_first_by l state n ≡ false
not_first l state n h = ap (λ o. is_that o n) (none_found (same_class_by state n) l (λ m. rw h refl))

none_kept : (test : ℕ → Bool) (l : List ℕ) → ((n : ℕ) → test n ≡ false) → filter test l ≡ []
none_kept test [] h = refl
none_kept test (n ∷ l) h = rw (h n) (none_kept test l h)

pub nobody_asked : (me : ℕ) (ms : List Member) (rows : List MemberRow) (room p by : ℕ) → AreRowsOf me ms rows room → all_empty (list ms p) rows p ≡ true → [] ≡ asked_among (list ms p) (row_state_at rows p) by
nobody_asked me ms rows room p by h all =
    sym (none_kept (λ n. is_first_by (list ms p) (row_state_at rows p) n && not (same_class_by (row_state_at rows p) by n)) (list ms p)
    (λ n. ap (λ b. b && not (same_class_by (row_state_at rows p) by n)) (not_first (list ms p) (row_state_at rows p) n (none_at me ms rows room p h all n))))

and_false : (a b c : Bool) → c ≡ false → false ≡ (a && (b && c))
and_false a b c h = rw h (go a b)
  where
    go : (x y : Bool) → false ≡ (x && (y && false))
    go true true = refl
    go true false = refl
    go false y = refl

all_three : (a b c answer : Bool) → a ≡ true → b ≡ true → answer ≡ c → answer ≡ (a && (b && c))
all_three a b c answer h i said = rw (h, i) said

-- nobody sends where all copies are empty
pub quiet_sends : (me factor : ℕ) (key : ClusterKey) (ms : List Member) (rows : List MemberRow) (room p from to : ℕ) (x : Met) → met me factor key ms rows true ≡ x → AreRowsOf me ms rows room
    → true ≡ all_empty (view.served_list x p) x.exchange.rows p
    → false ≡ view.met_sends_to x p from to
quiet_sends me factor key ms rows room p from to x is h =
    subst (λ (y : Met). true ≡ all_empty (view.served_list y p) y.exchange.rows p → false ≡ view.met_sends_to y p from to) is
    (λ empty. and_false (contains (replicas (list ms p) factor) to) (not (from == to)) (sends_by (list ms p) (row_state_at rows p) from to) (nothing_sent me ms rows room p from to h (sym empty)))

-- and otherwise a replica is sent to by another node as their copies tell
pub told_sends : (me factor : ℕ) (key : ClusterKey) (ms : List Member) (rows : List MemberRow) (p from to : ℕ) (l : List ℕ) (copies : List Copy) (answer : Bool) (x : Met) → met me factor key ms rows true ≡ x
    → l ≡ list ms p → copies ≡ copies_at x.exchange.rows p → is_replica_of to ms p factor ≡ true → not (from == to) ≡ true → answer ≡ sends_by l (state_of copies) from to → answer ≡ view.met_sends_to x p from to
told_sends me factor key ms rows p from to l copies answer x is l_is copies_are replica other said =
    subst (λ (y : Met). copies ≡ copies_at y.exchange.rows p → answer ≡ view.met_sends_to y p from to) is
    (λ here.
    all_three (contains (replicas (list ms p) factor) to) (not (from == to)) (sends_by (list ms p) (row_state_at rows p) from to) answer replica other
    (said ∙ ap (λ (k : List ℕ). sends_by k (state_of copies) from to) l_is ∙ ap (λ (f : ℕ → CopyState). sends_by (list ms p) f from to) (ap state_of here ∙ states_are rows p)))
    copies_are

-- nobody is asked where all copies are empty
pub quiet_asks : (me factor : ℕ) (key : ClusterKey) (ms : List Member) (rows : List MemberRow) (room p by : ℕ) (x : Met) → met me factor key ms rows true ≡ x → AreRowsOf me ms rows room
    → true ≡ all_empty (view.served_list x p) x.exchange.rows p → [] ≡ view.asked_by x p by
quiet_asks me factor key ms rows room p by x is h =
    subst (λ (y : Met). true ≡ all_empty (view.served_list y p) y.exchange.rows p → [] ≡ view.asked_by y p by) is
    (λ empty. nobody_asked me ms rows room p by h (sym empty))

pub told_asks : (me factor : ℕ) (key : ClusterKey) (ms : List Member) (rows : List MemberRow) (p by : ℕ) (l : List ℕ) (copies : List Copy) (answer : List ℕ) (x : Met) → met me factor key ms rows true ≡ x
    → l ≡ list ms p → copies ≡ copies_at x.exchange.rows p → answer ≡ asked_among l (state_of copies) by → answer ≡ view.asked_by x p by
told_asks me factor key ms rows p by l copies answer x is l_is copies_are said =
    subst (λ (y : Met). copies ≡ copies_at y.exchange.rows p → answer ≡ view.asked_by y p by) is
    (λ here. said ∙ ap (λ (k : List ℕ). asked_among k (state_of copies) by) l_is ∙ ap (λ (f : ℕ → CopyState). asked_among (list ms p) f by) (ap state_of here ∙ states_are rows p))
    copies_are

-- ---- what is filled in, partition by partition

same_served : (a b : ℕ) (x y : Bool) → a ≡ b → x ≡ y → ◌≡◌ {A = Served} (record { acting = a; all_empty = x }) (record { acting = b; all_empty = y })
same_served a b x y h i = rw (h, i) refl

pub empty_served : (l : List ℕ) (copies told : List Copy) (m : ℕ) (b : Bool) → told ≡ copies → m ≡ list_master l → b ≡ true → b ≡ list_all (λ c. is_empty c.1) told → ◌≡◌ {A = Served} (record { acting = m; all_empty = b }) (served_by l copies)
empty_served l copies told m b is m_is empty b_is =
    let all : b ≡ list_all (λ (c : Copy). is_empty c.1) copies = b_is ∙ ap (λ (cs : List Copy). list_all (λ (c : Copy). is_empty c.1) cs) is in
    same_served m (acting_by l (state_of copies)) b (list_all (λ (c : Copy). is_empty c.1) copies) (m_is ∙ sym (acting_of_empty l copies (sym all ∙ empty))) all

-- no row has an entry of the partition
pub untold_served : (ms : List Member) (rows : List MemberRow) (places : List ℕ) (p next m : ℕ) → p < next → ArePlaces p rows places → AreNextPlaces next rows places → m ≡ list_master (list ms p)
    → ◌≡◌ {A = Served} (record { acting = m; all_empty = true }) (served_by (list ms p) (copies_at rows p))
untold_served ms rows places p next m below read told m_is =
    empty_served (list ms p) (copies_at rows p) (copies_at rows p) m true refl m_is refl (sym (all_rows rows p empty))
  where
    empty : (r : MemberRow) → Has rows r → is_empty (state_of r.row p) ≡ true
    empty r found =
        let at = index_of rows r found in
        ap is_empty (subst (λ (x : MemberRow). state_of x.row p ≡ Empty) (at.2 r) (untold_state rows places p next at.0 r below read told at.1))

pub told_served : (ms : List Member) (rows : List MemberRow) (p i : ℕ) (copies : List Copy) (s : Served) → s ≡ served_by (list ms p) copies → copies ≡ copies_at rows p → p ≡ i → s ≡ served_by (list ms i) (copies_at rows i)
told_served ms rows p i copies s said copies_are is =
    said ∙ ap (λ (cs : List Copy). served_by (list ms p) cs) copies_are ∙ ap (λ (k : ℕ). served_by (list ms k) (copies_at rows k)) is

pub next_served : (ms : List Member) (rows : List MemberRow) (room next : List Served) (i : ℕ) (s : Served) → i < length room → next ≡ set room i s → s ≡ served_by (list ms i) (copies_at rows i)
    → ((p : ℕ) (d : Served) → p < i → get_or room p d ≡ served_by (list ms p) (copies_at rows p)) → (p : ℕ) (d : Served) → p < i + 1 → get_or next p d ≡ served_by (list ms p) (copies_at rows p)
next_served ms rows room next i s fits next_is s_is done p d below = ap (λ (xs : List Served). get_or xs p d) next_is ∙ go (p == i) refl
  where
    go : (b : Bool) → (p == i) ≡ b → get_or (set room i s) p d ≡ served_by (list ms p) (copies_at rows p)
    go true same =
        let at : p ≡ i = from_equal p i same in
        ap (λ k. get_or (set room i s) k d) at ∙ get_or-set_same room i s d fits ∙ s_is ∙ ap (λ (k : ℕ). served_by (list ms k) (copies_at rows k)) (sym at)
    go false apart =
        let other : p ≢ i = λ same. (let wrong : true ≡ false = sym (equal p i same) ∙ apart in cc) in
        let less : p < i = grind (arith, nat_tests, apart, below) in
        get_or-set_other room i p s d other ∙ done p d less

pub filled : (me : ℕ) (ms : List Member) (rows told : List MemberRow) (served : List Served) (room : ℕ) → AreRowsOf me ms rows room → told ≡ rows → length served ≡ partition_count
    → ((p : ℕ) (d : Served) → p < partition_count → get_or served p d ≡ served_by (list ms p) (copies_at told p)) → AreServed ms rows served
filled me ms rows told served room h is size at = record {
  size = size;
  at = λ p d below. at p d below ∙ ap (λ (rs : List MemberRow). served_by (list ms p) (copies_at rs p)) is ∙ served_is me ms rows room p h;
}
