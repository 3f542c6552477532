-- What is pending in rounds of calm is of records that were held, or of transactions that were open, as they began.
use Rattle.std.proofs.Common.{◌≡◌, ◌⊎◌, inl, inr, ℕ, zero, suc, ◌+◌, ◌-◌, ◌≤◌, ◌==◌, ◌||◌, Bool, true, false, List, [], ◌∷◌, ◌++◌, map, length, Option, Some, None, is_some, refl, sym, ap, subst, ◌∙◌, append-nil, append_assoc, arith, length-append}
use Rattle.std.specs.FinMap as finite
use Rattle.std.specs.FinMap.{contains_key-keys, len-entries}
use Rattle.std.specs.Prelude.{bytes_eq}
use Rattle.std.specs.List.{AllByRecursion, list_any, sum_by}
use Rattle.std.specs.Cmp.Lexicographic.{slice_cmp}
use Rattle.std.specs.Ordering.{is_eq, nat_cmp}
use Rattle.std.specs.declared.cmp.Ordering.TheVariants.{Less}
use Rattle.std.proofs.lemmas.Cmp.{nat_list_cmp_total, tied_itself}
use Rattle.std.proofs.lemmas.Grind.{flat_map-append}
use Rattle.std.proofs.lemmas.List.Elements.{filter_map-append}
use Rattle.std.proofs.lemmas.List.Sums.{sum_by-cons}
use Rattle.conflict_order.specs.declared.policy.Policy.{Policy}
use Rattle.conflict_order.specs.declared.version.Version.{Version}
use Rattle.conflict_order.specs.Join.{AtMost}
use Rattle.conflict_order.proofs.OrderLaws.{AtMost_antisymm, AtMost_none}
use Rattle.cluster_types.specs.Partitions.{partition_count}
use Rattle.journal_lines.specs.declared.line.Line.{Line}
use Rattle.journal_lines.specs.declared.line.Line.TheVariants as line
use Rattle.journal_readings.specs.Contents.{applied, applied_step, joined_if}
use Rattle.journal_readings.specs.Lines.{has_node}
use Rattle.journal_readings.proofs.CopyLaws.{same_digest_is}
use Rattle.journal_readings.proofs.StepLaws.{applied-more}
use Rattle.node_rules.specs.Copies.{Content}
use Rattle.node_rules.specs.Exchange.{View}
use Rattle.node_rules.specs.Facts.{Facts}
use Rattle.node_rules.specs.Transactions.{Transaction}
use Rattle.cluster_rules.specs.CalmBound.{open_transactions, records_held}
use Rattle.cluster_rules.specs.Marks.{Begins, Mark, Writes, line_in, lines_among}
use Rattle.cluster_rules.specs.Opening.{Header, declared_nodes}
use Rattle.cluster_rules.specs.Steps.{Step, all_marks, marks_of, round, rounds}
use Rattle.cluster_rules.specs.World.{World}
use Rattle.cluster_rules.proofs.MarkLaws.{rounds_follow}
use Rattle.cluster_laws.specs.Ground.{Ground}
use Rattle.cluster_laws.proofs.At.{differ, digests, number_same}
use Rattle.cluster_laws.proofs.Settled.{no_loss}
use Rattle.run_laws.specs.Fronts.{Front, front_after, front_after_all, facts_at, world_of}
use Rattle.run_laws.specs.LineOk.{Goes, LineOk}
use Rattle.run_laws.specs.Ranges as ranges
use Rattle.run_laws.specs.Taken.{Taken, first, ground_of}
use Rattle.run_laws.specs.Tied.{Among}
use Rattle.run_laws.specs.Worlds.{world_after}
use Rattle.run_laws.proofs.Grounded.{entered_view}
use Rattle.run_laws.proofs.Journal.{world_all}
use Rattle.run_laws.proofs.Tables as tables
use Rattle.calm_laws.specs.Flows.{world_at}
use Rattle.calm_laws.specs.Handing.{AtMostPending}
use Rattle.calm_laws.specs.Onward.{MayTake}
use Rattle.calm_laws.proofs.Flow.{among_behind, among_front}
use Rattle.calm_laws.proofs.Footed.{world_on}
use Rattle.calm_laws.proofs.Fronts.{facts_are, front_of, known}
use Rattle.calm_laws.proofs.History.{Pictured, goes_behind, goes_front, pictured}
use Rattle.calm_laws.proofs.Onward.{may_here}
use Rattle.calm_laws.proofs.Parted.{nodes_are}
use Rattle.calm_laws.proofs.Premises.{to_front}
use Rattle.calm_laws.proofs.Provided.{held_there, ranged_there, rests_there}
use Rattle.calm_laws.proofs.Shrinking.{AllRunOn, MarksOpenOn, found_among, line_runs, quiet_on, rounds_quiet}
use Rattle.calm_laws.proofs.Stretch.{may_at}

-- ---- more items than places

-- the list without one of its items
abbrev dropped : (d : List ℕ) (ds : List (List ℕ)) → Among ds d → List (List ℕ)
dropped d [] h = []
dropped d (e ∷ es) (inl s) = es
dropped d (e ∷ es) (inr h) = e ∷ dropped d es h

one_less : (d : List ℕ) (ds : List (List ℕ)) (h : Among ds d) → suc (length (dropped d ds h)) ≡ length ds
one_less d [] h = absurd h
one_less d (e ∷ es) (inl s) = refl
one_less d (e ∷ es) (inr h) = ap suc (one_less d es h)

left_in : (d c : List ℕ) (ds : List (List ℕ)) (h : Among ds d) → (d ≡ c → ⊥) → Among ds c → Among (dropped d ds h) c
left_in d c [] h apart i = absurd i
left_in d c (e ∷ es) (inl s) apart (inl t) = absurd (apart (sym s ∙ t))
left_in d c (e ∷ es) (inl s) apart (inr i) = i
left_in d c (e ∷ es) (inr h) apart (inl t) = inl t
left_in d c (e ∷ es) (inr h) apart (inr i) = inr (left_in d c es h apart i)

below_apart : (d c : List ℕ) (ds : List (List ℕ)) → AllByRecursion (λ (e : List ℕ). slice_cmp nat_cmp d e ≡ Less) ds → Among ds c → d ≡ c → ⊥
below_apart d c [] h i s = absurd i
below_apart d c (e ∷ es) h (inl t) s = not_below d (subst (λ (x : List ℕ). slice_cmp nat_cmp d x ≡ Less) (t ∙ sym s) h.0)
  where
    not_below : (d : List ℕ) → slice_cmp nat_cmp d d ≡ Less → ⊥
    not_below d l = differ (ap is_eq (tied_itself nat_list_cmp_total d)) (ap is_eq l)
below_apart d c (e ∷ es) h (inr i) s = below_apart d c es h.1 i s

fit_in : (ds ws : List (List ℕ)) → ranges.RisesByDigest ds → ((d : List ℕ) → Among ds d → Among ws d) → length ds ≤ length ws
fit_in [] ws r h = omega arith
fit_in (d ∷ ds) ws r h =
    omega (arith, one_less d ws (h d (inl refl)), fit_in ds (dropped d ws (h d (inl refl))) r.1 (λ c i. left_in d c ws (h d (inl refl)) (below_apart d c ds r.0 i) (h c (inr i))))

-- ---- what the nodes hold, and what is open at them

abbrev digests_of : Facts → List (List ℕ)
digests_of f = finite.keys f.store.content ++ map (λ (y : Transaction). y.digest) f.transactions.running

abbrev digests_in : World → List ℕ → List (List ℕ)
digests_in w [] = []
digests_in w (n ∷ ns) = digests_of (w.facts n) ++ digests_in w ns

map_length : {A B : Type 0} (f : A → B) (xs : List A) → length (map f xs) ≡ length xs
map_length f [] = refl
map_length f (x ∷ xs) = ap suc (map_length f xs)

keys_length : (c : Content) → length (finite.keys c) ≡ finite.len c
keys_length c = map_length (λ (e : List ℕ × Version). e.0) (finite.entries c) ∙ sym (len-entries c)

counted : (w : World) (ns : List ℕ) → length (digests_in w ns) ≡ sum_by (λ n. finite.len (w.facts n).store.content) ns + sum_by (λ n. length (w.facts n).transactions.running) ns
counted w [] = omega arith
counted w (n ∷ ns) = omega (
  arith,
  length-append (digests_of (w.facts n)) (digests_in w ns),
  length-append (finite.keys (w.facts n).store.content) (map (λ (y : Transaction). y.digest) (w.facts n).transactions.running),
  keys_length (w.facts n).store.content,
  map_length (λ (y : Transaction). y.digest) (w.facts n).transactions.running,
  counted w ns,
  sum_by-cons (λ (n : ℕ). finite.len (w.facts n).store.content) n ns,
  sum_by-cons (λ (n : ℕ). length (w.facts n).transactions.running) n ns,
)

-- of one of the nodes
in_digests : (w : World) (ns : List ℕ) (n : ℕ) (d : List ℕ) → has_node ns n ≡ true → Among (digests_of (w.facts n)) d → Among (digests_in w ns) d
in_digests w [] n d e h = differ e refl
in_digests w (x ∷ ns) n d e h = go (x == n) refl e (in_digests w ns n d)
  where
    same : (x == n) ≡ true → x ≡ n
    same i = number_same x n i

    go : (b : Bool) → (x == n) ≡ b → (b || has_node ns n) ≡ true → (has_node ns n ≡ true → Among (digests_of (w.facts n)) d → Among (digests_in w ns) d) → Among (digests_of (w.facts x) ++ digests_in w ns) d
    go true i z rest = among_front d (digests_of (w.facts x)) (digests_in w ns) (subst (λ (m : ℕ). Among (digests_of (w.facts m)) d) (sym (same i)) h)
    go false i z rest = among_behind d (digests_of (w.facts x)) (digests_in w ns) (rest z h)

any_among : (ds : List (List ℕ)) (d : List ℕ) → list_any (λ (e : List ℕ). bytes_eq e d) ds ≡ true → Among ds d
any_among [] d e = differ e refl
any_among (x ∷ ds) d e = go (bytes_eq x d) refl e (any_among ds d)
  where
    go : (b : Bool) → bytes_eq x d ≡ b → (b || list_any (λ (e : List ℕ). bytes_eq e d) ds) ≡ true → (list_any (λ (e : List ℕ). bytes_eq e d) ds ≡ true → Among ds d) → Among (x ∷ ds) d
    go true i z rest = inl (digests.same x d i)
    go false i z rest = inr (rest z)

held_among : (f : Facts) (d : List ℕ) → is_some (finite.get f.store.content d) ≡ true → Among (digests_of f) d
held_among f d e = among_front d (finite.keys f.store.content) _ (any_among (finite.keys f.store.content) d (sym (tables.tests_same (finite.keys f.store.content) d) ∙ sym (contains_key-keys f.store.content d) ∙ e))

run_among : (ts : List Transaction) (y : Transaction) → Among ts y → Among (map (λ (x : Transaction). x.digest) ts) y.digest
run_among [] y i = absurd i
run_among (x ∷ ts) y (inl e) = inl (ap (λ (z : Transaction). z.digest) e)
run_among (x ∷ ts) y (inr i) = inr (run_among ts y i)

-- ---- lines that apply

abbrev AppliesOn : (List ℕ → Type 0) → Line → Type 0
AppliesOn S (line.Apply n k t d v) = S d
AppliesOn S l = Unit {0}

abbrev EachApplies : (List ℕ → Type 0) → List Line → Type 0
EachApplies S [] = Unit {0}
EachApplies S (l ∷ ls) = AppliesOn S l × EachApplies S ls

applies_run : (G : Ground) (S : List ℕ → Type 0) (z : Front) (l : Line) → LineOk G z l → AllRunOn S (world_of z) → AppliesOn S l
applies_run G S z (line.Apply n k t d v) ok r = subst S ok.1.resolves.digest (r n ok.1.item (found_among (facts_at z n).transactions.running t ok.1.item ok.1.resolves.running))
applies_run G S z l ok r = tt

each_applies : (G : Ground) (S : List ℕ → Type 0) (z : Front) (ms : List Mark) → Goes G z ms → MarksOpenOn S ms → AllRunOn S (world_of z) → EachApplies S (lines_among ms)
each_applies G S z [] g q r = tt
each_applies G S z (Begins e ∷ ms) g q r = each_applies G S (front_after z (Begins e)) ms g q r
each_applies G S z (Writes l ∷ ms) g q r = (applies_run G S z l g.1 r, each_applies G S (front_after z (Writes l)) ms g.2 q.1 (line_runs S (world_of z) l q.0 r))

step_applied : (S : List ℕ → Type 0) (by : Policy) (d : List ℕ) (o : Option Version) (l : Line) → AppliesOn S l → is_some (applied_step by d o l) ≡ true → (is_some o ≡ true) ⊎ S d
step_applied S by d o (line.Apply n k t e v) h i = go (bytes_eq e d) refl i
  where
    go : (b : Bool) → bytes_eq e d ≡ b → is_some (joined_if b by o v) ≡ true → (is_some o ≡ true) ⊎ S d
    go true s j = inr (subst S (same_digest_is e d s) h)
    go false s j = inl j
step_applied S by d o l h i = inl i

-- whatever was applied at the end was applied before, or one of these lines applied it
applied_since : (S : List ℕ → Type 0) (by : Policy) (d : List ℕ) (j ls : List Line) → EachApplies S ls → is_some (applied by d (j ++ ls)) ≡ true → (is_some (applied by d j) ≡ true) ⊎ S d
applied_since S by d j [] h i = inl (subst (λ (k : List Line). is_some (applied by d k) ≡ true) (append-nil j) i)
applied_since S by d j (l ∷ ls) h i = go (applied_since S by d (j ++ l ∷ []) ls h.1 (subst (λ (k : List Line). is_some (applied by d k) ≡ true) (sym (append_assoc j (l ∷ []) ls)) i))
  where
    go : (is_some (applied by d (j ++ l ∷ [])) ≡ true) ⊎ S d → (is_some (applied by d j) ≡ true) ⊎ S d
    go (inl k) = step_applied S by d (applied by d j) l h.0 (ap is_some (sym (applied-more by d j l)) ∙ k)
    go (inr k) = inr k

-- ---- a world

some_of : (o : Option Version) → is_some o ≡ true → (v : Version) × (o ≡ Some v)
some_of None e = differ e refl
some_of (Some v) e = (v, refl)

-- what a node holds was applied
held_applied : (G : Ground) (ns : List ℕ) (j : List Line) (w : World) (p : Pictured G ns j w) (m : ℕ) (d : List ℕ) → is_some (finite.get (w.facts m).store.content d) ≡ true → is_some (applied G.by d j) ≡ true
held_applied G ns j w p m d e = ap is_some (p.told.applied d) ∙ go (p.picture.applied d) refl
  where
    holds : is_some ((p.picture.node m).content d) ≡ true
    holds = ap is_some ((p.tied.nodes m).seen.content d) ∙ ap (λ (u : World). is_some (finite.get (u.facts m).store.content d)) p.world ∙ e

    go : (o : Option Version) → p.picture.applied d ≡ o → is_some o ≡ true
    go (Some v) i = refl
    go None i = differ holds (ap is_some (AtMost_antisymm {by = G.by} (subst (AtMost G.by ((p.picture.node m).content d)) i (p.told.sound.applied m d)) (AtMost_none {by = G.by} ((p.picture.node m).content d))))

-- and what was applied some declared node holds
applied_held : (G : Ground) (ns : List ℕ) (j : List Line) (w : World) (p : Pictured G ns j w) (d : List ℕ) → is_some (applied G.by d j) ≡ true → (n : ℕ) × (has_node ns n ≡ true) × (is_some (finite.get (w.facts n).store.content d) ≡ true)
applied_held G ns j w p d e =
    let o : (v : Version) × (p.picture.applied d ≡ Some v) = some_of (p.picture.applied d) (ap is_some (sym (p.told.applied d)) ∙ e) in
    let x : (n : ℕ) × ((p.picture.node n).content d ≡ Some o.0) = no_loss G p.picture p.told.sound d o.0 o.1 in
    (x.0, p.told.holders x.0 d o.0 x.1, ap (λ (u : World). is_some (finite.get (u.facts x.0).store.content d)) (sym p.world) ∙ ap is_some (sym ((p.tied.nodes x.0).seen.content d) ∙ x.1))

-- who has an open transaction is declared
runs_declared : {w : World} (may : MayTake w []) (n : ℕ) (y : Transaction) → Among (w.facts n).transactions.running y → has_node w.nodes n ≡ true
runs_declared {w} may n y i = subst (λ (ns : List ℕ). has_node ns n ≡ true) (sym (nodes_are may)) (go (facts_at (front_of may) n).exchange.view refl)
  where
    same : facts_at (front_of may) n ≡ w.facts n
    same = facts_are may n

    none : (ts : List Transaction) → ts ≡ [] → Among ts y → ⊥
    none [] e i = i
    none (t ∷ ts) e i = cc

    go : (o : Option View) → (facts_at (front_of may) n).exchange.view ≡ o → has_node (declared_nodes may.header) n ≡ true
    go None e = absurd (none (w.facts n).transactions.running ((rests_there may n).idle (ap (λ (f : Facts). f.exchange.view) (sym same) ∙ e)) i)
    go (Some v) e = let x = entered_view (front_of may) n v (known may).lawful.sound e in (known may).peopled.lists v.key v.members n x.list x.among

-- ---- rounds

lines_parts : (ss ts : List Step) → lines_among (all_marks (ss ++ ts)) ≡ lines_among (all_marks ss) ++ lines_among (all_marks ts)
lines_parts ss ts = ap lines_among (flat_map-append marks_of ss ts) ∙ filter_map-append line_in (all_marks ss) (all_marks ts)

module _ (h : Header) (ss run more : List Step) (w u : World) (leads : world_after h ss ≡ w) (ends : world_after h (ss ++ run) ≡ u) (t : Taken h (ss ++ (run ++ more)))
    (S : List ℕ → Type 0) (opens : MarksOpenOn S (all_marks run)) (runs : AllRunOn S w) (holds : (n : ℕ) (d : List ℕ) → has_node (declared_nodes h) n ≡ true → is_some (finite.get (w.facts n).store.content d) ≡ true → S d) where
  abbrev G : Ground
  G = ground_of h (ss ++ (run ++ more))

  here : Pictured G (declared_nodes h) (lines_among (all_marks ss)) w
  here = subst (λ (v : World). Pictured G (declared_nodes h) (lines_among (all_marks ss)) v) leads (pictured h ss (run ++ more) t)

  there : Pictured G (declared_nodes h) (lines_among (all_marks (ss ++ run))) u
  there =
      subst (λ (v : World). Pictured G (declared_nodes h) (lines_among (all_marks (ss ++ run))) v) ends
      (subst (λ (xs : List Step). Pictured (ground_of h xs) (declared_nodes h) (lines_among (all_marks (ss ++ run))) (world_after h (ss ++ run))) (append_assoc ss run more)
      (pictured h (ss ++ run) more (subst (λ (xs : List Step). Taken h xs) (sym (append_assoc ss run more)) t)))

  lines : EachApplies S (lines_among (all_marks run))
  lines = each_applies G S (front_after_all (first h) (all_marks ss)) (all_marks run)
      (goes_front G (front_after_all (first h) (all_marks ss)) (all_marks run) (all_marks more) (subst (Goes G (front_after_all (first h) (all_marks ss))) (flat_map-append marks_of run more) (goes_behind h ss (run ++ more) t)))
      opens (subst (AllRunOn S) (sym (world_all (first h) (all_marks ss) ∙ leads)) runs)

  -- what a node holds after these steps some node held before them, or a transaction was open on it
  witnessed : (m : ℕ) (d : List ℕ) → is_some (finite.get (u.facts m).store.content d) ≡ true → S d
  witnessed m d e = go (applied_since S G.by d (lines_among (all_marks ss)) (lines_among (all_marks run)) lines
      (subst (λ (j : List Line). is_some (applied G.by d j) ≡ true) (lines_parts ss run) (held_applied G (declared_nodes h) (lines_among (all_marks (ss ++ run))) u there m d e)))
    where
      go : (is_some (applied G.by d (lines_among (all_marks ss))) ≡ true) ⊎ S d → S d
      go (inl a) = let x = applied_held G (declared_nodes h) (lines_among (all_marks ss)) w here d a in holds x.0 d x.1 x.2
      go (inr a) = a

rounds_parts : (n k rest : ℕ) (w : World) → (rounds n (k + rest) w).steps ≡ (rounds n k w).steps ++ (rounds n rest (world_at n w k)).steps
unfolding rounds
rounds_parts n zero rest w = ap (λ (j : ℕ). (rounds n j w).steps) (none rest)
  where
    none : (r : ℕ) → 0 + r ≡ r
    none r = omega arith
rounds_parts n (suc k) rest w =
    ap (λ (j : ℕ). (rounds n j w).steps) (more k rest)
    ∙ ap (λ (ss : List Step). (round n w).steps ++ ss) (rounds_parts n k rest (round n w).world)
    ∙ sym (append_assoc (round n w).steps (rounds n k (round n w).world).steps (rounds n rest (world_at n (round n w).world k)).steps)
  where
    more : (a b : ℕ) → suc a + b ≡ suc (a + b)
    more a b = omega arith

-- no more is pending to one node after rounds than were the records held and the transactions open as they began
pub few_pending : (w : World) (k most : ℕ) → k ≤ most → MayTake w (rounds partition_count most w).steps → (gs : List ℕ) → AtMostPending (records_held w + open_transactions w) gs (world_at partition_count w k)
few_pending w k most le may gs m e t i =
    subst (λ (x : ℕ). length t.pending ≤ x) (counted w w.nodes)
    (fit_in t.pending (digests_in w w.nodes) ((ranged_there later m).each_target t (to_front t _ i)).rises
    (λ d j. witnessed may.header may.before (rounds partition_count k w).steps (rounds partition_count (most - k) (world_at partition_count w k)).steps w (world_at partition_count w k) may.leads (world_on may.header may.before w (rounds partition_count k w) (rounds_follow partition_count k w) may.leads) taken
    (λ (c : List ℕ). Among (digests_in w w.nodes) c)
    (quiet_on (λ (c : List ℕ). Among (digests_in w w.nodes) c) (all_marks (rounds partition_count k w).steps) (rounds_quiet partition_count k w)) runs holds m d (held_there later gs m e t i d j)))
  where
    start : MayTake w []
    start = may_here w _ may

    later : MayTake (world_at partition_count w k) []
    later = may_at w most may k le

    again : most ≡ k + (most - k)
    again = omega (arith, le)

    taken : Taken may.header (may.before ++ ((rounds partition_count k w).steps ++ (rounds partition_count (most - k) (world_at partition_count w k)).steps))
    taken = subst (λ (ss : List Step). Taken may.header (may.before ++ ss)) (ap (λ (j : ℕ). (rounds partition_count j w).steps) again ∙ rounds_parts partition_count k (most - k) w) may.taken

    runs : AllRunOn (λ (d : List ℕ). Among (digests_in w w.nodes) d) w
    runs n y i = in_digests w w.nodes n y.digest (runs_declared start n y i) (among_behind y.digest (finite.keys (w.facts n).store.content) _ (run_among (w.facts n).transactions.running y i))

    holds : (n : ℕ) (d : List ℕ) → has_node (declared_nodes may.header) n ≡ true → is_some (finite.get (w.facts n).store.content d) ≡ true → Among (digests_in w w.nodes) d
    holds n d x j = in_digests w w.nodes n d (subst (λ (ns : List ℕ). has_node ns n ≡ true) (sym (nodes_are may)) x) (held_among (w.facts n) d j)
