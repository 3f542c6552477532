-- Why a node has no map, and whether it is at rest.
use Rattle.std.proofs.Common.{◌≡◌, ℕ, Bool, true, false, ◌&&◌, not, List, [], ◌∷◌, Option, Some, None, is_some, map, refl, sym, ap, ◌∙◌, if◌then◌else◌}
use Rattle.std.proofs.lemmas.Bool.{and_left, and_right}
use Rattle.cluster_types.specs.Partitions.{partition_count}
use Rattle.journal_lines.specs.declared.refusal.Refusal.TheVariants as refusal
use Rattle.node_rules.specs.Copies.{is_nil}
use Rattle.node_rules.specs.Exchange as exchange
use Rattle.node_rules.specs.Exchange.{first_missing, members_of}
use Rattle.node_rules.specs.Facts.{Facts}
use Rattle.node_rules.specs.Requests.{exchange_refusal, map_refusal, view_refusal}
use Rattle.node_rules.specs.Standing.{has_nothing_to_learn_or_drop, is_at_rest, knows_all_settled}

-- ---- the map

pub refused_outside : (f : Facts) → f.up ≡ true → is_some f.exchange.view ≡ false → Some refusal.NoView ≡ map_refusal f
refused_outside f up none = sym (ap (λ (holds : Bool). if holds then view_refusal f f.exchange.view else Some refusal.Down) up ∙ go f.exchange.view none)
  where
    go : (o : Option exchange.View) → is_some o ≡ false → view_refusal f o ≡ Some refusal.NoView
    go None e = refl
    go (Some v) e = cc

-- a node that is up and in a view waits for that row, or for none
pub refused_waiting : (f : Facts) (o : Option ℕ) → f.up ≡ true → is_some f.exchange.view ≡ true → first_missing f.exchange.rows (members_of f.exchange.view) ≡ o
    → exchange_refusal o ≡ map_refusal f
refused_waiting f o up some missing = sym (ap (λ (holds : Bool). if holds then view_refusal f f.exchange.view else Some refusal.Down) up ∙ go f.exchange.view some missing)
  where
    go : (v : Option exchange.View) → is_some v ≡ true → first_missing f.exchange.rows (members_of v) ≡ o → view_refusal f v ≡ exchange_refusal o
    go None no_way e = cc
    go (Some v) is e = ap exchange_refusal e

-- a node that has a map runs
pub mapped_is_up : (f : Facts) → None ≡ map_refusal f → f.up ≡ true
mapped_is_up f none = go f.up none
  where
    go : (b : Bool) → None ≡ (if b then view_refusal f f.exchange.view else Some refusal.Down) → b ≡ true
    go true e = refl
    go false e = cc

-- ---- rest

-- without transactions, as the code asks and as the rules do
pub nil_kept : {X Y : Type 0} (g : X → Y) (xs : List X) (ys : List Y) (b : Bool) → ys ≡ map g xs → ((b ≡ true → ys ≡ []) × (ys ≡ [] → b ≡ true)) → b ≡ is_nil xs
nil_kept g [] ys b same tells = tells.1 same
nil_kept g (x ∷ xs) ys true same tells = let wrong : g x ∷ map g xs ≡ [] = sym same ∙ tells.0 refl in cc
nil_kept g (x ∷ xs) ys false same tells = refl

-- one that has a map, knows each partition settled and has no transaction is at rest where it has nothing to learn or drop
pub rests_by : (f : Facts) (has_work : Bool) → f.up ≡ true → f.exchange.exchanged ≡ true → knows_all_settled f partition_count 0 ≡ true → is_nil f.transactions.running ≡ true
    → has_work ≡ not (has_nothing_to_learn_or_drop f partition_count 0) → not has_work ≡ (f.up && is_at_rest f)
rests_by f has_work up exchanged known free work =
    by_tests f.up f.exchange.exchanged (knows_all_settled f partition_count 0) (has_nothing_to_learn_or_drop f partition_count 0) (is_nil f.transactions.running) up exchanged known free work
  where
    twice : (b : Bool) → not (not b) ≡ (b && true)
    twice true = refl
    twice false = refl

    by_tests : (a b c none d : Bool) → a ≡ true → b ≡ true → c ≡ true → d ≡ true → has_work ≡ not none → not has_work ≡ (a && (b && (c && (none && d))))
    by_tests a b c none d i j k l m = rw (i, j, k, l, m) (twice none)

-- one with a transaction isn't
pub busy_restless : (f : Facts) → is_nil f.transactions.running ≡ false → false ≡ (f.up && is_at_rest f)
busy_restless f busy =
    let nothing : Bool = has_nothing_to_learn_or_drop f partition_count 0 in
    sym (and_right f.up _ (and_right f.exchange.exchanged _ (and_right (knows_all_settled f partition_count 0) _ (and_right nothing _ busy))))

-- nor one that knows a partition unsettled
pub unsettled_restless : (f : Facts) → knows_all_settled f partition_count 0 ≡ false → false ≡ (f.up && is_at_rest f)
unsettled_restless f unknown = sym (and_right f.up _ (and_right f.exchange.exchanged _ (and_left (knows_all_settled f partition_count 0) _ unknown)))

-- nor one that hasn't finished the exchange
pub restless : (f : Facts) → (f.up && f.exchange.exchanged) ≡ false → false ≡ (f.up && is_at_rest f)
restless f h = go f.up f.exchange.exchanged (knows_all_settled f partition_count 0 && (has_nothing_to_learn_or_drop f partition_count 0 && is_nil f.transactions.running)) h
  where
    go : (a b rest : Bool) → (a && b) ≡ false → false ≡ (a && (b && rest))
    go true true rest e = cc
    go true false rest e = refl
    go false b rest e = refl
