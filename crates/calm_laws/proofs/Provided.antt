-- What the phases behind agreement stand on, in a world that taken steps lead to.
use Rattle.std.proofs.Common.{◌≡◌, ◌⊎◌, inl, inr, ℕ, ◌==◌, not, Bool, true, false, List, [], ◌∷◌, map, Option, Some, None, is_none, refl, sym, ap, subst, ◌∙◌}
use Rattle.std.specs.Prelude.{find, if◌then◌else◌, option_map, unwrap_or}
use Rattle.cluster_types.specs.declared.cluster_key.ClusterKey.{ClusterKey}
use Rattle.cluster_types.specs.declared.member.Member.{Member}
use Rattle.cluster_types.specs.Distinct.{without}
use Rattle.cluster_types.specs.Members.{ids_of}
use Rattle.partition_lists.proofs.InOrderLaws.{DifferBy, differ_filter}
use Rattle.wire_messages.specs.declared.message.Message.TheVariants as message
use Rattle.wire_messages.specs.Keys.{IsKeyField}
use Rattle.wire_messages.specs.Rows.{IsStateRowField}
use Rattle.wire_messages.proofs.DecodingLaws.{read_back}
use Rattle.journal_readings.specs.Lines.{has_node}
use Rattle.journal_readings.proofs.AlongLaws.{some_same}
use Rattle.node_rules.specs.declared.member_row.MemberRow.{MemberRow}
use Rattle.node_rules.specs.Batches.{Target}
use Rattle.node_rules.specs.Copies.{Row}
use Rattle.node_rules.specs.Exchange.{View, first_missing, exchange_key, members_of}
use Rattle.node_rules.specs.Facts.{Facts, members_of_view}
use Rattle.node_rules.specs.Map.{lacks, row_of_member}
use Rattle.node_rules.specs.Standing.{others}
use Rattle.node_rules.specs.Tables.{contains}
use Rattle.node_rules.specs.Transactions.{Transaction}
use Rattle.cluster_types.specs.Partitions.{partition_count}
use Rattle.cluster_rules.specs.Steps.{all_marks}
use Rattle.cluster_rules.specs.World.{World}
use Rattle.cluster_laws.proofs.At.{differ}
use Rattle.key_laws.specs.Traced.{Traced, facts_of}
use Rattle.key_laws.proofs.Addressed as addressed
use Rattle.key_laws.proofs.Addressed.{AllAwait, NodeGoes, TargetsGo, in_without, not_gone}
use Rattle.key_laws.proofs.AllowedRuns.{reached_by}
use Rattle.run_laws.specs.Ranges.{FitsFacts}
use Rattle.run_laws.specs.Steps.{Rests}
use Rattle.run_laws.specs.Taken.{first}
use Rattle.run_laws.specs.Tied.{Among, Each, key_in}
use Rattle.run_laws.proofs.AllRead.{Spells}
use Rattle.run_laws.proofs.Journal.{traced_all}
use Rattle.run_laws.proofs.WorldSends.{spells}
use Rattle.calm_laws.specs.Exchanges.{LacksRow, Rows}
use Rattle.calm_laws.specs.Flows.{Once}
use Rattle.calm_laws.specs.Handing.{Handing, PendingHeld}
use Rattle.calm_laws.specs.Onward.{MayTake}
use Rattle.calm_laws.specs.Transacting.{Waiting}
use Rattle.calm_laws.proofs.Fronts.{facts_are, front_of, known}
use Rattle.calm_laws.proofs.Onward.{taken_before}
use Rattle.calm_laws.proofs.Parted.{once_of}
use Rattle.calm_laws.proofs.Premises.{law_of, to_front, waits_there}
use Rattle.calm_laws.proofs.Shaped.{shaped}
use Rattle.calm_laws.proofs.Walks.{named_of}

-- ---- what is known of a node

goes_of : {w : World} (may : MayTake w []) (m : ℕ) → NodeGoes (front_of may).chronicle.traced (w.facts m)
goes_of may m =
    let t = taken_before may in
    subst (λ (f : Facts). NodeGoes (front_of may).chronicle.traced f) (facts_are may m)
    (subst (λ (u : Traced). NodeGoes u (facts_of u m)) (sym (traced_all (first may.header) (all_marks may.before))) ((reached_by partition_count may.header may.before t.header t.allowed).directed.nodes m))

spelled : {w : World} (may : MayTake w []) (m : ℕ) → Spells (w.facts m)
spelled may m = subst Spells (facts_are may m) (spells (known may) m)

pub rests_there : {w : World} (may : MayTake w []) (m : ℕ) → Rests (w.facts m)
rests_there may m = subst Rests (facts_are may m) ((known may).ends.rests m)

pub ranged_there : {w : World} (may : MayTake w []) (m : ℕ) → FitsFacts (front_of may).lines (w.facts m)
ranged_there may m = subst (λ (f : Facts). FitsFacts (front_of may).lines f) (facts_are may m) ((known may).ranged.nodes m)

-- ---- rows

own_row : (o : Option Row) → is_none o ≡ false → o ≡ Some (unwrap_or o [])
own_row None e = differ refl e
own_row (Some r) e = refl

row_fits : (rows : List MemberRow) (n : ℕ) → Each (λ (r : MemberRow). IsStateRowField r.row) rows → is_none (row_of_member rows n) ≡ false → IsStateRowField (unwrap_or (row_of_member rows n) [])
row_fits [] n h e = differ refl e
row_fits (r ∷ rs) n h e = go (r.node == n) e (row_fits rs n h.1)
  where
    chosen : Bool → Option Row
    chosen b = option_map (λ (x : MemberRow). x.row) (if b then Some r else find (λ (x : MemberRow). x.node == n) rs)

    go : (b : Bool) → is_none (option_map (λ (x : MemberRow). x.row) (if b then Some r else find (λ (x : MemberRow). x.node == n) rs)) ≡ false → (is_none (row_of_member rs n) ≡ false → IsStateRowField (unwrap_or (row_of_member rs n) []))
        → IsStateRowField (unwrap_or (option_map (λ (x : MemberRow). x.row) (if b then Some r else find (λ (x : MemberRow). x.node == n) rs)) [])
    go true i rest = h.0
    go false i rest = rest i

-- ---- a group in one view

await_among : (os : List ℕ) (ts : List Transaction) (t : Transaction) → AllAwait os ts → Among ts t → addressed.Among os t.awaiting
await_among os [] t h i = absurd i
await_among os (x ∷ xs) t h (inl e) = subst (λ (y : Transaction). addressed.Among os y.awaiting) e h.0
await_among os (x ∷ xs) t h (inr i) = await_among os xs t h.1 i

target_other : (u : Traced) (me : ℕ) (os : List ℕ) (ts : List Target) (t : Target) → TargetsGo u me os ts → Among ts t → contains os t.node ≡ true
target_other u me os [] t h i = absurd i
target_other u me os (x ∷ xs) t h (inl e) = subst (λ (y : Target). contains os y.node ≡ true) e h.0.other
target_other u me os (x ∷ xs) t h (inr i) = target_other u me os xs t h.1 i

module _ (w : World) (may : MayTake w []) (gs : List ℕ) (k : ClusterKey) (set : List Member) (views : (m : ℕ) → has_node gs m ≡ true → (w.facts m).exchange.view ≡ Some (record { key = k; members = set })) (ids : (m : ℕ) → contains (ids_of set) m ≡ has_node gs m) (once : DifferBy (λ n. n) (ids_of set)) where
  abbrev view : View
  view = record { key = k; members = set }

  others_are : (m : ℕ) → has_node gs m ≡ true → others (w.facts m) ≡ without (ids_of set) m
  others_are m e = ap (λ (n : ℕ). without (ids_of (members_of_view (w.facts m))) n) (named_of may m) ∙ ap (λ (o : Option View). without (ids_of (members_of o)) m) (views m e)

  -- another member of the group
  other_is : (m x : ℕ) → has_node gs m ≡ true → contains (others (w.facts m)) x ≡ true → (has_node gs x ≡ true) × (x ≡ m → ⊥)
  other_is m x e h =
      let i : contains (without (ids_of set) m) x ≡ true = subst (λ (ns : List ℕ). contains ns x ≡ true) (others_are m e) h in
      (sym (ids x) ∙ in_without (ids_of set) m x i, not_gone (ids_of set) m x i)

  own_lacks : (m : ℕ) → has_node gs m ≡ true
      → is_none (row_of_member (w.facts m).exchange.rows m) ≡ false
  own_lacks m e = subst (λ (n : ℕ). lacks (w.facts m).exchange.rows n ≡ false) (named_of may m) ((law_of may m).own view (views m e))

  pub rows_there : Rows gs k w
  rows_there = record {
    row = λ m. unwrap_or (row_of_member (w.facts m).exchange.rows m) [];
    own = λ m e. own_row (row_of_member (w.facts m).exchange.rows m) (own_lacks m e);
    reads = λ m e b. read_back (message.State k b (unwrap_or (row_of_member (w.facts m).exchange.rows m) []))
        (subst (λ (o : Option View). IsKeyField (exchange_key o)) (views m e) ((spelled may m).key view (views m e)), row_fits (w.facts m).exchange.rows m (ranged_there may m).each_row (own_lacks m e));
    lacking = λ m e left. lacks_some m e left;
  }
    where
      some_left : (o : Option ℕ) (m : ℕ) → has_node gs m ≡ true → (w.facts m).exchange.exchanged ≡ false → first_missing (w.facts m).exchange.rows set ≡ o → is_none o ≡ false
      some_left None m e left i = differ ((rests_there may m).over view (views m e) i) left
      some_left (Some n) m e left i = refl

      lacks_some : (m : ℕ) → has_node gs m ≡ true → LacksRow (w.facts m).exchange
      lacks_some m e left = subst (λ (o : Option View). is_none (first_missing (w.facts m).exchange.rows (members_of o)) ≡ false) (sym (views m e)) (some_left _ m e left refl)

  pub waiting_there : Waiting gs w
  waiting_there m e t i = ((waits_there may m).awaits t i, λ x h. other_is m x e ((await_among (others (w.facts m)) (w.facts m).transactions.running t (goes_of may m).waits i).each x h))

  pub handing_there : Handing gs k w
  handing_there = record {
    once = λ m e. distinct m e (shaped may m).targets;
    to = λ m e t i. other_is m t.node e (target_other (front_of may).chronicle.traced (w.facts m).me (others (w.facts m)) (w.facts m).batches t (goes_of may m).targets i);
    key = λ m e t b i o. sym (some_same (subst (λ (v : Option View). key_in v ≡ Some b.key) (views m e) ((law_of may m).outs t (to_front t (w.facts m).batches i) b o)));
  }
    where
      distinct : (m : ℕ) → has_node gs m ≡ true → (map (λ (t : Target). t.node) (w.facts m).batches ≡ others (w.facts m)) ⊎ ((w.facts m).batches ≡ []) → Once (map (λ (t : Target). t.node) (w.facts m).batches)
      distinct m e (inl s) = subst Once (sym (s ∙ others_are m e)) (once_of (without (ids_of set) m) (differ_filter (λ n. n) (λ n. not (n == m)) (ids_of set) once))
      distinct m e (inr s) = subst (λ (ts : List Target). Once (map (λ (t : Target). t.node) ts)) (sym s) tt

-- a node holds a record of each digest that is pending
pub held_there : {w : World} → MayTake w [] → (gs : List ℕ) → PendingHeld gs w
held_there {w} may gs m e t i d j = ((ranged_there may m).each_target t (to_front t (w.facts m).batches i)).held d (to_front d t.pending j)
