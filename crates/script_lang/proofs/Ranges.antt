-- The ranges of what a field says.
use Rattle.std.proofs.Common.{◌≡◌, ℕ, ◌<◌, ◌≤◌, ◌^◌, Bool, true, false, cond, not, ◌&&◌, ◌||◌, nat_lt, nat_le, List, [], ◌∷◌, length, Option, Some, None, Ok, Err, refl, sym, ap, ◌∙◌, arith, subst, ◌==◌, ◌⊎◌, inl, inr, suc, zero, eq-eqb}
use Rattle.std.specs.Prelude.{Contains}
use Rattle.std.specs.Str.Parse.{digits_value}
use Rattle.std.proofs.lemmas.Bool.{and_parts, cases_lt, ltb-true, leb-true, eqb-true}
use Rattle.cluster_types.specs.Partitions.{partition_count}
use Rattle.script_lang.specs.declared.before.Before.{Before}
use Rattle.script_lang.specs.declared.fault.Cause.{Cause}
use Rattle.script_lang.specs.declared.fault.Cause.TheVariants.{BadNumber, BadFactor, UnknownNode, RepeatedNode, TooManyNodes, VersionLate}
use Rattle.script_lang.specs.declared.script.HeaderLine.{HeaderLine}
use Rattle.script_lang.specs.declared.script.HeaderLine.TheVariants as header
use Rattle.script_lang.specs.declared.words.HeaderWord.{HeaderWord}
use Rattle.script_lang.specs.declared.words.HeaderWord.TheVariants as word
use Rattle.script_lang.specs.Counts as count
use Rattle.script_lang.specs.Forms as form
use Rattle.script_lang.specs.Outcomes.{and_then, map_ok, ok_if}
use Rattle.script_lang.specs.Proper.{IsId, IsRack, IsProperHeaderLine}
use Rattle.script_lang.specs.Before.{MayDeclare}
use Rattle.script_lang.specs.Values as value
use Rattle.script_lang.proofs.Groups.{ok_inside, from_map, from_then}

pub if_ok : {A : Type 0} (t : Bool) (x y : A) (cause : Cause) → ok_if t x cause ≡ Ok y → (t ≡ true) × (x ≡ y)
if_ok true x y cause e = (refl, ok_inside x y (Ok x) refl e)
if_ok false x y cause e = cc

pub number_fits : (text : List ℕ) (n : ℕ) → value.number text ≡ Ok n → n < 2 ^ 64
number_fits text n e =
    let told = if_ok (value.is_number text) (digits_value 10 text) n BadNumber e in
    subst (λ (k : ℕ). k < 2 ^ 64) told.1 (ltb-true _ _ (and_parts _ _ told.0).1)

pub within : (low high : ℕ) (text : List ℕ) (n : ℕ) → value.number_within low high text ≡ Ok n → (low ≤ n) × (n ≤ high)
within low high text n e =
    let t = from_then (value.number text) (λ k. ok_if (nat_le low k && nat_le k high) k BadNumber) n e in
    let told = if_ok (nat_le low t.0 && nat_le t.0 high) t.0 n BadNumber t.2 in
    let parts = and_parts _ _ told.0 in
    subst (λ (k : ℕ). (low ≤ k) × (k ≤ high)) told.1 (leb-true _ _ parts.0, leb-true _ _ parts.1)

pub partition_fits : (text : List ℕ) (n : ℕ) → value.partition text ≡ Ok n → n < partition_count
partition_fits text n e =
    let t = from_then (value.number text) (λ k. ok_if (nat_lt k partition_count) k BadNumber) n e in
    let told = if_ok (nat_lt t.0 partition_count) t.0 n BadNumber t.2 in
    subst (λ (k : ℕ). k < partition_count) told.1 (ltb-true _ _ told.0)

pub partition_above : (from : ℕ) (text : List ℕ) (n : ℕ) → value.partition_from from text ≡ Ok n → (n < partition_count) × (from ≤ n)
partition_above from text n e =
    let t = from_then (value.partition text) (λ k. ok_if (nat_le from k) k BadNumber) n e in
    let told = if_ok (nat_le from t.0) t.0 n BadNumber t.2 in
    subst (λ (k : ℕ). (k < partition_count) × (from ≤ k)) told.1 (partition_fits text t.0 t.1, leb-true _ _ told.0)

pub node_is : (text : List ℕ) (n : ℕ) → value.node text ≡ Ok n → IsId n
node_is text n e = let range = within 1 65535 text n e in let low = range.0 in let high = range.1 in record { positive = omega arith; fits = omega arith }

among_by : (id n : ℕ) (ids : List ℕ) (t : Bool) → (n == id) ≡ t → (value.is_one_of id ids ≡ true → Contains ids id) → (t || value.is_one_of id ids) ≡ true → Contains (n ∷ ids) id
among_by id n ids true e rest h = (0, omega arith, eqb-true _ _ e)
among_by id n ids false e rest h = let c = rest h in (suc c.0, omega (arith, c.1), c.2)

pub among : (id : ℕ) (ids : List ℕ) → value.is_one_of id ids ≡ true → Contains ids id
among id [] h = cc
among id (n ∷ ids) h = among_by id n ids (n == id) refl (among id ids) h

pub declared_is : (before : Before) (text : List ℕ) (n : ℕ) → value.declared_node before text ≡ Ok n → IsId n × Contains before.nodes n
declared_is before text n e =
    let t = from_then (value.node text) (λ id. ok_if (value.is_one_of id before.nodes) id UnknownNode) n e in
    let told = if_ok (value.is_one_of t.0 before.nodes) t.0 n UnknownNode t.2 in
    subst (λ (k : ℕ). IsId k × Contains before.nodes k) told.1 (node_is text t.0 t.1, among t.0 before.nodes told.0)

if_fresh : (t : Bool) (x y : ℕ) (q : Bool) → cond t (Err RepeatedNode) (ok_if q x TooManyNodes) ≡ Ok y → (t ≡ false) × (q ≡ true) × (x ≡ y)
if_fresh true x y q e = cc
if_fresh false x y q e = let told = if_ok q x y TooManyNodes e in (refl, told.0, told.1)

pub new_is : (before : Before) (text : List ℕ) (n : ℕ) → value.new_node before text ≡ Ok n → IsId n × (value.is_one_of n before.nodes ≡ false) × (length before.nodes < 16)
new_is before text n e =
    let t = from_then (value.node text) (λ id. cond (value.is_one_of id before.nodes) (Err RepeatedNode) (ok_if (nat_lt (length before.nodes) 16) id TooManyNodes)) n e in
    let told = if_fresh (value.is_one_of t.0 before.nodes) t.0 n (nat_lt (length before.nodes) 16) t.2 in
    subst (λ (k : ℕ). IsId k × (value.is_one_of k before.nodes ≡ false) × (length before.nodes < 16)) told.2 (node_is text t.0 t.1, told.0, ltb-true _ _ told.1)

pub contained : (id : ℕ) (ids : List ℕ) → Contains ids id → value.is_one_of id ids ≡ true
contained id [] (k, below, same) = absurd (omega arith)
contained id (n ∷ ids) (zero, below, same) = ap (λ t. t || value.is_one_of id ids)
    (eq-eqb n id same)
contained id (n ∷ ids) (suc k, below, same) = ap (λ t. (n == id) || t) (contained id ids (k, omega arith, same)) ∙ either (n == id)
  where
    either : (t : Bool) → (t || true) ≡ true
    either true = refl
    either false = refl

-- ---- header lines

-- a header line that was read keeps its ranges, and a node that it declares may be declared
pub record IsFine (before : Before) (line : HeaderLine) : Type 0 where
  pub ranges : IsProperHeaderLine line
  pub declares : MayDeclare before.nodes line

one_or_two : (n : ℕ) → (1 ≤ n) × (n ≤ 2) → (n ≡ 1) ⊎ (n ≡ 2)
one_or_two n (low, high) = elim (cases_lt n 2) [ inl h ↦ inl (omega arith) | inr h ↦ inr (omega arith) ]

fine_script : (before : Before) (fields : List (List ℕ)) (line : HeaderLine) → form.script before fields ≡ Ok line → IsFine before line
fine_script before fields line e =
    let f = from_then (count.one fields) (λ field. and_then (value.version field) (λ v. ok_if (not before.is_settled || v == before.version) (header.Script v) VersionLate)) line e in
    let v = from_then (value.version f.0) (λ v. ok_if (not before.is_settled || v == before.version) (header.Script v) VersionLate) line f.2 in
    let told = if_ok (not before.is_settled || v.0 == before.version) (header.Script v.0) line VersionLate v.2 in
    subst (IsFine before) told.1 (record { ranges = one_or_two v.0 (within 1 2 f.0 v.0 v.1); declares = tt })

fine_factor : (before : Before) (fields : List (List ℕ)) (line : HeaderLine) → form.factor fields ≡ Ok line → IsFine before line
fine_factor before fields line e =
    let f = from_then (count.one fields) (λ field. map_ok (λ n. header.Factor n) (value.factor field)) line e in
    let m = from_map (λ n. header.Factor n) (value.factor f.0) line f.2 in
    let t = from_then (value.number f.0) (λ n. ok_if (nat_le 1 n && nat_le n 4) n BadFactor) m.0 m.1 in
    let told = if_ok (nat_le 1 t.0 && nat_le t.0 4) t.0 m.0 BadFactor t.2 in
    let parts = and_parts _ _ told.0 in
    let range : (0 < m.0) × (m.0 ≤ 4) = subst (λ (k : ℕ). (0 < k) × (k ≤ 4)) told.1 (leb-true 1 t.0 parts.0, leb-true t.0 4 parts.1) in
    subst (IsFine before) (sym m.2) (record { ranges = range; declares = tt })

fine_plain : (before : Before) (fields : List (List ℕ)) (line : HeaderLine) → form.plain_node before fields ≡ Ok line → IsFine before line
fine_plain before fields line e =
    let f = from_then (count.one fields) (λ field. map_ok (λ id. header.Node id None) (value.new_node before field)) line e in
    let m = from_map (λ id. header.Node id None) (value.new_node before f.0) line f.2 in
    let new = new_is before f.0 m.0 m.1 in
    subst (IsFine before) (sym m.2) (record { ranges = (new.0, tt); declares = (new.1, new.2) })

rack_is : (field : Option (List ℕ)) (rack : Option ℕ) → form.optional_rack field ≡ Ok rack → IsRack rack
rack_is None rack e = subst IsRack (ok_inside None rack (Ok None) refl e) tt
rack_is (Some field) rack e =
    let m = from_map (λ (n : ℕ). Some n) (value.rack field) rack e in
    let range = within 0 255 field m.0 m.1 in
    let high = range.1 in
    let small : m.0 < 256 = omega arith in
    subst IsRack (sym m.2) small

fine_racked : (before : Before) (fields : List (List ℕ)) (line : HeaderLine) → form.racked_node before fields ≡ Ok line → IsFine before line
fine_racked before fields line e =
    let f = from_then (count.one_or_two fields) (λ parts. and_then (value.new_node before parts.0) (λ id. map_ok (λ rack. header.Node id rack) (form.optional_rack parts.1))) line e in
    let n = from_then (value.new_node before f.0.0) (λ id. map_ok (λ rack. header.Node id rack) (form.optional_rack f.0.1)) line f.2 in
    let m = from_map (λ rack. header.Node n.0 rack) (form.optional_rack f.0.1) line n.2 in
    let new = new_is before f.0.0 n.0 n.1 in
    subst (IsFine before) (sym m.2) (record { ranges = (new.0, rack_is f.0.1 m.0 m.1); declares = (new.1, new.2) })

fine_node : (before : Before) (fields : List (List ℕ)) (line : HeaderLine) (t : Bool) → cond t (form.racked_node before fields) (form.plain_node before fields) ≡ Ok line → IsFine before line
fine_node before fields line true e = fine_racked before fields line e
fine_node before fields line false e = fine_plain before fields line e

fine_policy : (before : Before) (fields : List (List ℕ)) (line : HeaderLine) → form.policy fields ≡ Ok line → IsFine before line
fine_policy before fields line e =
    let f = from_then (count.one fields) (λ field. map_ok (λ by. header.Policy by) (value.policy field)) line e in
    let m = from_map (λ by. header.Policy by) (value.policy f.0) line f.2 in
    subst (IsFine before) (sym m.2) (record { ranges = tt; declares = tt })

pub fine_header : (before : Before) (w : HeaderWord) (fields : List (List ℕ)) (line : HeaderLine) → form.header_line before w fields ≡ Ok line → IsFine before line
fine_header before word.Script fields line e = fine_script before fields line e
fine_header before word.Factor fields line e = fine_factor before fields line e
fine_header before word.Node fields line e = fine_node before fields line (before.version == 2) e
fine_header before word.Policy fields line e = fine_policy before fields line e
