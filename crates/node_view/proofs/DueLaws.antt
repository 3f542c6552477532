-- The batches that are due of a view.
use Rattle.std.proofs.Common.{◌≡◌, ◌≢◌, ◌<◌, ◌≤◌, ◌+◌, ℕ, zero, suc, Bool, true, false, List, [], ◌∷◌, ◌++◌, length, get_or, take, map, filter_map, All, AllPairs, Option, Some, None, option_map, is_some, refl, sym, ap, ap₂, subst, ◌∙◌, arith}
use Rattle.std.specs.Prelude.{IfSome, IsSome}
use Rattle.std.specs.List.{cons_option}
use Rattle.std.specs.Option.{ForSome, option_and_then, option_to_list}
use Rattle.std.specs.FinMap.{get}
use Rattle.std.proofs.lemmas.List.{length-map, take_all, take_more}
use Rattle.std.proofs.lemmas.Option.{none-some, same_Some}
use Rattle.std.proofs.lemmas.List.Elements.{All-cons, All-tail, filter_map-append}
use Rattle.std.proofs.lemmas.List.Kept.{AllPairs-cons}
use Rattle.std.proofs.Math.ListN.{get_or-map}
use Rattle.cluster_types.specs.declared.cluster_key.ClusterKey.{ClusterKey}
use Rattle.cluster_types.specs.Distinct.{AreDistinct}
use Rattle.wire_messages.specs.declared.message.Batch.{Batch}
use Rattle.emigrate.specs.Going.{AreHeld, IsNext}
use Rattle.emigrate.proofs.FirstLaws.{next_is}
use Rattle.emigrate.proofs.TargetLaws.{holds_of_found, target_at}
use Rattle.node_rules.specs.Batches.{Target, Targets, next_batch, next_batch_to, target}
use Rattle.node_rules.specs.ByParts.{batches_due}
use Rattle.node_rules.specs.Copies.{Content}
use Rattle.node_rules.specs.Agreement.{others_among}
use Rattle.node_rules.specs.Exchange.{Exchange, members_of}
use Rattle.node_view.specs.declared.view.Moving.{Moving}
use Rattle.node_view.specs.declared.view.Stage.{Stage}
use Rattle.node_view.specs.declared.view.Stage.TheVariants as stage
use Rattle.node_view.specs.declared.view.View.TheInside.{Inside}
use Rattle.node_view.specs.Fits.{AreNext}
use Rattle.node_view.specs.Views.{FieldsAgree, IsMoving, IsStageOf, Viewed, exchange_at, targets_at, view_of}

abbrev Sent : Type 0
Sent = ℕ × Batch

abbrev nodes_of : Targets → List ℕ
nodes_of ts = map (λ t. t.node) ts

-- before the exchange is finished nothing is handed on
pub none_handed : (me factor : ℕ) (key : ClusterKey) (s : Stage) → IsStageOf me factor key s → (exchange_at s).exchanged ≡ false → targets_at s ≡ []
none_handed me factor key (stage.Exchanging x) h off = refl
none_handed me factor key (stage.Exchanged m) h off = absurd (let wrong : true ≡ false = sym h.finished ∙ off in cc)
none_handed me factor key stage.Taken h off = refl

-- each of the others has its target
pub others_nodes : (i : Inside) (v : Viewed) (m : Moving) → FieldsAgree i → view_of i ≡ v → IsMoving v m → nodes_of v.batches ≡ i.others
others_nodes i v m a is h =
    ap nodes_of (sym h.targets)
    ∙ h.own.targeted
    ∙ ap (λ (x : Exchange). others_among v.me (members_of x.view)) h.exchange
    ∙ ap (λ (u : Viewed). others_among u.me (members_of u.exchange.view)) (sym is)
    ∙ sym (a.others ∙ ap (others_among i.me) a.viewed)

-- ---- targets by their nodes

pub all_found : (ts : Targets) → AllPairs (λ (t u : Target). t.node ≢ u.node) ts → All (λ (t : Target). target ts t.node ≡ Some t) ts
all_found ts apart k d within = target_at ts k (get_or ts k d).node d within refl apart

pub nodes_apart : (ts : Targets) (ns : List ℕ) → nodes_of ts ≡ ns → AreDistinct ns → AllPairs (λ (t u : Target). t.node ≢ u.node) ts
nodes_apart ts ns is distinct i j d before within same =
    let apart : AllPairs (λ x y. x ≢ y) (nodes_of ts) = subst (λ (xs : List ℕ). AllPairs (λ x y. x ≢ y) xs) (sym is) distinct.differ in
    apart i j d.node before (omega (arith, within, length-map ts (λ (t : Target). t.node)))
    (get_or-map (λ (t : Target). t.node) ts i d ∙ same ∙ sym (get_or-map (λ (t : Target). t.node) ts j d))

-- each of the nodes has a target
pub node_found : (ts : Targets) (ns : List ℕ) (i n : ℕ) → nodes_of ts ≡ ns → AreDistinct ns → i < length ns → n ≡ get_or ns i n → IsSome (target ts n)
node_found ts ns i n is distinct within here = go ts refl
  where
    go : (us : Targets) → us ≡ ts → IsSome (target ts n)
    go [] none = absurd (let size : length ns ≡ 0 = sym (ap length is) ∙ ap (λ (us : Targets). length (nodes_of us)) (sym none) in omega (arith, size, within))
    go (u ∷ us) some =
        let low : i < length ts = omega (arith, within, length-map ts (λ (t : Target). t.node), ap length is) in
        let same : (get_or ts i u).node ≡ n = sym (get_or-map (λ (t : Target). t.node) ts i u) ∙ ap (λ (xs : List ℕ). get_or xs i u.node) is ∙ first ns i n u.node within here in
        ap is_some (target_at ts i n u low same (nodes_apart ts ns is distinct))
      where
        first : (xs : List ℕ) (i n d : ℕ) → i < length xs → n ≡ get_or xs i n → get_or xs i d ≡ n
        first [] i n d within here = absurd (omega (arith, within))
        first (x ∷ xs) zero n d within here = sym here
        first (x ∷ xs) (suc i) n d within here = first xs i n d (omega (arith, within)) here

pub few_sent : (ts : Targets) (n last : ℕ) → All (λ (t : Target). t.batches < last) ts → IfSome (target ts n) (λ t. t.batches < last)
few_sent ts n last few = go (target ts n) refl
  where
    go : (o : Option Target) → target ts n ≡ o → IfSome o (λ t. t.batches < last)
    go None e = tt
    go (Some t) e = holds_of_found (λ (u : Target). u.batches < last) ts n t e few

-- ---- the batches one by one

-- the batch for one of the nodes
abbrev pub batch_for : ClusterKey → Content → Targets → ℕ → Option Sent
batch_for key content ts n = option_map (λ b. (n, b)) (next_batch_to key content ts n)

one_or_none : {X : Type 0} (o : Option X) → cons_option o [] ≡ option_to_list o
one_or_none None = refl
one_or_none (Some x) = refl

pub batches_more : (key : ClusterKey) (content : Content) (ts : Targets) (ns : List ℕ) (i n : ℕ) (due more : List Sent) (b : Option Batch) → i < length ns → n ≡ get_or ns i n
    → due ≡ filter_map (batch_for key content ts) (take i ns) → b ≡ next_batch_to key content ts n → more ≡ due ++ option_to_list (option_map (λ x. (n, x)) b)
    → more ≡ filter_map (batch_for key content ts) (take (i + 1) ns)
batches_more key content ts ns i n due more b within here so_far next grown =
    let f = batch_for key content ts in
    grown
    ∙ ap₂ (λ (xs : List Sent) (o : Option Batch). xs ++ option_to_list (option_map (λ x. (n, x)) o)) so_far next
    ∙ sym (ap (filter_map f) (take_more ns i n within ∙ ap (λ (m : ℕ). take i ns ++ m ∷ []) (sym here))
    ∙ filter_map-append f (take i ns) (n ∷ [])
    ∙ ap (λ (xs : List Sent). filter_map f (take i ns) ++ xs) (one_or_none (f n)))

-- all of them
due_is : (key : ClusterKey) (content : Content) (ts us : Targets) → All (λ (t : Target). target ts t.node ≡ Some t) us → filter_map (batch_for key content ts) (nodes_of us) ≡ batches_due key content us
due_is key content ts [] found = refl
due_is key content ts (u ∷ us) found =
    ap₂ (λ (o : Option Sent) (xs : List Sent). cons_option o xs)
    (ap (λ (t : Option Target). option_map (λ b. (u.node, b)) (option_and_then (next_batch key content) t)) (found 0 u (omega arith)))
    (due_is key content ts us (All-tail (λ (t : Target). target ts t.node ≡ Some t) u us found))

pub batches_all : (key : ClusterKey) (content : Content) (ts : Targets) (ns : List ℕ) (i : ℕ) (due : List Sent) → nodes_of ts ≡ ns → AreDistinct ns → length ns ≤ i
    → due ≡ filter_map (batch_for key content ts) (take i ns) → due ≡ batches_due key content ts
batches_all key content ts ns i due is distinct past so_far =
    so_far
    ∙ ap (filter_map (batch_for key content ts)) (take_all i ns past ∙ sym is)
    ∙ due_is key content ts ts (all_found ts (nodes_apart ts ns is distinct))

-- ---- they may be sent

next_of : (key : ClusterKey) (content : Content) (node batches : ℕ) (pending : List (List ℕ)) (out : Option Batch) (b : Batch)
    → next_batch key content (record { node = node; pending = pending; out = out; batches = batches }) ≡ Some b → All (λ d. IsSome (get content d)) pending
    → IsNext key (record { node = node; pending = pending; out = out; batches = batches }) b
next_of key content node batches pending (Some o) b is held =
    let again : o ≡ b = cc in
    record {
      out = λ x e. let same : o ≡ x = same_Some o x e in sym again ∙ same;
      some = λ e. absurd (none-some o (sym e));
      key_of = λ e. absurd (none-some o (sym e));
      number = λ e. absurd (none-some o (sym e));
      digests = λ e. absurd (none-some o (sym e));
    }
next_of key content node batches [] None b is held = absurd (none-some b is)
next_of key content node batches (d ∷ ds) None b is held =
    next_is key content node batches (d ∷ ds) b (same_Some b _ (sym is)) (λ (e : d ∷ ds ≡ []). cc) held

all_due : (P : Sent → Type 0) (key : ClusterKey) (content : Content) (us : Targets) → All (λ (u : Target). (b : Batch) → next_batch key content u ≡ Some b → P (u.node, b)) us → All P (batches_due key content us)
all_due P key content [] h = λ k d within. absurd (omega arith)
all_due P key content (u ∷ us) h = go (next_batch key content u) refl (all_due P key content us (All-tail (λ (t : Target). (b : Batch) → next_batch key content t ≡ Some b → P (t.node, b)) u us h))
  where
    go : (o : Option Batch) → next_batch key content u ≡ o → All P (batches_due key content us) → All P (cons_option (option_map (λ b. (u.node, b)) o) (batches_due key content us))
    go None e rest = rest
    go (Some b) e rest = All-cons P (u.node, b) (batches_due key content us) (h 0 u (omega arith) b e) rest

pairs_due : (key : ClusterKey) (content : Content) (us : Targets) → AllPairs (λ (t u : Target). t.node ≢ u.node) us → AllPairs (λ (a b : Sent). a.0 ≢ b.0) (batches_due key content us)
pairs_due key content [] h = λ i j d before within. absurd (omega (arith, within))
pairs_due key content (u ∷ us) h =
    go (next_batch key content u) (pairs_due key content us (λ i j d before within. h (suc i) (suc j) d (omega (arith, before)) (omega (arith, within))))
    (all_due (λ (x : Sent). u.node ≢ x.0) key content us (λ k d within b e. h 0 (suc k) d (omega arith) (omega (arith, within))))
  where
    go : (o : Option Batch) → AllPairs (λ (a b : Sent). a.0 ≢ b.0) (batches_due key content us) → All (λ (x : Sent). u.node ≢ x.0) (batches_due key content us)
        → AllPairs (λ (a b : Sent). a.0 ≢ b.0) (cons_option (option_map (λ b. (u.node, b)) o) (batches_due key content us))
    go None rest apart = rest
    go (Some b) rest apart = AllPairs-cons (λ (x y : Sent). x.0 ≢ y.0) (u.node, b) (batches_due key content us) apart rest

pub due_are_next : (key : ClusterKey) (content : Content) (ts : Targets) (ns : List ℕ) (exchanged : Bool) → exchanged ≡ true → nodes_of ts ≡ ns → AreDistinct ns → AreHeld content ts
    → AreNext exchanged key ts (batches_due key content ts)
due_are_next key content ts ns exchanged finished is distinct held =
    let apart = nodes_apart ts ns is distinct in
    record {
      finished = λ some. finished;
      apart = pairs_due key content ts apart;
      next = all_due (λ (x : Sent). IsSome (target ts x.0) × ForSome (target ts x.0) (λ t. IsNext key t x.1)) key content ts (λ k d within b e.
          let there = all_found ts apart k d within in (
            ap is_some there,
            λ t f. subst (λ (u : Target). IsNext key u b) (same_Some (get_or ts k d) t (sym there ∙ f))
                (next_of key content (get_or ts k d).node (get_or ts k d).batches (get_or ts k d).pending (get_or ts k d).out b e (held.held k d within)),
          ));
    }
