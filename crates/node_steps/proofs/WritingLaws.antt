-- What is told of a transaction that is resolved, and how its write is planned.
use Rattle.std.proofs.Common.{◌≡◌, ◌+◌, ◌<◌, ◌^◌, ℕ, Bool, true, false, List, [], ◌∷◌, ◌++◌, append-nil, Option, Some, None, refl, sym, ap, ap₂, subst, ◌∙◌, arith}
use Rattle.std.specs.Prelude.{All, IfSome, IsSome, IsTrue, ◌↔◌, map}
use Rattle.std.specs.FinMap as finite
use Rattle.conflict_order.specs.Action.{action_of}
use Rattle.conflict_order.specs.declared.version.Body.TheVariants as body
use Rattle.conflict_order.specs.declared.version.Version.{Version}
use Rattle.conflict_order.specs.declared.version.Body.{Body}
use Rattle.conflict_order.specs.declared.want.Want.{Want}
use Rattle.conflict_order.specs.declared.want.Want.TheVariants as want
use Rattle.conflict_order.specs.Next.{next}
use Rattle.conflict_order.proofs.NextLaws.{next-body, next_generation_in_range, next_time_below}
use Rattle.cluster_types.specs.declared.cluster_key.ClusterKey.{ClusterKey}
use Rattle.cluster_types.specs.Partitions.{partition_of}
use Rattle.journal_lines.specs.declared.line.Line.{Line}
use Rattle.journal_lines.specs.declared.line.Line.TheVariants as line
use Rattle.wire_messages.specs.declared.message.Message.{Message}
use Rattle.wire_messages.specs.declared.message.Message.TheVariants as message
use Rattle.wire_messages.specs.Spelling.{spelling}
use Rattle.wire_messages.specs.Versions.{IsBody, IsOptionVersion, IsVersion}
use Rattle.node_rules.specs.Copies.{is_nil}
use Rattle.node_rules.specs.Effects as rules
use Rattle.node_rules.specs.Effects.{sends_only, to_each}
use Rattle.node_rules.specs.Exchange as exchange
use Rattle.node_rules.specs.Exchange.{Exchange}
use Rattle.node_rules.specs.Facts.{Facts, list_at, view_key}
use Rattle.node_rules.specs.Resolving.{resolving, resolving_want}
use Rattle.node_rules.specs.Stamps.{Writes, applies_at}
use Rattle.node_rules.specs.Requests.{asking}
use Rattle.node_rules.specs.Standing.{other_replicas}
use Rattle.node_rules.specs.Transactions.{Transaction}
use Rattle.node_rules.specs.Batches.{Targets}
use Rattle.node_rules.specs.Notes as notes
use Rattle.record_store.specs.Store as held
use Rattle.record_store.specs.Store.{HoldsTheSame}
use Rattle.node_view.specs.declared.view_step.Outcome.{Outcome}
use Rattle.node_view.specs.declared.view_step.Outcome.TheVariants as outcome
use Rattle.node_view.specs.declared.view_step.ViewStep.TheVariants as step
use Rattle.node_view.specs.Views.{IsInView, IsLike, IsNodeInView, IsSame, KeepsWatch, Viewed, Watch, facts_seen, viewed_key, with_view}
use Rattle.node_steps.specs.declared.effects.Effects.{Effects}
use Rattle.node_steps.specs.Resolvings.{asked_for, due_asking, due_opening, due_outcome, due_write, opened_step, opening_of, others_at, outcome_if_resolved, outcome_of, resolving_of, transaction_of}
use Rattle.node_steps.specs.declared.resolving.Resolving.{Resolving}
use Rattle.node_steps.specs.Spelled.{then_effects, spelled, with_lines, with_sends, write_lines}
use Rattle.node_steps.proofs.SpelledLaws.{each_spelled, told_each}
use Rattle.node_steps.proofs.ViewLaws.{exchange_is}
use Rattle.node_rules.specs.Tables.{only_if}

-- ---- a write

-- what a write tells, of these parts
abbrev pub write_effects : ℕ → ClusterKey → ℕ → ℕ → List ℕ → Version → List ℕ → rules.Effects
write_effects me key nth number digest x to = record {
  lines = write_lines me key number digest x (is_nil to);
  sends = to_each to (message.Repl key number nth digest x);
}

same_lines : (f : Facts) (number : ℕ) (digest : List ℕ) (x : Version) (b : Bool) → line.Apply f.me (view_key f) number digest x ∷ only_if (line.Done f.me (view_key f) number) b ≡ write_lines f.me (view_key f) number digest x b
same_lines f number digest x true = refl
same_lines f number digest x false = refl

-- what is due of a write, by the view
due_seen : (f : Facts) (v : Viewed) (number : ℕ) (digest : List ℕ) (x : Version) (to : List ℕ) → IsInView f v → to ≡ other_replicas f (list_at f (partition_of digest))
    → write_effects v.me (viewed_key v) (applies_at v.writes (partition_of digest) + 1) number digest x to ≡ due_write f number digest x
due_seen f v number digest x to h same =
    let p = partition_of digest in
    sym (ap (λ (ls : List Line). let e : rules.Effects = record { lines = ls; sends = to_each (other_replicas f (list_at f p)) (message.Repl (view_key f) number (applies_at f.writes p + 1) digest x) } in e)
    (same_lines f number digest x (is_nil (other_replicas f (list_at f p))))
    ∙ ap (λ (ns : List ℕ). write_effects f.me (view_key f) (applies_at f.writes p + 1) number digest x ns) (sym same)
    ∙ ap (λ (me : ℕ). write_effects me (view_key f) (applies_at f.writes p + 1) number digest x to) h.me
    ∙ ap₂ (λ (e : Exchange) (ws : Writes). write_effects v.me (exchange.exchange_key e.view) (applies_at ws p + 1) number digest x to) (sym (exchange_is f v h)) (sym (ap (λ (g : Facts). g.writes) h.view)))

-- a write is told by its lines and by a message to each of the others
pub told_write : (told : Effects) (f : Facts) (v : Viewed) (number : ℕ) (digest : List ℕ) (x : Version) (to : List ℕ) (b : Bool) → IsInView f v
    → to ≡ other_replicas f (list_at f (partition_of digest)) → (IsTrue b ↔ (to ≡ []))
    → with_sends (with_lines told (write_lines v.me (viewed_key v) number digest x b)) (map (λ n. (n, spelling (message.Repl (viewed_key v) number (applies_at v.writes (partition_of digest) + 1) digest x))) to)
    ≡ then_effects told (due_write f number digest x)
told_write told f v number digest x to b h same none =
    let m : Message = message.Repl (viewed_key v) number (applies_at v.writes (partition_of digest) + 1) digest x in
    let lines : write_lines v.me (viewed_key v) number digest x b ≡ write_lines v.me (viewed_key v) number digest x (is_nil to) = ap (write_lines v.me (viewed_key v) number digest x) (empty b to none) in
    ap₂ (λ (ls : List Line) (ss : List (ℕ × List ℕ)). with_sends (with_lines told ls) ss) lines (each_spelled to m)
    ∙ ap (then_effects told) (due_seen f v number digest x to h same)
  where
    empty : (b : Bool) (to : List ℕ) → (IsTrue b ↔ (to ≡ [])) → b ≡ is_nil to
    empty true [] e = refl
    empty false [] e = let wrong : false ≡ true = e.1 refl in cc
    empty true (n ∷ ns) e = let wrong : n ∷ ns ≡ [] = e.0 refl in cc
    empty false (n ∷ ns) e = refl

-- what the view itself sees
pub seen_in_view : (v : Viewed) → IsInView (facts_seen v) v
seen_in_view v = record { me = refl; factor = refl; view = refl }

-- the others by the view
pub others_seen : (f : Facts) (v : Viewed) (p : ℕ) → IsInView f v → others_at v p ≡ other_replicas f (list_at f p)
others_seen f v p h = rw (h.me, h.factor, sym (exchange_is f v h)) refl

-- the next version has a spelling
pub next_fits : (best : Option Version) (clock : ℕ) (b : Body) → clock < 2 ^ 64 → IsOptionVersion best → IsBody b → IsVersion (next best clock b)
next_fits best clock b fits h body =
    let generation = next_generation_in_range best clock b in
    record {
      lut = next_time_below best clock b (2 ^ 64) fits (time best h);
      written = generation.0;
      generation = omega (arith, generation.1);
      body = subst IsBody (sym (next-body best clock b)) body;
    }
  where
    time : (o : Option Version) → IsOptionVersion o → IfSome o (λ v. v.lut < 2 ^ 64)
    time None h = tt
    time (Some v) h = h.lut

-- ---- outcomes

-- a read tells the best version
pub told_value : (told : Effects) (f : Facts) (v : Viewed) (r : Resolving) → IsInView f v → r.want ≡ want.Get
    → with_lines told (line.Value v.me (viewed_key v) r.transaction r.digest r.best ∷ []) ≡ then_effects told (due_outcome f r)
told_value told f v r h get =
    ap₂ (λ (me : ℕ) (e : Exchange). with_lines told (line.Value me (exchange.exchange_key e.view) r.transaction r.digest r.best ∷ [])) (sym h.me) (exchange_is f v h)
    ∙ ap (λ (ss : List (ℕ × List ℕ)). let e : Effects = record { lines = told.lines ++ line.Value f.me (view_key f) r.transaction r.digest r.best ∷ []; sends = ss } in e) (sym (append-nil told.sends))
    ∙ ap (λ (w : Want). then_effects told (resolving_want f r.clock (list_at f (partition_of r.digest)) (transaction_of r) w)) (sym get)

-- what is due of a transaction goes by what is resolved of it
resolving_alike : (f : Facts) (clock : ℕ) (l : List ℕ) (t : Transaction) (w : Want) → resolving_want f clock l (transaction_of (resolving_of clock t)) w ≡ resolving_want f clock l t w
resolving_alike f clock l t want.Get = refl
resolving_alike f clock l t (want.Put bytes) = refl
resolving_alike f clock l t want.Del = refl

pub outcome_alike : (f : Facts) (clock : ℕ) (t : Transaction) → due_outcome f (resolving_of clock t) ≡ resolving f clock (list_at f (partition_of t.digest)) t
outcome_alike f clock t = resolving_alike f clock (list_at f (partition_of t.digest)) t t.want

pub asking_alike : (f : Facts) (clock : ℕ) (t : Transaction) (ns : List ℕ) → due_asking f (resolving_of clock t) ns ≡ asking f clock (list_at f (partition_of t.digest)) t ns
asking_alike f clock t [] = outcome_alike f clock t
asking_alike f clock t (n ∷ ns) = refl

-- ---- a transaction that opens

-- it asks nobody
pub told_resolved : (f : Facts) (r : Resolving) (asked : List ℕ) → asked ≡ [] → due_outcome f r ≡ due_asking f r asked
told_resolved f r asked none = ap (due_asking f r) (sym none)

-- it asks somebody
pub told_asked : (told : Effects) (f : Facts) (v : Viewed) (r : Resolving) (asked : List ℕ) → IsInView f v → (asked ≡ [] → ⊥)
    → with_sends told (map (λ n. (n, spelling (message.Ask (viewed_key v) r.transaction r.digest))) asked) ≡ then_effects told (due_asking f r asked)
told_asked told f v r [] h some = absurd (some refl)
told_asked told f v r (n ∷ ns) h some =
    told_each told (n ∷ ns) (message.Ask (viewed_key v) r.transaction r.digest)
    ∙ ap (λ (e : Exchange). then_effects told (sends_only (to_each (n ∷ ns) (message.Ask (exchange.exchange_key e.view) r.transaction r.digest)))) (exchange_is f v h)

pub outcome_asked : (v : Viewed) (r : Resolving) (asked : List ℕ) → (asked ≡ [] → ⊥) → None ≡ outcome_if_resolved v r asked
outcome_asked v r [] some = absurd (some refl)
outcome_asked v r (n ∷ ns) some = refl

-- a list that isn't found empty
pub some_asked : (xs : List ℕ) (b : Bool) → b ≡ false → (IsTrue b ↔ (xs ≡ [])) → xs ≡ [] → ⊥
some_asked xs b h is none = let wrong : b ≡ true = is.1 none in cc

-- ---- the view has other room

pub others_same : (v w : Viewed) (p : ℕ) → IsLike v w → others_at w p ≡ others_at v p
others_same v w p h = rw (h.me, h.factor, h.exchange) refl

outcome_same : (v w : Viewed) (r : Resolving) (x : Want) → IsLike v w → outcome_of w r x ≡ outcome_of v r x
outcome_same v w r want.Get h = refl
outcome_same v w r (want.Put bytes) h =
    let x : Version = next r.best r.clock (body.Value bytes) in
    ap (λ (ns : List ℕ). outcome.Write (record { clock = r.clock; version = x; kept = x; to = ns })) (others_same v w (partition_of r.digest) h)
outcome_same v w r want.Del h =
    let x : Version = next r.best r.clock body.Tombstone in
    ap (λ (ns : List ℕ). outcome.Write (record { clock = r.clock; version = x; kept = x; to = ns })) (others_same v w (partition_of r.digest) h)

outcomes_same : (v w : Viewed) (r : Resolving) (asked : List ℕ) → IsLike v w → outcome_if_resolved w r asked ≡ outcome_if_resolved v r asked
outcomes_same v w r [] h = ap (λ (o : Outcome). Some o) (outcome_same v w r r.want h)
outcomes_same v w r (n ∷ ns) h = refl

pub node_alike : (f : Facts) (v w : Viewed) (s t : held.StoreWithRoom) → IsSame v w → HoldsTheSame s t → IsNodeInView f v s → IsNodeInView f w t
node_alike f v w s t same holds h = record {
  view = record {
    viewed = record {
      me = h.view.viewed.me ∙ sym same.alike.me;
      factor = h.view.viewed.factor ∙ sym same.alike.factor;
      view = fields f v w same.alike ∙ h.view.viewed.view;
    };
    policy = same.alike.by ∙ h.view.policy;
    pending = record { held = subst (λ (ts : Targets). All (λ t. All (λ d. IsSome (finite.get f.store.content d)) t.pending) ts) (sym same.alike.batches) h.view.pending.held };
    watch = subst (λ (x : Watch). KeepsWatch f x) (sym same.watch) h.view.watch;
  };
  stored = record {
    content = h.stored.content ∙ sym holds.versions;
    stamps = h.stored.stamps ∙ sym holds.stamps;
    by = h.stored.by ∙ sym holds.policy;
  };
}
  where
    fields : (f : Facts) (v w : Viewed) → IsLike v w → with_view f (Some w) ≡ with_view f (Some v)
    fields f v w a = rw (a.exchange, a.writes, a.transactions, a.batches, a.bits) refl

pub holds_itself : (s : held.StoreWithRoom) → HoldsTheSame s s
holds_itself s = record { versions = refl; stamps = refl; policy = refl }

-- the step by which a transaction opens
pub opened_is : (f : Facts) (v w : Viewed) (clock : ℕ) (digest : List ℕ) (x : Want) (n : ℕ) (best : Option Version) (asked : List ℕ) (o : Option Outcome) → IsLike v w
    → n ≡ f.transactions.opened + 1 → best ≡ finite.get f.store.content digest → asked ≡ asked_for f digest
    → o ≡ outcome_if_resolved w (record { transaction = n; digest = digest; want = x; best = best; clock = clock }) asked
    → step.Opened digest x best asked o ≡ opened_step f v clock digest x
opened_is f v w clock digest x n best asked o h number held to is =
    ap (step.Opened digest x best asked) (is ∙ outcomes_same v w (record { transaction = n; digest = digest; want = x; best = best; clock = clock }) asked h)
    ∙ rw (number, held, to) refl

-- what is told of it
pub told_opening : (f : Facts) (v w : Viewed) (clock : ℕ) (digest : List ℕ) (x : Want) (n : ℕ) (best : Option Version) (asked : List ℕ) → IsInView f v → IsLike v w
    → n ≡ f.transactions.opened + 1 → best ≡ finite.get f.store.content digest → asked ≡ asked_for f digest
    → then_effects (record { lines = line.Opened w.me (viewed_key w) n digest (action_of x) ∷ []; sends = [] })
    (due_asking f (record { transaction = n; digest = digest; want = x; best = best; clock = clock }) asked)
    ≡ spelled (due_opening f clock digest x)
told_opening f v w clock digest x n best asked h alike number held to =
    let t : Transaction = notes.opening_transaction f (list_at f (partition_of digest)) (f.transactions.opened + 1) digest x in
    let told : ℕ → Exchange → Effects = λ me e. record { lines = line.Opened me (exchange.exchange_key e.view) (f.transactions.opened + 1) digest (action_of x) ∷ []; sends = [] } in
    rw (number, held, to)
    (ap₂ (λ (me : ℕ) (e : Exchange). then_effects (told me e) (due_asking f (opening_of f clock digest x) (asked_for f digest))) (alike.me ∙ sym h.me) (alike.exchange ∙ exchange_is f v h)
    ∙ ap (then_effects (told f.me f.exchange)) (asking_alike f clock t (asked_for f digest)))
