-- A write of another node.
use Rattle.std.proofs.Common.{◌≡◌, ◌==◌, ℕ, Bool, true, false, List, Option, Some, None, is_some, ◌<◌, append-nil, refl, sym, ap, subst, ◌∙◌}
use Rattle.std.specs.Prelude.{IsSome, option_map, if◌then◌else◌}
use Rattle.std.specs.FinMap as finite
use Rattle.conflict_order.specs.declared.version.Version.{Version}
use Rattle.conflict_order.specs.Order.{is_newer}
use Rattle.cluster_types.specs.declared.cluster_key.ClusterKey.{ClusterKey}
use Rattle.cluster_types.specs.Partitions.{partition_of}
use Rattle.journal_lines.specs.declared.line.Line.{Line}
use Rattle.journal_lines.specs.declared.line.Line.TheVariants as line
use Rattle.wire_messages.specs.declared.message.Message.TheVariants as message
use Rattle.node_rules.specs.ByParts.{merged_if}
use Rattle.node_rules.specs.Effects as rules
use Rattle.node_rules.specs.Effects.{lines_only, sends_only, to_one, lines_and_sends}
use Rattle.node_rules.specs.Facts.{Facts, list_at, view_key}
use Rattle.node_rules.specs.Map.{list_master}
use Rattle.node_rules.specs.Messages as due
use Rattle.node_rules.specs.Notes.{write_counted_if, in_view}
use Rattle.node_rules.specs.Steps.{after_message}
use Rattle.node_rules.proofs.PartLaws.{repl_is}
use Rattle.node_view.specs.declared.view_step.Counted.{Counted}
use Rattle.node_view.specs.Plans as view
use Rattle.node_view.specs.Plans.{replicated, some_if, with_count, with_newer}
use Rattle.std.specs.Option.{ForSome}
use Rattle.wire_messages.specs.Numbers.{IsNumber}
use Rattle.wire_messages.specs.Versions.{IsDigest, IsVersion}
use Rattle.node_rules.specs.Tables.{only_if}
use Rattle.node_view.specs.declared.view_step.ViewStep.TheVariants as step
use Rattle.node_steps.specs.declared.effects.Effects.{Effects}
use Rattle.node_steps.specs.Fits.{FitsView}
use Rattle.node_steps.specs.Ranges.{HasRanges}
use Rattle.node_steps.specs.Spelled.{then_effects, spelled, spelled_sends}
use Rattle.node_steps.proofs.AckLaws.{view_key_is}
use Rattle.node_steps.proofs.StepRanges.{replicated_ranges}
use Rattle.node_rules.specs.BatchMessages.{merging}
use Rattle.node_rules.specs.StaleMessages.{stale}

counted_so : (f : Facts) (p nth : ℕ) (c : Option Counted) (b : Bool) → option_map (λ n. n.nth) c ≡ some_if b nth → with_count f p c ≡ write_counted_if f (view_key f) (list_at f p) p nth b
counted_so f p nth None true e = cc
counted_so f p nth None false e = refl
counted_so f p nth (Some c) true e = let same : c.nth ≡ nth = cc in ap (λ (n : ℕ). write_counted_if f (view_key f) (list_at f p) p n true) same
counted_so f p nth (Some c) false e = cc

newer_so : (f : Facts) (digest : List ℕ) (v : Version) (o : Option Version) (b : Bool) → o ≡ some_if b v → with_newer f digest o ≡ merged_if f (view_key f) digest v b
newer_so f digest v o true e = ap (with_newer f digest) e
newer_so f digest v o false e = ap (with_newer f digest) e

key_stays : (f : Facts) (key : ClusterKey) (p nth : ℕ) (b : Bool) → view_key (write_counted_if f key (list_at f p) p nth b) ≡ view_key f
key_stays f key p nth true = refl
key_stays f key p nth false = refl

-- the write is planned as it comes
pub repl_after : (f : Facts) (from : ℕ) (key : ClusterKey) (t nth : ℕ) (digest : List ℕ) (v : Version) (newer : Option Version) (counted : Option Counted) → in_view f key ≡ true
    → newer ≡ some_if (is_newer f.store.by v (finite.get f.store.content digest)) v
    → option_map (λ n. n.nth) counted ≡ some_if (from == list_master (list_at f (partition_of digest))) nth
    → after_message f 0 from (message.Repl key t nth digest v) ≡ replicated f (record { digest = digest; newer = newer; counted = counted })
repl_after f from key t nth digest v newer counted of_view is_newer_one is_counted =
    let p = partition_of digest in
    let sent : Bool = from == list_master (list_at f p) in
    let b : Bool = is_newer f.store.by v (finite.get f.store.content digest) in
    let keyed = view_key_is f key of_view in
    let g : Facts = write_counted_if f (view_key f) (list_at f p) p nth sent in
    repl_is f 0 from key t nth digest v
    ∙ ap (λ (x : Bool). (if x then merged_if (write_counted_if f key (list_at f p) p nth sent) (view_key f) digest v b else f)) of_view
    ∙ ap (λ (k : ClusterKey). merged_if (write_counted_if f k (list_at f p) p nth sent) (view_key f) digest v b) (sym keyed)
    ∙ ap (λ (k : ClusterKey). merged_if g k digest v b) (sym (key_stays f (view_key f) p nth sent))
    ∙ sym (newer_so g digest v newer b is_newer_one)
    ∙ ap (λ (x : Facts). with_newer x digest newer) (sym (counted_so f p nth counted sent is_counted))

pub some_only_if : {X : Type 0} (x : X) (o : Option X) (b : Bool) → o ≡ some_if b x → is_some o ≡ b
some_only_if x o true e = ap is_some e
some_only_if x o false e = ap is_some e

-- what is told of it
pub repl_told : (f : Facts) (from : ℕ) (key : ClusterKey) (t : ℕ) (digest : List ℕ) (v : Version) (b : Bool) → in_view f key ≡ true → is_newer f.store.by v (finite.get f.store.content digest) ≡ b
    → due.due_repl f from key t digest v ≡ record { lines = only_if (line.Merge f.me key digest v) b; sends = to_one from (message.ReplAck key t) }
repl_told f from key t digest v b of_view is =
    ap (λ (x : Bool). (if x then lines_and_sends (merging f digest v) (to_one from (message.ReplAck key t)) else stale f)) of_view
    ∙ ap (λ (ls : List Line). let e : rules.Effects = record { lines = ls; sends = to_one from (message.ReplAck key t) } in e)
    (ap (only_if (line.Merge f.me (view_key f) digest v)) is ∙ ap (λ (k : ClusterKey). only_if (line.Merge f.me k digest v) b) (view_key_is f key of_view))

-- it is the version, where there is one
of_version : (P : Version → Type 0) (o : Option Version) (b : Bool) (v : Version) → o ≡ some_if b v → (b ≡ true → P v) → ForSome o P
of_version P o true v e h = λ x i. let same : v ≡ x = let j : Some v ≡ Some x = sym e ∙ i in cc in subst P same (h refl)
of_version P o false v e h = λ x i. let wrong : None ≡ Some x = sym e ∙ i in cc

-- it has the number, where it counts
of_number : (P : ℕ → Type 0) (c : Option Counted) (b : Bool) (nth : ℕ) → option_map (λ x. x.nth) c ≡ some_if b nth → P nth → ForSome c (λ x. P x.nth)
of_number P None b nth e h = λ x i. cc
of_number P (Some y) true nth e h = λ x i. let same : y ≡ x = cc in let counted : y.nth ≡ nth = cc in subst (λ (z : Counted). P z.nth) same (subst P (sym counted) h)
of_number P (Some y) false nth e h = λ x i. cc

pub repl_fits : (f : Facts) (from nth : ℕ) (digest : List ℕ) (v : Version) (newer : Option Version) (counted : Option Counted) (b : Bool) → IsSome f.exchange.view → IsNumber nth
    → newer ≡ some_if (is_newer f.store.by v (finite.get f.store.content digest)) v → option_map (λ x. x.nth) counted ≡ some_if b nth
    → FitsView f (step.Replicated (record { digest = digest; newer = newer; counted = counted }))
repl_fits f from nth digest v newer counted b in_one number e c = record {
  step = record {
    newer = of_version (λ x. is_newer f.store.by x (finite.get f.store.content digest) ≡ true) newer (is_newer f.store.by v (finite.get f.store.content digest)) v e (λ h. h);
    number = of_number (λ k. 0 < k) counted b nth c number.positive;
  };
  in_one = in_one;
}

pub repl_ranges : (f : Facts) (nth : ℕ) (digest : List ℕ) (v : Version) (newer : Option Version) (counted : Option Counted) (a b : Bool) → IsNumber nth → IsDigest digest → IsVersion v
    → newer ≡ some_if a v → option_map (λ x. x.nth) counted ≡ some_if b nth → HasRanges f
    → HasRanges (view.view_taken f (step.Replicated (record { digest = digest; newer = newer; counted = counted })))
repl_ranges f nth digest v newer counted a b number d fit e c h =
    replicated_ranges f (record { digest = digest; newer = newer; counted = counted }) d (of_version IsVersion newer a v e (λ i. fit)) (of_number IsNumber counted b nth c number) h

pub told_both : (me from : ℕ) (key : ClusterKey) (t : ℕ) (digest : List ℕ) (v : Version) (b : Bool)
    → then_effects (spelled (lines_only (only_if (line.Merge me key digest v) b))) (sends_only (to_one from (message.ReplAck key t)))
    ≡ spelled (record { lines = only_if (line.Merge me key digest v) b; sends = to_one from (message.ReplAck key t) })
told_both me from key t digest v b =
    ap (λ (ls : List Line). let e : Effects = record { lines = ls; sends = spelled_sends (to_one from (message.ReplAck key t)) } in e) (append-nil (only_if (line.Merge me key digest v) b))
