-- What is pending falls round by round, until nothing is.
use Rattle.std.proofs.Common.{◌≡◌, ℕ, suc, ◌≤◌, ◌||◌, not, Bool, true, false, cond, List, [], ◌∷◌, length, map, Option, Some, None, refl, sym, ap, subst, ◌∙◌, inl, inr, arith, ◌&&◌}
use Rattle.std.specs.Prelude.{bytes_eq, filter, is_some, option_map, take}
use Rattle.std.specs.List.{cons_option, list_any}
use Rattle.std.specs.FinMap as finite
use Rattle.std.proofs.lemmas.Slice.Eq.{bytes_eq-Decides}
use Rattle.std.proofs.lemmas.Option.{none-some}
use Rattle.conflict_order.specs.declared.version.Version.{Version}
use Rattle.cluster_types.specs.declared.cluster_key.ClusterKey.{ClusterKey}
use Rattle.cluster_types.specs.declared.member.Member.{Member}
use Rattle.wire_messages.specs.declared.message.Batch.{Batch}
use Rattle.node_rules.specs.Batches.{Target, Targets, batch_after, batch_limit, fresh_batch, is_among, new_batch, next_batch, records_of, is_pending}
use Rattle.node_rules.specs.Copies.{Content, is_of}
use Rattle.node_rules.specs.Standing.{is_done}
use Rattle.journal_readings.specs.Lines.{has_node}
use Rattle.cluster_rules.specs.World.{World}
use Rattle.cluster_laws.proofs.At.{differ}
use Rattle.run_laws.specs.Tied.{Among}
use Rattle.calm_laws.specs.Exchanges.{Exchanged}
use Rattle.calm_laws.specs.Flows.{Once, Rounded}
use Rattle.calm_laws.specs.Handing.{AtMostPending, Handing, NothingOut, PendingHeld, target_begun, begun_with, target_acked, settled_out}
use Rattle.calm_laws.proofs.Handovers.{HandRound, batches_end}
use Rattle.calm_laws.proofs.Acknowledged.{settled_out_none}

-- ---- a target after a round

abbrev after : ClusterKey → Content → Target → Target
after k c t = target_acked (target_begun k c t)

same_bytes : (d : List ℕ) → bytes_eq d d ≡ true
same_bytes d = go (bytes_eq d d) refl
  where
    go : (b : Bool) → bytes_eq d d ≡ b → bytes_eq d d ≡ true
    go true e = e
    go false e = (bytes_eq-Decides d d).1 refl

no_more : {X : Type 0} (p : X → Bool) (xs : List X) → length (filter p xs) ≤ length xs
no_more p [] = omega arith
no_more p (x ∷ xs) = go (p x) (no_more p xs)
  where
    go : (b : Bool) → length (filter p xs) ≤ length xs → length (cond b (x ∷ filter p xs) (filter p xs)) ≤ length (x ∷ xs)
    go true h = omega (arith, h)
    go false h = omega (arith, h)

-- what is pending after the round where that batch goes out
gone : (k : ClusterKey) (c : Content) (t : Target) (b : Batch) → next_batch k c t ≡ Some b → (after k c t).pending ≡ filter (λ d. not (is_among b.records d)) t.pending
gone k c t b e = ap (λ (o : Option Batch). (target_acked (begun_with t o)).pending) e

-- where nothing goes out nothing is pending
waits : (k : ClusterKey) (c : Content) (t : Target) → next_batch k c t ≡ None → t.pending ≡ []
waits k c t e = go t.out e
  where
    new : (ds : List (List ℕ)) → fresh_batch k c t ds ≡ None → ds ≡ []
    new [] i = refl
    new (d ∷ ds) i = absurd (some_none i)
      where
        some_none : ◌≡◌ {A = Option Batch} (Some (new_batch k c t)) None → ⊥
        some_none i = none-some (new_batch k c t) (sym i)

    go : (o : Option Batch) → batch_after k c t o ≡ None → t.pending ≡ []
    go None i = new t.pending i
    go (Some b) i = absurd (none-some b (sym i))

-- it never grows
pub never_grows : (k : ClusterKey) (c : Content) (t : Target) → length (after k c t).pending ≤ length t.pending
never_grows k c t = go (next_batch k c t) refl
  where
    same : (o : Option Batch) → next_batch k c t ≡ o → o ≡ None → (after k c t).pending ≡ t.pending
    same o e i = ap (λ (x : Option Batch). (target_acked (begun_with t x)).pending) (e ∙ i) ∙ out t.out refl
      where
        idle : (x : Option Batch) → t.out ≡ x → batch_after k c t x ≡ None → x ≡ None
        idle None a b = refl
        idle (Some d) a b = absurd (none-some d (sym b))

        out : (x : Option Batch) → t.out ≡ x → (settled_out t t.out).pending ≡ t.pending
        out x a = ap (λ (y : Option Batch). (settled_out t y).pending) (a ∙ idle x a (ap (λ (y : Option Batch). batch_after k c t y) (sym a) ∙ e ∙ i))

    go : (o : Option Batch) → next_batch k c t ≡ o → length (after k c t).pending ≤ length t.pending
    go None e = at_most (same None e refl)
      where
        at_most : (after k c t).pending ≡ t.pending → length (after k c t).pending ≤ length t.pending
        at_most i = subst (λ (ds : List (List ℕ)). length ds ≤ length t.pending) (sym i) (omega arith)
    go (Some b) e = subst (λ (ds : List (List ℕ)). length ds ≤ length t.pending) (sym (gone k c t b e)) (no_more (λ d. not (is_among b.records d)) t.pending)

-- the first digest that is pending is among the records of the new batch
first_among : (c : Content) (d : List ℕ) (ds : List (List ℕ)) → is_some (finite.get c d) ≡ true → is_among (records_of c (d ∷ ds)) d ≡ true
first_among c d ds held = go (finite.get c d) held
  where
    go : (o : Option Version) → is_some o ≡ true → is_among (cons_option (option_map (λ (v : Version). (d, v)) o) (records_of c ds)) d ≡ true
    go None e = differ e refl
    go (Some v) e = ap (λ (b : Bool). b || list_any (λ (r : List ℕ × Version). bytes_eq r.0 d) (records_of c ds)) (same_bytes d)

drops_first : (p : List ℕ → Bool) (d : List ℕ) (ds : List (List ℕ)) → p d ≡ false → length (filter p (d ∷ ds)) ≤ length ds
drops_first p d ds e = subst (λ (b : Bool). length (cond b (d ∷ filter p ds) (filter p ds)) ≤ length ds) (sym e) (no_more p ds)

-- where nothing was out and something is pending it falls
pub falls : (k : ClusterKey) (c : Content) (t : Target) (p : ℕ) → t.out ≡ None → ((d : List ℕ) → Among t.pending d → is_some (finite.get c d) ≡ true) → length t.pending ≤ suc p → length (after k c t).pending ≤ p
falls k c t p out held most = go t.pending refl
  where
    go : (ds : List (List ℕ)) → t.pending ≡ ds → length (after k c t).pending ≤ p
    go [] e = below (never_grows k c t)
      where
        below : length (after k c t).pending ≤ length t.pending → length (after k c t).pending ≤ p
        below h = omega (arith, subst (λ (xs : List (List ℕ)). length (after k c t).pending ≤ length xs) e h)
    go (d ∷ ds) e = bound (subst (λ (xs : List (List ℕ)). length xs ≤ suc p) e most)
      where
        b : Batch
        b = new_batch k c t

        next : next_batch k c t ≡ Some (new_batch k c t)
        next = ap (λ (o : Option Batch). batch_after k c t o) out ∙ ap (λ (xs : List (List ℕ)). fresh_batch k c t xs) e

        among : is_among (new_batch k c t).records d ≡ true
        among = ap (λ (xs : List (List ℕ)). is_among (records_of c (take batch_limit xs)) d) e ∙ first_among c d (take 63 ds) (held d (subst (λ (xs : List (List ℕ)). Among xs d) (sym e) (inl refl)))

        fewer : length (after k c t).pending ≤ length ds
        fewer =
            subst (λ (xs : List (List ℕ)). length xs ≤ length ds) (sym (gone k c t (new_batch k c t) next ∙ ap (λ (xs : List (List ℕ)). filter (λ x. not (is_among (new_batch k c t).records x)) xs) e))
            (drops_first (λ x. not (is_among (new_batch k c t).records x)) d ds (ap (λ (c : Bool). not c) among))

        bound : length (d ∷ ds) ≤ suc p → length (after k c t).pending ≤ p
        bound h = omega (arith, fewer, h)

-- ---- a round

-- where a target after the round is from
record Source (k : ClusterKey) (c : Content) (ts : Targets) (t : Target) : Type 0 where
  source : Target
  there : Among ts source
  is : after k c source ≡ t

source_of : (k : ClusterKey) (c : Content) (ts : Targets) (t : Target) → Among (map target_acked (map (target_begun k c) ts)) t → Source k c ts t
source_of k c [] t h = absurd h
source_of k c (s ∷ ts) t (inl e) = record { source = s; there = inl refl; is = e }
source_of k c (s ∷ ts) t (inr h) = later (source_of k c ts t h)
  where
    later : Source k c ts t → Source k c (s ∷ ts) t
    later f = record { source = f.source; there = inr f.there; is = f.is }

after_node : (k : ClusterKey) (c : Content) (t : Target) → (after k c t).node ≡ t.node
after_node k c t = ends (target_begun k c t) ∙ go (next_batch k c t)
  where
    go : (o : Option Batch) → (begun_with t o).node ≡ t.node
    go None = refl
    go (Some b) = refl

    ends : (u : Target) → (target_acked u).node ≡ u.node
    ends u = out u.out
      where
        out : (o : Option Batch) → (settled_out u o).node ≡ u.node
        out None = refl
        out (Some b) = refl

after_nodes : (k : ClusterKey) (c : Content) (ts : Targets) → map (λ (t : Target). t.node) (map target_acked (map (target_begun k c) ts)) ≡ map (λ (t : Target). t.node) ts
after_nodes k c [] = refl
after_nodes k c (t ∷ ts) = ap (λ (x : ℕ). x ∷ map (λ (t : Target). t.node) (map target_acked (map (target_begun k c) ts))) (after_node k c t) ∙ ap (λ (xs : List ℕ). t.node ∷ xs) (after_nodes k c ts)

module _ (n : ℕ) (ns gs : List ℕ) (g : ℕ) (set : List Member) (k : ClusterKey) (w v : World) (r : Rounded n w v) (h : HandRound n ns gs g set k w v r) where
  from : (m : ℕ) → has_node gs m ≡ true → (t : Target) → Among (v.facts m).batches t → Source k (w.facts m).store.content (w.facts m).batches t
  from m here t there = source_of k (w.facts m).store.content (w.facts m).batches t (subst (λ (ts : Targets). Among ts t) (batches_end n ns gs g set k w v r h m here) there)

  -- nothing is out at the end of a round
  pub nothing_out : NothingOut gs v
  nothing_out m here t there =
      let s : Source k (w.facts m).store.content (w.facts m).batches t = from m here t there in
      ap (λ (x : Target). x.out) (sym s.is) ∙ settled_out_none (target_begun k (w.facts m).store.content s.source)

  pub handing_kept : Handing gs k v
  handing_kept = record {
    once = λ m here. subst Once (sym (ap (λ (ts : Targets). map (λ (t : Target). t.node) ts) (batches_end n ns gs g set k w v r h m here) ∙ after_nodes k (w.facts m).store.content (w.facts m).batches)) (h.handing.once m here);
    to = λ m here t there. to m here t (from m here t there);
    key = λ m here t b there e. absurd (none-some b (sym (nothing_out m here t there) ∙ e));
  }
    where
      to : (m : ℕ) (here : has_node gs m ≡ true) (t : Target) → Source k (w.facts m).store.content (w.facts m).batches t → (has_node gs t.node ≡ true) × (t.node ≡ m → ⊥)
      to m here t s =
          subst (λ (x : ℕ). (has_node gs x ≡ true) × (x ≡ m → ⊥)) (sym (after_node k (w.facts m).store.content s.source) ∙ ap (λ (x : Target). x.node) s.is) (h.handing.to m here s.source s.there)

  pub pending_falls : (p : ℕ) → NothingOut gs w → PendingHeld gs w → AtMostPending (suc p) gs w → AtMostPending p gs v
  pending_falls p out held most m here t there =
      let s : Source k (w.facts m).store.content (w.facts m).batches t = from m here t there in
      subst (λ (x : Target). length x.pending ≤ p) s.is
      (falls k (w.facts m).store.content s.source p (out m here s.source s.there) (held m here s.source s.there) (most m here s.source s.there))

-- ---- nothing is pending

none_pending : (ts : Targets) (p : ℕ) → ((t : Target) → Among ts t → length t.pending ≤ 0) → is_pending ts p ≡ false
none_pending [] p h = refl
none_pending (t ∷ ts) p h =
    ap (λ (xs : List (List ℕ)). list_any (is_of p) xs || is_pending ts p) (empty t.pending (h t (inl refl)))
    ∙ none_pending ts p (λ s i. h s (inr i))
  where
    empty : (xs : List (List ℕ)) → length xs ≤ 0 → xs ≡ []
    empty [] le = refl
    empty (x ∷ xs) le = absurd (omega (arith, le))

-- each node that has finished the exchange is done at each partition
pub done_then : (gs : List ℕ) (w : World) → Exchanged gs w → AtMostPending 0 gs w → (m : ℕ) → has_node gs m ≡ true → (p : ℕ) → is_done (w.facts m) p ≡ true
done_then gs w over none m here p =
    ap (λ (b : Bool). b && not (is_pending (w.facts m).batches p)) (over m here)
    ∙ ap (λ (b : Bool). not b) (none_pending (w.facts m).batches p (none m here))
