-- A message arrives: the tie of all nodes.
use Rattle.std.proofs.Common.{◌≡◌, ℕ, ◌<◌, ◌==◌, Bool, true, false, List, Option, Some, None, refl, sym, ap, ap₂, ◌∙◌, subst, lit<}
use Rattle.std.specs.Prelude.{option_map, if◌then◌else◌}
use Rattle.std.proofs.Math.Nat.{mod-lt}
use Rattle.conflict_order.specs.declared.policy.Policy.{Policy}
use Rattle.conflict_order.specs.declared.version.Version.{Version}
use Rattle.conflict_order.specs.Order.{is_newer}
use Rattle.cluster_types.specs.declared.cluster_key.ClusterKey.{ClusterKey}
use Rattle.cluster_types.specs.declared.member.Role.{Role}
use Rattle.cluster_types.specs.Partitions.{partition_count, partition_of}
use Rattle.wire_messages.specs.declared.message.Batch.{Batch}
use Rattle.wire_messages.specs.declared.message.Message.{Message}
use Rattle.wire_messages.specs.declared.message.Message.TheVariants as message
use Rattle.node_rules.specs.Agreement.{Agreement, accepted_by}
use Rattle.node_rules.specs.Batches.{out_to}
use Rattle.node_rules.specs.Copies.{Row}
use Rattle.node_rules.specs.Exchange as exchange
use Rattle.node_rules.specs.Exchange.{View}
use Rattle.node_rules.specs.Facts.{Facts, list_at}
use Rattle.node_rules.specs.Map.{list_master}
use Rattle.node_rules.specs.Hearing.{Hearing}
use Rattle.node_rules.specs.Notes as notes
use Rattle.node_rules.specs.Notes.{reached, in_view}
use Rattle.node_rules.specs.Tables.{changed_if}
use Rattle.node_rules.specs.Transactions as transactions
use Rattle.node_rules.specs.Transactions.{Transaction, transaction, awaits_answer, awaits_ack}
use Rattle.cluster_rules.specs.World.{World, changed_at}
use Rattle.cluster_laws.specs.Changed.{at_number, at_key, at_stay}
use Rattle.cluster_laws.specs.Changes as changes
use Rattle.cluster_laws.specs.Changes.{act}
use Rattle.cluster_laws.specs.Effect.{Effect, Nothing, Row_came, Batch_acked, Told, Write_came, Write_acked, Answered, effect_if, is_view_key, batch_ack, write_ack, answer_effect, comes}
use Rattle.cluster_laws.specs.Ground.{Ground}
use Rattle.cluster_laws.specs.Picture.{Seen, Owed, Picture}
use Rattle.cluster_laws.specs.Stay.{Running, Stay}
use Rattle.cluster_laws.proofs.At.{key_same, some_same, no_some, differ}
use Rattle.run_laws.specs.Tied.{Seens, Stays, key_in, running_from}
use Rattle.run_laws.specs.Fronts.{NodeTie, Ties, owed_if, owed_by, SaneNode}
use Rattle.run_laws.proofs.Moves.{SameTie, same_tie, unmoved, in_view as in_view_tie, facts_only, with_stay, with_both}
use Rattle.run_laws.proofs.Reached.{row_tied, progress_tied, write_tied, changed_tied, unchanged_tied}
use Rattle.run_laws.proofs.Standing.{ViewAt, view_at, views_at}
use Rattle.run_laws.proofs.Targets.{acked_tied, unacked_tied}

pub below_count : (d : List ℕ) → partition_of d < partition_count
below_count d = mod-lt _ (lit< tt)

-- a world tied to a picture
abbrev pub TiedTo : World → (ℕ → Bool) → Option Owed → Picture → Type 0
TiedTo w c due p = Ties w.facts w.clocks c w.network due p.node p.stay p.packet p.owed

-- ---- what the tie doesn't see

pub with_other : (f : Facts) (h : Hearing) (a : Agreement) (up : Bool) (role : Role) → a.last ≡ f.agreement.last → SameTie f (record f { hearing = h; agreement = a; up = up; role = role })
with_other f h a up role e = record {
  view = λ v i. i;
  seen = λ x s. record { view = s.view; last = s.last ∙ sym e; content = s.content; stamp = s.stamp };
  stay = λ v s i t. record {
    entered = t.entered;
    exchanged = t.exchanged;
    rows = t.rows;
    pending = t.pending;
    out = t.out;
    batches = t.batches;
    opened = t.opened;
    running = t.running;
    applies = t.applies;
    numbers = t.numbers;
    handed = t.handed;
    own_handed = t.own_handed;
    own_settled = t.own_settled;
    settled = t.settled;
    told = t.told;
  };
}

-- ---- the view's test

view_test : (f : Facts) (x : Seen) (k : ClusterKey) → Seens f x → is_view_key x.view k ≡ in_view f k
view_test f x k s = ap (λ (o : Option ClusterKey). is_view_key o k) s.view ∙ go f.exchange.view
  where
    go : (o : Option View) → is_view_key (key_in o) k ≡ exchange.is_view o k
    go None = refl
    go (Some v) = refl

pub viewed : (f : Facts) (k : ClusterKey) → in_view f k ≡ true → key_in f.exchange.view ≡ Some k
viewed f k e = go f.exchange.view e
  where
    go : (o : Option View) → exchange.is_view o k ≡ true → key_in o ≡ Some k
    go None i = differ i refl
    go (Some v) i = ap Some (key_same v.key k i)

-- ---- one node

-- a stay of the view's key
pub stay_in : (f : Facts) (x : Seen) (g : ClusterKey → Stay) (time : ℕ) (c : Bool) (k : ClusterKey) → NodeTie f x g time c → key_in f.exchange.view ≡ Some k → Stays f (g k)
stay_in f x g time c k t e = let v : ViewAt f.exchange.view k = view_at f.exchange.view k e in subst (λ (j : ClusterKey). Stays f (g j)) v.key (t.stay v.view v.is)

pub closing_in : (f : Facts) (x : Seen) (g : ClusterKey → Stay) (time : ℕ) (c : Bool) (k : ClusterKey) → NodeTie f x g time c → key_in f.exchange.view ≡ Some k → (g k).closing ≡ c
closing_in f x g time c k t e = let v : ViewAt f.exchange.view k = view_at f.exchange.view k e in subst (λ (j : ClusterKey). (g j).closing ≡ c) v.key (t.closing v.view v.is)

-- ---- a message reaches a node

-- the node that it reaches, in a world that is tied
pub record Reach (G : Ground) (z : World) (c : ℕ → Bool) (due : Option Owed) (w : Picture) (n : ℕ) : Type 0 where
  pub sane : SaneNode G n (z.facts n)
  pub tie : TiedTo z c due w

-- the tie with these facts of the node, after an effect
abbrev pub Now : Ground → World → (ℕ → Bool) → Picture → ℕ → Facts → Effect → Option Owed → Type 0
Now G z c w n g e o = Ties (changed_at z.facts n g) z.clocks c z.network o (act G e w).node (act G e w).stay (act G e w).packet (act G e w).owed

as_it_was : {G : Ground} {z : World} {c : ℕ → Bool} {due : Option Owed} {w : Picture} {n : ℕ} → Reach G z c due w n → Now G z c w n (z.facts n) Nothing due
as_it_was {G} {z} {c} {due} {w} {n} r = facts_only z.facts z.clocks c c z.network due w.node w.stay w.packet w.owed n (z.facts n) (unmoved n c) (r.tie.nodes n) r.tie

beside : {G : Ground} {z : World} {c : ℕ → Bool} {due : Option Owed} {w : Picture} {n : ℕ} → Reach G z c due w n → (g : Facts) → SameTie (z.facts n) g → Now G z c w n g Nothing due
beside {G} {z} {c} {due} {w} {n} r g h = facts_only z.facts z.clocks c c z.network due w.node w.stay w.packet w.owed n g (unmoved n c) (same_tie (z.facts n) g (w.node n) (w.stay n) (z.clocks n) (c n) h (r.tie.nodes n)) r.tie

the_stay : {G : Ground} {z : World} {c : ℕ → Bool} {due : Option Owed} {w : Picture} {n : ℕ} → Reach G z c due w n → (k : ClusterKey) → key_in (z.facts n).exchange.view ≡ Some k → Stays (z.facts n) (w.stay n k)
the_stay {G} {z} {c} {due} {w} {n} r k e = stay_in (z.facts n) (w.node n) (w.stay n) (z.clocks n) (c n) k (r.tie.nodes n) e

-- in the view, where the picture stays as it is
stilled : {G : Ground} {z : World} {c : ℕ → Bool} {due : Option Owed} {w : Picture} {n : ℕ} → Reach G z c due w n → (k : ClusterKey) (g : Facts) → key_in (z.facts n).exchange.view ≡ Some k → g.exchange.view ≡ (z.facts n).exchange.view
    → Seens g (w.node n) → Stays g (w.stay n k) → Now G z c w n g Nothing due
stilled {G} {z} {c} {due} {w} {n} r k g e same sn st = facts_only z.facts z.clocks c c z.network due w.node w.stay w.packet w.owed n g (unmoved n c) (record {
  seen = sn;
  clock = (r.tie.nodes n).clock;
  stay = λ v i. subst (λ (j : ClusterKey). Stays g (w.stay n j)) (some_same (sym e ∙ ap key_in (sym same ∙ i))) st;
  closing = λ v i. (r.tie.nodes n).closing v (sym same ∙ i);
}) r.tie

-- in the view, with another stay
stayed : {G : Ground} {z : World} {c : ℕ → Bool} {due : Option Owed} {w : Picture} {n : ℕ} → Reach G z c due w n → (k : ClusterKey) (g : Facts) (s : Stay) → key_in (z.facts n).exchange.view ≡ Some k → key_in g.exchange.view ≡ Some k
    → Seens g (w.node n) → Stays g s → s.closing ≡ (w.stay n k).closing → Ties (changed_at z.facts n g) z.clocks c z.network due w.node (at_stay w.stay n k s) w.packet w.owed
stayed {G} {z} {c} {due} {w} {n} r k g s e i sn st cl = with_stay z.facts z.clocks c c z.network due w.node w.stay w.packet w.owed n g (at_key (w.stay n) k s) (unmoved n c)
    (in_view_tie g (w.node n) (w.stay n) k s (z.clocks n) (c n) i sn (r.tie.nodes n).clock st (cl ∙ closing_in (z.facts n) (w.node n) (w.stay n) (z.clocks n) (c n) k (r.tie.nodes n) e)) r.tie

-- a row
row_at : {G : Ground} {z : World} {c : ℕ → Bool} {due : Option Owed} {w : Picture} {n : ℕ} → Reach G z c due w n → (from : ℕ) (k : ClusterKey) (row : Row) (b : Bool) → in_view (z.facts n) k ≡ b
    → Now G z c w n (notes.row_came (z.facts n) from row b) (effect_if (Row_came n k from) b) due
row_at {G} {z} {c} {due} {w} {n} r from k row true e = let h : Seens (z.facts n) (w.node n) = (r.tie.nodes n).seen in
    stayed r k (notes.row_came (z.facts n) from row true) (changes.stay_with_row from (w.stay n k)) (viewed (z.facts n) k e) (viewed (z.facts n) k e)
    (record { view = h.view; last = h.last; content = h.content; stamp = h.stamp }) (row_tied (z.facts n) (w.stay n k) from row (the_stay r k (viewed (z.facts n) k e))) refl
row_at r from k row false e = as_it_was r

-- an acknowledgement of a batch
ack_at : {G : Ground} {z : World} {c : ℕ → Bool} {due : Option Owed} {w : Picture} {n : ℕ} → Reach G z c due w n → (from : ℕ) (k : ClusterKey) (number : ℕ) (b : Bool) → in_view (z.facts n) k ≡ b
    → Now G z c w n (notes.batch_acked (z.facts n) from number b) (effect_if (batch_ack n k from number (out_to (z.facts n).batches from)) b) due
ack_at r from k number false e = as_it_was r
ack_at {G} {z} {c} {due} {w} {n} r from k number true e = go (out_to (z.facts n).batches from) refl
  where
    v : key_in (z.facts n).exchange.view ≡ Some k
    v = viewed (z.facts n) k e

    same_seen : Seens (notes.batch_acked (z.facts n) from number true) (w.node n)
    same_seen = let h : Seens (z.facts n) (w.node n) = (r.tie.nodes n).seen in record { view = h.view; last = h.last; content = h.content; stamp = h.stamp }

    unspent : ((b : Batch) → out_to (z.facts n).batches from ≡ Some b → (b.number == number) ≡ false) → Now G z c w n (notes.batch_acked (z.facts n) from number true) Nothing due
    unspent none = stilled r k (notes.batch_acked (z.facts n) from number true) v refl same_seen (unacked_tied (z.facts n) (w.stay n k) from number none (the_stay r k v))

    go : (o : Option Batch) → out_to (z.facts n).batches from ≡ o → Now G z c w n (notes.batch_acked (z.facts n) from number true) (batch_ack n k from number o) due
    go None i = unspent (λ b j. no_some (sym i ∙ j))
    go (Some b) i = by (b.number == number) refl
      where
        by : (q : Bool) → (b.number == number) ≡ q → Now G z c w n (notes.batch_acked (z.facts n) from number true) (effect_if (Batch_acked n k from b) q) due
        by true j = stayed r k (notes.batch_acked (z.facts n) from number true) (changes.stay_without_batch from b (w.stay n k)) v v same_seen (acked_tied (z.facts n) (w.stay n k) from number b i j (the_stay r k v)) refl
        by false j = unspent (λ x l. ap (λ (y : Batch). y.number == number) (some_same (sym l ∙ i)) ∙ j)

-- a progress
progress_at : {G : Ground} {z : World} {c : ℕ → Bool} {due : Option Owed} {w : Picture} {n : ℕ} → Reach G z c due w n → (from : ℕ) (k : ClusterKey) (done handed settled : List Bool) (b : Bool) → in_view (z.facts n) k ≡ b
    → Now G z c w n (notes.progress_came (z.facts n) from done handed settled b) (effect_if (Told n k from done handed settled) b) due
progress_at {G} {z} {c} {due} {w} {n} r from k done handed settled true e = let h : Seens (z.facts n) (w.node n) = (r.tie.nodes n).seen in
    stayed r k (notes.progress_came (z.facts n) from done handed settled true) (changes.stay_with_bits from done handed settled (w.stay n k)) (viewed (z.facts n) k e) (viewed (z.facts n) k e)
    (record { view = h.view; last = h.last; content = h.content; stamp = h.stamp }) (progress_tied (z.facts n) (w.stay n k) from done handed settled (the_stay r k (viewed (z.facts n) k e))) refl
progress_at r from k done handed settled false e = as_it_was r

-- a write
write_at : {G : Ground} {z : World} {c : ℕ → Bool} {due : Option Owed} {w : Picture} {n : ℕ} → Reach G z c due w n → (from : ℕ) (k : ClusterKey) (nth : ℕ) (d : List ℕ) (v : Version) (b : Bool) → in_view (z.facts n) k ≡ b
    → Now G z c w n (notes.write_came (z.facts n) from k nth (partition_of d) b) (effect_if (Write_came n k from nth d v) b) (owed_if (z.facts n) n k d v b due)
write_at r from k nth d v false e = as_it_was r
write_at {G} {z} {c} {due} {w} {n} r from k nth d v true e = record {
  nodes = moved.nodes;
  packets = moved.packets;
  owing = ap₂ (λ (by : Policy) (o : Option Version). (if is_newer by v o then Some (record { node = n; key = k; digest = d; version = v }) else None)) r.sane.by ((r.tie.nodes n).seen.content d);
}
  where
    at_view : key_in (z.facts n).exchange.view ≡ Some k
    at_view = viewed (z.facts n) k e

    both : Seens (notes.write_came (z.facts n) from k nth (partition_of d) true) (changes.seen_after_count G (z.facts n).me k from (partition_of d) (changes.hearing G k from nth (partition_of d) (w.stay n k)) (w.node n))
        × Stays (notes.write_came (z.facts n) from k nth (partition_of d) true) (changes.hearing G k from nth (partition_of d) (w.stay n k))
    both = write_tied G k (z.facts n) (w.node n) (w.stay n k) from nth (partition_of d) (below_count d) (views_at G n (z.facts n) k r.sane at_view) (r.tie.nodes n).seen (the_stay r k at_view)

    same_view : (q : Bool) → key_in (notes.write_counted_if (z.facts n) k (list_at (z.facts n) (partition_of d)) (partition_of d) nth q).exchange.view ≡ Some k
    same_view true = at_view
    same_view false = at_view

    moved : Ties (changed_at z.facts n (notes.write_came (z.facts n) from k nth (partition_of d) true)) z.clocks c z.network due
        (at_number w.node n (changes.seen_after_count G n k from (partition_of d) (changes.hearing G k from nth (partition_of d) (w.stay n k)) (w.node n)))
        (at_stay w.stay n k (changes.hearing G k from nth (partition_of d) (w.stay n k))) w.packet w.owed
    moved = with_both z.facts z.clocks c c z.network due w.node w.stay w.packet w.owed n (notes.write_came (z.facts n) from k nth (partition_of d) true)
        (changes.seen_after_count G n k from (partition_of d) (changes.hearing G k from nth (partition_of d) (w.stay n k)) (w.node n)) (at_key (w.stay n) k (changes.hearing G k from nth (partition_of d) (w.stay n k))) (unmoved n c)
        (in_view_tie (notes.write_came (z.facts n) from k nth (partition_of d) true) (changes.seen_after_count G n k from (partition_of d) (changes.hearing G k from nth (partition_of d) (w.stay n k)) (w.node n)) (w.stay n) k (changes.hearing G k from nth (partition_of d) (w.stay n k)) (z.clocks n) (c n)
        (same_view (from == list_master (list_at (z.facts n) (partition_of d))))
        (subst (λ (m : ℕ). Seens (notes.write_came (z.facts n) from k nth (partition_of d) true) (changes.seen_after_count G m k from (partition_of d) (changes.hearing G k from nth (partition_of d) (w.stay n k)) (w.node n))) r.sane.me both.0)
        (r.tie.nodes n).clock both.1 (closing_in (z.facts n) (w.node n) (w.stay n) (z.clocks n) (c n) k (r.tie.nodes n) at_view)) r.tie

-- ---- a transaction changes where a test holds

abbrev with_change : Facts → ℕ → (Transaction → Transaction) → (Transaction → Bool) → Facts
with_change f number change test = record f { transactions = transactions.changing f.transactions number (λ x. changed_if change x (test x)) }

kept_number : (change : Transaction → Transaction) (test : Transaction → Bool) → ((x : Transaction) → (change x).number ≡ x.number) → (x : Transaction) → (changed_if change x (test x)).number ≡ x.number
kept_number change test keeps x = go (test x)
  where
    go : (b : Bool) → (changed_if change x b).number ≡ x.number
    go true = keeps x
    go false = refl

changed_seen : (f : Facts) (x : Seen) (number : ℕ) (change : Transaction → Transaction) (test : Transaction → Bool) → Seens f x → Seens (with_change f number change test) x
changed_seen f x number change test h = record { view = h.view; last = h.last; content = h.content; stamp = h.stamp }

-- where it is of no use
spent_at : {G : Ground} {z : World} {c : ℕ → Bool} {due : Option Owed} {w : Picture} {n : ℕ} → Reach G z c due w n → (k : ClusterKey) (number : ℕ) (change : Transaction → Transaction) (test : Transaction → Bool) → key_in (z.facts n).exchange.view ≡ Some k
    → ((x : Transaction) → (change x).number ≡ x.number) → ((y : Transaction) → transaction (z.facts n).transactions number ≡ Some y → test y ≡ false) → Now G z c w n (with_change (z.facts n) number change test) Nothing due
spent_at {G} {z} {c} {due} {w} {n} r k number change test v keeps none = stilled r k (with_change (z.facts n) number change test) v refl (changed_seen (z.facts n) (w.node n) number change test (r.tie.nodes n).seen)
    (unchanged_tied (z.facts n) (w.stay n k) number (λ x. changed_if change x (test x)) (kept_number change test keeps) (go (transaction (z.facts n).transactions number) refl) (the_stay r k v))
  where
    go : (o : Option Transaction) → transaction (z.facts n).transactions number ≡ o → option_map (λ x. changed_if change x (test x)) o ≡ o
    go None e = refl
    go (Some y) e = ap (λ (b : Bool). Some (changed_if change y b)) (none y e)

-- where it counts
counts_at : {G : Ground} {z : World} {c : ℕ → Bool} {due : Option Owed} {w : Picture} {n : ℕ} → Reach G z c due w n → (k : ClusterKey) (number : ℕ) (change : Transaction → Transaction) (test : Transaction → Bool) (y : Transaction) → key_in (z.facts n).exchange.view ≡ Some k
    → ((x : Transaction) → (change x).number ≡ x.number) → transaction (z.facts n).transactions number ≡ Some y → test y ≡ true
    → Ties (changed_at z.facts n (with_change (z.facts n) number change test)) z.clocks c z.network due w.node (at_stay w.stay n k (changes.running_as number (running_from (change y)) (w.stay n k))) w.packet w.owed
counts_at {G} {z} {c} {due} {w} {n} r k number change test y v keeps is holds = stayed r k (with_change (z.facts n) number change test) (changes.running_as number (running_from (change y)) (w.stay n k)) v v (changed_seen (z.facts n) (w.node n) number change test (r.tie.nodes n).seen)
    (subst (λ (b : Bool). Stays (with_change (z.facts n) number change test) (changes.running_as number (running_from (changed_if change y b)) (w.stay n k))) holds
    (changed_tied (z.facts n) (w.stay n k) number (λ x. changed_if change x (test x)) y (kept_number change test keeps) is (the_stay r k v))) refl

repl_ack_at : {G : Ground} {z : World} {c : ℕ → Bool} {due : Option Owed} {w : Picture} {n : ℕ} → Reach G z c due w n → (from : ℕ) (k : ClusterKey) (number : ℕ) (b : Bool) → in_view (z.facts n) k ≡ b
    → Now G z c w n (notes.write_acked (z.facts n) from number b) (effect_if (write_ack n k from number ((w.stay n k).running number)) b) due
repl_ack_at r from k number false e = as_it_was r
repl_ack_at {G} {z} {c} {due} {w} {n} r from k number true e = subst (λ (o : Option Running). Now G z c w n (notes.write_acked (z.facts n) from number true) (write_ack n k from number o) due) (sym ((the_stay r k v).running number)) (go (transaction (z.facts n).transactions number) refl)
  where
    v : key_in (z.facts n).exchange.view ≡ Some k
    v = viewed (z.facts n) k e

    go : (o : Option Transaction) → transaction (z.facts n).transactions number ≡ o → Now G z c w n (notes.write_acked (z.facts n) from number true) (write_ack n k from number (option_map running_from o)) due
    go None i = spent_at r k number (transactions.acknowledged from) (λ x. awaits_ack x from) v (λ x. refl) (λ y j. no_some (sym i ∙ j))
    go (Some y) i = by (awaits_ack y from) refl
      where
        by : (q : Bool) → awaits_ack y from ≡ q → Now G z c w n (notes.write_acked (z.facts n) from number true) (effect_if (Write_acked n k from number (running_from y)) q) due
        by true j = counts_at r k number (transactions.acknowledged from) (λ x. awaits_ack x from) y v (λ x. refl) i j
        by false j = spent_at r k number (transactions.acknowledged from) (λ x. awaits_ack x from) v (λ x. refl) (λ x l. ap (λ (m : Transaction). awaits_ack m from) (some_same (sym l ∙ i)) ∙ j)

answer_at : {G : Ground} {z : World} {c : ℕ → Bool} {due : Option Owed} {w : Picture} {n : ℕ} → Reach G z c due w n → (from : ℕ) (k : ClusterKey) (number : ℕ) (a : Option Version) (b : Bool) → in_view (z.facts n) k ≡ b
    → Now G z c w n (notes.answer_came (z.facts n) from number a b) (effect_if (answer_effect n k from number a ((w.stay n k).running number)) b) due
answer_at r from k number a false e = as_it_was r
answer_at {G} {z} {c} {due} {w} {n} r from k number a true e = subst (λ (o : Option Running). Now G z c w n (notes.answer_came (z.facts n) from number a true) (answer_effect n k from number a o) due) (sym ((the_stay r k v).running number)) (go (transaction (z.facts n).transactions number) refl)
  where
    v : key_in (z.facts n).exchange.view ≡ Some k
    v = viewed (z.facts n) k e

    by_ground : (y : Transaction) → changes.running_with_answer G.by from a (running_from y) ≡ running_from (transactions.answered (z.facts n).store.by from a y)
    by_ground y = ap
        (λ (p : Policy). changes.running_with_answer p from a (running_from y)) r.sane.by

    go : (o : Option Transaction) → transaction (z.facts n).transactions number ≡ o → Now G z c w n (notes.answer_came (z.facts n) from number a true) (answer_effect n k from number a (option_map running_from o)) due
    go None i = spent_at r k number (transactions.answered (z.facts n).store.by from a) (λ x. awaits_answer x from) v (λ x. refl) (λ y j. no_some (sym i ∙ j))
    go (Some y) i = by (awaits_answer y from) refl
      where
        by : (q : Bool) → awaits_answer y from ≡ q → Now G z c w n (notes.answer_came (z.facts n) from number a true) (effect_if (Answered n k from number a (running_from y)) q) due
        by true j = subst (λ (x : Running). Ties (changed_at z.facts n (notes.answer_came (z.facts n) from number a true)) z.clocks c z.network due w.node (at_stay w.stay n k (changes.running_as number x (w.stay n k))) w.packet w.owed) (sym (by_ground y))
            (counts_at r k number (transactions.answered (z.facts n).store.by from a) (λ x. awaits_answer x from) y v (λ x. refl) i j)
        by false j = spent_at r k number (transactions.answered (z.facts n).store.by from a) (λ x. awaits_answer x from) v (λ x. refl) (λ x l. ap (λ (m : Transaction). awaits_answer m from) (some_same (sym l ∙ i)) ∙ j)

-- ---- any message

accepted_last : (a : Agreement) (from : ℕ) (b : Bool) → (if b then record a { proposal = accepted_by a.proposal from } else a).last ≡ a.last
accepted_last a from true = refl
accepted_last a from false = refl

refused_last : (a : Agreement) (b : Bool) → (if b then record a { proposal = None } else a).last ≡ a.last
refused_last a true = refl
refused_last a false = refl

-- the picture tests its own view
by_view : {G : Ground} {z : World} {c : ℕ → Bool} {due : Option Owed} {w : Picture} {n : ℕ} → Reach G z c due w n → (k : ClusterKey) (g : Bool → Facts) (e : Effect) (o : Bool → Option Owed) → ((b : Bool) → in_view (z.facts n) k ≡ b → Now G z c w n (g b) (effect_if e b) (o b))
    → Now G z c w n (g (in_view (z.facts n) k)) (effect_if e (is_view_key (w.node n).view k)) (o (in_view (z.facts n) k))
by_view {G} {z} {c} {due} {w} {n} r k g e o h = subst (λ (b : Bool). Now G z c w n (g (in_view (z.facts n) k)) (effect_if e b) (o (in_view (z.facts n) k))) (sym (view_test (z.facts n) (w.node n) k (r.tie.nodes n).seen)) (h (in_view (z.facts n) k) refl)

pub reached_tied : {G : Ground} {z : World} {c : ℕ → Bool} {due : Option Owed} {w : Picture} {n : ℕ} → Reach G z c due w n → (from : ℕ) (m : Message) → Now G z c w n (reached (z.facts n) from m) (comes w n from m) (owed_by (z.facts n) n m due)
reached_tied {G} {z} {c} {due} {w} {n} r from (message.Heartbeat view promised hears role) = beside r (reached (z.facts n) from (message.Heartbeat view promised hears role)) (with_other (z.facts n) _ _ _ _ refl)
reached_tied {G} {z} {c} {due} {w} {n} r from (message.Accept k) = beside r (reached (z.facts n) from (message.Accept k)) (with_other (z.facts n) _ _ _ _ (accepted_last (z.facts n).agreement from _))
reached_tied {G} {z} {c} {due} {w} {n} r from (message.Refuse k promised) = beside r (reached (z.facts n) from (message.Refuse k promised)) (with_other (z.facts n) _ _ _ _ (refused_last (z.facts n).agreement _))
reached_tied {G} {z} {c} {due} {w} {n} r from (message.State k wants row) = by_view r k (notes.row_came (z.facts n) from row) (Row_came n k from) (λ b. due) (row_at r from k row)
reached_tied {G} {z} {c} {due} {w} {n} r from (message.BatchAck k number) = by_view r k (notes.batch_acked (z.facts n) from number) (batch_ack n k from number ((w.stay n k).out from)) (λ b. due) outs
  where
    outs : (b : Bool) → in_view (z.facts n) k ≡ b → Now G z c w n (notes.batch_acked (z.facts n) from number b) (effect_if (batch_ack n k from number ((w.stay n k).out from)) b) due
    outs false e = as_it_was r
    outs true e = subst (λ (o : Option Batch). Now G z c w n (notes.batch_acked (z.facts n) from number true) (batch_ack n k from number o) due) (sym ((the_stay r k (viewed (z.facts n) k e)).out from)) (ack_at r from k number true e)
reached_tied {G} {z} {c} {due} {w} {n} r from (message.Progress k wants done handed settled) = by_view r k (notes.progress_came (z.facts n) from done handed settled) (Told n k from done handed settled) (λ b. due) (progress_at r from k done handed settled)
reached_tied {G} {z} {c} {due} {w} {n} r from (message.Repl k t nth d v) = by_view r k (notes.write_came (z.facts n) from k nth (partition_of d)) (Write_came n k from nth d v) (λ b. owed_if (z.facts n) n k d v b due) (write_at r from k nth d v)
reached_tied {G} {z} {c} {due} {w} {n} r from (message.ReplAck k t) = by_view r k (notes.write_acked (z.facts n) from t) (write_ack n k from t ((w.stay n k).running t)) (λ b. due) (repl_ack_at r from k t)
reached_tied {G} {z} {c} {due} {w} {n} r from (message.Answer k t v) = by_view r k (notes.answer_came (z.facts n) from t v) (answer_effect n k from t v ((w.stay n k).running t)) (λ b. due) (answer_at r from k t v)
reached_tied r from _ = as_it_was r
