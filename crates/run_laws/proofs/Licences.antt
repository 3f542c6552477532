-- What the facts say of a line that is due gives its licence, by the tie.
use Rattle.std.proofs.Common.{◌≡◌, ℕ, ◌+◌, ◌==◌, Bool, true, false, not, ◌&&◌, List, [], ◌∷◌, Option, Some, None, refl, sym, ap, ◌∙◌, subst, inl, inr, ◌⊎◌, ⊎_elim}
use Rattle.std.specs.Prelude.{find, option_map, bytes_eq, if◌then◌else◌}
use Rattle.std.specs.FinMap as finite
use Rattle.conflict_order.specs.declared.policy.Policy.{Policy}
use Rattle.conflict_order.specs.declared.version.Version.{Version}
use Rattle.conflict_order.specs.Join.{AtMost}
use Rattle.conflict_order.specs.Next.{next}
use Rattle.cluster_types.specs.declared.cluster_key.ClusterKey.{ClusterKey}
use Rattle.cluster_types.specs.Partitions.{partition_of}
use Rattle.cluster_types.specs.Rows.{bit}
use Rattle.cluster_types.proofs.BoolFacts.{not_true}
use Rattle.wire_messages.specs.declared.message.Batch.{Batch}
use Rattle.wire_messages.specs.declared.message.Message.{Message}
use Rattle.wire_messages.specs.declared.message.Message.TheVariants as message
use Rattle.node_rules.specs.Batches.{Target, out_of}
use Rattle.node_rules.specs.Facts.{Facts, list_at}
use Rattle.node_rules.specs.Map as map
use Rattle.node_rules.specs.Standing.{acts, is_acting, is_master}
use Rattle.node_rules.specs.Tables.{contains}
use Rattle.node_rules.specs.Transactions.{Transaction, transaction}
use Rattle.cluster_laws.specs.Ground.{Ground, view_master, view_acting}
use Rattle.cluster_laws.specs.Licences.{Acts, IsResolved, MayExchange, MayOpen, MayAnswer, MayApply, MayFinish, MayGiveUp, Brought, MayMerge, IsBatchToSend, MaySend, MaySendIf}
use Rattle.cluster_laws.specs.Picture.{Picture}
use Rattle.cluster_laws.specs.Stay.{Running}
use Rattle.cluster_laws.proofs.At.{number_same, number_here, and_left, and_right, or_cases, differ, some_same, no_some, digests}
use Rattle.run_laws.specs.Tied.{Views, RowsAgree, has_pending, batches_of, running_from}
use Rattle.node_rules.specs.Stamps.{numbers_at}
use Rattle.run_laws.specs.Fronts.{Front, world_of, facts_at, Tied, Sane}
use Rattle.run_laws.specs.LineOk.{StandsInView, ExchangeOk, OpenOk, Resolves, AnswerOk, ApplyOk, FinishOk, GiveUpOk, Brings, MergeOk, NewBatch, BatchOk, SendOk, SendOkIf}
use Rattle.run_laws.proofs.Classes.{master_tied, replica_tied, acting_tied}
use Rattle.run_laws.proofs.Guards.{done_tied}
use Rattle.run_laws.proofs.Standing.{is_in, stay_at, views_at, rows_at, was_sent}

-- ---- views

pub exchange_ok : (G : Ground) (z : Front) (w : Picture) (n : ℕ) (k : ClusterKey) → Tied z w → ExchangeOk G z n k → MayExchange G w n k
exchange_ok G z w n k t ok = record {
  is_in = is_in z w n k t ok.stands;
  first = (stay_at z w n k t ok.stands.view).exchanged ∙ ok.first;
  rows = λ m e. (stay_at z w n k t ok.stands.view).rows m ∙ ap not (ok.rows.there m e);
}

-- ---- transactions

acts_cases : (G : Ground) (z : Front) (w : Picture) (n : ℕ) (k : ClusterKey) (p : ℕ) → Sane G (world_of z) → Tied z w → StandsInView z n k → acts (facts_at z n) (list_at (facts_at z n) p) p ≡ true → Acts G n k (w.stay n k) p
acts_cases G z w n k p s t st e = ⊎_elim
    (λ a. inl (me ∙ own a, (stay_at z w n k t st.view).own_handed p ∙ not_true _ (and_right (is_acting f (list_at f p) p) _ a)))
    (λ b. inr (
      me ∙ list_master b,
      (λ same. differ (ap (λ (m : ℕ). m == f.me) (acting_tied G k f p v r ∙ sym same ∙ me) ∙ number_here f.me) (not_true _ (and_left _ _ (and_right (is_master f (list_at f p)) _ b)))),
      (stay_at z w n k t st.view).own_settled p ∙ and_right (not (is_acting f (list_at f p) p)) _ (and_right (is_master f (list_at f p)) _ b),
    ))
    (or_cases _ _ (and_right f.exchange.exchanged _ e))
  where
    f : Facts
    f = facts_at z n

    me : n ≡ f.me
    me = sym (s.nodes n).me

    v : Views G k f
    v = views_at G n f k (s.nodes n) st.view

    r : RowsAgree G k f.exchange.rows
    r = rows_at G n f k (s.nodes n) st.view (and_left f.exchange.exchanged _ e)

    own : (is_acting f (list_at f p) p && not (bit f.bits.own_handed p)) ≡ true → f.me ≡ view_acting G k p
    own a = sym (number_same _ _ (and_left (is_acting f (list_at f p) p) _ a)) ∙ acting_tied G k f p v r

    list_master : (is_master f (list_at f p) && (not (is_acting f (list_at f p) p) && bit f.bits.own_settled p)) ≡ true → f.me ≡ view_master G k p
    list_master b = sym (number_same _ _ (and_left (is_master f (list_at f p)) _ b)) ∙ sym (master_tied G k f p v)

none_on : (ys : List Transaction) (d : List ℕ) (u : ℕ) (y : Running) → find (λ (z : Transaction). bytes_eq z.digest d) ys ≡ None → option_map running_from (find (λ (z : Transaction). z.number == u) ys) ≡ Some y → y.digest ≡ d → ⊥
none_on [] d u y a e i = no_some e
none_on (z ∷ ys) d u y a e i = go (bytes_eq z.digest d) (z.number == u) refl a e (λ q r. none_on ys d u y q r i)
  where
    go : (b c : Bool) → bytes_eq z.digest d ≡ b → (if b then Some z else find (λ (z : Transaction). bytes_eq z.digest d) ys) ≡ None
        → option_map running_from (if c then Some z else find (λ (z : Transaction). z.number == u) ys) ≡ Some y
        → (find (λ (z : Transaction). bytes_eq z.digest d) ys ≡ None → option_map running_from (find (λ (z : Transaction). z.number == u) ys) ≡ Some y → ⊥) → ⊥
    go true c j q r rest = no_some (sym q)
    go false true j q r rest = differ (ap (λ (x : List ℕ). bytes_eq x d) (ap (λ (x : Running). x.digest) (some_same r) ∙ i) ∙ digests.here d) j
    go false false j q r rest = rest q r

pub open_ok : (G : Ground) (z : Front) (w : Picture) (n : ℕ) (k : ClusterKey) (t : ℕ) (d : List ℕ) → Sane G (world_of z) → Tied z w → OpenOk z n k t d → MayOpen G w n k t d
open_ok G z w n k u d s t ok = record {
  is_in = is_in z w n k t ok.stands;
  exchanged = (stay_at z w n k t ok.stands.view).exchanged ∙ and_left (facts_at z n).exchange.exchanged _ ok.acts;
  number = ok.number ∙ ap (λ (m : ℕ). m + 1) (sym (stay_at z w n k t ok.stands.view).opened);
  acts = acts_cases G z w n k (partition_of d) s t ok.stands ok.acts;
  free = λ q y e i. none_on (facts_at z n).transactions.running d q y ok.free (sym ((stay_at z w n k t ok.stands.view).running q) ∙ e) i;
}

runs : (z : Front) (w : Picture) (n : ℕ) (k : ClusterKey) (u : ℕ) (y : Transaction) → Tied z w → StandsInView z n k → transaction (facts_at z n).transactions u ≡ Some y → (w.stay n k).running u ≡ Some (running_from y)
runs z w n k u y t st e = (stay_at z w n k t st.view).running u ∙ ap (option_map running_from) e

resolved : (z : Front) (w : Picture) (n : ℕ) (k : ClusterKey) (u : ℕ) (d : List ℕ) (y : Transaction) → Tied z w → Resolves z n k u d y → IsResolved w n k u d (running_from y)
resolved z w n k u d y t r = record { is_in = is_in z w n k t r.stands; running = runs z w n k u y t r.stands r.running; digest = r.digest; unapplied = r.unapplied; answered = r.answered }

pub answer_ok : (z : Front) (w : Picture) (n : ℕ) (k : ClusterKey) (u : ℕ) (d : List ℕ) (v : Option Version) → Tied z w → AnswerOk z n k u d v → MayAnswer w n k u d v
answer_ok z w n k u d v t ok = record { transaction = running_from ok.item; resolved = resolved z w n k u d ok.item t ok.resolves; best = ok.best }

pub apply_ok : (z : Front) (w : Picture) (n : ℕ) (k : ClusterKey) (u : ℕ) (d : List ℕ) (v : Version) → Tied z w → ApplyOk z n k u d v → MayApply w n k u d v
apply_ok z w n k u d v t ok = record {
  transaction = running_from ok.item;
  resolved = resolved z w n k u d ok.item t ok.resolves;
  next = ok.next ∙ ap (λ (c : ℕ). next ok.item.best c v.body) (sym (t.nodes n).clock);
}

pub finish_ok : (z : Front) (w : Picture) (n : ℕ) (k : ClusterKey) (u : ℕ) → Tied z w → FinishOk z n k u → MayFinish w n k u
finish_ok z w n k u t ok = record { is_in = is_in z w n k t ok.stands; transaction = running_from ok.item; write = ok.write; running = runs z w n k u ok.item t ok.stands ok.running; applied = ok.applied; acked = ok.acked }

pub give_up_ok : (z : Front) (w : Picture) (n : ℕ) (k : ClusterKey) → Tied z w → GiveUpOk z n k → MayGiveUp w n k
give_up_ok z w n k t ok = record { view = (t.nodes n).seen.view ∙ ok.view }

-- ---- copies

counts : (G : Ground) (z : Front) (w : Picture) (n : ℕ) (k : ClusterKey) (p from nth : ℕ) → Sane G (world_of z) → Tied z w → StandsInView z n k
    → (from ≡ map.list_master (list_at (facts_at z n) p) → contains (numbers_at (facts_at z n).writes p) nth ≡ true)
    → from ≡ view_master G k p → contains ((w.stay n k).numbers p) nth ≡ true
counts G z w n k p from nth s t st h e = ap (λ (l : List ℕ). contains l nth) ((stay_at z w n k t st.view).numbers p) ∙ h (e ∙ master_tied G k (facts_at z n) p (views_at G n (facts_at z n) k (s.nodes n) st.view))

brought : (G : Ground) (z : Front) (w : Picture) (n : ℕ) (k : ClusterKey) (d : List ℕ) (v : Version) (from : ℕ) → Sane G (world_of z) → Tied z w → StandsInView z n k → Brings z n k d v from → Brought G w n k d v from
brought G z w n k d v from s t st (inl (b, c, e, a)) = inl (b, was_sent z w from n (message.Batch b) t c, e, a)
brought G z w n k d v from s t st (inr c) = inr (record { number = c.number; nth = c.nth; came = was_sent z w from n (message.Repl k c.number c.nth d v) t c.came; counted = counts G z w n k (partition_of d) from c.nth s t st c.counted })

pub merge_ok : (G : Ground) (z : Front) (w : Picture) (n : ℕ) (k : ClusterKey) (d : List ℕ) (v : Version) → Sane G (world_of z) → Tied z w → MergeOk z n k d v → MayMerge G w n k d v
merge_ok G z w n k d v s t ok = record {
  is_in = is_in z w n k t ok.stands;
  from = ok.from;
  brought = brought G z w n k d v ok.from s t ok.stands ok.brings;
  owed = λ o e. ok.owed o (sym t.owing ∙ e);
}

-- ---- messages

held_so : (z : Front) (w : Picture) (n : ℕ) (d : List ℕ) → Tied z w → (w.node n).content d ≡ finite.get (facts_at z n).store.content d
held_so z w n d t = (t.nodes n).seen.content d

at_most : (G : Ground) (z : Front) (w : Picture) (n : ℕ) (d : List ℕ) (o : Option Version) → Sane G (world_of z) → Tied z w → AtMost (facts_at z n).store.by o (finite.get (facts_at z n).store.content d) → AtMost G.by o ((w.node n).content d)
at_most G z w n d o s t h = subst (λ (by : Policy). AtMost by o ((w.node n).content d)) (sym (s.nodes n).by) (subst (λ (c : Option Version). AtMost (facts_at z n).store.by o c) (sym (held_so z w n d t)) h)

batch_ok : (z : Front) (w : Picture) (n r : ℕ) (b : Batch) → Tied z w → (ok : BatchOk z n r b) → (ok.item.out ≡ Some b) ⊎ NewBatch (facts_at z n) ok.item b → IsBatchToSend (w.node n).content (w.stay n b.key) r b
batch_ok z w n r b t ok (inl e) = inl ((stay_at z w n b.key t ok.stands.view).out r ∙ ap out_of ok.there ∙ e)
batch_ok z w n r b t ok (inr new) = inr (
  (stay_at z w n b.key t ok.stands.view).out r ∙ ap out_of ok.there ∙ new.none,
  new.number ∙ ap (λ (m : ℕ). m + 1) (sym ((stay_at z w n b.key t ok.stands.view).batches r ∙ ap batches_of ok.there)),
  record {
    held = λ d v a. held_so z w n d t ∙ new.held d v a;
    pending = λ d v a. (stay_at z w n b.key t ok.stands.view).pending r d ∙ ap (λ (o : Option Target). has_pending o d) ok.there ∙ new.pending d v a;
  },
)

pub send_ok : (G : Ground) (z : Front) (w : Picture) (n r : ℕ) (m : Message) → Sane G (world_of z) → Tied z w → SendOk G z n r m → MaySend G w n r m
send_ok G z w n r (message.State k wants row) s t ok = record { is_in = is_in z w n k t ok.stands; row = ok.row }
send_ok G z w n r (message.Batch b) s t ok = record { is_in = is_in z w n b.key t ok.stands; exchanged = (stay_at z w n b.key t ok.stands.view).exchanged ∙ ok.exchanged; batch = batch_ok z w n r b t ok ok.batch }
send_ok G z w n r (message.BatchAck k number) s t ok = record { is_in = is_in z w n k t ok.stands; batch = ok.batch; named = ok.named; came = was_sent z w r n (message.Batch ok.batch) t ok.came; held = λ d v a. at_most G z w n d (Some v) s t (ok.held d v a) }
send_ok G z w n r (message.Progress k wants done handed settled) s t ok = record {
  is_in = is_in z w n k t ok.stands;
  done = λ p e. done_tied (facts_at z n) (w.stay n k) p (stay_at z w n k t ok.stands.view) (ok.done p e);
  handed = λ p e. (stay_at z w n k t ok.stands.view).handed p ∙ ok.handed p e;
  settled = λ p e. (stay_at z w n k t ok.stands.view).settled p ∙ ok.settled p e;
}
send_ok G z w n r (message.Repl k u nth d v) s t ok = record {
  is_in = is_in z w n k t ok.stands;
  transaction = running_from ok.item;
  running = runs z w n k u ok.item t ok.stands ok.running;
  digest = ok.digest;
  applied = ok.applied;
  replica = replica_tied G k (facts_at z n) (partition_of d) r (views_at G n (facts_at z n) k (s.nodes n) ok.stands.view) ∙ ok.replica;
  other = ok.other;
}
send_ok G z w n r (message.ReplAck k u) s t ok = record {
  is_in = is_in z w n k t ok.stands;
  nth = ok.nth;
  digest = ok.digest;
  version = ok.version;
  came = was_sent z w r n (message.Repl k u ok.nth ok.digest ok.version) t ok.came;
  counted = counts G z w n k (partition_of ok.digest) r ok.nth s t ok.stands ok.counted;
  held = at_most G z w n ok.digest (Some ok.version) s t ok.held;
}
send_ok G z w n r (message.Ask k u d) s t ok = record { is_in = is_in z w n k t ok.stands; transaction = running_from ok.item; running = runs z w n k u ok.item t ok.stands ok.running; digest = ok.digest }
send_ok G z w n r (message.Answer k u v) s t ok = record { is_in = is_in z w n k t ok.stands; digest = ok.digest; came = was_sent z w r n (message.Ask k u ok.digest) t ok.came; held = ok.held ∙ sym (held_so z w n ok.digest t) }
send_ok G z w n r _ s t ok = tt

pub send_ok_if : (G : Ground) (z : Front) (w : Picture) (n r : ℕ) (m : Option Message) → Sane G (world_of z) → Tied z w → SendOkIf G z n r m → MaySendIf G w n r m
send_ok_if G z w n r None s t ok = tt
send_ok_if G z w n r (Some m) s t ok = send_ok G z w n r m s t ok
