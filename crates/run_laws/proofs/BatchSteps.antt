-- A batch: its records are merged one after another, and it is acknowledged.
use Rattle.std.proofs.Common.{◌≡◌, ℕ, zero, suc, Bool, true, false, cond, List, [], ◌∷◌, ◌++◌, Option, Some, None, refl, sym, ap, ◌∙◌, subst, inl}
use Rattle.std.specs.Prelude.{bytes_eq, slice_get, if◌then◌else◌}
use Rattle.std.specs.FinMap as finite
use Rattle.conflict_order.specs.declared.policy.Policy.{Policy}
use Rattle.conflict_order.specs.declared.version.Version.{Version}
use Rattle.conflict_order.specs.Join.{AtMost, join}
use Rattle.conflict_order.specs.Order.{is_newer}
use Rattle.conflict_order.proofs.JoinLaws.{AtMost_join_left}
use Rattle.cluster_types.specs.declared.cluster_key.ClusterKey.{ClusterKey}
use Rattle.journal_lines.specs.declared.line.Line.{Line}
use Rattle.journal_lines.specs.declared.line.Line.TheVariants as line
use Rattle.wire_messages.specs.declared.message.Batch.{Batch}
use Rattle.wire_messages.specs.declared.message.Message.TheVariants as message
use Rattle.node_rules.specs.Copies.{Content, joined}
use Rattle.node_rules.specs.Exchange.{View, Exchange}
use Rattle.node_rules.specs.Facts.{Facts, view_key}
use Rattle.node_rules.specs.Messages as due
use Rattle.node_rules.specs.Messages.{merging, merging_all}
use Rattle.node_rules.specs.Notes as notes
use Rattle.node_rules.specs.Notes.{note, noted, in_view}
use Rattle.cluster_rules.specs.Marks.{Writes}
use Rattle.cluster_rules.specs.Network.{Network, posting_at}
use Rattle.cluster_laws.specs.Licences.{IsAmong}
use Rattle.cluster_laws.proofs.At.{some_same, no_some, digests}
use Rattle.wire_messages.proofs.DecodingLaws.{what_is_read, read_back}
use Rattle.node_rules.specs.Tables.{only_if}
use Rattle.run_laws.proofs.Reading.{reads_itself}
use Rattle.run_laws.specs.Fronts.{Front, world_of, facts_at, front_after}
use Rattle.run_laws.specs.LineOk.{Came, IsDeclared}
use Rattle.run_laws.specs.LineDue.{AllDue}
use Rattle.run_laws.specs.Steps.{RestsWith, Rests}
use Rattle.run_laws.specs.Tied.{key_in}
use Rattle.run_laws.proofs.Arrived.{Arrived, ended_at, stale_go}
use Rattle.run_laws.proofs.CopySteps.{held_at_least, merged_holds}
use Rattle.run_laws.proofs.NodeSteps.{NodeGo}
use Rattle.run_laws.specs.Spelled.{AreReadInRange}
use Rattle.run_laws.proofs.Tables.{joined_at}
use Rattle.run_laws.proofs.Turns.{after_lines, Elsewhere, nothing_moves, elsewhere_on, ended_but, here, away}
use Rattle.run_laws.proofs.ViewSteps.{Viewed, view_of}
use Rattle.node_rules.specs.Effects.{lines_and_sends, to_one}
use Rattle.node_rules.specs.StaleMessages.{stale}

-- what merges leave at the node
record Merges (n : ℕ) (z y : Front) (f g : Facts) (rs : List (List ℕ × Version)) : Type 0 where
  is : facts_at y n ≡ g
  exchange : g.exchange ≡ f.exchange
  transactions : g.transactions ≡ f.transactions
  by : g.store.by ≡ f.store.by
  net : (world_of y).network ≡ (world_of z).network
  owed : y.owed ≡ None
  closing : y.closing ≡ z.closing
  elsewhere : Elsewhere n z y
  grows : (d : List ℕ) (o : Option Version) → AtMost f.store.by o (finite.get f.store.content d) → AtMost f.store.by o (finite.get g.store.content d)
  holds : (d : List ℕ) (v : Version) → IsAmong rs d v → AtMost f.store.by (Some v) (finite.get g.store.content d)

-- lines that are due, and what they leave
record MergesLines (n : ℕ) (z : Front) (f : Facts) (rs : List (List ℕ × Version)) (ls : List Line) (g : Facts) : Type 0 where
  due : AllDue z ls
  merges : Merges n z (after_lines z ls) f g rs

abbrev MergesGo : ℕ → Front → Facts → List (List ℕ × Version) → Type 0
MergesGo n z f rs = MergesLines n z f rs (merging_all f rs) (noted None f (merging_all f rs))

join_keeps : (by : Policy) (c : Content) (e : List ℕ) (v : Version) (d : List ℕ) (o : Option Version) → AtMost by o (finite.get c d) → AtMost by o (finite.get (joined by c e v) d)
join_keeps by c e v d o h = subst (AtMost by o) (sym (joined_at by c e v d)) (go (bytes_eq e d) refl)
  where
    go : (b : Bool) → bytes_eq e d ≡ b → AtMost by o (cond b (join by (finite.get c e) (Some v)) (finite.get c d))
    go true i = AtMost_join_left (Some v) (subst (λ (x : List ℕ). AtMost by o (finite.get c x)) (sym (digests.same e d i)) h)
    go false i = h

among_cases : (r : List ℕ × Version) (rs : List (List ℕ × Version)) (d : List ℕ) (v : Version) (P : List ℕ → Version → Type 0) → P r.0 r.1 → (IsAmong rs d v → P d v) → IsAmong (r ∷ rs) d v → P d v
among_cases r rs d v P first rest a = go a.place a.here
  where
    go : (i : ℕ) → slice_get (r ∷ rs) i ≡ Some (d, v) → P d v
    go zero e = subst (λ (x : List ℕ × Version). P x.0 x.1) (some_same e) first
    go (suc i) e = rest (record { place = i; here = e })

-- merges of a batch that came, in its view
merges_go : (n : ℕ) (z : Front) (f : Facts) (b : Batch) (from : ℕ) (u : View) (rs : List (List ℕ × Version)) → f.me ≡ n → facts_at z n ≡ f → z.closing n ≡ false → z.owed ≡ None → f.exchange.view ≡ Some u → u.key ≡ b.key → view_key f ≡ b.key
    → Came z from n (message.Batch b) → IsDeclared z n → ((d : List ℕ) (v : Version) → IsAmong rs d v → IsAmong b.records d v) → MergesGo n z f rs
merges_go n z f b from u [] me is st o v k named came dec among = record {
  due = tt;
  merges = record { is = is; exchange = refl; transactions = refl; by = refl; net = refl; owed = o; closing = refl; elsewhere = nothing_moves n z; grows = λ d x h. h; holds = λ d x a. no_some (sym (none a.place) ∙ a.here) };
}
  where
    none : (i : ℕ) → slice_get {X = List ℕ × Version} [] i ≡ None
    none zero = refl
    none (suc i) = refl
merges_go n z f b from u (r ∷ rs) me is st o v k named came dec among = go (is_newer f.store.by r.1 (finite.get f.store.content r.0)) refl
    (merges_go n z f b from u rs me is st o v k named came dec later)
    (merges_go n (front_after z (Writes (line.Merge n b.key r.0 r.1))) (notes.merged f b.key r.0 r.1) b from u rs me (here (world_of z).facts n _ ∙ ap (λ (x : Facts). notes.merged x b.key r.0 r.1) is) st refl v k named
    (record { number = came.number; posting = came.posting; sent = came.sent; ends = came.ends; message = came.message }) dec later)
  where
    later : (d : List ℕ) (x : Version) → IsAmong rs d x → IsAmong b.records d x
    later d x a = among d x (record { place = suc a.place; here = a.here })

    -- with the record's own line, where it is newer
    first : MergesGo n (front_after z (Writes (line.Merge n b.key r.0 r.1))) (notes.merged f b.key r.0 r.1) rs → MergesLines n z f (r ∷ rs) (line.Merge n b.key r.0 r.1 ∷ merging_all (notes.merged f b.key r.0 r.1) rs) (noted None (notes.merged f b.key r.0 r.1) (merging_all (notes.merged f b.key r.0 r.1) rs))
    first rest = record {
      due = (
        record {
          stands = record { view = ap (λ (x : Facts). key_in x.exchange.view) is ∙ ap key_in v ∙ ap Some k; stays = st };
          from = from;
          brings = inl (b, came, refl, among r.0 r.1 (record { place = zero; here = refl }));
          owed = λ x i. no_some (sym o ∙ i);
          declared = dec;
        },
        rest.due,
      );
      merges = record {
        is = rest.merges.is;
        exchange = rest.merges.exchange;
        transactions = rest.merges.transactions;
        by = rest.merges.by;
        net = rest.merges.net;
        owed = rest.merges.owed;
        closing = rest.merges.closing;
        elsewhere = elsewhere_on n z _ _ (record { facts = λ m e. away (world_of z).facts n _ m e; closing = λ m e. refl }) rest.merges.elsewhere;
        grows = λ d x h. rest.merges.grows d x (join_keeps f.store.by f.store.content r.0 r.1 d x h);
        holds = λ d x a. among_cases r rs d x (λ (e : List ℕ) (y : Version). AtMost f.store.by (Some y) (finite.get (noted None (notes.merged f b.key r.0 r.1) (merging_all (notes.merged f b.key r.0 r.1) rs)).store.content e))
            (rest.merges.grows r.0 (Some r.1) (merged_holds f b.key r.0 r.1)) (rest.merges.holds d x) a;
      };
    }

    go : (q : Bool) → is_newer f.store.by r.1 (finite.get f.store.content r.0) ≡ q → MergesGo n z f rs → MergesGo n (front_after z (Writes (line.Merge n b.key r.0 r.1))) (notes.merged f b.key r.0 r.1) rs
        → MergesLines n z f (r ∷ rs) (only_if (line.Merge f.me (view_key f) r.0 r.1) q ++ merging_all (noted None f (only_if (line.Merge f.me (view_key f) r.0 r.1) q)) rs)
        (noted None f (only_if (line.Merge f.me (view_key f) r.0 r.1) q ++ merging_all (noted None f (only_if (line.Merge f.me (view_key f) r.0 r.1) q)) rs))
    go true e old new = subst (λ (m : ℕ). MergesLines n z f (r ∷ rs) (line.Merge m (view_key f) r.0 r.1 ∷ merging_all (notes.merged f (view_key f) r.0 r.1) rs) (noted None (notes.merged f (view_key f) r.0 r.1) (merging_all (notes.merged f (view_key f) r.0 r.1) rs))) (sym me)
        (subst (λ (j : ClusterKey). MergesLines n z f (r ∷ rs) (line.Merge n j r.0 r.1 ∷ merging_all (notes.merged f j r.0 r.1) rs) (noted None (notes.merged f j r.0 r.1) (merging_all (notes.merged f j r.0 r.1) rs))) (sym named) (first new))
    go false e old new = record {
      due = old.due;
      merges = record {
        is = old.merges.is;
        exchange = old.merges.exchange;
        transactions = old.merges.transactions;
        by = old.merges.by;
        net = old.merges.net;
        owed = old.merges.owed;
        closing = old.merges.closing;
        elsewhere = old.merges.elsewhere;
        grows = old.merges.grows;
        holds = λ d x a. among_cases r rs d x (λ (e : List ℕ) (y : Version). AtMost f.store.by (Some y) (finite.get (noted None f (merging_all f rs)).store.content e))
            (old.merges.grows r.0 (Some r.1) (held_at_least f.store.by (finite.get f.store.content r.0) r.1 e)) (old.merges.holds d x) a;
      };
    }

-- ---- the batch

pub batch_go : {by : Policy} {factor : ℕ} {z0 z : Front} {f : Facts} {clock from : ℕ} {b : Batch} → Arrived by factor z0 z f clock from (message.Batch b) → AreReadInRange (due.due_batch f from b).sends → NodeGo z f.me (due.due_batch f from b)
batch_go {by} {factor} {z0} {z} {f} {clock} {from} {b} a read = go (in_view f b.key) refl read
  where
    go : (q : Bool) → in_view f b.key ≡ q → AreReadInRange (if q then lines_and_sends (merging_all f b.records) (to_one from (message.BatchAck b.key b.number)) else stale f).sends → NodeGo z f.me (if q then lines_and_sends (merging_all f b.records) (to_one from (message.BatchAck b.key b.number)) else stale f)
    go false e r = stale_go z f (ended_at a a.owes a.rests)
    go true e r =
        let v : Viewed f b.key = view_of f b.key e in
        let m : MergesGo f.me z f b.records = merges_go f.me z f b from v.view b.records refl a.is a.stays a.owes v.is v.key v.named a.came (a.declared v.view v.is) (λ d x i. i) in
        record {
          due = m.due;
          sent = ap (λ (x : Network). x.sent) m.merges.net;
          sends = (
            record {
              plain = refl;
              read = reads_itself _ (read_back (message.BatchAck b.key b.number) ((what_is_read a.came.posting.bytes (message.Batch b) a.came.message).0.key, (what_is_read a.came.posting.bytes (message.Batch b) a.came.message).0.number));
              due = record {
                stands = record { view = ap (λ (x : Facts). key_in x.exchange.view) m.merges.is ∙ ap (λ (x : Exchange). key_in x.view) m.merges.exchange ∙ ap key_in v.is ∙ ap Some v.key; stays = ap (λ (c : ℕ → Bool). c f.me) m.merges.closing ∙ a.stays };
                batch = b;
                named = (refl, refl);
                came = record { number = a.came.number; posting = a.came.posting; sent = ap (λ (x : Network). posting_at x a.came.number) m.merges.net ∙ a.came.sent; ends = a.came.ends; message = a.came.message };
                held = λ d x i. subst (λ (g : Facts). AtMost g.store.by (Some x) (finite.get g.store.content d)) (sym m.merges.is)
                    (subst (λ (p : Policy). AtMost p (Some x) (finite.get (noted None f (merging_all f b.records)).store.content d)) (sym m.merges.by) (m.merges.holds d x i));
              };
            },
            tt,
          );
          ends = ended_but f.me z0 _ (elsewhere_on f.me z0 z _ a.elsewhere m.merges.elsewhere) a.before m.merges.owed (ap (λ (c : ℕ → Bool). c f.me) m.merges.closing ∙ a.stays)
              (subst (λ (g : Facts). Rests g) (sym m.merges.is) (subst (λ (x : Exchange). RestsWith x (noted None f (merging_all f b.records)).transactions.running) (sym m.merges.exchange) (subst (λ ts. RestsWith f.exchange ts.running) (sym m.merges.transactions) a.rests)));
        }
