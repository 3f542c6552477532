-- What is due of a tick may stand.
use Rattle.std.proofs.Common.{◌≡◌, ℕ, ◌+◌, ◌<◌, ◌^◌, ◌&&◌, nat_lt, Bool, true, false, List, [], ◌∷◌, ◌++◌, Option, Some, None, refl, sym, ap, subst, ◌∙◌, arith, inl, if◌then◌else◌}
use Rattle.std.proofs.lemmas.Bool.Decides.{nat_tests}
use Rattle.conflict_order.specs.declared.want.Want.{Want}
use Rattle.cluster_types.specs.declared.cluster_key.ClusterKey.{ClusterKey}
use Rattle.cluster_types.specs.declared.member.Member.{Member}
use Rattle.cluster_types.specs.ClusterKeys.{IsBelow}
use Rattle.wire_messages.specs.declared.message.Message.{Message}
use Rattle.wire_messages.specs.declared.message.Message.TheVariants as message
use Rattle.wire_messages.specs.Keys.{IsKeyField}
use Rattle.wire_messages.specs.Nodes.{IsId}
use Rattle.journal_lines.specs.declared.line.Line.{Line}
use Rattle.journal_lines.specs.declared.line.Line.TheVariants as line
use Rattle.node_rules.specs.Agreement as agreement
use Rattle.node_rules.specs.Agreement.{Agreement, Proposal, next_key, has_round, seen_round}
use Rattle.node_rules.specs.Effects.{Effects, nothing, lines_only, sends_only, to_each}
use Rattle.node_rules.specs.Entering.{closing, entering}
use Rattle.cluster_types.specs.Partitions.{partition_count}
use Rattle.node_rules.specs.Copies.{Store}
use Rattle.node_rules.specs.Exchange.{is_single}
use Rattle.node_rules.specs.Facts.{Facts, view_key}
use Rattle.node_rules.specs.Hearing.{heard_ids}
use Rattle.node_rules.specs.Notes.{note, noted, neighbours, after_ages}
use Rattle.node_rules.specs.Settling.{settling_due}
use Rattle.node_rules.specs.Standing.{others}
use Rattle.node_rules.specs.Tick.{parts, parts_in_order, propose_again, proposal_effects, propose_with, propose, is_candidate, beat, rows, transactions, batches, progress, tick_of, settlings, progress_message}
use Rattle.cluster_rules.specs.DueEvents.{written}
use Rattle.cluster_rules.specs.Marks.{Writes}
use Rattle.cluster_rules.specs.Network.{Network}
use Rattle.key_laws.specs.Order.{KeyAtMost}
use Rattle.key_laws.specs.Traced.{Traced, facts_of, traced_after, traced_after_all, with_list}
use Rattle.key_laws.specs.Licences.{IsPromisedKey, Says, MaySendKey, MayPromise, LicensedMarks}
use Rattle.key_laws.proofs.Order.{at_most_below, below_next, same_self}
use Rattle.key_laws.specs.Sound.{GoodList, Proposed, ProposalStands, Outs, RowsKnown, StampsKnown, NodeKeys, Listed, Sound, Grows}
use Rattle.key_laws.proofs.Growth.{grows_on, known_grows, outs_grow, rows_grow, node_grows}
use Rattle.key_laws.proofs.Frames.{num_eq, at_here}
use Rattle.key_laws.proofs.StampLaws.{row_known}
use Rattle.key_laws.proofs.Kept.{Keeps, kept_line, kept_all, outs_new}
use Rattle.key_laws.proofs.Wire.{read_heartbeat, read_propose}
use Rattle.key_laws.proofs.Quiet.{writes, licensed_both, after_both, QuietLines, quiet_append, Calmly, quietly, MayPost, Posts, posts_of, each_posts, posts_append, posts_stay, same_of, written_ok}
use Rattle.key_laws.proofs.DueViews.{view_known, all_view_stays, settling_of_view, closed_store, promised_known, entering_ok, transactions_posts, batches_posts, rows_posts, progress_if_posts, settling_quiet, closed_me, entering_visits}
use Rattle.node_rules.specs.Tables.{only_if}

-- ---- a proposal

-- what the part that proposes does, of these facts
record Proposing (t : Traced) (f : Facts) (e : Effects) : Type 0 where
  ok : LicensedMarks t (writes e.lines)
  posts : Posts (traced_after_all t (writes e.lines)) f.me e.sends
  known : IsPromisedKey (traced_after_all t (writes e.lines)) (view_key (noted None f e.lines))
  outs : Outs (traced_after_all t (writes e.lines)) (noted None f e.lines).batches
  rows : RowsKnown (traced_after_all t (writes e.lines)) (noted None f e.lines).exchange.rows
  finished : (noted None f e.lines).exchange.exchanged ≡ true → (traced_after_all t (writes e.lines)).entered (noted None f e.lines).me (view_key (noted None f e.lines)) ≡ true

keys_here : (t : Traced) (f : Facts) → Sound t → facts_of t f.me ≡ f → NodeKeys t f.me f
keys_here t f s here = subst (λ g. NodeKeys t f.me g) here (s.nodes f.me)

propose_posts : (t : Traced) (n : ℕ) (k : ClusterKey) (ms : List Member) → Sound t → k.principal ≡ n → t.lists k ≡ Some ms → k ≡ (facts_of t n).agreement.promised → IsBelow (facts_of t n).agreement.last k → MayPost t n (message.Propose k ms)
propose_posts t n k ms s own list promised above =
    let listed : Listed t k ms = s.lists k ms list in
    posts_of t n _ (read_propose (λ x. Says t n x × MaySendKey t n x) k ms k.principal listed.key listed.good ((own, list), record { promised = promised; above = above }))

again_ok : (t : Traced) (f : Facts) (p : Proposal) → Sound t → facts_of t f.me ≡ f → f.agreement.proposal ≡ Some p → Proposing t f (propose_again p)
again_ok t f p s here e =
    let h : NodeKeys t f.me f = keys_here t f s here in
    let q : Proposed t f.me f.agreement.promised f.agreement.last p = subst (λ o. ProposalStands t f.me f.agreement.promised f.agreement.last o) e h.agrees.proposal in
    record {
      ok = tt;
      posts = each_posts t f.me _ p.missing (propose_posts t f.me p.key p.members s q.own q.list
          (q.key ∙ ap (λ (g : Facts). g.agreement.promised) (sym here))
          (subst (λ (g : Facts). IsBelow g.agreement.last p.key) (sym here) q.above));
      known = view_known t f.me f h;
      outs = h.outs;
      rows = h.rows;
      finished = h.finished;
    }

nothing_ok : (t : Traced) (f : Facts) → Sound t → facts_of t f.me ≡ f → Proposing t f nothing
nothing_ok t f s here = record { ok = tt; posts = tt; known = view_known t f.me f (keys_here t f s here); outs = (keys_here t f s here).outs; rows = (keys_here t f s here).rows; finished = (keys_here t f s here).finished }

pub next_is_key : (n : ℕ) (a : Agreement) → IsId n → has_round a ≡ true → IsKeyField (next_key n a)
next_is_key n a id e = record { view = record { above_none = omega arith; below_limit = below (seen_round a + 1) e; led = id.positive }; fits = id.fits }
  where
    below : (x : ℕ) → nat_lt x (2 ^ 48) ≡ true → x < 2 ^ 48
    below x e = grind (arith, nat_tests)

-- what is so after a node's promise of its next key
record Promised (t u : Traced) (f : Facts) (k : ClusterKey) : Type 0 where
  ok : MayPromise t f.me k
  keeps : Keeps t u
  promised : k ≡ (facts_of u f.me).agreement.promised
  above : IsBelow (facts_of u f.me).agreement.last k
  list : u.lists k ≡ Some (neighbours f)

promised_next : (t : Traced) (f : Facts) → Sound t → facts_of t f.me ≡ f → IsId f.me → has_round f.agreement ≡ true
    → Promised t (traced_after t (Writes (line.Promise f.me (next_key f.me f.agreement)))) f (next_key f.me f.agreement)
promised_next t f s here id round =
    let k : ClusterKey = next_key f.me f.agreement in
    let l : Line = line.Promise f.me k in
    let up : IsBelow f.agreement.promised k = below_next f.agreement.promised f.me f.agreement.seen in
    let ok : MayPromise t f.me k = record {
      above = subst (λ (g : Facts). IsBelow g.agreement.promised k) (sym here) up;
      source = inl (refl, next_is_key f.me f.agreement id round);
    } in
    let ordered : KeyAtMost (facts_of t f.me).agreement.last (facts_of t f.me).agreement.promised = (s.nodes f.me).agrees.ordered in
    record {
      ok = ok;
      keeps = kept_line t l ok s;
      promised = at_here t.world.facts f.me f.me _ refl (λ (g : Facts). k ≡ g.agreement.promised) refl;
      above = at_here t.world.facts f.me f.me _ refl (λ (g : Facts). IsBelow g.agreement.last k) (at_most_below ordered ok.above);
      list = subst (λ b. (if b then with_list t.lists k (neighbours (facts_of t f.me)) else t.lists) k ≡ Some (neighbours f)) (sym (num_eq f.me f.me refl))
          (ap (λ b. (if b then Some (neighbours (facts_of t f.me)) else t.lists k)) (same_self k) ∙ ap (λ (g : Facts). Some (neighbours g)) here);
    }

-- the facts after an entry
entered_known : (t : Traced) (g : Facts) (n : ℕ) (k : ClusterKey) (ms : List Member) (b : Bool) → IsPromisedKey t k → IsPromisedKey t (view_key (noted None (note None g (line.Enter n k ms)) (only_if (line.Exchanged n k) b)))
entered_known t g n k ms true h = h
entered_known t g n k ms false h = h

entered_outs : (t : Traced) (g : Facts) (n : ℕ) (k : ClusterKey) (ms : List Member) (b : Bool) → Outs t (noted None (note None g (line.Enter n k ms)) (only_if (line.Exchanged n k) b)).batches
entered_outs t g n k ms true = outs_new t (note None g (line.Enter n k ms)) (others (note None g (line.Enter n k ms)))
entered_outs t g n k ms false = tt

entered_rows : (t : Traced) (g : Facts) (n : ℕ) (k : ClusterKey) (ms : List Member) (b : Bool) → StampsKnown t g.store.stamps → RowsKnown t (noted None (note None g (line.Enter n k ms)) (only_if (line.Exchanged n k) b)).exchange.rows
entered_rows t g n k ms true h = (row_known t g.store partition_count 0 h, tt)
entered_rows t g n k ms false h = (row_known t g.store partition_count 0 h, tt)

entered_finished : (t : Traced) (g : Facts) (n : ℕ) (k : ClusterKey) (ms : List Member) (b : Bool) → t.entered g.me k ≡ true
    → t.entered (noted None (note None g (line.Enter n k ms)) (only_if (line.Exchanged n k) b)).me (view_key (noted None (note None g (line.Enter n k ms)) (only_if (line.Exchanged n k) b))) ≡ true
entered_finished t g n k ms true h = h
entered_finished t g n k ms false h = h

noted_append : (q : Option Want) (f : Facts) (a b : List Line) → noted q f (a ++ b) ≡ noted q (noted q f a) b
noted_append q f [] b = refl
noted_append q f (l ∷ a) b = noted_append q (note q f l) a b

-- a view without other members is entered at once
alone_ok : (t : Traced) (f : Facts) → Sound t → facts_of t f.me ≡ f → IsId f.me → has_round f.agreement ≡ true → Proposing t f (proposal_effects f (next_key f.me f.agreement) (neighbours f) [])
alone_ok t f s here id round =
    let k : ClusterKey = next_key f.me f.agreement in
    let ms : List Member = neighbours f in
    let l : Line = line.Promise f.me k in
    let u : Traced = traced_after t (Writes l) in
    let p : Promised t u f k = promised_next t f s here id round in
    let known : IsPromisedKey u (view_key f) = known_grows t u p.keeps.grows (view_key f) (view_known t f.me f (keys_here t f s here)) in
    let good : GoodList f.me ms = (p.keeps.sound.lists k ms p.list).good in
    let entry : LicensedMarks u (writes (entering f k ms)) = entering_ok u f k ms p.keeps.sound known (record { promised = p.promised; above = p.above; list = p.list; among = good.led }) in
    let v : Traced = traced_after_all u (writes (entering f k ms)) in
    let kept_known : IsPromisedKey v k = known_grows u v (kept_all u (writes (entering f k ms)) entry p.keeps.sound).grows k (promised_known u f.me k p.keeps.sound p.promised) in
    let g : Facts = note None f l in
    let to : Grows t v = grows_on t u v p.keeps.grows (kept_all u (writes (entering f k ms)) entry p.keeps.sound).grows in
    let stamps : StampsKnown v f.store.stamps = (node_grows t v to f.me f (keys_here t f s here)).stamps in
    let e : noted None g (entering f k ms) ≡ noted None (note None (noted None g (closing f)) (line.Enter f.me k ms)) (only_if (line.Exchanged f.me k) (is_single ms)) =
    noted_append None g (closing f) (line.Enter f.me k ms ∷ only_if (line.Exchanged f.me k) (is_single ms)) in
    record {
      ok = (p.ok, entry);
      posts = tt;
      known = subst (λ (x : Facts). IsPromisedKey v (view_key x)) (sym e) (entered_known v (noted None g (closing f)) f.me k ms (is_single ms) kept_known);
      outs = subst (λ (x : Facts). Outs v x.batches) (sym e) (entered_outs v (noted None g (closing f)) f.me k ms (is_single ms));
      rows = subst (λ (x : Facts). RowsKnown v x.exchange.rows) (sym e) (entered_rows v (noted None g (closing f)) f.me k ms (is_single ms)
          (subst (λ (x : Store). StampsKnown v x.stamps) (sym (closed_store None f g)) stamps));
      finished = λ _. subst (λ (x : Facts). v.entered x.me (view_key x) ≡ true) (sym e) (entered_finished v (noted None g (closing f)) f.me k ms (is_single ms)
          (subst (λ (m : ℕ). v.entered m k ≡ true) (sym (closed_me None f g)) (entering_visits u f k ms)));
    }

-- a view with others is proposed to them
proposed_ok : (t : Traced) (f : Facts) (n : ℕ) (ns : List ℕ) → Sound t → facts_of t f.me ≡ f → IsId f.me → has_round f.agreement ≡ true → Proposing t f (proposal_effects f (next_key f.me f.agreement) (neighbours f) (n ∷ ns))
proposed_ok t f n ns s here id round =
    let k : ClusterKey = next_key f.me f.agreement in
    let u : Traced = traced_after t (Writes (line.Promise f.me k)) in
    let p : Promised t u f k = promised_next t f s here id round in
    let h : NodeKeys t f.me f = keys_here t f s here in
    record {
      ok = (p.ok, tt);
      posts = each_posts u f.me _ (n ∷ ns) (propose_posts u f.me k (neighbours f) p.keeps.sound refl p.list p.promised p.above);
      known = known_grows t u p.keeps.grows (view_key f) (view_known t f.me f h);
      outs = outs_grow t u p.keeps.grows f.batches h.outs;
      rows = rows_grow t u p.keeps.grows f.exchange.rows h.rows;
      finished = λ e. p.keeps.grows.entered f.me (view_key f) (h.finished e);
    }

propose_ok : (t : Traced) (f : Facts) → Sound t → facts_of t f.me ≡ f → IsId f.me → Proposing t f (propose f)
propose_ok t f s here id = go f.agreement.proposal refl
  where
    to : (ns : List ℕ) → has_round f.agreement ≡ true → Proposing t f (proposal_effects f (next_key f.me f.agreement) (neighbours f) ns)
    to [] round = alone_ok t f s here id round
    to (n ∷ ns) round = proposed_ok t f n ns s here id round

    second : (a b : Bool) → (a && b) ≡ true → b ≡ true
    second true b e = e
    second false b e = absurd (grind arith)

    new : (b : Bool) → (is_candidate f && has_round f.agreement) ≡ b → Proposing t f (if b then proposal_effects f (next_key f.me f.agreement) (neighbours f) (agreement.others_among f.me (neighbours f)) else nothing)
    new true e = to (agreement.others_among f.me (neighbours f)) (second (is_candidate f) (has_round f.agreement) e)
    new false e = nothing_ok t f s here

    go : (o : Option Proposal) → f.agreement.proposal ≡ o → Proposing t f (propose_with f o)
    go (Some p) e = again_ok t f p s here e
    go None e = new (is_candidate f && has_round f.agreement) refl

-- ---- the tick

beat_posts : (t : Traced) (f : Facts) → IsId f.me → IsPromisedKey t (view_key f) → IsPromisedKey t f.agreement.promised → Posts t f.me (beat f).sends
beat_posts t f id view promised =
    each_posts t f.me _ f.peers (posts_of t f.me _ (read_heartbeat (λ x. Says t f.me x × MaySendKey t f.me x) (view_key f) f.agreement.promised (heard_ids f.hearing.heard) f.role view.field promised.field (λ h r. ((id, view, promised), tt))))

-- all effects of the parts behind the line of the tick
record Parts (t : Traced) (f : Facts) (e : Effects) : Type 0 where
  ok : LicensedMarks t (writes e.lines)
  posts : Posts (traced_after_all t (writes e.lines)) f.me e.sends

-- the messages of a tick: by the facts before the proposal, after it, and after settling
abbrev all_sends : ℕ → Facts → Effects → Facts → Facts → List (ℕ × Message)
all_sends n f fe g i = (beat f).sends ++ (fe.sends ++ ((rows g).sends ++ ((transactions g).sends ++ ((batches g).sends ++ ((progress n i).sends ++ [])))))

progress_lines : (t : Traced) (n : ℕ) (f : Facts) (b : Bool) → QuietLines t (if b then sends_only (to_each (others f) (progress_message n f true)) else nothing).lines
progress_lines t n f true = tt
progress_lines t n f false = tt

parts_ok : (t : Traced) (f : Facts) (n : ℕ) → Sound t → facts_of t f.me ≡ f → IsId f.me
    → (fe : Effects) → propose f ≡ fe → Proposing t f fe
    → Parts t f (record {
      lines = fe.lines ++ (settling_due n (noted None f fe.lines) ++ ((progress n (noted None (noted None f fe.lines) (settling_due n (noted None f fe.lines)))).lines ++ []));
      sends = all_sends n f fe (noted None f fe.lines) (noted None (noted None f fe.lines) (settling_due n (noted None f fe.lines)));
    })
parts_ok t f n s here id fe e p =
    let u : Traced = traced_after_all t (writes fe.lines) in
    let k : Keeps t u = kept_all t (writes fe.lines) p.ok s in
    let g : Facts = noted None f fe.lines in
    let ls : List Line = settling_due n g in
    let i : Facts = noted None g ls in
    let rest : List Line = (progress n i).lines ++ [] in
    let c0 : Calmly u (ls ++ rest) = quietly u (ls ++ rest) k.sound (quiet_append u ls rest (settling_quiet u n g p.known p.finished) (quiet_append u (progress n i).lines [] (progress_lines u n i _) tt)) in
    let w : Traced = traced_after_all u (writes (ls ++ rest)) in
    let h : NodeKeys t f.me f = keys_here t f s here in
    let first : Grows t w = grows_on t u w k.grows c0.keeps.grows in
    let view : IsPromisedKey w (view_key g) = known_grows u w c0.keeps.grows (view_key g) p.known in
    record {
      ok = licensed_both t fe.lines (ls ++ rest) p.ok c0.ok;
      posts = subst (λ (x : Traced). Posts x f.me (all_sends n f fe g i)) (sym (after_both t fe.lines (ls ++ rest)))
          (posts_append w f.me (beat f).sends _ (beat_posts w f id (known_grows t w first (view_key f) (view_known t f.me f h)) (known_grows t w first _ h.agrees.promised))
          (posts_append w f.me fe.sends _ (posts_stay u w f.me c0.keeps.grows (same_of u w f.me c0.same) fe.sends p.posts)
          (posts_append w f.me (rows g).sends _ (rows_posts w f.me g view (rows_grow u w c0.keeps.grows g.exchange.rows p.rows))
          (posts_append w f.me (transactions g).sends _ (transactions_posts w f.me g view)
          (posts_append w f.me (batches g).sends _ (batches_posts w f.me g view (outs_grow u w c0.keeps.grows g.batches p.outs))
          (posts_append w f.me (progress n i).sends [] (progress_if_posts w f.me n i _ (subst (λ x. IsPromisedKey w x) (sym (all_view_stays None g g.me (view_key g) ls (settling_of_view n g))) view)) tt))))));
    }

pub tick_ok : (t : Traced) (net : Network) (f : Facts) (n : ℕ) → Sound t → facts_of t f.me ≡ f → IsId f.me → LicensedMarks t (writes (written net f.me (tick_of n f)))
tick_ok t net f n s here id = go f.up
  where
    u : Traced
    u = traced_after t (Writes (line.Tick f.me))

    first : Keeps t u
    first = kept_line t (line.Tick f.me) tt s

    f1 : Facts
    f1 = after_ages f

    here1 : facts_of u f.me ≡ f1
    here1 = at_here t.world.facts f.me f.me _ refl (λ (g : Facts). g ≡ f1) (ap (λ (g : Facts). after_ages g) here)

    all : Parts u f1 (parts_in_order (beat ∷ propose ∷ rows ∷ transactions ∷ batches ∷ settlings n ∷ progress n ∷ []) f1)
    all = parts_ok u f1 n first.sound here1 id (propose f1) refl (propose_ok u f1 first.sound here1 id)

    go : (b : Bool) → LicensedMarks t (writes (written net f.me (if b then parts_in_order (parts n) f else lines_only (line.Down f.me ∷ []))))
    go true = written_ok t f.me net (parts_in_order (parts n) f) (tt, all.ok) s all.posts
    go false = written_ok t f.me net (if false then parts_in_order (parts n) f else lines_only (line.Down f.me ∷ [])) (tt, tt) s tt
