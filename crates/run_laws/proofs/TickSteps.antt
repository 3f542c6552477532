-- A tick: its lines, part by part, and then its messages.
use Rattle.std.proofs.Common.{◌≡◌, ℕ, Bool, true, false, not, ◌&&◌, List, [], ◌∷◌, ◌++◌, length, map, Option, Some, None, refl, sym, ap, ◌∙◌, subst, inl, inr, if◌then◌else◌}
use Rattle.std.specs.FinMap as finite
use Rattle.conflict_order.specs.declared.policy.Policy.{Policy}
use Rattle.cluster_types.specs.Partitions.{partition_count}
use Rattle.journal_lines.specs.declared.line.Line.{Line}
use Rattle.journal_lines.specs.declared.line.Line.TheVariants as line
use Rattle.wire_messages.specs.declared.message.Message.{Message}
use Rattle.wire_messages.specs.declared.message.Message.TheVariants as message
use Rattle.wire_messages.specs.Nodes.{IsId}
use Rattle.node_rules.specs.Batches.{Target}
use Rattle.node_rules.specs.declared.member_row.MemberRow.{MemberRow}
use Rattle.key_laws.proofs.DueTick.{next_is_key}
use Rattle.run_laws.specs.Chronicle.{IsRowOf}
use Rattle.node_rules.specs.Effects.{Effects, lines_only, nothing, sends_only, to_each}
use Rattle.node_rules.specs.Exchange.{View, Exchange}
use Rattle.node_rules.specs.Facts.{Facts}
use Rattle.node_rules.specs.Notes.{noted, after_ages, neighbours}
use Rattle.node_rules.specs.Settling.{settling_due, settling_from}
use Rattle.node_rules.specs.Standing.{knows_all_settled, others}
use Rattle.node_rules.specs.Tick.{beat, propose, rows, transactions, batches, progress, tick_of, parts, parts_in_order, progress_message}
use Rattle.cluster_rules.specs.declared.event.Event.TheVariants as event
use Rattle.cluster_rules.specs.DueEvents.{due_of, sent_lines, written}
use Rattle.cluster_rules.specs.Marks.{Mark, Begins, Writes}
use Rattle.cluster_rules.specs.Network.{Network}
use Rattle.cluster_laws.proofs.At.{differ}
use Rattle.key_laws.specs.Licences.{LicensedMarks}
use Rattle.key_laws.specs.Sound.{Hears, GoodList, NodeKeys, Proposed, ProposalStands, Listed}
use Rattle.key_laws.specs.Traced.{Traced}
use Rattle.key_laws.specs.Traced as traced
use Rattle.key_laws.proofs.DueSteps.{step_ok}
use Rattle.key_laws.proofs.Neighbours.{neighbours_good}
use Rattle.run_laws.specs.Due.{SettleOk, Along, SettledOnly}
use Rattle.run_laws.specs.Fronts.{Front, world_of, facts_at, front_after}
use Rattle.run_laws.specs.LineDue.{AllDue, LawOf, LawfulFront}
use Rattle.run_laws.specs.Spelled.{SendsRead}
use Rattle.run_laws.specs.Steps.{RestsWith, Rests, Ended}
use Rattle.run_laws.specs.Tied.{Each, Among}
use Rattle.run_laws.proofs.EventSteps.{Starts, begin}
use Rattle.run_laws.proofs.Grounded.{onward_all}
use Rattle.run_laws.specs.Spelled.{AreReadInRange}
use Rattle.run_laws.proofs.OwnLines.{Ownly, all_own, SettlesAll, settles_all, Free, ProposeGo, propose_goes}
use Rattle.run_laws.proofs.PlainSteps.{beside_ended}
use Rattle.run_laws.proofs.Settling.{settling_along, settling_only, only_itself, pending_stays}
use Rattle.run_laws.proofs.Softly.{is_told, is_batch, EachSoftly, SoftGo, softly_go, softly_ended, told_before}
use Rattle.run_laws.specs.LineOk.{IsDeclared}
use Rattle.node_rules.specs.Tables.{contains}
use Rattle.cluster_rules.proofs.AllowedLaws.{nodes_stay}
use Rattle.run_laws.proofs.TickSends.{told_each, Behind, Told, read_left, read_right, rows_told, transactions_told, batches_go, progress_told}
use Rattle.wire_messages.specs.Keys.{IsKeyField}
use Rattle.node_rules.specs.Agreement.{Proposal, next_key, has_round}
use Rattle.key_laws.proofs.DueViews.{view_known}
use Rattle.key_laws.proofs.Wire.{read_propose, read_heartbeat}
use Rattle.node_rules.specs.Exchange.{exchange_key}
use Rattle.run_laws.proofs.Grounded.{entered_view}
use Rattle.run_laws.proofs.Reading.{Alike, ReadsWell}
use Rattle.node_rules.specs.Facts.{view_key}
use Rattle.node_rules.specs.Hearing.{heard_ids}
use Rattle.run_laws.proofs.Turns.{LinesGo, after_lines, lines_append, all_append, due_marks, ended_but, here}

-- ---- the front behind the lines

licensed_first : (t : Traced) (a b : List Mark) → LicensedMarks t (a ++ b) → LicensedMarks t a
licensed_first t [] b h = tt
licensed_first t (m ∷ a) b h = (h.0, licensed_first (traced.traced_after t m) a b h.1)

marks_append : (a b : List Line) → map Writes (a ++ b) ≡ map Writes a ++ map Writes b
marks_append [] b = refl
marks_append (l ∷ a) b = ap (λ (ms : List Mark). Writes l ∷ ms) (marks_append a b)

-- settling, also out of a view
settles_along : {by : Policy} {factor : ℕ} (g : Facts) → LawOf by factor g → Along SettleOk g (settling_due partition_count g)
settles_along g law = go g.exchange.view refl
  where
    go : (o : Option View) → g.exchange.view ≡ o → Along SettleOk g (settling_due partition_count g)
    go (Some v) e = settling_along g v e
    go None e = subst (λ (b : Bool). Along SettleOk g (if b then settling_from partition_count 0 g else [])) (sym (law.inside e)) tt

settles_only : {by : Policy} {factor : ℕ} (g : Facts) → LawOf by factor g → SettledOnly g (noted None g (settling_due partition_count g))
settles_only g law = go g.exchange.view refl
  where
    go : (o : Option View) → g.exchange.view ≡ o → SettledOnly g (noted None g (settling_due partition_count g))
    go (Some v) e = settling_only g v e
    go None e = subst (λ (b : Bool). SettledOnly g (noted None g (if b then settling_from partition_count 0 g else []))) (sym (law.inside e)) (only_itself g)

pending_held : {by : Policy} {factor : ℕ} (g : Facts) → LawOf by factor g → (t : Target) → Among g.batches t → (d : List ℕ) → Among t.pending d
    → finite.get (noted None g (settling_due partition_count g)).store.content d ≡ finite.get g.store.content d
pending_held g law t a d i = go g.exchange.view refl
  where
    go : (o : Option View) → g.exchange.view ≡ o → finite.get (noted None g (settling_due partition_count g)).store.content d ≡ finite.get g.store.content d
    go (Some v) e = pending_stays g v e t a d i
    go None e = subst (λ (b : Bool). finite.get (noted None g (if b then settling_from partition_count 0 g else [])).store.content d ≡ finite.get g.store.content d) (sym (law.inside e)) refl

nodes_all : (z : Front) (ls : List Line) → (world_of (after_lines z ls)).nodes ≡ (world_of z).nodes
nodes_all z [] = refl
nodes_all z (l ∷ ls) = nodes_all (front_after z (Writes l)) ls
    ∙ nodes_stay (Writes l ∷ []) (world_of z)

-- the heartbeat of these facts
abbrev beat_of : Facts → Message
beat_of f = message.Heartbeat (view_key f) f.agreement.promised (heard_ids f.hearing.heard) f.role

-- ---- the messages

told_free : (z : Front) (n : ℕ) (ss : List (ℕ × Message)) → Free n ss → AreReadInRange ss
    → Told z n ss
told_free z n [] f r = tt
told_free z n (s ∷ ss) f r = ((f.0.0, f.0.1, f.0.2 z), told_free z n ss f.1 r.1)

told_last : (z : Front) (n : ℕ) (ss : List (ℕ × Message)) → Told z n ss → EachSoftly z n (ss ++ [])
told_last z n ss h = told_before z n ss [] h tt

no_batches : (z : Front) (n : ℕ) (ss : List (ℕ × Message)) → Told z n ss → Each (λ (s : ℕ × Message). is_batch s.1 ≡ false) (ss ++ [])
no_batches z n [] h = tt
no_batches z n (s ∷ ss) h = (told_not s.1 h.0.0, no_batches z n ss h.1)
  where
    told_not : (m : Message) → is_told m ≡ true → is_batch m ≡ false
    told_not (message.Batch b) e = differ e refl
    told_not _ e = refl

abbrev all_sends : Facts → Effects → Facts → Facts → List (ℕ × Message)
all_sends f fe g i = (beat f).sends ++ (fe.sends ++ ((rows g).sends ++ ((transactions g).sends ++ ((batches g).sends ++ ((progress partition_count i).sends ++ [])))))

sends_soft : {by : Policy} {factor : ℕ} {z : Front} {g i : Facts} (f : Facts) (fe : Effects) → Behind by factor z f.me g i → i.me ≡ f.me → IsDeclared z f.me → ReadsWell (beat_of f) → Free f.me fe.sends → AreReadInRange (all_sends f fe g i) → EachSoftly z f.me (all_sends f fe g i)
sends_soft {by} {factor} {z} {g} {i} f fe b me dec beats free read =
    let r1 : AreReadInRange (fe.sends ++ ((rows g).sends ++ ((transactions g).sends ++ ((batches g).sends ++ ((progress partition_count i).sends ++ []))))) = read_right (beat f).sends _ read in
    let r2 : AreReadInRange ((rows g).sends ++ ((transactions g).sends ++ ((batches g).sends ++ ((progress partition_count i).sends ++ [])))) = read_right fe.sends _ r1 in
    let r3 : AreReadInRange ((transactions g).sends ++ ((batches g).sends ++ ((progress partition_count i).sends ++ []))) = read_right (rows g).sends _ r2 in
    let r4 : AreReadInRange ((batches g).sends ++ ((progress partition_count i).sends ++ [])) = read_right (transactions g).sends _ r3 in
    let r5 : AreReadInRange ((progress partition_count i).sends ++ []) = read_right (batches g).sends _ r4 in
    let last : Told z f.me (progress partition_count i).sends = subst (λ (n : ℕ). Told z n (progress partition_count i).sends) me
    (progress_told z i (i.exchange.exchanged && not (knows_all_settled i partition_count 0)) (record { is = ap (facts_at z) me ∙ b.is; stays = b.ended.stays i.me; owes = b.ended.owes }) b.key b.law.handed_places b.law.settled_places (read_left (progress partition_count i).sends [] r5)) in
    told_before z f.me (beat f).sends _ (told_each z f.me _ f.peers refl (λ r c. dec) (λ q. beats) (read_left (beat f).sends _ read))
    (told_before z f.me fe.sends _ (told_free z f.me fe.sends free (read_left fe.sends _ r1))
    (told_before z f.me (rows g).sends _ (rows_told b (read_left (rows g).sends _ r2))
    (told_before z f.me (transactions g).sends _ (transactions_told b (read_left (transactions g).sends _ r3))
    (batches_go b ((progress partition_count i).sends ++ []) (no_batches z f.me (progress partition_count i).sends last) (told_last z f.me (progress partition_count i).sends last) (read_left (batches g).sends _ r4)))))

-- ---- all lines

-- what a tick writes behind its own line, of these facts
abbrev tick_lines : Facts → Effects → List Line
tick_lines f fe = fe.lines ++ (settling_due partition_count (noted None f fe.lines) ++ ((progress partition_count (noted None (noted None f fe.lines) (settling_due partition_count (noted None f fe.lines)))).lines ++ []))

no_progress : (i : Facts) (q : Bool) → (if q then sends_only (to_each (others i) (progress_message partition_count i true)) else nothing).lines ≡ []
no_progress i true = refl
no_progress i false = refl

-- the front behind the proposal, and behind settling
pub record TickFronts (by : Policy) (factor : ℕ) (z : Front) (f : Facts) (fe : Effects) : Type 0 where
  pub due : AllDue z (fe.lines ++ settling_due partition_count (noted None f fe.lines))
  pub net : (world_of (after_lines z (fe.lines ++ settling_due partition_count (noted None f fe.lines)))).network ≡ (world_of z).network
  pub behind : LawfulFront by factor (after_lines z (fe.lines ++ settling_due partition_count (noted None f fe.lines)))
      → Behind by factor (after_lines z (fe.lines ++ settling_due partition_count (noted None f fe.lines))) f.me (noted None f fe.lines) (noted None (noted None f fe.lines) (settling_due partition_count (noted None f fe.lines)))

-- with the laws of the facts before settling
fronts_of : {by : Policy} {factor : ℕ} (z : Front) (f : Facts) (fe : Effects) → facts_at z f.me ≡ f → ProposeGo z f fe → LawOf by factor (noted None f fe.lines) → (noted None f fe.lines).me ≡ f.me → TickFronts by factor z f fe
fronts_of {by} {factor} z f fe is p law me =
    let y : Front = after_lines z fe.lines in
    let g : Facts = noted None f fe.lines in
    let ls : List Line = settling_due partition_count (noted None f fe.lines) in
    let own : Ownly f.me z (after_lines z fe.lines) (noted None (facts_at z f.me) fe.lines) = all_own z f.me fe.lines p.own in
    let is_g : facts_at (after_lines z fe.lines) f.me ≡ noted None f fe.lines = own.is ∙ ap (λ (x : Facts). noted None x fe.lines) is in
    let s : SettlesAll (after_lines z fe.lines) f.me (settling_due partition_count (noted None f fe.lines)) = settles_all y f.me g ls is_g (sym me) p.ends.owes (p.ends.stays f.me) (settles_along g law) in
    let o : Ownly f.me (after_lines z fe.lines) (after_lines (after_lines z fe.lines) (settling_due partition_count (noted None f fe.lines))) (noted None (facts_at (after_lines z fe.lines) f.me) (settling_due partition_count (noted None f fe.lines))) = all_own y f.me ls s.own in
    let only : SettledOnly (noted None f fe.lines) (noted None (noted None f fe.lines) (settling_due partition_count (noted None f fe.lines))) = settles_only g law in
    let is_i : facts_at (after_lines (after_lines z fe.lines) (settling_due partition_count (noted None f fe.lines))) f.me ≡ noted None (noted None f fe.lines) (settling_due partition_count (noted None f fe.lines)) = o.is ∙ ap (λ (x : Facts). noted None x ls) is_g in
    let ends : Ended (after_lines (after_lines z fe.lines) (settling_due partition_count (noted None f fe.lines))) = ended_but f.me y (after_lines y ls) s.elsewhere p.ends (s.owed ∙ p.ends.owes) (ap (λ (c : ℕ → Bool). c f.me) s.closing ∙ p.ends.stays f.me)
    (subst (λ (x : Facts). Rests x) (sym is_i) (subst (λ (e : Exchange). RestsWith e (noted None (noted None f fe.lines) (settling_due partition_count (noted None f fe.lines))).transactions.running) (sym only.exchange) (subst (λ ts. RestsWith (noted None f fe.lines).exchange ts.running) (sym only.transactions) (subst (λ (x : Facts). Rests x) is_g (p.ends.rests f.me))))) in
    let both : after_lines z (fe.lines ++ settling_due partition_count (noted None f fe.lines)) ≡ after_lines (after_lines z fe.lines) (settling_due partition_count (noted None f fe.lines)) = lines_append z fe.lines ls in
    record {
      due = all_append z fe.lines ls p.due s.due;
      net = ap (λ (x : Front). (world_of x).network) both ∙ o.net ∙ own.net;
      behind = λ l. record {
        is = ap (λ (x : Front). facts_at x f.me) both ∙ is_i;
        me = only.me ∙ me;
        only = only;
        law = subst (λ (x : Facts). LawOf by factor x) (ap (λ (x : Front). facts_at x f.me) both ∙ is_i) (l.nodes f.me);
        rowed = subst (λ (x : Facts). (v : View) → x.exchange.view ≡ Some v → Each (λ (r : MemberRow). IsRowOf (after_lines z (fe.lines ++ settling_due partition_count (noted None f fe.lines))).chronicle r.node v.key r.row) x.exchange.rows) (ap (λ (x : Front). facts_at x f.me) both ∙ is_i) (l.rowed.kept f.me);
        ended = subst (λ (x : Front). Ended x) (sym both) ends;
        key = λ v e. let at_view : (facts_at (after_lines z (fe.lines ++ settling_due partition_count (noted None f fe.lines))) f.me).exchange.view ≡ Some v = ap (λ (x : Front). (facts_at x f.me).exchange.view) both ∙ ap (λ (x : Facts). x.exchange.view) is_i ∙ e in
            subst IsKeyField (sym (ap exchange_key e)) (l.sound.lists v.key v.members (entered_view (after_lines z (fe.lines ++ settling_due partition_count (noted None f fe.lines))) f.me v l.sound at_view).list).key;
        held = pending_held g law;
      };
    }

-- ---- a tick

record TickGo (z : Front) (n : ℕ) (e : Effects) : Type 0 where
  due : AllDue z e.lines
  net : (world_of (after_lines z e.lines)).network ≡ (world_of z).network
  sends : EachSoftly (after_lines z e.lines) n e.sends
  ends : Ended (after_lines z e.lines)

tick_written : (z : Front) (net : Network) (n : ℕ) (e : Effects) → length net.sent ≡ length (world_of z).network.sent → TickGo z n e → LinesGo z (written net n e)
tick_written z net n e num g =
    let y : Front = after_lines z e.lines in
    let s : SoftGo y n (sent_lines n (length net.sent) (length net.flying) e.sends) = softly_go y n (length net.sent) (length net.flying) e.sends g.ends.owes (num ∙ ap (λ (x : Network). length x.sent) (sym g.net)) g.sends in
    record {
      due = all_append z e.lines (sent_lines n (length net.sent) (length net.flying) e.sends) g.due s.due;
      ends = subst (λ (x : Front). Ended x) (sym (lines_append z e.lines (sent_lines n (length net.sent) (length net.flying) e.sends))) (softly_ended y _ n s.soft g.ends);
    }

-- the lines of progress are none
lines_are : (f : Facts) (fe : Effects) → tick_lines f fe ≡ fe.lines ++ settling_due partition_count (noted None f fe.lines)
lines_are f fe = ap (λ (ls : List Line). fe.lines ++ ls) (ap (λ (ls : List Line). settling_due partition_count (noted None f fe.lines) ++ (ls ++ [])) (no_progress (noted None (noted None f fe.lines) (settling_due partition_count (noted None f fe.lines))) _) ∙ no_more (settling_due partition_count (noted None f fe.lines)))
  where
    no_more : (ls : List Line) → ls ++ [] ≡ ls
    no_more [] = refl
    no_more (l ∷ ls) = ap (λ xs. l ∷ xs) (no_more ls)

-- behind the line of the tick, with what the part that proposes does
tick_behind : (by : Policy) (factor : ℕ) (z : Front) (f : Facts) (fe : Effects) (more : List Line) → LawfulFront by factor z → Ended z → facts_at z f.me ≡ f → IsDeclared z f.me → ReadsWell (beat_of f) → ProposeGo z f fe → LicensedMarks z.chronicle.traced (map Writes (tick_lines f fe ++ more))
    → AreReadInRange (all_sends f fe (noted None f fe.lines) (noted None (noted None f fe.lines) (settling_due partition_count (noted None f fe.lines))))
    → TickGo z f.me (record { lines = tick_lines f fe; sends = all_sends f fe (noted None f fe.lines) (noted None (noted None f fe.lines) (settling_due partition_count (noted None f fe.lines))) })
tick_behind by factor z f fe more law h is dec beats p key read =
    subst (λ (ls : List Line). TickGo z f.me (record { lines = ls; sends = all_sends f fe (noted None f fe.lines) (noted None (noted None f fe.lines) (settling_due partition_count (noted None f fe.lines))) })) (sym (lines_are f fe)) (record {
      due = fronts.due;
      net = fronts.net;
      sends = sends_soft f fe b b.me (ap (λ (ns : List ℕ). contains ns f.me) (nodes_all z (fe.lines ++ settling_due partition_count (noted None f fe.lines))) ∙ dec) beats p.free read;
      ends = b.ended;
    })
  where
    key_both : LicensedMarks z.chronicle.traced (map Writes (fe.lines ++ settling_due partition_count (noted None f fe.lines)))
    key_both = licensed_first z.chronicle.traced (map Writes (fe.lines ++ settling_due partition_count (noted None f fe.lines))) (map Writes more)
        (subst (λ (ms : List Mark). LicensedMarks z.chronicle.traced ms) (marks_append (fe.lines ++ settling_due partition_count (noted None f fe.lines)) more)
        (subst (λ (ls : List Line). LicensedMarks z.chronicle.traced (map Writes (ls ++ more))) (lines_are f fe) key))

    key_first : LicensedMarks z.chronicle.traced (map Writes fe.lines)
    key_first = licensed_first z.chronicle.traced (map Writes fe.lines) (map Writes (settling_due partition_count (noted None f fe.lines))) (subst (λ (ms : List Mark). LicensedMarks z.chronicle.traced ms) (marks_append fe.lines (settling_due partition_count (noted None f fe.lines))) key_both)

    lawful_first : LawfulFront by factor (after_lines z fe.lines)
    lawful_first = (onward_all by factor z (map Writes fe.lines) key_first (due_marks z fe.lines p.due) law).lawful

    is_g : facts_at (after_lines z fe.lines) f.me ≡ noted None f fe.lines
    is_g = (all_own z f.me fe.lines p.own).is ∙ ap (λ (x : Facts). noted None x fe.lines) is

    fronts : TickFronts by factor z f fe
    fronts = fronts_of z f fe is p (subst (λ (x : Facts). LawOf by factor x) is_g (lawful_first.nodes f.me)) (ap (λ (x : Facts). x.me) (sym is_g) ∙ (lawful_first.sound.nodes f.me).me)

    b : Behind by factor (after_lines z (fe.lines ++ settling_due partition_count (noted None f fe.lines))) f.me (noted None f fe.lines) (noted None (noted None f fe.lines) (settling_due partition_count (noted None f fe.lines)))
    b = fronts.behind (onward_all by factor z (map Writes (fe.lines ++ settling_due partition_count (noted None f fe.lines))) key_both (due_marks z (fe.lines ++ settling_due partition_count (noted None f fe.lines)) fronts.due) law).lawful

-- the line, and what stands behind it
tick_up : (by : Policy) (factor : ℕ) (z : Front) (net : Network) (f : Facts) → LawfulFront by factor z → Ended z → IsId f.me → facts_at z f.me ≡ f → IsDeclared z f.me → length net.sent ≡ length (world_of z).network.sent → LicensedMarks z.chronicle.traced (map Writes (written net f.me (if true then parts_in_order (parts partition_count) f else lines_only (line.Down f.me ∷ []))))
    → AreReadInRange (if true then parts_in_order (parts partition_count) f else lines_only (line.Down f.me ∷ [])).sends → LinesGo z (written net f.me (if true then parts_in_order (parts partition_count) f else lines_only (line.Down f.me ∷ [])))
tick_up by factor z net f law h id is dec num key read = tick_written z net f.me (if true then parts_in_order (parts partition_count) f else lines_only (line.Down f.me ∷ [])) num (record { due = ((h.owes, tt), g.due); net = g.net; sends = g.sends; ends = g.ends })
  where
    is1 : facts_at (front_after z (Writes (line.Tick f.me))) f.me ≡ after_ages f
    is1 = here (world_of z).facts f.me _ ∙ ap after_ages is

    ends1 : Ended (front_after z (Writes (line.Tick f.me)))
    ends1 = beside_ended z _ f.me _ h refl refl (λ m. refl) refl refl

    law1 : LawfulFront by factor (front_after z (Writes (line.Tick f.me)))
    law1 = (onward_all by factor z (Writes (line.Tick f.me) ∷ []) (tt, tt) ((h.owes, tt), tt) law).lawful

    good : GoodList f.me (neighbours (after_ages f))
    good = neighbours_good (front_after z (Writes (line.Tick f.me))).chronicle.traced f.me (after_ages f).role (after_ages f).hearing.heard id
        (subst (λ (x : Facts). Hears (front_after z (Writes (line.Tick f.me))).chronicle.traced x.hearing.heard) is1 (law1.sound.nodes f.me).hears)

    keys : NodeKeys (front_after z (Writes (line.Tick f.me))).chronicle.traced f.me (after_ages f)
    keys = subst (λ (x : Facts). NodeKeys (front_after z (Writes (line.Tick f.me))).chronicle.traced f.me x) is1 (law1.sound.nodes f.me)

    again : (p : Proposal) → (after_ages f).agreement.proposal ≡ Some p → ReadsWell (message.Propose p.key p.members)
    again p e =
        let s : Proposed (front_after z (Writes (line.Tick f.me))).chronicle.traced f.me (after_ages f).agreement.promised (after_ages f).agreement.last p = subst (ProposalStands (front_after z (Writes (line.Tick f.me))).chronicle.traced f.me (after_ages f).agreement.promised (after_ages f).agreement.last) e keys.agrees.proposal in
        let l : Listed (front_after z (Writes (line.Tick f.me))).chronicle.traced p.key p.members = law1.sound.lists p.key p.members s.list in
        read_propose (Alike (message.Propose p.key p.members)) p.key p.members p.key.principal l.key l.good (inl refl)

    next : has_round (after_ages f).agreement ≡ true → ReadsWell (message.Propose (next_key (after_ages f).me (after_ages f).agreement) (neighbours (after_ages f)))
    next round = read_propose (Alike (message.Propose (next_key f.me (after_ages f).agreement) (neighbours (after_ages f)))) (next_key f.me (after_ages f).agreement) (neighbours (after_ages f)) f.me (next_is_key f.me (after_ages f).agreement id round) good (inl refl)

    beats : ReadsWell (beat_of (after_ages f))
    beats = read_heartbeat (Alike (beat_of (after_ages f))) (view_key (after_ages f)) (after_ages f).agreement.promised (heard_ids (after_ages f).hearing.heard) (after_ages f).role
        (view_known (front_after z (Writes (line.Tick f.me))).chronicle.traced f.me (after_ages f) keys).field keys.agrees.promised.field (λ h r. inr (record { sort = 0; first = refl; second = refl }))

    proposal : ProposeGo (front_after z (Writes (line.Tick f.me))) (after_ages f)
        (propose (after_ages f))
    proposal = propose_goes (front_after z (Writes (line.Tick f.me))) (after_ages f) ends1 is1 good.led good.falls dec again next

    g : TickGo (front_after z (Writes (line.Tick f.me))) f.me (record { lines = tick_lines (after_ages f) (propose (after_ages f)); sends = (if true then parts_in_order (parts partition_count) f else lines_only (line.Down f.me ∷ [])).sends })
    g = tick_behind by factor (front_after z (Writes (line.Tick f.me))) (after_ages f) (propose (after_ages f)) (sent_lines f.me (length net.sent) (length net.flying) (if true then parts_in_order (parts partition_count) f else lines_only (line.Down f.me ∷ [])).sends) law1 ends1 is1 dec beats proposal key.1 read

pub tick_goes : {by : Policy} {factor : ℕ} {z : Front} (n : ℕ) → Starts by factor z → IsId n → IsDeclared z n → SendsRead (world_of z) (event.Tick n) → LinesGo (front_after z (Begins (event.Tick n))) (due_of partition_count (world_of z) (event.Tick n))
tick_goes {by} {factor} {z} n s id dec read = subst (λ (m : ℕ). LinesGo (front_after z (Begins (event.Tick n))) (written (world_of z).network m (tick_of partition_count (facts_at z n)))) me
    (go (facts_at z n).up (subst (λ (m : ℕ). LicensedMarks (front_after z (Begins (event.Tick n))).chronicle.traced (map Writes (written (world_of z).network m (tick_of partition_count (facts_at z n))))) (sym me) (step_ok partition_count z.chronicle.traced (event.Tick n) id s.lawful.sound).1) read)
  where
    me : (facts_at z n).me ≡ n
    me = (s.lawful.sound.nodes n).me

    t : Starts by factor (front_after z (Begins (event.Tick n)))
    t = begin s (event.Tick n)

    go : (b : Bool) → LicensedMarks (front_after z (Begins (event.Tick n))).chronicle.traced (map Writes (written (world_of z).network (facts_at z n).me (if b then parts_in_order (parts partition_count) (facts_at z n) else lines_only (line.Down (facts_at z n).me ∷ [])))) → AreReadInRange (if b then parts_in_order (parts partition_count) (facts_at z n) else lines_only (line.Down (facts_at z n).me ∷ [])).sends
        → LinesGo (front_after z (Begins (event.Tick n))) (written (world_of z).network (facts_at z n).me (if b then parts_in_order (parts partition_count) (facts_at z n) else lines_only (line.Down (facts_at z n).me ∷ [])))
    go false key r = record { due = ((t.ended.owes, tt), tt); ends = record { owes = t.ended.owes; stays = t.ended.stays; rests = t.ended.rests } }
    go true key r = tick_up by factor (front_after z (Begins (event.Tick n))) (world_of z).network (facts_at z n) t.lawful t.ended (subst IsId (sym me) id) (ap (facts_at z) me) (ap (λ (m : ℕ). contains (world_of z).nodes m) me ∙ dec) refl key r
