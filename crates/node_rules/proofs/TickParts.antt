-- What a tick makes of the facts, by its parts.
use Rattle.std.proofs.Common.{◌≡◌, ℕ, Bool, true, false, ◌&&◌, List, [], ◌∷◌, ◌++◌, Option, Some, None, refl, sym, ap, ◌∙◌}
use Rattle.std.specs.Prelude.{filter_map, flat_map, fold, option_map, is_none, if◌then◌else◌}
use Rattle.std.specs.List.{cons_option}
use Rattle.cluster_types.specs.declared.cluster_key.ClusterKey.{ClusterKey}
use Rattle.cluster_types.specs.declared.member.Member.{Member}
use Rattle.cluster_types.specs.Partitions.{partition_count}
use Rattle.journal_lines.specs.declared.line.Line.{Line}
use Rattle.journal_lines.specs.declared.line.Line.TheVariants as line
use Rattle.wire_messages.specs.declared.message.Batch.{Batch}
use Rattle.wire_messages.specs.declared.message.Message.{Message}
use Rattle.wire_messages.specs.declared.message.Message.TheVariants as message
use Rattle.node_rules.specs.Agreement as agreement
use Rattle.node_rules.specs.Agreement.{Agreement, Proposal, enters_alone, proposes_anew, next_key}
use Rattle.node_rules.specs.Batches.{Target, next_batch, sending}
use Rattle.node_rules.specs.ByParts.{entered_alone, batches_due, sending_all, proposed_facts, settled_facts}
use Rattle.node_rules.specs.Copies.{is_nil}
use Rattle.node_rules.specs.Effects.{to_each, lines_only, nothing, sends_only}
use Rattle.node_rules.specs.Facts.{Facts, view_key}
use Rattle.node_rules.specs.Hearing.{heard_ids}
use Rattle.node_rules.specs.Notes.{note, noted, sent, all_sent, neighbours, after_ages}
use Rattle.node_rules.specs.Resolving.{repl}
use Rattle.node_rules.specs.Settling.{settling_due}
use Rattle.node_rules.specs.Standing.{others}
use Rattle.node_rules.specs.Steps.{facts_after, after_tick}
use Rattle.node_rules.specs.Tick as tick
use Rattle.node_rules.specs.Tick.{is_candidate, propose, parts, parts_in_order, progress_message, proposal_effects}
use Rattle.node_rules.specs.Transactions.{Transaction, Write}
use Rattle.node_rules.proofs.NoteLaws.{noted-append, all_sent-append}
use Rattle.node_rules.proofs.PartLaws.{entering_is}
use Rattle.node_rules.proofs.Ticking.{tick_agrees}

-- ---- messages that add nothing

abbrev Adds_nothing : List (ℕ × Message) → Type 0
Adds_nothing [] = Unit {0}
Adds_nothing (m ∷ ms) = ((f : Facts) → sent f m.0 m.1 ≡ f) × Adds_nothing ms

stays : (f : Facts) (ms : List (ℕ × Message)) → Adds_nothing ms → all_sent f ms ≡ f
stays f [] q = refl
stays f (m ∷ ms) q = ap (λ (g : Facts). all_sent g ms) (q.0 f) ∙ stays f ms q.1

nothing-append : (ms more : List (ℕ × Message)) → Adds_nothing ms → Adds_nothing more → Adds_nothing (ms ++ more)
nothing-append [] more a b = b
nothing-append (m ∷ ms) more a b = (a.0, nothing-append ms more a.1 b)

each_nothing : (ns : List ℕ) (m : Message) → ((f : Facts) (n : ℕ) → sent f n m ≡ f) → Adds_nothing (to_each ns m)
each_nothing [] m e = tt
each_nothing (n ∷ ns) m e = (λ f. e f n, each_nothing ns m e)

again_nothing : (f : Facts) (t : Transaction) (o : Option Write) → Adds_nothing (tick.sends_again f t o)
again_nothing f t None = each_nothing t.awaiting (message.Ask (view_key f) t.number t.digest) (λ g n. refl)
again_nothing f t (Some w) = each_nothing t.awaiting (repl f t w) (λ g n. refl)

all_again_nothing : (f : Facts) (ts : List Transaction) → Adds_nothing (flat_map (λ t. tick.sends_again f t t.applied) ts)
all_again_nothing f [] = tt
all_again_nothing f (t ∷ ts) = nothing-append _ _ (again_nothing f t t.applied) (all_again_nothing f ts)

progress_nothing : (n : ℕ) (f : Facts) (b : Bool) → Adds_nothing (if b then sends_only (to_each (others f) (progress_message n f true)) else nothing).sends
progress_nothing n f true = each_nothing (others f) (tick.progress_message n f true) (λ g m. refl)
progress_nothing n f false = tt

progress_lines : (n : ℕ) (f : Facts) (b : Bool) → (if b then sends_only (to_each (others f) (progress_message n f true)) else nothing).lines ≡ []
progress_lines n f true = refl
progress_lines n f false = refl

-- ---- messages that add something

-- a proposal changes the agreement alone
proposes_alone : (ns : List ℕ) (key : ClusterKey) (ms : List Member) (f : Facts)
    → all_sent f (to_each ns (message.Propose key ms)) ≡ record f { agreement = (all_sent f (to_each ns (message.Propose key ms))).agreement }
proposes_alone [] key ms f = refl
proposes_alone (n ∷ ns) key ms f = proposes_alone ns key ms (sent f n (message.Propose key ms))

proposed_sends : (g f : Facts) (o : Option Proposal) → all_sent f (tick.propose_with g o).sends ≡ record f { agreement = (all_sent f (tick.propose_with g o).sends).agreement }
proposed_sends g f (Some p) = proposes_alone p.missing p.key p.members f
proposed_sends g f None = go (is_candidate g && agreement.has_round g.agreement)
  where
    deep : (key : ClusterKey) (set : List Member) (ns : List ℕ) → all_sent f (tick.proposal_effects g key set ns).sends ≡ record f { agreement = (all_sent f (tick.proposal_effects g key set ns).sends).agreement }
    deep key set [] = refl
    deep key set (n ∷ ns) = proposes_alone (n ∷ ns) key set f

    go : (b : Bool) → all_sent f (if b then proposal_effects g (next_key g.me g.agreement) (neighbours g) (agreement.others_among g.me (neighbours g)) else nothing).sends ≡ record f { agreement = (all_sent f (if b then proposal_effects g (next_key g.me g.agreement) (neighbours g) (agreement.others_among g.me (neighbours g)) else nothing).sends).agreement }
    go true = deep (agreement.next_key g.me g.agreement) (neighbours g) (agreement.others_among g.me (neighbours g))
    go false = refl

-- batches change what is out alone
batches_alone : (key : ClusterKey) (g f : Facts) (ts : List Target)
    → all_sent f (filter_map (λ t. tick.batch_to t.node (next_batch key g.store.content t)) ts)
    ≡ record f { batches = sending_all f.batches (batches_due key g.store.content ts) }
batches_alone key g f [] = refl
batches_alone key g f (t ∷ ts) = go (λ h. batches_alone key g h ts) (next_batch key g.store.content t)
  where
    go : ((h : Facts) → all_sent h (filter_map (λ x. tick.batch_to x.node (next_batch key g.store.content x)) ts) ≡ record h { batches = sending_all h.batches (batches_due key g.store.content ts) })
        → (o : Option Batch)
        → all_sent f (cons_option (tick.batch_to t.node o) (filter_map (λ x. tick.batch_to x.node (next_batch key g.store.content x)) ts))
        ≡ record f { batches = fold (λ us b. sending us b.0 b.1) f.batches (cons_option (option_map (λ b. (t.node, b)) o) (batches_due key g.store.content ts)) }
    go rest None = rest f
    go rest (Some b) = rest (sent f t.node (message.Batch b))

-- ---- the tick

-- what is sent, of facts with all lines
sends_are : (n : ℕ) (f f2 f3 k : Facts)
    → all_sent k ((tick.beat f).sends ++ ((propose f).sends ++ ((tick.rows f2).sends ++ ((tick.transactions f2).sends ++ ((tick.batches f2).sends ++ ((tick.progress n f3).sends ++ []))))))
    ≡ record k {
      agreement = (all_sent k (propose f).sends).agreement;
      batches = sending_all k.batches (batches_due (view_key f2) f2.store.content f2.batches);
    }
sends_are n f f2 f3 k =
    let beats = (tick.beat f).sends in
    let proposals = (propose f).sends in
    let rows = (tick.rows f2).sends in
    let again = (tick.transactions f2).sends in
    let batched = (tick.batches f2).sends in
    let told = (tick.progress n f3).sends in
    let k1 : Facts = all_sent k proposals in
    all_sent-append k beats (proposals ++ (rows ++ (again ++ (batched ++ (told ++ [])))))
    ∙ ap (λ (g : Facts). all_sent g (proposals ++ (rows ++ (again ++ (batched ++ (told ++ []))))))
    (stays k beats (each_nothing f.peers (message.Heartbeat (view_key f) f.agreement.promised (heard_ids f.hearing.heard) f.role) (λ g m. refl)))
    ∙ all_sent-append k proposals (rows ++ (again ++ (batched ++ (told ++ []))))
    ∙ all_sent-append k1 rows (again ++ (batched ++ (told ++ [])))
    ∙ ap (λ (g : Facts). all_sent g (again ++ (batched ++ (told ++ [])))) (stays k1 rows (each_nothing _ (tick.state f2 true) (λ g m. refl)))
    ∙ all_sent-append k1 again (batched ++ (told ++ []))
    ∙ ap (λ (g : Facts). all_sent g (batched ++ (told ++ []))) (stays k1 again (all_again_nothing f2 f2.transactions.running))
    ∙ all_sent-append k1 batched (told ++ [])
    ∙ stays (all_sent k1 batched) (told ++ []) (nothing-append told [] (progress_nothing n f3 _) tt)
    ∙ batches_alone (view_key f2) f2 k1 f2.batches
    ∙ ap (λ (g : Facts). record g { batches = sending_all g.batches (batches_due (view_key f2) f2.store.content f2.batches) }) (proposed_sends f k f.agreement.proposal)

-- the lines are the proposal's and those of settling
lines_are : (n : ℕ) (f : Facts) (ls : List Line) → noted None f ((propose f).lines ++ (ls ++ ((tick.progress n (noted None (noted None f (propose f).lines) ls)).lines ++ []))) ≡ noted None (noted None f (propose f).lines) ls
lines_are n f ls =
    let f2 : Facts = noted None f (propose f).lines in
    noted-append None f (propose f).lines (ls ++ ((tick.progress n (noted None f2 ls)).lines ++ []))
    ∙ noted-append None f2 ls ((tick.progress n (noted None f2 ls)).lines ++ [])
    ∙ ap (λ (more : List Line). noted None (noted None f2 ls) (more ++ [])) (progress_lines n (noted None f2 ls) _)

parts_are : (n : ℕ) (f : Facts)
    → facts_after None f (tick.parts_in_order (tick.parts n) f)
    ≡ record (settled_facts n f) {
      agreement = (all_sent (settled_facts n f) (propose (after_ages f)).sends).agreement;
      batches = sending_all (settled_facts n f).batches (batches_due (view_key (proposed_facts f)) (proposed_facts f).store.content (proposed_facts f).batches);
    }
parts_are n f =
    let f1 : Facts = after_ages f in
    let f2 : Facts = proposed_facts f in
    let f3 : Facts = settled_facts n f in
    ap (λ (k : Facts). all_sent k ((tick.beat f1).sends ++ ((propose f1).sends ++ ((tick.rows f2).sends ++ ((tick.transactions f2).sends ++ ((tick.batches f2).sends ++ ((tick.progress n f3).sends ++ [])))))))
    (lines_are n f1 (settling_due n f2))
    ∙ sends_are n f1 f2 f3 f3

pub up_is : (f : Facts) → f.up ≡ true
    → after_tick f
    ≡ record (settled_facts partition_count f) {
      agreement = agreement.ticking f.me f.agreement (neighbours (after_ages f)) (is_candidate (after_ages f));
      batches = sending_all (settled_facts partition_count f).batches (batches_due (view_key (proposed_facts f)) (proposed_facts f).store.content (proposed_facts f).batches);
    }
up_is f up =
    let whole : after_tick f ≡ facts_after None f (tick.parts_in_order (tick.parts partition_count) f) = ap (λ (b : Bool). facts_after None f (if b then parts_in_order (parts partition_count) f else lines_only (line.Down f.me ∷ []))) up in
    let parts = whole ∙ parts_are partition_count f in
    let agrees : (all_sent (settled_facts partition_count f) (propose (after_ages f)).sends).agreement ≡ agreement.ticking f.me f.agreement (neighbours (after_ages f)) (is_candidate (after_ages f)) =
    sym (ap (λ (g : Facts). g.agreement) parts) ∙ tick_agrees f up in
    parts
    ∙ ap (λ (a : Agreement). record (settled_facts partition_count f) {
      agreement = a;
      batches = sending_all (settled_facts partition_count f).batches (batches_due (view_key (proposed_facts f)) (proposed_facts f).store.content (proposed_facts f).batches);
    }) agrees

pub down_is : (f : Facts) → f.up ≡ false → after_tick f ≡ f
down_is f down = ap (λ (b : Bool). facts_after None f (if b then parts_in_order (parts partition_count) f else lines_only (line.Down f.me ∷ []))) down

-- ---- the proposal

-- what is proposed anew to these
proposed_to : (f : Facts) (key : ClusterKey) (set : List Member) (ns : List ℕ) → is_nil ns ≡ false
    → noted None f (tick.proposal_effects f key set ns).lines ≡ record f { agreement = (noted None f (tick.proposal_effects f key set ns).lines).agreement }
proposed_to f key set [] e = cc
proposed_to f key set (n ∷ ns) e = refl

alone_to : (f : Facts) (key : ClusterKey) (set : List Member) (ns : List ℕ) → is_nil ns ≡ true
    → noted None f (tick.proposal_effects f key set ns).lines ≡ entered_alone f key set
alone_to f key set [] e = entering_is f (note None f (line.Promise f.me key)) key set
alone_to f key set (n ∷ ns) e = cc

pub among_others_is : (f : Facts) → enters_alone f.me f.agreement (neighbours f) (is_candidate f) ≡ false
    → noted None f (propose f).lines ≡ record f { agreement = (noted None f (propose f).lines).agreement }
among_others_is f e = go f.agreement.proposal e
  where
    deep : (b : Bool) → (b && is_nil (agreement.others_among f.me (neighbours f))) ≡ false
        → noted None f (if b then proposal_effects f (next_key f.me f.agreement) (neighbours f) (agreement.others_among f.me (neighbours f)) else nothing).lines ≡ record f { agreement = (noted None f (if b then proposal_effects f (next_key f.me f.agreement) (neighbours f) (agreement.others_among f.me (neighbours f)) else nothing).lines).agreement }
    deep true e = proposed_to f (agreement.next_key f.me f.agreement) (neighbours f) (agreement.others_among f.me (neighbours f)) e
    deep false e = refl

    go : (o : Option Proposal) → ((is_none o && (is_candidate f && agreement.has_round f.agreement)) && is_nil (agreement.others_among f.me (neighbours f))) ≡ false
        → noted None f (tick.propose_with f o).lines ≡ record f { agreement = (noted None f (tick.propose_with f o).lines).agreement }
    go (Some p) e = refl
    go None e = deep (is_candidate f && agreement.has_round f.agreement) e

pub alone_is : (f : Facts) → enters_alone f.me f.agreement (neighbours f) (is_candidate f) ≡ true
    → noted None f (propose f).lines ≡ entered_alone f (agreement.next_key f.me f.agreement) (neighbours f)
alone_is f e = go f.agreement.proposal e
  where
    deep : (b : Bool) → (b && is_nil (agreement.others_among f.me (neighbours f))) ≡ true
        → noted None f (if b then proposal_effects f (next_key f.me f.agreement) (neighbours f) (agreement.others_among f.me (neighbours f)) else nothing).lines ≡ entered_alone f (agreement.next_key f.me f.agreement) (neighbours f)
    deep true e = alone_to f (agreement.next_key f.me f.agreement) (neighbours f) (agreement.others_among f.me (neighbours f)) e
    deep false e = cc

    go : (o : Option Proposal) → ((is_none o && (is_candidate f && agreement.has_round f.agreement)) && is_nil (agreement.others_among f.me (neighbours f))) ≡ true
        → noted None f (tick.propose_with f o).lines ≡ entered_alone f (agreement.next_key f.me f.agreement) (neighbours f)
    go (Some p) e = cc
    go None e = deep (is_candidate f && agreement.has_round f.agreement) e
