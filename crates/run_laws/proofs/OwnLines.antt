-- Lines of a tick: each of the node's own, with the facts behind it; settling, and a proposal.
use Rattle.std.proofs.Common.{◌≡◌, ℕ, ◌==◌, Bool, true, false, List, [], ◌∷◌, ◌++◌, map, Option, Some, None, refl, sym, ap, ◌∙◌, subst, ◌&&◌, if◌then◌else◌}
use Rattle.cluster_types.specs.declared.cluster_key.ClusterKey.{ClusterKey}
use Rattle.cluster_types.specs.Distinct.{IsDescending}
use Rattle.cluster_types.specs.Members.{ids_of}
use Rattle.journal_lines.specs.declared.line.Line.{Line}
use Rattle.journal_lines.specs.declared.line.Line.TheVariants as line
use Rattle.wire_messages.specs.declared.message.Message.{Message}
use Rattle.node_rules.specs.Agreement as agreement
use Rattle.node_rules.specs.Agreement.{Proposal, next_key, has_round}
use Rattle.node_rules.specs.Effects.{Effects, nothing, to_each}
use Rattle.node_rules.specs.Entering.{ending, closing, entering}
use Rattle.node_rules.specs.Exchange.{is_single, is_member}
use Rattle.node_rules.specs.Facts.{Facts, list_at, view_key}
use Rattle.node_rules.specs.Notes.{note, noted, neighbours}
use Rattle.node_rules.specs.Settling.{may_hand, may_settle}
use Rattle.node_rules.specs.Standing.{is_to_learn, is_to_drop}
use Rattle.node_rules.specs.Tick.{proposal_effects, propose_with, propose, is_candidate}
use Rattle.node_rules.specs.Transactions.{Transaction, Write}
use Rattle.cluster_rules.specs.Marks.{Writes}
use Rattle.cluster_rules.specs.World.{changed_at}
use Rattle.run_laws.specs.Due.{Passes, SettleOk, Along}
use Rattle.run_laws.specs.Fronts.{Front, world_of, facts_at, front_after}
use Rattle.run_laws.specs.LineOk.{IsDeclared}
use Rattle.run_laws.specs.LineDue.{SendDue, LineMay, AllDue}
use Rattle.run_laws.specs.Steps.{Rests, Ended}
use Rattle.run_laws.specs.Tied.{Each, key_in}
use Rattle.run_laws.proofs.EnteringSteps.{Entering, entering_go}
use Rattle.run_laws.proofs.PlainSteps.{beside_ended}
use Rattle.run_laws.proofs.Softly.{is_told}
use Rattle.cluster_laws.proofs.At.{and_right}
use Rattle.run_laws.proofs.Reading.{ReadsWell}
use Rattle.wire_messages.specs.declared.message.Message.TheVariants as message
use Rattle.run_laws.proofs.Turns.{after_lines, Elsewhere, nothing_moves, elsewhere_on, here, away}
use Rattle.node_rules.specs.Tables.{only_if}

-- ---- own lines

-- lines of the node of which the want in hand says nothing
abbrev pub IsOwn : ℕ → Line → Type 0
IsOwn n (line.Tick m) = m ≡ n
IsOwn n (line.Promise m k) = m ≡ n
IsOwn n (line.Enter m k ms) = m ≡ n
IsOwn n (line.Exchanged m k) = m ≡ n
IsOwn n (line.Aborted m k t) = m ≡ n
IsOwn n (line.Doubt m k t) = m ≡ n
IsOwn n (line.Handed m k p) = m ≡ n
IsOwn n (line.Settled m k p) = m ≡ n
IsOwn n (line.Learn m k p) = m ≡ n
IsOwn n (line.Drop m k p) = m ≡ n
IsOwn n _ = ⊥

pub record Ownly (n : ℕ) (z y : Front) (g : Facts) : Type 0 where
  pub is : facts_at y n ≡ g
  pub net : (world_of y).network ≡ (world_of z).network

-- a node's line, where its number is another name of the node
renamed : (fs : ℕ → Facts) (m n : ℕ) (change : Facts → Facts) → m ≡ n → changed_at fs m (change (fs m)) n ≡ change (fs n)
renamed fs m n change e = subst (λ (j : ℕ). changed_at fs j (change (fs j)) n ≡ change (fs n)) (sym e) (here fs n (change (fs n)))

own_after : (z : Front) (n : ℕ) (l : Line) → IsOwn n l → Ownly n z (front_after z (Writes l)) (note None (facts_at z n) l)
own_after z n (line.Tick m) e = record { is = renamed (world_of z).facts m n (λ f. note None f (line.Tick m)) e; net = refl }
own_after z n (line.Promise m k) e = record { is = renamed (world_of z).facts m n (λ f. note None f (line.Promise m k)) e; net = refl }
own_after z n (line.Enter m k ms) e = record { is = renamed (world_of z).facts m n (λ f. note None f (line.Enter m k ms)) e; net = refl }
own_after z n (line.Exchanged m k) e = record { is = renamed (world_of z).facts m n (λ f. note None f (line.Exchanged m k)) e; net = refl }
own_after z n (line.Aborted m k t) e = record { is = renamed (world_of z).facts m n (λ f. note None f (line.Aborted m k t)) e; net = refl }
own_after z n (line.Doubt m k t) e = record { is = renamed (world_of z).facts m n (λ f. note None f (line.Doubt m k t)) e; net = refl }
own_after z n (line.Handed m k p) e = record { is = renamed (world_of z).facts m n (λ f. note None f (line.Handed m k p)) e; net = refl }
own_after z n (line.Settled m k p) e = record { is = renamed (world_of z).facts m n (λ f. note None f (line.Settled m k p)) e; net = refl }
own_after z n (line.Learn m k p) e = record { is = renamed (world_of z).facts m n (λ f. note None f (line.Learn m k p)) e; net = refl }
own_after z n (line.Drop m k p) e = record { is = renamed (world_of z).facts m n (λ f. note None f (line.Drop m k p)) e; net = refl }
own_after z n _ e = absurd e

pub all_own : (z : Front) (n : ℕ) (ls : List Line) → Each (IsOwn n) ls → Ownly n z (after_lines z ls) (noted None (facts_at z n) ls)
all_own z n [] h = record { is = refl; net = refl }
all_own z n (l ∷ ls) h =
    let one : Ownly n z (front_after z (Writes l))
    (note None (facts_at z n) l) = own_after z n l h.0 in
    let rest : Ownly n (front_after z (Writes l)) (after_lines (front_after z (Writes l)) ls) (noted None (facts_at (front_after z (Writes l)) n) ls) = all_own (front_after z (Writes l)) n ls h.1 in
    record { is = rest.is ∙ ap (λ (f : Facts). noted None f ls) one.is; net = rest.net ∙ one.net }

-- ---- settling

record Settles (z : Front) (n : ℕ) (f : Facts) (l : Line) : Type 0 where
  may : LineMay z l
  own : IsOwn n l
  me : (note None f l).me ≡ f.me
  owed : (front_after z (Writes l)).owed ≡ z.owed
  closing : (front_after z (Writes l)).closing ≡ z.closing
  elsewhere : Elsewhere n z (front_after z (Writes l))

settles_one : (z : Front) (n : ℕ) (f : Facts) (l : Line) → facts_at z n ≡ f → n ≡ f.me → z.owed ≡ None → z.closing n ≡ false → SettleOk f l → Settles z n f l
settles_one z n f l is me o c ok = go l ok
  where
    is_at : (m : ℕ) → m ≡ f.me → facts_at z m ≡ f
    is_at m e = ap (facts_at z) (e ∙ sym me) ∙ is

    same : (m : ℕ) → m ≡ f.me → m ≡ n
    same m e = e ∙ sym me

    moves : (m : ℕ) (g : Facts) (w : Front) → m ≡ f.me → (world_of w).facts ≡ changed_at (world_of z).facts m g → w.closing ≡ z.closing → Elsewhere n z w
    moves m g w e fs cs = record { facts = λ j x. ap (λ (h : ℕ → Facts). h j) fs ∙ away (world_of z).facts m g j (ap (λ (q : ℕ). q == j) (same m e) ∙ x); closing = λ j x. ap (λ (h : ℕ → Bool). h j) cs }

    go : (l : Line) → SettleOk f l → Settles z n f l
    go (line.Handed m k p) ok = record {
      may = (o, record { stands = record { view = ap (λ (g : Facts). key_in g.exchange.view) (is_at m ok.me) ∙ ok.view; stays = ap z.closing (same m ok.me) ∙ c }; passes = subst (λ (g : Facts). Passes g m k p (may_hand g (list_at g p) p)) (sym (is_at m ok.me)) ok });
      own = same m ok.me;
      me = refl;
      owed = refl;
      closing = refl;
      elsewhere = moves m _ _ ok.me refl refl;
    }
    go (line.Settled m k p) ok = record {
      may = (o, record { stands = record { view = ap (λ (g : Facts). key_in g.exchange.view) (is_at m ok.me) ∙ ok.view; stays = ap z.closing (same m ok.me) ∙ c }; passes = subst (λ (g : Facts). Passes g m k p (may_settle g (list_at g p) p)) (sym (is_at m ok.me)) ok });
      own = same m ok.me;
      me = refl;
      owed = refl;
      closing = refl;
      elsewhere = moves m _ _ ok.me refl refl;
    }
    go (line.Learn m k p) ok = record {
      may = (o, record { stands = record { view = ap (λ (g : Facts). key_in g.exchange.view) (is_at m ok.me) ∙ ok.view; stays = ap z.closing (same m ok.me) ∙ c }; passes = subst (λ (g : Facts). Passes g m k p (is_to_learn g (list_at g p) p)) (sym (is_at m ok.me)) ok });
      own = same m ok.me;
      me = refl;
      owed = refl;
      closing = refl;
      elsewhere = moves m _ _ ok.me refl refl;
    }
    go (line.Drop m k p) ok = record {
      may = (o, record { stands = record { view = ap (λ (g : Facts). key_in g.exchange.view) (is_at m ok.me) ∙ ok.view; stays = ap z.closing (same m ok.me) ∙ c }; passes = subst (λ (g : Facts). Passes g m k p (is_to_drop g (list_at g p) p)) (sym (is_at m ok.me)) ok });
      own = same m ok.me;
      me = refl;
      owed = refl;
      closing = refl;
      elsewhere = moves m _ _ ok.me refl refl;
    }
    go _ ok = absurd ok

pub record SettlesAll (z : Front) (n : ℕ) (ls : List Line) : Type 0 where
  pub due : AllDue z ls
  pub own : Each (IsOwn n) ls
  pub owed : (after_lines z ls).owed ≡ z.owed
  pub closing : (after_lines z ls).closing ≡ z.closing
  pub elsewhere : Elsewhere n z (after_lines z ls)

pub settles_all : (z : Front) (n : ℕ) (f : Facts) (ls : List Line) → facts_at z n ≡ f → n ≡ f.me → z.owed ≡ None → z.closing n ≡ false → Along SettleOk f ls → SettlesAll z n ls
settles_all z n f [] is me o c h = record { due = tt; own = tt; owed = refl; closing = refl; elsewhere = nothing_moves n z }
settles_all z n f (l ∷ ls) is me o c h =
    let one : Settles z n f l = settles_one z n f l is me o c h.0 in
    let rest : SettlesAll (front_after z (Writes l)) n ls = settles_all (front_after z (Writes l)) n (note None f l) ls ((own_after z n l one.own).is ∙ ap (λ (g : Facts). note None g l) is) (me ∙ sym one.me) (one.owed ∙ o) (ap (λ (q : ℕ → Bool). q n) one.closing ∙ c) h.1 in
    record { due = (one.may, rest.due); own = (one.own, rest.own); owed = rest.owed ∙ one.owed; closing = rest.closing ∙ one.closing; elsewhere = elsewhere_on n z (front_after z (Writes l)) _ one.elsewhere rest.elsewhere }

-- ---- a proposal

-- the messages are such as may go out at any front
abbrev pub Free : ℕ → List (ℕ × Message) → Type 0
Free n ss = Each (λ (s : ℕ × Message). (is_told s.1 ≡ true) × ReadsWell s.1 × ((y : Front) → SendDue y n s.0 s.1)) ss

pub free_each : (n : ℕ) (m : Message) (ns : List ℕ) → is_told m ≡ true → ((y : Front) (r : ℕ) → SendDue y n r m) → ReadsWell m → Free n (to_each ns m)
free_each n m [] t d w = tt
free_each n m (r ∷ ns) t d w = ((t, w, λ y. d y r), free_each n m ns t d w)

pub record ProposeGo (z : Front) (f : Facts) (e : Effects) : Type 0 where
  pub due : AllDue z e.lines
  pub own : Each (IsOwn f.me) e.lines
  pub ends : Ended (after_lines z e.lines)
  pub free : Free f.me e.sends

own_append : (n : ℕ) (a b : List Line) → Each (IsOwn n) a → Each (IsOwn n) b → Each (IsOwn n) (a ++ b)
own_append n [] b x y = y
own_append n (l ∷ a) b x y = (x.0, own_append n a b x.1 y)

own_closing : (n : ℕ) (k : ClusterKey) (ts : List Transaction) → Each (IsOwn n) (map (λ t. ending n k t.number t.applied) ts)
own_closing n k [] = tt
own_closing n k (t ∷ ts) = (go t.applied, own_closing n k ts)
  where
    go : (o : Option Write) → IsOwn n (ending n k t.number o)
    go None = refl
    go (Some w) = refl

own_exchanging : (n : ℕ) (k : ClusterKey) (b : Bool) → Each (IsOwn n) (only_if (line.Exchanged n k) b)
own_exchanging n k true = (refl, tt)
own_exchanging n k false = tt

pub propose_goes : (z : Front) (f : Facts) → Ended z → facts_at z f.me ≡ f → is_member (neighbours f) f.me ≡ true → IsDescending (ids_of (neighbours f)) → IsDeclared z f.me → ((p : Proposal) → f.agreement.proposal ≡ Some p → ReadsWell (message.Propose p.key p.members))
    → (has_round f.agreement ≡ true → ReadsWell (message.Propose (next_key f.me f.agreement) (neighbours f))) → ProposeGo z f (propose f)
propose_goes z f h is among falls dec again next = go f.agreement.proposal refl
  where
    nobody : ProposeGo z f nothing
    nobody = record { due = tt; own = tt; ends = h; free = tt }

    promise_ends : Ended (front_after z (Writes (line.Promise f.me (next_key f.me f.agreement))))
    promise_ends = beside_ended z _ f.me _ h refl refl (λ m. refl) refl refl

    to : (ns : List ℕ) → has_round f.agreement ≡ true → ProposeGo z f (proposal_effects f (next_key f.me f.agreement) (neighbours f) ns)
    to [] round =
        let e : Entering (front_after z (Writes (line.Promise f.me (next_key f.me f.agreement)))) f.me (entering f (next_key f.me f.agreement) (neighbours f)) =
        entering_go z (front_after z (Writes (line.Promise f.me (next_key f.me f.agreement)))) (note None f (line.Promise f.me (next_key f.me f.agreement))) (next_key f.me f.agreement) (neighbours f) h
        (record { facts = λ m x. away (world_of z).facts f.me _ m x; closing = λ m x. refl }) (here (world_of z).facts f.me _ ∙ ap (λ (g : Facts). note None g (line.Promise f.me (next_key f.me f.agreement))) is) h.owes (subst (λ (g : Facts). Rests g) is (h.rests f.me)) among falls in
        record {
          due = ((h.owes, λ i. dec), e.due);
          own = (refl, own_append f.me (closing f) _ (own_closing f.me (view_key f) f.transactions.running) (refl, own_exchanging f.me (next_key f.me f.agreement) (is_single (neighbours f))));
          ends = e.ends;
          free = tt;
        }
    to (n ∷ ns) round = record { due = ((h.owes, λ i. dec), tt); own = (refl, tt); ends = promise_ends; free = free_each f.me _ (n ∷ ns) refl (λ y r. tt) (next round) }

    new : (b : Bool) → (is_candidate f && has_round f.agreement) ≡ b → ProposeGo z f (if b then proposal_effects f (next_key f.me f.agreement) (neighbours f) (agreement.others_among f.me (neighbours f)) else nothing)
    new true e = to (agreement.others_among f.me (neighbours f)) (and_right (is_candidate f) _ e)
    new false e = nobody

    go : (o : Option Proposal) → f.agreement.proposal ≡ o → ProposeGo z f (propose_with f o)
    go (Some p) e = record { due = tt; own = tt; ends = h; free = free_each f.me _ p.missing refl (λ y r. tt) (again p e) }
    go None e = new (is_candidate f && has_round f.agreement) refl
