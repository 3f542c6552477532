-- What a message and a stop make of the agreement, by the rules of agreement alone.
use Rattle.std.proofs.Common.{◌≡◌, ℕ, ◌<◌, ◌==◌, Bool, true, false, ◌&&◌, List, [], ◌∷◌, Option, Some, None, map, refl, sym, ap, ◌∙◌, arith, if◌then◌else◌, ◌++◌}
use Rattle.std.proofs.lemmas.Bool.{eqb-true}
use Rattle.std.proofs.lemmas.Bool.Decides.{nat_tests}
use Rattle.cluster_types.specs.declared.cluster_key.ClusterKey.{ClusterKey}
use Rattle.cluster_types.specs.declared.member.Member.{Member}
use Rattle.cluster_types.specs.ClusterKeys.{key_lt}
use Rattle.cluster_types.proofs.ClusterKeyLaws.{key_lt_decides}
use Rattle.cluster_types.proofs.BoolFacts.{and_left, and_right}
use Rattle.journal_lines.specs.declared.line.Line.TheVariants as line
use Rattle.wire_messages.specs.declared.message.Message.TheVariants as message
use Rattle.node_rules.specs.Agreement as agreement
use Rattle.node_rules.specs.Agreement.{Agreement, Proposal, proposes, proposal_of, without_missing, agreement_entered, promising}
use Rattle.node_rules.specs.Copies.{is_nil}
use Rattle.node_rules.specs.Effects.{to_each, lines_and_sends, lines_only, nothing, sends_only, to_one}
use Rattle.node_rules.specs.Entering.{ending, closing, entering}
use Rattle.node_rules.specs.Exchange.{is_single}
use Rattle.node_rules.specs.Facts.{Facts, view_key}
use Rattle.node_rules.specs.Keys.{same_key}
use Rattle.node_rules.specs.Messages as due
use Rattle.node_rules.specs.Notes.{note, noted, all_sent, reached}
use Rattle.node_rules.specs.Steps.{facts_after, after_message, after_stop}
use Rattle.node_rules.specs.Transactions.{Transaction, Write}
use Rattle.node_rules.proofs.NoteLaws.{noted-append}
use Rattle.node_rules.specs.Tables.{only_if}
use Rattle.node_rules.specs.StaleMessages.{stale}
use Rattle.node_rules.specs.VoteMessages.{commit_effects}
use Rattle.cluster_types.specs.ClusterKeys as keys

-- ---- keys

same_key_is : (k l : ClusterKey) → same_key k l ≡ true → k ≡ l
same_key_is k l e i = record {
  round = eqb-true k.round l.round (and_left (k.round == l.round) _ e) i;
  principal = eqb-true k.principal l.principal (and_right (k.round == l.round) _ e) i;
}

pub same_itself : (k : ClusterKey) → same_key k k ≡ true
same_itself k = grind (arith, nat_tests)

not_above : (a b : ClusterKey) → key_lt a b ≡ true → key_lt b a ≡ false
not_above a b e = go (key_lt b a) refl
  where
    go : (c : Bool) → key_lt b a ≡ c → c ≡ false
    go false i = refl
    go true i =
        let x = (key_lt_decides a b).0 e in
        let y = (key_lt_decides b a).0 i in
        let same : a.round ≡ b.round = omega (arith, x.rounds, y.rounds) in
        let below : a.principal < b.principal = x.principals same in
        let above : b.principal < a.principal = y.principals (sym same) in
        absurd (omega (arith, below, above))

-- ---- entering

ending_keeps : (g : Facts) (me : ℕ) (key : ClusterKey) (number : ℕ) (applied : Option Write) → (note None g (ending me key number applied)).agreement ≡ g.agreement
ending_keeps g me key number None = refl
ending_keeps g me key number (Some w) = refl

closing_keeps : (g : Facts) (me : ℕ) (key : ClusterKey) (ts : List Transaction) → (noted None g (map (λ t. ending me key t.number t.applied) ts)).agreement ≡ g.agreement
closing_keeps g me key [] = refl
closing_keeps g me key (t ∷ ts) = closing_keeps (note None g (ending me key t.number t.applied)) me key ts ∙ ending_keeps g me key t.number t.applied

enter_agrees : (g : Facts) (me : ℕ) (key : ClusterKey) (ms : List Member) (b : Bool)
    → (noted None g (line.Enter me key ms ∷ only_if (line.Exchanged me key) b)).agreement ≡ agreement.agreement_entered g.agreement key
enter_agrees g me key ms true = refl
enter_agrees g me key ms false = refl

pub entering_agrees : (f g : Facts) (key : ClusterKey) (ms : List Member) → (noted None g (entering f key ms)).agreement ≡ agreement.agreement_entered g.agreement key
entering_agrees f g key ms =
    ap (λ (h : Facts). h.agreement) (noted-append None g (closing f) (line.Enter f.me key ms ∷ only_if (line.Exchanged f.me key) (is_single ms)))
    ∙ enter_agrees (noted None g (closing f)) f.me key ms (is_single ms)
    ∙ ap (λ (a : Agreement). agreement.agreement_entered a key) (closing_keeps g f.me (view_key f) f.transactions.running)

commits_keep : (g : Facts) (ns : List ℕ) (key : ClusterKey) (ms : List Member) → all_sent g (to_each ns (message.Commit key ms)) ≡ g
commits_keep g [] key ms = refl
commits_keep g (n ∷ ns) key ms = commits_keep g ns key ms

-- ---- messages

voted : (f : Facts) (from : ℕ) (key : ClusterKey) (b : Bool) → key_lt key f.agreement.promised ≡ b
    → (facts_after None f (if b then sends_only (to_one from (message.Refuse key f.agreement.promised)) else lines_and_sends (only_if (line.Promise f.me key) (keys.key_lt f.agreement.promised key)) (to_one from (message.Accept key)))).agreement
    ≡ agreement.voting f.agreement key
voted f from key true e = sym (ap (λ (holds : Bool). if holds then promising f.agreement key else f.agreement) (not_above key f.agreement.promised e))
voted f from key false e = go (key_lt f.agreement.promised key)
  where
    go : (b : Bool) → (noted None f (only_if (line.Promise f.me key) b)).agreement ≡ (if b then promising f.agreement key else f.agreement)
    go true = refl
    go false = refl

pub propose_agrees : (f : Facts) (clock from : ℕ) (key : ClusterKey) (ms : List Member)
    → (after_message f clock from (message.Propose key ms)).agreement ≡ agreement.voting f.agreement key
propose_agrees f clock from key ms = voted f from key (key_lt key f.agreement.promised) refl

committed : (f g : Facts) (p : Proposal) (key : ClusterKey) (b : Bool) → p.key ≡ key
    → (facts_after None g (if b then commit_effects f p else nothing)).agreement
    ≡ (if b then agreement_entered g.agreement key else g.agreement)
committed f g p key false same = refl
committed f g p key true same =
    ap (λ (h : Facts). h.agreement) (commits_keep (noted None g (entering f p.key p.members)) (agreement.others_among f.me p.members) p.key p.members)
    ∙ entering_agrees f g p.key p.members
    ∙ ap (λ (k : ClusterKey). agreement.agreement_entered g.agreement k) same

counted : (f g : Facts) (from : ℕ) (key : ClusterKey) (o : Option Proposal) (b : Bool) → proposes o key ≡ b
    → (facts_after None g (due.accept_effects f from key o b)).agreement ≡ (if b && agreement.is_accepted_with o from then agreement_entered g.agreement key else g.agreement)
counted f g from key None true e = cc
counted f g from key None false e = refl
counted f g from key (Some p) false e = refl
counted f g from key (Some p) true e = committed f g p key (is_nil (without_missing p from).missing) (same_key_is p.key key e)

pub accept_agrees : (f : Facts) (clock from : ℕ) (key : ClusterKey)
    → (after_message f clock from (message.Accept key)).agreement ≡ agreement.counting f.agreement from key
accept_agrees f clock from key = counted f (reached f from (message.Accept key)) from key f.agreement.proposal (proposes f.agreement.proposal key) refl

pub refuse_agrees : (f : Facts) (clock from : ℕ) (key promised : ClusterKey)
    → (after_message f clock from (message.Refuse key promised)).agreement ≡ agreement.refusing f.agreement key promised
refuse_agrees f clock from key promised = go (proposes f.agreement.proposal key)
  where
    go : (b : Bool) → (facts_after None (reached f from (message.Refuse key promised)) (if b then nothing else stale f)).agreement ≡ agreement.refusing f.agreement key promised
    go true = refl
    go false = refl

pub commit_agrees : (f : Facts) (clock from : ℕ) (key : ClusterKey) (ms : List Member)
    → (after_message f clock from (message.Commit key ms)).agreement ≡ agreement.committing f.me f.agreement key ms
commit_agrees f clock from key ms = go (agreement.may_enter f.me f.agreement key ms)
  where
    go : (b : Bool) → (facts_after None f (if b then lines_only (entering f key ms) else stale f)).agreement ≡ (if b then agreement_entered f.agreement key else f.agreement)
    go true = entering_agrees f f key ms
    go false = refl

-- ---- a stop

stop_agrees_if : (f : Facts) (b : Bool) → b ≡ true → (facts_after None f (if b then lines_only (closing f ++ line.Stop f.me ∷ []) else lines_only (line.Down f.me ∷ []))).agreement ≡ agreement.stopping f.agreement
stop_agrees_if f false e = cc
stop_agrees_if f true e =
    ap (λ (h : Facts). h.agreement) (noted-append None f (closing f) (line.Stop f.me ∷ []))
    ∙ ap agreement.stopping (closing_keeps f f.me (view_key f) f.transactions.running)

pub stop_agrees : (f : Facts) → f.up ≡ true → (after_stop f).agreement ≡ agreement.stopping f.agreement
stop_agrees f up = stop_agrees_if f f.up up
