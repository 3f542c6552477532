-- Lines and messages that leave what a node has promised and entered: what they say stays true.
use Rattle.std.proofs.Common.{◌≡◌, ℕ, ◌+◌, Bool, true, false, List, [], ◌∷◌, ◌++◌, map, length, Option, Some, None, refl, sym, ap, subst, ◌∙◌, if◌then◌else◌}
use Rattle.cluster_types.specs.ClusterKeys.{IsBelow}
use Rattle.wire_messages.specs.declared.message.Message.{Message}
use Rattle.wire_messages.specs.declared.message.Message.TheVariants as message
use Rattle.wire_messages.specs.Decoding.{message_of}
use Rattle.wire_messages.specs.Spelling.{spelling}
use Rattle.journal_lines.specs.declared.line.Line.{Line}
use Rattle.journal_lines.specs.declared.line.Line.TheVariants as line
use Rattle.node_rules.specs.Agreement.{Agreement, Proposal, proposes, proposal_of}
use Rattle.node_rules.specs.Effects.{Effects, to_each}
use Rattle.node_rules.specs.Facts.{Facts}
use Rattle.node_rules.specs.Notes.{note, sent}
use Rattle.cluster_rules.specs.DueEvents.{sent_lines, written}
use Rattle.cluster_rules.specs.Marks.{Mark, Writes, by_node, sent_by}
use Rattle.cluster_rules.specs.Network.{Network, has_place, posting}
use Rattle.cluster_rules.specs.World.{World, changed_at}
use Rattle.key_laws.specs.Traced.{Traced, facts_of, traced_after, traced_after_all}
use Rattle.key_laws.specs.Licences.{IsPromisedKey, Says, SaysIf, MaySendKey, MaySendKeyIf, OkLine, LicensedMarks, Visited}
use Rattle.key_laws.specs.Sound.{Sound, Grows}
use Rattle.key_laws.proofs.Growth.{same_grows, grows_on, known_grows, says_if_grows, visited_grows}
use Rattle.key_laws.proofs.Frames.{at_each}
use Rattle.key_laws.proofs.Kept.{Keeps, kept_line, kept_all, licensed_append, after_all-append}
use Rattle.key_laws.proofs.Wire.{If}

-- lines as marks
abbrev pub writes : List Line → List Mark
writes ls = map Writes ls

pub writes_append : (a b : List Line) → writes (a ++ b) ≡ writes a ++ writes b
writes_append [] b = refl
writes_append (l ∷ a) b = ap (λ ms. Writes l ∷ ms) (writes_append a b)

pub licensed_both : (t : Traced) (a b : List Line) → LicensedMarks t (writes a) → LicensedMarks (traced_after_all t (writes a)) (writes b) → LicensedMarks t (writes (a ++ b))
licensed_both t a b p q = subst (λ ms. LicensedMarks t ms) (sym (writes_append a b)) (licensed_append t (writes a) (writes b) p q)

pub after_both : (t : Traced) (a b : List Line) → traced_after_all t (writes (a ++ b)) ≡ traced_after_all (traced_after_all t (writes a)) (writes b)
after_both t a b = ap (λ ms. traced_after_all t ms) (writes_append a b) ∙ after_all-append t (writes a) (writes b)

-- ---- lines

-- the line changes nothing of keys, and what it says can't become false
abbrev pub QuietLine : Traced → Line → Type 0
QuietLine t (line.Tick n) = ⊥
QuietLine t (line.Stop n) = ⊥
QuietLine t (line.Promise n k) = ⊥
QuietLine t (line.Enter n k ms) = ⊥
QuietLine t (line.Sent i a b bytes) = ⊥
QuietLine t (line.Deliver i a b) = ⊥
QuietLine t (line.Repeat i a b) = ⊥
QuietLine t (line.Cut i a b size) = ⊥
QuietLine t (line.Exchanged n k) = ⊥
QuietLine t (line.Opened n k number d a) = Visited t n k
QuietLine t (line.Value n k number d v) = Visited t n k
QuietLine t (line.Apply n k number d v) = Visited t n k
QuietLine t (line.Done n k number) = Visited t n k
QuietLine t (line.Aborted n k number) = IsPromisedKey t k
QuietLine t (line.Doubt n k number) = IsPromisedKey t k
QuietLine t (line.Merge n k d v) = Visited t n k
QuietLine t (line.Handed n k p) = Visited t n k
QuietLine t (line.Settled n k p) = Visited t n k
QuietLine t (line.Learn n k p) = Visited t n k
QuietLine t (line.Drop n k p) = Visited t n k
QuietLine t (line.Map n k p ms a) = Visited t n k
QuietLine t (line.Table k) = IsPromisedKey t k
QuietLine t (line.Proxy n k x d a acting) = IsPromisedKey t k
QuietLine t (line.Proxied n k x body) = IsPromisedKey t k
QuietLine t (line.Unproxied n k x) = IsPromisedKey t k
QuietLine t (line.Scanned s n k p size) = IsPromisedKey t k
QuietLine t _ = Unit {0}

abbrev pub QuietLines : Traced → List Line → Type 0
QuietLines t [] = Unit {0}
QuietLines t (l ∷ ls) = QuietLine t l × QuietLines t ls

quiet_ok_line : (t : Traced) (l : Line) → QuietLine t l → OkLine t l
quiet_ok_line t (line.Tick n) h = absurd h
quiet_ok_line t (line.Stop n) h = absurd h
quiet_ok_line t (line.Promise n k) h = absurd h
quiet_ok_line t (line.Enter n k ms) h = absurd h
quiet_ok_line t (line.Exchanged n k) h = absurd h
quiet_ok_line t (line.Sent i a b bytes) h = absurd h
quiet_ok_line t (line.Deliver i a b) h = absurd h
quiet_ok_line t (line.Repeat i a b) h = absurd h
quiet_ok_line t (line.Cut i a b size) h = absurd h
quiet_ok_line t _ h = h

quiet_line_grows : (t u : Traced) → Grows t u → (l : Line) → QuietLine t l → QuietLine u l
quiet_line_grows t u g (line.Tick n) h = h
quiet_line_grows t u g (line.Opened n k number d a) h = visited_grows t u g n k h
quiet_line_grows t u g (line.Value n k number d v) h = visited_grows t u g n k h
quiet_line_grows t u g (line.Apply n k number d v) h = visited_grows t u g n k h
quiet_line_grows t u g (line.Done n k number) h = visited_grows t u g n k h
quiet_line_grows t u g (line.Aborted n k number) h = known_grows t u g k h
quiet_line_grows t u g (line.Doubt n k number) h = known_grows t u g k h
quiet_line_grows t u g (line.Merge n k d v) h = visited_grows t u g n k h
quiet_line_grows t u g (line.Handed n k p) h = visited_grows t u g n k h
quiet_line_grows t u g (line.Settled n k p) h = visited_grows t u g n k h
quiet_line_grows t u g (line.Learn n k p) h = visited_grows t u g n k h
quiet_line_grows t u g (line.Drop n k p) h = visited_grows t u g n k h
quiet_line_grows t u g (line.Map n k p ms a) h = visited_grows t u g n k h
quiet_line_grows t u g (line.Table k) h = known_grows t u g k h
quiet_line_grows t u g (line.Proxy n k x d a acting) h = known_grows t u g k h
quiet_line_grows t u g (line.Proxied n k x body) h = known_grows t u g k h
quiet_line_grows t u g (line.Unproxied n k x) h = known_grows t u g k h
quiet_line_grows t u g (line.Scanned s n k p size) h = known_grows t u g k h
quiet_line_grows t u g _ h = h

pub quiet_lines_grow : (t u : Traced) → Grows t u → (ls : List Line) → QuietLines t ls → QuietLines u ls
quiet_lines_grow t u g [] h = tt
quiet_lines_grow t u g (l ∷ ls) h = (quiet_line_grows t u g l h.0, quiet_lines_grow t u g ls h.1)

pub quiet_append : (t : Traced) (a b : List Line) → QuietLines t a → QuietLines t b → QuietLines t (a ++ b)
quiet_append t [] b h i = i
quiet_append t (l ∷ a) b h i = (h.0, quiet_append t a b h.1 i)

-- what the node has agreed to is as before
abbrev pub SameAgreement : Traced → Traced → Type 0
SameAgreement t u = (n : ℕ) → (facts_of u n).agreement ≡ (facts_of t n).agreement

same_by_node : (t : Traced) (w : World) (m : ℕ) (l : Line) → w.facts ≡ t.world.facts → (note w.want (w.facts m) l).agreement ≡ (w.facts m).agreement → (n : ℕ) → ((by_node w m l).facts n).agreement ≡ (t.world.facts n).agreement
same_by_node t w m l facts e = at_each (λ n f. f.agreement ≡ (t.world.facts n).agreement) w.facts m (note w.want (w.facts m) l) (λ n. ap (λ fs. (fs n).agreement) facts) (e ∙ ap (λ fs. (fs m).agreement) facts)

quiet_same : (t : Traced) (l : Line) → QuietLine t l → SameAgreement t (traced_after t (Writes l))
quiet_same t (line.Tick n) h = absurd h
quiet_same t (line.Stop n) h = absurd h
quiet_same t (line.Promise n k) h = absurd h
quiet_same t (line.Enter n k ms) h = absurd h
quiet_same t (line.Sent i a b bytes) h = absurd h
quiet_same t (line.Deliver i a b) h = absurd h
quiet_same t (line.Repeat i a b) h = absurd h
quiet_same t (line.Cut i a b size) h = absurd h
quiet_same t (line.Start m) h = same_by_node t t.world m (line.Start m) refl refl
quiet_same t (line.Quiesce m) h = same_by_node t t.world m (line.Quiesce m) refl refl
quiet_same t (line.Unquiesce m) h = same_by_node t t.world m (line.Unquiesce m) refl refl
quiet_same t (line.Exchanged m k) h = absurd h
quiet_same t (line.Opened m k number d a) h = same_by_node t t.world m (line.Opened m k number d a) refl refl
quiet_same t (line.Value m k number d v) h = same_by_node t t.world m (line.Value m k number d v) refl refl
quiet_same t (line.Apply m k number d v) h = same_by_node t t.world m (line.Apply m k number d v) refl refl
quiet_same t (line.Done m k number) h = same_by_node t t.world m (line.Done m k number) refl refl
quiet_same t (line.Aborted m k number) h = same_by_node t t.world m (line.Aborted m k number) refl refl
quiet_same t (line.Doubt m k number) h = same_by_node t t.world m (line.Doubt m k number) refl refl
quiet_same t (line.Merge m k d v) h = same_by_node t t.world m (line.Merge m k d v) refl refl
quiet_same t (line.Handed m k p) h = same_by_node t t.world m (line.Handed m k p) refl refl
quiet_same t (line.Settled m k p) h = same_by_node t t.world m (line.Settled m k p) refl refl
quiet_same t (line.Learn m k p) h = same_by_node t t.world m (line.Learn m k p) refl refl
quiet_same t (line.Drop m k p) h = same_by_node t t.world m (line.Drop m k p) refl refl
quiet_same t _ h = λ n. refl

-- lines that may stand, after which the agreements are as before
pub record Calmly (t : Traced) (ls : List Line) : Type 0 where
  pub ok : LicensedMarks t (writes ls)
  pub keeps : Keeps t (traced_after_all t (writes ls))
  pub same : SameAgreement t (traced_after_all t (writes ls))

pub quietly : (t : Traced) (ls : List Line) → Sound t → QuietLines t ls → Calmly t ls
quietly t [] s h = record { ok = tt; keeps = record { sound = s; grows = same_grows t }; same = λ n. refl }
quietly t (l ∷ ls) s h =
    let ok : OkLine t l = quiet_ok_line t l h.0 in
    let first : Keeps t (traced_after t (Writes l)) = kept_line t l ok s in
    let others : Calmly (traced_after t (Writes l)) ls = quietly (traced_after t (Writes l)) ls first.sound (quiet_lines_grow t (traced_after t (Writes l)) first.grows ls h.1) in
    record {
      ok = (ok, others.ok);
      keeps = record { sound = others.keeps.sound; grows = grows_on t _ _ first.grows others.keeps.grows };
      same = λ n. others.same n ∙ quiet_same t l h.0 n;
    }

-- ---- messages

-- the message may be sent: what its bytes are read as says what is so
pub record MayPost (t : Traced) (n : ℕ) (m : Message) : Type 0 where
  pub says : SaysIf t n (message_of (spelling m))
  pub may : MaySendKeyIf t n (message_of (spelling m))

abbrev pub Posts : Traced → ℕ → List (ℕ × Message) → Type 0
Posts t n [] = Unit {0}
Posts t n (m ∷ ms) = MayPost t n m.1 × Posts t n ms

pub posts_of : (t : Traced) (n : ℕ) (m : Message) → If (λ x. Says t n x × MaySendKey t n x) (message_of (spelling m)) → MayPost t n m
posts_of t n m h = record { says = says (message_of (spelling m)) h; may = may (message_of (spelling m)) h }
  where
    says : (o : Option Message) → If (λ x. Says t n x × MaySendKey t n x) o → SaysIf t n o
    says None h = tt
    says (Some x) h = h.0

    may : (o : Option Message) → If (λ x. Says t n x × MaySendKey t n x) o → MaySendKeyIf t n o
    may None h = tt
    may (Some x) h = h.1

pub each_posts : (t : Traced) (n : ℕ) (m : Message) (ns : List ℕ) → MayPost t n m → Posts t n (to_each ns m)
each_posts t n m [] h = tt
each_posts t n m (to ∷ ns) h = (h, each_posts t n m ns h)

-- what the node has promised and entered is the same
pub record SameKeysOf (t u : Traced) (n : ℕ) : Type 0 where
  pub promised : (facts_of u n).agreement.promised ≡ (facts_of t n).agreement.promised
  pub last : (facts_of u n).agreement.last ≡ (facts_of t n).agreement.last

pub same_of : (t u : Traced) (n : ℕ) → SameAgreement t u → SameKeysOf t u n
same_of t u n h = record { promised = ap (λ (a : Agreement). a.promised) (h n); last = ap (λ (a : Agreement). a.last) (h n) }

may_stays : (t u : Traced) (n : ℕ) → SameKeysOf t u n → (m : Option Message) → MaySendKeyIf t n m → MaySendKeyIf u n m
may_stays t u n s None h = tt
may_stays t u n s (Some (message.Propose k ms)) h = record { promised = h.promised ∙ sym s.promised; above = subst (λ last. IsBelow last k) (sym s.last) h.above }
may_stays t u n s (Some _) h = tt

pub posts_stay : (t u : Traced) (n : ℕ) → Grows t u → SameKeysOf t u n → (ms : List (ℕ × Message)) → Posts t n ms → Posts u n ms
posts_stay t u n g s [] h = tt
posts_stay t u n g s (m ∷ ms) h =
    (record { says = says_if_grows t u g n (message_of (spelling m.1)) h.0.says; may = may_stays t u n s (message_of (spelling m.1)) h.0.may }, posts_stay t u n g s ms h.1)

pub posts_append : (t : Traced) (n : ℕ) (a b : List (ℕ × Message)) → Posts t n a → Posts t n b → Posts t n (a ++ b)
posts_append t n [] b h i = i
posts_append t n (m ∷ a) b h i = (h.0, posts_append t n a b h.1 i)

proposed_same : (a : Agreement) (p : Proposal) (b : Bool) → ((if b then a else record a { proposal = Some p }).promised ≡ a.promised) × ((if b then a else record a { proposal = Some p }).last ≡ a.last)
proposed_same a p true = (refl, refl)
proposed_same a p false = (refl, refl)

pub sent_same : (f : Facts) (b : ℕ) (m : Message) → ((sent f b m).agreement.promised ≡ f.agreement.promised) × ((sent f b m).agreement.last ≡ f.agreement.last)
sent_same f b (message.Propose k ms) = proposed_same f.agreement (proposal_of f.me k ms) (proposes f.agreement.proposal k)
sent_same f b (message.Batch x) = (refl, refl)
sent_same f b _ = (refl, refl)

sent_keeps : (t : Traced) (i n b : ℕ) (bytes : List ℕ) → SameKeysOf t (traced_after t (Writes (line.Sent i n b bytes))) n
sent_keeps t i n b bytes = go (message_of bytes)
  where
    v : World
    v = record t.world { network = posting t.world.network i (record { from = n; to = b; bytes = bytes }) }

    both : (m : Message) → (k : ℕ) → (((changed_at v.facts n (sent (v.facts n) b m) k).agreement.promised ≡ (t.world.facts k).agreement.promised) × ((changed_at v.facts n (sent (v.facts n) b m) k).agreement.last ≡ (t.world.facts k).agreement.last))
    both m = at_each (λ k f. (f.agreement.promised ≡ (t.world.facts k).agreement.promised) × (f.agreement.last ≡ (t.world.facts k).agreement.last)) v.facts n (sent (v.facts n) b m) (λ k. (refl, refl)) (sent_same (v.facts n) b m)

    go : (o : Option Message) → SameKeysOf t (record { world = sent_by v n b o; lists = t.lists; entered = t.entered }) n
    go None = record { promised = refl; last = refl }
    go (Some m) = record { promised = (both m n).0; last = (both m n).1 }

-- all messages of a step may stand
pub posts_ok : (t : Traced) (n before flying : ℕ) (ms : List (ℕ × Message)) → Sound t → Posts t n ms → LicensedMarks t (writes (sent_lines n before flying ms))
posts_ok t n before flying [] s h = tt
posts_ok t n before flying (m ∷ ms) s h =
    let l : Line = line.Sent (before + 1) n m.0 (spelling m.1) in
    let u : Traced = traced_after t (Writes l) in
    let ok : OkLine t l = (h.0.says, h.0.may) in
    let first : Keeps t u = kept_line t l ok s in
    let left : Posts u n ms = posts_stay t u n first.grows (sent_keeps t (before + 1) n m.0 (spelling m.1)) ms h.1 in
    (ok, full (has_place flying) u first.sound (λ v f. posts_ok v n (before + 1) f ms) left)
  where
    full : (b : Bool) (u : Traced) → Sound u → ((v : Traced) (f : ℕ) → Sound v → Posts v n ms → LicensedMarks v (writes (sent_lines n (before + 1) f ms))) → Posts u n ms
        → LicensedMarks u (writes ((if b then [] else line.Full (before + 1) ∷ []) ++ sent_lines n (before + 1) (if b then flying + 1 else flying) ms))
    full true u s next h = next u (flying + 1) s h
    full false u s next h =
        let k : Keeps u (traced_after u (Writes (line.Full (before + 1)))) = kept_line u (line.Full (before + 1)) tt s in
        (tt, next (traced_after u (Writes (line.Full (before + 1)))) flying k.sound (posts_stay u _ n k.grows (record { promised = refl; last = refl }) ms h))

-- what an endpoint does may stand: its lines, and its messages after them
pub written_ok : (t : Traced) (n : ℕ) (net : Network) (e : Effects) → LicensedMarks t (writes e.lines) → Sound t → Posts (traced_after_all t (writes e.lines)) n e.sends → LicensedMarks t (writes (written net n e))
written_ok t n net e ok s h =
    licensed_both t e.lines (sent_lines n (length net.sent) (length net.flying) e.sends) ok
    (posts_ok (traced_after_all t (writes e.lines)) n (length net.sent) (length net.flying) e.sends (kept_all t (writes e.lines) ok s).sound h)

-- quiet effects: lines that leave the agreements, and messages that say what is so already
pub record Quiet (t : Traced) (n : ℕ) (e : Effects) : Type 0 where
  pub lines : QuietLines t e.lines
  pub posts : Posts t n e.sends

pub quiet_ok : (t : Traced) (n : ℕ) (net : Network) (e : Effects) → Sound t → Quiet t n e → LicensedMarks t (writes (written net n e))
quiet_ok t n net e s h =
    let c : Calmly t e.lines = quietly t e.lines s h.lines in
    written_ok t n net e c.ok s (posts_stay t _ n c.keeps.grows (same_of t _ n c.same) e.sends h.posts)
