-- What is due of a node with its view's key is quiet; and an entry that is due may stand.
use Rattle.std.proofs.Common.{◌≡◌, ℕ, zero, suc, ◌+◌, ◌==◌, Bool, true, false, cond, List, [], ◌∷◌, ◌++◌, map, Option, Some, None, refl, sym, ap, subst, ◌∙◌, inl}
use Rattle.std.specs.Prelude.{flat_map, filter_map, find, option_map, unwrap_or, if◌then◌else◌}
use Rattle.std.specs.List.{cons_option}
use Rattle.conflict_order.specs.declared.want.Want.{Want}
use Rattle.cluster_types.specs.declared.cluster_key.ClusterKey.{ClusterKey}
use Rattle.cluster_types.specs.declared.member.Member.{Member}
use Rattle.cluster_types.specs.ClusterKeys.{IsBelow, none}
use Rattle.wire_messages.specs.declared.message.Batch.{Batch}
use Rattle.wire_messages.specs.declared.message.Message.TheVariants as message
use Rattle.journal_lines.specs.declared.line.Line.{Line}
use Rattle.journal_lines.specs.declared.line.Line.TheVariants as line
use Rattle.node_rules.specs.Agreement.{Agreement}
use Rattle.node_rules.specs.Batches.{Target, Targets, batch_after, fresh_batch, next_batch}
use Rattle.node_rules.specs.Copies.{Content}
use Rattle.node_rules.specs.Entering.{ending, closing, entering}
use Rattle.node_rules.specs.declared.member_row.MemberRow.{MemberRow}
use Rattle.node_rules.specs.Map.{row_of_member}
use Rattle.node_rules.specs.Exchange.{View, is_single, exchange_key, is_view}
use Rattle.node_rules.specs.Facts.{Facts, view_key, list_at}
use Rattle.node_rules.specs.Notes.{note, noted, in_view}
use Rattle.node_rules.specs.Resolving.{repl}
use Rattle.node_rules.specs.Settling.{hand, settle, learn, drop, lines_then, settling_at, settling_from, settling_due, may_hand, may_settle}
use Rattle.node_rules.specs.Standing.{is_to_learn, is_to_drop, others}
use Rattle.node_rules.specs.Tick.{sends_again, transactions, batch_to, batches, state, own_row_in, rows, progress_message}
use Rattle.node_rules.specs.Transactions.{Transaction, Write}
use Rattle.node_rules.specs.Tables.{only_if}
use Rattle.cluster_rules.specs.Marks.{Writes, Begins, Mark}
use Rattle.journal_readings.specs.Lines.{is_enter}
use Rattle.key_laws.proofs.Frames.{at_here, never}
use Rattle.key_laws.specs.Traced.{Traced, facts_of, traced_after, traced_after_all}
use Rattle.key_laws.specs.Licences.{IsPromisedKey, RowOf, Says, MaySendKey, MayEnterKey, LicensedMarks, Visited, MayFinishExchange}
use Rattle.key_laws.proofs.Order.{at_most_none}
use Rattle.key_laws.specs.Sound.{ViewStands, OutKnown, Outs, RowsKnown, NodeKeys, Sound}
use Rattle.key_laws.proofs.Growth.{known_grows}
use Rattle.key_laws.proofs.KeptNodes.{Lawful, just_entered, or_later}
use Rattle.key_laws.proofs.Kept.{Keeps, kept_line}
use Rattle.key_laws.proofs.Wire.{read_state, read_ask, read_repl, read_batch, read_progress}
use Rattle.key_laws.proofs.Quiet.{writes, licensed_both, QuietLine, QuietLines, Calmly, quietly, MayPost, Posts, posts_of, each_posts, posts_append, after_both}
use Rattle.node_rules.specs.Effects.{nothing, sends_only, to_each}

-- ---- the view's key

pub none_known : (t : Traced) → IsPromisedKey t none
none_known t = record { bound = at_most_none _; field = inl refl }

pub view_known : (t : Traced) (n : ℕ) (f : Facts) → NodeKeys t n f → IsPromisedKey t (view_key f)
view_known t n f h = go f.exchange.view h.view
  where
    go : (v : Option View) → ViewStands t n f.agreement.last v → IsPromisedKey t (exchange_key v)
    go None i = none_known t
    go (Some v) i = subst (λ k. IsPromisedKey t k) (sym i.key) h.agrees.last

-- a node that is in a view has entered it
pub view_visited : (t : Traced) (n : ℕ) (f : Facts) (v : View) → NodeKeys t n f → f.exchange.view ≡ Some v → Visited t n (view_key f)
view_visited t n f v h e = subst (λ o. Visited t n (exchange_key o)) (sym e) (record {
  known = subst (λ o. IsPromisedKey t (exchange_key o)) e (view_known t n f h);
  entered = (subst (λ o. ViewStands t n f.agreement.last o) e h.view).entered;
})

pub viewed : (t : Traced) (n : ℕ) (f : Facts) (k : ClusterKey) → NodeKeys t n f → in_view f k ≡ true → Visited t n (view_key f)
viewed t n f k h e = go f.exchange.view refl e
  where
    go : (o : Option View) → f.exchange.view ≡ o → is_view o k ≡ true → Visited t n (view_key f)
    go None s i = absurd (never i refl)
    go (Some v) s i = view_visited t n f v h s

-- ---- lines of the view

-- the line is one of that node in the view of that key, and leaves the view
abbrev pub OfView : ℕ → ClusterKey → Line → Type 0
OfView m k (line.Opened n l number d a) = (n ≡ m) × (l ≡ k)
OfView m k (line.Value n l number d v) = (n ≡ m) × (l ≡ k)
OfView m k (line.Apply n l number d v) = (n ≡ m) × (l ≡ k)
OfView m k (line.Done n l number) = (n ≡ m) × (l ≡ k)
OfView m k (line.Merge n l d v) = (n ≡ m) × (l ≡ k)
OfView m k (line.Handed n l p) = (n ≡ m) × (l ≡ k)
OfView m k (line.Settled n l p) = (n ≡ m) × (l ≡ k)
OfView m k (line.Learn n l p) = (n ≡ m) × (l ≡ k)
OfView m k (line.Drop n l p) = (n ≡ m) × (l ≡ k)
OfView m k _ = ⊥

abbrev pub AllOfView : ℕ → ClusterKey → List Line → Type 0
AllOfView m k [] = Unit {0}
AllOfView m k (l ∷ ls) = OfView m k l × AllOfView m k ls

at_key : (t : Traced) (k l : ClusterKey) → IsPromisedKey t k → l ≡ k → IsPromisedKey t l
at_key t k l h e = subst (λ x. IsPromisedKey t x) (sym e) h

at_view : (t : Traced) (m n : ℕ) (k l : ClusterKey) → Visited t m k → (n ≡ m) × (l ≡ k) → Visited t n l
at_view t m n k l h e = subst (λ (x : ℕ). Visited t x l) (sym e.0) (subst (λ q. Visited t m q) (sym e.1) h)

of_view_quiet : (t : Traced) (m : ℕ) (k : ClusterKey) (l : Line) → Visited t m k → OfView m k l → QuietLine t l
of_view_quiet t m k (line.Opened n l number d a) h e = at_view t m n k l h e
of_view_quiet t m k (line.Value n l number d v) h e = at_view t m n k l h e
of_view_quiet t m k (line.Apply n l number d v) h e = at_view t m n k l h e
of_view_quiet t m k (line.Done n l number) h e = at_view t m n k l h e
of_view_quiet t m k (line.Merge n l d v) h e = at_view t m n k l h e
of_view_quiet t m k (line.Handed n l p) h e = at_view t m n k l h e
of_view_quiet t m k (line.Settled n l p) h e = at_view t m n k l h e
of_view_quiet t m k (line.Learn n l p) h e = at_view t m n k l h e
of_view_quiet t m k (line.Drop n l p) h e = at_view t m n k l h e
of_view_quiet t m k _ h e = absurd e

pub all_quiet : (t : Traced) (m : ℕ) (k : ClusterKey) (ls : List Line) → Visited t m k → AllOfView m k ls → QuietLines t ls
all_quiet t m k [] h e = tt
all_quiet t m k (l ∷ ls) h e = (of_view_quiet t m k l h e.0, all_quiet t m k ls h e.1)

view_stays : (q : Option Want) (f : Facts) (m : ℕ) (k : ClusterKey) (l : Line) → OfView m k l → (view_key (note q f l) ≡ view_key f) × ((note q f l).me ≡ f.me)
view_stays q f m k (line.Opened n l number d a) e = (refl, refl)
view_stays q f m k (line.Value n l number d v) e = (refl, refl)
view_stays q f m k (line.Apply n l number d v) e = (refl, refl)
view_stays q f m k (line.Done n l number) e = (refl, refl)
view_stays q f m k (line.Merge n l d v) e = (refl, refl)
view_stays q f m k (line.Handed n l p) e = (refl, refl)
view_stays q f m k (line.Settled n l p) e = (refl, refl)
view_stays q f m k (line.Learn n l p) e = (refl, refl)
view_stays q f m k (line.Drop n l p) e = (refl, refl)
view_stays q f m k _ e = absurd e

pub all_view_stays : (q : Option Want) (f : Facts) (m : ℕ) (k : ClusterKey) (ls : List Line) → AllOfView m k ls → view_key (noted q f ls) ≡ view_key f
all_view_stays q f m k [] h = refl
all_view_stays q f m k (l ∷ ls) h = all_view_stays q (note q f l) m k ls h.1 ∙ (view_stays q f m k l h.0).0

pub all_me_stays : (q : Option Want) (f : Facts) (m : ℕ) (k : ClusterKey) (ls : List Line) → AllOfView m k ls → (noted q f ls).me ≡ f.me
all_me_stays q f m k [] h = refl
all_me_stays q f m k (l ∷ ls) h = all_me_stays q (note q f l) m k ls h.1 ∙ (view_stays q f m k l h.0).1

-- lines of the facts with lines of the view are lines of the view
pub after_lines : (f : Facts) (ls : List Line) (next : Facts → List Line) → AllOfView f.me (view_key f) ls → ((g : Facts) → AllOfView g.me (view_key g) (next g)) → AllOfView f.me (view_key f) (next (noted None f ls))
after_lines f ls next h i =
    subst (λ (m : ℕ). AllOfView m (view_key f) (next (noted None f ls))) (all_me_stays None f f.me (view_key f) ls h)
    (subst (λ k. AllOfView (noted None f ls).me k (next (noted None f ls))) (all_view_stays None f f.me (view_key f) ls h) (i (noted None f ls)))

pub of_view_append : (m : ℕ) (k : ClusterKey) (a b : List Line) → AllOfView m k a → AllOfView m k b → AllOfView m k (a ++ b)
of_view_append m k [] b h i = i
of_view_append m k (l ∷ a) b h i = (h.0, of_view_append m k a b h.1 i)

pub line_if_of_view : (m : ℕ) (k : ClusterKey) (l : Line) (b : Bool) → OfView m k l → AllOfView m k (only_if l b)
line_if_of_view m k l true h = (h, tt)
line_if_of_view m k l false h = tt

-- ---- settling

abbrev LinesOfView : (Facts → List Line) → Type 0
LinesOfView part = (f : Facts) → AllOfView f.me (view_key f) (part f)

and_then_of_view : (first second : Facts → List Line) → LinesOfView first → LinesOfView second → LinesOfView (lines_then first second)
and_then_of_view first second h i f = of_view_append f.me (view_key f) (first f) (second (noted None f (first f))) (h f) (after_lines f (first f) second (h f) i)

settling_at_of_view : (l : List ℕ) (p : ℕ) → LinesOfView (settling_at l p)
settling_at_of_view l p =
    and_then_of_view (λ f. hand f l p) (lines_then (λ f. settle f l p) (lines_then (λ f. learn f l p) (λ f. drop f l p)))
    (λ f. line_if_of_view f.me (view_key f) _ (may_hand f l p) (refl, refl))
    (and_then_of_view (λ f. settle f l p) (lines_then (λ f. learn f l p) (λ f. drop f l p))
    (λ f. line_if_of_view f.me (view_key f) _ (may_settle f l p) (refl, refl))
    (and_then_of_view (λ f. learn f l p) (λ f. drop f l p)
    (λ f. line_if_of_view f.me (view_key f) _ (is_to_learn f l p) (refl, refl))
    (λ f. line_if_of_view f.me (view_key f) _ (is_to_drop f l p) (refl, refl))))

settling_from_of_view : (n p : ℕ) → LinesOfView (settling_from n p)
unfolding settling_from
settling_from_of_view zero p f = tt
settling_from_of_view (suc n) p f =
    of_view_append f.me (view_key f) (settling_at (list_at f p) p f) (settling_from n (p + 1) (noted None f (settling_at (list_at f p) p f))) (settling_at_of_view (list_at f p) p f)
    (after_lines f (settling_at (list_at f p) p f) (settling_from n (p + 1)) (settling_at_of_view (list_at f p) p f) (settling_from_of_view n (p + 1)))

pub settling_of_view : (n : ℕ) (f : Facts) → AllOfView f.me (view_key f) (settling_due n f)
settling_of_view n f = go f.exchange.exchanged
  where
    go : (b : Bool) → AllOfView f.me (view_key f) (if b then settling_from n 0 f else [])
    go true = settling_from_of_view n 0 f
    go false = tt

-- what settles is in a view that it has entered
pub settling_quiet : (t : Traced) (n : ℕ) (f : Facts) → IsPromisedKey t (view_key f) → (f.exchange.exchanged ≡ true → t.entered f.me (view_key f) ≡ true) → QuietLines t (settling_due n f)
settling_quiet t n f known entered = go f.exchange.exchanged refl
  where
    go : (b : Bool) → f.exchange.exchanged ≡ b → QuietLines t (if b then settling_from n 0 f else [])
    go true e = all_quiet t f.me (view_key f) (settling_from n 0 f) (record { known = known; entered = entered e }) (settling_from_of_view n 0 f)
    go false e = tt

-- ---- closing, and an entry

ending_quiet : (t : Traced) (me : ℕ) (k : ClusterKey) (number : ℕ) (o : Option Write) → IsPromisedKey t k → QuietLine t (ending me k number o)
ending_quiet t me k number None h = h
ending_quiet t me k number (Some w) h = h

closing_from : (t : Traced) (me : ℕ) (k : ClusterKey) (xs : List Transaction) → IsPromisedKey t k → QuietLines t (map (λ (x : Transaction). ending me k x.number x.applied) xs)
closing_from t me k [] h = tt
closing_from t me k (x ∷ xs) h = (ending_quiet t me k x.number x.applied h, closing_from t me k xs h)

pub closing_quiet : (t : Traced) (f : Facts) → IsPromisedKey t (view_key f)
    → QuietLines t (closing f)
closing_quiet t f h = closing_from t f.me (view_key f) f.transactions.running h

closing_store : (q : Option Want) (f : Facts) (me : ℕ) (k : ClusterKey) (xs : List Transaction) → (noted q f (map (λ (x : Transaction). ending me k x.number x.applied) xs)).store ≡ f.store
closing_store q f me k [] = refl
closing_store q f me k (x ∷ xs) = closing_store q (note q f (ending me k x.number x.applied)) me k xs ∙ go x.applied
  where
    go : (o : Option Write) → (note q f (ending me k x.number o)).store ≡ f.store
    go None = refl
    go (Some w) = refl

closing_me : (q : Option Want) (f : Facts) (me : ℕ) (k : ClusterKey) (xs : List Transaction) → (noted q f (map (λ (x : Transaction). ending me k x.number x.applied) xs)).me ≡ f.me
closing_me q f me k [] = refl
closing_me q f me k (x ∷ xs) = closing_me q (note q f (ending me k x.number x.applied)) me k xs ∙ go x.applied
  where
    go : (o : Option Write) → (note q f (ending me k x.number o)).me ≡ f.me
    go None = refl
    go (Some w) = refl

pub closed_me : (q : Option Want) (f g : Facts) → (noted q g (closing f)).me ≡ g.me
closed_me q f g = closing_me q g f.me (view_key f) f.transactions.running

-- the store is as before the closing
pub closed_store : (q : Option Want) (f g : Facts) → (noted q g (closing f)).store ≡ g.store
closed_store q f g = closing_store q g f.me (view_key f) f.transactions.running

exchanging_ok : (t : Traced) (me : ℕ) (k : ClusterKey) (b : Bool) → MayFinishExchange t me k → LicensedMarks t (writes (only_if (line.Exchanged me k) b))
exchanging_ok t me k true h = (h, tt)
exchanging_ok t me k false h = tt

pub promised_known : (t : Traced) (n : ℕ) (k : ClusterKey) → Sound t → k ≡ (facts_of t n).agreement.promised → IsPromisedKey t k
promised_known t n k s e = at_key t _ k (s.nodes n).agrees.promised e

pub entering_ok : (t : Traced) (f : Facts) (k : ClusterKey) (ms : List Member) → Sound t → IsPromisedKey t (view_key f) → Lawful t f.me k ms → LicensedMarks t (writes (entering f k ms))
entering_ok t f k ms s known h =
    let c : Calmly t (closing f) = quietly t (closing f) s (closing_quiet t f known) in
    let u : Traced = traced_after_all t (writes (closing f)) in
    let promised : k ≡ (facts_of u f.me).agreement.promised = h.promised ∙ sym (ap (λ (a : Agreement). a.promised) (c.same f.me)) in
    let ok : MayEnterKey u f.me k ms = record {
      promised = promised;
      above = subst (λ (a : Agreement). IsBelow a.last k) (sym (c.same f.me)) h.above;
      among = h.among;
      source = inl (c.keeps.grows.lists k ms h.list);
    } in
    let l : Line = line.Enter f.me k ms in
    let entered : Keeps u (traced_after u (Writes l)) = kept_line u l ok c.keeps.sound in
    licensed_both t (closing f) (l ∷ only_if (line.Exchanged f.me k) (is_single ms)) c.ok (
      ok,
      exchanging_ok (traced_after u (Writes l)) f.me k (is_single ms) (record {
        visited = record { known = known_grows u _ entered.grows k (promised_known u f.me k c.keeps.sound promised); entered = just_entered u f.me k ms };
        view = at_here u.world.facts f.me f.me _ refl (λ (g : Facts). k ≡ view_key g) refl;
      }),
    )

-- who has entered has entered later on
entered_stays : (t : Traced) (ms : List Mark) (n : ℕ) (k : ClusterKey) → t.entered n k ≡ true → (traced_after_all t ms).entered n k ≡ true
entered_stays t [] n k h = h
entered_stays t (Begins e ∷ ms) n k h = entered_stays (traced_after t (Begins e)) ms n k h
entered_stays t (Writes l ∷ ms) n k h = entered_stays (traced_after t (Writes l)) ms n k (or_later (is_enter k n l) (t.entered n k) h)

pub entering_visits : (t : Traced) (f : Facts) (k : ClusterKey) (ms : List Member) → (traced_after_all t (writes (entering f k ms))).entered f.me k ≡ true
entering_visits t f k ms =
    let u : Traced = traced_after_all t (writes (closing f)) in
    subst (λ (x : Traced). x.entered f.me k ≡ true) (sym (after_both t (closing f) (line.Enter f.me k ms ∷ only_if (line.Exchanged f.me k) (is_single ms))))
    (entered_stays (traced_after u (Writes (line.Enter f.me k ms))) (writes (only_if (line.Exchanged f.me k) (is_single ms))) f.me k (just_entered u f.me k ms))

-- ---- messages of the view

pub found_row : (t : Traced) (n : ℕ) (rs : List MemberRow) → RowsKnown t rs → RowOf (λ k. IsPromisedKey t k) (unwrap_or (row_of_member rs n) [])
found_row t n [] h = tt
found_row t n (r ∷ rs) h = go (r.node == n) (found_row t n rs h.1)
  where
    go : (b : Bool) → RowOf (λ k. IsPromisedKey t k) (unwrap_or (row_of_member rs n) []) → RowOf (λ k. IsPromisedKey t k) (unwrap_or (option_map (λ x. x.row) (cond b (Some r) (find (λ x. x.node == n) rs))) [])
    go true i = h.0
    go false i = i

pub state_posts : (t : Traced) (n : ℕ) (f : Facts) (wants : Bool) → IsPromisedKey t (view_key f) → RowsKnown t f.exchange.rows → MayPost t n (state f wants)
state_posts t n f wants h rows = posts_of t n _ (read_state (λ x. Says t n x × MaySendKey t n x) (λ k. IsPromisedKey t k) (λ k i. i.field) (view_key f) wants (own_row_in f) h.field (found_row t f.me f.exchange.rows rows) (λ w r q. ((h, q), tt)))

pub ask_posts : (t : Traced) (n : ℕ) (k : ClusterKey) (number : ℕ) (d : List ℕ) → IsPromisedKey t k → MayPost t n (message.Ask k number d)
ask_posts t n k number d h = posts_of t n _ (read_ask (λ x. Says t n x × MaySendKey t n x) k number d h.field (λ i e. (h, tt)))

pub repl_posts : (t : Traced) (n : ℕ) (f : Facts) (x : Transaction) (w : Write) → IsPromisedKey t (view_key f) → MayPost t n (repl f x w)
repl_posts t n f x w h = posts_of t n _ (read_repl (λ x. Says t n x × MaySendKey t n x) (view_key f) x.number w.nth x.digest w.version h.field (λ i j e v. (h, tt)))

pub progress_posts : (t : Traced) (n k : ℕ) (f : Facts) (wants : Bool) → IsPromisedKey t (view_key f) → MayPost t n (progress_message k f wants)
progress_posts t n k f wants h = posts_of t n _ (read_progress (λ x. Says t n x × MaySendKey t n x) (view_key f) wants _ _ _ h.field (λ w a b c. (h, tt)))

again_posts : (t : Traced) (n : ℕ) (f : Facts) (x : Transaction) (o : Option Write) → IsPromisedKey t (view_key f) → Posts t n (sends_again f x o)
again_posts t n f x None h = each_posts t n _ x.awaiting (ask_posts t n (view_key f) x.number x.digest h)
again_posts t n f x (Some w) h = each_posts t n _ x.awaiting (repl_posts t n f x w h)

transactions_from : (t : Traced) (n : ℕ) (f : Facts) (xs : List Transaction) → IsPromisedKey t (view_key f) → Posts t n (flat_map (λ (x : Transaction). sends_again f x x.applied) xs)
transactions_from t n f [] h = tt
transactions_from t n f (x ∷ xs) h = posts_append t n _ _ (again_posts t n f x x.applied h) (transactions_from t n f xs h)

pub transactions_posts : (t : Traced) (n : ℕ) (f : Facts) → IsPromisedKey t (view_key f) → Posts t n (transactions f).sends
transactions_posts t n f h = transactions_from t n f f.transactions.running h

batch_posts : (t : Traced) (n : ℕ) (b : Batch) → IsPromisedKey t b.key
    → MayPost t n (message.Batch b)
batch_posts t n b h = posts_of t n _ (read_batch (λ x. Says t n x × MaySendKey t n x) b h.field (λ c e. (at_key t b.key c.key h e, tt)))

next_known : (t : Traced) (k : ClusterKey) (content : Content) (x : Target) → IsPromisedKey t k → (o : Option Batch) → OutKnown t o → OutKnown t (batch_after k content x o)
next_known t k content x h (Some b) out = out
next_known t k content x h None out = fresh x.pending
  where
    fresh : (ds : List (List ℕ)) → OutKnown t (fresh_batch k content x ds)
    fresh [] = tt
    fresh (d ∷ ds) = h

batches_from : (t : Traced) (n : ℕ) (k : ClusterKey) (content : Content) (xs : Targets) → IsPromisedKey t k → Outs t xs → Posts t n (filter_map (λ (x : Target). batch_to x.node (next_batch k content x)) xs)
batches_from t n k content [] h outs = tt
batches_from t n k content (x ∷ xs) h outs = go (next_batch k content x) (next_known t k content x h x.out outs.0) (batches_from t n k content xs h outs.1)
  where
    go : (o : Option Batch) → OutKnown t o → Posts t n (filter_map (λ (x : Target). batch_to x.node (next_batch k content x)) xs)
        → Posts t n (cons_option (batch_to x.node o) (filter_map (λ (x : Target). batch_to x.node (next_batch k content x)) xs))
    go None i rest = rest
    go (Some b) i rest = (batch_posts t n b i, rest)

pub batches_posts : (t : Traced) (n : ℕ) (f : Facts) → IsPromisedKey t (view_key f) → Outs t f.batches → Posts t n (batches f).sends
batches_posts t n f h outs = batches_from t n (view_key f) f.store.content f.batches h outs

pub rows_posts : (t : Traced) (n : ℕ) (f : Facts) → IsPromisedKey t (view_key f) → RowsKnown t f.exchange.rows → Posts t n (rows f).sends
rows_posts t n f h known = each_posts t n _ _ (state_posts t n f true h known)

pub progress_if_posts : (t : Traced) (n k : ℕ) (f : Facts) (b : Bool) → IsPromisedKey t (view_key f) → Posts t n (if b then sends_only (to_each (others f) (progress_message k f true)) else nothing).sends
progress_if_posts t n k f true h = each_posts t n _ (others f) (progress_posts t n k f true h)
progress_if_posts t n k f false h = tt
