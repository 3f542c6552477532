-- What a reader finds in the lines is what the world has.
use Rattle.std.proofs.Common.{◌≡◌, ℕ, ◌==◌, ◌&&◌, Bool, true, false, cond, not, List, [], ◌∷◌, ◌++◌, Option, Some, None, refl, sym, ap, ap₂, ◌∙◌, ◌||◌, ◌<◌, ◌≢◌, suc, subst, arith, append-nil}
use Rattle.std.proofs.lemmas.Bool.Decides.{nat_tests}
use Rattle.std.proofs.lemmas.Cmp.{nat_list_cmp_total}
use Rattle.std.proofs.lemmas.List.Elements.{filter_map-append}
use Rattle.std.proofs.lemmas.List.Sums.{fold-append}
use Rattle.std.specs.Prelude.{fold, filter_map, unwrap_or, option_and_then, slice_get, slice_index_or, length, AllPairs, bytes_eq, if◌then◌else◌}
use Rattle.std.specs.List.{cons_option}
use Rattle.std.specs.FinMap as finite
use Rattle.std.specs.Cmp.Lexicographic.{slice_cmp}
use Rattle.std.specs.Ordering.{nat_cmp, eq_by_cmp}
use Rattle.conflict_order.specs.declared.policy.Policy.{Policy}
use Rattle.conflict_order.specs.declared.policy.Policy.TheVariants.{Time}
use Rattle.conflict_order.specs.declared.version.Version.{Version}
use Rattle.conflict_order.specs.Join.{join, kept}
use Rattle.cluster_types.specs.declared.cluster_key.ClusterKey.{ClusterKey}
use Rattle.cluster_types.specs.declared.member.Role.{Role}
use Rattle.cluster_types.specs.Distinct.{AreDistinct}
use Rattle.cluster_types.specs.Members.{plain_role}
use Rattle.cluster_types.specs.Partitions.{partition_of}
use Rattle.cluster_types.proofs.BoolFacts.{and_left, and_right, neither_left as or_left, neither_right as or_right}
use Rattle.script_lang.specs.declared.script.HeaderLine.TheVariants as header
use Rattle.journal_lines.specs.declared.line.Line.{Line}
use Rattle.journal_lines.specs.declared.line.Line.TheVariants as line
use Rattle.wire_messages.specs.declared.message.Message.{Message}
use Rattle.wire_messages.specs.declared.message.Message.TheVariants as message
use Rattle.wire_messages.specs.Decoding.{message_of}
use Rattle.node_rules.specs.Copies.{Content, joined, is_of}
use Rattle.node_rules.specs.Exchange.{exchange_key}
use Rattle.node_rules.specs.Facts.{view_key}
use Rattle.node_rules.specs.Messages.{client}
use Rattle.cluster_rules.specs.declared.event.Event.{Event}
use Rattle.cluster_rules.specs.declared.event.Event.TheVariants as event
use Rattle.journal_readings.specs.Contents.{content, content_step, joined_if}
use Rattle.journal_readings.specs.Lines.{has_node}
use Rattle.cluster_rules.specs.Marks.{Mark, Begins, Writes, event_begun, after_line, after_all, came, came_to_client, sent_by, lines_among, came_to_node}
use Rattle.journal_readings.specs.Messages.{Arrival, arrived, arrived_cut}
use Rattle.cluster_rules.specs.Network.{posting_at, posting}
use Rattle.cluster_rules.specs.Opening as opening
use Rattle.cluster_rules.specs.Opening.{Header, journal_header_line, header_lines, declared_policy, declared_factor, declared_nodes, declared_role, rack_in}
use Rattle.journal_readings.specs.Settings.{policy_of, policy_step, factor_of, factor_step, nodes, declared_in, clock_of, clock_step, is_node_up, up_step, groups_of, groups_step, present_role, role_step}
use Rattle.journal_readings.specs.Shape.{is_header, AreBehind}
use Rattle.journal_readings.specs.Views.{promised_key, promise_step, last_key, last_step, view, view_step, some_key}
use Rattle.cluster_rules.specs.World.{World, opened}
use Rattle.journal_readings.proofs.CopyLaws.{ordered_itself, ordered_same, same_digest_is, same_digest_itself}
use Rattle.wire_messages.proofs.ItemForms.{later_pairs}
use Rattle.cluster_rules.proofs.KeptFacts.{num_same, Kept, kept_of, own_step, is_own, kept_step, marks_kept}

-- ---- one reading

-- a reading that goes with that part of a node line by line goes with it along all lines
along : {A : Type 0} (get : Kept → A) (step : A → Line → A) (n : ℕ) → ((k : Kept) (l : Line) → get (kept_step n k l) ≡ step (get k) l)
    → (ls : List Line) (k : Kept) → get (fold (kept_step n) k ls) ≡ fold step (get k) ls
along get step n h [] k = refl
along get step n h (l ∷ ls) k = along get step n h ls (kept_step n k l) ∙ ap (λ a. fold step a ls) (h k l)

read : {A : Type 0} (get : Kept → A) (step : A → Line → A) (n : ℕ) → ((k : Kept) (l : Line) → get (kept_step n k l) ≡ step (get k) l)
    → (h : Header) (ms : List Mark) → fold step (get (kept_of ((opened h).facts n))) (lines_among ms) ≡ get (kept_of ((after_all (opened h) ms).facts n))
read get step n s h ms = sym (ap get (marks_kept ms (opened h) n) ∙ along get step n s (lines_among ms) (kept_of ((opened h).facts n)))

-- a line of the node that leaves what is read
leaves : {A : Type 0} (get : Kept → A) (b : Bool) (new k : Kept) → get new ≡ get k → get (cond b new k) ≡ get k
leaves get true new k e = e
leaves get false new k e = refl

-- a line of the node that changes it
changes : {A : Type 0} (get : Kept → A) (b : Bool) (new k : Kept) (a : A) → get new ≡ a → get (cond b new k) ≡ cond b a (get k)
changes get true new k a e = e
changes get false new k a e = refl

-- ---- keys, views, and who is up

promised_goes : (n : ℕ) (k : Kept) (l : Line) → (kept_step n k l).promised ≡ promise_step n k.promised l
promised_goes n k (line.Promise m key) = changes (λ x. x.promised) (m == n) _ k key refl
promised_goes n k l = leaves (λ x. x.promised) (is_own n l) (own_step k l) k refl

pub promised_agrees : (h : Header) (ms : List Mark) (n : ℕ) → promised_key n (lines_among ms) ≡ ((after_all (opened h) ms).facts n).agreement.promised
unfolding promised_key
promised_agrees h ms n = read (λ x. x.promised) (promise_step n) n (promised_goes n) h ms

last_goes : (n : ℕ) (k : Kept) (l : Line) → (kept_step n k l).last ≡ last_step n k.last l
last_goes n k (line.Enter m key members) = changes (λ x. x.last) (m == n) _ k key refl
last_goes n k l = leaves (λ x. x.last) (is_own n l) (own_step k l) k refl

pub last_agrees : (h : Header) (ms : List Mark) (n : ℕ) → last_key n (lines_among ms) ≡ ((after_all (opened h) ms).facts n).agreement.last
unfolding last_key
last_agrees h ms n = read (λ x. x.last) (last_step n) n (last_goes n) h ms

-- the key of the view, where it is one
abbrev view_of : Kept → Option ClusterKey
view_of k = some_key (exchange_key k.view)

view_goes : (n : ℕ) (k : Kept) (l : Line) → view_of (kept_step n k l) ≡ view_step n (view_of k) l
view_goes n k (line.Enter m key members) = changes view_of (m == n) _ k (some_key key) refl
view_goes n k (line.Stop m) = changes view_of (m == n) _ k None refl
view_goes n k l = leaves view_of (is_own n l) (own_step k l) k refl

pub view_agrees : (h : Header) (ms : List Mark) (n : ℕ) → view n (lines_among ms) ≡ some_key (view_key ((after_all (opened h) ms).facts n))
unfolding view
view_agrees h ms n = read view_of (view_step n) n (view_goes n) h ms

up_goes : (n : ℕ) (k : Kept) (l : Line) → (kept_step n k l).up ≡ up_step n k.up l
up_goes n k (line.Stop m) = changes (λ x. x.up) (m == n) _ k false refl
up_goes n k (line.Start m) = changes (λ x. x.up) (m == n) _ k true refl
up_goes n k l = leaves (λ x. x.up) (is_own n l) (own_step k l) k refl

pub up_agrees : (h : Header) (ms : List Mark) (n : ℕ) → has_node (declared_nodes h) n ≡ true → is_node_up n (lines_among ms) ≡ ((after_all (opened h) ms).facts n).up
unfolding is_node_up
up_agrees h ms n e = ap (λ b. fold (up_step n) b (lines_among ms)) (sym e) ∙ read (λ x. x.up) (up_step n) n (up_goes n) h ms

-- ---- what a node holds

num_sym : (n m : ℕ) → (n == m) ≡ (m == n)
num_sym n m = grind (arith, nat_tests)

-- a store's test of digests answers as a reading's
digest_tests : (d e : List ℕ) → eq_by_cmp (slice_cmp nat_cmp) d e ≡ bytes_eq e d
digest_tests d e = go (eq_by_cmp (slice_cmp nat_cmp) d e) (bytes_eq e d) refl refl
  where
    from : eq_by_cmp (slice_cmp nat_cmp) d e ≡ true → bytes_eq e d ≡ true
    from i = ap (λ x. bytes_eq e x) (ordered_same d e i) ∙ same_digest_itself e

    back : bytes_eq e d ≡ true → eq_by_cmp (slice_cmp nat_cmp) d e ≡ true
    back i = ap (λ x. eq_by_cmp (slice_cmp nat_cmp) d x) (same_digest_is e d i) ∙ ordered_itself d

    go : (a b : Bool) → eq_by_cmp (slice_cmp nat_cmp) d e ≡ a → bytes_eq e d ≡ b → eq_by_cmp (slice_cmp nat_cmp) d e ≡ bytes_eq e d
    go true b i j = i ∙ sym (from i)
    go false true i j = back j ∙ sym j
    go false false i j = i ∙ sym j

-- the policy, and what is held of the record
abbrev held_of : List ℕ → Kept → Policy × Option Version
held_of d k = (k.by, finite.get k.content d)

abbrev held_step : ℕ → List ℕ → Policy × Option Version → Line → Policy × Option Version
held_step n d a l = (a.0, content_step a.0 n d a.1 l)

kept_joins : (by : Policy) (held : Option Version) (v : Version) → Some (kept by held v) ≡ join by held (Some v)
unfolding join kept
kept_joins by None v = refl
kept_joins by (Some a) v = refl

joins_if : (b : Bool) (by : Policy) (held : Option Version) (v : Version) → cond b (Some (kept by held v)) held ≡ joined_if b by held v
joins_if true by held v = kept_joins by held v
joins_if false by held v = refl

at_same : (by : Policy) (c : Content) (d e : List ℕ) (v : Version) (b : Bool) → bytes_eq e d ≡ b
    → cond b (Some (kept by (finite.get c e) v)) (finite.get c d) ≡ cond b (Some (kept by (finite.get c d) v)) (finite.get c d)
at_same by c d e v true i = ap (λ x. Some (kept by (finite.get c x) v)) (same_digest_is e d i)
at_same by c d e v false i = refl

joined_goes : (by : Policy) (c : Content) (d e : List ℕ) (v : Version) → finite.get (joined by c e v) d ≡ joined_if (bytes_eq e d) by (finite.get c d) v
joined_goes by c d e v =
    finite.get-insert nat_list_cmp_total c e (kept by (finite.get c e) v) d
    ∙ ap (λ b. cond b (Some (kept by (finite.get c e) v)) (finite.get c d)) (digest_tests d e)
    ∙ at_same by c d e v (bytes_eq e d) refl
    ∙ joins_if (bytes_eq e d) by (finite.get c d) v

joined_own : (a b : Bool) (by : Policy) (held : Option Version) (v : Version) → cond a (joined_if b by held v) held ≡ joined_if (a && b) by held v
joined_own true b by held v = refl
joined_own false b by held v = refl

dropped_own : (a b : Bool) (held : Option Version) → cond a (cond (not b) held None) held ≡ cond (a && b) None held
dropped_own true true held = refl
dropped_own true false held = refl
dropped_own false b held = refl

drop_goes : (c : Content) (d : List ℕ) (p : ℕ) → finite.get (finite.retain_keys c (λ x. not (is_of p x))) d ≡ cond (not (p == partition_of d)) (finite.get c d) None
drop_goes c d p =
    finite.get-retain_keys c (λ x. not (is_of p x)) d (λ x e. ap (λ y. not (is_of p y)) (sym (apart d x e)))
    ∙ ap (λ b. cond (not b) (finite.get c d) None) (num_sym (partition_of d) p)
  where
    apart : finite.IsAntisymmetric (slice_cmp nat_cmp)
    apart = finite.slice_cmp-IsAntisymmetric finite.nat_cmp-IsAntisymmetric

-- a line of the node by which a version comes
comes : (n m : ℕ) (d e : List ℕ) (v : Version) (k : Kept)
    → held_of d (cond (m == n) (record k { content = joined k.by k.content e v }) k) ≡ (k.by, joined_if ((m == n) && bytes_eq e d) k.by (finite.get k.content d) v)
comes n m d e v k =
    changes (held_of d) (m == n) (record k { content = joined k.by k.content e v }) k (k.by, joined_if (bytes_eq e d) k.by (finite.get k.content d) v)
    (ap (λ o. (k.by, o)) (joined_goes k.by k.content d e v))
    ∙ inside (m == n)
    ∙ ap (λ o. (k.by, o)) (joined_own (m == n) (bytes_eq e d) k.by (finite.get k.content d) v)
  where
    inside : (b : Bool) → cond b (k.by, joined_if (bytes_eq e d) k.by (finite.get k.content d) v) (held_of d k) ≡ (k.by, cond b (joined_if (bytes_eq e d) k.by (finite.get k.content d) v) (finite.get k.content d))
    inside true = refl
    inside false = refl

goes : (n m p : ℕ) (d : List ℕ) (k : Kept)
    → held_of d (cond (m == n) (record k { content = finite.retain_keys k.content (λ x. not (is_of p x)) }) k) ≡ (k.by, cond ((m == n) && (p == partition_of d)) None (finite.get k.content d))
goes n m p d k =
    changes (held_of d) (m == n) (record k { content = finite.retain_keys k.content (λ x. not (is_of p x)) }) k (k.by, cond (not (p == partition_of d)) (finite.get k.content d) None)
    (ap (λ o. (k.by, o)) (drop_goes k.content d p))
    ∙ inside (m == n)
    ∙ ap (λ o. (k.by, o)) (dropped_own (m == n) (p == partition_of d) (finite.get k.content d))
  where
    inside : (b : Bool) → cond b (k.by, cond (not (p == partition_of d)) (finite.get k.content d) None) (held_of d k) ≡ (k.by, cond b (cond (not (p == partition_of d)) (finite.get k.content d) None) (finite.get k.content d))
    inside true = refl
    inside false = refl

held_goes : (n : ℕ) (d : List ℕ) (k : Kept) (l : Line) → held_of d (kept_step n k l) ≡ held_step n d (held_of d k) l
held_goes n d k (line.Apply m key t e v) = comes n m d e v k
held_goes n d k (line.Merge m key e v) = comes n m d e v k
held_goes n d k (line.Drop m key p) = goes n m p d k
held_goes n d k l = leaves (held_of d) (is_own n l) (own_step k l) k refl

held_along : (n : ℕ) (d : List ℕ) (by : Policy) (ls : List Line) (held : Option Version) → fold (held_step n d) (by, held) ls ≡ (by, fold (content_step by n d) held ls)
held_along n d by [] held = refl
held_along n d by (l ∷ ls) held = held_along n d by ls (content_step by n d held l)

none_at_first : (h : Header) (n : ℕ) (d : List ℕ) → held_of d (kept_of ((opened h).facts n)) ≡ (declared_policy h, None)
none_at_first h n d = ap (λ o. (declared_policy h, o)) (finite.get-empty (slice_cmp nat_cmp) d)

both_agree : (h : Header) (ms : List Mark) (n : ℕ) (d : List ℕ)
    → (declared_policy h, fold (content_step (declared_policy h) n d) None (lines_among ms)) ≡ held_of d (kept_of ((after_all (opened h) ms).facts n))
both_agree h ms n d =
    sym (held_along n d (declared_policy h) (lines_among ms) None)
    ∙ ap (λ a. fold (held_step n d) a (lines_among ms)) (sym (none_at_first h n d))
    ∙ read (held_of d) (held_step n d) n (held_goes n d) h ms

pub content_agrees : (h : Header) (ms : List Mark) (n : ℕ) (d : List ℕ) → content (declared_policy h) n d (lines_among ms) ≡ finite.get ((after_all (opened h) ms).facts n).store.content d
unfolding content
content_agrees h ms n d = ap (λ (a : Policy × Option Version). a.1) (both_agree h ms n d)

pub policy_stays : (h : Header) (ms : List Mark) (n : ℕ) → ((after_all (opened h) ms).facts n).store.by ≡ declared_policy h
policy_stays h ms n = sym (ap (λ (a : Policy × Option Version). a.0) (both_agree h ms n []))

-- ---- clocks and groups

came_clocks : (w : World) (x : Option Arrival) → (came w x).clocks ≡ w.clocks
came_clocks w None = refl
came_clocks w (Some x) = go (x.to == client)
  where
    at_client : (m : Message) → (came_to_client w m).clocks ≡ w.clocks
    at_client (message.MapTable t) = refl
    at_client m = refl

    go : (b : Bool) → (if b then came_to_client w x.message else came_to_node w x).clocks ≡ w.clocks
    go true = at_client x.message
    go false = refl

sent_clocks : (w : World) (a b : ℕ) (m : Option Message) → (sent_by w a b m).clocks ≡ w.clocks
sent_clocks w a b None = refl
sent_clocks w a b (Some m) = refl

clock_goes : (n : ℕ) (w : World) (l : Line) → (after_line w l).clocks n ≡ clock_step n (w.clocks n) l
clock_goes n w (line.Clock m time) = go (m == n)
  where
    go : (b : Bool) → Rattle.cluster_rules.specs.World.new_if time w.clocks n b ≡ cond b time (w.clocks n)
    go true = refl
    go false = refl
clock_goes n w (line.Deliver i a b) = ap (λ f. f n) (came_clocks w (option_and_then (arrived b) (posting_at w.network i)))
clock_goes n w (line.Repeat i a b) = ap (λ f. f n) (came_clocks w (option_and_then (arrived b) (posting_at w.network i)))
clock_goes n w (line.Cut i a b size) = ap (λ f. f n) (came_clocks w (option_and_then (arrived_cut b size) (posting_at w.network i)))
clock_goes n w (line.Sent i a b bytes) = ap (λ f. f n) (sent_clocks _ a b (message_of bytes))
clock_goes n w l = refl

clocks_go : (n : ℕ) (ms : List Mark) (w : World) → fold (clock_step n) (w.clocks n) (lines_among ms) ≡ (after_all w ms).clocks n
clocks_go n [] w = refl
clocks_go n (Begins e ∷ ms) w = clocks_go n ms _
clocks_go n (Writes l ∷ ms) w = ap (λ t. fold (clock_step n) t (lines_among ms)) (sym (clock_goes n w l)) ∙ clocks_go n ms (after_line w l)

pub clock_agrees : (h : Header) (ms : List Mark) (n : ℕ) → clock_of n (lines_among ms) ≡ (after_all (opened h) ms).clocks n
unfolding clock_of
clock_agrees h ms n = clocks_go n ms (opened h)

-- the groups are those that were named last, or those of the beginning
abbrev groups_in : List (List ℕ) → Line → List (List ℕ)
groups_in groups (line.Groups named) = named
groups_in groups _ = groups

came_network : (w : World) (x : Option Arrival) → (came w x).network ≡ w.network
came_network w None = refl
came_network w (Some x) = go (x.to == client)
  where
    at_client : (m : Message) → (came_to_client w m).network ≡ w.network
    at_client (message.MapTable t) = refl
    at_client m = refl

    go : (b : Bool) → (if b then came_to_client w x.message else came_to_node w x).network ≡ w.network
    go true = at_client x.message
    go false = refl

sent_network : (w : World) (a b : ℕ) (m : Option Message) → (sent_by w a b m).network ≡ w.network
sent_network w a b None = refl
sent_network w a b (Some m) = refl

groups_go : (w : World) (l : Line) → (after_line w l).network.groups ≡ groups_in w.network.groups l
groups_go w (line.Groups named) = refl
groups_go w (line.Deliver i a b) = ap (λ net. net.groups) (came_network w (option_and_then (arrived b) (posting_at w.network i)))
groups_go w (line.Repeat i a b) = ap (λ net. net.groups) (came_network w (option_and_then (arrived b) (posting_at w.network i)))
groups_go w (line.Cut i a b size) = ap (λ net. net.groups) (came_network w (option_and_then (arrived_cut b size) (posting_at w.network i)))
groups_go w (line.Sent i a b bytes) =
    ap (λ net. net.groups) (sent_network (record w { network = posting w.network i (record { from = a; to = b; bytes = bytes }) }) a b (message_of bytes))
groups_go w l = refl

taken_groups : (w : World) (e : Event) → (event_begun w e).network.groups ≡ w.network.groups
taken_groups w (event.Deliver i) = refl
taken_groups w e = refl

groups_along : (ms : List Mark) (w : World) → (after_all w ms).network.groups ≡ fold groups_in w.network.groups (lines_among ms)
groups_along [] w = refl
groups_along (Begins e ∷ ms) w = groups_along ms (event_begun w e) ∙ ap (λ gs. fold groups_in gs (lines_among ms)) (taken_groups w e)
groups_along (Writes l ∷ ms) w = groups_along ms (after_line w l) ∙ ap (λ gs. fold groups_in gs (lines_among ms)) (groups_go w l)

groups_or : (groups : Option (List (List ℕ))) (first : List (List ℕ)) (l : Line) → unwrap_or (groups_step groups l) first ≡ groups_in (unwrap_or groups first) l
groups_or groups first (line.Groups named) = refl
groups_or groups first l = refl

groups_from : (first : List (List ℕ)) (ls : List Line) (groups : Option (List (List ℕ))) → unwrap_or (fold groups_step groups ls) first ≡ fold groups_in (unwrap_or groups first) ls
groups_from first [] groups = refl
groups_from first (l ∷ ls) groups = groups_from first ls (groups_step groups l) ∙ ap (λ gs. fold groups_in gs ls) (groups_or groups first l)

-- ---- the header

-- a reading that other lines leave
behind : {A : Type 0} (step : A → Line → A) → ((a : A) (l : Line) → not (is_header l) ≡ true → step a l ≡ a) → (ls : List Line) → AreBehind ls → (a : A) → fold step a ls ≡ a
behind step h [] e a = refl
behind step h (l ∷ ls) e a = behind step h ls (and_right (not (is_header l)) _ e) (step a l) ∙ h a l (and_left (not (is_header l)) _ e)

policy_behind : (by : Policy) (l : Line) → not (is_header l) ≡ true → policy_step by l ≡ by
policy_behind by (line.Policy named) e = cc
policy_behind by l e = refl

policy_in : (h : Header) (by : Policy) → fold policy_step by (header_lines h) ≡ fold opening.header_policy_step by h
policy_in [] by = refl
policy_in (header.Policy named ∷ h) by = policy_in h named
policy_in (header.Script version ∷ h) by = policy_in h by
policy_in (header.Factor factor ∷ h) by = policy_in h by
policy_in (header.Node n rack ∷ h) by = policy_in h by

pub policy_agrees : (h : Header) (ls : List Line) → AreBehind ls → policy_of (header_lines h ++ ls) ≡ declared_policy h
unfolding policy_of
policy_agrees h ls e = fold-append policy_step Time (header_lines h) ls ∙ behind policy_step policy_behind ls e _ ∙ policy_in h Time

factor_behind : (factor : ℕ) (l : Line) → not (is_header l) ≡ true → factor_step factor l ≡ factor
factor_behind factor (line.Factor named) e = cc
factor_behind factor l e = refl

factor_in : (h : Header) (factor : ℕ) → fold factor_step factor (header_lines h) ≡ fold opening.header_factor_step factor h
factor_in [] factor = refl
factor_in (header.Policy by ∷ h) factor = factor_in h factor
factor_in (header.Script version ∷ h) factor = factor_in h factor
factor_in (header.Factor named ∷ h) factor = factor_in h named
factor_in (header.Node n rack ∷ h) factor = factor_in h factor

pub factor_agrees : (h : Header) (ls : List Line) → AreBehind ls → factor_of (header_lines h ++ ls) ≡ declared_factor h
unfolding factor_of
factor_agrees h ls e = fold-append factor_step 1 (header_lines h) ls ∙ behind factor_step factor_behind ls e _ ∙ factor_in h 1

factor_goes : (n : ℕ) (k : Kept) (l : Line) → (kept_step n k l).factor ≡ k.factor
factor_goes n k l = leaves (λ x. x.factor) (is_own n l) (own_step k l) k (own_factor k l)
  where
    own_factor : (k : Kept) (l : Line) → (own_step k l).factor ≡ k.factor
    own_factor k (line.Tick m) = refl
    own_factor k l = refl

still : {A : Type 0} (a : A) (ls : List Line) → fold (λ a l. a) a ls ≡ a
still a [] = refl
still a (l ∷ ls) = still a ls

pub factor_stays : (h : Header) (ms : List Mark) (n : ℕ) → ((after_all (opened h) ms).facts n).factor ≡ declared_factor h
factor_stays h ms n = sym (read (λ x. x.factor) (λ a l. a) n (factor_goes n) h ms) ∙ still (declared_factor h) (lines_among ms)

nodes_behind : (ls : List Line) → AreBehind ls → filter_map declared_in ls ≡ []
nodes_behind [] e = refl
nodes_behind (l ∷ ls) e = go l (and_left (not (is_header l)) _ e) (nodes_behind ls (and_right (not (is_header l)) _ e))
  where
    go : (l : Line) → not (is_header l) ≡ true → filter_map declared_in ls ≡ [] → cons_option (declared_in l) (filter_map declared_in ls) ≡ []
    go (line.Node n rack) i rest = cc
    go l i rest = rest

nodes_in : (h : Header) → filter_map declared_in (header_lines h) ≡ declared_nodes h
nodes_in [] = refl
nodes_in (header.Policy by ∷ h) = nodes_in h
nodes_in (header.Script version ∷ h) = nodes_in h
nodes_in (header.Factor factor ∷ h) = nodes_in h
nodes_in (header.Node n rack ∷ h) = ap (λ ns. n ∷ ns) (nodes_in h)

pub nodes_agree : (h : Header) (ls : List Line) → AreBehind ls → nodes (header_lines h ++ ls) ≡ declared_nodes h
unfolding nodes
nodes_agree h ls e = filter_map-append declared_in (header_lines h) ls ∙ ap₂ (λ a b. a ++ b) (nodes_in h) (nodes_behind ls e) ∙ append-nil (declared_nodes h)

groups_none : (h : Header) → fold groups_step None (header_lines h) ≡ None
groups_none [] = refl
groups_none (header.Policy by ∷ h) = groups_none h
groups_none (header.Script version ∷ h) = groups_none h
groups_none (header.Factor factor ∷ h) = groups_none h
groups_none (header.Node n rack ∷ h) = groups_none h

pub groups_agree : (h : Header) (ms : List Mark) → AreBehind (lines_among ms) → groups_of (header_lines h ++ lines_among ms) ≡ (after_all (opened h) ms).network.groups
unfolding groups_of
groups_agree h ms e =
    ap₂ (λ o ns. unwrap_or o (ns ∷ []))
    (fold-append groups_step None (header_lines h) (lines_among ms) ∙ ap (λ o. fold groups_step o (lines_among ms)) (groups_none h))
    (nodes_agree h (lines_among ms) e)
    ∙ groups_from (declared_nodes h ∷ []) (lines_among ms) None
    ∙ sym (groups_along ms (opened h))

-- ---- roles

along_behind : {A : Type 0} (get : Kept → A) (step : A → Line → A) (n : ℕ) → ((k : Kept) (l : Line) → not (is_header l) ≡ true → get (kept_step n k l) ≡ step (get k) l)
    → (ls : List Line) → AreBehind ls → (k : Kept) → get (fold (kept_step n) k ls) ≡ fold step (get k) ls
along_behind get step n h [] e k = refl
along_behind get step n h (l ∷ ls) e k =
    along_behind get step n h ls (and_right (not (is_header l)) _ e) (kept_step n k l) ∙ ap (λ a. fold step a ls) (h k l (and_left (not (is_header l)) _ e))

role_goes : (n : ℕ) (k : Kept) (l : Line) → not (is_header l) ≡ true → (kept_step n k l).role ≡ role_step n k.role l
role_goes n k (line.Quiesce m) e = changes (λ x. x.role) (m == n) _ k (record k.role { quiesced = true }) refl
role_goes n k (line.Unquiesce m) e = changes (λ x. x.role) (m == n) _ k (record k.role { quiesced = false }) refl
role_goes n k (line.Node m rack) e = cc
role_goes n k l e = leaves (λ x. x.role) (is_own n l) (own_step k l) k refl

-- a node that the header doesn't declare
undeclared_role : (h : Header) (n : ℕ) → has_node (declared_nodes h) n ≡ false → (role : Role) → fold (role_step n) role (header_lines h) ≡ role
undeclared_role [] n e role = refl
undeclared_role (header.Policy by ∷ h) n e role = undeclared_role h n e role
undeclared_role (header.Script version ∷ h) n e role = undeclared_role h n e role
undeclared_role (header.Factor factor ∷ h) n e role = undeclared_role h n e role
undeclared_role (header.Node m rack ∷ h) n e role =
    ap (λ b. fold (role_step n) (cond b (record role { rack = unwrap_or rack 0 }) role) (header_lines h)) (or_left (m == n) _ e) ∙ undeclared_role h n (or_right (m == n) _ e) role

undeclared_rack : (h : Header) (n : ℕ) → has_node (declared_nodes h) n ≡ false → filter_map (rack_in n) h ≡ []
undeclared_rack [] n e = refl
undeclared_rack (header.Policy by ∷ h) n e = undeclared_rack h n e
undeclared_rack (header.Script version ∷ h) n e = undeclared_rack h n e
undeclared_rack (header.Factor factor ∷ h) n e = undeclared_rack h n e
undeclared_rack (header.Node m rack ∷ h) n e =
    ap (λ b. cons_option (if b then rack else None) (filter_map (rack_in n) h)) (or_left (m == n) _ e) ∙ undeclared_rack h n (or_right (m == n) _ e)

not_among : (n : ℕ) (ns : List ℕ) → ((j : ℕ) (d : ℕ) → j < length ns → n ≢ slice_index_or ns j d) → has_node ns n ≡ false
not_among n [] h = refl
not_among n (m ∷ ns) h = go (m == n) refl (not_among n ns (λ j d within. h (suc j) d (omega (arith, within))))
  where
    go : (b : Bool) → (m == n) ≡ b → has_node ns n ≡ false → (b || has_node ns n) ≡ false
    go true same rest = absurd (h 0 n (omega arith) (sym (num_same m n same)))
    go false same rest = rest

pub role_declared : (h : Header) (n : ℕ) → AllPairs (λ x y. x ≢ y) (declared_nodes h) → fold (role_step n) plain_role (header_lines h) ≡ declared_role h n
role_declared [] n e = refl
role_declared (header.Policy by ∷ h) n e = role_declared h n e
role_declared (header.Script version ∷ h) n e = role_declared h n e
role_declared (header.Factor factor ∷ h) n e = role_declared h n e
role_declared (header.Node m rack ∷ h) n e = go (m == n) refl (role_declared h n (later_pairs (λ x y. x ≢ y) m (declared_nodes h) e))
  where
    role_of_rack : ℕ → Role
    role_of_rack rack = record { rack = rack; quiesced = false }

    absent : m ≡ n → has_node (declared_nodes h) n ≡ false
    absent same = not_among n (declared_nodes h) (λ j d within. subst (λ x. x ≢ slice_index_or (declared_nodes h) j d) same (e 0 (suc j) d (omega arith) (omega (arith, within))))

    here : (r : Option ℕ) → role_of_rack (unwrap_or r 0) ≡ role_of_rack (unwrap_or (slice_get (cons_option r []) 0) 0)
    here None = refl
    here (Some r) = refl

    go : (b : Bool) → (m == n) ≡ b → fold (role_step n) plain_role (header_lines h) ≡ declared_role h n
        → fold (role_step n) (cond b (record plain_role { rack = unwrap_or rack 0 }) plain_role) (header_lines h) ≡ role_of_rack (unwrap_or (slice_get (cons_option (if b then rack else None) (filter_map (rack_in n) h)) 0) 0)
    go true same rest =
        undeclared_role h n (absent (num_same m n same)) (record plain_role { rack = unwrap_or rack 0 })
        ∙ here rack
        ∙ ap (λ rs. role_of_rack (unwrap_or (slice_get (cons_option rack rs) 0) 0)) (sym (undeclared_rack h n (absent (num_same m n same))))
    go false same rest = rest

pub role_agrees : (h : Header) (ms : List Mark) (n : ℕ) → AreDistinct (declared_nodes h) → AreBehind (lines_among ms)
    → present_role n (header_lines h ++ lines_among ms) ≡ ((after_all (opened h) ms).facts n).role
unfolding present_role
role_agrees h ms n once e =
    fold-append (role_step n) plain_role (header_lines h) (lines_among ms)
    ∙ ap (λ role. fold (role_step n) role (lines_among ms)) (role_declared h n once.differ)
    ∙ sym (ap (λ k. k.role) (marks_kept ms (opened h) n) ∙ along_behind (λ k. k.role) (role_step n) n (role_goes n) (lines_among ms) e (kept_of ((opened h).facts n)))
