-- A tick as it is planned, and as the rules say it.
use Rattle.std.proofs.Common.{◌≡◌, ℕ, zero, suc, ◌+◌, Bool, true, false, List, [], ◌∷◌, ◌++◌, Option, Some, None, is_some, IsSome, All, inl, inr, refl, sym, ap, ap₂, subst, ◌∙◌, arith}
use Rattle.std.specs.Borrow.{Bor}
use Rattle.std.specs.Global.{Box}
use Rattle.std.specs.Prelude.{IfSome, option_map, if◌then◌else◌}
use Rattle.std.specs.Option.{ForSome}
use Rattle.std.proofs.lemmas.List.Elements.{All-append, All-cons, All-head, All-nil, All-tail}
use Rattle.cluster_types.specs.declared.cluster_key.ClusterKey.{ClusterKey}
use Rattle.cluster_types.specs.Partitions.{partition_count}
use Rattle.clustering.specs.Agreeing.{Agreeing}
use Rattle.heartbeat.specs.Adjacent.{Adjacent}
use Rattle.journal_lines.specs.declared.line.Line.{Line}
use Rattle.journal_lines.specs.declared.line.Line.TheVariants as line
use Rattle.wire_messages.specs.Keys.{IsKeyField, IsKeyOrNone}
use Rattle.node_rules.specs.Agreement.{Agreement}
use Rattle.node_rules.specs.Bits as bits
use Rattle.node_rules.specs.Bits.{Bits, handing, learning}
use Rattle.node_rules.specs.ByParts.{batches_due}
use Rattle.node_rules.specs.Copies.{Stamps}
use Rattle.node_rules.specs.Effects as rules
use Rattle.node_rules.specs.Effects.{nothing}
use Rattle.node_rules.specs.Exchange as exchange
use Rattle.node_rules.specs.Facts.{Facts, list_at, view_key}
use Rattle.node_rules.specs.Hearing.{Hearing, without_quiet}
use Rattle.node_rules.specs.Here.{HasRows, Here, drops, hands, here, learns, lines_from, lines_here, part_lines, settles}
use Rattle.node_rules.specs.Notes.{note, noted}
use Rattle.node_rules.specs.Settling.{settling_due, settling_from}
use Rattle.node_rules.specs.Tick as tick
use Rattle.node_rules.specs.Tick.{parts_in_order, progress}
use Rattle.node_rules.proofs.SettlingLaws.{settled_apart}
use Rattle.node_rules.specs.Tables.{only_if}
use Rattle.node_view.specs.declared.here.Settling.{Settling}
use Rattle.node_view.specs.declared.view.View.{View}
use Rattle.node_view.specs.Fits.{AreNext, AreSettlings}
use Rattle.node_view.specs.Plans.{settled_by, with_stamps}
use Rattle.node_view.specs.Settlings.{settling_lines}
use Rattle.node_view.specs.Views.{IsViewOf, Viewed, with_view}
use Rattle.node_steps.specs.declared.effects.Effects.{Effects}
use Rattle.node_steps.specs.declared.planned.Ticked.{Ticked}
use Rattle.node_steps.specs.Counts.{HaveNumbers}
use Rattle.node_steps.specs.Fits.{FitsAgreed, FitsEntered}
use Rattle.node_steps.specs.Grounds.{IsGroundOf, lent, with_view_fields}
use Rattle.node_steps.specs.Plans.{either}
use Rattle.node_steps.specs.Ranges.{HasRanges, IsStoreField}
use Rattle.node_steps.specs.Spelled.{then_effects}
use Rattle.node_steps.specs.Ticks.{TicksFrom, agreed, later_parts}
use Rattle.node_steps.proofs.SeenLaws.{none_for, view_unseen}
use Rattle.node_steps.proofs.SettledLaws.{settled_by_is}
use Rattle.node_steps.proofs.TickLaws.{progress_alike, settling_alike, told_in_order}

-- ---- the lines of settling

all_if : (P : Line → Type 0) (l : Line) (b : Bool) → P l → All P (only_if l b)
all_if P l true h = All-cons P l [] h (All-nil P)
all_if P l false h = All-nil P

-- what holds of the four lines of each partition
record HoldsOfLines (P : Line → Type 0) (me : ℕ) (key : ClusterKey) : Type 0 where
  handed : (p : ℕ) → P (line.Handed me key p)
  settled : (p : ℕ) → P (line.Settled me key p)
  learnt : (p : ℕ) → P (line.Learn me key p)
  dropped : (p : ℕ) → P (line.Drop me key p)

all_here : (P : Line → Type 0) (me : ℕ) (key : ClusterKey) (p : ℕ) (h : Here) → HoldsOfLines P me key → All P (lines_here me key p h)
all_here P me key p h each =
    All-append P (only_if (line.Handed me key p) (hands h)) _ (all_if P (line.Handed me key p) (hands h) (each.handed p))
    (All-append P (only_if (line.Settled me key p) (settles h)) _ (all_if P (line.Settled me key p) (settles h) (each.settled p))
    (All-append P (only_if (line.Learn me key p) (learns h)) _ (all_if P (line.Learn me key p) (learns h) (each.learnt p))
    (all_if P (line.Drop me key p) (drops h) (each.dropped p))))

all_from_one : (P : Line → Type 0) (n p : ℕ) (f : Facts) → HoldsOfLines P f.me (view_key f) → All P (lines_from n p f)
unfolding lines_from
all_from_one P zero p f each = All-nil P
all_from_one P (suc n) p f each =
    All-append P (part_lines f p) (lines_from n (p + 1) f) (all_here P f.me (view_key f) p (here f (list_at f p) p) each) (all_from_one P n (p + 1) f each)

-- what holds of these lines holds of all that are due
all_due : (P : Line → Type 0) (f : Facts) → HasRows f → HoldsOfLines P f.me (view_key f) → All P (settling_due partition_count f)
all_due P f rows each = go f.exchange.exchanged
  where
    go : (b : Bool) → All P (if b then settling_from partition_count 0 f else [])
    go true = subst (All P) (sym (settled_apart partition_count 0 f rows (omega arith))) (all_from_one P partition_count 0 f each)
    go false = All-nil P

-- ---- the agreement doesn't bear on them

abbrev KeepsApart : Line → Type 0
KeepsApart l = (f : Facts) (a : Agreement) → note None (record f { agreement = a }) l ≡ record (note None f l) { agreement = a }

keeps_apart : (me : ℕ) (key : ClusterKey) → HoldsOfLines KeepsApart me key
keeps_apart me key = record { handed = λ p f a. refl; settled = λ p f a. refl; learnt = λ p f a. refl; dropped = λ p f a. refl }

noted_apart : (ls : List Line) (f : Facts) (a : Agreement) → All KeepsApart ls → noted None (record f { agreement = a }) ls ≡ record (noted None f ls) { agreement = a }
noted_apart [] f a h = refl
noted_apart (l ∷ ls) f a h =
    ap (λ (g : Facts). noted None g ls) (All-head KeepsApart l ls h f a)
    ∙ noted_apart ls (note None f l) a (All-tail KeepsApart l ls h)

lines_apart : (n p : ℕ) (f : Facts) (a : Agreement) → lines_from n p (record f { agreement = a }) ≡ lines_from n p f
unfolding lines_from
lines_apart zero p f a = refl
lines_apart (suc n) p f a = ap (λ (ls : List Line). part_lines f p ++ ls) (lines_apart n (p + 1) f a)

due_apart : (f : Facts) (a : Agreement) → HasRows f → settling_due partition_count (record f { agreement = a }) ≡ settling_due partition_count f
due_apart f a rows = go f.exchange.exchanged
  where
    go : (b : Bool) → (if b then settling_from partition_count 0 (record f { agreement = a }) else []) ≡ (if b then settling_from partition_count 0 f else [])
    go true =
        settled_apart partition_count 0 (record f { agreement = a }) (record { handed = rows.handed; settled = rows.settled }) (omega arith)
        ∙ lines_apart partition_count 0 f a
        ∙ sym (settled_apart partition_count 0 f rows (omega arith))
    go false = refl

-- settling goes on apart from the agreement
pub settled_apart_from : (f : Facts) (a : Agreement) → HasRows f
    → noted None (record f { agreement = a }) (settling_due partition_count (record f { agreement = a })) ≡ record (noted None f (settling_due partition_count f)) { agreement = a }
settled_apart_from f a rows =
    ap (λ (ls : List Line). noted None (record f { agreement = a }) ls) (due_apart f a rows)
    ∙ noted_apart (settling_due partition_count f) f a (all_due KeepsApart f rows (keeps_apart f.me (view_key f)))

-- and so do all parts after the agreement
pub parts_apart : (f : Facts) (a : Agreement) → HasRows f
    → parts_in_order (later_parts partition_count) (record f { agreement = a }) ≡ parts_in_order (later_parts partition_count) f
parts_apart f a rows =
    let g : Facts = noted None f (settling_due partition_count f) in
    ap₂ (λ (ls : List Line) (last : rules.Effects). rules.followed_by (tick.rows f) (rules.followed_by (tick.transactions f) (rules.followed_by (tick.batches f) (rules.followed_by (rules.lines_only ls) (rules.followed_by last nothing)))))
    (due_apart f a rows)
    (ap (λ (h : Facts). progress partition_count h) (settled_apart_from f a rows)
    ∙ progress_alike partition_count (record g { agreement = a }) g refl refl refl refl)

-- ---- facts that a Progress tells alike

-- the same Progress is due of both
pub record IsToldAlike (f g : Facts) : Type 0 where
  pub me : f.me ≡ g.me
  pub exchange : f.exchange ≡ g.exchange
  pub batches : f.batches ≡ g.batches
  pub bits : f.bits ≡ g.bits

abbrev StaysAlike : Line → Type 0
StaysAlike l = (f g : Facts) → IsToldAlike f g → IsToldAlike (note None f l) (note None g l)

stays_alike : (me : ℕ) (key : ClusterKey) → HoldsOfLines StaysAlike me key
stays_alike me key = record {
  handed = λ p f g h. record { me = h.me; exchange = h.exchange; batches = h.batches; bits = ap (λ (b : Bits). handing b p) h.bits };
  settled = λ p f g h. record { me = h.me; exchange = h.exchange; batches = h.batches; bits = ap (λ (b : Bits). bits.settling b p) h.bits };
  learnt = λ p f g h. record { me = h.me; exchange = h.exchange; batches = h.batches; bits = ap (λ (b : Bits). learning b p) h.bits };
  dropped = λ p f g h. record { me = h.me; exchange = h.exchange; batches = h.batches; bits = h.bits };
}

noted_alike : (ls : List Line) (f g : Facts) → All StaysAlike ls → IsToldAlike f g → IsToldAlike (noted None f ls) (noted None g ls)
noted_alike [] f g h same = same
noted_alike (l ∷ ls) f g h same =
    noted_alike ls (note None f l) (note None g l) (All-tail StaysAlike l ls h) (All-head StaysAlike l ls h f g same)

-- ---- the facts that the later parts see

-- the facts with another hearing and other stamps
abbrev pub with_stamped : Facts → Hearing → Stamps → Facts
with_stamped f h stamps = record f { hearing = h; store = record f.store { stamps = stamps } }

-- the later parts go neither by whom the node hears nor by the stamps
pub progress_stamped : (f : Facts) (h : Hearing) (stamps : Stamps) → HasRows f
    → progress partition_count (noted None (with_stamped f h stamps) (settling_due partition_count (with_stamped f h stamps))) ≡ progress partition_count (noted None f (settling_due partition_count f))
progress_stamped f h stamps rows =
    let alike : IsToldAlike (noted None (with_stamped f h stamps) (settling_due partition_count f)) (noted None f (settling_due partition_count f)) =
    noted_alike (settling_due partition_count f) (with_stamped f h stamps) f (all_due StaysAlike f rows (stays_alike f.me (view_key f)))
    (record { me = refl; exchange = refl; batches = refl; bits = refl }) in
    ap (λ (ls : List Line). progress partition_count (noted None (with_stamped f h stamps) ls)) (settling_alike f h stamps rows)
    ∙ progress_alike partition_count _ _ alike.me alike.exchange alike.batches alike.bits

-- what is settled is what the lines add there too
pub settled_stamped : (f : Facts) (h : Hearing) (stamps : Stamps) (ss : List Settling) → HasRows f
    → settling_due partition_count f ≡ settling_lines f.me (view_key f) ss
    → settled_by (with_stamped f h stamps) ss ≡ noted None (with_stamped f h stamps) (settling_due partition_count (with_stamped f h stamps))
settled_stamped f h stamps ss rows is =
    settled_by_is (with_stamped f h stamps) ss
    ∙ ap (λ (ls : List Line). noted None (with_stamped f h stamps) ls) (sym (settling_alike f h stamps rows ∙ is))

-- what is due of settling is so too
pub settlings_stamped : (f : Facts) (h : Hearing) (stamps : Stamps) (ss : List Settling) → AreSettlings f ss → AreSettlings (with_stamped f h stamps) ss
settlings_stamped f h stamps ss due = record { exchanged = due.exchanged; each = due.each; rise = due.rise }

-- the later parts are due of the facts with that hearing and these stamps as they are without
pub parts_stamped : (f : Facts) (h : Hearing) (stamps : Stamps) → HasRows f
    → parts_in_order (later_parts partition_count) (with_stamped f h stamps) ≡ parts_in_order (later_parts partition_count) f
parts_stamped f h stamps rows =
    ap₂ (λ (ls : List Line) (last : rules.Effects). rules.followed_by (tick.rows f) (rules.followed_by (tick.transactions f) (rules.followed_by (tick.batches f) (rules.followed_by (rules.lines_only ls) (rules.followed_by last nothing)))))
    (settling_alike f h stamps rows) (progress_stamped f h stamps rows)

-- ---- the ground

-- a view that is lent is of the facts, and without one they have none
pub lent_view : (f : Facts) (own : Option (Bor View)) → (own ≡ None → with_view f None ≡ f) → IfSome own (λ v. IsViewOf f v.now) → with_view f (lent own) ≡ f
lent_view f None none some = none refl
lent_view f (Some v) none some = some.viewed.view

pub lent_is_of : (f : Facts) (own : Option (Bor View)) → IfSome own (λ v. IsViewOf f v.now) → ForSome (lent own) (λ v. IsViewOf f v)
lent_is_of f None some = none_for (λ v. IsViewOf f v)
lent_is_of f (Some w) some = λ v e. let same : w.now ≡ v = cc in subst (λ (x : Viewed). IsViewOf f x) same some

in_one_by : (o : Option exchange.View) (own : Option (Bor View)) → is_some own ≡ is_some o → IfSome own (λ v. v.now.exchange.view ≡ o) → ForSome (lent own) (λ v. IsSome v.exchange.view)
in_one_by o None some same = none_for (λ v. IsSome v.exchange.view)
in_one_by o (Some w) some same = λ v e. let lent_one : w.now ≡ v = cc in
    subst (λ (x : Viewed). IsSome x.exchange.view) lent_one (ap (λ (x : Option exchange.View). is_some x) same ∙ sym some)

pub lent_in_one : (f : Facts) (own : Option (Bor View)) → is_some own ≡ is_some f.exchange.view → IfSome own (λ v. IsViewOf f v.now) → ForSome (lent own) (λ v. IsSome v.exchange.view)
lent_in_one f own some views = in_one_by f.exchange.view own some (shown own views)
  where
    shown : (o : Option (Bor View)) → IfSome o (λ v. IsViewOf f v.now) → IfSome o (λ v. v.now.exchange.view ≡ f.exchange.view)
    shown None h = tt
    shown (Some v) h = ap (λ (g : Facts). g.exchange.view) h.viewed.view

-- the facts with that hearing and agreement, in their own view
abbrev pub agreeing_with : Facts → Hearing → Agreement → Facts
agreeing_with f h a = record f { hearing = h; agreement = a }

pub ground_own : (f : Facts) (h : Hearing) (a : Agreement) (own : Option Viewed) → with_view f own ≡ f
    → with_view_fields (agreeing_with f h a) own ≡ agreeing_with f h a
ground_own f h a None is = ap (λ (g : Facts). agreeing_with g h a) is
ground_own f h a (Some v) is = ap (λ (g : Facts). agreeing_with g h a) is

-- what the parts see agrees where the view is one of the facts, or none
ground_of : (f : Facts) (hearing : Adjacent) (agree : Agreeing) (view : Option (Bor View)) (o : Option Viewed)
    → lent view ≡ o → f.up ≡ true → hearing.me ≡ f.me → agree.me ≡ f.me
    → ForSome o (λ v. IsViewOf (with_view_fields (agreeing_with f hearing.hearing agree.agreement) o) v) → ForSome o (λ v. IsSome v.exchange.view)
    → HasRanges (with_view_fields (agreeing_with f hearing.hearing agree.agreement) o)
    → IsGroundOf f hearing agree view
ground_of f hearing agree view o is up me agrees views in_one ranges =
    let g : Option Viewed → Facts = λ (x : Option Viewed). with_view_fields (agreeing_with f hearing.hearing agree.agreement) x in
    record {
      up = up;
      hearing_of = me;
      agree_of = agrees;
      view_of = λ v e. subst (λ (x : Option Viewed). IsViewOf (g x) v.now) (sym is) (views v.now (sym is ∙ ap lent e));
      in_one = λ v e. in_one v.now (sym is ∙ ap lent e);
      ranges = subst (λ (x : Option Viewed). HasRanges (g x)) (sym is) ranges;
    }

own_views : (f : Facts) (h : Hearing) (a : Agreement) (own : Option Viewed) → with_view f own ≡ f → ForSome own (λ v. IsViewOf f v)
    → ForSome own (λ v. IsViewOf (with_view_fields (agreeing_with f h a) own) v)
own_views f h a own is views = λ v e. subst (λ (g : Facts). IsViewOf g v) (sym (ground_own f h a own is)) (view_unseen f (agreeing_with f h a) v (views v e))

-- the ground of a node that hears and agrees otherwise
pub ground_in_own : (f : Facts) (hearing : Adjacent) (agree : Agreeing) (own : Option (Bor View))
    → is_some own ≡ is_some f.exchange.view → (own ≡ None → with_view f None ≡ f) → IfSome own (λ v. IsViewOf f v.now)
    → f.up ≡ true → hearing.me ≡ f.me → agree.me ≡ f.me → HasRanges (agreeing_with f hearing.hearing agree.agreement)
    → IsGroundOf f hearing agree own
ground_in_own f hearing agree own some none views up me agrees ranges =
    let is = lent_view f own none views in
    ground_of f hearing agree own (lent own) refl up me agrees
    (own_views f hearing.hearing agree.agreement (lent own) is (lent_is_of f own views))
    (lent_in_one f own some views)
    (subst HasRanges (sym (ground_own f hearing.hearing agree.agreement (lent own) is)) ranges)

-- the facts of which the later parts are due are those that they see, but for a view that is entered: its copies are
-- stamped, and the quiet ticks begin anew
pub agreed_on_ground : (f : Facts) (hearing : Adjacent) (agree : Agreeing) (entered : Option (Box View)) (own : Option Viewed) → with_view f own ≡ f
    → agreed f hearing agree entered
    ≡ with_stamped (with_view_fields (agreeing_with f hearing.hearing agree.agreement) (either (option_map (λ v. v.value) entered) own))
    (agreed f hearing agree entered).hearing (agreed f hearing agree entered).store.stamps
agreed_on_ground f hearing agree None own is =
    ap (λ (g : Facts). with_stamped g hearing.hearing f.store.stamps) (sym (ground_own f hearing.hearing agree.agreement own is))
agreed_on_ground f hearing agree (Some v) own is = go v.value.exchange.exchanged
  where
    go : (b : Bool) → with_stamps (with_view (agreeing_with f (without_quiet hearing.hearing) agree.agreement) (Some v.value)) b
        ≡ with_stamped (with_view_fields (agreeing_with f hearing.hearing agree.agreement) (Some v.value))
        (with_stamps (with_view (agreeing_with f (without_quiet hearing.hearing) agree.agreement) (Some v.value)) b).hearing
        (with_stamps (with_view (agreeing_with f (without_quiet hearing.hearing) agree.agreement) (Some v.value)) b).store.stamps
    go true = refl
    go false = refl

ranges_unstamped : (g : Facts) (h : Hearing) (stamps : Stamps) → IsStoreField g.store → HasRanges (with_stamped g h stamps) → HasRanges g
ranges_unstamped g h stamps kept r = record {
  me = r.me;
  peers = r.peers;
  rack = r.rack;
  promised = r.promised;
  proposed = r.proposed;
  view = r.view;
  rows = r.rows;
  store = kept;
  writes = r.writes;
  transactions = r.transactions;
  batches = r.batches;
  bits = record { handed = r.bits.handed; settled = r.bits.settled };
}

numbers_unstamped : (g : Facts) (h : Hearing) (stamps : Stamps) → HaveNumbers (with_stamped g h stamps) → HaveNumbers g
numbers_unstamped g h stamps n = record { transactions = n.transactions; batches = n.batches; applies = n.applies }

-- what the later parts see
abbrev pub later_ground : Facts → Adjacent → Agreeing → Option (Box View) → Option Viewed → Facts
later_ground f hearing agree entered own =
    with_view_fields (agreeing_with f hearing.hearing agree.agreement) (either (option_map (λ v. v.value) entered) own)

pub later_ranges : (f : Facts) (hearing : Adjacent) (agree : Agreeing) (entered : Option (Box View)) (own : Option Viewed) → with_view f own ≡ f
    → HasRanges f → HasRanges (agreed f hearing agree entered) → HasRanges (later_ground f hearing agree entered own)
later_ranges f hearing agree entered own is before after =
    ranges_unstamped (later_ground f hearing agree entered own) _ _ before.store (subst HasRanges (agreed_on_ground f hearing agree entered own is) after)

pub later_numbers : (f : Facts) (hearing : Adjacent) (agree : Agreeing) (entered : Option (Box View)) (own : Option Viewed) → with_view f own ≡ f
    → HaveNumbers (agreed f hearing agree entered) → HaveNumbers (later_ground f hearing agree entered own)
later_numbers f hearing agree entered own is after =
    numbers_unstamped (later_ground f hearing agree entered own) _ _ (subst HaveNumbers (agreed_on_ground f hearing agree entered own is) after)

-- a view that was entered is one of what the later parts see, and so is the one before
later_views : (f : Facts) (hearing : Adjacent) (agree : Agreeing) (entered : Option (Box View)) (own : Option Viewed) → with_view f own ≡ f
    → ForSome own (λ v. IsViewOf f v) → FitsEntered f entered
    → ForSome (either (option_map (λ v. v.value) entered) own) (λ v. IsViewOf (later_ground f hearing agree entered own) v)
later_views f hearing agree None own is views fits = own_views f hearing.hearing agree.agreement own is views
later_views f hearing agree (Some w) own is views fits = λ v e.
    let same : w.value ≡ v = cc in
    subst (λ (x : Viewed). IsViewOf (later_ground f hearing agree (Some w) own) x) same
    (view_unseen (with_view f (Some w.value)) (agreeing_with f hearing.hearing agree.agreement) w.value (fits w refl).view)

later_in_one : (f : Facts) (entered : Option (Box View)) (own : Option Viewed) → ForSome own (λ v. IsSome v.exchange.view) → FitsEntered f entered
    → ForSome (either (option_map (λ v. v.value) entered) own) (λ v. IsSome v.exchange.view)
later_in_one f None own in_one fits = in_one
later_in_one f (Some w) own in_one fits = λ v e.
    let same : w.value ≡ v = cc in subst (λ (x : Viewed). IsSome x.exchange.view) same (fits w refl).in_one

-- the ground of the later parts
pub ground_in_newest : (f : Facts) (hearing : Adjacent) (agree : Agreeing) (entered : Option (Box View)) (own view : Option (Bor View))
    → is_some own ≡ is_some f.exchange.view → (own ≡ None → with_view f None ≡ f) → IfSome own (λ v. IsViewOf f v.now)
    → lent view ≡ either (option_map (λ v. v.value) entered) (lent own)
    → f.up ≡ true → hearing.me ≡ f.me → FitsAgreed f agree entered → HasRanges f → HasRanges (agreed f hearing agree entered)
    → IsGroundOf f hearing agree view
ground_in_newest f hearing agree entered own view some none views newest up me fits before after =
    let is = lent_view f own none views in
    ground_of f hearing agree view (either (option_map (λ (v : Box View). v.value) entered) (lent own)) newest up me fits.agree_of
    (later_views f hearing agree entered (lent own) is (lent_is_of f own views) fits.view)
    (later_in_one f entered (lent own) (lent_in_one f own some views) fits.view)
    (later_ranges f hearing agree entered (lent own) is before after)

-- ---- what the later parts plan

pub later_rows : (f : Facts) (hearing : Adjacent) (agree : Agreeing) (entered : Option (Box View)) (own : Option Viewed) → with_view f own ≡ f
    → HasRanges (agreed f hearing agree entered) → HasRows (later_ground f hearing agree entered own)
later_rows f hearing agree entered own is after =
    let r : HasRanges (with_stamped (later_ground f hearing agree entered own) (agreed f hearing agree entered).hearing (agreed f hearing agree entered).store.stamps) =
    subst HasRanges (agreed_on_ground f hearing agree entered own is) after in
    record { handed = r.bits.handed; settled = r.bits.settled }

-- the parts are due of either facts
pub later_told : (f : Facts) (hearing : Adjacent) (agree : Agreeing) (entered : Option (Box View)) (own : Option Viewed) → with_view f own ≡ f
    → HasRanges (agreed f hearing agree entered)
    → parts_in_order (later_parts partition_count) (later_ground f hearing agree entered own) ≡ parts_in_order (later_parts partition_count) (agreed f hearing agree entered)
later_told f hearing agree entered own is after =
    sym (parts_stamped (later_ground f hearing agree entered own) (agreed f hearing agree entered).hearing (agreed f hearing agree entered).store.stamps (later_rows f hearing agree entered own is after))
    ∙ ap (λ (g : Facts). parts_in_order (later_parts partition_count) g) (sym (agreed_on_ground f hearing agree entered own is))

-- what was planned of what the parts see is planned of the facts
pub later_plan : (f : Facts) (hearing : Adjacent) (agree : Agreeing) (entered : Option (Box View)) (own : Option Viewed) (t : Ticked) → with_view f own ≡ f
    → HasRanges (agreed f hearing agree entered)
    → t.agree ≡ agree → t.entered ≡ entered
    → t.batches.items ≡ batches_due (view_key (later_ground f hearing agree entered own)) f.store.content (later_ground f hearing agree entered own).batches
    → AreNext (later_ground f hearing agree entered own).exchange.exchanged (view_key (later_ground f hearing agree entered own)) (later_ground f hearing agree entered own).batches t.batches.items
    → AreSettlings (later_ground f hearing agree entered own) t.settlings.items
    → settling_lines (later_ground f hearing agree entered own).me (view_key (later_ground f hearing agree entered own)) t.settlings.items ≡ settling_due partition_count (later_ground f hearing agree entered own)
    → TicksFrom f hearing agree entered t
later_plan f hearing agree entered own t is after agreed_on viewed sent next due lines =
    let g : Facts = later_ground f hearing agree entered own in
    let h : Hearing = (agreed f hearing agree entered).hearing in
    let stamps : Stamps = (agreed f hearing agree entered).store.stamps in
    let same : with_stamped g h stamps ≡ agreed f hearing agree entered = sym (agreed_on_ground f hearing agree entered own is) in
    record {
      agreed_on = agreed_on;
      view = viewed;
      batches = sent ∙ ap (λ (x : Facts). batches_due (view_key x) f.store.content x.batches) same;
      next = subst (λ (x : Facts). AreNext x.exchange.exchanged (view_key x) x.batches t.batches.items) same next;
      due = subst (λ (x : Facts). AreSettlings x t.settlings.items) same (settlings_stamped g h stamps t.settlings.items due);
      settled = subst (λ (x : Facts). settled_by x t.settlings.items ≡ noted None x (settling_due partition_count x)) same
          (settled_stamped g h stamps t.settlings.items (later_rows f hearing agree entered own is after) (sym lines));
    }

-- what was told part by part is told in order
pub told_later : (o0 o1 o2 o3 o4 o5 : Effects) (g h : Facts) → o1 ≡ then_effects o0 (tick.rows g) → o2 ≡ then_effects o1 (tick.transactions g)
    → o3 ≡ then_effects o2 (tick.batches g) → o4 ≡ then_effects o3 (tick.settlings partition_count g) → o5 ≡ then_effects o4 (progress partition_count h)
    → h ≡ noted None g (settling_due partition_count g) → o5 ≡ then_effects o0 (parts_in_order (later_parts partition_count) g)
told_later o0 o1 o2 o3 o4 o5 g h p1 p2 p3 p4 p5 settled =
    p5
    ∙ ap₂ (λ (o : Effects) (x : Facts). then_effects o (progress partition_count x))
    (p4 ∙ ap (λ (o : Effects). then_effects o (tick.settlings partition_count g))
    (p3 ∙ ap (λ (o : Effects). then_effects o (tick.batches g)) (p2 ∙ ap (λ (o : Effects). then_effects o (tick.transactions g)) p1))) settled
    ∙ told_in_order o0 g

-- ---- heartbeats

-- the key of a view has a spelling, and so has that of none
pub key_told : (o : Option exchange.View) → ForSome o (λ v. IsKeyField v.key) → IsKeyOrNone (exchange.exchange_key o)
key_told None h = inl refl
key_told (Some v) h = inr (h v refl)
