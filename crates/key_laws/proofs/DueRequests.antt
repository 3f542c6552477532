-- What is due of a request at a node may stand.
use Rattle.std.proofs.Common.{◌≡◌, ℕ, ◌+◌, Bool, true, false, List, [], ◌∷◌, Option, Some, None, refl, arith, if◌then◌else◌}
use Rattle.conflict_order.specs.declared.want.Want.{Want}
use Rattle.cluster_types.specs.Partitions.{partition_of}
use Rattle.journal_lines.specs.declared.refusal.Refusal.{Refusal}
use Rattle.journal_lines.specs.declared.refusal.Refusal.TheVariants as refusal
use Rattle.node_rules.specs.Exchange.{View}
use Rattle.node_rules.specs.Facts.{Facts, view_key, list_at}
use Rattle.node_rules.specs.Notes.{opening_transaction}
use Rattle.node_rules.specs.Requests.{map_refusal, request_refusal, asking, opening_effects, request_if, due_request, view_refusal, refusal_after}
use Rattle.node_rules.specs.Transactions.{Transaction}
use Rattle.key_laws.specs.Licences.{Visited}
use Rattle.key_laws.specs.Sound.{NodeKeys}
use Rattle.key_laws.specs.Traced.{Traced}
use Rattle.key_laws.proofs.Quiet.{each_posts, Quiet}
use Rattle.key_laws.proofs.DueMessages.{resolving_quiet}
use Rattle.key_laws.proofs.DueViews.{ask_posts, view_visited}

asking_quiet : (t : Traced) (n : ℕ) (f : Facts) (clock : ℕ) (l : List ℕ) (x : Transaction) (ns : List ℕ) → Visited t f.me (view_key f) → Quiet t n (asking f clock l x ns)
asking_quiet t n f clock l x [] h = resolving_quiet t n f clock l x h
asking_quiet t n f clock l x (m ∷ ns) h = record { lines = tt; posts = each_posts t n _ (m ∷ ns) (ask_posts t n (view_key f) x.number x.digest h.known) }

opening_quiet : (t : Traced) (n : ℕ) (f : Facts) (clock : ℕ) (l : List ℕ) (x : Transaction) → Visited t f.me (view_key f) → Quiet t n (opening_effects f clock l x)
opening_quiet t n f clock l x h =
    let q : Quiet t n (asking f clock l x x.awaiting) = asking_quiet t n f clock l x x.awaiting h in
    record { lines = (h, q.lines); posts = q.posts }

request_if_quiet : (t : Traced) (n : ℕ) (f : Facts) (clock : ℕ) (l d : List ℕ) (w : Want) (o : Option Refusal) → (o ≡ None → Visited t f.me (view_key f)) → Quiet t n (request_if f clock l d w o)
request_if_quiet t n f clock l d w (Some cause) h = record { lines = (tt, tt); posts = tt }
request_if_quiet t n f clock l d w None h = opening_quiet t n f clock l (opening_transaction f l (f.transactions.opened + 1) d w) (h refl)

-- a node with a map is in a view
pub mapped : (t : Traced) (f : Facts) → NodeKeys t f.me f → map_refusal f ≡ None → Visited t f.me (view_key f)
mapped t f h e = up f.up e
  where
    some : {A B : Type 0} (a : A) → Some a ≡ None → B
    some a s = absurd (grind arith)

    view : (o : Option View) → f.exchange.view ≡ o → view_refusal f o ≡ None → Visited t f.me (view_key f)
    view None s i = some _ i
    view (Some v) s i = view_visited t f.me f v h s

    up : (b : Bool) → (if b then view_refusal f f.exchange.view else Some refusal.Down) ≡ None → Visited t f.me (view_key f)
    up true i = view f.exchange.view refl i
    up false i = some _ i

accepted : (t : Traced) (f : Facts) (l d : List ℕ) → NodeKeys t f.me f → request_refusal f l d ≡ None → Visited t f.me (view_key f)
accepted t f l d h e = go (map_refusal f) refl e
  where
    some : {A B : Type 0} (a : A) → Some a ≡ None → B
    some a s = absurd (grind arith)

    go : (o : Option Refusal) → map_refusal f ≡ o → refusal_after f l d o ≡ None → Visited t f.me (view_key f)
    go None s i = mapped t f h s
    go (Some cause) s i = some cause i

pub request_quiet : (t : Traced) (n : ℕ) (f : Facts) (clock : ℕ) (d : List ℕ) (w : Want) → NodeKeys t f.me f → Quiet t n (due_request f clock d w)
request_quiet t n f clock d w h = request_if_quiet t n f clock (list_at f (partition_of d)) d w (request_refusal f (list_at f (partition_of d)) d) (accepted t f (list_at f (partition_of d)) d h)
