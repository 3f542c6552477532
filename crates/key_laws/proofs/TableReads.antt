-- A message that names no nodes is read as none that does, and the table of a view names its members.
use Rattle.std.proofs.Common.{◌≡◌, ℕ, zero, suc, ◌+◌, ◌==◌, ◌<◌, ◌||◌, Bool, true, false, cond, List, [], ◌∷◌, length, Option, Some, None, refl, sym, ap, subst, ◌∙◌, ⊎_elim, arith, if◌then◌else◌}
use Rattle.std.specs.Prelude.{All, slice_index, find, unwrap_or}
use Rattle.std.specs.List.{concat}
use Rattle.cluster_types.specs.declared.cluster_key.ClusterKey.{ClusterKey}
use Rattle.cluster_types.specs.declared.member.Member.{Member}
use Rattle.cluster_types.specs.ClusterKeys as keys
use Rattle.cluster_types.specs.Members.{ids_of}
use Rattle.cluster_types.specs.Partitions.{partition_count}
use Rattle.partition_lists.specs.Acting.{is_wholest_by}
use Rattle.partition_lists.specs.Lists.{list}
use Rattle.partition_lists.proofs.ListLaws.{list_contains, any_is_contained}
use Rattle.wire_messages.specs.declared.message.MapTable.{MapTable}
use Rattle.wire_messages.specs.declared.message.Message.{Message}
use Rattle.wire_messages.specs.declared.message.Message.TheVariants as message
use Rattle.wire_messages.specs.Decoding.{message_of}
use Rattle.wire_messages.specs.Keys.{IsKeyField, key_field}
use Rattle.wire_messages.specs.Nodes.{IsId, is_plain, all_plain, ids_field, role_field, plain_members_field, members_field}
use Rattle.wire_messages.specs.Numbers.{byte_field}
use Rattle.wire_messages.specs.Proper.{IsProper}
use Rattle.wire_messages.specs.Spelling.{spelling}
use Rattle.wire_messages.proofs.DecodingLaws.{what_is_read, read_back}
use Rattle.node_rules.specs.Exchange.{View, is_member, members_of, exchange_key}
use Rattle.node_rules.specs.Facts.{Facts, view_key, members_of_view, list_at}
use Rattle.node_rules.specs.Map.{list_master, row_state_at}
use Rattle.node_rules.specs.Messages.{map_table}
use Rattle.node_rules.specs.Standing.{named, named_by, has_moved, acting_at}
use Rattle.node_rules.specs.Tables.{contains}
use Rattle.node_rules.specs.ClientMessages.{named_from, moved_from}
use Rattle.key_laws.specs.Ends.{TableNames, Tells, TellsIf, AllNodes}
use Rattle.key_laws.specs.Sound.{Entered, NodeKeys, ViewStands, Listed, Sound}
use Rattle.key_laws.specs.Traced.{Traced}
use Rattle.key_laws.proofs.Addressed.{differ, or_cases, or_left, or_right, member_id, listed_member}
use Rattle.key_laws.proofs.DueViews.{view_known}
use Rattle.key_laws.proofs.Frames.{num_differ, num_eq, num_same}
use Rattle.key_laws.proofs.Neighbours.{all_cons, all_none}
use Rattle.key_laws.proofs.Wire.{If, read_table}

of_first : {A : Type 0} (P : A → Type 0) (x : A) (xs : List A) → All P (x ∷ xs) → P x
of_first P x xs h = h 0 x (omega arith)

of_others : {A : Type 0} (P : A → Type 0) (x : A) (xs : List A) → All P (x ∷ xs) → All P xs
of_others P x xs h k d within = h (suc k) d (omega (arith, within))

-- ---- other messages

-- whether messages of its kind may name nodes
abbrev pub is_naming : Message → Bool
is_naming (message.MapTable t) = true
is_naming (message.ProxyReply key number b) = true
is_naming (message.Reply key number b) = true
is_naming (message.ScanNo scan cause) = true
is_naming _ = false

-- the same of the byte of its kind
abbrev names_by_kind : ℕ → Bool
names_by_kind k = (k == 15) || ((k == 20) || ((k == 22) || (k == 25)))

first : List ℕ → ℕ
first [] = 0
first (x ∷ xs) = x

spelled_kind : (m : Message) → names_by_kind (first (spelling m)) ≡ is_naming m
unfolding spelling byte_field first
spelled_kind (message.Heartbeat view promised hears role) = go (is_plain role)
  where
    go : (b : Bool) → names_by_kind (first (concat (if b then byte_field 1 ∷ key_field view ∷ key_field promised ∷ ids_field hears ∷ [] else (byte_field 16 ∷ key_field view ∷ key_field promised ∷ ids_field hears ∷ role_field role ∷ [])))) ≡ false
    go true = refl
    go false = refl
spelled_kind (message.Propose k ms) = go (all_plain ms)
  where
    go : (b : Bool) → names_by_kind (first (concat (if b then byte_field 2 ∷ key_field k ∷ plain_members_field ms ∷ [] else (byte_field 17 ∷ key_field k ∷ members_field ms ∷ [])))) ≡ false
    go true = refl
    go false = refl
spelled_kind (message.Commit k ms) = go (all_plain ms)
  where
    go : (b : Bool) → names_by_kind (first (concat (if b then byte_field 5 ∷ key_field k ∷ plain_members_field ms ∷ [] else (byte_field 18 ∷ key_field k ∷ members_field ms ∷ [])))) ≡ false
    go true = refl
    go false = refl
spelled_kind _ = refl

-- what is read has the spelling that it was read from
read_first : (m x : Message) → message_of (spelling m) ≡ Some x → first (spelling x) ≡ first (spelling m)
read_first m x r = ap first (what_is_read (spelling m) x r).1

-- what is read as a message of a kind that names no nodes names none
names_none : (P : ℕ → Type 0) (x : Message) → is_naming x ≡ false → Tells P x
names_none P (message.MapTable t) e = differ refl e
names_none P (message.ProxyReply key number b) e = differ refl e
names_none P (message.Reply key number b) e = differ refl e
names_none P (message.ScanNo scan cause) e = differ refl e
names_none P _ e = tt

pub others_tell : (P : ℕ → Type 0) (m : Message) → is_naming m ≡ false → TellsIf P (message_of (spelling m))
others_tell P m e = go (message_of (spelling m)) refl
  where
    go : (o : Option Message) → message_of (spelling m) ≡ o → TellsIf P o
    go None r = tt
    go (Some x) r = names_none P x (sym (spelled_kind x) ∙ ap names_by_kind (read_first m x r) ∙ spelled_kind m ∙ e)

-- what is read of a table says of it what its spelling does
read_tells : (P : ℕ → Type 0) (table : MapTable) → ((t : MapTable) → message_of (spelling (message.MapTable table)) ≡ Some (message.MapTable t) → TableNames P t) → TellsIf P (message_of (spelling (message.MapTable table)))
unfolding spelling byte_field first
read_tells P table h = go (message_of (spelling (message.MapTable table))) refl
  where
    some : (x : Message) → message_of (spelling (message.MapTable table)) ≡ Some x → Tells P x
    some (message.MapTable t) e = h t e
    some (message.ProxyReply key number b) e = absurd (num_differ 20 15 refl (read_first (message.MapTable table) (message.ProxyReply key number b) e))
    some (message.Reply key number b) e = absurd (num_differ 22 15 refl (read_first (message.MapTable table) (message.Reply key number b) e))
    some (message.ScanNo scan cause) e = absurd (num_differ 25 15 refl (read_first (message.MapTable table) (message.ScanNo scan cause) e))
    some _ e = tt

    go : (o : Option Message) → message_of (spelling (message.MapTable table)) ≡ o → TellsIf P o
    go None e = tt
    go (Some x) e = some x e

-- ---- who stands in a list

abbrev pub Each : (ℕ → Type 0) → List ℕ → Type 0
Each P l = (n : ℕ) → contains l n ≡ true → P n

pub member_listed : (ms : List Member) (p n : ℕ) → contains (ids_of ms) n ≡ true → contains (list ms p) n ≡ true
member_listed ms p n e = (any_is_contained n (list ms p)).1 ((list_contains ms p n).1 ((any_is_contained n (ids_of ms)).0 e))

-- of the members each that a list names is one
pub each_listed : (P : ℕ → Type 0) (ms : List Member) (p : ℕ) → ((n : ℕ) → is_member ms n ≡ true → P n) → Each P (list ms p)
each_listed P ms p h n e = h n (sym (member_id ms n) ∙ listed_member ms p n e)

pub master_in : (P : ℕ → Type 0) (l : List ℕ) (n : ℕ) → contains l n ≡ true → Each P l → P (list_master l)
master_in P [] n e h = differ e refl
master_in P (m ∷ l) n e h = h m (or_left (m == m) (contains l m) (num_eq m m refl))

found_in : (P : ℕ → Type 0) (test : ℕ → Bool) (l : List ℕ) (d : ℕ) → Each P l → P d → P (unwrap_or (find test l) d)
found_in P test [] d h i = i
found_in P test (n ∷ l) d h i = go (test n) (h n (or_left (n == n) (contains l n) (num_eq n n refl))) (found_in P test l d (λ m e. h m (or_right (n == m) (contains l m) e)) i)
  where
    go : (b : Bool) → P n → P (unwrap_or (find test l) d) → P (unwrap_or (cond b (Some n) (find test l)) d)
    go true x y = x
    go false x y = y

pub acting_in : (P : ℕ → Type 0) (f : Facts) (l : List ℕ) (p n : ℕ) → contains l n ≡ true → Each P l → P (acting_at f l p)
acting_in P f l p n e h = found_in P (is_wholest_by l (row_state_at f.exchange.rows p)) l (list_master l) h (master_in P l n e h)

pub named_in : (P : ℕ → Type 0) (f : Facts) (l : List ℕ) (p n : ℕ) → contains l n ≡ true → Each P l → P (named f l p)
named_in P f l p n e h = go (has_moved f p)
  where
    go : (b : Bool) → P (named_by b l (acting_at f l p))
    go true = master_in P l n e h
    go false = acting_in P f l p n e h

-- ---- a table of a view

names_all : (P : ℕ → Type 0) (f : Facts) → ((p : ℕ) → P (named f (list_at f p) p)) → (n p : ℕ) → AllNodes P (named_from f n p)
unfolding named_from
names_all P f h zero p = tt
names_all P f h (suc n) p = (h p, names_all P f h n (p + 1))

names_size : (f : Facts) (n p : ℕ) → length (named_from f n p) ≡ n
unfolding named_from
names_size f zero p = refl
names_size f (suc n) p = ap suc (names_size f n (p + 1))

moves_size : (f : Facts) (n p : ℕ) → length (moved_from f n p) ≡ n
unfolding moved_from
moves_size f zero p = refl
moves_size f (suc n) p = ap suc (moves_size f n (p + 1))

all_of : (P : ℕ → Type 0) (ns : List ℕ) → AllNodes P ns → All P ns
all_of P [] h = all_none P
all_of P (n ∷ ns) h = all_cons P n ns h.0 (all_of P ns h.1)

at_place : (P : ℕ → Type 0) (ns : List ℕ) (i : ℕ) → AllNodes P ns → i < length ns → P (slice_index ns i)
at_place P [] i h lt = absurd (omega (arith, lt))
at_place P (n ∷ ns) zero h lt = h.0
at_place P (n ∷ ns) (suc i) h lt = at_place P ns i h.1 (omega (arith, lt))

-- the key of a table
abbrev HasKey : ClusterKey → Message → Type 0
HasKey k (message.MapTable t) = t.key ≡ k
HasKey k _ = Unit {0}

no_field : (k : ClusterKey) → k ≡ keys.none → IsKeyField k → ⊥
no_field k e h = absurd (grind (arith, e, h))

read_key : (t : Traced) (f : Facts) → NodeKeys t f.me f → (u : MapTable) → message_of (spelling (message.MapTable (map_table f))) ≡ Some (message.MapTable u) → u.key ≡ view_key f
read_key t f keys u r = subst (λ o. If (HasKey (view_key f)) o) r (read_table (HasKey (view_key f)) (map_table f) (view_known t f.me f keys).field (λ y e. e))

id_of : (ms : List Member) (n : ℕ) → All (λ m. IsId m.id) ms → is_member ms n ≡ true → IsId n
id_of [] n fit e = differ e refl
id_of (m ∷ ms) n fit e =
    ⊎_elim (λ q. subst (λ (x : ℕ). IsId x) (num_same m.id n q) (of_first (λ m. IsId m.id) m ms fit)) (λ q. id_of ms n (of_others (λ m. IsId m.id) m ms fit) q)
    (or_cases (m.id == n) (is_member ms n) e)

-- what a node of that view tells of it
record InView (t : Traced) (f : Facts) (v : View) : Type 0 where
  is : f.exchange.view ≡ Some v
  entered : Entered t f.me f.agreement.last v

in_view_of : (t : Traced) (f : Facts) → NodeKeys t f.me f → (v : View) → f.exchange.view ≡ Some v → InView t f v
in_view_of t f keys v e = record { is = e; entered = entered (subst (ViewStands t f.me f.agreement.last) e keys.view) }
  where
    entered : ViewStands t f.me f.agreement.last (Some v) → Entered t f.me f.agreement.last v
    entered x = x

named_of : (P : ℕ → Type 0) (t : Traced) (f : Facts) (v : View) → InView t f v → ((n : ℕ) → is_member (members_of_view f) n ≡ true → P n) → (p : ℕ) → P (named f (list_at f p) p)
named_of P t f v i h p = named_in P f (list_at f p) p f.me own
    (each_listed P (members_of_view f) p h)
  where
    own : contains (list_at f p) f.me ≡ true
    own = member_listed (members_of_view f) p f.me (member_id (members_of_view f) f.me ∙ ap (λ (o : Option View). is_member (members_of o) f.me) i.is ∙ i.entered.among)

-- the table of a view has a spelling
pub table_proper : (t : Traced) (f : Facts) → Sound t → NodeKeys t f.me f → (v : View) → f.exchange.view ≡ Some v → IsProper (message.MapTable (map_table f))
table_proper t f s keys v e = record {
  key = subst (λ (k : ClusterKey). IsKeyField k) (sym (ap exchange_key e)) listed.key;
  size = names_size f partition_count 0;
  ids = all_of IsId (map_table f).ids (names_all IsId f (named_of IsId t f v (in_view_of t f keys v e) ids) partition_count 0);
  moved = record { size = moves_size f partition_count 0 };
}
  where
    listed : Listed t v.key v.members
    listed = s.lists v.key v.members (in_view_of t f keys v e).entered.list

    ids : (n : ℕ) → is_member (members_of_view f) n ≡ true → IsId n
    ids n m = id_of v.members n listed.good.fit (sym (ap (λ (o : Option View). is_member (members_of o) n) e) ∙ m)

pub table_tells : (P : ℕ → Type 0) (t : Traced) (f : Facts) → Sound t → NodeKeys t f.me f → ((n : ℕ) → is_member (members_of_view f) n ≡ true → P n) → TellsIf P (message_of (spelling (message.MapTable (map_table f))))
table_tells P t f s keys h = read_tells P (map_table f) (λ u r. go f.exchange.view refl u r)
  where
    same_table : {x y : MapTable} → Some (message.MapTable x) ≡ Some (message.MapTable y) → x ≡ y
    same_table {x} {y} e = grind arith

    go : (o : Option View) → f.exchange.view ≡ o → (u : MapTable) → message_of (spelling (message.MapTable (map_table f))) ≡ Some (message.MapTable u) → TableNames P u
    go None e u r = absurd (no_field u.key (read_key t f keys u r ∙ ap exchange_key e) (what_is_read (spelling (message.MapTable (map_table f))) (message.MapTable u) r).0.key)
    go (Some v) e u r = subst (λ (x : MapTable). TableNames P x) (same_table (sym (read_back (message.MapTable (map_table f)) (table_proper t f s keys v e)) ∙ r))
        (λ p lt. at_place P (map_table f).ids p (names_all P f (named_of P t f v (in_view_of t f keys v e) h) partition_count 0) (subst (λ (x : ℕ). p < x) (sym (names_size f partition_count 0)) lt))
