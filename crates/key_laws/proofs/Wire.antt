-- A message that is sent is read as one of its kind with its key, or as none.
use Rattle.std.proofs.Common.{◌≡◌, ℕ, zero, suc, ◌<◌, ◌≤◌, ◌^◌, ◌&&◌, nat_lt, Bool, true, false, List, [], ◌∷◌, ◌++◌, drop, Option, Some, None, Result, Ok, Err, refl, sym, subst, ◌∙◌, arith, inl, inr, length, if◌then◌else◌, append_assoc}
use Rattle.std.specs.Prelude.{flat_map, All}
use Rattle.std.specs.List.{concat}
use Rattle.std.specs.Result.{result_ok}
use Rattle.std.proofs.lemmas.Bool.Decides.{nat_tests}
use Rattle.std.specs.Int.{w16, w32, from_be_bytes, to_be_bytes}
use Rattle.conflict_order.specs.declared.version.Version.{Version}
use Rattle.cluster_types.specs.declared.cluster_key.ClusterKey.{ClusterKey}
use Rattle.cluster_types.specs.declared.copy_state.CopyState.{CopyState}
use Rattle.cluster_types.specs.declared.copy_state.CopyState.TheVariants.{Empty, Part, Whole}
use Rattle.node_rules.specs.Copies.{Row}
use Rattle.key_laws.specs.Licences.{CopyOf, RowOf}
use Rattle.cluster_types.specs.declared.member.Member.{Member}
use Rattle.cluster_types.specs.declared.member.Role.{Role}
use Rattle.cluster_types.specs.ClusterKeys.{none}
use Rattle.cluster_types.specs.Partitions.{partition_count}
use Rattle.cluster_types.specs.RowBytes.{bytes_of}
use Rattle.wire_messages.specs.declared.message.Batch.{Batch}
use Rattle.wire_messages.specs.declared.message.MapTable.{MapTable}
use Rattle.wire_messages.specs.declared.message.Message.{Message}
use Rattle.wire_messages.specs.declared.message.Message.TheVariants as message
use Rattle.wire_messages.specs.declared.fault.FieldFault.{FieldFault}
use Rattle.wire_messages.specs.declared.fault.FieldFault.TheVariants.{Bad, Short}
use Rattle.wire_messages.specs.Decoding.{message_of, decoded, are_bytes, of_kind, whole, alone}
use Rattle.wire_messages.specs.Fields.{◌>>=◌, items_at, if_allowed, whole_field, field}
use Rattle.wire_messages.specs.Keys.{IsKeyField, IsKeyOrNone, key_field, key_where, key_at, key_or_none_at}
use Rattle.wire_messages.specs.Kinds.{kind_of, heartbeat_at, heartbeat_with_role_at, propose_at, propose_with_roles_at, accept_at, refuse_at, commit_at, commit_with_roles_at, state_message_at, batch_at, batch_ack_at, progress_at, repl_at, repl_ack_at, ask_at, answer_at, map_ask_at, map_table_at}
use Rattle.wire_messages.specs.Nodes.{AreMembersField, is_plain, all_plain, ids_at, ids_field, role_at, role_field, id_field, plain_members_field, plain_members_at, members_field, members_at, member_field, table_at}
use Rattle.wire_messages.specs.Numbers.{between, positive, every, number_at, byte_at, byte_field, flag_at, flag_field, number_field}
use Rattle.wire_messages.specs.Rows.{row_at, state_row_at, state_row_field, state_at, state_field, entry_at, entry_field, with_entry, whole_if, is_above}
use Rattle.wire_messages.specs.Spelling.{spelling, view_fields}
use Rattle.wire_messages.specs.Versions.{digest_at, version_at, version_field, option_version_at, option_version_field, records_at, records_field}
use Rattle.wire_messages.proofs.DecodingLaws.{are_small, read_back}
use Rattle.wire_messages.proofs.Forms.{Small}
use Rattle.wire_messages.proofs.NumberForms.{flag_form, key_form, key_or_none_form}
use Rattle.key_laws.specs.Sound.{GoodList}
use Rattle.key_laws.proofs.Neighbours.{all_cons, all_none}

-- what holds of a message, if there is one
abbrev pub If : (Message → Type 0) → Option Message → Type 0
If P None = Unit {0}
If P (Some m) = P m

-- what the bytes of a message are read as
abbrev pub Read : (Message → Type 0) → Message → Type 0
Read P m = If P (message_of (spelling m))

-- ---- what is read, if it is

abbrev pub IfRead : {A : Type 0} → (A → Type 0) → Result A FieldFault → Type 0
IfRead P (Ok x) = P x
IfRead P (Err e) = Unit {0}

-- what holds of what a kind's fields are read as holds of the message
pub from_fields : (P : Message → Type 0) (kind : ℕ) (fields : List ℕ) (read : List ℕ → Result (Message × List ℕ) FieldFault) → kind_of kind ≡ Some read
    → IfRead (λ x. P x.0) (read fields) → If P (message_of (kind ∷ fields))
unfolding message_of decoded
from_fields P kind fields read known h = bytes (are_bytes (kind ∷ fields))
  where
    ends : (m : Message) (rest : List ℕ) → P m → If P (result_ok (alone m rest))
    ends m [] p = p
    ends m (b ∷ rest) p = tt

    result : (r : Result (Message × List ℕ) FieldFault) → IfRead (λ x. P x.0) r → If P (result_ok (whole (suc (length fields)) r))
    result (Ok x) p = ends x.0 x.1 p
    result (Err (Bad left)) p = tt
    result (Err Short) p = tt

    bytes : (b : Bool) → If P (if b then result_ok (of_kind kind fields (kind_of kind)) else None)
    bytes true = subst (λ o. If P (result_ok (of_kind kind fields o))) (sym known) (result (read fields) h)
    bytes false = tt

-- whatever is read, what follows it holds
pub onward : {A B : Type 0} (P : B → Type 0) (r : Result A FieldFault) (f : A → Result B FieldFault) → ((x : A) → IfRead P (f x)) → IfRead P (r >>= f)
onward P (Ok x) f h = h x
onward P (Err e) f h = tt

-- of what is read more may be known
pub with_read : {A B : Type 0} (Q : A → Type 0) (P : B → Type 0) (r : Result A FieldFault) (f : A → Result B FieldFault) → IfRead Q r → ((x : A) → Q x → IfRead P (f x)) → IfRead P (r >>= f)
with_read Q P (Ok x) f q h = h x q
with_read Q P (Err e) f q h = tt

pub nested : {A B C : Type 0} (P : C → Type 0) (r : Result A FieldFault) (g : A → Result B FieldFault) (f : B → Result C FieldFault) → IfRead P (r >>= λ x. g x >>= f) → IfRead P ((r >>= g) >>= f)
nested P (Ok x) g f h = h
nested P (Err e) g f h = tt

unless_short : {A B : Type 0} (P : B → Type 0) (b : Bool) (r : Result A FieldFault) (f : A → Result B FieldFault) → IfRead P (r >>= f) → IfRead P ((if b then Err Short else r) >>= f)
unless_short P true r f h = tt
unless_short P false r f h = h

-- no key is no field of a view's key
none_fails : {B : Type 0} (P : B → Type 0) (rest : List ℕ) (f : ClusterKey × List ℕ → Result B FieldFault) → IfRead P (key_at (key_field none ++ rest) >>= f)
unfolding key_at key_where field key_field
none_fails P rest f = unless_short P (nat_lt (length (key_field none ++ rest)) 8) (whole_field (length (key_field none ++ rest)) None (drop 8 (key_field none ++ rest))) f tt

-- a key is read as itself
pub key_first : {B : Type 0} (P : B → Type 0) (k : ClusterKey) → IsKeyOrNone k → (rest : List ℕ) (f : ClusterKey × List ℕ → Result B FieldFault) → IfRead P (f (k, rest)) → IfRead P (key_at (key_field k ++ rest) >>= f)
key_first P k (inl e) rest f h = subst (λ q. IfRead P (key_at (key_field q ++ rest) >>= f)) (sym e) (none_fails P rest f)
key_first P k (inr field) rest f h = subst (λ r. IfRead P (r >>= f)) (sym (key_form.again k rest field)) h

pub key_or_none_first : {B : Type 0} (P : B → Type 0) (k : ClusterKey) → IsKeyOrNone k → (rest : List ℕ) (f : ClusterKey × List ℕ → Result B FieldFault) → IfRead P (f (k, rest)) → IfRead P (key_or_none_at (key_field k ++ rest) >>= f)
key_or_none_first P k key rest f h = subst (λ r. IfRead P (r >>= f)) (sym (key_or_none_form.again k rest key)) h

-- ---- kinds of one key

pub read_accept : (P : Message → Type 0) (k : ClusterKey) → IsKeyOrNone k → P (message.Accept k) → Read P (message.Accept k)
unfolding spelling byte_field accept_at
read_accept P k key h = from_fields P 3 (key_field k ++ []) accept_at refl (key_first (λ x. P x.0) k key [] _ h)

pub read_refuse : (P : Message → Type 0) (k promised : ClusterKey) → IsKeyOrNone k → IsKeyOrNone promised → P (message.Refuse k promised) → Read P (message.Refuse k promised)
unfolding spelling byte_field refuse_at
read_refuse P k promised key p h =
    from_fields P 4 (key_field k ++ (key_field promised ++ [])) refuse_at refl (key_first (λ x. P x.0) k key (key_field promised ++ []) _ (key_first (λ x. P x.0) promised p [] _ h))

pub read_batch : (P : Message → Type 0) (b : Batch) → IsKeyOrNone b.key → ((c : Batch) → c.key ≡ b.key → P (message.Batch c)) → Read P (message.Batch b)
unfolding spelling byte_field batch_at
read_batch P b key h =
    let rest : List ℕ = number_field w32 b.number ++ (records_field b.records ++ []) in
    from_fields P 7 (key_field b.key ++ rest) batch_at refl
    (key_first (λ x. P x.0) b.key key rest _ (onward (λ x. P x.0) (number_at w32 positive rest) _ (λ i. onward (λ x. P x.0) (records_at 1 i.1) _ (λ r. h _ refl))))

pub read_batch_ack : (P : Message → Type 0) (k : ClusterKey) (number : ℕ) → IsKeyOrNone k → ((i : ℕ) → P (message.BatchAck k i)) → Read P (message.BatchAck k number)
unfolding spelling byte_field batch_ack_at
read_batch_ack P k number key h =
    let rest : List ℕ = number_field w32 number ++ [] in
    from_fields P 8 (key_field k ++ rest) batch_ack_at refl (key_first (λ x. P x.0) k key rest _ (onward (λ x. P x.0) (number_at w32 positive rest) _ (λ i. h i.0)))

pub read_progress : (P : Message → Type 0) (k : ClusterKey) (wants : Bool) (done handed settled : List Bool) → IsKeyOrNone k
    → ((w : Bool) (a b c : List Bool) → P (message.Progress k w a b c)) → Read P (message.Progress k wants done handed settled)
unfolding spelling byte_field progress_at
read_progress P k wants done handed settled key h =
    let rest : List ℕ = flag_field wants ++ (bytes_of done ++ (bytes_of handed ++ (bytes_of settled ++ []))) in
    from_fields P 9 (key_field k ++ rest) progress_at refl
    (key_first (λ x. P x.0) k key rest _ (onward (λ x. P x.0) (flag_at rest) _ (λ w. onward (λ x. P x.0) (row_at w.1) _ (λ a. onward (λ x. P x.0) (row_at a.1) _ (λ b. onward (λ x. P x.0) (row_at b.1) _ (λ c. h w.0 a.0 b.0 c.0))))))

pub read_repl : (P : Message → Type 0) (k : ClusterKey) (number nth : ℕ) (d : List ℕ) (v : Version) → IsKeyOrNone k
    → ((i j : ℕ) (e : List ℕ) (w : Version) → P (message.Repl k i j e w)) → Read P (message.Repl k number nth d v)
unfolding spelling byte_field repl_at
read_repl P k number nth d v key h =
    let rest : List ℕ = number_field w32 number ++ (number_field w32 nth ++ (d ++ (version_field v ++ []))) in
    from_fields P 10 (key_field k ++ rest) repl_at refl
    (key_first (λ x. P x.0) k key rest _ (onward (λ x. P x.0) (number_at w32 positive rest) _ (λ i. onward (λ x. P x.0) (number_at w32 positive i.1) _ (λ j. onward (λ x. P x.0) (digest_at j.1) _ (λ e. onward (λ x. P x.0) (version_at e.1) _ (λ w. h i.0 j.0 e.0 w.0))))))

pub read_repl_ack : (P : Message → Type 0) (k : ClusterKey) (number : ℕ) → IsKeyOrNone k → ((i : ℕ) → P (message.ReplAck k i)) → Read P (message.ReplAck k number)
unfolding spelling byte_field repl_ack_at
read_repl_ack P k number key h =
    let rest : List ℕ = number_field w32 number ++ [] in
    from_fields P 11 (key_field k ++ rest) repl_ack_at refl (key_first (λ x. P x.0) k key rest _ (onward (λ x. P x.0) (number_at w32 positive rest) _ (λ i. h i.0)))

pub read_ask : (P : Message → Type 0) (k : ClusterKey) (number : ℕ) (d : List ℕ) → IsKeyOrNone k → ((i : ℕ) (e : List ℕ) → P (message.Ask k i e)) → Read P (message.Ask k number d)
unfolding spelling byte_field ask_at
read_ask P k number d key h =
    let rest : List ℕ = number_field w32 number ++ (d ++ []) in
    from_fields P 12 (key_field k ++ rest) ask_at refl (key_first (λ x. P x.0) k key rest _ (onward (λ x. P x.0) (number_at w32 positive rest) _ (λ i. onward (λ x. P x.0) (digest_at i.1) _ (λ e. h i.0 e.0))))

pub read_answer : (P : Message → Type 0) (k : ClusterKey) (number : ℕ) (v : Option Version) → IsKeyOrNone k
    → ((i : ℕ) (w : Option Version) → P (message.Answer k i w)) → Read P (message.Answer k number v)
unfolding spelling byte_field answer_at
read_answer P k number v key h =
    let rest : List ℕ = number_field w32 number ++ (option_version_field v ++ []) in
    from_fields P 13 (key_field k ++ rest) answer_at refl (key_first (λ x. P x.0) k key rest _ (onward (λ x. P x.0) (number_at w32 positive rest) _ (λ i. onward (λ x. P x.0) (option_version_at i.1) _ (λ w. h i.0 w.0))))

pub read_map_ask : (P : Message → Type 0) → P message.MapAsk → Read P message.MapAsk
unfolding spelling byte_field map_ask_at
read_map_ask P h = from_fields P 14 [] map_ask_at refl h

pub read_table : (P : Message → Type 0) (x : MapTable) → IsKeyOrNone x.key → ((y : MapTable) → y.key ≡ x.key → P (message.MapTable y)) → Read P (message.MapTable x)
unfolding spelling byte_field map_table_at
read_table P x key h =
    let rest : List ℕ = flat_map id_field x.ids ++ (bytes_of x.moved ++ []) in
    from_fields P 15 (key_field x.key ++ rest) map_table_at refl (key_first (λ x. P x.0) x.key key rest _ (onward (λ x. P x.0) (table_at rest) _ (λ i. onward (λ x. P x.0) (row_at i.1) _ (λ m. h _ refl))))

-- ---- rows

-- a number is read over its own bytes, whatever it is read as
number_first : {B : Type 0} (P : B → Type 0) (allowed : ℕ → Bool) (n : ℕ) (rest : List ℕ) (f : ℕ × List ℕ → Result B FieldFault) → ((x : ℕ) → IfRead P (f (x, rest))) → IfRead P (number_at w16 allowed (number_field w16 n ++ rest) >>= f)
unfolding number_at number_field field
number_first P allowed n rest f h = unless_short P (nat_lt (length (to_be_bytes w16 n ++ rest)) 2) (whole_field (length (to_be_bytes w16 n ++ rest)) (if_allowed allowed (from_be_bytes w16 (to_be_bytes w16 n))) rest) f (value (if_allowed allowed (from_be_bytes w16 (to_be_bytes w16 n))))
  where
    value : (o : Option ℕ) → IfRead P (whole_field (length (to_be_bytes w16 n ++ rest)) o rest >>= f)
    value (Some x) = h x
    value None = tt

pub count_first : {B : Type 0} (P : B → Type 0) (allowed : ℕ → Bool) (n : ℕ) (rest : List ℕ) (f : ℕ × List ℕ → Result B FieldFault) → ((x : ℕ) → IfRead P (f (x, rest))) → IfRead P (number_at w32 allowed (number_field w32 n ++ rest) >>= f)
unfolding number_at number_field field
count_first P allowed n rest f h = unless_short P (nat_lt (length (to_be_bytes w32 n ++ rest)) 4) (whole_field (length (to_be_bytes w32 n ++ rest)) (if_allowed allowed (from_be_bytes w32 (to_be_bytes w32 n))) rest) f (value (if_allowed allowed (from_be_bytes w32 (to_be_bytes w32 n))))
  where
    value : (o : Option ℕ) → IfRead P (whole_field (length (to_be_bytes w32 n ++ rest)) o rest >>= f)
    value (Some x) = h x
    value None = tt

pub byte_first : {B : Type 0} (P : B → Type 0) (allowed : ℕ → Bool) (n : ℕ) (rest : List ℕ) (f : ℕ × List ℕ → Result B FieldFault) → IfRead P (whole_field (length (n ∷ rest)) (if_allowed allowed n) rest >>= f) → IfRead P (byte_at allowed (n ∷ rest) >>= f)
unfolding byte_at field
byte_first P allowed n rest f h = unless_short P (nat_lt (length (n ∷ rest)) 1) (whole_field (length (n ∷ rest)) (if_allowed allowed n) rest) f h

-- the state of a copy is read under its own key
state_first : {B : Type 0} (P : B → Type 0) (Q : ClusterKey → Type 0) → ((k : ClusterKey) → Q k → IsKeyOrNone k) → (c : CopyState) → CopyOf Q c → (rest : List ℕ) (f : CopyState × List ℕ → Result B FieldFault)
    → ((d : CopyState) → CopyOf Q d → IfRead P (f (d, rest))) → IfRead P (state_at (state_field c ++ rest) >>= f)
unfolding state_at state_field
state_first P Q fields Empty q rest f h = nested P (byte_at (between 1 2) (0 ∷ rest)) (λ tag. whole_if tag.0 tag.1) f (byte_first P (between 1 2) 0 rest _ tt)
state_first P Q fields Part q rest f h = nested P (byte_at (between 1 2) (1 ∷ rest)) (λ tag. whole_if tag.0 tag.1) f (byte_first P (between 1 2) 1 rest _ (h Part tt))
state_first P Q fields (Whole k writes) q rest f h =
    let more : List ℕ = (key_field k ++ number_field w32 writes) ++ rest in
    let count : ClusterKey × List ℕ → Result (CopyState × List ℕ) FieldFault = λ key. number_at w32 every key.1 >>= λ writes. Ok (Whole key.0 writes.0, writes.1) in
    nested P (byte_at (between 1 2) (2 ∷ more)) (λ tag. whole_if tag.0 tag.1) f
    (byte_first P (between 1 2) 2 more _
    (nested P (key_at more) count f
    (subst (λ bytes. IfRead P (key_at bytes >>= λ x. count x >>= f)) (sym (append_assoc (key_field k) (number_field w32 writes) rest))
    (key_first P k (fields k q) (number_field w32 writes ++ rest) (λ x. count x >>= f)
    (nested P (number_at w32 every (number_field w32 writes ++ rest)) (λ w. Ok (Whole k w.0, w.1)) f
    (count_first P every writes rest _ (λ x. h (Whole k x) q)))))))

regrouped : (a b c d : List ℕ) → ((a ++ b) ++ c) ++ d ≡ a ++ (b ++ (c ++ d))
regrouped a b c d = append_assoc (a ++ b) c d ∙ append_assoc a b (c ++ d)

no_entry : (Q : ClusterKey → Type 0) (n : ℕ) (before : Option ℕ) → IfRead (λ (x : Row × List ℕ). RowOf Q x.0) (items_at entry_at with_entry (suc n) before [])
unfolding items_at entry_at number_at field
no_entry Q n before = tt

-- what is read of a row's entries is whole under their keys
entries_keep : (Q : ClusterKey → Type 0) → ((k : ClusterKey) → Q k → IsKeyOrNone k) → (row : Row) → RowOf Q row → (count : ℕ) (before : Option ℕ) → IfRead (λ (x : Row × List ℕ). RowOf Q x.0) (items_at entry_at with_entry count before (flat_map entry_field row ++ []))
unfolding items_at entry_at entry_field
entries_keep Q fields row q zero before = tt
entries_keep Q fields [] q (suc n) before = no_entry Q n before
entries_keep Q fields (e ∷ es) q (suc n) before =
    let rest : List ℕ = flat_map entry_field es ++ [] in
    let allowed : ℕ → Bool = λ p. nat_lt p partition_count && is_above before p in
    let P : Row × List ℕ → Type 0 = λ x. RowOf Q x.0 in
    let others : (ℕ × CopyState) × List ℕ → Result (Row × List ℕ) FieldFault = λ x. items_at entry_at with_entry n (with_entry before x.0) x.1 >>= λ xs. Ok (x.0 ∷ xs.0, xs.1) in
    let state : ℕ × List ℕ → Result ((ℕ × CopyState) × List ℕ) FieldFault = λ p. state_at p.1 >>= λ s. Ok ((p.0, s.0), s.1) in
    subst (λ bytes. IfRead P ((number_at w16 allowed bytes >>= state) >>= others)) (sym (regrouped (number_field w16 e.0) (state_field e.1) (flat_map entry_field es) []))
    (nested P (number_at w16 allowed (number_field w16 e.0 ++ (state_field e.1 ++ rest))) state others
    (number_first P allowed e.0 (state_field e.1 ++ rest) (λ x. state x >>= others)
    (λ p. nested P (state_at (state_field e.1 ++ rest)) (λ s. Ok ((p, s.0), s.1)) others
    (state_first P Q fields e.1 q.0 rest _
    (λ c h. with_read (λ (x : Row × List ℕ). RowOf Q x.0) P (items_at entry_at with_entry n (Some p) rest) _ (entries_keep Q fields es q.1 n (Some p)) (λ xs known. (h, known)))))))

row_keeps : (Q : ClusterKey → Type 0) → ((k : ClusterKey) → Q k → IsKeyOrNone k) → (row : Row) → RowOf Q row → IfRead (λ (x : Row × List ℕ). RowOf Q x.0) (state_row_at (state_row_field row ++ []))
unfolding state_row_at state_row_field
row_keeps Q fields row q =
    let P : Row × List ℕ → Type 0 = λ x. RowOf Q x.0 in
    subst (λ bytes. IfRead P (number_at w16 (between 0 4096) bytes >>= λ count. items_at entry_at with_entry count.0 None count.1)) (sym (append_assoc (number_field w16 (length row)) (flat_map entry_field row) []))
    (number_first P (between 0 4096) (length row) (flat_map entry_field row ++ []) _ (λ count. entries_keep Q fields row q count None))

pub read_state : (P : Message → Type 0) (Q : ClusterKey → Type 0) → ((k : ClusterKey) → Q k → IsKeyOrNone k) → (k : ClusterKey) (wants : Bool) (row : Row) → IsKeyOrNone k → RowOf Q row
    → ((w : Bool) (r : Row) → RowOf Q r → P (message.State k w r)) → Read P (message.State k wants row)
unfolding spelling byte_field state_message_at
read_state P Q fields k wants row key q h =
    let rest : List ℕ = state_row_field row ++ [] in
    from_fields P 6 (key_field k ++ (flag_field wants ++ rest)) state_message_at refl
    (key_first (λ x. P x.0) k key (flag_field wants ++ rest) _
    (subst (λ r. IfRead (λ (x : Message × List ℕ). P x.0) (r >>= λ w. (state_row_at w.1 >>= λ row. Ok (message.State k w.0 row.0, row.1)))) (sym (flag_form.again wants rest tt))
    (with_read (λ (x : Row × List ℕ). RowOf Q x.0) (λ (x : Message × List ℕ). P x.0) (state_row_at rest) _ (row_keeps Q fields row q) (λ r known. h wants r.0 known))))

-- ---- heartbeats

pub read_heartbeat : (P : Message → Type 0) (view promised : ClusterKey) (hears : List ℕ) (role : Role) → IsKeyOrNone view → IsKeyOrNone promised
    → ((h : List ℕ) (r : Role) → P (message.Heartbeat view promised h r)) → Read P (message.Heartbeat view promised hears role)
unfolding spelling byte_field heartbeat_at heartbeat_with_role_at
read_heartbeat P view promised hears role v p h = go (is_plain role)
  where
    plain : List ℕ
    plain = ids_field hears ++ []

    with_role : List ℕ
    with_role = ids_field hears ++ (role_field role ++ [])

    go : (b : Bool) → If P (message_of (concat (if b then byte_field 1 ∷ key_field view ∷ key_field promised ∷ ids_field hears ∷ [] else (byte_field 16 ∷ key_field view ∷ key_field promised ∷ ids_field hears ∷ role_field role ∷ []))))
    go true = from_fields P 1 (key_field view ++ (key_field promised ++ plain)) heartbeat_at refl
        (key_or_none_first (λ x. P x.0) view v (key_field promised ++ plain) _ (key_or_none_first (λ x. P x.0) promised p plain _ (onward (λ x. P x.0) (ids_at 0 15 plain) _ (λ i. h i.0 _))))
    go false = from_fields P 16 (key_field view ++ (key_field promised ++ with_role)) heartbeat_with_role_at refl
        (key_or_none_first (λ x. P x.0) view v (key_field promised ++ with_role) _ (key_or_none_first (λ x. P x.0) promised p with_role _ (onward (λ x. P x.0) (ids_at 0 15 with_role) _ (λ i. onward (λ x. P x.0) (role_at false i.1) _ (λ r. h i.0 r.0)))))

-- ---- lists of members

plain_rack : (role : Role) → is_plain role ≡ true → role.rack < 2 ^ 8
plain_rack role e = grind (arith, nat_tests)

plain_racks : (ms : List Member) → all_plain ms ≡ true → All (λ m. m.role.rack < 2 ^ 8) ms
plain_racks [] e = all_none (λ m. m.role.rack < 2 ^ 8)
plain_racks (m ∷ ms) e = all_cons (λ m. m.role.rack < 2 ^ 8) m ms (plain_rack m.role (left (is_plain m.role) (all_plain ms) e)) (plain_racks ms (right (is_plain m.role) (all_plain ms) e))
  where
    left : (a b : Bool) → (a && b) ≡ true → a ≡ true
    left true b e = refl
    left false b e = e

    right : (a b : Bool) → (a && b) ≡ true → b ≡ true
    right true b e = e
    right false b e = absurd (grind arith)

small_right : (xs ys : List ℕ) → Small (xs ++ ys) → Small ys
small_right [] ys h = h
small_right (x ∷ xs) ys h = small_right xs ys h.1

small_left : (xs ys : List ℕ) → Small (xs ++ ys) → Small xs
small_left [] ys h = tt
small_left (x ∷ xs) ys h = (h.0, small_left xs ys h.1)

role_rack : (role : Role) → Small (role_field role) → role.rack < 2 ^ 8
unfolding role_field
role_rack role h = h.0

written_racks : (ms : List Member) → Small (flat_map member_field ms) → All (λ m. m.role.rack < 2 ^ 8) ms
unfolding member_field
written_racks [] h = all_none (λ m. m.role.rack < 2 ^ 8)
written_racks (m ∷ ms) h =
    all_cons (λ m. m.role.rack < 2 ^ 8) m ms
    (role_rack m.role (small_right (id_field m.id) (role_field m.role) (small_left (id_field m.id ++ role_field m.role) (flat_map member_field ms) h)))
    (written_racks ms (small_right (id_field m.id ++ role_field m.role) (flat_map member_field ms) h))

-- a count of more members than a view has, or of none, isn't read
count_fails : (n : ℕ) (rest : List ℕ) → between 1 16 n ≡ false → (e : FieldFault) × (byte_at (between 1 16) (n ∷ rest) ≡ Err e)
unfolding byte_at field
count_fails n rest e = fails (nat_lt (length (n ∷ rest)) 1) (between 1 16 n) e
  where
    fails : (b c : Bool) → c ≡ false → (e : FieldFault) × ((if b then Err Short else whole_field (length (n ∷ rest)) (if c then Some n else None) (drop 1 (n ∷ rest))) ≡ Err e)
    fails true c e = (Short, refl)
    fails false true e = absurd (grind arith)
    fails false false e = (Bad (length (n ∷ rest)), refl)

plain_fails : {B : Type 0} (P : B → Type 0) (ms : List Member) (rest : List ℕ) (f : List Member × List ℕ → Result B FieldFault) → between 1 16 (length ms) ≡ false → IfRead P (plain_members_at (plain_members_field ms ++ rest) >>= f)
unfolding plain_members_at plain_members_field ids_at byte_field
plain_fails P ms rest f e =
    let c : (e : FieldFault) × (byte_at (between 1 16) (length ms ∷ (flat_map (λ m. id_field m.id) ms ++ rest)) ≡ Err e) = count_fails (length ms) (flat_map (λ m. id_field m.id) ms ++ rest) e in
    rw c.1 tt

members_fail : {B : Type 0} (P : B → Type 0) (ms : List Member) (rest : List ℕ) (f : List Member × List ℕ → Result B FieldFault) → between 1 16 (length ms) ≡ false → IfRead P (members_at (members_field ms ++ rest) >>= f)
unfolding members_at members_field byte_field
members_fail P ms rest f e =
    let c : (e : FieldFault) × (byte_at (between 1 16) (length ms ∷ (flat_map member_field ms ++ rest)) ≡ Err e) = count_fails (length ms) (flat_map member_field ms ++ rest) e in
    rw c.1 tt

written_in : (kind : ℕ) (k : ClusterKey) (ms : List Member) → Small (concat (byte_field kind ∷ key_field k ∷ members_field ms ∷ [])) → Small (flat_map member_field ms)
unfolding members_field byte_field
written_in kind k ms h = small_left (flat_map member_field ms) [] (small_right (key_field k) (length ms ∷ (flat_map member_field ms ++ [])) h.1).1

-- the racks of members whose spelling is of bytes
racks_of : (plain_kind kind : ℕ) (k : ClusterKey) (ms : List Member) → Small (concat (view_fields plain_kind kind k ms)) → All (λ m. m.role.rack < 2 ^ 8) ms
racks_of plain_kind kind k ms h = go (all_plain ms) refl h
  where
    go : (b : Bool) → all_plain ms ≡ b → Small (concat (if b then byte_field plain_kind ∷ key_field k ∷ plain_members_field ms ∷ [] else (byte_field kind ∷ key_field k ∷ members_field ms ∷ []))) → All (λ m. m.role.rack < 2 ^ 8) ms
    go true e h = plain_racks ms e
    go false e h = written_racks ms (written_in kind k ms h)

within : (n : ℕ) → between 1 16 n ≡ true → (0 < n) × (n ≤ 16)
within n e = (first, second)
  where
    first : 0 < n
    first = grind (arith, nat_tests)

    second : n ≤ 16
    second = grind (arith, nat_tests)

members_fit : (n : ℕ) (ms : List Member) → GoodList n ms → All (λ m. m.role.rack < 2 ^ 8) ms → between 1 16 (length ms) ≡ true → AreMembersField ms
members_fit n ms good rack e = record {
  view = record { some = (within (length ms) e).0; limit = (within (length ms) e).1; descending = good.falls };
  fit = λ i d lt. record { id = good.fit i d lt; rack = rack i d lt };
}

-- ---- proposals and commits

pub read_propose : (P : Message → Type 0) (k : ClusterKey) (ms : List Member) (n : ℕ) → IsKeyField k → GoodList n ms → P (message.Propose k ms) → Read P (message.Propose k ms)
unfolding spelling byte_field propose_at propose_with_roles_at message_of
read_propose P k ms n key good h = go (between 1 16 (length ms)) refl (are_bytes (spelling (message.Propose k ms))) refl
  where
    many : between 1 16 (length ms) ≡ false → (b : Bool) → If P (message_of (concat (if b then byte_field 2 ∷ key_field k ∷ plain_members_field ms ∷ [] else (byte_field 17 ∷ key_field k ∷ members_field ms ∷ []))))
    many e true = from_fields P 2 (key_field k ++ (plain_members_field ms ++ [])) propose_at refl (key_first (λ x. P x.0) k (inr key) (plain_members_field ms ++ []) _ (plain_fails (λ x. P x.0) ms [] _ e))
    many e false = from_fields P 17 (key_field k ++ (members_field ms ++ [])) propose_with_roles_at refl (key_first (λ x. P x.0) k (inr key) (members_field ms ++ []) _ (members_fail (λ x. P x.0) ms [] _ e))

    go : (c : Bool) → between 1 16 (length ms) ≡ c → (b : Bool) → are_bytes (spelling (message.Propose k ms)) ≡ b → Read P (message.Propose k ms)
    go false e b u = many e (all_plain ms)
    go true e false u = subst (λ c. If P (if c then result_ok (decoded (spelling (message.Propose k ms))) else None)) (sym u) tt
    go true e true u = subst (λ o. If P o) (sym (read_back (message.Propose k ms) (key, members_fit n ms good (racks_of 2 17 k ms (are_small _ u)) e))) h

pub read_commit : (P : Message → Type 0) (k : ClusterKey) (ms : List Member) (n : ℕ) → IsKeyField k → GoodList n ms → P (message.Commit k ms) → Read P (message.Commit k ms)
unfolding spelling byte_field commit_at commit_with_roles_at message_of
read_commit P k ms n key good h = go (between 1 16 (length ms)) refl (are_bytes (spelling (message.Commit k ms))) refl
  where
    many : between 1 16 (length ms) ≡ false → (b : Bool) → If P (message_of (concat (if b then byte_field 5 ∷ key_field k ∷ plain_members_field ms ∷ [] else (byte_field 18 ∷ key_field k ∷ members_field ms ∷ []))))
    many e true = from_fields P 5 (key_field k ++ (plain_members_field ms ++ [])) commit_at refl (key_first (λ x. P x.0) k (inr key) (plain_members_field ms ++ []) _ (plain_fails (λ x. P x.0) ms [] _ e))
    many e false = from_fields P 18 (key_field k ++ (members_field ms ++ [])) commit_with_roles_at refl (key_first (λ x. P x.0) k (inr key) (members_field ms ++ []) _ (members_fail (λ x. P x.0) ms [] _ e))

    go : (c : Bool) → between 1 16 (length ms) ≡ c → (b : Bool) → are_bytes (spelling (message.Commit k ms)) ≡ b → Read P (message.Commit k ms)
    go false e b u = many e (all_plain ms)
    go true e false u = subst (λ c. If P (if c then result_ok (decoded (spelling (message.Commit k ms))) else None)) (sym u) tt
    go true e true u = subst (λ o. If P o) (sym (read_back (message.Commit k ms) (key, members_fit n ms good (racks_of 5 18 k ms (are_small _ u)) e))) h

-- ---- kinds of the agreement, whatever they carry

pub any_propose : (P : Message → Type 0) (k : ClusterKey) (ms : List Member) → ((q : ClusterKey) (xs : List Member) → P (message.Propose q xs)) → Read P (message.Propose k ms)
unfolding spelling byte_field propose_at propose_with_roles_at
any_propose P k ms h = go (all_plain ms)
  where
    go : (b : Bool) → If P (message_of (concat (if b then byte_field 2 ∷ key_field k ∷ plain_members_field ms ∷ [] else (byte_field 17 ∷ key_field k ∷ members_field ms ∷ []))))
    go true =
        from_fields P 2 (key_field k ++ (plain_members_field ms ++ [])) propose_at refl
        (onward (λ x. P x.0) (key_at (key_field k ++ (plain_members_field ms ++ []))) _ (λ q. onward (λ x. P x.0) (plain_members_at q.1) _ (λ xs. h q.0 xs.0)))
    go false =
        from_fields P 17 (key_field k ++ (members_field ms ++ [])) propose_with_roles_at refl
        (onward (λ x. P x.0) (key_at (key_field k ++ (members_field ms ++ []))) _ (λ q. onward (λ x. P x.0) (members_at q.1) _ (λ xs. h q.0 xs.0)))

pub any_commit : (P : Message → Type 0) (k : ClusterKey) (ms : List Member) → ((q : ClusterKey) (xs : List Member) → P (message.Commit q xs)) → Read P (message.Commit k ms)
unfolding spelling byte_field commit_at commit_with_roles_at
any_commit P k ms h = go (all_plain ms)
  where
    go : (b : Bool) → If P (message_of (concat (if b then byte_field 5 ∷ key_field k ∷ plain_members_field ms ∷ [] else (byte_field 18 ∷ key_field k ∷ members_field ms ∷ []))))
    go true =
        from_fields P 5 (key_field k ++ (plain_members_field ms ++ [])) commit_at refl
        (onward (λ x. P x.0) (key_at (key_field k ++ (plain_members_field ms ++ []))) _ (λ q. onward (λ x. P x.0) (plain_members_at q.1) _ (λ xs. h q.0 xs.0)))
    go false =
        from_fields P 18 (key_field k ++ (members_field ms ++ [])) commit_with_roles_at refl
        (onward (λ x. P x.0) (key_at (key_field k ++ (members_field ms ++ []))) _ (λ q. onward (λ x. P x.0) (members_at q.1) _ (λ xs. h q.0 xs.0)))
