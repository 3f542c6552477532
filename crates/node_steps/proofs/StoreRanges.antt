-- What a node holds keeps its ranges as records and writes come, and as copies go.
use Rattle.std.proofs.Common.{◌≡◌, ◌==◌, ℕ, zero, suc, ◌+◌, ◌<◌, ◌^◌, Bool, true, false, cond, not, ◌&&◌, List, [], ◌∷◌, length, get_or, Option, Some, None, IsSome, All, refl, sym, ap, ap₂, subst, ◌∙◌, arith}
use Rattle.std.proofs.lemmas.Bool.{and_parts}
use Rattle.std.proofs.lemmas.Cmp.{nat_cmp_total, nat_list_cmp_total, tied_itself}
use Rattle.std.proofs.lemmas.List.Elements.{All-append, All-cons, All-head, All-nil, All-tail}
use Rattle.std.proofs.lemmas.List.FromFn.{get_or-range_with_len}
use Rattle.std.proofs.lemmas.List.Folds.{Any-from_list_any, list_any_at}
use Rattle.std.specs.Cmp.Lexicographic.{bytes_decides}
use Rattle.std.specs.FinMap as finite
use Rattle.std.specs.FinMap.{contains_key-keys}
use Rattle.std.specs.FinMap.Entries.{find-put}
use Rattle.std.specs.List.{range_with_len}
use Rattle.std.specs.Option.{ForSome}
use Rattle.std.specs.Ordering.{eq_by_cmp, is_eq, is_gt, nat_cmp}
use Rattle.std.specs.Prelude.{is_some, nat_lt, unwrap_or, if◌then◌else◌}
use Rattle.std.specs.declared.cmp.Ordering.{Ordering}
use Rattle.std.specs.declared.cmp.Ordering.TheVariants.{Equal, Greater, Less}
use Rattle.cluster_types.specs.Partitions.{partition_of}
use Rattle.cluster_types.specs.declared.cluster_key.ClusterKey.{ClusterKey}
use Rattle.conflict_order.proofs.JoinLaws.{kept_newer, kept_not_newer}
use Rattle.conflict_order.specs.Join.{join, kept}
use Rattle.conflict_order.specs.Order.{is_newer, version_cmp}
use Rattle.conflict_order.specs.declared.policy.Policy.{Policy}
use Rattle.conflict_order.specs.declared.version.Version.{Version}
use Rattle.node_rules.specs.Copies.{Content, Stamp, Stamps, Store, dropping, is_of, joined}
use Rattle.node_rules.specs.Facts.{Facts, list_at}
use Rattle.node_rules.specs.Keys.{same_key}
use Rattle.node_rules.specs.Merging.{Record, is_newer_than_held, joined_all, newer_records, spoiled_all, spoiled_at, store_merged_all}
use Rattle.node_rules.specs.Notes.{count_in, stamped_at}
use Rattle.node_rules.specs.Stamps.{Numbers, Writes, applies_at, applying, changed_stamps, count_at, count_of, have_no_gap, hearing_write, no_class, numbers_at, recounted, spoiled, stamped_with, store_applied, store_counted, store_learnt, store_merged, with_number}
use Rattle.node_rules.specs.Standing.{is_all_empty, is_master, is_own_replica}
use Rattle.node_rules.specs.Tables.{Table, at, table_with, only_if}
use Rattle.node_view.specs.Counts.{greatest_count}
use Rattle.partition_lists.proofs.InOrderLaws.{from_equal}
use Rattle.record_store.proofs.CopyLaws.{digest_cmp, same_digest}
use Rattle.wire_messages.specs.Keys.{IsKeyField}
use Rattle.wire_messages.specs.Numbers.{IsNumber}
use Rattle.wire_messages.specs.Versions.{IsDigest, IsOptionVersion, IsRecord, IsVersion}
use Rattle.node_rules.specs.ViewNotes.{stamped_from}
use Rattle.node_steps.specs.Ranges.{AreCounted, IsStampField, IsStoreField}

-- ---- versions

kept_version : (by : Policy) (o : Option Version) (v : Version) → ForSome o IsVersion → IsVersion v → IsVersion (kept by o v)
kept_version by o v h fit = go (is_newer by v o) refl
  where
    go : (b : Bool) → is_newer by v o ≡ b → IsVersion (kept by o v)
    go true is = subst IsVersion (sym (kept_newer by o v is)) fit
    go false is = h (kept by o v) (sym (kept_not_newer by o v is))

pub joined_version : (by : Policy) (a b : Option Version) → IsOptionVersion a → IsOptionVersion b → IsOptionVersion (join by a b)
unfolding join
joined_version by None b x y = y
joined_version by (Some v) None x y = x
joined_version by (Some v) (Some w) x y = go (is_gt (version_cmp by w v))
  where
    go : (b : Bool) → IsVersion (cond b w v)
    go true = y
    go false = x

-- ---- contents

-- what is held has a spelling
pub record IsContentField (c : Content) : Type 0 where
  pub digest : (d : List ℕ) → IsSome (finite.get c d) → IsDigest d
  pub version : (d : List ℕ) → ForSome (finite.get c d) IsVersion

-- each stamp has one
abbrev pub AreStampFields : Stamps → Type 0
AreStampFields stamps = (p : ℕ) → ForSome (finite.get stamps p) IsStampField

equal_is : (o : Ordering) → is_eq o ≡ true → o ≡ Equal
equal_is Less e = cc
equal_is Equal e = refl
equal_is Greater e = cc

same_from : (d e : List ℕ) → eq_by_cmp digest_cmp d e ≡ true → d ≡ e
same_from d e tied = same_digest d e (equal_is (digest_cmp d e) tied)

-- what holds of each key holds of each digest that is held
of_held : (P : List ℕ → Type 0) (c : Content) (d : List ℕ) → All P (finite.keys c) → IsSome (finite.get c d) → P d
of_held P c d h held =
    let any = Any-from_list_any (eq_by_cmp digest_cmp d) (finite.keys c) (sym (contains_key-keys c d) ∙ held) in
    subst P (sym (same_from d any.1 any.4)) (subst P any.3 (h any.0 any.1 any.2))

-- each key is held
pub keys_held : (c : Content) → All (λ d. IsSome (finite.get c d)) (finite.keys c)
keys_held c k d within =
    let key : List ℕ = get_or (finite.keys c) k d in
    contains_key-keys c key ∙ list_any_at (eq_by_cmp digest_cmp key) (finite.keys c) k d within (ap is_eq (tied_itself nat_list_cmp_total key))

pub content_fits : (s : Store) → IsStoreField s → IsContentField s.content
content_fits s h = record { digest = λ d held. of_held IsDigest s.content d h.digests held; version = h.versions }

pub store_fits : (s : Store) → IsContentField s.content → AreStampFields s.stamps → IsStoreField s
store_fits s h stamps = record {
  digests = λ k d within. h.digest (get_or (finite.keys s.content) k d) (keys_held s.content k d within);
  versions = h.version;
  stamps = stamps;
}

-- a version comes
pub content_joined : (by : Policy) (c : Content) (d : List ℕ) (v : Version) → IsDigest d → IsVersion v → IsContentField c → IsContentField (joined by c d v)
content_joined by c d v digest version h = record {
  digest = λ e held. digest_at e (eq_by_cmp digest_cmp e d) refl (sym (ap is_some (read e)) ∙ held);
  version = λ e. subst (λ (o : Option Version). ForSome o IsVersion) (sym (read e)) (version_at e (eq_by_cmp digest_cmp e d));
}
  where
    new : Version
    new = kept by (finite.get c d) v

    read : (e : List ℕ) → finite.get (joined by c d v) e ≡ cond (eq_by_cmp digest_cmp e d) (Some new) (finite.get c e)
    read e = finite.get-insert nat_list_cmp_total c d new e

    digest_at : (e : List ℕ) (b : Bool) → eq_by_cmp digest_cmp e d ≡ b → is_some (cond b (Some new) (finite.get c e)) ≡ true → IsDigest e
    digest_at e true same held = subst IsDigest (sym (same_from e d same)) digest
    digest_at e false other held = h.digest e held

    new_fits : IsVersion new
    new_fits = kept_version by (finite.get c d) v (h.version d) version

    version_at : (e : List ℕ) (b : Bool) → ForSome (cond b (Some new) (finite.get c e)) IsVersion
    version_at e true x is = let same : new ≡ x = cc in subst IsVersion same new_fits
    version_at e false x is = h.version e x is

-- a copy goes
pub content_dropped : (c : Content) (p : ℕ) → IsContentField c → IsContentField (finite.retain_keys c (λ d. not (is_of p d)))
content_dropped c p h = record {
  digest = λ d held. digest_at d (not (is_of p d)) (sym (ap is_some (read d)) ∙ held);
  version = λ d. subst (λ (o : Option Version). ForSome o IsVersion) (sym (read d)) (version_at d (not (is_of p d)));
}
  where
    read : (d : List ℕ) → finite.get (finite.retain_keys c (λ e. not (is_of p e))) d ≡ cond (not (is_of p d)) (finite.get c d) None
    read d = finite.get-retain_keys c (λ e. not (is_of p e)) d (λ e tied. ap (λ (x : List ℕ). not (is_of p x)) (sym (same_digest d e tied)))

    digest_at : (d : List ℕ) (b : Bool) → is_some (cond b (finite.get c d) None) ≡ true → IsDigest d
    digest_at d true held = h.digest d held
    digest_at d false held = cc

    version_at : (d : List ℕ) (b : Bool) → ForSome (cond b (finite.get c d) None) IsVersion
    version_at d true v is = h.version d v is
    version_at d false v is = cc

-- records come
pub content_joined_all : (by : Policy) (rs : List Record) (c : Content) → All IsRecord rs → IsContentField c → IsContentField (joined_all by c rs)
content_joined_all by [] c fit h = h
content_joined_all by (r ∷ rs) c fit h =
    let first : IsRecord r = All-head IsRecord r rs fit in
    content_joined_all by rs (joined by c r.0 r.1) (All-tail IsRecord r rs fit) (content_joined by c r.0 r.1 first.digest first.version h)

-- what holds of each record holds of each that is newer
pub of_newer : (P : Record → Type 0) (by : Policy) (rs : List Record) (c : Content) → All P rs → All P (newer_records by c rs)
of_newer P by [] c h = All-nil P
of_newer P by (r ∷ rs) c h =
    let newer : Bool = is_newer_than_held by c r in
    All-append P (only_if r newer) (newer_records by (if newer then joined by c r.0 r.1 else c) rs) (one newer) (of_newer P by rs (if newer then joined by c r.0 r.1 else c) (All-tail P r rs h))
  where
    one : (b : Bool) → All P (only_if r b)
    one true = All-cons P r [] (All-head P r rs h) (All-nil P)
    one false = All-nil P

-- ---- counts

length_fits : (ns : Numbers) → ns ≡ range_with_len 1 (length ns) → All IsNumber ns → length ns < 2 ^ 32
length_fits [] is h = omega arith
length_fits (n ∷ ns) is h =
    let last : get_or (n ∷ ns) (length ns) 0 ≡ 1 + length ns = ap (λ (xs : Numbers). get_or xs (length ns) 0) is ∙ get_or-range_with_len 1 (suc (length ns)) (length ns) 0 (omega arith) in
    let number : IsNumber (get_or (n ∷ ns) (length ns) 0) = h (length ns) 0 (omega arith) in
    omega (arith, number.fits, last)

count_of_fits : (ns : Numbers) → All IsNumber ns → count_of ns < 2 ^ 32
count_of_fits ns h = go (have_no_gap ns) refl
  where
    go : (b : Bool) → have_no_gap ns ≡ b → cond b (length ns) no_class < 2 ^ 32
    go true all = length_fits ns ((bytes_decides ns (range_with_len 1 (length ns))).0 all) h
    go false some = omega arith

-- what a stamp counts has a spelling
pub count_fits : (w : Writes) (is_master : Bool) (p : ℕ) → AreCounted w → count_at w is_master p < 2 ^ 32
count_fits w true p h = h.applies p
count_fits w false p h = count_of_fits (numbers_at w p) (h.numbers p)

-- what holds of each entry holds of it too once there is another one at a number
with_entry_too : {X : Type 0} (P : X → Type 0) (table : Table X) (p : ℕ) (x d : X) → P x → ((q : ℕ) → P (unwrap_or (at table q) d)) → (q : ℕ) → P (unwrap_or (at (table_with table p x) q) d)
with_entry_too {X} P table p x d new h q = subst (λ (o : Option X). P (unwrap_or o d)) (sym (find-put nat_cmp nat_cmp_total q p x table)) (go (eq_by_cmp nat_cmp q p))
  where
    go : (b : Bool) → P (unwrap_or (cond b (Some x) (at table q)) d)
    go true = new
    go false = h q

-- the node applies one more
pub applying_counted : (w : Writes) (p : ℕ) → applies_at w p < greatest_count → AreCounted w → AreCounted (applying w p)
applying_counted w p limit h = record { applies = with_entry_too (λ n. n < 2 ^ 32) w.applies p (applies_at w p + 1) 0 (omega (arith, limit)) h.applies; numbers = h.numbers }

with_number_too : (P : ℕ → Type 0) (ns : Numbers) (n : ℕ) → P n → All P ns → All P (with_number ns n)
with_number_too P [] n new h = All-cons P n [] new h
with_number_too P (m ∷ ms) n new h = go (n == m) (nat_lt n m) (with_number_too P ms n new (All-tail P m ms h))
  where
    go : (a b : Bool) → All P (with_number ms n) → All P (cond a (m ∷ ms) (cond b (n ∷ m ∷ ms) (m ∷ with_number ms n)))
    go true b rest = h
    go false true rest = All-cons P n (m ∷ ms) new h
    go false false rest = All-cons P m (with_number ms n) (All-head P m ms h) rest

-- a write of the list master comes
pub hearing_counted : (w : Writes) (p nth : ℕ) → IsNumber nth → AreCounted w → AreCounted (hearing_write w p nth)
hearing_counted w p nth number h = record {
  applies = h.applies;
  numbers = with_entry_too (All IsNumber) w.numbers p (with_number (numbers_at w p) nth) [] (with_number_too IsNumber (numbers_at w p) nth number (h.numbers p)) h.numbers;
}

-- ---- stamps

-- a copy has that stamp
pub stamp_put : (stamps : Stamps) (p : ℕ) (x : Stamp) → IsStampField x → AreStampFields stamps → AreStampFields (finite.insert stamps p x)
stamp_put stamps p x new h q = subst (λ (o : Option Stamp). ForSome o IsStampField) (sym (finite.get-insert nat_cmp_total stamps p x q)) (go (eq_by_cmp nat_cmp q p))
  where
    go : (b : Bool) → ForSome (cond b (Some x) (finite.get stamps q)) IsStampField
    go true s is = let same : x ≡ s = cc in subst IsStampField same new
    go false s is = h q s is

-- a stamp goes
pub stamp_removed : (stamps : Stamps) (p : ℕ) → AreStampFields stamps → AreStampFields (finite.remove stamps p)
stamp_removed stamps p h q = subst (λ (o : Option Stamp). ForSome o IsStampField) (sym (finite.get-remove nat_cmp_total stamps p q)) (go (eq_by_cmp nat_cmp q p))
  where
    go : (b : Bool) → ForSome (cond b None (finite.get stamps q)) IsStampField
    go true s is = cc
    go false s is = h q s is

stamp_changed : (stamps : Stamps) (p : ℕ) (change : Stamp → Stamp) → ((x : Stamp) → IsStampField x → IsStampField (change x)) → AreStampFields stamps
    → AreStampFields (changed_stamps stamps p change (finite.get stamps p))
stamp_changed stamps p change fits h = go (finite.get stamps p) refl
  where
    go : (o : Option Stamp) → finite.get stamps p ≡ o → AreStampFields (changed_stamps stamps p change o)
    go None is = h
    go (Some x) is = stamp_put stamps p (change x) (fits x (h p x is)) h

same_key_is : (a b : ClusterKey) → same_key a b ≡ true → a ≡ b
same_key_is a b is =
    let both = and_parts (a.round == b.round) (a.principal == b.principal) is in
    ap₂ (λ (round principal : ℕ). record { round = round; principal = principal }) (from_equal a.round b.round both.0) (from_equal a.principal b.principal both.1)

recounted_fits : (key : ClusterKey) (count : ℕ) (x : Stamp) → count < 2 ^ 32 → IsStampField x → IsStampField (recounted key count x)
recounted_fits key count x limit h = go (same_key x.0 key) refl
  where
    go : (b : Bool) → same_key x.0 key ≡ b → IsStampField (cond b (key, count) x)
    go true is = record { key = subst IsKeyField (same_key_is x.0 key is) h.key; writes = limit }
    go false is = h

spoiled_fits : (key : ClusterKey) (x : Stamp) → IsStampField x → IsStampField (spoiled key x)
spoiled_fits key x h = go (same_key x.0 key)
  where
    go : (b : Bool) → IsStampField (cond b x (x.0, no_class))
    go true = h
    go false = record { key = h.key; writes = omega arith }

stamps_spoiled : (key : ClusterKey) (rs : List Record) (stamps : Stamps) → AreStampFields stamps → AreStampFields (spoiled_all key stamps rs)
stamps_spoiled key [] stamps h = h
stamps_spoiled key (r ∷ rs) stamps h = stamps_spoiled key rs (spoiled_at key stamps r) (stamp_changed stamps (partition_of r.0) (spoiled key) (spoiled_fits key) h)

stamped_if_fits : (key : ClusterKey) (count p : ℕ) (stamps : Stamps) (b : Bool) → IsKeyField key → count < 2 ^ 32 → AreStampFields stamps → AreStampFields (stamped_with key count p stamps b)
stamped_if_fits key count p stamps true k limit h = stamp_put stamps p (key, count) (record { key = k; writes = limit }) h
stamped_if_fits key count p stamps false k limit h = h

-- copies that are empty everywhere are stamped
pub stamped_fits : (f : Facts) (key : ClusterKey) (n p : ℕ) (stamps : Stamps) → IsKeyField key → AreCounted f.writes → AreStampFields stamps → AreStampFields (stamped_from f key stamps n p)
unfolding stamped_from
stamped_fits f key zero p stamps k counted h = h
stamped_fits f key (suc n) p stamps k counted h =
    let l : List ℕ = list_at f p in
    stamped_fits f key n (p + 1) (stamped_at f key l p stamps) k counted
    (stamped_if_fits key (count_in f l p) p stamps (is_all_empty f p && is_own_replica f l) k (count_fits f.writes (is_master f l) p counted) h)

-- ---- stores

-- a write of the list master counts
pub store_is_counted : (s : Store) (key : ClusterKey) (p count : ℕ) → count < 2 ^ 32 → IsStoreField s → IsStoreField (store_counted s key p count)
store_is_counted s key p count limit h =
    store_fits (store_counted s key p count) (content_fits s h) (stamp_changed s.stamps p (recounted key count) (λ x fit. recounted_fits key count x limit fit) h.stamps)

-- a newer version comes from another node
pub store_is_merged : (s : Store) (key : ClusterKey) (d : List ℕ) (v : Version) → IsDigest d → IsVersion v → IsStoreField s → IsStoreField (store_merged s key d v)
store_is_merged s key d v digest version h =
    store_fits (store_merged s key d v) (content_joined s.by s.content d v digest version (content_fits s h)) (stamp_changed s.stamps (partition_of d) (spoiled key) (spoiled_fits key) h.stamps)

-- the node applies a write
pub store_is_applied : (s : Store) (key : ClusterKey) (d : List ℕ) (v : Version) (count : ℕ) → IsDigest d → IsVersion v → count < 2 ^ 32 → IsStoreField s → IsStoreField (store_applied s key d v count)
store_is_applied s key d v count digest version limit h =
    store_fits (store_applied s key d v count) (content_joined s.by s.content d v digest version (content_fits s h))
    (stamp_changed s.stamps (partition_of d) (λ x. recounted key count (spoiled key x)) (λ x fit. recounted_fits key count (spoiled key x) limit (spoiled_fits key x fit)) h.stamps)

-- the copy is whole under the key
pub store_is_learnt : (s : Store) (key : ClusterKey) (p count : ℕ) → IsKeyField key → count < 2 ^ 32 → IsStoreField s → IsStoreField (store_learnt s key p count)
store_is_learnt s key p count k limit h = store_fits (store_learnt s key p count) (content_fits s h) (stamp_put s.stamps p (key, count) (record { key = k; writes = limit }) h.stamps)

-- a copy goes
pub store_is_dropped : (s : Store) (p : ℕ) → IsStoreField s → IsStoreField (dropping s p)
store_is_dropped s p h = store_fits (dropping s p) (content_dropped s.content p (content_fits s h)) (stamp_removed s.stamps p h.stamps)

-- newer records come from another node
pub store_is_merged_all : (s : Store) (key : ClusterKey) (rs : List Record) → All IsRecord rs → IsStoreField s → IsStoreField (store_merged_all s key rs)
store_is_merged_all s key rs fit h = store_fits (store_merged_all s key rs) (content_joined_all s.by rs s.content fit (content_fits s h)) (stamps_spoiled key rs s.stamps h.stamps)
