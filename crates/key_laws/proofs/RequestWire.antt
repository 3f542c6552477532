-- What the messages of requests and scans are read as, if they are read: each as one of its kind, with its key. For steps of
-- nodes that have requests of others, and of the client.
use Rattle.std.proofs.Common.{◌≡◌, ℕ, Bool, nat_lt, true, false, List, [], ◌++◌, Result, Option, Some, None, refl, sym, subst}
use Rattle.std.specs.Int.{w16, w32}
use Rattle.conflict_order.specs.declared.want.Want.{Want}
use Rattle.cluster_types.specs.declared.cluster_key.ClusterKey.{ClusterKey}
use Rattle.cluster_types.specs.Partitions.{partition_count}
use Rattle.wire_messages.specs.declared.message.Message.{Message}
use Rattle.wire_messages.specs.declared.message.Message.TheVariants as message
use Rattle.wire_messages.specs.declared.fault.FieldFault.{FieldFault}
use Rattle.wire_messages.specs.declared.reply.ReplyBody.{ReplyBody}
use Rattle.wire_messages.specs.declared.reply.ReplyBody.TheVariants as reply
use Rattle.wire_messages.specs.declared.scan.ScanPage.{ScanPage}
use Rattle.wire_messages.specs.declared.scan.ScanRefusal.{ScanRefusal}
use Rattle.wire_messages.specs.declared.scan.ScanRefusal.TheVariants as unserved
use Rattle.wire_messages.specs.Decoding.{message_of}
use Rattle.wire_messages.specs.Fields.{◌>>=◌}
use Rattle.wire_messages.specs.Keys.{is_none, IsKeyOrNone, key_field}
use Rattle.wire_messages.specs.Kinds.{proxy_at, proxy_reply_at, call_at, reply_message_at, scan_ask_at, scan_page_at, scan_no_at}
use Rattle.wire_messages.specs.Nodes.{IsId, id_at, id_field}
use Rattle.wire_messages.specs.Numbers.{between, positive, every, number_at, number_field, flag_at, flag_field, byte_field}
use Rattle.wire_messages.specs.Requests.{is_reply_tag, want_at, want_field, reply_at, reply_field, refusal_at, refusal_field}
use Rattle.wire_messages.specs.Spelling.{spelling}
use Rattle.wire_messages.specs.Versions.{digest_at, option_digest_at, option_digest_field, records_at, records_field, version_at, version_field}
use Rattle.wire_messages.proofs.NodeForms.{id_form}
use Rattle.key_laws.specs.Ends.{ReplyNames, ScanCauseNames, Tells, TellsIf}
use Rattle.key_laws.proofs.Wire.{If, IfRead, Read, byte_first, count_first, from_fields, key_first, key_or_none_first, onward, with_read}

-- ---- requests that are passed on, and their replies

pub read_proxy : (P : Message → Type 0) (k : ClusterKey) (number : ℕ) (d : List ℕ) (w : Want) → IsKeyOrNone k → ((i : ℕ) (e : List ℕ) (q : Want) → P (message.Proxy k i e q)) → Read P (message.Proxy k number d w)
unfolding spelling byte_field proxy_at
read_proxy P k number d w key h =
    let rest : List ℕ = number_field w32 number ++ (d ++ (want_field w ++ [])) in
    from_fields P 19 (key_field k ++ rest) proxy_at refl
    (key_first (λ x. P x.0) k key rest _ (onward (λ x. P x.0) (number_at w32 positive rest) _ (λ i. onward (λ x. P x.0) (digest_at i.1) _ (λ e. onward (λ x. P x.0) (want_at e.1) _ (λ q. h i.0 e.0 q.0)))))

pub read_proxy_reply : (P : Message → Type 0) (k : ClusterKey) (number : ℕ) (b : ReplyBody) → IsKeyOrNone k → ((i : ℕ) (c : ReplyBody) → P (message.ProxyReply k i c)) → Read P (message.ProxyReply k number b)
unfolding spelling byte_field proxy_reply_at
read_proxy_reply P k number b key h =
    let rest : List ℕ = number_field w32 number ++ (reply_field b ++ []) in
    from_fields P 20 (key_field k ++ rest) proxy_reply_at refl
    (key_first (λ x. P x.0) k key rest _ (onward (λ x. P x.0) (number_at w32 positive rest) _ (λ i. onward (λ x. P x.0) (reply_at false i.1) _ (λ c. h i.0 c.0))))

-- ---- requests of the client, and their replies

pub read_call : (P : Message → Type 0) (number : ℕ) (d : List ℕ) (w : Want) → ((i : ℕ) (e : List ℕ) (q : Want) → P (message.Call i e q)) → Read P (message.Call number d w)
unfolding spelling byte_field call_at
read_call P number d w h =
    let fields : List ℕ = number_field w32 number ++ (d ++ (want_field w ++ [])) in
    from_fields P 21 fields call_at refl
    (onward (λ x. P x.0) (number_at w32 positive fields) _ (λ i. onward (λ x. P x.0) (digest_at i.1) _ (λ e. onward (λ x. P x.0) (want_at e.1) _ (λ q. h i.0 e.0 q.0))))

pub read_reply : (P : Message → Type 0) (k : ClusterKey) (number : ℕ) (b : ReplyBody) → IsKeyOrNone k → ((i : ℕ) (c : ReplyBody) → P (message.Reply k i c)) → Read P (message.Reply k number b)
unfolding spelling byte_field reply_message_at
read_reply P k number b key h =
    let rest : List ℕ = number_field w32 number ++ (reply_field b ++ []) in
    from_fields P 22 (key_field k ++ rest) reply_message_at refl
    (key_or_none_first (λ x. P x.0) k key rest _ (onward (λ x. P x.0) (number_at w32 positive rest) _ (λ i. onward (λ x. P x.0) (reply_at (is_none k) i.1) _ (λ c. h i.0 c.0))))

-- ---- scans

pub read_scan_ask : (P : Message → Type 0) (s p : ℕ) (after : Option (List ℕ)) → ((i j : ℕ) (d : Option (List ℕ)) → P (message.ScanAsk i j d)) → Read P (message.ScanAsk s p after)
unfolding spelling byte_field scan_ask_at
read_scan_ask P s p after h =
    let fields : List ℕ = number_field w32 s ++ (number_field w16 p ++ (option_digest_field after ++ [])) in
    from_fields P 23 fields scan_ask_at refl
    (onward (λ x. P x.0) (number_at w32 positive fields) _ (λ i. onward (λ x. P x.0) (number_at w16 (λ q. nat_lt q partition_count) i.1) _ (λ j. onward (λ x. P x.0) (option_digest_at j.1) _ (λ d. h i.0 j.0 d.0))))

pub read_scan_page : (P : Message → Type 0) (page : ScanPage) → IsKeyOrNone page.key → ((other : ScanPage) → other.key ≡ page.key → P (message.ScanPage other)) → Read P (message.ScanPage page)
unfolding spelling byte_field scan_page_at
read_scan_page P page key h =
    let rest : List ℕ = number_field w32 page.scan ++ (option_digest_field page.after ++ (number_field w32 page.writes ++ (records_field page.records ++ (flag_field page.more ++ [])))) in
    from_fields P 24 (key_field page.key ++ rest) scan_page_at refl
    (key_first (λ x. P x.0) page.key key rest _ (onward (λ x. P x.0) (number_at w32 positive rest) _ (λ i. onward (λ x. P x.0) (option_digest_at i.1) _ (λ d. onward (λ x. P x.0) (number_at w32 every d.1) _ (λ j. onward (λ x. P x.0) (records_at 0 j.1) _ (λ r. onward (λ x. P x.0) (flag_at r.1) _ (λ m. h _ refl)))))))

pub read_scan_no : (P : Message → Type 0) (s : ℕ) (cause : ScanRefusal) → ((i : ℕ) (c : ScanRefusal) → P (message.ScanNo i c)) → Read P (message.ScanNo s cause)
unfolding spelling byte_field scan_no_at
read_scan_no P s cause h =
    let fields : List ℕ = number_field w32 s ++ (refusal_field cause ++ []) in
    from_fields P 25 fields scan_no_at refl
    (onward (λ x. P x.0) (number_at w32 positive fields) _ (λ i. onward (λ x. P x.0) (refusal_at i.1) _ (λ c. h i.0 c.0)))

-- ---- the nodes that replies and refusals name

tells_of : (Q : ℕ → Type 0) (o : Option Message) → If (Tells Q) o → TellsIf Q o
tells_of Q None h = h
tells_of Q (Some m) h = h

-- an id is read as itself
id_first : {B : Type 0} (P : B → Type 0) (n : ℕ) → IsId n → (rest : List ℕ) (f : ℕ × List ℕ → Result B FieldFault) → IfRead P (f (n, rest)) → IfRead P (id_at (id_field n ++ rest) >>= f)
id_first P n id rest f h = subst (λ r. IfRead P (r >>= f)) (sym (id_form.again n rest id)) h

-- what a reply is read as names such nodes where the reply does, all of which have ids
reply_names : (Q : ℕ → Type 0) → ((n : ℕ) → Q n → IsId n) → (no_view : Bool) (b : ReplyBody) → ReplyNames Q b → (rest : List ℕ) → IfRead (λ (x : ReplyBody × List ℕ). ReplyNames Q x.0) (reply_at no_view (reply_field b ++ rest))
unfolding reply_at reply_field
reply_names Q ids no_view reply.Nothing q rest = byte_first (λ (x : ReplyBody × List ℕ). ReplyNames Q x.0) (is_reply_tag no_view) 0 rest _ tt
reply_names Q ids no_view (reply.Found v) q rest = byte_first (λ (x : ReplyBody × List ℕ). ReplyNames Q x.0) (is_reply_tag no_view) 1 (version_field v ++ rest) _ (onward (λ (x : ReplyBody × List ℕ). ReplyNames Q x.0) (version_at (version_field v ++ rest)) _ (λ w. tt))
reply_names Q ids no_view reply.Done q rest = byte_first (λ (x : ReplyBody × List ℕ). ReplyNames Q x.0) (is_reply_tag no_view) 2 rest _ tt
reply_names Q ids no_view (reply.Exchanging n) q rest = byte_first (λ (x : ReplyBody × List ℕ). ReplyNames Q x.0) (is_reply_tag no_view) 3 (id_field n ++ rest) _ (id_first (λ (x : ReplyBody × List ℕ). ReplyNames Q x.0) n (ids n q) rest _ q)
reply_names Q ids no_view (reply.NotMaster n) q rest = byte_first (λ (x : ReplyBody × List ℕ). ReplyNames Q x.0) (is_reply_tag no_view) 4 (id_field n ++ rest) _ (id_first (λ (x : ReplyBody × List ℕ). ReplyNames Q x.0) n (ids n q) rest _ q)
reply_names Q ids no_view (reply.Busy t) q rest = byte_first (λ (x : ReplyBody × List ℕ). ReplyNames Q x.0) (is_reply_tag no_view) 5 (number_field w32 t ++ rest) _ (onward (λ (x : ReplyBody × List ℕ). ReplyNames Q x.0) (number_at w32 positive (number_field w32 t ++ rest)) _ (λ w. tt))
reply_names Q ids true reply.NoView q rest = byte_first (λ (x : ReplyBody × List ℕ). ReplyNames Q x.0) (is_reply_tag true) 6 rest _ tt
reply_names Q ids false reply.NoView q rest = byte_first (λ (x : ReplyBody × List ℕ). ReplyNames Q x.0) (is_reply_tag false) 6 rest _ tt

refusal_names : (Q : ℕ → Type 0) → ((n : ℕ) → Q n → IsId n) → (cause : ScanRefusal) → ScanCauseNames Q cause → (rest : List ℕ) → IfRead (λ (x : ScanRefusal × List ℕ). ScanCauseNames Q x.0) (refusal_at (refusal_field cause ++ rest))
unfolding refusal_at refusal_field
refusal_names Q ids unserved.NoView q rest = byte_first (λ (x : ScanRefusal × List ℕ). ScanCauseNames Q x.0) (between 1 5) 1 rest _ tt
refusal_names Q ids (unserved.Exchanging n) q rest = byte_first (λ (x : ScanRefusal × List ℕ). ScanCauseNames Q x.0) (between 1 5) 2 (id_field n ++ rest) _ (id_first (λ (x : ScanRefusal × List ℕ). ScanCauseNames Q x.0) n (ids n q) rest _ q)
refusal_names Q ids (unserved.NotMaster n) q rest = byte_first (λ (x : ScanRefusal × List ℕ). ScanCauseNames Q x.0) (between 1 5) 3 (id_field n ++ rest) _ (id_first (λ (x : ScanRefusal × List ℕ). ScanCauseNames Q x.0) n (ids n q) rest _ q)
refusal_names Q ids unserved.NotSettled q rest = byte_first (λ (x : ScanRefusal × List ℕ). ScanCauseNames Q x.0) (between 1 5) 4 rest _ tt
refusal_names Q ids (unserved.Open t) q rest = byte_first (λ (x : ScanRefusal × List ℕ). ScanCauseNames Q x.0) (between 1 5) 5 (number_field w32 t ++ rest) _ (onward (λ (x : ScanRefusal × List ℕ). ScanCauseNames Q x.0) (number_at w32 positive (number_field w32 t ++ rest)) _ (λ w. tt))

-- so it is of the messages
pub proxy_reply_tells : (Q : ℕ → Type 0) → ((n : ℕ) → Q n → IsId n) → (k : ClusterKey) (number : ℕ) (b : ReplyBody) → IsKeyOrNone k → ReplyNames Q b → TellsIf Q (message_of (spelling (message.ProxyReply k number b)))
unfolding spelling byte_field proxy_reply_at
proxy_reply_tells Q ids k number b key q =
    let rest : List ℕ = reply_field b ++ [] in
    tells_of Q _ (from_fields (Tells Q) 20 (key_field k ++ (number_field w32 number ++ rest)) proxy_reply_at refl
    (key_first (λ x. Tells Q x.0) k key (number_field w32 number ++ rest) _
    (count_first (λ x. Tells Q x.0) positive number rest _ (λ i. with_read (λ (x : ReplyBody × List ℕ). ReplyNames Q x.0) (λ x. Tells Q x.0) (reply_at false rest) _ (reply_names Q ids false b q []) (λ c n. n)))))

pub reply_tells : (Q : ℕ → Type 0) → ((n : ℕ) → Q n → IsId n) → (k : ClusterKey) (number : ℕ) (b : ReplyBody) → IsKeyOrNone k → ReplyNames Q b → TellsIf Q (message_of (spelling (message.Reply k number b)))
unfolding spelling byte_field reply_message_at
reply_tells Q ids k number b key q =
    let rest : List ℕ = reply_field b ++ [] in
    tells_of Q _ (from_fields (Tells Q) 22 (key_field k ++ (number_field w32 number ++ rest)) reply_message_at refl
    (key_or_none_first (λ x. Tells Q x.0) k key (number_field w32 number ++ rest) _
    (count_first (λ x. Tells Q x.0) positive number rest _ (λ i. with_read (λ (x : ReplyBody × List ℕ). ReplyNames Q x.0) (λ x. Tells Q x.0) (reply_at (is_none k) rest) _ (reply_names Q ids (is_none k) b q []) (λ c n. n)))))

pub scan_no_tells : (Q : ℕ → Type 0) → ((n : ℕ) → Q n → IsId n) → (s : ℕ) (cause : ScanRefusal) → ScanCauseNames Q cause → TellsIf Q (message_of (spelling (message.ScanNo s cause)))
unfolding spelling byte_field scan_no_at
scan_no_tells Q ids s cause q =
    let rest : List ℕ = refusal_field cause ++ [] in
    tells_of Q _ (from_fields (Tells Q) 25 (number_field w32 s ++ rest) scan_no_at refl
    (count_first (λ x. Tells Q x.0) positive s rest _ (λ i. with_read (λ (x : ScanRefusal × List ℕ). ScanCauseNames Q x.0) (λ x. Tells Q x.0) (refusal_at rest) _ (refusal_names Q ids cause q []) (λ c n. n))))
