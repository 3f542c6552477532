-- A spelling is read back.
use Rattle.std.proofs.Common.{◌≡◌, ℕ, ◌+◌, ◌<◌, ◌≤◌, ◌^◌, ◌⊎◌, inl, inr, Bool, true, false, cond, not, ◌&&◌, ◌||◌, nat_le, nat_lt, List, [], ◌∷◌, ◌++◌, map, length, Option, Some, None, Result, Ok, Err, refl, sym, ap, subst, ◌∙◌, arith, ◌==◌, append_assoc, true≢false}
use Rattle.std.specs.Prelude.{All, Contains, codes}
use Rattle.std.specs.List.{flat_map, join_with_byte, cons_option}
use Rattle.std.specs.Fmt.{decimal}
use Rattle.std.proofs.lemmas.Bool.{eq-eqb, le-leb, lt-ltb, and_from}
use Rattle.std.proofs.lemmas.List.{append-nil}
use Rattle.std.proofs.lemmas.List.Elements.{All-nil, All-cons, All-head, All-tail}
use Rattle.conflict_order.specs.declared.policy.Policy.{Policy}
use Rattle.conflict_order.specs.declared.policy.Policy.TheVariants.{Time, Generation}
use Rattle.cluster_types.specs.Partitions.{partition_count}
use Rattle.script_lang.specs.declared.before.Before.{Before}
use Rattle.script_lang.specs.declared.fault.Cause.{Cause}
use Rattle.script_lang.specs.declared.fault.Cause.TheVariants.{BadNumber, BadFactor, RepeatedNode, TooManyNodes, TooLongValue, VersionLate, HeaderLate, NotBuilt}
use Rattle.script_lang.specs.declared.lines.Line.{Line}
use Rattle.script_lang.specs.declared.lines.Line.TheVariants as line
use Rattle.script_lang.specs.declared.script.Command.{Command}
use Rattle.script_lang.specs.declared.script.Command.TheVariants as command
use Rattle.script_lang.specs.declared.script.HeaderLine.{HeaderLine}
use Rattle.script_lang.specs.declared.script.HeaderLine.TheVariants as header
use Rattle.script_lang.specs.declared.script.Script.{Script}
use Rattle.script_lang.specs.declared.words.Word.{Word}
use Rattle.script_lang.specs.declared.words.Word.TheVariants as kind
use Rattle.script_lang.specs.declared.words.HeaderWord.{HeaderWord}
use Rattle.script_lang.specs.declared.words.HeaderWord.TheVariants as header_word
use Rattle.script_lang.specs.declared.words.CommandWord.{CommandWord}
use Rattle.script_lang.specs.declared.words.CommandWord.TheVariants as command_word
use Rattle.script_lang.specs.Before.{before_next, nodes_of, node_in}
use Rattle.script_lang.specs.Forms as form
use Rattle.script_lang.specs.Grammar.{Fault, known_word, line_of, line_of_word, script_from, script_of, word_standing, with_line}
use Rattle.script_lang.specs.Layout.{lines_of, is_comment}
use Rattle.script_lang.specs.Outcomes.{and_then, map_ok, ok_if}
use Rattle.script_lang.specs.Proper.{IsId, IsDigest, IsValue, IsProper, IsProperCommand, IsProperHeaderLine, IsServed, IsInOrder, IsOfVersion, MayFollow, MayAllFollow, NamesNodesOf}
use Rattle.script_lang.specs.Spelling.{HasWrittenValue, IsSpelled, command_fields, group_fields, header_fields, key, policy_name, script_text}
use Rattle.script_lang.specs.Spelling as spell
use Rattle.script_lang.specs.Values as value
use Rattle.script_lang.specs.Words.{is_command_served, word_of, added_word}
use Rattle.script_lang.specs.WordsOf.{word_of_command}
use Rattle.script_lang.proofs.Ids.{declared_back, node_back, node_fits, within_back}
use Rattle.script_lang.proofs.SpelledGroups.{groups_back, groups_clean}
use Rattle.script_lang.proofs.Texts.{good_text}
use Rattle.script_lang.proofs.Written.{AreClean, IsClean, fields_back, joined_text, key_back, key_is_clean, line_back, number_back, number_is_clean, value_is_clean, word_is_clean}

-- ---- fields

new_back : (before : Before) (n : ℕ) → IsId n → value.is_one_of n before.nodes ≡ false → length before.nodes < 16 → value.new_node before (decimal n) ≡ Ok n
new_back before n i fresh few =
    ap (λ r. and_then r (λ id. cond (value.is_one_of id before.nodes) (Err RepeatedNode) (ok_if (nat_lt (length before.nodes) 16) id TooManyNodes))) (node_back n i)
    ∙ ap (λ t. cond t (Err RepeatedNode) (ok_if (nat_lt (length before.nodes) 16) n TooManyNodes)) fresh
    ∙ ap (λ t. ok_if t n TooManyNodes) (lt-ltb _ _ few)

value_back : (bytes : List ℕ) → IsValue bytes → value.value bytes ≡ Ok bytes
value_back bytes v = ap (λ t. ok_if t bytes TooLongValue) (le-leb _ _ v.limit)

partition_back : (p : ℕ) → p < partition_count → value.partition (decimal p) ≡ Ok p
partition_back p fits =
    ap (λ r. and_then r (λ n. ok_if (nat_lt n partition_count) n BadNumber)) (number_back p (omega (arith, fits)))
    ∙ ap (λ t. ok_if t p BadNumber) (lt-ltb _ _ fits)

-- ---- a line

-- the line of these fields, whose word stands
said_back : (before : Before) (first : List ℕ) (rest : List (List ℕ)) (w : Word) (said : Line) → AreClean (first ∷ rest) → is_comment first ≡ false
    → known_word before first ≡ Ok w → line_of_word before w rest ≡ Ok said → line_of before (join_with_byte 32 (first ∷ rest)) ≡ Ok said
said_back before first rest w said clean spoken known e =
    good_text before (join_with_byte 32 (first ∷ rest)) first rest (record { fields = fields_back (first ∷ rest) clean; spoken = spoken }) (joined_text (first ∷ rest) clean)
    ∙ ap (λ r. and_then r (λ k. line_of_word before k rest)) known ∙ e

header_stands : (before : Before) (w : HeaderWord) → before.has_commands ≡ false → word_standing before (Some (kind.Header w)) ≡ Ok (kind.Header w)
header_stands before w first = ap (λ t. cond t (Err HeaderLate) (Ok (kind.Header w))) first

command_stands : (before : Before) (w : CommandWord) → is_command_served w (length before.nodes) ≡ true → word_standing before (Some (kind.Command w)) ≡ Ok (kind.Command w)
command_stands before w served = ap (λ t. cond (not t) (Err NotBuilt) (Ok (kind.Command w))) served

-- ---- header lines

settled_by : (settled : Bool) (v in_force : ℕ) → (settled ≡ true → v ≡ in_force) → (not settled || v == in_force) ≡ true
settled_by true v in_force same = eq-eqb v in_force (same refl)
settled_by false v in_force same = refl

script_back : (before : Before) (v : ℕ) → (1 ≤ v) × (v ≤ 2) → (before.is_settled ≡ true → v ≡ before.version) → form.script before (decimal v ∷ []) ≡ Ok (header.Script v)
script_back before v range same =
    ap (λ r. and_then r (λ n. ok_if (not before.is_settled || n == before.version) (header.Script n) VersionLate)) (within_back 1 2 v range.0 range.1 (omega (arith, range.1)))
    ∙ ap (λ t. ok_if t (header.Script v) VersionLate) (settled_by before.is_settled v before.version same)

factor_back : (f : ℕ) → 0 < f → f ≤ 4 → value.factor (decimal f) ≡ Ok f
factor_back f above below =
    ap (λ r. and_then r (λ n. ok_if (nat_le 1 n && nat_le n 4) n BadFactor)) (number_back f (omega (arith, below)))
    ∙ ap (λ t. ok_if t f BadFactor) (and_from _ _ (le-leb _ _ above) (le-leb _ _ below))

plain_back : (before : Before) (n : ℕ) → IsId n → value.is_one_of n before.nodes ≡ false → length before.nodes < 16 → form.plain_node before (decimal n ∷ []) ≡ Ok (header.Node n None)
plain_back before n i fresh few = ap (map_ok (λ id. header.Node id None)) (new_back before n i fresh few)

bare_back : (before : Before) (n : ℕ) → IsId n → value.is_one_of n before.nodes ≡ false → length before.nodes < 16 → form.racked_node before (decimal n ∷ []) ≡ Ok (header.Node n None)
bare_back before n i fresh few = ap (λ r. and_then r (λ id. map_ok (λ rack. header.Node id rack) (Ok None))) (new_back before n i fresh few)

racked_back : (before : Before) (n r : ℕ) → IsId n → r < 256 → value.is_one_of n before.nodes ≡ false → length before.nodes < 16 → form.racked_node before (decimal n ∷ decimal r ∷ []) ≡ Ok (header.Node n (Some r))
racked_back before n r i fits fresh few =
    ap (λ x. and_then x (λ id. map_ok (λ rack. header.Node id rack) (map_ok Some (value.rack (decimal r))))) (new_back before n i fresh few)
    ∙ ap (λ x. map_ok (λ rack. header.Node n rack) (map_ok Some x)) (within_back 0 255 r (omega arith) (omega (arith, fits)) (omega (arith, fits)))

either_node : (t : Bool) (a b : Result HeaderLine Cause) (x : HeaderLine) → a ≡ Ok x → b ≡ Ok x → cond t a b ≡ Ok x
either_node true a b x p q = p
either_node false a b x p q = q

version_range : (v : ℕ) → (v ≡ 1) ⊎ (v ≡ 2) → (1 ≤ v) × (v ≤ 2)
version_range v (inl e) = (omega (arith, e), omega (arith, e))
version_range v (inr e) = (omega (arith, e), omega (arith, e))

of_two : (r : Option ℕ) (n : ℕ) (v : ℕ) → (Some n ≡ None) ⊎ (v ≡ 2) → v ≡ 2
of_two r n v (inl e) = cc
of_two r n v (inr e) = e

policy_clean : (p : Policy) → IsClean (policy_name p)
policy_clean Time = word_is_clean (codes "time") refl refl
policy_clean Generation = word_is_clean (codes "generation") refl refl

policy_back : (p : Policy) → form.policy (policy_name p ∷ []) ≡ Ok (header.Policy p)
policy_back Time = refl
policy_back Generation = refl

header_clean : (h : HeaderLine) → IsProperHeaderLine h → AreClean (header_fields h)
header_clean (header.Script v) p = let r = version_range v p in (word_is_clean (codes "script") refl refl, number_is_clean v (omega (arith, r.1)))
header_clean (header.Factor f) p = (word_is_clean (codes "factor") refl refl, number_is_clean f (omega (arith, p.1)))
header_clean (header.Node n None) p = (word_is_clean (codes "node") refl refl, number_is_clean n (node_fits n p.0))
header_clean (header.Node n (Some r)) p = (word_is_clean (codes "node") refl refl, (number_is_clean n (node_fits n p.0), number_is_clean r (omega (arith, p.1))))
header_clean (header.Policy by) p = (word_is_clean (codes "policy") refl refl, policy_clean by)

pub header_back : (before : Before) (h : HeaderLine) → before.has_commands ≡ false → IsProperHeaderLine h → MayFollow before h → line_of before (join_with_byte 32 (header_fields h)) ≡ Ok (line.Header h)
header_back before (header.Script v) first p m =
    said_back before (codes "script") (decimal v ∷ []) (kind.Header header_word.Script) (line.Header (header.Script v)) (header_clean (header.Script v) p) refl
    (header_stands before header_word.Script first) (ap (map_ok (λ x. line.Header x)) (script_back before v (version_range v p) m))
header_back before (header.Factor f) first p m =
    said_back before (codes "factor") (decimal f ∷ []) (kind.Header header_word.Factor) (line.Header (header.Factor f)) (header_clean (header.Factor f) p) refl
    (header_stands before header_word.Factor first) (ap (λ r. map_ok (λ x. line.Header x) (map_ok (λ n. header.Factor n) r)) (factor_back f p.0 p.1))
header_back before (header.Node n None) first p m =
    said_back before (codes "node") (decimal n ∷ []) (kind.Header header_word.Node) (line.Header (header.Node n None)) (header_clean (header.Node n None) p) refl
    (header_stands before header_word.Node first)
    (ap (map_ok (λ x. line.Header x)) (either_node (before.version == 2) _ _ (header.Node n None) (bare_back before n p.0 m.0.0 m.0.1) (plain_back before n p.0 m.0.0 m.0.1)))
header_back before (header.Node n (Some r)) first p m =
    let two : before.version ≡ 2 = of_two None r before.version m.1 in
    said_back before (codes "node") (decimal n ∷ decimal r ∷ []) (kind.Header header_word.Node) (line.Header (header.Node n (Some r))) (header_clean (header.Node n (Some r)) p) refl
    (header_stands before header_word.Node first)
    (ap (map_ok (λ x. line.Header x)) (ap (λ t. cond t (form.racked_node before (decimal n ∷ decimal r ∷ [])) (form.plain_node before (decimal n ∷ decimal r ∷ []))) (eq-eqb _ _ two)
    ∙ racked_back before n r p.0 p.1 m.0.0 m.0.1))
header_back before (header.Policy by) first p m =
    said_back before (codes "policy") (policy_name by ∷ []) (kind.Header header_word.Policy) (line.Header (header.Policy by)) (header_clean (header.Policy by) p) refl
    (ap (word_standing before) (ap (λ t. cond t (added_word (codes "policy")) None) (eq-eqb _ _ m)) ∙ header_stands before header_word.Policy first)
    (ap (map_ok (λ x. line.Header x)) (policy_back by))

-- ---- commands

-- a command is read back where its nodes are declared and its word is served
pub record IsDue (before : Before) (c : Command) : Type 0 where
  pub nodes : (n : ℕ) → Contains before.nodes n → IsId n
  pub ranges : IsProperCommand c
  pub named : NamesNodesOf before.nodes c
  pub served : is_command_served (word_of_command c) (length before.nodes) ≡ true
  pub of_version : IsOfVersion before.version c
  pub written : HasWrittenValue c

said_command : (before : Before) (first : List ℕ) (rest : List (List ℕ)) (w : CommandWord) (c : Command) → AreClean (first ∷ rest) → is_comment first ≡ false
    → is_command_served w (length before.nodes) ≡ true → word_of before.version first ≡ Some (kind.Command w) → form.command_line before w rest ≡ Ok c
    → line_of before (join_with_byte 32 (first ∷ rest)) ≡ Ok (line.Command c)
said_command before first rest w c clean spoken served word e =
    said_back before first rest (kind.Command w) (line.Command c) clean spoken (ap (word_standing before) word ∙ command_stands before w served) (ap (map_ok (λ x. line.Command x)) e)

clock_back : (before : Before) (n t : ℕ) → IsId n → Contains before.nodes n → t < 2 ^ 64 → form.clock before (decimal n ∷ decimal t ∷ []) ≡ Ok (command.Clock n t)
clock_back before n t i c fits =
    ap (λ r. and_then r (λ id. map_ok (λ time. command.Clock id time) (value.number (decimal t)))) (declared_back before n i c)
    ∙ ap (map_ok (λ time. command.Clock n time)) (number_back t fits)

node_and_key_back : (before : Before) (n : ℕ) (d : List ℕ) → IsId n → Contains before.nodes n → IsDigest d → form.node_and_key before (decimal n ∷ key d ∷ []) ≡ Ok (n, d)
node_and_key_back before n d i c k =
    ap (λ r. and_then r (λ id. map_ok (λ digest. (id, digest)) (value.digest (key d)))) (declared_back before n i c)
    ∙ ap (map_ok (λ digest. (n, digest))) (key_back d k)

node_key_and_value_back : (before : Before) (n : ℕ) (d v : List ℕ) → IsId n → Contains before.nodes n → IsDigest d → IsValue v
    → form.node_key_and_value before (decimal n ∷ key d ∷ v ∷ []) ≡ Ok (n, d, v)
node_key_and_value_back before n d v i c k a =
    ap (λ r. and_then r (λ id. and_then (value.digest (key d)) (λ digest. map_ok (λ bytes. (id, digest, bytes)) (value.value v)))) (declared_back before n i c)
    ∙ ap (λ r. and_then r (λ digest. map_ok (λ bytes. (n, digest, bytes)) (value.value v))) (key_back d k)
    ∙ ap (map_ok (λ bytes. (n, d, bytes))) (value_back v a)

cut_back : (i size : ℕ) → i < 2 ^ 64 → size < 2 ^ 64 → form.cut (decimal i ∷ decimal size ∷ []) ≡ Ok (command.Cut i size)
cut_back i size fits short =
    ap (λ r. and_then r (λ message. map_ok (λ s. command.Cut message s) (value.number (decimal size)))) (number_back i fits)
    ∙ ap (map_ok (λ s. command.Cut i s)) (number_back size short)

partition_from_back : (from to : ℕ) → from ≤ to → to < partition_count → value.partition_from from (decimal to) ≡ Ok to
partition_from_back from to rises fits =
    ap (λ r. and_then r (λ n. ok_if (nat_le from n) n BadNumber)) (partition_back to fits)
    ∙ ap (λ t. ok_if t to BadNumber) (le-leb _ _ rises)

map_back : (before : Before) (n from to : ℕ) → IsId n → Contains before.nodes n → to < partition_count → from ≤ to
    → form.map before (decimal n ∷ decimal from ∷ decimal to ∷ []) ≡ Ok (command.Map n from to)
map_back before n from to i c fits rises =
    ap (λ r. and_then r (λ id. and_then (value.partition (decimal from)) (λ first. map_ok (λ last. command.Map id first last) (value.partition_from first (decimal to))))) (declared_back before n i c)
    ∙ ap (λ r. and_then r (λ first. map_ok (λ last. command.Map n first last) (value.partition_from first (decimal to)))) (partition_back from (omega (arith, fits, rises)))
    ∙ ap (map_ok (λ last. command.Map n from last)) (partition_from_back from to rises fits)

key_and_value_back : (d v : List ℕ) → IsDigest d → IsValue v → form.key_and_value (key d ∷ v ∷ []) ≡ Ok (d, v)
key_and_value_back d v k a =
    ap (λ r. and_then r (λ digest. map_ok (λ bytes. (digest, bytes)) (value.value v))) (key_back d k)
    ∙ ap (map_ok (λ bytes. (d, bytes))) (value_back v a)

command_clean : (before : Before) (c : Command) → IsDue before c → AreClean (command_fields c)
command_clean before (command.Clock n t) d =
    (word_is_clean (codes "clock") refl refl, (number_is_clean n (node_fits n d.ranges.0), number_is_clean t d.ranges.1))
command_clean before (command.Groups gs) d = groups_clean before gs d.nodes d.named
command_clean before (command.Tick n) d = (word_is_clean (codes "tick") refl refl, number_is_clean n (node_fits n d.ranges))
command_clean before (command.Stop n) d = (word_is_clean (codes "stop") refl refl, number_is_clean n (node_fits n d.ranges))
command_clean before (command.Start n) d = (word_is_clean (codes "start") refl refl, number_is_clean n (node_fits n d.ranges))
command_clean before (command.Ask n) d = (word_is_clean (codes "ask") refl refl, number_is_clean n (node_fits n d.ranges))
command_clean before (command.Quiesce n) d = (word_is_clean (codes "quiesce") refl refl, number_is_clean n (node_fits n d.ranges))
command_clean before (command.Unquiesce n) d = (word_is_clean (codes "unquiesce") refl refl, number_is_clean n (node_fits n d.ranges))
command_clean before (command.Put n k v) d =
    (word_is_clean (codes "put") refl refl, (number_is_clean n (node_fits n d.ranges.0), (key_is_clean k d.ranges.1, value_is_clean v d.written)))
command_clean before (command.Get n k) d = (word_is_clean (codes "get") refl refl, (number_is_clean n (node_fits n d.ranges.0), key_is_clean k d.ranges.1))
command_clean before (command.Del n k) d = (word_is_clean (codes "del") refl refl, (number_is_clean n (node_fits n d.ranges.0), key_is_clean k d.ranges.1))
command_clean before (command.Show n k) d = (word_is_clean (codes "show") refl refl, (number_is_clean n (node_fits n d.ranges.0), key_is_clean k d.ranges.1))
command_clean before (command.ClientPut k v) d = (word_is_clean (codes "cput") refl refl, (key_is_clean k d.ranges.0, value_is_clean v d.written))
command_clean before (command.ClientGet k) d = (word_is_clean (codes "cget") refl refl, key_is_clean k d.ranges)
command_clean before (command.ClientDel k) d = (word_is_clean (codes "cdel") refl refl, key_is_clean k d.ranges)
command_clean before (command.Hash k) d = (word_is_clean (codes "hash") refl refl, key_is_clean k d.ranges)
command_clean before (command.Deliver i) d = (word_is_clean (codes "deliver") refl refl, number_is_clean i d.ranges)
command_clean before (command.Repeat i) d = (word_is_clean (codes "repeat") refl refl, number_is_clean i d.ranges)
command_clean before (command.Lose i) d = (word_is_clean (codes "lose") refl refl, number_is_clean i d.ranges)
command_clean before (command.Cut i size) d = (word_is_clean (codes "cut") refl refl, (number_is_clean i d.ranges.0, number_is_clean size d.ranges.1))
command_clean before command.Flow d = word_is_clean (codes "flow") refl refl
command_clean before command.Round d = word_is_clean (codes "round") refl refl
command_clean before command.Calm d = word_is_clean (codes "calm") refl refl
command_clean before (command.Map n from to) d =
    let fits = d.ranges.1 in
    let rises = d.ranges.2 in
    (word_is_clean (codes "map") refl refl, (number_is_clean n (node_fits n d.ranges.0), (number_is_clean from (omega (arith, fits, rises)), number_is_clean to (omega (arith, fits)))))
command_clean before (command.Place p) d = let fits = d.ranges in (word_is_clean (codes "place") refl refl, number_is_clean p (omega (arith, fits)))
command_clean before (command.ProxyGet a b) d = let s = d.served in absurd (true≢false (sym s))
command_clean before (command.ProxyPut a b c) d = let s = d.served in absurd (true≢false (sym s))
command_clean before (command.ProxyDel a b) d = let s = d.served in absurd (true≢false (sym s))
command_clean before (command.ProxyAgain a) d = let s = d.served in absurd (true≢false (sym s))
command_clean before (command.CallGet a) d = let s = d.served in absurd (true≢false (sym s))
command_clean before (command.CallPut a b) d = let s = d.served in absurd (true≢false (sym s))
command_clean before (command.CallDel a) d = let s = d.served in absurd (true≢false (sym s))
command_clean before (command.CallAgain a) d = let s = d.served in absurd (true≢false (sym s))
command_clean before (command.Scan a) d = let s = d.served in absurd (true≢false (sym s))
command_clean before (command.ScanNext a) d = let s = d.served in absurd (true≢false (sym s))

pub command_back : (before : Before) (c : Command) → IsDue before c → line_of before (join_with_byte 32 (command_fields c)) ≡ Ok (line.Command c)
command_back before (command.Clock n t) d =
    said_command before (codes "clock") (decimal n ∷ decimal t ∷ []) command_word.Clock (command.Clock n t) (command_clean before (command.Clock n t) d) refl d.served refl
    (clock_back before n t d.ranges.0 d.named d.ranges.1)
command_back before (command.Groups gs) d =
    said_command before (codes "groups") (group_fields gs) command_word.Groups (command.Groups gs) (command_clean before (command.Groups gs) d) refl d.served refl
    (groups_back before gs d.nodes d.ranges d.named)
command_back before (command.Tick n) d =
    said_command before (codes "tick") (decimal n ∷ []) command_word.Tick (command.Tick n) (command_clean before (command.Tick n) d) refl d.served refl
    (ap (map_ok (λ id. command.Tick id)) (declared_back before n d.ranges d.named))
command_back before (command.Stop n) d =
    said_command before (codes "stop") (decimal n ∷ []) command_word.Stop (command.Stop n) (command_clean before (command.Stop n) d) refl d.served refl
    (ap (map_ok (λ id. command.Stop id)) (declared_back before n d.ranges d.named))
command_back before (command.Start n) d =
    said_command before (codes "start") (decimal n ∷ []) command_word.Start (command.Start n) (command_clean before (command.Start n) d) refl d.served refl
    (ap (map_ok (λ id. command.Start id)) (declared_back before n d.ranges d.named))
command_back before (command.Ask n) d =
    said_command before (codes "ask") (decimal n ∷ []) command_word.Ask (command.Ask n) (command_clean before (command.Ask n) d) refl d.served refl
    (ap (map_ok (λ id. command.Ask id)) (declared_back before n d.ranges d.named))
command_back before (command.Quiesce n) d =
    said_command before (codes "quiesce") (decimal n ∷ []) command_word.Quiesce (command.Quiesce n) (command_clean before (command.Quiesce n) d) refl d.served
    (ap (λ t. cond t (added_word (codes "quiesce")) None) (eq-eqb _ _ (d.of_version refl)))
    (ap (map_ok (λ id. command.Quiesce id)) (declared_back before n d.ranges d.named))
command_back before (command.Unquiesce n) d =
    said_command before (codes "unquiesce") (decimal n ∷ []) command_word.Unquiesce (command.Unquiesce n) (command_clean before (command.Unquiesce n) d) refl d.served
    (ap (λ t. cond t (added_word (codes "unquiesce")) None) (eq-eqb _ _ (d.of_version refl)))
    (ap (map_ok (λ id. command.Unquiesce id)) (declared_back before n d.ranges d.named))
command_back before (command.Put n k v) d =
    said_command before (codes "put") (decimal n ∷ key k ∷ v ∷ []) command_word.Put (command.Put n k v) (command_clean before (command.Put n k v) d) refl d.served refl
    (ap (map_ok (λ (p : ℕ × List ℕ × List ℕ). command.Put p.0 p.1 p.2)) (node_key_and_value_back before n k v d.ranges.0 d.named d.ranges.1 d.ranges.2))
command_back before (command.Get n k) d =
    said_command before (codes "get") (decimal n ∷ key k ∷ []) command_word.Get (command.Get n k) (command_clean before (command.Get n k) d) refl d.served refl
    (ap (map_ok (λ (p : ℕ × List ℕ). command.Get p.0 p.1)) (node_and_key_back before n k d.ranges.0 d.named d.ranges.1))
command_back before (command.Del n k) d =
    said_command before (codes "del") (decimal n ∷ key k ∷ []) command_word.Del (command.Del n k) (command_clean before (command.Del n k) d) refl d.served refl
    (ap (map_ok (λ (p : ℕ × List ℕ). command.Del p.0 p.1)) (node_and_key_back before n k d.ranges.0 d.named d.ranges.1))
command_back before (command.Show n k) d =
    said_command before (codes "show") (decimal n ∷ key k ∷ []) command_word.Show (command.Show n k) (command_clean before (command.Show n k) d) refl d.served refl
    (ap (map_ok (λ (p : ℕ × List ℕ). command.Show p.0 p.1)) (node_and_key_back before n k d.ranges.0 d.named d.ranges.1))
command_back before (command.ClientPut k v) d =
    said_command before (codes "cput") (key k ∷ v ∷ []) command_word.ClientPut (command.ClientPut k v) (command_clean before (command.ClientPut k v) d) refl d.served refl
    (ap (map_ok (λ (p : List ℕ × List ℕ). command.ClientPut p.0 p.1)) (key_and_value_back k v d.ranges.0 d.ranges.1))
command_back before (command.ClientGet k) d =
    said_command before (codes "cget") (key k ∷ []) command_word.ClientGet (command.ClientGet k) (command_clean before (command.ClientGet k) d) refl d.served refl
    (ap (map_ok (λ x. command.ClientGet x)) (key_back k d.ranges))
command_back before (command.ClientDel k) d =
    said_command before (codes "cdel") (key k ∷ []) command_word.ClientDel (command.ClientDel k) (command_clean before (command.ClientDel k) d) refl d.served refl
    (ap (map_ok (λ x. command.ClientDel x)) (key_back k d.ranges))
command_back before (command.Hash k) d =
    said_command before (codes "hash") (key k ∷ []) command_word.Hash (command.Hash k) (command_clean before (command.Hash k) d) refl d.served refl
    (ap (map_ok (λ x. command.Hash x)) (key_back k d.ranges))
command_back before (command.Deliver i) d =
    said_command before (codes "deliver") (decimal i ∷ []) command_word.Deliver (command.Deliver i) (command_clean before (command.Deliver i) d) refl d.served refl
    (ap (map_ok (λ x. command.Deliver x)) (number_back i d.ranges))
command_back before (command.Repeat i) d =
    said_command before (codes "repeat") (decimal i ∷ []) command_word.Repeat (command.Repeat i) (command_clean before (command.Repeat i) d) refl d.served refl
    (ap (map_ok (λ x. command.Repeat x)) (number_back i d.ranges))
command_back before (command.Lose i) d =
    said_command before (codes "lose") (decimal i ∷ []) command_word.Lose (command.Lose i) (command_clean before (command.Lose i) d) refl d.served refl
    (ap (map_ok (λ x. command.Lose x)) (number_back i d.ranges))
command_back before (command.Cut i size) d =
    said_command before (codes "cut") (decimal i ∷ decimal size ∷ []) command_word.Cut (command.Cut i size) (command_clean before (command.Cut i size) d) refl d.served refl
    (cut_back i size d.ranges.0 d.ranges.1)
command_back before command.Flow d =
    said_command before (codes "flow") ([]) command_word.Flow command.Flow (command_clean before command.Flow d) refl d.served refl
    (refl)
command_back before command.Round d =
    said_command before (codes "round") ([]) command_word.Round command.Round (command_clean before command.Round d) refl d.served refl
    (refl)
command_back before command.Calm d =
    said_command before (codes "calm") ([]) command_word.Calm command.Calm (command_clean before command.Calm d) refl d.served refl
    (refl)
command_back before (command.Map n from to) d =
    said_command before (codes "map") (decimal n ∷ decimal from ∷ decimal to ∷ []) command_word.Map (command.Map n from to) (command_clean before (command.Map n from to) d) refl d.served refl
    (map_back before n from to d.ranges.0 d.named d.ranges.1 d.ranges.2)
command_back before (command.Place p) d =
    said_command before (codes "place") (decimal p ∷ []) command_word.Place (command.Place p) (command_clean before (command.Place p) d) refl d.served refl
    (ap (map_ok (λ x. command.Place x)) (partition_back p d.ranges))
command_back before (command.ProxyGet a b) d = let s = d.served in absurd (true≢false (sym s))
command_back before (command.ProxyPut a b c) d = let s = d.served in absurd (true≢false (sym s))
command_back before (command.ProxyDel a b) d = let s = d.served in absurd (true≢false (sym s))
command_back before (command.ProxyAgain a) d = let s = d.served in absurd (true≢false (sym s))
command_back before (command.CallGet a) d = let s = d.served in absurd (true≢false (sym s))
command_back before (command.CallPut a b) d = let s = d.served in absurd (true≢false (sym s))
command_back before (command.CallDel a) d = let s = d.served in absurd (true≢false (sym s))
command_back before (command.CallAgain a) d = let s = d.served in absurd (true≢false (sym s))
command_back before (command.Scan a) d = let s = d.served in absurd (true≢false (sym s))
command_back before (command.ScanNext a) d = let s = d.served in absurd (true≢false (sym s))

-- ---- the script

abbrev continued : ℕ → List (List ℕ) → Result Script Cause → Result Script Fault
continued number texts (Ok longer) = script_from (number + 1) longer texts
continued number texts (Err cause) = Err (record { line = number; cause = cause })

one_line : (number : ℕ) (script : Script) (fields : List (List ℕ)) (rest : List ℕ) (said : Line) → AreClean fields
    → line_of (before_next script.header script.commands) (join_with_byte 32 fields) ≡ Ok said
    → script_from number script (lines_of (spell.line fields ++ rest)) ≡ script_from (number + 1) (with_line script said) (lines_of rest)
one_line number script fields rest said clean e =
    ap (script_from number script) (line_back fields rest clean)
    ∙ ap (λ r. continued number (lines_of rest) (map_ok (with_line script) r)) e

headers_back : (number : ℕ) (done lines : List HeaderLine) (rest : List ℕ) → All IsProperHeaderLine lines → MayAllFollow done lines
    → (n : ℕ) × (script_from number (record { header = done; commands = [] }) (lines_of (flat_map spell.line (map header_fields lines) ++ rest))
    ≡ script_from n (record { header = done ++ lines; commands = [] }) (lines_of rest))
headers_back number done [] rest proper order = (number, ap (λ (hs : List HeaderLine). script_from number (record { header = hs; commands = [] }) (lines_of rest)) (sym (append-nil done)))
headers_back number done (h ∷ lines) rest proper order =
    let p = All-head IsProperHeaderLine h lines proper in
    let more = flat_map spell.line (map header_fields lines) in
    let next = headers_back (number + 1) (done ++ h ∷ []) lines rest (All-tail IsProperHeaderLine h lines proper) order.1 in (
      next.0,
      ap (λ t. script_from number (record { header = done; commands = [] }) (lines_of t)) (append_assoc (spell.line (header_fields h)) more rest)
          ∙ one_line number (record { header = done; commands = [] }) (header_fields h) (more ++ rest) (line.Header h) (header_clean h p) (header_back (before_next done []) h refl p order.0)
          ∙ next.1
          ∙ ap (λ (hs : List HeaderLine). script_from next.0 (record { header = hs; commands = [] }) (lines_of rest)) (append_assoc done (h ∷ []) lines),
    )

commands_back : (number : ℕ) (header : List HeaderLine) (done commands : List Command) → All (IsDue (before_next header [])) commands
    → script_from number (record { header = header; commands = done }) (lines_of (flat_map spell.line (map command_fields commands))) ≡ Ok (record { header = header; commands = done ++ commands })
commands_back number header done [] due = ap (λ (cs : List Command). Ok (record { header = header; commands = cs })) (sym (append-nil done))
commands_back number header done (c ∷ commands) due =
    let d = All-head (IsDue (before_next header [])) c commands due in
    let here : IsDue (before_next header done) c = record { nodes = d.nodes; ranges = d.ranges; named = d.named; served = d.served; of_version = d.of_version; written = d.written } in
    one_line number (record { header = header; commands = done }) (command_fields c) (flat_map spell.line (map command_fields commands)) (line.Command c)
    (command_clean (before_next header done) c here) (command_back (before_next header done) c here)
    ∙ commands_back (number + 1) header (done ++ c ∷ []) commands (All-tail (IsDue (before_next header [])) c commands due)
    ∙ ap (λ (cs : List Command). Ok (record { header = header; commands = cs })) (append_assoc done (c ∷ []) commands)

-- each node that a proper header declares is one
declared_nodes : (lines : List HeaderLine) → All IsProperHeaderLine lines → All IsId (nodes_of lines)
declared_nodes [] proper = All-nil IsId
declared_nodes (h ∷ lines) proper = go h (All-head IsProperHeaderLine h lines proper) (declared_nodes lines (All-tail IsProperHeaderLine h lines proper))
  where
    go : (l : HeaderLine) → IsProperHeaderLine l → All IsId (nodes_of lines) → All IsId (cons_option (node_in l) (nodes_of lines))
    go (header.Node node rack) p rest = All-cons IsId node (nodes_of lines) p.0 rest
    go (header.Script version) p rest = rest
    go (header.Factor factor) p rest = rest
    go (header.Policy policy) p rest = rest

contained_node : (nodes : List ℕ) → All IsId nodes → (n : ℕ) → Contains nodes n → IsId n
contained_node nodes all n (k, below, same) = subst IsId same (all k n below)

all_due : (before : Before) (commands : List Command) → ((n : ℕ) → Contains before.nodes n → IsId n) → All IsProperCommand commands → All (NamesNodesOf before.nodes) commands
    → All (λ c. is_command_served (word_of_command c) (length before.nodes) ≡ true) commands → All (IsOfVersion before.version) commands → All HasWrittenValue commands → All (IsDue before) commands
all_due before commands nodes ranges named served versions written = λ k d below. record {
  nodes = nodes;
  ranges = ranges k d below;
  named = named k d below;
  served = served k d below;
  of_version = versions k d below;
  written = written k d below;
}

pub read_back : (script : Script) → IsProper script → IsServed script → IsInOrder script → IsSpelled script → script_of (script_text script) ≡ Ok script
read_back script p s o w =
    let h = headers_back 1 [] script.header (flat_map spell.line (map command_fields script.commands)) p.header o.order in
    let nodes = contained_node (nodes_of script.header) (declared_nodes script.header p.header) in
    h.1 ∙ commands_back h.0 script.header [] script.commands (all_due (before_next script.header []) script.commands nodes p.commands p.named s.commands o.versions w.values)
