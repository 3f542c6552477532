-- What every command that was read keeps.
use Rattle.std.proofs.Common.{◌≡◌, ℕ, ◌<◌, ◌≤◌, ◌^◌, Bool, true, false, cond, ◌==◌, List, [], ◌∷◌, length, Result, Ok, Err, refl, sym, ap, ◌∙◌, arith, subst, ◌++◌}
use Rattle.std.specs.Prelude.{All, Contains}
use Rattle.std.specs.List.{list_any, before_first, after_first}
use Rattle.std.proofs.lemmas.Bool.{leb-true}
use Rattle.hex.specs.Hex.{IsBytes, decode_sized}
use Rattle.hex.proofs.HexLemmas.{decode_sized-ok, decode_sized-twice, decode_of-ok}
use Rattle.digest_ripemd.specs.Digests.{digest_of}
use Rattle.digest_ripemd.proofs.DigestFacts.{length-ripemd160, bytes-ripemd160}
use Rattle.cluster_types.specs.Partitions.{partition_count}
use Rattle.script_lang.specs.declared.before.Before.{Before}
use Rattle.script_lang.specs.declared.fault.Cause.{Cause}
use Rattle.script_lang.specs.declared.fault.Cause.TheVariants.{BadDigest, TooLongValue}
use Rattle.script_lang.specs.declared.script.Command.{Command}
use Rattle.script_lang.specs.declared.script.Command.TheVariants as command
use Rattle.script_lang.specs.declared.words.CommandWord.{CommandWord}
use Rattle.script_lang.specs.declared.words.CommandWord.TheVariants as kind
use Rattle.script_lang.specs.Counts as count
use Rattle.script_lang.specs.Forms as form
use Rattle.script_lang.specs.Outcomes.{and_then, map_ok, or_cause}
use Rattle.script_lang.specs.Proper.{IsId, IsDigest, IsValue, IsProperCommand, NamesNodesOf}
use Rattle.script_lang.specs.Values as value
use Rattle.script_lang.specs.WordsOf.{word_of_command}
use Rattle.script_lang.proofs.AllBytes.{all_from_bytes}
use Rattle.script_lang.proofs.Groups.{ok_inside, from_map, from_then}
use Rattle.script_lang.proofs.GroupRanges.{groups_kept}
use Rattle.script_lang.proofs.Ranges.{if_ok, number_fits, partition_fits, partition_above, declared_is}

-- a command of that word, with its ranges, that names declared nodes
pub record IsGood (before : Before) (w : CommandWord) (c : Command) : Type 0 where
  pub ranges : IsProperCommand c
  pub named : NamesNodesOf before.nodes c
  pub word : word_of_command c ≡ w

-- ---- keys and values

or_ok : {A E : Type 0} (cause : Cause) (r : Result A E) (x : A) → or_cause cause r ≡ Ok x → r ≡ Ok x
or_ok cause (Ok y) x e = let same : y ≡ x = ok_inside y x (Ok y) refl e in ap Ok same
or_ok cause (Err fault) x e = cc

written_is : (digits digest : List ℕ) → value.written_digest digits ≡ Ok digest → IsDigest digest
written_is digits digest e =
    let read = or_ok BadDigest (decode_sized digits 20) digest e in
    let twice = decode_sized-ok digits 20 digest read in
    let told = decode_of-ok digits digest (sym (decode_sized-twice digits 20 twice) ∙ read) in
    let size = told.2 in
    record { size = omega (arith, twice, size); each = all_from_bytes digest told.3 }

made_is : (set_name key : List ℕ) → IsDigest (digest_of set_name key)
made_is set_name key = record {
  size = length-ripemd160 (set_name ++ 3 ∷ key);
  each = bytes-ripemd160 (set_name ++ 3 ∷ key);
}

named_by : (t : Bool) (a b : List ℕ) → IsDigest a → IsDigest b → IsDigest (cond t a b)
named_by true a b first second = first
named_by false a b first second = second

named_is : (text : List ℕ) → IsDigest (value.named_digest text)
named_is text = named_by (list_any value.is_slash text) _ _ (made_is (before_first value.is_slash text) (after_first value.is_slash text)) (made_is [] text)

key_by : (t : Bool) (bytes text digest : List ℕ) → cond t (value.written_digest bytes) (Ok (value.named_digest text)) ≡ Ok digest → IsDigest digest
key_by true bytes text digest e = written_is bytes digest e
key_by false bytes text digest e = subst IsDigest (ok_inside (value.named_digest text) digest (Ok (value.named_digest text)) refl e) (named_is text)

key_is : (text digest : List ℕ) → value.digest text ≡ Ok digest → IsDigest digest
key_is [] digest e = subst IsDigest (ok_inside (value.named_digest []) digest (Ok (value.named_digest [])) refl e) (named_is [])
key_is (b ∷ bytes) digest e = key_by (b == 35) bytes (b ∷ bytes) digest e

value_is : (text bytes : List ℕ) → IsBytes text → value.value text ≡ Ok bytes → IsValue bytes
value_is text bytes all e =
    let told = if_ok _ text bytes TooLongValue e in
    subst IsValue told.1 (record { limit = leb-true _ _ told.0; each = all_from_bytes text all })

-- ---- the fields are bytes

second_of : (fields : List (List ℕ)) (a b : List ℕ) → All IsBytes fields → count.two fields ≡ Ok (a, b) → IsBytes b
second_of [] a b all e = cc
second_of (x ∷ []) a b all e = cc
second_of (x ∷ y ∷ []) a b all e =
    let same : y ≡ b = ap (λ (p : List ℕ × List ℕ). p.1) (ok_inside (x, y) (a, b) (Ok (x, y)) refl e) in
    subst IsBytes same (all 1 [] (omega arith))
second_of (x ∷ y ∷ z ∷ more) a b all e = cc

third_of : (fields : List (List ℕ)) (a b d : List ℕ) → All IsBytes fields → count.three fields ≡ Ok (a, b, d) → IsBytes d
third_of [] a b d all e = cc
third_of (x ∷ []) a b d all e = cc
third_of (x ∷ y ∷ []) a b d all e = cc
third_of (x ∷ y ∷ z ∷ []) a b d all e =
    let same : z ≡ d = ap (λ (p : List ℕ × List ℕ × List ℕ). p.2) (ok_inside (x, y, z) (a, b, d) (Ok (x, y, z)) refl e) in
    subst IsBytes same (all 2 [] (omega arith))
third_of (x ∷ y ∷ z ∷ u ∷ more) a b d all e = cc

-- ---- fields that several forms have

at_node_is : (before : Before) (fields : List (List ℕ)) (id : ℕ) → form.at_node before fields ≡ Ok id → IsId id × Contains before.nodes id
at_node_is before fields id e =
    let f = from_then (count.one fields) (λ field. value.declared_node before field) id e in
    declared_is before f.0 id f.2

node_and_key_is : (before : Before) (fields : List (List ℕ)) (p : ℕ × List ℕ) → form.node_and_key before fields ≡ Ok p → IsId p.0 × Contains before.nodes p.0 × IsDigest p.1
node_and_key_is before fields p e =
    let f = from_then (count.two fields) (λ parts. and_then (value.declared_node before parts.0) (λ id. map_ok (λ digest. (id, digest)) (value.digest parts.1))) p e in
    let n = from_then (value.declared_node before f.0.0) (λ id. map_ok (λ digest. (id, digest)) (value.digest f.0.1)) p f.2 in
    let m = from_map (λ digest. (n.0, digest)) (value.digest f.0.1) p n.2 in
    let node = declared_is before f.0.0 n.0 n.1 in
    subst (λ (q : ℕ × List ℕ). IsId q.0 × Contains before.nodes q.0 × IsDigest q.1) (sym m.2) (node.0, node.1, key_is f.0.1 m.0 m.1)

node_key_and_value_is : (before : Before) (fields : List (List ℕ)) (p : ℕ × List ℕ × List ℕ) → All IsBytes fields → form.node_key_and_value before fields ≡ Ok p
    → IsId p.0 × Contains before.nodes p.0 × IsDigest p.1 × IsValue p.2
node_key_and_value_is before fields p all e =
    let f = from_then (count.three fields) (λ parts. and_then (value.declared_node before parts.0) (λ id. and_then (value.digest parts.1) (λ digest. map_ok (λ bytes. (id, digest, bytes)) (value.value parts.2)))) p e in
    let n = from_then (value.declared_node before f.0.0) (λ id. and_then (value.digest f.0.1) (λ digest. map_ok (λ bytes. (id, digest, bytes)) (value.value f.0.2))) p f.2 in
    let d = from_then (value.digest f.0.1) (λ digest. map_ok (λ bytes. (n.0, digest, bytes)) (value.value f.0.2)) p n.2 in
    let m = from_map (λ bytes. (n.0, d.0, bytes)) (value.value f.0.2) p d.2 in
    let node = declared_is before f.0.0 n.0 n.1 in
    subst (λ (q : ℕ × List ℕ × List ℕ). IsId q.0 × Contains before.nodes q.0 × IsDigest q.1 × IsValue q.2) (sym m.2)
    (node.0, node.1, key_is f.0.1 d.0 d.1, value_is f.0.2 m.0 (third_of fields f.0.0 f.0.1 f.0.2 all f.1) m.1)

one_key_is : (fields : List (List ℕ)) (digest : List ℕ) → form.key fields ≡ Ok digest → IsDigest digest
one_key_is fields digest e = let f = from_then (count.one fields) value.digest digest e in key_is f.0 digest f.2

key_and_value_is : (fields : List (List ℕ)) (p : List ℕ × List ℕ) → All IsBytes fields → form.key_and_value fields ≡ Ok p → IsDigest p.0 × IsValue p.1
key_and_value_is fields p all e =
    let f = from_then (count.two fields) (λ parts. and_then (value.digest parts.0) (λ digest. map_ok (λ bytes. (digest, bytes)) (value.value parts.1))) p e in
    let d = from_then (value.digest f.0.0) (λ digest. map_ok (λ bytes. (digest, bytes)) (value.value f.0.1)) p f.2 in
    let m = from_map (λ bytes. (d.0, bytes)) (value.value f.0.1) p d.2 in
    subst (λ (q : List ℕ × List ℕ). IsDigest q.0 × IsValue q.1) (sym m.2) (key_is f.0.0 d.0 d.1, value_is f.0.1 m.0 (second_of fields f.0.0 f.0.1 all f.1) m.1)

one_number_is : (fields : List (List ℕ)) (n : ℕ) → form.number fields ≡ Ok n → n < 2 ^ 64
one_number_is fields n e = let f = from_then (count.one fields) value.number n e in number_fits f.0 n f.2

one_partition_is : (fields : List (List ℕ)) (p : ℕ) → form.partition fields ≡ Ok p → p < partition_count
one_partition_is fields p e = let f = from_then (count.one fields) value.partition p e in partition_fits f.0 p f.2

-- ---- commands

good_clock : (before : Before) (fields : List (List ℕ)) (c : Command) → form.clock before fields ≡ Ok c → IsGood before kind.Clock c
good_clock before fields c e =
    let f = from_then (count.two fields) (λ parts. and_then (value.declared_node before parts.0) (λ id. map_ok (λ time. command.Clock id time) (value.number parts.1))) c e in
    let n = from_then (value.declared_node before f.0.0) (λ id. map_ok (λ time. command.Clock id time) (value.number f.0.1)) c f.2 in
    let m = from_map (λ time. command.Clock n.0 time) (value.number f.0.1) c n.2 in
    let node = declared_is before f.0.0 n.0 n.1 in
    subst (IsGood before kind.Clock) (sym m.2) (record { ranges = (node.0, number_fits f.0.1 m.0 m.1); named = node.1; word = refl })

good_cut : (before : Before) (fields : List (List ℕ)) (c : Command) → form.cut fields ≡ Ok c → IsGood before kind.Cut c
good_cut before fields c e =
    let f = from_then (count.two fields) (λ parts. and_then (value.number parts.0) (λ message. map_ok (λ size. command.Cut message size) (value.number parts.1))) c e in
    let n = from_then (value.number f.0.0) (λ message. map_ok (λ size. command.Cut message size) (value.number f.0.1)) c f.2 in
    let m = from_map (λ size. command.Cut n.0 size) (value.number f.0.1) c n.2 in
    subst (IsGood before kind.Cut) (sym m.2) (record { ranges = (number_fits f.0.0 n.0 n.1, number_fits f.0.1 m.0 m.1); named = tt; word = refl })

good_map : (before : Before) (fields : List (List ℕ)) (c : Command) → form.map before fields ≡ Ok c → IsGood before kind.Map c
good_map before fields c e =
    let f = from_then (count.three fields) (λ parts. and_then (value.declared_node before parts.0) (λ id. and_then (value.partition parts.1) (λ from. map_ok (λ to. command.Map id from to) (value.partition_from from parts.2)))) c e in
    let n = from_then (value.declared_node before f.0.0) (λ id. and_then (value.partition f.0.1) (λ from. map_ok (λ to. command.Map id from to) (value.partition_from from f.0.2))) c f.2 in
    let p = from_then (value.partition f.0.1) (λ from. map_ok (λ to. command.Map n.0 from to) (value.partition_from from f.0.2)) c n.2 in
    let m = from_map (λ to. command.Map n.0 p.0 to) (value.partition_from p.0 f.0.2) c p.2 in
    let node = declared_is before f.0.0 n.0 n.1 in
    let range = partition_above p.0 f.0.2 m.0 m.1 in
    subst (IsGood before kind.Map) (sym m.2) (record { ranges = (node.0, range.0, range.1); named = node.1; word = refl })

pub good : (before : Before) (w : CommandWord) (fields : List (List ℕ)) (c : Command) → length before.nodes ≤ 16 → All IsBytes fields → form.command_line before w fields ≡ Ok c → IsGood before w c
good before kind.Clock fields c few all e = good_clock before fields c e
good before kind.Groups fields c few all e =
    let k = groups_kept before fields c few e in
    subst (IsGood before kind.Groups) (sym k.1) (record { ranges = k.2; named = k.3; word = refl })
good before kind.Tick fields c few all e =
    let m = from_map (λ id. command.Tick id) (form.at_node before fields) c e in let k = at_node_is before fields m.0 m.1 in
    subst (IsGood before kind.Tick) (sym m.2) (record { ranges = k.0; named = k.1; word = refl })
good before kind.Stop fields c few all e =
    let m = from_map (λ id. command.Stop id) (form.at_node before fields) c e in let k = at_node_is before fields m.0 m.1 in
    subst (IsGood before kind.Stop) (sym m.2) (record { ranges = k.0; named = k.1; word = refl })
good before kind.Start fields c few all e =
    let m = from_map (λ id. command.Start id) (form.at_node before fields) c e in let k = at_node_is before fields m.0 m.1 in
    subst (IsGood before kind.Start) (sym m.2) (record { ranges = k.0; named = k.1; word = refl })
good before kind.Put fields c few all e =
    let m = from_map (λ p. command.Put p.0 p.1 p.2) (form.node_key_and_value before fields) c e in let k = node_key_and_value_is before fields m.0 all m.1 in
    subst (IsGood before kind.Put) (sym m.2) (record { ranges = (k.0, k.2, k.3); named = k.1; word = refl })
good before kind.Get fields c few all e =
    let m = from_map (λ p. command.Get p.0 p.1) (form.node_and_key before fields) c e in let k = node_and_key_is before fields m.0 m.1 in
    subst (IsGood before kind.Get) (sym m.2) (record { ranges = (k.0, k.2); named = k.1; word = refl })
good before kind.Del fields c few all e =
    let m = from_map (λ p. command.Del p.0 p.1) (form.node_and_key before fields) c e in let k = node_and_key_is before fields m.0 m.1 in
    subst (IsGood before kind.Del) (sym m.2) (record { ranges = (k.0, k.2); named = k.1; word = refl })
good before kind.ClientPut fields c few all e =
    let m = from_map (λ p. command.ClientPut p.0 p.1) (form.key_and_value fields) c e in let k = key_and_value_is fields m.0 all m.1 in
    subst (IsGood before kind.ClientPut) (sym m.2) (record { ranges = (k.0, k.1); named = tt; word = refl })
good before kind.ClientGet fields c few all e =
    let m = from_map (λ digest. command.ClientGet digest) (form.key fields) c e in let k = one_key_is fields m.0 m.1 in
    subst (IsGood before kind.ClientGet) (sym m.2) (record { ranges = k; named = tt; word = refl })
good before kind.ClientDel fields c few all e =
    let m = from_map (λ digest. command.ClientDel digest) (form.key fields) c e in let k = one_key_is fields m.0 m.1 in
    subst (IsGood before kind.ClientDel) (sym m.2) (record { ranges = k; named = tt; word = refl })
good before kind.Ask fields c few all e =
    let m = from_map (λ id. command.Ask id) (form.at_node before fields) c e in let k = at_node_is before fields m.0 m.1 in
    subst (IsGood before kind.Ask) (sym m.2) (record { ranges = k.0; named = k.1; word = refl })
good before kind.Deliver fields c few all e =
    let m = from_map (λ n. command.Deliver n) (form.number fields) c e in let k = one_number_is fields m.0 m.1 in
    subst (IsGood before kind.Deliver) (sym m.2) (record { ranges = k; named = tt; word = refl })
good before kind.Repeat fields c few all e =
    let m = from_map (λ n. command.Repeat n) (form.number fields) c e in let k = one_number_is fields m.0 m.1 in
    subst (IsGood before kind.Repeat) (sym m.2) (record { ranges = k; named = tt; word = refl })
good before kind.Lose fields c few all e =
    let m = from_map (λ n. command.Lose n) (form.number fields) c e in let k = one_number_is fields m.0 m.1 in
    subst (IsGood before kind.Lose) (sym m.2) (record { ranges = k; named = tt; word = refl })
good before kind.Cut fields c few all e = good_cut before fields c e
good before kind.Flow fields c few all e =
    let m = from_map (λ _. command.Flow) (count.no_fields fields) c e in
    subst (IsGood before kind.Flow) (sym m.2) (record { ranges = tt; named = tt; word = refl })
good before kind.Round fields c few all e =
    let m = from_map (λ _. command.Round) (count.no_fields fields) c e in
    subst (IsGood before kind.Round) (sym m.2) (record { ranges = tt; named = tt; word = refl })
good before kind.Calm fields c few all e =
    let m = from_map (λ _. command.Calm) (count.no_fields fields) c e in
    subst (IsGood before kind.Calm) (sym m.2) (record { ranges = tt; named = tt; word = refl })
good before kind.Map fields c few all e = good_map before fields c e
good before kind.Place fields c few all e =
    let m = from_map (λ p. command.Place p) (form.partition fields) c e in let k = one_partition_is fields m.0 m.1 in
    subst (IsGood before kind.Place) (sym m.2) (record { ranges = k; named = tt; word = refl })
good before kind.Hash fields c few all e =
    let m = from_map (λ digest. command.Hash digest) (form.key fields) c e in let k = one_key_is fields m.0 m.1 in
    subst (IsGood before kind.Hash) (sym m.2) (record { ranges = k; named = tt; word = refl })
good before kind.Show fields c few all e =
    let m = from_map (λ p. command.Show p.0 p.1) (form.node_and_key before fields) c e in let k = node_and_key_is before fields m.0 m.1 in
    subst (IsGood before kind.Show) (sym m.2) (record { ranges = (k.0, k.2); named = k.1; word = refl })
good before kind.Quiesce fields c few all e =
    let m = from_map (λ id. command.Quiesce id) (form.at_node before fields) c e in let k = at_node_is before fields m.0 m.1 in
    subst (IsGood before kind.Quiesce) (sym m.2) (record { ranges = k.0; named = k.1; word = refl })
good before kind.Unquiesce fields c few all e =
    let m = from_map (λ id. command.Unquiesce id) (form.at_node before fields) c e in let k = at_node_is before fields m.0 m.1 in
    subst (IsGood before kind.Unquiesce) (sym m.2) (record { ranges = k.0; named = k.1; word = refl })
good before kind.ProxyGet fields c few all e =
    let m = from_map (λ p. command.ProxyGet p.0 p.1) (form.node_and_key before fields) c e in let k = node_and_key_is before fields m.0 m.1 in
    subst (IsGood before kind.ProxyGet) (sym m.2) (record { ranges = (k.0, k.2); named = k.1; word = refl })
good before kind.ProxyPut fields c few all e =
    let m = from_map (λ p. command.ProxyPut p.0 p.1 p.2) (form.node_key_and_value before fields) c e in let k = node_key_and_value_is before fields m.0 all m.1 in
    subst (IsGood before kind.ProxyPut) (sym m.2) (record { ranges = (k.0, k.2, k.3); named = k.1; word = refl })
good before kind.ProxyDel fields c few all e =
    let m = from_map (λ p. command.ProxyDel p.0 p.1) (form.node_and_key before fields) c e in let k = node_and_key_is before fields m.0 m.1 in
    subst (IsGood before kind.ProxyDel) (sym m.2) (record { ranges = (k.0, k.2); named = k.1; word = refl })
good before kind.ProxyAgain fields c few all e =
    let m = from_map (λ id. command.ProxyAgain id) (form.at_node before fields) c e in let k = at_node_is before fields m.0 m.1 in
    subst (IsGood before kind.ProxyAgain) (sym m.2) (record { ranges = k.0; named = k.1; word = refl })
good before kind.CallGet fields c few all e =
    let m = from_map (λ digest. command.CallGet digest) (form.key fields) c e in let k = one_key_is fields m.0 m.1 in
    subst (IsGood before kind.CallGet) (sym m.2) (record { ranges = k; named = tt; word = refl })
good before kind.CallPut fields c few all e =
    let m = from_map (λ p. command.CallPut p.0 p.1) (form.key_and_value fields) c e in let k = key_and_value_is fields m.0 all m.1 in
    subst (IsGood before kind.CallPut) (sym m.2) (record { ranges = (k.0, k.1); named = tt; word = refl })
good before kind.CallDel fields c few all e =
    let m = from_map (λ digest. command.CallDel digest) (form.key fields) c e in let k = one_key_is fields m.0 m.1 in
    subst (IsGood before kind.CallDel) (sym m.2) (record { ranges = k; named = tt; word = refl })
good before kind.CallAgain fields c few all e =
    let m = from_map (λ n. command.CallAgain n) (form.number fields) c e in let k = one_number_is fields m.0 m.1 in
    subst (IsGood before kind.CallAgain) (sym m.2) (record { ranges = k; named = tt; word = refl })
good before kind.Scan fields c few all e =
    let m = from_map (λ p. command.Scan p) (form.partition fields) c e in let k = one_partition_is fields m.0 m.1 in
    subst (IsGood before kind.Scan) (sym m.2) (record { ranges = k; named = tt; word = refl })
good before kind.ScanNext fields c few all e =
    let m = from_map (λ n. command.ScanNext n) (form.number fields) c e in let k = one_number_is fields m.0 m.1 in
    subst (IsGood before kind.ScanNext) (sym m.2) (record { ranges = k; named = tt; word = refl })
