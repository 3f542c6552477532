-- Journals in which something went wrong, and the claims that they refuse.
use Rattle.std.proofs.Common.{◌≡◌, ℕ, ◌==◌, Bool, true, false, Option, Some, None, refl, sym, ap, subst, lit<, [], ◌∷◌}
use Rattle.std.specs.Prelude.{List, length, slice_index}
use Rattle.conflict_order.specs.declared.version.Version.{Version}
use Rattle.conflict_order.specs.declared.version.Body.{Body}
use Rattle.conflict_order.specs.declared.version.Body.TheVariants as body
use Rattle.cluster_types.specs.declared.member.Member.{Member}
use Rattle.wire_messages.specs.declared.message.Message.TheVariants as message
use Rattle.wire_messages.specs.Spelling.{spelling}
use Rattle.journal_lines.specs.declared.line.Line.TheVariants as line
use Rattle.conflict_order.specs.declared.policy.Policy.TheVariants.{Time}
use Rattle.cluster_types.specs.declared.cluster_key.ClusterKey.{ClusterKey}
use Rattle.std.specs.Prelude.{take}
use Rattle.journal_readings.specs.CalmEnd.{CalmEnd, RestsIn}
use Rattle.journal_readings.specs.Claims.{OneMap, NoLoss, SettledJoin, ReadJoin, EqualClasses, KeysRise}
use Rattle.journal_readings.specs.Examples.{digest, key, version, both, two, unpromised, two_lists, outdated, unsettled, misread, unmerged, lost, uneasy, misled, garbled, reused}
use Rattle.journal_readings.proofs.AlongLaws.{some_same}
use Rattle.journal_readings.proofs.Computing.{computing}

abbrev begins_with_a : Body → Bool
begins_with_a body.Tombstone = false
begins_with_a (body.Value bytes) = slice_index bytes 0 == 97

-- whether the value of the version begins with this byte, which is the letter a
abbrev has_a : Option Version → Bool
has_a None = false
has_a (Some v) = begins_with_a v.body

-- whether the first member is marked
abbrev is_marked : List Member → Bool
is_marked [] = false
is_marked (m ∷ ms) = m.role.quiesced

differ : false ≡ true → ⊥
differ e = cc

differ_too : true ≡ false → ⊥
differ_too e = cc

-- line 12 reads what wasn't written
pub misread_refused : ¬ (ReadJoin misread)
unfolding computing
misread_refused h = differ (ap has_a (h.joined 11 (line.Value 1 (key 1 1) 2 digest (Some (version 0 1 98))) refl))

-- the replica lacks what the other side had
pub unmerged_refused : ¬ (SettledJoin unmerged)
unfolding computing
unmerged_refused h = differ (ap has_a (h.whole 100 (key 4 2) 2 digest refl refl refl refl refl))

-- no store has what was applied
pub lost_refused : ¬ (NoLoss lost)
unfolding computing
lost_refused h = differ (ap has_a (h.none_lost 100 digest))

-- the member whose copy is newest is to act
pub misled_refused : ¬ (OneMap misled)
unfolding computing
misled_refused h = differ (ap (λ (n : ℕ). n == 1) (h.shown 22 (line.Map 2 (key 4 2) 4095 both 2) refl).1)

-- copies of one class differ
pub garbled_refused : ¬ (EqualClasses garbled)
unfolding computing
garbled_refused h = differ_too (ap has_a (h.equal 100 (key 2 2) 2 1 digest refl))

-- line 7 promises a key again
pub reused_refused : ¬ (KeysRise reused)
unfolding computing
reused_refused h = differ (h.rises 6 (line.Promise 2 (key 1 2)) refl)

-- line 7 names a key above what its principal has promised
pub unpromised_refused : ¬ (KeysRise unpromised)
unfolding computing
unpromised_refused h = differ (h.named 6 (line.Sent 1 1 2 (spelling (message.Accept (key 2 2)))) refl)

-- line 7 has another list than line 3
pub two_lists_refused : ¬ (KeysRise two_lists)
unfolding computing
two_lists_refused h =
    differ_too (ap (λ (ms : List Member). 1 == length ms)
    (h.one_list 6 2 (line.Sent 1 2 1 (spelling (message.Commit (key 1 2) two))) (line.Enter 1 (key 1 2) both) (key 1 2) two both refl refl refl refl))

-- a world that rests in some view rests in the one that both nodes are in, whose replica lacks what the other has
pub uneasy_refused : ¬ (CalmEnd uneasy)
unfolding computing
uneasy_refused h =
    let x : (k : ClusterKey) × RestsIn Time 1 (1 ∷ 2 ∷ []) k (take 22 uneasy) = h.at_rest 22 9 refl (1 ∷ 2 ∷ []) 1 (0, lit< tt, refl) (0, lit< tt, refl) refl in
    let same : key 4 2 ≡ x.0 = some_same (x.1.viewed 1 (0, lit< tt, refl) refl) in
    let y : RestsIn Time 1 (1 ∷ 2 ∷ []) (key 4 2) (take 22 uneasy) = subst (λ (k : ClusterKey). RestsIn Time 1 (1 ∷ 2 ∷ []) k (take 22 uneasy)) (sym same) x.1 in
    differ (ap has_a (y.spread.replicas 2 digest refl))

-- a world that rests in some view rests in the one that the node is in, which has it without its mark
pub outdated_refused : ¬ (CalmEnd outdated)
unfolding computing
outdated_refused h =
    let x : (k : ClusterKey) × RestsIn Time 1 (1 ∷ []) k (take 13 outdated) = h.at_rest 13 0 refl (1 ∷ []) 1 (0, lit< tt, refl) (0, lit< tt, refl) refl in
    let same : key 1 1 ≡ x.0 = some_same (x.1.viewed 1 (0, lit< tt, refl) refl) in
    let y : RestsIn Time 1 (1 ∷ []) (key 1 1) (take 13 outdated) = subst (λ (k : ClusterKey). RestsIn Time 1 (1 ∷ []) k (take 13 outdated)) (sym same) x.1 in
    differ (ap is_marked y.among)

-- the copies are equal, but the list master hasn't settled the partition
pub unsettled_refused : ¬ (CalmEnd unsettled)
unfolding computing
unsettled_refused h =
    let x : (k : ClusterKey) × RestsIn Time 2 (1 ∷ 2 ∷ []) k (take 23 unsettled) = h.at_rest 23 5 refl (1 ∷ 2 ∷ []) 1 (0, lit< tt, refl) (0, lit< tt, refl) refl in
    let same : key 2 2 ≡ x.0 = some_same (x.1.viewed 1 (0, lit< tt, refl) refl) in
    let y : RestsIn Time 2 (1 ∷ 2 ∷ []) (key 2 2) (take 23 unsettled) = subst (λ (k : ClusterKey). RestsIn Time 2 (1 ∷ 2 ∷ []) k (take 23 unsettled)) (sym same) x.1 in
    differ (y.settled.settled 4095 (lit< tt))
