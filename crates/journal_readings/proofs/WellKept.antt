-- Journals in which, at every place, nothing is lost and keys rise.
use Rattle.std.proofs.Common.{◌≡◌, ℕ, Bool, true, false, List, [], ◌∷◌, Option, Some, None, ◌⊎◌, inl, inr, refl, sym, ap, subst, ◌∙◌}
use Rattle.std.specs.Prelude.{map, take, slice_get}
use Rattle.conflict_order.specs.declared.policy.Policy.TheVariants.{Time}
use Rattle.cluster_types.specs.declared.cluster_key.ClusterKey.{ClusterKey}
use Rattle.cluster_types.specs.declared.member.Member.{Member}
use Rattle.cluster_types.specs.ClusterKeys.{key_lt}
use Rattle.journal_lines.specs.declared.line.Line.{Line}
use Rattle.journal_readings.specs.Lines.{has_node}
use Rattle.journal_readings.specs.Contents.{content, applied, join_all}
use Rattle.journal_readings.specs.Views.{promised_key, last_key}
use Rattle.journal_readings.specs.NamedKeys.{names_promised, named_members}
use Rattle.journal_readings.specs.Claims.{NoLoss, KeysRise, RaisesKey}
use Rattle.journal_readings.specs.Examples.{digest, key, both, settled, agreed}
use Rattle.journal_readings.proofs.AlongLaws.{each, each_passes, some_same, no_some}
use Rattle.journal_readings.proofs.Computing.{computing}
use Rattle.journal_readings.proofs.Fronts.{AllFronts, each_front, of_node, others_unmoved, unmoved_front, promised_key-none, last_key-none}
use Rattle.journal_readings.proofs.Unwritten.{IsUnwritten, written_or_not, unwritten_front, content-none, applied-none, join_all-none}

-- ---- nothing is lost

-- the record's newest version in the stores is the newest that was applied
abbrev KeepsAll : List ℕ → List Line → Type 0
KeepsAll d lines = join_all Time (map (λ n. content Time n d lines) (1 ∷ 2 ∷ [])) ≡ applied Time d lines

keeps_each : AllFronts (KeepsAll digest) [] settled
unfolding computing
keeps_each = (refl, (refl, (refl, (refl, (refl, (refl, (refl, (refl, (refl, (refl, (refl, (refl, (refl, (refl, (refl, (refl, (refl, (refl, (refl, (refl, (refl, (refl, (refl, (refl, (refl, (refl, (refl, (refl, (refl, (refl, (refl, refl)))))))))))))))))))))))))))))))

kept : (i : ℕ) (d : List ℕ) → (digest ≡ d) ⊎ IsUnwritten d settled → KeepsAll d (take i settled)
kept i d (inl same) = subst (λ (e : List ℕ). KeepsAll e (take i settled)) same (each_front (KeepsAll digest) settled keeps_each i)
kept i d (inr unwritten) =
    let h : IsUnwritten d (take i settled) = unwritten_front d i settled unwritten in
    join_all-none Time (λ n. content Time n d (take i settled)) (1 ∷ 2 ∷ []) (λ n. content-none Time n d (take i settled) h)
    ∙ sym (applied-none Time d (take i settled) h)

pub nothing_lost : NoLoss settled
unfolding computing
nothing_lost = record { none_lost = λ i d. kept i d (written_or_not digest settled refl d) }

-- ---- keys rise

raised : (i : ℕ) (l : Line) → slice_get agreed i ≡ Some l → RaisesKey (take i agreed) l
unfolding computing
raised = each RaisesKey agreed (tt, (tt, (refl, (tt, (tt, (refl, (tt, (tt, (refl, (tt, (tt, (refl, tt))))))))))))

-- the node has entered nothing above what it has promised
abbrev IsBelow : ℕ → List Line → Type 0
IsBelow n lines = key_lt (promised_key n lines) (last_key n lines) ≡ false

below_each : (n : ℕ) → has_node (1 ∷ 2 ∷ []) n ≡ true → AllFronts (IsBelow n) [] agreed
unfolding computing
below_each = of_node (λ n. AllFronts (IsBelow n) [] agreed) (1 ∷ 2 ∷ []) ((refl, (refl, (refl, (refl, (refl, (refl, (refl, (refl, (refl, (refl, (refl, (refl, refl)))))))))))), ((refl, (refl, (refl, (refl, (refl, (refl, (refl, (refl, (refl, (refl, (refl, (refl, refl)))))))))))), tt))

below : (i n : ℕ) (b : Bool) → has_node (1 ∷ 2 ∷ []) n ≡ b → IsBelow n (take i agreed)
below i n true e = each_front (IsBelow n) agreed (below_each n e) i
below i n false e =
    let h = unmoved_front n i agreed (others_unmoved (1 ∷ 2 ∷ []) n e agreed refl) in
    ap (λ (k : ClusterKey). key_lt k (last_key n (take i agreed))) (promised_key-none n (take i agreed) h)
    ∙ ap (λ (k : ClusterKey). key_lt (key 0 0) k) (last_key-none n (take i agreed) h)

-- who names members names these
abbrev NamesBoth : List Line → Line → Type 0
NamesBoth before l = (k : ClusterKey) (ms : List Member) → named_members l ≡ Some (k, ms) → ms ≡ both

names_none : (o : Option (ClusterKey × List Member)) → o ≡ None → (k : ClusterKey) (ms : List Member) → o ≡ Some (k, ms) → ms ≡ both
names_none o none k ms e = absurd (no_some (sym none ∙ e))

names_both : (o : Option (ClusterKey × List Member)) → o ≡ Some (key 1 2, both) → (k : ClusterKey) (ms : List Member) → o ≡ Some (k, ms) → ms ≡ both
names_both o some k ms e = ap (λ (x : ClusterKey × List Member). x.1) (some_same (sym e ∙ some))

named : (i : ℕ) (l : Line) → slice_get agreed i ≡ Some l → NamesBoth (take i agreed) l
unfolding computing
named = each NamesBoth agreed (names_none _ refl, (names_none _ refl, (names_none _ refl, (names_both _ refl, (names_none _ refl, (names_none _ refl, (names_none _ refl, (names_none _ refl, (names_both _ refl, (names_both _ refl, (names_none _ refl, (names_both _ refl, tt))))))))))))

pub keys_rise_all : KeysRise agreed
unfolding computing
keys_rise_all = record {
  rises = raised;
  promised = λ i n. below i n (has_node (1 ∷ 2 ∷ []) n) refl;
  named = each_passes names_promised agreed refl;
  one_list = λ i o l m k ms others e f g h. named i l e k ms g ∙ sym (named o m f k others h);
}
