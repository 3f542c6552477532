-- What holds of every journal holds where there is no line.
use Rattle.std.proofs.Common.{◌≡◌, ℕ, zero, suc, List, [], take, Some, refl, false, arith}
use Rattle.std.specs.Prelude.{slice_get}
use Rattle.std.proofs.lemmas.Option.{slice_get_within}
use Rattle.cluster_types.specs.declared.cluster_key.ClusterKey.{ClusterKey}
use Rattle.journal_lines.specs.declared.line.Line.{Line}
use Rattle.journal_readings.specs.Claims.{newest}
use Rattle.journal_readings.specs.Contents.{applied, content}
use Rattle.journal_readings.specs.Entries.{entry}
use Rattle.journal_readings.specs.Settings.{nodes, policy_of}
use Rattle.journal_readings.specs.Views.{last_key, promised_key, view}
use Rattle.cluster_types.specs.ClusterKeys.{key_lt}
use Rattle.world.specs.Claims.{HasClaims}

no_line : {A : Type 0} (i : ℕ) (l : Line) → slice_get [] i ≡ Some l → A
no_line i l e = absurd (omega (arith, slice_get_within [] i l e))

none_lost : (i : ℕ) (d : List ℕ) → newest [] d i ≡ applied (policy_of []) d (take i [])
unfolding applied content nodes
none_lost zero d = refl
none_lost (suc i) d = refl

no_view : (r i : ℕ) (k : ClusterKey) → view r (take i []) ≡ Some k → ⊥
unfolding view
no_view r zero k e = cc
no_view r (suc i) k e = cc

same_entries : (i : ℕ) (k : ClusterKey) (n m : ℕ) (d : List ℕ) → entry (policy_of []) k n d (take i []) ≡ entry (policy_of []) k m d (take i [])
unfolding entry
same_entries zero k n m d = refl
same_entries (suc i) k n m d = refl

none_promised : (i n : ℕ) → key_lt (promised_key n (take i [])) (last_key n (take i [])) ≡ false
unfolding promised_key last_key
none_promised zero n = refl
none_promised (suc i) n = refl

pub no_claims_fail : HasClaims []
no_claims_fail = record {
  one_map = record { shown = λ i l e. no_line i l e; same = λ i o n m p k ms others a b e f. no_line i _ e };
  no_loss = record { none_lost = none_lost };
  settled_join = record { whole = λ i k r d settled closed served replica viewed. absurd (no_view r i k viewed) };
  read_join = record { joined = λ i l e. no_line i l e };
  equal_classes = record { equal = λ i k n m d same. same_entries i k n m d };
  keys_rise = record { rises = λ i l e. no_line i l e; promised = none_promised; named = λ i l e. no_line i l e; one_list = λ i o l m k ms others e f g h. no_line i l e };
  calm_end = record { at_rest = λ i rounds e. no_line i _ e };
}
