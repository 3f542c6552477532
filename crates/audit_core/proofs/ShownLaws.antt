-- What a map line is to show is told by what is known.
use Rattle.std.proofs.Common.{◌≡◌, ℕ, zero, suc, ◌<◌, ◌+◌, Bool, true, List, [], ◌∷◌, ◌++◌, length, get_or, map, Option, Some, ◌↔◌, refl, sym, ap, ap₂, subst, ◌∙◌, arith}
use Rattle.std.specs.Prelude.{is_some, take, slice_get, IsTrue}
use Rattle.std.proofs.lemmas.List.{take_more, length-map}
use Rattle.cluster_types.specs.declared.cluster_key.ClusterKey.{ClusterKey}
use Rattle.cluster_types.specs.declared.member.Member.{Member}
use Rattle.cluster_types.specs.Members.{ids_of}
use Rattle.partition_lists.specs.Lists as lists
use Rattle.partition_lists.proofs.ListLaws.{list_length}
use Rattle.journal_lines.specs.declared.line.Line.{Line}
use Rattle.journal_lines.specs.declared.line.Line.TheVariants as line
use Rattle.journal_readings.specs.Lines.{has_node}
use Rattle.journal_readings.specs.Maps.{acting, listed_members, with_roles}
use Rattle.journal_readings.specs.Settings.{factor_of}
use Rattle.journal_readings.specs.Shape.{Shape}
use Rattle.journal_readings.specs.Views.{members, succession_list}
use Rattle.journal_readings.proofs.Fronts.{and_left, same_key_is}
use Rattle.audit_laws.specs.Fits.{enters_key}
use Rattle.audit_laws.proofs.ShapeSteps.{members_are}
use Rattle.audit_laws.proofs.Tests.{differ}
use Rattle.audit_core.specs.declared.judge.Judge.{Judge}
use Rattle.audit_core.specs.declared.maps.Whole.{Whole}
use Rattle.audit_state.specs.declared.views.View.{View}
use Rattle.audit_core.specs.Audits.{Audits, so_far, KeepsAll, entered_whole}
use Rattle.audit_core.specs.Known.{kept_view}
use Rattle.audit_core.specs.Wholes as known
use Rattle.audit_core.proofs.KeyLaws.{any_at}
use Rattle.audit_core.proofs.MapLaws.{acting_so}

-- ---- a view that was entered has members

pub some_members : (j : List Line) (i : ℕ) (x : Line) (k : ClusterKey) → Shape j → slice_get j i ≡ Some x → enters_key k x ≡ true → 0 < length (members k j)
some_members j i (line.Enter n l ms) k shape e h =
    let here : slice_get j i ≡ Some (line.Enter n k ms) = subst (λ (z : ClusterKey). slice_get j i ≡ Some (line.Enter n z ms)) (same_key_is l k h) e in
    subst (λ (others : List Member). 0 < length others) (members_are j shape.one_list i n k ms here)
    (some ms (and_left (has_node (ids_of ms) n) _ (shape.entered i (line.Enter n l ms) e)))
  where
    some : (others : List Member) → has_node (ids_of others) n ≡ true → 0 < length others
    some [] q = differ q refl
    some (m ∷ others) q = omega arith
some_members j i x k shape e h = differ h refl

pub some_listed : (s : Judge) (i : ℕ) (k : ClusterKey) (p : ℕ) → Audits s i → is_some (kept_view s k) ≡ true → 0 < length (succession_list k p (so_far s i))
some_listed s i k p h e =
    let first : (a : ℕ) × (x : Line) × (slice_get (so_far s i) a ≡ Some x) × (enters_key k x ≡ true) = any_at (enters_key k) (so_far s i) (sym (h.state.frame.known_views k) ∙ e) in
    let some : 0 < length (members k (so_far s i)) = some_members (so_far s i) first.0 first.1 k h.lawful.shape first.2 first.3 in
    omega (arith, list_length (members k (so_far s i)) p, some)

-- ---- the list

pub listed_so : (s : Judge) (k : ClusterKey) (p : ℕ) (x : View) (shown : List Member) (b : Bool) → kept_view s k ≡ Some x → IsTrue b ↔ (shown ≡ with_roles x.members (lists.list x.ranks p))
    → (i : ℕ) → Audits s i → is_some (kept_view s k) ≡ true → IsTrue b ↔ (shown ≡ listed_members k p (so_far s i))
listed_so s k p x shown b e told i h there =
    let same : with_roles x.members (lists.list x.ranks p) ≡ listed_members k p (so_far s i) =
    ap₂ (λ (ms ranks : List Member). with_roles ms (lists.list ranks p)) (h.state.frame.views k x e).members (h.state.frame.views k x e).ranks in
    subst (λ (ms : List Member). IsTrue b ↔ (shown ≡ ms)) same told

-- ---- the members with their keys

-- of the first members of the list the keys are told
pub record Told (old now : Judge) (k : ClusterKey) (p : ℕ) (found : List Whole) (done : List ℕ) : Type 0 where
  pub keeps : KeepsAll old now
  pub audits : (i : ℕ) → Audits old i → Audits now i
  pub wholes : (i : ℕ) → Audits old i → found ≡ known.with_keys (entered_whole old i k p) done

-- ---- the member that acts

pub acting_told : (s : Judge) (k : ClusterKey) (p : ℕ) (x : View) (ids : List ℕ) (found : List Whole) (o : Option ℕ) → kept_view s k ≡ Some x → ids ≡ lists.list x.ranks p
    → ((i : ℕ) → Audits s i → found ≡ known.with_keys (entered_whole s i k p) ids) → o ≡ known.first_newest found
    → (i : ℕ) → Audits s i → is_some (kept_view s k) ≡ true → o ≡ Some (acting (factor_of (so_far s i)) k p (so_far s i))
acting_told s k p x ids found o e listed told first i h there =
    first ∙ (ap known.first_newest (told i h ∙ ap (known.with_keys (entered_whole s i k p)) (listed ∙ ap (λ (ms : List Member). lists.list ms p) (h.state.frame.views k x e).ranks))
    ∙ acting_so (factor_of (so_far s i)) k p (so_far s i) (some_listed s i k p h there))

-- ---- lists one by one

got_mapped : (f : ℕ → Member) (ids : List ℕ) (i n : ℕ) (x : Member) → i < length ids → n ≡ get_or ids i n → get_or (map f ids) i x ≡ f n
got_mapped f [] i n x b at = absurd (omega (arith, b))
got_mapped f (m ∷ ids) zero n x b at = ap f (sym at)
got_mapped f (m ∷ ids) (suc i) n x b at = got_mapped f ids i n x (omega (arith, b)) at

pub listed_next : (f : ℕ → Member) (ids : List ℕ) (xs : List Member) (i n : ℕ) (x : Member) → i < length xs → i < length ids → x ≡ get_or xs i x → n ≡ get_or ids i n → x ≡ f n
    → take i xs ≡ take i (map f ids) → take (i + 1) xs ≡ take (i + 1) (map f ids)
listed_next f ids xs i n x a b read at same so =
    take_more xs i x a
    ∙ (ap₂ (λ (zs : List Member) (z : Member). zs ++ z ∷ []) so (sym read ∙ (same ∙ sym (got_mapped f ids i n x b at)))
    ∙ sym (take_more (map f ids) i x (omega (arith, length-map ids f, b))))
