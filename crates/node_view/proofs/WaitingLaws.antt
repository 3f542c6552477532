-- At which stage of a view rows are missing.
use Rattle.std.proofs.Common.{◌≡◌, ℕ, true, false, Option, Some, None, refl, sym, ◌∙◌}
use Rattle.std.specs.Prelude.{IsSome, is_none}
use Rattle.cluster_types.specs.declared.cluster_key.ClusterKey.{ClusterKey}
use Rattle.exchange.specs.Met.{Met}
use Rattle.node_rules.specs.Copies.{Row}
use Rattle.node_rules.specs.Exchange.{first_missing, is_member, members_of, with_row}
use Rattle.node_rules.specs.Map.{lacks}
use Rattle.node_view.specs.declared.view.Stage.{Stage}
use Rattle.node_view.specs.declared.view.Stage.TheVariants as stage
use Rattle.node_view.specs.Views.{IsStageOf, exchange_at}
use Rattle.node_view.proofs.MissingLaws.{full_has, full_stays}

-- once the exchange is finished each member's row is there
pub exchanged_has : (me factor : ℕ) (key : ClusterKey) (s : Stage) (n : ℕ) → IsStageOf me factor key s → (exchange_at s).exchanged ≡ true → is_member (members_of (exchange_at s).view) n ≡ true
    → lacks (exchange_at s).rows n ≡ false
exchanged_has me factor key (stage.Exchanging x) n h done member = absurd (let wrong : false ≡ true = sym h.unfinished ∙ done in cc)
exchanged_has me factor key (stage.Exchanged m) n h done member = full_has m.map.exchange.rows (members_of m.map.exchange.view) n h.whole member
exchanged_has me factor key stage.Taken n h done member = absurd h

-- a member's row is missing while the exchange waits alone
pub lacking_waits : (me factor : ℕ) (key : ClusterKey) (s : Stage) (n : ℕ) → IsStageOf me factor key s → is_member (members_of (exchange_at s).view) n ≡ true → lacks (exchange_at s).rows n ≡ true
    → (x : Met) × (s ≡ stage.Exchanging x)
lacking_waits me factor key (stage.Exchanging x) n h member absent = (x, refl)
lacking_waits me factor key (stage.Exchanged m) n h member absent =
    absurd (let wrong : true ≡ false = sym absent ∙ full_has m.map.exchange.rows (members_of m.map.exchange.view) n h.whole member in cc)
lacking_waits me factor key stage.Taken n h member absent = absurd h

-- and one is missing after a member's came, too
pub more_waits : (me factor : ℕ) (key : ClusterKey) (s : Stage) (n : ℕ) (row : Row) → IsStageOf me factor key s → is_member (members_of (exchange_at s).view) n ≡ true
    → is_none (first_missing (with_row (exchange_at s).rows n row) (members_of (exchange_at s).view)) ≡ false → (x : Met) × (s ≡ stage.Exchanging x)
more_waits me factor key (stage.Exchanging x) n row h member more = (x, refl)
more_waits me factor key (stage.Exchanged m) n row h member more =
    absurd (let wrong : true ≡ false = sym (full_stays m.map.exchange.rows (members_of m.map.exchange.view) n row h.whole member) ∙ more in cc)
more_waits me factor key stage.Taken n row h member more = absurd h

-- ---- tests

pub some_is : {X : Type 0} (o : Option X) → is_none o ≡ false → IsSome o
some_is None h = absurd (let wrong : true ≡ false = h in cc)
some_is (Some x) h = refl

pub none_is : {X : Type 0} (o : Option X) → is_none o ≡ true → o ≡ None
none_is None h = refl
none_is (Some x) h = absurd (let wrong : false ≡ true = h in cc)
