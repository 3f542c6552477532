-- Records, and what a node holds of them.
use Rattle.std.specs.Prelude.{ℕ, Bool, List, bytes_eq}
use Rattle.std.specs.Coded.{Coded, coded_ℕ, coded_list}
use Rattle.std.specs.List.{list_any}
use Rattle.std.specs.Ordering.{nat_cmp}
use Rattle.std.specs.Cmp.Lexicographic.{slice_cmp}
use Rattle.std.specs.FinMap as map
use Rattle.conflict_order.specs.declared.policy.Policy.{Policy}
use Rattle.conflict_order.specs.declared.version.Version.{Version}
use Rattle.conflict_order.specs.contracts.version.Version as version
use Rattle.conflict_order.specs.Join.{kept}

-- a digest with a version of it
abbrev pub Record : Type 0
Record = List ℕ × Version

-- whether the digest is one of the records'
abbrev pub is_among : List Record → List ℕ → Bool
is_among records d = list_any (λ r. bytes_eq r.0 d) records

-- the version that a transaction applied, and which of the node's writes in the view and partition
-- it is
pub record Write : Type 0 where
  pub version : Version
  pub nth : ℕ

-- a version for each digest that is held
abbrev pub Content : Type 0
Content = map.FinMap (slice_cmp nat_cmp) Version

-- the code of a content
abbrev pub content_code : Coded Content
content_code = map.code (coded_list coded_ℕ) version.the_row.coded

-- the content after a version came: at its digest stands the greater one
abbrev pub joined : Policy → Content → List ℕ → Version → Content
joined by content digest v = map.insert content digest (kept by (map.get content digest) v)
