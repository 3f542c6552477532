-- Records that came in pages.
use Rattle.std.specs.Prelude.{List, flat_map}
use Rattle.conflict_order.specs.Contents.{Record}

-- the records of the pages, one after another
abbrev pub in_one : List (List Record) → List Record
in_one pages = flat_map (λ page. page) pages
