-- A header keeps its ranges with one line more.
use Rattle.std.proofs.Common.{◌≡◌, ℕ, ◌<◌, Bool, true, false, List, [], ◌∷◌, ◌++◌, length, sym, arith, subst, length-append}
use Rattle.std.specs.Prelude.{All}
use Rattle.std.proofs.lemmas.List.{append-nil}
use Rattle.std.proofs.lemmas.List.Elements.{filter_map-append, All-nil, All-cons, All-append}
use Rattle.cluster_types.specs.NodeLists.{IsNodeList}
use Rattle.cluster_types.proofs.DistinctLaws.{none_distinct, distinct_push}
use Rattle.script_lang.specs.declared.script.HeaderLine.{HeaderLine}
use Rattle.script_lang.specs.declared.script.HeaderLine.TheVariants as header
use Rattle.script_lang.specs.Before.{MayDeclare, nodes_of, node_in}
use Rattle.script_lang.specs.Headers.{IsProperHeader, IsProperHeaderLine}
use Rattle.script_lang.proofs.Ranges.{contained}

pub nodes_more : (lines : List HeaderLine) (h : HeaderLine) → nodes_of (lines ++ h ∷ []) ≡ nodes_of lines ++ nodes_of (h ∷ [])
nodes_more lines h = filter_map-append node_in lines (h ∷ [])

pub declared_more : (nodes : List ℕ) (h : HeaderLine) → IsNodeList nodes → MayDeclare nodes h → IsNodeList (nodes ++ nodes_of (h ∷ []))
declared_more nodes (header.Script version) n m = subst IsNodeList (sym (append-nil nodes)) n
declared_more nodes (header.Factor factor) n m = subst IsNodeList (sym (append-nil nodes)) n
declared_more nodes (header.Node node rack) n m =
    let few = m.1 in
    record { limit = omega (arith, few, length-append nodes (node ∷ [])); distinct = distinct_push nodes node n.distinct (λ found. clash (contained node nodes found) m.0) }
  where
    clash : {t : Bool} → t ≡ true → t ≡ false → ⊥
    clash p q = cc
declared_more nodes (header.Policy policy) n m = subst IsNodeList (sym (append-nil nodes)) n

pub no_line : (lines : List HeaderLine) → lines ≡ [] → IsProperHeader lines
no_line lines none = subst IsProperHeader (sym none) (record { ranges = All-nil IsProperHeaderLine; nodes = record { limit = omega arith; distinct = none_distinct } })

pub line_more : (lines more : List HeaderLine) (h : HeaderLine) → more ≡ lines ++ h ∷ [] → IsProperHeader lines → MayDeclare (nodes_of lines) h → IsProperHeaderLine h → IsProperHeader more
line_more lines more h is p declares ranges = subst IsProperHeader (sym is) (record {
  ranges = All-append IsProperHeaderLine lines (h ∷ []) p.ranges (All-cons IsProperHeaderLine h [] ranges (All-nil IsProperHeaderLine));
  nodes = subst IsNodeList (sym (nodes_more lines h)) (declared_more (nodes_of lines) h p.nodes declares);
})
