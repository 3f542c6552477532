use Rattle.std.proofs.Common.{◌∙◌, ap, sym, List, Option, None, option_map}
use Rattle.std.specs.Prelude.{slice_index_or}
use Rattle.client_map.specs.declared.client_map.Entry.{Entry}
use Rattle.client_map.proofs.TableLaws.{node_told, told_of_some}
use Rattle.client_map.proofs.client_map.ClientMap.node_of.Goals as goal

pub returns-clause-told : goal.returns-clause-told
returns-clause-told c ts h some none =
    told_of_some ts c.args.p some
    (sym (node_told ts c.args.p)
    ∙ ap (option_map (λ (e : Entry). e.node)) (sym (h.told c.args.p c.node_in.ensures.range))
    ∙ ap (λ (entries : List (Option Entry)). option_map (λ (e : Entry). e.node) (slice_index_or entries c.args.p None)) (sym (c.deref.ensures.value ∙ c.self.view_is))
    ∙ sym c.node_in.ensures.value
    ∙ none)
