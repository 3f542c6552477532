use Rattle.std.proofs.Common.{◌≡◌, true, false, ◌∙◌}
use Rattle.world.proofs.ShowingLaws.{none_placed}
use Rattle.world.proofs.showing.place.Goals as goal

pub returns-in-Err : goal.returns-in-Err
returns-in-Err c = c.new.ensures ∙ none_placed c.args.members.now c.args.partition c.requires.limit c.requires.order (λ members. let wrong : false ≡ true = c.in-Err.ensures.valid.1 members in cc)
