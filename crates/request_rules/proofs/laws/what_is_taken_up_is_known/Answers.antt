use Rattle.request_rules.specs.declared.taken.Outcome.TheVariants as outcome
use Rattle.request_rules.proofs.TakenLaws.{at_end, refused, refused_client, ended, others}
use Rattle.request_rules.proofs.laws.what_is_taken_up_is_known.Goals as goal

pub returns : goal.returns
returns c = record {
  opened = λ a taken n key t d action e. at_end taken a (outcome.Open t) e;
  refused = refused;
  client = refused_client;
  ended = ended;
  others = others;
}
