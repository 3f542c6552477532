use Rattle.key_laws.proofs.Runs.{sound_at}
use Rattle.key_laws.proofs.laws.keys_stand_at_every_mark.Goals as goal

pub returns : goal.returns
returns c = record {
  nodes = λ n s p j r i. (sound_at n s j p r i).nodes;
  lists = λ n s p j r i. (sound_at n s j p r i).lists;
  messages = λ n s p j r i. (sound_at n s j p r i).sent;
  tables = λ n s p j r i. (sound_at n s j p r i).tables;
}
