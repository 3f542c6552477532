use Rattle.std.proofs.Common.{arith}
use Rattle.wire_codec.proofs.CodecLaws.{decoded_found, decoded_only, bytes_small}
use Rattle.wire_codec.proofs.codec.decode.Goals as goal

pub returns-clause-found : goal.returns-clause-found
returns-clause-found c = decoded_found c.args.bytes.now c.decode_whole.result (bytes_small c.args.bytes.now (λ i. omega (arith, c.type_inv.bytes i))) c.decode_whole.ensures.decodes

pub returns-clause-only : goal.returns-clause-only
returns-clause-only c = decoded_only c.args.bytes.now c.decode_whole.result c.decode_whole.ensures.decodes
