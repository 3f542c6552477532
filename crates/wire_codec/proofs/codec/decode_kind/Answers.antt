use Rattle.std.proofs.Common.{◌≡◌, suc, ◌+◌, length, Some, arith, ap, subst}
use Rattle.wire_messages.specs.Decoding.{of_kind}
use Rattle.wire_messages.specs.Kinds.{kind_of}
use Rattle.wire_codec.proofs.CodecLaws.{other_kind, known_kind, fault_decodes}
use Rattle.wire_codec.proofs.codec.decode_kind.Goals as goal

pub returns-in_default-clause-decodes : goal.returns-in_default-clause-decodes
returns-in_default-clause-decodes c =
    ap (of_kind c.args.byte c.args.fields.now) (other_kind c.args.byte c.in_default.ensures.1)

pub returns-in-Err-clause-decodes : goal.returns-in-Err-clause-decodes
returns-in-Err-clause-decodes c =
    let k = known_kind c.in-Ok.kind in
    let known : kind_of c.args.byte ≡ Some k.0 = subst (λ byte. kind_of byte ≡ Some k.0) c.in-Ok.ensures k.1 in
    let size : length c.args.fields.now + 1 ≡ suc (length c.args.fields.now) = omega arith in
    rw c.located.ensures (fault_decodes c.args.byte c.args.fields.now (length c.args.fields.now + 1) c.in-Err.fault k.0 known size (c.in-Err.ensures.reads k.0 k.1))
