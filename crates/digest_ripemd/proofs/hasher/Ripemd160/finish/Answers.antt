use Rattle.std.proofs.Common.{◌∙◌, ap}
use Rattle.digest_ripemd.specs.Digests.{digest_bytes}
use Rattle.digest_ripemd.proofs.Feeding.{finished}
use Rattle.digest_ripemd.proofs.hasher.Ripemd160.finish.Goals as goal

pub returns : goal.returns
returns c = λ message is.
    c.new.ensures ∙ c.write_u32_into.ensures ∙ ap digest_bytes c.words-words.ensures
    ∙ finished _ _ _ message _ _ (c.self.view_is ∙ is) c.padding.ensures c.to_le_bytes.ensures c.absorb.ensures c.absorb-2.ensures
