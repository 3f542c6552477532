use Rattle.std.proofs.Common.{sym, ap, ◌∙◌}
use Rattle.cluster_types.specs.RowBytes.{bytes_again, bytes_of}
use Rattle.cluster_types.proofs.row.Row4096.as_bytes.Goals as goal

pub returns-clause-bytes : goal.returns-clause-bytes
returns-clause-bytes c = c.as_slice.ensures ∙ sym (bytes_again c.self.inside.bytes c.self.invariant) ∙ ap bytes_of c.self.view_is
