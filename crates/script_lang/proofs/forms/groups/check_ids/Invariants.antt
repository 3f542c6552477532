use Rattle.std.proofs.Common.{◌≡◌, length}
use Rattle.script_lang.proofs.Groups.{can_read}
use Rattle.script_lang.proofs.forms.groups.check_ids.Given as goal

abbrev pub invariant-loop-field : goal.invariant-loop-field
invariant-loop-field l = can_read l.before l.fields ≡ can_read l.before l.fn.fields

abbrev pub decreases-loop-field : goal.decreases-loop-field
decreases-loop-field l = length l.fields
