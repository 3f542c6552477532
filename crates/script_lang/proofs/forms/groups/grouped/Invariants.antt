use Rattle.std.proofs.Common.{◌≡◌, ◌≤◌, ◌++◌, true, List, ℕ, Ok, length}
use Rattle.std.specs.List.{concat, list_all}
use Rattle.script_lang.specs.Forms.{group_ids}
use Rattle.script_lang.proofs.Groups.{Continues}
use Rattle.script_lang.proofs.Grouped.{is_some}
use Rattle.script_lang.proofs.forms.groups.grouped.Given as goal

abbrev pub invariant-loop-field : goal.invariant-loop-field
invariant-loop-field l = record {
  continues : (all : List (List ℕ)) → group_ids l.before l.fn.fields ≡ Ok all → Continues l.before all l.groups l.group l.fields;
  seen : l.seen ≡ concat l.groups ++ l.group;
  filled : list_all is_some l.groups ≡ true;
  limit : length l.seen ≤ 16;
}

abbrev pub decreases-loop-field : goal.decreases-loop-field
decreases-loop-field l = length l.fields
