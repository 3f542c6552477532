use Rattle.std.proofs.Common.{◌≡◌, ◌≤◌, ◌+◌, length}
use Rattle.script_lang.specs.Grammar.{empty_script, script_from}
use Rattle.script_lang.specs.Layout.{lines_of}
use Rattle.script_lang.proofs.Spoken.{Begins}
use Rattle.script_lang.proofs.reader.parse.Given as goal

abbrev pub invariant-loop-text : goal.invariant-loop-text
invariant-loop-text l = record {
  so_far : script_from l.line l.reader (lines_of l.rest) ≡ script_from 1 empty_script (lines_of l.bytes);
  begins : Begins l.reader (lines_of l.rest) (lines_of l.bytes);
  short : length l.reader.commands + length l.rest ≤ length l.bytes;
  counted : l.line + length l.rest ≤ 1 + length l.bytes;
}

abbrev pub decreases-loop-text : goal.decreases-loop-text
decreases-loop-text l = length l.rest
