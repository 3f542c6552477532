use Rattle.std.proofs.Common.{◌∙◌, sym, ap, string_bytes}
use Rattle.clap.specs.Simple.{is_simple}
use Rattle.clap.specs.Faults.{is_simple_and_free}
use Rattle.clap.specs.Words.{found_of}
use Rattle.cluster_top.proofs.WordWalks.{simple, simple_and_free}
use Rattle.cluster_top.proofs.WordLaws.{asking_is_taken, dashes_among, dashes_ask_nothing, memory_is_not_bad, no_number_asks_nothing, taken_asks}
use Rattle.cluster_top.proofs.words.read_words.Goals as goal

pub returns-then-has_dashes-clause-bad : goal.returns-then-has_dashes-clause-bad
returns-then-has_dashes-clause-bad c = λ _. dashes_ask_nothing _ (dashes_among string_bytes c.args.words.now ∙ sym c.has_dashes.ensures ∙ c.if-has_dashes.true)

pub returns-in_err-matches-clause-bad : goal.returns-in_err-matches-clause-bad
returns-in_err-matches-clause-bad c = λ bad w a.
    let k = asking_is_taken _ _ w _ c.in_ok-command.ensures c.in_err-matches.ensures.kinds a in
    memory_is_not_bad _ _ bad c.from_residual-in_err-matches.ensures.1 k

pub returns-in_err-number_given-clause-bad : goal.returns-in_err-number_given-clause-bad
returns-in_err-number_given-clause-bad c = λ _.
    no_number_asks_nothing _ _ (found_of c.in_ok-matches.matches) c.in_ok-command.ensures (c.in_ok-matches.ensures.matches (ap is_simple c.in_ok-command.ensures ∙ simple)).0 c.in_err-number_given.ensures.err

pub returns-clause-asked : goal.returns-clause-asked
returns-clause-asked c =
    taken_asks _ _ (found_of c.in_ok-matches.matches) _ _ c.in_ok-command.ensures (c.in_ok-matches.ensures.matches (ap is_simple c.in_ok-command.ensures ∙ simple)).0
    (c.in_ok-matches.ensures.kinds (ap is_simple_and_free c.in_ok-command.ensures ∙ simple_and_free))
    (dashes_among string_bytes c.args.words.now ∙ sym c.has_dashes.ensures ∙ c.if-has_dashes.false)
    c.get_flag.ensures.value c.get_flag.ensures.other c.in_ok-number_given.ensures.ok
