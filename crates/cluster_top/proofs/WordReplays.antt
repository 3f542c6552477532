-- How a replay ended that the words ask for, and what decided it.
use Rattle.std.proofs.Common.{◌≡◌, ◌≢◌, ℕ, ◌++◌, Bool, false, true, List, [], Option, Some, None, IsSome, inl, inr, refl, sym, subst, ◌∙◌}
use Rattle.byte_ends.specs.Faults.{Rose}
use Rattle.journal_lines.specs.declared.line.Line.{Line}
use Rattle.journal_text.specs.Text.{text}
use Rattle.script_lang.specs.Grammar.{script_of}
use Rattle.replay_core.specs.declared.status.Status.{Status}
use Rattle.replay_core.specs.declared.status.Status.TheVariants as status
use Rattle.replay_core.specs.Outcome.{CutOff, Ended, EndsScript, HadNoMore, HadScript, HadTooMuch, PlayEnded, Replayed, SourceEnded, WritingEnded}
use Rattle.replay_core.specs.Streams.{WroteBytes, script_limit}
use Rattle.replay_core.proofs.Endings.{beyond_source, by_source, decides, ended_unwritten, ended_written, short_script, was_written}
use Rattle.replay_core.proofs.StreamLaws.{bytes_of_both, front_of_both, front_of_first, none_gave}
use Rattle.cluster_top.specs.declared.words.Words.{Words}
use Rattle.cluster_top.specs.Generating.{generated}
use Rattle.cluster_top.specs.Replays.{EndsBy, HadNoMoreBy, HadScriptBy, HadTooMuchBy, IsDecided, ReplayEnded}
use Rattle.cluster_top.specs.Transcripts.{summary, text_by, transcript, transcript_by}
use Rattle.cluster_top.specs.Words.{Asks}
use Rattle.cluster_top.proofs.WordLaws.{asks_one}

-- ---- what decides

ends_by_script : (g : Option ℕ) (had left : Option (List ℕ)) (bytes : List ℕ) (st : Status) → HadScriptBy g had left bytes → EndsScript (script_of bytes) st → EndsBy g had st
ends_by_script (Some n) had left bytes st h e = subst (λ (bs : List ℕ). EndsScript (script_of bs) st) h.0 e
ends_by_script None had left bytes st h e = by_source had left bytes st h e

ends_beyond : (g : Option ℕ) (had left : Option (List ℕ)) → HadTooMuchBy g had left → EndsBy g had status.ScriptTooLong
ends_beyond (Some n) had left long = absurd long
ends_beyond None had left long = beyond_source had left long

pub decided : (words : Words) (st : Status) (j : List Line) (had left old new : Option (List ℕ)) (a b c d : ℕ) → ReplayEnded words st j had left old new
    → (st ≡ status.ReadFault → Rose a b) → (st ≡ status.WriteFault → Rose c d) → ¬ Rose a b → ¬ Rose c d → IsDecided words had st
decided words st j had left old new a b c d e r k p q =
    decides (HadScriptBy words.generate had left) (HadTooMuchBy words.generate had left) (HadNoMoreBy words.generate had left) (transcript words) (EndsBy words.generate had) st j old new a b c d
    (ends_by_script words.generate had left) (ends_beyond words.generate had left) e r k p q

-- ---- what the words ask for

by_words : (words : Words) (wanted : Bool) (g : Option ℕ) (st : Status) (j : List Line) (had left old new : Option (List ℕ)) → words.summary ≡ wanted → words.generate ≡ g
    → Ended (HadScriptBy g had left) (HadTooMuchBy g had left) (HadNoMoreBy g had left) (transcript_by wanted g) st j old new → ReplayEnded words st j had left old new
by_words words wanted g st j had left old new s n e =
    subst (λ (x : Bool). Ended (HadScriptBy words.generate had left) (HadTooMuchBy words.generate had left) (HadNoMoreBy words.generate had left) (transcript_by x words.generate) st j old new) (sym s)
    (subst (λ (x : Option ℕ). Ended (HadScriptBy x had left) (HadTooMuchBy x had left) (HadNoMoreBy x had left) (transcript_by wanted x) st j old new) (sym n) e)

pub not_summed : (words : Words) (st : Status) (j : List Line) (had left old new : Option (List ℕ)) → words.summary ≡ false → words.generate ≡ None → SourceEnded st j had left old new
    → ReplayEnded words st j had left old new
not_summed words st j had left old new s n e = by_words words false None st j had left old new s n e

-- ---- a summary behind the text

both_ended : (st : Status) (old mid new : Option (List ℕ)) (first second : List ℕ) → WroteBytes old mid first → WritingEnded st mid new second → WritingEnded st old new (first ++ second)
both_ended status.Done old mid new first second a w = bytes_of_both old mid new first second a w
both_ended status.NoMemory old mid new first second a w = front_of_both old mid new first second a w
both_ended status.WriteFault old mid new first second a w = front_of_both old mid new first second a w
both_ended status.BadWords old mid new first second a w = absurd w
both_ended (status.BadScript line cause) old mid new first second a w = absurd w
both_ended status.ReadFault old mid new first second a w = absurd w
both_ended status.ScriptTooLong old mid new first second a w = absurd w
both_ended status.RunTooLong old mid new first second a w = absurd w
both_ended status.TranscriptTooLong old mid new first second a w = absurd w
both_ended (status.BadTranscript line) old mid new first second a w = absurd w
both_ended (status.Refuted law line) old mid new first second a w = absurd w

script_short : (had left : Option (List ℕ)) (j : List Line) → Replayed (HadScript had left) j → HadNoMore had left
script_short had left j r = short_script had left r.bytes r.read

pub summed : (words : Words) (was st : Status) (j kept : List Line) (had left old mid new : Option (List ℕ)) → words.summary ≡ true → words.generate ≡ None → was ≡ status.Done
    → SourceEnded was j had left old mid → WritingEnded st mid new (summary j) → (st ≢ status.NoMemory → kept ≡ j) → (st ≡ status.NoMemory → kept ≡ []) → ReplayEnded words st kept had left old new
summed words was st j kept had left old mid new s n done e w same none =
    let whole : SourceEnded status.Done j had left old mid = subst (λ (x : Status). SourceEnded x j had left old mid) done e in
    by_words words true None st kept had left old new s n
    (was_written (HadScript had left) (HadTooMuch had left) (HadNoMore had left) (text_by true) st j kept old new (script_short had left j whole.0) whole.0 (both_ended st old mid new (text j) (summary j) whole.1 w) same none)

cut_off : (had left old new : Option (List ℕ)) → CutOff (HadScript had left) text old new → CutOff (HadScript had left) (text_by true) old new
cut_off had left old new (inl nothing) = inl nothing
cut_off had left old new (inr b) = inr (record { journal = b.journal; replayed = b.replayed; front = front_of_first old new (text b.journal) (summary b.journal) b.front })

-- what wasn't written whole has no summary
cut_short : (st : Status) (j : List Line) (had left old new : Option (List ℕ)) → st ≢ status.Done → SourceEnded st j had left old new
    → Ended (HadScript had left) (HadTooMuch had left) (HadNoMore had left) (text_by true) st j old new
cut_short status.Done j had left old new other e = absurd (other refl)
cut_short status.NoMemory j had left old new other e = (e.0, e.1, cut_off had left old new e.2)
cut_short status.BadWords j had left old new other e = e
cut_short (status.BadScript line cause) j had left old new other e = e
cut_short status.ReadFault j had left old new other e = e
cut_short status.WriteFault j had left old new other e = (e.0, front_of_first old new (text j) (summary j) e.1)
cut_short status.ScriptTooLong j had left old new other e = e
cut_short status.RunTooLong j had left old new other e = e
cut_short status.TranscriptTooLong j had left old new other e = e
cut_short (status.BadTranscript line) j had left old new other e = e
cut_short (status.Refuted law line) j had left old new other e = e

pub not_reached : (words : Words) (st : Status) (j : List Line) (had left old new : Option (List ℕ)) → words.summary ≡ true → words.generate ≡ None → st ≢ status.Done
    → SourceEnded st j had left old new → ReplayEnded words st j had left old new
not_reached words st j had left old new s n other e = by_words words true None st j had left old new s n (cut_short st j had left old new other e)

-- what is done had no fault

differ_read : status.Done ≡ status.ReadFault → ⊥
differ_read e = cc

differ_written : status.Done ≡ status.WriteFault → ⊥
differ_written e = cc

pub done_read : (st : Status) → st ≡ status.Done → st ≢ status.ReadFault
done_read st done e = differ_read (sym done ∙ e)

pub done_written : (st : Status) → st ≡ status.Done → st ≢ status.WriteFault
done_written st done e = differ_written (sym done ∙ e)

-- ---- a script that is generated

by_number : (words : Words) (number : ℕ) (st : Status) (j : List Line) (had old new : Option (List ℕ)) → words.generate ≡ Some number
    → Ended (HadScriptBy (Some number) had had) (HadTooMuchBy (Some number) had had) (HadNoMoreBy (Some number) had had) summary st j old new → ReplayEnded words st j had had old new
by_number words number st j had old new n e = by_words words words.summary (Some number) st j had had old new refl n e

pub generated_written : (words : Words) (number : ℕ) (bytes : List ℕ) (was st : Status) (j kept : List Line) (had old new : Option (List ℕ)) → words.generate ≡ Some number → bytes ≡ generated number
    → was ≡ status.Done → PlayEnded bytes was j → WritingEnded st old new (summary j) → (st ≢ status.NoMemory → kept ≡ j) → (st ≡ status.NoMemory → kept ≡ []) → ReplayEnded words st kept had had old new
generated_written words number bytes was st j kept had old new n is done e w same none =
    by_number words number st kept had old new n
    (ended_written (HadScriptBy (Some number) had had) (HadTooMuchBy (Some number) had had) (HadNoMoreBy (Some number) had had) summary bytes was st j kept old new (is, refl) refl done e w same none)

pub generated_unwritten : (words : Words) (number : ℕ) (bytes : List ℕ) (st : Status) (j : List Line) (had old : Option (List ℕ)) → words.generate ≡ Some number → bytes ≡ generated number
    → st ≢ status.Done → PlayEnded bytes st j → ReplayEnded words st j had had old old
generated_unwritten words number bytes st j had old n is other e =
    by_number words number st j had old old n
    (ended_unwritten (HadScriptBy (Some number) had had) (HadTooMuchBy (Some number) had had) (HadNoMoreBy (Some number) had had) summary bytes st j old (is, refl) refl other e)

-- ---- words ask for one replay: so what holds of one that they ask for holds of each

pub asked_ended : (ws : List (List ℕ)) (words asked : Words) (st : Status) (j : List Line) (had left old new : Option (List ℕ)) → Asks ws words → Asks ws asked
    → ReplayEnded words st j had left old new → ReplayEnded asked st j had left old new
asked_ended ws words asked st j had left old new a b h = subst (λ (w : Words). ReplayEnded w st j had left old new) (asks_one ws words asked a b) h

pub asked_number : (ws : List (List ℕ)) (words asked : Words) → Asks ws words → Asks ws asked → IsSome asked.generate → IsSome words.generate
asked_number ws words asked a b s = subst (λ (w : Words). IsSome w.generate) (sym (asks_one ws words asked a b)) s

pub asked_decided : (ws : List (List ℕ)) (words asked : Words) (st : Status) (had : Option (List ℕ)) → Asks ws words → Asks ws asked → IsDecided words had st → IsDecided asked had st
asked_decided ws words asked st had a b h = subst (λ (w : Words). IsDecided w had st) (asks_one ws words asked a b) h

nothing_pulled : (g : Option ℕ) (had : Option (List ℕ)) → HadNoMoreBy g had had
nothing_pulled (Some n) had = refl
nothing_pulled None had = none_gave script_limit had

pub refused_at_once : (words : Words) (st : Status) (j : List Line) (had old : Option (List ℕ)) → st ≡ status.NoMemory → j ≡ [] → ReplayEnded words st j had had old old
refused_at_once words st j had old s e = subst (λ (x : Status). ReplayEnded words x j had had old old) (sym s) (e, nothing_pulled words.generate had, inl refl)

pub no_bad_words : (words : Words) (st : Status) (j : List Line) (had left old new : Option (List ℕ)) → ReplayEnded words st j had left old new → st ≡ status.BadWords → ⊥
no_bad_words words st j had left old new h e = subst (λ (x : Status). ReplayEnded words x j had left old new) e h
