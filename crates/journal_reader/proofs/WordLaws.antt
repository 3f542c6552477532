-- The words with which lines begin.
use Rattle.std.proofs.Common.{◌≡◌, ℕ, true, nat_lt, List, [], ◌∷◌, Some, refl, sym, ap, ◌∙◌, map}
use Rattle.std.specs.Prelude.{All, codes}
use Rattle.std.specs.List.{AllByRecursion, list_all}
use Rattle.std.proofs.lemmas.Option.{none-some, same_Some}
use Rattle.journal_reader.specs.declared.reading.word.Word.{Word}
use Rattle.journal_reader.specs.declared.reading.word.Word.TheVariants as word
use Rattle.journal_reader.specs.Words.{word_in, parsed_word}
use Rattle.journal_reader.specs.declared.reading.word.TheConstants.{WORDS}
use Rattle.journal_reader.proofs.KeyFields.{IsVisible}
use Rattle.journal_reader.proofs.ByteFields.{word_case, word_clean}

abbrev pub word_text : Word → List ℕ
word_text word.Script = codes "script"
word_text word.Factor = codes "factor"
word_text word.Node = codes "node"
word_text word.Policy = codes "policy"
word_text word.Clock = codes "clock"
word_text word.Groups = codes "groups"
word_text word.Tick = codes "tick"
word_text word.Stop = codes "stop"
word_text word.Start = codes "start"
word_text word.Down = codes "down"
word_text word.Up = codes "up"
word_text word.Quiesce = codes "quiesce"
word_text word.Unquiesce = codes "unquiesce"
word_text word.Deliver = codes "deliver"
word_text word.Repeat = codes "repeat"
word_text word.Cut = codes "cut"
word_text word.Lost = codes "lost"
word_text word.Blocked = codes "blocked"
word_text word.NoMessage = codes "nomessage"
word_text word.Sent = codes "sent"
word_text word.Full = codes "full"
word_text word.Short = codes "short"
word_text word.Stale = codes "stale"
word_text word.Spent = codes "spent"
word_text word.Promise = codes "promise"
word_text word.Enter = codes "enter"
word_text word.Exchanged = codes "exchanged"
word_text word.Handed = codes "handed"
word_text word.Settled = codes "settled"
word_text word.Learn = codes "learn"
word_text word.Drop = codes "drop"
word_text word.Opened = codes "opened"
word_text word.Refused = codes "refused"
word_text word.Value = codes "value"
word_text word.Apply = codes "apply"
word_text word.Done = codes "done"
word_text word.Aborted = codes "aborted"
word_text word.Doubt = codes "doubt"
word_text word.Merge = codes "merge"
word_text word.Map = codes "map"
word_text word.Mapless = codes "mapless"
word_text word.Place = codes "place"
word_text word.Hash = codes "hash"
word_text word.Holds = codes "holds"
word_text word.Client = codes "client"
word_text word.NoMap = codes "nomap"
word_text word.Table = codes "table"
word_text word.Calm = codes "calm"
word_text word.Proxy = codes "proxy"
word_text word.Proxied = codes "proxied"
word_text word.Unproxied = codes "unproxied"
word_text word.CallFull = codes "callfull"
word_text word.Call = codes "call"
word_text word.NoOpen = codes "noopen"
word_text word.Again = codes "again"
word_text word.Reply = codes "reply"
word_text word.Scan = codes "scan"
word_text word.NoScan = codes "noscan"
word_text word.Rescan = codes "rescan"
word_text word.Page = codes "page"
word_text word.Scanned = codes "scanned"
word_text word.Record = codes "record"
word_text word.Unscanned = codes "unscanned"

pub word_back : (w : Word) → parsed_word (word_text w) ≡ Some w
unfolding parsed_word
word_back word.Script = refl
word_back word.Factor = refl
word_back word.Node = refl
word_back word.Policy = refl
word_back word.Clock = refl
word_back word.Groups = refl
word_back word.Tick = refl
word_back word.Stop = refl
word_back word.Start = refl
word_back word.Down = refl
word_back word.Up = refl
word_back word.Quiesce = refl
word_back word.Unquiesce = refl
word_back word.Deliver = refl
word_back word.Repeat = refl
word_back word.Cut = refl
word_back word.Lost = refl
word_back word.Blocked = refl
word_back word.NoMessage = refl
word_back word.Sent = refl
word_back word.Full = refl
word_back word.Short = refl
word_back word.Stale = refl
word_back word.Spent = refl
word_back word.Promise = refl
word_back word.Enter = refl
word_back word.Exchanged = refl
word_back word.Handed = refl
word_back word.Settled = refl
word_back word.Learn = refl
word_back word.Drop = refl
word_back word.Opened = refl
word_back word.Refused = refl
word_back word.Value = refl
word_back word.Apply = refl
word_back word.Done = refl
word_back word.Aborted = refl
word_back word.Doubt = refl
word_back word.Merge = refl
word_back word.Map = refl
word_back word.Mapless = refl
word_back word.Place = refl
word_back word.Hash = refl
word_back word.Holds = refl
word_back word.Client = refl
word_back word.NoMap = refl
word_back word.Table = refl
word_back word.Calm = refl
word_back word.Proxy = refl
word_back word.Proxied = refl
word_back word.Unproxied = refl
word_back word.CallFull = refl
word_back word.Call = refl
word_back word.NoOpen = refl
word_back word.Again = refl
word_back word.Reply = refl
word_back word.Scan = refl
word_back word.NoScan = refl
word_back word.Rescan = refl
word_back word.Page = refl
word_back word.Scanned = refl
word_back word.Record = refl
word_back word.Unscanned = refl

visible_word : (w : Word) → list_all (λ b. nat_lt 32 b) (word_text w) ≡ true
visible_word word.Script = refl
visible_word word.Factor = refl
visible_word word.Node = refl
visible_word word.Policy = refl
visible_word word.Clock = refl
visible_word word.Groups = refl
visible_word word.Tick = refl
visible_word word.Stop = refl
visible_word word.Start = refl
visible_word word.Down = refl
visible_word word.Up = refl
visible_word word.Quiesce = refl
visible_word word.Unquiesce = refl
visible_word word.Deliver = refl
visible_word word.Repeat = refl
visible_word word.Cut = refl
visible_word word.Lost = refl
visible_word word.Blocked = refl
visible_word word.NoMessage = refl
visible_word word.Sent = refl
visible_word word.Full = refl
visible_word word.Short = refl
visible_word word.Stale = refl
visible_word word.Spent = refl
visible_word word.Promise = refl
visible_word word.Enter = refl
visible_word word.Exchanged = refl
visible_word word.Handed = refl
visible_word word.Settled = refl
visible_word word.Learn = refl
visible_word word.Drop = refl
visible_word word.Opened = refl
visible_word word.Refused = refl
visible_word word.Value = refl
visible_word word.Apply = refl
visible_word word.Done = refl
visible_word word.Aborted = refl
visible_word word.Doubt = refl
visible_word word.Merge = refl
visible_word word.Map = refl
visible_word word.Mapless = refl
visible_word word.Place = refl
visible_word word.Hash = refl
visible_word word.Holds = refl
visible_word word.Client = refl
visible_word word.NoMap = refl
visible_word word.Table = refl
visible_word word.Calm = refl
visible_word word.Proxy = refl
visible_word word.Proxied = refl
visible_word word.Unproxied = refl
visible_word word.CallFull = refl
visible_word word.Call = refl
visible_word word.NoOpen = refl
visible_word word.Again = refl
visible_word word.Reply = refl
visible_word word.Scan = refl
visible_word word.NoScan = refl
visible_word word.Rescan = refl
visible_word word.Page = refl
visible_word word.Scanned = refl
visible_word word.Record = refl
visible_word word.Unscanned = refl

pub word_is_clean : (w : Word) → All IsVisible (word_text w)
word_is_clean w = word_clean (word_text w) (visible_word w)

abbrev Table : Type 0
Table = List (List ℕ × Word)

abbrev IsTable : Table → Type 0
IsTable table = AllByRecursion (λ e. e.0 ≡ word_text e.1) table

in_table : (table : Table) → IsTable table → (text : List ℕ) (w : Word) → word_in table text ≡ Some w → word_text w ≡ text
in_table [] h text w e = absurd (none-some w e)
in_table (entry ∷ table) h text w e =
    word_case (word_text w ≡ text) entry.0 text (Some entry.1) (word_in table text) w
    (λ s i. ap word_text (sym (same_Some entry.1 w i)) ∙ sym h.0 ∙ sym s)
    (λ rest. in_table table h.1 text w rest) e

the_table : IsTable (map (λ entry. (entry.0.now, entry.1)) WORDS)
the_table = (refl, (refl, (refl, (refl, (refl, (refl, (refl, (refl, (refl, (refl, (refl, (refl, (refl, (refl, (refl, (refl, (refl, (refl, (refl, (refl, (refl, (refl, (refl, (refl, (refl, (refl, (refl, (refl, (refl, (refl, (refl, (refl, (refl, (refl, (refl, (refl, (refl, (refl, (refl, (refl, (refl, (refl, (refl, (refl, (refl, (refl, (refl, (refl, (refl, (refl, (refl, (refl, (refl, (refl, (refl, (refl, (refl, (refl, (refl, (refl, (refl, (refl, (refl, tt)))))))))))))))))))))))))))))))))))))))))))))))))))))))))))))))

pub word_only : (text : List ℕ) (w : Word) → parsed_word text ≡ Some w → word_text w ≡ text
unfolding parsed_word
word_only text w e = in_table (map (λ entry. (entry.0.now, entry.1)) WORDS) the_table text w e
