-- The front and the picture at the place of a line among those of steps.
use Rattle.std.proofs.Common.{◌≡◌, ℕ, zero, suc, Bool, true, false, List, [], ◌∷◌, ◌++◌, Option, Some, None, take, slice_get, refl, sym, ap, ◌∙◌, subst, subst₂, ◌==◌}
use Rattle.std.specs.Prelude.{option_and_then, if◌then◌else◌}
use Rattle.std.specs.List.{list_all}
use Rattle.script_lang.specs.declared.script.HeaderLine.{HeaderLine}
use Rattle.script_lang.specs.declared.script.HeaderLine.TheVariants as header
use Rattle.journal_lines.specs.declared.line.Line.{Line}
use Rattle.journal_lines.specs.declared.line.Line.TheVariants as line
use Rattle.wire_messages.specs.declared.message.Message.{Message}
use Rattle.wire_messages.specs.declared.message.Message.TheVariants as message
use Rattle.wire_messages.specs.Decoding.{message_of}
use Rattle.cluster_rules.specs.declared.event.Event.{Event}
use Rattle.cluster_rules.specs.Allowed.{names_known}
use Rattle.cluster_rules.specs.declared.event.Event.TheVariants as event
use Rattle.cluster_rules.specs.Marks as marks
use Rattle.cluster_rules.specs.Marks.{Mark, Begins, Writes, lines_among, came_to_client, came_to_node}
use Rattle.journal_readings.specs.Messages.{Arrival, arrived, arrived_cut}
use Rattle.cluster_rules.specs.Network.{Network, posting_at}
use Rattle.cluster_rules.specs.Opening.{Header, journal_header_line, header_lines}
use Rattle.journal_readings.specs.Shape.{is_header}
use Rattle.cluster_rules.specs.World.{World}
use Rattle.cluster_rules.proofs.AllowedLaws.{nodes_stay}
use Rattle.cluster_laws.specs.Ground.{Ground}
use Rattle.cluster_laws.specs.Licences as licences
use Rattle.cluster_laws.specs.Picture.{Picture}
use Rattle.cluster_laws.proofs.At.{and_both, differ, some_same, no_some}
use Rattle.node_rules.specs.Messages.{client}
use Rattle.run_laws.specs.Fronts.{Front, world_of, front_after, front_after_all, Tied, Sane}
use Rattle.run_laws.specs.LineOk.{AreGrouped, LineOk, Goes}
use Rattle.run_laws.proofs.Carried.{line_tied, begun_tied}

-- ---- the groups have all declared nodes, and no others

abbrev pub Grouped : World → Type 0
Grouped w = AreGrouped w w.network.groups

taken_groups : (net : Network) (e : Event) → (marks.taken_by net e).groups ≡ net.groups
taken_groups net (event.Deliver i) = refl
taken_groups net (event.Lose i) = refl
taken_groups net (event.Cut i size) = refl
taken_groups net _ = refl

came_groups : (w : World) (x : Option Arrival) → (marks.came w x).network.groups ≡ w.network.groups
came_groups w None = refl
came_groups w (Some x) = go (x.to == client)
  where
    at_client : (m : Message) → (marks.came_to_client w m).network.groups ≡ w.network.groups
    at_client (message.MapTable table) = refl
    at_client _ = refl

    go : (b : Bool) → (if b then came_to_client w x.message else came_to_node w x).network.groups ≡ w.network.groups
    go true = at_client x.message
    go false = refl

sent_groups : (w : World) (a b : ℕ) (m : Option Message) → (marks.sent_by w a b m).network.groups ≡ w.network.groups
sent_groups w a b None = refl
sent_groups w a b (Some m) = refl

abbrev divides : Line → Bool
divides (line.Groups groups) = true
divides _ = false

line_groups : (w : World) (l : Line) → divides l ≡ false → (marks.after_line w l).network.groups ≡ w.network.groups
line_groups w (line.Groups groups) e = differ refl e
line_groups w (line.Deliver i a b) e = came_groups w (option_and_then (arrived b) (posting_at w.network i))
line_groups w (line.Repeat i a b) e = came_groups w (option_and_then (arrived b) (posting_at w.network i))
line_groups w (line.Cut i a b size) e = came_groups w (option_and_then (arrived_cut b size) (posting_at w.network i))
line_groups w (line.Sent i a b bytes) e = sent_groups _ a b (message_of bytes)
line_groups w _ e = refl

pub grouped_line : (G : Ground) (z : Front) (l : Line) → LineOk G z l → Grouped (world_of z) → Grouped (world_of (front_after z (Writes l)))
grouped_line G z (line.Groups groups) ok h = ok.1
grouped_line G z l ok h = subst₂ (λ (ns : List ℕ) (groups : List (List ℕ)). names_known ns (event.Groups groups) ≡ true) (sym (nodes_stay (Writes l ∷ []) (world_of z))) (sym (line_groups (world_of z) l refl)) h

pub grouped_begun : (z : Front) (e : Event) → Grouped (world_of z) → Grouped (world_of (front_after z (Begins e)))
grouped_begun z e h = subst₂ (λ (ns : List ℕ) (groups : List (List ℕ)). names_known ns (event.Groups groups) ≡ true) refl (sym (taken_groups (world_of z).network e)) h

-- ---- the front behind the lines before

pub record Placed (G : Ground) (z : Front) (w : Picture) (ms : List Mark) (i : ℕ) (l : Line) : Type 0 where
  -- so many marks stand before
  pub count : ℕ
  pub before : take i (lines_among ms) ≡ lines_among (take count ms)
  pub sane : Sane G (world_of (front_after_all z (take count ms)))
  pub ok : LineOk G (front_after_all z (take count ms)) l
  pub tied : Tied (front_after_all z (take count ms))
      (licences.picture_after_all G w (take i (lines_among ms)))
  pub grouped : Grouped (world_of (front_after_all z (take count ms)))

pub placed : (G : Ground) (z : Front) (w : Picture) (ms : List Mark) (i : ℕ) (l : Line) → Goes G z ms → Tied z w → Grouped (world_of z) → slice_get (lines_among ms) i ≡ Some l → Placed G z w ms i l
placed G z w [] i l g t h e = no_some e
placed G z w (Begins x ∷ ms) i l g t h e =
    let p : Placed G (front_after z (Begins x)) w ms i l = placed G (front_after z (Begins x)) w ms i l g (begun_tied z w x t) (grouped_begun z x h) e in
    record { count = suc p.count; before = p.before; sane = p.sane; ok = p.ok; tied = p.tied; grouped = p.grouped }
placed G z w (Writes x ∷ ms) zero l g t h e = record { count = 0; before = refl; sane = g.0; ok = subst (LineOk G z) (some_same e) g.1; tied = t; grouped = h }
placed G z w (Writes x ∷ ms) (suc i) l g t h e =
    let p : Placed G (front_after z (Writes x)) (licences.picture_after G w x) ms i l = placed G (front_after z (Writes x)) (licences.picture_after G w x) ms i l g.2 (line_tied G z w x g.0 g.1 t) (grouped_line G z x g.1 h) e in
    record { count = suc p.count; before = ap (λ (ls : List Line). x ∷ ls) p.before; sane = p.sane; ok = p.ok; tied = p.tied; grouped = p.grouped }

-- ---- behind the header

pub record Behind (h : Header) (ls : List Line) (i : ℕ) (l : Line) : Type 0 where
  pub place : ℕ
  pub stands : slice_get ls place ≡ Some l
  pub before : take i (header_lines h ++ ls) ≡ header_lines h ++ take place ls

pub header_is : (x : HeaderLine) → is_header (journal_header_line x) ≡ true
header_is (header.Script version) = refl
header_is (header.Factor factor) = refl
header_is (header.Node n rack) = refl
header_is (header.Policy by) = refl

pub headers_are : (h : Header) → list_all is_header (header_lines h) ≡ true
headers_are [] = refl
headers_are (x ∷ h) = and_both (is_header (journal_header_line x)) (list_all is_header (header_lines h)) (header_is x) (headers_are h)

pub behind : (h : Header) (ls : List Line) (i : ℕ) (l : Line) → is_header l ≡ false → slice_get (header_lines h ++ ls) i ≡ Some l → Behind h ls i l
behind [] ls i l other e = record { place = i; stands = e; before = refl }
behind (x ∷ h) ls zero l other e = differ (sym (ap is_header (some_same e)) ∙ header_is x) other
behind (x ∷ h) ls (suc i) l other e = let r : Behind h ls i l = behind h ls i l other e in record { place = r.place; stands = r.stands; before = ap (λ (xs : List Line). journal_header_line x ∷ xs) r.before }

-- the header's lines do nothing to the picture
pub header_passes : (G : Ground) (w : Picture) (h : Header) (ls : List Line) → licences.picture_after_all G w (header_lines h ++ ls) ≡ licences.picture_after_all G w ls
header_passes G w [] ls = refl
header_passes G w (header.Script version ∷ h) ls = header_passes G w h ls
header_passes G w (header.Factor factor ∷ h) ls = header_passes G w h ls
header_passes G w (header.Node n rack ∷ h) ls = header_passes G w h ls
header_passes G w (header.Policy by ∷ h) ls = header_passes G w h ls
