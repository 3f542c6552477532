-- A delivery as it is taken: what it finds in flight, and what arrives.
use Rattle.std.proofs.Common.{◌≡◌, ◌⊎◌, inl, inr, ℕ, true, false, List, [], ◌∷◌, ◌++◌, Option, Some, refl, sym, ap, subst, ◌∙◌}
use Rattle.std.specs.Prelude.{Contains}
use Rattle.wire_messages.specs.declared.message.MapTable.{MapTable}
use Rattle.wire_messages.specs.declared.message.Message.{Message}
use Rattle.wire_messages.specs.declared.message.Message.TheVariants as message
use Rattle.journal_lines.specs.declared.line.Line.{Line}
use Rattle.journal_lines.specs.declared.line.Line.TheVariants as line
use Rattle.net_script.specs.declared.net.Flying.{Flying}
use Rattle.net_script.specs.Network as nets
use Rattle.client_map.specs.Entries.{Holds}
use Rattle.cluster_rules.specs.declared.event.Event.{Event}
use Rattle.cluster_rules.specs.DueEvents.{is_blocked}
use Rattle.cluster_rules.specs.Network.{flying_at}
use Rattle.cluster_rules.specs.NodeSteps.{after_step}
use Rattle.cluster_rules.specs.Opening.{declared_nodes}
use Rattle.node_rules.specs.Messages.{client}
use Rattle.world.specs.declared.arriving.Arriving.{Arriving}
use Rattle.world.specs.declared.delivery.Arrival.TheVariants as arrival
use Rattle.world.specs.declared.delivery.Delivery.{Delivery}
use Rattle.world.specs.declared.world.World.TheInside.{Inside}
use Rattle.world.specs.Arriving.{Arrives, arrival_of, delivering, landing_of, line_of_delivery}
use Rattle.world.specs.Kept.{Keeps}
use Rattle.world.specs.Sent.{landing_from}
use Rattle.world.specs.Stands.{Stands, flying_posting}
use Rattle.world.specs.Steps.{RunSoFar, next_lines, standing}
use Rattle.world.proofs.ArrivalLaws.{PassesOver, TableComes, blocked_over, over_proper, short_over, stale_over, stands_table, table_comes, unread_over}
use Rattle.world.proofs.DeliveryLaws.{ReadWhole, Unreadable, message_arrives, nothing_arrives, short_arrives}
use Rattle.world.proofs.KeepLaws.{keeps_after, landing_few, stands_of}
use Rattle.world.proofs.SettingLaws.{Sets, parts}

-- ---- what is in flight

pub blocked_passes : (r : RunSoFar) (i : ℕ) (how : Delivery) (m : Flying) → Some (flying_posting m) ≡ flying_at (standing r).network i → is_blocked (standing r) (flying_posting m) ≡ true → PassesOver r i how (line.Blocked i ∷ [])
blocked_passes r i how m flies stuck = blocked_over r i how (flying_posting m) (sym flies) stuck

pub short_passes : (r : RunSoFar) (i : ℕ) (how : Delivery) (m : Flying) (l : Line) (ls : List Line) → Some (flying_posting m) ≡ flying_at (standing r).network i → is_blocked (standing r) (flying_posting m) ≡ false
    → arrival.Short ≡ arrival_of m.bytes how → l ≡ line_of_delivery i m.from m.to how → ls ≡ l ∷ line.Short m.to ∷ [] → PassesOver r i how ls
short_passes r i how m l ls flies free short told made =
    subst (PassesOver r i how) (sym (made ∙ ap (λ (x : Line). x ∷ line.Short m.to ∷ []) told))
    (short_over r i how (flying_posting m) (sym flies) free (short_arrives m.bytes how short))

pub unread_passes : (r : RunSoFar) (i : ℕ) (how : Delivery) (m : Flying) (l : Line) (ls : List Line) → Some (flying_posting m) ≡ flying_at (standing r).network i → is_blocked (standing r) (flying_posting m) ≡ false
    → arrival.Unread ≡ arrival_of m.bytes how → l ≡ line_of_delivery i m.from m.to how → ls ≡ l ∷ [] → PassesOver r i how ls
unread_passes r i how m l ls flies free none told made =
    let unread : Unreadable m.bytes how = nothing_arrives m.bytes how none in
    subst (PassesOver r i how) (sym (made ∙ ap (λ (x : Line). x ∷ []) told)) (unread_over r i how (flying_posting m) (sym flies) free unread.whole unread.unread)

-- a message arrives
pub arrives_so : (r : RunSoFar) (e : Event) (i : ℕ) (how : Delivery) (m : Flying) (l : Line) (landing : Option ℕ) (x : Message) → e ≡ delivering i how → Some (flying_posting m) ≡ flying_at (standing r).network i
    → is_blocked (standing r) (flying_posting m) ≡ false → arrival.Message x ≡ arrival_of m.bytes how → l ≡ line_of_delivery i m.from m.to how → landing ≡ landing_of i how
    → Arrives r (record { event = record { marker = record {}; value = e }; line = l; landing = landing; from = m.from; to = m.to; message = x })
arrives_so r e i how m l landing x is flies free read told lands =
    let whole : ReadWhole m.bytes how x = message_arrives m.bytes how x read in
    record {
      number = i;
      how = how;
      posting = flying_posting m;
      event = is;
      flying = sym flies;
      free = free;
      whole = whole.whole;
      read = whole.read;
      from = refl;
      to_end = refl;
      line = told;
      landing = lands;
    }

-- ---- at the client

pub stale_passes : (r : RunSoFar) (a : Arriving) (ls : List Line) (x : Arrives r a) → a.to ≡ client → ((t : MapTable) → a.message ≡ message.MapTable t → ⊥) → ls ≡ a.line ∷ line.Stale client ∷ []
    → PassesOver r x.number x.how ls
stale_passes r a ls x end differs made =
    subst (PassesOver r x.number x.how) (sym (made ∙ ap (λ (y : Line). y ∷ line.Stale client ∷ []) x.line))
    (stale_over r x.number x.how x.posting a.message x.flying x.free x.whole x.read (sym x.to_end ∙ end) differs)

pub table_arrives : (r : RunSoFar) (a : Arriving) (t : MapTable) (ls : List Line) (x : Arrives r a) → a.to ≡ client → a.message ≡ message.MapTable t → ls ≡ a.line ∷ line.Table t.key ∷ []
    → TableComes r x.number x.how t ls
table_arrives r a t ls x end is made =
    subst (TableComes r x.number x.how t) (sym (made ∙ ap (λ (y : Line). y ∷ line.Table t.key ∷ []) x.line))
    (table_comes r x.number x.how x.posting t x.flying x.free x.whole (x.read ∙ ap Some is) (sym x.to_end ∙ end))

pub table_due : (r : RunSoFar) (a : Arriving) (t : MapTable) (ls : List Line) → Arrives r a → a.to ≡ client → a.message ≡ message.MapTable t → ls ≡ a.line ∷ line.Table t.key ∷ [] → ls ≡ next_lines r a.event.value
table_due r a t ls x end is made = subst (λ (e : Event). ls ≡ next_lines r e) (sym x.event) (table_arrives r a t ls x end is made).due

pub keeps_table : (w v : Inside) (now : RunSoFar) (a : Arriving) (t : MapTable) (ls : List Line) → Sets w v now a.event.value ls → Arrives now a → a.to ≡ client → a.message ≡ message.MapTable t → ls ≡ a.line ∷ line.Table t.key ∷ []
    → v.nodes.items ≡ w.nodes.items → v.clocks.items ≡ w.clocks.items → nets.IsSameNetwork (landing_from w.net a.landing) v.net → Holds ((standing now).tables ++ t ∷ []) v.client → Keeps v
keeps_table w v now a t ls s x end is made nodes clocks net held =
    let comes : TableComes now x.number x.how t ls = table_arrives now a t ls x end is made in
    keeps_after w v now a.event.value ls s.seen s.keeps s.header (table_due now a t ls x end is made) s.comes (over_proper a.event.value x.number x.how x.event) s.wrote s.within (landing_few w.net v.net a.landing ls net)
    (parts (after_step (standing now) a.event.value) v w.ids w.nodes.items w.clocks.items v.net v.client s.ids nodes clocks refl refl
    (subst (λ (e : Event). Stands (after_step (standing now) e) w.ids w.nodes.items w.clocks.items v.net v.client) (sym x.event)
    (stands_table now x.number x.how t ls w.ids w.nodes.items w.clocks.items w.net v.net w.client v.client comes (stands_of w now s.seen s.keeps)
    (subst (λ (o : Option ℕ). nets.IsSameNetwork (landing_from w.net o) v.net) x.landing net) held)))
