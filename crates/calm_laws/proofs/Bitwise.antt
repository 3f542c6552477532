-- A bit of what was handed over or settled: it is kept, and who hears of it in its view has it.
use Rattle.std.proofs.Common.{◌≡◌, ℕ, zero, suc, ◌||◌, Bool, true, false, List, [], ◌∷◌, Option, refl, sym, ap, subst, ◌∙◌}
use Rattle.cluster_types.specs.declared.cluster_key.ClusterKey.{ClusterKey}
use Rattle.cluster_types.specs.declared.member.Member.{Member}
use Rattle.cluster_types.specs.Rows.{bit}
use Rattle.wire_messages.specs.declared.message.Message.{Message}
use Rattle.wire_messages.specs.declared.message.Message.TheVariants as message
use Rattle.node_rules.specs.Bits.{Bits, or_rows}
use Rattle.node_rules.specs.Exchange.{View, is_view}
use Rattle.node_rules.specs.Facts.{Facts}
use Rattle.node_rules.specs.Keys.{same_key}
use Rattle.node_rules.specs.Notes as notes
use Rattle.journal_readings.specs.Lines.{has_node}
use Rattle.cluster_rules.specs.World.{World}
use Rattle.cluster_laws.proofs.At.{differ}
use Rattle.key_laws.proofs.Order.{same_self}
use Rattle.run_laws.specs.Tied.{Among}
use Rattle.calm_laws.specs.Acts.{Gets, acted}
use Rattle.calm_laws.specs.Flows.{Flowed, inbox}
use Rattle.calm_laws.specs.Group.{kind}
use Rattle.calm_laws.specs.Progresses.{BitsGrow}
use Rattle.calm_laws.specs.Turns.{Cleared, is_agreeing}
use Rattle.calm_laws.proofs.Acking.{Over}
use Rattle.calm_laws.proofs.Growing.{acted_grow}
use Rattle.calm_laws.proofs.Hearing.{gets_inbox}
use Rattle.calm_laws.proofs.Inputs.{Keeps, served_kept}
use Rattle.calm_laws.proofs.Knowing.{acted_bits}
use Rattle.calm_laws.proofs.Proposals.{all_gets}

-- whether it is of what was handed over, and else of what was settled
abbrev pub row_in : Bool → Bits → List Bool
row_in true b = b.handed
row_in false b = b.settled

abbrev pub Has : Bool → ℕ → Bits → Type 0
Has c p b = bit (row_in c b) p ≡ true

pub has_grows : (c : Bool) (p : ℕ) (b d : Bits) → BitsGrow b d → Has c p b → Has c p d
has_grows true p b d g h = g.handed p h
has_grows false p b d g h = g.settled p h

-- what a message tells of it
abbrev pub told_row : Bool → List Bool → List Bool → List Bool
told_row true handed settled = handed
told_row false handed settled = settled

either_joined : (row more : List Bool) (q : ℕ) → bit more q ≡ true → bit (or_rows row more) q ≡ true
either_joined [] [] q e = e
either_joined [] (c ∷ more) q e = e
either_joined (b ∷ row) [] q e = differ e (none q)
  where
    none : (q : ℕ) → bit [] q ≡ false
    none zero = refl
    none (suc q) = refl
either_joined (b ∷ row) (c ∷ more) zero e = go b
  where
    go : (x : Bool) → (x || c) ≡ true
    go true = refl
    go false = e
either_joined (b ∷ row) (c ∷ more) (suc q) e = either_joined row more q e

-- who hears of it in its view has it
pub has_told : (n c : ℕ) (k : ClusterKey) (set : List Member) (f : Facts) (x : ℕ) (b : Bool) (p : ℕ) (key : ClusterKey) (wants : Bool) (done handed settled : List Bool) → Over k set f → key ≡ k → bit (told_row b handed settled) p ≡ true
    → Has b p (acted n c f (Gets x (message.Progress key wants done handed settled))).bits
has_told n c k set f x b p key wants done handed settled o e h =
    subst (Has b p) (sym (acted_bits n c f x (message.Progress key wants done handed settled) refl))
    (subst (λ (y : Bool). Has b p (notes.progress_came f x done handed settled y).bits) (sym here) (go b h))
  where
    here : is_view f.exchange.view key ≡ true
    here = ap (λ (v : Option View). is_view v key) o.view ∙ ap (λ (q : ClusterKey). same_key k q) e ∙ same_self k

    go : (b : Bool) → bit (told_row b handed settled) p ≡ true → Has b p (notes.progress_came f x done handed settled true).bits
    go true h = either_joined f.bits.handed handed p h
    go false h = either_joined f.bits.settled settled p h

-- and keeps it through flows
pub keeps_has : (n c : ℕ) (b : Bool) (p : ℕ) (u : World) (m : ℕ) → ((from : ℕ) (y : Message) → Among (inbox u m) (Gets from y) → is_agreeing (kind y) ≡ false) → Keeps n c (λ f. Has b p f.bits) (inbox u m)
keeps_has n c b p u m free f i there h =
    all_gets (inbox u m) i (gets_inbox u m) there (λ j. Among (inbox u m) j → Has b p (acted n c f j).bits) (λ from y among. has_grows b p f.bits (acted n c f (Gets from y)).bits (acted_grow n c f from y (free from y among)) h) there

pub flow_has : (n : ℕ) (gs : List ℕ) (u v : World) (m : ℕ) (b : Bool) (p : ℕ) → Flowed n u v → Cleared gs u → has_node gs m ≡ true → Has b p (u.facts m).bits → Has b p (v.facts m).bits
flow_has n gs u v m b p f cleared here h =
    subst (λ (g : Facts). Has b p g.bits) (sym (f.facts m)) (served_kept n (u.clocks m) (λ g. Has b p g.bits) (inbox u m) (u.facts m) (keeps_has n (u.clocks m) b p u m (cleared m here)) h)
