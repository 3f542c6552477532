-- What a node is known to hold of a member's records.
use Rattle.std.proofs.Common.{◌≡◌, ℕ, Bool, true, false, cond, Some, refl, sym, subst, ◌∙◌, arith}
use Rattle.std.specs.Prelude.{nat_eq}
use Rattle.journal_readings.proofs.AlongLaws.{some_same}
use Rattle.audit_laws.proofs.Tests.{number_same}
use Rattle.audit_core.specs.declared.judge.Judge.{Judge}
use Rattle.audit_state.specs.declared.copies.Cover.{Cover}
use Rattle.audit_core.specs.Covering.{SeesCovers, IsCover, HaveNumber, cover_number, cover_of}
use Rattle.audit_core.specs.Trying.{KeepsStands, NotesCover}

cover_kept : (old new : Judge) (i n m p : ℕ) (c : Cover) → KeepsStands old new → IsCover old i n m p c → IsCover new i n m p c
cover_kept old new i n m p c keeps h =
    let moved : IsCover (record new { covers = old.covers }) i n m p c = subst (λ (s : Judge). IsCover s i n m p c) (sym keeps) h in
    record { held = moved.held; of = moved.of; covers = moved.covers }

same_members : (n m p a b q : ℕ) → HaveNumber n m p → HaveNumber a b q → cover_number n m p ≡ cover_number a b q → (n ≡ a) × (m ≡ b) × (p ≡ q)
same_members n m p a b q h x e =
    let node : n ≡ a = omega (arith, h.member, h.partition, x.member, x.partition, e) in
    let member : m ≡ b = omega (arith, h.member, h.partition, x.member, x.partition, e, node) in
    let part : p ≡ q = omega (arith, e, node, member) in
    (node, member, part)

pub covers_noted : (old new : Judge) (i n m p : ℕ) (c : Cover) → KeepsStands old new → NotesCover n m p c old new → HaveNumber n m p → IsCover old i n m p c → SeesCovers old i → SeesCovers new i
covers_noted old new i n m p c keeps notes number h sees a b q x other e = go (nat_eq (cover_number n m p) (cover_number a b q)) refl (sym (notes (cover_number a b q)) ∙ e)
  where
    go : (t : Bool) → nat_eq (cover_number n m p) (cover_number a b q) ≡ t → cond t (Some c) (cover_of old a b q) ≡ Some x → IsCover new i a b q x
    go true same found =
        let parts : (n ≡ a) × (m ≡ b) × (p ≡ q) = same_members n m p a b q number other (number_same (cover_number n m p) (cover_number a b q) same) in
        subst (λ (z : ℕ). IsCover new i z b q x) parts.0 (subst (λ (z : ℕ). IsCover new i n z q x) parts.1 (subst (λ (z : ℕ). IsCover new i n m z x) parts.2
        (subst (IsCover new i n m p) (some_same found) (cover_kept old new i n m p c keeps h))))
    go false same found = cover_kept old new i a b q x keeps (sees a b q x other found)
