-- What the walks of `Boxes` share. Assumes `Logic`.
use Rattle.std.proofs.Common.{◌≡◌, List, [], ◌∷◌, ◌++◌, refl, subst}
use seplogic.Ra.Ura.{Ura}
use mir.Val.{Val, vstruct, vcons, vnil, of_list}
use base.Logic.{SProp, ent, sep, emp, via}
use types.Logic.{Logic, sem}
use types.Kit.{Goal, Seq, Step, Item, step, prop, ‵, raw, ◌$◌, !, qed, use0, frame, drop, fsplit, fjoin, fpick, fpack, feq_i, feq_l, done}
use contract.Monad.{fact, fact_i}
use denote.RattleType.{RattleType, Valss}
use denote.RawPtr.{Ptr, RawPtr, ptr_val}
use denote.Shadow.{makes_shadow}
use denote.Steps.{nothing}
use denote.Struct.Struct.{Shape, Struct, within}
use denote.Struct.Owning.{shape}
use Rattle.std_alloc.proofs.RcSteps.{word}
use Rattle.std_alloc.proofs.BoxSteps.Form.{Bx, R, P}
use Rattle.sorted_chain.specs.contracts.boxes.Boxes as B-type
use Rattle.sorted_chain.specs.contracts.boxes.RawBox as L-type
use Rattle.sorted_chain.specs.contracts.boxes.Place as P-type

module _ (E : Bx) where
  abbrev pub Br : RattleType
  Br = B-type.the_row (R E) (P E) E.al.g

  abbrev pub Lo : RattleType
  Lo = L-type.the_row (R E) (P E) E.al.g

  -- the one field of a `Boxes`, which takes no bytes
  abbrev pub Mark : RattleType
  Mark = Struct (shape (B-type.the_type (R E) (P E) E.al.g))

abbrev pub Pl : RattleType
Pl = P-type.the_row

abbrev one_field : Shape
one_field = record { name = []; args = []; types = []; fields = RawPtr ∷ [] }

abbrev pub Word : RattleType
Word = Struct one_field

abbrev pub mark : Val
mark = vstruct (vcons (vstruct vnil) vnil)

pub mark_made : (E : Bx) {M : Type 1} {𝓤 : Ura M} (𝓛 : Logic 𝓤) → ent 𝓤 (emp 𝓤) (sem 𝓛 ((Mark E).own_val (tt, tt) (mark ∷ [])))
mark_made E 𝓛 = makes_shadow 𝓛 ((Mark E).own_val (tt, tt) (mark ∷ [])) (λ vss. (tt, ((λ uss. (tt, tt)), tt))) ((vstruct vnil ∷ [], tt), (refl, ((tt, (refl, tt)), tt)))

module _ {M : Type 1} {𝓤 : Ura M} {𝓛 : Logic 𝓤} {K : Type 0} {Γ : List (Item 𝓤)} {G : Goal 𝓤 𝓛.H} where
  pub word_had : K → (c : Ptr) (vs : List Val) → (vs ≡ word c ∷ [] → Seq K 𝓛 Γ G) → Seq K 𝓛 (‵ (Word.own_val (c, tt) vs) ∷ Γ) G
  word_had t c vs k = fpick t (λ vss. fsplit t $ feq_l t (λ ev. fsplit t $ feq_l t (λ e. drop t $ k (subst (λ (ws : List Val). vs ≡ vstruct (of_list (ws ++ [])) ∷ []) e ev))))

  pub word_made : K → (c : Ptr) → Step K 𝓛 (‵ (Word.own_val (c, tt) (word c ∷ [])) ∷ Γ) G Γ G
  word_made t c = step (λ s.
      nothing t $ feq_i t (List Val) (ptr_val c ∷ []) (ptr_val c ∷ []) refl $ fjoin t $ feq_i t (List Val) (word c ∷ []) (word c ∷ []) refl $ fjoin t $
      fpack t (Valss (RawPtr ∷ [])) (within one_field (c, tt) (word c ∷ [])) (ptr_val c ∷ [], tt) $ s)

-- an `ensures` of more than one fact
module _ {M : Type 1} {𝓤 : Ura M} {𝓛 : Logic 𝓤} {K : Type 0} {Γ : List (Item 𝓤)} where
  pub says_three : K → {φ ψ χ : Type 0} {Q : SProp 𝓤} → φ → ψ → χ → Step K 𝓛 Γ (prop Q) Γ (prop (sep 𝓤 Q (sep 𝓤 (fact 𝓤 φ) (sep 𝓤 (fact 𝓤 ψ) (fact 𝓤 χ)))))
  says_three t {φ} {ψ} {χ} {Q} x y z = step (λ s. record {
    prf = via 𝓤 Q s.prf (qed 𝓛 (raw Q ∷ []) {P = sep 𝓤 Q (sep 𝓤 (fact 𝓤 φ) (sep 𝓤 (fact 𝓤 ψ) (fact 𝓤 χ)))} (
        frame ! $ use0 𝓛 (raw (fact 𝓤 χ)) (fact_i 𝓤 χ (emp 𝓤) z) $ use0 𝓛 (raw (fact 𝓤 ψ)) (fact_i 𝓤 ψ (emp 𝓤) y) $ use0 𝓛 (raw (fact 𝓤 φ)) (fact_i 𝓤 φ (emp 𝓤) x) $ done !));
  })

  pub says_four : K → {φ ψ χ ω : Type 0} {Q : SProp 𝓤} → φ → ψ → χ → ω → Step K 𝓛 Γ (prop Q) Γ (prop (sep 𝓤 Q (sep 𝓤 (fact 𝓤 φ) (sep 𝓤 (fact 𝓤 ψ) (sep 𝓤 (fact 𝓤 χ) (fact 𝓤 ω))))))
  says_four t {φ} {ψ} {χ} {ω} {Q} x y z w = step (λ s. record {
    prf = via 𝓤 Q s.prf (qed 𝓛 (raw Q ∷ []) {P = sep 𝓤 Q (sep 𝓤 (fact 𝓤 φ) (sep 𝓤 (fact 𝓤 ψ) (sep 𝓤 (fact 𝓤 χ) (fact 𝓤 ω))))} (
        frame ! $ use0 𝓛 (raw (fact 𝓤 ω)) (fact_i 𝓤 ω (emp 𝓤) w) $ use0 𝓛 (raw (fact 𝓤 χ)) (fact_i 𝓤 χ (emp 𝓤) z) $ use0 𝓛 (raw (fact 𝓤 ψ)) (fact_i 𝓤 ψ (emp 𝓤) y) $ use0 𝓛 (raw (fact 𝓤 φ)) (fact_i 𝓤 φ (emp 𝓤) x) $ done !));
  })
