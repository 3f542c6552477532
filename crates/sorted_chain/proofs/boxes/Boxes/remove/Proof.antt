-- `remove` moves a box's memory out. Assumes `Logic`.
use Rattle.std.proofs.Common.{◌≡◌, ℕ, ◌<◌, ◌^◌, List, [], ◌∷◌, ◌++◌, length, refl, sym, ap, subst, arith}
use Rattle.std.specs.List.{remove, slice_get}
use Rattle.std.proofs.lemmas.List.Edits.{length-remove}
use seplogic.Ra.Ura.{Ura}
use mir.Syntax.{Fn, named, w64}
use mir.MapTy.{inst_fn}
use mir.Val.{Val, vptr, vint}
use base.Logic.{SProp, ent, sep, never, fst∗}
use base.Fml.{Lft, GName, Share, ftrue, flft, fobs, fbor}
use prog.Wp.{Calls, Loops, WpFn, Tables}
use types.Logic.{Logic, sem}
use contract.Monad.{fact}
use contract.Running.{tables, tables_of}
use sound.WpLaws.{WpFn-mono}
use types.Kit.{Item, ⋆, ‵, ◌⊛◌, ◌$◌, ◌∵◌, !, qed, by, move, keep, use1, split, join, rewrite, fsplit, fsplit3, fjoin, fjoin3, feq_i, feq_l, flt_l, suffices, frame, done}
use types.Part.{whole, sub, agg}
use types.Run.{stop, fld, of_opd, and_then, no_more, returns, enter}
use types.ByLocal.{alloc_all, pass_all, free_all, look_at, get, get_in, sets, is}
use types.SemTy.{Body as Borrowed}
use denote.Exit.{yes, no}
use denote.RattleType.{owns}
use denote.Memory.{mem}
use denote.RawPtr.{block_ptr, null_ptr, ptr_val, in_a_block}
use denote.Ref.{MutBor, MutRef}
use denote.Builtin.{RefMutOf, usize}
use denote.Signature.{plain}
use denote.Steps.{nothing, opens, closes}
use denote.Triple.Carry.{spared}
use denote.Triple.Clauses.{Clauses, Ended, closing}
use denote.Triple.Entry.{on_entry}
use denote.Triple.Spec.{Meets, triple_of}
use denote.Triple.Table.{entered, run_framed}
use denote.Triple.Walked.{needs, Stays, stay_dropped, stay_ref, walk_of, ends_at, Goes-dropped, Goes-ref, walk_Meets}
use Rattle.core.proofs.alloc.Calls.{token, Fits, handle_tells}
use Rattle.std.specs.Box.Ownership.{box_owns}
use Rattle.std_alloc.proofs.RcSteps.{word, word-Good}
use Rattle.std_alloc.proofs.BoxSteps.Form.{Bx, args, R, P, τ, handle}
use Rattle.sorted_chain.specs.Ownership.{boxes_own}
use Rattle.sorted_chain.proofs.BoxesLaws.{box_out_of, item_at}
use Rattle.sorted_chain.proofs.RawBoxSteps.{both, raw_box_good, raw_box_in}
use Rattle.sorted_chain.proofs.BoxesSteps.{Br, Lo, Pl, word_had, says_four}
use mir.Raw.{raw as bare}
use Rattle.std.specs.declared.option.Option.TheVariants.{Some}
use Rattle.std.proofs.lemmas.Option.{slice_get_within}
use denote.Param.Laws.{param_laws}
use Rattle.sorted_chain.specs.contracts.boxes.Place as P-type
use Rattle.sorted_chain.specs.contracts.boxes.Boxes.remove.Key.{name as #self}
use Rattle.sorted_chain.proofs.boxes.Boxes.remove.Statement as stated
use Rattle.sorted_chain.proofs.boxes.Boxes.remove.Code as code

module _ (E : Bx) where
  abbrev function : Fn
  function = inst_fn (args E) code.function

  abbrev ended : Ended
  ended = record { signature = record { lifetimes = 1; outlives = []; params = RefMutOf (0 ∷ []) tt (plain (λ _. Br E)) (λ _. tt) ∷ plain (λ _. usize) ∷ plain (λ _. Pl) ∷ plain (λ _. P E) ∷ []; result = plain (λ _. Lo E) }; kept = (yes, (no, (no, (no, tt)))) }

  abbrev stayed : Stays ended.signature.params ended.kept
  stayed = (stay_ref (0 ∷ []) tt (plain (λ _. Br E)), (stay_dropped (plain (λ _. usize)) no, (stay_dropped (plain (λ _. Pl)) no, (stay_dropped (plain (λ _. P E)) no, tt))))

  abbrev Asks : (Br E).Denot → ℕ → Pl.Denot → E.al.row.Denot → Type 0
  Asks d i at a = (slice_get d.places i ≡ Some at) × (a ≡ d.alloc)

  abbrev spec : {M : Type 1} {𝓤 : Ura M} (𝓛 : Logic 𝓤) → Clauses 𝓤 ended
  spec {𝓤 = 𝓤} 𝓛 κs a = record {
    ghost = Unit {0};
    requires = λ _. fact 𝓤 (Asks a.0.now a.1.0 a.1.1.0 a.1.1.1.0);
    ensures = λ _ r w. sep 𝓤 (fact 𝓤 (w.0.now.places ≡ remove a.0.now.places a.1.0)) (sep 𝓤 (fact 𝓤 (w.0.now.items ≡ remove a.0.now.items a.1.0)) (sep 𝓤 (fact 𝓤 (slice_get a.0.now.items a.1.0 ≡ Some r.value)) (fact 𝓤 ((w.0.now.alloc ≡ a.0.now.alloc) × (r.alloc ≡ a.1.1.1.0)))));
  }

module _ (E : Bx) {M : Type 1} {𝓤 : Ura M} (𝓛 : Logic 𝓤) (C : Calls 𝓤 𝓛.H) (Λ : Loops 𝓤 𝓛.H) (κ : Lft) (q : Share) (rb ro : ℕ) (γ : GName) (d : (Br E).Denot) (i : ℕ) (at : Pl.Denot) (a : E.al.row.Denot) (ps us vs ws : List Val) where
  open 𝓛 use {H, A}

  abbrev self : MutBor (Br E).Denot
  self = record { ref_ptr = (rb, ro); ghost_name = γ; now = d }

  abbrev bound : (walk_of 𝓛 (ended E) (stayed E) (spec E 𝓛)).Ghost
  bound = (((κ, tt), (q, tt), tt, (self, (i, (at, (a, tt)))), (ps, (us, (vs, (ws, tt))))), tt)

  abbrev Post : Val → SProp 𝓤
  Post = (walk_of 𝓛 (ended E) (stayed E) (spec E 𝓛)).post bound

  exits : ps ≡ vptr rb ro ∷ [] → (r : (Lo E).Denot) (v : Val) (e : (Br E).Denot) → e.places ≡ remove d.places i → e.items ≡ remove d.items i → slice_get d.items i ≡ Some r.value → (e.alloc ≡ d.alloc) × (r.alloc ≡ a)
      → ent 𝓤 (⋆ 𝓛 (‵ (fobs γ ((Br E).coded.code e)) ∷ ‵ (fbor κ (Borrowed (mem (Br E)) rb ro γ)) ∷ ‵ (flft κ q) ∷ ‵ ((Lo E).own_val r (v ∷ [])) ∷ [])) (Post v)
  exits passed r v e f g h k =
      qed 𝓛 (‵ (fobs γ ((Br E).coded.code e)) ∷ ‵ (fbor κ (Borrowed (mem (Br E)) rb ro γ)) ∷ ‵ (flft κ q) ∷ ‵ ((Lo E).own_val r (v ∷ [])) ∷ []) ∵
      suffices ! _ (ends_at 𝓛 (ended E) (stayed E) (spec E 𝓛) bound v r (e, (tt, (tt, (tt, tt)))) (tt, (tt, (tt, (tt, tt))))) $ says_four ! f g h k $
      nothing ! $ move ! (3 ∷ 0 ∷ []) $ join ! $ frame ! $ feq_i ! (List Val) ps (vptr rb ro ∷ []) passed $ fjoin3 ! $ nothing ! $ nothing ! $ fjoin ! $ nothing ! $ fjoin ! $ nothing ! $ fjoin ! $ move ! (1 ∷ 0 ∷ []) $ fjoin ! $ done !

  abbrev Had : Val → List (Item 𝓤)
  Had hv = ‵ (fobs γ ((Br E).coded.code d)) ∷ ‵ (fbor κ (Borrowed (mem (Br E)) rb ro γ)) ∷ ‵ (flft κ q) ∷ ‵ (handle E a hv) ∷ []

  walk : ps ≡ vptr rb ro ∷ [] → Asks E d i at a → i < 2 ^ 64 → (hv : Val) → Fits E.al hv → ent 𝓤 (⋆ 𝓛 (Had hv)) (WpFn 𝓤 H C Λ (function E) (vptr rb ro ∷ vint w64 i ∷ word at.ptr ∷ hv ∷ []) Post)
  walk passed asked fi hv fa =
      let ok : length d.places ≡ length d.items = d.paired in let within : i < length d.places = slice_get_within d.places i at asked.0 in let within' : i < length d.items = omega arith in
      let found = item_at d.places d.items i at ok asked.0 in let x = found.0 in
      let e : (Br E).Denot = record d { places = remove d.places i; items = remove d.items i; paired = omega (arith, length-remove d.places i within, length-remove d.items i within') } in
      let law = param_laws 1 E.al.row E.al.laws in
      qed 𝓛 (Had hv) ∵ enter ! C Λ (function E) (vptr rb ro ∷ vint w64 i ∷ word at.ptr ∷ hv ∷ []) _ $
      alloc_all ! (λ l. pass_all ! refl ((tt, tt), ((tt, record { fits = fi }), (word-Good P-type.the_type.name at.ptr, (fa, tt)))) $
      opens ! tt (Br E) {h = d} rb ro (λ us'. move ! (1 ∷ []) $ fsplit ! $ move ! (1 ∷ []) $
      -- [the boxes; the mark; its cell; the open borrow; obs; auth; the handle]
      use1 𝓛 (‵ (box_owns (token E.al d.alloc) (R E) at.ptr x) ⊛ ‵ (boxes_own (R E) (token E.al d.alloc) e.places e.items)) (box_out_of 𝓛 (R E) (token E.al d.alloc) d.places d.items i at x asked.0 found.1) $ split ! $
      in_a_block ! at.ptr (λ p. box_owns (token E.al d.alloc) (R E) p x) (fst∗ 𝓤 (never 𝓤) (sem 𝓛 (token E.al d.alloc (bare (τ E)) null_ptr))) (λ b o here.
      rewrite ! 0 (λ (c : E.al.row.Denot). ‵ (box_owns (token E.al c) (R E) (block_ptr b o) x)) (sym asked.1) refl $
      move ! (2 ∷ 1 ∷ []) $ fjoin ! $ move ! (2 ∷ 0 ∷ 3 ∷ 4 ∷ 5 ∷ []) $ closes ! tt (Br E) e us' rb ro $
      sets ! (is ! (of_opd ! (get_in ! (fld ! refl (stop !)) (sub ! 0 refl (whole !)))) (ap ptr_val here)) refl (tt, tt) $ sets ! (of_opd ! (get ! refl)) refl fa $
      sets ! (agg ! (and_then ! (get ! refl) (and_then ! (get ! refl) (no_more !)))) refl (raw_box_good (R E) (P E) law E.al.g b o hv fa) $
      returns ! (look_at ! 0 refl) $ free_all ! refl $ move ! (3 ∷ 4 ∷ []) $ raw_box_in (R E) (P E) law E.al.g ! b o hv a x $ move ! (1 ∷ 2 ∷ 3 ∷ 0 ∷ []) $
      by ! (exits passed (record { at = block_ptr b o; alloc = a; value = x }) (both (vptr b o) hv) e refl refl found.1 (refl, refl)))))

  entry : Asks E d i at a → ent 𝓤 (on_entry 𝓛 (ended E).signature (κ, tt) (q, tt) (self, (i, (at, (a, tt)))) (ps, (us, (vs, (ws, tt))))) (WpFn 𝓤 H C Λ (function E) (ps ++ (us ++ (vs ++ (ws ++ [])))) Post)
  entry asked =
      qed 𝓛 ((‵ (flft κ q) ⊛ ‵ ftrue) ∷ ‵ (owns (MutRef (named 0) κ (Br E) ∷ usize ∷ Pl ∷ P E ∷ []) (self, (i, (at, (a, tt)))) (ps, (us, (vs, (ws, tt))))) ∷ []) ∵ split ! $ move ! (2 ∷ []) $ fsplit3 ! $ fsplit3 ! $ feq_l ! (λ e.
      move ! (2 ∷ []) $ fsplit ! $ feq_l ! (λ f. flt_l ! (λ fi. move ! (2 ∷ []) $ fsplit ! $ word_had ! at.ptr vs (λ g. fsplit ! $
      handle_tells E.al ! a ws (λ hv h fa. keep ! (2 ∷ 3 ∷ 4 ∷ 0 ∷ []) $
      by ! (subst (λ (zs : List Val × List Val × List Val × List Val). ent 𝓤 (⋆ 𝓛 (Had hv)) (WpFn 𝓤 H C Λ (function E) (zs.0 ++ (zs.1 ++ (zs.2 ++ (zs.3 ++ [])))) Post)) (λ j. (sym e j, sym f j, sym g j, sym h j)) (walk e asked fi hv fa)))))))

meets : (E : Bx) {M : Type 1} {𝓤 : Ura M} (𝓛 : Logic 𝓤) (𝓣 : Tables 𝓤 𝓛.H)
    → Meets 𝓛 (ended E).signature (WpFn 𝓤 𝓛.H 𝓣.C 𝓣.Λ (function E)) (closing 𝓛 (ended E) (spec E 𝓛))
meets E {𝓤 = 𝓤} 𝓛 𝓣 =
    walk_Meets 𝓛 (ended E) (stayed E) (Goes-ref 𝓛 1 0 tt (plain (λ _. Br E)), (Goes-dropped 𝓛 1 (plain (λ _. usize)) no (λ κs x f. refl), (Goes-dropped 𝓛 1 (plain (λ _. Pl)) no (λ κs x f. refl), (Goes-dropped 𝓛 1 (plain (λ _. P E)) no (λ κs x f. refl), tt)))) (spec E 𝓛) (WpFn 𝓤 𝓛.H 𝓣.C 𝓣.Λ (function E)) (WpFn-mono 𝓤 𝓛.H 𝓛.laws 𝓣 (function E))
    (λ z. let a = z.0.3 in let vss = z.0.4 in needs 𝓤 (Asks E a.0.now a.1.0 a.1.1.0 a.1.1.1.0) _ (entry E 𝓛 𝓣.C 𝓣.Λ z.0.0.0 z.0.1.0 a.0.ref_ptr.0 a.0.ref_ptr.1 a.0.ghost_name a.0.now a.1.0 a.1.1.0 a.1.1.1.0 vss.0 vss.1.0 vss.1.1.0 vss.1.1.1.0))

pub remove_spec : {M : Type 1} → stated.statement M
unfolding tables_of
remove_spec 𝓤 𝓛 𝓜 𝓡 wired Y Z L LZ g d dd met md y =
    let E : Bx = record { row = Y; laws = L; al = record { row = Z; laws = LZ; g = g; d = d; drops = dd } } in
    let A = 𝓛.A in
    let 𝓣 : Tables 𝓤 𝓛.H = tables_of 𝓤 𝓛.H 𝓜 (tables 𝓤 𝓛.H 𝓜 𝓡 𝓡.env) in
    spared 𝓛 (ended E).signature (𝓡.run (𝓡.env (#self (args E)))) (run_framed 𝓤 𝓛.H 𝓜 𝓡 (𝓡.env (#self (args E)))) 2 (Y.lives, (Z.lives, tt)) (closing 𝓛 (ended E) (spec E 𝓛))
    (entered 𝓤 𝓛.H (triple_of 𝓛 (ended E).signature (closing 𝓛 (ended E) (spec E 𝓛))) 𝓣.C 𝓣.Λ (#self (args E)) (function E) (code.unfolded 𝓤 𝓛.H 𝓜 𝓡 wired (Y, (Z, tt)) d dd) (meets E 𝓛 𝓣))
    ((y.0.0, y.0.1, tt, y.0.3, y.0.4), y.1)
