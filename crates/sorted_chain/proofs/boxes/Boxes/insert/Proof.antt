-- `insert` moves a box's memory in with that of the others. Assumes `Logic`.
use Rattle.std.proofs.Common.{◌≡◌, ℕ, ◌+◌, ◌≤◌, ◌<◌, ◌^◌, List, [], ◌∷◌, ◌++◌, length, refl, sym, ap, ◌∙◌, subst, arith}
use Rattle.std.specs.List.{insert}
use Rattle.std.proofs.lemmas.List.Edits.{length-insert}
use seplogic.Ra.Ura.{Ura}
use mir.Syntax.{Fn, named, w64}
use mir.MapTy.{inst_fn}
use mir.Val.{Val, vptr, vint}
use base.Logic.{SProp, ent, sep}
use base.Fml.{Lft, GName, Share, ftrue, flft, fobs, fbor}
use prog.Wp.{Calls, Loops, WpFn, Tables}
use types.Logic.{Logic}
use contract.Monad.{fact}
use contract.Running.{tables, tables_of}
use sound.WpLaws.{WpFn-mono}
use types.Kit.{Item, ⋆, ‵, ◌⊛◌, ◌$◌, ◌∵◌, !, qed, by, move, keep, use2, split, join, rewrite, fsplit, fsplit3, fjoin, fjoin3, feq_i, feq_l, flt_l, suffices, frame, done}
use types.Part.{whole, sub, agg}
use types.Run.{stop, fld, of_opd, and_then, no_more, returns, enter}
use types.ByLocal.{alloc_all, pass_all, free_all, look_at, get, get_in, sets}
use types.SemTy.{Body as Borrowed}
use denote.Exit.{yes, no}
use denote.RattleType.{RattleType, owns}
use denote.Memory.{mem}
use denote.RawPtr.{block_ptr}
use denote.Ref.{MutBor, MutRef}
use denote.Builtin.{RefMutOf, usize}
use denote.Signature.{plain}
use denote.Steps.{nothing, opens, closes}
use denote.Struct.Tuple.{Tuple}
use denote.Triple.Carry.{spared}
use denote.Triple.Clauses.{Clauses, Ended, closing}
use denote.Triple.Entry.{on_entry}
use denote.Triple.Spec.{Meets, triple_of}
use denote.Triple.Table.{entered, run_framed}
use denote.Triple.Walked.{needs, Stays, stay_dropped, stay_ref, walk_of, ends_at, Goes-dropped, Goes-ref, walk_Meets}
use Rattle.core.proofs.alloc.Calls.{α, token, Fits, Goes-blank}
use Rattle.std.specs.Box.Ownership.{box_owns}
use Rattle.std_alloc.proofs.Pairs.{pair_val, pair_Typed, pair_of}
use Rattle.std_alloc.proofs.RcSteps.{word, word-Good}
use Rattle.std_alloc.proofs.BoxSteps.Form.{Bx, args, R, P, handle}
use Rattle.sorted_chain.specs.Ownership.{boxes_own}
use Rattle.sorted_chain.proofs.BoxesLaws.{box_put}
use Rattle.sorted_chain.proofs.RawBoxSteps.{both, raw_box_good, raw_box_out}
use Rattle.sorted_chain.proofs.BoxesSteps.{Br, Lo, Pl, word_made, says_three}
use denote.Param.{layout}
use denote.Param.Laws.{param_laws}
use Rattle.sorted_chain.specs.contracts.boxes.Place as P-type
use Rattle.sorted_chain.specs.contracts.boxes.Boxes.insert.Key.{name as #self}
use Rattle.sorted_chain.proofs.boxes.Boxes.insert.Statement as stated
use Rattle.sorted_chain.proofs.boxes.Boxes.insert.Code as code

module _ (E : Bx) where
  abbrev function : Fn
  function = inst_fn (args E) code.function

  abbrev Out : RattleType
  Out = Tuple (Pl ∷ P E ∷ [])

  abbrev ended : Ended
  ended = record { signature = record { lifetimes = 1; outlives = []; params = RefMutOf (0 ∷ []) tt (plain (λ _. Br E)) (λ _. tt) ∷ plain (λ _. usize) ∷ plain (λ _. Lo E) ∷ []; result = plain (λ _. Out) }; kept = (yes, (no, (no, tt))) }

  abbrev stayed : Stays ended.signature.params ended.kept
  stayed = (stay_ref (0 ∷ []) tt (plain (λ _. Br E)), (stay_dropped (plain (λ _. usize)) no, (stay_dropped (plain (λ _. Lo E)) no, tt)))

  abbrev Asks : (Br E).Denot → ℕ → (Lo E).Denot → Type 0
  Asks d i new = (i ≤ length d.items) × (new.alloc ≡ d.alloc)

  abbrev spec : {M : Type 1} {𝓤 : Ura M} (𝓛 : Logic 𝓤) → Clauses 𝓤 ended
  spec {𝓤 = 𝓤} 𝓛 κs a = record {
    ghost = Unit {0};
    requires = λ _. fact 𝓤 (Asks a.0.now a.1.0 a.1.1.0);
    ensures = λ _ r w. sep 𝓤 (fact 𝓤 (w.0.now.places ≡ insert a.0.now.places a.1.0 r.0)) (sep 𝓤 (fact 𝓤 (w.0.now.items ≡ insert a.0.now.items a.1.0 a.1.1.0.value)) (fact 𝓤 ((w.0.now.alloc ≡ a.0.now.alloc) × (r.1 ≡ a.1.1.0.alloc))));
  }

module _ (E : Bx) {M : Type 1} {𝓤 : Ura M} (𝓛 : Logic 𝓤) (C : Calls 𝓤 𝓛.H) (Λ : Loops 𝓤 𝓛.H) (κ : Lft) (q : Share) (rb ro : ℕ) (γ : GName) (d : (Br E).Denot) (i : ℕ) (new : (Lo E).Denot) (ps us vs : List Val) where
  open 𝓛 use {H, A}

  abbrev self : MutBor (Br E).Denot
  self = record { ref_ptr = (rb, ro); ghost_name = γ; now = d }

  abbrev bound : (walk_of 𝓛 (ended E) (stayed E) (spec E 𝓛)).Ghost
  bound = (((κ, tt), (q, tt), tt, (self, (i, (new, tt))), (ps, (us, (vs, tt)))), tt)

  abbrev Post : Val → SProp 𝓤
  Post = (walk_of 𝓛 (ended E) (stayed E) (spec E 𝓛)).post bound

  exits : ps ≡ vptr rb ro ∷ [] → (r : (Out E).Denot) (v : Val) (e : (Br E).Denot) → e.places ≡ insert d.places i r.0 → e.items ≡ insert d.items i new.value → (e.alloc ≡ d.alloc) × (r.1 ≡ new.alloc)
      → ent 𝓤 (⋆ 𝓛 (‵ (fobs γ ((Br E).coded.code e)) ∷ ‵ (fbor κ (Borrowed (mem (Br E)) rb ro γ)) ∷ ‵ (flft κ q) ∷ ‵ ((Out E).own_val r (v ∷ [])) ∷ [])) (Post v)
  exits passed r v e f g h =
      qed 𝓛 (‵ (fobs γ ((Br E).coded.code e)) ∷ ‵ (fbor κ (Borrowed (mem (Br E)) rb ro γ)) ∷ ‵ (flft κ q) ∷ ‵ ((Out E).own_val r (v ∷ [])) ∷ []) ∵
      suffices ! _ (ends_at 𝓛 (ended E) (stayed E) (spec E 𝓛) bound v r (e, (tt, ((tt, (tt, tt)), tt))) (tt, (tt, (tt, tt)))) $ says_three ! f g h $
      nothing ! $ move ! (3 ∷ 0 ∷ []) $ join ! $ frame ! $ feq_i ! (List Val) ps (vptr rb ro ∷ []) passed $ fjoin3 ! $ nothing ! $ nothing ! $ fjoin ! $ nothing ! $ fjoin ! $ move ! (1 ∷ 0 ∷ []) $ fjoin ! $ done !

  abbrev Had : ℕ → ℕ → Val → List (Item 𝓤)
  Had b o hv = ‵ (fobs γ ((Br E).coded.code d)) ∷ ‵ (fbor κ (Borrowed (mem (Br E)) rb ro γ)) ∷ ‵ (flft κ q) ∷ ‵ (box_owns (token E.al new.alloc) (R E) (block_ptr b o) new.value) ∷ ‵ (handle E new.alloc hv) ∷ []

  walk : ps ≡ vptr rb ro ∷ [] → Asks E d i new → i < 2 ^ 64 → (b o : ℕ) (hv : Val) → Fits E.al hv → ent 𝓤 (⋆ 𝓛 (Had b o hv)) (WpFn 𝓤 H C Λ (function E) (vptr rb ro ∷ vint w64 i ∷ both (vptr b o) hv ∷ []) Post)
  walk passed asked fi b o hv fa =
      let p : Pl.Denot = record { ptr = block_ptr b o } in let x = new.value in let ok : length d.places ≡ length d.items = d.paired in
      let here : i ≤ length d.items = asked.0 in let there : i ≤ length d.places = omega arith in
      let e : (Br E).Denot = record d { places = insert d.places i p; items = insert d.items i x; paired = length-insert d.places i p there ∙ ap (λ n. n + 1) ok ∙ sym (length-insert d.items i x here) } in
      let w : Val = word (block_ptr b o) in let gw = word-Good P-type.the_type.name (block_ptr b o) in
      qed 𝓛 (Had b o hv) ∵ enter ! C Λ (function E) (vptr rb ro ∷ vint w64 i ∷ both (vptr b o) hv ∷ []) _ $
      alloc_all ! (λ l. pass_all ! refl ((tt, tt), ((tt, record { fits = fi }), (raw_box_good (R E) (P E) (param_laws 1 E.al.row E.al.laws) E.al.g b o hv fa, tt))) $
      opens ! tt (Br E) {h = d} rb ro (λ us'. move ! (1 ∷ []) $ fsplit ! $ move ! (6 ∷ 1 ∷ []) $
      -- [the box; the boxes; the mark; its cell; the open borrow; obs; auth; the handle]
      rewrite ! 0 (λ (a : E.al.row.Denot). ‵ (box_owns (token E.al a) (R E) (block_ptr b o) x)) asked.1 refl $
      use2 𝓛 (‵ (boxes_own (R E) (token E.al d.alloc) e.places e.items)) (box_put 𝓛 (R E) (token E.al d.alloc) d.places d.items i p x there ok) $
      move ! (1 ∷ 0 ∷ []) $ fjoin ! $ move ! (1 ∷ 0 ∷ []) $ closes ! tt (Br E) e us' rb ro $
      sets ! (of_opd ! (get_in ! (fld ! refl (stop !)) (sub ! 0 refl (whole !)))) refl (tt, tt) $ sets ! (of_opd ! (get_in ! (fld ! refl (stop !)) (sub ! 1 refl (whole !)))) refl fa $
      sets ! (of_opd ! (get ! refl)) refl (tt, tt) $ sets ! (agg ! (and_then ! (get ! refl) (no_more !))) refl gw $ sets ! (of_opd ! (get ! refl)) refl fa $
      sets ! (agg ! (and_then ! (get ! refl) (and_then ! (get ! refl) (no_more !)))) refl (pair_Typed (layout Pl) (α E.al) w hv gw fa) $
      returns ! (look_at ! 0 refl) $ free_all ! refl $ move ! (3 ∷ []) $ word_made ! (block_ptr b o) $
      use2 𝓛 (‵ ((Out E).own_val (p, new.alloc) (pair_val w hv ∷ []))) (pair_of 𝓛 Pl (P E) p new.alloc w hv) $ move ! (1 ∷ 2 ∷ 3 ∷ 0 ∷ []) $
      by ! (exits passed (p, new.alloc) (pair_val w hv) e refl refl (refl, refl))))

  entry : Asks E d i new → ent 𝓤 (on_entry 𝓛 (ended E).signature (κ, tt) (q, tt) (self, (i, (new, tt))) (ps, (us, (vs, tt)))) (WpFn 𝓤 H C Λ (function E) (ps ++ (us ++ (vs ++ []))) Post)
  entry asked =
      qed 𝓛 ((‵ (flft κ q) ⊛ ‵ ftrue) ∷ ‵ (owns (MutRef (named 0) κ (Br E) ∷ usize ∷ Lo E ∷ []) (self, (i, (new, tt))) (ps, (us, (vs, tt)))) ∷ []) ∵ split ! $ move ! (2 ∷ []) $ fsplit3 ! $ fsplit3 ! $ feq_l ! (λ e.
      move ! (2 ∷ []) $ fsplit ! $ feq_l ! (λ f. flt_l ! (λ fi. move ! (2 ∷ []) $ fsplit ! $
      raw_box_out (R E) (P E) (param_laws 1 E.al.row E.al.laws) E.al.g ! new vs (λ b o hv at g fa. keep ! (3 ∷ 4 ∷ 5 ∷ 0 ∷ 1 ∷ []) $
      by ! (subst (λ (ws : List Val × List Val × List Val). ent 𝓤 (⋆ 𝓛 (Had b o hv)) (WpFn 𝓤 H C Λ (function E) (ws.0 ++ (ws.1 ++ (ws.2 ++ []))) Post)) (λ j. (sym e j, sym f j, sym g j)) (walk e asked fi b o hv fa))))))

meets : (E : Bx) {M : Type 1} {𝓤 : Ura M} (𝓛 : Logic 𝓤) (𝓣 : Tables 𝓤 𝓛.H)
    → Meets 𝓛 (ended E).signature (WpFn 𝓤 𝓛.H 𝓣.C 𝓣.Λ (function E)) (closing 𝓛 (ended E) (spec E 𝓛))
meets E {𝓤 = 𝓤} 𝓛 𝓣 =
    walk_Meets 𝓛 (ended E) (stayed E) (Goes-ref 𝓛 1 0 tt (plain (λ _. Br E)), (Goes-dropped 𝓛 1 (plain (λ _. usize)) no (λ κs x f. refl), (Goes-blank 𝓛 1 (plain (λ _. Lo E)) no (λ κs x f. tt), tt))) (spec E 𝓛) (WpFn 𝓤 𝓛.H 𝓣.C 𝓣.Λ (function E)) (WpFn-mono 𝓤 𝓛.H 𝓛.laws 𝓣 (function E))
    (λ z. let a = z.0.3 in let vss = z.0.4 in needs 𝓤 (Asks E a.0.now a.1.0 a.1.1.0) _ (entry E 𝓛 𝓣.C 𝓣.Λ z.0.0.0 z.0.1.0 a.0.ref_ptr.0 a.0.ref_ptr.1 a.0.ghost_name a.0.now a.1.0 a.1.1.0 vss.0 vss.1.0 vss.1.1.0))

pub insert_spec : {M : Type 1} → stated.statement M
unfolding tables_of
insert_spec 𝓤 𝓛 𝓜 𝓡 wired Y Z L LZ g d dd met md y =
    let E : Bx = record { row = Y; laws = L; al = record { row = Z; laws = LZ; g = g; d = d; drops = dd } } in
    let A = 𝓛.A in
    let 𝓣 : Tables 𝓤 𝓛.H = tables_of 𝓤 𝓛.H 𝓜 (tables 𝓤 𝓛.H 𝓜 𝓡 𝓡.env) in
    spared 𝓛 (ended E).signature (𝓡.run (𝓡.env (#self (args E)))) (run_framed 𝓤 𝓛.H 𝓜 𝓡 (𝓡.env (#self (args E)))) 2 (Y.lives, (Z.lives, tt)) (closing 𝓛 (ended E) (spec E 𝓛))
    (entered 𝓤 𝓛.H (triple_of 𝓛 (ended E).signature (closing 𝓛 (ended E) (spec E 𝓛))) 𝓣.C 𝓣.Λ (#self (args E)) (function E) (code.unfolded 𝓤 𝓛.H 𝓜 𝓡 wired (Y, (Z, tt)) d dd) (meets E 𝓛 𝓣))
    ((y.0.0, y.0.1, tt, y.0.3, y.0.4), y.1)
