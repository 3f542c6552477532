-- `get_mut` lends the value in a box. Assumes `Logic`.
use Rattle.std.proofs.Common.{◌≡◌, ℕ, ◌<◌, ◌^◌, List, [], ◌∷◌, ◌++◌, length, set, refl, sym, ap, subst, arith}
use Rattle.std.specs.List.{remove, slice_get}
use Rattle.std.proofs.lemmas.Option.{slice_get_within}
use seplogic.Ra.Ura.{Ura}
use base.Fraction.{full_share}
use mir.Syntax.{Fn, named, w64}
use mir.MapTy.{inst_fn}
use mir.Raw.{raw as bare}
use mir.Val.{Val, vptr, vint}
use base.Logic.{SProp, ent, sep, never, fst∗}
use base.Fml.{Lft, GName, Share, Fml, ftrue, fsep, flft, fobs, fbor}
use prog.Wp.{Env, Calls, Loops, WpFn, Tables}
use types.Logic.{Logic, sem}
use contract.Monad.{fact}
use contract.Running.{tables, tables_of}
use sound.WpLaws.{WpFn-mono}
use types.Kit.{Item, ⋆, ‵, raw, ◌⊛◌, some, later, at_ret, ◌$◌, ◌∵◌, !, qed, by, move, keep, use1, use2, pick, await, split, join, group, rewrite, fsplit, fsplit3, fjoin, fjoin3, fpack, feq_l, flt_l, suffices, frame, done}
use types.Part.{whole, sub}
use types.Run.{stop, fld, of_opd, addr, first, blocks, exec, returns, enter}
use types.ByLocal.{alloc_all, pass_all, free_all, look_at, get, get_in, through, sets, sets_last, is, env}
use types.SemTy.{Body as Borrowed}
use denote.Exit.{no}
use denote.RattleType.{owns}
use denote.Memory.{mem, part_at, part_of, cell_at}
use denote.RawPtr.{Ptr, block_ptr, null_ptr, ptr_val, in_a_block}
use denote.Ref.{MutBor, MutRef}
use denote.Builtin.{RefMutOf, usize}
use denote.Follow.{follows, Part, lends_Part}
use denote.Signature.{plain, mut_ref_to}
use denote.Steps.{nothing, opens}
use denote.Triple.Carry.{spared}
use denote.Triple.Clauses.{Clauses, Ended, closing}
use denote.Triple.Entry.{on_entry}
use denote.Triple.Spec.{Meets, triple_of}
use denote.Triple.Table.{entered, run_framed}
use denote.Triple.Walked.{says, needs, Stays, stay_dropped, walk_of, ends_at, Goes-dropped, Goes-spent_ref, walk_Meets}
use Rattle.std.specs.declared.option.Option.TheVariants.{Some}
use Rattle.core.proofs.alloc.Calls.{token}
use Rattle.std.specs.Box.Ownership.{box_owns}
use Rattle.std_alloc.proofs.VecSteps.Shapes.{after}
use Rattle.std_alloc.proofs.RcSteps.{word, word-Good}
use Rattle.std_alloc.proofs.BoxSteps.Form.{Bx, args, X, τ, R}
use Rattle.sorted_chain.specs.Ownership.{boxes_own}
use Rattle.sorted_chain.specs.Lends.{with_item}
use Rattle.sorted_chain.proofs.BoxesLaws.{box_out_of, box_back, item_at}
use Rattle.sorted_chain.proofs.BoxesSteps.{Br, Mark, Pl, word_had}
use Rattle.sorted_chain.specs.contracts.boxes.Place as P-type
use Rattle.sorted_chain.specs.contracts.boxes.Boxes.get_mut.Key.{name as #self}
use Rattle.sorted_chain.proofs.boxes.Boxes.get_mut.Statement as stated
use Rattle.sorted_chain.proofs.boxes.Boxes.get_mut.Code as code

module _ (E : Bx) where
  abbrev function : Fn
  function = inst_fn (args E) code.function

  abbrev ended : Ended
  ended = record { signature = record { lifetimes = 1; outlives = []; params = RefMutOf (0 ∷ []) tt (plain (λ _. Br E)) (λ _. tt) ∷ plain (λ _. usize) ∷ plain (λ _. Pl) ∷ []; result = RefMutOf (0 ∷ []) tt (plain (λ _. R E)) (λ _. tt) }; kept = (no, (no, (no, tt))) }

  abbrev stayed : Stays ended.signature.params ended.kept
  stayed = (stay_dropped (mut_ref_to (0 ∷ []) tt (plain (λ _. Br E))) no, (stay_dropped (plain (λ _. usize)) no, (stay_dropped (plain (λ _. Pl)) no, tt)))

  abbrev Asks : (Br E).Denot → ℕ → Pl.Denot → Type 0
  Asks d i at = slice_get d.places i ≡ Some at

  abbrev spec : {M : Type 1} {𝓤 : Ura M} (𝓛 : Logic 𝓤) → Clauses 𝓤 ended
  spec {𝓤 = 𝓤} 𝓛 κs a = record {
    ghost = Unit {0};
    requires = λ _. fact 𝓤 (Asks a.0.now a.1.0 a.1.1.0);
    ensures = λ _ r w. sep 𝓤 (sem 𝓛 (follows (Br E) (R E) a.0.ghost_name r.ghost_name (with_item a.0.now a.1.0))) (fact 𝓤 (slice_get a.0.now.items a.1.0 ≡ Some r.now));
  }

module _ (E : Bx) {M : Type 1} {𝓤 : Ura M} (𝓛 : Logic 𝓤) (C : Calls 𝓤 𝓛.H) (Λ : Loops 𝓤 𝓛.H) (κ : Lft) (q : Share) (rb ro : ℕ) (γ : GName) (d : (Br E).Denot) (i : ℕ) (at : Pl.Denot) (ps us vs : List Val) where
  open 𝓛 use {H, A}

  abbrev self : MutBor (Br E).Denot
  self = record { ref_ptr = (rb, ro); ghost_name = γ; now = d }

  abbrev bound : (walk_of 𝓛 (ended E) (stayed E) (spec E 𝓛)).Ghost
  bound = (((κ, tt), (q, tt), tt, (self, (i, (at, tt))), (ps, (us, (vs, tt)))), tt)

  abbrev Post : Val → SProp 𝓤
  Post = (walk_of 𝓛 (ended E) (stayed E) (spec E 𝓛)).post bound

  abbrev new : X E → (Br E).Denot
  new = with_item d i

  module _ (b o : ℕ) (ms : List Val) where
    -- all but the value
    abbrev Rest : Fml
    Rest = fsep (token E.al d.alloc (bare (τ E)) (block_ptr b o)) (fsep (boxes_own (R E) (token E.al d.alloc) (remove d.places i) (remove d.items i)) (fsep ((Mark E).own_val (tt, tt) ms) (cell_at full_share (Br E).mir ms rb ro)))

    back : slice_get d.places i ≡ Some at → i < length d.items → at.ptr ≡ block_ptr b o
        → (w : X E) → ent 𝓤 (sep 𝓤 (sem 𝓛 ((mem (R E)).own_at w b o)) (sem 𝓛 Rest)) (sem 𝓛 ((mem (Br E)).own_at (new w) rb ro))
    unfolding part_of
    back asked within here w =
        qed 𝓛 (‵ (part_at (R E) full_share w b o) ∷ ‵ Rest ∷ []) ∵ move ! (1 ∷ []) $ fsplit3 ! $ move ! (2 ∷ []) $ fsplit ! $ move ! (4 ∷ 2 ∷ []) $ fjoin ! $
        rewrite ! 0 (λ (p : Ptr). ‵ (box_owns (token E.al d.alloc) (R E) p w)) (sym here) refl $ move ! (0 ∷ 3 ∷ []) $
        use2 𝓛 (‵ (boxes_own (R E) (token E.al d.alloc) d.places (set d.items i w))) (box_back 𝓛 (R E) (token E.al d.alloc) d.places d.items i at w asked within) $
        move ! (1 ∷ 0 ∷ []) $ fjoin ! $ move ! (1 ∷ 0 ∷ []) $ fjoin ! $
        fpack ! (List Val) (λ us'. fsep (cell_at full_share (Br E).mir us' rb ro) ((Br E).own_val (new w) us')) ms $ done !

  exits : (b o : ℕ) (r : MutBor (X E)) → slice_get d.items i ≡ Some r.now
      → ent 𝓤 (sep 𝓤 (sem 𝓛 ((MutRef (named 0) κ (R E)).own_val r (vptr b o ∷ []))) (sep 𝓤 (A.lft κ q) (sem 𝓛 (follows (Br E) (R E) γ r.ghost_name new)))) (Post (vptr b o))
  exits b o r e =
      qed 𝓛 (‵ ((MutRef (named 0) κ (R E)).own_val r (vptr b o ∷ [])) ∷ ‵ (flft κ q) ∷ ‵ (follows (Br E) (R E) γ r.ghost_name new) ∷ []) ∵
      suffices ! _ (ends_at 𝓛 (ended E) (stayed E) (spec E 𝓛) bound (vptr b o) r (tt, (tt, (tt, tt))) (tt, (tt, (tt, tt)))) $
      nothing ! $ nothing ! $ fjoin ! $ nothing ! $ fjoin ! $ nothing ! $ fjoin ! $ join ! $ nothing ! $ move ! (2 ∷ 0 ∷ []) $ join ! $ join ! $ frame ! $ says ! e $ done !

  abbrev Had : List (Item 𝓤)
  Had = ‵ (fobs γ ((Br E).coded.code d)) ∷ ‵ (fbor κ (Borrowed (mem (Br E)) rb ro γ)) ∷ ‵ (flft κ q) ∷ []

  walk : Asks E d i at → i < 2 ^ 64 → ent 𝓤 (⋆ 𝓛 Had) (WpFn 𝓤 H C Λ (function E) (vptr rb ro ∷ vint w64 i ∷ word at.ptr ∷ []) Post)
  walk asked fi =
      let ok : length d.places ≡ length d.items = d.paired in let within : i < length d.places = slice_get_within d.places i at asked in let within' : i < length d.items = omega arith in
      let found = item_at d.places d.items i at ok asked in let y = found.0 in let F = token E.al d.alloc in let code = (Br E).coded.code d in
      qed 𝓛 Had ∵ enter ! C Λ (function E) (vptr rb ro ∷ vint w64 i ∷ word at.ptr ∷ []) _ $
      alloc_all ! (λ l. pass_all ! refl ((tt, tt), ((tt, record { fits = fi }), (word-Good P-type.the_type.name at.ptr, tt))) $
      let En : Env 𝓤 H = env (function E).locals l in
      opens ! tt (Br E) {h = d} rb ro (λ ms. move ! (1 ∷ []) $ fsplit ! $ move ! (1 ∷ []) $
      use1 𝓛 (‵ (box_owns F (R E) at.ptr y) ⊛ ‵ (boxes_own (R E) F (remove d.places i) (remove d.items i))) (box_out_of 𝓛 (R E) F d.places d.items i at y asked found.1) $ split ! $
      in_a_block ! at.ptr (λ p. box_owns F (R E) p y) (fst∗ 𝓤 (never 𝓤) (sem 𝓛 (F (bare (τ E)) null_ptr))) (λ b o here. fsplit ! $
      let way = back b o ms asked within' here in
      -- [the value; the right to free; the other boxes; the mark; its cell; the open borrow; obs; auth]
      first ! $ blocks ! $ sets ! (is ! (of_opd ! (get_in ! (fld ! refl (stop !)) (sub ! 0 refl (whole !)))) (ap ptr_val here)) refl (tt, tt) $
      sets_last ! (addr ! (through ! refl (stop !))) refl (tt, tt) $ exec ! C Λ En (after 1 (function E).body) (at_ret En Post) $ sets ! (of_opd ! (get ! refl)) refl (tt, tt) $
      move ! (3 ∷ 4 ∷ []) $ fjoin ! $ move ! (2 ∷ 3 ∷ 0 ∷ []) $ fjoin3 ! $ move ! (2 ∷ 3 ∷ 4 ∷ 1 ∷ 0 ∷ []) $ group ! 5 $
      use1 𝓛 (later (some (λ (δ : GName). raw (Part 𝓛 (Br E) (R E) new (named 0) κ q rb ro b o γ (sem 𝓛 (Rest b o ms)) way y δ))))
      (lends_Part 𝓛 (Br E) (R E) new (named 0) κ q rb ro b o γ (sem 𝓛 (Rest b o ms)) way code code y) $ await ! tt $ pick ! (λ δ.
      returns ! (look_at ! 0 refl) $ free_all ! refl $ keep ! (0 ∷ []) $ by ! (exits b o (record { ref_ptr = (b, o); ghost_name = δ; now = y }) found.1)))))

  entry : Asks E d i at → ent 𝓤 (on_entry 𝓛 (ended E).signature (κ, tt) (q, tt) (self, (i, (at, tt))) (ps, (us, (vs, tt)))) (WpFn 𝓤 H C Λ (function E) (ps ++ (us ++ (vs ++ []))) Post)
  entry asked =
      qed 𝓛 ((‵ (flft κ q) ⊛ ‵ ftrue) ∷ ‵ (owns (MutRef (named 0) κ (Br E) ∷ usize ∷ Pl ∷ []) (self, (i, (at, tt))) (ps, (us, (vs, tt)))) ∷ []) ∵ split ! $ move ! (2 ∷ []) $ fsplit3 ! $ fsplit3 ! $ feq_l ! (λ e.
      move ! (2 ∷ []) $ fsplit ! $ feq_l ! (λ f. flt_l ! (λ fi. move ! (2 ∷ []) $ fsplit ! $ word_had ! at.ptr vs (λ g. keep ! (1 ∷ 2 ∷ 3 ∷ []) $
      by ! (subst (λ (ws : List Val × List Val × List Val). ent 𝓤 (⋆ 𝓛 Had) (WpFn 𝓤 H C Λ (function E) (ws.0 ++ (ws.1 ++ (ws.2 ++ []))) Post)) (λ j. (sym e j, sym f j, sym g j)) (walk asked fi))))))

meets : (E : Bx) {M : Type 1} {𝓤 : Ura M} (𝓛 : Logic 𝓤) (𝓣 : Tables 𝓤 𝓛.H)
    → Meets 𝓛 (ended E).signature (WpFn 𝓤 𝓛.H 𝓣.C 𝓣.Λ (function E)) (closing 𝓛 (ended E) (spec E 𝓛))
meets E {𝓤 = 𝓤} 𝓛 𝓣 =
    walk_Meets 𝓛 (ended E) (stayed E) (Goes-spent_ref 𝓛 1 (0 ∷ []) tt (plain (λ _. Br E)), (Goes-dropped 𝓛 1 (plain (λ _. usize)) no (λ κs x f. refl), (Goes-dropped 𝓛 1 (plain (λ _. Pl)) no (λ κs x f. refl), tt))) (spec E 𝓛) (WpFn 𝓤 𝓛.H 𝓣.C 𝓣.Λ (function E)) (WpFn-mono 𝓤 𝓛.H 𝓛.laws 𝓣 (function E))
    (λ z. let a = z.0.3 in let vss = z.0.4 in needs 𝓤 (Asks E a.0.now a.1.0 a.1.1.0) _ (entry E 𝓛 𝓣.C 𝓣.Λ z.0.0.0 z.0.1.0 a.0.ref_ptr.0 a.0.ref_ptr.1 a.0.ghost_name a.0.now a.1.0 a.1.1.0 vss.0 vss.1.0 vss.1.1.0))

pub get_mut_spec : {M : Type 1} → stated.statement M
unfolding tables_of
get_mut_spec 𝓤 𝓛 𝓜 𝓡 wired Y Z L LZ g d dd met md y =
    let E : Bx = record { row = Y; laws = L; al = record { row = Z; laws = LZ; g = g; d = d; drops = dd } } in
    let A = 𝓛.A in
    let 𝓣 : Tables 𝓤 𝓛.H = tables_of 𝓤 𝓛.H 𝓜 (tables 𝓤 𝓛.H 𝓜 𝓡 𝓡.env) in
    spared 𝓛 (ended E).signature (𝓡.run (𝓡.env (#self (args E)))) (run_framed 𝓤 𝓛.H 𝓜 𝓡 (𝓡.env (#self (args E)))) 2 (Y.lives, (Z.lives, tt)) (closing 𝓛 (ended E) (spec E 𝓛))
    (entered 𝓤 𝓛.H (triple_of 𝓛 (ended E).signature (closing 𝓛 (ended E) (spec E 𝓛))) 𝓣.C 𝓣.Λ (#self (args E)) (function E) (code.unfolded 𝓤 𝓛.H 𝓜 𝓡 wired (Y, (Z, tt)) d dd) (meets E 𝓛 𝓣))
    ((y.0.0, y.0.1, tt, y.0.3, y.0.4), y.1)
