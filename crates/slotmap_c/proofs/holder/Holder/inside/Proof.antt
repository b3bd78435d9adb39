-- `inside` lends what the pointer leads to, and the holder follows it.
use Rattle.slotmap_c.proofs.Walk.{ℕ, not, List, [], refl, sym, ap, subst, proved, after, Option, None, Some, is_some, box_owns, T, Ura, Bool, true, Fml, GName, ftrue, flft, fsep, full_share, ent}
use Rattle.slotmap_c.proofs.Walk.{sep, never, fst∗, inst_fn, a_type, named, Val, vptr, Model, Logic, sem, fact, Running, tables, ‵, raw, some, later, at_ret, !, qed, by, done, move, keep, drop}
use Rattle.slotmap_c.proofs.Walk.{split, join, fsplit, fsplit3, fjoin, suffices, frame, group, rewrite, use1, await, pick, whole, sub, look_in, stop, fld, of_opd, addr, first, blocks, exec, returns}
use Rattle.slotmap_c.proofs.Walk.{enter, alloc_all, pass_all, free_all, look_at, get, through, sets, sets_last, env, no, follows, Part, lends_Part, MutBor, lone, cell_at, part_at, mem, param}
use Rattle.slotmap_c.proofs.Walk.{layouts, RattleType, Ptr, block_ptr, null_ptr, MutRef, mut_vals, mut_Tells, plain, mut_ref_to, nothing, heard, opens, Stays, walk_of, says, stay_dropped}
use Rattle.slotmap_c.proofs.Walk.{Goes-spent_ref, ends_at}
use Rattle.std.proofs.Common.{◌≡◌, ◌∷◌, ◌∙◌}
use Rattle.slotmap_c.proofs.Values.{Holder, word, holder_out, holder_in, part_in}
use Rattle.slotmap_c.specs.Held.{keeps, may_free}
use Rattle.slotmap_c.specs.Holding.{with_held}
use Rattle.slotmap_c.specs.contracts.holder.Holder.inside as f
use Rattle.slotmap_c.proofs.holder.Holder.inside.Statement.{statement}
use Rattle.slotmap_c.proofs.holder.Holder.inside.Code as code
use mir.Raw.{raw as bare}
use contract.BorrowLft.{◌⊑◌}
use types.Kit.{◌⊛◌, ◌$◌, ◌∵◌, split3}
use types.Run.{hop}
use denote.RawPtr.{in_a_block}

there : {X : Type 0} (o : Option X) → is_some o ≡ true → (x : X) × (o ≡ Some x)
there None e = absurd (subst (λ (z : Bool). T (not z)) e tt)
there (Some x) e = (x, refl)

module _ (X : RattleType) where
  abbrev R : RattleType
  R = param 0 X

  abbrev S : RattleType
  S = Holder R

  abbrev stayed : Stays (f.ended X).signature.params (f.ended X).kept
  stayed = (stay_dropped (mut_ref_to (0 ∷ []) tt (plain (λ _. S))) no, tt)

module _ (X : RattleType) {M : Type 1} {𝓤 : Ura M} (𝓛 : Logic 𝓤) (h : (S X).Denot) (rb ro b o : ℕ) (at : h.at ≡ block_ptr b o) where
  -- all of the holder but its value
  abbrev Rest : Fml
  Rest = fsep (may_free (bare (lone (R X).mir)) (block_ptr b o)) (cell_at full_share (S X).mir (word (block_ptr b o) ∷ []) rb ro)

  back : (x : X.Denot) → ent 𝓤 (sep 𝓤 (sem 𝓛 ((mem (R X)).own_at x b o)) (sem 𝓛 Rest)) (sem 𝓛 ((mem (S X)).own_at (with_held h x) rb ro))
  back x =
      qed 𝓛 (‵ (part_at (R X) full_share x b o) ∷ ‵ Rest ∷ []) ∵ move ! (1 ∷ []) $ fsplit ! $ move ! (2 ∷ 0 ∷ []) $ fjoin ! $
      rewrite ! 0 (λ (p : Ptr). ‵ (box_owns may_free (R X) p x)) (sym at) refl $
      rewrite ! 1 (λ (p : Ptr). ‵ (cell_at full_share (S X).mir (word p ∷ []) rb ro)) (sym at) refl $
      holder_in (R X) ! (with_held h x) $ move ! (1 ∷ 0 ∷ []) $ part_in ! (S X) (with_held h x) (word h.at ∷ []) rb ro $ done !

module _ (X : RattleType) {M : Type 1} {𝓤 : Ura M} (𝓛 : Logic 𝓤) (𝓜 : Model 𝓤 𝓛.H) (𝓡 : Running 𝓤 𝓛.H 𝓜)
    (z : (walk_of 𝓛 (f.ended X) (stayed X) (f.clauses X 𝓛 𝓜.mem 𝓡.returns)).Ghost)
    (b o : ℕ) (at : z.0.3.0.now.at ≡ block_ptr b o) (x : X.Denot) (is : z.0.3.0.now.held ≡ Some x) (γ' : GName) where
  abbrev lent : MutBor X.Denot
  lent = record { ref_ptr = (b, o); ghost_name = γ'; now = x }

  exits : ent 𝓤 (sep 𝓤 (Part 𝓛 (S X) (R X) (with_held z.0.3.0.now) (named 0) z.0.0.0 z.0.1.0 z.0.3.0.ref_ptr.0 z.0.3.0.ref_ptr.1 b o z.0.3.0.ghost_name
      (sem 𝓛 (Rest X 𝓛 z.0.3.0.now z.0.3.0.ref_ptr.0 z.0.3.0.ref_ptr.1 b o at)) (back X 𝓛 z.0.3.0.now z.0.3.0.ref_ptr.0 z.0.3.0.ref_ptr.1 b o at) x γ')
      (sem 𝓛 (fsep (flft z.0.0.1.0 z.0.1.1.0) ftrue)))
      ((walk_of 𝓛 (f.ended X) (stayed X) (f.clauses X 𝓛 𝓜.mem 𝓡.returns)).post z (vptr b o))
  exits =
      qed 𝓛 ((‵ ((MutRef (named 0) z.0.0.0 (R X)).own_val lent (vptr b o ∷ [])) ⊛ ‵ (flft z.0.0.0 z.0.1.0)
      ⊛ ‵ (follows (S X) (R X) z.0.3.0.ghost_name γ' (with_held z.0.3.0.now))) ∷ ‵ (fsep (flft z.0.0.1.0 z.0.1.1.0) ftrue) ∷ []) ∵
      suffices ! _ (ends_at 𝓛 (f.ended X) (stayed X) (f.clauses X 𝓛 𝓜.mem 𝓡.returns) z (vptr b o) lent (tt, tt) (tt, tt)) $ split3 ! $
      nothing ! $ nothing ! $ fjoin ! $ join ! $ move ! (1 ∷ 3 ∷ []) $ join ! $ join ! $ frame ! $ says ! is $ done !

pub inside_spec : {M : Type 1} → statement M
inside_spec 𝓤 𝓛 𝓜 𝓡 wired X L =
    let c = f.clauses X 𝓛 𝓜.mem 𝓡.returns in let En = f.ended X in let W = walk_of 𝓛 En (stayed X) c in let 𝓣 = tables 𝓤 𝓛.H 𝓜 𝓡 𝓡.env in
    let args = layouts (a_type ∷ []) (X, tt) in let fn = inst_fn args code.function in
    proved 𝓛 En (stayed X) c 𝓜 𝓡 (Goes-spent_ref 𝓛 2 (0 ∷ []) tt (plain (λ _. S X)), tt) (f.Key.name args) fn (code.unfolded 𝓤 𝓛.H 𝓜 𝓡 wired (X, tt))
    (λ κs. (mut_vals, tt)) (λ κs. (mut_Tells (named 0) κs.0 (S X), tt)) (λ κs qs bounds a _ are.
    let κ = κs.0 in let q = qs.0 in let rb = a.0.ref_ptr.0 in let ro = a.0.ref_ptr.1 in let γ = a.0.ghost_name in let h = a.0.now in let vs = mut_vals a.0 in
    let y : W.Ghost = ((κs, qs, bounds, a, (vs, tt)), tt) in let in_X : Type 0 = κs.1.0 ⊑ X.lives in
    qed 𝓛 (((‵ (flft κ q) ⊛ ‵ (fsep (flft κs.1.0 qs.1.0) ftrue)) ⊛ ‵ ((MutRef (named 0) κ (S X)).own_val a.0 vs) ⊛ ‵ ftrue)
    ∷ (raw (fact 𝓤 in_X) ⊛ raw (fact 𝓤 (is_some h.held ≡ true))) ∷ []) ∵
    move ! (1 ∷ []) $ split ! $ drop ! $ heard ! (is_some h.held ≡ true) (λ opened. let x = (there h.held opened).0 in let is = (there h.held opened).1 in
    split ! $ split ! $ move ! (2 ∷ []) $ split ! $ keep ! (0 ∷ 2 ∷ 3 ∷ []) $
    enter ! _ _ _ _ _ $ alloc_all ! (λ l. pass_all ! refl ((tt, tt), tt) $
    fsplit3 ! $ move ! (1 ∷ 2 ∷ 3 ∷ []) $ opens ! tt (S X) rb ro (λ us. move ! (1 ∷ []) $ holder_out (R X) ! h us (λ lies.
    rewrite ! 0 (λ (v : Option X.Denot). ‵ (keeps (R X) h.at v)) is refl $
    in_a_block ! h.at (λ p. box_owns may_free (R X) p x) (fst∗ 𝓤 (never 𝓤) (sem 𝓛 (may_free (bare (lone (R X).mir)) null_ptr))) (λ b o at. fsplit ! $
    rewrite ! 2 (λ (ws : List Val). ‵ (cell_at full_share (S X).mir ws rb ro)) (lies ∙ ap (λ (p : Ptr). word p ∷ []) at) refl $
    -- [the value; the right to free; the cell; the open borrow, in three entries; self's first part; the other token]
    first ! $ blocks ! $
    sets_last ! (addr ! (through ! refl (fld ! refl (hop ! (look_in ! 2 (sub ! 0 refl (whole !))) (stop !))))) refl (tt, tt) $
    exec ! 𝓣.C 𝓣.Λ (env fn.locals l) (after 1 fn.body) (at_ret (env fn.locals l) (W.post y)) $
    sets ! (of_opd ! (get ! refl)) refl (tt, tt) $
    move ! (1 ∷ 2 ∷ []) $ fjoin ! $ move ! (2 ∷ 3 ∷ 4 ∷ 1 ∷ 0 ∷ []) $ group ! 5 $
    use1 𝓛 (later (some (λ (γ' : GName). raw (Part 𝓛 (S X) (R X) (with_held h) (named 0) κ q rb ro b o γ
    (sem 𝓛 (Rest X 𝓛 h rb ro b o at)) (back X 𝓛 h rb ro b o at) x γ'))))
    (lends_Part 𝓛 (S X) (R X) (with_held h) (named 0) κ q rb ro b o γ (sem 𝓛 (Rest X 𝓛 h rb ro b o at)) (back X 𝓛 h rb ro b o at)
    ((S X).coded.code h) ((S X).coded.code h) x) $ await ! tt $ pick ! (λ γ'.
    returns ! (look_at ! 0 refl) $ free_all ! refl $ keep ! (0 ∷ 2 ∷ []) $ by ! (exits X 𝓛 𝓜 𝓡 y b o at x is γ'))))))))
