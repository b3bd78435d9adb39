-- `is_closed` compares the pointer with null, and leaves the holder as it was.
use Rattle.slotmap_c.proofs.Walk.{List, [], not, refl, proved, is_some, ftrue, fsep, flft, full_share, inst_fn, a_type, named, Val, vbool, ‵, raw, !, qed, done, move, keep, split, join, fsplit3}
use Rattle.slotmap_c.proofs.Walk.{suffices, frame, group, rewrite, feq_i, whole, sub, look_in, stop, fld, of_opd, bin, lit, returns, enter, alloc_all, pass_all, free_all, look_at, get, through, sets}
use Rattle.slotmap_c.proofs.Walk.{cell_at, param, layouts, RattleType, tests_null, MutRef, mut_vals, mut_Tells, plain, nothing, opens, Stays, walk_of, says, ends_at}
use Rattle.std.proofs.Common.{◌∷◌}
use Rattle.slotmap_c.proofs.Values.{Holder, word, ptr_fits, holder_out, holder_in, tests}
use Rattle.slotmap_c.specs.contracts.holder.Holder.is_closed as f
use Rattle.slotmap_c.proofs.holder.Holder.is_closed.Statement.{statement}
use Rattle.slotmap_c.proofs.holder.Holder.is_closed.Code as code
use types.Kit.{◌⊛◌, ◌$◌, ◌∵◌}
use types.Run.{load}
use types.ByLocal.{is}
use denote.Steps.{closes}
use denote.Triple.Walked.{stay_ref, Goes-ref}

pub is_closed_spec : {M : Type 1} → statement M
is_closed_spec 𝓤 𝓛 𝓜 𝓡 wired T L =
    let c = f.clauses T 𝓛 𝓜.mem 𝓡.returns in let En = f.ended T in let R : RattleType = Holder (param 0 T) in
    let args = layouts (a_type ∷ []) (T, tt) in let fn = inst_fn args code.function in
    let stayed : Stays En.signature.params En.kept = (stay_ref (0 ∷ []) tt (plain (λ _. R)), tt) in let W = walk_of 𝓛 En stayed c in
    proved 𝓛 En stayed c 𝓜 𝓡 (Goes-ref 𝓛 2 0 tt (plain (λ _. R)), tt) (f.Key.name args) fn (code.unfolded 𝓤 𝓛.H 𝓜 𝓡 wired (T, tt))
    (λ κs. (mut_vals, tt)) (λ κs. (mut_Tells (named 0) κs.0 R, tt)) (λ κs qs bounds a _ are.
    let b = a.0.ref_ptr.0 in let o = a.0.ref_ptr.1 in let h = a.0.now in let vs = mut_vals a.0 in
    let y : W.Ghost = ((κs, qs, bounds, a, (vs, tt)), tt) in
    qed 𝓛 (((‵ (flft κs.0 qs.0) ⊛ ‵ (fsep (flft κs.1.0 qs.1.0) ftrue)) ⊛ ‵ ((MutRef (named 0) κs.0 R).own_val a.0 vs) ⊛ ‵ ftrue) ∷ raw ((c κs a).requires tt) ∷ []) ∵
    split ! $ split ! $ move ! (2 ∷ []) $ split ! $ keep ! (0 ∷ 2 ∷ 3 ∷ []) $
    enter ! _ _ _ _ _ $ alloc_all ! (λ l. pass_all ! refl ((tt, tt), tt) $
    fsplit3 ! $ move ! (1 ∷ 2 ∷ 3 ∷ []) $ opens ! tt R b o (λ us. move ! (1 ∷ []) $ holder_out (param 0 T) ! h us (λ lies. tests ! (param 0 T) h.at h.held (λ may asked.
    rewrite ! 1 (λ (ws : List Val). ‵ (cell_at full_share R.mir ws b o)) lies refl $
    -- [what it keeps; its cell; the open borrow, in three entries]
    sets ! (of_opd ! (load ! (through ! refl (fld ! refl (stop !))) (look_in ! 1 (sub ! 0 refl (whole !))))) refl (ptr_fits h.at) $
    sets ! (is ! (bin ! (get ! refl) (lit ! tt) (tests_null h.at may)) asked) refl (tt, tt) $
    holder_in (param 0 T) ! h $ move ! (1 ∷ []) $ closes ! tt R h (word h.at ∷ []) b o $
    -- [two parts of self; the token; self's first part; the other token]
    returns ! (look_at ! 0 refl) $ free_all ! refl $ move ! (3 ∷ []) $
    suffices ! _ (ends_at 𝓛 En stayed c y (vbool (not (is_some h.held))) (not (is_some h.held)) (h, tt) (tt, tt)) $ says ! (refl, refl) $
    group ! 3 $ nothing ! $ move ! (1 ∷ 0 ∷ []) $ join ! $ move ! (1 ∷ 2 ∷ []) $ join ! $ frame ! $ frame ! $
    feq_i ! _ (vbool (not (is_some h.held)) ∷ []) _ refl $ done !)))))
