-- `into_box` makes the box of its pointer and its allocator again.
use Rattle.slotmap_c.proofs.Walk.{List, [], refl, Goes-blank, proved_at, leaves, after, inst_fn, Args, a_type, dcons, dnil, Val, SProp, emp, id⊢, WpFn, fact, fact_i, tables, ‵, raw, some, later}
use Rattle.slotmap_c.proofs.Walk.{prop, at_ret, !, qed, by, move, keep, drop, use0, use1, split, join, regoal, fsplit, fjoin, feq_i, pick, await, whole, sub, stop, fld, of_opd, no_more, and_then}
use Rattle.slotmap_c.proofs.Walk.{first, blocks, exec, returns, enter, alloc_all, pass_all, free_all, look_at, get, get_in, sets, env, no, Is, shows, bounded, param, param_laws, owns, ptr_val}
use Rattle.slotmap_c.proofs.Walk.{types_at, plain, nothing, heard, peeks, Lasts, lasts, alive, triple_of, framed, Stays, stay_dropped, walk_of}
use Rattle.std.proofs.Common.{◌≡◌, ◌∷◌, ◌++◌}
use Rattle.std_alloc.proofs.boxed.Box.from_raw.Met.{met}
use Rattle.slotmap_c.proofs.Values.{fits_one, pair, pair_fits, ptr_fits, Unboxed, unboxed_out}
use Rattle.slotmap_c.specs.contracts.unboxed.Unboxed.into_box.{ended, clauses}
use Rattle.slotmap_c.specs.contracts.unboxed.Unboxed.into_box.Key.{name as #self}
use Rattle.slotmap_c.proofs.unboxed.Unboxed.into_box.Statement.{statement}
use contract.BorrowLft.{◌⊑◌}
use types.Kit.{◌⊛◌, ◌$◌, ◌∵◌}
use types.ByLocal.{lands_last}
use denote.Triple.Call.{calls_at_last}
use Rattle.std_alloc.specs.contracts.boxed.Box as box
use Rattle.std_alloc.proofs.boxed.Box.TheLaws as box_laws
use Rattle.std_alloc.specs.contracts.boxed.Box.from_raw as call
use Rattle.slotmap_c.proofs.unboxed.Unboxed.into_box.Code as code

pub into_box_spec : {M : Type 1} → statement M
into_box_spec 𝓤 𝓛 𝓜 𝓡 wired T A LT LA g d dT dA m mT mA =
    let H = 𝓛.H in let 𝓣 = tables 𝓤 H 𝓜 𝓡 𝓡.env in let En = ended T A g d dT dA in let c = clauses T A g d dT dA 𝓛 𝓜.mem 𝓡.returns in
    let args : Args = bounded (a_type ∷ a_type ∷ []) (T, (A, tt)) (dcons d (dcons dT (dcons dA dnil))) in
    let fn = inst_fn args code.function in
    let R = param 0 T in let Z = param 1 A in let L = param_laws 1 A LA in let U = Unboxed R Z L g in let B = box.the_row R Z g in
    let stays : Stays En.signature.params En.kept = (stay_dropped (plain (λ _. U)) no, tt) in
    let G = triple_of 𝓛 (call.signature T A g d dA) (call.spec T A g d dA 𝓛 𝓜.mem 𝓡.returns) in
    proved_at 𝓛 En stays c 𝓜 𝓡 (Goes-blank 𝓛 2 (plain (λ _. U)) no (λ κs x f. tt), tt) (#self args) fn
    (code.unfolded 𝓤 H 𝓜 𝓡 wired (T, (A, tt)) d dT dA) (λ z are.
    let Post : Val → SProp 𝓤 = (walk_of 𝓛 En stays c).post z in let tokens = alive 𝓛 En.signature z.0.0 z.0.1 in
    let u = z.0.3.0 in let p = u.pointer in
    let in_T : Type 0 = z.0.0.0 ⊑ T.lives in let in_A : Type 0 = z.0.0.1.0 ⊑ A.lives in
    qed 𝓛 ((raw tokens ⊛ ‵ (owns (types_at En.signature.params z.0.0) z.0.3 z.0.4)) ∷ (raw (fact 𝓤 in_T) ⊛ (raw (fact 𝓤 in_A) ⊛ raw (emp 𝓤))) ∷ []) ∵
    move ! (1 ∷ []) $ split ! $ heard ! in_T (λ t. split ! $ heard ! in_A (λ s. drop ! $ split ! $ move ! (1 ∷ []) $ fsplit ! $
    unboxed_out R Z L g ! u z.0.4.0 (λ a is fits. move ! (1 ∷ 0 ∷ 3 ∷ []) $
    -- [the allocator; the block; what is alive; nothing]
    regoal ! (λ (us : List Val). prop (WpFn 𝓤 H 𝓣.C 𝓣.Λ fn us Post)) (λ i. is i ++ []) refl $
    let y : G.Ghost = ((z.0.0, z.0.1, z.0.2, (u.alloc, (p, tt)), (a ∷ [], (ptr_val p ∷ [], tt))), u.held) in
    nothing ! $ feq_i ! (List Val) (ptr_val p ∷ []) (ptr_val p ∷ []) refl $ fjoin ! $ move ! (1 ∷ 0 ∷ []) $ fjoin ! $
    move ! (2 ∷ 0 ∷ []) $ join ! $ move ! (1 ∷ []) $ use0 𝓛 (raw (fact 𝓤 in_A)) (fact_i 𝓤 in_A (emp 𝓤) s) $ join ! $
    use0 𝓛 (raw (fact 𝓤 in_T)) (fact_i 𝓤 in_T (emp 𝓤) t) $ join ! $ move ! (1 ∷ 0 ∷ []) $ join ! $ use1 𝓛 (raw (G.pre y)) (id⊢ 𝓤 _) $
    enter ! 𝓣.C 𝓣.Λ fn (pair p a ∷ []) Post $ alloc_all ! (λ l. pass_all ! refl (pair_fits R Z L g p a fits, tt) $
    sets ! (of_opd ! (get_in ! (fld ! refl (stop !)) (sub ! 0 refl (whole !)))) refl (ptr_fits p) $
    sets ! (of_opd ! (get_in ! (fld ! refl (stop !)) (sub ! 1 refl (whole !)))) refl fits $
    first ! $ blocks ! $ sets ! (of_opd ! (get ! refl)) refl fits $
    calls_at_last ! (framed 𝓤 H 𝓜 𝓣) G (met 𝓤 𝓛 𝓜 𝓡 (code.calls-std_alloc::boxed::Box::from_raw 𝓡.env wired) T A LT LA g d dA m mA) y
    (and_then ! (get ! refl) (and_then ! (get ! refl) (no_more !))) (λ w.
    use1 𝓛 (later (some (λ (r : B.Denot). (raw tokens ⊛ ‵ (B.own_val r (w ∷ []))) ⊛
    some (λ (ends : Lasts (call.ended T A g d dA) y.0.0 y.0.3). ‵ (lasts (call.ended T A g d dA) y.0.0 y.0.3 ends)
    ⊛ (raw (fact 𝓤 (r.value ≡ u.held)) ⊛ raw (fact 𝓤 (r.alloc ≡ u.alloc))))))) (id⊢ 𝓤 _) $
    await ! tt $ pick ! (λ r. split ! $ split ! $ move ! (1 ∷ []) $ peeks ! B (Is B) (shows 𝓛 B) r (w ∷ []) (λ box_is.
    let fits_box = fits_one 𝓛 B (box_laws.the_row_laws R Z g (param_laws 0 T LT) L) r w box_is in
    lands_last ! refl fits_box $ exec ! 𝓣.C 𝓣.Λ (env fn.locals l) (after 3 fn.body) (at_ret (env fn.locals l) Post) $
    sets ! (of_opd ! (get ! refl)) refl fits_box $
    returns ! (look_at ! 0 refl) $ free_all ! refl $
    move ! (2 ∷ []) $ pick ! (λ ends. split ! $ drop ! $ split ! $ move ! (1 ∷ []) $ drop ! $
    nothing ! $ nothing ! $ fjoin ! $ keep ! (3 ∷ 0 ∷ 2 ∷ 1 ∷ []) $
    by ! (leaves 𝓛 En stays c z w r ((tt, (tt, tt)), tt) (tt, tt)))))))))))
