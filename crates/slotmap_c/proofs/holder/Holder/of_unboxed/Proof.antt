-- `of_unboxed` hands the block over to the holder.
use Rattle.slotmap_c.proofs.Walk.{List, [], refl, Goes-blank, proved_at, leaves, Some, ghosts, the_row_laws, inst_fn, a_type, Val, SProp, emp, WpFn, fact, fact_i, tables, ‵, raw, prop, !, qed, by}
use Rattle.slotmap_c.proofs.Walk.{move, keep, drop, use0, split, regoal, fsplit, fjoin, whole, sub, agg, stop, fld, of_opd, no_more, and_then, returns, enter, alloc_all, pass_all, free_all, look_at}
use Rattle.slotmap_c.proofs.Walk.{get, get_in, sets, param, layouts, RattleType, owns, types_at, plain, nothing, alive, Stays, stay_dropped, walk_of}
use Rattle.std.proofs.Common.{◌≡◌, ◌∷◌, ◌++◌}
use Rattle.slotmap_c.proofs.Values.{Holder, word, word_fits, pair, pair_fits, ptr_fits, holder_in, Unboxed, unboxed_out}
use Rattle.slotmap_c.specs.contracts.holder.Holder.of_unboxed.{ended, clauses}
use Rattle.slotmap_c.specs.contracts.holder.Holder.of_unboxed.Key.{name as #self}
use Rattle.slotmap_c.proofs.holder.Holder.of_unboxed.Statement.{statement}
use types.Kit.{◌⊛◌, ◌$◌, ◌∵◌}
use Rattle.std_heap.specs.contracts.Global as heap
use Rattle.slotmap_c.proofs.holder.Holder.of_unboxed.Code as code

pub of_unboxed_spec : {M : Type 1} → statement M
of_unboxed_spec 𝓤 𝓛 𝓜 𝓡 wired T L =
    let H = 𝓛.H in let 𝓣 = tables 𝓤 H 𝓜 𝓡 𝓡.env in let En = ended T in let c = clauses T 𝓛 𝓜.mem 𝓡.returns in
    let args = layouts (a_type ∷ []) (T, tt) in let fn = inst_fn args code.function in let R : RattleType = param 0 T in
    let A = heap.the_row in let LA = the_row_laws in let U = Unboxed R A LA ghosts in
    let stays : Stays En.signature.params En.kept = (stay_dropped (plain (λ _. U)) En.kept.0, tt) in
    proved_at 𝓛 En stays c 𝓜 𝓡 (Goes-blank 𝓛 1 (plain (λ _. U)) En.kept.0 (λ κs x f. tt), tt) (#self args) fn (code.unfolded 𝓤 H 𝓜 𝓡 wired (T, tt)) (λ z are.
    let u = z.0.3.0 in let Post : Val → SProp 𝓤 = (walk_of 𝓛 En stays c).post z in
    let made : (Holder R).Denot = record { at = u.pointer; held = Some u.held } in
    qed 𝓛 ((raw (alive 𝓛 En.signature z.0.0 z.0.1) ⊛ ‵ (owns (types_at En.signature.params z.0.0) z.0.3 z.0.4))
    ∷ raw ((c z.0.0 z.0.3).requires z.1) ∷ []) ∵
    move ! (1 ∷ []) $ drop ! $ split ! $ move ! (1 ∷ []) $ fsplit ! $ unboxed_out R A LA ghosts ! u z.0.4.0 (λ a is fits.
    -- [the block; the allocator; nothing; what is alive]
    regoal ! (λ (us : List Val). prop (WpFn 𝓤 H 𝓣.C 𝓣.Λ fn us Post)) (λ i. is i ++ []) refl $
    enter ! 𝓣.C 𝓣.Λ fn (pair u.pointer a ∷ []) Post $ alloc_all ! (λ l. pass_all ! refl (pair_fits R A LA ghosts u.pointer a fits, tt) $
    sets ! (of_opd ! (get_in ! (fld ! refl (stop !)) (sub ! 0 refl (whole !)))) refl (ptr_fits u.pointer) $
    sets ! (agg ! (and_then ! (get ! refl) (no_more !))) refl (word_fits u.pointer) $
    returns ! (look_at ! 0 refl) $ free_all ! refl $ holder_in R ! made $
    use0 𝓛 (raw (fact 𝓤 (made.held ≡ Some u.held))) (fact_i 𝓤 (made.held ≡ Some u.held) (emp 𝓤) refl) $
    nothing ! $ nothing ! $ fjoin ! $ keep ! (5 ∷ 0 ∷ 2 ∷ 1 ∷ []) $
    by ! (leaves 𝓛 En stays c z (word u.pointer) made (tt, tt) (tt, tt)))))
