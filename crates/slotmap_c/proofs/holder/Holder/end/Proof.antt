-- `end` lets its holder go.
use Rattle.slotmap_c.proofs.Walk.{List, [], refl, Goes-blank, proved_at, leaves, inst_fn, a_type, Val, SProp, WpFn, tables, ‵, raw, prop, !, qed, by, move, keep, drop, split, regoal, fsplit, fjoin}
use Rattle.slotmap_c.proofs.Walk.{feq_i, of_opd, returns, enter, alloc_all, pass_all, free_all, look_at, sets, param, layouts, RattleType, owns, types_at, plain, nothing, alive, Stays, stay_dropped}
use Rattle.slotmap_c.proofs.Walk.{walk_of}
use Rattle.std.proofs.Common.{◌∷◌, ◌++◌}
use Rattle.slotmap_c.proofs.Values.{Holder, word, word_fits, holder_out}
use Rattle.slotmap_c.specs.contracts.holder.Holder.end.{ended, clauses}
use Rattle.slotmap_c.specs.contracts.holder.Holder.end.Key.{name as #self}
use Rattle.slotmap_c.proofs.holder.Holder.end.Statement.{statement}
use mir.Val.{vunit}
use types.Kit.{◌⊛◌, ◌$◌, ◌∵◌}
use types.Run.{unit_lit}
use Rattle.slotmap_c.proofs.holder.Holder.end.Code as code

pub end_spec : {M : Type 1} → statement M
end_spec 𝓤 𝓛 𝓜 𝓡 wired T L =
    let H = 𝓛.H in let 𝓣 = tables 𝓤 H 𝓜 𝓡 𝓡.env in let En = ended T in let c = clauses T 𝓛 𝓜.mem 𝓡.returns in
    let args = layouts (a_type ∷ []) (T, tt) in let fn = inst_fn args code.function in let R : RattleType = param 0 T in
    let stays : Stays En.signature.params En.kept = (stay_dropped (plain (λ _. Holder R)) En.kept.0, tt) in
    proved_at 𝓛 En stays c 𝓜 𝓡 (Goes-blank 𝓛 1 (plain (λ _. Holder R)) En.kept.0 (λ κs x f. tt), tt) (#self args) fn
    (code.unfolded 𝓤 H 𝓜 𝓡 wired (T, tt)) (λ z are.
    let h = z.0.3.0 in let Post : Val → SProp 𝓤 = (walk_of 𝓛 En stays c).post z in
    qed 𝓛 ((raw (alive 𝓛 En.signature z.0.0 z.0.1) ⊛ ‵ (owns (types_at En.signature.params z.0.0) z.0.3 z.0.4))
    ∷ raw ((c z.0.0 z.0.3).requires z.1) ∷ []) ∵
    move ! (1 ∷ []) $ drop ! $ split ! $ move ! (1 ∷ []) $ fsplit ! $ holder_out R ! h z.0.4.0 (λ is. drop ! $ drop ! $
    regoal ! (λ (us : List Val). prop (WpFn 𝓤 H 𝓣.C 𝓣.Λ fn us Post)) (λ i. is i ++ []) refl $
    enter ! 𝓣.C 𝓣.Λ fn (word h.at ∷ []) Post $ alloc_all ! (λ l. pass_all ! refl (word_fits h.at, tt) $
    sets ! (of_opd ! (unit_lit !)) refl (tt, tt) $
    returns ! (look_at ! 0 refl) $ free_all ! refl $
    feq_i ! (List Val) (vunit ∷ []) (vunit ∷ []) refl $ nothing ! $ nothing ! $ nothing ! $ fjoin ! $ keep ! (3 ∷ 0 ∷ 2 ∷ 1 ∷ []) $
    by ! (leaves 𝓛 En stays c z vunit tt (tt, tt) (tt, tt)))))
