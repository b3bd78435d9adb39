-- A closed holder is made of nothing.
use Rattle.slotmap_c.proofs.Walk.{[], refl, lit<, proved_at, leaves, None, inst_fn, a_type, Val, SProp, emp, fact, fact_i, tables, ‵, raw, !, qed, by, move, keep, drop, use0, split, feq_i, agg}
use Rattle.slotmap_c.proofs.Walk.{lit, no_more, and_then, returns, enter, alloc_all, pass_all, free_all, look_at, sets, param, layouts, RattleType, owns, Ptr, null_ptr, types_at, nothing, alive}
use Rattle.slotmap_c.proofs.Walk.{Stays, walk_of}
use Rattle.std.proofs.Common.{◌≡◌, ◌∷◌}
use Rattle.slotmap_c.proofs.Values.{Holder, word, holder_in}
use Rattle.slotmap_c.specs.contracts.holder.Holder.closed.{ended, clauses}
use Rattle.slotmap_c.specs.contracts.holder.Holder.closed.Key.{name as #self}
use Rattle.slotmap_c.proofs.holder.Holder.closed.Statement.{statement}
use types.Kit.{◌⊛◌, ◌$◌, ◌∵◌}
use Rattle.slotmap_c.proofs.holder.Holder.closed.Code as code

pub closed_spec : {M : Type 1} → statement M
closed_spec 𝓤 𝓛 𝓜 𝓡 wired T L =
    let H = 𝓛.H in let 𝓣 = tables 𝓤 H 𝓜 𝓡 𝓡.env in let En = ended T in let c = clauses T 𝓛 𝓜.mem 𝓡.returns in
    let args = layouts (a_type ∷ []) (T, tt) in let fn = inst_fn args code.function in let R : RattleType = param 0 T in
    let stays : Stays En.signature.params En.kept = tt in
    proved_at 𝓛 En stays c 𝓜 𝓡 tt (#self args) fn (code.unfolded 𝓤 H 𝓜 𝓡 wired (T, tt)) (λ z are.
    let Post : Val → SProp 𝓤 = (walk_of 𝓛 En stays c).post z in let made : (Holder R).Denot = record { at = null_ptr; held = None } in
    qed 𝓛 ((raw (alive 𝓛 En.signature z.0.0 z.0.1) ⊛ ‵ (owns (types_at En.signature.params z.0.0) z.0.3 z.0.4))
    ∷ raw ((c z.0.0 z.0.3).requires z.1) ∷ []) ∵
    move ! (1 ∷ []) $ drop ! $ split ! $
    enter ! 𝓣.C 𝓣.Λ fn [] Post $ alloc_all ! (λ l. pass_all ! refl tt $
    sets ! (agg ! (and_then ! (lit ! tt) (no_more !))) refl (tt, (record { fits = lit< tt }, tt)) $
    returns ! (look_at ! 0 refl) $ free_all ! refl $
    feq_i ! Ptr null_ptr null_ptr refl $ holder_in R ! made $
    use0 𝓛 (raw (fact 𝓤 (made.held ≡ None))) (fact_i 𝓤 (made.held ≡ None) (emp 𝓤) refl) $ nothing ! $ keep ! (3 ∷ 0 ∷ 2 ∷ 1 ∷ []) $
    by ! (leaves 𝓛 En stays c z (word null_ptr) made tt tt)))
