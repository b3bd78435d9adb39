-- `of` keeps what the box owned, beside its pointer and its allocator.
use Rattle.slotmap_c.proofs.Walk.{List, [], refl, sym, subst, Goes-blank, proved_at, leaves, box_owns, inst_fn, Args, a_type, dcons, dnil, Val, SProp, ent, emp, id⊢, WpFn, fact, fact_i, tables}
use Rattle.slotmap_c.proofs.Walk.{‵, raw, some, later, !, qed, by, move, keep, drop, use0, use1, split, fjoin, pick, await, rewrite, whole, sub, agg, stop, fld, of_opd, no_more, and_then, returns}
use Rattle.slotmap_c.proofs.Walk.{enter, alloc_all, pass_all, free_all, look_at, get, get_in, sets, RawPtr, no, bounded, layout, param, param_laws, Ptr, plain, nothing, heard, Tuple, Lasts, lasts}
use Rattle.slotmap_c.proofs.Walk.{alive, triple_of, framed, Stays, stay_dropped, walk_of}
use Rattle.std.proofs.Common.{◌≡◌, ◌∷◌, ◌++◌}
use Rattle.std_alloc.proofs.boxed.Box.into_raw_with_allocator.Met.{met}
use Rattle.slotmap_c.proofs.Values.{Fits, one_value, pair, pair_fits, ptr_fits, Unboxed, unboxed_in, tuple_out}
use Rattle.slotmap_c.specs.contracts.unboxed.Unboxed.of.{ended, clauses}
use Rattle.slotmap_c.specs.contracts.unboxed.Unboxed.of.Key.{name as #self}
use Rattle.slotmap_c.proofs.unboxed.Unboxed.of.Statement.{statement}
use types.Kit.{◌⊛◌, ◌$◌, ◌∵◌}
use types.ByLocal.{lands_as}
use denote.Triple.Call.{calls_at}
use Rattle.std_alloc.specs.contracts.boxed.Box as box
use Rattle.std_alloc.proofs.boxed.Box.TheLaws as box_laws
use Rattle.std_alloc.specs.contracts.boxed.Box.into_raw_with_allocator as call
use Rattle.slotmap_c.proofs.unboxed.Unboxed.of.Code as code

pub of_spec : {M : Type 1} → statement M
of_spec 𝓤 𝓛 𝓜 𝓡 wired T A LT LA g d dT dA m mT mA =
    let H = 𝓛.H in let 𝓣 = tables 𝓤 H 𝓜 𝓡 𝓡.env in let En = ended T A g d dT dA in let c = clauses T A g d dT dA 𝓛 𝓜.mem 𝓡.returns in
    let args : Args = bounded (a_type ∷ a_type ∷ []) (T, (A, tt)) (dcons d (dcons dT (dcons dA dnil))) in
    let fn = inst_fn args code.function in
    let R = param 0 T in let Z = param 1 A in let L = param_laws 1 A LA in let B = box.the_row R Z g in
    let stays : Stays En.signature.params En.kept = (stay_dropped (plain (λ _. B)) no, tt) in
    let G = triple_of 𝓛 (call.signature T A g d dA dT) (call.spec T A g d dA dT 𝓛 𝓜.mem 𝓡.returns) in
    proved_at 𝓛 En stays c 𝓜 𝓡 (Goes-blank 𝓛 2 (plain (λ _. B)) no (λ κs x f. tt), tt) (#self args) fn
    (code.unfolded 𝓤 H 𝓜 𝓡 wired (T, (A, tt)) d dT dA) (λ z are.
    let Post : Val → SProp 𝓤 = (walk_of 𝓛 En stays c).post z in let tokens = alive 𝓛 En.signature z.0.0 z.0.1 in
    let b = z.0.3.0 in let at : List Val → G.Ghost = λ vs. ((z.0.0, z.0.1, z.0.2, z.0.3, (vs, tt)), tt) in
    let Goes : List Val → Type 1 = λ vs. ent 𝓤 (G.pre (at vs)) (WpFn 𝓤 H 𝓣.C 𝓣.Λ fn (vs ++ []) Post) in
    let walk : (v : Val) → Fits (layout B) v → Goes (v ∷ []) = λ v fits.
    qed 𝓛 (raw (G.pre (at (v ∷ []))) ∷ []) ∵ enter ! 𝓣.C 𝓣.Λ fn (v ∷ []) Post $ alloc_all ! (λ l. pass_all ! refl (fits, tt) $
    sets ! (of_opd ! (get ! refl)) refl fits $
    calls_at ! (framed 𝓤 H 𝓜 𝓣) G (met 𝓤 𝓛 𝓜 𝓡 (code.calls-std_alloc::boxed::Box::into_raw_with_allocator 𝓡.env wired)
    T A LT LA g d dA dT m mA mT) (at (v ∷ []))
    (and_then ! (get ! refl) (no_more !)) (λ w.
    use1 𝓛 (later (some (λ (r : Ptr × A.Denot). (raw tokens ⊛ ‵ ((Tuple (RawPtr ∷ Z ∷ [])).own_val r (w ∷ []))) ⊛
    some (λ (ends : Lasts (call.ended T A g d dA dT) z.0.0 z.0.3). ‵ (lasts (call.ended T A g d dA dT) z.0.0 z.0.3 ends)
    ⊛ (raw (fact 𝓤 (r.1 ≡ b.alloc)) ⊛ ‵ (box_owns (g.dealloc_token b.alloc) R r.0 b.value)))))) (id⊢ 𝓤 _) $
    await ! tt $ pick ! (λ r. split ! $ split ! $ move ! (1 ∷ []) $ tuple_out R Z L g ! r w (λ a is fits_a.
    lands_as ! is refl (pair_fits R Z L g r.0 a fits_a) $
    sets ! (of_opd ! (get_in ! (fld ! refl (stop !)) (sub ! 0 refl (whole !)))) refl (ptr_fits r.0) $
    sets ! (of_opd ! (get_in ! (fld ! refl (stop !)) (sub ! 1 refl (whole !)))) refl fits_a $
    sets ! (of_opd ! (get ! refl)) refl fits_a $
    sets ! (agg ! (and_then ! (get ! refl) (and_then ! (get ! refl) (no_more !)))) refl (pair_fits R Z L g r.0 a fits_a) $
    returns ! (look_at ! 0 refl) $ free_all ! refl $
    move ! (2 ∷ []) $ pick ! (λ ends. split ! $ drop ! $ split ! $ heard ! (r.1 ≡ b.alloc) (λ same.
    rewrite ! 0 (λ (x : A.Denot). ‵ (box_owns (g.dealloc_token x) R r.0 b.value)) (sym same) refl $
    let u : (Unboxed R Z L g).Denot = record { pointer = r.0; alloc = r.1; held = b.value } in
    unboxed_in R Z L g ! u a $ use0 𝓛 (raw (fact 𝓤 (u.held ≡ b.value))) (fact_i 𝓤 (u.held ≡ b.value) (emp 𝓤) refl) $
    nothing ! $ nothing ! $ fjoin ! $ keep ! (3 ∷ 0 ∷ 2 ∷ 1 ∷ []) $
    by ! (leaves 𝓛 En stays c z (pair r.0 a) u ((tt, (tt, tt)), tt) (tt, tt)))))))) in
    let one = one_value 𝓛 B (box_laws.the_row_laws R Z g (param_laws 0 T LT) L) b z.0.4.0 are.0 in
    subst Goes (sym one.1.0) (walk one.0 one.1.1))
