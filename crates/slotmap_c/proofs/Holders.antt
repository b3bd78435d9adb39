-- A handle of C lies in memory as a holder does, and is lent as one. Assumes `Logic`.
--     Laid          how a struct of one pointer lies in the machine
--     IsHolder      a handle of C is laid as the holder of a type, owns what that keeps, and is told by it
--     meets         the function that lends a handle as a holder meets its contract
use Rattle.slotmap_c.proofs.Walk.{ℕ, List, [], refl, sym, subst, proved, after, Option, is_some, unwrap_or, Bool, Ura, Fml, GName, fsep, ftrue, flft, full_share, ent, sep, emp, id⊢, Ty, Fn}
use Rattle.slotmap_c.proofs.Walk.{ty_ptr, named, Val, vptr, vstruct, of_list, Model, Logic, sem, fact, Running, tables, ‵, raw, some, later, at_ret, !, qed, by, done, move, keep, split, join}
use Rattle.slotmap_c.proofs.Walk.{fsplit, fsplit3, fjoin, fpick, suffices, frame, group, use1, await, pick, stop, of_opd, addr, first, blocks, exec, returns, enter, alloc_all, pass_all, free_all}
use Rattle.slotmap_c.proofs.Walk.{look_at, get, through, sets, sets_last, env, RawPtr, no, follows, Part, lends_Part, MutBor, mem, cell_at, part_at, RattleType, Valss, owns, Ptr, MutRef}
use Rattle.slotmap_c.proofs.Walk.{mut_vals, mut_Tells, plain, mut_ref_to, nothing, opens, Clauses, Ended, Stays, walk_of, says, stay_dropped, Goes-spent_ref, ends_at}
use Rattle.std.proofs.Common.{◌≡◌, ◌∷◌}
use Rattle.slotmap_c.proofs.Values.{Holder, keeps_of, holds_of, part_in}
use Rattle.slotmap_c.specs.Held.{holds}
use base.Fml.{feq, fex}
use mir.Syntax.{Callee, local, value_local, ty_ref, erased, mut, place, deref, addr_of, rv_opd, copy, seq, block, assign, return}
use prog.Wp.{Closed}
use types.Kit.{◌⊛◌, ◌$◌, ◌∵◌}
use denote.Memory.{part_of}
use denote.RattleType.{flat}
use denote.Triple.Clauses.{closing}
use denote.Triple.Spec.{Meets}

abbrev pub Laid : Ptr → List Val → Fml
Laid p vs = fex (Valss (RawPtr ∷ [])) (λ vss. fsep (feq (List Val) vs (vstruct (of_list (flat (RawPtr ∷ []) vss)) ∷ [])) (owns (RawPtr ∷ []) (p, tt) vss))

pub record IsHolder (H R : RattleType) (none : R.Denot) (of : (Holder R).Denot → H.Denot) : Type 1 where
  pub at : H.Denot → Ptr
  pub is_open : H.Denot → Bool
  pub value : H.Denot → R.Denot
  pub cells : (vs : List Val) (b o : ℕ) → cell_at full_share H.mir vs b o ≡ cell_at full_share (Holder R).mir vs b o
  pub owned : (h : H.Denot) (vs : List Val) → H.own_val h vs ≡ fsep (Laid (at h) vs) (holds R none (at h) (is_open h) (value h))
  pub owned_of : (g : (Holder R).Denot) (vs : List Val) → H.own_val (of g) vs ≡ fsep (Laid g.at vs) (holds R none g.at (is_some g.held) (unwrap_or g.held none))
  pub told : (h : H.Denot) (held : Option R.Denot) → is_open h ≡ is_some held → value h ≡ unwrap_or held none → of (record { at = at h; held = held }) ≡ h

turn : {M : Type 1} {𝓤 : Ura M} (𝓛 : Logic 𝓤) (F F' : Fml) → F ≡ F' → ent 𝓤 (sem 𝓛 F) (sem 𝓛 F')
turn {𝓤 = 𝓤} 𝓛 F F' e = subst (λ (P : Fml). ent 𝓤 (sem 𝓛 F) (sem 𝓛 P)) e (id⊢ 𝓤 (sem 𝓛 F))

-- the code of the function: the pointer is read at another type
abbrev lends : Ty → Ty → Ty → Ty → Fn
lends α β τ ρ = record {
  lifetimes = 1;
  outlives = [];
  ty_params = [];
  givens = 0;
  params = 1;
  locals = local (ty_ref (named 0) mut β) value_local ∷ local (ty_ref (named 0) mut α) value_local ∷ local (ty_ref erased mut β) value_local
      ∷ local ty_ptr value_local ∷ local ty_ptr value_local ∷ [];
  body = seq (block (seq (assign (place 3 []) (addr_of (place 1 (deref τ ∷ [])))) (seq (assign (place 4 []) (rv_opd (copy (place 3 []))))
      (assign (place 2 []) (addr_of (place 4 (deref ρ ∷ [])))))))
      (seq (assign (place 0 []) (rv_opd (copy (place 2 [])))) return);
}

module _ {H R : RattleType} {none : R.Denot} {of : (Holder R).Denot → H.Denot} (I : IsHolder H R none of) where
  abbrev S : RattleType
  S = Holder R

  abbrev ended : Ended
  ended = record {
    signature = record { lifetimes = 1; outlives = []; params = mut_ref_to (0 ∷ []) tt (plain (λ _. H)) ∷ []; result = mut_ref_to (0 ∷ []) tt (plain (λ _. S)) };
    kept = (no, tt);
  }

  abbrev stayed : Stays ended.signature.params ended.kept
  stayed = (stay_dropped (mut_ref_to (0 ∷ []) tt (plain (λ _. H))) no, tt)

  module _ {M : Type 1} {𝓤 : Ura M} (𝓛 : Logic 𝓤) where
    abbrev says_so : Clauses 𝓤 ended
    says_so κs a = record {
      ghost = Unit {0};
      requires = λ _. sem 𝓛 ftrue;
      ensures = λ _ r w. sep 𝓤 (sem 𝓛 (follows H S a.0.ghost_name r.ghost_name of)) (fact 𝓤 (of r.now ≡ a.0.now));
    }

    back : (b o : ℕ) (g : S.Denot) → ent 𝓤 (sep 𝓤 (sem 𝓛 ((mem S).own_at g b o)) (emp 𝓤)) (sem 𝓛 ((mem H).own_at (of g) b o))
    unfolding part_of
    back b o g =
        qed 𝓛 (‵ (part_at S full_share g b o) ∷ raw (emp 𝓤) ∷ []) ∵ keep ! (0 ∷ []) $ fpick ! (λ vs. fsplit ! $ move ! (1 ∷ []) $ fsplit ! $ move ! (1 ∷ []) $
        holds_of ! R none g.at g.held $ move ! (1 ∷ 0 ∷ []) $ fjoin ! $ use1 𝓛 (‵ (H.own_val (of g) vs)) (turn 𝓛 _ _ (sym (I.owned_of g vs))) $
        move ! (1 ∷ 0 ∷ []) $ use1 𝓛 (‵ (cell_at full_share H.mir vs b o)) (turn 𝓛 _ _ (sym (I.cells vs b o))) $ part_in ! H (of g) vs b o $ done !)

    module _ (z : (walk_of 𝓛 ended stayed says_so).Ghost) (g : S.Denot) (same : of g ≡ z.0.3.0.now) (b o : ℕ) (γ' : GName) where
      exits : ent 𝓤 (Part 𝓛 H S of (named 0) z.0.0.0 z.0.1.0 b o b o z.0.3.0.ghost_name (emp 𝓤) (back b o) g γ') ((walk_of 𝓛 ended stayed says_so).post z (vptr b o))
      exits =
          let lent : MutBor S.Denot = record { ref_ptr = (b, o); ghost_name = γ'; now = g } in
          qed 𝓛 (‵ ((MutRef (named 0) z.0.0.0 S).own_val lent (vptr b o ∷ [])) ∷ ‵ (flft z.0.0.0 z.0.1.0) ∷ ‵ (follows H S z.0.3.0.ghost_name γ' of) ∷ []) ∵
          suffices ! _ (ends_at 𝓛 ended stayed says_so z (vptr b o) lent (tt, tt) (tt, tt)) $
          nothing ! $ nothing ! $ fjoin ! $ join ! $ nothing ! $ move ! (2 ∷ 0 ∷ []) $ join ! $ join ! $ frame ! $ says ! same $ done !

    pub meets : (𝓜 : Model 𝓤 𝓛.H) (𝓡 : Running 𝓤 𝓛.H 𝓜) (k : Callee) (α β τ ρ : Ty)
        → Closed 𝓤 𝓛.H (tables 𝓤 𝓛.H 𝓜 𝓡 𝓡.env).C (tables 𝓤 𝓛.H 𝓜 𝓡 𝓡.env).Λ k (lends α β τ ρ)
        → Meets 𝓛 ended.signature ((tables 𝓤 𝓛.H 𝓜 𝓡 𝓡.env).C k) (closing 𝓛 ended says_so)
    meets 𝓜 𝓡 k α β τ ρ closed =
        let W = walk_of 𝓛 ended stayed says_so in let 𝓣 = tables 𝓤 𝓛.H 𝓜 𝓡 𝓡.env in let fn : Fn = lends α β τ ρ in
        proved 𝓛 ended stayed says_so 𝓜 𝓡 (Goes-spent_ref 𝓛 1 (0 ∷ []) tt (plain (λ _. H)), tt) k fn closed
        (λ κs. (mut_vals, tt)) (λ κs. (mut_Tells (named 0) κs.0 H, tt)) (λ κs qs bounds a _ are.
        let κ = κs.0 in let q = qs.0 in let b = a.0.ref_ptr.0 in let o = a.0.ref_ptr.1 in let γ = a.0.ghost_name in let h = a.0.now in let vs = mut_vals a.0 in
        let y : W.Ghost = ((κs, qs, bounds, a, (vs, tt)), tt) in
        qed 𝓛 (((‵ (flft κ q) ⊛ ‵ ftrue) ⊛ ‵ ((MutRef (named 0) κ H).own_val a.0 vs) ⊛ ‵ ftrue) ∷ ‵ ftrue ∷ []) ∵
        split ! $ split ! $ move ! (2 ∷ []) $ split ! $ keep ! (0 ∷ 2 ∷ []) $
        enter ! _ _ _ _ _ $ alloc_all ! (λ l. pass_all ! refl ((tt, tt), tt) $
        first ! $ blocks ! $ sets ! (addr ! (through ! refl (stop !))) refl (tt, tt) $ sets ! (of_opd ! (get ! refl)) refl (tt, tt) $
        sets_last ! (addr ! (through ! refl (stop !))) refl (tt, tt) $
        exec ! 𝓣.C 𝓣.Λ (env fn.locals l) (after 1 fn.body) (at_ret (env fn.locals l) (W.post y)) $
        sets ! (of_opd ! (get ! refl)) refl (tt, tt) $
        fsplit3 ! $ move ! (1 ∷ 2 ∷ 3 ∷ []) $ opens ! tt H b o (λ us. move ! (1 ∷ []) $
        use1 𝓛 (‵ (fsep (Laid (I.at h) us) (holds R none (I.at h) (I.is_open h) (I.value h)))) (turn 𝓛 _ _ (I.owned h us)) $ fsplit ! $ move ! (1 ∷ []) $
        keeps_of ! R none (I.at h) (I.is_open h) (I.value h) (λ held opened shown. let g : S.Denot = record { at = I.at h; held = held } in
        move ! (1 ∷ 0 ∷ []) $ fjoin ! $ move ! (1 ∷ 0 ∷ []) $ use1 𝓛 (‵ (cell_at full_share S.mir us b o)) (turn 𝓛 _ _ (I.cells us b o)) $ part_in ! S g us b o $
        -- [the holder; the open borrow, in three entries]
        nothing ! $ move ! (2 ∷ 3 ∷ 4 ∷ 1 ∷ 0 ∷ []) $ group ! 5 $
        use1 𝓛 (later (some (λ (γ' : GName). raw (Part 𝓛 H S of (named 0) κ q b o b o γ (emp 𝓤) (back b o) g γ'))))
        (lends_Part 𝓛 H S of (named 0) κ q b o b o γ (emp 𝓤) (back b o) (H.coded.code h) (H.coded.code h) g) $ await ! tt $ pick ! (λ γ'.
        returns ! (look_at ! 0 refl) $ free_all ! refl $ keep ! (0 ∷ []) $ by ! (exits y g (I.told h held opened shown) b o γ'))))))
