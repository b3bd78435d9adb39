-- `into_unboxed` tests the pointer, and hands the block over if there is one.
use Rattle.slotmap_c.proofs.Walk.{List, [], refl, subst, lit<, Goes-blank, proved_at, leaves, after, Option, Some, None, ghosts, the_row_laws, Ura, true, inst_fn, Args, Fn, a_type, Val, of_list}
use Rattle.slotmap_c.proofs.Walk.{has_ty, ftrue, SProp, ent, sep, emp, never, never_e, via, fst∗, Model, WpFn, Logic, sem, fact, fact_i, Running, tables, ‵, raw, prop, at_ret, !, qed, by, move}
use Rattle.slotmap_c.proofs.Walk.{keep, drop, use0, use1, given, learn, split, regoal, fsplit, fjoin, feq_l, whole, sub, agg, stop, fld, bin, lit, of_opd, no_more, and_then, first, exec, returns}
use Rattle.slotmap_c.proofs.Walk.{enter, alloc_all, pass_all, free_all, look_at, get, get_in, sets, env, lone, layout, layouts, param, owns, RattleType, Ptr, InBlock, null_ptr, block_ptr, tests_null}
use Rattle.slotmap_c.proofs.Walk.{types_at, plain, nothing, Clauses, Ended, alive, Stays, stay_dropped, walk_of}
use Rattle.std.proofs.Common.{◌≡◌, ◌∷◌, ◌++◌}
use Rattle.core.proofs.option.Made.{Some-of, none_of}
use Rattle.slotmap_c.proofs.Values.{Fits, and_true, Holder, word, word_fits, pair, pair_fits, ptr_fits, tells, holder_out, testable, Unboxed, unboxed_in}
use Rattle.slotmap_c.specs.Held.{keeps, may_free}
use Rattle.slotmap_c.specs.contracts.holder.Holder.into_unboxed.{ended, clauses}
use Rattle.slotmap_c.specs.contracts.holder.Holder.into_unboxed.Key.{name as #self}
use Rattle.slotmap_c.proofs.holder.Holder.into_unboxed.Statement.{statement}
use mathlib.Core.Bool.{◌&&◌}
use mir.Raw.{raw as bare}
use prog.Wp.{Calls, Loops}
use types.Kit.{◌⊛◌, ◌$◌, ◌∵◌}
use types.Match.{live}
use types.Run.{branches, skips, returns_within}
use Rattle.core.specs.contracts.option.Option as option
use Rattle.std_heap.specs.contracts.Global as heap
use Rattle.slotmap_c.proofs.holder.Holder.into_unboxed.Code as code

abbrev A : RattleType
A = heap.the_row

module _ (X : RattleType) where
  abbrev R : RattleType
  R = param 0 X

  abbrev U : RattleType
  U = Unboxed R A the_row_laws ghosts

  abbrev args : Args
  args = layouts (a_type ∷ []) (X, tt)

  abbrev fn : Fn
  fn = inst_fn args code.function

  abbrev En : Ended
  En = ended X

  abbrev stays : Stays En.signature.params En.kept
  stays = (stay_dropped (plain (λ _. Holder R)) En.kept.0, (stay_dropped (plain (λ _. A)) En.kept.1.0, tt))

module _ (X : RattleType) {M : Type 1} {𝓤 : Ura M} (𝓛 : Logic 𝓤) (𝓜 : Model 𝓤 𝓛.H) (𝓡 : Running 𝓤 𝓛.H 𝓜)
    (z : (walk_of 𝓛 (En X) (stays X) (clauses X 𝓛 𝓜.mem 𝓡.returns)).Ghost) (a : Val) (fits : Fits (layout A) a) where
  abbrev clause : Clauses 𝓤 (En X)
  clause = clauses X 𝓛 𝓜.mem 𝓡.returns

  abbrev Post : Val → SProp 𝓤
  Post = (walk_of 𝓛 (En X) (stays X) clause).post z

  abbrev tokens : SProp 𝓤
  tokens = alive 𝓛 (En X).signature z.0.0 z.0.1

  abbrev C : Calls 𝓤 𝓛.H
  C = (tables 𝓤 𝓛.H 𝓜 𝓡 𝓡.env).C

  abbrev Λ : Loops 𝓤 𝓛.H
  Λ = (tables 𝓤 𝓛.H 𝓜 𝓡 𝓡.env).Λ

  abbrev Goes : Ptr → Option X.Denot → Type 1
  Goes p x = ent 𝓤 (sep 𝓤 (sem 𝓛 (keeps (R X) p x)) (sep 𝓤 (sem 𝓛 (A.own_val z.0.3.1.0 (a ∷ []))) tokens)) (WpFn 𝓤 𝓛.H C Λ (fn X) (word p ∷ a ∷ []) Post)

  abbrev held : Option X.Denot
  held = z.0.3.0.held

  walks : (p : Ptr) (x : Option X.Denot) → held ≡ x → Goes p x
  walks null_ptr None is =
      qed 𝓛 (‵ (keeps (R X) null_ptr None) ∷ ‵ (A.own_val z.0.3.1.0 (a ∷ [])) ∷ raw tokens ∷ []) ∵ drop ! $ drop ! $
      enter ! C Λ (fn X) (word null_ptr ∷ a ∷ []) Post $ alloc_all ! (λ l. pass_all ! refl (word_fits null_ptr, (fits, tt)) $
      sets ! (of_opd ! (get_in ! (fld ! refl (stop !)) (sub ! 0 refl (whole !)))) refl (ptr_fits null_ptr) $
      sets ! (bin ! (get ! refl) (lit ! tt) (tests_null null_ptr (lit< tt))) refl (tt, tt) $
      first ! $ branches ! (get ! refl)
      (λ t. sets ! (agg ! (and_then ! (lit ! tt) (no_more !))) refl (tt, (record { fits = lit< tt }, tt)) $
      returns_within ! Post refl (look_at ! 0 refl) $ free_all ! refl $
      use0 𝓛 (‵ ((option.the_row (U X)).own_val None (live 0 (of_list []) ∷ []))) (none_of 𝓛 (U X)) $
      use0 𝓛 (raw (fact 𝓤 (held ≡ None))) (fact_i 𝓤 (held ≡ None) (emp 𝓤) is) $
      nothing ! $ nothing ! $ fjoin ! $ nothing ! $ fjoin ! $ keep ! (3 ∷ 0 ∷ 2 ∷ 1 ∷ []) $
      by ! (leaves 𝓛 (En X) (stays X) clause z (live 0 (of_list [])) None (tt, (tt, tt)) (tt, (tt, tt))))
      (λ t. absurd t))
  walks null_ptr (Some x) is =
      qed 𝓛 (‵ (keeps (R X) null_ptr (Some x)) ∷ ‵ (A.own_val z.0.3.1.0 (a ∷ [])) ∷ raw tokens ∷ []) ∵
      use1 𝓛 (given ⊥ (‵ ftrue)) (via 𝓤 (never 𝓤) (fst∗ 𝓤 (never 𝓤) (sem 𝓛 (may_free (bare (lone (R X).mir)) null_ptr))) (never_e 𝓤 _)) $ learn ! (λ n. absurd n)
  walks (block_ptr b o) None is =
      qed 𝓛 (‵ (keeps (R X) (block_ptr b o) None) ∷ ‵ (A.own_val z.0.3.1.0 (a ∷ [])) ∷ raw tokens ∷ []) ∵
      feq_l ! (λ n. absurd (subst (λ (p : Ptr). InBlock p) n tt))
  walks (block_ptr b o) (Some x) is =
      let p : Ptr = block_ptr b o in let u : (U X).Denot = record { pointer = p; alloc = z.0.3.1.0; held = x } in
      let pair_is = pair_fits (R X) A the_row_laws ghosts p a fits in let Said : Type 0 = held ≡ Some x in
      qed 𝓛 (‵ (keeps (R X) p (Some x)) ∷ ‵ (A.own_val z.0.3.1.0 (a ∷ [])) ∷ raw tokens ∷ []) ∵ testable ! (R X) p x (λ may.
      enter ! C Λ (fn X) (word p ∷ a ∷ []) Post $ alloc_all ! (λ l. pass_all ! refl (word_fits p, (fits, tt)) $
      sets ! (of_opd ! (get_in ! (fld ! refl (stop !)) (sub ! 0 refl (whole !)))) refl (ptr_fits p) $
      sets ! (bin ! (get ! refl) (lit ! tt) (tests_null p may)) refl (tt, tt) $
      first ! $ branches ! (get ! refl) (λ t. absurd t)
      (λ t. skips ! $ exec ! C Λ (env (fn X).locals l) (after 3 (fn X).body) (at_ret (env (fn X).locals l) Post) $
      sets ! (agg ! (and_then ! (get ! refl) (and_then ! (get ! refl) (no_more !)))) refl pair_is $
      sets ! (agg ! (and_then ! (lit ! tt) (and_then ! (get ! refl) (no_more !)))) refl
      (and_true (has_ty (layout A) a && true) pair_is.0, (record { fits = lit< tt }, (pair_is.1, tt))) $
      returns ! (look_at ! 0 refl) $ free_all ! refl $ unboxed_in (R X) A the_row_laws ghosts ! u a $
      use1 𝓛 (‵ ((option.the_row (U X)).own_val (Some u) (live 1 (of_list (pair p a ∷ [])) ∷ []))) (Some-of 𝓛 (U X) u (pair p a)) $
      use0 𝓛 (raw (fact 𝓤 Said)) (fact_i 𝓤 Said (emp 𝓤) is) $
      nothing ! $ nothing ! $ fjoin ! $ nothing ! $ fjoin ! $ keep ! (3 ∷ 0 ∷ 2 ∷ 1 ∷ []) $
      by ! (leaves 𝓛 (En X) (stays X) clause z (live 1 (of_list (pair p a ∷ []))) (Some u) (tt, (tt, tt)) (tt, (tt, tt))))))

pub into_unboxed_spec : {M : Type 1} → statement M
into_unboxed_spec 𝓤 𝓛 𝓜 𝓡 wired X L =
    let c = clauses X 𝓛 𝓜.mem 𝓡.returns in let H = 𝓛.H in let 𝓣 = tables 𝓤 H 𝓜 𝓡 𝓡.env in
    proved_at 𝓛 (En X) (stays X) c 𝓜 𝓡 (
      Goes-blank 𝓛 1 (plain (λ _. Holder (R X))) (En X).kept.0 (λ κs x f. tt),
      (Goes-blank 𝓛 1 (plain (λ _. A)) (En X).kept.1.0 (λ κs x f. tt), tt),
    )
    (#self (args X)) (fn X) (code.unfolded 𝓤 H 𝓜 𝓡 wired (X, tt)) (λ z are.
    let h = z.0.3.0 in let Post : Val → SProp 𝓤 = (walk_of 𝓛 (En X) (stays X) c).post z in
    qed 𝓛 ((raw (alive 𝓛 (En X).signature z.0.0 z.0.1) ⊛ ‵ (owns (types_at (En X).signature.params z.0.0) z.0.3 z.0.4))
    ∷ raw ((c z.0.0 z.0.3).requires z.1) ∷ []) ∵
    move ! (1 ∷ []) $ drop ! $ split ! $ move ! (1 ∷ []) $ fsplit ! $ holder_out (R X) ! h z.0.4.0 (λ first. move ! (1 ∷ []) $ fsplit ! $
    tells ! A the_row_laws z.0.3.1.0 z.0.4.1.0 (λ a second fits. move ! (2 ∷ 0 ∷ []) $
    regoal ! (λ (us : List Val). prop (WpFn 𝓤 H 𝓣.C 𝓣.Λ (fn X) us Post)) (λ i. first i ++ (second i ++ [])) refl $ keep ! (0 ∷ 1 ∷ 3 ∷ []) $
    by ! (walks X 𝓛 𝓜 𝓡 z a fits h.at h.held refl))))
