-- How holders and boxes that were taken apart lie in the machine, for the proofs by hand. Assumes `Logic`.
--     one_value, fits_one, tells      a value of any type is one machine value, of the type's layout
--     word, pair                      the machine value of a holder, and of a pointer beside an allocator
--     holder_out, holder_in           a holder is its word and what it keeps
--     testable                        a pointer whose block may be freed can be compared with null
--     tests                           the pointer of a holder is null where it is closed
--     keeps_of, holds_of              what a handle holds is what its holder keeps
--     part_in                         machine values at a place, and what is owned at them, are a value there
--     unboxed_out, unboxed_in         a box that was taken apart is its pair, the block and the allocator
--     tuple_out                       so is the tuple that the library takes it apart into
use Rattle.slotmap_c.proofs.Walk.{ℕ, not, List, [], refl, ap, subst, lit<, box_owns, Option, None, Some, is_some, unwrap_or, Bool, true, T, Ura, Ty, ty_ptr, Val, vbool, vstruct, of_list, has_ty}
use Rattle.slotmap_c.proofs.Walk.{ftrue, fsep, never, never_e, via, fst∗, Logic, sem, ‵, use1, given, learn, move, drop, fsplit, fjoin, fpick, rewrite, feq_i, feq_l, RattleType, Valss, RawPtr}
use Rattle.slotmap_c.proofs.Walk.{Is, shows, full_share, lone, cell_at, part_at, layout, Ptr, InBlock, block_ptr, null_ptr, ptr_val, nothing, peeks, Tuple}
use Rattle.std.proofs.Common.{◌≡◌, ◌∷◌, ◌++◌}
use Rattle.core.specs.declared.alloc.Allocator.{Ghosts}
use Rattle.core.specs.Ptr.{points_to}
use Rattle.std.proofs.GlobalToken.{dealloc_token-Testable}
use Rattle.slotmap_c.specs.Held.{holds, keeps, may_free}
use mathlib.Core.Bool.{false, ◌&&◌}
use mir.Syntax.{ptr_eq, tcons, tnil, ty_struct}
use mir.Raw.{raw as bare}
use mir.Val.{vnull, op2_val, vcons, vnil, WT}
use base.Logic.{snd∗, guard_i}
use contract.Monad.{fact_use}
use types.Kit.{Item, Goal, Seq, Step, step, ◌$◌, fpack}
use denote.Memory.{part_of}
use denote.Laws.{Typed}
use denote.Param.Laws.{Laws}
use denote.RawPtr.{Testable}
use denote.Steps.{only}
use denote.Struct.Struct.{within}
use denote.Struct.Owning.{shape}
use Rattle.slotmap_c.specs.contracts.holder.Holder as holder
use Rattle.slotmap_c.specs.contracts.unboxed.Unboxed as unboxed

pub and_true : (x : Bool) → T x → T (x && true)
and_true true t = tt
and_true false t = absurd t

abbrev pub Fits : Ty → Val → Type 0
Fits τ v = T (has_ty τ v) × WT v

of_one : (τ : Ty) (vs : List Val) → Typed (τ ∷ []) vs → (v : Val) × ((vs ≡ v ∷ []) × Fits τ v)
of_one τ [] typed = absurd typed
of_one τ (v ∷ []) typed = (v, (refl, typed.0))
of_one τ (v ∷ w ∷ vs) typed = absurd typed.1

pub one_value : {M : Type 1} {𝓤 : Ura M} (𝓛 : Logic 𝓤) (R : RattleType) → Laws R → (x : R.Denot) (vs : List Val) → Is R x vs
    → (v : Val) × ((vs ≡ v ∷ []) × Fits (layout R) v)
one_value 𝓛 R L x vs is = of_one (layout R) vs (subst (λ (τs : List Ty). Typed τs vs) L.one ((L.lawful 𝓛).typed x vs is))

pub fits_one : {M : Type 1} {𝓤 : Ura M} (𝓛 : Logic 𝓤) (R : RattleType) → Laws R → (x : R.Denot) (v : Val) → Is R x (v ∷ []) → Fits (layout R) v
fits_one 𝓛 R L x v is = (subst (λ (τs : List Ty). Typed τs (v ∷ [])) L.one ((L.lawful 𝓛).typed x (v ∷ []) is)).0

abbrev pub word : Ptr → Val
word p = vstruct (vcons (ptr_val p) vnil)

abbrev pub pair : Ptr → Val → Val
pair p h = vstruct (vcons (ptr_val p) (vcons h vnil))

pub ptr_fits : (p : Ptr) → Fits ty_ptr (ptr_val p)
ptr_fits (block_ptr b o) = (tt, tt)
ptr_fits null_ptr = (tt, record { fits = lit< tt })

pub word_fits : (p : Ptr) → Fits (ty_struct [] (tcons ty_ptr tnil)) (word p)
word_fits (block_ptr b o) = (tt, (tt, tt))
word_fits null_ptr = (tt, (record { fits = lit< tt }, tt))

module _ (R : RattleType) where
  abbrev pub Holder : RattleType
  Holder = holder.the_row R

  module _ {M : Type 1} {𝓤 : Ura M} {𝓛 : Logic 𝓤} {K : Type 0} {Γ : List (Item 𝓤)} {G : Goal 𝓤 𝓛.H} where
    pub holder_out : K → (h : Holder.Denot) (vs : List Val) → (vs ≡ word h.at ∷ [] → Seq K 𝓛 (‵ (keeps R h.at h.held) ∷ Γ) G)
        → Seq K 𝓛 (‵ (Holder.own_val h vs) ∷ Γ) G
    holder_out t h vs next =
        fsplit t $ fpick t (λ parts. fsplit t $ feq_l t (λ whole. fsplit t $ feq_l t (λ first. drop t $
        next (subst (λ (us : List Val). vs ≡ vstruct (of_list (us ++ [])) ∷ []) first whole))))

    pub holder_in : K → (h : Holder.Denot) → Step K 𝓛 (‵ (Holder.own_val h (word h.at ∷ [])) ∷ Γ) G (‵ (keeps R h.at h.held) ∷ Γ) G
    holder_in t h = step (λ s.
        nothing t $ feq_i t (List Val) (ptr_val h.at ∷ []) (ptr_val h.at ∷ []) refl $ fjoin t $
        feq_i t (List Val) (word h.at ∷ []) (word h.at ∷ []) refl $ fjoin t $
        fpack t (Valss (RawPtr ∷ [])) (within (shape (holder.the_type R)) (h.at, tt) (word h.at ∷ [])) (ptr_val h.at ∷ [], tt) $ fjoin t $ s)

module _ {M : Type 1} {𝓤 : Ura M} {𝓛 : Logic 𝓤} {K : Type 0} {Γ : List (Item 𝓤)} {G : Goal 𝓤 𝓛.H} where
  -- a pointer whose block may be freed can be compared with null
  pub testable : K → (R : RattleType) (p : Ptr) (x : R.Denot) → (Testable p → Seq K 𝓛 (‵ (box_owns may_free R p x) ∷ Γ) G)
      → Seq K 𝓛 (‵ (box_owns may_free R p x) ∷ Γ) G
  testable t R p x next = let τ : Ty = bare (lone R.mir) in
      use1 𝓛 (given (Testable p) (‵ (box_owns may_free R p x))) (fact_use 𝓤 (Testable p)
      (via 𝓤 (sem 𝓛 (may_free τ p)) (snd∗ 𝓤 (sem 𝓛 (points_to R p x)) (sem 𝓛 (may_free τ p)))
      (dealloc_token-Testable 𝓛 (record { memory = record { seal = tt } }) τ p))
      (λ may. guard_i 𝓤 (Testable p) (sem 𝓛 (box_owns may_free R p x)) may)) $ learn t next

  -- whether a holder is closed is asked of its pointer
  pub tests : K → (R : RattleType) (p : Ptr) (x : Option R.Denot)
      → (Testable p → op2_val ptr_eq (ptr_val p) vnull ≡ vbool (not (is_some x)) → Seq K 𝓛 (‵ (keeps R p x) ∷ Γ) G) → Seq K 𝓛 (‵ (keeps R p x) ∷ Γ) G
  tests t R null_ptr None next = next (lit< tt) refl
  tests t R null_ptr (Some x) next =
      use1 𝓛 (given ⊥ (‵ ftrue)) (via 𝓤 (never 𝓤) (fst∗ 𝓤 (never 𝓤) (sem 𝓛 (may_free (bare (lone R.mir)) null_ptr))) (never_e 𝓤 _)) $ learn t (λ n. absurd n)
  tests t R (block_ptr b o) None next = feq_l t (λ n. absurd (subst (λ (p : Ptr). InBlock p) n tt))
  tests t R (block_ptr b o) (Some x) next = testable t R (block_ptr b o) x (λ may. next may refl)

  -- what a handle holds is what its holder keeps, and back
  pub keeps_of : K → (R : RattleType) (none : R.Denot) (p : Ptr) (y : Bool) (x : R.Denot)
      → ((held : Option R.Denot) → y ≡ is_some held → x ≡ unwrap_or held none → Seq K 𝓛 (‵ (keeps R p held) ∷ Γ) G) → Seq K 𝓛 (‵ (holds R none p y x) ∷ Γ) G
  keeps_of t R none p false x next = fsplit t $ move t (1 ∷ []) $ feq_l t (λ is. next None refl is)
  keeps_of t R none p true x next = next (Some x) refl refl

  pub holds_of : K → (R : RattleType) (none : R.Denot) (p : Ptr) (x : Option R.Denot)
      → Step K 𝓛 (‵ (holds R none p (is_some x) (unwrap_or x none)) ∷ Γ) G (‵ (keeps R p x) ∷ Γ) G
  holds_of t R none p None = step (λ s. feq_i t R.Denot none none refl $ move t (1 ∷ 0 ∷ []) $ fjoin t $ s)
  holds_of t R none p (Some x) = step (λ s. s)

  pub part_in : K → (R : RattleType) (x : R.Denot) (vs : List Val) (b o : ℕ)
      → Step K 𝓛 (‵ (part_at R full_share x b o) ∷ Γ) G (‵ (cell_at full_share R.mir vs b o) ∷ ‵ (R.own_val x vs) ∷ Γ) G
  unfolding part_of
  part_in t R x vs b o = step (λ s. fjoin t $ fpack t (List Val) (λ us. fsep (cell_at full_share R.mir us b o) (R.own_val x us)) vs $ s)

  -- what is owned of a value tells that it is one machine value
  pub tells : K → (R : RattleType) → Laws R → (x : R.Denot) (vs : List Val)
      → ((v : Val) → vs ≡ v ∷ [] → Fits (layout R) v → Seq K 𝓛 (‵ (R.own_val x (v ∷ [])) ∷ Γ) G) → Seq K 𝓛 (‵ (R.own_val x vs) ∷ Γ) G
  tells t R L x vs next = peeks t R (Is R) (shows 𝓛 R) x vs (λ is. let one = one_value 𝓛 R L x vs is in
      rewrite t 0 (λ (us : List Val). ‵ (R.own_val x us)) one.1.0 refl $ next one.0 one.1.0 one.1.1)

module _ (R A : RattleType) (L : Laws A) (g : Ghosts A.Denot) where
  abbrev pub Unboxed : RattleType
  Unboxed = unboxed.the_row R A g

  pub pair_fits : (p : Ptr) (a : Val) → Fits (layout A) a → Fits (ty_struct [] (tcons ty_ptr (tcons (layout A) tnil))) (pair p a)
  pair_fits (block_ptr b o) a fits = (and_true (has_ty (layout A) a) fits.0, (tt, (fits.1, tt)))
  pair_fits null_ptr a fits = (and_true (has_ty (layout A) a) fits.0, (record { fits = lit< tt }, (fits.1, tt)))

  module _ {M : Type 1} {𝓤 : Ura M} {𝓛 : Logic 𝓤} {K : Type 0} {Γ : List (Item 𝓤)} {G : Goal 𝓤 𝓛.H} where
    pub unboxed_out : K → (u : Unboxed.Denot) (vs : List Val)
        → ((a : Val) → vs ≡ pair u.pointer a ∷ [] → Fits (layout A) a
        → Seq K 𝓛 (‵ (box_owns (g.dealloc_token u.alloc) R u.pointer u.held) ∷ ‵ (A.own_val u.alloc (a ∷ [])) ∷ Γ) G)
        → Seq K 𝓛 (‵ (Unboxed.own_val u vs) ∷ Γ) G
    unboxed_out t u vs next =
        fsplit t $ fpick t (λ parts. fsplit t $ feq_l t (λ whole. fsplit t $ feq_l t (λ first. fsplit t $
        tells t A L u.alloc parts.1.0 (λ a second fits. move t (1 ∷ []) $ drop t $ move t (1 ∷ []) $
        next a (subst (λ (us : List Val). vs ≡ vstruct (of_list (ptr_val u.pointer ∷ (us ++ []))) ∷ []) second
        (subst (λ (us : List Val). vs ≡ vstruct (of_list (us ++ (parts.1.0 ++ []))) ∷ []) first whole)) fits))))

    pub unboxed_in : K → (u : Unboxed.Denot) (a : Val)
        → Step K 𝓛 (‵ (Unboxed.own_val u (pair u.pointer a ∷ [])) ∷ Γ) G
        (‵ (box_owns (g.dealloc_token u.alloc) R u.pointer u.held) ∷ ‵ (A.own_val u.alloc (a ∷ [])) ∷ Γ) G
    unboxed_in t u a = step (λ s. let v : Val = pair u.pointer a in
        nothing t $ move t (2 ∷ 0 ∷ []) $ fjoin t $ feq_i t (List Val) (ptr_val u.pointer ∷ []) (ptr_val u.pointer ∷ []) refl $ fjoin t $
        feq_i t (List Val) (v ∷ []) (v ∷ []) refl $ fjoin t $
        fpack t (Valss (RawPtr ∷ A ∷ [])) (within (shape (unboxed.the_type R A g)) (u.pointer, (u.alloc, tt)) (v ∷ []))
        (ptr_val u.pointer ∷ [], (a ∷ [], tt)) $ fjoin t $ s)

    -- the pair that a box was taken apart into
    pub tuple_out : K → (r : Ptr × A.Denot) (v : Val)
        → ((a : Val) → v ≡ pair r.0 a → Fits (layout A) a → Seq K 𝓛 (‵ (A.own_val r.1 (a ∷ [])) ∷ Γ) G)
        → Seq K 𝓛 (‵ ((Tuple (RawPtr ∷ A ∷ [])).own_val r (v ∷ [])) ∷ Γ) G
    tuple_out t r v next =
        fpick t (λ parts. fsplit t $ feq_l t (λ whole. fsplit t $ feq_l t (λ first. fsplit t $
        tells t A L r.1 parts.1.0 (λ a second fits. move t (1 ∷ []) $ drop t $
        next a (ap only (subst (λ (us : List Val). v ∷ [] ≡ vstruct (of_list (ptr_val r.0 ∷ (us ++ []))) ∷ []) second
        (subst (λ (us : List Val). v ∷ [] ≡ vstruct (of_list (us ++ (parts.1.0 ++ []))) ∷ []) first whole))) fits))))
