use Rattle.std.proofs.Common.{◌≡◌}
use Rattle.slotmap_sparse.proofs.Common.{option_copied_mut, is_some, ◌∙◌, content_of, stands_at, found_none, well_formed, IsSound-through, content-through, IsSound-kept, content_kept}
use Rattle.slotmap_sparse.proofs.Common.{value_at, None, sym, ap, found_own}
use mathlib.Core.Logic.{inl, inr}
use Rattle.slotmap_sparse.proofs.SparseSecondaryMap.get_mut.Goals as goal

pub returns-in_default : goal.returns-in_default
returns-in_default g c =
    let k = g.K.Key.data_of c.args.key in
    let at = c.idx.ensures.value ∙ ap (λ k. k.index) c.data-key.ensures.value in
    let none = stands_at c.self.inside.slots _ c.self.view_is k _ at None (sym c.get_mut.ensures.value ∙ ap option_copied_mut c.in_default.is) in
    let same = ap content_of c.get_mut.follows.holds-at-none ∙ c.self.view_is in (
      λ i. inr (same i),
      record { writes_back = tt; value = sym (ap (value_at k.version) none); valid = well_formed c.self.inside.slots _ c.self.view_is c.self.invariant },
    )

pub invariant_of-self-then-slot-version : goal.invariant_of-self-then-slot-version
invariant_of-self-then-slot-version g c =
    IsSound-kept c.self.inside.slots _ c.self.invariant _ c.in-Some.slot.now (sym c.get_mut.ensures.value ∙ ap option_copied_mut c.in-Some.is) (c.get_mut.follows.holds c.in-Some.slot.now)

pub returns-then-slot-version : goal.returns-then-slot-version
returns-then-slot-version g c =
    let p = c.in-Some.slot.now in
    let at = c.idx.ensures.value ∙ ap (λ k. k.index) c.data-key.ensures.value in
    let stood = sym c.get_mut.ensures.value ∙ ap option_copied_mut c.in-Some.is in
    let other = λ (same : p.0 ≡ (g.K.Key.data_of c.args.key).version). c.if-slot-version.true (same ∙ sym (c.version.ensures.value ∙ ap (λ k. k.version) c.data-key.ensures.value)) in
    let none = found_none c.self.inside.slots _ c.self.view_is (g.K.Key.data_of c.args.key) _ at p stood other in
    let kept = content_kept c.self.inside.slots _ c.self.invariant _ p stood (c.get_mut.follows.holds p) ∙ c.self.view_is in (
      λ i. inr (kept i),
      record { writes_back = tt; value = sym none; valid = well_formed c.self.inside.slots _ c.self.view_is c.self.invariant },
    )

pub invariant_of-self-lent : goal.invariant_of-self-lent
invariant_of-self-lent g c w =
    let at = c.idx.ensures.value ∙ ap (λ k. k.index) c.data-key.ensures.value in
    IsSound-through _ _ c.self.invariant (g.K.Key.data_of c.args.key) _ at c.in-Some.slot.now w
    (sym c.get_mut.ensures.value ∙ ap option_copied_mut c.in-Some.is) (c.get_mut.follows.holds (c.in-Some.slot.now.0, w))

pub returns : goal.returns
returns g c =
    let k = g.K.Key.data_of c.args.key in
    let p = c.in-Some.slot.now in
    let at = c.idx.ensures.value ∙ ap (λ k. k.index) c.data-key.ensures.value in
    let stood = sym c.get_mut.ensures.value ∙ ap option_copied_mut c.in-Some.is in
    let found = found_own c.self.inside.slots _ c.self.view_is k _ at p stood (c.if-slot-version.false ∙ c.version.ensures.value ∙ ap (λ k. k.version) c.data-key.ensures.value) in (
      λ i. inl (c.slot-1.given, λ w. content-through _ _ c.self.invariant k _ at p w stood (c.get_mut.follows.holds (p.0, w)) _ c.self.view_is (ap is_some found) i),
      record { writes_back = tt; value = sym found; valid = well_formed c.self.inside.slots _ c.self.view_is c.self.invariant },
    )
