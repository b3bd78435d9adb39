use Rattle.std.proofs.Common.{◌≡◌}
use Rattle.slotmap_scene.proofs.Common.{IsOk, arith, bound, bound_grows, rules}
use Rattle.slotmap_scene.proofs.Families.{covers_less, seen_len}
use Rattle.slotmap_scene.proofs.SceneSteps.{covered_kept, covered_seen, err_fails, family_room, fits_most, grown_kept, grown_seen, unroomed}
use Rattle.slotmap_scene.proofs.family.Nodes.reserve.Goals as goal

pub returns-in_err-capacity-clause-makes_room : goal.returns-in_err-capacity-clause-makes_room
returns-in_err-capacity-clause-makes_room g c = rw (← c.self.view_is)
    (unroomed c.self.invariant c.capacity_for.ensures.valid c.args.additional (IsOk c.from_residual.result)
    (err_fails c.from_residual.result c.from_residual.ensures.0) (λ more. let h = c.in_err-capacity.ensures.had_room more in cc))

pub returns-in_err-capacity-clause-err : goal.returns-in_err-capacity-clause-err
returns-in_err-capacity-clause-err g c = grind (arith, seen_len c.self.inside.values.live c.self.inside.parents.items c.self.inside.children)

pub invariant_of-self : goal.invariant_of-self
invariant_of-self g c = covered_kept c.self.invariant c.cover.new.parents.items c.cover.new.children c.cover.ensures.parents c.cover.ensures.children

pub returns-in_err-cover-clause-makes_room : goal.returns-in_err-cover-clause-makes_room
returns-in_err-cover-clause-makes_room g c = rw (← c.self.view_is)
    (covered_seen c.self.invariant c.cover.new.parents.items c.cover.new.children c.cover.ensures.parents c.cover.ensures.children
    c.capacity_for.ensures.valid c.args.additional (IsOk c.from_residual-in_err-cover.result)
    (err_fails c.from_residual-in_err-cover.result c.from_residual-in_err-cover.ensures.0)
    (λ more. let h = c.in_ok-capacity.ensures.had_room more in let same : c.in_ok-capacity.capacity ≡ bound c.self.inside.values = cc in
    let f = c.in_err-cover.ensures.had_room
    (covers_less (bound c.self.inside.values) c.in_ok-capacity.capacity c.self.inside.parents.items c.self.inside.children c.self.invariant.covered
    (omega arith)) in cc))

pub returns-in_err-cover-clause-err : goal.returns-in_err-cover-clause-err
returns-in_err-cover-clause-err g c =
    let fits = fits_most c.self.inside.values c.capacity_for.ensures.valid c.args.additional c.in_ok-capacity.capacity c.in_ok-capacity.ensures.value
    c.in_ok-capacity.ensures.limit in
    rw (← c.self.view_is, seen_len c.self.inside.values.live c.self.inside.parents.items c.self.inside.children) (search rules)

pub invariant_of-self-2 : goal.invariant_of-self-2
invariant_of-self-2 g c = grown_kept c.self.invariant c.reserve.new.self c.reserve.ensures.makes_room.keeps.live (bound_grows c.reserve.ensures.makes_room.keeps)
    c.cover.new.parents.items c.cover.new.children c.cover.ensures.parents c.cover.ensures.children
    (covers_less c.in_ok-capacity.capacity (bound c.reserve.new.self) c.cover.new.parents.items c.cover.new.children c.in_ok-cover.ensures.covers
    (let was = c.in_ok-capacity.ensures.value in let now = c.reserve.ensures.within in omega arith))

pub returns-clause-makes_room : goal.returns-clause-makes_room
returns-clause-makes_room g c = rw (← c.self.view_is)
    (family_room c.self.inside.values c.self.inside.parents.items c.self.inside.children c.reserve.new.self c.cover.new.parents.items c.cover.new.children
    (grown_seen c.self.invariant c.reserve.new.self c.reserve.ensures.makes_room.keeps.live (bound_grows c.reserve.ensures.makes_room.keeps) c.cover.new.parents.items
    c.cover.new.children c.cover.ensures.parents c.cover.ensures.children)
    c.args.additional _ c.reserve.ensures.makes_room)

pub returns-clause-err : goal.returns-clause-err
returns-clause-err g c = rw (← c.self.view_is, seen_len c.self.inside.values.live c.self.inside.parents.items c.self.inside.children) c.reserve.ensures.err
