use Rattle.slotmap_lists.proofs.Common.{bound, false, true, refl, sym, ap, subst, ◌∙◌, arith, rules, alone-room, used_alone, Sequences}
use Rattle.slotmap.specs.Words.{MakesRoom, RefusesCapacity, used}
use Rattle.std.proofs.Common.{◌≡◌, ◌+◌}
use Rattle.slotmap_lists.proofs.Opening.{listed_alike}
use Rattle.slotmap_bounded.proofs.Results.{no_room_made, not_both, on_ok}
use Rattle.slotmap_lists.proofs.StableLists.reserve.Goals.{Then-is_err}
use Rattle.std.specs.FinMap as map
use Rattle.slotmap_lists.proofs.StableLists.reserve.Goals as goal

-- the links or the homes ran out of memory
stuck : (g : _) (c : Then-is_err g) → MakesRoom true c.self.inside.values c.args.additional (false ≡ true) c.self.inside.values
stuck g c =
    let covered = c.self.invariant.covered in
    no_room_made c.self.inside.values c.args.additional (false ≡ true) c.capacity_for.ensures.valid (λ ok. (cc)) (λ fits. absurd (
    let same : c.in_ok-capacity.capacity ≡ bound c.self.inside.values = (let is = sym c.in_ok-capacity.was ∙ c.capacity_for.ensures.had_room fits in cc) in
    not_both c.cover.result (c.cover.ensures.had_room (omega arith)) (search rules)))

pub returns-in_err-capacity-clause-makes_room : goal.returns-in_err-capacity-clause-makes_room
returns-in_err-capacity-clause-makes_room g c =
    rw (← c.self.view_is) (alone-room _ _ _ _ (no_room_made c.self.inside.values c.args.additional _ c.capacity_for.ensures.valid (λ ok. not_both _ ok c.from_residual.ensures.0)
    (λ fits. absurd (let is = sym c.in_err-capacity.was ∙ c.capacity_for.ensures.had_room fits in cc))))

pub returns-in_err-capacity-clause-err : goal.returns-in_err-capacity-clause-err
returns-in_err-capacity-clause-err g c = let over = rw c.in_err-capacity.was at c.capacity_for.ensures.err in
    let refused = subst (RefusesCapacity (used c.self.inside.values + c.args.additional)) (sym over.0) over.1 in
    rw (← c.self.view_is, used_alone c.self.inside.values) (search (rules, refused))

pub cover-requires-clause-long : goal.cover-requires-clause-long
cover-requires-clause-long g c = c.self.invariant.homes_long

pub invariant_of-self : goal.invariant_of-self
invariant_of-self g c = let covered = c.self.invariant.covered in let more = c.cover.ensures.more in
    listed_alike c.self.invariant c.self.inside.values (λ q. refl) _ c.cover.ensures.same c.cover.new.links c.cover.ensures.lists more c.cover.ensures.long (omega arith)

pub returns-then-is_err-clause-makes_room : goal.returns-then-is_err-clause-makes_room
returns-then-is_err-clause-makes_room g c = rw (← c.self.view_is) (alone-room _ _ _ _ (stuck g (goal.at.returns-then-is_err-clause-makes_room g c).Then-is_err))

pub returns-then-is_err-clause-err : goal.returns-then-is_err-clause-err
returns-then-is_err-clause-err g c = let many = used_alone c.self.inside.values in let same = ap (λ (s : Sequences g.row.T.Denot). used s.cursors) c.self.view_is in
    let value = c.in_ok-capacity.ensures.value in let limit = c.in_ok-capacity.ensures.limit in let fits = c.capacity_for.ensures.valid.room_fits in grind arith

pub invariant_of-self-2 : goal.invariant_of-self-2
invariant_of-self-2 g c = let long = on_ok c.cover.result c.cover.ensures.covers c.if-is_err.ensures.negation in let value = c.in_ok-capacity.ensures.value in let made = c.reserve.ensures.within in
    listed_alike c.self.invariant c.reserve.new.self (λ q. ap (λ m. map.contains_key m q) c.reserve.ensures.makes_room.keeps.live) _ c.cover.ensures.same c.cover.new.links
    c.cover.ensures.lists c.cover.ensures.more c.cover.ensures.long (omega arith)

pub returns-clause-makes_room : goal.returns-clause-makes_room
returns-clause-makes_room g c = rw (← c.self.view_is) (alone-room _ _ _ _ c.reserve.ensures.makes_room)

pub returns-clause-err : goal.returns-clause-err
returns-clause-err g c = rw (← c.self.view_is, used_alone c.self.inside.values) c.reserve.ensures.err
