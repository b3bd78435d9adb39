use Rattle.std.proofs.Common.{◌≡◌}
use Rattle.slotmap_basic.proofs.Common.{same_Some, slice_get_within, same_read, [], length, ap, arith, IsIter, pairs_left, Next, next_on, some_left, ends_at, IsIter-taken, left-taken}
use Rattle.slotmap_basic.proofs.into_iter.IntoIterIterator.next.Goals.{In_ok-index, In_err-index}
use Rattle.slotmap_basic.proofs.into_iter.IntoIterIterator.next.Goals as goal

next : (g : _) (c : In_ok-index g) → Next c.self.inside.versions.items c.self.inside.values.items c.self.inside.cursor.index c.self.inside.left c.in_ok-index.index
next g c = next_on c.self.invariant.0 c.deref.ensures.value c.in_ok-index.ensures.next (omega (arith, c.in_ok-index.ensures.ahead.behind.within, c.in_ok-index.ensures.on))

ended : (g : _) (c : In_err-index g) → (pairs_left c.self.inside.cursor.index c.self.inside.versions.items c.self.inside.values.items ≡ [])
    × IsIter c.self.inside.versions.items c.self.inside.values.items c.next.new.self.index c.self.inside.left
    × (pairs_left c.next.new.self.index c.self.inside.versions.items c.self.inside.values.items ≡ [])
ended g c = ends_at c.self.invariant.0 c.deref.ensures.value (omega (arith, c.self.invariant.1.behind.within, ap length c.deref.ensures.value)) c.in_err-index.ensures.none c.in_err-index.ensures.end

pub invariant_of-self : goal.invariant_of-self
invariant_of-self g c = ((ended g (goal.at.invariant_of-self g c).In_err-index).1, rw c.deref.ensures.value at c.in_err-index.ensures.ahead)

pub returns-in_err-index-clause-steps : goal.returns-in_err-index-clause-steps
returns-in_err-index-clause-steps g c = grind (arith, ended g (goal.at.returns-in_err-index-clause-steps g c).In_err-index, c.from_residual.ensures)

pub overflow_sub-self : goal.overflow_sub-self
overflow_sub-self g c = some_left c.self.invariant.0 (next g (goal.at.overflow_sub-self g c).In_ok-index)

pub index-version-requires : goal.index-version-requires
index-version-requires g c = grind (arith, next g (goal.at.index-version-requires g c).In_ok-index, slice_get_within)

pub exact-requires : goal.exact-requires
exact-requires g c =
    let n = next g (goal.at.exact-requires g c).In_ok-index in n.is_key _
    (same_read c.self.inside.versions.items c.in_ok-index.index _ _ c.index-version.ensures n.version_there) c.type_inv.version.fits

pub index_mut-requires : goal.index_mut-requires
index_mut-requires g c = grind (arith, next g (goal.at.index_mut-requires g c).In_ok-index, slice_get_within)

pub sure-requires : goal.sure-requires
sure-requires g c = grind (arith, next g (goal.at.sure-requires g c).In_ok-index, same_read)

pub invariant_of-self-2 : goal.invariant_of-self-2
invariant_of-self-2 g c = (rw c.in_ok-index.ensures.on (IsIter-taken _ _ _ _ _ (next g (goal.at.invariant_of-self-2 g c).In_ok-index).iter_on), rw c.deref.ensures.value at c.in_ok-index.ensures.ahead)

pub returns-clause-steps : goal.returns-clause-steps
returns-clause-steps g c = grind (arith, next g (goal.at.returns-clause-steps g c).In_ok-index, same_read, same_Some, left-taken, c.in_ok-index.ensures.on)

pub returns-clause-goes : goal.returns-clause-goes
returns-clause-goes g c = grind (arith, returns-clause-steps)

pub overflow_cast-index : goal.overflow_cast-index
overflow_cast-index g c =
    omega (arith, c.self.invariant.0.fits, slice_get_within c.self.inside.versions.items c.in_ok-index.index _ (next g (goal.at.overflow_cast-index g c).In_ok-index).version_there)
