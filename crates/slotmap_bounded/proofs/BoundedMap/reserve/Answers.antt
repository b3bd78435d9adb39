use Rattle.slotmap_bounded.proofs.Bounds.{had_room, made, made_room, none_made, refused_room, refused_same}
use Rattle.std.proofs.Common.{refl, arith}
use Rattle.slotmap_bounded.proofs.BoundedMap.reserve.Goals as goal

pub returns-then-additional-self-clause-makes_room : goal.returns-then-additional-self-clause-makes_room
returns-then-additional-self-clause-makes_room g c = rw (← c.self.view_is) (had_room c.self.invariant c.args.additional _ refl c.if-additional-self.true)

pub returns-in-Ok-clause-makes_room : goal.returns-in-Ok-clause-makes_room
returns-in-Ok-clause-makes_room g c =
    rw (← c.self.view_is) (made_room c.self.invariant c.in-Ok.ensures.makes_room c.grown-more.ensures.enough (omega (arith, c.if-additional-self.false)) refl _ refl)

pub returns-in-Err-clause-makes_room : goal.returns-in-Err-clause-makes_room
returns-in-Err-clause-makes_room g c =
    rw (← c.self.view_is) (refused_room c.self.invariant c.in-Err.ensures.makes_room c.grown-more.ensures.enough (omega (arith, c.if-additional-self.false)) _ (λ h. absurd (cc)))

pub invariant_of-self : goal.invariant_of-self
invariant_of-self g c = made c.self.invariant c.in-Ok.ensures.makes_room c.grown-more.ensures.enough (omega (arith, c.if-additional-self.false)) refl

pub returns-in-Err-clause-unchanged : goal.returns-in-Err-clause-unchanged
returns-in-Err-clause-unchanged g c =
    rw (← c.self.view_is) (refused_same c.self.invariant c.in-Err.ensures.makes_room c.grown-more.ensures.enough (omega (arith, c.if-additional-self.false)))

pub returns-then-additional-used-clause-makes_room : goal.returns-then-additional-used-clause-makes_room
returns-then-additional-used-clause-makes_room g c =
    rw (← c.self.view_is) (none_made c.self.invariant c.args.additional _ (λ h. absurd (cc)) (omega (arith, c.if-additional-self.false)))
