use Rattle.std.proofs.Common.{◌∙◌, Some, arith, ap, refl, rules, slice_get}
use Rattle.slotmap.proofs.Callers.{put_found, stays_put, answered}
use Rattle.slotmap_examples.proofs.told.take_replaced.Goals as goal

pub value_taken_at-requires : goal.value_taken_at-requires
value_taken_at-requires g c =
    let asked = c.in-Ok.ensures.items in
    let law = c.in-Ok-made.ensures.laws.reads in
    let detach = ap (λ l. slice_get l 3) asked in
    let there = answered (λ k. k) _ _ _ _ 3 _ law detach in (
      8,
      there.1 ∙ ap Some (put_found (λ k. k) _ c.args.key 8 _ _ _ 1 3 _ _ _ there.0 law (omega arith) (stays_put _ _ _ 1 3 (rw asked (tt, tt)))
          (ap (λ l. slice_get l 1) asked) c.in_ok-put_at.ensures (refl, refl) detach there.1 refl),
    )

pub returns : goal.returns
returns g c =
    let asked = c.in-Ok.ensures.items in
    let taken = put_found (λ k. k) _ c.args.key 8 _ _ _ 1 3 _ _ _ _ c.in-Ok-made.ensures.laws.reads (omega arith) (stays_put _ _ _ 1 3 (rw asked (tt, tt)))
    (ap (λ l. slice_get l 1) asked) c.in_ok-put_at.ensures (refl, refl) (ap (λ l. slice_get l 3) asked) c.value_taken_at.ensures refl in
    record { new = search rules }
