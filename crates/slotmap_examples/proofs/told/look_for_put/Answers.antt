use Rattle.std.proofs.Common.{◌∙◌, Some, arith, ap, refl, rules, slice_get}
use Rattle.slotmap.proofs.Callers.{put_found, stays_put, answered}
use Rattle.slotmap_examples.proofs.told.look_for_put.Goals as goal

pub value_found_at-requires : goal.value_found_at-requires
value_found_at-requires g c =
    let asked = c.in-Ok.ensures.items in
    let law = c.in-Ok-made.ensures.laws.reads in
    let get = ap (λ l. slice_get l 3) asked in
    let there = answered (λ k. k) _ _ _ _ 3 _ law get in
    let found = put_found (λ k. k) _ c.args.key 5 _ _ _ 0 3 _ _ _ there.0 law (omega arith) (stays_put _ _ _ 0 3 (rw asked (tt, (tt, tt))))
    (ap (λ l. slice_get l 0) asked) c.in_ok-has_key_at.ensures (refl, refl) get there.1 refl in
    (found.0, there.1 ∙ ap Some found.1)

pub returns : goal.returns
returns g c =
    let asked = c.in-Ok.ensures.items in
    let found = put_found (λ k. k) _ c.args.key 5 _ _ _ 0 3 _ _ _ _ c.in-Ok-made.ensures.laws.reads (omega arith) (stays_put _ _ _ 0 3 (rw asked (tt, (tt, tt))))
    (ap (λ l. slice_get l 0) asked) c.in_ok-has_key_at.ensures (refl, refl) (ap (λ l. slice_get l 3) asked) c.value_found_at.ensures refl in
    record { found = let said = found.2 in let same = found.1 in search rules }
