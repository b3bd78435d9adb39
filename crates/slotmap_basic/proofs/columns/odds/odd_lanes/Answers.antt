use Rattle.std.proofs.Common.{◌<◌, ◌≡◌, ◌^◌, ◌-◌, ◌%◌}
use Rattle.slotmap_basic.proofs.Common.{get_or_default_zero, length-map, bit_at_not, bitmask_splat, bit_mask_l, mask_l-lt, zip2_splat, get_or-map, replicate, ◌∙◌, odd_lane, bit_at, bit_not}
use Rattle.slotmap_basic.proofs.Common.{zip2, mask_l, ℕ, eqb, cond, map, get_or, length, subst, ap, arith, w32, w64, bit_and}
use Rattle.slotmap_basic.proofs.columns.odds.odd_lanes.Goals as goal

pub returns : goal.returns
returns c k l =
    let xs = c.args.lanes in
    let f = λ (x : ℕ). bit_and x 1 in
    let p = λ (x : ℕ). eqb x 0 in
    let masked : zip2 bit_and xs (replicate 64 1) ≡ map f xs = zip2_splat bit_and xs 64 1 c.fits-lanes.0 in
    let long : length (zip2 bit_and xs (replicate 64 1)) ≡ 64 = ap length masked ∙ length-map xs f ∙ c.fits-lanes.0 in
    let evens = mask_l (map p (map f xs)) in
    let many : length (map p (map f xs)) ≡ 64 = length-map (map f xs) p ∙ length-map xs f ∙ c.fits-lanes.0 in
    let below : evens < 2 ^ 64 = subst (λ n. evens < 2 ^ n) many (mask_l-lt (map p (map f xs))) in
    ap (λ n. bit_at (bit_not w64 n) k) (bitmask_splat w32 eqb (zip2 bit_and xs (replicate 64 1)) 64 0 long (omega arith) ∙ ap (λ ys. mask_l (map p ys)) masked)
    ∙ bit_at_not w64 evens k below l
    ∙ ap (λ b. 1 - b) (bit_mask_l (map p (map f xs)) k)
    ∙ ap (λ b. 1 - cond b 1 0) (get_or-map p (map f xs) k 1)
    ∙ ap (λ x. 1 - cond (eqb x 0) 1 0) (get_or-map f xs k 1)
    ∙ odd_lane (get_or xs k 1)
    ∙ ap (λ x. x % 2) (get_or_default_zero xs k 1 (omega (arith, c.fits-lanes.0)))
