use Rattle.std.proofs.Common.{arith}
use Rattle.std.proofs.lemmas.List.{length-map}
use Rattle.slotmap_paths.proofs.Callers.{leads_to_each, one_at_most}
use Rattle.paths_callers.proofs.connected.is_strongly_connected.Goals as goal

pub returns : goal.returns
returns c =
    let found = c.in_ok-components.ensures in (
      λ is_one a b a_live b_live.
          leads_to_each _ a b _ (grind (arith, length-map, is_one)) found.each (grind (arith, found.once a, a_live)) (grind (arith, found.once b, b_live)),
      λ all. (let few = one_at_most _ _ found.each found.onward (λ x y x_there y_there. all x y (grind (arith, found.once x, x_there)) (grind (arith, found.once y, y_there))) in
          grind (arith, length-map, few)),
    )
