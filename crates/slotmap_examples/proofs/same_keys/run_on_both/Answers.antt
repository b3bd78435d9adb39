use Rattle.std.proofs.Common.{sym, ◌∙◌}
use Rattle.slotmap_examples.proofs.same_keys.run_on_both.Goals as goal

pub returns : goal.returns
returns g c =
    let other = rw c.requires at c.in_ok-dense.ensures.last_freed_first in
    record { same_keys = λ basic first second. c.in_ok-basic.ensures.last_freed_first basic first ∙ sym (other basic second) }
